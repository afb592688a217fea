-- What a verdict says of the answer that it is of: its number is start's, its great period the table's, and no two answers give one verdict.
use mathlib.Core.Path.{◌≡◌, sym, ap, ◌∙◌}
use mathlib.Core.List.{List}
use Prim.Native.Nat.{ℕ}
use Rattle.std.specs.Prelude.{Result, Ok, Err}
use Rattle.units.specs.declared.Ticks.{Ticks}
use Rattle.refusals.specs.declared.Refusal.{Refusal}
use Rattle.refusals.specs.Refusals.{number_of}
use Rattle.rules.specs.Admission.{great_of}
use Rattle.rules.specs.Numbers.{start_number}
use Rattle.rules.proofs.Answered.{number-not_0, number-one}
use Rattle.admission.specs.Verdict.{Verdict, verdict_of, judged}

module _ (ps cs ss vs : List ℕ) where
  -- of a refusal, and of a great period
  pub refusal_number : (r : Refusal) → judged (Err r) ≡ verdict_of ps cs ss vs → start_number ps cs ss vs ≡ number_of r
  unfolding judged verdict_of
  refusal_number r e = sym (ap (λ (v : Verdict). v.number) e)

  pub no_number : (great : Ticks) → judged (Ok great) ≡ verdict_of ps cs ss vs → start_number ps cs ss vs ≡ 0
  unfolding judged verdict_of
  no_number great e = sym (ap (λ (v : Verdict). v.number) e)

  pub great_found : (great : Ticks) → judged (Ok great) ≡ verdict_of ps cs ss vs → great.0 ≡ great_of ps
  unfolding judged verdict_of
  great_found great e = ap (λ (v : Verdict). v.great.0) e ∙ rw (no_number great e)

pub judged-one : (a b : Result Ticks Refusal) → judged a ≡ judged b → a ≡ b
unfolding judged
judged-one (Ok s) (Ok t) e = ap (λ (v : Verdict). Ok v.great) e
judged-one (Ok s) (Err r) e = absurd (number-not_0 r (sym (ap (λ (v : Verdict). v.number) e)))
judged-one (Err q) (Ok t) e = absurd (number-not_0 q (ap (λ (v : Verdict). v.number) e))
judged-one (Err q) (Err r) e = ap Err (number-one q r (ap (λ (v : Verdict). v.number) e))
