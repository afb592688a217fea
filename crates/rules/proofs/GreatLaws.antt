-- The great period of a state: each period divides it, and it is not 0. By the laws of the least common multiple.
use mathlib.Core.Path.{◌≡◌, sym, subst}
use Prim.Native.Nat.{ℕ, ◌*◌, ◌/◌, ◌≤◌, ◌<◌, ◌∣◌}
use native.Mathlib.Nat.{div-mul_cancel}
use lib.ListN.{length, get_or}
use Rattle.divisors.proofs.DivisorLaws.{all_each, all_pos}
use Rattle.rules.specs.declared.State.{State}
use Rattle.rules.specs.State.{period_at, periods_of}
use Rattle.rules.specs.Admission.{great_of}
use Rattle.rules.proofs.Lists.{get_d_up_to}
use Rattle.rules.proofs.Soundness.{length_periods}

module _ (s : State) where
  period_listed : (i : ℕ) → i < s.tasks.count → get_or (periods_of s.tasks) i 0 ≡ period_at s.tasks i
  unfolding periods_of
  period_listed i h = get_d_up_to s.tasks.count (period_at s.tasks) i 0 h

  -- of any table
  pub period_divides : (i : ℕ) → i < s.tasks.count → period_at s.tasks i ∣ great_of (periods_of s.tasks)
  unfolding great_of
  period_divides i h = rw (period_listed i h) at (all_each (periods_of s.tasks) i (rw (length_periods s) h))

  -- of a state whose H it is
  module _ (right : s.tasks.great.0 ≡ great_of (periods_of s.tasks)) where
    pub divides_great : (i : ℕ) → i < s.tasks.count → period_at s.tasks i ∣ s.tasks.great.0
    divides_great i h = subst (λ (x : ℕ). period_at s.tasks i ∣ x) (sym right) (period_divides i h)

    pub great_whole : (i : ℕ) → i < s.tasks.count → s.tasks.great.0 / period_at s.tasks i * period_at s.tasks i ≡ s.tasks.great.0
    great_whole i h = div-mul_cancel (period_at s.tasks i) (divides_great i h)

    pub great_some : ((i : ℕ) → i < s.tasks.count → 1 ≤ period_at s.tasks i) → 1 ≤ s.tasks.great.0
    unfolding great_of
    great_some period_some = rw right (all_pos (periods_of s.tasks) some)
      where
        some : (k : ℕ) → k < length (periods_of s.tasks) → 1 ≤ get_or (periods_of s.tasks) k 0
        some k l =
            let h : k < s.tasks.count = rw (length_periods s) at l in
            rw (period_listed k h) (period_some k h)
