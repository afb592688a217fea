-- One answer: no two answers of tick, and no two of step, say the same, so two that one contract sets equal to one thing are equal. By cases.
use mathlib.Core.Path.{◌≡◌, sym, ap, ◌∙◌}
use Rattle.std.specs.Prelude.{Result, Ok, Err}
use Rattle.refusals.specs.declared.Refusal.{Refusal}
use Rattle.rules.specs.declared.State.{State}
use Rattle.rules.specs.Answers.{Ticked}
use Rattle.rules.specs.Calls.{ticked_by}
use Rattle.rules.proofs.Answered.{number-not_0, number-one, ticked-one}
use Rattle.stepping.specs.declared.Stepped.{Stepped}
use Rattle.stepping.specs.Stepped.{Change, stepped_by}

pub one_tick : (s : State) (a b : Result State Refusal) (x : Ticked) → ticked_by s a ≡ x → ticked_by s b ≡ x → a ≡ b
one_tick s a b x e f = ticked-one s a b (e ∙ sym f)

pub one_step : (s : State) (a b : Result Stepped Refusal) (x : Change) → stepped_by s a ≡ x → stepped_by s b ≡ x → a ≡ b
unfolding stepped_by
one_step s (Ok d) (Ok g) x e f = ap (λ (z : Change). Ok (record { done = z.done; jobs = z.jobs; tally = z.tally })) (e ∙ sym f)
one_step s (Ok d) (Err r) x e f = absurd (number-not_0 r (sym (ap (λ (z : Change). z.number) (e ∙ sym f))))
one_step s (Err q) (Ok g) x e f = absurd (number-not_0 q (ap (λ (z : Change). z.number) (e ∙ sym f)))
one_step s (Err q) (Err r) x e f = ap Err (number-one q r (ap (λ (z : Change). z.number) (e ∙ sym f)))
