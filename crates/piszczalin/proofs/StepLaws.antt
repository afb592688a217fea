-- The calls of a plain state by whether its marks are good: refused with 9, or the call of its state; and a tick's state put into bytes again.
use mathlib.Core.Path.{◌≡◌, sym, ap, ◌∙◌}
use mathlib.Core.Bool.{true}
use mathlib.Core.List.{List}
use Prim.Native.Nat.{ℕ}
use Rattle.std.proofs.Common.{Result, Ok, Err, subst}
use Rattle.refusals.specs.declared.Refusal.{Refusal}
use Rattle.refusals.specs.Refusals.{number_of}
use Rattle.rules.specs.declared.Jobs.{Jobs}
use Rattle.rules.specs.State.{state_from}
use Rattle.rules.specs.Calls.{grants_of, ticked_by}
use Rattle.stepping.specs.declared.Stepped.{Stepped}
use Rattle.stepping.specs.Stepped.{stepped_by, stepped_of}
use Rattle.stepping.proofs.TickLaws.{tick_by}
use Rattle.piszczalin.specs.declared.PlainState.{PlainState}
use Rattle.piszczalin.specs.Plain.{marks_good, state_of, plain_state_of}
use Rattle.piszczalin.specs.Parts.{jobs_of_plain, plain_after, plain_answer}
use Rattle.piszczalin.specs.Calls.{plain_ticked, plain_tick, plain_grants}
use Rattle.piszczalin.proofs.PlainLaws.{plain_back, tick_good, grants_good}

module _ (s : PlainState) where
  -- a refused tick gives the plain state back, an accepted one the next, its jobs put into bytes
  module _ (good : marks_good s ≡ true) (report : List ℕ) (places : ℕ) where
    kept_plain : (r : Refusal) → stepped_by (state_of s) (Err r) ≡ stepped_of (state_of s) report places → record { number = number_of r; state = s } ≡ plain_tick s report places
    unfolding plain_ticked ticked_by
    kept_plain r h =
        ap (λ (x : PlainState). record { number = number_of r; state = x }) (sym (plain_back s good))
        ∙ ap plain_ticked (tick_by (state_of s) report places (Err r) h)
        ∙ tick_good s good report places

    next_plain : (step : Stepped) → stepped_by (state_of s) (Ok step) ≡ stepped_of (state_of s) report places → plain_answer 0 (plain_after s step) ≡ plain_tick s report places
    unfolding plain_ticked ticked_by plain_state_of state_of
    next_plain step h = ap plain_ticked (tick_by (state_of s) report places (Ok step) h) ∙ tick_good s good report places

    module _ (js : Jobs) (is : js ≡ jobs_of_plain s.jobs) where
      pub kept_from : (answer : Result Stepped Refusal) (r : Refusal) → answer ≡ Err r → stepped_by (state_from s.done s.tasks js s.ladder s.tally) answer ≡ stepped_of (state_from s.done s.tasks js s.ladder s.tally) report places → record { number = number_of r; state = s } ≡ plain_tick s report places
      unfolding state_of
      kept_from answer r e h =
          let P : Jobs → Type 0 = λ j. stepped_by (state_from s.done s.tasks j s.ladder s.tally) (Err r) ≡ stepped_of (state_from s.done s.tasks j s.ladder s.tally) report places in
          let Q : Result Stepped Refusal → Type 0 = λ a. stepped_by (state_from s.done s.tasks js s.ladder s.tally) a ≡ stepped_of (state_from s.done s.tasks js s.ladder s.tally) report places in
          kept_plain r (subst P is (subst Q e h))

      pub next_from : (answer : Result Stepped Refusal) (step : Stepped) → answer ≡ Ok step → stepped_by (state_from s.done s.tasks js s.ladder s.tally) answer ≡ stepped_of (state_from s.done s.tasks js s.ladder s.tally) report places → plain_answer 0 (plain_after s step) ≡ plain_tick s report places
      unfolding state_of
      next_from answer step e h =
          let P : Jobs → Type 0 = λ j. stepped_by (state_from s.done s.tasks j s.ladder s.tally) (Ok step) ≡ stepped_of (state_from s.done s.tasks j s.ladder s.tally) report places in
          let Q : Result Stepped Refusal → Type 0 = λ a. stepped_by (state_from s.done s.tasks js s.ladder s.tally) a ≡ stepped_of (state_from s.done s.tasks js s.ladder s.tally) report places in
          next_plain step (subst P is (subst Q e h))

  pub grants_from : (good : marks_good s ≡ true) (report grants after : List ℕ) (js : Jobs) → js ≡ jobs_of_plain s.jobs → after ≡ grants_of (state_from s.done s.tasks js s.ladder s.tally) report grants → after ≡ plain_grants s report grants
  unfolding state_of
  grants_from good report grants after js is g =
      g ∙ ap (λ (j : Jobs). grants_of (state_from s.done s.tasks j s.ladder s.tally) report grants) is ∙ grants_good s good report grants
