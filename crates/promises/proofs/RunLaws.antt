-- Runs by their accepted ticks: a refused call changes nothing, so what each accepted tick keeps, every run keeps. By induction on the calls.
use mathlib.Core.Path.{◌≡◌, refl, sym, ap, ◌∙◌}
use mathlib.Core.Bool.{Bool, true, false, cond}
use mathlib.Core.List.{List, [], ◌∷◌}
use lib.Dec.{eqb}
use lib.ListN.{length, get_or}
use borrow.Author.Tests.{eqb-true, eqb-false}
use Rattle.units.specs.Units.{cycles}
use Rattle.rules.specs.declared.State.{State}
use Rattle.rules.specs.declared.Settling.{Settling}
use Rattle.rules.specs.Answers.{Ticked}
use Rattle.rules.specs.Answers.{Told}
use Rattle.rules.specs.Words.{up_to}
use Rattle.rules.specs.Choice.{speed_place, speed_of}
use Rattle.rules.specs.Settlement.{settled}
use Rattle.rules.specs.Counting.{next_of}
use Rattle.rules.specs.Numbers.{now_number, tick_number}
use Rattle.rules.specs.Calls.{tick_of}
use Rattle.rules.proofs.CallRows.{Accepted, accepted, not_all_done, now_0, now_accepted, tick_refused, tick_accepted, grants_written}
use Rattle.rules.proofs.Soundness.{facts_sound}
use Rattle.rules.proofs.Loads.{some_carries}
use Rattle.promises.specs.Runs.{Call, Step, ticked, after, step_of, steps}

-- what an accepted tick settles, and the state after it
abbrev pub outcome : State → Call → Settling
outcome s call = settled s (speed_of s) call.report

abbrev pub next : State → Call → State
next s call = next_of s (speed_place s) (outcome s call)

-- tick answers 0
abbrev pub Taken : State → Call → Type 0
Taken s call = tick_number s call.report (length call.grants) ≡ 0

module _ (s : State) (call : Call) (e : Taken s call) where
  -- every test of tick passed
  pub tests_passed : Accepted s call.report (length call.grants)
  tests_passed = accepted s call.report (length call.grants) e

  -- now answers 0 too, and the step has the speed that the tick is settled at
  now_is_0 : now_number s ≡ 0
  now_is_0 =
      let f = tests_passed.is_sound in
      now_0 s (facts_sound s f) (not_all_done s tests_passed.room) (some_carries s f)

  pub step_speed : (step_of s call).speed ≡ speed_of s
  unfolding step_of
  step_speed = ap (λ (r : Told). r.speed.0) (sym (now_accepted s now_is_0))

  -- its grants are the settlement's, one for each task
  pub step_grants : (step_of s call).grants ≡ up_to s.tasks.count (λ i. (get_or (outcome s call).grants i (cycles 0)).0)
  unfolding step_of
  step_grants = sym (grants_written s call.report call.grants e)

  taken_next : (ticked s call).state ≡ next s call
  unfolding ticked
  taken_next = ap (λ (r : Ticked). r.state) (sym (tick_accepted s call.report (length call.grants) e))

-- a call that is refused gives back the state
module _ (s : State) (call : Call) where
  number_is : (ticked s call).number ≡ tick_number s call.report (length call.grants)
  unfolding ticked tick_of
  number_is = refl

  refused_same : eqb (ticked s call).number 0 ≡ false → (ticked s call).state ≡ s
  unfolding ticked
  refused_same e = ap (λ (r : Ticked). r.state) (sym (tick_refused s call.report (length call.grants) (ticked s call).number (eqb-false _ 0 e) (sym number_is)))

  is_taken : eqb (ticked s call).number 0 ≡ true → Taken s call
  is_taken e = sym number_is ∙ eqb-true (ticked s call).number 0 e

-- a run of accepted ticks from one state to another: what holds with none and goes on with each, where the states keep an invariant
module _ (Inv : State → Type 0) (keeps : (s : State) (call : Call) → Inv s → Taken s call → Inv (next s call)) where
  pub by_steps : (Q : State → State → List Step → Type 0) → ((s : State) → Inv s → Q s s []) → ((s : State) (call : Call) (end : State) (xs : List Step) → Inv s → Taken s call → Q (next s call) end xs → Q s end (step_of s call ∷ xs)) → (calls : List Call) (s : State) → Inv s → Q s (after s calls) (steps s calls)
  unfolding after steps
  by_steps Q none more [] s inv = none s inv
  by_steps Q none more (call ∷ calls) s inv = go (eqb (ticked s call).number 0) refl (λ (t : State) (i : Inv t). by_steps Q none more calls t i)
    where
      go : (b : Bool) → eqb (ticked s call).number 0 ≡ b → ((t : State) → Inv t → Q t (after t calls) (steps t calls)) → Q s (after (ticked s call).state calls) (cond b (step_of s call ∷ steps (ticked s call).state calls) (steps (ticked s call).state calls))
      go true e rest =
          let t : Taken s call = is_taken s call e in
          rw (taken_next s call t) (more s call (after (next s call) calls) (steps (next s call) calls) inv t (rest (next s call) (keeps s call inv t)))
      go false e rest = rw (refused_same s call e) (rest s inv)

  -- the invariant itself
  pub keeps_all : (calls : List Call) (s : State) → Inv s → Inv (after s calls)
  keeps_all calls s inv = by_steps (λ s e xs. Inv e) (λ s i. i) (λ s call end xs i t q. q) calls s inv
