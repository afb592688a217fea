-- Every run stays sound and goes on: what start accepts is sound, each accepted tick keeps it so, and t counts the accepted ticks. By induction on the calls.
use mathlib.Core.Path.{◌≡◌, refl, sym, ap, ◌∙◌}
use mathlib.Core.Bool.{Bool, true, false, false≢true, cond, not}
use mathlib.Core.List.{List, [], ◌∷◌}
use mathlib.Core.Logic.{◌↔◌}
use Prim.Native.Nat.{ℕ, ◌+◌, ◌<◌}
use native.Mathlib.Decide.{ℕ_discrete}
use native.Mathlib.Omega.{arith}
use lib.Dec.{eqb}
use lib.ListN.{length, get_or}
use borrow.Author.Tests.{eqb-true, eqb-false, leb-true}
use Rattle.rules.specs.declared.Tasks.{Tasks}
use Rattle.rules.specs.declared.State.{State}
use Rattle.rules.specs.Answers.{Used}
use Rattle.rules.specs.Words.{first_of}
use Rattle.rules.specs.State.{Shaped}
use Rattle.rules.specs.Limits.{most_ticks}
use Rattle.rules.specs.Choice.{speed_of}
use Rattle.rules.specs.Counting.{next_of}
use Rattle.rules.specs.Numbers.{all_done, now_number, tick_number}
use Rattle.rules.specs.Calls.{now_of, tick_of, energy_of}
use Rattle.rules.proofs.Soundness.{Sound, facts_sound}
use Rattle.rules.proofs.Loads.{some_carries}
use Rattle.rules.proofs.Fresh.{fresh_facts, fresh_shaped}
use Rattle.rules.proofs.CallRows.{all_done_lem, not_all_done, now_10, now_0, tick_10, tick_0, energy_accepted}
use Rattle.rules.proofs.Keeps.{taken_sound, taken_shaped}
use Rattle.promises.specs.Runs.{Table, Call, Step, Each, started, ticked, after, step_of, steps}
use Rattle.promises.specs.StaysSound.{InTurn, EveryRunStaysSound}
use Rattle.promises.proofs.StartLaws.{started_is, passed, tasks_count, start_done}
use Rattle.promises.proofs.GoesOn.{zeros_keep}
use Rattle.promises.proofs.RunLaws.{Taken, next, step_speed, by_steps, keeps_all}

-- a sound state, fact by fact, whose arrays have all their places
pub record SoundAndShaped (s : State) : Type 0 where
  pub facts : Sound s
  pub shape : Shaped s

-- an accepted tick keeps it so
pub sound_next : (s : State) (call : Call) → SoundAndShaped s → Taken s call → SoundAndShaped (next s call)
sound_next s call kept e =
    record {
      facts = taken_sound s call.report (length call.grants) kept.shape e;
      shape = taken_shaped s call.report (length call.grants) kept.shape e;
    }

-- what start accepts is so
pub sound_start : (table : Table) → (started table).number ≡ 0 → SoundAndShaped (started table).state
sound_start table e =
    rw (started_is table e)
    (record { facts = fresh_facts _ _ _ _ (passed table e); shape = fresh_shaped _ _ _ _ _ })

-- each accepted tick adds 1 to t
one_more : (s : State) (call : Call) (end : State) (xs : List Step) → SoundAndShaped s → Taken s call → end.done.0 ≡ (next s call).done.0 + length xs → end.done.0 ≡ s.done.0 + length (step_of s call ∷ xs)
unfolding next_of
one_more s call end xs kept e h = omega arith

pub ticks_done : (calls : List Call) (s : State) → SoundAndShaped s → (after s calls).done.0 ≡ s.done.0 + length (steps s calls)
ticks_done = by_steps SoundAndShaped sound_next (λ s end xs. end.done.0 ≡ s.done.0 + length xs) (λ s kept. omega arith) one_more

-- the steps are the run's ticks in turn, each at the speed that now tells
steps_in_turn : (calls : List Call) (s : State) → SoundAndShaped s → InTurn s.done.0 (steps s calls)
unfolding next_of step_of
steps_in_turn = by_steps SoundAndShaped sound_next (λ s end xs. InTurn s.done.0 xs) (λ s kept. tt) (λ s call end xs kept e rest. (refl, rest))

steps_at_speed : (calls : List Call) (s : State) → SoundAndShaped s → Each (λ (x : Step). x.speed ≡ speed_of x.before) (steps s calls)
steps_at_speed = by_steps SoundAndShaped sound_next (λ s end xs. Each (λ (x : Step). x.speed ≡ speed_of x.before) xs) (λ s kept. tt) at_speed
  where
    at_speed : (s : State) (call : Call) (end : State) (xs : List Step) → SoundAndShaped s → Taken s call → Each (λ (x : Step). x.speed ≡ speed_of x.before) xs → Each (λ (x : Step). x.speed ≡ speed_of x.before) (step_of s call ∷ xs)
    at_speed s call end xs kept e rest = (unfold step_of in step_speed s call e, rest)

-- a run keeps its tasks
pub same_tasks : (calls : List Call) (s : State) → SoundAndShaped s → (after s calls).tasks ≡ s.tasks
unfolding next_of
same_tasks = by_steps SoundAndShaped sound_next (λ s end xs. end.tasks ≡ s.tasks) (λ s kept. refl) (λ s call end xs kept e rest. rest)

-- rows do not give the number m where there are none, or where neither the first row nor the rest gives it
module _ (m : ℕ) where
  none_first : 0 < m → first_of [] ≡ m → ⊥
  unfolding first_of
  none_first some e = omega arith

  not_first : (b : Bool) (n : ℕ) (rows : List (Bool × ℕ)) → (b ≡ true → n ≡ m → ⊥) → (first_of rows ≡ m → ⊥) → first_of ((b, n) ∷ rows) ≡ m → ⊥
  unfolding first_of
  not_first true n rows here there e = here refl e
  not_first false n rows here there e = there e

-- what the calls answer of a sound state
module _ (s : State) (f : Sound s) where
  -- now: 10 where all ticks are done, and 0 before
  now_answers : (n : ℕ) → s.done.0 ≡ n → (now_of s).number ≡ cond (eqb n most_ticks) 10 0
  unfolding now_of
  now_answers n e = go (eqb n most_ticks) refl
    where
      go : (b : Bool) → eqb n most_ticks ≡ b → now_number s ≡ cond b 10 0
      go true t = now_10 s (facts_sound s f) (all_done_lem s (omega (arith, eqb-true n most_ticks t)))
      go false t = now_0 s (facts_sound s f) (not_all_done s before) (some_carries s f)
        where
          before : s.done.0 < most_ticks
          before = omega (arith, f.done_most, eqb-false n most_ticks t)

  energy_answers : (energy_of s).number ≡ 0
  energy_answers = ap (λ (r : Used). r.number) (sym (energy_accepted s (facts_sound s f)))

  -- tick: no number but 0, 10, 11 and 13, and 10 only where all ticks are done
  tick_answers : (call : Call) (m : ℕ) → 0 < m → (all_done s ≡ true → 10 ≡ m → ⊥) → (11 ≡ m → ⊥) → (13 ≡ m → ⊥) → (ticked s call).number ≡ m → ⊥
  unfolding ticked tick_of tick_number
  tick_answers call m some not-10 not-11 not-13 =
      not_first m _ 9 _ (λ t e. false≢true (sym (ap not (facts_sound s f)) ∙ t))
      (not_first m _ 10 _ not-10
      (not_first m _ 11 _ (λ t. not-11)
      (not_first m _ 12 _ (λ t e. false≢true (sym (some_carries s f) ∙ t))
      (not_first m _ 13 _ (λ t. not-13) (none_first m some)))))

  module _ (n : ℕ) (done : s.done.0 ≡ n) (call : Call) where
    tick_ends : ((ticked s call).number ≡ 10) ↔ (n ≡ most_ticks)
    unfolding ticked tick_of all_done
    tick_ends = (λ e. at_end e (ℕ_discrete n most_ticks), λ e. tick_10 s call.report (length call.grants) (facts_sound s f) (all_done_lem s (omega (arith, done))))
      where
        at_end : (ticked s call).number ≡ 10 → Dec (n ≡ most_ticks) → n ≡ most_ticks
        at_end e (yes q) = q
        at_end e (no q) =
            absurd (tick_answers call 10 (omega arith) (λ t z. q (omega (arith, done, f.done_most, leb-true most_ticks s.done.0 t))) (λ z. omega arith) (λ z. omega arith) e)

    -- before that, a report of zeros of the right length is accepted
    tick_goes_on : n < most_ticks → length call.report ≡ s.tasks.count → length call.grants ≡ s.tasks.count → ((i : ℕ) → get_or call.report i 0 ≡ 0) → (ticked s call).number ≡ 0
    unfolding ticked tick_of
    tick_goes_on l r g zeros =
        tick_0 s call.report (length call.grants) (facts_sound s f) (not_all_done s (omega (arith, done))) r g (some_carries s f)
        (zeros_keep call.report zeros s (speed_of s))

-- A run never meets 9, nor 12, and goes on to its last tick.
pub every_run_sound : EveryRunStaysSound
unfolding EveryRunStaysSound
every_run_sound table e calls =
    let first = (started table).state in
    let start = sound_start table e in
    let last = after first calls in
    let kept : SoundAndShaped last = keeps_all SoundAndShaped sound_next calls first start in
    let f = kept.facts in
    let n = length (steps first calls) in
    let done : last.done.0 ≡ n = omega (arith, ticks_done calls first start, start_done table e) in
    let places : last.tasks.count ≡ length table.periods = ap (λ (ts : Tasks). ts.count) (same_tasks calls first start) ∙ tasks_count table e in
    record {
      is_sound = facts_sound last f;
      is_shaped = kept.shape;
      in_turn = rw (start_done table e) at (steps_in_turn calls first start);
      at_speed = steps_at_speed calls first start;
      now_number_lem = now_answers last f n done;
      energy_number_lem = energy_answers last f;
      tick_never_9 = λ call. tick_answers last f call 9 (omega arith) (λ t z. omega arith) (λ z. omega arith) (λ z. omega arith);
      tick_never_12 = λ call. tick_answers last f call 12 (omega arith) (λ t z. omega arith) (λ z. omega arith) (λ z. omega arith);
      tick_10 = tick_ends last f n done;
      goes_on = λ call l r g zeros. tick_goes_on last f n done call l (r ∙ sym places) (g ∙ sym places) zeros;
    }
