-- For a sound state the total answers of this crate are rules 1 to 3: no deadline passes the largest count, and every task and speed has its place.
use mathlib.Core.Path.{◌≡◌, refl, ap, ◌∙◌}
use mathlib.Core.Bool.{true, cond}
use mathlib.Core.List.{List, [], ◌∷◌}
use Prim.Native.Nat.{ℕ, ◌+◌, ◌-◌, ◌%◌, ◌≤◌, ◌<◌, min}
use native.Mathlib.Omega.{arith}
use lib.Dec.{ltb}
use borrow.Author.Tests.{lt-ltb, ne_eqb}
use Rattle.units.specs.Units.{ticks, most_count}
use Rattle.rules.specs.declared.State.{State}
use Rattle.rules.specs.Words.{up_to, every}
use Rattle.rules.specs.Limits.{most_tasks, most_period, most_speeds, most_ticks}
use Rattle.rules.specs.State.{job_at, period_at, speed_at, speeds_of}
use Rattle.rules.specs.Load.{deadline, carries}
use Rattle.rules.specs.Choice.{deadline_at, ready_at, order_by, order_of, chosen, choice_of, lowest, load_of, fits_of, speed_place}
use Rattle.rules.proofs.Lists.{get_d_up_to}
use Rattle.rules.proofs.Orders.{head_below, order_below, order_same}
use Rattle.rules.proofs.Soundness.{Sound}
use Rattle.choosing.specs.Choosing.{due_by, dues_of, due_in, ready_in, order_in, first_in, choice_in}

-- rule 1 at a place: a period from 1 to 1,000,000 and at most 1,000,000,000 ticks give a deadline that can be written
due_is : (t p : ℕ) → 1 ≤ p → p ≤ most_period → t ≤ most_ticks → due_by t p ≡ t + p - t % p
unfolding due_by
due_is t p a b h = rw (ne_eqb p 0 some) (small (t % p))
  where
    some : p ≡ 0 → ⊥
    some z = omega arith

    small : (r : ℕ) → min (t + p - r) most_count ≡ t + p - r
    small r = omega arith

-- the order holds tasks of the table only
pub order_tasks : (s : State) → every (λ i. ltb i s.tasks.count) (order_of s) ≡ true
unfolding order_of
order_tasks s = order_below (deadline_at s) (ready_at s) s.tasks.count

module _ (s : State) (sound : Sound s) where
  -- rule 1: each task's deadline
  pub dues_are : (i : ℕ) → i < s.tasks.count → due_in (dues_of s.done.0 s.tasks) i ≡ deadline_at s i
  unfolding due_in dues_of deadline_at deadline job_at period_at
  dues_are i h =
      let ts = s.tasks in
      let t = s.done.0 in
      let place : i < most_tasks = omega (arith, sound.tasks_most) in
      ap (λ x. x.0) (get_d_up_to most_tasks (λ k. ticks (cond (ltb k ts.count) (due_by t (period_at ts k)) 0)) i (ticks 0) place)
      ∙ rw (lt-ltb i ts.count h) (due_is t (period_at ts i) (sound.period_some i h) (sound.period_most i h) sound.done_most)

  -- rule 3: the order, the choice, and the place of the speed
  pub order_is : order_in (dues_of s.done.0 s.tasks) s.jobs s.tasks.count ≡ order_of s
  unfolding order_in order_of ready_in ready_at job_at
  order_is =
      let d = dues_of s.done.0 s.tasks in
      let n = s.tasks.count in
      let few : min n most_tasks ≡ n = omega (arith, sound.tasks_most) in
      ap (order_by (due_in d) (ready_in s.jobs)) few
      ∙ order_same (due_in d) (deadline_at s) (ready_in s.jobs) (ready_at s) n dues_are (λ i l. refl)

  -- the first of the order is a task of the table, so its deadline too is rule 1's
  first_is : (o : List ℕ) → every (λ i. ltb i s.tasks.count) o ≡ true → first_in (dues_of s.done.0 s.tasks) o ≡ chosen s o
  unfolding first_in chosen
  first_is [] e = refl
  first_is (i ∷ o) e = rw (dues_are i (head_below s.tasks.count i o e))

  pub choice_is : choice_in (dues_of s.done.0 s.tasks) s.jobs s.tasks.count ≡ choice_of s
  unfolding choice_in choice_of
  choice_is = ap (first_in (dues_of s.done.0 s.tasks)) order_is ∙ first_is (order_of s) (order_tasks s)

  pub place_is : lowest (λ x. carries x s.tasks.great.0 (load_of s)) (up_to (min s.ladder.count most_speeds) (speed_at s.ladder)) ≡ speed_place s
  unfolding speed_place fits_of speeds_of
  place_is =
      let few : min s.ladder.count most_speeds ≡ s.ladder.count = omega (arith, sound.speeds_most) in
      ap (λ n. lowest (fits_of s) (up_to n (speed_at s.ladder))) few
