-- What a run adds to each speed's count and to idle: a tick's settlement shares its speed out to grants and to what is left. By the accepted ticks.
use mathlib.Core.Path.{◌≡◌, sym, ap, ◌∙◌}
use mathlib.Core.Bool.{cond}
use mathlib.Core.List.{List, []}
use Prim.Native.Nat.{ℕ, ◌+◌, ◌-◌, ◌≤◌, ◌<◌}
use native.Mathlib.Decide.{ℕ_discrete, dec_lt}
use native.Mathlib.Omega.{arith}
use lib.Dec.{eqb}
use lib.ListN.{length, get_or}
use borrow.Author.Tests.{eq-eqb, ne_eqb}
use Rattle.units.specs.Units.{cycles}
use Rattle.units.specs.declared.Cycles.{Cycles}
use Rattle.rules.specs.declared.State.{State}
use Rattle.rules.specs.Words.{total}
use Rattle.rules.specs.Limits.{most_tasks}
use Rattle.rules.specs.State.{count_at, speed_at}
use Rattle.rules.specs.Choice.{deadline_at, ready_at, order_of, speed_place, speed_of}
use Rattle.rules.specs.Settlement.{at_tick_start, settled}
use Rattle.rules.specs.Counting.{counted, next_of}
use Rattle.rules.proofs.Lists.{up_to_get_d}
use Rattle.rules.proofs.Totals.{total_places}
use Rattle.rules.proofs.Counted.{counted_here, counted_elsewhere}
use Rattle.rules.proofs.Orders.{above_absent, order_below}
use Rattle.rules.proofs.Settles.{Settles, grants_sum}
use Rattle.rules.proofs.Keeps.{jobs_right, settles, entries_allowed}
use Rattle.rules.proofs.Loads.{place_below, speed_of_at, speed_order}
use Rattle.promises.specs.Runs.{Call, Step, Each, step_of, steps, after, granted}
use Rattle.promises.specs.Counts.{granted_at}
use Rattle.promises.proofs.RunLaws.{outcome, next, Taken, step_speed, step_grants, by_steps}
use Rattle.ontime.proofs.Sums.{sum_short}
use Rattle.promises.proofs.SettledPlaces.{grant_at, none_granted, grant_kept}
use Rattle.promises.proofs.SoundRuns.{SoundAndShaped, sound_next}

-- one accepted tick
module _ (s : State) (call : Call) (kept : SoundAndShaped s) (e : Taken s call) where
  settles_so : Settles s.tasks s.jobs s.tasks.count (speed_of s) [] (outcome s call)
  settles_so =
      settles s (jobs_right s kept.facts kept.shape) (speed_of s) call.report
      (entries_allowed s call.report (length call.grants) kept.shape e)

  -- the places past the tasks get nothing
  none_past : (k : ℕ) → s.tasks.count ≤ k → k < most_tasks → grant_at (outcome s call) k ≡ 0
  unfolding settled order_of
  none_past k l m =
      let start = at_tick_start s.jobs (speed_of s) in
      grant_kept s.tasks call.report k (order_of s) start (above_absent s.tasks.count k l (order_of s) (order_below (deadline_at s) (ready_at s) s.tasks.count))
      ∙ none_granted s.jobs (speed_of s) k m

  -- so the step's grants come to what its settlement grants,
  granted_is : granted (step_of s call) ≡ grants_sum (outcome s call)
  unfolding granted
  granted_is =
      ap (total (λ g. g)) (step_grants s call e)
      ∙ total_places (λ g. g) (grant_at (outcome s call)) s.tasks.count
      ∙ sym (sum_short (grant_at (outcome s call)) s.tasks.count most_tasks kept.facts.tasks_most none_past)
      ∙ sym (total_places (λ (g : Cycles). g.0) (λ i. get_or (outcome s call).grants i (cycles 0)) most_tasks)
      ∙ ap (total (λ (g : Cycles). g.0)) (up_to_get_d (outcome s call).grants most_tasks (cycles 0) settles_so.grants)

  -- and with what is left to the tick's speed
  speed_shared : granted (step_of s call) + (outcome s call).left.0 ≡ (step_of s call).speed
  speed_shared = omega (arith, granted_is, settles_so.shared, step_speed s call e)

  within_speed : granted (step_of s call) ≤ (step_of s call).speed
  within_speed = omega (arith, speed_shared)

  -- the count of its speed, and the others
  pub count_here : count_at (next s call).tally (speed_place s) ≡ count_at s.tally (speed_place s) + granted (step_of s call)
  unfolding next_of count_at
  count_here =
      let listed = place_below s kept.facts in
      let has-place : speed_place s < length s.tally.counts = omega (arith, kept.shape.counts, kept.facts.speeds_most) in
      counted_here s.tally (speed_place s) (outcome s call) has-place
      ∙ ap (λ g. count_at s.tally (speed_place s) + g) (sym granted_is)

  pub count_elsewhere : (k : ℕ) → (k ≡ speed_place s → ⊥) → count_at (next s call).tally k ≡ count_at s.tally k
  unfolding next_of count_at
  count_elsewhere k ne = counted_elsewhere s.tally (speed_place s) (outcome s call) k ne

  -- its speed stands at that place, and at no other
  pub step_speed_at : (step_of s call).speed ≡ speed_at s.ladder (speed_place s)
  step_speed_at = step_speed s call e ∙ speed_of_at s kept.facts

  speed_only : (k : ℕ) → k < s.ladder.count → (k ≡ speed_place s → ⊥) → (step_of s call).speed ≡ speed_at s.ladder k → ⊥
  speed_only k l ne same = go (dec_lt k (speed_place s))
    where
      go : Dec (k < speed_place s) → ⊥
      go (yes b) = omega (arith, step_speed_at, speed_order s kept.facts k (speed_place s) b (place_below s kept.facts))
      go (no b) = omega (arith, step_speed_at, speed_order s kept.facts (speed_place s) k (omega arith) l)

  count_tick : (k : ℕ) → k < s.ladder.count → count_at (next s call).tally k ≡ count_at s.tally k + cond (eqb (step_of s call).speed (speed_at s.ladder k)) (granted (step_of s call)) 0
  count_tick k l = go (ℕ_discrete k (speed_place s))
    where
      go : Dec (k ≡ speed_place s) → count_at (next s call).tally k ≡ count_at s.tally k + cond (eqb (step_of s call).speed (speed_at s.ladder k)) (granted (step_of s call)) 0
      go (yes q) = rw (q, eq-eqb _ _ step_speed_at) count_here
      go (no ne) = rw (ne_eqb _ _ (speed_only k l ne)) (omega (arith, count_elsewhere k ne))

  idle_tick : (next s call).tally.idle.0 ≡ s.tally.idle.0 + ((step_of s call).speed - granted (step_of s call))
  unfolding next_of counted
  idle_tick = omega (arith, speed_shared)

-- a run: by its accepted ticks
pub all_within : (calls : List Call) (s : State) → SoundAndShaped s → Each (λ (x : Step). granted x ≤ x.speed) (steps s calls)
all_within =
    by_steps SoundAndShaped sound_next (λ s end xs. Each (λ (x : Step). granted x ≤ x.speed) xs)
    (λ s kept. tt)
    (λ s call end xs kept e rest. (within_speed s call kept e, rest))

pub counts_run : (calls : List Call) (s : State) → SoundAndShaped s → (k : ℕ) → k < s.ladder.count → count_at (after s calls).tally k ≡ count_at s.tally k + granted_at (speed_at s.ladder k) (steps s calls)
unfolding granted_at total next_of
counts_run =
    by_steps SoundAndShaped sound_next
    (λ s end xs. (k : ℕ) → k < s.ladder.count → count_at end.tally k ≡ count_at s.tally k + granted_at (speed_at s.ladder k) xs)
    (λ s kept k l. omega arith)
    (λ s call end xs kept e rest k l. omega (arith, rest k l, count_tick s call kept e k l))

pub idle_run : (calls : List Call) (s : State) → SoundAndShaped s → (after s calls).tally.idle.0 ≡ s.tally.idle.0 + total (λ (x : Step). x.speed - granted x) (steps s calls)
unfolding total
idle_run =
    by_steps SoundAndShaped sound_next
    (λ s end xs. end.tally.idle.0 ≡ s.tally.idle.0 + total (λ (x : Step). x.speed - granted x) xs)
    (λ s kept. omega arith)
    (λ s call end xs kept e rest. omega (arith, rest, idle_tick s call kept e))
