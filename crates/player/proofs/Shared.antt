-- An accepted tick shares its speed out: the grants of the tasks and what is left come to the speed that now tells. By rule 4's settlement, and since places past the tasks get nothing.
use mathlib.Core.Path.{◌≡◌, refl, sym, ap, ◌∙◌}
use mathlib.Core.Bool.{true, not}
use mathlib.Core.List.{List, [], ◌∷◌}
use Prim.Native.Nat.{ℕ, zero, suc, ◌+◌, ◌-◌, ◌≤◌, ◌<◌}
use native.Mathlib.Nat.{add-zero, add-suc}
use native.Mathlib.Omega.{arith}
use lib.Dec.{eqb}
use lib.ListN.{get_or}
use borrow.Author.Tests.{eqb-false, not-true}
use Rattle.units.specs.Units.{cycles}
use Rattle.units.specs.declared.Cycles.{Cycles}
use Rattle.rules.specs.declared.Tasks.{Tasks}
use Rattle.rules.specs.declared.Settling.{Settling}
use Rattle.rules.specs.declared.State.{State}
use Rattle.rules.specs.Answers.{Ticked}
use Rattle.rules.specs.Answers.{Told}
use Rattle.rules.specs.Words.{up_to, total, every}
use Rattle.rules.specs.Limits.{most_tasks, most_speed}
use Rattle.rules.specs.State.{Shaped}
use Rattle.rules.specs.Choice.{deadline_at, ready_at, order_of, speed_of}
use Rattle.rules.specs.Settlement.{settle_at, settle_all, at_tick_start, settled}
use Rattle.rules.specs.Counting.{counted, next_of}
use Rattle.rules.specs.Numbers.{tick_number}
use Rattle.rules.specs.Calls.{now_of, tick_of}
use Rattle.rules.proofs.Lists.{get_d_up_to, up_to_get_d, every_first, every_rest}
use Rattle.rules.proofs.Totals.{total_places, total_last}
use Rattle.rules.proofs.Orders.{above_absent, order_below}
use Rattle.rules.proofs.Soundness.{facts_sound}
use Rattle.rules.proofs.Loads.{some_carries, speed_of_most, top_limit}
use Rattle.rules.proofs.CallRows.{Accepted, accepted, not_all_done, now_0, now_accepted, tick_accepted}
use Rattle.rules.proofs.Settles.{Settles, grants_sum, grant_elsewhere}
use Rattle.rules.proofs.Keeps.{jobs_right, settles, entries_allowed}

-- a sum over n places whose later ones hold nothing is the sum over the first m
sum_first : (f : ℕ → ℕ) (m k : ℕ) → ((i : ℕ) → m ≤ i → i < m + k → f i ≡ 0) → total f (up_to (m + k) (λ i. i)) ≡ total f (up_to m (λ i. i))
sum_first f m zero none = rw (add-zero m)
sum_first f m (suc k) none =
    let rest = sum_first f m k (λ i l h. none i l (omega arith)) in
    let last : f (m + k) ≡ 0 = none (m + k) (omega arith) (omega arith) in
    ap (λ n. total f (up_to n (λ i. i))) (add-suc m k) ∙ omega (arith, rest, last, total_last f (m + k))

-- a task that is not in the order keeps its grant
grant_kept : (ts : Tasks) (report : List ℕ) (k : ℕ) (o : List ℕ) (sofar : Settling) → every (λ i. not (eqb i k)) o ≡ true → (get_or (settle_all ts report o sofar).grants k (cycles 0)).0 ≡ (get_or sofar.grants k (cycles 0)).0
unfolding settle_all
grant_kept ts report k [] sofar n = refl
grant_kept ts report k (i ∷ o) sofar n =
    grant_kept ts report k o (settle_at ts i (get_or report i 0) sofar) (every_rest (λ x. not (eqb x k)) i o n)
    ∙ grant_elsewhere ts i (get_or report i 0) sofar k differs
  where
    differs : k ≡ i → ⊥
    differs e = eqb-false i k (not-true (eqb i k) (every_first (λ x. not (eqb x k)) i o n)) (sym e)

-- the grants of a settlement, one for each task
unfoldable pub shares_of : State → List ℕ → List ℕ
shares_of s report = up_to s.tasks.count (λ i. (get_or (settled s (speed_of s) report).grants i (cycles 0)).0)

module _ (s : State) (report : List ℕ) (places : ℕ) (shape : Shaped s) (e : tick_number s report places ≡ 0) where
  taken : Accepted s report places
  taken = accepted s report places e

  settles_so : Settles s.tasks s.jobs s.tasks.count (speed_of s) [] (settled s (speed_of s) report)
  settles_so = settles s (jobs_right s taken.is_sound shape) (speed_of s) report (entries_allowed s report places shape e)

  none_past : (k : ℕ) → s.tasks.count ≤ k → k < most_tasks → (get_or (settled s (speed_of s) report).grants k (cycles 0)).0 ≡ 0
  unfolding settled order_of at_tick_start
  none_past k l m =
      grant_kept s.tasks report k (order_of s) (at_tick_start s.jobs (speed_of s)) (above_absent s.tasks.count k l (order_of s) (order_below (deadline_at s) (ready_at s) s.tasks.count))
      ∙ ap (λ (g : Cycles). g.0) (get_d_up_to most_tasks (λ i. cycles 0) k (cycles 0) m)

  granted_is : total (λ g. g) (shares_of s report) ≡ grants_sum (settled s (speed_of s) report)
  unfolding shares_of
  granted_is =
      let at : ℕ → ℕ = λ i. (get_or (settled s (speed_of s) report).grants i (cycles 0)).0 in
      let n = s.tasks.count in
      let most : n + (most_tasks - n) ≡ most_tasks = omega (arith, taken.is_sound.tasks_most) in
      total_places (λ g. g) at n
      ∙ sym (sum_first at n (most_tasks - n) (λ i l h. none_past i l (omega arith)))
      ∙ ap (λ m. total at (up_to m (λ i. i))) most
      ∙ sym (total_places (λ (g : Cycles). g.0) (λ i. get_or (settled s (speed_of s) report).grants i (cycles 0)) most_tasks)
      ∙ ap (total (λ (g : Cycles). g.0)) (up_to_get_d (settled s (speed_of s) report).grants most_tasks (cycles 0) settles_so.grants)

  -- the grants and what is left are the speed
  pub speed_shared : total (λ g. g) (shares_of s report) + (settled s (speed_of s) report).left.0 ≡ speed_of s
  speed_shared = omega (arith, granted_is, settles_so.shared)

  -- which is one of the table
  pub speed_most : speed_of s ≤ most_speed
  speed_most = omega (arith, speed_of_most s taken.is_sound, top_limit s taken.is_sound)

  -- and the one that now tells
  pub speed_told : (now_of s).speed.0 ≡ speed_of s
  speed_told =
      let f = taken.is_sound in
      let zero-now = now_0 s (facts_sound s f) (not_all_done s taken.room) (some_carries s f) in
      sym (ap (λ (r : Told). r.speed.0) (now_accepted s zero-now))

  -- what is left is added to the idle count
  pub idle_after : (tick_of s report places).state.tally.idle.0 ≡ s.tally.idle.0 + (settled s (speed_of s) report).left.0
  unfolding next_of counted
  idle_after = sym (ap (λ (r : Ticked). r.state.tally.idle.0) (tick_accepted s report places e))
