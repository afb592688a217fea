-- The ready jobs settled turn by turn: those that wait, settled from what is settled so far, come to the whole order, settled from the tick's start.
use mathlib.Core.Path.{◌≡◌, sym, ap, ◌∙◌}
use mathlib.Core.Bool.{Bool, true, false, false≢true, cond, ◌&&◌}
use mathlib.Core.List.{List, []}
use Prim.Native.Nat.{ℕ, ◌+◌, ◌-◌, ◌≤◌, ◌<◌, min}
use native.Mathlib.Decide.{dec_lt}
use native.Mathlib.Omega.{arith}
use lib.Dec.{eqb, ltb}
use lib.ListN.{length, get_or, set, get_or-eq_default}
use lib.Seq.{get_or-set_other}
use borrow.Author.Tests.{not-true}
use Rattle.std.specs.Prelude.{Some, None}
use Rattle.units.specs.declared.Cycles.{Cycles}
use Rattle.units.specs.Units.{cycles}
use Rattle.rules.specs.declared.Tasks.{Tasks}
use Rattle.rules.specs.declared.Jobs.{Jobs}
use Rattle.rules.specs.declared.Dues.{Dues}
use Rattle.rules.specs.declared.Ready.{Ready}
use Rattle.rules.specs.declared.Settling.{Settling}
use Rattle.rules.specs.Words.{up_to, every}
use Rattle.rules.specs.Limits.{most_tasks}
use Rattle.rules.specs.State.{job_at}
use Rattle.rules.specs.Settlement.{allowed, is_cut, settle_at, settle_all, all_allowed, over_entries_zero, at_tick_start}
use Rattle.rules.proofs.Lists.{both_right, and-false, get_d_up_to, length-up_to}
use Rattle.rules.proofs.Orders.{order_short}
use Rattle.choosing.specs.Choosing.{due_in, ready_in, order_in, ready_of, waits_in, waiting_in}
use Rattle.choosing.proofs.Waiting.{First, ready_long, ready_waits, waiting_all, waiting_marked, unmarked_here, unmarked_other}
use Rattle.settlement.specs.declared.shares.Share.{Share}
use Rattle.settlement.specs.Settled.{lawful_in}
use Rattle.settlement.specs.Parts.{share_of, rest_zero}
use Rattle.settlement.proofs.Steps.{stored, share_none, part_allowed, part_stored}
use Rattle.settlement.proofs.Spent.{Untouched, spent_allowed, spent_settled}
use Rattle.settlement.proofs.Marks.{rest_is}

-- so much is settled, and these wait: the jobs cut and those that wait are at most sixteen
pub record Going (ts : Tasks) (report : List ℕ) (js : Jobs) (d : Dues) (speed : ℕ) (w : Ready) (sofar : Settling) : Type 0 where
  pub few : sofar.cut + length (waiting_in d w ts.count) ≤ most_tasks
  pub untouched : Untouched (waits_in w) sofar
  pub lawful : all_allowed ts report (order_in d js ts.count) (at_tick_start js speed) ≡ all_allowed ts report (waiting_in d w ts.count) sofar
  pub outcome : settle_all ts report (order_in d js ts.count) (at_tick_start js speed) ≡ settle_all ts report (waiting_in d w ts.count) sofar

-- all is settled: whether no entry breaks rule 4 is a matter of the entries that must be 0
pub record Ended (ts : Tasks) (report : List ℕ) (js : Jobs) (d : Dues) (speed : ℕ) (w : Ready) (sofar : Settling) : Type 0 where
  pub lawful : lawful_in ts js (order_in d js ts.count) speed report ≡ rest_zero js w ts.count report
  pub outcome : settle_all ts report (order_in d js ts.count) (at_tick_start js speed) ≡ sofar

-- at the start those that are ready wait, and nothing is stored at any place
started_unmarked : (js : Jobs) (n i : ℕ) → waits_in (ready_of js n) i ≡ true → get_or js.over i false ≡ false
unfolding ready_in waits_in
started_unmarked js n i e = go (dec_lt i most_tasks)
  where
    go : Dec (i < most_tasks) → get_or js.over i false ≡ false
    go (yes h) = not-true _ (both_right (ltb i n) (ready_in js i) (sym (ready_waits js n i h) ∙ e))
    go (no h) = absurd (false≢true (sym (get_or-eq_default (ready_of js n).at false {n = i} (rw (ready_long js n) (omega arith))) ∙ e))

started_unpaid : (n i : ℕ) → get_or (up_to n (λ k. cycles 0)) i (cycles 0) ≡ cycles 0
started_unpaid n i = go (dec_lt i n)
  where
    go : Dec (i < n) → get_or (up_to n (λ k. cycles 0)) i (cycles 0) ≡ cycles 0
    go (yes h) = get_d_up_to n (λ k. cycles 0) i (cycles 0) h
    go (no h) = get_or-eq_default (up_to n (λ k. cycles 0)) (cycles 0) {n = i} (rw (length-up_to n (λ k. cycles 0)) (omega arith))

-- at most one more is cut
cut_one : (ts : Tasks) (i u : ℕ) (sofar : Settling) → (settle_at ts i u sofar).cut ≤ sofar.cut + 1
unfolding settle_at
cut_one ts i u sofar = go (is_cut sofar.left.0 u (job_at ts sofar.jobs i))
  where
    go : (b : Bool) → sofar.cut + cond b 1 0 ≤ sofar.cut + 1
    go true = omega arith
    go false = omega arith

-- what is stored at the place whose mark is taken off leaves the others that wait as they were
untouched_on : (w : Ready) (sofar : Settling) (i : ℕ) (part : Share) (run left : Cycles) (cut : ℕ) → Untouched (waits_in w) sofar → Untouched (waits_in (record { at = set w.at i false })) (stored sofar i part run left cut)
untouched_on w sofar i part run left cut u =
    record {
      unmarked = λ k e. get_or-set_other sofar.jobs.over i k part.over false (other k e) ∙ u.unmarked k (still k e);
      unpaid = λ k e. get_or-set_other sofar.grants i k part.given (cycles 0) (other k e) ∙ u.unpaid k (still k e);
    }
  where
    other : (k : ℕ) → waits_in (record { at = set w.at i false }) k ≡ true → k ≡ i → ⊥
    other k e z = false≢true (sym (unmarked_here w i) ∙ ap (waits_in (record { at = set w.at i false })) (sym z) ∙ e)

    still : (k : ℕ) → waits_in (record { at = set w.at i false }) k ≡ true → waits_in w k ≡ true
    still k e = sym (unmarked_other w i k (other k e)) ∙ e

module _ (ts : Tasks) (report : List ℕ) (js : Jobs) (d : Dues) (speed : ℕ) where
  pub going_start : Going ts report js d speed (ready_of js ts.count) (at_tick_start js speed)
  unfolding at_tick_start waiting_in
  going_start =
      record {
        few = omega (arith, order_short (due_in d) (waits_in (ready_of js ts.count)) (min ts.count most_tasks));
        untouched = record { unmarked = started_unmarked js ts.count; unpaid = λ i e. started_unpaid most_tasks i };
        lawful = rw (waiting_all d js ts.count);
        outcome = rw (waiting_all d js ts.count);
      }

  module _ (w : Ready) (sofar : Settling) (g : Going ts report js d speed w sofar) where
    -- one turn for the first job that waits: with rule 4's part it goes on, and with none it stops
    module _ (i : ℕ) (first : First d w ts.count i) where
      pub going_on : (part : Share) → share_of sofar.left.0 (get_or report i 0) (job_at ts sofar.jobs i) ≡ Some part → (cut : ℕ) → cut ≡ sofar.cut + cond part.cut 1 0
          → Going ts report js d speed (record { at = set w.at i false }) (stored sofar i part (cycles ((job_at ts sofar.jobs i).run.0 + part.given.0)) (cycles (sofar.left.0 - part.given.0)) cut)
      unfolding all_allowed settle_all
      going_on part shared cut counted =
          let u = get_or report i 0 in
          let fine : allowed sofar.left.0 u (job_at ts sofar.jobs i) ≡ true = part_allowed ts sofar i u part shared in
          let is : stored sofar i part (cycles ((job_at ts sofar.jobs i).run.0 + part.given.0)) (cycles (sofar.left.0 - part.given.0)) cut ≡ settle_at ts i u sofar = part_stored ts sofar i u part shared cut counted in
          record {
            few = omega (arith, g.few, cut_one ts i u sofar, ap (λ (x : Settling). x.cut) is, ap length first.rest);
            untouched = untouched_on w sofar i part (cycles ((job_at ts sofar.jobs i).run.0 + part.given.0)) (cycles (sofar.left.0 - part.given.0)) cut g.untouched;
            lawful = g.lawful ∙ rw (first.rest, fine, is);
            outcome = g.outcome ∙ rw (first.rest, is);
          }

      pub going_stop : share_of sofar.left.0 (get_or report i 0) (job_at ts sofar.jobs i) ≡ None → lawful_in ts js (order_in d js ts.count) speed report ≡ false
      unfolding lawful_in all_allowed
      going_stop broken =
          and-false (over_entries_zero ts js report) (all_allowed ts report (order_in d js ts.count) (at_tick_start js speed))
          (g.lawful ∙ rw (first.rest, share_none sofar.left.0 (get_or report i 0) (job_at ts sofar.jobs i) broken))

    -- the end: nothing is left, or none waits any more
    module _ (long : length js.over ≡ most_tasks) where
      ended : all_allowed ts report (waiting_in d w ts.count) sofar ≡ every (λ i. eqb (get_or report i 0) 0) (waiting_in d w ts.count) → settle_all ts report (waiting_in d w ts.count) sofar ≡ sofar → Ended ts report js d speed w sofar
      unfolding lawful_in
      ended zeros same =
          record {
            lawful = ap (λ b. over_entries_zero ts js report && b) (g.lawful ∙ zeros) ∙ sym (rest_is ts js report long d w);
            outcome = g.outcome ∙ same;
          }

      pub going_spent : sofar.left.0 ≡ 0 → Ended ts report js d speed w sofar
      going_spent none =
          let marked = waiting_marked d w ts.count in
          ended
          (spent_allowed ts sofar none report (waits_in w) g.untouched (waiting_in d w ts.count) marked)
          (spent_settled ts sofar none report (waits_in w) g.untouched (waiting_in d w ts.count) marked)

      pub going_through : waiting_in d w ts.count ≡ [] → Ended ts report js d speed w sofar
      unfolding all_allowed settle_all every
      going_through none = ended (rw none) (rw none)
