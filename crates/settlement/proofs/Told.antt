-- What a settlement answers and writes, by whether an entry breaks rule 4: nothing, or the whole order settled, with each job's cycles in the grants list.
use mathlib.Core.Path.{◌≡◌, ap}
use mathlib.Core.Bool.{true, false, cond}
use mathlib.Core.List.{List}
use Prim.Native.Nat.{ℕ, ◌≤◌}
use native.Mathlib.Omega.{arith}
use borrow.Author.Tests.{lt-ltb}
use lib.ListN.{length, get_or}
use Rattle.std.specs.Prelude.{Some, None}
use Rattle.units.specs.Units.{cycles}
use Rattle.units.specs.declared.Cycles.{Cycles}
use Rattle.rules.specs.declared.Tasks.{Tasks}
use Rattle.rules.specs.declared.Jobs.{Jobs}
use Rattle.rules.specs.declared.Settling.{Settling}
use Rattle.rules.specs.Words.{up_to}
use Rattle.rules.specs.Limits.{most_tasks}
use Rattle.rules.specs.Settlement.{settle_all, at_tick_start}
use Rattle.rules.proofs.Lists.{up_to-ext}
use Rattle.settlement.specs.Settled.{lawful_in, outcome_in, settled_of, paid, granted_of}

module _ (ts : Tasks) (js : Jobs) (order : List ℕ) (speed : ℕ) (report : List ℕ) where
  -- no entry breaks rule 4
  module _ (lawful : lawful_in ts js order speed report ≡ true) where
    pub settled-lawful :
        let o : Settling = settle_all ts report order (at_tick_start js speed) in
        settled_of ts js order speed report ≡ Some (record { jobs = o.jobs; left = o.left; cut = o.cut })
    unfolding settled_of outcome_in
    settled-lawful = rw lawful

    pub grants_paid : (grants : List ℕ) → granted_of ts js order speed report grants ≡ paid (settle_all ts report order (at_tick_start js speed)).grants grants
    unfolding granted_of outcome_in
    grants_paid grants = rw lawful

  -- one does
  module _ (broken : lawful_in ts js order speed report ≡ false) where
    pub settled_refused : settled_of ts js order speed report ≡ None
    unfolding settled_of outcome_in
    settled_refused = rw broken

    pub grants_stay : (grants : List ℕ) → granted_of ts js order speed report grants ≡ grants
    unfolding granted_of
    grants_stay grants = rw broken

-- a list of at most 16 places is written whole
pub paid_whole : (given : List Cycles) (grants : List ℕ) → length grants ≤ most_tasks → paid given grants ≡ up_to (length grants) (λ i. (get_or given i (cycles 0)).0)
unfolding paid
paid_whole given grants h =
    up_to-ext (length grants) _ _
    (λ k l. ap (λ b. cond b (get_or given k (cycles 0)).0 (get_or grants k 0)) (lt-ltb k most_tasks (omega arith)))
