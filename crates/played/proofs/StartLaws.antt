-- What start's answer brings into a run: accepted, a sound state at tick 0 with all the places of its arrays; refused, a number from 1 to 8.
use mathlib.Core.Path.{◌≡◌}
use mathlib.Core.Bool.{Bool, true, false}
use mathlib.Core.List.{List, [], ◌∷◌}
use Prim.Native.Nat.{ℕ, ◌≤◌}
use native.Mathlib.Omega.{arith}
use lib.ListN.{length}
use Rattle.rules.specs.Words.{up_to, total, first_of}
use Rattle.rules.specs.State.{Shaped}
use Rattle.rules.specs.Admission.{great_of}
use Rattle.rules.specs.Numbers.{start_number, sound}
use Rattle.rules.specs.Calls.{tasks_from, ladder_from, fresh_tally, fresh_state, start_of}
use Rattle.rules.proofs.Fresh.{fresh_shaped, start_sound}
use Rattle.rules.proofs.CallRows.{start_is}
use Rattle.played.specs.Promised.{counted_in}

-- rows give at most m where the first one and the rest do
first_most : (m : ℕ) (b : Bool) (n : ℕ) (rows : List (Bool × ℕ)) → n ≤ m → first_of rows ≤ m → first_of ((b, n) ∷ rows) ≤ m
unfolding first_of
first_most m true n rows here there = here
first_most m false n rows here there = there

-- no row gives 0
none_most : (m : ℕ) → first_of [] ≤ m
unfolding first_of
none_most m = omega arith

module _ (ps cs ss vs : List ℕ) where
  -- start's numbers are 0 to 8
  pub start_most : (start_of ps cs ss vs).number ≤ 8
  unfolding start_of start_number
  start_most =
      first_most 8 _ 1 _ (omega arith)
      (first_most 8 _ 2 _ (omega arith)
      (first_most 8 _ 3 _ (omega arith)
      (first_most 8 _ 4 _ (omega arith)
      (first_most 8 _ 5 _ (omega arith)
      (first_most 8 _ 6 _ (omega arith)
      (first_most 8 _ 7 _ (omega arith)
      (first_most 8 _ 8 _ (omega arith) (none_most 8))))))))

  -- accepted, the fresh state of the table
  module _ (e : (start_of ps cs ss vs).number ≡ 0) where
    fresh : (start_of ps cs ss vs).state ≡ fresh_state (tasks_from (great_of ps) ps cs) (ladder_from ss vs)
    fresh = start_is ps cs ss vs e

    -- it is sound, and its arrays have all their places
    pub start_is_sound : sound (start_of ps cs ss vs).state ≡ true
    unfolding start_of
    start_is_sound = start_sound ps cs ss vs e

    pub start_is_shaped : Shaped (start_of ps cs ss vs).state
    start_is_shaped = rw fresh (fresh_shaped (great_of ps) ps cs ss vs)

    -- no tick is done
    pub start_done : (start_of ps cs ss vs).state.done.0 ≡ 0
    unfolding fresh_state
    start_done = rw fresh

    -- it has as many tasks as there are periods
    pub start_count : (start_of ps cs ss vs).state.tasks.count ≡ length ps
    unfolding fresh_state tasks_from
    start_count = rw fresh

    -- and nothing is counted
    pub start_counted : counted_in (start_of ps cs ss vs).state ≡ 0
    unfolding fresh_state fresh_tally total up_to
    start_counted = rw fresh

    pub start_idle : (start_of ps cs ss vs).state.tally.idle.0 ≡ 0
    unfolding fresh_state fresh_tally
    start_idle = rw fresh
