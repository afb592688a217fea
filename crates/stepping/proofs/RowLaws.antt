-- The rows 9 to 12 of a tick: where one of 9 to 11 applies its number is tick's own, and where none does, what they ask; and row 12 by the place that was found.
use mathlib.Core.Path.{◌≡◌, refl, ap}
use mathlib.Core.Bool.{Bool, true, false, cond, not, ◌&&◌}
use mathlib.Core.List.{List, [], ◌∷◌}
use Prim.Native.Nat.{ℕ, ◌<◌}
use lib.Dec.{eqb}
use lib.ListN.{length}
use borrow.Author.Tests.{eqb-true, leb-false}
use Rattle.std.proofs.Common.{Result, Ok, Err, Option, Some, None}
use Rattle.units.specs.Units.{cycles}
use Rattle.units.specs.declared.Cycles.{Cycles}
use Rattle.refusals.specs.declared.Refusal.{Refusal}
use Rattle.refusals.specs.declared.Refusal.TheVariants.{Unsound, RunDone, Length, NoSpeed}
use Rattle.refusals.specs.Refusals.{number_of}
use Rattle.rules.specs.declared.State.{State}
use Rattle.rules.specs.Words.{first_of}
use Rattle.rules.specs.Limits.{most_ticks}
use Rattle.rules.specs.Choice.{load_of, speed_of, none_carries}
use Rattle.rules.specs.Settlement.{keeps_rule4}
use Rattle.rules.specs.Numbers.{sound, all_done, tick_number}
use Rattle.rules.proofs.Lists.{both_left, both_right}
use Rattle.stepping.specs.Parts.{row_load, row_place}

-- the rows by their tests
rows : Bool → Bool → Bool → Cycles → Result Cycles Refusal
rows a b c load = cond (not a) (Err Unsound) (cond b (Err RunDone) (cond (not c) (Err Length) (Ok load)))

module _ (load : Cycles) where
  rows_refused : (a b c none kept : Bool) (r : Refusal) → rows a b c load ≡ Err r → first_of ((not a, 9) ∷ (b, 10) ∷ (not c, 11) ∷ (none, 12) ∷ (not kept, 13) ∷ []) ≡ number_of r
  unfolding first_of rows
  rows_refused false b c none kept r e = ap number_of (let f : Unsound ≡ r = cc in f)
  rows_refused true true c none kept r e = ap number_of (let f : RunDone ≡ r = cc in f)
  rows_refused true false false none kept r e = ap number_of (let f : Length ≡ r = cc in f)
  rows_refused true false true none kept r e = absurd cc

  rows_passed : (a b c : Bool) (x : Cycles) → rows a b c load ≡ Ok x → (a ≡ true) × (b ≡ false) × (c ≡ true) × (x ≡ load)
  unfolding rows
  rows_passed false b c x e = absurd cc
  rows_passed true true c x e = absurd cc
  rows_passed true false false x e = absurd cc
  rows_passed true false true x e = (refl, refl, refl, cc)

-- row 12 applies where no place was found, and its number is 12
pub row_12 : (found : Option ℕ) (r : Refusal) → row_place found ≡ Err r → (found ≡ None) × (number_of r ≡ 12)
unfolding row_place
row_12 None r e = (refl, ap number_of (let f : r ≡ NoSpeed = cc in f))
row_12 (Some i) r e = absurd cc

-- else the place is the one that was found
pub row_found : (found : Option ℕ) (place : ℕ) → row_place found ≡ Ok place → found ≡ Some place
unfolding row_place
row_found None place e = absurd cc
row_found (Some i) place e = ap Some (let f : i ≡ place = cc in f)

module _ (s : State) (report : List ℕ) (granted : ℕ) where
  lengths : Bool
  lengths = eqb (length report) s.tasks.count && eqb granted s.tasks.count

  -- a row that applies is tick's number
  pub row_is : (r : Refusal) → row_load s (length report) granted ≡ Err r → tick_number s report granted ≡ number_of r
  unfolding row_load tick_number rows lengths
  row_is r e =
      rows_refused (cycles (load_of s)) (sound s) (all_done s) lengths (none_carries s) (keeps_rule4 s (speed_of s) report) r e

  -- no row: the state is sound, ticks are left, both lists have a place for each task, and its load is told
  pub no_row : (load : Cycles) → row_load s (length report) granted ≡ Ok load → (sound s ≡ true) × (s.done.0 < most_ticks) × (length report ≡ s.tasks.count) × (granted ≡ s.tasks.count) × (load ≡ cycles (load_of s))
  unfolding row_load all_done rows lengths
  no_row load e =
      let passed = rows_passed (cycles (load_of s)) (sound s) (all_done s) lengths load e in (
        passed.0,
        leb-false most_ticks s.done.0 passed.1,
        eqb-true (length report) s.tasks.count (both_left (eqb (length report) s.tasks.count) (eqb granted s.tasks.count) passed.2),
        eqb-true granted s.tasks.count (both_right (eqb (length report) s.tasks.count) (eqb granted s.tasks.count) passed.2),
        passed.3,
      )
