-- A tick into its row, over plain values: what the governor's tick answers and what comes back in the row's middle, against the tick as it is played.
use mathlib.Core.Path.{◌≡◌, refl, sym, ap, ◌∙◌}
use mathlib.Core.Bool.{cond}
use mathlib.Core.List.{List, [], ◌∷◌, ◌++◌}
use Prim.Native.Nat.{ℕ, ◌+◌, ◌-◌, ◌≤◌, ◌<◌, ◌^◌}
use native.Mathlib.Omega.{arith}
use borrow.Author.Tests.{ne_eqb}
use borrow.Rule.Slice.PartMut.{put_mid, put_same}
use mir.Syntax.{w64}
use mir.Val.{Fits}
use lib.Dec.{eqb}
use lib.ListN.{length, take, drop, set, replicate, length-replicate}
use Rattle.units.specs.declared.Speed.{Speed}
use Rattle.units.specs.Units.{cycles, per_tick}
use Rattle.rules.specs.declared.State.{State}
use Rattle.rules.specs.Answers.{Ticked}
use Rattle.std.specs.Prelude.{sum}
use Rattle.rules.specs.Words.{total}
use Rattle.rules.proofs.Chains.{total-sum}
use Rattle.rules.specs.State.{Shaped}
use Rattle.rules.specs.Choice.{speed_of}
use Rattle.rules.specs.Settlement.{settled}
use Rattle.rules.specs.Numbers.{tick_number}
use Rattle.rules.specs.Calls.{tick_of, grants_of}
use Rattle.rules.proofs.Lists.{length-up_to}
use Rattle.rules.proofs.CallRows.{accepted, grants_kept, grants_written}
use Rattle.player.specs.Plays.{tick_played}
use Rattle.player.specs.Rows.{row_of}
use Rattle.player.proofs.Shared.{shares_of, speed_shared, speed_most, speed_told, idle_after}
use Rattle.player.proofs.RowParts.{middle_long, middle_is, filled_long, row_full}

-- the number of a tick is the first thing that it answers
pub number_is : (s : State) (report : List ℕ) (places : ℕ) → (tick_of s report places).number ≡ tick_number s report places
unfolding tick_of
number_is s report places = refl

-- an accepted tick as it is played, in numbers
module _ (s : State) (report : List ℕ) (shape : Shaped s) (e : tick_number s report (length report) ≡ 0) where
  shares_long : length (shares_of s report) ≡ length report
  unfolding shares_of
  shares_long = length-up_to s.tasks.count _ ∙ sym (accepted s report (length report) e).report_long

  written : (grants : List ℕ) → length grants ≡ length report → grants_of s report grants ≡ shares_of s report
  unfolding shares_of
  written grants l = sym (grants_written s report grants (ap (tick_number s report) l ∙ e))

  played_row : row_of (tick_played s report) ≡ speed_of s ∷ (shares_of s report ++ ((settled s (speed_of s) report).left.0 ∷ []))
  unfolding row_of tick_played
  played_row =
      let long : length {A = ℕ} (replicate s.tasks.count 0) ≡ length report = length-replicate s.tasks.count 0 ∙ sym (accepted s report (length report) e).report_long in
      rw (speed_told s report (length report) shape e, written (replicate s.tasks.count 0) long)

-- a row with two places more than the report, lent to a tick without its first and its last
module _ (s : State) (report row : List ℕ) (l : length row ≡ length report + 2) (r : Ticked) (ys : List ℕ) (told : r ≡ tick_of s report (length (take (length report + 1 - 1) (drop 1 row)))) (back : ys ≡ grants_of s report (take (length report + 1 - 1) (drop 1 row))) where
  lent_long : length (take (length report + 1 - 1) (drop 1 row)) ≡ length report
  lent_long = middle_long row (length report) l

  -- the answer is that for as many grants as entries
  pub ticked_is : r ≡ tick_of s report (length report)
  ticked_is = told ∙ ap (tick_of s report) lent_long

  numbered : r.number ≡ tick_number s report (length report)
  numbered = ap (λ (x : Ticked). x.number) ticked_is ∙ number_is s report (length report)

  -- refused: the row is as it was
  pub row_kept : (r.number ≡ 0 → ⊥) → put_mid 1 (length report + 1 - 1) row ys ≡ cond (eqb (tick_of s report (length report)).number 0) (row_of (tick_played s report)) row
  row_kept z =
      let kept = grants_kept s report (take (length report + 1 - 1) (drop 1 row)) r.number z (ap (tick_number s report) lent_long ∙ sym numbered) in
      rw (← ticked_is, ne_eqb r.number 0 z, back, ← kept) (put_same 1 (length report + 1 - 1) row)

  -- accepted: what the parts of the row come to
  module _ (shape : Shaped s) (e : r.number ≡ 0) where
    is_0 : tick_number s report (length report) ≡ 0
    is_0 = sym numbered ∙ e

    idle_is : r.state.tally.idle.0 ≡ s.tally.idle.0 + (settled s (speed_of s) report).left.0
    idle_is = ap (λ (x : Ticked). x.state.tally.idle.0) ticked_is ∙ idle_after s report (length report) shape is_0

    pub idle_grows : s.tally.idle.0 ≤ r.state.tally.idle.0
    idle_grows = omega (arith, idle_is)

    back_is : ys ≡ shares_of s report
    back_is = back ∙ written s report shape is_0 (take (length report + 1 - 1) (drop 1 row)) lent_long

    back_long : length ys ≡ length report
    back_long = ap length back_is ∙ shares_long s report shape is_0

    module _ (idle : ℕ) (i : s.tally.idle.0 + idle ≡ r.state.tally.idle.0) where
      left_is : idle ≡ (settled s (speed_of s) report).left.0
      left_is = omega (arith, i, idle_is)

      middle_sum : sum (take (length report + 1 - 1) (drop 1 (set (put_mid 1 (length report + 1 - 1) row ys) (length report + 1) idle))) + idle ≡ speed_of s
      middle_sum =
          ap (λ (m : List ℕ). sum m + idle) (middle_is row ys (length report) idle l back_long ∙ back_is)
          ∙ ap (λ x. x + idle) (total-sum (shares_of s report))
          ∙ ap (λ x. total (λ g. g) (shares_of s report) + x) left_is
          ∙ speed_shared s report (length report) shape is_0

      -- the row keeps its places
      pub row_long : length (set (put_mid 1 (length report + 1 - 1) row ys) (length report + 1) idle) ≡ length report + 2
      row_long = filled_long row ys (length report) idle l back_long

      -- the sum of the grants fits, and the speed
      pub sum_fits : sum (take (length report + 1 - 1) (drop 1 (set (put_mid 1 (length report + 1 - 1) row ys) (length report + 1) idle))) < 2 ^ 64
      sum_fits = omega (arith, middle_sum, speed_most s report (length report) shape is_0)

      pub speed_fits : (granted : ℕ) → granted ≡ sum (take (length report + 1 - 1) (drop 1 (set (put_mid 1 (length report + 1 - 1) row ys) (length report + 1) idle))) → Fits w64 (granted + idle)
      speed_fits granted m = record { fits = omega (arith, m, middle_sum, speed_most s report (length report) shape is_0) }

      -- and the row is that of the tick as it is played
      pub row_is : (granted : ℕ) → granted ≡ sum (take (length report + 1 - 1) (drop 1 (set (put_mid 1 (length report + 1 - 1) row ys) (length report + 1) idle))) → (v : Speed) → v ≡ per_tick (cycles (granted + idle)) → set (set (put_mid 1 (length report + 1 - 1) row ys) (length report + 1) idle) 0 v.0 ≡ cond (eqb (tick_of s report (length report)).number 0) (row_of (tick_played s report)) row
      row_is granted m v q =
          let speed : v.0 ≡ speed_of s = ap (λ (x : Speed). x.0) q ∙ ap (λ x. x + idle) m ∙ middle_sum in
          rw (← ticked_is, e)
          (row_full row ys (length report) idle l back_long v.0
          ∙ rw (speed, back_is, left_is) (sym (played_row s report shape is_0)))
