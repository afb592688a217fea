-- The row of a tick in its places: the grants come back in its middle, the idle cycles go behind them and the speed before them. By the list's first place and its last.
use mathlib.Core.Path.{◌≡◌, refl, sym, ap, ◌∙◌}
use mathlib.Core.List.{List, [], ◌∷◌, ◌++◌}
use Prim.Native.Nat.{ℕ, ◌+◌, ◌-◌, ◌≤◌}
use native.Mathlib.Numerals.{add-one}
use native.Mathlib.Omega.{arith}
use borrow.Rule.Slice.PartMut.{put_mid, mid_len, same_len_mid}
use lib.ListN.{length, take, drop, set, length-drop, length-set}
use lib.Seq.{set_at, take_at}

-- a number put into the one place behind a list
last_set : (ys rest : List ℕ) (n v : ℕ) → length ys ≡ n → length rest ≡ 1 → set (ys ++ rest) n v ≡ ys ++ (v ∷ [])
last_set ys [] n v e l = absurd (omega arith)
last_set ys (z ∷ []) n v e l = set_at ys z [] v n e
last_set ys (z ∷ w ∷ rest) n v e l = absurd (omega arith)

-- a number put into the first place of a list
first_set : (l : List ℕ) (v : ℕ) → 1 ≤ length l → set l 0 v ≡ v ∷ drop 1 l
first_set [] v h = absurd (omega arith)
first_set (x ∷ l) v h = refl

-- what is lent of a row with two places more has its places
pub middle_long : (row : List ℕ) (n : ℕ) → length row ≡ n + 2 → length (take (n + 1 - 1) (drop 1 row)) ≡ n
middle_long row n l = mid_len 1 (n + 1) row (omega arith) ∙ omega arith

-- the numbers that come back in the middle, and one behind them
behind : (row ys : List ℕ) (n idle : ℕ) → length row ≡ n + 2 → length ys ≡ n → drop 1 (set (put_mid 1 (n + 1 - 1) row ys) (n + 1) idle) ≡ ys ++ (idle ∷ [])
behind [] ys n idle l y = absurd (omega arith)
behind (x ∷ row) ys n idle l y =
    let same : n + 1 - 1 ≡ n = omega arith in
    rw (same, add-one n) (last_set ys (drop n row) n idle y (length-drop n row ∙ omega arith))

module _ (row ys : List ℕ) (n idle : ℕ) (l : length row ≡ n + 2) (y : length ys ≡ n) where
  -- the middle again
  pub middle_is : take (n + 1 - 1) (drop 1 (set (put_mid 1 (n + 1 - 1) row ys) (n + 1) idle)) ≡ ys
  middle_is = rw (behind row ys n idle l y) (take_at ys (idle ∷ []) (n + 1 - 1) (omega arith))

  -- no place is lost
  pub filled_long : length (set (put_mid 1 (n + 1 - 1) row ys) (n + 1) idle) ≡ n + 2
  filled_long =
      length-set (put_mid 1 (n + 1 - 1) row ys) (n + 1) idle
      ∙ same_len_mid 1 (n + 1 - 1) row ys (y ∙ sym (middle_long row n l))
      ∙ l

  -- with a number in front it is the whole row
  pub row_full : (speed : ℕ) → set (set (put_mid 1 (n + 1 - 1) row ys) (n + 1) idle) 0 speed ≡ speed ∷ (ys ++ (idle ∷ []))
  row_full speed =
      first_set (set (put_mid 1 (n + 1 - 1) row ys) (n + 1) idle) speed (omega (arith, filled_long))
      ∙ ap (λ (rest : List ℕ). speed ∷ rest) (behind row ys n idle l y)
