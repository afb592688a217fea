-- Speeds that rise and volts that never fall, place by place: each in its range, and later ones above or not below. One walk for both, by induction on the list.
use mathlib.Core.Path.{◌≡◌}
use mathlib.Core.Bool.{true, ◌&&◌}
use mathlib.Core.List.{List, [], ◌∷◌}
use Prim.Native.Nat.{ℕ, zero, suc, ◌+◌, ◌-◌, ◌≤◌, ◌<◌}
use native.Mathlib.Nat.{le_of_suc-le-suc, le_of_lt, le_refl, not-suc-le-zero}
use native.Mathlib.Decide.{dec_lt}
use native.Mathlib.Omega.{arith}
use lib.Dec.{leb}
use lib.ListN.{length, get_or}
use borrow.Author.Tests.{leb-true}
use Rattle.rules.specs.Limits.{most_speed, most_volts, up_to_most}
use Rattle.rules.specs.State.{top_of}
use Rattle.rules.specs.Numbers.{climbs_from, speeds_rise, volts_never_fall}
use Rattle.rules.proofs.Lists.{both_left, both_right}

module _ (most gap b x : ℕ) (l : List ℕ) (e : climbs_from most gap b (x ∷ l) ≡ true) where
  first_two : (up_to_most most x && leb (b + gap) x) ≡ true
  unfolding climbs_from
  first_two = both_left (up_to_most most x && leb (b + gap) x) (climbs_from most gap x l) e

  first_range : up_to_most most x ≡ true
  first_range = both_left (up_to_most most x) (leb (b + gap) x) first_two

  first_above : b + gap ≤ x
  first_above = leb-true (b + gap) x (both_right (up_to_most most x) (leb (b + gap) x) first_two)

  rest_climbs : climbs_from most gap x l ≡ true
  unfolding climbs_from
  rest_climbs = both_right (up_to_most most x && leb (b + gap) x) (climbs_from most gap x l) e

-- each number is in its range, above what came before the list, and above what stands at every earlier place
module _ (most gap : ℕ) where
  climbs_range : (b : ℕ) (l : List ℕ) → climbs_from most gap b l ≡ true → (i : ℕ) → i < length l → up_to_most most (get_or l i 0) ≡ true
  climbs_range b [] e i h = absurd (not-suc-le-zero h)
  climbs_range b (x ∷ l) e zero h = first_range most gap b x l e
  climbs_range b (x ∷ l) e (suc i) h = climbs_range x l (rest_climbs most gap b x l e) i (le_of_suc-le-suc h)

  climbs_above : (b : ℕ) (l : List ℕ) → climbs_from most gap b l ≡ true → (i : ℕ) → i < length l → b + gap ≤ get_or l i 0
  climbs_above b [] e i h = absurd (not-suc-le-zero h)
  climbs_above b (x ∷ l) e zero h = first_above most gap b x l e
  climbs_above b (x ∷ l) e (suc i) h =
      let here : b + gap ≤ x = first_above most gap b x l e in
      let later : x + gap ≤ get_or l i 0 = climbs_above x l (rest_climbs most gap b x l e) i (le_of_suc-le-suc h) in
      omega (arith, here, later)

  climbs_order : (b : ℕ) (l : List ℕ) → climbs_from most gap b l ≡ true → (i k : ℕ) → i < k → k < length l → get_or l i 0 + gap ≤ get_or l k 0
  climbs_order b [] e i k a h = absurd (not-suc-le-zero h)
  climbs_order b (x ∷ l) e i zero a h = absurd (not-suc-le-zero a)
  climbs_order b (x ∷ l) e zero (suc k) a h = climbs_above x l (rest_climbs most gap b x l e) k (le_of_suc-le-suc h)
  climbs_order b (x ∷ l) e (suc i) (suc k) a h =
      climbs_order x l (rest_climbs most gap b x l e) i k (le_of_suc-le-suc a) (le_of_suc-le-suc h)

-- each speed of a rising list is in its range, above those at earlier places, and at most the last, the top
module _ (b : ℕ) (l : List ℕ) (e : speeds_rise b l ≡ true) where
  pub rise_range : (i : ℕ) → i < length l → up_to_most most_speed (get_or l i 0) ≡ true
  unfolding speeds_rise
  rise_range = climbs_range most_speed 1 b l e

  pub rise_order : (i k : ℕ) → i < k → k < length l → get_or l i 0 < get_or l k 0
  unfolding speeds_rise
  rise_order i k a h = omega (arith, climbs_order most_speed 1 b l e i k a h)

  pub rise_top : (i : ℕ) → i < length l → get_or l i 0 ≤ top_of l
  unfolding top_of
  rise_top i h = go (dec_lt i (length l - 1))
    where
      go : Dec (i < length l - 1) → get_or l i 0 ≤ get_or l (length l - 1) 0
      go (yes a) = le_of_lt (rise_order i (length l - 1) a (omega arith))
      go (no a) =
          let last : i ≡ length l - 1 = omega arith in
          rw last (le_refl (get_or l (length l - 1) 0))

-- each volt value of a list that never falls is in its range
module _ (b : ℕ) (l : List ℕ) (e : volts_never_fall b l ≡ true) where
  pub stay_range : (i : ℕ) → i < length l → up_to_most most_volts (get_or l i 0) ≡ true
  unfolding volts_never_fall
  stay_range = climbs_range most_volts 0 b l e
