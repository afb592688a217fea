-- One turn of each walk over a list: what is left of the test, in the rest-form that the loops keep.
use mathlib.Core.Path.{◌≡◌}
use mathlib.Core.Bool.{true, false}
use mathlib.Core.List.{List}
use Prim.Native.Nat.{ℕ, ◌+◌, ◌≤◌, ◌<◌}
use lib.ListN.{length, get_or, drop, drop_of_length-le}
use borrow.Author.Tests.{le-leb, lt-leb}
use Rattle.rules.specs.Numbers.{climbs_from}
use Rattle.rules.proofs.Lists.{rest_cons}
use Rattle.rules.proofs.Ranges.{in_range, too_low, too_high}

-- `climbs` from a place: it goes on with the number there, stops for one of three reasons, or ends
module _ (most gap before : ℕ) (l : List ℕ) (i : ℕ) where
  pub climb_on : i < length l → 1 ≤ get_or l i 0 → get_or l i 0 ≤ most → before + gap ≤ get_or l i 0 → climbs_from most gap before (drop i l) ≡ climbs_from most gap (get_or l i 0) (drop (i + 1) l)
  unfolding climbs_from
  climb_on h a b g = rw (rest_cons l 0 i h, in_range most (get_or l i 0) a b, le-leb (before + gap) (get_or l i 0) g)

  pub climb_low : i < length l → get_or l i 0 < 1 → climbs_from most gap before (drop i l) ≡ false
  unfolding climbs_from
  climb_low h a = rw (rest_cons l 0 i h, too_low most (get_or l i 0) a)

  pub climb_high : i < length l → 1 ≤ get_or l i 0 → most < get_or l i 0 → climbs_from most gap before (drop i l) ≡ false
  unfolding climbs_from
  climb_high h a b = rw (rest_cons l 0 i h, too_high most (get_or l i 0) a b)

  pub climb_short : i < length l → 1 ≤ get_or l i 0 → get_or l i 0 ≤ most → get_or l i 0 < before + gap → climbs_from most gap before (drop i l) ≡ false
  unfolding climbs_from
  climb_short h a b g = rw (rest_cons l 0 i h, in_range most (get_or l i 0) a b, lt-leb (before + gap) (get_or l i 0) g)

  pub climb_end : length l ≤ i → climbs_from most gap before (drop i l) ≡ true
  unfolding climbs_from
  climb_end h = rw (drop_of_length-le l {i = i} h)
