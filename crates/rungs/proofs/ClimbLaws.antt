-- Numbers that climb, speeds by 1 and volts by 0: none is past its limit if the last is not, so the limits wait until the end of the walk.
use mathlib.Core.Path.{◌≡◌, refl}
use mathlib.Core.Bool.{Bool, true, false, ◌&&◌}
use mathlib.Core.List.{List, [], ◌∷◌}
use Prim.Native.Nat.{ℕ, ◌+◌, ◌≤◌, ◌<◌}
use native.Mathlib.Omega.{arith}
use lib.Dec.{leb, ltb}
use lib.ListN.{get_or, drop}
use borrow.Author.Tests.{leb-true, leb-false, ltb-true, ltb-false, le-leb, lt-leb}
use Rattle.units.specs.Units.{speed, volts}
use Rattle.units.specs.declared.Speed.{Speed}
use Rattle.units.specs.declared.Volts.{Volts}
use Rattle.rules.specs.Words.{up_to}
use Rattle.rules.specs.Limits.{most_speed, most_volts, up_to_most}
use Rattle.rules.specs.Numbers.{climbs_from, speeds_rise, volts_never_fall}
use Rattle.rules.proofs.Lists.{and-true, and-false, up_to_rest, up_to_end}
use Rattle.rungs.specs.Parts.{climbing}

-- the number before is in its range, and so are those that follow
unfoldable pub up_from : ℕ → ℕ → ℕ → List ℕ → Bool
up_from most gap before l = leb before most && climbs_from most gap before l

module _ (most gap before x : ℕ) (l : List ℕ) where
  -- a number far enough above the one before: its own range is what is left to test of both
  up_on : 1 ≤ x → before + gap ≤ x → up_from most gap before (x ∷ l) ≡ up_from most gap x l
  unfolding up_from climbs_from up_to_most
  up_on some h = go (leb x most) refl
    where
      go : (b : Bool) → leb x most ≡ b → (leb before most && (leb 1 x && leb x most && leb (before + gap) x && climbs_from most gap x l)) ≡ (leb x most && climbs_from most gap x l)
      go true e =
          let m : x ≤ most = leb-true x most e in
          rw (e, le-leb before most (omega arith), le-leb 1 x some, le-leb (before + gap) x h)
      go false e = rw (e, le-leb 1 x some) (and-false (leb before most) false refl)

  up_stop : x < before + gap → up_from most gap before (x ∷ l) ≡ false
  unfolding up_from climbs_from
  up_stop h =
      and-false (leb before most) (up_to_most most x && leb (before + gap) x && climbs_from most gap x l)
      (rw (and-false (up_to_most most x) (leb (before + gap) x) (lt-leb (before + gap) x h)))

-- no speed and 1 tenth of a volt before the first: as no speed and no volts
speeds_from : (ss : List ℕ) → speeds_rise 0 ss ≡ up_from most_speed 1 0 ss
unfolding up_from speeds_rise
speeds_from ss = refl

volts_from : (vs : List ℕ) → volts_never_fall 0 vs ≡ up_from most_volts 0 1 vs
unfolding up_from volts_never_fall climbs_from up_to_most
volts_from [] = refl
volts_from (v ∷ vs) = go (leb 1 v) refl
  where
    go : (b : Bool) → leb 1 v ≡ b → (leb 1 v && leb v most_volts && leb 0 v && climbs_from most_volts 0 v vs) ≡ (leb 1 v && leb v most_volts && leb 1 v && climbs_from most_volts 0 v vs)
    go true e = rw (e, le-leb 0 v (omega arith))
    go false e = rw e

-- speeds and volts from a place on, after a speed and a volt value: both go on, one of them stops, or both end
module _ (n : ℕ) (ss : List Speed) (vs : List Volts) where
  abbrev s : ℕ → ℕ
  s k = (get_or ss k (speed 0)).0

  abbrev v : ℕ → ℕ
  v k = (get_or vs k (volts 0)).0

  unfoldable pub climbing_up : ℕ → ℕ → ℕ → Bool
  climbing_up low faint i = up_from most_speed 1 low (drop i (up_to n s)) && up_from most_volts 0 faint (drop i (up_to n v))

  pub climb_from : climbing n ss vs 0 0 0 ≡ climbing_up 0 1 0
  unfolding climbing climbing_up
  climb_from = rw (speeds_from (drop 0 (up_to n s)), volts_from (drop 0 (up_to n v)))

  module _ (low faint i : ℕ) where
    pub climb_on : i < n → leb (s i) low ≡ false → 1 ≤ faint → ltb (v i) faint ≡ false → climbing_up low faint i ≡ climbing_up (s i) (v i) (i + 1)
    unfolding climbing_up
    climb_on h a f b =
        let up : low < s i = leb-false (s i) low a in
        let stays : faint ≤ v i = ltb-false (v i) faint b in
        rw (up_to_rest n s i h, up_to_rest n v i h, up_on most_speed 1 low (s i) (drop (i + 1) (up_to n s)) (omega arith) (omega arith), up_on most_volts 0 faint (v i) (drop (i + 1) (up_to n v)) (omega arith) (omega arith))

    pub climb_slow : i < n → leb (s i) low ≡ true → climbing_up low faint i ≡ false
    unfolding climbing_up
    climb_slow h a =
        let slow : s i ≤ low = leb-true (s i) low a in
        rw (up_to_rest n s i h, up_stop most_speed 1 low (s i) (drop (i + 1) (up_to n s)) (omega arith))

    pub climb_faint : i < n → ltb (v i) faint ≡ true → climbing_up low faint i ≡ false
    unfolding climbing_up
    climb_faint h b =
        let falls : v i < faint = ltb-true (v i) faint b in
        and-false (up_from most_speed 1 low (drop i (up_to n s))) (up_from most_volts 0 faint (drop i (up_to n v)))
        (rw (up_to_rest n v i h) (up_stop most_volts 0 faint (v i) (drop (i + 1) (up_to n v)) (omega arith)))

    -- at the end the limits are left
    pub climb_end : n ≤ i → climbing_up low faint i ≡ (leb low most_speed && leb faint most_volts)
    unfolding climbing_up up_from climbs_from
    climb_end h = rw (up_to_end n s i h, up_to_end n v i h, and-true (leb low most_speed), and-true (leb faint most_volts))
