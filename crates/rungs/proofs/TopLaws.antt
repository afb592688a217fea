-- The top speed by how many speeds are listed: none, more than there are places, or so many.
use mathlib.Core.Path.{◌≡◌, ap}
use Prim.Native.Nat.{min, ◌-◌, ◌≤◌, ◌<◌}
use native.Mathlib.Nat.{min-eq_left}
use native.Mathlib.Omega.{arith}
use lib.ListN.{get_or}
use Rattle.units.specs.Units.{speed}
use Rattle.rules.specs.declared.Ladder.{Ladder}
use Rattle.rules.specs.Words.{up_to}
use Rattle.rules.specs.Limits.{most_speeds}
use Rattle.rules.specs.State.{speed_at, speeds_of, top_of}
use Rattle.rules.proofs.Loads.{last_at}
use Rattle.rungs.specs.Rungs.{top_in}

module _ (l : Ladder) where
  -- no speed listed: 0
  pub top_none : l.count < 1 → top_in l ≡ speed 0
  unfolding top_in top_of up_to
  top_none h =
      let e : l.count ≡ 0 = omega arith in
      rw e

  -- the last of those listed, of at most 8
  pub top_last : 1 ≤ l.count → top_in l ≡ get_or l.speeds (min l.count most_speeds - 1) (speed 0)
  unfolding top_in speed_at
  top_last a = ap speed (last_at (min l.count most_speeds) (speed_at l) (omega arith))

  -- at most 8 speeds listed: the rules' top speed
  pub top_is : l.count ≤ most_speeds → (top_in l).0 ≡ top_of (speeds_of l)
  unfolding top_in speeds_of
  top_is b = rw (min-eq_left b)
