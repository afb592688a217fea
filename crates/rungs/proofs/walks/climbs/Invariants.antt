-- `climbs` tests speeds and volts place by place against those before: what is left to test from `i` on, with the limits of those before, is the whole test.
use Rattle.std.proofs.Common.{◌≡◌, ◌≤◌}
use Rattle.rungs.specs.Parts.{climbing}
use Rattle.rungs.proofs.ClimbLaws.{climbing_up}
use Rattle.rungs.proofs.walks.climbs.Given as goal

abbrev pub invariant-loop-i : goal.invariant-loop-i
invariant-loop-i l = record {
  volts_some : 1 ≤ l.faint.0;
  left : climbing l.ladder.count l.ladder.speeds l.ladder.volts 0 0 0 ≡ climbing_up l.ladder.count l.ladder.speeds l.ladder.volts l.low.0 l.faint.0 l.i;
}
