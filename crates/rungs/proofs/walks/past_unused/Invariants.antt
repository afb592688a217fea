-- `past_unused` tests every place from the count on: what is left to test from `i` on is the whole test.
use Rattle.std.proofs.Common.{◌≡◌}
use Rattle.rungs.specs.Parts.{zeros_from}
use Rattle.rungs.proofs.walks.past_unused.Given as goal

abbrev pub invariant-loop-i : goal.invariant-loop-i
invariant-loop-i l = zeros_from l.ladder.speeds l.ladder.volts l.tally.counts l.ladder.count ≡ zeros_from l.ladder.speeds l.ladder.volts l.tally.counts l.i
