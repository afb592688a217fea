-- `cycles_within` takes the counts off the most: what is left and all counts make the most and the counts that are left.
use Rattle.std.proofs.Common.{◌≡◌, ◌+◌, drop}
use Rattle.tallies.specs.Parts.{cycles_of}
use Rattle.tallies.proofs.counts.cycles_within.Given as goal

abbrev pub invariant-loop-counted : goal.invariant-loop-counted
invariant-loop-counted l = l.left + cycles_of l.counts ≡ l.initial.left + cycles_of (drop l.counted-index l.counts)
