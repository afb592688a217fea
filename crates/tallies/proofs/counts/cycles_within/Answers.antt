-- `cycles_within` takes the counts off the most: what is left and all counts make the most and the counts that are left.
use native.Mathlib.Omega.{arith}
use Rattle.tallies.proofs.TallyLaws.{counts_over, counts_turn, idle_decides}
use Rattle.tallies.proofs.counts.cycles_within.Goals as goal

pub returns-in_default : goal.returns-in_default
returns-in_default c =
    let w = c.loop-counted in
    counts_over c.args.counts.now c.args.idle.0 w.left c.args.most.0 w.counted-index w.invariant (omega arith) (omega (arith, c.in_default.ensures))

pub loop-counted-preserved : goal.loop-counted-preserved
loop-counted-preserved c =
    let w = c.loop-counted in
    let h = c.in-Some.ensures in
    rw h.1 (counts_turn c.args.counts.now c.args.idle.0 w.left c.args.most.0 w.counted-index w.invariant (omega arith) h.0)

pub returns : goal.returns
returns c =
    let w = c.loop-counted in
    idle_decides c.args.counts.now c.args.idle.0 w.left c.args.most.0 w.counted-index w.invariant (omega arith)
