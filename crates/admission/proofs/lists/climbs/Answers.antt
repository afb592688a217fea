-- `climbs` tests every place against the one before: what is left to test from `x` on, after the number before, is the whole test.
use Rattle.std.proofs.Common.{sym, ◌∙◌}
use Rattle.admission.proofs.Walks.{climb_on, climb_low, climb_high, climb_short, climb_end}
use Rattle.admission.proofs.lists.climbs.Goals as goal
use Rattle.admission.proofs.lists.climbs.Goals.{then-x-lt1-via-then-x-lt1, then-x-lt1-via-else-x-lt1+then-most-x, then-x-lt1-via-else-x-lt1+else-most-x+then-x-before}

pub returns-then-x-lt1 : goal.returns-then-x-lt1
returns-then-x-lt1 c =
    let a = c.args in
    let w = c.loop-x in
    let h = c.loop-x-test.true in
    sym
    (w.invariant.1
    ∙ elim c.then-x-lt1.branch [
      | then-x-lt1-via-then-x-lt1 v ↦ climb_low a.most a.gap w.before a.list.now w.x-index h v.if-x-lt1.true
      | then-x-lt1-via-else-x-lt1+then-most-x v ↦ climb_high a.most a.gap w.before a.list.now w.x-index h v.if-x-lt1.false v.if-most-x.true
      | then-x-lt1-via-else-x-lt1+else-most-x+then-x-before v ↦ climb_short a.most a.gap w.before a.list.now w.x-index h v.if-x-lt1.false v.if-most-x.false v.if-x-before.true
    ])

pub loop-x-preserved : goal.loop-x-preserved
loop-x-preserved c =
    let a = c.args in
    let w = c.loop-x in
    (c.if-most-x.false, w.invariant.1 ∙ climb_on a.most a.gap w.before a.list.now w.x-index c.loop-x-test.true c.if-x-lt1.false c.if-most-x.false c.if-x-before.false)

pub returns : goal.returns
returns c =
    let a = c.args in
    let w = c.loop-x in
    sym (w.invariant.1 ∙ climb_end a.most a.gap w.before a.list.now w.x-index c.loop-x-test.false)
