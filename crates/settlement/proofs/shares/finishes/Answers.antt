-- `finishes` is the third bullet, test by test.
use Rattle.std.proofs.Common.{arith, inl, inr}
use Rattle.settlement.proofs.Bullets.{out_of_range, not_left, within_left}
use Rattle.settlement.proofs.shares.finishes.Goals as goal
use Rattle.settlement.proofs.shares.finishes.Goals.{then-entry-job-via-then-entry-job, then-entry-job-via-else-entry-job+then-job-entry}

pub returns-then-entry-job : goal.returns-then-entry-job
returns-then-entry-job c =
    out_of_range c.args.left.0 c.args.entry c.args.job
    (elim c.then-entry-job.branch [ then-entry-job-via-then-entry-job w ↦ inl w.if-entry-job.true | then-entry-job-via-else-entry-job+then-job-entry w ↦ inr w.if-job-entry.true ])

pub returns-then-left-given : goal.returns-then-left-given
returns-then-left-given c = not_left _ _ _ c.if-left-given.true

pub returns : goal.returns
returns c = within_left _ _ _ (omega arith) (omega arith) (omega arith)
