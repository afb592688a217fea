-- `sums_of` tests the tasks and makes the sums, task by task: after `i` turns the first `i` tasks are right and the sums are theirs, and what is left to test is the whole test.
use mathlib.Core.Path.{◌≡◌}
use lib.ListN.{drop}
use Rattle.rules.specs.Words.{up_to, every}
use Rattle.rules.specs.State.{job_at, jobs_of}
use Rattle.places.specs.Places.{job_right}
use Rattle.soundness.specs.Parts.{sums_to, Within}
use Rattle.soundness.proofs.sums.sums_of.Given as goal

abbrev pub invariant-loop-i : goal.invariant-loop-i
invariant-loop-i l = record {
  made : l.sums ≡ sums_to l.tasks l.jobs l.i;
  small : Within l.i l.sums;
  left : every job_right (jobs_of l.tasks l.jobs) ≡ every job_right (drop l.i (up_to l.tasks.count (job_at l.tasks l.jobs)));
}
