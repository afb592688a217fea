-- `sums_of` tests the tasks and makes the sums, task by task: after `i` turns the first `i` tasks are right and the sums are theirs, and what is left to test is the whole test.
use mathlib.Core.Path.{◌≡◌, refl, sym, ◌∙◌}
use Prim.Native.Nat.{◌<◌}
use native.Mathlib.Omega.{arith}
use Rattle.rules.specs.Limits.{most_tasks}
use Rattle.rules.specs.State.{job_at, jobs_of}
use Rattle.places.specs.Places.{job_right}
use Rattle.soundness.specs.Parts.{no_sums, sums_to, summing}
use Rattle.soundness.proofs.SumLaws.{stopped, gone_on, ended, sums_on, none_is, none_within, one_more, room_at}
use Rattle.soundness.proofs.sums.sums_of.Goals as goal

pub loop-i-init : goal.loop-i-init
unfolding sums_to no_sums jobs_of
loop-i-init c =
    let d = c.default-sums in
    let e = none_is d.result d.ensures.0 d.ensures.1.0 d.ensures.1.1.0 d.ensures.1.1.1 in
    record { made = e; small = rw e none_within; left = refl }

pub returns-then-not-job_right : goal.returns-then-not-job_right
unfolding job_at summing
returns-then-not-job_right c =
    rw (← stopped job_right _ _ _ _ c.loop-i.invariant.left c.loop-i-test.true _ c.job_right.ensures c.if-not-job_right.true)

pub with_job-sums-requires : goal.with_job-sums-requires
with_job-sums-requires c =
    let i : c.loop-i.i < most_tasks = omega (arith, c.requires.few) in
    room_at _ _ _ _ c.loop-i.invariant.small (sym c.job_right.ensures ∙ c.if-not-job_right.false) c.requires.small i

pub loop-i-preserved : goal.loop-i-preserved
unfolding job_at
loop-i-preserved c =
    let w = c.loop-i in
    let right = sym c.job_right.ensures ∙ c.if-not-job_right.false in
    record {
      made = sums_on c.args.tasks.now c.args.jobs.now w.i _ _ _ w.invariant.made refl c.with_job-sums.ensures;
      small = rw c.with_job-sums.ensures (one_more _ _ _ _ w.invariant.small right c.requires.small);
      left = gone_on job_right _ _ _ _ w.invariant.left c.loop-i-test.true _ c.job_right.ensures c.if-not-job_right.false;
    }

pub returns : goal.returns
unfolding summing
returns c =
    let w = c.loop-i in
    let e : w.i ≡ c.args.tasks.now.count = omega arith in
    rw (← ended job_right _ _ _ _ w.invariant.left c.loop-i-test.false, w.invariant.made, e)
