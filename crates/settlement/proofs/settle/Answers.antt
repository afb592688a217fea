-- `settle` settles the earliest of the jobs that wait, turn by turn, in place: those that wait, from what is settled so far, come to the whole.
use Rattle.std.proofs.Common.{◌≡◌, sym, ap, subst, ◌∙◌, ◌+◌, arith, length, get_or, Some}
use Rattle.rules.specs.declared.Ready.{Ready}
use Rattle.rules.specs.declared.Settling.{Settling}
use Rattle.rules.specs.Words.{up_to}
use Rattle.rules.specs.Limits.{most_tasks}
use Rattle.rules.specs.State.{job_at}
use Rattle.rules.specs.Settlement.{at_tick_start}
use Rattle.choosing.proofs.Waiting.{First, waiting_none, waiting_first}
use Rattle.settlement.specs.Parts.{share_of}
use Rattle.settlement.proofs.Steps.{counted, part_within}
use Rattle.settlement.proofs.Waits.{Going, Ended, going_start, going_on, going_stop, going_spent, going_through}
use Rattle.settlement.proofs.Wholes.{broken_told, kept_told}
use Rattle.settlement.proofs.settle.Invariants.{whole}
use Rattle.settlement.proofs.settle.Goals as goal
use Rattle.settlement.proofs.settle.Goals.{In-Some, In_ok-share, After-share_out, After-rest_zero, else-loop-left-test, then-loop-left-test+in_default}

-- what is settled so far
abbrev sofar : In-Some → Settling
sofar c = whole c.loop-left.after c.loop-left.given c.loop-left.left c.loop-left.cut

-- the place whose turn it is, the first of those that wait
first : (c : In-Some) → First c.args.dues.now c.loop-left.ready c.args.tasks.now.count c.in-Some.i
first c = waiting_first _ _ _ _ (sym c.next_place.ensures ∙ c.in-Some.is)

-- the part is rule 4's for the job at the turn's place, with its entry
shared : (c : After-share_out) → c.share_out.result ≡ share_of c.loop-left.left.0 (get_or c.args.report.now c.in-Some.i 0) (job_at c.args.tasks.now c.loop-left.after c.in-Some.i)
unfolding job_at
shared c =
    c.share_out.ensures
    ∙ ap (λ u. share_of c.loop-left.left.0 u (job_at c.args.tasks.now c.loop-left.after c.in-Some.i)) c.entry_at.ensures

pub loop-left-init : goal.loop-left-init
unfolding at_tick_start up_to
loop-left-init c =
    let a = c.args in
    subst (λ (w : Ready). Going a.tasks.now a.report.now a.jobs a.dues.now a.speed.0 w (at_tick_start a.jobs a.speed.0)) (sym c.ready_of-ready.ensures) (going_start a.tasks.now a.report.now a.jobs a.dues.now a.speed.0)

-- no part: an entry breaks rule 4
pub returns-in_err-share : goal.returns-in_err-share
returns-in_err-share c =
    let a = c.args in
    let p = goal.at.returns-in_err-share c in
    let told =
    broken_told a.tasks.now a.jobs _ a.speed.0 a.report.now a.grants.now
    (going_stop _ _ _ _ _ _ (sofar p.In-Some) c.loop-left.invariant c.in-Some.i (first p.In-Some) (sym (shared p.After-share_out) ∙ c.in_err-share.was)) in
    (c.from_residual.ensures ∙ told.0, told.1)

-- a part: what is given is there to give
taken : (c : In_ok-share) → share_of c.loop-left.left.0 (get_or c.args.report.now c.in-Some.i 0) (job_at c.args.tasks.now c.loop-left.after c.in-Some.i) ≡ Some c.in_ok-share.share
taken c = sym (shared (goal.at.In_ok-share c).After-share_out) ∙ c.in_ok-share.was

pub overflow_add-after : goal.overflow_add-after
unfolding job_at
overflow_add-after c =
    let p = (goal.at.overflow_add-after c).In_ok-share in
    let within = part_within c.args.tasks.now (sofar (goal.at.overflow_add-after c).In-Some) c.in-Some.i _ _ (taken p) in
    omega (arith, within.1)

pub overflow_sub-left : goal.overflow_sub-left
overflow_sub-left c =
    (part_within c.args.tasks.now (sofar (goal.at.overflow_sub-left c).In-Some) c.in-Some.i _ _ (taken (goal.at.overflow_sub-left c).In_ok-share)).0

-- one fewer waits after a turn
pub loop-left-smaller : goal.loop-left-smaller
loop-left-smaller c = omega (arith, ap length (first (goal.at.loop-left-smaller c).In-Some).rest)

pub loop-left-preserved : goal.loop-left-preserved
unfolding job_at
loop-left-preserved c =
    let p = goal.at.loop-left-preserved c in
    going_on _ _ _ _ _ _ (sofar p.In-Some) c.loop-left.invariant c.in-Some.i (first p.In-Some) c.in_ok-share.share (taken p.In_ok-share) _ (ap (λ n. c.loop-left.cut + n) (c.from-cut.ensures ∙ counted c.in_ok-share.share.cut))

-- the end, whichever way the turns stop
ended : (c : After-rest_zero) →
    let l = c.loop-left in
    let a = c.args in
    Ended a.tasks.now a.report.now a.jobs a.dues.now a.speed.0 l.ready (whole l.after l.given l.left l.cut)
ended c =
    let l = c.loop-left in
    let a = c.args in
    let so = whole l.after l.given l.left l.cut in
    let long : length a.jobs.over ≡ most_tasks = omega arith in
    elim c.loop-left-test.branch [
      | else-loop-left-test w ↦ going_spent _ _ _ _ _ _ so l.invariant long (omega (arith, w.loop-left-test.false))
      | then-loop-left-test+in_default w ↦ going_through _ _ _ _ _ _ so l.invariant long (waiting_none _ _ _ (sym w.next_place.ensures ∙ w.in_default.is))
    ]

pub returns-then-not-rest_zero : goal.returns-then-not-rest_zero
returns-then-not-rest_zero c =
    let a = c.args in
    let end = ended (goal.at.returns-then-not-rest_zero c).After-rest_zero in
    broken_told a.tasks.now a.jobs _ a.speed.0 a.report.now a.grants.now (end.lawful ∙ sym c.rest_zero.ensures ∙ c.if-not-rest_zero.true)

pub returns : goal.returns
returns c =
    let a = c.args in
    let l = c.loop-left in
    let end = ended (goal.at.returns c).After-rest_zero in
    let kept = end.lawful ∙ sym c.rest_zero.ensures ∙ c.if-not-rest_zero.false in
    let told = kept_told a.tasks.now a.jobs _ a.speed.0 a.report.now a.grants.now kept (whole l.after l.given l.left l.cut) end.outcome in
    (told.0, c.pay.ensures ∙ told.1)
