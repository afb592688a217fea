-- Bytes that are no marks are refused with 9; else the answer is that of the state, put into plain numbers.
use mathlib.Core.Path.{sym, ap, ◌∙◌}
use Rattle.rules.specs.declared.State.{State}
use Rattle.rules.specs.Calls.{told_by, now_of}
use Rattle.rules.specs.Choice.{task_of, due_of}
use Rattle.piszczalin.specs.Plain.{marks_good, plain_of}
use Rattle.piszczalin.proofs.PlainLaws.{now_bad, now_good}
use Rattle.piszczalin.proofs.piszczalin_now.Goals as goal

pub returns-then-not-good : goal.returns-then-not-good
unfolding marks_good plain_of told_by task_of due_of
returns-then-not-good c =
    c.from.ensures ∙ now_bad c.args.state (sym c.good.ensures ∙ c.if-not-good.true)

pub returns : goal.returns
unfolding marks_good
returns c =
    c.from-2.ensures
    ∙ ap plain_of c.now.ensures
    ∙ ap (λ (s : State). plain_of (now_of s)) c.state_of.ensures
    ∙ now_good c.args.state (sym c.good.ensures ∙ c.if-not-good.false)
