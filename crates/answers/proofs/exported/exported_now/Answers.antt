-- Both contracts name one answer, by the law on the plain form of a state.
use mathlib.Core.Path.{sym, ap, ◌∙◌}
use Rattle.piszczalin.specs.Plain.{plain_of}
use Rattle.piszczalin.specs.Calls.{plain_now}
use Rattle.piszczalin.proofs.PlainLaws.{now_plain}
use Rattle.answers.proofs.exported.exported_now.Goals as goal

pub returns : goal.returns
returns c =
    ap plain_of c.now.ensures
    ∙ now_plain c.args.state
    ∙ ap plain_now (sym c.requires)
    ∙ sym c.piszczalin_now.ensures
