-- Both contracts name one answer.
use mathlib.Core.Path.{sym, ap, ◌∙◌}
use Rattle.piszczalin.specs.Calls.{plain_started, plain_start}
use Rattle.answers.proofs.exported.exported_start.Goals as goal

pub returns : goal.returns
unfolding plain_start
returns c = ap plain_started c.start.ensures ∙ sym c.piszczalin_start.ensures
