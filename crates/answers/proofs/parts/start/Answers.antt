-- One answer only says what the contract says.
use mathlib.Core.Path.{sym, ◌∙◌}
use Rattle.rules.proofs.Answered.{started-one}
use Rattle.answers.proofs.parts.start.Goals as goal

pub returns : goal.returns
returns c = started-one _ _ (c.start.ensures ∙ sym c.start-2.ensures)
