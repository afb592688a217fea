-- One answer only says what the contract says.
use mathlib.Core.Path.{sym, ◌∙◌}
use Rattle.rules.proofs.Answered.{used-one}
use Rattle.answers.proofs.calls.energy.Goals as goal

pub returns : goal.returns
returns c = used-one _ _ (c.energy.ensures ∙ sym c.energy-2.ensures)
