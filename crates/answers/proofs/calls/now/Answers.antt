-- One answer only says what the contract says.
use mathlib.Core.Path.{sym, ◌∙◌}
use Rattle.rules.proofs.Answered.{told-one}
use Rattle.answers.proofs.calls.now.Goals as goal

pub returns : goal.returns
returns c = told-one _ _ (c.now.ensures ∙ sym c.now-2.ensures)
