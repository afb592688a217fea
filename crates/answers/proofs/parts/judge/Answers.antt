-- One answer only says what the contract says.
use mathlib.Core.Path.{sym, ◌∙◌}
use Rattle.admission.proofs.Verdicts.{judged-one}
use Rattle.answers.proofs.parts.judge.Goals as goal

pub returns : goal.returns
returns c = judged-one _ _ (c.judge.ensures ∙ sym c.judge-2.ensures)
