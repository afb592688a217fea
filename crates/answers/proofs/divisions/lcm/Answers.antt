-- One answer only has the least common multiple, or tells that it is above the cap.
use mathlib.Core.Path.{sym, ◌∙◌}
use Rattle.divisors.proofs.DivisorLaws.{lcm_capped}
use Rattle.answers.proofs.divisions.lcm.Goals as goal

pub returns : goal.returns
returns c = lcm_capped _ _ _ c.lcm.ensures ∙ sym (lcm_capped _ _ _ c.lcm-2.ensures)
