-- One answer only has the least common multiple, or tells that it is above the cap.
use mathlib.Core.Path.{sym, ◌∙◌}
use Rattle.divisors.proofs.DivisorLaws.{lcm_of_is}
use Rattle.answers.proofs.divisions.lcm_of.Goals as goal

pub returns : goal.returns
returns c = lcm_of_is _ _ c.lcm_of.ensures ∙ sym (lcm_of_is _ _ c.lcm_of-2.ensures)
