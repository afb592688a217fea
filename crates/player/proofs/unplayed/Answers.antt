-- `unplayed` answers the all-zero state.
use Rattle.rules.proofs.Zero.{default_zero}
use Rattle.player.specs.Parts.{unplayed_as}
use Rattle.player.proofs.unplayed.Goals as goal

pub returns : goal.returns
unfolding unplayed_as
returns c = rw (default_zero c.default.result c.default.ensures)
