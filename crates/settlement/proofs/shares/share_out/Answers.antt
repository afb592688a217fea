-- `share_out` is rule 4 for one ready job while something is left: its test chooses the bullet.
use Rattle.std.proofs.Common.{ap, ◌∙◌, Some}
use Rattle.settlement.proofs.Bullets.{by_entry_0, by_entry_u}
use Rattle.settlement.proofs.shares.share_out.Goals as goal

pub returns-then-entry-eq0 : goal.returns-then-entry-eq0
returns-then-entry-eq0 c = ap Some c.runs_on.ensures ∙ by_entry_0 _ _ _ c.requires c.if-entry-eq0.true

pub returns : goal.returns
returns c = c.finishes.ensures ∙ by_entry_u _ _ _ c.requires c.if-entry-eq0.false
