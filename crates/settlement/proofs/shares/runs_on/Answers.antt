-- `runs_on` is the second bullet as written.
use Rattle.std.proofs.Common.{ap, ◌+◌, ◌∙◌, ℕ, min}
use lib.Dec.{eqb}
use Rattle.units.specs.Units.{cycles}
use Rattle.settlement.specs.declared.shares.Share.{Share}
use Rattle.rules.specs.Settlement.{remaining, uses_up}
use Rattle.settlement.specs.Parts.{runs_on}
use Rattle.settlement.proofs.shares.runs_on.Goals as goal

pub returns : goal.returns
unfolding runs_on remaining uses_up
returns c =
    let j = c.args.job in
    let share : ℕ → Share = λ given. record { given = cycles given; over = eqb (j.run.0 + given) j.reserve.0; cut = eqb (j.run.0 + given) j.reserve.0 } in
    ap share (c.min-least.ensures ∙ ap (min c.args.left.0) c.saturating_sub.ensures)
