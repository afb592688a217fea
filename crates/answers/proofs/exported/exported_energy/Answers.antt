-- Both contracts name one answer, by the law on the plain form of a state.
use mathlib.Core.Path.{sym, ap, ◌∙◌}
use Rattle.piszczalin.specs.Plain.{plain_used}
use Rattle.piszczalin.specs.Calls.{plain_energy}
use Rattle.piszczalin.proofs.PlainLaws.{energy_plain}
use Rattle.answers.proofs.exported.exported_energy.Goals as goal

pub returns : goal.returns
returns c =
    ap plain_used c.energy.ensures
    ∙ energy_plain c.args.state
    ∙ ap plain_energy (sym c.requires)
    ∙ sym c.piszczalin_energy.ensures
