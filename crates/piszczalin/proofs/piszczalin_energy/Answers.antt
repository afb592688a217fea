-- Bytes that are no marks are refused with 9; else the answer is that of the state.
use mathlib.Core.Path.{sym, ap, ◌∙◌}
use Rattle.rules.specs.declared.State.{State}
use Rattle.rules.specs.Calls.{used_by, energy_of}
use Rattle.piszczalin.specs.Plain.{marks_good, plain_used}
use Rattle.piszczalin.proofs.PlainLaws.{energy_bad, energy_good}
use Rattle.piszczalin.proofs.piszczalin_energy.Goals as goal

pub returns-then-not-good : goal.returns-then-not-good
unfolding marks_good plain_used used_by
returns-then-not-good c =
    c.from.ensures ∙ energy_bad c.args.state (sym c.good.ensures ∙ c.if-not-good.true)

pub returns : goal.returns
unfolding marks_good
returns c =
    c.from-2.ensures
    ∙ ap plain_used c.energy.ensures
    ∙ ap (λ (s : State). plain_used (energy_of s)) c.state_of.ensures
    ∙ energy_good c.args.state (sym c.good.ensures ∙ c.if-not-good.false)
