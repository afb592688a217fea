-- `energy` is the survey and rule 6: a sound state's sum fits 64 bits.
use mathlib.Core.Path.{sym, ◌∙◌}
use native.Mathlib.Omega.{arith}
use Rattle.std.proofs.lemmas.Result.{err_from_is_err_and}
use Rattle.rules.proofs.Soundness.{Sound, sound_facts}
use Rattle.rules.proofs.Answered.{energy-err, energy-ok}
use Rattle.rules.proofs.Energies.{energy_most}
use Rattle.rules.proofs.Loads.{top_limit, volts_limit}
use Rattle.stepping.proofs.TickLaws.{none_or, sound_told, unsound_told}
use Rattle.governor.proofs.energy.Goals as goal

pub returns-in_err-ok_or : goal.returns-in_err-ok_or
returns-in_err-ok_or c =
    let s = c.args.state in
    let none = none_or _ _ _ c.in_err-ok_or.ensures.value in
    let p = err_from_is_err_and c.from_residual.result c.from_residual.ensures.1 in
    rw (p.1, p.2, none.1) (energy-err s (unsound_told s (sym c.survey-load.ensures ∙ none.0)))

pub energy_of-requires : goal.energy_of-requires
energy_of-requires c = let s = c.args.state in
    let f : Sound s = sound_facts s (sound_told s _ (sym c.survey-load.ensures ∙ c.in_ok-ok_or.ensures.ok_part)).0 in
    record { listed = f.speeds_most; fits = omega (arith, energy_most s f (top_limit s f) (λ i h. volts_limit s f i h)) }

pub returns : goal.returns
returns c = let s = c.args.state in
    rw c.energy_of.ensures (energy-ok s (sound_told s _ (sym c.survey-load.ensures ∙ c.in_ok-ok_or.ensures.ok_part)).0)
