-- The theorems, one for each statement of specs/Promised and specs/PlaysAreRuns.
use mathlib.Core.Path.{ap, sym, ◌∙◌}
use Rattle.rules.specs.Answers.{Started}
use Rattle.played.specs.PlaysAreRuns.{EveryPlayIsARun, NeverLateOnTheBench, EnergyIsOfTheTicks}
use Rattle.played.proofs.BenchRuns.{started_in, play_is_run, not_late, energy_shown}
use Rattle.played.specs.Promised.{EveryRunFromASoundState, EveryPlay, OnlyTheseNumbers, AlwaysEnough}
use Rattle.played.proofs.PlayLaws.{plays_on}
use Rattle.played.proofs.TextLaws.{text_right, text_number, text_enough}

-- A run from a sound state on stays sound, and counts and shows its ticks.
pub every_run : EveryRunFromASoundState
unfolding EveryRunFromASoundState
every_run = plays_on

-- So is the run of any text.
pub every_play : EveryPlay
unfolding EveryPlay
every_play = text_right

-- It is refused with 1 to 8, 13 and 14 only.
pub only_these : OnlyTheseNumbers
unfolding OnlyTheseNumbers
only_these = text_number

-- 180,000 places are enough for its rows.
pub always_enough : AlwaysEnough
unfolding AlwaysEnough
always_enough = text_enough

-- What the bench plays is a run.
pub every_play_runs : EveryPlayIsARun
unfolding EveryPlayIsARun
every_play_runs text f is n = play_is_run text f is (ap (λ (r : Started). r.number) (sym (started_in f)) ∙ n)

-- Demand 3: never late, on the bench.
pub never_late_played : NeverLateOnTheBench
unfolding NeverLateOnTheBench
never_late_played = not_late

-- Demand 2: the energy of its total is that of the ticks shown.
pub energy_of_ticks : EnergyIsOfTheTicks
unfolding EnergyIsOfTheTicks
energy_of_ticks = energy_shown
