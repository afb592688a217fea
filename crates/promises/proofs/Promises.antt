-- The theorems, one for each statement of specs/.
use Rattle.promises.specs.NeverLate.{NeverLateInAnyRun, FreshStartIsOnCourse, AnyTickThatCarriesTheLoad}
use Rattle.promises.specs.ExactCycles.{ExactlyTheCycles}
use Rattle.promises.specs.TurnedAway.{TurnedAwayForLoad}
use Rattle.promises.specs.PaperTest.{Figure1, StartTestsFigure1, Figure4, LowestSpeedIsTold, EarliestDeadlineIsTold}
use Rattle.promises.specs.PaperLoad.{LoadIsByTheReports}
use Rattle.promises.specs.Counts.{CountsComeFromTheGrants}
use Rattle.promises.specs.StaysSound.{EveryRunStaysSound}
use Rattle.promises.specs.EitherSide.{EitherSideOfTheLine}
use Rattle.promises.proofs.OnTimeProof.{fresh_on_course, in_any_run}
use Rattle.promises.proofs.PlainCourse.{any_tick}
use Rattle.promises.proofs.ExactProof.{exactly_the_cycles}
use Rattle.promises.proofs.Starves.{some_job_starves}
use Rattle.promises.proofs.Fractions.{figure_1, start_tests, figure_4}
use Rattle.promises.proofs.NowTells.{lowest_told, earliest_told}
use Rattle.promises.proofs.LoadProof.{load_by_reports}
use Rattle.promises.proofs.CountsProof.{counts_from_grants}
use Rattle.promises.proofs.SoundRuns.{every_run_sound}
use Rattle.promises.proofs.EitherSideRows.{every_row}

-- Demand 3: never late, in any run; and why, for any tick whose speed carries the load wherever a job is ready.
pub never_late : NeverLateInAnyRun
never_late = in_any_run

pub fresh_start : FreshStartIsOnCourse
fresh_start = fresh_on_course

pub any_tick_on_time : AnyTickThatCarriesTheLoad
any_tick_on_time = any_tick

-- Demand 3: exactly the cycles, and never more than the reserve.
pub exact_cycles : ExactlyTheCycles
exact_cycles = exactly_the_cycles

-- Demand 3: a table turned away for load is one that no order of running could serve.
pub turned_away : TurnedAwayForLoad
turned_away = some_job_starves

-- Demand 2: the paper's tests, at every common multiple of the periods; the lowest speed that carries the load; the earliest deadline.
pub paper_test_1 : Figure1
paper_test_1 = figure_1

pub start_by_paper : StartTestsFigure1
start_by_paper = start_tests

pub paper_test_4 : Figure4
paper_test_4 = figure_4

pub lowest_speed : LowestSpeedIsTold
lowest_speed = lowest_told

pub earliest_deadline : EarliestDeadlineIsTold
earliest_deadline = earliest_told

-- Demand 2: Figure 4's uses over a run, and so the load, go by the reports since each release.
pub paper_load : LoadIsByTheReports
paper_load = load_by_reports

-- Demand 2: the counts come from the grants.
pub counts : CountsComeFromTheGrants
counts = counts_from_grants

-- Demand 3, "any run": it never meets 9, nor 12, and goes on to its last tick.
pub stays_sound : EveryRunStaysSound
stays_sound = every_run_sound

-- Document 01, "Either side of the line": (a) to (l).
pub either_side : EitherSideOfTheLine
either_side = every_row
