-- What one tick answers of a state, and no more than it can change.
use Rattle.std.specs.Prelude.{ℕ, List, Result, Ok, Err}
use Rattle.units.specs.declared.Ticks.{Ticks}
use Rattle.refusals.specs.declared.Refusal.{Refusal}
use Rattle.refusals.specs.Refusals.{number_of}
use Rattle.rules.specs.declared.Jobs.{Jobs}
use Rattle.rules.specs.declared.Tally.{Tally}
use Rattle.rules.specs.declared.State.{State}
use Rattle.rules.specs.Calls.{tick_of}
use Rattle.stepping.specs.declared.Stepped.{Stepped}

-- a number, 0 where the tick is accepted, and the ticks done, the jobs and the counts, of the next state or of the one given
pub record Change : Type 0 where
  pub number : ℕ
  pub done : Ticks
  pub jobs : Jobs
  pub tally : Tally

-- Its number, and the ticks done, the jobs and the counts of the state that tick answers: a tick leaves the tasks and the speeds as they are.
unfoldable pub stepped_of : State → List ℕ → ℕ → Change
stepped_of s report grantPlaces =
    let answer = tick_of s report grantPlaces in
    record {
      number = answer.number;
      done = answer.state.done;
      jobs = answer.state.jobs;
      tally = answer.state.tally;
    }

-- what step's answer, or its refusal, says in those: 0 beside what it changes; beside a refusal its number, and all as it was given
unfoldable pub stepped_by : State → Result Stepped Refusal → Change
stepped_by given (Ok step) = record { number = 0; done = step.done; jobs = step.jobs; tally = step.tally }
stepped_by given (Err r) =
    record { number = number_of r; done = given.done; jobs = given.jobs; tally = given.tally }
