-- The state and the answers of now and energy in plain numbers: a mark is a byte, a choice is two numbers.
use Rattle.std.specs.Prelude.{ℕ, Bool, cond, map, eqb, leb}
use Rattle.units.specs.Units.{ticks}
use Rattle.rules.specs.declared.State.{State}
use Rattle.rules.specs.Answers.{Told, Used}
use Rattle.rules.specs.Choice.{task_of, due_of}
use Rattle.rules.specs.Words.{every}
use Rattle.piszczalin.specs.declared.PlainState.{PlainState}
use Rattle.piszczalin.specs.declared.PlainTold.{PlainTold}
use Rattle.piszczalin.specs.declared.PlainUsed.{PlainUsed}

-- A mark is 1 for a job that is over and 0 for one that is not; no other byte is a mark.
unfoldable pub is_mark : ℕ → Bool
is_mark byte = leb byte 1

unfoldable pub over_of : ℕ → Bool
over_of mark = eqb mark 1

unfoldable pub mark_of : Bool → ℕ
mark_of over = cond over 1 0

-- All sixteen bytes are marks, those of unused places too.
unfoldable pub marks_good : PlainState → Bool
marks_good s = every is_mark s.jobs.over

-- The state that a plain state is, where its marks are good, and the plain state of a state.
unfoldable pub state_of : PlainState → State
state_of s =
    record {
      done = s.done;
      tasks = s.tasks;
      jobs = record { run = s.jobs.run; over = map over_of s.jobs.over };
      ladder = s.ladder;
      tally = s.tally;
    }

unfoldable pub plain_state_of : State → PlainState
plain_state_of s =
    record {
      done = s.done;
      tasks = s.tasks;
      jobs = record { run = s.jobs.run; over = map mark_of s.jobs.over };
      ladder = s.ladder;
      tally = s.tally;
    }

-- now's answer: the number and the speed as they are; the chosen task and its deadline, 0 and 0 where nothing is ready.
unfoldable pub plain_of : Told → PlainTold
plain_of told = record { number = told.number; task = task_of told.choice; deadline = ticks (due_of told.choice); speed = told.speed }

-- energy's answer, number by number
unfoldable pub plain_used : Used → PlainUsed
plain_used used = record { number = used.number; energy = used.energy }
