-- A run file played: its ticks, and how the run ended. Everything that is shown of a run is a rendering of this.
use Rattle.std.specs.Prelude.{ℕ, zero, suc, cond, ◌&&◌, List, [], ◌∷◌, eqb, map, replicate, Result, Ok, Err}
use Rattle.rules.specs.declared.State.{State}
use Rattle.rules.specs.Answers.{Started}
use Rattle.rules.specs.Words.{up_to}
use Rattle.rules.specs.Choice.{speed_of}
use Rattle.rules.specs.Settlement.{settled}
use Rattle.rules.specs.Calls.{start_of, now_of, tick_of, grants_of, zero_state}
use Rattle.runfile.specs.declared.End.{End as RunEnd}
use Rattle.runfile.specs.declared.RunFile.{RunFile}
use Rattle.refusals.specs.declared.Refusal.{Refusal}
use Rattle.runfile.specs.RunFile.{run_file_of}

-- a tick of a run: its speed, the grants of tasks 1 to n, and the idle cycles
pub record Tick : Type 0 where
  pub speed : ℕ
  pub grants : List ℕ
  pub idle : ℕ

-- a run: the ticks done; and how it ended: number 0 and the final state, or the number of the refusal and the state that it was met in
pub record Play : Type 0 where
  pub ticks : List Tick
  pub number : ℕ
  pub state : State

-- an end line: at this tick this task, from 1, finishes with so many cycles in all
pub record End : Type 0 where
  pub tick : ℕ
  pub task : ℕ
  pub cycles : ℕ

-- the end lines of a run file as a list
unfoldable pub ends_of : List RunEnd → List End
ends_of es = map (λ (e : RunEnd). record { tick = e.tick.0; task = e.task; cycles = e.cycles.0 }) es

unfoldable pub ends_in : RunFile → List End
ends_in f = ends_of f.ends.items

-- the entry of a task in a tick's report: the cycles of the end line that names both; 0, no finish, where none does
unfoldable pub entry_of : List End → ℕ → ℕ → ℕ
entry_of [] tick task = 0
entry_of (e ∷ es) tick task = cond (eqb e.tick tick && eqb e.task task) e.cycles (entry_of es tick task)

-- the report of a tick: one entry for each of n tasks
unfoldable pub report_of : List End → ℕ → ℕ → List ℕ
report_of ends n tick = up_to n (λ i. entry_of ends tick (suc i))

-- a tick as it is played: the speed that now tells, the grants that tick writes, and what remains of the speed by rule 4
unfoldable pub tick_played : State → List ℕ → Tick
tick_played s report =
    record {
      speed = (now_of s).speed.0;
      grants = grants_of s report (replicate s.tasks.count 0);
      idle = (settled s (speed_of s) report).left.0;
    }

-- the end of a run, and a tick in front of the rest of a run
unfoldable pub ended : ℕ → State → Play
ended number s = record { ticks = []; number = number; state = s }

unfoldable pub before : Tick → Play → Play
before x p = record { ticks = x ∷ p.ticks; number = p.number; state = p.state }

-- so many ticks from a state on, each with the report of its end lines; a refused tick ends the run
unfoldable pub play_from : List End → ℕ → State → Play
play_from ends zero s = ended 0 s
play_from ends (suc left) s =
    let report = report_of ends s.tasks.count s.done.0 in
    let r = tick_of s report s.tasks.count in
    cond (eqb r.number 0)
    (before (tick_played s report) (play_from ends left r.state))
    (ended r.number s)

-- start's answer to the table of a run file: its task lines and its speed lines
abbrev pub start_in : RunFile → Started
start_in f =
    start_of f.tasks.firsts.items f.tasks.seconds.items
    f.speeds.firsts.items f.speeds.seconds.items

-- a run file: start, and then its ticks; a refused start ends the run
unfoldable pub play_file : RunFile → Play
play_file f =
    let r = start_in f in
    cond (eqb r.number 0)
    (play_from (ends_in f) f.ticks.0 r.state)
    (ended r.number r.state)

-- any text: a text that is no run file ends with 14 before a tick
unfoldable pub play_read : Result RunFile Refusal → Play
play_read (Ok f) = play_file f
play_read (Err r) = ended 14 zero_state

unfoldable pub play_of : List ℕ → Play
play_of text = play_read (run_file_of text)
