-- What the bench plays is a run as `promises` speaks of it: start, and a call of tick for each tick that it shows. So each promise about runs is one about the bench.
use Rattle.std.specs.Prelude.{ℕ, ◌-◌, ◌*◌, ◌<◌, ◌≡◌, List, map, ◌⊎◌, length, replicate, Ok}
use Rattle.rules.specs.Words.{up_to, total}
use Rattle.rules.specs.Calls.{energy_of}
use Rattle.runfile.specs.declared.RunFile.{RunFile}
use Rattle.runfile.specs.RunFile.{run_file_of}
use Rattle.player.specs.Plays.{End, Tick, Play, ends_in, report_of, play_of}
use Rattle.played.specs.Promised.{granted_in}
use Rattle.promises.specs.Runs.{Table, Call, Step, started, ticked, after, steps, granted}
use Rattle.promises.specs.Counts.{volts_beside}

-- the table of a run file: its task lines and its speed lines
unfoldable pub table_in : RunFile → Table
table_in f =
    record {
      periods = f.tasks.firsts.items;
      reserves = f.tasks.seconds.items;
      speeds = f.speeds.firsts.items;
      volts = f.speeds.seconds.items;
    }

-- the call of a tick of n tasks: the report of its end lines, and a grants list of zeros
unfoldable pub call_at : List End → ℕ → ℕ → Call
call_at ends n tick = record { report = report_of ends n tick; grants = replicate n 0 }

-- the calls of the first so many ticks of a run file
unfoldable pub calls_in : RunFile → ℕ → List Call
calls_in f many = up_to many (call_at (ends_in f) (length f.tasks.firsts.items))

-- an accepted tick as the bench shows it: what is not granted is idle
unfoldable pub shown : Step → Tick
shown x = record { speed = x.speed; grants = x.grants; idle = x.speed - granted x }

-- a play is the run of these calls: it ends in the state after them, and shows each of their accepted ticks
pub record IsTheRun (f : RunFile) (p : Play) : Type 0 where
  pub state : p.state ≡ after (started (table_in f)).state (calls_in f (length p.ticks))
  pub ticks : p.ticks ≡ map shown (steps (started (table_in f)).state (calls_in f (length p.ticks)))
  -- not refused, it shows all of the run line's ticks; else it shows fewer, and the call of the next one is refused with 13
  pub ends : ((p.number ≡ 0) × (length p.ticks ≡ f.ticks.0))
      ⊎ ((p.number ≡ 13) × ((length p.ticks < f.ticks.0) × ((ticked p.state (call_at (ends_in f) (length f.tasks.firsts.items) (length p.ticks))).number ≡ 13)))

-- so is that of every run file whose table start takes
unfoldable pub EveryPlayIsARun : Type 0
EveryPlayIsARun =
    (text : List ℕ) (f : RunFile) → run_file_of text ≡ Ok f → (started (table_in f)).number ≡ 0
    → IsTheRun f (play_of text)

-- Demand 3, of the bench: whatever text it is fed, no job is ever late.
unfoldable pub NeverLateOnTheBench : Type 0
NeverLateOnTheBench = (text : List ℕ) → (play_of text).state.tally.late ≡ 0

-- Rule 6, of one tick: its grants x volts x volts, by the volts that the table lists beside its speed.
abbrev pub cost_in : Table → Tick → ℕ
cost_in table x = granted_in x * volts_beside table x.speed * volts_beside table x.speed

-- Demand 2, of the bench: a run that is not refused is that of a run file, and its energy is that of the ticks shown.
unfoldable pub EnergyIsOfTheTicks : Type 0
EnergyIsOfTheTicks =
    (text : List ℕ) → (play_of text).number ≡ 0
    → (f : RunFile) × (run_file_of text ≡ Ok f) × ((energy_of (play_of text).state).energy ≡ total (cost_in (table_in f)) (play_of text).ticks)
