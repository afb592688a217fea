-- "Run files": what a run file that was read keeps, for those who play it.
use Rattle.std.specs.Prelude.{ℕ, List, ◌+◌, ◌≤◌, ◌<◌, ◌≡◌, ◌⊎◌, length, get_or}
use Rattle.runfile.specs.declared.Pairs.{Pairs}
use Rattle.units.specs.Units.{ticks, cycles}
use Rattle.runfile.specs.declared.End.{End}
use Rattle.runfile.specs.declared.RunFile.{RunFile}
use Rattle.runfile.specs.Groups.{most_task_lines, most_speed_lines, most_end_lines}
use Rattle.runfile.specs.RunFile.{most_run_ticks}

-- "rise strictly by tick and then task": an end line of tick and task after one of tickBefore and taskBefore
abbrev pub Rises : ℕ → ℕ → ℕ → ℕ → Type 0
Rises tickBefore taskBefore tick task = (tickBefore < tick) ⊎ ((tickBefore ≡ tick) × (taskBefore < task))

-- task lines or speed lines, at most so many, each with both numbers
pub record GoodPairs (most : ℕ) (p : Pairs) : Type 0 where
  pub few : length p.firsts.items ≤ most
  pub both : length p.seconds.items ≡ length p.firsts.items

-- the end line at a place, all zero past the last
abbrev pub end_of : List End → ℕ → End
end_of es k = get_or es k (record { tick = ticks 0; task = 0; cycles = cycles 0 })

-- end lines, at most so many as there is room for; they rise, name one of the tasks and at least 1 cycle
pub record GoodEnds (known : ℕ) (es : List End) : Type 0 where
  pub few : length es ≤ most_end_lines
  pub rise : (k : ℕ) → k + 1 < length es → Rises (end_of es k).tick.0 (end_of es k).task (end_of es (k + 1)).tick.0 (end_of es (k + 1)).task
  pub exists : (k : ℕ) → k < length es → (1 ≤ (end_of es k).task) × ((end_of es k).task ≤ known)
  pub used : (k : ℕ) → k < length es → 1 ≤ (end_of es k).cycles.0

-- the whole file: its groups, its ticks "0 to 10,000", and end lines "a tick below the run's"
pub record GoodFile (f : RunFile) : Type 0 where
  pub tasks : GoodPairs most_task_lines f.tasks
  pub speeds : GoodPairs most_speed_lines f.speeds
  pub ends : GoodEnds (length f.tasks.firsts.items) f.ends.items
  pub ticks : f.ticks.0 ≤ most_run_ticks
  pub below : (k : ℕ) → k < length f.ends.items → (end_of f.ends.items k).tick.0 < f.ticks.0
