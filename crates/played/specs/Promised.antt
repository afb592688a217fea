-- What is promised of every run that the bench plays: its ticks, the state that it ends in, and the numbers that it can be refused with.
use Rattle.std.specs.Prelude.{ℕ, ◌+◌, ◌*◌, ◌≤◌, ◌≡◌, true, List, [], ◌∷◌, ◌⊎◌, length, Ok}
use Rattle.units.specs.declared.Cycles.{Cycles}
use Rattle.rules.specs.declared.State.{State}
use Rattle.rules.specs.Words.{total}
use Rattle.rules.specs.Limits.{most_tasks, most_speed, most_ticks}
use Rattle.rules.specs.State.{Shaped}
use Rattle.rules.specs.Numbers.{sound}
use Rattle.runfile.specs.declared.RunFile.{RunFile}
use Rattle.runfile.specs.RunFile.{most_run_ticks}
use Rattle.runfile.specs.RunFile.{run_file_of}
use Rattle.player.specs.Plays.{End, Tick, Play, play_from, play_of}
use Rattle.player.specs.Rows.{rows_of, enough}

-- the cycles that a tick grants to all tasks, and those that the counts of all speeds come to
abbrev pub granted_in : Tick → ℕ
granted_in x = total (λ g. g) x.grants

abbrev pub counted_in : State → ℕ
counted_in s = total (λ (c : Cycles). c.0) s.tally.counts

-- A tick of n tasks: one grant for each, and the grants and the idle cycles together are its speed, from 1 to 1,000,000.
pub record TickRight (n : ℕ) (x : Tick) : Type 0 where
  pub one_each : length x.grants ≡ n
  pub shared : x.speed ≡ granted_in x + x.idle
  pub some : 1 ≤ x.speed
  pub most : x.speed ≤ most_speed

-- a statement of every tick
abbrev pub EachTick : (Tick → Type 0) → List Tick → Type 0
EachTick P [] = Unit {0}
EachTick P (x ∷ xs) = P x × EachTick P xs

-- A run of so many ticks from a sound state on: it ends in a sound state of the same table, each tick shown is right, adds 1 to t and is counted,
-- and all of the ticks are shown unless one is refused, and then with 13.
pub record PlaysOn (s : State) (left : ℕ) (p : Play) : Type 0 where
  pub is_sound : sound p.state ≡ true
  pub is_shaped : Shaped p.state
  pub same_tasks : p.state.tasks ≡ s.tasks
  pub same_ladder : p.state.ladder ≡ s.ladder
  pub done : p.state.done.0 ≡ s.done.0 + length p.ticks
  pub no_more : length p.ticks ≤ left
  pub ends : ((p.number ≡ 0) × (length p.ticks ≡ left)) ⊎ (p.number ≡ 13)
  pub ticks_right : EachTick (TickRight s.tasks.count) p.ticks
  pub rows_long : length (rows_of p.ticks) ≡ length p.ticks * (s.tasks.count + 2)
  pub granted_all : counted_in p.state ≡ counted_in s + total granted_in p.ticks
  pub idle_all : p.state.tally.idle.0 ≡ s.tally.idle.0 + total (λ x. x.idle) p.ticks

unfoldable pub EveryRunFromASoundState : Type 0
EveryRunFromASoundState =
    (ends : List End) (left : ℕ) (s : State) → sound s ≡ true → Shaped s → s.done.0 + left ≤ most_ticks
    → PlaysOn s left (play_from ends left s)

-- The run of any text, be it a run file or not.
pub record PlayRight (text : List ℕ) (p : Play) : Type 0 where
  -- at most 10,000 ticks of at most 16 tasks, each of them right, and a row of n + 2 numbers for each
  pub done : p.state.done.0 ≡ length p.ticks
  pub tasks_most : p.state.tasks.count ≤ most_tasks
  pub ticks_most : length p.ticks ≤ most_run_ticks
  pub ticks_right : EachTick (TickRight p.state.tasks.count) p.ticks
  pub rows_long : length (rows_of p.ticks) ≡ length p.ticks * (p.state.tasks.count + 2)
  -- the cycles granted and idle in all are those of the ticks shown, at most 10,000 x 1,000,000 together
  pub granted_all : counted_in p.state ≡ total granted_in p.ticks
  pub idle_all : p.state.tally.idle.0 ≡ total (λ x. x.idle) p.ticks
  pub cycles_most : counted_in p.state + p.state.tally.idle.0 ≤ 10_000_000_000
  -- not refused, its last state is sound, and the text is a run file and the run has as many ticks as the run line names
  pub is_sound : p.number ≡ 0 → sound p.state ≡ true
  pub all_played : p.number ≡ 0 → (f : RunFile) × (run_file_of text ≡ Ok f) × (length p.ticks ≡ f.ticks.0)

unfoldable pub EveryPlay : Type 0
EveryPlay = (text : List ℕ) → PlayRight text (play_of text)

-- The bench refuses with 1 to 8, 13 and 14 only; 0 is a run that ends with its total.
abbrev pub OfTheBench : ℕ → Type 0
OfTheBench number = (number ≤ 8) ⊎ ((number ≡ 13) ⊎ (number ≡ 14))

unfoldable pub OnlyTheseNumbers : Type 0
OnlyTheseNumbers = (text : List ℕ) → OfTheBench (play_of text).number

-- 180,000 places are enough for the rows of any text: 10,000 ticks of 16 + 2 numbers.
abbrev pub most_places : ℕ
most_places = 180_000

unfoldable pub AlwaysEnough : Type 0
AlwaysEnough = (text : List ℕ) → enough (run_file_of text) most_places ≡ true
