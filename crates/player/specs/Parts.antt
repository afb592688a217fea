-- What the parts of the player do, for their contracts.
use Rattle.std.specs.Prelude.{ℕ, zero, suc, ◌+◌, ◌-◌, ◌*◌, ◌≤◌, ◌≡◌, cond, List, [], ◌∷◌, eqb, get_or, set, drop, map, Some}
use Rattle.refusals.specs.declared.Refusal.{Refusal}
use Rattle.rules.specs.declared.State.{State}
use Rattle.rules.specs.Limits.{most_tasks}
use Rattle.rules.specs.Calls.{zero_state}
use Rattle.runfile.specs.declared.End.{End as RunEnd}
use Rattle.runfile.specs.Good.{GoodEnds}
use Rattle.player.specs.declared.Played.{Played}

-- nothing played
unfoldable pub unplayed_as : Refusal → Played
unplayed_as refusal = record { refusal = Some refusal; state = zero_state }

-- the ticks that the end lines name
unfoldable pub ticks_in : List RunEnd → List ℕ
ticks_in es = map (λ (e : RunEnd). e.tick.0) es

-- their tasks and their cycles
unfoldable pub tasks_in : List RunEnd → List ℕ
tasks_in es = map (λ (e : RunEnd). e.task) es

unfoldable pub cycles_in : List RunEnd → List ℕ
cycles_in es = map (λ (e : RunEnd). e.cycles.0) es

-- how many numbers in front of a list are t; the place of the first end line, from a place on, that is not of tick t
unfoldable pub in_front : ℕ → List ℕ → ℕ
in_front t [] = 0
in_front t (x ∷ xs) = cond (eqb x t) (suc (in_front t xs)) 0

unfoldable pub past_tick : List ℕ → ℕ → ℕ → ℕ
past_tick when t from = from + in_front t (drop from when)

-- a report with the entries of so many end lines, from a place on
unfoldable pub entered_for : ℕ → List ℕ → List ℕ → ℕ → List ℕ → List ℕ
entered_for zero who cycles from report = report
entered_for (suc k) who cycles from report = entered_for k who cycles (suc from) (set report (get_or who from 0 - 1) (get_or cycles from 0))

unfoldable pub entered : List ℕ → List ℕ → List ℕ → ℕ → ℕ → List ℕ → List ℕ
entered when who cycles t from report = entered_for (in_front t (drop from when)) who cycles from report

-- what a run asks for before its first tick: a state at tick 0, end lines that are good for its tasks, and a row for each tick
pub record Runnable (s : State) (es : List RunEnd) (run places : ℕ) : Type 0 where
  pub fresh : s.done.0 ≡ 0
  pub few : s.tasks.count ≤ most_tasks
  pub ends : GoodEnds s.tasks.count es
  pub room : run * (s.tasks.count + 2) ≤ places
