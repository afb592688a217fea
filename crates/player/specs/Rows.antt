-- A run as rows of numbers in a lent list: for each tick its speed, the grants of tasks 1 to n and the idle cycles.
use Rattle.std.specs.Prelude.{ℕ, ◌+◌, ◌*◌, Bool, true, cond, ◌||◌, not, List, [], ◌∷◌, ◌++◌, eqb, leb, length, Option, Some, None, Result, Ok, Err}
use Rattle.std.proofs.lemmas.List.Edits.{sets}
use Rattle.refusals.specs.declared.Refusal.{Refusal}
use Rattle.refusals.specs.Refusals.{number_of}
use Rattle.rules.specs.declared.State.{State}
use Rattle.runfile.specs.declared.RunFile.{RunFile}
use Rattle.runfile.specs.RunFile.{run_file_of}
use Rattle.player.specs.declared.Played.{Played}
use Rattle.player.specs.Plays.{Tick, Play, start_in, play_of}

-- the row of a tick, and the rows of ticks one after the other
unfoldable pub row_of : Tick → List ℕ
row_of x = x.speed ∷ (x.grants ++ (x.idle ∷ []))

unfoldable pub rows_of : List Tick → List ℕ
rows_of [] = []
rows_of (x ∷ xs) = row_of x ++ rows_of xs

-- whether so many places are enough for a row of each tick that the run line names; a run that ends before its first tick needs none
unfoldable pub enough : Result RunFile Refusal → ℕ → Bool
enough (Ok f) places = not (eqb (start_in f).number 0) || leb (f.ticks.0 * (length f.tasks.firsts.items + 2)) places
enough (Err r) places = true

-- how a run ended: number 0 and the final state, or the number of the refusal and the state that it was met in
pub record Ending : Type 0 where
  pub number : ℕ
  pub state : State

unfoldable pub ending_of : Play → Ending
ending_of p = record { number = p.number; state = p.state }

-- what play answers for a text and a list of so many places: how the run ended; or that there is no room, and nothing was played
unfoldable pub played_of : List ℕ → ℕ → Option Ending
played_of text places = cond (enough (run_file_of text) places) (Some (ending_of (play_of text))) None

-- the lent list after it: the rows of the ticks done, from its first place on; without room, as it was
unfoldable pub rows_in : List ℕ → List ℕ → List ℕ
rows_in text rows = cond (enough (run_file_of text) (length rows)) (sets rows 0 (rows_of (play_of text).ticks)) rows

-- what an answer of play says of that: 0 where it has no refusal, or the number of its refusal; and its state
abbrev pub number_in : Option Refusal → ℕ
number_in None = 0
number_in (Some r) = number_of r

unfoldable pub ending_by : Played → Ending
ending_by p = record { number = number_in p.refusal; state = p.state }

unfoldable pub played_by : Option Played → Option Ending
played_by (Some p) = Some (ending_by p)
played_by None = None
