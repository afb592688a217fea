-- A run: a table that start accepts, and any calls of tick from there on. An accepted tick goes on; a refused one leaves everything as it is.
use Rattle.std.specs.Prelude.{ℕ, cond, List, [], ◌∷◌, map, eqb, length, get_or}
use Rattle.rules.specs.declared.State.{State}
use Rattle.rules.specs.Answers.{Started}
use Rattle.rules.specs.Answers.{Ticked}
use Rattle.rules.specs.Words.{total}
pub use Rattle.rules.specs.Words.{sum_to}
use Rattle.rules.specs.Calls.{start_of, now_of, tick_of, grants_of}

-- a table as start takes it, and start's answer to it
pub record Table : Type 0 where
  pub periods : List ℕ
  pub reserves : List ℕ
  pub speeds : List ℕ
  pub volts : List ℕ

unfoldable pub started : Table → Started
started table = start_of table.periods table.reserves table.speeds table.volts

-- a call of tick: its report, and the grants list that is lent to it; and tick's answer to it
pub record Call : Type 0 where
  pub report : List ℕ
  pub grants : List ℕ

unfoldable pub ticked : State → Call → Ticked
ticked s call = tick_of s call.report (length call.grants)

-- the state after calls of tick, one after the other
unfoldable pub after : State → List Call → State
after s [] = s
after s (call ∷ calls) = after (ticked s call).state calls

-- an accepted tick: the state before it, the speed that now tells of that state, the report, and the grants list as tick leaves it
pub record Step : Type 0 where
  pub before : State
  pub speed : ℕ
  pub report : List ℕ
  pub grants : List ℕ

unfoldable pub step_of : State → Call → Step
step_of s call =
    record {
      before = s;
      speed = (now_of s).speed.0;
      report = call.report;
      grants = grants_of s call.report call.grants;
    }

-- the accepted ticks among those calls, in their order
unfoldable pub steps : State → List Call → List Step
steps s [] = []
steps s (call ∷ calls) =
    cond (eqb (ticked s call).number 0)
    (step_of s call ∷ steps (ticked s call).state calls)
    (steps (ticked s call).state calls)

-- of the task at a place: the cycles granted to it, and its entries, tick by tick
unfoldable pub grants_to : ℕ → List Step → List ℕ
grants_to i xs = map (λ x. get_or x.grants i 0) xs

unfoldable pub entries_of : ℕ → List Step → List ℕ
entries_of i xs = map (λ x. get_or x.report i 0) xs

-- the cycles that one tick grants to all tasks
unfoldable pub granted : Step → ℕ
granted x = total (λ g. g) x.grants

-- a statement of every accepted tick
abbrev pub Each : (Step → Type 0) → List Step → Type 0
Each P [] = Unit {0}
Each P (x ∷ xs) = P x × Each P xs
