-- A run never meets 9, nor 12: what start accepts is sound, and every call of tick keeps it so. And it goes on: until 1,000,000,000 ticks are accepted, a report of zeros of the right length is accepted and 10 is never answered.
use Rattle.std.specs.Prelude.{ℕ, ◌+◌, ◌<◌, ◌≡◌, true, cond, List, [], ◌∷◌, ◌↔◌, eqb, length, get_or}
use Rattle.rules.specs.State.{Shaped}
use Rattle.rules.specs.Limits.{most_ticks}
use Rattle.rules.specs.Choice.{speed_of}
use Rattle.rules.specs.Numbers.{sound}
use Rattle.rules.specs.Calls.{now_of, energy_of}
use Rattle.promises.specs.Runs.{Table, Call, Step, Each, started, ticked, after, steps}

-- the steps are the ticks n, n + 1, .. in their order
abbrev pub InTurn : ℕ → List Step → Type 0
InTurn n [] = Unit {0}
InTurn n (x ∷ xs) = (x.before.done.0 ≡ n) × InTurn (n + 1) xs

pub record StaysSound (table : Table) (calls : List Call) : Type 0 where
  pub is_sound : sound (after (started table).state calls) ≡ true
  pub is_shaped : Shaped (after (started table).state calls)
  -- the accepted ticks are the ticks 0, 1, .. of the run, and the speed that now tells is the one that rule 3 gives the tick
  pub in_turn : InTurn 0 (steps (started table).state calls)
  pub at_speed : Each (λ (x : Step). x.speed ≡ speed_of x.before) (steps (started table).state calls)
  -- now answers 0, or 10 where all ticks are done; energy answers 0
  pub now_number_lem : (now_of (after (started table).state calls)).number ≡ cond (eqb (length (steps (started table).state calls)) most_ticks) 10 0
  pub energy_number_lem : (energy_of (after (started table).state calls)).number ≡ 0
  -- the next tick is never 9 or 12, and 10 exactly where all ticks are done
  pub tick_never_9 : (call : Call) → (ticked (after (started table).state calls) call).number ≡ 9 → ⊥
  pub tick_never_12 : (call : Call) → (ticked (after (started table).state calls) call).number ≡ 12 → ⊥
  pub tick_10 : (call : Call) → ((ticked (after (started table).state calls) call).number ≡ 10) ↔ (length (steps (started table).state calls) ≡ most_ticks)
  -- before that a tick of the right lengths in which no job finishes is accepted
  pub goes_on : (call : Call) → length (steps (started table).state calls) < most_ticks
      → length call.report ≡ length table.periods → length call.grants ≡ length table.periods → ((i : ℕ) → get_or call.report i 0 ≡ 0)
      → (ticked (after (started table).state calls) call).number ≡ 0

unfoldable pub EveryRunStaysSound : Type 0
EveryRunStaysSound = (table : Table) → (started table).number ≡ 0 → (calls : List Call) → StaysSound table calls
