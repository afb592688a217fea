-- What admission's private functions answer and ask: nothing here is part of what it promises to callers.
use Rattle.std.specs.Prelude.{ℕ, ◌≤◌, ◌≡◌, true, List, length, Result, Ok, Err, ⊤}
use Rattle.refusals.specs.declared.Refusal.{Refusal}
use Rattle.refusals.specs.Refusals.{number_of}
use Rattle.units.specs.Units.{cycles}
use Rattle.units.specs.declared.Ticks.{Ticks}
use Rattle.units.specs.declared.Cycles.{Cycles}
use Rattle.rules.specs.Words.{every}
use Rattle.rules.specs.Limits.{most_tasks, most_period, most_reserve, most_great, up_to_most}
use Rattle.rules.specs.Admission.{full_load}
use Rattle.rules.specs.Numbers.{start_number, Forms}

-- the sum of rule 7 as a count of cycles
unfoldable pub full_load_of : List ℕ → List ℕ → Ticks → Cycles
full_load_of periods reserves great = cycles (full_load great.0 periods reserves)

-- what keeps that sum below 2 ^ 64: tests 1, 3, 4 and 7 have passed
pub record Summable (periods reserves : List ℕ) (great : Ticks) : Type 0 where
  pub few : length periods ≤ most_tasks
  pub paired : length reserves ≡ length periods
  pub periods_allowed : every (up_to_most most_period) periods ≡ true
  pub reserves_allowed : every (up_to_most most_reserve) reserves ≡ true
  pub small : great.0 ≤ most_great

-- a refusal's number, 1 to 6, is start's, and without one tests 1 to 6 pass
abbrev pub Formed : List ℕ → List ℕ → List ℕ → List ℕ → Result ⊤ Refusal → Type 0
Formed periods reserves speeds volts (Ok _) = Forms periods reserves speeds volts
Formed periods reserves speeds volts (Err r) = start_number periods reserves speeds volts ≡ number_of r
