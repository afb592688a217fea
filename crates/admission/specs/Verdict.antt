-- What admission answers for a table.
use Rattle.std.specs.Prelude.{ℕ, cond, List, eqb, Result, Ok, Err}
use Rattle.units.specs.Units.{ticks}
use Rattle.rules.specs.Admission.{great_of}
use Rattle.rules.specs.Numbers.{start_number}
use Rattle.units.specs.declared.Ticks.{Ticks}
use Rattle.refusals.specs.declared.Refusal.{Refusal}
use Rattle.refusals.specs.Refusals.{number_of}

-- a table's number, 0 to 8, and its great period where the number is 0
pub record Verdict : Type 0 where
  pub number : ℕ
  pub great : Ticks

-- a table's number, and its great period where the number is 0
unfoldable pub verdict_of : List ℕ → List ℕ → List ℕ → List ℕ → Verdict
verdict_of periods reserves speeds volts =
    let n = start_number periods reserves speeds volts in
    record { number = n; great = ticks (cond (eqb n 0) (great_of periods) 0) }

-- a refusal: the number, and no great period
abbrev pub refusal : ℕ → Verdict
refusal n = record { number = n; great = ticks 0 }

-- what an answer says in those: 0 and the great period, or a refusal's number
unfoldable pub judged : Result Ticks Refusal → Verdict
judged (Ok great) = record { number = 0; great = great }
judged (Err r) = refusal (number_of r)
