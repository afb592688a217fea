-- "Load, choice, settlement", rules 1 and 2: deadlines, use and load.
use Rattle.std.specs.Prelude.{ℕ, ◌+◌, ◌-◌, ◌*◌, ◌/◌, ◌%◌, Bool, cond, List, leb}
use Rattle.rules.specs.declared.Job.{Job}
use Rattle.rules.specs.Words.{total}

-- Rule 1. At tick t the job of a task has its deadline at t + P - (t mod P).
unfoldable pub deadline : ℕ → Job → ℕ
deadline t j = t + j.period.0 - t % j.period.0

-- Rule 2. A job's use is its reserve until it is over, and then the cycles it ran, until its next release (which `release_at` makes).
unfoldable pub use_of : Job → ℕ
use_of j = cond j.over j.run.0 j.reserve.0

-- Rule 2. The load is the sum of use x (H / P).
unfoldable pub load : ℕ → List Job → ℕ
load great js = total (λ j. use_of j * (great / j.period.0)) js

-- Rule 2. A speed s carries it when load <= s x H.
unfoldable pub carries : ℕ → ℕ → ℕ → Bool
carries s great sum = leb sum (s * great)
