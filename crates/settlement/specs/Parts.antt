-- What the private functions of this crate answer and ask: nothing here is part of what it promises to callers.
use Rattle.std.specs.Prelude.{ℕ, ◌-◌, min, Bool, true, false, cond, not, ◌&&◌, ◌||◌, Option, Some, None, List, eqb, ltb, leb, get_or}
use Rattle.units.specs.Units.{cycles}
use Rattle.rules.specs.declared.Job.{Job}
use Rattle.rules.specs.declared.Jobs.{Jobs}
use Rattle.rules.specs.declared.Ready.{Ready}
use Rattle.rules.specs.Words.{up_to, every}
use Rattle.rules.specs.Limits.{most_tasks}
use Rattle.rules.specs.Settlement.{remaining, uses_up, allowed, granted, is_cut, is_over}
use Rattle.choosing.specs.Choosing.{waits_in}
use Rattle.settlement.specs.declared.shares.Share.{Share}

-- Rule 4 for one ready job, none where its entry is not allowed; and its two bullets while something is left
unfoldable pub share_of : ℕ → ℕ → Job → Option Share
share_of left u j =
    cond (allowed left u j) (Some (record { given = cycles (granted left u j); over = is_over left u j; cut = is_cut left u j })) None

unfoldable pub runs_on : ℕ → Job → Share
runs_on left j = record { given = cycles (min left (remaining j)); over = uses_up left j; cut = uses_up left j }

unfoldable pub finishes_at : ℕ → ℕ → Job → Option Share
finishes_at left u j =
    cond (ltb j.run.0 u && leb u j.reserve.0 && leb (u - j.run.0) left) (Some (record { given = cycles (u - j.run.0); over = true; cut = false })) None

-- the entry is 0 of each of the first n jobs, of at most 16, that is over or still waits
unfoldable pub rest_zero : Jobs → Ready → ℕ → List ℕ → Bool
rest_zero js waits n report =
    every (λ i. not (get_or js.over i false || waits_in waits i) || eqb (get_or report i 0) 0) (up_to (min n most_tasks) (λ i. i))
