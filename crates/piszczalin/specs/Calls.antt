-- "Numbers a caller may see", at the boundary: what each exported call answers for every input, a state of any bytes too.
use Rattle.std.specs.Prelude.{ℕ, cond, List, eqb}
use Rattle.units.specs.Units.{ticks, speed}
use Rattle.rules.specs.Answers.{Started, Ticked}
use Rattle.rules.specs.Calls.{start_of, now_of, tick_of, grants_of, energy_of}
use Rattle.piszczalin.specs.declared.PlainState.{PlainState}
use Rattle.piszczalin.specs.declared.PlainStarted.{PlainStarted}
use Rattle.piszczalin.specs.declared.PlainTold.{PlainTold}
use Rattle.piszczalin.specs.declared.PlainTicked.{PlainTicked}
use Rattle.piszczalin.specs.declared.PlainUsed.{PlainUsed}
use Rattle.piszczalin.specs.Plain.{marks_good, state_of, plain_state_of, plain_of, plain_used}

-- The answers of start and tick, with the state plain.
unfoldable pub plain_started : Started → PlainStarted
plain_started started = record { number = started.number; state = plain_state_of started.state }

unfoldable pub plain_ticked : Ticked → PlainTicked
plain_ticked ticked = record { number = ticked.number; state = plain_state_of ticked.state }

-- start: a number, and the fresh state or the all-zero one
unfoldable pub plain_start : List ℕ → List ℕ → List ℕ → List ℕ → PlainStarted
plain_start periods reserves ss vs = plain_started (start_of periods reserves ss vs)

-- now: No. 9 where a byte is no mark, with nothing chosen and speed 0; else as of the state
unfoldable pub plain_now : PlainState → PlainTold
plain_now s =
    cond (marks_good s)
    (plain_of (now_of (state_of s)))
    (record { number = 9; task = 0; deadline = ticks 0; speed = speed 0 })

-- tick: No. 9 where a byte is no mark, else as of the state; and the next state, or refused the very state given
unfoldable pub plain_tick : PlainState → List ℕ → ℕ → PlainTicked
plain_tick s report grantPlaces =
    let ticked = tick_of (state_of s) report grantPlaces in
    let n = cond (marks_good s) ticked.number 9 in
    record { number = n; state = cond (eqb n 0) (plain_state_of ticked.state) s }

-- tick: the grants list after the call; as it was where a byte is no mark
unfoldable pub plain_grants : PlainState → List ℕ → List ℕ → List ℕ
plain_grants s report grants = cond (marks_good s) (grants_of (state_of s) report grants) grants

-- energy: No. 9 where a byte is no mark, with 0; else as of the state
unfoldable pub plain_energy : PlainState → PlainUsed
plain_energy s = cond (marks_good s) (plain_used (energy_of (state_of s))) (record { number = 9; energy = 0 })
