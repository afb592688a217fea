-- What the four calls answer, in document 01's numbers and values: a number, 0 where it accepts, and what stands beside it, refusals too.
use Rattle.std.specs.Prelude.{ℕ}
use Rattle.units.specs.declared.Speed.{Speed}
use Rattle.rules.specs.declared.Choice.{Choice}
use Rattle.rules.specs.declared.State.{State}

-- start: a number, and the fresh state or the all-zero one
pub record Started : Type 0 where
  pub number : ℕ
  pub state : State

-- now: a number, the choice and the speed
pub record Told : Type 0 where
  pub number : ℕ
  pub choice : Choice
  pub speed : Speed

-- tick: a number, and the next state or the one given
pub record Ticked : Type 0 where
  pub number : ℕ
  pub state : State

-- energy: a number, and the energy or 0
pub record Used : Type 0 where
  pub number : ℕ
  pub energy : ℕ
