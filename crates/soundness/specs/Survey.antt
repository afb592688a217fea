-- What soundness answers for a state.
use Rattle.std.specs.Prelude.{cond, Option, Some, None}
use Rattle.units.specs.Units.{cycles}
use Rattle.units.specs.declared.Cycles.{Cycles}
use Rattle.rules.specs.declared.State.{State}
use Rattle.rules.specs.Choice.{load_of}
use Rattle.rules.specs.Numbers.{sound}

-- whether a state is sound, and its load where it is
unfoldable pub survey_of : State → Option Cycles
survey_of s = cond (sound s) (Some (cycles (load_of s))) None
