-- What every state of a run from an accepted start keeps: it is sound, its arrays have their places, and its books are covered.
use Rattle.rules.specs.declared.State.{State}
use Rattle.promises.specs.NeverLate.{Covered}
use Rattle.promises.proofs.SoundRuns.{SoundAndShaped}

pub record Kept (s : State) : Type 0 where
  pub base : SoundAndShaped s
  pub covered : Covered s
