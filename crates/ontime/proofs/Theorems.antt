-- The theorems, one for each statement of specs/.
use Rattle.ontime.specs.OnTime.{AnyTickPays, ReleasesKeep, AnyMultipleWillDo}
use Rattle.ontime.proofs.Pays.{any_tick_pays}
use Rattle.ontime.proofs.GoesOnProof.{releases_keep}
use Rattle.ontime.proofs.Multiples.{any_multiple}

pub tick_pays : AnyTickPays
tick_pays = any_tick_pays

pub releases : ReleasesKeep
releases = releases_keep

pub multiples : AnyMultipleWillDo
multiples = any_multiple
