-- `has_zero` meets its contract: the search's two answers are the two cases of `ZeroIn`. Assumes nothing.
use Rattle.divisors.proofs.Prefixes.{zero_told}
use Rattle.divisors.proofs.has_zero.Goals as goal

pub returns : goal.returns
returns c = zero_told _ _ c.contains.ensures.cases
