-- What the private function of energy asks: nothing here is part of what the governor promises.
use Rattle.std.specs.Prelude.{◌≤◌}
use Rattle.units.specs.Units.{most_count}
use Rattle.rules.specs.declared.Ladder.{Ladder}
use Rattle.rules.specs.declared.Tally.{Tally}
use Rattle.rules.specs.Limits.{most_speeds}
use Rattle.rules.specs.Counting.{energy_sum}

-- rule 6's sum stays in its range
pub record Affordable (ladder : Ladder) (tally : Tally) : Type 0 where
  pub listed : ladder.count ≤ most_speeds
  pub fits : energy_sum ladder tally ≤ most_count
