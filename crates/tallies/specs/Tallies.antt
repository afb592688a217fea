-- What tallies answers for the counts of a state.
use Rattle.std.specs.Prelude.{ℕ, ◌+◌, ◌*◌, Bool, ◌&&◌, leb}
use Rattle.units.specs.Units.{cycles_in}
use Rattle.units.specs.declared.Ticks.{Ticks}
use Rattle.units.specs.declared.Cycles.{Cycles}
use Rattle.units.specs.declared.Speed.{Speed}
use Rattle.rules.specs.declared.Tally.{Tally}
use Rattle.rules.specs.Words.{total}
use Rattle.rules.specs.Limits.{most_ticks}

-- counts and idle together are at most so many cycles
unfoldable pub counted_within : Tally → ℕ → Bool
counted_within t most = leb (total (λ (c : Cycles). c.0) t.counts + t.idle.0) most

-- t is at most 1,000,000,000, late and cut are each at most 16 x t, and counts and idle together are at most t x top speed;
-- at most 2 ^ 64 - 1 where that product is more, which it is for no top speed that No. 5 allows
unfoldable pub tally_right : Ticks → Tally → Speed → Bool
tally_right done t top =
    leb done.0 most_ticks
    && leb t.late (16 * done.0)
    && leb t.cut (16 * done.0)
    && counted_within t (cycles_in top done).0
