-- Rule 5 seen from one count: a tick's grants go to the count of its speed, and no other count changes. By what a store leaves at its place and elsewhere.
use mathlib.Core.Path.{◌≡◌, ap}
use Prim.Native.Nat.{ℕ, ◌+◌, ◌<◌}
use lib.ListN.{length}
use lib.Seq.{get_or-set_same, get_or-set_other}
use Rattle.units.specs.Units.{cycles}
use Rattle.units.specs.declared.Cycles.{Cycles}
use Rattle.rules.specs.declared.Tally.{Tally}
use Rattle.rules.specs.declared.Settling.{Settling}
use Rattle.rules.specs.Words.{total}
use Rattle.rules.specs.State.{count_at}
use Rattle.rules.specs.Counting.{counted}

module _ (tally : Tally) (place : ℕ) (outcome : Settling) where
  pub counted_here : place < length tally.counts → count_at (counted tally place outcome) place ≡ count_at tally place + total (λ (g : Cycles). g.0) outcome.grants
  unfolding counted count_at
  counted_here h = ap (λ (c : Cycles). c.0) (get_or-set_same tally.counts place _ (cycles 0) h)

  pub counted_elsewhere : (k : ℕ) → (k ≡ place → ⊥) → count_at (counted tally place outcome) k ≡ count_at tally k
  unfolding counted count_at
  counted_elsewhere k other = ap (λ (c : Cycles). c.0) (get_or-set_other tally.counts place k _ (cycles 0) other)
