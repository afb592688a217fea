-- A walk that tests the places of a list one after the other: from a place on it goes on, stops or ends.
use mathlib.Core.Path.{◌≡◌}
use mathlib.Core.Bool.{Bool, true, false}
use Prim.Native.Nat.{ℕ, ◌+◌, ◌≤◌, ◌<◌}
use lib.ListN.{drop}
use Rattle.rules.specs.Words.{up_to, every}
use Rattle.rules.proofs.Lists.{up_to_rest, up_to_end}

module _ {A : Type 0} (q : A → Bool) (n : ℕ) (f : ℕ → A) (i : ℕ) where
  pub walk_on : i < n → q (f i) ≡ true → every q (drop i (up_to n f)) ≡ every q (drop (i + 1) (up_to n f))
  unfolding every
  walk_on h e = rw (up_to_rest n f i h, e)

  pub walk_stop : i < n → q (f i) ≡ false → every q (drop i (up_to n f)) ≡ false
  unfolding every
  walk_stop h e = rw (up_to_rest n f i h, e)

  pub walk_end : n ≤ i → every q (drop i (up_to n f)) ≡ true
  unfolding every
  walk_end h = rw (up_to_end n f i h)
