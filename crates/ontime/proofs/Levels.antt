-- A level of an order: a test whose places come first. In an order by key it is one that holds, with a place, of all before it. And an order has every ready place. By induction on the order.
use mathlib.Core.Path.{◌≡◌, refl, sym, ap, ◌∙◌}
use mathlib.Core.Bool.{Bool, true, false, true≢false, not}
use mathlib.Core.Logic.{◌⊎◌, inl, inr}
use mathlib.Core.List.Memᴰ
use mathlib.Core.List.{List, [], ◌∷◌, Memᴰ}
use Prim.Native.Nat.{ℕ, zero, suc, ◌<◌}
use native.Mathlib.Decide.{ℕ_discrete}
use native.Mathlib.Omega.{arith}
use lib.Dec.{leb}
use borrow.Author.Tests.{leb-true, le-leb, not-true}
use Rattle.rules.specs.Words.{every}
use Rattle.rules.specs.Choice.{insert_by, order_by}
use Rattle.rules.proofs.Lists.{every_first, every_rest}
use Rattle.rules.proofs.Orders.{order_in_lem, order_out}
use Rattle.rules.proofs.Sorted.{Before, AheadOf, InOrder}

-- what holds of every entry holds of each
every_has : (q : ℕ → Bool) (k : ℕ) (o : List ℕ) → every q o ≡ true → Memᴰ k o → q k ≡ true
every_has q k [] e x'' = elim x'' [ ]
every_has q k (i ∷ o) e (Memᴰ.head z) = rw z (every_first q i o e)
every_has q k (i ∷ o) e (Memᴰ.tail m) = every_has q k o (every_rest q i o e) m

-- an entry of a list that is not its first is one of the rest
pub mem_rest : (k i : ℕ) (o : List ℕ) → (k ≡ i → ⊥) → Memᴰ k (i ∷ o) → Memᴰ k o
mem_rest k i o ne m = go (Memᴰ.cases_cons m)
  where
    go : (k ≡ i) ⊎ Memᴰ k o → Memᴰ k o
    go (inl e) = absurd (ne e)
    go (inr t) = t

-- behind a place that is not of the level there is none that is
unfoldable pub LevelFirst : (ℕ → Bool) → List ℕ → Type 0
LevelFirst level [] = Unit
LevelFirst level (i ∷ o) = (level i ≡ false → every (λ k. not (level k)) o ≡ true) × LevelFirst level o

module _ (level : ℕ → Bool) (i : ℕ) (o : List ℕ) (first : LevelFirst level (i ∷ o)) where
  pub level_rest : LevelFirst level o
  unfolding LevelFirst
  level_rest = first.1

  -- where the first place is not of the level, none is
  pub level_none : level i ≡ false → (k : ℕ) → Memᴰ k (i ∷ o) → level k ≡ false
  unfolding LevelFirst
  level_none e k (Memᴰ.head z) = rw z e
  level_none e k (Memᴰ.tail m) = not-true (level k) (every_has (λ x. not (level x)) k o (first.0 e) m)

module _ (key : ℕ → ℕ) where
  -- a test that holds, with a place, of all that come before it is a level of any order by key
  module _ (level : ℕ → Bool) (closed : (a b : ℕ) → Before key a b → level b ≡ true → level a ≡ true) where
    ahead_none : (a : ℕ) (o : List ℕ) → level a ≡ false → AheadOf key a o → every (λ k. not (level k)) o ≡ true
    unfolding AheadOf every
    ahead_none a [] e h = refl
    ahead_none a (b ∷ o) e h = rw (out (level b) refl, ahead_none a o e h.1)
      where
        out : (v : Bool) → level b ≡ v → level b ≡ false
        out true w = absurd (true≢false (sym (closed a b h.0 w) ∙ e))
        out false w = w

    pub level_first : (o : List ℕ) → InOrder key o → LevelFirst level o
    unfolding LevelFirst InOrder
    level_first [] h = tt
    level_first (a ∷ o) h = (λ e. ahead_none a o e h.0, level_first o h.1)

  -- so are the places with a key up to d: those due by d, where the key is the deadline
  pub upto_first : (d : ℕ) (o : List ℕ) → InOrder key o → LevelFirst (λ i. leb (key i) d) o
  unfolding Before
  upto_first d = level_first (λ i. leb (key i) d) (λ a b h e. le-leb (key a) d (omega (arith, h.0, leb-true (key b) d e)))

  -- the place put in is in the order, with those that were there
  insert_new : (i : ℕ) (o : List ℕ) → Memᴰ i (insert_by key i o)
  unfolding insert_by
  insert_new i [] = Memᴰ.head refl
  insert_new i (k ∷ o) = go (leb (key k) (key i)) refl (insert_new i o)
    where
      go : (b : Bool) → leb (key k) (key i) ≡ b → Memᴰ i (insert_by key i o) → Memᴰ i (insert_by key i (k ∷ o))
      go true e m = rw e (Memᴰ.tail m)
      go false e m = rw e (Memᴰ.head refl)

  insert_old : (i m : ℕ) (o : List ℕ) → Memᴰ m o → Memᴰ m (insert_by key i o)
  unfolding insert_by
  insert_old i m [] x' = elim x' [ ]
  insert_old i m (k ∷ o) (Memᴰ.head z) = go (leb (key k) (key i)) refl
    where
      go : (b : Bool) → leb (key k) (key i) ≡ b → Memᴰ m (insert_by key i (k ∷ o))
      go true e = rw e (Memᴰ.head z)
      go false e = rw e (Memᴰ.tail (Memᴰ.head z))
  insert_old i m (k ∷ o) (Memᴰ.tail old) = go (leb (key k) (key i)) refl (insert_old i m o old)
    where
      go : (b : Bool) → leb (key k) (key i) ≡ b → Memᴰ m (insert_by key i o) → Memᴰ m (insert_by key i (k ∷ o))
      go true e r = rw e (Memᴰ.tail r)
      go false e r = rw e (Memᴰ.tail (Memᴰ.tail old))

-- an order has every ready place
pub order_has : (key : ℕ → ℕ) (ready : ℕ → Bool) (n k : ℕ) → k < n → ready k ≡ true → Memᴰ k (order_by key ready n)
order_has key ready zero k l e = absurd (omega arith)
order_has key ready (suc n) k l e = go (ℕ_discrete k n) (ready n) refl (λ (p : k < n). order_has key ready n k p e)
  where
    go : Dec (k ≡ n) → (b : Bool) → ready n ≡ b → (k < n → Memᴰ k (order_by key ready n)) → Memᴰ k (order_by key ready (suc n))
    go (yes q) true r has = rw (order_in_lem key ready n r) (Memᴰ.cast q (insert_new key n (order_by key ready n)))
    go (yes q) false r has = absurd (true≢false (sym e ∙ ap ready q ∙ r))
    go (no q) true r has = rw (order_in_lem key ready n r) (insert_old key n k (order_by key ready n) (has (omega arith)))
    go (no q) false r has = rw (order_out key ready n r) (has (omega arith))
