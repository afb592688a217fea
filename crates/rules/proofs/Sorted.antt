-- Rule 3's order is by key, the lower number first at a tie: each task put in comes after those at its own key, since they have lower numbers.
use mathlib.Core.Path.{◌≡◌, refl}
use mathlib.Core.Bool.{Bool, true, false}
use mathlib.Core.List.{List, [], ◌∷◌}
use Prim.Native.Nat.{ℕ, zero, suc, ◌≤◌, ◌<◌}
use native.Mathlib.Omega.{arith}
use lib.Dec.{leb, ltb}
use borrow.Author.Tests.{ltb-true, leb-true, leb-false}
use Rattle.rules.specs.declared.State.{State}
use Rattle.rules.specs.Words.{every}
use Rattle.rules.specs.Choice.{insert_by, order_by, deadline_at, ready_at, order_of}
use Rattle.rules.proofs.Lists.{every_first, every_rest}
use Rattle.rules.proofs.Orders.{order_in_lem, order_out, order_below}

-- task a comes before task b: a smaller key, or the same and a lower number
unfoldable pub Before : (ℕ → ℕ) → ℕ → ℕ → Type 0
Before key a b = (key a ≤ key b) × (key a ≡ key b → a < b)

-- each entry of a list comes before every later one
unfoldable pub AheadOf : (ℕ → ℕ) → ℕ → List ℕ → Type 0
AheadOf key a [] = Unit
AheadOf key a (b ∷ o) = Before key a b × AheadOf key a o

unfoldable pub InOrder : (ℕ → ℕ) → List ℕ → Type 0
InOrder key [] = Unit
InOrder key (a ∷ o) = AheadOf key a o × InOrder key o

module _ (key : ℕ → ℕ) where
  -- what is ahead of the head and of the rest is ahead of a task put in
  ahead_insert : (a i : ℕ) (o : List ℕ) → Before key a i → AheadOf key a o → AheadOf key a (insert_by key i o)
  unfolding insert_by AheadOf
  ahead_insert a i [] b h = (b, tt)
  ahead_insert a i (k ∷ o) b h = go (leb (key k) (key i)) refl (ahead_insert a i o b h.1)
    where
      go : (t : Bool) → leb (key k) (key i) ≡ t → AheadOf key a (insert_by key i o) → AheadOf key a (insert_by key i (k ∷ o))
      go true e r = rw e (h.0, r)
      go false e r = rw e (b, h)

  -- a task with a smaller key than the head is ahead of all
  smaller_ahead : (i k : ℕ) (o : List ℕ) → key i < key k → AheadOf key k o → AheadOf key i o
  unfolding AheadOf Before
  smaller_ahead i k [] l h = tt
  smaller_ahead i k (b ∷ o) l h = ((omega (arith, h.0.0, l), λ e. absurd (differ e)), smaller_ahead i k o l h.1)
    where
      differ : key i ≡ key b → ⊥
      differ e = omega (arith, h.0.0, l)

  -- a task above all numbers of an order comes after those whose key is not above its own
  before_new : (k i : ℕ) → k < i → leb (key k) (key i) ≡ true → Before key k i
  unfolding Before
  before_new k i l e = (leb-true (key k) (key i) e, λ z. l)

  -- and before the first whose key is, and all after it
  new_ahead : (i k : ℕ) (o : List ℕ) → leb (key k) (key i) ≡ false → AheadOf key k o → AheadOf key i (k ∷ o)
  unfolding AheadOf Before
  new_ahead i k o e h = ((omega (arith, above), λ z. absurd (differ z)), smaller_ahead i k o above h)
    where
      above : key i < key k
      above = leb-false (key k) (key i) e

      differ : key i ≡ key k → ⊥
      differ z = omega (arith, above)

  insert_sorted : (i : ℕ) (o : List ℕ) → every (λ k. ltb k i) o ≡ true → InOrder key o → InOrder key (insert_by key i o)
  unfolding insert_by InOrder AheadOf
  insert_sorted i [] b h = (tt, tt)
  insert_sorted i (k ∷ o) b h = go (leb (key k) (key i)) refl (insert_sorted i o (every_rest (λ x. ltb x i) k o b) h.1)
    where
      lower : k < i
      lower = ltb-true k i (every_first (λ x. ltb x i) k o b)

      go : (t : Bool) → leb (key k) (key i) ≡ t → InOrder key (insert_by key i o) → InOrder key (insert_by key i (k ∷ o))
      go true e r = rw e (ahead_insert k i o (before_new k i lower e) h.0, r)
      go false e r = rw e (new_ahead i k o e h.0, h)

  pub order_sorted : (ready : ℕ → Bool) (n : ℕ) → InOrder key (order_by key ready n)
  unfolding order_by InOrder
  order_sorted ready zero = tt
  order_sorted ready (suc n) = go (ready n) refl (order_sorted ready n)
    where
      go : (b : Bool) → ready n ≡ b → InOrder key (order_by key ready n) → InOrder key (order_by key ready (suc n))
      go true e h = rw (order_in_lem key ready n e) (insert_sorted n (order_by key ready n) (order_below key ready n) h)
      go false e h = rw (order_out key ready n e) h

-- Rule 3. The order of a state's ready tasks is by deadline, the lower number first at a tie.
pub by_deadline : (s : State) → InOrder (deadline_at s) (order_of s)
unfolding order_of
by_deadline s = order_sorted (deadline_at s) (ready_at s) s.tasks.count
