-- The place of the first entry that fits: below the length where some entry fits, and it fits there. By induction on the list.
use mathlib.Core.Path.{◌≡◌, refl, sym, ap, ◌∙◌}
use mathlib.Core.Bool.{Bool, true, false, not, false≢true}
use mathlib.Core.List.{List, [], ◌∷◌}
use Prim.Native.Nat.{ℕ, zero, suc, zero-le, suc-le-suc, ◌≤◌, ◌<◌}
use native.Mathlib.Nat.{le_of_suc-le-suc, not-suc-le-zero}
use native.Mathlib.Decide.{dec_lt}
use native.Mathlib.Omega.{arith}
use lib.ListN.{length, get_or}
use Rattle.rules.specs.Words.{every}
use Rattle.rules.specs.Choice.{lowest}
use Rattle.rules.proofs.Lists.{every_at}

module _ (fits : ℕ → Bool) where
  -- the place at a first entry that fits, and past one that does not
  pub lowest_here : (x : ℕ) (l : List ℕ) → fits x ≡ true → lowest fits (x ∷ l) ≡ 0
  unfolding lowest
  lowest_here x l e = rw e

  pub lowest_past : (x : ℕ) (l : List ℕ) → fits x ≡ false → lowest fits (x ∷ l) ≡ suc (lowest fits l)
  unfolding lowest
  lowest_past x l e = rw e

  pub lowest_most : (l : List ℕ) → lowest fits l ≤ length l
  unfolding lowest
  lowest_most [] = zero-le
  lowest_most (x ∷ l) = go (fits x) refl (lowest_most l)
    where
      go : (b : Bool) → fits x ≡ b → lowest fits l ≤ length l → lowest fits (x ∷ l) ≤ suc (length l)
      go true e h = rw (lowest_here x l e) zero-le
      go false e h = rw (lowest_past x l e) (suc-le-suc h)

  -- what stands there fits, and nothing before it does
  pub lowest_fits : (l : List ℕ) → lowest fits l < length l → fits (get_or l (lowest fits l) 0) ≡ true
  lowest_fits [] h = absurd (not-suc-le-zero h)
  lowest_fits (x ∷ l) h = go (fits x) refl (lowest_fits l)
    where
      go : (b : Bool) → fits x ≡ b → (lowest fits l < length l → fits (get_or l (lowest fits l) 0) ≡ true) → fits (get_or (x ∷ l) (lowest fits (x ∷ l)) 0) ≡ true
      go true e f = rw (lowest_here x l e) e
      go false e f = rw (lowest_past x l e) (f (le_of_suc-le-suc (rw (lowest_past x l e) at h)))

  pub before_fails : (l : List ℕ) (i : ℕ) → i < lowest fits l → fits (get_or l i 0) ≡ false
  unfolding lowest
  before_fails [] i h = absurd (not-suc-le-zero h)
  before_fails (x ∷ l) i h = go (fits x) refl i h (before_fails l)
    where
      go : (b : Bool) → fits x ≡ b → (i : ℕ) → i < lowest fits (x ∷ l) → ((i : ℕ) → i < lowest fits l → fits (get_or l i 0) ≡ false) → fits (get_or (x ∷ l) i 0) ≡ false
      go true e i h f = absurd (not-suc-le-zero (rw (lowest_here x l e) at h))
      go false e zero h f = e
      go false e (suc i) h f = f i (le_of_suc-le-suc (rw (lowest_past x l e) at h))

  -- an entry that fits at any place puts it below the length
  pub fit_below : (l : List ℕ) (i : ℕ) → i < length l → fits (get_or l i 0) ≡ true → lowest fits l < length l
  fit_below l i h e = go (dec_lt (lowest fits l) (length l))
    where
      go : Dec (lowest fits l < length l) → lowest fits l < length l
      go (yes a) = a
      go (no a) = absurd (false≢true (sym (before_fails l i (omega arith)) ∙ e))

  -- below the length not every entry fails
  pub below_some : (l : List ℕ) → lowest fits l < length l → every (λ x. not (fits x)) l ≡ false
  below_some l h = go (every (λ x. not (fits x)) l) refl
    where
      go : (b : Bool) → every (λ x. not (fits x)) l ≡ b → every (λ x. not (fits x)) l ≡ false
      go true e =
          absurd (false≢true
          (ap not (sym (lowest_fits l h)) ∙ every_at (λ x. not (fits x)) l 0 (lowest fits l) e h))
      go false e = e
