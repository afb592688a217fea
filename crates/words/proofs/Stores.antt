-- Runs of stores: one after another, one that a later store does not touch, what fits and what does not. By induction on the run.
use mathlib.Core.Path.{◌≡◌, refl, ap, ◌∙◌}
use mathlib.Core.Bool.{Bool, true, false}
use mathlib.Core.List.{List, [], ◌∷◌, ◌++◌, append_assoc}
use Prim.Native.Nat.{ℕ, suc, ◌+◌, ◌-◌, ◌≤◌, ◌<◌}
use native.Mathlib.Nat.{add-zero, add-suc, suc-add}
use native.Mathlib.Omega.{arith}
use borrow.Author.Tests.{le-leb, lt-leb, leb-true, leb-false}
use lib.Dec.{leb}
use lib.ListN.{length, take, drop, set}
use lib.Seq.{sets, sets-eq, length-sets, set_comm, drop-drop}
use borrow.Rule.Slice.PartMut.{put_mid}
use Rattle.words.specs.Words.{fits, put_in, place_after}

-- one run of stores after another is one run
pub sets_append : (xs ys d : List ℕ) (at : ℕ) → sets (sets d at xs) (at + length xs) ys ≡ sets d at (xs ++ ys)
sets_append [] ys d at = rw (add-zero at)
sets_append (x ∷ xs) ys d at = rw (add-suc at (length xs), ← suc-add at (length xs)) (sets_append xs ys (set d at x) (suc at))

-- a store after a run's places may come before the run
pub set_after : (xs d : List ℕ) (at j b : ℕ) → at + length xs ≤ j → set (sets d at xs) j b ≡ sets (set d j b) at xs
set_after [] d at j b h = refl
set_after (x ∷ xs) d at j b h = set_after xs (set d at x) (suc at) j b (omega arith) ∙ ap (λ (l : List ℕ). sets l (suc at) xs) (set_comm d at j x b (λ e. omega arith))

-- a run of stores that fits is one copy over its places
pub copied : (out w : List ℕ) (at : ℕ) → at + length w ≤ length out → put_mid at (at + length w - at) out w ≡ sets out at w
copied out w at h =
    let count : at + length w - at ≡ length w = omega arith in
    rw (count, sets-eq w out at h, drop-drop (length w) at out, append_assoc (take at out) w (drop (at + length w) out))

module _ (out : List ℕ) (at : ℕ) (w : List ℕ) where
  -- a word that fits is put
  pub put_fits : at + length w ≤ length out → (put_in out at w ≡ sets out at w) × (place_after out at w ≡ at + length w)
  unfolding put_in place_after fits
  put_fits h = (rw (le-leb _ _ h), rw (le-leb _ _ h))

  -- a word that does not fit is not put
  pub put_short : length out < at + length w → (put_in out at w ≡ out) × (place_after out at w ≡ at)
  unfolding put_in place_after fits
  put_short h = (rw (lt-leb _ _ h), rw (lt-leb _ _ h))

  -- the place told, by itself: past a word that fits, and the place itself before one that does not
  pub place_fits : at + length w ≤ length out → place_after out at w ≡ at + length w
  place_fits h = (put_fits h).1

  pub place_short : length out < at + length w → place_after out at w ≡ at
  place_short h = (put_short h).1

  -- no put changes the length
  pub length_put : length (put_in out at w) ≡ length out
  length_put = go (leb (at + length w) (length out)) refl
    where
      go : (t : Bool) → leb (at + length w) (length out) ≡ t → length (put_in out at w) ≡ length out
      go true e = rw (put_fits (leb-true _ _ e)).0 (length-sets out at w)
      go false e = rw (put_short (leb-false _ _ e)).0
