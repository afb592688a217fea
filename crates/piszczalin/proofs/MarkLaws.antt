-- The walks over the sixteen marks: an array turned place by place is the list turned, and the highest byte tells whether all are marks.
use mathlib.Core.Path.{◌≡◌, refl, ap, ◌∙◌}
use mathlib.Core.Bool.{Bool, true, false, ◌&&◌}
use mathlib.Core.List.{List, ◌++◌, map, append-nil}
use Prim.Native.Nat.{ℕ, suc, ◌+◌, ◌≤◌, ◌<◌, max}
use native.Mathlib.Numerals.{add-one}
use native.Mathlib.Omega.{arith}
use mir.Val.{bool_byte}
use lib.Dec.{leb, ltb}
use lib.ListN.{length, get_or, set, take, drop, drop_of_length-le}
use lib.Seq.{drop-cons, take-suc-set, take_all, append_snoc}
use borrow.Author.Tests.{leb-true, le-leb, ltb-true, ltb-false}
use Rattle.rules.specs.Words.{every}
use Rattle.rules.proofs.Lists.{rest_cons, every_end}
use Rattle.piszczalin.specs.Plain.{is_mark, mark_of}

module _ {A B : Type 0} (f : A → B) where
  -- an array with its first i places turned, and the rest of the list turned behind them
  pub turned : List A → List B → ℕ → List B
  turned l out i = take i out ++ map f (drop i l)

  pub turned_none : (l : List A) (out : List B) → turned l out 0 ≡ map f l
  unfolding turned
  turned_none l out = refl

  -- the next place turned changes nothing of it
  pub turned_on : (l : List A) (out : List B) (i : ℕ) (d : A) → i < length l → i < length out → turned l (set out i (f (get_or l i d))) (i + 1) ≡ turned l out i
  unfolding turned
  turned_on l out i d h g =
      rw (add-one, take-suc-set out i (f (get_or l i d)) g, drop-cons l i d h)
      (append_snoc (take i out) (f (get_or l i d)) (map f (drop (suc i) l)))

  -- all places turned
  pub turned_all : (l : List A) (out : List B) (i : ℕ) → length l ≤ i → length out ≤ i → turned l out i ≡ out
  unfolding turned
  turned_all l out i h g = rw (take_all i out g, drop_of_length-le l {i = i} h) (append-nil out)

-- a bool as a byte is its mark
pub byte_mark : (over : Bool) → bool_byte over ≡ mark_of over
unfolding mark_of
byte_mark true = refl
byte_mark false = refl

-- the highest byte so far is a mark, and so is all of the rest
pub highest_good : List ℕ → ℕ → ℕ → Bool
highest_good l highest i = leb highest 1 && every is_mark (drop i l)

pub highest_none : (l : List ℕ) → every is_mark l ≡ highest_good l 0 0
unfolding highest_good
highest_none l = refl

and-false : (b : Bool) → (b && false) ≡ false
and-false true = refl
and-false false = refl

and-true : (b : Bool) → (b && true) ≡ b
and-true true = refl
and-true false = refl

-- of two bytes both are marks where the higher is, whichever comes first
module _ (low high : ℕ) (rest : Bool) (h : low ≤ high) where
  higher_last : (leb low 1 && (leb high 1 && rest)) ≡ (leb high 1 && rest)
  higher_last = go (leb high 1) refl
    where
      go : (b : Bool) → leb high 1 ≡ b → (leb low 1 && (leb high 1 && rest)) ≡ (leb high 1 && rest)
      go true e = rw (le-leb low 1 (omega (arith, leb-true high 1 e)))
      go false e = rw e (and-false (leb low 1))

  higher_first : (leb high 1 && (leb low 1 && rest)) ≡ (leb high 1 && rest)
  higher_first = go (leb high 1) refl
    where
      go : (b : Bool) → leb high 1 ≡ b → (leb high 1 && (leb low 1 && rest)) ≡ (leb high 1 && rest)
      go true e = rw (e, le-leb low 1 (omega (arith, leb-true high 1 e)))
      go false e = rw e

-- the walk goes on with a higher byte, or with the highest so far, and ends
module _ (l : List ℕ) (highest i : ℕ) (h : i < length l) where
  raised : highest < get_or l i 0 → highest_good l highest i ≡ highest_good l (get_or l i 0) (i + 1)
  unfolding highest_good is_mark every
  raised g = rw (rest_cons l 0 i h) (higher_last highest (get_or l i 0) (every is_mark (drop (i + 1) l)) (omega arith))

  kept : get_or l i 0 ≤ highest → highest_good l highest i ≡ highest_good l highest (i + 1)
  unfolding highest_good is_mark every
  kept g = rw (rest_cons l 0 i h) (higher_first (get_or l i 0) highest (every is_mark (drop (i + 1) l)) g)

-- so each turn the higher of the two
pub higher : (l : List ℕ) (highest i : ℕ) → i < length l → highest_good l highest i ≡ highest_good l (max (get_or l i 0) highest) (i + 1)
higher l highest i h = go (ltb highest (get_or l i 0)) refl
  where
    go : (b : Bool) → ltb highest (get_or l i 0) ≡ b → highest_good l highest i ≡ highest_good l (max (get_or l i 0) highest) (i + 1)
    go true e =
        let g = ltb-true highest (get_or l i 0) e in
        let m : get_or l i 0 ≡ max (get_or l i 0) highest = omega arith in
        raised l highest i h g ∙ ap (λ x. highest_good l x (i + 1)) m
    go false e =
        let g = ltb-false highest (get_or l i 0) e in
        let m : highest ≡ max (get_or l i 0) highest = omega arith in
        kept l highest i h g ∙ ap (λ x. highest_good l x (i + 1)) m

pub highest_all : (l : List ℕ) (highest i : ℕ) → length l ≤ i → highest_good l highest i ≡ leb highest 1
unfolding highest_good
highest_all l highest i h = rw (every_end is_mark l i h) (and-true (leb highest 1))
