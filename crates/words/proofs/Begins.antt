-- A word at a place of a text: one byte of the comparison, its ends, and that the word lies within the text. By `begins` opened at the rests of the two lists.
use mathlib.Core.Path.{◌≡◌, refl, sym}
use mathlib.Core.Bool.{Bool, true, false, ◌&&◌, false≢true}
use mathlib.Core.List.{List, [], ◌∷◌}
use Prim.Native.Nat.{ℕ, suc, zero-le, suc-le-suc, ◌+◌, ◌-◌, ◌≤◌, ◌<◌}
use native.Mathlib.Nat.{not-suc-le-zero}
use native.Mathlib.Omega.{arith}
use borrow.Author.Tests.{eq-eqb, ne_eqb, eqb-true, eqb-false}
use lib.Dec.{eqb, eqb-suc-zero}
use lib.ListN.{length, drop, length-drop, drop_of_length-le}
use Rattle.std.specs.List.{starts_with}
use Rattle.words.specs.Words.{begins, stands_at}

-- one test of two bytes, in either order
eqb_swapped : (a b : ℕ) → eqb a b ≡ eqb b a
eqb_swapped a b = go (eqb b a) refl
  where
    go : (t : Bool) → eqb b a ≡ t → eqb a b ≡ t
    go true e = eq-eqb a b (sym (eqb-true b a e))
    go false e = ne_eqb a b (λ h. eqb-false b a e (sym h))

-- a text begins with a word where std's `starts_with` says so
pub begins_starts : (text word : List ℕ) → starts_with eqb text word ≡ begins text word
unfolding begins
begins_starts text [] = refl
begins_starts [] (w ∷ ws) = refl
begins_starts (b ∷ bs) (w ∷ ws) = rw (eqb_swapped w b, begins_starts bs ws)

-- one step of the next law, on either answer of the byte
longer_by : (t : Bool) (n m : ℕ) → (t ≡ true → n ≤ m) → (a : Bool) → (a && t) ≡ true → suc n ≤ suc m
longer_by t n m h true e = suc-le-suc (h e)
longer_by t n m h false e = absurd (false≢true e)

-- a text that begins with a word is at least as long
pub begins_long : (text word : List ℕ) → begins text word ≡ true → length word ≤ length text
unfolding begins
begins_long text [] e = zero-le
begins_long [] (w ∷ ws) e = absurd (false≢true e)
begins_long (b ∷ bs) (w ∷ ws) e = longer_by (begins bs ws) (length ws) (length bs) (begins_long bs ws) (eqb b w) e

-- a word that stands at a place lies within the text
pub stands_within : (text : List ℕ) (at : ℕ) (word : List ℕ) → 1 ≤ length word → stands_at text at word ≡ true → at + length word ≤ length text
unfolding stands_at
stands_within text at word some e = omega (arith, length-drop at text, begins_long (drop at text) word e)

-- past the end only the empty word stands
pub stands_past : (text : List ℕ) (at : ℕ) (word : List ℕ) → length text ≤ at → stands_at text at word ≡ eqb (length word) 0
unfolding stands_at begins
stands_past text at [] h = refl
stands_past text at (w ∷ ws) h = rw (drop_of_length-le text {i = at} h, eqb-suc-zero (length ws))

-- what is left of a text begins with a word where the word stands at that place
pub stands_starts : (text : List ℕ) (at : ℕ) (word : List ℕ) → starts_with eqb (drop at text) word ≡ stands_at text at word
unfolding stands_at
stands_starts text at word = begins_starts (drop at text) word
