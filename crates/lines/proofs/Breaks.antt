-- A line's end at a place, in each case that the reader comes to: by the byte there and, after CR, the one behind it.
use mathlib.Core.Path.{◌≡◌, refl, ap₂, ◌∙◌}
use mathlib.Core.Bool.{Bool, true, false, ◌&&◌, and-true}
use mathlib.Core.List.{List, [], ◌∷◌}
use native.Mathlib.Omega.{arith}
use native.Mathlib.Numerals.{add-one}
use lib.Dec.{eqb, ltb}
use lib.Seq.{drop-cons}
use Rattle.words.specs.Words.{begins, stands_at}
use Rattle.words.proofs.Begins.{stands_within}
use Prim.Native.Nat.{ℕ, ◌+◌, ◌≤◌, ◌<◌}
use borrow.Author.Tests.{lt-ltb, le-ltb, eq-eqb, ne_eqb, le-leb, lt-leb, ltb-true, ltb-false}
use lib.ListN.{length, get_or, drop, drop_of_length-le}
use Rattle.std.specs.Prelude.{Some, None}
use Rattle.lines.specs.Lines.{byte_at, line_end}

module _ (text : List ℕ) (at b : ℕ) where
  -- past the text no byte stands
  pub byte_past : length text ≤ at → byte_at text at b ≡ false
  unfolding byte_at
  byte_past h = simp (le-ltb _ _ h)

  -- another byte stands there
  pub byte_other : at < length text → (get_or text at 0 ≡ b → ⊥) → byte_at text at b ≡ false
  unfolding byte_at
  byte_other h k = simp (lt-ltb _ _ h, ne_eqb _ _ k)

  -- the byte stands there
  pub byte_there : at < length text → get_or text at 0 ≡ b → byte_at text at b ≡ true
  unfolding byte_at
  byte_there h k = simp (lt-ltb _ _ h, eq-eqb _ _ k)

-- the end of the text ends its last line
pub end_of_text : (text : List ℕ) (at : ℕ) → length text ≤ at → line_end text at ≡ Some at
unfolding line_end
end_of_text text at h = simp (le-leb _ _ h)

module _ (text : List ℕ) (at : ℕ) (within : at < length text) where
  -- LF ends a line
  pub lf_ends : get_or text at 0 ≡ 10 → line_end text at ≡ Some (at + 1)
  unfolding line_end
  lf_ends e = simp (lt-leb _ _ within, byte_there text at 10 within e)

  -- CR ends none where no LF follows it
  pub cr_alone : (get_or text at 0 ≡ 10 → ⊥) → get_or text at 0 ≡ 13 → byte_at text (at + 1) 10 ≡ false → line_end text at ≡ None
  unfolding line_end
  cr_alone k e f = simp (lt-leb _ _ within, byte_other text at 10 within k, byte_there text at 13 within e, f)

  -- CR LF ends a line
  pub cr_lf_lem : (get_or text at 0 ≡ 10 → ⊥) → get_or text at 0 ≡ 13 → byte_at text (at + 1) 10 ≡ true → line_end text at ≡ Some (at + 2)
  unfolding line_end
  cr_lf_lem k e f = simp (lt-leb _ _ within, byte_other text at 10 within k, byte_there text at 13 within e, f)

-- a byte stands where the word of that byte alone does
pub byte_stands : (text : List ℕ) (at b : ℕ) → stands_at text at (b ∷ []) ≡ byte_at text at b
unfolding stands_at begins byte_at
byte_stands text at b = go (ltb at (length text)) refl
  where
    go : (t : Bool) → ltb at (length text) ≡ t → begins (drop at text) (b ∷ []) ≡ (t && eqb (get_or text at 0) b)
    go true h = rw (drop-cons text at 0 (ltb-true _ _ h), and-true)
    go false h = rw (drop_of_length-le text {i = at} (ltb-false _ _ h))

-- CR LF stands where the two bytes do
cr_lf_bytes : (text : List ℕ) (at : ℕ) → stands_at text at (13 ∷ 10 ∷ []) ≡ (byte_at text at 13 && byte_at text (at + 1) 10)
unfolding stands_at begins
cr_lf_bytes text at = go (ltb at (length text)) refl ∙ ap₂ ◌&&◌ (byte_stands text at 13) (byte_stands text (at + 1) 10)
  where
    go : (t : Bool) → ltb at (length text) ≡ t → begins (drop at text) (13 ∷ 10 ∷ []) ≡ (begins (drop at text) (13 ∷ []) && begins (drop (at + 1) text) (10 ∷ []))
    go true h = rw (drop-cons text at 0 (ltb-true _ _ h), add-one at, and-true)
    go false h = rw (drop_of_length-le text {i = at} (ltb-false _ _ h))

module _ (text : List ℕ) (at : ℕ) (within : at < length text) where
  -- so a line ends by the words that stand at its end
  pub lf_stands : stands_at text at (10 ∷ []) ≡ true → line_end text at ≡ Some (at + 1)
  unfolding line_end
  lf_stands e = rw (lt-leb _ _ within, ← byte_stands text at 10, e)

  pub cr_lf_stands : stands_at text at (10 ∷ []) ≡ false → stands_at text at (13 ∷ 10 ∷ []) ≡ true → line_end text at ≡ Some (at + 2)
  unfolding line_end
  cr_lf_stands e f = rw (lt-leb _ _ within, ← byte_stands text at 10, e, ← cr_lf_bytes text at, f)

  pub none_stands : stands_at text at (10 ∷ []) ≡ false → stands_at text at (13 ∷ 10 ∷ []) ≡ false → line_end text at ≡ None
  unfolding line_end
  none_stands e f = rw (lt-leb _ _ within, ← byte_stands text at 10, e, ← cr_lf_bytes text at, f)

-- what stands lies within the text
pub pair_within : (text : List ℕ) (at a b : ℕ) → stands_at text at (a ∷ b ∷ []) ≡ true → at + 2 ≤ length text
pair_within text at a b e = stands_within text at (a ∷ b ∷ []) (omega arith) e

pub byte_within : (text : List ℕ) (at b : ℕ) → stands_at text at (b ∷ []) ≡ true → at + 1 ≤ length text
byte_within text at b e = stands_within text at (b ∷ []) (omega arith) e
