-- Fixed byte strings: whether one stands at a place of a text, and a buffer with one put from a place on.
use Rattle.std.specs.Prelude.{ℕ, ◌+◌, Bool, true, false, cond, ◌&&◌, List, [], ◌∷◌, eqb, leb, length, drop}
use Rattle.std.proofs.lemmas.List.Edits.{sets}

-- a text begins with a word
unfoldable pub begins : List ℕ → List ℕ → Bool
begins text [] = true
begins [] (w ∷ ws) = false
begins (b ∷ bs) (w ∷ ws) = eqb b w && begins bs ws

-- a word stands in a text at a place
unfoldable pub stands_at : List ℕ → ℕ → List ℕ → Bool
stands_at text at word = begins (drop at text) word

-- a buffer has room for a word from a place on
unfoldable pub fits : List ℕ → ℕ → List ℕ → Bool
fits out at word = leb (at + length word) (length out)

-- the buffer with the word from the place on, and the place after it; where it does not fit, the buffer as it was and the place itself
unfoldable pub put_in : List ℕ → ℕ → List ℕ → List ℕ
put_in out at word = cond (fits out at word) (sets out at word) out

unfoldable pub place_after : List ℕ → ℕ → List ℕ → ℕ
place_after out at word = cond (fits out at word) (at + length word) at
