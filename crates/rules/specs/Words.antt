-- The few words on lists that the rules are written in.
use Rattle.std.specs.Prelude.{ℕ, zero, suc, ◌+◌, Bool, true, cond, ◌&&◌, List, [], ◌∷◌}

-- the values of f at 0, 1, .. up to n - 1
unfoldable pub up_to : {A : Type 0} → ℕ → (ℕ → A) → List A
up_to zero f = []
up_to (suc n) f = f 0 ∷ up_to n (λ i. f (suc i))

-- the sum of f over a list
unfoldable pub total : {A : Type 0} → (A → ℕ) → List A → ℕ
total f [] = 0
total f (x ∷ xs) = f x + total f xs

-- the sum of f at 0, 1, .. up to n - 1
abbrev pub sum_to : ℕ → (ℕ → ℕ) → ℕ
sum_to n f = total f (up_to n (λ i. i))

-- whether p holds for every entry of a list
unfoldable pub every : {A : Type 0} → (A → Bool) → List A → Bool
every p [] = true
every p (x ∷ xs) = p x && every p xs

-- the number beside the first test that holds; 0, accepted, where none does
unfoldable pub first_of : List (Bool × ℕ) → ℕ
first_of [] = 0
first_of (row ∷ rows) = cond row.0 row.1 (first_of rows)
