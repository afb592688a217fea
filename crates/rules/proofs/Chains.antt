-- The rules' words on lists are those that a chain of iterators makes: `every` is what `all` tells, `total` what a sum comes to. By induction on the list.
use Rattle.std.proofs.Common.{◌≡◌, ℕ, ◌+◌, Bool, ◌&&◌, List, [], ◌∷◌, refl, ap, ◌∙◌}
use Rattle.std.specs.Prelude.{sum, sum_by}
use Rattle.std.specs.List.{list_all}
use Rattle.std.proofs.lemmas.List.Sums.{sum_by-cons}
use Rattle.rules.specs.Words.{total, every}

pub every-list_all : {A : Type 0} (p : A → Bool) (xs : List A) → list_all p xs ≡ every p xs
unfolding every
every-list_all p [] = refl
every-list_all p (x ∷ xs) = ap (λ b. p x && b) (every-list_all p xs)

pub total-sum_by : {A : Type 0} (f : A → ℕ) (xs : List A) → sum_by f xs ≡ total f xs
unfolding total
total-sum_by f [] = refl
total-sum_by f (x ∷ xs) = sum_by-cons f x xs ∙ ap (λ n. f x + n) (total-sum_by f xs)

pub total-sum : (xs : List ℕ) → sum xs ≡ total (λ n. n) xs
total-sum xs = total-sum_by (λ n. n) xs
