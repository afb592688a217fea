-- The laws of `total`: over the places of a list, at its last place, from a place on, of smaller terms, of a factor, after a store, of terms that differ at one place. By induction on the list or on its number of places.
use mathlib.Core.Path.{◌≡◌, refl, sym, ap, ◌∙◌}
use mathlib.Core.List.{List, [], ◌∷◌}
use Prim.Native.Nat.{ℕ, zero, suc, zero-le, suc-le-suc, ◌+◌, ◌*◌, ◌≤◌, ◌<◌}
use native.Mathlib.Nat.{add_comm, add-le-add, zero-lt-suc, suc-mul, le_of_suc-le-suc, not-suc-le-zero, mul-zero, mul-add, le_refl}
use native.Mathlib.Omega.{arith}
use lib.ListN.{length, get_or, drop, set, drop_of_length-le}
use Rattle.rules.specs.Words.{up_to, total}
use Rattle.rules.proofs.Lists.{length-up_to, get_d_up_to, up_to-set, rest_cons}

-- a sum over the places of a list of values is the sum over the values
pub total_places : {A : Type 0} (f : A → ℕ) (g : ℕ → A) (n : ℕ) → total f (up_to n g) ≡ total (λ i. f (g i)) (up_to n (λ i. i))
unfolding total up_to
total_places f g zero = refl
total_places f g (suc n) =
    ap (λ x. f (g 0) + x)
    (total_places f (λ i. g (suc i)) n ∙ sym (total_places (λ i. f (g i)) suc n))

-- a sum of smaller terms is smaller
pub total_mono : (f g : ℕ → ℕ) (n : ℕ) → ((i : ℕ) → i < n → f i ≤ g i) → total f (up_to n (λ i. i)) ≤ total g (up_to n (λ i. i))
unfolding total up_to
total_mono f g zero h = le_refl 0
total_mono f g (suc n) h =
    let first : f 0 ≤ g 0 = h 0 (omega arith) in
    let rest : total (λ i. f (suc i)) (up_to n (λ i. i)) ≤ total (λ i. g (suc i)) (up_to n (λ i. i)) = total_mono (λ i. f (suc i)) (λ i. g (suc i)) n (λ i l. h (suc i) (suc-le-suc l)) in
    omega (arith, first, rest, total_places f suc n, total_places g suc n)

-- a sum of n terms, each at most the most
pub total_most : {A : Type 0} (f : A → ℕ) (most n : ℕ) (g : ℕ → A) → ((i : ℕ) → i < n → f (g i) ≤ most) → total f (up_to n g) ≤ n * most
unfolding total up_to
total_most f most zero g e = zero-le
total_most f most (suc n) g e =
    rw (suc-mul n most, add_comm (n * most) most)
    (add-le-add (e 0 (zero-lt-suc n)) (total_most f most n (λ i. g (suc i)) (λ i h. e (suc i) (suc-le-suc h))))

-- a factor of every term is one of the sum
pub total_times : (k : ℕ) (f : ℕ → ℕ) (l : List ℕ) → total (λ i. k * f i) l ≡ k * total f l
unfolding total
total_times k f [] = sym (mul-zero k)
total_times k f (x ∷ l) = ap (λ y. k * f x + y) (total_times k f l) ∙ sym (mul-add k (f x) (total f l))

-- the last place apart
pub total_last : (f : ℕ → ℕ) (n : ℕ) → total f (up_to (suc n) (λ i. i)) ≡ total f (up_to n (λ i. i)) + f n
unfolding total up_to
total_last f zero = omega arith
total_last f (suc n) =
    let rest : total (λ i. f (suc i)) (up_to (suc n) (λ i. i)) ≡ total (λ i. f (suc i)) (up_to n (λ i. i)) + f (suc n) = total_last (λ i. f (suc i)) n in
    omega (arith, rest, total_places f suc (suc n), total_places f suc n)

-- the sum from a place on: what stands there and the sum from the next place on; nothing past the end
pub total_rest : {A : Type 0} (f : A → ℕ) (l : List A) (d : A) (i : ℕ) → i < length l → total f (drop i l) ≡ f (get_or l i d) + total f (drop (i + 1) l)
unfolding total
total_rest f l d i h = rw (rest_cons l d i h)

pub total_end : {A : Type 0} (f : A → ℕ) (l : List A) (i : ℕ) → length l ≤ i → total f (drop i l) ≡ 0
unfolding total
total_end f l i h = rw (drop_of_length-le l {i = i} h)

-- a store changes a sum by what it puts in and what it takes away
pub total-set : {A : Type 0} (f : A → ℕ) (l : List A) (i : ℕ) (x d : A) → i < length l → total f (set l i x) + f (get_or l i d) ≡ total f l + f x
unfolding total
total-set f [] i x d h = absurd (not-suc-le-zero h)
total-set f (y ∷ l) zero x d h = omega arith
total-set f (y ∷ l) (suc i) x d h =
    let rest : total f (set l i x) + f (get_or l i d) ≡ total f l + f x = total-set f l i x d (le_of_suc-le-suc h) in
    omega arith

-- sums whose terms differ at one place only
pub total_change : (f g : ℕ → ℕ) (n k : ℕ) → k < n → ((i : ℕ) → (i ≡ k → ⊥) → f i ≡ g i) → total f (up_to n (λ i. i)) + g k ≡ total g (up_to n (λ i. i)) + f k
total_change f g n k l same =
    let stored : set (up_to n g) k (f k) ≡ up_to n f = up_to-set n g f k (f k) l refl (λ i ne. sym (same i ne)) in
    let sum = total-set (λ x. x) (up_to n g) k (f k) 0 (rw (length-up_to n g) l) in
    rw (← total_places (λ x. x) f n, ← total_places (λ x. x) g n, ← stored)
    (rw (get_d_up_to n g k 0 l) at sum)
