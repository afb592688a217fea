-- The laws of `up_to` and `every`: lengths, places, stores and rests, each by induction on the list or on its number of places.
use mathlib.Core.Path.{◌≡◌, refl, sym, ap, ◌∙◌}
use mathlib.Core.Bool.{Bool, true, false, false≢true, ◌&&◌}
use mathlib.Core.List.{List, [], ◌∷◌, map}
use Prim.Native.Nat.{ℕ, zero, suc, zero-le, suc-le-suc, ◌+◌, ◌≤◌, ◌<◌}
use native.Mathlib.Nat.{le_of_suc-le-suc, not-suc-le-zero, zero-lt-suc}
use native.Mathlib.Decide.{ℕ_discrete}
use native.Mathlib.Numerals.{add-one}
use lib.ListN.{length, get_or, drop, set, length-set, length-map, drop_of_length-le}
use lib.Seq.{drop-cons, ext_get_or, get_or-set_same, get_or-set_other}
use Rattle.rules.specs.Words.{up_to, every}

-- both sides of a conjunction that holds
pub both_left : (a b : Bool) → (a && b) ≡ true → a ≡ true
both_left true b e = refl
both_left false b e = e

pub both_right : (a b : Bool) → (a && b) ≡ true → b ≡ true
both_right true b e = e
both_right false b e = absurd (false≢true e)

-- a conjunction with a second side that holds, and with one that fails
pub and-true : (b : Bool) → (b && true) ≡ b
and-true true = refl
and-true false = refl

pub and-false : (a b : Bool) → b ≡ false → (a && b) ≡ false
and-false true b e = e
and-false false b e = refl

-- an array of a struct's field has its places, whatever its entries are seen as
pub length-mapped : (A B : Type 0) (f : A → B) (l : List A) (n : ℕ) → length (map f l) ≡ n → length l ≡ n
length-mapped A B f l n e = sym (length-map l f) ∙ e

module _ {A : Type 0} where
  pub length-up_to : (n : ℕ) (f : ℕ → A) → length (up_to n f) ≡ n
  unfolding up_to
  length-up_to zero f = refl
  length-up_to (suc n) f = ap suc (length-up_to n (λ i. f (suc i)))

  pub get_d_up_to : (n : ℕ) (f : ℕ → A) (i : ℕ) (d : A) → i < n → get_or (up_to n f) i d ≡ f i
  unfolding up_to
  get_d_up_to zero f i d l = absurd (not-suc-le-zero l)
  get_d_up_to (suc n) f zero d l = refl
  get_d_up_to (suc n) f (suc i) d l = get_d_up_to n (λ k. f (suc k)) i d (le_of_suc-le-suc l)

  -- two functions that agree below n give the same list
  pub up_to-ext : (n : ℕ) (f g : ℕ → A) → ((i : ℕ) → i < n → f i ≡ g i) → up_to n f ≡ up_to n g
  unfolding up_to
  up_to-ext zero f g e = refl
  up_to-ext (suc n) f g e =
      let head : f 0 ≡ g 0 = e 0 (zero-lt-suc n) in
      let tail : up_to n (λ i. f (suc i)) ≡ up_to n (λ i. g (suc i)) =
      up_to-ext n (λ i. f (suc i)) (λ i. g (suc i)) (λ i l. e (suc i) (suc-le-suc l)) in
      rw (head, tail)

  -- what is left of the list at a place, and past the end
  pub up_to_rest : (n : ℕ) (f : ℕ → A) (i : ℕ) → i < n → drop i (up_to n f) ≡ f i ∷ drop (i + 1) (up_to n f)
  up_to_rest n f i l =
      let h : i < length (up_to n f) = rw (length-up_to n f) l in
      rw (add-one, drop-cons (up_to n f) i (f i), get_d_up_to n f i (f i) l)

  pub up_to_end : (n : ℕ) (f : ℕ → A) (i : ℕ) → n ≤ i → drop i (up_to n f) ≡ []
  up_to_end n f i l = drop_of_length-le (up_to n f) {i = i} (rw (length-up_to n f) l)

  -- a list of n places is the list of its places
  pub up_to_get_d : (l : List A) (n : ℕ) (d : A) → length l ≡ n → up_to n (λ i. get_or l i d) ≡ l
  up_to_get_d l n d e =
      ext_get_or d (up_to n (λ i. get_or l i d)) l (length-up_to n (λ i. get_or l i d) ∙ sym e)
      λ i h. get_d_up_to n (λ k. get_or l k d) i d (rw (length-up_to n (λ k. get_or l k d)) at h)

  -- a store at a place: the list of a function that has the value there and agrees elsewhere
  pub up_to-set : (n : ℕ) (f g : ℕ → A) (i : ℕ) (x : A) → i < n → g i ≡ x → ((k : ℕ) → (k ≡ i → ⊥) → f k ≡ g k) → set (up_to n f) i x ≡ up_to n g
  up_to-set n f g i x l here there =
      ext_get_or x (set (up_to n f) i x) (up_to n g) (length-set (up_to n f) i x ∙ length-up_to n f ∙ sym (length-up_to n g)) at
    where
      at : (k : ℕ) → k < length (set (up_to n f) i x) → get_or (set (up_to n f) i x) k x ≡ get_or (up_to n g) k x
      at k h = go (ℕ_discrete k i)
        where
          lk : k < n
          lk = rw (length-set, length-up_to n f) at h

          go : Dec (k ≡ i) → get_or (set (up_to n f) i x) k x ≡ get_or (up_to n g) k x
          go (yes e) = rw e (get_or-set_same (up_to n f) i x x (rw (length-up_to n f) l) ∙ sym here ∙ sym (get_d_up_to n g i x l))
          go (no ne) =
              get_or-set_other (up_to n f) i k x x ne
              ∙ get_d_up_to n f k x lk
              ∙ there k ne
              ∙ sym (get_d_up_to n g k x lk)

  -- what is left of a list at a place
  pub rest_cons : (l : List A) (d : A) (i : ℕ) → i < length l → drop i l ≡ get_or l i d ∷ drop (i + 1) l
  rest_cons l d i h = rw (add-one, drop-cons l i d)

  -- a walk that tests every place: it goes on, stops at a place that fails, or ends
  pub every_on : (q : A → Bool) (l : List A) (d : A) (i : ℕ) → i < length l → q (get_or l i d) ≡ true → every q (drop i l) ≡ every q (drop (i + 1) l)
  unfolding every
  every_on q l d i h e = rw (rest_cons l d i h, e)

  pub every_stop : (q : A → Bool) (l : List A) (d : A) (i : ℕ) → i < length l → q (get_or l i d) ≡ false → every q (drop i l) ≡ false
  unfolding every
  every_stop q l d i h e = rw (rest_cons l d i h, e)

  pub every_end : (q : A → Bool) (l : List A) (i : ℕ) → length l ≤ i → every q (drop i l) ≡ true
  unfolding every
  every_end q l i h = rw (drop_of_length-le l {i = i} h)

  -- a test that holds of every entry holds of the first, and of every entry of the rest
  pub every_first : (q : A → Bool) (x : A) (l : List A) → every q (x ∷ l) ≡ true → q x ≡ true
  unfolding every
  every_first q x l e = both_left (q x) (every q l) e

  pub every_rest : (q : A → Bool) (x : A) (l : List A) → every q (x ∷ l) ≡ true → every q l ≡ true
  unfolding every
  every_rest q x l e = both_right (q x) (every q l) e

  -- what holds of every place holds of each
  pub every_at : (q : A → Bool) (l : List A) (d : A) (i : ℕ) → every q l ≡ true → i < length l → q (get_or l i d) ≡ true
  unfolding every
  every_at q [] d i e h = absurd (not-suc-le-zero h)
  every_at q (x ∷ l) d zero e h = both_left (q x) (every q l) e
  every_at q (x ∷ l) d (suc i) e h = every_at q l d i (both_right (q x) (every q l) e) (le_of_suc-le-suc h)

  -- what holds of each place holds of every one
  pub every_all : (q : A → Bool) (l : List A) (d : A) → ((i : ℕ) → i < length l → q (get_or l i d) ≡ true) → every q l ≡ true
  unfolding every
  every_all q [] d e = refl
  every_all q (x ∷ l) d e =
      let head : q x ≡ true = e 0 (zero-lt-suc (length l)) in
      rw (head, every_all q l d (λ i h. e (suc i) (suc-le-suc h)))

  -- the same for the values of a function: all of them, and those from the place n on
  pub up_to_at : (q : A → Bool) (m : ℕ) (f : ℕ → A) → every q (up_to m f) ≡ true → (i : ℕ) → i < m → q (f i) ≡ true
  up_to_at q m f e i h =
      let at : q (get_or (up_to m f) i (f i)) ≡ true = every_at q (up_to m f) (f i) i e (rw (length-up_to m f) h) in
      rw (get_d_up_to m f i (f i) h) at at

  pub up_to_all : (q : A → Bool) (m : ℕ) (f : ℕ → A) → ((i : ℕ) → i < m → q (f i) ≡ true) → every q (up_to m f) ≡ true
  unfolding up_to every
  up_to_all q zero f e = refl
  up_to_all q (suc m) f e =
      rw (e 0 (zero-lt-suc m), up_to_all q m (λ i. f (suc i)) (λ i h. e (suc i) (suc-le-suc h)))

  pub rest_at : (q : A → Bool) (n m : ℕ) (f : ℕ → A) → every q (drop n (up_to m f)) ≡ true → (i : ℕ) → n ≤ i → i < m → q (f i) ≡ true
  unfolding up_to
  rest_at q zero m f e i a h = up_to_at q m f e i h
  rest_at q (suc n) zero f e i a h = absurd (not-suc-le-zero h)
  rest_at q (suc n) (suc m) f e zero a h = absurd (not-suc-le-zero a)
  rest_at q (suc n) (suc m) f e (suc i) a h =
      rest_at q n m (λ k. f (suc k)) e i (le_of_suc-le-suc a) (le_of_suc-le-suc h)

  pub rest_all : (q : A → Bool) (n m : ℕ) (f : ℕ → A) → ((i : ℕ) → n ≤ i → i < m → q (f i) ≡ true) → every q (drop n (up_to m f)) ≡ true
  unfolding up_to every
  rest_all q zero m f e = up_to_all q m f (λ i h. e i zero-le h)
  rest_all q (suc n) zero f e = refl
  rest_all q (suc n) (suc m) f e =
      rest_all q n m (λ i. f (suc i)) (λ i a h. e (suc i) (suc-le-suc a) (suc-le-suc h))
