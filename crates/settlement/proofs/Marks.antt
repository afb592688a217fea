-- The entries that must be 0, as one test of the places with two marks: a chain's; and that it is rule 4's last bullet with its first for the jobs that still wait.
use mathlib.Core.Path.{◌≡◌, refl, sym, ap, ◌∙◌}
use mathlib.Core.Bool.{Bool, true, false, false≢true, not, ◌&&◌, ◌||◌}
use mathlib.Core.List.{List, [], ◌∷◌}
use Prim.Native.Nat.{ℕ, zero, suc, zero-le, suc-le-suc, ◌≤◌, ◌<◌, min}
use native.Mathlib.Nat.{zero-add, le_of_suc-le-suc, not-suc-le-zero}
use native.Mathlib.Omega.{arith}
use lib.Dec.{eqb}
use lib.ListN.{length, get_or, get_or-eq_default}
use Rattle.rules.specs.declared.Tasks.{Tasks}
use Rattle.rules.specs.declared.Jobs.{Jobs}
use Rattle.rules.specs.declared.Dues.{Dues}
use Rattle.rules.specs.declared.Ready.{Ready}
use Rattle.rules.specs.Words.{up_to, every}
use Rattle.rules.specs.Limits.{most_tasks}
use Rattle.rules.specs.State.{job_at}
use Rattle.rules.specs.Choice.{order_by}
use Rattle.rules.specs.Settlement.{over_entries_zero}
use Rattle.rules.proofs.Lists.{and-true, up_to-ext, up_to_get_d, up_to_all, every_all, every_at}
use Rattle.std.specs.Bool.{MatchBool}
use Rattle.std.specs.List.{range_with_len, AllWithin, HoldsAt}
use Rattle.std.proofs.lemmas.List.FromFn.{length-range_with_len, get_or-range_with_len}
use Rattle.rules.proofs.Orders.{every-insert, order_in_lem, order_out}
use Rattle.choosing.specs.Choosing.{due_in, waits_in, waiting_in}
use Rattle.settlement.specs.Parts.{rest_zero}

-- a test that a chain asks of the places below n in turn
range_up_to : (n : ℕ) → range_with_len 0 n ≡ up_to n (λ i. i)
range_up_to n =
    sym (up_to_get_d (range_with_len 0 n) n 0 (length-range_with_len 0 n))
    ∙ up_to-ext n (λ i. get_or (range_with_len 0 n) i 0) (λ i. i) (λ i l. get_or-range_with_len 0 n i 0 l ∙ zero-add i)

pub all-every : (p : ℕ → Bool) (n : ℕ) (r : Bool) → MatchBool r (AllWithin (λ i. p i ≡ true) (range_with_len 0 n) 0 (length (range_with_len 0 n))) ((k : ℕ) × (k < length (range_with_len 0 n)) × HoldsAt (λ i. p i ≡ false) (range_with_len 0 n) k)
    → r ≡ every p (up_to n (λ i. i))
all-every p n true h = sym (ap (every p) (sym (range_up_to n)) ∙ every_all p (range_with_len 0 n) 0 (λ i l. h i 0 zero-le l))
all-every p n false h = go (every p (range_with_len 0 n)) refl ∙ ap (every p) (range_up_to n)
  where
    go : (b : Bool) → every p (range_with_len 0 n) ≡ b → false ≡ every p (range_with_len 0 n)
    go true e = absurd (false≢true (sym (h.2 0) ∙ every_at p (range_with_len 0 n) 0 h.0 e h.1))
    go false e = sym e

-- a test of two parts at every entry
every_parts : (p q r : ℕ → Bool) → ((i : ℕ) → r i ≡ (p i && q i)) → (l : List ℕ) → every r l ≡ (every p l && every q l)
unfolding every
every_parts p q r e [] = refl
every_parts p q r e (x ∷ l) = rw (e x, every_parts p q r e l) (change (p x) (q x) (every p l) (every q l))
  where
    change : (a b c d : Bool) → (a && b && (c && d)) ≡ (a && c && (b && d))
    change true true c d = refl
    change true false true d = refl
    change true false false d = refl
    change false b c d = refl

-- one more place, at the end
every_last : (p : ℕ → Bool) (n : ℕ) (f : ℕ → ℕ) → every p (up_to (suc n) f) ≡ (p (f n) && every p (up_to n f))
unfolding every up_to
every_last p zero f = refl
every_last p (suc n) f = rw (every_last p n (λ i. f (suc i))) (change (p (f 0)) (p (f (suc n))) (every p (up_to n (λ i. f (suc i)))))
  where
    change : (a b c : Bool) → (a && (b && c)) ≡ (b && (a && c))
    change true b c = refl
    change false true c = refl
    change false false c = refl

-- a test of an order's places is one of all places, of those that are in it
order_every : (key : ℕ → ℕ) (ready q : ℕ → Bool) (n : ℕ) → every q (order_by key ready n) ≡ every (λ i. not (ready i) || q i) (up_to n (λ i. i))
unfolding order_by every up_to
order_every key ready q zero = refl
order_every key ready q (suc n) =
    go (ready n) refl (order_every key ready q n) ∙ sym (every_last (λ i. not (ready i) || q i) n (λ i. i))
  where
    go : (b : Bool) → ready n ≡ b → every q (order_by key ready n) ≡ every (λ i. not (ready i) || q i) (up_to n (λ i. i)) → every q (order_by key ready (suc n)) ≡ ((not (ready n) || q n) && every (λ i. not (ready i) || q i) (up_to n (λ i. i)))
    go true e h = rw (order_in_lem key ready n e, every-insert key n q (order_by key ready n), h, e)
    go false e h = rw (order_out key ready n e, h, e)

-- a test that holds from a place on adds nothing there
past : (q : ℕ → Bool) (m n : ℕ) (f : ℕ → ℕ) → m ≤ n → ((i : ℕ) → m ≤ i → i < n → q (f i) ≡ true) → every q (up_to n f) ≡ every q (up_to m f)
unfolding every up_to
past q zero n f l h = up_to_all q n f (λ i b. h i zero-le b)
past q (suc m) zero f l h = absurd (not-suc-le-zero l)
past q (suc m) (suc n) f l h =
    rw (past q m n (λ i. f (suc i)) (le_of_suc-le-suc l) (λ i k b. h (suc i) (suc-le-suc k) (suc-le-suc b)))

-- rule 4's last bullet asks nothing past the array's end, where no mark is
module _ (ts : Tasks) (js : Jobs) (report : List ℕ) (long : length js.over ≡ most_tasks) where
  over_first : over_entries_zero ts js report ≡ every (λ i. not (get_or js.over i false) || eqb (get_or report i 0) 0) (up_to (min ts.count most_tasks) (λ i. i))
  unfolding over_entries_zero job_at
  over_first = past _ (min ts.count most_tasks) ts.count (λ i. i) (omega arith) none
    where
      none : (i : ℕ) → min ts.count most_tasks ≤ i → i < ts.count → (not (get_or js.over i false) || eqb (get_or report i 0) 0) ≡ true
      none i a b = rw (get_or-eq_default js.over false {n = i} (omega arith))

  -- the walk is that bullet, and entry 0 for each job that waits
  pub rest_is : (d : Dues) (w : Ready) → rest_zero js w ts.count report ≡ (over_entries_zero ts js report && every (λ i. eqb (get_or report i 0) 0) (waiting_in d w ts.count))
  unfolding rest_zero waiting_in
  rest_is d w =
      let zero : ℕ → Bool = λ i. eqb (get_or report i 0) 0 in
      let places = up_to (min ts.count most_tasks) (λ i. i) in
      every_parts (λ i. not (get_or js.over i false) || zero i) (λ i. not (waits_in w i) || zero i) (λ i. not (get_or js.over i false || waits_in w i) || zero i)
      (λ i. either (get_or js.over i false) (waits_in w i) (zero i))
      places
      ∙ rw (over_first, order_every (due_in d) (waits_in w) zero (min ts.count most_tasks))
    where
      either : (a b z : Bool) → (not (a || b) || z) ≡ ((not a || z) && (not b || z))
      either true true true = refl
      either true true false = refl
      either true false z = sym (and-true z)
      either false b z = refl
