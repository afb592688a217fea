-- From the least common multiple of a list's first numbers to that of one number more, and to that of the whole list. Assumes nothing.
use mathlib.Core.Path.{◌≡◌, subst}
use mathlib.Core.Bool.{Bool, true, false}
use mathlib.Core.List.{List, []}
use Prim.Native.Nat.{ℕ, ◌+◌, ◌≤◌, ◌<◌, ◌∣◌}
use native.Mathlib.Nat.{pos_of_ne-zero, dvd-zero, dvd_trans, le_of_dvd, lt_of_lt_of_le}
use native.Mathlib.Omega.{arith}
use borrow.Author.Count.{below_more}
use lib.Dec.{eqb}
use borrow.Author.Tests.{eqb-true, eqb-false}
use Rattle.std.specs.List.{IsAnyAnswer}
use lib.ListN.{length, get_or, take, length-take}
use lib.Seq.{get_or-take, take_all}
use Rattle.divisors.specs.Divisors.{lcm_all, lcm_of, IsLcm, IsLcmOf, ZeroIn}
use Rattle.divisors.proofs.DivisorLaws.{lcm_is, all_is, all_one, all_pos}

-- a list with a 0 has 0 as its least common multiple
pub zero_is : (l : List ℕ) → ZeroIn l true → IsLcmOf l 0
unfolding ZeroIn
zero_is l (k, lt, e) = record { each = λ j h. dvd-zero (get_or l j 0); least = λ n all. rw e at (all k lt) }

-- the least common multiple of a list without a 0 is above 0
pub none_pos : (l : List ℕ) {m : ℕ} → ZeroIn l false → IsLcmOf l m → 0 < m
unfolding ZeroIn
none_pos l z s = subst (λ (n : ℕ). 0 < n) (all_one (all_is l) s) (all_pos l z)

-- no number has 1 as its least common multiple
pub empty_is : (l : List ℕ) → IsLcmOf (take 0 l) 1
unfolding lcm_all
empty_is l = all_is []

module _ (l : List ℕ) (i acc : ℕ) (lt : i < length l) (s : IsLcmOf (take i l) acc) where
  -- what the first numbers all divide, their least common multiple divides
  before_divides : (n : ℕ) → ((k : ℕ) → k < i → get_or l k 0 ∣ n) → acc ∣ n
  before_divides n all =
      s.least n (λ k h. let b : k < i = omega (arith, rw length-take at h) in rw (get_or-take i l k 0 b) (all k b))

  -- one number more
  pub turn_is : {m : ℕ} → IsLcm acc (get_or l i 0) m → IsLcmOf (take (i + 1) l) m
  turn_is {m} t =
      let old : (k : ℕ) → k < i → get_or l k 0 ∣ m =
      λ k h. dvd_trans (get_or l k 0) (rw (get_or-take i l k 0 h) at (s.each k (rw length-take (omega arith)))) t.left in
      record {
        each = λ k h.
            let b : k < i + 1 = omega (arith, rw length-take at h) in
            rw (get_or-take (i + 1) l k 0 b) (below_more (λ (j : ℕ). get_or l j 0 ∣ m) i old t.right k b);
        least = λ n all.
            let every : (k : ℕ) → k < i + 1 → get_or l k 0 ∣ n =
            λ k b. rw (get_or-take (i + 1) l k 0 b) at (all k (rw length-take (omega arith))) in
            t.least n (before_divides n (λ k h. every k (omega arith))) (every i (omega arith));
      }

  -- where one number more takes the multiple above the cap, so do all
  pub turn_above : (cap m : ℕ) → ZeroIn l false → (cap < lcm_of acc (get_or l i 0)) → IsLcmOf l m → cap < m
  turn_above cap m z h w =
      let d : lcm_of acc (get_or l i 0) ∣ m =
      (lcm_is acc (get_or l i 0)).least m (before_divides m (λ k b. w.each k (omega arith))) (w.each i lt) in
      lt_of_lt_of_le h (le_of_dvd (none_pos l z w) d)

-- the first numbers are all, at the end
pub end_is : (l : List ℕ) (i acc : ℕ) → length l ≤ i → IsLcmOf (take i l) acc → IsLcmOf l acc
end_is l i acc h s = rw (take_all i l h) at s

-- the search for a 0 tells whether there is one
pub zero_told : (l : List ℕ) (b : Bool) → IsAnyAnswer (λ x e. eqb x 0 ≡ e) l b → ZeroIn l b
unfolding ZeroIn
zero_told l true (k, lt, at) = (k, lt, eqb-true _ _ (at 0))
zero_told l false none = λ k lt. pos_of_ne-zero (eqb-false _ _ (none k 0 (omega arith) lt))
