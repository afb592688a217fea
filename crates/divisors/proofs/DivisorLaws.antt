-- Euclid's divisions reach the greatest common divisor, the quotient by it gives the least common multiple, and there is one of each. Assumes nothing.
use mathlib.Core.Path.{◌≡◌, sym, ap, subst, ◌∙◌}
use mathlib.Core.List.{List, [], ◌∷◌}
use Prim.Native.Nat.{ℕ, zero, suc, suc-le-suc, ◌*◌, ◌/◌, ◌%◌, ◌≤◌, ◌<◌, ◌∣◌}
use native.Mathlib.Nat.{dvd_refl, dvd-zero, one-dvd, dvd_trans, dvd_antisymm, dvd-mod_iff, dvd-mul_left, dvd-mul_right, mul-dvd-mul_left, mul-dvd-mul_right, dvd_of_mul-dvd-mul_left, dvd_of_mul-dvd-mul_right, mul-div_cancel', div-mul_cancel, mul_comm, mul_right_comm, zero-mul, zero-div, mul-pos, mod-lt, zero-lt-suc, pos_of_dvd_of_pos, not-suc-le-zero, le_of_suc-le-suc, le_trans, le_refl}
use lib.Arith.{le-zero}
use lib.ListN.{length, get_or}
use borrow.Author.Tests.{le-leb, lt-leb}
use Rattle.std.specs.Prelude.{Option, Some, None}
use Rattle.divisors.specs.Divisors.{euclid, gcd_of, lcm_of, lcm_all, IsGcd, IsLcm, IsLcmOf, Capped, within}

-- a number and 0 have that number as their greatest common divisor
pub gcd-zero : (a : ℕ) → IsGcd a 0 a
gcd-zero a = record { left = dvd_refl a; right = dvd-zero a; most = λ k ha hb. ha }

-- a division keeps the greatest common divisor
pub gcd_step : (a b : ℕ) {d : ℕ} → IsGcd b (a % b) d → IsGcd a b d
gcd_step a b {d} s =
    record {
      left = (dvd-mod_iff d s.left).0 s.right;
      right = s.left;
      most = λ k ha hb. s.most k hb ((dvd-mod_iff k hb).1 ha);
    }

-- as many divisions as the second number are enough
euclid_is : (f a b : ℕ) → b ≤ f → IsGcd a b (euclid f a b)
unfolding euclid
euclid_is zero a b h = rw (le-zero h) (gcd-zero a)
euclid_is (suc f) a zero h = gcd-zero a
euclid_is (suc f) a (suc b) h =
    gcd_step a (suc b) (euclid_is f (suc b) (a % suc b) (le_of_suc-le-suc (le_trans (mod-lt a (zero-lt-suc b)) h)))

-- `gcd_of` is the greatest common divisor
pub gcd_is : (a b : ℕ) → IsGcd a b (gcd_of a b)
unfolding gcd_of
gcd_is a b = euclid_is b a b (le_refl b)

-- two numbers have one greatest common divisor
pub gcd_one : {a b x y : ℕ} → IsGcd a b x → IsGcd a b y → x ≡ y
gcd_one {x = x} {y = y} f g = dvd_antisymm (g.most x f.left f.right) (f.most y g.left g.right)

-- a common divisor of m times each of two numbers divides m times their greatest common divisor
pub gcd_scale : {a b d : ℕ} → IsGcd a b d → (k m : ℕ) → k ∣ m * a → k ∣ m * b → k ∣ m * d
gcd_scale {d = d} s k zero ha hb = rw (zero-mul d) (dvd-zero k)
gcd_scale {a} {b} {d} s k (suc n) ha hb =
    let m : ℕ = suc n in
    let g : ℕ = gcd_of (m * a) (m * b) in
    let big : IsGcd (m * a) (m * b) g = gcd_is (m * a) (m * b) in
    let e : m * (g / m) ≡ g = mul-div_cancel' m (big.most m (dvd-mul_right m a) (dvd-mul_right m b)) in
    let ga : g / m ∣ a = dvd_of_mul-dvd-mul_left (g / m) (zero-lt-suc n) (rw e big.left) in
    let gb : g / m ∣ b = dvd_of_mul-dvd-mul_left (g / m) (zero-lt-suc n) (rw e big.right) in
    dvd_trans k (big.most k ha hb) (rw e at (mul-dvd-mul_left (g / m) m (s.most (g / m) ga gb)))

-- 0 is the least common multiple of 0 and any number
pub lcm-zero_left : (b : ℕ) → IsLcm 0 b 0
lcm-zero_left b = record { left = dvd_refl 0; right = dvd-zero b; least = λ k ha hb. ha }

-- and of any number and 0
pub lcm-zero_right : (a : ℕ) → IsLcm a 0 0
lcm-zero_right a = record { left = dvd-zero a; right = dvd_refl 0; least = λ k ha hb. hb }

-- a number over the greatest common divisor, times the other number, is the least common multiple
pub quotient_is : (a b : ℕ) {g : ℕ} → IsGcd a b g → IsLcm a b (a / g * b)
quotient_is zero b {g} s = rw (zero-div g, zero-mul b) (lcm-zero_left b)
quotient_is (suc n) b {g} s =
    let a : ℕ = suc n in
    let pos : 0 < g = pos_of_dvd_of_pos s.left (zero-lt-suc n) in
    let e : a / g * b * g ≡ a * b = mul_right_comm (a / g) b g ∙ ap (λ (x : ℕ). x * b) (div-mul_cancel g s.left) in
    record {
      left = dvd_of_mul-dvd-mul_right a pos (rw e (mul-dvd-mul_left g a s.right));
      right = dvd-mul_left b (a / g);
      least = λ k ha hb.
          dvd_of_mul-dvd-mul_right (a / g * b) pos
          (rw e (gcd_scale s (a * b) k (rw (mul_comm k a) (mul-dvd-mul_left b a hb)) (mul-dvd-mul_right a ha b)));
    }

-- `lcm_of` is the least common multiple
pub lcm_is : (a b : ℕ) → IsLcm a b (lcm_of a b)
unfolding lcm_of
lcm_is a b = quotient_is a b (gcd_is a b)

-- two numbers have one least common multiple
pub lcm_one : {a b x y : ℕ} → IsLcm a b x → IsLcm a b y → x ≡ y
lcm_one {x = x} {y = y} f g = dvd_antisymm (f.least y g.left g.right) (g.least x f.left f.right)

-- the least common multiple of two numbers above 0 is above 0
pub lcm_pos : {a b m : ℕ} → 0 < a → 0 < b → IsLcm a b m → 0 < m
lcm_pos {a} {b} ha hb s = pos_of_dvd_of_pos (s.least (a * b) (dvd-mul_right a b) (dvd-mul_left b a)) (mul-pos ha hb)

-- `lcm_all` is the least common multiple of the list
pub all_is : (l : List ℕ) → IsLcmOf l (lcm_all l)
unfolding lcm_all
all_is [] = record { each = λ k lt. absurd (not-suc-le-zero lt); least = λ n all. one-dvd n }
all_is (p ∷ ps) =
    let rest : IsLcmOf ps (lcm_all ps) = all_is ps in
    let two : IsLcm p (lcm_all ps) (lcm_of p (lcm_all ps)) = lcm_is p (lcm_all ps) in
    record {
      each = elim [ zero ↦ (λ lt. two.left) | suc k ↦ (λ lt. dvd_trans (get_or ps k 0) (rest.each k (le_of_suc-le-suc lt)) two.right) ];
      least = λ n all. two.least n (all 0 (zero-lt-suc (length ps))) (rest.least n (λ k lt. all (suc k) (suc-le-suc lt)));
    }

-- every number of the list divides `lcm_all`
pub all_each : (l : List ℕ) (k : ℕ) → k < length l → get_or l k 0 ∣ lcm_all l
all_each l = (all_is l).each

-- a list has one least common multiple
pub all_one : {l : List ℕ} {x y : ℕ} → IsLcmOf l x → IsLcmOf l y → x ≡ y
all_one {x = x} {y = y} f g = dvd_antisymm (f.least y g.each) (g.least x f.each)

-- the least common multiple of numbers above 0 is above 0
pub all_pos : (l : List ℕ) → ((k : ℕ) → k < length l → 0 < get_or l k 0) → 0 < lcm_all l
unfolding lcm_all
all_pos [] pos = zero-lt-suc 0
all_pos (p ∷ ps) pos =
    lcm_pos (pos 0 (zero-lt-suc (length ps))) (all_pos ps (λ k lt. pos (suc k) (suc-le-suc lt))) (lcm_is p (lcm_all ps))

-- an answer that is a number: it has the property, and is at most the cap
pub capped_number : (P : ℕ → Type 0) (cap m : ℕ) {r : Option ℕ} → r ≡ Some m → Capped cap P r → P m × (m ≤ cap)
unfolding Capped
capped_number P cap m e h = subst (Capped cap P) e h

-- an answer that is too large: every number with the property is above the cap
pub capped_large : (P : ℕ → Type 0) (cap m : ℕ) {r : Option ℕ} → r ≡ None → Capped cap P r → P m → cap < m
unfolding Capped
capped_large P cap m e h = subst (Capped cap P) e h m

-- the answer for a number that is at most the cap
pub within_is : (cap m : ℕ) → m ≤ cap → within cap m ≡ Some m
unfolding within
within_is cap m h = simp (le-leb m cap h)

-- the answer for a number above the cap
pub within_large : (cap m : ℕ) → cap < m → within cap m ≡ None
unfolding within
within_large cap m h = simp (lt-leb m cap h)

-- an answer under a cap is the one for the number with the property, where there is one such number
pub capped_is :
    (P : ℕ → Type 0) → ((x y : ℕ) → P x → P y → x ≡ y) → (cap m : ℕ) {r : Option ℕ} → Capped cap P r → P m → r ≡ within cap m
unfolding Capped
capped_is P one cap m {r = Some x} (p, h) q = rw (one m x q p, within_is cap x h)
capped_is P one cap m {r = None} above q = sym (within_large cap m (above m q))

-- two answers under a cap are equal
pub capped-one :
    (P : ℕ → Type 0) → ((x y : ℕ) → P x → P y → x ≡ y) → (cap m : ℕ) {r r' : Option ℕ} → Capped cap P r → Capped cap P r' → P m → r ≡ r'
capped-one P one cap m a b q = capped_is P one cap m a q ∙ sym (capped_is P one cap m b q)

-- an answer for two numbers is the one for `lcm_of`
pub lcm_capped : (cap a b : ℕ) {r : Option ℕ} → Capped cap (IsLcm a b) r → r ≡ within cap (lcm_of a b)
lcm_capped cap a b h = capped_is (IsLcm a b) (λ x y f g. lcm_one f g) cap (lcm_of a b) h (lcm_is a b)

-- an answer for a list is the one for `lcm_all`
pub lcm_of_is : (cap : ℕ) (l : List ℕ) {r : Option ℕ} → Capped cap (IsLcmOf l) r → r ≡ within cap (lcm_all l)
lcm_of_is cap l h = capped_is (IsLcmOf l) (λ x y f g. all_one f g) cap (lcm_all l) h (all_is l)
