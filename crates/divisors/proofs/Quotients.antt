-- A number that every number of a list divides is their least common multiple exactly when its quotients by them have no common divisor but 1. Assumes nothing.
use mathlib.Core.Path.{◌≡◌, sym, ap, subst, ◌∙◌}
use mathlib.Core.List.{List}
use Prim.Native.Nat.{ℕ, ◌*◌, ◌/◌, ◌<◌, ◌∣◌}
use native.Mathlib.Nat.{dvd_refl, one-dvd, dvd_trans, dvd-mul_left, mul-dvd-mul_left, mul-dvd-mul_right, dvd_of_mul-dvd-mul_left, dvd_of_mul-dvd-mul_right, mul-div_cancel', div-mul_cancel, mul-one, pos_of_dvd_of_pos, eq-one_of_dvd-one}
use lib.ListN.{length, get_or}
use Rattle.divisors.specs.Divisors.{gcd_of, lcm_all}
use Rattle.divisors.proofs.DivisorLaws.{gcd_is, gcd_one, all_is, all_each}

-- 1 and any number have 1 as their greatest common divisor
pub common_one : (t : ℕ) → gcd_of 1 t ≡ 1
common_one t = gcd_one (gcd_is 1 t) (record { left = dvd_refl 1; right = one-dvd t; most = λ k a b. a })

module _ (l : List ℕ) (m : ℕ) (pos : 0 < m) where
  -- where only 1 divides every quotient: m over the least common multiple does, so it is 1
  pub quotients_least : ((k : ℕ) → k < length l → get_or l k 0 ∣ m) → ((g : ℕ) → ((k : ℕ) → k < length l → g ∣ m / get_or l k 0) → g ≡ 1) → m ≡ lcm_all l
  quotients_least each one =
      sym e ∙ ap (λ (x : ℕ). lcm_all l * x) (one (m / lcm_all l) shared) ∙ mul-one (lcm_all l)
    where
      e : lcm_all l * (m / lcm_all l) ≡ m
      e = mul-div_cancel' (lcm_all l) ((all_is l).least m each)

      shared : (k : ℕ) → k < length l → m / lcm_all l ∣ m / get_or l k 0
      shared k h =
          let p : ℕ = get_or l k 0 in
          let g : ℕ = m / lcm_all l in
          let d : p * g ∣ lcm_all l * g = mul-dvd-mul_right p (all_each l k h) g in
          dvd_of_mul-dvd-mul_left g (pos_of_dvd_of_pos (each k h) pos)
          (subst (λ (x : ℕ). p * g ∣ x) (e ∙ sym (mul-div_cancel' p (each k h))) d)

  -- and where m is the least common multiple: a number that divides every quotient leaves a multiple of all, which m divides
  pub quotients_one : 0 < length l → m ≡ lcm_all l → (g : ℕ) → ((k : ℕ) → k < length l → g ∣ m / get_or l k 0) → g ≡ 1
  quotients_one some e g shared = eq-one_of_dvd-one (dvd_of_mul-dvd-mul_left g pos last)
    where
      each : (k : ℕ) → k < length l → get_or l k 0 ∣ m
      each k h = rw e (all_each l k h)

      divides : g ∣ m
      divides =
          let p : ℕ = get_or l 0 0 in
          dvd_trans g (shared 0 some) (subst (λ (x : ℕ). m / p ∣ x) (mul-div_cancel' p (each 0 some)) (dvd-mul_left (m / p) p))

      left : (k : ℕ) → k < length l → get_or l k 0 ∣ m / g
      left k h =
          let p : ℕ = get_or l k 0 in
          let d : p * g ∣ p * (m / p) = mul-dvd-mul_left g p (shared k h) in
          dvd_of_mul-dvd-mul_right p (pos_of_dvd_of_pos divides pos)
          (subst (λ (x : ℕ). p * g ∣ x) (mul-div_cancel' p (each k h) ∙ sym (div-mul_cancel g divides)) d)

      last : m * g ∣ m * 1
      last =
          let d : m ∣ m / g = subst (λ (x : ℕ). x ∣ m / g) (sym e) ((all_is l).least (m / g) left) in
          subst (λ (x : ℕ). m * g ∣ x) (div-mul_cancel g divides ∙ sym (mul-one m)) (mul-dvd-mul_right m d g)
