-- The greatest common divisor of two numbers, and the least common multiple of two or of a list. Assumes nothing: these are definitions.
use Rattle.std.specs.Prelude.{ℕ, zero, suc, ◌/◌, ◌*◌, ◌%◌, ◌≤◌, ◌<◌, ◌≡◌, List, [], ◌∷◌, Bool, true, false, cond, leb, length, get_or, Option, Some, None}
use Rattle.std.specs.Int.{◌∣◌}

-- Euclid's divisions from the pair of a and b, at most f of them
unfoldable pub euclid : ℕ → ℕ → ℕ → ℕ
euclid zero a b = a
euclid (suc f) a zero = a
euclid (suc f) a (suc b) = euclid f (suc b) (a % suc b)

-- the greatest common divisor, 0 for two zeros: b divisions are enough, since each remainder is below the last
unfoldable pub gcd_of : ℕ → ℕ → ℕ
gcd_of a b = euclid b a b

-- the least common multiple, 0 where a number is 0
unfoldable pub lcm_of : ℕ → ℕ → ℕ
lcm_of a b = a / gcd_of a b * b

-- the least common multiple of a list, 1 for the empty list
unfoldable pub lcm_all : List ℕ → ℕ
lcm_all [] = 1
lcm_all (p ∷ ps) = lcm_of p (lcm_all ps)

-- d divides both, and every number that divides both divides d
pub record IsGcd (a b d : ℕ) : Type 0 where
  pub left : d ∣ a
  pub right : d ∣ b
  pub most : (k : ℕ) → k ∣ a → k ∣ b → k ∣ d

-- both divide m, and m divides every number that both divide
pub record IsLcm (a b m : ℕ) : Type 0 where
  pub left : a ∣ m
  pub right : b ∣ m
  pub least : (k : ℕ) → a ∣ k → b ∣ k → m ∣ k

-- every number of the list divides m, and m divides every number that all of them divide
pub record IsLcmOf (l : List ℕ) (m : ℕ) : Type 0 where
  pub each : (k : ℕ) → k < length l → get_or l k 0 ∣ m
  pub least : (n : ℕ) → ((k : ℕ) → k < length l → get_or l k 0 ∣ n) → m ∣ n

-- the answer names a number with the property, at most the cap; or it is none, and every number with the property is above the cap
unfoldable pub Capped : ℕ → (ℕ → Type 0) → Option ℕ → Type 0
Capped cap P (Some m) = P m × (m ≤ cap)
Capped cap P None = (m : ℕ) → P m → cap < m

-- the answer for the number m under a cap
unfoldable pub within : ℕ → ℕ → Option ℕ
within cap m = cond (leb m cap) (Some m) None

-- the answer tells whether a number of the list is 0
unfoldable pub ZeroIn : List ℕ → Bool → Type 0
ZeroIn l true = (k : ℕ) × (k < length l) × (get_or l k 0 ≡ 0)
ZeroIn l false = (k : ℕ) → k < length l → 0 < get_or l k 0
