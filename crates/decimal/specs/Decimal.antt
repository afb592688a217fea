-- "Run files": numbers as text, a field of digits read and a number written.
use Rattle.std.specs.Prelude.{ℕ, zero, suc, ◌+◌, ◌-◌, ◌*◌, ◌/◌, ◌%◌, ◌^◌, Bool, cond, not, ◌&&◌, ◌||◌, List, [], ◌∷◌, ◌++◌, eqb, ltb, leb, length, get_or, drop, Option, Some, None, ◌≡◌}
use Rattle.decimal.specs.declared.Number.{Number}

-- a byte that is a digit, from `0` to `9`
unfoldable pub is_digit : ℕ → Bool
is_digit b = leb 48 b && leb b 57

-- the digits that a text begins with
unfoldable pub digits : List ℕ → List ℕ
digits [] = []
digits (b ∷ bs) = cond (is_digit b) (b ∷ digits bs) []

-- the number that digits stand for, after others that stand for `before`
unfoldable pub value_of : ℕ → List ℕ → ℕ
value_of before [] = before
value_of before (d ∷ ds) = value_of (before * 10 + (d - 48)) ds

-- "no leading zero except 0 itself": there is a digit, and the first is not `0` where there are more
unfoldable pub no_leading_zero : List ℕ → Bool
no_leading_zero ds = ltb 0 (length ds) && (eqb (length ds) 1 || not (eqb (get_or ds 0 0) 48))

-- "fits 64 bits"
unfoldable pub fits64 : ℕ → Bool
fits64 n = ltb n (2 ^ 64)

-- a number that is read, and the place after its last digit
abbrev pub read_number : ℕ → ℕ → Option Number
read_number value next = Some (record { value = value; next = next })

-- the field of digits that stands in a text at a place: its number, and the place after its last digit; or no such number
unfoldable pub field_at : List ℕ → ℕ → Option Number
field_at text at =
    let ds = digits (drop at text) in
    cond (no_leading_zero ds && fits64 (value_of 0 ds)) (read_number (value_of 0 ds) (at + length ds)) None

-- digits and nothing else, and their number where it fits
abbrev pub DigitsOnly : List ℕ → Type 0
DigitsOnly ds = digits ds ≡ ds

unfoldable pub number_of : List ℕ → Option ℕ
number_of ds = cond (fits64 (value_of 0 ds)) (Some (value_of 0 ds)) None

-- a number of at most `most` digits in decimal, the last digit from what 10 leaves, with no zero in front
unfoldable pub digits_of : ℕ → ℕ → List ℕ
digits_of zero n = []
digits_of (suc most) n = cond (ltb n 10) ((48 + n) ∷ []) (digits_of most (n / 10) ++ ((48 + n % 10) ∷ []))

-- a number of 64 bits in decimal: 20 digits are enough
unfoldable pub decimal_of : ℕ → List ℕ
decimal_of n = digits_of 20 n
