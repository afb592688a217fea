-- What is written is read back, and a field that is read is spelled as its number is written: digits without a zero in front are the decimal of their number.
use mathlib.Core.Path.{◌≡◌, refl, sym, ap, ◌∙◌}
use mathlib.Core.Bool.{Bool, true, false, cond, false≢true, ◌&&◌}
use mathlib.Core.List.{List, [], ◌∷◌, ◌++◌, append-nil}
use Prim.Native.Nat.{ℕ, suc, ◌+◌, ◌-◌, ◌*◌, ◌^◌, ◌≤◌, ◌<◌}
use native.Mathlib.Nat.{lt_of_not-le, pow-le-pow_right, mul-le-mul_right}
use native.Mathlib.Omega.{arith}
use borrow.Author.Tests.{lt-ltb, ltb-true, lt-leb}
use lib.Dec.{lit<}
use lib.ListN.{length, drop}
use lib.Seq.{drop-append_seam, drop-drop}
use Rattle.std.specs.Prelude.{None}
use Rattle.decimal.specs.declared.Number.{Number}
use Rattle.decimal.specs.Decimal.{is_digit, digits, value_of, no_leading_zero, fits64, read_number, field_at, digits_of, decimal_of}
use Rattle.decimal.proofs.Written.{one_digit}
use Rattle.decimal.proofs.Reading.{no_digit, zero_first}
use Rattle.decimal.proofs.Spelling.{digit_is, digits_cons, digits_append, digits_twice, digits_front, written_digits, written_value, written_form, value_floor, written_on}

-- an empty text begins with no digit
pub no_digits_nil : digits [] ≡ []
unfolding digits
no_digits_nil = refl

-- nor does a text that begins with a byte below `0`, as a comma or a line's end
pub no_digits_low : (b : ℕ) (bs : List ℕ) → b < 48 → digits (b ∷ bs) ≡ []
unfolding digits is_digit
no_digits_low b bs h = rw (lt-leb 48 b h)

-- the digits of a written number before a text that begins with none are that number's
written_alone : (n : ℕ) (rest : List ℕ) → digits rest ≡ [] → digits (decimal_of n ++ rest) ≡ decimal_of n
unfolding decimal_of
written_alone n rest e = digits_append (digits_of 20 n) rest (written_digits 20 n) ∙ rw (e, append-nil (digits_of 20 n))

-- a written number of 64 bits stands for itself
written_number : (n : ℕ) → n < 2 ^ 64 → value_of 0 (decimal_of n) ≡ n
unfolding decimal_of
written_number n h = written_value 20 n (omega arith)

-- a number that stands written at a place, with no digit after it, is read there, with the place after it
pub read_at : (text : List ℕ) (at n : ℕ) (rest : List ℕ) → drop at text ≡ decimal_of n ++ rest → n < 2 ^ 64 → digits rest ≡ [] → field_at text at ≡ read_number n (at + length (decimal_of n))
unfolding field_at fits64
read_at text at n rest here h e = rw (here, written_alone n rest e, written_number n h, written_form n (omega arith), lt-ltb n (2 ^ 64) h)

-- a number written after any text, and before one that begins with no digit, is read back
pub read_back : (before : List ℕ) (n : ℕ) (rest : List ℕ) → n < 2 ^ 64 → digits rest ≡ [] → field_at (before ++ (decimal_of n ++ rest)) (length before) ≡ read_number n (length before + length (decimal_of n))
read_back before n rest h e = read_at (before ++ (decimal_of n ++ rest)) (length before) n rest (drop-append_seam before (decimal_of n ++ rest)) h e

-- fewer than 20 digits follow a number above 0 where all together fit 64 bits
few_after : (v : ℕ) (ds : List ℕ) → 0 < v → value_of v ds < 2 ^ 64 → length ds < 20
few_after v ds some h =
    lt_of_not-le {n = 20} {m = length ds}
    λ many.
    let power : 10 ^ 20 ≤ 10 ^ length ds = pow-le-pow_right {n = 10} (lit< tt) many in
    let times : 1 * 10 ^ length ds ≤ v * 10 ^ length ds = mul-le-mul_right (10 ^ length ds) some in
    omega (arith, value_floor v ds)

-- digits with a first one above `0` are the decimal of their number
spelled_on : (d : ℕ) (ds : List ℕ) → digits (d ∷ ds) ≡ d ∷ ds → (d ≡ 48 → ⊥) → value_of 0 (d ∷ ds) < 2 ^ 64 → decimal_of (value_of 0 (d ∷ ds)) ≡ d ∷ ds
unfolding value_of decimal_of
spelled_on d ds e other h =
    let both = digits_cons d ds e in
    let range = digit_is d both.0 in
    let v : ℕ = 0 * 10 + (d - 48) in
    let few : length ds < 20 = few_after v ds (omega arith) h in
    let count : 20 ≡ length ds + suc (19 - length ds) = omega arith in
    let same : 48 + v ≡ d = omega arith in
    ap (λ (k : ℕ). digits_of k (value_of v ds)) count
    ∙ written_on ds (suc (19 - length ds)) v (omega arith) both.1
    ∙ ap (λ (l : List ℕ). l ++ ds) (one_digit (19 - length ds) v (omega arith))
    ∙ ap (λ (b : ℕ). b ∷ ds) same

-- digits with no zero in front, whose number fits 64 bits, are the decimal of that number
pub spelled : (ds : List ℕ) → digits ds ≡ ds → no_leading_zero ds ≡ true → value_of 0 ds < 2 ^ 64 → decimal_of (value_of 0 ds) ≡ ds
unfolding value_of decimal_of
spelled [] e form h = absurd (false≢true (sym (no_digit [] refl) ∙ form))
spelled (d ∷ []) e form h =
    let range = digit_is d (digits_cons d [] e).0 in
    let v : ℕ = 0 * 10 + (d - 48) in
    let same : 48 + v ≡ d = omega arith in
    one_digit 19 v (omega arith) ∙ ap (λ (b : ℕ). b ∷ []) same
spelled (d ∷ b ∷ bs) e form h = spelled_on d (b ∷ bs) e (λ z. false≢true (sym (zero_first (d ∷ b ∷ bs) (omega arith) z) ∙ form)) h

-- two numbers read that are one have one value and one next place
pub same_number : {w m v n : ℕ} → read_number w m ≡ read_number v n → (w ≡ v) × (m ≡ n)
same_number {w} {m} {v} {n} e =
    let at : ℕ → ℕ → Number = λ a b. record { value = a; next = b } in
    let same : at w m ≡ at v n = cc in
    (ap (λ (k : Number). k.value) same, ap (λ (k : Number). k.next) same)

-- what a field that is read says of its digits
field_digits : (ds : List ℕ) (at v next : ℕ) → cond (no_leading_zero ds && fits64 (value_of 0 ds)) (read_number (value_of 0 ds) (at + length ds)) None ≡ read_number v next → (no_leading_zero ds ≡ true) × (value_of 0 ds < 2 ^ 64) × (value_of 0 ds ≡ v) × (at + length ds ≡ next)
unfolding fits64
field_digits ds at v next e = go (no_leading_zero ds) (fits64 (value_of 0 ds)) refl refl e
  where
    go : (form fit : Bool) → no_leading_zero ds ≡ form → fits64 (value_of 0 ds) ≡ fit → cond (form && fit) (read_number (value_of 0 ds) (at + length ds)) None ≡ read_number v next → (no_leading_zero ds ≡ true) × (value_of 0 ds < 2 ^ 64) × (value_of 0 ds ≡ v) × (at + length ds ≡ next)
    go true true a b c =
        let same = same_number c in
        (a, ltb-true (value_of 0 ds) (2 ^ 64) b, same.0, same.1)
    go true false a b c = let z : ◌≡◌ {A = ℕ} 0 1 = cc in absurd (omega arith)
    go false fit a b c = let z : ◌≡◌ {A = ℕ} 0 1 = cc in absurd (omega arith)

-- a field that is read stands in the text as its number is written, and its next place is the one after it
pub read_written : (text : List ℕ) (at v next : ℕ) → field_at text at ≡ read_number v next → (v < 2 ^ 64) × (next ≡ at + length (decimal_of v)) × (drop at text ≡ decimal_of v ++ drop next text)
unfolding field_at
read_written text at v next e =
    let ds : List ℕ = digits (drop at text) in
    let facts = field_digits ds at v next e in
    let same : decimal_of v ≡ ds = ap decimal_of (sym facts.2) ∙ spelled ds (digits_twice (drop at text)) facts.0 facts.1 in (
      omega arith,
      sym facts.3 ∙ ap (λ (l : List ℕ). at + length l) (sym same),
      digits_front (drop at text)
          ∙ ap (λ (l : List ℕ). ds ++ l) (drop-drop (length ds) at text ∙ ap (λ (k : ℕ). drop k text) facts.3)
          ∙ ap (λ (l : List ℕ). l ++ drop next text) (sym same),
    )
