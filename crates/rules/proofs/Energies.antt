-- Rule 6's sum: what it grows by, and that of a sound state fits 64 bits: each count at most 100 x 100 times, all counts together at most t x top speed.
use mathlib.Core.Path.{◌≡◌, ap, fun_ext}
use mathlib.Core.List.{List, [], ◌∷◌}
use Prim.Native.Nat.{ℕ, zero, suc, zero-le, ◌+◌, ◌*◌, ◌≤◌, ◌<◌}
use native.Mathlib.Nat.{mul-add, add-mul, mul-le-mul, mul-le-mul_left}
use native.Mathlib.Omega.{arith}
use lib.ListN.{get_or}
use Rattle.units.specs.Units.{cycles}
use Rattle.units.specs.declared.Cycles.{Cycles}
use Rattle.rules.specs.declared.Ladder.{Ladder}
use Rattle.rules.specs.declared.Tally.{Tally}
use Rattle.rules.specs.declared.State.{State}
use Rattle.rules.specs.Words.{up_to, total}
use Rattle.rules.specs.Limits.{most_ticks, most_speed, most_volts}
use Rattle.rules.specs.State.{count_at, volts_at, top_of, speeds_of}
use Rattle.rules.specs.Counting.{energy_sum}
use Rattle.rules.proofs.Totals.{total_places, total_mono, total_times, total_change}
use Rattle.rules.proofs.Soundness.{Sound}

-- Rule 6. g cycles more counted at one speed cost g times its volts twice,
pub energy_change : (l : Ladder) (a b : Tally) (k g : ℕ) → k < l.count → count_at b k ≡ count_at a k + g → ((i : ℕ) → (i ≡ k → ⊥) → count_at b i ≡ count_at a i) → energy_sum l b ≡ energy_sum l a + g * volts_at l k * volts_at l k
unfolding energy_sum
energy_change l a b k g h here there =
    let term : Tally → ℕ → ℕ = λ tally i. count_at tally i * volts_at l i * volts_at l i in
    let changed = total_change (term b) (term a) l.count k h (λ i ne. ap (λ c. c * volts_at l i * volts_at l i) (there i ne)) in
    let grown = ap (λ c. c * volts_at l k * volts_at l k) here in
    omega (arith, changed, grown)

-- one term at twice the volts
doubled : (c v : ℕ) → c * (2 * v) * (2 * v) ≡ 4 * (c * v * v)
doubled c v =
    let twice : 2 * v ≡ v + v = omega arith in
    let once : c * (v + v) ≡ c * v + c * v = mul-add c v v in
    let sum : (c * v + c * v) * (v + v) ≡ (c * v + c * v) * v + (c * v + c * v) * v = mul-add (c * v + c * v) v v in
    let each : (c * v + c * v) * v ≡ c * v * v + c * v * v = add-mul (c * v) (c * v) v in
    rw (twice, once) (omega (arith, sum, each))

-- so twice the volts at every speed is four times the energy
pub energy_doubled : (l m : Ladder) (tally : Tally) → m.count ≡ l.count → ((i : ℕ) → volts_at m i ≡ 2 * volts_at l i) → energy_sum m tally ≡ 4 * energy_sum l tally
unfolding energy_sum
energy_doubled l m tally n twice =
    let terms : ◌≡◌ {A = ℕ → ℕ} (λ i. count_at tally i * volts_at m i * volts_at m i) (λ i. 4 * (count_at tally i * volts_at l i * volts_at l i)) =
    fun_ext (λ i. rw (twice i) (doubled (count_at tally i) (volts_at l i))) in
    rw (terms, n) (total_times 4 (λ i. count_at tally i * volts_at l i * volts_at l i) (up_to l.count (λ i. i)))

-- the most that a sound state's energy comes to
abbrev pub most_energy : ℕ
most_energy = 10_000_000_000_000_000_000

-- the first places of a list come to at most the whole of it
first_places : (l : List Cycles) (n : ℕ) → total (λ i. (get_or l i (cycles 0)).0) (up_to n (λ i. i)) ≤ total (λ (c : Cycles). c.0) l
unfolding total up_to
first_places l zero = zero-le
first_places [] (suc n) =
    let rest : total (λ i. (get_or [] i (cycles 0)).0) (up_to n (λ i. i)) ≤ 0 = first_places [] n in
    omega (arith, rest, total_places (λ i. (get_or [] i (cycles 0)).0) suc n)
first_places (c ∷ l) (suc n) =
    let rest : total (λ i. (get_or l i (cycles 0)).0) (up_to n (λ i. i)) ≤ total (λ (c : Cycles). c.0) l = first_places l n in
    omega (arith, rest, total_places (λ i. (get_or (c ∷ l) i (cycles 0)).0) suc n)

-- one term: volts are at most 100
term_most : (c v : ℕ) → v ≤ most_volts → c * v * v ≤ 10_000 * c
term_most c v h =
    let once : c * v ≤ c * 100 = mul-le-mul_left c h in
    let twice : c * v * v ≤ c * 100 * 100 = mul-le-mul once h in
    omega (arith, twice)

-- the energy of a state whose volts are in their range is at most 10,000 times its counts
pub energy_counts : (s : State) → ((i : ℕ) → i < s.ladder.count → volts_at s.ladder i ≤ most_volts) → energy_sum s.ladder s.tally ≤ 10_000 * total (λ (c : Cycles). c.0) s.tally.counts
unfolding energy_sum count_at
energy_counts s v =
    let terms = total_mono (λ i. count_at s.tally i * volts_at s.ladder i * volts_at s.ladder i) (λ i. 10_000 * count_at s.tally i) s.ladder.count (λ i h. term_most (count_at s.tally i) (volts_at s.ladder i) (v i h)) in
    let all = mul-le-mul_left 10_000 (first_places s.tally.counts s.ladder.count) in
    omega (arith, terms, total_times 10_000 (count_at s.tally) (up_to s.ladder.count (λ i. i)), all)

-- a sound state's counts come to at most 10 ^ 9 x 10 ^ 6, so its energy is below 2 ^ 64
pub energy_most : (s : State) → Sound s → top_of (speeds_of s.ladder) ≤ most_speed → ((i : ℕ) → i < s.ladder.count → volts_at s.ladder i ≤ most_volts) → energy_sum s.ladder s.tally ≤ most_energy
energy_most s f top v =
    let counts : s.done.0 * top_of (speeds_of s.ladder) ≤ most_ticks * most_speed = mul-le-mul f.done_most top in
    omega (arith, energy_counts s v, f.cycles_most, counts)
