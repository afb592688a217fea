-- The last line: the counts summed, and its numbers and its words. A sound state's counts fit 64 bits; the words by their letters.
use mathlib.Core.Path.{◌≡◌, refl, ap}
use mathlib.Core.Bool.{true}
use mathlib.Core.List.{List, [], ◌∷◌}
use Prim.Native.Nat.{ℕ, ◌+◌, ◌^◌, ◌≤◌, ◌<◌}
use native.Mathlib.Nat.{mul-le-mul}
use native.Mathlib.Omega.{arith}
use borrow.Author.Tests.{eq-eqb, ne_eqb}
use lib.ListN.{length}
use lib.Seq.{sets}
use Rattle.units.specs.declared.Cycles.{Cycles}
use Rattle.rules.specs.declared.State.{State}
use Rattle.std.specs.Prelude.{sum_by, Result, Ok, Err}
use Rattle.std.specs.Result.{result_unwrap_or}
use Rattle.rules.proofs.Chains.{total-sum_by}
use Rattle.refusals.specs.declared.Refusal.{Refusal}
use Rattle.refusals.specs.Refusals.{number_of}
use Rattle.rules.specs.Answers.{Used}
use Rattle.rules.specs.Calls.{used_by}
use Rattle.rules.proofs.Answered.{number-not_0}
use Rattle.rules.specs.Calls.{energy_of}
use Rattle.rules.specs.Words.{total}
use Rattle.rules.specs.Numbers.{sound}
use Rattle.rules.proofs.Soundness.{Sound, sound_facts}
use Rattle.rules.proofs.Loads.{top_limit}
use Rattle.printout.specs.Print.{total_word, refused_word, cr_lf, fields_of, totals_of}
use Rattle.printout.specs.Parts.{word_of, numbers_of, last_text, last_of}
use Rattle.printout.specs.declared.lasts.Last.{Last}
use Rattle.printout.specs.declared.lasts.Last.TheVariants.{Total, Refused}
use Rattle.words.proofs.Stores.{put_fits}
use Rattle.printout.proofs.Fields.{fields_few, line_length, put_line}

-- all the cycles of a list
abbrev pub cycles_of : List Cycles → ℕ
cycles_of l = total (λ (c : Cycles). c.0) l

-- as a chain of iterators sums them
pub cycles_sum : (l : List Cycles) → sum_by (λ (c : Cycles). c.0) l ≡ total (λ (c : Cycles). c.0) l
cycles_sum l = total-sum_by (λ (c : Cycles). c.0) l

-- the counts of a sound state fit 64 bits: they are at most the cycles of all its ticks at the top speed
pub can_sum : (s : State) → sound s ≡ true → sum_by (λ (c : Cycles). c.0) s.tally.counts < 2 ^ 64
can_sum s e =
    let f : Sound s = sound_facts s e in
    omega (arith, cycles_sum s.tally.counts, f.cycles_most, mul-le-mul f.done_most (top_limit s f))

-- what energy answers, or 0 where it is refused, is the energy that it tells of
pub energy_told : (s : State) (told : Result ℕ Refusal) → used_by told ≡ energy_of s → result_unwrap_or told 0 ≡ (energy_of s).energy
unfolding used_by
energy_told s (Ok e) h = ap (λ (u : Used). u.energy) h
energy_told s (Err r) h = ap (λ (u : Used). u.energy) h

-- the last line of a refusal
pub refused_last : (r : Refusal) (s : State) → Refused (number_of r) ≡ last_of (number_of r) s
unfolding last_of
refused_last r s = rw (ne_eqb (number_of r) 0 (number-not_0 r))

-- the words of the two lines
pub word_total : (numbers : List ℕ) → word_of (Total numbers) ≡ total_word
unfolding word_of
word_total numbers = refl

pub word_refused : (number : ℕ) → word_of (Refused number) ≡ refused_word
unfolding word_of
word_refused number = refl

-- a word has at most 7 bytes, and there are at most 5 numbers
pub word_few : (last : Last) → length (word_of last) ≤ 7
unfolding word_of total_word refused_word
word_few (Total numbers) = omega arith
word_few (Refused number) = omega arith

-- the last line of a refusal has its number, and that of a total its five
pub last_refused : (number : ℕ) (s : State) → (number ≡ 0 → ⊥) → numbers_of (last_of number s) ≡ number ∷ []
unfolding last_of numbers_of
last_refused number s h = rw (ne_eqb number 0 h)

pub last_total : (number : ℕ) (s : State) → number ≡ 0 → numbers_of (last_of number s) ≡ totals_of s
unfolding last_of numbers_of
last_total number s h = rw (eq-eqb number 0 h)

module _ (last : Last) where
  -- the last line's bytes: its word, its fields, and two for its end
  pub last_length_is : length (last_text last) ≡ length (word_of last) + length (fields_of (numbers_of last)) + 2
  unfolding last_text
  last_length_is = line_length (word_of last) (numbers_of last)

  -- the last line put: its word, its fields, and its end
  pub put_last_line : (d : List ℕ) (at : ℕ) → sets (sets (sets d at (word_of last)) (at + length (word_of last)) (fields_of (numbers_of last))) (at + length (word_of last) + length (fields_of (numbers_of last))) cr_lf ≡ sets d at (last_text last)
  unfolding last_text
  put_last_line d at = put_line (word_of last) (numbers_of last) d at

-- what the last line says, and its bytes
pub ruleset last_numbers = (can_sum, cycles_sum, energy_told, refused_last)

pub ruleset last_bytes = (last_length_is, word_few, fields_few, put_last_line, put_fits)
