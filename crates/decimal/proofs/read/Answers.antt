-- `read` takes the digits that the rest of the text begins with, 21 at most: their form and their number decide the field.
use Rattle.std.proofs.Common.{sym, ap, ◌∙◌, ◌≡◌, refl, ℕ, List, length, take, drop, arith}
use Rattle.std.proofs.lemmas.Slice.{between_to_end}
use Rattle.decimal.specs.Decimal.{digits, no_leading_zero, number_of}
use Rattle.decimal.proofs.Spelling.{digits_twice}
use Rattle.decimal.proofs.Reading.{reads_wrong, reads_over, reads_number}
use Rattle.decimal.proofs.Cut.{front_cut, form_cut, over_cut, whole_cut}
use Rattle.decimal.proofs.read.Goals as goal
use Rattle.decimal.proofs.read.Goals.{After-digit_count}

-- the rest is the text from the place on, and the part taken of it is the front of its digits
rest : (c : After-digit_count) → c.in_ok-rest.rest.now ≡ drop c.args.at c.args.text.now
rest c = c.in_ok-rest.ensures.lookup.0.2 ∙ between_to_end c.args.text.now c.args.at (length c.args.text.now) (omega arith)

front : (c : After-digit_count) → take c.digit_count.result (take c.min.result c.in_ok-rest.rest.now) ≡ take 21 (digits c.in_ok-rest.rest.now)
front c = front_cut c.in_ok-rest.rest.now c.min.result c.digit_count.result c.min.ensures c.digit_count.ensures

pub returns-then-not-no_leading_zero : goal.returns-then-not-no_leading_zero
returns-then-not-no_leading_zero c =
    let d = (goal.at.returns-then-not-no_leading_zero c).After-digit_count in
    let ds : List ℕ = digits d.in_ok-rest.rest.now in
    sym (reads_wrong _ _ _ ds (rest d) refl (sym (form_cut 19 ds) ∙ ap no_leading_zero (sym (front d)) ∙ sym c.if-not-no_leading_zero.ensures))

pub returns-in_err-value : goal.returns-in_err-value
returns-in_err-value c =
    let d = (goal.at.returns-in_err-value c).After-digit_count in
    let ds : List ℕ = digits d.in_ok-rest.rest.now in
    c.from_residual-in_err-value.ensures ∙ sym (reads_over _ _ _ ds (rest d) refl (over_cut 21 ds (ap number_of (sym (front d)) ∙ sym c.in_err-value.ensures)))

pub returns : goal.returns
returns c =
    let d = (goal.at.returns c).After-digit_count in
    let ds : List ℕ = digits d.in_ok-rest.rest.now in
    let form = ap no_leading_zero (sym (front d)) ∙ sym c.if-not-no_leading_zero.ensures in
    let fit = ap number_of (sym (front d)) ∙ sym c.in_ok-value.ensures in
    let whole = front d ∙ whole_cut ds _ (digits_twice d.in_ok-rest.rest.now) form fit in
    sym (reads_number _ _ _ _ (rest d) whole _ (sym c.if-not-no_leading_zero.ensures) (sym c.in_ok-value.ensures))
