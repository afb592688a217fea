-- `judge` is the first row that applies: 1 to 6 by `form_number`, 7 by the capped multiple, 8 by rule 7 at the great period.
use mathlib.Core.Path.{◌≡◌, sym, ◌∙◌}
use Prim.Native.Nat.{◌≤◌}
use Rattle.std.proofs.lemmas.Result.{err_from_is_err_and}
use Rattle.refusals.specs.declared.Refusal.TheVariants.{GreatPeriod, NotAdmitted}
use Rattle.rules.specs.Admission.{great_of}
use Rattle.rules.specs.Limits.{most_speeds, most_great}
use Rattle.rules.proofs.Tables.{match_some, number_7, number_8}
use Rattle.admission.proofs.Great.{great_is, great_within, great_above}
use Rattle.admission.proofs.Rows.{verdict-err, verdict-ok, summable, admits_is}
use Rattle.admission.proofs.judge.Goals as goal
use Rattle.admission.proofs.judge.Goals.{In_ok-ok_or}

-- past the capped multiple: what was found is the great period, and at most 1,000,000
found-is : (c : In_ok-ok_or) → c.in_ok-ok_or.field-0 ≡ great_of c.args.periods.now
found-is c = great_is c.args.periods.now c.lcm_of.ensures _ c.in_ok-ok_or.ensures.ok_part

found-within : (c : In_ok-ok_or) → c.in_ok-ok_or.field-0 ≤ most_great
found-within c = great_within c.args.periods.now c.lcm_of.ensures _ c.in_ok-ok_or.ensures.ok_part

great-small : (c : In_ok-ok_or) → great_of c.args.periods.now ≤ most_great
great-small c = rw (← found-is c) (found-within c)

pub returns-in_err-form_number : goal.returns-in_err-form_number
returns-in_err-form_number c =
    let left = err_from_is_err_and c.from_residual.result c.from_residual.ensures.1 in
    rw (left.1, left.2) (verdict-err _ _ _ _ _ c.in_err-form_number.ensures)

pub returns-in_err-ok_or : goal.returns-in_err-ok_or
returns-in_err-ok_or c =
    let left = err_from_is_err_and c.from_residual-in_err-ok_or.result c.from_residual-in_err-ok_or.ensures.1 in
    let e = c.in_err-ok_or.ensures in
    let none = rw e.ok_part at e.value in
    let which : c.in_err-ok_or.field-0.0 ≡ GreatPeriod = cc in
    rw (left.1, left.2, which) (verdict-err _ _ _ _ GreatPeriod (number_7 _ _ _ _ c.in_ok-form_number.ensures (great_above c.args.periods.now c.lcm_of.ensures e.ok_part)))

pub admits-requires : goal.admits-requires
admits-requires c =
    let f = c.in_ok-form_number.ensures in
    (summable _ _ _ _ f _ (found-within (goal.at.admits-requires c).In_ok-ok_or), match_some most_speeds _ _ f.speeds_match)

pub returns-then-not-admits : goal.returns-then-not-admits
returns-then-not-admits c =
    let found = (goal.at.returns-then-not-admits c).In_ok-ok_or in
    let no_room = sym (admits_is c.args.periods.now _ _ _ (found-is found)) ∙ sym c.admits.ensures ∙ c.if-not-admits.true in
    verdict-err _ _ _ _ NotAdmitted (number_8 _ _ _ _ c.in_ok-form_number.ensures (great-small found) no_room)

pub returns : goal.returns
returns c =
    let found = (goal.at.returns c).In_ok-ok_or in
    let room = sym (admits_is c.args.periods.now _ _ _ (found-is found)) ∙ sym c.admits.ensures ∙ c.if-not-admits.false in
    verdict-ok _ _ _ _ (record { forms = c.in_ok-form_number.ensures; great_small = great-small found; admits = room }) _ (found-is found)
