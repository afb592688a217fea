-- `put` stores from the last digit to the first: the digits left, stored over what there is, are the whole number stored.
use Rattle.std.proofs.Common.{sym, ◌∙◌, arith}
use Rattle.words.proofs.Stores.{put_fits}
use Rattle.decimal.specs.Decimal.{decimal_of}
use Rattle.decimal.proofs.Backwards.{store_back, all_left, none_left}
use Rattle.decimal.proofs.put.Goals as goal

pub loop-i-init : goal.loop-i-init
loop-i-init c =
    let a = c.args in
    all_left a.out.now a.at a.n c.width-digits.result c.width-digits.ensures

pub loop-i-preserved : goal.loop-i-preserved
loop-i-preserved c = sym (store_back c.loop-i.out c.args.at c.loop-i.i c.loop-i.rest c.loop-i-test.true) ∙ c.loop-i.invariant

pub returns-clause-out_after : goal.returns-clause-out_after
returns-clause-out_after c =
    let a = c.args in
    let fit = put_fits a.out.now a.at (decimal_of a.n) (omega arith) in
    sym (none_left c.loop-i.out a.at c.loop-i.i c.loop-i.rest c.loop-i-test.false) ∙ c.loop-i.invariant ∙ sym fit.0
