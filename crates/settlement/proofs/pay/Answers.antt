-- `pay` writes place by place: after `i` turns the first `i` places hold their shares and the rest is as it was.
use Rattle.std.proofs.Common.{refl, ap, ◌∙◌, arith, get_or}
use lib.ListN.{set, length-set}
use Rattle.units.specs.Units.{cycles}
use Rattle.settlement.proofs.Written.{written_none, written_on, written_paid}
use Rattle.settlement.proofs.pay.Goals as goal

pub loop-i-init : goal.loop-i-init
loop-i-init c = (refl, written_none _ _)

pub loop-i-preserved : goal.loop-i-preserved
loop-i-preserved c =
    let w = c.loop-i in (
      length-set w.grants w.i _ ∙ w.invariant.0,
      ap (λ l. set l w.i (get_or c.args.given.now w.i (cycles 0)).0) w.invariant.1 ∙ written_on c.args.given.now c.args.grants.now w.i (omega arith),
    )

pub returns : goal.returns
returns c = c.loop-i.invariant.1 ∙ written_paid c.args.given.now c.args.grants.now c.loop-i.i (omega arith) (omega arith)
