-- `full_load` is the sum of rule 7: what is summed so far and the sum of the pairs left make the whole, and each term is at most 10 ^ 15.
use mathlib.Core.Path.{◌≡◌, ap}
use mathlib.Core.Logic.{inl, inr}
use lib.ListN.{length}
use native.Mathlib.Omega.{arith}
use Rattle.units.specs.Units.{cycles}
use Rattle.admission.specs.Parts.{full_load_of}
use Rattle.admission.proofs.Sums.{full_none, period_pos, full_term, full_pair, fewer, summable_rest}
use Rattle.admission.proofs.lists.full_load.Goals as goal

pub nonzero_div-sum : goal.nonzero_div-sum
nonzero_div-sum c = let pair = c.in-Some.ensures.steps in period_pos _ pair.0 pair.1 c.loop-period.invariant.summable

pub overflow_mul-sum : goal.overflow_mul-sum
overflow_mul-sum c =
    let pair = c.in-Some.ensures.steps in
    omega (arith, full_term c.args.great pair.0 pair.1 c.loop-period.invariant.summable)

pub overflow_add-sum : goal.overflow_add-sum
overflow_add-sum c =
    let pair = c.in-Some.ensures.steps in
    let w = c.loop-period.invariant in
    omega (arith, w.room, fewer c.args.great pair.0 pair.1 w.summable, full_term c.args.great pair.0 pair.1 w.summable)

pub loop-period-preserved : goal.loop-period-preserved
loop-period-preserved c =
    let pair = c.in-Some.ensures.steps in
    let w = c.loop-period.invariant in
    record {
      summable = summable_rest _ pair.0 pair.1 w.summable;
      room = omega (arith, w.room, fewer c.args.great pair.0 pair.1 w.summable, full_term c.args.great pair.0 pair.1 w.summable);
      summed = omega (arith, w.summed, full_pair c.args.great pair.0 pair.1 w.summable);
    }

pub returns : goal.returns
unfolding full_load_of
returns c =
    let it = c.loop-period.period-iterator in
    let w = c.loop-period.invariant in
    let none : length it.a.rest.now ≡ 0 =
    elim c.in-None.ensures.steps [ inl (x, e) ↦ e.0 | inr (x, e) ↦ omega (arith, w.summable.paired, e.0) ] in
    ap cycles (omega (arith, w.summed, full_none c.args.great it.a.rest.now it.b.rest.now none (omega (arith, w.summable.paired))))
