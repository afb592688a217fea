-- `energy_of` sums place by place: what is summed and what is left to sum are the whole.
use native.Mathlib.Omega.{arith}
use Rattle.rules.specs.State.{count_at, volts_at}
use Rattle.rules.specs.Counting.{energy_sum}
use Rattle.governor.proofs.CountLaws.{costs, sum_end, once_fits, twice_fits, sum_fits, sum_turn}
use Rattle.governor.proofs.counts.energy_of.Goals as goal

pub overflow_mul-sum : goal.overflow_mul-sum
unfolding energy_sum count_at volts_at
overflow_mul-sum c =
    once_fits c.args.tally.now.counts c.args.ladder.now.volts c.args.ladder.now.count c.loop-i.sum c.loop-i.i c.loop-i-test.true c.loop-i.invariant c.requires.fits

pub overflow_mul-sum-in-loop-i : goal.overflow_mul-sum-in-loop-i
unfolding energy_sum count_at volts_at
overflow_mul-sum-in-loop-i c =
    twice_fits c.args.tally.now.counts c.args.ladder.now.volts c.args.ladder.now.count c.loop-i.sum c.loop-i.i c.loop-i-test.true c.loop-i.invariant c.requires.fits

pub overflow_add-sum : goal.overflow_add-sum
unfolding energy_sum count_at volts_at
overflow_add-sum c =
    sum_fits c.args.tally.now.counts c.args.ladder.now.volts c.args.ladder.now.count c.loop-i.sum c.loop-i.i c.loop-i-test.true c.loop-i.invariant c.requires.fits

pub loop-i-preserved : goal.loop-i-preserved
unfolding energy_sum count_at volts_at
loop-i-preserved c =
    sum_turn c.args.tally.now.counts c.args.ladder.now.volts c.args.ladder.now.count c.loop-i.sum c.loop-i.i c.loop-i-test.true c.loop-i.invariant c.requires.fits

pub returns : goal.returns
unfolding energy_sum count_at volts_at
returns c =
    let end = sum_end (costs c.args.tally.now.counts c.args.ladder.now.volts) c.args.ladder.now.count c.loop-i.i c.loop-i-test.false in
    omega (arith, c.loop-i.invariant, end)
