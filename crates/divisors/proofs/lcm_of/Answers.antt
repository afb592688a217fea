-- `lcm_of` meets its contract: the loop keeps that `acc` is the least common multiple of the numbers passed, at most the cap. Assumes nothing.
use mathlib.Core.Path.{sym, subst}
use Prim.Native.Nat.{◌<◌}
use native.Mathlib.Omega.{arith}
use lib.ListN.{get_or}
use Rattle.divisors.specs.Divisors.{lcm_of, Capped, IsLcmOf, ZeroIn}
use Rattle.divisors.proofs.DivisorLaws.{lcm_is}
use Rattle.divisors.proofs.Prefixes.{zero_is, none_pos, empty_is, turn_is, turn_above, end_is}
use Rattle.divisors.proofs.lcm_of.Goals as goal

pub returns-then-has_zero : goal.returns-then-has_zero
unfolding Capped
returns-then-has_zero c =
    let l = c.args.list.now in
    (zero_is l (subst (ZeroIn l) c.if-has_zero.true c.has_zero.ensures), omega arith)

pub returns-then-cap-eq0 : goal.returns-then-cap-eq0
unfolding Capped
returns-then-cap-eq0 c m s =
    let l = c.args.list.now in
    rw c.if-cap-eq0.true (none_pos l (subst (ZeroIn l) c.if-has_zero.false c.has_zero.ensures) s)

pub loop-x-init : goal.loop-x-init
loop-x-init c = (omega arith, empty_is c.args.list.now)

pub returns-in_err-acc : goal.returns-in_err-acc
unfolding Capped
returns-in_err-acc c =
    let w = c.loop-x in
    let a = c.args in
    let l = a.list.now in
    let x = get_or l w.x-index 0 in
    let none = subst (ZeroIn l) c.if-has_zero.false c.has_zero.ensures in
    let high : a.cap < lcm_of w.acc x = c.in_err-acc.ensures (lcm_of w.acc x) (lcm_is w.acc x) in
    subst (Capped a.cap (IsLcmOf l)) (sym c.from_residual.ensures) (λ m s. turn_above l w.x-index w.acc c.loop-x-test.true w.invariant.1 a.cap m none high s)

pub loop-x-preserved : goal.loop-x-preserved
unfolding Capped
loop-x-preserved c =
    let w = c.loop-x in
    let known = c.in_ok-acc.ensures in
    (known.1, turn_is c.args.list.now w.x-index w.acc c.loop-x-test.true w.invariant.1 known.0)

pub returns : goal.returns
unfolding Capped
returns c =
    let w = c.loop-x in
    let l = c.args.list.now in
    (end_is l w.x-index w.acc c.loop-x-test.false w.invariant.1, w.invariant.0)
