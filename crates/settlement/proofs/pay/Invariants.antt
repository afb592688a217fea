-- `pay` writes place by place: after `i` turns the first `i` places hold their shares and the rest is as it was.
use Rattle.std.proofs.Common.{◌≡◌, length}
use Rattle.settlement.proofs.Written.{written}
use Rattle.settlement.proofs.pay.Given as goal

abbrev pub invariant-loop-i : goal.invariant-loop-i
invariant-loop-i l = (length l.grants ≡ length l.initial.grants) × (l.grants ≡ written l.fn.given l.initial.grants l.i)
