-- `good` tells by the highest byte: where it is a mark and the rest are marks, all are.
use mathlib.Core.Path.{sym, ap, ◌∙◌}
use Prim.Native.Nat.{◌+◌, ◌<◌}
use native.Mathlib.Omega.{arith}
use lib.ListN.{length}
use Rattle.piszczalin.proofs.MarkLaws.{highest_good, highest_none, higher, highest_all}
use Rattle.piszczalin.proofs.marks.good.Goals as goal

pub loop-mark-init : goal.loop-mark-init
loop-mark-init c = highest_none _

pub loop-mark-preserved : goal.loop-mark-preserved
loop-mark-preserved c =
    let w = c.loop-mark in
    let marks = c.args.marks in
    let here : w.mark-index < length marks = omega arith in
    w.invariant
    ∙ higher marks w.highest w.mark-index here
    ∙ ap (λ x. highest_good marks x (w.mark-index + 1)) (sym c.max-highest.ensures)

pub returns : goal.returns
returns c =
    let w = c.loop-mark in
    sym (w.invariant ∙ highest_all c.args.marks w.highest w.mark-index (omega arith))
