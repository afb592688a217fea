-- `marks_of` turns the bools place by place: what is turned and the rest turned behind it are the bools turned.
use borrow.Author.Rules.{rules}
use mathlib.Core.Path.{◌≡◌, refl, sym, ap, ◌∙◌}
use mathlib.Core.Bool.{false}
use Prim.Native.Nat.{◌+◌}
use native.Mathlib.Omega.{arith}
use lib.ListN.{length, get_or, set}
use Rattle.piszczalin.specs.Plain.{mark_of}
use Rattle.piszczalin.proofs.MarkLaws.{byte_mark, turned, turned_none, turned_on, turned_all}
use Rattle.piszczalin.proofs.marks.marks_of.Goals as goal

pub loop-i-init : goal.loop-i-init
loop-i-init c = (refl, turned_none mark_of _ _)

pub loop-i-preserved : goal.loop-i-preserved
loop-i-preserved c =
    let w = c.loop-i in
    let over = c.args.over in
    let long : length over ≡ 16 = search rules in
    let b = get_or over w.i false in
    (search rules, ap (λ x. turned mark_of over (set w.marks w.i x) (w.i + 1)) (c.from.ensures ∙ byte_mark b) ∙ turned_on mark_of over w.marks w.i false (omega arith) (omega arith) ∙ w.invariant.1)

pub returns : goal.returns
returns c =
    let w = c.loop-i in
    let over = c.args.over in
    let long : length over ≡ 16 = search rules in
    sym (turned_all mark_of over w.marks w.i (omega arith) (omega arith)) ∙ w.invariant.1
