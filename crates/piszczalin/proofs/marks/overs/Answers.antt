-- `overs` turns the marks place by place: what is turned and the rest turned behind it are the marks turned.
use borrow.Author.Rules.{rules}
use mathlib.Core.Path.{◌≡◌, refl, sym, ◌∙◌}
use native.Mathlib.Omega.{arith}
use lib.ListN.{length}
use Rattle.piszczalin.specs.Plain.{over_of}
use Rattle.piszczalin.proofs.MarkLaws.{turned_none, turned_on, turned_all}
use Rattle.piszczalin.proofs.marks.overs.Goals as goal

pub loop-i-init : goal.loop-i-init
loop-i-init c = (refl, turned_none over_of _ _)

pub loop-i-preserved : goal.loop-i-preserved
unfolding over_of
loop-i-preserved c =
    let w = c.loop-i in
    let marks = c.args.marks in
    let long : length marks ≡ 16 = search rules in
    (search rules, turned_on over_of marks w.over w.i 0 (omega arith) (omega arith) ∙ w.invariant.1)

pub returns : goal.returns
returns c =
    let w = c.loop-i in
    let marks = c.args.marks in
    let long : length marks ≡ 16 = search rules in
    sym (turned_all over_of marks w.over w.i (omega arith) (omega arith)) ∙ w.invariant.1
