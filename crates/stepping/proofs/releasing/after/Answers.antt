-- `after` is `after_of`: the counts of `count_tick`, and after `i` turns the first `i` tasks released whose deadline is the new tick.
use mathlib.Core.Path.{◌≡◌, refl, sym, ap, ◌∙◌}
use mathlib.Core.Bool.{not}
use Prim.Native.Nat.{◌+◌}
use native.Mathlib.Omega.{arith}
use borrow.Author.Tests.{eqb-true, eqb-false}
use Rattle.rules.specs.declared.Releasing.{Releasing}
use Rattle.rules.specs.declared.Tally.{Tally}
use Rattle.rules.specs.State.{put_at}
use Rattle.stepping.specs.Parts.{released, released_to}
use Rattle.stepping.proofs.ReleaseLaws.{due_now, not_due, late_most, late_one, late_none, releases_are, kept, same_parts, late_is, after_is}
use Rattle.stepping.proofs.releasing.after.Goals as goal
use Rattle.stepping.proofs.releasing.after.Goals.{then-eq, then-not-jobs-i, else-not-jobs-i, else-eq}

pub loop-i-init : goal.loop-i-init
unfolding released_to
loop-i-init c = (refl, refl)

pub overflow_add-tally : goal.overflow_add-tally
overflow_add-tally c =
    let w = c in
    let k = w.count_tick-tally in
    let x = w.args in
    let start : Releasing = record { jobs = x.settled.now.jobs; late = k.result.late } in
    let most = late_most x.dues.now.at (x.done.0 + 1) start w.loop-i.i in
    let late : w.loop-i.tally.late ≡ (released_to x.dues.now.at (x.done.0 + 1) w.loop-i.i start).late = ap (λ (r : Releasing). r.late) w.loop-i.invariant.0 in
    let first = late_is x.done x.tasks.now x.tally.now x.place _ x.settled.now k.result k.ensures in
    record { fits = omega (arith, most, late, first, w.requires.releases.room, w.requires.releases.few) }

pub loop-i-preserved : goal.loop-i-preserved
unfolding put_at
loop-i-preserved c =
    let w = c.loop-i in
    let k = c.count_tick-tally in
    let x = c.args in
    let t = x.done.0 + 1 in
    let start : Releasing = record { jobs = x.settled.now.jobs; late = k.result.late } in
    let sofar : Releasing = record { jobs = w.jobs; late = w.tally.late } in (
      elim c.if-eq.branch [
        | then-eq v ↦
            same_parts _ _ _ _ v.jobs-is v.tally-is
            ∙ elim v.if-not-jobs-i.branch [
              | then-not-jobs-i u ↦ late_one sofar w.i _ (ap not u.if-not-jobs-i.true) (ap (λ (t : Tally). t.late) u.tally-is)
              | else-not-jobs-i u ↦ late_none sofar w.i _ (ap not u.if-not-jobs-i.false) (ap (λ (t : Tally). t.late) u.tally-is)
            ]
            ∙ ap (released w.i) w.invariant.0
            ∙ due_now x.dues.now.at t start w.i (eqb-true _ _ (sym v.if-eq.ensures))
        | else-eq v ↦ same_parts _ _ _ _ v.jobs-is v.tally-is ∙ w.invariant.0 ∙ not_due x.dues.now.at t start w.i (eqb-false _ _ (sym v.if-eq.ensures))
      ],
      elim c.if-eq.branch [
        | then-eq v ↦
            elim v.if-not-jobs-i.branch [
              | then-not-jobs-i u ↦ kept _ w.tally k.result _ (v.tally-is ∙ u.tally-is) w.invariant.1
              | else-not-jobs-i u ↦ kept _ w.tally k.result _ (v.tally-is ∙ u.tally-is) w.invariant.1
            ]
        | else-eq v ↦ kept _ w.tally k.result _ v.tally-is w.invariant.1
      ],
    )

pub returns : goal.returns
returns c =
    let k = c.count_tick-tally in
    let x = c.args in
    let start : Releasing = record { jobs = x.settled.now.jobs; late = k.result.late } in
    let fresh : Releasing = record { jobs = c.loop-i.jobs; late = c.loop-i.tally.late } in
    let all : c.loop-i.i ≡ x.tasks.now.count = omega arith in
    after_is x.done x.tasks.now x.tally.now x.place _ x.settled.now k.result k.ensures fresh c.loop-i.tally
    (c.loop-i.invariant.0
    ∙ ap (λ n. released_to x.dues.now.at (x.done.0 + 1) n start) all
    ∙ releases_are x.dues.now.at (x.done.0 + 1) start x.tasks.now x.tasks.now.count c.requires.releases.due)
    c.loop-i.invariant.1
