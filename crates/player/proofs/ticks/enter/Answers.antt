-- `enter` goes from line to line of the tick: what the lines from `k` on enter into the report so far is what all of them enter into the first one.
use mathlib.Core.Path.{◌≡◌, refl, sym, ap₂, ◌∙◌}
use mathlib.Core.Bool.{Bool, true, false, not, false≢true}
use Prim.Native.Nat.{ℕ, ◌+◌, ◌-◌}
use native.Mathlib.Omega.{arith}
use borrow.Author.Tests.{eqb-true, eqb-false}
use lib.ListN.{length, set}
use Rattle.player.proofs.Entries.{front_other, front_none, past_more, past_here, enter_more, enter_none}
use Rattle.player.specs.Parts.{ticks_in, tasks_in, cycles_in, entered}
use Rattle.player.proofs.Lines.{ticks_long, tick_at, task_at, cycles_at}
use Rattle.player.proofs.ticks.enter.Goals as goal

-- what a test that is not so says
is_true : (b : Bool) → false ≡ not b → b ≡ true
is_true true e = refl
is_true false e = absurd (false≢true e)

is_false : (b : Bool) → true ≡ not b → b ≡ false
is_false false e = refl
is_false true e = absurd (false≢true (sym e))

pub loop-k-preserved : goal.loop-k-preserved
loop-k-preserved c =
    let e = c.args.ends.now in
    let k = c.loop-k.k in
    let i = c.loop-k.invariant in
    let long = ticks_long e in
    let same = tick_at e k c.loop-k-test.true ∙ eqb-true _ _ (is_true _ c.if-ne.ensures) in
    record {
      place = i.place ∙ past_more (ticks_in e) c.args.t.0 k (omega arith) same;
      report = i.report
          ∙ enter_more (ticks_in e) (tasks_in e) (cycles_in e) c.args.t.0 k c.loop-k.report (omega arith) same
          ∙ ap₂ (λ (task used : ℕ). entered (ticks_in e) (tasks_in e) (cycles_in e) c.args.t.0 (k + 1) (set c.loop-k.report (task - 1) used)) (task_at e k c.loop-k-test.true) (cycles_at e k c.loop-k-test.true);
    }

pub returns-then-ne : goal.returns-then-ne
returns-then-ne c =
    let e = c.args.ends.now in
    let k = c.loop-k.k in
    let i = c.loop-k.invariant in
    let long = ticks_long e in
    let none = front_other (ticks_in e) c.args.t.0 k (omega arith) (λ q. eqb-false _ _ (is_false _ c.if-ne.ensures) (sym (tick_at e k c.loop-k-test.true) ∙ q)) in
    record {
      value = sym (i.place ∙ past_here (ticks_in e) c.args.t.0 k none);
      report_after = sym (i.report ∙ enter_none (ticks_in e) (tasks_in e) (cycles_in e) c.args.t.0 k c.loop-k.report none);
    }

pub returns : goal.returns
returns c =
    let e = c.args.ends.now in
    let k = c.loop-k.k in
    let i = c.loop-k.invariant in
    let long = ticks_long e in
    let all : length e ≡ k = omega arith in
    let none = front_none (ticks_in e) c.args.t.0 k (omega arith) in
    record {
      value = all ∙ sym (i.place ∙ past_here (ticks_in e) c.args.t.0 k none);
      report_after = sym (i.report ∙ enter_none (ticks_in e) (tasks_in e) (cycles_in e) c.args.t.0 k c.loop-k.report none);
    }
