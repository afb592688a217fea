-- `render` puts the ticks' lines and the last line after them where both fit, and nothing where they do not.
use mathlib.Core.Path.{◌≡◌, sym, ap, ◌∙◌}
use mathlib.Core.Bool.{Bool, true, false}
use Prim.Native.Nat.{◌+◌, ◌≤◌}
use native.Mathlib.Omega.{arith}
use lib.Dec.{leb}
use lib.ListN.{length}
use Rattle.printout.specs.declared.lasts.Last.{Last}
use Rattle.player.specs.Rows.{number_in}
use Rattle.printout.specs.Parts.{row_lines, last_text, lines_of, rendered}
use Rattle.printout.proofs.Rendering.{none_put, both_put, parts_fit}
use Rattle.printout.proofs.whole.render.Goals as goal
use Rattle.printout.proofs.whole.render.Goals.{After-last_of-last, After-room}

pub overflow_add-rows : goal.overflow_add-rows
overflow_add-rows c = omega arith

-- the lines with the last one as it was worked out
lines_are : (c : After-last_of-last) →
    let a = c.args in
    lines_of (a.state.tasks.count + 2) a.state.done.0 c.last_of-last.result a.rows.now ≡ rendered (number_in a.refusal) a.state a.rows.now
unfolding rendered
lines_are c =
    let a = c.args in
    ap (λ (l : Last). lines_of (a.state.tasks.count + 2) a.state.done.0 l a.rows.now) c.last_of-last.ensures

-- whether they fit, as it was told
room-is : (c : After-room) (t : Bool) → c.room.result ≡ t →
    let a = c.args in
    leb (length (lines_of (a.state.tasks.count + 2) a.state.done.0 c.last_of-last.result a.rows.now)) (length a.out.now) ≡ t
room-is c t e = sym c.room.ensures ∙ e

-- so where it was told that they do, there are places for both parts
both-fit : (c : After-room) → c.room.result ≡ true →
    let a = c.args in
    length (row_lines (a.state.tasks.count + 2) a.state.done.0 0 a.rows.now) + length (last_text c.last_of-last.result) ≤ length a.out.now
both-fit c e =
    let a = c.args in
    parts_fit (a.state.tasks.count + 2) a.state.done.0 c.last_of-last.result a.rows.now (length a.out.now) (room-is c true e)

pub invariant_of-rows : goal.invariant_of-rows
invariant_of-rows c = let all = c.requires.all in record { there = all.there; narrow = all.narrow; few = all.few }

pub room-requires : goal.room-requires
room-requires c = rw c.last_of-last.ensures c.requires.all.short

pub put_rows-at-requires : goal.put_rows-at-requires
put_rows-at-requires c =
    omega (arith, both-fit (goal.at.put_rows-at-requires c).After-room c.if-not-room.false)

pub put_last-requires : goal.put_last-requires
put_last-requires c =
    let fit = both-fit (goal.at.put_last-requires c).After-room c.if-not-room.false in
    omega (arith, c.put_rows-at.ensures.value)

pub returns-then-not-room : goal.returns-then-not-room
returns-then-not-room c =
    let a = c.args in
    let none = none_put (lines_of (a.state.tasks.count + 2) a.state.done.0 c.last_of-last.result a.rows.now) a.out.now (room-is (goal.at.returns-then-not-room c).After-room false c.if-not-room.true) in
    let done = rw (lines_are (goal.at.returns-then-not-room c).After-last_of-last) at none in
    record { value = done.0; out_after = done.1 }

pub returns : goal.returns
returns c =
    let a = c.args in
    let r = c.put_rows-at in
    let p = c.put_last in
    let whole = both_put (a.state.tasks.count + 2) a.state.done.0 c.last_of-last.result a.rows.now a.out.now r.new.out p.new.out r.result p.result (room-is (goal.at.returns c).After-room true c.if-not-room.false) r.ensures.value r.ensures.out_after p.ensures.value p.ensures.out_after in
    let done = rw (lines_are (goal.at.returns c).After-last_of-last) at whole in
    record { value = done.0; out_after = done.1 }
