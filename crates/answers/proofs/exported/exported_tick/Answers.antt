-- Both contracts name one answer, by the law on the plain form of a state, and both grants lists, equal before, are equal after.
use mathlib.Core.Path.{sym, ap, ◌∙◌}
use Prim.Native.Nat.{ℕ}
use mathlib.Core.List.{List}
use lib.ListN.{length}
use Rattle.piszczalin.specs.declared.PlainState.{PlainState}
use Rattle.piszczalin.specs.Calls.{plain_ticked, plain_tick, plain_grants}
use Rattle.piszczalin.proofs.PlainLaws.{tick_plain, grants_plain}
use Rattle.answers.proofs.exported.exported_tick.Goals as goal

pub returns : goal.returns
returns c =
    let x = c.args in
    let is = c.requires.0 in
    let same = c.requires.1 in (
      ap plain_ticked c.tick.ensures.0
          ∙ tick_plain x.state x.report.now (length x.grants.now)
          ∙ ap (λ (s : PlainState). plain_tick s x.report.now (length x.grants.now)) (sym is)
          ∙ ap (λ (g : List ℕ). plain_tick x.plain x.report.now (length g)) same
          ∙ sym c.piszczalin_tick.ensures.0,
      c.tick.ensures.1
          ∙ grants_plain x.state x.report.now x.grants.now
          ∙ ap (λ (s : PlainState). plain_grants s x.report.now x.grants.now) (sym is)
          ∙ ap (λ (g : List ℕ). plain_grants x.plain x.report.now g) same
          ∙ sym c.piszczalin_tick.ensures.1,
    )
