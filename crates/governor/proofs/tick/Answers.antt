-- `tick` is `step` with the state put together again: the tasks and the speeds are those given.
use lib.ListN.{length}
use Rattle.std.proofs.lemmas.Result.{err_from_is_err_and}
use Rattle.stepping.proofs.TickLaws.{tick_by}
use Rattle.governor.proofs.tick.Goals as goal

pub returns-in_err-done : goal.returns-in_err-done
returns-in_err-done c =
    let x = c.args in
    let h = c.in_err-done.ensures in
    let p = err_from_is_err_and c.from_residual.result c.from_residual.ensures.1 in
    rw (p.1, p.2) (tick_by x.state x.report.now (length x.grants.now) _ h.0, h.1)

pub returns : goal.returns
returns c =
    let x = c.args in
    let h = c.in_ok-done.ensures in
    (tick_by x.state x.report.now (length x.grants.now) _ h.0, h.1)
