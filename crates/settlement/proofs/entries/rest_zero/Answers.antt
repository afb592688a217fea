-- `rest_zero`'s chain asks the definition's test of each place in turn.
use Rattle.std.proofs.Common.{rules, arith, ap, ◌∙◌, ℕ, ◌≡◌, refl, true, false, not, ◌||◌, get_or}
use Rattle.std.proofs.lemmas.Iterator.{cases_from_all, YieldsList-from_range}
use borrow.Author.Tests.{tests}
use lib.Dec.{eqb}
use Rattle.rules.specs.Words.{up_to, every}
use Rattle.choosing.specs.Choosing.{waits_in}
use Rattle.settlement.specs.Parts.{rest_zero}
use Rattle.settlement.proofs.Marks.{all-every}
use Rattle.settlement.proofs.entries.rest_zero.Goals as goal

pub returns : goal.returns
unfolding rest_zero waits_in
returns c =
    let n = c.min.result in
    let keeps = λ (i : ℕ). not (get_or c.args.jobs.now.over i false || waits_in c.args.ready.now i) || eqb (get_or c.args.report.now i 0) 0 in
    all-every keeps n c.all.result
    (cases_from_all _ _ c.all.result (λ i. keeps i ≡ true) (λ i. keeps i ≡ false) c.all.ensures.ran (YieldsList-from_range 0 n n refl (omega arith)) (λ x q k. search (rules, tests)) (λ x q k. search (rules, tests)))
    ∙ ap (λ m. every keeps (up_to m (λ i. i))) c.min.ensures
