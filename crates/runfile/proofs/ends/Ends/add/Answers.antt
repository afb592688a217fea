-- One line more: it takes the first free place.
use Rattle.std.proofs.Common.{◌≡◌, ◌∙◌, ap, length, take, length-set, length-take-le, arith}
use Rattle.runfile.proofs.EndPlaces.{one_taken}
use Rattle.runfile.proofs.ends.Ends.add.Goals as goal

pub invariant_of-self : goal.invariant_of-self
invariant_of-self c =
    let e = c.self.inside in
    let kept = c.self.invariant in
    let long : length (take e.count e.lines) ≡ e.count = length-take-le e.count e.lines (omega (arith, kept.0, kept.1)) in (
      omega (arith, long, ap (λ v. length v.items) c.self.view_is, c.requires),
      length-set e.lines e.count _ ∙ kept.1,
      one_taken e.lines e.count _ kept.2,
    )
