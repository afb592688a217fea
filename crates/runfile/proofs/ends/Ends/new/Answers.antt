-- No line: every place is free.
use Rattle.std.proofs.Common.{refl, arith}
use Rattle.runfile.proofs.EndPlaces.{all_free}
use Rattle.runfile.proofs.ends.Ends.new.Goals as goal

pub invariant_of-result : goal.invariant_of-result
invariant_of-result c =
    let zero = c.default.ensures in
    (omega arith, refl, all_free _ c.default.result (λ i. record { tick = record { 0 = zero.0 i }; task = zero.1.0 i; cycles = record { 0 = zero.1.1 i } }))
