-- What the private function of tallies answers: nothing here is part of what it promises to callers.
use Rattle.std.specs.Prelude.{ℕ, List}
use Rattle.units.specs.declared.Cycles.{Cycles}
use Rattle.rules.specs.Words.{total}

-- the cycles of a list of counts
abbrev pub cycles_of : List Cycles → ℕ
cycles_of l = total (λ (c : Cycles). c.0) l
