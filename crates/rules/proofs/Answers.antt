-- What the answer of a call says of the test that it stands for, by the branch taken on it.
use mathlib.Core.Path.{◌≡◌, sym, ◌∙◌}
use mathlib.Core.Bool.{Bool, true, false, not}
use borrow.Author.Tests.{not-true, not-false}

-- a test that passed, and one that failed
pub passed : {r t : Bool} → r ≡ t → not r ≡ false → t ≡ true
passed {r} e n = sym e ∙ not-false r n

pub failed : {r t : Bool} → r ≡ t → not r ≡ true → t ≡ false
failed {r} e n = sym e ∙ not-true r n
