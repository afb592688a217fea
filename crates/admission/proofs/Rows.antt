-- The verdict of each number, and what the tests before rule 7 make of its sum.
use mathlib.Core.Path.{◌≡◌}
use mathlib.Core.List.{List}
use Prim.Native.Nat.{ℕ, ◌*◌, ◌≤◌}
use lib.Dec.{leb}
use borrow.Author.Tests.{ne_eqb}
use Rattle.units.specs.declared.Ticks.{Ticks}
use Rattle.std.specs.Prelude.{Ok, Err}
use Rattle.refusals.specs.declared.Refusal.{Refusal}
use Rattle.refusals.specs.Refusals.{number_of}
use Rattle.rules.specs.Limits.{most_tasks, most_great}
use Rattle.rules.specs.State.{top_of}
use Rattle.rules.specs.Admission.{great_of, full_load, admitted}
use Rattle.rules.specs.Numbers.{start_number, Forms}
use Rattle.rules.proofs.Tables.{Passes, match_most, match_same, number_0, number_1, number_2, number_3, number_4, number_5, number_6}
use Rattle.rules.proofs.Chains.{every-list_all}
use Rattle.rules.proofs.Answered.{number-not_0}
use Rattle.admission.specs.Parts.{Summable}
use Rattle.admission.specs.Verdict.{verdict_of, judged}

-- rule 7 as `admits` tests it
pub admits_is : (ps cs ss : List ℕ) (great : Ticks) → great.0 ≡ great_of ps → leb (full_load great.0 ps cs) (top_of ss * great.0) ≡ admitted ps cs ss
unfolding admitted
admits_is ps cs ss great e = rw e

-- the rows of form_number
pub ruleset rows = (every-list_all, number_1, number_2, number_3, number_4, number_5, number_6)

module _ (ps cs ss vs : List ℕ) where
  -- the verdict of a refusal, and of none
  pub verdict-err : (r : Refusal) → start_number ps cs ss vs ≡ number_of r → judged (Err r) ≡ verdict_of ps cs ss vs
  unfolding judged verdict_of
  verdict-err r e = rw (e, ne_eqb (number_of r) 0 (number-not_0 r))

  pub verdict-ok : Passes ps cs ss vs → (great : Ticks) → great.0 ≡ great_of ps → judged (Ok great) ≡ verdict_of ps cs ss vs
  unfolding judged verdict_of
  verdict-ok p great g = rw (number_0 ps cs ss vs p, ← g)

  -- the tests before rule 7 keep its sum small
  pub summable : Forms ps cs ss vs → (great : Ticks) → great.0 ≤ most_great → Summable ps cs great
  summable f great h =
      record {
        few = match_most most_tasks ps cs f.tasks_match;
        paired = match_same most_tasks ps cs f.tasks_match;
        periods_allowed = f.periods_allowed;
        reserves_allowed = f.reserves_allowed;
        small = h;
      }
