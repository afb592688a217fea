-- The speed that now's contract names, for the state that start's contract names.
use mathlib.Core.Path.{ap, ◌∙◌}
use Rattle.std.proofs.Common.{rules}
use Rattle.rules.specs.Answers.{Started, Told}
use Rattle.rules.specs.Calls.{now_of}
use Rattle.caller.proofs.Defaults.{state_or_zero, speed_or_zero}
use Rattle.caller.proofs.head.first_speed.Goals as goal

pub returns : goal.returns
returns c =
    speed_or_zero _ _ _ (λ a h. search rules) c.map_or.ensures
    ∙ ap (λ (told : Told). told.speed) c.now.ensures
    ∙ ap (λ s. (now_of s).speed) (state_or_zero _ _ c.unwrap_or_default-state.ensures)
    ∙ ap (λ (started : Started). (now_of started.state).speed) c.start.ensures
