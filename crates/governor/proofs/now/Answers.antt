-- `now` is the survey, the rows 10 and 12, and rule 3: a sound state has a listed speed that carries its load.
use mathlib.Core.Path.{◌≡◌, sym, ap, ◌∙◌}
use mathlib.Core.Bool.{true}
use Prim.Native.Nat.{◌<◌}
use native.Mathlib.Omega.{arith}
use Rattle.std.proofs.lemmas.Result.{err_from_is_err_and}
use Rattle.rules.specs.Limits.{most_speeds}
use Rattle.rules.specs.Choice.{speed_place}
use Rattle.rules.specs.Numbers.{sound}
use Rattle.rules.proofs.Soundness.{sound_facts}
use Rattle.rules.proofs.Loads.{some_carries}
use Rattle.rules.proofs.Answered.{now-err, now-ok}
use Rattle.rules.proofs.CallRows.{all_done_lem, not_all_done, now_9, now_10, now_0}
use Rattle.choosing.specs.Choosing.{choice_in}
use Rattle.choosing.proofs.Agrees.{choice_is}
use Rattle.stepping.proofs.TickLaws.{none_or, sound_told, unsound_told, place_found, found_some, found_room, speed_found}
use Rattle.governor.proofs.now.Goals as goal
use Rattle.governor.proofs.now.Goals.{In_ok-load, In_ok-place}

-- past the survey: the state is sound
is-sound : (c : In_ok-load) → sound c.args.state ≡ true
is-sound c = (sound_told c.args.state _ (sym c.survey-load.ensures ∙ c.in_ok-load.ensures.ok_part)).0

-- past `lowest_place`: it is the place of the lowest speed that carries the load, so a listed one
place-is-lowest : (c : In_ok-place) → c.in_ok-place.place ≡ speed_place c.args.state
place-is-lowest c =
    let s = c.args.state in
    let told = sound_told s _ (sym c.survey-load.ensures ∙ c.in_ok-load.ensures.ok_part) in
    place_found s (sound_facts s told.0) _ _ told.1 (sym c.lowest_place-place.ensures ∙ c.in_ok-place.ensures.ok_part)

listed : (c : In_ok-place) → c.in_ok-place.place < most_speeds
listed c = let s = c.args.state in
    let told = sound_told s _ (sym c.survey-load.ensures ∙ c.in_ok-load.ensures.ok_part) in
    found_room s (sound_facts s told.0) _ (place-is-lowest c)

pub returns-in_err-load : goal.returns-in_err-load
returns-in_err-load c =
    let s = c.args.state in
    let none = none_or _ _ _ c.in_err-load.ensures.value in
    let p = err_from_is_err_and c.from_residual.result c.from_residual.ensures.1 in
    rw (p.1, p.2, none.1) (now-err s _ (now_9 s (unsound_told s (sym c.survey-load.ensures ∙ none.0))))

pub returns-then-state-ge1000000000 : goal.returns-then-state-ge1000000000
returns-then-state-ge1000000000 c =
    let s = c.args.state in
    let p = (goal.at.returns-then-state-ge1000000000 c).In_ok-load in
    now-err s _ (now_10 s (is-sound p) (all_done_lem s c.if-state-ge1000000000.true))

pub returns-in_err-place : goal.returns-in_err-place
returns-in_err-place c =
    let s = c.args.state in
    let told = sound_told s _ (sym c.survey-load.ensures ∙ c.in_ok-load.ensures.ok_part) in
    let none = (none_or _ _ _ c.in_err-place.ensures.value).0 in
    absurd (found_some s (sound_facts s told.0) _ told.1 (sym c.lowest_place-place.ensures ∙ none))

pub offset_bounds-state-place : goal.offset_bounds-state-place
offset_bounds-state-place c = record { fits = omega (arith, listed (goal.at.offset_bounds-state-place c).In_ok-place) }

pub bounds-state-place : goal.bounds-state-place
bounds-state-place c = listed (goal.at.bounds-state-place c).In_ok-place

pub returns : goal.returns
returns c =
    let p = (goal.at.returns c).In_ok-place in
    let s = c.args.state in
    let told = sound_told s _ (sym c.survey-load.ensures ∙ c.in_ok-load.ensures.ok_part) in
    let f = sound_facts s told.0 in
    let choice = c.earliest.ensures ∙ ap (λ d. choice_in d s.jobs s.tasks.count) c.dues_of-dues.ensures ∙ choice_is s f in
    rw (choice, speed_found s f _ (place-is-lowest p))
    (now-ok s (now_0 s told.0 (not_all_done s c.if-state-ge1000000000.false) (some_carries s f)))
