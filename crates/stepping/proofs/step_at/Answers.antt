-- `step_at` is row 13 and rules 4 and 5: the settlement of the rules, and what it changes put together.
use mathlib.Core.Path.{◌≡◌, sym, ap, ◌∙◌}
use Prim.Native.Nat.{◌-◌}
use lib.ListN.{length}
use Rattle.std.proofs.lemmas.Result.{err_from_is_err_and}
use Rattle.units.specs.Units.{speed}
use Rattle.units.specs.declared.Speed.{Speed}
use Rattle.rules.specs.Limits.{most_tasks}
use Rattle.rules.specs.Choice.{speed_of}
use Rattle.rules.proofs.Soundness.{Sound, sound_facts}
use borrow.Author.Rules.{rules}
use Rattle.rules.proofs.Lists.{length-mapped}
use Rattle.rules.proofs.Loads.{some_carries}
use Rattle.rules.proofs.CallRows.{not_all_done, tick_13, tick_0, grants_written}
use Rattle.rules.specs.State.{state_from}
use Rattle.stepping.proofs.TickLaws.{none_or, settles_as, lawful_told, unlawful_told, refused_is, stepped_is, found_room, speed_found, settled_found, grants_found, grants_left, granted_is, steps_found}
use Rattle.stepping.proofs.step_at.Goals as goal
use Rattle.stepping.proofs.step_at.Goals.{After-settle-settled, In_ok-settled}

facts : (c : After-settle-settled) → Sound (state_from c.args.done c.args.tasks.now c.args.jobs.now c.args.ladder.now c.args.tally.now)
facts c = sound_facts (state_from c.args.done c.args.tasks.now c.args.jobs.now c.args.ladder.now c.args.tally.now) c.requires.whole

-- past `settle`: it settles as the rules say, at the speed of the rules
speed-is : (c : After-settle-settled) → c.speed_at-speed.result ≡ speed (speed_of (state_from c.args.done c.args.tasks.now c.args.jobs.now c.args.ladder.now c.args.tally.now))
speed-is c =
    c.speed_at-speed.ensures ∙ speed_found (state_from c.args.done c.args.tasks.now c.args.jobs.now c.args.ladder.now c.args.tally.now) (facts c) _ c.requires.lowest

settle_is : (c : After-settle-settled) → c.settle-settled.result ≡ settles_as (state_from c.args.done c.args.tasks.now c.args.jobs.now c.args.ladder.now c.args.tally.now) c.args.report.now
settle_is c =
    settled_found (state_from c.args.done c.args.tasks.now c.args.jobs.now c.args.ladder.now c.args.tally.now) (facts c) _ _ c.args.report.now _ c.dues_of-dues.ensures (speed-is c) c.settle-settled.ensures.0

-- past row 13: the settlement's arrays have their places
runs : (c : In_ok-settled) → length c.in_ok-settled.settled.jobs.run ≡ most_tasks
runs c = search (rules, length-mapped)

marks : (c : In_ok-settled) → length c.in_ok-settled.settled.jobs.over ≡ most_tasks
marks c = search (rules, length-mapped)

pub speed_at-speed-requires : goal.speed_at-speed-requires
speed_at-speed-requires c =
    let s = (state_from c.args.done c.args.tasks.now c.args.jobs.now c.args.ladder.now c.args.tally.now) in
    found_room s (sound_facts s c.requires.whole) c.args.place c.requires.lowest

pub returns-in_err-settled : goal.returns-in_err-settled
returns-in_err-settled c =
    let f = (goal.at.returns-in_err-settled c).After-settle-settled in
    let s = (state_from f.args.done f.args.tasks.now f.args.jobs.now f.args.ladder.now f.args.tally.now) in
    let report = f.args.report.now in
    let grants = f.args.grants.now in
    let none = none_or _ _ _ c.in_err-settled.ensures.value in
    let broken = unlawful_told s report (sym (settle_is f) ∙ none.0) in
    let n = tick_13 s report (length grants) f.requires.whole (not_all_done s f.requires.goes_on) f.requires.reported f.requires.granted (some_carries s (facts f)) broken in
    let r = refused_is s report grants _ n in
    let p = err_from_is_err_and c.from_residual.result c.from_residual.ensures.1 in
    let stays = grants_left s (facts f) _ _ report grants _ f.dues_of-dues.ensures (speed-is f) f.settle-settled.ensures.1 broken in
    rw (p.1, p.2, none.1) (r.0, stays ∙ r.1)

pub after-requires : goal.after-requires
after-requires c =
    let g = (goal.at.after-requires c).In_ok-settled in
    let f = (goal.at.after-requires c).After-settle-settled in
    let told = lawful_told (state_from f.args.done f.args.tasks.now f.args.jobs.now f.args.ladder.now f.args.tally.now) f.args.report.now _ (sym (settle_is f) ∙ c.in_ok-settled.ensures.ok_part) in
    steps_found (state_from f.args.done f.args.tasks.now f.args.jobs.now f.args.ladder.now f.args.tally.now) (facts f) f.requires.goes_on f.args.report.now told.0 _ told.1 (runs g) (marks g) _ _ _ f.requires.lowest (speed-is f) f.dues_of-dues.ensures

pub returns : goal.returns
returns c =
    let g = (goal.at.returns c).In_ok-settled in
    let f = (goal.at.returns c).After-settle-settled in
    let s = (state_from f.args.done f.args.tasks.now f.args.jobs.now f.args.ladder.now f.args.tally.now) in
    let report = f.args.report.now in
    let grants = f.args.grants.now in
    let told = lawful_told s report _ (sym (settle_is f) ∙ c.in_ok-settled.ensures.ok_part) in
    let accepts = tick_0 s report (length grants) f.requires.whole (not_all_done s f.requires.goes_on) f.requires.reported f.requires.granted (some_carries s (facts f)) told.0 in
    let granted =
    ap (λ (v : Speed). v.0 - c.in_ok-settled.settled.left.0) (speed-is f)
    ∙ granted_is s (facts f) f.requires.goes_on report told.0 _ told.1 (runs g) (marks g) in
    rw c.after.ensures (
      stepped_is s report (length grants) _ _ _ accepts f.requires.lowest told.1 granted,
      grants_found s (facts f) _ _ report grants _ f.dues_of-dues.ensures (speed-is f) f.settle-settled.ensures.1 f.requires.granted told.0
          ∙ grants_written s report grants accepts,
    )
