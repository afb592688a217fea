-- A tick's parts put together: for a sound state what the crates below answer is what the rules say, and rule 5's sums have room.
use mathlib.Core.Path.{◌≡◌, refl, sym, ap, ◌∙◌}
use mathlib.Core.Bool.{Bool, true, false, cond}
use mathlib.Core.List.{List, [], ◌∷◌}
use Prim.Native.Nat.{ℕ, zero, suc, ◌+◌, ◌-◌, ◌*◌, ◌%◌, ◌≤◌, ◌<◌, min}
use native.Mathlib.Nat.{mul-le-mul}
use native.Mathlib.Omega.{arith}
use lib.Dec.{eqb}
use lib.ListN.{length, get_or}
use Rattle.std.proofs.lemmas.List.{length-set}
use borrow.Author.Tests.{ltb-false}
use Rattle.std.proofs.Common.{Option, Some, None, Result, Ok, Err}
use Rattle.std.specs.Option.{ok_or}
use Rattle.refusals.specs.declared.Refusal.{Refusal}
use Rattle.refusals.specs.Refusals.{number_of}
use Rattle.units.specs.Units.{ticks, cycles, speed}
use Rattle.units.specs.declared.Cycles.{Cycles}
use Rattle.units.specs.declared.Speed.{Speed}
use Rattle.rules.specs.declared.Tasks.{Tasks}
use Rattle.rules.specs.declared.Dues.{Dues}
use Rattle.rules.specs.declared.Settling.{Settling}
use Rattle.rules.specs.declared.State.{State}
use Rattle.rules.specs.Words.{up_to, total}
use Rattle.rules.specs.Limits.{most_tasks, most_speeds, most_speed, most_ticks}
use Rattle.rules.specs.State.{state_from, put_at, period_at, speed_at, count_at, job_at, top_of, speeds_of}
use Rattle.rules.specs.Load.{deadline, carries}
use Rattle.rules.specs.Choice.{deadline_at, lowest, load_of, order_of, speed_place, speed_of}
use Rattle.rules.specs.Settlement.{settle_at, settle_all, at_tick_start, settled, keeps_rule4}
use Rattle.rules.specs.Counting.{counted, next_of}
use Rattle.rules.specs.Numbers.{sound, tick_number}
use Rattle.rules.specs.Answers.{Ticked}
use Rattle.rules.specs.Calls.{tick_of, grants_of, ticked_by}
use Rattle.rules.proofs.Soundness.{Sound}
use Rattle.rules.proofs.Deadlines.{release_due}
use Rattle.rules.proofs.Settles.{Settles}
use Rattle.rules.proofs.Keeps.{all_allowed_lem, JobsRight, settles}
use Rattle.rules.proofs.Answered.{tick-err, tick-grants_err}
use Rattle.rules.proofs.Lists.{length-up_to}
use Rattle.rules.proofs.Loads.{place_below, speed_of_at, speed_of_most, top_limit}
use Rattle.choosing.specs.Choosing.{dues_of, due_in, order_in, lowest_in}
use Rattle.choosing.proofs.Agrees.{dues_are, order_is, place_is}
use Rattle.soundness.specs.Survey.{survey_of}
use Rattle.settlement.specs.declared.Settled.{Settled}
use Rattle.settlement.specs.Settled.{lawful_in, outcome_in, settled_of, granted_of}
use Rattle.settlement.proofs.Told.{grants_paid, grants_stay, paid_whole}
use Rattle.stepping.specs.declared.Stepped.{Stepped}
use Rattle.stepping.specs.Stepped.{Change, stepped_of, stepped_by}
use Rattle.stepping.specs.Parts.{counted_by, Timely, Steps, after_of}

-- a count is at most all counts together
one_count : (l : List Cycles) (i : ℕ) → (get_or l i (cycles 0)).0 ≤ total (λ (c : Cycles). c.0) l
unfolding total
one_count [] i = omega arith
one_count (c ∷ l) zero = omega arith
one_count (c ∷ l) (suc i) =
    let rest = one_count l i in
    omega arith

-- a settlement keeps the lengths of the jobs' arrays
settled_long : (ts : Tasks) (report o : List ℕ) (sofar : Settling) → (length (settle_all ts report o sofar).jobs.run ≡ length sofar.jobs.run) × (length (settle_all ts report o sofar).jobs.over ≡ length sofar.jobs.over)
unfolding settle_all settle_at put_at
settled_long ts report [] sofar = (refl, refl)
settled_long ts report (i ∷ o) sofar =
    let rest = settled_long ts report o (settle_at ts i (get_or report i 0) sofar) in
    (rest.0 ∙ length-set sofar.jobs.run i _, rest.1 ∙ length-set sofar.jobs.over i _)

-- a value that is there where a test holds, and none where it does not
module _ {A : Type 0} (x : A) where
  some_told : (b : Bool) (y : A) → cond b (Some x) None ≡ Some y → (b ≡ true) × (y ≡ x)
  some_told true y e = (refl, cc)
  some_told false y e = absurd cc

  none_told : (b : Bool) → cond b (Some x) None ≡ None → b ≡ false
  none_told true e = absurd cc
  none_told false e = refl

-- a refusal in the place of a value that is not there
pub none_or : {A : Type 0} (o : Option A) (e f : Refusal) → ◌≡◌ {A = Result A Refusal} (Err f) (ok_or o e) → (o ≡ None) × (f ≡ e)
none_or (Some x) e f h = absurd cc
none_or None e f h = (refl, cc)

pub none_of : {A : Type 0} (o : Option A) → ((x : A) → o ≡ Some x → ⊥) → o ≡ None
none_of (Some x) h = absurd (h x refl)
none_of None h = refl

-- what a survey tells
module _ (s : State) where
  pub sound_told : (load : Cycles) → survey_of s ≡ Some load → (sound s ≡ true) × (load ≡ cycles (load_of s))
  unfolding survey_of
  sound_told load e = some_told (cycles (load_of s)) (sound s) load e

  pub unsound_told : survey_of s ≡ None → sound s ≡ false
  unfolding survey_of
  unsound_told e = none_told (cycles (load_of s)) (sound s) e

-- what a settlement tells, in the rules' words
unfoldable pub parts_of : Settling → Settled
parts_of o = record { jobs = o.jobs; left = o.left; cut = o.cut }

unfoldable pub settles_as : State → List ℕ → Option Settled
unfolding parts_of
settles_as s report = cond (keeps_rule4 s (speed_of s) report) (Some (parts_of (settled s (speed_of s) report))) None

module _ (s : State) (report : List ℕ) where
  -- a lawful one: what rule 4 says
  pub lawful_told : (r : Settled) → settles_as s report ≡ Some r → (keeps_rule4 s (speed_of s) report ≡ true) × (r ≡ parts_of (settled s (speed_of s) report))
  unfolding settles_as
  lawful_told r e = some_told _ (keeps_rule4 s (speed_of s) report) r e

  pub unlawful_told : settles_as s report ≡ None → keeps_rule4 s (speed_of s) report ≡ false
  unfolding settles_as
  unlawful_told e = none_told _ (keeps_rule4 s (speed_of s) report) e

-- of an answer of tick, what a tick can change
abbrev change_of : Ticked → Change
change_of t = record { number = t.number; done = t.state.done; jobs = t.state.jobs; tally = t.state.tally }

-- a refused tick: all as it was, the grants list too
pub refused_is : (s : State) (report grants : List ℕ) (r : Refusal) → tick_number s report (length grants) ≡ number_of r → (stepped_by s (Err r) ≡ stepped_of s report (length grants)) × (grants ≡ grants_of s report grants)
unfolding stepped_of stepped_by ticked_by
refused_is s report grants r e = (ap change_of (tick-err s report (length grants) r e), tick-grants_err s report grants r e)

-- an accepted one: rule 5, from what the settlement came to
pub stepped_is : (s : State) (report : List ℕ) (places place granted : ℕ) (r : Settled) → tick_number s report places ≡ 0 → place ≡ speed_place s → r ≡ parts_of (settled s (speed_of s) report) → granted ≡ total (λ (g : Cycles). g.0) (settled s (speed_of s) report).grants → stepped_by s (Ok (after_of s.done s.tasks s.tally place granted r)) ≡ stepped_of s report places
unfolding stepped_by after_of counted_by stepped_of tick_of next_of counted parts_of
stepped_is s report places place granted r e p told g = rw (e, p, told, g)

-- the answer of tick put together again: it leaves the tasks and the speeds as they are
abbrev pub whole_of : State → Stepped → State
whole_of s r = state_from r.done s.tasks r.jobs s.ladder r.tally

abbrev pub together : State → Change → Ticked
together s c = record { number = c.number; state = state_from c.done s.tasks c.jobs s.ladder c.tally }

pub tick_from : (s : State) (report : List ℕ) (places : ℕ) (c : Change) → c ≡ stepped_of s report places → together s c ≡ tick_of s report places
unfolding stepped_of tick_of next_of
tick_from s report places c e = go (eqb (tick_number s report places) 0) refl
  where
    go : (b : Bool) → eqb (tick_number s report places) 0 ≡ b → together s c ≡ tick_of s report places
    go true t = rw (e, t) refl
    go false t = rw (e, t) refl

-- so it is of each answer of step, a refused one too
abbrev pub whole_by : State → Result Stepped Refusal → Result State Refusal
whole_by s (Ok r) = Ok (whole_of s r)
whole_by s (Err r) = Err r

pub tick_by : (s : State) (report : List ℕ) (places : ℕ) (r : Result Stepped Refusal) → stepped_by s r ≡ stepped_of s report places → ticked_by s (whole_by s r) ≡ tick_of s report places
unfolding stepped_by ticked_by
tick_by s report places (Ok r) e = tick_from s report places _ e
tick_by s report places (Err r) e = tick_from s report places _ e

-- what the crates below answer for a sound state
module _ (s : State) (f : Sound s) where
  pub place_found : (load : Cycles) (place : ℕ) → load ≡ cycles (load_of s) → lowest_in (λ x. carries x s.tasks.great.0 load.0) (up_to (min s.ladder.count most_speeds) (speed_at s.ladder)) ≡ Some place → place ≡ speed_place s
  unfolding lowest_in
  place_found load place l p =
      (some_told _ _ place p).1
      ∙ ap (λ (n : Cycles). lowest (λ x. carries x s.tasks.great.0 n.0) (up_to (min s.ladder.count most_speeds) (speed_at s.ladder))) l
      ∙ place_is s f

  -- which is never none
  pub found_some : (load : Cycles) → load ≡ cycles (load_of s) → lowest_in (λ x. carries x s.tasks.great.0 load.0) (up_to (min s.ladder.count most_speeds) (speed_at s.ladder)) ≡ None → ⊥
  unfolding lowest_in
  found_some load l e =
      let fits : ℕ → Bool = λ x. carries x s.tasks.great.0 load.0 in
      let ss : List ℕ = up_to (min s.ladder.count most_speeds) (speed_at s.ladder) in
      let over : length ss ≤ lowest fits ss = ltb-false (lowest fits ss) (length ss) (none_told _ _ e) in
      let same : lowest fits ss ≡ speed_place s = ap (λ (n : Cycles). lowest (λ x. carries x s.tasks.great.0 n.0) ss) l ∙ place_is s f in
      omega (arith, over, same, length-up_to (min s.ladder.count most_speeds) (speed_at s.ladder), place_below s f, f.speeds_most)

  -- so a listed speed is found
  pub found_listed : (place : ℕ) → place ≡ speed_place s → place < s.ladder.count
  found_listed place e = omega (arith, e, place_below s f)

  pub found_room : (place : ℕ) → place ≡ speed_place s → place < most_speeds
  found_room place e = omega (arith, e, place_below s f, f.speeds_most)

  pub speed_found : (place : ℕ) → place ≡ speed_place s → get_or s.ladder.speeds place (speed 0) ≡ speed (speed_of s)
  unfolding speed_at
  speed_found place e = ap (λ i. get_or s.ladder.speeds i (speed 0)) e ∙ ap speed (sym (speed_of_at s f))

  pub settled_found : (dues : Dues) (sp : Speed) (report : List ℕ) (r : Option Settled) → dues ≡ dues_of s.done.0 s.tasks → sp ≡ speed (speed_of s) → r ≡ settled_of s.tasks s.jobs (order_in dues s.jobs s.tasks.count) sp.0 report → r ≡ settles_as s report
  unfolding settles_as settled_of outcome_in lawful_in settled keeps_rule4 parts_of
  settled_found dues sp report r d v e = e ∙ rw (d, v, order_is s f) (by (keeps_rule4 s (speed_of s) report))
    where
      by : (b : Bool) → cond b (Some (parts_of (cond b (settled s (speed_of s) report) (at_tick_start s.jobs (speed_of s))))) None ≡ cond b (Some (parts_of (settled s (speed_of s) report))) None
      by true = refl
      by false = refl

  -- the grants list: written where the report is lawful, and else as it was
  module _ (dues : Dues) (sp : Speed) (report grants after : List ℕ) (d : dues ≡ dues_of s.done.0 s.tasks) (v : sp ≡ speed (speed_of s)) (e : after ≡ granted_of s.tasks s.jobs (order_in dues s.jobs s.tasks.count) sp.0 report grants) where
    lawful_is : lawful_in s.tasks s.jobs (order_in dues s.jobs s.tasks.count) sp.0 report ≡ keeps_rule4 s (speed_of s) report
    unfolding lawful_in keeps_rule4
    lawful_is = rw (d, v, order_is s f)

    settled_is : settle_all s.tasks report (order_in dues s.jobs s.tasks.count) (at_tick_start s.jobs sp.0) ≡ settled s (speed_of s) report
    unfolding settled
    settled_is = rw (d, v, order_is s f)

    pub grants_found : length grants ≡ s.tasks.count → keeps_rule4 s (speed_of s) report ≡ true → after ≡ up_to s.tasks.count (λ i. (get_or (settled s (speed_of s) report).grants i (cycles 0)).0)
    grants_found long lawful =
        e
        ∙ grants_paid _ _ _ _ report (lawful_is ∙ lawful) grants
        ∙ paid_whole _ grants (omega (arith, long, f.tasks_most))
        ∙ ap (λ (o : Settling). up_to (length grants) (λ i. (get_or o.grants i (cycles 0)).0)) settled_is
        ∙ ap (λ n. up_to n (λ i. (get_or (settled s (speed_of s) report).grants i (cycles 0)).0)) long

    pub grants_left : keeps_rule4 s (speed_of s) report ≡ false → after ≡ grants
    grants_left unlawful = e ∙ grants_stay _ _ _ _ report (lawful_is ∙ unlawful) grants

  -- rule 5's releases, by the deadlines of this tick
  pub timely : s.done.0 < most_ticks → Timely s.tasks (dues_of s.done.0 s.tasks) (ticks (s.done.0 + 1)) s.tally.late
  unfolding due_in deadline_at deadline job_at period_at
  timely room = record { few = f.tasks_most; due = due; room = omega (arith, f.late_most, room) }
    where
      due : (i : ℕ) → i < s.tasks.count → eqb (get_or (dues_of s.done.0 s.tasks).at i (ticks 0)).0 (s.done.0 + 1) ≡ eqb ((s.done.0 + 1) % period_at s.tasks i) 0
      due i h =
          ap (λ x. eqb x (s.done.0 + 1)) (dues_are s f i h)
          ∙ sym (release_due s.done.0 (period_at s.tasks i) (f.period_some i h))

  -- a tick that keeps rule 4 can be counted, and grants all of its speed but what is left
  module _ (room : s.done.0 < most_ticks) (report : List ℕ) (lawful : keeps_rule4 s (speed_of s) report ≡ true) (r : Settled) (told : r ≡ parts_of (settled s (speed_of s) report)) (runs : length r.jobs.run ≡ most_tasks) (marks : length r.jobs.over ≡ most_tasks) where
    jobs_so : JobsRight s
    unfolding parts_of settled at_tick_start
    jobs_so =
        let long = settled_long s.tasks report (order_of s) (at_tick_start s.jobs (speed_of s)) in
        record {
          few = f.tasks_most;
          right = f.run_right_lem;
          runs = sym long.0 ∙ ap (λ (x : Settled). length x.jobs.run) (sym told) ∙ runs;
          marks = sym long.1 ∙ ap (λ (x : Settled). length x.jobs.over) (sym told) ∙ marks;
        }

    settles_so : Settles s.tasks s.jobs s.tasks.count (speed_of s) [] (settled s (speed_of s) report)
    settles_so = settles s jobs_so (speed_of s) report (all_allowed_lem s (speed_of s) report lawful)

    pub granted_is : speed_of s - r.left.0 ≡ total (λ (g : Cycles). g.0) (settled s (speed_of s) report).grants
    unfolding parts_of
    granted_is =
        let left : r.left.0 ≡ (settled s (speed_of s) report).left.0 = ap (λ (x : Settled). x.left.0) told in
        omega (arith, left, settles_so.shared)

    steps : Steps s.done s.tasks s.tally (speed_place s) (speed (speed_of s)) (dues_of s.done.0 s.tasks) r
    unfolding count_at parts_of
    steps =
        let most : s.done.0 * top_of (speeds_of s.ladder) ≤ most_ticks * most_speed = mul-le-mul f.done_most (top_limit s f) in
        let fast : speed_of s ≤ most_speed = omega (arith, speed_of_most s f, top_limit s f) in
        let one = one_count s.tally.counts (speed_place s) in
        let left : r.left.0 ≡ (settled s (speed_of s) report).left.0 = ap (λ (x : Settled). x.left.0) told in
        let cut : r.cut ≡ (settled s (speed_of s) report).cut = ap (λ (x : Settled). x.cut) told in
        record {
          room = omega (arith, room);
          counts = record {
            listed = omega (arith, place_below s f, f.speeds_most);
            rest = omega (arith, left, settles_so.shared);
            count = omega (arith, one, f.cycles_most, most, fast);
            idle = omega (arith, f.cycles_most, most, fast);
            cuts = omega (arith, cut, settles_so.cuts, f.cut_most, room);
          };
          releases = timely room;
        }

    pub steps_found : (place : ℕ) (sp : Speed) (dues : Dues) → place ≡ speed_place s → sp ≡ speed (speed_of s) → dues ≡ dues_of s.done.0 s.tasks → Steps s.done s.tasks s.tally place sp dues r
    steps_found place sp dues p v d = rw (p, v, d) steps
