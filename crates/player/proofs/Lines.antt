-- The end lines of a run, cut from their arrays, and a tick's report in its array: what the player's parts ask of them and what they come to. By the laws of the cursor.
use mathlib.Core.Path.{◌≡◌, refl, sym, ap, ◌∙◌}
use mathlib.Core.List.{List}
use Prim.Native.Nat.{ℕ, ◌+◌, ◌≤◌, ◌<◌}
use native.Mathlib.Omega.{arith}
use borrow.Rule.Slice.PartMut.{put_mid}
use Rattle.std.proofs.lemmas.List.{get_or-map, length-map}
use lib.ListN.{length, get_or, take, drop, replicate, get_or-replicate}
use lib.Seq.{get_or-take, length-take-le, take_at}
use Rattle.units.specs.Units.{ticks, cycles}
use Rattle.rules.specs.Words.{up_to}
use Rattle.rules.proofs.Lists.{up_to-ext, up_to_get_d}
use Rattle.runfile.specs.declared.End.{End as RunEnd}
use Rattle.runfile.specs.Good.{end_of, GoodEnds}
use Rattle.player.specs.Plays.{ends_of, End, report_of}
use Rattle.player.specs.Parts.{ticks_in, tasks_in, cycles_in, entered}
use Rattle.player.proofs.Cursor.{below, Stands}
use Rattle.player.proofs.Reports.{line_at, entered_is, entered_long}

-- three lists that hold the end lines: they name tasks from 1 to n, and they rise
pub record Lines (ends : List End) (n : ℕ) (when who cycles : List ℕ) : Type 0 where
  pub exists : (k : ℕ) → k < length when → (1 ≤ get_or who k 0) × (get_or who k 0 ≤ n)
  pub rise : (k : ℕ) → k + 1 < length when → below (λ i. get_or when i 0) (λ i. get_or who i 0) k (k + 1)
  pub listed : ends ≡ up_to (length when) (line_at when who cycles)

module _ (es : List RunEnd) where
  -- the ticks that the end lines name are as many as the lines, each that of its line
  pub ticks_long : length (ticks_in es) ≡ length es
  unfolding ticks_in
  ticks_long = length-map es (λ (e : RunEnd). e.tick.0)

  pub tick_at : (k : ℕ) → k < length es → get_or (ticks_in es) k 0 ≡ (end_of es k).tick.0
  unfolding ticks_in
  tick_at k h = get_or-map (λ (e : RunEnd). e.tick.0) es k _ 0 h

  -- and so are their tasks and their cycles
  pub task_at : (k : ℕ) → k < length es → get_or (tasks_in es) k 0 ≡ (end_of es k).task
  unfolding tasks_in
  task_at k h = get_or-map (λ (e : RunEnd). e.task) es k _ 0 h

  pub cycles_at : (k : ℕ) → k < length es → get_or (cycles_in es) k 0 ≡ (end_of es k).cycles.0
  unfolding cycles_in
  cycles_at k h = get_or-map (λ (e : RunEnd). e.cycles.0) es k _ 0 h

  -- good end lines are such lists
  pub lines : (n : ℕ) → GoodEnds n es → Lines (ends_of es) n (ticks_in es) (tasks_in es) (cycles_in es)
  unfolding ends_of
  lines n good = record { exists = exists; rise = rise; listed = listed }
    where
      exists : (k : ℕ) → k < length (ticks_in es) → (1 ≤ get_or (tasks_in es) k 0) × (get_or (tasks_in es) k 0 ≤ n)
      exists k h = rw (task_at k (omega (arith, ticks_long))) (good.exists k (omega (arith, ticks_long)))

      rise : (k : ℕ) → k + 1 < length (ticks_in es) → below (λ i. get_or (ticks_in es) i 0) (λ i. get_or (tasks_in es) i 0) k (k + 1)
      rise k h =
          rw
          (tick_at k (omega (arith, ticks_long)), tick_at (k + 1) (omega (arith, ticks_long)), task_at k (omega (arith, ticks_long)), task_at (k + 1) (omega (arith, ticks_long)))
          (good.rise k (omega (arith, ticks_long)))

      none : End
      none = record { tick = 0; task = 0; cycles = 0 }

      each : (k : ℕ) → k < length es → get_or (ends_of es) k none ≡ line_at (ticks_in es) (tasks_in es) (cycles_in es) k
      each k h = get_or-map (λ (e : RunEnd). record { tick = e.tick.0; task = e.task; cycles = e.cycles.0 }) es k (record { tick = ticks 0; task = 0; cycles = cycles 0 }) none h ∙ rw (tick_at k h, task_at k h, cycles_at k h) refl

      listed : ends_of es ≡ up_to (length (ticks_in es)) (line_at (ticks_in es) (tasks_in es) (cycles_in es))
      listed =
          sym (up_to_get_d (ends_of es) (length es) none (length-map es _))
          ∙ up_to-ext (length es) _ _ each
          ∙ ap (λ m. up_to m (line_at (ticks_in es) (tasks_in es) (cycles_in es))) (sym ticks_long)

-- the first n places of the report's array, lent and back
module _ (n : ℕ) (h : n ≤ 16) where
  pub zeros_long : length {A = ℕ} (take n (replicate 16 0)) ≡ n
  zeros_long = length-take-le n (replicate 16 0) (omega arith) ∙ omega arith

  zeros_at : (i : ℕ) → i < n → ◌≡◌ {A = ℕ} (get_or (take n (replicate 16 0)) i 0) 0
  zeros_at i l = get_or-take n (replicate 16 0) i 0 (omega arith) ∙ get_or-replicate 16 i 0 0 (omega arith)

  -- what an enter makes of it is the report of the tick, for which its cursor stands
  module _ (ends : List End) (when who cycles : List ℕ) (b : Lines ends n when who cycles) (t next : ℕ) (c : Stands (λ i. get_or when i 0) (length when) t next) (ys : List ℕ) (back : ys ≡ entered when who cycles t next (take n (replicate 16 0))) where
    back_long : length ys ≡ n
    unfolding entered
    back_long = ap length back ∙ entered_long who cycles _ next (take n (replicate 16 0)) ∙ zeros_long

    pub report_is : take n (put_mid 0 n (replicate 16 0) ys) ≡ report_of ends n t
    report_is =
        take_at ys (drop n (replicate 16 0)) n (back_long ∙ omega arith)
        ∙ back
        ∙ entered_is when who cycles t b.rise (λ k l. (b.exists k l).0) next n (take n (replicate 16 0)) c zeros_long zeros_at
        ∙ ap (λ (l : List End). report_of l n t) (sym b.listed)
