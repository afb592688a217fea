-- Rule 4 for the jobs not reached: with nothing left each gets nothing, so that settling them changes nothing, and all that is asked is that their entries are 0.
use mathlib.Core.Path.{◌≡◌, refl, sym, ap, ◌∙◌}
use mathlib.Core.Bool.{Bool, true, false}
use mathlib.Core.List.{List, [], ◌∷◌}
use Prim.Native.Nat.{ℕ, ◌+◌}
use native.Mathlib.Nat.{add-zero, sub-zero}
use lib.Dec.{eqb}
use lib.ListN.{get_or, set}
use lib.Seq.{set-get_or}
use borrow.Author.Tests.{eq-eqb}
use Rattle.units.specs.Units.{cycles}
use Rattle.rules.specs.declared.Tasks.{Tasks}
use Rattle.rules.specs.declared.Job.{Job}
use Rattle.rules.specs.declared.Settling.{Settling}
use Rattle.rules.specs.Words.{every}
use Rattle.rules.specs.State.{job_at, put_at}
use Rattle.rules.specs.Settlement.{allowed, granted, is_cut, is_over, settle_at, settle_all, all_allowed}
use Rattle.rules.proofs.Lists.{every_first, every_rest}
use Rattle.rules.proofs.Shares.{nothing_left}

-- the places that wait hold no mark and no cycles yet
pub record Untouched (waits : ℕ → Bool) (sofar : Settling) : Type 0 where
  pub unmarked : (i : ℕ) → waits i ≡ true → get_or sofar.jobs.over i false ≡ false
  pub unpaid : (i : ℕ) → waits i ≡ true → get_or sofar.grants i (cycles 0) ≡ cycles 0

-- with nothing left a job gets nothing, and its entry must be 0
module _ (left u : ℕ) (j : Job) (none : left ≡ 0) where
  spent : eqb left 0 ≡ true
  spent = eq-eqb left 0 none

  none_allowed : allowed left u j ≡ eqb u 0
  unfolding allowed
  none_allowed = nothing_left left u _ _ _ spent

  none_granted : granted left u j ≡ 0
  unfolding granted
  none_granted = nothing_left left u _ _ _ spent

  none_over : is_over left u j ≡ false
  unfolding is_over
  none_over = nothing_left left u _ _ _ spent

  none_cut : is_cut left u j ≡ false
  unfolding is_cut
  none_cut = nothing_left left u _ _ _ spent

module _ (ts : Tasks) (sofar : Settling) (none : sofar.left.0 ≡ 0) where
  -- storing what is there changes nothing
  settle_none : (i u : ℕ) → get_or sofar.jobs.over i false ≡ false → get_or sofar.grants i (cycles 0) ≡ cycles 0 → settle_at ts i u sofar ≡ sofar
  unfolding settle_at put_at job_at
  settle_none i u unmarked unpaid =
      let j = job_at ts sofar.jobs i in
      let left = sofar.left.0 in
      let runs : set sofar.jobs.run i (cycles ((get_or sofar.jobs.run i (cycles 0)).0 + 0)) ≡ sofar.jobs.run =
      ap (λ n. set sofar.jobs.run i (cycles n)) (add-zero _) ∙ set-get_or sofar.jobs.run i (cycles 0) in
      let marks : set sofar.jobs.over i false ≡ sofar.jobs.over =
      ap (set sofar.jobs.over i) (sym unmarked) ∙ set-get_or sofar.jobs.over i false in
      let grants : set sofar.grants i (cycles 0) ≡ sofar.grants =
      ap (set sofar.grants i) (sym unpaid) ∙ set-get_or sofar.grants i (cycles 0) in
      rw (none_granted left u j none, none_over left u j none, none_cut left u j none, runs, marks, grants, add-zero, sub-zero)

  module _ (report : List ℕ) (waits : ℕ → Bool) (untouched : Untouched waits sofar) where
    settle_waits : (i : ℕ) → waits i ≡ true → settle_at ts i (get_or report i 0) sofar ≡ sofar
    settle_waits i w = settle_none i (get_or report i 0) (untouched.unmarked i w) (untouched.unpaid i w)

    pub spent_allowed : (o : List ℕ) → every waits o ≡ true → all_allowed ts report o sofar ≡ every (λ i. eqb (get_or report i 0) 0) o
    unfolding all_allowed every
    spent_allowed [] e = refl
    spent_allowed (i ∷ o) e =
        rw
        (settle_waits i (every_first waits i o e), none_allowed sofar.left.0 (get_or report i 0) (job_at ts sofar.jobs i) none, spent_allowed o (every_rest waits i o e))

    pub spent_settled : (o : List ℕ) → every waits o ≡ true → settle_all ts report o sofar ≡ sofar
    unfolding settle_all
    spent_settled [] e = refl
    spent_settled (i ∷ o) e =
        rw (settle_waits i (every_first waits i o e)) (spent_settled o (every_rest waits i o e))
