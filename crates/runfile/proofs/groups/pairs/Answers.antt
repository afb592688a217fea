-- The task or speed lines that `pairs` reads: what the whole group is from the first line on, it is from the next line on with those read so far.
use Rattle.std.proofs.Common.{ℕ, List, [], ◌∷◌, ◌++◌, sym, refl, ap, ap₂, ◌∙◌, ◌-◌, ◌^◌, length, arith}
use Rattle.runfile.specs.declared.Pairs.{Pairs}
use Rattle.runfile.specs.Groups.{no_pairs, more_pairs, pairs_from}
use Rattle.runfile.proofs.Pairing.{past_word, group_ends, line_too_many, line_wrong, line_taken}
use Rattle.runfile.proofs.groups.pairs.Goals as goal

-- two columns of numbers as a group of lines
pairs_in : List ℕ → List ℕ → Pairs
pairs_in xs ys = record { firsts = record { items = xs }; seconds = record { items = ys } }

pub loop-firsts-init : goal.loop-firsts-init
unfolding no_pairs pairs_in
loop-firsts-init c =
    let a = c.args in
    let one = c.new-firsts.ensures in
    let two = c.new-seconds.ensures in
    record {
      few = rw one (omega arith);
      both = rw (one, two) refl;
      rest = ap (λ (k : ℕ). pairs_from a.word.now a.text.now k a.at no_pairs) (omega (arith, ap length one))
          ∙ sym (ap₂ (λ (xs ys : List ℕ). pairs_from a.word.now a.text.now (a.most - length c.new-firsts.result.items) a.at (pairs_in xs ys)) one two);
      place = omega arith;
    }

pub returns-then-len-most : goal.returns-then-len-most
returns-then-len-most c =
    let a = c.args in
    let s = c.loop-firsts in
    let long = c.len.ensures.value in
    sym (s.invariant.rest ∙ line_too_many a.word.now a.text.now s.next _ a.most _ (omega arith) (sym c.loop-firsts-test.ensures))

pub overflow_add-next : goal.overflow_add-next
overflow_add-next c =
    let a = c.args in
    record { fits = past_word a.text.now c.loop-firsts.next (2 ^ 64) a.word.now (omega arith) (omega arith) (sym c.loop-firsts-test.ensures) }

pub returns-in_err-line : goal.returns-in_err-line
returns-in_err-line c =
    let a = c.args in
    let s = c.loop-firsts in
    c.from_residual.ensures ∙ sym (s.invariant.rest ∙ line_wrong a.word.now a.text.now s.next _ (sym c.loop-firsts-test.ensures) c.in_err-line.ensures _ refl)

pub loop-firsts-preserved : goal.loop-firsts-preserved
unfolding more_pairs pairs_in
loop-firsts-preserved c =
    let a = c.args in
    let s = c.loop-firsts in
    let long = c.len.ensures.value in
    let one = c.push.ensures in
    let two = c.push-in-loop-firsts.ensures in
    record {
      few = omega arith;
      both = omega arith;
      rest = s.invariant.rest
          ∙ line_taken a.word.now a.text.now s.next _ (sym c.loop-firsts-test.ensures) c.in_ok-line.ensures a.most _ (omega arith) refl
          ∙ ap (λ (k : ℕ). pairs_from a.word.now a.text.now k c.in_ok-line.line.next (pairs_in (s.firsts.items ++ (c.in_ok-line.line.first ∷ [])) (s.seconds.items ++ (c.in_ok-line.line.second ∷ [])))) (omega arith)
          ∙ ap₂ (λ (xs ys : List ℕ). pairs_from a.word.now a.text.now (a.most - length c.push.new.self.items) c.in_ok-line.line.next (pairs_in xs ys)) (sym one.items) (sym two.items);
      place = omega arith;
    }

pub returns : goal.returns
returns c =
    let a = c.args in
    let s = c.loop-firsts in
    sym (s.invariant.rest ∙ group_ends a.word.now a.text.now s.next _ _ (sym c.loop-firsts-test.ensures))
