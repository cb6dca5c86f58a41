use Rattle.std.proofs.Common.{◌≡◌, ◌∙◌, ◌+◌, ◌-◌, ◌∷◌, ◌++◌, ℕ, suc, List, take, drop, ap, sym, subst, arith}
use Rattle.std.specs.Prelude.{Ok}
use Rattle.mt_steps.specs.Plans.{IsGood}
use Rattle.mt_replay.specs.Undoing.{Finds}
use Rattle.std.proofs.lemmas.List.{drop_more}
use Rattle.mt_replay.specs.Losers.{HasUndone}
use Rattle.mt_replay.specs.declared.losers.Loser.{Loser}
use Rattle.mt_replay.proofs.Inverses.{split_at, undone_then}
use Rattle.mt_replay.proofs.undo_pass.Restored.undo_all.Goals as goal

pub returns-clause-undone : goal.returns-clause-undone
returns-clause-undone c =
    let done : c.loop-i.i ≡ 0 = let le = c.loop-i-test.false in omega arith in
    subst (λ (n : ℕ). HasUndone c.args.self.pages.items (drop n c.args.losers.now) c.loop-i.restored.pages.items) done c.loop-i.invariant.done

pub loop-i-preserved : goal.loop-i-preserved
loop-i-preserved c =
    let losers = c.args.losers.now in
    let i = c.loop-i.i - 1 in
    let some = c.loop-i-test.true in
    let inside = c.loop-i.invariant.inside in
    let next : i + 1 ≡ c.loop-i.i = omega arith in
    let l = c.index-losers-i.result in
    let rest : drop i losers ≡ l ∷ drop c.loop-i.i losers = drop_more losers i l (omega arith) ∙ (λ k. sym c.index-losers-i.is k ∷ drop (next k) losers) in
    record {
      inside = omega arith;
      done = subst (λ (ls : List Loser). HasUndone c.args.self.pages.items ls c.undo.new.self.pages.items) (sym rest)
          (undone_then c.args.self.pages.items c.loop-i.restored.pages.items c.undo.new.self.pages.items l (drop c.loop-i.i losers) c.loop-i.invariant.done (c.undo.ensures.undone (c.in_ok-undo.was ∙ ap Ok c.if-not-branch.false)));
    }

pub returns-then-not-branch-clause-bad : goal.returns-then-not-branch-clause-bad
returns-then-not-branch-clause-bad c = λ at is.
    let losers = c.args.losers.now in
    let old = c.args.self.pages.items in
    let i = c.loop-i.i - 1 in
    let some = c.loop-i-test.true in
    let inside = c.loop-i.invariant.inside in
    let next : suc i ≡ c.loop-i.i = omega arith in
    let l = c.index-losers-i.result in
    let count = c.loop-i.invariant.done.count in
    record {
      front = take i losers;
      loser = l;
      behind = drop c.loop-i.i losers;
      is = split_at losers i l (omega arith) c.index-losers-i.is ∙ ap (λ (n : ℕ). take i losers ++ l ∷ drop n losers) next;
      place = cc;
      missed = λ relations counters f first good.
          let m = c.loop-i.invariant.done.undone relations counters f first good in (
            m.0,
            m.3,
            λ b finds.
                c.undo.ensures.missed (c.in_ok-undo.was ∙ ap Ok c.if-not-branch.true) relations counters m.0 m.1 (subst (λ (n : ℕ). IsGood relations counters n m.0) (sym count) m.2) b
                (subst (λ (n : ℕ). Finds relations counters n m.0 b l.done) (sym count) finds),
          );
    }
