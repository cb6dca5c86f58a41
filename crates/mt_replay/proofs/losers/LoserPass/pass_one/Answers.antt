use Rattle.std.proofs.Common.{◌≡◌, ◌∷◌, ◌==◌, ◌&&◌, ◌||◌, [], ℕ, refl, sym, subst}
use Rattle.std.specs.BTreeSet.{contains}
use Rattle.mt_area_rules.specs.Known.{pair_cmp}
use Rattle.mt_frame.specs.declared.records.Record.{Record}
use Rattle.mt_frame.specs.declared.records.Record.TheVariants.{Commit}
use Rattle.mt_replay.specs.Losers.{PassesRecords}
use Rattle.mt_replay.specs.declared.losers.LoserPass.{LoserPass}
use Rattle.mt_replay.proofs.Losing.{passes_ended, passes_inverse}
use Rattle.mt_replay.proofs.losers.LoserPass.pass_one.Goals as goal

pub returns-in_ok-note_end-in-Commit-clause-passes : goal.returns-in_ok-note_end-in-Commit-clause-passes
returns-in_ok-note_end-in-Commit-clause-passes c =
    let old : LoserPass = c.args.self.now in
    let new : LoserPass = record { losers = old.losers; ended = c.note_end.new.set; undone = old.undone } in
    subst (λ (r : Record). PassesRecords c.args.batch.now (r ∷ []) old new) (sym c.in-Commit.is)
    (passes_ended c.args.batch.now (Commit c.in-Commit.txn) c.in-Commit.txn old new (λ rs. refl) (λ t. refl) (λ t o. refl) refl refl c.in_ok-note_end-in-Commit.ensures)

pub returns-in_ok-note_operation-in-OpEnd-clause-passes : goal.returns-in_ok-note_operation-in-OpEnd-clause-passes
returns-in_ok-note_operation-in-OpEnd-clause-passes c =
    let old : LoserPass = c.args.self.now in
    let new : LoserPass = record { losers = old.losers; ended = old.ended; undone = c.note_operation.new.set } in
    let it = c.in-OpEnd in
    subst (λ (r : Record). PassesRecords c.args.batch.now (r ∷ []) old new) (sym it.is)
    let noted : (t o : ℕ) → contains pair_cmp new.undone (t, o) ≡ (contains pair_cmp old.undone (t, o) || ((it.txn == t) && (it.undoes == o))) =
    subst (λ (n : ℕ). (t o : ℕ) → contains pair_cmp new.undone (t, o) ≡ (contains pair_cmp old.undone (t, o) || ((n == t) && (it.undoes == o)))) c.get.ensures c.in_ok-note_operation-in-OpEnd.ensures.ok in
    (passes_inverse c.args.batch.now it.txn it.op it.undoes it.done old new c.if-undoes-eq0.false refl refl noted)
