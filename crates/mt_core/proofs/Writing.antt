-- A step of an operation appends the records of one page at most, or its end.
use Rattle.std.proofs.Common.{◌≡◌, ◌≤◌, ◌+◌, ◌++◌, ◌∷◌, [], ℕ, zero, suc, List, length, true, inl, inr, Option, Some, None, Result, Ok, Err, refl, sym, ap, ◌∙◌, arith, append-nil, length-append}
use Rattle.std.specs.Prelude.{All}
use Rattle.std.proofs.lemmas.Bool.{eq-eqb}
use Rattle.mt_base.specs.declared.edits.Edit.{Edit}
use Rattle.mt_base.specs.declared.refusal.Refusal.{Refusal}
use Rattle.mt_area_rules.specs.History.{is_of_page}
use Rattle.mt_frame.specs.PageRecords.{change_records}
use Rattle.mt_frame.specs.declared.records.LoggedOp.{LoggedOp}
use Rattle.mt_frame.specs.declared.records.Record.{Record}
use Rattle.mt_model.specs.declared.operations.Reply.{Reply}
use Rattle.mt_op.specs.Records.{dropped_with, end_of, end_with, KeepsRecords, ReportsDropped}
use Rattle.mt_op.specs.declared.answers.Stepped.{Stepped}
use Rattle.mt_op.specs.declared.answers.Stepped.TheVariants as stepped
use Rattle.mt_op.specs.declared.answers.TakenBack.{TakenBack}
use Rattle.mt_op.specs.declared.answers.TakenBack.TheVariants as taken
use Rattle.mt_op.specs.declared.scope.OpScope.{OpScope}
use Rattle.mt_steps.specs.Logged.{logged_of}
use Rattle.mt_core.specs.Writes.{BackWrites, WritesOnce}

page_records : (txn op page : ℕ) (image : Option (List ℕ)) (old new : List ℕ) (es : List Edit) → All (λ (r : Record). is_of_page page r ≡ true) (change_records txn op page image old new es)
page_records txn op page image old new [] k d lt = absurd (omega (arith, lt))
page_records txn op page image old new (e ∷ es) zero d lt = eq-eqb page page refl
page_records txn op page image old new (e ∷ es) (suc k) d lt = page_records txn op page None old new es k d (omega (arith, lt))

-- an end is a record at most
pub end_short : (s : OpScope) (reply : Reply) (old new : List Record) → new ≡ old ++ end_of s reply → length new ≤ length old + 1
end_short s reply old new is = go (logged_of s.op reply) is
  where
    go : (o : Option LoggedOp) → new ≡ old ++ end_with s.txn s.number s.undoes o → length new ≤ length old + 1
    go None is = let all = ap length is in let parts = length-append old [] in omega (arith, all, parts)
    go (Some done) is = let all = ap length is in let parts = length-append old (end_with s.txn s.number s.undoes (Some done)) in omega (arith, all, parts)

pub writes_once : (s : OpScope) (old new : List Record) (r : Result Stepped Refusal) → KeepsRecords s old new r → ((first second : Reply) → r ≡ Ok (stepped.Ready first second) → length new ≤ length old + 1) → WritesOnce old new r
writes_once s old new (Ok stepped.Went) (inl same) ended = (0, [], same ∙ sym (append-nil old), λ k d lt. absurd (omega arith))
writes_once s old new (Ok stepped.Went) (inr (c, image, bytes, has, is)) ended = (c.page, _, is, page_records s.txn s.number c.page image bytes _ c.edits.items)
writes_once s old new (Ok (stepped.Wait holder)) same ended = same
writes_once s old new (Ok (stepped.Again holder)) same ended = same
writes_once s old new (Ok stepped.Flush) same ended = same
writes_once s old new (Ok (stepped.Ready first second)) any ended = ended first second refl
writes_once s old new (Err why) same ended = same

-- and so is what says that an operation was taken back
drop_short : (txn number standing : ℕ) (old new : List Record) → new ≡ old ++ dropped_with txn number standing → length new ≤ length old + 1
drop_short txn number zero old new is = let all = ap length is in let parts = length-append old [] in omega (arith, all, parts)
drop_short txn number (suc standing) old new is =
    let all = ap length is in let parts = length-append old (dropped_with txn number (suc standing)) in omega (arith, all, parts)

pub back_writes : (s : OpScope) (old new : List Record) (r : Result TakenBack Refusal) → ReportsDropped s old new r → BackWrites old new r
back_writes s old new (Ok taken.Clear) is = drop_short s.txn s.number s.standing old new is
back_writes s old new (Ok taken.More) is = is
back_writes s old new (Ok taken.Flush) is = is
back_writes s old new (Err why) is = is
