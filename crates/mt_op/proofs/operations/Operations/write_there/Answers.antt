use Rattle.std.proofs.Common.{◌∙◌, ◌+◌, ◌-◌, inl, inr, refl, sym, subst, ap, arith}
use Rattle.std.specs.Prelude.{Contains, Err}
use Rattle.std.proofs.lemmas.List.Elements.{Contains-get_or}
use Rattle.std.proofs.lemmas.Result.{err_from_is_err_and}
use Rattle.mt_base.specs.declared.refusal.Refusal.TheVariants as refusal
use Rattle.mt_log.specs.Batch.{joined}
use Rattle.mt_log.specs.Seen.{LogSeen, bytes_in}
use Rattle.mt_pool.proofs.Logged.{longer_appended}
use Rattle.mt_pool.proofs.Reading.{reads_nothing}
use Rattle.mt_op.proofs.LogSeen.{same_appended}
use Rattle.mt_pool.specs.Views.{view}
use Rattle.mt_pool.specs.Writes.{due_image}
use Rattle.mt_space.specs.declared.changes.PageChange.{PageChange}
use Rattle.mt_op.specs.World.{changes_in}
use Rattle.mt_op.specs.Stepping.{GoesAhead}
use Rattle.mt_op.proofs.Ahead.{idle_ahead}
use Rattle.mt_op.proofs.Budget.{area_small, write_fits, write_within, write_left}
use Rattle.mt_op.proofs.Faulting.{no_fault, no_fault_ok}
use Rattle.mt_op.proofs.Right.{right_rests, with_store}
use Rattle.mt_op.proofs.Work.{writing_work}
use Rattle.mt_op.proofs.Written.{writes_goes, next_short, store_writes, store_stays, writes_right}
use Rattle.mt_op.proofs.Known.{known}
use Rattle.mt_op.proofs.Known.{writes_on}
use Rattle.mt_op.proofs.operations.Operations.write_there.Goals as goal

pub write-requires-clause-short : goal.write-requires-clause-short
write-requires-clause-short g c =
    next_short g.D.Device c.args.self.now c.args.scope.now c.index-change.result.now c.requires.right c.requires.writing c.requires.more c.index-change.ensures

pub write-requires-clause-fits : goal.write-requires-clause-fits
write-requires-clause-fits g c =
    let short = next_short g.D.Device c.args.self.now c.args.scope.now c.index-change.result.now c.requires.right c.requires.writing c.requires.more c.index-change.ensures in
    write_fits c.args.scope.now _ _ _ c.requires.writing c.requires.budget c.requires.more c.requires.room short.size

pub returns-in_err-write : goal.returns-in_err-write
returns-in_err-write g c = let d = g.D.Device in let f = c.in_err-write.ensures in let o = c.args.self.now in let s = c.args.scope.now in
    let p = err_from_is_err_and c.from_residual.result c.from_residual.ensures.1 in
    let is = p.1 ∙ ap Err (p.2 ∙ f.steps.only_memory) in
    let n = with_store o c.write.new.self in
    let same = same_appended o.store.log c.write.new.self.log f.steps.log in
    record {
      ahead = subst (GoesAhead d o n s s) (sym is)
          (idle_ahead d o n s
          (λ opening relations counters right. right_rests d opening relations counters o n right (f.keeps.kept opening right.kept) (store_stays d opening o c.write.new.self f.device f.steps.pool same) refl refl)
          (λ opening. store_stays d opening o c.write.new.self f.device f.steps.pool same) f.keeps.moments (reads_nothing d _ _ f.device) (ap bytes_in f.steps.log) (ap (λ (x : LogSeen). x.end - x.start) f.steps.log) (ap (λ (x : LogSeen). joined x.batches) f.steps.log) refl refl (Err refusal.NoMemory) tt c.requires.writing c.requires.budget
          (λ is. absurd cc) (inl refl) (no_fault _ _ (Err refusal.NoMemory) refl (ap d.faults f.device)));
      device = f.device;
      map = refl;
      stage = c.requires.writing;
      changes = refl;
      never = λ flush. absurd cc;
      only_memory = rw is refl;
    }

pub overflow_add-scope : goal.overflow_add-scope
overflow_add-scope g c = let used = c.used-before.ensures in let small = area_small c.args.self.now.store.log in omega arith

pub overflow_sub-scope : goal.overflow_sub-scope
overflow_sub-scope g c =
    let short = next_short g.D.Device c.args.self.now c.args.scope.now c.index-change.result.now c.requires.right c.requires.writing c.requires.more c.index-change.ensures in
    let within = write_within c.args.scope.now _ _ _ c.requires.writing c.requires.budget c.requires.more short.size c.in_ok-write.ensures.steps.used in
    omega arith

pub returns : goal.returns
returns g c = let f = c.in_ok-write.ensures in let seen = g.D.Device.seen in let may_leave = g.D.Device.may_leave in
    let o = c.args.self.now in let s = c.args.scope.now in let d = c.index-change.result.now in
    let more = longer_appended o.store.log c.write.new.self.log _ f.steps.log in
    let short = next_short g.D.Device o s d c.requires.right c.requires.writing c.requires.more c.index-change.ensures in
    let t = record s { left = s.left + c.used-before.result - c.used.result; written = s.written + 1; standing = s.standing + 1 } in
    record {
      ahead = record {
        steps = λ opening relations counters right k few some. let m = store_writes g.D.Device opening o c.write.new.self s d f.device f.there f.steps.edited f.others more in (
          writes_right g.D.Device opening relations counters o c.write.new.self s d m right k c.requires.writing c.requires.more c.index-change.ensures (f.keeps.kept opening right.kept),
          writes_goes relations counters _ _ s t d m right.sound k c.requires.writing c.requires.more c.index-change.ensures
              (record { op = record { txn = refl; number = refl; op = refl; undoes = refl; split = refl; total = refl }; room = refl; guards = refl; seen = refl; changes = refl; reply = refl }) c.requires.writing refl refl,
        );
        moments = f.keeps.moments;
        log = let within = write_within s _ _ _ c.requires.writing c.requires.budget c.requires.more short.size f.steps.used in omega arith;
        area = ap (λ (x : LogSeen). x.end - x.start) f.steps.log;
        durable = ap (λ (x : LogSeen). joined x.batches) f.steps.log;
        budget = write_left s t _ _ _ c.requires.writing c.requires.budget c.requires.more short.size f.steps.used refl refl c.requires.writing refl (λ i. (s.left + c.used-before.ensures i) - c.used.ensures i);
        claims = refl;
        full = λ is. absurd cc;
        went = λ is. refl;
        stage = inr c.requires.writing;
        work = writing_work s t c.requires.writing c.requires.writing refl refl c.requires.more;
        records = let page = view o.store.pool (seen o.store.device) d.page in
            inr (d, due_image o.store.pool d.page page, page, subst (λ (x : PageChange). Contains (changes_in s) x) (sym c.index-change.ensures) (Contains-get_or (changes_in s) s.written d c.requires.more), more);
        locks = refl;
        room = refl;
        asks = tt;
        err = tt;
        flush = λ is. absurd cc;
        why = tt;
        faults = no_fault_ok _ _ _ (ap g.D.Device.faults f.device);
        reads = reads_nothing g.D.Device _ _ f.device;
      };
      device = f.device;
      map = refl;
      stage = c.requires.writing;
      changes = refl;
      never = λ is. absurd cc;
      only_memory = tt;
    }

pub write-requires-clause-open : goal.write-requires-clause-open
write-requires-clause-open g c = (known g.D.Device c.args.self.now c.args.scope.now c.requires.right).kept

pub write-requires-clause-numbers : goal.write-requires-clause-numbers
write-requires-clause-numbers g c = let k = known g.D.Device c.args.self.now c.args.scope.now c.requires.right in (k.txn, k.op)

pub write-requires-clause-unfinished : goal.write-requires-clause-unfinished
write-requires-clause-unfinished g c = (writes_on g.D.Device c.args.self.now c.args.scope.now c.requires.right c.requires.writing).unfinished

pub overflow_add-scope-3 : goal.overflow_add-scope-3
overflow_add-scope-3 g c = let on = writes_on g.D.Device c.args.self.now c.args.scope.now c.requires.right c.requires.writing in let all = on.all_stand in let more = c.requires.more in let few = on.few in omega arith
