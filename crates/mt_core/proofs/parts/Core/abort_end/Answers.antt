use mathlib.Core.Logic.{∥∥₁_elim}
use Rattle.std.proofs.Props.{props}
use Rattle.std.specs.Prelude.{[], None}
use Rattle.mt_live.proofs.Alone.{put_other}
use Rattle.mt_core.proofs.Members.{states_put}
use Rattle.mt_core.specs.Runs.{state_in, is_working}
use Rattle.std.proofs.Common.{rules, ◌≡◌, ◌∙◌, ◌≤◌, ◌-◌, false, refl, sym, ap, subst, arith}
use Rattle.std.specs.Prelude.{OnErr}
use Rattle.std.proofs.lemmas.Result.{err_from_is_err_and}
use Rattle.mt_core.specs.Consistent.{state_of, IsIn}
use Rattle.mt_core.specs.declared.parts.Core.{Core}
use Rattle.mt_core.proofs.Aborted.{ended_in, none_pending}
use Rattle.mt_core.proofs.Calling.{txn_low}
use Rattle.mt_core.proofs.Enough.{end_enough}
use Rattle.mt_core.proofs.Leaving.{gone_in, gone_closed}
use Rattle.mt_core.proofs.Resting.{rests_in}
use Rattle.mt_core.proofs.Underway.{runs_none}
use Rattle.mt_live.specs.Lives.{member_of}
use Rattle.mt_frame.specs.declared.records.Record.TheVariants as record_of
use Rattle.mt_log.specs.Batch.{joined}
use Rattle.mt_log.specs.Seen.{LogSeen, bytes_in}
use Rattle.mt_pool.proofs.Logged.{longer_used}
use Rattle.mt_log.specs.Words.{appended}
use Rattle.mt_core.proofs.Sounds.{opening_of, named_of, unended_of}
use Rattle.mt_core.proofs.Aborted.{may_end}
use Rattle.mt_pool.specs.Views.{pages}
use Rattle.mt_core.specs.Work.{abort_steps, effects_left, undo_steps}
use Rattle.mt_core.proofs.Undoing.{undo_idle, none_left}
use Rattle.mt_core.proofs.Lasting.{lasts_same}
use Rattle.mt_core.proofs.Restarts.{aborted, rests_same}
use Rattle.std.proofs.Common.{refl}
use Rattle.mt_core.proofs.parts.Core.abort_end.Goals as goal

pub append-requires-clause-fits : goal.append-requires-clause-fits
append-requires-clause-fits g c = ∥∥₁_elim c.requires.safe (hlevel props) (λ (origin, base, safe).
    let enough = end_enough g.D.Device origin base c.args.self.now c.args.txn safe.fit c.requires.at_work in let log = safe.fit.log in omega arith)

pub overflow_sub-self : goal.overflow_sub-self
overflow_sub-self g c = ∥∥₁_elim c.requires.safe (hlevel props) (λ (origin, base, safe). end_enough g.D.Device origin base c.args.self.now c.args.txn safe.fit c.requires.at_work)

pub returns-in_err-append-clause-err : goal.returns-in_err-append-clause-err
returns-in_err-append-clause-err g c = λ origin base safe. let p = err_from_is_err_and c.from_residual.result c.from_residual.ensures.1 in let k = c.args.self.now in let e = c.append.ensures in let f = c.in_err-append.ensures.steps in
    let same = ap bytes_in f.err in
    subst (λ r. OnErr r (IsIn g.D.Device origin base (state_of k base) (record k { operations = c.append.new.self }))) (sym p.1)
    (rests_in g.D.Device origin base k (record k { operations = c.append.new.self }) safe (e.right origin.pages origin.relations origin.counters safe.fit.right) (f.rests origin.pages) e.claimed (omega arith) (ap (λ (x : LogSeen). x.end - x.start) f.err))

pub returns-clause-gone : goal.returns-clause-gone
returns-clause-gone g c = λ origin base safe. let k = c.args.self.now in let e = c.append.ensures in let f = c.in_ok-append.ensures.steps in let m = c.leave.ensures in
    let seen = g.D.Device.seen in let may_leave = g.D.Device.may_leave in
    let enough = end_enough g.D.Device origin base k c.args.txn safe.fit c.requires.at_work in
    let idle = runs_none k.running.items c.args.txn c.requires.idle in
    let z : Core g.row.D.Denot = record k { live = c.leave.new.self; locks = c.release.new.self; escrow = c.leave-2.new.self; reserved = k.reserved - 128 } in
    let closed : is_working (member_of c.leave.new.self.members c.args.txn) ≡ false = ap is_working (m.member c.args.txn) ∙ gone_closed (member_of k.live.members) c.args.txn in
    let gone_now = gone_in g.D.Device origin base k z c.args.txn safe c.requires.at_work c.requires.idle c.requires.nothing m.standing m.member m.begun m.count c.release.ensures.released c.leave-2.ensures.committed
    (c.leave-2.ensures.pending ∙ sym (none_pending origin.first (state_of k base) c.args.txn safe.fit.kept idle c.requires.nothing)) c.leave-2.ensures.aside (omega arith) in
    let low = txn_low g.D.Device origin base k c.args.txn safe.fit c.requires.at_work in
    let log = safe.fit.log in let now = longer_used k.operations.store.log c.append.new.self.store.log (record_of.AbortEnd c.args.txn) f.log in let area = ap (λ (x : LogSeen). x.end - x.start) f.log in
    let ended_now = ended_in g.D.Device origin base z (record z { operations = c.append.new.self }) c.args.txn gone_now.consistent closed (subst (λ n. c.args.txn ≤ n) (sym m.begun) low) c.requires.idle
    (e.right origin.pages origin.relations origin.counters safe.fit.right) (f.notes origin.pages) (λ u ku apart. e.others origin.pages origin.relations origin.counters u ku apart) e.claimed (omega arith) in
    record { consistent = ended_now.consistent; state = gone_now.state ∙ ended_now.state }

pub append-requires-clause-kept : goal.append-requires-clause-kept
append-requires-clause-kept g c = opening_of g.D.Device c.args.self.now c.requires.safe

pub append-requires-clause-grammar : goal.append-requires-clause-grammar
append-requires-clause-grammar g c = named_of g.D.Device c.args.self.now c.requires.safe c.args.txn c.requires.at_work

pub append-requires-clause-rules : goal.append-requires-clause-rules
append-requires-clause-rules g c = may_end (appended c.args.self.now.operations.store.log) c.args.txn (named_of g.D.Device c.args.self.now c.requires.safe c.args.txn c.requires.at_work).0 (unended_of g.D.Device c.args.self.now c.requires.safe c.args.txn c.requires.at_work)

pub returns-clause-ends : goal.returns-clause-ends
returns-clause-ends g c = record {
  ended = (c.in_ok-append.ensures.steps.notes (λ p. [])).records;
  is_out = search rules;
  none_left = let k = c.args.self.now in undo_idle k c.args.txn c.requires.idle ∙ none_left (pages k.operations.store.pool) c.args.txn k.live.standing c.requires.nothing;
}

pub returns-clause-keeps : goal.returns-clause-keeps
returns-clause-keeps g c = record {
  others = λ u apart. let k = c.args.self.now in states_put k.live.members c.leave.new.self.members c.args.txn None c.leave.ensures.member u ∙ put_other (state_in k.live.members) c.args.txn None u apart;
  running = search rules;
  commits = search rules;
  numbers = search rules;
  locks = (c.in_ok-append.ensures.steps.notes (λ p. [])).locks;
  durable = search rules;
  device = search rules;
}

pub returns-in_err-append-clause-err_left : goal.returns-in_err-append-clause-err_left
returns-in_err-append-clause-err_left g c = let k = c.args.self.now in let p = err_from_is_err_and c.from_residual.result c.from_residual.ensures.1 in
    let n : Core g.row.D.Denot = record k { operations = c.append.new.self } in
    let size = (c.in_err-append.ensures.steps.rests (λ p. [])).area.total in
    let same : undo_steps n c.args.txn ≡ undo_steps k c.args.txn = λ i. abort_steps (size i) k.running.items c.args.txn (effects_left (size i) k.live.standing c.args.txn) in
    let few : undo_steps n c.args.txn ≤ undo_steps k c.args.txn = omega arith in
    subst (λ r. OnErr r (undo_steps n c.args.txn ≤ undo_steps k c.args.txn)) (sym p.1) few

pub returns-in_err-append-clause-restartable : goal.returns-in_err-append-clause-restartable
returns-in_err-append-clause-restartable g c = λ origin base later safe_k safe_n r. let k = c.args.self.now in
    rests_same g.D.Device origin k (record k { operations = c.append.new.self }) base later safe_k safe_n (c.in_err-append.ensures.steps.rests origin.pages) (ap (λ (x : LogSeen). x.end - x.start) c.in_err-append.ensures.steps.err)
    (lasts_same k (record k { operations = c.append.new.self }) (ap (λ (x : LogSeen). joined x.batches) c.in_err-append.ensures.steps.err)) (record { book = refl; commits = refl }) refl r

pub returns-clause-restartable : goal.returns-clause-restartable
returns-clause-restartable g c = λ origin base later safe_k safe_n r. let k = c.args.self.now in let f = c.in_ok-append.ensures.steps in let m = c.leave.ensures in
    let n : Core g.row.D.Denot = record k { operations = c.append.new.self; live = c.leave.new.self; locks = c.release.new.self; escrow = c.leave-2.new.self; reserved = k.reserved - 128 } in
    aborted g.D.Device origin k n base later c.args.txn safe_k safe_n (record { total = (f.notes origin.pages).area.total; bytes = ap (λ (x : LogSeen). x.end - x.start) f.log; lasts = lasts_same k n (ap (λ (x : LogSeen). joined x.batches) f.log) }) (f.notes origin.pages).records m.member m.count m.standing (record { book = refl; commits = refl }) c.requires.at_work c.requires.nothing r

pub returns-in_err-append-clause-keeps : goal.returns-in_err-append-clause-keeps
returns-in_err-append-clause-keeps g c = record {
  others = search rules;
  running = search rules;
  commits = search rules;
  numbers = search rules;
  locks = (c.in_err-append.ensures.steps.rests (λ p. [])).locks;
  durable = search rules;
  device = search rules;
}
