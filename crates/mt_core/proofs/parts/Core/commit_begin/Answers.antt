use mathlib.Core.Logic.{∥∥₁_elim}
use Rattle.std.proofs.Props.{props}
use Rattle.std.proofs.Common.{rules, ◌≡◌, ◌∙◌, ◌-◌, ◌<◌, ◌++◌, ◌∷◌, [], List, length, refl, ap, arith, length-append}
use Rattle.std.proofs.lemmas.List.{length_push}
use Rattle.mt_frame.specs.declared.records.Record.{Record}
use Rattle.mt_frame.specs.declared.records.Record.TheVariants as record_of
use Rattle.mt_core.specs.declared.parts.Commit.{Commit}
use Rattle.mt_core.specs.declared.parts.Core.{Core}
use Rattle.mt_core.proofs.Committing.{committing_in}
use Rattle.mt_core.proofs.Enough.{end_enough}
use Rattle.mt_core.proofs.Resting.{rests_in}
use Rattle.mt_core.proofs.Rooms.{rooms_in}
use Rattle.mt_log.specs.Batch.{joined}
use Rattle.mt_log.specs.Seen.{LogSeen, bytes_in}
use Rattle.mt_pool.proofs.Logged.{longer_used}
use Rattle.mt_log.specs.Words.{appended, durable, in_flight, waiting}
use Rattle.mt_core.proofs.Sounds.{opening_of, named_of, unended_of}
use Rattle.mt_core.proofs.Committing.{may_commit}
use Rattle.mt_core.proofs.Calling.{open_some}
use Rattle.mt_core.proofs.Members.{states_set}
use Rattle.mt_live.specs.Lives.{member_of}
use Rattle.mt_live.specs.declared.transactions.TxnState.TheVariants.{Committing}
use Rattle.mt_core.proofs.Lasting.{lasts_same}
use Rattle.mt_core.proofs.Restarts.{committed, open_works, rests_same}
use Rattle.mt_core.proofs.parts.Core.commit_begin.Goals as goal

pub returns-in_err-reserve-2-clause-state : goal.returns-in_err-reserve-2-clause-state
returns-in_err-reserve-2-clause-state g c = λ origin base safe. let k = c.args.self.now in let a = c.reserve.ensures in let b = c.reserve-2.ensures in
    rooms_in g.D.Device origin base k (record k { commits = c.reserve.new.self; book = c.reserve-2.new.self }) safe refl a.items b.items b.len b.capacity

pub append-requires-clause-fits : goal.append-requires-clause-fits
append-requires-clause-fits g c = ∥∥₁_elim c.requires.safe (hlevel props) (λ (origin, base, safe).
    let enough = end_enough g.D.Device origin base c.args.self.now c.args.txn safe.fit (open_works (member_of c.args.self.now.live.members c.args.txn) c.requires.opened) in let log = safe.fit.log in omega arith)

pub returns-in_err-place-clause-state : goal.returns-in_err-place-clause-state
returns-in_err-place-clause-state g c = λ origin base safe. let k = c.args.self.now in let a = c.reserve.ensures in let b = c.reserve-2.ensures in let e = c.append.ensures in let f = c.in_err-place.ensures.steps in
    let z : Core g.row.D.Denot = record k { commits = c.reserve.new.self; book = c.reserve-2.new.self } in
    let roomier = rooms_in g.D.Device origin base k z safe refl a.items b.items b.len b.capacity in
    let same = ap bytes_in f.err in
    let rests = rests_in g.D.Device origin base z (record z { operations = c.append.new.self }) roomier.consistent (e.right origin.pages origin.relations origin.counters safe.fit.right) (f.rests origin.pages) e.claimed (omega arith) (ap (λ (x : LogSeen). x.end - x.start) f.err) in
    record { consistent = rests.consistent; state = roomier.state ∙ rests.state }

pub overflow_sub-self : goal.overflow_sub-self
overflow_sub-self g c = ∥∥₁_elim c.requires.safe (hlevel props) (λ (origin, base, safe).
    let enough = end_enough g.D.Device origin base c.args.self.now c.args.txn safe.fit (open_works (member_of c.args.self.now.live.members c.args.txn) c.requires.opened) in omega arith)

pub returns-clause-state : goal.returns-clause-state
returns-clause-state g c = λ origin base safe. let k = c.args.self.now in let a = c.reserve.ensures in let b = c.reserve-2.ensures in let ok = c.in_ok-reserve-2.ensures in let e = c.append.ensures in let f = c.in_ok-place.ensures.steps in let m = c.set_state.ensures in let p = c.push_reserved.ensures in
    let seen = g.D.Device.seen in let may_leave = g.D.Device.may_leave in
    let it : Commit = record { txn = c.args.txn; place = c.in_ok-place.place } in
    let n : Core g.row.D.Denot = record k { operations = c.append.new.self; live = c.set_state.new.self; commits = c.push_reserved.new.self; book = c.reserve-2.new.self; reserved = k.reserved - 14 } in
    let enough = end_enough g.D.Device origin base k c.args.txn safe.fit (open_works (member_of c.args.self.now.live.members c.args.txn) c.requires.opened) in
    let records = ap (λ (rs : List Record). length rs) (f.notes origin.pages).records in
    let more = length_push (appended k.operations.store.log) (record_of.Commit c.args.txn) in
    let place = f.place in let now = longer_used k.operations.store.log c.append.new.self.store.log (record_of.Commit c.args.txn) f.log in
    let pushed : n.commits.items ≡ k.commits.items ++ it ∷ [] = p.items ∙ (λ i. a.items i ++ it ∷ []) in
    let count = ap (λ (cs : List Commit). length cs) pushed in let count_now = length_push k.commits.items it in
    let room = ok.ok in let len = c.len.ensures in let same_len = b.len in let old = ap (λ (cs : List Commit). length cs) a.items in
    committing_in g.D.Device origin base k n it safe (open_works (member_of c.args.self.now.live.members c.args.txn) c.requires.opened) c.requires.idle (e.right origin.pages origin.relations origin.counters safe.fit.right) (f.notes origin.pages)
    (λ u ku apart. e.others origin.pages origin.relations origin.counters u ku apart) e.claimed (omega arith) (ap (λ (x : LogSeen). x.end - x.start) f.log) m.member m.begun m.standing m.count pushed (omega arith) b.items (omega arith) (omega arith)

pub append-requires-clause-kept : goal.append-requires-clause-kept
append-requires-clause-kept g c = opening_of g.D.Device c.args.self.now c.requires.safe

pub append-requires-clause-grammar : goal.append-requires-clause-grammar
append-requires-clause-grammar g c = named_of g.D.Device c.args.self.now c.requires.safe c.args.txn (open_works (member_of c.args.self.now.live.members c.args.txn) c.requires.opened)

pub append-requires-clause-rules : goal.append-requires-clause-rules
append-requires-clause-rules g c = may_commit (appended c.args.self.now.operations.store.log) c.args.txn (named_of g.D.Device c.args.self.now c.requires.safe c.args.txn (open_works (member_of c.args.self.now.live.members c.args.txn) c.requires.opened)).0 (unended_of g.D.Device c.args.self.now c.requires.safe c.args.txn (open_works (member_of c.args.self.now.live.members c.args.txn) c.requires.opened))

pub returns-clause-begins : goal.returns-clause-begins
returns-clause-begins g c = record {
  place = search rules;
  queue = let it : Commit = record { txn = c.args.txn; place = c.in_ok-place.place } in (it, refl, c.in_ok-place.ensures.steps.place, c.push_reserved.ensures.items ∙ ap (λ (cs : List Commit). cs ++ it ∷ []) c.reserve.ensures.items);
  waits = search rules;
  commits = let k = c.args.self.now in states_set k.live.members c.set_state.new.self.members c.args.txn Committing (open_some (member_of k.live.members c.args.txn) (open_works (member_of c.args.self.now.live.members c.args.txn) c.requires.opened)) c.set_state.ensures.member;
}

pub returns-in_err-place-clause-restartable : goal.returns-in_err-place-clause-restartable
returns-in_err-place-clause-restartable g c = λ origin base later safe_k safe_n r. let k = c.args.self.now in
    let n : Core g.row.D.Denot = record k { operations = c.append.new.self; commits = c.reserve.new.self; book = c.reserve-2.new.self } in
    rests_same g.D.Device origin k n base later safe_k safe_n (c.in_err-place.ensures.steps.rests origin.pages) (ap (λ (x : LogSeen). x.end - x.start) c.in_err-place.ensures.steps.err) (lasts_same k n (ap (λ (x : LogSeen). joined x.batches) c.in_err-place.ensures.steps.err)) (record { book = c.reserve-2.ensures.items; commits = c.reserve.ensures.items }) refl r

pub returns-clause-restartable : goal.returns-clause-restartable
returns-clause-restartable g c = λ origin base later safe_k safe_n r. let k = c.args.self.now in let a = c.reserve.ensures in let b = c.reserve-2.ensures in let f = c.in_ok-place.ensures.steps in let m = c.set_state.ensures in let p = c.push_reserved.ensures in
    let same = ap (λ (x : LogSeen). joined x.batches) f.log in
    let it : Commit = record { txn = c.args.txn; place = c.in_ok-place.place } in
    let n : Core g.row.D.Denot = record k { operations = c.append.new.self; live = c.set_state.new.self; commits = c.push_reserved.new.self; book = c.reserve-2.new.self; reserved = k.reserved - 14 } in
    let pushed : n.commits.items ≡ k.commits.items ++ it ∷ [] = p.items ∙ (λ i. a.items i ++ it ∷ []) in
    let records = ap (λ (rs : List Record). length rs) (f.notes origin.pages).records in
    let more = length_push (appended k.operations.store.log) (record_of.Commit c.args.txn) in
    let front = length-append (durable k.operations.store.log) (in_flight k.operations.store.log ++ waiting k.operations.store.log) in
    let place = f.place in
    let behind : length (durable k.operations.store.log) < it.place = omega (arith, place, records, more, front) in
    committed g.D.Device origin k n base later it safe_k safe_n (record { total = (f.notes origin.pages).area.total; bytes = ap (λ (x : LogSeen). x.end - x.start) f.log; lasts = lasts_same k n same }) (f.notes origin.pages).records m.member m.count m.standing b.items pushed c.requires.opened
    same behind r
