use Rattle.std.proofs.Props.{props}
use mathlib.Core.Logic.{∥∥₁_elim, ∥∥₁_map}
use Rattle.std.proofs.Common.{ℕ, List, ◌≡◌, ◌≤◌, ◌+◌, ◌∙◌, inl, length, None, refl, sym, ap, subst, Option, arith}
use Rattle.std.specs.Prelude.{IfSome, IsSome, Err}
use Rattle.mt_model.specs.declared.operations.Reply.{Reply}
use Rattle.std.proofs.lemmas.Result.{err_from_is_err_and}
use Rattle.mt_base.specs.declared.refusal.Refusal.TheVariants as refusal
use Rattle.mt_disk.specs.Disk.{LeavesOnly}
use Rattle.mt_frame.specs.Grammar.{IsOperation}
use Rattle.mt_frame.specs.declared.records.LoggedOp.{LoggedOp}
use Rattle.mt_file.specs.declared.rooms.Rooms.{Rooms}
use Rattle.mt_log.specs.Words.{durable, used, area_size}
use Rattle.mt_pool.specs.Kept.{Explains}
use Rattle.mt_pool.specs.Views.{pages}
use Rattle.mt_pool.specs.declared.store.Store.{Store}
use Rattle.mt_pool.proofs.Kept.{no_call}
use Rattle.mt_space.specs.Rooms.{mapped, free_of, reserved_of}
use Rattle.mt_steps.specs.Plans.{own_needs}
use Rattle.mt_pool.proofs.Reading.{reads_nothing}
use Rattle.mt_op.specs.Operations.{world, Acts}
use Rattle.mt_op.specs.Work.{work_of}
use Rattle.mt_op.specs.Stepping.{GoesAhead}
use Rattle.mt_op.specs.declared.operations.Operations.{Operations}
use Rattle.mt_op.specs.declared.scope.OpScope.{OpScope}
use Rattle.mt_space.specs.declared.space_map.SpaceMap.{SpaceMap}
use Rattle.mt_op.specs.declared.scope.Stage.TheVariants.{Ready}
use Rattle.mt_op.proofs.Ahead.{idle_ahead}
use Rattle.mt_op.proofs.Budget.{ended_budget}
use Rattle.mt_op.proofs.Faulting.{no_fault, no_fault_ok}
use Rattle.mt_op.proofs.Going.{rests_same}
use Rattle.mt_op.proofs.Right.{right_rests}
use Rattle.mt_op.proofs.Finished.{has_reply, end_stands, planned_reply, open_still, settle_asks, settle_claimed, settle_mapped, settle_gives, settle_frees, one_reply, note_asks, note_whole, note_inside, note_few, note_followed, finished, finished_quietly}
use Rattle.mt_pool.specs.Same.{Operation-prop}
use Rattle.mt_op.proofs.Known.{known_within}
use Rattle.mt_op.proofs.operations.Operations.finish.Goals as goal
use Rattle.mt_op.proofs.operations.Operations.finish.Goals.{in-Some+in_ok-append_end, in_default}

pub outcome-requires : goal.outcome-requires
outcome-requires g c = ∥∥₁_elim c.requires.right (hlevel props) (λ (opening, relations, counters, right, k, few, some). has_reply relations counters (world g.D.Device opening c.args.self.now) c.args.scope.now k c.requires.writing)

pub made_ready-reply-requires : goal.made_ready-reply-requires
made_ready-reply-requires g c = ∥∥₁_elim c.requires.right (hlevel props) (λ (opening, relations, counters, right, k, few, some).
    let own : c.match-done.scope.reply ≡ c.args.scope.now.reply = elim c.match-done.branch [
      | in-Some+in_ok-append_end w ↦ ap (λ (t : OpScope). t.reply) (w.scope-is ∙ w.append_end.ensures.scope)
      | in_default w ↦ ap (λ (t : OpScope). t.reply) w.scope-is
    ] in
    subst (λ (r : Option Reply). IsSome r) (sym own) (has_reply relations counters (world g.D.Device opening c.args.self.now) c.args.scope.now k c.requires.writing))

pub append_end-requires-clause-numbers : goal.append_end-requires-clause-numbers
append_end-requires-clause-numbers g c = let k = known_within g.D.Device c.args.self.now c.args.scope.now c.requires.right in (k.txn, k.op)

pub append_end-requires-clause-operation : goal.append_end-requires-clause-operation
append_end-requires-clause-operation g c = ∥∥₁_elim c.requires.right (Operation-prop c.in-Some.done) (λ (opening, relations, counters, right, k, few, some). let plan = planned_reply relations counters (world g.D.Device opening c.args.self.now) c.args.scope.now _ right.sound k c.requires.writing c.in_ok-answer.ensures.reply in
    subst (λ (x : Option LoggedOp). IfSome x IsOperation) c.in-Some.is (c.in_ok-answer.ensures.operation relations counters few some k.within plan.small))

pub append_end-requires-clause-rules : goal.append_end-requires-clause-rules
append_end-requires-clause-rules g c = ∥∥₁_elim c.requires.right (hlevel props) (λ (opening, relations, counters, right, k, few, some). let w = world g.D.Device opening c.args.self.now in
    end_stands w c.args.scope.now c.in-Some.done k.txn (open_still relations counters w c.args.scope.now _ right.sound k c.requires.writing c.in_ok-answer.ensures.reply))

pub settle-requires-clause-short : goal.settle-requires-clause-short
settle-requires-clause-short g c = ∥∥₁_map c.requires.right (λ (opening, relations, counters, right, k, few, some). let seen = g.D.Device.seen in let s = c.args.scope.now in let o = c.args.self.now in
    let map_same : c.match-done.self.map ≡ o.map = elim c.match-done.branch [
      | in-Some+in_ok-append_end w ↦ ap (λ (x : Operations g.row.D.Denot). x.map) w.self-is ∙ w.append_end.ensures.appends.map
      | in_default w ↦ ap (λ (x : Operations g.row.D.Denot). x.map) w.self-is
    ] in
    let changes : c.match-done.scope.changes ≡ s.changes = elim c.match-done.branch [
      | in-Some+in_ok-append_end w ↦ ap (λ (t : OpScope). t.changes) w.scope-is ∙ ap (λ (t : OpScope). t.changes) w.append_end.ensures.scope
      | in_default w ↦ ap (λ (t : OpScope). t.changes) w.scope-is
    ] in
    let own : c.pages_for-claim.result ≡ own_needs s.op s.split = c.pages_for-claim.ensures ∙ elim c.match-done.branch [
      | in-Some+in_ok-append_end w ↦ ap (λ (t : OpScope). own_needs t.op t.split) (w.scope-is ∙ w.append_end.ensures.scope)
      | in_default w ↦ ap (λ (t : OpScope). own_needs t.op t.split) w.scope-is
    ] in
    settle_asks g.D.Device opening relations counters o s _ right k c.requires.writing c.in_ok-answer.ensures.reply c.match-done.self.map c.match-done.scope map_same changes c.pages_for-claim.result own)

pub settle-requires-clause-claimed : goal.settle-requires-clause-claimed
settle-requires-clause-claimed g c = ∥∥₁_elim c.requires.right (hlevel props) (λ (opening, relations, counters, right, k, few, some). let seen = g.D.Device.seen in let s = c.args.scope.now in let o = c.args.self.now in
    let map_same : c.match-done.self.map ≡ o.map = elim c.match-done.branch [
      | in-Some+in_ok-append_end w ↦ ap (λ (x : Operations g.row.D.Denot). x.map) w.self-is ∙ w.append_end.ensures.appends.map
      | in_default w ↦ ap (λ (x : Operations g.row.D.Denot). x.map) w.self-is
    ] in
    let changes : c.match-done.scope.changes ≡ s.changes = elim c.match-done.branch [
      | in-Some+in_ok-append_end w ↦ ap (λ (t : OpScope). t.changes) w.scope-is ∙ ap (λ (t : OpScope). t.changes) w.append_end.ensures.scope
      | in_default w ↦ ap (λ (t : OpScope). t.changes) w.scope-is
    ] in
    let own : c.pages_for-claim.result ≡ own_needs s.op s.split = c.pages_for-claim.ensures ∙ elim c.match-done.branch [
      | in-Some+in_ok-append_end w ↦ ap (λ (t : OpScope). own_needs t.op t.split) (w.scope-is ∙ w.append_end.ensures.scope)
      | in_default w ↦ ap (λ (t : OpScope). own_needs t.op t.split) w.scope-is
    ] in
    settle_claimed g.D.Device opening relations counters o s _ right k c.requires.writing c.in_ok-answer.ensures.reply c.match-done.self.map c.match-done.scope map_same changes c.pages_for-claim.result own c.requires.claims)

pub settle-requires-clause-mapped : goal.settle-requires-clause-mapped
settle-requires-clause-mapped g c = ∥∥₁_elim c.requires.right (hlevel props) (λ (opening, relations, counters, right, k, few, some). let seen = g.D.Device.seen in let s = c.args.scope.now in let o = c.args.self.now in
    let map_same : c.match-done.self.map ≡ o.map = elim c.match-done.branch [
      | in-Some+in_ok-append_end w ↦ ap (λ (x : Operations g.row.D.Denot). x.map) w.self-is ∙ w.append_end.ensures.appends.map
      | in_default w ↦ ap (λ (x : Operations g.row.D.Denot). x.map) w.self-is
    ] in
    let changes : c.match-done.scope.changes ≡ s.changes = elim c.match-done.branch [
      | in-Some+in_ok-append_end w ↦ ap (λ (t : OpScope). t.changes) w.scope-is ∙ ap (λ (t : OpScope). t.changes) w.append_end.ensures.scope
      | in_default w ↦ ap (λ (t : OpScope). t.changes) w.scope-is
    ] in
    settle_mapped g.D.Device opening relations counters o s _ right k c.requires.writing c.in_ok-answer.ensures.reply c.match-done.self.map c.match-done.scope map_same changes)

pub note_looked-requires-clause-pages : goal.note_looked-requires-clause-pages
note_looked-requires-clause-pages g c = ∥∥₁_map c.requires.right (λ (opening, relations, counters, right, k, few, some). let seen = g.D.Device.seen in let s = c.args.scope.now in let o = c.args.self.now in
    let copies : c.match-done.scope.seen ≡ s.seen = elim c.match-done.branch [
      | in-Some+in_ok-append_end w ↦ ap (λ (t : OpScope). t.seen) w.scope-is ∙ ap (λ (t : OpScope). t.seen) w.append_end.ensures.scope
      | in_default w ↦ ap (λ (t : OpScope). t.seen) w.scope-is
    ] in
    let map_same : c.match-done.self.map ≡ o.map = elim c.match-done.branch [
      | in-Some+in_ok-append_end w ↦ ap (λ (x : Operations g.row.D.Denot). x.map) w.self-is ∙ w.append_end.ensures.appends.map
      | in_default w ↦ ap (λ (x : Operations g.row.D.Denot). x.map) w.self-is
    ] in
    let changes : c.match-done.scope.changes ≡ s.changes = elim c.match-done.branch [
      | in-Some+in_ok-append_end w ↦ ap (λ (t : OpScope). t.changes) w.scope-is ∙ ap (λ (t : OpScope). t.changes) w.append_end.ensures.scope
      | in_default w ↦ ap (λ (t : OpScope). t.changes) w.scope-is
    ] in
    let given = settle_gives g.D.Device opening relations counters o s _ right k c.requires.writing c.in_ok-answer.ensures.reply c.match-done.self.map c.match-done.scope map_same changes c.settle.new.self.kinds.value c.settle.ensures.kinds in
    note_asks g.D.Device opening relations counters o s _ right k c.requires.writing c.in_ok-answer.ensures.reply c.match-done.scope copies c.settle.new.self.kinds.value changes given)

pub note_looked-requires-clause-whole : goal.note_looked-requires-clause-whole
note_looked-requires-clause-whole g c = ∥∥₁_elim c.requires.right (hlevel props) (λ (opening, relations, counters, right, k, few, some). let seen = g.D.Device.seen in let s = c.args.scope.now in let o = c.args.self.now in
    let copies : c.match-done.scope.seen ≡ s.seen = elim c.match-done.branch [
      | in-Some+in_ok-append_end w ↦ ap (λ (t : OpScope). t.seen) w.scope-is ∙ ap (λ (t : OpScope). t.seen) w.append_end.ensures.scope
      | in_default w ↦ ap (λ (t : OpScope). t.seen) w.scope-is
    ] in
    note_whole g.D.Device opening relations counters o s _ right k c.requires.writing c.in_ok-answer.ensures.reply c.match-done.scope copies)

pub note_looked-requires-clause-inside : goal.note_looked-requires-clause-inside
note_looked-requires-clause-inside g c = ∥∥₁_elim c.requires.right (hlevel props) (λ (opening, relations, counters, right, k, few, some). let seen = g.D.Device.seen in let s = c.args.scope.now in let o = c.args.self.now in
    let copies : c.match-done.scope.seen ≡ s.seen = elim c.match-done.branch [
      | in-Some+in_ok-append_end w ↦ ap (λ (t : OpScope). t.seen) w.scope-is ∙ ap (λ (t : OpScope). t.seen) w.append_end.ensures.scope
      | in_default w ↦ ap (λ (t : OpScope). t.seen) w.scope-is
    ] in
    let rooms : length c.match-done.self.rooms ≡ length c.args.self.now.rooms = elim c.match-done.branch [
      | in-Some+in_ok-append_end w ↦ ap (λ (o : Operations g.row.D.Denot). length o.rooms) w.self-is ∙ ap (λ (x : Rooms). length x) w.append_end.ensures.appends.rooms
      | in_default w ↦ ap (λ (o : Operations g.row.D.Denot). length o.rooms) w.self-is
    ] in
    note_inside g.D.Device opening relations counters o s _ right k c.requires.writing c.in_ok-answer.ensures.reply c.match-done.scope copies _ rooms)

pub note_looked-requires-clause-few : goal.note_looked-requires-clause-few
note_looked-requires-clause-few g c = ∥∥₁_elim c.requires.right (hlevel props) (λ (opening, relations, counters, right, k, few, some). let seen = g.D.Device.seen in let s = c.args.scope.now in let o = c.args.self.now in
    let copies : c.match-done.scope.seen ≡ s.seen = elim c.match-done.branch [
      | in-Some+in_ok-append_end w ↦ ap (λ (t : OpScope). t.seen) w.scope-is ∙ ap (λ (t : OpScope). t.seen) w.append_end.ensures.scope
      | in_default w ↦ ap (λ (t : OpScope). t.seen) w.scope-is
    ] in
    let rooms : length c.match-done.self.rooms ≡ length c.args.self.now.rooms = elim c.match-done.branch [
      | in-Some+in_ok-append_end w ↦ ap (λ (o : Operations g.row.D.Denot). length o.rooms) w.self-is ∙ ap (λ (x : Rooms). length x) w.append_end.ensures.appends.rooms
      | in_default w ↦ ap (λ (o : Operations g.row.D.Denot). length o.rooms) w.self-is
    ] in
    note_few g.D.Device opening relations counters o s _ right k c.requires.writing c.in_ok-answer.ensures.reply c.match-done.scope copies _ rooms)

pub returns-in_err-answer : goal.returns-in_err-answer
returns-in_err-answer g c = let d = g.D.Device in let o = c.args.self.now in let s = c.args.scope.now in
    let p = err_from_is_err_and c.from_residual.result c.from_residual.ensures.1 in
    let is = p.1 ∙ ap Err (p.2 ∙ c.in_err-answer.ensures.only_memory) in
    record {
      ahead = subst (GoesAhead d o o s s) (sym is)
          (idle_ahead d o o s (λ opening relations counters right. right) (λ opening. rests_same (world d opening o))
          (λ opening kept. no_call d opening o.store kept g.met.D.Device.only_now) (reads_nothing d _ _ refl) refl refl refl refl refl (Err refusal.NoMemory) tt c.requires.writing c.requires.budget
          (λ is. absurd cc) (inl refl) (no_fault _ _ (Err refusal.NoMemory) refl refl));
      device = refl;
      ready = rw p.1 tt;
      ended = ((λ e. absurd cc), (λ e. absurd cc));
      only_memory = rw is refl;
    }

pub returns-in_err-append_end : goal.returns-in_err-append_end
returns-in_err-append_end g c = let d = g.D.Device in let o = c.args.self.now in let s = c.args.scope.now in let a = c.append_end.ensures in let f = a.appends in let b = c.in_err-append_end.ensures in let e = b.appends in
    let n = c.append_end.new.self in let t = c.append_end.new.scope in
    let p = err_from_is_err_and c.from_residual-in_err-append_end.result c.from_residual-in_err-append_end.ensures.1 in
    let is = p.1 ∙ ap Err (p.2 ∙ e.only_memory) in
    let left : t.left ≡ s.left = ap (λ (x : OpScope). x.left) b.same in
    let log : used n.store.log + t.left ≡ used o.store.log + s.left = a.log in
    let spent : used n.store.log ≡ used o.store.log = omega (arith, left, log) in
    record {
      ahead = subst (λ (x : OpScope). GoesAhead d o n s x c.from_residual-in_err-append_end.result) (sym b.same)
          (subst (GoesAhead d o n s s) (sym is)
          (idle_ahead d o n s
          (λ opening relations counters right. right_rests d opening relations counters o n right (f.kept opening right.kept) (e.rests opening) f.map f.rooms) e.rests
          (λ opening kept. subst (λ (x : g.row.D.Denot). LeavesOnly d.moment d.left_since o.store.device x (Explains opening o.store)) (sym f.device) (no_call d opening o.store kept g.met.D.Device.only_now))
          (reads_nothing d _ _ f.device) spent f.area f.durable f.map f.locks (Err refusal.NoMemory) tt c.requires.writing c.requires.budget
          (λ is. absurd cc) (inl refl) (no_fault _ _ (Err refusal.NoMemory) refl (ap d.faults f.device))));
      device = f.device;
      ready = rw p.1 tt;
      ended = ((λ e. absurd cc), (λ e. absurd cc));
      only_memory = rw is refl;
    }

pub returns : goal.returns
returns g c = let d = g.D.Device in let seen = d.seen in let o = c.args.self.now in let s = c.args.scope.now in
    let is = c.in_ok-answer.ensures.reply in
    let f = c.settle.ensures in let n = c.note_looked.ensures in let t = c.made_ready-reply.new.scope in
    let ready : t ≡ record c.match-done.scope { reply = None; stage = Ready } = c.made_ready-reply.ensures.scope in
    let own : c.match-done.scope.reply ≡ s.reply = elim c.match-done.branch [
      | in-Some+in_ok-append_end w ↦ ap (λ (t : OpScope). t.reply) (w.scope-is ∙ w.append_end.ensures.scope)
      | in_default w ↦ ap (λ (t : OpScope). t.reply) w.scope-is
    ] in
    let same : c.in_ok-answer.answer ≡ c.made_ready-reply.result = one_reply _ _ (sym is ∙ sym own ∙ c.made_ready-reply.ensures.reply) in
    let device : c.note_looked.new.self.store.device ≡ o.store.device = ap (λ (x : Store g.row.D.Denot). x.device) n.store ∙ elim c.match-done.branch [
      | in-Some+in_ok-append_end w ↦ ap (λ (x : Operations g.row.D.Denot). x.store.device) w.self-is ∙ w.append_end.ensures.appends.device
      | in_default w ↦ ap (λ (x : Operations g.row.D.Denot). x.store.device) w.self-is
    ] in
    record {
      ahead = record {
        steps = λ opening relations counters right k few some. elim c.match-done.branch [
          | in-Some+in_ok-append_end w ↦
              let a = w.append_end.ensures in let e = a.appends in let m = w.append_end.new.self in
              let scope : c.match-done.scope ≡ record s { left = w.append_end.new.scope.left } = w.scope-is ∙ a.scope in
              let map_same : c.match-done.self.map ≡ o.map = ap (λ (x : Operations g.row.D.Denot). x.map) w.self-is ∙ e.map in
              let changes : c.match-done.scope.changes ≡ s.changes = ap (λ (t : OpScope). t.changes) scope in
              let rooms : c.match-done.self.rooms ≡ o.rooms = ap (λ (x : Operations g.row.D.Denot). x.rooms) w.self-is ∙ e.rooms in
              let given = settle_gives g.D.Device opening relations counters o s _ right k c.requires.writing is c.match-done.self.map c.match-done.scope map_same changes c.settle.new.self.kinds.value f.kinds in
              let free = settle_frees g.D.Device opening relations counters o s _ right k c.requires.writing is c.match-done.self.map c.match-done.scope map_same changes c.settle.new.self.space.0 c.settle.new.self.kinds.value f.free in
              let done = finished g.D.Device opening relations counters o s _ c.in_ok-answer.answer right k c.requires.writing is w.append_end.new.scope.left (ready ∙ ap (λ (t : OpScope). record t { reply = None; stage = Ready }) scope)
              w.in-Some.done m c.note_looked.new.self (sym c.in_ok-answer.ensures.logged ∙ w.in-Some.is) c.requires.all (w.in_ok-append_end.ensures.appends.notes opening) (e.kept opening right.kept)
              (n.store ∙ ap (λ (x : Operations g.row.D.Denot). x.store) w.self-is) (n.locks ∙ ap (λ (x : Operations g.row.D.Denot). x.locks) w.self-is) (ap (λ (x : SpaceMap). x.kinds.value) n.map ∙ given)
              (subst (λ (x : SpaceMap). x.space.0 ≡ mapped x.kinds.value (pages o.store.pool)) (sym n.map) free) (subst (λ (x : SpaceMap). reserved_of x.space ≤ free_of x.space) (sym n.map) f.room)
              (n.rooms ∙ ap (λ (xs : List ℕ). length xs) rooms)
              (note_followed g.D.Device opening relations counters o s _ c.in_ok-answer.answer right k c.requires.writing is w.append_end.new.scope.left (ready ∙ ap (λ (t : OpScope). record t { reply = None; stage = Ready }) scope)
              c.match-done.scope scope c.settle.new.self.kinds.value c.match-done.self.rooms c.note_looked.new.self.rooms given n.rooms rooms n.noted) in
              (done.0, (subst (Acts relations counters (world g.D.Device opening o) (world g.D.Device opening c.note_looked.new.self) s t) same done.1, same))
          | in_default w ↦
              let map_same : c.match-done.self.map ≡ o.map = ap (λ (x : Operations g.row.D.Denot). x.map) w.self-is in
              let changes : c.match-done.scope.changes ≡ s.changes = ap (λ (t : OpScope). t.changes) w.scope-is in
              let rooms : c.match-done.self.rooms ≡ o.rooms = ap (λ (x : Operations g.row.D.Denot). x.rooms) w.self-is in
              let given = settle_gives g.D.Device opening relations counters o s _ right k c.requires.writing is c.match-done.self.map c.match-done.scope map_same changes c.settle.new.self.kinds.value f.kinds in
              let free = settle_frees g.D.Device opening relations counters o s _ right k c.requires.writing is c.match-done.self.map c.match-done.scope map_same changes c.settle.new.self.space.0 c.settle.new.self.kinds.value f.free in
              let done = finished_quietly g.D.Device opening relations counters o s _ c.in_ok-answer.answer right k c.requires.writing is s.left (ready ∙ ap (λ (t : OpScope). record t { reply = None; stage = Ready }) w.scope-is)
              c.note_looked.new.self (sym c.in_ok-answer.ensures.logged ∙ w.in_default.is)
              (n.store ∙ ap (λ (x : Operations g.row.D.Denot). x.store) w.self-is) (n.locks ∙ ap (λ (x : Operations g.row.D.Denot). x.locks) w.self-is) (ap (λ (x : SpaceMap). x.kinds.value) n.map ∙ given)
              (subst (λ (x : SpaceMap). x.space.0 ≡ mapped x.kinds.value (pages o.store.pool)) (sym n.map) free) (subst (λ (x : SpaceMap). reserved_of x.space ≤ free_of x.space) (sym n.map) f.room)
              (n.rooms ∙ ap (λ (xs : List ℕ). length xs) rooms)
              (note_followed g.D.Device opening relations counters o s _ c.in_ok-answer.answer right k c.requires.writing is s.left (ready ∙ ap (λ (t : OpScope). record t { reply = None; stage = Ready }) w.scope-is)
              c.match-done.scope w.scope-is c.settle.new.self.kinds.value c.match-done.self.rooms c.note_looked.new.self.rooms given n.rooms rooms n.noted) in
              (done.0, (subst (Acts relations counters (world g.D.Device opening o) (world g.D.Device opening c.note_looked.new.self) s t) same done.1, same))
        ];
        moments = λ opening kept. subst (λ (x : g.row.D.Denot). LeavesOnly d.moment d.left_since o.store.device x (Explains opening o.store)) (sym device) (no_call g.D.Device opening o.store kept g.met.D.Device.only_now);
        log = (λ i. used c.note_looked.new.self.store.log + (ready i).left) ∙ ap (λ (x : Store g.row.D.Denot). used x.log + c.match-done.scope.left) n.store ∙ elim c.match-done.branch [
          | in-Some+in_ok-append_end w ↦ (λ i. used (w.self-is i).store.log + (w.scope-is i).left) ∙ w.append_end.ensures.log
          | in_default w ↦ (λ i. used (w.self-is i).store.log + (w.scope-is i).left)
        ];
        area = ap (λ (x : Store g.row.D.Denot). area_size x.log) n.store ∙ elim c.match-done.branch [
          | in-Some+in_ok-append_end w ↦ ap (λ (x : Operations g.row.D.Denot). area_size x.store.log) w.self-is ∙ w.append_end.ensures.appends.area
          | in_default w ↦ ap (λ (x : Operations g.row.D.Denot). area_size x.store.log) w.self-is
        ];
        durable = ap (λ (x : Store g.row.D.Denot). durable x.log) n.store ∙ elim c.match-done.branch [
          | in-Some+in_ok-append_end w ↦ ap (λ (x : Operations g.row.D.Denot). durable x.store.log) w.self-is ∙ w.append_end.ensures.appends.durable
          | in_default w ↦ ap (λ (x : Operations g.row.D.Denot). durable x.store.log) w.self-is
        ];
        budget = elim c.match-done.branch [
          | in-Some+in_ok-append_end w ↦ ended_budget s _ w.append_end.new.scope.left (ready ∙ ap (λ (t : OpScope). record t { reply = None; stage = Ready }) (w.scope-is ∙ w.append_end.ensures.scope)) c.requires.budget
          | in_default w ↦ ended_budget s _ s.left (ready ∙ ap (λ (t : OpScope). record t { reply = None; stage = Ready }) w.scope-is) c.requires.budget
        ];
        claims = elim c.match-done.branch [
          | in-Some+in_ok-append_end w ↦
              let own : c.pages_for-claim.result ≡ own_needs s.op s.split = c.pages_for-claim.ensures ∙ ap (λ (t : OpScope). own_needs t.op t.split) (w.scope-is ∙ w.append_end.ensures.scope) in
              (λ i. reserved_of (n.map i).space + sym own i) ∙ f.claims ∙ ap (λ (x : Operations g.row.D.Denot). reserved_of x.map.space) w.self-is ∙ ap (λ (x : SpaceMap). reserved_of x.space) w.append_end.ensures.appends.map
          | in_default w ↦
              let own : c.pages_for-claim.result ≡ own_needs s.op s.split = c.pages_for-claim.ensures ∙ ap (λ (t : OpScope). own_needs t.op t.split) w.scope-is in
              (λ i. reserved_of (n.map i).space + sym own i) ∙ f.claims ∙ ap (λ (x : Operations g.row.D.Denot). reserved_of x.map.space) w.self-is
        ];
        full = λ e. absurd cc;
        went = λ e. absurd cc;
        stage = ap (λ (x : OpScope). x.stage) ready;
        work = ap work_of ready;
        records = tt;
        locks = n.locks ∙ elim c.match-done.branch [
          | in-Some+in_ok-append_end w ↦ ap (λ (x : Operations g.row.D.Denot). x.locks) w.self-is ∙ w.append_end.ensures.appends.locks
          | in_default w ↦ ap (λ (x : Operations g.row.D.Denot). x.locks) w.self-is
        ];
        room = ap (λ (x : OpScope). x.room) ready ∙ elim c.match-done.branch [
          | in-Some+in_ok-append_end w ↦ ap (λ (t : OpScope). t.room) (w.scope-is ∙ w.append_end.ensures.scope)
          | in_default w ↦ ap (λ (t : OpScope). t.room) w.scope-is
        ];
        asks = tt;
        err = tt;
        flush = λ e. absurd cc;
        why = tt;
        faults = no_fault_ok _ _ _ (ap d.faults device);
        reads = reads_nothing d _ _ device;
      };
      device = device;
      ready = ap (λ (x : OpScope). x.stage) ready;
      ended = ((λ e. absurd cc), (λ e. absurd cc));
      only_memory = tt;
    }

pub append_end-requires-clause-kept : goal.append_end-requires-clause-kept
append_end-requires-clause-kept g c = (known_within g.D.Device c.args.self.now c.args.scope.now c.requires.right).kept
