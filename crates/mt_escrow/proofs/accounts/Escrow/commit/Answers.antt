use Rattle.std.proofs.Common.{◌≡◌, ◌==◌, not, List, length, map, take, drop, ◌++◌, ap, sym, subst, ◌∙◌, arith, rules}
use Rattle.std.proofs.lemmas.Fn.{filter_same}
use Rattle.mt_model.specs.declared.pending_add.Pending.{Pending}
use Rattle.mt_model.specs.Pending.{pending_without, moved_by}
use Rattle.mt_model.specs.Tables.{AreLimited, count_at}
use Rattle.mt_escrow.specs.declared.rooms.Room.{Room}
use Rattle.mt_escrow.specs.Seen.{Escrowed}
use Rattle.mt_escrow.specs.Rooms.{room_at, count_of, AreKept, KeepsBeside}
use Rattle.mt_escrow.proofs.Viewing.{count_at-rooms, limited, swapped, written}
use Rattle.mt_escrow.proofs.accounts.Escrow.commit.Goals as goal

pub settle-requires : goal.settle-requires
settle-requires c =
    let aside = c.self.inside.aside.items in
    let pending = c.self.inside.pending.items in (
      aside,
      subst (λ rs. AreKept rs (c.deref.result.now ++ aside)) (sym c.deref_mut.ensures.value)
          (subst (λ ps. AreKept c.self.inside.rooms.items (ps ++ aside)) (sym c.deref.ensures.value)
          (swapped c.self.inside.rooms.items aside pending c.self.invariant.kept)),
    )

pub invariant_of-self : goal.invariant_of-self
invariant_of-self c =
    let rooms : List Room = c.settle.new.rooms in
    let aside = c.self.inside.aside.items in
    let adds = c.self.inside.pending.items in
    let whole : take c.self.inside.rooms.len (rooms ++ drop (length rooms) c.self.inside.rooms.items) ≡ rooms =
    written c.self.inside.rooms.len c.self.inside.rooms.items rooms (omega arith) (omega arith) in
    let beside : KeepsBeside c.self.inside.rooms.items adds rooms (pending_without c.args.txn adds) =
    subst (λ ps. KeepsBeside c.self.inside.rooms.items ps rooms (pending_without c.args.txn ps)) c.deref.ensures.value
    (subst (λ rs. KeepsBeside rs c.deref.result.now rooms (pending_without c.args.txn c.deref.result.now)) c.deref_mut.ensures.value c.settle.ensures.kept) in
    let kept : AreKept rooms (aside ++ pending_without c.args.txn adds) =
    swapped rooms (pending_without c.args.txn adds) aside (beside aside (swapped c.self.inside.rooms.items aside adds c.self.invariant.kept)) in
    let left : c.retain.new.self.items ≡ pending_without c.args.txn adds =
    filter_same _ (λ (p : Pending). not (p.txn == c.args.txn)) _ (λ x b f' h. search rules) adds c.retain.new.self.items c.retain.ensures.filtered in
    let was = c.self.invariant.room in
    record {
      kept = rw (left, whole) kept;
      room = omega (arith, was, c.retain.ensures.bound);
    }

pub returns-clause-limited : goal.returns-clause-limited
returns-clause-limited c =
    let rooms : List Room = c.settle.new.rooms in
    let aside = c.self.inside.aside.items in
    let adds = c.self.inside.pending.items in
    let whole : take c.self.inside.rooms.len (rooms ++ drop (length rooms) c.self.inside.rooms.items) ≡ rooms =
    written c.self.inside.rooms.len c.self.inside.rooms.items rooms (omega arith) (omega arith) in
    let beside : KeepsBeside c.self.inside.rooms.items adds rooms (pending_without c.args.txn adds) =
    subst (λ ps. KeepsBeside c.self.inside.rooms.items ps rooms (pending_without c.args.txn ps)) c.deref.ensures.value
    (subst (λ rs. KeepsBeside rs c.deref.result.now rooms (pending_without c.args.txn c.deref.result.now)) c.deref_mut.ensures.value c.settle.ensures.kept) in
    let kept : AreKept rooms (pending_without c.args.txn adds ++ aside) = beside aside (swapped c.self.inside.rooms.items aside adds c.self.invariant.kept) in
    let counters : AreLimited (map count_of rooms) = limited rooms (pending_without c.args.txn adds ++ aside) kept in
    subst (λ rs. AreLimited (map count_of rs)) (sym whole) counters

pub returns-clause-moved : goal.returns-clause-moved
returns-clause-moved c = λ k.
    let rooms : List Room = c.settle.new.rooms in
    let adds = c.self.inside.pending.items in
    let t = c.args.txn in
    let whole : take c.self.inside.rooms.len (rooms ++ drop (length rooms) c.self.inside.rooms.items) ≡ rooms =
    written c.self.inside.rooms.len c.self.inside.rooms.items rooms (omega arith) (omega arith) in
    let counts : count_of (room_at rooms k) ≡ moved_by t k adds (count_of (room_at c.self.inside.rooms.items k)) =
    subst (λ rs. count_of (room_at rooms k) ≡ moved_by t k adds (count_of (room_at rs k))) c.deref_mut.ensures.value
    (subst (λ ps. count_of (room_at rooms k) ≡ moved_by t k ps (count_of (room_at c.deref_mut.result.now k))) c.deref.ensures.value (c.settle.ensures.counts k)) in
    let seen : moved_by t k adds (count_at (map count_of c.self.inside.rooms.items) k) ≡ moved_by t k c.leave.new.self.pending (count_at c.leave.new.self.committed k) =
    ap (λ (e : Escrowed). moved_by t k e.pending (count_at e.committed k)) c.self.view_is in
    ap (λ rs. count_at (map count_of rs) k) whole
    ∙ (count_at-rooms rooms k
    ∙ (counts
    ∙ (ap (moved_by t k adds) (sym (count_at-rooms c.self.inside.rooms.items k))
    ∙ (seen
    ∙ (ap (λ ps. moved_by t k ps (count_at c.leave.new.self.committed k)) c.leave.ensures.pending
    ∙ ap (λ ns. moved_by t k c.args.self.now.pending (count_at ns k)) c.leave.ensures.committed)))))

pub returns-clause-pending : goal.returns-clause-pending
returns-clause-pending c =
    filter_same _ (λ (p : Pending). not (p.txn == c.args.txn)) _ (λ x b f' h. search rules) c.self.inside.pending.items c.retain.new.self.items c.retain.ensures.filtered
    ∙ (ap (λ (e : Escrowed). pending_without c.args.txn e.pending) c.self.view_is ∙ ap (pending_without c.args.txn) c.leave.ensures.pending)
