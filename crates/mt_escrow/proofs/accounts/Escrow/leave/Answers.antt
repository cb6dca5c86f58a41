use Rattle.std.proofs.Common.{◌≡◌, ◌==◌, not, List, length, take, drop, ◌++◌, ap, subst, ◌∙◌, arith, rules}
use Rattle.std.proofs.lemmas.Fn.{filter_same}
use Rattle.mt_model.specs.declared.pending_add.Pending.{Pending}
use Rattle.mt_model.specs.Pending.{pending_without}
use Rattle.mt_escrow.specs.declared.rooms.Room.{Room}
use Rattle.mt_escrow.specs.Seen.{Escrowed}
use Rattle.mt_escrow.specs.Rooms.{KeepsBeside}
use Rattle.mt_escrow.proofs.Viewing.{written}
use Rattle.mt_escrow.proofs.accounts.Escrow.leave.Goals as goal

pub invariant_of-self : goal.invariant_of-self
invariant_of-self c =
    let rooms : List Room = c.forget.new.rooms in
    let adds = c.self.inside.aside.items in
    let others = c.self.inside.pending.items in
    let whole : take c.self.inside.rooms.len (rooms ++ drop (length rooms) c.self.inside.rooms.items) ≡ rooms =
    written c.self.inside.rooms.len c.self.inside.rooms.items rooms (omega arith) (omega arith) in
    let beside : KeepsBeside c.self.inside.rooms.items adds rooms (pending_without c.args.txn adds) =
    subst (λ ps. KeepsBeside c.self.inside.rooms.items ps rooms (pending_without c.args.txn ps)) c.deref.ensures.value
    (subst (λ rs. KeepsBeside rs c.deref.result.now rooms (pending_without c.args.txn c.deref.result.now)) c.deref_mut.ensures.value c.forget.ensures.kept) in
    let left : c.retain.new.self.items ≡ pending_without c.args.txn adds =
    filter_same _ (λ (p : Pending). not (p.txn == c.args.txn)) _ (λ x b f' h. search rules) adds c.retain.new.self.items c.retain.ensures.filtered in
    let was = c.self.invariant.room in
    record {
      kept = rw (left, whole) (beside others c.self.invariant.kept);
      room = omega (arith, was, c.retain.ensures.bound, c.retain.ensures.capacity);
    }

pub returns-clause-aside : goal.returns-clause-aside
returns-clause-aside c =
    filter_same _ (λ (p : Pending). not (p.txn == c.args.txn)) _ (λ x b f' h. search rules) c.self.inside.aside.items c.retain.new.self.items c.retain.ensures.filtered
    ∙ ap (λ (e : Escrowed). pending_without c.args.txn e.aside) c.self.view_is
