use mathlib.Core.Logic.{∥∥₁_elim}
use Rattle.std.proofs.Props.{props}
use Rattle.std.proofs.Common.{◌≡◌, ◌∙◌, ◌≤◌, ◌+◌, ◌-◌, ◌∷◌, ℕ, None, length, refl, sym, ap, subst, arith}
use Rattle.mt_live.specs.Lives.{is_member, member_of}
use Rattle.mt_live.specs.Machine.{booked, put}
use Rattle.mt_live.specs.Undoing.{others}
use Rattle.mt_log.specs.Words.{durable}
use Rattle.mt_core.specs.Consistent.{state_of, session_in, IsIn}
use Rattle.mt_live.specs.Members.{noted_calls}
use Rattle.mt_core.specs.declared.parts.Commit.{Commit}
use Rattle.mt_core.specs.declared.parts.Core.{Core}
use Rattle.mt_core.proofs.Firsts.{first_txn, first_is, first_rest, whose, left_sums}
use Rattle.mt_core.proofs.Leaving.{booked_in}
use Rattle.mt_core.proofs.Lessening.{undo_leaves}
use Rattle.mt_core.proofs.Sounds.{first_lives, first_booked, first_leaves}
use Rattle.mt_core.proofs.Restarts.{leaves}
use Rattle.mt_core.proofs.parts.Core.leave_first.Goals as goal

pub all_pages_kept-pages-requires-clause-fits : goal.all_pages_kept-pages-requires-clause-fits
all_pages_kept-pages-requires-clause-fits g c = ∥∥₁_elim c.requires.safe (hlevel props) (λ (origin, base, safe). let (first, cs, queue) = c.requires.some in let k = c.args.self.now in
    let it = first_txn k.commits.items c.remove-txn.result first cs queue c.remove-txn.ensures.value in
    let s = left_sums g.D.Device origin base k c.remove-txn.result.txn first cs safe queue (sym it) (noted_calls c.ended-ended.result.calls.now c.ended-ended.result.roles.now) c.ended-ended.ensures.entries in
    let few = s.few in let pages = s.pages in let enough = s.claims in omega arith)

pub give_back-requires : goal.give_back-requires
give_back-requires g c = ∥∥₁_elim c.requires.safe (hlevel props) (λ (origin, base, safe). let (first, cs, queue) = c.requires.some in let k = c.args.self.now in
    let it = first_txn k.commits.items c.remove-txn.result first cs queue c.remove-txn.ensures.value in
    let s = left_sums g.D.Device origin base k c.remove-txn.result.txn first cs safe queue (sym it) (noted_calls c.ended-ended.result.calls.now c.ended-ended.result.roles.now) c.ended-ended.ensures.entries in
    let is = c.all_pages_kept-pages.ensures in let pages = s.pages in let enough = s.claims in omega arith)

pub all_bytes_kept-bytes-requires-clause-fits : goal.all_bytes_kept-bytes-requires-clause-fits
all_bytes_kept-bytes-requires-clause-fits g c = ∥∥₁_elim c.requires.safe (hlevel props) (λ (origin, base, safe). let (first, cs, queue) = c.requires.some in let k = c.args.self.now in
    let it = first_txn k.commits.items c.remove-txn.result first cs queue c.remove-txn.ensures.value in
    let s = left_sums g.D.Device origin base k c.remove-txn.result.txn first cs safe queue (sym it) (noted_calls c.ended-ended.result.calls.now c.ended-ended.result.roles.now) c.ended-ended.ensures.entries in
    let bytes = s.bytes in let enough = s.reserved in omega arith)

pub overflow_add-self : goal.overflow_add-self
overflow_add-self g c = ∥∥₁_elim c.requires.safe (hlevel props) (λ (origin, base, safe). let (first, cs, queue) = c.requires.some in let k = c.args.self.now in
    let it = first_txn k.commits.items c.remove-txn.result first cs queue c.remove-txn.ensures.value in
    let s = left_sums g.D.Device origin base k c.remove-txn.result.txn first cs safe queue (sym it) (noted_calls c.ended-ended.result.calls.now c.ended-ended.result.roles.now) c.ended-ended.ensures.entries in
    let is = c.all_bytes_kept-bytes.ensures in let bytes = s.bytes in let enough = s.reserved in omega arith)

pub overflow_sub-self-2 : goal.overflow_sub-self-2
overflow_sub-self-2 g c = ∥∥₁_elim c.requires.safe (hlevel props) (λ (origin, base, safe). let (first, cs, queue) = c.requires.some in let k = c.args.self.now in
    let it = first_txn k.commits.items c.remove-txn.result first cs queue c.remove-txn.ensures.value in
    let s = left_sums g.D.Device origin base k c.remove-txn.result.txn first cs safe queue (sym it) (noted_calls c.ended-ended.result.calls.now c.ended-ended.result.roles.now) c.ended-ended.ensures.entries in
    let is = c.all_bytes_kept-bytes.ensures in let bytes = s.bytes in let enough = s.reserved in omega arith)

pub returns : goal.returns
returns g c = record {
  left = λ origin base first cs safe queue. let k = c.args.self.now in let r = c.remove-txn.ensures in let m = c.leave-done.ensures in let b = c.give_back.ensures in let p = c.push_reserved.ensures in let e = c.commit.ensures in
      let seen = g.D.Device.seen in let may_leave = g.D.Device.may_leave in
      let found = c.remove-txn.result in
      let is : found ≡ first = first_is k.commits.items found first cs queue r.value in
      let queue_found : k.commits.items ≡ found ∷ cs = queue ∙ (λ i. sym is i ∷ cs) in
      let rest : c.remove-txn.new.self.items ≡ cs = r.items ∙ first_rest k.commits.items first cs queue in
      let s = left_sums g.D.Device origin base k found.txn found cs safe queue_found refl (noted_calls c.ended-ended.result.calls.now c.ended-ended.result.roles.now) c.ended-ended.ensures.entries in
      let is_pages = c.all_pages_kept-pages.ensures in let is_bytes = c.all_bytes_kept-bytes.ensures in let pages = s.pages in let bytes = s.bytes in let claims = s.claims in let enough = s.reserved in let back = b.claimed in
      let n : Core g.row.D.Denot = record k { operations = c.give_back.new.self; live = c.leave-done.new.self; book = c.push_reserved.new.self; locks = c.release.new.self; escrow = c.commit.new.self; commits = c.remove-txn.new.self; reserved = k.reserved - (114 + c.all_bytes_kept-bytes.result) } in
      let booked_now = booked_in g.D.Device origin base k n found cs c.leave-done.result safe queue_found rest p.items p.len p.capacity m.calls m.standing m.member m.begun m.count c.release.ensures.released e.counters e.moved e.pending e.aside
      (b.right origin.pages origin.relations origin.counters safe.fit.right) b.store b.locks (omega arith) (omega arith) in
      let session : c.leave-done.result.session ≡ session_in k.live.members found.txn = whose c.leave-done.result.session found.txn k.live.members m.session in
      subst (λ (X : Type 0). X) (λ i. IsIn g.D.Device origin base (booked (state_of k base) (is i).txn ((session ∙ ap (λ (x : Commit). session_in k.live.members x.txn) is) i)) n) booked_now;
  store = c.give_back.ensures.store;
  rest = λ first cs queue. let k = c.args.self.now in let r = c.remove-txn.ensures in
      (ap (λ (x : Commit). x.txn) (first_is k.commits.items c.remove-txn.result first cs queue r.value), r.items ∙ first_rest k.commits.items first cs queue);
  restartable = λ first cs queue there origin base later safe_k safe_n restartable. let k = c.args.self.now in let r = c.remove-txn.ensures in let m = c.leave-done.ensures in
      let found = c.remove-txn.result in
      let is : found ≡ first = first_is k.commits.items found first cs queue r.value in
      let n : Core g.row.D.Denot = record k { operations = c.give_back.new.self; live = c.leave-done.new.self; book = c.push_reserved.new.self; locks = c.release.new.self; escrow = c.commit.new.self; commits = c.remove-txn.new.self; reserved = k.reserved - (114 + c.all_bytes_kept-bytes.result) } in
      leaves g.D.Device origin k n base later found cs c.leave-done.result safe_k safe_n c.give_back.ensures.store (queue ∙ (λ i. sym is i ∷ cs)) (r.items ∙ first_rest k.commits.items first cs queue)
      c.push_reserved.ensures.items m.calls m.member m.count m.standing (subst (λ (x : Commit). x.place ≤ length (durable k.operations.store.log)) (sym is) there) restartable;
  running = refl;
  numbers = refl;
  undo = let k = c.args.self.now in
      let n : Core g.row.D.Denot = record k { operations = c.give_back.new.self; live = c.leave-done.new.self; book = c.push_reserved.new.self; locks = c.release.new.self; escrow = c.commit.new.self; commits = c.remove-txn.new.self; reserved = k.reserved - (114 + c.all_bytes_kept-bytes.result) } in
      undo_leaves k n (others c.remove-txn.result.txn) c.give_back.ensures.store refl c.leave-done.ensures.standing;
  states = let (first, cs, queue) = c.requires.some in let k = c.args.self.now in
      let it : c.remove-txn.result.txn ≡ first.txn = ap (λ (x : Commit). x.txn) (first_is k.commits.items c.remove-txn.result first cs queue c.remove-txn.ensures.value) in
      first_leaves g.D.Device k c.requires.safe c.leave-done.new.self.members first cs queue (λ u. c.leave-done.ensures.member u ∙ ap (λ (t : ℕ). put (member_of k.live.members) t None u) it);
}

pub leave-done-requires : goal.leave-done-requires
leave-done-requires g c = let (first, cs, queue) = c.requires.some in let k = c.args.self.now in
    ap (λ (t : ℕ). is_member k.live.members t) (first_txn k.commits.items c.remove-txn.result first cs queue c.remove-txn.ensures.value) ∙ first_lives g.D.Device c.args.self.now c.requires.safe first cs queue

pub push_reserved-requires : goal.push_reserved-requires
push_reserved-requires g c = let (first, cs, queue) = c.requires.some in first_booked g.D.Device c.args.self.now c.requires.safe first cs queue

pub ended-ended-requires : goal.ended-ended-requires
ended-ended-requires g c = let (first, cs, queue) = c.requires.some in let k = c.args.self.now in
    ap (λ (t : ℕ). is_member k.live.members t) (first_txn k.commits.items c.remove-txn.result first cs queue c.remove-txn.ensures.value) ∙ first_lives g.D.Device c.args.self.now c.requires.safe first cs queue
