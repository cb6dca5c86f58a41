use Rattle.std.proofs.Common.{◌≡◌, ◌<◌, ℕ, List, [], ◌∷◌, ◌++◌, None, get_or, ⊎_elim, inl, inr, refl, sym, subst, ◌∙◌, ap, arith}
use Rattle.std.specs.Prelude.{Err, IfErr, Ok, Result}
use Rattle.mt_base.specs.declared.refusal.Refusal.{Refusal}
use Rattle.mt_base.specs.declared.refusal.Refusal.TheVariants as refusal
use Rattle.std.proofs.lemmas.Result.{err_from_is_err_and}
use Rattle.mt_pool.specs.Views.{IsPool, IsThere, view}
use Rattle.mt_pool.specs.declared.store.Store.{Store}
use Rattle.mt_overlay.specs.Overlays.{copied}
use Rattle.mt_overlay.specs.declared.overlay.PageCopy.{PageCopy}
use Rattle.mt_op.specs.World.{looked}
use Rattle.mt_op.specs.declared.answers.Stepped.{Stepped}
use Rattle.mt_op.specs.declared.answers.Stepped.TheVariants as stepped
use Rattle.mt_op.specs.Operations.{world}
use Rattle.mt_op.specs.Holds.{IsNext, IsHeld}
use Rattle.mt_op.specs.Stepping.{TakesLock}
use Rattle.mt_op.proofs.Asking.{asked_right}
use Rattle.mt_op.proofs.Going.{rests_goes, rests_same, unlocked_goes_on, locks_goes, stays_roomy, goes_on_since, goes_since, planning_stays, ok_same, there_whole}
use Rattle.mt_op.proofs.Searching.{searched_same}
use Rattle.mt_op.proofs.Work.{stays_work, locks_work, unlocked_works, works_behind}
use Rattle.mt_op.proofs.Keeping.{held_keeps, held_scope, stays_then, room_kept}
use Rattle.mt_space.specs.Changes.{PageBytes}
use Rattle.mt_op.proofs.Known.{known}
use Rattle.mt_op.proofs.operations.Operations.look.Goals as goal

pub returns-in_err-reserve : goal.returns-in_err-reserve
returns-in_err-reserve g c = let d = g.D.Device in let o = c.args.self.now in let s = c.args.scope.now in let f = c.reserve.ensures in
    let m = record s { seen = c.reserve.new.self } in let stays = stays_roomy s c.reserve.new.self f.total f.same in
    let p = err_from_is_err_and c.from_residual.result c.from_residual.ensures.1 in
    let same = stays_work s m c.requires.planning stays in
    subst (TakesLock d o _ s m) (sym (p.1 ∙ ap Err p.2)) (record {
      goes = λ opening relations counters right k. let w = world d opening o in (right, rests_goes relations counters w w s _ (rests_same w) c.requires.planning stays k);
      store = refl;
      map = refl;
      same = record { op = refl; stage = refl; changes = refl; written = refl; left = refl };
      never = λ is. absurd cc;
      work = omega arith;
      locks = refl;
      scope = inl stays;
      only_memory = refl;
    })

pub view-requires-clause-there : goal.view-requires-clause-there
view-requires-clause-there g c = subst (λ store. IsThere store.pool c.args.page) (sym c.hold.ensures.store) c.requires.there

pub returns-in_err-other : goal.returns-in_err-other
returns-in_err-other g c = let d = g.D.Device in let seen = d.seen in let o = c.args.self.now in let n = c.hold.new.self in let s = c.args.scope.now in let t = c.hold.new.scope in
    let f = c.hold.ensures in let m = record s { seen = c.reserve.new.self } in
    let stays = stays_roomy s c.reserve.new.self c.reserve.ensures.total c.reserve.ensures.same in
    let p = err_from_is_err_and c.from_residual-in_err-other.result c.from_residual-in_err-other.ensures.1 in
    let opening : PageBytes = λ p. [] in
    let any = subst (IsHeld (world g.D.Device opening o) (world g.D.Device opening n) m t c.args.page c.args.mode) c.in_err-other.was (f.held opening) in
    let before = stays_work s m c.requires.planning stays in let behind = stays_work m t c.requires.planning any.1 in
    subst (TakesLock g.D.Device o n s t) (sym (p.1 ∙ ap Err (p.2 ∙ subst (λ (r : Result Stepped Refusal). IfErr r (λ why. why ≡ refusal.NoMemory)) c.in_err-other.was f.only_memory))) (record {
      goes = λ opening relations counters right k. let w = world g.D.Device opening o in let z = world g.D.Device opening n in
          let km = planning_stays relations counters w s m c.requires.planning stays k in
          let h = subst (IsHeld w z m t c.args.page c.args.mode) c.in_err-other.was (f.held opening) in (
            asked_right g.D.Device opening relations counters o n m t c.args.page c.args.mode c.hold.result right km c.requires.planning (f.held opening) f.store f.map f.rooms,
            goes_since relations counters w z s m t stays.plan.op (rests_goes relations counters w z m t h.0 c.requires.planning h.1 km),
          );
      store = f.store;
      map = f.map;
      same = record { op = f.same.op; stage = f.same.stage; changes = f.same.changes; written = f.same.written; left = f.same.left };
      never = λ is. absurd cc;
      work = omega arith;
      locks = any.0.locks;
      scope = inl (stays_then s m t stays any.1);
      only_memory = refl;
    })

pub returns-in-Went : goal.returns-in-Went
returns-in-Went g c = let d = g.D.Device in let seen = d.seen in let o = c.args.self.now in let n = c.hold.new.self in let s = c.args.scope.now in
    let f = c.hold.ensures in let m = record s { seen = c.reserve.new.self } in let u = record c.hold.new.scope { room = c.args.room; seen = c.put.new.self; search = c.args.search } in
    let stays = stays_roomy s c.reserve.new.self c.reserve.ensures.total c.reserve.ensures.same in
    let went : c.hold.result ≡ Ok stepped.Went = c.in_ok-other.was ∙ ap Ok c.in-Went.is in
    let opening : PageBytes = λ p. [] in
    let any = subst (IsHeld (world g.D.Device opening o) (world g.D.Device opening n) m c.hold.new.scope c.args.page c.args.mode) went (f.held opening) in
    let copy : PageCopy = record { page = c.args.page; bytes = c.view.result.now } in
    record {
      goes = λ opening relations counters right k.
          let w = world g.D.Device opening o in let z = world g.D.Device opening n in
          let km = planning_stays relations counters w s m c.requires.planning stays k in
          let held = f.held opening in
          let h = subst (IsHeld w z m c.hold.new.scope c.args.page c.args.mode) went held in
          let bytes : c.view.result.now ≡ w.present c.args.page = c.view.ensures (seen n.store.device) ∙ ap (λ (x : Store g.row.D.Denot). view x.pool (seen x.device) c.args.page) f.store in
          let new : looked m c.args.page ≡ None = ap (λ (cs : List PageCopy). copied cs c.args.page) c.reserve.ensures.same ∙ c.requires.next.unseen.new in (
            asked_right g.D.Device opening relations counters o n m c.hold.new.scope c.args.page c.args.mode c.hold.result right km c.requires.planning held f.store f.map f.rooms,
            goes_since relations counters w z s m u stays.plan.op (locks_goes relations counters w z m c.hold.new.scope u c.args.page c.args.mode h.0 c.requires.planning h.1
                (record { txn = refl; number = refl; op = refl; undoes = refl; split = refl; total = c.put.ensures.total }) refl refl
                (c.put.ensures.put ∙ ap (λ (b : List ℕ). c.hold.new.scope.seen.list.items ++ record { page = c.args.page; bytes = b } ∷ []) bytes) refl refl
                (⊎_elim inl (λ led. inr (led.0, led.1, ap (λ (m : List ℕ). get_or m c.args.page 0) (sym right.map) ∙ led.2)) c.requires.led)
                (searched_same s m c.args.search c.args.search stays.plan.op c.reserve.ensures.same refl c.requires.searched)
                (there_whole o.store.pool (seen o.store.device) c.args.page right.kept.frames c.requires.there)
                new (subst (λ (n : ℕ). c.args.page < n) k.total c.requires.next.unseen.inside) right.sound km),
          );
      store = f.store;
      map = f.map;
      same = record { op = f.same.op; stage = f.same.stage; changes = f.same.changes; written = f.same.written; left = f.same.left };
      never = λ is. absurd cc;
      work = locks_work s u c.args.page c.args.mode c.view.result.now _ c.requires.planning any.1.stage (c.put.ensures.total ∙ any.1.op.total ∙ c.reserve.ensures.total) any.1.guards
          (c.put.ensures.put ∙ ap (λ (cs : List PageCopy). cs ++ copy ∷ []) (any.1.seen ∙ c.reserve.ensures.same)) c.requires.led c.requires.next.unseen.new c.requires.next.unseen.inside;
      locks = held_keeps (IsNext o.rooms o.locks s) (world g.D.Device opening o) (world g.D.Device opening n) m c.hold.new.scope c.args.page c.args.mode (Ok stepped.Went) (inl c.requires.next) any;
      scope = room_kept s u c.args.room c.args.page c.args.mode _ refl c.requires.led c.requires.unled c.requires.next.unseen.new;
      only_memory = tt;
    }

pub returns-in_default : goal.returns-in_default
returns-in_default g c = let d = g.D.Device in let seen = d.seen in let o = c.args.self.now in let n = c.hold.new.self in let s = c.args.scope.now in let t = c.hold.new.scope in
    let f = c.hold.ensures in let m = record s { seen = c.reserve.new.self } in let other : Result Stepped Refusal = Ok c.in_ok-other.other in
    let stays = stays_roomy s c.reserve.new.self c.reserve.ensures.total c.reserve.ensures.same in
    let opening : PageBytes = λ p. [] in let w = world g.D.Device opening o in let z = world g.D.Device opening n in
    let any = subst (IsHeld w z m t c.args.page c.args.mode) c.in_ok-other.was (f.held opening) in
    let same = stays_work s m c.requires.planning stays in
    record {
      goes = λ opening relations counters right k. let w = world g.D.Device opening o in let z = world g.D.Device opening n in
          let km = planning_stays relations counters w s m c.requires.planning stays k in
          let held = f.held opening in (
            asked_right g.D.Device opening relations counters o n m t c.args.page c.args.mode c.hold.result right km c.requires.planning held f.store f.map f.rooms,
            goes_on_since relations counters w z s m t other stays.plan.op
                (unlocked_goes_on relations counters w z m t c.args.page c.args.mode other (λ e. c.in_default.not-Went (ok_same c.in_ok-other.other stepped.Went other refl e)) (subst (IsHeld w z m t c.args.page c.args.mode) c.in_ok-other.was held) c.requires.planning km),
          );
      store = f.store;
      map = f.map;
      same = record { op = f.same.op; stage = f.same.stage; changes = f.same.changes; written = f.same.written; left = f.same.left };
      never = λ is. f.never (c.in_ok-other.was ∙ is);
      work = works_behind s m t other (omega arith) c.reserve.ensures.total (unlocked_works w z m t c.args.page c.args.mode other (λ e. c.in_default.not-Went (ok_same c.in_ok-other.other stepped.Went other refl e)) any c.requires.planning);
      locks = held_keeps (IsNext o.rooms o.locks s) w z m t c.args.page c.args.mode other (inl c.requires.next) any;
      scope = held_scope w z s m t c.args.page c.args.mode other stays refl any;
      only_memory = tt;
    }

pub hold-requires : goal.hold-requires
hold-requires g c = record { locks = (known g.D.Device c.args.self.now c.args.scope.now c.requires.right).locks }

pub view-requires-clause-pool : goal.view-requires-clause-pool
view-requires-clause-pool g c = subst (λ store. IsPool store.pool) (sym c.hold.ensures.store) (known g.D.Device c.args.self.now c.args.scope.now c.requires.right).steady.frames
