use mathlib.Core.Logic.{∥∥₁_map}
use Rattle.std.proofs.Common.{◌≡◌, ◌<◌, ◌+◌, ◌∙◌, ℕ, List, None, Some, length, get_or, set, sym, ap, subst, length-set}
use Rattle.std.specs.Prelude.{IsSome}
use Rattle.std.proofs.lemmas.List.{get_or-set_other}
use Rattle.mt_plock.specs.declared.guards.PageLock.{PageLock}
use Rattle.mt_space.specs.Changes.{after}
use Rattle.mt_overlay.proofs.Overlaid.{some_is}
use Rattle.mt_op.specs.World.{looked, changes_in}
use Rattle.mt_file.specs.Rooms.{IsRoom}
use Rattle.mt_op.specs.declared.operations.Operations.{Operations}
use Rattle.mt_space.specs.declared.space_map.SpaceMap.{SpaceMap}
use Rattle.mt_op.proofs.Noted.{AreNoted, noted_here, noted_none}
use Rattle.mt_op.proofs.operations.Operations.note_each.Goals as goal
use Rattle.mt_op.proofs.operations.Operations.note_each.Goals.{in-Some, in_default}

pub loop-guard-preserved : goal.loop-guard-preserved
loop-guard-preserved g c =
    let s = c.args.scope.now in let i = c.loop-guard.guard-index in let d = c.guard-item.result in
    let value = c.deref-guard-items.ensures.value in
    let before = c.loop-guard.invariant in let old = c.loop-guard.self in
    let lt = subst (λ (ls : List PageLock). i < length ls) value c.loop-guard-test.true in
    let is : get_or s.guards.items i d ≡ d = sym (c.guard-item.is ∙ ap (λ (ls : List PageLock). get_or ls i d) value) in
    let page : c.lock-page.result.page ≡ d.page = ap (λ (l : PageLock). l.page) c.lock-page.ensures in
    elim c.match-page.branch [
      | in-Some w ↦
          let room = w.room_after-room.result in
          let there : looked s c.lock-page.result.page ≡ Some w.in-Some.before.now = w.in-Some.ensures.some in
          let some : IsSome (looked s c.lock-page.result.page) = some_is (looked s c.lock-page.result.page) w.in-Some.before.now there in
          let inside : c.lock-page.result.page < length old.rooms = subst (λ (n : ℕ). c.lock-page.result.page < n) (sym before.rooms) (c.requires.inside c.lock-page.result.page some) in
          let rooms : c.match-page.self.rooms ≡ set old.rooms c.lock-page.result.page room = ap (λ (o : Operations g.row.D.Denot). o.rooms) w.self-is ∙ w.noted.ensures.fits in
          record {
            store = ap (λ (o : Operations g.row.D.Denot). o.store) w.self-is ∙ before.store;
            locks = ap (λ (o : Operations g.row.D.Denot). o.locks) w.self-is ∙ before.locks;
            map = ap (λ (o : Operations g.row.D.Denot). o.map) w.self-is ∙ before.map;
            rooms = ap (λ (xs : List ℕ). length xs) rooms ∙ length-set _ _ _ ∙ before.rooms;
            others = λ p none. ap (λ (xs : List ℕ). get_or xs p 0) rooms
                ∙ get_or-set_other old.rooms c.lock-page.result.page p room 0 (λ same. absurd (let never : None ≡ Some w.in-Some.before.now = sym none ∙ ap (looked s) same ∙ there in cc)) ∙ before.others p none;
            noted = λ pages agrees short.
                let bytes = agrees c.lock-page.result.page w.in-Some.before.now there in
                subst (λ (xs : List ℕ). AreNoted s (i + 1) c.args.self.now.map.kinds.value xs pages) (sym (rooms ∙ ap (λ (p : ℕ). set old.rooms p room) page))
                (noted_here s c.args.self.now.map.kinds.value pages i d lt is old.rooms (before.noted pages agrees short) room (subst (λ (p : ℕ). p < length old.rooms) page inside)
                (subst (λ (p : ℕ). IsRoom (get_or c.args.self.now.map.kinds.value p 0) (after (changes_in s) pages p) room) page (record {
                  records = λ kind. w.room_after-room.ensures.records pages bytes short (ap (λ (bs : List ℕ). get_or bs c.lock-page.result.page 0) w.deref.ensures ∙ ap (λ (m : SpaceMap). get_or m.kinds.value c.lock-page.result.page 0) before.map ∙ kind);
                  others = λ kind. w.room_after-room.ensures.others (λ e. kind (ap (λ (m : SpaceMap). get_or m.kinds.value c.lock-page.result.page 0) (sym before.map) ∙ ap (λ (bs : List ℕ). get_or bs c.lock-page.result.page 0) (sym w.deref.ensures) ∙ e));
                })));
          }
      | in_default w ↦
          record {
            store = ap (λ (o : Operations g.row.D.Denot). o.store) w.self-is ∙ before.store;
            locks = ap (λ (o : Operations g.row.D.Denot). o.locks) w.self-is ∙ before.locks;
            map = ap (λ (o : Operations g.row.D.Denot). o.map) w.self-is ∙ before.map;
            rooms = ap (λ (o : Operations g.row.D.Denot). length o.rooms) w.self-is ∙ before.rooms;
            others = λ p none. ap (λ (o : Operations g.row.D.Denot). get_or o.rooms p 0) w.self-is ∙ before.others p none;
            noted = λ pages agrees short. subst (λ (o : Operations g.row.D.Denot). AreNoted s (i + 1) c.args.self.now.map.kinds.value o.rooms pages) (sym w.self-is)
                (noted_none s c.args.self.now.map.kinds.value pages i d lt is old.rooms (before.noted pages agrees short) (sym (ap (looked s) page) ∙ w.in_default.ensures.none));
          }
    ]

pub room_after-room-requires-clause-pages : goal.room_after-room-requires-clause-pages
room_after-room-requires-clause-pages g c = ∥∥₁_map c.requires.pages (λ (pages, agrees, short, shaped).
    let p = c.lock-page.result.page in
    (pages, agrees p c.in-Some.before.now c.in-Some.ensures.some, short, λ kind. shaped p (ap (λ (m : SpaceMap). get_or m.kinds.value p 0) (sym c.loop-guard.invariant.map) ∙ ap (λ (bs : List ℕ). get_or bs p 0) (sym c.deref.ensures) ∙ kind)))
