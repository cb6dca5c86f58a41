-- An operation has ended, and the map follows: what is kept of all operations, and how it acted on the base.
use Rattle.std.proofs.Common.{◌≡◌, ◌<◌, ◌≤◌, ◌+◌, ℕ, Bool, List, [], ◌++◌, true, false, ◌==◌, Option, Some, None, length, take, get_or, refl, sym, ap, ◌∙◌, subst, arith, ⊎_elim}
use Rattle.std.specs.Prelude.{IsSome}
use Rattle.std.proofs.lemmas.Bool.{ne_eqb}
use Rattle.std.proofs.lemmas.List.{append-nil, length-map, length-take-le}
use Rattle.mt_disk.specs.declared.device.Device.{Ghosts}
use Rattle.mt_frame.specs.Grammar.{IsTxn}
use Rattle.mt_area_rules.specs.History.{may_stand}
use Rattle.mt_frame.specs.declared.records.LoggedOp.{LoggedOp}
use Rattle.mt_frame.specs.declared.records.Record.TheVariants.{OpEnd}
use Rattle.mt_model.specs.Model.{base_after}
use Rattle.mt_model.specs.declared.operations.Reply.{Reply}
use Rattle.mt_space.specs.Changes.{PageBytes, Agrees, after, AreShort}
use Rattle.mt_pool.specs.Kept.{IsKept}
use Rattle.mt_pool.specs.Views.{pages}
use Rattle.mt_space.specs.declared.changes.Changes.{Changes}
use Rattle.mt_space.specs.declared.changes.PageChange.{PageChange}
use Rattle.mt_pool.specs.declared.store.Store.{Store}
use Rattle.mt_slots.specs.Page.{IsShaped}
use Rattle.mt_overlay.specs.Overlays.{copied}
use Rattle.mt_steps.specs.Held.{Holds}
use Rattle.mt_steps.specs.Logged.{logged_of}
use Rattle.mt_space.specs.Rooms.{mapped, free_in, free_of, reserved_of}
use Rattle.mt_steps.specs.Plans.{IsPlanned, TakesPages, free_pages, own_needs}
use Rattle.mt_overlay.specs.declared.page_copies.PageCopies.{PageCopies}
use Rattle.mt_op.specs.World.{World, held_in, looked, changes_in, IsWorld, IsOpen, IsWriting, IsAt, IsUnderWay, IsOther}
use Rattle.mt_op.specs.Moves.{Notes, SameOp}
use Rattle.mt_op.specs.Operations.{world, IsRight, Acts}
use Rattle.mt_op.specs.Records.{end_with, end_of}
use Rattle.mt_op.specs.declared.operations.Operations.{Operations}
use Rattle.mt_op.specs.declared.scope.OpScope.{OpScope}
use Rattle.mt_space.specs.declared.space_map.SpaceMap.{SpaceMap}
use Rattle.mt_op.specs.declared.scope.Stage.TheVariants.{Writing, Ready}
use Rattle.mt_op.proofs.Ending.{ends, others_end, own_ends, own_ends_quietly}
use Rattle.mt_file.specs.Rooms.{fits_of, AreRooms}
use Rattle.mt_space.proofs.Changing.{after_untouched}
use Rattle.mt_op.specs.Room.{HasRooms, HasNotedEach, HasFollowed}
use Rattle.mt_op.proofs.Planned.{some_or_none, not_at_hand}
use Rattle.mt_op.proofs.Writing.{planned_held, takes_held}

-- its end may stand in the log
pub end_stands : (w : World) (s : OpScope) (done : LoggedOp) → IsTxn s.txn → IsOpen w s → may_stand false w.records (OpEnd s.txn s.number s.undoes done) ≡ true
end_stands w s done txn k =
    let named : (s.txn == 0) ≡ false = ne_eqb s.txn 0 (λ e. let some = txn.0 in omega arith) in
    rw (named, k.unfinished.transaction, k.due done) refl

pub one_reply : (a b : Reply) → Some a ≡ Some b → a ≡ b
one_reply a b e = cc

-- it has a reply
pub has_reply : (relations counters : ℕ) (w : World) (s : OpScope) → IsUnderWay relations counters w s → s.stage ≡ Writing → IsSome s.reply
has_reply relations counters w s k stage = let at : IsWriting relations counters w s = subst (IsAt relations counters w s) stage k.at in rw at.plan.replies refl

module _ (relations counters : ℕ) (w : World) (s : OpScope) (reply : Reply) (h : IsWorld relations counters w) (k : IsUnderWay relations counters w s) (stage : s.stage ≡ Writing) (is : s.reply ≡ Some reply) where
  now : IsWriting relations counters w s
  now = subst (IsAt relations counters w s) stage k.at

  same_reply : now.plan.reply ≡ reply
  same_reply = only now.plan.reply reply (sym now.plan.replies ∙ is)
    where
      only : (a b : Reply) → Some a ≡ Some b → a ≡ b
      only a b e = cc

  -- the plan with the reply that is at hand
  pub planned_reply : IsPlanned relations counters w.total (looked s) (held_in w) (changes_in s) s.op s.split reply
  planned_reply = subst (IsPlanned relations counters w.total (looked s) (held_in w) (changes_in s) s.op s.split) same_reply (planned_held relations counters w s now.plan h k now.sees)

  pub takes_now : TakesPages s.room s.op (held_in w) (after (changes_in s) (held_in w))
  takes_now = takes_held relations counters w s now.plan h k now.sees

  pub nothing_changes : logged_of s.op reply ≡ None → changes_in s ≡ []
  nothing_changes none = now.plan.quiet (ap (logged_of s.op) same_reply ∙ none)

  pub open_still : IsOpen w s
  open_still = now.unended

-- the pages held take its changes
acts : (relations counters : ℕ) (w z : World) (s t : OpScope) (reply : Reply) → IsPlanned relations counters w.total (looked s) (held_in w) (changes_in s) s.op s.split reply → TakesPages s.room s.op (held_in w) (after (changes_in s) (held_in w)) → held_in z ≡ after (changes_in s) (held_in w)
    → IsUnderWay relations counters z t → ((u : OpScope) → IsUnderWay relations counters w u → IsOther s u → IsUnderWay relations counters z u) → z.records ≡ w.records ++ end_of s reply → SameOp s t → Acts relations counters w z s t reply
acts relations counters w z s t reply plan takes held own others ended same = record {
  own = own;
  others = others;
  replies = plan.replies;
  takes = subst (TakesPages s.room s.op (held_in w)) (sym held) takes;
  small = plan.small;
  base = λ b holds. subst (λ (f : PageBytes). Holds f (base_after b s.op)) (sym held) (plan.base b holds);
  ended = ended;
  same = same;
}

-- ---- the map follows

-- a map of enough pages says of each whether it is free
mapped_size : (kinds : List ℕ) (total : ℕ) → total ≤ length kinds → length (mapped kinds total) ≡ total
mapped_size kinds total within = length-map (take total kinds) (λ (kind : ℕ). kind == 0) ∙ length-take-le total kinds within

module _ {D : Type 0} (g : Ghosts D) (opening : PageBytes) (relations counters : ℕ) (o : Operations D) (s : OpScope) (reply : Reply)
    (right : IsRight g opening relations counters o) (k : IsUnderWay relations counters (world g opening o) s) (stage : s.stage ≡ Writing) (is : s.reply ≡ Some reply)
    (map : SpaceMap) (m : OpScope) (map_same : map ≡ o.map) (changes : m.changes ≡ s.changes) where
  abbrev held_now : PageBytes
  held_now = held_in (world g opening o)

  plan_now : IsPlanned relations counters (pages o.store.pool) (looked s) held_now (changes_in s) s.op s.split reply
  plan_now = planned_reply relations counters (world g opening o) s reply right.sound k stage is

  short_still : AreShort (changes_in m) held_now
  short_still = subst (λ (cs : Changes). AreShort cs.list.items held_now) (sym changes) plan_now.short

  kinds_held : map.kinds.value ≡ held_now 0
  kinds_held = ap (λ (x : SpaceMap). x.kinds.value) map_same ∙ right.map

  whole : length map.kinds.value ≡ 4096
  whole = ap (λ (bytes : List ℕ). length bytes) kinds_held ∙ right.sound.good.rows.file.whole

  size_held : length o.map.space.0 ≡ pages o.store.pool
  size_held =
      let few = right.kept.few in
      let bytes : length (held_now 0) ≡ 4096 = right.sound.good.rows.file.whole in
      ap (λ (free : List Bool). length free) right.space ∙ mapped_size (held_now 0) (pages o.store.pool) (omega (arith, few, bytes))

  size : length map.space.0 ≡ pages o.store.pool
  size = ap (λ (x : SpaceMap). length x.space.0) map_same ∙ size_held

  -- an operation takes no more free pages than it has claimed
  room_held : reserved_of o.map.space ≤ free_in (mapped (after (changes_in s) held_now 0) (length o.map.space.0)) + own_needs s.op s.split
  room_held =
      let claims = right.claims in
      let takes = plan_now.takes in
      let before : free_of o.map.space ≡ free_pages (pages o.store.pool) held_now = ap free_in right.space in
      let behind : free_in (mapped (after (changes_in s) held_now 0) (length o.map.space.0)) ≡ free_pages (pages o.store.pool) (after (changes_in s) held_now) = ap (λ (n : ℕ). free_in (mapped (after (changes_in s) held_now 0) n)) size_held in
      omega (arith, claims, takes, before, behind)

  room : (claim : ℕ) → claim ≡ own_needs s.op s.split → reserved_of map.space ≤ free_in (mapped (after (changes_in m) held_now 0) (length map.space.0)) + claim
  room claim own = subst (λ (X : Type 0). X)
      (λ i. reserved_of (sym map_same i).space ≤ free_in (mapped (after (sym changes i).list.items held_now 0) (length (sym map_same i).space.0)) + sym own i) room_held

  -- the changes fit the map that is held, and leave enough pages free
  pub settle_asks : (claim : ℕ) → claim ≡ own_needs s.op s.split
      → (f : PageBytes) × (f 0 ≡ map.kinds.value) × AreShort (changes_in m) f × (length map.kinds.value ≡ 4096) × (reserved_of map.space ≤ free_in (mapped (after (changes_in m) f 0) (length map.space.0)) + claim)
  settle_asks claim own = (held_now, sym kinds_held, short_still, whole, room claim own)

  -- what the operation claimed is claimed still
  pub settle_claimed : (claim : ℕ) → claim ≡ own_needs s.op s.split → own_needs s.op s.split ≤ reserved_of o.map.space → claim ≤ reserved_of map.space
  settle_claimed claim own enough = let same = ap (λ (x : SpaceMap). reserved_of x.space) map_same in omega (arith, own, enough, same)

  -- and its free pages are those that it has as such
  pub settle_mapped : map.space.0 ≡ mapped map.kinds.value (length map.space.0)
  settle_mapped = ap (λ (x : SpaceMap). x.space.0) map_same ∙ right.space ∙ (λ i. mapped (sym kinds_held i) (sym size i))

  -- the changes make it the map to be held
  pub settle_gives : (new : List ℕ) → ((f : PageBytes) → f 0 ≡ map.kinds.value → AreShort (changes_in m) f → new ≡ after (changes_in m) f 0) → new ≡ after (changes_in s) held_now 0
  settle_gives new follows = follows held_now (sym kinds_held) short_still ∙ ap (λ (cs : Changes). after cs.list.items held_now 0) changes

  pub settle_frees : (free : List Bool) (new : List ℕ) → free ≡ mapped new (length map.space.0) → free ≡ mapped new (pages o.store.pool)
  settle_frees free new is = is ∙ ap (λ (n : ℕ). mapped new n) size

-- ---- the index of rooms follows

module _ {D : Type 0} (g : Ghosts D) (opening : PageBytes) (relations counters : ℕ) (o : Operations D) (s : OpScope) (reply : Reply)
    (right : IsRight g opening relations counters o) (k : IsUnderWay relations counters (world g opening o) s) (stage : s.stage ≡ Writing) (is : s.reply ≡ Some reply)
    (m : OpScope) (copies : m.seen ≡ s.seen) where
  -- the pages that it looked at are whole
  pub note_whole : (p : ℕ) (bytes : List ℕ) → looked m p ≡ Some bytes → length bytes ≡ 4096
  note_whole = subst (λ (x : PageCopies). (p : ℕ) (bytes : List ℕ) → copied x.list.items p ≡ Some bytes → length bytes ≡ 4096) (sym copies) k.whole

  -- and the index has them
  pub note_inside : (rooms : ℕ) → rooms ≡ length o.rooms → (p : ℕ) → IsSome (looked m p) → p < rooms
  note_inside rooms same p some = subst (λ (n : ℕ). p < n) (sym (same ∙ right.rooms)) (k.inside p (subst (λ (x : PageCopies). IsSome (copied x.list.items p)) copies some))

  pub note_few : (rooms : ℕ) → rooms ≡ length o.rooms → rooms ≤ 4096
  note_few rooms same = let total = right.rooms in let few = right.kept.few in omega arith

  abbrev Asks : List ℕ → PageCopies → Changes → Type 0
  Asks map x y = (f : PageBytes) × Agrees (copied x.list.items) f × AreShort y.list.items f × ((p : ℕ) → get_or map p 0 ≡ 3 → IsShaped (after y.list.items f p))

  -- its changes leave each page of records well formed
  pub note_asks : (map : List ℕ) → m.changes ≡ s.changes → map ≡ after (changes_in s) (held_in (world g opening o)) 0 → Asks map m.seen m.changes
  note_asks map changes follows =
      let w = world g opening o in
      let plan = planned_reply relations counters w s reply right.sound k stage is in
      let made : Asks map s.seen s.changes =
      (held_in w, (now relations counters w s reply right.sound k stage is).sees.saw, plan.short, λ p records. plan.good.rows.file.each p (ap (λ (bytes : List ℕ). get_or bytes p 0) (sym follows) ∙ records)) in
      subst (λ (X : Type 0). X) (λ i. Asks map (sym copies i) (sym changes i)) made

-- ---- it has ended

module _ {D : Type 0} (g : Ghosts D) (opening : PageBytes) (relations counters : ℕ) (o : Operations D) (s t : OpScope) (reply : Reply)
    (right : IsRight g opening relations counters o) (k : IsUnderWay relations counters (world g opening o) s) (stage : s.stage ≡ Writing) (is : s.reply ≡ Some reply)
    (left : ℕ) (moves : t ≡ record s { left = left; reply = None; stage = Ready }) where
  abbrev w : World
  w = world g opening o

  planned : IsPlanned relations counters w.total (looked s) (held_in w) (changes_in s) s.op s.split reply
  planned = planned_reply relations counters w s reply right.sound k stage is

  takes : TakesPages s.room s.op (held_in w) (after (changes_in s) (held_in w))
  takes = takes_now relations counters w s reply right.sound k stage is

  same : SameOp s t
  same = record {
    txn = ap (λ (x : OpScope). x.txn) moves;
    number = ap (λ (x : OpScope). x.number) moves;
    op = ap (λ (x : OpScope). x.op) moves;
    undoes = ap (λ (x : OpScope). x.undoes) moves;
    split = ap (λ (x : OpScope). x.split) moves;
    total = ap (λ (x : OpScope). x.seen.total) moves;
  }

  guards : t.guards.items ≡ s.guards.items
  guards = ap (λ (x : OpScope). x.guards.items) moves

  copies : t.seen.list.items ≡ s.seen.list.items
  copies = ap (λ (x : OpScope). x.seen.list.items) moves

  ready : t.stage ≡ Ready
  ready = ap (λ (x : OpScope). x.stage) moves

  -- what each page takes then: those that it looked at are noted, and the others are as they were
  pub note_all : (m : OpScope) → m ≡ record s { left = left } → (map new : List ℕ) → map ≡ after (changes_in s) (held_in w) 0 → length new ≡ length o.rooms
      → ((f : PageBytes) → Agrees (looked m) f → AreShort (changes_in m) f → HasRooms m map new f) → ((p : ℕ) → looked m p ≡ None → get_or new p 0 ≡ get_or o.rooms p 0)
      → AreRooms new (after (changes_in s) (held_in w))
  note_all m scope map new follows size noted others =
      let at = now relations counters w s reply right.sound k stage is in
      let has : HasRooms s map new (held_in w) = subst (λ (x : OpScope). HasRooms x map new (held_in w)) scope
      (noted (held_in w) (subst (λ (x : OpScope). Agrees (looked x) (held_in w)) (sym scope) at.sees.saw) (subst (λ (x : OpScope). AreShort (changes_in x) (held_in w)) (sym scope) planned.short)) in
      let here = λ (p : ℕ) (some : IsSome (looked s p)). has p some (k.guarded p some) in
      let kinds = λ (p : ℕ). ap (λ (bytes : List ℕ). get_or bytes p 0) follows in
      let still = λ (p : ℕ) (none : looked s p ≡ None). others p (ap (λ (x : OpScope). looked x p) scope ∙ none) in
      let bytes = λ (p : ℕ) (none : looked s p ≡ None). after_untouched (changes_in s) (held_in w) p (not_at_hand (looked s) (changes_in s) p at.plan.there none) in
      record {
        records = λ p below records. ⊎_elim
            (λ (some : IsSome (looked s p)). (here p some).records (kinds p ∙ records))
            (λ (none : looked s p ≡ None). still p none ∙ right.noted.records p (omega (arith, size, below)) (sym (planned.kinds p none) ∙ records) ∙ ap (λ (b : List ℕ). fits_of b) (sym (bytes p none)))
            (some_or_none (looked s p));
        others = λ p below other. ⊎_elim
            (λ (some : IsSome (looked s p)). (here p some).others (λ e. other (sym (kinds p) ∙ e)))
            (λ (none : looked s p ≡ None). still p none ∙ right.noted.others p (omega (arith, size, below)) (λ e. other (planned.kinds p none ∙ e)))
            (some_or_none (looked s p));
      }

  -- the index follows its changes, or stays where there are none
  pub note_followed : (m : OpScope) → m ≡ record s { left = left } → (map old new : List ℕ) → map ≡ after (changes_in s) (held_in w) 0 → length new ≡ length old → old ≡ o.rooms → HasFollowed m map old new
      → AreRooms new (after (changes_in s) (held_in w))
  note_followed m scope map old new follows size before followed = ⊎_elim
      (λ (idle : (changes_in m ≡ []) × (new ≡ old)).
      let none : changes_in s ≡ [] = sym (ap (λ (x : OpScope). changes_in x) scope) ∙ idle.0 in
      subst (λ (x : List ℕ). AreRooms x (after (changes_in s) (held_in w))) (sym (idle.1 ∙ before)) (subst (λ (cs : List PageChange). AreRooms o.rooms (after cs (held_in w))) (sym none) right.noted))
      (λ (each : HasNotedEach m map old new). note_all m scope map new follows (size ∙ ap (λ (xs : List ℕ). length xs) before) each.here (λ p none. each.others p none ∙ ap (λ (xs : List ℕ). get_or xs p 0) before))
      followed

  -- its end was noted
  pub finished : (done : LoggedOp) (m n : Operations D) → logged_of s.op reply ≡ Some done → s.written ≡ length (changes_in s) → Notes w (world g opening m) (OpEnd s.txn s.number s.undoes done) → IsKept g opening m.store
      → n.store ≡ m.store → n.locks ≡ m.locks → n.map.kinds.value ≡ after (changes_in s) (held_in w) 0 → n.map.space.0 ≡ mapped n.map.kinds.value (pages o.store.pool) → reserved_of n.map.space ≤ free_of n.map.space
      → length n.rooms ≡ length o.rooms → AreRooms n.rooms (after (changes_in s) (held_in w))
      → IsRight g opening relations counters n × Acts relations counters w (world g opening n) s t reply
  finished done m n due all noted kept store locks map space claims rooms fits =
      let z = world g opening m in
      let moved : world g opening n ≡ z = λ i. world g opening (record m { store = store i; locks = locks i }) in
      let e = ends relations counters w z s done noted right.sound k stage all reply is in
      let total : pages o.store.pool ≡ pages n.store.pool = sym noted.area.total ∙ sym (ap (λ (x : Store D). pages x.pool) store) in
      let kinds : n.map.kinds.value ≡ held_in (world g opening n) 0 = map ∙ sym (ap (λ (x : World). held_in x 0) moved ∙ ap (λ (f : PageBytes). f 0) e.1) in (
        record {
          kept = subst (λ (x : Store D). IsKept g opening x) (sym store) kept;
          sound = subst (IsWorld relations counters) (sym moved) e.0;
          map = kinds;
          space = space ∙ (λ i. mapped (kinds i) (total i));
          claims = claims;
          rooms = rooms ∙ right.rooms ∙ total;
          noted = subst (AreRooms n.rooms) (sym (ap held_in moved ∙ e.1)) fits;
        },
        acts relations counters w (world g opening n) s t reply planned takes (ap held_in moved ∙ e.1)
            (subst (λ (x : World). IsUnderWay relations counters x t) (sym moved) (own_ends relations counters w z s done noted right.sound k stage all t same guards copies ready))
            (λ u ku other. subst (λ (x : World). IsUnderWay relations counters x u) (sym moved) (others_end relations counters w z s done noted right.sound k stage all u ku other))
            (ap (λ (x : World). x.records) moved ∙ noted.records ∙ ap (λ (d : Option LoggedOp). w.records ++ end_with s.txn s.number s.undoes d) (sym due)) same,
      )

  -- nothing of it is logged
  pub finished_quietly : (n : Operations D) → logged_of s.op reply ≡ None → n.store ≡ o.store → n.locks ≡ o.locks → n.map.kinds.value ≡ after (changes_in s) (held_in w) 0
      → n.map.space.0 ≡ mapped n.map.kinds.value (pages o.store.pool) → reserved_of n.map.space ≤ free_of n.map.space → length n.rooms ≡ length o.rooms → AreRooms n.rooms (after (changes_in s) (held_in w))
      → IsRight g opening relations counters n × Acts relations counters w (world g opening n) s t reply
  finished_quietly n quiet store locks map space claims rooms fits =
      let moved : world g opening n ≡ w = λ i. world g opening (record o { store = store i; locks = locks i }) in
      let none = nothing_changes relations counters w s reply right.sound k stage is quiet in
      let held : after (changes_in s) (held_in w) ≡ held_in w = ap (λ (cs : List PageChange). after cs (held_in w)) none in
      let total : pages o.store.pool ≡ pages n.store.pool = sym (ap (λ (x : Store D). pages x.pool) store) in
      let kinds : n.map.kinds.value ≡ held_in (world g opening n) 0 = map ∙ ap (λ (f : PageBytes). f 0) held ∙ sym (ap (λ (x : World). held_in x 0) moved) in (
        record {
          kept = subst (λ (x : Store D). IsKept g opening x) (sym store) right.kept;
          sound = subst (IsWorld relations counters) (sym moved) right.sound;
          map = kinds;
          space = space ∙ (λ i. mapped (kinds i) (total i));
          claims = claims;
          rooms = rooms ∙ right.rooms ∙ total;
          noted = subst (AreRooms n.rooms) (sym (ap held_in moved ∙ sym held)) fits;
        },
        acts relations counters w (world g opening n) s t reply planned takes (ap held_in moved ∙ sym held)
            (subst (λ (x : World). IsUnderWay relations counters x t) (sym moved) (own_ends_quietly relations counters w s right.sound k stage none t same guards copies ready))
            (λ u ku other. subst (λ (x : World). IsUnderWay relations counters x u) (sym moved) ku)
            (ap (λ (x : World). x.records) moved ∙ sym (append-nil w.records) ∙ ap (λ (d : Option LoggedOp). w.records ++ end_with s.txn s.number s.undoes d) (sym quiet)) same,
      )
