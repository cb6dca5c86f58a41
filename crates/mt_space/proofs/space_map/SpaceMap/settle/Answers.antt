use Rattle.std.proofs.Common.{◌≡◌, ◌≤◌, ◌-◌, ◌∙◌, ℕ, List, length, ap, sym, subst, arith}
use mathlib.Core.Logic.{∥∥₁_map}
use Rattle.mt_space.specs.Rooms.{mapped, free_in, free_of, reserved_of}
use Rattle.mt_space.proofs.Following.{room_left}
use Rattle.mt_space.proofs.space_map.SpaceMap.settle.Goals as goal

pub follow-requires : goal.follow-requires
follow-requires c = record { short = ∥∥₁_map c.requires.short (λ (pages, kinds, short, whole, room). (pages, kinds, short, whole)) }

pub follow-requires-then-follow-clause-room : goal.follow-requires-then-follow-clause-room
follow-requires-then-follow-clause-room c =
    let old = c.args.self.now in let new = c.follow.new.self in
    let left = room_left c.args.changes.now.list.items old.kinds.value new.kinds.value (length old.space.0) (reserved_of old.space) c.args.claim c.requires.short c.follow.ensures.kinds in
    let reserved : reserved_of new.space ≡ reserved_of old.space - c.args.claim = (λ i. reserved_of (c.follow.ensures.space i)) ∙ c.give_back.ensures.given in
    let pages : length new.space.0 ≡ length old.space.0 = (λ i. length (c.follow.ensures.space i).0) ∙ ap length c.give_back.ensures.free in
    subst (λ (bytes : List ℕ). reserved_of new.space ≤ free_in (mapped bytes (length new.space.0))) (sym c.deref.ensures)
    (subst (λ (n : ℕ). reserved_of new.space ≤ free_in (mapped new.kinds.value n)) (sym pages) (omega (arith, left, reserved)))

pub returns-then-follow-clause-room : goal.returns-then-follow-clause-room
returns-then-follow-clause-room c =
    let old = c.args.self.now in let new = c.follow.new.self in
    let left = room_left c.args.changes.now.list.items old.kinds.value new.kinds.value (length old.space.0) (reserved_of old.space) c.args.claim c.requires.short c.follow.ensures.kinds in
    let reserved : reserved_of c.follow-then-follow.new.self ≡ reserved_of old.space - c.args.claim = c.follow-then-follow.ensures.reserved ∙ (λ i. reserved_of (c.follow.ensures.space i)) ∙ c.give_back.ensures.given in
    let pages : length new.space.0 ≡ length old.space.0 = (λ i. length (c.follow.ensures.space i).0) ∙ ap length c.give_back.ensures.free in
    let free : free_of c.follow-then-follow.new.self ≡ free_in (mapped new.kinds.value (length old.space.0)) = ap free_in c.follow-then-follow.ensures.free
    ∙ ap (λ (bytes : List ℕ). free_in (mapped bytes (length new.space.0))) c.deref.ensures ∙ ap (λ (n : ℕ). free_in (mapped new.kinds.value n)) pages in
    omega (arith, left, reserved, free)

pub returns-else-follow-clause-room : goal.returns-else-follow-clause-room
returns-else-follow-clause-room c =
    let old = c.args.self.now in let new = c.follow.new.self in
    let left = room_left c.args.changes.now.list.items old.kinds.value new.kinds.value (length old.space.0) (reserved_of old.space) c.args.claim c.requires.short c.follow.ensures.kinds in
    let reserved : reserved_of new.space ≡ reserved_of old.space - c.args.claim = (λ i. reserved_of (c.follow.ensures.space i)) ∙ c.give_back.ensures.given in
    let free : free_of new.space ≡ free_in (mapped new.kinds.value (length old.space.0)) = (λ i. free_in (c.follow.ensures.space i).0) ∙ ap free_in c.give_back.ensures.free ∙ ap free_in c.requires.mapped
    ∙ ap (λ (bytes : List ℕ). free_in (mapped bytes (length old.space.0))) (sym (c.follow.ensures.none c.if-follow.false)) in
    omega (arith, left, reserved, free)
