use Rattle.std.proofs.Common.{◌≡◌, map, take, length, ap, ◌∙◌, arith}
use Rattle.std.proofs.lemmas.List.{take_all}
use Rattle.std.proofs.lemmas.List.Elements.{All-take}
use Rattle.mt_model.specs.Tables.{IsLimited}
use Rattle.mt_escrow.specs.Rooms.{count_of}
use Rattle.mt_escrow.proofs.Viewing.{kept_fresh, counts_of_fresh}
use Rattle.mt_escrow.proofs.accounts.Escrow.new.Goals as goal

pub invariant_of-result : goal.invariant_of-result
invariant_of-result c = record {
  kept = rw (c.loop-count.invariant, c.new-2.ensures.items, c.new-3.ensures.items)
      (kept_fresh (take c.loop-count.count-index c.args.counters.now)
      (All-take IsLimited c.loop-count.count-index c.args.counters.now c.requires));
  room = let none = ap length c.new-3.ensures.items in let empty = ap length c.new-2.ensures.items in omega (arith, none, empty);
}

pub returns-clause-escrow : goal.returns-clause-escrow
returns-clause-escrow c =
    let committed : map count_of c.loop-count.rooms.items ≡ c.args.counters.now =
    ap (map count_of) c.loop-count.invariant
    ∙ (counts_of_fresh (take c.loop-count.count-index c.args.counters.now)
    ∙ take_all c.loop-count.count-index c.args.counters.now (omega arith)) in
    λ i. record { committed = committed i; pending = c.new-2.ensures.items i; aside = c.new-3.ensures.items i }
