use Rattle.std.proofs.Common.{Some, arith}
use Rattle.std.proofs.lemmas.List.Elements.{All-pop, All-push, All-same}
use Rattle.mt_locked.specs.Seen.{Beside}
use Rattle.mt_locked.specs.Whole.{IsNew}
use Rattle.mt_locked.proofs.passes.passes_of.Goals as goal

pub pass_of-requires-clause-seat : goal.pass_of-requires-clause-seat
pass_of-requires-clause-seat g c =
    (All-pop (Beside c.args.end.now) c.seats.seats.items c.pop.new.self.items (Some c.in-Some.seat) c.in-Some.ensures.items c.seats.invariant.0).1

pub seats-preserved : goal.seats-preserved
seats-preserved g c =
    let P = IsNew g.J.Naming.book in (
      (All-pop (Beside c.args.end.now) c.seats.seats.items c.pop.new.self.items (Some c.in-Some.seat) c.in-Some.ensures.items c.seats.invariant.0).0,
      All-same P _ _ c.in_ok-push.ensures.items (All-push P c.seats.passes.items c.pass_of.result c.seats.invariant.1 c.pass_of.ensures),
      (let i = c.seats.invariant.2 in let one = c.in-Some.ensures.cases in let more = c.in_ok-push.ensures.len in omega arith),
    )
