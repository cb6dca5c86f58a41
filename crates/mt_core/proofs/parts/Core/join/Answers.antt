use Rattle.std.proofs.Common.{refl}
use Rattle.mt_core.proofs.Turning.{turns_in, turns_restartable}
use Rattle.mt_core.specs.declared.parts.Core.{Core}
use Rattle.mt_core.proofs.parts.Core.join.Goals as goal

pub returns : goal.returns
returns g c = record {
  resumed = λ k origin base pages rest turns.
      let n : Core g.row.D.Denot = record { operations = c.args.operations; live = c.args.rest.live; locks = c.args.rest.locks; escrow = c.args.escrow; running = c.new.result; commits = c.new-2.result; book = c.args.rest.book; last = c.args.rest.last; reserved = c.args.rest.reserved } in
      let D = g.D.Device in (
        turns_in D origin base k turns.nobody turns.consistent pages n c.requires.fresh turns rest.live rest.locks rest.book rest.last rest.reserved c.new.ensures.items c.new-2.ensures.items,
        turns_restartable D origin base k turns.nobody turns.consistent pages n c.requires.fresh turns rest.live rest.locks rest.book rest.last rest.reserved c.new.ensures.items c.new-2.ensures.items,
      );
  operations = refl;
  book = refl;
  numbers = refl;
}
