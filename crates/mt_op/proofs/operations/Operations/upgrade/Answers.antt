use Rattle.std.proofs.Common.{[], inr, refl, arith}
use Rattle.mt_base.specs.declared.modes.Mode.TheVariants.{Write}
use Rattle.mt_op.specs.Operations.{world}
use Rattle.mt_op.proofs.Asking.{asked_right}
use Rattle.mt_op.proofs.Going.{upgrade_goes_on}
use Rattle.mt_op.proofs.Work.{upgrade_works}
use Rattle.mt_op.specs.Holds.{IsNext}
use Rattle.mt_op.proofs.Keeping.{held_keeps, held_scope, stays_same}
use Rattle.mt_space.specs.Changes.{PageBytes}
use Rattle.mt_op.proofs.Known.{known}
use Rattle.mt_op.proofs.operations.Operations.upgrade.Goals as goal

pub returns : goal.returns
returns g c =
    let seen = g.D.Device.seen in let s = c.args.scope.now in let t = c.hold.new.scope in let o = c.args.self.now in let n = c.hold.new.self in let f = c.hold.ensures in
    let k = known g.D.Device o s c.requires.right in
    let inside = k.inside c.args.page c.requires.next.seen in let total = k.total in
    let opening : PageBytes = λ p. [] in let w = world g.D.Device opening o in let z = world g.D.Device opening n in let any = f.held opening in
    record {
      goes = λ opening relations counters right k. let held = f.held opening in (
        asked_right g.D.Device opening relations counters o n s t c.args.page Write c.hold.result right k c.requires.planning held f.store f.map f.rooms,
        upgrade_goes_on relations counters (world g.D.Device opening o) (world g.D.Device opening n) s t c.args.page Write c.hold.result held c.requires.planning c.requires.next.seen k,
      );
      store = f.store;
      map = f.map;
      same = f.same;
      never = f.never;
      work = upgrade_works w z s t c.args.page c.hold.result any c.requires.planning c.requires.next.seen c.requires.next.unlocked k.locks (omega (arith, inside, total));
      locks = held_keeps (IsNext o.rooms o.locks s) w z s t c.args.page Write c.hold.result (inr c.requires.next) any;
      scope = held_scope w z s s t c.args.page Write c.hold.result (stays_same s) refl any;
      only_memory = f.only_memory;
    }

pub hold-requires : goal.hold-requires
hold-requires g c = record { locks = (known g.D.Device c.args.self.now c.args.scope.now c.requires.right).locks }
