use Rattle.std.proofs.Common.{refl, sym, ap, ◌∙◌, subst}
use Rattle.mt_model.specs.History.{after}
use Rattle.mt_model.specs.Model.{Base, IsBase}
use Rattle.mt_core.proofs.First.{none_of_none, starts_in}
use Rattle.mt_core.specs.Consistent.{IsConsistent}
use Rattle.mt_core.specs.declared.parts.Core.{Core}
use Rattle.mt_core.proofs.Restarts.{starts}
use Rattle.mt_core.proofs.parts.Core.new.Goals as goal

pub returns : goal.returns
returns g c = record {
  state = λ origin schema bounds holds right escrowed.
      let k : Core g.row.D.Denot = record { operations = c.args.operations; live = c.new.result; locks = c.new-2.result; escrow = c.args.escrow; running = c.new-3.result; commits = c.new-4.result; book = c.new-5.result; last = 0; reserved = 0 } in
      starts_in g.D.Device origin k c.requires.fresh
      (record { begun = c.new.ensures.begun; members = none_of_none c.new.result.members c.new.ensures.members; standing = none_of_none c.new.result.standing c.new.ensures.standing; held = c.new-2.ensures.held; running = c.new-3.ensures.items; commits = c.new-4.ensures.items; book = c.new-5.ensures.items; booked = c.new-5.ensures.len; last = refl; reserved = refl })
      schema bounds holds right escrowed;
  restartable = λ origin schema area bounds holds right escrowed.
      let k : Core g.row.D.Denot = record { operations = c.args.operations; live = c.new.result; locks = c.new-2.result; escrow = c.args.escrow; running = c.new-3.result; commits = c.new-4.result; book = c.new-5.result; last = 0; reserved = 0 } in
      let members = none_of_none c.new.result.members c.new.ensures.members in
      let standing = none_of_none c.new.result.standing c.new.ensures.standing in
      let safe = starts_in g.D.Device origin k c.requires.fresh
      (record { begun = c.new.ensures.begun; members = members; standing = standing; held = c.new-2.ensures.held; running = c.new-3.ensures.items; commits = c.new-4.ensures.items; book = c.new-5.ensures.items; booked = c.new-5.ensures.len; last = refl; reserved = refl })
      schema bounds holds right escrowed in
      starts g.D.Device origin k (subst (λ (b : Base). IsConsistent g.D.Device origin b k) (sym area.begun) safe.consistent) (subst IsBase (sym area.begun) bounds)
      (area.begun ∙ ap (after origin.first) (sym area.none)) (c.new-5.ensures.items ∙ sym area.none) c.new-4.ensures.items members standing c.requires.fresh.images;
  operations = refl;
  numbers = refl;
}
