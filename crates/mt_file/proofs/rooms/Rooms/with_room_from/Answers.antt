use Rattle.std.proofs.Common.{◌≤◌, ℕ, List, get_or, subst, arith}
use Rattle.mt_file.specs.Rooms.{Takes}
use Rattle.mt_file.proofs.Trees.{leaf_takes, room_records}
use Rattle.mt_file.proofs.rooms.Rooms.with_room_from.Goals as goal

-- the page of the leaf takes so many bytes
pub returns-clause-found : goal.returns-clause-found
returns-clause-found c =
    let inside = c.self.inside in
    let found = c.in_ok-leaf.ensures.found in
    let enough : c.args.bytes ≤ get_or inside.tree.items c.in_ok-leaf.leaf 0 = subst (λ (t : List ℕ). c.args.bytes ≤ get_or t c.in_ok-leaf.leaf 0) c.as_slice.ensures.value found.enough in
    subst (λ (fits : List ℕ). Takes fits c.args.bytes c.new.result) c.self.view_is
    (leaf_takes inside.fits.items inside.tree.items c.args.bytes c.in_ok-leaf.leaf c.new.result c.self.invariant c.requires.some (let behind = found.behind in omega arith) found.there c.new.ensures enough)

pub returns-clause-records : goal.returns-clause-records
returns-clause-records c = λ pages are. room_records c.args.self.now pages c.args.bytes c.new.result are c.requires.some (returns-clause-found c)
