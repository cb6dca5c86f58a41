use mathlib.Core.Logic.{∥∥₁_map}
use Rattle.std.proofs.Common.{◌≡◌, ℕ, [], get_or, subst, arith}
use Rattle.mt_file.proofs.Shaped.{shaped_of}
use Rattle.mt_file.proofs.Roomed.{some_pages}
use Rattle.mt_file.proofs.page_rooms.rooms_of.Goals as goal

pub bounds-pages-from : goal.bounds-pages-from
bounds-pages-from c = let first = c.from.ensures in let some = some_pages c.args.pages.now c.requires.file in omega (arith, first, some)

pub fits-requires : goal.fits-requires
fits-requires c = shaped_of _ (∥∥₁_map c.requires.file (λ file. file.each c.loop-number.number
    (subst (λ (k : ℕ). get_or (get_or c.args.pages.now k []) c.loop-number.number 0 ≡ 3) c.from.ensures c.if-map-number-eq-RECORDS.true)))
