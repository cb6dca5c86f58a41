use Rattle.std.proofs.Common.{◌≡◌, ◌∙◌, List, ℕ, Option, None, Some, refl, append_assoc}
use Rattle.std.specs.Borrow.{Bor}
use Rattle.std.specs.Prelude.{is_some}
use Rattle.mt_frame.specs.PageRecords.{lent_image}
use Rattle.mt_frame.proofs.encoders.put_page.Goals as goal

there_if_lent : (image : Option (Bor (List ℕ))) → is_some image ≡ is_some (lent_image image)
there_if_lent None = refl
there_if_lent (Some image) = refl

pub returns-clause-items : goal.returns-clause-items
returns-clause-items c =
    let flag = c.is_some.ensures ∙ there_if_lent c.args.entry.now.image in
    rw (c.put_range.ensures.items, c.put_head.ensures.items, c.put_byte.ensures.items, c.get.ensures, c.get-2.ensures, c.get-3.ensures, flag) (simp append_assoc)
