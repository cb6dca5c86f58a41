use Rattle.std.proofs.Common.{ℕ, ap, get_or, refl, sym, ◌∙◌}
use Rattle.mt_space.specs.PageLists.{bytes_of}
use Rattle.mt_steps.proofs.Listed.{skip_page}
use Rattle.mt_restart.proofs.inspection.list_page.Goals as goal

pub returns-then-pages-from-ne-RECORDS : goal.returns-then-pages-from-ne-RECORDS
returns-then-pages-from-ne-RECORDS c = record {
  listed = skip_page (bytes_of c.args.pages.now) c.args.page c.args.rows.now.items
      (λ records. c.if-pages-from-ne-RECORDS.true (ap (λ (i : ℕ). get_or (bytes_of c.args.pages.now i) c.args.page 0) c.from.ensures ∙ records));
}

pub list_rows-requires : goal.list_rows-requires
list_rows-requires c = record {
  shaped = c.requires.checked.good.rows.file.each c.args.page
      (ap (λ (i : ℕ). get_or (bytes_of c.args.pages.now i) c.args.page 0) (sym c.from.ensures) ∙ c.if-pages-from-ne-RECORDS.false);
}

pub returns : goal.returns
returns c =
    let records = ap (λ (i : ℕ). get_or (bytes_of c.args.pages.now i) c.args.page 0) (sym c.from.ensures) ∙ c.if-pages-from-ne-RECORDS.false in
    let good = c.requires.checked.good in
    record { listed = c.list_rows.ensures.listed (bytes_of c.args.pages.now) c.args.page good.meaning refl records good.rows.named }
