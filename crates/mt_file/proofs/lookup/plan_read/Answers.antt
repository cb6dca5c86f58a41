use mathlib.Core.Logic.{∥∥₁_map}
use Rattle.std.proofs.Common.{List, ℕ, ap, subst, ◌∙◌}
use Rattle.mt_slots.specs.Page.{IsShaped, slot}
use Rattle.mt_file.proofs.Filed.{record_records}
use Rattle.mt_file.proofs.Shaped.{shaped_of}
use Rattle.mt_file.proofs.lookup.plan_read.Goals as goal

pub get-requires : goal.get-requires
get-requires g c = record {
  shaped = shaped_of c.in-Some.page.now (∥∥₁_map c.requires.good (λ good. subst IsShaped (good.1 c.args.name.page c.in-Some.page.now c.in-Some.ensures.some) (good.2.each c.args.name.page good.3)));
}

pub returns-in-Some-get : goal.returns-in-Some-get
returns-in-Some-get g c = λ pages agrees file is.
    let seen = agrees c.args.name.page c.in-Some.page.now c.in-Some.ensures.some in
    record_records pages c.args.name.page c.args.name.slot is ∙ ap (λ (m : List ℕ). slot m c.args.name.slot) seen ∙ c.in-Some-get.ensures.found

pub returns-in-None : goal.returns-in-None
returns-in-None g c = λ pages agrees file is.
    let seen = agrees c.args.name.page c.in-Some.page.now c.in-Some.ensures.some in
    record_records pages c.args.name.page c.args.name.slot is ∙ ap (λ (m : List ℕ). slot m c.args.name.slot) seen ∙ c.in-None.ensures.none
