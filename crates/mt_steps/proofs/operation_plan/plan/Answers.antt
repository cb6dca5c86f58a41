use mathlib.Core.Logic.{∥∥₁_elim, ∥∥₁_map}
use Rattle.std.proofs.Props.{props}
use Rattle.std.proofs.Common.{arith, ◌≡◌, ◌<◌, ◌∙◌, sym, ap, subst, rules, to_z, of_z, to_z-of_z, SFits, w64}
use Rattle.std.proofs.lemmas.Result.{IfOk-weaker}
use Rattle.mt_model.specs.declared.operations.Op.{Op}
use Rattle.mt_model.specs.declared.operations.Op.TheVariants.{Get, Insert, Update, Delete, Add, Read, Scan}
use Rattle.mt_model.specs.Model.{IsWithin}
use Rattle.mt_steps.specs.Acts.{IfLock}
use Rattle.mt_steps.specs.Asks.{AsksFor, HasSearched}
use Rattle.mt_steps.proofs.Promised.{ok_both, asks_same, lock_both, rows_planned, whole_planned, good_planned, quiet_planned, counts_planned, read_planned, rows_full, never_full}
use Rattle.mt_steps.proofs.Answered.{two_inside}
use Rattle.mt_steps.proofs.Naming.{roomy_reported, none_reported, quiet_reported}
use Rattle.mt_steps.proofs.Single.{IsStep-prop}
use Rattle.mt_steps.proofs.operation_plan.plan.Goals as goal

pub get-requires-clause-good : goal.get-requires-clause-good
get-requires-clause-good g c = ∥∥₁_map c.requires.good (λ (relations, counters, has, within, few). (relations, (has.0, has.1, has.2.meaning, has.2.rows)))

pub scan-requires-clause-good : goal.scan-requires-clause-good
scan-requires-clause-good g c = ∥∥₁_map c.requires.good (λ (relations, counters, has, within, few). (relations, (has.0, has.1, has.2.meaning, has.2.rows)))

pub delete-requires-clause-good : goal.delete-requires-clause-good
delete-requires-clause-good g c = ∥∥₁_map c.requires.good (λ (relations, counters, has, within, few). (relations, (has.0, has.1, has.2.meaning, has.2.rows)))

pub insert-requires-clause-good : goal.insert-requires-clause-good
insert-requires-clause-good g c = ∥∥₁_map c.requires.good (λ (relations, counters, has, within, few). (relations, (has.0, has.1, has.2.meaning, has.2.rows, has.3)))

pub update-requires-clause-good : goal.update-requires-clause-good
update-requires-clause-good g c = ∥∥₁_map c.requires.good (λ (relations, counters, has, within, few). (relations, (has.0, has.1, has.2.meaning, has.2.rows, has.3)))

pub add_to-requires-clause-good : goal.add_to-requires-clause-good
add_to-requires-clause-good g c = ∥∥₁_map c.requires.good (λ (relations, counters, has, within, few).
    (relations, counters, (subst (λ (o : Op). IsWithin relations counters o) c.in-Add.is within).0, (has.0, has.1, has.2.counts)))

pub get-requires-clause-short : goal.get-requires-clause-short
get-requires-clause-short g c =
    let is : Get c.in-Get.relation c.as_slice.result.now ≡ c.args.op.now = ap (Get c.in-Get.relation) c.as_slice.ensures ∙ sym c.in-Get.is in
    ∥∥₁_elim c.requires.good (hlevel props) (λ (relations, counters, has, within, few). let inside = subst (λ (o : Op). IsWithin relations counters o) (sym is) within in inside.1.1)

pub delete-requires-clause-short : goal.delete-requires-clause-short
delete-requires-clause-short g c =
    let is : Delete c.in-Delete.relation c.as_slice-in-Delete.result.now ≡ c.args.op.now = ap (Delete c.in-Delete.relation) c.as_slice-in-Delete.ensures ∙ sym c.in-Delete.is in
    ∥∥₁_elim c.requires.good (hlevel props) (λ (relations, counters, has, within, few). let inside = subst (λ (o : Op). IsWithin relations counters o) (sym is) within in inside.1.1)

pub insert-requires-clause-relation_fits : goal.insert-requires-clause-relation_fits
insert-requires-clause-relation_fits g c =
    let is : Insert c.in-Insert.relation c.as_slice-in-Insert.result.now c.as_slice-in-Insert-2.result.now ≡ c.args.op.now =
    (λ i. Insert c.in-Insert.relation (c.as_slice-in-Insert.ensures i) (c.as_slice-in-Insert-2.ensures i)) ∙ sym c.in-Insert.is in
    ∥∥₁_elim c.requires.good (hlevel props) (λ (relations, counters, has, within, few). let inside = subst (λ (o : Op). IsWithin relations counters o) (sym is) within in let below = inside.0 in omega (arith, below, few))

pub insert-requires-clause-key_fits : goal.insert-requires-clause-key_fits
insert-requires-clause-key_fits g c =
    let is : Insert c.in-Insert.relation c.as_slice-in-Insert.result.now c.as_slice-in-Insert-2.result.now ≡ c.args.op.now =
    (λ i. Insert c.in-Insert.relation (c.as_slice-in-Insert.ensures i) (c.as_slice-in-Insert-2.ensures i)) ∙ sym c.in-Insert.is in
    ∥∥₁_elim c.requires.good (hlevel props) (λ (relations, counters, has, within, few). let inside = subst (λ (o : Op). IsWithin relations counters o) (sym is) within in inside.1)

pub insert-requires-clause-value_fits : goal.insert-requires-clause-value_fits
insert-requires-clause-value_fits g c =
    let is : Insert c.in-Insert.relation c.as_slice-in-Insert.result.now c.as_slice-in-Insert-2.result.now ≡ c.args.op.now =
    (λ i. Insert c.in-Insert.relation (c.as_slice-in-Insert.ensures i) (c.as_slice-in-Insert-2.ensures i)) ∙ sym c.in-Insert.is in
    ∥∥₁_elim c.requires.good (hlevel props) (λ (relations, counters, has, within, few). let inside = subst (λ (o : Op). IsWithin relations counters o) (sym is) within in inside.2)

pub update-requires-clause-short : goal.update-requires-clause-short
update-requires-clause-short g c =
    let is : Update c.in-Update.relation c.as_slice-in-Update.result.now c.as_slice-in-Update-2.result.now ≡ c.args.op.now =
    (λ i. Update c.in-Update.relation (c.as_slice-in-Update.ensures i) (c.as_slice-in-Update-2.ensures i)) ∙ sym c.in-Update.is in
    ∥∥₁_elim c.requires.good (hlevel props) (λ (relations, counters, has, within, few). let inside = subst (λ (o : Op). IsWithin relations counters o) (sym is) within in inside.1.1)

pub update-requires-clause-value_fits : goal.update-requires-clause-value_fits
update-requires-clause-value_fits g c =
    let is : Update c.in-Update.relation c.as_slice-in-Update.result.now c.as_slice-in-Update-2.result.now ≡ c.args.op.now =
    (λ i. Update c.in-Update.relation (c.as_slice-in-Update.ensures i) (c.as_slice-in-Update-2.ensures i)) ∙ sym c.in-Update.is in
    ∥∥₁_elim c.requires.good (hlevel props) (λ (relations, counters, has, within, few). let inside = subst (λ (o : Op). IsWithin relations counters o) (sym is) within in inside.2)

pub add_to-requires-clause-inside : goal.add_to-requires-clause-inside
add_to-requires-clause-inside g c = ∥∥₁_elim c.requires.good (hlevel props) (λ (relations, counters, has, within, few). has.2.rows.index.within 2 (λ zero. let one = (has.2.rows.map 2).fixed (omega arith) in omega (arith, one, zero)))

pub read_from-requires-clause-inside : goal.read_from-requires-clause-inside
read_from-requires-clause-inside g c = ∥∥₁_elim c.requires.good (hlevel props) (λ (relations, counters, has, within, few). has.2.rows.index.within 2 (λ zero. let one = (has.2.rows.map 2).fixed (omega arith) in omega (arith, one, zero)))

pub read_from-requires-clause-there : goal.read_from-requires-clause-there
read_from-requires-clause-there g c = ∥∥₁_elim c.requires.good (hlevel props) (λ (relations, counters, has, within, few).
    let inside : c.in-Read.counter < counters = subst (λ (o : Op). IsWithin relations counters o) c.in-Read.is within in let some = has.2.counts.few in omega (arith, inside, some))

pub add_to-requires-clause-step : goal.add_to-requires-clause-step
add_to-requires-clause-step g c =
    let f : SFits w64 c.in-Add.step = search rules in
    let is : Add c.in-Add.counter (to_z w64 (of_z w64 c.in-Add.step)) ≡ c.args.op.now = ap (Add c.in-Add.counter) (to_z-of_z f) ∙ sym c.in-Add.is in
    ∥∥₁_elim c.requires.good (IsStep-prop (to_z w64 (of_z w64 c.in-Add.step))) (λ (relations, counters, has, within, few). (subst (λ (o : Op). IsWithin relations counters o) (sym is) within).1)

pub returns-in-Add-clause-lock : goal.returns-in-Add-clause-lock
returns-in-Add-clause-lock g c =
    let inside : 2 < g.V.Pages.total c.args.views.now = ∥∥₁_elim c.requires.good (hlevel props) (λ (relations, counters, has, within, few). has.2.rows.index.within 2 (λ zero. let one = (has.2.rows.map 2).fixed (omega arith) in omega (arith, one, zero))) in
    IfOk-weaker c.add_to.result _ _ (λ act. two_inside (g.V.Pages.at_hand c.args.views.now) (g.V.Pages.total c.args.views.now) act inside) c.add_to.ensures.lock

pub returns-in-Read-clause-lock : goal.returns-in-Read-clause-lock
returns-in-Read-clause-lock g c =
    let inside : 2 < g.V.Pages.total c.args.views.now = ∥∥₁_elim c.requires.good (hlevel props) (λ (relations, counters, has, within, few). has.2.rows.index.within 2 (λ zero. let one = (has.2.rows.map 2).fixed (omega arith) in omega (arith, one, zero))) in
    two_inside (g.V.Pages.at_hand c.args.views.now) (g.V.Pages.total c.args.views.now) c.read_from.result inside c.read_from.ensures.lock

pub returns-in-Get-clause-made : goal.returns-in-Get-clause-made
returns-in-Get-clause-made g c = λ relations counters few within.
    let is : Get c.in-Get.relation c.as_slice.result.now ≡ c.args.op.now = ap (Get c.in-Get.relation) c.as_slice.ensures ∙ sym c.in-Get.is in
    ok_both c.get.result _ _ _
    (λ act. quiet_planned c.args.split relations counters (g.V.Pages.total c.args.views.now) (g.V.Pages.at_hand c.args.views.now) c.args.room (Get c.in-Get.relation c.as_slice.result.now) c.args.op.now act is)
    (c.get.ensures.plans.made relations) c.get.ensures.plans.quiet

pub returns-in-Insert-clause-made : goal.returns-in-Insert-clause-made
returns-in-Insert-clause-made g c = λ relations counters few within.
    let is : Insert c.in-Insert.relation c.as_slice-in-Insert.result.now c.as_slice-in-Insert-2.result.now ≡ c.args.op.now =
    (λ i. Insert c.in-Insert.relation (c.as_slice-in-Insert.ensures i) (c.as_slice-in-Insert-2.ensures i)) ∙ sym c.in-Insert.is in
    let inside = subst (λ (o : Op). IsWithin relations counters o) (sym is) within in
    ok_both c.insert.result _ _ _
    (λ act. rows_planned c.args.split relations counters (g.V.Pages.total c.args.views.now) (g.V.Pages.at_hand c.args.views.now) c.args.room (Insert c.in-Insert.relation c.as_slice-in-Insert.result.now c.as_slice-in-Insert-2.result.now) c.args.op.now act is)
    (c.insert.ensures.plans.made relations (record { relation = inside.0; key = inside.1; value = inside.2 })) (c.insert.ensures.plans.modest relations (record { relation = inside.0; key = inside.1; value = inside.2 }))

pub returns-in-Update-clause-made : goal.returns-in-Update-clause-made
returns-in-Update-clause-made g c = λ relations counters few within.
    let is : Update c.in-Update.relation c.as_slice-in-Update.result.now c.as_slice-in-Update-2.result.now ≡ c.args.op.now =
    (λ i. Update c.in-Update.relation (c.as_slice-in-Update.ensures i) (c.as_slice-in-Update-2.ensures i)) ∙ sym c.in-Update.is in
    let inside = subst (λ (o : Op). IsWithin relations counters o) (sym is) within in
    ok_both c.update.result _ _ _
    (λ act. whole_planned c.args.split relations counters (g.V.Pages.total c.args.views.now) (g.V.Pages.at_hand c.args.views.now) c.args.room (Update c.in-Update.relation c.as_slice-in-Update.result.now c.as_slice-in-Update-2.result.now) c.args.op.now act is)
    (c.update.ensures.plans.made relations (record { relation = inside.0; key = inside.1; value = inside.2 })) (c.update.ensures.plans.modest relations (record { relation = inside.0; key = inside.1; value = inside.2 }))

pub returns-in-Delete-clause-made : goal.returns-in-Delete-clause-made
returns-in-Delete-clause-made g c = λ relations counters few within.
    let is : Delete c.in-Delete.relation c.as_slice-in-Delete.result.now ≡ c.args.op.now = ap (Delete c.in-Delete.relation) c.as_slice-in-Delete.ensures ∙ sym c.in-Delete.is in
    ok_both c.delete.result _ _ _
    (λ act. good_planned c.args.split relations counters (g.V.Pages.total c.args.views.now) (g.V.Pages.at_hand c.args.views.now) c.args.room (Delete c.in-Delete.relation c.as_slice-in-Delete.result.now) c.args.op.now act is)
    (c.delete.ensures.plans.made relations) (c.delete.ensures.plans.modest relations)

pub returns-in-Add-clause-made : goal.returns-in-Add-clause-made
returns-in-Add-clause-made g c = λ relations counters few within.
    let f : SFits w64 c.in-Add.step = search rules in
    let is : Add c.in-Add.counter (to_z w64 (of_z w64 c.in-Add.step)) ≡ c.args.op.now = ap (Add c.in-Add.counter) (to_z-of_z f) ∙ sym c.in-Add.is in
    let inside = subst (λ (o : Op). IsWithin relations counters o) c.in-Add.is within in
    ok_both c.add_to.result _ _ _
    (λ act. counts_planned c.args.split relations counters (g.V.Pages.total c.args.views.now) c.in-Add.counter (g.V.Pages.at_hand c.args.views.now) c.args.room (Add c.in-Add.counter (to_z w64 (of_z w64 c.in-Add.step))) c.args.op.now act is inside.0)
    (c.add_to.ensures.made relations) (c.add_to.ensures.modest relations)

pub returns-in-Read-clause-made : goal.returns-in-Read-clause-made
returns-in-Read-clause-made g c = λ relations counters few within.
    let inside : c.in-Read.counter < counters = subst (λ (o : Op). IsWithin relations counters o) c.in-Read.is within in
    read_planned c.args.split relations counters (g.V.Pages.total c.args.views.now) c.in-Read.counter (g.V.Pages.at_hand c.args.views.now) c.args.room (Read c.in-Read.counter) c.args.op.now c.read_from.result (sym c.in-Read.is) inside (c.read_from.ensures.made relations) c.read_from.ensures.quiet

pub returns-in-Insert-clause-full : goal.returns-in-Insert-clause-full
returns-in-Insert-clause-full g c = λ relations counters few within.
    let is : Insert c.in-Insert.relation c.as_slice-in-Insert.result.now c.as_slice-in-Insert-2.result.now ≡ c.args.op.now =
    (λ i. Insert c.in-Insert.relation (c.as_slice-in-Insert.ensures i) (c.as_slice-in-Insert-2.ensures i)) ∙ sym c.in-Insert.is in
    IfOk-weaker c.insert.result _ _
    (λ act. rows_full c.args.split relations counters (g.V.Pages.total c.args.views.now) (g.V.Pages.at_hand c.args.views.now) c.args.room (Insert c.in-Insert.relation c.as_slice-in-Insert.result.now c.as_slice-in-Insert-2.result.now) c.args.op.now act is)
    (c.insert.ensures.plans.full relations)

pub returns-in-Update-clause-full : goal.returns-in-Update-clause-full
returns-in-Update-clause-full g c = λ relations counters few within.
    let is : Update c.in-Update.relation c.as_slice-in-Update.result.now c.as_slice-in-Update-2.result.now ≡ c.args.op.now =
    (λ i. Update c.in-Update.relation (c.as_slice-in-Update.ensures i) (c.as_slice-in-Update-2.ensures i)) ∙ sym c.in-Update.is in
    IfOk-weaker c.update.result _ _
    (λ act. rows_full c.args.split relations counters (g.V.Pages.total c.args.views.now) (g.V.Pages.at_hand c.args.views.now) c.args.room (Update c.in-Update.relation c.as_slice-in-Update.result.now c.as_slice-in-Update-2.result.now) c.args.op.now act is)
    (c.update.ensures.plans.full relations)

pub returns-in-Get-clause-full : goal.returns-in-Get-clause-full
returns-in-Get-clause-full g c = λ relations counters few within. IfOk-weaker c.get.result _ _ (λ act. never_full act _) c.get.ensures.plans.full

pub returns-in-Delete-clause-full : goal.returns-in-Delete-clause-full
returns-in-Delete-clause-full g c = λ relations counters few within. IfOk-weaker c.delete.result _ _ (λ act. never_full act _) c.delete.ensures.plans.full

pub returns-in-Add-clause-full : goal.returns-in-Add-clause-full
returns-in-Add-clause-full g c = λ relations counters few within. IfOk-weaker c.add_to.result _ _ (λ act. never_full act _) c.add_to.ensures.full

pub returns-in-Read-clause-full : goal.returns-in-Read-clause-full
returns-in-Read-clause-full g c = λ relations counters few within. never_full c.read_from.result _ c.read_from.ensures.full

pub returns-in-Get-clause-asks : goal.returns-in-Get-clause-asks
returns-in-Get-clause-asks g c =
    let is : Get c.in-Get.relation c.as_slice.result.now ≡ c.args.op.now = ap (Get c.in-Get.relation) c.as_slice.ensures ∙ sym c.in-Get.is in
    asks_same (g.V.Pages.at_hand c.args.views.now) c.args.room (g.V.Pages.total c.args.views.now) c.args.split _ c.args.op.now c.get.result is (c.get.ensures.plans.asks c.args.room c.args.split)

pub returns-in-Insert-clause-asks : goal.returns-in-Insert-clause-asks
returns-in-Insert-clause-asks g c =
    let is : Insert c.in-Insert.relation c.as_slice-in-Insert.result.now c.as_slice-in-Insert-2.result.now ≡ c.args.op.now =
    (λ i. Insert c.in-Insert.relation (c.as_slice-in-Insert.ensures i) (c.as_slice-in-Insert-2.ensures i)) ∙ sym c.in-Insert.is in
    asks_same (g.V.Pages.at_hand c.args.views.now) c.args.room (g.V.Pages.total c.args.views.now) c.args.split _ c.args.op.now c.insert.result is c.insert.ensures.plans.asks

pub returns-in-Update-clause-asks : goal.returns-in-Update-clause-asks
returns-in-Update-clause-asks g c =
    let is : Update c.in-Update.relation c.as_slice-in-Update.result.now c.as_slice-in-Update-2.result.now ≡ c.args.op.now =
    (λ i. Update c.in-Update.relation (c.as_slice-in-Update.ensures i) (c.as_slice-in-Update-2.ensures i)) ∙ sym c.in-Update.is in
    asks_same (g.V.Pages.at_hand c.args.views.now) c.args.room (g.V.Pages.total c.args.views.now) c.args.split _ c.args.op.now c.update.result is (c.update.ensures.plans.asks c.args.split)

pub returns-in-Delete-clause-asks : goal.returns-in-Delete-clause-asks
returns-in-Delete-clause-asks g c =
    let is : Delete c.in-Delete.relation c.as_slice-in-Delete.result.now ≡ c.args.op.now = ap (Delete c.in-Delete.relation) c.as_slice-in-Delete.ensures ∙ sym c.in-Delete.is in
    asks_same (g.V.Pages.at_hand c.args.views.now) c.args.room (g.V.Pages.total c.args.views.now) c.args.split _ c.args.op.now c.delete.result is (c.delete.ensures.plans.asks c.args.room c.args.split)

pub returns-in-Insert-clause-takes : goal.returns-in-Insert-clause-takes
returns-in-Insert-clause-takes g c = λ relations counters few within.
    let is : Insert c.in-Insert.relation c.as_slice-in-Insert.result.now c.as_slice-in-Insert-2.result.now ≡ c.args.op.now =
    (λ i. Insert c.in-Insert.relation (c.as_slice-in-Insert.ensures i) (c.as_slice-in-Insert-2.ensures i)) ∙ sym c.in-Insert.is in
    let inside = subst (λ (o : Op). IsWithin relations counters o) (sym is) within in
    IfOk-weaker c.insert.result _ _ (λ act. roomy_reported relations counters (g.V.Pages.total c.args.views.now) (g.V.Pages.at_hand c.args.views.now) c.args.room c.args.op.now _ act is)
    (c.insert.ensures.plans.takes relations (record { relation = inside.0; key = inside.1; value = inside.2 }))

pub returns-in-Update-clause-takes : goal.returns-in-Update-clause-takes
returns-in-Update-clause-takes g c = λ relations counters few within.
    let is : Update c.in-Update.relation c.as_slice-in-Update.result.now c.as_slice-in-Update-2.result.now ≡ c.args.op.now =
    (λ i. Update c.in-Update.relation (c.as_slice-in-Update.ensures i) (c.as_slice-in-Update-2.ensures i)) ∙ sym c.in-Update.is in
    let inside = subst (λ (o : Op). IsWithin relations counters o) (sym is) within in
    IfOk-weaker c.update.result _ _ (λ act. roomy_reported relations counters (g.V.Pages.total c.args.views.now) (g.V.Pages.at_hand c.args.views.now) c.args.room c.args.op.now _ act is)
    (c.update.ensures.plans.takes relations (record { relation = inside.0; key = inside.1; value = inside.2 }))

pub returns-in-Delete-clause-takes : goal.returns-in-Delete-clause-takes
returns-in-Delete-clause-takes g c = λ relations counters few within.
    IfOk-weaker c.delete.result _ _ (λ act. none_reported relations counters (g.V.Pages.total c.args.views.now) (g.V.Pages.at_hand c.args.views.now) c.args.room c.args.op.now act) (c.delete.ensures.plans.takes relations)

pub returns-in-Add-clause-takes : goal.returns-in-Add-clause-takes
returns-in-Add-clause-takes g c = λ relations counters few within.
    IfOk-weaker c.add_to.result _ _ (λ act. none_reported relations counters (g.V.Pages.total c.args.views.now) (g.V.Pages.at_hand c.args.views.now) c.args.room c.args.op.now act) (c.add_to.ensures.takes relations)

pub returns-in-Get-clause-takes : goal.returns-in-Get-clause-takes
returns-in-Get-clause-takes g c = λ relations counters few within.
    IfOk-weaker c.get.result _ _ (λ act. quiet_reported relations counters (g.V.Pages.total c.args.views.now) (g.V.Pages.at_hand c.args.views.now) c.args.room c.args.op.now act) c.get.ensures.plans.quiet

pub returns-in-Read-clause-takes : goal.returns-in-Read-clause-takes
returns-in-Read-clause-takes g c = λ relations counters few within.
    quiet_reported relations counters (g.V.Pages.total c.args.views.now) (g.V.Pages.at_hand c.args.views.now) c.args.room c.args.op.now c.read_from.result c.read_from.ensures.quiet

pub returns-in-Add-clause-asks : goal.returns-in-Add-clause-asks
returns-in-Add-clause-asks g c =
    let f : SFits w64 c.in-Add.step = search rules in
    let is : Add c.in-Add.counter (to_z w64 (of_z w64 c.in-Add.step)) ≡ c.args.op.now = ap (Add c.in-Add.counter) (to_z-of_z f) ∙ sym c.in-Add.is in
    asks_same (g.V.Pages.at_hand c.args.views.now) c.args.room (g.V.Pages.total c.args.views.now) c.args.split _ c.args.op.now c.add_to.result is
    (ok_both c.add_to.result _ _ _ (λ act. lock_both act _ _ _ (λ p mode two writes. (two.1, writes))) c.add_to.ensures.lock c.add_to.ensures.mode)

pub returns-in-Read-clause-asks : goal.returns-in-Read-clause-asks
returns-in-Read-clause-asks g c = subst (λ (o : Op). IfLock c.read_from.result (AsksFor (g.V.Pages.at_hand c.args.views.now) c.args.room (g.V.Pages.total c.args.views.now) c.args.split o)) (sym c.in-Read.is)
    (lock_both c.read_from.result _ _ _ (λ p mode two reads. (two.1, reads)) c.read_from.ensures.lock c.read_from.ensures.mode)

pub get-requires-clause-searched : goal.get-requires-clause-searched
get-requires-clause-searched g c =
    let is : Get c.in-Get.relation c.as_slice.result.now ≡ c.args.op.now = ap (Get c.in-Get.relation) c.as_slice.ensures ∙ sym c.in-Get.is in
    subst (λ (o : Op). HasSearched (g.V.Pages.at_hand c.args.views.now) (g.V.Pages.total c.args.views.now) o c.args.search.now) (sym is) c.requires.searched

pub returns-in-Get-clause-searched : goal.returns-in-Get-clause-searched
returns-in-Get-clause-searched g c =
    let is : Get c.in-Get.relation c.as_slice.result.now ≡ c.args.op.now = ap (Get c.in-Get.relation) c.as_slice.ensures ∙ sym c.in-Get.is in
    subst (λ (o : Op). HasSearched (g.V.Pages.at_hand c.args.views.now) (g.V.Pages.total c.args.views.now) o c.get.new.search) is c.get.ensures.searched

pub insert-requires-clause-searched : goal.insert-requires-clause-searched
insert-requires-clause-searched g c =
    let is : Insert c.in-Insert.relation c.as_slice-in-Insert.result.now c.as_slice-in-Insert-2.result.now ≡ c.args.op.now = (λ i. Insert c.in-Insert.relation (c.as_slice-in-Insert.ensures i) (c.as_slice-in-Insert-2.ensures i)) ∙ sym c.in-Insert.is in
    subst (λ (o : Op). HasSearched (g.V.Pages.at_hand c.args.views.now) (g.V.Pages.total c.args.views.now) o c.args.search.now) (sym is) c.requires.searched

pub returns-in-Insert-clause-searched : goal.returns-in-Insert-clause-searched
returns-in-Insert-clause-searched g c =
    let is : Insert c.in-Insert.relation c.as_slice-in-Insert.result.now c.as_slice-in-Insert-2.result.now ≡ c.args.op.now = (λ i. Insert c.in-Insert.relation (c.as_slice-in-Insert.ensures i) (c.as_slice-in-Insert-2.ensures i)) ∙ sym c.in-Insert.is in
    subst (λ (o : Op). HasSearched (g.V.Pages.at_hand c.args.views.now) (g.V.Pages.total c.args.views.now) o c.insert.new.search) is c.insert.ensures.searched

pub update-requires-clause-searched : goal.update-requires-clause-searched
update-requires-clause-searched g c =
    let is : Update c.in-Update.relation c.as_slice-in-Update.result.now c.as_slice-in-Update-2.result.now ≡ c.args.op.now = (λ i. Update c.in-Update.relation (c.as_slice-in-Update.ensures i) (c.as_slice-in-Update-2.ensures i)) ∙ sym c.in-Update.is in
    subst (λ (o : Op). HasSearched (g.V.Pages.at_hand c.args.views.now) (g.V.Pages.total c.args.views.now) o c.args.search.now) (sym is) c.requires.searched

pub returns-in-Update-clause-searched : goal.returns-in-Update-clause-searched
returns-in-Update-clause-searched g c =
    let is : Update c.in-Update.relation c.as_slice-in-Update.result.now c.as_slice-in-Update-2.result.now ≡ c.args.op.now = (λ i. Update c.in-Update.relation (c.as_slice-in-Update.ensures i) (c.as_slice-in-Update-2.ensures i)) ∙ sym c.in-Update.is in
    subst (λ (o : Op). HasSearched (g.V.Pages.at_hand c.args.views.now) (g.V.Pages.total c.args.views.now) o c.update.new.search) is c.update.ensures.searched

pub delete-requires-clause-searched : goal.delete-requires-clause-searched
delete-requires-clause-searched g c =
    let is : Delete c.in-Delete.relation c.as_slice-in-Delete.result.now ≡ c.args.op.now = ap (Delete c.in-Delete.relation) c.as_slice-in-Delete.ensures ∙ sym c.in-Delete.is in
    subst (λ (o : Op). HasSearched (g.V.Pages.at_hand c.args.views.now) (g.V.Pages.total c.args.views.now) o c.args.search.now) (sym is) c.requires.searched

pub returns-in-Delete-clause-searched : goal.returns-in-Delete-clause-searched
returns-in-Delete-clause-searched g c =
    let is : Delete c.in-Delete.relation c.as_slice-in-Delete.result.now ≡ c.args.op.now = ap (Delete c.in-Delete.relation) c.as_slice-in-Delete.ensures ∙ sym c.in-Delete.is in
    subst (λ (o : Op). HasSearched (g.V.Pages.at_hand c.args.views.now) (g.V.Pages.total c.args.views.now) o c.delete.new.search) is c.delete.ensures.searched

pub returns-in-Add-clause-searched : goal.returns-in-Add-clause-searched
returns-in-Add-clause-searched g c = subst (λ (o : Op). HasSearched (g.V.Pages.at_hand c.args.views.now) (g.V.Pages.total c.args.views.now) o c.args.search.now) (sym c.in-Add.is) tt

pub returns-in-Read-clause-searched : goal.returns-in-Read-clause-searched
returns-in-Read-clause-searched g c = subst (λ (o : Op). HasSearched (g.V.Pages.at_hand c.args.views.now) (g.V.Pages.total c.args.views.now) o c.args.search.now) (sym c.in-Read.is) tt

-- ---- a scan

pub scan-requires-clause-so_far : goal.scan-requires-clause-so_far
scan-requires-clause-so_far g c = c.new.ensures (g.V.Pages.at_hand c.args.views.now) (g.V.Pages.total c.args.views.now)

pub returns-in-Scan-clause-made : goal.returns-in-Scan-clause-made
returns-in-Scan-clause-made g c = λ relations counters few within.
    ok_both c.scan.result _ _ _
    (λ act. quiet_planned c.args.split relations counters (g.V.Pages.total c.args.views.now) (g.V.Pages.at_hand c.args.views.now) c.args.room (Scan c.in-Scan.relation) c.args.op.now act (sym c.in-Scan.is))
    (c.scan.ensures.plans.made relations) c.scan.ensures.plans.quiet

pub returns-in-Scan-clause-full : goal.returns-in-Scan-clause-full
returns-in-Scan-clause-full g c = λ relations counters few within. IfOk-weaker c.scan.result _ _ (λ act. never_full act _) c.scan.ensures.plans.full

pub returns-in-Scan-clause-asks : goal.returns-in-Scan-clause-asks
returns-in-Scan-clause-asks g c =
    asks_same (g.V.Pages.at_hand c.args.views.now) c.args.room (g.V.Pages.total c.args.views.now) c.args.split _ c.args.op.now c.scan.result (sym c.in-Scan.is) (c.scan.ensures.plans.asks c.args.room c.args.split)

pub returns-in-Scan-clause-takes : goal.returns-in-Scan-clause-takes
returns-in-Scan-clause-takes g c = λ relations counters few within.
    IfOk-weaker c.scan.result _ _ (λ act. quiet_reported relations counters (g.V.Pages.total c.args.views.now) (g.V.Pages.at_hand c.args.views.now) c.args.room c.args.op.now act) c.scan.ensures.plans.quiet

pub returns-in-Scan-clause-searched : goal.returns-in-Scan-clause-searched
returns-in-Scan-clause-searched g c = subst (λ (o : Op). HasSearched (g.V.Pages.at_hand c.args.views.now) (g.V.Pages.total c.args.views.now) o c.args.search.now) (sym c.in-Scan.is) tt
