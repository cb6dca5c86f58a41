use Rattle.std.proofs.Common.{[], ◌++◌, ◌∙◌, append-nil, ap, sym}
use Rattle.std.specs.List.{cons_option}
use Rattle.mt_index.proofs.Bucketwise.{page_more}
use Rattle.mt_index.proofs.record_names.gather_page.Goals.{in-Some+in_ok-push, in_default}
use Rattle.mt_index.proofs.record_names.gather_page.Goals as goal

pub loop-i-preserved : goal.loop-i-preserved
loop-i-preserved c = elim c.match-name_in.branch [
  | in-Some+in_ok-push w ↦ page_more c.args.page.now c.args.relation c.loop-i.i c.args.names.now.items c.loop-i.names.items c.match-name_in.names.items c.name_in.result
      c.loop-i.invariant c.name_in.ensures (ap (λ (v : _). v.items) w.names-is ∙ w.in_ok-push.ensures.items ∙ ap (λ o. c.loop-i.names.items ++ cons_option o []) (sym w.in-Some.is))
  | in_default w ↦ page_more c.args.page.now c.args.relation c.loop-i.i c.args.names.now.items c.loop-i.names.items c.match-name_in.names.items c.name_in.result
      c.loop-i.invariant c.name_in.ensures (ap (λ (v : _). v.items) w.names-is ∙ sym (append-nil c.loop-i.names.items) ∙ ap (λ o. c.loop-i.names.items ++ cons_option o []) (sym w.in_default.is))
]
