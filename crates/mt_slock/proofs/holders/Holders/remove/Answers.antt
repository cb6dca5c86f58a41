use Rattle.std.proofs.Common.{rules, not, filter, ◌∙◌, ap}
use Rattle.std.proofs.lemmas.Fn.{filter_same}
use Rattle.mt_slock.specs.Views.{is_holder, in_order}
use Rattle.mt_slock.specs.declared.holders.Holder.{Holder}
use Rattle.mt_slock.proofs.holders.Holders.remove.Goals as goal

pub returns : goal.returns
returns c =
    ap (in_order c.without-self-inside.result) (filter_same _ (λ (h : Holder). not (is_holder c.args.txn c.args.mode h)) _ (λ h b f k. search rules) _ _ c.retain.ensures.filtered)
    ∙ (c.without-self-inside.ensures c.self.inside.others.items ∙ ap (filter (λ (h : Holder). not (is_holder c.args.txn c.args.mode h))) c.self.view_is)
