use Rattle.std.proofs.Common.{◌||◌, ap, sym, ◌∙◌}
use Rattle.mt_slock.specs.Views.{is_among}
use Rattle.mt_slock.proofs.holders.Holders.has.Goals as goal

pub returns-else-is_first : goal.returns-else-is_first
returns-else-is_first c =
    c.is_in.ensures ∙ (ap (λ hs. is_among hs c.args.txn c.args.mode) c.deref.ensures.value ∙ ap (λ b. b || is_among c.self.inside.others.items c.args.txn c.args.mode) (sym c.if-is_first.false)
    ∙ (sym (c.is_first.ensures c.self.inside.others.items) ∙ ap (λ hs. is_among hs c.args.txn c.args.mode) c.self.view_is))
