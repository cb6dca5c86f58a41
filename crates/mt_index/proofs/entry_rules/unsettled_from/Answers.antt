use Rattle.std.proofs.Common.{◌≡◌, ◌≢◌, ◌∙◌, ℕ, get_or, sym, ap}
use Rattle.mt_space.specs.PageLists.{bytes_of}
use Rattle.mt_index.proofs.Settled.{bucket_settles, misplaced_unsettled, answer_follows}
use Rattle.mt_index.proofs.entry_rules.unsettled_from.Goals as goal

pub returns : goal.returns
returns c =
    let pages = bytes_of c.args.pages.now in
    let homes = c.args.homes.now in
    let b = c.args.page in
    let at : c.from.result ≡ b = c.from.ensures ∙ c.get.ensures in
    let home : get_or homes b 0 ≡ b = ap (λ (i : ℕ). get_or homes i 0) (sym at) ∙ c.if-home-get.false ∙ c.get-2.ensures in
    let real : b ≢ 0 = λ e. c.if-home-eq0.false (ap (λ (i : ℕ). get_or homes i 0) at ∙ home ∙ e) in
    answer_follows (λ alone _. bucket_settles pages homes _ b c.requires.marked real home alone) (λ p wrong. misplaced_unsettled pages homes _ b p c.requires.marked real home wrong) c.find_misplaced.result c.find_misplaced.ensures
