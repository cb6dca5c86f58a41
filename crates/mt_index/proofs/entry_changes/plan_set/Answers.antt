use Rattle.std.proofs.Common.{◌≡◌, ap, sym, ◌∙◌, subst}
use Rattle.mt_space.proofs.Changing.{off_hand}
use Rattle.mt_space.specs.Changes.{after}
use Rattle.mt_bucket.specs.Page.{KeepsHead, IsBucket}
use Rattle.mt_space.specs.Kinds.{kind}
use Rattle.mt_index.specs.Answers.{Lacks}
use Rattle.mt_index.proofs.Passing.{passed_kind, held_map}
use Rattle.mt_index.proofs.OnePage.{no_bucket, set_map, turns_formed}
use Rattle.mt_index.proofs.entry_changes.plan_set.Goals as goal

pub returns-clause-set : goal.returns-clause-set
returns-clause-set g c pages agree m a =
    let is : pages c.in-In.page ≡ c.in-Some.old.now = agree c.in-In.page c.in-Some.old.now c.in-Some.ensures.some in
    let held = c.in-In.ensures.1 pages agree m a in
    let total = g.V.Pages.total c.args.views.now in
    let t = c.in_ok-change_of.ensures.turned pages is in
    record {
      there = (c.in-In.field-1, held_map total pages m c.args.relation c.args.key.now c.in-In.page c.in-In.field-1 a held);
      map = set_map total pages (after c.in_ok-change_of.field-0.list.items pages) m c.args.relation c.args.key.now c.in-In.page c.in-In.field-1 c.args.name c.in-Some.old.now c.set-touched.new.page c.set-touched.result
          a held is t c.set-touched.ensures.head c.set-touched.ensures.set c.set-touched.ensures.none;
      others = λ n away. t.others n (λ e. away (ap (kind pages) e ∙ passed_kind (Lacks c.args.relation c.args.key.now pages) total pages m c.args.key.now c.in-In.page held.steps a held.passed));
      one = c.in_ok-change_of.ensures.one;
      short = c.in_ok-change_of.ensures.short pages is;
    }

pub returns-clause-formed : goal.returns-clause-formed
returns-clause-formed g c pages agree m a relations place f =
    let is : pages c.in-In.page ≡ c.in-Some.old.now = agree c.in-In.page c.in-Some.old.now c.in-Some.ensures.some in
    let held = c.in-In.ensures.1 pages agree m a in
    let total = g.V.Pages.total c.args.views.now in
    turns_formed relations total pages (after c.in_ok-change_of.field-0.list.items pages) c.in-In.page c.set-touched.new.page
    (no_bucket total pages m c.in-In.page a (passed_kind (Lacks c.args.relation c.args.key.now pages) total pages m c.args.key.now c.in-In.page held.steps a held.passed))
    (c.in_ok-change_of.ensures.turned pages is) (subst (λ x. KeepsHead x c.set-touched.new.page) (sym is) c.set-touched.ensures.head) (λ b. c.set-touched.ensures.kept relations total place (subst (IsBucket relations total) is b)) f

pub returns-clause-seen : goal.returns-clause-seen
returns-clause-seen g c p none = c.in_ok-change_of.ensures.others p (off_hand (g.V.Pages.at_hand c.args.views.now) p c.in-In.page c.in-Some.old.now none c.in-Some.ensures.some)
