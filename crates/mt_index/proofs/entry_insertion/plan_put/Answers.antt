use Rattle.std.proofs.Common.{ap, ◌∙◌, List, ℕ, get_or, ◌≡◌, ◌<◌, inl, inr, refl, sym, subst, arith, length}
use Rattle.mt_space.proofs.Changing.{off_hand}
use Rattle.mt_space.specs.Changes.{after}
use Rattle.mt_bucket.specs.Entries.{Entry}
use Rattle.mt_bucket.specs.Page.{entries, KeepsHead, IsBucket}
use Rattle.mt_space.specs.Kinds.{kind}
use Rattle.mt_index.specs.Rule.{IsFull, Here}
use Rattle.mt_index.specs.Answers.{Adds}
use Rattle.mt_index.specs.Pages.{state_of}
use Rattle.mt_index.proofs.Passing.{passed_on, passed_kind}
use Rattle.mt_index.proofs.OnePage.{no_bucket, turns_formed}
use Rattle.mt_index.proofs.Placing.{pushed, put_first, put_stays}
use Rattle.mt_index.proofs.entry_insertion.plan_put.Goals as goal

pub returns-in_default : goal.returns-in_default
returns-in_default g c split = record {
  missing = c.in_default.ensures.none;
  role = λ pages agree m a. let h = c.requires.room pages agree m a in
      inl (inr (passed_kind (IsFull (state_of pages)) (g.V.Pages.total c.args.views.now) pages m c.args.key.now c.args.page h.steps a h.passed, refl, passed_on (IsFull (state_of pages)) pages c.args.key.now c.args.page h.steps h.passed));
}

pub returns : goal.returns
returns g c split = (
  λ pages agree m a.
      let total = g.V.Pages.total c.args.views.now in
      let p = c.args.page in
      let e : Entry = record { relation = c.args.relation; key = c.args.key.now; name = c.args.name } in
      let h = c.requires.room pages agree m a in
      let is : pages p ≡ c.in-Some.old.now = agree p c.in-Some.old.now c.in-Some.ensures.some in
      let t = c.in_ok-change_of.ensures.turned pages is in
      let two : kind pages p ≡ 2 = passed_kind (IsFull (state_of pages)) total pages m c.args.key.now p h.steps a h.passed in
      let off = no_bucket total pages m p a two in
      let planned : Adds split total e pages c.in_ok-change_of.field-0.list.items = record {
        added = record {
          way = Here p (put_first total pages (after c.in_ok-change_of.field-0.list.items pages) m e p c.push-touched.new.page a h t
              (subst (λ x. KeepsHead x c.push-touched.new.page) (sym is) c.push-touched.ensures.head)
              (rw is (pushed c.in-Some.old.now c.push-touched.new.page e c.push-touched.result (subst (λ x. length (entries x) < 58) is h.room) c.push-touched.ensures.pushed c.push-touched.ensures.full)));
          stays = put_stays total pages (after c.in_ok-change_of.field-0.list.items pages) p c.push-touched.new.page off two t;
          directory = λ none. t.others 1 off.1;
          formed = λ relations fits f. turns_formed relations total pages (after c.in_ok-change_of.field-0.list.items pages) p c.push-touched.new.page off t
              (subst (λ x. KeepsHead x c.push-touched.new.page) (sym is) c.push-touched.ensures.head) (λ b. c.push-touched.ensures.kept relations total fits.relation fits.some fits.place (subst (IsBucket relations total) is b)) f;
        };
        few = let one = c.in_ok-change_of.ensures.one in omega arith;
        short = c.in_ok-change_of.ensures.short pages is;
      } in
      (planned, λ n free some. absurd (some (ap (λ (map : List ℕ). get_or map n 0) (t.others 0 off.0) ∙ free))),
  λ x none. c.in_ok-change_of.ensures.others x (off_hand (g.V.Pages.at_hand c.args.views.now) x c.args.page c.in-Some.old.now none c.in-Some.ensures.some),
)
