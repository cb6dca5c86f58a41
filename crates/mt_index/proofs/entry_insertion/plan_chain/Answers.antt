use Rattle.std.proofs.Common.{◌≡◌, ◌≢◌, ℕ, [], get_or, false, inl, inr, refl, ap, sym, ◌∙◌, subst, arith}
use Rattle.mt_space.proofs.Changing.{off_hand}
use Rattle.mt_space.specs.Changes.{PageBytes, after, IsUntouched}
use Rattle.mt_bucket.specs.Entries.{Entry}
use Rattle.mt_bucket.specs.Page.{depth_of, IsBucket}
use Rattle.mt_space.specs.Kinds.{kind}
use Rattle.mt_space.specs.Rooms.{mapped}
use Rattle.mt_index.specs.Rule.{IsFull, Chained as ByChain}
use Rattle.mt_index.specs.Answers.{Adds}
use Rattle.mt_index.specs.Pages.{state_of}
use Rattle.mt_index.proofs.Free.{Fresh, fresh, none_fresh}
use Rattle.mt_index.proofs.Notes.{notes_none, notes_more}
use Rattle.mt_index.proofs.Passing.{passed_on, passed_kind}
use Rattle.mt_index.proofs.OnePage.{no_bucket}
use Rattle.mt_index.proofs.Placing.{Chained, fresh_off, taken_is, seen_at, chain_last, chain_smallest, chain_stays, chain_formed}
use Rattle.mt_index.proofs.entry_insertion.plan_chain.Goals as goal

pub returns-in_default : goal.returns-in_default
returns-in_default g c split no_split = record {
  missing = ap (g.V.Pages.at_hand c.args.views.now) (c.new-in_default.ensures ∙ sym c.new.ensures) ∙ c.in_default.ensures.none;
  role = λ pages agree m a. let end = c.requires.end pages agree m a in inr ((c.args.last, end.0, end.1), refl, inl c.new-in_default.ensures);
}

pub returns-in_default-page : goal.returns-in_default-page
returns-in_default-page g c split no_split = record {
  missing = c.in_default-page.ensures.none;
  role = λ pages agree m a. let end = c.requires.end pages agree m a in
      inl (inr (passed_kind (IsFull (state_of pages)) (g.V.Pages.total c.args.views.now) pages m c.args.key.now c.args.last end.1.steps a end.1.passed, refl, passed_on (IsFull (state_of pages)) pages c.args.key.now c.args.last end.1.steps end.1.passed));
}

pub returns-in_default-first_free : goal.returns-in_default-first_free
returns-in_default-first_free g c split no_split pages agree m a =
    let end = c.requires.end pages agree m a in
    let space : pages 0 ≡ c.in-Some.space.now = subst (λ (p : ℕ). pages p ≡ c.in-Some.space.now) c.new.ensures (agree c.new.result c.in-Some.space.now c.in-Some.ensures.some) in
    let long = g.V.Pages.whole c.args.views.now c.requires.sound c.new.result c.in-Some.space.now c.in-Some.ensures.some in
    let few = a.few in
    record {
      last = c.args.last;
      alone = end.0;
      full = end.1;
      free = inl (λ p lt. rw space (none_fresh c.in-Some.space.now (g.V.Pages.total c.args.views.now) (omega arith)
          (subst (λ (n : ℕ). (q : ℕ) → get_or (mapped c.in-Some.space.now n) q false ≡ false) c.count.ensures c.in_default-first_free.ensures.none) p lt));
    }

pub returns-in_default-page-2 : goal.returns-in_default-page-2
returns-in_default-page-2 g c split no_split = record {
  missing = c.in_default-page-2.ensures.none;
  role = λ pages agree m a.
      let space : pages 0 ≡ c.in-Some.space.now = subst (λ (p : ℕ). pages p ≡ c.in-Some.space.now) c.new.ensures (agree c.new.result c.in-Some.space.now c.in-Some.ensures.some) in
      let f : Fresh (pages 0) (g.V.Pages.total c.args.views.now) c.in-Some-first_free.fresh = rw (space, ← c.count.ensures) (fresh c.in-Some.space.now c.count.result c.in-Some-first_free.fresh c.in-Some-first_free.ensures.first) in
      let end = c.requires.end pages agree m a in
      inr ((c.args.last, end.0, end.1), refl, inr (inr (record { free = f.free; within = f.within; before = λ n lt free. absurd (f.first n lt free) })));
}

pub returns : goal.returns
returns g c split no_split = (
  λ pages agree m a.
      let total = g.V.Pages.total c.args.views.now in
      let z = c.args.last in
      let q = c.in-Some-first_free.fresh in
      let e : Entry = record { relation = c.args.relation; key = c.args.key.now; name = c.args.name } in
      let end = c.requires.end pages agree m a in
      let space : pages 0 ≡ c.in-Some.space.now = subst (λ (p : ℕ). pages p ≡ c.in-Some.space.now) c.new.ensures (agree c.new.result c.in-Some.space.now c.in-Some.ensures.some) in
      let old : pages z ≡ c.in-Some-page.old.now = agree z c.in-Some-page.old.now c.in-Some-page.ensures.some in
      let spare_is : pages q ≡ c.in-Some-page-2.spare.now = agree q c.in-Some-page-2.spare.now c.in-Some-page-2.ensures.some in
      let f : Fresh (pages 0) total q = rw (space, ← c.count.ensures) (fresh c.in-Some.space.now c.count.result q c.in-Some-first_free.ensures.first) in
      let two : kind pages z ≡ 2 = passed_kind (IsFull (state_of pages)) total pages m c.args.key.now z end.1.steps a end.1.passed in
      let off = fresh_off total pages m q a f.free in
      let off_z = no_bucket total pages m z a two in
      let apart : z ≢ q = λ same. let k : kind pages q ≡ 2 = ap (kind pages) (sym same) ∙ two in let free = f.free in omega (arith, k, free) in
      let zero_is = c.new-2.ensures in
      let n0 = notes_none pages c.new-changes.result.list.items c.new-changes.ensures in
      let n1 = notes_more [] pages c.new-changes.result.list.items c.note.new.self.list.items c.new-2.result c.in-Some.space.now c.taken_from-taken.result n0
      tt (ap pages zero_is ∙ space) c.in_ok-note.ensures.noted c.in_ok-note.ensures.short c.in_ok-note.ensures.others c.in_ok-note.ensures.count in
      let n2 = notes_more _ pages c.note.new.self.list.items c.note-2.new.self.list.items q c.in-Some-page-2.spare.now c.overflow_page-new.result n1
      (λ same. off.0 (sym zero_is ∙ sym same), tt) spare_is c.in_ok-note-2.ensures.noted c.in_ok-note-2.ensures.short c.in_ok-note-2.ensures.others c.in_ok-note-2.ensures.count in
      let n3 = notes_more _ pages c.note-2.new.self.list.items c.note-3.new.self.list.items z c.in-Some-page.old.now c.set_next.new.page n2
      (apart, (λ same. off_z.0 (sym zero_is ∙ sym same), tt)) old c.in_ok-note-3.ensures.noted c.in_ok-note-3.ensures.short c.in_ok-note-3.ensures.others c.in_ok-note-3.ensures.count in
      let pages2 : PageBytes = after c.note-3.new.self.list.items pages in
      let here_0 : pages2 0 ≡ c.taken_from-taken.result = subst (λ (p : ℕ). pages2 p ≡ c.taken_from-taken.result) zero_is n3.here.1.1.0 in
      let level : depth_of (pages z) ≡ c.depth.result = ap depth_of old ∙ sym c.depth.ensures in
      let w : Chained total e z q pages pages2 = record {
        fresh = f;
        taken = rw (here_0, space) c.taken_from-taken.ensures;
        page = rw (n3.here.1.0, level) c.overflow_page-new.ensures.one;
        depth = rw (n3.here.0, old) c.set_next.ensures.depth;
        next = rw n3.here.0 c.set_next.ensures.next;
        entries = rw (n3.here.0, old) c.set_next.ensures.entries;
        others = λ n not_map not_new not_last. n3.others n (not_last, (not_new, (λ same. not_map (same ∙ zero_is), tt)));
      } in
      let at_end = chain_last total pages pages2 m e z q end.0 a end.1 w in
      let planned : Adds split total e pages c.note-3.new.self.list.items = record {
        added = record {
          way = ByChain z q (no_split pages agree m a) (chain_smallest total pages q f) at_end;
          stays = chain_stays total pages pages2 m e z q a two w;
          directory = λ none. w.others 1 (λ e. omega (arith, e)) off.1 off_z.1;
          formed = λ relations fits formed. chain_formed relations total pages pages2 m e z q a two w at_end
              (λ shallow. rw n3.here.1.0 (c.overflow_page-new.ensures.bucket relations total (omega (arith, shallow, level)) fits.relation fits.some fits.place))
              (λ within b. rw n3.here.0 (c.set_next.ensures.kept relations total within (subst (IsBucket relations total) old b))) formed;
        };
        few = let n = n3.few in omega arith;
        short = n3.short;
      } in
      (planned, λ p free some. seen_at (g.V.Pages.at_hand c.args.views.now) p q c.in-Some-page-2.spare.now (taken_is q p (pages 0) (pages2 0) w.taken free some) c.in-Some-page-2.ensures.some),
  λ x none.
      let at_hand = g.V.Pages.at_hand c.args.views.now in
      let blank = subst (λ cs. IsUntouched cs x) (sym c.new-changes.ensures) tt in
      let zero : x ≢ c.new-2.result = off_hand at_hand x c.new-2.result c.in-Some.space.now none (ap at_hand (c.new-2.ensures ∙ sym c.new.ensures) ∙ c.in-Some.ensures.some) in
      c.in_ok-note-3.ensures.others x (off_hand at_hand x c.args.last c.in-Some-page.old.now none c.in-Some-page.ensures.some)
      (c.in_ok-note-2.ensures.others x (off_hand at_hand x c.in-Some-first_free.fresh c.in-Some-page-2.spare.now none c.in-Some-page-2.ensures.some)
      (c.in_ok-note.ensures.others x zero blank)),
)
