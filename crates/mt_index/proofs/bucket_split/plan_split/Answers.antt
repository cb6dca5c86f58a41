use Rattle.std.proofs.Common.{List, ⊎_elim, ◌≡◌, ◌≢◌, ◌+◌, ◌<◌, Bool, ℕ, inl, inr, refl, ap, sym, ◌∙◌, subst, arith, length, true, false, get_or}
use Rattle.mt_space.proofs.Changing.{off_hand}
use Rattle.mt_bucket.specs.Entries.{Entry}
use Rattle.mt_bucket.specs.Hash.{high, hash as hash_of}
use Rattle.mt_bucket.specs.Page.{depth_of}
use Rattle.mt_space.specs.Rooms.{mapped}
use Rattle.mt_index.proofs.Free.{Fresh, fresh, none_fresh}
use Rattle.mt_index.proofs.Composing.{unput, full_half, due_end, put_pages, put_space, link_pages, apart, put_added, second_off, second_free, link_added, split_short}
use Rattle.std.proofs.lemmas.Bool.{cases_eq}
use Rattle.mt_space.specs.Changes.{after}
use Rattle.mt_index.specs.Answers.{Adds}
use Rattle.mt_index.specs.Pages.{state_of}
use Rattle.mt_index.specs.Rule.{IsSmallest}
use Rattle.mt_index.proofs.Placing.{taken_is, seen_at}
use Rattle.mt_index.specs.Halves.{AreHalves, PutsInHalf, Links, changed}
use Rattle.mt_index.specs.declared.bucket_split.Halves.{Halves}
use Rattle.mt_index.proofs.Notes.{notes_more}
use Rattle.mt_index.proofs.bucket_split.plan_split.Goals as goal

pub returns-in_default : goal.returns-in_default
returns-in_default g c = record {
  missing = ap (g.V.Pages.at_hand c.args.views.now) (c.new-in_default.ensures ∙ sym c.new.ensures) ∙ c.in_default.ensures.none;
  role = λ pages agree m a. let due = c.requires.due pages agree m a in
      inr ((c.args.bucket, true, due_end (g.V.Pages.total c.args.views.now) pages m c.args.key.now c.args.bucket a due.0 due.1), refl, inl c.new-in_default.ensures);
}

pub returns-in_default-page : goal.returns-in_default-page
returns-in_default-page g c = record {
  missing = ap (g.V.Pages.at_hand c.args.views.now) (c.new-in_default-page.ensures ∙ sym c.new-2.ensures) ∙ c.in_default-page.ensures.none;
  role = λ pages agree m a. let due = c.requires.due pages agree m a in
      inr ((c.args.bucket, true, due_end (g.V.Pages.total c.args.views.now) pages m c.args.key.now c.args.bucket a due.0 due.1), refl, inr (inl (c.new-in_default-page.ensures, refl, due.0)));
}

pub returns-in_default-first_free : goal.returns-in_default-first_free
returns-in_default-first_free g c pages agree m a =
    let due = c.requires.due pages agree m a in
    let space : pages 0 ≡ c.in-Some.space.now = subst (λ (p : ℕ). pages p ≡ c.in-Some.space.now) c.new.ensures (agree c.new.result c.in-Some.space.now c.in-Some.ensures.some) in
    let long = g.V.Pages.whole c.args.views.now c.requires.sound c.new.result c.in-Some.space.now c.in-Some.ensures.some in
    let few = a.few in
    record {
      last = c.args.bucket;
      alone = true;
      full = due_end (g.V.Pages.total c.args.views.now) pages m c.args.key.now c.args.bucket a due.0 due.1;
      free = inl (λ p lt. rw space (none_fresh c.in-Some.space.now (g.V.Pages.total c.args.views.now) (omega arith)
          (subst (λ (n : ℕ). (q : ℕ) → get_or (mapped c.in-Some.space.now n) q false ≡ false) c.count.ensures c.in_default-first_free.ensures.none) p lt));
    }

pub returns-in_default-page-2 : goal.returns-in_default-page-2
returns-in_default-page-2 g c = record {
  missing = c.in_default-page-2.ensures.none;
  role = λ pages agree m a.
      let space : pages 0 ≡ c.in-Some.space.now = subst (λ (p : ℕ). pages p ≡ c.in-Some.space.now) c.new.ensures (agree c.new.result c.in-Some.space.now c.in-Some.ensures.some) in
      let f : Fresh (pages 0) (g.V.Pages.total c.args.views.now) c.in-Some-first_free.fresh = rw (space, ← c.count.ensures) (fresh c.in-Some.space.now c.count.result c.in-Some-first_free.fresh c.in-Some-first_free.ensures.first) in
      let due = c.requires.due pages agree m a in
      inr ((c.args.bucket, true, due_end (g.V.Pages.total c.args.views.now) pages m c.args.key.now c.args.bucket a due.0 due.1), refl, inr (inr (record { free = f.free; within = f.within; before = λ n lt free. absurd (f.first n lt free) })));
}

pub returns-then-put : goal.returns-then-put
returns-then-put g c = (
  λ pages agree m a.
      let total = g.V.Pages.total c.args.views.now in
      let b = c.args.bucket in
      let q = c.in-Some-first_free.fresh in
      let e : Entry = record { relation = c.args.relation; key = c.args.key.now; name = c.args.name } in
      let due = c.requires.due pages agree m a in
      let space : pages 0 ≡ c.in-Some.space.now = subst (λ (p : ℕ). pages p ≡ c.in-Some.space.now) c.new.ensures (agree c.new.result c.in-Some.space.now c.in-Some.ensures.some) in
      let directory : pages 1 ≡ c.in-Some-page.directory.now = subst (λ (p : ℕ). pages p ≡ c.in-Some-page.directory.now) c.new-2.ensures (agree c.new-2.result c.in-Some-page.directory.now c.in-Some-page.ensures.some) in
      let old : pages b ≡ c.args.old.now = agree b c.args.old.now c.requires.there in
      let spare : pages q ≡ c.in-Some-page-2.spare.now = agree q c.in-Some-page-2.spare.now c.in-Some-page-2.ensures.some in
      let f : Fresh (pages 0) total q = rw (space, ← c.count.ensures) (fresh c.in-Some.space.now c.count.result q c.in-Some-first_free.ensures.first) in
      let w : AreHalves b q (pages 0) (pages 1) (pages b) c.halve-halves.result = rw (space, directory, old) c.halve-halves.ensures in
      let t = c.has_bit-upper.result in
      let bit : high (depth_of (pages b)) (hash_of e.key) ≡ t = rw (old, ← c.depth.ensures, ← c.hash.ensures) (sym c.has_bit-upper.ensures) in
      let p : PutsInHalf t true e c.halve-halves.result c.put.new.self = subst (λ (x : Bool). PutsInHalf t x e c.halve-halves.result c.put.new.self) c.if-put.true c.put.ensures in
      let same = put_pages t true e c.halve-halves.result c.put.new.self p in
      let on_b : c.put.new.self.bucket ≡ b = same.0 ∙ w.bucket in
      let on_q : c.put.new.self.fresh ≡ q = same.1 ∙ w.fresh in
      let n = c.in_ok-changes.ensures.notes pages space directory (ap pages on_b ∙ old) (ap pages on_q ∙ spare)
      (rw (on_b, on_q) (apart total pages m e b q c.halve-halves.result a due.0 due.1 f w)) in
      let made = c.in_ok-changes.changes.list.items in
      let map : after made pages 0 ≡ c.halve-halves.result.space = n.here.1.1.1.0 ∙ put_space t true e c.halve-halves.result c.put.new.self p in
      let planned : Adds true total e pages made = record {
        added = put_added total pages m e b q c.halve-halves.result a due.0 due.1 f w t bit c.put.new.self p c.in_ok-changes.changes.list.items n;
        few = let four = n.few in omega arith;
        short = n.short;
      } in (
        planned,
        λ x free some. seen_at (g.V.Pages.at_hand c.args.views.now) x q c.in-Some-page-2.spare.now
            (taken_is q x (pages 0) c.halve-halves.result.space w.taken free (λ z. some (ap (λ (l : List ℕ). get_or l x 0) map ∙ z))) c.in-Some-page-2.ensures.some,
      ),
  λ x none.
      let at_hand = g.V.Pages.at_hand c.args.views.now in
      let e : Entry = record { relation = c.args.relation; key = c.args.key.now; name = c.args.name } in
      let same = put_pages c.has_bit-upper.result true e c.halve-halves.result c.put.new.self (subst (λ (t : Bool). PutsInHalf c.has_bit-upper.result t e c.halve-halves.result c.put.new.self) c.if-put.true c.put.ensures) in
      c.in_ok-changes.ensures.others x
      (off_hand at_hand x 0 c.in-Some.space.now none (sym (ap at_hand c.new.ensures) ∙ c.in-Some.ensures.some))
      (off_hand at_hand x 1 c.in-Some-page.directory.now none (sym (ap at_hand c.new-2.ensures) ∙ c.in-Some-page.ensures.some))
      (λ e. off_hand at_hand x c.args.bucket c.args.old.now none c.requires.there (e ∙ same.0 ∙ c.halve-halves.ensures.bucket))
      (λ e. off_hand at_hand x c.in-Some-first_free.fresh c.in-Some-page-2.spare.now none c.in-Some-page-2.ensures.some (e ∙ same.1 ∙ c.halve-halves.ensures.fresh)),
)

pub returns-in_default-first_free-2 : goal.returns-in_default-first_free-2
returns-in_default-first_free-2 g c pages agree m a =
    let total = g.V.Pages.total c.args.views.now in
    let b = c.args.bucket in
    let q = c.in-Some-first_free.fresh in
    let e : Entry = record { relation = c.args.relation; key = c.args.key.now; name = c.args.name } in
    let due = c.requires.due pages agree m a in
    let space : pages 0 ≡ c.in-Some.space.now = subst (λ (p : ℕ). pages p ≡ c.in-Some.space.now) c.new.ensures (agree c.new.result c.in-Some.space.now c.in-Some.ensures.some) in
    let directory : pages 1 ≡ c.in-Some-page.directory.now = subst (λ (p : ℕ). pages p ≡ c.in-Some-page.directory.now) c.new-2.ensures (agree c.new-2.result c.in-Some-page.directory.now c.in-Some-page.ensures.some) in
    let old : pages b ≡ c.args.old.now = agree b c.args.old.now c.requires.there in
    let long = g.V.Pages.whole c.args.views.now c.requires.sound c.new.result c.in-Some.space.now c.in-Some.ensures.some in
    let few = a.few in
    let f : Fresh (pages 0) total q = rw (space, ← c.count.ensures) (fresh c.in-Some.space.now c.count.result q c.in-Some-first_free.ensures.first) in
    let w : AreHalves b q (pages 0) (pages 1) (pages b) c.halve-halves.result = rw (space, directory, old) c.halve-halves.ensures in
    let t = c.has_bit-upper.result in
    let bit : high (depth_of (pages b)) (hash_of e.key) ≡ t = rw (old, ← c.depth.ensures, ← c.hash.ensures) (sym c.has_bit-upper.ensures) in
    let p : PutsInHalf t false e c.halve-halves.result c.put.new.self = subst (λ (x : Bool). PutsInHalf t x e c.halve-halves.result c.put.new.self) c.if-put.false c.put.ensures in
    let same = unput t e c.halve-halves.result c.put.new.self p in
    let size : length c.put.new.self.space ≡ 4096 = ap (λ (x : Halves). length x.space) same ∙ w.taken.size ∙ ap length space ∙ long in
    let none = none_fresh c.put.new.self.space total (omega arith) (subst (λ (n : ℕ). (x : ℕ) → get_or (mapped c.put.new.self.space n) x false ≡ false) c.count-2.ensures c.in_default-first_free-2.ensures.none) in
    split_short total pages m e b q c.halve-halves.result a due.0 due.1 f w t bit (full_half t e c.halve-halves.result c.put.new.self p)
    (subst (λ (x : Halves). (n : ℕ) → n < total → get_or x.space n 0 ≢ 0) same none)

pub returns-in_default-page-3 : goal.returns-in_default-page-3
returns-in_default-page-3 g c = record {
  missing = c.in_default-page-3.ensures.none;
  role = λ pages agree m a.
      let total = g.V.Pages.total c.args.views.now in
      let b = c.args.bucket in
      let q = c.in-Some-first_free.fresh in
      let e : Entry = record { relation = c.args.relation; key = c.args.key.now; name = c.args.name } in
      let due = c.requires.due pages agree m a in
      let space : pages 0 ≡ c.in-Some.space.now = subst (λ (p : ℕ). pages p ≡ c.in-Some.space.now) c.new.ensures (agree c.new.result c.in-Some.space.now c.in-Some.ensures.some) in
      let directory : pages 1 ≡ c.in-Some-page.directory.now = subst (λ (p : ℕ). pages p ≡ c.in-Some-page.directory.now) c.new-2.ensures (agree c.new-2.result c.in-Some-page.directory.now c.in-Some-page.ensures.some) in
      let old : pages b ≡ c.args.old.now = agree b c.args.old.now c.requires.there in
      let f : Fresh (pages 0) total q = rw (space, ← c.count.ensures) (fresh c.in-Some.space.now c.count.result q c.in-Some-first_free.ensures.first) in
      let w : AreHalves b q (pages 0) (pages 1) (pages b) c.halve-halves.result = rw (space, directory, old) c.halve-halves.ensures in
      let t = c.has_bit-upper.result in
      let p : PutsInHalf t false e c.halve-halves.result c.put.new.self = subst (λ (x : Bool). PutsInHalf t x e c.halve-halves.result c.put.new.self) c.if-put.false c.put.ensures in
      let same = unput t e c.halve-halves.result c.put.new.self p in
      let s : Fresh c.halve-halves.result.space total c.in-Some-first_free-2.overflow = subst (λ (x : Halves). Fresh x.space total c.in-Some-first_free-2.overflow) same
      (rw (← c.count-2.ensures) (fresh c.put.new.self.space c.count-2.result c.in-Some-first_free-2.overflow c.in-Some-first_free-2.ensures.first)) in
      inr (
        (c.args.bucket, true, due_end (g.V.Pages.total c.args.views.now) pages m c.args.key.now c.args.bucket a due.0 due.1),
        refl,
        inr (inr (record {
          free = second_free total pages m e b q c.halve-halves.result a due.0 due.1 f w c.in-Some-first_free-2.overflow s;
          within = s.within;
          before = λ n lt free.
              let here : n ≡ q = taken_is q n (pages 0) c.halve-halves.result.space w.taken free (s.first n lt) in
              (refl, due.0, subst (IsSmallest (state_of pages)) (sym here) (f.free, f.first));
        })),
      );
}

pub returns : goal.returns
returns g c = (
  λ pages agree m a.
      let total = g.V.Pages.total c.args.views.now in
      let b = c.args.bucket in
      let q = c.in-Some-first_free.fresh in
      let q2 = c.in-Some-first_free-2.overflow in
      let e : Entry = record { relation = c.args.relation; key = c.args.key.now; name = c.args.name } in
      let due = c.requires.due pages agree m a in
      let space : pages 0 ≡ c.in-Some.space.now = subst (λ (p : ℕ). pages p ≡ c.in-Some.space.now) c.new.ensures (agree c.new.result c.in-Some.space.now c.in-Some.ensures.some) in
      let directory : pages 1 ≡ c.in-Some-page.directory.now = subst (λ (p : ℕ). pages p ≡ c.in-Some-page.directory.now) c.new-2.ensures (agree c.new-2.result c.in-Some-page.directory.now c.in-Some-page.ensures.some) in
      let old : pages b ≡ c.args.old.now = agree b c.args.old.now c.requires.there in
      let spare : pages q ≡ c.in-Some-page-2.spare.now = agree q c.in-Some-page-2.spare.now c.in-Some-page-2.ensures.some in
      let blank : pages q2 ≡ c.in-Some-page-3.blank.now = agree q2 c.in-Some-page-3.blank.now c.in-Some-page-3.ensures.some in
      let f : Fresh (pages 0) total q = rw (space, ← c.count.ensures) (fresh c.in-Some.space.now c.count.result q c.in-Some-first_free.ensures.first) in
      let h = c.halve-halves.result in
      let w : AreHalves b q (pages 0) (pages 1) (pages b) c.halve-halves.result = rw (space, directory, old) c.halve-halves.ensures in
      let t = c.has_bit-upper.result in
      let bit : high (depth_of (pages b)) (hash_of e.key) ≡ t = rw (old, ← c.depth.ensures, ← c.hash.ensures) (sym c.has_bit-upper.ensures) in
      let p : PutsInHalf t false e c.halve-halves.result c.put.new.self = subst (λ (x : Bool). PutsInHalf t x e c.halve-halves.result c.put.new.self) c.if-put.false c.put.ensures in
      let same = unput t e c.halve-halves.result c.put.new.self p in
      let s : Fresh c.halve-halves.result.space total q2 = subst (λ (x : Halves). Fresh x.space total q2) same
      (rw (← c.count-2.ensures) (fresh c.put.new.self.space c.count-2.result q2 c.in-Some-first_free-2.ensures.first)) in
      let l : Links t q2 c.halve-halves.result c.link.new.self = subst (λ (x : Halves). Links t q2 x c.link.new.self) same c.link.ensures in
      let linked = link_pages t q2 c.halve-halves.result c.link.new.self l in
      let on_b : c.link.new.self.bucket ≡ b = linked.0 ∙ w.bucket in
      let on_q : c.link.new.self.fresh ≡ q = linked.1 ∙ w.fresh in
      let n = c.in_ok-changes-2.ensures.notes pages space directory (ap pages on_b ∙ old) (ap pages on_q ∙ spare)
      (rw (on_b, on_q) (apart total pages m e b q c.halve-halves.result a due.0 due.1 f w)) in
      let off = second_off total pages m e b q c.halve-halves.result a due.0 due.1 f w q2 s in
      let n5 = notes_more (changed c.link.new.self) pages c.in_ok-changes-2.changes.list.items c.note.new.self.list.items q2 c.in-Some-page-3.blank.now c.overflow_page-page.result n
      (λ i. off.0 (i ∙ on_q), (λ i. off.1.0 (i ∙ on_b), (off.1.1.0, (off.1.1.1, tt)))) blank c.in_ok-note.ensures.noted c.in_ok-note.ensures.short c.in_ok-note.ensures.others c.in_ok-note.ensures.count in
      let level : depth_of (pages b) + 1 ≡ c.depth-2.result + 1 = ap (λ (x : ℕ). x + 1) (ap depth_of old ∙ sym c.depth-2.ensures) in
      let made = c.note.new.self.list.items in
      let map : after made pages 0 ≡ c.link.new.self.space = n5.here.1.1.1.1.0 in
      let planned : Adds true total e pages made = record {
        added = link_added total pages m e b q c.halve-halves.result a due.0 due.1 f w t bit c.link.new.self (full_half t e c.halve-halves.result c.put.new.self p) q2 s l c.overflow_page-page.result
            (rw level c.overflow_page-page.ensures.one)
            (λ relations shallow fits. c.overflow_page-page.ensures.bucket relations total (omega arith) fits.relation fits.some fits.place)
            c.note.new.self.list.items n5;
        few = let five = n5.few in omega arith;
        short = n5.short;
      } in (
        planned,
        λ x free some. ⊎_elim
            (λ (second : x ≡ q2). seen_at (g.V.Pages.at_hand c.args.views.now) x q2 c.in-Some-page-3.blank.now second c.in-Some-page-3.ensures.some)
            (λ (other : x ≢ q2). seen_at (g.V.Pages.at_hand c.args.views.now) x q c.in-Some-page-2.spare.now
            (taken_is q x (pages 0) h.space w.taken free (λ z. some (ap (λ (l : List ℕ). get_or l x 0) map ∙ l.taken.others x other ∙ z))) c.in-Some-page-2.ensures.some)
            (cases_eq x q2),
      ),
  λ x none.
      let at_hand = g.V.Pages.at_hand c.args.views.now in
      let q2 = c.in-Some-first_free-2.overflow in
      let e : Entry = record { relation = c.args.relation; key = c.args.key.now; name = c.args.name } in
      let same = unput c.has_bit-upper.result e c.halve-halves.result c.put.new.self (subst (λ (t : Bool). PutsInHalf c.has_bit-upper.result t e c.halve-halves.result c.put.new.self) c.if-put.false c.put.ensures) in
      let linked = link_pages c.has_bit-upper.result q2 c.halve-halves.result c.link.new.self (subst (λ (h : Halves). Links c.has_bit-upper.result q2 h c.link.new.self) same c.link.ensures) in
      c.in_ok-note.ensures.others x (off_hand at_hand x q2 c.in-Some-page-3.blank.now none c.in-Some-page-3.ensures.some)
      (c.in_ok-changes-2.ensures.others x
      (off_hand at_hand x 0 c.in-Some.space.now none (sym (ap at_hand c.new.ensures) ∙ c.in-Some.ensures.some))
      (off_hand at_hand x 1 c.in-Some-page.directory.now none (sym (ap at_hand c.new-2.ensures) ∙ c.in-Some-page.ensures.some))
      (λ e. off_hand at_hand x c.args.bucket c.args.old.now none c.requires.there (e ∙ linked.0 ∙ c.halve-halves.ensures.bucket))
      (λ e. off_hand at_hand x c.in-Some-first_free.fresh c.in-Some-page-2.spare.now none c.in-Some-page-2.ensures.some (e ∙ linked.1 ∙ c.halve-halves.ensures.fresh))),
)
