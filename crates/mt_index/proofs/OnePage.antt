-- One page of a bucket changes.
use Rattle.std.proofs.Common.{◌≡◌, ◌≢◌, ℕ, ◌^◌, ◌⊎◌, inl, inr, Bool, true, false, cond, List, [], ◌∷◌, ◌++◌, Option, Some, None, refl, ap, sym, ◌∙◌, subst, arith, get_or}
use Rattle.std.specs.Option.{IfSome, IfNone}
use Rattle.std.proofs.lemmas.Bool.{cases_eq}
use Rattle.mt_base.specs.declared.numbers.RecordName.{RecordName}
use Rattle.mt_bucket.specs.Entries.{Entry, is_at, look, renamed, last_first, without}
use Rattle.mt_bucket.specs.Page.{depth_of, next_of, entries, KeepsHead, IsBucket}
use Rattle.mt_index.specs.Maps.{Map, alter}
use Rattle.mt_index.specs.Index.{IsIndex}
use Rattle.mt_index.specs.Steps.{OnChain, OnePage}
use Rattle.mt_space.specs.Changes.{PageBytes}
use Rattle.mt_space.specs.Kinds.{kind}
use Rattle.mt_index.specs.Pages.{depth_in, pointers_from, node_of, state_of, AreMap, IsDirectory, AreFormed, Turns}
use Rattle.mt_index.specs.Answers.{Lacks, Holds}
use Rattle.mt_space.specs.Changes.{replaced}
use Rattle.mt_space.proofs.Changing.{replaced_here, replaced_other}
use Rattle.mt_index.proofs.Lists.{at_parts}
use Rattle.mt_index.proofs.Keeping.{drop_kept, set_kept}
use Rattle.mt_index.proofs.Chaining.{page_chained, chained_in, chained_of}
use Rattle.mt_index.proofs.Passing.{passed_kind, passed_on}

pub turns : (p : ℕ) (new : List ℕ) (pages pages2 : PageBytes) → pages2 ≡ replaced p new pages → Turns p new pages pages2
turns p new pages pages2 is = record {
  here = ap (λ (f : PageBytes). f p) is ∙ replaced_here p p new pages refl;
  others = λ n off. ap (λ (f : PageBytes). f n) is ∙ replaced_other p n new pages off;
}

-- pages 0 and 1 are no bucket's
pub no_bucket : (total : ℕ) (pages : PageBytes) (m : Map) (p : ℕ) → AreMap total pages m → kind pages p ≡ 2 → (0 ≢ p) × (1 ≢ p)
no_bucket total pages m p a is = (
  λ e. let k : kind pages 0 ≡ 2 = ap (kind pages) e ∙ is in let f = a.space_fixed in omega (arith, k, f),
  λ e. let k : kind pages 1 ≡ 2 = ap (kind pages) e ∙ is in let f = a.directory_fixed in omega (arith, k, f),
)

pub one_page : (pages pages2 : PageBytes) (p : ℕ) (new : List ℕ) (es : List Entry) → (0 ≢ p) × (1 ≢ p) → Turns p new pages pages2 → KeepsHead (pages p) new → entries new ≡ es
    → OnePage p es (state_of pages) (state_of pages2)
one_page pages pages2 p new es off t head is = record {
  g = ap depth_in (t.others 1 off.1);
  pointers = ap (λ (c : List ℕ). pointers_from c 8 (2 ^ depth_in c)) (t.others 1 off.1);
  kind = λ j x. get_or (t.others 0 off.0 j) x 0;
  page = record {
    page = λ j. record {
      depth = (ap depth_of t.here ∙ head.depth) j;
      next = (ap next_of t.here ∙ head.next) j;
      entries = (ap entries t.here ∙ is) j;
    };
    others = λ x away. ap node_of (t.others x away);
  };
}

-- the space is as before
pub same_space : (total : ℕ) (pages pages2 : PageBytes) (m m2 : Map) → AreMap total pages m → pages2 0 ≡ pages 0 → IsIndex (state_of pages2) m2 → AreMap total pages2 m2
same_space total pages pages2 m m2 a same index = record {
  index = index;
  space_fixed = ap (λ (c : List ℕ). get_or c 0 0) same ∙ a.space_fixed;
  directory_fixed = ap (λ (c : List ℕ). get_or c 1 0) same ∙ a.directory_fixed;
  within = λ p some. a.within p (λ none. some (ap (λ (c : List ℕ). get_or c p 0) same ∙ none));
  few = a.few;
}

pub turns_formed : (relations total : ℕ) (pages pages2 : PageBytes) (p : ℕ) (new : List ℕ) → (0 ≢ p) × (1 ≢ p) → Turns p new pages pages2
    → KeepsHead (pages p) new → (IsBucket relations total (pages p) → IsBucket relations total new) → AreFormed relations total pages → AreFormed relations total pages2
turns_formed relations total pages pages2 p new off t head kept f = record {
  directory = subst IsDirectory (sym (t.others 1 off.1)) f.directory;
  buckets = λ n is. bucket n (ap (λ (c : List ℕ). get_or c n 0) (sym (t.others 0 off.0)) ∙ is) (cases_eq n p);
  chained = chained_of pages2 (page_chained p (entries new) (state_of pages) (state_of pages2) (one_page pages pages2 p new (entries new) off t head refl) (chained_in pages f.chained));
}
  where
    bucket : (n : ℕ) → kind pages n ≡ 2 → (n ≡ p) ⊎ (n ≡ p → ⊥) → IsBucket relations total (pages2 n)
    bucket n is (inl here) = subst (λ (x : ℕ). IsBucket relations total (pages2 x)) (sym here)
        (subst (IsBucket relations total) (sym t.here) (kept (subst (λ (x : ℕ). IsBucket relations total (pages x)) here (f.buckets n is))))
    bucket n is (inr there) = subst (IsBucket relations total) (sym (t.others n there)) (f.buckets n is)

-- ---- the entry of a key

-- where a list has the entry of a key
pub record Parts (r : ℕ) (k : List ℕ) (es : List Entry) : Type 0 where
  pub front : List Entry
  pub entry : Entry
  pub back : List Entry
  pub whole : es ≡ front ++ entry ∷ back
  pub relation : entry.relation ≡ r
  pub key : entry.key ≡ k
  pub set : (name : RecordName) → renamed r k name es ≡ front ++ record entry { name = name } ∷ back
  pub gone : without r k es ≡ front ++ last_first back

pub parts_of : (r : ℕ) (k : List ℕ) (es : List Entry) (old : RecordName) → look r k es ≡ Some old → Parts r k es
parts_of r k [] old is = absurd cc
parts_of r k (e ∷ es) old is = go (is_at r k e) refl (parts_of r k es old)
  where
    go : (b : Bool) → is_at r k e ≡ b → (look r k es ≡ Some old → Parts r k es) → Parts r k (e ∷ es)
    go true t rec = let p = at_parts r k e t in record {
      front = [];
      entry = e;
      back = es;
      whole = refl;
      relation = p.0;
      key = p.1;
      set = λ name. ap (λ (b : Bool). cond b (record e { name = name } ∷ es) (e ∷ renamed r k name es)) t;
      gone = ap (λ (b : Bool). cond b (last_first es) (e ∷ without r k es)) t;
    }
    go false t rec = let p = rec (sym (ap (λ (b : Bool). cond b (Some e.name) (look r k es)) t) ∙ is) in record {
      front = e ∷ p.front;
      entry = p.entry;
      back = p.back;
      whole = ap (λ xs. e ∷ xs) p.whole;
      relation = p.relation;
      key = p.key;
      set = λ name. ap (λ (b : Bool). cond b (record e { name = name } ∷ es) (e ∷ renamed r k name es)) t ∙ ap (λ xs. e ∷ xs) (p.set name);
      gone = ap (λ (b : Bool). cond b (last_first es) (e ∷ without r k es)) t ∙ ap (λ xs. e ∷ xs) p.gone;
    }

-- it was found, so the call did not answer that it was not
pub done : {X : Type 0} (r : ℕ) (k : List ℕ) (es : List Entry) (old : RecordName) (o : Option X) (A : Type 0) → look r k es ≡ Some old → IfSome o (λ x. A) → IfNone o (look r k es ≡ None) → A
done r k es old (Some x) A is did none = did
done r k es old None A is did none = absurd (let e : None ≡ Some old = sym none ∙ is in cc)

pub set_map : {X : Type 0} (total : ℕ) (pages pages2 : PageBytes) (m : Map) (r : ℕ) (k : List ℕ) (p : ℕ) (old name : RecordName) (page new : List ℕ) (o : Option X) → AreMap total pages m → Holds r k pages p old
    → pages p ≡ page → Turns p new pages pages2 → KeepsHead page new → IfSome o (λ x. entries new ≡ renamed r k name (entries page)) → IfNone o (look r k (entries page) ≡ None) → AreMap total pages2 (alter m r k (Some name))
set_map total pages pages2 m r k p old name page new o a h is t head did none =
    same_space total pages pages2 m _ a (t.others 0 off.0)
    (subst (λ (x : ℕ × List ℕ). IsIndex (state_of pages2) (alter m x.0 x.1 (Some name))) (λ j. (w.relation j, w.key j))
    (set_kept (state_of pages) (state_of pages2) m w.entry name p w.front w.back a.index (record {
      on = subst (λ (x : List ℕ). OnChain (state_of pages) x p) (sym w.key) (passed_on (Lacks r k pages) pages k p h.steps h.passed);
      there = ap entries is ∙ w.whole;
      change = one_page pages pages2 p new _ off t (subst (λ (c : List ℕ). KeepsHead c new) (sym is) head) (done r k (entries page) old o _ here did none ∙ w.set name);
    })))
  where
    off : (0 ≢ p) × (1 ≢ p)
    off = no_bucket total pages m p a (passed_kind (Lacks r k pages) total pages m k p h.steps a h.passed)

    here : look r k (entries page) ≡ Some old
    here = ap (λ (c : List ℕ). look r k (entries c)) (sym is) ∙ h.here

    w : Parts r k (entries page)
    w = parts_of r k (entries page) old here

pub drop_map : {X : Type 0} (total : ℕ) (pages pages2 : PageBytes) (m : Map) (r : ℕ) (k : List ℕ) (p : ℕ) (old : RecordName) (page new : List ℕ) (o : Option X) → AreMap total pages m → Holds r k pages p old
    → pages p ≡ page → Turns p new pages pages2 → KeepsHead page new → IfSome o (λ x. entries new ≡ without r k (entries page)) → IfNone o (look r k (entries page) ≡ None) → AreMap total pages2 (alter m r k None)
drop_map total pages pages2 m r k p old page new o a h is t head did none =
    same_space total pages pages2 m _ a (t.others 0 off.0)
    (subst (λ (x : ℕ × List ℕ). IsIndex (state_of pages2) (alter m x.0 x.1 None)) (λ j. (w.relation j, w.key j))
    (drop_kept (state_of pages) (state_of pages2) m w.entry p w.front w.back a.index (record {
      on = subst (λ (x : List ℕ). OnChain (state_of pages) x p) (sym w.key) (passed_on (Lacks r k pages) pages k p h.steps h.passed);
      there = ap entries is ∙ w.whole;
      change = one_page pages pages2 p new _ off t (subst (λ (c : List ℕ). KeepsHead c new) (sym is) head) (done r k (entries page) old o _ here did none ∙ w.gone);
    })))
  where
    off : (0 ≢ p) × (1 ≢ p)
    off = no_bucket total pages m p a (passed_kind (Lacks r k pages) total pages m k p h.steps a h.passed)

    here : look r k (entries page) ≡ Some old
    here = ap (λ (c : List ℕ). look r k (entries c)) (sym is) ∙ h.here

    w : Parts r k (entries page)
    w = parts_of r k (entries page) old here
