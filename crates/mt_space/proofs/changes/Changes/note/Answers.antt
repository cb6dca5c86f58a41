use Rattle.std.proofs.Common.{◌≡◌, ◌≢◌, ◌∙◌, ℕ, ◌==◌, Bool, true, false, List, [], ◌∷◌, length, get_or, vec_len, refl, sym, ap, subst, arith, Vec, Global}
use Rattle.std.specs.Prelude.{All}
use Rattle.std.proofs.lemmas.Bool.{eqb-true}
use Rattle.std.proofs.lemmas.List.{nil_from_length}
use Rattle.std.proofs.lemmas.List.Elements.{All-get_or}
use Rattle.mt_base.specs.declared.edits.Edit.{Edit}
use Rattle.mt_base.specs.Edits.{patched, IsShortest}
use Rattle.mt_space.specs.declared.changes.PageChange.{PageChange}
use Rattle.mt_space.specs.Changes.{replaced, after, IsUntouched, IsShort, AreShort}
use Rattle.mt_space.proofs.Changing.{replaced_same, after_push, untouched_push, short_push}
use Rattle.mt_space.proofs.changes.Changes.note.Goals as goal

-- no edits
none_of : (edits : Vec Edit Global) (empty : Bool) → empty ≡ (vec_len edits == 0) → empty ≡ true → edits.items ≡ []
none_of edits empty is set =
    let zero_len : vec_len edits ≡ 0 = eqb-true (vec_len edits) 0 (sym is ∙ set) in
    nil_from_length edits.items (omega (arith, zero_len, edits.ok.0))

-- some edit
some_of : (edits : Vec Edit Global) (empty : Bool) → empty ≡ (vec_len edits == 0) → empty ≡ false → length edits.items ≢ 0
some_of edits empty is unset none =
    let zero_len : vec_len edits ≡ 0 = omega (arith, none, edits.ok.0) in
    let set2 : empty ≡ (0 == 0) = is ∙ ap (λ (k : ℕ). k == 0) zero_len in
    absurd (cc)

-- an edit changes a byte
differs : (old new : List ℕ) (edits : List Edit) → All (IsShortest old new) edits → length edits ≢ 0 → new ≡ old → ⊥
differs old new [] short some same = some refl
differs old new (e ∷ es) short some same = let first = All-get_or (IsShortest old new) (e ∷ es) 0 e (omega arith) short in first.first (ap (λ (l : List ℕ). get_or l e.start 0) (sym same))

pub returns-then-is_empty-clause-noted : goal.returns-then-is_empty-clause-noted
returns-then-is_empty-clause-noted c = λ pages was.
    let none = none_of c.in_ok-edits.edits c.is_empty.result c.is_empty.ensures c.if-is_empty.true in
    let same : c.args.old.now ≡ c.args.new.now = sym (ap (λ (es : List Edit). patched es c.args.old.now) none) ∙ c.in_ok-edits.ensures.made in
    sym (replaced_same c.args.page c.args.new.now (after c.args.self.now.list.items pages) (was ∙ same))

pub returns-clause-noted : goal.returns-clause-noted
returns-clause-noted c = λ pages was.
    let list = c.args.self.now.list.items in
    let change : PageChange = record { page = c.args.page; edits = c.in_ok-edits.edits } in
    ap (λ (l : List PageChange). after l pages) c.in_ok-push.ensures.items
    ∙ after_push list change pages
    ∙ ap (λ (bytes : List ℕ). replaced c.args.page (patched c.in_ok-edits.edits.items bytes) (after list pages)) was
    ∙ ap (λ (bytes : List ℕ). replaced c.args.page bytes (after list pages)) c.in_ok-edits.ensures.made

pub returns-clause-short : goal.returns-clause-short
returns-clause-short c = λ pages was none short.
    let list = c.args.self.now.list.items in
    let edits = c.in_ok-edits.edits in
    let change : PageChange = record { page = c.args.page; edits = edits } in
    let some = some_of edits c.is_empty.result c.is_empty.ensures c.if-is_empty.false in
    let made : patched edits.items (pages c.args.page) ≡ c.args.new.now = ap (patched edits.items) was ∙ c.in_ok-edits.ensures.made in
    let e = c.in_ok-edits.ensures in
    let whole = c.requires.old_whole in
    let ranges : All (IsShortest (pages c.args.page) (patched edits.items (pages c.args.page))) edits.items =
    subst (λ (bytes : List ℕ). All (IsShortest (pages c.args.page) bytes) edits.items) (sym made) (subst (λ (bytes : List ℕ). All (IsShortest bytes c.args.new.now) edits.items) (sym was) e.short) in
    let one : IsShort (pages c.args.page) change = record { some = omega (arith, some); ranges = ranges; size = omega (arith, e.size, whole) } in
    subst (λ (l : List PageChange). AreShort l pages) (sym c.in_ok-push.ensures.items) (short_push list change pages one none short)

pub returns-clause-others : goal.returns-clause-others
returns-clause-others c = λ p ne none.
    subst (λ (l : List PageChange). IsUntouched l p) (sym c.in_ok-push.ensures.items) (untouched_push c.args.self.now.list.items _ p (λ e. ne (sym e)) none)

pub returns-clause-same : goal.returns-clause-same
returns-clause-same c = λ same.
    absurd (differs c.args.old.now c.args.new.now c.in_ok-edits.edits.items c.in_ok-edits.ensures.short (some_of c.in_ok-edits.edits c.is_empty.result c.is_empty.ensures c.if-is_empty.false) same)
