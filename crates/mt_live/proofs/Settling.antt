-- A transaction is back: what it did since without effect counts no more, and nothing else changes.
use Rattle.std.proofs.Common.{◌≡◌, ◌⊎◌, inl, inr, ℕ, zero, suc, ℤ, pos, ◌+ℤ◌, Bool, true, false, cond, ◌==◌, List, [], ◌∷◌, Option, None, is_some, refl, ap, sym, ◌∙◌, subst}
use Rattle.std.proofs.lemmas.Bool.{and_parts}
use Rattle.std.proofs.lemmas.Bool.Decides.{Decides-eqb}
use Rattle.mt_model.specs.Escrow.{HasRoom}
use Rattle.mt_model.specs.History.{Call, run, IsActed}
use Rattle.mt_model.specs.Locks.{Held}
use Rattle.mt_model.specs.Model.{Base, inverse_of}
use Rattle.mt_live.specs.declared.transactions.Role.{Role}
use Rattle.mt_live.specs.declared.transactions.Role.TheVariants.{Stands, TakenBack}
use Rattle.mt_live.specs.Adds.{standing_before, adds, back_before, backs, op_step, forward_before, forward_at}
use Rattle.mt_live.specs.Entries.{Entry, with_role, is_standing, calls, runs, kept}
use Rattle.mt_live.specs.Sound.{Each, IsLocked, IsDone, IsSound}
use Rattle.mt_live.specs.Taking.{up_by, down_by, Ballot, IsBallot, Turns, did_something, Nests}
use Rattle.mt_live.specs.Undoing.{only, is_counted, last_effect, after_first, mark_all, settle_after}
use Rattle.mt_live.proofs.AddLemmas.{idle_standing}
use Rattle.mt_live.proofs.Cuts.{IsIdle, idle_all, stands_from}
use Rattle.mt_live.proofs.Nesting.{add_did, turns_map}
use Rattle.mt_live.proofs.Shapes.{each_filter}

-- an entry that stood and did nothing is marked as taken back
pub record IsEased (e f : Entry) : Type 0 where
  pub is : f ≡ with_role TakenBack e
  pub stood : e.role ≡ Stands
  pub idle : inverse_of e.op e.reply ≡ None

-- of the entries some are, and the others are as they were
abbrev pub Eased : List Entry → List Entry → Type 0
Eased [] [] = Unit {0}
Eased [] (f ∷ fs) = ⊥
Eased (e ∷ es) [] = ⊥
Eased (e ∷ es) (f ∷ fs) = ((f ≡ e) ⊎ IsEased e f) × Eased es fs

pub as_it_was : (es : List Entry) → Eased es es
as_it_was [] = tt
as_it_was (e ∷ es) = (inl refl, as_it_was es)

-- ---- what is marked did nothing

marked_here : (t : ℕ) (e : Entry) → is_counted t e ≡ true → IsIdle t e → IsEased e (with_role TakenBack e)
marked_here t e is idle =
    let parts = and_parts (e.txn == t) (is_standing e.role) is in
    let stood : e.role ≡ Stands = stands_from e.role parts.1 in
    record { is = refl; stood = stood; idle = idle ((Decides-eqb e.txn t).0 parts.0) stood }

mark_choice : (t : ℕ) (e : Entry) (es fs : List Entry) (b : Bool) → is_counted t e ≡ b → IsIdle t e → Eased es fs → Eased (e ∷ es) (cond b (with_role TakenBack e ∷ fs) (e ∷ fs))
mark_choice t e es fs true is idle h = (inr (marked_here t e is idle), h)
mark_choice t e es fs false is idle h = (inl refl, h)

marked_all : (t : ℕ) (es : List Entry) → Each (IsIdle t) es → Eased es (mark_all t es)
marked_all t [] idle = tt
marked_all t (e ∷ es) idle = mark_choice t e es (mark_all t es) (is_counted t e) refl idle.0 (marked_all t es idle.1)

pub settled_eased : (t n : ℕ) (es : List Entry) → last_effect t (after_first t n es) ≡ None → Eased es (settle_after t n es)
settled_eased t n [] none = tt
settled_eased t zero (e ∷ es) none = marked_all t (e ∷ es) (idle_all t (e ∷ es) none)
settled_eased t (suc n) (e ∷ es) none = go (is_counted t e) none (λ k. settled_eased t n es k) (λ k. settled_eased t (suc n) es k)
  where
    go : (b : Bool) → last_effect t (cond b (after_first t n es) (after_first t (suc n) es)) ≡ None
        → (last_effect t (after_first t n es) ≡ None → Eased es (settle_after t n es)) → (last_effect t (after_first t (suc n) es) ≡ None → Eased es (settle_after t (suc n) es))
        → Eased (e ∷ es) (cond b (e ∷ settle_after t n es) (e ∷ settle_after t (suc n) es))
    go true k first more = (inl refl, first k)
    go false k first more = (inl refl, more k)

-- ---- what stays as it was

same_of : {A : Type 0} (g : Entry → A) → ((e : Entry) → g (with_role TakenBack e) ≡ g e) → (e f : Entry) → (f ≡ e) ⊎ IsEased e f → g f ≡ g e
same_of g keeps e f (inl same) = ap g same
same_of g keeps e f (inr eased) = ap g eased.is ∙ keeps e

pub eased_calls : (es fs : List Entry) → Eased es fs → calls fs ≡ calls es
eased_calls [] [] h = refl
eased_calls [] (f ∷ fs) h = absurd h
eased_calls (e ∷ es) [] h = absurd h
eased_calls (e ∷ es) (f ∷ fs) h =
    ap (λ (c : Call). c ∷ calls fs) (same_of (λ (x : Entry). (x.op, x.reply)) (λ x. refl) e f h.0) ∙ ap (λ cs. (e.op, e.reply) ∷ cs) (eased_calls es fs h.1)

pub eased_each : (P : Entry → Type 0) → ((e : Entry) → P e → P (with_role TakenBack e)) → (es fs : List Entry) → Eased es fs → Each P es → Each P fs
eased_each P keeps [] [] h each = tt
eased_each P keeps [] (f ∷ fs) h each = absurd h
eased_each P keeps (e ∷ es) [] h each = absurd h
eased_each P keeps (e ∷ es) (f ∷ fs) h each = (go h.0, eased_each P keeps es fs h.1 each.1)
  where
    go : (f ≡ e) ⊎ IsEased e f → P f
    go (inl same) = subst P (sym same) each.0
    go (inr eased) = subst P (sym eased.is) (keeps e each.0)

-- a choice of transactions
pub eased_kept : (p : ℕ → Bool) (es fs : List Entry) → Eased es fs → Eased (kept p es) (kept p fs)
eased_kept p [] [] h = tt
eased_kept p [] (f ∷ fs) h = absurd h
eased_kept p (e ∷ es) [] h = absurd h
eased_kept p (e ∷ es) (f ∷ fs) h =
    subst (λ b. Eased (cond (p e.txn) (e ∷ kept p es) (kept p es)) (cond b (f ∷ kept p fs) (kept p fs))) (sym (same_of (λ (x : Entry). p x.txn) (λ x. refl) e f h.0)) (go (p e.txn) (eased_kept p es fs h.1))
  where
    go : (b : Bool) → Eased (kept p es) (kept p fs) → Eased (cond b (e ∷ kept p es) (kept p es)) (cond b (f ∷ kept p fs) (kept p fs))
    go true rest = (h.0, rest)
    go false rest = rest

forward_same : (c : ℕ) (e f : Entry) (ds : List ℤ) → (f ≡ e) ⊎ IsEased e f → forward_before f.role (op_step c f.op) ds ≡ forward_before e.role (op_step c e.op) ds
forward_same c e f ds (inl same) = ap (λ (x : Entry). forward_before x.role (op_step c x.op) ds) same
forward_same c e f ds (inr eased) =
    ap (λ (x : Entry). forward_before x.role (op_step c x.op) ds) eased.is ∙ ap (λ r. forward_before r (op_step c e.op) ds) (sym eased.stood)

pub eased_forward : (c : ℕ) (es fs : List Entry) → Eased es fs → forward_at c fs ≡ forward_at c es
eased_forward c [] [] h = refl
eased_forward c [] (f ∷ fs) h = absurd h
eased_forward c (e ∷ es) [] h = absurd h
eased_forward c (e ∷ es) (f ∷ fs) h = ap (forward_before f.role (op_step c f.op)) (eased_forward c es fs h.1) ∙ forward_same c e f (forward_at c es) h.0

idle_step : (c : ℕ) (e f : Entry) → IsDone e → IsEased e f → op_step c e.op ≡ None
idle_step c e f done eased = add_did c e.op e.reply done (ap is_some eased.idle)

none_by : (f : Role → Option ℤ → ℤ) → ((r : Role) → f r None ≡ pos 0) → (r s : Role) (x : Option ℤ) → x ≡ None → f r x ≡ f s x
none_by f nothing r s x none = ap (f r) none ∙ (nothing r ∙ (sym (nothing s) ∙ ap (f s) (sym none)))

up_same : (c : ℕ) (e f : Entry) → IsDone e → (f ≡ e) ⊎ IsEased e f → up_by f.role (op_step c f.op) ≡ up_by e.role (op_step c e.op)
up_same c e f done (inl same) = ap (λ (x : Entry). up_by x.role (op_step c x.op)) same
up_same c e f done (inr eased) = ap (λ (x : Entry). up_by x.role (op_step c x.op)) eased.is ∙ none_by up_by (λ r. refl) TakenBack e.role (op_step c e.op) (idle_step c e f done eased)

down_same : (c : ℕ) (e f : Entry) → IsDone e → (f ≡ e) ⊎ IsEased e f → down_by f.role (op_step c f.op) ≡ down_by e.role (op_step c e.op)
down_same c e f done (inl same) = ap (λ (x : Entry). down_by x.role (op_step c x.op)) same
down_same c e f done (inr eased) = ap (λ (x : Entry). down_by x.role (op_step c x.op)) eased.is ∙ none_by down_by (λ r. refl) TakenBack e.role (op_step c e.op) (idle_step c e f done eased)

ballot_eased : (c : ℕ) (u d : ℤ) (es fs : List Entry) → Eased es fs → Each IsDone es → Ballot c u d es → Ballot c u d fs
ballot_eased c u d [] [] h done b = b
ballot_eased c u d [] (f ∷ fs) h done b = absurd h
ballot_eased c u d (e ∷ es) [] h done b = absurd h
ballot_eased c u d (e ∷ es) (f ∷ fs) h done b = (
  b.0,
  b.1,
  subst (λ v. Ballot c (u +ℤ v) (d +ℤ down_by f.role (op_step c f.op)) fs) (sym (up_same c e f done.0 h.0))
      (subst (λ w. Ballot c (u +ℤ up_by e.role (op_step c e.op)) (d +ℤ w) fs) (sym (down_same c e f done.0 h.0))
      (ballot_eased c (u +ℤ up_by e.role (op_step c e.op)) (d +ℤ down_by e.role (op_step c e.op)) es fs h.1 done.1 b.2)),
)

pub eased_ballot : (c : ℕ) (es fs : List Entry) → Eased es fs → Each IsDone es → IsBallot c es → IsBallot c fs
eased_ballot c es fs h done ballot p = ballot_eased c (pos 0) (pos 0) (kept p es) (kept p fs) (eased_kept p es fs h) (each_filter IsDone (λ (e : Entry). p e.txn) es done) (ballot p)

turn_eased : (P : List Entry → Type 0) (e f : Entry) (due : List Entry) → IsEased e f → Turns e.role (did_something e) e due P → Turns f.role (did_something f) f due P
turn_eased P e f due eased h =
    let nothing : did_something e ≡ false = ap is_some eased.idle in
    let was : P due = subst (λ b. Turns Stands b e due P) nothing (subst (λ r. Turns r (did_something e) e due P) eased.stood h) in
    subst (λ (x : Entry). Turns x.role (did_something x) x due P) (sym eased.is) (subst (λ b. Turns TakenBack b (with_role TakenBack e) due P) (sym nothing) was)

pub eased_nests : (es fs due : List Entry) → Eased es fs → Nests es due → Nests fs due
eased_nests [] [] due h n = n
eased_nests [] (f ∷ fs) due h n = absurd h
eased_nests (e ∷ es) [] due h n = absurd h
eased_nests (e ∷ es) (f ∷ fs) due h n = go h.0 (turns_map (Nests es) (Nests fs) (λ left k. eased_nests es fs left h.1 k) e.role (did_something e) e due n)
  where
    go : (f ≡ e) ⊎ IsEased e f → Turns e.role (did_something e) e due (Nests fs) → Turns f.role (did_something f) f due (Nests fs)
    go (inl same) k = subst (λ (x : Entry). Turns x.role (did_something x) x due (Nests fs)) (sym same) k
    go (inr eased) k = turn_eased (Nests fs) e f due eased k

pub eased_adds : (es fs : List Entry) → Eased es fs → Each IsDone es → adds fs ≡ adds es
eased_adds [] [] h done = refl
eased_adds [] (f ∷ fs) h done = absurd h
eased_adds (e ∷ es) [] h done = absurd h
eased_adds (e ∷ es) (f ∷ fs) h done = ap (standing_before f.role f.txn f.op) (eased_adds es fs h.1 done.1) ∙ go h.0
  where
    go : (f ≡ e) ⊎ IsEased e f → standing_before f.role f.txn f.op (adds es) ≡ standing_before e.role e.txn e.op (adds es)
    go (inl same) = ap (λ (x : Entry). standing_before x.role x.txn x.op (adds es)) same
    go (inr eased) = ap (λ (x : Entry). standing_before x.role x.txn x.op (adds es)) eased.is ∙ sym (idle_standing e.role e.txn e.op e.reply (adds es) (λ s. eased.idle) done.0)

pub eased_backs : (es fs : List Entry) → Eased es fs → backs fs ≡ backs es
eased_backs [] [] h = refl
eased_backs [] (f ∷ fs) h = absurd h
eased_backs (e ∷ es) [] h = absurd h
eased_backs (e ∷ es) (f ∷ fs) h = ap (back_before f.role f.txn f.op) (eased_backs es fs h.1) ∙ go h.0
  where
    go : (f ≡ e) ⊎ IsEased e f → back_before f.role f.txn f.op (backs es) ≡ back_before e.role e.txn e.op (backs es)
    go (inl same) = ap (λ (x : Entry). back_before x.role x.txn x.op (backs es)) same
    go (inr eased) = ap (λ (x : Entry). back_before x.role x.txn x.op (backs es)) eased.is ∙ ap (λ r. back_before r e.txn e.op (backs es)) (sym eased.stood)

pub eased_sound : (held : Held) (b : Base) (es fs : List Entry) → Eased es fs → IsSound held b es → IsSound held b fs
eased_sound held b es fs h s = record {
  acted = subst (IsActed b) (sym (eased_calls es fs h)) s.acted;
  locked = eased_each (IsLocked held) (λ e l. l) es fs h s.locked;
  done = eased_each IsDone (λ e l. l) es fs h s.done;
  room = λ c. subst (HasRoom (b.counts c)) (sym (eased_forward c es fs h)) (s.room c);
  ballot = λ c. eased_ballot c es fs h s.done (s.ballot c);
  nested = λ t. eased_nests (kept (only t) es) (kept (only t) fs) [] (eased_kept (only t) es fs h) (s.nested t);
}

pub eased_runs : (b : Base) (es fs : List Entry) → Eased es fs → runs b fs ≡ runs b es
eased_runs b es fs h = ap (run b) (eased_calls es fs h)
