-- What the locks leave possible at one object.
use Rattle.std.specs.Bool.{⊤}
use Rattle.std.proofs.Common.{◌≡◌, ◌≢◌, ℕ, Bool, true, false, cond, ◌==◌, List, [], ◌∷◌, refl, sym, ◌∙◌, filter}
use Rattle.std.proofs.lemmas.Bool.Decides.{Decides-eqb}
use Rattle.mt_base.specs.Modes.{granted_together}
use Rattle.mt_base.specs.declared.modes.LockMode.{LockMode}
use Rattle.mt_base.specs.declared.modes.LockMode.TheVariants as mode
use Rattle.mt_model.specs.Model.{mode_of}
use Rattle.mt_model.proofs.Commuting.{no_intent, with_read, with_add, with_write}
use Rattle.mt_live.specs.Entries.{Entry}
use Rattle.mt_live.specs.Sound.{Each}

pub each_map : {A : Type 0} (P Q : A → Type 0) → ((x : A) → P x → Q x) → (xs : List A) → Each P xs → Each Q xs
each_map P Q f [] h = tt
each_map P Q f (x ∷ xs) h = (f x h.0, each_map P Q f xs h.1)

each_cond : {A : Type 0} (P : A → Type 0) (t : Bool) (x : A) (xs : List A) → P x → Each P xs → Each P (cond t (x ∷ xs) xs)
each_cond P true x xs p h = (p, h)
each_cond P false x xs p h = h

pub each_filter : {A : Type 0} (P : A → Type 0) (p : A → Bool) (xs : List A) → Each P xs → Each P (filter p xs)
each_filter P p [] h = tt
each_filter P p (x ∷ xs) h = each_cond P (p x) x (filter p xs) h.0 (each_filter P p xs h.1)

-- at one object: the modes of two transactions are granted_together together
abbrev pub Agree : Entry → Entry → Type 0
Agree e f = e.txn ≢ f.txn → granted_together (mode_of e.op) (mode_of f.op) ≡ true

abbrev pub AllAgree : List Entry → Type 0
AllAgree [] = ⊤
AllAgree (e ∷ es) = Each (Agree e) es × AllAgree es

pub data Shape (es : List Entry) : Type 0 where
  Owned : (u : ℕ) → Each (λ e. e.txn ≡ u) es → Shape es
  Reads : Each (λ e. mode_of e.op ≡ mode.Read) es → Shape es
  Adds : Each (λ e. mode_of e.op ≡ mode.Add) es → Shape es

-- an entry with which e is not granted_together is of e's transaction
mine : (e f : Entry) → Agree e f → granted_together (mode_of e.op) (mode_of f.op) ≡ false → (b : Bool) → (f.txn == e.txn) ≡ b → f.txn ≡ e.txn
mine e f a bars true t = (Decides-eqb f.txn e.txn).0 t
mine e f a bars false t =
    let apart : e.txn ≢ f.txn = λ same. let y : (f.txn == e.txn) ≡ true = (Decides-eqb f.txn e.txn).1 (sym same) in cc in
    let g : granted_together (mode_of e.op) (mode_of f.op) ≡ true = a apart in
    absurd cc

all_mine : (e : Entry) (es : List Entry) → Each (Agree e) es → Each (λ f. granted_together (mode_of e.op) (mode_of f.op) ≡ false) es → Each (λ f. f.txn ≡ e.txn) es
all_mine e [] a bars = tt
all_mine e (f ∷ es) a bars = (mine e f a.0 bars.0 (f.txn == e.txn) refl, all_mine e es a.1 bars.1)

after_reads : (e : Entry) (es : List Entry) → Each (Agree e) es → Each (λ f. mode_of f.op ≡ mode.Read) es → (m : LockMode) → mode_of e.op ≡ m → Shape (e ∷ es)
after_reads e es a h mode.Read is = Reads (is, h)
after_reads e es a h mode.Write is = Owned e.txn (refl, all_mine e es a (each_map _ _ (λ f r. rw (is, r)) es h))
after_reads e es a h mode.Add is = Owned e.txn (refl, all_mine e es a (each_map _ _ (λ f r. rw (is, r)) es h))
after_reads e es a h mode.Intend is = absurd (no_intent e.op is)

after_adds : (e : Entry) (es : List Entry) → Each (Agree e) es → Each (λ f. mode_of f.op ≡ mode.Add) es → (m : LockMode) → mode_of e.op ≡ m → Shape (e ∷ es)
after_adds e es a h mode.Add is = Adds (is, h)
after_adds e es a h mode.Write is = Owned e.txn (refl, all_mine e es a (each_map _ _ (λ f r. rw (is, r)) es h))
after_adds e es a h mode.Read is = Owned e.txn (refl, all_mine e es a (each_map _ _ (λ f r. rw (is, r)) es h))
after_adds e es a h mode.Intend is = absurd (no_intent e.op is)

beside_others : (e : Entry) (es : List Entry) → Each (λ f. granted_together (mode_of e.op) (mode_of f.op) ≡ true) es → (m : LockMode) → mode_of e.op ≡ m → Shape (e ∷ es)
beside_others e es h mode.Read is = Reads (is, each_map _ _ (λ f g. with_read (mode_of f.op) (rw is at g)) es h)
beside_others e es h mode.Add is = Adds (is, each_map _ _ (λ f g. with_add (mode_of f.op) (rw is at g)) es h)
beside_others e es h mode.Write is = Owned e.txn (refl, each_map _ _ (λ f g. absurd (with_write (mode_of f.op) (rw is at g))) es h)
beside_others e es h mode.Intend is = absurd (no_intent e.op is)

after_owned : (e : Entry) (es : List Entry) (u : ℕ) → Each (Agree e) es → Each (λ f. f.txn ≡ u) es → (b : Bool) → (e.txn == u) ≡ b → Shape (e ∷ es)
after_owned e es u a h true t = Owned u ((Decides-eqb e.txn u).0 t, h)
after_owned e es u a h false t =
    let apart : e.txn ≢ u = λ same. let y : (e.txn == u) ≡ true = (Decides-eqb e.txn u).1 same in cc in
    beside_others e es (go es a h apart) (mode_of e.op) refl
  where
    go : (fs : List Entry) → Each (Agree e) fs → Each (λ f. f.txn ≡ u) fs → e.txn ≢ u → Each (λ f. granted_together (mode_of e.op) (mode_of f.op) ≡ true) fs
    go [] a' h' apart = tt
    go (f ∷ fs) a' h' apart = (a'.0 (λ same. apart (same ∙ h'.0)), go fs a'.1 h'.1 apart)

step_shape : (e : Entry) (es : List Entry) → Each (Agree e) es → Shape es → Shape (e ∷ es)
step_shape e es a (Owned u h) = after_owned e es u a h (e.txn == u) refl
step_shape e es a (Reads h) = after_reads e es a h (mode_of e.op) refl
step_shape e es a (Adds h) = after_adds e es a h (mode_of e.op) refl

-- one transaction's entries alone, or only reads, or only adds
pub shape : (es : List Entry) → AllAgree es → Shape es
shape [] a = Reads tt
shape (e ∷ es) a = step_shape e es a.0 (shape es a.1)
