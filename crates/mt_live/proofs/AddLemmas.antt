-- Pending adds and the adds of entries, transaction by transaction.
use Rattle.std.proofs.Common.{◌≡◌, ◌≢◌, ℕ, ℤ, pos, ◌+ℤ◌, Bool, true, false, cond, not, ◌==◌, List, [], ◌∷◌, ◌++◌, None, refl, ap, sym, ◌∙◌, subst, arith, append-nil}
use Rattle.std.proofs.lemmas.Int.{ints}
use Rattle.std.proofs.lemmas.Bool.Decides.{Decides-eqb}
use Rattle.std.proofs.lemmas.List.Elements.{filter-append}
use Rattle.mt_base.specs.declared.modes.LockMode.TheVariants as mode
use Rattle.mt_model.specs.declared.operations.Op.{Op}
use Rattle.mt_model.specs.declared.operations.Op.TheVariants.{Get, Insert, Update, Delete, Add, Read, Scan}
use Rattle.mt_model.specs.declared.operations.Reply.{Reply}
use Rattle.mt_model.specs.declared.operations.Reply.TheVariants.{Done}
use Rattle.mt_model.specs.declared.pending_add.Pending.{Pending}
use Rattle.mt_model.specs.Model.{Base, inverse_of, mode_of}
use Rattle.mt_model.specs.Escrow.{IsAdmissible, lowest, highest, HasRoom}
use Rattle.mt_model.specs.Pending.{steps_at, pending_of, pending_without}
use Rattle.mt_model.proofs.Sums.{room_from_admissible}
use Rattle.mt_live.specs.Entries.{Entry, kept}
use Rattle.mt_live.specs.declared.transactions.Role.{Role}
use Rattle.mt_live.specs.declared.transactions.Role.TheVariants.{Stands, TakenBack, Back}
use Rattle.mt_live.specs.Adds.{add_before, standing_before, adds, GivesBack}
use Rattle.mt_live.specs.Taking.{Wider}
use Rattle.mt_live.specs.Sound.{Each, IsDone}
use Rattle.mt_live.specs.Undoing.{only, others}
use Rattle.mt_live.specs.Machine.{IsAdmitted}
use Rattle.mt_live.proofs.Cuts.{IsIdle}
use Rattle.mt_live.proofs.Nesting.{NoneStands}
use Rattle.mt_live.proofs.Pending.{covers_wider}

pub eq_self : (a : ℕ) → (a == a) ≡ true
eq_self a = (Decides-eqb a a).1 refl

pub adds-append : (es fs : List Entry) → adds (es ++ fs) ≡ adds es ++ adds fs
adds-append [] fs = refl
adds-append (e ∷ es) fs = ap (standing_before e.role e.txn e.op) (adds-append es fs) ∙ by_role e.role e.txn e.op (adds es) (adds fs)
  where
    go : (t : ℕ) (op : Op) (ps qs : List Pending) → add_before t op (ps ++ qs) ≡ add_before t op ps ++ qs
    go t (Add n d) ps qs = refl
    go t (Get r k) ps qs = refl
    go t (Insert r k v) ps qs = refl
    go t (Update r k v) ps qs = refl
    go t (Delete r k) ps qs = refl
    go t (Read n) ps qs = refl
    go t (Scan r) ps qs = refl

    by_role : (r : Role) (t : ℕ) (op : Op) (ps qs : List Pending) → standing_before r t op (ps ++ qs) ≡ standing_before r t op ps ++ qs
    by_role Stands t op ps qs = go t op ps qs
    by_role TakenBack t op ps qs = refl
    by_role Back t op ps qs = refl

pub pending_of-append : (t : ℕ) (ps qs : List Pending) → pending_of t (ps ++ qs) ≡ pending_of t ps ++ pending_of t qs
pending_of-append t ps qs = filter-append (λ (p : Pending). p.txn == t) ps qs

pub same_cond : {A : Type 0} (s : Bool) (x : A) → cond s x x ≡ x
same_cond true x = refl
same_cond false x = refl

pub of_before : (u t : ℕ) (op : Op) (ps : List Pending) → pending_of u (add_before t op ps) ≡ cond (t == u) (add_before t op (pending_of u ps)) (pending_of u ps)
of_before u t (Add n d) ps = refl
of_before u t (Get r k) ps = sym (same_cond (t == u) (pending_of u ps))
of_before u t (Insert r k v) ps = sym (same_cond (t == u) (pending_of u ps))
of_before u t (Update r k v) ps = sym (same_cond (t == u) (pending_of u ps))
of_before u t (Delete r k) ps = sym (same_cond (t == u) (pending_of u ps))
of_before u t (Read n) ps = sym (same_cond (t == u) (pending_of u ps))
of_before u t (Scan r) ps = sym (same_cond (t == u) (pending_of u ps))

-- by role, of one transaction
pub of_standing : (r : Role) (u t : ℕ) (op : Op) (ps : List Pending) → pending_of u (standing_before r t op ps) ≡ cond (t == u) (standing_before r t op (pending_of u ps)) (pending_of u ps)
of_standing Stands u t op ps = of_before u t op ps
of_standing TakenBack u t op ps = sym (same_cond (t == u) (pending_of u ps))
of_standing Back u t op ps = sym (same_cond (t == u) (pending_of u ps))

pub other_standing : (r : Role) (u t : ℕ) (op : Op) (ps : List Pending) → (t == u) ≡ false → pending_of u (standing_before r t op ps) ≡ pending_of u ps
other_standing r u t op ps e = of_standing r u t op ps ∙ ap (λ w. cond w (standing_before r t op (pending_of u ps)) (pending_of u ps)) e

pub is_add : (r : Role) (t : ℕ) (op : Op) (ps : List Pending) → r ≡ Stands → standing_before r t op ps ≡ add_before t op ps
is_add r t op ps is = ap (λ q. standing_before q t op ps) is

pub eq_flip : (a b : ℕ) (x y : Bool) → (a == b) ≡ x → (b == a) ≡ y → x ≡ y
eq_flip a b true true p q = refl
eq_flip a b false false p q = refl
eq_flip a b true false p q = let e : (b == a) ≡ true = (Decides-eqb b a).1 (sym ((Decides-eqb a b).0 p)) in cc
eq_flip a b false true p q = let e : (a == b) ≡ true = (Decides-eqb a b).1 (sym ((Decides-eqb b a).0 q)) in cc

pub of_mine : (t : ℕ) (op : Op) → pending_of t (add_before t op []) ≡ add_before t op []
of_mine t op = of_before t t op [] ∙ ap (λ w. cond w (add_before t op []) []) (eq_self t)

pub of_other : (u t : ℕ) (op : Op) (ps : List Pending) → (t == u) ≡ false → pending_of u (add_before t op ps) ≡ pending_of u ps
of_other u t op ps e = of_before u t op ps ∙ ap (λ w. cond w (add_before t op (pending_of u ps)) (pending_of u ps)) e

pub adds_last : (es : List Entry) (e : Entry) (u : ℕ) → e.role ≡ Stands → pending_of u (adds (es ++ e ∷ [])) ≡ pending_of u (adds es) ++ pending_of u (add_before e.txn e.op [])
adds_last es e u is = ap (pending_of u) (adds-append es (e ∷ [])) ∙ (pending_of-append u (adds es) (standing_before e.role e.txn e.op []) ∙ ap (λ ps. pending_of u (adds es) ++ pending_of u ps) (is_add e.role e.txn e.op [] is))

without_cond : (u t : ℕ) (p : Pending) (ps : List Pending) (b c : Bool) → (u == t) ≡ b → (p.txn == t) ≡ c → pending_of u (pending_without t ps) ≡ cond b [] (pending_of u ps)
    → pending_of u (cond (not c) (p ∷ pending_without t ps) (pending_without t ps)) ≡ cond b [] (cond (p.txn == u) (p ∷ pending_of u ps) (pending_of u ps))
without_cond u t p ps true true e f h = h
without_cond u t p ps true false e f h =
    let same : u ≡ t = (Decides-eqb u t).0 e in
    let x : (p.txn == u) ≡ false = ap (λ v. p.txn == v) same ∙ f in
    rw x h
without_cond u t p ps false true e f h =
    let same : p.txn ≡ t = (Decides-eqb p.txn t).0 f in
    let y : (t == u) ≡ false = eq_flip t u (t == u) (u == t) refl refl ∙ e in
    let x : (p.txn == u) ≡ false = ap (λ v. v == u) same ∙ y in
    rw x h
without_cond u t p ps false false e f h = ap (λ w. cond (p.txn == u) (p ∷ w) w) h

pub of_without : (u t : ℕ) (ps : List Pending) → pending_of u (pending_without t ps) ≡ cond (u == t) [] (pending_of u ps)
of_without u t [] = sym (same_cond (u == t) [])
of_without u t (p ∷ ps) = without_cond u t p ps (u == t) (p.txn == t) refl refl (of_without u t ps)

kept_cond : (p : ℕ → Bool) (u : ℕ) (e : Entry) (es : List Entry) (b c d : Bool) → p e.txn ≡ b → (e.txn == u) ≡ c → p u ≡ d
    → pending_of u (adds (kept p es)) ≡ cond d (pending_of u (adds es)) []
    → pending_of u (adds (cond b (e ∷ kept p es) (kept p es))) ≡ cond d (pending_of u (standing_before e.role e.txn e.op (adds es))) []
kept_cond p u e es true true true a b' c h =
    of_standing e.role u e.txn e.op (adds (kept p es)) ∙ (ap (λ w. cond (e.txn == u) (standing_before e.role e.txn e.op w) w) h ∙ sym (of_standing e.role u e.txn e.op (adds es)))
kept_cond p u e es true true false a b' c h = let same : e.txn ≡ u = (Decides-eqb e.txn u).0 b' in let x : p e.txn ≡ p u = ap p same in absurd cc
kept_cond p u e es true false true a b' c h = other_standing e.role u e.txn e.op (adds (kept p es)) b' ∙ (h ∙ sym (other_standing e.role u e.txn e.op (adds es) b'))
kept_cond p u e es true false false a b' c h = other_standing e.role u e.txn e.op (adds (kept p es)) b' ∙ h
kept_cond p u e es false true true a b' c h = let same : e.txn ≡ u = (Decides-eqb e.txn u).0 b' in let x : p e.txn ≡ p u = ap p same in absurd cc
kept_cond p u e es false true false a b' c h = h
kept_cond p u e es false false true a b' c h = h ∙ sym (other_standing e.role u e.txn e.op (adds es) b')
kept_cond p u e es false false false a b' c h = h

pub adds-kept : (p : ℕ → Bool) (u : ℕ) (es : List Entry) → pending_of u (adds (kept p es)) ≡ cond (p u) (pending_of u (adds es)) []
adds-kept p u [] = sym (same_cond (p u) [])
adds-kept p u (e ∷ es) = kept_cond p u e es (p e.txn) (e.txn == u) (p u) refl refl refl (adds-kept p u es)

pub not_others : (t u : ℕ) → others t u ≡ false → u ≡ t
not_others t u h = (Decides-eqb u t).0 (go (u == t) h)
  where
    go : (b : Bool) → not b ≡ false → b ≡ true
    go true k = refl
    go false k = absurd cc

-- what one transaction has of the pending steps, and what the others have
pub record Shares (all its rest : List ℤ) : Type 0 where
  pub lows : lowest all ≡ lowest its +ℤ lowest rest
  pub highs : highest all ≡ highest its +ℤ highest rest

share_step : (b c : Bool) (d : ℤ) (all its rest : List ℤ) → Shares all its rest → Shares (cond c (d ∷ all) all) (cond b (cond c (d ∷ its) its) its) (cond (not b) (cond c (d ∷ rest) rest) rest)
share_step true true d all its rest h = let x = h.lows in let y = h.highs in record { lows = omega (arith, ints); highs = omega (arith, ints) }
share_step false true d all its rest h = let x = h.lows in let y = h.highs in record { lows = omega (arith, ints); highs = omega (arith, ints) }
share_step true false d all its rest h = h
share_step false false d all its rest h = h

at_cond : (c : ℕ) (b : Bool) (p : Pending) (ps : List Pending) → steps_at c (cond b (p ∷ ps) ps) ≡ cond b (cond (p.counter == c) (p.step ∷ steps_at c ps) (steps_at c ps)) (steps_at c ps)
at_cond c true p ps = refl
at_cond c false p ps = refl

zero_sum : pos 0 ≡ pos 0 +ℤ pos 0
zero_sum = refl

pub shares : (t c : ℕ) (ps : List Pending) → Shares (steps_at c ps) (steps_at c (pending_of t ps)) (steps_at c (pending_without t ps))
shares t c [] = record { lows = zero_sum; highs = zero_sum }
shares t c (p ∷ ps) =
    subst (λ w. Shares (steps_at c (p ∷ ps)) w (steps_at c (pending_without t (p ∷ ps)))) (sym (at_cond c (p.txn == t) p (pending_of t ps)))
    (subst (λ w. Shares (steps_at c (p ∷ ps)) (cond (p.txn == t) (cond (p.counter == c) (p.step ∷ steps_at c (pending_of t ps)) (steps_at c (pending_of t ps))) (steps_at c (pending_of t ps))) w) (sym (at_cond c (not (p.txn == t)) p (pending_without t ps)))
    (share_step (p.txn == t) (p.counter == c) p.step (steps_at c ps) (steps_at c (pending_of t ps)) (steps_at c (pending_without t ps)) (shares t c ps)))

adds_cond : (t : ℕ) (e : Entry) (es : List Entry) (b : Bool) → (e.txn == t) ≡ b → adds (kept (only t) es) ≡ pending_of t (adds es)
    → adds (cond b (e ∷ kept (only t) es) (kept (only t) es)) ≡ pending_of t (standing_before e.role e.txn e.op (adds es))
adds_cond t e es true is h = ap (standing_before e.role e.txn e.op) h ∙ sym (of_standing e.role t e.txn e.op (adds es) ∙ ap (λ w. cond w (standing_before e.role e.txn e.op (pending_of t (adds es))) (pending_of t (adds es))) is)
adds_cond t e es false is h = h ∙ sym (other_standing e.role t e.txn e.op (adds es) is)

pub adds_only : (t : ℕ) (es : List Entry) → adds (kept (only t) es) ≡ pending_of t (adds es)
adds_only t [] = refl
adds_only t (e ∷ es) = adds_cond t e es (e.txn == t) refl (adds_only t es)

add_has_inverse : (op : Op) (r : Reply) → mode_of op ≡ mode.Add → r ≡ Done → inverse_of op r ≡ None → ⊥
add_has_inverse (Add n d) r m is h = let x : inverse_of (Add n d) Done ≡ None = subst (λ w. inverse_of (Add n d) w ≡ None) is h in absurd cc
add_has_inverse (Get k l) r m is h = absurd cc
add_has_inverse (Insert k l v) r m is h = absurd cc
add_has_inverse (Update k l v) r m is h = absurd cc
add_has_inverse (Delete k l) r m is h = absurd cc
add_has_inverse (Read n) r m is h = absurd cc
add_has_inverse (Scan q) r m is h = absurd cc

not_add : (t : ℕ) (op : Op) (ps : List Pending) → (mode_of op ≡ mode.Add → ⊥) → add_before t op ps ≡ ps
not_add t (Add n d) ps h = absurd (h refl)
not_add t (Get k l) ps h = refl
not_add t (Insert k l v) ps h = refl
not_add t (Update k l v) ps h = refl
not_add t (Delete k l) ps h = refl
not_add t (Read n) ps h = refl
not_add t (Scan r) ps h = refl

pub idle_standing : (r : Role) (t : ℕ) (op : Op) (reply : Reply) (ps : List Pending) → (r ≡ Stands → inverse_of op reply ≡ None) → (mode_of op ≡ mode.Add → reply ≡ Done) → standing_before r t op ps ≡ ps
idle_standing Stands t op reply ps none done = not_add t op ps (λ m. add_has_inverse op reply m (done m) (none refl))
idle_standing TakenBack t op reply ps none done = refl
idle_standing Back t op reply ps none done = refl

pub no_adds : (es : List Entry) → NoneStands es → Each IsDone es → adds es ≡ []
no_adds [] none done = refl
no_adds (e ∷ es) none done = idle_standing e.role e.txn e.op e.reply (adds es) none.0 done.0 ∙ no_adds es none.1 done.1

idle_cond : (t : ℕ) (e : Entry) (es : List Entry) (b : Bool) → (e.txn == t) ≡ b → IsIdle t e → IsDone e → pending_of t (adds es) ≡ [] → pending_of t (standing_before e.role e.txn e.op (adds es)) ≡ []
idle_cond t e es true is i d h =
    let same : e.txn ≡ t = (Decides-eqb e.txn t).0 is in
    ap (pending_of t) (idle_standing e.role e.txn e.op e.reply (adds es) (i same) d) ∙ h
idle_cond t e es false is i d h = other_standing e.role t e.txn e.op (adds es) is ∙ h

-- what did nothing added nothing
pub idle_adds : (t : ℕ) (es : List Entry) → Each (IsIdle t) es → Each IsDone es → pending_of t (adds es) ≡ []
idle_adds t [] i d = refl
idle_adds t (e ∷ es) i d = idle_cond t e es (e.txn == t) refl i.0 d.0 (idle_adds t es i.1 d.1)

-- the operation's add, if it is one, is the transaction's last and goes
pub record Taken (t : ℕ) (op : Op) (ps qs : List Pending) : Type 0 where
  pub its : (front : List Pending) → pending_of t ps ≡ front ++ add_before t op [] → pending_of t qs ≡ front
  pub apart : (u : ℕ) → u ≢ t → pending_of u qs ≡ pending_of u ps

no_add_taken : (t : ℕ) (op : Op) (ps qs : List Pending) → add_before t op [] ≡ [] → qs ≡ ps → Taken t op ps qs
no_add_taken t op ps qs empty same = record {
  its = λ front h. ap (pending_of t) same ∙ (h ∙ (ap (λ w. front ++ w) empty ∙ append-nil front));
  apart = λ u apart. ap (pending_of u) same;
}

pub taken_of : (t : ℕ) (op : Op) (ps qs : List Pending) → GivesBack t op ps qs → Taken t op ps qs
taken_of t (Add c d) ps qs h = record { its = h.its; apart = h.apart }
taken_of t (Get r k) ps qs h = no_add_taken t (Get r k) ps qs refl h
taken_of t (Insert r k v) ps qs h = no_add_taken t (Insert r k v) ps qs refl h
taken_of t (Update r k v) ps qs h = no_add_taken t (Update r k v) ps qs refl h
taken_of t (Delete r k) ps qs h = no_add_taken t (Delete r k) ps qs refl h
taken_of t (Read n) ps qs h = no_add_taken t (Read n) ps qs refl h
taken_of t (Scan r) ps qs h = no_add_taken t (Scan r) ps qs refl h

pub undone_tied : (t : ℕ) (front : List Entry) (e : Entry) (rest : List Entry) (ps qs : List Pending) (run' : List Pending) → e.txn ≡ t → e.role ≡ Stands
    → pending_of t (adds rest) ≡ [] → Taken t e.op ps qs → (u : ℕ) (b : Bool) → (u == t) ≡ b → (b ≡ true → run' ≡ [])
    → pending_of u ps ≡ pending_of u (adds (front ++ e ∷ rest)) ++ run' → pending_of u qs ≡ pending_of u (adds (front ++ kept (others t) rest)) ++ run'
undone_tied t front e rest ps qs run' its role none out u true is idle tied =
    let same : u ≡ t = (Decides-eqb u t).0 is in
    let n : run' ≡ [] = idle refl in
    let a : pending_of t (adds (front ++ e ∷ rest)) ≡ pending_of t (adds front) ++ add_before t e.op [] =
    ap (pending_of t) (adds-append front (e ∷ rest)) ∙ (pending_of-append t (adds front) (standing_before e.role e.txn e.op (adds rest))
    ∙ ap (λ w. pending_of t (adds front) ++ w) (ap (pending_of t) (is_add e.role e.txn e.op (adds rest) role) ∙ ap (λ v. pending_of t (add_before v e.op (adds rest))) its
    ∙ (of_before t t e.op (adds rest) ∙ (ap (λ w. cond w (add_before t e.op (pending_of t (adds rest))) (pending_of t (adds rest))) (eq_self t)
    ∙ ap (add_before t e.op) none)))) in
    let b : pending_of t ps ≡ pending_of t (adds front) ++ add_before t e.op [] =
    subst (λ v. pending_of v ps ≡ pending_of v (adds (front ++ e ∷ rest)) ++ run') same tied ∙ (ap (λ w. pending_of t (adds (front ++ e ∷ rest)) ++ w) n
    ∙ (append-nil (pending_of t (adds (front ++ e ∷ rest))) ∙ a)) in
    let c : pending_of t (adds (front ++ kept (others t) rest)) ≡ pending_of t (adds front) =
    ap (pending_of t) (adds-append front (kept (others t) rest)) ∙ (pending_of-append t (adds front) (adds (kept (others t) rest))
    ∙ (ap (λ w. pending_of t (adds front) ++ w) (adds-kept (others t) t rest ∙ ap (λ w. cond (not w) (pending_of t (adds rest)) []) (eq_self t))
    ∙ append-nil (pending_of t (adds front)))) in
    ap (λ v. pending_of v qs) same ∙ (out.its (pending_of t (adds front)) b ∙ (sym c
    ∙ (ap (λ v. pending_of v (adds (front ++ kept (others t) rest))) (sym same)
    ∙ (sym (append-nil (pending_of u (adds (front ++ kept (others t) rest)))) ∙ ap (λ w. pending_of u (adds (front ++ kept (others t) rest)) ++ w) (sym n)))))
undone_tied t front e rest ps qs run' its role none out u false is idle tied =
    let apart : u ≢ t = λ s. let x : (u == t) ≡ true = (Decides-eqb u t).1 s in absurd cc in
    let flip : (e.txn == u) ≡ false = ap (λ v. v == u) its ∙ (eq_flip t u (t == u) (u == t) refl refl ∙ is) in
    let a : pending_of u (adds (front ++ e ∷ rest)) ≡ pending_of u (adds front) ++ pending_of u (adds rest) =
    ap (pending_of u) (adds-append front (e ∷ rest)) ∙ (pending_of-append u (adds front) (standing_before e.role e.txn e.op (adds rest))
    ∙ ap (λ w. pending_of u (adds front) ++ w) (other_standing e.role u e.txn e.op (adds rest) flip)) in
    let c : pending_of u (adds (front ++ kept (others t) rest)) ≡ pending_of u (adds front) ++ pending_of u (adds rest) =
    ap (pending_of u) (adds-append front (kept (others t) rest)) ∙ (pending_of-append u (adds front) (adds (kept (others t) rest))
    ∙ ap (λ w. pending_of u (adds front) ++ w) (adds-kept (others t) u rest ∙ ap (λ w. cond (not w) (pending_of u (adds rest)) []) is)) in
    out.apart u apart ∙ (tied ∙ ap (λ w. w ++ run') (a ∙ sym c))

-- what is taken out only widens the room
pub out_wider : (c t : ℕ) (op : Op) (ps qs front : List Pending) → Taken t op ps qs → pending_of t ps ≡ front ++ add_before t op [] → Wider (steps_at c ps) (steps_at c qs)
out_wider c t op ps qs front out is = covers_wider qs ps (λ u. cond (u == t) (add_before t op []) []) (λ u. go u (u == t) refl) c
  where
    go : (u : ℕ) (b : Bool) → (u == t) ≡ b → pending_of u ps ≡ pending_of u qs ++ cond b (add_before t op []) []
    go u true e =
        let same : u ≡ t = (Decides-eqb u t).0 e in
        subst (λ v. pending_of v ps ≡ pending_of v qs ++ add_before t op []) (sym same) (is ∙ ap (λ w. w ++ add_before t op []) (sym (out.its front is)))
    go u false e =
        let apart : u ≢ t = λ s. let x : (u == t) ≡ true = (Decides-eqb u t).1 s in absurd cc in
        sym (append-nil (pending_of u qs) ∙ out.apart u apart)

-- ---- an add is admitted

steps_at-append : (c : ℕ) (ps qs : List Pending) → steps_at c (ps ++ qs) ≡ steps_at c ps ++ steps_at c qs
steps_at-append c [] qs = refl
steps_at-append c (p ∷ ps) qs = go (p.counter == c) (steps_at-append c ps qs)
  where
    go : (b : Bool) → steps_at c (ps ++ qs) ≡ steps_at c ps ++ steps_at c qs
        → cond b (p.step ∷ steps_at c (ps ++ qs)) (steps_at c (ps ++ qs)) ≡ cond b (p.step ∷ steps_at c ps) (steps_at c ps) ++ steps_at c qs
    go true h = ap (λ w. p.step ∷ w) h
    go false h = h

-- at the add's counter there is room by its admission, at any other by the room before
room_beside : (m : Base) (ps : List Pending) (p : Pending) → ((c : ℕ) → HasRoom (m.counts c) (steps_at c ps))
    → IsAdmissible (m.counts p.counter) (steps_at p.counter (ps ++ p ∷ [])) → (c : ℕ) (b : Bool) → (p.counter == c) ≡ b → HasRoom (m.counts c) (steps_at c (ps ++ p ∷ []))
room_beside m ps p room admitted c true is =
    let same : p.counter ≡ c = (Decides-eqb p.counter c).0 is in
    subst (λ d. HasRoom (m.counts d) (steps_at d (ps ++ p ∷ []))) same (room_from_admissible (m.counts p.counter) (steps_at p.counter (ps ++ p ∷ [])) admitted)
room_beside m ps p room admitted c false is =
    let none : steps_at c (p ∷ []) ≡ [] = rw is refl in
    subst (HasRoom (m.counts c)) (sym (steps_at-append c ps (p ∷ []) ∙ (ap (λ w. steps_at c ps ++ w) none ∙ append-nil (steps_at c ps)))) (room c)

room_still : (m : Base) (ps : List Pending) → ((c : ℕ) → HasRoom (m.counts c) (steps_at c ps)) → (c : ℕ) → HasRoom (m.counts c) (steps_at c (ps ++ []))
room_still m ps room c = subst (λ w. HasRoom (m.counts c) (steps_at c w)) (sym (append-nil ps)) (room c)

pub room_called : (m : Base) (ps : List Pending) (t : ℕ) (op : Op) → ((c : ℕ) → HasRoom (m.counts c) (steps_at c ps)) → IsAdmitted m ps t op → (c : ℕ) → HasRoom (m.counts c) (steps_at c (ps ++ add_before t op []))
room_called m ps t (Add n d) room admitted c = room_beside m ps (record { txn = t; counter = n; step = d }) room admitted c (n == c) refl
room_called m ps t (Get r k) room admitted c = room_still m ps room c
room_called m ps t (Insert r k v) room admitted c = room_still m ps room c
room_called m ps t (Update r k v) room admitted c = room_still m ps room c
room_called m ps t (Delete r k) room admitted c = room_still m ps room c
room_called m ps t (Read n) room admitted c = room_still m ps room c
room_called m ps t (Scan r) room admitted c = room_still m ps room c
