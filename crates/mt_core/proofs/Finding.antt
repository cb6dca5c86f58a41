-- The inverse of a transaction's last effect finds what its record says.
use Rattle.std.proofs.Common.{◌≡◌, inl, inr, ℕ, ◌==◌, Bool, true, false, not, ◌&&◌, cond, List, [], ◌∷◌, ◌++◌, Option, Some, None, is_some, filter, refl, sym, ap, ◌∙◌, subst}
use Rattle.std.proofs.lemmas.Bool.{cases_Bool, eq-eqb, eqb-true}
use Rattle.std.proofs.lemmas.List.Elements.{filter-append}
use Rattle.mt_frame.specs.declared.records.LoggedOp.{LoggedOp}
use Rattle.mt_frame.specs.declared.records.LoggedOp.TheVariants as logged
use Rattle.mt_live.proofs.Cuts.{IsIdle, cut_of}
use Rattle.mt_live.proofs.Entries.{runs-append, acted_back}
use Rattle.mt_live.proofs.Events.{commits, within_after}
use Rattle.mt_live.proofs.Standing.{effects_sound, effects_run}
use Rattle.mt_live.specs.declared.transactions.Role.{Role}
use Rattle.mt_live.specs.declared.transactions.Role.TheVariants.{Stands, TakenBack, Back}
use Rattle.mt_live.specs.Entries.{Entry, is_standing, runs, kept}
use Rattle.mt_live.specs.Machine.{State, committed_base, IsKept}
use Rattle.mt_live.specs.Sound.{Each, IsSound}
use Rattle.mt_live.specs.Undoing.{others, last_effect}
use Rattle.mt_model.specs.Model.{Base, IsBase, reply_of, base_after, inverse_of}
use Rattle.mt_model.specs.declared.operations.Op.{Op}
use Rattle.mt_replay.proofs.Inverses.{inverse_is}
use Rattle.mt_replay.proofs.Undone.{reply_after}
use Rattle.mt_replay.specs.Recorded.{op_of, undo_of, reply_back}
use Rattle.mt_steps.specs.Logged.{logged_of}
use Rattle.mt_core.proofs.Leads.{logged_did, logged_is}
use Rattle.mt_core.specs.Restartable.{did}

-- the base is that of an operation that has just acted, as its entry says
pub record ActedLast (e : Entry) (base : Base) : Type 0 where
  pub before : Base
  pub bounds : IsBase before
  pub reply : reply_of before e.op ≡ e.reply
  pub is : base ≡ base_after before e.op

abbrev mine : ℕ → ℕ → Bool
mine t u = not (others t u)

is_mine : (t u : ℕ) → u ≡ t → mine t u ≡ true
is_mine t u is = rw (eq-eqb u t is) refl

idle_not : (e : Entry) → (e.role ≡ Stands → inverse_of e.op e.reply ≡ None) → did e ≡ false
idle_not e idle = go e.role refl
  where
    go : (r : Role) → e.role ≡ r → is_standing r && is_some (inverse_of e.op e.reply) ≡ false
    go Stands is = ap is_some (idle is)
    go TakenBack is = refl
    go Back is = refl

none_mine : (t : ℕ) (es : List Entry) → Each (IsIdle t) es → filter did (kept (mine t) es) ≡ []
none_mine t [] idle = refl
none_mine t (e ∷ es) idle = elim (cases_Bool (e.txn == t)) [
  | inl own ↦ let none : did e ≡ false = idle_not e (idle.0 (eqb-true e.txn t own)) in rw (own, none) (none_mine t es idle.1)
  | inr other ↦ rw other (none_mine t es idle.1)
]

pub idle_did : (t : ℕ) (es : List Entry) → Each (IsIdle t) es → filter did (kept (others t) es) ≡ filter did es
idle_did t [] idle = refl
idle_did t (e ∷ es) idle = elim (cases_Bool (e.txn == t)) [
  | inl own ↦ let none : did e ≡ false = idle_not e (idle.0 (eqb-true e.txn t own)) in rw (own, none) (idle_did t es idle.1)
  | inr other ↦ rw other (ap (λ (fs : List Entry). cond (did e) (e ∷ fs) fs) (idle_did t es idle.1))
]

mine_did : (t : ℕ) (e : Entry) (i : Op) → e.txn ≡ t → e.role ≡ Stands → inverse_of e.op e.reply ≡ Some i → did e ≡ true
mine_did t e i own stands inverse = let some : is_some (inverse_of e.op e.reply) ≡ true = ap is_some inverse in ap (λ r. is_standing r && is_some (inverse_of e.op e.reply)) stands ∙ some

pub acted_last : (b : Base) (s : State) (t : ℕ) (e : Entry) (i : Op) → IsKept b s → last_effect t s.standing ≡ Some e → inverse_of e.op e.reply ≡ Some i → ActedLast e s.base
acted_last b s t e i k last inverse =
    let c = cut_of t s.standing e i last inverse in
    let m = committed_base b s in
    let moved = commits s.held k.locks m s.standing k.sound (others t) in
    let m2 = runs m (kept (others t) s.standing) in
    let own = kept (mine t) s.standing in
    let front = filter did (kept (mine t) c.front) in
    let here : kept (mine t) (e ∷ c.rest) ≡ e ∷ kept (mine t) c.rest = ap (λ (h : Bool). cond h (e ∷ kept (mine t) c.rest) (kept (mine t) c.rest)) (is_mine t e.txn c.done.its) in
    let parts : own ≡ kept (mine t) c.front ++ e ∷ kept (mine t) c.rest = ap (kept (mine t)) c.done.place ∙ filter-append (λ (x : Entry). mine t x.txn) c.front (e ∷ c.rest) ∙ ap (λ (xs : List Entry). kept (mine t) c.front ++ xs) here in
    let ends : filter did (e ∷ kept (mine t) c.rest) ≡ e ∷ [] = ap (λ (h : Bool). cond h (e ∷ filter did (kept (mine t) c.rest)) (filter did (kept (mine t) c.rest))) (mine_did t e i c.done.its c.done.role inverse) ∙ ap (λ (xs : List Entry). e ∷ xs) (none_mine t c.rest c.done.idle) in
    let effects : filter did own ≡ front ++ e ∷ [] = ap (filter did) parts ∙ filter-append did (kept (mine t) c.front) (e ∷ kept (mine t) c.rest) ∙ ap (λ (xs : List Entry). front ++ xs) ends in
    let sound : IsSound s.held m2 (front ++ e ∷ []) = subst (IsSound s.held m2) effects (effects_sound s.held k.locks m2 own moved.rest) in
    let led : runs m2 (front ++ e ∷ []) ≡ runs m2 own = ap (runs m2) (sym effects) ∙ effects_run s.held k.locks m2 own moved.rest in
    record {
      before = runs m2 front;
      bounds = λ x. within_after s.held m2 front (e ∷ []) sound x;
      reply = (acted_back m2 front (e ∷ []) sound.acted).0;
      is = sym k.base ∙ sym moved.same ∙ sym led ∙ runs-append m2 front (e ∷ []);
    }

-- so its inverse does something there, which is logged
undo_logged : (d : LoggedOp) → is_some (logged_of (undo_of d) (reply_back d)) ≡ true
undo_logged (logged.Insert r k v) = refl
undo_logged (logged.Update r k v old) = refl
undo_logged (logged.Delete r k old) = refl
undo_logged (logged.Add c s) = refl

pub inverse_logged : (e : Entry) (i : Op) (base : Base) → inverse_of e.op e.reply ≡ Some i → ActedLast e base → is_some (logged_of i (reply_of base i)) ≡ true
inverse_logged e i base inverse a = go (logged_of e.op e.reply) refl
  where
    go : (o : Option LoggedOp) → logged_of e.op e.reply ≡ o → is_some (logged_of i (reply_of base i)) ≡ true
    go None is = let some : is_some (inverse_of e.op e.reply) ≡ true = ap is_some inverse in let none : is_some (inverse_of e.op e.reply) ≡ false = logged_did e.op e.reply ∙ ap is_some is in absurd cc
    go (Some d) is =
        let same_call = logged_is e.op e.reply d is in
        let same : i ≡ undo_of d = inverse_is d e.op e.reply i (sym same_call.0) (sym same_call.1) inverse in
        let found : reply_of (base_after a.before (op_of d)) (undo_of d) ≡ reply_back d = reply_after d a.before a.bounds (ap (reply_of a.before) same_call.0 ∙ a.reply ∙ sym same_call.1) in
        let here : reply_of base i ≡ reply_back d = (λ j. reply_of ((a.is ∙ ap (base_after a.before) (sym same_call.0)) j) (same j)) ∙ found in
        (λ j. is_some (logged_of (same j) (here j))) ∙ undo_logged d
