-- What the answer of a call excludes.
use Rattle.std.proofs.Common.{◌≡◌, ap, sym, subst, Result, Ok, Err, IfErr, IfOk, OnOk}
use Rattle.mt_base.specs.declared.refusal.Refusal.{Refusal}
use Rattle.mt_base.specs.declared.refusal.Refusal.TheVariants.{DeviceFailed}

-- a call that went well was not refused
pub not_refused : {T : Type 0} (r : Result T Refusal) (x : T) (why : Refusal) → r ≡ Ok x → r ≡ Err why → ⊥
not_refused (Ok y) x why well bad = absurd cc
not_refused (Err e) x why well bad = absurd cc

-- a call that was refused so was not refused otherwise
pub refused_so : {T : Type 0} (r : Result T Refusal) (why other : Refusal) → r ≡ Err why → (why ≡ other → ⊥) → r ≡ Err other → ⊥
refused_so (Ok y) why other is not bad = absurd cc
refused_so (Err e) why other is not bad = not cc

-- a call is refused with one refusal
pub one_refusal : {T : Type 0} (w x : Refusal) → ◌≡◌ {A = Result T Refusal} (Err w) (Err x) → w ≡ x
one_refusal w x e = cc

-- a call that is refused as another one was
pub not_either : {T U : Type 0} (why other : Refusal) → (◌≡◌ {A = Result T Refusal} (Err why) (Err other) → ⊥) → ◌≡◌ {A = Result U Refusal} (Err why) (Err other) → ⊥
not_either why other not e = not (ap Err (one_refusal why other e))

-- a call that is refused for a failure alone went well, if it was not refused so
pub quiet_of : {T Q : Type 0} (F : Type 0) (r : Result T Refusal) → IfErr r (λ why. (why ≡ DeviceFailed) × F) → OnOk r Q → (r ≡ Err DeviceFailed → ⊥) → Q
quiet_of F (Ok x) cause quiet not = quiet
quiet_of F (Err why) cause quiet not = absurd (not (ap Err cause.0))

-- a call that was refused has no value to be such
pub not_ok : {T E : Type 0} (P : T → Type 0) (r : Result T E) (e : E) → r ≡ Err e → IfOk r P
not_ok P r e is = subst (λ (x : Result _ _). IfOk x P) (sym is) tt

pub not_well : {T E : Type 0} (Q : Type 0) (r : Result T E) (e : E) → r ≡ Err e → OnOk r Q
not_well Q r e is = subst (λ (x : Result _ _). OnOk x Q) (sym is) tt
