-- The map compares objects as the model does.
use Rattle.std.proofs.Common.{◌≡◌, cond, Bool, true, false, List, [], ◌∷◌, Option, Some, refl, ap, sym, ◌∙◌}
use Rattle.std.specs.Map.{lookup, lookup_key}
use Rattle.mt_model.specs.contracts.objects.ObjectPartialEq.TheImpl.{ghosts}
use Rattle.mt_model.specs.declared.objects.Object.{Object}
use Rattle.mt_model.specs.declared.objects.Object.TheVariants.{Key, Counter, Relation}
use Rattle.mt_model.specs.Model.{same_object}

pub same_key : (x y : Object) → ghosts.eq x y ≡ same_object x y
same_key (Key r k) (Key s l) = refl
same_key (Key r k) (Counter d) = refl
same_key (Key r k) (Relation s) = refl
same_key (Counter c) (Key s l) = refl
same_key (Counter c) (Counter d) = refl
same_key (Counter c) (Relation s) = refl
same_key (Relation r) (Key s l) = refl
same_key (Relation r) (Counter d) = refl
same_key (Relation r) (Relation s) = refl

pub same_lookup : {V : Type 0} (x : Object) (es : List (Object × V)) → lookup (ghosts.eq x) es ≡ lookup (same_object x) es
same_lookup x es = λ i. lookup (λ y. same_key x y i) es

-- an update by the map's test is one by the model's
pub updated : {V : Type 0} (x : Object) (w : Option V) (old new : List (Object × V))
    → ((q : Object) → lookup (ghosts.eq q) new ≡ cond (ghosts.eq x q) w (lookup (ghosts.eq q) old))
    → (q : Object) → lookup (same_object q) new ≡ cond (same_object x q) w (lookup (same_object q) old)
updated x w old new h q = sym (same_lookup q new) ∙ (h q ∙ (λ i. cond (same_key x q i) w (same_lookup q old i)))

-- the key that is found is the one that is looked for
pub found_key : {V : Type 0} (x : Object) (es : List (Object × V)) (k : Object) → lookup_key (ghosts.eq x) es ≡ Some k → same_object x k ≡ true
found_key x [] k is = absurd cc
found_key {V} x (e ∷ es) k is = go (ghosts.eq x e.0) refl is (λ h. found_key x es k h)
  where
    go : (b : Bool) → ghosts.eq x e.0 ≡ b → cond b (Some e.0) (lookup_key (ghosts.eq x) es) ≡ Some k → (lookup_key (ghosts.eq x) es ≡ Some k → same_object x k ≡ true) → same_object x k ≡ true
    go true h is rec = let same : e.0 ≡ k = cc in ap (same_object x) (sym same) ∙ sym (same_key x e.0) ∙ h
    go false h is rec = rec is
