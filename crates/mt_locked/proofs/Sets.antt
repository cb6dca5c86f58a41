-- Where one proof is as good as another: of equal books, and of legal ones.
use Rattle.std.proofs.Common.{◌≡◌, List, [], ◌∷◌, ◌++◌, length, drop, refl}
use Rattle.std.proofs.Props.{props}
use mathlib.Core.Logic.{∥∥₁_elim}
use mathlib.Core.List.{IsPrefix}
use mathlib.Core.Sum.{⊎_set}
use Rattle.mt_model.specs.History.{IsActed, IsLegal, run}
use Rattle.mt_model.specs.Model.{Base, base_after}
use Rattle.mt_model.specs.declared.history.Committed.{Committed}
use Rattle.mt_model.specs.declared.operations.Op.{Op}
use Rattle.mt_model.specs.declared.operations.Reply.{Reply}

pub Op-set : IsSet Op
Op-set = hlevel (props, ⊎_set)

pub Reply-set : IsSet Reply
Reply-set = hlevel (props, ⊎_set)

pub Committed-set : IsSet Committed
Committed-set = hlevel (props, Op-set, Reply-set)

pub Books-set : IsSet (List Committed)
Books-set = hlevel (props, Committed-set)

IsActed-prop : (b : Base) (cs : List (Op × Reply)) → IsProp (IsActed b cs)
IsActed-prop b [] = hlevel props
IsActed-prop b (c ∷ cs) = hlevel (props, Reply-set, IsActed-prop (base_after b c.0) cs)

pub IsLegal-prop : (b : Base) (ts : List Committed) → IsProp (IsLegal b ts)
IsLegal-prop b [] = hlevel props
IsLegal-prop b (t ∷ ts) = hlevel (props, IsActed-prop b t.calls, IsLegal-prop (run b t.calls) ts)

rest_is : (xs ys rest : List Committed) → xs ++ rest ≡ ys → xs ++ drop (length xs) ys ≡ ys
rest_is [] ys rest e = refl
rest_is (x ∷ xs) [] rest e = absurd cc
rest_is (x ∷ xs) (y ∷ ys) rest e = let more : xs ++ drop (length xs) ys ≡ ys = rest_is xs ys rest (cc e) in let head : x ≡ y = cc e in cc (more, head)

-- what begins a book in some way does
pub begins : (xs ys : List Committed) → ∥ IsPrefix xs ys ∥₁ → IsPrefix xs ys
begins xs ys some = (drop (length xs) ys, ∥∥₁_elim some (hlevel (props, Books-set)) (λ p. rest_is xs ys p.0 p.1))
