-- Of a result that is no error, several facts at once.
use Rattle.std.proofs.Common.{Result, Ok, Err}
use Rattle.std.specs.Prelude.{IfOk, OnOk}

pub four_ok : {T E : Type 0} (P Q S U R : T → Type 0) (r : Result T E) → IfOk r P → IfOk r Q → IfOk r S → IfOk r U → ((x : T) → P x → Q x → S x → U x → R x) → IfOk r R
four_ok P Q S U R (Ok x) p q s u go = go x p q s u
four_ok P Q S U R (Err why) p q s u go = tt

-- what holds in any case holds if it is no error
pub given_ok : {T E P : Type 0} → (r : Result T E) → P → OnOk r P
given_ok (Ok x) p = p
given_ok (Err why) p = tt
