-- What of a transaction's entries is undone or taken back next, and what stands once it is.
use Rattle.std.specs.Prelude.{ℕ, zero, suc, ◌==◌, ◌&&◌, Bool, not, cond, List, [], ◌∷◌, Option, Some, None, is_some}
use Rattle.mt_model.specs.Model.{inverse_of}
use Rattle.mt_live.specs.declared.transactions.Role.TheVariants.{TakenBack}
use Rattle.mt_live.specs.Entries.{Entry, with_role, is_standing, kept}

-- one transaction's number, and all others
abbrev pub only : ℕ → ℕ → Bool
only t u = u == t

abbrev pub others : ℕ → ℕ → Bool
others t u = not (u == t)

-- an entry of the transaction that stands: it was not taken back, and takes back no other
abbrev pub is_counted : ℕ → Entry → Bool
is_counted t e = (e.txn == t) && is_standing e.role

-- one that did something, so that it has an inverse
abbrev pub is_effect : ℕ → Entry → Bool
is_effect t e = is_counted t e && is_some (inverse_of e.op e.reply)

abbrev pub last_of : Option Entry → Bool → Entry → Option Entry
last_of (Some later) b e = Some later
last_of None b e = cond b (Some e) None

-- the last of them
abbrev pub last_effect : ℕ → List Entry → Option Entry
last_effect t [] = None
last_effect t (e ∷ es) = last_of (last_effect t es) (is_effect t e) e

-- what stands once an abort has run the inverse of the last of them: neither it nor any later entry of the
-- transaction, so that no read stands that saw what is undone
abbrev pub cut_back : ℕ → List Entry → List Entry
cut_back t [] = []
cut_back t (e ∷ es) =
    cond (is_some (last_effect t es)) (e ∷ cut_back t es) (cond (is_effect t e) (kept (others t) es) (e ∷ es))

-- the entries once the last of them is taken back by a transaction that goes on
abbrev pub mark_last : ℕ → List Entry → List Entry
mark_last t [] = []
mark_last t (e ∷ es) =
    cond (is_some (last_effect t es)) (e ∷ mark_last t es) (cond (is_effect t e) (with_role TakenBack e ∷ es) (e ∷ es))

-- those after the first so many that stand of a transaction
abbrev pub after_first : ℕ → ℕ → List Entry → List Entry
after_first t n [] = []
after_first t zero (e ∷ es) = e ∷ es
after_first t (suc n) (e ∷ es) = cond (is_counted t e) (after_first t n es) (after_first t (suc n) es)

-- each of the transaction's that stand is marked as taken back
abbrev pub mark_all : ℕ → List Entry → List Entry
mark_all t [] = []
mark_all t (e ∷ es) = cond (is_counted t e) (with_role TakenBack e ∷ mark_all t es) (e ∷ mark_all t es)

-- each but the first so many is
abbrev pub settle_after : ℕ → ℕ → List Entry → List Entry
settle_after t n [] = []
settle_after t zero (e ∷ es) = mark_all t (e ∷ es)
settle_after t (suc n) (e ∷ es) = cond (is_counted t e) (e ∷ settle_after t n es) (e ∷ settle_after t (suc n) es)
