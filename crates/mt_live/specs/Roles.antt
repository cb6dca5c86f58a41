-- The roles of a transaction's calls, in the order of their ends.
use Rattle.std.specs.Prelude.{ℕ, zero, suc, Bool, cond, List, [], ◌∷◌}
use Rattle.mt_live.specs.declared.transactions.Role.{Role}
use Rattle.mt_live.specs.declared.transactions.Role.TheVariants.{TakenBack}
use Rattle.mt_live.specs.Entries.{is_standing, is_forward}

-- how many of them a test picks
abbrev pub count_roles : (Role → Bool) → List Role → ℕ
count_roles p [] = 0
count_roles p (r ∷ rs) = cond (p r) (suc (count_roles p rs)) (count_roles p rs)

-- how many stand
abbrev pub standing_roles : List Role → ℕ
standing_roles rs = count_roles is_standing rs

-- how many are no inverses
abbrev pub forward_roles : List Role → ℕ
forward_roles rs = count_roles is_forward rs

-- a role once so many more that stand may go on to: with none left it is taken back if it stands
abbrev pub settled_role : ℕ → Role → Role
settled_role zero r = cond (is_standing r) TakenBack r
settled_role (suc n) r = r

-- how many are left after it
abbrev pub left_after : ℕ → Role → ℕ
left_after zero r = zero
left_after (suc n) r = cond (is_standing r) n (suc n)

-- those that stand, but for the first so many, are taken back
abbrev pub settle_roles : ℕ → List Role → List Role
settle_roles n [] = []
settle_roles n (r ∷ rs) = settled_role n r ∷ settle_roles (left_after n r) rs
