-- The smallest operation that holds a lock in the way, as the locks are gone through.
use Rattle.std.proofs.Common.{◌≡◌, ℕ, ◌≤◌, ◌++◌, ◌∷◌, [], List, Bool, true, false, Option, Some, None, min, MatchOption, All, Any, length-append, refl, sym, arith, ◌⊎◌, inl, inr, ◌∙◌}
use Rattle.std.proofs.Math.ListN.{get_or-append}
use Rattle.std.proofs.lemmas.List.Elements.{All-push, All-weaker}
use Rattle.std.proofs.lemmas.List.Quantifiers.{Any-push}
use Rattle.mt_plock.specs.declared.guards.PageLock.{PageLock}
use Rattle.mt_plock.specs.Holding.{is_in_way, lesser_of, IsLeastHolder}

-- what is found in some locks
abbrev pub Finds : PageLock → List PageLock → Option ℕ → Type 0
Finds asked locks found = MatchOption found (All (λ held. is_in_way asked held ≡ false) locks) (λ holder. IsLeastHolder asked locks holder)

not_both : (b : Bool) → b ≡ true → b ≡ false → ⊥
not_both b p q = absurd cc

any_longer : {X : Type 0} (P : X → Type 0) (xs : List X) (y : X) → Any P xs → Any P (xs ++ y ∷ [])
any_longer P xs y (k, x, lt, is, holds) =
    (k, x, (let n = length-append xs (y ∷ []) in omega arith), get_or-append xs (y ∷ []) x k lt ∙ is, holds)

any_other : {X : Type 0} (P Q : X → Type 0) (xs : List X) → ((x : X) → P x → Q x) → Any P xs → Any Q xs
any_other P Q xs turns (k, x, lt, is, holds) = (k, x, lt, is, turns x holds)

-- a lock that is not in the way
pub finds_past : (asked : PageLock) (locks : List PageLock) (l : PageLock) (found : Option ℕ) → is_in_way asked l ≡ false → Finds asked locks found
    → Finds asked (locks ++ l ∷ []) found
finds_past asked locks l None clear finds = All-push (λ held. is_in_way asked held ≡ false) locks l finds clear
finds_past asked locks l (Some holder) clear finds = record {
  holds = any_longer (λ held. (is_in_way asked held ≡ true) × (held.op ≡ holder)) locks l finds.holds;
  least = All-push (λ held. is_in_way asked held ≡ true → holder ≤ held.op) locks l finds.least (λ bars. absurd (not_both (is_in_way asked l) bars clear));
}

-- a lock that is
pub finds_more : (asked : PageLock) (locks : List PageLock) (l : PageLock) (found : Option ℕ) → is_in_way asked l ≡ true → Finds asked locks found
    → Finds asked (locks ++ l ∷ []) (Some (lesser_of found l.op))
finds_more asked locks l None bars finds = record {
  holds = Any-push (λ held. (is_in_way asked held ≡ true) × (held.op ≡ l.op)) locks l (bars, refl);
  least = All-push (λ held. is_in_way asked held ≡ true → l.op ≤ held.op) locks l
      (All-weaker (λ held. is_in_way asked held ≡ false) (λ held. is_in_way asked held ≡ true → l.op ≤ held.op)
      (λ held clear bars'. absurd (not_both (is_in_way asked held) bars' clear)) locks finds) (λ bars'. self l.op);
}
  where
    self : (n : ℕ) → n ≤ n
    self n = omega arith
finds_more asked locks l (Some holder) bars finds = record {
  holds = go (either holder l.op);
  least = All-push (λ held. is_in_way asked held ≡ true → min holder l.op ≤ held.op) locks l
      (All-weaker (λ held. is_in_way asked held ≡ true → holder ≤ held.op) (λ held. is_in_way asked held ≡ true → min holder l.op ≤ held.op)
      (λ held above bars'. down holder l.op held.op (above bars')) locks finds.least) (λ bars'. under holder l.op);
}
  where
    under : (m n : ℕ) → min m n ≤ n
    under m n = omega arith

    down : (m n k : ℕ) → m ≤ k → min m n ≤ k
    down m n k le = omega arith

    either : (m n : ℕ) → (min m n ≡ m) ⊎ (min m n ≡ n)
    either m n = grind arith

    go : (min holder l.op ≡ holder) ⊎ (min holder l.op ≡ l.op) → Any (λ held. (is_in_way asked held ≡ true) × (held.op ≡ min holder l.op)) (locks ++ l ∷ [])
    go (inl is) =
        any_longer (λ held. (is_in_way asked held ≡ true) × (held.op ≡ min holder l.op)) locks l
        (any_other (λ held. (is_in_way asked held ≡ true) × (held.op ≡ holder)) (λ held. (is_in_way asked held ≡ true) × (held.op ≡ min holder l.op)) locks
        (λ held parts. (parts.0, parts.1 ∙ sym is)) finds.holds)
    go (inr is) = Any-push (λ held. (is_in_way asked held ≡ true) × (held.op ≡ min holder l.op)) locks l (bars, sym is)
