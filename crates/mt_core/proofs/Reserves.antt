-- What is reserved of the log is enough for whatever is given back of it.
use Rattle.std.proofs.Common.{◌≡◌, ◌≢◌, ⊎_elim, ℕ, suc, ◌≤◌, ◌+◌, ◌==◌, cond, not, Bool, true, false, List, [], ◌∷◌, length, get_or, Option, Some, is_some, refl, sym, ap, ◌∙◌, arith}
use Rattle.std.specs.Prelude.{All, AllPairs, filter}
use Rattle.std.specs.List.{sum_by}
use Rattle.std.proofs.lemmas.Bool.{eq-eqb, eqb-true, ne_eqb, cases_eq}
use Rattle.std.proofs.lemmas.List.Elements.{All-head, All-tail}
use Rattle.std.proofs.lemmas.List.Sums.{sum_by-cons}
use Rattle.mt_live.specs.Entries.{Entry, kept}
use Rattle.mt_live.specs.Lives.{member_of, is_member}
use Rattle.mt_live.specs.Members.{Member}
use Rattle.mt_live.specs.Undoing.{only, others, last_effect}
use Rattle.mt_core.specs.Runs.{AreApart, IsOwned, undo_bytes, entry_bytes, taken_bytes}
use Rattle.mt_core.specs.declared.parts.Commit.{Commit}
use Rattle.mt_op.specs.declared.scope.OpScope.{OpScope}
use Rattle.mt_core.proofs.Lists.{pairs_head, pairs_tail}
use Rattle.mt_core.proofs.Effects.{weighs_effect, weighs_apart, weighs_last, last_kept, last_only, inverse_bytes}

-- ---- the inverses that run have each taken what was kept for an entry

-- there is an entry for it to take back
pub record HasEntry (es : List Entry) (r : OpScope) : Type 0 where
  pub entry : Entry
  pub last : last_effect r.txn es ≡ Some entry
  pub weighs : entry_bytes entry ≡ 106496

pub has_entry : (ms : List Member) (es : List Entry) (r : OpScope) → IsOwned ms es r → r.undoes ≢ 0 → HasEntry es r
has_entry ms es r o back =
    let t = o.inverse back in
    let of_entry : entry_bytes t.entry ≡ undo_bytes t.entry.op = weighs_effect undo_bytes r.txn es t.entry t.last in
    record { entry = t.entry; last = t.last; weighs = of_entry ∙ inverse_bytes t.entry.op t.entry.reply r.op t.inverse }

-- the last effect of a transaction is among its own entries
pub own_last : (t : ℕ) (es : List Entry) (e : Entry) → last_effect t es ≡ Some e → entry_bytes e ≤ sum_by entry_bytes (kept (only t) es)
own_last t es e is = weighs_last undo_bytes t (kept (only t) es) e (last_only t es ∙ is)

pub taken_within : (rs : List OpScope) (es : List Entry) → AllPairs AreApart rs → All (λ (r : OpScope). r.undoes ≢ 0 → HasEntry es r) rs → sum_by taken_bytes rs ≤ sum_by entry_bytes es
taken_within [] es apart have = omega arith
taken_within (r ∷ rs) es apart have =
    let whole = sum_by-cons taken_bytes r rs in
    ⊎_elim
    (λ (fore : r.undoes ≡ 0).
    let test : (r.undoes == 0) ≡ true = eq-eqb r.undoes 0 fore in
    let none : taken_bytes r ≡ 0 = rw test refl in
    let rest = taken_within rs es (pairs_tail AreApart r rs apart) (All-tail (λ (q : OpScope). q.undoes ≢ 0 → HasEntry es q) r rs have) in
    omega arith)
    (λ (back : r.undoes ≡ 0 → ⊥).
    let test : (r.undoes == 0) ≡ false = ne_eqb r.undoes 0 back in
    let own : taken_bytes r ≡ 106496 = rw test refl in
    let e = All-head (λ (q : OpScope). q.undoes ≢ 0 → HasEntry es q) r rs have back in
    let mine = own_last r.txn es e.entry e.last in
    let weighs = e.weighs in
    let both = weighs_apart undo_bytes r.txn es in
    let heads = pairs_head AreApart r rs apart in
    let rest = taken_within rs (kept (others r.txn) es) (pairs_tail AreApart r rs apart) (λ i d lt b.
    let f = All-tail (λ (q : OpScope). q.undoes ≢ 0 → HasEntry es q) r rs have i d lt b in
    record { entry = f.entry; last = last_kept (get_or rs i d).txn r.txn es ((heads i d lt).txn) ∙ f.last; weighs = f.weighs }) in
    omega arith)
    (cases_eq r.undoes 0)

-- ---- so many transactions live as are named

abbrev without : ℕ → List Member → List Member
without t ms = filter (λ (m : Member). not (m.number == t)) ms

other_member : (t u : ℕ) (ms : List Member) → u ≢ t → member_of (without t ms) u ≡ member_of ms u
other_member t u [] apart = refl
other_member t u (m ∷ ms) apart = go (m.number == t) refl (other_member t u ms apart)
  where
    go : (c : Bool) → (m.number == t) ≡ c → member_of (without t ms) u ≡ member_of ms u → member_of (cond (not c) (m ∷ without t ms) (without t ms)) u ≡ cond (m.number == u) (Some m) (member_of ms u)
    go true is rest = let away : (m.number == u) ≡ false = ne_eqb m.number u (λ e. apart (sym e ∙ eqb-true m.number t is)) in rw away rest
    go false is rest = ap (λ (o : Option Member). cond (m.number == u) (Some m) o) rest

no_more : (t : ℕ) (ms : List Member) → length (without t ms) ≤ length ms
no_more t [] = omega arith
no_more t (m ∷ ms) = go (m.number == t) (no_more t ms)
  where
    go : (c : Bool) → length (without t ms) ≤ length ms → length (cond (not c) (m ∷ without t ms) (without t ms)) ≤ suc (length ms)
    go true less = omega (arith, less)
    go false less = omega (arith, less)

one_less : (t : ℕ) (ms : List Member) → is_member ms t ≡ true → length (without t ms) + 1 ≤ length ms
one_less t [] is = absurd cc
one_less t (m ∷ ms) is = go (m.number == t) is (λ k. one_less t ms k)
  where
    go : (c : Bool) → is_some (cond c (Some m) (member_of ms t)) ≡ true → (is_member ms t ≡ true → length (without t ms) + 1 ≤ length ms) → length (cond (not c) (m ∷ without t ms) (without t ms)) + 1 ≤ suc (length ms)
    go true k rec = let less = no_more t ms in omega (arith, less)
    go false k rec = let less = rec k in omega (arith, less)

pub members_many : (cs : List Commit) (ms : List Member) → AllPairs (λ (a b : Commit). a.txn ≢ b.txn) cs → All (λ (c : Commit). is_member ms c.txn ≡ true) cs → length cs ≤ length ms
members_many [] ms apart are = omega arith
members_many (c ∷ cs) ms apart are =
    let heads = pairs_head (λ (a b : Commit). a.txn ≢ b.txn) c cs apart in
    let rest = members_many cs (without c.txn ms) (pairs_tail (λ (a b : Commit). a.txn ≢ b.txn) c cs apart)
    (λ i d lt. ap is_some (other_member c.txn (get_or cs i d).txn ms (λ e. heads i d lt (sym e))) ∙ All-tail (λ (x : Commit). is_member ms x.txn ≡ true) c cs are i d lt) in
    let less = one_less c.txn ms (All-head (λ (x : Commit). is_member ms x.txn ≡ true) c cs are) in
    omega (arith, rest, less)

pub members_more : (t : ℕ) (cs : List Commit) (ms : List Member) → is_member ms t ≡ true → All (λ (c : Commit). c.txn ≢ t) cs → AllPairs (λ (a b : Commit). a.txn ≢ b.txn) cs → All (λ (c : Commit). is_member ms c.txn ≡ true) cs → length cs + 1 ≤ length ms
members_more t cs ms there others apart are =
    let rest = members_many cs (without t ms) apart (λ i d lt. ap is_some (other_member t (get_or cs i d).txn ms (others i d lt)) ∙ are i d lt) in
    let less = one_less t ms there in
    omega (arith, rest, less)
