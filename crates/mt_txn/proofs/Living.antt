-- Who lives, who runs an operation, and which commits are under way, as a state says it.
use Rattle.std.proofs.Common.{◌≡◌, ◌≢◌, ◌==◌, ◌&&◌, ◌||◌, ◌∷◌, [], ℕ, suc, ◌≤◌, Bool, true, false, cond, List, get_or, Option, Some, None, is_some, ⊎_elim, refl, sym, ap, ◌∙◌, subst, arith}
use Rattle.std.proofs.Props.{props}
use Rattle.std.specs.Prelude.{All}
use Rattle.std.specs.List.{list_any}
use Rattle.std.specs.Option.{option_map}
use Rattle.std.proofs.lemmas.Bool.{cases_eq, eqb-true}
use Rattle.std.proofs.lemmas.List.Elements.{All-tail}
use mathlib.Core.Logic.{∥∥₁_elim}
use Rattle.mt_disk.specs.declared.device.Device.{Ghosts}
use Rattle.mt_live.specs.Lives.{member_of}
use Rattle.mt_live.specs.Machine.{State, is_live}
use Rattle.mt_live.specs.Entries.{is_standing, is_forward}
use Rattle.mt_live.specs.Members.{Member, Noted, standing_count, forward_count}
use Rattle.mt_live.specs.declared.transactions.Role.{Role}
use Rattle.mt_live.specs.declared.transactions.Role.TheVariants.{Stands, TakenBack, Back}
use Rattle.mt_live.specs.declared.transactions.TxnState.TheVariants.{Open, Committing}
use Rattle.mt_model.specs.Model.{Base}
use Rattle.mt_model.specs.declared.operations.Op.{Op}
use Rattle.mt_core.specs.Consistent.{Origin, IsConsistent}
use Rattle.mt_core.specs.Runs.{running_in, state_in, is_for, is_undoing}
use Rattle.mt_core.specs.declared.parts.Commit.{Commit}
use Rattle.mt_core.specs.declared.parts.Core.{Core}
use Rattle.mt_op.specs.declared.scope.OpScope.{OpScope}
use Rattle.mt_txn.specs.Causes.{is_busy}
use Rattle.mt_txn.specs.Well.{IsWell, ShowsIn}

-- ---- of lists

alike : {A B : Type 0} (f : Member → A) (g : Member → B) (o : Option Member) → is_some (option_map f o) ≡ is_some (option_map g o)
alike f g None = refl
alike f g (Some m) = refl

runs_in : (rs : List OpScope) (t : ℕ) (op : Op) → running_in rs t ≡ Some op → list_any (λ (r : OpScope). r.txn == t) rs ≡ true
runs_in [] t op is = absurd cc
runs_in (r ∷ rs) t op is = go (r.txn == t) refl (runs_in rs t op)
  where
    go : (b : Bool) → (r.txn == t) ≡ b → (running_in rs t ≡ Some op → list_any (λ (q : OpScope). q.txn == t) rs ≡ true) → list_any (λ (q : OpScope). q.txn == t) (r ∷ rs) ≡ true
    go true its later = ap (λ (b : Bool). b || list_any (λ (q : OpScope). q.txn == t) rs) its
    go false other later =
        let rest : running_in rs t ≡ Some op = ap (λ (b : Bool). cond (b && (r.undoes == 0)) (Some r.op) (running_in rs t)) (sym other) ∙ is in
        ap (λ (b : Bool). b || list_any (λ (q : OpScope). q.txn == t) rs) other ∙ later rest

rests_in : (rs : List OpScope) (t : ℕ) → All (λ (r : OpScope). r.txn ≡ t → (r.undoes == 0) ≡ true) rs → running_in rs t ≡ None → list_any (λ (r : OpScope). r.txn == t) rs ≡ false
rests_in [] t fore none = refl
rests_in (r ∷ rs) t fore none = go (r.txn == t) refl (rests_in rs t (All-tail (λ (q : OpScope). q.txn ≡ t → (q.undoes == 0) ≡ true) r rs fore))
  where
    go : (b : Bool) → (r.txn == t) ≡ b → (running_in rs t ≡ None → list_any (λ (q : OpScope). q.txn == t) rs ≡ false) → list_any (λ (q : OpScope). q.txn == t) (r ∷ rs) ≡ false
    go true its later =
        let forward : (r.undoes == 0) ≡ true = fore 0 r (omega arith) (eqb-true r.txn t its) in
        let own : is_for t r ≡ true = ap (λ (b : Bool). b && (r.undoes == 0)) its ∙ forward in
        let e : Some r.op ≡ None = ap (λ (b : Bool). cond b (Some r.op) (running_in rs t)) (sym own) ∙ none in absurd cc
    go false other later =
        let rest : running_in rs t ≡ None = ap (λ (b : Bool). cond (b && (r.undoes == 0)) (Some r.op) (running_in rs t)) (sym other) ∙ none in
        ap (λ (b : Bool). b || list_any (λ (q : OpScope). q.txn == t) rs) other ∙ later rest

-- ---- of a kernel

module _ {D : Type 0} (g : Ghosts D) (relations counters : ℕ) where
  pub lives_of : (k : Core D) (first : Base) (s : State) → ShowsIn g relations counters first s k → (t : ℕ) → is_live s t ≡ is_some (state_in k.live.members t)
  lives_of k first s shows t = ∥∥₁_elim shows (hlevel props) (λ (origin, base, is, x).
      ap (λ (z : State). is_live z t) x.state ∙ alike (λ (m : Member). m.session) (λ (m : Member). m.state) (member_of k.live.members t))

  pub busy_of : (k : Core D) (first : Base) (s : State) → ShowsIn g relations counters first s k → (t : ℕ) (op : Op) → s.running t ≡ Some op → is_busy k t ≡ true
  busy_of k first s shows t op runs = ∥∥₁_elim shows (hlevel props) (λ (origin, base, is, x).
      runs_in k.running.items t op (ap (λ (z : State). z.running t) (sym x.state) ∙ runs))

  pub idle_of : (k : Core D) (first : Base) (s : State) → ShowsIn g relations counters first s k → (t : ℕ) → state_in k.live.members t ≡ Some Open → s.running t ≡ None → is_busy k t ≡ false
  idle_of k first s shows t opened none = ∥∥₁_elim shows (hlevel props) (λ (origin, base, is, x).
      rests_in k.running.items t (λ i d lt own. fore (get_or k.running.items i d) own (x.consistent.fit.owned i d lt).backwards) (ap (λ (z : State). z.running t) (sym x.state) ∙ none))
    where
      fore : (r : OpScope) → r.txn ≡ t → (r.undoes ≢ 0 → is_undoing (state_in k.live.members r.txn) ≡ true) → (r.undoes == 0) ≡ true
      fore r own backwards = ⊎_elim (λ (forward : r.undoes ≡ 0). ap (λ (n : ℕ). n == 0) forward)
          (λ (back : r.undoes ≢ 0). let not : is_undoing (state_in k.live.members r.txn) ≡ false = ap is_undoing (ap (state_in k.live.members) own ∙ opened) in let is = backwards back in absurd cc) (cases_eq r.undoes 0)

  pub no_commits : (k : Core D) → IsWell g relations counters k → ((t : ℕ) → state_in k.live.members t ≢ Some Committing) → k.commits.items ≡ []
  no_commits k well nobody = go k.commits.items refl
    where
      go : (cs : List Commit) → k.commits.items ≡ cs → k.commits.items ≡ []
      go [] is = is
      go (c ∷ cs) is = absurd (∥∥₁_elim well (hlevel props) (λ (origin, base, is_origin, safe).
          let each : All (λ (d : Commit). state_in k.live.members d.txn ≡ Some Committing) (c ∷ cs) = subst (All (λ (d : Commit). state_in k.live.members d.txn ≡ Some Committing)) is safe.fit.queued.each in
          nobody c.txn (each 0 c (omega arith))))

-- ---- how many of its operations count

standing_forward : (cs : List Noted) → standing_count cs ≤ forward_count cs
standing_forward [] = omega arith
standing_forward (c ∷ cs) = go c.role (standing_forward cs)
  where
    go : (r : Role) → standing_count cs ≤ forward_count cs → cond (is_standing r) (suc (standing_count cs)) (standing_count cs) ≤ cond (is_forward r) (suc (forward_count cs)) (forward_count cs)
    go Stands less = omega (arith, less)
    go TakenBack less = omega (arith, less)
    go Back less = less

pub few_stand : {D : Type 0} (g : Ghosts D) (origin : Origin) (base : Base) (k : Core D) (t n : ℕ) → IsConsistent g origin base k → Some n ≡ option_map (λ (m : Member). standing_count m.calls) (member_of k.live.members t) → n ≤ 256
few_stand g origin base k t n safe is = go (member_of k.live.members t) refl is
  where
    go : (o : Option Member) → member_of k.live.members t ≡ o → Some n ≡ option_map (λ (m : Member). standing_count m.calls) o → n ≤ 256
    go None at h = absurd cc
    go (Some m) at h =
        let same : n ≡ standing_count m.calls = cc in
        let few = (safe.outcome t m at).few in
        let less = standing_forward m.calls in omega (arith, same, few, less)
