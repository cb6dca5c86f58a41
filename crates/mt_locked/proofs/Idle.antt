-- Where nobody lives in a kernel, it holds no lock.
use Rattle.std.proofs.Common.{◌≡◌, ℕ, zero, suc, Bool, true, false, List, [], ◌∷◌, length, is_some, refl, sym, ap, ◌∙◌, subst, arith}
use Rattle.std.proofs.Props.{props}
use Rattle.std.specs.Prelude.{All}
use Rattle.std.specs.Option.{option_map}
use mathlib.Core.Logic.{∥∥₁_elim}
use Rattle.mt_disk.specs.declared.device.Device.{Ghosts}
use Rattle.mt_core.specs.Runs.{AreHeldBy, IsOwned, is_working}
use Rattle.mt_op.specs.declared.scope.OpScope.{OpScope}
use Rattle.mt_live.specs.Entries.{Entry}
use Rattle.mt_live.specs.Lives.{member_of}
use Rattle.mt_live.specs.Members.{Member}
use Rattle.mt_model.specs.declared.tables.Base.{Base}
use Rattle.mt_plock.specs.declared.guards.PageLock.{PageLock}
use Rattle.mt_slock.specs.Views.{held_of}
use Rattle.mt_txn.specs.Turned.{HasNobody}
use Rattle.mt_txn.specs.declared.kernel.Kernel.{Kernel}
use Rattle.mt_locked.specs.Began.{BeganOn, IsIdle}

nobody_in : (ms : List Member) → length ms ≡ 0 → ms ≡ []
nobody_in [] none = refl
nobody_in (m ∷ ms) none = absurd (omega arith)

-- who is in no list does not live
pub not_true : (b : Bool) → (b ≡ true → ⊥) → b ≡ false
not_true true never = absurd (never refl)
not_true false never = refl

pub none_if : (n : ℕ) → ((n ≡ 0 → ⊥) → ⊥) → n ≡ 0
none_if zero never = refl
none_if (suc n) never = absurd (never (λ none. absurd (omega arith)))

-- no operation is of nobody
none_runs : (ms : List Member) (standing : List Entry) (rs : List OpScope) → ms ≡ [] → All (IsOwned ms standing) rs → rs ≡ []
none_runs ms standing [] none owned = refl
none_runs ms standing (r ∷ rs) none owned =
    let works = (owned 0 r (omega arith)).at_work in
    let wrong : ◌≡◌ {A = Bool} false true = ap (λ (l : List Member). is_working (member_of l r.txn)) (sym none) ∙ works in absurd cc

none_held : (rs : List OpScope) (locks : List PageLock) → rs ≡ [] → AreHeldBy rs locks → length locks ≡ 0
none_held rs [] none held = refl
none_held rs (l ∷ locks) none held =
    let one = subst (λ (q : List OpScope). AreHeldBy q (l ∷ locks)) none held 0 l (omega arith) in
    let wrong : ◌≡◌ {A = Bool} false true = one in absurd cc

module _ {D : Type 0} {g : Ghosts D} where
  pub idle_of : (b : Base) (k : Kernel D g) → BeganOn b k → HasNobody k → IsIdle k
  idle_of b k began nobody =
      let none = nobody_in k.core.live.members nobody in
      record {
        nobody = nobody;
        objects = λ t x m. ∥∥₁_elim began.0 (hlevel props) (λ (s, shows). ∥∥₁_elim shows (hlevel props) (λ (origin, base, is, in_it).
            not_true (held_of k.core.locks t x m) (λ held.
            let lives = in_it.consistent.fit.kept.owned.held t x m held in
            let wrong : ◌≡◌ {A = Bool} false true = ap (λ (l : List Member). is_some (option_map (λ (u : Member). u.session) (member_of l t))) (sym none) ∙ lives in absurd cc)));
        pages = ∥∥₁_elim began.0 (hlevel props) (λ (s, shows). ∥∥₁_elim shows (hlevel props) (λ (origin, base, is, in_it).
            let fit = in_it.consistent.fit in
            none_held k.core.running.items k.core.operations.locks (none_runs k.core.live.members k.core.live.standing k.core.running.items none fit.owned) fit.locked));
      }
