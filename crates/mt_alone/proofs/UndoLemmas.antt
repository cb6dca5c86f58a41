-- How many steps an abort takes at most whose transaction is alone.
use Rattle.std.proofs.Common.{◌≡◌, ◌≢◌, ◌≤◌, ◌+◌, ◌*◌, ◌==◌, ◌&&◌, ◌||◌, ℕ, Bool, true, false, List, [], ◌∷◌, length, Option, Some, None, is_some, ⊎_elim, refl, ap, sym, ◌∙◌, arith}
use Rattle.std.specs.Prelude.{All, if◌then◌else◌}
use Rattle.std.specs.List.{list_any, sum_by}
use Rattle.std.proofs.lemmas.Bool.{cases_eq}
use Rattle.std.proofs.lemmas.Bool.Decides.{Decides-eqb}
use Rattle.std.proofs.lemmas.List.Sums.{sum_by-cons}
use mathlib.Core.Logic.{∥∥₁_elim}
use Rattle.std.proofs.Props.{props}
use Rattle.mt_disk.specs.declared.device.Device.{Ghosts}
use Rattle.mt_live.specs.Entries.{Entry, is_standing}
use Rattle.mt_live.specs.Lives.{member_of}
use Rattle.mt_live.specs.Machine.{State}
use Rattle.mt_live.specs.Members.{Member}
use Rattle.mt_model.specs.declared.operations.Op.{Op}
use Rattle.mt_model.specs.Model.{Base, inverse_of}
use Rattle.mt_op.proofs.Budget.{area_small}
use Rattle.mt_pool.specs.Views.{pages}
use Rattle.mt_core.proofs.Effects.{inverse_bytes}
use Rattle.mt_core.specs.Runs.{entry_bytes, kept_bytes, taken_bytes, is_working}
use Rattle.mt_core.specs.Work.{abort_steps, effect_steps, effects_left, undo_steps}
use Rattle.mt_core.specs.declared.parts.Commit.{Commit}
use Rattle.mt_op.specs.declared.scope.OpScope.{OpScope}
use Rattle.mt_txn.proofs.Living.{no_commits}
use Rattle.mt_txn.specs.Causes.{is_busy}
use Rattle.mt_txn.specs.Shown.{Shows}
use Rattle.mt_txn.specs.declared.kernel.Kernel.{Kernel}
use Rattle.mt_alone.proofs.ForceLemmas.{well_of}
use Rattle.mt_alone.specs.Driven.{NobodyCommits}

-- ---- what the effects take, and the bytes that are kept for them

bytes_of : (e : Entry) (i : Option Op) → inverse_of e.op e.reply ≡ i → is_standing e.role ≡ true → is_some i ≡ true → entry_bytes e ≡ 106496
bytes_of e None is stands some = absurd cc
bytes_of e (Some i) is stands some =
    let test : is_some (inverse_of e.op e.reply) ≡ true = ap (λ (o : Option Op). is_some o) is in
    rw test (rw stands (inverse_bytes e.op e.reply i is))

steps_few : (pages t : ℕ) (e : Entry) → pages ≤ 4000 → 106496 * effect_steps pages t e ≤ 8010 * entry_bytes e
steps_few pages t e few = go (e.txn == t) (is_standing e.role) (is_some (inverse_of e.op e.reply)) refl refl refl
  where
    none : effect_steps pages t e ≡ 0 → 106496 * effect_steps pages t e ≤ 8010 * entry_bytes e
    none is = omega (arith, is)

    of_own : (a : Bool) → (e.txn == t) ≡ a → effect_steps pages t e ≡ (if (a && is_standing e.role) && is_some (inverse_of e.op e.reply) then 2 * pages + 10 else 0)
    of_own a own = ap (λ (c : Bool). if (c && is_standing e.role) && is_some (inverse_of e.op e.reply) then 2 * pages + 10 else 0) own

    of_standing : (a b : Bool) → (e.txn == t) ≡ a → is_standing e.role ≡ b → effect_steps pages t e ≡ (if (a && b) && is_some (inverse_of e.op e.reply) then 2 * pages + 10 else 0)
    of_standing a b own stands = of_own a own ∙ ap (λ (c : Bool). if (a && c) && is_some (inverse_of e.op e.reply) then 2 * pages + 10 else 0) stands

    of_all : (a b c : Bool) → (e.txn == t) ≡ a → is_standing e.role ≡ b → is_some (inverse_of e.op e.reply) ≡ c → effect_steps pages t e ≡ (if (a && b) && c then 2 * pages + 10 else 0)
    of_all a b c own stands some = of_standing a b own stands ∙ ap (λ (d : Bool). if (a && b) && d then 2 * pages + 10 else 0) some

    go : (a b c : Bool) → (e.txn == t) ≡ a → is_standing e.role ≡ b → is_some (inverse_of e.op e.reply) ≡ c → 106496 * effect_steps pages t e ≤ 8010 * entry_bytes e
    go false b c own stands some = none (of_own false own)
    go true false c own stands some = none (of_standing true false own stands)
    go true true false own stands some = none (of_all true true false own stands some)
    go true true true own stands some =
        let steps : effect_steps pages t e ≡ 2 * pages + 10 = of_all true true true own stands some in
        let bytes = bytes_of e (inverse_of e.op e.reply) refl stands some in
        omega (arith, steps, bytes, few)

effects_few : (pages t : ℕ) (es : List Entry) → pages ≤ 4000 → 106496 * effects_left pages es t ≤ 8010 * sum_by entry_bytes es
effects_few pages t [] few = omega arith
effects_few pages t (e ∷ es) few =
    let steps = sum_by-cons (effect_steps pages t) e es in
    let bytes = sum_by-cons entry_bytes e es in
    let one = steps_few pages t e few in
    let rest = effects_few pages t es few in
    omega (arith, steps, bytes, one, rest)

-- ---- nothing runs

at_work : (o : Option Member) → is_working o ≡ true → is_some o ≡ true
at_work None is = is
at_work (Some m) is = refl

nothing_runs : (ms : _) (t : ℕ) (rs : List OpScope) → All (λ (r : OpScope). is_working (member_of ms r.txn) ≡ true) rs → ((u : ℕ) → u ≢ t → is_some (member_of ms u) ≡ true → ⊥) → list_any (λ (r : OpScope). r.txn == t) rs ≡ false → rs ≡ []
nothing_runs ms t [] owned alone none = refl
nothing_runs ms t (r ∷ rs) owned alone none = absurd (⊎_elim
    (λ (same : r.txn ≡ t).
    let some : list_any (λ (q : OpScope). q.txn == t) (r ∷ rs) ≡ true = ap (λ (b : Bool). b || list_any (λ (q : OpScope). q.txn == t) rs) ((Decides-eqb r.txn t).1 same) in
    let wrong : true ≡ false = sym some ∙ none in cc)
    (λ (other : r.txn ≢ t). alone r.txn other (at_work (member_of ms r.txn) (owned 0 r (omega arith)))) (cases_eq r.txn t))

module _ {D : Type 0} {g : Ghosts D} where
  pub undo_few : (k : Kernel D g) (first : Base) (s : State) (t : ℕ) → Shows first s k → NobodyCommits k → is_busy k.core t ≡ false → ((u : ℕ) → u ≢ t → is_some (member_of k.core.live.members u) ≡ true → ⊥)
      → undo_steps k.core t ≤ 5054310
  undo_few k first s t shows nobody idle alone = ∥∥₁_elim shows (hlevel props) (λ (origin, base, is, x).
      let fit = x.consistent.fit in
      let none = nothing_runs k.core.live.members t k.core.running.items (λ i d lt. (fit.owned i d lt).at_work) alone idle in
      let steps : undo_steps k.core t ≡ effects_left (pages k.core.operations.store.pool) k.core.live.standing t = ap (λ (rs : List OpScope). abort_steps (pages k.core.operations.store.pool) rs t (effects_left (pages k.core.operations.store.pool) k.core.live.standing t)) none in
      let few = effects_few (pages k.core.operations.store.pool) t k.core.live.standing fit.right.kept.few in
      let taken : sum_by taken_bytes k.core.running.items ≡ 0 = ap (λ (rs : List OpScope). sum_by taken_bytes rs) none in
      let kept : sum_by kept_bytes k.core.running.items ≡ 0 = ap (λ (rs : List OpScope). sum_by kept_bytes rs) none in
      let quiet : length k.core.commits.items ≡ 0 = ap (λ (cs : List Commit). length cs) (no_commits g k.relations k.counters k.core (well_of k first s shows) nobody) in
      let reserves = fit.reserves in
      let log = fit.log in
      let small = area_small k.core.operations.store.log in
      omega (arith, steps, few, taken, kept, quiet, reserves, log, small))

  pub pages_few : (k : Kernel D g) (first : Base) (s : State) → Shows first s k → pages k.core.operations.store.pool ≤ 4000
  pages_few k first s shows = ∥∥₁_elim shows (hlevel props) (λ (origin, base, is, x). x.consistent.fit.right.kept.few)
