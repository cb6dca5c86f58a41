use mathlib.Core.Logic.{∥∥₁_elim}
use Rattle.std.proofs.Props.{props}
use Rattle.std.proofs.Common.{◌≡◌, ◌∙◌, ◌≤◌, ℕ, Option, Some, None, true, is_some, filter, refl, ap, subst, sym, arith}
use Rattle.std.specs.Option.{option_map}
use Rattle.mt_live.specs.Entries.{runs}
use Rattle.mt_live.specs.Lives.{member_of, IsChanged, is_member}
use Rattle.mt_live.specs.Members.{Member, with_state, settled_at}
use Rattle.mt_live.specs.Undoing.{settle_after}
use Rattle.mt_live.specs.declared.transactions.TxnState.TheVariants.{Open, Returning}
use Rattle.mt_live.proofs.Settling.{settled_eased, eased_runs}
use Rattle.mt_pool.specs.Views.{pages}
use Rattle.mt_core.specs.Restartable.{did, its_effects, HasEnds}
use Rattle.mt_core.specs.Runs.{state_in}
use Rattle.mt_core.specs.Work.{abort_steps, effects_left}
use Rattle.mt_core.specs.declared.parts.Core.{Core}
use Rattle.mt_core.proofs.Did.{eases_put}
use Rattle.mt_core.proofs.Members.{changed_then}
use Rattle.mt_core.proofs.Restarts.{kept_num, quiet_store, stays_alike}
use Rattle.mt_core.proofs.Settled.{eased_did, eased_effects, eased_steps, settled_in, settled_member, settled_states, settled_count, settled_num}
use Rattle.mt_core.proofs.parts.Core.return_end.Goals as goal

lives : (o : Option Member) (first : ℕ) → option_map (λ (m : Member). m.state) o ≡ Some (Returning first) → is_some o ≡ true
lives None first is = absurd cc
lives (Some m) first is = refl

pub settle-requires : goal.settle-requires
settle-requires g c = lives (member_of c.args.self.now.live.members c.args.txn) c.args.first c.requires.returning

pub returns-clause-settled : goal.returns-clause-settled
returns-clause-settled g c = λ origin base safe. let k = c.args.self.now in
    settled_in g.D.Device origin base k (record k { live = c.set_state.new.self }) c.args.txn c.args.first safe c.requires.returning c.requires.idle c.requires.nothing.effect
    (c.set_state.ensures.standing ∙ (c.settle.ensures.standing ∙ ap (λ n. settle_after c.args.txn n k.live.standing) c.from.ensures))
    (changed_then (settled_at c.args.first) (λ m. with_state m Open) k.live.members c.settle.new.self.members c.set_state.new.self.members c.args.txn
    (subst (λ n. IsChanged k.live.members c.settle.new.self.members c.args.txn (settled_at n)) c.from.ensures c.settle.ensures.member) c.set_state.ensures.member)
    (c.set_state.ensures.begun ∙ c.settle.ensures.begun) (c.set_state.ensures.count ∙ c.settle.ensures.count)

pub returns-clause-opened : goal.returns-clause-opened
returns-clause-opened g c = let k = c.args.self.now in
    settled_states k.live.members c.set_state.new.self.members c.args.txn c.args.first c.requires.returning
    (changed_then (settled_at c.args.first) (λ m. with_state m Open) k.live.members c.settle.new.self.members c.set_state.new.self.members c.args.txn
    (subst (λ n. IsChanged k.live.members c.settle.new.self.members c.args.txn (settled_at n)) c.from.ensures c.settle.ensures.member) c.set_state.ensures.member)

pub returns-clause-count : goal.returns-clause-count
returns-clause-count g c = ∥∥₁_elim c.requires.safe (hlevel props) (λ (origin, base, safe). let k = c.args.self.now in
    settled_count k.live.members c.set_state.new.self.members c.args.txn c.args.first c.requires.returning
    (changed_then (settled_at c.args.first) (λ m. with_state m Open) k.live.members c.settle.new.self.members c.set_state.new.self.members c.args.txn
    (subst (λ n. IsChanged k.live.members c.settle.new.self.members c.args.txn (settled_at n)) c.from.ensures c.settle.ensures.member) c.set_state.ensures.member)
    (λ m at. (safe.outcome c.args.txn m at).firsts c.args.first (let same : Some m.state ≡ Some (Returning c.args.first) = sym (ap (option_map (λ (x : Member). x.state)) at) ∙ c.requires.returning in cc)))

pub returns-clause-left : goal.returns-clause-left
returns-clause-left g c = let k = c.args.self.now in let all = pages k.operations.store.pool in
    let eased = settled_eased c.args.txn c.args.first k.live.standing c.requires.nothing.effect in
    let standing = c.set_state.ensures.standing ∙ (c.settle.ensures.standing ∙ ap (λ n. settle_after c.args.txn n k.live.standing) c.from.ensures) in
    let same = ap (λ es. abort_steps all k.running.items c.args.txn (effects_left all es c.args.txn)) standing ∙ ap (abort_steps all k.running.items c.args.txn) (eased_steps all c.args.txn k.live.standing (settle_after c.args.txn c.args.first k.live.standing) eased) in
    omega (arith, same)

pub returns-clause-restartable : goal.returns-clause-restartable
returns-clause-restartable g c = λ origin base later safe_k safe_n r. let k = c.args.self.now in let t = c.args.txn in
    let n : Core g.row.D.Denot = record k { live = c.set_state.new.self } in
    let eased = settled_eased t c.args.first k.live.standing c.requires.nothing.effect in
    let es = settle_after t c.args.first k.live.standing in
    let standing = c.set_state.ensures.standing ∙ (c.settle.ensures.standing ∙ ap (λ n. settle_after t n k.live.standing) c.from.ensures) in
    let changed = changed_then (settled_at c.args.first) (λ m. with_state m Open) k.live.members c.settle.new.self.members c.set_state.new.self.members t
    (subst (λ n. IsChanged k.live.members c.settle.new.self.members t (settled_at n)) c.from.ensures c.settle.ensures.member) c.set_state.ensures.member in
    stays_alike g.D.Device origin k n base later safe_k safe_n (quiet_store g.D.Device origin k n refl) (record { book = refl; commits = refl })
    (ap (filter did) standing ∙ eased_did k.live.standing es eased) (λ u. ap (its_effects u) standing ∙ eased_effects u k.live.standing es eased) (λ b. ap (runs b) standing ∙ eased_runs b k.live.standing es eased)
    (kept_num k.live.members n.live.members t (option_map (settled_member c.args.first) (member_of k.live.members t)) changed (settled_num k.live.members n.live.members t c.args.first c.requires.returning changed c.requires.nothing.call))
    (eases_put (state_in k.live.members) (state_in n.live.members) t (Some Open) (settled_states k.live.members n.live.members t c.args.first c.requires.returning changed) (λ ends mine had. subst (λ s. HasEnds s ends mine) c.requires.returning had))
    (let one = c.set_state.ensures.count in let other = c.settle.ensures.count in let few = r.few in omega (arith, few, one, other)) r
