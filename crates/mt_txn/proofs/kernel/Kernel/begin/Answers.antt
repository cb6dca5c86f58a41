use Rattle.std.proofs.Common.{refl}
use mathlib.Core.Logic.{∥∥₁_map}
use Rattle.mt_live.specs.Machine.{begun}
use Rattle.mt_txn.proofs.Showing.{sound_of, on_ok, well_or}
use Rattle.mt_txn.proofs.Restarting.{no_call, or_goes, restarts_on}
use Rattle.std.proofs.Common.{◌≡◌, ◌∙◌, ℕ, List, Result, OnErr, ap, arith, length, subst, sym}
use Rattle.mt_base.specs.declared.refusal.Refusal.{Refusal}
use Rattle.mt_model.specs.declared.history.Committed.{Committed}
use Rattle.mt_txn.proofs.Beginning.{begun_at_once, same_parts}
use Rattle.mt_live.specs.declared.live.Live.{Live}
use Rattle.mt_txn.proofs.kernel.Kernel.begin.Goals as goal

pub begin-requires-clause-safe : goal.begin-requires-clause-safe
begin-requires-clause-safe g c = sound_of g.D.Device c.args.self.now.relations c.args.self.now.counters c.args.self.now.core c.args.self.now.well

pub invariant_of-self : goal.invariant_of-self
invariant_of-self g c = record {
  well = well_or g.D.Device c.args.self.now.relations c.args.self.now.counters c.args.self.now.core c.begin.new.self (λ s. begun s c.args.session) c.begin.result c.begin.ensures.begun c.begin.ensures.err c.args.self.now.well;
  starts = ∥∥₁_map c.args.self.now.starts (λ (first, r). let D = g.D.Device in let k = c.args.self.now in (first, restarts_on D k.relations k.counters first k.core c.begin.new.self (or_goes D k.core c.begin.new.self (λ s. begun s c.args.session) c.begin.result c.begin.ensures.begun c.begin.ensures.err) (c.begin.ensures.restartable (let less = c.if-lives-ge-MAX_LIVE.false in let count = c.count-lives.ensures in let same = ap (λ (l : Live). length l.members) c.live.ensures in omega (arith, less, count, same))) r));
  schema = c.args.self.now.schema;
}

pub returns-clause-begun : goal.returns-clause-begun
returns-clause-begun g c = λ first s shows. on_ok g.D.Device c.args.self.now.relations c.args.self.now.counters c.args.self.now.core c.begin.new.self (λ z. begun z c.args.session) first s c.begin.result c.begin.ensures.begun shows

pub returns-clause-restarts : goal.returns-clause-restarts
returns-clause-restarts g c = λ first r. let D = g.D.Device in let k = c.args.self.now in
    restarts_on D k.relations k.counters first k.core c.begin.new.self (or_goes D k.core c.begin.new.self (λ s. begun s c.args.session) c.begin.result c.begin.ensures.begun c.begin.ensures.err) (c.begin.ensures.restartable (let less = c.if-lives-ge-MAX_LIVE.false in let count = c.count-lives.ensures in let same = ap (λ (l : Live). length l.members) c.live.ensures in omega (arith, less, count, same))) r

pub returns-then-has_failed-clause-moments : goal.returns-then-has_failed-clause-moments
returns-then-has_failed-clause-moments g c = λ first r schema. let D = g.D.Device in let k = c.args.self.now in
    no_call D k.relations k.counters first g.met.D.Device.only_now k.core _ refl r schema

pub returns-then-lives-ge-MAX_LIVE-clause-moments : goal.returns-then-lives-ge-MAX_LIVE-clause-moments
returns-then-lives-ge-MAX_LIVE-clause-moments g c = λ first r schema. let D = g.D.Device in let k = c.args.self.now in
    no_call D k.relations k.counters first g.met.D.Device.only_now k.core _ refl r schema

pub returns-then-book-lives-ge-MAX_COMMITS-clause-moments : goal.returns-then-book-lives-ge-MAX_COMMITS-clause-moments
returns-then-book-lives-ge-MAX_COMMITS-clause-moments g c = λ first r schema. let D = g.D.Device in let k = c.args.self.now in
    no_call D k.relations k.counters first g.met.D.Device.only_now k.core _ refl r schema

pub returns-clause-moments : goal.returns-clause-moments
returns-clause-moments g c = λ first r schema. let D = g.D.Device in let k = c.args.self.now in
    no_call D k.relations k.counters first g.met.D.Device.only_now k.core _ c.begin.ensures.device r schema

pub returns-clause-early : goal.returns-clause-early
returns-clause-early g c = λ why is.
    let k = c.args.self.now in
    let few = c.if-lives-ge-MAX_LIVE.false in let count = c.count-lives.ensures in let lives = ap (λ (l : Live). length l.members) c.live.ensures in
    let room = c.if-book-lives-ge-MAX_COMMITS.false in let booked = ap (λ (book : List Committed). length book) c.book.ensures in
    let below = c.if-begun-ge-MAX_BEGUN.false in let begun = c.begun.ensures.begun in let last = ap (λ (l : Live). l.begun) c.live-else-book-lives-ge-MAX_COMMITS.ensures in
    let refused = begun_at_once _ k.core c.begin.result (sym c.has_failed.ensures ∙ c.if-has_failed.false) (omega (arith, few, count, lives)) (omega (arith, room, booked, count, lives)) (omega (arith, below, begun, last)) c.begin.ensures.full why is in
    (refused, same_parts k _ (subst (λ (r : Result ℕ Refusal). OnErr r (c.begin.new.self ≡ k.core)) refused c.begin.ensures.err) refl refl refl refl)
