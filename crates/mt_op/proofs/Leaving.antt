-- An operation begins, or its locks go: what the world, the operation and the others keep.
use Rattle.std.proofs.Common.{◌≡◌, ◌≢◌, inl, inr, ℕ, true, cond, not, ◌==◌, List, [], ◌∷◌, All, None, Some, refl, sym, ap, ◌∙◌, subst}
use Rattle.std.specs.Prelude.{is_some}
use Rattle.std.proofs.lemmas.Bool.{cases_Bool, eqb-true, ne_eqb}
use Rattle.std.proofs.lemmas.List.Elements.{All-nil, All-cons, All-head, All-tail}
use Rattle.std.proofs.lemmas.List.Kept.{AllPairs-filter}
use Rattle.mt_base.specs.declared.modes.Mode.TheVariants.{Write}
use Rattle.mt_frame.specs.Grammar.{IsTxn, IsOp}
use Rattle.mt_index.specs.declared.answers.Search.TheVariants.{Start}
use Rattle.mt_model.specs.Model.{IsWithin}
use Rattle.mt_plock.specs.declared.guards.PageLock.{PageLock}
use Rattle.mt_plock.specs.Holding.{lock_of, DoAgree, AreTogether}
use Rattle.mt_plock.specs.Releasing.{locks_of, locks_without}
use Rattle.mt_steps.specs.Asks.{HasSearched}
use Rattle.mt_overlay.specs.Overlays.{copied}
use Rattle.mt_steps.specs.Repeated.{Change, held, by}
use Rattle.mt_overlay.specs.declared.overlay.PageCopy.{PageCopy}
use Rattle.mt_op.specs.World.{World, held_in, unfinished_in, IsCovered, IsWorld, looked, HasNothing, IsOpen, IsPlanning, IsAt, IsUnderWay}
use Rattle.mt_op.specs.Moves.{Leaves, SameOp}
use Rattle.mt_op.specs.declared.scope.OpScope.{OpScope}
use Rattle.mt_op.specs.declared.scope.Stage.TheVariants.{Planning}
use Rattle.mt_op.proofs.Alone.{stays_in}
use Rattle.mt_op.proofs.Searching.{searched_start}
use Rattle.mt_op.proofs.Staying.{repeated_same, world_locked, way_quiet, open_records, open_same}

-- ---- lists of locks

fewer_own : (o : ℕ) (locks : List PageLock) → locks_of o (locks_without o locks) ≡ []
fewer_own o [] = refl
fewer_own o (l ∷ locks) = elim (cases_Bool (l.op == o)) [ inl a ↦ rw a (fewer_own o locks) | inr a ↦ rw (a, a) (fewer_own o locks) ]

fewer_other : (o u : ℕ) (locks : List PageLock) → u ≢ o → locks_of u (locks_without o locks) ≡ locks_of u locks
fewer_other o u [] ne = refl
fewer_other o u (l ∷ locks) ne = elim (cases_Bool (l.op == o)) [
  | inl a ↦ rw (a, ne_eqb l.op u (λ e. ne (sym e ∙ eqb-true l.op o a))) (fewer_other o u locks ne)
  | inr a ↦ rw a (ap (λ (ls : List PageLock). cond (l.op == u) (l ∷ ls) ls) (fewer_other o u locks ne))
]

-- changes stay covered where the locks of an operation go that has none
covers_left : (locks : List PageLock) (o : ℕ) (cs : List Change) → by o cs ≡ [] → All (IsCovered locks) cs → All (IsCovered (locks_without o locks)) cs
covers_left locks o [] none all = All-nil (IsCovered (locks_without o locks))
covers_left locks o (c ∷ cs) none all = elim (cases_Bool (c.op == o)) [
  | inl a ↦ absurd (let e = rw a at none in cc)
  | inr a ↦
      All-cons (IsCovered (locks_without o locks)) c cs
      (stays_in (λ (l : PageLock). not (l.op == o)) locks (lock_of c.op c.page Write) (ap not a) (All-head (IsCovered locks) c cs all))
      (covers_left locks o cs (rw a at none) (All-tail (IsCovered locks) c cs all))
]

-- ---- the locks of an operation go that has nothing unfinished

pub leaves_held : (w z : World) (s : OpScope) → Leaves w z s → held_in z ≡ held_in w
leaves_held w z s m = ap held (repeated_same w z m.area.opening m.records)

-- an operation that plans, and has looked at nothing and changed nothing
pub record IsAnew (relations counters : ℕ) (w : World) (s : OpScope) : Type 0 where
  pub txn : IsTxn s.txn
  pub op : IsOp s.number
  pub within : IsWithin relations counters s.op
  pub total : s.seen.total ≡ w.total
  pub locks : locks_of s.number w.locks ≡ []
  pub unended : IsOpen w s
  pub nothing : HasNothing w s
  pub stage : s.stage ≡ Planning
  pub guards : s.guards.items ≡ []
  pub seen : s.seen.list.items ≡ []
  pub search : s.search ≡ Start
  pub room : s.room ≡ None
  pub written : s.written ≡ 0
  pub standing : s.standing ≡ 0

module _ (relations counters : ℕ) where
  pub world_leaves : (w z : World) (s : OpScope) → Leaves w z s → IsWorld relations counters w → HasNothing w s → IsWorld relations counters z
  world_leaves w z s m k nothing =
      world_locked relations counters w z m.area.total (repeated_same w z m.area.opening m.records) m.pages
      (subst (λ (ls : List PageLock). All (IsCovered ls) (unfinished_in w)) (sym m.locks) (covers_left w.locks s.number (unfinished_in w) nothing k.covered))
      (subst AreTogether (sym m.locks) (AllPairs-filter DoAgree (λ (l : PageLock). not (l.op == s.number)) w.locks k.together)) k

  pub others_leave : (w z : World) (s u : OpScope) → Leaves w z s → IsUnderWay relations counters w u → u.number ≢ s.number → IsUnderWay relations counters z u
  others_leave w z s u m k ne =
      way_quiet relations counters w z u m.area.total (repeated_same w z m.area.opening m.records) m.pages
      (ap (locks_of u.number) m.locks ∙ fewer_other s.number u.number w.locks ne) (open_records w z u m.records) k

  -- it begins
  pub begins : (w : World) (s : OpScope) → IsAnew relations counters w s → IsUnderWay relations counters w s
  begins w s k = record {
    txn = k.txn;
    op = k.op;
    within = k.within;
    locks = k.locks ∙ sym k.guards;
    whole = λ p bytes is. absurd (let e : None ≡ Some bytes = sym (unseen p) ∙ is in cc);
    total = k.total;
    inside = λ p some. absurd (let e : is_some (looked s p) ≡ true = some in let none = unseen p in cc);
    guarded = λ p some. absurd (let e : is_some (looked s p) ≡ true = some in let none = unseen p in cc);
    at = subst (IsAt relations counters w s) (sym k.stage) (record {
      sees = record {
        saw = λ p bytes is. absurd (let e : None ≡ Some bytes = sym (unseen p) ∙ is in cc);
        named = λ p is. absurd (let e : None ≡ Some p = sym k.room ∙ is in cc);
      };
      unended = k.unended;
      nothing = k.nothing;
      searched = subst (HasSearched (looked s) s.seen.total s.op) (sym k.search) (searched_start (looked s) s.seen.total s.op);
      none_written = k.written;
      none_standing = k.standing;
    });
  }
    where
      unseen : (p : ℕ) → looked s p ≡ None
      unseen p = ap (λ (cs : List PageCopy). copied cs p) k.seen

  -- or begins anew
  pub begins_anew : (w z : World) (s t : OpScope) → Leaves w z s → IsUnderWay relations counters w s → s.stage ≡ Planning → SameOp s t → t.stage ≡ Planning → t.guards.items ≡ [] → t.seen.list.items ≡ [] → t.search ≡ Start → t.room ≡ None
      → t.written ≡ 0 → t.standing ≡ 0 → IsUnderWay relations counters z t
  begins_anew w z s t m k planning op stage guards seen search room written standing =
      let was : IsPlanning w s = subst (IsAt relations counters w s) planning k.at in
      begins z t (record {
        txn = subst IsTxn (sym op.txn) k.txn;
        op = subst IsOp (sym op.number) k.op;
        within = rw op.op k.within;
        total = op.total ∙ k.total ∙ sym m.area.total;
        locks = (λ i. locks_of (op.number i) (m.locks i)) ∙ fewer_own s.number w.locks;
        unended = open_same z s t op (open_records w z s m.records was.unended);
        nothing = (λ i. by (op.number i) (repeated_same w z m.area.opening m.records i).unfinished) ∙ was.nothing;
        stage = stage;
        guards = guards;
        seen = seen;
        search = search;
        room = room;
        written = written;
        standing = standing;
      })
