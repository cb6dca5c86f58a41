-- A store writes a change of an operation: what is kept of all operations.
use Rattle.std.proofs.Props.{props}
use mathlib.Core.Logic.{∥∥₁_elim}
use Rattle.std.proofs.Common.{◌≡◌, ◌≢◌, ◌<◌, ◌+◌, ℕ, List, ◌++◌, length, get_or, refl, ap, ◌∙◌}
use Rattle.mt_disk.specs.declared.device.Device.{Ghosts}
use Rattle.mt_base.specs.Edits.{patched}
use Rattle.mt_log.specs.Words.{appended}
use Rattle.mt_space.specs.Changes.{PageBytes, IsShort}
use Rattle.mt_pool.specs.Kept.{IsKept}
use Rattle.mt_pool.specs.Views.{view, pages}
use Rattle.mt_frame.specs.PageRecords.{change_records}
use Rattle.mt_pool.specs.Writes.{due_image}
use Rattle.mt_space.specs.declared.changes.PageChange.{PageChange}
use Rattle.mt_pool.specs.declared.store.Store.{Store}
use Rattle.mt_op.specs.World.{World, IsWorld, IsUnderWay, changes_in}
use Rattle.mt_op.specs.Moves.{Rests, Writes, SamePlan}
use Rattle.mt_op.specs.Operations.{world, IsRight, IsOneOf, Goes}
use Rattle.mt_op.specs.declared.operations.Operations.{Operations}
use Rattle.mt_op.specs.declared.scope.OpScope.{OpScope}
use Rattle.mt_op.specs.declared.scope.Stage.TheVariants.{Writing}
use Rattle.mt_op.proofs.Going.{same_op}
use Rattle.mt_op.proofs.Right.{right_held, with_store}
use Rattle.mt_op.proofs.Staying.{rests_own, rests_held}
use Rattle.mt_op.proofs.Writing.{next_is_short, world_writes, others_write, own_writes, writes_held}

-- nothing but what is in frames has changed, and the operation is as it was
pub rests_goes_as : (relations counters : ℕ) (w z : World) (s : OpScope) → Rests w z → IsUnderWay relations counters w s → Goes relations counters w z s s
rests_goes_as relations counters w z s m k = record {
  own = rests_own relations counters w z s m k;
  others = λ u ku other. rests_own relations counters w z u m ku;
  held = rests_held w z m;
  same = same_op s;
}

-- the page is written
pub writes_goes : (relations counters : ℕ) (w z : World) (s t : OpScope) (c : PageChange) → Writes w z s c → IsWorld relations counters w → IsUnderWay relations counters w s → s.stage ≡ Writing → s.written < length (changes_in s)
    → c ≡ get_or (changes_in s) s.written c → SamePlan s t → t.stage ≡ Writing → t.written ≡ s.written + 1 → t.standing ≡ s.standing + 1 → Goes relations counters w z s t
writes_goes relations counters w z s t c m h k stage more is same is_writing written standing = record {
  own = own_writes relations counters w z s c m h k stage more is t same is_writing written standing;
  others = others_write relations counters w z s c m h k stage more is;
  held = writes_held relations counters w z s c m h k stage more is;
  same = same.op;
}

module _ {D : Type 0} (g : Ghosts D) where
  -- the next change is short in the page as it shows
  pub next_short : (o : Operations D) (s : OpScope) (c : PageChange)
      → IsOneOf g o s
      → s.stage ≡ Writing → s.written < length (changes_in s) → c ≡ get_or (changes_in s) s.written c → IsShort (view o.store.pool (g.seen o.store.device) c.page) c
  next_short o s c one stage more is = ∥∥₁_elim one (hlevel props) (λ (opening, relations, counters, right, k).
      (next_is_short relations counters (world g opening o) s c right.sound k stage more is).0)

  -- it is written in a frame, and logged
  pub store_writes : (opening : PageBytes) (o : Operations D) (n : Store D) (s : OpScope) (c : PageChange) → n.device ≡ o.store.device → n.pool.of_page ≡ o.store.pool.of_page
      → ((bytes : List ℕ) → view n.pool bytes c.page ≡ patched c.edits.items (view o.store.pool bytes c.page)) → ((bytes : List ℕ) (q : ℕ) → q ≢ c.page → view n.pool bytes q ≡ view o.store.pool bytes q)
      → (let page = view o.store.pool (g.seen o.store.device) c.page in
      appended n.log ≡ appended o.store.log ++ change_records s.txn s.number c.page (due_image o.store.pool c.page page) page (patched c.edits.items page) c.edits.items)
      → Writes (world g opening o) (world g opening (with_store o n)) s c
  store_writes opening o n s c device there page others records = record {
    area = record { opening = refl; total = ap (λ v. length v.items) there };
    others = λ p inside other. ap (λ (d : D). view n.pool (g.seen d) p) device ∙ others (g.seen o.store.device) p other;
    page = ap (λ (d : D). view n.pool (g.seen d) c.page) device ∙ page (g.seen o.store.device);
    image = due_image o.store.pool c.page (view o.store.pool (g.seen o.store.device) c.page);
    records = records;
    locks = refl;
  }

  -- nothing is appended or written
  pub store_stays : (opening : PageBytes) (o : Operations D) (n : Store D) → n.device ≡ o.store.device → n.pool ≡ o.store.pool → appended n.log ≡ appended o.store.log → Rests (world g opening o) (world g opening (with_store o n))
  store_stays opening o n device pool records = record {
    area = record { opening = refl; total = ap pages pool };
    pages = λ p inside. λ i. view (pool i) (g.seen (device i)) p;
    records = records;
    locks = refl;
  }

  pub writes_right : (opening : PageBytes) (relations counters : ℕ) (o : Operations D) (n : Store D) (s : OpScope) (c : PageChange) → Writes (world g opening o) (world g opening (with_store o n)) s c
      → IsRight g opening relations counters o → IsUnderWay relations counters (world g opening o) s → s.stage ≡ Writing → s.written < length (changes_in s) → c ≡ get_or (changes_in s) s.written c
      → IsKept g opening n → IsRight g opening relations counters (with_store o n)
  writes_right opening relations counters o n s c m right k stage more is kept =
      let w = world g opening o in
      let z = world g opening (with_store o n) in
      right_held g opening relations counters o (with_store o n) right kept (world_writes relations counters w z s c m right.sound k stage more is) (writes_held relations counters w z s c m right.sound k stage more is) refl refl m.area.total
