-- What each device call of a force does to the area.
use Rattle.std.proofs.Common.{◌≡◌, ◌≢◌, inl, inr, ⊎_elim, ℕ, ◌+◌, ◌<◌, ◌≤◌, List, [], ◌∷◌, ◌++◌, length, get_or, sym, ◌∙◌, ap, subst, arith, length-append}
use Rattle.std.proofs.lemmas.Bool.{cases_eq}
use Rattle.std.specs.Int.{w32, to_be_bytes}
use Rattle.mt_disk.specs.Disk.{Has, Torn, Wrote, Follows, Only}
use Rattle.mt_disk.proofs.Frame.{has_torn, has_append, has_front, has_back, has_one, one_of}
use Rattle.mt_frame.specs.declared.records.Record.{Record}
use Rattle.mt_frame.specs.Grammar.{body_text, batch_text}
use Rattle.mt_log.specs.Batch.{framed, Stands}
use Rattle.mt_log.specs.Area.{Area, Body, ScansWithOrWithout}
use Rattle.mt_log.specs.declared.stage.Step.TheVariants.{WriteBody, SyncBody, WriteGate, SyncGate}
use Rattle.mt_log.specs.declared.stage.Stage.{Stage}
use Rattle.mt_log.specs.declared.stage.Stage.TheVariants.{Idle, Forcing, Failed}

pub length-framed : (batch : List Record) → length (framed batch) ≡ 4 + length (body_text batch)
length-framed batch = omega (arith, length-append (to_be_bytes w32 (length (body_text batch))) (body_text batch))

pub length-closed : (batch : List Record) → length (framed batch ++ 0 ∷ []) ≡ 5 + length (body_text batch)
length-closed batch = omega (arith, length-framed batch, length-append (framed batch) (0 ∷ []))

pub stands_le : (c : List ℕ) (p : ℕ) (bs : List (List Record)) (q : ℕ) → Stands c p bs q → p ≤ q
stands_le c p [] q s = omega arith
stands_le c p (b ∷ bs) q s = omega (arith, stands_le c (p + 5 + length (body_text b)) bs q s.1)

-- a write behind a row leaves the row
pub stands_torn : (at n : ℕ) (old new : List ℕ) (p : ℕ) (bs : List (List Record)) (q : ℕ) → Torn at n old new → q ≤ at → Stands old p bs q → Stands new p bs q
stands_torn at n old new p [] q t le s = s
stands_torn at n old new p (b ∷ bs) q t le s = (
  has_torn at n p (batch_text b) old new s.0 t (inl (omega (arith, length-framed b, stands_le old (p + 5 + length (body_text b)) bs q s.1))),
  stands_torn at n old new (p + 5 + length (body_text b)) bs q t le s.1,
)

pub stands_push : (c : List ℕ) (p : ℕ) (bs : List (List Record)) (q : ℕ) (b : List Record) → Stands c p bs q → Has c q (batch_text b) → Stands c p (bs ++ b ∷ []) (q + 5 + length (body_text b))
stands_push c p [] q b s h = (subst (λ (k : ℕ). Has c k (batch_text b)) (sym s) h, omega arith)
stands_push c p (a ∷ bs) q b s h = (s.0, stands_push c (p + 5 + length (body_text a)) bs q b s.1 h)

-- the gate is open, and the body stands behind it
pub whole : (c : List ℕ) (next : ℕ) (batch : List Record) → Body c next batch → get_or c next 0 ≡ 165 → Has c next (batch_text batch)
whole c next batch b gate = has_append c next (165 ∷ []) (framed batch) (has_one c next 165 (let w = b.within in omega arith) gate) (has_front c (next + 1) (framed batch) (0 ∷ []) b)

-- the gate behind it is closed
pub shut_behind : (c : List ℕ) (next : ℕ) (batch : List Record) → Body c next batch → get_or c (next + 5 + length (body_text batch)) 0 ≢ 165
shut_behind c next batch b is =
    let zero_there : get_or c (next + 1 + length (framed batch)) 0 ≡ 0 = one_of c (next + 1 + length (framed batch)) 0 (has_back c (next + 1) (framed batch) (0 ∷ []) b) in
    let same : next + 1 + length (framed batch) ≡ next + 5 + length (body_text batch) = omega (arith, length-framed batch) in
    let there : get_or c (next + 5 + length (body_text batch)) 0 ≡ 0 = ap (λ (k : ℕ). get_or c k 0) (sym same) ∙ zero_there in
    absurd (omega arith)

-- the batch counts where its gate is open, and then its body is whole
either_way : (c : List ℕ) (start end next : ℕ) (bs : List (List Record)) (batch : List Record) → next + 5 + length (body_text batch) < end → Stands c start bs next → (get_or c next 0 ≡ 165 → Body c next batch) → ScansWithOrWithout start end bs batch c
either_way c start end next bs batch room s b = ⊎_elim
    (λ (open_gate : get_or c next 0 ≡ 165). inr (next + 5 + length (body_text batch), stands_push c start bs next batch s (whole c next batch (b open_gate) open_gate), room, shut_behind c next batch (b open_gate)))
    (λ (shut : get_or c next 0 ≢ 165). inl (next, s, omega arith, shut))
    (cases_eq (get_or c next 0) 165)

-- at each stage a crash leaves the durable batches, with the one that is being forced or without
pub leaves : (seen : List ℕ) (may_leave : List ℕ → Type 0) (start end next : ℕ) (bs : List (List Record)) (batch : List Record) (stage : Stage) → Area seen may_leave start end next bs batch stage → (c : List ℕ) → may_leave c → ScansWithOrWithout start end bs batch c
leaves seen m start end next bs batch Idle a c left = inl (next, a.front c left, a.room, a.outcome c left)
leaves seen m start end next bs batch (Forcing WriteBody) a c left = inl (next, a.front c left, (let r : next + 5 + length (body_text batch) < end = a.room in omega arith), a.outcome c left)
leaves seen m start end next bs batch (Forcing SyncBody) a c left = inl (next, a.front c left, (let r : next + 5 + length (body_text batch) < end = a.room in omega arith), a.outcome c left)
leaves seen m start end next bs batch (Forcing WriteGate) a c left = inl (next, a.front c left, (let r : next + 5 + length (body_text batch) < end = a.room in omega arith), (a.outcome c left).0)
leaves seen m start end next bs batch (Forcing SyncGate) a c left = either_way c start end next bs batch a.room (a.front c left) (λ _. a.outcome c left)
leaves seen m start end next bs batch Failed a c left = either_way c start end next bs batch a.room (a.front c left) (a.outcome c left)

-- while no batch is being forced, a crash leaves the durable ones, whatever batch may come
pub leaves_idle : (seen : List ℕ) (may_leave : List ℕ → Type 0) (start end next : ℕ) (bs : List (List Record)) (batch coming : List Record) → Area seen may_leave start end next bs batch Idle → (c : List ℕ) → may_leave c → ScansWithOrWithout start end bs coming c
leaves_idle seen m start end next bs batch coming a c left = inl (next, a.front c left, a.room, a.outcome c left)

module _ (seen seen2 : List ℕ) (may may2 : List ℕ → Type 0) (start end next : ℕ) (bs : List (List Record)) (batch : List Record) where
  -- the force of a batch begins
  pub sealed : (none : List Record) → Area seen may start end next bs none Idle → next + 5 + length (body_text batch) < end → Area seen may start end next bs batch (Forcing WriteBody)
  sealed none a fits = record {
    within = a.within;
    order = a.order;
    room = fits;
    front = a.front;
    outcome = a.outcome;
    present = tt;
  }

  -- what a write of the body may leave
  after_body : Area seen may start end next bs batch (Forcing WriteBody) → Follows (Torn (next + 1) (length (framed batch ++ 0 ∷ []))) may may2 → (c : List ℕ) → may2 c → Stands c start bs next × (get_or c next 0 ≢ 165)
  after_body a f c left =
      let from = f c left in (
        stands_torn (next + 1) (length (framed batch ++ 0 ∷ [])) from.0 c start bs next from.2 (omega arith) (a.front from.0 from.1),
        (λ is. a.outcome from.0 from.1 (sym (from.2.below next (omega arith)) ∙ is)),
      )

  pub body_written : Area seen may start end next bs batch (Forcing WriteBody) → Wrote (next + 1) (framed batch ++ 0 ∷ []) seen seen2
      → Follows (Torn (next + 1) (length (framed batch ++ 0 ∷ []))) may may2 → Area seen2 may2 start end next bs batch (Forcing SyncBody)
  body_written a w f = record {
    within = let s = w.rest.size in let h = a.within in omega arith;
    order = a.order;
    room = a.room;
    front = λ c left. (after_body a f c left).0;
    outcome = λ c left. (after_body a f c left).1;
    present = w.has;
  }

  pub body_failed : Area seen may start end next bs batch (Forcing WriteBody) → length seen2 ≡ length seen
      → Follows (Torn (next + 1) (length (framed batch ++ 0 ∷ []))) may may2 → Area seen2 may2 start end next bs batch Failed
  body_failed a size f = record {
    within = let h = a.within in omega arith;
    order = a.order;
    room = a.room;
    front = λ c left. (after_body a f c left).0;
    outcome = λ c left is. absurd ((after_body a f c left).1 is);
    present = tt;
  }

  pub body_synced : Area seen may start end next bs batch (Forcing SyncBody) → seen2 ≡ seen → Only seen may2 → ((c : List ℕ) → may2 c → may c) → Area seen2 may2 start end next bs batch (Forcing WriteGate)
  body_synced a same only less = record {
    within = let h = a.within in let e = ap length same in omega arith;
    order = a.order;
    room = a.room;
    front = λ c left. a.front c (less c left);
    outcome = λ c left. (a.outcome c (less c left), subst (λ (l : List ℕ). Body l next batch) (sym (only c left)) a.present);
    present = tt;
  }

  -- a failed sync
  pub first_sync_failed : Area seen may start end next bs batch (Forcing SyncBody) → seen2 ≡ seen → ((c : List ℕ) → may2 c → may c) → Area seen2 may2 start end next bs batch Failed
  first_sync_failed a same less = record {
    within = let h = a.within in let e = ap length same in omega arith;
    order = a.order;
    room = a.room;
    front = λ c left. a.front c (less c left);
    outcome = λ c left is. absurd (a.outcome c (less c left) is);
    present = tt;
  }

  pub last_sync_failed : Area seen may start end next bs batch (Forcing SyncGate) → seen2 ≡ seen → ((c : List ℕ) → may2 c → may c) → Area seen2 may2 start end next bs batch Failed
  last_sync_failed a same less = record {
    within = let h = a.within in let e = ap length same in omega arith;
    order = a.order;
    room = a.room;
    front = λ c left. a.front c (less c left);
    outcome = λ c left is. a.outcome c (less c left);
    present = tt;
  }

  -- what a write of the gate may leave
  after_gate : Area seen may start end next bs batch (Forcing WriteGate) → Follows (Torn next 1) may may2 → (c : List ℕ) → may2 c → Stands c start bs next × Body c next batch
  after_gate a f c left =
      let from = f c left in (
        stands_torn next 1 from.0 c start bs next from.2 (omega arith) (a.front from.0 from.1),
        has_torn next 1 (next + 1) (framed batch ++ 0 ∷ []) from.0 c (a.outcome from.0 from.1).1 from.2 (inr (omega arith)),
      )

  pub gate_written : Area seen may start end next bs batch (Forcing WriteGate) → Wrote next (165 ∷ []) seen seen2 → Follows (Torn next 1) may may2 → Area seen2 may2 start end next bs batch (Forcing SyncGate)
  gate_written a w f = record {
    within = let s = w.rest.size in let h = a.within in omega arith;
    order = a.order;
    room = a.room;
    front = λ c left. (after_gate a f c left).0;
    outcome = λ c left. (after_gate a f c left).1;
    present = one_of seen2 next 165 w.has;
  }

  pub gate_failed : Area seen may start end next bs batch (Forcing WriteGate) → length seen2 ≡ length seen → Follows (Torn next 1) may may2 → Area seen2 may2 start end next bs batch Failed
  gate_failed a size f = record {
    within = let h = a.within in omega arith;
    order = a.order;
    room = a.room;
    front = λ c left. (after_gate a f c left).0;
    outcome = λ c left is. (after_gate a f c left).1;
    present = tt;
  }

  -- the batch is durable
  pub gate_synced : Area seen may start end next bs batch (Forcing SyncGate) → may seen → seen2 ≡ seen → Only seen may2 → Area seen2 may2 start end (next + 5 + length (body_text batch)) (bs ++ batch ∷ []) [] Idle
  gate_synced a here same only = record {
    within = let h = a.within in let e = ap length same in omega arith;
    order = let o = a.order in omega arith;
    room = a.room;
    front = λ c left. subst (λ (l : List ℕ). Stands l start (bs ++ batch ∷ []) (next + 5 + length (body_text batch))) (sym (only c left)) (stands_push seen start bs next batch (a.front seen here) (whole seen next batch (a.outcome seen here) a.present));
    outcome = λ c left. subst (λ (l : List ℕ). get_or l (next + 5 + length (body_text batch)) 0 ≢ 165) (sym (only c left)) (shut_behind seen next batch (a.outcome seen here));
    present = tt;
  }
