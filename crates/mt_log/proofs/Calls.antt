-- What a device call of a force leaves, whatever it answered.
use Rattle.std.proofs.Common.{◌≡◌, ℕ, ◌+◌, ◌-◌, List, [], ◌∷◌, ◌++◌, length, refl, ◌∙◌, ap, subst, sym, arith, map, length-append, Bool, true, false, Result, Ok, Err, OnOk, OnErr}
use Rattle.mt_base.specs.declared.history.History.{History}
use Rattle.mt_disk.specs.Disk.{Torn, Wrote, Follows, Only}
use Rattle.mt_disk.proofs.Frame.{follows_within, torn_within}
use Rattle.mt_frame.specs.declared.records.Record.{Record}
use Rattle.mt_frame.specs.Grammar.{body_text}
use Rattle.mt_log.specs.Batch.{framed, joined}
use Rattle.mt_log.specs.Area.{Area}
use Rattle.mt_log.specs.declared.stage.Step.TheVariants.{WriteBody, SyncBody, WriteGate, SyncGate}
use Rattle.mt_log.specs.declared.stage.Stage.TheVariants.{Idle, Forcing, Failed}
use Rattle.mt_log.proofs.Steps.{length-closed, body_written, body_failed, gate_written, gate_failed, gate_synced}

-- what holds in any case
pub if_ok : {T E A : Type 0} (r : Result T E) → A → OnOk r A
if_ok (Ok x) a = a
if_ok (Err e) a = tt

-- a test has one outcome
pub one_outcome : (b : Bool) → b ≡ true → b ≡ false → ⊥
one_outcome b on off = let apart : true ≡ false = sym on ∙ off in absurd cc

pub on_ok : {A B T E : Type 0} (r : Result T E) → (A → B) → OnOk r A → OnOk r B
on_ok (Ok x) f h = f h
on_ok (Err e) f h = tt

pub on_err : {A T E : Type 0} (r : Result T E) → A → OnErr r A
on_err (Ok x) a = tt
on_err (Err e) a = a

module _ {T E : Type 0} (r : Result T E) (seen seen2 : List ℕ) (may may2 : List ℕ → Type 0) (start end next : ℕ) (bs : List (List Record)) (batch : List Record) where
  pub body_done : (text : List ℕ) → Area seen may start end next bs batch (Forcing WriteBody) → text ≡ framed batch ++ 0 ∷ [] → OnOk r (Wrote (next + 1) text seen seen2) → Follows (Torn (next + 1) (length text)) may may2
      → OnOk r (Area seen2 may2 start end next bs batch (Forcing SyncBody))
  body_done text a is wrote follows = on_ok r (λ (w : Wrote (next + 1) text seen seen2). body_written seen seen2 may may2 start end next bs batch a (subst (λ (t : List ℕ). Wrote (next + 1) t seen seen2) is w) (subst (λ (t : List ℕ). Follows (Torn (next + 1) (length t)) may may2) is follows)) wrote

  pub body_not_done : (text : List ℕ) → Area seen may start end next bs batch (Forcing WriteBody) → text ≡ framed batch ++ 0 ∷ [] → Torn (next + 1) (length text) seen seen2 → Follows (Torn (next + 1) (length text)) may may2
      → OnErr r (Area seen2 may2 start end next bs batch Failed)
  body_not_done text a is torn follows = on_err r (body_failed seen seen2 may may2 start end next bs batch a torn.size (subst (λ (t : List ℕ). Follows (Torn (next + 1) (length t)) may may2) is follows))

  pub gate_done : Area seen may start end next bs batch (Forcing WriteGate) → OnOk r (Wrote next (165 ∷ []) seen seen2) → Follows (Torn next 1) may may2 → OnOk r (Area seen2 may2 start end next bs batch (Forcing SyncGate))
  gate_done a wrote follows = on_ok r (λ (w : Wrote next (165 ∷ []) seen seen2). gate_written seen seen2 may may2 start end next bs batch a w follows) wrote

  pub gate_not_done : Area seen may start end next bs batch (Forcing WriteGate) → Torn next 1 seen seen2 → Follows (Torn next 1) may may2 → OnErr r (Area seen2 may2 start end next bs batch Failed)
  gate_not_done a torn follows = on_err r (gate_failed seen seen2 may may2 start end next bs batch a torn.size follows)

  pub all_done : Area seen may start end next bs batch (Forcing SyncGate) → may seen → seen2 ≡ seen → OnOk r (Only seen may2) → OnOk r (Area seen2 may2 start end (next + 5 + length (body_text batch)) (bs ++ batch ∷ []) [] Idle)
  all_done a here same only = on_ok r (λ (o : Only seen may2). gate_synced seen seen2 may may2 start end next bs batch a here same o) only

-- the body's write stays within the area
pub body_elsewhere : (seen : List ℕ) (may may2 : List ℕ → Type 0) (start end next : ℕ) (bs : List (List Record)) (batch : List Record) (text : List ℕ) → Area seen may start end next bs batch (Forcing WriteBody) → text ≡ framed batch ++ 0 ∷ []
    → Follows (Torn (next + 1) (length text)) may may2 → Follows (Torn start (end - start)) may may2
body_elsewhere seen may may2 start end next bs batch text a is follows =
    let long : length text ≡ 5 + length (body_text batch) = ap length is ∙ length-closed batch in
    let room = a.room in let order = a.order in
    follows_within (next + 1) (length text) start end may may2 (omega arith) (omega arith) follows

pub body_rest : (seen seen2 : List ℕ) (may : List ℕ → Type 0) (start end next : ℕ) (bs : List (List Record)) (batch : List Record) (text : List ℕ) → Area seen may start end next bs batch (Forcing WriteBody) → text ≡ framed batch ++ 0 ∷ []
    → Torn (next + 1) (length text) seen seen2 → Torn start (end - start) seen seen2
body_rest seen seen2 may start end next bs batch text a is torn =
    let long : length text ≡ 5 + length (body_text batch) = ap length is ∙ length-closed batch in
    let room = a.room in let order = a.order in
    torn_within (next + 1) (length text) start (end - start) seen seen2 torn (omega arith) (omega arith)

-- a batch more
pub batches_push : (hs : List (History Record)) (h : History Record) → map (λ (b : History Record). b.items) (hs ++ h ∷ []) ≡ map (λ (b : History Record). b.items) hs ++ h.items ∷ []
batches_push [] h = refl
batches_push (x ∷ hs) h = ap (λ (l : List (List Record)). x.items ∷ l) (batches_push hs h)

pub length-joined_push : (bs : List (List Record)) (b : List Record) → length (joined (bs ++ b ∷ [])) ≡ length (joined bs) + length b
length-joined_push [] b = omega (arith, length-append b [])
length-joined_push (x ∷ bs) b = omega (arith, length-append x (joined (bs ++ b ∷ [])), length-append x (joined bs), length-joined_push bs b)
