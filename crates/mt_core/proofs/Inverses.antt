-- In a log that breaks no rule, no inverse names an operation that has not ended.
use Rattle.std.proofs.Common.{◌≡◌, ⊎_elim, ℕ, ◌==◌, ◌&&◌, ◌||◌, not, Bool, true, false, List, [], ◌∷◌, ◌++◌, append-nil, append_assoc, refl, sym, ap, ◌∙◌, subst}
use Rattle.std.proofs.lemmas.Bool.{eqb-true, and_parts, or_from}
use Rattle.mt_disk.specs.declared.device.Device.{Ghosts}
use Rattle.mt_area_rules.specs.History.{some_record, finishes, undoes_op, ends_op, inverse_is_due, is_in_its_batch, txn_is_open, op_is_open, image_is_first, may_stand, MayFollow, BatchesMayFollow, IsHistory}
use Rattle.mt_frame.specs.declared.records.Record.{Record}
use Rattle.mt_frame.specs.declared.records.Record.TheVariants.{OpEnd}
use Rattle.mt_log.proofs.Prefix.{durable-joined}
use Rattle.mt_log.proofs.Settled.{joined_push}
use Rattle.mt_log.specs.Batch.{joined}
use Rattle.mt_log.specs.Words.{durable_batches, in_flight, waiting, appended}
use Rattle.mt_op.specs.Operations.{world, IsRight}
use Rattle.mt_op.specs.World.{World, IsUnderWay, IsOpen, IsAt}
use Rattle.mt_op.specs.declared.operations.Operations.{Operations}
use Rattle.mt_op.specs.declared.scope.OpScope.{OpScope}
use Rattle.mt_op.specs.declared.scope.Stage.TheVariants.{Planning, Writing, Taking}
use Rattle.mt_pool.proofs.Logged.{no_records}
use Rattle.mt_space.specs.Changes.{PageBytes}
use Rattle.mt_core.specs.Runs.{IsMoving}
use Rattle.mt_core.proofs.Reported.{some_more, unfinished_finishes}

-- a beginning of records of which none passes a test
front : (test : Record → Bool) (xs ys : List Record) → some_record test (xs ++ ys) ≡ false → some_record test xs ≡ false
front test xs ys is = go (some_record test xs) refl
  where
    go : (c : Bool) → some_record test xs ≡ c → c ≡ false
    go true at = absurd (let yes = some_more test xs ys at in cc)
    go false at = refl

-- one record behind others that do not finish the operation
not_inverse : (t n : ℕ) (earlier : List Record) (r : Record) → inverse_is_due earlier r ≡ true → some_record (finishes t n) earlier ≡ false → undoes_op t n r ≡ false
not_inverse t n earlier (OpEnd txn op undoes done) due none = go (txn == t) refl (undoes == n) refl (undoes == 0) refl due
  where
    go : (a : Bool) → (txn == t) ≡ a → (b : Bool) → (undoes == n) ≡ b → (c : Bool) → (undoes == 0) ≡ c → (c || (some_record (finishes txn undoes) earlier && not (some_record (undoes_op txn undoes) earlier))) ≡ true → (a && (b && not c)) ≡ false
    go true at true named true zero k = refl
    go true at true named false some k =
        let same_t : txn ≡ t = eqb-true txn t at in let same_n : undoes ≡ n = eqb-true undoes n named in
        let gone : some_record (finishes txn undoes) earlier ≡ false = (λ i. some_record (finishes (same_t i) (same_n i)) earlier) ∙ none in
        let both = and_parts (some_record (finishes txn undoes) earlier) (not (some_record (undoes_op txn undoes) earlier)) k in absurd (let yes = both.0 in cc)
    go true at false named c is k = refl
    go false at b named c is k = refl
not_inverse t n earlier _ due none = refl

due_of : (first : Bool) (earlier : List Record) (r : Record) → may_stand first earlier r ≡ true → inverse_is_due earlier r ≡ true
due_of first earlier r may =
    let in_batch = and_parts (is_in_its_batch first r) (txn_is_open earlier r && (op_is_open earlier r && (inverse_is_due earlier r && image_is_first earlier r))) may in
    let open_txn = and_parts (txn_is_open earlier r) (op_is_open earlier r && (inverse_is_due earlier r && image_is_first earlier r)) in_batch.1 in
    let open_op = and_parts (op_is_open earlier r) (inverse_is_due earlier r && image_is_first earlier r) open_txn.1 in
    (and_parts (inverse_is_due earlier r) (image_is_first earlier r) open_op.1).0

follows : (t n : ℕ) (first : Bool) (earlier rs : List Record) → MayFollow first earlier rs → some_record (finishes t n) (earlier ++ rs) ≡ false → some_record (undoes_op t n) earlier ≡ false → some_record (undoes_op t n) (earlier ++ rs) ≡ false
follows t n first earlier [] may none before = ap (some_record (undoes_op t n)) (append-nil earlier) ∙ before
follows t n first earlier (r ∷ rs) may none before =
    let shift : (earlier ++ r ∷ []) ++ rs ≡ earlier ++ r ∷ rs = append_assoc earlier (r ∷ []) rs in
    let none_now : some_record (finishes t n) ((earlier ++ r ∷ []) ++ rs) ≡ false = ap (some_record (finishes t n)) shift ∙ none in
    let none_before : some_record (finishes t n) earlier ≡ false = front (finishes t n) earlier (r ∷ rs) none in
    let here = not_inverse t n earlier r (due_of first earlier r may.0) none_before in
    ap (some_record (undoes_op t n)) (sym shift) ∙ follows t n first (earlier ++ r ∷ []) rs may.1 none_now (no_records (undoes_op t n) earlier (r ∷ []) before (or_from (undoes_op t n r) false here refl))

all_follow : (t n : ℕ) (earlier : List Record) (bs : List (List Record)) → BatchesMayFollow earlier bs → some_record (finishes t n) (earlier ++ joined bs) ≡ false → some_record (undoes_op t n) earlier ≡ false → some_record (undoes_op t n) (earlier ++ joined bs) ≡ false
all_follow t n earlier [] may none before = ap (some_record (undoes_op t n)) (append-nil earlier) ∙ before
all_follow t n earlier (b ∷ bs) may none before =
    let shift : (earlier ++ b) ++ joined bs ≡ earlier ++ (b ++ joined bs) = append_assoc earlier b (joined bs) in
    let none_now : some_record (finishes t n) ((earlier ++ b) ++ joined bs) ≡ false = ap (some_record (finishes t n)) shift ∙ none in
    let none_first : some_record (finishes t n) (earlier ++ b) ≡ false = front (finishes t n) (earlier ++ b) (joined bs) none_now in
    ap (some_record (undoes_op t n)) (sym shift) ∙ all_follow t n (earlier ++ b) bs may.1 none_now (follows t n false earlier b may.0 none_first before)

in_history : (t n : ℕ) (bs : List (List Record)) → IsHistory bs → some_record (finishes t n) (joined bs) ≡ false → some_record (undoes_op t n) (joined bs) ≡ false
in_history t n [] rules none = refl
in_history t n (b ∷ bs) rules none =
    let none_first : some_record (finishes t n) b ≡ false = front (finishes t n) b (joined bs) none in
    all_follow t n b bs rules.1 none (follows t n true [] b rules.0 none_first refl)

-- so none names one that has not ended
pub none_named : {D : Type 0} (relations counters : ℕ) (g : Ghosts D) (opening : PageBytes) (o : Operations D) (t n : ℕ) → IsRight g opening relations counters o
    → some_record (ends_op n) (appended o.store.log) ≡ false → some_record (undoes_op t n) (appended o.store.log) ≡ false
none_named relations counters g opening o t n right unended =
    let log = o.store.log in
    let whole : appended log ≡ joined (durable_batches log ++ (in_flight log ++ waiting log) ∷ []) = (λ i. durable-joined log i ++ (in_flight log ++ waiting log)) ∙ sym (joined_push (durable_batches log) (in_flight log ++ waiting log)) in
    let none : some_record (finishes t n) (joined (durable_batches log ++ (in_flight log ++ waiting log) ∷ [])) ≡ false = ap (some_record (finishes t n)) (sym whole) ∙ unfinished_finishes t n (appended log) unended in
    ap (some_record (undoes_op t n)) whole ∙ in_history t n (durable_batches log ++ (in_flight log ++ waiting log) ∷ []) right.kept.sound.rules none

-- an operation that moves has not ended
pub moving_open : (relations counters : ℕ) (w : World) (s : OpScope) → IsUnderWay relations counters w s → IsMoving s.stage → IsOpen w s
moving_open relations counters w s under moving =
    ⊎_elim (λ (is : s.stage ≡ Planning). (subst (IsAt relations counters w s) is under.at).unended)
    (λ more. ⊎_elim (λ (is : s.stage ≡ Writing). (subst (IsAt relations counters w s) is under.at).unended)
    (λ (is : s.stage ≡ Taking). (subst (IsAt relations counters w s) is under.at).unended) more) moving

pub none_undone : {D : Type 0} (relations counters : ℕ) (g : Ghosts D) (opening : PageBytes) (o : Operations D) (s : OpScope) → IsRight g opening relations counters o
    → IsUnderWay relations counters (world g opening o) s → IsMoving s.stage → some_record (undoes_op s.txn s.number) (appended o.store.log) ≡ false
none_undone relations counters g opening o s right under moving =
    none_named relations counters g opening o s.txn s.number right (moving_open relations counters (world g opening o) s under moving).unfinished.operation
