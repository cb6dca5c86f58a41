-- What a crash leaves holds a beginning of the appended records, with all durable ones.
use Rattle.std.proofs.Common.{◌≡◌, ◌⊎◌, inl, inr, ℕ, ◌<◌, List, [], ◌∷◌, ◌++◌, length, refl, sym, ◌∙◌, ap, subst, arith, append_assoc, append-nil, true, false, Bool}
use Rattle.std.specs.List.{AllByRecursion}
use Rattle.mt_frame.specs.declared.records.Record.{Record}
use Rattle.mt_frame.specs.Grammar.{IsRecord}
use Rattle.mt_area_rules.specs.History.{may_stand, MayFollow, BatchesMayFollow, IsHistory}
use Rattle.mt_log.specs.Batch.{joined}
use Rattle.mt_log.specs.Area.{ScansWithOrWithout}
use Rattle.mt_log.specs.Holds.{HasItsPage, AreRecords, AreBatches}
use Rattle.mt_log.specs.Seen.{LogSeen, with_record}
use Rattle.mt_log.specs.Sound.{IsSound, HoldsBeginning}
use Rattle.mt_log.specs.Words.{seen_of, durable_batches, durable, in_flight, waiting, appended, area_start, area_end, coming, batch_of}
use Rattle.mt_log.specs.declared.log.Log.{Log}
use Rattle.mt_log.specs.declared.stage.Stage.{Stage}
use Rattle.mt_log.specs.declared.stage.Stage.TheVariants.{Idle, Forcing, Failed}
use Rattle.mt_log.proofs.Settled.{joined_push}

-- ---- each of two lists

pub each_front : (P : Record → Type 0) (xs ys : List Record) → AllByRecursion P (xs ++ ys) → AllByRecursion P xs
each_front P [] ys all = tt
each_front P (x ∷ xs) ys all = (all.0, each_front P xs ys all.1)

pub each_back : (P : Record → Type 0) (xs ys : List Record) → AllByRecursion P (xs ++ ys) → AllByRecursion P ys
each_back P [] ys all = all
each_back P (x ∷ xs) ys all = each_back P xs ys all.1

pub each_both : (P : Record → Type 0) (xs ys : List Record) → AllByRecursion P xs → AllByRecursion P ys → AllByRecursion P (xs ++ ys)
each_both P [] ys first second = second
each_both P (x ∷ xs) ys first second = (first.0, each_both P xs ys first.1 second)

pub front_records : (pages : ℕ) (xs ys : List Record) → AreRecords pages (xs ++ ys) → AreRecords pages xs
front_records pages xs ys all = (each_front IsRecord xs ys all.0, each_front (HasItsPage pages) xs ys all.1)

pub back_records : (pages : ℕ) (xs ys : List Record) → AreRecords pages (xs ++ ys) → AreRecords pages ys
back_records pages xs ys all = (each_back IsRecord xs ys all.0, each_back (HasItsPage pages) xs ys all.1)

pub batches_of_joined : (pages : ℕ) (bs : List (List Record)) → AreRecords pages (joined bs) → AreBatches pages bs
batches_of_joined pages [] all = tt
batches_of_joined pages (b ∷ bs) all = (front_records pages b (joined bs) all, batches_of_joined pages bs (back_records pages b (joined bs) all))

-- ---- the rules over two lists

pub may_front : (first : Bool) (earlier xs ys : List Record) → MayFollow first earlier (xs ++ ys) → MayFollow first earlier xs
may_front first earlier [] ys all = tt
may_front first earlier (x ∷ xs) ys all = (all.0, may_front first (earlier ++ x ∷ []) xs ys all.1)

pub may_back : (first : Bool) (earlier xs ys : List Record) → MayFollow first earlier (xs ++ ys) → MayFollow first (earlier ++ xs) ys
may_back first earlier [] ys all = subst (λ (l : List Record). MayFollow first l ys) (sym (append-nil earlier)) all
may_back first earlier (x ∷ xs) ys all = subst (λ (l : List Record). MayFollow first l ys) (append_assoc earlier (x ∷ []) xs) (may_back first (earlier ++ x ∷ []) xs ys all.1)

pub may_both : (first : Bool) (earlier xs ys : List Record) → MayFollow first earlier xs → MayFollow first (earlier ++ xs) ys → MayFollow first earlier (xs ++ ys)
may_both first earlier [] ys front behind = subst (λ (l : List Record). MayFollow first l ys) (append-nil earlier) behind
may_both first earlier (x ∷ xs) ys front behind =
    (front.0, may_both first (earlier ++ x ∷ []) xs ys front.1 (subst (λ (l : List Record). MayFollow first l ys) (sym (append_assoc earlier (x ∷ []) xs)) behind))

batches_front : (earlier : List Record) (bs : List (List Record)) (b : List Record) → BatchesMayFollow earlier (bs ++ b ∷ []) → BatchesMayFollow earlier bs × MayFollow false (earlier ++ joined bs) b
batches_front earlier [] b all = (tt, subst (λ (l : List Record). MayFollow false l b) (sym (append-nil earlier)) all.0)
batches_front earlier (x ∷ bs) b all =
    let deeper = batches_front (earlier ++ x) bs b all.1 in
    ((all.0, deeper.0), subst (λ (l : List Record). MayFollow false l b) (append_assoc earlier x (joined bs)) deeper.1)

batches_both : (earlier : List Record) (bs : List (List Record)) (b : List Record) → BatchesMayFollow earlier bs → MayFollow false (earlier ++ joined bs) b → BatchesMayFollow earlier (bs ++ b ∷ [])
batches_both earlier [] b all one = (subst (λ (l : List Record). MayFollow false l b) (append-nil earlier) one, tt)
batches_both earlier (x ∷ bs) b all one = (all.0, batches_both (earlier ++ x) bs b all.1 (subst (λ (l : List Record). MayFollow false l b) (sym (append_assoc earlier x (joined bs))) one))

-- a batch behind others
pub history_front : (bs : List (List Record)) (b : List Record) → 0 < length bs → IsHistory (bs ++ b ∷ []) → IsHistory bs × MayFollow false (joined bs) b
history_front [] b some all = absurd (omega arith)
history_front (x ∷ bs) b some all = let parts = batches_front x bs b all.1 in ((all.0, parts.0), parts.1)

pub history_push : (bs : List (List Record)) (b : List Record) → 0 < length bs → IsHistory bs → MayFollow false (joined bs) b → IsHistory (bs ++ b ∷ [])
history_push [] b some all one = absurd (omega arith)
history_push (x ∷ bs) b some all one = (all.0, batches_both x bs b all.1 one)

-- ---- what a crash leaves

nothing : (l : List Record) → length l ≡ 0 → l ≡ []
nothing [] is = refl
nothing (x ∷ l) is = absurd (omega arith)

-- the batch that comes is a beginning of what is not durable
coming_first : (stage : Stage) (flight wait : List Record) → (stage ≡ Idle → flight ≡ []) → (rest : List Record) × (batch_of stage wait flight ++ rest ≡ flight ++ wait)
coming_first Idle flight wait none = ([], append-nil wait ∙ sym (ap (λ (l : List Record). l ++ wait) (none refl)))
coming_first (Forcing step) flight wait none = (wait, refl)
coming_first Failed flight wait none = (wait, refl)

pub coming_begins : (log : Log) → (rest : List Record) × (coming log ++ rest ≡ in_flight log ++ waiting log)
unfolding seen_of
coming_begins log = coming_first log.stage log.in_flight.items log.waiting.items (λ is. nothing log.in_flight.items (log.at_rest is).none)

pub durable-joined : (log : Log) → durable log ≡ joined (durable_batches log)
unfolding seen_of
durable-joined log = refl

pub beginning_found : (pages : ℕ) (log : Log) (c : List ℕ) → IsSound pages log → ScansWithOrWithout (area_start log) (area_end log) (durable_batches log) (coming log) c → HoldsBeginning pages log c
beginning_found pages log c sound (inl scans) =
    let parts = history_front (durable_batches log) (in_flight log ++ waiting log) sound.begun sound.rules in
    let here : joined (durable_batches log) ≡ durable log = sym (durable-joined log) in
    let front : AreRecords pages (durable log) = front_records pages (durable log) (in_flight log ++ waiting log) sound.each in
    record {
      batches = durable_batches log;
      held = record { row = scans; each = batches_of_joined pages (durable_batches log) (subst (AreRecords pages) (sym here) front); rules = parts.0 };
      beginning = record {
        more = [];
        has_durable = here ∙ sym (append-nil (durable log));
        rest = in_flight log ++ waiting log;
        of_appended = ap (λ (l : List Record). l ++ (in_flight log ++ waiting log)) here;
      };
    }
beginning_found pages log c sound (inr scans) =
    let next = coming_begins log in
    let bs = durable_batches log in
    let parts = history_front bs (in_flight log ++ waiting log) sound.begun sound.rules in
    let whole : joined (bs ++ coming log ∷ []) ≡ durable log ++ coming log = joined_push bs (coming log) ∙ ap (λ (l : List Record). l ++ coming log) (sym (durable-joined log)) in
    let all : (durable log ++ coming log) ++ next.0 ≡ durable log ++ (in_flight log ++ waiting log) = append_assoc (durable log) (coming log) next.0 ∙ ap (λ (l : List Record). durable log ++ l) next.1 in
    let each : AreRecords pages (durable log ++ coming log) = front_records pages (durable log ++ coming log) next.0 (subst (AreRecords pages) (sym all) sound.each) in
    let may : MayFollow false (joined bs) (coming log) = may_front false (joined bs) (coming log) next.0 (subst (MayFollow false (joined bs)) (sym next.1) parts.1) in
    record {
      batches = bs ++ coming log ∷ [];
      held = record { row = scans; each = batches_of_joined pages (bs ++ coming log ∷ []) (subst (AreRecords pages) (sym whole) each); rules = history_push bs (coming log) sound.begun parts.0 may };
      beginning = record {
        more = coming log;
        has_durable = whole;
        rest = next.0;
        of_appended = ap (λ (l : List Record). l ++ next.0) whole ∙ all;
      };
    }

-- the same, under other names of what the log has
pub beginning_at : (pages : ℕ) (log : Log) (c : List ℕ) (start end : ℕ) (bs : List (List Record)) (b : List Record) → start ≡ area_start log → end ≡ area_end log → bs ≡ durable_batches log → b ≡ coming log
    → IsSound pages log → ScansWithOrWithout start end bs b c → HoldsBeginning pages log c
beginning_at pages log c start end bs b s e l n sound scans =
    beginning_found pages log c sound
    (subst (λ (k : ℕ). ScansWithOrWithout k (area_end log) (durable_batches log) (coming log) c) s
    (subst (λ (k : ℕ). ScansWithOrWithout start k (durable_batches log) (coming log) c) e
    (subst (λ (k : List (List Record)). ScansWithOrWithout start end k (coming log) c) l
    (subst (λ (k : List Record). ScansWithOrWithout start end bs k c) n scans))))

-- ---- a log stays sound

-- the same durable batches, and the same records behind them
pub sound_same : (pages : ℕ) (old new : Log) → durable_batches new ≡ durable_batches old → in_flight new ++ waiting new ≡ in_flight old ++ waiting old → IsSound pages old → IsSound pages new
sound_same pages old new batches behind sound =
    let same : durable new ≡ durable old = durable-joined new ∙ ap joined batches ∙ sym (durable-joined old) in
    let all : durable new ++ (in_flight new ++ waiting new) ≡ durable old ++ (in_flight old ++ waiting old) = ap (λ (l : List Record). l ++ (in_flight new ++ waiting new)) same ∙ ap (λ (l : List Record). durable old ++ l) behind in
    let rows : durable_batches new ++ (in_flight new ++ waiting new) ∷ [] ≡ durable_batches old ++ (in_flight old ++ waiting old) ∷ [] = ap (λ (l : List (List Record)). l ++ (in_flight new ++ waiting new) ∷ []) batches ∙ ap (λ (l : List Record). durable_batches old ++ l ∷ []) behind in
    record {
      begun = subst (λ (l : List (List Record)). 0 < length l) (sym batches) sound.begun;
      each = subst (AreRecords pages) (sym all) sound.each;
      rules = subst IsHistory (sym rows) sound.rules;
    }

-- the batch that was being forced is durable
pub sound_durable : (pages : ℕ) (old new : Log) → durable_batches new ≡ durable_batches old ++ in_flight old ∷ [] → in_flight new ≡ [] → waiting new ≡ waiting old → IsSound pages old → IsSound pages new
sound_durable pages old new batches none waits sound =
    let bs = durable_batches old in
    let flight = in_flight old in
    let wait = waiting old in
    let behind : in_flight new ++ waiting new ≡ wait = ap (λ (l : List Record). l ++ waiting new) none ∙ waits in
    let parts = history_front bs (flight ++ wait) sound.begun sound.rules in
    let grown : joined (bs ++ flight ∷ []) ≡ joined bs ++ flight = joined_push bs flight in
    let same : durable new ≡ durable old ++ flight = durable-joined new ∙ ap joined batches ∙ grown ∙ ap (λ (l : List Record). l ++ flight) (sym (durable-joined old)) in
    let all : durable new ++ (in_flight new ++ waiting new) ≡ durable old ++ (flight ++ wait) = ap (λ (l : List Record). l ++ (in_flight new ++ waiting new)) same ∙ ap (λ (l : List Record). (durable old ++ flight) ++ l) behind ∙ append_assoc (durable old) flight wait in
    let front : IsHistory (bs ++ flight ∷ []) = history_push bs flight sound.begun parts.0 (may_front false (joined bs) flight wait parts.1) in
    let last : MayFollow false (joined (bs ++ flight ∷ [])) wait = subst (λ (l : List Record). MayFollow false l wait) (sym grown) (may_back false (joined bs) flight wait parts.1) in
    let some_batch : 0 < length (bs ++ flight ∷ []) = more_than_none bs flight in
    let rows : durable_batches new ++ (in_flight new ++ waiting new) ∷ [] ≡ (bs ++ flight ∷ []) ++ wait ∷ [] = ap (λ (l : List (List Record)). l ++ (in_flight new ++ waiting new) ∷ []) batches ∙ ap (λ (l : List Record). (bs ++ flight ∷ []) ++ l ∷ []) behind in
    record {
      begun = subst (λ (l : List (List Record)). 0 < length l) (sym batches) some_batch;
      each = subst (AreRecords pages) (sym all) sound.each;
      rules = subst IsHistory (sym rows) (history_push (bs ++ flight ∷ []) wait some_batch front last);
    }
  where
    more_than_none : (bs : List (List Record)) (b : List Record) → 0 < length (bs ++ b ∷ [])
    more_than_none [] b = omega arith
    more_than_none (x ∷ bs) b = omega arith

-- a record more waits
pub sound_appended : (pages : ℕ) (old new : Log) (r : Record) → durable_batches new ≡ durable_batches old → in_flight new ≡ in_flight old → waiting new ≡ waiting old ++ r ∷ []
    → IsRecord r → HasItsPage pages r → may_stand false (appended old) r ≡ true → IsSound pages old → IsSound pages new
sound_appended pages old new r batches flights waits grammar page may sound =
    let bs = durable_batches old in
    let behind = in_flight old ++ waiting old in
    let longer : in_flight new ++ waiting new ≡ behind ++ r ∷ [] = ap (λ (l : List Record). l ++ waiting new) flights ∙ ap (λ (l : List Record). in_flight old ++ l) waits ∙ sym (append_assoc (in_flight old) (waiting old) (r ∷ [])) in
    let same : durable new ≡ durable old = durable-joined new ∙ ap joined batches ∙ sym (durable-joined old) in
    let all : durable new ++ (in_flight new ++ waiting new) ≡ (durable old ++ behind) ++ r ∷ [] = ap (λ (l : List Record). l ++ (in_flight new ++ waiting new)) same ∙ ap (λ (l : List Record). durable old ++ l) longer ∙ sym (append_assoc (durable old) behind (r ∷ [])) in
    let parts = history_front bs behind sound.begun sound.rules in
    let stands : may_stand false (joined bs ++ behind) r ≡ true = ap (λ (l : List Record). may_stand false (l ++ behind) r) (sym (durable-joined old)) ∙ may in
    let last : MayFollow false (joined bs) (behind ++ r ∷ []) = may_both false (joined bs) behind (r ∷ []) parts.1 (stands, tt) in
    let rows : durable_batches new ++ (in_flight new ++ waiting new) ∷ [] ≡ bs ++ (behind ++ r ∷ []) ∷ [] = ap (λ (l : List (List Record)). l ++ (in_flight new ++ waiting new) ∷ []) batches ∙ ap (λ (l : List Record). bs ++ l ∷ []) longer in
    record {
      begun = subst (λ (l : List (List Record)). 0 < length l) (sym batches) sound.begun;
      each = subst (AreRecords pages) (sym all) (each_both IsRecord (durable old ++ behind) (r ∷ []) sound.each.0 (grammar, tt), each_both (HasItsPage pages) (durable old ++ behind) (r ∷ []) sound.each.1 (page, tt));
      rules = subst IsHistory (sym rows) (history_push bs (behind ++ r ∷ []) sound.begun parts.0 last);
    }

-- the same, of what the log is seen as
pub sound_with_record : (pages : ℕ) (old new : Log) (r : Record) → seen_of new ≡ with_record (seen_of old) r → IsRecord r → HasItsPage pages r → may_stand false (appended old) r ≡ true → IsSound pages old → IsSound pages new
sound_with_record pages old new r is = sound_appended pages old new r (ap (λ (x : LogSeen). x.batches) is) (ap (λ (x : LogSeen). x.flight) is) (ap (λ (x : LogSeen). x.waits) is)

-- whatever a step did
pub sound_moved : (pages : ℕ) (old new : Log) → ((durable_batches new ≡ durable_batches old) × (in_flight new ++ waiting new ≡ in_flight old ++ waiting old)) ⊎ ((durable_batches new ≡ durable_batches old ++ in_flight old ∷ []) × (in_flight new ≡ []) × (waiting new ≡ waiting old))
    → IsSound pages old → IsSound pages new
sound_moved pages old new (inl same) sound = sound_same pages old new same.0 same.1 sound
sound_moved pages old new (inr more) sound = sound_durable pages old new more.0 more.1 more.2 sound

-- a log with this first batch alone
pub sound_first : (pages : ℕ) (log : Log) (b : List Record) → durable_batches log ≡ b ∷ [] → durable log ≡ b → in_flight log ≡ [] → waiting log ≡ [] → AreRecords pages b → MayFollow true [] b → IsSound pages log
sound_first pages log b batches durable_is flying waits each may = record {
  begun = let some = ap length batches in omega (arith, some);
  each = subst (AreRecords pages) (sym (ap (λ (l : List Record). l ++ (in_flight log ++ waiting log)) durable_is ∙ ap (λ (l : List Record). b ++ (l ++ waiting log)) flying ∙ ap (λ (l : List Record). b ++ l) waits ∙ append-nil b)) each;
  rules = subst IsHistory
      (sym (ap (λ (l : List (List Record)). l ++ (in_flight log ++ waiting log) ∷ []) batches ∙ ap (λ (l : List Record). b ∷ (l ++ waiting log) ∷ []) flying ∙ ap (λ (l : List Record). b ∷ l ∷ []) waits))
      (may, (tt, tt));
}
