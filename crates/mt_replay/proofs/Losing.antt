-- The losers of records, found from the last record on.
use Rattle.std.proofs.Common.{◌≡◌, ◌≢◌, ℕ, ◌+◌, ◌<◌, Bool, true, false, not, cond, ◌==◌, ◌&&◌, ◌||◌, List, [], ◌∷◌, ◌++◌, length, get_or, drop, filter, reverse, refl, sym, ap, ◌∙◌, subst, append_assoc}
use Rattle.std.specs.Prelude.{Contains}
use Rattle.std.specs.BTreeSet.{contains}
use Rattle.std.specs.List.{AllByRecursion}
use Rattle.std.specs.Ordering.{nat_cmp}
use Rattle.std.proofs.lemmas.Bool.{ne_eqb}
use Rattle.std.proofs.lemmas.List.{append-nil, reverse-append}
use Rattle.std.proofs.lemmas.List.Elements.{filter-append}
use Rattle.mt_frame.specs.Grammar.{IsOperation}
use Rattle.mt_area_rules.specs.History.{some_record, ends_txn, undoes_op}
use Rattle.mt_area_rules.specs.Known.{pair_cmp}
use Rattle.mt_frame.specs.declared.records.LoggedOp.{LoggedOp}
use Rattle.mt_frame.specs.declared.records.Record.{Record}
use Rattle.mt_frame.specs.declared.records.Record.TheVariants.{Page, OpEnd, OpDropped, Commit, AbortEnd}
use Rattle.mt_log.specs.declared.batch.Batch.{Batch}
use Rattle.mt_replay.specs.Recorded.{Recorded, Finished, nothing, plus_record, plus_records, losers, others, is_but, without}
use Rattle.mt_replay.specs.Losers.{finished_of, all_finished, HasEnded, HasRecorded, PassesRecords}
use Rattle.mt_replay.specs.declared.losers.Loser.{Loser}
use Rattle.mt_replay.specs.declared.losers.LoserPass.{LoserPass}
use Rattle.mt_replay.proofs.Imaged.{record_at}
use Rattle.mt_replay.proofs.Walking.{filter_all, filter_alike, filter_both, same_sides}

-- ---- tests

or_false : (a : Bool) → (a || false) ≡ a
or_false true = refl
or_false false = refl

or_comm : (a b : Bool) → (a || b) ≡ (b || a)
or_comm true true = refl
or_comm true false = refl
or_comm false true = refl
or_comm false false = refl

and_false : (a b : Bool) → (a && (b && false)) ≡ false
and_false true true = refl
and_false true false = refl
and_false false b = refl

and_true : (a b : Bool) → (a && (b && true)) ≡ (a && b)
and_true true true = refl
and_true true false = refl
and_true false b = refl

-- what an inverse, or the end of a transaction, leaves
left_undone : (a b e u : Bool) → ((not a || not b) && not (e || u)) ≡ not (e || ((a && b) || u))
left_undone true true true u = refl
left_undone true true false u = refl
left_undone true false e u = refl
left_undone false b e u = refl

left_ended : (a e u : Bool) → (not a && not (e || u)) ≡ not ((a || e) || u)
left_ended true e u = refl
left_ended false e u = refl

-- ---- the losers of the records behind, and of one before them

-- no record ends its transaction or undoes it
abbrev pub survives : List Record → Finished → Bool
survives rs f = not (some_record (ends_txn f.txn) rs || some_record (undoes_op f.txn f.op) rs)

-- what a record leaves of the losers behind it
abbrev pub own : Record → List Record → List Finished
own r rs = filter (survives rs) (plus_record nothing r).live

-- what is live behind an end, which is an inverse or is not
abbrev reported_by : List Finished → ℕ → ℕ → ℕ → LoggedOp → Bool → List Finished
reported_by live txn op undoes done b = cond b (live ++ record { txn = txn; op = op; done = done } ∷ []) (without txn undoes live)

abbrev survives_end : List Record → ℕ → ℕ → Bool → Finished → Bool
survives_end rs txn undoes b f = not (some_record (ends_txn f.txn) rs || (((txn == f.txn) && ((undoes == f.op) && not b)) || some_record (undoes_op f.txn f.op) rs))

step_end : (s : Recorded) (txn op undoes : ℕ) (done : LoggedOp) (rs : List Record) (b : Bool)
    → filter (survives rs) (reported_by s.live txn op undoes done b) ≡ filter (survives_end rs txn undoes b) s.live ++ filter (survives rs) (reported_by [] txn op undoes done b)
step_end s txn op undoes done rs true =
    filter-append (survives rs) s.live (record { txn = txn; op = op; done = done } ∷ [])
    ∙ ap (λ (fs : List Finished). fs ++ filter (survives rs) (record { txn = txn; op = op; done = done } ∷ []))
    (filter_alike (survives rs) (survives_end rs txn undoes true) (λ f. ap (λ (a : Bool). not (some_record (ends_txn f.txn) rs || (a || some_record (undoes_op f.txn f.op) rs))) (sym (and_false (txn == f.txn) (undoes == f.op)))) s.live)
step_end s txn op undoes done rs false =
    filter_both (survives rs) (is_but txn undoes) s.live
    ∙ filter_alike (λ (f : Finished). is_but txn undoes f && survives rs f) (survives_end rs txn undoes false) (λ f.
    left_undone (f.txn == txn) (f.op == undoes) (some_record (ends_txn f.txn) rs) (some_record (undoes_op f.txn f.op) rs)
    ∙ ap (λ (a : Bool). not (some_record (ends_txn f.txn) rs || (a || some_record (undoes_op f.txn f.op) rs)))
    ((λ i. same_sides f.txn txn i && same_sides f.op undoes i) ∙ sym (and_true (txn == f.txn) (undoes == f.op)))) s.live
    ∙ sym (append-nil (filter (survives_end rs txn undoes false) s.live))

step_left : (s : Recorded) (txn : ℕ) (rs : List Record) → filter (survives rs) (others txn s.live)
    ≡ filter (λ (f : Finished). not (((txn == f.txn) || some_record (ends_txn f.txn) rs) || some_record (undoes_op f.txn f.op) rs)) s.live ++ []
step_left s txn rs =
    filter_both (survives rs) (λ (f : Finished). not (f.txn == txn)) s.live
    ∙ filter_alike (λ (f : Finished). not (f.txn == txn) && survives rs f) (λ (f : Finished). not (((txn == f.txn) || some_record (ends_txn f.txn) rs) || some_record (undoes_op f.txn f.op) rs)) (λ f.
    left_ended (f.txn == txn) (some_record (ends_txn f.txn) rs) (some_record (undoes_op f.txn f.op) rs)
    ∙ ap (λ (a : Bool). not ((a || some_record (ends_txn f.txn) rs) || some_record (undoes_op f.txn f.op) rs)) (same_sides f.txn txn)) s.live
    ∙ sym (append-nil (filter (λ (f : Finished). not (((txn == f.txn) || some_record (ends_txn f.txn) rs) || some_record (undoes_op f.txn f.op) rs)) s.live))

step : (s : Recorded) (r : Record) (rs : List Record) → filter (survives rs) (plus_record s r).live ≡ filter (survives (r ∷ rs)) s.live ++ own r rs
step s (Page txn op page image start old new) rs = sym (append-nil (filter (survives rs) s.live))
step s (OpEnd txn op undoes done) rs = step_end s txn op undoes done rs (undoes == 0)
step s (OpDropped txn op) rs = sym (append-nil (filter (survives rs) s.live))
step s (Commit txn) rs = step_left s txn rs
step s (AbortEnd txn) rs = step_left s txn rs

-- what was live before the records and survives them, and their own losers
records_live : (s : Recorded) (rs : List Record) → (plus_records s rs).live ≡ filter (survives rs) s.live ++ losers rs
records_live s [] = sym (append-nil (filter (survives []) s.live) ∙ filter_all s.live)
records_live s (r ∷ rs) =
    records_live (plus_record s r) rs
    ∙ ap (λ (fs : List Finished). fs ++ losers rs) (step s r rs)
    ∙ append_assoc (filter (survives (r ∷ rs)) s.live) (own r rs) (losers rs)
    ∙ ap (λ (fs : List Finished). filter (survives (r ∷ rs)) s.live ++ fs) (sym (records_live (plus_record nothing r) rs))

pub losers_next : (r : Record) (rs : List Record) → losers (r ∷ rs) ≡ own r rs ++ losers rs
losers_next r rs = records_live (plus_record nothing r) rs

-- ---- lists of losers

all_push : (P : Loser → Type 0) (list : List Loser) (l : Loser) → AllByRecursion P list → P l → AllByRecursion P (list ++ l ∷ [])
all_push P [] l all one = (one, tt)
all_push P (m ∷ list) l all one = (all.0, all_push P list l all.1 one)

pub all_reverse : (P : Loser → Type 0) (list : List Loser) → AllByRecursion P list → AllByRecursion P (reverse list)
all_reverse P [] all = tt
all_reverse P (l ∷ list) all = subst (AllByRecursion P) (sym (reverse-append (l ∷ []) list)) (all_push P (reverse list) l (all_reverse P list all.1) all.0)

-- ---- one record before those that were read

-- an end of its own, whose transaction has ended behind it, or which is undone there
pub passes_over : (batch : Batch) (txn op : ℕ) (done : LoggedOp) (x : LoserPass) → (contains nat_cmp x.ended txn || contains pair_cmp x.undone (txn, op)) ≡ true → PassesRecords batch (OpEnd txn op 0 done ∷ []) x x
passes_over batch txn op done x over = record {
  outcome = λ behind h. record {
    losers = h.losers ∙ sym (losers_next (OpEnd txn op 0 done) behind
        ∙ ap (λ (b : Bool). cond (not b) (record { txn = txn; op = op; done = done } ∷ []) [] ++ losers behind) ((λ i. sym (h.ended txn) i || sym (h.undone txn op) i) ∙ over));
    ended = λ t. h.ended t;
    undone = λ t o. h.undone t o ∙ sym (ap (λ (a : Bool). a || some_record (undoes_op t o) behind) (and_false (txn == t) (0 == o)));
  };
  ended = λ batches among all. all;
}

-- another: a loser
pub passes_loser : (batch : Batch) (l : Loser) (old new : LoserPass) → batch.place ≡ l.place → Contains batch.records.items (OpEnd l.txn l.op 0 l.done) → IsOperation l.done
    → (contains nat_cmp old.ended l.txn || contains pair_cmp old.undone (l.txn, l.op)) ≡ false
    → new.losers.items ≡ old.losers.items ++ l ∷ [] → new.ended ≡ old.ended → new.undone ≡ old.undone
    → PassesRecords batch (OpEnd l.txn l.op 0 l.done ∷ []) old new
passes_loser batch l old new place among grammar alone is same_ended same_undone = record {
  outcome = λ behind h. record {
    losers = ap (λ (ls : List Loser). all_finished (reverse ls)) is ∙ ap all_finished (reverse-append old.losers.items (l ∷ [])) ∙ ap (λ (fs : List Finished). finished_of l ∷ fs) h.losers
        ∙ sym (losers_next (OpEnd l.txn l.op 0 l.done) behind
        ∙ ap (λ (b : Bool). cond (not b) (finished_of l ∷ []) [] ++ losers behind) ((λ i. sym (h.ended l.txn) i || sym (h.undone l.txn l.op) i) ∙ alone));
    ended = λ t. (λ i. contains nat_cmp (same_ended i) t) ∙ h.ended t;
    undone = λ t o. (λ i. contains pair_cmp (same_undone i) (t, o)) ∙ h.undone t o ∙ sym (ap (λ (a : Bool). a || some_record (undoes_op t o) behind) (and_false (l.txn == t) (0 == o)));
  };
  ended = λ batches there all. subst (AllByRecursion (HasEnded batches)) (sym is) (all_push (HasEnded batches) old.losers.items l all (record { ends_in = batch; among = there; place = place; end = among; grammar = grammar }));
}

-- the end of an inverse
pub passes_inverse : (batch : Batch) (txn op undoes : ℕ) (done : LoggedOp) (old new : LoserPass) → undoes ≢ 0
    → new.losers.items ≡ old.losers.items → new.ended ≡ old.ended
    → ((t o : ℕ) → contains pair_cmp new.undone (t, o) ≡ (contains pair_cmp old.undone (t, o) || ((txn == t) && (undoes == o))))
    → PassesRecords batch (OpEnd txn op undoes done ∷ []) old new
passes_inverse batch txn op undoes done old new some same same_ended noted = record {
  outcome = λ behind h. record {
    losers = ap (λ (ls : List Loser). all_finished (reverse ls)) same ∙ h.losers
        ∙ sym (losers_next (OpEnd txn op undoes done) behind
        ∙ ap (λ (b : Bool). filter (survives behind) (reported_by [] txn op undoes done b) ++ losers behind) (ne_eqb undoes 0 some));
    ended = λ t. (λ i. contains nat_cmp (same_ended i) t) ∙ h.ended t;
    undone = λ t o.
        noted t o ∙ ap (λ (a : Bool). a || ((txn == t) && (undoes == o))) (h.undone t o) ∙ or_comm (some_record (undoes_op t o) behind) ((txn == t) && (undoes == o))
        ∙ ap (λ (a : Bool). a || some_record (undoes_op t o) behind)
        (sym (and_true (txn == t) (undoes == o)) ∙ sym (ap (λ (b : Bool). (txn == t) && ((undoes == o) && not b)) (ne_eqb undoes 0 some)));
  };
  ended = λ batches there all. subst (AllByRecursion (HasEnded batches)) (sym same) all;
}

-- the end of a transaction
pub passes_ended : (batch : Batch) (r : Record) (txn : ℕ) (old new : LoserPass)
    → ((rs : List Record) → own r rs ≡ []) → ((t : ℕ) → ends_txn t r ≡ (txn == t)) → ((t o : ℕ) → undoes_op t o r ≡ false)
    → new.losers.items ≡ old.losers.items → new.undone ≡ old.undone
    → ((t : ℕ) → contains nat_cmp new.ended t ≡ (contains nat_cmp old.ended t || (txn == t)))
    → PassesRecords batch (r ∷ []) old new
passes_ended batch r txn old new gone ends undoes same same_undone noted = record {
  outcome = λ behind h. record {
    losers = ap (λ (ls : List Loser). all_finished (reverse ls)) same ∙ h.losers ∙ sym (losers_next r behind ∙ ap (λ (fs : List Finished). fs ++ losers behind) (gone behind));
    ended = λ t.
        noted t ∙ ap (λ (a : Bool). a || (txn == t)) (h.ended t) ∙ or_comm (some_record (ends_txn t) behind) (txn == t)
        ∙ ap (λ (a : Bool). a || some_record (ends_txn t) behind) (sym (ends t));
    undone = λ t o. (λ i. contains pair_cmp (same_undone i) (t, o)) ∙ h.undone t o ∙ sym (ap (λ (a : Bool). a || some_record (undoes_op t o) behind) (undoes t o));
  };
  ended = λ batches there all. subst (AllByRecursion (HasEnded batches)) (sym same) all;
}

-- another record, which ends nothing
pub passes_same : (batch : Batch) (r : Record) (x : LoserPass) → ((rs : List Record) → own r rs ≡ []) → ((t : ℕ) → ends_txn t r ≡ false) → ((t o : ℕ) → undoes_op t o r ≡ false) → PassesRecords batch (r ∷ []) x x
passes_same batch r x gone ends undoes = record {
  outcome = λ behind h. record {
    losers = h.losers ∙ sym (losers_next r behind ∙ ap (λ (fs : List Finished). fs ++ losers behind) (gone behind));
    ended = λ t. h.ended t ∙ sym (ap (λ (a : Bool). a || some_record (ends_txn t) behind) (ends t));
    undone = λ t o. h.undone t o ∙ sym (ap (λ (a : Bool). a || some_record (undoes_op t o) behind) (undoes t o));
  };
  ended = λ batches there all. all;
}

-- ---- one before the other

pub passes_none : (batch : Batch) (x : LoserPass) → PassesRecords batch [] x x
passes_none batch x = record { outcome = λ behind h. h; ended = λ batches there all. all }

pub passes_then : (batch : Batch) (rs : List Record) (i : ℕ) (r : Record) (old mid new : LoserPass) → i < length rs → r ≡ get_or rs i r → PassesRecords batch (drop (i + 1) rs) old mid → PassesRecords batch (r ∷ []) mid new → PassesRecords batch (drop i rs) old new
passes_then batch rs i r old mid new lt is first second = record {
  outcome = λ behind h. subst (λ (qs : List Record). HasRecorded new (qs ++ behind)) (sym (record_at rs i r lt is)) (second.outcome (drop (i + 1) rs ++ behind) (first.outcome behind h));
  ended = λ batches there all. second.ended batches there (first.ended batches there all);
}
