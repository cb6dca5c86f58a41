-- The lines of a log, one after the other.
use Rattle.std.proofs.Common.{◌≡◌, ◌==◌, ◌<◌, Bool, true, false, suc, ℕ, List, [], ◌∷◌, ◌++◌, length, take, drop, get_or, map, refl, ap, sym, ◌∙◌, append_assoc, append-nil, take-append-drop}
use Rattle.std.specs.List.{concat}
use Rattle.std.proofs.Math.Seq.{take-suc, drop-cons}
use Rattle.std.proofs.lemmas.Bool.Decides.{Decides-eqb}
use Rattle.std.proofs.lemmas.List.{map-append}
use Rattle.mt_frame.specs.declared.records.Record.{Record}
use Rattle.mt_log.specs.Batch.{joined}
use Rattle.mt_log.specs.Found.{records_of}
use Rattle.mt_log.specs.declared.batch.Batch.{Batch}
use Rattle.mt_replay.specs.Losers.{all_finished, finished_of}
use Rattle.mt_replay.specs.Recorded.{Finished}
use Rattle.mt_replay.specs.declared.losers.Loser.{Loser}
use Rattle.mt_explain.specs.Histories.{Recounts, history_text}
use Rattle.mt_explain.specs.Explanations.{batch_lines, explained, note_all, noted, put_back_line, undo_line, undo_lines, unfinished}
use Rattle.mt_explain.specs.Listings.{numbered}
use Rattle.mt_explain.specs.declared.history.History.{History}
use Rattle.mt_explain.specs.declared.unfinished.Unfinished.{Unfinished}

note_append : (us : List Unfinished) (xs ys : List Record) → note_all us (xs ++ ys) ≡ note_all (note_all us xs) ys
note_append us [] ys = refl
note_append us (x ∷ xs) ys = note_append (noted us x) xs ys

-- one record more
pub note_more : (us : List Unfinished) (xs : List Record) (i : ℕ) (d : Record) → i < length xs → note_all us (take (suc i) xs) ≡ noted (note_all us (take i xs)) (get_or xs i d)
note_more us xs i d lt = ap (note_all us) (take-suc xs i d lt) ∙ note_append us (take i xs) (get_or xs i d ∷ [])

-- one batch more
joined_append : (xs ys : List Batch) → joined (records_of (xs ++ ys)) ≡ joined (records_of xs) ++ joined (records_of ys)
joined_append [] ys = refl
joined_append (x ∷ xs) ys = ap (λ t. x.records.items ++ t) (joined_append xs ys) ∙ sym (append_assoc x.records.items (joined (records_of xs)) (joined (records_of ys)))

pub batch_more : (us : List Unfinished) (xs : List Batch) (i : ℕ) (d : Batch) → i < length xs → note_all us (joined (records_of (take (suc i) xs))) ≡ note_all (note_all us (joined (records_of (take i xs)))) (get_or xs i d).records.items
batch_more us xs i d lt =
    let one = get_or xs i d in
    ap (λ bs. note_all us (joined (records_of bs))) (take-suc xs i d lt) ∙ ap (note_all us) (joined_append (take i xs) (one ∷ []) ∙ ap (λ t. joined (records_of (take i xs)) ++ t) (append-nil one.records.items))
    ∙ note_append us (joined (records_of (take i xs))) one.records.items

-- the last ones first
undo_append : (xs ys : List Finished) → undo_lines (xs ++ ys) ≡ undo_lines ys ++ undo_lines xs
undo_append [] ys = sym (append-nil (undo_lines ys))
undo_append (x ∷ xs) ys = ap (λ t. t ++ undo_line x) (undo_append xs ys) ∙ append_assoc (undo_lines ys) (undo_lines xs) (undo_line x)

-- one more, towards the first
pub undo_more : (ls : List Loser) (i : ℕ) (d : Loser) → i < length ls → undo_lines (all_finished (drop i ls)) ≡ undo_lines (all_finished (drop (suc i) ls)) ++ undo_line (finished_of (get_or ls i d))
undo_more ls i d lt = ap (λ rest. undo_lines (all_finished rest)) (drop-cons ls i d lt)

pub undo_about : (ls : List Loser) (i : ℕ) → undo_lines (all_finished ls) ≡ undo_lines (all_finished (drop i ls)) ++ undo_lines (all_finished (take i ls))
undo_about ls i =
    ap (λ xs. undo_lines (all_finished xs)) (sym (take-append-drop i ls)) ∙ ap undo_lines (map-append finished_of (take i ls) (drop i ls)) ∙ undo_append (all_finished (take i ls)) (all_finished (drop i ls))

pub not_zero : (n : ℕ) → (n ≡ 0 → ⊥) → (n == 0) ≡ false
not_zero n other = go (n == 0) refl
  where
    go : (t : Bool) → (n == 0) ≡ t → t ≡ false
    go true is = absurd (other ((Decides-eqb n 0).0 is))
    go false is = refl

-- the text of a history is that of its batches
pub text_is : (bs : List Batch) (h : History) → Recounts bs h → history_text h ≡ explained bs
text_is bs h outcome =
    ap (λ (x : List Batch). (numbered batch_lines 1 x ++ concat (map put_back_line h.unfinished.items)) ++ undo_lines (all_finished h.losers.items)) outcome.same
    ∙ ap (λ us. (numbered batch_lines 1 bs ++ concat (map put_back_line us)) ++ undo_lines (all_finished h.losers.items)) outcome.unfinished_reported
    ∙ ap (λ fs. (numbered batch_lines 1 bs ++ concat (map put_back_line (unfinished (joined (records_of bs))))) ++ undo_lines fs) outcome.losers_reported
