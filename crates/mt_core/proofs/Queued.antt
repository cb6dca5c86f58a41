-- The commits under way, once a transaction or the records have changed.
use Rattle.std.proofs.Common.{◌≡◌, ◌≢◌, ℕ, ◌<◌, ◌+◌, ◌-◌, ◌==◌, ◌||◌, Bool, true, false, List, [], ◌∷◌, ◌++◌, length, get_or, Some, refl, sym, ◌∙◌, subst, arith}
use Rattle.std.specs.List.{list_any}
use Rattle.std.proofs.lemmas.Bool.{eq-eqb, eqb-true, ne_eqb}
use Rattle.std.proofs.lemmas.List.Folds.{list_any-append}
use Rattle.std.proofs.lemmas.List.{get_or_push, get_or_append_left, length_push, length-append}
use Rattle.std.proofs.lemmas.List.Elements.{All-push, All-tail}
use Rattle.std.proofs.lemmas.List.Quantifiers.{all_pairs_push}
use Rattle.mt_frame.specs.declared.records.Record.{Record}
use Rattle.mt_frame.specs.declared.records.Record.TheVariants as record_of
use Rattle.mt_live.specs.Members.{Member}
use Rattle.mt_live.specs.declared.transactions.TxnState.TheVariants.{Committing}
use Rattle.mt_core.specs.Consistent.{state_in, IsPlaced, IsQueued}
use Rattle.mt_core.specs.declared.parts.Commit.{Commit}
use Rattle.mt_core.proofs.Lists.{pairs_head, pairs_tail}

pub placed_more : (records rs : List Record) (c : Commit) → IsPlaced records c → IsPlaced (records ++ rs) c
placed_more records rs c k = let more = length-append records rs in let low = k.some in let high = k.within in record {
  some = k.some;
  within = omega arith;
  there = λ d. get_or_append_left records rs d (c.place - 1) (omega arith) ∙ k.there d;
}

-- whatever is appended, and where each that commits, and no other, does so as before
pub queued_more : (old new : List Member) (records rs : List Record) (cs : List Commit) → ((t : ℕ) → state_in old t ≡ Some Committing → state_in new t ≡ Some Committing) → ((t : ℕ) → state_in new t ≡ Some Committing → state_in old t ≡ Some Committing)
    → IsQueued old records cs → IsQueued new (records ++ rs) cs
queued_more old new records rs cs stay were k = record {
  each = λ i d lt. stay (get_or cs i d).txn (k.each i d lt);
  all = λ t is. k.all t (were t is);
  apart = k.apart;
  rising = k.rising;
  placed = λ i d lt. placed_more records rs (get_or cs i d) (k.placed i d lt);
}

pub queued_members : (old new : List Member) (records : List Record) (cs : List Commit) → ((t : ℕ) → state_in old t ≡ Some Committing → state_in new t ≡ Some Committing) → ((t : ℕ) → state_in new t ≡ Some Committing → state_in old t ≡ Some Committing)
    → IsQueued old records cs → IsQueued new records cs
queued_members old new records cs stay were k = record {
  each = λ i d lt. stay (get_or cs i d).txn (k.each i d lt);
  all = λ t is. k.all t (were t is);
  apart = k.apart;
  rising = k.rising;
  placed = k.placed;
}

pub queued_records : (ms : List Member) (records rs : List Record) (cs : List Commit) → IsQueued ms records cs → IsQueued ms (records ++ rs) cs
queued_records ms records rs cs k = queued_more ms ms records rs cs (λ t is. is) (λ t is. is) k

-- one more commits, with its record
pub queued_push : (old new : List Member) (records : List Record) (cs : List Commit) (c : Commit) → c.place ≡ length records + 1 → (state_in old c.txn ≡ Some Committing → ⊥) → state_in new c.txn ≡ Some Committing → ((t : ℕ) → t ≢ c.txn → state_in new t ≡ state_in old t)
    → IsQueued old records cs → IsQueued new (records ++ record_of.Commit c.txn ∷ []) (cs ++ c ∷ [])
queued_push old new records cs c place was now others k =
    let apart : (i : ℕ) (d : Commit) → i < length cs → (get_or cs i d).txn ≢ c.txn = λ i d lt is. was (subst (λ (t : ℕ). state_in old t ≡ Some Committing) is (k.each i d lt)) in
    let more = length_push records (record_of.Commit c.txn) in
    let mine : IsPlaced (records ++ record_of.Commit c.txn ∷ []) c = record { some = omega arith; within = omega arith; there = λ d. get_or_push records (record_of.Commit c.txn) d (c.place - 1) (omega arith) } in
    record {
      each = All-push (λ (x : Commit). state_in new x.txn ≡ Some Committing) cs c (λ i d lt. others (get_or cs i d).txn (apart i d lt) ∙ k.each i d lt) now;
      all = λ t is. go t (t == c.txn) refl is;
      apart = all_pairs_push (λ (a b : Commit). a.txn ≢ b.txn) cs c k.apart apart;
      rising = all_pairs_push (λ (a b : Commit). a.place < b.place) cs c k.rising (λ i d lt. let high = (k.placed i d lt).within in omega arith);
      placed = All-push (IsPlaced (records ++ record_of.Commit c.txn ∷ [])) cs c (λ i d lt. placed_more records (record_of.Commit c.txn ∷ []) (get_or cs i d) (k.placed i d lt)) mine;
    }
  where
    or_true : (a : Bool) → (a || true) ≡ true
    or_true true = refl
    or_true false = refl

    go : (t : ℕ) (b : Bool) → (t == c.txn) ≡ b → state_in new t ≡ Some Committing → list_any (λ (x : Commit). x.txn == t) (cs ++ c ∷ []) ≡ true
    go t true at is =
        let own : (c.txn == t) ≡ true = eq-eqb c.txn t (sym (eqb-true t c.txn at)) in
        list_any-append (λ (x : Commit). x.txn == t) cs (c ∷ []) ∙ (rw own (or_true (list_any (λ (x : Commit). x.txn == t) cs)))
    go t false at is =
        let there = k.all t (sym (others t (λ e. let y : (t == c.txn) ≡ true = eq-eqb t c.txn e in cc)) ∙ is) in
        list_any-append (λ (x : Commit). x.txn == t) cs (c ∷ []) ∙ rw there refl

-- the first of them has gone, with its transaction
pub queued_first : (old new : List Member) (records : List Record) (c : Commit) (cs : List Commit) → (state_in new c.txn ≡ Some Committing → ⊥) → ((t : ℕ) → t ≢ c.txn → state_in new t ≡ state_in old t)
    → IsQueued old records (c ∷ cs) → IsQueued new records cs
queued_first old new records c cs gone others k =
    let apart : (i : ℕ) (d : Commit) → i < length cs → (get_or cs i d).txn ≢ c.txn = λ i d lt is. pairs_head (λ (a b : Commit). a.txn ≢ b.txn) c cs k.apart i d lt (sym is) in
    record {
      each = λ i d lt. others (get_or cs i d).txn (apart i d lt) ∙ All-tail (λ (x : Commit). state_in old x.txn ≡ Some Committing) c cs k.each i d lt;
      all = λ t is. go t (t == c.txn) refl is;
      apart = pairs_tail (λ (a b : Commit). a.txn ≢ b.txn) c cs k.apart;
      rising = pairs_tail (λ (a b : Commit). a.place < b.place) c cs k.rising;
      placed = All-tail (IsPlaced records) c cs k.placed;
    }
  where
    go : (t : ℕ) (b : Bool) → (t == c.txn) ≡ b → state_in new t ≡ Some Committing → list_any (λ (x : Commit). x.txn == t) cs ≡ true
    go t true at is = absurd (gone (subst (λ (u : ℕ). state_in new u ≡ Some Committing) (eqb-true t c.txn at) is))
    go t false at is =
        let apart : t ≢ c.txn = λ e. let y : (t == c.txn) ≡ true = eq-eqb t c.txn e in cc in
        let away : (c.txn == t) ≡ false = ne_eqb c.txn t (λ e. apart (sym e)) in
        let there = k.all t (sym (others t apart) ∙ is) in
        sym (rw away refl) ∙ there
