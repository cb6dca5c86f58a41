-- What is recorded of each transaction's calls, once either has changed.
use Rattle.std.proofs.Common.{◌≡◌, ◌≢◌, ⊎_elim, ℕ, zero, suc, ◌<◌, ◌≤◌, ◌==◌, ◌&&◌, ◌||◌, cond, not, Bool, true, false, List, [], ◌∷◌, ◌++◌, length, get_or, take, Option, Some, None, is_some, refl, sym, ap, ◌∙◌, subst, arith}
use Rattle.std.specs.Prelude.{All}
use Rattle.std.specs.Option.{option_map}
use Rattle.std.proofs.lemmas.Bool.{eq-eqb, eqb-true, ne_eqb, and_left, and_right, and_parts, or_from, cases_lt}
use Rattle.std.proofs.lemmas.List.{get_or_push, get_or_append_left, get_or-take, length_push, length-take-le}
use Rattle.std.proofs.lemmas.List.Elements.{All-push, All-take}
use Rattle.std.proofs.lemmas.List.Quantifiers.{all_pairs_push}
use Rattle.mt_area_rules.specs.History.{some_record, finishes, undoes_op, ends_op}
use Rattle.mt_frame.specs.declared.records.Record.{Record}
use Rattle.mt_frame.specs.declared.records.LoggedOp.{LoggedOp}
use Rattle.mt_frame.specs.declared.records.Record.TheVariants.{OpEnd}
use Rattle.mt_live.specs.Lives.{member_of, IsChanged}
use Rattle.mt_live.specs.Machine.{put}
use Rattle.mt_live.specs.Entries.{is_standing, is_forward}
use Rattle.mt_live.proofs.Ends.{length-set_role}
use Rattle.mt_live.specs.Members.{Noted, Member, fresh, with_noted, with_role_at, with_state, cut_at, has_inverse, later, last_place, count_noted, standing_count, forward_count, set_role, settle_calls, settled_at}
use Rattle.mt_live.specs.Roles.{settled_role, left_after}
use Rattle.mt_live.specs.declared.transactions.Role.{Role}
use Rattle.mt_live.specs.declared.transactions.Role.TheVariants.{Stands, TakenBack, Back}
use Rattle.mt_live.specs.declared.transactions.TxnState.TheVariants.{Open, Returning, Aborting}
use Rattle.mt_model.specs.Model.{inverse_of}
use Rattle.mt_model.specs.declared.operations.Op.{Op}
use Rattle.mt_model.specs.declared.operations.Op.TheVariants.{Get, Insert, Update, Delete, Add, Read, Scan}
use Rattle.mt_model.specs.declared.operations.Reply.{Reply}
use Rattle.mt_model.specs.declared.operations.Reply.TheVariants.{Done, Was}
use Rattle.mt_op.specs.Records.{end_with}
use Rattle.mt_pool.proofs.Logged.{no_records}
use Rattle.mt_steps.specs.Logged.{logged_of}
use Rattle.mt_core.specs.Consistent.{IsDue, IsReported, AreReported}

-- what did something is logged
logged_effect : (op : Op) (reply : Reply) → is_some (inverse_of op reply) ≡ true → is_some (logged_of op reply) ≡ true
logged_effect (Get r k) reply is = absurd cc
logged_effect (Insert r k v) Done is = refl
logged_effect (Update r k v) (Was old) is = refl
logged_effect (Delete r k) (Was old) is = refl
logged_effect (Add c d) Done is = refl
logged_effect (Read c) reply is = absurd cc
logged_effect (Scan r) reply is = absurd cc
logged_effect _ _ is = absurd cc

-- ---- records

pub some_more : (test : Record → Bool) (records rs : List Record) → some_record test records ≡ true → some_record test (records ++ rs) ≡ true
some_more test [] rs is = absurd cc
some_more test (r ∷ records) rs is = go (test r) refl is (λ k. some_more test records rs k)
  where
    go : (c : Bool) → test r ≡ c → (c || some_record test records) ≡ true → (some_record test records ≡ true → some_record test (records ++ rs) ≡ true) → (test r || some_record test (records ++ rs)) ≡ true
    go true at k rec = rw at refl
    go false at k rec = rw at (rec k)

-- records more that are no inverse of an operation
pub due_more : (t n : ℕ) (records rs : List Record) → some_record (undoes_op t n) rs ≡ false → IsDue records t n → IsDue (records ++ rs) t n
due_more t n records rs none k = record {
  ended = some_more (finishes t n) records rs k.ended;
  standing = no_records (undoes_op t n) records rs k.standing none;
}

-- an operation that has not ended has no inverse
pub unfinished_finishes : (t n : ℕ) (rs : List Record) → some_record (ends_op n) rs ≡ false → some_record (finishes t n) rs ≡ false
unfinished_finishes t n [] none = refl
unfinished_finishes t n (r ∷ rs) none = go r (ends_op n r) refl none (λ k. unfinished_finishes t n rs k)
  where
    within : (x : Record) → ends_op n x ≡ false → finishes t n x ≡ false
    within (OpEnd txn op undoes done) is = go_end (txn == t) (op == n) is
      where
        go_end : (a b : Bool) → b ≡ false → (a && (b && (undoes == 0))) ≡ false
        go_end true b k = ap (λ (x : Bool). x && (undoes == 0)) k
        go_end false b k = refl
    within _ is = refl

    go : (x : Record) (c : Bool) → ends_op n x ≡ c → (c || some_record (ends_op n) rs) ≡ false → (some_record (ends_op n) rs ≡ false → some_record (finishes t n) rs ≡ false) → (finishes t n x || some_record (finishes t n) rs) ≡ false
    go x true at k rec = absurd cc
    go x false at k rec = or_from (finishes t n x) (some_record (finishes t n) rs) (within x at) (rec k)

pub some_back : (test : Record → Bool) (records rs : List Record) → some_record test rs ≡ true → some_record test (records ++ rs) ≡ true
some_back test [] rs is = is
some_back test (r ∷ records) rs is = go (test r) (some_back test records rs is)
  where
    go : (c : Bool) → some_record test (records ++ rs) ≡ true → (c || some_record test (records ++ rs)) ≡ true
    go true rest = refl
    go false rest = rest

-- ---- the end of an operation

pub end_undoes_fore : (t n txn number undoes : ℕ) (o : Option LoggedOp) → undoes ≡ 0 → some_record (undoes_op t n) (end_with txn number undoes o) ≡ false
end_undoes_fore t n txn number undoes None fore = refl
end_undoes_fore t n txn number undoes (Some done) fore =
    let zero_is : (undoes == 0) ≡ true = eq-eqb undoes 0 fore in
    or_from ((txn == t) && ((undoes == n) && not (undoes == 0))) false (and_right (txn == t) ((undoes == n) && not (undoes == 0)) (and_right (undoes == n) (not (undoes == 0)) (rw zero_is refl))) refl

pub end_undoes_other : (t n txn number undoes : ℕ) (o : Option LoggedOp) → undoes ≢ n → some_record (undoes_op t n) (end_with txn number undoes o) ≡ false
end_undoes_other t n txn number undoes None apart = refl
end_undoes_other t n txn number undoes (Some done) apart =
    or_from ((txn == t) && ((undoes == n) && not (undoes == 0))) false (and_right (txn == t) ((undoes == n) && not (undoes == 0)) (and_left (undoes == n) (not (undoes == 0)) (ne_eqb undoes n apart))) refl

pub end_undoes_txn : (t n txn number undoes : ℕ) (o : Option LoggedOp) → txn ≢ t → some_record (undoes_op t n) (end_with txn number undoes o) ≡ false
end_undoes_txn t n txn number undoes None apart = refl
end_undoes_txn t n txn number undoes (Some done) apart =
    or_from ((txn == t) && ((undoes == n) && not (undoes == 0))) false (and_left (txn == t) ((undoes == n) && not (undoes == 0)) (ne_eqb txn t apart)) refl

-- one that did something has its end in the log
pub end_finishes : (txn number undoes : ℕ) (op : Op) (reply : Reply) → undoes ≡ 0 → is_some (inverse_of op reply) ≡ true → some_record (finishes txn number) (end_with txn number undoes (logged_of op reply)) ≡ true
end_finishes txn number undoes op reply fore effect = go (logged_of op reply) (logged_effect op reply effect)
  where
    go : (o : Option LoggedOp) → is_some o ≡ true → some_record (finishes txn number) (end_with txn number undoes o) ≡ true
    go None is = absurd cc
    go (Some done) is =
        let own : (txn == txn) ≡ true = eq-eqb txn txn refl in let this : (number == number) ≡ true = eq-eqb number number refl in let zero_is : (undoes == 0) ≡ true = eq-eqb undoes 0 fore in
        rw (own, this, zero_is) refl

-- ---- one transaction

-- a call more does not lessen how many have a role
counted_push : (p : Role → Bool) (cs : List Noted) (c : Noted) → count_noted p cs ≤ count_noted p (cs ++ c ∷ [])
counted_push p [] c = omega arith
counted_push p (x ∷ cs) c = go (p x.role) (counted_push p cs c)
  where
    go : (b : Bool) → count_noted p cs ≤ count_noted p (cs ++ c ∷ []) → cond b (suc (count_noted p cs)) (count_noted p cs) ≤ cond b (suc (count_noted p (cs ++ c ∷ []))) (count_noted p (cs ++ c ∷ []))
    go true less = omega (arith, less)
    go false less = less

-- nor does it matter where it is
counted_more : (p : Role → Bool) (cs : List Noted) (c : Noted) → count_noted p (cs ++ c ∷ []) ≡ count_noted p (c ∷ cs)
counted_more p [] c = refl
counted_more p (x ∷ cs) c = ap (λ n. cond (p x.role) (suc n) n) (counted_more p cs c) ∙ go (p x.role) (p c.role)
  where
    go : (a b : Bool) → cond a (suc (cond b (suc (count_noted p cs)) (count_noted p cs))) (cond b (suc (count_noted p cs)) (count_noted p cs))
        ≡ cond b (suc (cond a (suc (count_noted p cs)) (count_noted p cs))) (cond a (suc (count_noted p cs)) (count_noted p cs))
    go true true = refl
    go true false = refl
    go false true = refl
    go false false = refl

-- some of the calls are no more than all
counted_take : (p : Role → Bool) (n : ℕ) (cs : List Noted) → count_noted p (take n cs) ≤ count_noted p cs
counted_take p zero cs = omega arith
counted_take p (suc n) [] = omega arith
counted_take p (suc n) (c ∷ cs) = go (p c.role) (counted_take p n cs)
  where
    go : (b : Bool) → count_noted p (take n cs) ≤ count_noted p cs → cond b (suc (count_noted p (take n cs))) (count_noted p (take n cs)) ≤ cond b (suc (count_noted p cs)) (count_noted p cs)
    go true less = omega (arith, less)
    go false less = less

-- records more that take back no operation of it
pub reported_on_more : (last : ℕ) (records rs : List Record) (t : ℕ) (m : Member) → ((n : ℕ) → some_record (undoes_op t n) rs ≡ false) → IsReported last records t m → IsReported last (records ++ rs) t m
reported_on_more last records rs t m none k = record {
  many = k.many;
  numbers = k.numbers;
  rising = k.rising;
  due = λ i c lt there has. due_more t (get_or m.operations i 0) records rs (none (get_or m.operations i 0)) (k.due i c lt there has);
  firsts = k.firsts;
  few = k.few;
}

pub reported_fresh : (last : ℕ) (records : List Record) (t u session : ℕ) → IsReported last records t (fresh u session)
reported_fresh last records t u session = record { many = refl; numbers = λ i d lt. absurd (omega (arith, lt)); rising = λ i j d less lt. absurd (omega (arith, lt)); due = λ i c lt. absurd (omega (arith, lt)); firsts = λ first is. absurd cc; few = omega arith }

-- a call more, of a number above the others
pub reported_call : (last : ℕ) (records : List Record) (t n : ℕ) (m : Member) (c : Noted) → IsReported last records t m → All (λ x. x < n) m.operations → 1 ≤ n → n ≤ last → forward_count (c ∷ m.calls) ≤ 256 → (has_inverse c ≡ true → IsDue records t n) → IsReported last records t (with_noted m n c)
reported_call last records t n m c k below some low room due =
    let calls = length_push m.calls c in let numbers = length_push m.operations n in let many = k.many in
    record {
      many = omega arith;
      numbers = All-push (λ x. (1 ≤ x) × (x ≤ last)) m.operations n k.numbers (some, low);
      rising = all_pairs_push (λ a b. a < b) m.operations n k.rising below;
      due = λ i d lt there has. ⊎_elim
          (λ (less : i < length m.calls).
          let short : i < length m.operations = omega arith in
          let was : d ≡ get_or m.calls i d = there ∙ get_or_append_left m.calls (c ∷ []) d i less in
          subst (λ x. IsDue records t x) (sym (get_or_append_left m.operations (n ∷ []) 0 i short)) (k.due i d less was has))
          (λ (more : length m.calls ≤ i).
          let at : length m.calls ≡ i = omega (arith, lt) in
          let here : length m.operations ≡ i = omega arith in
          let own : d ≡ c = there ∙ get_or_push m.calls c d i at in
          subst (λ x. IsDue records t x) (sym (get_or_push m.operations n 0 i here)) (due (ap has_inverse (sym own) ∙ has)))
          (cases_lt i (length m.calls));
      firsts = λ first is. let few = k.firsts first is in let more = counted_push is_standing m.calls c in omega (arith, few, more);
      few = let more = counted_more is_forward m.calls c in omega (arith, more, room);
    }

-- the first calls alone, over records behind these that have them
pub reported_cut : (last : ℕ) (was records : List Record) (t n : ℕ) (m : Member) → m.state ≡ Aborting → IsReported last was t m → n < length m.calls → ((i : ℕ) → get_or m.operations i 0 < get_or m.operations n 0 → IsDue was t (get_or m.operations i 0) → IsDue records t (get_or m.operations i 0))
    → IsReported last records t (cut_at m n)
reported_cut last was records t n m aborting k within later =
    let calls = length-take-le n m.calls (omega (arith, within)) in
    let many = k.many in
    let numbers = length-take-le n m.operations (omega (arith, within)) in
    record {
      many = omega arith;
      numbers = All-take (λ x. (1 ≤ x) × (x ≤ last)) n m.operations k.numbers;
      rising = λ i j d less lt.
          let short : j < n = omega (arith, lt) in
          let shorter : i < n = omega (arith, less) in
          subst (λ (X : Type 0). X) (λ e. sym (get_or-take n m.operations i d shorter) e < sym (get_or-take n m.operations j d short) e) (k.rising i j d less (omega arith));
      due = λ i d lt there has.
          let short : i < n = omega (arith, lt) in
          let was_there : d ≡ get_or m.calls i d = there ∙ get_or-take n m.calls i d short in
          let below : get_or m.operations i 0 < get_or m.operations n 0 = k.rising i n 0 short (omega arith) in
          subst (λ x. IsDue records t x) (sym (get_or-take n m.operations i 0 short)) (later i below (k.due i d (omega arith) was_there has));
      firsts = λ first is. let not : Aborting ≡ Returning first = sym aborting ∙ is in absurd cc;
      few = let less = counted_take is_forward n m.calls in let all = k.few in omega (arith, less, all);
    }

-- ---- one that goes back

-- what still did something once a call is marked as taken back is another call
marked_at : (cs : List Noted) (p i : ℕ) (c : Noted) → i < length (set_role cs p TakenBack) → c ≡ get_or (set_role cs p TakenBack) i c → has_inverse c ≡ true → (i ≢ p) × (i < length cs) × (c ≡ get_or cs i c)
marked_at [] p i c lt there has = absurd (omega (arith, lt))
marked_at (x ∷ cs) zero zero c lt there has = let none : has_inverse c ≡ false = ap has_inverse there in absurd cc
marked_at (x ∷ cs) zero (suc i) c lt there has = ((λ is. absurd cc), lt, there)
marked_at (x ∷ cs) (suc p) zero c lt there has = ((λ is. absurd cc), omega arith, there)
marked_at (x ∷ cs) (suc p) (suc i) c lt there has =
    let rest = marked_at cs p i c (omega (arith, lt)) there has in ((λ is. rest.0 (omega (arith, is))), omega (arith, rest.1), rest.2)

marked_count : (cs : List Noted) (p : ℕ) → standing_count (take p cs) ≤ standing_count (set_role cs p TakenBack)
marked_count [] zero = omega arith
marked_count [] (suc p) = omega arith
marked_count (c ∷ cs) zero = omega arith
marked_count (c ∷ cs) (suc p) = go (is_standing c.role) (marked_count cs p)
  where
    go : (b : Bool) → standing_count (take p cs) ≤ standing_count (set_role cs p TakenBack)
        → cond b (suc (standing_count (take p cs))) (standing_count (take p cs)) ≤ cond b (suc (standing_count (set_role cs p TakenBack))) (standing_count (set_role cs p TakenBack))
    go true less = omega (arith, less)
    go false less = less

-- what stood is no inverse
marked_forward : (cs : List Noted) (p : ℕ) → last_place cs ≡ Some p → forward_count (set_role cs p TakenBack) ≡ forward_count cs
marked_forward [] p is = absurd cc
marked_forward (c ∷ cs) p is = go (last_place cs) refl (has_inverse c) refl is (λ n at. marked_forward cs n at)
  where
    stood : (r : Role) → is_standing r ≡ true → is_forward r ≡ true
    stood Stands h = refl
    stood TakenBack h = absurd cc
    stood Back h = absurd cc

    go : (o : Option ℕ) → last_place cs ≡ o → (h : Bool) → has_inverse c ≡ h → later o h ≡ Some p → ((n : ℕ) → last_place cs ≡ Some n → forward_count (set_role cs n TakenBack) ≡ forward_count cs)
        → forward_count (set_role (c ∷ cs) p TakenBack) ≡ forward_count (c ∷ cs)
    go (Some n) at h here k rec = let same : suc n ≡ p = cc in subst (λ (x : ℕ). forward_count (set_role (c ∷ cs) x TakenBack) ≡ forward_count (c ∷ cs)) same (ap (λ x. cond (is_forward c.role) (suc x) x) (rec n at))
    go None at true here k rec =
        let same : 0 ≡ p = cc in
        let own : is_forward c.role ≡ true = stood c.role (and_parts (is_standing c.role) (is_some (inverse_of c.op c.reply)) here).0 in
        subst (λ (x : ℕ). forward_count (set_role (c ∷ cs) x TakenBack) ≡ forward_count (c ∷ cs)) same (ap (λ b. cond b (suc (forward_count cs)) (forward_count cs)) (sym own))
    go None at false here k rec = absurd cc

-- the last that did something is taken back, over records that have all others
pub reported_mark : (last : ℕ) (was records : List Record) (t p : ℕ) (m : Member) → IsReported last was t m → last_place m.calls ≡ Some p → p < length m.calls → ((first : ℕ) → m.state ≡ Returning first → first ≤ standing_count (take p m.calls))
    → ((n : ℕ) → n ≢ get_or m.operations p 0 → IsDue was t n → IsDue records t n) → IsReported last records t (with_role_at m p TakenBack)
reported_mark last was records t p m k at within firsts later =
    let size = length-set_role m.calls p TakenBack in let many = k.many in
    record {
      many = omega (arith, size, many);
      numbers = k.numbers;
      rising = k.rising;
      due = λ i c lt there has.
          let other = marked_at m.calls p i c lt there has in
          later (get_or m.operations i 0) (apart i other.0 other.1) (k.due i c other.1 other.2 has);
      firsts = λ first is. let few = firsts first is in let kept = marked_count m.calls p in omega (arith, few, kept);
      few = let same = marked_forward m.calls p at in let all = k.few in omega (arith, same, all);
    }
  where
    apart : (i : ℕ) → i ≢ p → i < length m.calls → get_or m.operations i 0 ≢ get_or m.operations p 0
    apart i other lt is =
        let many = k.many in
        ⊎_elim (λ (less : i < p). let below = k.rising i p 0 less (omega (arith, within, many)) in omega (arith, below, is))
        (λ (more : p ≤ i). ⊎_elim (λ (less : p < i). let below = k.rising p i 0 less (omega (arith, lt, many)) in omega (arith, below, is)) (λ (low : i ≤ p). other (omega (arith, more, low))) (cases_lt p i)) (cases_lt i p)

-- what still did something once calls are settled is as it was
settled_at_all : (n : ℕ) (cs : List Noted) (i : ℕ) (c : Noted) → c ≡ get_or (settle_calls n cs) i c → i < length cs → has_inverse c ≡ true → c ≡ get_or cs i c
settled_at_all n [] i c there lt has = absurd (omega (arith, lt))
settled_at_all n (x ∷ cs) zero c there lt has = there ∙ same
  where
    role_same : (k : ℕ) (r : Role) → is_standing (settled_role k r) ≡ true → settled_role k r ≡ r
    role_same zero Stands is = absurd cc
    role_same zero TakenBack is = refl
    role_same zero Back is = refl
    role_same (suc k) r is = refl

    same : record x { role = settled_role n x.role } ≡ x
    same =
        let stands : is_standing (settled_role n x.role) ≡ true = (and_parts (is_standing (settled_role n x.role)) (is_some (inverse_of x.op x.reply)) (ap has_inverse (sym there) ∙ has)).0 in
        ap (λ (r : Role). record x { role = r }) (role_same n x.role stands)
settled_at_all n (x ∷ cs) (suc i) c there lt has = settled_at_all (left_after n x.role) cs i c there (omega (arith, lt)) has

pub length_settle : (n : ℕ) (cs : List Noted) → length (settle_calls n cs) ≡ length cs
length_settle n [] = refl
length_settle n (c ∷ cs) = ap suc (length_settle (left_after n c.role) cs)

settled_forward : (n : ℕ) (cs : List Noted) → forward_count (settle_calls n cs) ≡ forward_count cs
settled_forward n [] = refl
settled_forward n (c ∷ cs) = (λ i. cond (same n c.role i) (suc (settled_forward (left_after n c.role) cs i)) (settled_forward (left_after n c.role) cs i))
  where
    same : (k : ℕ) (r : Role) → is_forward (settled_role k r) ≡ is_forward r
    same zero Stands = refl
    same zero TakenBack = refl
    same zero Back = refl
    same (suc k) r = refl

-- the calls after the first so many are taken back, and their transaction is open
pub reported_settled : (last : ℕ) (records : List Record) (t n : ℕ) (m : Member) → IsReported last records t m → IsReported last records t (with_state (settled_at n m) Open)
reported_settled last records t n m k =
    let size = length_settle n m.calls in let many = k.many in
    record {
      many = omega (arith, size, many);
      numbers = k.numbers;
      rising = k.rising;
      due = λ i c lt there has. let short : i < length m.calls = omega (arith, lt, size) in k.due i c short (settled_at_all n m.calls i c there short has) has;
      firsts = λ first is. absurd cc;
      few = let same = settled_forward n m.calls in let all = k.few in omega (arith, same, all);
    }

-- ---- all of them

-- records more that are no inverse, with room for numbers to come
pub reported_more : (last more : ℕ) (ms : List Member) (records rs : List Record) → last ≤ more → ((t n : ℕ) → n ≤ last → some_record (undoes_op t n) rs ≡ false) → AreReported last ms records → AreReported more ms (records ++ rs)
reported_more last more ms records rs less none outcome t m is = let k = outcome t m is in record {
  many = k.many;
  numbers = λ i d lt. let was = k.numbers i d lt in (was.0, omega (arith, less, was));
  rising = k.rising;
  due = λ i c lt there has. let many = k.many in let low = (k.numbers i 0 (omega arith)).1 in due_more t (get_or m.operations i 0) records rs (none t (get_or m.operations i 0) low) (k.due i c lt there has);
  firsts = k.firsts;
  few = k.few;
}

pub reported_last : (last more : ℕ) (ms : List Member) (records : List Record) → last ≤ more → AreReported last ms records → AreReported more ms records
reported_last last more ms records less outcome t m is = let k = outcome t m is in record {
  many = k.many;
  numbers = λ i d lt. let was = k.numbers i d lt in (was.0, omega (arith, less, was));
  rising = k.rising;
  due = k.due;
  firsts = k.firsts;
  few = k.few;
}

-- one transaction has changed, and perhaps the records
pub reported_changed : (last : ℕ) (was records : List Record) (old new : List Member) (t : ℕ) (f : Member → Member) → ((m : Member) → member_of old t ≡ Some m → IsReported last was t m → IsReported last records t (f m)) → ((u : ℕ) (m : Member) → u ≢ t → IsReported last was u m → IsReported last records u m)
    → IsChanged old new t f → AreReported last old was → AreReported last new records
reported_changed last was records old new t f own others changed outcome u m is = go (u == t) refl (sym (changed u) ∙ is)
  where
    mine : (o : Option Member) → member_of old t ≡ o → option_map f o ≡ Some m → IsReported last records t m
    mine None at k = absurd cc
    mine (Some x) at k = let same : f x ≡ m = cc in subst (IsReported last records t) same (own x at (outcome t x at))

    go : (c : Bool) → (u == t) ≡ c → cond c (option_map f (member_of old t)) (member_of old u) ≡ Some m → IsReported last records u m
    go true at k = subst (λ (v : ℕ). IsReported last records v m) (sym (eqb-true u t at)) (mine (member_of old t) refl k)
    go false at k = others u m (λ e. let y : (u == t) ≡ true = eq-eqb u t e in cc) (outcome u m k)

-- one has come or gone
pub reported_put : (last : ℕ) (records : List Record) (old new : List Member) (t : ℕ) (x : Option Member) → ((m : Member) → x ≡ Some m → IsReported last records t m) → ((u : ℕ) → member_of new u ≡ put (member_of old) t x u) → AreReported last old records → AreReported last new records
reported_put last records old new t x own put_there outcome u m is = go (u == t) refl (sym (put_there u) ∙ is)
  where
    go : (c : Bool) → (u == t) ≡ c → cond c x (member_of old u) ≡ Some m → IsReported last records u m
    go true at k = subst (λ (v : ℕ). IsReported last records v m) (sym (eqb-true u t at)) (own m k)
    go false at k = outcome u m k
