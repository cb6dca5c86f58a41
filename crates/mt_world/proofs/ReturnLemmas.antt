-- What counts of a transaction's entries, and what its going back does to them.
use Rattle.std.proofs.Common.{◌≡◌, ◌≢◌, ◌≤◌, ◌+◌, ◌==◌, ◌&&◌, ℕ, Bool, true, false, cond, zero, suc, List, [], ◌∷◌, ◌++◌, length, filter, take, drop, Option, Some, None, is_some, refl, ap, ap₂, sym, subst, ◌∙◌, append_assoc, append-nil, length-append, arith}
use Rattle.std.specs.Option.{option_map, option_to_list}
use Rattle.std.proofs.lemmas.Bool.{and_parts, eqb-true, ne_eqb}
use Rattle.std.proofs.lemmas.List.{drop-append-le, map-append, take-append-le}
use Rattle.std.proofs.lemmas.List.Elements.{filter-append}
use Rattle.mt_core.proofs.Finding.{acted_last}
use Rattle.mt_live.proofs.AddLemmas.{eq_self}
use Rattle.mt_live.proofs.Ballots.{kept-append}
use Rattle.mt_live.proofs.Cuts.{Cut, IsIdle, cut_of, idle_all, stands_from}
use Rattle.mt_live.proofs.Settling.{eased_calls, eased_kept, settled_eased}
use Rattle.mt_live.specs.Entries.{Entry, calls, is_standing, kept, with_role}
use Rattle.mt_live.specs.Machine.{State, IsKept}
use Rattle.mt_live.specs.Sound.{Each}
use Rattle.mt_live.specs.Undoing.{after_first, is_counted, is_effect, last_effect, last_of, mark_all, mark_last, only, settle_after}
use Rattle.mt_live.specs.declared.transactions.Role.{Role}
use Rattle.mt_live.specs.declared.transactions.Role.TheVariants.{Stands, TakenBack, Back}
use Rattle.mt_model.proofs.Returns.{reply_back_is}
use Rattle.mt_model.specs.Backwards.{call_back, calls_back, inverse_reply}
use Rattle.mt_model.specs.History.{Call}
use Rattle.mt_model.specs.Model.{Base, inverse_of, reply_of}
use Rattle.mt_model.specs.declared.operations.Op.{Op}
use Rattle.mt_model.specs.declared.operations.Reply.{Reply}

-- ---- calls taken back

pub backs_append : (xs ys : List Call) → calls_back (xs ++ ys) ≡ calls_back ys ++ calls_back xs
backs_append [] ys = sym (append-nil (calls_back ys))
backs_append (x ∷ xs) ys = ap (λ (cs : List Call). cs ++ option_to_list (call_back x)) (backs_append xs ys) ∙ append_assoc (calls_back ys) (calls_back xs) (option_to_list (call_back x))

back_of : (op : Op) (reply : Reply) (i : Op) → inverse_of op reply ≡ Some i → option_to_list (call_back (op, reply)) ≡ (i, inverse_reply op) ∷ []
back_of op reply i is = ap (λ (o : Option Op). option_to_list (option_map (λ (j : Op). (j, inverse_reply op)) o)) is

no_back : (op : Op) (reply : Reply) → inverse_of op reply ≡ None → option_to_list (call_back (op, reply)) ≡ []
no_back op reply none = ap (λ (o : Option Op). option_to_list (option_map (λ (j : Op). (j, inverse_reply op)) o)) none

-- the last of some calls that did anything is taken back: what is still to be taken back after the first so many begins with its inverse
pub record IsNextBack (n : ℕ) (i : Call) (before after : List Call) : Type 0 where
  pub back : calls_back (drop n before) ≡ i ∷ calls_back (drop n after)
  pub first : take n after ≡ take n before

pub next_back : (n : ℕ) (front rest : List Call) (op i : Op) (reply : Reply) → n ≤ length front → calls_back rest ≡ [] → inverse_of op reply ≡ Some i → IsNextBack n (i, inverse_reply op) (front ++ (op, reply) ∷ rest) (front ++ rest)
next_back n front rest op i reply le none is = record {
  back =
      ap calls_back (drop-append-le n front ((op, reply) ∷ rest) le) ∙ backs_append (drop n front) ((op, reply) ∷ rest)
      ∙ ap₂ (λ (xs ys : List Call). (xs ++ ys) ++ calls_back (drop n front)) none (back_of op reply i is)
      ∙ ap (λ (cs : List Call). (i, inverse_reply op) ∷ cs) (sym after);
  first = take-append-le n front rest le ∙ sym (take-append-le n front ((op, reply) ∷ rest) le);
}
  where
    after : calls_back (drop n (front ++ rest)) ≡ calls_back (drop n front)
    after = ap calls_back (drop-append-le n front rest le) ∙ backs_append (drop n front) rest ∙ ap (λ (cs : List Call). cs ++ calls_back (drop n front)) none

-- ---- what counts

abbrev pub counting : ℕ → List Entry → List Entry
counting t es = filter (is_counted t) es

abbrev pub counting_calls : ℕ → List Entry → List Call
counting_calls t es = calls (counting t es)

none_and : (a : Bool) → a && false ≡ false
none_and true = refl
none_and false = refl

-- they are among the transaction's own
pub counting_kept : (t : ℕ) (es : List Entry) → counting t es ≡ filter (λ (e : Entry). is_standing e.role) (kept (only t) es)
counting_kept t [] = refl
counting_kept t (e ∷ es) = go (e.txn == t) (counting_kept t es)
  where
    go : (b : Bool) → counting t es ≡ filter (λ (e : Entry). is_standing e.role) (kept (only t) es)
        → cond (b && is_standing e.role) (e ∷ counting t es) (counting t es) ≡ filter (λ (e : Entry). is_standing e.role) (cond b (e ∷ kept (only t) es) (kept (only t) es))
    go true rest = ap (λ (fs : List Entry). cond (is_standing e.role) (e ∷ fs) fs) rest
    go false rest = rest

its_own : (t : ℕ) (e : Entry) → is_counted t e ≡ true → (e.txn ≡ t) × (e.role ≡ Stands)
its_own t e is = let parts = and_parts (e.txn == t) (is_standing e.role) is in (eqb-true e.txn t parts.0, stands_from e.role parts.1)

-- an entry of another role does not
apart_role : (t : ℕ) (e : Entry) → is_standing e.role ≡ false → is_counted t e ≡ false
apart_role t e is = ap (λ (b : Bool). (e.txn == t) && b) is ∙ none_and (e.txn == t)

-- what did nothing has nothing to be taken back
pub idle_backs : (t : ℕ) (es : List Entry) → Each (IsIdle t) es → calls_back (counting_calls t es) ≡ []
idle_backs t [] idle = refl
idle_backs t (e ∷ es) idle = go (is_counted t e) refl (idle_backs t es idle.1)
  where
    go : (b : Bool) → is_counted t e ≡ b → calls_back (counting_calls t es) ≡ [] → calls_back (calls (cond b (e ∷ counting t es) (counting t es))) ≡ []
    go true is rest = let own = its_own t e is in ap₂ (λ (xs ys : List Call). xs ++ ys) rest (no_back e.op e.reply (idle.0 own.0 own.1))
    go false is rest = rest

pub counting_append : (t : ℕ) (es fs : List Entry) → counting_calls t (es ++ fs) ≡ counting_calls t es ++ counting_calls t fs
counting_append t es fs = ap calls (filter-append (is_counted t) es fs) ∙ map-append (λ (e : Entry). (e.op, e.reply)) (counting t es) (counting t fs)

counting_one : (t : ℕ) (e : Entry) (es : List Entry) → is_counted t e ≡ true → counting_calls t (e ∷ es) ≡ (e.op, e.reply) ∷ counting_calls t es
counting_one t e es is = ap (λ (b : Bool). calls (cond b (e ∷ counting t es) (counting t es))) is

counting_none : (t : ℕ) (e : Entry) (es : List Entry) → is_counted t e ≡ false → counting_calls t (e ∷ es) ≡ counting_calls t es
counting_none t e es is = ap (λ (b : Bool). calls (cond b (e ∷ counting t es) (counting t es))) is

-- ---- after the first so many

pub counting_after : (t n : ℕ) (es : List Entry) → counting_calls t (after_first t n es) ≡ drop n (counting_calls t es)
counting_after t zero [] = refl
counting_after t (suc n) [] = refl
counting_after t zero (e ∷ es) = refl
counting_after t (suc n) (e ∷ es) = go (is_counted t e) (counting_after t n es) (counting_after t (suc n) es)
  where
    go : (b : Bool) → counting_calls t (after_first t n es) ≡ drop n (counting_calls t es) → counting_calls t (after_first t (suc n) es) ≡ drop (suc n) (counting_calls t es)
        → counting_calls t (cond b (after_first t n es) (after_first t (suc n) es)) ≡ drop (suc n) (calls (cond b (e ∷ counting t es) (counting t es)))
    go true less same = less
    go false less same = same

each_after : (t n : ℕ) (es : List Entry) → Each (IsIdle t) es → Each (IsIdle t) (after_first t n es)
each_after t zero [] idle = tt
each_after t (suc n) [] idle = tt
each_after t zero (e ∷ es) idle = idle
each_after t (suc n) (e ∷ es) idle = go (is_counted t e) (each_after t n es idle.1) (each_after t (suc n) es idle.1)
  where
    go : (b : Bool) → Each (IsIdle t) (after_first t n es) → Each (IsIdle t) (after_first t (suc n) es) → Each (IsIdle t) (cond b (after_first t n es) (after_first t (suc n) es))
    go true less same = less
    go false less same = same

no_effect : (t : ℕ) (es : List Entry) → Each (IsIdle t) es → last_effect t es ≡ None
no_effect t [] idle = refl
no_effect t (e ∷ es) idle = ap (λ (o : Option Entry). last_of o (is_effect t e) e) (no_effect t es idle.1) ∙ ap (λ (b : Bool). cond b (Some e) None) (go (is_counted t e) refl)
  where
    go : (b : Bool) → is_counted t e ≡ b → b && is_some (inverse_of e.op e.reply) ≡ false
    go true is = let own = its_own t e is in ap is_some (idle.0 own.0 own.1)
    go false is = refl

-- an effect is after the first so many only if as many count before it
comes_after : (t n : ℕ) (front : List Entry) (last : Entry) (rest : List Entry) → is_counted t last ≡ true → Each (IsIdle t) rest → is_some (last_effect t (after_first t n (front ++ last ∷ rest))) ≡ true → n ≤ length (counting_calls t front)
comes_after t zero [] last rest counts idle there = omega arith
comes_after t (suc n) [] last rest counts idle there =
    let after : after_first t (suc n) (last ∷ rest) ≡ after_first t n rest = ap (λ (b : Bool). cond b (after_first t n rest) (after_first t (suc n) rest)) counts in
    let none : is_some (last_effect t (after_first t (suc n) (last ∷ rest))) ≡ false = ap (λ (es : List Entry). is_some (last_effect t es)) after ∙ ap is_some (no_effect t (after_first t n rest) (each_after t n rest idle)) in
    absurd (let wrong : true ≡ false = sym there ∙ none in cc)
comes_after t zero (e ∷ front) last rest counts idle there = omega arith
comes_after t (suc n) (e ∷ front) last rest counts idle there = go (is_counted t e) there (λ h. comes_after t n front last rest counts idle h) (λ h. comes_after t (suc n) front last rest counts idle h)
  where
    go : (b : Bool) → is_some (last_effect t (cond b (after_first t n (front ++ last ∷ rest)) (after_first t (suc n) (front ++ last ∷ rest)))) ≡ true
        → (is_some (last_effect t (after_first t n (front ++ last ∷ rest))) ≡ true → n ≤ length (counting_calls t front))
        → (is_some (last_effect t (after_first t (suc n) (front ++ last ∷ rest))) ≡ true → suc n ≤ length (counting_calls t front))
        → suc n ≤ length (calls (cond b (e ∷ counting t front) (counting t front)))
    go true h less same = let le = less h in omega (arith, le)
    go false h less same = same h

-- ---- one is taken back

module _ (t : ℕ) (es : List Entry) (last : Entry) (i : Op) (b : Entry) (role : b.role ≡ Back) (effect : last_effect t es ≡ Some last) (inverts : inverse_of last.op last.reply ≡ Some i) where
  cut : Cut t es last i
  cut = cut_of t es last i effect inverts

  abbrev marked : Entry
  marked = with_role TakenBack last

  counts : is_counted t last ≡ true
  counts = ap₂ (λ (a c : Bool). a && c) (ap (λ (u : ℕ). u == t) cut.done.its ∙ eq_self t) (ap is_standing cut.done.role)

  whole : counting_calls t es ≡ counting_calls t cut.front ++ (last.op, last.reply) ∷ counting_calls t cut.rest
  whole = ap (counting_calls t) cut.done.place ∙ counting_append t cut.front (last ∷ cut.rest) ∙ ap (λ (cs : List Call). counting_calls t cut.front ++ cs) (counting_one t last cut.rest counts)

  left : counting_calls t (mark_last t es ++ b ∷ []) ≡ counting_calls t cut.front ++ counting_calls t cut.rest
  left =
      counting_append t (mark_last t es) (b ∷ []) ∙ ap (λ (cs : List Call). counting_calls t (mark_last t es) ++ cs) (counting_none t b [] (apart_role t b (ap is_standing role)))
      ∙ append-nil (counting_calls t (mark_last t es)) ∙ ap (counting_calls t) cut.marked ∙ counting_append t cut.front (marked ∷ cut.rest)
      ∙ ap (λ (cs : List Call). counting_calls t cut.front ++ cs) (counting_none t marked cut.rest (apart_role t marked refl))

  pub counting_next : (n : ℕ) → is_some (last_effect t (after_first t n es)) ≡ true → IsNextBack n (i, inverse_reply last.op) (counting_calls t es) (counting_calls t (mark_last t es ++ b ∷ []))
  counting_next n there =
      let le = comes_after t n cut.front last cut.rest counts cut.done.idle (subst (λ (l : List Entry). is_some (last_effect t (after_first t n l)) ≡ true) cut.done.place there) in
      subst (λ (X : Type 0). X) (λ j. IsNextBack n (i, inverse_reply last.op) (sym whole j) (sym left j))
      (next_back n (counting_calls t cut.front) (counting_calls t cut.rest) last.op i last.reply le (idle_backs t cut.rest cut.done.idle) inverts)

  -- its calls stay, and one comes after them
  own_more : calls (kept (only t) (cut.front ++ marked ∷ cut.rest)) ≡ calls (kept (only t) (cut.front ++ last ∷ cut.rest))
  own_more = ap calls (kept-append (only t) cut.front (marked ∷ cut.rest)) ∙ map-append (λ (e : Entry). (e.op, e.reply)) (kept (only t) cut.front) (kept (only t) (marked ∷ cut.rest))
      ∙ ap (λ (cs : List Call). calls (kept (only t) cut.front) ++ cs) (go (last.txn == t))
      ∙ sym (ap calls (kept-append (only t) cut.front (last ∷ cut.rest)) ∙ map-append (λ (e : Entry). (e.op, e.reply)) (kept (only t) cut.front) (kept (only t) (last ∷ cut.rest)))
    where
      go : (c : Bool) → calls (cond c (marked ∷ kept (only t) cut.rest) (kept (only t) cut.rest)) ≡ calls (cond c (last ∷ kept (only t) cut.rest) (kept (only t) cut.rest))
      go true = refl
      go false = refl

  pub own_calls_next : b.txn ≡ t → calls (kept (only t) (mark_last t es ++ b ∷ [])) ≡ calls (kept (only t) es) ++ (b.op, b.reply) ∷ []
  own_calls_next own =
      ap calls (kept-append (only t) (mark_last t es) (b ∷ [])) ∙ map-append (λ (e : Entry). (e.op, e.reply)) (kept (only t) (mark_last t es)) (kept (only t) (b ∷ []))
      ∙ ap₂ (λ (xs ys : List Call). xs ++ ys) (ap (λ (l : List Entry). calls (kept (only t) l)) cut.marked ∙ own_more ∙ sym (ap (λ (l : List Entry). calls (kept (only t) l)) cut.done.place))
      (ap (λ (c : Bool). calls (cond c (b ∷ []) [])) (ap (λ (u : ℕ). u == t) own ∙ eq_self t))

  -- others' entries stay
  pub others_next : (u : ℕ) → b.txn ≡ t → u ≢ t → kept (only u) (mark_last t es ++ b ∷ []) ≡ kept (only u) es
  others_next u own apart =
      kept-append (only u) (mark_last t es) (b ∷ []) ∙ ap₂ (λ (xs ys : List Entry). xs ++ ys) here (ap (λ (c : Bool). cond c (b ∷ []) []) (ne_eqb b.txn u (λ is. apart (sym is ∙ own)))) ∙ append-nil (kept (only u) es)
    where
      out : (e : Entry) → e.txn ≡ t → kept (only u) (cut.front ++ e ∷ cut.rest) ≡ kept (only u) cut.front ++ kept (only u) cut.rest
      out e its = kept-append (only u) cut.front (e ∷ cut.rest) ∙ ap (λ (c : Bool). kept (only u) cut.front ++ cond c (e ∷ kept (only u) cut.rest) (kept (only u) cut.rest)) (ne_eqb e.txn u (λ is. apart (sym is ∙ its)))

      here : kept (only u) (mark_last t es) ≡ kept (only u) es
      here = ap (kept (only u)) cut.marked ∙ out marked cut.done.its ∙ sym (out last cut.done.its) ∙ sym (ap (kept (only u)) cut.done.place)

-- the inverse finds what its operation left
pub inverse_replies : (b : Base) (s : State) (t : ℕ) (last : Entry) (i : Op) → IsKept b s → last_effect t s.standing ≡ Some last → inverse_of last.op last.reply ≡ Some i → reply_of s.base i ≡ inverse_reply last.op
inverse_replies b s t last i kept effect inverts =
    let acted = acted_last b s t last i kept effect inverts in
    ap (λ (m : Base). reply_of m i) acted.is ∙ reply_back_is acted.before last.op i acted.bounds (ap (inverse_of last.op) acted.reply ∙ inverts)

-- ---- it is back

settled_none : (t : ℕ) (es : List Entry) → counting_calls t (mark_all t es) ≡ []
settled_none t [] = refl
settled_none t (e ∷ es) = go (is_counted t e) refl (settled_none t es)
  where
    go : (b : Bool) → is_counted t e ≡ b → counting_calls t (mark_all t es) ≡ [] → counting_calls t (cond b (with_role TakenBack e ∷ mark_all t es) (e ∷ mark_all t es)) ≡ []
    go true is rest = counting_none t (with_role TakenBack e) (mark_all t es) (apart_role t (with_role TakenBack e) refl) ∙ rest
    go false is rest = counting_none t e (mark_all t es) is ∙ rest

pub counting_settled : (t n : ℕ) (es : List Entry) → counting_calls t (settle_after t n es) ≡ take n (counting_calls t es)
counting_settled t zero [] = refl
counting_settled t (suc n) [] = refl
counting_settled t zero (e ∷ es) = settled_none t (e ∷ es)
counting_settled t (suc n) (e ∷ es) = go (is_counted t e) refl (counting_settled t n es) (counting_settled t (suc n) es)
  where
    go : (b : Bool) → is_counted t e ≡ b → counting_calls t (settle_after t n es) ≡ take n (counting_calls t es) → counting_calls t (settle_after t (suc n) es) ≡ take (suc n) (counting_calls t es)
        → counting_calls t (cond b (e ∷ settle_after t n es) (e ∷ settle_after t (suc n) es)) ≡ take (suc n) (calls (cond b (e ∷ counting t es) (counting t es)))
    go true is less same = counting_one t e (settle_after t n es) is ∙ ap (λ (cs : List Call). (e.op, e.reply) ∷ cs) less
    go false is less same = counting_none t e (settle_after t (suc n) es) is ∙ same

pub nothing_left : (t n : ℕ) (es : List Entry) → last_effect t (after_first t n es) ≡ None → calls_back (drop n (counting_calls t es)) ≡ []
nothing_left t n es none = ap calls_back (sym (counting_after t n es)) ∙ idle_backs t (after_first t n es) (idle_all t (after_first t n es) none)

pub own_calls_settled : (t n : ℕ) (es : List Entry) → last_effect t (after_first t n es) ≡ None → calls (kept (only t) (settle_after t n es)) ≡ calls (kept (only t) es)
own_calls_settled t n es none = eased_calls (kept (only t) es) (kept (only t) (settle_after t n es)) (eased_kept (only t) es (settle_after t n es) (settled_eased t n es none))

-- others' entries stay
others_marked : (u t : ℕ) (es : List Entry) → u ≢ t → kept (only u) (mark_all t es) ≡ kept (only u) es
others_marked u t [] apart = refl
others_marked u t (e ∷ es) apart = go (is_counted t e) refl (others_marked u t es apart)
  where
    go : (b : Bool) → is_counted t e ≡ b → kept (only u) (mark_all t es) ≡ kept (only u) es
        → kept (only u) (cond b (with_role TakenBack e ∷ mark_all t es) (e ∷ mark_all t es)) ≡ cond (e.txn == u) (e ∷ kept (only u) es) (kept (only u) es)
    go true is rest =
        let out : (e.txn == u) ≡ false = ne_eqb e.txn u (λ its. apart (sym its ∙ (its_own t e is).0)) in
        ap (λ (c : Bool). cond c (with_role TakenBack e ∷ kept (only u) (mark_all t es)) (kept (only u) (mark_all t es))) out ∙ rest
        ∙ sym (ap (λ (c : Bool). cond c (e ∷ kept (only u) es) (kept (only u) es)) out)
    go false is rest = ap (λ (fs : List Entry). cond (e.txn == u) (e ∷ fs) fs) rest

pub others_settled : (u t n : ℕ) (es : List Entry) → u ≢ t → kept (only u) (settle_after t n es) ≡ kept (only u) es
others_settled u t zero [] apart = refl
others_settled u t (suc n) [] apart = refl
others_settled u t zero (e ∷ es) apart = others_marked u t (e ∷ es) apart
others_settled u t (suc n) (e ∷ es) apart = go (is_counted t e) (others_settled u t n es apart) (others_settled u t (suc n) es apart)
  where
    go : (b : Bool) → kept (only u) (settle_after t n es) ≡ kept (only u) es → kept (only u) (settle_after t (suc n) es) ≡ kept (only u) es
        → kept (only u) (cond b (e ∷ settle_after t n es) (e ∷ settle_after t (suc n) es)) ≡ kept (only u) (e ∷ es)
    go true less same = ap (λ (fs : List Entry). cond (e.txn == u) (e ∷ fs) fs) less
    go false less same = ap (λ (fs : List Entry). cond (e.txn == u) (e ∷ fs) fs) same
