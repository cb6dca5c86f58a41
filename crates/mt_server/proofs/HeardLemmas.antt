-- What a session has heard, and what its pass has seen.
use Rattle.std.proofs.Common.{◌≡◌, ◌≤◌, ◌+◌, ℕ, List, [], ◌∷◌, ◌++◌, Option, Some, None, All, Bool, true, cond, eqb, eq-eqb, ne_eqb, arith, length, refl, ap, sym, subst, ◌∙◌, append_assoc, length-append}
use Rattle.std.proofs.lemmas.List.{length-map}
use Rattle.std.proofs.lemmas.List.Elements.{All-nil, All-push, All-weaker}
use mathlib.Core.List.{IsPrefix}
use Rattle.mt_mark.proofs.Fronts.{prefix_self, prefix_trans, dones-append}
use Rattle.mt_mark.specs.Rule.{NoneBy, dones, own}
use Rattle.mt_mark.specs.declared.view.Entry.{Entry}
use Rattle.mt_model.specs.History.{Call}
use Rattle.mt_model.specs.declared.history.Committed.{Committed}
use Rattle.mt_model.specs.declared.tables.Base.{Base}
use Rattle.mt_script.specs.declared.answers.Answer.{Answer}
use Rattle.mt_script.specs.declared.lines.Line.{Line}
use Rattle.mt_model.specs.Backwards.{OpenCalls, back_to, no_calls, with_one}
use Rattle.mt_alone.specs.Plays.{Runs, starts, goes_on}
use Rattle.mt_server.specs.Heard.{Heard, silence, Hears, begins, replies, saves, goes_back, commits, aborts, dies, refuses, StandsAt, Rise, nowhere, higher, IsEnd, ends, fails, IsReported}
use Rattle.mt_server.specs.Hearing.{Place, entry_of, Grows, IsSession, Served}
use Rattle.mt_locked.specs.Seen.{PassSeen, Extends}

-- ---- the book grows

stands_on : (session : ℕ) (book more : List Committed) (place : ℕ) (calls : List Call) → IsPrefix book more → StandsAt session book place calls → StandsAt session more place calls
stands_on session book more place calls (rest, grown) s =
    let done : Committed = record { session = session; calls = calls } in
    record {
      before = s.before;
      behind = s.behind ++ rest;
      book_is = sym grown ∙ (ap (λ (b : List Committed). b ++ rest) s.book_is ∙ append_assoc s.before (done ∷ s.behind) rest);
      place_is = s.place_is;
    }

all_stand_on : (session : ℕ) (book more : List Committed) (booked : List (ℕ × List Call)) → IsPrefix book more → All (λ (c : ℕ × List Call). StandsAt session book c.0 c.1) booked → All (λ (c : ℕ × List Call). StandsAt session more c.0 c.1) booked
all_stand_on session book more booked grown all = All-weaker (λ (c : ℕ × List Call). StandsAt session book c.0 c.1) (λ (c : ℕ × List Call). StandsAt session more c.0 c.1) (λ c s. stands_on session book more c.0 c.1 grown s) booked all

-- what holds of a book holds of a longer one
pub reported_on : (failed : Bool) (session : ℕ) (lines : List Line) (text : List ℕ) (booked : List (ℕ × List Call)) (book more : List Committed) → IsPrefix book more → IsReported failed session lines text booked book → IsReported failed session lines text booked more
reported_on failed session lines text booked book more grown t = record {
  before = t.before;
  rest = t.rest;
  lines_are = t.lines_are;
  answers = t.answers;
  last = t.last;
  open_then = t.open_then;
  hears = t.hears;
  end = t.end;
  text_is = t.text_is;
  stands = all_stand_on session book more booked grown t.stands;
  highest = t.highest;
  rises = t.rises;
}

-- and where the device may have failed
may_fail : (a b : Bool) (u : Option OpenCalls) (rest : List Line) (last : List Answer) → (a ≡ true → b ≡ true) → IsEnd a u rest last → IsEnd b u rest last
may_fail a b u _ _ may ends = ends
may_fail a b u _ _ may (fails rest failed) = fails rest (may failed)

pub reported_failing : (a b : Bool) (session : ℕ) (lines : List Line) (text : List ℕ) (booked : List (ℕ × List Call)) (book : List Committed) → (a ≡ true → b ≡ true) → IsReported a session lines text booked book → IsReported b session lines text booked book
reported_failing a b session lines text booked book may t = record {
  before = t.before;
  rest = t.rest;
  lines_are = t.lines_are;
  answers = t.answers;
  last = t.last;
  open_then = t.open_then;
  hears = t.hears;
  end = may_fail a b t.open_then t.rest t.last may t.end;
  text_is = t.text_is;
  stands = t.stands;
  highest = t.highest;
  rises = t.rises;
}

-- ---- how many entries are a pass's

own-append : (p : ℕ) (xs ys : List Entry) → own p (xs ++ ys) ≡ own p xs + own p ys
own-append p [] ys = omega arith
own-append p (e ∷ es) ys = let rest = own-append p es ys in omega arith

own-none : (p : ℕ) (xs : List Entry) → NoneBy p xs → own p xs ≡ 0
own-none p [] none = refl
own-none p (e ∷ es) (other, none) =
    let head : ◌≡◌ {A = ℕ} (cond {A = ℕ} (eqb e.pass p) 1 0) 0 = ap (λ (t : Bool). cond {A = ℕ} t 1 0) (ne_eqb e.pass p other) in
    let rest = own-none p es none in
    omega arith

own-one : (p : ℕ) (e : Entry) → e.pass ≡ p → own p (e ∷ []) ≡ 1
own-one p e mine =
    let head : ◌≡◌ {A = ℕ} (cond {A = ℕ} (eqb e.pass p) 1 0) 1 = ap (λ (t : Bool). cond {A = ℕ} t 1 0) (eq-eqb e.pass p mine) in
    omega arith

-- ---- a session goes on

dones-prefix : (xs ys : List Entry) → IsPrefix xs ys → IsPrefix (dones xs) (dones ys)
dones-prefix xs ys (rest, grown) = (dones rest, sym (dones-append xs rest) ∙ ap dones grown)

-- the pass is as it was but for what it has seen more; the commits stand in that, and their places rise
pub record Stood (session : ℕ) (old : PassSeen) (p : Place) : Type 0 where
  pub number : p.pass.number ≡ old.number
  pub begun : IsPrefix old.seen p.pass.seen
  pub stands : All (λ (c : ℕ × List Call). StandsAt session (dones p.pass.seen) c.0 c.1) p.heard.booked
  pub highest : ℕ
  pub rises : Rise p.heard.booked highest
  pub near : highest ≤ length p.pass.seen
  pub counted : own p.pass.number p.pass.seen ≡ own old.number old.seen + length p.heard.booked

nothing_yet : (session : ℕ) (old : PassSeen) → Stood session old (record { heard = silence; pass = old })
nothing_yet session old = record {
  number = refl;
  begun = prefix_self old.seen;
  stands = All-nil (λ (c : ℕ × List Call). StandsAt session (dones old.seen) c.0 c.1);
  highest = 0;
  rises = nowhere;
  near = omega arith;
  counted = omega arith;
}

-- nothing is committed
same_stood : (session : ℕ) (old : PassSeen) (p : Place) (u : Option OpenCalls) (pass : PassSeen) → pass ≡ p.pass → Stood session old p
    → Stood session old (record { heard = record { under_way = u; booked = p.heard.booked }; pass = pass })
same_stood session old p u pass same s =
    let at : (x : PassSeen) → Type 0 = λ x. Stood session old (record { heard = record { under_way = u; booked = p.heard.booked }; pass = x }) in
    subst at (sym same) (record { number = s.number; begun = s.begun; stands = s.stands; highest = s.highest; rises = s.rises; near = s.near; counted = s.counted })

add_push : (n : ℕ) (booked : List (ℕ × List Call)) (c : ℕ × List Call) → n + length booked + 1 ≡ n + length (booked ++ c ∷ [])
add_push n booked c = omega (arith, length-append booked (c ∷ []))

counts_one : (n : ℕ) (seen between : List Entry) (e : Entry) (pass : PassSeen) → pass.number ≡ n → pass.seen ≡ (seen ++ between) ++ e ∷ [] → NoneBy n between → e.pass ≡ n → (many was : ℕ) → own n seen ≡ was + many → own pass.number pass.seen ≡ was + many + 1
counts_one n seen between e pass number list others mine many was counted =
    let front = own-append n seen between in
    let all = own-append n (seen ++ between) (e ∷ []) in
    let none = own-none n between others in
    let one = own-one n e mine in
    ap (λ (x : ℕ × List Entry). own x.0 x.1) (λ i. (number i, list i)) ∙ omega (arith, front, all, none, one, counted)

-- a commit more
more_stood : (b : Base) (session : ℕ) (old : PassSeen) (p : Place) (place : ℕ) (calls : List Call) (pass : PassSeen) → Extends b p.pass (entry_of p.pass.number session calls) place pass → Stood session old p
    → Stood session old (record { heard = record { under_way = None; booked = p.heard.booked ++ (place, calls) ∷ [] }; pass = pass })
more_stood b session old p place calls pass x s =
    let e : Entry = entry_of p.pass.number session calls in
    let front : List Entry = p.pass.seen ++ x.between in
    let long : length pass.seen ≡ length front + 1 = ap length x.list ∙ length-append front (e ∷ []) in
    let grown : IsPrefix p.pass.seen pass.seen = (x.between ++ e ∷ [], sym (append_assoc p.pass.seen x.between (e ∷ [])) ∙ sym x.list) in
    let mine : StandsAt session (dones pass.seen) place calls = record {
      before = dones front;
      behind = [];
      book_is = ap dones x.list ∙ dones-append front (e ∷ []);
      place_is = omega (arith, length-map front (λ (y : Entry). y.done), long, x.long);
    } in
    record {
      number = x.number ∙ s.number;
      begun = prefix_trans old.seen p.pass.seen pass.seen s.begun grown;
      stands = All-push (λ (c : ℕ × List Call). StandsAt session (dones pass.seen) c.0 c.1) p.heard.booked (place, calls)
          (all_stand_on session (dones p.pass.seen) (dones pass.seen) p.heard.booked (dones-prefix p.pass.seen pass.seen grown) s.stands) mine;
      highest = place;
      rises = higher p.heard.booked s.highest place calls s.rises (omega (arith, s.near, x.long, long, length-append p.pass.seen x.between));
      near = omega (arith, x.long);
      counted = counts_one p.pass.number p.pass.seen x.between e pass x.number x.list x.others refl (length p.heard.booked) (own old.number old.seen) s.counted ∙ add_push (own old.number old.seen) p.heard.booked (place, calls);
    }

some_same : (u v : OpenCalls) → ◌≡◌ {A = Option OpenCalls} (Some u) (Some v) → u ≡ v
some_same u v e = cc e

turn_stood : (b : Base) (session : ℕ) (old : PassSeen) (p : Place) (l : Line) (a : Answer) (h : Heard) (pass : PassSeen) → Stood session old p → Hears p.heard l a h → Grows b session p a pass → Stood session old (record { heard = h; pass = pass })
turn_stood b session old p _ _ _ pass s (begins none) same = same_stood session old p (Some no_calls) pass same s
turn_stood b session old p _ _ _ pass s (replies calls op reply live sized) same = same_stood session old p (Some (with_one calls (op, reply))) pass same s
turn_stood b session old p _ _ _ pass s (saves calls live) same = same_stood session old p p.heard.under_way pass same s
turn_stood b session old p _ _ _ pass s (goes_back calls first live enough) same = same_stood session old p (Some (back_to calls first)) pass same s
turn_stood b session old p _ _ _ pass s (commits calls place live) (own, opened, x) =
    let same : own ≡ calls = some_same own calls (sym opened ∙ live) in
    more_stood b session old p place calls.all pass (subst (λ (o : OpenCalls). Extends b p.pass (entry_of p.pass.number session o.all) place pass) same x) s
turn_stood b session old p _ _ _ pass s (aborts calls live) same = same_stood session old p None pass same s
turn_stood b session old p _ _ _ pass s (dies calls op holder live) same = same_stood session old p None pass same s
turn_stood b session old p _ _ _ pass s (refuses line why may) same = same_stood session old p p.heard.under_way pass same s

stood_on : (b : Base) (session : ℕ) (old : PassSeen) (s e : Place) (ls : List Line) (as' : List Answer) → Stood session old s → Served b session s ls as' e → Stood session old e
stood_on b session old s _ _ _ first starts = first
stood_on b session old s _ _ _ first (goes_on lines answers mid end line answer before turn) =
    turn_stood b session old mid line answer end.heard end.pass (stood_on b session old s mid lines answers first before) turn.hears turn.grows

-- the run, passes aside
heard_of : (b : Base) (session : ℕ) (s e : Place) (ls : List Line) (as' : List Answer) → Served b session s ls as' e → Runs Hears s.heard ls as' e.heard
heard_of b session s _ _ _ starts = starts
heard_of b session s _ _ _ (goes_on lines answers mid end line answer before turn) = goes_on lines answers mid.heard end.heard line answer (heard_of b session s mid lines answers before) turn.hears

-- what a session was answered holds in each book that begins with what its pass has seen
pub session_reported : (failed : Bool) (b : Base) (session : ℕ) (lines : List Line) (text : List ℕ) (old new : PassSeen) (book : List Committed) → (s : IsSession failed b session lines text old new) → IsPrefix (dones new.seen) book → IsReported failed session lines text s.end.heard.booked book
session_reported failed b session lines text old new book s front =
    let start : Place = record { heard = silence; pass = old } in
    let stood = stood_on b session old start s.end s.before s.answers (nothing_yet session old) s.served in
    let seen : IsPrefix (dones s.end.pass.seen) book = subst (λ (x : PassSeen). IsPrefix (dones x.seen) book) (sym s.pass_is) front in
    record {
      before = s.before;
      rest = s.rest;
      lines_are = s.lines_are;
      answers = s.answers;
      last = s.last;
      open_then = s.end.heard.under_way;
      hears = heard_of b session start s.end s.before s.answers s.served;
      end = s.ends;
      text_is = s.text_is;
      stands = all_stand_on session (dones s.end.pass.seen) book s.end.heard.booked seen stood.stands;
      highest = stood.highest;
      rises = stood.rises;
    }

-- it reports of each commit that its pass has more of its own
pub session_counts : (failed : Bool) (b : Base) (session : ℕ) (lines : List Line) (text : List ℕ) (old new : PassSeen) → (s : IsSession failed b session lines text old new) → own new.number new.seen ≡ own old.number old.seen + length s.end.heard.booked
session_counts failed b session lines text old new s =
    let stood = stood_on b session old (record { heard = silence; pass = old }) s.end s.before s.answers (nothing_yet session old) s.served in
    subst (λ (x : PassSeen). own x.number x.seen ≡ own old.number old.seen + length s.end.heard.booked) s.pass_is stood.counted

-- and its pass has seen what it had seen before
pub session_grows : (failed : Bool) (b : Base) (session : ℕ) (lines : List Line) (text : List ℕ) (old new : PassSeen) → IsSession failed b session lines text old new → IsPrefix (dones old.seen) (dones new.seen)
session_grows failed b session lines text old new s =
    let stood = stood_on b session old (record { heard = silence; pass = old }) s.end s.before s.answers (nothing_yet session old) s.served in
    dones-prefix old.seen new.seen (subst (λ (x : PassSeen). IsPrefix old.seen x.seen) s.pass_is stood.begun)
