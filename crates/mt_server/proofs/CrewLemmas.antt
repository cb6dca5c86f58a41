-- What workers give back, and the places of transcripts.
use Rattle.std.proofs.Common.{◌≡◌, ◌≢◌, ◌<◌, ◌+◌, ℕ, zero, suc, List, [], ◌∷◌, ◌++◌, All, Bool, ◌||◌, true, false, true≢false, Option, Some, arith, length, get_or, set, refl, ap, sym, subst, ◌∙◌, ⊎_elim, length-append}
use Rattle.std.proofs.lemmas.List.{get_or-set_other, get_or-set_same, get_or_default, length-set, same_from_push}
use Rattle.std.proofs.lemmas.List.Elements.{All-pop}
use Rattle.std.specs.Option.{option_to_list}
use Rattle.std.proofs.lemmas.Bool.{cases_eq}
use mathlib.Core.List.{IsPrefix}
use Rattle.mt_mark.specs.Rule.{dones, own}
use Rattle.mt_model.specs.History.{Call}
use Rattle.mt_model.specs.declared.history.Committed.{Committed}
use Rattle.mt_model.specs.declared.tables.Base.{Base}
use Rattle.mt_script.specs.declared.lines.Line.{Line}
use Rattle.mt_server.specs.Crews.{AreHeard, AreReportedOf, IsBoard, IsReportedOf, nothing_reported, one_more}
use Rattle.mt_server.specs.Heard.{IsReported, all_booked}
use Rattle.mt_server.specs.Hearing.{IsSession}
use Rattle.mt_server.specs.declared.board.Board.{Board}
use Rattle.mt_server.specs.declared.board.Reported.{Reported}
use Rattle.mt_server.proofs.HeardLemmas.{session_counts, session_grows, session_reported, reported_failing, reported_on}
use Rattle.mt_mark.proofs.Fronts.{prefix_self}
use Rattle.mt_locked.specs.Seen.{PassSeen}
use Rattle.mt_locked.specs.Whole.{all_own}

-- ---- transcripts

-- what holds of a book holds of a longer one
reported_of_on : (scripts : List (List Line)) (book more : List Committed) (t : Reported) (booked : List (ℕ × List Call)) → IsPrefix book more → IsReportedOf scripts book t booked → IsReportedOf scripts more t booked
reported_of_on scripts book more t booked grown outcome = record { lines = outcome.lines; within = outcome.within; lines_are = outcome.lines_are; outcome = reported_on t.has_failed (t.at + 1) outcome.lines t.text booked book more grown outcome.outcome }

pub all_reported_on : (scripts : List (List Line)) (book more : List Committed) (ts : List Reported) (count : ℕ) → IsPrefix book more → AreReportedOf scripts book ts count → AreReportedOf scripts more ts count
all_reported_on scripts book more _ _ grown nothing_reported = nothing_reported
all_reported_on scripts book more _ _ grown (one_more outcome count t booked before this) =
    one_more outcome count t booked (all_reported_on scripts book more outcome count grown before) (reported_of_on scripts book more t booked grown this)

-- one script more
pub heard_more : (b : Base) (scripts : List (List Line)) (old new : PassSeen) (outcome now : List Reported) (t : Reported) (lines : List Line) → t.at < length scripts → lines ≡ get_or scripts t.at lines → IsSession t.has_failed b (t.at + 1) lines t.text old new
    → now ≡ outcome ++ t ∷ [] → AreHeard scripts old outcome → AreHeard scripts new now
heard_more b scripts old new outcome now t lines within is session same was =
    let booked = session.end.heard.booked in
    let this : IsReportedOf scripts (dones new.seen) t booked = record { lines = lines; within = within; lines_are = is; outcome = session_reported t.has_failed b (t.at + 1) lines t.text old new (dones new.seen) session (prefix_self (dones new.seen)) } in
    let before = all_reported_on scripts (dones old.seen) (dones new.seen) outcome (own old.number old.seen) (session_grows t.has_failed b (t.at + 1) lines t.text old new session) was in
    subst (λ (x : List Reported × ℕ). AreReportedOf scripts (dones new.seen) x.0 x.1) (λ i. (sym same i, sym (session_counts t.has_failed b (t.at + 1) lines t.text old new session) i)) (one_more outcome (own old.number old.seen) t booked before this)

-- nothing is heard yet
pub none_heard : (scripts : List (List Line)) (pass : PassSeen) (outcome : List Reported) → own pass.number pass.seen ≡ 0 → outcome ≡ [] → AreHeard scripts pass outcome
none_heard scripts pass outcome none empty = subst (λ (x : List Reported × ℕ). AreReportedOf scripts (dones pass.seen) x.0 x.1) (λ i. (sym empty i, sym none i)) nothing_reported

-- ---- what is taken out

-- the last of them, and those before it
pub popped : {X : Type 0} (P : X → Type 0) (xs ys : List X) (r : Option X) (x : X) → xs ≡ ys ++ option_to_list r → r ≡ Some x → All P xs → All P ys × P x
popped P xs ys r x split is all =
    let both = All-pop P xs ys (Some x) (subst (λ (o : Option _). xs ≡ ys ++ option_to_list o) is split) all in (both.0, both.1)

pub record LastReported (scripts : List (List Line)) (book : List Committed) (before : List Reported) (t : Reported) (count : ℕ) : Type 0 where
  pub fewer : ℕ
  pub booked : List (ℕ × List Call)
  pub outcome : AreReportedOf scripts book before fewer
  pub this : IsReportedOf scripts book t booked
  pub counted : fewer + length booked ≡ count

last_is : (scripts : List (List Line)) (book : List Committed) (xs : List Reported) (count : ℕ) → AreReportedOf scripts book xs count → (ys : List Reported) (t : Reported) → xs ≡ ys ++ t ∷ [] → LastReported scripts book ys t count
last_is scripts book _ _ nothing_reported ys t e = absurd (let n = ap length e in omega (arith, length-append ys (t ∷ [])))
last_is scripts book _ _ (one_more outcome count last booked before this) ys t e =
    let same = same_from_push outcome ys last t e in
    record {
      fewer = count;
      booked = booked;
      outcome = subst (λ (l : List Reported). AreReportedOf scripts book l count) same.0 before;
      this = subst (λ (x : Reported). IsReportedOf scripts book x booked) same.1 this;
      counted = refl;
    }

pub last_reported : (scripts : List (List Line)) (book : List Committed) (xs ys : List Reported) (count : ℕ) (t : Reported) (r : Option Reported) → xs ≡ ys ++ option_to_list r → r ≡ Some t → AreReportedOf scripts book xs count → LastReported scripts book ys t count
last_reported scripts book xs ys count t r split is outcome =
    last_is scripts book xs count outcome ys t (subst (λ (o : Option Reported). xs ≡ ys ++ option_to_list o) is split)

pub pass_pushed : (book : List Committed) (passes now : List PassSeen) (p : PassSeen) → now ≡ passes ++ p ∷ [] → All (λ (x : PassSeen). IsPrefix (dones x.seen) book) now → All (λ (x : PassSeen). IsPrefix (dones x.seen) book) passes × IsPrefix (dones p.seen) book
pass_pushed book passes now p same all = popped (λ (x : PassSeen). IsPrefix (dones x.seen) book) now passes (Some p) p same refl all

pub all_own_push : (passes : List PassSeen) (p : PassSeen) → all_own (passes ++ p ∷ []) ≡ all_own passes + own p.number p.seen
all_own_push [] p = omega arith
all_own_push (x ∷ xs) p = let rest = all_own_push xs p in omega arith

-- a pass more, whose transcripts are in their places
pub pass_placed : (scripts : List (List Line)) (old mid new : Board) (book : List Committed) (passes now : List PassSeen) (p : PassSeen) (outcome : List Reported) (count : ℕ) → now ≡ passes ++ p ∷ [] → All (λ (x : PassSeen). IsPrefix (dones x.seen) book) now
    → (All (λ (x : PassSeen). IsPrefix (dones x.seen) book) passes → IsBoard scripts old book count → IsBoard scripts mid book (count + all_own passes))
    → ((more there : ℕ) → AreReportedOf scripts book outcome more → IsBoard scripts mid book there → IsBoard scripts new book (there + more))
    → AreHeard scripts p outcome → IsBoard scripts old book count → IsBoard scripts new book (count + all_own now)
pass_placed scripts old mid new book passes now p outcome count pushed seen before puts heard board =
    let split = pass_pushed book passes now p pushed seen in
    let put = puts (own p.number p.seen) (count + all_own passes) (all_reported_on scripts (dones p.seen) book outcome (own p.number p.seen) split.1 heard) (before split.0 board) in
    let many : all_own now ≡ all_own passes + own p.number p.seen = ap all_own pushed ∙ all_own_push passes p in
    subst (IsBoard scripts new book) (omega (arith, many)) put

-- ---- places

-- a place that was empty reports of so many commits
all_booked_set : (bs : List (List (ℕ × List Call))) (at : ℕ) (b : List (ℕ × List Call)) → at < length bs → get_or bs at [] ≡ [] → all_booked (set bs at b) ≡ all_booked bs + length b
all_booked_set [] at b lt empty = absurd (omega arith)
all_booked_set (x ∷ xs) zero b lt empty = let none = ap length empty in omega arith
all_booked_set (x ∷ xs) (suc at) b lt empty = let rest = all_booked_set xs at b (omega arith) empty in omega arith

or_left : (a b : Bool) → a ≡ true → (a || b) ≡ true
or_left true b e = refl
or_left false b e = absurd (true≢false (sym e))

or_right : (a b : Bool) → b ≡ true → (a || b) ≡ true
or_right true b e = refl
or_right false b e = e

pub placed : (scripts : List (List Line)) (old new : Board) (book : List Committed) (t : Reported) (booked : List (ℕ × List Call)) (count : ℕ) → get_or old.filled.items t.at false ≡ false → new.texts.items ≡ set old.texts.items t.at t.text → new.filled.items ≡ set old.filled.items t.at true
    → new.has_failed ≡ (old.has_failed || t.has_failed) → IsReportedOf scripts book t booked → IsBoard scripts old book count → IsBoard scripts new book (count + length booked)
placed scripts old new book t booked count free texts filled failed outcome b =
    let within_texts : t.at < length old.texts.items = omega (arith, outcome.within, b.texts) in
    let within_filled : t.at < length old.filled.items = omega (arith, outcome.within, b.filled) in
    let within_booked : t.at < length b.booked = omega (arith, outcome.within, b.many) in
    record {
      texts = ap length texts ∙ (length-set old.texts.items t.at t.text ∙ b.texts);
      filled = ap length filled ∙ (length-set old.filled.items t.at true ∙ b.filled);
      booked = set b.booked t.at booked;
      many = length-set b.booked t.at booked ∙ b.many;
      each = λ i lines lt is there. ⊎_elim (λ same. here i lines lt is same within_texts within_booked) (λ other. elsewhere i lines lt is other there) (cases_eq i t.at);
      empty = λ i none. ⊎_elim
          (λ same. absurd (true≢false (sym (ap (λ j. get_or new.filled.items j false) same ∙ (ap (λ fs. get_or fs t.at false) filled ∙ get_or-set_same old.filled.items t.at true false within_filled)) ∙ none)))
          (λ other. get_or-set_other b.booked t.at i booked [] other ∙ b.empty i (sym (get_or-set_other old.filled.items t.at i true false other) ∙ (ap (λ fs. get_or fs i false) (sym filled) ∙ none)))
          (cases_eq i t.at);
      counted = all_booked_set b.booked t.at booked within_booked (b.empty t.at free) ∙ ap (λ n. n + length booked) b.counted;
    }
  where
    here : (i : ℕ) (lines : List Line) → i < length scripts → lines ≡ get_or scripts i lines → i ≡ t.at → t.at < length old.texts.items → t.at < length b.booked
        → IsReported new.has_failed (i + 1) lines (get_or new.texts.items i []) (get_or (set b.booked t.at booked) i []) book
    here i lines lt is same within_texts within_booked =
        let line : outcome.lines ≡ lines = outcome.lines_are ∙ (get_or_default scripts t.at outcome.lines lines outcome.within ∙ (ap (λ j. get_or scripts j lines) (sym same) ∙ sym is)) in
        let words : t.text ≡ get_or new.texts.items i [] = sym (ap (λ j. get_or new.texts.items j []) same ∙ (ap (λ ts. get_or ts t.at []) texts ∙ get_or-set_same old.texts.items t.at t.text [] within_texts)) in
        let commits : booked ≡ get_or (set b.booked t.at booked) i [] = sym (ap (λ j. get_or (set b.booked t.at booked) j []) same ∙ get_or-set_same b.booked t.at booked [] within_booked) in
        let number : t.at + 1 ≡ i + 1 = ap (λ n. n + 1) (sym same) in
        reported_failing t.has_failed new.has_failed (i + 1) lines (get_or new.texts.items i []) (get_or (set b.booked t.at booked) i []) book (λ e. failed ∙ or_right old.has_failed t.has_failed e)
        (subst (λ (x : (ℕ × List Line) × (List ℕ × List (ℕ × List Call))). IsReported t.has_failed x.0.0 x.0.1 x.1.0 x.1.1 book) (λ j. ((number j, line j), (words j, commits j))) outcome.outcome)

    elsewhere : (i : ℕ) (lines : List Line) → i < length scripts → lines ≡ get_or scripts i lines → i ≢ t.at → get_or new.filled.items i false ≡ true
        → IsReported new.has_failed (i + 1) lines (get_or new.texts.items i []) (get_or (set b.booked t.at booked) i []) book
    elsewhere i lines lt is other there =
        let words : get_or old.texts.items i [] ≡ get_or new.texts.items i [] = sym (ap (λ ts. get_or ts i []) texts ∙ get_or-set_other old.texts.items t.at i t.text [] other) in
        let commits : get_or b.booked i [] ≡ get_or (set b.booked t.at booked) i [] = sym (get_or-set_other b.booked t.at i booked [] other) in
        reported_failing old.has_failed new.has_failed (i + 1) lines (get_or new.texts.items i []) (get_or (set b.booked t.at booked) i []) book (λ e. failed ∙ or_left old.has_failed t.has_failed e)
        (subst (λ (x : List ℕ × List (ℕ × List Call)). IsReported old.has_failed (i + 1) lines x.0 x.1 book) (λ j. (words j, commits j))
        (b.each i lines lt is (sym (get_or-set_other old.filled.items t.at i true false other) ∙ (ap (λ fs. get_or fs i false) (sym filled) ∙ there))))

-- nothing more is reported if none is left
pub none_left : (scripts : List (List Line)) (book : List Committed) (xs : List Reported) (count : ℕ) → length xs ≡ 0 → AreReportedOf scripts book xs count → count ≡ 0
none_left scripts book _ _ none nothing_reported = refl
none_left scripts book _ _ none (one_more outcome count t booked before this) = absurd (omega (arith, none, length-append outcome (t ∷ [])))
