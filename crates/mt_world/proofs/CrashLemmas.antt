-- What a restart finds where a crash comes within events that are made one after the other.
use Rattle.std.proofs.Common.{◌≡◌, ◌⊎◌, ◌<◌, ◌≤◌, ◌+◌, ℕ, List, [], ◌∷◌, ◌++◌, length, map, take, get_or, ⊎_elim, inl, inr, refl, ap, sym, subst, ◌∙◌, length-append, arith}
use Rattle.std.proofs.lemmas.Bool.{cases_lt}
use Rattle.std.proofs.lemmas.List.{length-map, take_all, take-append-le}
use Rattle.std.proofs.Math.ListN.{get_or-append}
use Rattle.std.proofs.Math.Seq.{get_or-append_seam}
use mathlib.Core.Logic.{∥∥₁_elim, ∥∥₁_map, ∥∥₁_prop}
use Rattle.std.proofs.Props.{props}
use Rattle.mt_base.specs.Limits.{IsRelationCount}
use Rattle.mt_disk.specs.declared.device.Device.{Ghosts}
use Rattle.mt_live.proofs.Alone.{put_other, put_own}
use Rattle.mt_live.specs.Machine.{State, put, start}
use Rattle.mt_model.specs.Model.{Base}
use Rattle.mt_model.specs.declared.history.Committed.{Committed}
use Rattle.mt_txn.proofs.Restarting.{finds_commits, no_call}
use Rattle.mt_txn.specs.Restarted.{FindsCommits, FindsMeanwhile}
use Rattle.mt_txn.specs.Shown.{LeavesFound, Restarts, Shows, kernel_device}
use Rattle.mt_txn.specs.declared.kernel.Kernel.{Kernel}
use Rattle.mt_world.proofs.RunLemmas.{Ran, has_run, makes_same, ran_none}
use Rattle.mt_world.specs.Crashes.{FindsBetween, FindsSince, FoundUntil}
use Rattle.mt_world.specs.Schedules.{HasMade, HasRun}
use Rattle.mt_world.specs.Reported.{acknowledged, commit_of, reported_of}
use Rattle.mt_world.specs.declared.events.Answer.{Answer}
use Rattle.mt_world.specs.declared.events.Event.{Event}

module _ {D : Type 0} {g : Ghosts D} (only_now : (d : D) (c : List ℕ) → g.left_since d (g.moment d) c → g.may_leave d c) where
  -- no call of the device was made
  pub found_itself : (k : Kernel D g) → LeavesFound k k
  found_itself k = λ first r count. no_call g k.relations k.counters first only_now k.core k.core.operations.store.device refl r count

  module _ (since : D) (first : Base) where
    abbrev pub Found : List Event → List Answer → Kernel D g → Type 0
    Found events answers k = ∥ FoundUntil since first events answers k (kernel_device k) ∥₁

    finds_now : (k : Kernel D g) (c : List ℕ) → Restarts first k → IsRelationCount k.relations → g.left_since (kernel_device k) (g.moment (kernel_device k)) c → ∥ FindsCommits k.relations k.counters first k.core c ∥₁
    finds_now k c starts count left = finds_commits g k.relations k.counters first k.core c starts (only_now (kernel_device k) c left) count

    -- what was acknowledged is the book
    pub answered_of : (events : List Event) (answers : List Answer) (k : Kernel D g) → ∥ HasRun first events answers k ∥₁ → length k.core.book.items ≡ length (acknowledged answers)
    answered_of events answers k some = ∥∥₁_elim some (hlevel props) (λ r. ∥∥₁_elim r.shows (hlevel props) (λ (origin, base, is, x).
        let book : length r.state.book ≡ length k.core.book.items = ap (λ (s : State). length s.book) x.state in
        let outcome : length r.state.book ≡ length (map (λ t. commit_of (reported_of events answers t)) (acknowledged answers)) = ap (λ (cs : List Committed). length cs) r.outcome in
        let size = length-map (acknowledged answers) (λ t. commit_of (reported_of events answers t)) in
        omega (arith, book, outcome, size)))

    pub found_none : (k : Kernel D g) → Shows first (start first) k → Restarts first k → FindsSince since first k → IsRelationCount k.relations → Found [] [] k
    found_none k shows starts found count = ∣ record {
      behind = λ i. k;
      last = refl;
      goes = λ i event answer lt. absurd (omega (arith, lt));
      ran = λ i le. let none : i ≡ 0 = omega (arith, le) in subst (λ (j : ℕ). ∥ HasRun first (take j []) (take j []) k ∥₁) (sym none) (has_run first [] [] k (ran_none first k shows) starts);
      answered = λ i le. let none : i ≡ 0 = omega (arith, le) in subst (λ (j : ℕ). length k.core.book.items ≡ length (acknowledged (take j []))) (sym none) (answered_of [] [] k (has_run first [] [] k (ran_none first k shows) starts));
      later = λ i le. omega arith;
      each = λ i c le left. ∥∥₁_map (finds_now k c starts count left) (λ f. record { made = 0; past = le; within = omega arith; finds = f });
      begun = found.later;
      all = λ c left. ∥∥₁_map (found.each c left) (λ f. record { made = 0; past = omega arith; within = omega arith; finds = f });
      before = λ t c le left. ∥∥₁_map (found.before t c le left) (⊎_elim (λ was. inl was) (λ f. inr (record { made = 0; past = omega arith; within = omega arith; finds = f })));
    } ∣₁

    module _ (events : List Event) (answers : List Answer) (event : Event) (answer : Answer) (k n : Kernel D g) (made : HasMade k event answer n)
        (starts : Restarts first k) (now : Restarts first n) (count : IsRelationCount k.relations) (counts : IsRelationCount n.relations) (same : length events ≡ length answers)
        (ran : ∥ HasRun first (events ++ event ∷ []) (answers ++ answer ∷ []) n ∥₁) (was : FoundUntil since first events answers k (kernel_device k)) where
      abbrev next : ℕ → Kernel D g
      next = put was.behind (length events + 1) n

      old : (i : ℕ) → i ≤ length events → next i ≡ was.behind i
      old i le = put_other was.behind (length events + 1) n i (λ (e : i ≡ length events + 1). omega (arith, e, le))

      own : next (length events + 1) ≡ n
      own = put_own was.behind (length events + 1) n

      here : next (length events) ≡ k
      here = old (length events) (omega arith) ∙ was.last

      longer : length (events ++ event ∷ []) ≡ length events + 1
      longer = length-append events (event ∷ [])

      longer_reported : length (answers ++ answer ∷ []) ≡ length events + 1
      longer_reported = length-append answers (answer ∷ []) ∙ ap (λ (l : ℕ). l + 1) (sym same)

      whole : (i : ℕ) → length events + 1 ≤ i → i ≤ length (events ++ event ∷ []) → i ≡ length events + 1
      whole i ge le = omega (arith, ge, le, longer)

      goes : (i : ℕ) (e : Event) (a : Answer) → i < length (events ++ event ∷ []) → HasMade (next i) (get_or (events ++ event ∷ []) i e) (get_or (answers ++ answer ∷ []) i a) (next (i + 1))
      goes i e a lt = ⊎_elim
          (λ (less : i < length events).
          let one : get_or (events ++ event ∷ []) i e ≡ get_or events i e = get_or-append events (event ∷ []) e i less in
          let two : get_or (answers ++ answer ∷ []) i a ≡ get_or answers i a = get_or-append answers (answer ∷ []) a i (omega (arith, less, same)) in
          let from : next i ≡ was.behind i = old i (omega (arith, less)) in
          let to : next (i + 1) ≡ was.behind (i + 1) = old (i + 1) (omega (arith, less)) in
          subst (λ (X : Type 0). X) (λ j. HasMade (sym from j) (sym one j) (sym two j) (sym to j)) (was.goes i e a less))
          (λ (ge : length events ≤ i).
          let at_last : i ≡ length events = omega (arith, ge, lt, longer) in
          let one : get_or (events ++ event ∷ []) i e ≡ event = ap (λ (j : ℕ). get_or (events ++ event ∷ []) j e) at_last ∙ get_or-append_seam events event [] e in
          let two : get_or (answers ++ answer ∷ []) i a ≡ answer = ap (λ (j : ℕ). get_or (answers ++ answer ∷ []) j a) (at_last ∙ same) ∙ get_or-append_seam answers answer [] a in
          let from : next i ≡ k = ap next at_last ∙ here in
          let to : next (i + 1) ≡ n = ap (λ (j : ℕ). next (j + 1)) at_last ∙ own in
          subst (λ (X : Type 0). X) (λ j. HasMade (sym from j) (sym one j) (sym two j) (sym to j)) made)
          (cases_lt i (length events))

      ran_to : (i : ℕ) → i ≤ length (events ++ event ∷ []) → ∥ HasRun first (take i (events ++ event ∷ [])) (take i (answers ++ answer ∷ [])) (next i) ∥₁
      ran_to i le = ⊎_elim
          (λ (less : i < length events + 1).
          let short : i ≤ length events = omega (arith, less) in
          let one : take i (events ++ event ∷ []) ≡ take i events = take-append-le i events (event ∷ []) short in
          let two : take i (answers ++ answer ∷ []) ≡ take i answers = take-append-le i answers (answer ∷ []) (omega (arith, short, same)) in
          let there : next i ≡ was.behind i = old i short in
          subst (λ (X : Type 0). X) (λ j. ∥ HasRun first (sym one j) (sym two j) (sym there j) ∥₁) (was.ran i short))
          (λ (ge : length events + 1 ≤ i).
          let is = whole i ge le in
          let one : take i (events ++ event ∷ []) ≡ events ++ event ∷ [] = take_all i (events ++ event ∷ []) (omega (arith, is, longer)) in
          let two : take i (answers ++ answer ∷ []) ≡ answers ++ answer ∷ [] = take_all i (answers ++ answer ∷ []) (omega (arith, is, longer_reported)) in
          let there : next i ≡ n = ap next is ∙ own in
          subst (λ (X : Type 0). X) (λ j. ∥ HasRun first (sym one j) (sym two j) (sym there j) ∥₁) ran)
          (cases_lt i (length events + 1))

      rises : g.moment (kernel_device k) ≤ g.moment (kernel_device n)
      rises = (made.found first starts count).later

      later : (i : ℕ) → i ≤ length (events ++ event ∷ []) → g.moment (kernel_device (next i)) ≤ g.moment (kernel_device n)
      later i le = ⊎_elim
          (λ (less : i < length events + 1).
          let short : i ≤ length events = omega (arith, less) in
          let there : g.moment (kernel_device (next i)) ≡ g.moment (kernel_device (was.behind i)) = ap (λ (m : Kernel D g). g.moment (kernel_device m)) (old i short) in
          let before = was.later i short in let after = rises in omega (arith, there, before, after))
          (λ (ge : length events + 1 ≤ i).
          let there : g.moment (kernel_device (next i)) ≡ g.moment (kernel_device n) = ap (λ (m : Kernel D g). g.moment (kernel_device m)) (ap next (whole i ge le) ∙ own) in omega (arith, there))
          (cases_lt i (length events + 1))

      Finds : Kernel D g → List ℕ → Type 0
      Finds m c = FindsCommits m.relations m.counters first m.core c

      -- what is found of an earlier kernel, and of k
      wider : (i : ℕ) (c : List ℕ) → FindsBetween first was.behind i (length events) c → FindsBetween first next i (length (events ++ event ∷ [])) c
      wider i c f = record {
        made = f.made;
        past = f.past;
        within = let w = f.within in omega (arith, w, longer);
        finds = subst (λ (m : Kernel D g). FindsCommits m.relations m.counters first m.core c) (sym (old f.made f.within)) f.finds;
      }

      found_here : (i : ℕ) (c : List ℕ) → i ≤ length events → FindsCommits k.relations k.counters first k.core c → FindsBetween first next i (length (events ++ event ∷ [])) c
      found_here i c le f = record {
        made = length events;
        past = le;
        within = omega (arith, longer);
        finds = subst (λ (m : Kernel D g). FindsCommits m.relations m.counters first m.core c) (sym here) f;
      }

      each : (i : ℕ) (c : List ℕ) → i ≤ length (events ++ event ∷ []) → g.left_since (kernel_device n) (g.moment (kernel_device (next i))) c → ∥ FindsBetween first next i (length (events ++ event ∷ [])) c ∥₁
      each i c le left = ⊎_elim
          (λ (less : i < length events + 1).
          let short : i ≤ length events = omega (arith, less) in
          let then = subst (λ (m : Kernel D g). g.left_since (kernel_device n) (g.moment (kernel_device m)) c) (old i short) left in
          ∥∥₁_elim ((made.found first starts count).before (g.moment (kernel_device (was.behind i))) c (was.later i short) then) ∥∥₁_prop (⊎_elim
          (λ before. ∥∥₁_map (was.each i c short before) (wider i c))
          (λ f. ∣ found_here i c short f ∣₁)))
          (λ (ge : length events + 1 ≤ i).
          let there : next i ≡ n = ap next (whole i ge le) ∙ own in
          ∥∥₁_map (finds_now n c now counts (subst (λ (m : Kernel D g). g.left_since (kernel_device n) (g.moment (kernel_device m)) c) there left)) (λ f. record {
            made = i;
            past = omega arith;
            within = le;
            finds = subst (λ (m : Kernel D g). FindsCommits m.relations m.counters first m.core c) (sym there) f;
          }))
          (cases_lt i (length events + 1))

      all : (c : List ℕ) → g.left_since (kernel_device n) (g.moment since) c → ∥ FindsBetween first next 0 (length (events ++ event ∷ [])) c ∥₁
      all c left = ∥∥₁_elim ((made.found first starts count).before (g.moment since) c was.begun left) ∥∥₁_prop (⊎_elim
          (λ earlier. ∥∥₁_map (was.all c earlier) (wider 0 c))
          (λ f. ∣ found_here 0 c (omega arith) f ∣₁))

      before : (t : ℕ) (c : List ℕ) → t ≤ g.moment since → g.left_since (kernel_device n) t c → ∥ g.left_since since t c ⊎ FindsBetween first next 0 (length (events ++ event ∷ [])) c ∥₁
      before t c le left = ∥∥₁_elim ((made.found first starts count).before t c (let begun = was.begun in omega (arith, le, begun)) left) ∥∥₁_prop (⊎_elim
          (λ earlier. ∥∥₁_map (was.before t c le earlier) (⊎_elim (λ first_of_all. inl first_of_all) (λ f. inr (wider 0 c f))))
          (λ f. ∣ inr (found_here 0 c (omega arith) f) ∣₁))

      more : FoundUntil since first (events ++ event ∷ []) (answers ++ answer ∷ []) n (kernel_device n)
      more = record {
        behind = next;
        last = ap next longer ∙ own;
        goes = goes;
        ran = ran_to;
        answered = λ i le. answered_of (take i (events ++ event ∷ [])) (take i (answers ++ answer ∷ [])) (next i) (ran_to i le);
        later = later;
        each = each;
        begun = let earlier = was.begun in let up = rises in omega (arith, earlier, up);
        all = all;
        before = before;
      }

    pub found_more : (events : List Event) (answers : List Answer) (event : Event) (answer : Answer) (k n : Kernel D g) → HasMade k event answer n → Restarts first k → IsRelationCount k.relations → IsRelationCount n.relations
        → Ran first (events ++ event ∷ []) (answers ++ answer ∷ []) n → Found events answers k → Found (events ++ event ∷ []) (answers ++ answer ∷ []) n
    found_more events answers event answer k n made starts count counts ran found =
        let now = made.restarts first starts in
        ∥∥₁_elim ran ∥∥₁_prop (λ (acts, s, makes, shows).
        let same = makes_same first (events ++ event ∷ []) (answers ++ answer ∷ []) acts s n makes in
        let short : length events ≡ length answers = let one = length-append events (event ∷ []) in let two = length-append answers (answer ∷ []) in omega (arith, same, one, two) in
        ∥∥₁_map found (λ was. more events answers event answer k n made starts now count counts short (has_run first (events ++ event ∷ []) (answers ++ answer ∷ []) n ran now) was))

    -- until a device that the last kernel has left
    pub found_until : (events : List Event) (answers : List Answer) (k : Kernel D g) (device : D) → FindsMeanwhile g k.relations k.counters first k.core device → FoundUntil since first events answers k (kernel_device k)
        → FoundUntil since first events answers k device
    found_until events answers k device meanwhile was = record {
      behind = was.behind;
      last = was.last;
      goes = was.goes;
      ran = was.ran;
      answered = was.answered;
      later = λ i le. let before = was.later i le in let after = meanwhile.later in omega (arith, before, after);
      each = λ i c le left. ∥∥₁_elim (meanwhile.before (g.moment (kernel_device (was.behind i))) c (was.later i le) left) ∥∥₁_prop (⊎_elim
          (λ before. was.each i c le before)
          (λ f. ∣ last_finds i c le f ∣₁));
      begun = let before = was.begun in let after = meanwhile.later in omega (arith, before, after);
      all = λ c left. ∥∥₁_elim (meanwhile.before (g.moment since) c was.begun left) ∥∥₁_prop (⊎_elim
          (λ before. was.all c before)
          (λ f. ∣ last_finds 0 c (omega arith) f ∣₁));
      before = λ t c le left. ∥∥₁_elim (meanwhile.before t c (let begun = was.begun in omega (arith, le, begun)) left) ∥∥₁_prop (⊎_elim
          (λ before. was.before t c le before)
          (λ f. ∣ inr (last_finds 0 c (omega arith) f) ∣₁));
    }
      where
        last_finds : (i : ℕ) (c : List ℕ) → i ≤ length events → FindsCommits k.relations k.counters first k.core c → FindsBetween first was.behind i (length events) c
        last_finds i c le f = record {
          made = length events;
          past = le;
          within = omega arith;
          finds = subst (λ (m : Kernel D g). FindsCommits m.relations m.counters first m.core c) (sym was.last) f;
        }

    -- the device of a kernel itself
    pub since_itself : (k : Kernel D g) → since ≡ kernel_device k → Restarts first k → IsRelationCount k.relations → FindsSince since first k
    since_itself k same starts count = record {
      later = let at = ap g.moment same in omega (arith, at);
      each = λ c left. finds_now k c starts count (subst (λ (d : D). g.left_since (kernel_device k) (g.moment d) c) same left);
      before = λ t c le left. ∣ inl (subst (λ (d : D). g.left_since d t c) (sym same) left) ∣₁;
    }
