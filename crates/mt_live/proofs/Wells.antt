-- What is kept of the live transactions, as their list and the order of ends change.
use Rattle.std.proofs.Common.{◌≡◌, ℕ, zero, suc, ◌<◌, ◌≤◌, ◌+◌, ◌==◌, Bool, true, false, cond, not, filter, map, List, [], ◌∷◌, ◌++◌, Option, Some, None, is_some, get_or, set, take, drop, length, All, AllPairs, MatchOption, refl, ap, sym, ◌∙◌, subst, arith}
use Rattle.std.specs.Option.{option_map}
use Rattle.std.specs.List.{remove, position, position_from, sum_by}
use Rattle.std.proofs.lemmas.Iterator.Adapters.{position_from-zero}
use Rattle.std.proofs.lemmas.Bool.Decides.{Decides-eqb}
use Rattle.std.proofs.lemmas.List.{length-append, length-set, get_or-take, length-take-le}
use Rattle.std.proofs.lemmas.List.Elements.{All-push, All-set, All-cons}
use Rattle.std.proofs.lemmas.List.Quantifiers.{position-Some, all_pairs_push}
use Rattle.std.proofs.lemmas.List.Sums.{sum_by-set, sum_by-remove, sum_by_push, sum_by-le}
use Rattle.mt_live.specs.declared.places.Place.{Place}
use Rattle.mt_model.specs.History.{Call}
use Rattle.mt_live.specs.declared.transactions.Role.TheVariants.{TakenBack}
use Rattle.mt_live.specs.Entries.{Entry, calls, kept}
use Rattle.mt_live.specs.Machine.{put}
use Rattle.mt_live.specs.Undoing.{only, others, last_effect, cut_back, mark_last, settle_after}
use Rattle.mt_live.specs.Members.{Noted, Member, plain_call, fresh, with_room, with_noted, cut_at, cut_to, taken_back, last_place, set_role, with_role_at, with_mark, settle_calls, settled_at}
use Rattle.mt_live.specs.Lives.{member_of, is_member, has_room, entry_by, IsNumbered, AreNumbered, IsAbove, IsFirst, IsChanged, calls_in, calls_of, standing_by, numbers, count_from, AreRising, rooms, IsWell}
use Rattle.mt_live.proofs.Ends.{standing_noted, placed_noted, standing_left, placed_left, standing_own, nothing_to_undo, before_cut, IsUndone, undone_by, placed_undone, length-set_role, mark_none, marked_by, length-settle, settled_by}
use Rattle.mt_live.proofs.MemberLists.{there, member_of-set, member_of-push, member_of-remove, nobody_above, rising_set, rising_remove, rising_push}

-- ---- one transaction's list of calls is another

put_out : (f : ℕ → Option Member) (t : ℕ) (x : Option Member) (u : ℕ) → calls_in (put f t x u) ≡ put (λ v. calls_in (f v)) t (calls_in x) u
put_out f t x u = go (u == t)
  where
    go : (b : Bool) → calls_in (cond b x (f u)) ≡ cond b (calls_in x) (calls_in (f u))
    go true = refl
    go false = refl

pub put_same : {A : Type 0} (f : ℕ → A) (t : ℕ) (x : A) → x ≡ f t → (u : ℕ) → put f t x u ≡ f u
put_same f t x is u = go (u == t) refl
  where
    go : (b : Bool) → (u == t) ≡ b → cond b x (f u) ≡ f u
    go true e = is ∙ ap f (sym ((Decides-eqb u t).0 e))
    go false e = refl

pub calls_set : (ms : List Member) (t i : ℕ) (y : Member) → IsFirst ms t i → y.number ≡ t → calls_of (set ms i y) ≡ put (calls_of ms) t y.calls
calls_set ms t i y f is = λ k u. (ap calls_in (member_of-set ms t i y f is u) ∙ put_out (member_of ms) t (Some y) u) k

pub calls_remove : (begun : ℕ) (ms : List Member) (t i : ℕ) → IsFirst ms t i → AreRising 0 ms begun → calls_of (remove ms i) ≡ put (calls_of ms) t []
calls_remove begun ms t i f r = λ k u. (ap calls_in (member_of-remove 0 ms begun t i f r u) ∙ put_out (member_of ms) t None u) k

-- ---- the member at a place

pub is_there : (ms : List Member) (t i : ℕ) (m : Member) → IsFirst ms t i → m ≡ get_or ms i m → member_of ms t ≡ Some m
is_there ms t i m f is = there ms t i m f ∙ ap Some (sym is)

pub first_from : (ms : List Member) (t i : ℕ) → position (λ (m : Member). m.number == t) ms ≡ Some i → IsFirst ms t i
first_from ms t i h = record {
  within = (position-Some (λ (m : Member). m.number == t) ms i (fresh 0 0) h).0;
  own = λ d. (Decides-eqb (get_or ms i d).number t).0 (position-Some (λ (m : Member). m.number == t) ms i d h).1;
  before = λ k d less e. let test = (position-Some (λ (m : Member). m.number == t) ms i d h).2 k less in let is = (Decides-eqb (get_or ms k d).number t).1 e in cc;
}

pub changed : (ms : List Member) (t i : ℕ) (m y : Member) (f : Member → Member) → IsFirst ms t i → m ≡ get_or ms i m → y ≡ f m → y.number ≡ t → IsChanged ms (set ms i y) t f
changed ms t i m y f first is now own u =
    member_of-set ms t i y first own u
    ∙ ap (λ (x : Option Member). put (member_of ms) t x u) (ap Some now ∙ sym (ap (option_map f) (is_there ms t i m first is)))

-- ---- numbers

pub numbered_at : (begun : ℕ) (ms : List Member) (t i : ℕ) (m : Member) → All (λ (x : Member). IsNumbered begun x.number x) ms → IsFirst ms t i → m ≡ get_or ms i m → IsNumbered begun t m
numbered_at begun ms t i m all first is =
    let own : m.number ≡ t = ap (λ (x : Member). x.number) is ∙ first.own m in
    let its : IsNumbered begun m.number m = subst (λ (x : Member). IsNumbered begun x.number x) (sym is) (all i m first.within) in
    subst (λ n. IsNumbered begun n m) own its

own_number : (begun t : ℕ) (y : Member) → IsNumbered begun t y → IsNumbered begun y.number y
own_number begun t y n = subst (λ u. IsNumbered begun u y) (sym n.number) n

numbered_in : (begun : ℕ) (ms : List Member) → All (λ (x : Member). IsNumbered begun x.number x) ms → AreNumbered begun ms
numbered_in begun [] all t m is = absurd cc
numbered_in begun (x ∷ xs) all t m is = go (x.number == t) refl is (λ h. numbered_in begun xs (λ k d less. all (suc k) d (omega (arith, less))) t m h)
  where
    go : (b : Bool) → (x.number == t) ≡ b → cond b (Some x) (member_of xs t) ≡ Some m → (member_of xs t ≡ Some m → IsNumbered begun t m) → IsNumbered begun t m
    go true e h rec =
        let same : x ≡ m = cc in
        let first : IsNumbered begun x.number x = all 0 x (omega arith) in
        subst (λ n. IsNumbered begun n m) ((Decides-eqb x.number t).0 e) (subst (λ (y : Member). IsNumbered begun x.number y) same first)
    go false e h rec = rec h

pub nobody_numbered : (begun : ℕ) (ms : List Member) → ms ≡ [] → AreNumbered begun ms
nobody_numbered begun ms none = subst (AreNumbered begun) (sym none) (λ t m is. absurd cc)

pub numbered_of : (begun : ℕ) (ms : List Member) (os : List Place) (used capacity : ℕ) → IsWell begun ms os used capacity → AreNumbered begun ms
numbered_of begun ms os used capacity w = numbered_in begun ms w.numbered

same_numbered : (begun t : ℕ) (m y : Member) → y.number ≡ m.number → y.operations ≡ m.operations → y.calls ≡ m.calls → IsNumbered begun t m → IsNumbered begun t y
same_numbered begun t m y own operations calls n = record {
  number = own ∙ n.number;
  from_one = n.from_one;
  has_begun = n.has_begun;
  operations = ap length operations ∙ (n.operations ∙ sym (ap length calls));
  rising = subst (AllPairs (λ (a b : ℕ). a < b)) (sym operations) n.rising;
}

noted_numbered : (begun t : ℕ) (m y : Member) (o : ℕ) (c : Noted) → y ≡ with_noted m o c → All (λ (x : ℕ). x < o) m.operations → IsNumbered begun t m → IsNumbered begun t y
noted_numbered begun t m y o c now above n = subst (IsNumbered begun t) (sym now) (record {
  number = n.number;
  from_one = n.from_one;
  has_begun = n.has_begun;
  operations = let same = n.operations in omega (arith, same, length-append m.operations (o ∷ []), length-append m.calls (c ∷ []));
  rising = all_pairs_push (λ (a b : ℕ). a < b) m.operations o n.rising above;
})

cut_numbered : (begun t : ℕ) (m y : Member) (k : ℕ) → y ≡ cut_at m k → k ≤ length m.calls → IsNumbered begun t m → IsNumbered begun t y
cut_numbered begun t m y k now within n =
    let few : k ≤ length m.operations = let same = n.operations in omega (arith, same, within) in
    subst (IsNumbered begun t) (sym now) (record {
      number = n.number;
      from_one = n.from_one;
      has_begun = n.has_begun;
      operations = length-take-le k m.operations few ∙ sym (length-take-le k m.calls within);
      rising = λ i j d less end.
          let short : j < k = let size = length-take-le k m.operations few in omega (arith, size, end) in
          let first = get_or-take k m.operations i d (omega (arith, less, short)) in
          let second = get_or-take k m.operations j d short in
          let own = n.rising i j d less (omega (arith, short, few)) in
          omega (arith, first, second, own);
    })

-- ---- the whole

pub well_set : (begun : ℕ) (ms : List Member) (os : List Place) (used capacity t i : ℕ) (m y : Member) (os' : List Place) (used' capacity' : ℕ)
    → IsWell begun ms os used capacity → IsFirst ms t i → m ≡ get_or ms i m → y.number ≡ t
    → (IsNumbered begun t m → IsNumbered begun t y)
    → ((u : ℕ) → numbers u os' ≡ count_from 0 (length (put (calls_of ms) t y.calls u)))
    → (sum_by rooms (set ms i y) + rooms m ≡ sum_by rooms ms + rooms y → used' + sum_by rooms (set ms i y) ≤ capacity')
    → IsWell begun (set ms i y) os' used' capacity'
well_set begun ms os used capacity t i m y os' used' capacity' w first is own numbered placed room = record {
  rising = rising_set 0 ms begun t i y first own w.rising;
  numbered = All-set (λ (x : Member). IsNumbered begun x.number x) ms i y (own_number begun t y (numbered (numbered_at begun ms t i m w.numbered first is))) w.numbered;
  placed = λ u. placed u ∙ ap (λ f. count_from 0 (length (f u))) (sym (calls_set ms t i y first own));
  room = room (ap (λ (x : Member). sum_by rooms (set ms i y) + rooms x) is ∙ sum_by-set rooms ms i y m first.within);
}

none_from : (ms : List Member) (t i : ℕ) → position_from (λ (m : Member). m.number == t) i ms ≡ None → member_of ms t ≡ None
none_from [] t i h = refl
none_from (x ∷ xs) t i h = go (x.number == t) h (λ k. none_from xs t (i + 1) k)
  where
    go : (b : Bool) → cond b (Some i) (position_from (λ (m : Member). m.number == t) (i + 1) xs) ≡ None → (position_from (λ (m : Member). m.number == t) (i + 1) xs ≡ None → member_of xs t ≡ None) → cond b (Some x) (member_of xs t) ≡ None
    go true k rec = absurd cc
    go false k rec = rec k

pub found_or_none : (ms : List Member) (t : ℕ) (x : Option ℕ) → x ≡ position (λ (m : Member). m.number == t) ms → MatchOption x (member_of ms t ≡ None) (IsFirst ms t)
found_or_none ms t None h = none_from ms t 0 (sym (position_from-zero (λ (m : Member). m.number == t) ms) ∙ sym h)
found_or_none ms t (Some i) h = first_from ms t i (sym h)

-- ---- nothing of the calls changes

same_calls : (ms : List Member) (t i : ℕ) (m y : Member) → IsFirst ms t i → m ≡ get_or ms i m → y.calls ≡ m.calls → (u : ℕ) → put (calls_of ms) t y.calls u ≡ calls_of ms u
same_calls ms t i m y first is same u = put_same (calls_of ms) t y.calls (same ∙ sym (ap calls_in (is_there ms t i m first is))) u

pub same_standing : (ms : List Member) (os : List Place) (t i : ℕ) (m y : Member) → IsFirst ms t i → m ≡ get_or ms i m → y.number ≡ t → y.calls ≡ m.calls
    → standing_by (calls_of (set ms i y)) os ≡ standing_by (calls_of ms) os
same_standing ms os t i m y first is own same =
    ap (λ f. standing_by f os) (calls_set ms t i y first own ∙ (λ k u. same_calls ms t i m y first is same u k))

pub well_same : (begun : ℕ) (ms : List Member) (os : List Place) (used capacity t i : ℕ) (m y : Member) (capacity' : ℕ) → IsWell begun ms os used capacity → IsFirst ms t i → m ≡ get_or ms i m → y.number ≡ t → y.operations ≡ m.operations → y.calls ≡ m.calls
    → (sum_by rooms (set ms i y) + rooms m ≡ sum_by rooms ms + rooms y → used + sum_by rooms (set ms i y) ≤ capacity')
    → IsWell begun (set ms i y) os used capacity'
well_same begun ms os used capacity t i m y capacity' w first is own operations same room =
    well_set begun ms os used capacity t i m y os used capacity' w first is own
    (same_numbered begun t m y (own ∙ sym (ap (λ (x : Member). x.number) is ∙ first.own m)) operations same)
    (λ u. w.placed u ∙ ap (λ w'. count_from 0 (length w')) (sym (same_calls ms t i m y first is same u))) room

pub its_number : (ms : List Member) (t i : ℕ) (m : Member) → IsFirst ms t i → m ≡ get_or ms i m → m.number ≡ t
its_number ms t i m first is = ap (λ (x : Member). x.number) is ∙ first.own m

-- ---- one begins

begun_calls : (ms : List Member) (m : Member) → member_of ms m.number ≡ None → m.calls ≡ [] → (u : ℕ) → calls_of (ms ++ m ∷ []) u ≡ calls_of ms u
begun_calls ms m none empty u =
    ap calls_in (member_of-push ms m none u) ∙ (put_out (member_of ms) m.number (Some m) u
    ∙ put_same (calls_of ms) m.number m.calls (empty ∙ sym (ap calls_in none)) u)

one_more : (begun t : ℕ) (m : Member) → IsNumbered begun t m → IsNumbered (begun + 1) t m
one_more begun t m n = record {
  number = n.number;
  from_one = n.from_one;
  has_begun = let below = n.has_begun in omega (arith, below);
  operations = n.operations;
  rising = n.rising;
}

begun_numbered : (begun session number : ℕ) (m : Member) → number ≡ begun + 1 → m ≡ fresh number session → IsNumbered (begun + 1) m.number m
begun_numbered begun session number m next is = subst (λ (x : Member). IsNumbered (begun + 1) x.number x) (sym is) (record {
  number = refl;
  from_one = omega (arith, next);
  has_begun = omega (arith, next);
  operations = refl;
  rising = λ i j d less end. absurd (omega (arith, end));
})

pub begun_well : (begun : ℕ) (ms : List Member) (os : List Place) (used capacity session : ℕ) (number : ℕ) (m : Member) (new : List Member) → IsWell begun ms os used capacity
    → number ≡ begun + 1 → m ≡ fresh number session → new ≡ ms ++ m ∷ [] → IsWell (begun + 1) new os used capacity
begun_well begun ms os used capacity session number m new w next is now =
    let own : m.number ≡ begun + 1 = ap (λ (x : Member). x.number) is ∙ next in
    let none : member_of ms m.number ≡ None = nobody_above 0 ms begun m.number (omega (arith, own)) w.rising in
    let no_room : rooms m ≡ 0 = ap rooms is in
    let before = w.room in
    subst (λ xs. IsWell (begun + 1) xs os used capacity) (sym now) (record {
      rising = rising_push 0 ms begun m own w.rising;
      numbered = All-push (λ (x : Member). IsNumbered (begun + 1) x.number x) ms m
          (λ k d less. one_more begun (get_or ms k d).number (get_or ms k d) (w.numbered k d less)) (begun_numbered begun session number m next is);
      placed = λ u. w.placed u ∙ ap (λ cs. count_from 0 (length cs)) (sym (begun_calls ms m none (ap (λ (x : Member). x.calls) is) u));
      room = let sums = sum_by_push rooms ms m in omega (arith, sums, no_room, before);
    })

pub begun_unused : (begun : ℕ) (ms : List Member) (os : List Place) (used capacity number : ℕ) → IsWell begun ms os used capacity → number ≡ begun + 1 → member_of ms number ≡ None
begun_unused begun ms os used capacity number w next = nobody_above 0 ms begun number (omega (arith, next)) w.rising

pub begun_member : (ms : List Member) (session number : ℕ) (m : Member) (new : List Member) → member_of ms number ≡ None → m ≡ fresh number session → new ≡ ms ++ m ∷ []
    → (u : ℕ) → member_of new u ≡ put (member_of ms) number (Some (fresh number session)) u
begun_member ms session number m new none is now u =
    ap (λ xs. member_of xs u) (now ∙ ap (λ (x : Member). ms ++ x ∷ []) is) ∙ member_of-push ms (fresh number session) none u

pub begun_standing : (ms : List Member) (os : List Place) (session number : ℕ) (m : Member) (new : List Member) → member_of ms number ≡ None → m ≡ fresh number session → new ≡ ms ++ m ∷ []
    → standing_by (calls_of new) os ≡ standing_by (calls_of ms) os
begun_standing ms os session number m new none is now =
    ap (λ xs. standing_by (calls_of xs) os) (now ∙ ap (λ (x : Member). ms ++ x ∷ []) is)
    ∙ ap (λ f. standing_by f os) (λ k u. begun_calls ms (fresh number session) none refl u k)

pub must_be_there : (ms : List Member) (t : ℕ) → position (λ (m : Member). m.number == t) ms ≡ None → is_member ms t ≡ true → ⊥
must_be_there ms t h is =
    let none : member_of ms t ≡ None = found_or_none ms t None (sym h) in
    let not_there : is_member ms t ≡ false = ap is_some none in
    cc

-- ---- a state is set, or room is made

pub state_room : (ms : List Member) (m y : Member) (i used capacity : ℕ) → rooms y ≡ rooms m → used + sum_by rooms ms ≤ capacity
    → sum_by rooms (set ms i y) + rooms m ≡ sum_by rooms ms + rooms y → used + sum_by rooms (set ms i y) ≤ capacity
state_room ms m y i used capacity same room sums = omega (arith, same, room, sums)

pub rooms_few : (ms : List Member) → sum_by rooms ms ≤ length ms
rooms_few ms = let h = sum_by-le rooms 1 ms (each ms) in omega (arith, h)
  where
    one : (b : Bool) → cond b 1 0 ≤ 1
    one true = omega arith
    one false = omega arith

    each : (xs : List Member) → All (λ (m : Member). rooms m ≤ 1) xs
    each xs = λ k d less. one (get_or xs k d).has_room

pub room_well : (begun : ℕ) (ms : List Member) (os : List Place) (used capacity t i : ℕ) (m y : Member) (os' : List Place) (used' capacity' : ℕ) → IsWell begun ms os used capacity
    → IsFirst ms t i → m ≡ get_or ms i m → y ≡ with_room m → os' ≡ os → used' + length ms ≤ capacity' → IsWell begun (set ms i y) os' used' capacity'
room_well begun ms os used capacity t i m y os' used' capacity' w first is now same room =
    let few = rooms_few (set ms i y) in
    let size : length (set ms i y) ≡ length ms = length-set ms i y in
    well_set begun ms os used capacity t i m y os' used' capacity' w first is (ap (λ (x : Member). x.number) now ∙ its_number ms t i m first is)
    (same_numbered begun t m y (ap (λ (x : Member). x.number) now) (ap (λ (x : Member). x.operations) now) (ap (λ (x : Member). x.calls) now))
    (λ u. ap (numbers u) same ∙ (w.placed u ∙ ap (λ cs. count_from 0 (length cs)) (sym (same_calls ms t i m y first is (ap (λ (x : Member). x.calls) now) u))))
    (λ sums. omega (arith, few, size, room))

-- ---- a call is noted

pub room_there : (ms : List Member) (t i : ℕ) (m : Member) → IsFirst ms t i → m ≡ get_or ms i m → has_room (member_of ms t) ≡ true → m.has_room ≡ true
room_there ms t i m first is h = sym (ap has_room (is_there ms t i m first is)) ∙ h

pub its_calls : (ms : List Member) (t i : ℕ) (m : Member) → IsFirst ms t i → m ≡ get_or ms i m → calls_of ms t ≡ m.calls
its_calls ms t i m first is = ap calls_in (is_there ms t i m first is)

one_room : (m : Member) → m.has_room ≡ true → rooms m ≡ 1
one_room m h = rw h refl

-- the list of ends has a place for it
pub place_left : (begun : ℕ) (ms : List Member) (os : List Place) (used capacity t i : ℕ) (m : Member) → IsWell begun ms os used capacity → IsFirst ms t i → m ≡ get_or ms i m → m.has_room ≡ true
    → used < capacity
place_left begun ms os used capacity t i m w first is h =
    let sums = sum_by-remove rooms ms i m first.within in
    let mine : rooms (get_or ms i m) ≡ 1 = ap rooms (sym is) ∙ one_room m h in
    let room = w.room in
    omega (arith, sums, mine, room)

calls_noted : (ms : List Member) (t i : ℕ) (m y : Member) (o : ℕ) (c : Noted) → IsFirst ms t i → m ≡ get_or ms i m → y ≡ with_noted m o c → y.calls ≡ calls_of ms t ++ c ∷ []
calls_noted ms t i m y o c first is now = ap (λ (x : Member). x.calls) now ∙ ap (λ cs. cs ++ c ∷ []) (sym (its_calls ms t i m first is))

noted_at : (ms : List Member) (t i : ℕ) (l : Member) (index : ℕ) → IsFirst ms t i → l ≡ get_or ms i l → index ≡ length l.calls → index ≡ length (calls_of ms t)
noted_at ms t i l index first is at' = at' ∙ ap length (sym (its_calls ms t i l first is))

pub noted_well : (begun : ℕ) (ms : List Member) (os : List Place) (used capacity t i : ℕ) (m y l : Member) (o : ℕ) (c : Noted) (index : ℕ) (os' : List Place) (used' capacity' : ℕ) → IsWell begun ms os used capacity
    → IsFirst ms t i → m ≡ get_or ms i m → y ≡ with_noted m o c → l ≡ get_or ms i l → index ≡ length l.calls → m.has_room ≡ true → IsAbove o (member_of ms t)
    → os' ≡ os ++ record { txn = t; index = index } ∷ [] → used' ≡ used + 1 → capacity' ≡ capacity → IsWell begun (set ms i y) os' used' capacity'
noted_well begun ms os used capacity t i m y l o c index os' used' capacity' w first is now lis at' h above more longer same =
    let place = noted_at ms t i l index first lis at' in
    let mine = one_room m h in
    let none : rooms y ≡ 0 = ap rooms now in
    let room = w.room in
    well_set begun ms os used capacity t i m y os' used' capacity' w first is (ap (λ (x : Member). x.number) now ∙ its_number ms t i m first is)
    (noted_numbered begun t m y o c now (subst (IsAbove o) (is_there ms t i m first is) above))
    (λ u. ap (numbers u) (more ∙ ap (λ (n : ℕ). os ++ record { txn = t; index = n } ∷ []) place) ∙ (placed_noted (calls_of ms) t c os w.placed u
    ∙ ap (λ cs. count_from 0 (length (put (calls_of ms) t cs u))) (sym (calls_noted ms t i m y o c first is now))))
    (λ sums. omega (arith, sums, mine, none, room, longer, same))

pub noted_standing : (begun : ℕ) (ms : List Member) (os : List Place) (used capacity t i : ℕ) (m y l : Member) (o : ℕ) (c : Noted) (index : ℕ) (os' : List Place) → IsWell begun ms os used capacity
    → IsFirst ms t i → m ≡ get_or ms i m → y ≡ with_noted m o c → l ≡ get_or ms i l → index ≡ length l.calls
    → os' ≡ os ++ record { txn = t; index = index } ∷ [] → standing_by (calls_of (set ms i y)) os' ≡ standing_by (calls_of ms) os ++ entry_by t c ∷ []
noted_standing begun ms os used capacity t i m y l o c index os' w first is now lis at' more =
    let place = noted_at ms t i l index first lis at' in
    ap (λ f. standing_by f os') (calls_set ms t i y first (ap (λ (x : Member). x.number) now ∙ its_number ms t i m first is)
    ∙ ap (put (calls_of ms) t) (calls_noted ms t i m y o c first is now))
    ∙ (ap (standing_by (put (calls_of ms) t (calls_of ms t ++ c ∷ []))) (more ∙ ap (λ (n : ℕ). os ++ record { txn = t; index = n } ∷ []) place)
    ∙ standing_noted (calls_of ms) t c os (w.placed t))

-- ---- the last effect, and its end

pub undone_at : (begun : ℕ) (ms : List Member) (os : List Place) (used capacity t i : ℕ) (m : Member) (k : ℕ) → IsWell begun ms os used capacity → IsFirst ms t i → m ≡ get_or ms i m
    → last_place m.calls ≡ Some k → IsUndone (calls_of ms) t k os
undone_at begun ms os used capacity t i m k w first is last =
    undone_by (calls_of ms) t k os 0 (length (calls_of ms t)) (calls_of ms t) k (w.placed t) refl refl (ap last_place (its_calls ms t i m first is) ∙ last) (omega arith)

pub nothing_undone : (begun : ℕ) (ms : List Member) (os : List Place) (used capacity t : ℕ) → IsWell begun ms os used capacity → last_place (calls_of ms t) ≡ None → last_effect t (standing_by (calls_of ms) os) ≡ None
nothing_undone begun ms os used capacity t w last =
    nothing_to_undo (calls_of ms) t os 0 (length (calls_of ms t)) (calls_of ms t) (w.placed t) refl refl last

pub no_effect : (begun : ℕ) (ms : List Member) (os : List Place) (used capacity t i : ℕ) (m : Member) → IsWell begun ms os used capacity → IsFirst ms t i → m ≡ get_or ms i m → last_place m.calls ≡ None
    → last_effect t (standing_by (calls_of ms) os) ≡ None
no_effect begun ms os used capacity t i m w first is last =
    nothing_undone begun ms os used capacity t w (ap last_place (its_calls ms t i m first is) ∙ last)

read_at : (cs : List Noted) (k : ℕ) (c d : Noted) (behind : List Noted) → drop k cs ≡ c ∷ behind → get_or cs k d ≡ c
read_at [] zero c d behind h = absurd cc
read_at [] (suc k) c d behind h = absurd cc
read_at (x ∷ cs) zero c d behind h = cc
read_at (x ∷ cs) (suc k) c d behind h = read_at cs k c d behind h

-- the call that is read there is that of the last effect
pub read_last : (begun : ℕ) (ms : List Member) (os : List Place) (used capacity t i j : ℕ) (m l : Member) (k : ℕ) (c : Call) → IsWell begun ms os used capacity → IsFirst ms t i → m ≡ get_or ms i m → l ≡ get_or ms i l
    → last_place m.calls ≡ Some k → ((d : Noted) → c ≡ plain_call (get_or l.calls k d)) → option_map (λ (e : Entry). (e.op, e.reply)) (last_effect t (standing_by (calls_of ms) os)) ≡ Some c
read_last begun ms os used capacity t i j m l k c w first is lis last read =
    let u = undone_at begun ms os used capacity t i m k w first is last in
    let d : drop k l.calls ≡ u.call ∷ u.behind = ap (drop k) (sym (its_calls ms t i l first lis)) ∙ u.there in
    ap (option_map (λ (e : Entry). (e.op, e.reply))) u.last
    ∙ ap Some (sym (read u.call ∙ ap plain_call (read_at l.calls k u.call u.call u.behind d)))

pub undone_well : (begun : ℕ) (ms : List Member) (os : List Place) (used capacity t i : ℕ) (m y : Member) (k : ℕ) (os' : List Place) (used' capacity' : ℕ) → IsWell begun ms os used capacity
    → IsFirst ms t i → m ≡ get_or ms i m → y ≡ cut_at m k → k ≤ length m.calls → os' ≡ filter (before_cut t k) os → used' ≤ used → capacity' ≡ capacity → IsWell begun (set ms i y) os' used' capacity'
undone_well begun ms os used capacity t i m y k os' used' capacity' w first is now within less shorter same =
    let its = its_calls ms t i m first is in
    let cut : y.calls ≡ take k (calls_of ms t) = ap (λ (x : Member). x.calls) now ∙ ap (take k) (sym its) in
    let rooms_same : rooms y ≡ rooms m = ap rooms now in
    let few : k ≤ length (calls_of ms t) = subst (λ n. k ≤ n) (ap length (sym its)) within in
    let room = w.room in
    well_set begun ms os used capacity t i m y os' used' capacity' w first is (ap (λ (x : Member). x.number) now ∙ its_number ms t i m first is)
    (cut_numbered begun t m y k now within)
    (λ u. ap (numbers u) less ∙ (placed_undone (calls_of ms) t k os few w.placed u ∙ ap (λ cs. count_from 0 (length (put (calls_of ms) t cs u))) (sym cut)))
    (λ sums. omega (arith, sums, rooms_same, room, shorter, same))

pub undone_standing : (begun : ℕ) (ms : List Member) (os : List Place) (used capacity t i : ℕ) (m l y : Member) (k : ℕ) (os' : List Place) → IsWell begun ms os used capacity
    → IsFirst ms t i → m ≡ get_or ms i m → l ≡ get_or ms i l → last_place l.calls ≡ Some k → y ≡ cut_at m k → os' ≡ filter (before_cut t k) os
    → standing_by (calls_of (set ms i y)) os' ≡ cut_back t (standing_by (calls_of ms) os)
undone_standing begun ms os used capacity t i m l y k os' w first is lis last now less =
    let u = undone_at begun ms os used capacity t i l k w first lis last in
    let cut : y.calls ≡ take k (calls_of ms t) = ap (λ (x : Member). x.calls) now ∙ ap (take k) (sym (its_calls ms t i m first is)) in
    ap (λ f. standing_by f os') (calls_set ms t i y first (ap (λ (x : Member). x.number) now ∙ its_number ms t i m first is) ∙ ap (put (calls_of ms) t) cut)
    ∙ (ap (standing_by (put (calls_of ms) t (take k (calls_of ms t)))) less ∙ sym u.cut)

pub same_two : (ms : List Member) (t i : ℕ) (m l : Member) → IsFirst ms t i → m ≡ get_or ms i m → l ≡ get_or ms i l → m ≡ l
same_two ms t i m l first is lis = let e : Some m ≡ Some l = sym (is_there ms t i m first is) ∙ is_there ms t i l first lis in cc

pub undone_member : (ms : List Member) (t i : ℕ) (m l y : Member) (k : ℕ) → IsFirst ms t i → m ≡ get_or ms i m → l ≡ get_or ms i l → last_place l.calls ≡ Some k → y ≡ cut_at m k → IsChanged ms (set ms i y) t taken_back
undone_member ms t i m l y k first is lis last now =
    let back : taken_back m ≡ cut_at m k = ap (cut_to m) (ap (λ (x : Member). last_place x.calls) (same_two ms t i m l first is lis) ∙ last) in
    changed ms t i m y taken_back first is (now ∙ sym back) (ap (λ (x : Member). x.number) now ∙ its_number ms t i m first is)

pub nothing_member : (ms : List Member) (t i : ℕ) (l : Member) → IsFirst ms t i → l ≡ get_or ms i l → last_place l.calls ≡ None → IsChanged ms ms t taken_back
nothing_member ms t i l first lis last u =
    let found = is_there ms t i l first lis in
    let back : taken_back l ≡ l = ap (cut_to l) last in
    sym (put_same (member_of ms) t (option_map taken_back (member_of ms t)) (ap (option_map taken_back) found ∙ (ap Some back ∙ sym found)) u)

-- ---- the last effect is taken back, and a transaction is back

-- other roles, on the same calls
roles_well : (begun : ℕ) (ms : List Member) (os : List Place) (used capacity t i : ℕ) (m y : Member) (cs : List Noted) → IsWell begun ms os used capacity → IsFirst ms t i → m ≡ get_or ms i m
    → y ≡ record m { calls = cs } → length cs ≡ length m.calls → IsWell begun (set ms i y) os used capacity
roles_well begun ms os used capacity t i m y cs w first is now size =
    let rooms_same : rooms y ≡ rooms m = ap rooms now in
    let room = w.room in
    let long : length y.calls ≡ length (calls_of ms t) = ap (λ (x : Member). length x.calls) now ∙ (size ∙ sym (ap length (its_calls ms t i m first is))) in
    well_set begun ms os used capacity t i m y os used capacity w first is (ap (λ (x : Member). x.number) now ∙ its_number ms t i m first is)
    (λ n. subst (IsNumbered begun t) (sym now) (record { number = n.number; from_one = n.from_one; has_begun = n.has_begun; operations = n.operations ∙ sym size; rising = n.rising }))
    (λ u. w.placed u ∙ ap (count_from 0) (sym (lengths u long)))
    (λ sums. omega (arith, sums, rooms_same, room))
  where
    lengths : (u : ℕ) → length y.calls ≡ length (calls_of ms t) → length (put (calls_of ms) t y.calls u) ≡ length (calls_of ms u)
    lengths u long = go (u == t) refl
      where
        go : (b : Bool) → (u == t) ≡ b → length (cond b y.calls (calls_of ms u)) ≡ length (calls_of ms u)
        go true own = long ∙ ap (λ v. length (calls_of ms v)) (sym ((Decides-eqb u t).0 own))
        go false own = refl

pub marked_well : (begun : ℕ) (ms : List Member) (os : List Place) (used capacity t i : ℕ) (m y : Member) (k : ℕ) → IsWell begun ms os used capacity → IsFirst ms t i → m ≡ get_or ms i m
    → y ≡ with_role_at m k TakenBack → IsWell begun (set ms i y) os used capacity
marked_well begun ms os used capacity t i m y k w first is now =
    roles_well begun ms os used capacity t i m y (set_role m.calls k TakenBack) w first is now (length-set_role m.calls k TakenBack)

pub marked_standing : (begun : ℕ) (ms : List Member) (os : List Place) (used capacity t i : ℕ) (m l y : Member) (k : ℕ) → IsWell begun ms os used capacity → IsFirst ms t i → m ≡ get_or ms i m → l ≡ get_or ms i l
    → last_place l.calls ≡ Some k → y ≡ with_role_at m k TakenBack → standing_by (calls_of (set ms i y)) os ≡ mark_last t (standing_by (calls_of ms) os)
marked_standing begun ms os used capacity t i m l y k w first is lis last now =
    let marks : y.calls ≡ set_role (calls_of ms t) k TakenBack = ap (λ (x : Member). x.calls) now ∙ ap (λ cs. set_role cs k TakenBack) (sym (its_calls ms t i m first is)) in
    ap (λ f. standing_by f os) (calls_set ms t i y first (ap (λ (x : Member). x.number) now ∙ its_number ms t i m first is) ∙ ap (put (calls_of ms) t) marks)
    ∙ sym (marked_by (calls_of ms) t k os 0 (length (calls_of ms t)) (calls_of ms t) k (w.placed t) refl refl (ap last_place (its_calls ms t i l first lis) ∙ last) (omega arith))

pub marked_member : (ms : List Member) (t i : ℕ) (m l y : Member) (k : ℕ) → IsFirst ms t i → m ≡ get_or ms i m → l ≡ get_or ms i l → last_place l.calls ≡ Some k → y ≡ with_role_at m k TakenBack
    → IsChanged ms (set ms i y) t (λ x. with_mark x (last_place x.calls))
marked_member ms t i m l y k first is lis last now =
    let back : with_mark m (last_place m.calls) ≡ with_role_at m k TakenBack = ap (with_mark m) (ap (λ (x : Member). last_place x.calls) (same_two ms t i m l first is lis) ∙ last) in
    changed ms t i m y (λ x. with_mark x (last_place x.calls)) first is (now ∙ sym back) (ap (λ (x : Member). x.number) now ∙ its_number ms t i m first is)

pub unmarked_member : (ms : List Member) (t i : ℕ) (l : Member) → IsFirst ms t i → l ≡ get_or ms i l → last_place l.calls ≡ None → IsChanged ms ms t (λ x. with_mark x (last_place x.calls))
unmarked_member ms t i l first lis last u =
    let found = is_there ms t i l first lis in
    let back : with_mark l (last_place l.calls) ≡ l = ap (with_mark l) last in
    sym (put_same (member_of ms) t (option_map (λ x. with_mark x (last_place x.calls)) (member_of ms t)) (ap (option_map (λ x. with_mark x (last_place x.calls))) found ∙ (ap Some back ∙ sym found)) u)

pub unmarked_standing : (begun : ℕ) (ms : List Member) (os : List Place) (used capacity t i : ℕ) (l : Member) → IsWell begun ms os used capacity → IsFirst ms t i → l ≡ get_or ms i l → last_place l.calls ≡ None
    → mark_last t (standing_by (calls_of ms) os) ≡ standing_by (calls_of ms) os
unmarked_standing begun ms os used capacity t i l w first lis last = mark_none t (standing_by (calls_of ms) os) (no_effect begun ms os used capacity t i l w first lis last)

pub settled_well : (begun : ℕ) (ms : List Member) (os : List Place) (used capacity t i : ℕ) (m y : Member) (n : ℕ) → IsWell begun ms os used capacity → IsFirst ms t i → m ≡ get_or ms i m
    → y ≡ settled_at n m → IsWell begun (set ms i y) os used capacity
settled_well begun ms os used capacity t i m y n w first is now =
    roles_well begun ms os used capacity t i m y (settle_calls n m.calls) w first is now (length-settle n m.calls)

pub settled_standing : (begun : ℕ) (ms : List Member) (os : List Place) (used capacity t i : ℕ) (m y : Member) (n : ℕ) → IsWell begun ms os used capacity → IsFirst ms t i → m ≡ get_or ms i m
    → y ≡ settled_at n m → standing_by (calls_of (set ms i y)) os ≡ settle_after t n (standing_by (calls_of ms) os)
settled_standing begun ms os used capacity t i m y n w first is now =
    let calls_now : y.calls ≡ settle_calls n (calls_of ms t) = ap (λ (x : Member). x.calls) now ∙ ap (settle_calls n) (sym (its_calls ms t i m first is)) in
    ap (λ f. standing_by f os) (calls_set ms t i y first (ap (λ (x : Member). x.number) now ∙ its_number ms t i m first is) ∙ ap (put (calls_of ms) t) calls_now)
    ∙ sym (settled_by (calls_of ms) (settle_calls n (calls_of ms t)) t os 0 (length (calls_of ms t)) (calls_of ms t) n (w.placed t) refl refl refl)

pub settled_member : (ms : List Member) (t i : ℕ) (m y : Member) (n : ℕ) → IsFirst ms t i → m ≡ get_or ms i m → y ≡ settled_at n m → IsChanged ms (set ms i y) t (settled_at n)
settled_member ms t i m y n first is now =
    changed ms t i m y (settled_at n) first is now (ap (λ (x : Member). x.number) now ∙ its_number ms t i m first is)

-- ---- one leaves

all_removed : (P : Member → Type 0) (ms : List Member) (i : ℕ) → All P ms → All P (remove ms i)
all_removed P [] zero all = all
all_removed P [] (suc i) all = all
all_removed P (x ∷ xs) zero all = λ k d less. all (suc k) d (omega (arith, less))
all_removed P (x ∷ xs) (suc i) all = All-cons P x (remove xs i) (all 0 x (omega arith)) (all_removed P xs i (λ k d less. all (suc k) d (omega (arith, less))))

pub left_well : (begun : ℕ) (ms : List Member) (os : List Place) (used capacity t i : ℕ) (os' : List Place) (new : List Member) (used' capacity' : ℕ) → IsWell begun ms os used capacity
    → IsFirst ms t i → os' ≡ filter (λ (o : Place). not (o.txn == t)) os → new ≡ remove ms i → used' ≤ used → capacity' ≡ capacity → IsWell begun new os' used' capacity'
left_well begun ms os used capacity t i os' new used' capacity' w first less now shorter same =
    let sums = sum_by-remove rooms ms i (fresh 0 0) first.within in
    let room = w.room in
    subst (λ xs. IsWell begun xs os' used' capacity') (sym now) (record {
      rising = rising_remove 0 ms begun i w.rising;
      numbered = all_removed (λ (x : Member). IsNumbered begun x.number x) ms i w.numbered;
      placed = λ u. ap (numbers u) less ∙ (placed_left (calls_of ms) t os w.placed u ∙ ap (λ f. count_from 0 (length (f u))) (sym (calls_remove begun ms t i first w.rising)));
      room = omega (arith, sums, room, shorter, same);
    })

pub left_standing : (begun : ℕ) (ms : List Member) (os : List Place) (used capacity t i : ℕ) (os' : List Place) (new : List Member) → IsWell begun ms os used capacity
    → IsFirst ms t i → os' ≡ filter (λ (o : Place). not (o.txn == t)) os → new ≡ remove ms i → standing_by (calls_of new) os' ≡ kept (others t) (standing_by (calls_of ms) os)
left_standing begun ms os used capacity t i os' new w first less now =
    ap (λ xs. standing_by (calls_of xs) os') now ∙ (ap (standing_by (calls_of (remove ms i))) less
    ∙ standing_left (calls_of ms) (calls_of (remove ms i)) t os (λ u apart. ap (λ f. f u) (calls_remove begun ms t i first w.rising) ∙ (let is = apart in rw is refl)))

pub left_member : (begun : ℕ) (ms : List Member) (os : List Place) (used capacity t i : ℕ) (new : List Member) → IsWell begun ms os used capacity → IsFirst ms t i → new ≡ remove ms i
    → (u : ℕ) → member_of new u ≡ put (member_of ms) t None u
left_member begun ms os used capacity t i new w first now u = ap (λ xs. member_of xs u) now ∙ member_of-remove 0 ms begun t i first w.rising u

-- its calls are its entries
pub left_calls : (begun : ℕ) (ms : List Member) (os : List Place) (used capacity t i : ℕ) (m : Member) → IsWell begun ms os used capacity → IsFirst ms t i → m ≡ get_or ms i m
    → map plain_call m.calls ≡ calls (kept (only t) (standing_by (calls_of ms) os))
left_calls begun ms os used capacity t i m w first is =
    ap (map plain_call) (sym (its_calls ms t i m first is))
    ∙ sym (ap calls (standing_own (calls_of ms) t os 0 (length (calls_of ms t)) (calls_of ms t) (w.placed t) refl refl) ∙ back (calls_of ms t))
  where
    back : (cs : List Noted) → calls (map (entry_by t) cs) ≡ map plain_call cs
    back [] = refl
    back (c ∷ cs) = ap (λ w'. plain_call c ∷ w') (back cs)

pub same_size : (ms : List Member) (t i : ℕ) (m l : Member) (k : ℕ) → IsFirst ms t i → m ≡ get_or ms i m → l ≡ get_or ms i l → k < length l.calls → k ≤ length m.calls
same_size ms t i m l k first is lis within =
    let same : length m.calls ≡ length l.calls = ap (λ (x : Member). length x.calls) (same_two ms t i m l first is lis) in
    omega (arith, same, within)

-- ---- for callers

-- who is changed is there still, and so are all others
pub still_member : (old new : List Member) (t : ℕ) (f : Member → Member) → IsChanged old new t f → (u : ℕ) → is_member new u ≡ is_member old u
still_member old new t f h u = ap is_some (h u) ∙ go (u == t) refl
  where
    some_map : (x : Option Member) → is_some (option_map f x) ≡ is_some x
    some_map None = refl
    some_map (Some m) = refl

    go : (b : Bool) → (u == t) ≡ b → is_some (cond b (option_map f (member_of old t)) (member_of old u)) ≡ is_some (member_of old u)
    go true is = some_map (member_of old t) ∙ ap (λ v. is_some (member_of old v)) (sym ((Decides-eqb u t).0 is))
    go false is = refl

-- where room was made, there is room
pub room_made : (old new : List Member) (t : ℕ) → IsChanged old new t with_room → is_member old t ≡ true → has_room (member_of new t) ≡ true
room_made old new t h there =
    let self = (Decides-eqb t t).1 refl in
    ap has_room (h t) ∙ rw self (go (member_of old t) there)
  where
    go : (x : Option Member) → is_some x ≡ true → has_room (option_map with_room x) ≡ true
    go None k = absurd cc
    go (Some m) k = refl

-- where a number is above those of all operations, it is above those of all once one transaction is changed so
pub still_above : (old new : List Member) (t n : ℕ) (f : Member → Member) → IsChanged old new t f → ((m : Member) → IsAbove n (Some m) → IsAbove n (Some (f m)))
    → ((u : ℕ) → IsAbove n (member_of old u)) → (u : ℕ) → IsAbove n (member_of new u)
still_above old new t n f h keeps all u = subst (IsAbove n) (sym (h u)) (go (u == t))
  where
    through : (x : Option Member) → IsAbove n x → IsAbove n (option_map f x)
    through None k = tt
    through (Some m) k = keeps m k

    go : (b : Bool) → IsAbove n (cond b (option_map f (member_of old t)) (member_of old u))
    go true = through (member_of old t) (all t)
    go false = all u

-- two changes of one transaction, one after the other
pub changed_twice : (old new last : List Member) (t : ℕ) (f g : Member → Member) → IsChanged old new t f → IsChanged new last t g → IsChanged old last t (λ m. g (f m))
changed_twice old new last t f g h k u = k u ∙ go (u == t) refl
  where
    self : (t == t) ≡ true
    self = (Decides-eqb t t).1 refl

    map_twice : (x : Option Member) → option_map g (option_map f x) ≡ option_map (λ m. g (f m)) x
    map_twice None = refl
    map_twice (Some m) = refl

    its : member_of new t ≡ option_map f (member_of old t)
    its = h t ∙ ap (λ b. cond b (option_map f (member_of old t)) (member_of old t)) self

    go : (b : Bool) → (u == t) ≡ b → cond b (option_map g (member_of new t)) (member_of new u) ≡ cond b (option_map (λ m. g (f m)) (member_of old t)) (member_of old u)
    go true is = ap (option_map g) its ∙ map_twice (member_of old t)
    go false is = h u ∙ ap (λ b. cond b (option_map f (member_of old t)) (member_of old u)) is

-- a change that leaves the room, leaves it
pub room_still : (old new : List Member) (t : ℕ) (f : Member → Member) → IsChanged old new t f → ((m : Member) → (f m).has_room ≡ m.has_room) → has_room (member_of new t) ≡ has_room (member_of old t)
room_still old new t f h keeps = ap has_room (h t ∙ ap (λ b. cond b (option_map f (member_of old t)) (member_of old t)) ((Decides-eqb t t).1 refl)) ∙ go (member_of old t)
  where
    go : (x : Option Member) → has_room (option_map f x) ≡ has_room x
    go None = refl
    go (Some m) = keeps m

pub above_still : (old new : List Member) (t n : ℕ) (f : Member → Member) → IsChanged old new t f → ((m : Member) → (f m).operations ≡ m.operations) → IsAbove n (member_of old t) → IsAbove n (member_of new t)
above_still old new t n f h keeps above = subst (IsAbove n) (sym (h t ∙ ap (λ b. cond b (option_map f (member_of old t)) (member_of old t)) ((Decides-eqb t t).1 refl))) (go (member_of old t) above)
  where
    go : (x : Option Member) → IsAbove n x → IsAbove n (option_map f x)
    go None k = tt
    go (Some m) k = subst (All (λ (o : ℕ). o < n)) (sym (keeps m)) k

-- what is marked keeps its room and its operations
pub marked_room : (m : Member) (at : Option ℕ) → (with_mark m at).has_room ≡ m.has_room
marked_room m None = refl
marked_room m (Some n) = refl

pub marked_operations : (m : Member) (at : Option ℕ) → (with_mark m at).operations ≡ m.operations
marked_operations m None = refl
marked_operations m (Some n) = refl
