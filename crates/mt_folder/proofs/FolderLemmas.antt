-- Files by name: what is found under a name, and what is known of a folder after a change.
use Rattle.std.proofs.Common.{◌≡◌, ◌≢◌, ◌∙◌, ◌<◌, ◌+◌, ◌++◌, ◌∷◌, [], ℕ, suc, zero, Bool, true, false, cond, List, Option, Some, None, bytes_eq, length, get_or, option_map, is_some, refl, ap, sym, subst, arith, nat_lt, inl, inr}
use Rattle.std.specs.List.{find, position, position_or_len, slice_set}
use Rattle.std.specs.Option.{option_or}
use Rattle.std.proofs.lemmas.Bool.{cases_lt}
use Rattle.std.proofs.lemmas.Bool.Decides.{nat_tests}
use Rattle.std.proofs.lemmas.List.Folds.{find-append, find-set, find_past}
use Rattle.std.proofs.lemmas.List.Quantifiers.{position-Some}
use Rattle.std.proofs.lemmas.Slice.Eq.{bytes_eq-Decides}
use Rattle.mt_base.specs.declared.refusal.Refusal.{Refusal}
use Rattle.mt_folder.specs.declared.reason.Reason.{Reason}
use Rattle.mt_folder.specs.Folders.{AreKept, Files, Gives, IsFileRefusal, IsHeld, IsLent, IsThere, KnowsWhy, Puts, file_of, known_in}

File : Type 0
File = List ℕ × List ℕ

-- the name is the file's
abbrev pub is_named : List ℕ → (List ℕ × List ℕ) → Bool
is_named name f = bytes_eq f.0 name

-- none is found where none has a place
find_none : {X : Type 0} (p : X → Bool) (xs : List X) → position p xs ≡ None → find p xs ≡ None
find_none p [] none = refl
find_none p (x ∷ xs) none = go (p x) refl (λ rest. find_none p xs rest)
  where
    go : (t : Bool) → p x ≡ t → (position p xs ≡ None → find p xs ≡ None) → find p (x ∷ xs) ≡ None
    go true e rec =
        let t : nat_lt 0 (suc (length xs)) ≡ true = grind (arith, nat_tests) in
        let shown : position p (x ∷ xs) ≡ cond (nat_lt 0 (suc (length xs))) (Some 0) None = rw e refl in
        let bad : Some 0 ≡ None = sym (rw t at shown) ∙ none in
        cc
    go false e rec =
        let n = position_or_len p xs in
        elim (cases_lt n (length xs)) [
          | inl under ↦
              let t : nat_lt (1 + n) (suc (length xs)) ≡ true = grind (arith, nat_tests) in
              let shown : position p (x ∷ xs) ≡ cond (nat_lt (1 + n) (suc (length xs))) (Some (1 + n)) None = rw e refl in
              let bad : Some (1 + n) ≡ None = sym (rw t at shown) ∙ none in
              cc
          | inr over ↦
              let t : nat_lt n (length xs) ≡ false = grind (arith, nat_tests) in
              let rest : position p xs ≡ None = rw t refl in
              rw e (rec rest)
        ]

-- the first that passes
first_is : {X : Type 0} (p : X → Bool) (xs : List X) (i : ℕ) (x : X) → i < length xs → x ≡ get_or xs i x → p x ≡ true → ((k : ℕ) → k < i → p (get_or xs k x) ≡ false) → find p xs ≡ Some x
first_is p [] i x lt at hit before = absurd (omega arith)
first_is p (y ∷ ys) zero x lt at hit before = subst (λ z. cond (p z) (Some z) (find p ys) ≡ Some x) at (rw hit refl)
first_is p (y ∷ ys) (suc i) x lt at hit before =
    let miss : p y ≡ false = before 0 (omega arith) in
    rw miss (first_is p ys i x (omega arith) at hit (λ k below. before (suc k) (omega arith)))

place_is : {X : Type 0} (p : X → Bool) (xs : List X) (i : ℕ) → position p xs ≡ Some i → i ≡ position_or_len p xs
place_is p xs i at = go (nat_lt (position_or_len p xs) (length xs)) at
  where
    go : (t : Bool) → cond t (Some (position_or_len p xs)) None ≡ Some i → i ≡ position_or_len p xs
    go true e = cc
    go false e = absurd cc

pub no_place : (name : List ℕ) (files : List (List ℕ × List ℕ)) → None ≡ position (is_named name) files → file_of name files ≡ None
no_place name files none = ap (option_map (λ f. f.1)) (find_none (is_named name) files (sym none))

pub at_place : (name : List ℕ) (files : List (List ℕ × List ℕ)) (i : ℕ) (f : List ℕ × List ℕ) → Some i ≡ position (is_named name) files → f ≡ get_or files i f → file_of name files ≡ Some f.1
at_place name files i f place at =
    let first = position-Some (is_named name) files i f (sym place) in
    let hit : is_named name f ≡ true = ap (is_named name) at ∙ first.1 in
    ap (option_map (λ f. f.1)) (first_is (is_named name) files i f first.0 at hit first.2)

-- the file at that place gets other bytes
pub put_at : (name bytes : List ℕ) (files : List (List ℕ × List ℕ)) (i : ℕ) (f : List ℕ × List ℕ) → Some i ≡ position (is_named name) files → f ≡ get_or files i f
    → file_of name (slice_set files i (f.0, bytes)) ≡ Some bytes
put_at name bytes files i f place at =
    let first = position-Some (is_named name) files i f (sym place) in
    let hit : is_named name f ≡ true = ap (is_named name) at ∙ first.1 in
    ap (option_map (λ f. f.1)) (find-set (is_named name) files i (f.0, bytes) (place_is _ files i (sym place)) first.0 hit)

-- another name is not the file's
not_named : (name other own : List ℕ) → bytes_eq own name ≡ true → other ≢ name → bytes_eq own other ≡ false
not_named name other own hit apart = go (bytes_eq own other) refl
  where
    go : (t : Bool) → bytes_eq own other ≡ t → t ≡ false
    go true e = absurd (apart (sym ((bytes_eq-Decides own other).0 e) ∙ (bytes_eq-Decides own name).0 hit))
    go false e = refl

pub put_other : (name other bytes : List ℕ) (files : List (List ℕ × List ℕ)) (i : ℕ) (f : List ℕ × List ℕ) → Some i ≡ position (is_named name) files → f ≡ get_or files i f → other ≢ name
    → file_of other (slice_set files i (f.0, bytes)) ≡ file_of other files
put_other name other bytes files i f place at apart =
    let first = position-Some (is_named name) files i f (sym place) in
    let miss : is_named other f ≡ false = not_named name other f.0 (ap (is_named name) at ∙ first.1) apart in
    ap (option_map (λ f. f.1)) (find_past (is_named other) files i (f.0, bytes) f (ap (is_named other) (sym at) ∙ miss) miss)

-- a file behind the others
pub put_new : (name bytes : List ℕ) (files : List (List ℕ × List ℕ)) → None ≡ position (is_named name) files → file_of name (files ++ (name, bytes) ∷ []) ≡ Some bytes
put_new name bytes files none =
    let same : bytes_eq name name ≡ true = (bytes_eq-Decides name name).1 refl in
    let last : find (is_named name) ((name, bytes) ∷ []) ≡ Some (name, bytes) = rw same refl in
    ap (option_map (λ f. f.1)) (find-append (is_named name) files ((name, bytes) ∷ []) ∙ ap (λ o. option_or o (find (is_named name) ((name, bytes) ∷ []))) (find_none (is_named name) files (sym none)) ∙ last)

or_none : {X : Type 0} (o : Option X) → option_or o None ≡ o
or_none None = refl
or_none (Some x) = refl

pub new_other : (name other bytes : List ℕ) (files : List (List ℕ × List ℕ)) → other ≢ name → file_of other (files ++ (name, bytes) ∷ []) ≡ file_of other files
new_other name other bytes files apart =
    let miss : bytes_eq name other ≡ false = not_named name other name ((bytes_eq-Decides name name).1 refl) apart in
    let last : find (is_named other) ((name, bytes) ∷ []) ≡ None = rw miss refl in
    ap (option_map (λ f. f.1)) (find-append (is_named other) files ((name, bytes) ∷ []) ∙ ap (option_or (find (is_named other) files)) last ∙ or_none (find (is_named other) files))

-- ---- any folder

-- a device that is lent and comes back with the bytes of its file leaves each file as before
pub lent_and_back : (old mid new : Files) (name bytes : List ℕ) → IsHeld old name bytes → IsLent old mid name → Puts mid new name bytes → AreKept old new
lent_and_back old mid new name bytes held lent back = record {
  outcome = back.outcome ∙ lent.outcome;
  all = λ other. go other (bytes_eq other name) refl (is_some old) refl;
}
  where
    nothing : (files : Files) (n : List ℕ) → is_some files ≡ false → known_in files n ≡ None
    nothing None n none = refl
    nothing (Some f) n none = absurd cc

    go : (other : List ℕ) (t : Bool) → bytes_eq other name ≡ t → (k : Bool) → is_some old ≡ k → known_in new other ≡ known_in old other
    go other false e k is = let apart : other ≢ name = λ same. let yes : bytes_eq other name ≡ true = (bytes_eq-Decides other name).1 same in cc in back.others other apart ∙ lent.others other apart
    go other true e true is =
        let same : other ≡ name = (bytes_eq-Decides other name).0 e in
        let after : known_in new name ≡ Some bytes = back.held (back.outcome ∙ lent.outcome ∙ is) in
        let before : known_in old name ≡ Some bytes = held is in
        ap (known_in new) same ∙ after ∙ sym before ∙ sym (ap (known_in old) same)
    go other true e false is = nothing new other (back.outcome ∙ lent.outcome ∙ is) ∙ sym (nothing old other is)

-- the bytes of a file that is held, where they are known
pub held_known : (files : Files) (name bytes : List ℕ) → IsHeld files name bytes → Rattle.std.specs.Option.IfSome (known_in files name) (λ held. bytes ≡ held)
held_known None name bytes held = tt
held_known (Some f) name bytes held = let e : f name ≡ Some bytes = held refl in rw e refl

-- ---- a folder in memory

-- the file at the place of a name is given other bytes
pub gave : (old new : List (List ℕ × List ℕ)) (place : ℕ) (name bytes : List ℕ) → Some place ≡ position (is_named name) old → Gives old new place bytes → Puts (Some (λ n. file_of n old)) (Some (λ n. file_of n new)) name bytes
gave old new place name bytes at g = record {
  outcome = refl;
  held = λ u. ap (file_of name) g.given ∙ put_at name bytes old place g.file at g.at;
  others = λ other apart. ap (file_of other) g.given ∙ put_other name other bytes old place g.file at g.at apart;
}

-- a file of a name that there was not is added
pub added : (old new : List (List ℕ × List ℕ)) (name bytes : List ℕ) → None ≡ position (is_named name) old → new ≡ old ++ (name, bytes) ∷ [] → Puts (Some (λ n. file_of n old)) (Some (λ n. file_of n new)) name bytes
added old new name bytes none is = record {
  outcome = refl;
  held = λ u. ap (file_of name) is ∙ put_new name bytes old none;
  others = λ other apart. ap (file_of other) is ∙ new_other name other bytes old apart;
}

-- nothing is held where no file has the name
pub not_there : (files : List (List ℕ × List ℕ)) (name : List ℕ) → None ≡ position (is_named name) files → IsThere (Some (λ n. file_of n files)) name → ⊥
not_there files name none there = let none_held : file_of name files ≡ None = no_place name files none in let bad : false ≡ true = rw none_held at (there refl) in cc

-- ---- one change after another

pub kept_still : (files : Files) → AreKept files files
kept_still files = record { outcome = refl; all = λ name. refl }

pub kept_then : (old mid new : Files) → AreKept old mid → AreKept mid new → AreKept old new
kept_then old mid new before after = record { outcome = after.outcome ∙ before.outcome; all = λ name. after.all name ∙ before.all name }

pub put_then : (old mid new : Files) (name bytes : List ℕ) → AreKept old mid → Puts mid new name bytes → Puts old new name bytes
put_then old mid new name bytes before after = record {
  outcome = after.outcome ∙ before.outcome;
  held = after.held;
  others = λ other apart. after.others other apart ∙ before.all other;
}

pub lent_then : (old mid new : Files) (name : List ℕ) → AreKept old mid → IsLent mid new name → IsLent old new name
lent_then old mid new name before after = record {
  outcome = after.outcome ∙ before.outcome;
  there = after.there;
  others = λ other apart. after.others other apart ∙ before.all other;
}

-- ---- what is known after nothing has changed was known before

pub refused_before : (old mid : Files) (name : List ℕ) (why : Refusal) → AreKept old mid → IsFileRefusal (known_in mid name) why → IsFileRefusal (known_in old name) why
refused_before old mid name why kept is = subst (λ (held : Option (List ℕ)). IsFileRefusal held why) (kept.all name) is

still_none : (old mid : Files) → is_some mid ≡ is_some old → old ≡ None → mid ≡ None
still_none old None outcome none = refl
still_none old (Some files) outcome none = let bad : true ≡ false = outcome ∙ ap is_some none in cc

pub why_before : (old mid : Files) (why : Option Reason) → AreKept old mid → KnowsWhy mid why → KnowsWhy old why
why_before old mid why kept knows = λ none. knows (still_none old mid kept.outcome none)
