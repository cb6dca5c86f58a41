-- Scripts that were read, one after the other.
use Rattle.std.proofs.Common.{◌≡◌, ◌<◌, ◌+◌, ◌∙◌, inl, suc, ℕ, Bool, true, false, cond, List, [], ◌∷◌, ◌++◌, Option, Some, None, IfSome, length, take, drop, get_or, map, is_some, refl, ap, sym, subst, arith, take-append-drop, length-take-le, append_assoc, rules}
use Rattle.std.proofs.Math.Seq.{drop-cons}
use Rattle.std.specs.Io.KnownBytes.{Consumes, IsAtEnd}
use Rattle.std.proofs.lemmas.List.{length-map, map-append, map_more}
use Rattle.mt_base.specs.declared.refusal.Refusal.TheVariants as refusal
use Rattle.mt_script.specs.Scripts.{IsScript}
use Rattle.mt_script.specs.Scripts.{lines_in}
use Rattle.mt_script.specs.declared.reader.Script.{Script}
use Rattle.mt_script.specs.declared.lines.Line.{Line}
use Rattle.mt_folder.specs.Folders.{AreKept, Files, ReadsAll, known_in}
use Rattle.mt_script.specs.declared.words.ScriptWord.{ScriptWord}
use Rattle.mt_report.specs.declared.read_faults.ReadFault.{ReadFault}
use Rattle.mt_report.specs.declared.read_faults.ReadFault.TheVariants.{Refused}
use Rattle.mt_cli.specs.declared.text_faults.TheConstants.{MAX_TEXT_BYTES}
use Rattle.mt_cli.specs.Reads.{AreRead, AreUnread, IsReadAt, IsUnreadScript, named_bytes, file_in, held_by, input_behind, is_fed, is_overlong, none_read, one_read, source_of}
use Rattle.mt_report.specs.ReadFaults.{is_input}

-- the file that a name names has the bytes of its source
pub held_by_file : (files : Files) (name input : Option (List ℕ)) → held_by files (file_in name) input ≡ source_of files name input
held_by_file files None input = refl
held_by_file files (Some name) input = go (is_input name)
  where
    go : (t : Bool) → held_by files (cond t None (Some name)) input ≡ cond t input (known_in files name)
    go true = refl
    go false = refl

-- and there is one if the input is not read
pub has_file : (name : Option (List ℕ)) → is_fed name ≡ false → is_some (file_in name) ≡ true
has_file None is = cc
has_file (Some name) is = ap (λ (t : Bool). is_some (cond t None (Some name))) is

-- what holds of the bytes that a reader of a file has before it holds of the file's
pub by_reader : (held remaining : Option (List ℕ)) (P : List ℕ → Type 0) → ReadsAll held remaining → IfSome remaining P → IfSome held P
by_reader None remaining P reads is = tt
by_reader (Some bytes) remaining P reads is = subst (λ (o : Option (List ℕ)). IfSome o P) reads is

-- what is known of the input is still so
abbrev pub IsKnown : Option (List ℕ) → Option (List ℕ) → Type 0
IsKnown left held = IfSome left (λ bs. held ≡ Some bs)

pub known_first : (input : Option (List ℕ)) → IsKnown input input
known_first None = tt
known_first (Some bs) = refl

module _ (files now : Files) (name : List ℕ) (left held : Option (List ℕ)) (kept : AreKept files now) (known : IsKnown left held) where
  -- what holds of the bytes now does so of those that were known
  pub first_known : (P : List ℕ → Type 0) → IfSome (named_bytes now name held) P → IfSome (named_bytes files name left) P
  first_known P is = go (is_input name) left known is
    where
      go : (t : Bool) (o : Option (List ℕ)) → IsKnown o held → IfSome (cond t held (known_in now name)) P → IfSome (cond t o (known_in files name)) P
      go true None k x = tt
      go true (Some bs) k x = subst (λ (h : Option (List ℕ)). IfSome h P) k x
      go false o k x = subst (λ (h : Option (List ℕ)). IfSome h P) (kept.all name) x

  pub still_known : (later : Option (List ℕ)) → (is_input name ≡ false → later ≡ held) → IsKnown (input_behind name left) later
  still_known later same = go (is_input name) refl left known
    where
      go : (t : Bool) → is_input name ≡ t → (o : Option (List ℕ)) → IsKnown o held → IsKnown (cond t None o) later
      go true e o k = tt
      go false e None k = tt
      go false e (Some bs) k = same e ∙ k

-- ---- the loop

-- so many of the scripts were read, and the files are as they were
pub record IsAt (files : Files) (input : Option (List ℕ)) (names : List (List ℕ)) (scripts : List (List Line)) (now : Files) (held : Option (List ℕ)) : Type 0 where
  pub left : Option (List ℕ)
  pub read : AreRead files input names scripts left
  pub known : IsKnown left held
  pub kept : AreKept files now

pub at_first : (files : Files) (input : Option (List ℕ)) → IsAt files input [] [] files input
at_first files input = record { left = input; read = none_read; known = known_first input; kept = record { outcome = refl; all = λ n. refl } }

pub one_more : (files now later : Files) (input held after : Option (List ℕ)) (names : List (List ℕ)) (scripts : List (List Line)) (name : List ℕ) (lines : List Line) → IsAt files input names scripts now held → IsReadAt now held name lines after → AreKept now later
    → IsAt files input (names ++ name ∷ []) (scripts ++ lines ∷ []) later after
one_more files now later input held after names scripts name lines at x kept = record {
  left = input_behind name at.left;
  read = one_read names scripts at.left name lines at.read (first_known files now name at.left held at.kept at.known (λ bs. IsScript bs lines) x.spelled);
  known = still_known files now name at.left held at.kept at.known after x.untouched;
  kept = record { outcome = kept.outcome ∙ at.kept.outcome; all = λ n. kept.all n ∙ at.kept.all n };
}

-- the next one was not
pub not_more : (files now : Files) (input held : Option (List ℕ)) (names before rest : List (List ℕ)) (scripts : List (List Line)) (name : List ℕ) (place : ℕ) (why : ReadFault ScriptWord) → names ≡ before ++ name ∷ rest → length before ≡ place → IsAt files input before scripts now held
    → IsUnreadScript (named_bytes now name held) why → AreUnread files input names place why
not_more files now input held names before rest scripts name place why split many at unread = record {
  before = before;
  name = name;
  rest = rest;
  split = split;
  many = many;
  scripts = scripts;
  left = at.left;
  read = at.read;
  unread = first_known files now name at.left held at.kept at.known _ unread;
}

-- for want of memory
pub no_memory : (bytes : Option (List ℕ)) → IsUnreadScript bytes (Refused refusal.NoMemory)
no_memory None = tt
no_memory (Some bs) = inl refl

-- the names around a place
pub names_about : {X : Type 0} (f : X → List ℕ) (xs : List X) (i : ℕ) (d : X) → i < length xs → d ≡ get_or xs i d → map f xs ≡ map f (take i xs) ++ f d ∷ map f (drop (suc i) xs)
names_about {X} f xs i d lt is =
    ap (map f) (sym (take-append-drop i xs)) ∙ map-append f (take i xs) (drop i xs) ∙ ap (λ (t : List X). map f (take i xs) ++ map f t) (drop-cons xs i d lt)
    ∙ ap (λ (y : X). map f (take i xs) ++ f y ∷ map f (drop (suc i) xs)) (sym is)

pub at_more : {X : Type 0} (f : X → List ℕ) (xs : List X) (i : ℕ) (d : X) (ss : List Script) (s : Script) (files now later : Files) (input held after : Option (List ℕ)) → i < length xs → d ≡ get_or xs i d → IsAt files input (map f (take i xs)) (map lines_in ss) now held
    → IsReadAt now held (f d) (lines_in s) after → AreKept now later → IsAt files input (map f (take (i + 1) xs)) (map lines_in (ss ++ s ∷ [])) later after
at_more {X} f xs i d ss s files now later input held after lt is at x kept =
    let names : map f (take i xs) ++ f d ∷ [] ≡ map f (take (i + 1) xs) = ap (λ (y : X). map f (take i xs) ++ f y ∷ []) is ∙ sym (map_more f xs i d lt) in
    let scripts : map lines_in ss ++ lines_in s ∷ [] ≡ map lines_in (ss ++ s ∷ []) = sym (map-append lines_in ss (s ∷ [])) in
    subst (λ (X : Type 0). X) (λ j. IsAt files input (names j) (scripts j) later after) (one_more files now later input held after (map f (take i xs)) (map lines_in ss) (f d) (lines_in s) at x kept)

pub many_before : {X : Type 0} (f : X → List ℕ) (xs : List X) (i : ℕ) → i < length xs → length (map f (take i xs)) ≡ i
many_before f xs i lt = length-map (take i xs) f ∙ length-take-le i xs (omega arith)

-- ---- the bytes of the input

-- what a reader gave is the next of its bytes
pub read_more : (old new : Option (List ℕ)) (bs held front rest : List ℕ) → old ≡ Some rest → held ≡ front ++ rest → Consumes old new bs → (later : List ℕ) × (new ≡ Some later) × (held ≡ (front ++ bs) ++ later)
read_more old None bs held front rest e b h = let k : Consumes (Some rest) None bs = subst (λ o. Consumes o None bs) e h in absurd k
read_more old (Some ys) bs held front rest e b h =
    let k : Consumes (Some rest) (Some ys) bs = subst (λ o. Consumes o (Some ys) bs) e h in (ys, refl, b ∙ ap (λ t. front ++ t) k ∙ sym (append_assoc front bs ys))

-- and nothing is left where it gave none
pub read_to_end : (old new : Option (List ℕ)) (buf held front rest : List ℕ) (n : ℕ) → n ≡ 0 → 0 < length buf → old ≡ Some rest → held ≡ front ++ rest → Consumes old new (take n buf) × (n ≡ 0 → 0 < length buf → IsAtEnd new) → held ≡ front
read_to_end old new buf held front rest n z long e b h =
    let m = read_more old new (take n buf) held front rest e b h.0 in
    let a : IsAtEnd (Some m.0) = subst (λ o. IsAtEnd o) m.1 (h.1 z long) in
    let t : take n buf ≡ [] = ap (λ k. take k buf) z in
    let w = m.2 in search (rules, w, t, a)

pub if_known : (o : Option (List ℕ)) (P : List ℕ → Type 0) → ((x : List ℕ) → o ≡ Some x → P x) → IfSome o P
if_known None P h = tt
if_known (Some x) P h = h x refl

-- what is overlong may be followed by anything
pub overlong_ends : (front rest : List ℕ) → MAX_TEXT_BYTES < length front → is_overlong front ≡ false → rest ≡ []
overlong_ends front rest long short = search (rules, long, short)
