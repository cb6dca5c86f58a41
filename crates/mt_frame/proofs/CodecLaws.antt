-- Texts that are read back, and how such texts are put together.
use Rattle.std.proofs.Common.{◌≡◌, ℕ, suc, ◌+◌, ◌^◌, ◌<◌, ◌≤◌, Bool, true, false, cond, eqb, ltb, List, [], ◌∷◌, ◌++◌, length, get_or, take, drop, Option, Some, None, ◌⊎◌, refl, sym, ap, subst, ◌∙◌, append_assoc, arith, inl, inr}
use Rattle.std.specs.Int.{Width, w16, w32, w64, byte_len, from_be_bytes, to_be_bytes}
use Rattle.std.proofs.lemmas.Bool.{cases_lt, eqb-true, ltb-false, le-ltb}
use Rattle.std.proofs.lemmas.List.{take_at, drop_at, take-append-drop, length-append, length-take, get_or-drop, get_or-take, get_or_past}
use Rattle.std.proofs.lemmas.Nat.{be_bytes_2, be_bytes_4, be_bytes_8, from_be_bytes-to_be_bytes_2, from_be_bytes-to_be_bytes_4, from_be_bytes-to_be_bytes_8}
use Rattle.mt_frame.specs.Codec.{Reader, ◌>>=◌, number_at, within_at, part_at, counted_at, byte_at, short_at, then_at, map_at, where_at}

-- each element is a byte
abbrev pub IsBytes : List ℕ → Type 0
IsBytes bytes = (i : ℕ) → get_or bytes i 0 < 256

IsBytes-drop : (n : ℕ) (bytes : List ℕ) → IsBytes bytes → IsBytes (drop n bytes)
IsBytes-drop n bytes fits i = rw get_or-drop (fits (n + i))

IsBytes-take : (n : ℕ) (bytes : List ℕ) → IsBytes bytes → IsBytes (take n bytes)
IsBytes-take n bytes fits i =
    elim (cases_lt i n) [
      | inl below ↦ rw (get_or-take n bytes i 0 below) (fits i)
      | inr past ↦ rw (get_or_past (take n bytes) i 0 (omega (arith, length-take n bytes))) (omega arith)
    ]

-- ---- steps of a reader that gave a value

abbrev none : {A : Type 0} → Option A
none = None

abbrev some : {A : Type 0} → A → Option A
some x = Some x

pub some_is : {A : Type 0} (x y : A) → some x ≡ some y → x ≡ y
some_is x y e = cc

pub bind_some : {A B : Type 0} (r : Option A) (f : A → Option B) (y : B) → (r >>= f) ≡ Some y → (x : A) × (r ≡ Some x) × (f x ≡ Some y)
bind_some (Some x) f y e = (x, refl, e)
bind_some None f y e = absurd cc

-- a test that would have refused
passed : {A : Type 0} (b : Bool) (x : Option A) (y : A) → cond b none x ≡ Some y → (b ≡ false) × (x ≡ Some y)
passed true x y e = absurd cc
passed false x y e = (refl, e)

-- a test that had to hold
pub held : {A : Type 0} (b : Bool) (x : Option A) (y : A) → cond b x none ≡ Some y → (b ≡ true) × (x ≡ Some y)
held true x y e = (refl, e)
held false x y e = absurd cc

-- one of two
pub chosen : {A : Type 0} (b : Bool) (x y : Option A) (z : A) → cond b x y ≡ Some z → ((b ≡ true) × (x ≡ Some z)) ⊎ ((b ≡ false) × (y ≡ Some z))
chosen true x y z e = inl (refl, e)
chosen false x y z e = inr (refl, e)

-- ---- codecs

-- the text was taken from the front of the bytes, and bytes are left
pub record Takes (bytes text rest : List ℕ) : Type 0 where
  pub parts : bytes ≡ text ++ rest
  pub rest_fits : IsBytes rest

takes_both : (a x b y c : List ℕ) → Takes a x b → Takes b y c → Takes a (x ++ y) c
takes_both a x b y c first second =
    record { parts = first.parts ∙ ap (λ (t : List ℕ). x ++ t) second.parts ∙ sym (append_assoc x y c); rest_fits = second.rest_fits }

-- what is read has this text and fits, and what fits is read from its text, whatever follows it
pub record Reads {A : Type 0} (text : A → List ℕ) (fits : A → Type 0) (read : Reader A) : Type 0 where
  pub takes : (bytes : List ℕ) (x : A × List ℕ) → IsBytes bytes → read bytes ≡ Some x → Takes bytes (text x.0) x.1 × fits x.0
  pub again : (a : A) (rest : List ℕ) → fits a → read (text a ++ rest) ≡ Some (a, rest)

-- no text begins another
pub prefix_free : {A : Type 0} {text : A → List ℕ} {fits : A → Type 0} {read : Reader A} → Reads text fits read → (a b : A) (x y : List ℕ) → fits a → fits b → text a ++ x ≡ text b ++ y → (a ≡ b) × (x ≡ y)
prefix_free {read} r a b x y fa fb e =
    let same = some_is (a, x) (b, y) (sym (r.again a x fa) ∙ ap read e ∙ r.again b y fb) in
    (ap (λ p. p.0) same, ap (λ p. p.1) same)

-- ---- numbers

-- numbers of a width have one text
pub record IsWide (w : Width) (limit : ℕ) : Type 0 where
  pub len : (n : ℕ) → length (to_be_bytes w n) ≡ byte_len w
  pub back : (bytes : List ℕ) → length bytes ≡ byte_len w → IsBytes bytes → to_be_bytes w (from_be_bytes w bytes) ≡ bytes
  pub again : (n : ℕ) → n < limit → from_be_bytes w (to_be_bytes w n) ≡ n
  pub below : (bytes : List ℕ) → IsBytes bytes → from_be_bytes w bytes < limit

pub wide16 : IsWide w16 (2 ^ 16)
wide16 = record {
  len = λ n. refl;
  back = λ bytes len fits. be_bytes_2 bytes _ len fits refl;
  again = λ n below. from_be_bytes-to_be_bytes_2 n below;
  below = λ bytes fits. omega (arith, fits 0, fits 1);
}

pub wide32 : IsWide w32 (2 ^ 32)
wide32 = record {
  len = λ n. refl;
  back = λ bytes len fits. be_bytes_4 bytes _ len fits refl;
  again = λ n below. from_be_bytes-to_be_bytes_4 n below;
  below = λ bytes fits. omega (arith, fits 0, fits 1, fits 2, fits 3);
}

pub wide64 : IsWide w64 (2 ^ 64)
wide64 = record {
  len = λ n. refl;
  back = λ bytes len fits. be_bytes_8 bytes _ len fits refl;
  again = λ n below. from_be_bytes-to_be_bytes_8 n below;
  below = λ bytes fits. omega (arith, fits 0, fits 1, fits 2, fits 3, fits 4, fits 5, fits 6, fits 7);
}

pub reads_number : (w : Width) (limit : ℕ) → IsWide w limit → Reads (to_be_bytes w) (λ n. n < limit) (number_at w)
reads_number w limit wide = record {
  takes = λ bytes x fits e.
      let g = passed (ltb (length bytes) (byte_len w)) (Some (from_be_bytes w (take (byte_len w) bytes), drop (byte_len w) bytes)) x e in
      let long : byte_len w ≤ length bytes = ltb-false _ _ g.0 in
      let is = some_is (from_be_bytes w (take (byte_len w) bytes), drop (byte_len w) bytes) x g.1 in
      let front : to_be_bytes w (from_be_bytes w (take (byte_len w) bytes)) ≡ take (byte_len w) bytes = wide.back (take (byte_len w) bytes) (omega (arith, length-take (byte_len w) bytes)) (IsBytes-take (byte_len w) bytes fits) in
      subst (λ (y : ℕ × List ℕ). Takes bytes (to_be_bytes w y.0) y.1 × (y.0 < limit)) is
      (record { parts = rw front (sym (take-append-drop (byte_len w) bytes)); rest_fits = IsBytes-drop (byte_len w) bytes fits }, wide.below (take (byte_len w) bytes) (IsBytes-take (byte_len w) bytes fits));
  again = λ n rest below.
      let len = wide.len n in
      let long : ltb (length (to_be_bytes w n ++ rest)) (byte_len w) ≡ false = le-ltb _ _ (omega (arith, length-append (to_be_bytes w n) rest)) in
      rw (long, take_at (to_be_bytes w n) rest (byte_len w) len, drop_at (to_be_bytes w n) rest (byte_len w) len, wide.again n below) refl;
}

pub reads_within : (w : Width) (limit low high : ℕ) → IsWide w limit → high < limit → Reads (to_be_bytes w) (λ n. (low ≤ n) × (n ≤ high)) (within_at w low high)
unfolding within_at
reads_within w limit low high wide fit = record {
  takes = λ bytes x fits e.
      let b = bind_some (number_at w bytes) (λ n. cond (ltb n.0 low) None (cond (ltb high n.0) None (Some n))) x e in
      let t = (reads_number w limit wide).takes bytes b.0 fits b.1 in
      let g = passed (ltb b.0.0 low) (cond (ltb high b.0.0) None (Some b.0)) x b.2 in
      let h = passed (ltb high b.0.0) (Some b.0) x g.1 in
      subst (λ (y : ℕ × List ℕ). Takes bytes (to_be_bytes w y.0) y.1 × ((low ≤ y.0) × (y.0 ≤ high))) (some_is b.0 x h.1) (t.0, (ltb-false _ _ g.0, ltb-false _ _ h.0));
  again = λ n rest ok.
      let not_low : ltb n low ≡ false = le-ltb _ _ ok.0 in
      let not_high : ltb high n ≡ false = le-ltb _ _ ok.1 in
      rw ((reads_number w limit wide).again n rest (omega arith), not_low, not_high) refl;
}

pub reads_byte : (low high : ℕ) → high < 256 → Reads (λ b. b ∷ []) (λ b. (low ≤ b) × (b ≤ high)) (byte_at low high)
unfolding byte_at
reads_byte low high fit = record { takes = took; again = λ b rest ok. let not_low : ltb b low ≡ false = le-ltb _ _ ok.0 in let not_high : ltb high b ≡ false = le-ltb _ _ ok.1 in rw (not_low, not_high) refl }
  where
    took : (bytes : List ℕ) (x : ℕ × List ℕ) → IsBytes bytes → byte_at low high bytes ≡ Some x → Takes bytes (x.0 ∷ []) x.1 × ((low ≤ x.0) × (x.0 ≤ high))
    took [] x fits e = absurd cc
    took (b ∷ rest) x fits e =
        let g = passed (ltb b low) (cond (ltb high b) None (Some (b, rest))) x e in
        let h = passed (ltb high b) (Some (b, rest)) x g.1 in
        subst (λ (y : ℕ × List ℕ). Takes (b ∷ rest) (y.0 ∷ []) y.1 × ((low ≤ y.0) × (y.0 ≤ high))) (some_is (b, rest) x h.1) (record { parts = refl; rest_fits = λ i. fits (suc i) }, (ltb-false _ _ g.0, ltb-false _ _ h.0))

-- ---- bytes

pub reads_part : (n : ℕ) → Reads (λ (bytes : List ℕ). bytes) (λ bytes. length bytes ≡ n) (part_at n)
unfolding part_at
reads_part n = record {
  takes = λ bytes x fits e.
      let g = passed (ltb (length bytes) n) (Some (take n bytes, drop n bytes)) x e in
      let long : n ≤ length bytes = ltb-false _ _ g.0 in
      subst (λ (y : List ℕ × List ℕ). Takes bytes y.0 y.1 × (length y.0 ≡ n)) (some_is (take n bytes, drop n bytes) x g.1)
      (record { parts = sym (take-append-drop n bytes); rest_fits = IsBytes-drop n bytes fits }, omega (arith, length-take n bytes));
  again = λ text rest len.
      let long : ltb (length (text ++ rest)) n ≡ false = le-ltb _ _ (omega (arith, length-append text rest)) in
      rw (long, take_at text rest n len, drop_at text rest n len) refl;
}

-- bytes behind their number
pub reads_counted : (w : Width) (limit low high : ℕ) → IsWide w limit → high < limit → Reads (λ (bytes : List ℕ). to_be_bytes w (length bytes) ++ bytes) (λ bytes. (low ≤ length bytes) × (length bytes ≤ high)) (counted_at w low high)
unfolding counted_at
reads_counted w limit low high wide fit = record {
  takes = λ bytes x fits e.
      let n = bind_some (within_at w low high bytes) (λ n. part_at n.0 n.1) x e in
      let t = (reads_within w limit low high wide fit).takes bytes n.0 fits n.1 in
      let u = (reads_part n.0.0).takes n.0.1 x t.0.rest_fits n.2 in
      let both = takes_both bytes (to_be_bytes w n.0.0) n.0.1 x.0 x.1 t.0 u.0 in
      (subst (λ (k : ℕ). Takes bytes (to_be_bytes w k ++ x.0) x.1) (sym u.1) both, (omega (arith, u.1, t.1.0), omega (arith, u.1, t.1.1)));
  again = λ text rest ok.
      ap (λ (l : List ℕ). within_at w low high l >>= λ n. part_at n.0 n.1) (append_assoc (to_be_bytes w (length text)) text rest)
      ∙ rw ((reads_within w limit low high wide fit).again (length text) (text ++ rest) ok, (reads_part (length text)).again text rest refl) refl;
}

-- bytes behind their number in one byte
pub reads_short : (low high : ℕ) → high < 256 → Reads (λ (bytes : List ℕ). length bytes ∷ bytes) (λ bytes. (low ≤ length bytes) × (length bytes ≤ high)) (short_at low high)
unfolding short_at
reads_short low high fit = record {
  takes = λ bytes x fits e.
      let n = bind_some (byte_at low high bytes) (λ n. part_at n.0 n.1) x e in
      let t = (reads_byte low high fit).takes bytes n.0 fits n.1 in
      let u = (reads_part n.0.0).takes n.0.1 x t.0.rest_fits n.2 in
      let both = takes_both bytes (n.0.0 ∷ []) n.0.1 x.0 x.1 t.0 u.0 in
      (subst (λ (k : ℕ). Takes bytes (k ∷ x.0) x.1) (sym u.1) both, (omega (arith, u.1, t.1.0), omega (arith, u.1, t.1.1)));
  again = λ text rest ok. rw ((reads_byte low high fit).again (length text) (text ++ rest) ok, (reads_part (length text)).again text rest refl) refl;
}

-- ---- codecs put together

-- one value, and then another that may depend on it
pub reads_then : {A B : Type 0} {sa : A → List ℕ} {fa : A → Type 0} {ra : Reader A} {sb : A → B → List ℕ} {fb : A → B → Type 0} {rb : A → Reader B}
    → Reads sa fa ra → ((a : A) → fa a → Reads (sb a) (fb a) (rb a)) → Reads (λ (p : A × B). sa p.0 ++ sb p.0 p.1) (λ p. fa p.0 × fb p.0 p.1) (then_at ra rb)
reads_then {A} {B} {sa} {fa} {ra} {sb} {fb} {rb} first second = record {
  takes = λ bytes x fits e.
      let a = bind_some (ra bytes) (λ a. rb a.0 a.1 >>= λ b. Some ((a.0, b.0), b.1)) x e in
      let b = bind_some (rb a.0.0 a.0.1) (λ b. Some ((a.0.0, b.0), b.1)) x a.2 in
      let t = first.takes bytes a.0 fits a.1 in
      let u = (second a.0.0 t.1).takes a.0.1 b.0 t.0.rest_fits b.1 in
      subst (λ (y : (A × B) × List ℕ). Takes bytes (sa y.0.0 ++ sb y.0.0 y.0.1) y.1 × (fa y.0.0 × fb y.0.0 y.0.1)) (some_is ((a.0.0, b.0.0), b.0.1) x b.2)
      (takes_both bytes (sa a.0.0) a.0.1 (sb a.0.0 b.0.0) b.0.1 t.0 u.0, (t.1, u.1));
  again = λ p rest ok.
      ap (λ (l : List ℕ). ra l >>= λ a. rb a.0 a.1 >>= λ b. Some ((a.0, b.0), b.1)) (append_assoc (sa p.0) (sb p.0 p.1) rest)
      ∙ rw (first.again p.0 (sb p.0 p.1 ++ rest) ok.0, (second p.0 ok.0).again p.1 rest ok.1) refl;
}

-- the same value under another form
pub reads_map : {A B : Type 0} {sa : A → List ℕ} {fa : A → Type 0} {ra : Reader A} (to : A → B) (from : B → A) (sb : B → List ℕ) (fb : B → Type 0)
    → ((b : B) → fb b → to (from b) ≡ b) → ((b : B) → sb b ≡ sa (from b)) → ((b : B) → fb b → fa (from b)) → ((a : A) → fa a → from (to a) ≡ a) → ((a : A) → fa a → fb (to a)) → Reads sa fa ra → Reads sb fb (map_at to ra)
reads_map {A} {B} {sa} {fa} {ra} to from sb fb back texts fit round fit_back r = record {
  takes = λ bytes x fits e.
      let a = bind_some (ra bytes) (λ x. Some (to x.0, x.1)) x e in
      let t = r.takes bytes a.0 fits a.1 in
      subst (λ (y : B × List ℕ). Takes bytes (sb y.0) y.1 × fb y.0) (some_is (to a.0.0, a.0.1) x a.2)
      (subst (λ (text : List ℕ). Takes bytes text a.0.1) (sym (texts (to a.0.0) ∙ ap sa (round a.0.0 t.1))) t.0, fit_back a.0.0 t.1);
  again = λ b rest ok.
      ap (λ (l : List ℕ). ra (l ++ rest) >>= λ x. Some (to x.0, x.1)) (texts b) ∙ rw (r.again (from b) rest (fit b ok)) (ap (λ (z : B). some (z, rest)) (back b ok));
}

-- only what passes a test
pub reads_where : {A : Type 0} {sa : A → List ℕ} {fa : A → Type 0} {ra : Reader A} (test : A → Bool) → Reads sa fa ra → Reads sa (λ a. fa a × (test a ≡ true)) (where_at test ra)
reads_where {A} {sa} {fa} {ra} test r = record {
  takes = λ bytes x fits e.
      let a = bind_some (ra bytes) (λ x. cond (test x.0) (Some x) None) x e in
      let t = r.takes bytes a.0 fits a.1 in
      let h = held (test a.0.0) (Some a.0) x a.2 in
      subst (λ (y : A × List ℕ). Takes bytes (sa y.0) y.1 × (fa y.0 × (test y.0 ≡ true))) (some_is a.0 x h.1) (t.0, (t.1, h.0));
  again = λ a rest ok. rw (r.again a rest ok.0, ok.1) refl;
}

-- ---- kinds

-- what a mapped reader gives where the reader gives a value
pub mapped : {A B : Type 0} {a : A} {rest : List ℕ} (read : Reader A) (bytes : List ℕ) (f : A → B) → read bytes ≡ Some (a, rest) → map_at f read bytes ≡ Some (f a, rest)
mapped read bytes f e = rw e refl

-- what was read behind a tag is of that kind
pub tagged : {A B : Type 0} {sb : B → List ℕ} {fb : B → Type 0} {rb : Reader B} (sa : A → List ℕ) (fa : A → Type 0) (tag : ℕ) (to : B → A)
    → Reads sb fb rb → ((b : B) → fb b → sa (to b) ≡ tag ∷ sb b) → ((b : B) → fb b → fa (to b))
    → (kind : ℕ) (bytes : List ℕ) (x : A × List ℕ) → IsBytes (kind ∷ bytes) → eqb kind tag ≡ true → map_at to rb bytes ≡ Some x → Takes (kind ∷ bytes) (sa x.0) x.1 × fa x.0
tagged {A} {B} {sb} {fb} {rb} sa fa tag to r texts fit kind bytes x fits is e =
    let a = bind_some (rb bytes) (λ y. Some (to y.0, y.1)) x e in
    let t = r.takes bytes a.0 (λ i. fits (suc i)) a.1 in
    let same : kind ≡ tag = eqb-true _ _ is in
    let parts : kind ∷ bytes ≡ sa (to a.0.0) ++ a.0.1 = ap (λ (k : ℕ). k ∷ bytes) same ∙ ap (λ (l : List ℕ). tag ∷ l) t.0.parts ∙ sym (ap (λ (l : List ℕ). l ++ a.0.1) (texts a.0.0 t.1)) in
    subst (λ (y : A × List ℕ). Takes (kind ∷ bytes) (sa y.0) y.1 × fa y.0) (some_is (to a.0.0, a.0.1) x a.2)
    (record { parts = parts; rest_fits = t.0.rest_fits }, fit a.0.0 t.1)
