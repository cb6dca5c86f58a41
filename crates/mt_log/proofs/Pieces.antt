-- A batch on the device in its pieces: gate, length, body.
use Rattle.std.proofs.Common.{◌≡◌, ℕ, ◌+◌, ◌^◌, ◌<◌, List, [], ◌∷◌, length, get_or, refl, sym, ◌∙◌, ap, subst, arith}
use Rattle.std.specs.Int.{w32, to_be_bytes, from_be_bytes}
use Rattle.std.proofs.lemmas.List.{ext_get_or}
use Rattle.std.proofs.lemmas.Nat.{be_bytes_4, from_be_bytes-to_be_bytes_4}
use Rattle.mt_disk.specs.Disk.{Has}
use Rattle.mt_disk.proofs.Frame.{has_append, has_front, has_back, has_one, one_of}
use Rattle.mt_frame.specs.declared.records.Record.{Record}
use Rattle.mt_frame.specs.Grammar.{body_text, batch_text}
use Rattle.mt_log.specs.Batch.{framed}

-- two texts of one length at one place are one
pub has_same : (c : List ℕ) (p : ℕ) (x y : List ℕ) → Has c p x → Has c p y → length x ≡ length y → x ≡ y
has_same c p x y a b len = ext_get_or 0 x y len (λ i lt. sym (a.each i lt) ∙ b.each i (omega arith))

-- a batch, where its pieces stand
pub batch_there : (c : List ℕ) (p n : ℕ) (body : List ℕ) (batch : List Record) → get_or c p 0 ≡ 165 → Has c (p + 1) (to_be_bytes w32 n) → Has c (p + 5) body → length body ≡ n → body ≡ body_text batch → Has c p (batch_text batch)
batch_there c p n body batch gate head has size is =
    let len : n ≡ length (body_text batch) = sym size ∙ ap length is in
    let head2 : Has c (p + 1) (to_be_bytes w32 (length (body_text batch))) = subst (λ (k : ℕ). Has c (p + 1) (to_be_bytes w32 k)) len head in
    let body2 : Has c (p + 5) (body_text batch) = subst (λ (l : List ℕ). Has c (p + 5) l) is has in
    let body3 : Has c (p + 1 + length (to_be_bytes w32 (length (body_text batch)))) (body_text batch) = subst (λ (k : ℕ). Has c k (body_text batch)) (omega arith) body2 in
    has_append c p (165 ∷ []) (framed batch) (has_one c p 165 (let w = has.within in omega arith) gate) (has_append c (p + 1) (to_be_bytes w32 (length (body_text batch))) (body_text batch) head2 body3)

-- its pieces, where a batch stands
pub gate_there : (c : List ℕ) (p : ℕ) (batch : List Record) → Has c p (batch_text batch) → get_or c p 0 ≡ 165
gate_there c p batch has = one_of c p 165 (has_front c p (165 ∷ []) (framed batch) has)

pub head_there : (c : List ℕ) (p : ℕ) (batch : List Record) → Has c p (batch_text batch) → Has c (p + 1) (to_be_bytes w32 (length (body_text batch)))
head_there c p batch has = has_front c (p + 1) (to_be_bytes w32 (length (body_text batch))) (body_text batch) (has_back c p (165 ∷ []) (framed batch) has)

pub body_there : (c : List ℕ) (p : ℕ) (batch : List Record) → Has c p (batch_text batch) → Has c (p + 5) (body_text batch)
body_there c p batch has =
    subst (λ (k : ℕ). Has c k (body_text batch)) (omega arith) (has_back c (p + 1) (to_be_bytes w32 (length (body_text batch))) (body_text batch) (has_back c p (165 ∷ []) (framed batch) has))

-- one length stands at one place
pub one_length : (c : List ℕ) (p m n : ℕ) → Has c p (to_be_bytes w32 m) → Has c p (to_be_bytes w32 n) → m < 2 ^ 32 → n < 2 ^ 32 → m ≡ n
one_length c p m n a b small small2 =
    sym (from_be_bytes-to_be_bytes_4 m small) ∙ ap (from_be_bytes w32) (has_same c p (to_be_bytes w32 m) (to_be_bytes w32 n) a b refl) ∙ from_be_bytes-to_be_bytes_4 n small2

-- the body that stands behind a length of this number
pub one_body_there : (c : List ℕ) (p n : ℕ) (body : List ℕ) (batch : List Record) → Has c (p + 1) (to_be_bytes w32 n) → n < 2 ^ 32 → Has c (p + 5) body → length body ≡ n → Has c p (batch_text batch) → length (body_text batch) < 2 ^ 32
    → body ≡ body_text batch
one_body_there c p n body batch head small has size there small2 =
    has_same c (p + 5) body (body_text batch) has (body_there c p batch there) (size ∙ one_length c (p + 1) n (length (body_text batch)) head (head_there c p batch there) small small2)

-- a length that was read
pub number_there : (c : List ℕ) (p n : ℕ) (bytes : List ℕ) → Has c p bytes → length bytes ≡ 4 → ((i : ℕ) → get_or bytes i 0 < 256) → n ≡ from_be_bytes w32 bytes → Has c p (to_be_bytes w32 n)
number_there c p n bytes has four fits is = subst (λ (l : List ℕ). Has c p l) (sym (be_bytes_4 bytes n four fits is)) has
