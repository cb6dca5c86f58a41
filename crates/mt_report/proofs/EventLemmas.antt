-- Which bytes spell no event.
use Rattle.std.proofs.Common.{arith, ◌≡◌, ◌≢◌, ◌<◌, ◌^◌, ℕ, List, [], ◌∷◌, ◌++◌, true, get_or, codes, refl, ap, sym, subst}
use Rattle.std.specs.Fmt.{decimal}
use Rattle.std.proofs.lemmas.Fmt.{decimal_injective}
use Rattle.mt_model.specs.declared.operations.Op.{Op}
use Rattle.mt_script.specs.Lines.{IsSpelled, IsUnspaced, op_text}
use Rattle.mt_script.specs.Whole.{is_without, lacks}
use Rattle.mt_script.proofs.LineLemmas.{cut_within, same_cut}
use Rattle.mt_world.specs.declared.events.Event.{Event}
use Rattle.mt_world.specs.declared.events.Event.TheVariants.{Begin, Call, Step, Commit, AbortBegin, AbortStep, Back, BackStep, Force, Flush, Rotate}
use Rattle.mt_report.specs.Events.{SpellsEvent, event_text}

-- the first word of an event, and those after it
abbrev pub word_of : Event → List ℕ
word_of (Begin session) = codes "begin"
word_of (Call t op) = codes "call"
word_of (Step t) = codes "step"
word_of (Commit t) = codes "commit"
word_of (AbortBegin t) = codes "abort"
word_of (AbortStep t) = codes "undo"
word_of (Back t n) = codes "back"
word_of (BackStep t) = codes "backstep"
word_of Force = codes "force"
word_of Flush = codes "flush"
word_of Rotate = codes "rotate"

abbrev pub rest_of : Event → List ℕ
rest_of (Begin session) = decimal session
rest_of (Call t op) = decimal t ++ 32 ∷ op_text op
rest_of (Step t) = decimal t
rest_of (Commit t) = decimal t
rest_of (AbortBegin t) = decimal t
rest_of (AbortStep t) = decimal t
rest_of (Back t n) = decimal t ++ 32 ∷ decimal n
rest_of (BackStep t) = decimal t
rest_of Force = []
rest_of Flush = []
rest_of Rotate = []

-- one word is not several
no_space : (own word words : List ℕ) → lacks 32 own ≡ true → word ++ 32 ∷ words ≡ own → ⊥
no_space own word words h e = cut_within 32 word words (subst IsUnspaced (sym e) (is_without 32 own h))

-- an event of several words is cut at the first space
pub event_cut : (word words : List ℕ) (event : Event) → IsUnspaced word → word ++ 32 ∷ words ≡ event_text event → (word ≡ word_of event) × (words ≡ rest_of event)
event_cut word words (Begin session) h e = same_cut 32 word (codes "begin") words (decimal session) h (is_without 32 (codes "begin") refl) e
event_cut word words (Call t op) h e = same_cut 32 word (codes "call") words (decimal t ++ 32 ∷ op_text op) h (is_without 32 (codes "call") refl) e
event_cut word words (Step t) h e = same_cut 32 word (codes "step") words (decimal t) h (is_without 32 (codes "step") refl) e
event_cut word words (Commit t) h e = same_cut 32 word (codes "commit") words (decimal t) h (is_without 32 (codes "commit") refl) e
event_cut word words (AbortBegin t) h e = same_cut 32 word (codes "abort") words (decimal t) h (is_without 32 (codes "abort") refl) e
event_cut word words (AbortStep t) h e = same_cut 32 word (codes "undo") words (decimal t) h (is_without 32 (codes "undo") refl) e
event_cut word words (Back t n) h e = same_cut 32 word (codes "back") words (decimal t ++ 32 ∷ decimal n) h (is_without 32 (codes "back") refl) e
event_cut word words (BackStep t) h e = same_cut 32 word (codes "backstep") words (decimal t) h (is_without 32 (codes "backstep") refl) e
event_cut word words Force h e = absurd (no_space (codes "force") word words refl e)
event_cut word words Flush h e = absurd (no_space (codes "flush") word words refl e)
event_cut word words Rotate h e = absurd (no_space (codes "rotate") word words refl e)

-- no event but a call and a beginning of going back has anything but a number after its word
pub no_number : (word words : List ℕ) → IsUnspaced word → word ≢ codes "call" → word ≢ codes "back" → ((n : ℕ) → n < 2 ^ 64 → words ≢ decimal n) → (event : Event) → SpellsEvent (word ++ 32 ∷ words) event → ⊥
no_number word words h other back none (Begin session) s = none session (omega (arith, s.1)) (event_cut word words (Begin session) h s.0).1
no_number word words h other back none (Call t op) s = other (event_cut word words (Call t op) h s.0).0
no_number word words h other back none (Step t) s = none t s.1 (event_cut word words (Step t) h s.0).1
no_number word words h other back none (Commit t) s = none t s.1 (event_cut word words (Commit t) h s.0).1
no_number word words h other back none (AbortBegin t) s = none t s.1 (event_cut word words (AbortBegin t) h s.0).1
no_number word words h other back none (AbortStep t) s = none t s.1 (event_cut word words (AbortStep t) h s.0).1
no_number word words h other back none (Back t n) s = back (event_cut word words (Back t n) h s.0).0
no_number word words h other back none (BackStep t) s = none t s.1 (event_cut word words (BackStep t) h s.0).1
no_number word words h other back none Force s = no_space (codes "force") word words refl s.0
no_number word words h other back none Flush s = no_space (codes "flush") word words refl s.0
no_number word words h other back none Rotate s = no_space (codes "rotate") word words refl s.0

-- a first word that is none of the eight
pub no_word : (word words : List ℕ) → IsUnspaced word → word ≢ codes "begin" → word ≢ codes "call" → word ≢ codes "step" → word ≢ codes "commit" → word ≢ codes "abort" → word ≢ codes "undo" → word ≢ codes "back" → word ≢ codes "backstep"
    → (event : Event) → SpellsEvent (word ++ 32 ∷ words) event → ⊥
no_word word words h b c s m a u k p (Begin session) e = b (event_cut word words (Begin session) h e.0).0
no_word word words h b c s m a u k p (Call t op) e = c (event_cut word words (Call t op) h e.0).0
no_word word words h b c s m a u k p (Step t) e = s (event_cut word words (Step t) h e.0).0
no_word word words h b c s m a u k p (Commit t) e = m (event_cut word words (Commit t) h e.0).0
no_word word words h b c s m a u k p (AbortBegin t) e = a (event_cut word words (AbortBegin t) h e.0).0
no_word word words h b c s m a u k p (AbortStep t) e = u (event_cut word words (AbortStep t) h e.0).0
no_word word words h b c s m a u k p (Back t n) e = k (event_cut word words (Back t n) h e.0).0
no_word word words h b c s m a u k p (BackStep t) e = p (event_cut word words (BackStep t) h e.0).0
no_word word words h b c s m a u k p Force e = no_space (codes "force") word words refl e.0
no_word word words h b c s m a u k p Flush e = no_space (codes "flush") word words refl e.0
no_word word words h b c s m a u k p Rotate e = no_space (codes "rotate") word words refl e.0

-- two words that differ at a place
apart : (xs ys : List ℕ) (i : ℕ) → (get_or xs i 0 ≡ get_or ys i 0 → ⊥) → xs ≡ ys → ⊥
apart xs ys i other e = other (ap (λ (l : List ℕ). get_or l i 0) e)

-- a number that is no session's
pub no_session : (n : ℕ) → n < 2 ^ 64 → (n < 2 ^ 32 → ⊥) → (event : Event) → SpellsEvent (codes "begin" ++ 32 ∷ decimal n) event → ⊥
no_session n wide late event e =
    let cut : (event : Event) → SpellsEvent (codes "begin" ++ 32 ∷ decimal n) event → (codes "begin" ≡ word_of event) × (decimal n ≡ rest_of event) =
    λ (o : Event) e. event_cut (codes "begin") (decimal n) o (is_without 32 (codes "begin") refl) e.0 in
    elim event as (λ (o : Event). SpellsEvent (codes "begin" ++ 32 ∷ decimal n) o → ⊥) [
      | Begin session ↦ λ e. let same : n ≡ session = decimal_injective n session wide (omega (arith, e.1)) (cut (Begin session) e).1 in late (omega (arith, e.1, same))
      | Call t op ↦ λ e. apart (codes "begin") (codes "call") 0 (omega arith) (cut (Call t op) e).0
      | Step t ↦ λ e. apart (codes "begin") (codes "step") 0 (omega arith) (cut (Step t) e).0
      | Commit t ↦ λ e. apart (codes "begin") (codes "commit") 0 (omega arith) (cut (Commit t) e).0
      | AbortBegin t ↦ λ e. apart (codes "begin") (codes "abort") 0 (omega arith) (cut (AbortBegin t) e).0
      | AbortStep t ↦ λ e. apart (codes "begin") (codes "undo") 0 (omega arith) (cut (AbortStep t) e).0
      | Back t m ↦ λ e. apart (codes "begin") (codes "back") 1 (omega arith) (cut (Back t m) e).0
      | BackStep t ↦ λ e. apart (codes "begin") (codes "backstep") 1 (omega arith) (cut (BackStep t) e).0
      | Force ↦ λ e. no_space (codes "force") (codes "begin") (decimal n) refl e.0
      | Flush ↦ λ e. no_space (codes "flush") (codes "begin") (decimal n) refl e.0
      | Rotate ↦ λ e. no_space (codes "rotate") (codes "begin") (decimal n) refl e.0
    ] e

-- words that spell no call
pub no_call : (words : List ℕ) → ((t : ℕ) (op : Op) → words ≡ decimal t ++ 32 ∷ op_text op → t < 2 ^ 64 → IsSpelled op → ⊥) → (event : Event) → SpellsEvent (codes "call" ++ 32 ∷ words) event → ⊥
no_call words none event e =
    let cut : (event : Event) → SpellsEvent (codes "call" ++ 32 ∷ words) event → (codes "call" ≡ word_of event) × (words ≡ rest_of event) =
    λ (o : Event) e. event_cut (codes "call") words o (is_without 32 (codes "call") refl) e.0 in
    elim event as (λ (o : Event). SpellsEvent (codes "call" ++ 32 ∷ words) o → ⊥) [
      | Begin session ↦ λ e. apart (codes "call") (codes "begin") 0 (omega arith) (cut (Begin session) e).0
      | Call t op ↦ λ e. none t op (cut (Call t op) e).1 e.1.0 e.1.1
      | Step t ↦ λ e. apart (codes "call") (codes "step") 0 (omega arith) (cut (Step t) e).0
      | Commit t ↦ λ e. apart (codes "call") (codes "commit") 1 (omega arith) (cut (Commit t) e).0
      | AbortBegin t ↦ λ e. apart (codes "call") (codes "abort") 0 (omega arith) (cut (AbortBegin t) e).0
      | AbortStep t ↦ λ e. apart (codes "call") (codes "undo") 0 (omega arith) (cut (AbortStep t) e).0
      | Back t m ↦ λ e. apart (codes "call") (codes "back") 0 (omega arith) (cut (Back t m) e).0
      | BackStep t ↦ λ e. apart (codes "call") (codes "backstep") 0 (omega arith) (cut (BackStep t) e).0
      | Force ↦ λ e. no_space (codes "force") (codes "call") words refl e.0
      | Flush ↦ λ e. no_space (codes "flush") (codes "call") words refl e.0
      | Rotate ↦ λ e. no_space (codes "rotate") (codes "call") words refl e.0
    ] e

-- words that spell no beginning of going back
pub no_back : (words : List ℕ) → ((t n : ℕ) → words ≡ decimal t ++ 32 ∷ decimal n → t < 2 ^ 64 → n < 2 ^ 16 → ⊥) → (event : Event) → SpellsEvent (codes "back" ++ 32 ∷ words) event → ⊥
no_back words none event e =
    let cut : (event : Event) → SpellsEvent (codes "back" ++ 32 ∷ words) event → (codes "back" ≡ word_of event) × (words ≡ rest_of event) =
    λ (o : Event) e. event_cut (codes "back") words o (is_without 32 (codes "back") refl) e.0 in
    elim event as (λ (o : Event). SpellsEvent (codes "back" ++ 32 ∷ words) o → ⊥) [
      | Begin session ↦ λ e. apart (codes "back") (codes "begin") 1 (omega arith) (cut (Begin session) e).0
      | Call t op ↦ λ e. apart (codes "back") (codes "call") 0 (omega arith) (cut (Call t op) e).0
      | Step t ↦ λ e. apart (codes "back") (codes "step") 0 (omega arith) (cut (Step t) e).0
      | Commit t ↦ λ e. apart (codes "back") (codes "commit") 0 (omega arith) (cut (Commit t) e).0
      | AbortBegin t ↦ λ e. apart (codes "back") (codes "abort") 0 (omega arith) (cut (AbortBegin t) e).0
      | AbortStep t ↦ λ e. apart (codes "back") (codes "undo") 0 (omega arith) (cut (AbortStep t) e).0
      | Back t m ↦ λ e. none t m (cut (Back t m) e).1 e.1.0 e.1.1
      | BackStep t ↦ λ e. apart (codes "back") (codes "backstep") 4 (omega arith) (cut (BackStep t) e).0
      | Force ↦ λ e. no_space (codes "force") (codes "back") words refl e.0
      | Flush ↦ λ e. no_space (codes "flush") (codes "back") words refl e.0
      | Rotate ↦ λ e. no_space (codes "rotate") (codes "back") words refl e.0
    ] e

-- one word spells none
pub back_spaced : (words : List ℕ) → IsUnspaced words → (t n : ℕ) → words ≡ decimal t ++ 32 ∷ decimal n → ⊥
back_spaced words h t n e = cut_within 32 (decimal t) (decimal n) (subst IsUnspaced e h)

-- the ways in which words spell no call
pub call_spaced : (words : List ℕ) → IsUnspaced words → (t : ℕ) (op : Op) → words ≡ decimal t ++ 32 ∷ op_text op → ⊥
call_spaced words h t op e = cut_within 32 (decimal t) (op_text op) (subst IsUnspaced e h)

-- one word that is none of the three
pub no_bare_event : (bytes : List ℕ) → IsUnspaced bytes → bytes ≢ codes "force" → bytes ≢ codes "flush" → bytes ≢ codes "rotate" → (event : Event) → SpellsEvent bytes event → ⊥
no_bare_event bytes h f l r (Begin session) e = cut_within 32 (codes "begin") (decimal session) (subst IsUnspaced e.0 h)
no_bare_event bytes h f l r (Call t op) e = cut_within 32 (codes "call") (decimal t ++ 32 ∷ op_text op) (subst IsUnspaced e.0 h)
no_bare_event bytes h f l r (Step t) e = cut_within 32 (codes "step") (decimal t) (subst IsUnspaced e.0 h)
no_bare_event bytes h f l r (Commit t) e = cut_within 32 (codes "commit") (decimal t) (subst IsUnspaced e.0 h)
no_bare_event bytes h f l r (AbortBegin t) e = cut_within 32 (codes "abort") (decimal t) (subst IsUnspaced e.0 h)
no_bare_event bytes h f l r (AbortStep t) e = cut_within 32 (codes "undo") (decimal t) (subst IsUnspaced e.0 h)
no_bare_event bytes h f l r (Back t n) e = cut_within 32 (codes "back") (decimal t ++ 32 ∷ decimal n) (subst IsUnspaced e.0 h)
no_bare_event bytes h f l r (BackStep t) e = cut_within 32 (codes "backstep") (decimal t) (subst IsUnspaced e.0 h)
no_bare_event bytes h f l r Force e = f e.0
no_bare_event bytes h f l r Flush e = l e.0
no_bare_event bytes h f l r Rotate e = r e.0
