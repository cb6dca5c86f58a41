-- Texts of answers, and runs of lines, one after the other.
use Rattle.std.proofs.Common.{◌≡◌, ℕ, ◌-◌, arith, get_or, length, length-append, List, [], ◌∷◌, ◌++◌, refl, ap, sym, subst, ◌∙◌, append_assoc, append-nil}
use Rattle.mt_model.specs.History.{Call}
use Rattle.mt_model.specs.declared.operations.Op.{Op}
use Rattle.mt_model.specs.declared.operations.Reply.{Reply}
use Rattle.mt_script.specs.Answers.{answer_text, reply_text, transcript_text}
use Rattle.mt_script.specs.declared.answers.Answer.{Answer}
use Rattle.mt_script.specs.declared.answers.Answer.TheVariants.{Replied}
use Rattle.mt_script.specs.declared.lines.Line.{Line}
use Rattle.mt_alone.specs.Plays.{Runs, starts, goes_on}

pub text_joined : (as' bs : List Answer) → transcript_text (as' ++ bs) ≡ transcript_text as' ++ transcript_text bs
unfolding transcript_text
text_joined [] bs = refl
text_joined (a ∷ as') bs = ap (λ (t : List ℕ). answer_text a ++ 10 ∷ t) (text_joined as' bs) ∙ sym (append_assoc (answer_text a) (10 ∷ transcript_text as') (transcript_text bs))

pub text_one : (a : Answer) → transcript_text (a ∷ []) ≡ answer_text a ++ 10 ∷ []
unfolding transcript_text
text_one a = refl

pub text_of_none : transcript_text [] ≡ []
unfolding transcript_text
text_of_none = refl

-- the last of calls
last_at : (calls : List Call) (c d : Call) → get_or (calls ++ c ∷ []) (length calls) d ≡ c
last_at [] c d = refl
last_at (x ∷ calls) c d = last_at calls c d

pub last_call : (calls : List Call) (c d : Call) → get_or (calls ++ c ∷ []) (length (calls ++ c ∷ []) - 1) d ≡ c
last_call calls c d =
    let same : length (calls ++ c ∷ []) - 1 ≡ length calls = omega (arith, length-append calls (c ∷ [])) in
    ap (λ (n : ℕ). get_or (calls ++ c ∷ []) n d) same ∙ last_at calls c d

-- the text of the last reply is that of its answer
pub reply_reported : (calls : List Call) (op : Op) (reply : Reply) (all seen : List Call) (d : Call) (was now : List ℕ) → all ≡ calls ++ (op, reply) ∷ [] → seen ≡ all
    → now ≡ was ++ (reply_text (get_or seen (length seen - 1) d).1 ++ 10 ∷ []) → now ≡ was ++ transcript_text (Replied reply ∷ [])
reply_reported calls op reply all seen d was now is same outcome =
    let whole : seen ≡ calls ++ (op, reply) ∷ [] = same ∙ is in
    let last : get_or seen (length seen - 1) d ≡ (op, reply) = ap (λ (cs : List Call). get_or cs (length cs - 1) d) whole ∙ last_call calls (op, reply) d in
    outcome ∙ (ap (λ (c : Call). was ++ (reply_text c.1 ++ 10 ∷ [])) last ∙ ap (λ (t : List ℕ). was ++ t) (sym (text_one (Replied reply))))

pub none_reported : (was : List ℕ) → was ≡ was ++ transcript_text []
none_reported was = sym (ap (λ (t : List ℕ). was ++ t) text_of_none ∙ append-nil was)

-- answers after answers
pub all_reported : (as' bs : List Answer) (was mid now : List ℕ) → mid ≡ was ++ transcript_text as' → now ≡ mid ++ transcript_text bs → now ≡ was ++ transcript_text (as' ++ bs)
all_reported as' bs was mid now before outcome =
    outcome ∙ (ap (λ (t : List ℕ). t ++ transcript_text bs) before
    ∙ (append_assoc was (transcript_text as') (transcript_text bs) ∙ ap (λ (t : List ℕ). was ++ t) (sym (text_joined as' bs))))

-- ---- runs

pub runs_then : {S : Type 0} {Turn : S → Line → Answer → S → Type 0} → (s m e : S) (ls ms : List Line) (as' bs : List Answer) → Runs Turn s ls as' m → Runs Turn m ms bs e → Runs Turn s (ls ++ ms) (as' ++ bs) e
runs_then {Turn = Turn} s m _ ls _ as' _ first starts = subst (λ (X : Type 0). X) (λ i. Runs Turn s (sym (append-nil ls) i) (sym (append-nil as') i) m) first
runs_then {Turn = Turn} s m _ ls _ as' _ first (goes_on lines answers k e line answer before turn) =
    subst (λ (X : Type 0). X) (λ i. Runs Turn s (append_assoc ls lines (line ∷ []) i) (append_assoc as' answers (answer ∷ []) i) e)
    (goes_on (ls ++ lines) (as' ++ answers) k e line answer (runs_then s m k ls lines as' answers first before) turn)
