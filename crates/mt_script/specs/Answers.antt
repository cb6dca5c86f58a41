-- The texts of answers, and what a writer that fails has written.
use Rattle.std.specs.Prelude.{ℕ, ◌≡◌, List, [], ◌∷◌, ◌++◌, Option, codes, length, map}
use Rattle.std.specs.Fmt.{decimal, signed_decimal}
use Rattle.std.specs.Io.KnownBytes.{Appends}
use Rattle.std.specs.List.{concat}
use Rattle.mt_base.specs.Refusal.{text_of}
use Rattle.mt_base.specs.declared.refusal.Refusal.TheVariants as refusal
use Rattle.mt_model.specs.declared.operations.Reply.{Reply}
use Rattle.mt_model.specs.declared.operations.Reply.TheVariants.{Found, Missing, Exists, Done, Was, Value, Rows, OutOfBounds}
use Rattle.mt_rows.specs.declared.rows.Row.{Row}
use Rattle.mt_script.specs.declared.answers.Answer.{Answer}
use Rattle.mt_script.specs.declared.answers.Answer.TheVariants.{Begun, Replied, Saved, Back, Committed, Aborted, Refused}

-- known bytes grow by a beginning of these
abbrev pub AppendsFront : Option (List ℕ) → Option (List ℕ) → List ℕ → Type 0
AppendsFront old new bytes = (front : List ℕ) × (rest : List ℕ) × (bytes ≡ front ++ rest) × Appends old new front

-- a row's key and value, on a line of its own
abbrev pub pair_line : Row → List ℕ
pair_line row = 10 ∷ row.key ++ 32 ∷ row.value

abbrev pub pair_lines : List Row → List ℕ
pair_lines rows = concat (map pair_line rows)

-- what an operation's reply is written as; the kernel never ends one out of a counter's bounds
abbrev pub reply_text : Reply → List ℕ
reply_text (Found v) = codes "found " ++ v
reply_text Missing = codes "missing"
reply_text Exists = codes "exists"
reply_text Done = codes "done"
reply_text (Was v) = codes "was " ++ v
reply_text (Value n) = codes "value " ++ signed_decimal n
reply_text (Rows xs) = codes "rows " ++ decimal (length xs) ++ pair_lines xs
reply_text OutOfBounds = text_of refusal.Escrow

-- a word, and a count after it
abbrev pub count_text : List ℕ → ℕ → List ℕ
count_text word count = word ++ 32 ∷ decimal count

-- what an answer is written as, without the end of its line
abbrev pub answer_text : Answer → List ℕ
answer_text Begun = codes "begun"
answer_text (Replied reply) = reply_text reply
answer_text (Saved count) = count_text (codes "saved") count
answer_text (Back first) = count_text (codes "back") first
answer_text (Committed place) = codes "committed " ++ decimal place
answer_text Aborted = codes "aborted"
answer_text (Refused why) = text_of why

-- answers, a line each
unfoldable pub transcript_text : List Answer → List ℕ
transcript_text [] = []
transcript_text (answer ∷ answers) = answer_text answer ++ 10 ∷ transcript_text answers
