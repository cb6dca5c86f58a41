-- What a log keeps in memory, of a batch that is being forced and of none.
use Rattle.std.specs.Global.{Global}
use Rattle.std.specs.Prelude.{◌≡◌, ◌<◌, ◌≤◌, ℕ, ◌+◌, List, [], ◌∷◌, ◌++◌, length, Result, IsOk, OnErr, OnOk, Vec, vec_capacity, vec_len}
use Rattle.mt_frame.specs.declared.records.Record.{Record}
use Rattle.mt_frame.specs.Grammar.{body_text, record_text}
use Rattle.mt_frame.specs.Lengths.{record_length}
use Rattle.mt_log.specs.Batch.{framed}

-- no batch is being forced: the buffer for the next one has room for a length and a gate
pub record IsAtRest (next behind size : ℕ) (batch : List Record) : Type 0 where
  pub place : behind ≡ next
  pub none : length batch ≡ 0
  pub head_alone : size ≡ 4

-- this batch is being forced, and this is the text of it after its gate
pub record IsUnderWay (next behind : ℕ) (text : List ℕ) (batch : List Record) : Type 0 where
  pub place : behind ≡ next + 5 + length (body_text batch)
  pub whole : text ≡ framed batch ++ 0 ∷ []

-- A record's text is after the others, with room for a gate after it; or memory was refused.
pub record PushesText {T E : Type 0} (old new : Vec ℕ Global) (entry : Record) (r : Result T E) : Type 0 where
  pub ok : OnOk r (new.items ≡ old.items ++ record_text entry)
  pub gate_room : OnOk r (vec_len new < vec_capacity new)
  pub err : OnErr r (new.items ≡ old.items)
  pub room : vec_len old + record_length entry + 1 ≤ vec_capacity old → IsOk r
  pub capacity : vec_capacity old ≤ vec_capacity new
