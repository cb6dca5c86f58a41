-- What a writer was given, whole or in part.
use Rattle.std.proofs.Common.{[], List, ℕ, Option, Result, Ok, Err, OnOk, OnErr, append-nil, sym}
use Rattle.std.specs.Io.KnownBytes.{Appends}
use Rattle.mt_script.specs.Answers.{AppendsFront}

-- all of it is a beginning of it
pub all_or_front : {X Y : Type 0} (a b : Option (List ℕ)) (bytes : List ℕ) (r : Result X Y) → OnOk r (Appends a b bytes) → OnErr r (AppendsFront a b bytes) → AppendsFront a b bytes
all_or_front a b bytes (Ok x) all front = (bytes, [], sym (append-nil bytes), all)
all_or_front a b bytes (Err y) all front = front
