-- What is printed of a refusal.
use Rattle.std.specs.Prelude.{ℕ, List, [], ◌∷◌, ◌++◌, codes}
use Rattle.std.specs.Fmt.{decimal}
use Rattle.mt_base.specs.declared.refusal.Refusal.{Refusal}
use Rattle.mt_base.specs.declared.refusal.Refusal.TheVariants.{NoMemory, DeviceFailed, NotFormatted, BadFormat, BadLength, NoSuchRelation, NoSuchCounter, BadStep, Escrow, NoRoom, LogFull, BookFull, TooManyTransactions, Die, Stranger, Busy, TooManyOperations, BadLine, BadSavepoint, WrongFormat}

abbrev pub number_of : Refusal → ℕ
number_of NoMemory = 1
number_of DeviceFailed = 2
number_of NotFormatted = 3
number_of (BadFormat place) = 4
number_of BadLength = 5
number_of NoSuchRelation = 6
number_of NoSuchCounter = 7
number_of BadStep = 8
number_of Escrow = 9
number_of NoRoom = 10
number_of LogFull = 11
number_of BookFull = 12
number_of TooManyTransactions = 13
number_of (Die holder) = 14
number_of Stranger = 15
number_of Busy = 16
number_of TooManyOperations = 17
number_of (BadLine line) = 18
number_of BadSavepoint = 19
number_of WrongFormat = 20

abbrev pub name_of : Refusal → List ℕ
name_of NoMemory = codes "NoMemory"
name_of DeviceFailed = codes "DeviceFailed"
name_of NotFormatted = codes "NotFormatted"
name_of (BadFormat place) = codes "BadFormat"
name_of BadLength = codes "BadLength"
name_of NoSuchRelation = codes "NoSuchRelation"
name_of NoSuchCounter = codes "NoSuchCounter"
name_of BadStep = codes "BadStep"
name_of Escrow = codes "Escrow"
name_of NoRoom = codes "NoRoom"
name_of LogFull = codes "LogFull"
name_of BookFull = codes "BookFull"
name_of TooManyTransactions = codes "TooManyTransactions"
name_of (Die holder) = codes "Die"
name_of Stranger = codes "Stranger"
name_of Busy = codes "Busy"
name_of TooManyOperations = codes "TooManyOperations"
name_of (BadLine line) = codes "BadLine"
name_of BadSavepoint = codes "BadSavepoint"
name_of WrongFormat = codes "WrongFormat"

-- what follows the name: the place or the line, after a space
abbrev pub place_of : Refusal → List ℕ
place_of (BadFormat place) = 32 ∷ decimal place
place_of (BadLine line) = 32 ∷ decimal line
place_of _ = []

abbrev pub text_of : Refusal → List ℕ
text_of r = codes "refused " ++ decimal (number_of r) ++ 32 ∷ name_of r ++ place_of r
