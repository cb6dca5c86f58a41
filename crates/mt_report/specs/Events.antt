-- The lines of a schedule, as bytes: an event each.
use Rattle.std.specs.Prelude.{ℕ, ◌<◌, ◌^◌, List, ◌∷◌, ◌++◌, Option, codes, ⊤}
use Rattle.std.specs.Fmt.{decimal}
use Rattle.mt_script.specs.Grammars.{AreLines, ReadsIn, SpellsIn}
use Rattle.mt_script.specs.Lines.{IsSpelled, op_text}
use Rattle.mt_world.specs.declared.events.Event.{Event}
use Rattle.mt_world.specs.declared.events.Event.TheVariants.{Begin, Call, Step, Commit, AbortBegin, AbortStep, Back, BackStep, Force, Flush, Rotate}

-- the number of a session, and of a transaction
abbrev pub IsSession : ℕ → Type 0
IsSession n = n < 2 ^ 32

abbrev pub IsTxnNumber : ℕ → Type 0
IsTxnNumber n = n < 2 ^ 64

-- how many operations are to count once a transaction has gone back
abbrev pub IsFirst : ℕ → Type 0
IsFirst n = n < 2 ^ 16

-- how an event is spelled, without the end of its line
abbrev pub event_text : Event → List ℕ
event_text (Begin session) = codes "begin" ++ 32 ∷ decimal session
event_text (Call t op) = codes "call" ++ 32 ∷ decimal t ++ 32 ∷ op_text op
event_text (Step t) = codes "step" ++ 32 ∷ decimal t
event_text (Commit t) = codes "commit" ++ 32 ∷ decimal t
event_text (AbortBegin t) = codes "abort" ++ 32 ∷ decimal t
event_text (AbortStep t) = codes "undo" ++ 32 ∷ decimal t
event_text (Back t first) = codes "back" ++ 32 ∷ decimal t ++ 32 ∷ decimal first
event_text (BackStep t) = codes "backstep" ++ 32 ∷ decimal t
event_text Force = codes "force"
event_text Flush = codes "flush"
event_text Rotate = codes "rotate"

-- an event that can be spelled
abbrev pub IsEvent : Event → Type 0
IsEvent (Begin session) = IsSession session
IsEvent (Call t op) = IsTxnNumber t × IsSpelled op
IsEvent (Step t) = IsTxnNumber t
IsEvent (Commit t) = IsTxnNumber t
IsEvent (AbortBegin t) = IsTxnNumber t
IsEvent (AbortStep t) = IsTxnNumber t
IsEvent (Back t first) = IsTxnNumber t × IsFirst first
IsEvent (BackStep t) = IsTxnNumber t
IsEvent Force = ⊤
IsEvent Flush = ⊤
IsEvent Rotate = ⊤

-- the bytes spell the event
abbrev pub SpellsEvent : List ℕ → Event → Type 0
SpellsEvent bytes event = SpellsIn event_text IsEvent bytes event

-- an event that the bytes spell, or none if they spell none
abbrev pub ReadsEvent : List ℕ → Option Event → Type 0
ReadsEvent bytes o = ReadsIn event_text IsEvent bytes o

-- the bytes are just these events, each with LF after it
abbrev pub IsSchedule : List ℕ → List Event → Type 0
IsSchedule bytes events = AreLines event_text IsEvent bytes events
