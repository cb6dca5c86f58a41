-- A struct of one part, which has no bytes: what such a struct and its part own. Assumes `Logic`.
use Rattle.std.proofs.Common.{List, [], ◌∷◌, refl}
use seplogic.Ra.Ura.{Ura}
use mir.Val.{Val, vstruct, vcons, vnil}
use types.Logic.{Logic}
use types.Kit.{Goal, Step, step, Item, ‵, ◌$◌, move, fjoin, fpack, feq_i}
use denote.RattleType.{RattleType, Valss}
use denote.Struct.Laws.{makes}
use denote.Laws.{Is}
use denote.Steps.{nothing, owned}
use denote.Struct.Struct.{Shape, Struct, within}
use Rattle.std.specs.contracts.marker.PhantomData as Mark

-- the machine's value of a struct with no fields, and of one whose field is such a struct
abbrev pub none : Val
none = vstruct vnil

abbrev pub inside : Val
inside = vstruct (vcons none vnil)

abbrev around : RattleType → Shape
around R = record { name = []; args = []; types = []; fields = Mark.the_row R ∷ [] }

-- the struct round a mark is made of nothing
pub marked : {M : Type 1} {𝓤 : Ura M} {𝓛 : Logic 𝓤} {K : Type 0} {Γ : List (Item 𝓤)} {G : Goal 𝓤 𝓛.H} → K → (R : RattleType) → Step K 𝓛 (‵ ((Struct (around R)).own_val (record {}, tt) (inside ∷ [])) ∷ Γ) G Γ G
marked {𝓛 = 𝓛} t R = step (λ s.
    owned t (Mark.the_row R) (Is (Mark.the_row R)) (makes (Mark.the_type R) tt 𝓛) (record {}) (none ∷ []) (tt, (refl, tt)) $
    nothing t $ move t (1 ∷ 0 ∷ []) $ fjoin t $ feq_i t (List Val) (inside ∷ []) (inside ∷ []) refl $ fjoin t $
    fpack t (Valss (Mark.the_row R ∷ [])) (within (around R) (record {}, tt) (inside ∷ [])) (none ∷ [], tt) $ s)
