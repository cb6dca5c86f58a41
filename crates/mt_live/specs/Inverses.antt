-- What takes calls back.
use Rattle.std.specs.Prelude.{List, [], ◌∷◌, ◌++◌, Option, Some, None}
use Rattle.mt_model.specs.declared.operations.Op.{Op}
use Rattle.mt_model.specs.History.{Call, run}
use Rattle.mt_model.specs.Model.{Base, reply_of, inverse_of}

-- an inverse with the model's reply on a base, if there is one
abbrev pub inverse_on : Base → Option Op → List Call
inverse_on b None = []
inverse_on b (Some i) = (i, reply_of b i) ∷ []

-- the inverses of calls, the last one first, each with the model's reply on the base that those before it leave
abbrev pub inverses_on : Base → List Call → List Call
inverses_on b [] = []
inverses_on b (c ∷ cs) = inverses_on b cs ++ inverse_on (run b (inverses_on b cs)) (inverse_of c.0 c.1)
