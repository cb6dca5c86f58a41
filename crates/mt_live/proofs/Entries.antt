-- Entries at one object: the model's lemmas on calls, for entries.
use Rattle.std.proofs.Common.{◌≡◌, Bool, true, false, cond, List, [], ◌∷◌, ◌++◌, filter, refl, ap, sym, ◌∙◌, subst}
use Rattle.mt_model.specs.declared.objects.Object.{Object}
use Rattle.mt_model.specs.Model.{Base}
use Rattle.mt_model.specs.History.{Call, run, IsActed}
use Rattle.mt_model.proofs.Cells.{Cell, cell, touches}
use Rattle.mt_model.proofs.Split as split
use Rattle.mt_model.proofs.Appends as append
use Rattle.mt_live.specs.Entries.{Entry, calls, runs, AreActed}

-- the entries that touch one object
abbrev pub on : Object → List Entry → List Entry
on x es = filter (λ (e : Entry). touches e.op x) es

-- the cell that entries leave, and that each has a reply that fits there
abbrev pub cell_runs : Cell → List Entry → Cell
cell_runs c es = split.cell_run c (calls es)

abbrev pub AreCellActed : Object → Cell → List Entry → Type 0
AreCellActed x c es = split.CellActed x c (calls es)

calls_choice : (t : Bool) (e : Entry) (es : List Entry) (cs : List Call) → cs ≡ calls es → cond t ((e.op, e.reply) ∷ cs) cs ≡ calls (cond t (e ∷ es) es)
calls_choice true e es cs h = ap (λ w. (e.op, e.reply) ∷ w) h
calls_choice false e es cs h = h

pub calls-on : (x : Object) (es : List Entry) → split.on x (calls es) ≡ calls (on x es)
calls-on x [] = refl
calls-on x (e ∷ es) = calls_choice (touches e.op x) e (on x es) (split.on x (calls es)) (calls-on x es)

pub calls-append : (es fs : List Entry) → calls (es ++ fs) ≡ calls es ++ calls fs
calls-append [] fs = refl
calls-append (e ∷ es) fs = ap (λ w. (e.op, e.reply) ∷ w) (calls-append es fs)

-- ---- a run at one object

pub runs-on : (b : Base) (es : List Entry) (x : Object) → cell (runs b es) x ≡ cell_runs (cell b x) (on x es)
runs-on b es x = split.run-on b (calls es) x ∙ ap (split.cell_run (cell b x)) (calls-on x es)

pub acted-on : (b : Base) (es : List Entry) (x : Object) → AreActed b es → AreCellActed x (cell b x) (on x es)
acted-on b es x acted = subst (split.CellActed x (cell b x)) (calls-on x es) (split.acted-on b (calls es) x acted)

pub acted_from_each : (b : Base) (es : List Entry) → ((x : Object) → AreCellActed x (cell b x) (on x es)) → AreActed b es
acted_from_each b es each = split.acted_from_each b (calls es) (λ x. subst (split.CellActed x (cell b x)) (sym (calls-on x es)) (each x))

-- ---- one list behind another

pub runs-append : (b : Base) (es fs : List Entry) → runs b (es ++ fs) ≡ runs (runs b es) fs
runs-append b es fs = ap (run b) (calls-append es fs) ∙ append.run-append b (calls es) (calls fs)

pub acted_append : (b : Base) (es fs : List Entry) → AreActed b es → AreActed (runs b es) fs → AreActed b (es ++ fs)
acted_append b es fs first rest = subst (IsActed b) (sym (calls-append es fs)) (append.acted_append b (calls es) (calls fs) first rest)

pub acted_front : (b : Base) (es fs : List Entry) → AreActed b (es ++ fs) → AreActed b es
acted_front b es fs acted = append.acted_front b (calls es) (calls fs) (subst (IsActed b) (calls-append es fs) acted)

pub acted_back : (b : Base) (es fs : List Entry) → AreActed b (es ++ fs) → AreActed (runs b es) fs
acted_back b es fs acted = append.acted_back b (calls es) (calls fs) (subst (IsActed b) (calls-append es fs) acted)
