-- Lists of operations, of calls and of transactions, one behind another.
use Rattle.std.proofs.Common.{◌≡◌, List, [], ◌∷◌, ◌++◌, refl, ap}
use Rattle.mt_model.specs.declared.operations.Op.{Op}
use Rattle.mt_model.specs.declared.operations.Reply.{Reply}
use Rattle.mt_model.specs.declared.history.Committed.{Committed}
use Rattle.mt_model.specs.Model.{Base, reply_of, base_after}
use Rattle.mt_model.specs.History.{Call, alone, run, IsActed, ops_of, replies_of, after, IsLegal}

-- ---- operations alone

pub alone-append : (b : Base) (xs ys : List Op)
    → alone b (xs ++ ys) ≡ ((alone (alone b xs).0 ys).0, (alone b xs).1 ++ (alone (alone b xs).0 ys).1)
alone-append b [] ys = refl
alone-append b (x ∷ xs) ys = ap (λ (p : Base × List Reply). (p.0, reply_of b x ∷ p.1)) (alone-append (base_after b x) xs ys)

pub run-alone : (b : Base) (cs : List Call) → run b cs ≡ (alone b (ops_of cs)).0
run-alone b [] = refl
run-alone b (c ∷ cs) = run-alone (base_after b c.0) cs

pub alone_from_acted : (b : Base) (cs : List Call) → IsActed b cs → (alone b (ops_of cs)).1 ≡ replies_of cs
alone_from_acted b [] acted = refl
alone_from_acted b (c ∷ cs) acted =
    let first = acted.0 in let rest = alone_from_acted (base_after b c.0) cs acted.1 in cc

pub acted_from_alone : (b : Base) (cs : List Call) → (alone b (ops_of cs)).1 ≡ replies_of cs → IsActed b cs
acted_from_alone b [] same = tt
acted_from_alone b (c ∷ cs) same =
    let first : reply_of b c.0 ≡ c.1 = cc in
    let rest : (alone (base_after b c.0) (ops_of cs)).1 ≡ replies_of cs = cc in
    (first, acted_from_alone (base_after b c.0) cs rest)

-- ---- calls

pub run-append : (b : Base) (xs ys : List Call) → run b (xs ++ ys) ≡ run (run b xs) ys
run-append b [] ys = refl
run-append b (x ∷ xs) ys = run-append (base_after b x.0) xs ys

pub acted_append : (b : Base) (xs ys : List Call) → IsActed b xs → IsActed (run b xs) ys → IsActed b (xs ++ ys)
acted_append b [] ys first rest = rest
acted_append b (x ∷ xs) ys first rest = (first.0, acted_append (base_after b x.0) xs ys first.1 rest)

pub acted_front : (b : Base) (xs ys : List Call) → IsActed b (xs ++ ys) → IsActed b xs
acted_front b [] ys acted = tt
acted_front b (x ∷ xs) ys acted = (acted.0, acted_front (base_after b x.0) xs ys acted.1)

pub acted_back : (b : Base) (xs ys : List Call) → IsActed b (xs ++ ys) → IsActed (run b xs) ys
acted_back b [] ys acted = acted
acted_back b (x ∷ xs) ys acted = acted_back (base_after b x.0) xs ys acted.1

-- ---- transactions

pub after-append : (b : Base) (cs ds : List Committed) → after b (cs ++ ds) ≡ after (after b cs) ds
after-append b [] ds = refl
after-append b (c ∷ cs) ds = after-append (run b c.calls) cs ds

pub legal_append : (b : Base) (cs ds : List Committed) → IsLegal b cs → IsLegal (after b cs) ds → IsLegal b (cs ++ ds)
legal_append b [] ds first rest = rest
legal_append b (c ∷ cs) ds first rest = (first.0, legal_append (run b c.calls) cs ds first.1 rest)

pub legal_front : (b : Base) (cs ds : List Committed) → IsLegal b (cs ++ ds) → IsLegal b cs
legal_front b [] ds legal = tt
legal_front b (c ∷ cs) ds legal = (legal.0, legal_front (run b c.calls) cs ds legal.1)

pub legal_back : (b : Base) (cs ds : List Committed) → IsLegal b (cs ++ ds) → IsLegal (after b cs) ds
legal_back b [] ds legal = legal
legal_back b (c ∷ cs) ds legal = legal_back (run b c.calls) cs ds legal.1
