-- The texts of records are read back.
use Rattle.std.proofs.Common.{◌≡◌, ℕ, ◌^◌, ◌≤◌, cond, eqb, List, [], ◌∷◌, ◌++◌, Some, None, refl, arith, inl, inr}
use Rattle.std.specs.Int.{w64, to_be_bytes}
use Rattle.mt_frame.specs.declared.records.Record.{Record}
use Rattle.mt_frame.specs.declared.records.Record.TheVariants.{Page, OpEnd, OpDropped, Commit, AbortEnd}
use Rattle.mt_frame.specs.Codec.{map_at}
use Rattle.mt_frame.specs.Grammar.{operation_text, record_text, IsOperation, IsTxn, IsOp, IsRecord}
use Rattle.mt_frame.specs.Readers.{MAX_NUMBER, txn_at, op_at, name_at, page_of, page_at, EndParts, end_of, end_at, dropped_of, record_at}
use Rattle.mt_frame.proofs.CodecLaws.{Reads, IsBytes, Takes, wide64, reads_within, reads_then, tagged, chosen, held, mapped}
use Rattle.mt_frame.proofs.OperationLaws.{reads_operation}
use Rattle.mt_frame.proofs.PageLaws.{reads_page, page_text_is, IsPageRecord-parts, parts_of, parts_fit}

reads_txn : Reads (to_be_bytes w64) (λ n. (1 ≤ n) × (n ≤ 1099511627776)) txn_at
unfolding txn_at
reads_txn = reads_within w64 (2 ^ 64) 1 1099511627776 wide64 (omega arith)

reads_op : Reads (to_be_bytes w64) (λ n. (1 ≤ n) × (n ≤ MAX_NUMBER)) op_at
unfolding op_at
reads_op = reads_within w64 (2 ^ 64) 1 MAX_NUMBER wide64 (omega arith)

abbrev name_text : ℕ × ℕ → List ℕ
name_text p = to_be_bytes w64 p.0 ++ to_be_bytes w64 p.1

abbrev NameFits : ℕ × ℕ → Type 0
NameFits p = ((1 ≤ p.0) × (p.0 ≤ 1099511627776)) × ((1 ≤ p.1) × (p.1 ≤ MAX_NUMBER))

reads_name : Reads name_text NameFits name_at
unfolding name_at
reads_name = reads_then reads_txn (λ _ _. reads_op)

abbrev end_text : EndParts → List ℕ
end_text p = name_text p.0 ++ (to_be_bytes w64 p.1.0 ++ operation_text p.1.1)

abbrev EndFits : EndParts → Type 0
EndFits p = NameFits p.0 × (((0 ≤ p.1.0) × (p.1.0 ≤ MAX_NUMBER)) × IsOperation p.1.1)

reads_end : Reads end_text EndFits end_at
unfolding end_at
reads_end = reads_then reads_name (λ _ _. reads_then (reads_within w64 (2 ^ 64) 0 MAX_NUMBER wide64 (omega arith)) (λ _ _. reads_operation))

name_fits : (txn op : ℕ) → IsTxn txn → IsOp op → NameFits (txn, op)
name_fits txn op t o = ((t.0, omega (arith, t.1)), (o.0, omega (arith, o.1)))

op_of : (n : ℕ) → (1 ≤ n) × (n ≤ MAX_NUMBER) → IsOp n
op_of n f = (f.0, omega (arith, f.1))

pub reads_record : Reads record_text IsRecord record_at
unfolding record_at
reads_record = record { takes = took; again = redo }
  where
    took : (bytes : List ℕ) (x : Record × List ℕ) → IsBytes bytes → record_at bytes ≡ Some x → Takes bytes (record_text x.0) x.1 × IsRecord x.0
    took [] x fits e = absurd cc
    took (kind ∷ bytes) x fits e = elim (chosen (eqb kind 1) (map_at page_of page_at bytes) (cond (eqb kind 2) (map_at end_of end_at bytes) (cond (eqb kind 3) (map_at dropped_of name_at bytes) (cond (eqb kind 4) (map_at Commit txn_at bytes) (cond (eqb kind 5) (map_at AbortEnd txn_at bytes) None)))) x e) [
      | inl h ↦ tagged record_text IsRecord 1 page_of reads_page page_text_is IsPageRecord-parts kind bytes x fits h.0 h.1
      | inr g ↦ elim (chosen (eqb kind 2) (map_at end_of end_at bytes) (cond (eqb kind 3) (map_at dropped_of name_at bytes) (cond (eqb kind 4) (map_at Commit txn_at bytes) (cond (eqb kind 5) (map_at AbortEnd txn_at bytes) None))) x g.1) [
        | inl h ↦ tagged record_text IsRecord 2 end_of reads_end (λ p f. refl) (λ p f. (f.0.0, op_of p.0.1 f.0.1, omega (arith, f.1.0.1), f.1.1)) kind bytes x fits h.0 h.1
        | inr k ↦ elim (chosen (eqb kind 3) (map_at dropped_of name_at bytes) (cond (eqb kind 4) (map_at Commit txn_at bytes) (cond (eqb kind 5) (map_at AbortEnd txn_at bytes) None)) x k.1) [
          | inl h ↦ tagged record_text IsRecord 3 dropped_of reads_name (λ p f. refl) (λ p f. (f.0, op_of p.1 f.1)) kind bytes x fits h.0 h.1
          | inr l ↦ elim (chosen (eqb kind 4) (map_at Commit txn_at bytes) (cond (eqb kind 5) (map_at AbortEnd txn_at bytes) None) x l.1) [
            | inl h ↦ tagged record_text IsRecord 4 Commit reads_txn (λ t f. refl) (λ t f. f) kind bytes x fits h.0 h.1
            | inr m ↦ let h = held (eqb kind 5) (map_at AbortEnd txn_at bytes) x m.1 in
                tagged record_text IsRecord 5 AbortEnd reads_txn (λ t f. refl) (λ t f. f) kind bytes x fits h.0 h.1
          ]
        ]
      ]
    ]

    redo : (a : Record) (rest : List ℕ) → IsRecord a → record_at (record_text a ++ rest) ≡ Some (a, rest)
    redo (Page txn op page image start old new) rest ok = mapped page_at _ page_of (reads_page.again (parts_of txn op page image start old new) rest (parts_fit txn op page image start old new ok))
    redo (OpEnd txn op undoes done) rest ok = mapped end_at _ end_of (reads_end.again ((txn, op), (undoes, done)) rest (name_fits txn op ok.0 ok.1, ((omega arith, omega (arith, ok.2)), ok.3)))
    redo (OpDropped txn op) rest ok = mapped name_at _ dropped_of (reads_name.again (txn, op) rest (name_fits txn op ok.0 ok.1))
    redo (Commit txn) rest ok = mapped txn_at _ Commit (reads_txn.again txn rest ok)
    redo (AbortEnd txn) rest ok = mapped txn_at _ AbortEnd (reads_txn.again txn rest ok)
