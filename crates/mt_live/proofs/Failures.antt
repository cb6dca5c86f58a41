-- Why each mistake's state is not explained.
use Rattle.std.proofs.Common.{◌≡◌, ◌==◌, pos, negsuc, Bool, true, false, cond, not, List, [], ◌∷◌, refl, ap, sym, ◌∙◌, arith}
use Rattle.mt_model.specs.declared.operations.Reply.TheVariants.{Found, Missing, Done, Rows, OutOfBounds}
use Rattle.mt_rows.specs.declared.rows.Row.{Row}
use Rattle.mt_rows.specs.Rows.{IsOrdered}
use Rattle.mt_rows.specs.Listing.{of_relation}
use Rattle.mt_rows.proofs.Listings.{listed_as_is}
use Rattle.mt_model.specs.declared.operations.Op.TheVariants.{Add}
use Rattle.mt_model.specs.Model.{Base}
use Rattle.mt_live.specs.declared.transactions.Role.TheVariants.{Stands, TakenBack, Back}
use Rattle.mt_live.specs.Entries.{Entry, AreActed}
use Rattle.mt_live.specs.Witness.{opening}
use Rattle.mt_live.specs.Counterexamples.{EarlyReleaseFails, PresentNumberFails, OldNumberFails, ReadLeftOverFails, PhantomFails, ForgottenAddFails}

pub early_release_fails : EarlyReleaseFails
early_release_fails = (
  (refl, (refl, tt)),
  λ explained. let left = explained.whichever (λ t. t == 1) in let wrong : Missing ≡ Found (2 ∷ []) = left.0 in cc,
)

pub present_number_fails : PresentNumberFails
present_number_fails = (
  (refl, (refl, tt)),
  λ explained. let left = explained.whichever (λ t. t == 1) in let wrong : OutOfBounds ≡ Done = left.0 in cc,
)

pub old_number_fails : OldNumberFails
old_number_fails = (
  (refl, tt),
  λ explained. let wrong : pos 6 ≡ pos 5 = ap (λ (b : Base). (b.counts 0).number) explained.all in cc,
)

pub read_left_over_fails : ReadLeftOverFails
read_left_over_fails held explained =
    let left = explained.whichever (λ t. false) in let wrong : Missing ≡ Found (2 ∷ []) = left.0 in cc

none_ordered : IsOrdered []
none_ordered = λ i j d lt within. absurd (omega (arith, within))

pub phantom_fails : PhantomFails
phantom_fails held explained =
    let left = explained.whichever (λ t. t == 1) in
    let row : Row = record { relation = 0; key = 1 ∷ []; value = 2 ∷ [] } in
    let wrong : Rows [] ≡ Rows (row ∷ []) = ap (λ xs. Rows (of_relation 0 xs)) (sym (listed_as_is [] none_ordered)) ∙ left.0 in
    cc

-- what is left of the entries, by whether the first and the second transaction are struck out
abbrev left_of : Bool → Bool → List Entry
left_of a b =
    cond (not a) (record { txn = 1; op = Add 0 (pos 5); reply = Done; role = TakenBack }
    ∷ cond (not a) (record { txn = 1; op = Add 0 (negsuc 4); reply = Done; role = Back } ∷ cond (not b) (record { txn = 2; op = Add 0 (pos 2); reply = Done; role = Stands } ∷ []) [])
    (cond (not b) (record { txn = 2; op = Add 0 (pos 2); reply = Done; role = Stands } ∷ []) []))
    (cond (not a) (record { txn = 1; op = Add 0 (negsuc 4); reply = Done; role = Back } ∷ cond (not b) (record { txn = 2; op = Add 0 (pos 2); reply = Done; role = Stands } ∷ []) [])
    (cond (not b) (record { txn = 2; op = Add 0 (pos 2); reply = Done; role = Stands } ∷ []) []))

whichever_left : (a b : Bool) → AreActed opening (left_of a b)
whichever_left true true = tt
whichever_left true false = (refl, tt)
whichever_left false true = (refl, (refl, tt))
whichever_left false false = (refl, (refl, (refl, tt)))

pub forgotten_add_fails : ForgottenAddFails
forgotten_add_fails = (
  record {
    whichever = λ s. whichever_left (s 1) (s 2);
    all = refl;
  },
  λ acted. let wrong : OutOfBounds ≡ Done = acted.0 in cc,
)
