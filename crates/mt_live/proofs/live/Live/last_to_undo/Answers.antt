use Rattle.std.proofs.Common.{◌≡◌, ◌==◌, ◌∙◌, None, Some, ap, sym}
use Rattle.std.specs.List.{position}
use Rattle.std.specs.Option.{option_map}
use Rattle.mt_live.specs.Entries.{Entry}
use Rattle.mt_live.specs.Undoing.{last_effect}
use Rattle.mt_live.specs.Lives.{Lives, calls_in, member_of}
use Rattle.mt_live.specs.Members.{Member, last_place, operation_at, last_operation}
use Rattle.mt_live.proofs.Wells.{first_from, found_or_none, is_there, nothing_undone, no_effect, read_last, same_two}
use Rattle.mt_live.proofs.live.Live.last_to_undo.Goals as goal

pub returns-in_err-place-clause-last : goal.returns-in_err-place-clause-last
returns-in_err-place-clause-last c =
    let ms = c.self.inside.transactions.items in
    let none : member_of ms c.args.txn ≡ None = ap (λ xs. member_of xs c.args.txn) (sym c.deref.ensures.value) ∙ found_or_none c.deref.result.now c.args.txn None (sym c.in_err-place.was ∙ c.place_of.ensures) in
    let empty = nothing_undone _ ms _ _ _ c.args.txn c.self.invariant (ap (λ x. last_place (calls_in x)) none) in
    rw c.from_residual.ensures
    (sym (ap (option_map (λ (e : Entry). (e.op, e.reply))) empty)
    ∙ ap (λ (l : Lives). option_map (λ (e : Entry). (e.op, e.reply)) (last_effect c.args.txn l.standing)) c.self.view_is)

pub returns-in_err-place-clause-number : goal.returns-in_err-place-clause-number
returns-in_err-place-clause-number c =
    let ms = c.self.inside.transactions.items in
    let none : member_of ms c.args.txn ≡ None = ap (λ xs. member_of xs c.args.txn) (sym c.deref.ensures.value) ∙ found_or_none c.deref.result.now c.args.txn None (sym c.in_err-place.was ∙ c.place_of.ensures) in
    rw c.from_residual.ensures (sym (ap last_operation none) ∙ ap (λ (l : Lives). last_operation (member_of l.members c.args.txn)) c.self.view_is)

pub returns-in_err-at-clause-last : goal.returns-in_err-at-clause-last
returns-in_err-at-clause-last c =
    let ms = c.self.inside.transactions.items in
    let first = first_from ms c.args.txn c.in_ok-place.place (ap (λ xs. position (λ (m : Member). m.number == c.args.txn) xs) (sym c.deref.ensures.value) ∙ (sym c.place_of.ensures ∙ c.in_ok-place.was)) in
    let empty = no_effect _ ms _ _ _ c.args.txn c.in_ok-place.place c.index.result.now c.self.invariant first c.index.ensures (sym c.last_place.ensures.place ∙ c.in_err-at.was) in
    rw c.from_residual-in_err-at.ensures
    (sym (ap (option_map (λ (e : Entry). (e.op, e.reply))) empty)
    ∙ ap (λ (l : Lives). option_map (λ (e : Entry). (e.op, e.reply)) (last_effect c.args.txn l.standing)) c.self.view_is)

pub returns-in_err-at-clause-number : goal.returns-in_err-at-clause-number
returns-in_err-at-clause-number c =
    let ms = c.self.inside.transactions.items in
    let m = c.index.result.now in
    let first = first_from ms c.args.txn c.in_ok-place.place (ap (λ xs. position (λ (m : Member). m.number == c.args.txn) xs) (sym c.deref.ensures.value) ∙ (sym c.place_of.ensures ∙ c.in_ok-place.was)) in
    let found = is_there ms c.args.txn c.in_ok-place.place m first c.index.ensures in
    rw c.from_residual-in_err-at.ensures
    (sym (ap last_operation found ∙ ap (operation_at m) (sym c.last_place.ensures.place ∙ c.in_err-at.was))
    ∙ ap (λ (l : Lives). last_operation (member_of l.members c.args.txn)) c.self.view_is)

pub returns-clause-last : goal.returns-clause-last
returns-clause-last c =
    let ms = c.self.inside.transactions.items in
    let first = first_from ms c.args.txn c.in_ok-place.place (ap (λ xs. position (λ (m : Member). m.number == c.args.txn) xs) (sym c.deref.ensures.value) ∙ (sym c.place_of.ensures ∙ c.in_ok-place.was)) in
    let read = read_last _ ms _ _ _ c.args.txn c.in_ok-place.place c.in_ok-place.place c.index.result.now c.index-2.result.now c.in_ok-at.at c.call.result.now c.self.invariant first c.index.ensures c.index-2.ensures
    (sym c.last_place.ensures.place ∙ c.in_ok-at.was) c.call.ensures in
    sym read
    ∙ ap (λ (l : Lives). option_map (λ (e : Entry). (e.op, e.reply)) (last_effect c.args.txn l.standing)) c.self.view_is

pub returns-clause-number : goal.returns-clause-number
returns-clause-number c =
    let ms = c.self.inside.transactions.items in
    let m = c.index.result.now in
    let n = c.index-3.result.now in
    let i = c.in_ok-place.place in
    let first = first_from ms c.args.txn i (ap (λ xs. position (λ (m : Member). m.number == c.args.txn) xs) (sym c.deref.ensures.value) ∙ (sym c.place_of.ensures ∙ c.in_ok-place.was)) in
    let found = is_there ms c.args.txn i n first c.index-3.ensures in
    let same = same_two ms c.args.txn i n m first c.index-3.ensures c.index.ensures in
    let last = ap (λ (x : Member). last_place x.calls) same ∙ (sym c.last_place.ensures.place ∙ c.in_ok-at.was) in
    ap Some (c.operation-number.ensures 0)
    ∙ (sym (ap last_operation found ∙ ap (operation_at n) last) ∙ ap (λ (l : Lives). last_operation (member_of l.members c.args.txn)) c.self.view_is)
