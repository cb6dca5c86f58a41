-- What the plans of the record file and of the index make of rows, both together.
use Rattle.std.proofs.Common.{◌≡◌, ◌≢◌, ◌⊎◌, ⊎_elim, ℕ, ◌<◌, List, length, get_or, None, Some, refl, ap, sym, ◌∙◌, subst, arith, Bool, cond}
use Rattle.std.proofs.lemmas.Bool.{cases_eq}
use Rattle.mt_base.specs.declared.limits.TheConstants.{MAX_VALUE_BYTES}
use Rattle.mt_base.specs.declared.numbers.RecordName.{RecordName}
use Rattle.mt_slots.specs.Page.{Fits, Row}
use Rattle.mt_space.specs.Changes.{PageBytes}
use Rattle.mt_space.specs.Kinds.{kind, IsMap}
use Rattle.mt_file.specs.File.{record_in, Touches, Adds, Drops, Stays as StaysThere, Puts, Moves}
use Rattle.mt_file.proofs.Filed.{record_kind}
use Rattle.mt_index.specs.Maps.{Map, alter}
use Rattle.mt_index.specs.Pages.{AreMap, AreFormed, LeavesIndex}
use Rattle.mt_model.specs.Model.{Base, alter_row, inserted, updated, deleted}
use Rattle.mt_steps.specs.Held.{HoldsRows, AreNamed, AreRows}
use Rattle.mt_steps.proofs.Rows.{rows_put, names_put, none_lone, name_lone, none_held, alter_same, alter_twice, rows_twice, key_same, IsLone}
use Rattle.mt_index.proofs.Witness.{index_stays, form_stays}
use Rattle.mt_steps.proofs.Apart.{StaysFile, records_stay, file_stays, within_stays}

-- pages of different kinds are different ones
pub apart_kinds : (pages : PageBytes) (p q a b : ℕ) → kind pages p ≡ a → kind pages q ≡ b → a ≢ b → p ≢ q
apart_kinds pages p q a b is_a is_b ne e = ne (sym is_a ∙ ap (λ (n : ℕ). kind pages n) e ∙ is_b)

-- a page that is no bucket's, before and after, changes its kind and bytes: the index stays
pub touches_index : (total : ℕ) (pages mid : PageBytes) (m : Map) (p : ℕ) → AreMap total pages m → Touches pages mid p → (kind pages p ≡ 3) ⊎ (kind pages p ≡ 0) → p < total → kind mid p ≢ 2 → LeavesIndex total pages mid
touches_index total pages mid m p a t old inside new = record {
  directory = t.others 1 (not_one 1 a.directory_fixed) (omega arith);
  buckets = λ q is. (t.kinds q (not_bucket q is) ∙ is, t.others q (not_bucket q is) (λ z. let w : q ≡ 0 = z in let one : kind pages q ≡ 1 = ap (λ (n : ℕ). kind pages n) w ∙ a.space_fixed in absurd (let two : kind pages q ≡ 2 = is in omega (arith, one, two))));
  no_more = λ q is. ⊎_elim
      (λ (e : q ≡ p). absurd (new (ap (λ (n : ℕ). kind mid n) (sym e) ∙ is)))
      (λ (ne : q ≢ p). sym (t.kinds q ne) ∙ is)
      (cases_eq q p);
  fixed = λ q one. t.kinds q (not_one q one) ∙ one;
  within = λ q some. ⊎_elim
      (λ (e : q ≡ p). let same : q ≡ p = e in omega (arith, inside, same))
      (λ (ne : q ≢ p). a.within q (λ z. some (t.kinds q ne ∙ z)))
      (cases_eq q p);
}
  where
    not_one : (q : ℕ) → kind pages q ≡ 1 → q ≢ p
    not_one q one e = ⊎_elim
        (λ (three : kind pages p ≡ 3). apart_kinds pages q p 1 3 one three (omega arith) e)
        (λ (zero : kind pages p ≡ 0). apart_kinds pages q p 1 0 one zero (omega arith) e)
        old

    not_bucket : (q : ℕ) → kind pages q ≡ 2 → q ≢ p
    not_bucket q two e = ⊎_elim
        (λ (three : kind pages p ≡ 3). apart_kinds pages q p 2 3 two three (omega arith) e)
        (λ (zero : kind pages p ≡ 0). apart_kinds pages q p 2 0 two zero (omega arith) e)
        old

-- buckets change alone: the record file stays
pub amends_file : (pages pages2 : PageBytes) → kind pages 0 ≡ 1 → ((p : ℕ) → kind pages p ≢ 2 → pages2 p ≡ pages p) → StaysFile pages pages2
amends_file pages pages2 space others = record {
  size = ap length map;
  fixed = kinds 0 ∙ space;
  kinds = λ p is. kinds p ∙ is;
  back = λ p is. sym (kinds p) ∙ is;
  bytes = λ p is. others p (λ two. let a : kind pages p ≡ 3 = is in let b : kind pages p ≡ 2 = two in omega (arith, a, b));
}
  where
    map : pages2 0 ≡ pages 0
    map = others 0 (λ two. let b : kind pages 0 ≡ 2 = two in omega (arith, space, b))

    kinds : (p : ℕ) → kind pages2 p ≡ kind pages p
    kinds p = ap (λ (c : List ℕ). get_or c p 0) map

-- what the records are is what the rows and names go by
pub named_same : (pages pages2 : PageBytes) (m : Map) → ((p s : ℕ) → record_in pages2 p s ≡ record_in pages p s) → AreNamed pages m → AreNamed pages2 m
named_same pages pages2 m same n = record {
  names = λ r k name is. let t = n.names r k name is in (t.0, same name.page name.slot ∙ t.1);
  named = λ p s row e. n.named p s row (sym (same p s) ∙ e);
}

pub rows_same : (pages pages2 : PageBytes) (b : Base) → ((p s : ℕ) → record_in pages2 p s ≡ record_in pages p s) → HoldsRows pages b → HoldsRows pages2 b
rows_same pages pages2 b same h = record {
  found = λ r k v is. let t = h.found r k v is in (t.0, t.1, same t.0 t.1 ∙ t.2);
  there = λ r k v t. h.there r k v (t.0, t.1, sym (same t.0 t.1) ∙ t.2);
}

-- the same base, in other words
pub base_same : (pages : PageBytes) (b c : Base) → ((r : ℕ) (k : List ℕ) → b.rows r k ≡ c.rows r k) → HoldsRows pages b → HoldsRows pages c
base_same pages b c same h = record {
  found = λ r k v is. h.found r k v (same r k ∙ is);
  there = λ r k v t. sym (same r k) ∙ h.there r k v t;
}

-- ---- an insert

-- the pages that an insert leaves are as good as before
pub inserts_good : (relations total : ℕ) (pages mid last : PageBytes) (m : Map) (p s r : ℕ) (k v : List ℕ) → AreRows relations total pages m → m r k ≡ None
    → Fits relations MAX_VALUE_BYTES (record { relation = r; key = k; value = v }) → Adds pages mid p s (record { relation = r; key = k; value = v }) → StaysFile mid last
    → AreMap total last (alter m r k (Some (record { page = p; slot = s }))) → AreFormed relations total last → IsMap total last → AreRows relations total last (alter m r k (Some (record { page = p; slot = s })))
inserts_good relations total pages mid last m p s r k v rows none fits adds kept map formed is_map = record {
  file = file_stays mid last kept adds.file;
  within = within_stays relations MAX_VALUE_BYTES mid last kept (adds.within relations MAX_VALUE_BYTES rows.within fits);
  index = map;
  formed = formed;
  named = named_same mid last (alter m r k (Some (record { page = p; slot = s }))) (records_stay mid last kept) (names_put pages mid m p s r k None (Some v) rows.named adds.free (none_lone pages m p s r k rows.named none) adds.puts);
  map = is_map;
}

-- and hold the base with the row
pub inserts_base : (relations total : ℕ) (pages mid last : PageBytes) (m : Map) (b : Base) (p s r : ℕ) (k v : List ℕ) → AreRows relations total pages m → HoldsRows pages b → m r k ≡ None
    → Adds pages mid p s (record { relation = r; key = k; value = v }) → StaysFile mid last → HoldsRows last (alter_row b r k (inserted v))
inserts_base relations total pages mid last m b p s r k v rows held none adds kept =
    rows_same mid last (alter_row b r k (inserted v)) (records_stay mid last kept)
    (rows_put pages mid b p s r k None (Some v) (inserted v) held adds.free (none_lone pages m p s r k rows.named none) adds.puts (ap (inserted v) (none_held pages m b r k rows.named held none)))

-- ---- a delete

-- the pages that a delete leaves are as good as before
pub deletes_good : (relations total : ℕ) (pages mid last : PageBytes) (m : Map) (n : RecordName) (r : ℕ) (k v : List ℕ) → AreRows relations total pages m → m r k ≡ Some n
    → record_in pages n.page n.slot ≡ Some (record { relation = r; key = k; value = v }) → Drops pages mid n.page n.slot → StaysFile mid last
    → AreMap total last (alter m r k None) → AreFormed relations total last → IsMap total last → AreRows relations total last (alter m r k None)
deletes_good relations total pages mid last m n r k v rows is stood drops kept map formed is_map = record {
  file = file_stays mid last kept drops.file;
  within = within_stays relations MAX_VALUE_BYTES mid last kept (drops.within relations MAX_VALUE_BYTES rows.within);
  index = map;
  formed = formed;
  named = named_same mid last (alter m r k None) (records_stay mid last kept) (names_put pages mid m n.page n.slot r k (Some v) None rows.named stood (name_lone pages m r k n rows.named is) drops.puts);
  map = is_map;
}

-- and hold the base without the row
pub deletes_base : (relations total : ℕ) (pages mid last : PageBytes) (m : Map) (b : Base) (n : RecordName) (r : ℕ) (k v : List ℕ) → AreRows relations total pages m → HoldsRows pages b → m r k ≡ Some n
    → record_in pages n.page n.slot ≡ Some (record { relation = r; key = k; value = v }) → Drops pages mid n.page n.slot → StaysFile mid last → HoldsRows last (alter_row b r k deleted)
deletes_base relations total pages mid last m b n r k v rows held is stood drops kept =
    rows_same mid last (alter_row b r k deleted) (records_stay mid last kept)
    (rows_put pages mid b n.page n.slot r k (Some v) None deleted held stood (name_lone pages m r k n rows.named is) drops.puts refl)

-- ---- an update

pub value_held : (pages : PageBytes) (m : Map) (b : Base) (n : RecordName) (r : ℕ) (k v : List ℕ) → HoldsRows pages b → record_in pages n.page n.slot ≡ Some (record { relation = r; key = k; value = v }) → b.rows r k ≡ Some v
value_held pages m b n r k v held stood = held.there r k v (n.page, n.slot, stood)

-- a change of one page of records leaves the index
pub stays_index : (total : ℕ) (pages last : PageBytes) (m : Map) (p s : ℕ) (row : Row) → AreMap total pages m → kind pages p ≡ 3 → StaysThere pages last p s row → LeavesIndex total pages last
stays_index total pages last m p s row a three stays = record {
  directory = stays.others 1 (not_here 1 (λ z. let x : kind pages 1 ≡ 3 = z in let c = a.directory_fixed in omega (arith, x, c)));
  buckets = λ q two. (stays.kinds q ∙ two, stays.others q (not_here q (λ z. let x : kind pages q ≡ 3 = z in let c : kind pages q ≡ 2 = two in omega (arith, x, c))));
  no_more = λ q two. sym (stays.kinds q) ∙ two;
  fixed = λ q one. stays.kinds q ∙ one;
  within = λ q some. a.within q (λ z. some (stays.kinds q ∙ z));
}
  where
    not_here : (q : ℕ) → kind pages q ≢ 3 → q ≢ p
    not_here q ne e = ne (ap (λ (x : ℕ). kind pages x) e ∙ three)

-- what the names are, in other words
pub same_map : (pages : PageBytes) (x y : Map) → ((q : ℕ) (l : List ℕ) → x q l ≡ y q l) → AreNamed pages x → AreNamed pages y
same_map pages x y e a = subst (AreNamed pages) (λ i q l. e q l i) a

-- the record stays under its name: the pages are as good as before
pub updates_good : (relations total : ℕ) (pages last : PageBytes) (m : Map) (n : RecordName) (r : ℕ) (k v w : List ℕ) → AreRows relations total pages m → m r k ≡ Some n
    → record_in pages n.page n.slot ≡ Some (record { relation = r; key = k; value = v }) → Fits relations MAX_VALUE_BYTES (record { relation = r; key = k; value = w })
    → StaysThere pages last n.page n.slot (record { relation = r; key = k; value = w }) → IsMap total last → AreRows relations total last m
updates_good relations total pages last m n r k v w rows is stood fits stays is_map =
    let leaves = stays_index total pages last m n.page n.slot (record { relation = r; key = k; value = w }) rows.index (record_kind pages n.page n.slot (record { relation = r; key = k; value = v }) stood) stays in
    record {
      file = stays.file;
      within = stays.within relations MAX_VALUE_BYTES rows.within fits;
      index = index_stays total pages last m rows.index leaves;
      formed = form_stays relations total pages last m rows.index rows.formed leaves;
      named = same_map last (alter m r k (Some n)) m (alter_same m r k n is) (names_put pages last m n.page n.slot r k (Some v) (Some w) rows.named stood (name_lone pages m r k n rows.named is) stays.puts);
      map = is_map;
    }

-- and hold the base with the other value
pub updates_base : (relations total : ℕ) (pages last : PageBytes) (m : Map) (b : Base) (n : RecordName) (r : ℕ) (k v w : List ℕ) → AreRows relations total pages m → HoldsRows pages b → m r k ≡ Some n
    → record_in pages n.page n.slot ≡ Some (record { relation = r; key = k; value = v }) → StaysThere pages last n.page n.slot (record { relation = r; key = k; value = w }) → HoldsRows last (alter_row b r k (updated w))
updates_base relations total pages last m b n r k v w rows held is stood stays =
    rows_put pages last b n.page n.slot r k (Some v) (Some w) (updated w) held stood (name_lone pages m r k n rows.named is) stays.puts (ap (updated w) (value_held pages m b n r k v held stood))

-- the record moves: first it is taken away
gone : (m : Map) (r : ℕ) (k : List ℕ) → alter m r k None r k ≡ None
gone m r k = ap (λ (t : Bool). cond t None (m r k)) (key_same r k r k refl refl)

lone_between : (pages between : PageBytes) (m : Map) (n : RecordName) (q t r : ℕ) (k v : List ℕ) → AreNamed pages m → m r k ≡ Some n → record_in pages n.page n.slot ≡ Some (record { relation = r; key = k; value = v })
    → Puts pages between n.page n.slot None → IsLone between q t r k
lone_between pages between m n q t r k v named is stood puts =
    none_lone between (alter m r k None) q t r k (names_put pages between m n.page n.slot r k (Some v) None named stood (name_lone pages m r k n named is) puts) (gone m r k)

pub moves_good : (relations total : ℕ) (pages mid last : PageBytes) (m : Map) (n to : RecordName) (r : ℕ) (k v w : List ℕ) → AreRows relations total pages m → m r k ≡ Some n
    → record_in pages n.page n.slot ≡ Some (record { relation = r; key = k; value = v }) → Fits relations MAX_VALUE_BYTES (record { relation = r; key = k; value = w })
    → Moves pages mid n.page n.slot to.page to.slot (record { relation = r; key = k; value = w }) → StaysFile mid last
    → AreMap total last (alter m r k (Some to)) → AreFormed relations total last → IsMap total last → AreRows relations total last (alter m r k (Some to))
moves_good relations total pages mid last m n to r k v w rows is stood fits moves kept map formed is_map = record {
  file = file_stays mid last kept moves.adds.file;
  within = within_stays relations MAX_VALUE_BYTES mid last kept (moves.adds.within relations MAX_VALUE_BYTES (moves.drops.within relations MAX_VALUE_BYTES rows.within) fits);
  index = map;
  formed = formed;
  named = named_same mid last (alter m r k (Some to)) (records_stay mid last kept)
      (same_map mid (alter (alter m r k None) r k (Some to)) (alter m r k (Some to)) (alter_twice m r k None (Some to))
      (names_put moves.between mid (alter m r k None) to.page to.slot r k None (Some w)
      (names_put pages moves.between m n.page n.slot r k (Some v) None rows.named stood (name_lone pages m r k n rows.named is) moves.drops.puts)
      moves.adds.free (lone_between pages moves.between m n to.page to.slot r k v rows.named is stood moves.drops.puts) moves.adds.puts));
  map = is_map;
}

pub moves_base : (relations total : ℕ) (pages mid last : PageBytes) (m : Map) (b : Base) (n to : RecordName) (r : ℕ) (k v w : List ℕ) → AreRows relations total pages m → HoldsRows pages b → m r k ≡ Some n
    → record_in pages n.page n.slot ≡ Some (record { relation = r; key = k; value = v }) → Moves pages mid n.page n.slot to.page to.slot (record { relation = r; key = k; value = w }) → StaysFile mid last
    → HoldsRows last (alter_row b r k (updated w))
moves_base relations total pages mid last m b n to r k v w rows held is stood moves kept =
    rows_same mid last (alter_row b r k (updated w)) (records_stay mid last kept)
    (base_same mid (alter_row (alter_row b r k deleted) r k (inserted w)) (alter_row b r k (updated w)) (rows_twice b r k w v (value_held pages m b n r k v held stood))
    (rows_put moves.between mid (alter_row b r k deleted) to.page to.slot r k None (Some w) (inserted w)
    (rows_put pages moves.between b n.page n.slot r k (Some v) None deleted held stood (name_lone pages m r k n rows.named is) moves.drops.puts refl)
    moves.adds.free (lone_between pages moves.between m n to.page to.slot r k v rows.named is stood moves.drops.puts) moves.adds.puts
    (ap (inserted w) (ap (λ (t : Bool). cond t (deleted (b.rows r k)) (b.rows r k)) (key_same r k r k refl refl)))))
