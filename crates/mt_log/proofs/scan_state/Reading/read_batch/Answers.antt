use Rattle.std.proofs.Common.{rules, ◌≡◌, ℕ, ◌+◌, ◌<◌, ◌≤◌, ◌^◌, ◌==◌, List, [], ◌∷◌, ◌++◌, length, get_or, inl, sym, ◌∙◌, ap, subst, arith, Vec, Global}
use Rattle.std.specs.Int.{w32, to_be_bytes}
use Rattle.mt_disk.specs.Disk.{Has}
use Rattle.mt_frame.specs.declared.records.Record.{Record}
use Rattle.mt_frame.specs.Grammar.{IsBodyOf, body_text, batch_text}
use Rattle.mt_area_rules.specs.History.{MayFollow}
use Rattle.mt_area_rules.specs.Known.{Knows}
use Rattle.mt_log.specs.Admitting.{AreAdmitted}
use Rattle.mt_log.specs.Batch.{Stands, joined}
use Rattle.mt_log.specs.declared.batch.Batch.{Batch}
use Rattle.mt_log.specs.Fetch.{IsLength}
use Rattle.mt_log.specs.Found.{records_of, places_of}
use Rattle.mt_log.specs.Holds.{AreRecords, AreBatches, AreBatchesOf, BreakNoRule, BreaksAt, places_from}
use Rattle.mt_log.proofs.Calls.{one_outcome}
use Rattle.mt_log.proofs.Steps.{stands_push}
use Rattle.mt_log.proofs.Settled.{joined_push}
use Rattle.mt_log.proofs.Pieces.{batch_there}
use Rattle.mt_log.proofs.ReadOn.{records_push, places_push, next_place, batches_push, values_push, rules_push, may_come, comes_next, no_length, no_body, if_none, if_some, bad_place}
use Rattle.mt_log.proofs.scan_state.Reading.read_batch.Goals as goal

pub returns-then-not-branch : goal.returns-then-not-branch
returns-then-not-branch g c = record {
  read = search rules;
  place = search rules;
  pages = search rules;
  same_format = search rules;
  more = search rules;
  ended = λ same gate. one_outcome _ (c.in_ok-gate_is_open.ensures.is.1 gate) c.if-not-branch.true;
  bad = search rules;
  cause = search rules;
  reads = search rules;
  quiet = search rules;
}

pub returns-in_default : goal.returns-in_default
returns-in_default g c = record {
  read = search rules;
  place = search rules;
  pages = search rules;
  same_format = search rules;
  more = search rules;
  ended = search rules;
  bad = λ at is.
      let s = c.args.self.now in
      let seen = g.D.Device.seen c.args.device.now in
      let r = c.requires.read in
      let before = records_of s.found.items in
      let short : s.place.end ≤ s.next + 2 ^ 32 = let e = s.place.not_too_many in let o = s.in_order in omega arith in
      let none : (n : ℕ) → n < 2 ^ 32 → Has seen (s.next + 1) (to_be_bytes w32 n) → s.place.end ≤ s.next + 5 + n =
      subst (λ (l : List ℕ). (n : ℕ) → n < 2 ^ 32 → Has l (s.next + 1) (to_be_bytes w32 n) → s.place.end ≤ s.next + 5 + n) c.gate_is_open.ensures.reads.same (subst (IsLength (g.D.Device.seen c.gate_is_open.new.device) s.next s.place.end) c.in_default.is c.in_ok-size.ensures.is) in
      subst (λ (k : ℕ). BreaksAt s.format seen s.place.start s.place.end s.pages k) (bad_place s.next at is) (record {
        before = before;
        row = r.row;
        inside = s.inside;
        each = r.each;
        of_format = r.of_format;
        rules = r.rules;
        due = inl (c.in_ok-gate_is_open.ensures.is.0 c.if-not-branch.false);
        none = no_length s.format seen s.next s.place.end s.pages before short none;
      });
  cause = search rules;
  reads = search rules;
  quiet = search rules;
}

pub returns-in_default-2 : goal.returns-in_default-2
returns-in_default-2 g c = record {
  read = search rules;
  place = search rules;
  pages = search rules;
  same_format = search rules;
  more = search rules;
  ended = search rules;
  bad = λ at is.
      let s = c.args.self.now in
      let seen = g.D.Device.seen c.args.device.now in
      let r = c.requires.read in
      let before = records_of s.found.items in
      let body = c.read_into.new.buffer in
      let n = c.in-Some.size in
      let short : s.place.end ≤ s.next + 2 ^ 32 = let e = s.place.not_too_many in let o = s.in_order in omega arith in
      let length_is = subst (IsLength (g.D.Device.seen c.gate_is_open.new.device) s.next s.place.end) c.in-Some.is c.in_ok-size.ensures.is in
      let fits : s.next + 5 + n < s.place.end = length_is.1 in
      let head : Has seen (s.next + 1) (to_be_bytes w32 n) =
      subst (λ (l : List ℕ). Has l (s.next + 1) (to_be_bytes w32 n)) c.gate_is_open.ensures.reads.same length_is.0 in
      let has : Has seen (s.next + 5) body.items = subst (λ (l : List ℕ). Has l (s.next + 5) body.items) (c.body_length.ensures.reads.same ∙ c.gate_is_open.ensures.reads.same) c.in_ok-read_into.ensures.bytes in
      let size : length body.items ≡ n = let e = c.in_ok-read_into.ensures.size in omega (arith, body.ok.0) in
      let first : c.is_empty-first.result ≡ (length s.found.items == 0) = c.is_empty-first.ensures ∙ ap (λ (k : ℕ). k == 0) (let e = s.found.ok.0 in omega arith) in
      let none : (records : List Record) (earlier : List Record) → Knows s.rules earlier → IsBodyOf s.format body.items records → AreRecords s.pages records → MayFollow c.is_empty-first.result earlier records → ⊥ =
      subst (λ (l : List ℕ). (records : List Record) (earlier : List Record) → Knows s.rules earlier → IsBodyOf s.format l records → AreRecords s.pages records → MayFollow c.is_empty-first.result earlier records → ⊥) c.deref.ensures.value (if_none c.in_ok-records.field-0 c.in_default-2.is c.in_ok-records.ensures.none) in
      subst (λ (k : ℕ). BreaksAt s.format seen s.place.start s.place.end s.pages k) (bad_place s.next at is) (record {
        before = before;
        row = r.row;
        inside = s.inside;
        each = r.each;
        of_format = r.of_format;
        rules = r.rules;
        due = inl (c.in_ok-gate_is_open.ensures.is.0 c.if-not-branch.false);
        none = no_body s.format seen s.next s.place.end s.pages n body.items before short head (omega arith) has size (λ b row each may. none b (joined before) r.known row each (comes_next c.is_empty-first.result s.found.items b first may));
      });
  cause = search rules;
  reads = search rules;
  quiet = search rules;
}

pub returns : goal.returns
returns g c = record {
  read = let s = c.args.self.now in
      let seen = g.D.Device.seen c.args.device.now in
      let r = c.requires.read in
      let before = records_of s.found.items in
      let body = c.read_into.new.buffer in
      let n = c.in-Some.size in
      let v = c.in-Some-2.records in
      let b : Batch = record { place = s.next; records = v } in
      let length_is = subst (IsLength (g.D.Device.seen c.gate_is_open.new.device) s.next s.place.end) c.in-Some.is c.in_ok-size.ensures.is in
      let head : Has seen (s.next + 1) (to_be_bytes w32 n) =
      subst (λ (l : List ℕ). Has l (s.next + 1) (to_be_bytes w32 n)) c.gate_is_open.ensures.reads.same length_is.0 in
      let has : Has seen (s.next + 5) body.items = subst (λ (l : List ℕ). Has l (s.next + 5) body.items) (c.body_length.ensures.reads.same ∙ c.gate_is_open.ensures.reads.same) c.in_ok-read_into.ensures.bytes in
      let size : length body.items ≡ n = let e = c.in_ok-read_into.ensures.size in omega (arith, body.ok.0) in
      let first : c.is_empty-first.result ≡ (length s.found.items == 0) = c.is_empty-first.ensures ∙ ap (λ (k : ℕ). k == 0) (let e = s.found.ok.0 in omega arith) in
      let outcome = if_some (λ (q : Vec Record Global). AreAdmitted s.format c.deref.result.now s.pages c.is_empty-first.result s.rules c.admitted.new.rules q.items) c.in_ok-records.field-0 v c.in-Some-2.is c.in_ok-records.ensures.some in
      let text : body.items ≡ body_text v.items = sym c.deref.ensures.value ∙ outcome.row.row.text in
      let gate : get_or seen s.next 0 ≡ 165 = c.in_ok-gate_is_open.ensures.is.0 c.if-not-branch.false in
      let there : Has seen s.next (batch_text v.items) = batch_there seen s.next n body.items v.items gate head has size text in
      let grown : records_of c.push.new.self.items ≡ before ++ v.items ∷ [] = ap records_of c.in_ok-push.ensures.items ∙ records_push s.found.items b in
      let row : Stands seen s.place.start (before ++ v.items ∷ []) (s.next + (5 + n)) = subst (λ (k : ℕ). Stands seen s.place.start (before ++ v.items ∷ []) k) (let l = ap length text in omega arith) (stands_push seen s.place.start before s.next v.items r.row there) in
      record {
        row = subst (λ (l : List (List Record)). Stands seen s.place.start l (s.next + (5 + n))) (sym grown) row;
        places = ap places_of c.in_ok-push.ensures.items ∙ places_push s.found.items b ∙ ap (λ (l : List ℕ). l ++ s.next ∷ []) r.places ∙ sym (next_place seen s.place.start before s.next v.items r.row) ∙ ap (places_from s.place.start) (sym grown);
        each = subst (AreBatches s.pages) (sym grown) (batches_push s.pages before v.items r.each outcome.each);
        of_format = subst (AreBatchesOf s.format) (sym grown) (values_push s.format before v.items r.of_format outcome.row.values);
        rules = subst BreakNoRule (sym grown) (rules_push before v.items r.rules (may_come c.is_empty-first.result s.found.items v.items first (outcome.may (joined before) r.known)));
        known = subst (Knows c.admitted.new.rules) (sym (ap joined grown ∙ joined_push before v.items)) (outcome.known (joined before) r.known);
      };
  place = search rules;
  pages = search rules;
  same_format = search rules;
  more = search rules;
  ended = search rules;
  bad = search rules;
  cause = search rules;
  reads = search rules;
  quiet = search rules;
}
