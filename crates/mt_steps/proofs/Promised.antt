-- An act on rows and counters is what a plan promises.
use Rattle.std.proofs.Common.{◌≡◌, ◌<◌, ◌⊎◌, Bool, false, ℕ, List, [], Result, Ok, Err, IfOk, Option, subst}
use Rattle.mt_base.specs.declared.modes.Mode.{Mode}
use Rattle.mt_space.specs.declared.changes.PageChange.{PageChange}
use Rattle.mt_space.specs.Changes.{PageBytes, after, AreShort}
use Rattle.mt_index.specs.Maps.{Map}
use Rattle.mt_model.specs.declared.operations.Op.{Op}
use Rattle.mt_model.specs.declared.operations.Reply.{Reply}
use Rattle.mt_model.specs.Model.{Base}
use Rattle.mt_counters.specs.Counters.{count_in, AreCounters}
use Rattle.mt_steps.specs.Held.{Holds, AreRows}
use Rattle.mt_steps.specs.declared.act.Act.{Act}
use Rattle.mt_steps.specs.declared.act.Act.TheVariants as act
use Rattle.mt_steps.specs.Acts.{IfLock, IfMade, IfFull, InGood, InRoomy, IsAct}
use Rattle.mt_steps.specs.Logged.{HasSmallReply, HasSmallValues}
use Rattle.mt_steps.specs.Asks.{AsksFor}
use Rattle.mt_steps.specs.Plans.{IsGood, InPages, IsPlanned, IsModest, IsTight, free_pages, own_needs, record_bytes}
use Rattle.mt_steps.proofs.Entering.{made_weaker}
use Rattle.mt_steps.proofs.HeldBase.{base_with, counts_with, rows_held}
use Rattle.mt_steps.proofs.Modest.{modest_nothing, modest_any}
use Rattle.mt_steps.proofs.Small.{small_reply}

small_held : (relations total : ℕ) (pages : PageBytes) (m : Map) (b : Base) → AreRows relations total pages m → Holds pages b → HasSmallValues b
small_held relations total pages m b rows held r k v is =
    let t = held.rows.found r k v is in
    (rows.within t.0 t.1 (record { relation = r; key = k; value = v }) t.2).value

-- so no reply has a larger value than any may have
pub act_small : (relations total : ℕ) (pages pages2 : PageBytes) (m : Map) (op : Op) (reply : Reply) → AreRows relations total pages m → IsAct relations total pages pages2 op reply → HasSmallReply reply
act_small relations total pages pages2 m op reply rows act =
    let b = base_with relations total pages m rows (count_in (pages 2)) in
    let held : Holds pages b = record {
      rows = rows_held relations total pages m rows (count_in (pages 2));
      counts = λ c lt. counts_with relations total pages m rows (count_in (pages 2)) c;
    } in
    subst HasSmallReply (act.replies b held) (small_reply b op (small_held relations total pages m b rows held))

-- ---- what is promised

pub planned : (relations counters total : ℕ) (at_hand : ℕ → Option (List ℕ)) (pages : PageBytes) (changes : List PageChange) (op : Op) (split : Bool) (reply : Reply) → IsGood relations counters total pages → IsAct relations total pages (after changes pages) op reply → AreShort changes pages
    → IsModest at_hand total (own_needs op split) split pages (after changes pages) → IsPlanned relations counters total at_hand pages changes op split reply
planned relations counters total at_hand pages changes op split reply good act short modest = record {
  replies = act.replies;
  base = act.base;
  good = record { meaning = act.meaning; rows = act.good; counts = act.counters counters good.counts };
  short = short;
  kinds = modest.kinds;
  takes = modest.takes;
  gives = modest.gives;
  directory = modest.directory;
  empties = modest.empties;
  small = act_small relations total pages (after changes pages) good.meaning op reply good.rows act;
}

-- of an operation that may put a record, of another on rows, and of one on a counter
abbrev Promises : Bool → ℕ → ℕ → ℕ → (ℕ → Option (List ℕ)) → Option ℕ → Op → Act → Type 0
Promises split relations counters total at_hand room op act = IfMade act (λ changes reply. InPages at_hand room relations counters total (λ pages. IsPlanned relations counters total at_hand pages changes op split reply))

made_both : (act : Act) (P Q R : List PageChange → Reply → Type 0) → ((changes : List PageChange) (reply : Reply) → P changes reply → Q changes reply → R changes reply) → IfMade act P → IfMade act Q → IfMade act R
made_both (act.Lock p mode) P Q R f p_reported q_reported = tt
made_both (act.Made changes reply) P Q R f p_reported q_reported = f changes.list.items reply p_reported q_reported
made_both act.Full P Q R f p_reported q_reported = tt
made_both act.Broken P Q R f p_reported q_reported = tt

-- both of what is known of a result
pub ok_both : {E : Type 0} (r : Result Act E) (P Q R : Act → Type 0) → ((act : Act) → P act → Q act → R act) → IfOk r P → IfOk r Q → IfOk r R
ok_both (Ok act) P Q R f p_reported q_reported = f act p_reported q_reported
ok_both (Err e) P Q R f p_reported q_reported = tt

pub rows_planned : (split : Bool) (relations counters total : ℕ) (at_hand : ℕ → Option (List ℕ)) (room : Option ℕ) (op op2 : Op) (act : Act) → op ≡ op2
    → IfMade act (λ changes reply. InRoomy at_hand room relations total (λ pages m. IsAct relations total pages (after changes pages) op reply × AreShort changes pages))
    → IfMade act (λ changes reply. InRoomy at_hand room relations total (λ pages m. IsModest at_hand total (own_needs op split) split pages (after changes pages))) → Promises split relations counters total at_hand room op2 act
rows_planned split relations counters total at_hand room op op2 act same acts modest = subst (λ (o : Op). Promises split relations counters total at_hand room o act) same
    (made_both act _ _ _ (λ changes reply acts modest pages agrees good named.
    let done = acts pages agrees good.meaning good.rows named in
    planned relations counters total at_hand pages changes op split reply good done.0 done.1 (modest pages agrees good.meaning good.rows named)) acts modest)

pub good_planned : (split : Bool) (relations counters total : ℕ) (at_hand : ℕ → Option (List ℕ)) (room : Option ℕ) (op op2 : Op) (act : Act) → op ≡ op2
    → IfMade act (λ changes reply. InGood at_hand relations total (λ pages m. IsAct relations total pages (after changes pages) op reply × AreShort changes pages))
    → IfMade act (λ changes reply. InGood at_hand relations total (λ pages m. IsModest at_hand total (own_needs op split) false pages (after changes pages))) → Promises split relations counters total at_hand room op2 act
good_planned split relations counters total at_hand room op op2 act same acts modest =
    rows_planned split relations counters total at_hand room op op2 act same (made_weaker act _ _ (λ changes reply outcome pages agrees m rows named. outcome pages agrees m rows) acts) (made_weaker act _ _ (λ changes reply outcome pages agrees m rows named. modest_any at_hand total (own_needs op split) split pages (after changes pages) (outcome pages agrees m rows)) modest)

-- of an operation that splits nothing
pub whole_planned : (split : Bool) (relations counters total : ℕ) (at_hand : ℕ → Option (List ℕ)) (room : Option ℕ) (op op2 : Op) (act : Act) → op ≡ op2
    → IfMade act (λ changes reply. InRoomy at_hand room relations total (λ pages m. IsAct relations total pages (after changes pages) op reply × AreShort changes pages))
    → IfMade act (λ changes reply. InRoomy at_hand room relations total (λ pages m. IsModest at_hand total (own_needs op split) false pages (after changes pages))) → Promises split relations counters total at_hand room op2 act
whole_planned split relations counters total at_hand room op op2 act same acts modest =
    rows_planned split relations counters total at_hand room op op2 act same acts
    (made_weaker act _ _ (λ changes reply outcome pages agrees m rows named. modest_any at_hand total (own_needs op split) split pages (after changes pages) (outcome pages agrees m rows named)) modest)

pub quiet_planned : (split : Bool) (relations counters total : ℕ) (at_hand : ℕ → Option (List ℕ)) (room : Option ℕ) (op op2 : Op) (act : Act) → op ≡ op2
    → IfMade act (λ changes reply. InGood at_hand relations total (λ pages m. IsAct relations total pages (after changes pages) op reply × AreShort changes pages)) → IfMade act (λ changes reply. changes ≡ []) → Promises split relations counters total at_hand room op2 act
quiet_planned split relations counters total at_hand room op op2 act same acts quiet =
    good_planned split relations counters total at_hand room op op2 act same acts (made_weaker act _ _ (λ changes reply none pages agrees m rows. modest_nothing at_hand total (own_needs op split) false pages changes none) quiet)

pub counts_planned : (split : Bool) (relations counters total number : ℕ) (at_hand : ℕ → Option (List ℕ)) (room : Option ℕ) (op op2 : Op) (act : Act) → op ≡ op2 → number < counters
    → IfMade act (λ changes reply. InGood at_hand relations total (λ pages m. (counters : ℕ) → number < counters → AreCounters relations counters (pages 2) → IsAct relations total pages (after changes pages) op reply × AreShort changes pages))
    → IfMade act (λ changes reply. InGood at_hand relations total (λ pages m. IsModest at_hand total (own_needs op split) false pages (after changes pages)))
    → Promises split relations counters total at_hand room op2 act
counts_planned split relations counters total number at_hand room op op2 act same there acts modest = subst (λ (o : Op). Promises split relations counters total at_hand room o act) same
    (made_both act _ _ _ (λ changes reply acts modest pages agrees good named.
    let done = acts pages agrees good.meaning good.rows counters there good.counts in
    planned relations counters total at_hand pages changes op split reply good done.0 done.1 (modest_any at_hand total (own_needs op split) split pages (after changes pages) (modest pages agrees good.meaning good.rows))) acts modest)

-- of an operation that reads a counter
pub read_planned : (split : Bool) (relations counters total number : ℕ) (at_hand : ℕ → Option (List ℕ)) (room : Option ℕ) (op op2 : Op) (act : Act) → op ≡ op2 → number < counters
    → IfMade act (λ changes reply. InGood at_hand relations total (λ pages m. (counters : ℕ) → number < counters → AreCounters relations counters (pages 2) → IsAct relations total pages (after changes pages) op reply × AreShort changes pages))
    → IfMade act (λ changes reply. changes ≡ []) → Promises split relations counters total at_hand room op2 act
read_planned split relations counters total number at_hand room op op2 act same there acts quiet =
    counts_planned split relations counters total number at_hand room op op2 act same there acts
    (made_weaker act _ _ (λ changes reply none pages agrees m rows. modest_nothing at_hand total (own_needs op split) false pages changes none) quiet)

-- ---- what is asked for

pub asks_same : {E : Type 0} (at_hand : ℕ → Option (List ℕ)) (room : Option ℕ) (total : ℕ) (split : Bool) (op op2 : Op) (r : Result Act E) → op ≡ op2
    → IfOk r (λ act. IfLock act (AsksFor at_hand room total split op)) → IfOk r (λ act. IfLock act (AsksFor at_hand room total split op2))
asks_same at_hand room total split op op2 r same outcome = subst (λ (o : Op). IfOk r (λ act. IfLock act (AsksFor at_hand room total split o))) same outcome

-- both of what is known of a page that is asked for
pub lock_both : (act : Act) (P Q R : ℕ → Mode → Type 0) → ((p : ℕ) (mode : Mode) → P p mode → Q p mode → R p mode) → IfLock act P → IfLock act Q → IfLock act R
lock_both (act.Lock p mode) P Q R f p_reported q_reported = f p mode p_reported q_reported
lock_both (act.Made changes reply) P Q R f p_reported q_reported = tt
lock_both act.Full P Q R f p_reported q_reported = tt
lock_both act.Broken P Q R f p_reported q_reported = tt

-- ---- too little room

pub full_weaker : (act : Act) (P Q : Type 0) → (P → Q) → IfFull act P → IfFull act Q
full_weaker (act.Lock p mode) P Q f outcome = outcome
full_weaker (act.Made changes reply) P Q f outcome = outcome
full_weaker act.Full P Q f outcome = f outcome
full_weaker act.Broken P Q f outcome = outcome

pub rows_full : (split : Bool) (relations counters total : ℕ) (at_hand : ℕ → Option (List ℕ)) (room : Option ℕ) (op op2 : Op) (act : Act) → op ≡ op2
    → IfFull act (InRoomy at_hand room relations total (λ pages m. (free_pages total pages < own_needs op split) ⊎ IsTight room pages (record_bytes op)))
    → IfFull act (InPages at_hand room relations counters total (λ pages. (free_pages total pages < own_needs op2 split) ⊎ IsTight room pages (record_bytes op2)))
rows_full split relations counters total at_hand room op op2 act same outcome =
    subst (λ (o : Op). IfFull act (InPages at_hand room relations counters total (λ pages. (free_pages total pages < own_needs o split) ⊎ IsTight room pages (record_bytes o)))) same
    (full_weaker act _ _ (λ full pages agrees good named. full pages agrees good.meaning good.rows named) outcome)

pub never_full : (act : Act) (P : Type 0) → IfFull act ⊥ → IfFull act P
never_full act P outcome = full_weaker act ⊥ P (λ no_. absurd no_) outcome
