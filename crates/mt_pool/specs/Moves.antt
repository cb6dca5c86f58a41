-- What calls within the pool do to it.
use Rattle.std.specs.Prelude.{ℕ, List, ◌≡◌, ◌≢◌, ◌+◌, ◌++◌, [], None, Some, true, get_or, set, length, take, drop}
use Rattle.mt_pool.specs.declared.pool.Pool.{Pool}
use Rattle.mt_pool.specs.Views.{IsPool, SamePlaces, Shows, frames, pages as pages_of, view}
use Rattle.mt_pool.specs.Images.{slot}
use Rattle.mt_pool.specs.Turns.{KnowsImages}
use Rattle.mt_frame.specs.declared.records.Record.{Record}
use Rattle.mt_frame.specs.declared.slots.MasterSlot.{MasterSlot}
use Rattle.mt_log.specs.declared.log.Log.{Log}
use Rattle.mt_pool.specs.declared.store.Store.{Store}

-- bytes are put into the frame of a page that is in one, from `start` on, and the page is to be flushed
pub record PutsIntoFrame (old new : Pool) (page start : ℕ) (bytes : List ℕ) : Type 0 where
  pub pool : IsPool new
  pub shows : (seen : List ℕ) → Shows old seen → Shows new seen
  pub edited : (seen : List ℕ) → view new seen page
      ≡ take start (view old seen page) ++ bytes ++ drop (start + length bytes) (view old seen page)
  pub others : (seen : List ℕ) (q : ℕ) → q ≢ page → view new seen q ≡ view old seen q
  pub dirty : (f : ℕ) → get_or old.of_page.items page None ≡ Some f → new.dirty.items ≡ set old.dirty.items f true
  pub there : SamePlaces old new
  pub place : new.place ≡ old.place

-- the page waits for the record that carries its image
pub record NotesImage (p n : Pool) (page position : ℕ) : Type 0 where
  pub pool : IsPool n
  pub shows : (seen : List ℕ) → Shows p seen → Shows n seen
  pub views : (seen : List ℕ) (q : ℕ) → view n seen q ≡ view p seen q
  pub waits : n.waits.items ≡ set p.waits.items page position
  pub flush : n.dirty ≡ p.dirty
  pub there : n.of_page ≡ p.of_page
  pub bytes : n.bytes ≡ p.bytes
  pub place : n.place ≡ p.place

-- the page in this frame has left it
pub record Forgets (was now : Pool) (frame : ℕ) : Type 0 where
  pub pool : IsPool now
  pub shows : (seen : List ℕ) → Shows was seen → Shows now seen
  pub views : (seen : List ℕ) → Shows was seen → (q : ℕ) → view now seen q ≡ view was seen q
  pub free : get_or now.holds.items frame None ≡ None
  pub gone : (p : ℕ) → get_or was.holds.items frame None ≡ Some p → get_or now.of_page.items p None ≡ None
  pub others : (q : ℕ) → get_or was.holds.items frame None ≢ Some q
      → get_or now.of_page.items q None ≡ get_or was.of_page.items q None
  pub rest : (o : _) × (h : _) × (now ≡ record was { of_page = o; holds = h })
      × (length o.items ≡ length was.of_page.items)
  pub less : (q : ℕ) → get_or was.of_page.items q None ≡ None → get_or now.of_page.items q None ≡ None

-- the page, whose bytes were in this free frame, is in it
pub record Installs (was now : Pool) (frame page : ℕ) : Type 0 where
  pub pool : IsPool now
  pub shows : (seen : List ℕ) → Shows was seen → get_or was.bytes.items frame [] ≡ slot was.place seen page
      → Shows now seen
  pub views : (seen : List ℕ) → Shows was seen → get_or was.bytes.items frame [] ≡ slot was.place seen page → (q : ℕ)
      → view now seen q ≡ view was seen q
  pub there : get_or now.of_page.items page None ≡ Some frame
  pub waits : now.waits ≡ was.waits
  pub pages : pages_of now ≡ pages_of was
  pub flush : now.dirty ≡ was.dirty
  pub place : now.place ≡ was.place

-- the pool knows the images with which an area begins
pub record NotesImages (p n : Pool) (images : List Record) : Type 0 where
  pub pool : IsPool n
  pub shows : (seen : List ℕ) → Shows p seen → Shows n seen
  pub views : (seen : List ℕ) (q : ℕ) → view n seen q ≡ view p seen q
  pub place : n.place ≡ p.place
  pub pages : pages_of n ≡ pages_of p
  pub many : frames n ≡ frames p
  pub knows : KnowsImages n images

-- a store over this device, with this log and the pages and frames of this pool
pub record IsStoreOver {D : Type 0} (d : D) (l : Log) (p : Pool) (names : MasterSlot) (s : Store D) : Type 0 where
  pub views : (seen : List ℕ) (q : ℕ) → view s.pool seen q ≡ view p seen q
  pub page_count : pages_of s.pool ≡ pages_of p
  pub frame_count : frames s.pool ≡ frames p
  pub place : s.pool.place ≡ p.place
  pub log : s.log ≡ l
  pub ruling : s.ruling ≡ names
  pub device : s.device ≡ d
