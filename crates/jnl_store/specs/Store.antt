-- What a store holds of its journal and of what was put, and what it keeps between its calls.
use Rattle.std.specs.Prelude.{◌≡◌, ◌⊎◌, ◌≤◌, ℕ, ◌-◌, Bool, false, IsTrue, ◌&&◌, List, length, Some}
use Rattle.sector_disk.specs.Lists.{Content}
use Rattle.sector_disk.specs.Disk.{Candidates, State, content_of, only}
use Rattle.jnl_format.specs.Recovery.{homes_of, replayed}
use Rattle.jnl_format.specs.Named.{IsNamed}
use Rattle.jnl_format.specs.declared.blocks.Home.{Home}
use Rattle.jnl_replay.specs.Plan.{journal_of}
use Rattle.jnl_store.specs.Batch.{names}
use Rattle.jnl_store.specs.Cache.{AreCached, Slots, slot_of}
use Rattle.jnl_replay.specs.declared.plan.Plan.{Plan}
use Rattle.jnl_store.specs.InUse.{free_sectors, keeps_lists}
use Rattle.jnl_store.specs.Journal.{are_open}
use Rattle.jnl_store.specs.Lists.{text_sectors}
use Rattle.jnl_store.specs.Overlay.{overlay}
use Rattle.jnl_store.specs.Plan.{IsCapacityOf}
use Rattle.jnl_store.specs.declared.puts.Put.{Put}
use Rattle.jnl_store.specs.declared.store.Store.{Store}

-- the plan of its journal, with the offsets between which lists are live
abbrev pub plan_of : Store → Plan
plan_of store = store.plan

-- what was put since the last commit, each sector once
abbrev pub puts_of : Store → List Put
puts_of store = store.batch.all

-- what of it was kept
abbrev pub kept_of : Store → List Put
kept_of store = store.batch.kept

-- the sectors that the journal's live lists name, with the places of their newest bytes in their text
abbrev pub live_of : Store → List Home
live_of store = store.batch.live

-- how many sectors there is room for between two commits
abbrev pub room_of : Store → ℕ
room_of store = store.batch.room

-- something was spilled since the last barrier
abbrev pub has_spilled : Store → Bool
has_spilled store = store.unsettled

-- how many calls on the store and on its spaces answered a disk fault
abbrev pub faults_of : Store → ℕ
faults_of store = store.faults

-- the slots that keep sectors of the content
abbrev pub slots_of : Store → Slots
slots_of store = store.cache

abbrev pub slot_count : Store → ℕ
slot_count store = length store.cache

-- no list of the journal is live
abbrev pub HasNoList : Store → Type 0
HasNoList store = store.plan.header.start ≡ store.plan.header.end

-- what was put fits one transaction
abbrev pub FitsTransaction : Store → Type 0
FitsTransaction store = (most : ℕ) × IsCapacityOf store.plan most × (length store.batch.all ≤ most)

-- the ring has room for the lists of what was put, behind those that are live
abbrev pub HasRoom : Store → Type 0
HasRoom store = text_sectors store.plan.header.blhdr (length store.batch.all) ≤ free_sectors store.plan

-- the content at the last commit, but in sectors spilled since: the disk's content, with the blocks of the
-- journal's live lists written over it
unfoldable pub durable_of : Store → Content → Content
durable_of store content = replayed (journal_of store.plan) content

-- what reads give: the same, with what was put since
abbrev pub content_over : Store → Content → Content
content_over store content = overlay store.batch.all (durable_of store content)

-- named by a put that isn't committed, or by a live list of the journal
abbrev pub IsLive : Store → Content → ℕ → Type 0
IsLive store content at = IsTrue (names store.batch.all at) ⊎ IsNamed (homes_of (journal_of store.plan) content) at

-- how many sectors more may be put
abbrev pub spare_of : Store → ℕ
spare_of store = store.batch.room - length store.batch.all

-- What is kept between calls on a disk of so many sectors, as a test. The journal header has one candidate, which
-- is the store's, so that its start is the stable one, and so have the info block and the volume header, which name
-- this journal. The text from that start to the end is lists that are as they must be, of which each sector has one
-- candidate, and no list names a spilled sector. The store's table has what the lists name, with the places of the newest bytes. A
-- sector with more than one candidate is spilled, or lies in the ring outside the live text. No put is of a sector of
-- the journal.
unfoldable pub is_kept : Store → ℕ → Candidates → Bool
is_kept store sectors candidates = keeps_lists store.plan candidates store.batch.live && are_open store.plan sectors store.batch.all && are_open store.plan sectors store.batch.kept

-- What a store keeps of its journal. Where it is told that nothing was spilled since the last barrier, nothing is
-- pending.
pub record KeepsRing (store : Store) (sectors : ℕ) (candidates : Candidates) : Type 0 where
  pub kept : IsTrue (is_kept store sectors candidates)
  pub settled : store.unsettled ≡ false → candidates ≡ only (content_of candidates)

-- What a store keeps between its calls, until one of them or of a space's answers a disk fault: its journal, and in
-- each slot what reads give.
pub record Keeps (store : Store) (sectors : ℕ) (candidates : Candidates) : Type 0 where
  pub ring : KeepsRing store sectors candidates
  pub cached : AreCached store.cache (content_over store (content_of candidates))

-- the store keeps all this on a disk that tells its content
abbrev pub KeepsOn : Store → State → Type 0
KeepsOn store disk = IsTrue disk.tells × Keeps store disk.sectors disk.candidates

abbrev pub KeepsRingOn : Store → State → Type 0
KeepsRingOn store disk = IsTrue disk.tells × KeepsRing store disk.sectors disk.candidates

-- the same journal, in the same form, whatever its offsets are
pub record SameJournal (old new : Store) : Type 0 where
  pub place : new.plan.place ≡ old.plan.place
  pub info : new.plan.info ≡ old.plan.info
  pub order : new.plan.header.order ≡ old.plan.header.order
  pub size : new.plan.header.size ≡ old.plan.header.size
  pub blhdr : new.plan.header.blhdr ≡ old.plan.header.blhdr
  pub slots : slot_count new ≡ slot_count old

-- the same but for what was put
pub record SameButBatch (old new : Store) : Type 0 where
  pub plan : new.plan ≡ old.plan
  pub unsettled : new.unsettled ≡ old.unsettled
  pub faults : new.faults ≡ old.faults
  pub slots : slot_count new ≡ slot_count old

-- the same but for the count of faults
pub record SameButFaults (old new : Store) : Type 0 where
  pub plan : new.plan ≡ old.plan
  pub batch : new.batch ≡ old.batch
  pub unsettled : new.unsettled ≡ old.unsettled
  pub slots : slot_count new ≡ slot_count old

-- no call answered a disk fault, and the slot of this sector names it and keeps these bytes
pub record IsRecalled (store : Store) (at : ℕ) (bytes : List ℕ) : Type 0 where
  pub none : store.faults ≡ 0
  pub put : Put
  pub there : slot_of store.cache at ≡ Some put
  pub of : put.at ≡ at
  pub is : bytes ≡ put.bytes
