-- A journal that is replayed in the wide dialect, and whose header is then written anew as the plain one has it.
use Rattle.std.specs.Prelude.{◌≡◌, ◌⊎◌, ◌/◌, ℕ, nat_le, if◌then◌else◌, Ok}
use Rattle.sector_disk.specs.Lists.{Content, sector}
use Rattle.jnl_format.specs.Keeping.{KeepsHeader}
use Rattle.jnl_format.specs.Recovery.{Journal, journal_as, recovery, recovery_as, replayed}
use Rattle.jnl_format.specs.declared.dialect.Dialect.TheVariants.{Wide}
use Rattle.jnl_replay.specs.Homing.{AgreesOutsideJournal, IsJournalSector, after_replay, with_empty_header}
use Rattle.jnl_replay.specs.Plan.{journal_of}
use Rattle.jnl_replay.specs.declared.plan.Plan.{Plan}

-- how many bytes the header of a list fills from then on: as many as before, or 4,096 where the plain dialect has no such header
abbrev pub plain_blhdr : ℕ → ℕ
plain_blhdr blhdr = if nat_le blhdr 65536 then blhdr else 4096

-- the plan of the journal that this plan's becomes
abbrev pub narrowed : Plan → Plan
narrowed plan = record plan { header = record plan.header { blhdr = plain_blhdr plan.header.blhdr } }

-- the content after that: what it stood for, with the journal empty and initialised, and its header as the plain dialect has it
abbrev pub after_adoption : Plan → Content → Content
after_adoption plan content = with_empty_header (narrowed plan) (after_replay plan content)

-- A content that the plain dialect reads, whose journal is empty, and which is what this one stood for in the wide dialect, but in
-- the journal header and the info block.
pub record IsAdopted (plan : Plan) (old new : Content) : Type 0 where
  pub stands : recovery new ≡ Ok new
  pub agrees : AgreesOutsideJournal plan (replayed (journal_of plan) old) new
  pub volume : KeepsHeader old new

-- What a crash leaves on the way: a content that stands in the wide dialect for what this one does, but in the journal header and the
-- info block, with the journal in its place, and with one of the two sizes of a list's header. So it can be adopted again. Where the
-- plain dialect reads it too, it reads the same.
pub record StandsAdopted (plan : Plan) (old image : Content) : Type 0 where
  pub recovered : Content
  pub stands : recovery_as Wide image ≡ Ok recovered
  pub plain : (given : Content) → recovery image ≡ Ok given → given ≡ recovered
  pub agrees : AgreesOutsideJournal plan (replayed (journal_of plan) old) recovered
  pub volume : KeepsHeader old image
  pub journal : Journal
  pub found : journal_as Wide plan.place.info_sector image ≡ Ok journal
  pub offset : journal.info.offset ≡ plan.info.offset
  pub size : journal.info.size ≡ plan.info.size
  pub order : journal.header.order ≡ plan.header.order
  pub blhdr : (journal.header.blhdr ≡ plan.header.blhdr) ⊎ (journal.header.blhdr ≡ plain_blhdr plan.header.blhdr)
  pub own : (s : ℕ) → IsJournalSector plan s → sector recovered s ≡ sector image s
