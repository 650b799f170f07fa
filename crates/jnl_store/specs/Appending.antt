-- A transaction behind live lists, and the live sectors written home: plans, contents, and what a crash leaves.
use Rattle.std.specs.Prelude.{◌≡◌, ◌⊎◌, ℕ, ◌*◌, ◌/◌, List, [], ◌∷◌, length, IsTrue}
use Rattle.sector_disk.specs.Lists.{Content, put_sectors}
use Rattle.sector_disk.specs.Disk.{State, content, only}
use Rattle.sector_disk.specs.Space.{AgreesOutside}
use Rattle.jnl_format.specs.Ring.{offset_after}
use Rattle.jnl_format.specs.Recovery.{header_of_volume, journaling_version, replayed}
use Rattle.jnl_format.specs.Keeping.{KeepsHeader}
use Rattle.jnl_format.specs.declared.blocks.Home.{Home}
use Rattle.jnl_ring.specs.Writing.{PutsInRing}
use Rattle.jnl_ring.specs.Whole.{AreWhole}
use Rattle.jnl_replay.specs.Plan.{journal_of}
use Rattle.jnl_replay.specs.declared.plan.Plan.{Plan}
use Rattle.jnl_store.specs.InUse.{keeps_lists}
use Rattle.jnl_store.specs.Journal.{IsClosed, IsSpilled, are_open}
use Rattle.jnl_store.specs.Lists.{lists_sectors, text_sectors}
use Rattle.jnl_store.specs.Overlay.{overlay}
use Rattle.jnl_store.specs.Plan.{form_of, header_sector_of, span_of, with_text}
use Rattle.jnl_store.specs.Standing.{StandsFor}
use Rattle.jnl_store.specs.declared.puts.Put.{Put}

-- the offset behind the lists of these puts
abbrev pub end_after : Plan → List Put → ℕ
end_after plan puts = offset_after plan.info.size plan.header.end (512 * text_sectors plan.header.blhdr (length puts))

-- the plan with them
abbrev pub longer : Plan → List Put → Plan
longer plan puts = with_text plan plan.header.start (end_after plan puts)

-- the content with the new journal header
abbrev pub opened : Plan → List Put → Content → Content
opened plan puts c = put_sectors c (plan.info.offset / 512) (header_sector_of (longer plan puts) c ∷ [])

-- what the content stands for by the plan's journal
abbrev pub durable_by : Plan → Content → Content
durable_by plan content = replayed (journal_of plan) content

-- the image stands for the durable content, but in what was spilled and in the journal
abbrev pub StandsStill : Plan → State → Content → Type 0
StandsStill plan disk image =
    (recovered : Content) × StandsFor plan (content disk) image recovered × AgreesOutside (λ s. IsSpilled plan disk.candidates s ⊎ IsClosed plan s) (durable_by plan (content disk)) recovered

-- a transaction of these puts may be written on this disk
pub record MayAppend (plan : Plan) (live : List Home) (puts : List Put) (disk : State) : Type 0 where
  pub tells : IsTrue disk.tells
  pub kept : IsTrue (keeps_lists plan disk.candidates live)
  pub open_puts : IsTrue (are_open plan disk.sectors puts)
  pub volume : KeepsHeader (durable_by plan (content disk)) (overlay puts (durable_by plan (content disk)))
  pub version : (header_of_volume (durable_by plan (content disk))).last_mounted_version ≡ journaling_version

-- it was written: its lists stand in the ring behind the live ones, the journal header has them, and nothing is pending
pub record IsAppended (plan : Plan) (puts : List Put) (before after : State) : Type 0 where
  pub listed : Content
  pub whole : AreWhole listed
  pub puts_in : PutsInRing (span_of plan) plan.header.end (lists_sectors (form_of plan) puts) (content before) listed
  pub settled : after.candidates ≡ only (opened plan puts listed)
