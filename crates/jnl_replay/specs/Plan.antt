-- What a plan is, and what it is for.
use Rattle.std.specs.Prelude.{◌≡◌, false, ◌<◌, ◌≤◌, ◌+◌, ◌%◌, ◌*◌, ℕ, length, Option, None, Some, Result, Ok, Err}
use Rattle.volume_header.specs.Refusal.{header_refusal}
use Rattle.jnl_format.specs.Header.{IsHeaderAs}
use Rattle.jnl_format.specs.Recovery.{Content, header_of_volume, info_sector_of, Journal, journal_as, text_fault_as, recovery_as}
use Rattle.jnl_format.specs.declared.dialect.Dialect.{Dialect}
use Rattle.jnl_format.specs.declared.dialect.Dialect.TheVariants.{Plain, Wide}
use Rattle.jnl_format.specs.declared.structures.JnlRefusal.{JnlRefusal}
use Rattle.jnl_replay.specs.declared.plan.Place.{Place}
use Rattle.jnl_replay.specs.declared.plan.Plan.{Plan}
use Rattle.jnl_replay.specs.declared.plan.ReplayFault.{ReplayFault}
use Rattle.jnl_replay.specs.declared.plan.ReplayFault.TheVariants.{Disk, Refused}

-- the place has what the content's volume header says, which is accepted
pub record IsPlace (content : Content) (place : Place) : Type 0 where
  pub accepted : header_refusal (header_of_volume content) (length content) ≡ None
  pub info_sector : place.info_sector ≡ info_sector_of (header_of_volume content)
  pub last_mounted : place.last_mounted ≡ (header_of_volume content).last_mounted_version

-- the journal of a plan
abbrev pub journal_of : Plan → Journal
journal_of plan = record { info = plan.info; header = plan.header; fresh = plan.fresh }

-- the journal was initialised, and no list of it is live
pub record IsQuick (plan : Plan) : Type 0 where
  pub old : plan.fresh ≡ false
  pub empty : plan.header.start ≡ plan.header.end

-- the plan has the content's journal, which has no fault in a dialect
pub record IsPlanAs (dialect : Dialect) (content : Content) (plan : Plan) : Type 0 where
  pub place : IsPlace content plan.place
  pub journal : journal_as dialect plan.place.info_sector content ≡ Ok (journal_of plan)
  pub text : text_fault_as dialect plan.place.info_sector plan.place.last_mounted (journal_of plan) content ≡ None

-- the same in the plain dialect
abbrev pub IsPlan : Content → Plan → Type 0
IsPlan = IsPlanAs Plain

-- a refusal is the fault that stands in place of a value; a fault of the disk says nothing of it
abbrev pub IsFaultOf : {T : Type 0} → Result T JnlRefusal → ReplayFault → Type 0
IsFaultOf value Disk = Unit {0}
IsFaultOf value (Refused refusal) = value ≡ Err refusal

-- a refusal is this fault; a fault of the disk says nothing of it
abbrev pub IsFirstFault : Option JnlRefusal → ReplayFault → Type 0
IsFirstFault fault Disk = Unit {0}
IsFirstFault fault (Refused refusal) = fault ≡ Some refusal

-- a refusal is the first fault of the content in a dialect
abbrev pub IsRefusedIn : Dialect → Content → ReplayFault → Type 0
IsRefusedIn dialect content fault = IsFaultOf (recovery_as dialect content) fault

-- the same in the plain dialect
abbrev pub IsRefusedAs : Content → ReplayFault → Type 0
IsRefusedAs = IsRefusedIn Plain

-- the plan's journal and info block lie on a disk of so many sectors, and its header is as a dialect has it
pub record FitsPlanAs (dialect : Dialect) (total : ℕ) (plan : Plan) : Type 0 where
  pub sectors : total ≤ 2147483648
  pub info_sector : plan.place.info_sector < total
  pub offset : plan.info.offset % 512 ≡ 0
  pub whole : plan.info.size % 512 ≡ 0
  pub least : 1536 ≤ plan.info.size
  pub inside : plan.info.offset + plan.info.size ≤ total * 512
  pub start_low : 512 ≤ plan.header.start
  pub start_high : plan.header.start < plan.info.size
  pub end_low : 512 ≤ plan.header.end
  pub end_high : plan.header.end < plan.info.size
  pub blhdr : 512 ≤ plan.header.blhdr
  pub header : IsHeaderAs dialect plan.info.size plan.header

-- the same in the plain dialect
abbrev pub FitsPlan : ℕ → Plan → Type 0
FitsPlan = FitsPlanAs Plain

-- the same in whichever dialect the journal was read: the wide one allows most
abbrev pub FitsAny : ℕ → Plan → Type 0
FitsAny = FitsPlanAs Wide
