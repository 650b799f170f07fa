-- Sectors that were read last, after calls of their disk.
use Rattle.std.proofs.Common.{◌≡◌, ◌≢◌, ℕ, [], List, Result, Ok, Err, OnOk, OnErr, inl, inr, sym, ◌∙◌, ap, drop, get_or-set_other}
use Rattle.std.specs.Prelude.{Option, Some}
use Rattle.sector_disk.specs.Lists.{Content, sector}
use Rattle.sector_disk.specs.Disk.{Candidates, CrashesLeave, MayHaveWritten, OnlyReads, SameDisk, State, content, content_of, only, with_candidate}
use Rattle.sector_disk.proofs.Candidates.{content_of-with_candidate}
use Rattle.jnl_replay.specs.Buffered.{IsCopy, IsCopyOfOther, behind}
use Rattle.jnl_replay.specs.declared.buffered.Copied.{Copied}
use Rattle.jnl_replay.proofs.Stretches.{settled_content}

-- the content is the same
pub copy_stays : (old new : Content) (copied : Option Copied) → new ≡ old → IsCopy old copied → IsCopy new copied
copy_stays old new copied same is one here = is one here ∙ ap (λ (c : Content). sector c one.at) (sym same)

-- it is the same in other sectors
pub other_stays : (old new : Content) (at : ℕ) (copied : Option Copied) → ((s : ℕ) → s ≢ at → sector new s ≡ sector old s) → IsCopyOfOther at old copied → IsCopy new copied
other_stays old new at copied same is one here = let p = is one here in p.1 ∙ sym (same one.at p.0)

-- a sector that was just read
pub copy_read : (content : Content) (copied : Copied) → copied.bytes ≡ sector content copied.at → IsCopy content (Some copied)
copy_read content copied is one here = let e : copied ≡ one = cc here in ap (λ (c : Copied). c.bytes) (sym e) ∙ is ∙ ap (λ (c : Copied). sector content c.at) e

-- a barrier came or failed
pub barrier_stays : {T E : Type 0} (result : Result T E) (old new : State) → OnOk result (new.candidates ≡ only (content old)) → OnErr result (new.candidates ≡ old.candidates) → content new ≡ content old
barrier_stays (Ok x) old new settled failed = settled_content old new settled
barrier_stays (Err e) old new settled failed = ap content_of failed

one_written : (old : Candidates) (at : ℕ) (value : List ℕ) (s : ℕ) → s ≢ at → sector (content_of (with_candidate old at value)) s ≡ sector (content_of old) s
one_written old at value s other = ap (λ (c : Content). sector c s) (content_of-with_candidate old at value) ∙ get_or-set_other (content_of old) at s value [] other

maybe_written : (old new : Candidates) (at : ℕ) (value : List ℕ) (s : ℕ) → s ≢ at → MayHaveWritten old at value new → sector (content_of new) s ≡ sector (content_of old) s
maybe_written old new at value s other (inl e) = ap (λ (d : Candidates). sector (content_of d) s) e
maybe_written old new at value s other (inr (inl e)) = ap (λ (d : Candidates). sector (content_of d) s) e ∙ one_written old at value s other
maybe_written old new at value s other (inr (inr e)) =
    ap (λ (d : Candidates). sector (content_of d) s) e.1 ∙ one_written (with_candidate old at value) at _ s other ∙ one_written old at value s other

-- a write came or failed
pub write_stays : {T E : Type 0} (result : Result T E) (old new : Candidates) (at : ℕ) (value : List ℕ) → OnOk result (new ≡ with_candidate old at value) → OnErr result (MayHaveWritten old at value new)
    → (s : ℕ) → s ≢ at → sector (content_of new) s ≡ sector (content_of old) s
write_stays (Ok x) old new at value written unsure s other = ap (λ (d : Candidates). sector (content_of d) s) written ∙ one_written old at value s other
write_stays (Err e) old new at value written unsure s other = maybe_written old new at value s other unsure

-- what is known of a disk behind a reference is known of the disk
pub same_behind : (first second : ℕ) (old new : State) → SameDisk (behind first old) (behind second new) → SameDisk old new
same_behind first second old new s = record { tells = s.tells; tells_left = s.tells_left; names = ap (λ (l : List ℕ). drop 1 l) s.names; sectors = s.sectors }

pub reads_behind : (first second : ℕ) (old new : State) → OnlyReads (behind first old) (behind second new) → OnlyReads old new
reads_behind first second old new r = record {
  candidates = r.candidates;
  barriers = r.barriers;
  faults = r.faults;
  same = same_behind first second old new r.same;
  sink = record { told = r.sink.told; faults = r.sink.faults };
  time = r.time;
}

pub leaves_behind : (first second : ℕ) (old new : State) (P : Content → Type 0) → CrashesLeave (behind first old) (behind second new) P → CrashesLeave old new P
leaves_behind first second old new P c = record { time = c.time; now = c.now }
