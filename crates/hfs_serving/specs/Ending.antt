-- How a run of a source's lines ends: with all of them answered and the volume unmounted, or by a source that failed or has too many.
use Rattle.std.specs.Prelude.{◌≡◌, ℕ, List, [], ◌++◌, length, IsTrue, true, Option, None, Some, Result, Ok, Err}
use Rattle.sector_disk.specs.Disk.{State, HasNothingPending, IsImage, content}
use Rattle.sector_disk.specs.Source.{Stream}
use Rattle.volume_header.specs.Refusal.{is_unmounted}
use Rattle.jnl_format.specs.Recovery.{Content, Journal, header_of_volume}
use Rattle.hfs_language.specs.Lines.{lines, HasNoNewline}
use Rattle.hfs_model.specs.declared.plain.PlainTree.{PlainTree}
use Rattle.hfs_volume.specs.Mount.{HasJournal, MountsTo}
use Rattle.volume_runs.specs.Rest.{Rests}
use Rattle.volume_runs.specs.Run.{Entry, IsRun, content_after, lines_of, replies_of, shrunk_in, tree_after, ArePlain}
use Rattle.hfs_serving.specs.Opening.{Opens}
use Rattle.hfs_serving.specs.Outside.{Outside}
use Rattle.hfs_serving.specs.Runs.{IsMarked, KeepsPlace, LeadsToRest, StandsAs}
use Rattle.hfs_serving.specs.declared.telling.Stop.{Stop}
use Rattle.hfs_serving.specs.declared.telling.Stop.TheVariants as stop
use Rattle.line_source.specs.Input.{SplitsIntoLines, ahead}
use Rattle.hfs_serving.specs.Top.{AreTaken, KeepsPromises}

-- ---- stretches of which each line was answered

-- Behind a run housekeeping came to rest, and a crash leaves the content that it led to, maybe with a mark.
pub record EndsAtRest (capacity : ℕ) (shrunk : Option ℕ) (start : Content) (run : List Entry) (new : Outside) : Type 0 where
  pub last : Content
  pub rests : LeadsToRest capacity shrunk None start run last
  pub stood : Content
  pub marked : IsMarked last stood
  pub place : KeepsPlace start stood
  pub leaves : (recovered : Content) → new.leaves recovered → StandsAs stood recovered

-- why a run ended, if something ended it
abbrev pub stop_in : {A : Type 0} → Result A Stop → Option Stop
stop_in (Ok done) = None
stop_in (Err why) = Some why

-- the image was mounted, or something else than a refusal kept it from that
abbrev pub IsntRefused : {A B : Type 0} → Result (Result A B) Stop → Type 0
IsntRefused (Ok (Ok done)) = Unit {0}
IsntRefused (Ok (Err why)) = ⊥
IsntRefused (Err why) = Unit {0}

-- Its source ended the run: it is at its end, it failed, or it has too many lines.
abbrev pub IsFinal : Option Stop → Type 0
IsFinal None = Unit {0}
IsFinal (Some stop.Source) = Unit {0}
IsFinal (Some stop.TooMany) = Unit {0}
IsFinal (Some stop.Disk) = ⊥
IsFinal (Some stop.Memory) = ⊥
IsFinal (Some stop.Sink) = ⊥
IsFinal (Some stop.Steps) = ⊥

-- These lines were taken, and behind them the begin of a line without its newline.
pub record BeginsMore (taken : List ℕ) (source : Stream) (texts : List (List ℕ)) (source_new : Stream) : Type 0 where
  pub used : List ℕ
  pub begun : List ℕ
  pub bytes : ahead taken source ≡ used ++ begun ++ source_new.left
  pub whole : SplitsIntoLines used texts (begun ++ source_new.left)
  pub no_newline : HasNoNewline begun

-- what was taken of the source that ended the run: all of its lines, all whole lines before the fault, or lines before one too many
abbrev pub EndsTaking : Option Stop → List ℕ → Stream → List (List ℕ) → Stream → Type 0
EndsTaking None taken source texts source_new = texts ≡ lines (ahead taken source)
EndsTaking (Some stop.Source) taken source texts source_new = BeginsMore taken source texts source_new
EndsTaking (Some stop.TooMany) taken source texts source_new = length texts ≡ 4294967295
EndsTaking (Some stop.Disk) taken source texts source_new = ⊥
EndsTaking (Some stop.Memory) taken source texts source_new = ⊥
EndsTaking (Some stop.Sink) taken source texts source_new = ⊥
EndsTaking (Some stop.Steps) taken source texts source_new = ⊥

-- ---- the end

-- Nothing is left of a run: its mark is set, its journal is empty, and nothing is pending.
pub record IsPutAway (disk : State) : Type 0 where
  pub clean : is_unmounted (header_of_volume (content disk)).attributes ≡ true
  pub empty : (journal : Journal) × HasJournal (content disk) journal × (journal.header.start ≡ journal.header.end)
  pub settled : HasNothingPending disk

-- The volume was unmounted, and a mount finds this tree.
pub record IsUnmounted (disk : State) (tree : PlainTree) : Type 0 where
  pub mounts : MountsTo (content disk) tree
  pub away : IsPutAway disk

-- A mount recovers of this image the content in which housekeeping came to rest behind a run, maybe with a mark, but in the journal and in blocks
-- that this content's bitmap has free.
pub record CameToRest (capacity : ℕ) (start : Content) (run : List Entry) (image : Content) : Type 0 where
  pub last : Content
  pub rests : Rests capacity (shrunk_in None run) None (content_after start run) last
  pub stood : Content
  pub marked : IsMarked last stood
  pub recovered : Content
  pub opens : Opens image capacity recovered
  pub stands : StandsAs stood recovered

-- Over a rig: of what was taken of the source each of these lines was served and answered, housekeeping came to rest behind the last of them, and
-- the run keeps its promises.
pub record AnswersRig (capacity : ℕ) (start : Content) (old : State) (source : Stream) (texts : List (List ℕ)) (new : State) (source_new : Stream) : Type 0 where
  pub run : List Entry
  pub keeps : KeepsPromises capacity start old source run (length run) new source_new
  pub asked : lines_of run ≡ texts
  pub told : new.told ≡ old.told ++ replies_of run
  pub rested : (image : Content) → IsImage new.candidates image → CameToRest capacity start run image

-- A run that came to its end keeps its promises: all lines of the source were served, all their replies were told, housekeeping came to rest behind
-- the last of them, and the volume is unmounted with the tree after them.
pub record FinishesRun (capacity : ℕ) (start : Content) (old : State) (source : Stream) (new : State) (source_new : Stream) : Type 0 where
  pub run : List Entry
  pub keeps : KeepsPromises capacity start old source run (length run) new source_new
  pub all : IsTrue source.tells → lines_of run ≡ lines source.left
  pub told : new.told ≡ old.told ++ replies_of run
  pub rested : CameToRest capacity start run (content new)
  pub unmounted : IsUnmounted new (tree_after start run)

-- A run that the source ended by a fault: each whole line that was taken has its reply told.
pub record AnswersRun (capacity : ℕ) (start : Content) (old : State) (source : Stream) (new : State) (source_new : Stream) : Type 0 where
  pub run : List Entry
  pub run_is : IsRun capacity start run
  pub plain : ArePlain run
  pub told : new.told ≡ old.told ++ replies_of run
  pub lines_are : IsTrue source.tells → BeginsMore [] source (lines_of run) source_new

-- A run that ended at line number 4,294,967,295: each line before that one has its reply told.
pub record AnswersToTheLast (capacity : ℕ) (start : Content) (old : State) (source : Stream) (new : State) (source_new : Stream) : Type 0 where
  pub run : List Entry
  pub run_is : IsRun capacity start run
  pub plain : ArePlain run
  pub told : new.told ≡ old.told ++ replies_of run
  pub count : length run ≡ 4294967295
  pub lines_are : IsTrue source.tells → AreTaken source run source_new
