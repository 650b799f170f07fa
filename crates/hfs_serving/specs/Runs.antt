-- A run over stretches of calls, what its lines are told, and what a crash leaves of it. What an entry may be, what housekeeping is, and when a volume is sound stand
-- in the definitions of whole volumes.
use Rattle.std.specs.Prelude.{◌≡◌, ◌⊎◌, ◌<◌, ◌≤◌, ◌+◌, ℕ, bit_or, List, [], ◌∷◌, ◌++◌, length, take, Option, None}
use Rattle.hfs_volume.specs.declared.asked.Asked.{Asked}
use Rattle.sector_disk.specs.Clock.{TimePasses}
use Rattle.sector_disk.specs.Space.{AgreesOutside}
use Rattle.jnl_format.specs.Recovery.{Content, journaling_version}
use Rattle.hfs_language.specs.Text.{reply_text}
use Rattle.volume_header.specs.Refusal.{is_locked}
use Rattle.volume_header.specs.declared.header.VolumeHeader.{VolumeHeader}
use Rattle.hfs_volume.specs.Aside.{IsAside}
use Rattle.hfs_volume.specs.Content.{volume_of}
use Rattle.hfs_volume.specs.Reclaim.{Tidies, KeepsTree}
use Rattle.volume_runs.specs.Rest.{Rests, TidiesFor}
use Rattle.volume_runs.specs.Run.{Entry, IsRunFrom, content_after, shrunk_in}
use Rattle.hfs_serving.specs.Outside.{Outside}

-- the one list begins with the other
abbrev pub IsPrefix : List ℕ → List ℕ → Type 0
IsPrefix front whole = (rest : List ℕ) × (whole ≡ front ++ rest)

-- what was found is this content, but in the journal and in blocks that this content's bitmap has free
abbrev pub StandsAs : Content → Content → Type 0
StandsAs content recovered = AgreesOutside (IsAside content) content recovered

-- The journal lies where it lay, and software has the volume locked where it had.
pub record KeepsPlace (old new : Content) : Type 0 where
  pub journal : (volume_of new).journal ≡ (volume_of old).journal
  pub locked : is_locked (volume_of new).head.attributes ≡ is_locked (volume_of old).head.attributes

-- ---- where a run leads

-- A run leads to a content: housekeeping has gone on from the content after its last entry, or from its start, ahead of this command, if there
-- is one.
pub record Leads (capacity : ℕ) (shrunk : Option ℕ) (asked : Option Asked) (start : Content) (run : List Entry) (now : Content) : Type 0 where
  pub run_is : IsRunFrom capacity shrunk start run
  pub tidied : TidiesFor capacity (shrunk_in shrunk run) asked (content_after start run) now
  pub place : KeepsPlace start now

-- the same, and that housekeeping has come to rest
pub record LeadsToRest (capacity : ℕ) (shrunk : Option ℕ) (asked : Option Asked) (start : Content) (run : List Entry) (now : Content) : Type 0 where
  pub run_is : IsRunFrom capacity shrunk start run
  pub rests : Rests capacity (shrunk_in shrunk run) asked (content_after start run) now
  pub place : KeepsPlace start now

-- ---- the begin and the end of a run

-- the header as the first write of a mount leaves it, by a system that keeps the journal
abbrev pub version_header : VolumeHeader → VolumeHeader
version_header head = record head { last_mounted_version = journaling_version }

-- the header as the end of a run leaves it, with bit 8 of its attributes set
abbrev pub unmounted_header : VolumeHeader → VolumeHeader
unmounted_header head = record head { attributes = bit_or head.attributes 256 }

-- At the begin of a run: the header says that a system mounts the volume which keeps its journal, and nothing else is changed.
pub record SetsVersion (old new : Content) : Type 0 where
  pub volume : volume_of new ≡ record (volume_of old) { head = version_header (volume_of old).head }
  pub keeps : KeepsTree old new

-- At the end of a run: bit 8 of the header's attributes is set, and nothing else is changed.
pub record SetsUnmounted (old new : Content) : Type 0 where
  pub volume : volume_of new ≡ record (volume_of old) { head = unmounted_header (volume_of old).head }
  pub keeps : KeepsTree old new

-- the content as it was, or with the mark of the begin or of the end of a run
abbrev pub IsMarked : Content → Content → Type 0
IsMarked old new = (new ≡ old) ⊎ SetsVersion old new ⊎ SetsUnmounted old new

-- ---- what lines are told

-- What a line is told, and how many entries of the run there are by then: all that were made for this line and for those before it.
pub record Answer : Type 0 where
  pub text : List ℕ
  pub upto : ℕ

-- the texts, one behind the other
unfoldable pub texts_of : List Answer → List ℕ
texts_of [] = []
texts_of (answer ∷ answers) = answer.text ++ texts_of answers

-- of a run of so many entries: each answer has a byte at least, and comes behind some of the entries
abbrev pub AreAnswers : ℕ → List Answer → Type 0
AreAnswers most [] = Unit {0}
AreAnswers most (answer ∷ answers) = (answer.upto ≤ most) × (0 < length answer.text) × AreAnswers most answers

-- Behind these bytes, each answer that was told whole has its entries among the first `count`.
abbrev pub AreAnswered : List ℕ → List Answer → List ℕ → ℕ → Type 0
AreAnswered before [] told count = Unit {0}
AreAnswered before (answer ∷ answers) told count = (IsPrefix (before ++ answer.text) told → answer.upto ≤ count) × AreAnswered (before ++ answer.text) answers told count

-- the answers of a later stretch, before which there were so many entries
abbrev pub shifted : ℕ → List Answer → List Answer
shifted before [] = []
shifted before (answer ∷ answers) = record { text = answer.text; upto = before + answer.upto } ∷ shifted before answers

-- where each line makes one entry and is told its reply, behind so many other entries
abbrev pub replies_from : ℕ → List Entry → List Answer
replies_from before [] = []
replies_from before (entry ∷ run) = record { text = reply_text entry.reply; upto = before + 1 } ∷ replies_from (before + 1) run

-- the same from a run's first line on
abbrev pub plain_answers : List Entry → List Answer
plain_answers run = replies_from 0 run

-- ---- what a crash leaves

-- The content after some of the run's entries, the first `least` of them at least, after housekeeping behind them, and maybe with a mark.
pub record StandsIn (capacity : ℕ) (shrunk : Option ℕ) (start : Content) (run : List Entry) (least : ℕ) (recovered : Content) : Type 0 where
  pub count : ℕ
  pub many : least ≤ count
  pub some : count ≤ length run
  pub tidy : Content
  pub tidied : Tidies capacity (shrunk_in shrunk (take count run)) (content_after start (take count run)) tidy
  pub stood : Content
  pub marked : IsMarked tidy stood
  pub place : KeepsPlace start stood
  pub stands : StandsAs stood recovered

-- With just these bytes told, a crash left the content after some of the run's entries, among which are those of each line that was answered.
-- What was told are these answers, in order, the last maybe in part.
pub record Survives (capacity : ℕ) (shrunk : Option ℕ) (start : Content) (run : List Entry) (answers : List Answer) (recovered : Content) (told : List ℕ) : Type 0 where
  pub within : StandsIn capacity shrunk start run 0 recovered
  pub front : IsPrefix told (texts_of answers)
  pub answered : AreAnswered [] answers told within.count

-- what a crash leaves, over all that was told, of which this was told before
abbrev pub SurvivesFrom : ℕ → Option ℕ → Content → List ℕ → List Entry → List Answer → Content → List ℕ → Type 0
SurvivesFrom capacity shrunk start before run answers recovered told = (w : List ℕ) × (told ≡ before ++ w) × Survives capacity shrunk start run answers recovered w

-- ---- stretches of calls

-- A stretch that something ended: at every moment of it and at its end. What the first `known` entries changed was told to watchers, and no
-- crash leaves less from then on.
pub record Crashes (capacity : ℕ) (shrunk : Option ℕ) (start : Content) (old : Outside) (run : List Entry) (answers : List Answer) (known : ℕ) (new : Outside) : Type 0 where
  pub run_is : IsRunFrom capacity shrunk start run
  pub are : AreAnswers (length run) answers
  pub time : TimePasses old.clock new.clock (SurvivesFrom capacity shrunk start old.told run answers)
  pub told : (w : List ℕ) × IsPrefix w (texts_of answers) × (new.told ≡ old.told ++ w)
  pub few : known ≤ length run
  pub knows : (recovered : Content) → new.leaves recovered → StandsIn capacity shrunk start run known recovered

-- A stretch that was served to its end: all answers were told, all changes too, and a crash leaves what the volume stands for now.
pub record Serves (capacity : ℕ) (shrunk : Option ℕ) (start : Content) (old : Outside) (run : List Entry) (answers : List Answer) (now : Content) (new : Outside) : Type 0 where
  pub leads : Leads capacity shrunk None start run now
  pub are : AreAnswers (length run) answers
  pub time : TimePasses old.clock new.clock (SurvivesFrom capacity shrunk start old.told run answers)
  pub told : new.told ≡ old.told ++ texts_of answers
  pub rests : (recovered : Content) → new.leaves recovered → StandsAs now recovered
