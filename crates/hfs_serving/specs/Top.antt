-- What a run promises: as the server proves it, and as its users read it.
use Rattle.std.specs.Prelude.{◌≡◌, ◌≤◌, ℕ, List, [], ◌++◌, length, take, IsTrue, None}
use Rattle.sector_disk.specs.Disk.{State, IsImage}
use Rattle.sector_disk.specs.Source.{Stream}
use Rattle.jnl_format.specs.Recovery.{Content}
use Rattle.line_source.specs.Input.{SplitsIntoLines}
use Rattle.hfs_volume.specs.Aside.{NamesJournal}
use Rattle.hfs_volume.specs.Mount.{MountsTo}
use Rattle.volume_runs.specs.Run.{Entry, IsRun, lines_of, replies_of, tree_after, ArePlain}
use Rattle.hfs_serving.specs.Opening.{Opens}
use Rattle.hfs_serving.specs.Runs.{Answer, AreAnswered, IsPrefix, Survives, StandsIn, texts_of}

-- The lines of a run are the first of the bytes that were taken of a source: each ends with a newline, but for a last piece at the end of all bytes.
pub record AreTaken (source : Stream) (run : List Entry) (source_new : Stream) : Type 0 where
  pub used : List ℕ
  pub rest : List ℕ
  pub bytes : source.left ≡ used ++ (rest ++ source_new.left)
  pub cut : SplitsIntoLines used (lines_of run) (rest ++ source_new.left)

-- ---- over contents

-- A crash left this image, with just these bytes told: a mount recovers of it the content after some of the run's entries, among which are
-- those of each line that was answered, but in the journal and in blocks that this content's bitmap has free. Its info block names the journal
-- that the content has.
pub record SurvivesAs (capacity : ℕ) (start : Content) (run : List Entry) (answers : List Answer) (image : Content) (told : List ℕ) : Type 0 where
  pub recovered : Content
  pub opens : Opens image capacity recovered
  pub survives : Survives capacity None start run answers recovered told
  pub names : NamesJournal survives.within.stood recovered

-- The same at the end, where so many entries' changes are known.
pub record KnowsAs (capacity : ℕ) (start : Content) (run : List Entry) (known : ℕ) (image : Content) : Type 0 where
  pub recovered : Content
  pub opens : Opens image capacity recovered
  pub stands : StandsIn capacity None start run known recovered
  pub names : NamesJournal stands.stood recovered

-- One run from this content, with what its lines are told, stands for all that may be seen of it: for each image that a
-- crash may have left at any moment since the start, with the bytes told by then; for the bytes told at the end; and for what watchers know
-- then, of which each image that a crash leaves at the end holds the first `known` entries.
pub record Promises (capacity : ℕ) (start : Content) (old : State) (run : List Entry) (answers : List Answer) (known : ℕ) (new : State) : Type 0 where
  pub run_is : IsRun capacity start run
  pub crash : (image : Content) (told : List ℕ) → new.clock.left old.clock.moment image (old.told ++ told) → SurvivesAs capacity start run answers image told
  pub told : (w : List ℕ) × IsPrefix w (texts_of answers) × (new.told ≡ old.told ++ w)
  pub knows : (image : Content) → IsImage new.candidates image → KnowsAs capacity start run known image

-- ---- over trees

-- A crash left this image, with just these bytes told: it mounts to the tree after some of the run's lines, and among them is each line whose
-- reply was told. What was told are replies of the run, in order, the last maybe in part.
pub record SurvivesTo (start : Content) (run : List Entry) (image : Content) (told : List ℕ) : Type 0 where
  pub count : ℕ
  pub some : count ≤ length run
  pub mounts : MountsTo image (tree_after start (take count run))
  pub front : IsPrefix told (replies_of run)
  pub answered : (k : ℕ) → k ≤ length run → IsPrefix (replies_of (take k run)) told → k ≤ count

-- At the end: it mounts to the tree after the first `known` lines at least.
pub record KnowsTo (start : Content) (run : List Entry) (known : ℕ) (image : Content) : Type 0 where
  pub count : ℕ
  pub many : known ≤ count
  pub some : count ≤ length run
  pub mounts : MountsTo image (tree_after start (take count run))

-- A crash left this image, with just these bytes told: it mounts to the tree after some of the run's entries, among which are those of each
-- line that was answered. What was told are these answers, in order, the last maybe in part.
pub record HoldsAnswered (start : Content) (run : List Entry) (answers : List Answer) (image : Content) (told : List ℕ) : Type 0 where
  pub count : ℕ
  pub some : count ≤ length run
  pub mounts : MountsTo image (tree_after start (take count run))
  pub front : IsPrefix told (texts_of answers)
  pub answered : AreAnswered [] answers told count

-- What a run keeps whose lines make any number of entries: each image that a crash may have left mounts to the tree after a prefix of the
-- entries, which holds those of each line that was answered.
pub record KeepsAnswers (capacity : ℕ) (start : Content) (old : State) (run : List Entry) (answers : List Answer) (known : ℕ) (new : State) : Type 0 where
  pub run_is : IsRun capacity start run
  pub crash : (image : Content) (told : List ℕ) → new.clock.left old.clock.moment image (old.told ++ told) → HoldsAnswered start run answers image told
  pub told : (w : List ℕ) × IsPrefix w (texts_of answers) × (new.told ≡ old.told ++ w)
  pub knows : (image : Content) → IsImage new.candidates image → KnowsTo start run known image

-- What users read of a run: each image that a crash may have left mounts to the tree after a prefix of its lines.
pub record KeepsPromises (capacity : ℕ) (start : Content) (old : State) (source : Stream) (run : List Entry) (known : ℕ) (new : State) (source_new : Stream) : Type 0 where
  pub run_is : IsRun capacity start run
  pub plain : ArePlain run
  pub lines_are : IsTrue source.tells → AreTaken source run source_new
  pub crash : (image : Content) (told : List ℕ) → new.clock.left old.clock.moment image (old.told ++ told) → SurvivesTo start run image told
  pub told : (w : List ℕ) × IsPrefix w (replies_of run) × (new.told ≡ old.told ++ w)
  pub knows : (image : Content) → IsImage new.candidates image → KnowsTo start run known image
