-- Lines that are played on a volume in memory, one run after another.
use Rattle.std.specs.Prelude.{◌≡◌, ℕ, ◌+◌, ◌==◌, ◌&&◌, zero, suc, not, Bool, true, false, List, [], ◌∷◌, ◌++◌, if◌then◌else◌}
use Rattle.sector_disk.specs.Cause.{next_count}
use Rattle.jnl_format.specs.Recovery.{Content}
use Rattle.hfs_language.specs.Lines.{lines}
use Rattle.hfs_model.specs.Plain.{fresh_tree}
use Rattle.hfs_model.specs.Step.{is_refusal}
use Rattle.hfs_model.specs.declared.plain.PlainTree.{PlainTree}
use Rattle.hfs_volume.specs.Mount.{MountsTo}
use Rattle.hfs_volume.specs.TreeOf.{tree_of}
use Rattle.stream_gen.specs.Stream.{line_of}
use Rattle.volume_runs.specs.Run.{Entry, IsRun, lines_of, replies_of, tree_after, ArePlain}
use Rattle.hfsx_server.specs.declared.playing.Stage.{Stage}
use Rattle.hfsx_server.specs.declared.playing.Tally.{Tally}

-- ---- the lines of a stream

-- so many lines of the stream of a seed, from this number on
unfoldable pub stream_from : (seed first : ℕ) → ℕ → List (List ℕ)
stream_from seed first zero = []
stream_from seed first (suc count) = stream_from seed first count ++ line_of seed (first + count) ∷ []

-- the first so many lines of it
abbrev pub stream_of : (seed count : ℕ) → List (List ℕ)
stream_of seed count = stream_from seed 0 count

-- ---- what they are answered

-- how many entries of a run were done
unfoldable pub number_done : List Entry → ℕ
number_done [] = 0
number_done (entry ∷ run) = (if is_refusal entry.reply then 0 else 1) + number_done run

-- and how many were refused
unfoldable pub number_refused : List Entry → ℕ
number_refused [] = 0
number_refused (entry ∷ run) = (if is_refusal entry.reply then 1 else 0) + number_refused run

-- one byte more of replies that are told: the first of each line says whether it was done, by an `o`, or refused
abbrev pub tallied_byte : Tally → ℕ → Tally
tallied_byte tally byte = record {
  begins = byte == 10;
  done = (if tally.begins && (byte == 111) then next_count tally.done else tally.done);
  refused = (if tally.begins && not (byte == 111) then next_count tally.refused else tally.refused);
}

-- all of them
unfoldable pub tallied : Tally → List ℕ → Tally
tallied tally [] = tally
tallied tally (byte ∷ bytes) = tallied (tallied_byte tally byte) bytes

-- ---- runs, one after another

-- Runs, of which each begins at a volume that has the tree which the one before it left, from a tree to another.
pub data Plays : PlainTree → List Entry → PlainTree → Type 0 where
  no_run : (tree : PlainTree) → Plays tree [] tree
  one_run : (old : PlainTree) (before : List Entry) (capacity : ℕ) (start : Content) (run : List Entry) → Plays old before (tree_of start) → IsRun capacity start run → Plays old (before ++ run) (tree_after start run)

-- On a volume of this tree the lines that these bytes are cut into were served in one run, all its replies were told, and the image mounts to the
-- tree behind it.
pub record ServesBytes (old : PlainTree) (bytes told : List ℕ) (image : Content) : Type 0 where
  pub capacity : ℕ
  pub start : Content
  pub run : List Entry
  pub begins : tree_of start ≡ old
  pub run_is : IsRun capacity start run
  pub plain : ArePlain run
  pub asked : lines_of run ≡ lines bytes
  pub replies : told ≡ replies_of run
  pub mounts : MountsTo image (tree_after start run)

-- The first lines of a stream were played on an empty volume, and these are the numbers of those that were done and refused. The volume mounts.
pub record HasPlayed (seed count : ℕ) (stage : Stage) : Type 0 where
  pub run : List Entry
  pub tree : PlainTree
  pub plays : Plays fresh_tree run tree
  pub plain : ArePlain run
  pub asked : lines_of run ≡ stream_of seed count
  pub done : stage.done ≡ number_done run
  pub refused : stage.refused ≡ number_refused run
  pub mounts : MountsTo stage.image.sectors.items tree
