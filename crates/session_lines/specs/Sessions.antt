-- What a run of sessions promises its users.
use Rattle.std.specs.Prelude.{◌≡◌, ◌≤◌, ◌+◌, ℕ, List, [], ◌∷◌, ◌++◌, length, take, IsTrue}
use Rattle.sector_disk.specs.Disk.{State}
use Rattle.sector_disk.specs.Source.{Stream}
use Rattle.jnl_format.specs.Recovery.{Content}
use Rattle.hfs_language.specs.Language.{most_bytes}
use Rattle.hfs_language.specs.Lines.{lines}
use Rattle.hfs_model.specs.declared.plain.PlainTree.{PlainTree}
use Rattle.hfs_volume.specs.Mount.{MountsTo}
use Rattle.volume_runs.specs.Run.{Entry, content_after, tree_after}
use Rattle.line_source.specs.Batch.{held}
use Rattle.hfs_serving.specs.Ending.{BeginsMore, IsUnmounted}
use Rattle.hfs_serving.specs.Runs.{Answer, AreAnswered, IsPrefix, texts_of}
use Rattle.hfs_serving.specs.Speaking.{Speech}
use Rattle.hfs_serving.specs.Taking.{HasTaken}
use Rattle.open_files.specs.Keeping.{seen}
use Rattle.open_files.specs.Machine.{Machine}
use Rattle.session_lines.specs.Turns.{AreTurns, BrokenSessions, machine_on}

-- ---- what a crash leaves

-- these answers, counted by lines
abbrev pub by_lines : ℕ → List Answer → List Answer
by_lines before [] = []
by_lines before (answer ∷ answers) = record { text = answer.text; upto = before + 1 } ∷ by_lines (before + 1) answers

-- Users see the tree as the machine has it after the first of these lines.
pub record SeesFirst (start : Content) (machine : Machine) (before : ℕ) (lines : List (List ℕ)) (tree : PlainTree) (count : ℕ) : Type 0 where
  pub some : count ≤ length lines
  pub run : List Entry
  pub answers : List Answer
  pub middle : Machine
  pub turns : AreTurns start machine before (take count lines) run answers middle
  pub sees : seen tree ≡ seen middle.tree

-- A crash left this image, with just these bytes told: it mounts to a tree that users of sessions see as the machine's after some of the lines, and
-- among them is each line whose answer was told.
pub record SurvivesInSessions (start : Content) (machine : Machine) (begun : ℕ) (lines : List (List ℕ)) (answers : List Answer) (image : Content) (told : List ℕ) : Type 0 where
  pub tree : PlainTree
  pub mounts : MountsTo image tree
  pub count : ℕ
  pub first : SeesFirst start machine begun lines tree count
  pub front : IsPrefix told (texts_of answers)
  pub answered : AreAnswered [] (by_lines 0 answers) told count

-- A crash left this image, with just these bytes told: it mounts to a tree that users see as the machine's after some of the lines that were spoken, among
-- which is each line whose answer was told. The machine begins on the tree behind the release of what an earlier run kept.
abbrev pub Survives : (start : Content) (speech : Speech) → BrokenSessions start speech → Content → List ℕ → Type 0
Survives start speech is image told = SurvivesInSessions (content_after start is.released) (machine_on (tree_after start is.released)) (length is.released) speech.lines speech.answers image told

-- ---- what a run promises

-- Whatever ends a run from this content: some of the lines that were taken of the source were spoken, a front of each that is longer than a line may be.
-- Each file that is open behind one of them has an entry. What was told are the machine's answers to them, in order, the last maybe in part. Each image that
-- a crash may have left at any moment mounts to a tree that users see as the machine's after some of the lines, each answered one among them.
pub record KeepsSessions (start : Content) (old : State) (source : Stream) (new : State) (source_new : Stream) : Type 0 where
  pub speech : Speech
  pub is : BrokenSessions start speech
  pub texts : List (List ℕ)
  pub count : ℕ
  pub taken : IsTrue source.tells → HasTaken [] source texts source_new
  pub asked : speech.lines ≡ take count (held most_bytes texts)
  pub crash : (image : Content) (told : List ℕ) → new.clock.left old.clock.moment image (old.told ++ told) → Survives start speech is image told
  pub told : (w : List ℕ) × IsPrefix w (texts_of speech.answers) × (new.told ≡ old.told ++ w)

-- A run in which each of these lines was answered, which were taken of the source, and all answers were told.
pub record AnswersSessions (start : Content) (old : State) (source : Stream) (texts : List (List ℕ)) (new : State) (source_new : Stream) : Type 0 where
  pub speech : Speech
  pub is : BrokenSessions start speech
  pub taken : IsTrue source.tells → HasTaken [] source texts source_new
  pub asked : speech.lines ≡ held most_bytes texts
  pub answered : length speech.answers ≡ length speech.lines
  pub crash : (image : Content) (told : List ℕ) → new.clock.left old.clock.moment image (old.told ++ told) → Survives start speech is image told
  pub told : new.told ≡ old.told ++ texts_of speech.answers
  pub tree : tree_after start speech.run ≡ is.last.tree

-- A run that came to its end: no file that an earlier run kept is left to be released, all lines of the source were answered, all answers were told, and
-- the volume is unmounted with the machine's tree.
pub record FinishesSessions (start : Content) (old : State) (source : Stream) (new : State) (source_new : Stream) : Type 0 where
  pub texts : List (List ℕ)
  pub answers : AnswersSessions start old source texts new source_new
  pub released : answers.is.left ≡ []
  pub all : IsTrue source.tells → texts ≡ lines source.left
  pub unmounted : IsUnmounted new answers.is.last.tree

-- A run that the source ended by a fault: each whole line that was taken has its answer told.
pub record StopsSessions (start : Content) (old : State) (source : Stream) (new : State) (source_new : Stream) : Type 0 where
  pub texts : List (List ℕ)
  pub answers : AnswersSessions start old source texts new source_new
  pub whole : IsTrue source.tells → BeginsMore [] source texts source_new
