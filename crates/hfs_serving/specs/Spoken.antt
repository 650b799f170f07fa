-- Runs of batches that a speaker serves, whatever its lines make and are told.
use Rattle.std.specs.Prelude.{◌≡◌, ◌++◌, ℕ, List, [], IsTrue, Option, None, length, take}
use Rattle.sector_disk.specs.Disk.{State, IsImage}
use Rattle.sector_disk.specs.Source.{Stream}
use Rattle.sector_disk.specs.Space.{Space}
use Rattle.jnl_format.specs.Recovery.{Content}
use Rattle.hfs_language.specs.Language.{most_bytes}
use Rattle.hfs_language.specs.Lines.{lines}
use Rattle.hfs_language.specs.declared.reply.Change.{Change}
use Rattle.line_source.specs.Batch.{held}
use Rattle.volume_runs.specs.Run.{shrunk_in}
use Rattle.hfs_serving.specs.Ending.{CameToRest, EndsAtRest}
use Rattle.hfs_serving.specs.Going.{Knowing, Stands}
use Rattle.hfs_serving.specs.Outside.{Outside}
use Rattle.hfs_serving.specs.Runs.{Crashes, IsPrefix, LeadsToRest, Serves, SetsUnmounted, StandsAs, texts_of}
use Rattle.hfs_serving.specs.Speaking.{Said, Speech, spoken_on}
use Rattle.hfs_serving.specs.Taking.{HasTaken}
use Rattle.hfs_serving.specs.Top.{KeepsAnswers}

-- ---- stretches

-- The first of these lines were served to their end: their answers were told, and the volume stands for what they left, which is committed. Behind
-- the last of them housekeeping came to rest. Watchers heard all of their changes.
pub record ServesSpoken (said : Said) (heard : List Change) (count capacity : ℕ) (knows : Knowing) (start : Content) (shrunk : Option ℕ) (old : Outside) (lines : List (List ℕ)) (space : Space) (new : Outside) : Type 0 where
  pub speech : Speech
  pub now : Content
  pub serves : Serves capacity shrunk start old speech.run speech.answers now new
  pub stands : Stands knows now now (shrunk_in shrunk speech.run) space new
  pub asked : speech.lines ≡ take count lines
  pub rests : LeadsToRest capacity shrunk None start speech.run now
  pub is : said speech
  pub changes : speech.changes ≡ heard

-- A fault ended it after some of these lines. What was spoken up to the last commit is on each image that a crash leaves, watchers heard all of its
-- changes and none of the rest, and no answer of the rest was told.
pub record CrashesSpoken (said : Said) (heard : List Change) (capacity : ℕ) (start : Content) (shrunk : Option ℕ) (old : Outside) (lines : List (List ℕ)) (new : Outside) : Type 0 where
  pub whole : Speech
  pub rest : Speech
  pub count : ℕ
  pub crashes : Crashes capacity shrunk start old (spoken_on whole rest).run (spoken_on whole rest).answers (length whole.run) new
  pub asked : whole.lines ++ rest.lines ≡ take count lines
  pub whole_is : said whole
  pub is : said (spoken_on whole rest)
  pub changes : whole.changes ≡ heard
  pub behind : (w : List ℕ) × IsPrefix w (texts_of whole.answers) × (new.told ≡ old.told ++ w)

-- Each of these lines was served and answered, housekeeping came to rest behind the last of them, no crash leaves less from then on, and watchers
-- heard all of their changes.
pub record AnswersSpoken (said : Said) (heard : List Change) (capacity : ℕ) (start : Content) (shrunk : Option ℕ) (old : Outside) (lines : List (List ℕ)) (new : Outside) : Type 0 where
  pub speech : Speech
  pub crashes : Crashes capacity shrunk start old speech.run speech.answers (length speech.run) new
  pub asked : speech.lines ≡ lines
  pub told : new.told ≡ old.told ++ texts_of speech.answers
  pub rested : EndsAtRest capacity shrunk start speech.run new
  pub is : said speech
  pub changes : speech.changes ≡ heard

-- ---- over a rig and a source: of a line that is longer than a line may be a front is held

-- What a run promises, whatever ended it: some of the lines were served that were taken of the source, and each image that a crash leaves mounts to
-- the tree after some of the entries made for them, among them those of each line that was answered.
pub record KeepsSpoken (said : Said) (heard : List Change) (capacity : ℕ) (start : Content) (old : State) (source : Stream) (new : State) (source_new : Stream) : Type 0 where
  pub whole : Speech
  pub rest : Speech
  pub texts : List (List ℕ)
  pub count : ℕ
  pub keeps : KeepsAnswers capacity start old (spoken_on whole rest).run (spoken_on whole rest).answers (length whole.run) new
  pub taken : IsTrue source.tells → HasTaken [] source texts source_new
  pub asked : whole.lines ++ rest.lines ≡ take count (held most_bytes texts)
  pub whole_is : said whole
  pub is : said (spoken_on whole rest)
  pub changes : whole.changes ≡ heard
  pub behind : (w : List ℕ) × IsPrefix w (texts_of whole.answers) × (new.told ≡ old.told ++ w)

-- Each of these lines, which were taken of the source, was served and answered, and housekeeping came to rest behind the last of them.
pub record AnswersRigSpoken (said : Said) (heard : List Change) (capacity : ℕ) (start : Content) (old : State) (source : Stream) (texts : List (List ℕ)) (new : State) (source_new : Stream) : Type 0 where
  pub speech : Speech
  pub keeps : KeepsAnswers capacity start old speech.run speech.answers (length speech.run) new
  pub taken : IsTrue source.tells → HasTaken [] source texts source_new
  pub asked : speech.lines ≡ held most_bytes texts
  pub told : new.told ≡ old.told ++ texts_of speech.answers
  pub rested : (image : Content) → IsImage new.candidates image → CameToRest capacity start speech.run image
  pub is : said speech
  pub changes : speech.changes ≡ heard

-- A run that came to its end: all lines of the source were served and answered, housekeeping came to rest behind the last of them, and a crash
-- leaves what they left, with the mark of the end.
pub record EndsSpoken (said : Said) (capacity : ℕ) (start : Content) (old : Outside) (source : Stream) (new : Outside) : Type 0 where
  pub speech : Speech
  pub asked : IsTrue source.tells → speech.lines ≡ held most_bytes (lines source.left)
  pub now : Content
  pub rests : LeadsToRest capacity None None start speech.run now
  pub told : new.told ≡ old.told ++ texts_of speech.answers
  pub is : said speech
  pub ended : Content
  pub sets : SetsUnmounted now ended
  pub leaves : (recovered : Content) → new.leaves recovered → StandsAs ended recovered
