-- Stretches in which a speaker serves lines, each of which may make any number of entries.
use Rattle.std.specs.Prelude.{◌≡◌, ◌++◌, ◌≤◌, ℕ, Bool, List, [], ◌∷◌, All, Option, None, length, take}
use Rattle.sector_disk.specs.Space.{Space}
use Rattle.jnl_format.specs.Recovery.{Content}
use Rattle.hfs_language.specs.declared.reply.Change.{Change}
use Rattle.hfs_volume.specs.TreeOf.{tree_of}
use Rattle.volume_runs.specs.Run.{Entry, shrunk_in, tree_after}
use Rattle.hfs_serving.specs.Going.{Knowing, line_if}
use Rattle.hfs_serving.specs.Grounds.{KeepsHeading}
use Rattle.hfs_serving.specs.Outside.{Outside}
use Rattle.hfs_serving.specs.Runs.{Answer, AreAnswers, LeadsToRest, shifted, texts_of}
use Rattle.hfs_serving.specs.Said.{joined}
use Rattle.hfs_serving.specs.Serving.{Goes, Stops}
use Rattle.hfs_serving.specs.declared.volume.ToTell.{ToTell}

-- What was spoken: these lines were served, these entries of a run were made for them, these are their answers, and these the changes that watchers
-- are told of.
pub record Speech : Type 0 where
  pub lines : List (List ℕ)
  pub run : List Entry
  pub answers : List Answer
  pub changes : List Change

-- nothing
abbrev pub unspoken : Speech
unspoken = record { lines = []; run = []; answers = []; changes = [] }

-- one behind the other
abbrev pub spoken_on : Speech → Speech → Speech
spoken_on past more = record { lines = past.lines ++ more.lines; run = past.run ++ more.run; answers = past.answers ++ shifted (length past.run) more.answers; changes = past.changes ++ more.changes }

-- what is to be told of it
abbrev pub to_tell : Speech → ToTell
to_tell speech = record { replies = texts_of speech.answers; changes = speech.changes }

-- what may be said of what was spoken
abbrev pub Said : Type 1
Said = Speech → Type 0

-- what may be said of all that was spoken since a run began from a content
abbrev pub Spoken : Type 1
Spoken = Content → Said

-- This was spoken behind so many lines, from this content on: whatever was spoken before that led to its tree, and of which the one was said, the
-- other is said of both.
abbrev pub Speaks : ℕ → Content → Spoken → Spoken → Said
Speaks number now from to speech = (start : Content) (past : Speech) → length past.lines ≡ number → tree_after start past.run ≡ tree_of now → from start past → to start (spoken_on past speech)

-- It was spoken from the begin of a run on, which a mount of this content led to.
abbrev pub SpeaksFrom : Content → Spoken → Spoken → Said
SpeaksFrom start from to speech = (begun : Content) × (tree_of begun ≡ tree_of start) × Speaks 0 begun from to speech

-- A stretch within a batch, in which these lines were served, of which the first has this number, and this is to be told of them.
pub record SpeaksOn (capacity : ℕ) (knows : Knowing) (committed now : Content) (shrunk : Option ℕ) (old : Outside) (number : ℕ) (from to : Spoken) (lines : List (List ℕ)) (said : ToTell) (space : Space) (new : Outside) : Type 0 where
  pub speech : Speech
  pub last : Content
  pub next : Content
  pub goes : Goes capacity shrunk None committed now old speech.run last next space new
  pub heads : KeepsHeading space
  pub known : knows last next (shrunk_in shrunk speech.run)
  pub asked : speech.lines ≡ lines
  pub are : AreAnswers (length speech.run) speech.answers
  pub told : to_tell speech ≡ said
  pub speaks : Speaks number now from to speech

-- A line was served, or was left, with nothing done for it: a commit is wanted before it, or housekeeping didn't come to rest. Housekeeping went on
-- before that. `before` and `after` are what is to be told.
pub record SpeaksLine (served : Bool) (capacity : ℕ) (knows : Knowing) (committed now : Content) (shrunk : Option ℕ) (old : Outside) (number : ℕ) (from to : Spoken) (line : List ℕ) (before after : ToTell) (space : Space) (new : Outside) : Type 0 where
  pub said : ToTell
  pub told : after ≡ joined before said
  pub goes : SpeaksOn capacity knows committed now shrunk old number from to (line_if served line) said space new

-- The first of these lines were served.
pub record SpeaksLines (count : ℕ) (capacity : ℕ) (knows : Knowing) (committed now : Content) (shrunk : Option ℕ) (old : Outside) (number : ℕ) (from to : Spoken) (lines : List (List ℕ)) (before after : ToTell) (space : Space) (new : Outside) : Type 0 where
  pub said : ToTell
  pub told : after ≡ joined before said
  pub goes : SpeaksOn capacity knows committed now shrunk old number from to (take count lines) said space new

-- A fault ended a stretch in which these lines were served. The last of them may be cut short: then entries of it may be there, and it is told nothing.
pub record StopsSpeaking (capacity : ℕ) (committed now : Content) (shrunk : Option ℕ) (old : Outside) (number : ℕ) (from to : Spoken) (lines : List (List ℕ)) (new : Outside) : Type 0 where
  pub speech : Speech
  pub asked : speech.lines ≡ lines
  pub are : AreAnswers (length speech.run) speech.answers
  pub speaks : Speaks number now from to speech
  pub stops : Stops capacity shrunk committed now old speech.run new

-- A fault ended it after some of these lines.
pub record StopsLines (capacity : ℕ) (committed now : Content) (shrunk : Option ℕ) (old : Outside) (number : ℕ) (from to : Spoken) (lines : List (List ℕ)) (new : Outside) : Type 0 where
  pub count : ℕ
  pub stops : StopsSpeaking capacity committed now shrunk old number from to (take count lines) new

-- All that the volume stands for is committed, and nothing of it is told: these are the lines, and this is to be told of them. Behind the last of
-- them housekeeping came to rest.
pub record SpeaksWhole (capacity : ℕ) (knows : Knowing) (start : Content) (shrunk : Option ℕ) (old : Outside) (number : ℕ) (from to : Spoken) (lines : List (List ℕ)) (said : ToTell) (space : Space) (new : Outside) : Type 0 where
  pub speech : Speech
  pub now : Content
  pub goes : Goes capacity shrunk None start start old speech.run now now space new
  pub heads : KeepsHeading space
  pub known : knows now now (shrunk_in shrunk speech.run)
  pub asked : speech.lines ≡ lines
  pub are : AreAnswers (length speech.run) speech.answers
  pub told : to_tell speech ≡ said
  pub speaks : Speaks number start from to speech
  pub rests : LeadsToRest capacity shrunk None start speech.run now

-- The first of these lines were served, and all of it is committed.
pub record SpeaksBatch (count : ℕ) (capacity : ℕ) (knows : Knowing) (start : Content) (shrunk : Option ℕ) (old : Outside) (number : ℕ) (from to : Spoken) (lines : List (List ℕ)) (before after : ToTell) (space : Space) (new : Outside) : Type 0 where
  pub said : ToTell
  pub told : after ≡ joined before said
  pub whole : SpeaksWhole capacity knows start shrunk old number from to (take count lines) said space new

-- none of so many of these lines asks that all be made durable
abbrev pub HasNoEnd : (List ℕ → Type 0) → ℕ → List (List ℕ) → Type 0
HasNoEnd ends count lines = All (λ line. ends line → ⊥) (take count lines)
