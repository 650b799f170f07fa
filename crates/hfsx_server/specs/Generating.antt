-- What is told of a stream that was played.
use Rattle.std.specs.Prelude.{◌≡◌, ◌++◌, ℕ, Bool, true, List, codes, if◌then◌else◌}
use Rattle.sector_disk.specs.Disk.{State}
use Rattle.hfs_language.specs.Text.{field}
use Rattle.hfs_model.specs.Plain.{fresh_tree}
use Rattle.hfs_model.specs.declared.plain.PlainTree.{PlainTree}
use Rattle.volume_runs.specs.Run.{Entry, lines_of, ArePlain}
use Rattle.hfsx_server.specs.declared.generating.Played.{Played}
use Rattle.hfsx_server.specs.Playing.{Plays, number_done, number_refused, stream_of}
use Rattle.hfsx_server.specs.declared.status.Status.{Status}
use Rattle.hfsx_server.specs.declared.status.Status.TheVariants as status

-- the last word of its line
abbrev pub state_text : Bool → List ℕ
state_text clean = if clean then codes " clean\n" else codes " unsound\n"

-- the line of a stream that was played: its seed and how many lines it had, what they were answered, and what the volume holds
abbrev pub played_text : (seed count : ℕ) → Played → List ℕ
played_text seed count played =
    codes "gen" ++ field seed ++ field count ++ (codes " ok" ++ field played.done) ++ (codes " no" ++ field played.refused) ++ (codes " folders" ++ field played.folders) ++ (codes " names" ++ field played.names)
    ++ (codes " files" ++ field played.files) ++ (codes " bytes" ++ field played.bytes) ++ (codes " sum" ++ field played.sum) ++ state_text played.clean

-- the status of a stream that was played: its volume is sound, or it isn't
abbrev pub verdict_of : Played → Status
verdict_of played = if played.clean then status.Done else status.Refused

-- The lines of a stream were played from an empty volume, these are the numbers of those that were done and refused, and the volume is sound.
pub record IsPlayed (seed count : ℕ) (played : Played) : Type 0 where
  pub run : List Entry
  pub tree : PlainTree
  pub plays : Plays fresh_tree run tree
  pub plain : ArePlain run
  pub asked : lines_of run ≡ stream_of seed count
  pub done : played.done ≡ number_done run
  pub refused : played.refused ≡ number_refused run
  pub clean : played.clean ≡ true

-- A line of such a stream was told.
abbrev pub ToldPlayed : (seed count : ℕ) → State → State → Type 0
ToldPlayed seed count old new = (played : Played) × IsPlayed seed count played × (new.told ≡ old.told ++ played_text seed count played)
