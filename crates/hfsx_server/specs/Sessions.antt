-- How a run of sessions ended.
use Rattle.std.specs.Prelude.{◌≡◌, ◌⊎◌, ◌≤◌, ◌<◌, ℕ, true, false, List, [], length, IsTrue}
use Rattle.sector_disk.specs.Disk.{HasNothingPending, State, content}
use Rattle.sector_disk.specs.Source.{Stream}
use Rattle.jnl_format.specs.Recovery.{Content}
use Rattle.hfs_language.specs.Lines.{lines}
use Rattle.hfs_volume.specs.Mount.{IsMountable, Mounts}
use Rattle.hfs_volume.specs.TreeOf.{tree_of}
use Rattle.open_files.specs.Keeping.{is_taken}
use Rattle.session_lines.specs.Sessions.{AnswersSessions, FinishesSessions, KeepsSessions, StopsSessions}
use Rattle.hfsx_server.specs.Telling.{ToldRefusal, ToldTaken}
use Rattle.hfsx_server.specs.declared.status.Status.{Status}
use Rattle.hfsx_server.specs.declared.status.Status.TheVariants as status

-- the image was refused, or it couldn't be read, or memory was missing
abbrev pub NotServed : Status → Type 0
NotServed ended = (ended ≡ status.Refused) ⊎ ((ended ≡ status.Disk) ⊎ (ended ≡ status.Memory))

-- each line that was taken before the one too many was answered, and all answers were told
abbrev pub LastSessions : Content → State → Stream → State → Stream → Type 0
LastSessions start old source new source_new = (texts : List (List ℕ)) × AnswersSessions start old source texts new source_new × (length texts ≡ 4294967295)

-- A run of sessions ended with this status.
pub record ServesSessions (ended : Status) (old : State) (source : Stream) (new : State) (source_new : Stream) : Type 0 where
  -- Status 1 stands exactly where the image isn't mountable, or its keeping folder isn't the sessions' own, unless it couldn't be read: the first refusal
  -- that stands was told.
  pub refused : IsTrue old.tells → ended ≡ status.Refused → ToldRefusal old new ⊎ ToldTaken old new
  pub refuses : IsTrue old.tells → ¬ IsMountable (content old) → NotServed ended
  pub taken : IsTrue old.tells → (capacity : ℕ) (start : Content) → Mounts (content old) capacity start → is_taken (tree_of start) ≡ true → NotServed ended
  -- From a mountable image with nothing pending, whatever ended the run and whenever power fails: what was told are the answers of the machine of sessions,
  -- and each image that a crash may leave mounts to a tree that users see as after some of the lines, each answered one among them.
  pub keeps : IsTrue old.tells → HasNothingPending old → (capacity : ℕ) (start : Content) → Mounts (content old) capacity start → is_taken (tree_of start) ≡ false → KeepsSessions start old source new source_new
  -- Status 0: all lines of the source were answered and told, and the volume is unmounted.
  pub finished : IsTrue old.tells → HasNothingPending old → (capacity : ℕ) (start : Content) → Mounts (content old) capacity start → is_taken (tree_of start) ≡ false → ended ≡ status.Done → FinishesSessions start old source new source_new
  -- Status 4: each whole line that was taken was answered and told. Status 7: each line before the one too many.
  pub stopped : IsTrue old.tells → HasNothingPending old → (capacity : ℕ) (start : Content) → Mounts (content old) capacity start → is_taken (tree_of start) ≡ false → ended ≡ status.Source → StopsSessions start old source new source_new
  pub last : IsTrue old.tells → HasNothingPending old → (capacity : ℕ) (start : Content) → Mounts (content old) capacity start → is_taken (tree_of start) ≡ false → ended ≡ status.TooMany → LastSessions start old source new source_new
  pub end : IsTrue source.tells → ended ≡ status.Done → source_new.left ≡ []
  pub few : IsTrue source.tells → ended ≡ status.Done → length (lines source.left) ≤ 4294967295
