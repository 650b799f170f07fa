-- Runs: commands, each with its reply and the contents before and after it.
use Rattle.std.specs.Prelude.{◌≡◌, ◌≢◌, ◌⊎◌, ◌<◌, ◌≤◌, ℕ, ◌+◌, ◌==◌, nat_lt, Bool, true, false, List, [], ◌∷◌, ◌++◌, length, map, take, drop, slice_index, All, Option, Some, None, Result, Ok, Err, IsTrue, ◌||◌, if◌then◌else◌}
use Rattle.jnl_format.specs.Recovery.{Content}
use Rattle.hfs_language.specs.Language.{command_of}
use Rattle.hfs_language.specs.Text.{reply_text}
use Rattle.hfs_language.specs.declared.command.Command.{Command}
use Rattle.hfs_language.specs.declared.command.Command.TheVariants as command
use Rattle.hfs_language.specs.declared.refusal.Refusal.{Refusal}
use Rattle.hfs_language.specs.declared.refusal.Refusal.TheVariants as refusal
use Rattle.hfs_language.specs.declared.reply.Reply.{Reply}
use Rattle.hfs_language.specs.declared.reply.Reply.TheVariants as reply
use Rattle.hfs_model.specs.Kinds.{kind_refuses, kind_told}
use Rattle.hfs_model.specs.declared.kinds.KindEdit.{KindEdit}
use Rattle.hfs_model.specs.declared.kinds.KindEdit.TheVariants as kinds
use Rattle.hfs_volume.specs.declared.asked.Asked.{Asked}
use Rattle.hfs_volume.specs.declared.asked.Asked.TheVariants.{Kind, Plain}
use Rattle.hfs_volume.specs.KindWeight.{fork_of_edit, kind_data_of, kind_only_reads, kind_weight}
use Rattle.hfs_volume.specs.declared.cost.Cost.TheVariants as cost
use Rattle.hfs_model.specs.declared.plain.PlainNode.{PlainNode}
use Rattle.hfs_model.specs.declared.plain.PlainTree.{PlainTree}
use Rattle.hfs_model.specs.Step.{step_line, refuses, to_file, only_reads}
use Rattle.hfs_volume.specs.Content.{VolumeState, volume_of}
use Rattle.hfs_volume.specs.Sound.{IsSound}
use Rattle.hfs_volume.specs.TreeOf.{tree_of}
use Rattle.hfs_volume.specs.Weight.{changes_nothing, data_of, weight, gauge, edits_of, needs_cut, needs_cut_in}
use Rattle.hfs_volume.specs.Data.{PutsInFork, PutsInForkOf, PutsInValues}
use Rattle.hfs_volume.specs.Reclaim.{GrowsTrees, SameValues}
use Rattle.volume_runs.specs.Rest.{Rests}

-- ---- entries

-- A command that was served: its line or, where no line of the plain language asked for it, the command itself; its reply, and what the volume stood
-- for before and after it.
pub record Entry : Type 0 where
  pub line : List ℕ
  pub own : Option Asked
  pub reply : Reply
  pub before : Content
  pub after : Content

-- what was asked for in the plain language, or why no command of it was: a command on a link or a resource fork is none
abbrev pub asked_in : Option Asked → List ℕ → Result Command Refusal
asked_in None line = command_of line
asked_in (Some (Plain asked)) line = Ok asked
asked_in (Some (Kind asked)) line = Err refusal.BadCommand

-- the same of an entry
abbrev pub asked_by : Entry → Result Command Refusal
asked_by entry = asked_in entry.own entry.line

-- the command, if one was spelled
abbrev pub spelled : Result Command Refusal → Option Asked
spelled (Ok asked) = Some (Plain asked)
spelled (Err why) = None

-- the command that was served, if one was asked for
abbrev pub wanted_in : Option Asked → List ℕ → Option Asked
wanted_in None line = spelled (command_of line)
wanted_in (Some asked) line = Some asked

-- the same of an entry
abbrev pub wanted_by : Entry → Option Asked
wanted_by entry = wanted_in entry.own entry.line

-- the reply of a command's step, but that `df` is answered by the volume
abbrev pub reply_to : ℕ → Content → Result Command Refusal → Reply
reply_to capacity content (Ok command.Df) = reply.Gauge (gauge capacity (volume_of content))
reply_to capacity content asked = (step_line (tree_of content) asked).0

-- A command that its step doesn't refuse was done: nothing was missing for it, no tree had to grow for it any more, and no blocks past the size
-- stood in its way; no tree has other nodes, of the forks only the one that it writes has other blocks, and of the values of attributes only those
-- that it sets or drops.
pub record IsDone (capacity : ℕ) (asked : Command) (old new : Content) : Type 0 where
  pub load : ℕ
  pub affords : weight capacity (volume_of old) (tree_of old) asked ≡ cost.Load load (0 ∷ 0 ∷ 0 ∷ [])
  pub no_surplus : needs_cut (volume_of old) (data_of (tree_of old) asked) ≡ false
  pub grows : GrowsTrees (0 ∷ 0 ∷ 0 ∷ []) (volume_of old) (volume_of new)
  pub forks : PutsInFork (data_of (tree_of old) asked) (volume_of old) (volume_of new)
  pub values : PutsInValues (tree_of old) asked (volume_of old) (volume_of new)
  pub reads : IsTrue (only_reads asked || changes_nothing (tree_of old) asked) → new ≡ old

-- what a line does to a content: nothing where it is refused
abbrev pub DoesLine : ℕ → Result Command Refusal → Content → Content → Type 0
DoesLine capacity (Ok asked) old new = (IsTrue (refuses (tree_of old) (Ok asked)) → new ≡ old) × (refuses (tree_of old) (Ok asked) ≡ false → IsDone capacity asked old new)
DoesLine capacity (Err why) old new = new ≡ old

-- The line has its reply and its tree.
pub record IsAnswered (capacity : ℕ) (entry : Entry) : Type 0 where
  pub reply_is : entry.reply ≡ reply_to capacity entry.before (asked_by entry)
  pub tree : tree_of entry.after ≡ (step_line (tree_of entry.before) (asked_by entry)).1
  pub does : DoesLine capacity (asked_by entry) entry.before entry.after

-- The step doesn't refuse the command, but a resource is missing for it.
pub record LacksResource (capacity : ℕ) (entry : Entry) : Type 0 where
  pub asked : Command
  pub is_asked : asked_by entry ≡ Ok asked
  pub no_refusal : refuses (tree_of entry.before) (Ok asked) ≡ false
  pub why : Refusal
  pub weighs : weight capacity (volume_of entry.before) (tree_of entry.before) asked ≡ cost.Refused why
  pub reply_is : entry.reply ≡ reply.No why
  pub same : entry.after ≡ entry.before

-- Memory was missing, and nothing was changed.
pub record LacksMemory (capacity : ℕ) (entry : Entry) : Type 0 where
  pub reply_is : entry.reply ≡ reply.No refusal.OutOfMemory
  pub same : entry.after ≡ entry.before

-- ---- commands on symbolic links and resource forks

-- `rwrite` of no byte changes nothing
abbrev pub puts_nothing : KindEdit → Bool
puts_nothing (kinds.Symlink path value) = false
puts_nothing (kinds.ResourceWrite path from value) = length value == 0
puts_nothing (kinds.ResourceRead path from long) = false

-- A command that its step doesn't refuse was done: nothing was missing for it, no tree had to grow for it any more, and no blocks past the size
-- stood in its way; no tree has other nodes, of the forks only the one that it puts data into has other blocks, and each value has its own.
pub record IsKindDone (capacity : ℕ) (asked : KindEdit) (old new : Content) : Type 0 where
  pub load : ℕ
  pub affords : kind_weight capacity (volume_of old) (tree_of old) asked ≡ cost.Load load (0 ∷ 0 ∷ 0 ∷ [])
  pub no_surplus : needs_cut_in (fork_of_edit asked) (volume_of old) (kind_data_of (tree_of old) asked) ≡ false
  pub grows : GrowsTrees (0 ∷ 0 ∷ 0 ∷ []) (volume_of old) (volume_of new)
  pub forks : PutsInForkOf (fork_of_edit asked) (kind_data_of (tree_of old) asked) (volume_of old) (volume_of new)
  pub values : SameValues (volume_of old) (volume_of new)
  pub reads : IsTrue (kind_only_reads asked || puts_nothing asked) → new ≡ old

-- The command has its reply and its tree.
pub record IsKindAnswered (capacity : ℕ) (asked : KindEdit) (entry : Entry) : Type 0 where
  pub reply_is : entry.reply ≡ (kind_told (tree_of entry.before) asked).0
  pub tree : tree_of entry.after ≡ (kind_told (tree_of entry.before) asked).1
  pub refused : IsTrue (kind_refuses (tree_of entry.before) asked) → entry.after ≡ entry.before
  pub does : kind_refuses (tree_of entry.before) asked ≡ false → IsKindDone capacity asked entry.before entry.after

-- The step doesn't refuse the command, but a resource is missing for it.
pub record KindLacksResource (capacity : ℕ) (asked : KindEdit) (entry : Entry) : Type 0 where
  pub no_refusal : kind_refuses (tree_of entry.before) asked ≡ false
  pub why : Refusal
  pub weighs : kind_weight capacity (volume_of entry.before) (tree_of entry.before) asked ≡ cost.Refused why
  pub reply_is : entry.reply ≡ reply.No why
  pub same : entry.after ≡ entry.before

-- ---- entries of a run

-- how many attributes a command removes or sets
abbrev pub attribute_edits : PlainTree → Command → ℕ
attribute_edits tree asked = (edits_of tree asked).attributes

-- a command of the plain language, or a line that spells none, was answered, or something was missing for it
abbrev pub IsPlainServed : ℕ → Entry → Type 0
IsPlainServed capacity entry = IsAnswered capacity entry ⊎ (LacksResource capacity entry ⊎ LacksMemory capacity entry)

-- so was one on a link or a resource fork
abbrev pub IsKindServed : ℕ → KindEdit → Entry → Type 0
IsKindServed capacity asked entry = IsKindAnswered capacity asked entry ⊎ (KindLacksResource capacity asked entry ⊎ LacksMemory capacity entry)

-- what an entry may be for a command that no line of the plain language asked for, or for its line where there is none
abbrev pub IsServedBy : ℕ → Option Asked → Entry → Type 0
IsServedBy capacity None entry = IsPlainServed capacity entry
IsServedBy capacity (Some (Plain asked)) entry = IsPlainServed capacity entry
IsServedBy capacity (Some (Kind asked)) entry = IsKindServed capacity asked entry

-- what an entry of a run may be
pub record IsServed (capacity : ℕ) (entry : Entry) : Type 0 where
  pub sound_before : IsSound entry.before
  pub sound_after : IsSound entry.after
  pub is : IsServedBy capacity entry.own entry

-- ---- runs

-- the file that a command shrinks
abbrev pub shrunk_by : PlainTree → Result Command Refusal → Option ℕ
shrunk_by tree (Ok (command.Trunc path size)) = shrunk_to (to_file tree path)
  where
    shrunk_to : Result PlainNode Refusal → Option ℕ
    shrunk_to (Ok file) = if nat_lt size (length file.bytes) then Some file.id else None
    shrunk_to (Err why) = None
shrunk_by tree asked = None

-- the file that was shrunk last: this one, or else the one before
abbrev pub or_before : Option ℕ → Option ℕ → Option ℕ
or_before None old = old
or_before (Some id) old = Some id

-- whether a reply is `ok` alone
abbrev pub is_ok : Reply → Bool
is_ok reply.Ok = true
is_ok _ = false

-- the file that was shrunk last, after an entry
abbrev pub shrunk_after : Option ℕ → Entry → Option ℕ
shrunk_after shrunk entry = if is_ok entry.reply then or_before (shrunk_by (tree_of entry.before) (asked_by entry)) shrunk else shrunk

-- Each entry of a run follows from the content that the one before it left, or from the first content, by housekeeping ahead of its own command,
-- which comes to rest before anything is done for that.
abbrev pub IsRunFrom : ℕ → Option ℕ → Content → List Entry → Type 0
IsRunFrom capacity shrunk content [] = Unit {0}
IsRunFrom capacity shrunk content (entry ∷ run) =
    Rests capacity shrunk (wanted_by entry) content entry.before × IsServed capacity entry × IsRunFrom capacity (shrunk_after shrunk entry) entry.after run

-- a run from this content, in which no file was shrunk before
abbrev pub IsRun : ℕ → Content → List Entry → Type 0
IsRun capacity content run = IsRunFrom capacity None content run

-- the content after a run
unfoldable pub content_after : Content → List Entry → Content
content_after content [] = content
content_after content (entry ∷ run) = content_after entry.after run

-- the tree after a run
abbrev pub tree_after : Content → List Entry → PlainTree
tree_after content run = tree_of (content_after content run)

-- the file that was shrunk last, after a run
unfoldable pub shrunk_in : Option ℕ → List Entry → Option ℕ
shrunk_in shrunk [] = shrunk
shrunk_in shrunk (entry ∷ run) = shrunk_in (shrunk_after shrunk entry) run

-- each entry of a run is of a line of the plain language
abbrev pub ArePlain : List Entry → Type 0
ArePlain [] = Unit {0}
ArePlain (entry ∷ run) = (entry.own ≡ None) × ArePlain run

-- the lines of a run
abbrev pub lines_of : List Entry → List (List ℕ)
lines_of run = map (λ entry. entry.line) run

-- the texts of its replies, one after the other
unfoldable pub replies_of : List Entry → List ℕ
replies_of [] = []
replies_of (entry ∷ run) = reply_text entry.reply ++ replies_of run
