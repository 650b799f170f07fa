-- What is asked of the keeping folder before a run, and what the replies say of it.
use Rattle.std.specs.Prelude.{◌≡◌, ◌++◌, ◌&&◌, ◌==◌, ℕ, Bool, true, false, not, List, [], ◌∷◌, drop, length, map, reverse, slice_get, option_to_list, Option, Some, None, is_some, if◌then◌else◌}
use Rattle.std.specs.Option.{option_map}
use Rattle.hfs_language.specs.declared.command.Command.{Command}
use Rattle.hfs_language.specs.declared.command.Command.TheVariants as command
use Rattle.hfs_language.specs.declared.reply.Facts.{Facts}
use Rattle.hfs_language.specs.declared.reply.ListedName.{ListedName}
use Rattle.hfs_language.specs.declared.reply.Reply.{Reply}
use Rattle.hfs_language.specs.declared.reply.Reply.TheVariants as reply
use Rattle.hfs_model.specs.declared.plain.PlainTree.{PlainTree}
use Rattle.volume_look.specs.Talk.{Heard, Talk}
use Rattle.open_files.specs.Keeping.{is_own_keeper, is_taken, keeping_name, keeping_path, release, releases}
use Rattle.session_lines.specs.declared.taken.Told.{Told}

-- ---- what is asked

-- whether it is a folder that the reply tells facts of
abbrev pub folder_kind : Reply → Option Bool
folder_kind reply.Ok = None
folder_kind (reply.Listing entries) = None
folder_kind (reply.Facts facts) = Some facts.folder
folder_kind (reply.Content bytes) = None
folder_kind (reply.Gauge gauge) = None
folder_kind (reply.No why) = None

-- the folder's entries are asked for where it is one
abbrev pub entries_command : Option Bool → Option Command
entries_command None = None
entries_command (Some false) = None
entries_command (Some true) = Some (command.Ls keeping_path)

-- what this name stands for in the folder
abbrev pub entry_command : ListedName → Command
entry_command entry = command.Stat (keeping_name ∷ entry.name ∷ [])

-- of the entries that were listed, this one is asked for
abbrev pub entry_at : Reply → ℕ → Option Command
entry_at reply.Ok at = None
entry_at (reply.Listing entries) at = option_map entry_command (slice_get entries at)
entry_at (reply.Facts facts) at = None
entry_at (reply.Content bytes) at = None
entry_at (reply.Gauge gauge) at = None
entry_at (reply.No why) at = None

-- what is asked next behind these replies: the folder first, then its entries, then each of them
abbrev pub next_of : List Told → Option Command
next_of [] = Some (command.Stat keeping_path)
next_of (folder ∷ []) = entries_command (folder_kind folder.reply)
next_of (folder ∷ entries ∷ each) = entry_at entries.reply (length each)

-- ---- the talk

-- what was asked before each of these replies was heard, behind others
abbrev pub asked_before : List Told → List Told → List Command
asked_before past [] = []
asked_before past (told ∷ more) = option_to_list (next_of past) ++ asked_before (past ++ told ∷ []) more

abbrev pub heard_of : Told → Heard
heard_of told = record { command = told.command; reply = told.reply }

-- what is seen of who heard this, and may wait for one reply more
abbrev pub talk_of : List Told → Bool → Talk
talk_of heard waiting = record {
  tells = true;
  asked = asked_before [] heard ++ (if waiting then option_to_list (next_of heard) else []);
  heard = map heard_of heard;
  ended = not waiting && not (is_some (next_of heard));
}

-- nothing was asked
abbrev pub begun : Talk
begun = talk_of [] false

-- ---- what the replies say

-- the file that an entry keeps, where it is one as sessions make it
abbrev pub own_by : List (List ℕ) → Facts → Option ℕ
own_by (folder ∷ name ∷ []) facts = if is_own_keeper facts.folder name facts.id then Some facts.id else None
own_by _ facts = None

abbrev pub own_told : Command → Reply → Option ℕ
own_told (command.Stat path) (reply.Facts facts) = own_by path facts
own_told _ _ = None

abbrev pub own_file : Told → Option ℕ
own_file told = own_told told.command told.reply

abbrev pub with_file : Option ℕ → Option (List ℕ) → Option (List ℕ)
with_file None files = None
with_file (Some file) None = None
with_file (Some file) (Some files) = Some (file ∷ files)

-- the files that these entries keep, if each is one as sessions make it
abbrev pub all_own : List Told → Option (List ℕ)
all_own [] = Some []
all_own (told ∷ more) = with_file (own_file told) (all_own more)

abbrev pub left_behind : Option Bool → List Told → Option (List ℕ)
left_behind None heard = Some []
left_behind (Some false) heard = None
left_behind (Some true) heard = all_own (drop 2 heard)

-- the files that the folder keeps, or none where it isn't the sessions' own
abbrev pub left_by : List Told → Option (List ℕ)
left_by [] = Some []
left_by (folder ∷ each) = left_behind (folder_kind folder.reply) (folder ∷ each)

-- What was found of the tree's keeping folder: it isn't the sessions' own, or it keeps these files, the last one first.
abbrev pub FindsFiles : PlainTree → Option (List ℕ) → Type 0
FindsFiles tree None = is_taken tree ≡ true
FindsFiles tree (Some files) = (is_taken tree ≡ false) × (releases tree ≡ map release (reverse files))
