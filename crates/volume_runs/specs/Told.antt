-- What watchers are told of a run.
use Rattle.std.specs.Prelude.{ℕ, ◌+◌, List, [], ◌∷◌, ◌++◌, Option, Some, None, Result, Ok, Err, if◌then◌else◌}
use Rattle.hfs_language.specs.declared.command.Command.{Command}
use Rattle.hfs_language.specs.declared.command.Command.TheVariants as command
use Rattle.hfs_language.specs.declared.refusal.Refusal.{Refusal}
use Rattle.hfs_language.specs.declared.reply.Change.{Change}
use Rattle.hfs_language.specs.declared.reply.ChangeKind.{ChangeKind}
use Rattle.hfs_language.specs.declared.reply.ChangeKind.TheVariants as change
use Rattle.hfs_model.specs.declared.plain.PlainEntry.{PlainEntry}
use Rattle.hfs_model.specs.declared.plain.PlainTree.{PlainTree}
use Rattle.hfs_model.specs.Kinds.{to_symlink}
use Rattle.hfs_model.specs.declared.kinds.KindEdit.{KindEdit}
use Rattle.hfs_model.specs.declared.kinds.KindEdit.TheVariants as kinds
use Rattle.hfs_model.specs.Step.{Place, to_make, to_rm, to_rmdir, to_mv, to_ln, reached, is_same_file}
use Rattle.hfs_volume.specs.declared.asked.Asked.{Asked}
use Rattle.hfs_volume.specs.declared.asked.Asked.TheVariants.{Kind, Plain}
use Rattle.volume_runs.specs.Run.{Entry, is_ok, wanted_by}
use Rattle.hfs_volume.specs.TreeOf.{tree_of}

-- a change of what an entry names, at its place
abbrev pub of_entry : ℕ → ChangeKind → Result PlainEntry Refusal → List Change
of_entry line kind (Ok entry) = record { line = line; kind = kind; id = entry.id; parent = entry.parent; name = entry.name } ∷ []
of_entry line kind (Err why) = []

-- a change that makes a name at a place, of this CNID
abbrev pub of_place : ℕ → ChangeKind → ℕ → Place → List Change
of_place line kind id at = record { line = line; kind = kind; id = id; parent = at.folder; name = at.name } ∷ []

-- what watchers are told of a `mkdir` or `create`
abbrev pub of_made : ℕ → PlainTree → Result Place Refusal → List Change
of_made line tree (Ok at) = of_place line change.Made tree.next_id at
of_made line tree (Err why) = []

-- what watchers are told of an `ln`, or of an `mv` that changes something
abbrev pub of_pair : ℕ → ChangeKind → Result (PlainEntry × Place) Refusal → List Change
of_pair line kind (Ok pair) = of_place line kind pair.0.id pair.1
of_pair line kind (Err why) = []

-- what watchers are told of an `mv`: nothing where a file is moved onto itself, and no removal of a file that it replaces
abbrev pub of_moved : ℕ → Result (PlainEntry × Place) Refusal → List Change
of_moved line (Ok pair) = if is_same_file pair.0 pair.1.found then [] else of_pair line change.Moved (Ok pair)
of_moved line (Err why) = []

-- what a command changes on a tree, where its step doesn't refuse it; for the root the parent is 1 and the name is empty
abbrev pub changes_of : ℕ → PlainTree → Command → List Change
changes_of line tree (command.Mkdir path) = of_made line tree (to_make tree path)
changes_of line tree (command.Create path) = of_made line tree (to_make tree path)
changes_of line tree (command.Rm path) = of_entry line change.Removed (to_rm tree path)
changes_of line tree (command.Rmdir path) = of_entry line change.Removed (to_rmdir tree path)
changes_of line tree (command.Mv from to) = of_moved line (to_mv tree from to)
changes_of line tree (command.Ln from to) = of_pair line change.Linked (to_ln tree from to)
changes_of line tree (command.Write path from []) = []
changes_of line tree (command.Write path from (byte ∷ value)) = of_entry line change.Content (reached tree path)
changes_of line tree (command.Trunc path size) = of_entry line change.Content (reached tree path)
changes_of line tree (command.Chmod path mode) = of_entry line change.Mode (reached tree path)
changes_of line tree (command.SetAttr path name value) = of_entry line change.Attribute (reached tree path)
changes_of line tree (command.DelAttr path name) = of_entry line change.Attribute (reached tree path)
changes_of line tree _ = []

-- what a command on a symbolic link or a resource fork changes on a tree, where its step doesn't refuse it: a link is made, or a file's content changes
abbrev pub kind_changes_of : ℕ → PlainTree → KindEdit → List Change
kind_changes_of line tree (kinds.Symlink path value) = of_made line tree (to_symlink tree path value)
kind_changes_of line tree (kinds.ResourceWrite path from []) = []
kind_changes_of line tree (kinds.ResourceWrite path from (byte ∷ value)) = of_entry line change.Content (reached tree path)
kind_changes_of line tree (kinds.ResourceRead path from long) = []

-- what is changed that was asked for, where its step doesn't refuse it
abbrev pub changes_asked : ℕ → PlainTree → Option Asked → List Change
changes_asked line tree None = []
changes_asked line tree (Some (Plain asked)) = changes_of line tree asked
changes_asked line tree (Some (Kind asked)) = kind_changes_of line tree asked

-- what an entry of a run tells: its change where it was answered with ok
abbrev pub changes_by : ℕ → Entry → List Change
changes_by line entry = if is_ok entry.reply then changes_asked line (tree_of entry.before) (wanted_by entry) else []

-- what a run tells, whose first line has this number
unfoldable pub changes_in : ℕ → List Entry → List Change
changes_in line [] = []
changes_in line (entry ∷ run) = changes_by line entry ++ changes_in (line + 1) run
