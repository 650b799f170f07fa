-- Replies to commands, one after the other.
use Rattle.std.specs.Prelude.{ℕ, ◌+◌, ◌*◌, zero, suc, Bool, true, false, List, [], ◌∷◌, Result, Ok, replicate}
use Rattle.hfs_language.specs.declared.command.Command.{Command}
use Rattle.hfs_language.specs.declared.command.Command.TheVariants as command
use Rattle.hfs_language.specs.declared.refusal.Refusal.{Refusal}
use Rattle.hfs_language.specs.declared.reply.Reply.{Reply}
use Rattle.hfs_language.specs.declared.reply.Reply.TheVariants as reply
use Rattle.hfs_language.specs.declared.reply.ListedName.{ListedName}
use Rattle.hfs_model.specs.declared.plain.PlainTree.{PlainTree}
use Rattle.hfs_model.specs.Step.{step_line}

-- the replies to lines that were read, on a tree
abbrev pub replies : PlainTree → List (Result Command Refusal) → List Reply
replies tree [] = []
replies tree (line ∷ rest) = (step_line tree line).0 ∷ replies (step_line tree line).1 rest

-- the tree after them
abbrev pub tree_after : PlainTree → List (Result Command Refusal) → PlainTree
tree_after tree [] = tree
tree_after tree (line ∷ rest) = tree_after (step_line tree line).1 rest

-- so many replies `ok`
abbrev pub oks : ℕ → List Reply
oks count = replicate count reply.Ok

abbrev pub refused : Refusal → Reply
refused why = reply.No why

-- the facts of a folder, and of a file with so many names, that no date has
abbrev pub folder_facts : ℕ → ℕ → ℕ → Reply
folder_facts id size mode = reply.Facts (record { folder = true; id = id; size = size; links = 0; mode = mode; created = 0; changed = 0; attribute = 0 })

abbrev pub file_facts : ℕ → ℕ → ℕ → ℕ → Reply
file_facts id size links mode = reply.Facts (record { folder = false; id = id; size = size; links = links; mode = mode; created = 0; changed = 0; attribute = 0 })

abbrev pub named : Bool → List ℕ → ListedName
named folder name = record { name = name; folder = folder }

-- two files that grow in turn by a block, from so many blocks on, so many times
abbrev pub grown_in_turn : List ℕ → List ℕ → ℕ → ℕ → List (Result Command Refusal)
grown_in_turn one other blocks zero = []
grown_in_turn one other blocks (suc times) =
    Ok (command.Trunc (one ∷ []) ((blocks + 1) * 4096)) ∷ Ok (command.Trunc (other ∷ []) ((blocks + 1) * 4096)) ∷ grown_in_turn one other (blocks + 1) times
