-- A tree whose keeping folder is the sessions' own, and on which each file that is open has an entry.
use Rattle.std.specs.Prelude.{◌≡◌, ◌<◌, ◌^◌, ℕ, List, true, false, Contains}
use Rattle.hfs_model.specs.Plain.{IsPlainTree, is_at}
use Rattle.hfs_model.specs.declared.plain.PlainEntry.{PlainEntry}
use Rattle.hfs_model.specs.declared.plain.PlainTree.{PlainTree}
use Rattle.open_files.specs.Keeping.{is_own, keepers, keeping_name}
use Rattle.open_files.specs.declared.act.OpenFile.{OpenFile}

-- It is a plain tree of which no id that isn't drawn yet is in use, and ids are few enough to be told apart by their digits. What has the keeping folder's
-- name in the root is a folder, and each entry of that is a file's, under the file's id.
pub record IsOwnTree (tree : PlainTree) : Type 0 where
  pub plain : IsPlainTree tree
  pub drawn : (entry : PlainEntry) → Contains tree.entries entry → (entry.id < tree.next_id) × (entry.parent < tree.next_id)
  pub root_drawn : 2 < tree.next_id
  pub few : tree.next_id < 2 ^ 64
  pub folder : (entry : PlainEntry) → Contains tree.entries entry → is_at 2 keeping_name entry ≡ true → entry.folder ≡ true
  pub own : (entry : PlainEntry) → Contains (keepers tree) entry → is_own entry ≡ true

-- an entry names this file
abbrev pub HasEntry : PlainTree → ℕ → Type 0
HasEntry tree file = (entry : PlainEntry) × Contains tree.entries entry × (entry.id ≡ file) × (entry.folder ≡ false)

-- each file that is open has an entry
abbrev pub HaveEntries : PlainTree → List OpenFile → Type 0
HaveEntries tree handles = (opened : OpenFile) → Contains handles opened → HasEntry tree opened.file
