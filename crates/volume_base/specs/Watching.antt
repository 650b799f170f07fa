-- What watchers are told of a folder or file, by the pairs of the catalog's tree.
use Rattle.std.specs.Prelude.{ℕ, List, Option, Result, Ok}
use Rattle.btree_node.specs.Levels.{Pair}
use Rattle.hfs_language.specs.declared.refusal.Refusal.{Refusal}
use Rattle.hfs_language.specs.declared.reply.Change.{Change}
use Rattle.hfs_language.specs.declared.reply.ChangeKind.{ChangeKind}
use Rattle.hfs_model.specs.Step.{then_}
use Rattle.volume_base.specs.Owning.{owner_in}
use Rattle.volume_base.specs.Reaching.{folder_in}
use Rattle.volume_base.specs.declared.watching.Standing.{Standing}

-- a change with these fields
abbrev pub change_of : ℕ → ChangeKind → (id parent : ℕ) → List ℕ → Change
change_of line kind id parent name = record { line = line; kind = kind; id = id; parent = parent; name = name }

-- what a path stands for, and the folder that another path reaches
abbrev pub standing_in : List Pair → Option ℕ → List (List ℕ) → List (List ℕ) → Result Standing Refusal
standing_in pairs private path above = then_ (owner_in pairs private path) (λ id. then_ (folder_in pairs above) (λ parent. Ok (record { id = id; parent = parent })))
