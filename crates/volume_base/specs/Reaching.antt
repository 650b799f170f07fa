-- What a path reaches, by the pairs of the catalog's tree.
use Rattle.std.specs.Prelude.{ℕ, List, [], ◌∷◌, Option, None, Some, Result, Ok, Err}
use Rattle.btree_node.specs.Levels.{Pair}
use Rattle.cat_records.specs.declared.record.CatRecord.{CatRecord}
use Rattle.cat_records.specs.declared.record.CatRecord.TheVariants.{Folder, File, Thread}
use Rattle.catalog.specs.Pairs.{value_at}
use Rattle.hfs_language.specs.declared.refusal.Refusal.{Refusal}
use Rattle.hfs_language.specs.declared.refusal.Refusal.TheVariants as refusal
use Rattle.hfs_model.specs.Step.{then_}
use Rattle.volume_base.specs.declared.reaching.Reached.{Reached}
use Rattle.volume_base.specs.declared.reaching.Reached.TheVariants as reached

-- what the record of a name stands for; a thread is no name's
abbrev pub named : Option CatRecord → Result Reached Refusal
named None = Err refusal.NotFound
named (Some (Folder folder)) = Ok (reached.Folder folder)
named (Some (File file)) = Ok (reached.File file)
named (Some (Thread thread)) = Err refusal.NotFound

-- the CNID of a folder that was reached
abbrev pub folder_reached : Reached → Result ℕ Refusal
folder_reached reached.Root = Ok 2
folder_reached (reached.Folder folder) = Ok folder.fields.id
folder_reached (reached.File file) = Err refusal.NotFolder

-- what a name in it stands for
abbrev pub child_in : List Pair → Reached → List ℕ → Result Reached Refusal
child_in pairs at name = then_ (folder_reached at) (λ id. named (value_at pairs id name))

-- what a path reaches from there
abbrev pub walk_in : List Pair → Reached → List (List ℕ) → Result Reached Refusal
walk_in pairs at [] = Ok at
walk_in pairs at (name ∷ path) = then_ (child_in pairs at name) (λ next. walk_in pairs next path)

-- the CNID of the folder that a path reaches
abbrev pub folder_in : List Pair → List (List ℕ) → Result ℕ Refusal
folder_in pairs path = then_ (walk_in pairs reached.Root path) folder_reached
