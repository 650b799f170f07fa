-- What is told of a folder that is made, filled, moved into and moved out of, computed.
use Rattle.std.specs.Prelude.{◌≡◌, refl, ℕ, List, [], ◌∷◌, codes}
use Rattle.hfs_language.specs.declared.reply.Change.{Change}
use Rattle.hfs_language.specs.declared.reply.ChangeKind.{ChangeKind}
use Rattle.hfs_language.specs.declared.reply.ChangeKind.TheVariants as change
use Rattle.watchers.specs.declared.folders.FolderAt.{FolderAt}
use Rattle.watchers.specs.Under.{under}

abbrev told : ℕ → ChangeKind → ℕ → ℕ → List ℕ → Change
told line kind id parent name = record { line = line; kind = kind; id = id; parent = parent; name = name }

abbrev root : List FolderAt
root = record { id = 2; parent = 1 } ∷ []

-- a folder is made, a file in it, one beside it, and that one is moved into it: the second and the fourth lie under the folder
changes_under_a_folder : under 18 root (told 0 change.Made 18 2 (codes "a") ∷ told 1 change.Made 19 18 (codes "f") ∷ told 2 change.Made 20 2 (codes "g") ∷ told 3 change.Moved 20 18 (codes "g") ∷ [])
    ≡ told 1 change.Made 19 18 (codes "f") ∷ told 3 change.Moved 20 18 (codes "g") ∷ []
unfolding under
changes_under_a_folder = refl

-- a folder is made beside it and moved into it, with what is made in it before and behind; it is moved out again, and then what is made in it lies elsewhere
a_folder_is_moved : under 18 root (told 0 change.Made 18 2 (codes "a") ∷ told 1 change.Made 19 2 (codes "b") ∷ told 2 change.Made 20 19 (codes "f") ∷ told 3 change.Moved 19 18 (codes "b") ∷ told 4 change.Made 21 19 (codes "g") ∷ told 5 change.Moved 19 2 (codes "b") ∷ told 6 change.Made 22 19 (codes "h") ∷ [])
    ≡ told 3 change.Moved 19 18 (codes "b") ∷ told 4 change.Made 21 19 (codes "g") ∷ []
unfolding under
a_folder_is_moved = refl
