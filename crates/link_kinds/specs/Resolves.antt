-- Where a path leads that follows symbolic links.
use Rattle.std.specs.Prelude.{ℕ, ◌==◌, ◌&&◌, ◌||◌, Bool, not, zero, suc, List, [], ◌∷◌, ◌++◌, Option, Some, None, Result, Ok, Err, bytes_eq, if◌then◌else◌}
use Rattle.hfs_model.specs.declared.plain.PlainEntry.{PlainEntry}
use Rattle.hfs_model.specs.declared.plain.PlainNode.{PlainNode}
use Rattle.hfs_model.specs.declared.plain.PlainTree.{PlainTree}
use Rattle.hfs_model.specs.Extras.{is_link}
use Rattle.hfs_model.specs.Plain.{entry_at, node_at}
use Rattle.hfs_model.specs.Step.{is_private_name}
use Rattle.open_files.specs.Keeping.{keeping_name}
use Rattle.link_kinds.specs.declared.kinds.Folder.{Folder}
use Rattle.hfs_model.specs.declared.kinds.Sight.{Sight}
use Rattle.hfs_model.specs.declared.kinds.Sight.TheVariants as sight
use Rattle.link_kinds.specs.declared.kinds.KindRefusal.{KindRefusal}
use Rattle.link_kinds.specs.declared.kinds.KindRefusal.TheVariants as refusal
use Rattle.hfs_model.specs.Targets.{components_of, is_from_root, is_target}

-- how many links are followed at most
abbrev pub most_steps : ℕ
most_steps = 16

-- ---- what a name is

-- a name of the root that isn't seen: the volume's own, and the keeping folder's
abbrev pub is_unseen : ℕ → List ℕ → Bool
is_unseen parent name = (parent == 2) && (is_private_name name || bytes_eq name keeping_name)

-- a link's target is its bytes
abbrev pub file_seen : Option PlainNode → Sight
file_seen None = sight.File
file_seen (Some node) = if is_link node then sight.Link node.bytes else sight.File

-- what an entry is seen as, if there is one
abbrev pub sight_of : PlainTree → Option PlainEntry → Sight
sight_of tree None = sight.Absent
sight_of tree (Some entry) = if entry.folder then sight.Folder entry.id else file_seen (node_at tree entry.id)

-- what stands under a name in a folder
abbrev pub sight_at : PlainTree → ℕ → List ℕ → Sight
sight_at tree parent name = if is_unseen parent name then sight.Absent else sight_of tree (entry_at tree parent name)

-- ---- walks

-- the folder that the way has come to; the last one stands first
abbrev pub here : List Folder → ℕ
here [] = 2
here (last ∷ way) = last.id

-- the way without its last folder; at the root it stays
abbrev pub without_last : List Folder → List Folder
without_last [] = []
without_last (last ∷ way) = way

-- the names of the way, from the root
abbrev pub names_to : List Folder → List (List ℕ) → List (List ℕ)
names_to [] behind = behind
names_to (last ∷ way) behind = names_to way (last.name ∷ behind)

-- a component that leads nowhere: an empty one, and a dot
abbrev pub stays : List ℕ → Bool
stays name = bytes_eq name [] || bytes_eq name (46 ∷ [])

-- two dots
abbrev pub goes_up : List ℕ → Bool
goes_up name = bytes_eq name (46 ∷ 46 ∷ [])

-- what stands under a component is looked at where it leads neither nowhere nor up
abbrev pub is_looked_at : List ℕ → Bool
is_looked_at name = not (stays name) && not (goes_up name)

-- the way behind a component that isn't looked at
abbrev pub turned : List ℕ → List Folder → List Folder
turned name way = if stays name then way else without_last way

-- Where the components of one text lead: to a result, or to a link, behind which more of them are left.
pub data Reach : Type 0 where
  result : Result (List (List ℕ)) KindRefusal → Reach
  at_link : List Folder → List ℕ → List (List ℕ) → Reach

-- a file ends a path, and isn't a folder of it
abbrev pub ends : List Folder → List ℕ → List (List ℕ) → Reach
ends way name [] = result (Ok (names_to way (name ∷ [])))
ends way name (other ∷ left) = result (Err refusal.NotFolder)

-- what a name that is looked at makes of the way, and how it goes on behind a folder
abbrev pub by_sight : Sight → List Folder → List ℕ → List (List ℕ) → (List Folder → Reach) → Reach
by_sight sight.Absent way name left behind = result (Err refusal.NotFound)
by_sight (sight.Folder id) way name left behind = behind (record { name = name; id = id } ∷ way)
by_sight sight.File way name left behind = ends way name left
by_sight (sight.Link bytes) way name left behind = at_link way bytes left

-- through components, as long as there is no link; `look` tells what stands under a name in a folder
abbrev pub reach : (ℕ → List ℕ → Sight) → List Folder → List (List ℕ) → Reach
reach look way [] = result (Ok (names_to way []))
reach look way (name ∷ left) = if stays name then reach look way left
    else if goes_up name then reach look (without_last way) left
    else by_sight (look (here way) name) way name left (λ further. reach look further left)

-- behind a link its target's components come before those that are left, from the root where the target begins there
abbrev pub follows : Reach → (List Folder → List (List ℕ) → Result (List (List ℕ)) KindRefusal) → Result (List (List ℕ)) KindRefusal
follows (result answer) behind = answer
follows (at_link way bytes left) behind = if is_target bytes then behind (if is_from_root bytes then [] else way) (components_of bytes ++ left) else Err refusal.BadTarget

-- where no link may be followed any more
abbrev pub at_last : Reach → Result (List (List ℕ)) KindRefusal
at_last (result answer) = answer
at_last (at_link way bytes left) = Err (refusal.TooManySteps most_steps)

-- where components lead that have led so far, when so many links may still be followed
abbrev pub go_on : (ℕ → List ℕ → Sight) → ℕ → Reach → Result (List (List ℕ)) KindRefusal
go_on look zero reached = at_last reached
go_on look (suc more) reached = follows reached (λ way left. go_on look more (reach look way left))

-- Where components lead from a way, when so many links may still be followed.
abbrev pub resolve : (ℕ → List ℕ → Sight) → ℕ → List Folder → List (List ℕ) → Result (List (List ℕ)) KindRefusal
resolve look more way left = go_on look more (reach look way left)

-- Where a path leads: to the names of a folder or file from the root, none of them a link, or nowhere for this reason.
abbrev pub resolves : PlainTree → List (List ℕ) → Result (List (List ℕ)) KindRefusal
resolves tree path = resolve (sight_at tree) most_steps [] path
