-- A folder behind the removal of its attributes: it may be removed as before, has none any more, and the tree without it is the same.
use Rattle.std.proofs.Common.{◌≡◌, ℕ, Bool, true, false, not, List, [], ◌∷◌, ◌++◌, length, refl, sym, ◌∙◌, ap, subst}
use Rattle.std.specs.Prelude.{◌==◌, Result, Ok, Err, if◌then◌else◌}
use Rattle.std.specs.Option.{ok_or}
use Rattle.std.specs.List.{flat_map}
use Rattle.sector_disk.specs.Lists.{Content}
use Rattle.btree_node.specs.Levels.{Pair}
use Rattle.hfs_language.specs.declared.command.Command.TheVariants as command
use Rattle.hfs_language.specs.declared.refusal.Refusal.{Refusal}
use Rattle.hfs_language.specs.declared.refusal.Refusal.TheVariants as refusal
use Rattle.hfs_model.specs.Plain.{entry_at, entries_in}
use Rattle.hfs_model.specs.Sorted.{kept}
use Rattle.hfs_model.specs.Step.{child, is_root, removed_folder, root_entry, then_, to_rmdir, unless, walk}
use Rattle.hfs_model.specs.declared.plain.PlainEntry.{PlainEntry}
use Rattle.hfs_model.specs.declared.plain.PlainTree.{PlainTree}
use Rattle.hfs_volume.specs.Commands.{DropsAttributes, RmdirDoes}
use Rattle.hfs_volume.specs.Content.{VolumeState, volume_of}
use Rattle.hfs_volume.specs.Data.{PutsInValues}
use Rattle.hfs_volume.specs.Records.{attribute_of, placed_in}
use Rattle.hfs_volume.specs.Sound.{IsSoundVolume}
use Rattle.hfs_volume.specs.TreeOf.{BytesOf, bytes_in, seen_entry, tree_in, tree_of}
use Rattle.hfs_volume.proofs.Bytes.{file_bytes_are}
use Rattle.volume_base.specs.Removing.{HasNoAttributes, IsLeaving, TakesFolder, folder_at}
use Rattle.volume_base.specs.declared.removing.Leaving.{Leaving}
use Rattle.volume_base.specs.declared.volume.Volume.{Volume}
use Rattle.volume_base.proofs.LeavingFound.{removed_step}
use Rattle.volume_base.proofs.ValuesGiven.{IsGiven}

-- the attributes of a folder or file
abbrev pub owned_by : ℕ → ℕ → List ℕ → Bool
owned_by id number name = number == id

-- ---- none are left

kept_again : (id : ℕ) (pairs : List Pair) → kept (λ pair. not ((attribute_of pair).id == id)) pairs ≡ kept (λ pair. not ((attribute_of pair).id == id)) (kept (λ pair. not ((attribute_of pair).id == id)) pairs)
kept_again id [] = refl
kept_again id (pair ∷ pairs) = by ((attribute_of pair).id == id) refl (kept_again id pairs)
  where
    others : List Pair → List Pair
    others l = kept (λ p. not ((attribute_of p).id == id)) l

    by : (b : Bool) → ((attribute_of pair).id == id) ≡ b → kept (λ p. not ((attribute_of p).id == id)) pairs ≡ kept (λ p. not ((attribute_of p).id == id)) (kept (λ p. not ((attribute_of p).id == id)) pairs)
        → (if not b then pair ∷ [] else []) ++ kept (λ p. not ((attribute_of p).id == id)) pairs ≡ kept (λ p. not ((attribute_of p).id == id)) ((if not b then pair ∷ [] else []) ++ kept (λ p. not ((attribute_of p).id == id)) pairs)
    by true is rest = rest
    by false is rest = ap (λ (l : List Pair). pair ∷ l) rest ∙ sym (ap (λ b. (if not b then pair ∷ [] else []) ++ kept (λ p. not ((attribute_of p).id == id)) (kept (λ p. not ((attribute_of p).id == id)) pairs)) is)

pub none_left : (id : ℕ) (old new : List Pair) → DropsAttributes id old new → HasNoAttributes id new
none_left id old new drops = subst (λ (l : List Pair). DropsAttributes id l l) (sym drops) (kept_again id old)

-- ---- the step

same_walk : (old new : PlainTree) → new.entries ≡ old.entries → (at : PlainEntry) (path : List (List ℕ)) → walk new at path ≡ walk old at path
same_walk old new same at [] = refl
same_walk old new same at (name ∷ path) =
    let step : child new at name ≡ child old at name = λ i. if at.folder then ok_or (entry_at (record old { entries = same i }) at.id name) refusal.NotFound else Err refusal.NotFolder in
    ap (λ r. then_ r (λ next. walk new next path)) step ∙ by (child old at name) (λ next. same_walk old new same next path)
  where
    by : (r : Result PlainEntry Refusal) → ((next : PlainEntry) → walk new next path ≡ walk old next path) → then_ r (λ next. walk new next path) ≡ then_ r (λ next. walk old next path)
    by (Ok next) further = further next
    by (Err why) further = refl

same_rmdir : (old new : PlainTree) → new.entries ≡ old.entries → (path : List (List ℕ)) → to_rmdir new path ≡ to_rmdir old path
same_rmdir old new same path =
    by (unless (is_root path) refusal.Root path) (λ named. ap (λ r. then_ r (λ at. then_ (unless (not at.folder) refusal.NotFolder at) (λ folder. unless (not (length (entries_in new folder.id) == 0)) refusal.NotEmpty folder))) (same_walk old new same root_entry named)
    ∙ (λ i. then_ (walk old root_entry named) (λ at. then_ (unless (not at.folder) refusal.NotFolder at) (λ folder. unless (not (length (entries_in (record old { entries = same i }) folder.id) == 0)) refusal.NotEmpty folder))))
  where
    by : (r : Result (List (List ℕ)) Refusal)
        → ((named : List (List ℕ)) → then_ (walk new root_entry named) (λ at. then_ (unless (not at.folder) refusal.NotFolder at) (λ folder. unless (not (length (entries_in new folder.id) == 0)) refusal.NotEmpty folder))
        ≡ then_ (walk old root_entry named) (λ at. then_ (unless (not at.folder) refusal.NotFolder at) (λ folder. unless (not (length (entries_in old folder.id) == 0)) refusal.NotEmpty folder)))
        → then_ r (λ named. then_ (walk new root_entry named) (λ at. then_ (unless (not at.folder) refusal.NotFolder at) (λ folder. unless (not (length (entries_in new folder.id) == 0)) refusal.NotEmpty folder)))
        ≡ then_ r (λ named. then_ (walk old root_entry named) (λ at. then_ (unless (not at.folder) refusal.NotFolder at) (λ folder. unless (not (length (entries_in old folder.id) == 0)) refusal.NotEmpty folder)))
    by (Ok named) each = each named
    by (Err why) each = refl

-- the folder may be removed as before
pub leaving_still : (old new : PlainTree) (at : Leaving) (name : List ℕ) → new.entries ≡ old.entries → IsLeaving old at name → IsLeaving new at name
leaving_still old new at name same leaving = record { path = leaving.path; allowed = same_rmdir old new same leaving.path ∙ leaving.allowed }

-- entries are those of the catalog
same_entries : (lists other : VolumeState) (bytes_of : BytesOf) → lists.catalog_pairs ≡ other.catalog_pairs → (tree_in lists bytes_of).entries ≡ (tree_in other bytes_of).entries
unfolding tree_in
same_entries lists other bytes_of same = ap (λ (ps : List Pair). flat_map (seen_entry (placed_in ps)) (placed_in ps)) same

module _ (id : ℕ) (freed : List ℕ) (x : Volume) (a c : Content) (given : IsGiven (owned_by id) freed x a c) where
  pub entries_given : (tree_of c).entries ≡ (tree_of a).entries
  unfolding tree_of
  entries_given = ap (λ (t : PlainTree). t.entries) given.tree ∙ same_entries (volume_of c) (volume_of a) (bytes_in a) (ap (λ (l : VolumeState). l.catalog_pairs) given.values.rest)

-- ---- the law

module _ (law : RmdirDoes) (a d : Content) (sound : IsSoundVolume (volume_of a)) (at : Leaving) (name : List ℕ) (leaving : IsLeaving (tree_of a) at name) (takes : TakesFolder at.id (volume_of a) (volume_of d)) where
  does : IsSoundVolume (volume_of d) × (tree_in (volume_of d) (bytes_in a) ≡ removed_folder (folder_at at name) (tree_of a)) × PutsInValues (tree_of a) (command.Rmdir leaving.path) (volume_of a) (volume_of d)
  unfolding tree_of
  does =
      let it = law leaving.path (folder_at at name) (volume_of a) (volume_of d) (bytes_in a) (file_bytes_are a) sound leaving.allowed takes.removes in
      (it.0, it.1 ∙ removed_step (tree_in (volume_of a) (bytes_in a)) leaving.path (folder_at at name) leaving.allowed, it.2)

  -- what becomes of the blocks of values
  pub values_removed : PutsInValues (tree_of a) (command.Rmdir leaving.path) (volume_of a) (volume_of d)
  values_removed = does.2

  -- and behind the attributes, the tree without the folder is the same
  pub removed_behind : (freed : List ℕ) (x : Volume) (c : Content) → IsGiven (owned_by at.id) freed x a c → IsSoundVolume (volume_of c) → TakesFolder at.id (volume_of c) (volume_of d)
      → tree_of d ≡ removed_folder (folder_at at name) (tree_of c) → tree_of d ≡ removed_folder (folder_at at name) (tree_of a)
  removed_behind freed x c given sound_then takes_then tree =
      let still = leaving_still (tree_of a) (tree_in (volume_of c) (bytes_in a)) at name (ap (λ (t : PlainTree). t.entries) (sym given.tree) ∙ entries_given at.id freed x a c given) leaving in
      let it = law still.path (folder_at at name) (volume_of c) (volume_of d) (bytes_in a) (file_bytes_are a) sound_then still.allowed takes_then.removes in
      let same : tree_in (volume_of d) (bytes_in a) ≡ removed_folder (folder_at at name) (tree_in (volume_of c) (bytes_in a)) = it.1 ∙ removed_step (tree_in (volume_of c) (bytes_in a)) still.path (folder_at at name) still.allowed in
      tree ∙ ap (removed_folder (folder_at at name)) given.tree ∙ sym same ∙ does.1
