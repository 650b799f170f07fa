-- The folder that `rmdir` removes, by the records of the catalog and on the tree; and what `rmdir` answers.
use Rattle.std.proofs.Common.{◌≡◌, ℕ, ◌-◌, Bool, true, false, not, List, [], ◌∷◌, ◌++◌, length, refl, sym, ◌∙◌, ap, subst, arith}
use Rattle.std.specs.Prelude.{◌==◌, ◌||◌, Option, Some, None, Result, Ok, Err, if◌then◌else◌}
use Rattle.std.specs.Option.{ok_or}
use Rattle.std.specs.Str.{bytes_eq}
use Rattle.std.specs.List.{flat_map}
use Rattle.std.proofs.lemmas.Bool.{and_parts, eqb-true, true≢false}
use Rattle.std.proofs.lemmas.Slice.Eq.{bytes_eq-Decides}
use Rattle.sector_disk.specs.Lists.{Content}
use Rattle.btree_node.specs.Levels.{Pair}
use Rattle.cat_records.specs.declared.record.FolderRecord.{FolderRecord}
use Rattle.catalog.specs.Pairs.{value_at}
use Rattle.hfs_language.specs.Written.{FitsPath}
use Rattle.hfs_language.specs.declared.command.Command.TheVariants as command
use Rattle.hfs_language.specs.declared.refusal.Refusal.{Refusal}
use Rattle.hfs_language.specs.declared.refusal.Refusal.TheVariants as refusal
use Rattle.hfs_language.specs.declared.reply.Reply.TheVariants as reply
use Rattle.hfs_model.specs.Plain.{IsPlainTree, entries_in, entry_at, is_at}
use Rattle.hfs_model.specs.Step.{child, front, is_private_path, is_root, last_name, on, removed_folder, root_entry, step, step_line, then_, to_rmdir, unless, walk}
use Rattle.hfs_model.specs.declared.plain.PlainEntry.{PlainEntry}
use Rattle.hfs_model.specs.declared.plain.PlainTree.{PlainTree}
use Rattle.hfs_volume.specs.Changes.{AreSorted}
use Rattle.cat_records.specs.declared.record.CatRecord.TheVariants.{Folder}
use Rattle.hfs_model.proofs.Below.{front-last, last_name-last}
use Rattle.hfs_volume.specs.Books.{SoundHasPlainTree}
use Rattle.hfs_volume.specs.Content.{VolumeState, overflow_in_volume, records_of, volume_of}
use Rattle.hfs_volume.specs.Links.{private_id}
use Rattle.hfs_volume.specs.Records.{Placed, is_empty}
use Rattle.hfs_volume.specs.Sound.{IsSoundVolume}
use Rattle.hfs_volume.specs.TreeOf.{seen_entry, tree_of}
use Rattle.hfs_volume.proofs.Fitting.{differs}
use Rattle.hfs_volume.proofs.Flat.{found_some}
use Rattle.hfs_volume.proofs.Reaching.{IsFolder, ok_same, seen_not_root}
use Rattle.volume_base.specs.Lists.{lists_of}
use Rattle.volume_base.specs.Reaching.{child_in, folder_reached, named, walk_in}
use Rattle.volume_base.specs.Removing.{IsLeaving, folder_at, leaving_in, leaving_under, to_leave}
use Rattle.volume_base.specs.Standing.{HoldsTrees, IsSettled}
use Rattle.volume_base.specs.Stating.{own_entries}
use Rattle.volume_base.specs.declared.reaching.Reached.{Reached}
use Rattle.volume_base.specs.declared.reaching.Reached.TheVariants as reached
use Rattle.volume_base.specs.declared.removing.Leaving.{Leaving}
use Rattle.volume_base.specs.declared.volume.Volume.{Volume}
use Rattle.volume_base.proofs.Listed.{entries_are}
use Rattle.volume_base.proofs.NodeIs.{entries_same}
use Rattle.volume_base.proofs.Rising.{settled_is_plain, settled_sorted}
use Rattle.volume_base.proofs.Sited.{fits_name, some_name}
use Rattle.volume_base.proofs.Siting.{front_fits, front_free, front_tree, front_walk}
use Rattle.volume_base.proofs.Walked.{Agree, IsReached, path_same}

-- the same reason, or the folder
abbrev pub SameLeaving : List ℕ → Result Leaving Refusal → Result PlainEntry Refusal → Type 0
SameLeaving name (Ok at) (Ok entry) = entry ≡ folder_at at name
SameLeaving name (Err why) (Err other) = why ≡ other
SameLeaving name (Ok at) (Err other) = ⊥
SameLeaving name (Err why) (Ok entry) = ⊥

-- a folder without an entry, of a tree
abbrev judged : PlainTree → PlainEntry → Result PlainEntry Refusal
judged tree at = then_ (unless (not at.folder) refusal.NotFolder at) (λ folder. unless (not (length (entries_in tree folder.id) == 0)) refusal.NotEmpty folder)

-- what is found under a name in a folder stands there
found_place : (tree : PlainTree) (id : ℕ) (name : List ℕ) (entry : PlainEntry) → entry_at tree id name ≡ Some entry → (entry.parent ≡ id) × (entry.name ≡ name)
found_place tree id name entry found =
    let tests = and_parts (entry.parent == id) (bytes_eq entry.name name) (found_some (is_at id name) tree.entries entry found).1 in
    (eqb-true entry.parent id tests.0, (bytes_eq-Decides entry.name name).0 tests.1)

no_units : (name : List ℕ) → is_empty name ≡ false → name ≡ [] → ⊥
no_units name some none = true≢false (sym (ap is_empty none) ∙ some)

module _ (volume : VolumeState) (sound : IsSoundVolume volume) (sorted : AreSorted volume.catalog_pairs)
    (tree : PlainTree) (same_entries : tree.entries ≡ flat_map (seen_entry (records_of volume)) (records_of volume)) (plain : IsPlainTree tree)
  where
    abbrev pairs : List Pair
    pairs = volume.catalog_pairs

    abbrev Same : Reached → PlainEntry → Type 0
    Same = IsReached volume.catalog_pairs volume.head.next_catalog_id sound.entries.ids sound.entries.rooted sound.entries.threads (overflow_in_volume volume) sound.links.good sorted tree same_entries plain

    -- a folder without an entry by its record is one on the tree
    folder_left : (id : ℕ) (name : List ℕ) (folder : FolderRecord) (f : PlainEntry) → Same (reached.Folder folder) f → f.parent ≡ id → f.name ≡ name → SameLeaving name (to_leave id (reached.Folder folder)) (judged tree f)
    folder_left id name folder f it parent_is name_is =
        subst (λ (b : Bool). SameLeaving name (to_leave id (reached.Folder folder)) (then_ (unless (not b) refusal.NotFolder f) (λ x. unless (not (length (entries_in tree x.id) == 0)) refusal.NotEmpty x))) (sym folder_is)
        (subst (λ (n : ℕ). SameLeaving name (unless (not (n == 0)) refusal.NotEmpty at) (unless (not (length (entries_in tree f.id) == 0)) refusal.NotEmpty f)) counted (by_empty (length (entries_in tree f.id) == 0)))
      where
        at : Leaving
        at = record { parent = id; id = folder.fields.id }

        folder_is : f.folder ≡ true
        folder_is = ap (λ (e : PlainEntry). e.folder) it.comes.is

        id_is : f.id ≡ folder.fields.id
        id_is = ok_same f.id folder.fields.id (sym (it.folder ∙ ap (λ b. if b then Ok f.id else Err refusal.NotFolder) folder_is))

        p : Placed
        p = record { parent = it.comes.parent; name = it.comes.name; value = Folder folder }

        inner : (folder.fields.id == 2) ≡ false
        inner = differs folder.fields.id 2 (seen_not_root (records_of volume) volume.head.next_catalog_id sound.entries.ids sound.entries.rooted (record { parent = it.comes.parent; name = it.comes.name; value = Folder folder }) it.comes.stands it.comes.shows)

        counted : length (entries_in tree f.id) ≡ folder.fields.count
        counted =
            ap (λ n. length (entries_in tree n)) id_is
            ∙ entries_same volume sound sorted tree same_entries plain folder (record { parent = it.comes.parent; name = it.comes.name; value = Folder folder }) it.comes.stands refl
            (subst (λ n. IsFolder (records_of volume) volume.head.next_catalog_id sound.entries.ids sound.entries.rooted n) id_is (it.is_folder folder_is))
            ∙ ap (λ b. if b then folder.fields.count - own_entries (private_id (records_of volume)) else folder.fields.count) inner

        same : f ≡ folder_at (record { parent = id; id = folder.fields.id }) name
        same = λ i. record { parent = parent_is i; name = name_is i; folder = folder_is i; id = id_is i }

        by_empty : (b : Bool) → SameLeaving name (unless (not b) refusal.NotEmpty (record { parent = id; id = folder.fields.id })) (unless (not b) refusal.NotEmpty f)
        by_empty true = same
        by_empty false = refl

    by_kind : (id : ℕ) (name : List ℕ) (n : Reached) (f : PlainEntry) → is_empty name ≡ false → Same n f → f.parent ≡ id → f.name ≡ name → SameLeaving name (to_leave id n) (judged tree f)
    by_kind id name reached.Root f some it parent_is name_is = absurd (no_units name some (sym name_is ∙ ap (λ (e : PlainEntry). e.name) it.comes))
    by_kind id name (reached.Folder folder) f some it parent_is name_is = folder_left id name folder f it parent_is name_is
    by_kind id name (reached.File file) f some it parent_is name_is =
        subst (λ (b : Bool). SameLeaving name (Err refusal.NotFolder) (then_ (unless (not b) refusal.NotFolder f) (λ x. unless (not (length (entries_in tree x.id) == 0)) refusal.NotEmpty x))) (sym (ap (λ (e : PlainEntry). e.folder) it.comes.is)) refl

    by_found : (id : ℕ) (name : List ℕ) (r : Result Reached Refusal) (o : Option PlainEntry) → is_empty name ≡ false → entry_at tree id name ≡ o → Agree Same r (ok_or o refusal.NotFound)
        → SameLeaving name (then_ r (to_leave id)) (then_ (ok_or o refusal.NotFound) (judged tree))
    by_found id name (Ok n) (Some f) some found there = let place = found_place tree id name f found in by_kind id name n f some there place.0 place.1
    by_found id name (Err why) None some found none = none
    by_found id name (Ok n) None some found never = absurd never
    by_found id name (Err why) (Some f) some found never = absurd never

    in_kind : (name : List ℕ) (e : PlainEntry) (b : Bool) → is_empty name ≡ false
        → Agree Same (then_ (if b then Ok e.id else Err refusal.NotFolder) (λ id. named (value_at volume.catalog_pairs id name))) (if b then ok_or (entry_at tree e.id name) refusal.NotFound else Err refusal.NotFolder)
        → SameLeaving name (then_ (if b then Ok e.id else Err refusal.NotFolder) (λ id. then_ (named (value_at volume.catalog_pairs id name)) (to_leave id))) (then_ (if b then ok_or (entry_at tree e.id name) refusal.NotFound else Err refusal.NotFolder) (judged tree))
    in_kind name e true some whole = by_found e.id name (named (value_at volume.catalog_pairs e.id name)) (entry_at tree e.id name) some refl whole
    in_kind name e false some whole = refl

    by_walk : (name : List ℕ) (r : Result Reached Refusal) (s : Result PlainEntry Refusal) → is_empty name ≡ false → Agree Same r s → Agree Same (then_ r (λ n. child_in volume.catalog_pairs n name)) (then_ s (λ n. child tree n name))
        → SameLeaving name (then_ (then_ r folder_reached) (λ id. then_ (named (value_at volume.catalog_pairs id name)) (to_leave id))) (then_ (then_ s (λ n. child tree n name)) (judged tree))
    by_walk name (Err why) (Err other) some same whole = same
    by_walk name (Ok at) (Err other) some never whole = absurd never
    by_walk name (Err why) (Ok e) some never whole = absurd never
    by_walk name (Ok at) (Ok e) some it whole =
        subst (λ (f : Result ℕ Refusal). SameLeaving name (then_ f (λ id. then_ (named (value_at volume.catalog_pairs id name)) (to_leave id))) (then_ (child tree e name) (judged tree))) (sym it.folder)
        (in_kind name e e.folder some (subst (λ (f : Result ℕ Refusal). Agree Same (then_ f (λ id. named (value_at volume.catalog_pairs id name))) (child tree e name)) it.folder whole))

    pub leaving_same : (path : List (List ℕ)) → is_private_path path ≡ false → FitsPath path → is_root path ≡ false → is_empty (last_name path) ≡ false → SameLeaving (last_name path) (leaving_in volume.catalog_pairs path) (to_rmdir tree path)
    leaving_same [] free fits not_root some = absurd (true≢false not_root)
    leaving_same (name ∷ path) free fits not_root some =
        let walks = path_same volume.catalog_pairs volume.head.next_catalog_id sound.entries.ids sound.entries.rooted sound.entries.threads (overflow_in_volume volume) sound.links.good sorted tree same_entries plain in
        subst (λ (k : Result PlainEntry Refusal). SameLeaving (last_name (name ∷ path)) (leaving_in volume.catalog_pairs (name ∷ path)) (then_ k (judged tree))) (sym (front_tree tree (name ∷ path) refl root_entry))
        (by_walk (last_name (name ∷ path)) (walk_in volume.catalog_pairs reached.Root (front (name ∷ path))) (walk tree root_entry (front (name ∷ path))) some
        (walks (front (name ∷ path)) (front_free (name ∷ path) free) (front_fits (name ∷ path) fits))
        (subst (λ (k : Result Reached Refusal × Result PlainEntry Refusal). Agree Same k.0 k.1) (λ i. (front_walk volume.catalog_pairs (name ∷ path) refl reached.Root i, front_tree tree (name ∷ path) refl root_entry i))
        (walks (name ∷ path) free fits)))

-- ---- over a settled volume

told_ok : (name : List ℕ) (at : Leaving) (r : Result PlainEntry Refusal) → SameLeaving name (Ok at) r → r ≡ Ok (folder_at at name)
told_ok name at (Ok entry) same = ap Ok same
told_ok name at (Err why) never = absurd never

told_err : (name : List ℕ) (why : Refusal) (r : Result PlainEntry Refusal) → SameLeaving name (Err why) r → r ≡ Err why
told_err name why (Ok entry) never = absurd never
told_err name why (Err other) same = ap Err (sym same)

not_root : (above : List (List ℕ)) (name : List ℕ) → is_root (above ++ name ∷ []) ≡ false
not_root [] name = refl
not_root (first ∷ above) name = refl

leaving_is : (pairs : List Pair) (above : List (List ℕ)) (name : List ℕ) → leaving_in pairs (above ++ name ∷ []) ≡ leaving_under pairs above name
leaving_is pairs above name =
    ap (λ b. then_ (if b then Err refusal.Root else Ok (above ++ name ∷ [])) (λ some. leaving_under pairs (front some) (last_name some))) (not_root above name)
    ∙ (λ i. leaving_under pairs (front-last above name i) (last_name-last above name i))

module _ (law : SoundHasPlainTree) (v : Volume) (content : Content) (holds : HoldsTrees v content) (settled : IsSettled v content) (above : List (List ℕ)) (name : List ℕ) (not_own : is_private_path (above ++ name ∷ []) ≡ false) (fits : FitsPath (above ++ name ∷ []))
    (said : Result Leaving Refusal) (found : said ≡ leaving_under (lists_of v content).catalog_pairs above name)
  where
    last_is : last_name (above ++ name ∷ []) ≡ name
    last_is = last_name-last above name

    is : said ≡ leaving_in (volume_of content).catalog_pairs (above ++ name ∷ [])
    is = found ∙ sym (leaving_is (lists_of v content).catalog_pairs above name) ∙ (λ i. leaving_in (sym (ap (λ (l : VolumeState). l.catalog_pairs) settled.lists) i) (above ++ name ∷ []))

    tells : SameLeaving name said (to_rmdir (tree_of content) (above ++ name ∷ []))
    tells =
        subst (λ (k : List ℕ × Result Leaving Refusal). SameLeaving k.0 k.1 (to_rmdir (tree_of content) (above ++ name ∷ []))) {x = (last_name (above ++ name ∷ []), leaving_in (volume_of content).catalog_pairs (above ++ name ∷ []))} {y = (name, said)} (λ i. (last_is i, sym is i))
        (leaving_same (volume_of content) settled.sound (settled_sorted v content holds settled) (tree_of content) (entries_are content) (settled_is_plain law v content holds settled) (above ++ name ∷ []) not_own fits (not_root above name)
        (ap is_empty last_is ∙ some_name name (fits_name above name fits).some))

    -- the folder that was told
    pub leaving_told : (at : Leaving) → said ≡ Ok at → to_rmdir (tree_of content) (above ++ name ∷ []) ≡ Ok (folder_at at name)
    leaving_told at ok = told_ok name at (to_rmdir (tree_of content) (above ++ name ∷ [])) (subst (λ (r : Result Leaving Refusal). SameLeaving name r (to_rmdir (tree_of content) (above ++ name ∷ []))) ok tells)

    pub is_leaving : (at : Leaving) → said ≡ Ok at → IsLeaving (tree_of content) at name
    is_leaving at ok = record { path = above ++ name ∷ []; allowed = leaving_told at ok }

    pub leaving_refused : (why : Refusal) → said ≡ Err why → to_rmdir (tree_of content) (above ++ name ∷ []) ≡ Err why
    leaving_refused why err = told_err name why (to_rmdir (tree_of content) (above ++ name ∷ [])) (subst (λ (r : Result Leaving Refusal). SameLeaving name r (to_rmdir (tree_of content) (above ++ name ∷ []))) err tells)

-- ---- the answers

module _ (tree : PlainTree) (path : List (List ℕ)) where
  line : is_private_path path ≡ false → step_line tree (Ok (command.Rmdir path)) ≡ on tree (to_rmdir tree path) (λ at. (reply.Ok, removed_folder at tree))
  line not_own = ap (λ b. if b || false then (reply.No refusal.Private, tree) else step tree (command.Rmdir path)) not_own

  pub removed_line : (at : PlainEntry) → is_private_path path ≡ false → to_rmdir tree path ≡ Ok at
      → (reply.Ok ≡ (step_line tree (Ok (command.Rmdir path))).0) × (removed_folder at tree ≡ (step_line tree (Ok (command.Rmdir path))).1)
  removed_line at not_own is =
      let same = line not_own ∙ ap (λ r. on tree r (λ (x : PlainEntry). (reply.Ok, removed_folder x tree))) is in
      (sym (ap (λ s. s.0) same), sym (ap (λ s. s.1) same))

  pub refused_line : (why : Refusal) → is_private_path path ≡ false → to_rmdir tree path ≡ Err why
      → (reply.No why ≡ (step_line tree (Ok (command.Rmdir path))).0) × (tree ≡ (step_line tree (Ok (command.Rmdir path))).1)
  refused_line why not_own is =
      let same = line not_own ∙ ap (λ r. on tree r (λ (x : PlainEntry). (reply.Ok, removed_folder x tree))) is in
      (sym (ap (λ s. s.0) same), sym (ap (λ s. s.1) same))

  pub private_line : is_private_path path ≡ true → (reply.No refusal.Private ≡ (step_line tree (Ok (command.Rmdir path))).0) × (tree ≡ (step_line tree (Ok (command.Rmdir path))).1)
  private_line own =
      let same = ap (λ b. if b || false then (reply.No refusal.Private, tree) else step tree (command.Rmdir path)) own in (sym (ap (λ s. s.0) same), sym (ap (λ s. s.1) same))

  -- the step's tree
  pub removed_step : (at : PlainEntry) → to_rmdir tree path ≡ Ok at → (step tree (command.Rmdir path)).1 ≡ removed_folder at tree
  removed_step at is = ap (λ r. (on tree r (λ (x : PlainEntry). (reply.Ok, removed_folder x tree))).1) is

-- the root isn't removed
pub root_line : (tree : PlainTree) (path : List (List ℕ)) → length path ≡ 0 → (reply.No refusal.Root ≡ (step_line tree (Ok (command.Rmdir path))).0) × (tree ≡ (step_line tree (Ok (command.Rmdir path))).1)
root_line tree [] is = refused_line tree [] refusal.Root refl refl
root_line tree (name ∷ path) is = absurd (omega (arith, is))
