-- What a path reaches by the records of the catalog is what it reaches on the plain tree, and a folder has the same names on both.
use Rattle.std.proofs.Common.{◌≡◌, ℕ, Bool, true, false, List, [], ◌∷◌, ◌++◌, inl, inr, refl, sym, ◌∙◌, ap, subst, arith}
use Rattle.std.specs.Prelude.{⊤, All, Contains, ◌==◌, ◌&&◌, length, nat_lt, not, map, take, find, cond, Option, None, Some, Result, Ok, Err, if◌then◌else◌}
use Rattle.std.specs.Option.{ok_or, option_map}
use Rattle.std.specs.Str.{bytes_eq}
use Rattle.std.specs.List.{flat_map}
use Rattle.std.proofs.lemmas.Bool.{eqb-true, true≢false, and_parts}
use Rattle.std.proofs.lemmas.Slice.Eq.{bytes_eq-Decides}
use Rattle.btree_node.specs.Levels.{Pair}
use Rattle.cat_records.specs.declared.record.FileRecord.{FileRecord}
use Rattle.cat_records.specs.declared.record.CatRecord.{CatRecord}
use Rattle.cat_records.specs.declared.record.CatRecord.TheVariants.{Folder, File, Thread}
use Rattle.catalog.specs.Children.{as_child, children_in}
use Rattle.catalog.specs.Pairs.{value_at}
use Rattle.hfs_language.specs.Written.{FitsPath, IsName}
use Rattle.hfs_language.specs.declared.command.Command.TheVariants as command
use Rattle.hfs_language.specs.declared.refusal.Refusal.{Refusal}
use Rattle.hfs_language.specs.declared.refusal.Refusal.TheVariants as refusal
use Rattle.hfs_language.specs.declared.reply.ListedName.{ListedName}
use Rattle.hfs_language.specs.declared.reply.Reply.TheVariants as reply
use Rattle.hfs_model.specs.Plain.{IsPlainTree, entry_at, entries_in, node_at, attribute_at, is_at, is_node, is_named}
use Rattle.hfs_model.specs.Sorted.{kept}
use Rattle.hfs_model.specs.Step.{is_private_name, is_private_path, then_, unless, root_entry, child, walk, on, step, listed, listed_attribute, most_attribute}
use Rattle.hfs_model.specs.declared.plain.PlainAttribute.{PlainAttribute}
use Rattle.hfs_model.specs.declared.plain.PlainEntry.{PlainEntry}
use Rattle.hfs_model.specs.declared.plain.PlainNode.{PlainNode}
use Rattle.hfs_model.specs.declared.plain.PlainTree.{PlainTree}
use Rattle.hfs_volume.specs.Changes.{AreSorted, AreSortedAttributes, is_attribute_of}
use Rattle.hfs_volume.specs.Links.{AreGoodLinks, private_id}
use Rattle.hfs_volume.specs.Entries.{AreThreaded, AreRooted, HaveIds, IsUserId}
use Rattle.hfs_volume.specs.Records.{Placed, Overflow, Attribute, attribute_of, placed_in, entries_of, record_at, is_placed_at, id_of, is_empty, is_thread, inline_bytes}
use Rattle.hfs_volume.specs.TreeOf.{is_hidden, is_seen, seen_entry, plain_entry, plain_attribute, threaded_node, BytesOf, valued}
use Rattle.hfs_volume.proofs.Fitting.{differs}
use Rattle.hfs_volume.proofs.Flat.{found_some}
use Rattle.hfs_volume.proofs.Members.{each_of, kept_stands}
use Rattle.hfs_volume.proofs.Reaching.{IsFolder, Shows, seen_shows, shows_seen, seen_stands, seen_visible, seen_not_root, front_is}
use Rattle.volume_base.specs.Listing.{is_shown, listed_child, shown_in, replied, names_in}
use Rattle.volume_base.specs.Owning.{id_reached, listed_name, attributes_in, names_owned}
use Rattle.volume_base.specs.Values.{value_told, value_owned}
use Rattle.attributes.specs.Values.{value_in, value_of_first}
use Rattle.file_io.specs.Bytes.{fork_bytes as bytes_read}
use Rattle.sector_disk.specs.Lists.{Content}
use Rattle.hx_bytes.specs.declared.extents.ForkRecord.{ForkRecord}
use Rattle.cat_records.specs.declared.attribute.AttrRecord.{AttrRecord}
use Rattle.cat_records.specs.declared.attribute.AttrRecord.TheVariants as attribute
use Rattle.hfs_volume.specs.Values.{IsValue, is_more, is_record_of, value_extents}
use Rattle.hfs_volume.proofs.FoundValue.{first_is_own, in_record, valued_found, valued_names}
use Rattle.volume_base.specs.Reaching.{named, folder_reached, child_in, walk_in}
use Rattle.volume_base.specs.declared.reaching.Reached.{Reached}
use Rattle.volume_base.specs.declared.reaching.Reached.TheVariants as reached
use Rattle.volume_base.proofs.Identities.{identity_is, node_attributes}

-- where users see each record at a place, the entry of the tree there is that of the record
find_seen : (records : List Placed) (id : ℕ) (name : List ℕ) → ((p : Placed) → is_placed_at id name p ≡ true → is_seen records p ≡ true) → (xs : List Placed)
    → find (is_at id name) (flat_map (seen_entry records) xs) ≡ option_map (plain_entry records) (find (is_placed_at id name) xs)
find_seen records id name sees [] = refl
find_seen records id name sees (x ∷ xs) = by_tests (is_placed_at id name x) (is_seen records x) refl refl (find_seen records id name sees xs)
  where
    rest : List PlainEntry
    rest = flat_map (seen_entry records) xs

    by_tests : (c b : Bool) → is_placed_at id name x ≡ c → is_seen records x ≡ b → find (is_at id name) rest ≡ option_map (plain_entry records) (find (is_placed_at id name) xs)
        → find (is_at id name) ((if is_seen records x then plain_entry records x ∷ [] else []) ++ rest) ≡ option_map (plain_entry records) (cond (is_placed_at id name x) (Some x) (find (is_placed_at id name) xs))
    by_tests true true at seen later =
        ap (λ b. find (is_at id name) ((if b then plain_entry records x ∷ [] else []) ++ rest)) seen ∙ ap (λ c. cond c (Some (plain_entry records x)) (find (is_at id name) rest)) at
        ∙ sym (ap (λ c. option_map (plain_entry records) (cond c (Some x) (find (is_placed_at id name) xs))) at)
    by_tests false true at seen later =
        ap (λ b. find (is_at id name) ((if b then plain_entry records x ∷ [] else []) ++ rest)) seen ∙ ap (λ c. cond c (Some (plain_entry records x)) (find (is_at id name) rest)) at
        ∙ later ∙ sym (ap (λ c. option_map (plain_entry records) (cond c (Some x) (find (is_placed_at id name) xs))) at)
    by_tests false false at seen later =
        ap (λ b. find (is_at id name) ((if b then plain_entry records x ∷ [] else []) ++ rest)) seen
        ∙ later ∙ sym (ap (λ c. option_map (plain_entry records) (cond c (Some x) (find (is_placed_at id name) xs))) at)
    by_tests true false at seen later = absurd (true≢false (sym (sees x at) ∙ seen))

-- the attribute of a name among those of a folder or file
find_owned : (id : ℕ) (name : List ℕ) (xs : List Attribute) → find (is_named name) (map plain_attribute (kept (λ (a : Attribute). a.id == id) xs)) ≡ option_map plain_attribute (find (is_attribute_of id name) xs)
find_owned id name [] = refl
find_owned id name (x ∷ xs) = by_test (x.id == id) refl (find_owned id name xs)
  where
    rest : List Attribute
    rest = kept (λ (a : Attribute). a.id == id) xs

    by_name : (c : Bool) → bytes_eq x.name name ≡ c → find (is_named name) (map plain_attribute rest) ≡ option_map plain_attribute (find (is_attribute_of id name) xs)
        → cond (bytes_eq x.name name) (Some (plain_attribute x)) (find (is_named name) (map plain_attribute rest)) ≡ option_map plain_attribute (cond (bytes_eq x.name name) (Some x) (find (is_attribute_of id name) xs))
    by_name true is later = ap (λ c. cond c (Some (plain_attribute x)) (find (is_named name) (map plain_attribute rest))) is ∙ sym (ap (λ c. option_map plain_attribute (cond c (Some x) (find (is_attribute_of id name) xs))) is)
    by_name false is later = ap (λ c. cond c (Some (plain_attribute x)) (find (is_named name) (map plain_attribute rest))) is ∙ later ∙ sym (ap (λ c. option_map plain_attribute (cond c (Some x) (find (is_attribute_of id name) xs))) is)

    by_test : (b : Bool) → (x.id == id) ≡ b → find (is_named name) (map plain_attribute rest) ≡ option_map plain_attribute (find (is_attribute_of id name) xs)
        → find (is_named name) (map plain_attribute ((if x.id == id then x ∷ [] else []) ++ rest)) ≡ option_map plain_attribute (cond ((x.id == id) && bytes_eq x.name name) (Some x) (find (is_attribute_of id name) xs))
    by_test true is later =
        ap (λ b. find (is_named name) (map plain_attribute ((if b then x ∷ [] else []) ++ rest))) is ∙ by_name (bytes_eq x.name name) refl later
        ∙ sym (ap (λ b. option_map plain_attribute (cond (b && bytes_eq x.name name) (Some x) (find (is_attribute_of id name) xs))) is)
    by_test false is later =
        ap (λ b. find (is_named name) (map plain_attribute ((if b then x ∷ [] else []) ++ rest))) is ∙ later
        ∙ sym (ap (λ b. option_map plain_attribute (cond (b && bytes_eq x.name name) (Some x) (find (is_attribute_of id name) xs))) is)

-- two answers: the same reason, or two things of which this holds
abbrev pub Agree : {X Y : Type 0} → (X → Y → Type 0) → Result X Refusal → Result Y Refusal → Type 0
Agree Same (Ok at) (Ok e) = Same at e
Agree Same (Err why) (Err other) = why ≡ other
Agree Same (Ok at) (Err other) = ⊥
Agree Same (Err why) (Ok e) = ⊥

module _ (pairs : List Pair) (next : ℕ) (ids : HaveIds next (entries_of (placed_in pairs))) (rooted : AreRooted (entries_of (placed_in pairs))) (threads : AreThreaded pairs) (overflow : List Overflow) (links : AreGoodLinks (placed_in pairs) overflow) (order : AreSorted pairs)
    (tree : PlainTree) (same_entries : tree.entries ≡ flat_map (seen_entry (placed_in pairs)) (placed_in pairs)) (plain : IsPlainTree tree)
  where
    abbrev records : List Placed
    records = placed_in pairs

    -- an entry of this value, which users see, is this one of the tree
    pub record IsShown (value : CatRecord) (e : PlainEntry) : Type 0 where
      pub parent : ℕ
      pub name : List ℕ
      pub stands : Contains (entries_of records) (record { parent = parent; name = name; value = value })
      pub shows : Shows records (record { parent = parent; name = name; value = value })
      pub is : e ≡ plain_entry records (record { parent = parent; name = name; value = value })

    -- what was reached is the root, or an entry that users see
    abbrev pub ComesFrom : Reached → PlainEntry → Type 0
    ComesFrom reached.Root e = e ≡ root_entry
    ComesFrom (reached.Folder folder) e = IsShown (Folder folder) e
    ComesFrom (reached.File file) e = IsShown (File file) e

    -- what was reached by the records is this entry of the tree
    pub record IsReached (at : Reached) (e : PlainEntry) : Type 0 where
      pub comes : ComesFrom at e
      pub folder : folder_reached at ≡ (if e.folder then Ok e.id else Err refusal.NotFolder)
      pub is_folder : e.folder ≡ true → IsFolder records next ids rooted e.id
      pub id : id_reached pairs (private_id records) at ≡ e.id
      pub node : (node : PlainNode) × (node_at tree e.id ≡ Some node) × (node.folder ≡ e.folder)

    -- and isn't the root
    pub record IsInner (at : Reached) (e : PlainEntry) : Type 0 where
      pub reached : IsReached at e
      pub not_root : e.folder ≡ true → e.id ≡ 2 → ⊥

    of_value : (parent : ℕ) (name : List ℕ) (value : CatRecord) → Contains (entries_of records) (record { parent = parent; name = name; value = value }) → Shows records (record { parent = parent; name = name; value = value }) → is_thread value ≡ false
        → Contains tree.entries (plain_entry records (record { parent = parent; name = name; value = value })) → Agree IsInner (named (Some value)) (Ok (plain_entry records (record { parent = parent; name = name; value = value })))
    of_value parent name (Folder folder) stands shows kind there =
        let p : Placed = record { parent = parent; name = name; value = Folder folder } in
        record {
          reached = record {
            comes = record { parent = parent; name = name; stands = stands; shows = shows; is = refl };
            folder = refl;
            is_folder = λ is. record { folder = (p, stands, refl, refl); visible = seen_visible records next ids rooted p stands shows };
            id = refl;
            node = (plain.named (plain_entry records p) there).named;
          };
          not_root = λ is two. seen_not_root records next ids rooted p stands shows two;
        }
    of_value parent name (File file) stands shows kind there =
        let p : Placed = record { parent = parent; name = name; value = File file } in
        record {
          reached = record {
            comes = record { parent = parent; name = name; stands = stands; shows = shows; is = refl };
            folder = refl;
            is_folder = λ is. absurd (true≢false (sym is));
            id = identity_is pairs overflow links order parent name file stands;
            node = (plain.named (plain_entry records p) there).named;
          };
          not_root = λ is two. absurd (true≢false (sym is));
        }
    of_value parent name (Thread thread) stands shows kind there = absurd (true≢false kind)

    -- no folder has CNID 1
    not_1 : (id : ℕ) → IsFolder records next ids rooted id → id ≡ 1 → ⊥
    not_1 id is one = elim (each_of (λ (q : Placed). IsUserId next (id_of q)) (entries_of records) ids.each is.folder.0 is.folder.1) [
      | inl two ↦ omega (arith, two, one, is.folder.3)
      | inr high ↦ omega (arith, high.0, one, is.folder.3)
    ]

    pub in_folder : (id : ℕ) (name : List ℕ) → IsFolder records next ids rooted id → is_empty name ≡ false → ((id == 2) && is_private_name name) ≡ false
        → Agree IsInner (named (value_at pairs id name)) (ok_or (entry_at tree id name) refusal.NotFound)
    in_folder id name is some free = subst (λ o. Agree IsInner (named (value_at pairs id name)) (ok_or o refusal.NotFound)) (sym entry_is) (by_case (record_at records id name) refl)
      where
        shows : (p : Placed) → is_placed_at id name p ≡ true → Shows records p
        shows p at =
            let tests = and_parts (p.parent == id) (bytes_eq p.name name) at in
            let parent : p.parent ≡ id = eqb-true p.parent id tests.0 in
            let same : p.name ≡ name = (bytes_eq-Decides p.name name).0 tests.1 in
            record {
              named = ap is_empty same ∙ some;
              parent = differs p.parent 1 (λ one. not_1 id is (sym parent ∙ one));
              visible = ap (is_hidden records) parent ∙ is.visible;
              not_own = (λ i. (parent i == 2) && is_private_name (same i)) ∙ free;
            }

        entry_is : entry_at tree id name ≡ option_map (plain_entry records) (record_at records id name)
        entry_is = ap (find (is_at id name)) same_entries ∙ find_seen records id name (λ p at. shows_seen records p (shows p at)) records

        by_case : (o : Option Placed) → record_at records id name ≡ o → Agree IsInner (named (option_map (λ (q : Placed). q.value) o)) (ok_or (option_map (plain_entry records) o) refusal.NotFound)
        by_case None found = refl
        by_case (Some p) found =
            let stands = found_some (is_placed_at id name) records p found in
            let it = shows p stands.1 in
            of_value p.parent p.name p.value (kept_stands (λ (q : Placed). not (is_empty q.name)) records p stands.0 (ap not it.named)) it
            (each_of (λ (q : Placed). is_thread q.value ≡ is_empty q.name) records threads.kinds p stands.0 ∙ it.named)
            (subst (λ l. Contains l (plain_entry records p)) (sym same_entries) (seen_stands records p stands.0 (shows_seen records p it)))

    child_same : (at : Reached) (e : PlainEntry) (name : List ℕ) → IsReached at e → is_empty name ≡ false → (e.folder ≡ true → ((e.id == 2) && is_private_name name) ≡ false) → Agree IsInner (child_in pairs at name) (child tree e name)
    child_same at e name reached some free = subst (λ r. Agree IsInner (then_ r (λ id. named (value_at pairs id name))) (child tree e name)) (sym reached.folder) (by_kind e.folder refl)
      where
        by_kind : (b : Bool) → e.folder ≡ b
            → Agree IsInner (then_ (if b then Ok e.id else Err refusal.NotFolder) (λ id. named (value_at pairs id name))) (if b then ok_or (entry_at tree e.id name) refusal.NotFound else Err refusal.NotFolder)
        by_kind false is = refl
        by_kind true is = in_folder e.id name (reached.is_folder is) some (free is)

    -- the first name of a path isn't one of the volume's own in the root
    abbrev IsFree : List (List ℕ) → PlainEntry → Type 0
    IsFree [] e = ⊤
    IsFree (name ∷ path) e = e.folder ≡ true → ((e.id == 2) && is_private_name name) ≡ false

    free_inner : (path : List (List ℕ)) (e : PlainEntry) → (e.folder ≡ true → e.id ≡ 2 → ⊥) → IsFree path e
    free_inner [] e not_root = tt
    free_inner (name ∷ path) e not_root = λ is. ap (λ b. b && is_private_name name) (differs e.id 2 (not_root is))

    free_root : (path : List (List ℕ)) → is_private_path path ≡ false → IsFree path root_entry
    free_root [] not_own = tt
    free_root (name ∷ path) not_own = λ is. not_own

    has_unit : (name : List ℕ) → IsName 255 name → is_empty name ≡ false
    has_unit [] fits = absurd (omega (arith, fits.some))
    has_unit (unit ∷ units) fits = refl

    walk_same : (path : List (List ℕ)) (at : Reached) (e : PlainEntry) → IsReached at e → FitsPath path → IsFree path e → Agree IsReached (walk_in pairs at path) (walk tree e path)
    walk_same [] at e reached fits free = reached
    walk_same (name ∷ path) at e reached fits free =
        by_step (child_in pairs at name) (child tree e name) (child_same at e name reached (has_unit name fits.0) free) (λ n f inner. walk_same path n f inner.reached fits.1 (free_inner path f inner.not_root))
      where
        by_step : (r : Result Reached Refusal) (s : Result PlainEntry Refusal) → Agree IsInner r s → ((n : Reached) (f : PlainEntry) → IsInner n f → Agree IsReached (walk_in pairs n path) (walk tree f path))
            → Agree IsReached (then_ r (λ n. walk_in pairs n path)) (then_ s (λ n. walk tree n path))
        by_step (Ok n) (Ok f) inner further = further n f inner
        by_step (Err why) (Err other) same further = same
        by_step (Ok n) (Err other) never further = absurd never
        by_step (Err why) (Ok f) never further = absurd never

    root_reached : IsReached reached.Root root_entry
    root_reached = record {
      comes = refl;
      folder = refl;
      is_folder = λ is. (front_is records next ids rooted tree same_entries ([] ∷ []) root_entry refl refl refl refl).0;
      id = refl;
      node = (plain.root.0, plain.root.1, plain.root.2);
    }

    pub path_same : (path : List (List ℕ)) → is_private_path path ≡ false → FitsPath path → Agree IsReached (walk_in pairs reached.Root path) (walk tree root_entry path)
    path_same path not_own fits = walk_same path reached.Root root_entry root_reached fits (free_root path not_own)

    -- ---- the names of a folder

    abbrev told : ℕ → List Placed → List ListedName
    told id xs = map listed_child (kept (is_shown id) (map as_child (kept (λ (p : Placed). p.parent == id) (kept (λ (p : Placed). not (is_empty p.name)) xs))))

    abbrev seen_names : ℕ → List Placed → List ListedName
    seen_names id xs = map listed (kept (λ (e : PlainEntry). e.parent == id) (flat_map (seen_entry records) xs))

    pieces : (id : ℕ) → IsFolder records next ids rooted id → (xs : List Placed) → told id xs ≡ seen_names id xs
    pieces id is [] = refl
    pieces id is (x ∷ xs) = by_tests (is_empty x.name) (x.parent == id) (is_seen records x) ((id == 2) && is_private_name x.name) refl refl refl refl (pieces id is xs)
      where
        by_name : Bool → List ListedName
        by_name a = map listed_child (kept (is_shown id) (map as_child (kept (λ (p : Placed). p.parent == id) ((if not a then x ∷ [] else []) ++ kept (λ (p : Placed). not (is_empty p.name)) xs))))

        by_parent : Bool → List ListedName
        by_parent b = map listed_child (kept (is_shown id) (map as_child ((if b then x ∷ [] else []) ++ kept (λ (p : Placed). p.parent == id) (kept (λ (p : Placed). not (is_empty p.name)) xs))))

        by_own : Bool → List ListedName
        by_own o = map listed_child ((if not o then as_child x ∷ [] else []) ++ kept (is_shown id) (map as_child (kept (λ (p : Placed). p.parent == id) (kept (λ (p : Placed). not (is_empty p.name)) xs))))

        by_seen : Bool → List ListedName
        by_seen s = map listed (kept (λ (e : PlainEntry). e.parent == id) ((if s then plain_entry records x ∷ [] else []) ++ flat_map (seen_entry records) xs))

        by_place : Bool → List ListedName
        by_place b = map listed ((if b then plain_entry records x ∷ [] else []) ++ kept (λ (e : PlainEntry). e.parent == id) (flat_map (seen_entry records) xs))

        by_tests : (a b s o : Bool) → is_empty x.name ≡ a → (x.parent == id) ≡ b → is_seen records x ≡ s → ((id == 2) && is_private_name x.name) ≡ o → told id xs ≡ seen_names id xs
            → by_name (is_empty x.name) ≡ by_seen (is_seen records x)
        by_tests true b false o empty parent seen own rest = ap by_name empty ∙ rest ∙ sym (ap by_seen seen)
        by_tests true b true o empty parent seen own rest = absurd (true≢false (sym empty ∙ (seen_shows records x seen).named))
        by_tests false false false o empty parent seen own rest = ap by_name empty ∙ ap by_parent parent ∙ rest ∙ sym (ap by_seen seen)
        by_tests false false true o empty parent seen own rest = ap by_name empty ∙ ap by_parent parent ∙ rest ∙ sym (ap by_seen seen ∙ ap by_place parent)
        by_tests false true true false empty parent seen own rest =
            ap by_name empty ∙ ap by_parent parent ∙ ap by_own own ∙ (λ i. listed_child (as_child x) ∷ rest i) ∙ sym (ap by_seen seen ∙ ap by_place parent)
        by_tests false true false true empty parent seen own rest = ap by_name empty ∙ ap by_parent parent ∙ ap by_own own ∙ rest ∙ sym (ap by_seen seen)
        by_tests false true true true empty parent seen own rest =
            absurd (true≢false (sym own ∙ (λ i. (sym (eqb-true x.parent id parent) i == 2) && is_private_name x.name) ∙ (seen_shows records x seen).not_own))
        by_tests false true false false empty parent seen own rest =
            let it : x.parent ≡ id = eqb-true x.parent id parent in
            let shows : Shows records x = record {
              named = empty;
              parent = differs x.parent 1 (λ one. not_1 id is (sym it ∙ one));
              visible = ap (is_hidden records) it ∙ is.visible;
              not_own = (λ i. (it i == 2) && is_private_name x.name) ∙ own;
            } in
            absurd (true≢false (sym (shows_seen records x shows) ∙ seen))

    pub names_same : (id : ℕ) → IsFolder records next ids rooted id → shown_in id (children_in id pairs) ≡ map listed (entries_in tree id)
    names_same id is = pieces id is records ∙ sym (ap (λ l. map listed (kept (λ (e : PlainEntry). e.parent == id) l)) same_entries)

    -- what `ls` answers
    pub listing_same : (path : List (List ℕ)) → is_private_path path ≡ false → FitsPath path → names_in pairs path ≡ (step tree (command.Ls path)).0
    listing_same path not_own fits = by_walk (walk_in pairs reached.Root path) (walk tree root_entry path) (path_same path not_own fits)
      where
        by_walk : (r : Result Reached Refusal) (s : Result PlainEntry Refusal) → Agree IsReached r s → replied (then_ r folder_reached) (λ folder. reply.Listing (shown_in folder (children_in folder pairs)))
            ≡ (on tree (then_ (then_ s (λ at. ok_or (node_at tree at.id) refusal.NotFound)) (λ node. unless (not node.folder) refusal.NotFolder node)) (λ folder. (reply.Listing (map listed (entries_in tree folder.id)), tree))).0
        by_walk (Err why) (Err other) same = ap reply.No same
        by_walk (Ok at) (Err other) never = absurd never
        by_walk (Err why) (Ok e) never = absurd never
        by_walk (Ok at) (Ok e) it =
            let node = it.node.0 in
            let id_is : node.id ≡ e.id = eqb-true node.id e.id (found_some (is_node e.id) tree.nodes node it.node.1).1 in
            ap (λ f. replied f (λ folder. reply.Listing (shown_in folder (children_in folder pairs)))) it.folder
            ∙ by_kind node id_is e.folder refl
            ∙ sym (ap (λ o. (on tree (then_ (ok_or o refusal.NotFound) (λ n. unless (not n.folder) refusal.NotFolder n)) (λ folder. (reply.Listing (map listed (entries_in tree folder.id)), tree))).0) it.node.1
            ∙ ap (λ b. (on tree (unless (not b) refusal.NotFolder node) (λ folder. (reply.Listing (map listed (entries_in tree folder.id)), tree))).0) it.node.2)
          where
            by_kind : (node : PlainNode) → node.id ≡ e.id → (b : Bool) → e.folder ≡ b → replied (if b then Ok e.id else Err refusal.NotFolder) (λ folder. reply.Listing (shown_in folder (children_in folder pairs)))
                ≡ (on tree (unless (not b) refusal.NotFolder node) (λ folder. (reply.Listing (map listed (entries_in tree folder.id)), tree))).0
            by_kind node id_is false is = refl
            by_kind node id_is true is = ap reply.Listing (names_same e.id (it.is_folder is) ∙ ap (λ n. map listed (entries_in tree n)) (sym id_is))

    -- ---- the attributes of what a path stands for

    -- what `lsattr` answers
    pub owned_same : (attributes : List Pair) (bytes_of : BytesOf) → tree.nodes ≡ flat_map (threaded_node (valued bytes_of (map attribute_of attributes)) records bytes_of) records → (path : List (List ℕ)) → is_private_path path ≡ false → FitsPath path
        → names_owned pairs (private_id records) attributes path ≡ (step tree (command.LsAttr path)).0
    owned_same attributes bytes_of same_nodes path not_own fits = by_walk (walk_in pairs reached.Root path) (walk tree root_entry path) (path_same path not_own fits)
      where
        twice : (xs : List Attribute) → map listed_name (map (λ (a : Attribute). a.name) xs) ≡ map listed_attribute (map plain_attribute xs)
        twice [] = refl
        twice (x ∷ xs) = λ i. listed_name x.name ∷ twice xs i

        by_walk : (r : Result Reached Refusal) (s : Result PlainEntry Refusal) → Agree IsReached r s
            → replied (then_ r (λ at. Ok (id_reached pairs (private_id records) at))) (λ id. reply.Listing (attributes_in attributes id))
            ≡ (on tree (then_ s (λ at. ok_or (node_at tree at.id) refusal.NotFound)) (λ node. (reply.Listing (map listed_attribute node.attributes), tree))).0
        by_walk (Err why) (Err other) same = ap reply.No same
        by_walk (Ok at) (Err other) never = absurd never
        by_walk (Err why) (Ok e) never = absurd never
        by_walk (Ok at) (Ok e) it =
            let node = it.node.0 in
            let found = found_some (is_node e.id) tree.nodes node it.node.1 in
            let id_is : id_reached pairs (private_id records) at ≡ node.id = it.id ∙ sym (eqb-true node.id e.id found.1) in
            ap (λ n. reply.Listing (attributes_in attributes n)) id_is
            ∙ ap (λ l. reply.Listing (map listed_name l)) (sym (valued_names bytes_of (map attribute_of attributes) node.id))
            ∙ ap reply.Listing (twice (kept (λ (a : Attribute). a.id == node.id) (valued bytes_of (map attribute_of attributes)))
            ∙ ap (map listed_attribute) (sym (node_attributes (valued bytes_of (map attribute_of attributes)) records bytes_of node (subst (λ l. Contains l node) same_nodes found.0))))
            ∙ sym (ap (λ o. (on tree (ok_or o refusal.NotFound) (λ n. (reply.Listing (map listed_attribute n.attributes), tree))).0) it.node.1)

    -- the bytes of a value in blocks are read, and it is as long as it says
    abbrev pub AreRead : List Pair → BytesOf → Content → ℕ → Type 0
    AreRead attributes bytes_of content block =
        (id : ℕ) (name : List ℕ) (a : Attribute) → Contains (map attribute_of attributes) a → is_record_of id name a ≡ true → (fork : ForkRecord) → a.value ≡ attribute.Fork fork
        → (bytes_of.value fork.logical_size (value_extents (map attribute_of attributes) id name) ≡ take fork.logical_size (bytes_read content block (value_extents (map attribute_of attributes) id name)))
        × (length (bytes_of.value fork.logical_size (value_extents (map attribute_of attributes) id name)) ≡ fork.logical_size)

    -- what `getattr` answers
    pub value_same : (attributes : List Pair) (bytes_of : BytesOf) → tree.nodes ≡ flat_map (threaded_node (valued bytes_of (map attribute_of attributes)) records bytes_of) records
        → (content : Content) (block : ℕ) → AreSortedAttributes attributes → All (IsValue (map attribute_of attributes)) (map attribute_of attributes) → AreRead attributes bytes_of content block
        → (path : List (List ℕ)) (name : List ℕ) → is_private_path path ≡ false → FitsPath path
        → value_owned content block pairs (private_id records) attributes path name ≡ (step tree (command.GetAttr path name)).0
    value_same attributes bytes_of same_nodes content block sorted values are_read path name not_own fits = by_walk (walk_in pairs reached.Root path) (walk tree root_entry path) (path_same path not_own fits)
      where
        -- a value of these bytes
        told_bytes : (node : PlainNode) (own : List ℕ) (bytes : List ℕ) (b : Bool) → nat_lt most_attribute (length bytes) ≡ b
            → (if b then reply.No refusal.TooLarge else reply.Content bytes) ≡ (on {X = PlainNode × PlainAttribute} tree (then_ (then_ (Ok (record { name = own; value = bytes })) (λ a. Ok (node, a))) (λ pair. unless (nat_lt most_attribute (length pair.1.value)) refusal.TooLarge pair)) (λ pair. (reply.Content pair.1.value, tree))).0
        told_bytes node own bytes true long = sym (ap (λ b. (on {X = PlainNode × PlainAttribute} tree (unless b refusal.TooLarge (node, record { name = own; value = bytes })) (λ pair. (reply.Content pair.1.value, tree))).0) long)
        told_bytes node own bytes false long = sym (ap (λ b. (on {X = PlainNode × PlainAttribute} tree (unless b refusal.TooLarge (node, record { name = own; value = bytes })) (λ pair. (reply.Content pair.1.value, tree))).0) long)

        of_value : (node : PlainNode) (id : ℕ) (a : Attribute) → Contains (map attribute_of attributes) a → is_record_of id name a ≡ true → is_more a.value ≡ false → (v : AttrRecord) → a.value ≡ v
            → value_told content block (value_in (map attribute_of attributes) id name v)
            ≡ (on {X = PlainNode × PlainAttribute} tree (then_ (then_ (Ok (plain_attribute (in_record bytes_of (map attribute_of attributes) a v))) (λ x. Ok (node, x))) (λ pair. unless (nat_lt most_attribute (length pair.1.value)) refusal.TooLarge pair)) (λ pair. (reply.Content pair.1.value, tree))).0
        of_value node id a stands here own (attribute.Inline v) same =
            told_bytes node a.name v (nat_lt most_attribute (length v)) refl
            ∙ sym (ap (λ bytes. (on {X = PlainNode × PlainAttribute} tree (then_ (then_ (Ok (record { name = a.name; value = bytes })) (λ x. Ok (node, x))) (λ pair. unless (nat_lt most_attribute (length pair.1.value)) refusal.TooLarge pair)) (λ pair. (reply.Content pair.1.value, tree))).0) (ap inline_bytes same))
        of_value node id a stands here own (attribute.Fork fork) same =
            let it = are_read id name a stands here fork same in
            let key = and_parts (a.id == id) (bytes_eq a.name name) here in
            let extents_same : value_extents (map attribute_of attributes) a.id a.name ≡ value_extents (map attribute_of attributes) id name = λ i. value_extents (map attribute_of attributes) (eqb-true a.id id key.0 i) ((bytes_eq-Decides a.name name).0 key.1 i) in
            ap (λ bytes. if nat_lt most_attribute fork.logical_size then reply.No refusal.TooLarge else reply.Content bytes) (sym it.0)
            ∙ told_bytes node a.name (bytes_of.value fork.logical_size (value_extents (map attribute_of attributes) id name)) (nat_lt most_attribute fork.logical_size) (ap (nat_lt most_attribute) it.1)
            ∙ sym (ap (λ extents. (on {X = PlainNode × PlainAttribute} tree (then_ (then_ (Ok (record { name = a.name; value = bytes_of.value fork.logical_size extents })) (λ x. Ok (node, x))) (λ pair. unless (nat_lt most_attribute (length pair.1.value)) refusal.TooLarge pair)) (λ pair. (reply.Content pair.1.value, tree))).0) extents_same)
        of_value node id a stands here own (attribute.More e) same = absurd (true≢false (sym (ap is_more same) ∙ own))

        by_attribute : (node : PlainNode) (id : ℕ) (o : Option Attribute) → find (is_record_of id name) (map attribute_of attributes) ≡ o
            → value_told content block (value_of_first (map attribute_of attributes) id name o)
            ≡ (on {X = PlainNode × PlainAttribute} tree (then_ (then_ (ok_or (option_map plain_attribute (option_map (λ (a : Attribute). in_record bytes_of (map attribute_of attributes) a a.value) o)) refusal.NoAttribute) (λ x. Ok (node, x))) (λ pair. unless (nat_lt most_attribute (length pair.1.value)) refusal.TooLarge pair)) (λ pair. (reply.Content pair.1.value, tree))).0
        by_attribute node id None found = refl
        by_attribute node id (Some a) found =
            let it = found_some (is_record_of id name) (map attribute_of attributes) a found in
            of_value node id a it.0 it.1 (first_is_own (map attribute_of attributes) sorted values id name a found) a.value refl

        by_walk : (r : Result Reached Refusal) (s : Result PlainEntry Refusal) → Agree IsReached r s
            → replied (then_ r (λ at. Ok (id_reached pairs (private_id records) at))) (λ id. value_told content block (value_of_first (map attribute_of attributes) id name (find (is_record_of id name) (map attribute_of attributes))))
            ≡ (on {X = PlainNode × PlainAttribute} tree (then_ (then_ (then_ s (λ at. ok_or (node_at tree at.id) refusal.NotFound)) (λ node. then_ (ok_or (attribute_at node name) refusal.NoAttribute) (λ a. Ok (node, a)))) (λ pair. unless (nat_lt most_attribute (length pair.1.value)) refusal.TooLarge pair)) (λ pair. (reply.Content pair.1.value, tree))).0
        by_walk (Err why) (Err other) same = ap reply.No same
        by_walk (Ok at) (Err other) never = absurd never
        by_walk (Err why) (Ok e) never = absurd never
        by_walk (Ok at) (Ok e) it =
            let node = it.node.0 in
            let found = found_some (is_node e.id) tree.nodes node it.node.1 in
            let id_is : id_reached pairs (private_id records) at ≡ node.id = it.id ∙ sym (eqb-true node.id e.id found.1) in
            let attribute_is : attribute_at node name ≡ option_map plain_attribute (option_map (λ (a : Attribute). in_record bytes_of (map attribute_of attributes) a a.value) (find (is_record_of node.id name) (map attribute_of attributes))) =
            ap (find (is_named name)) (node_attributes (valued bytes_of (map attribute_of attributes)) records bytes_of node (subst (λ l. Contains l node) same_nodes found.0)) ∙ find_owned node.id name (valued bytes_of (map attribute_of attributes))
            ∙ ap (option_map plain_attribute) (valued_found bytes_of (map attribute_of attributes) node.id name sorted values) in
            ap (λ n. value_told content block (value_of_first (map attribute_of attributes) n name (find (is_record_of n name) (map attribute_of attributes)))) id_is
            ∙ by_attribute node node.id (find (is_record_of node.id name) (map attribute_of attributes)) refl
            ∙ sym (ap (λ o. (on {X = PlainNode × PlainAttribute} tree (then_ (then_ (ok_or o refusal.NotFound) (λ n. then_ (ok_or (attribute_at n name) refusal.NoAttribute) (λ a. Ok (n, a)))) (λ pair. unless (nat_lt most_attribute (length pair.1.value)) refusal.TooLarge pair)) (λ pair. (reply.Content pair.1.value, tree))).0) it.node.1
            ∙ ap (λ q. (on {X = PlainNode × PlainAttribute} tree (then_ (then_ (ok_or q refusal.NoAttribute) (λ a. Ok (node, a))) (λ pair. unless (nat_lt most_attribute (length pair.1.value)) refusal.TooLarge pair)) (λ pair. (reply.Content pair.1.value, tree))).0) attribute_is)
