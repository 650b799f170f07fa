-- The file that a path stands for by the records is the one that it stands for on the tree; and what `rm` answers.
use Rattle.std.proofs.Common.{◌≡◌, ℕ, Bool, true, false, List, [], ◌∷◌, ◌++◌, length, refl, sym, ◌∙◌, ap, subst, arith}
use Rattle.std.specs.Prelude.{◌==◌, ◌||◌, Option, Some, None, Result, Ok, Err, if◌then◌else◌}
use Rattle.std.specs.Option.{ok_or, option_map}
use Rattle.std.specs.Str.{bytes_eq}
use Rattle.std.specs.List.{flat_map}
use Rattle.std.proofs.lemmas.Bool.{and_parts, eqb-true, true≢false}
use Rattle.std.proofs.lemmas.Slice.Eq.{bytes_eq-Decides}
use Rattle.sector_disk.specs.Lists.{Content}
use Rattle.sector_disk.specs.Space.{Space}
use Rattle.btree_node.specs.Levels.{Pair}
use Rattle.cat_records.specs.declared.record.CatRecord.{CatRecord}
use Rattle.cat_records.specs.declared.record.CatRecord.TheVariants.{Folder, File, Thread}
use Rattle.catalog.specs.Pairs.{value_at}
use Rattle.hard_links.specs.Linking.{NamesLink}
use Rattle.hfs_language.specs.Written.{FitsPath}
use Rattle.hfs_language.specs.declared.command.Command.TheVariants as command
use Rattle.hfs_language.specs.declared.refusal.Refusal.{Refusal}
use Rattle.hfs_language.specs.declared.refusal.Refusal.TheVariants as refusal
use Rattle.hfs_language.specs.declared.reply.Reply.TheVariants as reply
use Rattle.hfs_model.specs.Plain.{IsPlainTree, entry_at, is_at, is_node, node_at}
use Rattle.hfs_model.specs.Step.{child, front, is_private_path, is_root, last_name, on, reached, removed, root_entry, step, step_line, then_, to_node, to_rm, unless, walk}
use Rattle.hfs_model.specs.declared.plain.PlainEntry.{PlainEntry}
use Rattle.hfs_model.specs.declared.plain.PlainNode.{PlainNode}
use Rattle.hfs_model.specs.declared.plain.PlainTree.{PlainTree}
use Rattle.hfs_volume.specs.Changes.{AreSorted}
use Rattle.hfs_model.proofs.Below.{front-last, last_name-last}
use Rattle.hfs_volume.specs.Books.{SoundHasPlainTree}
use Rattle.hfs_volume.specs.Content.{VolumeState, overflow_in_volume, records_of, volume_of}
use Rattle.hfs_volume.specs.Records.{Placed, is_empty, is_file, is_link, is_link_type, placed_in, record_at}
use Rattle.hfs_volume.specs.Sound.{IsSoundVolume}
use Rattle.hfs_volume.specs.TreeOf.{seen_entry, tree_of}
use Rattle.hfs_volume.proofs.Flat.{found_some}
use Rattle.volume_base.specs.Lists.{lists_of}
use Rattle.volume_base.specs.Looking.{ReadsVolume}
use Rattle.volume_base.specs.Losing.{HasRoomToLose, IsLoss, IsOnlyName, losing_in, losing_under, place_of, to_lose}
use Rattle.volume_base.specs.Reaching.{child_in, folder_in, folder_reached, named, walk_in}
use Rattle.volume_base.specs.Standing.{HoldsTrees, IsSettled}
use Rattle.volume_base.specs.declared.reaching.Reached.{Reached}
use Rattle.volume_base.specs.declared.reaching.Reached.TheVariants as reached_as
use Rattle.volume_base.specs.declared.losing.Losing.{Losing}
use Rattle.volume_base.specs.declared.volume.Volume.{Volume}
use Rattle.volume_base.proofs.Listed.{entries_are}
use Rattle.volume_base.proofs.MakeRoom.{make_room_still}
use Rattle.volume_base.proofs.RoomToRemove.{remove_room_still}
use Rattle.volume_base.proofs.Rising.{settled_is_plain, settled_sorted}
use Rattle.volume_base.proofs.Routed.{child_is}
use Rattle.volume_base.proofs.Sited.{fits_name, some_name}
use Rattle.volume_base.proofs.Siting.{front_fits, front_free, front_tree, front_walk}
use Rattle.volume_base.proofs.Walked.{Agree, IsReached, path_same}

-- the same reason, or the file in its folder
abbrev pub SameLosing : List ℕ → Result Losing Refusal → Result PlainEntry Refusal → Type 0
SameLosing name (Ok at) (Ok entry) = (entry.parent ≡ at.parent) × (entry.name ≡ name)
SameLosing name (Err why) (Err other) = why ≡ other
SameLosing name (Ok at) (Err other) = ⊥
SameLosing name (Err why) (Ok entry) = ⊥

abbrev node_or : PlainNode → Result PlainNode Refusal → PlainNode
node_or other (Ok n) = n
node_or other (Err why) = other

-- what isn't a folder
abbrev judged : PlainEntry → Result PlainEntry Refusal
judged at = unless at.folder refusal.IsFolder at

-- what is found under a name in a folder stands there
found_place : (tree : PlainTree) (id : ℕ) (name : List ℕ) (entry : PlainEntry) → entry_at tree id name ≡ Some entry → (entry.parent ≡ id) × (entry.name ≡ name)
found_place tree id name entry found =
    let tests = and_parts (entry.parent == id) (bytes_eq entry.name name) (found_some (is_at id name) tree.entries entry found).1 in
    (eqb-true entry.parent id tests.0, (bytes_eq-Decides entry.name name).0 tests.1)

no_units : (name : List ℕ) → is_empty name ≡ false → name ≡ [] → ⊥
no_units name some none = true≢false (sym (ap is_empty none) ∙ some)

module _ (volume : VolumeState) (sound : IsSoundVolume volume) (sorted : AreSorted volume.catalog_pairs)
    (tree : PlainTree) (same_entries : tree.entries ≡ flat_map (seen_entry (records_of volume)) (records_of volume)) (plain : IsPlainTree tree)
  where
    abbrev pairs : List Pair
    pairs = volume.catalog_pairs

    abbrev Same : Reached → PlainEntry → Type 0
    Same = IsReached volume.catalog_pairs volume.head.next_catalog_id sound.entries.ids sound.entries.rooted sound.entries.threads (overflow_in_volume volume) sound.links.good sorted tree same_entries plain

    by_kind : (id : ℕ) (name : List ℕ) (n : Reached) (f : PlainEntry) → is_empty name ≡ false → Same n f → f.parent ≡ id → f.name ≡ name → SameLosing name (to_lose id n) (judged f)
    by_kind id name reached_as.Root f some it parent_is name_is = absurd (no_units name some (sym name_is ∙ ap (λ (e : PlainEntry). e.name) it.comes))
    by_kind id name (reached_as.Folder folder) f some it parent_is name_is =
        subst (λ (b : Bool). SameLosing name (Err refusal.IsFolder) (unless b refusal.IsFolder f)) (sym (ap (λ (e : PlainEntry). e.folder) it.comes.is)) refl
    by_kind id name (reached_as.File file) f some it parent_is name_is =
        subst (λ (b : Bool). SameLosing name (Ok (record { parent = id; link = is_link_type file.fields })) (unless b refusal.IsFolder f)) (sym (ap (λ (e : PlainEntry). e.folder) it.comes.is)) (parent_is, name_is)

    by_found : (id : ℕ) (name : List ℕ) (r : Result Reached Refusal) (o : Option PlainEntry) → is_empty name ≡ false → entry_at tree id name ≡ o → Agree Same r (ok_or o refusal.NotFound)
        → SameLosing name (then_ r (to_lose id)) (then_ (ok_or o refusal.NotFound) (judged))
    by_found id name (Ok n) (Some f) some found there = let place = found_place tree id name f found in by_kind id name n f some there place.0 place.1
    by_found id name (Err why) None some found none = none
    by_found id name (Ok n) None some found never = absurd never
    by_found id name (Err why) (Some f) some found never = absurd never

    in_kind : (name : List ℕ) (e : PlainEntry) (b : Bool) → is_empty name ≡ false
        → Agree Same (then_ (if b then Ok e.id else Err refusal.NotFolder) (λ id. named (value_at volume.catalog_pairs id name))) (if b then ok_or (entry_at tree e.id name) refusal.NotFound else Err refusal.NotFolder)
        → SameLosing name (then_ (if b then Ok e.id else Err refusal.NotFolder) (λ id. then_ (named (value_at volume.catalog_pairs id name)) (to_lose id))) (then_ (if b then ok_or (entry_at tree e.id name) refusal.NotFound else Err refusal.NotFolder) (judged))
    in_kind name e true some whole = by_found e.id name (named (value_at volume.catalog_pairs e.id name)) (entry_at tree e.id name) some refl whole
    in_kind name e false some whole = refl

    by_walk : (name : List ℕ) (r : Result Reached Refusal) (s : Result PlainEntry Refusal) → is_empty name ≡ false → Agree Same r s → Agree Same (then_ r (λ n. child_in volume.catalog_pairs n name)) (then_ s (λ n. child tree n name))
        → SameLosing name (then_ (then_ r folder_reached) (λ id. then_ (named (value_at volume.catalog_pairs id name)) (to_lose id))) (then_ (then_ s (λ n. child tree n name)) (judged))
    by_walk name (Err why) (Err other) some same whole = same
    by_walk name (Ok at) (Err other) some never whole = absurd never
    by_walk name (Err why) (Ok e) some never whole = absurd never
    by_walk name (Ok at) (Ok e) some it whole =
        subst (λ (f : Result ℕ Refusal). SameLosing name (then_ f (λ id. then_ (named (value_at volume.catalog_pairs id name)) (to_lose id))) (then_ (child tree e name) (judged))) (sym it.folder)
        (in_kind name e e.folder some (subst (λ (f : Result ℕ Refusal). Agree Same (then_ f (λ id. named (value_at volume.catalog_pairs id name))) (child tree e name)) it.folder whole))

    pub losing_same : (path : List (List ℕ)) → is_private_path path ≡ false → FitsPath path → is_root path ≡ false → is_empty (last_name path) ≡ false → SameLosing (last_name path) (losing_in volume.catalog_pairs path) (to_rm tree path)
    losing_same [] free fits not_root some = absurd (true≢false not_root)
    losing_same (name ∷ path) free fits not_root some =
        let walks = path_same volume.catalog_pairs volume.head.next_catalog_id sound.entries.ids sound.entries.rooted sound.entries.threads (overflow_in_volume volume) sound.links.good sorted tree same_entries plain in
        subst (λ (k : Result PlainEntry Refusal). SameLosing (last_name (name ∷ path)) (losing_in volume.catalog_pairs (name ∷ path)) (then_ k (judged))) (sym (front_tree tree (name ∷ path) refl root_entry))
        (by_walk (last_name (name ∷ path)) (walk_in volume.catalog_pairs reached_as.Root (front (name ∷ path))) (walk tree root_entry (front (name ∷ path))) some
        (walks (front (name ∷ path)) (front_free (name ∷ path) free) (front_fits (name ∷ path) fits))
        (subst (λ (k : Result Reached Refusal × Result PlainEntry Refusal). Agree Same k.0 k.1) (λ i. (front_walk volume.catalog_pairs (name ∷ path) refl reached_as.Root i, front_tree tree (name ∷ path) refl root_entry i))
        (walks (name ∷ path) free fits)))

-- ---- over a settled volume

told_ok : (name : List ℕ) (at : Losing) (r : Result PlainEntry Refusal) → SameLosing name (Ok at) r → (entry : PlainEntry) × (r ≡ Ok entry) × (entry.parent ≡ at.parent) × (entry.name ≡ name)
told_ok name at (Ok entry) same = (entry, refl, same.0, same.1)
told_ok name at (Err why) never = absurd never

told_err : (name : List ℕ) (why : Refusal) (r : Result PlainEntry Refusal) → SameLosing name (Err why) r → r ≡ Err why
told_err name why (Ok entry) never = absurd never
told_err name why (Err other) same = ap Err (sym same)

not_root : (above : List (List ℕ)) (name : List ℕ) → is_root (above ++ name ∷ []) ≡ false
not_root [] name = refl
not_root (first ∷ above) name = refl

losing_is : (pairs : List Pair) (above : List (List ℕ)) (name : List ℕ) → losing_in pairs (above ++ name ∷ []) ≡ losing_under pairs above name
losing_is pairs above name =
    ap (λ b. then_ (if b then Err refusal.Root else Ok (above ++ name ∷ [])) (λ some. losing_under pairs (front some) (last_name some))) (not_root above name)
    ∙ (λ i. losing_under pairs (front-last above name i) (last_name-last above name i))

abbrev found_or : PlainEntry → Result PlainEntry Refusal → PlainEntry
found_or other (Ok entry) = entry
found_or other (Err why) = other

-- what is removed is reached
rm_reached : (tree : PlainTree) (path : List (List ℕ)) (entry : PlainEntry) → is_root path ≡ false → to_rm tree path ≡ Ok entry → reached tree path ≡ Ok entry
rm_reached tree path entry some is =
    by (reached tree path) (sym (ap (λ (b : Bool). then_ (if b then Err refusal.Root else Ok path) (λ named. then_ (reached tree named) judged)) some) ∙ is)
  where
    of_folder : (at : PlainEntry) (b : Bool) → unless b refusal.IsFolder at ≡ Ok entry → at ≡ entry
    of_folder at true same = absurd (let none : Err refusal.IsFolder ≡ Ok entry = same in cc none)
    of_folder at false same = ap (found_or at) same

    by : (r : Result PlainEntry Refusal) → then_ r judged ≡ Ok entry → r ≡ Ok entry
    by (Err why) same = absurd (cc same)
    by (Ok at) same = ap Ok (of_folder at at.folder same)

-- in a folder that is reached, too
in_folder : (tree : PlainTree) (path : List (List ℕ)) (entry : PlainEntry) → is_root path ≡ false → reached tree path ≡ Ok entry
    → (above : PlainEntry) × (reached tree (front path) ≡ Ok above) × (child tree above (last_name path) ≡ Ok entry)
in_folder tree path entry some is = by (walk tree root_entry (front path)) refl (sym (front_tree tree path some root_entry) ∙ is)
  where
    by : (r : Result PlainEntry Refusal) → walk tree root_entry (front path) ≡ r → then_ r (λ n. child tree n (last_name path)) ≡ Ok entry
        → (above : PlainEntry) × (walk tree root_entry (front path) ≡ Ok above) × (child tree above (last_name path) ≡ Ok entry)
    by (Ok above) found same = (above, found, same)
    by (Err why) found same = absurd (cc same)

module _ (law : SoundHasPlainTree) (v : Volume) (content : Content) (holds : HoldsTrees v content) (settled : IsSettled v content) (above : List (List ℕ)) (name : List ℕ) (not_own : is_private_path (above ++ name ∷ []) ≡ false) (fits : FitsPath (above ++ name ∷ []))
    (said : Result Losing Refusal) (found : said ≡ losing_under (lists_of v content).catalog_pairs above name)
  where
    last_is : last_name (above ++ name ∷ []) ≡ name
    last_is = last_name-last above name

    named_is : is_empty name ≡ false
    named_is = some_name name (fits_name above name fits).some

    is : said ≡ losing_in (volume_of content).catalog_pairs (above ++ name ∷ [])
    is = found ∙ sym (losing_is (lists_of v content).catalog_pairs above name) ∙ (λ i. losing_in (sym (ap (λ (l : VolumeState). l.catalog_pairs) settled.lists) i) (above ++ name ∷ []))

    tells : SameLosing name said (to_rm (tree_of content) (above ++ name ∷ []))
    tells =
        subst (λ (k : List ℕ × Result Losing Refusal). SameLosing k.0 k.1 (to_rm (tree_of content) (above ++ name ∷ []))) {x = (last_name (above ++ name ∷ []), losing_in (volume_of content).catalog_pairs (above ++ name ∷ []))} {y = (name, said)} (λ i. (last_is i, sym is i))
        (losing_same (volume_of content) settled.sound (settled_sorted v content holds settled) (tree_of content) (entries_are content) (settled_is_plain law v content holds settled) (above ++ name ∷ []) not_own fits (not_root above name)
        (ap is_empty last_is ∙ named_is))

    -- the file that was told, on the tree
    pub told : (at : Losing) → said ≡ Ok at → (entry : PlainEntry) × (to_rm (tree_of content) (above ++ name ∷ []) ≡ Ok entry) × (entry.parent ≡ at.parent) × (entry.name ≡ name)
    told at ok = told_ok name at (to_rm (tree_of content) (above ++ name ∷ [])) (subst (λ (r : Result Losing Refusal). SameLosing name r (to_rm (tree_of content) (above ++ name ∷ []))) ok tells)

    abbrev pub lost : (at : Losing) → said ≡ Ok at → PlainEntry
    lost at ok = (told at ok).0

    pub lost_allowed : (at : Losing) (ok : said ≡ Ok at) → to_rm (tree_of content) (above ++ name ∷ []) ≡ Ok (lost at ok)
    lost_allowed at ok = (told at ok).1

    pub is_loss : (at : Losing) (ok : said ≡ Ok at) → IsLoss (tree_of content) (above ++ name ∷ []) (lost at ok) (place_of at name)
    is_loss at ok =
        let it = told at ok in
        let reaches = rm_reached (tree_of content) (above ++ name ∷ []) it.0 (not_root above name) it.1 in
        let inside = in_folder (tree_of content) (above ++ name ∷ []) it.0 (not_root above name) reaches in
        let child_of = child_is (tree_of content) inside.0 it.0 (last_name (above ++ name ∷ [])) inside.2 in
        record {
          not_own = not_own;
          allowed = it.1;
          reaches_it = reaches;
          is_place = (it.2, it.3);
          not_root = not_root above name;
          named = named_is;
          last = last_is;
          above = inside.0;
          reaches = inside.1;
          above_is = (child_of.0, sym child_of.1 ∙ it.2);
        }

    pub losing_refused : (why : Refusal) → said ≡ Err why → to_rm (tree_of content) (above ++ name ∷ []) ≡ Err why
    losing_refused why err = told_err name why (to_rm (tree_of content) (above ++ name ∷ [])) (subst (λ (r : Result Losing Refusal). SameLosing name r (to_rm (tree_of content) (above ++ name ∷ []))) err tells)

-- ---- the record

abbrev losing_or : Losing → Result Losing Refusal → Losing
losing_or other (Ok at) = at
losing_or other (Err why) = other

module _ (pairs : List Pair) (above : List (List ℕ)) (name : List ℕ) (at : Losing) where
  of_value : (id : ℕ) (p : Placed) → record_at (placed_in pairs) id name ≡ Some p → (value : CatRecord) → p.value ≡ value → then_ (named (Some value)) (to_lose id) ≡ Ok at → at.link ≡ false → IsOnlyName (place_of at name) pairs
  of_value id p found (Folder folder) is same plain = absurd (cc same)
  of_value id p found (Thread thread) is same plain = absurd (cc same)
  of_value id p found (File file) is same plain =
      let at_is : (let it : Losing = record { parent = id; link = is_link_type file.fields } in it ≡ at) = ap (losing_or at) same in
      record {
        names = record { entry = p; found = ap (λ n. record_at (placed_in pairs) n name) (sym (ap (λ (l : Losing). l.parent) at_is)) ∙ found; file = ap is_file is };
        not_link = ap (λ (v : CatRecord). is_link (record p { value = v })) is ∙ ap (λ (l : Losing). l.link) at_is ∙ plain;
      }

  of_record : (id : ℕ) (o : Option Placed) → record_at (placed_in pairs) id name ≡ o → then_ (named (option_map (λ (p : Placed). p.value) o)) (to_lose id) ≡ Ok at → at.link ≡ false → IsOnlyName (place_of at name) pairs
  of_record id None found same plain = absurd (cc same)
  of_record id (Some p) found same plain = of_value id p found p.value refl same plain

  -- a record that was found and is no link is that of an only name
  pub only_name : losing_under pairs above name ≡ Ok at → at.link ≡ false → IsOnlyName (place_of at name) pairs
  only_name is plain = by (folder_in pairs above) is
    where
      by : (r : Result ℕ Refusal) → then_ r (λ id. then_ (named (value_at pairs id name)) (to_lose id)) ≡ Ok at → IsOnlyName (place_of at name) pairs
      by (Err why) same = absurd (cc same)
      by (Ok id) same = of_record id (record_at (placed_in pairs) id name) refl same plain

  link_value : (id : ℕ) (p : Placed) → record_at (placed_in pairs) id name ≡ Some p → (value : CatRecord) → p.value ≡ value → then_ (named (Some value)) (to_lose id) ≡ Ok at → at.link ≡ true → NamesLink (place_of at name) pairs
  link_value id p found (Folder folder) is same linked = absurd (cc same)
  link_value id p found (Thread thread) is same linked = absurd (cc same)
  link_value id p found (File file) is same linked =
      let at_is : (let it : Losing = record { parent = id; link = is_link_type file.fields } in it ≡ at) = ap (losing_or at) same in
      record {
        entry = p;
        found = ap (λ n. record_at (placed_in pairs) n name) (sym (ap (λ (l : Losing). l.parent) at_is)) ∙ found;
        is_one = ap (λ (v : CatRecord). is_link (record p { value = v })) is ∙ ap (λ (l : Losing). l.link) at_is ∙ linked;
      }

  link_record : (id : ℕ) (o : Option Placed) → record_at (placed_in pairs) id name ≡ o → then_ (named (option_map (λ (p : Placed). p.value) o)) (to_lose id) ≡ Ok at → at.link ≡ true → NamesLink (place_of at name) pairs
  link_record id None found same linked = absurd (cc same)
  link_record id (Some p) found same linked = link_value id p found p.value refl same linked

  -- a record that was found and is a link is that of a link
  pub link_name : losing_under pairs above name ≡ Ok at → at.link ≡ true → NamesLink (place_of at name) pairs
  link_name is linked = by (folder_in pairs above) is
    where
      by : (r : Result ℕ Refusal) → then_ r (λ id. then_ (named (value_at pairs id name)) (to_lose id)) ≡ Ok at → NamesLink (place_of at name) pairs
      by (Err why) same = absurd (cc same)
      by (Ok id) same = link_record id (record_at (placed_in pairs) id name) refl same linked

-- the CNID that was told of a path is that of what it reaches
pub id_told : (tree : PlainTree) (path : List (List ℕ)) (at : PlainEntry) (n : PlainNode) → reached tree path ≡ Ok at → to_node tree path ≡ Ok n → at.id ≡ n.id
id_told tree path at n reaches is = by (node_at tree at.id) refl (sym (ap (λ (r : Result PlainEntry Refusal). then_ r (λ x. ok_or (node_at tree x.id) refusal.NotFound)) reaches) ∙ is)
  where
    by : (o : Option PlainNode) → node_at tree at.id ≡ o → ok_or o refusal.NotFound ≡ Ok n → at.id ≡ n.id
    by None found same = absurd (cc same)
    by (Some m) found same =
        sym (eqb-true m.id at.id (found_some (is_node at.id) tree.nodes m found).1) ∙ ap (λ (x : PlainNode). x.id) (ap (node_or m) same)

-- reads leave the room
pub lose_room_still : (v w : Volume) (a b : Space) → ReadsVolume v w a b → HasRoomToLose v a → HasRoomToLose w b
lose_room_still v w a b reads was = record {
  drops = remove_room_still v w a b reads was.drops;
  makes = λ absent. make_room_still v w a b reads (was.makes (sym reads.keeps.private ∙ absent));
}

-- ---- the answers

module _ (tree : PlainTree) (path : List (List ℕ)) where
  line : is_private_path path ≡ false → step_line tree (Ok (command.Rm path)) ≡ on tree (to_rm tree path) (λ at. (reply.Ok, removed at tree))
  line not_own = ap (λ b. if b || false then (reply.No refusal.Private, tree) else step tree (command.Rm path)) not_own

  pub lost_line : (at : PlainEntry) → is_private_path path ≡ false → to_rm tree path ≡ Ok at
      → (reply.Ok ≡ (step_line tree (Ok (command.Rm path))).0) × (removed at tree ≡ (step_line tree (Ok (command.Rm path))).1)
  lost_line at not_own is =
      let same = line not_own ∙ ap (λ r. on tree r (λ (x : PlainEntry). (reply.Ok, removed x tree))) is in
      (sym (ap (λ s. s.0) same), sym (ap (λ s. s.1) same))

  pub refused_line : (why : Refusal) → is_private_path path ≡ false → to_rm tree path ≡ Err why
      → (reply.No why ≡ (step_line tree (Ok (command.Rm path))).0) × (tree ≡ (step_line tree (Ok (command.Rm path))).1)
  refused_line why not_own is =
      let same = line not_own ∙ ap (λ r. on tree r (λ (x : PlainEntry). (reply.Ok, removed x tree))) is in
      (sym (ap (λ s. s.0) same), sym (ap (λ s. s.1) same))

  pub private_line : is_private_path path ≡ true → (reply.No refusal.Private ≡ (step_line tree (Ok (command.Rm path))).0) × (tree ≡ (step_line tree (Ok (command.Rm path))).1)
  private_line own =
      let same = ap (λ b. if b || false then (reply.No refusal.Private, tree) else step tree (command.Rm path)) own in (sym (ap (λ s. s.0) same), sym (ap (λ s. s.1) same))

  -- the step's tree
  pub lost_step : (at : PlainEntry) → to_rm tree path ≡ Ok at → (step tree (command.Rm path)).1 ≡ removed at tree
  lost_step at is = ap (λ r. (on tree r (λ (x : PlainEntry). (reply.Ok, removed x tree))).1) is

-- the root isn't removed
pub root_line : (tree : PlainTree) (path : List (List ℕ)) → length path ≡ 0 → (reply.No refusal.Root ≡ (step_line tree (Ok (command.Rm path))).0) × (tree ≡ (step_line tree (Ok (command.Rm path))).1)
root_line tree [] is = refused_line tree [] refusal.Root refl refl
root_line tree (name ∷ path) is = absurd (omega (arith, is))
