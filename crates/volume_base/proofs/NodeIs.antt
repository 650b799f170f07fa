-- The folder or file that a path stands for by the records is the one of the tree, and has as many names and entries there.
use Rattle.std.proofs.Common.{◌≡◌, ◌⊎◌, ℕ, ◌<◌, ◌+◌, ◌-◌, Bool, true, false, List, [], ◌∷◌, length, map, inl, inr, refl, sym, ◌∙◌, ap, subst, arith}
use Rattle.std.specs.Prelude.{Contains, ◌==◌, ◌&&◌, ◌||◌, not, nat_lt, take, drop, count_by, Option, None, Some, Result, Ok, Err, if◌then◌else◌}
use Rattle.std.specs.Option.{ok_or, option_map}
use Rattle.std.specs.Str.{bytes_eq}
use Rattle.std.specs.List.{flat_map}
use Rattle.std.proofs.Math.Bool.{and-false}
use Rattle.std.proofs.lemmas.Bool.{eqb-true, true≢false, and_parts}
use Rattle.std.proofs.lemmas.Slice.Eq.{bytes_eq-Decides}
use Rattle.btree_node.specs.Levels.{Pair}
use Rattle.cat_records.specs.declared.record.EntryFields.{EntryFields}
use Rattle.cat_records.specs.declared.record.FileRecord.{FileRecord}
use Rattle.cat_records.specs.declared.record.FolderRecord.{FolderRecord}
use Rattle.cat_records.specs.declared.record.CatRecord.{CatRecord}
use Rattle.cat_records.specs.declared.record.CatRecord.TheVariants.{Folder, File, Thread}
use Rattle.catalog.specs.Children.{as_child, children_in}
use Rattle.catalog.specs.Pairs.{value_at}
use Rattle.hard_links.specs.Identity.{file_or}
use Rattle.hfs_language.specs.Written.{FitsPath}
use Rattle.hfs_language.specs.declared.command.Command.TheVariants as command
use Rattle.hfs_language.specs.declared.refusal.Refusal.{Refusal}
use Rattle.hfs_language.specs.declared.refusal.Refusal.TheVariants as refusal
use Rattle.hfs_language.specs.declared.reply.Facts.{Facts}
use Rattle.hfs_language.specs.declared.reply.Reply.TheVariants as reply
use Rattle.hfs_model.specs.Extras.{entry_sight, file_sight, sight_in}
use Rattle.hfs_model.specs.Plain.{IsPlainTree, entries_in, entry_at, is_at, link_bits, node_at, names_of, is_node}
use Rattle.hfs_model.specs.Sorted.{kept}
use Rattle.hfs_model.specs.Step.{journal_name, journal_info_name, private_name, is_private_name, is_private_path, most_bytes, root_entry, walk, to_node, facts_of, on, step, then_, to_read, unless}
use Rattle.hfs_model.specs.declared.kinds.Sight.{Sight}
use Rattle.hfs_model.specs.declared.kinds.Sight.TheVariants as sight
use Rattle.hfs_model.specs.declared.plain.PlainEntry.{PlainEntry}
use Rattle.hfs_model.specs.declared.plain.PlainNode.{PlainNode}
use Rattle.hfs_model.specs.declared.plain.PlainTree.{PlainTree}
use Rattle.hfs_volume.specs.Changes.{AreSorted}
use Rattle.hfs_volume.specs.Content.{VolumeState, records_of, overflow_in_volume}
use Rattle.hfs_volume.specs.Entries.{LiesIn, is_it, below, HaveIds, IsUserId, IsRoot, count_in}
use Rattle.hfs_volume.specs.Laws.{IsShaped, one_if}
use Rattle.hfs_volume.specs.Links.{private_id, folder_id, is_shared_file, is_link_to, links_to, node_name}
use Rattle.hfs_volume.specs.Records.{Placed, Attribute, entries_of, record_at, is_placed_at, id_of, id_in, is_empty, is_folder, is_file, is_link, is_link_type, special_of, valence_in}
use Rattle.hfs_volume.specs.Sound.{IsSoundVolume}
use Rattle.hfs_volume.specs.TreeOf.{is_hidden, is_seen, is_linked, is_plain_folder, is_plain_file, id_or_0, shared_file, seen_entry, plain_entry, plain_node, node_in, threaded_node, type_bits_in, BytesOf, empty_forks}
use Rattle.hfs_volume.proofs.Counting.{length_kept}
use Rattle.hfs_volume.proofs.Fitting.{differs, none_counted, not_same}
use Rattle.hfs_volume.proofs.Flat.{found_none, found_some}
use Rattle.hfs_volume.proofs.Hiding.{same_entry, one_there}
use Rattle.hfs_volume.proofs.Marks.{link_is_seen, number_is, own_unseen, shared_hidden}
use Rattle.hfs_volume.proofs.Members.{each_of, in_one, kept_cases, kept_stands}
use Rattle.hfs_volume.proofs.NodesOf.{IsNodeOf, nodes_from}
use Rattle.hfs_volume.proofs.Reaching.{IsFolder, IsSeen, Shows, err_or_ok, front_is, is_seen_entry, unless_ok, seen_shows, seen_visible, shows_seen, folder_no_link}
use Rattle.hfs_volume.proofs.Seeing.{same_number}
use Rattle.hfs_volume.proofs.Sharing.{Links, shared_found, shared_is, linked_is, links_it}
use Rattle.hfs_volume.proofs.Sides.{entry_is_record, is_entry_of, one_key}
use Rattle.volume_base.specs.Stating.{own_entries, entries_told, names_told, facts_told, facts_in}
use Rattle.volume_base.specs.Listing.{replied}
use Rattle.volume_base.specs.Nodes.{folder_node, root_node, file_node, node_reached, node_in as node_for}
use Rattle.volume_base.specs.Reaching.{named, walk_in}
use Rattle.volume_base.specs.Reading.{HasFile, to_read as to_read_, file_in}
use Rattle.volume_base.specs.declared.nodes.Node.{Node}
use Rattle.volume_base.specs.declared.nodes.Node.TheVariants as node
use Rattle.volume_base.specs.declared.reaching.Reached.{Reached}
use Rattle.volume_base.specs.declared.reaching.Reached.TheVariants as reached
use Rattle.volume_base.proofs.Identities.{key_found}
use Rattle.volume_base.proofs.Tallies.{count_seen, count_entries, count_below, count_four}
use Rattle.volume_base.proofs.Walked.{Agree, IsInner, IsReached, ComesFrom, in_folder, path_same}

-- the file in a record that is one's
file_of : (value : CatRecord) → is_file value ≡ true → (file : FileRecord) × (value ≡ File file)
file_of (Folder folder) is = absurd (true≢false (sym is))
file_of (File file) is = (file, refl)
file_of (Thread thread) is = absurd (true≢false (sym is))

-- the folder in one that is a folder's
folder_of : (value : CatRecord) → is_folder value ≡ true → (folder : FolderRecord) × (value ≡ Folder folder)
folder_of (Folder folder) is = (folder, refl)
folder_of (File file) is = absurd (true≢false (sym is))
folder_of (Thread thread) is = absurd (true≢false (sym is))

module _ (volume : VolumeState) (sound : IsSoundVolume volume) (sorted : AreSorted volume.catalog_pairs)
    (tree : PlainTree) (same_entries : tree.entries ≡ flat_map (seen_entry (records_of volume)) (records_of volume)) (plain : IsPlainTree tree)
  where
    abbrev records : List Placed
    records = records_of volume

    abbrev entries : List Placed
    entries = entries_of records

    abbrev next : ℕ
    next = volume.head.next_catalog_id

    shaped : IsShaped volume
    shaped = record {
      threads = sound.entries.threads;
      rooted = sound.entries.rooted;
      ids = sound.entries.ids;
      links = sound.links.good;
      attributes = sound.attributes;
      header = sound.blocks.header;
      alternate = sound.blocks.alternate;
      files = sound.blocks.files;
      forks = sound.blocks.forks;
    }

    same : (p q : Placed) → Contains entries p → Contains entries q → id_of p ≡ id_of q → p ≡ q
    same = same_entry next entries sound.entries.ids

    -- ---- the file that a link names

    record Goes (link : Placed) : Type 0 where
      file : Placed
      stands : Contains entries file
      shared : is_shared_file records (special_of link) file ≡ true
      found : shared_file records (special_of link) ≡ Some file
      id : (plain_entry records link).id ≡ id_of file

    goes : (link : Placed) → Contains entries link → is_link link ≡ true → Goes link
    goes link stands is =
        let good = (sound.links.good.links link stands is).node in
        let found = shared_found records sorted (special_of link) good.0 good.1 good.2 in
        record { file = good.0; stands = good.1; shared = good.2; found = found; id = ap (λ b. if b then id_or_0 (shared_file records (special_of link)) else id_of link) is ∙ ap id_or_0 found }

    own_id : (p : Placed) → is_link p ≡ false → (plain_entry records p).id ≡ id_of p
    own_id p isnt = ap (λ b. if b then id_or_0 (shared_file records (special_of p)) else id_of p) isnt

    -- a file that links name isn't one that users see
    unshared : (reference : ℕ) (file p : Placed) → is_shared_file records reference file ≡ true → is_hidden records p.parent ≡ false → file ≡ p → ⊥
    unshared reference file p shared visible is = true≢false (sym (shared_hidden volume shaped reference file shared) ∙ ap (λ (q : Placed). is_hidden records q.parent) is ∙ visible)

    -- ---- how many names a file has

    names_counted : (id : ℕ) → names_of tree id ≡ count_by (λ (p : Placed). is_seen records p && ((plain_entry records p).id == id)) records
    names_counted id = ap (count_by (λ (e : PlainEntry). e.id == id)) same_entries ∙ count_seen records (λ (e : PlainEntry). e.id == id) records

    -- one that stands under a name of its own has this name alone
    one_name : (p : Placed) → Contains entries p → is_hidden records p.parent ≡ false → 0 < names_of tree (id_of p) → names_of tree (id_of p) ≡ 1
    one_name p stands visible some =
        let few = count_below (λ (x : Placed). is_seen records x && ((plain_entry records x).id == id_of p)) (λ (x : Placed). not (is_empty x.name) && (id_of x == id_of p)) records each in
        omega (arith, some, few, names_counted (id_of p), count_entries (λ (x : Placed). id_of x == id_of p) records, sound.entries.ids.distinct (id_of p))
      where
        by_link : (x : Placed) → Contains entries x → is_empty x.name ≡ false → (plain_entry records x).id ≡ id_of p → (b : Bool) → is_link x ≡ b → (not (is_empty x.name) && (id_of x == id_of p)) ≡ true
        by_link x there named is false isnt = (λ i. not (named i) && ((sym (own_id x isnt) ∙ is) i == id_of p)) ∙ same_number (id_of p)
        by_link x there named is true link = let to = goes x there link in absurd (unshared (special_of x) to.file p to.shared visible (same to.file p to.stands stands (sym to.id ∙ is)))

        each : (x : Placed) → Contains records x → (is_seen records x && ((plain_entry records x).id == id_of p)) ≡ true → (not (is_empty x.name) && (id_of x == id_of p)) ≡ true
        each x there is =
            let tests = and_parts (is_seen records x) ((plain_entry records x).id == id_of p) is in
            let shows = seen_shows records x tests.0 in
            by_link x (is_entry_of records x there shows.named) shows.named (eqb-true (plain_entry records x).id (id_of p) tests.1) (is_link x) refl

    -- one that links name has as many as its record says
    link_names : (reference : ℕ) (file : Placed) → Contains entries file → is_shared_file records reference file ≡ true → names_of tree (id_of file) ≡ special_of file
    link_names reference file stands shared =
        let fewer = count_below (λ (x : Placed). is_seen records x && ((plain_entry records x).id == id_of file)) (λ (x : Placed). not (is_empty x.name) && is_link_to reference x) records there in
        let more = count_below (λ (x : Placed). not (is_empty x.name) && is_link_to reference x) (λ (x : Placed). is_seen records x && ((plain_entry records x).id == id_of file)) records back in
        omega (arith, fewer, more, names_counted (id_of file), count_entries (is_link_to reference) records, length_kept (is_link_to reference) entries, sound.links.counts reference file stands shared)
      where
        by_link : (x : Placed) → Contains entries x → is_empty x.name ≡ false → is_hidden records x.parent ≡ false → (plain_entry records x).id ≡ id_of file → (b : Bool) → is_link x ≡ b → (not (is_empty x.name) && (is_link x && (special_of x == reference))) ≡ true
        by_link x entry named visible is false isnt = absurd (unshared reference file x shared visible (sym (same x file entry stands (sym (own_id x isnt) ∙ is))))
        by_link x entry named visible is true link =
            let to = goes x entry link in
            let one : to.file ≡ file = same to.file file to.stands stands (sym to.id ∙ is) in
            let number : special_of x ≡ reference = number_is (private_id records) (special_of x) reference file
            (shared_is (private_id records) (special_of x) file (subst (λ (q : Placed). is_shared_file records (special_of x) q ≡ true) one to.shared)) (shared_is (private_id records) reference file shared) in
            (λ i. not (named i) && (link i && (number i == reference))) ∙ same_number reference

        there : (x : Placed) → Contains records x → (is_seen records x && ((plain_entry records x).id == id_of file)) ≡ true → (not (is_empty x.name) && is_link_to reference x) ≡ true
        there x has is =
            let tests = and_parts (is_seen records x) ((plain_entry records x).id == id_of file) is in
            let shows = seen_shows records x tests.0 in
            by_link x (is_entry_of records x has shows.named) shows.named shows.visible (eqb-true (plain_entry records x).id (id_of file) tests.1) (is_link x) refl

        named_is : (b : Bool) → not b ≡ true → b ≡ false
        named_is true is = sym is
        named_is false is = refl

        back : (x : Placed) → Contains records x → (not (is_empty x.name) && is_link_to reference x) ≡ true → (is_seen records x && ((plain_entry records x).id == id_of file)) ≡ true
        back x has is =
            let tests = and_parts (not (is_empty x.name)) (is_link_to reference x) is in
            let links = and_parts (is_link x) (special_of x == reference) tests.1 in
            let entry = is_entry_of records x has (named_is (is_empty x.name) tests.0) in
            let to = goes x entry links.0 in
            let found : Some to.file ≡ Some file = sym to.found ∙ ap (shared_file records) (eqb-true (special_of x) reference links.1) ∙ shared_found records sorted reference file stands shared in
            let id : (plain_entry records x).id ≡ id_of file = to.id ∙ ap id_or_0 found in
            (λ i. link_is_seen volume shaped sorted x entry links.0 i && (id i == id_of file)) ∙ same_number (id_of file)

    -- ---- how many entries a folder has

    entries_counted : (id : ℕ) → length (entries_in tree id) ≡ count_by (λ (p : Placed). is_seen records p && (p.parent == id)) records
    entries_counted id =
        length_kept (λ (e : PlainEntry). e.parent == id) tree.entries ∙ ap (count_by (λ (e : PlainEntry). e.parent == id)) same_entries ∙ count_seen records (λ (e : PlainEntry). e.parent == id) records

    no_1 : (id : ℕ) → IsFolder records next sound.entries.ids sound.entries.rooted id → id ≡ 1 → ⊥
    no_1 id is one = elim (each_of (λ (q : Placed). IsUserId next (id_of q)) entries sound.entries.ids.each is.folder.0 is.folder.1) [
      | inl two ↦ omega (arith, two, one, is.folder.3)
      | inr high ↦ omega (arith, high.0, one, is.folder.3)
    ]

    empty_named : (b : Bool) → not b ≡ true → b ≡ false
    empty_named true is = sym is
    empty_named false is = refl

    -- users see each entry of a folder other than the root
    pub elsewhere : (id : ℕ) → IsFolder records next sound.entries.ids sound.entries.rooted id → (id == 2) ≡ false → length (entries_in tree id) ≡ count_in entries id
    elsewhere id is not_root =
        let fewer = count_below (λ (x : Placed). is_seen records x && (x.parent == id)) (λ (x : Placed). not (is_empty x.name) && (x.parent == id)) records there in
        let more = count_below (λ (x : Placed). not (is_empty x.name) && (x.parent == id)) (λ (x : Placed). is_seen records x && (x.parent == id)) records back in
        omega (arith, fewer, more, entries_counted id, count_entries (λ (x : Placed). x.parent == id) records)
      where
        there : (x : Placed) → Contains records x → (is_seen records x && (x.parent == id)) ≡ true → (not (is_empty x.name) && (x.parent == id)) ≡ true
        there x has is = let tests = and_parts (is_seen records x) (x.parent == id) is in λ i. not ((seen_shows records x tests.0).named i) && tests.1 i

        back : (x : Placed) → Contains records x → (not (is_empty x.name) && (x.parent == id)) ≡ true → (is_seen records x && (x.parent == id)) ≡ true
        back x has both =
            let tests = and_parts (not (is_empty x.name)) (x.parent == id) both in
            let parent : x.parent ≡ id = eqb-true x.parent id tests.1 in
            let shows : Shows records x = record {
              named = empty_named (is_empty x.name) tests.0;
              parent = differs x.parent 1 (λ one. no_1 id is (sym parent ∙ one));
              visible = ap (is_hidden records) parent ∙ is.visible;
              not_own = ap (λ n. (n == 2) && is_private_name x.name) parent ∙ ap (λ b. b && is_private_name x.name) not_root;
            } in
            λ i. shows_seen records x shows i && tests.1 i

    -- one entry of the root has a name
    at_one : (name : List ℕ) (p : Placed) → is_empty name ≡ false → record_at records 2 name ≡ Some p → count_by (is_placed_at 2 name) records ≡ 1
    at_one name p some found =
        let it = found_some (is_placed_at 2 name) records p found in
        let few = count_below (is_placed_at 2 name) (λ (x : Placed). not (is_empty x.name) && (id_of x == id_of p)) records (each it) in
        omega (arith, one_there (is_placed_at 2 name) records p it.0 it.1, few, count_entries (λ (x : Placed). id_of x == id_of p) records, sound.entries.ids.distinct (id_of p))
      where
        each : Contains records p × (is_placed_at 2 name p ≡ true) → (x : Placed) → Contains records x → is_placed_at 2 name x ≡ true → (not (is_empty x.name) && (id_of x == id_of p)) ≡ true
        each it x has at =
            let its = and_parts (p.parent == 2) (bytes_eq p.name name) it.1 in
            let tests = and_parts (x.parent == 2) (bytes_eq x.name name) at in
            let named : x.name ≡ name = (bytes_eq-Decides x.name name).0 tests.1 in
            let one : x ≡ p = one_key records sorted x p has it.0 (eqb-true x.parent 2 tests.0 ∙ sym (eqb-true p.parent 2 its.0)) (named ∙ sym ((bytes_eq-Decides p.name name).0 its.1)) in
            (λ i. not ((ap is_empty named ∙ some) i) && (id_of (one i) == id_of p)) ∙ same_number (id_of p)

    -- in the root all but the volume's own
    in_root : IsFolder records next sound.entries.ids sound.entries.rooted 2 → length (entries_in tree 2) ≡ count_in entries 2 - own_entries (private_id records)
    in_root is = by_private (record_at records 2 private_name) refl
      where
        at_name : List ℕ → Placed → Bool
        at_name name x = (x.parent == 2) && bytes_eq x.name name

        absent : (x : Placed) → (x.parent == 2) ≡ false → one_if (not (is_empty x.name) && (x.parent == 2))
            ≡ one_if (is_seen records x && (x.parent == 2)) + (one_if ((x.parent == 2) && bytes_eq x.name journal_name) + (one_if ((x.parent == 2) && bytes_eq x.name journal_info_name) + one_if ((x.parent == 2) && bytes_eq x.name private_name)))
        absent x isnt =
            ap (λ b. one_if (not (is_empty x.name) && b)) isnt ∙ ap one_if (and-false (not (is_empty x.name)))
            ∙ sym (ap (λ b. one_if (is_seen records x && b) + (one_if (b && bytes_eq x.name journal_name) + (one_if (b && bytes_eq x.name journal_info_name) + one_if (b && bytes_eq x.name private_name)))) isnt
            ∙ ap (λ b. one_if b + (0 + (0 + 0))) (and-false (is_seen records x)))

        parts : Bool → Bool → Bool → Bool → Bool → Bool → Type 0
        parts n par s a b c = one_if (n && par) ≡ one_if (s && par) + (one_if (par && a) + (one_if (par && b) + one_if (par && c)))

        join : (n par s a b c n' s' a' b' c' : Bool) → n ≡ n' → par ≡ true → s ≡ s' → a ≡ a' → b ≡ b' → c ≡ c' → parts n' true s' a' b' c' → parts n par s a b c
        join n par s a b c n' s' a' b' c' en ep es ea eb ec it =
            (λ i. one_if (en i && ep i)) ∙ it ∙ sym (λ i. one_if (es i && ep i) + (one_if (ep i && ea i) + (one_if (ep i && eb i) + one_if (ep i && ec i))))

        by_names : (x : Placed) → (x.parent == 2) ≡ true → (a b c n : Bool) → bytes_eq x.name journal_name ≡ a → bytes_eq x.name journal_info_name ≡ b → bytes_eq x.name private_name ≡ c → is_empty x.name ≡ n
            → parts (not (is_empty x.name)) (x.parent == 2) (is_seen records x) (bytes_eq x.name journal_name) (bytes_eq x.name journal_info_name) (bytes_eq x.name private_name)
        by_names x par true b c n one two three named =
            let is_it : x.name ≡ journal_name = (bytes_eq-Decides x.name journal_name).0 one in
            join (not (is_empty x.name)) (x.parent == 2) (is_seen records x) (bytes_eq x.name journal_name) (bytes_eq x.name journal_info_name) (bytes_eq x.name private_name) true false true false false
            (ap (λ l. not (is_empty l)) is_it) par (own_unseen volume shaped x (λ i. par i && is_private_name (is_it i))) one (ap (λ l. bytes_eq l journal_info_name) is_it) (ap (λ l. bytes_eq l private_name) is_it) refl
        by_names x par false true c n one two three named =
            let is_it : x.name ≡ journal_info_name = (bytes_eq-Decides x.name journal_info_name).0 two in
            join (not (is_empty x.name)) (x.parent == 2) (is_seen records x) (bytes_eq x.name journal_name) (bytes_eq x.name journal_info_name) (bytes_eq x.name private_name) true false false true false
            (ap (λ l. not (is_empty l)) is_it) par (own_unseen volume shaped x (λ i. par i && is_private_name (is_it i))) one two (ap (λ l. bytes_eq l private_name) is_it) refl
        by_names x par false false true n one two three named =
            let is_it : x.name ≡ private_name = (bytes_eq-Decides x.name private_name).0 three in
            join (not (is_empty x.name)) (x.parent == 2) (is_seen records x) (bytes_eq x.name journal_name) (bytes_eq x.name journal_info_name) (bytes_eq x.name private_name) true false false false true
            (ap (λ l. not (is_empty l)) is_it) par (own_unseen volume shaped x (λ i. par i && is_private_name (is_it i))) one two three refl
        by_names x par false false false false one two three named =
            let shows : Shows records x = record {
              named = named;
              parent = differs x.parent 1 (λ parent. omega (arith, parent, eqb-true x.parent 2 par));
              visible = ap (is_hidden records) (eqb-true x.parent 2 par) ∙ is.visible;
              not_own = (λ i. par i && (one i || two i || three i));
            } in
            join (not (is_empty x.name)) (x.parent == 2) (is_seen records x) (bytes_eq x.name journal_name) (bytes_eq x.name journal_info_name) (bytes_eq x.name private_name) true true false false false
            (ap not named) par (shows_seen records x shows) one two three refl
        by_names x par false false false true one two three named =
            join (not (is_empty x.name)) (x.parent == 2) (is_seen records x) (bytes_eq x.name journal_name) (bytes_eq x.name journal_info_name) (bytes_eq x.name private_name) false false false false false
            (ap not named) par (unseen (is_seen records x) refl) one two three refl
          where
            unseen : (b : Bool) → is_seen records x ≡ b → is_seen records x ≡ false
            unseen false isnt = isnt
            unseen true seen = absurd (true≢false (sym named ∙ (seen_shows records x seen).named))

        by_parent : (x : Placed) → (b : Bool) → (x.parent == 2) ≡ b → parts (not (is_empty x.name)) (x.parent == 2) (is_seen records x) (bytes_eq x.name journal_name) (bytes_eq x.name journal_info_name) (bytes_eq x.name private_name)
        by_parent x false isnt = absent x isnt
        by_parent x true par = by_names x par (bytes_eq x.name journal_name) (bytes_eq x.name journal_info_name) (bytes_eq x.name private_name) (is_empty x.name) refl refl refl refl

        sums : count_by (λ (x : Placed). not (is_empty x.name) && (x.parent == 2)) records
            ≡ count_by (λ (x : Placed). is_seen records x && (x.parent == 2)) records + (count_by (is_placed_at 2 journal_name) records + (count_by (is_placed_at 2 journal_info_name) records + count_by (is_placed_at 2 private_name) records))
        sums = count_four (λ (x : Placed). not (is_empty x.name) && (x.parent == 2)) (λ (x : Placed). is_seen records x && (x.parent == 2)) (is_placed_at 2 journal_name) (is_placed_at 2 journal_info_name) (is_placed_at 2 private_name) records
            (λ x stands. by_parent x (x.parent == 2) refl)

        journal : count_by (is_placed_at 2 journal_name) records ≡ 1
        journal = at_one journal_name sound.attributes.journal.0 refl sound.attributes.journal.2

        info : count_by (is_placed_at 2 journal_info_name) records ≡ 1
        info = at_one journal_info_name sound.attributes.info_block.0 refl sound.attributes.info_block.2

        by_private : (o : Option Placed) → record_at records 2 private_name ≡ o → length (entries_in tree 2) ≡ count_in entries 2 - own_entries (private_id records)
        by_private None none =
            let more = none_counted (is_placed_at 2 private_name) records (found_none (is_placed_at 2 private_name) records none) in
            omega (arith, sums, journal, info, more, entries_counted 2, count_entries (λ (x : Placed). x.parent == 2) records) ∙ sym (ap (λ o. count_in entries 2 - own_entries (folder_id o)) none)
        by_private (Some p) found =
            let more = at_one private_name p refl found in
            omega (arith, sums, journal, info, more, entries_counted 2, count_entries (λ (x : Placed). x.parent == 2) records)
            ∙ sym (ap (λ o. count_in entries 2 - own_entries (folder_id o)) found ∙ ap (λ b. count_in entries 2 - own_entries (if b then Some (id_of p) else None)) (sound.links.good.private_folder p found))

    -- as many as users see
    pub entries_same : (folder : FolderRecord) (p : Placed) → Contains entries p → p.value ≡ Folder folder → IsFolder records next sound.entries.ids sound.entries.rooted folder.fields.id
        → length (entries_in tree folder.fields.id) ≡ entries_told (own_entries (private_id records)) folder.fields
    entries_same folder p stands value is = by_root (folder.fields.id == 2) refl
      where
        valence : folder.fields.count ≡ count_in entries folder.fields.id
        valence =
            sym (ap valence_in value) ∙ each_of (λ (q : Placed). is_folder q.value ≡ true → valence_in q.value ≡ count_in entries (id_of q)) entries sound.entries.counts.valences p stands (ap is_folder value)
            ∙ ap (λ v. count_in entries (id_in v)) value

        by_root : (b : Bool) → (folder.fields.id == 2) ≡ b → length (entries_in tree folder.fields.id) ≡ (if folder.fields.id == 2 then folder.fields.count - own_entries (private_id records) else folder.fields.count)
        by_root false isnt = elsewhere folder.fields.id is isnt ∙ sym valence ∙ sym (ap (λ b. if b then folder.fields.count - own_entries (private_id records) else folder.fields.count) isnt)
        by_root true root =
            let two : folder.fields.id ≡ 2 = eqb-true folder.fields.id 2 root in
            ap (λ n. length (entries_in tree n)) two ∙ in_root (subst (λ n. IsFolder records next sound.entries.ids sound.entries.rooted n) two is)
            ∙ ap (λ n. n - own_entries (private_id records)) (ap (count_in entries) (sym two) ∙ sym valence)
            ∙ sym (ap (λ b. if b then folder.fields.count - own_entries (private_id records) else folder.fields.count) root)

    -- ---- the folder or file that was reached

    module _ (attributes : List Attribute) (bytes_of : BytesOf) (same_nodes : tree.nodes ≡ flat_map (threaded_node attributes records bytes_of) records) where
      -- the record of a folder or file
      abbrev pub value_of : Node → CatRecord
      value_of (node.Folder folder) = Folder folder
      value_of (node.File file linked) = File file

      -- the folder or file of the tree that it is
      abbrev pub plain_of : Node → PlainNode
      plain_of (node.Folder folder) = plain_node attributes folder.fields true empty_forks false
      plain_of (node.File file linked) = plain_node attributes file.fields false (bytes_of.file file) linked

      -- a folder that users see has its entries, and a file so many names
      abbrev pub Counts : Node → Type 0
      Counts (node.Folder folder) = IsFolder records next sound.entries.ids sound.entries.rooted folder.fields.id
      Counts (node.File file linked) = names_of tree file.fields.id ≡ names_told file.fields linked

      -- a folder or file by its record is this one of the tree
      pub record IsNode (found : Node) (n : PlainNode) : Type 0 where
        pub entry : Placed
        pub stands : Contains entries entry
        pub value : entry.value ≡ value_of found
        pub is : n ≡ plain_of found
        pub counts : Counts found

      abbrev Tells : Placed → CatRecord → PlainNode → Type 0
      Tells p (Folder folder) n = n ≡ plain_node attributes folder.fields true empty_forks false
      Tells p (File file) n = n ≡ plain_node attributes file.fields false (bytes_of.file file) (is_linked records p)
      Tells p (Thread thread) n = ⊥

      tells_of : (p : Placed) (value : CatRecord) (n : PlainNode) → Contains (node_in attributes records bytes_of p value) n → Tells p value n
      tells_of p (Folder folder) n has = by_test (is_plain_folder records p) has
        where
          by_test : (b : Bool) → Contains (if b then plain_node attributes folder.fields true empty_forks false ∷ [] else []) n → n ≡ plain_node attributes folder.fields true empty_forks false
          by_test false none = absurd (omega (arith, none.1))
          by_test true one = in_one (plain_node attributes folder.fields true empty_forks false) n one
      tells_of p (File file) n has = by_test (is_plain_file records p) has
        where
          by_test : (b : Bool) → Contains (if b then plain_node attributes file.fields false (bytes_of.file file) (is_linked records p) ∷ [] else []) n → n ≡ plain_node attributes file.fields false (bytes_of.file file) (is_linked records p)
          by_test false none = absurd (omega (arith, none.1))
          by_test true one = in_one (plain_node attributes file.fields false (bytes_of.file file) (is_linked records p)) n one
      tells_of p (Thread thread) n has = absurd (omega (arith, has.1))

      module _ (n : PlainNode) (there : Contains tree.nodes n) where
        from : IsNodeOf attributes bytes_of records n
        from = nodes_from attributes bytes_of records n (subst (λ l. Contains l n) same_nodes there)

        -- the folder or file of an entry of its CNID
        tells : (p : Placed) → Contains entries p → n.id ≡ id_of p → Tells p p.value n
        tells p stands id =
            tells_of p p.value n (subst (λ (q : Placed). Contains (node_in attributes records bytes_of q q.value) n) (same from.entry p from.stands stands (sym from.id ∙ id)) from.has)

        abbrev root : Placed
        root = sound.entries.rooted.root.0

        not_1 : (x : ℕ) → LiesIn entries 2 x → x ≡ 1 → ⊥
        not_1 _ is_it one = omega (arith, one)
        not_1 _ (below x f stands is_a id lies) one = elim (each_of (λ (q : Placed). IsUserId next (id_of q)) entries sound.entries.ids.each f stands) [
          | inl two ↦ omega (arith, two, one, id)
          | inr high ↦ omega (arith, high.0, one, id)
        ]

        -- the root alone has parent 1
        only_root : (p : Placed) → Contains entries p → p.parent ≡ 1 → p ≡ root
        only_root p stands one = elim (each_of (λ (q : Placed). IsRoot q ⊎ LiesIn entries 2 q.parent) entries sound.entries.rooted.each p stands) [
          | inl is ↦ same p root stands sound.entries.rooted.root.1 (is.id ∙ sym sound.entries.rooted.root.2.id)
          | inr lies ↦ absurd (not_1 p.parent lies one)
        ]

        root_found : (folder : FolderRecord) → root.value ≡ Folder folder → root_node (children_in 1 volume.catalog_pairs) ≡ Ok (node.Folder folder)
        root_found folder value = by_list (kept (λ (p : Placed). p.parent == 1) entries) refl
          where
            by_list : (l : List Placed) → kept (λ (p : Placed). p.parent == 1) entries ≡ l → root_node (map as_child l) ≡ Ok (node.Folder folder)
            by_list [] is =
                let has = subst (λ l. Contains l root) is (kept_stands (λ (p : Placed). p.parent == 1) entries root sound.entries.rooted.root.1 (ap (λ k. k == 1) sound.entries.rooted.root.2.parent)) in absurd (omega (arith, has.1))
            by_list (p ∷ rest) is =
                let has = kept_cases (λ (q : Placed). q.parent == 1) entries p (subst (λ l. Contains l p) (sym is) (first p rest)) in
                ap (λ (q : Placed). folder_node q.value) (only_root p has.0 (eqb-true p.parent 1 has.1)) ∙ ap folder_node value
              where
                first : (q : Placed) (l : List Placed) → Contains (q ∷ l) q
                first q l = (0, omega arith, refl)

        -- what was reached by the records is this one
        module _ (e : PlainEntry) (id : n.id ≡ e.id) where
          of_root : e.id ≡ 2 → IsFolder records next sound.entries.ids sound.entries.rooted 2 → Agree IsNode (root_node (children_in 1 volume.catalog_pairs)) (Ok n)
          of_root two is =
              let it = folder_of root.value sound.entries.rooted.root.2.folder in
              let root_id : it.0.fields.id ≡ 2 = sym (ap id_in it.1) ∙ sound.entries.rooted.root.2.id in
              subst (λ (r : Result Node Refusal). Agree IsNode r (Ok n)) (sym (root_found it.0 it.1)) (record {
                entry = root;
                stands = sound.entries.rooted.root.1;
                value = it.1;
                is = subst (λ v. Tells root v n) it.1 (tells root sound.entries.rooted.root.1 (id ∙ two ∙ sym sound.entries.rooted.root.2.id));
                counts = subst (λ k. IsFolder records next sound.entries.ids sound.entries.rooted k) (sym root_id) is;
              })

          of_file : (parent : ℕ) (name : List ℕ) (file : FileRecord) → Contains entries (record { parent = parent; name = name; value = File file }) → Shows records (record { parent = parent; name = name; value = File file })
              → e ≡ plain_entry records (record { parent = parent; name = name; value = File file }) → IsNode (file_node volume.catalog_pairs (private_id records) file) n
          of_file parent name file stands shows is = by_link (is_link_type file.fields) refl
            where
              p : Placed
              p = record { parent = parent; name = name; value = File file }

              own : (o : Option ℕ) → is_link_type file.fields ≡ false → file_node volume.catalog_pairs o file ≡ node.File file false
              own None isnt = refl
              own (Some private) isnt =
                  ap (λ b. let other = if b then file_or file (value_at volume.catalog_pairs private (node_name file.fields.special)) else file in node.File other (not (other.fields.id == file.fields.id))) isnt
                  ∙ ap (λ b. node.File file (not b)) (same_number file.fields.id)

              unlinked : (b : Bool) → is_linked records p ≡ b → b ≡ false
              unlinked false isnt = refl
              unlinked true linked = let links = linked_is records p linked in absurd (unshared (special_of links.link) p p links.names shows.visible refl)

              by_link : (b : Bool) → is_link_type file.fields ≡ b → IsNode (file_node volume.catalog_pairs (private_id records) file) n
              by_link false isnt =
                  let its_id : n.id ≡ file.fields.id = id ∙ ap (λ (x : PlainEntry). x.id) is ∙ own_id p isnt in
                  let told : n ≡ plain_node attributes file.fields false (bytes_of.file file) (is_linked records p) = tells p stands its_id in
                  subst (λ (f : Node). IsNode f n) (sym (own (private_id records) isnt)) (record {
                    entry = p;
                    stands = stands;
                    value = refl;
                    is = told ∙ ap (plain_node attributes file.fields false (bytes_of.file file)) (unlinked (is_linked records p) refl);
                    counts = one_name p stands shows.visible (subst (λ k. 0 < names_of tree k) its_id (plain.files n there (ap (λ (m : PlainNode). m.folder) told)));
                  })
              by_link true link =
                  let to = goes p stands link in
                  let shared = shared_is (private_id records) file.fields.special to.file to.shared in
                  let it = file_of to.file.value shared.file in
                  let its_id : n.id ≡ id_of to.file = id ∙ ap (λ (x : PlainEntry). x.id) is ∙ to.id in
                  let told : n ≡ plain_node attributes it.0.fields false (bytes_of.file it.0) (is_linked records to.file) = subst (λ v. Tells to.file v n) it.1 (tells to.file to.stands its_id) in
                  let found : value_at volume.catalog_pairs shared.folder (node_name file.fields.special) ≡ Some (File it.0) =
                  ap (option_map (λ (q : Placed). q.value)) (key_found volume.catalog_pairs sorted to.file (entry_is_record records to.file to.stands) shared.folder (node_name file.fields.special)
                  (ap (λ k. k == shared.folder) shared.parent ∙ same_number shared.folder) ((bytes_eq-Decides to.file.name (node_name file.fields.special)).1 shared.name)) ∙ ap Some it.1 in
                  let other : it.0.fields.id ≡ file.fields.id → ⊥ = λ one. unshared file.fields.special to.file p to.shared shows.visible (same to.file p to.stands stands (ap id_in it.1 ∙ one)) in
                  let is_it : file_node volume.catalog_pairs (private_id records) file ≡ node.File it.0 true =
                  ap (λ o. file_node volume.catalog_pairs o file) shared.private_is
                  ∙ ap (λ b. let other_file = if b then file_or file (value_at volume.catalog_pairs shared.folder (node_name file.fields.special)) else file in node.File other_file (not (other_file.fields.id == file.fields.id))) link
                  ∙ ap (λ (o : Option CatRecord). let other_file = file_or file o in node.File other_file (not (other_file.fields.id == file.fields.id))) found
                  ∙ ap (λ b. node.File it.0 (not b)) (differs it.0.fields.id file.fields.id other) in
                  subst (λ (f : Node). IsNode f n) (sym is_it) (record {
                    entry = to.file;
                    stands = to.stands;
                    value = it.1;
                    is = told ∙ ap (plain_node attributes it.0.fields false (bytes_of.file it.0)) (links_it records to.file (record { link = p; stands = stands; is_one = link; names = to.shared }));
                    counts = ap (names_of tree) (sym (ap id_in it.1)) ∙ link_names file.fields.special to.file to.stands to.shared ∙ ap (λ v. special_of (record { parent = to.file.parent; name = to.file.name; value = v })) it.1;
                  })

          pub of_reached : (at : Reached) → ComesFrom volume.catalog_pairs next sound.entries.ids sound.entries.rooted sound.entries.threads (overflow_in_volume volume) sound.links.good sorted tree same_entries plain at e
              → (e.folder ≡ true → IsFolder records next sound.entries.ids sound.entries.rooted e.id) → Agree IsNode (node_reached volume.catalog_pairs (private_id records) at) (Ok n)
          of_reached reached.Root comes is =
              let two : e.id ≡ 2 = ap (λ (x : PlainEntry). x.id) comes in
              of_root two (subst (λ k. IsFolder records next sound.entries.ids sound.entries.rooted k) two (is (ap (λ (x : PlainEntry). x.folder) comes)))
          of_reached (reached.Folder folder) comes is =
              let its_id : e.id ≡ folder.fields.id = ap (λ (x : PlainEntry). x.id) comes.is in
              record {
                entry = record { parent = comes.parent; name = comes.name; value = Folder folder };
                stands = comes.stands;
                value = refl;
                is = tells (record { parent = comes.parent; name = comes.name; value = Folder folder }) comes.stands (id ∙ its_id);
                counts = subst (λ k. IsFolder records next sound.entries.ids sound.entries.rooted k) its_id (is (ap (λ (x : PlainEntry). x.folder) comes.is));
              }
          of_reached (reached.File file) comes is = of_file comes.parent comes.name file comes.stands comes.shows comes.is

      pub node_same : (path : List (List ℕ)) → is_private_path path ≡ false → FitsPath path → Agree IsNode (node_for volume.catalog_pairs (private_id records) path) (to_node tree path)
      node_same path not_own fits =
          by_walk (walk_in volume.catalog_pairs reached.Root path) (walk tree root_entry path)
          (path_same volume.catalog_pairs next sound.entries.ids sound.entries.rooted sound.entries.threads (overflow_in_volume volume) sound.links.good sorted tree same_entries plain path not_own fits)
        where
          by_walk : (r : Result Reached Refusal) (s : Result PlainEntry Refusal)
              → Agree (IsReached volume.catalog_pairs next sound.entries.ids sound.entries.rooted sound.entries.threads (overflow_in_volume volume) sound.links.good sorted tree same_entries plain) r s
              → Agree IsNode (then_ r (node_reached volume.catalog_pairs (private_id records))) (then_ s (λ at. ok_or (node_at tree at.id) refusal.NotFound))
          by_walk (Err why) (Err other) agree = agree
          by_walk (Ok at) (Err other) never = absurd never
          by_walk (Err why) (Ok e) never = absurd never
          by_walk (Ok at) (Ok e) it =
              let found = found_some (is_node e.id) tree.nodes it.node.0 it.node.1 in
              subst (λ o. Agree IsNode (node_reached volume.catalog_pairs (private_id records) at) (ok_or o refusal.NotFound)) (sym it.node.1)
              (of_reached it.node.0 found.0 e (eqb-true it.node.0.id e.id found.1) at it.comes it.is_folder)

      -- ---- what stands under a name

      -- a folder of the tree is one that users see
      pub folder_here : (n : PlainNode) → Contains tree.nodes n → n.folder ≡ true → IsFolder records next sound.entries.ids sound.entries.rooted n.id
      folder_here n there folder = of_value (from n there).entry (from n there).stands (from n there).id (from n there).entry.value refl (from n there).has
        where
          of_value : (p : Placed) → Contains entries p → n.id ≡ id_of p → (v : CatRecord) → p.value ≡ v → Contains (node_in attributes records bytes_of p v) n → IsFolder records next sound.entries.ids sound.entries.rooted n.id
          of_value p stands id (Folder f) is has = by_test (is_plain_folder records p) refl has
            where
              by_seen : (a b : Bool) → (id_of p == 2) ≡ a → is_seen records p ≡ b → is_plain_folder records p ≡ true → IsFolder records next sound.entries.ids sound.entries.rooted n.id
              by_seen true b root seen named =
                  subst (λ k. IsFolder records next sound.entries.ids sound.entries.rooted k) (sym (id ∙ eqb-true (id_of p) 2 root)) (front_is records next sound.entries.ids sound.entries.rooted tree same_entries ([] ∷ []) root_entry refl refl refl refl).0
              by_seen false true root seen named = record {
                folder = (p, stands, ap is_folder is, sym id);
                visible = ap (is_hidden records) id ∙ seen_visible records next sound.entries.ids sound.entries.rooted p stands (seen_shows records p seen);
              }
              by_seen false false root seen named = absurd (true≢false (sym named ∙ (λ i. root i || seen i)))

              by_test : (b : Bool) → is_plain_folder records p ≡ b → Contains (if b then plain_node attributes f.fields true empty_forks false ∷ [] else []) n → IsFolder records next sound.entries.ids sound.entries.rooted n.id
              by_test true named one = by_seen (id_of p == 2) (is_seen records p) refl refl named
              by_test false named none = absurd (omega (arith, none.1))
          of_value p stands id (File f) is has = by_test (is_plain_file records p) has
            where
              by_test : (b : Bool) → Contains (if b then plain_node attributes f.fields false (bytes_of.file f) (is_linked records p) ∷ [] else []) n → IsFolder records next sound.entries.ids sound.entries.rooted n.id
              by_test true one = absurd (true≢false (sym folder ∙ ap (λ (m : PlainNode). m.folder) (in_one (plain_node attributes f.fields false (bytes_of.file f) (is_linked records p)) n one)))
              by_test false none = absurd (omega (arith, none.1))
          of_value p stands id (Thread f) is none = absurd (omega (arith, none.1))

      -- what a folder or file is seen as, by its record
      abbrev pub sight_by : Result Node Refusal → Sight
      sight_by (Ok (node.Folder folder)) = sight.Folder folder.fields.id
      sight_by (Ok (node.File file linked)) = if type_bits_in file.fields.mode == link_bits then sight.Link (take 1024 (bytes_of.file file).data_bytes) else sight.File
      sight_by (Err why) = sight.Absent

      -- what stands under a name of a folder by the records is what stands there on the tree
      pub sight_same : (id : ℕ) (name : List ℕ) → IsFolder records next sound.entries.ids sound.entries.rooted id → is_empty name ≡ false → ((id == 2) && is_private_name name) ≡ false
          → sight_by (then_ (named (value_at volume.catalog_pairs id name)) (node_reached volume.catalog_pairs (private_id records))) ≡ sight_in tree id name
      sight_same id name is some free =
          by_entry (named (value_at volume.catalog_pairs id name)) (entry_at tree id name)
          (in_folder volume.catalog_pairs next sound.entries.ids sound.entries.rooted sound.entries.threads (overflow_in_volume volume) sound.links.good sorted tree same_entries plain id name is some free)
        where
          by_found : (r : Result Node Refusal) (e : PlainEntry) (n : PlainNode) → e.id ≡ n.id → n.folder ≡ e.folder → node_at tree e.id ≡ Some n → Agree IsNode r (Ok n) → sight_by r ≡ entry_sight tree (Some e)
          by_found (Err why) e n id_is folder at never = absurd never
          by_found (Ok (node.Folder f)) e n id_is folder at it =
              ap sight.Folder (ap (λ (m : PlainNode). m.id) (sym it.is) ∙ sym id_is)
              ∙ sym (ap (λ b. if b then sight.Folder e.id else file_sight (node_at tree e.id)) (sym folder ∙ ap (λ (m : PlainNode). m.folder) it.is))
          by_found (Ok (node.File f linked)) e n id_is folder at it =
              ap (λ (m : PlainNode). file_sight (Some m)) (sym it.is) ∙ ap file_sight (sym at)
              ∙ sym (ap (λ b. if b then sight.Folder e.id else file_sight (node_at tree e.id)) (sym folder ∙ ap (λ (m : PlainNode). m.folder) it.is))

          by_entry : (r : Result Reached Refusal) (o : Option PlainEntry)
              → Agree (IsInner volume.catalog_pairs next sound.entries.ids sound.entries.rooted sound.entries.threads (overflow_in_volume volume) sound.links.good sorted tree same_entries plain) r (ok_or o refusal.NotFound)
              → sight_by (then_ r (node_reached volume.catalog_pairs (private_id records))) ≡ entry_sight tree o
          by_entry (Err why) None agree = refl
          by_entry (Ok at) None never = absurd never
          by_entry (Err why) (Some e) never = absurd never
          by_entry (Ok at) (Some e) it =
              let node = it.reached.node in
              let found = found_some (is_node e.id) tree.nodes node.0 node.1 in
              let id_is : node.0.id ≡ e.id = eqb-true node.0.id e.id found.1 in
              by_found (node_reached volume.catalog_pairs (private_id records) at) e node.0 (sym id_is) node.2 node.1 (of_reached node.0 found.0 e id_is at it.reached.comes it.reached.is_folder)

      -- nothing is seen under no name, nor under one of the volume's own
      pub nothing_seen : (id : ℕ) (name : List ℕ) → (is_empty name || ((id == 2) && is_private_name name)) ≡ true → sight_in tree id name ≡ sight.Absent
      nothing_seen id name unseen = by_entry (entry_at tree id name) refl
        where
          by_tests : (p : Placed) → Shows records p → p.parent ≡ id → p.name ≡ name → (a b : Bool) → is_empty name ≡ a → ((id == 2) && is_private_name name) ≡ b → (a || b) ≡ true → ⊥
          by_tests p shows parent same true b empty own both = true≢false (sym empty ∙ ap is_empty (sym same) ∙ shows.named)
          by_tests p shows parent same false true empty own both = true≢false (sym own ∙ (λ i. (sym parent i == 2) && is_private_name (sym same i)) ∙ shows.not_own)
          by_tests p shows parent same false false empty own both = true≢false (sym both)

          by_entry : (o : Option PlainEntry) → entry_at tree id name ≡ o → entry_sight tree o ≡ sight.Absent
          by_entry None found = refl
          by_entry (Some e) found =
              let it = found_some (is_at id name) tree.entries e found in
              let seen = is_seen_entry records e (subst (λ l. Contains l e) same_entries it.0) in
              let tests = and_parts (e.parent == id) (bytes_eq e.name name) it.1 in
              absurd (by_tests seen.placed (seen_shows records seen.placed seen.seen) (ap (λ (x : PlainEntry). x.parent) seen.is ∙ eqb-true e.parent id tests.0) (ap (λ (x : PlainEntry). x.name) seen.is ∙ (bytes_eq-Decides e.name name).0 tests.1)
              (is_empty name) ((id == 2) && is_private_name name) refl refl unseen)

      -- the file that a path stands for by the records is the one on the tree
      pub file_same : (path : List (List ℕ)) (long : ℕ) → is_private_path path ≡ false → FitsPath path → Agree (λ file n. IsNode (node.File file true) n ⊎ IsNode (node.File file false) n) (file_in volume.catalog_pairs (private_id records) path long) (to_read tree path long)
      file_same path long not_own fits = by_node (node_for volume.catalog_pairs (private_id records) path) (to_node tree path) (node_same path not_own fits)
        where
          of_linked : (linked : Bool) (file : FileRecord) (n : PlainNode) → IsNode (node.File file linked) n → IsNode (node.File file true) n ⊎ IsNode (node.File file false) n
          of_linked true file n it = inl it
          of_linked false file n it = inr it

          by_length : (b : Bool) (own : FileRecord) (n : PlainNode) → IsNode (node.File own true) n ⊎ IsNode (node.File own false) n
              → Agree (λ file m. IsNode (node.File file true) m ⊎ IsNode (node.File file false) m) (unless b refusal.TooLarge own) (unless b refusal.TooLarge n)
          by_length true own n it = refl
          by_length false own n it = it

          by_node : (r : Result Node Refusal) (s : Result PlainNode Refusal) → Agree IsNode r s
              → Agree (λ file n. IsNode (node.File file true) n ⊎ IsNode (node.File file false) n) (then_ r (to_read_ long)) (then_ (then_ s (λ n. unless n.folder refusal.IsFolder n)) (λ file. unless (nat_lt most_bytes long) refusal.TooLarge file))
          by_node (Err why) (Err other) agree = agree
          by_node (Ok found) (Err other) never = absurd never
          by_node (Err why) (Ok n) never = absurd never
          by_node (Ok (node.Folder folder)) (Ok n) it =
              subst (λ b. Agree (λ file m. IsNode (node.File file true) m ⊎ IsNode (node.File file false) m) (Err refusal.IsFolder) (then_ (unless b refusal.IsFolder n) (λ file. unless (nat_lt most_bytes long) refusal.TooLarge file)))
              (sym (ap (λ (m : PlainNode). m.folder) it.is)) refl
          by_node (Ok (node.File own linked)) (Ok n) it =
              subst (λ b. Agree (λ file m. IsNode (node.File file true) m ⊎ IsNode (node.File file false) m) (unless (nat_lt most_bytes long) refusal.TooLarge own) (then_ (unless b refusal.IsFolder n) (λ file. unless (nat_lt most_bytes long) refusal.TooLarge file)))
              (sym (ap (λ (m : PlainNode). m.folder) it.is)) (by_length (nat_lt most_bytes long) own n (of_linked linked own n it))

      -- ---- what `stat` answers

      facts_is : ((file : FileRecord) (p : Placed) → Contains entries p → p.value ≡ File file → length (bytes_of.file file).data_bytes ≡ file.data_fork.logical_size)
          → (found : Node) (n : PlainNode) → IsNode found n → facts_told (own_entries (private_id records)) found ≡ facts_of tree n
      facts_is sized (node.Folder folder) n it =
          ap (λ k. record {
            folder = true;
            id = folder.fields.id;
            size = k;
            links = 0;
            mode = (plain_node attributes folder.fields true empty_forks false).mode;
            created = folder.fields.created;
            changed = folder.fields.changed;
            attribute = folder.fields.attribute;
          }) (sym (entries_same folder it.entry it.stands it.value it.counts))
          ∙ sym (ap (facts_of tree) it.is)
      facts_is sized (node.File file linked) n it =
          (λ i. record {
            folder = false;
            id = file.fields.id;
            size = sym (sized file it.entry it.stands it.value) i;
            links = sym it.counts i;
            mode = (plain_node attributes file.fields false (bytes_of.file file) linked).mode;
            created = file.fields.created;
            changed = file.fields.changed;
            attribute = file.fields.attribute;
          })
          ∙ sym (ap (facts_of tree) it.is)

      pub facts_same : ((file : FileRecord) (p : Placed) → Contains entries p → p.value ≡ File file → length (bytes_of.file file).data_bytes ≡ file.data_fork.logical_size) → (path : List (List ℕ)) → is_private_path path ≡ false → FitsPath path
          → facts_in volume.catalog_pairs (private_id records) path ≡ (step tree (command.Stat path)).0
      facts_same sized path not_own fits = by_node (node_for volume.catalog_pairs (private_id records) path) (to_node tree path) (node_same path not_own fits)
        where
          by_node : (r : Result Node Refusal) (s : Result PlainNode Refusal) → Agree IsNode r s
              → replied r (λ found. reply.Facts (facts_told (own_entries (private_id records)) found)) ≡ (on tree s (λ n. (reply.Facts (facts_of tree n), tree))).0
          by_node (Err why) (Err other) agree = ap reply.No agree
          by_node (Ok found) (Err other) never = absurd never
          by_node (Err why) (Ok n) never = absurd never
          by_node (Ok found) (Ok n) it = ap reply.Facts (facts_is sized found n it)

      -- ---- what `read` answers

      -- the file of which bytes are asked has its record
      pub file_stands : (path : List (List ℕ)) (long : ℕ) (file : FileRecord) → is_private_path path ≡ false → FitsPath path → file_in volume.catalog_pairs (private_id records) path long ≡ Ok file → HasFile records file
      file_stands path long file not_own fits = by_node (node_for volume.catalog_pairs (private_id records) path) (to_node tree path) (node_same path not_own fits)
        where
          by_node : (r : Result Node Refusal) (s : Result PlainNode Refusal) → Agree IsNode r s → then_ r (to_read_ long) ≡ Ok file → HasFile records file
          by_node (Err why) s agree is = absurd (err_or_ok why file is)
          by_node (Ok found) (Err other) never is = absurd never
          by_node (Ok (node.Folder folder)) (Ok n) it is = absurd (err_or_ok refusal.IsFolder file is)
          by_node (Ok (node.File own linked)) (Ok n) it is =
              record { entry = it.entry; stands = it.stands; value = it.value ∙ ap (λ (f : FileRecord). File f) (unless_ok (nat_lt most_bytes long) refusal.TooLarge own file is).1 }

      pub content_same : (path : List (List ℕ)) (start long : ℕ) → is_private_path path ≡ false → FitsPath path
          → replied (file_in volume.catalog_pairs (private_id records) path long) (λ file. reply.Content (take long (drop start (bytes_of.file file).data_bytes))) ≡ (step tree (command.Read path start long)).0
      content_same path start long not_own fits = by_node (node_for volume.catalog_pairs (private_id records) path) (to_node tree path) (node_same path not_own fits)
        where
          by_length : (b : Bool) (own : FileRecord) (n : PlainNode) → n.bytes ≡ (bytes_of.file own).data_bytes
              → replied (unless b refusal.TooLarge own) (λ file. reply.Content (take long (drop start (bytes_of.file file).data_bytes))) ≡ (on tree (unless b refusal.TooLarge n) (λ file. (reply.Content (take long (drop start file.bytes)), tree))).0
          by_length true own n same_bytes = refl
          by_length false own n same_bytes = ap (λ l. reply.Content (take long (drop start l))) (sym same_bytes)

          by_node : (r : Result Node Refusal) (s : Result PlainNode Refusal) → Agree IsNode r s
              → replied (then_ r (to_read_ long)) (λ file. reply.Content (take long (drop start (bytes_of.file file).data_bytes)))
              ≡ (on tree (then_ (then_ s (λ n. unless n.folder refusal.IsFolder n)) (λ file. unless (nat_lt most_bytes long) refusal.TooLarge file)) (λ file. (reply.Content (take long (drop start file.bytes)), tree))).0
          by_node (Err why) (Err other) agree = ap reply.No agree
          by_node (Ok found) (Err other) never = absurd never
          by_node (Err why) (Ok n) never = absurd never
          by_node (Ok (node.Folder folder)) (Ok n) it =
              sym (ap (λ b. (on tree (then_ (unless b refusal.IsFolder n) (λ file. unless (nat_lt most_bytes long) refusal.TooLarge file)) (λ file. (reply.Content (take long (drop start file.bytes)), tree))).0) (ap (λ (m : PlainNode). m.folder) it.is))
          by_node (Ok (node.File own linked)) (Ok n) it =
              by_length (nat_lt most_bytes long) own n (ap (λ (m : PlainNode). m.bytes) it.is)
              ∙ sym (ap (λ b. (on tree (then_ (unless b refusal.IsFolder n) (λ file. unless (nat_lt most_bytes long) refusal.TooLarge file)) (λ file. (reply.Content (take long (drop start file.bytes)), tree))).0) (ap (λ (m : PlainNode). m.folder) it.is))
