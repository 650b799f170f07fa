-- The file that a link names, before the link goes.
use Rattle.std.proofs.Common.{◌≡◌, ◌<◌, ◌≤◌, ℕ, ◌^◌, Bool, true, false, List, refl, sym, ◌∙◌, ap, subst, arith}
use Rattle.std.specs.Prelude.{Contains, ◌==◌, Option, None, Some, if◌then◌else◌}
use Rattle.std.specs.Option.{option_map}
use Rattle.std.specs.Str.{bytes_eq}
use Rattle.std.proofs.lemmas.Bool.{and_parts, eqb-true, true≢false}
use Rattle.std.proofs.lemmas.Slice.Eq.{bytes_eq-Decides}
use Rattle.sector_disk.specs.Space.{Space}
use Rattle.btree_node.specs.Levels.{Pair}
use Rattle.cat_records.specs.declared.record.CatRecord.{CatRecord}
use Rattle.catalog.specs.Pairs.{value_at}
use Rattle.hard_links.specs.Linking.{NamesLink}
use Rattle.hard_links.specs.declared.place.EntryAt.{EntryAt}
use Rattle.hfs_model.specs.declared.plain.PlainEntry.{PlainEntry}
use Rattle.hfs_volume.specs.Content.{overflow_in_volume, records_of, volume_of}
use Rattle.hfs_volume.specs.Entries.{AreThreaded, LiesIn, is_it}
use Rattle.hfs_volume.specs.Links.{IsGoodLink, private_id}
use Rattle.hfs_volume.specs.Records.{Placed, entries_of, id_in, id_of, is_empty, is_link, is_placed_at, placed_in, record_at, special_of}
use Rattle.hfs_volume.specs.TreeOf.{bytes_in, id_or_0, shared_file, tree_of}
use Rattle.hfs_volume.proofs.Flat.{found_some}
use Rattle.hfs_volume.proofs.Hiding.{same_entry}
use Rattle.hfs_volume.proofs.Named.{IsSeenName, named_entry}
use Rattle.hfs_volume.proofs.Sharing.{IsShared, shared_found, shared_is}
use Rattle.hfs_volume.proofs.Sides.{is_entry_of}
use Rattle.volume_base.specs.Entering.{entry_by_id}
use Rattle.volume_base.specs.Lists.{lists_of}
use Rattle.volume_base.specs.Losing.{IsLoss}
use Rattle.volume_base.specs.Standing.{IsSettled, IsStanding}
use Rattle.volume_names.specs.Unlinking.{HasShared, IsLastOf, links_in}
use Rattle.volume_base.specs.declared.entries.Entry.{Entry}
use Rattle.volume_base.specs.declared.volume.Volume.{Volume}
use Rattle.volume_names.proofs.LinkLost.{pairs_are, seen}
use Rattle.volume_base.proofs.Rising.{settled_sorted}
use Rattle.volume_names.proofs.Unlinked.{here as found_by_id, shared_there}

abbrev rec_or : CatRecord → Option Entry → CatRecord
rec_or other None = other
rec_or other (Some e) = e.rec

abbrev placed_or : CatRecord → Option CatRecord → CatRecord
placed_or other None = other
placed_or other (Some r) = r

-- the record under a key, by its value
record_there : (pairs : List Pair) (parent : ℕ) (name : List ℕ) (rec : CatRecord) → value_at pairs parent name ≡ Some rec → (p : Placed) × (record_at (placed_in pairs) parent name ≡ Some p) × (p.value ≡ rec)
record_there pairs parent name rec is = by (record_at (placed_in pairs) parent name) refl is
  where
    by : (o : Option Placed) → record_at (placed_in pairs) parent name ≡ o → option_map (λ (p : Placed). p.value) o ≡ Some rec → (p : Placed) × (record_at (placed_in pairs) parent name ≡ Some p) × (p.value ≡ rec)
    by None found same = absurd (let no : None ≡ Some rec = same in cc no)
    by (Some p) found same = (p, found, ap (placed_or rec) same)

module _ (v : Volume) (a : Space) (settled : IsSettled v a.content) (was : IsStanding v a) (path : List (List ℕ)) (at : PlainEntry) (place : EntryAt) (loss : IsLoss (tree_of a.content) path at place)
    (link : NamesLink place (lists_of v a.content).catalog_pairs) (id : ℕ) (same_id : at.id ≡ id) (next_fits : v.header.next_catalog_id < 2 ^ 32)
  where
    same_pairs : (volume_of a.content).catalog_pairs ≡ (lists_of v a.content).catalog_pairs
    same_pairs = pairs_are v a settled was path at place loss link id same_id next_fits

    there : Contains (records_of (volume_of a.content)) link.entry × (is_placed_at place.parent place.name link.entry ≡ true)
    there = found_some (is_placed_at place.parent place.name) (records_of (volume_of a.content)) link.entry (ap (λ (l : List Pair). record_at (placed_in l) place.parent place.name) same_pairs ∙ link.found)

    parent_is : link.entry.parent ≡ place.parent
    parent_is = eqb-true link.entry.parent place.parent (and_parts (link.entry.parent == place.parent) (bytes_eq link.entry.name place.name) there.1).0

    name_is : link.entry.name ≡ place.name
    name_is = (bytes_eq-Decides link.entry.name place.name).0 (and_parts (link.entry.parent == place.parent) (bytes_eq link.entry.name place.name) there.1).1

    stands : Contains (entries_of (records_of (volume_of a.content))) link.entry
    stands = is_entry_of (records_of (volume_of a.content)) link.entry there.0 (ap is_empty name_is ∙ loss.named)

    good : IsGoodLink (records_of (volume_of a.content)) (overflow_in_volume (volume_of a.content)) link.entry
    good = settled.sound.links.good.links link.entry stands link.is_one

    shared : IsShared (private_id (records_of (volume_of a.content))) (special_of link.entry) good.node.0
    shared = shared_is (private_id (records_of (volume_of a.content))) (special_of link.entry) good.node.0 good.node.2

    it : IsSeenName (volume_of a.content) (bytes_in a.content) settled.sound at link.entry
    it = named_entry (volume_of a.content) (bytes_in a.content) settled.sound at link.entry (settled_sorted v a.content was.trees settled) (seen v a settled was path at place loss link id same_id next_fits) stands (parent_is ∙ sym loss.is_place.0) (name_is ∙ sym loss.is_place.1)

    number : id_of good.node.0 ≡ id
    number =
        sym (ap id_or_0 (shared_found (records_of (volume_of a.content)) (settled_sorted v a.content was.trees settled) (special_of link.entry) good.node.0 good.node.1 good.node.2))
        ∙ sym (ap (λ b. if b then id_or_0 (shared_file (records_of (volume_of a.content)) (special_of link.entry)) else id_of link.entry) link.is_one)
        ∙ ap (λ (e : PlainEntry). e.id) it.plain ∙ same_id

    inside : LiesIn (entries_of (records_of (volume_of a.content))) shared.folder good.node.0.parent
    inside = subst (λ n. LiesIn (entries_of (records_of (volume_of a.content))) shared.folder n) (sym shared.parent) is_it

    plain : is_link good.node.0 ≡ false
    plain = by (is_link good.node.0) refl
      where
        by : (t : Bool) → is_link good.node.0 ≡ t → t ≡ false
        by false is = refl
        by true is = absurd ((settled.sound.links.good.links good.node.0 good.node.1 is).outside (shared.folder, shared.private_is, inside))

    shared_before : HasShared id (lists_of v a.content).catalog_pairs
    shared_before = subst (λ (l : List Pair). HasShared id l) same_pairs (record { entry = good.node.0; stands = good.node.1; number = number; file = shared.file; not_link = plain })

    threads : AreThreaded (lists_of v a.content).catalog_pairs
    threads = subst AreThreaded same_pairs settled.sound.entries.threads

    -- the file that was found by its CNID, where it says that it has one link at most
    pub last_of : (entry : Entry) → Some entry ≡ entry_by_id (lists_of v a.content).catalog_pairs id → links_in entry.rec ≤ 1 → IsLastOf id (record { parent = entry.parent; name = entry.name }) (lists_of v a.content).catalog_pairs
    last_of entry is low =
        let one = shared_there v a.content was.trees threads id shared_before entry is in
        let stood = record_there (lists_of v a.content).catalog_pairs entry.parent entry.name entry.rec one.value in
        record { entry = stood.0; found = stood.1; number = ap id_in stood.2 ∙ one.number; last = omega (arith, low, ap links_in stood.2) }

    -- the file with its CNID isn't the link
    pub other_record : (e : Placed) → Contains (entries_of (records_of (volume_of a.content))) e → id_of e ≡ id → id_of e ≡ id_of link.entry → ⊥
    other_record e has is same =
        let node : e ≡ good.node.0 = same_entry (volume_of a.content).head.next_catalog_id (entries_of (records_of (volume_of a.content))) settled.sound.entries.ids e good.node.0 has good.node.1 (is ∙ sym number) in
        let other : e ≡ link.entry = same_entry (volume_of a.content).head.next_catalog_id (entries_of (records_of (volume_of a.content))) settled.sound.entries.ids e link.entry has stands same in
        true≢false (sym link.is_one ∙ ap is_link (sym other ∙ node) ∙ plain)

    -- the file that was found by its CNID, among the entries
    pub file_of : (entry : Entry) → Some entry ≡ entry_by_id (lists_of v a.content).catalog_pairs id → (file : Placed) × Contains (entries_of (records_of (volume_of a.content))) file × (id_of file ≡ id) × (file.value ≡ entry.rec)
    file_of entry is = (
      shared_before.entry,
      subst (λ (l : List Pair). Contains (entries_of (placed_in l)) shared_before.entry) (sym same_pairs) shared_before.stands,
      shared_before.number,
      sym (ap (λ (o : Option Entry). rec_or entry.rec o) (is ∙ found_by_id v a.content was.trees threads id shared_before)),
    )
