-- The file with the least CNID of those that wait, as it is found by its CNID, is the one whose entry the next step of reclaiming drops.
use Rattle.std.proofs.Common.{◌≡◌, ◌≤◌, ℕ, true, false, List, length, map, sym, ◌∙◌, ap, subst}
use Rattle.std.specs.Prelude.{Contains, IfOk, IfSome, Option, None, Some, Result, Ok, Err}
use Rattle.hx_bytes.specs.declared.faults.Trouble.{Trouble}
use Rattle.sector_disk.specs.Lists.{Content}
use Rattle.attributes.specs.Owned.{names_of}
use Rattle.btree_node.specs.Keys.{IsCatalogKey, catalog_cmp}
use Rattle.btree_node.specs.Levels.{Pair}
use Rattle.btree_node.specs.TreeFile.{store_of}
use Rattle.btree_file.specs.Held.{file_in}
use Rattle.btree_file.specs.State.{sectors_of_tree}
use Rattle.catalog.specs.Children.{children_in}
use Rattle.hfs_volume.specs.Content.{VolumeState, records_of, volume_of}
use Rattle.hfs_volume.specs.Links.{is_orphan, orphans_of}
use Rattle.hfs_volume.specs.Reclaim.{DropAttribute, DropOrphan, has_surplus_left, least, next_reclaim}
use Rattle.hfs_volume.specs.Reclaiming.{DropIsOfBareOrphan, IsBareOrphan}
use Rattle.hfs_volume.specs.Records.{Placed, attribute_of, entries_of, id_of}
use Rattle.hfs_volume.proofs.Flat.{some_same}
use Rattle.hfs_volume.proofs.Hiding.{same_entry}
use Rattle.hfs_volume.proofs.Members.{kept_cases}
use Rattle.volume_base.specs.Entering.{entry_by_id}
use Rattle.volume_base.specs.Lists.{lists_of}
use Rattle.volume_base.specs.Orphans.{IsFirstName, is_blockless}
use Rattle.volume_space.specs.Orphans.{IsToDrop, found_among}
use Rattle.volume_base.specs.Standing.{HoldsTrees, IsSettled}
use Rattle.volume_base.specs.declared.entries.Entry.{Entry}
use Rattle.volume_base.specs.declared.volume.Volume.{Volume}
use Rattle.volume_base.proofs.Entered.{entry_is, keys_are, short_names}
use Rattle.volume_base.proofs.NextDrop.{least_is, next_is_bare, next_is_drop}
use Rattle.volume_base.proofs.Rising.{settled_attributes_sorted, settled_sorted}
use Rattle.volume_space.proofs.FirstNames.{first_of_all, none_of_all}
use Rattle.volume_space.proofs.Waiting.{least_found, none_waits}

-- what was found among the entries of the private folder
pub waiting_told : (v : Volume) (content : Content) → IsSettled v content → (private : ℕ) → v.private ≡ Some private → (r : Result (Option ℕ) Trouble) → IfOk r (λ (found : Option ℕ). found ≡ found_among None (children_in private (lists_of v content).catalog_pairs))
    → IfOk r (λ (found : Option ℕ). found ≡ least (orphans_of (records_of (volume_of content))))
waiting_told v content settled private has (Ok found) told =
    told ∙ ap (λ (l : VolumeState). found_among None (children_in private l.catalog_pairs)) (sym settled.lists) ∙ least_found (volume_of content).catalog_pairs private (sym settled.private ∙ has)
waiting_told v content settled private has (Err why) told = tt

-- without a private folder
pub none_found : (v : Volume) (content : Content) → IsSettled v content → v.private ≡ None → None ≡ least (orphans_of (records_of (volume_of content)))
none_found v content settled none = sym (none_waits (records_of (volume_of content)) (sym settled.private ∙ none))

module _ (v : Volume) (content : Content) (holds : HoldsTrees v content) (settled : IsSettled v content) (id : ℕ) (lowest : least (orphans_of (records_of (volume_of content))) ≡ Some id) (law : DropIsOfBareOrphan) (shrunk : Option ℕ) (unshrunk : has_surplus_left (volume_of content) shrunk ≡ false) where
  found : (e : Placed) × Contains (orphans_of (records_of (volume_of content))) e × (id_of e ≡ id)
  found = least_is (orphans_of (records_of (volume_of content))) id lowest

  stands : Contains (entries_of (records_of (volume_of content))) found.0
  stands = (kept_cases (is_orphan (records_of (volume_of content))) (entries_of (records_of (volume_of content))) found.0 found.1).0

  pairs_are : (volume_of content).catalog_pairs ≡ (lists_of v content).catalog_pairs
  pairs_are = ap (λ (l : VolumeState). l.catalog_pairs) settled.lists

  keys : (pair : Pair) → Contains (volume_of content).catalog_pairs pair → IsCatalogKey pair.0
  keys pair has = keys_are IsCatalogKey catalog_cmp (store_of (file_in (sectors_of_tree v.catalog.file) content)) holds.catalog.file.rules pair (subst (λ (l : List Pair). Contains l pair) pairs_are has)

  abbrev entry_at : Placed → Entry
  entry_at e = record { parent = e.parent; name = e.name; rec = e.value }

  -- it is found by its CNID
  module _ (entry : Entry) (told : Some entry ≡ entry_by_id (lists_of v content).catalog_pairs id) where
    same : entry ≡ entry_at found.0
    same = some_same entry (entry_at found.0)
        (told ∙ (λ i. entry_by_id (sym pairs_are i) (sym found.2 i))
        ∙ entry_is (volume_of content).catalog_pairs settled.sound.entries.threads (settled_sorted v content holds settled) (short_names (volume_of content).catalog_pairs keys) found.0 stands)

    to_drop : is_blockless entry.rec ≡ true → length (names_of id (lists_of v content).attribute_pairs) ≡ 0 → IsToDrop shrunk content entry
    to_drop bare none = record { id = id; next = next; bare = its; parent = ap (λ (x : Entry). x.parent) same ∙ ap (λ (p : Placed). p.parent) one; name = ap (λ (x : Entry). x.name) same ∙ ap (λ (p : Placed). p.name) one }
      where
        next : next_reclaim (volume_of content) shrunk ≡ Some (DropOrphan id)
        next = next_is_drop (volume_of content) settled.sound shrunk unshrunk id lowest found.0 stands found.2 (ap (λ (x : Entry). is_blockless x.rec) (sym same) ∙ bare)
            (none_of_all id (map attribute_of (volume_of content).attribute_pairs) settled.sound.attributes.values (ap (λ (l : VolumeState). length (names_of id l.attribute_pairs)) settled.lists ∙ none))

        its : IsBareOrphan id (volume_of content)
        its = law (volume_of content) shrunk id settled.sound next

        one : found.0 ≡ its.entry
        one = same_entry (volume_of content).head.next_catalog_id (entries_of (records_of (volume_of content))) settled.sound.entries.ids found.0 its.entry stands
            (kept_cases (is_orphan (records_of (volume_of content))) (entries_of (records_of (volume_of content))) its.entry its.is_orphan).0 (found.2 ∙ sym its.is_entry)

    bared_next : is_blockless entry.rec ≡ true → (name : List ℕ) → IsFirstName name (names_of id (lists_of v content).attribute_pairs) → next_reclaim (volume_of content) shrunk ≡ Some (DropAttribute id name)
    bared_next bare name first =
        next_is_bare (volume_of content) settled.sound shrunk unshrunk id lowest found.0 stands found.2 (ap (λ (x : Entry). is_blockless x.rec) (sym same) ∙ bare) name
        (first_of_all id (map attribute_of (volume_of content).attribute_pairs) (settled_attributes_sorted v content holds settled) settled.sound.attributes.values name
        (subst (λ (l : VolumeState). IsFirstName name (names_of id l.attribute_pairs)) (sym settled.lists) first))

    pub found_to_bare : (u : Volume) (later : Content) → lists_of u later ≡ lists_of v content → (r : Result (Option (List ℕ)) Trouble)
        → IfOk r (λ (o : Option (List ℕ)). IfSome o (λ (name : List ℕ). (is_blockless entry.rec ≡ true) × IsFirstName name (names_of id (lists_of u later).attribute_pairs)))
        → IfOk r (λ (o : Option (List ℕ)). IfSome o (λ (name : List ℕ). next_reclaim (volume_of content) shrunk ≡ Some (DropAttribute id name)))
    found_to_bare u later lists (Ok None) told = tt
    found_to_bare u later lists (Ok (Some name)) told = bared_next told.0 name (subst (λ (l : VolumeState). IsFirstName name (names_of id l.attribute_pairs)) lists told.1)
    found_to_bare u later lists (Err why) told = tt

    pub found_to_drop : (w u : Volume) (later : Content) → lists_of u later ≡ lists_of v content → (r : Result (Option Entry) Trouble)
        → IfOk r (λ (o : Option Entry). IfSome o (λ (bare : Entry). (bare ≡ entry) × (is_blockless entry.rec ≡ true) × (length (names_of id (lists_of u later).attribute_pairs) ≡ 0))) → IfOk r (λ (o : Option Entry). IfSome o (IsToDrop shrunk content))
    found_to_drop w u later lists (Ok None) told = tt
    found_to_drop w u later lists (Ok (Some bare)) told =
        subst (IsToDrop shrunk content) (sym told.0) (to_drop told.1 (ap (λ (l : VolumeState). length (names_of id l.attribute_pairs)) (sym lists) ∙ told.2))
    found_to_drop w u later lists (Err why) told = tt

pub named_as : (entry : Entry) → length entry.name ≤ 255 → (r : Result (Option Entry) Trouble) → IfOk r (λ (o : Option Entry). IfSome o (λ (bare : Entry). bare ≡ entry)) → IfOk r (λ (o : Option Entry). IfSome o (λ (bare : Entry). length bare.name ≤ 255))
named_as entry short (Ok None) told = tt
named_as entry short (Ok (Some bare)) told = subst (λ (x : Entry). length x.name ≤ 255) (sym told) short
named_as entry short (Err why) told = tt

-- what was told of a file's first attribute
pub first_told : (entry : Entry) → is_blockless entry.rec ≡ true → (looked names : List (List ℕ)) → looked ≡ names → (found : Option (List ℕ)) → IfSome found (λ (name : List ℕ). IsFirstName name looked)
    → IfSome found (λ (name : List ℕ). (is_blockless entry.rec ≡ true) × IsFirstName name names)
first_told entry bare looked names same None told = tt
first_told entry bare looked names same (Some name) told = (bare, subst (IsFirstName name) same told)
