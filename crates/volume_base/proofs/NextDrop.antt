-- The next step of reclaiming is the drop of an entry, where the file of the least CNID that waits has neither blocks nor attributes.
use Rattle.std.proofs.Common.{◌≡◌, ◌⊎◌, ℕ, ◌<◌, Bool, true, false, List, [], ◌∷◌, ◌++◌, length, map, inl, inr, refl, sym, ◌∙◌, ap, subst, arith}
use Rattle.std.specs.Prelude.{Contains, ◌==◌, ◌&&◌, not, nat_lt, find, slice_index_or, Option, None, Some, if◌then◌else◌}
use Rattle.std.proofs.lemmas.Bool.{and_parts, eqb-true, eq-eqb, true≢false}
use Rattle.std.proofs.lemmas.List.Elements.{Contains-append_right}
use Rattle.btree_node.specs.Levels.{Pair}
use Rattle.cat_records.specs.declared.record.CatRecord.{CatRecord}
use Rattle.cat_records.specs.declared.record.CatRecord.TheVariants.{Folder, File, Thread}
use Rattle.cat_records.specs.declared.record.FileRecord.{FileRecord}
use Rattle.fork_map.specs.Blocks.{blocks_of}
use Rattle.hfs_model.specs.Sorted.{kept}
use Rattle.hfs_volume.specs.Blocks.{HasSizes, forks_of}
use Rattle.hfs_volume.specs.Content.{VolumeState, attributes_of, overflow_in_volume, records_of}
use Rattle.hfs_volume.specs.Forks.{Owned, all_forks, blocks_owned, data_kind, file_forks, forks_in, resource_kind, special_forks}
use Rattle.hfs_volume.specs.Links.{is_orphan, orphans_of}
use Rattle.hfs_volume.specs.Reclaim.{CutOrphan, DropAttribute, DropOrphan, Reclaim, bare_step, first_attribute, has_blocks, has_surplus_left, least, least_from, next_reclaim, orphan_step, orphan_steps, shrunk_step}
use Rattle.hfs_volume.specs.Records.{Attribute, Placed, attribute_of, entries_of, entry_of, id_of}
use Rattle.hfs_volume.specs.Sound.{IsSoundVolume}
use Rattle.hfs_volume.specs.Weight.{extents_found, file_blocks, file_fork}
use Rattle.hfs_volume.proofs.Flat.{found_some}
use Rattle.hfs_volume.proofs.Members.{at_front, behind, each_of, kept_cases, kept_stands}
use Rattle.hfs_volume.proofs.NodesOf.{entry_of_is}
use Rattle.hfs_volume.proofs.Reaching.{flat_stands}
use Rattle.volume_base.specs.Orphans.{IsFirstName, is_blockless}

-- ---- the orphan with the least CNID

least_from_is : (id : ℕ) (rest : List Placed) → (least_from id rest ≡ id) ⊎ ((e : Placed) × Contains rest e × (id_of e ≡ least_from id rest))
least_from_is id [] = inl refl
least_from_is id (next ∷ others) = by_test (nat_lt (id_of next) id) (least_from_is (id_of next) others) (least_from_is id others)
  where
    later : (n : ℕ) → (e : Placed) × Contains others e × (id_of e ≡ n) → (e : Placed) × Contains (next ∷ others) e × (id_of e ≡ n)
    later n found = (found.0, behind next found.0 others found.1, found.2)

    by_test : (b : Bool) → (least_from (id_of next) others ≡ id_of next) ⊎ ((e : Placed) × Contains others e × (id_of e ≡ least_from (id_of next) others))
        → (least_from id others ≡ id) ⊎ ((e : Placed) × Contains others e × (id_of e ≡ least_from id others))
        → (least_from (if b then id_of next else id) others ≡ id) ⊎ ((e : Placed) × Contains (next ∷ others) e × (id_of e ≡ least_from (if b then id_of next else id) others))
    by_test true (inl is) other = inr (next, at_front next others, sym is)
    by_test true (inr found) other = inr (later (least_from (id_of next) others) found)
    by_test false one (inl is) = inl is
    by_test false one (inr found) = inr (later (least_from id others) found)

abbrev or_zero : Option ℕ → ℕ
or_zero None = 0
or_zero (Some id) = id

abbrev is_none : Option ℕ → Bool
is_none None = true
is_none (Some id) = false

pub least_is : (orphans : List Placed) (id : ℕ) → least orphans ≡ Some id → (e : Placed) × Contains orphans e × (id_of e ≡ id)
least_is [] id is = absurd (true≢false (ap is_none is))
least_is (first ∷ rest) id is = elim (least_from_is (id_of first) rest) [
  | inl same ↦ (first, at_front first rest, sym same ∙ ap or_zero is)
  | inr found ↦ (found.0, behind first found.0 rest found.1, found.2 ∙ ap or_zero is)
]

-- ---- its blocks

none_in : (blocks : List ℕ) (many : ℕ) → length blocks ≡ many → (many == 0) ≡ true → has_blocks blocks ≡ false
none_in blocks many is none = ap (λ n. not (n == 0)) is ∙ ap not none

module _ (volume : VolumeState) (sound : IsSoundVolume volume) where
  pub fork_stands : (e : Placed) → Contains (entries_of (records_of volume)) e → (owned : Owned) → Contains (forks_in e.value) owned → Contains (forks_of volume) owned
  unfolding all_forks
  fork_stands e stands owned has = Contains-append_right (special_forks volume.head) (file_forks (records_of volume)) owned (flat_stands (λ (p : Placed). forks_in p.value) (entries_of (records_of volume)) e owned stands has)

  pub many_are : (e : Placed) → Contains (entries_of (records_of volume)) e → (owned : Owned) → Contains (forks_in e.value) owned → length (blocks_owned (overflow_in_volume volume) owned) ≡ owned.fork.total_blocks
  many_are e stands owned has = (each_of (HasSizes volume.head (overflow_in_volume volume)) (forks_of volume) sound.blocks.forks.sizes owned (fork_stands e stands owned has)).blocks

  -- a file whose record says so has no blocks
  blockless_so : (e : Placed) → Contains (entries_of (records_of volume)) e → (value : CatRecord) → e.value ≡ value → is_blockless value ≡ true
      → (has_blocks (file_blocks volume (id_of e) data_kind) ≡ false) × (has_blocks (file_blocks volume (id_of e) resource_kind) ≡ false)
  blockless_so e stands (Folder f) is none = absurd (true≢false (sym none))
  blockless_so e stands (Thread f) is none = absurd (true≢false (sym none))
  blockless_so e stands (File f) is none =
      let parts = and_parts (f.data_fork.total_blocks == 0) (f.resource_fork.total_blocks == 0) none in
      let found : entry_of (records_of volume) (id_of e) ≡ Some (record e { value = File f }) = entry_of_is (records_of volume) volume.head.next_catalog_id sound.entries.ids e stands ∙ ap (λ (v : CatRecord). Some (record e { value = v })) is in
      let own : Owned = record { id = f.fields.id; kind = data_kind; fork = f.data_fork } in
      let other : Owned = record { id = f.fields.id; kind = resource_kind; fork = f.resource_fork } in
      let in_value : (owned : Owned) → Contains (forks_in (File f)) owned → Contains (forks_in e.value) owned = λ owned has. subst (λ (v : CatRecord). Contains (forks_in v) owned) (sym is) has in
      let id_is : id_of e ≡ f.fields.id = ap (λ (v : CatRecord). id_of (record e { value = v })) is in (
        none_in (file_blocks volume (id_of e) data_kind) f.data_fork.total_blocks
            (ap (λ (l : List ℕ). length l) ((λ i. blocks_of (extents_found (overflow_in_volume volume) (id_is i) data_kind (file_fork data_kind (found i))))) ∙ many_are e stands own (in_value own (at_front own (other ∷ [])))) parts.0,
        none_in (file_blocks volume (id_of e) resource_kind) f.resource_fork.total_blocks
            (ap (λ (l : List ℕ). length l) ((λ i. blocks_of (extents_found (overflow_in_volume volume) (id_is i) resource_kind (file_fork resource_kind (found i))))) ∙ many_are e stands other (in_value other (behind own other (other ∷ []) (at_front other [])))) parts.1,
      )

-- ---- its attributes

no_first : (id : ℕ) (attributes : List Attribute) → length (map (λ (a : Attribute). a.name) (kept (λ (a : Attribute). a.id == id) attributes)) ≡ 0 → first_attribute attributes id ≡ None
no_first id attributes none = by (first_attribute attributes id) refl
  where
    has_some : (xs : List Attribute) (a : Attribute) → Contains xs a → length (map (λ (x : Attribute). x.name) xs) ≡ 0 → ⊥
    has_some [] a stands is = omega (arith, stands.1)
    has_some (x ∷ xs) a stands is = omega (arith, is)

    by : (o : Option Attribute) → first_attribute attributes id ≡ o → o ≡ None
    by None is = refl
    by (Some a) is =
        let it = found_some (λ (x : Attribute). x.id == id) attributes a is in
        absurd (has_some (kept (λ (x : Attribute). x.id == id) attributes) a (kept_stands (λ (x : Attribute). x.id == id) attributes a it.0 it.1) none)

-- ---- the step

pub next_is_drop : (volume : VolumeState) → IsSoundVolume volume → (shrunk : Option ℕ) → has_surplus_left volume shrunk ≡ false → (id : ℕ) → least (orphans_of (records_of volume)) ≡ Some id → (e : Placed) → Contains (entries_of (records_of volume)) e → id_of e ≡ id
    → is_blockless e.value ≡ true → length (map (λ (a : Attribute). a.name) (kept (λ (a : Attribute). a.id == id) (map attribute_of volume.attribute_pairs))) ≡ 0 → next_reclaim volume shrunk ≡ Some (DropOrphan id)
unfolding next_reclaim
next_is_drop volume sound shrunk unshrunk id lowest e stands is bare none =
    let blocks = blockless_so volume sound e stands e.value refl bare in
    ap (λ b. if b then shrunk_step shrunk else orphan_steps volume (least (orphans_of (records_of volume)))) unshrunk ∙ ap (orphan_steps volume) lowest
    ∙ ap Some ((λ i. if ap (λ n. has_blocks (file_blocks volume n data_kind)) (sym is) i then CutOrphan id data_kind else if ap (λ n. has_blocks (file_blocks volume n resource_kind)) (sym is) i then CutOrphan id resource_kind else bare_step id (first_attribute (attributes_of volume) id))
    ∙ (λ i. if blocks.0 i then CutOrphan id data_kind else if blocks.1 i then CutOrphan id resource_kind else bare_step id (no_first id (attributes_of volume) none i)))

-- ---- the step, where it has attributes

first_kept : (test : Attribute → Bool) (xs : List Attribute) → 0 < length (map (λ (a : Attribute). a.name) (kept test xs)) → (a : Attribute) × (find test xs ≡ Some a) × (slice_index_or (map (λ (x : Attribute). x.name) (kept test xs)) 0 [] ≡ a.name)
first_kept test [] some = absurd (omega (arith, some))
first_kept test (x ∷ xs) some = by (λ more. first_kept test xs more) (test x) some
  where
    by : (0 < length (map (λ (a : Attribute). a.name) (kept test xs)) → (a : Attribute) × (find test xs ≡ Some a) × (slice_index_or (map (λ (y : Attribute). y.name) (kept test xs)) 0 [] ≡ a.name))
        → (b : Bool) → 0 < length (map (λ (a : Attribute). a.name) ((if b then x ∷ [] else []) ++ kept test xs))
        → (a : Attribute) × ((if b then Some x else find test xs) ≡ Some a) × (slice_index_or (map (λ (y : Attribute). y.name) ((if b then x ∷ [] else []) ++ kept test xs)) 0 [] ≡ a.name)
    by later true more = (x, refl, refl)
    by later false more = later more

pub next_is_bare : (volume : VolumeState) → IsSoundVolume volume → (shrunk : Option ℕ) → has_surplus_left volume shrunk ≡ false → (id : ℕ) → least (orphans_of (records_of volume)) ≡ Some id → (e : Placed) → Contains (entries_of (records_of volume)) e → id_of e ≡ id
    → is_blockless e.value ≡ true → (name : List ℕ) → IsFirstName name (map (λ (a : Attribute). a.name) (kept (λ (a : Attribute). a.id == id) (map attribute_of volume.attribute_pairs))) → next_reclaim volume shrunk ≡ Some (DropAttribute id name)
unfolding next_reclaim
next_is_bare volume sound shrunk unshrunk id lowest e stands is bare name first =
    let blocks = blockless_so volume sound e stands e.value refl bare in
    let it = first_kept (λ (a : Attribute). a.id == id) (attributes_of volume) first.0 in
    ap (λ b. if b then shrunk_step shrunk else orphan_steps volume (least (orphans_of (records_of volume)))) unshrunk ∙ ap (orphan_steps volume) lowest
    ∙ ap Some ((λ i. if ap (λ n. has_blocks (file_blocks volume n data_kind)) (sym is) i then CutOrphan id data_kind else if ap (λ n. has_blocks (file_blocks volume n resource_kind)) (sym is) i then CutOrphan id resource_kind else bare_step id (first_attribute (attributes_of volume) id))
    ∙ (λ i. if blocks.0 i then CutOrphan id data_kind else if blocks.1 i then CutOrphan id resource_kind else bare_step id (it.1 i))
    ∙ ap (DropAttribute id) (sym it.2 ∙ sym first.1))
