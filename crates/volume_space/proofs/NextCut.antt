-- The next step of reclaiming is a cut: of the file shrunk last where that has blocks past its size, or of the file of the least CNID that waits where
-- that has blocks.
use Rattle.std.proofs.Common.{◌≡◌, ◌⊎◌, inl, inr, ℕ, ◌==◌, Bool, true, false, not, List, [], ◌∷◌, length, refl, sym, ◌∙◌, ap, subst}
use Rattle.std.specs.Prelude.{Contains, IfSome, nat_lt, Option, None, Some, if◌then◌else◌}
use Rattle.std.specs.Option.{option_map}
use Rattle.std.proofs.lemmas.Bool.{eqb-true, true≢false}
use Rattle.btree_node.specs.Keys.{IsCatalogKey, catalog_cmp}
use Rattle.btree_node.specs.Levels.{Pair}
use Rattle.btree_node.specs.TreeFile.{store_of}
use Rattle.btree_file.specs.Held.{file_in}
use Rattle.btree_file.specs.State.{sectors_of_tree}
use Rattle.cat_records.specs.declared.record.CatRecord.{CatRecord}
use Rattle.cat_records.specs.declared.record.CatRecord.TheVariants.{Folder, File, Thread}
use Rattle.cat_records.specs.declared.record.FileRecord.{FileRecord}
use Rattle.cat_records.specs.declared.record.ThreadRecord.{ThreadRecord}
use Rattle.catalog.specs.Pairs.{thread_at, value_at}
use Rattle.fork_map.specs.Blocks.{blocks_of}
use Rattle.sector_disk.specs.Lists.{Content}
use Rattle.hfs_volume.specs.Content.{VolumeState, attributes_of, overflow_in_volume, records_of, volume_of}
use Rattle.hfs_volume.specs.Forks.{Owned, data_kind, forks_in, parts_for, resource_kind}
use Rattle.hfs_volume.specs.Links.{is_orphan, orphans_of}
use Rattle.hfs_volume.specs.Reclaim.{CutOrphan, CutShrunk, bare_step, blocks_wanted, first_attribute, has_blocks, has_surplus_left, is_surplus, least, next_reclaim, orphan_step, orphan_steps, shrunk_step}
use Rattle.hfs_volume.specs.Records.{Placed, entries_of, entry_of, id_in, id_of, is_empty, is_placed_at, is_thread, record_at}
use Rattle.hfs_volume.specs.Sound.{IsSoundVolume}
use Rattle.hfs_volume.specs.Weight.{extents_found, file_blocks, file_fork}
use Rattle.hfs_volume.proofs.Flat.{found_some, none_or_some, some_same}
use Rattle.hfs_volume.proofs.Members.{at_front, behind, each_of, kept_cases}
use Rattle.hfs_volume.proofs.NodesOf.{entry_of_is}
use Rattle.hfs_volume.proofs.Sides.{is_entry_of}
use Rattle.volume_space.specs.Cutting.{IsNextCut, blocks_left, surplus_in}
use Rattle.volume_base.specs.Cutting.{fork_at, kind_of}
use Rattle.volume_base.specs.Entering.{entry_by_id, entry_told, entry_with}
use Rattle.volume_base.specs.Lists.{lists_of}
use Rattle.volume_base.specs.Standing.{HoldsTrees, IsSettled}
use Rattle.volume_base.specs.declared.forks.ForkKind.{ForkKind}
use Rattle.volume_base.specs.declared.forks.ForkKind.TheVariants as kinds
use Rattle.volume_base.specs.declared.entries.Entry.{Entry}
use Rattle.volume_space.specs.declared.trimming.Surplus.{Surplus}
use Rattle.volume_base.specs.declared.volume.Volume.{Volume}
use Rattle.volume_base.proofs.Entered.{entry_is, keys_are, short_names}
use Rattle.volume_base.proofs.NextDrop.{least_is, many_are}
use Rattle.volume_base.proofs.Rising.{settled_sorted}

-- ---- an entry that was found by its CNID

mapped : (pairs : List Pair) (thread : ThreadRecord) (found : Option CatRecord) → value_at pairs thread.parent thread.name ≡ found → (entry : Entry) → option_map (entry_with thread) found ≡ Some entry → value_at pairs entry.parent entry.name ≡ Some entry.rec
mapped pairs thread None is entry told = absurd (none_or_some entry told)
mapped pairs thread (Some rec) is entry told = subst (λ (e : Entry). value_at pairs e.parent e.name ≡ Some e.rec) (some_same (entry_with thread rec) entry told) is

under : (pairs : List Pair) (thread : ThreadRecord) (long : Bool) (entry : Entry) → (if long then None else option_map (entry_with thread) (value_at pairs thread.parent thread.name)) ≡ Some entry → value_at pairs entry.parent entry.name ≡ Some entry.rec
under pairs thread true entry told = absurd (none_or_some entry told)
under pairs thread false entry told = mapped pairs thread (value_at pairs thread.parent thread.name) refl entry told

told_there : (pairs : List Pair) (thread : Option ThreadRecord) (entry : Entry) → entry_told pairs thread ≡ Some entry → value_at pairs entry.parent entry.name ≡ Some entry.rec
told_there pairs None entry told = absurd (none_or_some entry told)
told_there pairs (Some thread) entry told = under pairs thread (nat_lt 255 (length thread.name)) entry told

pub there_by : (pairs : List Pair) (id : ℕ) (entry : Entry) → Some entry ≡ entry_by_id pairs id → value_at pairs entry.parent entry.name ≡ Some entry.rec
there_by pairs id entry told = told_there pairs (thread_at pairs id) entry (sym told)

-- ---- an entry that stands there

stands_as : (volume : VolumeState) → IsSoundVolume volume → (parent : ℕ) (name : List ℕ) (rec : CatRecord) → is_thread rec ≡ false → (found : Option Placed) → record_at (records_of volume) parent name ≡ found → option_map (λ (p : Placed). p.value) found ≡ Some rec
    → (e : Placed) × Contains (entries_of (records_of volume)) e × (e.value ≡ rec)
stands_as volume sound parent name rec kind None is told = absurd (none_or_some rec told)
stands_as volume sound parent name rec kind (Some p) is told =
    let there = found_some (is_placed_at parent name) (records_of volume) p is in
    let value : p.value ≡ rec = some_same p.value rec told in
    let named : is_empty p.name ≡ false = sym (each_of (λ (q : Placed). is_thread q.value ≡ is_empty q.name) (records_of volume) sound.entries.threads.kinds p there.0) ∙ ap is_thread value ∙ kind in
    (p, is_entry_of (records_of volume) p there.0 named, value)

pub stands_there : (volume : VolumeState) → IsSoundVolume volume → (parent : ℕ) (name : List ℕ) (rec : CatRecord) → is_thread rec ≡ false → value_at volume.catalog_pairs parent name ≡ Some rec → (e : Placed) × Contains (entries_of (records_of volume)) e × (e.value ≡ rec)
stands_there volume sound parent name rec kind told = stands_as volume sound parent name rec kind (record_at (records_of volume) parent name) refl told

-- ---- its blocks

module _ (volume : VolumeState) (sound : IsSoundVolume volume) (e : Placed) (stands : Contains (entries_of (records_of volume)) e) (f : FileRecord) (is : e.value ≡ File f) where
  found : entry_of (records_of volume) f.fields.id ≡ Some (record e { value = File f })
  found = ap (entry_of (records_of volume)) (sym (ap id_in is)) ∙ entry_of_is (records_of volume) volume.head.next_catalog_id sound.entries.ids e stands ∙ ap (λ (v : CatRecord). Some (record e { value = v })) is

  abbrev own_data : Owned
  own_data = record { id = f.fields.id; kind = data_kind; fork = f.data_fork }

  abbrev own_resource : Owned
  own_resource = record { id = f.fields.id; kind = resource_kind; fork = f.resource_fork }

  pub data_many : length (file_blocks volume f.fields.id data_kind) ≡ f.data_fork.total_blocks
  data_many =
      ap (λ (l : List ℕ). length l) (λ i. blocks_of (extents_found (overflow_in_volume volume) f.fields.id data_kind (file_fork data_kind (found i))))
      ∙ many_are volume sound e stands own_data (subst (λ (v : CatRecord). Contains (forks_in v) own_data) (sym is) (at_front own_data (own_resource ∷ [])))

  pub resource_many : length (file_blocks volume f.fields.id resource_kind) ≡ f.resource_fork.total_blocks
  resource_many =
      ap (λ (l : List ℕ). length l) (λ i. blocks_of (extents_found (overflow_in_volume volume) f.fields.id resource_kind (file_fork resource_kind (found i))))
      ∙ many_are volume sound e stands own_resource (subst (λ (v : CatRecord). Contains (forks_in v) own_resource) (sym is) (behind own_data own_resource (own_resource ∷ []) (at_front own_resource [])))

  pub fork_many : (kind : ℕ) → (kind ≡ data_kind) ⊎ (kind ≡ resource_kind) → length (file_blocks volume f.fields.id kind) ≡ (fork_at kind f).total_blocks
  fork_many kind (inl same) = subst (λ k. length (file_blocks volume f.fields.id k) ≡ (fork_at k f).total_blocks) (sym same) data_many
  fork_many kind (inr same) = subst (λ k. length (file_blocks volume f.fields.id k) ≡ (fork_at k f).total_blocks) (sym same) resource_many

  -- the blocks that the bytes of a fork take
  pub wanted_of : (k : ForkKind) → blocks_wanted volume f.fields.id (kind_of k) ≡ parts_for (fork_at (kind_of k) f).logical_size volume.head.block_size
  wanted_of kinds.Data = rw found refl
  wanted_of kinds.Resource = rw found refl

  wanted_is : blocks_wanted volume f.fields.id data_kind ≡ parts_for f.data_fork.logical_size volume.head.block_size
  wanted_is = wanted_of kinds.Data

  surplus_is : is_surplus volume f.fields.id ≡ nat_lt (parts_for f.data_fork.logical_size volume.head.block_size) f.data_fork.total_blocks
  surplus_is = λ i. nat_lt (wanted_is i) (data_many i)

  -- ---- of the file shrunk last

  pub next_shrunk : (surplus : Surplus) → surplus_in volume.head.block_size (File f) ≡ Some surplus → (next_reclaim volume (Some f.fields.id) ≡ Some (CutShrunk f.fields.id)) × (kind_of surplus.kind ≡ data_kind) × (surplus.keep ≡ blocks_wanted volume f.fields.id data_kind)
  unfolding next_reclaim
  next_shrunk surplus told = by (nat_lt (parts_for f.data_fork.logical_size volume.head.block_size) f.data_fork.total_blocks) refl told
    where
      by : (b : Bool) → nat_lt (parts_for f.data_fork.logical_size volume.head.block_size) f.data_fork.total_blocks ≡ b → (if b then Some (record { kind = kinds.Data; keep = parts_for f.data_fork.logical_size volume.head.block_size }) else None) ≡ Some surplus
          → (next_reclaim volume (Some f.fields.id) ≡ Some (CutShrunk f.fields.id)) × (kind_of surplus.kind ≡ data_kind) × (surplus.keep ≡ blocks_wanted volume f.fields.id data_kind)
      by false more none = absurd (none_or_some surplus none)
      by true more some =
          let same = some_same (record { kind = kinds.Data; keep = parts_for f.data_fork.logical_size volume.head.block_size }) surplus some in (
            ap (λ b. if b then Some (CutShrunk f.fields.id) else orphan_steps volume (least (orphans_of (records_of volume)))) (surplus_is ∙ more),
            sym (ap (λ (s : Surplus). kind_of s.kind) same),
            sym (ap (λ (s : Surplus). s.keep) same) ∙ sym wanted_is,
          )

  pub no_surplus : surplus_in volume.head.block_size (File f) ≡ None → has_surplus_left volume (Some f.fields.id) ≡ false
  no_surplus told = by (nat_lt (parts_for f.data_fork.logical_size volume.head.block_size) f.data_fork.total_blocks) refl told
    where
      by : (b : Bool) → nat_lt (parts_for f.data_fork.logical_size volume.head.block_size) f.data_fork.total_blocks ≡ b → if◌then◌else◌ {A = Option Surplus} b (Some (record { kind = kinds.Data; keep = parts_for f.data_fork.logical_size volume.head.block_size })) None ≡ None
          → is_surplus volume f.fields.id ≡ false
      by true more some = absurd (none_or_some {X = Surplus} (record { kind = kinds.Data; keep = parts_for f.data_fork.logical_size volume.head.block_size }) (sym some))
      by false more none = surplus_is ∙ more

  -- ---- of a file that waits

  module _ (shrunk : Option ℕ) (kept : has_surplus_left volume shrunk ≡ false) (lowest : least (orphans_of (records_of volume)) ≡ Some f.fields.id) where
    next_is : next_reclaim volume shrunk ≡ Some (orphan_step volume f.fields.id)
    unfolding next_reclaim
    next_is = ap (λ b. if b then shrunk_step shrunk else orphan_steps volume (least (orphans_of (records_of volume)))) kept ∙ ap (orphan_steps volume) lowest

    data_has : has_blocks (file_blocks volume f.fields.id data_kind) ≡ not (f.data_fork.total_blocks == 0)
    data_has = ap (λ n. not (n == 0)) data_many

    resource_has : has_blocks (file_blocks volume f.fields.id resource_kind) ≡ not (f.resource_fork.total_blocks == 0)
    resource_has = ap (λ n. not (n == 0)) resource_many

    step_is : orphan_step volume f.fields.id
        ≡ (if not (f.data_fork.total_blocks == 0) then CutOrphan f.fields.id data_kind else if not (f.resource_fork.total_blocks == 0) then CutOrphan f.fields.id resource_kind else bare_step f.fields.id (first_attribute (attributes_of volume) f.fields.id))
    step_is = λ i. if data_has i then CutOrphan f.fields.id data_kind else if resource_has i then CutOrphan f.fields.id resource_kind else bare_step f.fields.id (first_attribute (attributes_of volume) f.fields.id)

    pub next_left : IfSome (blocks_left (File f)) (λ surplus. (next_reclaim volume shrunk ≡ Some (CutOrphan f.fields.id (kind_of surplus.kind))) × (surplus.keep ≡ 0))
    next_left = by (not (f.data_fork.total_blocks == 0)) refl (not (f.resource_fork.total_blocks == 0)) refl
      where
        by : (a : Bool) → not (f.data_fork.total_blocks == 0) ≡ a → (b : Bool) → not (f.resource_fork.total_blocks == 0) ≡ b
            → IfSome (if a then Some (record { kind = kinds.Data; keep = 0 }) else if b then Some (record { kind = kinds.Resource; keep = 0 }) else None) (λ (surplus : Surplus). (next_reclaim volume shrunk ≡ Some (CutOrphan f.fields.id (kind_of surplus.kind))) × (surplus.keep ≡ 0))
        by true first b second = (next_is ∙ ap Some (step_is ∙ ap (λ x. if x then CutOrphan f.fields.id data_kind else if not (f.resource_fork.total_blocks == 0) then CutOrphan f.fields.id resource_kind else bare_step f.fields.id (first_attribute (attributes_of volume) f.fields.id)) first), refl)
        by false first true second = (next_is ∙ ap Some (step_is ∙ (λ i. if first i then CutOrphan f.fields.id data_kind else if second i then CutOrphan f.fields.id resource_kind else bare_step f.fields.id (first_attribute (attributes_of volume) f.fields.id))), refl)
        by false first false second = tt

-- ---- over a volume in service

module _ (v : Volume) (content : Content) (settled : IsSettled v content) where
  pairs_are : (volume_of content).catalog_pairs ≡ (lists_of v content).catalog_pairs
  pairs_are = ap (λ (l : VolumeState). l.catalog_pairs) settled.lists

  block_is : (volume_of content).head.block_size ≡ v.header.block_size
  block_is = ap (λ (l : VolumeState). l.head.block_size) settled.lists

  pub stands_so : (entry : Entry) → is_thread entry.rec ≡ false → value_at (lists_of v content).catalog_pairs entry.parent entry.name ≡ Some entry.rec → (e : Placed) × Contains (entries_of (records_of (volume_of content))) e × (e.value ≡ entry.rec)
  stands_so entry kind told = stands_there (volume_of content) settled.sound entry.parent entry.name entry.rec kind (ap (λ (l : List Pair). value_at l entry.parent entry.name) pairs_are ∙ told)

  -- what a file that was shrunk has past its size is the next cut
  pub shrunk_next : (entry : Entry) (rec : CatRecord) → entry.rec ≡ rec → value_at (lists_of v content).catalog_pairs entry.parent entry.name ≡ Some entry.rec → (id : ℕ) → id_in entry.rec ≡ id → (shrunk : Option ℕ) → shrunk ≡ Some id
      → (surplus : Surplus) → Some surplus ≡ surplus_in v.header.block_size entry.rec → IsNextCut shrunk content (id_in entry.rec) (kind_of surplus.kind) surplus.keep
  shrunk_next entry (Folder f) is there id number shrunk last surplus told = absurd (none_or_some surplus (sym (told ∙ ap (surplus_in v.header.block_size) is)))
  shrunk_next entry (Thread f) is there id number shrunk last surplus told = absurd (none_or_some surplus (sym (told ∙ ap (surplus_in v.header.block_size) is)))
  shrunk_next entry (File f) is there id number shrunk last surplus told =
      let e = stands_so entry (ap is_thread is) there in
      let its : id_in entry.rec ≡ f.fields.id = ap id_in is in
      let next = next_shrunk (volume_of content) settled.sound e.0 e.1 f (e.2 ∙ is) surplus ((λ i. surplus_in (block_is i) (sym is i)) ∙ sym told) in
      subst (λ (k : Option ℕ × ℕ). IsNextCut k.0 content k.1 (kind_of surplus.kind) surplus.keep) {x = (Some f.fields.id, f.fields.id)} {y = (shrunk, id_in entry.rec)} (λ i. ((ap Some (sym its ∙ number) ∙ sym last) i, sym its i)) (inl next)

  pub shrunk_rests : (entry : Entry) (rec : CatRecord) → entry.rec ≡ rec → value_at (lists_of v content).catalog_pairs entry.parent entry.name ≡ Some entry.rec → (id : ℕ) → id_in entry.rec ≡ id → (shrunk : Option ℕ) → shrunk ≡ Some id
      → None ≡ surplus_in v.header.block_size entry.rec → is_thread entry.rec ≡ false → has_surplus_left (volume_of content) shrunk ≡ false
  shrunk_rests entry (Folder f) is there id number shrunk last told kind =
      let e = stands_so entry kind there in
      ap (has_surplus_left (volume_of content)) (last ∙ ap Some (sym number ∙ sym (ap id_in e.2))) ∙ no_fork e.0 e.1 f (e.2 ∙ is)
    where
      no_fork : (e : Placed) → Contains (entries_of (records_of (volume_of content))) e → (g : _) → e.value ≡ Folder g → is_surplus (volume_of content) (id_of e) ≡ false
      no_fork e stands g value = rw (entry_of_is (records_of (volume_of content)) (volume_of content).head.next_catalog_id settled.sound.entries.ids e stands ∙ ap (λ (x : CatRecord). Some (record e { value = x })) value) refl
  shrunk_rests entry (Thread f) is there id number shrunk last told kind = absurd (true≢false (sym (ap is_thread is) ∙ kind))
  shrunk_rests entry (File f) is there id number shrunk last told kind =
      let e = stands_so entry (ap is_thread is) there in
      ap (has_surplus_left (volume_of content)) (last ∙ ap Some (sym number ∙ ap id_in is))
      ∙ no_surplus (volume_of content) settled.sound e.0 e.1 f (e.2 ∙ is) ((λ i. surplus_in (block_is i) (sym is i)) ∙ sym told)

  module _ (holds : HoldsTrees v content) where
    keys : (pair : Pair) → Contains (volume_of content).catalog_pairs pair → IsCatalogKey pair.0
    keys pair has = keys_are IsCatalogKey catalog_cmp (store_of (file_in (sectors_of_tree v.catalog.file) content)) holds.catalog.file.rules pair (subst (λ (l : List Pair). Contains l pair) pairs_are has)

    found_is : (e : Placed) → Contains (entries_of (records_of (volume_of content))) e → entry_by_id (volume_of content).catalog_pairs (id_of e) ≡ Some (record { parent = e.parent; name = e.name; rec = e.value })
    found_is e stands = entry_is (volume_of content).catalog_pairs settled.sound.entries.threads (settled_sorted v content holds settled) (short_names (volume_of content).catalog_pairs keys) e stands

    -- a file that isn't there has no blocks
    pub none_rests : (id : ℕ) (shrunk : Option ℕ) → shrunk ≡ Some id → None ≡ entry_by_id (lists_of v content).catalog_pairs id → has_surplus_left (volume_of content) shrunk ≡ false
    none_rests id shrunk last told = ap (has_surplus_left (volume_of content)) last ∙ by (entry_of (records_of (volume_of content)) id) refl
      where
        by : (o : Option Placed) → entry_of (records_of (volume_of content)) id ≡ o → is_surplus (volume_of content) id ≡ false
        by None none = rw none refl
        by (Some e) some =
            let there = found_some (λ (p : Placed). id_of p == id) (entries_of (records_of (volume_of content))) e some in
            let number : id_of e ≡ id = eqb-true (id_of e) id there.1 in
            absurd (none_or_some _ (told ∙ (λ i. entry_by_id (sym pairs_are i) (sym number i)) ∙ found_is e there.0))

    -- the fork that is left of the file that waits is the next cut
    pub left_next : (id : ℕ) → least (orphans_of (records_of (volume_of content))) ≡ Some id → (shrunk : Option ℕ) → has_surplus_left (volume_of content) shrunk ≡ false → (entry : Entry) (rec : CatRecord) → entry.rec ≡ rec → Some entry ≡ entry_by_id (lists_of v content).catalog_pairs id
        → IfSome (blocks_left entry.rec) (λ surplus. IsNextCut shrunk content (id_in entry.rec) (kind_of surplus.kind) surplus.keep)
    left_next id lowest shrunk kept entry rec is told =
        let found = least_is (orphans_of (records_of (volume_of content))) id lowest in
        let stands = (kept_cases (is_orphan (records_of (volume_of content))) (entries_of (records_of (volume_of content))) found.0 found.1).0 in
        let same = some_same entry (record { parent = found.0.parent; name = found.0.name; rec = found.0.value }) (told ∙ (λ i. entry_by_id (sym pairs_are i) (sym found.2 i)) ∙ found_is found.0 stands) in
        by rec is found.0 stands (sym (ap (λ (x : Entry). x.rec) same)) (lowest ∙ ap Some (sym found.2))
      where
        by : (r : CatRecord) → entry.rec ≡ r → (e : Placed) → Contains (entries_of (records_of (volume_of content))) e → e.value ≡ entry.rec → least (orphans_of (records_of (volume_of content))) ≡ Some (id_of e)
            → IfSome (blocks_left entry.rec) (λ surplus. IsNextCut shrunk content (id_in entry.rec) (kind_of surplus.kind) surplus.keep)
        by (Folder f) value e stands its low = subst (λ (r : CatRecord). IfSome (blocks_left r) (λ surplus. IsNextCut shrunk content (id_in r) (kind_of surplus.kind) surplus.keep)) (sym value) tt
        by (Thread f) value e stands its low = subst (λ (r : CatRecord). IfSome (blocks_left r) (λ surplus. IsNextCut shrunk content (id_in r) (kind_of surplus.kind) surplus.keep)) (sym value) tt
        by (File f) value e stands its low =
            subst (λ (r : CatRecord). IfSome (blocks_left r) (λ surplus. IsNextCut shrunk content (id_in r) (kind_of surplus.kind) surplus.keep)) (sym value)
            (orphaned (blocks_left (File f)) (next_left (volume_of content) settled.sound e stands f (its ∙ value) shrunk kept (low ∙ ap Some (ap id_in (its ∙ value)))))
          where
            orphaned : (o : Option Surplus) → IfSome o (λ surplus. (next_reclaim (volume_of content) shrunk ≡ Some (CutOrphan f.fields.id (kind_of surplus.kind))) × (surplus.keep ≡ 0)) → IfSome o (λ surplus. IsNextCut shrunk content f.fields.id (kind_of surplus.kind) surplus.keep)
            orphaned None was = tt
            orphaned (Some surplus) was = inr (was.0, was.1, low ∙ ap Some (ap id_in (its ∙ value)))
