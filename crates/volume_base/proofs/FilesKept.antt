-- The bytes of files stay where no sector but the header's, the catalog's and the attributes file's is another.
use Rattle.std.proofs.Common.{◌≡◌, ◌≢◌, ◌⊎◌, ◌<◌, ◌≤◌, ℕ, ◌-◌, ◌*◌, ◌/◌, List, [], ◌++◌, take, map, refl, sym, ◌∙◌, ap, subst, arith, inl, inr}
use Rattle.std.specs.Prelude.{Contains}
use Rattle.std.specs.List.{range_with_len}
use Rattle.std.proofs.lemmas.List.Elements.{Contains-append_left}
use Rattle.sector_disk.specs.Lists.{Content, sector}
use Rattle.jnl_format.specs.Recovery.{header_of_volume}
use Rattle.btree_node.specs.Levels.{Pair}
use Rattle.fork_map.specs.Blocks.{blocks_of, sectors_of}
use Rattle.cat_records.specs.declared.record.FileRecord.{FileRecord}
use Rattle.cat_records.specs.declared.record.CatRecord.TheVariants.{File}
use Rattle.hfs_volume.specs.Blocks.{forks_of, used_in}
use Rattle.hfs_volume.specs.Content.{VolumeState, volume_of, records_of, overflow_in_volume, attributes_of, block_bytes}
use Rattle.hfs_volume.specs.Entries.{IsUserId}
use Rattle.hfs_volume.specs.Forks.{Owned, per_block_of, parts_for, data_kind, allocation_id, catalog_id, attributes_id, extents_id, extents_of, blocks_owned, reserved_blocks}
use Rattle.hfs_volume.specs.Records.{Placed, entries_of, overflow_of, id_of, id_in}
use Rattle.hfs_volume.specs.Sound.{IsSoundVolume}
use Rattle.hfs_volume.specs.TreeOf.{tree_in, bytes_in_fork, file_bytes, bytes_in, valued}
use Rattle.hfs_volume.specs.Values.{blocks_of_values}
use Rattle.hfs_volume.proofs.Apart.{fork_is_used, value_is_used, not_reserved, not_in_both, value_not_reserved, value_not_in_fork}
use Rattle.hfs_volume.proofs.BlockWants.{in_range}
use Rattle.hfs_volume.proofs.Bytes.{same_bytes_same_tree}
use Rattle.hfs_volume.proofs.Members.{each_of}
use Rattle.hfs_volume.proofs.Rereading.{same_bytes}
use Rattle.hfs_volume.proofs.Sectors.{in_block, in_front}
use Rattle.hfs_volume.proofs.Valued.{values_same}
use Rattle.hfs_volume.proofs.Untouched.{HasWholeBlocks, whole_blocks, data_fork_of, file_fork_stands, resource_fork_of, resource_fork_stands, special_stands}

-- a content whose files lie where these lists say
pub record ReadsAs (content : Content) (lists : VolumeState) : Type 0 where
  pub overflow : (volume_of content).overflow_pairs ≡ lists.overflow_pairs
  pub total : (header_of_volume content).total_blocks ≡ lists.head.total_blocks
  pub block : (header_of_volume content).block_size ≡ lists.head.block_size

-- the sectors of the catalog, by the lists
abbrev pub catalog_sectors : VolumeState → List ℕ
catalog_sectors lists = sectors_of (per_block_of lists.head) (blocks_of (extents_of (overflow_in_volume lists) catalog_id data_kind lists.head.catalog_fork))

-- and those of the attributes file
abbrev pub attributes_sectors : VolumeState → List ℕ
attributes_sectors lists = sectors_of (per_block_of lists.head) (blocks_of (extents_of (overflow_in_volume lists) attributes_id data_kind lists.head.attributes_fork))

-- and those of the extents overflow file, which lie in the extents of its record alone
abbrev pub extents_sectors : VolumeState → List ℕ
extents_sectors lists = sectors_of (per_block_of lists.head) (blocks_of (extents_of [] extents_id data_kind lists.head.extents_fork))

-- and those of the bitmap's file
abbrev pub allocation_sectors : VolumeState → List ℕ
allocation_sectors lists = sectors_of (per_block_of lists.head) (blocks_of (extents_of (overflow_in_volume lists) allocation_id data_kind lists.head.allocation_fork))

module _ (lists : VolumeState) (sound : IsSoundVolume lists) where
  whole : HasWholeBlocks lists.sectors lists.head
  whole = whole_blocks lists.sectors lists.head sound.blocks.header.accepted

  abbrev per : ℕ
  per = per_block_of lists.head

  abbrev catalog_owned : Owned
  catalog_owned = record { id = catalog_id; kind = data_kind; fork = lists.head.catalog_fork }

  abbrev attributes_owned : Owned
  attributes_owned = record { id = attributes_id; kind = data_kind; fork = lists.head.attributes_fork }

  abbrev allocation_owned : Owned
  allocation_owned = record { id = allocation_id; kind = data_kind; fork = lists.head.allocation_fork }

  abbrev blocks_by : Owned → List ℕ
  blocks_by owned = blocks_owned (overflow_in_volume lists) owned

  abbrev extents_owned : Owned
  extents_owned = record { id = extents_id; kind = data_kind; fork = lists.head.extents_fork }

  extents_alone : sectors_of per (blocks_by extents_owned) ≡ extents_sectors lists
  unfolding extents_of
  extents_alone = refl

  -- the header's block is kept back
  header_reserved : Contains (reserved_blocks lists.sectors lists.head) (2 / per)
  header_reserved =
      Contains-append_left (range_with_len 0 (parts_for 1536 lists.head.block_size)) (range_with_len ((lists.sectors * 512 - 1024) / lists.head.block_size) (lists.head.total_blocks - (lists.sectors * 512 - 1024) / lists.head.block_size)) (2 / per)
      (in_range 0 (parts_for 1536 lists.head.block_size) (2 / per) (omega arith) (omega (arith, in_front lists.head.block_size per whole.whole whole.some 1536 2 (omega arith))))

  -- a sector of a file isn't the header's
  no_header : (owned : Owned) → (Contains (reserved_blocks lists.sectors lists.head) (2 / per) → Contains (blocks_by owned) (2 / per) → ⊥) → Contains (sectors_of per (blocks_by owned)) 2 → ⊥
  no_header owned apart has = apart header_reserved (in_block per (blocks_by owned) 2 whole.some has)

  -- a sector of a value is neither the header's nor one of a special file
  abbrev pub IsOfValue : ℕ → Type 0
  IsOfValue at = Contains (blocks_of_values (attributes_of lists)) (at / per)

  value_not_2 : (at : ℕ) → IsOfValue at → at ≢ 2
  value_not_2 at has two = value_not_reserved lists sound.blocks.forks (2 / per) (subst (λ (n : ℕ). Contains (blocks_of_values (attributes_of lists)) (n / per)) two has) header_reserved

  value_not_in : (owned : Owned) → Contains (forks_of lists) owned → (at : ℕ) → IsOfValue at → Contains (sectors_of per (blocks_by owned)) at → ⊥
  value_not_in owned stands at has there = value_not_in_fork lists sound.blocks.forks owned (at / per) has stands (in_block per (blocks_by owned) at whole.some there)

  pub value_not_in_catalog : (at : ℕ) → IsOfValue at → Contains (catalog_sectors lists) at → ⊥
  value_not_in_catalog at has there = value_not_in catalog_owned (special_stands lists catalog_owned (1, omega arith, refl)) at has there

  pub value_not_in_attributes : (at : ℕ) → IsOfValue at → Contains (attributes_sectors lists) at → ⊥
  value_not_in_attributes at has there = value_not_in attributes_owned (special_stands lists attributes_owned (4, omega arith, refl)) at has there

  pub value_not_in_map : (at : ℕ) → IsOfValue at → Contains (allocation_sectors lists) at → ⊥
  value_not_in_map at has there = value_not_in allocation_owned (special_stands lists allocation_owned (2, omega arith, refl)) at has there

  pub value_not_in_extents : (at : ℕ) → IsOfValue at → Contains (extents_sectors lists) at → ⊥
  value_not_in_extents at has there = value_not_in extents_owned (special_stands lists extents_owned (0, omega arith, refl)) at has (subst (λ (l : List ℕ). Contains l at) (sym extents_alone) there)

  -- where their sectors are the same, so are the values
  pub values_stay : (a b : Content) → ReadsAs a lists → ReadsAs b lists → ((at : ℕ) → IsOfValue at → sector b at ≡ sector a at) → valued (bytes_in b) (attributes_of lists) ≡ valued (bytes_in a) (attributes_of lists)
  values_stay a b reads_a reads_b agrees =
      values_same a b (attributes_of lists) (reads_b.block ∙ sym reads_a.block) (reads_b.total ∙ sym reads_a.total) (subst (λ (n : ℕ). 0 < n / 512) (sym reads_a.block) whole.some)
      (λ at has. agrees at (subst (λ (n : ℕ). Contains (blocks_of_values (attributes_of lists)) (at / (n / 512))) reads_a.block has))

  -- a sector of the attributes file is neither the header's nor the catalog's, whatever the size of the file
  pub attributes_apart : (at : ℕ) → Contains (attributes_sectors lists) at → (at ≢ 2) × (Contains (catalog_sectors lists) at → ⊥)
  attributes_apart at has = (
    λ two. no_header attributes_owned (λ kept_back inside. not_reserved lists sound.blocks.forks attributes_owned (2 / per) kept_back (special_stands lists attributes_owned (4, omega arith, refl)) inside)
        (subst (λ n. Contains (attributes_sectors lists) n) two has),
    λ there. not_in_both lists sound.blocks.forks catalog_owned attributes_owned (at / per) (special_stands lists catalog_owned (1, omega arith, refl)) (special_stands lists attributes_owned (4, omega arith, refl))
        (λ same. absurd (omega (arith, ap (λ (o : Owned). o.id) same))) (in_block per (blocks_by catalog_owned) at whole.some there) (in_block per (blocks_by attributes_owned) at whole.some has),
  )

  -- nor is it one of the bitmap's file
  pub attributes_off_map : (at : ℕ) → Contains (attributes_sectors lists) at → Contains (allocation_sectors lists) at → ⊥
  attributes_off_map at has there = not_in_both lists sound.blocks.forks allocation_owned attributes_owned (at / per) (special_stands lists allocation_owned (2, omega arith, refl)) (special_stands lists attributes_owned (4, omega arith, refl))
      (λ same. absurd (omega (arith, ap (λ (o : Owned). o.id) same))) (in_block per (blocks_by allocation_owned) at whole.some there) (in_block per (blocks_by attributes_owned) at whole.some has)

  -- nor one of the extents overflow file
  pub attributes_off_extents : (at : ℕ) → Contains (attributes_sectors lists) at → Contains (extents_sectors lists) at → ⊥
  attributes_off_extents at has there = not_in_both lists sound.blocks.forks extents_owned attributes_owned (at / per) (special_stands lists extents_owned (0, omega arith, refl)) (special_stands lists attributes_owned (4, omega arith, refl))
      (λ same. absurd (omega (arith, ap (λ (o : Owned). o.id) same))) (in_block per (blocks_by extents_owned) at whole.some (subst (λ (l : List ℕ). Contains l at) (sym extents_alone) there)) (in_block per (blocks_by attributes_owned) at whole.some has)

  -- the CNID of a file is one that users' files have
  pub user_of : (p : Placed) (file : FileRecord) → Contains (entries_of (records_of lists)) p → p.value ≡ File file → IsUserId lists.head.next_catalog_id file.fields.id
  user_of p file stands is = subst (λ id. IsUserId lists.head.next_catalog_id id) (ap id_in is) (each_of (λ (q : Placed). IsUserId lists.head.next_catalog_id (id_of q)) (entries_of (records_of lists)) sound.entries.ids.each p stands)

  -- what holds of each fork of a user's file holds of both forks of a file: their bytes are the same
  pub both_forks : (a b : Content) → ((fork : Owned) → Contains (forks_of lists) fork → IsUserId lists.head.next_catalog_id fork.id → bytes_in_fork b fork.id fork.kind fork.fork ≡ bytes_in_fork a fork.id fork.kind fork.fork)
      → (p : Placed) (file : FileRecord) → Contains (entries_of (records_of lists)) p → p.value ≡ File file → file_bytes b file ≡ file_bytes a file
  both_forks a b same p file stands is = λ i. record {
    data_bytes = same (data_fork_of file) (file_fork_stands lists p file stands is) (user_of p file stands is) i;
    resource_bytes = same (resource_fork_of file) (resource_fork_stands lists p file stands is) (user_of p file stands is) i;
  }

  module _ (fork : Owned) (fork_there : Contains (forks_of lists) fork) (user_id : IsUserId lists.head.next_catalog_id fork.id) where
    abbrev file_sectors : List ℕ
    file_sectors = sectors_of per (blocks_by fork)

    -- it is no special file's
    not_special : (owned : Owned) → owned.id ≢ 2 → owned.id < 16 → owned ≢ fork
    not_special owned differs low same = by user_id
      where
        by : IsUserId lists.head.next_catalog_id fork.id → ⊥
        by (inl two) = differs (ap (λ (o : Owned). o.id) same ∙ two)
        by (inr user) = omega (arith, user.0, low, ap (λ (o : Owned). o.id) same)

    pub not_2 : (at : ℕ) → Contains file_sectors at → at ≢ 2
    not_2 at has two = no_header fork (λ kept_back inside. not_reserved lists sound.blocks.forks fork (2 / per) kept_back fork_there inside) (subst (λ n. Contains file_sectors n) two has)

    not_in : (owned : Owned) → Contains (forks_of lists) owned → owned ≢ fork → (at : ℕ) → Contains file_sectors at → Contains (sectors_of per (blocks_by owned)) at → ⊥
    not_in owned stands_too differs at has there = not_in_both lists sound.blocks.forks owned fork (at / per) stands_too fork_there differs
        (in_block per (blocks_by owned) at whole.some there) (in_block per (blocks_by fork) at whole.some has)

    pub not_in_catalog : (at : ℕ) → Contains file_sectors at → Contains (catalog_sectors lists) at → ⊥
    not_in_catalog at has there = not_in catalog_owned (special_stands lists catalog_owned (1, omega arith, refl)) (not_special catalog_owned (λ two. absurd (omega (arith, two))) (omega arith)) at has there

    not_in_attributes : (at : ℕ) → Contains file_sectors at → Contains (attributes_sectors lists) at → ⊥
    not_in_attributes at has there = not_in attributes_owned (special_stands lists attributes_owned (4, omega arith, refl)) (not_special attributes_owned (λ two. absurd (omega (arith, two))) (omega arith)) at has there

    pub not_in_extents : (at : ℕ) → Contains file_sectors at → Contains (extents_sectors lists) at → ⊥
    not_in_extents at has there = not_in extents_owned (special_stands lists extents_owned (0, omega arith, refl)) (not_special extents_owned (λ two. absurd (omega (arith, two))) (omega arith)) at has (subst (λ (l : List ℕ). Contains l at) (sym extents_alone) there)

    pub not_in_map : (at : ℕ) → Contains file_sectors at → Contains (allocation_sectors lists) at → ⊥
    not_in_map at has there = not_in allocation_owned (special_stands lists allocation_owned (2, omega arith, refl)) (not_special allocation_owned (λ two. absurd (omega (arith, two))) (omega arith)) at has there

    -- the bytes by the lists
    pub by_lists : (content : Content) → ReadsAs content lists → bytes_in_fork content fork.id fork.kind fork.fork ≡ take fork.fork.logical_size (block_bytes content (lists.head.total_blocks * per) file_sectors)
    unfolding bytes_in_fork
    by_lists content reads = λ i. take fork.fork.logical_size
        (block_bytes content (reads.total i * (reads.block i / 512)) (sectors_of (reads.block i / 512) (blocks_of (extents_of (map overflow_of (reads.overflow i)) fork.id fork.kind fork.fork))))

    module _ (a b : Content) (reads_a : ReadsAs a lists) (reads_b : ReadsAs b lists) (agrees : (at : ℕ) → at ≢ 2 → (Contains (catalog_sectors lists) at → ⊥) → (Contains (attributes_sectors lists) at → ⊥) → sector b at ≡ sector a at) where
      bytes_stay : bytes_in_fork b fork.id fork.kind fork.fork ≡ bytes_in_fork a fork.id fork.kind fork.fork
      bytes_stay = by_lists b reads_b ∙ ap (λ (l : List ℕ). take fork.fork.logical_size l) (same_bytes a b (lists.head.total_blocks * per) file_sectors (λ at has. agrees at (not_2 at has) (not_in_catalog at has) (not_in_attributes at has))) ∙ sym (by_lists a reads_a)

  -- so is the tree of the lists, where neither header nor catalog nor bitmap is looked at
  pub tree_stays_but : (a b : Content) → ReadsAs a lists → ReadsAs b lists → ((at : ℕ) → at ≢ 2 → (Contains (catalog_sectors lists) at → ⊥) → (Contains (allocation_sectors lists) at → ⊥) → sector b at ≡ sector a at) → tree_in lists (bytes_in b) ≡ tree_in lists (bytes_in a)
  tree_stays_but a b reads_a reads_b agrees = same_bytes_same_tree lists (bytes_in b) (bytes_in a) (both_forks a b (λ fork there user.
      by_lists fork there user b reads_b
      ∙ ap (λ (l : List ℕ). take fork.fork.logical_size l) (same_bytes a b (lists.head.total_blocks * per) (file_sectors fork there user) (λ at has. agrees at (not_2 fork there user at has) (not_in_catalog fork there user at has) (not_in_map fork there user at has)))
      ∙ sym (by_lists fork there user a reads_a)))
      (values_stay a b reads_a reads_b (λ at has. agrees at (value_not_2 at has) (value_not_in_catalog at has) (value_not_in_map at has)))

  -- so is it where neither header nor attributes file nor bitmap is looked at
  pub tree_stays_beside : (a b : Content) → ReadsAs a lists → ReadsAs b lists → ((at : ℕ) → at ≢ 2 → (Contains (attributes_sectors lists) at → ⊥) → (Contains (allocation_sectors lists) at → ⊥) → sector b at ≡ sector a at) → tree_in lists (bytes_in b) ≡ tree_in lists (bytes_in a)
  tree_stays_beside a b reads_a reads_b agrees = same_bytes_same_tree lists (bytes_in b) (bytes_in a) (both_forks a b (λ fork there user.
      by_lists fork there user b reads_b
      ∙ ap (λ (l : List ℕ). take fork.fork.logical_size l) (same_bytes a b (lists.head.total_blocks * per) (file_sectors fork there user) (λ at has. agrees at (not_2 fork there user at has) (not_in_attributes fork there user at has) (not_in_map fork there user at has)))
      ∙ sym (by_lists fork there user a reads_a)))
      (values_stay a b reads_a reads_b (λ at has. agrees at (value_not_2 at has) (value_not_in_attributes at has) (value_not_in_map at has)))

  -- so the tree of the lists is the same by both
  pub tree_stays : (a b : Content) → ReadsAs a lists → ReadsAs b lists → ((at : ℕ) → at ≢ 2 → (Contains (catalog_sectors lists) at → ⊥) → (Contains (attributes_sectors lists) at → ⊥) → sector b at ≡ sector a at) → tree_in lists (bytes_in b) ≡ tree_in lists (bytes_in a)
  tree_stays a b reads_a reads_b agrees = same_bytes_same_tree lists (bytes_in b) (bytes_in a) (both_forks a b (λ fork there user. bytes_stay fork there user a b reads_a reads_b agrees))
      (values_stay a b reads_a reads_b (λ at has. agrees at (value_not_2 at has) (value_not_in_catalog at has) (value_not_in_attributes at has)))

  -- so is it where neither header nor catalog nor attributes file nor bitmap is looked at, nor what lies in no used block
  pub tree_stays_used : (a b : Content) → ReadsAs a lists → ReadsAs b lists
      → ((at : ℕ) → at ≢ 2 → (Contains (catalog_sectors lists) at → ⊥) → (Contains (attributes_sectors lists) at → ⊥) → (Contains (allocation_sectors lists) at → ⊥) → Contains (used_in lists) (at / per_block_of lists.head) → sector b at ≡ sector a at)
      → tree_in lists (bytes_in b) ≡ tree_in lists (bytes_in a)
  tree_stays_used a b reads_a reads_b agrees = same_bytes_same_tree lists (bytes_in b) (bytes_in a) (both_forks a b (λ fork there user.
      by_lists fork there user b reads_b
      ∙ ap (λ (l : List ℕ). take fork.fork.logical_size l) (same_bytes a b (lists.head.total_blocks * per) (file_sectors fork there user)
      (λ at has. agrees at (not_2 fork there user at has) (not_in_catalog fork there user at has) (not_in_attributes fork there user at has) (not_in_map fork there user at has)
      (fork_is_used lists fork (at / per) there (in_block per (blocks_by fork) at whole.some has))))
      ∙ sym (by_lists fork there user a reads_a)))
      (values_stay a b reads_a reads_b (λ at has. agrees at (value_not_2 at has) (value_not_in_catalog at has) (value_not_in_attributes at has) (value_not_in_map at has) (value_is_used lists (at / per) has)))
