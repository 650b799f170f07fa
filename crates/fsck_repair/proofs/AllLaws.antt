-- All changes of a content whose counts were made anew.
use Rattle.std.proofs.Common.{◌≡◌, ◌<◌, ◌≤◌, ℕ, ◌-◌, ◌*◌, ◌/◌, ◌^◌, ◌==◌, nat_le, Bool, true, false, not, List, [], inl, inr, length, refl, sym, ◌∙◌, ap, subst, arith}
use Rattle.std.specs.Prelude.{Contains, Result, Ok, Err, OnOk, slice_index, Option, Some, None, slice_get, slice_index_or, if◌then◌else◌}
use Rattle.std.specs.List.{range_with_len}
use Rattle.std.proofs.lemmas.List.FromFn.{length-map-range_with_len}
use Rattle.hx_bytes.specs.Field.{big}
use Rattle.jnl_format.specs.Recovery.{Content, header_of_volume}
use Rattle.flag_rows.specs.Bits.{count_set}
use Rattle.fork_map.specs.Blocks.{blocks_of, sectors_of, fork_sectors}
use Rattle.hfs_volume.specs.Blocks.{IsGoodHeader, is_among, used_in, count_used}
use Rattle.hfs_volume.specs.Content.{volume_of, records_of, bitmap_sectors, catalog_file, block_limit, node_of_fork, tree_of_fork}
use Rattle.btree_node.specs.TreeFile.{TreeHead}
use Rattle.hfs_volume.specs.Broken.{leaves_in}
use Rattle.hfs_volume.specs.Forks.{per_block_of}
use Rattle.hfs_volume.specs.Records.{entries_of, is_file, is_folder}
use Rattle.std.specs.List.{count_by}
use Rattle.fsck_core.proofs.Limits.{block_range}
use Rattle.fsck_core.proofs.RowLaws.{count_map}
use Rattle.std.proofs.lemmas.Bool.{leb-true, and_parts}
use Rattle.volume_header.specs.Refusal.{is_volume_size, is_hfsx, is_block_size, fits_blocks}
use Rattle.volume_header.specs.declared.header.VolumeHeader.{VolumeHeader}
use Rattle.volume_header.specs.declared.refusal.HeaderRefusal.{HeaderRefusal}
use Rattle.volume_header.specs.declared.refusal.HeaderRefusal.TheVariants.{LimitSectors, NotHfsx, BadGeometry}
use Rattle.volume_repair.specs.Repair.{catalog_sectors, needs_copy}
use Rattle.fsck_repair.specs.Bitmap.{MendsBitmap, IsPlainPlace}
use Rattle.fsck_repair.specs.Changing.{AreRight, IsSettled, Notes}
use Rattle.fsck_repair.specs.Counted.{IsCounted, HasHeaders, HasNumbers, IsHeaderSector, IsPlain, IsSkipped}
use Rattle.fsck_repair.specs.Leaf.{AreLeaves, IsCatalogSector, IsOfLeaves}
use Rattle.fsck_repair.specs.Overlay.{places_of}
use Rattle.fsck_repair.specs.declared.counts.Counts.{Counts}
use Rattle.fsck_repair.specs.declared.mend.Change.{Change}
use Rattle.fsck_repair.specs.declared.numbers.Numbers.{Numbers}
use Rattle.fsck_repair.specs.declared.skipped.Skipped.{Skipped}
use Rattle.fsck_repair.proofs.CallLaws.{none_right}
use Rattle.fsck_repair.proofs.LeavesLaws.{all_settled, are_leaves, first_leaf}
use Rattle.fsck_repair.proofs.MendedLaws.{mends_bitmap}

passed : (b : Bool) (why : HeaderRefusal) (rest : Option HeaderRefusal) → (if not b then Some why else rest) ≡ None → (b ≡ true) × (rest ≡ None)
passed true why rest is = (refl, is)
passed false why rest is = absurd (cc)

-- a volume has at most so many blocks
pub total_few : (sectors : ℕ) (head : VolumeHeader) → IsGoodHeader sectors head → head.total_blocks ≤ 268435456
total_few sectors head good =
    let p1 = passed (is_volume_size sectors) (LimitSectors sectors) _ good.accepted in
    let p2 = passed (is_hfsx head) (NotHfsx head.signature head.version) _ p1.1 in
    let p3 = passed (is_block_size head.block_size) (BadGeometry 40) _ p2.1 in
    let p4 = passed (fits_blocks head sectors) (BadGeometry 44) _ p3.1 in
    leb-true head.total_blocks 268435456 (and_parts (head.total_blocks == sectors * 512 / head.block_size) (nat_le head.total_blocks 268435456) p4.0).1

module _ (content : Content) (counts : Counts) (counted : IsCounted content counts) where
  pub headers_there : HasHeaders content counts.headers
  headers_there = record { good = counted.mendable.header; head = counted.head; alternate = counted.alternate }

  pub some_per_block : 0 < per_block_of (header_of_volume content)
  some_per_block = let range = block_range (length content) (header_of_volume content) counted.mendable.header in let low = range.0 in omega (arith, low)

  pub used_few : length counts.used ≤ 2 ^ 32
  unfolding volume_of
  used_few =
      let long : length counts.used ≡ (header_of_volume content).total_blocks = ap (λ (l : List Bool). length l) counted.used ∙ length-map-range_with_len (is_among (used_in (volume_of content))) 0 (volume_of content).head.total_blocks in
      omega (arith, long, total_few (length content) (header_of_volume content) counted.mendable.header)

  -- the numbers of the header
  pub numbers_there : (numbers : Numbers) (total : ℕ) → total ≡ counts.headers.head.total_blocks → big 4 numbers.files ≡ big 4 (count_by (λ placed. is_file placed.value) (entries_of (records_of (volume_of content))))
      → big 4 numbers.folders ≡ big 4 (count_by (λ placed. is_folder placed.value) (entries_of (records_of (volume_of content))) - 1) → numbers.free ≡ total - count_set counts.used → HasNumbers content numbers
  unfolding volume_of
  numbers_there numbers total is files folders free = record {
    files = files;
    folders = folders;
    free = ap (λ n. big 4 n) (free ∙ (λ i. is i - count_set counts.used) ∙ (λ i. (counted.head i).total_blocks - count i));
  }
    where
      count : count_set counts.used ≡ count_used (volume_of content).head.total_blocks (used_in (volume_of content))
      count = ap count_set counted.used ∙ count_map (is_among (used_in (volume_of content))) (λ flag. flag) (range_with_len 0 (volume_of content).head.total_blocks)

  -- whether the copy is skipped
  pub skipped_none : (met : Bool) (skipped : Skipped) → met ≡ true → needs_copy content ≡ not met → skipped.copy ≡ None → IsSkipped content skipped
  skipped_none met skipped is needs none = none ∙ sym (ap (λ b. if b then Some (length content - 2) else None) (needs ∙ ap not is))

  pub skipped_some : (met : Bool) (skipped : Skipped) (sectors : ℕ) → met ≡ false → needs_copy content ≡ not met → sectors ≡ length content → skipped.copy ≡ Some (sectors - 2) → IsSkipped content skipped
  skipped_some met skipped sectors is needs many some = some ∙ ap (λ n. Some (n - 2)) many ∙ sym (ap (λ b. if b then Some (length content - 2) else None) (needs ∙ ap not is))

  -- the bits of the allocation file
  pub mends_bits : (sectors : List ℕ) (size place at : ℕ) → sectors ≡ bitmap_sectors content → size ≡ (header_of_volume content).allocation_fork.logical_size → place * 512 < size → slice_get sectors place ≡ Some at → IsPlain content at
      → MendsBitmap content (λ k. slice_index_or counts.used k false) size place at
  mends_bits sectors size place at same is inside there plain =
      subst (λ n. MendsBitmap content (λ k. slice_index_or counts.used k false) n place at) (sym is)
      (mends_bitmap content counted.mendable some_per_block counts.used counted.used place at (subst (λ n. place * 512 < n) is inside) (ap (λ (l : List ℕ). slice_get l place) (sym same) ∙ there) plain)

  -- all together
  pub all_there : (first second third changes : List Change) (sectors : List ℕ) (size : ℕ) → sectors ≡ bitmap_sectors content → size ≡ (header_of_volume content).allocation_fork.logical_size → first ≡ []
      → Notes content (IsHeaderSector content) first second → Notes content (IsPlainPlace content size sectors) second third → Notes content (IsCatalogSector content) third changes
      → AreRight content changes × ((at : ℕ) → IsSettled content changes at)
  all_there first second third changes sectors size same is none headers bitmap catalog = (
    catalog.right (bitmap.right (headers.right (none_right content first none))),
    all_settled content counted.mendable some_per_block changes
        (λ at here. later second changes at (λ s stands. catalog.stays s (bitmap.stays s stands)) (headers.settled at here))
        (λ at here. later third changes at catalog.stays (bitmap.settled at (here.0, here.1, subst (λ n. here.1 * 512 < n) (sym is) here.2, ap (λ (l : List ℕ). slice_get l here.1) same ∙ here.3)))
        catalog.settled,
  )
    where
      later : (one other : List Change) (at : ℕ) → ((s : ℕ) → Contains (places_of one) s → Contains (places_of other) s) → IsSettled content one at → IsSettled content other at
      later one other at stays settled inside = elim (settled inside) [
        | inl kept ↦ inl kept
        | inr stands ↦ inr (stays at stands)
      ]

  -- ---- the files, as the walk has them

  pub bitmap_is : fork_sectors counts.allocation (counts.headers.head.block_size / 512) ≡ bitmap_sectors content
  bitmap_is = λ i. sectors_of ((counted.head i).block_size / 512) (blocks_of (counted.allocation i))

  pub size_is : counts.headers.head.allocation_fork.logical_size ≡ (header_of_volume content).allocation_fork.logical_size
  size_is = ap (λ (h : VolumeHeader). h.allocation_fork.logical_size) counted.head

  catalog_is : fork_sectors counts.catalog (counts.headers.head.block_size / 512) ≡ catalog_sectors content
  catalog_is = λ i. sectors_of ((counted.head i).block_size / 512) (blocks_of (counted.catalog i))

  limit_is : counts.headers.head.total_blocks * (counts.headers.head.block_size / 512) ≡ block_limit content
  limit_is = λ i. (counted.head i).total_blocks * ((counted.head i).block_size / 512)

  node_is : counts.tree.shape.node_size ≡ (catalog_file content).head.node_size
  node_is = ap (λ (h : TreeHead). h.node_size) counted.tree

  pub first_is : counts.tree.shape.first ≡ slice_index (leaves_in (catalog_file content)) 0
  first_is = ap (λ (h : TreeHead). h.first) counted.tree ∙ first_leaf (catalog_file content) counted.mendable.trees.catalog

  there : AreLeaves content (catalog_sectors content) (λ n. node_of_fork content (block_limit content) (catalog_sectors content) (catalog_file content).head.node_size n) ((catalog_file content).head.node_size / 512) (records_of (volume_of content)) (leaves_in (catalog_file content))
  unfolding catalog_file tree_of_fork
  there = are_leaves content counted.mendable some_per_block

  pub leaves_there : (size : ℕ) → size ≡ counts.tree.shape.node_size
      → AreLeaves content (fork_sectors counts.catalog (counts.headers.head.block_size / 512)) (λ n. node_of_fork content (counts.headers.head.total_blocks * (counts.headers.head.block_size / 512)) (fork_sectors counts.catalog (counts.headers.head.block_size / 512)) size n) (size / 512) (records_of (volume_of content)) (leaves_in (catalog_file content))
  leaves_there size same =
      subst (λ s. AreLeaves content s (λ n. node_of_fork content (counts.headers.head.total_blocks * (counts.headers.head.block_size / 512)) s size n) (size / 512) (records_of (volume_of content)) (leaves_in (catalog_file content))) (sym catalog_is)
      (subst (λ l. AreLeaves content (catalog_sectors content) (λ n. node_of_fork content l (catalog_sectors content) size n) (size / 512) (records_of (volume_of content)) (leaves_in (catalog_file content))) (sym limit_is)
      (subst (λ z. AreLeaves content (catalog_sectors content) (λ n. node_of_fork content (block_limit content) (catalog_sectors content) z n) (z / 512) (records_of (volume_of content)) (leaves_in (catalog_file content))) (sym (same ∙ node_is)) there))

  pub catalog_noted : {T E : Type 0} (result : Result T E) (size : ℕ) (a b : List Change) → size ≡ counts.tree.shape.node_size
      → OnOk result (Notes content (IsOfLeaves content (fork_sectors counts.catalog (counts.headers.head.block_size / 512)) (size / 512) (leaves_in (catalog_file content)) (length (leaves_in (catalog_file content)))) a b)
      → OnOk result (Notes content (IsCatalogSector content) a b)
  catalog_noted (Ok x) size a b same notes =
      subst (λ s. Notes content (IsOfLeaves content s ((catalog_file content).head.node_size / 512) (leaves_in (catalog_file content)) (length (leaves_in (catalog_file content)))) a b) catalog_is
      (subst (λ z. Notes content (IsOfLeaves content (fork_sectors counts.catalog (counts.headers.head.block_size / 512)) (z / 512) (leaves_in (catalog_file content)) (length (leaves_in (catalog_file content)))) a b) (same ∙ node_is) notes)
  catalog_noted (Err e) size a b same notes = notes
