-- The bytes of files whose blocks no change touches: contents that differ in free blocks and in special files alone tell the same.
use Rattle.hfs_volume.proofs.Valued.{values_same}
use Rattle.hfs_volume.specs.Values.{blocks_of_values}
use Rattle.std.proofs.Common.{◌≡◌, ◌<◌, ℕ, ◌*◌, ◌/◌, ◌==◌, false, List, [], ◌∷◌, length, inl, inr, sym, ◌∙◌, ap, subst, arith, refl}
use Rattle.std.proofs.lemmas.Bool.{true≢false}
use Rattle.std.specs.Prelude.{Contains, ◌&&◌, map, take}
use Rattle.hx_bytes.specs.declared.extents.Extent.{Extent}
use Rattle.hx_bytes.specs.declared.extents.ForkRecord.{ForkRecord}
use Rattle.sector_disk.specs.Space.{AgreesOutside}
use Rattle.jnl_format.specs.Recovery.{Content, sector, header_of_volume}
use Rattle.volume_header.specs.declared.header.VolumeHeader.{VolumeHeader}
use Rattle.fork_map.specs.Blocks.{blocks_of, sectors_of}
use Rattle.cat_records.specs.declared.record.FileRecord.{FileRecord}
use Rattle.cat_records.specs.declared.record.CatRecord.TheVariants.{File}
use Rattle.hfs_volume.specs.Records.{Placed, overflow_of, entries_of, id_of, id_in}
use Rattle.hfs_volume.specs.Forks.{Owned, special_forks, blocks_owned, extents_of, per_block_of, data_kind, resource_kind}
use Rattle.hfs_volume.specs.Entries.{IsUserId}
use Rattle.hfs_volume.specs.Content.{VolumeState, volume_of, records_of, overflow_in_volume, block_bytes, attributes_of}
use Rattle.hfs_volume.specs.Blocks.{forks_of, used_in, HasForks}
use Rattle.hfs_volume.specs.Reclaim.{is_fork}
use Rattle.hfs_volume.specs.Sound.{IsSound}
use Rattle.hfs_volume.specs.TreeOf.{bytes_in_fork, bytes_in}
use Rattle.hfs_volume.specs.Writing.{IsPutSector, OthersKeepBytes, KeepsFiles, KeepsForksBut}
use Rattle.hfs_volume.specs.Changes.{with_free}
use Rattle.hfs_volume.proofs.Members.{first_or_later, in_one, each_of}
use Rattle.hfs_volume.proofs.Fitting.{differs}
use Rattle.hfs_volume.proofs.Sectors.{in_block}
use Rattle.hfs_volume.proofs.Apart.{among, fork_is_used, not_reserved, not_in_both, value_is_used, value_not_reserved, value_not_in_fork}
use Rattle.hfs_volume.proofs.Untouched.{HasWholeBlocks, whole_blocks, data_fork_of, file_fork_stands, resource_fork_of, resource_fork_stands, special_stands}
use Rattle.hfs_volume.proofs.Rereading.{same_bytes}
use Rattle.hfs_volume.proofs.BlockForks.{extents_same}

abbrev of : ℕ → ForkRecord → Owned
of n fork = record { id = n; kind = data_kind; fork = fork }

at : (n : ℕ) → 2 < n → n < 16 → (2 < n) × (n < 16)
at n low high = (low, high)

-- a special file has a number below those of users
special_number : (head : VolumeHeader) (owned : Owned) → Contains (special_forks head) owned → (2 < owned.id) × (owned.id < 16)
special_number head owned stands = elim (first_or_later (of 3 head.extents_fork) owned (of 4 head.catalog_fork ∷ of 6 head.allocation_fork ∷ of 7 head.startup_fork ∷ of 8 head.attributes_fork ∷ []) stands) [
  | inl same ↦ at owned.id (omega (arith, ap (λ (o : Owned). o.id) same)) (omega (arith, ap (λ (o : Owned). o.id) same))
  | inr a ↦ elim (first_or_later (of 4 head.catalog_fork) owned (of 6 head.allocation_fork ∷ of 7 head.startup_fork ∷ of 8 head.attributes_fork ∷ []) a) [
    | inl same ↦ at owned.id (omega (arith, ap (λ (o : Owned). o.id) same)) (omega (arith, ap (λ (o : Owned). o.id) same))
    | inr b ↦ elim (first_or_later (of 6 head.allocation_fork) owned (of 7 head.startup_fork ∷ of 8 head.attributes_fork ∷ []) b) [
      | inl same ↦ at owned.id (omega (arith, ap (λ (o : Owned). o.id) same)) (omega (arith, ap (λ (o : Owned). o.id) same))
      | inr c ↦ elim (first_or_later (of 7 head.startup_fork) owned (of 8 head.attributes_fork ∷ []) c) [
        | inl same ↦ at owned.id (omega (arith, ap (λ (o : Owned). o.id) same)) (omega (arith, ap (λ (o : Owned). o.id) same))
        | inr d ↦ let same = in_one (of 8 head.attributes_fork) owned d in at owned.id (omega (arith, ap (λ (o : Owned). o.id) same)) (omega (arith, ap (λ (o : Owned). o.id) same))
      ]
    ]
  ]
]

-- what the lists of a content have of its header
head_is : (content : Content) → (volume_of content).head ≡ header_of_volume content
unfolding volume_of
head_is content = refl

wholes : (content : Content) → IsSound content → HasWholeBlocks (length content) (header_of_volume content)
unfolding volume_of
wholes content sound = whole_blocks (length content) (header_of_volume content) sound.volume.blocks.header.accepted

-- the bytes of a file by what its sectors rest on
bytes_by : Content → ℕ → ℕ → List Extent → ℕ → List ℕ
bytes_by content total size extents long = take long (block_bytes content (total * (size / 512)) (sectors_of (size / 512) (blocks_of extents)))

bytes_are : (content : Content) (owned : Owned) → bytes_in_fork content owned.id owned.kind owned.fork
    ≡ bytes_by content (header_of_volume content).total_blocks (header_of_volume content).block_size (extents_of (overflow_in_volume (volume_of content)) owned.id owned.kind owned.fork) owned.fork.logical_size
unfolding bytes_in_fork bytes_by
bytes_are content owned = refl

module _ (content other : Content) (sound : IsSound content) (agrees : AgreesOutside (IsPutSector content) content other) (p : Placed) (file : FileRecord) (stands : Contains (entries_of (records_of (volume_of content))) p) (is : p.value ≡ File file)
    (owned : Owned) (number : owned.id ≡ file.fields.id) (own : Contains (forks_of (volume_of content)) owned) where
  abbrev volume : VolumeState
  volume = volume_of content

  abbrev per : ℕ
  per = per_block_of (header_of_volume content)

  forks : HasForks volume
  forks = sound.volume.blocks.forks

  user : IsUserId volume.head.next_catalog_id file.fields.id
  user = subst (λ id. IsUserId volume.head.next_catalog_id id) (ap id_in is) (each_of (λ (q : Placed). IsUserId volume.head.next_catalog_id (id_of q)) (entries_of (records_of volume)) sound.volume.entries.ids.each p stands)

  -- a block of the file is none that may be written
  not_put : (at : ℕ) → Contains (blocks_owned (overflow_in_volume volume) owned) (at / per) → IsPutSector content at → ⊥
  not_put at has (inl free) =
      let used = among (used_in volume) (at / per) (fork_is_used volume owned (at / per) own has) in
      let bit = sound.volume.blocks.bits.bits (at / per) (subst (λ (h : VolumeHeader). at / per < h.total_blocks) (sym (head_is content)) free.0) in
      true≢false (sym used ∙ sym bit ∙ free.1)
  not_put at has (inr (inl reserved)) = not_reserved volume forks owned (at / per) reserved own has
  not_put at has (inr (inr special)) =
      let its_number = special_number volume.head special.0 special.1 in
      not_in_both volume forks owned special.0 (at / per) own (special_stands volume special.0 special.1)
      (λ same. not_special special.0.id its_number.0 its_number.1 user (ap (λ (o : Owned). o.id) (sym same) ∙ number)) has special.2
    where
      not_special : (n : ℕ) → 2 < n → n < 16 → IsUserId volume.head.next_catalog_id file.fields.id → n ≡ file.fields.id → ⊥
      not_special n low high_ (inl two) same = omega (arith, low, two, same)
      not_special n low high_ (inr given) same = omega (arith, high_, given, same)

  stays : (at : ℕ) → Contains (sectors_of per (blocks_owned (overflow_in_volume volume) owned)) at → sector other at ≡ sector content at
  stays at has = elim (agrees.each at) [
    | inl same ↦ same
    | inr put ↦ absurd (not_put at (in_block per (blocks_owned (overflow_in_volume volume) owned) at (wholes content sound).some has) put)
  ]

  pub same_fork_bytes : (header_of_volume other).block_size ≡ (header_of_volume content).block_size → (header_of_volume other).total_blocks ≡ (header_of_volume content).total_blocks
      → extents_of (overflow_in_volume (volume_of other)) owned.id owned.kind owned.fork ≡ extents_of (overflow_in_volume volume) owned.id owned.kind owned.fork
      → bytes_in_fork other owned.id owned.kind owned.fork ≡ bytes_in_fork content owned.id owned.kind owned.fork
  unfolding bytes_by
  same_fork_bytes size total extents =
      bytes_are other owned ∙ (λ i. bytes_by other (total i) (size i) (extents i) owned.fork.logical_size)
      ∙ ap (take owned.fork.logical_size)
      (same_bytes content other ((header_of_volume content).total_blocks * per) (sectors_of per (blocks_owned (overflow_in_volume volume) owned)) stays)
      ∙ sym (bytes_are content owned)

-- a sector of a value is none that may be written
value_kept : (content other : Content) → IsSound content → AgreesOutside (IsPutSector content) content other → (at : ℕ) → Contains (blocks_of_values (attributes_of (volume_of content))) (at / per_block_of (header_of_volume content)) → sector other at ≡ sector content at
value_kept content other sound agrees at has = elim (agrees.each at) [
  | inl same ↦ same
  | inr put ↦ absurd (not_put_value put)
]
  where
    not_put_value : IsPutSector content at → ⊥
    not_put_value (inl free) =
        let used = among (used_in (volume_of content)) (at / per_block_of (header_of_volume content)) (value_is_used (volume_of content) (at / per_block_of (header_of_volume content)) has) in
        let bit = sound.volume.blocks.bits.bits (at / per_block_of (header_of_volume content)) (subst (λ (h : VolumeHeader). at / per_block_of (header_of_volume content) < h.total_blocks) (sym (head_is content)) free.0) in
        true≢false (sym used ∙ sym bit ∙ free.1)
    not_put_value (inr (inl reserved)) = value_not_reserved (volume_of content) sound.volume.blocks.forks (at / per_block_of (header_of_volume content)) has reserved
    not_put_value (inr (inr special)) = value_not_in_fork (volume_of content) sound.volume.blocks.forks special.0 (at / per_block_of (header_of_volume content)) has (special_stands (volume_of content) special.0 special.1) special.2

pub others_keep_law : OthersKeepBytes
others_keep_law id kind from count fresh content other put sound puts head overflow agrees =
    ((of_file, values_same content other (attributes_of (volume_of content)) size_same total_same (wholes content sound).some (value_kept content other sound agrees)), of_fork)
  where
    put_head : put.head ≡ with_free puts.free puts.next (volume_of content).head
    put_head = ap (λ (v : VolumeState). v.head) puts.puts.rest

    size_same : (header_of_volume other).block_size ≡ (header_of_volume content).block_size
    size_same = ap (λ (h : VolumeHeader). h.block_size) (sym (head_is other) ∙ head ∙ put_head) ∙ ap (λ (h : VolumeHeader). h.block_size) (head_is content)

    total_same : (header_of_volume other).total_blocks ≡ (header_of_volume content).total_blocks
    total_same = ap (λ (h : VolumeHeader). h.total_blocks) (sym (head_is other) ∙ head ∙ put_head) ∙ ap (λ (h : VolumeHeader). h.total_blocks) (head_is content)

    of_fork : KeepsForksBut id kind content other
    of_fork p file stands is owned number own apart =
        same_fork_bytes content other sound agrees p file stands is owned number own size_same total_same
        (ap (λ pairs. extents_of (map overflow_of pairs) owned.id owned.kind owned.fork) overflow ∙ extents_same id kind (overflow_in_volume (volume_of content)) (overflow_in_volume put) puts.puts.others owned apart)

    of_file : KeepsFiles id (volume_of content) (bytes_in content) (bytes_in other)
    of_file p file stands is differ =
        let apart : (n : ℕ) → ((file.fields.id == id) && (n == kind)) ≡ false = λ n. ap (λ b. b && (n == kind)) (differs file.fields.id id (λ same. differ (ap id_in is ∙ same))) in
        λ i. record {
          data_bytes = of_fork p file stands is (data_fork_of file) refl (file_fork_stands (volume_of content) p file stands is) (apart data_kind) i;
          resource_bytes = of_fork p file stands is (resource_fork_of file) refl (resource_fork_stands (volume_of content) p file stands is) (apart resource_kind) i;
        }
