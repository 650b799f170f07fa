-- The bytes of files behind a put of data: fresh blocks were written first, and then sectors of the header, the catalog and the bitmap alone.
use Rattle.std.proofs.Common.{◌≡◌, ◌≢◌, ◌⊎◌, inl, inr, ◌<◌, ◌≤◌, ℕ, ◌+◌, ◌-◌, ◌*◌, ◌/◌, Bool, true, false, List, [], ◌∷◌, ◌++◌, length, take, drop, map, replicate, refl, sym, ◌∙◌, ap, subst, arith, ⊎_elim, length-append}
use Rattle.std.specs.Prelude.{Contains, nat_lt, if◌then◌else◌}
use Rattle.std.specs.List.{AllByRecursion, flat_map, range_with_len}
use Rattle.std.proofs.lemmas.Bool.{true≢false, lt-ltb, cases_lt}
use Rattle.std.proofs.lemmas.List.{append-nil, length-replicate}
use Rattle.std.proofs.Math.ListN.{drop_of_length-le}
use Rattle.std.proofs.lemmas.List.Elements.{Contains-append_left}
use Rattle.std.proofs.lemmas.Option.{get_or_from_slice_get, slice_get_within}
use Rattle.hx_bytes.specs.Field.{put_at}
use Rattle.sector_disk.specs.Lists.{Content, sector}
use Rattle.sector_disk.specs.Space.{AgreesOutside}
use Rattle.jnl_format.specs.Recovery.{header_of_volume}
use Rattle.fork_map.specs.Blocks.{blocks_of, sectors_of}
use Rattle.file_io.specs.Bytes.{bytes_in, padded as padded_bytes, sector_bytes, written}
use Rattle.file_io.specs.Touching.{IsOneOf}
use Rattle.cat_records.specs.declared.record.CatRecord.TheVariants.{File}
use Rattle.cat_records.specs.declared.record.FileRecord.{FileRecord}
use Rattle.hfs_model.specs.Step.{padded}
use Rattle.hfs_volume.specs.Aside.{IsFreeSector}
use Rattle.hfs_volume.specs.Blocks.{forks_of, used_in}
use Rattle.hfs_volume.specs.Content.{VolumeState, block_bytes, block_sector, is_set, overflow_in_volume, records_of, volume_of}
use Rattle.hfs_volume.specs.Data.{AreFresh}
use Rattle.hfs_volume.specs.Entries.{IsUserId}
use Rattle.hfs_volume.specs.Forks.{Owned, allocation_id, blocks_owned, catalog_id, extents_id, data_kind, extents_of, parts_for, per_block_of, reserved_blocks, special_forks}
use Rattle.hfs_volume.specs.Records.{Overflow, Placed, entries_of, id_in, id_of, overflow_of}
use Rattle.hfs_volume.specs.Sound.{IsSound, IsSoundVolume}
use Rattle.hfs_volume.specs.TreeOf.{bytes_in_fork}
use Rattle.hfs_volume.specs.Writing.{IsPutSector, written_bytes}
use Rattle.hfs_volume.proofs.Apart.{among, fork_is_used, not_in_both, not_reserved, reserved_is_used}
use Rattle.hfs_volume.proofs.BlockWants.{in_range}
use Rattle.hfs_volume.proofs.Flat.{flat_agree}
use Rattle.hfs_volume.proofs.Members.{each_of, first_or_later}
use Rattle.hfs_volume.proofs.Sectors.{in_block, in_front}
use Rattle.hfs_volume.proofs.Untouched.{HasWholeBlocks, data_fork_of, file_fork_stands, special_stands, whole_blocks}
use Rattle.volume_base.proofs.FilesKept.{ReadsAs, allocation_sectors, catalog_sectors, extents_sectors}
use Rattle.volume_space.proofs.PutFork.{file_high}

-- ---- lists of bytes

-- what is written is what is put into the bytes with zeros behind them
pub written_is : (bytes : List ℕ) (from : ℕ) (value : List ℕ) → written bytes from value ≡ written_bytes from value bytes
written_is bytes from value = by (cases_lt from (length bytes))
  where
    none_more : (n : ℕ) → n ≡ 0 → bytes ++ replicate n 0 ≡ bytes
    none_more n is = ap (λ k. bytes ++ replicate k 0) is ∙ append-nil bytes

    by : (from < length bytes) ⊎ (length bytes ≤ from) → take from (padded_bytes from bytes) ++ value ++ drop (from + length value) bytes ≡ put_at (padded from bytes) from value
    by (inl low) = ap (λ (l : List ℕ). take from (padded from bytes) ++ value ++ drop (from + length value) l) (sym (none_more (from - length bytes) (omega (arith, low))))
    by (inr high) =
        ap (λ (l : List ℕ). take from (padded from bytes) ++ value ++ l)
        (drop_of_length-le bytes {i = from + length value} (omega (arith, high)) ∙ sym (drop_of_length-le (padded from bytes) {i = from + length value} (omega (arith, high, length-append bytes (replicate (from - length bytes) 0), length-replicate {A = ℕ} (from - length bytes) 0))))

-- the bytes of sectors that lie in blocks
bytes_inside : (content : Content) (limit : ℕ) (xs : List ℕ) → ((at : ℕ) → Contains xs at → at < limit) → block_bytes content limit xs ≡ bytes_in content xs
unfolding block_bytes block_sector sector_bytes
bytes_inside content limit xs inside =
    flat_agree (block_sector content limit) (sector_bytes content) xs (λ at has. ap (λ b. if b then take 512 (padded_bytes 512 (sector content at)) else replicate 512 0) (lt-ltb at limit (inside at has)))

bytes_agree : (a b : Content) (xs : List ℕ) → ((at : ℕ) → Contains xs at → sector b at ≡ sector a at) → bytes_in b xs ≡ bytes_in a xs
unfolding sector_bytes
bytes_agree a b xs same = flat_agree (sector_bytes b) (sector_bytes a) xs (λ at has. ap (λ (l : List ℕ). take 512 (padded_bytes 512 l)) (same at has))

-- the bytes of a fork, by lists that say where its blocks are
read_by : (content : Content) (lists : VolumeState) → ReadsAs content lists → (owned : Owned)
    → bytes_in_fork content owned.id owned.kind owned.fork ≡ take owned.fork.logical_size (block_bytes content (lists.head.total_blocks * per_block_of lists.head) (sectors_of (per_block_of lists.head) (blocks_of (extents_of (overflow_in_volume lists) owned.id owned.kind owned.fork))))
unfolding bytes_in_fork
read_by content lists reads owned = λ i. take owned.fork.logical_size
    (block_bytes content (reads.total i * (reads.block i / 512)) (sectors_of (reads.block i / 512) (blocks_of (extents_of (map overflow_of (reads.overflow i)) owned.id owned.kind owned.fork))))

-- each item of a list passes
each_low : (xs : List Owned) → AllByRecursion (λ (o : Owned). o.id < 16) xs → (owned : Owned) → Contains xs owned → owned.id < 16
each_low [] low owned has = absurd (omega (arith, has.1))
each_low (x ∷ xs) low owned has = elim (first_or_later x owned xs has) [
  | inl is ↦ subst (λ (o : Owned). o.id < 16) (sym is) low.0
  | inr later ↦ each_low xs low.1 owned later
]

-- ---- what was written

-- a sector of the header, the extents overflow file, the catalog or the bitmap
abbrev pub IsSpecial : VolumeState → ℕ → Type 0
IsSpecial lists s = (s ≡ 2) ⊎ (Contains (catalog_sectors lists) s ⊎ (Contains (allocation_sectors lists) s ⊎ Contains (extents_sectors lists) s))

module _ (content between after : Content) (sound : IsSound content) (fresh : List ℕ) (are_fresh : AreFresh (volume_of content) fresh)
    (spilled : AgreesOutside (IsOneOf (sectors_of (per_block_of (volume_of content).head) fresh)) content between) (later : AgreesOutside (IsSpecial (volume_of content)) between after)
  where
    abbrev lists : VolumeState
    lists = volume_of content

    abbrev per : ℕ
    per = per_block_of (volume_of content).head

    whole : HasWholeBlocks (volume_of content).sectors (volume_of content).head
    whole = whole_blocks (volume_of content).sectors (volume_of content).head sound.volume.blocks.header.accepted

    abbrev catalog_owned : Owned
    catalog_owned = record { id = catalog_id; kind = data_kind; fork = (volume_of content).head.catalog_fork }

    abbrev extents_owned : Owned
    extents_owned = record { id = extents_id; kind = data_kind; fork = (volume_of content).head.extents_fork }

    extents_alone : (s : ℕ) → Contains (extents_sectors (volume_of content)) s → Contains (sectors_of (per_block_of (volume_of content).head) (blocks_owned (overflow_in_volume (volume_of content)) extents_owned)) s
    unfolding extents_of
    extents_alone s has = has

    abbrev allocation_owned : Owned
    allocation_owned = record { id = allocation_id; kind = data_kind; fork = (volume_of content).head.allocation_fork }

    pub block_fresh : (s : ℕ) → IsOneOf (sectors_of (per_block_of (volume_of content).head) fresh) s → Contains fresh (s / per_block_of (volume_of content).head)
    block_fresh s is = in_block per fresh s whole.some (is.0, slice_get_within (sectors_of per fresh) is.0 s is.1, get_or_from_slice_get (sectors_of per fresh) is.0 s s is.1)

    reserved_2 : Contains (reserved_blocks (volume_of content).sectors (volume_of content).head) (2 / per_block_of (volume_of content).head)
    reserved_2 =
        Contains-append_left (range_with_len 0 (parts_for 1536 lists.head.block_size)) (range_with_len ((lists.sectors * 512 - 1024) / lists.head.block_size) (lists.head.total_blocks - (lists.sectors * 512 - 1024) / lists.head.block_size)) (2 / per)
        (in_range 0 (parts_for 1536 lists.head.block_size) (2 / per) (omega arith) (omega (arith, in_front lists.head.block_size per whole.whole whole.some 1536 2 (omega arith))))

    -- the blocks of such sectors
    abbrev pub IsSpecialBlock : ℕ → Type 0
    IsSpecialBlock block = Contains (reserved_blocks (volume_of content).sectors (volume_of content).head) block
        ⊎ ((owned : Owned) × Contains (special_forks (volume_of content).head) owned × Contains (blocks_owned (overflow_in_volume (volume_of content)) owned) block)

    pub special_block : (s : ℕ) → IsSpecial (volume_of content) s → IsSpecialBlock (s / per_block_of (volume_of content).head)
    special_block s (inl two) = inl (subst (λ n. Contains (reserved_blocks (volume_of content).sectors (volume_of content).head) (n / per_block_of (volume_of content).head)) (sym two) reserved_2)
    special_block s (inr (inl has)) = inr (catalog_owned, (1, omega arith, refl), in_block per (blocks_owned (overflow_in_volume lists) catalog_owned) s whole.some has)
    special_block s (inr (inr (inl has))) = inr (allocation_owned, (2, omega arith, refl), in_block per (blocks_owned (overflow_in_volume lists) allocation_owned) s whole.some has)
    special_block s (inr (inr (inr has))) = inr (extents_owned, (0, omega arith, refl), in_block per (blocks_owned (overflow_in_volume lists) extents_owned) s whole.some (extents_alone s has))

    put_block : (s : ℕ) → IsSpecialBlock (s / per_block_of (volume_of content).head) → IsPutSector content s
    unfolding volume_of
    put_block s is = inr is

    free_block : (s : ℕ) → Contains fresh (s / per_block_of (volume_of content).head) → IsFreeSector content s
    unfolding volume_of
    free_block s has = (each_of (λ (block : ℕ). block < lists.head.total_blocks) fresh are_fresh.inside (s / per) has, each_of (λ (block : ℕ). is_set lists block ≡ false) fresh are_fresh.free (s / per) has)

    pub put_agrees : AgreesOutside (IsPutSector content) content after
    put_agrees = record {
      size = later.size ∙ spilled.size;
      each = λ s. by s (spilled.each s) (later.each s);
    }
      where
        by : (s : ℕ) → (sector between s ≡ sector content s) ⊎ IsOneOf (sectors_of (per_block_of (volume_of content).head) fresh) s → (sector after s ≡ sector between s) ⊎ IsSpecial (volume_of content) s → (sector after s ≡ sector content s) ⊎ IsPutSector content s
        by s was (inr special) = inr (put_block s (special_block s special))
        by s (inl was) (inl same) = inl (same ∙ was)
        by s (inr one) (inl same) = inr (inl (free_block s (block_fresh s one)))

    -- ---- a file's blocks, and the fresh ones

    used_apart : (block : ℕ) → Contains fresh block → Contains (used_in (volume_of content)) block → ⊥
    used_apart block has used = true≢false
        (sym (sound.volume.blocks.bits.bits block (each_of (λ (k : ℕ). k < lists.head.total_blocks) fresh are_fresh.inside block has) ∙ among (used_in lists) block used) ∙ each_of (λ (k : ℕ). is_set lists k ≡ false) fresh are_fresh.free block has)

    pub fresh_apart : (block : ℕ) → Contains fresh block → IsSpecialBlock block → ⊥
    fresh_apart block has (inl kept_back) = used_apart block has (reserved_is_used lists block kept_back)
    fresh_apart block has (inr special) = used_apart block has (fork_is_used lists special.0 block (special_stands lists special.0 special.1) special.2)

    module _ (owned : Owned) (there : Contains (forks_of (volume_of content)) owned) (high : 16 ≤ owned.id) where
      low : (special : Owned) → Contains (special_forks (volume_of content).head) special → special.id < 16
      low special has = each_low (special_forks lists.head) (omega arith, (omega arith, (omega arith, (omega arith, (omega arith, tt))))) special has

      file_apart : (block : ℕ) → Contains (blocks_owned (overflow_in_volume (volume_of content)) owned) block → IsSpecialBlock block → ⊥
      file_apart block has (inl kept_back) = not_reserved lists sound.volume.blocks.forks owned block kept_back there has
      file_apart block has (inr special) = not_in_both lists sound.volume.blocks.forks special.0 owned block (special_stands lists special.0 special.1) there
          (λ same. absurd (omega (arith, high, low special.0 special.1, ap (λ (o : Owned). o.id) same))) special.2 has

      module _ (blocks : List ℕ) (cases : (block : ℕ) → Contains blocks block → Contains (blocks_owned (overflow_in_volume (volume_of content)) owned) block ⊎ Contains fresh block) where
        same_there : (s : ℕ) → Contains (sectors_of (per_block_of (volume_of content).head) blocks) s → sector after s ≡ sector between s
        same_there s has = ⊎_elim (λ same. same)
            (λ special. absurd (⊎_elim (λ old. file_apart (s / per) old (special_block s special)) (λ new. fresh_apart (s / per) new (special_block s special)) (cases (s / per) (in_block per blocks s whole.some has))))
            (later.each s)

        -- the bytes of a file in these blocks
        pub bytes_then : (lists_then : VolumeState) → ReadsAs after lists_then → lists_then.head.block_size ≡ (volume_of content).head.block_size → (other : Owned)
            → blocks_of (extents_of (overflow_in_volume lists_then) other.id other.kind other.fork) ≡ blocks
            → ((s : ℕ) → Contains (sectors_of (per_block_of (volume_of content).head) blocks) s → s < lists_then.head.total_blocks * per_block_of lists_then.head)
            → bytes_in_fork after other.id other.kind other.fork ≡ take other.fork.logical_size (bytes_in between (sectors_of (per_block_of (volume_of content).head) blocks))
        bytes_then lists_then reads same_size other is inside =
            read_by after lists_then reads other
            ∙ (λ i. take other.fork.logical_size (block_bytes after (lists_then.head.total_blocks * per_block_of lists_then.head) (sectors_of (same_size i / 512) (is i))))
            ∙ ap (take other.fork.logical_size) (bytes_inside after (lists_then.head.total_blocks * per_block_of lists_then.head) (sectors_of per blocks) inside ∙ bytes_agree between after (sectors_of per blocks) same_there)
