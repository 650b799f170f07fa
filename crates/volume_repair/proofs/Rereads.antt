-- Two contents whose headers say the same, but for the version and the counts, read alike where their sectors agree.
use Rattle.std.proofs.Common.{◌≡◌, ◌<◌, ◌≤◌, ℕ, suc, ◌*◌, ◌/◌, ◌%◌, true, false, List, [], ◌∷◌, ◌++◌, map, take, drop, refl, sym, ◌∙◌, ap, subst, ⊎_elim}
use Rattle.std.specs.Prelude.{Contains, Option, Some, None, slice_get, nat_lt, if◌then◌else◌, replicate}
use Rattle.std.specs.List.{range_with_len}
use Rattle.std.proofs.lemmas.Bool.Decides.{leb_tells}
use Rattle.std.proofs.lemmas.List.{take-append-drop}
use Rattle.std.proofs.lemmas.List.Elements.{Contains-append_left, Contains-append_right}
use Rattle.std.proofs.lemmas.Option.{slice_get_within, get_or_from_slice_get}
use Rattle.jnl_format.specs.Recovery.{Content, sector, header_of_volume}
use Rattle.volume_header.specs.declared.header.VolumeHeader.{VolumeHeader}
use Rattle.flag_rows.specs.Bits.{bit_of}
use Rattle.hx_bytes.specs.declared.extents.ForkRecord.{ForkRecord}
use Rattle.fork_map.specs.Blocks.{blocks_of, sectors_of}
use Rattle.hfs_model.specs.Step.{padded}
use Rattle.btree_node.specs.Tree.{pairs_of}
use Rattle.btree_node.specs.TreeFile.{file_of, tree_head, store_of}
use Rattle.hfs_volume.specs.Records.{Overflow, overflow_of}
use Rattle.hfs_volume.specs.Forks.{per_block_of, data_kind, extents_of, extents_id, catalog_id, allocation_id, attributes_id}
use Rattle.hfs_volume.specs.Content.{volume_of, block_sector, block_bytes, node_of_fork, tree_of_fork, extents_file, catalog_file, attributes_file, overflow_of_content, bitmap_sectors, bit_in, bit_of_sector}
use Rattle.hfs_volume.proofs.Members.{at_front, behind}
use Rattle.volume_repair.specs.Repair.{catalog_sectors}

-- an item of the front or of the rest of a list is one of the list
in_take : {X : Type 0} (n : ℕ) (xs : List X) (x : X) → Contains (take n xs) x → Contains xs x
in_take n xs x stands = subst (λ l. Contains l x) (take-append-drop n xs) (Contains-append_left (take n xs) (drop n xs) x stands)

in_drop : {X : Type 0} (n : ℕ) (xs : List X) (x : X) → Contains (drop n xs) x → Contains xs x
in_drop n xs x stands = subst (λ l. Contains l x) (take-append-drop n xs) (Contains-append_right (take n xs) (drop n xs) x stands)

-- the header with another version and other counts
abbrev pub relabelled : VolumeHeader → ℕ → ℕ → ℕ → ℕ → VolumeHeader
relabelled head version files folders free = record head { last_mounted_version = version; file_count = files; folder_count = folders; free_blocks = free }

module _ (content other : Content) (limit : ℕ) where
  -- the two agree in those of these sectors that belong to a block
  abbrev pub AgreesBelow : List ℕ → Type 0
  AgreesBelow sectors = (at : ℕ) → Contains sectors at → at < limit → sector other at ≡ sector content at

  pub same_block_sector : (at : ℕ) → (at < limit → sector other at ≡ sector content at) → block_sector other limit at ≡ block_sector content limit at
  unfolding block_sector
  same_block_sector at same = ⊎_elim
      (λ (inside : (nat_lt at limit ≡ true) × (suc at ≤ limit)). ap (λ s. if nat_lt at limit then take 512 (padded 512 s) else replicate 512 0) (same inside.1))
      (λ (past : (nat_lt at limit ≡ false) × (limit < suc at)). ap (λ b. if b then take 512 (padded 512 (sector other at)) else replicate 512 0) past.0 ∙ sym (ap (λ b. if b then take 512 (padded 512 (sector content at)) else replicate 512 0) past.0))
      (leb_tells (suc at) limit)

  pub same_bytes : (sectors : List ℕ) → AgreesBelow sectors → block_bytes other limit sectors ≡ block_bytes content limit sectors
  unfolding block_bytes
  same_bytes [] agrees = refl
  same_bytes (at ∷ rest) agrees = λ i. same_block_sector at (agrees at (at_front at rest)) i ++ same_bytes rest (λ s stands. agrees s (behind at s rest stands)) i

  same_node : (sectors : List ℕ) (size n : ℕ) → AgreesBelow sectors → node_of_fork other limit sectors size n ≡ node_of_fork content limit sectors size n
  unfolding node_of_fork
  same_node sectors size n agrees =
      ap (padded size) (same_bytes (take (size / 512) (drop (n * (size / 512)) sectors)) (λ at stands. agrees at (in_drop (n * (size / 512)) sectors at (in_take (size / 512) (drop (n * (size / 512)) sectors) at stands))))

  -- a tree in a fork in whose sectors the two agree
  pub same_tree : (sectors : List ℕ) → AgreesBelow sectors → tree_of_fork other limit sectors ≡ tree_of_fork content limit sectors
  unfolding tree_of_fork
  same_tree sectors agrees =
      (λ i. file_of (tree_head (same_node sectors 512 0 agrees i)) (node_of_fork other limit sectors (tree_head (same_node sectors 512 0 agrees i)).node_size))
      ∙ (λ i. file_of (tree_head (node_of_fork content limit sectors 512 0)) (λ n. same_node sectors (tree_head (node_of_fork content limit sectors 512 0)).node_size n agrees i))

-- the sectors of a special file by its fork
abbrev pub sectors_by : VolumeHeader → List Overflow → ℕ → ForkRecord → List ℕ
sectors_by head overflow id fork = sectors_of (per_block_of head) (blocks_of (extents_of overflow id data_kind fork))

module _ (content other : Content) (version files folders free : ℕ) (head_is : header_of_volume other ≡ relabelled (header_of_volume content) version files folders free) where
  abbrev head : VolumeHeader
  head = header_of_volume content

  abbrev limit : ℕ
  limit = head.total_blocks * per_block_of head

  abbrev extents_in : List ℕ
  extents_in = sectors_by head [] extents_id head.extents_fork

  pub extents_stay : AgreesBelow content other limit extents_in → extents_file other ≡ extents_file content
  unfolding extents_file
  extents_stay agrees =
      ap (λ h. tree_of_fork other (h.total_blocks * per_block_of h) (sectors_by h [] extents_id h.extents_fork)) head_is
      ∙ same_tree content other limit extents_in agrees

  module _ (extents : extents_file other ≡ extents_file content) where
    pub overflow_stays : overflow_of_content other ≡ overflow_of_content content
    unfolding overflow_of_content
    overflow_stays = ap (λ tree. map overflow_of (pairs_of (store_of tree))) extents

    pub catalog_sectors_stay : catalog_sectors other ≡ catalog_sectors content
    catalog_sectors_stay = λ i. sectors_by (head_is i) (overflow_stays i) catalog_id (head_is i).catalog_fork

    pub bitmap_sectors_stay : bitmap_sectors other ≡ bitmap_sectors content
    bitmap_sectors_stay = λ i. sectors_by (head_is i) (overflow_stays i) allocation_id (head_is i).allocation_fork

    pub catalog_stays : AgreesBelow content other limit (catalog_sectors content) → catalog_file other ≡ catalog_file content
    unfolding catalog_file
    catalog_stays agrees =
        (λ i. tree_of_fork other ((head_is i).total_blocks * per_block_of (head_is i)) (sectors_by (head_is i) (overflow_stays i) catalog_id (head_is i).catalog_fork))
        ∙ same_tree content other limit (catalog_sectors content) agrees

    pub attributes_stay : AgreesBelow content other limit (sectors_by head (overflow_of_content content) attributes_id head.attributes_fork) → attributes_file other ≡ attributes_file content
    unfolding attributes_file
    attributes_stay agrees =
        (λ i. tree_of_fork other ((head_is i).total_blocks * per_block_of (head_is i)) (sectors_by (head_is i) (overflow_stays i) attributes_id (head_is i).attributes_fork))
        ∙ same_tree content other limit (sectors_by head (overflow_of_content content) attributes_id head.attributes_fork) agrees

    same_bit : AgreesBelow content other limit (bitmap_sectors content) → (k : ℕ) → bit_in other (bitmap_sectors content) k ≡ bit_in content (bitmap_sectors content) k
    unfolding bit_in bit_of_sector
    same_bit agrees k = by (slice_get (bitmap_sectors content) (k / 4096)) refl
      where
        by : (o : Option ℕ) → slice_get (bitmap_sectors content) (k / 4096) ≡ o → bit_of_sector other (k % 4096) o ≡ bit_of_sector content (k % 4096) o
        by None found = refl
        by (Some at) found =
            let stands : Contains (bitmap_sectors content) at = (k / 4096, slice_get_within (bitmap_sectors content) (k / 4096) at found, get_or_from_slice_get (bitmap_sectors content) (k / 4096) at at found) in
            (λ i. bit_of (block_sector other ((head_is i).total_blocks * per_block_of (head_is i)) at) (k % 4096))
            ∙ ap (λ s. bit_of s (k % 4096)) (same_block_sector content other limit at (agrees at stands))

    pub bits_stay : AgreesBelow content other limit (bitmap_sectors content) → (volume_of other).bits ≡ (volume_of content).bits
    unfolding volume_of
    bits_stay agrees =
        (λ i. map (bit_in other (bitmap_sectors_stay i)) (range_with_len 0 (8 * (head_is i).allocation_fork.logical_size)))
        ∙ (λ i. map (λ k. same_bit agrees k i) (range_with_len 0 (8 * head.allocation_fork.logical_size)))
