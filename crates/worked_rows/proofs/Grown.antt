-- A volume of 2,048 blocks on which two files grew in turn to nine blocks each, and were cut to eight: its lists.
use Rattle.std.specs.Prelude.{◌≡◌, refl, ℕ, ◌+◌, ◌*◌, List, [], ◌∷◌, ◌++◌, codes, true, false, replicate, map, take, drop, slice_index_or, Ok}
use Rattle.std.specs.List.{range_with_len}
use Rattle.hx_bytes.specs.Field.{big, number_at, number_bytes}
use Rattle.hx_bytes.specs.Fork.{extents_at, extents_bytes, fork_bytes}
use Rattle.hx_bytes.specs.declared.extents.Extent.{Extent}
use Rattle.hx_bytes.specs.declared.extents.ExtentRecord.{ExtentRecord}
use Rattle.hx_bytes.specs.declared.extents.ForkRecord.{ForkRecord}
use Rattle.volume_header.specs.declared.header.VolumeHeader.{VolumeHeader}
use Rattle.btree_node.specs.Levels.{Pair}
use Rattle.cat_records.specs.Keys.{extent_key_bytes}
use Rattle.cat_records.specs.Records.{entry_of, entry_bytes}
use Rattle.cat_records.specs.declared.record.EntryFields.{EntryFields}
use Rattle.cat_records.specs.declared.record.CatRecord.TheVariants.{File}
use Rattle.hfs_language.specs.declared.command.Command.TheVariants as command
use Rattle.hfs_model.specs.Plain.{fresh_tree}
use Rattle.hfs_volume.specs.Records.{Placed, placed_of, attribute_of, overflow_of}
use Rattle.hfs_volume.specs.Forks.{extents_of, all_forks, data_kind}
use Rattle.hfs_volume.specs.Content.{VolumeState}
use Rattle.hfs_volume.specs.Reclaim.{blocks_at}
use Rattle.hfs_volume.specs.Changes.{pair_of, thread_of}
use Rattle.hfs_volume.specs.TreeOf.{BytesOf, tree_in, is_seen, valued}
use Rattle.hfs_volume.proofs.WorkedVolumes.{no_fork, fresh_head, fresh_catalog, facts, fresh_volume}
use Rattle.worked_rows.proofs.Rows.{tree_after, grown_in_turn}

abbrev pub f : List ℕ
f = codes "f"

abbrev pub g : List ℕ
g = codes "g"

-- ---- forks whose blocks stand apart

-- so many extents of one block, each second block from one on
abbrev pub each_second : ℕ → ℕ → List Extent
each_second first count = map (λ k. record { start = first + 2 * k; count = 1 }) (range_with_len 0 count)

-- eight extents, the first of which are these
abbrev pub eight : List Extent → ExtentRecord
eight extents = record { extents = take 8 (extents ++ replicate 8 (record { start = 0; count = 0 })) }

-- a fork of so many whole blocks of 4,096 bytes; its record has the first eight of its extents
abbrev pub fork_of : ℕ → List Extent → ForkRecord
fork_of blocks extents = record { logical_size = blocks * 4096; clump_size = 4096; total_blocks = blocks; extents = eight extents }

-- the overflow record of the ninth extent and those behind it
abbrev pub ninth : ℕ → List Extent → Pair
ninth id extents = (extent_key_bytes data_kind id 8, extents_bytes (eight (drop 8 extents)))

-- ---- the catalog

abbrev pub file_fields : ℕ → EntryFields
file_fields id = record {
  flags = 2;
  count = 0;
  id = id;
  created = 0;
  changed = 0;
  attribute = 0;
  accessed = 0;
  backup = 0;
  owner = 0;
  group = 0;
  admin_flags = 0;
  owner_flags = 0;
  mode = 33188;
  special = 0;
  finder = replicate 32 0;
  encoding = 0;
  rest = 0;
}

-- a file in the root with this data fork
abbrev pub file_in_root : List ℕ → ℕ → ForkRecord → Placed
file_in_root name id fork = record { parent = 2; name = name; value = File (record { fields = file_fields id; data_fork = fork; resource_fork = no_fork }) }

abbrev fresh_pair : ℕ → Pair
fresh_pair place = slice_index_or fresh_catalog place ([], [])

-- the root's record, which counts four entries
abbrev root_of_four : Pair
root_of_four = ((fresh_pair 0).0, take 4 (fresh_pair 0).1 ++ (big 4 4 ++ drop 8 (fresh_pair 0).1))

-- the catalog with two files in the root
abbrev pub catalog_with : Placed → Placed → List Pair
catalog_with one other =
    root_of_four ∷ fresh_pair 1 ∷ fresh_pair 2 ∷ fresh_pair 3 ∷ pair_of one ∷ pair_of other ∷ fresh_pair 4 ∷ fresh_pair 5 ∷ pair_of (thread_of one) ∷ pair_of (thread_of other) ∷ []

-- ---- the volumes

abbrev pub head_with : ℕ → VolumeHeader
head_with free = record fresh_head { file_count = 4; next_catalog_id = 20; free_blocks = free }

-- each file has nine blocks in nine extents: the ninth extent of each has an overflow record
abbrev pub grown : VolumeState
grown = record fresh_volume {
  head = head_with 1674;
  overflow_pairs = ninth 18 (each_second 355 9) ∷ ninth 19 (each_second 356 9) ∷ [];
  catalog_pairs = catalog_with (file_in_root f 18 (fork_of 9 (each_second 355 9))) (file_in_root g 19 (fork_of 9 (each_second 356 9)));
  extents_tree = facts 1 1 2 16 14;
  catalog_tree = facts 1 1 10 64 62;
  bits = replicate 373 true ++ (replicate 1674 false ++ true ∷ replicate 30720 false);
}

-- each has lost its ninth block, and the overflow record of that
abbrev pub cut : VolumeState
cut = record fresh_volume {
  head = head_with 1676;
  catalog_pairs = catalog_with (file_in_root f 18 (fork_of 8 (each_second 355 8))) (file_in_root g 19 (fork_of 8 (each_second 356 8)));
  catalog_tree = facts 1 1 10 64 62;
  bits = replicate 371 true ++ (replicate 1676 false ++ true ∷ replicate 30720 false);
}

-- a block in turn, nine extents each
grown_blocks : blocks_at grown 18 data_kind ≡ 355 ∷ 357 ∷ 359 ∷ 361 ∷ 363 ∷ 365 ∷ 367 ∷ 369 ∷ 371 ∷ []
unfolding number_at number_bytes extents_at extents_bytes fork_bytes entry_of entry_bytes placed_of overflow_of extents_of all_forks
grown_blocks = refl

other_blocks : blocks_at grown 19 data_kind ≡ 356 ∷ 358 ∷ 360 ∷ 362 ∷ 364 ∷ 366 ∷ 368 ∷ 370 ∷ 372 ∷ []
unfolding number_at number_bytes extents_at extents_bytes fork_bytes entry_of entry_bytes placed_of overflow_of extents_of all_forks
other_blocks = refl

cut_blocks : blocks_at cut 19 data_kind ≡ 356 ∷ 358 ∷ 360 ∷ 362 ∷ 364 ∷ 366 ∷ 368 ∷ 370 ∷ []
unfolding number_at number_bytes extents_at extents_bytes fork_bytes entry_of entry_bytes placed_of overflow_of extents_of all_forks
cut_blocks = refl

-- the tree that the commands leave
abbrev zeros_of : BytesOf
zeros_of = record { file = λ file. record { data_bytes = replicate file.data_fork.logical_size 0; resource_bytes = replicate file.resource_fork.logical_size 0 }; value = λ size extents. replicate size 0 }

grown_tree : tree_in grown zeros_of ≡ tree_after fresh_tree (Ok (command.Create (f ∷ [])) ∷ Ok (command.Create (g ∷ [])) ∷ grown_in_turn f g 0 9)
unfolding number_at number_bytes extents_at extents_bytes fork_bytes entry_of entry_bytes placed_of attribute_of is_seen valued tree_in
grown_tree = refl
