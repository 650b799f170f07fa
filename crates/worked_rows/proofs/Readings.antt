-- Where a definition may be read in two ways: what it says, computed.
use Rattle.std.specs.Prelude.{◌≡◌, refl, ℕ, List, [], ◌∷◌, ◌++◌, codes, true, false, replicate, map, Ok, Some, None}
use Rattle.std.specs.Fmt.{digits}
use Rattle.hx_bytes.specs.Field.{number_at, number_bytes}
use Rattle.hx_bytes.specs.Fork.{extents_at, extents_bytes, fork_bytes}
use Rattle.hx_bytes.specs.declared.extents.Extent.{Extent}
use Rattle.hx_bytes.specs.declared.extents.ForkRecord.{ForkRecord}
use Rattle.btree_node.specs.Levels.{Pair}
use Rattle.cat_records.specs.Keys.{attr_key_bytes}
use Rattle.cat_records.specs.Records.{entry_of, entry_bytes}
use Rattle.cat_records.specs.Attributes.{attr_bytes}
use Rattle.cat_records.specs.declared.attribute.AttrRecord.TheVariants.{Inline}
use Rattle.cat_records.specs.declared.record.EntryFields.{EntryFields}
use Rattle.cat_records.specs.declared.record.CatRecord.TheVariants.{Folder, File}
use Rattle.hfs_language.specs.declared.command.Command.TheVariants as command
use Rattle.hfs_language.specs.declared.refusal.Refusal.TheVariants as refusal
use Rattle.hfs_language.specs.declared.reply.Reply.TheVariants as reply
use Rattle.hfs_model.specs.Plain.{fresh_tree}
use Rattle.hfs_model.specs.Step.{private_name}
use Rattle.hfs_volume.specs.declared.cost.TreeCost.{TreeCost}
use Rattle.hfs_volume.specs.Records.{Placed, Overflow, placed_before, placed_of, attribute_of, is_link_type, is_numbered}
use Rattle.hfs_volume.specs.Forks.{parts_for, in_use, is_full, overflow_in, reserved_blocks, extents_of, extents_id, catalog_id, data_kind, resource_kind}
use Rattle.hfs_volume.specs.Content.{VolumeState}
use Rattle.hfs_volume.specs.Changes.{pair_of}
use Rattle.hfs_volume.specs.Cost.{catalog_key, tree_load, is_too_deep}
use Rattle.hfs_volume.specs.Broken.{want, id_wanted, count_wants, attributes_wanted}
use Rattle.hfs_volume.specs.Reclaim.{CutOrphan, DropAttribute, DropOrphan, least, has_surplus_left, next_reclaim}
use Rattle.hfs_volume.proofs.WorkedVolumes.{no_fork, fresh_head, fresh_volume}
use Rattle.worked_rows.proofs.Grown.{file_fields, fork_of, each_second}
use Rattle.worked_rows.proofs.Rows.{replies, refused}

abbrev a : List ℕ
a = codes "a"

abbrev b : List ℕ
b = codes "b"

-- ---- names

-- a number in a name is spelled without a leading 0, and there is one
names_with_numbers : map (is_numbered (codes "temp")) (codes "temp7" ∷ codes "temp0" ∷ codes "temp07" ∷ codes "temp" ∷ codes "temp7x" ∷ []) ≡ true ∷ true ∷ false ∷ false ∷ false ∷ []
unfolding digits
names_with_numbers = refl

abbrev at : ℕ → List ℕ → Placed
at parent name = record { parent = parent; name = name; value = File (record { fields = file_fields 18; data_fork = no_fork; resource_fork = no_fork }) }

-- the parent's number comes first; a name that begins another comes before it; capitals come before small letters
keys_in_order : placed_before (at 1 (codes "z")) (at 2 a) ∷ placed_before (at 2 a) (at 2 (codes "ab")) ∷ placed_before (at 2 (codes "ab")) (at 2 a) ∷ placed_before (at 2 (codes "B")) (at 2 a) ∷ placed_before (at 2 a) (at 2 a) ∷ []
    ≡ true ∷ true ∷ false ∷ true ∷ false ∷ []
keys_in_order = refl

-- a link has both words, that of the type and that of the creator
abbrev with_finder : List ℕ → EntryFields
with_finder front = record (file_fields 18) { finder = front ++ replicate 24 0 }

links_by_both_words : map (λ front. is_link_type (with_finder front)) (codes "hlnkhfs+" ∷ codes "hlnk    " ∷ codes "    hfs+" ∷ codes "hfs+hlnk" ∷ []) ≡ true ∷ false ∷ false ∷ false ∷ []
unfolding number_at
links_by_both_words = refl

-- to the name that it has, an entry is moved as to any other: that is there. Below itself it isn't moved. A folder gets no further name.
moves_and_links : replies fresh_tree (Ok (command.Mkdir (a ∷ [])) ∷ Ok (command.Mv (a ∷ []) (a ∷ [])) ∷ Ok (command.Mv (a ∷ []) (a ∷ b ∷ [])) ∷ Ok (command.Ln (a ∷ []) (b ∷ [])) ∷ Ok (command.Ln (a ∷ []) (a ∷ [])) ∷ [])
    ≡ reply.Ok ∷ refused refusal.Exists ∷ refused refusal.Inside ∷ refused refusal.IsFolder ∷ refused refusal.IsFolder ∷ []
moves_and_links = refl

-- ---- blocks and extents

-- no byte takes no block, and each block that is begun counts
blocks_of_bytes : map (λ size. parts_for size 4096) (0 ∷ 1 ∷ 4096 ∷ 4097 ∷ []) ≡ 0 ∷ 1 ∷ 1 ∷ 2 ∷ []
blocks_of_bytes = refl

abbrev run : ℕ → ℕ → Extent
run start count = record { start = start; count = count }

-- an extent without blocks is in no list, wherever it stands, and a record with one isn't full
unused_extents : (in_use (run 5 3 ∷ run 0 0 ∷ run 9 2 ∷ []) ≡ run 5 3 ∷ run 9 2 ∷ []) × (is_full (run 5 3 ∷ run 0 0 ∷ run 9 2 ∷ []) ≡ false) × (is_full (run 5 3 ∷ run 9 2 ∷ []) ≡ true)
unused_extents = (refl, refl, refl)

abbrev more_of : ℕ → Overflow
more_of id = record { fork = data_kind; id = id; start = 8; extents = run 40 1 ∷ [] }

-- overflow records that name the extents overflow file itself aren't read, those of the catalog are
no_overflow_of_its_own : (overflow_in (more_of extents_id ∷ []) extents_id data_kind ≡ []) × (overflow_in (more_of catalog_id ∷ []) catalog_id data_kind ≡ more_of catalog_id ∷ [])
no_overflow_of_its_own = (refl, refl)

-- The last 1,024 bytes lie in the last block or in the two last ones; where the volume has seven sectors behind its last whole block, they lie
-- in none.
reserved_at_the_end : (reserved_blocks 16384 fresh_head ≡ 0 ∷ 2047 ∷ []) × (reserved_blocks 16385 fresh_head ≡ 0 ∷ 2047 ∷ []) × (reserved_blocks 16391 fresh_head ≡ 0 ∷ [])
    × (reserved_blocks 16384 (record fresh_head { block_size = 512; total_blocks = 16384 }) ≡ 0 ∷ 1 ∷ 2 ∷ 16382 ∷ 16383 ∷ [])
reserved_at_the_end = (refl, refl, refl, refl)

-- ---- rules

-- A number of a folder or file: the root's is 2, those below 16 want 16, and those that weren't given out the last that was, also where that is 15.
wanted_ids : (map (id_wanted 24) (2 ∷ 5 ∷ 16 ∷ 23 ∷ 24 ∷ 99 ∷ []) ≡ 2 ∷ 16 ∷ 16 ∷ 23 ∷ 23 ∷ 23 ∷ []) × (id_wanted 16 40 ≡ 15)
wanted_ids = (refl, refl)

-- without a folder, not even the root, no folder is wanted
no_folder_is_counted : count_wants (record fresh_head { file_count = 2; folder_count = 1 }) [] ≡ want 32 2 0 ∷ want 36 1 0 ∷ []
no_folder_is_counted = refl

-- the journal's bit is wanted, the bit that says that numbers were used again isn't, and all others are as they are
wanted_bits : map attributes_wanted (0x2100 ∷ 0x0100 ∷ 0x3100 ∷ 0x1000 ∷ []) ≡ 0x2100 ∷ 0x2100 ∷ 0x2100 ∷ 0x2000 ∷ []
wanted_bits = refl

-- ---- costs

abbrev tree_of_nodes : ℕ → ℕ → TreeCost
tree_of_nodes depth nodes = record { node_size = 4096; depth = depth; records = 100; nodes = nodes; unused = nodes; map_bits = 30720; extents = 1 }

-- an edit is counted with all nodes of its way, but no node twice; without an edit and without growth nothing is counted
nodes_are_counted_once : map (λ nodes. tree_load catalog_key (tree_of_nodes 1 nodes) 2 0) (5 ∷ 64 ∷ []) ≡ 40 ∷ 256 ∷ []
nodes_are_counted_once = refl

nothing_is_counted : tree_load catalog_key (tree_of_nodes 3 64) 0 0 ≡ 0
nothing_is_counted = refl

-- a tree of depth 8 is too deep for an edit, and not for none
depth_of_eight : map (λ edits. is_too_deep catalog_key (tree_of_nodes 8 64) edits) (0 ∷ 1 ∷ []) ++ is_too_deep catalog_key (tree_of_nodes 7 64) 1 ∷ [] ≡ false ∷ true ∷ false ∷ []
depth_of_eight = refl

-- ---- reclaiming

-- a file that isn't there has no blocks past its size, and where none was shrunk there is none
no_surplus : (has_surplus_left fresh_volume (Some 99) ≡ false) × (has_surplus_left fresh_volume None ≡ false)
unfolding number_at extents_at entry_of placed_of extents_of
no_surplus = (refl, refl)

abbrev orphan : ℕ → List ℕ → ForkRecord → ForkRecord → Placed
orphan id name data_fork resource_fork = record { parent = 19; name = name; value = File (record { fields = file_fields id; data_fork = data_fork; resource_fork = resource_fork }) }

-- of two files without a name the one of the least number comes first, and not the one of the first name
least_number_first : least (orphan 100 (codes "temp100") no_fork no_fork ∷ orphan 20 (codes "temp20") no_fork no_fork ∷ []) ≡ Some 20
least_number_first = refl

-- the private folder
abbrev private_pair : Pair
private_pair = pair_of (record { parent = 2; name = private_name; value = Folder (record { fields = file_fields 19 }) })

abbrev one_block : ℕ → ForkRecord
one_block start = fork_of 1 (each_second start 1)

abbrev attribute_pair : ℕ → List ℕ → Pair
attribute_pair id name = (attr_key_bytes id name 0, attr_bytes (Inline a))

-- a volume whose private folder has this file alone, and these attributes
abbrev left_with : ForkRecord → ForkRecord → List Pair → VolumeState
left_with data_fork resource_fork attributes = record fresh_volume { catalog_pairs = private_pair ∷ pair_of (orphan 20 (codes "temp20") data_fork resource_fork) ∷ []; attribute_pairs = attributes }

-- its data fork goes first, then its resource fork, its attributes one by one, and its entry; attributes of others stay
data_goes_first : next_reclaim (left_with (one_block 400) (one_block 500) []) None ≡ Some (CutOrphan 20 data_kind)
unfolding digits number_at number_bytes extents_at extents_bytes fork_bytes entry_of entry_bytes placed_of attribute_of extents_of next_reclaim
data_goes_first = refl

resources_go_next : next_reclaim (left_with no_fork (one_block 500) (attribute_pair 20 b ∷ [])) None ≡ Some (CutOrphan 20 resource_kind)
unfolding digits number_at number_bytes extents_at extents_bytes fork_bytes entry_of entry_bytes placed_of attribute_of extents_of next_reclaim
resources_go_next = refl

attributes_go_then : next_reclaim (left_with no_fork no_fork (attribute_pair 18 a ∷ attribute_pair 20 a ∷ attribute_pair 20 b ∷ [])) None ≡ Some (DropAttribute 20 a)
unfolding digits number_at number_bytes extents_at extents_bytes fork_bytes entry_of entry_bytes placed_of attribute_of extents_of next_reclaim
attributes_go_then = refl

the_entry_goes_last : next_reclaim (left_with no_fork no_fork (attribute_pair 18 a ∷ [])) None ≡ Some (DropOrphan 20)
unfolding digits number_at number_bytes extents_at extents_bytes fork_bytes entry_of entry_bytes placed_of attribute_of extents_of next_reclaim
the_entry_goes_last = refl
