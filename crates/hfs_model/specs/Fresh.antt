-- What a fresh volume's trees and catalog hold, field by field. Ids: 1 is the root's parent, 2 the root, 16 and 17 the journal's
-- files.
use Rattle.std.specs.Prelude.{ℕ, ◌+◌, ◌*◌, ◌++◌, ◌∷◌, [], Bool, true, false, pos, List, replicate, codes}
use Rattle.hx_bytes.specs.declared.extents.ExtentRecord.{ExtentRecord}
use Rattle.hx_bytes.specs.declared.extents.ForkRecord.{ForkRecord}
use Rattle.cat_records.specs.declared.record.EntryFields.{EntryFields}
use Rattle.cat_records.specs.declared.record.CatRecord.{CatRecord}
use Rattle.cat_records.specs.declared.record.CatRecord.TheVariants.{Folder, Thread}
use Rattle.cat_records.specs.Records.{catalog_bytes}
use Rattle.cat_records.specs.Keys.{catalog_key_bytes}
use Rattle.btree_node.specs.declared.codec.TreeHeader.{TreeHeader}

-- one run of blocks, and seven extents that aren't used
abbrev pub one_run : ℕ → ℕ → ExtentRecord
one_run start count = record { extents = record { start = start; count = count } ∷ replicate 7 (record { start = 0; count = 0 }) }

-- a fork without a byte
abbrev pub no_fork : ForkRecord
no_fork = record { logical_size = 0; clump_size = 0; total_blocks = 0; extents = one_run 0 0 }

-- a tree of sixteen nodes without a record, in a file that grows by blocks of this size
abbrev pub empty_tree : ℕ → ℕ → ℕ → TreeHeader
empty_tree block max_key attributes = record {
  depth = 0;
  root = 0;
  leaf_records = 0;
  first_leaf = 0;
  last_leaf = 0;
  node_size = 4096;
  max_key_length = max_key;
  total_nodes = 16;
  free_nodes = 15;
  clump_size = block;
  tree_type = 0;
  key_compare_type = 0;
  attributes = attributes;
}

-- the catalog of 64 nodes, of which node 1 is the one leaf; keys are compared unit by unit
abbrev pub catalog_tree : ℕ → ℕ → TreeHeader
catalog_tree block folders = record {
  depth = 1;
  root = 1;
  leaf_records = 6 + 2 * folders;
  first_leaf = 1;
  last_leaf = 1;
  node_size = 4096;
  max_key_length = 516;
  total_nodes = 64;
  free_nodes = 62;
  clump_size = block;
  tree_type = 0;
  key_compare_type = 0xBC;
  attributes = 6;
}

-- a record of the catalog behind its key
abbrev pub catalog_item : ℕ → List ℕ → CatRecord → List ℕ
catalog_item parent name value = catalog_key_bytes parent name ++ catalog_bytes value

-- the fields of a new file or folder, with its flags, its count, its id and its mode
abbrev pub new_entry : ℕ → ℕ → ℕ → ℕ → EntryFields
new_entry flags count id mode = record {
  flags = flags;
  count = count;
  id = id;
  created = 0;
  changed = 0;
  attribute = 0;
  accessed = 0;
  backup = 0;
  owner = 0;
  group = 0;
  admin_flags = 0;
  owner_flags = 0;
  mode = mode;
  special = 0;
  finder = replicate 32 0;
  encoding = 0;
  rest = 0;
}

-- a folder with so many entries: mode 0040755
abbrev pub new_folder : ℕ → ℕ → CatRecord
new_folder id entries = Folder (record { fields = new_entry 0 entries id 0x41ED })

-- the thread of a file or a folder
abbrev pub new_thread : Bool → ℕ → List ℕ → CatRecord
new_thread of_file parent name = Thread (record { of_file = of_file; spare = pos 0; parent = parent; name = name })

-- the threads of the journal's files
abbrev pub journal_threads : List (List ℕ)
journal_threads =
    catalog_item 16 [] (new_thread true 2 (codes ".journal_info_block"))
    ∷ catalog_item 17 [] (new_thread true 2 (codes ".journal"))
    ∷ []
