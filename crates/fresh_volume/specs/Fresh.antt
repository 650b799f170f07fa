-- What is found in the content of a volume that was just made.
use Rattle.std.specs.Prelude.{◌≡◌, ◌≤◌, ◌<◌, ◌*◌, ◌^◌, ℕ, List, [], length, codes, replicate, true, false, ◌∷◌, IsTrue, Ok}
use Rattle.std.specs.List.{AllByRecursion}
use Rattle.flag_rows.specs.Bitmap.{is_marked, nowhere, bits_bytes}
use Rattle.btree_node.specs.Codec.{HeaderReadsBack, ReadsBack, head_of, leaf_head}
use Rattle.btree_node.specs.Levels.{Pair}
use Rattle.btree_node.specs.Tree.{pairs_of}
use Rattle.btree_node.specs.TreeFile.{TreeFile, store_of}
use Rattle.btree_node.specs.declared.codec.TreeHeader.{TreeHeader}
use Rattle.cat_records.specs.declared.record.CatRecord.{CatRecord}
use Rattle.cat_records.specs.Keys.{catalog_key_bytes}
use Rattle.cat_records.specs.Records.{catalog_bytes}
use Rattle.jnl_format.specs.Recovery.{Content, Journal, recovery}
use Rattle.hfs_model.specs.Plain.{fresh_tree}
use Rattle.hfs_model.specs.Fresh.{empty_tree, catalog_tree, new_folder, new_thread}
use Rattle.hfs_volume.specs.Content.{extents_file, catalog_file, attributes_file, bit_in, bitmap_sectors, volume_of, records_of, overflow_in_volume, attributes_of}
use Rattle.hfs_volume.specs.Records.{Placed}
use Rattle.hfs_volume.specs.Entries.{AreSpelled, AreEntries}
use Rattle.hfs_volume.specs.Links.{AreLinks}
use Rattle.hfs_volume.specs.Attributes.{AreAttributes}
use Rattle.hfs_volume.specs.Nodes.{HasTrees}
use Rattle.hfs_volume.specs.Blocks.{HasBlocks}
use Rattle.hfs_volume.specs.Sound.{IsSound}
use Rattle.hfs_volume.specs.TreeOf.{tree_of}
use Rattle.hfs_volume.specs.Mount.{IsOpen, HasJournal, MountsTo}
use Rattle.volume_make.specs.declared.layout.Layout.{Layout}
use Rattle.volume_make.specs.Laws.{fresh_info, fresh_journal}
use Rattle.volume_make.specs.Layout.{CanBe, layout_of, count_of, is_used}
use Rattle.volume_make.specs.Refusal.{is_name}
use Rattle.volume_make.specs.Texts.{new_file, leaf_items}
use Rattle.volume_make.specs.Written.{IsFormatted}

-- a tree in its file has this header record, its map marks the first so many nodes, no map node follows, and all other nodes are zero
pub record IsFreshTree (tree : TreeHeader) (used : ℕ) (file : TreeFile) : Type 0 where
  pub head : file.head ≡ head_of tree
  pub header : HeaderReadsBack (file.nodes 0) tree (is_marked used nowhere)
  pub chain : file.chain ≡ []
  pub map : file.map ≡ bits_bytes (is_marked used nowhere) 0 3840
  pub rest : (n : ℕ) → used ≤ n → file.nodes n ≡ replicate 4096 0

-- the trees of a content are those of a volume of this name that was just made: two without a record, and the catalog with one leaf
pub record HasFreshTrees (sectors block journal : ℕ) (name : List ℕ) (content : Content) : Type 0 where
  pub extents : IsFreshTree (empty_tree block 10 2) 1 (extents_file content)
  pub attributes : IsFreshTree (empty_tree block 266 6) 1 (attributes_file content)
  pub catalog : IsFreshTree (catalog_tree block 0) 2 (catalog_file content)
  pub leaf : ReadsBack ((catalog_file content).nodes 1) leaf_head (leaf_items (layout_of sectors block journal) name)
  pub leaf_size : length ((catalog_file content).nodes 1) ≡ 4096

-- a volume that is made has these trees, whatever the disk held
abbrev pub FreshTreesFound : Type 0
FreshTreesFound = (sectors block journal : ℕ) (name : List ℕ) (old new : Content) → CanBe sectors block journal → IsTrue (is_name name)
    → IsFormatted (layout_of sectors block journal) name old new → HasFreshTrees sectors block journal name new

-- the journal of a volume that was just made: where its info block says, with an empty journal's header
abbrev pub journal_of : Layout → Journal
journal_of layout = record { info = fresh_info layout; header = fresh_journal layout; fresh = false }

-- the header of the content is open to a mount, its journal is found, and the content stands for itself, since the journal is empty
pub record StandsForItself (layout : Layout) (content : Content) : Type 0 where
  pub is_open : IsOpen content
  pub found : HasJournal content (journal_of layout)
  pub recovers : recovery content ≡ Ok content

-- so it is with each volume that is made, whatever the disk held
abbrev pub FreshJournalEmpty : Type 0
FreshJournalEmpty = (sectors block journal : ℕ) (name : List ℕ) (old new : Content) → length old ≡ sectors → CanBe sectors block journal
    → IsFormatted (layout_of sectors block journal) name old new → StandsForItself (layout_of sectors block journal) new

-- a pair of the catalog: the key of this parent and name, and this record
abbrev pub catalog_pair : ℕ → List ℕ → CatRecord → Pair
catalog_pair parent name value = (catalog_key_bytes parent name, catalog_bytes value)

-- the six pairs of the catalog: the root with its thread, and the two files of the journal with theirs
abbrev pub fresh_pairs : Layout → List ℕ → List Pair
fresh_pairs layout name =
    catalog_pair 1 name (new_folder 2 2)
    ∷ catalog_pair 2 [] (new_thread false 1 name)
    ∷ catalog_pair 2 (codes ".journal") (new_file layout.block 17 layout.journal)
    ∷ catalog_pair 2 (codes ".journal_info_block") (new_file layout.block 16 layout.info)
    ∷ catalog_pair 16 [] (new_thread true 2 (codes ".journal_info_block"))
    ∷ catalog_pair 17 [] (new_thread true 2 (codes ".journal"))
    ∷ []

-- the pairs of the three trees: none, none, and the six of the catalog
pub record HasFreshPairs (layout : Layout) (name : List ℕ) (content : Content) : Type 0 where
  pub overflow : pairs_of (store_of (extents_file content)) ≡ []
  pub attributes : pairs_of (store_of (attributes_file content)) ≡ []
  pub catalog : pairs_of (store_of (catalog_file content)) ≡ fresh_pairs layout name

-- so it is with each volume that is made, whatever the disk held
abbrev pub FreshPairsFound : Type 0
FreshPairsFound = (sectors block journal : ℕ) (name : List ℕ) (old new : Content) → CanBe sectors block journal → IsTrue (is_name name)
    → IsFormatted (layout_of sectors block journal) name old new → HasFreshPairs (layout_of sectors block journal) name new

-- the bits of the allocation file are those of the used blocks: the front, the parts, and the last blocks; past the volume's end none is set
abbrev pub HasFreshBits : Layout → Content → Type 0
HasFreshBits layout content = (k : ℕ) → k < 4096 * count_of layout layout.bitmap → bit_in content (bitmap_sectors content) k ≡ is_used layout k

-- so it is with each volume that is made, whatever the disk held
abbrev pub FreshBitsFound : Type 0
FreshBitsFound = (sectors block journal : ℕ) (name : List ℕ) (old new : Content) → CanBe sectors block journal → IsTrue (is_name name)
    → IsFormatted (layout_of sectors block journal) name old new → HasFreshBits (layout_of sectors block journal) new

-- the three trees of each volume that is made are trees, whatever the disk held
abbrev pub FreshTreesStand : Type 0
FreshTreesStand = (sectors block journal : ℕ) (name : List ℕ) (old new : Content) → CanBe sectors block journal → IsTrue (is_name name)
    → IsFormatted (layout_of sectors block journal) name old new → HasTrees new

-- the six records of the catalog, decoded: the root with its thread, and the two files of the journal with theirs
abbrev pub fresh_records : Layout → List ℕ → List Placed
fresh_records layout name =
    record { parent = 1; name = name; value = new_folder 2 2 }
    ∷ record { parent = 2; name = []; value = new_thread false 1 name }
    ∷ record { parent = 2; name = codes ".journal"; value = new_file layout.block 17 layout.journal }
    ∷ record { parent = 2; name = codes ".journal_info_block"; value = new_file layout.block 16 layout.info }
    ∷ record { parent = 16; name = []; value = new_thread true 2 (codes ".journal_info_block") }
    ∷ record { parent = 17; name = []; value = new_thread true 2 (codes ".journal") }
    ∷ []

-- the records of the content are these six, each spelled by its value, and there are no overflow records and no attributes
pub record HasFreshRecords (layout : Layout) (name : List ℕ) (content : Content) : Type 0 where
  pub records : records_of (volume_of content) ≡ fresh_records layout name
  pub spelled : AreSpelled (volume_of content).catalog_pairs
  pub overflow : overflow_in_volume (volume_of content) ≡ []
  pub attributes : attributes_of (volume_of content) ≡ []

-- so it is with each volume that is made with a name of units, whatever the disk held
abbrev pub FreshRecordsFound : Type 0
FreshRecordsFound = (sectors block journal : ℕ) (name : List ℕ) (old new : Content) → CanBe sectors block journal → IsTrue (is_name name)
    → AllByRecursion (λ unit. unit < 2 ^ 16) name → IsFormatted (layout_of sectors block journal) name old new → HasFreshRecords (layout_of sectors block journal) name new

-- the entries, their threads and counts, and the links of a content are those of a sound volume
pub record HasSoundEntries (content : Content) : Type 0 where
  pub entries : AreEntries (volume_of content).head (volume_of content).catalog_pairs
  pub links : AreLinks (records_of (volume_of content)) (overflow_in_volume (volume_of content))

-- so it is with each volume that is made with a name of units, whatever the disk held
abbrev pub FreshEntriesSound : Type 0
FreshEntriesSound = (sectors block journal : ℕ) (name : List ℕ) (old new : Content) → CanBe sectors block journal → IsTrue (is_name name)
    → AllByRecursion (λ unit. unit < 2 ^ 16) name → IsFormatted (layout_of sectors block journal) name old new → HasSoundEntries new

-- the attributes of a content, and the two files of its journal, are those of a sound volume
abbrev pub HasSoundAttributes : Content → Type 0
HasSoundAttributes content =
    AreAttributes (volume_of content).head (volume_of content).journal (records_of (volume_of content)) (overflow_in_volume (volume_of content)) (volume_of content).attribute_pairs

-- so it is with each volume that is made with a name of units, whatever the disk held
abbrev pub FreshAttributesSound : Type 0
FreshAttributesSound = (sectors block journal : ℕ) (name : List ℕ) (old new : Content) → length old ≡ sectors → CanBe sectors block journal → IsTrue (is_name name)
    → AllByRecursion (λ unit. unit < 2 ^ 16) name → IsFormatted (layout_of sectors block journal) name old new → HasSoundAttributes new

-- the headers, the special files, the forks and the bits of each volume that is made with a name of units are those of a sound volume, whatever the disk held
abbrev pub FreshBlocksSound : Type 0
FreshBlocksSound = (sectors block journal : ℕ) (name : List ℕ) (old new : Content) → length old ≡ sectors → CanBe sectors block journal → IsTrue (is_name name)
    → AllByRecursion (λ unit. unit < 2 ^ 16) name → IsFormatted (layout_of sectors block journal) name old new → HasBlocks (volume_of new)

-- the tree of each volume that is made with a name of units is the fresh one, whatever the disk held
abbrev pub FreshTreeFound : Type 0
FreshTreeFound = (sectors block journal : ℕ) (name : List ℕ) (old new : Content) → CanBe sectors block journal → IsTrue (is_name name)
    → AllByRecursion (λ unit. unit < 2 ^ 16) name → IsFormatted (layout_of sectors block journal) name old new → tree_of new ≡ fresh_tree

-- the content is a sound volume with the fresh tree, and a mount finds it with that tree
pub record IsFreshVolume (content : Content) : Type 0 where
  pub sound : IsSound content
  pub tree : tree_of content ≡ fresh_tree
  pub mountable : MountsTo content fresh_tree

-- so is each volume that is made with a name of units, whatever the disk held
abbrev pub FormattedIsSound : Type 0
FormattedIsSound = (sectors block journal : ℕ) (name : List ℕ) (old new : Content) → length old ≡ sectors → CanBe sectors block journal → IsTrue (is_name name)
    → AllByRecursion (λ unit. unit < 2 ^ 16) name → IsFormatted (layout_of sectors block journal) name old new → IsFreshVolume new
