-- How long the records of the catalog's leaf are.
use Rattle.std.proofs.Common.{◌≡◌, ℕ, ◌+◌, ◌*◌, ◌≤◌, nat_le, true, false, List, [], ◌++◌, length, codes, IsTrue, ap, arith, ⊎_elim, ◌<◌}
use Rattle.std.specs.List.{concat}
use Rattle.std.proofs.lemmas.Bool.{and_parts}
use Rattle.std.proofs.lemmas.Bool.Decides.{leb_tells}
use Rattle.std.proofs.lemmas.List.{length-append}
use Rattle.std.proofs.lemmas.List.Folds.{concat-append}
use Rattle.hx_bytes.specs.Field.{big}
use Rattle.hx_bytes.specs.Fork.{fork_bytes, extents_bytes}
use Rattle.hx_bytes.specs.declared.extents.Extent.{Extent}
use Rattle.hx_bytes.specs.declared.fields.Order.TheVariants.{Big}
use Rattle.hx_bytes.proofs.Laws.{length-number_bytes}
use Rattle.cat_records.specs.Records.{entry_bytes}
use Rattle.cat_records.specs.Keys.{catalog_key_bytes}
use Rattle.hfs_model.specs.Fresh.{catalog_item, new_entry, new_folder, new_thread, no_fork, one_run, journal_threads}
use Rattle.hfs_model.proofs.Lengths.{length-units_bytes, length-thread}
use Rattle.volume_make.specs.declared.layout.Layout.{Layout}
use Rattle.volume_make.specs.Refusal.{is_name}
use Rattle.volume_make.specs.Texts.{file_fork, new_file, root_items, file_items, leaf_items}

pub length-key : (parent : ℕ) (name : List ℕ) → length (catalog_key_bytes parent name) ≡ 8 + 2 * length name
length-key parent name = simp (length-append, length-number_bytes Big, length-units_bytes) (omega arith)

length-entry : (flags count id mode : ℕ) → length (entry_bytes (new_entry flags count id mode)) ≡ 86
unfolding entry_bytes
length-entry flags count id mode = simp (length-append, length-number_bytes Big) (omega arith)

length-extents : (start count : ℕ) → length (extents_bytes (one_run start count)) ≡ 64
unfolding extents_bytes
length-extents start count = simp (length-append, length-number_bytes Big) (omega arith)

length-file_fork : (block : ℕ) (part : Extent) → length (fork_bytes (file_fork block part)) ≡ 80
unfolding fork_bytes
length-file_fork block part = simp (length-append, length-number_bytes Big, length-extents) (omega arith)

length-no_fork : length (fork_bytes no_fork) ≡ 80
unfolding fork_bytes
length-no_fork = simp (length-append, length-number_bytes Big, length-extents) (omega arith)

pub length-folder : (parent id entries : ℕ) (name : List ℕ) → length (catalog_item parent name (new_folder id entries)) ≡ 96 + 2 * length name
length-folder parent id entries name =
    omega (
      arith,
      length-append (catalog_key_bytes parent name) (big 2 1 ++ entry_bytes (new_entry 0 entries id 0x41ED)),
      length-key parent name,
      length-append (big 2 1) (entry_bytes (new_entry 0 entries id 0x41ED)),
      length-number_bytes Big 2 1,
      length-entry 0 entries id 0x41ED,
    )

pub length-file : (parent id block : ℕ) (part : Extent) (name : List ℕ) → length (catalog_item parent name (new_file block id part)) ≡ 256 + 2 * length name
length-file parent id block part name =
    let content = length-file_fork block part in
    let resource = length-no_fork in
    let units = length-units_bytes name in
    simp (length-append, length-number_bytes Big, length-entry) (omega arith)

length-root : (name : List ℕ) → length (concat (root_items name)) ≡ 114 + 4 * length name
length-root name =
    let folder = catalog_item 1 name (new_folder 2 2) in
    let thread = catalog_item 2 [] (new_thread false 1 name) in
    omega (arith, length-append folder (thread ++ []), length-append thread [], length-folder 1 2 2 name, length-thread 2 1 name false)

length-files : (layout : Layout) → length (concat (file_items layout)) ≡ 566
length-files layout =
    let journal = catalog_item 2 (codes ".journal") (new_file layout.block 17 layout.journal) in
    let info = catalog_item 2 (codes ".journal_info_block") (new_file layout.block 16 layout.info) in
    let a = length-file 2 17 layout.block layout.journal (codes ".journal") in
    let b = length-file 2 16 layout.block layout.info (codes ".journal_info_block") in
    omega (arith, length-append journal (info ++ []), length-append info [], a, b)

length-threads : length (concat journal_threads) ≡ 90
length-threads =
    let info = length-thread 16 2 (codes ".journal_info_block") true in
    let journal = length-thread 17 2 (codes ".journal") true in
    let a = length-append (catalog_item 17 [] (new_thread true 2 (codes ".journal"))) [] in
    let b = length-append (catalog_item 16 [] (new_thread true 2 (codes ".journal_info_block"))) (catalog_item 17 [] (new_thread true 2 (codes ".journal")) ++ []) in
    omega (arith, info, journal, a, b)

pub name_short : (name : List ℕ) → IsTrue (is_name name) → length name ≤ 255
name_short name is =
    let parts = and_parts (nat_le 1 (length name)) (nat_le (length name) 255) is in
    ⊎_elim (λ (s : (nat_le (length name) 255 ≡ true) × (length name ≤ 255)). s.1) (λ (d : (nat_le (length name) 255 ≡ false) × (255 < length name)). absurd (cc (d.0, parts.1))) (leb_tells (length name) 255)

-- the leaf has room for its six records, whatever the volume's name is
pub leaf_room : (layout : Layout) (name : List ℕ) → IsTrue (is_name name) → 14 + length (concat (leaf_items layout name)) + 2 * (length (leaf_items layout name) + 1) ≤ 4096
unfolding leaf_items
leaf_room layout name is =
    let short = name_short name is in
    let back = file_items layout ++ journal_threads in
    omega (
      arith,
      ap length (concat-append (root_items name) back),
      length-append (concat (root_items name)) (concat back),
      ap length (concat-append (file_items layout) journal_threads),
      length-append (concat (file_items layout)) (concat journal_threads),
      length-root name,
      length-files layout,
      length-threads,
      short,
    )
