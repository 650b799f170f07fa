-- A leaf of the catalog with its records counted anew, one after the other.
use Rattle.std.proofs.Common.{◌≡◌, ◌≢◌, ◌↔◌, ◌≤◌, ℕ, ◌+◌, ◌-◌, ◌*◌, Bool, true, false, ◌==◌, ◌&&◌, ◌^◌, nat_lt, if◌then◌else◌, List, ◌++◌, length, take, drop, fold, refl, sym, ◌∙◌, ap, subst, arith, IsTrue, length-append}
use Rattle.std.specs.Prelude.{slice_range, Option, Some, None, IsSome}
use Rattle.std.specs.List.{range_with_len}
use Rattle.std.specs.Str.{bytes_eq}
use Rattle.std.proofs.lemmas.Bool.{true≢false}
use Rattle.std.proofs.lemmas.List.{length-take, drop-drop}
use Rattle.std.proofs.lemmas.List.Sums.{fold-append}
use Rattle.fork_map.proofs.Ranges.{range-append}
use Rattle.std.proofs.Math.Seq.{drop-append_seam}
use Rattle.hx_bytes.specs.Field.{big_at, put_at, number_at}
use Rattle.hx_bytes.proofs.Laws.{length-put_at, number_at-drop}
use Rattle.hx_bytes.specs.declared.fields.Order.TheVariants.{Big}
use Rattle.alloc_bitmap.specs.Apart.{times}
use Rattle.cat_records.specs.Records.{is_catalog, catalog_of, entry_of}
use Rattle.cat_records.specs.declared.record.CatRecord.TheVariants.{Folder}
use Rattle.btree_node.specs.Node.{offset}
use Rattle.hfs_volume.specs.Entries.{count_in}
use Rattle.hfs_volume.proofs.LinkWants.{reference_is}
use Rattle.hfs_volume.specs.Links.{is_in, private_id, node_name, is_shared, is_shared_file, is_link_to, reference_of, links_to}
use Rattle.fsck_core.specs.Links.{link_count, links_here}
use Rattle.fsck_core.specs.Names.{IsSharedAs}
use Rattle.fsck_core.specs.declared.shared.SharedFile.{SharedFile}
use Rattle.hfs_volume.proofs.Counting.{length_kept}
use Rattle.hfs_volume.specs.Records.{Placed, entries_of, placed_of, is_folder, is_file, id_in}
use Rattle.fsck_core.specs.Rows.{row_of, rows_of, rows_under}
use Rattle.fsck_core.specs.declared.rows.Row.{Row}
use Rattle.fsck_core.proofs.RecordBytes as bytes
use Rattle.fsck_core.proofs.RowLaws.{count_map}
use Rattle.volume_repair.specs.Recount.{with_word, folder_recounted, file_recounted, value_recounted}
use Rattle.volume_repair.specs.Repair.{record_mended}
use Rattle.fsck_repair.specs.Leaf.{SameFrom}

-- how many entries a folder has, by the rows
pub entries_under : (records : List Placed) (rows : List Row) (id count : ℕ) → rows ≡ rows_of (entries_of records) → count ≡ rows_under rows id → count ≡ count_in (entries_of records) id
entries_under records rows id count are is = is ∙ ap (λ (l : List Row). rows_under l id) are ∙ count_map row_of (λ (r : Row). r.parent == id) (entries_of records)

-- how many links tell a number, by the rows
pub links_by : (records : List Placed) (rows : List Row) (links numbers : List ℕ) (number count : ℕ) → rows ≡ rows_of (entries_of records) → ((n : ℕ) → times n links ≡ link_count rows n) → numbers ≡ links → count ≡ times number numbers
    → count ≡ length (links_to records number)
links_by records rows links numbers number count are told same is =
    is ∙ ap (times number) same ∙ told number ∙ ap (λ (l : List Row). link_count l number) are ∙ count_map row_of (links_here number) (entries_of records) ∙ sym (length_kept (is_link_to number) (entries_of records))

-- ---- whether a record is a file with several names

module _ (records : List Placed) (private : Option ℕ) where
  pub shared_none : (key value : List ℕ) → private ≡ private_id records → private ≡ None → is_shared_file records (reference_of (placed_of (key, value))) (placed_of (key, value)) ≡ false
  shared_none key value same none = ap (λ o. is_shared o (reference_of (placed_of (key, value))) (placed_of (key, value))) (sym same ∙ none)

  pub shared_not : (folder : ℕ) (key value : List ℕ) (found : Option SharedFile) → private ≡ private_id records → private ≡ Some folder → found ≡ None
      → ((reference : ℕ) → is_shared (Some folder) reference (placed_of (key, value)) ≡ true → IsSome found) → is_shared_file records (reference_of (placed_of (key, value))) (placed_of (key, value)) ≡ false
  shared_not folder key value found same some none whole = ap (λ o. is_shared o (reference_of (placed_of (key, value))) (placed_of (key, value))) (sym same ∙ some) ∙ by (is_shared (Some folder) (reference_of (placed_of (key, value))) (placed_of (key, value))) refl
    where
      by : (b : Bool) → is_shared (Some folder) (reference_of (placed_of (key, value))) (placed_of (key, value)) ≡ b → is_shared (Some folder) (reference_of (placed_of (key, value))) (placed_of (key, value)) ≡ false
      by false is = is
      by true is = absurd (true≢false (sym (subst (λ (o : Option SharedFile). IsSome o) none (whole (reference_of (placed_of (key, value))) is))))

  pub shared_yes : (folder : ℕ) (key value : List ℕ) (found : Option SharedFile) (file : SharedFile) → private ≡ private_id records → private ≡ Some folder → found ≡ Some file
      → ((one : SharedFile) → found ≡ Some one → IsSharedAs (Some folder) (placed_of (key, value)) one)
      → (is_shared_file records (reference_of (placed_of (key, value))) (placed_of (key, value)) ≡ true) × (reference_of (placed_of (key, value)) ≡ file.reference)
  shared_yes folder key value found file same some is told =
      let shared : is_shared_file records file.reference (placed_of (key, value)) ≡ true = ap (λ o. is_shared o file.reference (placed_of (key, value))) (sym same ∙ some) ∙ (told file is).shared in
      let reference = reference_is records file.reference (placed_of (key, value)) shared in
      (subst (λ n. is_shared_file records n (placed_of (key, value)) ≡ true) (sym reference) shared, reference)

-- ---- the value of a record

module _ (records : List Placed) (p : Placed) (v : List ℕ) where
  abbrev files : List ℕ
  files = if is_shared_file records (reference_of p) p then file_recounted records p v else v

  counts_folder : is_folder p.value ≡ true → value_recounted records p v ≡ folder_recounted records p v
  counts_folder is = ap (λ b. if b then folder_recounted records p v else files) is

  counts_file : is_folder p.value ≡ false → value_recounted records p v ≡ files
  counts_file is = ap (λ b. if b then folder_recounted records p v else files) is

  no_share : is_file p.value ≡ false → is_shared_file records (reference_of p) p ≡ false
  no_share is = ap (λ b. is_in (private_id records) p && b && bytes_eq p.name (node_name (reference_of p)) && nat_lt (reference_of p) (2 ^ 32)) is ∙ off (is_in (private_id records) p)
    where
      off : (a : Bool) → (a && false && bytes_eq p.name (node_name (reference_of p)) && nat_lt (reference_of p) (2 ^ 32)) ≡ false
      off true = refl
      off false = refl

  counts_none : is_folder p.value ≡ false → is_file p.value ≡ false → value_recounted records p v ≡ v
  counts_none no_folder no_file = counts_file no_folder ∙ ap (λ b. if b then file_recounted records p v else v) (no_share no_file)

placed_value : (key value : List ℕ) → (placed_of (key, value)).value ≡ catalog_of value
unfolding placed_of
placed_value key value = refl

module _ (records : List Placed) (key value : List ℕ) where
  -- a folder's value
  pub folder_value : (counted : List ℕ) → big_at 2 value 0 ≡ 1 → counted ≡ with_word 4 (count_in (entries_of records) (big_at 4 value 8)) value → counted ≡ value_recounted records (placed_of (key, value)) value
  unfolding entry_of
  folder_value counted one is =
      let kind : (placed_of (key, value)).value ≡ Folder (record { fields = entry_of value }) = placed_value key value ∙ bytes.is_folder value (big_at 2 value 0) refl one in
      is ∙ ap (λ n. with_word 4 (count_in (entries_of records) n) value) (sym (ap id_in kind)) ∙ sym (counts_folder records (placed_of (key, value)) value (ap is_folder kind))

  -- a file's
  pub file_value : (counted : List ℕ) → big_at 2 value 0 ≡ 2
      → counted ≡ (if is_shared_file records (reference_of (placed_of (key, value))) (placed_of (key, value)) then file_recounted records (placed_of (key, value)) value else value) → counted ≡ value_recounted records (placed_of (key, value)) value
  file_value counted two is = is ∙ sym (counts_file records (placed_of (key, value)) value (ap is_folder (placed_value key value ∙ bytes.is_file value (big_at 2 value 0) refl two)))

  -- that of a thread counts nothing
  pub other_value : big_at 2 value 0 ≢ 1 → big_at 2 value 0 ≢ 2 → value ≡ value_recounted records (placed_of (key, value)) value
  other_value no_folder no_file =
      let kind = placed_value key value ∙ bytes.by_type value (big_at 2 value 0) refl no_folder no_file in
      sym (counts_none records (placed_of (key, value)) value (ap is_folder kind) (ap is_file kind))

  -- bytes that are neither a folder's record nor a file's
  pub no_entry : (folder file : Bool) → IsTrue (is_catalog value) → folder ≡ false → file ≡ false → IsTrue folder ↔ ((length value ≡ 88) × (big_at 2 value 0 ≡ 1)) → IsTrue file ↔ ((length value ≡ 248) × (big_at 2 value 0 ≡ 2))
      → value ≡ value_recounted records (placed_of (key, value)) value
  no_entry folder file is folder_is file_is tells_folder tells_file =
      other_value
      (λ one. true≢false (sym (tells_folder.1 (bytes.folder_long value (big_at 2 value 0) is refl one, one)) ∙ folder_is))
      (λ two. true≢false (sym (tells_file.1 (bytes.file_long value (big_at 2 value 0) is refl two, two)) ∙ file_is))

-- ---- a record in its leaf

pub same_from : (node new : List ℕ) (from size : ℕ) → from + length new ≡ size → size ≤ length node → SameFrom size node (put_at node from new)
same_from node new from size is inside = record {
  size = length-put_at node new from (omega (arith, is, inside));
  rest = ap (λ (l : List ℕ). drop size l) {x = put_at node from new} refl ∙ subst (λ (k : ℕ). drop k (take from node ++ new ++ drop (from + length new) node) ≡ drop size node) {x = length (take from node ++ new)}
      (omega (arith, length-append (take from node) new, length-take from node, is, inside)) (drop-append_seam (take from node ++ new) (drop (from + length new) node) ∙ ap (λ k. drop k node) is);
}

-- what stands from a place on is the same, and so is what is read there
same_big : (n from at : ℕ) (old new : List ℕ) → SameFrom from old new → from ≤ at → big_at n new at ≡ big_at n old at
same_big n from at old new same past =
    let parts : (l : List ℕ) → drop at l ≡ drop (at - from) (drop from l) = λ l. ap (λ k. drop k l) {x = at} (omega (arith, past)) ∙ sym (drop-drop (at - from) from l) in
    number_at-drop Big n at new ∙ ap (λ (l : List ℕ). number_at Big n l 0) (parts new ∙ ap (λ (l : List ℕ). drop (at - from) l) same.rest ∙ sym (parts old)) ∙ sym (number_at-drop Big n at old)

pub same_offset : (i from : ℕ) (old new : List ℕ) → SameFrom from old new → 2 * (i + 1) + from ≤ length old → offset new i ≡ offset old i
unfolding offset
same_offset i from old new same inside =
    ap (λ n. big_at 2 new (n - 2 * (i + 1))) same.size ∙ same_big 2 from (length old - 2 * (i + 1)) old new same (omega (arith, inside))

pub same_slice : (a b from : ℕ) (old new : List ℕ) → SameFrom from old new → from ≤ a → slice_range new a b ≡ slice_range old a b
same_slice a b from old new same past =
    let parts : (l : List ℕ) → drop a l ≡ drop (a - from) (drop from l) = λ l. ap (λ k. drop k l) {x = a} (omega (arith, past)) ∙ sym (drop-drop (a - from) from l) in
    ap (λ (l : List ℕ). take (b - a) l) (parts new ∙ ap (λ (l : List ℕ). drop (a - from) l) same.rest ∙ sym (parts old))

pub same_later : (from later : ℕ) (old new : List ℕ) → SameFrom from old new → from ≤ later → SameFrom later old new
same_later from later old new same up =
    let parts : (l : List ℕ) → drop later l ≡ drop (later - from) (drop from l) = λ l. ap (λ k. drop k l) {x = later} (omega (arith, up)) ∙ sym (drop-drop (later - from) from l) in
    record { size = same.size; rest = parts new ∙ ap (λ (l : List ℕ). drop (later - from) l) same.rest ∙ sym (parts old) }

pub same_both : (from : ℕ) (old mid new : List ℕ) → SameFrom from old mid → SameFrom from mid new → SameFrom from old new
same_both from old mid new first second = record { size = second.size ∙ first.size; rest = second.rest ∙ first.rest }

-- one record more of a leaf
pub fold_more : (records : List Placed) (node : List ℕ) (k : ℕ) → fold (record_mended records) node (range_with_len 0 (k + 1)) ≡ record_mended records (fold (record_mended records) node (range_with_len 0 k)) k
fold_more records node k =
    ap (fold (record_mended records) node) (range-append 0 k 1)
    ∙ fold-append (record_mended records) node (range_with_len 0 k) (range_with_len (0 + k) 1)
    ∙ ap (record_mended records (fold (record_mended records) node (range_with_len 0 k))) (let same : 0 + k ≡ k = omega arith in same)
