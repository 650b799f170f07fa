-- The keys of names and threads: they are keys of the catalog's tree, and read back as what they were made of.
use Rattle.std.proofs.Common.{◌≡◌, ◌≢◌, ℕ, ◌+◌, ◌*◌, ◌^◌, ◌<◌, ◌≤◌, List, [], ◌∷◌, ◌++◌, length, refl, sym, ◌∙◌, ap, subst, arith, append_assoc}
use Rattle.std.proofs.lemmas.List.{length-append}
use Rattle.std.specs.List.{AllByRecursion}
use Rattle.hx_bytes.specs.Field.{big, big_at, number_at}
use Rattle.hx_bytes.specs.declared.fields.Order.TheVariants.{Big}
use Rattle.hx_bytes.proofs.Laws.{length-number_bytes}
use Rattle.hx_bytes.proofs.Reading.{Behind, behind_number, number_here}
use Rattle.btree_node.specs.Keys.{units}
use Rattle.cat_records.specs.Keys.{catalog_key_bytes}
use Rattle.cat_records.specs.Records.{units_bytes}
use Rattle.std.specs.Prelude.{None, false, T}
use Rattle.std.specs.declared.cmp.Ordering.TheVariants.{Equal}
use Rattle.btree_node.specs.Keys.{catalog_cmp}
use Rattle.btree_node.specs.KeyLaws.{catalog_length}
use Rattle.cat_records.specs.Records.{catalog_bytes, catalog_fault, catalog_of, entry_bytes, thread_bytes}
use Rattle.cat_records.specs.Fits.{FitsRecord}
use Rattle.cat_records.specs.declared.record.ThreadRecord.{ThreadRecord}
use Rattle.cat_records.specs.declared.record.CatRecord.{CatRecord}
use Rattle.cat_records.specs.declared.record.CatRecord.TheVariants.{Folder, File, Thread}
use Rattle.cat_records.proofs.CatalogBack.{folder_back, folder_spells, file_back, file_spells}
use Rattle.cat_records.proofs.CatalogSpelled.{no_fault}
use Rattle.cat_records.proofs.EntryBack.{length-entry_bytes}
use Rattle.hx_bytes.proofs.Forks.{length-fork_bytes, length-extents_bytes}
use Rattle.cat_records.proofs.ThreadBack.{thread_back, thread_spells}
use Rattle.hfs_volume.specs.Records.{placed_of, is_thread}
use Rattle.hfs_volume.specs.Changes.{Spells}
use Rattle.catalog.specs.Pairs.{IsKeyOf}

-- two bytes as a number
two_bytes : (high low : ℕ) (rest : List ℕ) → big_at 2 (high ∷ low ∷ rest) 0 ≡ high * 256 + low
unfolding number_at
two_bytes high low rest = omega arith

pub units_read_back : (name : List ℕ) → AllByRecursion (λ unit. unit < 2 ^ 16) name → units (units_bytes name) ≡ name
units_read_back [] fits = refl
units_read_back (unit ∷ more) fits = by_bytes (big 2 unit) refl (length-number_bytes Big 2 unit) (units_read_back more fits.1)
  where
    by_bytes : (bytes : List ℕ) → bytes ≡ big 2 unit → length bytes ≡ 2 → units (units_bytes more) ≡ more → units (big 2 unit ++ units_bytes more) ≡ unit ∷ more
    by_bytes [] is long rest_back = absurd (omega (arith, long))
    by_bytes (high ∷ []) is long rest_back = absurd (omega (arith, long))
    by_bytes (high ∷ low ∷ []) is long rest_back =
        let start : Behind (high ∷ low ∷ units_bytes more) (big 2 unit ++ units_bytes more) 0 = record { is = ap (λ (l : List ℕ). l ++ units_bytes more) is } in
        let first : high * 256 + low ≡ unit = sym (two_bytes high low (units_bytes more)) ∙ number_here _ 2 unit fits.0 start in
        ap (λ (l : List ℕ). units (l ++ units_bytes more)) (sym is) ∙ ap (λ n. n ∷ units (units_bytes more)) first ∙ ap (λ (l : List ℕ). unit ∷ l) rest_back
    by_bytes (high ∷ low ∷ third ∷ rest) is long rest_back = absurd (omega (arith, long))

pub length-units_bytes : (name : List ℕ) → length (units_bytes name) ≡ 2 * length name
length-units_bytes [] = refl
length-units_bytes (unit ∷ more) = omega (arith, length-append (big 2 unit) (units_bytes more), length-number_bytes Big 2 unit, length-units_bytes more)

pub key_reads : (parent : ℕ) (name : List ℕ) → parent < 2 ^ 32 → length name ≤ 255 → AllByRecursion (λ unit. unit < 2 ^ 16) name → IsKeyOf parent name (catalog_key_bytes parent name)
key_reads parent name small short fits =
    let count = length name in
    let whole = catalog_key_bytes parent name in
    let start : Behind whole (big 2 (6 + 2 * count) ++ (big 4 parent ++ (big 2 count ++ units_bytes name))) 0 = record { is = simp (append_assoc) } in
    let size_is : big_at 2 whole 0 ≡ 6 + 2 * count = number_here _ 2 (6 + 2 * count) (omega (arith, short)) start in
    let at_parent = behind_number 2 (6 + 2 * count) start in
    let parent_is : big_at 4 whole 2 ≡ parent = number_here _ 4 parent small at_parent in
    let at_count = behind_number 4 parent at_parent in
    let count_is : big_at 2 whole 6 ≡ count = number_here _ 2 count (omega (arith, short)) at_count in
    let at_name = behind_number 2 count at_count in
    let long : length whole ≡ 8 + 2 * count = omega (arith, length-append {A = ℕ}, length-number_bytes Big, length-units_bytes name) in
    record {
      is_key = record {
        long = omega (arith, long);
        size = omega (arith, long, size_is);
        name = omega (arith, size_is, count_is);
        most = omega (arith, count_is, short);
      };
      parent_is = parent_is;
      name_is = ap units at_name.is ∙ units_read_back name fits;
      long = long;
    }

-- the pair of a record spells it
pub record_spelled : (parent : ℕ) (name key value : List ℕ) (rec : CatRecord) → IsKeyOf parent name key → FitsRecord rec → value ≡ catalog_bytes rec
    → Spells (record { parent = parent; name = name; value = rec }) (key, value)
unfolding placed_of
record_spelled parent name key value rec is fits same = subst (λ v. Spells (record { parent = parent; name = name; value = rec }) (key, v)) (sym same) (record {
  stands = λ i. record { parent = is.parent_is i; name = is.name_is i; value = back rec fits i };
  spelled = no_fault (catalog_bytes rec) (no_fault_of rec fits);
})
  where
    no_fault_of : (r : CatRecord) → FitsRecord r → catalog_fault (catalog_bytes r) ≡ None
    no_fault_of (Folder folder) fits = folder_spells folder fits
    no_fault_of (File file) fits = file_spells file fits
    no_fault_of (Thread thread) fits = thread_spells thread fits

    back : (r : CatRecord) → FitsRecord r → catalog_of (catalog_bytes r) ≡ r
    back (Folder folder) fits = folder_back folder fits
    back (File file) fits = file_back file fits
    back (Thread thread) fits = thread_back thread fits

-- the record of a folder or a file has at most 248 bytes
pub entry_long : (rec : CatRecord) → is_thread rec ≡ false → FitsRecord rec → length (catalog_bytes rec) ≤ 248
entry_long (Folder folder) kind fits = omega (arith, length-append (big 2 1) (entry_bytes folder.fields), length-number_bytes Big 2 1, length-entry_bytes folder.fields fits.finder_length)
entry_long (File file) kind fits =
    omega (
      arith,
      length-append {A = ℕ},
      length-number_bytes Big 2 2,
      length-entry_bytes file.fields fits.fields.finder_length,
      length-fork_bytes file.data_fork (length-extents_bytes file.data_fork.extents fits.data_fork.extents.eight),
      length-fork_bytes file.resource_fork (length-extents_bytes file.resource_fork.extents fits.resource_fork.extents.eight),
    )
entry_long (Thread thread) kind fits = absurd (subst T kind tt)

pub thread_long : (thread : ThreadRecord) → length (thread_bytes thread) ≡ 10 + 2 * length thread.name
thread_long thread = omega (arith, length-append {A = ℕ}, length-number_bytes Big, length-units_bytes thread.name)

-- a key with a name isn't a thread's
pub keys_apart : (parent id : ℕ) (name key other : List ℕ) → IsKeyOf parent name key → IsKeyOf id [] other → 1 ≤ length name → catalog_cmp key other ≢ Equal
keys_apart parent id name key other named unnamed some ties = absurd (omega (arith, some, named.long, unnamed.long, catalog_length key other named.is_key unnamed.is_key ties))
