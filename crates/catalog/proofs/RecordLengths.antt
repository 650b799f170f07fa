-- How long the record of an entry is: as its type says.
use Rattle.std.proofs.Common.{◌≡◌, ℕ, ◌<◌, Bool, true, false, List, [], length, refl, sym, ◌∙◌, ap, subst}
use Rattle.std.specs.Prelude.{slice_index_or, IsTrue, T, nat_lt, ◌==◌, ◌||◌, if◌then◌else◌, Some, Option}
use Rattle.std.specs.declared.cmp.Ordering.TheVariants.{Equal}
use Rattle.std.proofs.lemmas.Bool.{eqb-true, true≢false}
use Rattle.hx_bytes.specs.Field.{big_at}
use Rattle.hx_bytes.specs.Fork.{fork_at}
use Rattle.btree_node.specs.Keys.{IsCatalogKey, catalog_cmp}
use Rattle.btree_node.specs.Levels.{Pair}
use Rattle.btree_node.specs.Store.{Store}
use Rattle.btree_node.specs.Tree.{IsTree, pairs_of}
use Rattle.cat_records.specs.Records.{catalog_of, is_catalog, has_thread_length, entry_of, thread_of}
use Rattle.cat_records.specs.declared.record.CatRecord.{CatRecord}
use Rattle.cat_records.specs.declared.record.CatRecord.TheVariants.{Folder, File, Thread}
use Rattle.cat_records.specs.declared.record.FileRecord.{FileRecord}
use Rattle.cat_records.specs.declared.record.FolderRecord.{FolderRecord}
use Rattle.cat_records.specs.declared.record.ThreadRecord.{ThreadRecord}
use Rattle.hfs_volume.specs.Changes.{Spells}
use Rattle.hfs_volume.specs.Entries.{AreSpelled}
use Rattle.hfs_volume.specs.Records.{Placed, placed_of, placed_in, record_at, is_folder, is_thread}
use Rattle.catalog.specs.Pairs.{IsKeyOf}
use Rattle.catalog.specs.Entries.{IsOfKind}
use Rattle.catalog.proofs.Updates.{tied_found}

abbrev pub long_of : Bool → ℕ
long_of true = 88
long_of false = 248

abbrev pub picked : Bool → Bool → FolderRecord → FileRecord → ThreadRecord → CatRecord
picked one two folder file thread = if one then Folder folder else if two then File file else Thread thread

by_kind : (bytes : List ℕ) (one two rest : Bool) (folder : FolderRecord) (file : FileRecord) (thread : ThreadRecord) → (if one then length bytes == 88 else if two then length bytes == 248 else rest) ≡ true
    → is_thread (picked one two folder file thread) ≡ false → length bytes ≡ long_of (is_folder (picked one two folder file thread))
by_kind bytes true two rest folder file thread wanted named = eqb-true (length bytes) 88 wanted
by_kind bytes false true rest folder file thread wanted named = eqb-true (length bytes) 248 wanted
by_kind bytes false false rest folder file thread wanted named = absurd (true≢false named)

abbrev wanted : List ℕ → ℕ → Bool
wanted bytes kind =
    if kind == 1 then length bytes == 88
    else if kind == 2 then length bytes == 248
    else if (kind == 3) || (kind == 4) then has_thread_length bytes
    else false

pub record_long : (bytes : List ℕ) → is_catalog bytes ≡ true → is_thread (catalog_of bytes) ≡ false → length bytes ≡ long_of (is_folder (catalog_of bytes))
record_long bytes spelled named = by_size (nat_lt (length bytes) 2) refl
  where
    by_size : (small : Bool) → nat_lt (length bytes) 2 ≡ small → length bytes ≡ long_of (is_folder (catalog_of bytes))
    by_size true is = absurd (true≢false (sym spelled ∙ ap (λ (s : Bool). wanted bytes (if s then 0 else big_at 2 bytes 0)) is))
    by_size false is =
        by_kind bytes (big_at 2 bytes 0 == 1) (big_at 2 bytes 0 == 2) (if (big_at 2 bytes 0 == 3) || (big_at 2 bytes 0 == 4) then has_thread_length bytes else false)
        (record { fields = entry_of bytes }) (record { fields = entry_of bytes; data_fork = fork_at bytes 88; resource_fork = fork_at bytes 168 }) (thread_of bytes)
        (sym (ap (λ (s : Bool). wanted bytes (if s then 0 else big_at 2 bytes 0)) is) ∙ spelled) named

pub value_in : (placed : Placed) (pair : Pair) → placed_of pair ≡ placed → catalog_of pair.1 ≡ placed.value
unfolding placed_of
value_in placed pair is = ap (λ (other : Placed). other.value) is

-- a folder and a file aren't threads; a record of the kind of another isn't one where that isn't
not_thread : (rec value : CatRecord) → is_thread rec ≡ false → IsOfKind rec value → is_thread value ≡ false
not_thread (Folder folder) (Folder other) named kind = refl
not_thread (Folder folder) (File other) named kind = refl
not_thread (Folder folder) (Thread other) named kind = absurd (true≢false kind.folder)
not_thread (File file) (Folder other) named kind = refl
not_thread (File file) (File other) named kind = refl
not_thread (File file) (Thread other) named kind = absurd (true≢false kind.file)
not_thread (Thread thread) value named kind = absurd (true≢false named)

-- the record of an entry's kind has the length of that which stands there
pub same_length : (parent : ℕ) (name key value : List ℕ) (rec : CatRecord) (store : Store) → IsTree IsCatalogKey catalog_cmp store → AreSpelled (pairs_of store) → IsKeyOf parent name key
    → Spells (record { parent = parent; name = name; value = rec }) (key, value) → is_thread rec ≡ false
    → ((entry : Placed) → record_at (placed_in (pairs_of store)) parent name ≡ Some entry → IsOfKind rec entry.value)
    → (k : ℕ) → k < length (pairs_of store) → catalog_cmp (slice_index_or (pairs_of store) k ([], [])).0 key ≡ Equal → length (slice_index_or (pairs_of store) k ([], [])).1 ≡ length value
same_length parent name key value rec store tree spelled is spells named same_kind k inside ties =
    let pair = slice_index_or (pairs_of store) k ([], []) in
    let kind = same_kind (placed_of pair) (tied_found parent name key store k tree is inside ties) in
    let stands : catalog_of pair.1 ≡ (placed_of pair).value = value_in (placed_of pair) pair refl in
    let own : catalog_of value ≡ rec = value_in (record { parent = parent; name = name; value = rec }) (key, value) spells.stands in
    record_long pair.1 (spelled k ([], []) inside) (ap is_thread stands ∙ not_thread rec (placed_of pair).value named kind)
    ∙ ap (λ r. long_of (is_folder r)) stands ∙ ap long_of (sym kind.folder) ∙ ap (λ r. long_of (is_folder r)) (sym own)
    ∙ sym (record_long value spells.spelled (ap is_thread own ∙ named))
