-- The bytes of a catalog's record: how many there are, and what row they make.
use Rattle.std.proofs.Common.{◌≡◌, ◌≢◌, ◌≤◌, ℕ, ◌+◌, ◌*◌, nat_le, Bool, true, false, ◌==◌, ◌||◌, nat_lt, List, [], length, refl, sym, ◌∙◌, ap, arith, if◌then◌else◌}
use Rattle.std.specs.Prelude.{IsTrue}
use Rattle.std.proofs.lemmas.Bool.{true≢false, eqb-true, ne_eqb, and_parts}
use Rattle.hx_bytes.specs.Field.{big_at}
use Rattle.hx_bytes.specs.Fork.{fork_at}
use Rattle.cat_records.specs.Records.{is_catalog, catalog_kind, catalog_of, entry_of, thread_of, has_thread_length}
use Rattle.cat_records.specs.declared.record.CatRecord.{CatRecord}
use Rattle.cat_records.specs.declared.record.CatRecord.TheVariants.{Folder, File, Thread}
use Rattle.fsck_core.specs.Rows.{row_of}
use Rattle.fsck_core.specs.declared.rows.Row.{Row}
use Rattle.fsck_core.proofs.RowLaws.{below_false, not_below}

-- whether bytes of this type have its length
abbrev is_of : List ℕ → ℕ → Bool
is_of v kind = if kind == 1 then length v == 88 else if kind == 2 then length v == 248 else if (kind == 3) || (kind == 4) then has_thread_length v else false

-- a record has its type
pub record_long : (v : List ℕ) → IsTrue (is_catalog v) → 2 ≤ length v
record_long v is = at (nat_lt (length v) 2) refl
  where
    at : (b : Bool) → nat_lt (length v) 2 ≡ b → 2 ≤ length v
    at true less = absurd (true≢false (sym is ∙ ap (λ b. is_of v (if b then 0 else big_at 2 v 0)) less))
    at false less = below_false (length v) 2 less

kind_is : (v : List ℕ) → IsTrue (is_catalog v) → catalog_kind v ≡ big_at 2 v 0
kind_is v is = ap (λ b. if b then 0 else big_at 2 v 0) (not_below (length v) 2 (record_long v is))

-- and its length
pub folder_long : (v : List ℕ) (kind : ℕ) → IsTrue (is_catalog v) → kind ≡ big_at 2 v 0 → kind ≡ 1 → length v ≡ 88
folder_long v kind is same one = eqb-true (length v) 88 (sym (ap (is_of v) (kind_is v is ∙ sym same ∙ one)) ∙ is)

pub file_long : (v : List ℕ) (kind : ℕ) → IsTrue (is_catalog v) → kind ≡ big_at 2 v 0 → kind ≡ 2 → length v ≡ 248
file_long v kind is same two = eqb-true (length v) 248 (sym (ap (is_of v) (kind_is v is ∙ sym same ∙ two)) ∙ is)

-- the record of a type
abbrev of_type : List ℕ → Bool → Bool → CatRecord
of_type v a b = if a then Folder (record { fields = entry_of v }) else if b then File (record { fields = entry_of v; data_fork = fork_at v 88; resource_fork = fork_at v 168 }) else Thread (thread_of v)

abbrev row_by : ℕ → CatRecord → Row
row_by parent rec = row_of (record { parent = parent; name = []; value = rec })

pub row_of_folder : (parent kind : ℕ) (v : List ℕ) (row : Row) → kind ≡ big_at 2 v 0 → kind ≡ 1 → row ≡ row_by parent (Folder (record { fields = entry_of v })) → row ≡ row_by parent (catalog_of v)
row_of_folder parent kind v row same one is = is ∙ sym (ap (λ n. row_by parent (of_type v (n == 1) (n == 2))) (sym same ∙ one))

pub row_of_file : (parent kind : ℕ) (v : List ℕ) (row : Row) → kind ≡ big_at 2 v 0 → kind ≡ 2 → row ≡ row_by parent (File (record { fields = entry_of v; data_fork = fork_at v 88; resource_fork = fork_at v 168 })) → row ≡ row_by parent (catalog_of v)
row_of_file parent kind v row same two is = is ∙ sym (ap (λ n. row_by parent (of_type v (n == 1) (n == 2))) (sym same ∙ two))

pub row_of_thread : (parent kind : ℕ) (v : List ℕ) (row : Row) → kind ≡ big_at 2 v 0 → kind ≢ 1 → kind ≢ 2 → row ≡ row_by parent (Thread (thread_of v)) → row ≡ row_by parent (catalog_of v)
row_of_thread parent kind v row same no_folder no_file is =
    is ∙ sym (ap (λ n. row_by parent (of_type v (n == 1) (n == 2))) (sym same) ∙ ap (λ a. row_by parent (of_type v a (kind == 2))) (ne_eqb kind 1 no_folder) ∙ ap (λ b. row_by parent (of_type v false b)) (ne_eqb kind 2 no_file))

-- what a record of a type is
pub is_folder : (v : List ℕ) (kind : ℕ) → kind ≡ big_at 2 v 0 → kind ≡ 1 → catalog_of v ≡ Folder (record { fields = entry_of v })
is_folder v kind same one = ap (λ n. of_type v (n == 1) (n == 2)) (sym same ∙ one)

pub is_file : (v : List ℕ) (kind : ℕ) → kind ≡ big_at 2 v 0 → kind ≡ 2 → catalog_of v ≡ File (record { fields = entry_of v; data_fork = fork_at v 88; resource_fork = fork_at v 168 })
is_file v kind same two = ap (λ n. of_type v (n == 1) (n == 2)) (sym same ∙ two)

pub by_type : (v : List ℕ) (kind : ℕ) → kind ≡ big_at 2 v 0 → kind ≢ 1 → kind ≢ 2 → catalog_of v ≡ Thread (thread_of v)
by_type v kind same no_folder no_file =
    ap (λ n. of_type v (n == 1) (n == 2)) (sym same) ∙ ap (λ a. of_type v a (kind == 2)) (ne_eqb kind 1 no_folder) ∙ ap (λ b. of_type v false b) (ne_eqb kind 2 no_file)

-- a thread is as long as its name makes it
pub thread_length : (v : List ℕ) (kind : ℕ) → IsTrue (is_catalog v) → kind ≡ big_at 2 v 0 → kind ≢ 1 → kind ≢ 2 → has_thread_length v ≡ true
thread_length v kind is same no_folder no_file = by ((kind == 3) || (kind == 4)) refl
  where
    last : (if (kind == 3) || (kind == 4) then has_thread_length v else false) ≡ true
    last =
        sym (ap (λ n. is_of v n) (kind_is v is ∙ sym same) ∙ ap (λ b. if b then length v == 88 else if kind == 2 then length v == 248 else if (kind == 3) || (kind == 4) then has_thread_length v else false) (ne_eqb kind 1 no_folder)
        ∙ ap (λ b. if b then length v == 248 else if (kind == 3) || (kind == 4) then has_thread_length v else false) (ne_eqb kind 2 no_file)) ∙ is

    by : (b : Bool) → ((kind == 3) || (kind == 4)) ≡ b → has_thread_length v ≡ true
    by true three = ap (λ b. if b then has_thread_length v else false) (sym three) ∙ last
    by false none = absurd (true≢false (sym last ∙ ap (λ b. if b then has_thread_length v else false) none))

pub thread_long : (v : List ℕ) (kind : ℕ) → IsTrue (is_catalog v) → kind ≡ big_at 2 v 0 → kind ≢ 1 → kind ≢ 2 → (10 ≤ length v) × (length v ≡ 10 + 2 * big_at 2 v 8)
thread_long v kind is same no_folder no_file =
    let both = and_parts (nat_le 10 (length v)) (length v == 10 + 2 * big_at 2 v 8) (thread_length v kind is same no_folder no_file) in
    (omega (arith, eqb-true (length v) (10 + 2 * big_at 2 v 8) both.1), eqb-true (length v) (10 + 2 * big_at 2 v 8) both.1)
