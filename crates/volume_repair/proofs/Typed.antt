-- The bytes of a catalog's record: how many there are, and what they spell by their type.
use Rattle.std.proofs.Common.{◌≡◌, ◌≢◌, ◌<◌, ◌≤◌, ℕ, suc, Bool, true, false, ◌==◌, ◌||◌, nat_lt, List, length, refl, sym, ◌∙◌, ap, arith, if◌then◌else◌, ⊎_elim}
use Rattle.std.specs.Prelude.{IsTrue}
use Rattle.std.proofs.lemmas.Bool.{true≢false, eqb-true, ne_eqb}
use Rattle.std.proofs.lemmas.Bool.Decides.{leb_tells}
use Rattle.hx_bytes.specs.Field.{big_at}
use Rattle.hx_bytes.specs.Fork.{fork_at}
use Rattle.cat_records.specs.Records.{is_catalog, catalog_kind, catalog_of, entry_of, thread_of, has_thread_length}
use Rattle.cat_records.specs.declared.record.CatRecord.{CatRecord}
use Rattle.cat_records.specs.declared.record.CatRecord.TheVariants.{Folder, File, Thread}

pub true_below : (a b : ℕ) → a < b → nat_lt a b ≡ true
true_below a b less = ⊎_elim (λ (yes : (nat_lt a b ≡ true) × (suc a ≤ b)). yes.0) (λ (no : (nat_lt a b ≡ false) × (b < suc a)). absurd (omega (arith, less, no.1))) (leb_tells (suc a) b)

pub not_below : (a b : ℕ) → b ≤ a → nat_lt a b ≡ false
not_below a b most = ⊎_elim (λ (yes : (nat_lt a b ≡ true) × (suc a ≤ b)). absurd (omega (arith, most, yes.1))) (λ (no : (nat_lt a b ≡ false) × (b < suc a)). no.0) (leb_tells (suc a) b)

below_false : (a b : ℕ) → nat_lt a b ≡ false → b ≤ a
below_false a b isnt = ⊎_elim (λ (yes : (nat_lt a b ≡ true) × (suc a ≤ b)). absurd (true≢false (sym yes.0 ∙ isnt))) (λ (no : (nat_lt a b ≡ false) × (b < suc a)). omega (arith, no.1)) (leb_tells (suc a) b)

-- whether bytes of this type have its length
abbrev is_of : List ℕ → ℕ → Bool
is_of v kind = if kind == 1 then length v == 88 else if kind == 2 then length v == 248 else if (kind == 3) || (kind == 4) then has_thread_length v else false

-- a record has its type
pub record_long : (v : List ℕ) → IsTrue (is_catalog v) → 2 ≤ length v
record_long v is = at (nat_lt (length v) 2) refl
  where
    at : (b : Bool) → nat_lt (length v) 2 ≡ b → 2 ≤ length v
    at true less = absurd (true≢false (sym is ∙ ap (λ b. is_of v (if b then 0 else big_at 2 v 0)) less))
    at false less = below_false (length v) 2 less

kind_is : (v : List ℕ) → IsTrue (is_catalog v) → catalog_kind v ≡ big_at 2 v 0
kind_is v is = ap (λ b. if b then 0 else big_at 2 v 0) (not_below (length v) 2 (record_long v is))

-- and its length
pub folder_long : (v : List ℕ) → IsTrue (is_catalog v) → big_at 2 v 0 ≡ 1 → length v ≡ 88
folder_long v is one = eqb-true (length v) 88 (sym (ap (is_of v) (kind_is v is ∙ one)) ∙ is)

pub file_long : (v : List ℕ) → IsTrue (is_catalog v) → big_at 2 v 0 ≡ 2 → length v ≡ 248
file_long v is two = eqb-true (length v) 248 (sym (ap (is_of v) (kind_is v is ∙ two)) ∙ is)

-- the record of a type
abbrev of_type : List ℕ → Bool → Bool → CatRecord
of_type v a b = if a then Folder (record { fields = entry_of v }) else if b then File (record { fields = entry_of v; data_fork = fork_at v 88; resource_fork = fork_at v 168 }) else Thread (thread_of v)

-- what a record of a type is
pub spells_folder : (v : List ℕ) → big_at 2 v 0 ≡ 1 → catalog_of v ≡ Folder (record { fields = entry_of v })
spells_folder v one = ap (λ n. of_type v (n == 1) (n == 2)) one

pub spells_file : (v : List ℕ) → big_at 2 v 0 ≡ 2 → catalog_of v ≡ File (record { fields = entry_of v; data_fork = fork_at v 88; resource_fork = fork_at v 168 })
spells_file v two = ap (λ n. of_type v (n == 1) (n == 2)) two

pub spells_thread : (v : List ℕ) → big_at 2 v 0 ≢ 1 → big_at 2 v 0 ≢ 2 → catalog_of v ≡ Thread (thread_of v)
spells_thread v no_folder no_file =
    ap (λ a. of_type v a (big_at 2 v 0 == 2)) (ne_eqb (big_at 2 v 0) 1 no_folder) ∙ ap (λ b. of_type v false b) (ne_eqb (big_at 2 v 0) 2 no_file)
