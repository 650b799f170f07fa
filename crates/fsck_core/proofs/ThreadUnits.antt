-- The name in a thread beside that in a key, unit by unit.
use Rattle.std.proofs.Common.{◌≡◌, ◌≢◌, ◌<◌, ◌≤◌, ℕ, zero, suc, ◌+◌, ◌*◌, Bool, true, false, ◌==◌, ◌&&◌, nat_lt, List, ◌∷◌, length, drop, refl, sym, ◌∙◌, ap, arith, ⊎_elim}
use Rattle.std.specs.Prelude.{IsTrue}
use Rattle.std.specs.Str.{bytes_eq}
use Rattle.std.proofs.lemmas.Bool.{eq-eqb, ne_eqb, cases_lt}
use Rattle.hx_bytes.specs.Field.{big_at}
use Rattle.btree_node.specs.Keys.{units}
use Rattle.btree_node.proofs.Units as pairs
use Rattle.cat_records.specs.Records.{is_catalog, catalog_of, thread_of, units_at}
use Rattle.cat_records.specs.declared.record.CatRecord.{CatRecord}
use Rattle.cat_records.specs.declared.record.CatRecord.TheVariants.{Thread}
use Rattle.fsck_core.specs.Threads.{is_thread_of, same_bit}
use Rattle.fsck_core.specs.declared.rows.Row.{Row}
use Rattle.fsck_core.proofs.RowLaws.{true_below, not_below}
use Rattle.fsck_core.proofs.RecordBytes.{is_folder, is_file, by_type}

module _ (one other : List ℕ) (at there : ℕ) where
  abbrev same_rest : Bool
  same_rest = bytes_eq (units (drop at one)) (units (drop there other))

  pub other_ends : at + 2 ≤ length one → length other < there + 2 → same_rest ≡ false
  other_ends more past = λ i. bytes_eq (pairs.units_at one at more i) (pairs.units_end other there past i)

  both : at + 2 ≤ length one → there + 2 ≤ length other → same_rest ≡ ((big_at 2 one at == big_at 2 other there) && bytes_eq (units (drop (at + 2) one)) (units (drop (there + 2) other)))
  both more within = λ i. bytes_eq (pairs.units_at one at more i) (pairs.units_at other there within i)

  pub same_first : at + 2 ≤ length one → there + 2 ≤ length other → big_at 2 one at ≡ big_at 2 other there → bytes_eq (units (drop (at + 2) one)) (units (drop (there + 2) other)) ≡ same_rest
  same_first more within same = sym (both more within ∙ ap (λ b. b && bytes_eq (units (drop (at + 2) one)) (units (drop (there + 2) other))) (eq-eqb (big_at 2 one at) (big_at 2 other there) same))

  pub another_first : at + 2 ≤ length one → there + 2 ≤ length other → big_at 2 one at ≢ big_at 2 other there → same_rest ≡ false
  another_first more within differ = both more within ∙ ap (λ b. b && bytes_eq (units (drop (at + 2) one)) (units (drop (there + 2) other))) (ne_eqb (big_at 2 one at) (big_at 2 other there) differ)

  pub both_end : (b : Bool) → b ≡ nat_lt (length other) (there + 2) → length one < at + 2 → b ≡ same_rest
  both_end b is end = ⊎_elim
      (λ (past : length other < there + 2). is ∙ true_below (length other) (there + 2) past ∙ sym (λ i. bytes_eq (pairs.units_end one at end i) (pairs.units_end other there past i)))
      (λ (more : there + 2 ≤ length other). is ∙ not_below (length other) (there + 2) more ∙ sym (λ i. bytes_eq (pairs.units_end one at end i) (pairs.units_at other there more i)))
      (cases_lt (length other) (there + 2))

-- the units of a thread's name are those up to its end
name_units : (v : List ℕ) (at count : ℕ) → length v ≡ at + 2 * count → units (drop at v) ≡ units_at v at count
name_units v at zero long = pairs.units_end v at (omega (arith, long))
name_units v at (suc count) long = pairs.units_at v at (omega (arith, long)) ∙ ap (λ l. big_at 2 v at ∷ l) (name_units v (at + 2) count (omega (arith, long)))

module _ (value name : List ℕ) (row : Row) where
  abbrev tells_it : Bool → Bool → Bool → Bool
  tells_it parent kind same = parent && (kind && same)

  pub another_parent : (parent : ℕ) → parent ≡ big_at 4 value 4 → parent ≢ row.parent → false ≡ is_thread_of (Thread (thread_of value)) row name
  another_parent parent is differ = sym (ap (λ n. (n == row.parent) && (same_bit (big_at 2 value 0 == 4) row.file && bytes_eq name (units_at value 10 (big_at 2 value 8)))) (sym is)
      ∙ ap (λ b. b && (same_bit (big_at 2 value 0 == 4) row.file && bytes_eq name (units_at value 10 (big_at 2 value 8)))) (ne_eqb parent row.parent differ))

  pub another_kind : (same : Bool) → same ≡ same_bit (big_at 2 value 0 == 4) row.file → same ≡ false → false ≡ is_thread_of (Thread (thread_of value)) row name
  another_kind same same_is differ = sym (ap (λ b. (big_at 4 value 4 == row.parent) && (b && bytes_eq name (units_at value 10 (big_at 2 value 8)))) (sym same_is ∙ differ) ∙ none (big_at 4 value 4 == row.parent))
    where
      none : (b : Bool) → (b && false) ≡ false
      none true = refl
      none false = refl

  pub place_told : (parent : ℕ) (same : Bool) (b : Bool) → parent ≡ big_at 4 value 4 → parent ≡ row.parent → same ≡ same_bit (big_at 2 value 0 == 4) row.file → same ≡ true → length value ≡ 10 + 2 * big_at 2 value 8
      → b ≡ bytes_eq name (units (drop 10 value)) → b ≡ is_thread_of (Thread (thread_of value)) row name
  place_told parent same b is here same_is kind long told =
      told ∙ ap (bytes_eq name) (name_units value 10 (big_at 2 value 8) long)
      ∙ sym ((λ i. (sym is i == row.parent) && (same_bit (big_at 2 value 0 == 4) row.file && bytes_eq name (units_at value 10 (big_at 2 value 8))))
      ∙ (λ i. eq-eqb parent row.parent here i && ((sym same_is ∙ kind) i && bytes_eq name (units_at value 10 (big_at 2 value 8)))))

  pub no_thread : (kind : ℕ) (b : Bool) → IsTrue (is_catalog value) → kind ≡ big_at 2 value 0 → kind ≢ 1 → kind ≢ 2 → b ≡ is_thread_of (Thread (thread_of value)) row name → b ≡ is_thread_of (catalog_of value) row name
  no_thread kind b is same no_folder no_file told = told ∙ sym (ap (λ (rec : CatRecord). is_thread_of rec row name) (by_type value kind same no_folder no_file))

  pub folder_tells : (kind : ℕ) → kind ≡ big_at 2 value 0 → kind ≡ 1 → false ≡ is_thread_of (catalog_of value) row name
  folder_tells kind same one = sym (ap (λ (rec : CatRecord). is_thread_of rec row name) (is_folder value kind same one))

  pub file_tells : (kind : ℕ) → kind ≡ big_at 2 value 0 → kind ≡ 2 → false ≡ is_thread_of (catalog_of value) row name
  file_tells kind same two = sym (ap (λ (rec : CatRecord). is_thread_of rec row name) (is_file value kind same two))
