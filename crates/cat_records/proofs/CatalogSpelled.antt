-- A record in bytes is spelled as the bytes.
use Rattle.std.proofs.Common.{◌≡◌, nat_eq, ℕ, true, ◌+◌, ◌*◌, ◌≤◌, ◌⊎◌, inl, inr, List, ◌++◌, length, None, refl, sym, ◌∙◌, ap, subst, arith}
use Rattle.std.proofs.lemmas.List.{take_all}
use Rattle.std.proofs.lemmas.Bool.{cases_eq}
use Rattle.std.proofs.lemmas.Bool.Decides.{nat_tests}
use Rattle.std.proofs.lemmas.Int.{of_z-to_z}
use Rattle.std.specs.Prelude.{if◌then◌else◌}
use Rattle.std.specs.Int.{w16, cast_unsigned, cast_signed}
use Rattle.hx_bytes.specs.Field.{big, big_at, AreBytes}
use Rattle.hx_bytes.specs.Fork.{fork_at, fork_bytes}
use Rattle.hx_bytes.specs.declared.fields.Order.TheVariants.{Big}
use Rattle.hx_bytes.proofs.Laws.{number_at-fits, number_bytes-number_at_2}
use Rattle.hx_bytes.proofs.Spelling.{Spelled, spelled_first, spelled_2, spelled_4, spelled_part, spelled_fork}
use Rattle.cat_records.specs.Records.{catalog_bytes, catalog_fault, catalog_of, entry_bytes, entry_of, is_catalog, thread_bytes, thread_kind, thread_of}
use Rattle.cat_records.specs.declared.record.CatRecord.{CatRecord}
use Rattle.cat_records.specs.declared.record.CatRecord.TheVariants.{Folder, File, Thread}
use Rattle.cat_records.proofs.EntrySpelled.{spelled_entry}
use Rattle.cat_records.proofs.UnitLists.{length-units_at, spelled_units}

-- the type, as it is spelled
first : (bytes : List ℕ) (kind : ℕ) → 2 ≤ length bytes → AreBytes bytes → big_at 2 bytes 0 ≡ kind → Spelled bytes (big 2 kind) 0 2
first bytes kind long are is = spelled_first bytes (big 2 kind) 0 2 (ap (λ (n : ℕ). big 2 n) (sym is) ∙ number_bytes-number_at_2 Big bytes 0 long are)

folder_spelled : (bytes : List ℕ) → AreBytes bytes → length bytes ≡ 88 → big_at 2 bytes 0 ≡ 1 → big 2 1 ++ entry_bytes (entry_of bytes) ≡ bytes
folder_spelled bytes are long is =
    let all = spelled_part _ 86 (first bytes 1 (omega arith) are is) (spelled_entry bytes (omega arith) are) in
    all.is ∙ take_all 88 bytes (omega arith)

file_spelled : (bytes : List ℕ) → AreBytes bytes → length bytes ≡ 248 → big_at 2 bytes 0 ≡ 2 → big 2 2 ++ entry_bytes (entry_of bytes) ++ fork_bytes (fork_at bytes 88) ++ fork_bytes (fork_at bytes 168) ≡ bytes
file_spelled bytes are long is =
    let entry = spelled_part _ 86 (first bytes 2 (omega arith) are is) (spelled_entry bytes (omega arith) are) in
    let data_fork = spelled_part _ 80 entry (spelled_fork bytes 88 are (omega arith)) in
    let all = spelled_part _ 80 data_fork (spelled_fork bytes 168 are (omega arith)) in
    all.is ∙ take_all 248 bytes (omega arith)

-- the type of a thread is told by whether it is of a file
kind_back : (kind : ℕ) → (kind ≡ 3) ⊎ (kind ≡ 4) → thread_kind (nat_eq kind 4) ≡ kind
kind_back kind (inl three) = subst (λ (n : ℕ). thread_kind (nat_eq n 4) ≡ n) (sym three) refl
kind_back kind (inr four) = subst (λ (n : ℕ). thread_kind (nat_eq n 4) ≡ n) (sym four) refl

thread_spelled : (bytes : List ℕ) → AreBytes bytes → length bytes ≡ 10 + 2 * big_at 2 bytes 8 → (big_at 2 bytes 0 ≡ 3) ⊎ (big_at 2 bytes 0 ≡ 4) → thread_bytes (thread_of bytes) ≡ bytes
thread_spelled bytes are long which =
    let kind = thread_kind (nat_eq (big_at 2 bytes 0) 4) in
    let count = big_at 2 bytes 8 in
    let kind_is : kind ≡ big_at 2 bytes 0 = kind_back (big_at 2 bytes 0) which in
    let spare_is : cast_unsigned w16 (cast_signed w16 (big_at 2 bytes 2)) ≡ big_at 2 bytes 2 = of_z-to_z w16 (big_at 2 bytes 2) (number_at-fits Big 2 2 bytes are) in
    let start = first bytes kind (omega arith) are (sym kind_is) in
    let spare = spelled_2 are (omega arith) start in
    let parent = spelled_4 are (omega arith) spare in
    let counted = spelled_2 are (omega arith) parent in
    let all = spelled_part _ (2 * count) counted (spelled_units bytes 10 count are (omega arith)) in
    rw (spare_is, length-units_at bytes 10 count) (all.is ∙ take_all (10 + 2 * count) bytes (omega arith))

-- what a record's type and length are
folder_long : (bytes : List ℕ) → is_catalog bytes ≡ true → big_at 2 bytes 0 ≡ 1 → length bytes ≡ 88
folder_long bytes is kind = grind (arith, nat_tests)

file_long : (bytes : List ℕ) → is_catalog bytes ≡ true → big_at 2 bytes 0 ≡ 2 → length bytes ≡ 248
file_long bytes is kind = grind (arith, nat_tests)

thread_long : (bytes : List ℕ) → is_catalog bytes ≡ true → (big_at 2 bytes 0 ≡ 1 → ⊥) → (big_at 2 bytes 0 ≡ 2 → ⊥) → length bytes ≡ 10 + 2 * big_at 2 bytes 8
thread_long bytes is one two = grind (arith, nat_tests)

no_other : (bytes : List ℕ) → is_catalog bytes ≡ true → (big_at 2 bytes 0 ≡ 1 → ⊥) → (big_at 2 bytes 0 ≡ 2 → ⊥) → (big_at 2 bytes 0 ≡ 3 → ⊥) → (big_at 2 bytes 0 ≡ 4 → ⊥) → ⊥
no_other bytes is one two three four = grind (arith, nat_tests)

thread_which : (bytes : List ℕ) → is_catalog bytes ≡ true → (big_at 2 bytes 0 ≡ 1 → ⊥) → (big_at 2 bytes 0 ≡ 2 → ⊥) → (big_at 2 bytes 0 ≡ 3) ⊎ (big_at 2 bytes 0 ≡ 4)
thread_which bytes is one two =
    elim (cases_eq (big_at 2 bytes 0) 3) [
      | inl three ↦ inl three
      | inr not_three ↦ elim (cases_eq (big_at 2 bytes 0) 4) [ inl four ↦ inr four | inr not_four ↦ absurd (no_other bytes is one two not_three not_four) ]
    ]

-- the record that bytes of a type are read as
abbrev choice : List ℕ → ℕ → CatRecord
choice bytes kind =
    if nat_eq kind 1 then Folder (record { fields = entry_of bytes })
    else if nat_eq kind 2 then File (record { fields = entry_of bytes; data_fork = fork_at bytes 88; resource_fork = fork_at bytes 168 })
    else Thread (thread_of bytes)

thread_choice : (bytes : List ℕ) (kind : ℕ) → (kind ≡ 3) ⊎ (kind ≡ 4) → choice bytes kind ≡ Thread (thread_of bytes)
thread_choice bytes kind (inl three) = ap (λ (n : ℕ). choice bytes n) three
thread_choice bytes kind (inr four) = ap (λ (n : ℕ). choice bytes n) four

pub catalog_spelled : (bytes : List ℕ) → AreBytes bytes → is_catalog bytes ≡ true → catalog_bytes (catalog_of bytes) ≡ bytes
catalog_spelled bytes are is =
    elim (cases_eq (big_at 2 bytes 0) 1) [
      | inl one ↦ ap (λ (n : ℕ). catalog_bytes (choice bytes n)) one ∙ folder_spelled bytes are (folder_long bytes is one) one
      | inr not_one ↦ elim (cases_eq (big_at 2 bytes 0) 2) [
        | inl two ↦ ap (λ (n : ℕ). catalog_bytes (choice bytes n)) two ∙ file_spelled bytes are (file_long bytes is two) two
        | inr not_two ↦ ap catalog_bytes (thread_choice bytes (big_at 2 bytes 0) (thread_which bytes is not_one not_two)) ∙ thread_spelled bytes are (thread_long bytes is not_one not_two) (thread_which bytes is not_one not_two)
      ]
    ]

-- bytes without a fault are a record
pub no_fault : (bytes : List ℕ) → catalog_fault bytes ≡ None → is_catalog bytes ≡ true
no_fault bytes none = grind (arith, nat_tests)

-- the record that bytes are read as is spelled as the bytes
pub found_spelled : (value : List ℕ) (found : CatRecord) → AreBytes value → is_catalog value ≡ true → found ≡ catalog_of value → catalog_bytes found ≡ value
found_spelled value found are is same = ap catalog_bytes same ∙ catalog_spelled value are is
