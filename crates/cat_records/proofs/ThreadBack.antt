-- A thread that was written is read as it was.
use Rattle.std.proofs.Common.{◌≡◌, nat_eq, ℕ, ℤ, pos, negsuc, Bool, true, false, ◌+◌, ◌*◌, ◌^◌, ◌<◌, ◌⊎◌, inl, inr, List, [], ◌++◌, length, None, refl, ◌∙◌, ap, arith, append_assoc}
use Rattle.std.proofs.lemmas.List.{append-nil, length-append}
use Rattle.std.proofs.lemmas.Bool.Decides.{nat_tests}
use Rattle.std.proofs.lemmas.Int.{to_z-of_z}
use Rattle.std.specs.Prelude.{FitsSigned, if◌then◌else◌, ◌==◌}
use Rattle.std.specs.Int.{w16, cast_unsigned}
use Rattle.hx_bytes.specs.Field.{big, big_at}
use Rattle.hx_bytes.specs.Fork.{fork_at}
use Rattle.hx_bytes.specs.declared.fields.Order.TheVariants.{Big}
use Rattle.hx_bytes.proofs.Laws.{length-number_bytes}
use Rattle.hx_bytes.proofs.Reading.{Behind, behind_number, number_here}
use Rattle.cat_records.specs.Records.{catalog_fault, catalog_of, entry_of, is_catalog, thread_bytes, thread_kind, thread_of, units_bytes}
use Rattle.cat_records.specs.Fits.{FitsThread}
use Rattle.cat_records.specs.declared.record.ThreadRecord.{ThreadRecord}
use Rattle.cat_records.specs.declared.record.CatRecord.{CatRecord}
use Rattle.cat_records.specs.declared.record.CatRecord.TheVariants.{Folder, File, Thread}
use Rattle.cat_records.proofs.UnitLists.{length-units_bytes, units_here}

-- the bits of a signed number of sixteen bits
cast_unsigned-lt : (z : ℤ) → FitsSigned w16 z → cast_unsigned w16 z < 65536
cast_unsigned-lt (pos n) fits = omega (arith, fits.sfits)
cast_unsigned-lt (negsuc n) fits = omega arith

-- what is read of a thread, by its type
record Reads (whole : List ℕ) (kind : ℕ) (thread : ThreadRecord) : Type 0 where
  kind_is : big_at 2 whole 0 ≡ kind
  count_is : big_at 2 whole 8 ≡ length thread.name
  long : length whole ≡ 10 + 2 * length thread.name
  value : thread_of whole ≡ record thread { of_file = nat_eq kind 4 }

reads_thread : (thread : ThreadRecord) (kind : ℕ) → kind < 256 ^ 2 → FitsThread thread → Reads (big 2 kind ++ big 2 (cast_unsigned w16 thread.spare) ++ big 4 thread.parent ++ big 2 (length thread.name) ++ units_bytes thread.name) kind thread
reads_thread thread kind small fits =
    let spare = cast_unsigned w16 thread.spare in
    let count = length thread.name in
    let whole = big 2 kind ++ big 2 spare ++ big 4 thread.parent ++ big 2 count ++ units_bytes thread.name in
    let start : Behind whole (big 2 kind ++ (big 2 spare ++ (big 4 thread.parent ++ (big 2 count ++ (units_bytes thread.name ++ []))))) 0 = record { is = simp (append_assoc, append-nil) } in
    let kind_is : big_at 2 whole 0 ≡ kind = number_here _ 2 kind small start in
    let at_spare = behind_number 2 kind start in
    let spare_is = number_here _ 2 spare (cast_unsigned-lt thread.spare fits.spare) at_spare in
    let at_parent = behind_number 2 spare at_spare in
    let parent_is = number_here _ 4 thread.parent fits.parent at_parent in
    let at_count = behind_number 4 thread.parent at_parent in
    let count_is : big_at 2 whole 8 ≡ count = number_here _ 2 count fits.long at_count in
    let at_name = behind_number 2 count at_count in
    let name_is = units_here whole [] 10 thread.name fits.units at_name in
    record {
      kind_is = kind_is;
      count_is = count_is;
      long = omega (arith, length-append {A = ℕ}, length-number_bytes Big, length-units_bytes thread.name);
      value = rw (kind_is, spare_is, to_z-of_z w16 thread.spare fits.spare, parent_is, count_is, name_is) refl;
    }

-- a type that is neither a folder's nor a file's
as_thread : (whole : List ℕ) (kind : ℕ) → (kind ≡ 3) ⊎ (kind ≡ 4) → big_at 2 whole 0 ≡ kind → catalog_of whole ≡ Thread (thread_of whole)
as_thread whole kind which is =
    let folder = Folder (record { fields = entry_of whole }) in
    let file = File (record { fields = entry_of whole; data_fork = fork_at whole 88; resource_fork = fork_at whole 168 }) in
    let choice : ℕ → CatRecord = λ n. if n == 1 then folder else if n == 2 then file else Thread (thread_of whole) in
    elim which [ inl three ↦ ap choice (is ∙ three) | inr four ↦ ap choice (is ∙ four) ]

back : (whole : List ℕ) (kind : ℕ) (thread : ThreadRecord) → (kind ≡ 3) ⊎ (kind ≡ 4) → nat_eq kind 4 ≡ thread.of_file → Reads whole kind thread → catalog_of whole ≡ Thread thread
back whole kind thread which same reads =
    as_thread whole kind which reads.kind_is
    ∙ ap (λ (t : ThreadRecord). Thread t) (reads.value ∙ ap (λ (b : Bool). record thread { of_file = b }) same)

spells : (whole : List ℕ) (kind : ℕ) (thread : ThreadRecord) → (kind ≡ 3) ⊎ (kind ≡ 4) → Reads whole kind thread → is_catalog whole ≡ true
spells whole kind thread which reads = grind (arith, nat_tests, reads.kind_is, reads.count_is, reads.long, which)

which_kind : (of_file : Bool) → (thread_kind of_file ≡ 3) ⊎ (thread_kind of_file ≡ 4)
which_kind true = inr refl
which_kind false = inl refl

kind_tells : (of_file : Bool) → nat_eq (thread_kind of_file) 4 ≡ of_file
kind_tells true = refl
kind_tells false = refl

kind_fits : (of_file : Bool) → thread_kind of_file < 256 ^ 2
kind_fits true = omega arith
kind_fits false = omega arith

pub thread_back : (thread : ThreadRecord) → FitsThread thread → catalog_of (thread_bytes thread) ≡ Thread thread
thread_back thread fits =
    let kind = thread_kind thread.of_file in
    back (thread_bytes thread) kind thread (which_kind thread.of_file) (kind_tells thread.of_file) (reads_thread thread kind (kind_fits thread.of_file) fits)

pub thread_spells : (thread : ThreadRecord) → FitsThread thread → catalog_fault (thread_bytes thread) ≡ None
thread_spells thread fits =
    let kind = thread_kind thread.of_file in
    rw (spells (thread_bytes thread) kind thread (which_kind thread.of_file) (reads_thread thread kind (kind_fits thread.of_file) fits)) refl
