-- An attribute record that was written is read as it was.
use Rattle.std.proofs.Common.{◌≡◌, ℕ, true, ◌+◌, ◌%◌, ◌^◌, ◌<◌, List, [], ◌++◌, length, take, drop, replicate, None, refl, arith, append_assoc}
use Rattle.std.proofs.lemmas.List.{length-replicate, append-nil, length-append}
use Rattle.std.proofs.lemmas.Bool.Decides.{nat_tests}
use Rattle.hx_bytes.specs.Field.{big, big_at}
use Rattle.hx_bytes.specs.Fork.{extents_bytes, fork_bytes, FitsExtents, FitsFork}
use Rattle.hx_bytes.specs.declared.extents.ExtentRecord.{ExtentRecord}
use Rattle.hx_bytes.specs.declared.extents.ForkRecord.{ForkRecord}
use Rattle.hx_bytes.specs.declared.fields.Order.TheVariants.{Big}
use Rattle.hx_bytes.proofs.Laws.{length-number_bytes}
use Rattle.hx_bytes.proofs.Forks.{length-fork_bytes, length-extents_bytes}
use Rattle.hx_bytes.proofs.Reading.{Behind, behind_number, behind_part, number_here, part_here, fork_here, extents_here}
use Rattle.cat_records.specs.Attributes.{attr_bytes, attr_fault, attr_of, is_attr}
use Rattle.cat_records.specs.declared.attribute.AttrRecord.TheVariants.{Inline, Fork, More}

-- what is known of the bytes of an inline record
record Reads (whole value : List ℕ) : Type 0 where
  kind_is : big_at 4 whole 0 ≡ 16
  size_is : big_at 4 whole 12 ≡ length value
  long : length whole ≡ 16 + length value + length value % 2
  value_is : take (length value) (drop 16 whole) ≡ value

reads_inline : (value : List ℕ) → length value < 2 ^ 32 → Reads (attr_bytes (Inline value)) value
reads_inline value small =
    let whole = attr_bytes (Inline value) in
    let size = length value in
    let pad : List ℕ = replicate (size % 2) 0 in
    let start : Behind whole (big 4 16 ++ (replicate 8 0 ++ (big 4 size ++ (value ++ pad)))) 0 = record { is = simp append_assoc } in
    let at_reserved = behind_number 4 16 start in
    let at_size = behind_part (replicate 8 0) 8 refl at_reserved in
    let at_value = behind_number 4 size at_size in
    record {
      kind_is = number_here _ 4 16 (omega arith) start;
      size_is = number_here _ 4 size small at_size;
      long = omega (arith, length-append {A = ℕ}, length-number_bytes Big, length-replicate {A = ℕ} (size % 2) 0);
      value_is = part_here pad value size refl at_value;
    }

pub inline_back : (value : List ℕ) → length value < 2 ^ 32 → attr_of (attr_bytes (Inline value)) ≡ Inline value
inline_back value small =
    let reads = reads_inline value small in
    let kind = reads.kind_is in
    let size = reads.size_is in
    let found = reads.value_is in
    rw (kind, size, found) refl

inline_is : (whole value : List ℕ) → Reads whole value → is_attr whole ≡ true
inline_is whole value reads = grind (arith, nat_tests, reads.kind_is, reads.size_is, reads.long)

pub inline_spells : (value : List ℕ) → length value < 2 ^ 32 → attr_fault (attr_bytes (Inline value)) ≡ None
inline_spells value small = rw (inline_is (attr_bytes (Inline value)) value (reads_inline value small)) refl

pub fork_back : (fork : ForkRecord) → FitsFork fork → attr_of (attr_bytes (Fork fork)) ≡ Fork fork
fork_back fork fits =
    let whole = attr_bytes (Fork fork) in
    let start : Behind whole (big 4 32 ++ (replicate 4 0 ++ (fork_bytes fork ++ []))) 0 = record { is = simp (append_assoc, append-nil) } in
    let kind : big_at 4 whole 0 ≡ 32 = number_here _ 4 32 (omega arith) start in
    let at_fork = behind_part (replicate 4 0) 4 refl (behind_number 4 32 start) in
    let found = fork_here whole [] 8 fork fits at_fork in
    rw (kind, found) refl

pub fork_spells : (fork : ForkRecord) → FitsFork fork → attr_fault (attr_bytes (Fork fork)) ≡ None
fork_spells fork fits =
    let whole = attr_bytes (Fork fork) in
    let start : Behind whole (big 4 32 ++ (replicate 4 0 ++ (fork_bytes fork ++ []))) 0 = record { is = simp (append_assoc, append-nil) } in
    let kind : big_at 4 whole 0 ≡ 32 = number_here _ 4 32 (omega arith) start in
    let long : length whole ≡ 88 = omega (arith, length-append {A = ℕ}, length-number_bytes Big 4 32, length-fork_bytes fork (length-extents_bytes fork.extents fits.extents.eight)) in
    rw (long, kind) refl

pub more_back : (extents : ExtentRecord) → FitsExtents extents → attr_of (attr_bytes (More extents)) ≡ More extents
more_back extents fits =
    let whole = attr_bytes (More extents) in
    let start : Behind whole (big 4 48 ++ (replicate 4 0 ++ (extents_bytes extents ++ []))) 0 = record { is = simp (append_assoc, append-nil) } in
    let kind : big_at 4 whole 0 ≡ 48 = number_here _ 4 48 (omega arith) start in
    let at_extents = behind_part (replicate 4 0) 4 refl (behind_number 4 48 start) in
    let found = extents_here whole [] 8 extents fits at_extents in
    rw (kind, found) refl

pub more_spells : (extents : ExtentRecord) → FitsExtents extents → attr_fault (attr_bytes (More extents)) ≡ None
more_spells extents fits =
    let whole = attr_bytes (More extents) in
    let start : Behind whole (big 4 48 ++ (replicate 4 0 ++ (extents_bytes extents ++ []))) 0 = record { is = simp (append_assoc, append-nil) } in
    let kind : big_at 4 whole 0 ≡ 48 = number_here _ 4 48 (omega arith) start in
    let long : length whole ≡ 72 = omega (arith, length-append {A = ℕ}, length-number_bytes Big 4 48, length-extents_bytes extents fits.eight) in
    rw (long, kind) refl
