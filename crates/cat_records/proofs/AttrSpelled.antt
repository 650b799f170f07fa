-- An attribute record in bytes is spelled as the bytes, but for reserved words and the pad.
use Rattle.std.proofs.Common.{◌≡◌, nat_eq, ℕ, true, ◌+◌, ◌%◌, ◌≤◌, inl, inr, List, ◌++◌, length, take, drop, replicate, None, refl, sym, ◌∙◌, ap, arith, append_assoc, take-add, length-drop}
use Rattle.std.proofs.lemmas.List.{length-replicate, length-append, length-take, drop-drop, take_all}
use Rattle.std.proofs.lemmas.Bool.{cases_eq}
use Rattle.std.proofs.lemmas.Bool.Decides.{nat_tests}
use Rattle.std.proofs.Math.Seq.{take-append-add}
use Rattle.std.specs.Prelude.{if◌then◌else◌}
use Rattle.hx_bytes.specs.Field.{big, big_at, put_at, AreBytes}
use Rattle.hx_bytes.specs.Fork.{extents_at, extents_bytes, fork_at, fork_bytes}
use Rattle.hx_bytes.specs.declared.fields.Order.TheVariants.{Big}
use Rattle.hx_bytes.proofs.Laws.{length-put_at, number_bytes-number_at_4}
use Rattle.hx_bytes.proofs.Putting.{put_at-end}
use Rattle.hx_bytes.proofs.Spelling.{spelled_extents, spelled_fork}
use Rattle.cat_records.specs.Attributes.{attr_bytes, attr_fault, attr_of, is_attr, without_reserved}
use Rattle.cat_records.specs.declared.attribute.AttrRecord.{AttrRecord}
use Rattle.cat_records.specs.declared.attribute.AttrRecord.TheVariants.{Inline, Fork, More}

-- the type, as it is spelled
first : (bytes : List ℕ) (kind : ℕ) → 4 ≤ length bytes → AreBytes bytes → big_at 4 bytes 0 ≡ kind → big 4 kind ≡ take 4 bytes
first bytes kind long are is = ap (λ (n : ℕ). big 4 n) (sym is) ∙ number_bytes-number_at_4 Big bytes 0 long are

-- a type, a reserved word, and a part that reaches to the end
with_reserved : (bytes part : List ℕ) (kind n : ℕ) → AreBytes bytes → length bytes ≡ 8 + n → big_at 4 bytes 0 ≡ kind → part ≡ take n (drop 8 bytes) → big 4 kind ++ replicate 4 0 ++ part ≡ put_at bytes 4 (replicate 4 0)
with_reserved bytes part kind n are long is spelled =
    ap (λ (l : List ℕ). l ++ replicate 4 0 ++ part) (first bytes kind (omega arith) are is)
    ∙ ap (λ (l : List ℕ). take 4 bytes ++ replicate 4 0 ++ l) (spelled ∙ take_all n (drop 8 bytes) (omega (arith, length-drop 8 bytes)))

-- an inline record
inline_spelled : (bytes : List ℕ) (size : ℕ) → AreBytes bytes → big_at 4 bytes 0 ≡ 16 → big_at 4 bytes 12 ≡ size → length bytes ≡ 16 + size + size % 2 → big 4 16 ++ replicate 8 0 ++ big 4 size ++ take size (drop 16 bytes) ++ replicate (size % 2) 0 ≡ put_at (put_at bytes 4 (replicate 8 0)) (16 + size) (replicate (size % 2) 0)
inline_spelled bytes size are kind_is size_is long =
    let pad : List ℕ = replicate (size % 2) 0 in
    let cleared = put_at bytes 4 (replicate 8 0) in
    let front : List ℕ = take 4 bytes ++ replicate 8 0 in
    let number : big 4 size ≡ take 4 (drop 12 bytes) = ap (λ (n : ℕ). big 4 n) (sym size_is) ∙ number_bytes-number_at_4 Big bytes 12 (omega arith) are in
    let behind : take size (drop 16 bytes) ≡ take size (drop 4 (drop 12 bytes)) = ap (λ (l : List ℕ). take size l) (sym (drop-drop 4 12 bytes)) in
    let both : big 4 size ++ take size (drop 16 bytes) ≡ take (4 + size) (drop 12 bytes) = ap (λ (l : List ℕ). l ++ take size (drop 16 bytes)) number ∙ ap (λ (l : List ℕ). take 4 (drop 12 bytes) ++ l) behind ∙ sym (take-add 4 size (drop 12 bytes)) in
    let twelve : length front ≡ 12 = omega (arith, length-append (take 4 bytes) (replicate 8 0), length-take 4 bytes) in
    let kept : take (16 + size) cleared ≡ front ++ take (4 + size) (drop 12 bytes) =
    ap (λ (n : ℕ). take n cleared) (omega (arith, twelve)) ∙ take-append-add front (drop 12 bytes) (4 + size) in
    let full : length cleared ≡ length bytes = length-put_at bytes (replicate 8 0) 4 (omega arith) in
    ap (λ (l : List ℕ). l ++ replicate 8 0 ++ big 4 size ++ take size (drop 16 bytes) ++ pad) (first bytes 16 (omega arith) are kind_is)
    ∙ ap (λ (l : List ℕ). l ++ pad) (append_assoc front (big 4 size) (take size (drop 16 bytes)) ∙ ap (λ (l : List ℕ). front ++ l) both ∙ sym kept)
    ∙ sym (put_at-end cleared pad (16 + size) (omega (arith, full, length-replicate {A = ℕ} (size % 2) 0)))

-- what a record's type and length are
inline_long : (bytes : List ℕ) → is_attr bytes ≡ true → big_at 4 bytes 0 ≡ 16 → length bytes ≡ 16 + big_at 4 bytes 12 + big_at 4 bytes 12 % 2
inline_long bytes is kind = grind (arith, nat_tests)

fork_long : (bytes : List ℕ) → is_attr bytes ≡ true → big_at 4 bytes 0 ≡ 32 → length bytes ≡ 88
fork_long bytes is kind = grind (arith, nat_tests)

more_which : (bytes : List ℕ) → is_attr bytes ≡ true → (big_at 4 bytes 0 ≡ 16 → ⊥) → (big_at 4 bytes 0 ≡ 32 → ⊥) → big_at 4 bytes 0 ≡ 48
more_which bytes is inline fork = grind (arith, nat_tests)

more_long : (bytes : List ℕ) → is_attr bytes ≡ true → big_at 4 bytes 0 ≡ 48 → length bytes ≡ 72
more_long bytes is kind = grind (arith, nat_tests)

-- the record that bytes of a type are read as, and its bytes
abbrev choice : List ℕ → ℕ → AttrRecord
choice bytes kind =
    if nat_eq kind 16 then Inline (take (big_at 4 bytes 12) (drop 16 bytes))
    else if nat_eq kind 32 then Fork (fork_at bytes 8)
    else More (extents_at bytes 8)

abbrev cleared : List ℕ → ℕ → List ℕ
cleared bytes kind =
    if nat_eq kind 16 then put_at (put_at bytes 4 (replicate 8 0)) (16 + big_at 4 bytes 12) (replicate (big_at 4 bytes 12 % 2) 0)
    else put_at bytes 4 (replicate 4 0)

inline_whole : (bytes : List ℕ) → AreBytes bytes → is_attr bytes ≡ true → big_at 4 bytes 0 ≡ 16 → attr_bytes (Inline (take (big_at 4 bytes 12) (drop 16 bytes))) ≡ cleared bytes 16
inline_whole bytes are is kind =
    let size = big_at 4 bytes 12 in
    let long = inline_long bytes is kind in
    let sized : length (take size (drop 16 bytes)) ≡ size = omega (arith, length-take size (drop 16 bytes), length-drop 16 bytes, long) in
    ap (λ (n : ℕ). big 4 16 ++ replicate 8 0 ++ big 4 n ++ take size (drop 16 bytes) ++ replicate (n % 2) 0) sized
    ∙ inline_spelled bytes size are kind refl long

pub attr_spelled : (bytes : List ℕ) → AreBytes bytes → is_attr bytes ≡ true → attr_bytes (attr_of bytes) ≡ without_reserved bytes
attr_spelled bytes are is =
    elim (cases_eq (big_at 4 bytes 0) 16) [
      | inl inline ↦ ap (λ (n : ℕ). attr_bytes (choice bytes n)) inline ∙ inline_whole bytes are is inline ∙ ap (λ (n : ℕ). cleared bytes n) (sym inline)
      | inr not_inline ↦ elim (cases_eq (big_at 4 bytes 0) 32) [
        | inl fork ↦
            ap (λ (n : ℕ). attr_bytes (choice bytes n)) fork
            ∙ with_reserved bytes (fork_bytes (fork_at bytes 8)) 32 80 are (fork_long bytes is fork) fork (spelled_fork bytes 8 are (omega (arith, fork_long bytes is fork)))
            ∙ ap (λ (n : ℕ). cleared bytes n) (sym fork)
        | inr not_fork ↦ let more = more_which bytes is not_inline not_fork in
            ap (λ (n : ℕ). attr_bytes (choice bytes n)) more
            ∙ with_reserved bytes (extents_bytes (extents_at bytes 8)) 48 64 are (more_long bytes is more) more (spelled_extents bytes 8 are (omega (arith, more_long bytes is more)))
            ∙ ap (λ (n : ℕ). cleared bytes n) (sym more)
      ]
    ]

-- bytes without a fault are a record
pub no_fault : (bytes : List ℕ) → attr_fault bytes ≡ None → is_attr bytes ≡ true
no_fault bytes none = grind (arith, nat_tests)

-- the record that bytes are read as is spelled as the bytes, without what is reserved
pub found_spelled : (value : List ℕ) (found : AttrRecord) → AreBytes value → is_attr value ≡ true → found ≡ attr_of value → attr_bytes found ≡ without_reserved value
found_spelled value found are is same = ap attr_bytes same ∙ attr_spelled value are is
