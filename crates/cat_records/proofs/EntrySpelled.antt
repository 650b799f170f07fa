-- The fields of an entry are spelled as they stood.
use Rattle.std.proofs.Common.{◌≡◌, ℕ, ◌≤◌, List, length, take, drop, refl, arith, append_assoc}
use Rattle.hx_bytes.specs.Field.{AreBytes}
use Rattle.hx_bytes.specs.declared.fields.Order.TheVariants.{Big}
use Rattle.hx_bytes.proofs.Laws.{number_bytes-number_at_2}
use Rattle.hx_bytes.proofs.Spelling.{spelled_first, spelled_2, spelled_4, spelled_byte, spelled_part}
use Rattle.cat_records.specs.Records.{entry_bytes, entry_of}

pub spelled_entry : (bytes : List ℕ) → 88 ≤ length bytes → AreBytes bytes → entry_bytes (entry_of bytes) ≡ take 86 (drop 2 bytes)
unfolding entry_bytes entry_of
spelled_entry bytes long are =
    let flags = spelled_first bytes _ 2 2 (number_bytes-number_at_2 Big bytes 2 (omega arith) are) in
    let count = spelled_4 are (omega arith) flags in
    let id = spelled_4 are (omega arith) count in
    let created = spelled_4 are (omega arith) id in
    let changed = spelled_4 are (omega arith) created in
    let attribute = spelled_4 are (omega arith) changed in
    let accessed = spelled_4 are (omega arith) attribute in
    let backup = spelled_4 are (omega arith) accessed in
    let owner = spelled_4 are (omega arith) backup in
    let group = spelled_4 are (omega arith) owner in
    let admin_flags = spelled_byte (omega arith) group in
    let owner_flags = spelled_byte (omega arith) admin_flags in
    let mode = spelled_2 are (omega arith) owner_flags in
    let special = spelled_4 are (omega arith) mode in
    let finder = spelled_part (take 32 (drop 48 bytes)) 32 special refl in
    let encoding = spelled_4 are (omega arith) finder in
    let rest = spelled_4 are (omega arith) encoding in
    simp append_assoc (simp append_assoc at rest.is)
