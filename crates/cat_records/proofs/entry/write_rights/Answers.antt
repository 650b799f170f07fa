use Rattle.std.proofs.Common.{ℕ, [], ◌∷◌, ◌++◌, arith, append_assoc}
use Rattle.std.proofs.lemmas.List.{length-set}
use Rattle.hx_bytes.specs.Field.{big}
use Rattle.hx_bytes.proofs.Writing.{written_none, written_number, written_byte, written_as}
use Rattle.cat_records.proofs.entry.write_rights.Goals as goal

pub returns : goal.returns
returns c =
    let fields = c.args.fields.now in
    let none = written_none c.args.into.now 32 (omega arith) in
    let owner = written_number _ 4 fields.owner none c.write_be32.ensures in
    let group = written_number _ 4 fields.group owner c.write_be32-2.ensures in
    let admin_flags = written_byte fields.admin_flags group (omega arith) in
    let owner_flags = written_as (big 4 fields.owner ++ big 4 fields.group ++ (fields.admin_flags ∷ fields.owner_flags ∷ [])) (written_byte fields.owner_flags admin_flags (omega (arith, length-set {A = ℕ}))) (append_assoc (big 4 fields.owner ++ big 4 fields.group) (fields.admin_flags ∷ []) (fields.owner_flags ∷ [])) in
    let mode = written_number _ 2 fields.mode owner_flags c.write_be16.ensures in
    let special = written_number _ 4 fields.special mode c.write_be32-3.ensures in
    record { written = special.is; whole = special.front_length }
