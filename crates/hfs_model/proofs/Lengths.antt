-- How long a thread's record is.
use Rattle.std.proofs.Common.{◌≡◌, ℕ, ◌+◌, ◌*◌, Bool, List, [], ◌∷◌, length, refl, arith}
use Rattle.std.proofs.lemmas.List.{length-append}
use Rattle.hx_bytes.specs.Field.{big}
use Rattle.hx_bytes.specs.declared.fields.Order.TheVariants.{Big}
use Rattle.hx_bytes.proofs.Laws.{length-number_bytes}
use Rattle.cat_records.specs.Records.{units_bytes}
use Rattle.cat_records.specs.Keys.{catalog_key_bytes}
use Rattle.hfs_model.specs.Fresh.{catalog_item, new_thread}

pub length-units_bytes : (units : List ℕ) → length (units_bytes units) ≡ 2 * length units
length-units_bytes [] = refl
length-units_bytes (unit ∷ units) = omega (arith, length-append (big 2 unit) (units_bytes units), length-number_bytes Big 2 unit, length-units_bytes units)

length-key : (parent : ℕ) (name : List ℕ) → length (catalog_key_bytes parent name) ≡ 8 + 2 * length name
length-key parent name = simp (length-append, length-number_bytes Big, length-units_bytes) (omega arith)

pub length-thread : (id parent : ℕ) (name : List ℕ) (of_file : Bool) → length (catalog_item id [] (new_thread of_file parent name)) ≡ 18 + 2 * length name
length-thread id parent name of_file = simp (length-append, length-number_bytes Big, length-key, length-units_bytes) (omega arith)
