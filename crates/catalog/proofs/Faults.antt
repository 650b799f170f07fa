-- Bytes that are a record have no fault.
use Rattle.std.proofs.Common.{◌≡◌, ℕ, Bool, List, length, refl, sym, ◌∙◌, ap, subst}
use Rattle.std.specs.Prelude.{IsTrue, Option, None, Some, if◌then◌else◌, Result, Ok, Err, ◌≢◌, ◌↔◌, true, false}
use Rattle.cat_records.specs.declared.record.CatRecord.{CatRecord}
use Rattle.cat_records.specs.declared.fault.RecordFault.TheVariants.{Memory}
use Rattle.cat_records.specs.Records.{is_catalog, bad_record, catalog_kind, catalog_fault}
use Rattle.cat_records.specs.declared.fault.RecordFault.{RecordFault}

abbrev fault_where : List ℕ → Bool → Option RecordFault
fault_where value b = if b then None else Some (bad_record (catalog_kind value) (length value))

abbrev is_some_fault : Option RecordFault → Type 0
is_some_fault None = ⊥
is_some_fault (Some why) = Unit {0}

pub no_fault_there : (value : List ℕ) (fault : RecordFault) → IsTrue (is_catalog value) → catalog_fault value ≡ Some fault → ⊥
no_fault_there value fault spelled found = subst is_some_fault (sym found ∙ ap (fault_where value) spelled) tt

-- bytes that were read are a record
pub read_is_record : (value : List ℕ) (result : Result CatRecord RecordFault) (rec : CatRecord) → result ≡ Ok rec
    → ((fault : RecordFault) → fault ≢ Memory → (result ≡ Err fault) ↔ (catalog_fault value ≡ Some fault)) → is_catalog value ≡ true
read_is_record value result rec read refused = by_test (is_catalog value) refl
  where
    different : bad_record (catalog_kind value) (length value) ≡ Memory → ⊥
    different same = cc

    clash : Ok rec ≡ Err (bad_record (catalog_kind value) (length value)) → ⊥
    clash same = cc

    by_test : (is : Bool) → is_catalog value ≡ is → is_catalog value ≡ true
    by_test true is = is
    by_test false is = absurd (clash (sym read ∙ (refused (bad_record (catalog_kind value) (length value)) different).1 (ap (fault_where value) is)))
