-- Bytes that spell a record, and bytes that spell none.
use Rattle.std.proofs.Common.{◌≡◌, ℕ, Bool, true, false, List, [], length, refl, sym, ◌∙◌, ap, subst}
use Rattle.std.specs.Prelude.{◌≢◌, ◌↔◌, Option, None, Some, Result, Ok, Err, if◌then◌else◌}
use Rattle.cat_records.specs.Attributes.{is_attr, attr_fault, attr_kind, attr_of}
use Rattle.cat_records.specs.Records.{bad_record}
use Rattle.cat_records.specs.declared.fault.RecordFault.{RecordFault}
use Rattle.cat_records.specs.declared.fault.RecordFault.TheVariants.{Memory}
use Rattle.cat_records.specs.declared.attribute.AttrRecord.{AttrRecord}
use Rattle.cat_records.specs.declared.attribute.AttrRecord.TheVariants.{Inline}
use Rattle.hfs_volume.specs.Records.{spelled_value}

abbrev fault_where : List ℕ → Bool → Option RecordFault
fault_where value b = if b then None else Some (bad_record (attr_kind value) (length value))

abbrev is_some_fault : Option RecordFault → Type 0
is_some_fault None = ⊥
is_some_fault (Some why) = Unit {0}

-- a record that was read is the one that the bytes spell
pub is_spelled : (value : List ℕ) (found : AttrRecord) (result : Result AttrRecord RecordFault) → result ≡ Ok found → ((fault : RecordFault) → fault ≢ Memory → (result ≡ Err fault) ↔ (attr_fault value ≡ Some fault))
    → found ≡ attr_of value → found ≡ spelled_value value
is_spelled value found result ok refused read = by_test (is_attr value) refl
  where
    by_test : (b : Bool) → is_attr value ≡ b → found ≡ spelled_value value
    by_test true is = read ∙ sym (ap (λ (b : Bool). if b then attr_of value else Inline []) is)
    by_test false is =
        let fault = bad_record (attr_kind value) (length value) in
        let different : fault ≢ Memory = λ same. cc in
        let failed : result ≡ Err fault = (refused fault different).1 (ap (fault_where value) is) in
        let both : Ok found ≡ Err fault = sym ok ∙ failed in
        cc

-- bytes with a fault spell none
pub no_record : (value : List ℕ) (fault : RecordFault) (none : List ℕ) → none ≡ [] → attr_fault value ≡ Some fault → Inline none ≡ spelled_value value
no_record value fault none is found = by_test (is_attr value) refl
  where
    by_test : (b : Bool) → is_attr value ≡ b → Inline none ≡ spelled_value value
    by_test true spelled = absurd (subst is_some_fault (sym found ∙ ap (fault_where value) spelled) tt)
    by_test false bad = ap Inline is ∙ sym (ap (λ (b : Bool). if b then attr_of value else Inline []) bad)
