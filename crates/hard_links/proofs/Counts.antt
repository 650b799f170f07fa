-- A shared file's record with another number of links.
use Rattle.std.proofs.Common.{◌≡◌, ℕ, Bool, true, false, List, refl, sym, ◌∙◌, ap, subst}
use Rattle.std.specs.Prelude.{IsTrue, Option, None, Some}
use Rattle.std.specs.Option.{option_map}
use Rattle.std.proofs.lemmas.Bool.{true≢false}
use Rattle.btree_node.specs.Levels.{Pair}
use Rattle.btree_edit.specs.declared.edits.Removed.{Removed}
use Rattle.btree_edit.specs.declared.edits.Removed.TheVariants as removed
use Rattle.cat_records.specs.declared.record.CatRecord.{CatRecord}
use Rattle.cat_records.specs.declared.record.CatRecord.TheVariants.{Folder, File, Thread}
use Rattle.cat_records.specs.declared.record.FileRecord.{FileRecord}
use Rattle.catalog.specs.Entries.{AnswersRemoval, Updating, UpdatesEntry, IsOfKind}
use Rattle.catalog.specs.Pairs.{value_at}
use Rattle.catalog.proofs.Moves.{some_value_some_record}
use Rattle.hfs_volume.specs.Changes.{ChangesValue, Stands, Spells}
use Rattle.hfs_volume.specs.Records.{Placed, placed_in, record_at, is_link_type}
use Rattle.hard_links.specs.Linking.{CountsLinks, with_links, with_special}

-- the record of an entry that was found under a name with this value
pub value_of_found : (found : Option Placed) (entry : Placed) (value : CatRecord) → found ≡ Some entry → option_map (λ (placed : Placed). placed.value) found ≡ Some value → entry.value ≡ value
value_of_found found entry value is has = some_same (sym (ap (option_map (λ (placed : Placed). placed.value)) is) ∙ has)
  where
    value_or : Option CatRecord → CatRecord
    value_or None = entry.value
    value_or (Some v) = v

    some_same : Some entry.value ≡ Some value → entry.value ≡ value
    some_same same = ap value_or same

pub same_kind : (pairs : List Pair) (private : ℕ) (name : List ℕ) (links : ℕ) (file : FileRecord) (rec : CatRecord) (entry : Placed) → rec ≡ File (with_special links file) → value_at pairs private name ≡ Some (File file)
    → record_at (placed_in pairs) private name ≡ Some entry → IsOfKind rec entry.value
same_kind pairs private name links file rec entry rec_is value found =
    let value_is = value_of_found (record_at (placed_in pairs) private name) entry (File file) found value in
    subst (λ v. IsOfKind rec v) (sym value_is) (subst (λ r. IsOfKind r (File file)) (sym rec_is) (record { folder = refl; file = refl; id = refl }))

abbrev placed_with : Placed → CatRecord → Placed
placed_with entry value = record { parent = entry.parent; name = entry.name; value = value }

changed : (private : ℕ) (name : List ℕ) (links : ℕ) (file : FileRecord) (old new : List Pair) → is_link_type file.fields ≡ false → (updates : UpdatesEntry private name (File (with_special links file)) old new) → updates.entry.value ≡ File file
    → CountsLinks private name links old new
changed private name links file old new plain updates value_is =
    record {
      file = updates.entry;
      found = updates.found;
      changes = subst (λ v. ChangesValue (placed_with updates.entry v) (with_links links v) old new) (sym value_is) of_file;
    }
  where
    of_file : ChangesValue (placed_with updates.entry (File file)) (with_links links (File file)) old new
    of_file = record {
      pair = updates.pair;
      is_entry = subst (λ v. Stands (placed_with updates.entry v) updates.pair) value_is updates.is_entry.stands;
      other = updates.other;
      is_other = updates.is_other;
      swapped = updates.swapped;
      alike = record { place = (refl, refl); kind = (refl, refl); id = refl; link = refl; reference = λ is. absurd (true≢false (sym is ∙ plain)) };
      forks = refl;
    }

pub counts_of : (private : ℕ) (name : List ℕ) (links : ℕ) (file : FileRecord) (rec : CatRecord) (old new : List Pair) (answer : Removed) → is_link_type file.fields ≡ false → rec ≡ File (with_special links file)
    → value_at old private name ≡ Some (File file) → AnswersRemoval (record_at (placed_in old) private name) answer → Updating private name rec old new answer → CountsLinks private name links old new
counts_of private name links file rec old new removed.Absent plain rec_is value answers does =
    absurd (some_value_some_record (record_at (placed_in old) private name) (File file) (λ (placed : Placed). placed.value) value answers)
counts_of private name links file rec old new removed.Done plain rec_is value answers does =
    let updates : UpdatesEntry private name (File (with_special links file)) old new = subst (λ r. UpdatesEntry private name r old new) rec_is does in
    changed private name links file old new plain updates (value_of_found (record_at (placed_in old) private name) updates.entry (File file) updates.found value)
