-- What a change of one record, or a move, leaves of the other entries: they stand, threads match, and the private folder is the same.
use Rattle.std.proofs.Common.{◌≡◌, ◌≤◌, ℕ, ◌+◌, false, List, refl, sym, ◌∙◌, ap, subst, arith, ⊎_elim}
use Rattle.std.specs.Prelude.{Contains, IsTrue}
use Rattle.btree_node.specs.Levels.{Pair}
use Rattle.cat_records.specs.Records.{is_catalog}
use Rattle.cat_records.specs.declared.record.CatRecord.{CatRecord}
use Rattle.cat_records.specs.declared.record.CatRecord.TheVariants.{Folder, File, Thread}
use Rattle.cat_records.specs.declared.record.EntryFields.{EntryFields}
use Rattle.hfs_volume.specs.Changes.{ChangesValue}
use Rattle.hfs_volume.specs.Commands.{ChangesFields, HasFields, with_fields}
use Rattle.hfs_volume.specs.Content.{VolumeState, TreeFacts, records_of}
use Rattle.hfs_volume.specs.Entries.{AreThreaded}
use Rattle.hfs_volume.specs.Links.{private_id}
use Rattle.hfs_volume.specs.Records.{Placed, placed_in, entries_of, id_of, is_empty, is_folder, is_thread, valence_in}
use Rattle.hfs_volume.proofs.Fields.{not_thread}
use Rattle.hfs_volume.proofs.Keeping.{entry_still, it_there, split_there, swapped, threads_still}
use Rattle.hfs_volume.proofs.Making.{placed_splits}
use Rattle.hfs_volume.proofs.Members.{each_of}
use Rattle.hfs_volume.proofs.Swapping.{Splits, private_same, splits}

-- A folder or file is still there: with its CNID, of its kind, and counting no more than so many entries more.
pub record Carries (more : ℕ) (y z : Placed) : Type 0 where
  pub id : id_of z ≡ id_of y
  pub folder : is_folder z.value ≡ is_folder y.value
  pub count : valence_in z.value ≤ valence_in y.value + more

abbrev pub AreCarried : ℕ → List Pair → List Pair → Type 0
AreCarried more old new = (y : Placed) → Contains (entries_of (placed_in old)) y → (z : Placed) × Contains (entries_of (placed_in new)) z × Carries more y z

count_step : (more : ℕ) (value : CatRecord) (before after : EntryFields) → HasFields value before → after.count ≤ before.count + more → valence_in (with_fields (λ _. after) value) ≤ valence_in value + more
count_step more (Folder folder) before after has low = omega (arith, low, ap (λ (f : EntryFields). f.count) has)
count_step more (File file) before after has low = omega arith
count_step more (Thread thread) before after has low = absurd has

module _ {Changes : EntryFields → EntryFields → Type 0} (id : ℕ) (old new : VolumeState) (does : ChangesFields id Changes old new) (threads : AreThreaded old.catalog_pairs) where
  abbrev entry : Placed
  entry = does.entry

  abbrev value : CatRecord
  value = with_fields (λ _. does.after) does.entry.value

  abbrev change : ChangesValue does.entry value old.catalog_pairs new.catalog_pairs
  change = does.changes.changes

  abbrev parts : Splits does.entry (record does.entry { value = value }) (records_of old) (records_of new)
  parts = placed_splits does.entry value old.catalog_pairs new.catalog_pairs does.changes.changes

  named : is_empty does.entry.name ≡ false
  named =
      sym (each_of (λ (p : Placed). is_thread p.value ≡ is_empty p.name) (records_of old) threads.kinds does.entry (subst (λ l. Contains l does.entry) (sym parts.was) (split_there does.entry parts.front parts.back)))
      ∙ not_thread does.entry.value does.before does.has

  spelled_new : (pair : Pair) → Contains new.catalog_pairs pair → IsTrue (is_catalog pair.1)
  spelled_new pair stands =
      let places = splits change.pair change.other old.catalog_pairs new.catalog_pairs change.swapped in
      ⊎_elim
      (λ same. subst (λ (p : Pair). IsTrue (is_catalog p.1)) (sym same) change.is_other.spelled)
      (λ there. each_of (λ (p : Pair). IsTrue (is_catalog p.1)) old.catalog_pairs threads.spelled pair (subst (λ l. Contains l pair) (sym places.was) there))
      (swapped change.other change.pair places.front places.back pair (subst (λ l. Contains l pair) places.is stands))

  pub threads_changed : AreThreaded new.catalog_pairs
  threads_changed = threads_still does.entry value parts.front parts.back named change.alike old.catalog_pairs new.catalog_pairs parts.was parts.is spelled_new threads

  pub fields_carry : (more : ℕ) → does.after.count ≤ does.before.count + more → AreCarried more old.catalog_pairs new.catalog_pairs
  fields_carry more low y stands = ⊎_elim
      (λ same. (
        record does.entry { value = value },
        subst (λ l. Contains (entries_of l) (record does.entry { value = value })) (sym parts.is) (it_there does.entry value parts.front parts.back named change.alike),
        record {
          id = change.alike.id ∙ sym (ap id_of same);
          folder = change.alike.kind.0 ∙ sym (ap (λ (p : Placed). is_folder p.value) same);
          count = omega (arith, count_step more does.entry.value does.before does.after does.has low, ap (λ (p : Placed). valence_in p.value) same);
        },
      ))
      (λ there. (y, subst (λ l. Contains (entries_of l) y) (sym parts.is) there, record { id = refl; folder = refl; count = omega arith }))
      (entry_still does.entry value parts.front parts.back named change.alike y (subst (λ l. Contains (entries_of l) y) parts.was stands))

  -- another entry stays
  pub fields_stay : (y : Placed) → Contains (entries_of (placed_in old.catalog_pairs)) y → (y ≡ does.entry → ⊥) → Contains (entries_of (placed_in new.catalog_pairs)) y
  fields_stay y stands other = ⊎_elim
      (λ same. absurd (other same))
      (λ there. subst (λ l. Contains (entries_of l) y) (sym parts.is) there)
      (entry_still does.entry value parts.front parts.back named change.alike y (subst (λ l. Contains (entries_of l) y) parts.was stands))

  pub fields_private : private_id (records_of new) ≡ private_id (records_of old)
  fields_private = ap private_id parts.is ∙ private_same does.entry value parts.front parts.back named change.alike ∙ sym (ap private_id parts.was)

-- the same change, where the numbers of the attributes' tree are others in both
pub then_fields : {Changes : EntryFields → EntryFields → Type 0} (other : TreeFacts) (id : ℕ) (old new : VolumeState) → ChangesFields id Changes old new
    → ChangesFields id Changes (record old { attributes_tree = other }) (record new { attributes_tree = other })
then_fields other id old new does = record {
  entry = does.entry;
  before = does.before;
  after = does.after;
  has = does.has;
  is_entry = does.is_entry;
  fields = does.fields;
  changes = record { changes = does.changes.changes; nodes = does.changes.nodes; rest = λ i. record (does.changes.rest i) { attributes_tree = other } };
}

pub both_carry : (few many : ℕ) (x y z : List Pair) → AreCarried few x y → AreCarried many y z → AreCarried (few + many) x z
both_carry few many x y z one two p stands =
    let first = one p stands in
    let second = two first.0 first.1 in
    (second.0, second.1, record { id = second.2.id ∙ first.2.id; folder = second.2.folder ∙ first.2.folder; count = omega (arith, first.2.count, second.2.count) })
