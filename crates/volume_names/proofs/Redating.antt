-- A folder or file that was dated, with its record in the place of the old one.
use Rattle.std.proofs.Common.{◌≡◌, ℕ, false, refl, sym, ◌∙◌, ap, subst}
use Rattle.std.specs.Prelude.{Contains, IsTrue, Option, None, Some}
use Rattle.std.specs.Option.{option_map}
use Rattle.std.proofs.lemmas.Bool.{true≢false}
use Rattle.sector_disk.specs.Lists.{Content}
use Rattle.sector_disk.specs.Space.{Space}
use Rattle.jnl_format.specs.Recovery.{header_of_volume}
use Rattle.volume_header.specs.declared.header.VolumeHeader.{VolumeHeader}
use Rattle.btree_node.specs.Keys.{IsCatalogKey, catalog_cmp}
use Rattle.btree_node.specs.Levels.{Pair}
use Rattle.btree_node.specs.TreeFile.{store_of}
use Rattle.btree_file.specs.Held.{file_in}
use Rattle.btree_file.specs.State.{sectors_of_tree}
use Rattle.cat_records.specs.declared.record.CatRecord.{CatRecord}
use Rattle.cat_records.specs.declared.record.CatRecord.TheVariants.{Folder, File, Thread}
use Rattle.catalog.specs.Pairs.{value_at}
use Rattle.hfs_volume.specs.Changes.{AreSorted}
use Rattle.hfs_volume.specs.Commands.{ChangesFields, IsMarkedAlone}
use Rattle.hfs_volume.specs.Content.{VolumeState}
use Rattle.hfs_volume.specs.Entries.{AreThreaded}
use Rattle.hfs_volume.specs.Records.{Placed, placed_in, id_in, is_empty, is_thread}
use Rattle.hfs_volume.proofs.Ascending.{tree_sorted}
use Rattle.hfs_volume.proofs.Members.{each_of}
use Rattle.hfs_volume.proofs.Sides.{entry_is_record, entry_is_named}
use Rattle.volume_names.specs.Changing.{DatesEntry, HasEntry}
use Rattle.volume_base.specs.Changing.{ReplacesRecord}
use Rattle.volume_names.specs.Entering.{dated}
use Rattle.volume_base.specs.Entering.{entry_by_id}
use Rattle.volume_base.specs.Lists.{lists_of, facts_on}
use Rattle.volume_base.specs.Looking.{ReadsVolume}
use Rattle.volume_base.specs.Standing.{HoldsTrees}
use Rattle.volume_base.specs.declared.entries.Entry.{Entry}
use Rattle.volume_base.specs.declared.volume.Volume.{Volume}
use Rattle.volume_base.proofs.Entered.{keys_are, short_names, at_place, entry_is}
use Rattle.volume_base.proofs.FoundEntry.{IsThere}
use Rattle.volume_base.proofs.ListsAfter.{changes_both}
use Rattle.volume_base.proofs.Recounting.{read_changes}
use Rattle.volume_base.proofs.Refielded.{FieldsChange, changes_fields, refielded}
use Rattle.volume_base.proofs.Still.{lists_still}

-- ---- the record

abbrev dating : ℕ → FieldsChange
dating moment folder fields = record fields { attribute = moment }

abbrev value_or : CatRecord → Option CatRecord → CatRecord
value_or other None = other
value_or other (Some r) = r

dated_is : (moment : ℕ) (rec new : CatRecord) → dated moment rec ≡ Some new → new ≡ refielded (dating moment) rec
dated_is moment (Folder folder) new is = sym (ap (value_or new) is)
dated_is moment (File file) new is = sym (ap (value_or new) is)
dated_is moment (Thread thread) new is = absurd (let no : None ≡ Some new = is in cc no)

pub dated_some : (moment : ℕ) (rec : CatRecord) → is_thread rec ≡ false → dated moment rec ≡ None → ⊥
dated_some moment (Folder folder) kind none = cc none
dated_some moment (File file) kind none = cc none
dated_some moment (Thread thread) kind none = true≢false kind

-- ---- the record was put

pub dates_entry : (moment : ℕ) (v w : Volume) (before after : Content) (entry : Entry) (rec : CatRecord) → v.header.modify_date ≡ moment → value_at (lists_of v before).catalog_pairs entry.parent entry.name ≡ Some entry.rec
    → is_thread entry.rec ≡ false → dated moment entry.rec ≡ Some rec → ReplacesRecord entry rec v w before after → DatesEntry (id_in entry.rec) v w before after
dates_entry moment v w before after entry rec now there kind made r = record {
  dates = subst (λ m. ChangesFields (id_in entry.rec) (IsMarkedAlone m) (lists_of v before) (lists_of w after)) (sym now)
      (changes_fields (dating moment) (record { id = λ folder fields. refl; special = λ folder fields. refl; finder = λ folder fields. refl }) (IsMarkedAlone moment) (id_in entry.rec) entry.parent entry.name rec (lists_of v before) (lists_of w after) r.updates
      (record { total = r.changes.nodes.0; size = r.changes.nodes.1 })
      (r.changes.lists ∙ (λ i. record (lists_of v before) { head = (ap (λ (x : Volume). x.header) r.rest) i; catalog_pairs = (lists_of w after).catalog_pairs; catalog_tree = facts_on w.catalog.file }))
      entry.rec there (dated_is moment entry.rec rec made) kind refl
      (λ fields has. record { marked = record { id = refl; count = refl; mode = refl; created = refl; changed = refl; attribute = refl }; special = refl }));
  changes = r.changes;
  rest = r.rest;
  headed = r.headed;
}

-- ---- the folder or file was found

abbrev entry_or : Entry → Option Entry → Entry
entry_or other None = other
entry_or other (Some e) = e

module _ (v : Volume) (content : Content) (holds : HoldsTrees v content) (threads : AreThreaded (lists_of v content).catalog_pairs) (id : ℕ) (there : HasEntry id (lists_of v content).catalog_pairs) where
  order : AreSorted (lists_of v content).catalog_pairs
  order = tree_sorted IsCatalogKey (store_of (file_in (sectors_of_tree v.catalog.file) content)) holds.catalog.file.rules

  keys : (pair : Pair) → Contains (lists_of v content).catalog_pairs pair → IsCatalogKey pair.0
  keys pair has = keys_are IsCatalogKey catalog_cmp (store_of (file_in (sectors_of_tree v.catalog.file) content)) holds.catalog.file.rules pair has

  here : entry_by_id (lists_of v content).catalog_pairs id ≡ Some (record { parent = there.entry.parent; name = there.entry.name; rec = there.entry.value })
  here = ap (entry_by_id (lists_of v content).catalog_pairs) (sym there.number)
      ∙ entry_is (lists_of v content).catalog_pairs threads order (short_names (lists_of v content).catalog_pairs keys) there.entry there.stands

  of_entry : IsThere (lists_of v content).catalog_pairs id (record { parent = there.entry.parent; name = there.entry.name; rec = there.entry.value })
  of_entry = record {
    value = ap (option_map (λ (p : Placed). p.value)) (at_place (lists_of v content).catalog_pairs threads order there.entry (entry_is_record (placed_in (lists_of v content).catalog_pairs) there.entry there.stands));
    kind = each_of (λ (p : Placed). is_thread p.value ≡ is_empty p.name) (placed_in (lists_of v content).catalog_pairs) threads.kinds there.entry (entry_is_record (placed_in (lists_of v content).catalog_pairs) there.entry there.stands)
        ∙ entry_is_named (placed_in (lists_of v content).catalog_pairs) there.entry there.stands;
    number = there.number;
  }

  pub one_there : (entry : Entry) → Some entry ≡ entry_by_id (lists_of v content).catalog_pairs id → IsThere (lists_of v content).catalog_pairs id entry
  one_there entry is = subst (λ (e : Entry). IsThere (lists_of v content).catalog_pairs id e) (ap (entry_or entry) (sym (is ∙ here))) of_entry

  pub one_not_none : None ≡ entry_by_id (lists_of v content).catalog_pairs id → ⊥
  one_not_none none = let no : None ≡ Some (record { parent = there.entry.parent; name = there.entry.name; rec = there.entry.value }) = none ∙ here in cc no

-- ---- a read, and then the change

pub dates_read : (v u : Volume) (a m : Space) (reads : ReadsVolume v u a m) → IsTrue a.tells → u ≡ record v { catalog = u.catalog } → (id : ℕ) (w : Volume) (after : Content) → DatesEntry id u w m.content after → DatesEntry id v w a.content after
dates_read v u a m reads tells rest id w after t = record {
  dates = subst (λ (k : VolumeHeader × VolumeState). ChangesFields id (IsMarkedAlone k.0.modify_date) k.1 (lists_of w after)) {x = (u.header, lists_of u m.content)} {y = (v.header, lists_of v a.content)} (λ i. (reads.keeps.header i, lists_still v u a m reads tells i)) t.dates;
  changes = changes_both v u w a.content m.content after (read_changes v u a m reads tells rest) t.changes;
  rest = t.rest ∙ (λ i. record (rest i) { catalog = w.catalog });
  headed = t.headed ∙ ap header_of_volume (reads.looks.content tells);
}
