-- A folder whose entries came and went, with its record in the place of the old one.
use Rattle.std.proofs.Common.{◌≡◌, ◌<◌, ℕ, ◌+◌, ◌^◌, Bool, true, false, List, length, refl, sym, ◌∙◌, ap, subst, inl}
use Rattle.std.specs.Prelude.{Contains, IsTrue, Option, None, Some}
use Rattle.std.specs.Option.{option_map}
use Rattle.std.proofs.lemmas.Bool.{true≢false}
use Rattle.sector_disk.specs.Lists.{Content, sector}
use Rattle.sector_disk.specs.Space.{Space}
use Rattle.jnl_format.specs.Recovery.{header_of_volume}
use Rattle.volume_header.specs.declared.header.VolumeHeader.{VolumeHeader}
use Rattle.btree_node.specs.Keys.{IsCatalogKey, catalog_cmp}
use Rattle.btree_node.specs.Levels.{Pair}
use Rattle.btree_node.specs.TreeFile.{store_of}
use Rattle.btree_file.specs.Held.{file_in}
use Rattle.btree_file.specs.State.{sectors_of_tree}
use Rattle.cat_records.specs.declared.record.CatRecord.{CatRecord}
use Rattle.cat_records.specs.declared.record.CatRecord.TheVariants.{Folder, File, Thread}
use Rattle.cat_records.specs.declared.record.EntryFields.{EntryFields}
use Rattle.catalog.specs.Pairs.{value_at}
use Rattle.hfs_volume.specs.Changes.{AreSorted, with_numbers}
use Rattle.hfs_volume.specs.Commands.{ChangesFields, IsTouched}
use Rattle.hfs_volume.specs.Content.{VolumeState}
use Rattle.hfs_volume.specs.Entries.{AreThreaded}
use Rattle.hfs_volume.specs.Records.{Placed, placed_in, id_in, is_folder, is_thread, valence_in}
use Rattle.hfs_volume.proofs.Ascending.{tree_sorted}
use Rattle.hfs_volume.proofs.Sides.{entry_is_record}
use Rattle.volume_base.specs.Changing.{ChangesCatalog, HasFolder, ReplacesRecord, TouchesFolder}
use Rattle.volume_base.specs.Entering.{entry_by_id, touched, with_entries}
use Rattle.volume_base.specs.Lists.{lists_of, facts_on}
use Rattle.volume_base.specs.Looking.{ReadsVolume}
use Rattle.volume_base.specs.Standing.{HoldsTrees}
use Rattle.volume_base.specs.declared.entries.Entry.{Entry}
use Rattle.volume_base.specs.declared.volume.Volume.{Volume}
use Rattle.volume_base.proofs.Entered.{keys_are, short_names, at_place, entry_is}
use Rattle.volume_base.proofs.ListsAfter.{changes_both}
use Rattle.volume_base.proofs.Over.{sectors_kept}
use Rattle.volume_base.proofs.Refielded.{FieldsChange, KeepsEntry, changes_fields, refielded}
use Rattle.volume_base.proofs.Still.{lists_still}

-- ---- the record

abbrev pub counting : (moment up down : ℕ) → FieldsChange
counting moment up down folder = with_entries moment up down

pub counting_keeps : (moment up down : ℕ) → KeepsEntry (counting moment up down)
counting_keeps moment up down = record { id = λ folder fields. refl; special = λ folder fields. refl; finder = λ folder fields. refl }

pub counting_touches : (moment up down : ℕ) (folder : Bool) (fields : EntryFields) → IsTouched moment up down fields (counting moment up down folder fields)
counting_touches moment up down folder fields = record { id = refl; count = refl; mode = refl; created = refl; changed = refl; attribute = refl }

abbrev value_or : CatRecord → Option CatRecord → CatRecord
value_or other None = other
value_or other (Some r) = r

touched_is : (moment up down : ℕ) (rec new : CatRecord) → touched moment up down rec ≡ Some new → new ≡ refielded (counting moment up down) rec
touched_is moment up down (Folder folder) new is = sym (ap (value_or new) is)
touched_is moment up down (File file) new is = absurd (let no : None ≡ Some new = is in cc no)
touched_is moment up down (Thread thread) new is = absurd (let no : None ≡ Some new = is in cc no)

pub no_thread : (rec : CatRecord) → is_folder rec ≡ true → is_thread rec ≡ false
no_thread (Folder folder) is = refl
no_thread (File file) is = refl
no_thread (Thread thread) is = absurd (true≢false (sym is))

pub touched_some : (moment up down : ℕ) (rec : CatRecord) → is_folder rec ≡ true → touched moment up down rec ≡ None → ⊥
touched_some moment up down (Folder folder) kind none = cc none
touched_some moment up down (File file) kind none = true≢false (sym kind)
touched_some moment up down (Thread thread) kind none = true≢false (sym kind)

-- ---- the record was put

pub touches_folder : (moment up down : ℕ) (v w : Volume) (before after : Content) (entry : Entry) (rec : CatRecord) → v.header.modify_date ≡ moment → value_at (lists_of v before).catalog_pairs entry.parent entry.name ≡ Some entry.rec
    → is_folder entry.rec ≡ true → touched moment up down entry.rec ≡ Some rec → ReplacesRecord entry rec v w before after → TouchesFolder (id_in entry.rec) up down v w before after
touches_folder moment up down v w before after entry rec now there kind made r = record {
  counts = subst (λ m. ChangesFields (id_in entry.rec) (IsTouched m up down) (lists_of v before) (lists_of w after)) (sym now)
      (changes_fields (counting moment up down) (counting_keeps moment up down) (IsTouched moment up down) (id_in entry.rec) entry.parent entry.name rec (lists_of v before) (lists_of w after) r.updates
      (record { total = r.changes.nodes.0; size = r.changes.nodes.1 })
      (r.changes.lists ∙ (λ i. record (lists_of v before) { head = (ap (λ (x : Volume). x.header) r.rest) i; catalog_pairs = (lists_of w after).catalog_pairs; catalog_tree = facts_on w.catalog.file }))
      entry.rec there (touched_is moment up down entry.rec rec made) (no_thread entry.rec kind) refl (λ fields has. counting_touches moment up down (is_folder entry.rec) fields));
  changes = r.changes;
  rest = r.rest;
  headed = r.headed;
}

-- ---- the folder was found

-- A folder stands there, with its CNID, and can count so many entries more.
pub record IsFolderThere (pairs : List Pair) (id up : ℕ) (entry : Entry) : Type 0 where
  pub value : value_at pairs entry.parent entry.name ≡ Some entry.rec
  pub kind : is_folder entry.rec ≡ true
  pub number : id_in entry.rec ≡ id
  pub fits : valence_in entry.rec + up < 2 ^ 32

abbrev entry_or : Entry → Option Entry → Entry
entry_or other None = other
entry_or other (Some e) = e

module _ (v : Volume) (content : Content) (holds : HoldsTrees v content) (threads : AreThreaded (lists_of v content).catalog_pairs) (id up : ℕ) (folder : HasFolder id up (lists_of v content).catalog_pairs) where
  order : AreSorted (lists_of v content).catalog_pairs
  order = tree_sorted IsCatalogKey (store_of (file_in (sectors_of_tree v.catalog.file) content)) holds.catalog.file.rules

  keys : (pair : Pair) → Contains (lists_of v content).catalog_pairs pair → IsCatalogKey pair.0
  keys pair has = keys_are IsCatalogKey catalog_cmp (store_of (file_in (sectors_of_tree v.catalog.file) content)) holds.catalog.file.rules pair has

  here : entry_by_id (lists_of v content).catalog_pairs id ≡ Some (record { parent = folder.entry.parent; name = folder.entry.name; rec = folder.entry.value })
  here = ap (entry_by_id (lists_of v content).catalog_pairs) (sym folder.number)
      ∙ entry_is (lists_of v content).catalog_pairs threads order (short_names (lists_of v content).catalog_pairs keys) folder.entry folder.stands

  of_entry : IsFolderThere (lists_of v content).catalog_pairs id up (record { parent = folder.entry.parent; name = folder.entry.name; rec = folder.entry.value })
  of_entry = record {
    value = ap (option_map (λ (p : Placed). p.value)) (at_place (lists_of v content).catalog_pairs threads order folder.entry (entry_is_record (placed_in (lists_of v content).catalog_pairs) folder.entry folder.stands));
    kind = folder.folder;
    number = folder.number;
    fits = folder.fits;
  }

  pub folder_there : (entry : Entry) → Some entry ≡ entry_by_id (lists_of v content).catalog_pairs id → IsFolderThere (lists_of v content).catalog_pairs id up entry
  folder_there entry is = subst (λ (e : Entry). IsFolderThere (lists_of v content).catalog_pairs id up e) (ap (entry_or entry) (sym (is ∙ here))) of_entry

  pub folder_not_none : None ≡ entry_by_id (lists_of v content).catalog_pairs id → ⊥
  folder_not_none none = let no : None ≡ Some (record { parent = folder.entry.parent; name = folder.entry.name; rec = folder.entry.value }) = none ∙ here in cc no

-- ---- a read, and then the change

module _ (v u : Volume) (a m : Space) (reads : ReadsVolume v u a m) (tells : IsTrue a.tells) (rest : u ≡ record v { catalog = u.catalog }) where
  -- what was read alone hasn't changed
  pub read_changes : ChangesCatalog v u a.content m.content
  read_changes =
      let still = lists_still v u a m reads tells in
      let content = reads.looks.content tells in
      record {
        lists = lists_still v u a m reads tells ∙ (λ i. record (lists_of v a.content) { head = sym reads.keeps.header i; catalog_pairs = (sym (lists_still v u a m reads tells) i).catalog_pairs; catalog_tree = (sym (lists_still v u a m reads tells) i).catalog_tree });
        numbers = reads.keeps.header ∙ (λ i. with_numbers v.header (sym reads.keeps.header i));
        map = reads.keeps.map;
        extents = ap (λ (x : Volume). x.extents) rest;
        attributes = ap (λ (x : Volume). x.attributes) rest;
        private = reads.keeps.private;
        catalog = sectors_kept a.tells v.catalog.file u.catalog.file reads.keeps.catalog.file;
        nodes = (reads.keeps.catalog.file.file.total, reads.keeps.catalog.file.file.node_size);
        outside = record { size = ap (λ (c : Content). length c) (reads.looks.content tells); each = λ at. inl (ap (λ (c : Content). sector c at) (reads.looks.content tells)) };
      }

  pub touches_read : (id up down : ℕ) (w : Volume) (after : Content) → TouchesFolder id up down u w m.content after → TouchesFolder id up down v w a.content after
  touches_read id up down w after t = record {
    counts = subst (λ (k : VolumeHeader × VolumeState). ChangesFields id (IsTouched k.0.modify_date up down) k.1 (lists_of w after)) {x = (u.header, lists_of u m.content)} {y = (v.header, lists_of v a.content)} (λ i. (reads.keeps.header i, lists_still v u a m reads tells i)) t.counts;
    changes = changes_both v u w a.content m.content after read_changes t.changes;
    rest = t.rest ∙ (λ i. record (rest i) { catalog = w.catalog });
    headed = t.headed ∙ ap header_of_volume (reads.looks.content tells);
  }
