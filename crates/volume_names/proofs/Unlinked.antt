-- A link that is removed, and its file's record with a link less in the place of the old one.
use Rattle.std.proofs.Common.{◌≡◌, ◌<◌, ℕ, ◌+◌, Bool, true, false, not, List, refl, sym, ◌∙◌, ap, subst}
use Rattle.std.specs.Prelude.{Contains, IsTrue, Option, None, Some}
use Rattle.std.specs.Option.{option_map}
use Rattle.std.proofs.lemmas.Bool.{true≢false}
use Rattle.sector_disk.specs.Lists.{Content}
use Rattle.sector_disk.specs.Space.{Space}
use Rattle.jnl_format.specs.Recovery.{header_of_volume}
use Rattle.volume_header.specs.declared.header.VolumeHeader.{VolumeHeader}
use Rattle.btree_node.specs.Keys.{IsCatalogKey, catalog_cmp}
use Rattle.btree_node.specs.Levels.{Pair}
use Rattle.btree_node.specs.TreeFile.{store_of}
use Rattle.btree_edit.specs.declared.edits.Removed.{Removed}
use Rattle.btree_file.specs.Frame.{FollowsOn}
use Rattle.btree_file.specs.Held.{file_in}
use Rattle.btree_file.specs.Standing.{pairs_in}
use Rattle.btree_file.specs.State.{sectors_of_tree}
use Rattle.cat_records.specs.declared.record.CatRecord.{CatRecord}
use Rattle.cat_records.specs.declared.record.CatRecord.TheVariants.{Folder, File, Thread}
use Rattle.catalog.specs.Entries.{AnswersRemoval, Removing, UpdatesEntry}
use Rattle.catalog.specs.Pairs.{value_at}
use Rattle.hard_links.specs.Linking.{NamesLink}
use Rattle.hard_links.specs.declared.place.EntryAt.{EntryAt}
use Rattle.hfs_volume.specs.Changes.{AreSorted, HasSameNodes, Spells, with_numbers}
use Rattle.hfs_volume.specs.Commands.{ChangesFields, IsMarkedLinked}
use Rattle.hfs_volume.specs.Content.{VolumeState}
use Rattle.hfs_volume.specs.Entries.{AreThreaded}
use Rattle.hfs_volume.specs.Records.{Placed, id_in, is_file, is_link, placed_in, record_at}
use Rattle.hfs_volume.proofs.Ascending.{tree_sorted}
use Rattle.hfs_volume.proofs.Flat.{none_or_some}
use Rattle.hfs_volume.proofs.Sides.{entry_is_record}
use Rattle.volume_base.specs.Changing.{ChangesCatalog, PutsHeader, ReplacesRecord}
use Rattle.volume_base.specs.Entering.{entry_by_id}
use Rattle.volume_names.specs.Linking.{CountsUp}
use Rattle.volume_base.specs.Lists.{lists_of, facts_on}
use Rattle.volume_base.specs.Looking.{ReadsVolume}
use Rattle.volume_base.specs.Orphans.{with_file_removed}
use Rattle.volume_base.specs.Standing.{HoldsTrees, IsStanding}
use Rattle.volume_names.specs.Unlinking.{CountsDown, DropsName, HasShared, SaysLinks, is_plain, links_in, relinked, with_links}
use Rattle.volume_base.specs.declared.entries.Entry.{Entry}
use Rattle.volume_base.specs.declared.volume.Volume.{Volume}
use Rattle.volume_base.proofs.Entered.{keys_are, short_names, at_place, entry_is}
use Rattle.volume_base.proofs.ListsAfter.{catalog_changes, changes_both, header_stays, numbers_change}
use Rattle.volume_base.proofs.Recounting.{read_changes}
use Rattle.volume_base.proofs.Still.{lists_still}
use Rattle.volume_base.proofs.TakenOff.{removes_record}

-- ---- the link

-- something stands where a link does
pub link_there : (pairs : List Pair) (at : EntryAt) → NamesLink at pairs → record_at (placed_in pairs) at.parent at.name ≡ None → ⊥
link_there pairs at link none = none_or_some link.entry (sym none ∙ link.found)

module _ (v x : Volume) (a m : Space) (numbered : x ≡ record v { header = with_numbers v.header x.header }) (put : PutsHeader x a.content m.content) where
  module _ (w : Volume) (b : Space) (was : IsStanding x m) (tells : IsTrue m.tells) (stands : IsStanding w b) (follows : FollowsOn x.catalog.file w.catalog.file m b) (rest : w ≡ record x { catalog = w.catalog })
      (parent : ℕ) (name : List ℕ) (answer : Removed)
    where
      pub drops_name : x.header ≡ with_file_removed v.header → (record_at (placed_in (lists_of v a.content).catalog_pairs) parent name ≡ None → ⊥)
          → AnswersRemoval (record_at (placed_in (pairs_in (sectors_of_tree x.catalog.file) m.content)) parent name) answer
          → Removing parent name (pairs_in (sectors_of_tree x.catalog.file) m.content) (pairs_in (sectors_of_tree x.catalog.file) b.content) answer
          → DropsName parent name v w a.content b.content
      drops_name less there answers taken = record {
        removes = removes_record v x a m numbered put w b follows parent name answer there answers taken;
        changes = changes_both v x w a.content m.content b.content
            (changes_both v x x a.content a.content m.content (subst (λ (y : Volume). ChangesCatalog v y a.content a.content) (sym numbered) (numbers_change v x.header a.content)) put.changes)
            (subst (λ (y : Volume). ChangesCatalog x y m.content b.content) (sym rest) (catalog_changes x m b w.catalog follows was tells stands.trees.catalog));
        header = ap (λ (y : Volume). y.header) rest ∙ less;
        headed = header_stays x m b w.catalog follows was tells stands.trees.catalog ∙ put.headed ∙ sym (ap (λ (y : Volume). y.header) rest);
      }

-- ---- the file's record

abbrev file_or : CatRecord → Option CatRecord → CatRecord
file_or other None = other
file_or other (Some r) = r

pub relinked_some : (moment links : ℕ) (rec : CatRecord) → is_file rec ≡ true → relinked moment links rec ≡ None → ⊥
relinked_some moment links (Folder folder) kind none = true≢false (sym kind)
relinked_some moment links (File file) kind none = cc none
relinked_some moment links (Thread thread) kind none = true≢false (sym kind)

not_true : (b : Bool) → not b ≡ true → b ≡ false
not_true true is = absurd (true≢false (sym is))
not_true false is = refl

module _ (moment links had id parent : ℕ) (name : List ℕ) (new_rec : CatRecord) (old new : VolumeState) (updates : UpdatesEntry parent name new_rec old.catalog_pairs new.catalog_pairs) (nodes : HasSameNodes old.catalog_tree new.catalog_tree)
    (rest : new ≡ record old { catalog_pairs = new.catalog_pairs; catalog_tree = new.catalog_tree })
  where
    abbrev Marks : Type 0
    Marks = (does : ChangesFields id (IsMarkedLinked moment links) old new) × (does.before.special ≡ had)

    of_value : (p : ℕ) (n : List ℕ) (value : CatRecord) → updates.entry ≡ record { parent = p; name = n; value = value } → relinked moment links value ≡ Some new_rec → is_file value ≡ true → is_plain value ≡ true → id_in value ≡ id
        → links_in value ≡ had → Marks
    of_value p n (Folder folder) is made kind plain number told = absurd (true≢false (sym kind))
    of_value p n (Thread thread) is made kind plain number told = absurd (true≢false (sym kind))
    of_value p n (File file) is made kind plain number told = (
      record {
        entry = record { parent = p; name = n; value = File file };
        before = file.fields;
        after = with_links moment links file.fields;
        has = refl;
        is_entry = number;
        fields = record { marked = record { id = refl; count = refl; mode = refl; created = refl; changed = refl; attribute = refl }; special = refl };
        changes = record {
          changes = record {
            pair = updates.pair;
            is_entry = updates.is_entry.stands ∙ is;
            other = updates.other;
            is_other = subst (λ (q : Placed). Spells q updates.other) (λ i. record (is i) { value = ap (file_or new_rec) (sym made) i }) updates.is_other;
            swapped = updates.swapped;
            alike = record {
              place = (refl, refl);
              kind = (refl, refl);
              id = refl;
              link = refl;
              reference = λ link. absurd (true≢false (sym link ∙ not_true (is_link (record { parent = p; name = n; value = File file })) plain));
            };
            forks = refl;
          };
          nodes = nodes;
          rest = rest;
        };
      },
      told,
    )

    pub marks_file : (old_rec : CatRecord) → value_at old.catalog_pairs parent name ≡ Some old_rec → relinked moment links old_rec ≡ Some new_rec → is_file old_rec ≡ true → is_plain old_rec ≡ true → id_in old_rec ≡ id → links_in old_rec ≡ had → Marks
    marks_file old_rec there made kind plain number told =
        let same : old_rec ≡ updates.entry.value = sym (ap (file_or old_rec) (sym (ap (option_map (λ (p : Placed). p.value)) updates.found) ∙ there)) in
        of_value updates.entry.parent updates.entry.name updates.entry.value refl (ap (relinked moment links) (sym same) ∙ made) (sym (ap is_file same) ∙ kind) (sym (ap is_plain same) ∙ plain) (sym (ap id_in same) ∙ number)
        (sym (ap links_in same) ∙ told)

-- ---- the record was put

pub says_links : (moment links : ℕ) (v w : Volume) (before after : Content) (entry : Entry) (rec : CatRecord) → v.header.modify_date ≡ moment → value_at (lists_of v before).catalog_pairs entry.parent entry.name ≡ Some entry.rec
    → is_file entry.rec ≡ true → is_plain entry.rec ≡ true → relinked moment links entry.rec ≡ Some rec → ReplacesRecord entry rec v w before after → SaysLinks (id_in entry.rec) links (links_in entry.rec) v w before after
says_links moment links v w before after entry rec now there kind plain made r =
    let marks = marks_file moment links (links_in entry.rec) (id_in entry.rec) entry.parent entry.name rec (lists_of v before) (lists_of w after) r.updates (record { total = r.changes.nodes.0; size = r.changes.nodes.1 })
    (r.changes.lists ∙ (λ i. record (lists_of v before) { head = (ap (λ (x : Volume). x.header) r.rest) i; catalog_pairs = (lists_of w after).catalog_pairs; catalog_tree = facts_on w.catalog.file }))
    entry.rec there made kind plain refl refl in
    let at_moment = subst (λ m. (does : ChangesFields (id_in entry.rec) (IsMarkedLinked m links) (lists_of v before) (lists_of w after)) × (does.before.special ≡ links_in entry.rec)) (sym now) marks in
    record { marks = at_moment.0; was = at_moment.1; changes = r.changes; rest = r.rest; headed = r.headed }

pub says_less : (id links had : ℕ) (v w : Volume) (before after : Content) → had ≡ links + 1 → 0 < links → SaysLinks id links had v w before after → CountsDown id v w before after
says_less id links had v w before after one some says = record { links = links; some = some; marks = says.marks; was = says.was ∙ one; changes = says.changes; rest = says.rest; headed = says.headed }

pub says_more : (id links had : ℕ) (v w : Volume) (before after : Content) → links ≡ had + 1 → SaysLinks id links had v w before after → CountsUp id v w before after
says_more id links had v w before after one says = record { links = links; marks = says.marks; one_more = one ∙ ap (λ n. n + 1) (sym says.was); changes = says.changes; rest = says.rest; headed = says.headed }

-- ---- the file was found

-- A file stands there, with its CNID, and is no link.
pub record IsSharedThere (pairs : List Pair) (id : ℕ) (entry : Entry) : Type 0 where
  pub value : value_at pairs entry.parent entry.name ≡ Some entry.rec
  pub file : is_file entry.rec ≡ true
  pub plain : is_plain entry.rec ≡ true
  pub number : id_in entry.rec ≡ id

plain_is : (p : Placed) → is_link p ≡ false → is_plain p.value ≡ true
plain_is p none = by p.value refl
  where
    by : (value : CatRecord) → p.value ≡ value → is_plain value ≡ true
    by (Folder folder) is = refl
    by (File file) is = ap not (sym (ap (λ (v : CatRecord). is_link (record p { value = v })) is) ∙ none)
    by (Thread thread) is = refl

abbrev entry_or : Entry → Option Entry → Entry
entry_or other None = other
entry_or other (Some e) = e

module _ (v : Volume) (content : Content) (holds : HoldsTrees v content) (threads : AreThreaded (lists_of v content).catalog_pairs) (id : ℕ) (shared : HasShared id (lists_of v content).catalog_pairs) where
  order : AreSorted (lists_of v content).catalog_pairs
  order = tree_sorted IsCatalogKey (store_of (file_in (sectors_of_tree v.catalog.file) content)) holds.catalog.file.rules

  keys : (pair : Pair) → Contains (lists_of v content).catalog_pairs pair → IsCatalogKey pair.0
  keys pair has = keys_are IsCatalogKey catalog_cmp (store_of (file_in (sectors_of_tree v.catalog.file) content)) holds.catalog.file.rules pair has

  pub here : entry_by_id (lists_of v content).catalog_pairs id ≡ Some (record { parent = shared.entry.parent; name = shared.entry.name; rec = shared.entry.value })
  here = ap (entry_by_id (lists_of v content).catalog_pairs) (sym shared.number)
      ∙ entry_is (lists_of v content).catalog_pairs threads order (short_names (lists_of v content).catalog_pairs keys) shared.entry shared.stands

  of_entry : IsSharedThere (lists_of v content).catalog_pairs id (record { parent = shared.entry.parent; name = shared.entry.name; rec = shared.entry.value })
  of_entry = record {
    value = ap (option_map (λ (p : Placed). p.value)) (at_place (lists_of v content).catalog_pairs threads order shared.entry (entry_is_record (placed_in (lists_of v content).catalog_pairs) shared.entry shared.stands));
    file = shared.file;
    plain = plain_is shared.entry shared.not_link;
    number = shared.number;
  }

  pub shared_there : (entry : Entry) → Some entry ≡ entry_by_id (lists_of v content).catalog_pairs id → IsSharedThere (lists_of v content).catalog_pairs id entry
  shared_there entry is = subst (λ (e : Entry). IsSharedThere (lists_of v content).catalog_pairs id e) (ap (entry_or entry) (sym (is ∙ here))) of_entry

  pub shared_not_none : None ≡ entry_by_id (lists_of v content).catalog_pairs id → ⊥
  shared_not_none none = let no : None ≡ Some (record { parent = shared.entry.parent; name = shared.entry.name; rec = shared.entry.value }) = none ∙ here in cc no

-- ---- a read, and then the change

pub counts_read : (v u : Volume) (a m : Space) (reads : ReadsVolume v u a m) (tells : IsTrue a.tells) (rest : u ≡ record v { catalog = u.catalog }) (id : ℕ) (w : Volume) (after : Content) → CountsDown id u w m.content after → CountsDown id v w a.content after
counts_read v u a m reads tells rest id w after t =
    let marks = subst (λ (k : VolumeHeader × VolumeState). (does : ChangesFields id (IsMarkedLinked k.0.modify_date t.links) k.1 (lists_of w after)) × (does.before.special ≡ t.links + 1)) {x = (u.header, lists_of u m.content)} {y = (v.header, lists_of v a.content)}
    (λ i. (reads.keeps.header i, lists_still v u a m reads tells i)) (t.marks, t.was) in
    record {
      links = t.links;
      some = t.some;
      marks = marks.0;
      was = marks.1;
      changes = changes_both v u w a.content m.content after (read_changes v u a m reads tells rest) t.changes;
      rest = t.rest ∙ (λ i. record (rest i) { catalog = w.catalog });
      headed = t.headed ∙ ap header_of_volume (reads.looks.content tells);
    }

pub counts_up_read : (v u : Volume) (a m : Space) (reads : ReadsVolume v u a m) (tells : IsTrue a.tells) (rest : u ≡ record v { catalog = u.catalog }) (id : ℕ) (w : Volume) (after : Content) → CountsUp id u w m.content after → CountsUp id v w a.content after
counts_up_read v u a m reads tells rest id w after t =
    let marks = subst (λ (k : VolumeHeader × VolumeState). (does : ChangesFields id (IsMarkedLinked k.0.modify_date t.links) k.1 (lists_of w after)) × (t.links ≡ does.before.special + 1)) {x = (u.header, lists_of u m.content)} {y = (v.header, lists_of v a.content)}
    (λ i. (reads.keeps.header i, lists_still v u a m reads tells i)) (t.marks, t.one_more) in
    record {
      links = t.links;
      marks = marks.0;
      one_more = marks.1;
      changes = changes_both v u w a.content m.content after (read_changes v u a m reads tells rest) t.changes;
      rest = t.rest ∙ (λ i. record (rest i) { catalog = w.catalog });
      headed = t.headed ∙ ap header_of_volume (reads.looks.content tells);
    }
