-- `mkdir` and `create`: where the entry was added and the folder above counts it, the volume is settled again, and its tree is the step's.
use Rattle.std.proofs.Common.{◌≡◌, ◌<◌, ◌≤◌, ℕ, ◌+◌, ◌^◌, Bool, true, false, not, List, [], ◌∷◌, refl, sym, ◌∙◌, ap, subst, arith, ⊎_elim}
use Rattle.std.specs.Prelude.{Contains, ◌==◌, ◌&&◌, ◌||◌, insert, Option, None, Some, Ok}
use Rattle.std.specs.Option.{option_map}
use Rattle.std.specs.Str.{bytes_eq}
use Rattle.std.proofs.lemmas.Bool.{and_parts, eqb-true, true≢false}
use Rattle.std.proofs.lemmas.List.{length-map}
use Rattle.std.proofs.lemmas.List.Elements.{Contains-append_right}
use Rattle.std.proofs.lemmas.Slice.Eq.{bytes_eq-Decides}
use Rattle.sector_disk.specs.Space.{Space}
use Rattle.jnl_format.specs.Recovery.{header_of_volume}
use Rattle.btree_node.specs.Keys.{IsCatalogKey}
use Rattle.btree_node.specs.Levels.{Pair}
use Rattle.btree_node.specs.TreeFile.{store_of}
use Rattle.btree_file.specs.Held.{file_in}
use Rattle.btree_file.specs.State.{sectors_of_tree}
use Rattle.hx_bytes.specs.Field.{number_at}
use Rattle.catalog.specs.Pairs.{value_at}
use Rattle.cat_records.specs.declared.record.CatRecord.{CatRecord}
use Rattle.cat_records.specs.declared.record.CatRecord.TheVariants.{Folder, File, Thread}
use Rattle.cat_records.specs.declared.record.ThreadRecord.{ThreadRecord}
use Rattle.hfs_language.specs.declared.reply.Reply.TheVariants as reply
use Rattle.hfs_model.specs.Step.{Place, is_private_name, is_private_path, journal_info_name, journal_name, last_name, made, on, private_name, to_make}
use Rattle.volume_header.specs.declared.header.VolumeHeader.{VolumeHeader}
use Rattle.hfs_volume.specs.Changes.{Adds, AddsEntry, AreSorted, HasSameNodes, InCatalog, thread_with}
use Rattle.hfs_volume.specs.Commands.{AreBytesOf, ChangesFields, CreateDoes, IsNewValue, IsTouched, MakesEntry, MkdirDoes, entry_in, with_fields, with_made}
use Rattle.hfs_volume.specs.Content.{VolumeState, volume_of, records_of}
use Rattle.hfs_volume.specs.Entries.{AreThreaded, IsUserId, count_in}
use Rattle.hfs_volume.specs.Laws.{IsFolderId}
use Rattle.hfs_volume.specs.Links.{private_id}
use Rattle.hfs_volume.specs.Records.{Placed, entries_of, id_in, id_of, is_empty, is_file, is_folder, is_placed_at, is_thread, placed_in, placed_of, record_at, valence_in}
use Rattle.hfs_volume.specs.Sound.{IsSoundVolume}
use Rattle.hfs_volume.specs.TreeOf.{BytesOf, bytes_in, tree_in, tree_of}
use Rattle.hfs_volume.proofs.Ascending.{tree_sorted}
use Rattle.hfs_volume.proofs.Bytes.{file_bytes_are}
use Rattle.hfs_volume.proofs.Counting.{map_insert}
use Rattle.hfs_volume.proofs.Flat.{found_some}
use Rattle.hfs_volume.proofs.Fields.{id_of_fields, not_thread}
use Rattle.hfs_volume.proofs.Keeping.{swapped}
use Rattle.hfs_volume.proofs.Making.{placed_splits, tree_entries}
use Rattle.hfs_volume.proofs.Members.{at_front, each_of, inserted_stands, kept_cases, kept_stands, still_stands}
use Rattle.hfs_volume.proofs.Reaching.{new_place_is}
use Rattle.hfs_volume.proofs.Seeing.{private_kept}
use Rattle.hfs_volume.proofs.Swapping.{Splits, private_same}
use Rattle.hfs_volume.proofs.Threading.{threads_kept}
use Rattle.volume_base.specs.Changing.{ChangesCatalog, HasFolder, TouchesFolder}
use Rattle.volume_base.specs.Lists.{lists_of, facts_on}
use Rattle.volume_base.specs.Making.{AddsNew, IsSite, free_place, new_value}
use Rattle.volume_base.specs.Standing.{IsStanding, IsSettled}
use Rattle.volume_base.specs.declared.volume.Volume.{Volume}
use Rattle.volume_base.proofs.Counted.{counts_low}
use Rattle.volume_base.proofs.Entered.{at_place}
use Rattle.volume_base.proofs.ListsAfter.{changes_both}
use Rattle.volume_base.proofs.ListsAgain.{lists_again}
use Rattle.volume_base.proofs.Rising.{settled_sorted}
use Rattle.volume_base.proofs.Settling.{lists_then, settles_again, tree_again}

-- ---- both laws in one

abbrev pub MakeDoes : Bool → Type 0
MakeDoes folder =
    (path : List (List ℕ)) (at : Place) (old new : VolumeState) (bytes_of : BytesOf) → AreBytesOf bytes_of → IsSoundVolume old → is_private_path path ≡ false → is_empty (last_name path) ≡ false
    → to_make (tree_in old bytes_of) path ≡ Ok at → MakesEntry folder at old new → IsSoundVolume new × (tree_in new bytes_of ≡ made folder at (tree_in old bytes_of))

pub makes_both : MkdirDoes → CreateDoes → (folder : Bool) → MakeDoes folder
makes_both mkdir create true path at old new bytes_of are sound not_own named allowed makes =
    let done = mkdir path at old new bytes_of are sound not_own named allowed makes in
    (done.0, done.1 ∙ ap (λ r. (on (tree_in old bytes_of) r (λ (x : Place). (reply.Ok, made true x (tree_in old bytes_of)))).1) allowed)
makes_both mkdir create false path at old new bytes_of are sound not_own named allowed makes =
    let done = create path at old new bytes_of are sound not_own named allowed makes in
    (done.0, done.1 ∙ ap (λ r. (on (tree_in old bytes_of) r (λ (x : Place). (reply.Ok, made false x (tree_in old bytes_of)))).1) allowed)

-- ---- the entry that was added

pub new_kind : (folder : Bool) (id moment : ℕ) → is_thread (new_value folder id moment) ≡ false
new_kind true id moment = refl
new_kind false id moment = refl

pub new_id : (folder : Bool) (id moment : ℕ) → id_in (new_value folder id moment) ≡ id
new_id true id moment = refl
new_id false id moment = refl

-- a new record is one as new ones are
pub new_is : (folder : Bool) (id moment : ℕ) → IsNewValue folder id moment (new_value folder id moment)
unfolding number_at
new_is true id moment = record { id = refl; count = refl; mode = refl; created = refl; changed = refl; attribute = refl }
new_is false id moment = (
  record { id = refl; count = refl; mode = refl; created = refl; changed = refl; attribute = refl },
  refl,
  record { size = refl; blocks = refl; extents = refl },
  record { size = refl; blocks = refl; extents = refl },
)

pub placed_still : (pair : Pair) (old new : List Pair) → Adds pair old new → (y : Placed) → Contains (placed_in old) y → Contains (placed_in new) y
placed_still pair old new added y stands =
    subst (λ l. Contains l y) (sym (ap placed_in added.is ∙ map_insert placed_of old added.place pair)) (still_stands (placed_in old) added.place (placed_of pair) y stands)

pub placed_adds : (entry : Placed) (pair : Pair) (old new : List Pair) → Adds pair old new → placed_of pair ≡ entry → Adds entry (placed_in old) (placed_in new)
placed_adds entry pair old new added stands = record {
  place = added.place;
  within = omega (arith, added.within, length-map old placed_of);
  is = ap placed_in added.is ∙ map_insert placed_of old added.place pair ∙ ap (insert (placed_in old) added.place) stands;
}

pub third_false : (a b c d : Bool) → (a && (b || c || d)) ≡ false → (a && d) ≡ false
third_false false b c d is = refl
third_false true true c d is = absurd (true≢false is)
third_false true false true d is = absurd (true≢false is)
third_false true false false d is = is

-- an entry that stood before stands still
pub entry_still : (entry : Placed) (old new : List Pair) → AddsEntry entry old new → (y : Placed) → Contains (entries_of (placed_in old)) y → Contains (entries_of (placed_in new)) y
entry_still entry old new added y stands =
    let both = kept_cases (λ (placed : Placed). not (is_empty placed.name)) (placed_in old) y stands in
    kept_stands (λ (placed : Placed). not (is_empty placed.name)) (placed_in new) y (placed_still added.thread added.between new added.thread_added y (placed_still added.pair old added.between added.entry_added y both.0)) both.1

abbrev thread_or : ThreadRecord → CatRecord → ThreadRecord
thread_or other (Folder folder) = other
thread_or other (File file) = other
thread_or other (Thread thread) = thread

is_a_thread : (value : CatRecord) → is_thread value ≡ true → (thread : ThreadRecord) × (value ≡ Thread thread)
is_a_thread (Folder folder) is = absurd (true≢false (sym is))
is_a_thread (File file) is = absurd (true≢false (sym is))
is_a_thread (Thread thread) is = (thread, refl)

module _ (v : Volume) (a : Space) (settled : IsSettled v a.content) where
  abbrev old : VolumeState
  old = volume_of a.content

  pairs_are : (volume_of a.content).catalog_pairs ≡ (lists_of v a.content).catalog_pairs
  pairs_are = ap (λ (l : VolumeState). l.catalog_pairs) settled.lists

  head_is : (volume_of a.content).head ≡ v.header
  head_is = ap (λ (l : VolumeState). l.head) settled.lists

  -- no record stands under the next CNID
  unused_before : record_at (placed_in (volume_of a.content).catalog_pairs) (volume_of a.content).head.next_catalog_id [] ≡ None
  unused_before = by (record_at (placed_in (volume_of a.content).catalog_pairs) (volume_of a.content).head.next_catalog_id []) refl
    where
      by : (o : Option Placed) → record_at (placed_in (volume_of a.content).catalog_pairs) (volume_of a.content).head.next_catalog_id [] ≡ o → o ≡ None
      by None found = refl
      by (Some p) found =
          let there = found_some (is_placed_at (volume_of a.content).head.next_catalog_id []) (placed_in (volume_of a.content).catalog_pairs) p found in
          let tests = and_parts (p.parent == (volume_of a.content).head.next_catalog_id) (bytes_eq p.name []) there.1 in
          let threads = settled.sound.entries.threads in
          let empty : p.name ≡ [] = (bytes_eq-Decides p.name []).0 tests.1 in
          let thread = is_a_thread p.value (each_of (λ (q : Placed). is_thread q.value ≡ is_empty q.name) (placed_in (volume_of a.content).catalog_pairs) settled.sound.entries.threads.kinds p there.0 ∙ ap is_empty empty) in
          let owner = settled.sound.entries.threads.named p thread.0 there.0 thread.1 in
          let same : id_of owner.0 ≡ (volume_of a.content).head.next_catalog_id = owner.2 ∙ eqb-true p.parent (volume_of a.content).head.next_catalog_id tests.0 in
          absurd (⊎_elim
          (λ (two : id_of owner.0 ≡ 2). omega (arith, two, same, settled.sound.blocks.header.next_id))
          (λ (high : (16 ≤ id_of owner.0) × (id_of owner.0 < (volume_of a.content).head.next_catalog_id)). omega (arith, high.1, same))
          (each_of (λ (q : Placed). IsUserId (volume_of a.content).head.next_catalog_id (id_of q)) (entries_of (placed_in (volume_of a.content).catalog_pairs)) settled.sound.entries.ids.each owner.0 owner.1))

  pub next_unused : record_at (placed_in (lists_of v a.content).catalog_pairs) v.header.next_catalog_id [] ≡ None
  next_unused = (λ i. record_at (placed_in (sym pairs_are i)) (sym (ap (λ (h : VolumeHeader). h.next_catalog_id) head_is) i) []) ∙ unused_before

  pub unused : (rec : CatRecord) → id_in rec ≡ v.header.next_catalog_id → record_at (placed_in (lists_of v a.content).catalog_pairs) (id_in rec) [] ≡ None
  unused rec number = ap (λ (n : ℕ). record_at (placed_in (lists_of v a.content).catalog_pairs) n []) number ∙ next_unused

  -- the counts of the header can go up by one
  pub counts_fit : v.header.next_catalog_id + 1 < 2 ^ 32 → (v.header.folder_count + 1 < 2 ^ 32) × (v.header.file_count + 1 < 2 ^ 32)
  counts_fit fits =
      let counts = settled.sound.entries.counts in
      let next = ap (λ (h : VolumeHeader). h.next_catalog_id) head_is in
      let low = counts_low (volume_of a.content).head.next_catalog_id (entries_of (records_of (volume_of a.content))) settled.sound.blocks.header.next_id settled.sound.entries.ids in (
        omega (arith, fits, next, counts.folders, low (λ (p : Placed). is_folder p.value), ap (λ (h : VolumeHeader). h.folder_count) head_is),
        omega (arith, fits, next, counts.files, low (λ (p : Placed). is_file p.value), ap (λ (h : VolumeHeader). h.file_count) head_is),
      )

  module _ (id : ℕ) (name : List ℕ) (site : IsSite (tree_of a.content) id name) where
    allowed : to_make (tree_in (volume_of a.content) (bytes_in a.content)) site.path ≡ Ok (free_place id name)
    unfolding tree_of
    allowed = site.allowed

    -- what the place is, by the records
    above : IsFolderId (entries_of (records_of (volume_of a.content))) id
    above = (new_place_is (records_of (volume_of a.content)) (volume_of a.content).head.next_catalog_id settled.sound.entries.ids settled.sound.entries.rooted (tree_in (volume_of a.content) (bytes_in a.content)) (tree_entries (volume_of a.content) (bytes_in a.content))
        site.path (free_place id name) allowed site.not_own site.named).0.is_folder.folder

    has_name : is_empty name ≡ false
    has_name = (new_place_is (records_of (volume_of a.content)) (volume_of a.content).head.next_catalog_id settled.sound.entries.ids settled.sound.entries.rooted (tree_in (volume_of a.content) (bytes_in a.content)) (tree_entries (volume_of a.content) (bytes_in a.content))
        site.path (free_place id name) allowed site.not_own site.named).1

    is_new : record_at (records_of (volume_of a.content)) id name ≡ None
    is_new = (new_place_is (records_of (volume_of a.content)) (volume_of a.content).head.next_catalog_id settled.sound.entries.ids settled.sound.entries.rooted (tree_in (volume_of a.content) (bytes_in a.content)) (tree_entries (volume_of a.content) (bytes_in a.content))
        site.path (free_place id name) allowed site.not_own site.named).0.is_new

    not_own : ((id == 2) && is_private_name name) ≡ false
    not_own = (new_place_is (records_of (volume_of a.content)) (volume_of a.content).head.next_catalog_id settled.sound.entries.ids settled.sound.entries.rooted (tree_in (volume_of a.content) (bytes_in a.content)) (tree_entries (volume_of a.content) (bytes_in a.content))
        site.path (free_place id name) allowed site.not_own site.named).0.not_own

    -- nothing stands at the place
    pub free_before : record_at (placed_in (lists_of v a.content).catalog_pairs) id name ≡ None
    free_before = ap (λ (l : List Pair). record_at (placed_in l) id name) (sym pairs_are) ∙ is_new

    module _ (w : Volume) (b : Space) (folder : Bool) (adds : AddsNew folder id name v w a.content b.content) where
      added_entry : AddsEntry (entry_in (free_place id name) (new_value folder v.header.next_catalog_id v.header.modify_date)) (volume_of a.content).catalog_pairs (lists_of w b.content).catalog_pairs
      added_entry = subst (λ (l : List Pair). AddsEntry (entry_in (free_place id name) (new_value folder v.header.next_catalog_id v.header.modify_date)) l (lists_of w b.content).catalog_pairs) (sym pairs_are) adds.adds

      -- behind the entry, records and threads match one to one
      pub threads_after : AreThreaded (lists_of w b.content).catalog_pairs
      threads_after =
          threads_kept (entry_in (free_place id name) (new_value folder v.header.next_catalog_id v.header.modify_date)) (volume_of a.content).catalog_pairs (lists_of w b.content).catalog_pairs added_entry
          (new_kind folder v.header.next_catalog_id v.header.modify_date) has_name settled.sound.entries.threads

      -- and the folder above is there
      pub folder_after : v.header.next_catalog_id + 1 < 2 ^ 32 → HasFolder id 1 (lists_of w b.content).catalog_pairs
      folder_after fits =
          let next = ap (λ (h : VolumeHeader). h.next_catalog_id) head_is in
          let low = counts_low (volume_of a.content).head.next_catalog_id (entries_of (records_of (volume_of a.content))) settled.sound.blocks.header.next_id settled.sound.entries.ids (λ (p : Placed). p.parent == id_of above.0) in
          let valence = each_of (λ (p : Placed). is_folder p.value ≡ true → valence_in p.value ≡ count_in (entries_of (records_of (volume_of a.content))) (id_of p)) (entries_of (records_of (volume_of a.content))) settled.sound.entries.counts.valences
          above.0 above.1 above.2 in
          record {
            entry = above.0;
            stands = entry_still (entry_in (free_place id name) (new_value folder v.header.next_catalog_id v.header.modify_date)) (volume_of a.content).catalog_pairs (lists_of w b.content).catalog_pairs added_entry above.0 above.1;
            number = above.3;
            folder = above.2;
            fits = omega (arith, valence, low, next, fits);
          }

      -- the new entry isn't the private folder
      private_added : private_id (placed_in (lists_of w b.content).catalog_pairs) ≡ private_id (placed_in (volume_of a.content).catalog_pairs)
      private_added =
          private_kept (entry_in (free_place id name) (new_value folder v.header.next_catalog_id v.header.modify_date)) (placed_in (volume_of a.content).catalog_pairs) (placed_in added_entry.between) (placed_in (lists_of w b.content).catalog_pairs)
          (placed_adds (entry_in (free_place id name) (new_value folder v.header.next_catalog_id v.header.modify_date)) added_entry.pair (volume_of a.content).catalog_pairs added_entry.between added_entry.entry_added added_entry.is_entry.stands)
          (placed_adds (thread_with added_entry.spare (entry_in (free_place id name) (new_value folder v.header.next_catalog_id v.header.modify_date))) added_entry.thread added_entry.between (lists_of w b.content).catalog_pairs added_entry.thread_added added_entry.is_thread.stands)
          (third_false (id == 2) (bytes_eq name journal_name) (bytes_eq name journal_info_name) (bytes_eq name private_name) not_own)

      nodes : HasSameNodes (volume_of a.content).catalog_tree (facts_on w.catalog.file)
      nodes = record {
        total = adds.changes.nodes.0 ∙ sym (ap (λ (l : VolumeState). l.catalog_tree.shape.total) settled.lists);
        size = adds.changes.nodes.1 ∙ sym (ap (λ (l : VolumeState). l.catalog_tree.shape.node_size) settled.lists);
      }

      in_catalog : InCatalog (AddsEntry (entry_in (free_place id name) (new_value folder v.header.next_catalog_id v.header.modify_date))) (record (volume_of a.content) { head = with_made folder (volume_of a.content).head }) (lists_then a.content w b.content)
      in_catalog = record {
        changes = added_entry;
        nodes = nodes;
        rest =
            (λ i. record (adds.changes.lists i) { attributes_tree = (volume_of a.content).attributes_tree })
            ∙ sym (λ i. record (settled.lists i) { head = w.header; catalog_pairs = (lists_of w b.content).catalog_pairs; catalog_tree = facts_on w.catalog.file })
            ∙ (λ i. record (volume_of a.content) { head = (adds.header ∙ ap (with_made folder) (sym head_is)) i; catalog_pairs = (lists_of w b.content).catalog_pairs; catalog_tree = facts_on w.catalog.file });
      }

      new_here : IsNewValue folder (volume_of a.content).head.next_catalog_id (volume_of a.content).head.modify_date (new_value folder v.header.next_catalog_id v.header.modify_date)
      new_here = subst (λ (h : VolumeHeader). IsNewValue folder h.next_catalog_id h.modify_date (new_value folder v.header.next_catalog_id v.header.modify_date)) (sym head_is) (new_is folder v.header.next_catalog_id v.header.modify_date)

      abbrev entry : Placed
      entry = entry_in (free_place id name) (new_value folder v.header.next_catalog_id v.header.modify_date)

      entry_there : Contains (placed_in (lists_of w b.content).catalog_pairs) entry
      entry_there =
          placed_still added_entry.thread added_entry.between (lists_of w b.content).catalog_pairs added_entry.thread_added entry
          (subst (λ l. Contains l entry) (sym (placed_adds entry added_entry.pair (volume_of a.content).catalog_pairs added_entry.between added_entry.entry_added added_entry.is_entry.stands).is)
          (inserted_stands (placed_in (volume_of a.content).catalog_pairs) (placed_adds entry added_entry.pair (volume_of a.content).catalog_pairs added_entry.between added_entry.entry_added added_entry.is_entry.stands).place entry))

      module _ (was : IsStanding v a) (between : IsStanding w b) (u : Volume) (c : Space) (stands : IsStanding u c) (t : TouchesFolder id 1 0 w u b.content c.content) (law : MakeDoes folder) where
        moment : w.header.modify_date ≡ (volume_of a.content).head.modify_date
        moment = ap (λ (h : VolumeHeader). h.modify_date) adds.header ∙ sym (ap (λ (h : VolumeHeader). h.modify_date) head_is)

        counts : ChangesFields id (IsTouched (volume_of a.content).head.modify_date 1 0) (lists_then a.content w b.content) (lists_then a.content u c.content)
        counts = record {
          entry = t.counts.entry;
          before = t.counts.before;
          after = t.counts.after;
          has = t.counts.has;
          is_entry = t.counts.is_entry;
          fields = subst (λ n. IsTouched n 1 0 t.counts.before t.counts.after) moment t.counts.fields;
          changes = record {
            changes = t.counts.changes.changes;
            nodes = t.counts.changes.nodes;
            rest = λ i. record (t.counts.changes.rest i) { attributes_tree = (volume_of a.content).attributes_tree };
          };
        }

        makes : MakesEntry folder (free_place id name) (volume_of a.content) (lists_then a.content u c.content)
        makes = record {
          value = new_value folder v.header.next_catalog_id v.header.modify_date;
          is_new = new_here;
          added = lists_then a.content w b.content;
          adds = in_catalog;
          sorted = tree_sorted IsCatalogKey (store_of (file_in (sectors_of_tree w.catalog.file) b.content)) between.trees.catalog.file.rules;
          counts = counts;
        }

        does : IsSoundVolume (lists_then a.content u c.content) × (tree_in (lists_then a.content u c.content) (bytes_in a.content) ≡ made folder (free_place id name) (tree_in (volume_of a.content) (bytes_in a.content)))
        does = law site.path (free_place id name) (volume_of a.content) (lists_then a.content u c.content) (bytes_in a.content) (file_bytes_are a.content) settled.sound site.not_own site.named allowed makes

        changes : ChangesCatalog v u a.content c.content
        changes = changes_both v w u a.content b.content c.content adds.changes t.changes

        headed : header_of_volume c.content ≡ u.header
        headed = t.headed ∙ adds.headed ∙ sym (ap (λ (x : Volume). x.header) t.rest)

        abbrev value : CatRecord
        value = with_fields (λ _. t.counts.after) t.counts.entry.value

        abbrev parts : Splits t.counts.entry (record t.counts.entry { value = value }) (placed_in (lists_of w b.content).catalog_pairs) (placed_in (lists_of u c.content).catalog_pairs)
        parts = placed_splits t.counts.entry value (lists_of w b.content).catalog_pairs (lists_of u c.content).catalog_pairs t.counts.changes.changes

        above_there : Contains (placed_in (lists_of w b.content).catalog_pairs) t.counts.entry
        above_there = subst (λ l. Contains l t.counts.entry) (sym parts.was) (Contains-append_right parts.front (t.counts.entry ∷ parts.back) t.counts.entry (at_front t.counts.entry parts.back))

        above_named : is_empty t.counts.entry.name ≡ false
        above_named =
            sym (each_of (λ (p : Placed). is_thread p.value ≡ is_empty p.name) (placed_in (lists_of w b.content).catalog_pairs) threads_after.kinds t.counts.entry above_there)
            ∙ not_thread t.counts.entry.value t.counts.before t.counts.has

        private : private_id (placed_in (lists_of u c.content).catalog_pairs) ≡ private_id (placed_in (lists_of v a.content).catalog_pairs)
        private =
            ap private_id parts.is ∙ private_same t.counts.entry value parts.front parts.back above_named t.counts.changes.changes.alike ∙ sym (ap private_id parts.was)
            ∙ private_added ∙ ap (λ (l : List Pair). private_id (placed_in l)) pairs_are

        -- the folder above isn't the new entry
        other : entry ≡ t.counts.entry → ⊥
        other same =
            let next = ap (λ (h : VolumeHeader). h.next_catalog_id) head_is in
            let low = each_of (λ (p : Placed). IsUserId (volume_of a.content).head.next_catalog_id (id_of p)) (entries_of (records_of (volume_of a.content))) settled.sound.entries.ids.each above.0 above.1 in
            let number : v.header.next_catalog_id ≡ id =
            sym (new_id folder v.header.next_catalog_id v.header.modify_date) ∙ ap id_of same ∙ id_of_fields t.counts.entry.value t.counts.before t.counts.has ∙ t.counts.is_entry in
            ⊎_elim
            (λ (two : id_of above.0 ≡ 2). omega (arith, two, above.3, number, next, settled.sound.blocks.header.next_id))
            (λ (high : (16 ≤ id_of above.0) × (id_of above.0 < (volume_of a.content).head.next_catalog_id)). omega (arith, high.1, above.3, number, next))
            low

        entry_stays : Contains (placed_in (lists_of u c.content).catalog_pairs) entry
        entry_stays = subst (λ l. Contains l entry) (sym parts.is)
            (⊎_elim (λ is. absurd (other is)) (λ stays. stays) (swapped t.counts.entry (record t.counts.entry { value = value }) parts.front parts.back entry (subst (λ l. Contains l entry) parts.was entry_there)))

        settled_now : IsSettled u c.content
        settled_now = settles_again v u a c changes settled was stands headed does.0 private

        found_now : value_at (lists_of u c.content).catalog_pairs id name ≡ Some (new_value folder v.header.next_catalog_id v.header.modify_date)
        found_now =
            let same : (volume_of c.content).catalog_pairs ≡ (lists_of u c.content).catalog_pairs = ap (λ (l : VolumeState). l.catalog_pairs) settled_now.lists in
            ap (option_map (λ (p : Placed). p.value))
            (at_place (lists_of u c.content).catalog_pairs (subst AreThreaded same settled_now.sound.entries.threads) (subst AreSorted same (settled_sorted u c.content stands.trees settled_now)) entry entry_stays)

        pub made_does : IsSettled u c.content × (tree_of c.content ≡ made folder (free_place id name) (tree_of a.content)) × (value_at (lists_of u c.content).catalog_pairs id name ≡ Some (new_value folder v.header.next_catalog_id v.header.modify_date)) × MakesEntry folder (free_place id name) (volume_of a.content) (volume_of c.content)
        unfolding tree_of
        made_does = (
          settled_now,
          tree_again v u a c changes settled was stands headed does.0 ∙ does.1,
          found_now,
          subst (λ (l : VolumeState). MakesEntry folder (free_place id name) (volume_of a.content) l) (sym (lists_again v u a c changes settled was settled_now)) makes,
        )
