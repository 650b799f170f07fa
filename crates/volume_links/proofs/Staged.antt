-- A link that was added with its target in its record, in two steps: first without a block, and then with its fork. So the law of `symlink` speaks of it.
use Rattle.std.proofs.Common.{◌≡◌, ◌≢◌, ◌<◌, ◌≤◌, ◌*◌, ℕ, zero, suc, ◌+◌, ◌++◌, Bool, false, List, [], ◌∷◌, length, take, drop, refl, sym, ◌∙◌, ap, subst, arith}
use Rattle.std.specs.Prelude.{◌==◌, ◌&&◌, Contains, Some, Ok, insert, slice_get, slice_set}
use Rattle.std.specs.List.{flat_map}
use Rattle.std.proofs.lemmas.Bool.{eq-eqb, true≢false}
use Rattle.std.proofs.lemmas.List.Edits.{length-insert}
use Rattle.std.proofs.lemmas.List.Elements.{Contains-append_right}
use Rattle.btree_node.specs.Levels.{Pair}
use Rattle.cat_records.specs.Fits.{FitsFile}
use Rattle.cat_records.specs.Records.{catalog_bytes}
use Rattle.cat_records.specs.declared.record.CatRecord.{CatRecord}
use Rattle.cat_records.specs.declared.record.CatRecord.TheVariants.{Folder, File, Thread}
use Rattle.cat_records.specs.declared.record.EntryFields.{EntryFields}
use Rattle.cat_records.specs.declared.record.FileRecord.{FileRecord}
use Rattle.cat_records.proofs.CatalogBack.{file_back, file_spells}
use Rattle.cat_records.proofs.CatalogSpelled.{no_fault}
use Rattle.fork_map.specs.Blocks.{blocks_of}
use Rattle.hfs_model.specs.Sorted.{IsInOrder}
use Rattle.hfs_model.specs.Step.{is_private_path, is_private_name, last_name, private_name, to_make}
use Rattle.hx_bytes.specs.declared.extents.Extent.{Extent}
use Rattle.hx_bytes.specs.declared.extents.ForkRecord.{ForkRecord}
use Rattle.overflow.specs.Records.{eight_at}
use Rattle.hfs_volume.specs.Blocks.{GoesOn, forks_of}
use Rattle.hfs_volume.specs.Changes.{AddsEntry, AreSorted, FlipsBits, HasSameNodes, Spells, thread_with, with_free}
use Rattle.hfs_volume.specs.Commands.{AreBytesOf, ChangesFields, IsTouched, with_fields, with_made}
use Rattle.hfs_volume.specs.Content.{TreeFacts, VolumeState, overflow_in_volume, records_of}
use Rattle.hfs_volume.specs.Data.{AreFresh}
use Rattle.hfs_volume.specs.Forks.{data_kind, extents_of, in_use, overflow_in}
use Rattle.hfs_volume.specs.Kinds.{MakesLink}
use Rattle.hfs_volume.specs.Laws.{IsUserFile}
use Rattle.hfs_volume.specs.Links.{private_id}
use Rattle.hfs_volume.specs.Records.{Overflow, Placed, entries_of, is_empty, is_placed_at, is_thread, placed_before, placed_in, placed_of}
use Rattle.hfs_volume.specs.Sound.{IsSoundVolume}
use Rattle.hfs_volume.specs.TreeOf.{BytesOf, tree_in}
use Rattle.hfs_volume.specs.Writing.{MakesBytes, RewritesFork, in_fork, written_bytes}
use Rattle.hfs_volume.proofs.Finishing.{enters_does}
use Rattle.hfs_volume.proofs.Flat.{some_same}
use Rattle.hfs_volume.proofs.Hiding.{same_entry}
use Rattle.hfs_volume.proofs.Fields.{not_thread}
use Rattle.hfs_volume.proofs.Making.{Enters, made_as, pairs_split, placed_splits}
use Rattle.hfs_volume.proofs.Members.{at_front, each_of}
use Rattle.hfs_volume.proofs.Seeing.{private_kept}
use Rattle.hfs_volume.proofs.Swapping.{Splits, private_same}
use Rattle.hfs_volume.proofs.Untouched.{data_fork_of, file_fork_stands}
use Rattle.volume_base.specs.Making.{free_place, new_link_value, no_fork}
use Rattle.volume_base.specs.declared.forks.ForkKind.TheVariants as kinds
use Rattle.volume_base.proofs.Entered.{at_place}
use Rattle.volume_space.specs.Spreading.{HoldsFork}
use Rattle.volume_space.proofs.GrownForks.{no_more}
use Rattle.volume_space.proofs.PutLists.{holds_few, makes, rewrites}
use Rattle.volume_space.proofs.Resized.{IsRecordOf, private_again, stood}
use Rattle.volume_names.proofs.Made.{placed_adds}
use Rattle.volume_step.proofs.Kept.{Keeps}
use Rattle.volume_links.proofs.Inserted.{got_other, got_set, inserted_at, inserted_set, order_stays, passed, set_back, sets_swap}
use Rattle.volume_links.proofs.LinkKeeps.{link_keeps}
use Rattle.volume_links.proofs.LinkBare.{bare_is, bare_link, link_entry, link_facts, link_file, link_forks}

abbrev no_bytes : List ℕ
no_bytes = []

none_left : (n : ℕ) → drop n no_bytes ≡ no_bytes
none_left zero = refl
none_left (suc n) = refl

append_none : (xs : List ℕ) → xs ++ [] ≡ xs
append_none [] = refl
append_none (x ∷ xs) = ap (λ l. x ∷ l) (append_none xs)

from_nothing : (value : List ℕ) → written_bytes 0 value [] ≡ value
from_nothing value = ap (λ l. value ++ l) (none_left (0 + length value)) ∙ append_none value

module _ (folder : ℕ) (name : List ℕ) (fork : ForkRecord) (o : VolumeState) (full new : List Pair) (tree1 tree2 : TreeFacts) (fits : FitsFile (link_file o.head.next_catalog_id o.head.modify_date fork))
    (added : AddsEntry (link_entry folder name o.head.next_catalog_id o.head.modify_date fork) o.catalog_pairs full) (nodes : HasSameNodes o.catalog_tree tree1) (sorted : AreSorted full) (sorted_new : AreSorted new)
    (touched : ChangesFields folder (IsTouched o.head.modify_date 1 0) (record o { head = with_made false o.head; catalog_pairs = full; catalog_tree = tree1 }) (record o { head = with_made false o.head; catalog_pairs = new; catalog_tree = tree2 }))
    (other : link_entry folder name o.head.next_catalog_id o.head.modify_date fork ≡ touched.entry → ⊥)
  where
    abbrev id : ℕ
    id = o.head.next_catalog_id

    abbrev moment : ℕ
    moment = o.head.modify_date

    abbrev entry : Placed
    entry = link_entry folder name o.head.next_catalog_id o.head.modify_date fork

    abbrev bare : FileRecord
    bare = link_file o.head.next_catalog_id o.head.modify_date no_fork

    abbrev bare_entry : Placed
    bare_entry = link_entry folder name o.head.next_catalog_id o.head.modify_date no_fork

    abbrev bare_pair : Pair
    bare_pair = (added.pair.0, catalog_bytes (File (link_file o.head.next_catalog_id o.head.modify_date no_fork)))

    bare_fits : FitsFile (link_file o.head.next_catalog_id o.head.modify_date no_fork)
    bare_fits = record { fields = fits.fields; data_fork = fits.resource_fork; resource_fork = fits.resource_fork }

    bare_spells : Spells (link_entry folder name o.head.next_catalog_id o.head.modify_date no_fork) bare_pair
    unfolding placed_of
    bare_spells = record {
      stands = λ i. record { parent = (added.is_entry.stands i).parent; name = (added.is_entry.stands i).name; value = file_back bare bare_fits i };
      spelled = no_fault (catalog_bytes (File bare)) (file_spells bare bare_fits);
    }

    -- ---- where it stands

    first : slice_get added.between added.entry_added.place ≡ Some added.pair
    first = ap (λ (l : List Pair). slice_get l added.entry_added.place) added.entry_added.is ∙ inserted_at added.pair o.catalog_pairs added.entry_added.place added.entry_added.within

    pub stands_at : (q : ℕ) × (slice_get (insert added.between added.thread_added.place added.thread) q ≡ Some added.pair) × (insert (slice_set added.between added.entry_added.place bare_pair) added.thread_added.place added.thread ≡ slice_set (insert added.between added.thread_added.place added.thread) q bare_pair)
    stands_at = passed added.pair bare_pair added.thread added.between added.thread_added.place added.entry_added.place first

    abbrev q : ℕ
    q = stands_at.0

    got : slice_get full stands_at.0 ≡ Some added.pair
    got = ap (λ (l : List Pair). slice_get l stands_at.0) added.thread_added.is ∙ stands_at.1

    -- ---- it was added without its fork

    abbrev bare_full : List Pair
    bare_full = slice_set full stands_at.0 bare_pair

    bare_between : slice_set added.between added.entry_added.place bare_pair ≡ insert o.catalog_pairs added.entry_added.place bare_pair
    bare_between = ap (λ (l : List Pair). slice_set l added.entry_added.place bare_pair) added.entry_added.is ∙ inserted_set added.pair bare_pair o.catalog_pairs added.entry_added.place added.entry_added.within

    bare_is_full : bare_full ≡ insert (insert o.catalog_pairs added.entry_added.place bare_pair) added.thread_added.place added.thread
    bare_is_full = ap (λ (l : List Pair). slice_set l stands_at.0 bare_pair) added.thread_added.is ∙ sym stands_at.2 ∙ ap (λ (l : List Pair). insert l added.thread_added.place added.thread) bare_between

    bare_added : AddsEntry (link_entry folder name o.head.next_catalog_id o.head.modify_date no_fork) o.catalog_pairs bare_full
    bare_added = record {
      between = insert o.catalog_pairs added.entry_added.place bare_pair;
      pair = bare_pair;
      is_entry = bare_spells;
      entry_added = record { place = added.entry_added.place; within = added.entry_added.within; is = refl };
      thread = added.thread;
      spare = added.spare;
      is_thread = record { stands = added.is_thread.stands; spelled = added.is_thread.spelled };
      thread_added = record {
        place = added.thread_added.place;
        within = omega (
          arith,
          added.thread_added.within,
          ap (λ (l : List Pair). length l) added.entry_added.is,
          length-insert o.catalog_pairs added.entry_added.place added.pair added.entry_added.within,
          length-insert o.catalog_pairs added.entry_added.place bare_pair added.entry_added.within,
        );
        is = bare_is_full;
      };
    }

    -- ---- the folder above counts it

    apart : touched.changes.changes.swapped.place ≢ stands_at.0
    apart same =
        let one : Some touched.changes.changes.pair ≡ Some added.pair = sym touched.changes.changes.swapped.at ∙ ap (slice_get full) same ∙ got in
        other (sym added.is_entry.stands ∙ ap placed_of (sym (some_same touched.changes.changes.pair added.pair one)) ∙ touched.changes.changes.is_entry)

    got_new : slice_get new stands_at.0 ≡ Some added.pair
    got_new =
        ap (λ (l : List Pair). slice_get l stands_at.0) touched.changes.changes.swapped.is
        ∙ got_other touched.changes.changes.other full touched.changes.changes.swapped.place stands_at.0 apart ∙ got

    abbrev bare_new : List Pair
    bare_new = slice_set new stands_at.0 bare_pair

    abbrev bare_state : VolumeState
    bare_state = record o { head = with_made false o.head; catalog_pairs = bare_full; catalog_tree = tree1 }

    abbrev pub made : VolumeState
    made = record o { head = with_made false o.head; catalog_pairs = bare_new; catalog_tree = tree2 }

    bare_counts : ChangesFields folder (IsTouched o.head.modify_date 1 0) bare_state made
    bare_counts = record {
      entry = touched.entry;
      before = touched.before;
      after = touched.after;
      has = touched.has;
      is_entry = touched.is_entry;
      fields = touched.fields;
      changes = record {
        changes = record {
          pair = touched.changes.changes.pair;
          is_entry = touched.changes.changes.is_entry;
          other = touched.changes.changes.other;
          is_other = touched.changes.changes.is_other;
          swapped = record {
            place = touched.changes.changes.swapped.place;
            at = got_other bare_pair full stands_at.0 touched.changes.changes.swapped.place (λ same. apart (sym same)) ∙ touched.changes.changes.swapped.at;
            is = ap (λ (l : List Pair). slice_set l stands_at.0 bare_pair) touched.changes.changes.swapped.is
                ∙ sets_swap touched.changes.changes.other bare_pair full touched.changes.changes.swapped.place stands_at.0 apart;
          };
          alike = touched.changes.changes.alike;
          forks = touched.changes.changes.forks;
        };
        nodes = touched.changes.nodes;
        rest = refl;
      };
    }

    parts_full : Splits entry bare_entry (placed_in full) (placed_in bare_full)
    parts_full = pairs_split entry bare_entry added.pair bare_pair full bare_full (record { place = stands_at.0; at = got; is = refl }) added.is_entry.stands bare_spells.stands

    parts_new : Splits entry bare_entry (placed_in new) (placed_in bare_new)
    parts_new = pairs_split entry bare_entry added.pair bare_pair new bare_new (record { place = stands_at.0; at = got_new; is = refl }) added.is_entry.stands bare_spells.stands

    sorted_bare : AreSorted bare_full
    sorted_bare = subst (IsInOrder placed_before) (sym parts_full.is) (order_stays entry bare_entry parts_full.front parts_full.back refl refl (subst (IsInOrder placed_before) parts_full.was sorted))

    sorted_made : AreSorted bare_new
    sorted_made = subst (IsInOrder placed_before) (sym parts_new.is) (order_stays entry bare_entry parts_new.front parts_new.back refl refl (subst (IsInOrder placed_before) parts_new.was sorted_new))

    enters : Enters false (free_place folder name) o made
    enters = record {
      value = new_link_value o.head.next_catalog_id o.head.modify_date no_fork;
      added = bare_state;
      adds = record { changes = bare_added; nodes = nodes; rest = refl };
      sorted = sorted_bare;
      counts = bare_counts;
    }

    bare_there : Contains (placed_in bare_new) bare_entry
    bare_there = subst (λ l. Contains l bare_entry) (sym parts_new.is) (Contains-append_right parts_new.front (bare_entry ∷ parts_new.back) bare_entry (at_front bare_entry parts_new.back))

    module _ (bytes_of : BytesOf) (are : AreBytesOf bytes_of) (sound : IsSoundVolume o) (path : List (List ℕ)) (not_private : is_private_path path ≡ false) (named : is_empty (last_name path) ≡ false) (may : to_make (tree_in o bytes_of) path ≡ Ok (free_place folder name))
        (has_name : is_empty name ≡ false) (not_private_folder : is_placed_at 2 private_name bare_entry ≡ false)
      where
        entered : IsSoundVolume made × (tree_in made bytes_of ≡ made_as false (bare_link o.head.next_catalog_id o.head.modify_date) (free_place folder name) (tree_in o bytes_of))
        unfolding enters
        entered = enters_does false path (free_place folder name) o made bytes_of are sound not_private named may (bare_link o.head.next_catalog_id o.head.modify_date) enters
            (link_facts o.head.next_catalog_id o.head.modify_date bytes_of (new_link_value o.head.next_catalog_id o.head.modify_date no_fork) are (bare_is o.head.next_catalog_id o.head.modify_date))
            (λ overflow none. link_forks o.head.next_catalog_id o.head.modify_date (with_made false o.head) overflow (new_link_value o.head.next_catalog_id o.head.modify_date no_fork) (bare_is o.head.next_catalog_id o.head.modify_date) none)

        pub made_sound : IsSoundVolume made
        made_sound = entered.0

        is_record : IsRecordOf kinds.Data o.head.modify_date folder name fork (link_file o.head.next_catalog_id o.head.modify_date no_fork) bare_new new
        is_record = record {
          updates = record {
            entry = bare_entry;
            found = at_place bare_new made_sound.entries.threads sorted_made bare_entry bare_there;
            pair = bare_pair;
            is_entry = bare_spells;
            other = added.pair;
            is_other = record { stands = added.is_entry.stands; spelled = added.is_entry.spelled };
            swapped = record {
              place = stands_at.0;
              at = got_set added.pair bare_pair new stands_at.0 got_new;
              is = sym (set_back added.pair bare_pair new stands_at.0 got_new);
            };
          };
          value = refl;
          no_link = (bare_is o.head.next_catalog_id o.head.modify_date).2;
          fits = bare_fits;
          fits_fork = fits.data_fork;
        }

        pub link_keeps_forks : Keeps o made
        unfolding enters
        link_keeps_forks = link_keeps (free_place folder name) o made sound made_sound has_name enters (bare_is o.head.next_catalog_id o.head.modify_date)

        -- the private folder is still the one that is kept
        kind_stays : (fields : EntryFields) (value : CatRecord) → is_thread (with_fields (λ _. fields) value) ≡ is_thread value
        kind_stays fields (Folder f) = refl
        kind_stays fields (File f) = refl
        kind_stays fields (Thread t) = refl

        abbrev counted_value : CatRecord
        counted_value = with_fields (λ _. touched.after) touched.entry.value

        parts_counted : Splits touched.entry (record touched.entry { value = counted_value }) (placed_in bare_full) (placed_in bare_new)
        unfolding bare_counts
        parts_counted = placed_splits touched.entry counted_value bare_full bare_new bare_counts.changes.changes

        above_named : is_empty touched.entry.name ≡ false
        above_named =
            sym (each_of (λ (p : Placed). is_thread p.value ≡ is_empty p.name) (placed_in bare_new) made_sound.entries.threads.kinds (record touched.entry { value = counted_value })
            (subst (λ l. Contains l (record touched.entry { value = counted_value })) (sym parts_counted.is) (Contains-append_right parts_counted.front (record touched.entry { value = counted_value } ∷ parts_counted.back) (record touched.entry { value = counted_value }) (at_front (record touched.entry { value = counted_value }) parts_counted.back))))
            ∙ kind_stays touched.after touched.entry.value ∙ not_thread touched.entry.value touched.before touched.has

        private_full : private_id (placed_in bare_full) ≡ private_id (placed_in o.catalog_pairs)
        unfolding bare_added
        private_full = private_kept bare_entry (placed_in o.catalog_pairs) (placed_in bare_added.between) (placed_in bare_full)
            (placed_adds bare_entry bare_pair o.catalog_pairs bare_added.between bare_added.entry_added bare_spells.stands)
            (placed_adds (thread_with added.spare bare_entry) added.thread bare_added.between bare_full bare_added.thread_added added.is_thread.stands) not_private_folder

        pub private_staged : private_id (placed_in new) ≡ private_id (records_of o)
        private_staged =
            private_again kinds.Data o.head.modify_date folder name fork (link_file o.head.next_catalog_id o.head.modify_date no_fork) made (record made { catalog_pairs = new }) is_record made_sound
            ∙ ap private_id parts_counted.is ∙ private_same touched.entry counted_value parts_counted.front parts_counted.back above_named touched.changes.changes.alike ∙ sym (ap private_id parts_counted.was) ∙ private_full

        stood_made : Contains (entries_of (records_of made)) bare_entry
        unfolding is_record
        stood_made = stood kinds.Data o.head.modify_date folder name fork (link_file o.head.next_catalog_id o.head.modify_date no_fork) made (record made { catalog_pairs = new }) is_record made_sound

        -- its file is a user's
        pub link_user : ((folder == 2) && is_private_name name) ≡ false → IsUserFile o.head.next_catalog_id made
        link_user not_own other_entry stands number aside =
            let same : other_entry ≡ bare_entry = same_entry made.head.next_catalog_id (entries_of (records_of made)) made_sound.entries.ids other_entry bare_entry stands stood_made number in
            true≢false (sym (λ i. (eq-eqb folder 2 (sym (ap (λ (p : Placed). p.parent) same) ∙ aside.0) i) && ((sym (ap (λ (p : Placed). is_private_name p.name) same) ∙ aside.1) i)) ∙ not_own)

        module _ (free : ℕ) (bits : List Bool) (fresh : List ℕ) (more : List Extent) (are_fresh : AreFresh o fresh) (counts : free + length fresh ≡ o.head.free_blocks) (gets : fork.extents ≡ eight_at more 0) (few : length more ≤ 8)
            (total : fork.total_blocks ≡ length (blocks_of more)) (holds : fork.logical_size ≤ length (blocks_of more) * o.head.block_size) (blocks : blocks_of more ≡ fresh) (flips : FlipsBits fresh [] o (record o { bits = bits }))
          where
            abbrev pub final : VolumeState
            final = record o { head = with_free free o.head.next_allocation (with_made false o.head); catalog_pairs = new; catalog_tree = tree2; bits = bits }

            stood_bare : Contains (entries_of (records_of made)) bare_entry
            stood_bare = stood_made

            none_over : overflow_in (overflow_in_volume o) o.head.next_catalog_id data_kind ≡ []
            none_over = no_more _ no_fork.extents.extents (overflow_in (overflow_in_volume o) o.head.next_catalog_id data_kind) refl (omega arith)
                (each_of (GoesOn (overflow_in_volume o)) (forks_of made) made_sound.blocks.forks.goes_on (data_fork_of bare) (file_fork_stands made bare_entry bare stood_bare refl))

            no_extents : extents_of (overflow_in_volume o) o.head.next_catalog_id data_kind no_fork ≡ []
            unfolding extents_of
            no_extents = ap (λ (l : List Overflow). in_use no_fork.extents.extents ++ flat_map (λ (m : Overflow). in_use m.extents) l) none_over

            pub keeps_it : HoldsFork o.head.next_catalog_id data_kind fork more (overflow_in_volume o) (overflow_in_volume o)
            keeps_it = holds_few o.head.next_catalog_id data_kind no_fork fork more (overflow_in_volume o) refl (omega (arith, ap (λ (l : List Extent). length l) no_extents)) gets few
                (each_of (GoesOn (overflow_in_volume o)) (forks_of made) made_sound.blocks.forks.goes_on (data_fork_of bare) (file_fork_stands made bare_entry bare stood_bare refl))

            are_fresh_made : AreFresh made fresh
            are_fresh_made = record { inside = are_fresh.inside; free = are_fresh.free; once = are_fresh.once }

            blocks_are : blocks_of more ≡ take 0 (blocks_of (extents_of (overflow_in_volume o) o.head.next_catalog_id data_kind no_fork)) ++ (fresh ++ drop 0 (blocks_of (extents_of (overflow_in_volume o) o.head.next_catalog_id data_kind no_fork)))
            blocks_are = blocks ∙ sym (ap (λ (l : List Extent). take 0 (blocks_of l) ++ (fresh ++ drop 0 (blocks_of l))) no_extents ∙ append_none fresh)
              where
                append_none : (xs : List ℕ) → xs ++ [] ≡ xs
                append_none [] = refl
                append_none (x ∷ xs) = ap (λ l. x ∷ l) (append_none xs)

            below : (block : ℕ) → Contains (blocks_of more) block → block < o.head.total_blocks
            below block here = each_of (λ (k : ℕ). k < o.head.total_blocks) fresh are_fresh.inside block (subst (λ (l : List ℕ). Contains l block) blocks here)

            flips_made : FlipsBits fresh [] made (record made { bits = bits })
            flips_made = record { size = flips.size; taken = flips.taken; given = flips.given; others = flips.others }

            pub writes : RewritesFork o.head.next_catalog_id data_kind 0 0 fresh made final
            writes = rewrites kinds.Data 0 0 o.head.modify_date folder name fork bare fresh made final is_record made_sound refl (record { total = refl; size = refl }) free (omega (arith, counts)) refl are_fresh_made more
                keeps_it (record { total = refl; size = refl }) total holds blocks_are (omega arith) flips_made below

            pub makes_link : MakesLink (free_place folder name) fresh o final
            makes_link = record {
              value = new_link_value o.head.next_catalog_id o.head.modify_date no_fork;
              is_new = bare_is o.head.next_catalog_id o.head.modify_date;
              added = bare_state;
              adds = record { changes = bare_added; nodes = nodes; rest = refl };
              sorted = sorted_bare;
              made = made;
              counts = bare_counts;
              writes = writes;
            }

            -- the target is the bytes of its file
            pub makes_target : (target : List ℕ) → bytes_of.file (link_file o.head.next_catalog_id o.head.modify_date fork) ≡ record { data_bytes = target; resource_bytes = [] } → MakesBytes (written_bytes 0 target) makes_link.writes bytes_of bytes_of
            unfolding makes_link writes
            makes_target target is = makes kinds.Data 0 0 o.head.modify_date folder name fork bare fresh made final is_record made_sound refl (record { total = refl; size = refl }) free (omega (arith, counts)) refl are_fresh_made more
                keeps_it (record { total = refl; size = refl }) total holds blocks_are (omega arith) flips_made below (written_bytes 0 target) bytes_of bytes_of
                (is ∙ (λ i. record { data_bytes = sym (from_nothing target) i; resource_bytes = [] }) ∙ sym (ap (in_fork data_kind (written_bytes 0 target)) (are.none bare refl refl)))
                (λ p file stands value differs. refl, refl)
