-- `ln` of a file with one name: behind its move into the private folder, the links at both names, the counts and the file's date the volume is settled
-- again, and its tree is the step's.
use Rattle.std.proofs.Common.{◌≡◌, inl, ◌<◌, ◌≤◌, ℕ, ◌+◌, ◌^◌, Bool, true, false, List, [], refl, sym, ◌∙◌, ap, subst, arith, ⊎_elim}
use Rattle.std.specs.Prelude.{Contains, ◌==◌, ◌&&◌, nat_lt, Option, None, Some, is_some, if◌then◌else◌}
use Rattle.std.specs.Str.{bytes_eq}
use Rattle.std.proofs.lemmas.Bool.{and_parts, eqb-true, true≢false}
use Rattle.std.proofs.lemmas.Slice.Eq.{bytes_eq-Decides}
use Rattle.sector_disk.specs.Lists.{Content}
use Rattle.sector_disk.specs.Space.{Space}
use Rattle.jnl_format.specs.Recovery.{header_of_volume}
use Rattle.btree_node.specs.Keys.{IsCatalogKey}
use Rattle.btree_node.specs.Levels.{Pair}
use Rattle.btree_node.specs.TreeFile.{store_of}
use Rattle.btree_file.specs.Held.{file_in}
use Rattle.btree_file.specs.State.{sectors_of_tree}
use Rattle.cat_records.specs.declared.record.CatRecord.{CatRecord}
use Rattle.cat_records.specs.declared.record.CatRecord.TheVariants.{Folder, File, Thread}
use Rattle.cat_records.specs.declared.record.ThreadRecord.{ThreadRecord}
use Rattle.catalog.proofs.Beside.{false_so, id_is_used, its_place, left_vacant, named_beside, none_is_some, not_at, other_parent, stands_there, thread_beside}
use Rattle.catalog.specs.Entries.{RelocatesEntry}
use Rattle.hard_links.specs.Linking.{link_record}
use Rattle.hfs_language.specs.declared.command.Command.TheVariants as command
use Rattle.hfs_model.specs.Step.{journal_info_name, journal_name, private_name, step}
use Rattle.hfs_model.specs.declared.plain.PlainEntry.{PlainEntry}
use Rattle.hfs_volume.specs.Changes.{AddsEntry, AreSorted, HasSameNodes, InCatalog, MovesEntry}
use Rattle.hfs_volume.specs.Commands.{ChangesFields, IsMarkedLinked, IsRecounted, IsTouched, entry_in, with_counts}
use Rattle.hfs_volume.specs.Content.{VolumeState, records_of, volume_of}
use Rattle.hfs_volume.specs.Entries.{AreThreaded, IsUserId, count_in, is_it}
use Rattle.hfs_volume.specs.Laws.{IsFolderId, one_if}
use Rattle.hfs_volume.specs.Links.{folder_id, node_name, private_id}
use Rattle.hfs_volume.specs.Naming.{LinksFirst, LnDoes, private_ids}
use Rattle.hfs_volume.specs.Records.{Placed, entries_of, id_of, is_empty, is_file, is_folder, is_link, is_placed_at, is_thread, placed_in, record_at, special_of, valence_in}
use Rattle.hfs_volume.specs.Sound.{IsSoundVolume}
use Rattle.hfs_volume.specs.TreeOf.{bytes_in, id_or_0, is_hidden, shared_file, tree_in, tree_of}
use Rattle.hfs_volume.proofs.Ascending.{tree_sorted}
use Rattle.hfs_volume.proofs.Bytes.{file_bytes_are}
use Rattle.hfs_volume.proofs.Fields.{id_of_fields}
use Rattle.hfs_volume.proofs.Flat.{found_some}
use Rattle.hfs_volume.proofs.Hiding.{hidden_is_computed, one_there, private_is}
use Rattle.hfs_volume.proofs.Members.{each_of}
use Rattle.hfs_volume.proofs.Named.{IsSeenName, named_entry}
use Rattle.hfs_volume.proofs.Seeing.{private_kept, same_number}
use Rattle.hfs_volume.proofs.Sides.{OneMore, count_more, entry_cases, is_entry_of, one_more, still_entry, the_entry, threads_without}
use Rattle.hfs_volume.proofs.Threading.{threads_kept}
use Rattle.volume_header.specs.declared.header.VolumeHeader.{VolumeHeader}
use Rattle.volume_base.specs.Changing.{ChangesCatalog, HasFolder, TouchesFolder}
use Rattle.volume_base.specs.Linking.{IsLinking}
use Rattle.volume_base.specs.Lists.{lists_of, facts_on}
use Rattle.volume_base.specs.Losing.{IsOnlyName}
use Rattle.volume_base.specs.Making.{free_place}
use Rattle.volume_names.specs.Sharing.{PutsLink, SharesFile, with_two_made}
use Rattle.volume_base.specs.Standing.{HoldsTrees, IsSettled, IsStanding}
use Rattle.volume_names.specs.Unlinking.{HasShared, SaysLinks}
use Rattle.volume_base.specs.declared.volume.Volume.{Volume}
use Rattle.volume_names.proofs.Buried.{recounted}
use Rattle.volume_names.proofs.Carried.{AreCarried, both_carry, fields_carry, fields_private, fields_stay, then_fields, threads_changed}
use Rattle.volume_base.proofs.Counted.{counts_low}
use Rattle.volume_names.proofs.LinkMade.{above, allowed, has_name, head_is, link_value, pair, pairs_are, vacant}
use Rattle.volume_base.proofs.ListsAfter.{changes_both}
use Rattle.volume_base.proofs.ListsAgain.{lists_again}
use Rattle.volume_names.proofs.Made.{entry_still, third_false}
use Rattle.volume_base.proofs.Rising.{settled_sorted}
use Rattle.volume_base.proofs.Settling.{lists_then, settles_again, tree_again}

abbrev entry_or : Placed → Option Placed → Placed
entry_or other None = other
entry_or other (Some p) = p

never : (b : Bool) → (b && false) ≡ false
never true = refl
never false = refl

is_a_thread : (value : CatRecord) → is_thread value ≡ true → (thread : ThreadRecord) × (value ≡ Thread thread)
is_a_thread (Folder folder) is = absurd (true≢false (sym is))
is_a_thread (File file) is = absurd (true≢false (sym is))
is_a_thread (Thread thread) is = (thread, refl)

pub file_no_thread : (value : CatRecord) → is_file value ≡ true → is_thread value ≡ false
file_no_thread (Folder folder) is = absurd (true≢false (sym is))
file_no_thread (File file) is = refl
file_no_thread (Thread thread) is = absurd (true≢false (sym is))

file_no_folder : (value : CatRecord) → is_file value ≡ true → is_folder value ≡ false
file_no_folder (Folder folder) is = absurd (true≢false (sym is))
file_no_folder (File file) is = refl
file_no_folder (Thread thread) is = absurd (true≢false (sym is))

-- a header that counts two links more, where the private folder is there
two_counts : (k : ℕ) → k ≡ 0 → (h : VolumeHeader) → with_counts (h.next_catalog_id + k + 2) (h.file_count + 2) (h.folder_count + k) h ≡ with_two_made h
two_counts k none h =
    let next : h.next_catalog_id + k + 2 ≡ h.next_catalog_id + 2 = omega (arith, none) in
    let folders : h.folder_count + k ≡ h.folder_count = omega (arith, none) in
    λ i. with_counts (next i) (h.file_count + 2) (folders i) h

module _ (v : Volume) (a : Space) (settled : IsSettled v a.content) (was : IsStanding v a) (from to : List (List ℕ)) (at : PlainEntry) (parent : ℕ) (old : List ℕ) (id folder : ℕ) (name : List ℕ)
    (linking : IsLinking (tree_of a.content) from to at parent old id folder name) (only : IsOnlyName (record { parent = parent; name = old }) (lists_of v a.content).catalog_pairs) (private : ℕ) (here : v.private ≡ Some private)
    (ids_fit : v.header.next_catalog_id + 2 < 2 ^ 32)
  where
    abbrev volume : VolumeState
    volume = volume_of a.content

    pairs : (volume_of a.content).catalog_pairs ≡ (lists_of v a.content).catalog_pairs
    pairs = pairs_are v a settled was from to at parent old id folder name linking

    head : (volume_of a.content).head ≡ v.header
    head = head_is v a settled was from to at parent old id folder name linking

    next_is : (volume_of a.content).head.next_catalog_id ≡ v.header.next_catalog_id
    next_is = ap (λ (h : VolumeHeader). h.next_catalog_id) head

    private_here : private_id (records_of (volume_of a.content)) ≡ Some private
    private_here = sym settled.private ∙ here

    private_folder : IsFolderId (entries_of (records_of (volume_of a.content))) private
    private_folder = let p = private_is (records_of (volume_of a.content)) private private_here in (p.0, p.1, p.2, p.3)

    goal_folder : IsFolderId (entries_of (records_of (volume_of a.content))) folder
    goal_folder = above v a settled was from to at parent old id folder name linking

    goal_named : is_empty name ≡ false
    goal_named = has_name v a settled was from to at parent old id folder name linking

    -- links stand outside of the private folder
    pub outside : folder ≡ private → ⊥
    outside same =
        true≢false (sym ((hidden_is_computed (records_of (volume_of a.content)) (volume_of a.content).head.next_catalog_id private settled.sound.entries.ids settled.sound.entries.rooted).0 (private, private_here, is_it))
        ∙ sym (ap (λ n. is_hidden (records_of (volume_of a.content)) n) same) ∙ (pair v a settled was from to at parent old id folder name linking).0.folder.visible)

    -- each folder counts less than there are CNIDs
    valence_low : (y : Placed) → Contains (entries_of (records_of (volume_of a.content))) y → is_folder y.value ≡ true → valence_in y.value + 2 < 2 ^ 32
    valence_low y stands kind =
        omega (
          arith,
          each_of (λ (p : Placed). is_folder p.value ≡ true → valence_in p.value ≡ count_in (entries_of (records_of (volume_of a.content))) (id_of p)) (entries_of (records_of (volume_of a.content))) settled.sound.entries.counts.valences y stands kind,
          counts_low (volume_of a.content).head.next_catalog_id (entries_of (records_of (volume_of a.content))) settled.sound.blocks.header.next_id settled.sound.entries.ids (λ (p : Placed). p.parent == id_of y),
          next_is,
          ids_fit,
        )

    has_folder : (more up : ℕ) → more + up ≤ 2 → (n : ℕ) (l : List Pair) → AreCarried more (volume_of a.content).catalog_pairs l → IsFolderId (entries_of (records_of (volume_of a.content))) n → HasFolder n up l
    has_folder more up few n l carry of =
        let it = carry of.0 of.1 in
        record { entry = it.0; stands = it.1; number = it.2.id ∙ of.3; folder = it.2.folder ∙ of.2; fits = omega (arith, few, it.2.count, valence_low of.0 of.1 of.2) }

    -- no record stands under a CNID that is still to be given
    unused_from : (n : ℕ) → (volume_of a.content).head.next_catalog_id ≤ n → record_at (placed_in (volume_of a.content).catalog_pairs) n [] ≡ None
    unused_from n high = by (record_at (placed_in (volume_of a.content).catalog_pairs) n []) refl
      where
        by : (o : Option Placed) → record_at (placed_in (volume_of a.content).catalog_pairs) n [] ≡ o → o ≡ None
        by None found = refl
        by (Some p) found =
            let there = found_some (is_placed_at n []) (placed_in (volume_of a.content).catalog_pairs) p found in
            let tests = and_parts (p.parent == n) (bytes_eq p.name []) there.1 in
            let empty : p.name ≡ [] = (bytes_eq-Decides p.name []).0 tests.1 in
            let thread = is_a_thread p.value (each_of (λ (q : Placed). is_thread q.value ≡ is_empty q.name) (placed_in (volume_of a.content).catalog_pairs) settled.sound.entries.threads.kinds p there.0 ∙ ap is_empty empty) in
            let owner = settled.sound.entries.threads.named p thread.0 there.0 thread.1 in
            let same : id_of owner.0 ≡ n = owner.2 ∙ eqb-true p.parent n tests.0 in
            absurd (⊎_elim
            (λ (two : id_of owner.0 ≡ 2). omega (arith, two, same, high, settled.sound.blocks.header.next_id))
            (λ (user : (16 ≤ id_of owner.0) × (id_of owner.0 < (volume_of a.content).head.next_catalog_id)). omega (arith, user.1, same, high))
            (each_of (λ (q : Placed). IsUserId (volume_of a.content).head.next_catalog_id (id_of q)) (entries_of (placed_in (volume_of a.content).catalog_pairs)) settled.sound.entries.ids.each owner.0 owner.1))

    -- ---- the file in the private folder

    module _ (reference : ℕ) (low : nat_lt reference (2 ^ 32) ≡ true) (free : record_at (placed_in (lists_of v a.content).catalog_pairs) private (node_name reference) ≡ None) (w : Volume) (b : Content) (shares : SharesFile parent old private reference v w a.content b)
        (holds_w : HoldsTrees w b)
      where
        shared : RelocatesEntry parent old private (node_name reference) (volume_of a.content).catalog_pairs (lists_of w b).catalog_pairs
        shared = subst (λ (l : List Pair). RelocatesEntry parent old private (node_name reference) l (lists_of w b).catalog_pairs) (sym pairs) shares.moves

        abbrev entry : Placed
        entry = shared.entry

        abbrev gone : Placed
        gone = record shared.entry { parent = private; name = node_name reference }

        there : Contains (records_of (volume_of a.content)) shared.entry × (is_placed_at parent old shared.entry ≡ true)
        there = found_some (is_placed_at parent old) (records_of (volume_of a.content)) shared.entry shared.found

        place_is : (shared.entry.parent ≡ parent) × (shared.entry.name ≡ old)
        place_is = its_place shared.entry parent old there.1

        entry_is : shared.entry ≡ only.names.entry
        entry_is = ap (entry_or shared.entry) (sym shared.found ∙ ap (λ (l : List Pair). record_at (placed_in l) parent old) pairs ∙ only.names.found)

        a_file : is_file shared.entry.value ≡ true
        a_file = ap (λ (p : Placed). is_file p.value) entry_is ∙ only.names.file

        not_link : is_link shared.entry ≡ false
        not_link = ap is_link entry_is ∙ only.not_link

        kind : is_thread shared.entry.value ≡ false
        kind = file_no_thread shared.entry.value a_file

        named : is_empty shared.entry.name ≡ false
        named = sym (each_of (λ (p : Placed). is_thread p.value ≡ is_empty p.name) (records_of (volume_of a.content)) settled.sound.entries.threads.kinds shared.entry there.0) ∙ kind

        old_named : is_empty old ≡ false
        old_named = ap is_empty (sym place_is.1) ∙ named

        entry_stands : Contains (entries_of (records_of (volume_of a.content))) shared.entry
        entry_stands = is_entry_of (records_of (volume_of a.content)) shared.entry there.0 named

        it : IsSeenName (volume_of a.content) (bytes_in a.content) settled.sound at shared.entry
        it = named_entry (volume_of a.content) (bytes_in a.content) settled.sound at shared.entry (settled_sorted v a.content was.trees settled) (pair v a settled was from to at parent old id folder name linking).0.seen entry_stands
            (place_is.0 ∙ sym linking.place.0) (place_is.1 ∙ sym linking.place.1)

        file_id : id_of shared.entry ≡ id
        file_id =
            sym (ap (λ b. if b then id_or_0 (shared_file (records_of (volume_of a.content)) (special_of shared.entry)) else id_of shared.entry) not_link)
            ∙ ap (λ (e : PlainEntry). e.id) it.plain ∙ linking.number

        gone_named : is_empty (node_name reference) ≡ false
        gone_named = refl

        side_out : OneMore shared.entry (placed_in shared.moves.between) (records_of (volume_of a.content))
        side_out = one_more shared.moves.out named

        side_back : OneMore (record shared.entry { parent = private; name = node_name reference }) (placed_in shared.moves.between) (placed_in (lists_of w b).catalog_pairs)
        side_back = one_more shared.moves.back gone_named

        fresh : (p : Placed) → Contains (entries_of (placed_in shared.moves.between)) p → (id_of p == id_of shared.entry) ≡ false
        fresh p stands = by (id_of p == id_of shared.entry) refl
          where
            by : (t : Bool) → (id_of p == id_of shared.entry) ≡ t → t ≡ false
            by false is = refl
            by true is = absurd (omega (
              arith,
              settled.sound.entries.ids.distinct (id_of shared.entry),
              count_more side_out (λ (q : Placed). id_of q == id_of shared.entry),
              ap one_if (same_number (id_of shared.entry)),
              one_there (λ (q : Placed). id_of q == id_of shared.entry) (entries_of (placed_in shared.moves.between)) p stands is,
            ))

        threads_between : AreThreaded shared.moves.between
        threads_between = threads_without shared.entry shared.moves.between (volume_of a.content).catalog_pairs shared.moves.out named (settled_sorted v a.content was.trees settled) fresh settled.sound.entries.threads

        threads_shared : AreThreaded (lists_of w b).catalog_pairs
        threads_shared = threads_kept (record shared.entry { parent = private; name = node_name reference }) shared.moves.between (lists_of w b).catalog_pairs shared.moves.back kind gone_named threads_between

        carried_shared : AreCarried 0 (volume_of a.content).catalog_pairs (lists_of w b).catalog_pairs
        carried_shared y stands = ⊎_elim
            (λ same. (record shared.entry { parent = private; name = node_name reference }, the_entry side_back, record { id = sym (ap id_of same); folder = sym (ap (λ (p : Placed). is_folder p.value) same); count = omega (arith, ap (λ (p : Placed). valence_in p.value) same) }))
            (λ kept. (y, still_entry side_back y kept, record { id = refl; folder = refl; count = omega arith }))
            (entry_cases side_out y stands)

        -- the old name isn't the one in the private folder
        apart : private ≡ parent → node_name reference ≡ old → ⊥
        apart parent_same name_same = none_is_some shared.entry (sym free ∙ ap (λ (l : List Pair). record_at (placed_in l) private (node_name reference)) (sym pairs) ∙ (λ i. record_at (records_of (volume_of a.content)) (parent_same i) (name_same i)) ∙ shared.found)

        pub old_vacant : record_at (placed_in (lists_of w b).catalog_pairs) parent old ≡ None
        old_vacant =
            named_beside (record shared.entry { parent = private; name = node_name reference }) shared.moves.between (lists_of w b).catalog_pairs shared.moves.back gone_named parent old old_named
            (false_so (is_placed_at parent old (record shared.entry { parent = private; name = node_name reference })) (λ is. let own = its_place (record shared.entry { parent = private; name = node_name reference }) parent old is in apart own.0 own.1))
            ∙ (λ i. record_at (placed_in shared.moves.between) (sym place_is.0 i) (sym place_is.1 i)) ∙ left_vacant shared.entry shared.moves.between (volume_of a.content).catalog_pairs shared.moves.out named (settled_sorted v a.content was.trees settled)

        goal_free : record_at (placed_in (volume_of a.content).catalog_pairs) folder name ≡ None
        goal_free = ap (λ (l : List Pair). record_at (placed_in l) folder name) pairs ∙ vacant v a settled was from to at parent old id folder name linking

        goal_vacant : record_at (placed_in (lists_of w b).catalog_pairs) folder name ≡ None
        goal_vacant =
            named_beside (record shared.entry { parent = private; name = node_name reference }) shared.moves.between (lists_of w b).catalog_pairs shared.moves.back gone_named folder name goal_named
            (other_parent (record shared.entry { parent = private; name = node_name reference }) folder name (λ same. outside (sym same)))
            ∙ sym (named_beside shared.entry shared.moves.between (volume_of a.content).catalog_pairs shared.moves.out named folder name goal_named
            (not_at (volume_of a.content).catalog_pairs shared.entry folder name (stands_there shared.entry shared.moves.between (volume_of a.content).catalog_pairs shared.moves.out named) goal_free))
            ∙ goal_free

        still_unused : (n : ℕ) → (volume_of a.content).head.next_catalog_id ≤ n → record_at (placed_in (lists_of w b).catalog_pairs) n [] ≡ None
        still_unused n high =
            let not_own = id_is_used shared.entry shared.moves.between (volume_of a.content).catalog_pairs shared.moves.out named n (unused_from n high) in
            thread_beside (record shared.entry { parent = private; name = node_name reference }) shared.moves.between (lists_of w b).catalog_pairs shared.moves.back gone_named n not_own
            ∙ sym (thread_beside shared.entry shared.moves.between (volume_of a.content).catalog_pairs shared.moves.out named n not_own) ∙ unused_from n high

        pub first_unused : record_at (placed_in (lists_of w b).catalog_pairs) v.header.next_catalog_id [] ≡ None
        first_unused = still_unused v.header.next_catalog_id (omega (arith, next_is))

        -- the old place isn't the new one
        places : folder ≡ parent → name ≡ old → ⊥
        places parent_same name_same = none_is_some shared.entry (sym goal_free ∙ (λ i. record_at (records_of (volume_of a.content)) (parent_same i) (name_same i)) ∙ shared.found)

        -- ---- the links

        module _ (created : ℕ) (x : Volume) (c : Content) (one : PutsLink parent old v.header.next_catalog_id reference created w x b c) (holds_x : HoldsTrees x c) where
          abbrev first_link : Placed
          first_link = entry_in (free_place parent old) (File (link_record v.header.next_catalog_id reference created))

          threads_one : AreThreaded (lists_of x c).catalog_pairs
          threads_one = threads_kept first_link (lists_of w b).catalog_pairs (lists_of x c).catalog_pairs one.adds refl old_named threads_shared

          pub second_vacant : record_at (placed_in (lists_of x c).catalog_pairs) folder name ≡ None
          second_vacant =
              named_beside first_link (lists_of w b).catalog_pairs (lists_of x c).catalog_pairs one.adds old_named folder name goal_named
              (false_so (is_placed_at folder name first_link) (λ is. let own = its_place first_link folder name is in places (sym own.0) (sym own.1))) ∙ goal_vacant

          pub second_unused : record_at (placed_in (lists_of x c).catalog_pairs) (v.header.next_catalog_id + 1) [] ≡ None
          second_unused =
              thread_beside first_link (lists_of w b).catalog_pairs (lists_of x c).catalog_pairs one.adds old_named (v.header.next_catalog_id + 1) (λ (same : v.header.next_catalog_id ≡ v.header.next_catalog_id + 1). omega (arith, same))
              ∙ still_unused (v.header.next_catalog_id + 1) (omega (arith, next_is))

          module _ (y : Volume) (d : Content) (two : PutsLink folder name (v.header.next_catalog_id + 1) reference created x y c d) (holds_y : HoldsTrees y d) where
            abbrev second_link : Placed
            second_link = entry_in (free_place folder name) (File (link_record (v.header.next_catalog_id + 1) reference created))

            pub threads_linked : AreThreaded (lists_of y d).catalog_pairs
            threads_linked = threads_kept second_link (lists_of x c).catalog_pairs (lists_of y d).catalog_pairs two.adds refl goal_named threads_one

            -- what stood behind the move stands still
            stays : (p : Placed) → Contains (entries_of (placed_in (lists_of w b).catalog_pairs)) p → Contains (entries_of (placed_in (lists_of y d).catalog_pairs)) p
            stays p stands = entry_still second_link (lists_of x c).catalog_pairs (lists_of y d).catalog_pairs two.adds p (entry_still first_link (lists_of w b).catalog_pairs (lists_of x c).catalog_pairs one.adds p stands)

            carried_linked : AreCarried 0 (volume_of a.content).catalog_pairs (lists_of y d).catalog_pairs
            carried_linked p stands = let was_there = carried_shared p stands in (was_there.0, stays was_there.0 was_there.1, was_there.2)

            pub private_after : HasFolder private 1 (lists_of y d).catalog_pairs
            private_after = has_folder 0 1 (omega arith) private (lists_of y d).catalog_pairs carried_linked private_folder

            gone_there : Contains (entries_of (placed_in (lists_of y d).catalog_pairs)) (record shared.entry { parent = private; name = node_name reference })
            gone_there = stays (record shared.entry { parent = private; name = node_name reference }) (the_entry side_back)

            -- the file isn't the private folder
            not_private : id ≡ private → ⊥
            not_private same = ⊎_elim
                (λ (is : private_folder.0 ≡ shared.entry). true≢false (sym private_folder.2 ∙ ap (λ (p : Placed). is_folder p.value) is ∙ file_no_folder shared.entry.value a_file))
                (λ left. true≢false (sym (same_number (id_of shared.entry)) ∙ (λ i. ((file_id ∙ same ∙ sym private_folder.3) i) == id_of shared.entry) ∙ fresh private_folder.0 left))
                (entry_cases side_out private_folder.0 private_folder.1)

            module _ (z : Volume) (e : Content) (fills : TouchesFolder private 1 0 y z d e) where
              pub threads_filled : AreThreaded (lists_of z e).catalog_pairs
              threads_filled = threads_changed private (lists_of y d) (lists_of z e) fills.counts threads_linked

              carried_filled : AreCarried 1 (volume_of a.content).catalog_pairs (lists_of z e).catalog_pairs
              carried_filled = both_carry 0 1 (volume_of a.content).catalog_pairs (lists_of y d).catalog_pairs (lists_of z e).catalog_pairs carried_linked
                  (fields_carry private (lists_of y d) (lists_of z e) fills.counts threads_linked 1 (omega (arith, fills.counts.fields.count)))

              pub shared_filled : HasShared id (lists_of z e).catalog_pairs
              shared_filled = record {
                entry = record shared.entry { parent = private; name = node_name reference };
                stands = fields_stay private (lists_of y d) (lists_of z e) fills.counts threads_linked (record shared.entry { parent = private; name = node_name reference }) gone_there
                    (λ same. not_private (sym file_id ∙ ap id_of same ∙ id_of_fields fills.counts.entry.value fills.counts.before fills.counts.has ∙ fills.counts.is_entry));
                number = file_id;
                file = a_file;
                not_link = not_link;
              }

              module _ (had : ℕ) (t : Volume) (f : Content) (says : SaysLinks id 2 had z t e f) where
                pub threads_said : AreThreaded (lists_of t f).catalog_pairs
                threads_said = threads_changed id (lists_of z e) (lists_of t f) says.marks threads_filled

                pub goal_after : HasFolder folder 1 (lists_of t f).catalog_pairs
                goal_after = has_folder 1 1 (omega arith) folder (lists_of t f).catalog_pairs
                    (both_carry 1 0 (volume_of a.content).catalog_pairs (lists_of z e).catalog_pairs (lists_of t f).catalog_pairs carried_filled (fields_carry id (lists_of z e) (lists_of t f) says.marks threads_filled 0 (omega (arith, says.marks.fields.marked.count)))) goal_folder

                -- ---- the law

                module _ (u : Volume) (g : Space) (gains : TouchesFolder folder 1 0 t u f g.content) (stands_u : IsStanding u g) (law : LnDoes) where
                  header_x : x.header ≡ w.header
                  header_x = ap (λ (k : Volume). k.header) one.rest

                  header_y : y.header ≡ w.header
                  header_y = ap (λ (k : Volume). k.header) two.rest ∙ header_x

                  header_z : z.header ≡ w.header
                  header_z = ap (λ (k : Volume). k.header) fills.rest ∙ header_y

                  header_t : t.header ≡ w.header
                  header_t = ap (λ (k : Volume). k.header) says.rest ∙ header_z

                  header_u : u.header ≡ w.header
                  header_u = ap (λ (k : Volume). k.header) gains.rest ∙ header_t

                  moment : w.header.modify_date ≡ (volume_of a.content).head.modify_date
                  moment = ap (λ (h : VolumeHeader). h.modify_date) shares.header ∙ sym (ap (λ (h : VolumeHeader). h.modify_date) head)

                  nodes : HasSameNodes (volume_of a.content).catalog_tree (facts_on w.catalog.file)
                  nodes = record {
                    total = shares.changes.nodes.0 ∙ sym (ap (λ (l : VolumeState). l.catalog_tree.shape.total) settled.lists);
                    size = shares.changes.nodes.1 ∙ sym (ap (λ (l : VolumeState). l.catalog_tree.shape.node_size) settled.lists);
                  }

                  abbrev begun : VolumeState
                  begun = record (volume_of a.content) {
                    head = with_counts ((volume_of a.content).head.next_catalog_id + private_ids (records_of (volume_of a.content)) + 2) ((volume_of a.content).head.file_count + 2)
                        ((volume_of a.content).head.folder_count + private_ids (records_of (volume_of a.content))) (volume_of a.content).head;
                  }

                  none_made : private_ids (records_of (volume_of a.content)) ≡ 0
                  none_made = ap (λ (o : Option ℕ). if is_some o then 0 else 1) private_here

                  begun_is : begun ≡ record (volume_of a.content) { head = with_two_made (volume_of a.content).head }
                  begun_is = ap (λ (h : VolumeHeader). record (volume_of a.content) { head = h }) (two_counts (private_ids (records_of (volume_of a.content))) none_made (volume_of a.content).head)

                  moved_at : InCatalog (MovesEntry shared.entry private (node_name reference)) (record (volume_of a.content) { head = with_two_made (volume_of a.content).head }) (lists_then a.content w b)
                  moved_at = record {
                    changes = shared.moves;
                    nodes = nodes;
                    rest =
                        (λ i. record (shares.changes.lists i) { attributes_tree = (volume_of a.content).attributes_tree })
                        ∙ sym (λ i. record (settled.lists i) { head = w.header; catalog_pairs = (lists_of w b).catalog_pairs; catalog_tree = facts_on w.catalog.file })
                        ∙ (λ i. record (volume_of a.content) { head = (shares.header ∙ ap with_two_made (sym head)) i; catalog_pairs = (lists_of w b).catalog_pairs; catalog_tree = facts_on w.catalog.file });
                  }

                  put_at : (k l : Volume) (m n : Content) (folder_in : ℕ) (name_in : List ℕ) (number : ℕ) → PutsLink folder_in name_in number reference created k l m n
                      → InCatalog (AddsEntry (entry_in (free_place folder_in name_in) (File (link_record number reference created)))) (lists_then a.content k m) (lists_then a.content l n)
                  put_at k l m n folder_in name_in number puts = record {
                    changes = puts.adds;
                    nodes = record { total = puts.changes.nodes.0; size = puts.changes.nodes.1 };
                    rest =
                        (λ i. record (puts.changes.lists i) { attributes_tree = (volume_of a.content).attributes_tree })
                        ∙ (λ i. record (lists_then a.content k m) { head = (ap (λ (r : Volume). r.header) puts.rest) i; catalog_pairs = (lists_of l n).catalog_pairs; catalog_tree = facts_on l.catalog.file });
                  }

                  filled_at : ChangesFields private (IsRecounted 1 0) (lists_then a.content y d) (lists_then a.content z e)
                  filled_at = recounted y.header.modify_date 1 0 private (lists_then a.content y d) (lists_then a.content z e) (then_fields (volume_of a.content).attributes_tree private (lists_of y d) (lists_of z e) fills.counts)

                  marked_at : ChangesFields at.id (IsMarkedLinked (volume_of a.content).head.modify_date 2) (lists_then a.content z e) (lists_then a.content t f)
                  marked_at =
                      subst (λ (k : ℕ × ℕ). ChangesFields k.0 (IsMarkedLinked k.1 2) (lists_then a.content z e) (lists_then a.content t f)) {x = (id, z.header.modify_date)} {y = (at.id, (volume_of a.content).head.modify_date)}
                      (λ i. (sym linking.number i, (ap (λ (h : VolumeHeader). h.modify_date) header_z ∙ moment) i)) (then_fields (volume_of a.content).attributes_tree id (lists_of z e) (lists_of t f) says.marks)

                  gained_at : ChangesFields folder (IsTouched (volume_of a.content).head.modify_date 1 0) (lists_then a.content t f) (lists_then a.content u g.content)
                  gained_at =
                      subst (λ n. ChangesFields folder (IsTouched n 1 0) (lists_then a.content t f) (lists_then a.content u g.content)) (ap (λ (h : VolumeHeader). h.modify_date) header_t ∙ moment)
                      (then_fields (volume_of a.content).attributes_tree folder (lists_of t f) (lists_of u g.content) gains.counts)

                  sorted_in : (k : Volume) (m : Content) → HoldsTrees k m → AreSorted (lists_of k m).catalog_pairs
                  sorted_in k m holds = tree_sorted IsCatalogKey (store_of (file_in (sectors_of_tree k.catalog.file) m)) holds.catalog.file.rules

                  links_first : LinksFirst at (free_place folder name) (volume_of a.content) (lists_then a.content u g.content)
                  links_first = record {
                    sorted = settled_sorted v a.content was.trees settled;
                    entry = shared.entry;
                    is_entry = record { stands = entry_stands; place = (place_is.0 ∙ sym linking.place.0, place_is.1 ∙ sym linking.place.1) };
                    not_link = not_link;
                    private = private;
                    opened = begun;
                    opens = inl (private_here, refl);
                    reference = reference;
                    low = low;
                    moved = lists_then a.content w b;
                    moves = subst (λ (l : VolumeState). InCatalog (MovesEntry shared.entry private (node_name reference)) l (lists_then a.content w b)) (sym begun_is) moved_at;
                    sorted_again = sorted_in w b holds_w;
                    old_link = File (link_record v.header.next_catalog_id reference created);
                    is_old_link = link_value v.header.next_catalog_id ((volume_of a.content).head.next_catalog_id + private_ids (records_of (volume_of a.content))) reference reference created (omega (arith, next_is, none_made)) refl;
                    replaced = lists_then a.content x c;
                    replaces = subst (λ (k : ℕ × List ℕ). InCatalog (AddsEntry (record { parent = k.0; name = k.1; value = File (link_record v.header.next_catalog_id reference created) })) (lists_then a.content w b) (lists_then a.content x c))
                        {x = (parent, old)} {y = (shared.entry.parent, shared.entry.name)} (λ i. (sym place_is.0 i, sym place_is.1 i)) (put_at w x b c parent old v.header.next_catalog_id one);
                    sorted_replaced = sorted_in x c holds_x;
                    new_link = File (link_record (v.header.next_catalog_id + 1) reference created);
                    is_new_link = link_value (v.header.next_catalog_id + 1) ((volume_of a.content).head.next_catalog_id + private_ids (records_of (volume_of a.content)) + 1) reference reference created (omega (arith, next_is, none_made)) refl;
                    linked = lists_then a.content y d;
                    links = put_at x y c d folder name (v.header.next_catalog_id + 1) two;
                    sorted_linked = sorted_in y d holds_y;
                    filled = lists_then a.content z e;
                    fills = filled_at;
                    marked = lists_then a.content t f;
                    marks = marked_at;
                    gains = gained_at;
                  }

                  does : IsSoundVolume (lists_then a.content u g.content) × (tree_in (lists_then a.content u g.content) (bytes_in a.content) ≡ (step (tree_in (volume_of a.content) (bytes_in a.content)) (command.Ln from to)).1)
                  does = law from to at (free_place folder name) (volume_of a.content) (lists_then a.content u g.content) (bytes_in a.content) (file_bytes_are a.content) settled.sound linking.goal_not_own linking.goal_named
                      (allowed v a settled was from to at parent old id folder name linking) (inl links_first)

                  changes : ChangesCatalog v u a.content g.content
                  changes =
                      changes_both v t u a.content f g.content
                      (changes_both v z t a.content e f (changes_both v y z a.content d e (changes_both v x y a.content c d (changes_both v w x a.content b c shares.changes one.changes) two.changes) fills.changes) says.changes) gains.changes

                  headed : header_of_volume g.content ≡ u.header
                  headed = gains.headed ∙ says.headed ∙ fills.headed ∙ two.headed ∙ one.headed ∙ shares.headed ∙ sym header_u

                  side_one : OneMore first_link (placed_in (lists_of w b).catalog_pairs) (placed_in (lists_of x c).catalog_pairs)
                  side_one = one_more one.adds old_named

                  side_two : OneMore second_link (placed_in (lists_of x c).catalog_pairs) (placed_in (lists_of y d).catalog_pairs)
                  side_two = one_more two.adds goal_named

                  old_not_own : ((parent == 2) && bytes_eq old private_name) ≡ false
                  old_not_own = by ((parent == 2) && bytes_eq old private_name) refl
                    where
                      by : (q : Bool) → ((parent == 2) && bytes_eq old private_name) ≡ q → q ≡ false
                      by false is = refl
                      by true is = absurd (
                          let tests = and_parts (parent == 2) (bytes_eq old private_name) is in
                          let found : record_at (records_of (volume_of a.content)) 2 private_name ≡ Some shared.entry =
                          (λ i. record_at (records_of (volume_of a.content)) (sym (eqb-true parent 2 tests.0) i) (sym ((bytes_eq-Decides old private_name).0 tests.1) i)) ∙ shared.found in
                          let no : None ≡ Some private =
                          sym (ap (λ (k : Bool). if k then Some (id_of shared.entry) else None) (file_no_folder shared.entry.value a_file)) ∙ sym (ap folder_id found) ∙ private_here in
                          cc no)

                  private_same : private_id (placed_in (lists_of u g.content).catalog_pairs) ≡ private_id (placed_in (lists_of v a.content).catalog_pairs)
                  private_same =
                      fields_private folder (lists_of t f) (lists_of u g.content) gains.counts threads_said
                      ∙ fields_private id (lists_of z e) (lists_of t f) says.marks threads_filled
                      ∙ fields_private private (lists_of y d) (lists_of z e) fills.counts threads_linked
                      ∙ private_kept second_link (placed_in (lists_of x c).catalog_pairs) side_two.mid (placed_in (lists_of y d).catalog_pairs) side_two.first side_two.second
                      (third_false (folder == 2) (bytes_eq name journal_name) (bytes_eq name journal_info_name) (bytes_eq name private_name) (pair v a settled was from to at parent old id folder name linking).0.not_own)
                      ∙ private_kept first_link (placed_in (lists_of w b).catalog_pairs) side_one.mid (placed_in (lists_of x c).catalog_pairs) side_one.first side_one.second old_not_own
                      ∙ private_kept (record shared.entry { parent = private; name = node_name reference }) (placed_in shared.moves.between) side_back.mid (placed_in (lists_of w b).catalog_pairs) side_back.first side_back.second (never (private == 2))
                      ∙ sym (private_kept shared.entry (placed_in shared.moves.between) side_out.mid (records_of (volume_of a.content)) side_out.first side_out.second ((λ i. (place_is.0 i == 2) && bytes_eq (place_is.1 i) private_name) ∙ old_not_own))
                      ∙ ap (λ (l : List Pair). private_id (placed_in l)) pairs

                  settled_now : IsSettled u g.content
                  settled_now = settles_again v u a g changes settled was stands_u headed does.0 private_same

                  pub first_does : IsSettled u g.content × (tree_of g.content ≡ (step (tree_of a.content) (command.Ln from to)).1) × LinksFirst at (free_place folder name) (volume_of a.content) (volume_of g.content)
                  unfolding tree_of
                  first_does = (
                    settled_now,
                    tree_again v u a g changes settled was stands_u headed does.0 ∙ does.1,
                    subst (λ (l : VolumeState). LinksFirst at (free_place folder name) (volume_of a.content) l) (sym (lists_again v u a g changes settled was settled_now)) links_first,
                  )
