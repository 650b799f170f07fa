-- The lists of a volume of which the end of a file's fork was given back: blocks at the end of that fork are cut.
use Rattle.std.proofs.Common.{◌≡◌, ◌≢◌, ◌⊎◌, inl, inr, ◌<◌, ◌≤◌, ℕ, ◌+◌, ◌-◌, ◌*◌, ◌==◌, Bool, true, false, List, [], ◌∷◌, ◌++◌, length, take, drop, refl, sym, ◌∙◌, ap, subst, arith, length-append, length-take}
use Rattle.std.specs.Prelude.{All, Contains, cond, count_by, find, map, not, Option, Some, if◌then◌else◌}
use Rattle.std.specs.List.{flat_map}
use Rattle.std.proofs.Math.ListN.{drop_of_length-le}
use Rattle.std.proofs.lemmas.Bool.{true≢false}
use Rattle.std.proofs.lemmas.Grind.{flat_map-append}
use Rattle.std.proofs.lemmas.List.{append-nil, length-drop, take_all, take-append-drop}
use Rattle.std.proofs.lemmas.List.Elements.{Contains-append_left, Contains-append_cases}
use Rattle.std.proofs.lemmas.List.Sums.{sum_by-append}
use Rattle.hx_bytes.specs.declared.extents.Extent.{Extent}
use Rattle.hx_bytes.specs.declared.extents.ForkRecord.{ForkRecord}
use Rattle.btree_node.specs.Levels.{Pair}
use Rattle.cat_records.specs.declared.record.CatRecord.{CatRecord}
use Rattle.cat_records.specs.declared.record.CatRecord.TheVariants.{File}
use Rattle.cat_records.specs.declared.record.FileRecord.{FileRecord}
use Rattle.catalog.specs.Entries.{UpdatesEntry}
use Rattle.fork_map.specs.Blocks.{blocks_of}
use Rattle.fork_map.specs.Cut.{front}
use Rattle.hfs_model.specs.Sorted.{kept}
use Rattle.hfs_volume.specs.Blocks.{GoesOn, HasSizes, forks_of}
use Rattle.hfs_volume.specs.Changes.{FlipsBits, HasSameNodes, IsStored, SwapsFork, with_fork, with_free}
use Rattle.hfs_volume.specs.Content.{TreeFacts, VolumeState, is_set, overflow_in_volume, records_of}
use Rattle.hfs_volume.specs.Entries.{IsUserId}
use Rattle.hfs_volume.specs.Forks.{Owned, all_forks, blocks_owned, data_kind, extents_id, extents_of, forks_in, in_use, is_of, overflow_in, resource_kind}
use Rattle.hfs_volume.specs.Reclaim.{blocks_at, blocks_found, is_fork}
use Rattle.hfs_volume.specs.Records.{Overflow, Placed, overflow_of, entries_of, id_in, id_of, is_empty, is_folder, is_link_type, is_placed_at, is_thread, placed_in}
use Rattle.hfs_volume.specs.Sound.{IsSoundVolume}
use Rattle.hfs_volume.specs.Writing.{CutsBlocks, file_after, file_before}
use Rattle.hfs_volume.proofs.Flat.{found_some}
use Rattle.hfs_volume.proofs.Hiding.{one_there, same_entry}
use Rattle.hfs_volume.proofs.Making.{pairs_split}
use Rattle.hfs_volume.proofs.Members.{all_of, at_front, behind, each_of, kept_cases}
use Rattle.hfs_volume.proofs.Reaching.{flat_cases}
use Rattle.hfs_volume.proofs.Seeing.{same_number}
use Rattle.hfs_volume.proofs.Sides.{is_entry_of}
use Rattle.hfs_volume.proofs.Swapping.{Splits}
use Rattle.overflow.specs.Records.{eight_at}
use Rattle.overflow.proofs.Cutting.{AreUsed, eight_used, in_use_used}
use Rattle.overflow.proofs.Whole.{stored_gives, stored_goes_on, used_by, whole_is}
use Rattle.volume_base.specs.Cutting.{IsCutOf, cut_fork_of, fork_at, with_freed}
use Rattle.volume_base.specs.Spreading.{StoresFork}
use Rattle.volume_base.specs.declared.cutting.Cut.{Cut}
use Rattle.volume_base.proofs.CutForks.{fork_found, fork_owned, front_ends, front_used}
use Rattle.volume_base.proofs.NextDrop.{fork_stands}
use Rattle.volume_base.proofs.PlainFiles.{shaped_of}

-- each extent of a fork has blocks
used_both : (xs ys : List Extent) → AreUsed xs → AreUsed ys → AreUsed (xs ++ ys)
used_both [] ys first later = later
used_both (x ∷ xs) ys first later = (first.0, used_both xs ys first.1 later)

used_more : (more : List Overflow) → AreUsed (used_by more)
used_more [] = tt
used_more (one ∷ more) = used_both (in_use one.extents) (used_by more) (in_use_used one.extents) (used_more more)

pub extents_used : (overflow : List Overflow) (id kind : ℕ) (fork : ForkRecord) → AreUsed (extents_of overflow id kind fork)
unfolding extents_of
extents_used overflow id kind fork = used_both (in_use fork.extents.extents) (used_by (overflow_in overflow id kind)) (in_use_used fork.extents.extents) (used_more (overflow_in overflow id kind))

-- and ends where the volume ends, or before
pub extents_end : (total id kind : ℕ) (overflow : List Overflow) (fork : ForkRecord) → id ≢ extents_id → All (λ (e : Extent). e.start + e.count ≤ total) (in_use fork.extents.extents)
    → All (λ (m : Overflow). All (λ (e : Extent). e.start + e.count ≤ total) (in_use m.extents)) overflow → (x : Extent) → Contains (extents_of overflow id kind fork) x → x.start + x.count ≤ total
extents_end total id kind overflow fork other first later x has = elim (Contains-append_cases (in_use fork.extents.extents) (used_by (kept (is_of id kind) overflow)) x (subst (λ (l : List Extent). Contains l x) (whole_is overflow id kind fork other) has)) [
  | inl own ↦ each_of (λ (e : Extent). e.start + e.count ≤ total) (in_use fork.extents.extents) first x own
  | inr behind_it ↦
      let found = flat_cases (λ (m : Overflow). in_use m.extents) (kept (is_of id kind) overflow) x behind_it in
      each_of (λ (e : Extent). e.start + e.count ≤ total) (in_use found.0.extents)
      (each_of (λ (m : Overflow). All (λ (e : Extent). e.start + e.count ≤ total) (in_use m.extents)) overflow later found.0 (kept_cases (is_of id kind) overflow found.0 found.1).0) x found.2
]

module _ (old : VolumeState) (sound : IsSoundVolume old) (kind keep parent : ℕ) (name : List ℕ) (file : FileRecord) (list : List Extent) (cut : Cut) (pairs : List Pair) (tree : TreeFacts) (more : List Pair) (extents : TreeFacts) (bits : List Bool)
    (u : UpdatesEntry parent name (File (with_fork kind (cut_fork_of old.head.block_size (fork_at kind file) cut) file)) old.catalog_pairs pairs) (value : u.entry.value ≡ File file) (no_link : is_link_type file.fields ≡ false)
    (is_kind : (kind ≡ data_kind) ⊎ (kind ≡ resource_kind)) (is_list : list ≡ extents_of (overflow_in_volume old) file.fields.id kind (fork_at kind file)) (is_cut : IsCutOf list (fork_at kind file) keep cut) (nodes : HasSameNodes old.catalog_tree tree)
    (stores : StoresFork file.fields.id kind cut.stays old.overflow_pairs more) (extents_nodes : HasSameNodes old.extents_tree extents)
  where
    abbrev pub cut_lists : VolumeState
    cut_lists = record old { head = with_freed cut.goes.count old.head; catalog_pairs = pairs; catalog_tree = tree; overflow_pairs = more; extents_tree = extents; bits = bits }

    -- the volume before, with the header that it gets
    abbrev begun : VolumeState
    begun = record old { head = with_free (old.head.free_blocks + cut.goes.count) old.head.next_allocation old.head }

    abbrev stored : ForkRecord
    stored = fork_at kind file

    abbrev shorter : ForkRecord
    shorter = cut_fork_of old.head.block_size (fork_at kind file) cut

    abbrev left : ℕ
    left = is_cut.last.left

    abbrev other : Placed
    other = record u.entry { value = File (with_fork kind (cut_fork_of old.head.block_size (fork_at kind file) cut) file) }

    -- ---- the file

    found : Contains (records_of old) u.entry × (is_placed_at parent name u.entry ≡ true)
    found = found_some (is_placed_at parent name) (records_of old) u.entry u.found

    named : is_empty u.entry.name ≡ false
    named = sym (each_of (λ (p : Placed). is_thread p.value ≡ is_empty p.name) (records_of old) sound.entries.threads.kinds u.entry found.0) ∙ ap is_thread value

    pub stood : Contains (entries_of (records_of old)) u.entry
    stood = is_entry_of (records_of old) u.entry found.0 named

    pub number : id_of u.entry ≡ file.fields.id
    number = ap id_in value

    pub high : 16 ≤ file.fields.id
    high = elim (each_of (λ (p : Placed). IsUserId old.head.next_catalog_id (id_of p)) (entries_of (records_of old)) sound.entries.ids.each u.entry stood) [
      | inl two ↦
          let root = (shaped_of old sound).rooted.root in
          let same : u.entry ≡ root.0 = same_entry old.head.next_catalog_id (entries_of (records_of old)) sound.entries.ids u.entry root.0 stood root.1 (two ∙ sym root.2.id) in
          absurd (true≢false (sym root.2.folder ∙ ap (λ (p : Placed). is_folder p.value) (sym same) ∙ ap is_folder value))
      | inr user ↦ omega (arith, user.0, number)
    ]

    parts : Splits u.entry other (placed_in old.catalog_pairs) (placed_in pairs)
    parts = pairs_split u.entry other u.pair u.other old.catalog_pairs pairs u.swapped u.is_entry.stands u.is_other.stands

    entries_split : entries_of (parts.front ++ u.entry ∷ parts.back) ≡ entries_of parts.front ++ u.entry ∷ entries_of parts.back
    entries_split =
        flat_map-append (λ (p : Placed). if not (is_empty p.name) then p ∷ [] else []) parts.front (u.entry ∷ parts.back)
        ∙ ap (λ b. entries_of parts.front ++ ((if not b then u.entry ∷ [] else []) ++ entries_of parts.back)) named

    counted_twice : (test : Placed → Bool) (xs ys : List Placed) → count_by test (xs ++ ys) ≡ count_by test xs + count_by test ys
    counted_twice test xs ys = sum_by-append (λ (q : Placed). cond (test q) 1 0) xs ys

    alone : (p : Placed) → Contains (entries_of parts.front) p → id_of p ≢ file.fields.id
    alone p has same =
        let test : Placed → Bool = λ (q : Placed). id_of q == file.fields.id in
        let here : (id_of u.entry == file.fields.id) ≡ true = ap (λ n. n == file.fields.id) number ∙ same_number file.fields.id in
        let there : (id_of p == file.fields.id) ≡ true = ap (λ n. n == file.fields.id) same ∙ same_number file.fields.id in
        omega (
          arith,
          sound.entries.ids.distinct file.fields.id,
          ap (λ l. count_by (λ (q : Placed). id_of q == file.fields.id) (entries_of l)) parts.was,
          ap (λ l. count_by (λ (q : Placed). id_of q == file.fields.id) l) entries_split,
          counted_twice (λ (q : Placed). id_of q == file.fields.id) (entries_of parts.front) (u.entry ∷ entries_of parts.back),
          one_there (λ (q : Placed). id_of q == file.fields.id) (entries_of parts.front) p has there,
          one_there (λ (q : Placed). id_of q == file.fields.id) (u.entry ∷ entries_of parts.back) u.entry (at_front u.entry (entries_of parts.back)) here,
        )

    -- ---- its fork, before

    owned_in : (k : ℕ) → (k ≡ data_kind) ⊎ (k ≡ resource_kind) → Contains (forks_in (File file)) (fork_owned k file)
    owned_in k (inl is) = subst (λ n. Contains (forks_in (File file)) (fork_owned n file)) (sym is) (at_front (fork_owned data_kind file) (fork_owned resource_kind file ∷ []))
    owned_in k (inr is) = subst (λ n. Contains (forks_in (File file)) (fork_owned n file)) (sym is) (behind (fork_owned data_kind file) (fork_owned resource_kind file) (fork_owned resource_kind file ∷ []) (at_front (fork_owned resource_kind file) []))

    pub owned_stands : Contains (forks_of old) (fork_owned kind file)
    owned_stands = fork_stands old sound u.entry stood (fork_owned kind file) (subst (λ v. Contains (forks_in v) (fork_owned kind file)) (sym value) (owned_in kind is_kind))

    sizes : HasSizes old.head (overflow_in_volume old) (fork_owned kind file)
    sizes = each_of (HasSizes old.head (overflow_in_volume old)) (forks_of old) sound.blocks.forks.sizes (fork_owned kind file) owned_stands

    other_id : file.fields.id ≢ extents_id
    other_id same = omega (arith, high, same)

    list_used : AreUsed list
    list_used = subst AreUsed (sym is_list) (extents_used (overflow_in_volume old) file.fields.id kind (fork_at kind file))

    pub was_at : blocks_at old file.fields.id kind ≡ blocks_of list
    was_at =
        ap (λ l. blocks_found (overflow_in_volume old) (find (is_fork file.fields.id kind) (all_forks old.head l))) parts.was
        ∙ ap (blocks_found (overflow_in_volume old)) (fork_found old.head parts.front parts.back u.entry file named value high alone kind is_kind)
        ∙ ap blocks_of (sym is_list)

    begun_at : (k : ℕ) → blocks_at begun file.fields.id k ≡ blocks_at old file.fields.id k
    unfolding all_forks
    begun_at k = refl

    -- ---- and behind it

    used : AreUsed cut.stays
    used = subst AreUsed (sym is_cut.last.stays) (front_used left list list_used)

    pub stays_are : extents_of (map overflow_of more) file.fields.id kind (cut_fork_of old.head.block_size (fork_at kind file) cut) ≡ cut.stays
    unfolding extents_of
    stays_are = stored_gives (map overflow_of more) file.fields.id kind cut.stays other_id used stores.records

    stays_go_on : GoesOn (map overflow_of more) (record { id = file.fields.id; kind = kind; fork = shorter })
    stays_go_on = stored_goes_on (map overflow_of more) file.fields.id kind cut.stays other_id used stores.records

    front_in : in_use (eight_at cut.stays 0).extents ≡ take 8 cut.stays
    front_in = eight_used cut.stays 0 used

    file_of_other : (k : ℕ) → (k ≡ data_kind) ⊎ (k ≡ resource_kind) → (any : ForkRecord) → fork_at k (with_fork k any file) ≡ any
    file_of_other k (inl is) any = subst (λ n. fork_at n (with_fork n any file) ≡ any) (sym is) refl
    file_of_other k (inr is) any = subst (λ n. fork_at n (with_fork n any file) ≡ any) (sym is) refl

    same_id : (k : ℕ) → (k ≡ data_kind) ⊎ (k ≡ resource_kind) → (any : ForkRecord) → (with_fork k any file).fields ≡ file.fields
    same_id k (inl is) any = subst (λ n. (with_fork n any file).fields ≡ file.fields) (sym is) refl
    same_id k (inr is) any = subst (λ n. (with_fork n any file).fields ≡ file.fields) (sym is) refl

    found_then : find (is_fork file.fields.id kind) (all_forks cut_lists.head (parts.front ++ other ∷ parts.back)) ≡ Some (record { id = file.fields.id; kind = kind; fork = shorter })
    found_then =
        let fields = same_id kind is_kind shorter in
        subst (λ (k : ℕ × ForkRecord). find (is_fork k.0 kind) (all_forks cut_lists.head (parts.front ++ other ∷ parts.back)) ≡ Some (record { id = k.0; kind = kind; fork = k.1 }))
        {x = ((with_fork kind shorter file).fields.id, fork_at kind (with_fork kind shorter file))} {y = (file.fields.id, shorter)} (λ i. ((fields i).id, file_of_other kind is_kind shorter i))
        (fork_found cut_lists.head parts.front parts.back other (with_fork kind shorter file) named refl (subst (λ n. 16 ≤ n) (sym (ap (λ f. f.id) fields)) high)
        (λ p has same. alone p has (same ∙ ap (λ f. f.id) fields)) kind is_kind)

    is_at : blocks_at cut_lists file.fields.id kind ≡ blocks_of cut.stays
    is_at =
        ap (λ l. blocks_found (map overflow_of more) (find (is_fork file.fields.id kind) (all_forks cut_lists.head l))) parts.is
        ∙ ap (blocks_found (map overflow_of more)) found_then
        ∙ ap blocks_of stays_are

    total_is : length (blocks_of list) ≡ (fork_at kind file).total_blocks
    total_is = is_cut.blocks

    pub left_is : (fork_at kind file).total_blocks - cut.goes.count ≡ left
    left_is = omega (arith, total_is, is_cut.last.sum)

    stays_long : length (blocks_of cut.stays) ≡ left
    stays_long = ap (λ (l : List ℕ). length l) is_cut.last.stay ∙ (let e : length (take left (blocks_of list)) ≡ left = omega (arith, length-take left (blocks_of list), is_cut.last.sum) in e)

    ends : (x : Extent) → Contains cut.stays x → x.start + x.count ≤ old.head.total_blocks
    ends x has =
        front_ends old.head.total_blocks left list (λ y there. extents_end old.head.total_blocks file.fields.id kind (overflow_in_volume old) (fork_at kind file) other_id sizes.inside sound.blocks.forks.more_inside y (subst (λ (l : List Extent). Contains l y) is_list there)) x
        (subst (λ (l : List Extent). Contains l x) is_cut.last.stays has)

    in_front : (x : Extent) → Contains (take 8 cut.stays) x → Contains cut.stays x
    in_front x has = subst (λ (l : List Extent). Contains l x) (take-append-drop 8 cut.stays) (Contains-append_left (take 8 cut.stays) (drop 8 cut.stays) x has)

    pub is_stored : IsStored file.fields.id kind shorter cut_lists
    is_stored = (
      record {
        inside = subst (λ (es : List Extent). All (λ (e : Extent). e.start + e.count ≤ old.head.total_blocks) es) (sym front_in) (all_of (λ (e : Extent). e.start + e.count ≤ old.head.total_blocks) (take 8 cut.stays) (λ x has. ends x (in_front x has)));
        blocks = ap (λ (es : List Extent). length (blocks_of es)) stays_are ∙ stays_long ∙ sym left_is;
        bytes = omega arith;
      },
      stays_go_on,
    )

    pub swaps : SwapsFork file.fields.id kind old.catalog_pairs pairs
    swaps = record {
      entry = u.entry;
      pair = u.pair;
      is_entry = u.is_entry.stands;
      file = file;
      is_file = (value, refl, no_link);
      fork = shorter;
      other = u.other;
      is_other = u.is_other;
      swapped = u.swapped;
    }

    none_of : (P : ℕ → Type 0) → All P []
    none_of P = all_of P [] (λ x stands. absurd (omega (arith, stands.1)))

    goes_long : length (drop left (blocks_of list)) ≡ cut.goes.count
    goes_long = omega (arith, length-drop left (blocks_of list), is_cut.last.sum)

    freed_is : take cut.goes.count (drop left (blocks_at begun file.fields.id kind)) ≡ blocks_of (cut.goes ∷ [])
    freed_is =
        ap (λ (l : List ℕ). take cut.goes.count (drop left l)) (begun_at kind ∙ was_at)
        ∙ take_all cut.goes.count (drop left (blocks_of list)) (omega (arith, goes_long)) ∙ sym is_cut.last.go

    module _ (flips : FlipsBits [] (blocks_of (cut.goes ∷ [])) begun cut_lists) where
      pub cuts : CutsBlocks file.fields.id kind left cut.goes.count old cut_lists
      unfolding swaps
      cuts = record {
        puts = record {
          free = old.head.free_blocks + cut.goes.count;
          next = old.head.next_allocation;
          counts = omega arith;
          puts = record {
            is_kind = is_kind;
            are_fresh = record { inside = none_of (λ b. b < old.head.total_blocks); free = none_of (λ b. is_set begun b ≡ false); once = λ b. omega arith };
            within = omega (arith, ap (λ (l : List ℕ). length l) (begun_at kind ∙ was_at), is_cut.last.sum);
            is = is_at ∙ is_cut.last.stay ∙ ap (λ (l : List ℕ). take left l) (sym (begun_at kind ∙ was_at)) ∙ sym (append-nil (take left (blocks_at begun file.fields.id kind)))
                ∙ ap (λ (l : List ℕ). take left (blocks_at begun file.fields.id kind) ++ l) (sym (drop_of_length-le (blocks_at begun file.fields.id kind) (omega (arith, ap (λ (l : List ℕ). length l) (begun_at kind ∙ was_at), is_cut.last.sum))));
            file = swaps;
            stored = is_stored;
            others = stores.others;
            flips = subst (λ (l : List ℕ). FlipsBits [] l begun cut_lists) (sym freed_is) flips;
            catalog_nodes = nodes;
            extents_nodes = extents_nodes;
            rest = refl;
          };
        };
        some = is_cut.last.some;
        whole = ap (λ (l : List ℕ). length l) was_at ∙ sym is_cut.last.sum;
      }

      -- the file's record after it and before
      pub after_is : (file_after cuts.puts ≡ with_fork kind shorter file) × (file_before cuts.puts ≡ file)
      unfolding cuts swaps
      after_is = (refl, refl)
