-- The lists of a volume whose catalog goes on in a run of free blocks are those of a sound volume with the same tree.
use Rattle.std.proofs.Common.{◌≡◌, ◌≢◌, inl, inr, ◌<◌, ◌≤◌, ℕ, ◌+◌, ◌-◌, ◌*◌, Bool, true, false, List, [], ◌∷◌, ◌++◌, length, get_or, replicate, refl, sym, ◌∙◌, ap, subst, arith, ⊎_elim, length-append}
use Rattle.std.specs.Prelude.{All, Contains, IsTrue}
use Rattle.std.proofs.Math.Nat.{add-mul}
use Rattle.std.proofs.lemmas.Bool.{cases_lt}
use Rattle.std.proofs.lemmas.List.{get_or-append_right}
use Rattle.std.proofs.lemmas.List.FromFn.{length-range_with_len}
use Rattle.hx_bytes.specs.declared.extents.Extent.{Extent}
use Rattle.hx_bytes.specs.declared.extents.ForkRecord.{ForkRecord}
use Rattle.flag_rows.specs.Bits.{has}
use Rattle.fork_map.specs.Blocks.{blocks_of}
use Rattle.fork_map.specs.Cut.{join}
use Rattle.alloc_bitmap.specs.Map.{BlockMap}
use Rattle.alloc_bitmap.proofs.HoldLaws.{has_range}
use Rattle.btree_file.specs.Frame.{PutsWithin}
use Rattle.btree_file.specs.Growth.{HasGrown, nodes_in, sectors_with}
use Rattle.btree_file.specs.declared.tree.TreeFile.{TreeFile}
use Rattle.sector_disk.specs.Space.{Space}
use Rattle.hfs_volume.specs.Blocks.{GoOn, GoesOn, HasSizes, LieInside, forks_of}
use Rattle.hfs_volume.specs.Changes.{HasSameNodes, IsStored, with_free}
use Rattle.hfs_volume.specs.Content.{VolumeState, facts_at, is_set, overflow_in_volume, volume_of}
use Rattle.hfs_volume.specs.Forks.{Owned, catalog_id, data_kind, extents_of, in_use, is_full, all_forks}
use Rattle.hfs_volume.specs.Reclaim.{IsTreeFork, blocks_at}
use Rattle.hfs_volume.specs.Records.{Overflow}
use Rattle.hfs_volume.specs.Writing.{GrowsAndCounts}
use Rattle.hfs_volume.proofs.BlockWants.{in_range, range_bounds}
use Rattle.hfs_volume.proofs.Members.{all_of, each_of}
use Rattle.hfs_volume.proofs.Untouched.{special_stands}
use Rattle.overflow.specs.Records.{eight_at}
use Rattle.volume_space.specs.Growing.{TakesRun, lengthened, longer_fork, with_catalog}
use Rattle.volume_base.specs.Lists.{bits_on, facts_on, lists_of}
use Rattle.volume_base.specs.Standing.{IsSettled, IsStanding}
use Rattle.volume_base.specs.declared.volume.Volume.{Volume}
use Rattle.volume_space.proofs.GrownForks.{front_alone, front_longer, join_ends, none_over}
use Rattle.volume_space.proofs.GrownFree.{run_clear, run_inside}
use Rattle.volume_space.proofs.GrownRun.{blocks_one, run_apart, same_length, used_now, used_others}
use Rattle.volume_space.proofs.GrownStands.{catalog_fork, lists_longer}
use Rattle.volume_base.proofs.Mapped.{kept_bit}

-- the catalog's blocks by the lists
catalog_blocks_are : (lists : VolumeState) → blocks_at lists catalog_id data_kind ≡ blocks_of (extents_of (overflow_in_volume lists) catalog_id data_kind lists.head.catalog_fork)
unfolding all_forks
catalog_blocks_are lists = refl

module _ (v : Volume) (a b : Space) (was : IsStanding v a) (settled : IsSettled v a.content) (count : ℕ) (run : Extent) (later : BlockMap) (takes : TakesRun count run v.map later) (some : 0 < run.count)
    (file : TreeFile) (grown : HasGrown run v.catalog.file file a.content b.content) (within : PutsWithin (sectors_with v.catalog.file run) a b) (tells : IsTrue a.tells)
    (eight : length v.header.catalog_fork.extents.extents ≡ 8) (few : length v.catalog.file.fork < 8) (more : ℕ) (counted : run.count ≤ v.header.free_blocks)
    (nodes : nodes_in run v.catalog.file.per_block v.catalog.file.shape.node_size ≡ more) (whole : run.count * v.header.block_size ≡ more * v.catalog.file.shape.node_size)
  where
    abbrev old : VolumeState
    old = volume_of a.content

    -- the lists that it leads to
    abbrev pub lists_grown : VolumeState
    lists_grown = record (volume_of a.content) { head = with_catalog run.count file.fork (volume_of a.content).head; catalog_tree = facts_on file; bits = bits_on (lengthened run.count v later file) }

    abbrev fork : ForkRecord
    fork = longer_fork run.count (volume_of a.content).head.block_size file.fork (volume_of a.content).head.catalog_fork

    abbrev owned : Owned
    owned = record { id = catalog_id; kind = data_kind; fork = (volume_of a.content).head.catalog_fork }

    abbrev overflow : List Overflow
    overflow = overflow_in_volume (volume_of a.content)

    stands : Contains (forks_of (volume_of a.content)) (record { id = catalog_id; kind = data_kind; fork = (volume_of a.content).head.catalog_fork })
    stands = special_stands (volume_of a.content) _ (1, omega arith, refl)

    sizes : HasSizes (volume_of a.content).head (overflow_in_volume (volume_of a.content)) (record { id = catalog_id; kind = data_kind; fork = (volume_of a.content).head.catalog_fork })
    sizes = each_of (HasSizes (volume_of a.content).head (overflow_in_volume (volume_of a.content))) (forks_of (volume_of a.content)) settled.sound.blocks.forks.sizes (record { id = catalog_id; kind = data_kind; fork = (volume_of a.content).head.catalog_fork }) stands

    goes : GoesOn (overflow_in_volume (volume_of a.content)) (record { id = catalog_id; kind = data_kind; fork = (volume_of a.content).head.catalog_fork })
    goes = each_of (GoesOn (overflow_in_volume (volume_of a.content))) (forks_of (volume_of a.content)) settled.sound.blocks.forks.goes_on (record { id = catalog_id; kind = data_kind; fork = (volume_of a.content).head.catalog_fork }) stands

    head_is : (volume_of a.content).head ≡ v.header
    head_is = ap (λ (l : VolumeState). l.head) settled.lists

    file_is : v.catalog.file.fork ≡ extents_of (overflow_in_volume (volume_of a.content)) catalog_id data_kind (volume_of a.content).head.catalog_fork
    file_is = was.forks.catalog ∙ sym (ap (λ (l : VolumeState). extents_of (overflow_in_volume l) catalog_id data_kind l.head.catalog_fork) settled.lists)

    now_is : file.fork ≡ extents_of (overflow_in_volume (volume_of a.content)) catalog_id data_kind fork
    now_is = catalog_fork v a b was settled count run later takes some file grown within tells eight few
        ∙ sym (ap (λ (l : VolumeState). extents_of (overflow_in_volume l) catalog_id data_kind (with_catalog run.count file.fork l.head).catalog_fork) settled.lists)

    eight_here : length (volume_of a.content).head.catalog_fork.extents.extents ≡ 8
    eight_here = ap (λ h. length h.catalog_fork.extents.extents) head_is ∙ eight

    few_here : length (extents_of (overflow_in_volume (volume_of a.content)) catalog_id data_kind (volume_of a.content).head.catalog_fork) < 8
    few_here = subst (λ (es : List Extent). length es < 8) file_is few

    joined_is : file.fork ≡ join (extents_of (overflow_in_volume (volume_of a.content)) catalog_id data_kind (volume_of a.content).head.catalog_fork) (run ∷ [])
    joined_is = grown.extents ∙ ap (λ es. join es (run ∷ [])) file_is

    in_record : in_use (longer_fork run.count (volume_of a.content).head.block_size file.fork (volume_of a.content).head.catalog_fork).extents.extents ≡ file.fork
    in_record = front_longer catalog_id overflow (volume_of a.content).head.catalog_fork eight_here goes few_here run (λ none. absurd (omega (arith, some, none))) fork (ap (λ es. eight_at es 0) joined_is) ∙ sym joined_is

    long : length (blocks_of (run ∷ [])) ≡ run.count
    long = ap (λ (l : List ℕ). length l) (blocks_one run) ∙ length-range_with_len run.start run.count

    of_run : (block : ℕ) → Contains (blocks_of (run ∷ [])) block → (run.start ≤ block) × (block < run.start + run.count)
    of_run block has = range_bounds run.start run.count block (subst (λ (l : List ℕ). Contains l block) (blocks_one run) has)

    -- ---- its sizes

    block_size_is : (volume_of a.content).head.block_size ≡ v.header.block_size
    block_size_is = ap (λ h. h.block_size) head_is

    sum_is : ((volume_of a.content).head.catalog_fork.total_blocks + run.count) * (volume_of a.content).head.block_size ≡ (volume_of a.content).head.catalog_fork.total_blocks * (volume_of a.content).head.block_size + run.count * (volume_of a.content).head.block_size
    sum_is = add-mul (volume_of a.content).head.catalog_fork.total_blocks run.count (volume_of a.content).head.block_size

    size_is : (volume_of a.content).head.catalog_fork.logical_size + run.count * (volume_of a.content).head.block_size ≡ ((volume_of a.content).head.catalog_fork.total_blocks + run.count) * (volume_of a.content).head.block_size
    size_is = omega (arith, sum_is, settled.sound.blocks.files.catalog.blocks)

    blocks_now : length (blocks_of (extents_of (overflow_in_volume (volume_of a.content)) catalog_id data_kind fork)) ≡ (volume_of a.content).head.catalog_fork.total_blocks + run.count
    blocks_now = omega (
      arith,
      ap (λ (es : List Extent). length (blocks_of es)) (sym now_is),
      ap (λ (l : List ℕ). length l) grown.blocks,
      length-append (blocks_of v.catalog.file.fork) (blocks_of (run ∷ [])),
      ap (λ (es : List Extent). length (blocks_of es)) file_is,
      sizes.blocks,
      long,
    )

    lie_inside : LieInside (volume_of a.content).head.total_blocks (longer_fork run.count (volume_of a.content).head.block_size file.fork (volume_of a.content).head.catalog_fork).extents.extents
    lie_inside = subst (λ (es : List Extent). All (λ (e : Extent). e.start + e.count ≤ (volume_of a.content).head.total_blocks) es) (sym in_record)
        (all_of (λ (e : Extent). e.start + e.count ≤ (volume_of a.content).head.total_blocks) file.fork (λ e has.
        join_ends (volume_of a.content).head.total_blocks (extents_of (overflow_in_volume (volume_of a.content)) catalog_id data_kind (volume_of a.content).head.catalog_fork) (record { start = run.start; count = run.count })
        (λ x there. ends x there) run_end e (subst (λ (es : List Extent). Contains es e) joined_is has)))
      where
        run_end : run.start + run.count ≤ (volume_of a.content).head.total_blocks
        run_end = let last = run_inside v a was settled count run later takes (run.start + run.count - 1) (omega (arith, some)) (omega (arith, some)) in omega (arith, last, some)

        ends : (x : Extent) → Contains (extents_of (overflow_in_volume (volume_of a.content)) catalog_id data_kind (volume_of a.content).head.catalog_fork) x → x.start + x.count ≤ (volume_of a.content).head.total_blocks
        ends x there = each_of (λ (e : Extent). e.start + e.count ≤ (volume_of a.content).head.total_blocks) (in_use (volume_of a.content).head.catalog_fork.extents.extents) sizes.inside x
            (subst (λ (es : List Extent). Contains es x) (front_alone catalog_id overflow (volume_of a.content).head.catalog_fork eight_here goes few_here) there)

    is_stored : IsStored catalog_id data_kind fork lists_grown
    is_stored = (
      record { inside = lie_inside; blocks = blocks_now; bytes = omega (arith, size_is) },
      subst (λ (more : List Overflow). GoOn (length (blocks_of fork.extents.extents)) (is_full fork.extents.extents) more) (sym (none_over catalog_id overflow (volume_of a.content).head.catalog_fork eight_here goes few_here)) tt,
    )

    -- ---- its bits

    pub bits_were : (volume_of a.content).bits ≡ bits_on v
    bits_were = ap (λ (l : VolumeState). l.bits) settled.lists

    used_long : length later.used ≡ length v.map.used
    used_long = same_length count run v.map later takes

    rest_of : ℕ → List Bool
    rest_of n = replicate (8 * v.header.allocation_fork.logical_size - n) false

    pub bits_long : length (bits_on (lengthened run.count v later file)) ≡ length (volume_of a.content).bits
    bits_long = length-append later.used (replicate (8 * v.header.allocation_fork.logical_size - length later.used) false)
        ∙ (λ i. used_long i + length (replicate (8 * v.header.allocation_fork.logical_size - used_long i) false))
        ∙ sym (length-append v.map.used (replicate (8 * v.header.allocation_fork.logical_size - length v.map.used) false)) ∙ ap (λ (l : List Bool). length l) (sym bits_were)

    pub bit_same : (k : ℕ) → has run k ≡ false → get_or (bits_on (lengthened run.count v later file)) k false ≡ get_or (bits_on v) k false
    bit_same k none = ⊎_elim
        (λ (low : k < length v.map.used). kept_bit (lengthened run.count v later file) k (omega (arith, low, used_long)) ∙ used_others count run v.map later takes k none ∙ sym (kept_bit v k low))
        (λ (high : length v.map.used ≤ k).
        get_or-append_right later.used (replicate (8 * v.header.allocation_fork.logical_size - length later.used) false) (length later.used) k false refl (omega (arith, high, used_long))
        ∙ (λ i. get_or (replicate (8 * v.header.allocation_fork.logical_size - used_long i) false) (k - used_long i) false)
        ∙ sym (get_or-append_right v.map.used (replicate (8 * v.header.allocation_fork.logical_size - length v.map.used) false) (length v.map.used) k false refl high))
        (cases_lt k (length v.map.used))

    pub bit_taken : (k : ℕ) → run.start ≤ k → k < run.start + run.count → get_or (bits_on (lengthened run.count v later file)) k false ≡ true
    bit_taken k from to = kept_bit (lengthened run.count v later file) k (omega (arith, to, takes.inside, used_long)) ∙ used_now count run v.map later takes k from to

    not_has : (k : ℕ) → (Contains (blocks_of (run ∷ [])) k → ⊥) → has run k ≡ false
    not_has k none = by (has run k) refl
      where
        by : (b : Bool) → has run k ≡ b → has run k ≡ false
        by false is = is
        by true is = absurd (none (subst (λ (l : List ℕ). Contains l k) (sym (blocks_one run)) (let range = has_range run k is in in_range run.start run.count k range.0 range.1)))

    -- ---- the growth

    pub grows_counted : GrowsAndCounts catalog_id more (blocks_of (run ∷ [])) (volume_of a.content) lists_grown
    grows_counted = record {
      free = (volume_of a.content).head.free_blocks - run.count;
      next = (volume_of a.content).head.next_allocation;
      counts = omega (arith, long, counted, ap (λ h. h.free_blocks) head_is);
      grows = record {
        are_fresh = record {
          inside = all_of (λ block. block < (volume_of a.content).head.total_blocks) (blocks_of (run ∷ [])) (λ block has. let range = of_run block has in run_inside v a was settled count run later takes block range.0 range.1);
          free = all_of (λ block. is_set (volume_of a.content) block ≡ false) (blocks_of (run ∷ [])) (λ block has. let range = of_run block has in run_clear v a was settled count run later takes block range.0 range.1);
          once = run_apart run;
        };
        is = catalog_blocks_are lists_grown ∙ ap blocks_of (sym now_is) ∙ grown.blocks
            ∙ ap (λ (es : List Extent). blocks_of es ++ blocks_of (run ∷ [])) file_is ∙ ap (λ (l : List ℕ). l ++ blocks_of (run ∷ [])) (sym (catalog_blocks_are (record (volume_of a.content) { head = with_free ((volume_of a.content).head.free_blocks - run.count) (volume_of a.content).head.next_allocation (volume_of a.content).head })));
        there = λ same. absurd (omega (arith, same));
        nodes = record {
          total = grown.total ∙ ap (λ n. v.catalog.file.shape.total + n) nodes ∙ ap (λ (l : VolumeState). l.catalog_tree.shape.total + more) (sym settled.lists);
          size = ap (λ s. s.node_size) grown.tree.numbers ∙ ap (λ (l : VolumeState). l.catalog_tree.shape.node_size) (sym settled.lists);
        };
        whole = (λ i. long i * block_size_is i) ∙ whole ∙ ap (λ (l : VolumeState). more * l.catalog_tree.shape.node_size) (sym settled.lists);
        fork = fork;
        size = size_is;
        stored = is_stored;
        others = refl;
        own = λ same. refl;
        flips = record {
          size = bits_long;
          taken = all_of (λ block. is_set lists_grown block ≡ true) (blocks_of (run ∷ [])) (λ block has. let range = of_run block has in bit_taken block range.0 range.1);
          given = λ k d low. absurd (omega (arith, low));
          others = λ block none nor. bit_same block (not_has block none) ∙ ap (λ (l : List Bool). get_or l block false) (sym bits_were);
        };
        other_trees = λ other is differs. same_trees other is differs;
        rest = refl;
      };
    }
      where
        same_trees : (other : ℕ) → IsTreeFork other → other ≢ catalog_id → HasSameNodes (facts_at (volume_of a.content) other) (facts_at lists_grown other)
        same_trees other (inl e) differs = subst (λ o. HasSameNodes (facts_at (volume_of a.content) o) (facts_at lists_grown o)) (sym e) (record { total = refl; size = refl })
        same_trees other (inr (inl c)) differs = absurd (differs c)
        same_trees other (inr (inr t)) differs = subst (λ o. HasSameNodes (facts_at (volume_of a.content) o) (facts_at lists_grown o)) (sym t) (record { total = refl; size = refl })

    -- the lists that the volume keeps then are these
    pub lists_are_grown : record (lists_of (lengthened run.count v later file) b.content) { attributes_tree = (volume_of a.content).attributes_tree } ≡ lists_grown
    lists_are_grown =
        (λ i. record (lists_longer v a b was settled count run later takes some file grown within tells eight few i) { attributes_tree = (volume_of a.content).attributes_tree })
        ∙ sym (λ i. record (settled.lists i) { head = with_catalog run.count file.fork (settled.lists i).head; catalog_tree = facts_on file; bits = bits_on (lengthened run.count v later file) })
