-- The lists of a volume whose attributes file goes on in a run of free blocks, with the overflow records of its fork, are those of a sound volume with the same tree.
use Rattle.std.proofs.Common.{◌≡◌, ◌≢◌, inl, inr, ◌<◌, ◌≤◌, ℕ, ◌+◌, ◌-◌, ◌*◌, Bool, true, false, List, [], ◌∷◌, ◌++◌, length, map, get_or, refl, sym, ◌∙◌, ap, subst, arith, length-append}
use Rattle.std.specs.Prelude.{Contains, IsTrue}
use Rattle.std.proofs.Math.Nat.{add-mul}
use Rattle.std.proofs.lemmas.List.FromFn.{length-range_with_len}
use Rattle.hx_bytes.specs.declared.extents.Extent.{Extent}
use Rattle.hx_bytes.specs.declared.extents.ForkRecord.{ForkRecord}
use Rattle.fork_map.specs.Blocks.{blocks_of}
use Rattle.fork_map.specs.Cut.{join}
use Rattle.alloc_bitmap.specs.Map.{BlockMap}
use Rattle.btree_node.specs.Levels.{Pair}
use Rattle.btree_file.specs.Frame.{PutsWithin}
use Rattle.btree_file.specs.Growth.{HasGrown, nodes_in, sectors_with}
use Rattle.btree_file.specs.declared.tree.TreeFile.{TreeFile}
use Rattle.sector_disk.specs.Space.{Space}
use Rattle.hfs_volume.specs.Blocks.{HasSizes, forks_of}
use Rattle.hfs_volume.specs.Changes.{HasSameNodes, IsStored, with_free}
use Rattle.hfs_volume.specs.Content.{TreeFacts, VolumeState, facts_at, has_attributes, is_set, overflow_in_volume, volume_of}
use Rattle.hfs_volume.specs.Forks.{all_forks, attributes_id, data_kind, extents_id, extents_of}
use Rattle.hfs_volume.specs.Records.{overflow_of}
use Rattle.hfs_volume.specs.Reclaim.{IsTreeFork, blocks_at}
use Rattle.hfs_volume.specs.Writing.{GrowsAndCounts}
use Rattle.hfs_volume.proofs.BlockWants.{range_bounds}
use Rattle.hfs_volume.proofs.Members.{all_of, each_of}
use Rattle.hfs_volume.proofs.Untouched.{special_stands}
use Rattle.overflow.proofs.Cutting.{AreUsed}
use Rattle.volume_space.specs.Growing.{TakesRun, lengthened_attributes, longer_fork, with_attributes}
use Rattle.volume_base.specs.Lists.{bits_on, facts_on}
use Rattle.volume_base.specs.Spreading.{StoresFork}
use Rattle.volume_base.specs.Standing.{IsSettled, IsStanding}
use Rattle.volume_base.specs.declared.volume.Volume.{Volume}
use Rattle.volume_base.proofs.CutLists.{extents_end}
use Rattle.volume_space.proofs.GrownForks.{join_ends}
use Rattle.volume_space.proofs.GrownFree.{run_clear, run_inside}
use Rattle.volume_space.proofs.GrownRun.{blocks_one, run_apart}
use Rattle.volume_space.proofs.SpreadBits.{bit_of_run, bit_still, bits_longer, not_in_run}
use Rattle.volume_space.proofs.SpreadAttributes.{used_now}
use Rattle.volume_space.proofs.SpreadStands.{stored_is}
use Rattle.volume_space.proofs.SpreadStored.{is_stored}

-- its blocks by the lists
blocks_are : (lists : VolumeState) → blocks_at lists attributes_id data_kind ≡ blocks_of (extents_of (overflow_in_volume lists) attributes_id data_kind lists.head.attributes_fork)
unfolding all_forks
blocks_are lists = refl

module _ (v : Volume) (a b : Space) (was : IsStanding v a) (settled : IsSettled v a.content) (there : IsTrue (has_attributes v.header)) (count : ℕ) (run : Extent) (later : BlockMap) (takes : TakesRun count run v.map later) (some : 0 < run.count)
    (file : TreeFile) (grown : HasGrown run v.attributes.file file a.content b.content) (within : PutsWithin (sectors_with v.attributes.file run) a b) (tells : IsTrue a.tells)
    (more : ℕ) (counted : run.count ≤ v.header.free_blocks)
    (nodes : nodes_in run v.attributes.file.per_block v.attributes.file.shape.node_size ≡ more) (whole : run.count * v.header.block_size ≡ more * v.attributes.file.shape.node_size)
    (pairs : List Pair) (extents : TreeFacts) (stores : StoresFork attributes_id data_kind file.fork (volume_of a.content).overflow_pairs pairs) (same_nodes : HasSameNodes (volume_of a.content).extents_tree extents)
  where
    -- the lists that it leads to
    abbrev pub lists_grown : VolumeState
    lists_grown = record (volume_of a.content) { head = with_attributes run.count file.fork (volume_of a.content).head; attributes_tree = facts_on file; overflow_pairs = pairs; extents_tree = extents; bits = bits_on (lengthened_attributes run.count v later file) }

    abbrev fork : ForkRecord
    fork = longer_fork run.count (volume_of a.content).head.block_size file.fork (volume_of a.content).head.attributes_fork

    used : AreUsed file.fork
    used = used_now v a b was settled there count run later takes some file grown within tells

    other_file : attributes_id ≢ extents_id
    other_file same = omega (arith, same)

    stands : Contains (forks_of (volume_of a.content)) (record { id = attributes_id; kind = data_kind; fork = (volume_of a.content).head.attributes_fork })
    stands = special_stands (volume_of a.content) _ (4, omega arith, refl)

    sizes : HasSizes (volume_of a.content).head (overflow_in_volume (volume_of a.content)) (record { id = attributes_id; kind = data_kind; fork = (volume_of a.content).head.attributes_fork })
    sizes = each_of (HasSizes (volume_of a.content).head (overflow_in_volume (volume_of a.content))) (forks_of (volume_of a.content)) settled.sound.blocks.forks.sizes (record { id = attributes_id; kind = data_kind; fork = (volume_of a.content).head.attributes_fork }) stands

    head_is : (volume_of a.content).head ≡ v.header
    head_is = ap (λ (l : VolumeState). l.head) settled.lists

    file_is : v.attributes.file.fork ≡ extents_of (overflow_in_volume (volume_of a.content)) attributes_id data_kind (volume_of a.content).head.attributes_fork
    file_is = was.forks.attributes there ∙ sym (ap (λ (l : VolumeState). extents_of (overflow_in_volume l) attributes_id data_kind l.head.attributes_fork) settled.lists)

    now_is : file.fork ≡ extents_of (map overflow_of pairs) attributes_id data_kind fork
    now_is = sym (stored_is attributes_id fork file.fork (volume_of a.content).overflow_pairs pairs other_file refl used stores)

    there_in : IsTrue (has_attributes (volume_of a.content).head)
    there_in = subst (λ h. IsTrue (has_attributes h)) (sym head_is) there

    long : length (blocks_of (run ∷ [])) ≡ run.count
    long = ap (λ (l : List ℕ). length l) (blocks_one run) ∙ length-range_with_len run.start run.count

    of_run : (block : ℕ) → Contains (blocks_of (run ∷ [])) block → (run.start ≤ block) × (block < run.start + run.count)
    of_run block has = range_bounds run.start run.count block (subst (λ (l : List ℕ). Contains l block) (blocks_one run) has)

    -- ---- its sizes

    block_size_is : (volume_of a.content).head.block_size ≡ v.header.block_size
    block_size_is = ap (λ h. h.block_size) head_is

    sum_is : ((volume_of a.content).head.attributes_fork.total_blocks + run.count) * (volume_of a.content).head.block_size ≡ (volume_of a.content).head.attributes_fork.total_blocks * (volume_of a.content).head.block_size + run.count * (volume_of a.content).head.block_size
    sum_is = add-mul (volume_of a.content).head.attributes_fork.total_blocks run.count (volume_of a.content).head.block_size

    size_is : (volume_of a.content).head.attributes_fork.logical_size + run.count * (volume_of a.content).head.block_size ≡ ((volume_of a.content).head.attributes_fork.total_blocks + run.count) * (volume_of a.content).head.block_size
    size_is = omega (arith, sum_is, (settled.sound.blocks.files.attributes there_in).blocks)

    blocks_now : length (blocks_of file.fork) ≡ (volume_of a.content).head.attributes_fork.total_blocks + run.count
    blocks_now = omega (
      arith,
      ap (λ (l : List ℕ). length l) grown.blocks,
      length-append (blocks_of v.attributes.file.fork) (blocks_of (run ∷ [])),
      ap (λ (es : List Extent). length (blocks_of es)) file_is,
      sizes.blocks,
      long,
    )

    ends : (e : Extent) → Contains file.fork e → e.start + e.count ≤ (volume_of a.content).head.total_blocks
    ends e has = join_ends (volume_of a.content).head.total_blocks (extents_of (overflow_in_volume (volume_of a.content)) attributes_id data_kind (volume_of a.content).head.attributes_fork) (record { start = run.start; count = run.count })
        (extents_end (volume_of a.content).head.total_blocks attributes_id data_kind (overflow_in_volume (volume_of a.content)) (volume_of a.content).head.attributes_fork other_file sizes.inside settled.sound.blocks.forks.more_inside)
        (let last = run_inside v a was settled count run later takes (run.start + run.count - 1) (omega (arith, some)) (omega (arith, some)) in omega (arith, last, some))
        e (subst (λ (es : List Extent). Contains es e) (grown.extents ∙ ap (λ es. join es (run ∷ [])) file_is) has)

    stored : IsStored attributes_id data_kind fork lists_grown
    stored = is_stored attributes_id fork file.fork (volume_of a.content).overflow_pairs lists_grown other_file refl used stores ends blocks_now size_is

    -- ---- the growth

    bits_were : (volume_of a.content).bits ≡ bits_on v
    bits_were = ap (λ (l : VolumeState). l.bits) settled.lists

    pub grows_counted : GrowsAndCounts attributes_id more (blocks_of (run ∷ [])) (volume_of a.content) lists_grown
    grows_counted = record {
      free = (volume_of a.content).head.free_blocks - run.count;
      next = (volume_of a.content).head.next_allocation;
      counts = omega (arith, long, counted, ap (λ h. h.free_blocks) head_is);
      grows = record {
        are_fresh = record {
          inside = all_of (λ block. block < (volume_of a.content).head.total_blocks) (blocks_of (run ∷ [])) (λ block has. let range = of_run block has in run_inside v a was settled count run later takes block range.0 range.1);
          free = all_of (λ block. is_set (volume_of a.content) block ≡ false) (blocks_of (run ∷ [])) (λ block has. let range = of_run block has in run_clear v a was settled count run later takes block range.0 range.1);
          once = run_apart run;
        };
        is = blocks_are lists_grown ∙ ap blocks_of (sym now_is) ∙ grown.blocks
            ∙ ap (λ (es : List Extent). blocks_of es ++ blocks_of (run ∷ [])) file_is ∙ ap (λ (l : List ℕ). l ++ blocks_of (run ∷ [])) (sym (blocks_are (record (volume_of a.content) { head = with_free ((volume_of a.content).head.free_blocks - run.count) (volume_of a.content).head.next_allocation (volume_of a.content).head })));
        there = λ same. there_in;
        nodes = record {
          total = grown.total ∙ ap (λ n. v.attributes.file.shape.total + n) nodes ∙ ap (λ (t : TreeFacts). t.shape.total + more) (sym (settled.attributes there));
          size = ap (λ s. s.node_size) grown.tree.numbers ∙ ap (λ (t : TreeFacts). t.shape.node_size) (sym (settled.attributes there));
        };
        whole = (λ i. long i * block_size_is i) ∙ whole ∙ ap (λ (t : TreeFacts). more * t.shape.node_size) (sym (settled.attributes there));
        fork = fork;
        size = size_is;
        stored = stored;
        others = stores.others;
        own = λ same. absurd (omega (arith, same));
        flips = record {
          size = bits_longer v (lengthened_attributes run.count v later file) count run takes refl ∙ ap (λ (l : List Bool). length l) (sym bits_were);
          taken = all_of (λ block. is_set lists_grown block ≡ true) (blocks_of (run ∷ [])) (λ block has. let range = of_run block has in bit_of_run v (lengthened_attributes run.count v later file) count run takes refl block range.0 range.1);
          given = λ k d low. absurd (omega (arith, low));
          others = λ block none nor. bit_still v (lengthened_attributes run.count v later file) count run takes refl block (not_in_run run block none) ∙ ap (λ (l : List Bool). get_or l block false) (sym bits_were);
        };
        other_trees = λ other is differs. same_trees other is differs;
        rest = refl;
      };
    }
      where
        same_trees : (other : ℕ) → IsTreeFork other → other ≢ attributes_id → HasSameNodes (facts_at (volume_of a.content) other) (facts_at lists_grown other)
        same_trees other (inl e) differs = subst (λ o. HasSameNodes (facts_at (volume_of a.content) o) (facts_at lists_grown o)) (sym e) (record { total = same_nodes.total; size = same_nodes.size })
        same_trees other (inr (inl c)) differs = subst (λ o. HasSameNodes (facts_at (volume_of a.content) o) (facts_at lists_grown o)) (sym c) (record { total = refl; size = refl })
        same_trees other (inr (inr t)) differs = absurd (differs t)
