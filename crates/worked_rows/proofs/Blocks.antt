-- The records of changes of blocks, each met by a volume before and after: a block that is cut, one that is added to a file, and one that is
-- added to the catalog.
use Rattle.std.proofs.Common.{◌≡◌, ◌≢◌, ◌≤◌, ◌<◌, ℕ, zero, suc, ◌+◌, Bool, true, false, List, [], ◌∷◌, ◌++◌, length, replicate, inl, inr, refl, sym, ap, subst, arith}
use Rattle.std.specs.Prelude.{All, Contains, ◌==◌, slice_index_or}
use Rattle.std.specs.List.{AllByRecursion}
use Rattle.std.proofs.lemmas.List.Sums.{count_by-le-length}
use Rattle.hx_bytes.specs.Field.{number_at, number_bytes}
use Rattle.hx_bytes.specs.Fork.{extents_at, extents_bytes, fork_bytes}
use Rattle.hx_bytes.specs.declared.extents.Extent.{Extent}
use Rattle.cat_records.specs.Records.{entry_of, entry_bytes}
use Rattle.hx_bytes.specs.declared.extents.ForkRecord.{ForkRecord}
use Rattle.cat_records.specs.declared.record.FileRecord.{FileRecord}
use Rattle.cat_records.specs.declared.record.CatRecord.TheVariants.{File}
use Rattle.hfs_volume.specs.Records.{Placed, placed_of, overflow_of}
use Rattle.hfs_volume.specs.Forks.{extents_of, all_forks, data_kind, catalog_id}
use Rattle.hfs_volume.specs.Content.{VolumeState, facts_at}
use Rattle.hfs_volume.specs.Reclaim.{blocks_at, IsTreeFork}
use Rattle.hfs_volume.specs.Changes.{pair_of, HasSameNodes}
use Rattle.hfs_volume.specs.Writing.{CutsBlocks, RewritesFile, GrowsAndCounts}
use Rattle.hfs_volume.proofs.Members.{all_of, at_front, first_or_later}
use Rattle.hfs_volume.proofs.WorkedVolumes.{no_fork, fresh_head, facts, fresh_volume}
use Rattle.worked_rows.proofs.Grown.{eight, file_fields, fork_of, each_second, file_in_root, ninth, catalog_with, head_with, f, g}

-- ---- lists of few blocks

each_in : {X : Type 0} (P : X → Type 0) (xs : List X) → AllByRecursion P xs → (x : X) → Contains xs x → P x
each_in P [] all x none = absurd (omega (arith, none.1))
each_in P (y ∷ ys) all x stands = elim (first_or_later y x ys stands) [
  | inl is ↦ subst P (sym is) all.0
  | inr later ↦ each_in P ys all.1 x later
]

all_in : {X : Type 0} (P : X → Type 0) (xs : List X) → AllByRecursion P xs → All P xs
all_in P xs all = all_of P xs (each_in P xs all)

-- one bit of a list is another: each other bit is as it was
elsewhere : (front : List Bool) (x y : Bool) (back : List Bool) (k : ℕ) → k ≢ length front → slice_index_or (front ++ x ∷ back) k false ≡ slice_index_or (front ++ y ∷ back) k false
elsewhere [] x y back zero other = absurd (other refl)
elsewhere [] x y back (suc k) other = refl
elsewhere (b ∷ front) x y back zero other = refl
elsewhere (b ∷ front) x y back (suc k) other = elsewhere front x y back k (λ same. other (ap suc same))

not_it : (n block : ℕ) → (Contains (n ∷ []) block → ⊥) → block ≢ n
not_it n block out same = out (subst (λ b. Contains (n ∷ []) b) (sym same) (at_front n []))

-- ---- the volumes

abbrev one : ℕ → Placed
one blocks = file_in_root f 18 (fork_of blocks (each_second 355 blocks))

abbrev other : Placed
other = file_in_root g 19 (fork_of 9 (each_second 356 9))

-- block 371 is the ninth of one file or free; the other file has nine blocks
abbrev bits_with : Bool → List Bool
bits_with used = replicate 371 true ++ (used ∷ (true ∷ (replicate 1674 false ++ (true ∷ replicate 30720 false))))

abbrev nine_and_nine : VolumeState
nine_and_nine = record fresh_volume {
  head = head_with 1674;
  overflow_pairs = ninth 18 (each_second 355 9) ∷ ninth 19 (each_second 356 9) ∷ [];
  catalog_pairs = catalog_with (one 9) other;
  extents_tree = facts 1 1 2 16 14;
  catalog_tree = facts 1 1 10 64 62;
  bits = bits_with true;
}

abbrev eight_and_nine : VolumeState
eight_and_nine = record nine_and_nine {
  head = head_with 1675;
  overflow_pairs = ninth 19 (each_second 356 9) ∷ [];
  catalog_pairs = catalog_with (one 8) other;
  extents_tree = facts 1 1 1 16 14;
  bits = bits_with false;
}

nine_blocks : blocks_at nine_and_nine 18 data_kind ≡ 355 ∷ 357 ∷ 359 ∷ 361 ∷ 363 ∷ 365 ∷ 367 ∷ 369 ∷ 371 ∷ []
unfolding number_at number_bytes extents_at extents_bytes fork_bytes entry_of entry_bytes placed_of overflow_of extents_of all_forks
nine_blocks = refl

eight_blocks : blocks_at eight_and_nine 18 data_kind ≡ 355 ∷ 357 ∷ 359 ∷ 361 ∷ 363 ∷ 365 ∷ 367 ∷ 369 ∷ []
unfolding number_at number_bytes extents_at extents_bytes fork_bytes entry_of entry_bytes placed_of overflow_of extents_of all_forks
eight_blocks = refl

abbrev file_with : ℕ → FileRecord
file_with blocks = record { fields = file_fields 18; data_fork = fork_of blocks (each_second 355 blocks); resource_fork = no_fork }

-- the ninth block of a file is cut
a_block_is_cut : CutsBlocks 18 data_kind 8 1 nine_and_nine eight_and_nine
unfolding number_at number_bytes extents_at extents_bytes fork_bytes entry_of entry_bytes placed_of overflow_of extents_of all_forks
a_block_is_cut = record {
  puts = record {
    free = 1675;
    next = 355;
    counts = refl;
    puts = record {
      is_kind = inl refl;
      are_fresh = record { inside = all_in _ [] tt; free = all_in _ [] tt; once = λ block. omega arith };
      within = omega (arith, ap length nine_blocks);
      is = refl;
      file = record {
        entry = one 9;
        pair = pair_of (one 9);
        is_entry = refl;
        file = file_with 9;
        is_file = (refl, refl, refl);
        fork = fork_of 8 (each_second 355 8);
        other = pair_of (one 8);
        is_other = record { stands = refl; spelled = refl };
        swapped = record { place = 4; at = refl; is = refl };
      };
      stored = (
        record {
          inside = all_in (λ (extent : Extent). extent.start + extent.count ≤ 2048) (each_second 355 8) (omega arith, (omega arith, (omega arith, (omega arith, (omega arith, (omega arith, (omega arith, (omega arith, tt))))))));
          blocks = refl;
          bytes = omega arith;
        },
        tt,
      );
      others = refl;
      flips = record {
        size = refl;
        taken = all_in _ [] tt;
        given = all_in (λ (block : ℕ). slice_index_or (bits_with false) block false ≡ false) (371 ∷ []) (refl, tt);
        others = λ block fresh freed. elsewhere (replicate 371 true) false true (true ∷ (replicate 1674 false ++ (true ∷ replicate 30720 false))) block (not_it 371 block freed);
      };
      catalog_nodes = record { total = refl; size = refl };
      extents_nodes = record { total = refl; size = refl };
      rest = refl;
    };
  };
  some = omega arith;
  whole = ap length nine_blocks;
}

-- ---- a file that grows at a moment

abbrev at_seven : VolumeState → VolumeState
at_seven volume = record volume { head = record volume.head { modify_date = 7 } }

-- the file with nine blocks, and the dates of that moment
abbrev dated_file : FileRecord
dated_file = record (file_with 9) { fields = record (file_fields 18) { changed = 7; attribute = 7 } }

abbrev dated_one : Placed
dated_one = record (one 9) { value = File dated_file }

abbrev nine_dated : VolumeState
nine_dated = record (at_seven nine_and_nine) { catalog_pairs = catalog_with dated_one other }

-- a ninth block is added to a file, whose dates then are that moment
a_block_is_added : RewritesFile 18 8 0 (371 ∷ []) (at_seven eight_and_nine) nine_dated
unfolding number_at number_bytes extents_at extents_bytes fork_bytes entry_of entry_bytes placed_of overflow_of extents_of all_forks
a_block_is_added = record {
  put = at_seven nine_and_nine;
  puts = record {
    free = 1674;
    next = 355;
    counts = refl;
    puts = record {
      is_kind = inl refl;
      are_fresh = record {
        inside = all_in (λ (block : ℕ). block < 2048) (371 ∷ []) (omega arith, tt);
        free = all_in (λ (block : ℕ). slice_index_or (bits_with false) block false ≡ false) (371 ∷ []) (refl, tt);
        once = λ block. count_by-le-length (λ (it : ℕ). it == block) (371 ∷ []);
      };
      within = omega (arith, ap length eight_blocks);
      is = refl;
      file = record {
        entry = one 8;
        pair = pair_of (one 8);
        is_entry = refl;
        file = file_with 8;
        is_file = (refl, refl, refl);
        fork = fork_of 9 (each_second 355 9);
        other = pair_of (one 9);
        is_other = record { stands = refl; spelled = refl };
        swapped = record { place = 4; at = refl; is = refl };
      };
      stored = (
        record {
          inside = all_in (λ (extent : Extent). extent.start + extent.count ≤ 2048) (each_second 355 8) (omega arith, (omega arith, (omega arith, (omega arith, (omega arith, (omega arith, (omega arith, (omega arith, tt))))))));
          blocks = refl;
          bytes = omega arith;
        },
        (refl, refl, tt, refl),
      );
      others = refl;
      flips = record {
        size = refl;
        taken = all_in (λ (block : ℕ). slice_index_or (bits_with true) block false ≡ true) (371 ∷ []) (refl, tt);
        given = all_in _ [] tt;
        others = λ block fresh freed. elsewhere (replicate 371 true) true false (true ∷ (replicate 1674 false ++ (true ∷ replicate 30720 false))) block (not_it 371 block fresh);
      };
      catalog_nodes = record { total = refl; size = refl };
      extents_nodes = record { total = refl; size = refl };
      rest = refl;
    };
  };
  dates = record {
    entry = one 9;
    before = file_fields 18;
    after = record (file_fields 18) { changed = 7; attribute = 7 };
    has = refl;
    is_entry = refl;
    fields = record { touched = record { id = refl; count = refl; mode = refl; created = refl; changed = refl; attribute = refl }; special = refl };
    changes = record {
      changes = record {
        pair = pair_of (one 9);
        is_entry = refl;
        other = pair_of dated_one;
        is_other = record { stands = refl; spelled = refl };
        swapped = record { place = 4; at = refl; is = refl };
        alike = record { place = (refl, refl); kind = (refl, refl); id = refl; link = refl; reference = λ link. refl };
        forks = refl;
      };
      nodes = record { total = refl; size = refl };
      rest = refl;
    };
  };
}

-- ---- a tree that grows

abbrev catalog_fork : ForkRecord
catalog_fork = record { logical_size = 266240; clump_size = 4096; total_blocks = 65; extents = eight (record { start = 291; count = 65 } ∷ []) }

abbrev with_a_node_more : VolumeState
with_a_node_more = record fresh_volume {
  head = record fresh_head { free_blocks = 1691; catalog_fork = catalog_fork };
  catalog_tree = facts 1 1 6 65 63;
  bits = replicate 355 true ++ (true ∷ (replicate 1691 false ++ (true ∷ replicate 30720 false)));
}

other_trees_stay : (id : ℕ) → IsTreeFork id → id ≢ catalog_id → HasSameNodes (facts_at fresh_volume id) (facts_at with_a_node_more id)
other_trees_stay id (inl three) differs = subst (λ n. HasSameNodes (facts_at fresh_volume n) (facts_at with_a_node_more n)) (sym three) (record { total = refl; size = refl })
other_trees_stay id (inr (inl four)) differs = absurd (differs four)
other_trees_stay id (inr (inr last)) differs = subst (λ n. HasSameNodes (facts_at fresh_volume n) (facts_at with_a_node_more n)) (sym last) (record { total = refl; size = refl })

-- the catalog gets a node in the block behind its file
a_tree_grows : GrowsAndCounts catalog_id 1 (355 ∷ []) fresh_volume with_a_node_more
unfolding number_at number_bytes extents_at extents_bytes fork_bytes entry_of entry_bytes placed_of overflow_of extents_of all_forks
a_tree_grows = record {
  free = 1691;
  next = 355;
  counts = refl;
  grows = record {
    are_fresh = record {
      inside = all_in (λ (block : ℕ). block < 2048) (355 ∷ []) (omega arith, tt);
      free = all_in (λ (block : ℕ). slice_index_or fresh_volume.bits block false ≡ false) (355 ∷ []) (refl, tt);
      once = λ block. count_by-le-length (λ (it : ℕ). it == block) (355 ∷ []);
    };
    is = refl;
    there = λ same. refl;
    nodes = record { total = refl; size = refl };
    whole = refl;
    fork = catalog_fork;
    size = refl;
    stored = (record { inside = all_in (λ (extent : Extent). extent.start + extent.count ≤ 2048) (record { start = 291; count = 65 } ∷ []) (omega arith, tt); blocks = refl; bytes = omega arith }, tt);
    others = refl;
    own = λ same. refl;
    flips = record {
      size = refl;
      taken = all_in (λ (block : ℕ). slice_index_or with_a_node_more.bits block false ≡ true) (355 ∷ []) (refl, tt);
      given = all_in _ [] tt;
      others = λ block fresh freed. elsewhere (replicate 355 true) true false (replicate 1691 false ++ (true ∷ replicate 30720 false)) block (not_it 355 block fresh);
    };
    other_trees = other_trees_stay;
    rest = refl;
  };
}
