-- A folder that was removed behind its attributes, in the lists of a volume.
use Rattle.std.proofs.Common.{◌≡◌, ◌≤◌, ◌<◌, ℕ, ◌==◌, false, List, [], length, map, refl, sym, ◌∙◌, ap, subst, arith}
use Rattle.std.specs.Prelude.{All, Contains, not}
use Rattle.hfs_model.specs.Sorted.{kept}
use Rattle.btree_node.specs.Levels.{Pair}
use Rattle.hfs_volume.specs.Changes.{AreSorted, InValues}
use Rattle.hfs_volume.specs.Commands.{ChangesFields, DropsAttributes, IsTouched, RemovesFolder, blocks_of_all}
use Rattle.hfs_volume.specs.Content.{VolumeState, attributes_of, is_set}
use Rattle.hfs_volume.specs.Records.{Attribute, attribute_of, entries_of, placed_in}
use Rattle.hfs_volume.specs.Values.{blocks_of_values}
use Rattle.hfs_volume.proofs.Members.{all_of, each_of}
use Rattle.hfs_volume.proofs.Valued.{kept_mapped}
use Rattle.hfs_volume.proofs.ValueTrades.{none_kept}
use Rattle.volume_base.specs.Removing.{HasNoAttributes, TakesFolder}

-- values of none have no blocks
pub none_blocks : (id : ℕ) (lists : VolumeState) → HasNoAttributes id lists.attribute_pairs → blocks_of_all (attributes_of lists) id ≡ []
unfolding blocks_of_values
none_blocks id lists none =
    ap (λ l. blocks_of_values (kept (λ (a : Attribute). a.id == id) l)) (ap (map attribute_of) none ∙ kept_mapped attribute_of (λ (a : Attribute). not (a.id == id)) lists.attribute_pairs)
    ∙ ap blocks_of_values (none_kept (λ (a : Attribute). a.id == id) (λ a. not (a.id == id)) (λ a is. ap not is) (attributes_of lists))

-- where there are none, none were removed
pub bares_nothing : (id : ℕ) (lists : VolumeState) → HasNoAttributes id lists.attribute_pairs → InValues (DropsAttributes id) [] (blocks_of_all (attributes_of lists) id) lists lists
bares_nothing id lists none = record {
  changes = none;
  are_fresh = record { inside = λ k d low. absurd (omega (arith, low)); free = λ k d low. absurd (omega (arith, low)); once = λ block. omega arith };
  flips = record {
    size = refl;
    taken = λ k d low. absurd (omega (arith, low));
    given = subst (λ l. All (λ block. is_set lists block ≡ false) l) (sym (none_blocks id lists none)) (λ k d low. absurd (omega (arith, low)));
    others = λ block one other. refl;
  };
  nodes = record { total = refl; size = refl };
  free = lists.head.free_blocks;
  next = lists.head.next_allocation;
  counts = omega (arith, ap length (none_blocks id lists none));
  rest = refl;
}

pub bares_both : (id : ℕ) (old mid new : VolumeState) → InValues (DropsAttributes id) [] (blocks_of_all (attributes_of old) id) old mid → InValues (DropsAttributes id) [] (blocks_of_all (attributes_of mid) id) mid new → HasNoAttributes id mid.attribute_pairs
    → InValues (DropsAttributes id) [] (blocks_of_all (attributes_of old) id) old new
bares_both id old mid new first second none = record {
  changes = second.changes ∙ sym none ∙ first.changes;
  are_fresh = first.are_fresh;
  flips = record {
    size = second.flips.size ∙ first.flips.size;
    taken = λ k d low. absurd (omega (arith, low));
    given = all_of (λ block. is_set new block ≡ false) (blocks_of_all (attributes_of old) id) (λ block there.
        still block ∙ each_of (λ b. is_set mid b ≡ false) (blocks_of_all (attributes_of old) id) first.flips.given block there);
    others = λ block one other. still block ∙ first.flips.others block one other;
  };
  nodes = record { total = second.nodes.total ∙ first.nodes.total; size = second.nodes.size ∙ first.nodes.size };
  free = second.free;
  next = second.next;
  counts = omega (arith, second.counts, first.counts, ap length (none_blocks id mid none), ap (λ (v : VolumeState). v.head.free_blocks) first.rest);
  rest = second.rest ∙ (λ i. record (first.rest i) { head = record (first.rest i).head { free_blocks = second.free; next_allocation = second.next }; attribute_pairs = new.attribute_pairs; attributes_tree = new.attributes_tree; bits = new.bits });
}
  where
    still : (block : ℕ) → is_set new block ≡ is_set mid block
    still block = second.flips.others block (λ none_there. absurd (omega (arith, none_there.1))) (λ there. absurd (let low = subst (λ l. Contains l block) (none_blocks id mid none) there in omega (arith, low.1)))

-- its attributes went before it
pub takes_behind : (id : ℕ) (old mid new : VolumeState) → InValues (DropsAttributes id) [] (blocks_of_all (attributes_of old) id) old mid → HasNoAttributes id mid.attribute_pairs → TakesFolder id mid new → TakesFolder id old new
takes_behind id old mid new bares none takes = record {
  removes = record {
    entry = takes.removes.entry;
    stands = subst (λ (l : List Pair). Contains (entries_of (placed_in l)) takes.removes.entry) pairs_are takes.removes.stands;
    is_entry = takes.removes.is_entry;
    bared = takes.removes.bared;
    bares = bares_both id old mid takes.removes.bared bares takes.removes.bares none;
    dropped = takes.removes.dropped;
    drops = takes.removes.drops;
    sorted = subst AreSorted pairs_are takes.removes.sorted;
    counts = subst (λ (n : ℕ). ChangesFields takes.removes.entry.parent (IsTouched n 0 1) takes.removes.dropped new) (ap (λ (l : VolumeState). l.head.modify_date) bares.rest) takes.removes.counts;
  };
  folder = takes.folder;
}
  where
    pairs_are : mid.catalog_pairs ≡ old.catalog_pairs
    pairs_are = ap (λ (l : VolumeState). l.catalog_pairs) bares.rest
