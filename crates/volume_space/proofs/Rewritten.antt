-- What a fork that was rewritten leaves: the trees have their nodes and blocks, the journal lies where it lay, and each value has its blocks.
use Rattle.std.proofs.Common.{◌≡◌, ◌<◌, ◌≤◌, ℕ, ◌*◌, ◌/◌, List, [], ◌∷◌, length, take, refl, sym, ◌∙◌, ap, subst, arith, map}
use Rattle.std.specs.Prelude.{not}
use Rattle.std.proofs.Math.Nat.{div-le_self}
use Rattle.std.proofs.lemmas.List.{take_all}
use Rattle.jnl_format.specs.Keeping.{IsSame}
use Rattle.volume_header.specs.declared.header.VolumeHeader.{VolumeHeader}
use Rattle.hx_bytes.specs.declared.extents.ForkRecord.{ForkRecord}
use Rattle.fork_map.specs.Blocks.{blocks_of}
use Rattle.hfs_model.specs.Sorted.{kept}
use Rattle.hfs_volume.specs.Content.{VolumeState, overflow_in_volume}
use Rattle.hfs_volume.specs.Forks.{all_forks, attributes_id, blocks_owned, catalog_id, data_kind, extents_id, is_of}
use Rattle.hfs_volume.specs.Reclaim.{GrowsBy, GrowsTrees, blocks_at, SameValues}
use Rattle.hfs_volume.specs.Changes.{with_free}
use Rattle.hfs_volume.specs.Writing.{RewritesFork}
use Rattle.volume_space.proofs.SpreadForks.{extents_alike}
use Rattle.hfs_volume.specs.Records.{attribute_of}
use Rattle.hfs_volume.specs.Values.{value_blocks}
use Rattle.btree_node.specs.Levels.{Pair}

same_numbers : (free next : ℕ) (head : VolumeHeader) → IsSame head (with_free free next head)
same_numbers free next head = record { signature = refl; version = refl; last_mounted = refl; info_block = refl; block_size = refl; total_blocks = refl; bit_12 = refl; bit_13 = refl; bit_15 = refl }

nothing : (size block : ℕ) → 0 * size / block ≡ 0
nothing size block = omega (arith, div-le_self (0 * size) block)

stays : (more : ℕ) (old new : List ℕ) → more ≡ 0 → new ≡ old → GrowsBy more old new
stays more old new none same = record {
  front = ap (take (length old)) same ∙ take_all (length old) old (omega arith);
  longer = omega (arith, none, ap (λ (l : List ℕ). length l) same);
}

module _ (id kind from count : ℕ) (fresh : List ℕ) (old new : VolumeState) (does : RewritesFork id kind from count fresh old new) (user : 16 ≤ id) where
  head_is : new.head ≡ with_free does.puts.free does.puts.next old.head
  head_is = ap (λ (v : VolumeState). v.head) does.dates.changes.rest ∙ ap (λ (v : VolumeState). v.head) does.puts.puts.rest

  -- no overflow record but the file's is another one
  others : kept (λ more. not (is_of id kind more)) (overflow_in_volume new) ≡ kept (λ more. not (is_of id kind more)) (overflow_in_volume old)
  others = ap (λ (v : VolumeState). kept (λ more. not (is_of id kind more)) (overflow_in_volume v)) does.dates.changes.rest ∙ does.puts.puts.others

  special_stays : (low : ℕ) (fork : ForkRecord) → low < 16 → blocks_owned (overflow_in_volume new) (record { id = low; kind = data_kind; fork = fork }) ≡ blocks_owned (overflow_in_volume old) (record { id = low; kind = data_kind; fork = fork })
  special_stays low fork less = ap blocks_of (extents_alike id kind (overflow_in_volume old) (overflow_in_volume new) others low data_kind fork (λ same. absurd (omega (arith, same, less, user))))

  extents_stay : blocks_at new extents_id data_kind ≡ blocks_at old extents_id data_kind
  unfolding all_forks
  extents_stay = (λ i. blocks_owned (overflow_in_volume new) (record { id = extents_id; kind = data_kind; fork = (head_is i).extents_fork })) ∙ special_stays extents_id old.head.extents_fork (omega arith)

  catalog_stays : blocks_at new catalog_id data_kind ≡ blocks_at old catalog_id data_kind
  unfolding all_forks
  catalog_stays = (λ i. blocks_owned (overflow_in_volume new) (record { id = catalog_id; kind = data_kind; fork = (head_is i).catalog_fork })) ∙ special_stays catalog_id old.head.catalog_fork (omega arith)

  attributes_stay : blocks_at new attributes_id data_kind ≡ blocks_at old attributes_id data_kind
  unfolding all_forks
  attributes_stay = (λ i. blocks_owned (overflow_in_volume new) (record { id = attributes_id; kind = data_kind; fork = (head_is i).attributes_fork })) ∙ special_stays attributes_id old.head.attributes_fork (omega arith)

  pub trees_stay : GrowsTrees (0 ∷ 0 ∷ 0 ∷ []) old new
  trees_stay = record {
    extents = record {
      nodes = omega (arith, ap (λ (v : VolumeState). v.extents_tree.shape.total) does.dates.changes.rest, does.puts.puts.extents_nodes.total);
      blocks = stays _ _ _ (nothing old.extents_tree.shape.node_size old.head.block_size) extents_stay;
    };
    catalog = record {
      nodes = omega (arith, does.dates.changes.nodes.total, does.puts.puts.catalog_nodes.total);
      blocks = stays _ _ _ (nothing old.catalog_tree.shape.node_size old.head.block_size) catalog_stays;
    };
    attributes = record {
      nodes = omega (
        arith,
        ap (λ (v : VolumeState). v.attributes_tree.shape.total) does.dates.changes.rest,
        ap (λ (v : VolumeState). v.attributes_tree.shape.total) does.puts.puts.rest,
      );
      blocks = stays _ _ _ (nothing old.attributes_tree.shape.node_size old.head.block_size) attributes_stay;
    };
  }

  pub journal_is : new.journal ≡ old.journal
  journal_is = ap (λ (v : VolumeState). v.journal) does.dates.changes.rest ∙ ap (λ (v : VolumeState). v.journal) does.puts.puts.rest

  pub values_stay : SameValues old new
  values_stay id name = ap (λ (l : List Pair). value_blocks (map attribute_of l) id name) (ap (λ (v : VolumeState). v.attribute_pairs) does.dates.changes.rest ∙ ap (λ (v : VolumeState). v.attribute_pairs) does.puts.puts.rest)

  pub flags_are : new.head.attributes ≡ old.head.attributes
  flags_are = ap (λ (h : VolumeHeader). h.attributes) head_is

  pub numbers_are : IsSame old.head new.head
  numbers_are = subst (λ (h : VolumeHeader). IsSame old.head h) (sym head_is) (same_numbers does.puts.free does.puts.next old.head)
