-- The tree of a volume stays where no sector but the header's and those of special files is another, and no overflow records but those of a tree's fork are.
use Rattle.std.proofs.Common.{◌≡◌, ◌≢◌, ◌<◌, ℕ, ◌*◌, ◌/◌, List, refl, take, map, sym, ◌∙◌, ap, subst, arith, inl, inr}
use Rattle.std.specs.Prelude.{Contains, not}
use Rattle.sector_disk.specs.Lists.{Content, sector}
use Rattle.jnl_format.specs.Recovery.{header_of_volume}
use Rattle.fork_map.specs.Blocks.{blocks_of, sectors_of}
use Rattle.hfs_model.specs.Sorted.{kept}
use Rattle.hfs_volume.specs.Blocks.{forks_of}
use Rattle.hfs_volume.specs.Content.{VolumeState, volume_of, overflow_in_volume, block_bytes}
use Rattle.hfs_volume.specs.Entries.{IsUserId}
use Rattle.hfs_volume.specs.Forks.{Owned, blocks_owned, data_kind, attributes_id, extents_of, is_of}
use Rattle.hfs_volume.specs.Sound.{IsSoundVolume}
use Rattle.hfs_volume.specs.TreeOf.{bytes_in, bytes_in_fork, tree_in}
use Rattle.hfs_volume.proofs.Apart.{not_in_both}
use Rattle.hfs_volume.proofs.Bytes.{same_bytes_same_tree}
use Rattle.hfs_volume.proofs.Rereading.{same_bytes}
use Rattle.hfs_volume.proofs.Sectors.{in_block}
use Rattle.hfs_volume.proofs.Untouched.{special_stands, whole_blocks}
use Rattle.volume_base.proofs.FilesKept.{ReadsAs, allocation_sectors, attributes_sectors, both_forks, by_lists, catalog_sectors, extents_sectors, not_2, not_in_catalog, not_in_extents, not_in_map}
use Rattle.volume_space.proofs.SpreadForks.{extents_alike}
use Rattle.volume_space.proofs.ValuesKept.{values_kept}

-- a content whose blocks are as many and as large as these lists say
pub record HasBlocksOf (content : Content) (lists : VolumeState) : Type 0 where
  pub total : (header_of_volume content).total_blocks ≡ lists.head.total_blocks
  pub block : (header_of_volume content).block_size ≡ lists.head.block_size

module _ (lists : VolumeState) (sound : IsSoundVolume lists) (id : ℕ) (low : id < 16) (not_root : id ≢ 2) (a d : Content) (reads_a : HasBlocksOf a lists) (reads_d : ReadsAs d lists)
    (others : kept (λ more. not (is_of id data_kind more)) (overflow_in_volume lists) ≡ kept (λ more. not (is_of id data_kind more)) (overflow_in_volume (volume_of a)))
    (agrees : (at : ℕ) → at ≢ 2 → (Contains (catalog_sectors lists) at → ⊥) → (Contains (attributes_sectors lists) at → ⊥) → (Contains (extents_sectors lists) at → ⊥) → (Contains (allocation_sectors lists) at → ⊥) → sector d at ≡ sector a at)
  where
    abbrev per : ℕ
    per = lists.head.block_size / 512

    module _ (fork : Owned) (fork_there : Contains (forks_of lists) fork) (user_id : IsUserId lists.head.next_catalog_id fork.id) where
      other_file : (special : ℕ) → special < 16 → special ≢ 2 → fork.id ≢ special
      other_file special few differs same = by user_id
        where
          by : IsUserId lists.head.next_catalog_id fork.id → ⊥
          by (inl two) = differs (sym same ∙ two)
          by (inr user) = omega (arith, user.0, few, same)

      -- its sectors
      abbrev sectors : List ℕ
      sectors = sectors_of per (blocks_owned (overflow_in_volume lists) fork)

      alike : extents_of (overflow_in_volume lists) fork.id fork.kind fork.fork ≡ extents_of (overflow_in_volume (volume_of a)) fork.id fork.kind fork.fork
      alike = extents_alike id data_kind (overflow_in_volume (volume_of a)) (overflow_in_volume lists) others fork.id fork.kind fork.fork (other_file id low not_root)

      before : bytes_in_fork a fork.id fork.kind fork.fork ≡ take fork.fork.logical_size (block_bytes a (lists.head.total_blocks * per) sectors)
      unfolding bytes_in_fork
      before = λ i. take fork.fork.logical_size
          (block_bytes a (reads_a.total i * (reads_a.block i / 512)) (sectors_of (reads_a.block i / 512) (blocks_of (sym alike i))))

      not_in_attributes : (at : ℕ) → Contains sectors at → Contains (attributes_sectors lists) at → ⊥
      not_in_attributes at has there =
          let some = (whole_blocks lists.sectors lists.head sound.blocks.header.accepted).some in
          not_in_both lists sound.blocks.forks (record { id = attributes_id; kind = data_kind; fork = lists.head.attributes_fork }) fork (at / per)
          (special_stands lists (record { id = attributes_id; kind = data_kind; fork = lists.head.attributes_fork }) (4, omega arith, refl)) fork_there
          (λ same. other_file attributes_id (omega arith) (λ two. absurd (omega (arith, two))) (sym (ap (λ (o : Owned). o.id) same)))
          (in_block per (blocks_of (extents_of (overflow_in_volume lists) attributes_id data_kind lists.head.attributes_fork)) at some there) (in_block per (blocks_owned (overflow_in_volume lists) fork) at some has)

      bytes_same : bytes_in_fork d fork.id fork.kind fork.fork ≡ bytes_in_fork a fork.id fork.kind fork.fork
      bytes_same = by_lists lists sound fork fork_there user_id d reads_d
          ∙ ap (λ (l : List ℕ). take fork.fork.logical_size l) (same_bytes a d (lists.head.total_blocks * per) sectors (λ at has. agrees at (not_2 lists sound fork fork_there user_id at has) (not_in_catalog lists sound fork fork_there user_id at has) (not_in_attributes at has) (not_in_extents lists sound fork fork_there user_id at has) (not_in_map lists sound fork fork_there user_id at has)))
          ∙ sym before

    pub tree_kept : tree_in lists (bytes_in d) ≡ tree_in lists (bytes_in a)
    tree_kept = same_bytes_same_tree lists (bytes_in d) (bytes_in a) (both_forks lists sound a d (λ fork there user. bytes_same fork there user))
        (values_kept lists sound a d reads_a.total reads_a.block reads_d.total reads_d.block agrees)
