-- The numbers of special files, as they are judged.
use Rattle.std.proofs.Common.{◌≡◌, ℕ, ◌-◌, ◌*◌, ◌^◌, min, [], ◌∷◌, ◌++◌, ◌∙◌, ap}
use Rattle.jnl_format.specs.Recovery.{Content, header_of_volume}
use Rattle.hx_bytes.specs.declared.extents.ForkRecord.{ForkRecord}
use Rattle.volume_header.specs.declared.header.VolumeHeader.{VolumeHeader}
use Rattle.btree_node.specs.TreeFile.{TreeFile, TreeHead}
use Rattle.hfs_volume.specs.Broken.{want, node_place, size_wants, file_wants, bits_behind}
use Rattle.hfs_volume.specs.Content.{facts_of, volume_of, extents_file, catalog_file, attributes_file}
use Rattle.hfs_volume.specs.Forks.{extents_id, catalog_id}
use Rattle.fsck_scan.specs.Form.{head_in}
use Rattle.fsck_scan.specs.declared.form.Head.{Head}
use Rattle.fsck_core.specs.Files.{attributes_wants, bitmap_wants}
use Rattle.fsck_scan.specs.declared.form.Head.{Head}

module _ (head : Head) (file : TreeFile) (same : head_in head ≡ file.head) where
  pub compare_is : (want (node_place catalog_id 0) head.compare 0xBC ∷ []) ≡ (want (node_place catalog_id 0) file.head.compare 0xBC ∷ [])
  compare_is = ap (λ (h : TreeHead). want (node_place catalog_id 0) h.compare 0xBC ∷ []) same

  pub sizes_are : (id : ℕ) (volume : VolumeHeader) (fork : ForkRecord) (blocks nodes : ℕ) → blocks ≡ fork.total_blocks * volume.block_size → nodes ≡ head.shape.total * head.shape.node_size
      → (want id fork.logical_size blocks ∷ want id fork.logical_size nodes ∷ []) ≡ size_wants id volume fork (facts_of file)
  sizes_are id volume fork blocks nodes blocks_are nodes_are =
      (λ i. want id fork.logical_size (blocks_are i) ∷ want id fork.logical_size (nodes_are i) ∷ [])
      ∙ ap (λ (h : TreeHead). want id fork.logical_size (fork.total_blocks * volume.block_size) ∷ want id fork.logical_size (h.total * h.node_size) ∷ []) same

-- the numbers of the volume's special files
pub files_are : (content : Content) (head : VolumeHeader) (behind : ℕ) → head ≡ header_of_volume content → behind ≡ min (bits_behind (volume_of content)) (2 ^ 64 - 1)
    → (size_wants extents_id head head.extents_fork (facts_of (extents_file content))
    ++ (size_wants catalog_id head head.catalog_fork (facts_of (catalog_file content)) ++ (attributes_wants head (attributes_file content) ++ bitmap_wants head behind)))
    ≡ file_wants (volume_of content)
unfolding volume_of
files_are content head behind is count = λ i.
    size_wants extents_id (is i) (is i).extents_fork (facts_of (extents_file content))
    ++ (size_wants catalog_id (is i) (is i).catalog_fork (facts_of (catalog_file content)) ++ (attributes_wants (is i) (attributes_file content) ++ bitmap_wants (is i) (count i)))
