-- The sizes of the special files, as they are judged one after the other.
use Rattle.std.specs.Prelude.{◌≡◌, ℕ, max, List, [], ◌∷◌, if◌then◌else◌}
use Rattle.jnl_format.specs.Recovery.{Content, header_of_volume}
use Rattle.volume_header.specs.declared.header.VolumeHeader.{VolumeHeader}
use Rattle.btree_node.specs.TreeFile.{TreeFile}
use Rattle.hfs_volume.specs.Broken.{Want, want, size_wants}
use Rattle.hfs_volume.specs.Content.{facts_of, has_attributes, extents_file, catalog_file, attributes_file}
use Rattle.hfs_volume.specs.Forks.{allocation_id, attributes_id, parts_for}
use Rattle.fsck_scan.specs.Form.{head_in}
use Rattle.fsck_scan.specs.declared.form.Head.{Head}

-- the numbers of the attributes file, where there is one
abbrev pub attributes_wants : VolumeHeader → TreeFile → List Want
attributes_wants head file = if has_attributes head then size_wants attributes_id head head.attributes_fork (facts_of file) else []

-- the numbers of the allocation file with so many bits behind those of blocks
abbrev pub bitmap_wants : VolumeHeader → ℕ → List Want
bitmap_wants head behind =
    want allocation_id head.allocation_fork.logical_size (max head.allocation_fork.logical_size (parts_for head.total_blocks 8)) ∷ want allocation_id behind 0 ∷ []

-- These are the headers of a content: that of the volume, and the header records of its three trees.
pub record HasSpecialHeads (content : Content) (head : VolumeHeader) (extents catalog attributes : Head) : Type 0 where
  pub volume : head ≡ header_of_volume content
  pub extents_head : head_in extents ≡ (extents_file content).head
  pub catalog_head : head_in catalog ≡ (catalog_file content).head
  pub attributes_head : head_in attributes ≡ (attributes_file content).head
