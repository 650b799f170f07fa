-- A volume is settled again behind a command that changed its catalog and the numbers of its header, and its tree is that of the new lists.
use Rattle.std.proofs.Common.{◌≡◌, ℕ, sym, ◌∙◌, ap, subst}
use Rattle.std.specs.Prelude.{IsTrue, Option}
use Rattle.sector_disk.specs.Lists.{Content}
use Rattle.sector_disk.specs.Space.{Space}
use Rattle.jnl_format.specs.Recovery.{header_of_volume}
use Rattle.volume_header.specs.declared.header.VolumeHeader.{VolumeHeader}
use Rattle.hfs_volume.specs.Content.{VolumeState, volume_of, has_attributes}
use Rattle.hfs_volume.specs.Links.{private_id}
use Rattle.hfs_volume.specs.Records.{placed_in}
use Rattle.hfs_volume.specs.Sound.{IsSoundVolume}
use Rattle.hfs_volume.specs.TreeOf.{tree_in, tree_of, bytes_in}
use Rattle.volume_base.specs.Changing.{ChangesCatalog}
use Rattle.volume_base.specs.Lists.{lists_of, facts_on}
use Rattle.volume_base.specs.Standing.{IsStanding, IsSettled}
use Rattle.volume_base.specs.Trees.{ChangesTrees}
use Rattle.volume_base.specs.declared.volume.Tree.{Tree}
use Rattle.volume_base.specs.declared.volume.Volume.{Volume}
use Rattle.volume_base.proofs.TreesAfter.{catalog_in_trees}
use Rattle.volume_base.proofs.TreesSettled as trees

pub header_settled : (v : Volume) (content : Content) → IsSettled v content → header_of_volume content ≡ v.header
header_settled v content settled = trees.header_settled v content settled

-- the lists that a command leads to: those that the volume keeps, with the numbers that meant nothing before
abbrev pub lists_then : Content → Volume → Content → VolumeState
lists_then before w after = record (lists_of w after) { attributes_tree = (volume_of before).attributes_tree }

module _ (v w : Volume) (a b : Space) (changes : ChangesCatalog v w a.content b.content) (settled : IsSettled v a.content) (was : IsStanding v a) (stands : IsStanding w b) (headed : header_of_volume b.content ≡ w.header) where
  has_still : IsTrue (has_attributes w.header) → IsTrue (has_attributes v.header)
  has_still there = subst (λ (h : VolumeHeader). IsTrue (has_attributes h)) changes.numbers there

  attributes_same : IsTrue (has_attributes w.header) → (volume_of a.content).attributes_tree ≡ facts_on w.attributes.file
  attributes_same there = settled.attributes (has_still there) ∙ sym (ap (λ (t : Tree). facts_on t.file) changes.attributes)

  in_trees : ChangesTrees v w a.content b.content
  in_trees = catalog_in_trees v w a.content b.content changes

  module _ (sound : IsSoundVolume (lists_then a.content w b.content)) where
    pub settles_again : private_id (placed_in (lists_of w b.content).catalog_pairs) ≡ private_id (placed_in (lists_of v a.content).catalog_pairs) → IsSettled w b.content
    settles_again private = trees.settles_again v w a b in_trees settled was stands headed (volume_of a.content).attributes_tree attributes_same sound private

    -- with a private folder that was made
    pub settles_private : (private : Option ℕ) → private ≡ private_id (placed_in (lists_of w b.content).catalog_pairs) → IsSettled (record w { private = private }) b.content
    settles_private private is = trees.settles_private v w a b in_trees settled was stands headed (volume_of a.content).attributes_tree attributes_same sound private is

    pub tree_again : tree_of b.content ≡ tree_in (lists_then a.content w b.content) (bytes_in a.content)
    tree_again = trees.tree_again v w a b in_trees settled was stands headed (volume_of a.content).attributes_tree attributes_same sound

    -- the lists that the law speaks of
    pub lists_told : lists_then a.content w b.content ≡ record (volume_of a.content) { head = w.header; catalog_pairs = (lists_of w b.content).catalog_pairs; catalog_tree = facts_on w.catalog.file }
    lists_told =
        (λ i. record (changes.lists i) { attributes_tree = (volume_of a.content).attributes_tree })
        ∙ sym (λ i. record (settled.lists i) { head = w.header; catalog_pairs = (lists_of w b.content).catalog_pairs; catalog_tree = facts_on w.catalog.file })
