-- The lists of a content behind a command that changed the catalog and the header's numbers are those that the law speaks of, also where there is
-- no attributes file.
use Rattle.std.proofs.Common.{◌≡◌, ℕ, ◌*◌, List, refl, sym, ◌∙◌, ap, subst, ⊎_elim}
use Rattle.std.specs.Prelude.{Contains}
use Rattle.sector_disk.specs.Lists.{Content, sector}
use Rattle.sector_disk.specs.Space.{Space}
use Rattle.jnl_format.specs.Recovery.{header_of_volume}
use Rattle.volume_header.specs.declared.header.VolumeHeader.{VolumeHeader}
use Rattle.btree_file.specs.State.{sectors_of_tree}
use Rattle.fork_map.specs.Blocks.{blocks_of, sectors_of}
use Rattle.hfs_volume.specs.Content.{VolumeState, attributes_file, block_limit, facts_of, overflow_in_volume, overflow_of_content, tree_of_fork, volume_of}
use Rattle.hfs_volume.specs.Forks.{attributes_id, data_kind, extents_of, per_block_of}
use Rattle.hfs_volume.proofs.Rereading.{same_tree}
use Rattle.volume_base.specs.Changing.{ChangesCatalog}
use Rattle.volume_base.specs.Lists.{lists_of}
use Rattle.volume_base.specs.Standing.{IsSettled, IsStanding, with_attributes_tree}
use Rattle.volume_base.specs.declared.volume.Volume.{Volume}
use Rattle.volume_base.proofs.FilesKept.{attributes_apart, attributes_sectors, catalog_sectors}
use Rattle.volume_base.proofs.Settling.{header_settled, lists_then}

-- the attributes file by the lists
file_is : (content : Content) → attributes_file content ≡ tree_of_fork content (block_limit content) (attributes_sectors (volume_of content))
unfolding attributes_file volume_of overflow_of_content
file_is content = refl

-- the header by the lists
headed_by : (w : Volume) (content : Content) → volume_of content ≡ with_attributes_tree (lists_of w content) (volume_of content) → header_of_volume content ≡ w.header
unfolding volume_of
headed_by w content later = ap (λ (l : VolumeState). l.head) later

facts_are : (content : Content) → (volume_of content).attributes_tree ≡ facts_of (attributes_file content)
unfolding volume_of
facts_are content = refl

-- the attributes file is the same where its sectors are, and the content has them as it had
pub attributes_again : (a b : Content) → block_limit b ≡ block_limit a → attributes_sectors (volume_of b) ≡ attributes_sectors (volume_of a) → ((at : ℕ) → Contains (attributes_sectors (volume_of a)) at → sector b at ≡ sector a at)
    → (volume_of b).attributes_tree ≡ (volume_of a).attributes_tree
attributes_again a b limit sectors agrees =
    facts_are b ∙ ap facts_of (file_is b) ∙ (λ i. facts_of (tree_of_fork b (limit i) (sectors i)))
    ∙ ap facts_of (same_tree a b (block_limit a) (attributes_sectors (volume_of a)) agrees) ∙ ap facts_of (sym (file_is a)) ∙ sym (facts_are a)

module _ (v w : Volume) (a b : Space) (changes : ChangesCatalog v w a.content b.content) (settled : IsSettled v a.content) (was : IsStanding v a) (later : volume_of b.content ≡ with_attributes_tree (lists_of w b.content) (volume_of b.content)) where
  -- the header, but for its numbers
  heads : (volume_of b.content).head ≡ w.header
  heads = ap (λ (l : VolumeState). l.head) later

  overflow_same : overflow_in_volume (volume_of b.content) ≡ overflow_in_volume (volume_of a.content)
  overflow_same = ap overflow_in_volume later ∙ ap overflow_in_volume changes.lists ∙ sym (ap overflow_in_volume settled.lists)

  sectors_same : attributes_sectors (volume_of b.content) ≡ attributes_sectors (volume_of a.content)
  sectors_same =
      (λ i. sectors_of (per_block_of (heads i)) (blocks_of (extents_of (overflow_same i) attributes_id data_kind (heads i).attributes_fork)))
      ∙ (λ i. sectors_of (per_block_of (changes.numbers i)) (blocks_of (extents_of (overflow_in_volume (volume_of a.content)) attributes_id data_kind (changes.numbers i).attributes_fork)))
      ∙ sym (λ i. sectors_of (per_block_of (settled.lists i).head) (blocks_of (extents_of (overflow_in_volume (volume_of a.content)) attributes_id data_kind (settled.lists i).head.attributes_fork)))

  limit_same : block_limit b.content ≡ block_limit a.content
  limit_same = ap (λ (h : VolumeHeader). h.total_blocks * per_block_of h) (headed_by w b.content later) ∙ ap (λ (h : VolumeHeader). h.total_blocks * per_block_of h) changes.numbers
      ∙ sym (ap (λ (h : VolumeHeader). h.total_blocks * per_block_of h) (header_settled v a.content settled))

  catalog_is : sectors_of_tree v.catalog.file ≡ catalog_sectors (volume_of a.content)
  catalog_is = (λ i. sectors_of (was.forks.catalog_per i) (blocks_of (was.forks.catalog i))) ∙ sym (ap catalog_sectors settled.lists)

  agrees : (at : ℕ) → Contains (attributes_sectors (volume_of a.content)) at → sector b.content at ≡ sector a.content at
  agrees at has =
      let apart = attributes_apart (volume_of a.content) settled.sound at has in
      ⊎_elim (λ same. same) (λ here. absurd (⊎_elim (λ is. apart.0 is) (λ there. apart.1 (subst (λ (l : List ℕ). Contains l at) catalog_is there)) here)) (changes.outside.each at)

  tree_same : (volume_of b.content).attributes_tree ≡ (volume_of a.content).attributes_tree
  tree_same = attributes_again a.content b.content limit_same sectors_same agrees

  pub lists_told_again : volume_of b.content ≡ lists_then a.content w b.content
  lists_told_again = later ∙ (λ i. record (lists_of w b.content) { attributes_tree = tree_same i })

pub lists_again : (v w : Volume) (a b : Space) → ChangesCatalog v w a.content b.content → IsSettled v a.content → IsStanding v a → IsSettled w b.content → volume_of b.content ≡ lists_then a.content w b.content
lists_again v w a b changes settled was later = lists_told_again v w a b changes settled was later.lists
