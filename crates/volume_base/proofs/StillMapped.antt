-- What a settled content has of the bitmap, and still has behind a change of the attributes.
use Rattle.std.proofs.Common.{◌≡◌, ◌⊎◌, inl, inr, ◌≤◌, ℕ, ◌+◌, ◌*◌, ◌++◌, List, [], ◌∷◌, length, refl, sym, ◌∙◌, ap, subst, arith, ⊎_elim}
use Rattle.std.specs.Prelude.{Contains}
use Rattle.alloc_bitmap.proofs.ApartLaws.{times-append}
use Rattle.btree_file.specs.State.{sectors_of_tree}
use Rattle.btree_node.specs.Levels.{Pair}
use Rattle.hfs_volume.specs.Content.{VolumeState, volume_of}
use Rattle.sector_disk.specs.Lists.{Content, sector}
use Rattle.sector_disk.specs.Space.{Space}
use Rattle.volume_header.specs.declared.header.VolumeHeader.{VolumeHeader}
use Rattle.volume_base.specs.Attributing.{ChangesAttributes}
use Rattle.volume_base.specs.Lists.{bits_on}
use Rattle.volume_base.specs.Mapping.{HoldsMap, HoldsUnchanged}
use Rattle.volume_base.specs.Standing.{IsSettled, IsStanding, attribute_sectors, file_sectors, map_sectors}
use Rattle.volume_base.specs.declared.volume.Volume.{Volume}
use Rattle.volume_base.proofs.MapBits.{bit_elsewhere, bits_hold}
use Rattle.volume_base.proofs.Placing.{stands_once}
use Rattle.volume_base.proofs.Resettling.{bits_at, bits_here}
use Rattle.volume_base.proofs.TreesSettled.{header_settled}

module _ (v : Volume) (a : Space) (was : IsStanding v a) where
  -- a settled content has the bits that the volume keeps
  pub holds_settled : IsSettled v a.content → HoldsMap v a.content
  holds_settled settled =
      let bits : bits_at a.content v ≡ bits_on v = sym (bits_here v a was (header_settled v a.content settled)) ∙ ap (λ (l : VolumeState). l.bits) settled.lists in
      let fits : length v.map.used ≤ 8 * v.header.allocation_fork.logical_size = omega (
        arith,
        settled.blocks,
        settled.sound.blocks.files.bits,
        ap (λ (l : VolumeState). l.head.total_blocks) settled.lists,
        ap (λ (l : VolumeState). l.head.allocation_fork.logical_size) settled.lists,
      ) in
      bits_hold v a was (header_settled v a.content settled) fits bits

  pub unchanged_settled : IsSettled v a.content → HoldsUnchanged v a.content
  unchanged_settled settled k low same = holds_settled settled k low

  -- a sector of the bitmap is neither the header's nor one of the catalog or of the attributes file
  map_off : (s : ℕ) → Contains (map_sectors v) s → (s ≡ 2) ⊎ (Contains (sectors_of_tree v.catalog.file) s ⊎ Contains (attribute_sectors v) s) → ⊥
  map_off s here either =
      let parts = times-append s (sectors_of_tree v.extents.file) (sectors_of_tree v.catalog.file ++ (attribute_sectors v ++ map_sectors v)) in
      let more = times-append s (sectors_of_tree v.catalog.file) (attribute_sectors v ++ map_sectors v) in
      let rest = times-append s (attribute_sectors v) (map_sectors v) in
      let first = times-append s (2 ∷ []) (file_sectors v) in
      ⊎_elim
      (λ two. omega (arith, was.apart s, parts, more, rest, first, stands_once s (map_sectors v) here, stands_once s (2 ∷ []) (0, omega arith, sym two)))
      (λ other. ⊎_elim
      (λ there. omega (arith, was.apart s, parts, more, rest, first, stands_once s (map_sectors v) here, stands_once s (sectors_of_tree v.catalog.file) there))
      (λ there. omega (arith, was.apart s, parts, more, rest, first, stands_once s (map_sectors v) here, stands_once s (attribute_sectors v) there))
      other)
      either

  module _ (Does : List Pair → List Pair → Type 0) (w : Volume) (after : Content) (ch : ChangesAttributes Does v w a.content after) where
    map_stays : (s : ℕ) → Contains (map_sectors v) s → sector after s ≡ sector a.content s
    map_stays s here = ⊎_elim (λ same. same) (λ there. absurd (map_off s here there)) (ch.changes.outside.each s)

    -- and so has one behind a change of the attributes
    pub unchanged_owned : HoldsUnchanged v a.content → HoldsUnchanged w after
    unchanged_owned holds = subst (λ (x : Volume). HoldsUnchanged x after) (sym ch.rest) (λ k low same. bit_elsewhere (map_sectors v) a.content after map_stays k ∙ holds k low same)

    pub holds_owned : HoldsMap v a.content → HoldsMap w after
    holds_owned holds = subst (λ (x : Volume). HoldsMap x after) (sym ch.rest) (λ k low. bit_elsewhere (map_sectors v) a.content after map_stays k ∙ holds k low)
