-- Behind a change of the attributes and a trade of blocks: the volume by its parts, its lists, its bitmap and its header in the content, the bits that are other ones,
-- and the count of free blocks.
use Rattle.std.proofs.Common.{◌≡◌, ◌≢◌, ◌⊎◌, ◌<◌, ℕ, ◌+◌, Bool, true, false, not, List, [], ◌∷◌, length, refl, sym, ◌∙◌, ap, subst, arith, ⊎_elim}
use Rattle.std.specs.Prelude.{All, Contains, if◌then◌else◌}
use Rattle.std.proofs.lemmas.Bool.{ne_eqb}
use Rattle.hx_bytes.specs.declared.extents.Extent.{Extent}
use Rattle.alloc_bitmap.specs.Apart.{AreApart}
use Rattle.alloc_bitmap.specs.Map.{BlockMap, unused_of}
use Rattle.btree_node.specs.Levels.{Pair}
use Rattle.file_io.specs.Places.{AreUsed, given}
use Rattle.flag_rows.specs.Bits.{count_set}
use Rattle.fork_map.specs.Blocks.{blocks_of}
use Rattle.hfs_volume.specs.Changes.{FlipsBits}
use Rattle.hfs_volume.specs.Content.{VolumeState, is_set}
use Rattle.hfs_volume.proofs.Members.{all_of}
use Rattle.jnl_format.specs.Recovery.{header_of_volume}
use Rattle.sector_disk.specs.Lists.{Content, sector}
use Rattle.sector_disk.specs.Space.{Space}
use Rattle.volume_header.specs.declared.header.VolumeHeader.{VolumeHeader}
use Rattle.volume_base.specs.Attributing.{ChangesAttributes}
use Rattle.volume_base.specs.Giving.{PutsTraded, counted_anew, is_trade, traded, with_free_count}
use Rattle.volume_base.specs.Lists.{bits_on, lists_of}
use Rattle.volume_base.specs.Mapping.{HoldsMap}
use Rattle.volume_base.specs.Standing.{IsSettled, IsStanding, map_sectors}
use Rattle.volume_base.specs.declared.volume.Tree.{Tree}
use Rattle.volume_base.specs.declared.volume.Volume.{Volume}
use Rattle.volume_base.proofs.GivenBits.{count_given, flips_given}
use Rattle.volume_base.proofs.StillMapped.{holds_owned, holds_settled}
use Rattle.volume_base.proofs.TreesSettled.{header_settled}
use Rattle.volume_base.proofs.ValueFreed.{free_counted}

pub record TradesThen (fresh : List ℕ) (old : List Extent) (u : Volume) (t : Tree) (w : Volume) (before middle last : Content) : Type 0 where
  pub m : BlockMap
  pub n : ℕ
  pub is : w ≡ record u { map = m; header = with_free_count n u.header; attributes = t }
  pub put : lists_of (record u { map = m; header = with_free_count n u.header; attributes = t }) last ≡ lists_of (record u { map = m; header = with_free_count n u.header; attributes = t }) middle
  pub holds : HoldsMap (record u { map = m; header = with_free_count n u.header; attributes = t }) last
  pub headed : header_of_volume last ≡ with_free_count n u.header
  pub outside : (s : ℕ) → s ≢ 2 → (Contains (map_sectors u) s → ⊥) → sector last s ≡ sector middle s
  pub flips : FlipsBits fresh (blocks_of old) (lists_of u before) (record (lists_of u before) { bits = bits_on (record u { map = m; header = with_free_count n u.header; attributes = t }) })
  pub counts : n + length fresh ≡ u.header.free_blocks + length (blocks_of old)

-- ---- no block was taken

-- the blocks that an old value had are given back, if it had any
pub trade_gone : (Does : List Pair → List Pair → Type 0) (old : List Extent) (u v w : Volume) (a : Space) (middle last : Content) → IsStanding u a → IsSettled u a.content → AreUsed u.map (blocks_of old) → AreApart (blocks_of old) → ChangesAttributes Does u v a.content middle
    → w ≡ traded false old v → PutsTraded false old w middle last → TradesThen [] old u v.attributes w a.content middle last
trade_gone Does [] u v w a middle last was settled used apart ch gives puts = record {
  m = u.map;
  n = u.header.free_blocks;
  is = gives ∙ ch.rest;
  put = ap (λ (c : Content). lists_of (record u { attributes = v.attributes }) c) (puts.1 refl);
  holds = subst (λ (x : Volume). HoldsMap x last) ch.rest (subst (λ (c : Content). HoldsMap v c) (sym (puts.1 refl)) (holds_owned u a was Does v middle ch (holds_settled u a was settled)));
  headed = ap (λ (c : Content). header_of_volume c) (puts.1 refl) ∙ ch.headed ∙ header_settled u a.content settled;
  outside = λ s differs off. ap (λ (c : Content). sector c s) (puts.1 refl);
  flips = record {
    size = refl;
    taken = λ k d low. absurd (omega (arith, low));
    given = λ k d low. absurd (omega (arith, low));
    others = λ block fresh freed. refl;
  };
  counts = refl;
}
trade_gone Does (e ∷ rest) u v w a middle last was settled used apart ch gives puts =
    let some : is_trade false (e ∷ rest) ≡ true = ap not (ne_eqb (length (e ∷ rest)) 0 (λ none. absurd (omega (arith, none)))) in
    let is : w ≡ counted_anew (record (record u { attributes = v.attributes }) { map = given (e ∷ rest) u.map }) =
    gives ∙ ap (λ b. if b then counted_anew (record v { map = given (e ∷ rest) v.map }) else v) some ∙ ap (λ (x : Volume). counted_anew (record x { map = given (e ∷ rest) x.map })) ch.rest in
    record {
      m = given (e ∷ rest) u.map;
      n = count_set (unused_of (given (e ∷ rest) u.map));
      is = is;
      put = subst (λ (x : Volume). lists_of x last ≡ lists_of x middle) is (puts.0 some).lists;
      holds = subst (λ (x : Volume). HoldsMap x last) is (puts.0 some).holds;
      headed = (puts.0 some).headed ∙ ap (λ (x : Volume). x.header) is;
      outside = λ s differs off. ⊎_elim
          (λ same. same)
          (λ there. absurd (⊎_elim (λ two. differs two) (λ here. off (subst (λ (l : List ℕ). Contains l s) (ap (λ (x : Volume). map_sectors x) is) here)) there))
          ((puts.0 some).outside.each s);
      flips = flips_given u (e ∷ rest) used (lists_of u a.content) (record (lists_of u a.content) { bits = bits_on (record u { map = given (e ∷ rest) u.map }) }) refl refl;
      counts = let many = count_given u (e ∷ rest) used apart in omega (arith, many, free_counted u a.content settled);
    }
