-- What stays of a volume whose blocks were traded: its catalog, its moment, and the room for a node of the catalog.
use Rattle.std.proofs.Common.{◌≡◌, ℕ, Bool, true, false, List, refl, sym, ◌∙◌, ap, subst}
use Rattle.std.specs.Prelude.{if◌then◌else◌}
use Rattle.btree_node.specs.Levels.{Pair}
use Rattle.file_io.specs.Places.{given}
use Rattle.hx_bytes.specs.declared.extents.Extent.{Extent}
use Rattle.hfs_volume.specs.Content.{VolumeState}
use Rattle.sector_disk.specs.Lists.{Content}
use Rattle.volume_base.specs.Giving.{PutsTraded, counted_anew, is_trade, traded}
use Rattle.volume_base.specs.Lists.{lists_of}
use Rattle.volume_base.specs.declared.volume.Volume.{Volume}

module _ (takes : Bool) (old : List Extent) (v : Volume) where
  trade_by : (b : Bool) → (if b then counted_anew (record v { map = given old v.map }) else v).header.modify_date ≡ v.header.modify_date
  trade_by true = refl
  trade_by false = refl

  pub moment_traded : (traded takes old v).header.modify_date ≡ v.header.modify_date
  moment_traded = trade_by (is_trade takes old)

  pairs_by : (b : Bool) (content : Content) → (lists_of (if b then counted_anew (record v { map = given old v.map }) else v) content).catalog_pairs ≡ (lists_of v content).catalog_pairs
  pairs_by true content = refl
  pairs_by false content = refl

  put_by : (b : Bool) (w : Volume) (before after : Content) → is_trade takes old ≡ b → PutsTraded takes old w before after → (lists_of w after).catalog_pairs ≡ (lists_of w before).catalog_pairs
  put_by true w before after is puts = ap (λ (l : VolumeState). l.catalog_pairs) (puts.0 is).lists
  put_by false w before after is puts = ap (λ (c : Content). (lists_of w c).catalog_pairs) (puts.1 is)

  pub pairs_traded : (w : Volume) (before after : Content) → w ≡ traded takes old v → PutsTraded takes old w before after → (lists_of w after).catalog_pairs ≡ (lists_of v before).catalog_pairs
  pairs_traded w before after is puts = put_by (is_trade takes old) w before after refl puts ∙ ap (λ (x : Volume). (lists_of x before).catalog_pairs) is ∙ pairs_by (is_trade takes old) before
