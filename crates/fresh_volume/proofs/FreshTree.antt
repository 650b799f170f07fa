-- The tree of a volume that was just made.
use Rattle.std.proofs.Common.{◌≡◌, ℕ, ◌^◌, ◌<◌, List, [], ◌∷◌, is_some, IsTrue, refl, ◌∙◌, ap}
use Rattle.std.specs.List.{AllByRecursion, flat_map}
use Rattle.hx_bytes.specs.Field.{number_at}
use Rattle.volume_header.specs.declared.header.VolumeHeader.{VolumeHeader}
use Rattle.jnl_format.specs.Recovery.{Content}
use Rattle.hfs_model.specs.Plain.{fresh_tree}
use Rattle.hfs_model.specs.declared.plain.PlainTree.{PlainTree}
use Rattle.hfs_volume.specs.Records.{Placed, Attribute}
use Rattle.hfs_volume.specs.Links.{private_id}
use Rattle.hfs_volume.specs.Content.{volume_of}
use Rattle.hfs_volume.specs.TreeOf.{is_seen, seen_entry, threaded_node, tree_in, tree_of, BytesOf, bytes_in, valued}
use Rattle.volume_make.specs.declared.layout.Layout.{Layout}
use Rattle.volume_make.specs.Layout.{CanBe, layout_of}
use Rattle.volume_make.specs.Refusal.{is_name}
use Rattle.volume_make.specs.Texts.{fresh_header}
use Rattle.volume_make.specs.Written.{IsFormatted}
use Rattle.fresh_volume.specs.Fresh.{HasFreshRecords, fresh_records}
use Rattle.fresh_volume.proofs.Trees.{head_is}
use Rattle.fresh_volume.proofs.SixRecords.{has_fresh_records}

-- the plain tree of these records and attributes
abbrev tree_over : List Attribute → List Placed → BytesOf → VolumeHeader → PlainTree
tree_over attributes records bytes_of head = record {
  entries = flat_map (seen_entry records) records;
  nodes = flat_map (threaded_node attributes records bytes_of) records;
  next_id = head.next_catalog_id;
  has_private = is_some (private_id records);
  moment = head.modify_date;
}

-- no attributes have none with their values
none_valued : (bytes_of : BytesOf) → valued bytes_of [] ≡ []
unfolding valued
none_valued bytes_of = refl

-- the journal's files aren't seen, and the root is the one folder
six_tree : (layout : Layout) (name : List ℕ) (bytes_of : BytesOf) → IsTrue (is_name name) → tree_over [] (fresh_records layout name) bytes_of (fresh_header layout) ≡ fresh_tree
unfolding number_at is_seen
six_tree layout [] bytes_of named = absurd (cc named)
six_tree layout (unit ∷ units) bytes_of named = refl

module _ (sectors block journal : ℕ) (name : List ℕ) (old new : Content) (can : CanBe sectors block journal) (named : IsTrue (is_name name)) (units : AllByRecursion (λ unit. unit < 2 ^ 16) name) (made : IsFormatted (layout_of sectors block journal) name old new) where
  abbrev layout : Layout
  layout = layout_of sectors block journal

  head_of_state : (volume_of new).head ≡ fresh_header layout
  unfolding volume_of
  head_of_state = head_is sectors block journal name old new can named made

  pub has_fresh_tree : tree_of new ≡ fresh_tree
  unfolding tree_of tree_in
  has_fresh_tree =
      let found : HasFreshRecords layout name new = has_fresh_records sectors block journal name old new can named units made in
      let same : tree_of new ≡ tree_over (valued (bytes_in new) []) (fresh_records layout name) (bytes_in new) (fresh_header layout) = λ i. tree_over (valued (bytes_in new) (found.attributes i)) (found.records i) (bytes_in new) (head_of_state i) in
      same ∙ ap (λ l. tree_over l (fresh_records layout name) (bytes_in new) (fresh_header layout)) (none_valued (bytes_in new)) ∙ six_tree layout name (bytes_in new) named
