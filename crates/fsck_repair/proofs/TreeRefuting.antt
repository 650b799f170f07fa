-- A finding of a tree denies that the content can be repaired.
use Rattle.std.proofs.Common.{◌≡◌, ◌<◌, ◌≤◌, ℕ, ◌+◌, ◌-◌, ◌/◌, true, List, [], length, get_or, sym, ◌∙◌, subst, arith, IsTrue}
use Rattle.std.specs.Prelude.{Contains, Option, None, Some, MatchOption, Result, Ok, Err, IfOk}
use Rattle.std.proofs.lemmas.List.Elements.{All-contains_itself}
use Rattle.sector_disk.specs.Space.{Space}
use Rattle.jnl_format.specs.Recovery.{Content, header_of_volume}
use Rattle.btree_node.specs.Keys.{IsCatalogKey, IsExtentKey, IsAttrKey, catalog_cmp, extent_cmp, attr_cmp, is_eight_extents, anything}
use Rattle.btree_node.specs.Levels.{Pair}
use Rattle.btree_node.specs.Tree.{pairs_of}
use Rattle.btree_node.specs.TreeFile.{IsTreeFile, store_of, extents_form, catalog_form, attributes_form}
use Rattle.fsck_list.specs.declared.finding.Finding.{Finding as Listed}
use Rattle.hfs_volume.specs.Broken.{IsBrokenTree}
use Rattle.hfs_volume.specs.Content.{extents_file, catalog_file, attributes_file, has_attributes}
use Rattle.hfs_volume.specs.Forks.{extents_id, catalog_id, attributes_id}
use Rattle.hfs_volume.proofs.TreeUnbroken.{tree_is_unbroken}
use Rattle.fsck_core.specs.Shown.{Shows, HoldsAttributes, HoldsCatalog}
use Rattle.fsck_core.specs.Wants.{as_found}
use Rattle.fsck_core.proofs.ShownLaws.{attributes_held, catalog_held}
use Rattle.volume_repair.specs.Repair.{IsMendable}

catalog_long : (key : List ℕ) → IsCatalogKey key → length key + 4 ≤ 4096 / 2 - 10
catalog_long key is = let own = is.size in let name = is.name in let most = is.most in omega (arith, own, name, most)

attr_long : (key : List ℕ) → IsAttrKey key → length key + 4 ≤ 4096 / 2 - 10
attr_long key is = let own = is.size in let name = is.name in let most = is.most in omega (arith, own, name, most)

extent_long : (key : List ℕ) → IsExtentKey key → length key + 4 ≤ 512 / 2 - 10
extent_long key is = let long = is.long in omega (arith, long)

no_finding : Listed
no_finding = record { rule = 0; place = 0; found = 0; wanted = 0 }

-- a list with findings has a first one
first : (out : List Listed) → 0 < length out → (f : Listed) × Contains out f
first out some = (get_or out 0 no_finding, All-contains_itself out 0 no_finding some)

module _ (space : Space) (content : Content) (shows : Shows space content) (out : List Listed) (some : 0 < length out) where
  pub no_extents : ((f : Listed) → Contains out f → IsBrokenTree extents_form IsExtentKey is_eight_extents extent_cmp extents_id (extents_file space.content) (as_found f)) → ¬ IsMendable content
  no_extents each can =
      let one = first out some in
      tree_is_unbroken extents_form IsExtentKey is_eight_extents extent_cmp extents_id (extents_file content) can.trees.extents (λ key is. let long = is.long in omega (arith, long)) (λ key is. let long = is.long in let own = is.size in omega (arith, long, own)) extent_long (as_found one.0)
      (subst (λ (ct : Content). IsBrokenTree extents_form IsExtentKey is_eight_extents extent_cmp extents_id (extents_file ct) (as_found one.0)) shows.is (each one.0 one.1))

  pub no_catalog : ((f : Listed) → Contains out f → IsBrokenTree catalog_form IsCatalogKey anything catalog_cmp catalog_id (catalog_file space.content) (as_found f)) → ¬ IsMendable content
  no_catalog each can =
      let one = first out some in
      tree_is_unbroken catalog_form IsCatalogKey anything catalog_cmp catalog_id (catalog_file content) can.trees.catalog (λ key is. let long = is.long in omega (arith, long)) (λ key is. is.size) catalog_long (as_found one.0)
      (subst (λ (ct : Content). IsBrokenTree catalog_form IsCatalogKey anything catalog_cmp catalog_id (catalog_file ct) (as_found one.0)) shows.is (each one.0 one.1))

  pub no_attributes : IsTrue (has_attributes (header_of_volume content)) → ((f : Listed) → Contains out f → IsBrokenTree attributes_form IsAttrKey anything attr_cmp attributes_id (attributes_file space.content) (as_found f)) → ¬ IsMendable content
  no_attributes has each can =
      let one = first out some in
      tree_is_unbroken attributes_form IsAttrKey anything attr_cmp attributes_id (attributes_file content) (can.trees.attributes has) (λ key is. let long = is.long in omega (arith, long)) (λ key is. is.size) attr_long (as_found one.0)
      (subst (λ (ct : Content). IsBrokenTree attributes_form IsAttrKey anything attr_cmp attributes_id (attributes_file ct) (as_found one.0)) shows.is (each one.0 one.1))

-- what a scan of the catalog gives
pub catalog_told : {E : Type 0} (space : Space) (content : Content) (result : Result (Option (List Pair)) E) (out : List Listed) → Shows space content
    → ((f : Listed) → Contains out f → IsBrokenTree catalog_form IsCatalogKey anything catalog_cmp catalog_id (catalog_file space.content) (as_found f))
    → IfOk result (λ o. MatchOption o (0 < length out) (λ pairs. IsTreeFile catalog_form IsCatalogKey anything catalog_cmp (catalog_file space.content) × (pairs ≡ pairs_of (store_of (catalog_file space.content))) × (out ≡ [])))
    → IfOk result (λ o. MatchOption o (¬ IsMendable content) (λ pairs. HoldsCatalog content pairs))
catalog_told space content (Err e) out shows each found = tt
catalog_told space content (Ok None) out shows each found = no_catalog space content shows out found each
catalog_told space content (Ok (Some pairs)) out shows each found = catalog_held space content pairs out shows found

-- what a scan of the attributes file gives, where there is one
pub attributes_told : {E : Type 0} (space : Space) (content : Content) (result : Result (Option (List Pair)) E) (out : List Listed) → Shows space content → has_attributes (header_of_volume content) ≡ true
    → ((f : Listed) → Contains out f → IsBrokenTree attributes_form IsAttrKey anything attr_cmp attributes_id (attributes_file space.content) (as_found f))
    → IfOk result (λ o. MatchOption o (0 < length out) (λ pairs. IsTreeFile attributes_form IsAttrKey anything attr_cmp (attributes_file space.content) × (pairs ≡ pairs_of (store_of (attributes_file space.content))) × (out ≡ [])))
    → IfOk result (λ o. MatchOption o (¬ IsMendable content) (λ pairs. HoldsAttributes content pairs))
attributes_told space content (Err e) out shows has each found = tt
attributes_told space content (Ok None) out shows has each found = no_attributes space content shows out found has each
attributes_told space content (Ok (Some pairs)) out shows has each found = attributes_held space content pairs out shows has found
