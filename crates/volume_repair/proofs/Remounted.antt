-- A remounted content: what the rules look at in it is the same, but for the version, and so it can be repaired as well.
use Rattle.std.proofs.Common.{◌≡◌, ◌≢◌, ◌<◌, ◌≤◌, ℕ, ◌-◌, ◌*◌, ◌/◌, [], length, refl, sym, ◌∙◌, ap, subst, arith, ⊎_elim}
use Rattle.std.specs.Prelude.{Contains, IsTrue, if◌then◌else◌, All}
use Rattle.jnl_format.specs.Recovery.{Content, sector, header_of_volume}
use Rattle.alloc_bitmap.specs.Apart.{times}
use Rattle.volume_header.specs.Header.{header_of}
use Rattle.volume_header.specs.declared.header.VolumeHeader.{VolumeHeader}
use Rattle.btree_node.specs.Keys.{IsCatalogKey, IsExtentKey, IsAttrKey, catalog_cmp, extent_cmp, attr_cmp, is_eight_extents, anything}
use Rattle.btree_node.specs.Tree.{pairs_of}
use Rattle.btree_node.specs.TreeFile.{TreeFile, IsTreeFile, store_of, extents_form, catalog_form, attributes_form}
use Rattle.hfs_volume.specs.Aside.{IsJournalSector}
use Rattle.hfs_volume.specs.Forks.{data_kind, extents_of, extents_id, catalog_id, allocation_id, attributes_id, used_blocks, all_forks}
use Rattle.hfs_volume.specs.Content.{VolumeState, volume_of, records_of, overflow_in_volume, overflow_of_content, bitmap_sectors, extents_file, catalog_file, attributes_file, facts_of, has_attributes}
use Rattle.hfs_volume.specs.Nodes.{HasTrees}
use Rattle.hfs_volume.specs.Records.{is_thread, is_empty}
use Rattle.hfs_volume.specs.Entries.{AreSpelled}
use Rattle.hfs_volume.specs.Blocks.{IsGoodHeader, LieInside, used_in}
use Rattle.hfs_volume.specs.Sound.{IsSound}
use Rattle.volume_repair.specs.Remount.{IsRemounted}
use Rattle.volume_repair.specs.Repair.{IsMendable, HasFileSizes, mended, catalog_sectors, blocks_written}
use Rattle.volume_repair.proofs.Rereads.{relabelled, sectors_by, extents_stay, overflow_stays, catalog_stays, attributes_stay, bits_stay, bitmap_sectors_stay, catalog_sectors_stay}
use Rattle.volume_repair.proofs.Mending.{size_mended, some_sectors, special_not_two, special_not_alternate, head_mended, extents_mended}
use Rattle.volume_repair.proofs.Journals.{map_free, catalog_free, extents_free, attributes_free, alternate_free, journal_there}

-- a sector that is neither of the headers, and not the journal's
pub record IsPlain (content : Content) (at : ℕ) : Type 0 where
  pub not_header : at ≢ 2
  pub not_alternate : at ≢ length content - 2
  pub not_journal : IsJournalSector content at → ⊥

module _ (content now : Content) (may : IsMendable content) (long : length (sector content 2) ≡ 512) (sound : IsSound (mended content)) (re : IsRemounted content now) where
  abbrev pub was : VolumeState
  was = volume_of content

  abbrev pub head : VolumeHeader
  head = header_of_volume content

  abbrev pub new : Content
  new = mended content

  abbrev pub version : ℕ
  version = (header_of_volume now).last_mounted_version

  -- the header with the other version
  abbrev pub remounted : VolumeHeader → VolumeHeader
  remounted h = relabelled h version h.file_count h.folder_count h.free_blocks

  pub head_is : header_of_volume now ≡ relabelled head version head.file_count head.folder_count head.free_blocks
  head_is = re.header

  abbrev pub limit : ℕ
  limit = head.total_blocks * (head.block_size / 512)

  -- ---- the sectors of the special files are plain ones

  overflow_is : overflow_in_volume was ≡ overflow_of_content content
  unfolding volume_of overflow_of_content
  overflow_is = refl

  overflow_same : overflow_of_content new ≡ overflow_of_content content
  overflow_same = overflow_stays content new _ _ _ _ (head_mended content may long) (extents_mended content may long)

  pub plain_extents : (at : ℕ) → Contains (sectors_by head [] extents_id head.extents_fork) at → at < limit → IsPlain content at
  unfolding volume_of extents_of
  plain_extents at has below = record {
    not_header = special_not_two content may (record { id = extents_id; kind = data_kind; fork = head.extents_fork }) (0, omega arith, refl) at has;
    not_alternate = special_not_alternate content may (record { id = extents_id; kind = data_kind; fork = head.extents_fork }) (0, omega arith, refl) at has below;
    not_journal = λ journal. extents_free new sound at (subst (λ l. Contains l at) (λ i. let h = sym (head_mended content may long) i in sectors_by h [] extents_id h.extents_fork) has) (journal_there content may long sound at journal);
  }

  pub plain_catalog : (at : ℕ) → Contains (catalog_sectors content) at → at < limit → IsPlain content at
  unfolding volume_of
  plain_catalog at has below =
      let here = subst (λ o. Contains (sectors_by head o catalog_id head.catalog_fork) at) (sym overflow_is) has in
      record {
        not_header = special_not_two content may (record { id = catalog_id; kind = data_kind; fork = head.catalog_fork }) (1, omega arith, refl) at here;
        not_alternate = special_not_alternate content may (record { id = catalog_id; kind = data_kind; fork = head.catalog_fork }) (1, omega arith, refl) at here below;
        not_journal = λ journal. catalog_free new sound at (subst (λ l. Contains l at) (sym (catalog_sectors_stay content new _ _ _ _ (head_mended content may long) (extents_mended content may long))) has) (journal_there content may long sound at journal);
      }

  pub plain_map : (at : ℕ) → Contains (bitmap_sectors content) at → at < limit → IsPlain content at
  unfolding volume_of
  plain_map at has below =
      let here = subst (λ o. Contains (sectors_by head o allocation_id head.allocation_fork) at) (sym overflow_is) has in
      record {
        not_header = special_not_two content may (record { id = allocation_id; kind = data_kind; fork = head.allocation_fork }) (2, omega arith, refl) at here;
        not_alternate = special_not_alternate content may (record { id = allocation_id; kind = data_kind; fork = head.allocation_fork }) (2, omega arith, refl) at here below;
        not_journal = λ journal. map_free new sound at (subst (λ l. Contains l at) (sym (bitmap_sectors_stay content new _ _ _ _ (head_mended content may long) (extents_mended content may long))) has) (journal_there content may long sound at journal);
      }

  pub plain_attributes : (at : ℕ) → Contains (sectors_by head (overflow_of_content content) attributes_id head.attributes_fork) at → at < limit → IsPlain content at
  unfolding volume_of
  plain_attributes at has below =
      let here = subst (λ o. Contains (sectors_by head o attributes_id head.attributes_fork) at) (sym overflow_is) has in
      record {
        not_header = special_not_two content may (record { id = attributes_id; kind = data_kind; fork = head.attributes_fork }) (4, omega arith, refl) at here;
        not_alternate = special_not_alternate content may (record { id = attributes_id; kind = data_kind; fork = head.attributes_fork }) (4, omega arith, refl) at here below;
        not_journal = λ journal. attributes_free new sound at (subst (λ l. Contains l at) (λ i. let h = sym (head_mended content may long) i in sectors_by h (sym overflow_same i) attributes_id h.attributes_fork) has)
            (journal_there content may long sound at journal);
      }

  -- ---- what the rules look at

  pub plain_stays : (at : ℕ) → IsPlain content at → sector now at ≡ sector content at
  plain_stays at plain = ⊎_elim (λ (same : sector now at ≡ sector content at). same) (λ (journal : IsJournalSector content at). absurd (plain.not_journal journal)) (re.each at plain.not_header)

  pub alternate_stays : sector now (length content - 2) ≡ sector content (length content - 2)
  alternate_stays = ⊎_elim (λ (same : sector now (length content - 2) ≡ sector content (length content - 2)). same)
      (λ (journal : IsJournalSector content (length content - 2)). absurd (alternate_free new sound (subst (IsJournalSector new) (ap (λ n. n - 2) (sym (size_mended content))) (journal_there content may long sound (length content - 2) journal))))
      (re.each (length content - 2) (λ two. absurd (omega (arith, two, some_sectors content may))))

  pub extents_is : extents_file now ≡ extents_file content
  extents_is = extents_stay content now version head.file_count head.folder_count head.free_blocks head_is (λ at has below. plain_stays at (plain_extents at has below))

  pub catalog_is : catalog_file now ≡ catalog_file content
  catalog_is = catalog_stays content now version head.file_count head.folder_count head.free_blocks head_is extents_is (λ at has below. plain_stays at (plain_catalog at has below))

  pub attributes_is : attributes_file now ≡ attributes_file content
  attributes_is = attributes_stay content now version head.file_count head.folder_count head.free_blocks head_is extents_is (λ at has below. plain_stays at (plain_attributes at has below))

  bits_are : (volume_of now).bits ≡ was.bits
  bits_are = bits_stay content now version head.file_count head.folder_count head.free_blocks head_is extents_is (λ at has below. plain_stays at (plain_map at has below))

  pub volume_now : volume_of now ≡ record (volume_of content) { head = remounted (volume_of content).head }
  unfolding volume_of
  volume_now = λ i. record {
    sectors = re.size i;
    head = head_is i;
    alternate = (ap (λ n. header_of (sector now (n - 2))) re.size ∙ ap header_of alternate_stays) i;
    journal = re.names i;
    overflow_pairs = pairs_of (store_of (extents_is i));
    catalog_pairs = pairs_of (store_of (catalog_is i));
    attribute_pairs = if has_attributes (head_is i) then pairs_of (store_of (attributes_is i)) else [];
    extents_tree = facts_of (extents_is i);
    catalog_tree = facts_of (catalog_is i);
    attributes_tree = facts_of (attributes_is i);
    bits = bits_are i;
  }

  -- ---- it can be repaired

  abbrev again : VolumeState
  again = record was { head = remounted was.head }

  sizes_again : HasFileSizes again
  sizes_again = record {
    extents = record { blocks = may.sizes.extents.blocks; nodes = may.sizes.extents.nodes };
    catalog = record { blocks = may.sizes.catalog.blocks; nodes = may.sizes.catalog.nodes };
    attributes = λ has. record { blocks = (may.sizes.attributes has).blocks; nodes = (may.sizes.attributes has).nodes };
    bits = may.sizes.bits;
  }

  used_again : used_in again ≡ used_in was
  unfolding used_blocks all_forks
  used_again = refl

  once_again : All (λ block. times block (used_in again) ≤ 1) (blocks_written again)
  once_again = subst (λ l. All (λ block. times block l ≤ 1) (blocks_written was)) (sym used_again) may.once

  trees_again : HasTrees now
  trees_again = record {
    extents = subst (IsTreeFile extents_form IsExtentKey is_eight_extents extent_cmp) (sym extents_is) may.trees.extents;
    catalog = subst (IsTreeFile catalog_form IsCatalogKey anything catalog_cmp) (sym catalog_is) may.trees.catalog;
    compare = ap (λ (tree : TreeFile). tree.head.compare) catalog_is ∙ may.trees.compare;
    attributes = λ has. subst (IsTreeFile attributes_form IsAttrKey anything attr_cmp) (sym attributes_is) (may.trees.attributes (subst (λ h. IsTrue (has_attributes h)) head_is has));
  }

  good_again : IsGoodHeader (length content) (remounted head)
  good_again = record { accepted = may.header.accepted; next_id = may.header.next_id }

  pub may_again : IsMendable now
  may_again = record {
    header = subst (λ h. IsGoodHeader (length now) h) (sym head_is) (subst (λ n. IsGoodHeader n (remounted head)) (sym re.size) good_again);
    sizes = subst HasFileSizes (sym volume_now) sizes_again;
    trees = trees_again;
    spelled = subst (λ (v : VolumeState). AreSpelled v.catalog_pairs) (sym volume_now) may.spelled;
    kinds = subst (λ (v : VolumeState). All (λ placed. is_thread placed.value ≡ is_empty placed.name) (records_of v)) (sym volume_now) may.kinds;
    inside = subst (λ (v : VolumeState). LieInside v.head.total_blocks (extents_of (overflow_in_volume v) allocation_id data_kind v.head.allocation_fork)) (sym volume_now) may.inside;
    once = subst (λ (v : VolumeState). All (λ block. times block (used_in v) ≤ 1) (blocks_written v)) (sym volume_now) once_again;
  }
