-- The repair of a remounted content: it is that of the content, but for the version and the journal.
use Rattle.std.proofs.Common.{◌≡◌, ◌≢◌, ◌<◌, ◌≤◌, ℕ, ◌+◌, ◌-◌, ◌*◌, ◌/◌, ◌%◌, ◌==◌, ◌&&◌, nat_lt, not, Bool, true, false, List, [], length, map, take, drop, inr, refl, sym, ◌∙◌, ap, subst, arith, ⊎_elim, if◌then◌else◌}
use Rattle.std.specs.Prelude.{Contains, IsTrue, Option, Some, None, slice_index}
use Rattle.std.specs.List.{range_with_len}
use Rattle.std.proofs.lemmas.Bool.{cases_lt}
use Rattle.std.proofs.lemmas.List.{get_or_past}
use Rattle.jnl_format.specs.Recovery.{Content, sector, header_of_volume, info_sector_of}
use Rattle.volume_header.specs.Header.{header_of}
use Rattle.volume_header.specs.declared.header.VolumeHeader.{VolumeHeader}
use Rattle.btree_node.specs.Keys.{IsCatalogKey, IsExtentKey, IsAttrKey, catalog_cmp, extent_cmp, attr_cmp, is_eight_extents, anything}
use Rattle.btree_node.specs.Tree.{pairs_of}
use Rattle.btree_node.specs.TreeFile.{TreeFile, IsTreeFile, store_of, extents_form, catalog_form, attributes_form}
use Rattle.hfs_volume.specs.Aside.{IsJournalSector}
use Rattle.hfs_volume.specs.Attributing.{RemountKeeps}
use Rattle.hfs_volume.specs.Forks.{per_block_of, all_forks, used_blocks, extents_id, attributes_id}
use Rattle.hfs_volume.specs.Content.{VolumeState, volume_of, records_of, overflow_of_content, bitmap_sectors, extents_file, catalog_file, attributes_file, facts_of, has_attributes, journal_place}
use Rattle.hfs_volume.specs.Nodes.{HasTrees}
use Rattle.hfs_volume.specs.Blocks.{AgreesWith, is_among}
use Rattle.hfs_volume.specs.Broken.{leaves_in}
use Rattle.hfs_volume.specs.Sound.{IsSound, IsSoundVolume}
use Rattle.volume_repair.specs.Recount.{header_recounted, is_bit_wanted, agrees}
use Rattle.volume_repair.specs.Remount.{IsRemounted, IsSameButCounts}
use Rattle.volume_repair.specs.Repair.{IsMendable, mended, header_mended, file_sector_mended, byte_of_bits, leaf_mended, place_from, catalog_sectors, needs_copy}
use Rattle.volume_repair.proofs.Journals.{map_free, catalog_free, header_free, alternate_free, journal_there, journal_same}
use Rattle.volume_repair.proofs.Mending.{size_mended, sector_of_mended, mended_file, mended_else, mended_header, no_alternate, alternate_copied, some_sectors, head_mended, extents_mended}
use Rattle.volume_repair.proofs.Remounted.{IsPlain, plain_extents, plain_catalog, plain_map, plain_attributes, plain_stays, alternate_stays, head_is, extents_is, catalog_is, volume_now, may_again}
use Rattle.volume_repair.proofs.Rereads.{relabelled, sectors_by, AgreesBelow, extents_stay, overflow_stays, catalog_stays, attributes_stay, bits_stay, bitmap_sectors_stay, catalog_sectors_stay}
use Rattle.volume_repair.proofs.Sounding.{with_version, version_sound, alternate_sound}
use Rattle.volume_repair.proofs.Words.{low}

pub and_false : (b : Bool) → (b && false) ≡ false
and_false true = refl
and_false false = refl

module _ (content now : Content) (may : IsMendable content) (long : length (sector content 2) ≡ 512) (long_now : length (sector now 2) ≡ 512) (sound : IsSound (mended content)) (re : IsRemounted content now) where
  abbrev was : VolumeState
  was = volume_of content

  abbrev head : VolumeHeader
  head = header_of_volume content

  abbrev new : Content
  new = mended content

  abbrev other : Content
  other = mended now

  abbrev version : ℕ
  version = (header_of_volume now).last_mounted_version

  pub head_now : header_of_volume now ≡ relabelled head version head.file_count head.folder_count head.free_blocks
  head_now = head_is content now may long sound re

  again : IsMendable now
  again = may_again content now may long sound re

  -- ---- what is counted is the same

  abbrev counts : Content → VolumeHeader
  counts c = header_recounted (volume_of c)

  pub counts_are : counts now ≡ relabelled (counts content) version (counts content).file_count (counts content).folder_count (counts content).free_blocks
  unfolding used_blocks all_forks
  counts_are = ap header_recounted (volume_now content now may long sound re)

  wanted_is : (k : ℕ) → is_bit_wanted (volume_of now) k ≡ is_bit_wanted was k
  unfolding used_blocks all_forks
  wanted_is k = ap (λ v. is_bit_wanted v k) (volume_now content now may long sound re)

  records_are : records_of (volume_of now) ≡ records_of was
  records_are = ap records_of (volume_now content now may long sound re)

  copy_is : needs_copy now ≡ needs_copy content
  copy_is = ap (λ (v : VolumeState). not (agrees v.head v.alternate)) (volume_now content now may long sound re)

  maps_are : bitmap_sectors now ≡ bitmap_sectors content
  maps_are = bitmap_sectors_stay content now version head.file_count head.folder_count head.free_blocks head_now (extents_is content now may long sound re)

  catalogs_are : catalog_sectors now ≡ catalog_sectors content
  catalogs_are = catalog_sectors_stay content now version head.file_count head.folder_count head.free_blocks head_now (extents_is content now may long sound re)

  -- ---- sectors

  file_same : (at : ℕ) → sector now at ≡ sector content at → (in_map in_catalog : Option ℕ) → file_sector_mended now at in_map in_catalog ≡ file_sector_mended content at in_map in_catalog
  file_same at same (Some k) in_catalog = λ i.
      if nat_lt (512 * k) (head_now i).allocation_fork.logical_size then
      map (λ j. if nat_lt (512 * k + j) (head_now i).allocation_fork.logical_size then byte_of_bits (λ n. wanted_is n i) (512 * k + j) else slice_index (same i) j) (range_with_len 0 512)
      else same i
  file_same at same None (Some k) = λ i.
      let tree = catalog_is content now may long sound re i in
      let per_node = tree.head.node_size / 512 in
      if is_among (leaves_in tree) (k / per_node) then take 512 (drop (512 * (k % per_node)) (leaf_mended (records_are i) (tree.nodes (k / per_node)))) else same i
  file_same at same None None = same

  size_other : length other ≡ length content
  size_other = size_mended now ∙ re.size

  -- a sector that is neither of the headers, and the same
  pub same_else : (at : ℕ) → at ≢ 2 → ((at == length content - 2) && needs_copy content) ≡ false → sector now at ≡ sector content at → sector other at ≡ sector new at
  same_else at not_two no_copy same = ⊎_elim
      (λ (inside : at < length content).
      sector_of_mended now at (omega (arith, inside, re.size))
      ∙ mended_file now at not_two ((λ i. (at == re.size i - 2) && copy_is i) ∙ no_copy)
      ∙ (λ i. file_sector_mended now at (place_from 0 (maps_are i) at) (place_from 0 (catalogs_are i) at))
      ∙ file_same at same (place_from 0 (bitmap_sectors content) at) (place_from 0 (catalog_sectors content) at)
      ∙ sym (sector_of_mended content at inside ∙ mended_file content at not_two no_copy))
      (λ (past : length content ≤ at). get_or_past other at [] (omega (arith, size_other, past)) ∙ sym (get_or_past new at [] (omega (arith, size_mended content, past))))
      (cases_lt at (length content))

  plain_same : (at : ℕ) → IsPlain content at → sector other at ≡ sector new at
  plain_same at plain = same_else at plain.not_header (no_alternate content at plain.not_alternate) (plain_stays content now may long sound re at plain)

  -- the journal is that of the remounted content
  pub journal_is : (at : ℕ) → IsJournalSector content at → sector other at ≡ sector now at
  journal_is at journal = ⊎_elim
      (λ (inside : at < length content). sector_of_mended now at (omega (arith, inside, re.size)) ∙ mended_else now at
      (λ two. header_free new sound (subst (IsJournalSector new) two there))
      (λ same. alternate_free new sound (subst (IsJournalSector new) (same ∙ ap (λ n. n - 2) (re.size ∙ sym (size_mended content))) there))
      (λ has. map_free new sound at (subst (λ l. Contains l at) (maps_are ∙ sym (bitmap_sectors_stay content new _ _ _ _ (head_mended content may long) (extents_mended content may long))) has) there)
      (λ has. catalog_free new sound at (subst (λ l. Contains l at) (catalogs_are ∙ sym (catalog_sectors_stay content new _ _ _ _ (head_mended content may long) (extents_mended content may long))) has) there))
      (λ (past : length content ≤ at). get_or_past other at [] (omega (arith, size_other, past)) ∙ sym (get_or_past now at [] (omega (arith, re.size, past))))
      (cases_lt at (length content))
    where
      there : IsJournalSector new at
      there = journal_there content may long sound at journal

  -- ---- the header

  head_again : header_of_volume other ≡ relabelled (header_of_volume now) version (low (counts now).file_count) (low (counts now).folder_count) (low (counts now).free_blocks)
  head_again = head_mended now again long_now

  pub same_but_counts : IsSameButCounts (header_of_volume now) (header_of_volume other)
  same_but_counts = head_again ∙ (λ i. record (header_of_volume now) {
    file_count = (sym head_again i).file_count;
    folder_count = (sym head_again i).folder_count;
    free_blocks = (sym head_again i).free_blocks;
  })

  pub head_other : header_of_volume other ≡ with_version (header_of_volume new) version
  head_other =
      head_again
      ∙ (λ i. relabelled (head_now i) version (low (counts_are i).file_count) (low (counts_are i).folder_count) (low (counts_are i).free_blocks))
      ∙ sym (ap (λ h. with_version h version) (head_mended content may long))

  -- ---- what the rules look at in the other repair

  new_limit : (header_of_volume new).total_blocks * per_block_of (header_of_volume new) ≡ head.total_blocks * per_block_of head
  new_limit = ap (λ h. h.total_blocks * per_block_of h) (head_mended content may long)

  agrees_new : (new_sectors sectors : List ℕ) → new_sectors ≡ sectors → ((at : ℕ) → Contains sectors at → at < head.total_blocks * per_block_of head → IsPlain content at)
      → AgreesBelow new other ((header_of_volume new).total_blocks * per_block_of (header_of_volume new)) new_sectors
  agrees_new new_sectors sectors same plain at has below = plain_same at (plain at (subst (λ l. Contains l at) same has) (subst (λ n. at < n) new_limit below))

  abbrev files : ℕ
  files = (header_of_volume new).file_count

  abbrev folders : ℕ
  folders = (header_of_volume new).folder_count

  abbrev free : ℕ
  free = (header_of_volume new).free_blocks

  extents_same : extents_file other ≡ extents_file new
  extents_same = extents_stay new other version files folders free head_other (agrees_new _ (sectors_by head [] extents_id head.extents_fork) (ap (λ h. sectors_by h [] extents_id h.extents_fork) (head_mended content may long)) (plain_extents content now may long sound re))

  catalog_same : catalog_file other ≡ catalog_file new
  catalog_same = catalog_stays new other version files folders free head_other extents_same
      (agrees_new (catalog_sectors new) (catalog_sectors content) (catalog_sectors_stay content new _ _ _ _ (head_mended content may long) (extents_mended content may long)) (plain_catalog content now may long sound re))

  attributes_same : attributes_file other ≡ attributes_file new
  attributes_same = attributes_stay new other version files folders free head_other extents_same
      (agrees_new _ (sectors_by head (overflow_of_content content) attributes_id head.attributes_fork)
      (λ i. let h = head_mended content may long i in sectors_by h (overflow_stays content new _ _ _ _ (head_mended content may long) (extents_mended content may long) i) attributes_id h.attributes_fork) (plain_attributes content now may long sound re))

  bits_same : (volume_of other).bits ≡ (volume_of new).bits
  bits_same = bits_stay new other version files folders free head_other extents_same
      (agrees_new (bitmap_sectors new) (bitmap_sectors content) (bitmap_sectors_stay content new _ _ _ _ (head_mended content may long) (extents_mended content may long)) (plain_map content now may long sound re))

  -- the info block still names the journal
  names_same : journal_place (sector other (info_sector_of (header_of_volume other))) ≡ (volume_of new).journal
  names_same =
      ap (λ h. journal_place (sector other (info_sector_of h))) (head_again ∙ ap (λ h. relabelled h version (low (counts now).file_count) (low (counts now).folder_count) (low (counts now).free_blocks)) head_now)
      ∙ ap journal_place (journal_is (info_sector_of head) (inr refl))
      ∙ (λ i. journal_place (sector now (info_sector_of (sym head_now i))))
      ∙ re.names
      ∙ sym (journal_same content may long sound)

  abbrev alternate_other : VolumeHeader
  alternate_other = header_of (sector other (length other - 2))

  volume_other : volume_of other ≡ record (volume_of new) { head = with_version (volume_of new).head version; alternate = alternate_other }
  unfolding volume_of
  volume_other = λ i. record {
    sectors = (size_other ∙ sym (size_mended content)) i;
    head = head_other i;
    alternate = alternate_other;
    journal = names_same i;
    overflow_pairs = pairs_of (store_of (extents_same i));
    catalog_pairs = pairs_of (store_of (catalog_same i));
    attribute_pairs = if has_attributes (head_other i) then pairs_of (store_of (attributes_same i)) else [];
    extents_tree = facts_of (extents_same i);
    catalog_tree = facts_of (catalog_same i);
    attributes_tree = facts_of (attributes_same i);
    bits = bits_same i;
  }

  -- ---- the alternate header

  abbrev last : ℕ
  last = length content - 2

  last_inside : last < length content
  last_inside = omega (arith, some_sectors content may)

  pub last_else : last ≢ 2
  last_else two = omega (arith, two, some_sectors content may)

  -- a copy
  pub copied : needs_copy content ≡ true → (sector other last ≡ header_mended now) × (sector new last ≡ header_mended content)
  copied copy = (
    ap (λ n. sector other (n - 2)) (sym re.size) ∙ alternate_copied now again (copy_is ∙ copy),
    alternate_copied content may copy,
  )

  pub header_there : header_of (header_mended now) ≡ header_of_volume other
  header_there = ap header_of (sym (mended_header now) ∙ sym (sector_of_mended now 2 (omega (arith, some_sectors content may, re.size))))

  agrees_itself : (one another : VolumeHeader) → another ≡ one → AgreesWith one another
  agrees_itself one another same = record {
    signature = ap (λ (h : VolumeHeader). h.signature) same;
    version = ap (λ (h : VolumeHeader). h.version) same;
    block_size = ap (λ (h : VolumeHeader). h.block_size) same;
    total_blocks = ap (λ (h : VolumeHeader). h.total_blocks) same;
  }

  alternate_agrees : (b : Bool) → needs_copy content ≡ b → AgreesWith (header_of_volume other) alternate_other
  unfolding volume_of
  alternate_agrees true copy = agrees_itself (header_of_volume other) alternate_other (ap (λ n. header_of (sector other (n - 2))) size_other ∙ ap header_of (copied copy).0 ∙ header_there)
  alternate_agrees false none = subst (λ h. AgreesWith h alternate_other) (sym head_other) (subst (AgreesWith (with_version (header_of_volume new) version)) (sym same) was_so)
    where
      same : alternate_other ≡ header_of (sector new (length new - 2))
      same =
          ap (λ n. header_of (sector other (n - 2))) size_other
          ∙ ap header_of (same_else last last_else (ap (λ b. (last == last) && b) none ∙ and_false (last == last)) (alternate_stays content now may long sound re))
          ∙ ap (λ n. header_of (sector new (n - 2))) (sym (size_mended content))

      was_so : AgreesWith (with_version (header_of_volume new) version) (header_of (sector new (length new - 2)))
      was_so = record {
        signature = sound.volume.blocks.alternate.signature;
        version = sound.volume.blocks.alternate.version;
        block_size = sound.volume.blocks.alternate.block_size;
        total_blocks = sound.volume.blocks.alternate.total_blocks;
      }

  -- ---- it is sound

  trees_other : HasTrees other
  trees_other = record {
    extents = subst (IsTreeFile extents_form IsExtentKey is_eight_extents extent_cmp) (sym extents_same) sound.trees.extents;
    catalog = subst (IsTreeFile catalog_form IsCatalogKey anything catalog_cmp) (sym catalog_same) sound.trees.catalog;
    compare = ap (λ (tree : TreeFile). tree.head.compare) catalog_same ∙ sound.trees.compare;
    attributes = λ has. subst (IsTreeFile attributes_form IsAttrKey anything attr_cmp) (sym attributes_same) (sound.trees.attributes (subst (λ h. IsTrue (has_attributes h)) head_other has));
  }

  module _ (law : RemountKeeps) where
    sound_volume : IsSoundVolume (record (volume_of new) { head = with_version (volume_of new).head version; alternate = alternate_other })
    unfolding volume_of
    sound_volume = alternate_sound (record (volume_of new) { head = with_version (volume_of new).head version }) alternate_other (version_sound law (volume_of new) version sound.volume)
        (subst (λ h. AgreesWith h alternate_other) head_other (alternate_agrees (needs_copy content) refl))

    pub other_sound : IsSound other
    other_sound = record { trees = trees_other; volume = subst IsSoundVolume (sym volume_other) sound_volume }
