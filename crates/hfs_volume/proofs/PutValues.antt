-- What the values of attributes take and give back keeps the rules.
use Rattle.hfs_volume.proofs.BlockWants.{range_bounds}
use Rattle.hfs_volume.specs.Links.{links_to}
use Rattle.hfs_volume.specs.Entries.{count_in}
use Rattle.hfs_volume.proofs.Reaching.{flat_cases}
use Rattle.std.specs.List.{range_with_len}
use Rattle.fork_map.specs.Blocks.{blocks_of}
use Rattle.hx_bytes.specs.declared.extents.Extent.{Extent}
use Rattle.std.proofs.Common.{◌≡◌, ◌<◌, ◌≤◌, ℕ, ◌+◌, Bool, true, false, List, [], ◌++◌, length, map, refl, sym, ◌∙◌, ap, subst, arith}
use Rattle.std.specs.Prelude.{Contains, All, count_by, not, ◌*◌}
use Rattle.std.proofs.lemmas.Bool.{true≢false}
use Rattle.alloc_bitmap.specs.Apart.{times, AreApart}
use Rattle.alloc_bitmap.proofs.ApartLaws.{times-append}
use Rattle.btree_node.specs.Levels.{Pair}
use Rattle.hfs_volume.specs.Records.{attribute_of, entries_of, is_file, is_folder}
use Rattle.hfs_volume.specs.Forks.{used_blocks}
use Rattle.hfs_volume.specs.Values.{IsValue, blocks_of_values, used_extents}
use Rattle.hfs_volume.specs.Content.{VolumeState, is_set, records_of, overflow_in_volume, attributes_of}
use Rattle.hfs_volume.specs.Attributes.{IsAttribute}
use Rattle.hfs_volume.specs.Blocks.{HasValueSizes, used_in, is_among, count_used}
use Rattle.hfs_volume.specs.Laws.{IsShaped, HasRightBits, CountsBlocks, ValuesPut, ValueFreed}
use Rattle.hfs_volume.specs.Changes.{TradesBlocks, is_attribute_of}
use Rattle.hfs_volume.proofs.Members.{all_of, each_of, kept_cases}
use Rattle.hfs_volume.proofs.Apart.{among, stands_once}
use Rattle.hfs_volume.proofs.BlockCounts.{still_apart, fresh_used, freed_unused, others_same, count_changed, stands_among, among_by}
use Rattle.hfs_volume.proofs.BlockLaw.{none_behind}
use Rattle.hfs_volume.specs.Entries.{AreCounted}
use Rattle.hfs_volume.specs.Links.{HaveLinkCounts}
use Rattle.hfs_volume.specs.Sound.{IsSoundVolume}
use Rattle.hfs_volume.specs.Changes.{InValues}
use Rattle.hfs_model.specs.Sorted.{kept}
use Rattle.hfs_volume.proofs.BlockSound.{recounted, recounted_right, recounted_shaped, bits_counted}
use Rattle.hfs_volume.proofs.Finishing.{sound_is_both}
use Rattle.hfs_volume.proofs.ValueTrades.{taken_balance, taken_were}
use Rattle.hfs_volume.proofs.Valued.{taken_keeps, not_named, kept_mapped}

-- a block of a value lies inside the volume
used_value_inside : (volume : VolumeState) → IsShaped volume → (block : ℕ) → Contains (blocks_of_values (attributes_of volume)) block → block < volume.head.total_blocks
unfolding blocks_of_values
used_value_inside volume shaped block stands =
    let from = flat_cases (λ record_. blocks_of (used_extents record_)) (attributes_of volume) block stands in
    let run = flat_cases (λ (e : Extent). range_with_len e.start e.count) (used_extents from.0) block from.2 in
    let inside = each_of (λ (e : Extent). e.start + e.count ≤ volume.head.total_blocks) (used_extents from.0) (each_of (HasValueSizes volume.head.total_blocks volume.head.block_size (attributes_of volume)) (attributes_of volume) shaped.forks.values from.0 from.1).inside run.0 run.1 in
    let bounds = range_bounds run.0.start run.0.count block run.2 in
    omega (arith, inside, bounds.0, bounds.1)

module _ (fresh freed : List ℕ) (old new : VolumeState) (puts : TradesBlocks fresh freed old new)
    (each : (pair : Pair) → Contains new.attribute_pairs pair → IsAttribute (records_of old) pair)
    (values : All (IsValue (attributes_of new)) (attributes_of new))
    (sizes : All (HasValueSizes old.head.total_blocks old.head.block_size (attributes_of new)) (attributes_of new))
    (right : HasRightBits old) (shaped : IsShaped old) where
  abbrev changed_to : VolumeState
  changed_to = record old { attribute_pairs = new.attribute_pairs; attributes_tree = new.attributes_tree; bits = new.bits }

  abbrev files : List ℕ
  files = used_blocks old.sectors old.head (records_of old) (overflow_in_volume old)

  used_new : used_in new ≡ files ++ blocks_of_values (attributes_of new)
  used_new = ap used_in puts.rest

  balance : (block : ℕ) → times block (used_in new) + times block freed ≡ times block (used_in old) + times block fresh
  balance block =
      omega (arith, ap (times block) used_new, times-append block files (blocks_of_values (attributes_of new)), times-append block files (blocks_of_values (attributes_of old)), puts.blocks block)

  freed_were : (block : ℕ) → times block freed ≤ times block (used_in old)
  freed_were block = omega (arith, times-append block files (blocks_of_values (attributes_of old)), puts.were block)

  fresh_inside : (block : ℕ) → Contains fresh block → block < old.head.total_blocks
  fresh_inside block stands = each_of (λ (b : ℕ). b < old.head.total_blocks) fresh puts.are_fresh.inside block stands

  fresh_free : (block : ℕ) → Contains fresh block → is_among (used_in old) block ≡ false
  fresh_free block stands = sym (right block (fresh_inside block stands)) ∙ each_of (λ (b : ℕ). is_set old b ≡ false) fresh puts.are_fresh.free block stands

  freed_inside : (block : ℕ) → Contains freed block → block < old.head.total_blocks
  freed_inside block stands = used_value_inside old shaped block (stands_in_values block stands)
    where
      stands_in_values : (b : ℕ) → Contains freed b → Contains (blocks_of_values (attributes_of old)) b
      stands_in_values b there = stands_among b (blocks_of_values (attributes_of old)) (among_by b (blocks_of_values (attributes_of old)) (omega (arith, puts.were b, stands_once b freed there)))

  once : AreApart (used_in new)
  once = still_apart (used_in old) (used_in new) fresh freed balance shaped.forks.once puts.are_fresh.once fresh_free freed_were

  pub put_shaped : IsShaped new
  put_shaped = subst IsShaped (sym puts.rest) (record {
    threads = shaped.threads;
    rooted = shaped.rooted;
    ids = shaped.ids;
    links = shaped.links;
    attributes = record {
      each = all_of (IsAttribute (records_of old)) new.attribute_pairs each;
      values = values;
      journal = shaped.attributes.journal;
      info_block = shaped.attributes.info_block;
    };
    header = shaped.header;
    alternate = shaped.alternate;
    files = record {
      extents = shaped.files.extents;
      catalog = shaped.files.catalog;
      attributes = λ has. let was = shaped.files.attributes has in record { blocks = was.blocks; nodes = was.nodes ∙ (λ i. sym puts.nodes.total i * sym puts.nodes.size i) };
      bits = shaped.files.bits;
      no_more = none_behind fresh freed old new puts.flips fresh_inside shaped.files.no_more;
    };
    forks = record {
      sizes = shaped.forks.sizes;
      more_inside = shaped.forks.more_inside;
      goes_on = shaped.forks.goes_on;
      bad_goes_on = shaped.forks.bad_goes_on;
      owned = shaped.forks.owned;
      values = sizes;
      once = subst AreApart used_new once;
    };
  })

  pub put_right : HasRightBits new
  put_right block inside = by_tests (is_among fresh block) (is_among freed block) refl refl
    where
      was_inside : block < old.head.total_blocks
      was_inside = subst (λ (v : VolumeState). block < v.head.total_blocks) puts.rest inside

      not_there : (blocks : List ℕ) → is_among blocks block ≡ false → Contains blocks block → ⊥
      not_there blocks isnt stands = true≢false (sym (among blocks block stands) ∙ isnt)

      by_tests : (b c : Bool) → is_among fresh block ≡ b → is_among freed block ≡ c → is_set new block ≡ is_among (used_in new) block
      by_tests true c is_fresh freed_or_not =
          each_of (λ (b : ℕ). is_set new b ≡ true) fresh puts.flips.taken block (stands_among block fresh is_fresh)
          ∙ sym (fresh_used (used_in old) (used_in new) fresh freed balance shaped.forks.once puts.are_fresh.once fresh_free freed_were block is_fresh)
      by_tests false true isnt is_freed =
          each_of (λ (b : ℕ). is_set new b ≡ false) freed puts.flips.given block (stands_among block freed is_freed)
          ∙ sym (freed_unused (used_in old) (used_in new) fresh freed balance shaped.forks.once puts.are_fresh.once fresh_free freed_were block is_freed)
      by_tests false false not_fresh not_freed =
          puts.flips.others block (not_there fresh not_fresh) (not_there freed not_freed) ∙ right block was_inside
          ∙ sym (others_same (used_in old) (used_in new) fresh freed balance shaped.forks.once puts.are_fresh.once fresh_free freed_were block not_fresh not_freed)

  pub put_counts : CountsBlocks (length fresh) (length freed) old new
  put_counts = record {
    in_folder = λ id. ap (λ (v : VolumeState). count_in (entries_of (records_of v)) id) puts.rest;
    files = ap (λ (v : VolumeState). count_by (λ placed. is_file placed.value) (entries_of (records_of v))) puts.rest;
    folders = ap (λ (v : VolumeState). count_by (λ placed. is_folder placed.value) (entries_of (records_of v))) puts.rest;
    links = λ reference. ap (λ (v : VolumeState). length (links_to (records_of v) reference)) puts.rest;
    used = ap (λ n. count_used n (used_in new) + length freed) (ap (λ (v : VolumeState). v.head.total_blocks) puts.rest)
        ∙ count_changed (used_in old) (used_in new) fresh freed balance shaped.forks.once puts.are_fresh.once fresh_free freed_were old.head.total_blocks fresh_inside freed_inside;
  }

pub values_put_law : ValuesPut
values_put_law fresh freed old new puts each values sizes right shaped = (
  put_shaped fresh freed old new puts each values sizes right shaped,
  put_right fresh freed old new puts each values sizes right shaped,
  put_counts fresh freed old new puts each values sizes right shaped,
)

pub value_freed_law : ValueFreed
value_freed_law id name freed old new drops puts right shaped =
    let keeps = taken_keeps (not_named id name) old new drops in
    values_put_law [] freed old new puts
    (λ pair stands. each_of (IsAttribute (records_of old)) old.attribute_pairs shaped.attributes.each pair (kept_cases (λ (p : Pair). not (is_attribute_of id name (attribute_of p))) old.attribute_pairs pair (subst (λ l. Contains l pair) drops stands)).0)
    (keeps.0 shaped) (keeps.1 shaped) right shaped

-- ---- with the header's count

module _ {Changes : List Pair → List Pair → Type 0} (fresh freed : List ℕ) (old new : VolumeState) (does : InValues Changes fresh freed old new)
    (balance : (block : ℕ) → times block (blocks_of_values (attributes_of new)) + times block freed ≡ times block (blocks_of_values (attributes_of old)) + times block fresh)
    (were : (block : ℕ) → times block freed ≤ times block (blocks_of_values (attributes_of old)))
    (each : (pair : Pair) → Contains new.attribute_pairs pair → IsAttribute (records_of old) pair)
    (values : All (IsValue (attributes_of new)) (attributes_of new))
    (sizes : All (HasValueSizes old.head.total_blocks old.head.block_size (attributes_of new)) (attributes_of new))
    (sound : IsSoundVolume old) where
  trades : TradesBlocks fresh freed (recounted does.free does.next old) new
  trades = record {
    are_fresh = record { inside = does.are_fresh.inside; free = does.are_fresh.free; once = does.are_fresh.once };
    blocks = balance;
    were = were;
    flips = record { size = does.flips.size; taken = does.flips.taken; given = does.flips.given; others = does.flips.others };
    nodes = does.nodes;
    rest = does.rest;
  }

  put : IsShaped new × HasRightBits new × CountsBlocks (length fresh) (length freed) (recounted does.free does.next old) new
  put = values_put_law fresh freed (recounted does.free does.next old) new trades each values sizes (recounted_right does.free does.next old sound) (recounted_shaped does.free does.next old sound)

  -- the volume is sound again
  pub values_sound : IsSoundVolume new
  values_sound = (sound_is_both new).1 (
    put.0,
    record {
      entries = subst (λ (v : VolumeState). AreCounted v.head (entries_of (records_of v))) (sym does.rest)
          (record { valences = sound.entries.counts.valences; files = sound.entries.counts.files; folders = sound.entries.counts.folders });
      links = subst (λ (v : VolumeState). HaveLinkCounts (records_of v)) (sym does.rest) sound.links.counts;
      bits = bits_counted (length fresh) (length freed) does.free does.next old new sound put.1 put.2 does.counts (ap (λ (v : VolumeState). v.head.free_blocks) does.rest) (ap (λ (v : VolumeState). v.head.total_blocks) does.rest);
    },
  )

-- attributes that are taken away, with the blocks of their values, keep a volume sound
pub bared_sound : (gone : ℕ → List ℕ → Bool) (freed : List ℕ) (old new : VolumeState) → freed ≡ blocks_of_values (kept (λ a. gone a.id a.name) (attributes_of old))
    → InValues (λ before after. after ≡ kept (λ pair. not (gone (attribute_of pair).id (attribute_of pair).name)) before) [] freed old new → IsSoundVolume old → IsSoundVolume new
bared_sound gone freed old new are does sound =
    let left : attributes_of new ≡ kept (λ a. not (gone a.id a.name)) (attributes_of old) = ap (map attribute_of) does.changes ∙ kept_mapped attribute_of (λ a. not (gone a.id a.name)) old.attribute_pairs in
    let shaped = ((sound_is_both old).0 sound).0 in
    let keeps = taken_keeps (λ id name. not (gone id name)) old new does.changes in
    values_sound [] freed old new does
    (taken_balance gone (attributes_of old) (attributes_of new) left freed are)
    (taken_were gone (attributes_of old) (attributes_of new) left freed are)
    (λ pair stands. each_of (IsAttribute (records_of old)) old.attribute_pairs shaped.attributes.each pair
    (kept_cases (λ (p : Pair). not (gone (attribute_of p).id (attribute_of p).name)) old.attribute_pairs pair (subst (λ l. Contains l pair) does.changes stands)).0)
    (keeps.0 shaped) (keeps.1 shaped) sound
