-- A volume stands over its space again behind a put of its bitmap, whose sectors are in none of its trees.
use Rattle.std.proofs.Common.{◌≡◌, ◌⊎◌, ◌<◌, ◌≤◌, ℕ, zero, suc, ◌+◌, ◌-◌, ◌*◌, ◌/◌, ◌%◌, ◌++◌, Bool, true, false, List, [], ◌∷◌, length, replicate, get_or, refl, sym, ◌∙◌, ap, subst, arith, cond, eq-eqb, inl, inr, length-append, ⊎_elim}
use Rattle.std.specs.Prelude.{Contains, IsTrue, Option, None, Some, slice_get, slice_index_or, map}
use Rattle.std.proofs.lemmas.Bool.{cases_lt, true≢false}
use Rattle.std.proofs.lemmas.List.{get_or_append_left, get_or-append_right}
use Rattle.std.proofs.lemmas.List.Elements.{Contains-append_right}
use Rattle.std.proofs.lemmas.Option.{slice_get_within, get_or_from_slice_get}
use Rattle.alloc_bitmap.specs.Apart.{AreApart, times}
use Rattle.alloc_bitmap.specs.Fork.{ClearsRest, HoldsBits, IsChanged, fork_bit, sector_or_none}
use Rattle.alloc_bitmap.proofs.ApartLaws.{times-append, times-cons}
use Rattle.fork_map.specs.Blocks.{blocks_of}
use Rattle.flag_rows.specs.Bits.{bit_of}
use Rattle.btree_node.specs.Keys.{IsCatalogKey, IsExtentKey, IsAttrKey, catalog_cmp, extent_cmp, attr_cmp, is_eight_extents, anything}
use Rattle.btree_node.specs.Tree.{pairs_of}
use Rattle.btree_node.specs.TreeFile.{TreeFile as File, store_of, extents_form, catalog_form, attributes_form}
use Rattle.jnl_format.specs.Recovery.{info_sector_of}
use Rattle.sector_disk.specs.Clock.{TimePasses}
use Rattle.sector_disk.specs.Lists.{Content, sector}
use Rattle.sector_disk.specs.Putting.{PutsThese, TakesRoomOf}
use Rattle.sector_disk.specs.Space.{Space, SameSpace, LeavesDurable}
use Rattle.btree_file.specs.Frame.{PutsWithin}
use Rattle.btree_file.specs.State.{sectors_of_tree}
use Rattle.btree_file.proofs.Edited.{file_elsewhere, held_elsewhere}
use Rattle.hfs_volume.specs.Content.{has_attributes, journal_place, overflow_in_volume}
use Rattle.hfs_volume.specs.Forks.{allocation_id, attributes_id, catalog_id, data_kind, extents_of}
use Rattle.hfs_volume.specs.Records.{Overflow, overflow_of}
use Rattle.volume_header.specs.Header.{header_of}
use Rattle.volume_base.specs.Lists.{bits_on, facts_on, lists_of}
use Rattle.volume_base.specs.Mapping.{HasBit, HoldsMap, HoldsUnchanged, PutsMap}
use Rattle.volume_base.specs.Standing.{IsStanding, StandsOver, attribute_sectors, file_sectors, map_sectors, own_sectors}
use Rattle.volume_base.specs.declared.volume.Volume.{Volume}
use Rattle.volume_base.proofs.CatalogEdited.{there_is}
use Rattle.volume_base.proofs.HeaderPut.{serves_later}
use Rattle.volume_base.proofs.ListsAfter.{file_pairs, if_there}
use Rattle.volume_base.proofs.Placing.{block_is, stands_once, times_sectors}

-- ---- the bits

past_none : (n k : ℕ) → get_or (replicate n false) k false ≡ false
past_none zero k = refl
past_none (suc n) zero = refl
past_none (suc n) (suc k) = past_none n k

module _ (volume : Volume) where
  abbrev tail : List Bool
  tail = replicate (8 * volume.header.allocation_fork.logical_size - length volume.map.used) false

  pub kept_bit : (k : ℕ) → k < length volume.map.used → slice_index_or (bits_on volume) k false ≡ slice_index_or volume.map.used k false
  kept_bit k low = get_or_append_left volume.map.used tail false k low

  pub no_bit : (k : ℕ) → length volume.map.used ≤ k → slice_index_or (bits_on volume) k false ≡ false
  no_bit k high = get_or-append_right volume.map.used tail (length volume.map.used) k false refl high ∙ past_none (8 * volume.header.allocation_fork.logical_size - length volume.map.used) (k - length volume.map.used)

  bits_long : length volume.map.used ≤ length (bits_on volume)
  bits_long = omega (arith, length-append volume.map.used tail)

  -- what the bits that weren't changed say
  pub unchanged_are : (content : Content) → HoldsUnchanged volume content → (k : ℕ) → k < length volume.map.used → slice_index_or volume.map.changed (k / 4096) false ≡ false
      → fork_bit content (map_sectors volume) k ≡ slice_index_or volume.map.used k false
  unchanged_are content holds k low same = holds k (omega (arith, low, bits_long)) same ∙ kept_bit k low

-- a sector stands at one place where it stands at most once
abbrev number_or : ℕ → Option ℕ → ℕ
number_or other None = other
number_or other (Some n) = n

not_again : (x at j : ℕ) (xs : List ℕ) → times at (x ∷ xs) ≤ 1 → x ≡ at → slice_get xs j ≡ Some at → ⊥
not_again x at j xs once is there =
    omega (
      arith,
      once,
      times-cons at x xs,
      ap {B = ℕ} (λ b. cond b 1 0) (eq-eqb x at is),
      stands_once at xs (j, slice_get_within xs j at there, get_or_from_slice_get xs j at at there),
    )

one_place : (xs : List ℕ) (at : ℕ) → times at xs ≤ 1 → (i j : ℕ) → slice_get xs i ≡ Some at → slice_get xs j ≡ Some at → i ≡ j
one_place [] at once i j first second = absurd (let no : None ≡ Some at = first in cc no)
one_place (x ∷ xs) at once zero zero first second = refl
one_place (x ∷ xs) at once zero (suc j) first second = absurd (not_again x at j xs once (ap (number_or at) first) second)
one_place (x ∷ xs) at once (suc i) zero first second = absurd (not_again x at i xs once (ap (number_or at) second) first)
one_place (x ∷ xs) at once (suc i) (suc j) first second = ap suc (one_place xs at (omega (arith, once, times-cons at x xs)) i j first second)

-- ---- behind the put

module _ (volume : Volume) (a b : Space) (was : IsStanding volume a) (puts : PutsThese (IsChanged (map_sectors volume) volume.map.changed) a b)
    (long : (s : ℕ) → IsChanged (map_sectors volume) volume.map.changed s → length (sector b.content s) ≡ 512)
  where
    of_map : (s : ℕ) → IsChanged (map_sectors volume) volume.map.changed s → Contains (map_sectors volume) s
    of_map s is = (is.0, slice_get_within (map_sectors volume) is.0 s is.2, get_or_from_slice_get (map_sectors volume) is.0 s s is.2)

    size : length b.content ≡ length a.content
    size = puts.content.size

    -- nothing but the bitmap was put
    elsewhere : (s : ℕ) → (Contains (map_sectors volume) s → ⊥) → sector b.content s ≡ sector a.content s
    elsewhere s none = ⊎_elim (λ same. same) (λ is. absurd (none (of_map s is))) (puts.content.each s)

    -- how often a sector stands in each part
    parts : (s : ℕ)
        → times s (2 ∷ []) + (times s (sectors_of_tree volume.extents.file) + (times s (sectors_of_tree volume.catalog.file) + (times s (attribute_sectors volume) + times s (map_sectors volume)))) ≤ 1
    parts s = omega (
      arith,
      was.apart s,
      times-append s (2 ∷ []) (file_sectors volume),
      times-append s (sectors_of_tree volume.extents.file) (sectors_of_tree volume.catalog.file ++ (attribute_sectors volume ++ map_sectors volume)),
      times-append s (sectors_of_tree volume.catalog.file) (attribute_sectors volume ++ map_sectors volume),
      times-append s (attribute_sectors volume) (map_sectors volume),
    )

    in_own : (s : ℕ) → Contains (map_sectors volume) s → Contains (own_sectors volume) s
    in_own s here = Contains-append_right (2 ∷ sectors_of_tree volume.extents.file) (sectors_of_tree volume.catalog.file ++ (attribute_sectors volume ++ map_sectors volume)) s
        (Contains-append_right (sectors_of_tree volume.catalog.file) (attribute_sectors volume ++ map_sectors volume) s (Contains-append_right (attribute_sectors volume) (map_sectors volume) s here))

    extents_same : (s : ℕ) → Contains (sectors_of_tree volume.extents.file) s → sector b.content s ≡ sector a.content s
    extents_same s has = elsewhere s (λ here. omega (arith, parts s, stands_once s (sectors_of_tree volume.extents.file) has, stands_once s (map_sectors volume) here))

    catalog_same : (s : ℕ) → Contains (sectors_of_tree volume.catalog.file) s → sector b.content s ≡ sector a.content s
    catalog_same s has = elsewhere s (λ here. omega (arith, parts s, stands_once s (sectors_of_tree volume.catalog.file) has, stands_once s (map_sectors volume) here))

    attributes_same : IsTrue (has_attributes volume.header) → (s : ℕ) → Contains (sectors_of_tree volume.attributes.file) s → sector b.content s ≡ sector a.content s
    attributes_same there s has = elsewhere s (λ here. omega (
      arith,
      parts s,
      stands_once s (attribute_sectors volume) (subst (λ (l : List ℕ). Contains l s) (sym (there_is (has_attributes volume.header) (sectors_of_tree volume.attributes.file) there)) has),
      stands_once s (map_sectors volume) here,
    ))

    aside_same : (s : ℕ) → (s ≡ length a.content - 2) ⊎ (s ≡ info_sector_of volume.header) → sector b.content s ≡ sector a.content s
    aside_same s aside = elsewhere s (λ here. was.aside s aside (in_own s here))

    overflow_same : overflow_in_volume (lists_of volume b.content) ≡ overflow_in_volume (lists_of volume a.content)
    overflow_same = ap (λ (f : File). map overflow_of (pairs_of (store_of f))) (file_elsewhere (sectors_of_tree volume.extents.file) a.content b.content extents_same)

    stands_mapped : IsStanding volume b
    stands_mapped = record {
      trees = record {
        extents = held_elsewhere extents_form IsExtentKey is_eight_extents extent_cmp volume.extents.file a.content b.content extents_same was.trees.extents;
        catalog = held_elsewhere catalog_form IsCatalogKey anything catalog_cmp volume.catalog.file a.content b.content catalog_same was.trees.catalog;
        compare = was.trees.compare;
        attributes = λ there. held_elsewhere attributes_form IsAttrKey anything attr_cmp volume.attributes.file a.content b.content (attributes_same there) (was.trees.attributes there);
      };
      forks = record {
        extents = was.forks.extents;
        extents_per = was.forks.extents_per;
        catalog = was.forks.catalog ∙ ap (λ (o : List Overflow). extents_of o catalog_id data_kind volume.header.catalog_fork) (sym overflow_same);
        catalog_per = was.forks.catalog_per;
        attributes = λ there. was.forks.attributes there ∙ ap (λ (o : List Overflow). extents_of o attributes_id data_kind volume.header.attributes_fork) (sym overflow_same);
        attributes_per = was.forks.attributes_per;
        map = was.forks.map ∙ ap (λ (o : List Overflow). extents_of o allocation_id data_kind volume.header.allocation_fork) (sym overflow_same);
        map_per = was.forks.map_per;
      };
      whole = λ at low. ⊎_elim (λ same. ap (λ (l : List ℕ). length l) same ∙ was.whole at (omega (arith, low, size))) (λ is. long at is) (puts.content.each at);
      apart = was.apart;
      blocks = was.blocks;
      closed = λ at is has. was.closed at ((puts.closed at).0 is) has;
      aside = λ at is has. was.aside at (subst (λ n. (at ≡ n - 2) ⊎ (at ≡ info_sector_of volume.header)) size is) has;
      large = omega (arith, was.large, size);
      inside = was.inside;
      fit = omega (arith, was.fit, size);
      live = λ at is. ⊎_elim (λ old. was.live at old) (λ now. in_own at (of_map at now)) ((puts.live at).0 is);
    }

    lists_mapped : lists_of volume b.content ≡ lists_of volume a.content
    lists_mapped = λ i. record {
      sectors = size i;
      head = volume.header;
      alternate = header_of ((ap (λ n. sector b.content (n - 2)) size ∙ aside_same (length a.content - 2) (inl refl)) i);
      journal = journal_place (aside_same (info_sector_of volume.header) (inr refl) i);
      overflow_pairs = file_pairs (sectors_of_tree volume.extents.file) a.content b.content extents_same i;
      catalog_pairs = file_pairs (sectors_of_tree volume.catalog.file) a.content b.content catalog_same i;
      attribute_pairs = if_there (has_attributes volume.header) _ _ (λ there. file_pairs (sectors_of_tree volume.attributes.file) a.content b.content (attributes_same there)) i;
      extents_tree = facts_on volume.extents.file;
      catalog_tree = facts_on volume.catalog.file;
      attributes_tree = facts_on volume.attributes.file;
      bits = bits_on volume;
    }

    -- a sector of the bitmap that wasn't changed is as it was, and so are its bits
    still_bit : (k : ℕ) → slice_index_or volume.map.changed (k / 4096) false ≡ false → fork_bit b.content (map_sectors volume) k ≡ fork_bit a.content (map_sectors volume) k
    still_bit k same = by (slice_get (map_sectors volume) (k / 4096)) refl
      where
        by : (o : Option ℕ) → slice_get (map_sectors volume) (k / 4096) ≡ o → bit_of (sector_or_none b.content o) (k % 4096) ≡ bit_of (sector_or_none a.content o) (k % 4096)
        by None found = refl
        by (Some at) found = ap (λ (l : List ℕ). bit_of l (k % 4096)) (⊎_elim (λ is. is)
            (λ (is : IsChanged (map_sectors volume) volume.map.changed at).
            let there : Contains (map_sectors volume) at = of_map at is in
            let place : is.0 ≡ k / 4096 = one_place (map_sectors volume) at (omega (arith, parts at)) is.0 (k / 4096) is.2 found in
            absurd (true≢false (sym is.1 ∙ ap (λ n. slice_index_or volume.map.changed n false) place ∙ same)))
            (puts.content.each at))

    holds_mapped : HoldsUnchanged volume a.content → HoldsBits b.content (map_sectors volume) volume.map.used → ClearsRest b.content (map_sectors volume) volume.map.changed volume.map.used → HoldsMap volume b.content
    holds_mapped unchanged bits rest k low = ⊎_elim
        (λ (less : k < length volume.map.used). bits k less ∙ sym (kept_bit volume k less))
        (λ (more : length volume.map.used ≤ k). by more (slice_index_or volume.map.changed (k / 4096) false) refl)
        (cases_lt k (length volume.map.used))
      where
        by : length volume.map.used ≤ k → (c : Bool) → slice_index_or volume.map.changed (k / 4096) false ≡ c → HasBit volume b.content k
        by more true is = rest k more is ∙ sym (no_bit volume k more)
        by more false is = still_bit k is ∙ unchanged k low is

    pub map_put : HoldsUnchanged volume a.content → HoldsBits b.content (map_sectors volume) volume.map.used → ClearsRest b.content (map_sectors volume) volume.map.changed volume.map.used → PutsMap volume a.content b.content
    map_put unchanged bits rest = record {
      holds = holds_mapped unchanged bits rest;
      lists = lists_mapped;
      outside = record { size = size; each = λ at. ⊎_elim (λ same. inl same) (λ is. inr (of_map at is)) (puts.content.each at) };
    }

pub stands_behind_map : (volume : Volume) (a b : Space) → StandsOver volume a → SameSpace a b → (IsTrue a.tells → PutsThese (IsChanged (map_sectors volume) volume.map.changed) a b)
    → (IsTrue a.tells → (s : ℕ) → IsChanged (map_sectors volume) volume.map.changed s → length (sector b.content s) ≡ 512) → StandsOver volume b
stands_behind_map volume a b was same puts long = record {
  service = serves_later volume a b same.sectors was.service;
  stands = λ tells. let told : IsTrue a.tells = sym same.tells ∙ tells in stands_mapped volume a b (was.stands told) (puts told) (long told);
}

-- ---- what the put asks for

map_once : (volume : Volume) → AreApart (own_sectors volume) → (s : ℕ) → times s (map_sectors volume) ≤ 1
map_once volume apart s = omega (
  arith,
  apart s,
  times-append s (2 ∷ []) (file_sectors volume),
  times-append s (sectors_of_tree volume.extents.file) (sectors_of_tree volume.catalog.file ++ (attribute_sectors volume ++ map_sectors volume)),
  times-append s (sectors_of_tree volume.catalog.file) (attribute_sectors volume ++ map_sectors volume),
  times-append s (attribute_sectors volume) (map_sectors volume),
)

-- the blocks of the bitmap's file differ
pub map_apart : (volume : Volume) (a : Space) → StandsOver volume a → IsTrue a.tells → AreApart (blocks_of volume.map.fork)
map_apart volume a was tells block =
    let here = was.stands tells in
    let some : 0 < volume.map.per_block = omega (arith, (was.stands tells).forks.map_per, was.service.least) in
    let same : block * volume.map.per_block / volume.map.per_block ≡ block = block_is volume.map.per_block block (block * volume.map.per_block) some (omega arith) (omega (arith, some)) in
    let there = times_sectors volume.map.per_block (blocks_of volume.map.fork) (block * volume.map.per_block) some in
    subst (λ n. times n (blocks_of volume.map.fork) ≤ 1) same (omega (arith, there, map_once volume (was.stands tells).apart (block * volume.map.per_block)))

pub map_open : (volume : Volume) (a : Space) → StandsOver volume a → IsTrue a.tells → (s : ℕ) → IsChanged (map_sectors volume) volume.map.changed s → a.closed s → ⊥
map_open volume a was tells s is shut =
    (was.stands tells).closed s shut
    (Contains-append_right (2 ∷ sectors_of_tree volume.extents.file) (sectors_of_tree volume.catalog.file ++ (attribute_sectors volume ++ map_sectors volume)) s
    (Contains-append_right (sectors_of_tree volume.catalog.file) (attribute_sectors volume ++ map_sectors volume) s (Contains-append_right (attribute_sectors volume) (map_sectors volume) s
    (is.0, slice_get_within (map_sectors volume) is.0 s is.2, get_or_from_slice_get (map_sectors volume) is.0 s s is.2))))

-- told or not, puts of sectors of the bitmap
pub map_within : (volume : Volume) (most : ℕ) (a b : Space) → SameSpace a b → (IsTrue a.tells → PutsThese (IsChanged (map_sectors volume) volume.map.changed) a b)
    → (IsTrue a.tells → (s : ℕ) → IsChanged (map_sectors volume) volume.map.changed s → length (sector b.content s) ≡ 512) → (IsTrue a.tells → TimePasses a.clock b.clock (LeavesDurable b))
    → TakesRoomOf (IsChanged (map_sectors volume) volume.map.changed) most a b → b.faults ≡ a.faults → PutsWithin (map_sectors volume) a b
map_within volume most a b same puts long time room faults = record {
  same = same;
  content = λ tells. record { size = (puts tells).content.size; each = λ at. ⊎_elim (λ is. inl is) (λ is. inr (of at is)) ((puts tells).content.each at) };
  sizes = λ tells at. ⊎_elim (λ is. inl (ap (λ (l : List ℕ). length l) is)) (λ is. inr (long tells at is)) ((puts tells).content.each at);
  durable = λ tells. (puts tells).durable;
  spilled = λ tells. (puts tells).spilled;
  live = λ tells s now. ⊎_elim (λ old. inl old) (λ is. inr (of s is)) (((puts tells).live s).0 now);
  still_live = λ tells s before. ((puts tells).live s).1 (inl before);
  closed = λ tells. (puts tells).closed;
  put = λ s. by s (a.put s) (b.put s) refl refl;
  still_put = λ s before. (room.put s).1 (inl before);
  spare = room.no_more;
  faults = omega (arith, faults);
  time = time;
}
  where
    of : (s : ℕ) → IsChanged (map_sectors volume) volume.map.changed s → Contains (map_sectors volume) s
    of s is = (is.0, slice_get_within (map_sectors volume) is.0 s is.2, get_or_from_slice_get (map_sectors volume) is.0 s s is.2)

    by : (s : ℕ) (x y : Bool) → a.put s ≡ x → b.put s ≡ y → (b.put s ≡ a.put s) ⊎ Contains (map_sectors volume) s
    by s true true before now = inl (now ∙ sym before)
    by s false false before now = inl (now ∙ sym before)
    by s true false before now = absurd (true≢false (sym ((room.put s).1 (inl before)) ∙ now))
    by s false true before now = ⊎_elim (λ old. absurd (true≢false (sym old ∙ before))) (λ is. inr (of s is)) ((room.put s).0 now)
