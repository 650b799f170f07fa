-- Where the special files of a sound content lie: in its sectors, apart from each other, from the header and from the journal.
use Rattle.hfs_volume.specs.Values.{blocks_of_values}
use Rattle.std.proofs.Common.{◌≡◌, ◌≢◌, ◌⊎◌, ◌<◌, ◌≤◌, ℕ, zero, suc, ◌+◌, ◌-◌, ◌*◌, ◌/◌, ◌%◌, ◌==◌, ◌&&◌, ◌||◌, Bool, true, false, not, cond, List, [], ◌∷◌, ◌++◌, length, get_or, refl, sym, ◌∙◌, ap, subst, arith, inl, inr, ⊎_elim}
use Rattle.std.specs.Prelude.{Contains, All, IsTrue, Option, Some, None, find, nat_le, if◌then◌else◌}
use Rattle.std.specs.Int.{is_power_of_two}
use Rattle.std.specs.Int.RustNames.{count_ones}
use Rattle.std.specs.List.{flat_map, list_all, range_with_len}
use Rattle.std.proofs.Math.Nat.{le-div_iff_mul-le, div-mul-le_self, mul_left_comm, mul-le-mul_right}
use Rattle.std.proofs.lemmas.Bool.{eqb-true, leb-true, le-leb, and_parts, cases_lt}
use Rattle.std.proofs.lemmas.Bool.Decides.{eqb_tells}
use Rattle.std.specs.Str.{bytes_eq}
use Rattle.std.proofs.lemmas.Slice.Eq.{bytes_eq-Decides}
use Rattle.std.proofs.lemmas.Nat.{ones_cat, zero_from_ones}
use Rattle.std.proofs.lemmas.List.Elements.{Contains-append_left, Contains-append_right, Contains-append_cases}
use Rattle.sector_disk.specs.Lists.{Content}
use Rattle.hx_bytes.specs.declared.extents.Extent.{Extent}
use Rattle.hx_bytes.specs.declared.extents.ForkRecord.{ForkRecord}
use Rattle.jnl_format.specs.Recovery.{header_of_volume, info_sector_of}
use Rattle.volume_header.specs.Refusal.{header_refusal, is_volume_size, is_hfsx, is_block_size, fits_blocks}
use Rattle.volume_header.specs.declared.header.VolumeHeader.{VolumeHeader}
use Rattle.volume_header.specs.declared.refusal.HeaderRefusal.{HeaderRefusal}
use Rattle.volume_header.specs.declared.refusal.HeaderRefusal.TheVariants.{LimitSectors, NotHfsx, BadGeometry}
use Rattle.fork_map.specs.Blocks.{blocks_of, sectors_of}
use Rattle.alloc_bitmap.specs.Apart.{times, AreApart}
use Rattle.alloc_bitmap.proofs.ApartLaws.{times-append, times-cons}
use Rattle.cat_records.specs.declared.record.FileRecord.{FileRecord}
use Rattle.cat_records.specs.declared.record.CatRecord.TheVariants.{File}
use Rattle.hfs_model.specs.Sorted.{kept}
use Rattle.hfs_model.specs.Step.{journal_name, journal_info_name}
use Rattle.hfs_volume.specs.Records.{Placed, Overflow, entries_of, is_empty, is_placed_at}
use Rattle.hfs_volume.specs.Forks.{Owned, per_block_of, parts_for, data_kind, resource_kind, extents_id, catalog_id, allocation_id, attributes_id, startup_id, extents_of, in_use, is_of, overflow_in, blocks_owned, forks_in, file_forks, all_forks, special_forks, reserved_blocks, bad_extents, used_blocks}
use Rattle.hfs_volume.specs.Content.{VolumeState, volume_of, records_of, overflow_in_volume, overflow_of_content, block_limit, sectors_in, has_attributes, attributes_of}
use Rattle.hfs_volume.specs.Attributes.{IsOneExtent, journal_extent, info_extent}
use Rattle.hfs_volume.specs.Aside.{IsJournalSector}
use Rattle.hfs_volume.specs.Blocks.{forks_of, used_in, HasForks, HasSizes, LieInside}
use Rattle.hfs_volume.specs.Sound.{IsSound, IsSoundVolume}
use Rattle.hfs_volume.proofs.Members.{each_of, at_front, behind, first_or_later, kept_stands, kept_cases}
use Rattle.hfs_volume.proofs.BlockWants.{in_range, range_bounds}
use Rattle.volume_base.specs.Opening.{ends_inside}
use Rattle.volume_base.specs.Standing.{own_sectors_in}
use Rattle.volume_base.proofs.Placing.{default_is, flat_cases, flat_stands, stands_once, times_sectors, in_block, block_is}

-- ---- the header

pub passed : (b : Bool) (why : HeaderRefusal) (rest : Option HeaderRefusal) → (if not b then Some why else rest) ≡ None → (b ≡ true) × (rest ≡ None)
passed true why rest is = (refl, is)
passed false why rest is = absurd (cc)

low_zero : (high low : ℕ) → high + low ≡ 1 → (high ≡ 0 → ⊥) → low ≡ 0
low_zero zero low is some = absurd (some refl)
low_zero (suc high) low is some = omega arith

whole_sectors : (size : ℕ) → is_power_of_two size ≡ true → 512 ≤ size → size ≡ 512 * (size / 512)
whole_sectors size power large =
    let one : count_ones size ≡ 1 = eqb-true (count_ones size) 1 power in
    let whole : size / 512 * 512 + size % 512 ≡ size = omega arith in
    let split : count_ones (size / 512 * 512 + size % 512) ≡ count_ones (size / 512) + count_ones (size % 512) = ones_cat 9 (size / 512) (size % 512) (omega arith) in
    let both : count_ones (size / 512) + count_ones (size % 512) ≡ 1 = sym split ∙ ap count_ones whole ∙ one in
    let low : count_ones (size % 512) ≡ 0 = low_zero (count_ones (size / 512)) (count_ones (size % 512)) both (λ none.
    let small : size / 512 ≡ 0 = zero_from_ones (size / 512) none in omega (arith, small, large)) in
    let rest : size % 512 ≡ 0 = zero_from_ones (size % 512) low in
    omega (arith, rest)

-- an accepted header: its blocks are whole sectors, and lie in the volume
pub record HasGeometry (sectors : ℕ) (head : VolumeHeader) : Type 0 where
  pub least : 512 ≤ head.block_size
  pub most : head.block_size ≤ 65536
  pub whole : head.block_size ≡ 512 * per_block_of head
  pub some : 0 < per_block_of head
  pub inside : head.total_blocks * per_block_of head ≤ sectors
  pub large : 2048 ≤ sectors

scaled_down : (blocks size per sectors : ℕ) → size ≡ 512 * per → blocks ≡ sectors * 512 / size → blocks * per ≤ sectors
scaled_down blocks size per sectors whole is =
    let under : sectors * 512 / size * size ≤ sectors * 512 = div-mul-le_self (sectors * 512) size in
    let same : blocks * size ≡ 512 * (blocks * per) = ap (λ b. blocks * b) whole ∙ mul_left_comm blocks 512 per in
    omega (arith, under, same, ap (λ b. b * size) is)

pub geometry : (sectors : ℕ) (head : VolumeHeader) → header_refusal head sectors ≡ None → HasGeometry sectors head
geometry sectors head accepted =
    let p1 = passed (is_volume_size sectors) (LimitSectors sectors) _ accepted in
    let p2 = passed (is_hfsx head) (NotHfsx head.signature head.version) _ p1.1 in
    let p3 = passed (is_block_size head.block_size) (BadGeometry 40) _ p2.1 in
    let p4 = passed (fits_blocks head sectors) (BadGeometry 44) _ p3.1 in
    let most = and_parts (is_power_of_two head.block_size && nat_le 512 head.block_size) (nat_le head.block_size 65536) p3.0 in
    let least = and_parts (is_power_of_two head.block_size) (nat_le 512 head.block_size) most.0 in
    let size = and_parts (nat_le 2048 sectors) (nat_le sectors 2147483648) p1.0 in
    let blocks = and_parts (head.total_blocks == sectors * 512 / head.block_size) (nat_le head.total_blocks 268435456) p4.0 in
    let low : 512 ≤ head.block_size = leb-true 512 head.block_size least.1 in
    let whole = whole_sectors head.block_size least.0 low in
    record {
      least = low;
      most = leb-true head.block_size 65536 most.1;
      whole = whole;
      some = omega (arith, whole, low);
      inside = scaled_down head.total_blocks head.block_size (per_block_of head) sectors whole (eqb-true head.total_blocks (sectors * 512 / head.block_size) blocks.0);
      large = leb-true 2048 sectors size.0;
    }

-- ---- blocks of forks

overflow_there : (overflow : List Overflow) (id kind : ℕ) (more : Overflow) → Contains (overflow_in overflow id kind) more → Contains overflow more
overflow_there overflow id kind more stands = by (id == extents_id) stands
  where
    by : (b : Bool) → Contains (if b then [] else kept (is_of id kind) overflow) more → Contains overflow more
    by true none = absurd (omega (arith, none.1))
    by false some = (kept_cases (is_of id kind) overflow more some).0

-- each extent of a fork ends in the volume
pub extent_inside : (volume : VolumeState) (owned : Owned) → HasForks volume → Contains (forks_of volume) owned → (extent : Extent) → Contains (extents_of (overflow_in_volume volume) owned.id owned.kind owned.fork) extent → extent.start + extent.count ≤ volume.head.total_blocks
unfolding extents_of
extent_inside volume owned forks stands extent has =
    let overflow = overflow_in_volume volume in
    elim (Contains-append_cases (in_use owned.fork.extents.extents) (flat_map (λ (more : Overflow). in_use more.extents) (overflow_in overflow owned.id owned.kind)) extent has) [
      | inl first ↦ each_of (λ (e : Extent). e.start + e.count ≤ volume.head.total_blocks) (in_use owned.fork.extents.extents) (each_of (HasSizes volume.head overflow) (forks_of volume) forks.sizes owned stands).inside extent first
      | inr later ↦
          let more = flat_cases (λ (more : Overflow). in_use more.extents) (overflow_in overflow owned.id owned.kind) extent later in
          each_of (λ (e : Extent). e.start + e.count ≤ volume.head.total_blocks) (in_use more.0.extents)
          (each_of (λ (m : Overflow). LieInside volume.head.total_blocks m.extents) overflow forks.more_inside more.0 (overflow_there overflow owned.id owned.kind more.0 more.1)) extent more.2
    ]

-- extents that end in the volume end in its sectors
pub all_end_inside : (per sectors total : ℕ) (extents : List Extent) → total * per ≤ sectors → ((extent : Extent) → Contains extents extent → extent.start + extent.count ≤ total) → list_all (ends_inside per sectors) extents ≡ true
all_end_inside per sectors total [] fits each = refl
all_end_inside per sectors total (extent ∷ extents) fits each =
    both (ends_inside per sectors extent) (list_all (ends_inside per sectors) extents)
    (either_right (extent.count == 0) (nat_le ((extent.start + extent.count) * per) sectors) (le-leb ((extent.start + extent.count) * per) sectors (omega (arith, fits, mul-le-mul_right {m = extent.start + extent.count} {n = total} per (each extent (at_front extent extents))))))
    (all_end_inside per sectors total extents fits (λ e has. each e (behind extent e extents has)))
  where
    both : (a b : Bool) → a ≡ true → b ≡ true → (a && b) ≡ true
    both true true p q = refl
    both true false p q = q
    both false b p q = p

    either_right : (a b : Bool) → b ≡ true → (a || b) ≡ true
    either_right true b is = refl
    either_right false b is = is

-- and then their blocks' sectors lie in these
pub sectors_inside : (per sectors : ℕ) (extents : List Extent) → 0 < per → list_all (ends_inside per sectors) extents ≡ true → (at : ℕ) → Contains (sectors_of per (blocks_of extents)) at → at < sectors
sectors_inside per sectors extents some all at has =
    let block = in_block per (blocks_of extents) at some has in
    let found = flat_cases (λ (extent : Extent). range_with_len extent.start extent.count) extents (at / per) block in
    let range = range_bounds found.0.start found.0.count (at / per) found.2 in
    let ends = each_all extents found.0 found.1 all in
    let within : (found.0.start + found.0.count) * per ≤ sectors = by_count found.0 (omega (arith, range)) ends in
    let next : suc (at / per) * per ≤ (found.0.start + found.0.count) * per = mul-le-mul_right {m = suc (at / per)} {n = found.0.start + found.0.count} per (omega (arith, range)) in
    ⊎_elim (λ (low : at < suc (at / per) * per). omega (arith, low, next, within))
    (λ (high : suc (at / per) * per ≤ at). absurd (omega (arith, (le-div_iff_mul-le {k = per} {x = suc (at / per)} {y = at} some).1 high)))
    (cases_lt at (suc (at / per) * per))
  where
    each_all : (es : List Extent) (e : Extent) → Contains es e → list_all (ends_inside per sectors) es ≡ true → ends_inside per sectors e ≡ true
    each_all [] e none all = absurd (omega (arith, none.1))
    each_all (first ∷ rest) e stands all =
        let parts = and_parts (ends_inside per sectors first) (list_all (ends_inside per sectors) rest) all in
        elim (first_or_later first e rest stands) [
          | inl is ↦ subst (λ x. ends_inside per sectors x ≡ true) (sym is) parts.0
          | inr later ↦ each_all rest e later parts.1
        ]

    by_count : (e : Extent) → 0 < e.count → ends_inside per sectors e ≡ true → (e.start + e.count) * per ≤ sectors
    by_count e many is = by (e.count == 0) refl is
      where
        by : (b : Bool) → (e.count == 0) ≡ b → (b || nat_le ((e.start + e.count) * per) sectors) ≡ true → (e.start + e.count) * per ≤ sectors
        by true none is = absurd (omega (arith, many, eqb-true e.count 0 none))
        by false none is = leb-true ((e.start + e.count) * per) sectors is

-- the same by places
pub places_inside : (per sectors : ℕ) (extents : List Extent) → 0 < per → list_all (ends_inside per sectors) extents ≡ true → (k : ℕ) → k < length (sectors_of per (blocks_of extents)) → get_or (sectors_of per (blocks_of extents)) k 0 < sectors
places_inside per sectors extents some all k low =
    sectors_inside per sectors extents some all (get_or (sectors_of per (blocks_of extents)) k 0) (k, low, default_is (sectors_of per (blocks_of extents)) k (get_or (sectors_of per (blocks_of extents)) k 0) low)

-- ---- the blocks that hold some bytes

below_parts : (part size k : ℕ) → 0 < part → k * part < size → k < parts_for size part
below_parts part size k some below =
    let next : suc k * part ≡ k * part + part = omega arith in
    (le-div_iff_mul-le {k = part} {x = suc k} {y = size + part - 1} some).1 (omega (arith, below, next))

module _ (block per : ℕ) (whole : block ≡ 512 * per) (some : 0 < per) where
  scaled : (k : ℕ) → k * block ≡ 512 * (k * per)
  scaled k = ap (λ b. k * b) whole ∙ mul_left_comm k 512 per

  from_first : (offset at : ℕ) → offset / 512 ≤ at → offset / block ≤ at / per
  from_first offset at from =
      let under : offset / block * block ≤ offset = div-mul-le_self offset block in
      let many = scaled (offset / block) in
      (le-div_iff_mul-le {k = per} {x = offset / block} {y = at} some).1 (omega (arith, under, many, from))

  to_last : (end at : ℕ) → at < end / 512 → at / per < parts_for end block
  to_last end at below =
      let under : at / per * per ≤ at = div-mul-le_self at per in
      let many = scaled (at / per) in
      below_parts block end (at / per) (omega (arith, whole, some)) (omega (arith, under, many, below))

  in_front : (size at : ℕ) → at * 512 < size → at / per < parts_for size block
  in_front size at below =
      let under : at / per * per ≤ at = div-mul-le_self at per in
      let many = scaled (at / per) in
      below_parts block size (at / per) (omega (arith, whole, some)) (omega (arith, under, many, below))

-- what is found stands in the list
found_stands : {X : Type 0} (test : X → Bool) (xs : List X) (x : X) → find test xs ≡ Some x → Contains xs x × (test x ≡ true)
found_stands {X} test [] x found = absurd (let no : None ≡ Some x = found in cc no)
found_stands {X} test (y ∷ ys) x found = by_test (test y) refl (found_stands test ys x)
  where
    value_or : X → Option X → X
    value_or d None = d
    value_or d (Some z) = z

    by_test : (b : Bool) → test y ≡ b → (find test ys ≡ Some x → Contains ys x × (test x ≡ true)) → Contains (y ∷ ys) x × (test x ≡ true)
    by_test true is rest_too =
        let same : y ≡ x = ap (value_or y) (sym (ap (λ b. cond b (Some y) (find test ys)) is) ∙ found) in
        (subst (λ z. Contains (y ∷ ys) z) same (at_front y ys), ap test (sym same) ∙ is)
    by_test false is rest_too = let rest = rest_too (sym (ap (λ b. cond b (Some y) (find test ys)) is) ∙ found) in (behind y x ys rest.0, rest.1)

-- ---- a sound content

module _ (content : Content) (sound : IsSound content) where
  abbrev volume : VolumeState
  volume = volume_of content

  abbrev head : VolumeHeader
  head = header_of_volume content

  abbrev per : ℕ
  per = per_block_of (header_of_volume content)

  abbrev overflow : List Overflow
  overflow = overflow_of_content content

  pub geometry_of : HasGeometry (length content) (header_of_volume content)
  unfolding volume_of
  geometry_of = geometry (length content) (header_of_volume content) sound.volume.blocks.header.accepted

  pub overflow_is : overflow_in_volume (volume_of content) ≡ overflow_of_content content
  unfolding volume_of overflow_of_content
  overflow_is = refl

  pub special_is_fork : (owned : Owned) → Contains (special_forks (header_of_volume content)) owned → Contains (forks_of (volume_of content)) owned
  unfolding all_forks volume_of
  special_is_fork owned stands = Contains-append_left (special_forks (header_of_volume content)) (file_forks (records_of (volume_of content))) owned stands

  total_is : (volume_of content).head.total_blocks ≡ (header_of_volume content).total_blocks
  unfolding volume_of
  total_is = refl

  -- the extents of a special file end in the content
  pub special_ends : (id : ℕ) (fork : ForkRecord) → Contains (special_forks (header_of_volume content)) (record { id = id; kind = data_kind; fork = fork })
      → list_all (ends_inside (per_block_of (header_of_volume content)) (length content)) (extents_of (overflow_of_content content) id data_kind fork) ≡ true
  special_ends id fork stands = all_end_inside per (length content) head.total_blocks (extents_of overflow id data_kind fork) geometry_of.inside
      (λ extent has. omega (
        arith,
        total_is,
        extent_inside (volume_of content) (record { id = id; kind = data_kind; fork = fork }) sound.volume.blocks.forks (special_is_fork (record { id = id; kind = data_kind; fork = fork }) stands) extent
            (subst (λ (o : List Overflow). Contains (extents_of o id data_kind fork) extent) (sym overflow_is) has),
      ))

  -- it has as many blocks as its record says
  pub special_blocks : (id : ℕ) (fork : ForkRecord) → Contains (special_forks (header_of_volume content)) (record { id = id; kind = data_kind; fork = fork })
      → length (blocks_of (extents_of (overflow_in_volume (volume_of content)) id data_kind fork)) ≡ fork.total_blocks
  special_blocks id fork stands = (each_of (HasSizes (volume_of content).head (overflow_in_volume (volume_of content))) (forks_of (volume_of content)) sound.volume.blocks.forks.sizes (record { id = id; kind = data_kind; fork = fork })
      (special_is_fork (record { id = id; kind = data_kind; fork = fork }) stands)).blocks

  -- and in its blocks
  pub special_limit : (id : ℕ) (fork : ForkRecord) → Contains (special_forks (header_of_volume content)) (record { id = id; kind = data_kind; fork = fork })
      → list_all (ends_inside (per_block_of (header_of_volume content)) (block_limit content)) (extents_of (overflow_of_content content) id data_kind fork) ≡ true
  special_limit id fork stands = all_end_inside per (block_limit content) head.total_blocks (extents_of overflow id data_kind fork) (omega arith)
      (λ extent has. omega (
        arith,
        total_is,
        extent_inside (volume_of content) (record { id = id; kind = data_kind; fork = fork }) sound.volume.blocks.forks (special_is_fork (record { id = id; kind = data_kind; fork = fork }) stands) extent
            (subst (λ (o : List Overflow). Contains (extents_of o id data_kind fork) extent) (sym overflow_is) has),
      ))

  -- ---- how often a block is used

  abbrev blocks_at : ℕ → ForkRecord → List ℕ
  blocks_at id fork = blocks_of (extents_of (overflow_of_content content) id data_kind fork)

  abbrev pub reserved : List ℕ
  reserved = reserved_blocks (length content) (header_of_volume content)

  abbrev pub in_files : List ℕ
  in_files = flat_map (blocks_owned (overflow_of_content content)) (file_forks (records_of (volume_of content)))

  abbrev pub in_special : List ℕ
  in_special = flat_map (blocks_owned (overflow_of_content content)) (special_forks (header_of_volume content))

  flat_two : (f : Owned → List ℕ) (xs ys : List Owned) (b : ℕ) → times b (flat_map f (xs ++ ys)) ≡ times b (flat_map f xs) + times b (flat_map f ys)
  flat_two f [] ys b = omega arith
  flat_two f (x ∷ xs) ys b = omega (arith, times-append b (f x) (flat_map f (xs ++ ys)), times-append b (f x) (flat_map f xs), flat_two f xs ys b)

  pub counted : (b : ℕ) → times b reserved + (times b in_special + times b in_files) ≤ 1
  unfolding used_blocks all_forks volume_of overflow_of_content
  counted b =
      let in_forks : List ℕ = flat_map (blocks_owned (overflow_of_content content)) (special_forks (header_of_volume content) ++ file_forks (records_of (volume_of content))) in
      let bad : List ℕ = blocks_of (bad_extents (overflow_of_content content)) in
      omega (
        arith,
        sound.volume.blocks.forks.once b,
        times-append b (reserved ++ in_forks ++ bad) (blocks_of_values (attributes_of (volume_of content))),
        times-append b (reserved ++ flat_map (blocks_owned (overflow_of_content content)) (special_forks (header_of_volume content) ++ file_forks (records_of (volume_of content)))) (blocks_of (bad_extents (overflow_of_content content))),
        times-append b reserved (flat_map (blocks_owned (overflow_of_content content)) (special_forks (header_of_volume content) ++ file_forks (records_of (volume_of content)))),
        flat_two (blocks_owned (overflow_of_content content)) (special_forks (header_of_volume content)) (file_forks (records_of (volume_of content))) b,
      )

  five : (b : ℕ) → times b in_special
      ≡ times b (blocks_at extents_id head.extents_fork) + (times b (blocks_at catalog_id head.catalog_fork) + (times b (blocks_at allocation_id head.allocation_fork) + (times b (blocks_at startup_id head.startup_fork) + times b (blocks_at attributes_id head.attributes_fork))))
  five b = omega (
    arith,
    times-append b (blocks_at extents_id head.extents_fork) (blocks_at catalog_id head.catalog_fork ++ (blocks_at allocation_id head.allocation_fork ++ (blocks_at startup_id head.startup_fork ++ (blocks_at attributes_id head.attributes_fork ++ [])))),
    times-append b (blocks_at catalog_id head.catalog_fork) (blocks_at allocation_id head.allocation_fork ++ (blocks_at startup_id head.startup_fork ++ (blocks_at attributes_id head.attributes_fork ++ []))),
    times-append b (blocks_at allocation_id head.allocation_fork) (blocks_at startup_id head.startup_fork ++ (blocks_at attributes_id head.attributes_fork ++ [])),
    times-append b (blocks_at startup_id head.startup_fork) (blocks_at attributes_id head.attributes_fork ++ []),
    times-append b (blocks_at attributes_id head.attributes_fork) [],
  )

  -- ---- the sectors that are the volume's own

  abbrev sectors_at : ℕ → ForkRecord → List ℕ
  sectors_at id fork = sectors_in content (extents_of (overflow_of_content content) id data_kind fork)

  pub own_extents : extents_of [] extents_id data_kind (header_of_volume content).extents_fork ≡ extents_of (overflow_of_content content) extents_id data_kind (header_of_volume content).extents_fork
  unfolding extents_of
  own_extents = refl

  header_once : (at : ℕ) → cond (2 == at) 1 0 ≤ times (at / per) reserved
  header_once at = ⊎_elim
      (λ same. omega (
        arith,
        ap {B = ℕ} (λ b. cond b 1 0) same.0,
        stands_once (at / per) reserved (subst (λ n. Contains reserved (n / per)) same.1
            (Contains-append_left (range_with_len 0 (parts_for 1536 head.block_size)) (range_with_len ((length content * 512 - 1024) / head.block_size) (head.total_blocks - (length content * 512 - 1024) / head.block_size)) (2 / per)
            (in_range 0 (parts_for 1536 head.block_size) (2 / per) (omega arith) (omega (arith, in_front head.block_size per geometry_of.whole geometry_of.some 1536 2 (omega arith)))))),
      ))
      (λ other. omega (arith, ap {B = ℕ} (λ b. cond b 1 0) other.0))
      (eqb_tells 2 at)

  fork_times : (id : ℕ) (fork : ForkRecord) (at : ℕ) → times at (sectors_at id fork) ≡ times (at / per) (blocks_at id fork)
  fork_times id fork at = times_sectors per (blocks_at id fork) at geometry_of.some

  if_there : (b : Bool) (xs : List ℕ) (at : ℕ) → times at (if b then xs else []) ≤ times at xs
  if_there true xs at = omega arith
  if_there false xs at = omega arith

  -- a sector is named by as many of them as its block at most
  own_times : (at : ℕ) → times at (own_sectors_in content) ≤ times (at / per) reserved + times (at / per) in_special
  own_times at =
      let attributes : List ℕ = if has_attributes head then sectors_at attributes_id head.attributes_fork else [] in
      omega (
        arith,
        times-append at (2 ∷ sectors_in content (extents_of [] extents_id data_kind head.extents_fork)) (sectors_at catalog_id head.catalog_fork ++ ((if has_attributes head then sectors_at attributes_id head.attributes_fork else []) ++ sectors_at allocation_id head.allocation_fork)),
        times-cons at 2 (sectors_in content (extents_of [] extents_id data_kind head.extents_fork)),
        times-append at (sectors_at catalog_id head.catalog_fork) ((if has_attributes head then sectors_at attributes_id head.attributes_fork else []) ++ sectors_at allocation_id head.allocation_fork),
        times-append at (if has_attributes head then sectors_at attributes_id head.attributes_fork else []) (sectors_at allocation_id head.allocation_fork),
        if_there (has_attributes head) (sectors_at attributes_id head.attributes_fork) at,
        ap (λ (es : List Extent). times at (sectors_in content es)) own_extents,
        header_once at,
        fork_times extents_id head.extents_fork at,
        fork_times catalog_id head.catalog_fork at,
        fork_times attributes_id head.attributes_fork at,
        fork_times allocation_id head.allocation_fork at,
        five (at / per),
      )

  pub own_apart : AreApart (own_sectors_in content)
  own_apart at = omega (arith, own_times at, counted (at / per))

  -- ---- the journal

  own_file : (name : List ℕ) (extent : Extent) → is_empty name ≡ false → IsOneExtent (records_of (volume_of content)) (overflow_in_volume (volume_of content)) name extent → (b : ℕ) → Contains (blocks_of (extent ∷ [])) b → 1 ≤ times b in_files
  own_file name extent named one b has =
      let found = found_stands (is_placed_at 2 name) (records_of (volume_of content)) one.0 one.2 in
      let parts = and_parts (one.0.parent == 2) (bytes_eq one.0.name name) found.1 in
      let same : one.0.name ≡ name = (bytes_eq-Decides one.0.name name).0 parts.1 in
      let owned : Owned = record { id = one.1.fields.id; kind = data_kind; fork = one.1.data_fork } in
      let stands : Contains (entries_of (records_of (volume_of content))) one.0 = kept_stands (λ (p : Placed). not (is_empty p.name)) (records_of (volume_of content)) one.0 found.0 (subst (λ n. not (is_empty n) ≡ true) (sym same) (ap not named)) in
      let of_file : Contains (forks_in one.0.value) (record { id = one.1.fields.id; kind = data_kind; fork = one.1.data_fork }) =
      subst (λ v. Contains (forks_in v) (record { id = one.1.fields.id; kind = data_kind; fork = one.1.data_fork })) (sym one.3) (at_front (record { id = one.1.fields.id; kind = data_kind; fork = one.1.data_fork }) (record { id = one.1.fields.id; kind = resource_kind; fork = one.1.resource_fork } ∷ [])) in
      let fork_stands = flat_stands (λ (q : Placed). forks_in q.value) (entries_of (records_of (volume_of content))) one.0 (record { id = one.1.fields.id; kind = data_kind; fork = one.1.data_fork }) stands of_file in
      let blocks : extents_of (overflow_of_content content) one.1.fields.id data_kind one.1.data_fork ≡ extent ∷ [] = subst (λ (o : List Overflow). extents_of o one.1.fields.id data_kind one.1.data_fork ≡ extent ∷ []) overflow_is one.4 in
      stands_once b in_files (flat_stands (blocks_owned (overflow_of_content content)) (file_forks (records_of (volume_of content))) (record { id = one.1.fields.id; kind = data_kind; fork = one.1.data_fork }) b fork_stands
      (subst (λ (es : List Extent). Contains (blocks_of es) b) (sym blocks) has))

  journal_used : (at : ℕ) → IsJournalSector content at → 1 ≤ times (at / per) in_files
  unfolding volume_of
  journal_used at (inl range) =
      let place = (volume_of content).journal in
      let first = from_first head.block_size per geometry_of.whole geometry_of.some (volume_of content).journal.offset at range.0 in
      let last = to_last head.block_size per geometry_of.whole geometry_of.some ((volume_of content).journal.offset + (volume_of content).journal.size) at range.1 in
      own_file journal_name (journal_extent head (volume_of content).journal) refl sound.volume.attributes.journal (at / per)
      (Contains-append_left (range_with_len (journal_extent head (volume_of content).journal).start (journal_extent head (volume_of content).journal).count) [] (at / per)
      (in_range (journal_extent head (volume_of content).journal).start (journal_extent head (volume_of content).journal).count (at / per) first (omega (arith, first, last))))
  journal_used at (inr is) =
      let same : at / per ≡ head.journal_info_block = block_is per head.journal_info_block at geometry_of.some (omega (arith, is)) (omega (arith, is, geometry_of.some)) in
      own_file journal_info_name (info_extent head) refl sound.volume.attributes.info_block (at / per)
      (Contains-append_left (range_with_len head.journal_info_block 1) [] (at / per) (in_range head.journal_info_block 1 (at / per) (omega (arith, same)) (omega (arith, same))))

  -- no sector of the journal is the volume's own
  pub journal_apart : (at : ℕ) → IsJournalSector content at → Contains (own_sectors_in content) at → ⊥
  journal_apart at journal has = omega (arith, journal_used at journal, stands_once at (own_sectors_in content) has, own_times at, counted (at / per))

  -- ---- the blocks of the special files, and the alternate header

  -- the sectors of the special files
  abbrev pub files_of : List ℕ
  files_of = sectors_in content (extents_of [] extents_id data_kind head.extents_fork)
      ++ (sectors_at catalog_id head.catalog_fork ++ ((if has_attributes head then sectors_at attributes_id head.attributes_fork else []) ++ sectors_at allocation_id head.allocation_fork))

  -- what holds of the sectors of each special file holds of them
  each_file : (P : Type 0) (at : ℕ) → ((id : ℕ) (fork : ForkRecord) → Contains (special_forks (header_of_volume content)) (record { id = id; kind = data_kind; fork = fork }) → Contains (sectors_at id fork) at → P) → Contains files_of at → P
  each_file P at holds has = elim (Contains-append_cases (sectors_in content (extents_of [] extents_id data_kind head.extents_fork)) (sectors_at catalog_id head.catalog_fork ++ more) at has) [
    | inl extents ↦ holds extents_id head.extents_fork (0, omega arith, refl) (subst (λ (es : List Extent). Contains (sectors_in content es) at) own_extents extents)
    | inr behind ↦ elim (Contains-append_cases (sectors_at catalog_id head.catalog_fork) more at behind) [
      | inl catalog ↦ holds catalog_id head.catalog_fork (1, omega arith, refl) catalog
      | inr rest ↦ elim (Contains-append_cases (if has_attributes head then sectors_at attributes_id head.attributes_fork else []) (sectors_at allocation_id head.allocation_fork) at rest) [
        | inl attributes ↦ holds attributes_id head.attributes_fork (4, omega arith, refl) (there (has_attributes head) attributes)
        | inr map ↦ holds allocation_id head.allocation_fork (2, omega arith, refl) map
      ]
    ]
  ]
    where
      more : List ℕ
      more = (if has_attributes head then sectors_at attributes_id head.attributes_fork else []) ++ sectors_at allocation_id head.allocation_fork

      there : (b : Bool) → Contains (if b then sectors_at attributes_id head.attributes_fork else []) at → Contains (sectors_at attributes_id head.attributes_fork) at
      there true has = has
      there false has = absurd (omega (arith, has.1))

  -- each is one of a block
  in_a_block : (id : ℕ) (fork : ForkRecord) (at : ℕ) → Contains (special_forks (header_of_volume content)) (record { id = id; kind = data_kind; fork = fork }) → Contains (sectors_at id fork) at → at < block_limit content
  in_a_block id fork at stands has = sectors_inside per (block_limit content) (extents_of (overflow_of_content content) id data_kind fork) geometry_of.some (special_limit id fork stands) at has

  pub own_inside : (at : ℕ) → Contains files_of at → at < block_limit content
  own_inside at has = each_file (at < block_limit content) at (λ id fork stands is. in_a_block id fork at stands is) has

  -- and isn't the last but one, whose block is reserved
  last_in : (id : ℕ) (fork : ForkRecord) → Contains (special_forks (header_of_volume content)) (record { id = id; kind = data_kind; fork = fork }) → Contains (sectors_at id fork) (length content - 2) → ⊥
  last_in id fork stands has =
      let low : length content - 2 < head.total_blocks * per = in_a_block id fork (length content - 2) stands has in
      let under : (length content - 2) / per * per ≤ length content - 2 = div-mul-le_self (length content - 2) per in
      let below : (length content - 2) / per < head.total_blocks = ⊎_elim
      (λ (less : (length content - 2) / per < head.total_blocks). less)
      (λ (more : head.total_blocks ≤ (length content - 2) / per). absurd (omega (arith, low, under, mul-le-mul_right {m = head.total_blocks} {n = (length content - 2) / per} per more)))
      (cases_lt ((length content - 2) / per) head.total_blocks) in
      let first : (length content * 512 - 1024) / head.block_size ≤ (length content - 2) / per = from_first head.block_size per geometry_of.whole geometry_of.some (length content * 512 - 1024) (length content - 2) (omega arith) in
      let kept_back : 1 ≤ times ((length content - 2) / per) reserved = stands_once ((length content - 2) / per) reserved
      (Contains-append_right (range_with_len 0 (parts_for 1536 head.block_size)) (range_with_len ((length content * 512 - 1024) / head.block_size) (head.total_blocks - (length content * 512 - 1024) / head.block_size)) ((length content - 2) / per)
      (in_range ((length content * 512 - 1024) / head.block_size) (head.total_blocks - (length content * 512 - 1024) / head.block_size) ((length content - 2) / per) first (omega (arith, first, below)))) in
      let used : 1 ≤ times ((length content - 2) / per) in_special = stands_once ((length content - 2) / per) in_special
      (flat_stands (blocks_owned (overflow_of_content content)) (special_forks (header_of_volume content)) (record { id = id; kind = data_kind; fork = fork }) ((length content - 2) / per) stands (in_block per (blocks_at id fork) (length content - 2) geometry_of.some has)) in
      omega (arith, kept_back, used, counted ((length content - 2) / per))

  -- the sectors of the alternate header and of the info block are none of the volume's own
  pub aside_apart : (at : ℕ) → (at ≡ length content - 2) ⊎ (at ≡ info_sector_of (header_of_volume content)) → Contains (own_sectors_in content) at → ⊥
  aside_apart at (inl last) has = elim (first_or_later 2 at files_of has) [
    | inl is ↦ omega (arith, is, last, geometry_of.large)
    | inr files ↦ each_file ⊥ at (λ id fork stands there. last_in id fork stands (subst (λ n. Contains (sectors_at id fork) n) last there)) files
  ]
  aside_apart at (inr info) has = journal_apart at (inr info) has
