-- A volume whose attributes that pass a test are gone, and the blocks of whose values were given back, is settled again once bitmap and header are put.
use Rattle.std.proofs.Common.{◌≡◌, ◌≢◌, ◌⊎◌, ◌≤◌, ◌<◌, ℕ, ◌+◌, ◌*◌, ◌++◌, ◌==◌, Bool, true, false, not, List, [], ◌∷◌, length, map, refl, sym, ◌∙◌, ap, subst, arith, ⊎_elim}
use Rattle.std.specs.Prelude.{Contains, IsTrue, if◌then◌else◌}
use Rattle.std.specs.List.{flat_map}
use Rattle.std.proofs.lemmas.Bool.{eqb-true, true≢false}
use Rattle.alloc_bitmap.specs.Apart.{AreApart, times}
use Rattle.alloc_bitmap.specs.Map.{BlockMap, unused_of}
use Rattle.alloc_bitmap.proofs.ApartLaws.{times-append}
use Rattle.btree_file.specs.State.{sectors_of_tree}
use Rattle.btree_node.specs.Levels.{Pair}
use Rattle.file_io.specs.Places.{AreUsed, given}
use Rattle.flag_rows.specs.Bits.{count_set}
use Rattle.fork_map.specs.Blocks.{blocks_of, sectors_of}
use Rattle.hx_bytes.specs.declared.extents.Extent.{Extent}
use Rattle.hfs_model.specs.Sorted.{kept}
use Rattle.hfs_volume.specs.Changes.{FlipsBits, InValues}
use Rattle.hfs_volume.specs.Content.{VolumeState, attributes_of, has_attributes, records_of, volume_of}
use Rattle.hfs_volume.specs.Links.{private_id}
use Rattle.hfs_volume.specs.Records.{attribute_of, placed_in}
use Rattle.hfs_volume.specs.Sound.{IsSoundVolume}
use Rattle.hfs_volume.specs.TreeOf.{bytes_in, tree_in, tree_of}
use Rattle.hfs_volume.specs.Values.{blocks_of_values, used_extents}
use Rattle.hfs_volume.proofs.Members.{all_of, kept_cases}
use Rattle.hfs_volume.proofs.PutValues.{bared_sound}
use Rattle.hfs_volume.proofs.Reaching.{flat_cases, flat_stands}
use Rattle.hfs_volume.proofs.ValueTrades.{blocks_split}
use Rattle.jnl_format.specs.Recovery.{header_of_volume}
use Rattle.sector_disk.specs.Lists.{Content, sector}
use Rattle.sector_disk.specs.Space.{Space}
use Rattle.volume_header.specs.declared.header.VolumeHeader.{VolumeHeader}
use Rattle.volume_base.specs.Attributing.{ChangesAttributes}
use Rattle.volume_base.specs.Giving.{PutsCounted, PutsTraded, counted_anew, is_trade, traded, with_free_count}
use Rattle.volume_base.specs.Lists.{bits_on, facts_on, lists_of}
use Rattle.volume_base.specs.Mapping.{HoldsMap, HoldsUnchanged}
use Rattle.volume_base.specs.Standing.{IsSettled, IsStanding, attribute_sectors, file_sectors, map_sectors}
use Rattle.volume_base.specs.declared.volume.Tree.{Tree}
use Rattle.volume_base.specs.declared.volume.Volume.{Volume}
use Rattle.volume_base.proofs.FilesKept.{allocation_sectors, attributes_sectors, catalog_sectors, tree_stays_used}
use Rattle.volume_base.proofs.GivenBits.{count_given, flips_given}
use Rattle.volume_base.proofs.MapBits.{bit_elsewhere, bits_hold, bits_read}
use Rattle.volume_base.proofs.OwnedChange.{lists_now}
use Rattle.volume_base.proofs.Placing.{stands_once}
use Rattle.volume_base.proofs.Resettling.{bits_at, bits_here, settles}
use Rattle.volume_base.proofs.TreesSettled.{header_settled}
use Rattle.volume_base.proofs.ValueFreed.{free_counted, values_apart, values_used}

-- the attributes whose CNID and name pass a test aren't there any more, and all others are
abbrev pub Drops : (ℕ → List ℕ → Bool) → List Pair → List Pair → Type 0
Drops gone before after = after ≡ kept (λ pair. not (gone (attribute_of pair).id (attribute_of pair).name)) before

-- the blocks of their values
abbrev pub blocks_gone : (ℕ → List ℕ → Bool) → VolumeState → List ℕ
blocks_gone gone volume = blocks_of_values (kept (λ record_. gone record_.id record_.name) (attributes_of volume))

-- What the content has then: the law's change, and the tree of the lists by the bytes as they were.
pub record IsGiven (gone : ℕ → List ℕ → Bool) (freed : List ℕ) (x : Volume) (before after : Content) : Type 0 where
  pub settled : IsSettled x after
  pub values : InValues (Drops gone) [] freed (volume_of before) (volume_of after)
  pub tree : tree_of after ≡ tree_in (volume_of after) (bytes_in before)

-- a sector of the bitmap is neither the header's nor one of the trees'
pub map_off : (v : Volume) (a : Space) → IsStanding v a → (s : ℕ) → Contains (map_sectors v) s → (s ≢ 2) × (Contains (sectors_of_tree v.catalog.file) s → ⊥) × (Contains (attribute_sectors v) s → ⊥)
map_off v a was s has = (
  λ two. omega (arith, counted, stands_once s (map_sectors v) has, stands_once s (2 ∷ []) (0, omega arith, sym two)),
  λ other. omega (arith, counted, stands_once s (map_sectors v) has, stands_once s (sectors_of_tree v.catalog.file) other),
  λ other. omega (arith, counted, stands_once s (map_sectors v) has, stands_once s (attribute_sectors v) other),
)
  where
    counted : times s (2 ∷ []) + (times s (sectors_of_tree v.extents.file) + (times s (sectors_of_tree v.catalog.file) + (times s (attribute_sectors v) + times s (map_sectors v)))) ≤ 1
    counted = omega (
      arith,
      was.apart s,
      times-append s (2 ∷ []) (file_sectors v),
      times-append s (sectors_of_tree v.extents.file) (sectors_of_tree v.catalog.file ++ (attribute_sectors v ++ map_sectors v)),
      times-append s (sectors_of_tree v.catalog.file) (attribute_sectors v ++ map_sectors v),
      times-append s (attribute_sectors v) (map_sectors v),
    )

-- ---- the bits that a settled content has

module _ (u : Volume) (a : Space) (settled : IsSettled u a.content) (was : IsStanding u a) where
  -- the bitmap has room for the bits of all blocks
  pub fits_there : length u.map.used ≤ 8 * u.header.allocation_fork.logical_size
  fits_there = omega (
    arith,
    settled.blocks,
    settled.sound.blocks.files.bits,
    ap (λ (l : VolumeState). l.head.total_blocks) settled.lists,
    ap (λ (l : VolumeState). l.head.allocation_fork.logical_size) settled.lists,
  )

  pub holds_settled : HoldsMap u a.content
  holds_settled = bits_hold u a was (header_settled u a.content settled) fits_there (sym (bits_here u a was (header_settled u a.content settled)) ∙ ap (λ (l : VolumeState). l.bits) settled.lists)

  -- and behind a change of the attributes alone
  pub holds_bared : {Does : List Pair → List Pair → Type 0} (t : Tree) (b : Space) → ChangesAttributes Does u (record u { attributes = t }) a.content b.content → HoldsMap (record u { attributes = t }) b.content
  holds_bared {Does} t b ch k low = bit_elsewhere (map_sectors u) a.content b.content same k ∙ holds_settled k low
    where
      same : (s : ℕ) → Contains (map_sectors u) s → sector b.content s ≡ sector a.content s
      same s has =
          let off = map_off u a was s has in
          ⊎_elim (λ is. is) (λ other. absurd (⊎_elim off.0 (λ tree. ⊎_elim off.1 off.2 tree) other)) (ch.changes.outside.each s)

  pub unchanged_bared : {Does : List Pair → List Pair → Type 0} (w : Volume) (b : Space) → w ≡ record u { attributes = w.attributes } → ChangesAttributes Does u w a.content b.content → HoldsUnchanged w b.content
  unchanged_bared {Does} w b rest ch =
      let holds = holds_bared {Does = Does} w.attributes b (subst (λ (y : Volume). ChangesAttributes Does u y a.content b.content) rest ch) in
      subst (λ (y : Volume). HoldsUnchanged y b.content) (sym rest) (λ k low same. holds k low)

-- ---- behind bitmap and header

module _ (gone : ℕ → List ℕ → Bool) (u : Volume) (m : BlockMap) (t : Tree) (n : ℕ) (freed : List ℕ) (a b c : Space) (settled : IsSettled u a.content) (was : IsStanding u a) (has : IsTrue (has_attributes u.header))
    (ch : ChangesAttributes (Drops gone) u (record u { attributes = t }) a.content b.content)
    (stands : IsStanding (record u { map = m; header = with_free_count n u.header; attributes = t }) c)
    (freed_is : freed ≡ blocks_gone gone (volume_of a.content))
    (flips : FlipsBits [] freed (lists_of u a.content) (record (lists_of u a.content) { bits = bits_on (record u { map = m; header = with_free_count n u.header; attributes = t }) }))
    (counts : n ≡ u.header.free_blocks + length freed)
    (holds : HoldsMap (record u { map = m; header = with_free_count n u.header; attributes = t }) c.content)
    (headed : header_of_volume c.content ≡ with_free_count n u.header)
    (put : lists_of (record u { map = m; header = with_free_count n u.header; attributes = t }) c.content ≡ lists_of (record u { map = m; header = with_free_count n u.header; attributes = t }) b.content)
    (outside : (s : ℕ) → s ≢ 2 → (Contains (map_sectors (record u { map = m; header = with_free_count n u.header; attributes = t })) s → ⊥) → sector c.content s ≡ sector b.content s)
  where
    abbrev w : Volume
    w = record u { map = m; header = with_free_count n u.header; attributes = t }

    -- the lists that it leads to
    abbrev bared : VolumeState
    bared = record (lists_of u a.content) { head = with_free_count n u.header; attribute_pairs = (lists_of w c.content).attribute_pairs; attributes_tree = facts_on t.file; bits = bits_on w }

    lists_are : lists_of w c.content ≡ bared
    lists_are =
        put
        ∙ (λ i. record (ch.changes.lists i) { head = with_free_count n u.header; bits = bits_on w })
        ∙ (λ i. record (lists_of u a.content) {
          head = with_free_count n u.header;
          catalog_pairs = ch.catalog i;
          attribute_pairs = (sym (ap (λ (l : VolumeState). l.attribute_pairs) put)) i;
          attributes_tree = facts_on t.file;
          bits = bits_on w;
        })

    now : volume_of a.content ≡ lists_of u a.content
    now = lists_now u a.content settled has

    drops : bared.attribute_pairs ≡ kept (λ pair. not (gone (attribute_of pair).id (attribute_of pair).name)) (lists_of u a.content).attribute_pairs
    drops = ap (λ (l : VolumeState). l.attribute_pairs) put ∙ ch.does

    values_of_lists : InValues (Drops gone) [] freed (lists_of u a.content) bared
    values_of_lists = record {
      changes = drops;
      are_fresh = record { inside = λ k d low. absurd (omega (arith, low)); free = λ k d low. absurd (omega (arith, low)); once = λ block. omega arith };
      flips = record { size = flips.size; taken = flips.taken; given = flips.given; others = flips.others };
      nodes = record { total = ch.changes.attributes.total; size = ch.changes.attributes.node_size };
      free = n;
      next = u.header.next_allocation;
      counts = omega (arith, counts);
      rest = refl;
    }

    sound : IsSoundVolume bared
    sound = bared_sound gone freed (lists_of u a.content) bared (freed_is ∙ ap (blocks_gone gone) now) values_of_lists (subst IsSoundVolume now settled.sound)

    fits : length m.used ≤ 8 * u.header.allocation_fork.logical_size
    fits = omega (arith, stands.blocks, settled.blocks, fits_there u a settled was)

    bits : bits_at c.content w ≡ bits_on w
    bits = bits_read w c stands headed fits holds

    settled_now : IsSettled w c.content
    settled_now = settles w c stands headed bits (facts_on t.file) (λ told. refl) (subst IsSoundVolume (sym lists_are) sound)
        (settled.private ∙ ap (λ (l : VolumeState). private_id (records_of l)) now ∙ sym (ap (λ (l : VolumeState). private_id (placed_in l.catalog_pairs)) lists_are))

    volume_now : volume_of c.content ≡ bared
    volume_now = settled_now.lists ∙ (λ i. record (lists_of w c.content) { attributes_tree = settled_now.attributes has i }) ∙ lists_are

    -- ---- the sectors that are as they were

    catalog_are : catalog_sectors bared ≡ sectors_of_tree u.catalog.file
    catalog_are = sym ((λ i. sectors_of (stands.forks.catalog_per i) (blocks_of (stands.forks.catalog i))) ∙ ap (λ (l : VolumeState). catalog_sectors l) lists_are)

    attributes_are : attributes_sectors bared ≡ sectors_of_tree t.file
    attributes_are = sym ((λ i. sectors_of (stands.forks.attributes_per has i) (blocks_of (stands.forks.attributes has i))) ∙ ap (λ (l : VolumeState). attributes_sectors l) lists_are)

    map_is : allocation_sectors bared ≡ map_sectors w
    map_is = sym ((λ i. sectors_of (stands.forks.map_per i) (blocks_of (stands.forks.map i))) ∙ ap (λ (l : VolumeState). allocation_sectors l) lists_are)

    in_attributes : (s : ℕ) → Contains (attribute_sectors u) s → Contains (attributes_sectors bared) s
    in_attributes s here =
        subst (λ (l : List ℕ). Contains l s) (ap (λ k. if k then sectors_of_tree u.attributes.file else []) has ∙ sym ch.changes.attributes.sectors ∙ sym attributes_are) here

    same_sector : (at : ℕ) → at ≢ 2 → (Contains (catalog_sectors bared) at → ⊥) → (Contains (attributes_sectors bared) at → ⊥) → (Contains (allocation_sectors bared) at → ⊥) → sector c.content at ≡ sector a.content at
    same_sector at differs not_catalog not_attributes not_map =
        outside at differs (λ here. not_map (subst (λ (l : List ℕ). Contains l at) (sym map_is) here))
        ∙ ⊎_elim (λ is. is) (λ other. absurd (⊎_elim differs (λ tree. ⊎_elim (λ here. not_catalog (subst (λ (l : List ℕ). Contains l at) (sym catalog_are) here)) (λ here. not_attributes (in_attributes at here)) tree) other)) (ch.changes.outside.each at)

    head_was : header_of_volume a.content ≡ u.header
    head_was = header_settled u a.content settled

    tree_now : tree_of c.content ≡ tree_in (volume_of c.content) (bytes_in a.content)
    unfolding tree_of
    tree_now =
        ap (λ (l : VolumeState). tree_in l (bytes_in c.content)) volume_now
        ∙ tree_stays_used bared sound a.content c.content
        (record { overflow = ap (λ (l : VolumeState). l.overflow_pairs) now; total = ap (λ (h : VolumeHeader). h.total_blocks) head_was; block = ap (λ (h : VolumeHeader). h.block_size) head_was })
        (record { overflow = ap (λ (l : VolumeState). l.overflow_pairs) volume_now; total = ap (λ (h : VolumeHeader). h.total_blocks) headed; block = ap (λ (h : VolumeHeader). h.block_size) headed })
        (λ at differs not_catalog not_attributes not_map is_used. same_sector at differs not_catalog not_attributes not_map)
        ∙ ap (λ (l : VolumeState). tree_in l (bytes_in a.content)) (sym volume_now)

    pub is_given : IsGiven gone freed (record u { map = m; header = with_free_count n u.header; attributes = t }) a.content c.content
    is_given = record {
      settled = settled_now;
      values = subst (λ (k : VolumeState × VolumeState). InValues (Drops gone) [] freed k.0 k.1) {x = (lists_of u a.content, bared)} {y = (volume_of a.content, volume_of c.content)} (λ i. (sym now i, sym volume_now i)) values_of_lists;
      tree = tree_now;
    }

-- ---- by what the calls say

-- the blocks of values that pass a test are among all
gone_among : (gone : ℕ → List ℕ → Bool) (volume : VolumeState) (block : ℕ) → Contains (blocks_gone gone volume) block → Contains (blocks_of_values (attributes_of volume)) block
unfolding blocks_of_values
gone_among gone volume block there =
    let from = flat_cases (λ record_. blocks_of (used_extents record_)) (kept (λ record_. gone record_.id record_.name) (attributes_of volume)) block there in
    flat_stands (λ record_. blocks_of (used_extents record_)) (attributes_of volume) from.0 block (kept_cases (λ record_. gone record_.id record_.name) (attributes_of volume) from.0 from.1).0 from.2

nothing_of : (old : List Extent) → length old ≡ 0 → blocks_of old ≡ []
nothing_of [] none = refl
nothing_of (e ∷ es) none = absurd (omega (arith, none))

module _ (gone : ℕ → List ℕ → Bool) (u w : Volume) (a b : Space) (old : List Extent) (settled : IsSettled u a.content) (was : IsStanding u a) (has : IsTrue (has_attributes u.header))
    (freed_is : blocks_of old ≡ blocks_gone gone (volume_of a.content))
  where
    -- they are used, and none stands twice
    pub given_used : AreUsed u.map (blocks_of old)
    given_used = subst (AreUsed u.map) (sym freed_is) (values_used u a.content settled (blocks_gone gone (volume_of a.content)) (gone_among gone (volume_of a.content)))

    pub given_apart : AreApart (blocks_of old)
    given_apart = subst AreApart (sym freed_is) (values_apart u a.content settled (blocks_gone gone (volume_of a.content)) (λ block. omega (arith, blocks_split (λ record_. gone record_.id record_.name) (attributes_of (volume_of a.content)) block)))

    module _ (rest : w ≡ record u { attributes = w.attributes }) (ch : ChangesAttributes (Drops gone) u w a.content b.content) (x : Volume) (c : Space) (stands : IsStanding x c) (trades : x ≡ traded false old w) (put : PutsTraded false old x b.content c.content) where
      change : ChangesAttributes (Drops gone) u (record u { attributes = w.attributes }) a.content b.content
      change = subst (λ (y : Volume). ChangesAttributes (Drops gone) u y a.content b.content) rest ch

      -- blocks were given back
      some_given : is_trade false old ≡ true → IsGiven gone (blocks_of old) x a.content c.content
      some_given is =
          let counted : PutsCounted x b.content c.content = put.0 is in
          let same : x ≡ record u { map = given old u.map; header = with_free_count (count_set (unused_of (given old u.map))) u.header; attributes = w.attributes } =
          trades ∙ ap (λ k. if k then counted_anew (record w { map = given old w.map }) else w) is ∙ ap (λ (y : Volume). counted_anew (record y { map = given old y.map })) rest in
          subst (λ (y : Volume). IsGiven gone (blocks_of old) y a.content c.content) (sym same)
          (is_given gone u (given old u.map) w.attributes (count_set (unused_of (given old u.map))) (blocks_of old) a b c settled was has change
          (subst (λ (y : Volume). IsStanding y c) same stands) freed_is
          (flips_given u old given_used (lists_of u a.content) _ refl refl)
          (count_given u old given_used given_apart ∙ ap (λ k. k + length (blocks_of old)) (free_counted u a.content settled))
          (subst (λ (y : Volume). HoldsMap y c.content) same counted.holds)
          (counted.headed ∙ ap (λ (y : Volume). y.header) same)
          (subst (λ (y : Volume). lists_of y c.content ≡ lists_of y b.content) same counted.lists)
          (λ s differs not_map. ⊎_elim (λ stays. stays) (λ other. absurd (⊎_elim differs (λ here. not_map (subst (λ (y : Volume). Contains (map_sectors y) s) same here)) other)) (counted.outside.each s)))

      -- or none
      none_given : is_trade false old ≡ false → IsGiven gone (blocks_of old) x a.content c.content
      none_given is =
          let stays : c.content ≡ b.content = put.1 is in
          let same : x ≡ record u { attributes = w.attributes } = trades ∙ ap (λ k. if k then counted_anew (record w { map = given old w.map }) else w) is ∙ rest in
          let nothing : blocks_of old ≡ [] = nothing_of old (eqb-true (length old) 0 (not_not (length old == 0) is)) in
          subst (λ (y : Volume). IsGiven gone (blocks_of old) y a.content c.content) (sym same)
          (is_given gone u u.map w.attributes u.header.free_blocks (blocks_of old) a b c settled was has change
          (subst (λ (y : Volume). IsStanding y c) same stands) freed_is
          (subst (λ (l : List ℕ). FlipsBits [] l (lists_of u a.content) (record (lists_of u a.content) { bits = bits_on u })) (sym nothing) (record {
            size = refl;
            taken = λ k d low. absurd (omega (arith, low));
            given = λ k d low. absurd (omega (arith, low));
            others = λ block one other. refl;
          }))
          (omega (arith, ap (λ (l : List ℕ). length l) nothing))
          (subst (λ (k : Content). HoldsMap (record u { attributes = w.attributes }) k) (sym stays) (holds_bared u a settled was w.attributes b change))
          (ap header_of_volume stays ∙ ch.headed ∙ header_settled u a.content settled)
          (ap (lists_of (record u { attributes = w.attributes })) stays)
          (λ s differs not_map. ap (λ (k : Content). sector k s) stays))
        where
          not_not : (z : Bool) → not z ≡ false → z ≡ true
          not_not true none = refl
          not_not false none = absurd (true≢false none)

      pub all_given : IsGiven gone (blocks_of old) x a.content c.content
      all_given = by (is_trade false old) refl
        where
          by : (z : Bool) → is_trade false old ≡ z → IsGiven gone (blocks_of old) x a.content c.content
          by true is = some_given is
          by false is = none_given is
