-- Values of attributes that changed, with blocks that were taken and given back, and the mark on their owner: what the laws of `setattr` and `delattr` ask for, and
-- what the content has then.
use Rattle.std.proofs.Common.{◌≡◌, ◌≢◌, ◌⊎◌, inl, inr, ◌<◌, ◌≤◌, ℕ, ◌+◌, ◌-◌, ◌*◌, ◌/◌, ◌++◌, Bool, true, false, List, [], ◌∷◌, length, refl, sym, ◌∙◌, ap, subst, arith, ⊎_elim}
use Rattle.std.specs.Prelude.{Contains, IsTrue, Some, if◌then◌else◌}
use Rattle.alloc_bitmap.specs.Map.{BlockMap}
use Rattle.alloc_bitmap.specs.Apart.{times}
use Rattle.alloc_bitmap.proofs.ApartLaws.{times-append}
use Rattle.btree_file.specs.State.{sectors_of_tree}
use Rattle.btree_node.specs.Levels.{Pair}
use Rattle.catalog.specs.Entries.{UpdatesEntry}
use Rattle.catalog.specs.Pairs.{value_at}
use Rattle.fork_map.specs.Blocks.{blocks_of, sectors_of}
use Rattle.hfs_volume.specs.Changes.{AreSortedAttributes, FlipsBits, HasSameNodes, InValues}
use Rattle.hfs_volume.specs.Blocks.{used_in}
use Rattle.hfs_volume.specs.Commands.{ChangesFields, IsMarkedAlone}
use Rattle.hfs_volume.specs.Content.{VolumeState, has_attributes, records_of, volume_of}
use Rattle.hfs_volume.specs.Data.{AreFresh}
use Rattle.hfs_volume.specs.Forks.{per_block_of}
use Rattle.hfs_volume.specs.Laws.{SoundIsBoth}
use Rattle.hfs_volume.specs.Links.{private_id}
use Rattle.hfs_volume.specs.Records.{id_in, is_thread, placed_in}
use Rattle.hfs_volume.specs.Sound.{IsSoundVolume}
use Rattle.hfs_volume.specs.TreeOf.{bytes_in, tree_in, tree_of}
use Rattle.hfs_volume.proofs.Telling.{private_after_fields}
use Rattle.jnl_format.specs.Recovery.{header_of_volume}
use Rattle.sector_disk.specs.Lists.{Content, sector}
use Rattle.sector_disk.specs.Space.{Space}
use Rattle.volume_header.specs.declared.header.VolumeHeader.{VolumeHeader}
use Rattle.volume_base.specs.Attributing.{ChangesAttributes, MarksEntry}
use Rattle.volume_base.specs.Giving.{with_free_count}
use Rattle.volume_base.specs.Lists.{bits_on, facts_on, lists_of}
use Rattle.volume_base.specs.Mapping.{HoldsMap}
use Rattle.volume_base.specs.Standing.{IsSettled, IsStanding, attribute_sectors, file_sectors, map_sectors}
use Rattle.volume_base.specs.declared.entries.Entry.{Entry}
use Rattle.volume_base.specs.declared.volume.Tree.{Tree}
use Rattle.volume_base.specs.declared.volume.Volume.{Volume}
use Rattle.volume_base.proofs.CatalogEdited.{there_is}
use Rattle.volume_base.proofs.FilesKept.{allocation_sectors, attributes_sectors, catalog_sectors, tree_stays_used}
use Rattle.volume_base.proofs.MapBits.{bit_elsewhere, bits_read}
use Rattle.volume_base.proofs.Marked.{changes_mark}
use Rattle.volume_base.proofs.OwnedChange.{lists_now}
use Rattle.volume_base.proofs.Placing.{stands_once}
use Rattle.volume_base.proofs.Resettling.{bits_at, lists_anew, settles}
use Rattle.volume_base.proofs.TreesSettled.{header_settled}

module _ (Does : List Pair → List Pair → Type 0) (u : Volume) (m0 m : BlockMap) (t : Tree) (n : ℕ) (a : Space) (first middle last : Content) where
  -- the volume whose bitmap in memory knows the blocks that were taken, and behind the change of the attributes and of the blocks
  abbrev pub spilled_volume : Volume
  spilled_volume = record u { map = m0 }

  abbrev pub valued_volume : Volume
  valued_volume = record u { map = m0; attributes = t }

  abbrev pub traded_volume : Volume
  traded_volume = record u { map = m; header = with_free_count n u.header; attributes = t }

  -- the lists behind them
  abbrev pub valued_lists : VolumeState
  valued_lists = record (lists_of u a.content) {
    head = with_free_count n u.header;
    attribute_pairs = (lists_of traded_volume last).attribute_pairs;
    attributes_tree = facts_on t.file;
    bits = bits_on traded_volume;
  }

  module _ (ch : ChangesAttributes Does spilled_volume valued_volume first middle) (spilled : lists_of spilled_volume first ≡ record (lists_of u a.content) { bits = bits_on spilled_volume }) (put : lists_of traded_volume last ≡ lists_of traded_volume middle) where
    pub lists_valued : lists_of traded_volume last ≡ valued_lists
    lists_valued =
        put
        ∙ (λ i. record (ch.changes.lists i) { head = with_free_count n u.header; bits = bits_on traded_volume })
        ∙ (λ i. record (spilled i) {
          head = with_free_count n u.header;
          catalog_pairs = (ch.catalog ∙ ap (λ (l : VolumeState). l.catalog_pairs) spilled) i;
          catalog_tree = facts_on u.catalog.file;
          attribute_pairs = (sym (ap (λ (l : VolumeState). l.attribute_pairs) put)) i;
          attributes_tree = facts_on t.file;
          bits = bits_on traded_volume;
        })

    pairs_before : (lists_of spilled_volume first).attribute_pairs ≡ (lists_of u a.content).attribute_pairs
    pairs_before = ap (λ (l : VolumeState). l.attribute_pairs) spilled

    pairs_after : (lists_of valued_volume middle).attribute_pairs ≡ (lists_of traded_volume last).attribute_pairs
    pairs_after = sym (ap (λ (l : VolumeState). l.attribute_pairs) put)

    pub does_valued : Does (lists_of u a.content).attribute_pairs (lists_of traded_volume last).attribute_pairs
    does_valued = subst (λ (k : List Pair × List Pair). Does k.0 k.1) {x = ((lists_of spilled_volume first).attribute_pairs, (lists_of valued_volume middle).attribute_pairs)} {y = ((lists_of u a.content).attribute_pairs, (lists_of traded_volume last).attribute_pairs)}
        (λ i. (pairs_before i, pairs_after i)) ch.does

    pub sorted_valued : AreSortedAttributes (lists_of traded_volume last).attribute_pairs
    sorted_valued = subst AreSortedAttributes pairs_after ch.sorted

    pub nodes_valued : HasSameNodes (lists_of u a.content).attributes_tree (facts_on t.file)
    nodes_valued = record { total = ch.changes.attributes.total; size = ch.changes.attributes.node_size }

    -- what the laws call such a change
    module _ (fresh freed : List ℕ) (are_fresh : AreFresh (lists_of u a.content) fresh) (flips : FlipsBits fresh freed (lists_of u a.content) (record (lists_of u a.content) { bits = bits_on traded_volume }))
        (counts : n + length fresh ≡ u.header.free_blocks + length freed)
      where
        pub in_values : InValues Does fresh freed (lists_of u a.content) valued_lists
        in_values = record {
          changes = does_valued;
          are_fresh = are_fresh;
          flips = record { size = flips.size; taken = flips.taken; given = flips.given; others = flips.others };
          nodes = nodes_valued;
          free = n;
          next = u.header.next_allocation;
          counts = counts;
          rest = refl;
        }

    -- ---- and the owner is marked

    module _ (x : Volume) (c : Space) (flag : Bool) (entry : Entry) (marks : MarksEntry flag u.header.modify_date entry traded_volume x last c.content) (there : value_at (lists_of u a.content).catalog_pairs entry.parent entry.name ≡ Some entry.rec) (kind : is_thread entry.rec ≡ false) where
      header_same : x.header ≡ with_free_count n u.header
      header_same = ap (λ (y : Volume). y.header) marks.replaces.rest

      pub lists_marked : lists_of x c.content ≡ record valued_lists { catalog_pairs = (lists_of x c.content).catalog_pairs; catalog_tree = facts_on x.catalog.file }
      lists_marked = marks.replaces.changes.lists ∙ (λ i. record (lists_valued i) { head = header_same i; catalog_pairs = (lists_of x c.content).catalog_pairs; catalog_tree = facts_on x.catalog.file })

      pairs_same : (lists_of traded_volume last).catalog_pairs ≡ (lists_of u a.content).catalog_pairs
      pairs_same = ap (λ (l : VolumeState). l.catalog_pairs) lists_valued

      updates : UpdatesEntry entry.parent entry.name marks.rec (lists_of u a.content).catalog_pairs (lists_of x c.content).catalog_pairs
      updates = subst (λ (l : List Pair). UpdatesEntry entry.parent entry.name marks.rec l (lists_of x c.content).catalog_pairs) pairs_same marks.replaces.updates

      catalog_nodes : HasSameNodes (lists_of u a.content).catalog_tree (facts_on x.catalog.file)
      catalog_nodes = record { total = marks.replaces.changes.nodes.0; size = marks.replaces.changes.nodes.1 }

      pub marked : ChangesFields (id_in entry.rec) (IsMarkedAlone u.header.modify_date) valued_lists (lists_of x c.content)
      marked = changes_mark flag u.header.modify_date entry.parent entry.name entry.rec marks.rec valued_lists (lists_of x c.content) updates catalog_nodes lists_marked there marks.made kind

      -- ---- the content then

      module _ (halves : (volume : VolumeState) → SoundIsBoth volume) (settled : IsSettled u a.content) (was : IsStanding u a) (stands : IsStanding x c) (has : IsTrue (has_attributes u.header)) (holds : HoldsMap traded_volume last)
          (headed : header_of_volume last ≡ with_free_count n u.header)
          (outside : (s : ℕ) → s ≢ 2 → (Contains (sectors_of_tree u.catalog.file) s → ⊥) → (Contains (attribute_sectors u) s → ⊥) → (Contains (map_sectors u) s → ⊥) → Contains (used_in (lists_of u a.content)) (s / per_block_of u.header) → sector last s ≡ sector a.content s)
        where
          pub now : volume_of a.content ≡ lists_of u a.content
          now = lists_now u a.content settled has

          pub sound_before : IsSoundVolume (lists_of u a.content)
          sound_before = subst IsSoundVolume now settled.sound

          headed_end : header_of_volume c.content ≡ x.header
          headed_end = marks.replaces.headed ∙ headed ∙ sym header_same

          has_end : IsTrue (has_attributes x.header)
          has_end = subst (λ (h : VolumeHeader). IsTrue (has_attributes h)) (sym header_same) has

          -- the bitmap is as it was put
          map_same : map_sectors x ≡ map_sectors traded_volume
          map_same = ap (λ (y : Volume). map_sectors y) marks.replaces.rest

          once : (s : ℕ) → Contains (map_sectors x) s → (s ≡ 2) ⊎ Contains (sectors_of_tree x.catalog.file) s → ⊥
          once s here (inl two) =
              omega (
                arith,
                stands.apart s,
                times-append s (2 ∷ []) (file_sectors x),
                times-append s (sectors_of_tree x.extents.file) (sectors_of_tree x.catalog.file ++ (attribute_sectors x ++ map_sectors x)),
                times-append s (sectors_of_tree x.catalog.file) (attribute_sectors x ++ map_sectors x),
                times-append s (attribute_sectors x) (map_sectors x),
                stands_once s (map_sectors x) here,
                stands_once s (2 ∷ []) (0, omega arith, sym two),
              )
          once s here (inr there) =
              omega (
                arith,
                stands.apart s,
                times-append s (2 ∷ []) (file_sectors x),
                times-append s (sectors_of_tree x.extents.file) (sectors_of_tree x.catalog.file ++ (attribute_sectors x ++ map_sectors x)),
                times-append s (sectors_of_tree x.catalog.file) (attribute_sectors x ++ map_sectors x),
                times-append s (attribute_sectors x) (map_sectors x),
                stands_once s (map_sectors x) here,
                stands_once s (sectors_of_tree x.catalog.file) there,
              )

          map_stays : (s : ℕ) → Contains (map_sectors x) s → sector c.content s ≡ sector last s
          map_stays s here = ⊎_elim
              (λ same. same)
              (λ other. absurd (once s here (⊎_elim (λ two. inl two) (λ there. inr (subst (λ (l : List ℕ). Contains l s) (sym marks.replaces.changes.catalog) there)) other)))
              (marks.replaces.changes.outside.each s)

          holds_end : HoldsMap x c.content
          holds_end = subst (λ (y : Volume). HoldsMap y c.content) (sym marks.replaces.rest)
              (λ k low. bit_elsewhere (map_sectors traded_volume) last c.content (λ s here. map_stays s (subst (λ (l : List ℕ). Contains l s) (sym map_same) here)) k ∙ holds k low)

          fits : length x.map.used ≤ 8 * x.header.allocation_fork.logical_size
          fits = omega (arith, stands.blocks, sound_before.blocks.files.bits, ap (λ (h : VolumeHeader). h.total_blocks) header_same, ap (λ (h : VolumeHeader). h.allocation_fork.logical_size) header_same)

          bits : bits_at c.content x ≡ bits_on x
          bits = bits_read x c stands headed_end fits holds_end

          -- the private folder is still the one that is kept
          private : private_id (placed_in (lists_of x c.content).catalog_pairs) ≡ private_id (placed_in (lists_of u a.content).catalog_pairs)
          private =
              private_after_fields (id_in entry.rec) (lists_of u a.content) (record (lists_of u a.content) { catalog_pairs = (lists_of x c.content).catalog_pairs; catalog_tree = facts_on x.catalog.file })
              (changes_mark flag u.header.modify_date entry.parent entry.name entry.rec marks.rec (lists_of u a.content) (record (lists_of u a.content) { catalog_pairs = (lists_of x c.content).catalog_pairs; catalog_tree = facts_on x.catalog.file }) updates catalog_nodes refl there marks.made kind)
              ((halves (lists_of u a.content)).0 sound_before).0

          -- what files and values had before they have by the new content, too
          agrees : (s : ℕ) → s ≢ 2 → (Contains (catalog_sectors (lists_of u a.content)) s → ⊥) → (Contains (attributes_sectors (lists_of u a.content)) s → ⊥) → (Contains (allocation_sectors (lists_of u a.content)) s → ⊥)
              → Contains (used_in (lists_of u a.content)) (s / per_block_of u.header) → sector c.content s ≡ sector a.content s
          agrees s differs no_catalog no_attributes no_map used =
              let in_catalog : Contains (sectors_of_tree u.catalog.file) s → ⊥ = λ here. no_catalog (subst (λ (l : List ℕ). Contains l s) (λ i. sectors_of (was.forks.catalog_per i) (blocks_of (was.forks.catalog i))) here) in
              let in_attributes : Contains (attribute_sectors u) s → ⊥ = λ here. no_attributes (subst (λ (l : List ℕ). Contains l s)
              (there_is (has_attributes u.header) (sectors_of_tree u.attributes.file) has ∙ (λ i. sectors_of (was.forks.attributes_per has i) (blocks_of (was.forks.attributes has i)))) here) in
              let in_map : Contains (map_sectors u) s → ⊥ = λ here. no_map (subst (λ (l : List ℕ). Contains l s) (λ i. sectors_of (was.forks.map_per i) (blocks_of (was.forks.map i))) here) in
              ⊎_elim (λ same. same) (λ other. absurd (⊎_elim (λ two. differs two) (λ here. in_catalog here) other)) (marks.replaces.changes.outside.each s)
              ∙ outside s differs in_catalog in_attributes in_map used

          pub stays : tree_in (lists_of u a.content) (bytes_in c.content) ≡ tree_of a.content
          unfolding tree_of
          stays =
              tree_stays_used (lists_of u a.content) sound_before a.content c.content
              (record {
                overflow = ap (λ (l : VolumeState). l.overflow_pairs) now;
                total = ap (λ (h : VolumeHeader). h.total_blocks) (header_settled u a.content settled);
                block = ap (λ (h : VolumeHeader). h.block_size) (header_settled u a.content settled);
              })
              (record {
                overflow = ap (λ (l : VolumeState). l.overflow_pairs) (lists_anew x c stands headed_end bits) ∙ ap (λ (l : VolumeState). l.overflow_pairs) lists_marked;
                total = ap (λ (h : VolumeHeader). h.total_blocks) (headed_end ∙ header_same);
                block = ap (λ (h : VolumeHeader). h.block_size) (headed_end ∙ header_same);
              })
              agrees
              ∙ ap (λ (l : VolumeState). tree_in l (bytes_in a.content)) (sym now)

          module _ (sound : IsSoundVolume (lists_of x c.content)) where
            pub settled_end : IsSettled x c.content
            settled_end = settles x c stands headed_end bits (facts_on x.attributes.file) (λ is. refl) sound
                (ap (λ (y : Volume). y.private) marks.replaces.rest ∙ settled.private ∙ ap (λ (l : VolumeState). private_id (placed_in l.catalog_pairs)) now ∙ sym private)

            pub volume_end : volume_of c.content ≡ lists_of x c.content
            volume_end = lists_now x c.content settled_end has_end

            pub tree_end : tree_of c.content ≡ tree_in (lists_of x c.content) (bytes_in c.content)
            unfolding tree_of
            tree_end = ap (λ (l : VolumeState). tree_in l (bytes_in c.content)) volume_end
