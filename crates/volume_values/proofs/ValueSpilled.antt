-- An attribute of a volume that got a value in blocks that were free, in place of one whose blocks were given back, and whose owner was marked: the volume is settled
-- again, and its tree is the step's.
use Rattle.std.proofs.Common.{◌≡◌, ◌≢◌, ◌⊎◌, ℕ, ◌<◌, ◌≤◌, ◌*◌, ◌/◌, ◌∷◌, ◌++◌, Bool, true, false, List, [], length, refl, sym, ◌∙◌, ap, subst, arith, ⊎_elim}
use Rattle.std.specs.Prelude.{Contains, IsTrue, Some, Ok, nat_lt, take, if◌then◌else◌}
use Rattle.std.proofs.lemmas.Bool.{lt-ltb, true≢false}
use Rattle.std.proofs.lemmas.List.Elements.{Contains-append_left, Contains-append_right}
use Rattle.hx_bytes.specs.declared.extents.Extent.{Extent}
use Rattle.attributes.specs.Values.{extents_at}
use Rattle.alloc_bitmap.specs.Apart.{AreApart}
use Rattle.btree_file.specs.State.{sectors_of_tree}
use Rattle.catalog.specs.Pairs.{value_at}
use Rattle.file_io.specs.Bytes.{bytes_in as bytes_at, padded, sector_bytes}
use Rattle.file_io.specs.Places.{AreUsed, fresh_of, taken}
use Rattle.flag_rows.specs.Bits.{count_set, sectors_for}
use Rattle.alloc_bitmap.specs.Map.{BlockMap, free_of}
use Rattle.alloc_bitmap.proofs.TakeLaws.{picks_chosen}
use Rattle.fork_map.specs.Blocks.{blocks_of, sectors_of}
use Rattle.hfs_language.specs.declared.command.Command.TheVariants as command
use Rattle.hfs_model.specs.Step.{step, to_set}
use Rattle.hfs_model.specs.declared.plain.PlainNode.{PlainNode}
use Rattle.hfs_model.specs.declared.plain.PlainTree.{PlainTree}
use Rattle.hfs_volume.specs.Attributing.{SetForkDoes, SetsAttributeFork}
use Rattle.hfs_volume.specs.Blocks.{used_in}
use Rattle.hfs_volume.specs.Changes.{AreSorted, InValues, SetsFork}
use Rattle.hfs_volume.specs.Commands.{ChangesFields, IsMarkedAlone}
use Rattle.hfs_volume.specs.Content.{VolumeState, attributes_of, block_bytes, block_limit, fork_bytes, has_attributes, is_set, volume_of}
use Rattle.hfs_volume.specs.Data.{AreFresh, PutsInValues}
use Rattle.hfs_volume.specs.Forks.{in_use, parts_for, per_block_of}
use Rattle.hfs_volume.specs.Laws.{SoundIsBoth}
use Rattle.hfs_volume.specs.Records.{id_in, is_thread}
use Rattle.hfs_volume.specs.Sound.{IsSoundVolume}
use Rattle.hfs_volume.specs.TreeOf.{bytes_in, tree_in, tree_of}
use Rattle.hfs_volume.specs.Values.{longest_inline, value_blocks}
use Rattle.hfs_volume.proofs.Apart.{among}
use Rattle.hfs_volume.proofs.Bytes.{file_bytes_are}
use Rattle.hfs_volume.proofs.Flat.{flat_agree}
use Rattle.hfs_volume.proofs.Members.{each_of}
use Rattle.hfs_volume.proofs.Sectors.{in_block}
use Rattle.jnl_format.specs.Recovery.{header_of_volume}
use Rattle.sector_disk.specs.Lists.{Content, sector}
use Rattle.sector_disk.specs.Space.{Space}
use Rattle.volume_base.specs.Attributing.{ChangesAttributes, MarksEntry}
use Rattle.volume_base.specs.Giving.{with_free_count}
use Rattle.volume_base.specs.Lists.{bits_on, lists_of}
use Rattle.volume_base.specs.Standing.{IsSettled, IsStanding, attribute_sectors, map_sectors, own_sectors}
use Rattle.volume_base.specs.declared.entries.Entry.{Entry}
use Rattle.volume_base.specs.declared.volume.Tree.{Tree}
use Rattle.volume_base.specs.declared.volume.Volume.{Volume}
use Rattle.volume_header.specs.declared.header.VolumeHeader.{VolumeHeader}
use Rattle.volume_base.proofs.FileBytes.{same_bytes}
use Rattle.volume_base.proofs.GivenBits.{blocks_used}
use Rattle.volume_base.proofs.OwnedChange.{lists_now}
use Rattle.volume_base.proofs.Rising.{settled_sorted}
use Rattle.volume_base.proofs.ValueFreed.{freed_is, value_apart, value_used}
use Rattle.volume_base.proofs.ValuesChanged.{in_values, marked, settled_end, sorted_valued, sound_before, stays, tree_end, valued_lists, volume_end}
use Rattle.volume_base.proofs.TreesSettled.{header_settled}
use Rattle.volume_space.proofs.GrownFree.{below_product}
use Rattle.volume_space.proofs.SpilledBits.{fresh_are}
use Rattle.volume_values.specs.Valuing.{GivesAndMarks, PlacesInBlocks, blocks_of_new}
use Rattle.volume_values.proofs.FreshOff.{off_fresh}
use Rattle.volume_values.proofs.TradesThen.{TradesThen}
use Rattle.volume_values.proofs.TradesTaken.{placed_is, trade_taken}

module _ (law : SetForkDoes) (halves : (volume : VolumeState) → SoundIsBoth volume) (u placed x : Volume) (a c : Space) (middle : Content) (settled : IsSettled u a.content) (was : IsStanding u a) (stands : IsStanding x c) (has : IsTrue (has_attributes u.header))
    (least : 512 ≤ u.header.block_size) (marks : length u.map.changed ≡ sectors_for (length u.map.used)) (entry : Entry) (there : value_at (lists_of u a.content).catalog_pairs entry.parent entry.name ≡ Some entry.rec) (kind : is_thread entry.rec ≡ false) (id : ℕ) (number : id_in entry.rec ≡ id) (name value : List ℕ)
    (some : 0 < length name) (long : longest_inline < length value) (enough : blocks_of_new u (length value) ≤ count_set (free_of u.map))
    (path : List (List ℕ)) (node : PlainNode) (found : to_set (tree_of a.content) path value ≡ Ok node) (same : node.id ≡ id)
    (puts : PlacesInBlocks id name value u placed a.content middle) (behind : GivesAndMarks true true (extents_at (lists_of u a.content).attribute_pairs id name) entry u.header.modify_date placed x middle c.content)
  where
    used : AreUsed u.map (blocks_of (extents_at (lists_of u a.content).attribute_pairs id name))
    used = subst (λ (l : List ℕ). AreUsed u.map l) (sym (freed_is u a.content settled id name)) (value_used u a.content settled id name)

    apart : AreApart (blocks_of (extents_at (lists_of u a.content).attribute_pairs id name))
    apart = subst AreApart (sym (freed_is u a.content settled id name)) (value_apart u a.content settled id name)

    trades : TradesThen (blocks_of (fresh_of u.map (blocks_of_new u (length value)))) (extents_at (lists_of u a.content).attribute_pairs id name) u placed.attributes behind.between a.content middle behind.middle
    trades = trade_taken (SetsFork id name (length value) (in_use puts.fork)) (extents_at (lists_of u a.content).attribute_pairs id name) (blocks_of_new u (length value)) u puts.spilled placed behind.between a puts.middle middle behind.middle was settled marks enough used apart puts.takes puts.sets behind.gives behind.puts

    whole_placed : placed ≡ record u { map = taken (blocks_of_new u (length value)) u.map; attributes = placed.attributes }
    whole_placed = placed_is (SetsFork id name (length value) (in_use puts.fork)) (extents_at (lists_of u a.content).attribute_pairs id name) (blocks_of_new u (length value)) u puts.spilled placed behind.between a puts.middle middle behind.middle was settled marks enough used apart puts.takes puts.sets behind.gives behind.puts

    sets : ChangesAttributes (SetsFork id name (length value) (in_use puts.fork)) (record u { map = taken (blocks_of_new u (length value)) u.map }) (record u { map = taken (blocks_of_new u (length value)) u.map; attributes = placed.attributes }) puts.middle middle
    sets = subst (λ (k : Volume × Volume). ChangesAttributes (SetsFork id name (length value) (in_use puts.fork)) k.0 k.1 puts.middle middle) {x = (puts.spilled, placed)} (λ i. (puts.takes i, whole_placed i)) puts.sets

    spilled_lists : lists_of (record u { map = taken (blocks_of_new u (length value)) u.map }) puts.middle ≡ record (lists_of u a.content) { bits = bits_on (record u { map = taken (blocks_of_new u (length value)) u.map }) }
    spilled_lists = subst (λ (y : Volume). lists_of y puts.middle ≡ record (lists_of u a.content) { bits = bits_on y }) puts.takes puts.lists

    behind_marks : MarksEntry true u.header.modify_date entry (record u { map = trades.m; header = with_free_count trades.n u.header; attributes = placed.attributes }) x behind.middle c.content
    behind_marks = subst (λ (y : Volume). MarksEntry true u.header.modify_date entry y x behind.middle c.content) trades.is behind.marks

    now : volume_of a.content ≡ lists_of u a.content
    now = lists_now u a.content settled has

    -- ---- the blocks that were taken

    fresh_there : AreFresh (lists_of u a.content) (blocks_of (fresh_of u.map (blocks_of_new u (length value))))
    fresh_there = subst (λ (l : VolumeState). AreFresh l (blocks_of (fresh_of u.map (blocks_of_new u (length value))))) now (fresh_are u a was settled (blocks_of_new u (length value)) enough)

    fresh_low : (block : ℕ) → Contains (blocks_of (fresh_of u.map (blocks_of_new u (length value)))) block → block < u.header.total_blocks
    fresh_low block here = each_of (λ (k : ℕ). k < u.header.total_blocks) (blocks_of (fresh_of u.map (blocks_of_new u (length value)))) fresh_there.inside block here

    -- none is in use
    fresh_unused : (block : ℕ) → Contains (blocks_of (fresh_of u.map (blocks_of_new u (length value)))) block → Contains (used_in (lists_of u a.content)) block → ⊥
    fresh_unused block here in_use_too =
        let sound : IsSoundVolume (lists_of u a.content) = subst IsSoundVolume now settled.sound in
        true≢false (sym (sound.blocks.bits.bits block (fresh_low block here) ∙ among (used_in (lists_of u a.content)) block in_use_too) ∙ each_of (λ (k : ℕ). is_set (lists_of u a.content) k ≡ false) (blocks_of (fresh_of u.map (blocks_of_new u (length value)))) fresh_there.free block here)

    -- and none is one of the volume's own
    fresh_off : (s : ℕ) → Contains (sectors_of (per_block_of u.header) (blocks_of (fresh_of u.map (blocks_of_new u (length value))))) s → Contains (own_sectors u) s → ⊥
    fresh_off s here own = off_fresh u a was settled (blocks_of_new u (length value)) enough s here own

    per_some : 0 < per_block_of u.header
    per_some = omega (arith, least)

    fresh_block : (s : ℕ) → Contains (sectors_of (per_block_of u.header) (blocks_of (fresh_of u.map (blocks_of_new u (length value))))) s → Contains (blocks_of (fresh_of u.map (blocks_of_new u (length value)))) (s / per_block_of u.header)
    fresh_block s here = in_block (per_block_of u.header) (blocks_of (fresh_of u.map (blocks_of_new u (length value)))) s per_some here

    many_is : (blocks_of_new u (length value)) ≡ parts_for (length value) u.header.block_size
    many_is = ap (λ b. if b then parts_for (length value) u.header.block_size else 0) (lt-ltb longest_inline (length value) long)

    blocks_are : blocks_of (in_use puts.fork) ≡ blocks_of (fresh_of u.map (blocks_of_new u (length value)))
    blocks_are = blocks_used puts.fork ∙ puts.blocks

    -- ---- what the content has of them

    outside : (s : ℕ) → s ≢ 2 → (Contains (sectors_of_tree u.catalog.file) s → ⊥) → (Contains (attribute_sectors u) s → ⊥) → (Contains (map_sectors u) s → ⊥) → Contains (used_in (lists_of u a.content)) (s / per_block_of u.header) → sector behind.middle s ≡ sector a.content s
    outside s differs off_catalog off_attributes off_map used_too =
        trades.outside s differs off_map
        ∙ ⊎_elim (λ as_was. as_was) (λ here. absurd (⊎_elim (λ two. differs two) (λ one. ⊎_elim (λ l. off_catalog l) (λ r. off_attributes r) one) here)) (sets.changes.outside.each s)
        ∙ ⊎_elim (λ as_was. as_was) (λ here. absurd (fresh_unused (s / per_block_of u.header) (fresh_block s here) used_too)) (puts.outside.each s)

    headed_end : header_of_volume c.content ≡ with_free_count trades.n u.header
    headed_end = behind_marks.replaces.headed ∙ trades.headed

    in_map : (s : ℕ) → Contains (map_sectors u) s → Contains (own_sectors u) s
    in_map s here = Contains-append_right (2 ∷ sectors_of_tree u.extents.file) (sectors_of_tree u.catalog.file ++ (attribute_sectors u ++ map_sectors u)) s
        (Contains-append_right (sectors_of_tree u.catalog.file) (attribute_sectors u ++ map_sectors u) s (Contains-append_right (attribute_sectors u) (map_sectors u) s here))

    in_catalog : (s : ℕ) → Contains (sectors_of_tree u.catalog.file) s → Contains (own_sectors u) s
    in_catalog s here = Contains-append_right (2 ∷ sectors_of_tree u.extents.file) (sectors_of_tree u.catalog.file ++ (attribute_sectors u ++ map_sectors u)) s
        (Contains-append_left (sectors_of_tree u.catalog.file) (attribute_sectors u ++ map_sectors u) s here)

    at_two : (s : ℕ) → s ≡ 2 → Contains (own_sectors u) s
    at_two s is = (0, omega arith, sym is)

    in_attributes : (s : ℕ) → Contains (attribute_sectors u) s → Contains (own_sectors u) s
    in_attributes s here = Contains-append_right (2 ∷ sectors_of_tree u.extents.file) (sectors_of_tree u.catalog.file ++ (attribute_sectors u ++ map_sectors u)) s
        (Contains-append_right (sectors_of_tree u.catalog.file) (attribute_sectors u ++ map_sectors u) s (Contains-append_left (attribute_sectors u) (map_sectors u) s here))

    stays_fresh : (s : ℕ) → Contains (sectors_of (per_block_of u.header) (blocks_of (fresh_of u.map (blocks_of_new u (length value))))) s → sector c.content s ≡ sector puts.middle s
    stays_fresh s here =
        ⊎_elim (λ as_was. as_was) (λ other. absurd (⊎_elim (λ two. fresh_off s here (at_two s two)) (λ own. fresh_off s here (in_catalog s own)) other)) (behind_marks.replaces.changes.outside.each s)
        ∙ trades.outside s (λ two. fresh_off s here (at_two s two)) (λ own. fresh_off s here (in_map s own))
        ∙ ⊎_elim (λ as_was. as_was) (λ other. absurd (⊎_elim (λ two. fresh_off s here (at_two s two)) (λ one. ⊎_elim (λ l. fresh_off s here (in_catalog s l)) (λ r. fresh_off s here (in_attributes s r)) one) other)) (sets.changes.outside.each s)

    fresh_sector : (s : ℕ) → Contains (sectors_of (per_block_of u.header) (blocks_of (fresh_of u.map (blocks_of_new u (length value))))) s → sector_bytes c.content s ≡ sector_bytes puts.middle s
    unfolding sector_bytes
    fresh_sector s here = ap (λ (l : List ℕ). take 512 (padded 512 l)) (stays_fresh s here)

    -- the value's bytes stand in its blocks at the end
    bytes_end : take (length value) (fork_bytes c.content (in_use puts.fork)) ≡ value
    bytes_end =
        ap (take (length value)) (
        (λ i. block_bytes c.content ((headed_end i).total_blocks * per_block_of (headed_end i)) (sectors_of (per_block_of (headed_end i)) (blocks_are i)))
        ∙ same_bytes c.content (u.header.total_blocks * per_block_of u.header) (sectors_of (per_block_of u.header) (blocks_of (fresh_of u.map (blocks_of_new u (length value))))) (λ s here. below_product s (per_block_of u.header) u.header.total_blocks per_some (fresh_low (s / per_block_of u.header) (fresh_block s here)))
        ∙ flat_agree (λ s. sector_bytes c.content s) (λ s. sector_bytes puts.middle s) (sectors_of (per_block_of u.header) (blocks_of (fresh_of u.map (blocks_of_new u (length value))))) fresh_sector
        ∙ ap (λ (l : List ℕ). bytes_at puts.middle (sectors_of (per_block_of u.header) l)) (sym puts.blocks)
        )
        ∙ puts.bytes

    -- ---- the lists

    abbrev set_lists : VolumeState
    set_lists = valued_lists (SetsFork id name (length value) (in_use puts.fork)) u (taken (blocks_of_new u (length value)) u.map) trades.m placed.attributes trades.n a puts.middle middle behind.middle

    whole : InValues (SetsFork id name (length value) (in_use puts.fork)) (blocks_of (fresh_of u.map (blocks_of_new u (length value)))) (value_blocks (attributes_of (lists_of u a.content)) id name) (lists_of u a.content) set_lists
    whole = in_values (SetsFork id name (length value) (in_use puts.fork)) u (taken (blocks_of_new u (length value)) u.map) trades.m placed.attributes trades.n a puts.middle middle behind.middle sets spilled_lists trades.put (blocks_of (fresh_of u.map (blocks_of_new u (length value)))) (blocks_of (extents_at (lists_of u a.content).attribute_pairs id name)) fresh_there trades.flips trades.counts

    marks_it : ChangesFields id (IsMarkedAlone u.header.modify_date) set_lists (lists_of x c.content)
    marks_it = subst (λ (k : ℕ). ChangesFields k (IsMarkedAlone u.header.modify_date) set_lists (lists_of x c.content)) number (marked (SetsFork id name (length value) (in_use puts.fork)) u (taken (blocks_of_new u (length value)) u.map) trades.m placed.attributes trades.n a puts.middle middle behind.middle sets spilled_lists trades.put x c true entry behind_marks there kind)

    sets_it : SetsAttributeFork id name (length value) (in_use puts.fork) (lists_of u a.content) (lists_of x c.content)
    sets_it = record {
      sorted = subst (λ (l : VolumeState). AreSorted l.catalog_pairs) now (settled_sorted u a.content was.trees settled);
      many = ap (λ (l : List ℕ). length l) blocks_are ∙ (picks_chosen (free_of u.map) (blocks_of_new u (length value)) enough).count ∙ many_is;
      set = set_lists;
      sets = subst (λ (l : List ℕ). InValues (SetsFork id name (length value) (in_use puts.fork)) l (value_blocks (attributes_of (lists_of u a.content)) id name) (lists_of u a.content) set_lists) (sym blocks_are) whole;
      sorted_again = sorted_valued (SetsFork id name (length value) (in_use puts.fork)) u (taken (blocks_of_new u (length value)) u.map) trades.m placed.attributes trades.n a puts.middle middle behind.middle sets spilled_lists trades.put;
      marks = marks_it;
    }

    before : IsSoundVolume (lists_of u a.content)
    before = sound_before (SetsFork id name (length value) (in_use puts.fork)) u (taken (blocks_of_new u (length value)) u.map) trades.m placed.attributes trades.n a puts.middle middle behind.middle sets spilled_lists trades.put x c true entry behind_marks there kind halves settled was stands has trades.holds trades.headed outside

    stays_same : tree_in (lists_of u a.content) (bytes_in c.content) ≡ tree_of a.content
    stays_same = stays (SetsFork id name (length value) (in_use puts.fork)) u (taken (blocks_of_new u (length value)) u.map) trades.m placed.attributes trades.n a puts.middle middle behind.middle sets spilled_lists trades.put x c true entry behind_marks there kind halves settled was stands has trades.holds trades.headed outside

    does : IsSoundVolume (lists_of x c.content) × (tree_in (lists_of x c.content) (bytes_in c.content) ≡ (step (tree_in (lists_of u a.content) (bytes_in c.content)) (command.SetAttr path name value)).1)
        × PutsInValues (tree_in (lists_of u a.content) (bytes_in c.content)) (command.SetAttr path name value) (lists_of u a.content) (lists_of x c.content)
    does = law path name value (in_use puts.fork) node (lists_of u a.content) (lists_of x c.content) (bytes_in c.content) (bytes_in c.content) (file_bytes_are c.content) before some long bytes_end refl
        (ap (λ (tree : PlainTree). to_set tree path value) stays_same ∙ found)
        (subst (λ (k : ℕ). SetsAttributeFork k name (length value) (in_use puts.fork) (lists_of u a.content) (lists_of x c.content)) (sym same) sets_it)

    volume_now : volume_of c.content ≡ lists_of x c.content
    volume_now = volume_end (SetsFork id name (length value) (in_use puts.fork)) u (taken (blocks_of_new u (length value)) u.map) trades.m placed.attributes trades.n a puts.middle middle behind.middle sets spilled_lists trades.put x c true entry behind_marks there kind halves settled was stands has trades.holds trades.headed outside does.0

    pub value_spilled : IsSettled x c.content × (tree_of c.content ≡ (step (tree_of a.content) (command.SetAttr path name value)).1) × SetsAttributeFork id name (length value) (in_use puts.fork) (volume_of a.content) (volume_of c.content)
        × PutsInValues (tree_of a.content) (command.SetAttr path name value) (volume_of a.content) (volume_of c.content)
    value_spilled = (
      settled_end (SetsFork id name (length value) (in_use puts.fork)) u (taken (blocks_of_new u (length value)) u.map) trades.m placed.attributes trades.n a puts.middle middle behind.middle sets spilled_lists trades.put x c true entry behind_marks there kind halves settled was stands has trades.holds trades.headed outside does.0,
      tree_end (SetsFork id name (length value) (in_use puts.fork)) u (taken (blocks_of_new u (length value)) u.map) trades.m placed.attributes trades.n a puts.middle middle behind.middle sets spilled_lists trades.put x c true entry behind_marks there kind halves settled was stands has trades.holds trades.headed outside does.0 ∙ does.1 ∙ ap (λ (tree : PlainTree). (step tree (command.SetAttr path name value)).1) stays_same,
      subst (λ (k : VolumeState × VolumeState). SetsAttributeFork id name (length value) (in_use puts.fork) k.0 k.1) {x = (lists_of u a.content, lists_of x c.content)} {y = (volume_of a.content, volume_of c.content)} (λ i. (sym now i, sym volume_now i)) sets_it,
      subst (λ (k : PlainTree × (VolumeState × VolumeState)). PutsInValues k.0 (command.SetAttr path name value) k.1.0 k.1.1) {x = (tree_in (lists_of u a.content) (bytes_in c.content), (lists_of u a.content, lists_of x c.content))} {y = (tree_of a.content, (volume_of a.content, volume_of c.content))}
          (λ i. (stays_same i, (sym now i, sym volume_now i))) does.2,
    )
