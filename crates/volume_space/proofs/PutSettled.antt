-- Data is put into a file: its bytes are spilled, its record is replaced, and then the bitmap and the header are put. The volume is settled again, and its lists
-- are those that the laws speak of.
use Rattle.volume_base.proofs.ForkKinds.{kind_is}
use Rattle.std.proofs.Math.Bool.{and-false}
use Rattle.volume_base.specs.declared.forks.ForkKind.TheVariants as kinds
use Rattle.volume_base.specs.declared.forks.ForkKind.{ForkKind}
use Rattle.volume_base.specs.Cutting.{fork_at, kind_of}
use Rattle.std.proofs.Common.{◌≡◌, ◌⊎◌, inl, inr, ◌<◌, ◌≤◌, ℕ, ◌+◌, ◌*◌, ◌/◌, false, List, [], ◌∷◌, ◌++◌, length, take, drop, refl, sym, ◌∙◌, ap, subst, arith, ⊎_elim, take-append-drop}
use Rattle.std.specs.Prelude.{◌==◌, ◌&&◌, Contains, IsTrue, Option, Some}
use Rattle.std.specs.Option.{option_map}
use Rattle.std.proofs.lemmas.List.Elements.{Contains-append_left, Contains-append_right, Contains-append_cases}
use Rattle.hx_bytes.specs.Fork.{FitsFork}
use Rattle.hx_bytes.specs.declared.extents.Extent.{Extent}
use Rattle.hx_bytes.specs.declared.extents.ForkRecord.{ForkRecord}
use Rattle.volume_header.specs.declared.header.VolumeHeader.{VolumeHeader}
use Rattle.jnl_format.specs.Recovery.{header_of_volume}
use Rattle.sector_disk.specs.Lists.{Content, sector}
use Rattle.sector_disk.specs.Space.{AgreesOutside, Space}
use Rattle.flag_rows.specs.Bits.{count_set}
use Rattle.fork_map.specs.Blocks.{blocks_of, sectors_of}
use Rattle.alloc_bitmap.specs.Map.{BlockMap, free_of}
use Rattle.btree_node.specs.Levels.{Pair}
use Rattle.btree_file.specs.State.{sectors_of_tree}
use Rattle.file_io.specs.Bytes.{fork_bytes as bytes_read, written}
use Rattle.file_io.specs.Places.{fresh_of}
use Rattle.file_io.specs.Touching.{IsOneOf}
use Rattle.overflow.specs.Records.{eight_at}
use Rattle.cat_records.specs.Fits.{FitsFile}
use Rattle.cat_records.specs.declared.record.CatRecord.{CatRecord}
use Rattle.cat_records.specs.declared.record.CatRecord.TheVariants.{File}
use Rattle.cat_records.specs.declared.record.FileRecord.{FileRecord}
use Rattle.catalog.specs.Entries.{UpdatesEntry}
use Rattle.catalog.specs.Pairs.{value_at}
use Rattle.hfs_model.specs.declared.plain.PlainTree.{PlainTree}
use Rattle.hfs_volume.specs.Blocks.{forks_of}
use Rattle.hfs_volume.specs.Changes.{FlipsBits, HasSameNodes, with_free}
use Rattle.hfs_volume.specs.Commands.{AreBytesOf}
use Rattle.hfs_volume.specs.Content.{VolumeState, block_limit, overflow_in_volume, records_of, volume_of}
use Rattle.hfs_volume.specs.Data.{AreFresh}
use Rattle.hfs_volume.specs.Forks.{Owned, allocation_id, attributes_id, blocks_owned, data_kind, resource_kind, extents_of, per_block_of}
use Rattle.hfs_volume.specs.Links.{private_id}
use Rattle.hfs_volume.specs.Records.{Overflow, Placed, entries_of, is_link_type, placed_in}
use Rattle.hfs_volume.specs.Sound.{IsSoundVolume}
use Rattle.hfs_volume.specs.TreeOf.{bytes_in, bytes_in_fork, file_bytes, tree_in, tree_of}
use Rattle.hfs_volume.specs.Writing.{KeepsForksBut, KeepsOthers, MakesBytes, OthersKeepBytes, RewritesFork, file_before, in_fork, written_bytes}
use Rattle.hfs_volume.proofs.Bytes.{file_bytes_are}
use Rattle.hfs_volume.proofs.Flat.{some_same}
use Rattle.hfs_volume.proofs.Members.{each_of}
use Rattle.hfs_volume.proofs.Sectors.{in_block}
use Rattle.hfs_volume.proofs.Untouched.{HasWholeBlocks, data_fork_of, file_fork_stands, whole_blocks, resource_fork_of, resource_fork_stands}
use Rattle.volume_base.specs.Changing.{ChangesCatalog}
use Rattle.volume_base.specs.Lists.{bits_on, facts_on, lists_of}
use Rattle.volume_base.specs.Mapping.{HoldsMap}
use Rattle.volume_base.specs.Standing.{IsSettled, IsStanding, map_sectors, with_attributes_tree}
use Rattle.volume_space.specs.Spreading.{HoldsFork, SpreadsExtents}
use Rattle.volume_space.specs.Writing.{extents_in, with_data_put, with_record, with_spill, with_stored}
use Rattle.volume_base.specs.declared.volume.Tree.{Tree}
use Rattle.volume_base.specs.declared.volume.Volume.{Volume}
use Rattle.volume_base.proofs.FileBytes.{bytes_are}
use Rattle.volume_base.proofs.FilesKept.{ReadsAs, allocation_sectors, attributes_apart, attributes_off_extents, attributes_off_map, attributes_sectors, catalog_sectors, extents_sectors}
use Rattle.volume_space.proofs.GrownBits.{bits_read}
use Rattle.volume_space.proofs.GrownFree.{below_product}
use Rattle.volume_base.proofs.ListsAgain.{attributes_again}
use Rattle.volume_space.proofs.PutBytes.{IsSpecial, block_fresh, bytes_then, fresh_apart, put_agrees, written_is}
use Rattle.volume_space.proofs.PutFork.{file_high, owned_of, owned_stands}
use Rattle.volume_space.proofs.SpreadForks.{extents_alike}
use Rattle.volume_space.proofs.PutLists.{before_is, makes, now_blocks, put_is, rewrites}
use Rattle.volume_base.proofs.Resettling.{bits_at, lists_anew, settles}
use Rattle.volume_space.proofs.Resized.{IsRecordOf, private_again, rewritten, stood, with_data}
use Rattle.volume_space.proofs.Sounding.{sound_here}
use Rattle.volume_space.proofs.SpilledBits.{fresh_are}
use Rattle.volume_space.proofs.SpilledFile.{file_fits, block_below}
use Rattle.volume_base.proofs.TreesSettled.{header_settled, tree_without}

pub in_take : (n : ℕ) (xs : List ℕ) (x : ℕ) → Contains (take n xs) x → Contains xs x
in_take n xs x stands = subst (λ l. Contains l x) (take-append-drop n xs) (Contains-append_left (take n xs) (drop n xs) x stands)

pub in_drop : (n : ℕ) (xs : List ℕ) (x : ℕ) → Contains (drop n xs) x → Contains xs x
in_drop n xs x stands = subst (λ l. Contains l x) (take-append-drop n xs) (Contains-append_right (take n xs) (drop n xs) x stands)

-- both forks of a file: the one that was put into is made so, the other one is as it was
both_made : (k : ForkKind) (fork : ForkRecord) (file : FileRecord) (make : List ℕ → List ℕ) (before after : Content)
    → bytes_in_fork after file.fields.id (kind_of k) fork ≡ make (bytes_in_fork before file.fields.id (kind_of k) (fork_at (kind_of k) file))
    → ((resource_kind == kind_of k) ≡ false → bytes_in_fork after file.fields.id resource_kind file.resource_fork ≡ bytes_in_fork before file.fields.id resource_kind file.resource_fork)
    → ((data_kind == kind_of k) ≡ false → bytes_in_fork after file.fields.id data_kind file.data_fork ≡ bytes_in_fork before file.fields.id data_kind file.data_fork)
    → file_bytes after (with_data k fork file) ≡ in_fork (kind_of k) make (file_bytes before file)
both_made kinds.Data fork file make before after made resource own = λ i. record { data_bytes = made i; resource_bytes = resource refl i }
both_made kinds.Resource fork file make before after made resource own = λ i. record { data_bytes = own refl i; resource_bytes = made i }

-- What was done, stage by stage, to put a value into a file.
pub record IsPutThrough (k : ForkKind) (v : Volume) (a : Space) (later : BlockMap) (ext cat : Tree) (free : ℕ) (b m c : Content) (e : Space) (n parent : ℕ) (name : List ℕ) (fork : ForkRecord) (file : FileRecord) (from count : ℕ) (more : List Extent) (place : ℕ) (value : List ℕ) : Type 0 where
  pub enough : n ≤ count_set (free_of v.map)
  pub spilled : AgreesOutside (IsOneOf (sectors_of (per_block_of v.header) (blocks_of (fresh_of v.map n)))) a.content b
  pub spill_lists : lists_of (with_spill v later) b ≡ record (lists_of v a.content) { bits = bits_on (with_spill v later) }
  pub spreads : SpreadsExtents file.fields.id (kind_of k) more (with_spill v later) (with_stored v later ext) b m
  pub updates : UpdatesEntry parent name (File (rewritten k v.header.modify_date fork file)) (lists_of (with_stored v later ext) m).catalog_pairs (lists_of (with_record v later ext cat) c).catalog_pairs
  pub changes : ChangesCatalog (with_stored v later ext) (with_record v later ext cat) m c
  pub there : value_at (lists_of v a.content).catalog_pairs parent name ≡ Some (File file)
  pub no_link : is_link_type file.fields ≡ false
  pub fits : FitsFile file
  pub fits_fork : FitsFork fork
  pub stands : IsStanding (with_data_put v later ext cat free) e
  pub headed : header_of_volume e.content ≡ (with_data_put v later ext cat free).header
  pub map_held : HoldsMap (with_data_put v later ext cat free) e.content
  pub lists_after : lists_of (with_data_put v later ext cat free) e.content ≡ lists_of (with_data_put v later ext cat free) c
  pub outside : AgreesOutside (λ s. (s ≡ 2) ⊎ Contains (map_sectors (with_data_put v later ext cat free)) s) c e.content
  pub gets : fork.extents ≡ eight_at more 0
  pub total : fork.total_blocks ≡ length (blocks_of more)
  pub size_held : fork.logical_size ≤ length (blocks_of more) * v.header.block_size
  pub blocks : blocks_of more ≡ take from (blocks_of (extents_in (kind_of k) a.content file)) ++ (blocks_of (fresh_of v.map n) ++ drop (from + count) (blocks_of (extents_in (kind_of k) a.content file)))
  pub within : from + count ≤ length (blocks_of (extents_in (kind_of k) a.content file))
  pub flips : FlipsBits (blocks_of (fresh_of v.map n)) (take count (drop from (blocks_of (extents_in (kind_of k) a.content file)))) (volume_of a.content) (record (volume_of a.content) { bits = bits_on (with_spill v later) })
  pub counts : free + length (blocks_of (fresh_of v.map n)) ≡ v.header.free_blocks + count
  pub bytes : take fork.logical_size (bytes_read b v.header.block_size more) ≡ written (take (fork_at (kind_of k) file).logical_size (bytes_read a.content v.header.block_size (extents_in (kind_of k) a.content file))) place value

module _ (k : ForkKind) (v : Volume) (a : Space) (was : IsStanding v a) (settled : IsSettled v a.content) (later : BlockMap) (ext cat : Tree) (free : ℕ) (b m c : Content) (e : Space) (n parent : ℕ) (name : List ℕ) (fork : ForkRecord) (file : FileRecord) (from count : ℕ) (more : List Extent)
    (place : ℕ) (value : List ℕ) (does : IsPutThrough k v a later ext cat free b m c e n parent name fork file from count more place value)
  where
    abbrev w : Volume
    w = with_data_put v later ext cat free

    abbrev old : VolumeState
    old = volume_of a.content

    abbrev fresh : List ℕ
    fresh = blocks_of (fresh_of v.map n)

    abbrev pairs : List Pair
    pairs = (lists_of (with_record v later ext cat) c).catalog_pairs

    abbrev more_pairs : List Pair
    more_pairs = (lists_of (with_stored v later ext) m).overflow_pairs

    -- the lists that it leads to
    abbrev pub lists_put : VolumeState
    lists_put = record (volume_of a.content) { head = with_free free (volume_of a.content).head.next_allocation (volume_of a.content).head; catalog_pairs = (lists_of (with_record v later ext cat) c).catalog_pairs; catalog_tree = facts_on cat.file; overflow_pairs = (lists_of (with_stored v later ext) m).overflow_pairs; extents_tree = facts_on ext.file; bits = bits_on (with_data_put v later ext cat free) }

    head_is : (volume_of a.content).head ≡ v.header
    head_is = ap (λ (l : VolumeState). l.head) settled.lists

    pairs_are : (lists_of (with_stored v later ext) m).catalog_pairs ≡ (volume_of a.content).catalog_pairs
    pairs_are = ap (λ (l : VolumeState). l.catalog_pairs) does.spreads.lists ∙ ap (λ (l : VolumeState). l.catalog_pairs) does.spill_lists ∙ sym (ap (λ (l : VolumeState). l.catalog_pairs) settled.lists)

    updated : UpdatesEntry parent name (File (rewritten k v.header.modify_date fork file)) (volume_of a.content).catalog_pairs pairs
    updated = subst (λ (l : List Pair). UpdatesEntry parent name (File (rewritten k v.header.modify_date fork file)) l pairs) pairs_are does.updates

    there_now : value_at (volume_of a.content).catalog_pairs parent name ≡ Some (File file)
    there_now = ap (λ (l : VolumeState). value_at l.catalog_pairs parent name) settled.lists ∙ does.there

    is_record : IsRecordOf k v.header.modify_date parent name fork file (volume_of a.content).catalog_pairs pairs
    is_record = made updated
      where
        made : UpdatesEntry parent name (File (rewritten k v.header.modify_date fork file)) (volume_of a.content).catalog_pairs pairs → IsRecordOf k v.header.modify_date parent name fork file (volume_of a.content).catalog_pairs pairs
        made u = record {
          updates = u;
          value = some_same u.entry.value (File file) (sym (ap (option_map (λ (p : Placed). p.value)) u.found) ∙ there_now);
          no_link = does.no_link;
          fits = does.fits;
          fits_fork = does.fits_fork;
        }

    nodes : HasSameNodes (volume_of a.content).catalog_tree (facts_on cat.file)
    nodes = record {
      total = does.changes.nodes.0 ∙ sym (ap (λ (l : VolumeState). l.catalog_tree.shape.total) settled.lists);
      size = does.changes.nodes.1 ∙ sym (ap (λ (l : VolumeState). l.catalog_tree.shape.node_size) settled.lists);
    }

    -- the overflow records

    overflow_was : overflow_in_volume (lists_of (with_spill v later) b) ≡ overflow_in_volume (volume_of a.content)
    overflow_was = ap (λ (l : VolumeState). overflow_in_volume l) does.spill_lists ∙ sym (ap (λ (l : VolumeState). overflow_in_volume l) settled.lists)

    holds_it : HoldsFork file.fields.id (kind_of k) fork more (overflow_in_volume (volume_of a.content)) (overflow_in_volume (lists_of (with_stored v later ext) m))
    holds_it = subst (λ (o : List Overflow). HoldsFork file.fields.id (kind_of k) fork more o (overflow_in_volume (lists_of (with_stored v later ext) m))) overflow_was (does.spreads.holds fork does.gets)

    extents_nodes : HasSameNodes (volume_of a.content).extents_tree (facts_on ext.file)
    extents_nodes = record {
      total = does.spreads.file.total ∙ sym (ap (λ (l : VolumeState). l.extents_tree.shape.total) settled.lists);
      size = does.spreads.file.node_size ∙ sym (ap (λ (l : VolumeState). l.extents_tree.shape.node_size) settled.lists);
    }

    are_fresh : AreFresh (volume_of a.content) (blocks_of (fresh_of v.map n))
    are_fresh = fresh_are v a was settled n does.enough

    entry_there : Contains (entries_of (records_of (volume_of a.content))) is_record.updates.entry
    entry_there = stood k v.header.modify_date parent name fork file (volume_of a.content) lists_put is_record settled.sound

    fork_there : Contains (forks_of (volume_of a.content)) (owned_of k file)
    fork_there = owned_stands k (volume_of a.content) is_record.updates.entry file entry_there is_record.value

    cases : (block : ℕ) → Contains (blocks_of more) block → Contains (blocks_of (extents_in (kind_of k) a.content file)) block ⊎ Contains (blocks_of (fresh_of v.map n)) block
    cases block has = ⊎_elim (λ front. inl (in_take from (blocks_of (extents_in (kind_of k) a.content file)) block front))
        (λ behind. ⊎_elim (λ new. inr new) (λ back. inl (in_drop (from + count) (blocks_of (extents_in (kind_of k) a.content file)) block back)) (Contains-append_cases fresh (drop (from + count) (blocks_of (extents_in (kind_of k) a.content file))) block behind))
        (Contains-append_cases (take from (blocks_of (extents_in (kind_of k) a.content file))) (fresh ++ drop (from + count) (blocks_of (extents_in (kind_of k) a.content file))) block (subst (λ (l : List ℕ). Contains l block) does.blocks has))

    below : (block : ℕ) → Contains (blocks_of more) block → block < (volume_of a.content).head.total_blocks
    below block has = ⊎_elim
        (λ had. omega (arith, block_below (length v.map.used) (extents_in (kind_of k) a.content file) (file_fits v a settled (owned_of k file) fork_there) block had, settled.blocks, ap (λ (h : VolumeHeader). h.total_blocks) head_is))
        (λ new. each_of (λ (k : ℕ). k < (volume_of a.content).head.total_blocks) fresh are_fresh.inside block new)
        (cases block has)

    size_held : fork.logical_size ≤ length (blocks_of more) * (volume_of a.content).head.block_size
    size_held = subst (λ (h : VolumeHeader). fork.logical_size ≤ length (blocks_of more) * h.block_size) (sym head_is) does.size_held

    counted : free + length (blocks_of (fresh_of v.map n)) ≡ (volume_of a.content).head.free_blocks + count
    counted = does.counts ∙ ap (λ (h : VolumeHeader). h.free_blocks + count) (sym head_is)

    pub rewrites_it : RewritesFork file.fields.id (kind_of k) from count (blocks_of (fresh_of v.map n)) (volume_of a.content) lists_put
    rewrites_it = rewrites k from count v.header.modify_date parent name fork file fresh (volume_of a.content) lists_put is_record settled.sound (sym (ap (λ (h : VolumeHeader). h.modify_date) head_is)) nodes free counted refl are_fresh more
        holds_it extents_nodes does.total size_held does.blocks does.within does.flips below

    pub before_it : file_before rewrites_it.puts ≡ file
    unfolding rewrites_it
    before_it = before_is k from count v.header.modify_date parent name fork file fresh (volume_of a.content) lists_put is_record settled.sound (sym (ap (λ (h : VolumeHeader). h.modify_date) head_is)) nodes free counted refl are_fresh more
        holds_it extents_nodes does.total size_held does.blocks does.within does.flips below

    -- ---- the content behind it

    lists_are : record (lists_of (with_data_put v later ext cat free) e.content) { attributes_tree = (volume_of a.content).attributes_tree } ≡ lists_put
    lists_are =
        (λ i. record (does.lists_after i) { attributes_tree = (volume_of a.content).attributes_tree })
        ∙ (λ i. record (does.changes.lists i) { head = w.header; attributes_tree = (volume_of a.content).attributes_tree })
        ∙ (λ i. record (does.spreads.lists i) { head = w.header; catalog_pairs = pairs; catalog_tree = facts_on cat.file; attributes_tree = (volume_of a.content).attributes_tree })
        ∙ (λ i. record (does.spill_lists i) { head = w.header; catalog_pairs = pairs; catalog_tree = facts_on cat.file; overflow_pairs = more_pairs; extents_tree = facts_on ext.file; attributes_tree = (volume_of a.content).attributes_tree })
        ∙ sym (λ i. record (settled.lists i) { head = w.header; catalog_pairs = pairs; catalog_tree = facts_on cat.file; overflow_pairs = more_pairs; extents_tree = facts_on ext.file; bits = bits_on w })
        ∙ (λ i. record (volume_of a.content) { head = record (sym head_is i) { free_blocks = free }; catalog_pairs = pairs; catalog_tree = facts_on cat.file; overflow_pairs = more_pairs; extents_tree = facts_on ext.file; bits = bits_on w })

    bits_fit : length later.used ≤ 8 * v.header.allocation_fork.logical_size
    bits_fit = omega (
      arith,
      does.stands.blocks,
      settled.sound.blocks.files.bits,
      ap (λ (h : VolumeHeader). h.total_blocks) head_is,
      ap (λ (h : VolumeHeader). h.allocation_fork.logical_size) head_is,
    )

    bits : bits_at e.content w ≡ bits_on w
    bits = bits_read w e does.stands does.headed bits_fit does.map_held

    pub volume_now : volume_of e.content ≡ with_attributes_tree lists_put (volume_of e.content)
    volume_now = lists_anew w e does.stands does.headed bits ∙ (λ i. with_attributes_tree (lists_are i) (volume_of e.content))

    reads : ReadsAs e.content lists_put
    reads = record {
      overflow = ap (λ (l : VolumeState). l.overflow_pairs) volume_now;
      total = ap (λ (h : VolumeHeader). h.total_blocks) does.headed ∙ ap (λ (h : VolumeHeader). h.total_blocks) (sym head_is);
      block = ap (λ (h : VolumeHeader). h.block_size) does.headed ∙ ap (λ (h : VolumeHeader). h.block_size) (sym head_is);
    }

    pub tree_put : tree_of e.content ≡ tree_in lists_put (bytes_in e.content)
    unfolding tree_of
    tree_put = ap (λ (l : VolumeState). tree_in l (bytes_in e.content)) volume_now ∙ tree_without lists_put (volume_of e.content).attributes_tree (bytes_in e.content)

    -- ---- where a law says that these lists are a sound volume's, with a tree

    module _ (sound : IsSoundVolume lists_put) where
      pub settled_put : IsSettled (with_data_put v later ext cat free) e.content
      settled_put = settles w e does.stands does.headed bits (volume_of a.content).attributes_tree settled.attributes (subst IsSoundVolume (sym lists_are) sound)
          (settled.private ∙ sym (private_again k v.header.modify_date parent name fork file (volume_of a.content) lists_put is_record settled.sound) ∙ ap (λ (l : VolumeState). private_id (placed_in l.catalog_pairs)) (sym lists_are))

    -- ---- the sectors

    catalog_are : sectors_of_tree v.catalog.file ≡ catalog_sectors (volume_of a.content)
    catalog_are = (λ i. sectors_of (was.forks.catalog_per i) (blocks_of (was.forks.catalog i))) ∙ sym (ap (λ (l : VolumeState). catalog_sectors l) settled.lists)

    -- the forks of special files have the extents that they had
    special_same : (low : ℕ) (special : ForkRecord) → low < 16 → extents_of (overflow_in_volume (lists_of (with_stored v later ext) m)) low data_kind special ≡ extents_of (overflow_in_volume (volume_of a.content)) low data_kind special
    special_same low special less = extents_alike file.fields.id (kind_of k) (overflow_in_volume (volume_of a.content)) (overflow_in_volume (lists_of (with_stored v later ext) m)) holds_it.others low data_kind special
        (λ same. absurd (omega (arith, same, less, file_high (volume_of a.content) settled.sound is_record.updates.entry entry_there file is_record.value)))

    map_are : map_sectors w ≡ allocation_sectors (volume_of a.content)
    map_are = (λ i. sectors_of (does.stands.forks.map_per i) (blocks_of (does.stands.forks.map i))) ∙ ap (λ (l : VolumeState). allocation_sectors l) lists_are
        ∙ ap (λ (l : List Extent). sectors_of (per_block_of (volume_of a.content).head) (blocks_of l)) (special_same allocation_id (volume_of a.content).head.allocation_fork (omega arith))

    extents_are : sectors_of_tree v.extents.file ≡ extents_sectors (volume_of a.content)
    extents_are = (λ i. sectors_of (was.forks.extents_per i) (blocks_of (was.forks.extents i))) ∙ sym (ap (λ (l : VolumeState). extents_sectors l) settled.lists)

    later_agrees : AgreesOutside (IsSpecial (volume_of a.content)) b e.content
    later_agrees = record {
      size = does.outside.size ∙ does.changes.outside.size ∙ does.spreads.outside.size;
      each = λ s. by s (does.spreads.outside.each s) (does.changes.outside.each s) (does.outside.each s);
    }
      where
        by : (s : ℕ) → (sector m s ≡ sector b s) ⊎ Contains (sectors_of_tree v.extents.file) s → (sector c s ≡ sector m s) ⊎ ((s ≡ 2) ⊎ Contains (sectors_of_tree v.catalog.file) s) → (sector e.content s ≡ sector c s) ⊎ ((s ≡ 2) ⊎ Contains (map_sectors w) s)
            → (sector e.content s ≡ sector b s) ⊎ IsSpecial (volume_of a.content) s
        by s store first (inr (inl two)) = inr (inl two)
        by s store first (inr (inr map)) = inr (inr (inr (inl (subst (λ (l : List ℕ). Contains l s) map_are map))))
        by s store (inr (inl two)) (inl same) = inr (inl two)
        by s store (inr (inr has)) (inl same) = inr (inr (inl (subst (λ (l : List ℕ). Contains l s) catalog_are has)))
        by s (inr has) (inl was_same) (inl same) = inr (inr (inr (inr (subst (λ (l : List ℕ). Contains l s) extents_are has))))
        by s (inl stored) (inl was_same) (inl same) = inl (same ∙ was_same ∙ stored)

    spilled : AgreesOutside (IsOneOf (sectors_of (per_block_of (volume_of a.content).head) (blocks_of (fresh_of v.map n)))) a.content b
    spilled = subst (λ (h : VolumeHeader). AgreesOutside (IsOneOf (sectors_of (per_block_of h) (blocks_of (fresh_of v.map n)))) a.content b) (sym head_is) does.spilled

    -- ---- the attributes file

    abbrev own_attributes : Owned
    own_attributes = record { id = attributes_id; kind = data_kind; fork = (volume_of a.content).head.attributes_fork }

    special_there : (s : ℕ) → Contains (attributes_sectors (volume_of a.content)) s → Contains (blocks_owned (overflow_in_volume (volume_of a.content)) own_attributes) (s / per_block_of (volume_of a.content).head)
    special_there s has = in_block (per_block_of (volume_of a.content).head) (blocks_owned (overflow_in_volume (volume_of a.content)) own_attributes) s (whole_blocks (volume_of a.content).sectors (volume_of a.content).head settled.sound.blocks.header.accepted).some has

    attributes_still : (s : ℕ) → Contains (attributes_sectors (volume_of a.content)) s → sector e.content s ≡ sector a.content s
    attributes_still s has =
        let apart = attributes_apart (volume_of a.content) settled.sound s has in
        ⊎_elim (λ same. same) (λ special. absurd (⊎_elim (λ two. apart.0 two) (λ others. ⊎_elim (λ there. apart.1 there) (λ more. ⊎_elim (λ map. attributes_off_map (volume_of a.content) settled.sound s has map) (λ extents. attributes_off_extents (volume_of a.content) settled.sound s has extents) more) others) special)) (later_agrees.each s)
        ∙ ⊎_elim (λ same. same)
        (λ is. absurd (fresh_apart a.content b e.content (sound_here v a was settled) fresh are_fresh spilled later_agrees (s / per_block_of (volume_of a.content).head)
        (block_fresh a.content b e.content (sound_here v a was settled) fresh are_fresh spilled later_agrees s is) (inr (own_attributes, (4, omega arith, refl), special_there s has))))
        (spilled.each s)

    limit_same : block_limit e.content ≡ block_limit a.content
    limit_same = ap (λ (h : VolumeHeader). h.total_blocks * per_block_of h) does.headed ∙ sym (ap (λ (h : VolumeHeader). h.total_blocks * per_block_of h) (header_settled v a.content settled))

    attributes_same : (volume_of e.content).attributes_tree ≡ (volume_of a.content).attributes_tree
    attributes_same = attributes_again a.content e.content limit_same (ap (λ (l : VolumeState). attributes_sectors l) volume_now ∙ ap (λ (l : List Extent). sectors_of (per_block_of (volume_of a.content).head) (blocks_of l)) (special_same attributes_id (volume_of a.content).head.attributes_fork (omega arith))) attributes_still

    pub volume_is : volume_of e.content ≡ lists_put
    volume_is = volume_now ∙ (λ i. record lists_put { attributes_tree = attributes_same i })

    -- ---- the bytes

    module _ (others_law : OthersKeepBytes) where
      law : KeepsOthers file.fields.id (volume_of a.content) (bytes_in a.content) (bytes_in e.content) × KeepsForksBut file.fields.id (kind_of k) a.content e.content
      unfolding rewrites_it
      law =
          let put = put_is k from count v.header.modify_date parent name fork file fresh (volume_of a.content) lists_put is_record settled.sound (sym (ap (λ (h : VolumeHeader). h.modify_date) head_is)) nodes free counted refl are_fresh more
          holds_it extents_nodes does.total size_held does.blocks does.within does.flips below in
          others_law file.fields.id (kind_of k) from count fresh a.content e.content rewrites_it.put (sound_here v a was settled) rewrites_it.puts (ap (λ (l : VolumeState). l.head) volume_now ∙ sym put.0) (ap (λ (l : VolumeState). l.overflow_pairs) volume_now ∙ sym put.1)
          (put_agrees a.content b e.content (sound_here v a was settled) fresh are_fresh spilled later_agrees)

      some : 0 < per_block_of (volume_of a.content).head
      some = (whole_blocks (volume_of a.content).sectors (volume_of a.content).head settled.sound.blocks.header.accepted).some

      high : 16 ≤ file.fields.id
      high = file_high (volume_of a.content) settled.sound is_record.updates.entry entry_there file is_record.value

      -- the fork has the bytes that are made of its own
      fork_made : bytes_in_fork e.content file.fields.id (kind_of k) fork ≡ written_bytes place value (bytes_in_fork a.content file.fields.id (kind_of k) (fork_at (kind_of k) file))
      fork_made =
          bytes_then a.content b e.content (sound_here v a was settled) fresh are_fresh spilled later_agrees (owned_of k file) fork_there high (blocks_of more) cases lists_put reads refl (record { id = file.fields.id; kind = kind_of k; fork = fork })
          (now_blocks k from count v.header.modify_date parent name fork file fresh (volume_of a.content) lists_put is_record settled.sound (sym (ap (λ (h : VolumeHeader). h.modify_date) head_is)) nodes free counted refl are_fresh more
          holds_it extents_nodes does.total size_held does.blocks does.within does.flips below)
          (λ s has. below_product s (per_block_of (volume_of a.content).head) (volume_of a.content).head.total_blocks some (below (s / per_block_of (volume_of a.content).head) (in_block (per_block_of (volume_of a.content).head) (blocks_of more) s some has)))
          ∙ ap (λ (h : VolumeHeader). take fork.logical_size (bytes_read b h.block_size more)) head_is
          ∙ does.bytes
          ∙ ap (λ (h : VolumeHeader). written (take (fork_at (kind_of k) file).logical_size (bytes_read a.content h.block_size (extents_in (kind_of k) a.content file))) place value) (sym (header_settled v a.content settled))
          ∙ ap (λ (l : List ℕ). written l place value) (sym (bytes_are a.content settled.sound (kind_of k) (kind_is k) file is_record.updates.entry entry_there is_record.value))
          ∙ written_is (bytes_in_fork a.content file.fields.id (kind_of k) (fork_at (kind_of k) file)) place value

      -- and the file's other fork has its own
      other_same : (other : Owned) → other.id ≡ file.fields.id → Contains (forks_of (volume_of a.content)) other → (other.kind == kind_of k) ≡ false → bytes_in_fork e.content other.id other.kind other.fork ≡ bytes_in_fork a.content other.id other.kind other.fork
      other_same other number own differs =
          law.1 is_record.updates.entry file entry_there is_record.value other number own (ap (λ c. (other.id == file.fields.id) && c) differs ∙ and-false (other.id == file.fields.id))

      made : file_bytes e.content (with_data k fork file) ≡ in_fork (kind_of k) (written_bytes place value) (file_bytes a.content file)
      made = both_made k fork file (written_bytes place value) a.content e.content fork_made
          (λ none. other_same (resource_fork_of file) refl (resource_fork_stands (volume_of a.content) is_record.updates.entry file entry_there is_record.value) none)
          (λ none. other_same (data_fork_of file) refl (file_fork_stands (volume_of a.content) is_record.updates.entry file entry_there is_record.value) none)

      pub makes_it : MakesBytes (written_bytes place value) rewrites_it (bytes_in a.content) (bytes_in e.content)
      unfolding rewrites_it
      makes_it = makes k from count v.header.modify_date parent name fork file fresh (volume_of a.content) lists_put is_record settled.sound (sym (ap (λ (h : VolumeHeader). h.modify_date) head_is)) nodes free counted refl are_fresh more
          holds_it extents_nodes does.total size_held does.blocks does.within does.flips below (written_bytes place value) (bytes_in a.content) (bytes_in e.content) made law.0
