-- A link's target was put into free blocks and its record added: what the calls say together, and the room that is left between them.
use Rattle.std.proofs.Common.{◌≡◌, ◌<◌, ◌≤◌, ℕ, ◌+◌, ◌-◌, ◌*◌, ◌^◌, Bool, true, false, IsTrue, List, [], ◌∷◌, length, take, refl, sym, ◌∙◌, ap, subst, arith, ⊎_elim}
use Rattle.std.specs.Prelude.{⊤, None, Ok, not}
use Rattle.std.specs.List.{Contains}
use Rattle.std.proofs.lemmas.Bool.{cases_lt}
use Rattle.std.proofs.lemmas.Bool.Decides.{eqb_tells}
use Rattle.std.proofs.lemmas.List.Sums.{count_by-le-length}
use Rattle.std.proofs.Math.Nat.{le-div_iff_mul-le}
use Rattle.hx_bytes.specs.declared.extents.Extent.{Extent}
use Rattle.hx_bytes.specs.declared.extents.ForkRecord.{ForkRecord}
use Rattle.cat_records.specs.Fits.{FitsFile, FitsRecord}
use Rattle.cat_records.specs.declared.record.CatRecord.{CatRecord}
use Rattle.alloc_bitmap.specs.Map.{BlockMap, free_of, none}
use Rattle.btree_file.specs.Frame.{PutsWithin}
use Rattle.btree_file.specs.State.{sectors_of_tree}
use Rattle.btree_file.specs.Held.{file_in}
use Rattle.btree_node.specs.Keys.{IsCatalogKey}
use Rattle.btree_node.specs.Levels.{Pair}
use Rattle.btree_node.specs.TreeFile.{store_of}
use Rattle.file_io.specs.Bytes.{fork_bytes as bytes_of_fork, sectors_in}
use Rattle.file_io.specs.Places.{fresh_of, taken}
use Rattle.file_io.specs.Touching.{IsOneOf}
use Rattle.flag_rows.specs.Bits.{count_set, sectors_for}
use Rattle.flag_rows.specs.Runs.{fewest_of, runs_of}
use Rattle.flag_rows.proofs.TallyLaws.{have_sorted}
use Rattle.flag_rows.proofs.TopLaws.{HaveBlocks, have_blocks}
use Rattle.fork_map.specs.Blocks.{blocks_of}
use Rattle.hfs_model.specs.Kinds.{made_link}
use Rattle.hfs_model.specs.Targets.{is_target}
use Rattle.sector_disk.specs.Putting.{unput}
use Rattle.sector_disk.specs.Space.{AgreesOutside, Space}
use Rattle.hfs_volume.specs.Changes.{AddsEntry, AreSorted}
use Rattle.hfs_volume.specs.Commands.{entry_in}
use Rattle.hfs_volume.specs.Content.{VolumeState, volume_of}
use Rattle.hfs_volume.specs.Cost.{catalog_key, growth, is_too_deep}
use Rattle.hfs_volume.specs.Forks.{parts_for}
use Rattle.hfs_volume.specs.Kinds.{SymlinkDoes}
use Rattle.hfs_volume.specs.Records.{placed_in, record_at}
use Rattle.hfs_volume.specs.TreeOf.{tree_of}
use Rattle.hfs_volume.specs.Weight.{free_runs}
use Rattle.hfs_volume.specs.Writing.{RewritePuts}
use Rattle.hfs_volume.proofs.Ascending.{tree_sorted}
use Rattle.hfs_volume.specs.Entries.{AreThreaded}
use Rattle.volume_base.specs.Changing.{HasFolder, TouchesFolder}
use Rattle.volume_base.specs.Frame.{Spills}
use Rattle.volume_base.specs.Lists.{bits_on, lists_of}
use Rattle.volume_base.specs.Making.{AddsRecord, HasRoomToMake, IsSite, catalog_cost, free_place, make_load, new_link_value, no_fork}
use Rattle.volume_base.specs.Mapping.{HoldsUnchanged, PutsMap, changed_sectors}
use Rattle.volume_base.specs.Standing.{IsSettled, IsStanding, StandsOver, map_sectors}
use Rattle.volume_base.specs.declared.volume.Volume.{Volume}
use Rattle.volume_base.proofs.CostSame.{parts_hold}
use Rattle.volume_base.proofs.StillMapped.{unchanged_settled}
use Rattle.volume_base.proofs.Touched.{touches_within}
use Rattle.volume_space.specs.Writing.{fork_with}
use Rattle.volume_space.proofs.PutPlaced.{stands_free, with_free_blocks}
use Rattle.volume_space.proofs.PutUnchanged.{few_changed_by}
use Rattle.volume_values.proofs.FreshOff.{off_fresh, unchanged_taken}
use Rattle.volume_values.proofs.Placing.{map_own, outside_of}
use Rattle.volume_names.proofs.Made.{counts_fit, free_before, next_unused}
use Rattle.volume_links.specs.Links.{HasRoomToLink, LeavesLink, link_bits}
use Rattle.volume_links.proofs.LinkBare.{link_entry, link_file}
use Rattle.volume_links.proofs.LinkCount.{counted_free}
use Rattle.volume_links.proofs.LinkPlace.{link_folder, link_threads}
use Rattle.volume_links.proofs.LinkSettled.{link_leaves, link_settled, link_tree}

-- runs that have blocks are no more than the blocks that they are for
few_for : (n : ℕ) (runs : List Extent) → HaveBlocks runs → fewest_of n runs ≤ n
few_for n [] have = omega arith
few_for n (run ∷ rest) have = ⊎_elim
    (λ none_. subst (λ m. fewest_of m (run ∷ rest) ≤ m) (sym none_.1) (omega arith))
    (λ some. rw some.0 (omega (arith, some.1, have.0, few_for (n - run.count) rest have.1)))
    (eqb_tells n 0)

pub few_parts : (long block : ℕ) → long ≤ 1023 → 512 ≤ block → parts_for long block ≤ 2
few_parts long block short least =
    let some : 0 < block = omega (arith, least) in
    ⊎_elim (λ (low : parts_for long block < 3). omega (arith, low)) (λ (high : 3 ≤ parts_for long block). absurd (omega (arith, short, least, (le-div_iff_mul-le {k = block} {x = 3} {y = long + block - 1} some).0 high))) (cases_lt (parts_for long block) 3)

-- the extents of a target stand in its record
pub few_extents : (m : BlockMap) (long block : ℕ) (more : List Extent) → long ≤ 1023 → 512 ≤ block → length more ≤ fewest_of (parts_for long block) (free_runs (free_of m)) → length more ≤ 8
few_extents m long block more short least few = omega (arith, few, few_parts long block short least, few_for (parts_for long block) (free_runs (free_of m)) (have_sorted (runs_of (free_of m)) (have_blocks 0 0 (free_of m))))

-- ---- a map put, and the blocks counted

module _ {S : Type 0} {space_of : S → Space} {follows : S → S → Type 0} where
  pub map_spills : {most : ℕ} (s : Volume) (free : ℕ) {a b : S} → free < 2 ^ 32 → StandsOver s (space_of b) → PutsWithin (map_sectors s) (space_of a) (space_of b) → follows a b → (space_of a).spare ≤ (space_of b).spare + most
      → Spills {T = ⊤} space_of follows most s (with_free_blocks free s) a b (Ok tt)
  map_spills {most} s free {a} {b} low stands within below spent = record {
    below = below;
    cause = record { later = within.faults; failed = tt };
    service = (stands_free free s (space_of b) low stands).service;
    stands = stands_free free s (space_of b) low stands;
    holds = λ committed was. was;
    touches = λ committed was laid. touches_within committed (map_sectors s) _ (space_of a) (space_of b) (map_own s) within;
    same = within.same;
    spent = λ tells. spent;
    own = refl;
    shrunk = refl;
    capacity = refl;
  }

module _ (v s : Volume) (rest : s ≡ record v { map = s.map }) (free : ℕ) where
  pub next_still : s.header.next_catalog_id ≡ v.header.next_catalog_id
  next_still = ap (λ (x : Volume). x.header.next_catalog_id) rest

  pub make_room : (long n : ℕ) (a c : Space) → HasRoomToLink long n v a → c.tells ≡ a.tells → a.spare ≤ c.spare + link_bits n v → HasRoomToMake (with_free_blocks free s) c
  make_room long n a c room same spent = record {
    ids = omega (arith, room.ids, next_still);
    some = omega (arith, room.spare, spent);
    told = λ told.
        let it = room.told (sym same ∙ told) in
        let load : make_load s ≡ make_load v = ap (λ (x : Volume). make_load x) rest in (
          omega (arith, it.0, spent, load),
          ap (λ (x : Volume). is_too_deep catalog_key (catalog_cost x) 2) rest ∙ it.1,
          ap (λ (x : Volume). growth x.header.block_size catalog_key (catalog_cost x) 2) rest ∙ it.2,
        );
  }

  pub load_still : make_load (with_free_blocks free s) ≡ make_load v
  load_still = ap (λ (x : Volume). make_load x) rest

  pub large_still : 4096 ≤ v.catalog.file.shape.node_size → 4096 ≤ s.catalog.file.shape.node_size
  large_still large = subst (λ (x : Volume). 4096 ≤ x.catalog.file.shape.node_size) (sym rest) large

  module _ (a b d : Space) (settled : IsSettled v a.content) (lists : lists_of s b.content ≡ record (lists_of v a.content) { bits = bits_on s }) (put : lists_of s d.content ≡ lists_of s b.content) where
    pub pairs_still : (lists_of (with_free_blocks free s) d.content).catalog_pairs ≡ (lists_of v a.content).catalog_pairs
    pairs_still = ap (λ (l : VolumeState). l.catalog_pairs) put ∙ ap (λ (l : VolumeState). l.catalog_pairs) lists

    pub still_unused : record_at (placed_in (lists_of (with_free_blocks free s) d.content).catalog_pairs) s.header.next_catalog_id [] ≡ None
    still_unused = (λ i. record_at (placed_in (pairs_still i)) (next_still i) []) ∙ next_unused v a settled

    pub still_counts : v.header.next_catalog_id + 1 < 2 ^ 32 → (s.header.folder_count + 1 < 2 ^ 32) × (s.header.file_count + 1 < 2 ^ 32)
    still_counts fits = subst (λ (x : Volume). (x.header.folder_count + 1 < 2 ^ 32) × (x.header.file_count + 1 < 2 ^ 32)) (sym rest) (counts_fit v a settled fits)

    pub still_free : (id : ℕ) (name : List ℕ) → IsSite (tree_of a.content) id name → record_at (placed_in (lists_of (with_free_blocks free s) d.content).catalog_pairs) id name ≡ None
    still_free id name site = ap (λ (l : List Pair). record_at (placed_in l) id name) pairs_still ∙ free_before v a settled id name site

-- ---- the map that is put

module _ (v s : Volume) (a b : Space) (was : IsTrue a.tells → IsStanding v a) (settled : IsTrue a.tells → IsSettled v a.content) (n : ℕ) (enough : n ≤ count_set (free_of v.map)) (is : s ≡ record v { map = taken n v.map }) where
  pub unchanged_put : IsTrue a.tells → length v.map.changed ≡ sectors_for (length v.map.used) → AgreesOutside (λ k. Contains (sectors_in v.header.block_size (fresh_of v.map n)) k) a.content b.content → HoldsUnchanged s b.content
  unchanged_put tells marks outside =
      subst (λ (x : Volume). HoldsUnchanged x b.content) (sym is)
      (unchanged_taken v a (was tells) (settled tells) n enough marks b.content
      (λ k here. ⊎_elim (λ same. same) (λ fresh. absurd (off_fresh v a (was tells) (settled tells) n enough k fresh (map_own v k here))) (outside.each k))
      (unchanged_settled v a (was tells) (settled tells)))

  pub few_put : v.map.changed ≡ none (sectors_for (length v.map.used)) → (p : ℕ → Bool) → unput p (changed_sectors s) ≤ link_bits n v
  few_put unchanged p = omega (arith, few_changed_by v s n [] enough unchanged tt (ap (λ (x : Volume). x.map) is), count_by-le-length (λ k. not (p k)) (changed_sectors s))

-- ---- what the record is, and what the calls leave

module _ (v s w : Volume) (a b d c : Space) (settled : IsSettled v a.content) (rest : s ≡ record v { map = s.map }) (lists : lists_of s b.content ≡ record (lists_of v a.content) { bits = bits_on s }) (put : lists_of s d.content ≡ lists_of s b.content) (free : ℕ)
    (fork : ForkRecord) (rec : CatRecord) (rec_is : rec ≡ new_link_value s.header.next_catalog_id s.header.modify_date fork) (folder : ℕ) (name : List ℕ) (site : IsSite (tree_of a.content) folder name)
    (adds : AddsRecord false rec folder name (with_free_blocks free s) w d.content c.content)
  where
    rec_now : rec ≡ new_link_value v.header.next_catalog_id v.header.modify_date fork
    rec_now = rec_is ∙ ap (λ (x : Volume). new_link_value x.header.next_catalog_id x.header.modify_date fork) rest

    rec_there : rec ≡ new_link_value (volume_of a.content).head.next_catalog_id (volume_of a.content).head.modify_date fork
    rec_there = rec_now ∙ ap (λ (l : VolumeState). new_link_value l.head.next_catalog_id l.head.modify_date fork) (sym settled.lists)

    pairs_there : (lists_of (with_free_blocks free s) d.content).catalog_pairs ≡ (volume_of a.content).catalog_pairs
    pairs_there = pairs_still v s rest free a b d settled lists put ∙ ap (λ (l : VolumeState). l.catalog_pairs) (sym settled.lists)

    entered : AddsEntry (link_entry folder name (volume_of a.content).head.next_catalog_id (volume_of a.content).head.modify_date fork) (volume_of a.content).catalog_pairs (lists_of w c.content).catalog_pairs
    entered = subst (λ (k : CatRecord × List Pair). AddsEntry (entry_in (free_place folder name) k.0) k.1 (lists_of w c.content).catalog_pairs) {x = (rec, (lists_of (with_free_blocks free s) d.content).catalog_pairs)}
        {y = (new_link_value (volume_of a.content).head.next_catalog_id (volume_of a.content).head.modify_date fork, (volume_of a.content).catalog_pairs)} (λ i. (rec_there i, pairs_there i)) adds.adds

    next_there : (volume_of a.content).head.next_catalog_id ≡ v.header.next_catalog_id
    next_there = ap (λ (l : VolumeState). l.head.next_catalog_id) settled.lists

    pub threads_put : AreThreaded (lists_of w c.content).catalog_pairs
    threads_put = link_threads a.content settled.sound folder name site fork (lists_of w c.content).catalog_pairs entered

    pub folder_put : v.header.next_catalog_id + 1 < 2 ^ 32 → HasFolder folder 1 (lists_of w c.content).catalog_pairs
    folder_put fits = link_folder a.content settled.sound folder name site fork (lists_of w c.content).catalog_pairs entered (omega (arith, fits, next_there))

    module _ (law : SymlinkDoes) (puts : RewritePuts) (was : IsStanding v a) (between : IsStanding w c) (x : Volume) (e : Space) (stands : IsStanding x e) (n : ℕ) (enough : n ≤ count_set (free_of v.map)) (marks : length v.map.changed ≡ sectors_for (length v.map.used))
        (least : 512 ≤ v.header.block_size) (value : List ℕ) (short : length value ≤ 1023) (many : n ≡ parts_for (length value) v.header.block_size) (map : s.map ≡ taken (parts_for (length value) v.header.block_size) v.map) (more : List Extent)
        (blocks : blocks_of more ≡ blocks_of (fresh_of v.map (parts_for (length value) v.header.block_size))) (few : length more ≤ fewest_of (parts_for (length value) v.header.block_size) (free_runs (free_of v.map)))
        (bytes : take (length value) (bytes_of_fork b.content v.header.block_size more) ≡ value) (outside : AgreesOutside (IsOneOf (sectors_in v.header.block_size (fresh_of v.map (parts_for (length value) v.header.block_size)))) a.content b.content)
        (map_put : PutsMap s b.content d.content) (less : free ≡ v.header.free_blocks - n) (fork_is : fork ≡ fork_with (length value) n more no_fork) (fits : FitsRecord rec) (good : is_target value ≡ true) (t : TouchesFolder folder 1 0 w x c.content e.content)
      where
        is : s ≡ record v { map = taken n v.map }
        is = rest ∙ ap (λ (m : BlockMap). record v { map = m }) (map ∙ ap (λ k. taken k v.map) (sym many))

        blocks_are : blocks_of more ≡ blocks_of (fresh_of v.map n)
        blocks_are = blocks ∙ ap (λ k. blocks_of (fresh_of v.map k)) (sym many)

        lists_are : lists_of (record v { map = taken n v.map }) b.content ≡ record (lists_of v a.content) { bits = bits_on (record v { map = taken n v.map }) }
        lists_are = subst (λ (y : Volume). lists_of y b.content ≡ record (lists_of v a.content) { bits = bits_on y }) is lists

        puts_map : PutsMap (record v { map = taken n v.map }) b.content d.content
        puts_map = subst (λ (y : Volume). PutsMap y b.content d.content) is map_put

        adds_there : AddsRecord false (new_link_value v.header.next_catalog_id v.header.modify_date fork) folder name (record v { map = taken n v.map; header = record v.header { free_blocks = free } }) w d.content c.content
        adds_there = subst (λ (k : CatRecord × Volume). AddsRecord false k.0 folder name (with_free_blocks free k.1) w d.content c.content) {x = (rec, s)} {y = (new_link_value v.header.next_catalog_id v.header.modify_date fork, record v { map = taken n v.map })} (λ i. (rec_now i, is i)) adds

        holds : length value ≤ n * v.header.block_size
        holds = subst (λ k. length value ≤ k * v.header.block_size) (sym many) (parts_hold (length value) v.header.block_size (omega (arith, least)))

        counted : free + n ≡ v.header.free_blocks
        counted = omega (arith, less, counted_free v a.content settled n enough)

        fits_file : FitsFile (link_file v.header.next_catalog_id v.header.modify_date fork)
        fits_file = subst FitsRecord rec_now fits

        sorted : AreSorted (lists_of w c.content).catalog_pairs
        sorted = tree_sorted IsCatalogKey (store_of (file_in (sectors_of_tree w.catalog.file) c.content)) between.trees.catalog.file.rules

        sorted_new : AreSorted (lists_of x e.content).catalog_pairs
        sorted_new = tree_sorted IsCatalogKey (store_of (file_in (sectors_of_tree x.catalog.file) e.content)) stands.trees.catalog.file.rules

        eight : length more ≤ 8
        eight = few_extents v.map (length value) v.header.block_size more short least few

        outside_fresh : AgreesOutside (λ k. Contains (sectors_in v.header.block_size (fresh_of v.map n)) k) a.content b.content
        outside_fresh = outside_of v a.content b.content (parts_for (length value) v.header.block_size) n (sym many) outside

        pub done : IsSettled x e.content × (tree_of e.content ≡ made_link (free_place folder name) value (tree_of a.content)) × LeavesLink (length value) (volume_of a.content) (volume_of e.content)
        done = (
          link_settled law v w x a e b.content d.content c.content was settled stands n enough marks least value more blocks_are eight bytes outside_fresh lists_are puts_map free counted holds fork fork_is fits_file folder name site good adds_there sorted t sorted_new,
          link_tree law v w x a e b.content d.content c.content was settled stands n enough marks least value more blocks_are eight bytes outside_fresh lists_are puts_map free counted holds fork fork_is fits_file folder name site good adds_there sorted t sorted_new,
          link_leaves law v w x a e b.content d.content c.content was settled stands n enough marks least value more blocks_are eight bytes outside_fresh lists_are puts_map free counted holds fork fork_is fits_file folder name site good adds_there sorted t sorted_new puts many,
        )
