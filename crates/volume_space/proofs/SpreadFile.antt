-- The extents of a file's fork: where they stand, and the room to store those that a cut leaves.
use Rattle.std.proofs.Common.{◌≡◌, ◌≢◌, ◌⊎◌, inl, inr, ◌<◌, ◌≤◌, ℕ, zero, suc, ◌+◌, ◌-◌, ◌*◌, ◌/◌, ◌==◌, min, Bool, true, false, List, [], ◌∷◌, ◌++◌, length, map, take, drop, refl, sym, ◌∙◌, ap, subst, arith, length-append, length-take}
use Rattle.volume_space.specs.Spreading.{ChangesFew}
use Rattle.std.specs.Prelude.{Contains, not, Option, None, Some, if◌then◌else◌, slice_index_or}
use Rattle.std.specs.List.{range_with_len}
use Rattle.std.specs.Option.{option_map}
use Rattle.std.proofs.Math.Nat.{mul-le-mul_right}
use Rattle.std.proofs.lemmas.Bool.{both_ways, le-leb, ne_eqb}
use Rattle.std.proofs.lemmas.List.{take_all, take-append-le, take_more}
use Rattle.std.proofs.lemmas.List.FromFn.{length-range_with_len}
use Rattle.std.proofs.lemmas.List.Sums.{count_by-le-length}
use Rattle.hx_bytes.specs.declared.extents.Extent.{Extent}
use Rattle.hx_bytes.specs.declared.extents.ForkRecord.{ForkRecord}
use Rattle.sector_disk.specs.Lists.{Content}
use Rattle.sector_disk.specs.Space.{Space}
use Rattle.btree_node.specs.Store.{Store, HasRoom}
use Rattle.btree_node.specs.Tree.{pairs_of}
use Rattle.btree_edit.specs.Editing.{edit_writes}
use Rattle.btree_file.specs.Standing.{pairs_in}
use Rattle.btree_file.specs.State.{is_written, per_node, sectors_of_tree, state_of}
use Rattle.btree_file.specs.declared.tree.TreeFile.{TreeFile}
use Rattle.cat_records.specs.Fits.{FitsFile}
use Rattle.cat_records.specs.declared.record.CatRecord.TheVariants.{File}
use Rattle.cat_records.specs.declared.record.FileRecord.{FileRecord}
use Rattle.catalog.specs.Pairs.{value_at}
use Rattle.fork_map.specs.Blocks.{blocks_of}
use Rattle.fork_map.specs.Cut.{front}
use Rattle.hfs_model.specs.Sorted.{kept}
use Rattle.hfs_volume.specs.Blocks.{GoOn, GoesOn, forks_of}
use Rattle.hfs_volume.specs.Content.{VolumeState, overflow_in_volume, records_of, volume_of}
use Rattle.hfs_volume.specs.Forks.{data_kind, extents_id, extents_of, forks_in, in_use, is_full, is_of, parts_for, resource_kind}
use Rattle.hfs_volume.specs.Records.{Overflow, Placed, is_empty, is_placed_at, is_thread, overflow_of, record_at}
use Rattle.hfs_volume.proofs.Flat.{found_some, none_or_some, some_same}
use Rattle.hfs_volume.proofs.Members.{at_front, behind, each_of}
use Rattle.hfs_volume.proofs.Sides.{is_entry_of}
use Rattle.overflow.specs.Changes.{changes_to}
use Rattle.overflow.specs.Reading.{HasExtents, overflow_in_store}
use Rattle.overflow.specs.Records.{no_extent, record_of, records_for, records_from}
use Rattle.overflow.specs.Room.{HasStoreRoom}
use Rattle.overflow.proofs.Cutting.{AreUsed}
use Rattle.overflow.proofs.Whole.{goes_on_in, pairs_eight, used_by, whole_is}
use Rattle.volume_base.specs.Changing.{KeepsBlocks}
use Rattle.volume_base.specs.Cutting.{IsCutOf, IsLastCut, fork_at}
use Rattle.volume_space.specs.Cutting.{IsForkOf}
use Rattle.volume_base.specs.Cutting.{kind_of}
use Rattle.volume_base.specs.Lists.{lists_of}
use Rattle.volume_base.specs.Reading.{HasFile}
use Rattle.volume_base.specs.Standing.{IsSettled}
use Rattle.volume_base.specs.declared.cutting.Cut.{Cut}
use Rattle.volume_base.specs.declared.forks.ForkKind.{ForkKind}
use Rattle.volume_base.specs.declared.forks.ForkKind.TheVariants as kinds
use Rattle.volume_base.specs.declared.entries.Entry.{Entry}
use Rattle.volume_base.specs.declared.volume.Volume.{Volume}
use Rattle.volume_base.proofs.CutForks.{fork_owned, front_few, front_used, full_all}
use Rattle.volume_base.proofs.CutLists.{extents_used}
use Rattle.volume_base.proofs.Extending.{overflow_told}
use Rattle.volume_space.proofs.RecordCounts.{records_counted}
use Rattle.volume_space.proofs.FewChanges.{AreFew, blocks_both, few_kept, past_eight}
use Rattle.volume_base.proofs.NextDrop.{fork_stands}

-- ---- a file and its forks

pub eight_in : (k : ForkKind) (file : FileRecord) → FitsFile file → length (fork_at (kind_of k) file).extents.extents ≡ 8
eight_in kinds.Data file fits = fits.data_fork.extents.eight
eight_in kinds.Resource file fits = fits.resource_fork.extents.eight

pub total_in : (k : ForkKind) (file : FileRecord) → FitsFile file → (fork_at (kind_of k) file).total_blocks < 4294967296
total_in kinds.Data file fits = fits.data_fork.total_blocks
total_in kinds.Resource file fits = fits.resource_fork.total_blocks

named_entry : {X Y : Type 0} (f : X → Y) (o : Option X) (y : Y) → option_map f o ≡ Some y → (x : X) × (o ≡ Some x) × (f x ≡ y)
named_entry f None y is = absurd (none_or_some y is)
named_entry f (Some x) y is = (x, refl, some_same (f x) y is)

module _ (v : Volume) (content : Content) (settled : IsSettled v content) (entry : Entry) (file : FileRecord) (there : value_at (lists_of v content).catalog_pairs entry.parent entry.name ≡ Some entry.rec) (is : entry.rec ≡ File file) where
  pub has_file : HasFile (records_of (volume_of content)) file
  has_file =
      let now : value_at (volume_of content).catalog_pairs entry.parent entry.name ≡ Some (File file) = ap (λ (l : VolumeState). value_at l.catalog_pairs entry.parent entry.name) settled.lists ∙ there ∙ ap Some is in
      let at = named_entry (λ (p : Placed). p.value) (record_at (records_of (volume_of content)) entry.parent entry.name) (File file) now in
      let stands = found_some (is_placed_at entry.parent entry.name) (records_of (volume_of content)) at.0 at.1 in
      let named : is_empty at.0.name ≡ false = sym (each_of (λ (p : Placed). is_thread p.value ≡ is_empty p.name) (records_of (volume_of content)) settled.sound.entries.threads.kinds at.0 stands.0) ∙ ap is_thread at.2 in
      record { entry = at.0; stands = is_entry_of (records_of (volume_of content)) at.0 stands.0 named; value = at.2 }

owned_in : (k : ForkKind) (file : FileRecord) → Contains (forks_in (File file)) (fork_owned (kind_of k) file)
owned_in kinds.Data file = at_front (fork_owned data_kind file) (fork_owned resource_kind file ∷ [])
owned_in kinds.Resource file = behind (fork_owned data_kind file) (fork_owned resource_kind file) (fork_owned resource_kind file ∷ []) (at_front (fork_owned resource_kind file) [])

-- the overflow records of each of its forks go on behind its record
pub goes_on_for : (v : Volume) (content : Content) → IsSettled v content → (k : ForkKind) (file : FileRecord) → HasFile (records_of (volume_of content)) file → GoesOn (overflow_in_volume (volume_of content)) (fork_owned (kind_of k) file)
goes_on_for v content settled k file has =
    each_of (GoesOn (overflow_in_volume (volume_of content))) (forks_of (volume_of content)) settled.sound.blocks.forks.goes_on (fork_owned (kind_of k) file)
    (fork_stands (volume_of content) settled.sound has.entry has.stands (fork_owned (kind_of k) file) (subst (λ x. Contains (forks_in x) (fork_owned (kind_of k) file)) (sym has.value) (owned_in k file)))

pub goes_on_told : (v : Volume) (content : Content) → IsSettled v content → (k : ForkKind) (file : FileRecord) → HasFile (records_of (volume_of content)) file
    → GoesOn (map overflow_of (pairs_in (sectors_of_tree v.extents.file) content)) (record { id = file.fields.id; kind = kind_of k; fork = fork_at (kind_of k) file })
goes_on_told v content settled k file has = subst (λ (o : List Overflow). GoesOn o (fork_owned (kind_of k) file)) (overflow_told v content settled) (goes_on_for v content settled k file has)

-- ---- a list of extents of which all have blocks

pub all_in_use : (xs : List Extent) → AreUsed xs → in_use xs ≡ xs
all_in_use [] used = refl
all_in_use (x ∷ xs) used = λ i. (if not (ne_eqb x.count 0 used.0 i) then x ∷ [] else []) ++ all_in_use xs used.1 i

-- the extents that a cut leaves: all but the last are as they were
module _ (keep : ℕ) (list : List Extent) (cut : Cut) (last : IsLastCut keep list cut) where
  front_keeps : (xs : List Extent) (k left : ℕ) → length xs ≡ suc k → length (blocks_of (take k xs)) ≤ left → (take k (front left xs) ≡ take k xs) × (length xs ≤ length (front left xs) + 1)
  front_keeps [] k left long less = absurd (omega (arith, long))
  front_keeps (x ∷ xs) zero left long less = (refl, omega (arith, long))
  front_keeps (x ∷ xs) (suc k) left long less =
      let counted : x.count + length (blocks_of (take k xs)) ≤ left = omega (arith, less, blocks_both (x ∷ []) (take k xs), blocks_both (x ∷ []) [], length-range_with_len x.start x.count, length-append (range_with_len x.start x.count) []) in
      let later = front_keeps xs k (left - x.count) (omega (arith, long)) (omega (arith, counted)) in
      let is : front left (x ∷ xs) ≡ x ∷ front (left - x.count) xs = ap (λ b. if b then x ∷ front (left - x.count) xs else if left == 0 then [] else record { start = x.start; count = left } ∷ []) (le-leb x.count left (omega (arith, counted))) in
      (ap (take (suc k)) is ∙ ap (λ l. x ∷ l) later.0, omega (arith, ap (λ (l : List Extent). length l) is, later.1))

  some : 0 < length list
  some = by list (last.sum) (last.some)
    where
      by : (xs : List Extent) → last.left + cut.goes.count ≡ length (blocks_of xs) → 0 < cut.goes.count → 0 < length xs
      by [] sum some = absurd (omega (arith, sum, some))
      by (x ∷ xs) sum some = omega arith

  kept_front : (take (length list - 1) cut.stays ≡ take (length list - 1) list) × (length list ≤ length cut.stays + 1)
  kept_front = subst (λ (l : List Extent). (take (length list - 1) l ≡ take (length list - 1) list) × (length list ≤ length l + 1)) (sym last.stays)
      (front_keeps list (length list - 1) last.left (omega (arith, some)) last.near)

  most : length cut.stays ≤ length list
  most = omega (arith, ap (λ (l : List Extent). length l) last.stays, front_few last.left list)

  module _ (store : Store) (id kind : ℕ) (other : id ≢ extents_id) (fork : ForkRecord) (eight : length fork.extents.extents ≡ 8) (is_list : list ≡ extents_of (overflow_in_store store) id kind fork)
      (goes : GoesOn (overflow_in_store store) (record { id = id; kind = kind; fork = fork })) where
    used : AreUsed list
    used = subst AreUsed (sym is_list) (extents_used (overflow_in_store store) id kind fork)

    pub stays_used : AreUsed cut.stays
    stays_used = subst AreUsed (sym last.stays) (front_used last.left list used)

    abbrev records : List Overflow
    records = kept (is_of id kind) (map overflow_of (pairs_of store))

    whole : list ≡ in_use fork.extents.extents ++ used_by records
    whole = is_list ∙ whole_is (overflow_in_store store) id kind fork other

    -- they are counted by the extents
    filled : length records ≡ parts_for (length list - 8) 8
    filled = records_counted id kind (pairs_of store) list other (record { fork = fork; eight = eight; is = sym is_list; goes_on = goes })

    few_once : (b : Bool) → is_full fork.extents.extents ≡ b → AreFew 1 (changes_to (map record_of records) (records_for cut.stays))
    few_once true full =
        let front_is : in_use fork.extents.extents ≡ fork.extents.extents = full_all fork.extents.extents full in
        let whole_now : list ≡ fork.extents.extents ++ used_by records = whole ∙ ap (λ (l : List Extent). l ++ used_by records) front_is in
        few_kept list cut.stays stays_used kept_front.0 kept_front.1 most records 8 (length (blocks_of fork.extents.extents)) (pairs_eight id kind (pairs_of store))
        (subst (λ b. GoOn (length (blocks_of fork.extents.extents)) b records) full (goes_on_in (overflow_in_store store) id kind fork other goes))
        (ap (λ (l : List Extent). length (blocks_of l)) (sym (ap (take 8) whole_now ∙ take-append-le 8 fork.extents.extents (used_by records) (omega (arith, eight)) ∙ take_all 8 fork.extents.extents (omega (arith, eight)))))
        (ap (drop 8) whole_now ∙ past_eight fork.extents.extents (used_by records) eight)
        (omega (arith, ap (λ (l : List Extent). length l) whole_now, length-append fork.extents.extents (used_by records), eight))
        filled
    few_once false full =
        by records (subst (λ b. GoOn (length (blocks_of fork.extents.extents)) b records) full (goes_on_in (overflow_in_store store) id kind fork other goes)) whole
      where
        in_few : (xs : List Extent) → length (in_use xs) ≤ length xs
        in_few [] = omega arith
        in_few (x ∷ xs) = one (x.count == 0) (in_few xs)
          where
            one : (b : Bool) → length (in_use xs) ≤ length xs → length ((if not b then x ∷ [] else []) ++ in_use xs) ≤ length (x ∷ xs)
            one true less = omega (arith, less)
            one false less = omega (arith, less)

        by : (more : List Overflow) → GoOn (length (blocks_of fork.extents.extents)) false more → list ≡ in_use fork.extents.extents ++ used_by more → AreFew 1 (changes_to (map record_of more) (records_for cut.stays))
        by [] on whole_now =
            let none : parts_for (length cut.stays - 8) 8 ≡ 0 = omega (arith, most, ap (λ (l : List Extent). length l) whole_now, length-append (in_use fork.extents.extents) [], in_few fork.extents.extents, eight) in
            subst (λ n. AreFew 1 (changes_to [] (records_from n 8 cut.stays))) (sym none) (refl, omega arith)
        by (one ∷ more) on whole_now = absurd (both_ways false refl on.1)

    -- one change at most, which adds no record
    pub few_one : AreFew 1 (changes_to (map record_of records) (records_for (in_use cut.stays)))
    few_one = subst (λ (l : List Extent). AreFew 1 (changes_to (map record_of records) (records_for l))) (sym (all_in_use cut.stays stays_used)) (few_once (is_full fork.extents.extents) refl)

    -- room for it
    pub room_to_store : HasRoom (edit_writes store.shape.depth) store → HasStoreRoom store id kind cut.stays
    room_to_store room =
        let changes = few_one in
        inr (record {
          light = changes.0;
          writes = omega (arith, room, mul-le-mul_right {m = length (changes_to (map record_of records) (records_for (in_use cut.stays)))} {n = 1} (edit_writes store.shape.depth) changes.1);
        })

-- ---- room, by the numbers of the file

-- where so many nodes, or all of the file, may be put, a store over it has room to write so many
pub room_by_nodes : (many : ℕ) (tree : TreeFile) (space : Space) (names : List ℕ) → min many tree.shape.total ≤ space.spare / per_node tree.shape → HasRoom many (state_of names tree space)
room_by_nodes many tree space names enough =
    omega (arith, enough, count_by-le-length (λ n. not (is_written tree space.put n)) (range_with_len 0 tree.shape.total), length-range_with_len 0 tree.shape.total)

-- ---- the last extent

-- the blocks of all but the last extent, and those of the last
pub last_counts : (xs : List Extent) → length (blocks_of (take (length xs - 1) xs)) + (slice_index_or xs (length xs - 1) no_extent).count ≡ length (blocks_of xs)
last_counts [] = refl
last_counts (x ∷ xs) =
    let all = x ∷ xs in
    let i : ℕ = length xs in
    let at : length (x ∷ xs) - 1 ≡ length xs = omega arith in
    let it : Extent = slice_index_or (x ∷ xs) (length xs) no_extent in
    let split : take (length xs + 1) (x ∷ xs) ≡ take (length xs) (x ∷ xs) ++ it ∷ [] = take_more (x ∷ xs) (length xs) no_extent (omega arith) in
    let whole : take (length xs + 1) (x ∷ xs) ≡ x ∷ xs = take_all (length xs + 1) (x ∷ xs) (omega arith) in
    (λ j. length (blocks_of (take (at j) (x ∷ xs))) + (slice_index_or (x ∷ xs) (at j) no_extent).count)
    ∙ (let sum : length (blocks_of (take (length xs) (x ∷ xs))) + it.count ≡ length (blocks_of (x ∷ xs)) = omega (arith, ap (λ (l : List Extent). length (blocks_of l)) (sym whole ∙ split), blocks_both (take (length xs) (x ∷ xs)) (it ∷ []), length-range_with_len it.start it.count, length-append (range_with_len it.start it.count) []) in sum)

-- ---- what a store of a file's fork asks for

module _ (v : Volume) (content : Content) (settled : IsSettled v content) (k : ForkKind) (file : FileRecord) (has : HasFile (records_of (volume_of content)) file) (eight : length (fork_at (kind_of k) file).extents.extents ≡ 8) (list : List Extent) (is_list : IsForkOf list (kind_of k) file content) where
  -- a fork has the extents that it has
  pub has_extents : (overflow : List Overflow) (kind : ℕ) → kind ≡ kind_of k → overflow ≡ overflow_in_volume (volume_of content) → HasExtents overflow file.fields.id kind list
  has_extents overflow kind is same =
      subst (λ (o : List Overflow × ℕ). HasExtents o.0 file.fields.id o.1 list) {x = (overflow_in_volume (volume_of content), kind_of k)} {y = (overflow, kind)} (λ i. (sym same i, sym is i))
      (record { fork = fork_at (kind_of k) file; eight = eight; is = sym is_list; goes_on = goes_on_for v content settled k file has })

  -- and there is room for those that a cut leaves, where there is for a change
  pub store_room : (keep : ℕ) (cut : Cut) → IsLastCut keep list cut → (store : Store) (kind : ℕ) → kind ≡ kind_of k → overflow_in_store store ≡ overflow_in_volume (volume_of content) → 16 ≤ file.fields.id
      → HasRoom (edit_writes store.shape.depth) store → HasStoreRoom store file.fields.id kind cut.stays
  store_room keep cut last store kind is same user room =
      room_to_store keep list cut last store file.fields.id kind (λ own. absurd (omega (arith, own, user))) (fork_at (kind_of k) file) eight
      (is_list ∙ (λ i. extents_of (sym same i) file.fields.id (sym is i) (fork_at (kind_of k) file)))
      (subst (λ (o : List Overflow × ℕ). GoesOn o.0 (record { id = file.fields.id; kind = o.1; fork = fork_at (kind_of k) file })) {x = (overflow_in_volume (volume_of content), kind_of k)} {y = (overflow_in_store store, kind)} (λ i. (sym same i, sym is i)) (goes_on_for v content settled k file has))
      room

  -- one change at most makes its overflow records those of what a cut leaves
  pub store_few : (keep : ℕ) (cut : Cut) → IsLastCut keep list cut → (store : Store) (kind : ℕ) → kind ≡ kind_of k → overflow_in_store store ≡ overflow_in_volume (volume_of content) → 16 ≤ file.fields.id
      → ChangesFew 1 store file.fields.id kind cut.stays
  store_few keep cut last store kind is same user =
      few_one keep list cut last store file.fields.id kind (λ own. absurd (omega (arith, own, user))) (fork_at (kind_of k) file) eight
      (is_list ∙ (λ i. extents_of (sym same i) file.fields.id (sym is i) (fork_at (kind_of k) file)))
      (subst (λ (o : List Overflow × ℕ). GoesOn o.0 (record { id = file.fields.id; kind = o.1; fork = fork_at (kind_of k) file })) {x = (overflow_in_volume (volume_of content), kind_of k)} {y = (overflow_in_store store, kind)} (λ i. (sym same i, sym is i)) (goes_on_for v content settled k file has))

-- the extents that a cut leaves all have blocks
pub stays_in_use : (keep : ℕ) (list : List Extent) (cut : Cut) (kind : ℕ) (file : FileRecord) (content : Content) → IsLastCut keep list cut → IsForkOf list kind file content → in_use cut.stays ≡ cut.stays
stays_in_use keep list cut kind file content last is_list =
    all_in_use cut.stays (subst AreUsed (sym last.stays) (front_used last.left list (subst AreUsed (sym is_list) (extents_used (overflow_in_volume (volume_of content)) file.fields.id kind (fork_at kind file)))))

-- they have as many blocks as a fork may have
pub few_stay : (keep : ℕ) (list : List Extent) (cut : Cut) (k : ForkKind) (file : FileRecord) → FitsFile file → IsCutOf list (fork_at (kind_of k) file) keep cut → length (blocks_of cut.stays) < 4294967296
few_stay keep list cut k file fits is_cut =
    omega (arith, total_in k file fits, is_cut.blocks, ap (λ (l : List ℕ). length l) is_cut.last.stay, length-take is_cut.last.left (blocks_of list))

-- a volume of which the extents overflow file alone was edited has the blocks that it had
pub blocks_stored : (v w : Volume) → w ≡ record v { extents = w.extents } → KeepsBlocks v w
blocks_stored v w rest = record { map = ap (λ (x : Volume). x.map) rest; shrunk = ap (λ (x : Volume). x.shrunk) rest; capacity = ap (λ (x : Volume). x.capacity) rest }
