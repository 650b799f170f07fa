-- What a put of data does to the lists of a volume: the file's record has another fork, whose extents have room in the record, and other dates; some
-- blocks have fresh ones in their place, and the header counts the free blocks anew.
use Rattle.volume_base.specs.declared.forks.ForkKind.TheVariants as kinds
use Rattle.volume_base.specs.declared.forks.ForkKind.{ForkKind}
use Rattle.volume_base.specs.Cutting.{fork_at, kind_of}
use Rattle.std.proofs.Common.{◌≡◌, ◌≢◌, inl, inr, ◌<◌, ◌≤◌, ℕ, ◌+◌, ◌-◌, ◌*◌, ◌==◌, Bool, true, false, not, List, [], ◌∷◌, ◌++◌, length, take, drop, refl, sym, ◌∙◌, ap, subst, arith, length-append}
use Rattle.std.specs.Prelude.{All, Contains, count_by, find, map, if◌then◌else◌}
use Rattle.std.specs.List.{flat_map, range_with_len}
use Rattle.std.proofs.lemmas.Bool.{eqb-true, eqb-false}
use Rattle.std.proofs.lemmas.List.{append-nil, take-append-drop}
use Rattle.std.proofs.lemmas.List.Elements.{Contains-append_left, Contains-append_right}
use Rattle.std.proofs.lemmas.Grind.{flat_map-append}
use Rattle.hx_bytes.specs.declared.extents.Extent.{Extent}
use Rattle.hx_bytes.specs.declared.extents.ForkRecord.{ForkRecord}
use Rattle.volume_header.specs.declared.header.VolumeHeader.{VolumeHeader}
use Rattle.btree_node.specs.Levels.{Pair}
use Rattle.cat_records.specs.declared.record.CatRecord.TheVariants.{File}
use Rattle.cat_records.specs.declared.record.FileRecord.{FileRecord}
use Rattle.fork_map.specs.Blocks.{blocks_of}
use Rattle.overflow.specs.Records.{eight_at}
use Rattle.hfs_model.specs.Sorted.{kept}
use Rattle.hfs_volume.specs.Blocks.{GoesOn, GoOn, HasSizes, LieInside, forks_of}
use Rattle.hfs_volume.specs.Changes.{FlipsBits, HasSameNodes, IsStored, with_free}
use Rattle.hfs_volume.specs.Commands.{ChangesFields}
use Rattle.hfs_volume.specs.Content.{VolumeState, is_set, overflow_in_volume, records_of}
use Rattle.hfs_volume.specs.Data.{AreFresh}
use Rattle.hfs_volume.specs.Forks.{Owned, all_forks, blocks_owned, data_kind, extents_id, extents_of, in_use, is_full, is_of, overflow_in}
use Rattle.hfs_volume.specs.Reclaim.{blocks_at, blocks_found, is_fork}
use Rattle.hfs_volume.specs.Records.{Overflow, Placed, overflow_of, entries_of, id_in, id_of, is_empty}
use Rattle.hfs_volume.specs.Sound.{IsSoundVolume}
use Rattle.hfs_volume.specs.TreeOf.{BytesOf}
use Rattle.hfs_volume.specs.Writing.{IsRewritten, KeepsOthers, MakesBytes, RewritesFork, file_before, in_fork}
use Rattle.hfs_volume.proofs.BlockWants.{in_range}
use Rattle.hfs_volume.proofs.Making.{alone_in}
use Rattle.hfs_volume.proofs.Members.{all_of, at_front, each_of, first_or_later}
use Rattle.hfs_volume.proofs.Seeing.{same_number}
use Rattle.hfs_volume.proofs.Untouched.{data_fork_of, file_fork_stands}
use Rattle.overflow.proofs.Cutting.{AreUsed, eight_used}
use Rattle.overflow.proofs.Whole.{stored_gives, stored_goes_on}
use Rattle.volume_space.specs.Spreading.{HoldsFork}
use Rattle.volume_base.specs.Spreading.{StoresFork}
use Rattle.volume_base.proofs.ForkKinds.{kind_is}
use Rattle.volume_space.proofs.SpreadFile.{all_in_use}
use Rattle.volume_space.proofs.GrownForks.{no_more}
use Rattle.volume_space.proofs.PutFork.{file_high, fork_found}
use Rattle.volume_space.proofs.Resized.{IsRecordOf, between, dated, halfway, middle, named, picked, stood, swaps, with_data, with_is}

-- ---- extents and their blocks

-- extents without blocks have none
pub used_blocks_same : (xs : List Extent) → blocks_of (in_use xs) ≡ blocks_of xs
used_blocks_same [] = refl
used_blocks_same (x ∷ xs) = by_test (used_blocks_same xs) (x.count == 0) refl
  where
    by_test : blocks_of (in_use xs) ≡ blocks_of xs → (b : Bool) → (x.count == 0) ≡ b → blocks_of ((if not b then x ∷ [] else []) ++ in_use xs) ≡ range_with_len x.start x.count ++ blocks_of xs
    by_test rest true is = rest ∙ sym (ap (λ n. range_with_len x.start n ++ blocks_of xs) (eqb-true x.count 0 is))
    by_test rest false is = ap (λ l. range_with_len x.start x.count ++ l) rest

-- eight of at most eight extents have the same blocks
pub eight_blocks : (xs : List Extent) → length xs ≤ 8 → blocks_of (eight_at xs 0).extents ≡ blocks_of xs
eight_blocks [] few = refl
eight_blocks (a ∷ []) few = refl
eight_blocks (a ∷ b ∷ []) few = refl
eight_blocks (a ∷ b ∷ c ∷ []) few = refl
eight_blocks (a ∷ b ∷ c ∷ d ∷ []) few = refl
eight_blocks (a ∷ b ∷ c ∷ d ∷ e ∷ []) few = refl
eight_blocks (a ∷ b ∷ c ∷ d ∷ e ∷ f ∷ []) few = refl
eight_blocks (a ∷ b ∷ c ∷ d ∷ e ∷ f ∷ g ∷ []) few = refl
eight_blocks (a ∷ b ∷ c ∷ d ∷ e ∷ f ∷ g ∷ h ∷ []) few = refl
eight_blocks (a ∷ b ∷ c ∷ d ∷ e ∷ f ∷ g ∷ h ∷ i ∷ rest) few = absurd (omega (arith, few))

-- an extent with blocks ends where its last block does
ends_below : (total : ℕ) (xs : List Extent) → ((block : ℕ) → Contains (blocks_of xs) block → block < total) → (x : Extent) → Contains (in_use xs) x → x.start + x.count ≤ total
ends_below total [] each x there = absurd (omega (arith, there.1))
ends_below total (y ∷ ys) each x there = by_test (λ has. ends_below total ys (λ block in_it. each block (Contains-append_right (range_with_len y.start y.count) (blocks_of ys) block in_it)) x has) (y.count == 0) refl there
  where
    by_test : (Contains (in_use ys) x → x.start + x.count ≤ total) → (b : Bool) → (y.count == 0) ≡ b → Contains ((if not b then y ∷ [] else []) ++ in_use ys) x → x.start + x.count ≤ total
    by_test later true is has = later has
    by_test later false is has = elim (first_or_later y x (in_use ys) has) [
      | inl same ↦ subst (λ (z : Extent). z.start + z.count ≤ total) (sym same)
          (let some = eqb-false y.count 0 is in let last = each (y.start + y.count - 1) (Contains-append_left (range_with_len y.start y.count) (blocks_of ys) (y.start + y.count - 1) (in_range y.start y.count (y.start + y.count - 1) (omega (arith, some)) (omega (arith, some)))) in omega (arith, last, some))
      | inr more ↦ later more
    ]

-- the entries around one
entries_around : (front back : List Placed) (entry : Placed) → is_empty entry.name ≡ false → entries_of (front ++ entry ∷ back) ≡ entries_of front ++ entry ∷ entries_of back
entries_around front back entry named =
    flat_map-append (λ (p : Placed). if not (is_empty p.name) then p ∷ [] else []) front (entry ∷ back)
    ∙ ap (λ l. entries_of front ++ (l ++ entries_of back)) (ap (λ b. if not b then entry ∷ [] else []) named)

-- so it is where the fork had fewer than eight extents and has eight at most
pub holds_few : (id kind : ℕ) (was fork : ForkRecord) (more : List Extent) (overflow : List Overflow) → length was.extents.extents ≡ 8 → length (extents_of overflow id kind was) < 8 → fork.extents ≡ eight_at more 0 → length more ≤ 8
    → GoesOn overflow (record { id = id; kind = kind; fork = was }) → HoldsFork id kind fork more overflow overflow
unfolding extents_of
holds_few id kind was fork more overflow eight few gets many goes = record {
  blocks = ap (λ (l : List Overflow). blocks_of (in_use fork.extents.extents ++ flat_map (λ (m : Overflow). in_use m.extents) l)) none_over ∙ ap blocks_of (append-nil (in_use fork.extents.extents)) ∙ used_blocks_same fork.extents.extents ∙ in_record;
  goes_on = subst (λ (l : List Overflow). GoOn (length (blocks_of fork.extents.extents)) (is_full fork.extents.extents) l) (sym none_over) tt;
  inside = λ total below. all_of (λ (e : Extent). e.start + e.count ≤ total) (in_use fork.extents.extents) (λ e has. ends_below total fork.extents.extents (λ block here. below block (subst (λ (l : List ℕ). Contains l block) in_record here)) e has);
  others = refl;
}
  where
    none_over : overflow_in overflow id kind ≡ []
    none_over = no_more _ was.extents.extents (overflow_in overflow id kind) eight (omega (arith, few, length-append (in_use was.extents.extents) (flat_map (λ (m : Overflow). in_use m.extents) (overflow_in overflow id kind)))) goes

    in_record : blocks_of fork.extents.extents ≡ blocks_of more
    in_record = ap (λ e. blocks_of e.extents) gets ∙ eight_blocks more many

-- and where its overflow records were stored
pub holds_stored : (id kind : ℕ) (fork : ForkRecord) (more : List Extent) (old new : List Pair) → 16 ≤ id → fork.extents ≡ eight_at more 0 → AreUsed more → StoresFork id kind more old new → HoldsFork id kind fork more (map overflow_of old) (map overflow_of new)
unfolding extents_of
holds_stored id kind fork more old new user gets used stores = record {
  blocks = ap blocks_of (ap (λ e. in_use e.extents ++ flat_map (λ (m : Overflow). in_use m.extents) (overflow_in (map overflow_of new) id kind)) gets ∙ stored_gives (map overflow_of new) id kind more other used stores.records);
  goes_on = subst (λ e. GoOn (length (blocks_of e.extents)) (is_full e.extents) (overflow_in (map overflow_of new) id kind)) (sym gets) (stored_goes_on (map overflow_of new) id kind more other used stores.records);
  inside = λ total below. subst (λ e. LieInside total e.extents) (sym gets)
      (subst (λ (l : List Extent). All (λ (e : Extent). e.start + e.count ≤ total) l) (sym (eight_used more 0 used))
      (all_of (λ (e : Extent). e.start + e.count ≤ total) (take 8 more) (λ e has. ends_below total more below e (subst (λ (l : List Extent). Contains l e) (sym (all_in_use more used)) (subst (λ (l : List Extent). Contains l e) (take-append-drop 8 more) (Contains-append_left (take 8 more) (drop 8 more) e has))))));
  others = stores.others;
}
  where
    other : id ≢ extents_id
    other same = omega (arith, same, user)

module _ (k : ForkKind) (from count moment parent : ℕ) (name : List ℕ) (fork : ForkRecord) (file : FileRecord) (fresh : List ℕ) (old new : VolumeState)
    (it : IsRecordOf k moment parent name fork file old.catalog_pairs new.catalog_pairs) (sound : IsSoundVolume old) (is_moment : moment ≡ old.head.modify_date) (nodes : HasSameNodes old.catalog_tree new.catalog_tree)
    (free : ℕ) (counts : free + length fresh ≡ old.head.free_blocks + count)
    (rest : new ≡ record old { head = with_free free old.head.next_allocation old.head; catalog_pairs = new.catalog_pairs; catalog_tree = new.catalog_tree; overflow_pairs = new.overflow_pairs; extents_tree = new.extents_tree; bits = new.bits })
    (are_fresh : AreFresh old fresh) (more : List Extent) (keeps_it : HoldsFork file.fields.id (kind_of k) fork more (overflow_in_volume old) (overflow_in_volume new)) (extents_nodes : HasSameNodes old.extents_tree new.extents_tree)
    (total : fork.total_blocks ≡ length (blocks_of more)) (holds : fork.logical_size ≤ length (blocks_of more) * old.head.block_size)
    (blocks : blocks_of more ≡ take from (blocks_of (extents_of (overflow_in_volume old) file.fields.id (kind_of k) (fork_at (kind_of k) file))) ++ (fresh ++ drop (from + count) (blocks_of (extents_of (overflow_in_volume old) file.fields.id (kind_of k) (fork_at (kind_of k) file)))))
    (within : from + count ≤ length (blocks_of (extents_of (overflow_in_volume old) file.fields.id (kind_of k) (fork_at (kind_of k) file))))
    (flips : FlipsBits fresh (take count (drop from (blocks_of (extents_of (overflow_in_volume old) file.fields.id (kind_of k) (fork_at (kind_of k) file))))) old (record old { bits = new.bits }))
    (below : (block : ℕ) → Contains (blocks_of more) block → block < old.head.total_blocks)
  where
    abbrev id : ℕ
    id = file.fields.id

    abbrev overflow : List Overflow
    overflow = overflow_in_volume old

    abbrev list : List Extent
    list = extents_of (overflow_in_volume old) file.fields.id (kind_of k) (fork_at (kind_of k) file)

    abbrev begun : VolumeState
    begun = record old { head = with_free free old.head.next_allocation old.head }

    abbrev put : VolumeState
    put = record old { head = with_free free old.head.next_allocation old.head; catalog_pairs = between k moment parent name fork file old.catalog_pairs new.catalog_pairs it; overflow_pairs = new.overflow_pairs; extents_tree = new.extents_tree; bits = new.bits }

    is_named : is_empty it.updates.entry.name ≡ false
    is_named = named k moment parent name fork file old new it sound

    there : Contains (entries_of (records_of old)) it.updates.entry
    there = stood k moment parent name fork file old new it sound

    high : 16 ≤ file.fields.id
    high = file_high old sound it.updates.entry there file it.value

    abbrev parts_front : List Placed
    parts_front = (halfway k moment parent name fork file old.catalog_pairs new.catalog_pairs it).front

    abbrev parts_back : List Placed
    parts_back = (halfway k moment parent name fork file old.catalog_pairs new.catalog_pairs it).back

    number : id_of it.updates.entry ≡ file.fields.id
    number = ap id_in it.value

    alone : (p : Placed) → Contains (entries_of parts_front) p → (id_of p == file.fields.id) ≡ false
    alone p has =
        let split = ap entries_of (halfway k moment parent name fork file old.catalog_pairs new.catalog_pairs it).was ∙ entries_around parts_front parts_back it.updates.entry is_named in
        subst (λ n. (id_of p == n) ≡ false) number
        (alone_in (λ (q : Placed). id_of q == id_of it.updates.entry) it.updates.entry (entries_of parts_front) (entries_of parts_back) (same_number (id_of it.updates.entry))
        (subst (λ l. count_by (λ (q : Placed). id_of q == id_of it.updates.entry) l ≤ 1) split (sound.entries.ids.distinct (id_of it.updates.entry))) p (Contains-append_left (entries_of parts_front) (entries_of parts_back) p has))

    pub was_at : (head : VolumeHeader) → blocks_found (overflow_in_volume old) (find (is_fork file.fields.id (kind_of k)) (all_forks head (records_of old))) ≡ blocks_of list
    was_at head =
        ap (λ l. blocks_found (overflow_in_volume old) (find (is_fork file.fields.id (kind_of k)) (all_forks head l))) (halfway k moment parent name fork file old.catalog_pairs new.catalog_pairs it).was
        ∙ fork_found head (overflow_in_volume old) parts_front parts_back it.updates.entry file is_named it.value high alone k

    pub now_blocks : blocks_of (extents_of (overflow_in_volume new) file.fields.id (kind_of k) fork) ≡ blocks_of more
    now_blocks = keeps_it.blocks

    is_at : blocks_at put file.fields.id (kind_of k) ≡ blocks_of more
    is_at =
        ap (λ l. blocks_found (overflow_in_volume new) (find (is_fork file.fields.id (kind_of k)) (all_forks put.head l))) (halfway k moment parent name fork file old.catalog_pairs new.catalog_pairs it).is
        ∙ fork_found put.head (overflow_in_volume new) parts_front parts_back (middle k moment parent name fork file old.catalog_pairs new.catalog_pairs it) (with_data k fork file) is_named refl high alone k
        ∙ ap (λ (f : ForkRecord). blocks_of (extents_of (overflow_in_volume new) file.fields.id (kind_of k) f)) (picked k fork file)
        ∙ now_blocks

    stored : IsStored file.fields.id (kind_of k) fork put
    stored = (
      record { inside = keeps_it.inside old.head.total_blocks below; blocks = ap (λ (l : List ℕ). length l) now_blocks ∙ sym total; bytes = subst (λ n. fork.logical_size ≤ n * old.head.block_size) (sym total) holds },
      keeps_it.goes_on,
    )

    pub rewrites : RewritesFork file.fields.id (kind_of k) from count fresh old new
    rewrites = record {
      put = put;
      puts = record {
        free = free;
        next = old.head.next_allocation;
        counts = counts;
        puts = record {
          is_kind = kind_is k;
          are_fresh = record { inside = are_fresh.inside; free = are_fresh.free; once = are_fresh.once };
          within = subst (λ (l : List ℕ). from + count ≤ length l) (sym (was_at begun.head)) within;
          is = is_at ∙ blocks ∙ (λ i. take from (sym (was_at begun.head) i) ++ (fresh ++ drop (from + count) (sym (was_at begun.head) i)));
          file = swaps k moment parent name fork file old.catalog_pairs new.catalog_pairs it file.fields.id refl;
          stored = stored;
          others = keeps_it.others;
          flips = subst (λ (l : List ℕ). FlipsBits fresh (take count (drop from l)) begun put) (sym (was_at begun.head)) (record { size = flips.size; taken = flips.taken; given = flips.given; others = flips.others });
          catalog_nodes = record { total = refl; size = refl };
          extents_nodes = extents_nodes;
          rest = refl;
        };
      };
      dates = subst (λ m. ChangesFields file.fields.id (IsRewritten m) put new) is_moment (dated k moment parent name fork file old.catalog_pairs new.catalog_pairs it file.fields.id refl put new refl refl nodes rest);
    }

    -- and its bytes are made so
    pub makes : (make : List ℕ → List ℕ) (bytes_of bytes_after : BytesOf) → bytes_after.file (with_data k fork file) ≡ in_fork (kind_of k) make (bytes_of.file file) → KeepsOthers file.fields.id old bytes_of bytes_after → MakesBytes make rewrites bytes_of bytes_after
    unfolding rewrites
    makes make bytes_of bytes_after made others = record { made = ap bytes_after.file (with_is k fork file) ∙ made; others = others }

    -- in between the fork is another one, and the header, the bits and the overflow records are those behind it
    pub put_is : (rewrites.put.head ≡ with_free free old.head.next_allocation old.head) × (rewrites.put.overflow_pairs ≡ new.overflow_pairs)
    unfolding rewrites
    put_is = (refl, refl)

    -- and the record before it is the file's
    pub before_is : file_before rewrites.puts ≡ file
    unfolding rewrites
    before_is = refl
