-- Whole forks: what the records of a fork that go on behind its own record give.
use Rattle.std.proofs.Common.{◌≡◌, ◌≢◌, ℕ, suc, ◌+◌, ◌-◌, ◌*◌, ◌/◌, ◌<◌, ◌≤◌, Bool, true, false, List, [], ◌∷◌, ◌++◌, length, map, take, refl, sym, ◌∙◌, ap, subst, arith, min}
use Rattle.std.specs.Prelude.{◌==◌, not, if◌then◌else◌}
use Rattle.std.specs.List.{flat_map}
use Rattle.std.proofs.lemmas.Bool.{ne_eqb, eqb-false, both_ways, and_parts, not-true}
use Rattle.std.proofs.lemmas.List.{length-append, take_all, length-map, take-append-drop}
use Rattle.hx_bytes.specs.Fork.{extents_at}
use Rattle.hx_bytes.specs.declared.extents.Extent.{Extent}
use Rattle.hx_bytes.specs.declared.extents.ForkRecord.{ForkRecord}
use Rattle.btree_node.specs.Levels.{Pair}
use Rattle.fork_map.specs.Blocks.{blocks_of}
use Rattle.hfs_model.specs.Sorted.{kept}
use Rattle.hfs_volume.specs.Blocks.{GoOn, GoesOn}
use Rattle.hfs_volume.specs.Forks.{in_use, is_full, is_of, parts_for, overflow_in, extents_of, extents_id}
use Rattle.hfs_volume.specs.Records.{Overflow, overflow_of}
use Rattle.overflow.specs.Changes.{changes_to}
use Rattle.overflow.specs.Reading.{is_behind, used_in, HasExtents}
use Rattle.overflow.specs.Records.{under, record_of, eight_at, records_for, front_record}
use Rattle.overflow.specs.declared.record.OverflowRecord.{OverflowRecord}
use Rattle.overflow.proofs.Changing.{RiseFrom, Makes, makes_wanted}
use Rattle.overflow.proofs.Cutting.{AreUsed, blocks_cons, eight_used, eight_full, eight_more, records_give, records_go_on, records_rise}
use Rattle.overflow.proofs.Finding.{Rising, all_behind}
use Rattle.overflow.proofs.Lists.{AreFrom, from_less}
use Rattle.overflow.proofs.Pairs.{of_fork_in}

-- ---- records that go on

pub used_under : (id kind : ℕ) (records : List OverflowRecord) → flat_map (λ (more : Overflow). in_use more.extents) (map (under id kind) records) ≡ used_in records
used_under id kind [] = refl
used_under id kind (one ∷ more) = ap (λ l. in_use one.extents.extents ++ l) (used_under id kind more)

starts_from : (place : ℕ) (full : Bool) (records : List Overflow) → GoOn place full records → AreFrom place records
starts_from place full [] go = tt
starts_from place full (one ∷ more) go = (
  omega (arith, go.0),
  from_less (place + length (blocks_of one.extents)) place more (omega arith) (starts_from (place + length (blocks_of one.extents)) (is_full one.extents) more go.2),
)

none_behind_room : (place : ℕ) (records : List Overflow) → GoOn place false records → records ≡ []
none_behind_room place [] go = refl
none_behind_room place (one ∷ more) go = absurd (both_ways false refl go.1)

full_used : (xs : List Extent) → is_full xs ≡ true → in_use xs ≡ xs
full_used [] full = refl
full_used (x ∷ xs) full =
    let parts = and_parts (not (x.count == 0)) (is_full xs) full in
    λ i. (if parts.0 i then x ∷ [] else []) ++ full_used xs parts.1 i

full_has_blocks : (xs : List Extent) → is_full xs ≡ true → 0 < length xs → 0 < length (blocks_of xs)
full_has_blocks [] full some = absurd (omega (arith, some))
full_has_blocks (x ∷ xs) full some =
    let parts = and_parts (not (x.count == 0)) (is_full xs) full in
    let used : x.count ≢ 0 = eqb-false x.count 0 (not-true (x.count == 0) parts.0) in
    omega (arith, blocks_cons x xs, used)

length_kept : {X : Type 0} (test : X → Bool) (xs : List X) → length (kept test xs) ≤ length xs
length_kept test [] = omega arith
length_kept {X} test (x ∷ xs) = by_test (test x) (length_kept test xs)
  where
    by_test : (b : Bool) → length (kept test xs) ≤ length xs → length ((if b then x ∷ [] else []) ++ kept test xs) ≤ length (x ∷ xs)
    by_test true less = omega (arith, less)
    by_test false less = omega (arith, less)

pub few_records : (id kind : ℕ) (pairs : List Pair) → length (of_fork_in id kind pairs) ≤ length pairs
few_records id kind pairs = omega (arith, length_kept (is_of id kind) (map overflow_of pairs), length-map pairs overflow_of)

-- each record has eight extents
abbrev pub HaveEight : List Overflow → Type 0
HaveEight [] = Unit {0}
HaveEight (one ∷ more) = (length one.extents ≡ 8) × HaveEight more

overflow_eight : (pair : Pair) → length (overflow_of pair).extents ≡ 8
unfolding overflow_of extents_at
overflow_eight pair = refl

pub pairs_eight : (id kind : ℕ) (pairs : List Pair) → HaveEight (of_fork_in id kind pairs)
pairs_eight id kind [] = tt
pairs_eight id kind (pair ∷ rest) = by_test (is_of id kind (overflow_of pair)) (pairs_eight id kind rest)
  where
    eight : length (overflow_of pair).extents ≡ 8
    eight = overflow_eight pair

    by_test : (b : Bool) → HaveEight (of_fork_in id kind rest) → HaveEight ((if b then overflow_of pair ∷ [] else []) ++ of_fork_in id kind rest)
    by_test true others = (eight, others)
    by_test false others = others

-- the extents in use of all records
abbrev pub used_by : List Overflow → List Extent
used_by records = flat_map (λ (more : Overflow). in_use more.extents) records

-- all but the last are full
few_go_on : (place : ℕ) (full : Bool) (records : List Overflow) → HaveEight records → GoOn place full records → 8 * length records ≤ 8 + length (used_by records)
few_go_on place full [] eight go = omega arith
few_go_on place full (one ∷ []) eight go = omega arith
few_go_on place full (one ∷ next ∷ more) eight go =
    let rest = few_go_on (place + length (blocks_of one.extents)) (is_full one.extents) (next ∷ more) eight.1 go.2 in
    let here = full_used one.extents go.2.1 in
    omega (arith, rest, eight.0, ap length here, length-append (in_use one.extents) (used_by (next ∷ more)))

-- ---- a fork in a tree

overflow_is : (overflow : List Overflow) (id kind : ℕ) → id ≢ extents_id → overflow_in overflow id kind ≡ kept (is_of id kind) overflow
overflow_is overflow id kind other = λ i. if ne_eqb id extents_id other i then [] else kept (is_of id kind) overflow

pub whole_is : (overflow : List Overflow) (id kind : ℕ) (fork : ForkRecord) → id ≢ extents_id → extents_of overflow id kind fork ≡ in_use fork.extents.extents ++ used_by (kept (is_of id kind) overflow)
unfolding extents_of
whole_is overflow id kind fork other = ap (λ l. in_use fork.extents.extents ++ used_by l) (overflow_is overflow id kind other)

pub goes_on_in : (overflow : List Overflow) (id kind : ℕ) (fork : ForkRecord) → id ≢ extents_id → GoesOn overflow (record { id = id; kind = kind; fork = fork })
    → GoOn (length (blocks_of fork.extents.extents)) (is_full fork.extents.extents) (kept (is_of id kind) overflow)
goes_on_in overflow id kind fork other go = subst (GoOn (length (blocks_of fork.extents.extents)) (is_full fork.extents.extents)) (overflow_is overflow id kind other) go

-- the extents overflow file has its record alone
pub own_record_alone : (overflow : List Overflow) (kind : ℕ) (fork : ForkRecord) → extents_of overflow extents_id kind fork ≡ in_use fork.extents.extents ++ []
unfolding extents_of
own_record_alone overflow kind fork = refl

-- so has a fork whose record has room
pub room_is_alone : (overflow : List Overflow) (id kind : ℕ) (fork : ForkRecord) → id ≢ extents_id → GoesOn overflow (record { id = id; kind = kind; fork = fork }) → is_full fork.extents.extents ≡ false
    → extents_of overflow id kind fork ≡ in_use fork.extents.extents ++ []
room_is_alone overflow id kind fork other go room =
    whole_is overflow id kind fork other
    ∙ ap (λ l. in_use fork.extents.extents ++ used_by l)
    (none_behind_room (length (blocks_of fork.extents.extents)) (kept (is_of id kind) overflow) (subst (λ b. GoOn (length (blocks_of fork.extents.extents)) b (kept (is_of id kind) overflow)) room (goes_on_in overflow id kind fork other go)))

-- all of a fork's records begin behind its first block
pub all_begin_later : (overflow : List Overflow) (id kind : ℕ) (fork : ForkRecord) → id ≢ extents_id → GoesOn overflow (record { id = id; kind = kind; fork = fork }) → 0 < length fork.extents.extents
    → kept (is_behind 0) (kept (is_of id kind) overflow) ≡ kept (is_of id kind) overflow
all_begin_later overflow id kind fork other go some = by_full (is_full fork.extents.extents) refl (goes_on_in overflow id kind fork other go)
  where
    by_full : (b : Bool) → is_full fork.extents.extents ≡ b → GoOn (length (blocks_of fork.extents.extents)) b (kept (is_of id kind) overflow) → kept (is_behind 0) (kept (is_of id kind) overflow) ≡ kept (is_of id kind) overflow
    by_full true is on = all_behind 0 (kept (is_of id kind) overflow) (from_less (length (blocks_of fork.extents.extents)) 1 (kept (is_of id kind) overflow) (omega (arith, full_has_blocks fork.extents.extents is some)) (starts_from (length (blocks_of fork.extents.extents)) true (kept (is_of id kind) overflow) on))
    by_full false is on = ap (kept (is_behind 0)) (none_behind_room (length (blocks_of fork.extents.extents)) (kept (is_of id kind) overflow) on) ∙ sym (none_behind_room (length (blocks_of fork.extents.extents)) (kept (is_of id kind) overflow) on)

-- what was read of a fork is the whole
pub loaded_is : (id kind most : ℕ) (pairs : List Pair) (fork : ForkRecord) (records : List OverflowRecord) → id ≢ extents_id → GoesOn (map overflow_of pairs) (record { id = id; kind = kind; fork = fork }) → 0 < length fork.extents.extents
    → length pairs ≤ most → map (under id kind) records ≡ take most (kept (is_behind 0) (of_fork_in id kind pairs)) → in_use fork.extents.extents ++ used_in records ≡ extents_of (map overflow_of pairs) id kind fork
loaded_is id kind most pairs fork records other go some enough read =
    let all = all_begin_later (map overflow_of pairs) id kind fork other go some in
    ap (λ l. in_use fork.extents.extents ++ l)
    (sym (used_under id kind records) ∙ ap used_by (read ∙ ap (take most) all ∙ take_all most (of_fork_in id kind pairs) (omega (arith, few_records id kind pairs, enough))))
    ∙ sym (whole_is (map overflow_of pairs) id kind fork other)

-- a fork with these extents has at most an eighth as many records
pub most_records : (id kind : ℕ) (pairs : List Pair) (extents : List Extent) → id ≢ extents_id → HasExtents (map overflow_of pairs) id kind extents → length (of_fork_in id kind pairs) ≤ length extents / 8
most_records id kind pairs extents other has = by_full (is_full has.fork.extents.extents) refl (goes_on_in (map overflow_of pairs) id kind has.fork other has.goes_on)
  where
    by_full : (b : Bool) → is_full has.fork.extents.extents ≡ b → GoOn (length (blocks_of has.fork.extents.extents)) b (of_fork_in id kind pairs) → length (of_fork_in id kind pairs) ≤ length extents / 8
    by_full true is on =
        let long = few_go_on (length (blocks_of has.fork.extents.extents)) true (of_fork_in id kind pairs) (pairs_eight id kind pairs) on in
        let all : length extents ≡ 8 + length (used_by (of_fork_in id kind pairs)) =
        omega (arith, ap length (sym has.is ∙ whole_is (map overflow_of pairs) id kind has.fork other), length-append (in_use has.fork.extents.extents) (used_by (of_fork_in id kind pairs)), ap length (full_used has.fork.extents.extents is), has.eight) in
        omega (arith, long, all)
    by_full false is on = omega (arith, ap length (none_behind_room (length (blocks_of has.fork.extents.extents)) (of_fork_in id kind pairs) on))

-- and those that were read are all
pub read_is_all : (id kind most leaf_records : ℕ) (pairs : List Pair) (extents : List Extent) (records : List OverflowRecord) → id ≢ extents_id → HasExtents (map overflow_of pairs) id kind extents
    → most ≡ min (length extents / 8) leaf_records → length pairs ≤ leaf_records → map (under id kind) records ≡ take most (kept (is_behind 0) (of_fork_in id kind pairs)) → map (under id kind) records ≡ of_fork_in id kind pairs
read_is_all id kind most leaf_records pairs extents records other has is_most few read =
    read ∙ ap (take most) (all_begin_later (map overflow_of pairs) id kind has.fork other has.goes_on (omega (arith, has.eight)))
    ∙ take_all most (of_fork_in id kind pairs) (omega (arith, is_most, few, few_records id kind pairs, most_records id kind pairs extents other has))

-- ---- the law of a stored fork

pub back_under : (id kind : ℕ) (records : List OverflowRecord) → map record_of (map (under id kind) records) ≡ records
back_under id kind [] = refl
back_under id kind (one ∷ more) = ap (λ l. one ∷ l) (back_under id kind more)

rise_of : (id kind low : ℕ) (records : List OverflowRecord) → AreFrom low (map (under id kind) records) → Rising (map (under id kind) records) → RiseFrom low records
rise_of id kind low [] from rises = tt
rise_of id kind low (one ∷ more) from rises = (from.0, rise_of id kind (suc one.start) more rises.0 rises.1)

all_from_0 : (records : List Overflow) → AreFrom 0 records
all_from_0 [] = tt
all_from_0 (one ∷ more) = (omega arith, all_from_0 more)

enough_left : (n : ℕ) → 0 < parts_for (n - 8) 8 → 8 + 8 * (parts_for (n - 8) 8 - 1) < n
enough_left n some = omega (arith, some)

wanted_rise : (extents : List Extent) → AreUsed extents → RiseFrom 0 (records_for extents)
wanted_rise extents used = records_rise (parts_for (length extents - 8) 8) 8 0 extents used (omega arith) (enough_left (length extents))

-- the changes make the records of a fork those wanted
pub changes_make : (id kind : ℕ) (old : List Overflow) (records : List OverflowRecord) (extents : List Extent) → Rising old → map (under id kind) records ≡ old → AreUsed extents
    → Makes id kind (changes_to records (records_for extents)) old (map (under id kind) (records_for extents))
changes_make id kind old records extents rises is used =
    subst (λ l. Makes id kind (changes_to records (records_for extents)) l (map (under id kind) (records_for extents))) is
    (makes_wanted id kind 0 [] records (records_for extents) tt
    (rise_of id kind 0 records (all_from_0 (map (under id kind) records)) (subst Rising (sym is) rises)) (wanted_rise extents used))

module _ (overflow : List Overflow) (id kind : ℕ) (extents : List Extent) (other : id ≢ extents_id) (used : AreUsed extents) (stored : kept (is_of id kind) overflow ≡ map (under id kind) (records_for extents)) where
  -- with the front record they give the extents
  pub stored_gives : extents_of overflow id kind (front_record extents) ≡ extents
  stored_gives =
      whole_is overflow id kind (front_record extents) other
      ∙ (λ i. eight_used extents 0 used i ++ used_by (stored i))
      ∙ ap (λ l. take 8 extents ++ l) (records_give id kind (parts_for (length extents - 8) 8) 8 extents used (omega arith))
      ∙ take-append-drop 8 extents

  -- and go on behind it
  pub stored_goes_on : GoesOn overflow (record { id = id; kind = kind; fork = front_record extents })
  stored_goes_on =
      subst (GoOn (length (blocks_of (eight_at extents 0).extents)) (is_full (eight_at extents 0).extents)) (sym (overflow_is overflow id kind other ∙ stored))
      (records_go_on id kind (parts_for (length extents - 8) 8) 8 (length (blocks_of (eight_at extents 0).extents)) (is_full (eight_at extents 0).extents) extents used
      (omega (arith, eight_more extents 0))
      (enough_left (length extents))
      (λ some. eight_full extents 0 used (omega (arith, enough_left (length extents) some))))
