-- What a short value is and what a long one is, and what the spill of a long one leaves.
use Rattle.std.proofs.Common.{◌≡◌, ◌<◌, ◌≤◌, ℕ, ◌+◌, ◌-◌, ◌*◌, ◌/◌, ◌==◌, Bool, true, false, not, List, [], ◌∷◌, ◌++◌, length, map, refl, sym, ◌∙◌, ap, subst, arith, inl, inr, ⊎_elim}
use Rattle.std.specs.Prelude.{Contains, nat_lt, slice_get, if◌then◌else◌}
use Rattle.std.proofs.lemmas.Bool.{cases_lt, lt-ltb, ltb-false, ltb-true, ne_eqb}
use Rattle.std.proofs.Math.Nat.{le-div_iff_mul-le}
use Rattle.std.proofs.lemmas.List.Elements.{Contains-append_right}
use Rattle.std.proofs.lemmas.Option.{slice_get_within, get_or_from_slice_get}
use Rattle.hx_bytes.specs.declared.extents.Extent.{Extent}
use Rattle.alloc_bitmap.specs.Map.{BlockMap, free_of, none, touched_by}
use Rattle.btree_file.specs.State.{sectors_of_tree}
use Rattle.file_io.specs.Bytes.{sectors_in}
use Rattle.file_io.specs.Places.{fresh_of, taken}
use Rattle.file_io.specs.Touching.{IsOneOf}
use Rattle.flag_rows.specs.Bits.{count_set, sectors_for}
use Rattle.flag_rows.specs.Marks.{mark_all}
use Rattle.flag_rows.specs.Runs.{fewest_of}
use Rattle.fork_map.specs.Blocks.{blocks_of}
use Rattle.hfs_volume.specs.Forks.{in_use, parts_for}
use Rattle.hfs_volume.specs.Values.{longest_inline}
use Rattle.hfs_volume.specs.Weight.{free_runs, runs_for}
use Rattle.sector_disk.specs.Lists.{Content, sector}
use Rattle.sector_disk.specs.Space.{AgreesOutside}
use Rattle.volume_base.specs.Standing.{attribute_sectors, map_sectors, own_sectors}
use Rattle.volume_base.specs.declared.volume.Volume.{Volume}
use Rattle.volume_space.proofs.PutBits.{taken_runs, touched_many}
use Rattle.volume_space.proofs.PutStages.{fresh_fit}
use Rattle.alloc_bitmap.proofs.TakeLaws.{picks_chosen}
use Rattle.volume_values.specs.Valuing.{blocks_of_new, runs_of_new, touched_by_value}
use Rattle.volume_values.proofs.ValuePut.{some_parts}

not_so : (b : Bool) → not b ≡ true → b ≡ false
not_so true is = absurd (cc is)
not_so false is = refl

not_not : (b : Bool) → not b ≡ false → b ≡ true
not_not true is = refl
not_not false is = absurd (cc is)

pub short_of : (long : ℕ) (said : Bool) → said ≡ not (nat_lt longest_inline long) → said ≡ true → (long ≤ 1700) × (nat_lt longest_inline long ≡ false)
short_of long said is true_ = let it = not_so (nat_lt longest_inline long) (sym is ∙ true_) in (ltb-false longest_inline long it, it)

pub long_of : (long : ℕ) (said : Bool) → said ≡ not (nat_lt longest_inline long) → said ≡ false → 1700 < long
long_of long said is false_ = ltb-true longest_inline long (not_not (nat_lt longest_inline long) (sym is ∙ false_))

-- the blocks of a long value
pub is_long : (value : List ℕ) (u : Volume) → 1700 < length value → blocks_of_new u (length value) ≡ parts_for (length value) u.header.block_size
is_long value u long = ap (λ b. if b then parts_for (length value) u.header.block_size else 0) (lt-ltb longest_inline (length value) long)

-- they are of so many runs
runs_are : (u : Volume) (value : List ℕ) → 512 ≤ u.header.block_size → 1700 < length value → runs_of_new u (length value) ≡ fewest_of (parts_for (length value) u.header.block_size) (free_runs (free_of u.map))
runs_are u value least long =
    ap (λ n. runs_for n (free_of u.map)) (is_long value u long)
    ∙ ap (λ b. if b then 0 else fewest_of (parts_for (length value) u.header.block_size) (free_runs (free_of u.map)))
    (ne_eqb (parts_for (length value) u.header.block_size) 0 (λ none_. absurd (omega (arith, none_, some_parts (length value) u.header.block_size (omega (arith, long)) (omega (arith, least))))))

in_use_few : (extents : List Extent) → length (in_use extents) ≤ length extents
in_use_few [] = omega arith
in_use_few (e ∷ rest) = by (e.count == 0) (in_use_few rest)
  where
    by : (b : Bool) → length (in_use rest) ≤ length rest → length ((if not b then e ∷ [] else []) ++ in_use rest) ≤ length (e ∷ rest)
    by true less = omega (arith, less)
    by false less = omega (arith, less)

pub runs_enough_all : (u : Volume) (value : List ℕ) → 512 ≤ u.header.block_size → 1700 < length value → (fork : List Extent) → length fork ≤ fewest_of (parts_for (length value) u.header.block_size) (free_runs (free_of u.map)) → length fork ≤ runs_of_new u (length value)
runs_enough_all u value least long fork few = omega (arith, few, runs_are u value least long)

pub runs_enough : (u : Volume) (value : List ℕ) → 512 ≤ u.header.block_size → 1700 < length value → (fork : List Extent) → length fork ≤ fewest_of (parts_for (length value) u.header.block_size) (free_runs (free_of u.map)) → length (in_use fork) ≤ runs_of_new u (length value)
runs_enough u value least long fork few = omega (arith, few, runs_are u value least long, in_use_few fork)

below_parts : (long block : ℕ) → long ≤ 131072 → 512 ≤ block → parts_for long block ≤ 256
below_parts long block small least =
    let some : 0 < block = omega (arith, least) in
    ⊎_elim (λ (low : parts_for long block < 257). omega (arith, low)) (λ (high : 257 ≤ parts_for long block). absurd (omega (arith, small, least, (le-div_iff_mul-le {k = block} {x = 257} {y = long + block - 1} some).0 high))) (cases_lt (parts_for long block) 257)

-- a value has at most 256 blocks
pub few_parts : (u : Volume) (value : List ℕ) → 512 ≤ u.header.block_size → length value ≤ 131072 → (enough : parts_for (length value) u.header.block_size ≤ count_set (free_of u.map)) → (fork : List Extent)
    → blocks_of fork ≡ blocks_of (fresh_of u.map (parts_for (length value) u.header.block_size)) → length (blocks_of fork) ≤ 256
few_parts u value least small enough fork is = omega (arith, ap (λ (l : List ℕ). length l) is, (picks_chosen (free_of u.map) (parts_for (length value) u.header.block_size) enough).count, below_parts (length value) u.header.block_size small least)

-- the sectors of the bitmap are the volume's own
pub map_own : (u : Volume) (s : ℕ) → Contains (map_sectors u) s → Contains (own_sectors u) s
map_own u s here = Contains-append_right (2 ∷ sectors_of_tree u.extents.file) (sectors_of_tree u.catalog.file ++ (attribute_sectors u ++ map_sectors u)) s
    (Contains-append_right (sectors_of_tree u.catalog.file) (attribute_sectors u ++ map_sectors u) s (Contains-append_right (attribute_sectors u) (map_sectors u) s here))

-- outside the blocks that were taken nothing is changed
pub outside_of : (u : Volume) (before after : Content) (parts many : ℕ) → parts ≡ many → AgreesOutside (IsOneOf (sectors_in u.header.block_size (fresh_of u.map parts))) before after
    → AgreesOutside (λ s. Contains (sectors_in u.header.block_size (fresh_of u.map many)) s) before after
outside_of u before after parts many same outside = record {
  size = outside.size;
  each = λ s. ⊎_elim
      (λ as_was. inl as_was)
      (λ is. inr (subst (λ n. Contains (sectors_in u.header.block_size (fresh_of u.map n)) s) same (is.0, slice_get_within (sectors_in u.header.block_size (fresh_of u.map parts)) is.0 s is.1, get_or_from_slice_get (sectors_in u.header.block_size (fresh_of u.map parts)) is.0 s s is.1)))
      (outside.each s);
}

touched_taken : (u : Volume) (many : ℕ) → many ≤ count_set (free_of u.map) → u.map.changed ≡ none (sectors_for (length u.map.used)) → count_set (taken many u.map).changed ≤ many / 4096 + 2 * length (fresh_of u.map many)
touched_taken u many enough unchanged = omega (
  arith,
  ap (λ (l : List Bool). count_set (mark_all l (map (λ (e : Extent). touched_by e) (fresh_of u.map many)) true)) unchanged,
  touched_many (length u.map.used) (fresh_of u.map many) (fresh_fit u.map many),
  (picks_chosen (free_of u.map) many enough).count,
)

-- few sectors of the bitmap were changed
pub touched_placed : (u : Volume) (value : List ℕ) → 1700 < length value → 512 ≤ u.header.block_size → parts_for (length value) u.header.block_size ≤ count_set (free_of u.map) → u.map.changed ≡ none (sectors_for (length u.map.used))
    → (m : BlockMap) → m ≡ taken (parts_for (length value) u.header.block_size) u.map → count_set m.changed ≤ touched_by_value (length value) u
touched_placed u value long least enough unchanged m is =
    let touched = touched_taken u (parts_for (length value) u.header.block_size) enough unchanged in
    let runs = taken_runs u.map (parts_for (length value) u.header.block_size) in
    let told : touched_by_value (length value) u ≡ blocks_of_new u (length value) / 4096 + 2 * runs_of_new u (length value) =
    ap (λ b. if b then 0 else blocks_of_new u (length value) / 4096 + 2 * runs_of_new u (length value))
    (ne_eqb (blocks_of_new u (length value)) 0 (λ none_. absurd (omega (arith, none_, is_long value u long, some_parts (length value) u.header.block_size (omega (arith, long)) (omega (arith, least)))))) in
    omega (arith, ap (λ (x : BlockMap). count_set x.changed) is, touched, runs, told, is_long value u long, runs_are u value least long)
