-- A tree file that goes back to an earlier state.
use Rattle.std.proofs.Common.{◌≡◌, ◌≢◌, ℕ, ◌+◌, ◌-◌, ◌*◌, ◌/◌, ◌%◌, ◌≤◌, ◌<◌, List, [], ◌∷◌, ◌++◌, length, get_or, take, drop, min, refl, sym, ◌∙◌, ap, subst, arith, ⊎_elim, length-append}
use Rattle.std.specs.List.{All, range_with_len}
use Rattle.std.proofs.Math.Nat.{mul-le-mul_right}
use Rattle.std.proofs.Math.Seq.{take-append_seam}
use Rattle.std.proofs.lemmas.Bool.{cases_lt, cases_eq}
use Rattle.std.proofs.lemmas.Grind.{div_ceil_times}
use Rattle.std.proofs.lemmas.List.{take-append-drop, length-take, get_or-take, get_or_append_left, get_or-append_right}
use Rattle.std.proofs.lemmas.List.Concat.{flat_map-append}
use Rattle.std.proofs.lemmas.List.FromFn.{length-range_with_len}
use Rattle.hx_bytes.specs.declared.extents.Extent.{Extent}
use Rattle.fork_map.specs.Blocks.{blocks_of, sectors_of, fork_sectors}
use Rattle.fork_map.proofs.Laws.{no_sectors}
use Rattle.btree_node.specs.TreeFile.{tree_head, shape_of}
use Rattle.btree_node.specs.declared.store.TreeShape.{TreeShape}
use Rattle.sector_disk.specs.Lists.{Content}
use Rattle.sector_disk.specs.Space.{Space}
use Rattle.btree_file.specs.Growth.{GrewFrom}
use Rattle.btree_file.specs.Place.{AreApart, IsInside}
use Rattle.btree_file.specs.Standing.{Stands}
use Rattle.btree_file.specs.State.{sectors_of_tree, nodes_on, HasMap}
use Rattle.btree_file.specs.declared.tree.Stretch.{Stretch}
use Rattle.btree_file.specs.declared.tree.TreeFile.{TreeFile}
use Rattle.btree_file.proofs.MoreNodes.{node_front}
use Rattle.btree_file.proofs.StandingLaws.{some_sector}

-- ---- numbers

pub length_sectors : (per : ℕ) (bs : List ℕ) → length (sectors_of per bs) ≡ length bs * per
length_sectors per [] = omega arith
length_sectors per (b ∷ bs) = omega (arith, length-append (range_with_len (b * per) per) (sectors_of per bs), length-range_with_len (b * per) per, length_sectors per bs)

blocks_exact : (count per : ℕ) → 0 < per → (count * per) / per + min 1 ((count * per) % per) ≡ count
blocks_exact count per some =
    let times = div_ceil_times (count * per) per some in
    ⊎_elim
    (λ (less : (count * per) / per + min 1 ((count * per) % per) < count). let more = mul-le-mul_right {m = (count * per) / per + min 1 ((count * per) % per) + 1} {n = count} per (omega (arith, less)) in absurd (omega (arith, more, times.0, some)))
    (λ (enough : count ≤ (count * per) / per + min 1 ((count * per) % per)). ⊎_elim
    (λ (over : count < (count * per) / per + min 1 ((count * per) % per)). let more = mul-le-mul_right {m = count + 1} {n = (count * per) / per + min 1 ((count * per) % per)} per (omega (arith, over)) in absurd (omega (arith, more, times.1)))
    (λ (within : (count * per) / per + min 1 ((count * per) % per) ≤ count). omega (arith, enough, within))
    (cases_lt count ((count * per) / per + min 1 ((count * per) % per))))
    (cases_lt ((count * per) / per + min 1 ((count * per) % per)) count)

-- the blocks that are kept hold the sectors that they are kept for
pub kept_whole : (fork list : List Extent) (per count : ℕ) → 0 < per → count ≤ length (fork_sectors fork per) → blocks_of list ≡ take (count / per + min 1 (count % per)) (blocks_of fork) → count ≤ length (fork_sectors list per)
kept_whole fork list per count some whole is =
    let times = div_ceil_times count per some in
    let blocks : length (blocks_of list) ≡ min (count / per + min 1 (count % per)) (length (blocks_of fork)) = ap (λ (l : List ℕ). length l) is ∙ length-take (count / per + min 1 (count % per)) (blocks_of fork) in
    ⊎_elim
    (λ (less : count / per + min 1 (count % per) < length (blocks_of fork)).
    let same : length (blocks_of list) * per ≡ (count / per + min 1 (count % per)) * per = ap (λ n. n * per) (blocks ∙ omega (arith, less)) in omega (arith, times.0, same, length_sectors per (blocks_of list)))
    (λ (all : length (blocks_of fork) ≤ count / per + min 1 (count % per)).
    let same : length (blocks_of list) * per ≡ length (blocks_of fork) * per = ap (λ n. n * per) (blocks ∙ omega (arith, all)) in omega (arith, whole, same, length_sectors per (blocks_of list), length_sectors per (blocks_of fork)))
    (cases_lt (count / per + min 1 (count % per)) (length (blocks_of fork)))

apart_front : (xs ys : List ℕ) → AreApart (xs ++ ys) → AreApart xs
apart_front xs ys apart i j i_in j_in same =
    apart i j (omega (arith, i_in, length-append xs ys)) (omega (arith, j_in, length-append xs ys)) (get_or_append_left xs ys 0 i i_in ∙ same ∙ sym (get_or_append_left xs ys 0 j j_in))

pub kept_apart : (fork list : List Extent) (per blocks : ℕ) → AreApart (fork_sectors fork per) → blocks_of list ≡ take blocks (blocks_of fork) → AreApart (fork_sectors list per)
kept_apart fork list per blocks apart is =
    let whole : fork_sectors fork per ≡ sectors_of per (take blocks (blocks_of fork)) ++ sectors_of per (drop blocks (blocks_of fork)) =
    ap (λ l. sectors_of per l) (sym (take-append-drop blocks (blocks_of fork))) ∙ flat_map-append (λ block. range_with_len (block * per) per) (take blocks (blocks_of fork)) (drop blocks (blocks_of fork)) in
    subst (λ l. AreApart (sectors_of per l)) (sym is) (apart_front (sectors_of per (take blocks (blocks_of fork))) (sectors_of per (drop blocks (blocks_of fork))) (subst AreApart whole apart))

-- and lie in a space as before
pub kept_inside : (fork list : List Extent) (per blocks : ℕ) (old new : Space) → IsInside fork per old → new.sectors ≡ old.sectors → blocks_of list ≡ take blocks (blocks_of fork) → IsInside list per new
kept_inside fork list per blocks old new inside same is k low =
    let front : List ℕ = fork_sectors list per in
    let behind : List ℕ = sectors_of per (drop blocks (blocks_of fork)) in
    let whole : fork_sectors fork per ≡ front ++ behind =
    ap (λ l. sectors_of per l) (sym (take-append-drop blocks (blocks_of fork))) ∙ flat_map-append (λ block. range_with_len (block * per) per) (take blocks (blocks_of fork)) (drop blocks (blocks_of fork))
    ∙ ap (λ l. sectors_of per l ++ behind) (sym is) in
    let here : get_or (fork_sectors fork per) k 0 ≡ get_or front k 0 = ap (λ l. get_or l k 0) whole ∙ get_or_append_left front behind 0 k low in
    omega (arith, here, same, inside k (omega (arith, low, ap (λ (l : List ℕ). length l) whole, length-append front behind)))

-- the sectors of a fork lie in a space after reads
pub inside_after : (fork : List Extent) (per : ℕ) (old new : Space) → IsInside fork per old → new.sectors ≡ old.sectors → IsInside fork per new
inside_after fork per old new inside same k low = omega (arith, inside k low, same)

-- ---- the stretches that are kept

pub cut_is : (map more : List Stretch) (total len : ℕ) → All (λ s. s.node < total) map → All (λ s. total ≤ s.node) more → len ≤ length (map ++ more) → ((k : ℕ) (d : Stretch) → k < len → (get_or (map ++ more) k d).node < total)
    → ((d : Stretch) → len < length (map ++ more) → total ≤ (get_or (map ++ more) len d).node) → take len (map ++ more) ≡ map
cut_is map more total len low high few inside stop =
    let long = length-append map more in
    let len_is : len ≡ length map = ⊎_elim
    (λ (less : len < length map).
    let here = stop (record { node = 0; at = 0; len = 0 }) (omega (arith, less, long)) in
    absurd (omega (arith, here, ap (λ (s : Stretch). s.node) (get_or_append_left map more (record { node = 0; at = 0; len = 0 }) len less), low len (record { node = 0; at = 0; len = 0 }) less)))
    (λ (enough : length map ≤ len). ⊎_elim
    (λ (over : length map < len).
    let some : 0 < length more = omega (arith, over, few, long) in
    let at : get_or (map ++ more) (length map) (record { node = 0; at = 0; len = 0 }) ≡ get_or more 0 (record { node = 0; at = 0; len = 0 }) =
    get_or-append_right map more (length map) (length map) (record { node = 0; at = 0; len = 0 }) refl (omega arith) ∙ ap (λ k. get_or more k (record { node = 0; at = 0; len = 0 })) {x = length map - length map} {y = 0} (omega arith) in
    let less = inside (length map) (record { node = 0; at = 0; len = 0 }) over in
    absurd (omega (arith, less, ap (λ (s : Stretch). s.node) at, high 0 (record { node = 0; at = 0; len = 0 }) some)))
    (λ (within : len ≤ length map). omega (arith, enough, within))
    (cases_lt (length map) len))
    (cases_lt len (length map)) in
    ap (λ n. take n (map ++ more)) len_is ∙ take-append_seam map more

pub first_inside : (xs : List Stretch) (n total : ℕ) → ((k : ℕ) (d : Stretch) → k < n → (get_or xs k d).node < total) → All (λ s. s.node < total) (take n xs)
first_inside xs n total inside k d low =
    let less : k < n = omega (arith, low, length-take n xs) in
    omega (arith, inside k d less, ap (λ (s : Stretch). s.node) (get_or-take n xs k d less))

-- what holds of all holds of the first ones
pub all_front : (P : Stretch → Type 0) (xs : List Stretch) (n : ℕ) → All P xs → All P (take n xs)
all_front P xs n all k d low = subst P (sym (get_or-take n xs k d (omega (arith, low, length-take n xs)))) (all k d (omega (arith, low, length-take n xs)))

pub apart_first : (xs : List Stretch) (n : ℕ) → ((i j : ℕ) (d : Stretch) → i < length xs → j < length xs → (get_or xs i d).node ≡ (get_or xs j d).node → i ≡ j)
    → (i j : ℕ) (d : Stretch) → i < length (take n xs) → j < length (take n xs) → (get_or (take n xs) i d).node ≡ (get_or (take n xs) j d).node → i ≡ j
apart_first xs n apart i j d i_in j_in same =
    let long = length-take n xs in
    apart i j d (omega (arith, i_in, long)) (omega (arith, j_in, long)) (ap (λ (s : Stretch). s.node) (sym (get_or-take n xs i d (omega (arith, i_in, long)))) ∙ same ∙ ap (λ (s : Stretch). s.node) (get_or-take n xs j d (omega (arith, j_in, long))))

-- ---- back

module _ (before tree : TreeFile) (content : Content) (grew : GrewFrom before tree) (was : Stands before content) where
  sectors_are : sectors_of_tree tree ≡ sectors_of_tree before ++ sectors_of tree.per_block grew.more_blocks
  sectors_are = ap (λ b. sectors_of tree.per_block b) grew.blocks ∙ flat_map-append (λ block. range_with_len (block * tree.per_block) tree.per_block) (blocks_of before.fork) grew.more_blocks
      ∙ ap (λ p. sectors_of p (blocks_of before.fork) ++ sectors_of tree.per_block grew.more_blocks) grew.per_block

  pub header_back : nodes_on (sectors_of_tree tree) tree.shape.node_size content 0 ≡ before.header
  header_back =
      ap (λ (l : List ℕ). nodes_on l tree.shape.node_size content 0) sectors_are ∙ ap (λ n. nodes_on (sectors_of_tree before ++ sectors_of tree.per_block grew.more_blocks) n content 0) grew.node_size
      ∙ node_front (sectors_of_tree before) (sectors_of tree.per_block grew.more_blocks) before.shape.node_size before.shape.total 0 content before.kept.whole was.agrees.some ∙ was.agrees.header_is

  pub some_node : 0 < tree.shape.total
  some_node = omega (arith, was.agrees.some, grew.total)

  some_block : 0 < before.per_block
  some_block = ⊎_elim
      (λ (none : before.per_block ≡ 0). absurd (omega (arith, some_sector before content was, ap (λ p. length (fork_sectors before.fork p)) none, ap (λ (l : List ℕ). length l) (no_sectors (blocks_of before.fork)))))
      (λ (some : before.per_block ≢ 0). omega (arith, some))
      (cases_eq before.per_block 0)

  pub room_back : (shape : TreeShape) → shape ≡ before.shape → (0 < tree.per_block) × (shape.node_size ≡ tree.shape.node_size) × (shape.free ≤ shape.total) × (shape.total * (tree.shape.node_size / 512) ≤ length (sectors_of_tree tree))
  room_back shape is = (
    omega (arith, some_block, grew.per_block),
    ap (λ (s : TreeShape). s.node_size) is ∙ sym grew.node_size,
    omega (arith, before.kept.free, ap (λ (s : TreeShape). s.free) is, ap (λ (s : TreeShape). s.total) is),
    omega (
      arith,
      ap (λ (s : TreeShape). s.total * (tree.shape.node_size / 512)) is,
      ap (λ n. before.shape.total * (n / 512)) grew.node_size,
      before.kept.whole,
      ap (λ (l : List ℕ). length l) sectors_are,
      length-append (sectors_of_tree before) (sectors_of tree.per_block grew.more_blocks),
    ),
  )

  pub blocks_back : (list : List Extent) (shape : TreeShape) → shape ≡ before.shape
      → blocks_of list ≡ take (shape.total * (shape.node_size / 512) / tree.per_block + min 1 (shape.total * (shape.node_size / 512) % tree.per_block)) (blocks_of tree.fork) → blocks_of list ≡ blocks_of before.fork
  blocks_back list shape is kept =
      let sectors : shape.total * (shape.node_size / 512) ≡ length (blocks_of before.fork) * tree.per_block =
      ap (λ (s : TreeShape). s.total * (s.node_size / 512)) is ∙ was.whole ∙ length_sectors before.per_block (blocks_of before.fork) ∙ ap (λ p. length (blocks_of before.fork) * p) (sym grew.per_block) in
      let count : shape.total * (shape.node_size / 512) / tree.per_block + min 1 (shape.total * (shape.node_size / 512) % tree.per_block) ≡ length (blocks_of before.fork) =
      ap (λ n. n / tree.per_block + min 1 (n % tree.per_block)) sectors ∙ blocks_exact (length (blocks_of before.fork)) tree.per_block (omega (arith, some_block, grew.per_block)) in
      kept ∙ ap (λ n. take n (blocks_of tree.fork)) count ∙ ap (λ l. take (length (blocks_of before.fork)) l) grew.blocks ∙ take-append_seam (blocks_of before.fork) grew.more_blocks

  -- what is kept of a file, where it is the same again
  pub stands_back : (fork : List Extent) (per_block : ℕ) (shape : TreeShape) (items : List Stretch) (header : List ℕ) → shape ≡ before.shape → blocks_of fork ≡ blocks_of before.fork → per_block ≡ before.per_block → items ≡ before.map.items → header ≡ before.header
      → HasMap (fork_sectors fork per_block) shape.node_size shape.total shape.free items header content × (shape_of (tree_head header) ≡ shape) × (shape.total * (shape.node_size / 512) ≡ length (fork_sectors fork per_block)) × (length (nodes_on (fork_sectors fork per_block) 512 content 0) ≡ 512)
  stands_back fork per_block shape items header shape_is blocks_are per_is items_are header_is =
      let sectors : fork_sectors fork per_block ≡ sectors_of_tree before = ap (λ b. sectors_of per_block b) blocks_are ∙ ap (λ p. sectors_of p (blocks_of before.fork)) per_is in (
        subst (λ (s : TreeShape). HasMap (fork_sectors fork per_block) s.node_size s.total s.free items header content) (sym shape_is)
            (subst (λ (l : List ℕ). HasMap l before.shape.node_size before.shape.total before.shape.free items header content) (sym sectors)
            (subst (λ m. HasMap (sectors_of_tree before) before.shape.node_size before.shape.total before.shape.free m header content) (sym items_are)
            (subst (λ h. HasMap (sectors_of_tree before) before.shape.node_size before.shape.total before.shape.free before.map.items h content) (sym header_is) was.agrees))),
        ap (λ (h : List ℕ). shape_of (tree_head h)) header_is ∙ was.settled ∙ sym shape_is,
        ap (λ (s : TreeShape). s.total * (s.node_size / 512)) shape_is ∙ was.whole ∙ ap (λ (l : List ℕ). length l) (sym sectors),
        ap (λ (l : List ℕ). length (nodes_on l 512 content 0)) sectors ∙ was.first,
      )
