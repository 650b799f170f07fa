-- What a fork that holds a tree's nodes gives a tree file.
use Rattle.std.proofs.Common.{◌≡◌, ℕ, zero, suc, ◌+◌, ◌-◌, ◌*◌, ◌/◌, ◌≤◌, ◌<◌, true, false, List, [], ◌∷◌, ◌++◌, length, take, drop, get_or, inl, inr, refl, sym, ◌∙◌, ap, subst, arith, Option, Some, None}
use Rattle.std.specs.Prelude.{IfSome, IsSome, IsTrue}
use Rattle.std.proofs.Math.Nat.{mul-le-mul_right}
use Rattle.btree_node.specs.MemLaws.{whole_sectors, size_passes}
use Rattle.btree_node.specs.declared.store.TreeShape.{TreeShape}
use Rattle.btree_node.specs.TreeFile.{shape_of}
use Rattle.std.specs.List.{flat_map}
use Rattle.std.proofs.lemmas.Bool.{cases_eq}
use Rattle.std.proofs.lemmas.List.{get_or_append_left, append-nil}
use Rattle.flag_rows.specs.Bits.{bit_of}
use Rattle.hx_bytes.specs.Field.{big_at}
use Rattle.fork_map.specs.Nodes.{bytes_of, node_of}
use Rattle.btree_node.specs.Levels.{Nodes}
use Rattle.btree_node.specs.Node.{is_node_size, next_of, record_count}
use Rattle.btree_node.specs.TreeFile.{TreeHead, TreeFile, IsHeaderNode, tree_head, map_chain, map_bytes, is_reserved_in}
use Rattle.btree_node.proofs.Items.{offsets_rise}
use Rattle.btree_node.proofs.Places.{same_two, same_four}
use Rattle.sector_disk.specs.Lists.{sector}
use Rattle.btree_file.specs.Held.{HoldsNodes, file_in}
use Rattle.btree_file.specs.Map.{used_in, bits_of, IsMapRecord, AreStretches}
use Rattle.btree_file.specs.State.{nodes_on, HasMap}
use Rattle.btree_file.specs.Walks.{HasChain, names_of}
use Rattle.btree_file.specs.declared.tree.Stretch.{Stretch}
use Rattle.btree_file.proofs.Joined.{AreIn, bytes_in, length_joined, used_joined, map_joined, reserved_joined}
use Rattle.btree_file.proofs.RoomLaws.{count_same}
use Rattle.btree_file.proofs.Sizes.{size_least}

-- the stretches lie in their nodes
pub are_in : (nodes : Nodes) (size : ℕ) (xs : List Stretch) → 512 ≤ size → length (nodes 0) ≡ size → AreStretches nodes size xs → AreIn nodes xs
are_in nodes size xs large long are k d low = elim (cases_eq k 0) [
  | inl front ↦
      let first : get_or xs k d ≡ (record { node = 0; at = 248; len = size - 256 }) = ap (λ i. get_or xs i d) front ∙ are.first d in
      subst (λ (s : Stretch). s.at + s.len ≤ length (nodes s.node)) (sym first) (omega (arith, long, large))
  | inr later ↦
      let is : IsMapRecord (nodes (get_or xs k d).node) (get_or xs k d) = are.each k d (omega (arith, later)) low in
      let cut = is.grammar.well_formed in
      omega (arith, is.to, offsets_rise (nodes (get_or xs k d).node) cut 1 (record_count (nodes (get_or xs k d).node)) (omega (arith, is.some)) (omega arith), cut.inside)
]

-- the walk's premise
pub has_chain : (sectors : List ℕ) (content : List (List ℕ)) → HoldsNodes sectors (file_in sectors content) → HasChain (file_in sectors content).head.total (nodes_on sectors (file_in sectors content).head.node_size content)
has_chain sectors content holds = record { each = holds.map_nodes.each; ends = holds.map_nodes.ends; distinct = holds.map_nodes.distinct }

module _ (sectors : List ℕ) (content : List (List ℕ)) (holds : HoldsNodes sectors (file_in sectors content)) (header : List ℕ) (xs : List Stretch)
    (header_is : nodes_on sectors (file_in sectors content).head.node_size content 0 ≡ header)
    (long : length header ≡ (file_in sectors content).head.node_size)
    (head_is : tree_head header ≡ (file_in sectors content).head)
    (are : AreStretches (nodes_on sectors (file_in sectors content).head.node_size content) (file_in sectors content).head.node_size xs)
    (chain : map_chain (nodes_on sectors (file_in sectors content).head.node_size content) (file_in sectors content).head.total (next_of (nodes_on sectors (file_in sectors content).head.node_size content 0)) ≡ names_of xs)
  where
    abbrev tree : TreeFile
    tree = file_in sectors content

    abbrev nodes : Nodes
    nodes = nodes_on sectors (file_in sectors content).head.node_size content

    large : 512 ≤ (file_in sectors content).head.node_size
    large = size_least (file_in sectors content).head.node_size holds.size

    inside : AreIn (nodes_on sectors (file_in sectors content).head.node_size content) xs
    inside = are_in (nodes_on sectors (file_in sectors content).head.node_size content) (file_in sectors content).head.node_size xs large (ap (λ (l : List ℕ). length l) header_is ∙ long) are

    map_is : (file_in sectors content).map ≡ flat_map (bytes_in (nodes_on sectors (file_in sectors content).head.node_size content)) xs
    map_is = ap (λ (c : List ℕ). map_bytes (nodes_on sectors (file_in sectors content).head.node_size content) (file_in sectors content).head.node_size c) chain
        ∙ map_joined (nodes_on sectors (file_in sectors content).head.node_size content) (file_in sectors content).head.node_size xs large are

    bits_are : bits_of xs ≡ 8 * length (file_in sectors content).map
    bits_are = sym (length_joined (nodes_on sectors (file_in sectors content).head.node_size content) xs inside) ∙ ap (λ (l : List ℕ). 8 * length l) (sym map_is)

    used_are : (n : ℕ) → n < bits_of xs → used_in (nodes_on sectors (file_in sectors content).head.node_size content) xs n ≡ bit_of (file_in sectors content).map n
    used_are n low = used_joined (nodes_on sectors (file_in sectors content).head.node_size content) xs inside n low ∙ ap (λ (l : List ℕ). bit_of l n) (sym map_is)

    low : (n : ℕ) → n < (file_in sectors content).head.total → n < bits_of xs
    low n less = omega (arith, less, holds.bits, bits_are)

    pub has_map : HasMap sectors (file_in sectors content).head.node_size (file_in sectors content).head.total (file_in sectors content).head.free xs header content
    has_map = record {
      some = omega (arith, holds.map_nodes.ends);
      header_is = header_is;
      header_node = subst IsHeaderNode header_is holds.map_nodes.header;
      says_size = ap (λ (h : TreeHead). h.node_size) head_is;
      says_total = ap (λ (h : TreeHead). h.total) head_is;
      stretches = are;
      bits = omega (arith, holds.bits, bits_are);
      counted = omega (
        arith,
        holds.free,
        count_same (bit_of (file_in sectors content).map) (used_in (nodes_on sectors (file_in sectors content).head.node_size content) xs) 0 (file_in sectors content).head.total (λ k from to. used_are k (low k (omega (arith, to)))),
      );
      reserved = λ n less is. used_are n (low n less) ∙ holds.reserved n less (ap (λ (c : List ℕ). is_reserved_in c n) chain ∙ reserved_joined (nodes_on sectors (file_in sectors content).head.node_size content) (file_in sectors content).head.node_size xs n are is);
      behind = λ n high less. used_are n less ∙ holds.no_more n high;
    }

-- ---- the header record stands in the first sector

-- the first bytes of two nodes of a fork, one longer than the other
first_same : (sectors : List ℕ) (content : List (List ℕ)) (per k : ℕ) → 0 < per → 0 < length sectors → length (node_of content sectors 1 0) ≡ 512 → k < 512 → get_or (node_of content sectors per 0) k 0 ≡ get_or (node_of content sectors 1 0) k 0
first_same [] content per k some any long low = absurd (omega (arith, any))
first_same (s ∷ sectors) content zero k some any long low = absurd (omega (arith, some))
first_same (s ∷ sectors) content (suc per) k some any long low =
    let one : node_of content (s ∷ sectors) 1 0 ≡ sector content s = ap (λ (l : List ℕ). bytes_of content (take 1 l)) {x = drop (0 * 1) (s ∷ sectors)} {y = s ∷ sectors} refl ∙ append-nil (sector content s) in
    let more : node_of content (s ∷ sectors) (suc per) 0 ≡ sector content s ++ bytes_of content (take per sectors) =
    ap (λ n. bytes_of content (take (suc per) (drop n (s ∷ sectors)))) {x = 0 * suc per} {y = 0} (omega arith) in
    let size : length (sector content s) ≡ 512 = ap (λ (l : List ℕ). length l) (sym one) ∙ long in
    ap (λ (l : List ℕ). get_or l k 0) more ∙ get_or_append_left (sector content s) (bytes_of content (take per sectors)) 0 k (omega (arith, low, size)) ∙ ap (λ (l : List ℕ). get_or l k 0) (sym one)

pub head_same : (sectors : List ℕ) (content : List (List ℕ)) (per : ℕ) → 0 < per → 0 < length sectors → length (node_of content sectors 1 0) ≡ 512 → tree_head (node_of content sectors per 0) ≡ tree_head (node_of content sectors 1 0)
head_same sectors content per some any long =
    let b : (k : ℕ) → k < 512 → get_or (node_of content sectors per 0) k 0 ≡ get_or (node_of content sectors 1 0) k 0 = λ k low. first_same sectors content per k some any long low in
    let two : (at : ℕ) → at + 1 < 512 → big_at 2 (node_of content sectors per 0) at ≡ big_at 2 (node_of content sectors 1 0) at = λ at low. same_two (node_of content sectors 1 0) (node_of content sectors per 0) at at (b at (omega (arith, low))) (b (at + 1) low) in
    let four : (at : ℕ) → at + 4 ≤ 512 → big_at 4 (node_of content sectors per 0) at ≡ big_at 4 (node_of content sectors 1 0) at = λ at low. same_four (node_of content sectors 1 0) (node_of content sectors per 0) at (λ k few. b (at + k) (omega (arith, low, few))) in
    rw (two 14 (omega arith), four 16 (omega arith), four 20 (omega arith), four 24 (omega arith), four 28 (omega arith), two 32 (omega arith), two 34 (omega arith), four 36 (omega arith), four 40 (omega arith), b 51 (omega arith), four 52 (omega arith)) refl

-- ---- what a reader of the fork finds

-- a node in a content that is the same, of a size that is the same
pub stretches_as : (a b : List (List ℕ)) (sectors : List ℕ) (n m : ℕ) (xs : List Stretch) → b ≡ a → n ≡ m → AreStretches (node_of b sectors (n / 512)) n xs → AreStretches (node_of a sectors (m / 512)) m xs
stretches_as a b sectors n m xs content size are = subst (λ k. AreStretches (node_of a sectors (k / 512)) k xs) size (subst (λ (c : List (List ℕ)). AreStretches (node_of c sectors (n / 512)) n xs) content are)

pub chain_as : (a b : List (List ℕ)) (sectors : List ℕ) (n m total : ℕ) (names : List ℕ) → b ≡ a → n ≡ m → map_chain (node_of b sectors (n / 512)) total (next_of (node_of b sectors (n / 512) 0)) ≡ names → map_chain (node_of a sectors (m / 512)) total (next_of (node_of a sectors (m / 512) 0)) ≡ names
chain_as a b sectors n m total names content size are = subst (λ k. map_chain (node_of a sectors (k / 512)) total (next_of (node_of a sectors (k / 512) 0)) ≡ names) size (subst (λ (c : List (List ℕ)). map_chain (node_of c sectors (n / 512)) total (next_of (node_of c sectors (n / 512) 0)) ≡ names) content are)

pub has_chain_as : (a b : List (List ℕ)) (sectors : List ℕ) (n m total : ℕ) → b ≡ a → n ≡ m → HasChain total (node_of a sectors (m / 512)) → HasChain total (node_of b sectors (n / 512))
has_chain_as a b sectors n m total content size has = subst (λ k. HasChain total (node_of b sectors (k / 512))) (sym size) (subst (λ (c : List (List ℕ)). HasChain total (node_of c sectors (m / 512))) (sym content) has)

-- a number of sectors that hold some nodes
some_sectors : (total per : ℕ) → 0 < total → 0 < per → 0 < total * per
some_sectors total per some any = omega (arith, mul-le-mul_right {m = 1} {n = total} per some, any)

module _ (sectors : List ℕ) (content : List (List ℕ)) (shape : TreeShape) (first_long : length (node_of content sectors 1 0) ≡ 512)
    (same : shape ≡ shape_of (file_in sectors content).head) (holds : HoldsNodes sectors (file_in sectors content)) (header : List ℕ)
    (is : header ≡ node_of content sectors (shape.node_size / 512) 0)
  where
    here : header ≡ node_of content sectors ((file_in sectors content).head.node_size / 512) 0
    here = is ∙ ap (λ (s : TreeShape). node_of content sectors (s.node_size / 512) 0) same

    pub head_read : tree_head header ≡ (file_in sectors content).head
    head_read =
        let per = whole_sectors (file_in sectors content).head.node_size holds.size in
        let any : 0 < length sectors = omega (arith, holds.whole, some_sectors (file_in sectors content).head.total ((file_in sectors content).head.node_size / 512) (omega (arith, holds.map_nodes.ends)) per.0) in
        ap tree_head here ∙ head_same sectors content ((file_in sectors content).head.node_size / 512) per.0 any first_long

    pub header_read : IsHeaderNode header
    header_read = subst IsHeaderNode (sym here) holds.map_nodes.header

    pub chain_read : HasChain shape.total (node_of content sectors (shape.node_size / 512))
    chain_read = subst (λ (s : TreeShape). HasChain s.total (node_of content sectors (s.node_size / 512))) (sym same) (has_chain sectors content holds)

    pub settled_read : shape_of (tree_head header) ≡ shape
    settled_read = ap shape_of head_read ∙ sym same

    pub agrees_read : (xs : List Stretch) → length header ≡ shape.node_size → AreStretches (node_of content sectors (shape.node_size / 512)) shape.node_size xs
        → map_chain (node_of content sectors (shape.node_size / 512)) shape.total (next_of (node_of content sectors (shape.node_size / 512) 0)) ≡ names_of xs → HasMap sectors shape.node_size shape.total shape.free xs header content
    agrees_read xs = subst (λ (s : TreeShape). length header ≡ s.node_size → AreStretches (node_of content sectors (s.node_size / 512)) s.node_size xs
        → map_chain (node_of content sectors (s.node_size / 512)) s.total (next_of (node_of content sectors (s.node_size / 512) 0)) ≡ names_of xs → HasMap sectors s.node_size s.total s.free xs header content) (sym same)
        (λ long are chain. has_map sectors content holds header xs (sym here) long head_read are chain)

pub if_some : {A : Type 0} (P : A → Type 0) (o : Option A) (a : A) → o ≡ Some a → IfSome o P → P a
if_some P o a is has = subst (λ (x : Option _). IfSome x P) is has

pub is_none : {A : Type 0} (o : Option A) → o ≡ None → IsSome o → false ≡ true
is_none o is some = subst (λ (x : Option _). IsSome x) is some

-- ---- what the shape says

pub some_held : (sectors : List ℕ) (content : List (List ℕ)) → HoldsNodes sectors (file_in sectors content) → 1 ≤ length sectors
some_held sectors content holds =
    let per = whole_sectors (file_in sectors content).head.node_size holds.size in
    omega (arith, holds.whole, some_sectors (file_in sectors content).head.total ((file_in sectors content).head.node_size / 512) (omega (arith, holds.map_nodes.ends)) per.0)

pub shape_holds : (sectors : List ℕ) (content : List (List ℕ)) (shape : TreeShape) → shape ≡ shape_of (file_in sectors content).head → HoldsNodes sectors (file_in sectors content)
    → IsTrue (is_node_size shape.node_size) × (0 < shape.total) × (shape.free ≤ shape.total) × (shape.total * (shape.node_size / 512) ≤ length sectors)
shape_holds sectors content shape same holds =
    subst (λ (s : TreeShape). IsTrue (is_node_size s.node_size) × (0 < s.total) × (s.free ≤ s.total) × (s.total * (s.node_size / 512) ≤ length sectors)) (sym same)
    (size_passes (file_in sectors content).head.node_size holds.size, omega (arith, holds.map_nodes.ends), omega (arith, holds.free), omega (arith, holds.whole))
