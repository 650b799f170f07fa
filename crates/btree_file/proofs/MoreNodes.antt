-- A tree file whose fork got longer, and more of whose nodes are counted.
use Rattle.std.proofs.Common.{◌≡◌, ℕ, zero, suc, ◌+◌, ◌-◌, ◌*◌, ◌/◌, ◌≤◌, ◌<◌, Bool, true, false, cond, ◌==◌, List, [], ◌∷◌, ◌++◌, length, get_or, take, drop, refl, sym, ◌∙◌, ap, subst, arith, ⊎_elim}
use Rattle.std.specs.List.{All, list_any, count_by, range_with_len}
use Rattle.std.proofs.Math.Nat.{mul-le-mul_right}
use Rattle.std.proofs.lemmas.Bool.{or_cases, eqb-true, true≢false}
use Rattle.std.proofs.lemmas.List.{drop-append-le, take-append-le, length-drop}
use Rattle.std.proofs.lemmas.List.Elements.{All-head, All-tail}
use Rattle.flag_rows.specs.Bits.{bit_of}
use Rattle.flag_rows.proofs.ByteLaws.{bit_alike}
use Rattle.fork_map.specs.Nodes.{bytes_of}
use Rattle.btree_node.specs.Levels.{Nodes}
use Rattle.btree_node.specs.MemLaws.{count_step, count_none}
use Rattle.btree_node.specs.TreeFile.{tree_head}
use Rattle.btree_file.specs.Map.{used_in, bits_of, is_reserved}
use Rattle.btree_file.specs.State.{nodes_on, HasMap}
use Rattle.btree_file.specs.declared.tree.Stretch.{Stretch}
use Rattle.btree_file.proofs.Grammar.{SameGrammar, grammar_equal, header_kept, stretches_kept}
use Rattle.btree_file.proofs.NodeLaws.{used_same}
use Rattle.btree_file.proofs.RoomLaws.{count_same}

-- the header node and the map nodes are among the nodes that are counted
pub any_below : (map : List Stretch) (total n : ℕ) → All (λ stretch. stretch.node < total) map → list_any (λ stretch. stretch.node == n) map ≡ true → n < total
any_below [] total n inside any = absurd (true≢false (sym any))
any_below (x ∷ xs) total n inside any = ⊎_elim
    (λ (is : (x.node == n) ≡ true). omega (arith, eqb-true x.node n is, All-head (λ (s : Stretch). s.node < total) x xs inside))
    (λ (rest : list_any (λ stretch. stretch.node == n) xs ≡ true). any_below xs total n (All-tail (λ (s : Stretch). s.node < total) x xs inside) rest)
    (or_cases (x.node == n) (list_any (λ stretch. stretch.node == n) xs) any)

pub reserved_below : (map : List Stretch) (total n : ℕ) → 0 < total → All (λ stretch. stretch.node < total) map → is_reserved map n ≡ true → n < total
reserved_below map total n some inside is = ⊎_elim
    (λ (front : (n == 0) ≡ true). omega (arith, eqb-true n 0 front, some))
    (λ (any : list_any (λ stretch. stretch.node == n) map ≡ true). any_below map total n inside any)
    (or_cases (n == 0) (list_any (λ stretch. stretch.node == n) map) is)

-- ---- a longer fork

-- a node that lies in the first sectors of a fork
pub node_front : (sectors more : List ℕ) (size total n : ℕ) (content : List (List ℕ)) → total * (size / 512) ≤ length sectors → n < total → nodes_on (sectors ++ more) size content n ≡ nodes_on sectors size content n
node_front sectors more size total n content whole low =
    let end : (n + 1) * (size / 512) ≤ total * (size / 512) = mul-le-mul_right {m = n + 1} {n = total} (size / 512) (omega (arith, low)) in
    let from : drop (n * (size / 512)) (sectors ++ more) ≡ drop (n * (size / 512)) sectors ++ more = drop-append-le (n * (size / 512)) sectors more (omega (arith, whole, end)) in
    let long = length-drop (n * (size / 512)) sectors in
    ap (λ (l : List ℕ). bytes_of content l)
    (ap (λ (l : List ℕ). take (size / 512) l) from ∙ take-append-le (size / 512) (drop (n * (size / 512)) sectors) more (omega (arith, whole, end, long)))

pub longer_fork : (sectors more : List ℕ) (size total free : ℕ) (map : List Stretch) (header : List ℕ) (content : List (List ℕ)) → total * (size / 512) ≤ length sectors → All (λ stretch. stretch.node < total) map
    → HasMap sectors size total free map header content → HasMap (sectors ++ more) size total free map header content
longer_fork sectors more size total free map header content whole inside was =
    let same : (n : ℕ) → n < total → nodes_on (sectors ++ more) size content n ≡ nodes_on sectors size content n = λ n low. node_front sectors more size total n content whole low in
    let used : (n : ℕ) → used_in (nodes_on (sectors ++ more) size content) map n ≡ used_in (nodes_on sectors size content) map n =
    λ n. used_same (nodes_on sectors size content) (nodes_on (sectors ++ more) size content) map n (λ m any. same m (any_below map total m inside any)) in
    record {
      some = was.some;
      header_is = same 0 was.some ∙ was.header_is;
      header_node = was.header_node;
      says_size = was.says_size;
      says_total = was.says_total;
      stretches = stretches_kept (nodes_on sectors size content) (nodes_on (sectors ++ more) size content) size map
          (λ k d low. grammar_equal (nodes_on sectors size content (get_or map k d).node) (nodes_on (sectors ++ more) size content (get_or map k d).node) (same (get_or map k d).node (inside k d low))) was.stretches;
      bits = was.bits;
      counted = omega (arith, was.counted, count_same (used_in (nodes_on sectors size content) map) (used_in (nodes_on (sectors ++ more) size content) map) 0 total (λ k low high. used k));
      reserved = λ n low is. used n ∙ was.reserved n low is;
      behind = λ n high low. used n ∙ was.behind n high low;
    }

-- ---- more nodes

-- the bits of nodes whose bytes behind the header record are the same
pub bits_same : (a b : Nodes) (map : List Stretch) (n : ℕ) → ((m k : ℕ) → (m ≡ 0 → 44 ≤ k) → get_or (b m) k 0 ≡ get_or (a m) k 0)
    → ((k : ℕ) (d : Stretch) → k < length map → (get_or map k d).node ≡ 0 → 248 ≤ (get_or map k d).at) → used_in b map n ≡ used_in a map n
bits_same a b [] n bytes far = refl
bits_same a b (s ∷ rest) n bytes far =
    let first : bit_of (b s.node) (8 * s.at + n) ≡ bit_of (a s.node) (8 * s.at + n) = bit_alike (b s.node) (a s.node) (8 * s.at + n) (8 * s.at + n) (bytes s.node ((8 * s.at + n) / 8) (λ e. omega (arith, far 0 s (omega arith) e))) refl in
    let more = bits_same a b rest (n - 8 * s.len) bytes (λ k d low e. far (suc k) d (omega (arith, low)) e) in
    rw (first, more) refl

-- numbers behind which none passes the test
pub count_longer : (p : ℕ → Bool) (a n more : ℕ) → ((k : ℕ) → a + n ≤ k → k < a + (n + more) → p k ≡ false) → count_by p (range_with_len a (n + more)) ≡ count_by p (range_with_len a n)
count_longer p a zero more none = ap (λ m. count_by p (range_with_len a m)) {x = zero + more} {y = more} (omega arith) ∙ count_none p a more (λ k low high. none k (omega (arith, low)) (omega (arith, high)))
count_longer p a (suc n) more none =
    let rest = count_longer p (a + 1) n more (λ k low high. none k (omega (arith, low)) (omega (arith, high))) in
    ap (λ m. count_by p (range_with_len a m)) {x = suc n + more} {y = suc (n + more)} (omega arith) ∙ count_step p a (n + more) ∙ ap (λ m. cond (p a) 1 0 + m) rest ∙ sym (count_step p a n)

-- The header record counts more nodes, for which the map has bits: they are free.
pub more_nodes : (sectors : List ℕ) (size total now free : ℕ) (map : List Stretch) (header after : List ℕ) (a b : List (List ℕ))
    → ((m k : ℕ) → (m ≡ 0 → 44 ≤ k) → get_or (nodes_on sectors size b m) k 0 ≡ get_or (nodes_on sectors size a m) k 0)
    → ((m : ℕ) → SameGrammar (nodes_on sectors size a m) (nodes_on sectors size b m))
    → nodes_on sectors size b 0 ≡ after → (tree_head after).node_size ≡ size → (tree_head after).total ≡ now → total ≤ now → now ≤ bits_of map
    → All (λ stretch. stretch.node < total) map → ((k : ℕ) (d : Stretch) → k < length map → (get_or map k d).node ≡ 0 → 248 ≤ (get_or map k d).at)
    → HasMap sectors size total free map header a → HasMap sectors size now (free + (now - total)) map after b
more_nodes sectors size total now free map header after a b bytes grammar first says_size says_total order enough inside low was =
    let used : (n : ℕ) → used_in (nodes_on sectors size b) map n ≡ used_in (nodes_on sectors size a) map n = λ n. bits_same (nodes_on sectors size a) (nodes_on sectors size b) map n bytes low in
    let same = count_same (used_in (nodes_on sectors size a) map) (used_in (nodes_on sectors size b) map) 0 now (λ k from to. used k) in
    let longer = count_longer (used_in (nodes_on sectors size a) map) 0 total (now - total) (λ k from to. was.behind k (omega (arith, from)) (omega (arith, to, order, enough))) in
    let whole : count_by (used_in (nodes_on sectors size a) map) (range_with_len 0 (total + (now - total))) ≡ count_by (used_in (nodes_on sectors size a) map) (range_with_len 0 now) =
    ap (λ m. count_by (used_in (nodes_on sectors size a) map) (range_with_len 0 m)) {x = total + (now - total)} {y = now} (omega (arith, order)) in
    record {
      some = omega (arith, was.some, order);
      header_is = first;
      header_node = header_kept header after (grammar_zero (was.header_is) first (grammar 0)) was.header_node;
      says_size = says_size;
      says_total = says_total;
      stretches = stretches_kept (nodes_on sectors size a) (nodes_on sectors size b) size map (λ k d inside. grammar (get_or map k d).node) was.stretches;
      bits = enough;
      counted = omega (arith, was.counted, same, longer, whole, order);
      reserved = λ n less is. used n ∙ was.reserved n (reserved_below map total n was.some inside is) is;
      behind = λ n high less. used n ∙ was.behind n (omega (arith, high, order)) less;
    }
  where
    grammar_zero : nodes_on sectors size a 0 ≡ header → nodes_on sectors size b 0 ≡ after → SameGrammar (nodes_on sectors size a 0) (nodes_on sectors size b 0) → SameGrammar header after
    grammar_zero e f g = subst (λ (l : List ℕ). SameGrammar l after) e (subst (λ (l : List ℕ). SameGrammar (nodes_on sectors size a 0) l) f g)
