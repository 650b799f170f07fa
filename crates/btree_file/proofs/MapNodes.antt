-- A map node that is added to the map of a tree file.
use Rattle.std.proofs.Common.{◌≡◌, ◌≢◌, ℕ, zero, suc, ◌+◌, ◌-◌, ◌*◌, ◌/◌, ◌≤◌, ◌<◌, Bool, true, false, cond, ◌==◌, ◌||◌, List, [], ◌∷◌, ◌++◌, length, get_or, refl, sym, ◌∙◌, ap, subst, arith, ⊎_elim}
use Rattle.std.specs.Prelude.{ℤ, pos}
use Rattle.std.specs.List.{All, list_any, count_by, range_with_len}
use Rattle.std.proofs.lemmas.Bool.{cases_lt, cases_eq, cases_Bool, or_cases, eqb-true, eq-eqb}
use Rattle.std.proofs.lemmas.List.Sums.{sum_by-cons}
use Rattle.flag_rows.specs.Bits.{bit_of}
use Rattle.flag_rows.proofs.ByteLaws.{bit_alike}
use Rattle.btree_node.specs.Levels.{Nodes}
use Rattle.btree_node.specs.MemLaws.{count_step}
use Rattle.btree_node.specs.Node.{IsNode, IsNodeOf, kind_of, height_of, next_of, offset, record_count}
use Rattle.btree_node.specs.TreeFile.{IsHeaderNode, tree_head}
use Rattle.btree_file.specs.Map.{used_in, bits_of, is_reserved, IsMapRecord, AreStretches}
use Rattle.btree_file.specs.State.{nodes_on, HasMap}
use Rattle.btree_file.specs.Walks.{LeadTo}
use Rattle.btree_file.specs.declared.tree.Stretch.{Stretch}
use Rattle.btree_file.proofs.MapLaws.{in_part, past_part}
use Rattle.btree_file.proofs.RoomLaws.{count_same}
use Rattle.btree_file.proofs.Walking.{leads_more, leads_end}

-- a node keeps its records, whatever its links
pub record SameRecords (a b : List ℕ) : Type 0 where
  pub size : length b ≡ length a
  pub kind : kind_of b ≡ kind_of a
  pub height : height_of b ≡ height_of a
  pub count : record_count b ≡ record_count a
  pub offsets : (i : ℕ) → i ≤ record_count a → offset b i ≡ offset a i

node_same : (a b : List ℕ) → SameRecords a b → IsNode a → IsNode b
node_same a b same node = record {
  first = omega (arith, node.first, same.offsets 0 (omega arith));
  rising = λ i low. omega (arith, node.rising i (omega (arith, low, same.count)), same.offsets i (omega (arith, low, same.count)), same.offsets (i + 1) (omega (arith, low, same.count)));
  inside = omega (arith, node.inside, same.size, same.count, ap (λ i. offset b i) same.count, same.offsets (record_count a) (omega arith));
}

node_of_same : (kind : ℤ) (height : ℕ) (a b : List ℕ) → SameRecords a b → IsNodeOf kind height a → IsNodeOf kind height b
node_of_same kind height a b same node = record { well_formed = node_same a b same node.well_formed; has_kind = same.kind ∙ node.has_kind; has_height = same.height ∙ node.has_height }

record_same : (a b : List ℕ) (stretch : Stretch) → SameRecords a b → IsMapRecord a stretch → IsMapRecord b stretch
record_same a b stretch same is = record {
  grammar = node_of_same (pos 2) 0 a b same is.grammar;
  some = omega (arith, is.some, same.count);
  from = is.from ∙ sym (same.offsets 0 (omega arith));
  to = is.to ∙ sym (same.offsets 1 (omega (arith, is.some)));
}

-- ---- the bits of a longer map

pub bits_more : (xs : List Stretch) (s : Stretch) → bits_of (xs ++ s ∷ []) ≡ bits_of xs + 8 * s.len
bits_more [] s = omega (arith, sum_by-cons (λ (t : Stretch). 8 * t.len) s [])
bits_more (x ∷ xs) s = omega (arith, bits_more xs s, sum_by-cons (λ (t : Stretch). 8 * t.len) x xs, sum_by-cons (λ (t : Stretch). 8 * t.len) x (xs ++ s ∷ []))

pub used_front : (nodes : Nodes) (xs : List Stretch) (s : Stretch) (n : ℕ) → n < bits_of xs → used_in nodes (xs ++ s ∷ []) n ≡ used_in nodes xs n
used_front nodes [] s n low = absurd (omega (arith, low))
used_front nodes (x ∷ xs) s n low = ⊎_elim
    (λ (lt : n < 8 * x.len). in_part nodes x (xs ++ s ∷ []) n lt ∙ sym (in_part nodes x xs n lt))
    (λ (ge : 8 * x.len ≤ n). past_part nodes x (xs ++ s ∷ []) n ge ∙ used_front nodes xs s (n - 8 * x.len) (omega (arith, low, ge, sum_by-cons (λ (t : Stretch). 8 * t.len) x xs)) ∙ sym (past_part nodes x xs n ge))
    (cases_lt n (8 * x.len))

pub used_behind : (nodes : Nodes) (xs : List Stretch) (s : Stretch) (n : ℕ) → bits_of xs ≤ n → n < bits_of xs + 8 * s.len → used_in nodes (xs ++ s ∷ []) n ≡ bit_of (nodes s.node) (8 * s.at + (n - bits_of xs))
used_behind nodes [] s n high low = in_part nodes s [] n (omega (arith, low)) ∙ ap (λ k. bit_of (nodes s.node) (8 * s.at + k)) {x = n} {y = n - bits_of []} (omega arith)
used_behind nodes (x ∷ xs) s n high low =
    let cut = sum_by-cons (λ (t : Stretch). 8 * t.len) x xs in
    past_part nodes x (xs ++ s ∷ []) n (omega (arith, high, cut)) ∙ used_behind nodes xs s (n - 8 * x.len) (omega (arith, high, cut)) (omega (arith, low, high, cut))
    ∙ ap (λ k. bit_of (nodes s.node) (8 * s.at + k)) {x = n - 8 * x.len - bits_of xs} {y = n - bits_of (x ∷ xs)} (omega (arith, cut))

-- the bits of stretches whose bytes are the same
pub bits_alike_in : (a b : Nodes) (xs : List Stretch) (n : ℕ) → ((k : ℕ) (d : Stretch) → k < length xs → (j : ℕ) → (get_or xs k d).at ≤ j → get_or (b (get_or xs k d).node) j 0 ≡ get_or (a (get_or xs k d).node) j 0) → used_in b xs n ≡ used_in a xs n
bits_alike_in a b [] n each = refl
bits_alike_in a b (s ∷ rest) n each =
    let first : bit_of (b s.node) (8 * s.at + n) ≡ bit_of (a s.node) (8 * s.at + n) = bit_alike (b s.node) (a s.node) (8 * s.at + n) (8 * s.at + n) (each 0 s (omega arith) ((8 * s.at + n) / 8) (omega arith)) refl in
    let more = bits_alike_in a b rest (n - 8 * s.len) (λ k d low j high. each (suc k) d (omega (arith, low)) j high) in
    rw (first, more) refl

pub count_last : (p : ℕ → Bool) (a n : ℕ) → count_by p (range_with_len a (n + 1)) ≡ count_by p (range_with_len a n) + cond (p (a + n)) 1 0
count_last p a zero = ap (λ m. count_by p (range_with_len a m)) {x = zero + 1} {y = suc zero} (omega arith) ∙ count_step p a zero ∙ ap (λ k. cond (p k) 1 0 + 0) {x = a} {y = a + zero} (omega arith) ∙ omega arith
count_last p a (suc n) =
    let rest = count_last p (a + 1) n in
    let place : ◌≡◌ {A = ℕ} (cond (p (a + 1 + n)) 1 0) (cond (p (a + suc n)) 1 0) = ap (λ k. cond (p k) 1 0) {x = a + 1 + n} {y = a + suc n} (omega arith) in
    let more : count_by p (range_with_len a (suc n + 1)) ≡ cond (p a) 1 0 + count_by p (range_with_len (a + 1) (n + 1)) = ap (λ m. count_by p (range_with_len a m)) {x = suc n + 1} {y = suc (n + 1)} (omega arith) ∙ count_step p a (n + 1) in
    omega (arith, more, rest, place, count_step p a n)

any_more : (xs : List Stretch) (s : Stretch) (n : ℕ) → s.node ≢ n → list_any (λ stretch. stretch.node == n) (xs ++ s ∷ []) ≡ true → list_any (λ stretch. stretch.node == n) xs ≡ true
any_more [] s n other any = ⊎_elim (λ (is : (s.node == n) ≡ true). absurd (other (eqb-true s.node n is))) (λ none. none) (or_cases (s.node == n) false any)
any_more (x ∷ xs) s n other any = ⊎_elim
    (λ (is : (x.node == n) ≡ true). ap (λ t. t || list_any (λ stretch. stretch.node == n) xs) is)
    (λ (rest : list_any (λ stretch. stretch.node == n) (xs ++ s ∷ []) ≡ true). or_second (x.node == n) (list_any (λ stretch. stretch.node == n) xs) (any_more xs s n other rest))
    (or_cases (x.node == n) (list_any (λ stretch. stretch.node == n) (xs ++ s ∷ [])) any)
  where
    or_second : (p q : Bool) → q ≡ true → (p || q) ≡ true
    or_second true q e = refl
    or_second false q e = e

-- ---- one map node more

-- What is written where the map's bits are all counted: the next node is a map node, which the last one names, and its own bit is its record's first.
pub record AddsMapNode (nodes after : Nodes) (size total : ℕ) (map : List Stretch) (s : Stretch) : Type 0 where
  pub full : total ≡ bits_of map
  pub is_record : IsMapRecord (after total) s
  pub node : s.node ≡ total
  pub no_next : next_of (after total) ≡ 0
  pub some : 0 < s.len
  pub own : bit_of (after total) (8 * s.at) ≡ true
  pub others : (i : ℕ) → 0 < i → i < 8 * s.len → bit_of (after total) (8 * s.at + i) ≡ false
  pub records : (m : ℕ) → m < total → SameRecords (nodes m) (after m)
  pub names : (k : ℕ) (d : Stretch) → k + 1 ≡ length map → next_of (after (get_or map k d).node) ≡ total
  pub next : (k : ℕ) (d : Stretch) → k + 1 < length map → next_of (after (get_or map k d).node) ≡ next_of (nodes (get_or map k d).node)
  pub bytes : (m k : ℕ) → m < total → 8 ≤ k → (m ≡ 0 → 44 ≤ k) → get_or (after m) k 0 ≡ get_or (nodes m) k 0

pub leads_to_new : (nodes after : Nodes) (size total : ℕ) (map : List Stretch) (s : Stretch) → AddsMapNode nodes after size total map s → All (λ stretch. stretch.node < total) map → AreStretches nodes size map → LeadTo after size map total
leads_to_new nodes after size total map s adds inside are = record {
  some = are.some;
  first = are.first;
  each = λ k d above low. record_same (nodes (get_or map k d).node) (after (get_or map k d).node) (get_or map k d) (adds.records (get_or map k d).node (inside k d low)) (are.each k d above low);
  next = λ k d low. adds.next k d low ∙ are.next k d low;
  last = adds.names;
}

-- the bits of the nodes that were counted stay
pub added_used : (nodes after : Nodes) (size total : ℕ) (map : List Stretch) (s : Stretch) → AddsMapNode nodes after size total map s → All (λ stretch. stretch.node < total) map
    → ((k : ℕ) (d : Stretch) → k < length map → (get_or map k d).node ≡ 0 → 248 ≤ (get_or map k d).at) → AreStretches nodes size map → (n : ℕ) → n < total → used_in after (map ++ s ∷ []) n ≡ used_in nodes map n
added_used nodes after size total map s adds inside low are n less =
    let at : (k : ℕ) (d : Stretch) → k < length map → 14 ≤ (get_or map k d).at =
    λ k d small. ⊎_elim
    (λ (front : k ≡ 0). omega (arith, ap (λ (t : Stretch). t.at) (ap (λ i. get_or map i d) front ∙ are.first d)))
    (λ (later : k ≢ 0). let is = are.each k d (omega (arith, later)) small in omega (arith, is.from, is.grammar.well_formed.first))
    (cases_eq k 0) in
    let old : used_in after map n ≡ used_in nodes map n =
    bits_alike_in nodes after map n (λ k d small j high. adds.bytes (get_or map k d).node j (inside k d small) (omega (arith, at k d small, high)) (λ e. omega (arith, low k d small e, high))) in
    used_front after map s n (omega (arith, less, adds.full)) ∙ old

-- and so do the nodes that are reserved, beside the new one
any_pushed : (xs : List Stretch) (s : Stretch) (n : ℕ) (value : Bool) → (s.node == n) ≡ value → list_any (λ stretch. stretch.node == n) (xs ++ s ∷ []) ≡ (list_any (λ stretch. stretch.node == n) xs || value)
any_pushed [] s n true e = ap (λ t. t || false) e
any_pushed [] s n false e = ap (λ t. t || false) e
any_pushed (x ∷ xs) s n value e = ap (λ t. (x.node == n) || t) (any_pushed xs s n value e) ∙ or_three (x.node == n) (list_any (λ stretch. stretch.node == n) xs) value
  where
    or_three : (p q r : Bool) → (p || (q || r)) ≡ ((p || q) || r)
    or_three true q r = refl
    or_three false q r = refl

or_none : (p : Bool) → (p || false) ≡ p
or_none true = refl
or_none false = refl

or_any : (p : Bool) → (p || true) ≡ true
or_any true = refl
or_any false = refl

differ : (n m : ℕ) → n ≢ m → (n == m) ≡ false
differ n m other = ⊎_elim (λ (is : (n == m) ≡ true). absurd (other (eqb-true n m is))) (λ none. none) (cases_Bool (n == m))

pub added_reserved : (map : List Stretch) (s : Stretch) (n : ℕ) → s.node ≢ n → is_reserved (map ++ s ∷ []) n ≡ is_reserved map n
added_reserved map s n other = ap (λ t. (n == 0) || t) (any_pushed map s n false (differ s.node n other) ∙ or_none (list_any (λ stretch. stretch.node == n) map))

pub new_reserved : (map : List Stretch) (s : Stretch) (n : ℕ) → s.node ≡ n → is_reserved (map ++ s ∷ []) n ≡ true
new_reserved map s n is = ap (λ t. (n == 0) || t) (any_pushed map s n true (eq-eqb s.node n is) ∙ or_any (list_any (λ stretch. stretch.node == n) map)) ∙ or_any (n == 0)

pub map_node_added : (sectors : List ℕ) (size total free : ℕ) (map : List Stretch) (header last : List ℕ) (a b : List (List ℕ)) (s : Stretch)
    → AddsMapNode (nodes_on sectors size a) (nodes_on sectors size b) size total map s → nodes_on sectors size b 0 ≡ last → (tree_head last).node_size ≡ size → (tree_head last).total ≡ total + 1
    → All (λ stretch. stretch.node < total) map → ((k : ℕ) (d : Stretch) → k < length map → (get_or map k d).node ≡ 0 → 248 ≤ (get_or map k d).at)
    → HasMap sectors size total free map header a → HasMap sectors size (total + 1) free (map ++ s ∷ []) last b
map_node_added sectors size total free map header last a b s adds first says_size says_total inside low was =
    let nodes : Nodes = nodes_on sectors size a in
    let after : Nodes = nodes_on sectors size b in
    let front : (n : ℕ) → n < total → used_in (nodes_on sectors size b) (map ++ s ∷ []) n ≡ used_in (nodes_on sectors size a) map n = λ n less. added_used (nodes_on sectors size a) (nodes_on sectors size b) size total map s adds inside low was.stretches n less in
    let more = bits_more map s in
    let behind : (n : ℕ) → total ≤ n → n < bits_of (map ++ s ∷ []) → used_in (nodes_on sectors size b) (map ++ s ∷ []) n ≡ bit_of (nodes_on sectors size b total) (8 * s.at + (n - total)) =
    λ n high less. used_behind (nodes_on sectors size b) map s n (omega (arith, high, adds.full)) (omega (arith, less, more))
    ∙ ap (λ (l : List ℕ). bit_of l (8 * s.at + (n - bits_of map))) (ap (nodes_on sectors size b) adds.node) ∙ ap (λ k. bit_of (nodes_on sectors size b total) (8 * s.at + (n - k))) (sym adds.full) in
    let own : used_in (nodes_on sectors size b) (map ++ s ∷ []) total ≡ true =
    behind total (omega arith) (omega (arith, adds.full, more, adds.some)) ∙ ap (λ k. bit_of (nodes_on sectors size b total) k) {x = 8 * s.at + (total - total)} {y = 8 * s.at} (omega arith) ∙ adds.own in
    let one : ◌≡◌ {A = ℕ} (cond (used_in (nodes_on sectors size b) (map ++ s ∷ []) (0 + total)) 1 0) 1 = ap (λ k. cond (used_in (nodes_on sectors size b) (map ++ s ∷ []) k) 1 0) {x = 0 + total} {y = total} (omega arith) ∙ ap (λ t. cond t 1 0) own in
    record {
      some = omega arith;
      header_is = first;
      header_node = subst IsHeaderNode first (node_of_same (pos 1) 0 (nodes_on sectors size a 0) (nodes_on sectors size b 0) (adds.records 0 was.some) (subst IsHeaderNode (sym was.header_is) was.header_node).0, (adds.records 0 was.some).count ∙ (subst IsHeaderNode (sym was.header_is) was.header_node).1);
      says_size = says_size;
      says_total = says_total;
      stretches = leads_end (nodes_on sectors size b) size (map ++ s ∷ []) (next_of (nodes_on sectors size b total))
          (leads_more (nodes_on sectors size b) size map total s (leads_to_new (nodes_on sectors size a) (nodes_on sectors size b) size total map s adds inside was.stretches) adds.is_record adds.node) adds.no_next;
      bits = omega (arith, adds.full, more, adds.some);
      counted = omega (
        arith,
        was.counted,
        count_last (used_in (nodes_on sectors size b) (map ++ s ∷ [])) 0 total,
        one,
        count_same (used_in (nodes_on sectors size a) map) (used_in (nodes_on sectors size b) (map ++ s ∷ [])) 0 total (λ k from to. front k (omega (arith, to))),
      );
      reserved = λ n less is. ⊎_elim
          (λ (under : n < total). front n under ∙ was.reserved n under (⊎_elim
          (λ (zero_is : (n == 0) ≡ true). ap (λ t. t || list_any (λ stretch. stretch.node == n) map) zero_is)
          (λ (any : list_any (λ stretch. stretch.node == n) (map ++ s ∷ []) ≡ true). or_behind (n == 0) (list_any (λ stretch. stretch.node == n) map) (any_more map s n (λ e. absurd (omega (arith, e, adds.node, under))) any))
          (or_cases (n == 0) (list_any (λ stretch. stretch.node == n) (map ++ s ∷ [])) is)))
          (λ (over : total ≤ n). ap (used_in (nodes_on sectors size b) (map ++ s ∷ [])) {x = n} {y = total} (omega (arith, over, less)) ∙ own)
          (cases_lt n total);
      behind = λ n high less. behind n (omega (arith, high)) less ∙ adds.others (n - total) (omega (arith, high)) (omega (arith, high, less, more, adds.full));
    }
  where
    or_behind : (p q : Bool) → q ≡ true → (p || q) ≡ true
    or_behind true q e = refl
    or_behind false q e = e
