-- Trees in files whose nodes are the same as far as they are counted.
use Rattle.std.proofs.Common.{◌≡◌, ◌≤◌, ◌<◌, ℕ, zero, suc, ◌+◌, ◌-◌, ◌*◌, ◌/◌, ◌==◌, ◌++◌, Bool, true, false, List, [], ◌∷◌, length, get_or, refl, sym, ◌∙◌, ap, subst, arith, inl, inr}
use Rattle.std.specs.Prelude.{Contains, slice_range, if◌then◌else◌}
use Rattle.std.specs.List.{All, flat_map, count_by, range_with_len}
use Rattle.std.specs.declared.cmp.Ordering.{Ordering}
use Rattle.flag_rows.specs.Bits.{bit_of}
use Rattle.btree_node.specs.Levels.{Nodes, Pair}
use Rattle.btree_node.specs.Node.{next_of}
use Rattle.btree_node.specs.Store.{Store}
use Rattle.btree_node.specs.Tree.{IsTree, pairs_of}
use Rattle.btree_node.specs.TreeFile.{TreeHead, TreeFile, TreeForm, IsTreeFile, IsMapNode, IsHeaderNode, map_chain, map_bytes, map_record, file_of, store_of, is_reserved_in}
use Rattle.btree_file.specs.Held.{HoldsNodes}
use Rattle.btree_file.proofs.Widened.{widened, pairs_same}
use Rattle.hfs_volume.proofs.Members.{each_of, all_of, at_front, behind}

-- the chains of map nodes are the same, where they stay below these nodes
chain_same : (total : ℕ) (na nb : Nodes) → ((n : ℕ) → n < total → nb n ≡ na n) → (fuel n : ℕ) → ((m : ℕ) → Contains (map_chain na fuel n) m → m < total) → map_chain nb fuel n ≡ map_chain na fuel n
unfolding map_chain
chain_same total na nb same zero n low = refl
chain_same total na nb same (suc fuel) n low = by (n == 0) (chain_same total na nb same fuel) low
  where
    by : (b : Bool) → ((m : ℕ) → ((k : ℕ) → Contains (map_chain na fuel m) k → k < total) → map_chain nb fuel m ≡ map_chain na fuel m)
        → ((m : ℕ) → Contains (if b then [] else n ∷ map_chain na fuel (next_of (na n))) m → m < total)
        → (if b then [] else n ∷ map_chain nb fuel (next_of (nb n))) ≡ (if b then [] else n ∷ map_chain na fuel (next_of (na n)))
    by true rest low = refl
    by false rest low =
        let first : n < total = low n (at_front n (map_chain na fuel (next_of (na n)))) in
        let next : next_of (nb n) ≡ next_of (na n) = ap next_of (same n first) in
        ap (λ (ms : List ℕ). n ∷ ms) (ap (λ m. map_chain nb fuel m) next ∙ rest (next_of (na n)) (λ k has. low k (behind n k (map_chain na fuel (next_of (na n))) has)))

records_same : (total : ℕ) (na nb : Nodes) → ((n : ℕ) → n < total → nb n ≡ na n) → (chain : List ℕ) → ((m : ℕ) → Contains chain m → m < total) → flat_map (λ n. map_record (nb n)) chain ≡ flat_map (λ n. map_record (na n)) chain
records_same total na nb same [] low = refl
records_same total na nb same (n ∷ chain) low =
    let first : map_record (nb n) ≡ map_record (na n) = ap map_record (same n (low n (at_front n chain))) in
    let rest = records_same total na nb same chain (λ m has. low m (behind n m chain has)) in
    (λ i. first i ++ rest i)

map_same : (total size : ℕ) (na nb : Nodes) → ((n : ℕ) → n < total → nb n ≡ na n) → 0 < total → (chain : List ℕ) → ((m : ℕ) → Contains chain m → m < total) → map_bytes nb size chain ≡ map_bytes na size chain
unfolding map_bytes
map_same total size na nb same some chain low = let rest = records_same total na nb same chain low in (λ i. slice_range (same 0 some i) 248 (size - 8) ++ rest i)

module _ (form : TreeForm) (is_key is_value : List ℕ → Type 0) (cmp : List ℕ → List ℕ → Ordering) (h : TreeHead) (na nb : Nodes) (same : (n : ℕ) → n < h.total → nb n ≡ na n) (tree : IsTreeFile form is_key is_value cmp (file_of h na)) where
  abbrev a : TreeFile
  a = file_of h na

  abbrev b : TreeFile
  b = file_of h nb

  some : 0 < h.total
  some = omega (arith, tree.map_nodes.ends)

  low : (m : ℕ) → Contains (file_of h na).chain m → m < h.total
  low m has = (each_of (IsMapNode (file_of h na)) (file_of h na).chain tree.map_nodes.each m has).0

  chain_first : map_chain nb h.total (next_of (na 0)) ≡ map_chain na h.total (next_of (na 0))
  chain_first = chain_same h.total na nb same h.total (next_of (na 0)) low

  chain_is : (file_of h nb).chain ≡ (file_of h na).chain
  chain_is = ap (λ (n : List ℕ). map_chain nb h.total (next_of n)) (same 0 some) ∙ chain_first

  pub map_is : (file_of h nb).map ≡ (file_of h na).map
  map_is = ap (λ (c : List ℕ). map_bytes nb h.node_size c) chain_is ∙ map_same h.total h.node_size na nb same some (file_of h na).chain low

  used_is : (n : ℕ) → bit_of (file_of h nb).map n ≡ bit_of (file_of h na).map n
  used_is n = ap (λ (m : List ℕ). bit_of m n) map_is

  free_is : h.free + count_by (bit_of (file_of h nb).map) (range_with_len 0 h.total) ≡ h.total
  free_is = ap (λ (m : List ℕ). h.free + count_by (bit_of m) (range_with_len 0 h.total)) map_is ∙ tree.rules.mapped.free

  rules : IsTree is_key cmp (store_of (file_of h nb))
  rules = widened is_key cmp (store_of (file_of h na)) (store_of (file_of h nb)) tree.rules refl refl refl refl refl refl some (omega arith) (λ n less free. same n less) (λ n less. used_is n)
      (λ n less. ap (λ (c : List ℕ). is_reserved_in c n) chain_is) (λ n high less. absurd (omega (arith, high, less))) free_is

  -- the pairs are the same
  pub pairs_alike : pairs_of (store_of (file_of h nb)) ≡ pairs_of (store_of (file_of h na))
  pairs_alike = pairs_same is_key cmp (store_of (file_of h na)) (store_of (file_of h nb)) tree.rules refl refl refl refl refl refl some (omega arith) (λ n less free. same n less) (λ n less. used_is n)
      (λ n less. ap (λ (c : List ℕ). is_reserved_in c n) chain_is) (λ n high less. absurd (omega (arith, high, less))) free_is

  map_node : (m : ℕ) → IsMapNode (file_of h na) m → IsMapNode (file_of h nb) m
  map_node m is = (is.0, rw (same m is.0) is.1, rw (same m is.0) is.2)

  -- and the tree is one of the same form
  pub file_alike : IsTreeFile form is_key is_value cmp (file_of h nb)
  file_alike = record {
    has_form = record { size = tree.has_form.size; least = tree.has_form.least; attributes = tree.has_form.attributes; max_key = tree.has_form.max_key; bits = omega (arith, tree.has_form.bits, ap (λ (m : List ℕ). length m) map_is) };
    map_nodes = record {
      header = subst IsHeaderNode (sym (same 0 some)) tree.map_nodes.header;
      each = all_of (IsMapNode (file_of h nb)) (file_of h nb).chain (λ m has. map_node m (each_of (IsMapNode (file_of h na)) (file_of h na).chain tree.map_nodes.each m (subst (λ (c : List ℕ). Contains c m) chain_is has)));
      ends = omega (arith, tree.map_nodes.ends, ap (λ (c : List ℕ). length c) chain_is);
      distinct = subst (λ (c : List ℕ). (i j : ℕ) → i < length c → j < length c → get_or c i 0 ≡ get_or c j 0 → i ≡ j) (sym chain_is) tree.map_nodes.distinct;
    };
    rules = rules;
    values = subst (λ (pairs : List Pair). All (λ pair. is_value pair.1) pairs) (sym pairs_alike) tree.values;
    no_more = λ n high. used_is n ∙ tree.no_more n high;
  }

-- a tree in a file whose fork has just its nodes
pub tree_holds : (form : TreeForm) (is_key is_value : List ℕ → Type 0) (cmp : List ℕ → List ℕ → Ordering) (sectors : List ℕ) (tree : TreeFile) → IsTreeFile form is_key is_value cmp tree → tree.head.total * (tree.head.node_size / 512) ≡ length sectors → HoldsNodes sectors tree
tree_holds form is_key is_value cmp sectors tree is whole = record {
  size = is.has_form.size;
  whole = whole;
  map_nodes = is.map_nodes;
  bits = is.has_form.bits;
  free = is.rules.mapped.free;
  reserved = λ n less reserved. (is.rules.mapped.used n less).1 (inr reserved);
  no_more = is.no_more;
}
