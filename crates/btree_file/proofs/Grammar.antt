-- A node whose bytes change between its descriptor and its offsets keeps its place, its kind and where its records stand.
use Rattle.std.proofs.Common.{◌≡◌, ◌⊎◌, ℕ, ◌+◌, ◌*◌, ◌<◌, ◌≤◌, List, length, get_or, inl, inr, refl, sym, ◌∙◌, ap, subst, arith}
use Rattle.std.specs.Int.{cast_signed, w8}
use Rattle.std.specs.Prelude.{ℤ, pos}
use Rattle.btree_node.specs.Levels.{Nodes}
use Rattle.btree_node.specs.Node.{IsNode, IsNodeOf, kind_of, height_of, next_of, offset, record_count}
use Rattle.btree_node.specs.TreeFile.{IsHeaderNode}
use Rattle.btree_node.proofs.Offsets.{same_offset}
use Rattle.btree_node.proofs.Places.{same_two, same_four}
use Rattle.btree_file.specs.Map.{IsMapRecord, AreStretches}
use Rattle.btree_file.specs.declared.tree.Stretch.{Stretch}

pub record SameGrammar (a b : List ℕ) : Type 0 where
  pub size : length b ≡ length a
  pub next : next_of b ≡ next_of a
  pub kind : kind_of b ≡ kind_of a
  pub height : height_of b ≡ height_of a
  pub count : record_count b ≡ record_count a
  pub offsets : (i : ℕ) → i ≤ record_count a → offset b i ≡ offset a i

pub grammar_same : (a : List ℕ) → SameGrammar a a
grammar_same a = record { size = refl; next = refl; kind = refl; height = refl; count = refl; offsets = λ i low. refl }

pub grammar_equal : (a b : List ℕ) → b ≡ a → SameGrammar a b
grammar_equal a b e = subst (λ l. SameGrammar a l) (sym e) (grammar_same a)

-- bytes from a place up to another change, which lie behind the descriptor and before the offsets
pub grammar_kept : (a b : List ℕ) (from to : ℕ) → length b ≡ length a → 14 ≤ from → to + 2 * (record_count a + 1) ≤ length a → from ≤ to
    → ((k : ℕ) → (k < from) ⊎ (to ≤ k) → get_or b k 0 ≡ get_or a k 0) → SameGrammar a b
unfolding kind_of height_of next_of record_count
grammar_kept a b from to size low high order same = record {
  size = size;
  next = same_four a b 0 (λ k few. same (0 + k) (inl (omega (arith, low, few))));
  kind = ap (λ n. cast_signed w8 n) (same 8 (inl (omega (arith, low))));
  height = same 9 (inl (omega (arith, low)));
  count = same_two a b 10 10 (same 10 (inl (omega (arith, low)))) (same 11 (inl (omega (arith, low))));
  offsets = λ i few. same_offset a b i size (omega (arith, high, few)) (λ k is. same k (inr (behind i k few is)));
}
  where
    behind : (i k : ℕ) → i ≤ record_count a → (k + 2 * (i + 1) ≡ length a) ⊎ (k + 2 * (i + 1) ≡ length a + 1) → to ≤ k
    behind i k few (inl is) = omega (arith, high, few, is)
    behind i k few (inr is) = omega (arith, high, few, is)

node_kept : (a b : List ℕ) → SameGrammar a b → IsNode a → IsNode b
node_kept a b same node = record {
  first = omega (arith, node.first, same.offsets 0 (omega arith));
  rising = λ i low. omega (arith, node.rising i (omega (arith, low, same.count)), same.offsets i (omega (arith, low, same.count)), same.offsets (i + 1) (omega (arith, low, same.count)));
  inside = omega (arith, node.inside, same.size, same.count, ap (λ i. offset b i) same.count, same.offsets (record_count a) (omega arith));
}

pub node_of_kept : (kind : ℤ) (height : ℕ) (a b : List ℕ) → SameGrammar a b → IsNodeOf kind height a → IsNodeOf kind height b
node_of_kept kind height a b same node = record { well_formed = node_kept a b same node.well_formed; has_kind = same.kind ∙ node.has_kind; has_height = same.height ∙ node.has_height }

pub header_kept : (a b : List ℕ) → SameGrammar a b → IsHeaderNode a → IsHeaderNode b
header_kept a b same header = (node_of_kept (pos 1) 0 a b same header.0, same.count ∙ header.1)

pub record_kept : (a b : List ℕ) (stretch : Stretch) → SameGrammar a b → IsMapRecord a stretch → IsMapRecord b stretch
record_kept a b stretch same is = record {
  grammar = node_of_kept (pos 2) 0 a b same is.grammar;
  some = omega (arith, is.some, same.count);
  from = is.from ∙ sym (same.offsets 0 (omega arith));
  to = is.to ∙ sym (same.offsets 1 (omega (arith, is.some)));
}

pub stretches_kept : (a b : Nodes) (size : ℕ) (map : List Stretch) → ((k : ℕ) (d : Stretch) → k < length map → SameGrammar (a (get_or map k d).node) (b (get_or map k d).node)) → AreStretches a size map → AreStretches b size map
stretches_kept a b size map same are = record {
  some = are.some;
  first = are.first;
  each = λ k d above low. record_kept (a (get_or map k d).node) (b (get_or map k d).node) (get_or map k d) (same k d low) (are.each k d above low);
  next = λ k d low. (same k d (omega (arith, low))).next ∙ are.next k d low;
  last = λ k d is. (same k d (omega (arith, is))).next ∙ are.last k d is;
}
