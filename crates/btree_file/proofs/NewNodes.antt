-- The bytes of a new map node, and of a node whose links are set.
use Rattle.std.proofs.Common.{◌≡◌, ℕ, ◌+◌, ◌-◌, ◌*◌, ◌/◌, ◌≤◌, ◌<◌, true, List, [], ◌∷◌, length, get_or, slice_range, take, drop, ◌⊎◌, inl, inr, refl, sym, ◌∙◌, ap, subst, arith, ⊎_elim}
use Rattle.std.specs.Prelude.{pos}
use Rattle.std.proofs.lemmas.List.{length-take, get_or-take, get_or-drop}
use Rattle.std.proofs.lemmas.List.Edits.{length-between}
use Rattle.flag_rows.proofs.ByteLaws.{bits_empty}
use Rattle.btree_node.specs.Node.{IsNode, IsNodeOf, SetsLinks, items, next_of, offset, record_count}
use Rattle.btree_node.specs.TreeFile.{SetsBit}
use Rattle.btree_node.proofs.Items.{length-items, item-is, offsets_rise}
use Rattle.btree_node.proofs.Offsets.{same_offset}
use Rattle.btree_node.proofs.Places.{same_two}
use Rattle.btree_file.specs.Growth.{IsNewMapNode}
use Rattle.btree_file.specs.Map.{IsMapRecord}
use Rattle.btree_file.proofs.Grammar.{SameGrammar, grammar_kept, record_kept}
use Rattle.btree_file.proofs.MapNodes.{SameRecords}

-- ---- a node with one record

module _ (page zeros : List ℕ) (size : ℕ) (large : 512 ≤ size) (long : length page ≡ size) (zeros_long : length zeros ≡ size) (filled : items page ≡ take (size - 20) zeros ∷ []) (grammar : IsNodeOf (pos 2) 0 page) where
  one : record_count page ≡ 1
  one = sym (length-items page) ∙ ap (λ (l : List (List ℕ)). length l) filled

  cut : IsNode page
  cut = grammar.well_formed

  pub end_low : offset page 1 + 4 ≤ size
  end_low = omega (arith, cut.inside, one, ap (λ n. offset page n) one, long)

  pub ordered : offset page 0 ≤ offset page 1
  ordered = cut.rising 0 (omega (arith, one))

  bytes_are : slice_range page (offset page 0) (offset page 1) ≡ take (size - 20) zeros
  bytes_are = sym (item-is page 0 (omega (arith, one))) ∙ ap (λ (l : List (List ℕ)). get_or l 0 []) filled

  pub len_is : offset page 0 + (size - 20) ≡ offset page 1
  len_is = omega (
    arith,
    length-between page (offset page 0) (offset page 1) (omega (arith, end_low, long)),
    ap (λ (l : List ℕ). length l) bytes_are,
    length-take (size - 20) zeros,
    zeros_long,
    large,
    ordered,
  )

  pub start_low : offset page 0 ≤ 16
  start_low = omega (arith, len_is, end_low, large)

  module _ (none : (k : ℕ) → get_or zeros k 0 ≡ 0) where
    byte_at : (j : ℕ) → j < size - 20 → get_or page (offset page 0 + j) 0 ≡ 0
    byte_at j low =
        let inside : j < offset page 1 - offset page 0 = omega (arith, low, len_is) in
        sym (get_or-take (offset page 1 - offset page 0) (drop (offset page 0) page) j 0 inside ∙ get_or-drop (offset page 0) page j 0)
        ∙ ap (λ (l : List ℕ). get_or l j 0) bytes_are ∙ get_or-take (size - 20) zeros j 0 low ∙ none j

    pub new_map_node : (after : List ℕ) (node : ℕ) → next_of page ≡ 0 → SetsBit (8 * offset page 0) true page after → IsNewMapNode after (record { node = node; at = offset page 0; len = offset page 1 - offset page 0 })
    new_map_node after node next sets =
        let same : SameGrammar page after = grammar_kept page after (offset page 0) (offset page 0 + 1) sets.size cut.first (omega (arith, one, start_low, long, large)) (omega arith)
        (λ k where_. sets.bytes k (⊎_elim (λ (before : k < offset page 0). λ e. absurd (omega (arith, before, e))) (λ (behind : offset page 0 + 1 ≤ k). λ e. absurd (omega (arith, behind, e))) where_)) in
        let was : IsMapRecord page (record { node = node; at = offset page 0; len = offset page 1 - offset page 0 }) = record { grammar = grammar; some = omega (arith, one); from = refl; to = omega (arith, ordered) } in
        record {
          is_record = record_kept page after (record { node = node; at = offset page 0; len = offset page 1 - offset page 0 }) same was;
          no_next = same.next ∙ next;
          long = omega (arith, len_is, sets.size, long, large);
          own = sets.here;
          others = λ i some low. sets.others (8 * offset page 0 + i) (λ e. omega (arith, e, some))
              ∙ bits_empty page (8 * offset page 0 + i) (ap (λ k. get_or page k 0) {x = (8 * offset page 0 + i) / 8} {y = offset page 0 + i / 8} (omega arith) ∙ byte_at (i / 8) (omega (arith, low, len_is)));
        }

    -- the same, where the two offsets are said otherwise
    pub made : (after : List ℕ) (node from to : ℕ) → from ≡ offset page 0 → to ≡ offset page 1 → next_of page ≡ 0 → SetsBit (8 * from) true page after → IsNewMapNode after (record { node = node; at = from; len = to - from })
    made after node from to from_is to_is next sets =
        subst (λ f. IsNewMapNode after (record { node = node; at = f; len = to - f })) (sym from_is)
        (subst (λ t. IsNewMapNode after (record { node = node; at = offset page 0; len = t - offset page 0 })) (sym to_is)
        (new_map_node after node next (subst (λ f. SetsBit (8 * f) true page after) from_is sets)))

-- ---- links

-- bytes behind the links stay
pub links_byte : (behind before : ℕ) (a b : List ℕ) → SetsLinks behind before a b → (k : ℕ) → 8 ≤ k → get_or b k 0 ≡ get_or a k 0
links_byte behind before a b sets k high =
    let place : 8 + (k - 8) ≡ k = omega (arith, high) in
    ap (λ i. get_or b i 0) (sym place) ∙ sym (get_or-drop 8 b (k - 8) 0) ∙ ap (λ (l : List ℕ). get_or l (k - 8) 0) sets.rest ∙ get_or-drop 8 a (k - 8) 0 ∙ ap (λ i. get_or a i 0) place

pub links_records : (behind before : ℕ) (a b : List ℕ) → SetsLinks behind before a b → IsNode a → SameRecords a b
unfolding record_count
links_records behind before a b sets node = record {
  size = sets.size;
  kind = sets.kind;
  height = sets.height;
  count = same_two a b 10 10 (links_byte behind before a b sets 10 (omega arith)) (links_byte behind before a b sets 11 (omega arith));
  offsets = λ i few. same_offset a b i sets.size (omega (arith, node.inside, few)) (λ k is. links_byte behind before a b sets k (place i k few is));
}
  where
    place : (i k : ℕ) → i ≤ record_count a → (k + 2 * (i + 1) ≡ length a) ⊎ (k + 2 * (i + 1) ≡ length a + 1) → 8 ≤ k
    place i k few (inl is) = omega (arith, node.inside, node.first, offsets_rise a node 0 (record_count a) (omega arith) (omega arith), few, is)
    place i k few (inr is) = omega (arith, node.inside, node.first, offsets_rise a node 0 (record_count a) (omega arith) (omega arith), few, is)
