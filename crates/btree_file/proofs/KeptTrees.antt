-- A tree in a content, after its file has grown.
use Rattle.std.proofs.Common.{◌≡◌, ℕ, ◌≤◌, ◌<◌, false, List, sym, ◌∙◌, ap, subst, arith}
use Rattle.std.specs.Prelude.{Result, Ok, Err, OnOk}
use Rattle.std.specs.List.{All}
use Rattle.std.specs.declared.cmp.Ordering.{Ordering}
use Rattle.hx_bytes.specs.declared.extents.Extent.{Extent}
use Rattle.hx_bytes.specs.declared.faults.Trouble.{Trouble}
use Rattle.btree_node.specs.Levels.{Nodes, Pair}
use Rattle.btree_node.specs.Store.{Store}
use Rattle.btree_node.specs.Tree.{IsTree}
use Rattle.btree_node.specs.TreeFile.{TreeHead, TreeForm, store_of}
use Rattle.btree_node.specs.declared.store.TreeShape.{TreeShape}
use Rattle.btree_file.specs.Growth.{HasGrown}
use Rattle.btree_file.specs.Held.{file_in}
use Rattle.btree_file.specs.Standing.{HoldsTree, pairs_in}
use Rattle.btree_file.specs.State.{sectors_of_tree}
use Rattle.btree_file.specs.declared.tree.TreeFile.{TreeFile}
use Rattle.btree_file.proofs.StandingLaws.{head_is, shape_is, nodes_are, used_are, reserved_are, holds_nodes}
use Rattle.btree_file.proofs.Widened.{widened, pairs_same}

module _ (form : TreeForm) (is_key is_value : List ℕ → Type 0) (cmp : List ℕ → List ℕ → Ordering) (run : Extent) (before after : TreeFile) (old new : List (List ℕ)) (was : HoldsTree form is_key is_value cmp before old) (grown : HasGrown run before after old new) where
  abbrev first : Store
  first = store_of (file_in (sectors_of_tree before) old)

  abbrev second : Store
  second = store_of (file_in (sectors_of_tree after) new)

  shape_first : first.shape ≡ before.shape
  shape_first = shape_is before old was.stands

  shape_second : second.shape ≡ after.shape
  shape_second = shape_is after new grown.stands

  -- a number of the shape that no growth changes
  number : (f : TreeShape → ℕ) → f after.shape ≡ f before.shape → f second.shape ≡ f first.shape
  number f same = ap f shape_second ∙ same ∙ sym (ap f shape_first)

  total_first : first.shape.total ≡ before.shape.total
  total_first = ap (λ (s : TreeShape). s.total) shape_first

  total_second : second.shape.total ≡ after.shape.total
  total_second = ap (λ (s : TreeShape). s.total) shape_second

  node_same : (n : ℕ) → n < first.shape.total → first.reserved n ≡ false → second.nodes n ≡ first.nodes n
  node_same n low free =
      ap (λ (m : Nodes). m n) (nodes_are after new grown.stands) ∙ grown.tree.nodes n (omega (arith, low, total_first)) (reserved_are before old was.stands n ∙ free) ∙ ap (λ (m : Nodes). m n) (sym (nodes_are before old was.stands))

  used_same : (n : ℕ) → n < first.shape.total → second.used n ≡ first.used n
  used_same n low =
      sym (used_are after new grown.stands n (omega (arith, low, total_first, grown.tree.order, grown.stands.agrees.bits))) ∙ grown.tree.used n (omega (arith, low, total_first))
      ∙ used_are before old was.stands n (omega (arith, low, total_first, was.stands.agrees.bits))

  reserved_same : (n : ℕ) → n < first.shape.total → second.reserved n ≡ first.reserved n
  reserved_same n low = sym (reserved_are after new grown.stands n) ∙ grown.tree.reserved n (omega (arith, low, total_first)) ∙ reserved_are before old was.stands n

  new_used : (n : ℕ) → first.shape.total ≤ n → n < second.shape.total → second.used n ≡ second.reserved n
  new_used n high low =
      sym (used_are after new grown.stands n (omega (arith, low, total_second, grown.stands.agrees.bits))) ∙ grown.tree.fresh n (omega (arith, high, total_first)) (omega (arith, low, total_second)) ∙ reserved_are after new grown.stands n

  rules_kept : IsTree is_key cmp second
  rules_kept = widened is_key cmp first second was.file.rules (number (λ s. s.depth) (ap (λ (s : TreeShape). s.depth) grown.tree.numbers)) (number (λ s. s.root) (ap (λ (s : TreeShape). s.root) grown.tree.numbers))
      (number (λ s. s.first) (ap (λ (s : TreeShape). s.first) grown.tree.numbers)) (number (λ s. s.last) (ap (λ (s : TreeShape). s.last) grown.tree.numbers)) (number (λ s. s.leaf_records) (ap (λ (s : TreeShape). s.leaf_records) grown.tree.numbers))
      (number (λ s. s.node_size) (ap (λ (s : TreeShape). s.node_size) grown.tree.numbers)) (omega (arith, total_first, was.stands.agrees.some)) (omega (arith, total_first, total_second, grown.tree.order))
      node_same used_same reserved_same new_used (holds_nodes after new grown.stands).free

  -- its pairs are the same
  pub pairs_grown : pairs_in (sectors_of_tree after) new ≡ pairs_in (sectors_of_tree before) old
  pairs_grown = pairs_same is_key cmp first second was.file.rules (number (λ s. s.depth) (ap (λ (s : TreeShape). s.depth) grown.tree.numbers)) (number (λ s. s.root) (ap (λ (s : TreeShape). s.root) grown.tree.numbers))
      (number (λ s. s.first) (ap (λ (s : TreeShape). s.first) grown.tree.numbers)) (number (λ s. s.last) (ap (λ (s : TreeShape). s.last) grown.tree.numbers)) (number (λ s. s.leaf_records) (ap (λ (s : TreeShape). s.leaf_records) grown.tree.numbers))
      (number (λ s. s.node_size) (ap (λ (s : TreeShape). s.node_size) grown.tree.numbers)) (omega (arith, total_first, was.stands.agrees.some)) (omega (arith, total_first, total_second, grown.tree.order))
      node_same used_same reserved_same new_used (holds_nodes after new grown.stands).free

  -- and it is a tree of the same form
  pub held_grown : HoldsTree form is_key is_value cmp after new
  held_grown =
      let holds = holds_nodes after new grown.stands in
      let head = head_is after new grown.stands in
      let head_was = head_is before old was.stands in
      let form_is = was.file.has_form in
      record {
        stands = grown.stands;
        file = record {
          has_form = record {
            size = holds.size;
            least = omega (arith, form_is.least, ap (λ (h : TreeHead). h.node_size) head, ap (λ (h : TreeHead). h.node_size) head_was, grown.stands.agrees.says_size, was.stands.agrees.says_size, ap (λ (s : TreeShape). s.node_size) grown.tree.numbers);
            attributes = ap (λ (h : TreeHead). h.attributes) head ∙ grown.tree.form.attributes ∙ ap (λ (h : TreeHead). h.attributes) (sym head_was) ∙ form_is.attributes;
            max_key = ap (λ (h : TreeHead). h.max_key) head ∙ grown.tree.form.max_key ∙ ap (λ (h : TreeHead). h.max_key) (sym head_was) ∙ form_is.max_key;
            bits = holds.bits;
          };
          map_nodes = holds.map_nodes;
          rules = rules_kept;
          values = subst (λ (pairs : List Pair). All (λ pair. is_value pair.1) pairs) (sym pairs_grown) was.file.values;
          no_more = holds.no_more;
        };
      }

-- what a caller of a growth has in the end
pub holds_grown : {A : Type 0} (form : TreeForm) (is_key is_value : List ℕ → Type 0) (cmp : List ℕ → List ℕ → Ordering) (run : Extent) (before after : TreeFile) (old new : List (List ℕ)) (result : Result A Trouble) → HoldsTree form is_key is_value cmp before old
    → OnOk result (HasGrown run before after old new) → OnOk result (HoldsTree form is_key is_value cmp after new × (pairs_in (sectors_of_tree after) new ≡ pairs_in (sectors_of_tree before) old))
holds_grown form is_key is_value cmp run before after old new (Ok done) was grown = (held_grown form is_key is_value cmp run before after old new was grown, pairs_grown form is_key is_value cmp run before after old new was grown)
holds_grown form is_key is_value cmp run before after old new (Err why) was grown = grown
