-- A tree without a record, as a volume is made with it, is a tree in its file.
use Rattle.std.proofs.Common.{◌≡◌, ℕ, ◌+◌, ◌<◌, ◌≤◌, ◌==◌, ◌||◌, ◌&&◌, nat_lt, nat_le, Bool, true, false, List, length, refl, sym, ◌∙◌, ap, subst, arith, ⊎_elim}
use Rattle.std.specs.List.{All, list_any}
use Rattle.std.specs.declared.cmp.Ordering.{Ordering}
use Rattle.std.proofs.lemmas.Bool.{cases_lt, lt-ltb, le-ltb, eq-eqb, ne_eqb}
use Rattle.std.proofs.lemmas.List.Elements.{All-nil}
use Rattle.flag_rows.specs.Bits.{bit_of}
use Rattle.flag_rows.specs.Bitmap.{is_marked, nowhere}
use Rattle.flag_rows.proofs.Bitmaps.{bit_of-bits_bytes, bit_of-bits_bytes_behind, length-bits_bytes}
use Rattle.btree_node.specs.Levels.{Pair}
use Rattle.btree_node.specs.Node.{is_node_size}
use Rattle.btree_node.specs.Codec.{head_of}
use Rattle.btree_node.specs.Mem.{IsBare}
use Rattle.btree_node.specs.MemLaws.{bare_tree, legal_size}
use Rattle.btree_node.specs.TreeFile.{TreeFile, TreeHead, TreeForm, HasForm, HasMapNodes, IsMapNode, IsTreeFile, store_of, is_reserved_in}
use Rattle.btree_node.specs.declared.codec.TreeHeader.{TreeHeader}
use Rattle.hfs_model.specs.Fresh.{empty_tree}
use Rattle.fresh_volume.specs.Fresh.{IsFreshTree}
use Rattle.fresh_volume.proofs.Trees.{no_pairs}

or_none : (a b : Bool) → (a || (b && false)) ≡ a
or_none true true = refl
or_none true false = refl
or_none false true = refl
or_none false false = refl

or_false : (a : Bool) → (a || false) ≡ a
or_false true = refl
or_false false = refl

-- the first so many numbers are marked
pub marked : (used n : ℕ) → is_marked used nowhere n ≡ nat_lt n used
marked used n = ap (λ (b : Bool). nat_lt n used || (nat_le 0 n && b)) (le-ltb n 0 (omega arith)) ∙ or_none (nat_lt n used) (nat_le 0 n)

first_one : (n : ℕ) → nat_lt n 1 ≡ (n == 0)
first_one n = ⊎_elim
    (λ (low : n < 1). lt-ltb n 1 low ∙ sym (eq-eqb n 0 (omega (arith, low))))
    (λ (high : 1 ≤ n). le-ltb n 1 high ∙ sym (ne_eqb n 0 (λ zero_is. absurd (omega (arith, zero_is, high)))))
    (cases_lt n 1)

-- a node's bit in the map of a fresh tree
module _ (tree : TreeHeader) (used : ℕ) (file : TreeFile) (fresh : IsFreshTree tree used file) where
  pub map_bit : (n : ℕ) → n < 30720 → bit_of file.map n ≡ nat_lt n used
  map_bit n low =
      ap (λ (m : List ℕ). bit_of m n) fresh.map ∙ bit_of-bits_bytes (is_marked used nowhere) 0 3840 n (omega (arith, low))
      ∙ ap (is_marked used nowhere) {x = 0 + n} {y = n} (omega arith) ∙ marked used n

  pub no_bit : (n : ℕ) → used ≤ n → bit_of file.map n ≡ false
  no_bit n past =
      ⊎_elim
      (λ (low : n < 30720). map_bit n low ∙ le-ltb n used past)
      (λ (high : 30720 ≤ n). ap (λ (m : List ℕ). bit_of m n) fresh.map ∙ bit_of-bits_bytes_behind (is_marked used nowhere) 0 3840 n (omega (arith, high)))
      (cases_lt n 30720)

  pub reserved_is : (n : ℕ) → is_reserved_in file.chain n ≡ (n == 0)
  reserved_is n = ap (λ (c : List ℕ). (n == 0) || list_any (λ other. other == n) c) fresh.chain ∙ or_false (n == 0)

  pub form_is : (form : TreeForm) → tree.node_size ≡ 4096 → tree.total_nodes ≤ 30720 → form.least_node ≤ 4096 → tree.attributes ≡ form.attributes → tree.max_key_length ≡ form.max_key → HasForm form file
  form_is form size few least attributes key =
      let node_size : file.head.node_size ≡ 4096 = ap (λ (h : TreeHead). h.node_size) fresh.head ∙ size in
      let total : file.head.total ≡ tree.total_nodes = ap (λ (h : TreeHead). h.total) fresh.head in
      let long : length file.map ≡ 3840 = ap length fresh.map ∙ length-bits_bytes (is_marked used nowhere) 0 3840 in
      record {
        size = legal_size file.head.node_size (ap is_node_size node_size);
        least = omega (arith, node_size, least);
        attributes = ap (λ (h : TreeHead). h.attributes) fresh.head ∙ attributes;
        max_key = ap (λ (h : TreeHead). h.max_key) fresh.head ∙ key;
        bits = omega (arith, total, long, few);
      }

  pub map_nodes_are : 0 < tree.total_nodes → HasMapNodes file
  map_nodes_are some =
      let none : length file.chain ≡ 0 = ap length fresh.chain in
      let total : file.head.total ≡ tree.total_nodes = ap (λ (h : TreeHead). h.total) fresh.head in
      record {
        header = fresh.header.node;
        each = subst (λ (c : List ℕ). All (IsMapNode file) c) (sym fresh.chain) (All-nil (IsMapNode file));
        ends = omega (arith, none, total, some);
        distinct = λ i j low other same. absurd (omega (arith, none, low));
      }

pub empty_stands : (block key attributes : ℕ) (file : TreeFile) (form : TreeForm) (is_key is_value : List ℕ → Type 0) (cmp : List ℕ → List ℕ → Ordering) → IsFreshTree (empty_tree block key attributes) 1 file
    → form.least_node ≤ 4096 → attributes ≡ form.attributes → key ≡ form.max_key → IsTreeFile form is_key is_value cmp file
empty_stands block key attributes file form is_key is_value cmp fresh least attributes_are key_is =
    let tree : TreeHeader = empty_tree block key attributes in
    let of : (f : TreeHead → ℕ) → f file.head ≡ f (head_of tree) = λ f. ap f fresh.head in
    let total : file.head.total ≡ 16 = of (λ h. h.total) in
    let free : file.head.free ≡ 15 = of (λ h. h.free) in
    let depth : file.head.depth ≡ 0 = of (λ h. h.depth) in
    let bare : IsBare 4096 16 (store_of file) = record {
      node_size = of (λ h. h.node_size);
      total = total;
      free = omega (arith, free);
      depth = depth;
      root = of (λ h. h.root);
      first = of (λ h. h.first);
      last = of (λ h. h.last);
      leaf_records = of (λ h. h.leaf_records);
      used = λ n low. map_bit tree 1 file fresh n (omega (arith, low)) ∙ first_one n;
      reserved = reserved_is tree 1 file fresh;
    } in
    record {
      has_form = form_is tree 1 file fresh form refl (omega arith) least attributes_are key_is;
      map_nodes = map_nodes_are tree 1 file fresh (omega arith);
      rules = bare_tree is_key cmp 4096 16 (store_of file) bare;
      values = subst (λ (pairs : List Pair). All (λ pair. is_value pair.1) pairs) (sym (no_pairs file.nodes file.head.root file.head.depth depth)) (All-nil (λ (pair : Pair). is_value pair.1));
      no_more = λ n past. no_bit tree 1 file fresh n (omega (arith, past, total));
    }
