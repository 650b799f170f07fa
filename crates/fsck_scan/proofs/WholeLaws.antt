-- The steps of a scan of a whole tree: the fork's nodes, the header record, the map, the levels, and the numbers.
use Rattle.std.proofs.Common.{◌≡◌, ◌≢◌, ◌⊎◌, ◌<◌, ◌≤◌, ℕ, zero, suc, pos, ◌+◌, ◌-◌, ◌*◌, ◌^◌, ◌/◌, ◌%◌, min, Bool, true, false, ◌==◌, List, [], ◌∷◌, ◌++◌, length, map, take, drop, get_or, replicate, inl, inr, refl, sym, ◌∙◌, ap, subst, arith, ⊎_elim, length-append, if◌then◌else◌}
use Rattle.std.specs.Prelude.{slice_index, slice_index_or}
use Rattle.std.specs.List.{count_by, range_with_len}
use Rattle.std.specs.declared.cmp.Ordering.{Ordering}
use Rattle.std.proofs.lemmas.Bool.{cases_lt}
use Rattle.std.proofs.lemmas.Bool.Decides.{eqb_tells}
use Rattle.std.proofs.lemmas.Grind.{div_ceil_times}
use Rattle.std.proofs.lemmas.List.{get_or-replicate, length-map, length-replicate}
use Rattle.std.proofs.lemmas.List.FromFn.{length-range_with_len}
use Rattle.std.proofs.Math.ListN.{drop_of_length-le}
use Rattle.jnl_format.specs.Recovery.{Content}
use Rattle.flag_rows.specs.Bits.{bit_of, count_set}
use Rattle.fork_map.specs.Blocks.{sectors_of}
use Rattle.btree_node.specs.Node.{IsNodeSize, kind_of, height_of}
use Rattle.btree_node.specs.Levels.{Nodes, entries, leaves, pair_of}
use Rattle.btree_node.specs.Tree.{pairs_of}
use Rattle.btree_node.specs.TreeFile.{TreeFile, TreeForm, TreeHead, tree_head, file_of, store_of}
use Rattle.hfs_model.specs.Step.{padded}
use Rattle.hfs_volume.specs.Content.{block_bytes, node_of_fork, tree_of_fork}
use Rattle.hfs_volume.specs.Broken.{Finding, levels_in, level_in, leaves_in, is_in_use, form_wants, IsBrokenTree, IsUnmet}
use Rattle.hfs_volume.proofs.TreeWants.{fits_size}
use Rattle.fsck_scan.specs.Form.{form_in, head_in, FitsForm, FitsRoot, FitsLeaves, IsWrongBit, tree_at}
use Rattle.fsck_scan.specs.Map.{AreBlankPast, HasMapRead}
use Rattle.fsck_scan.specs.Scan.{HasScanned, StandsAt, ComesToRoot, HasBegun, HasAllLevels, IsScanned}
use Rattle.fsck_scan.specs.declared.form.Form.{Form}
use Rattle.fsck_scan.specs.declared.form.Head.{Head}
use Rattle.fsck_scan.proofs.ScanLaws.{records_of, used_count}
use Rattle.fsck_scan.proofs.EndLaws.{scanned_tree, keeps_rules, bit_broken, begins}

-- ---- the nodes of a fork

-- how many sectors blocks have
pub sectors_long : (per : ℕ) (blocks : List ℕ) → length (sectors_of per blocks) ≡ length blocks * per
sectors_long per [] = omega arith
sectors_long per (b ∷ blocks) = omega (arith, sectors_long per blocks, length-append (range_with_len (b * per) per) (sectors_of per blocks), length-range_with_len (b * per) per)

-- zeros are a node of no kind and no height
zeros_are : (size : ℕ) → 10 ≤ size → (kind_of (replicate size 0) ≡ pos 0) × (height_of (replicate size 0) ≡ 0)
unfolding kind_of height_of
zeros_are size long =
    let eight : slice_index (replicate size 0) 8 ≡ 0 = get_or-replicate size 8 0 0 (omega (arith, long)) in
    let nine : slice_index (replicate size 0) 9 ≡ 0 = get_or-replicate size 9 0 0 (omega (arith, long)) in
    (rw eight refl, nine)

-- behind the sectors of a fork its nodes are zeros
node_past : (content : Content) (limit : ℕ) (sectors : List ℕ) (size n : ℕ) → length sectors ≤ n * (size / 512) → node_of_fork content limit sectors size n ≡ replicate size 0
unfolding node_of_fork block_bytes
node_past content limit sectors size n past = ap (λ l. padded size (block_bytes content limit (take (size / 512) l))) (drop_of_length-le sectors past) ∙ none (size / 512)
  where
    all : replicate {A = ℕ} (size - 0) 0 ≡ replicate size 0
    all = ap (λ n. replicate {A = ℕ} n 0) (let is : size - 0 ≡ size = omega arith in is)

    none : (k : ℕ) → padded size (block_bytes content limit (take k [])) ≡ replicate size 0
    none zero = all
    none (suc k) = all

size_least : (size : ℕ) → IsNodeSize size → (10 ≤ size) × (0 < size / 512)
size_least size (inl is) = (omega (arith, is), omega (arith, is))
size_least size (inr (inl is)) = (omega (arith, is), omega (arith, is))
size_least size (inr (inr (inl is))) = (omega (arith, is), omega (arith, is))
size_least size (inr (inr (inr (inl is)))) = (omega (arith, is), omega (arith, is))
size_least size (inr (inr (inr (inr (inl is))))) = (omega (arith, is), omega (arith, is))
size_least size (inr (inr (inr (inr (inr (inl is)))))) = (omega (arith, is), omega (arith, is))
size_least size (inr (inr (inr (inr (inr (inr is)))))) = (omega (arith, is), omega (arith, is))

pub some_sectors : (size : ℕ) → IsNodeSize size → 0 < size / 512
some_sectors size is = (size_least size is).1

-- a product of numbers that aren't smaller isn't smaller
times_more : (a b k : ℕ) → a ≤ b → a * k ≤ b * k
times_more zero b k less = omega arith
times_more (suc a) zero k less = absurd (omega (arith, less))
times_more (suc a) (suc b) k less = omega (arith, times_more a b k (omega (arith, less)))

-- a product of a number of blocks and the sectors of a block
pub few_sectors : (a b : ℕ) → a ≤ 2 ^ 97 → b ≤ 2 ^ 23 → a * b ≤ 2 ^ 120
few_sectors a b few per = let more : b * a ≤ (2 ^ 23) * a = times_more b (2 ^ 23) a per in let turned : a * b ≡ b * a = omega arith in omega (arith, more, turned, few)

-- the nodes that a fork doesn't have are zeros
pub blank_past : (content : Content) (limit : ℕ) (sectors : List ℕ) (size total long there : ℕ) → IsNodeSize size → length sectors ≡ long → there ≡ min (long / (size / 512) + min 1 (long % (size / 512))) total
    → AreBlankPast (λ n. node_of_fork content limit sectors size n) there total
blank_past content limit sectors size total long there is long_is there_is n past inside =
    let per = size / 512 in
    let up = long / per + min 1 (long % per) in
    let least = size_least size is in
    let reach = div_ceil_times long per least.1 in
    let low : up ≤ n = omega (arith, past, inside, there_is) in
    let zeros = node_past content limit sectors size n (let whole : length sectors ≤ n * per = omega (arith, long_is, reach.0, times_more up n per low) in whole) in
    let none = zeros_are size least.0 in
    (ap kind_of zeros ∙ none.0, ap height_of zeros ∙ none.1)

-- ---- the header record

-- the tree in a fork, where this is its header record
pub tree_is : (content : Content) (limit : ℕ) (sectors : List ℕ) (head : Head) → head_in head ≡ tree_head (node_of_fork content limit sectors 512 0) → tree_of_fork content limit sectors ≡ tree_at content limit sectors head.shape.node_size head
unfolding tree_of_fork
tree_is content limit sectors head is = λ i. scanned_tree_of (sym is i)
  where
    scanned_tree_of : TreeHead → TreeFile
    scanned_tree_of head = file_of head (node_of_fork content limit sectors head.node_size)

-- a header record of the form has a node size
pub form_size : (form : Form) (head : Head) → FitsForm form head → IsNodeSize head.shape.node_size
form_size form head fits = (fits_size (form_in form) head.shape.node_size fits.size).0

-- ---- the levels

module _ (is_key is_value : List ℕ → Type 0) (cmp : List ℕ → List ℕ → Ordering) (tree : TreeFile) (size total height root : ℕ) (marks : List Bool) (node : List ℕ)
    (at : HasBegun is_key is_value cmp tree size total height root marks node) where
  root_some : 0 < height → root ≢ 0
  root_some some none = let zero_is : levels_in tree ≡ 0 = ap (λ r. if r == 0 then 0 else height_of (tree.nodes r)) (at.root_is ∙ none) in omega (arith, some, at.height_is, zero_is)

  -- the scan comes to the root, if there is one
  pub comes_to : 0 < height → ComesToRoot is_key is_value cmp tree size total height root marks node
  comes_to some = record {
    size_is = at.size_is;
    total_is = at.total_is;
    root_is = at.root_is;
    height_is = at.height_is;
    some = some;
    node_is = at.node_is (root_some some);
    blank = at.blank;
    scanned = at.scanned;
  }

  -- the last level was read
  pub all_read : (now : List Bool) (ns : List ℕ) (records : List (List ℕ)) (ends : List ℕ) → 0 < height → StandsAt is_key is_value cmp tree (height - 1) now ns records ends → HasAllLevels is_key is_value cmp tree now ns records
  all_read now ns records ends some stands = record {
    scanned = subst (λ j. HasScanned is_key is_value cmp tree j now) (let is : height - 1 + 1 ≡ levels_in tree = omega (arith, some, at.height_is) in is) stands.scanned;
    nodes_are = stands.nodes_are ∙ sym leaves_are;
    pairs_are = ap (λ l. map pair_of l) (records_of is_key is_value cmp tree (height - 1) records ends stands.read) ∙ sym (ap (λ n. leaves tree.nodes tree.head.root n) (let is : levels_in tree ≡ suc (height - 1) = omega (arith, some, at.height_is) in is));
  }
    where
      leaves_are : leaves_in tree ≡ level_in tree (height - 1)
      leaves_are = ⊎_elim
          (λ (empty : (tree.head.root == 0 ≡ true) × (tree.head.root ≡ 0)). absurd (root_some some (sym at.root_is ∙ empty.1)))
          (λ (here : (tree.head.root == 0 ≡ false) × (tree.head.root ≢ 0)).
          ap (λ b. if b then [] else level_in tree (levels_in tree - 1)) here.0 ∙ ap (level_in tree) (let same : levels_in tree - 1 ≡ height - 1 = omega (arith, at.height_is) in same))
          (eqb_tells tree.head.root 0)

  -- a tree without a root has no level
  pub none_read : (ns : List ℕ) (records : List (List ℕ)) → height ≡ 0 → root ≡ 0 → ns ≡ [] → records ≡ [] → HasAllLevels is_key is_value cmp tree marks ns records
  none_read ns records none empty no_node no_record = record {
    scanned = subst (λ j. HasScanned is_key is_value cmp tree j marks) (sym (at.height_is ∙ none)) at.scanned;
    nodes_are = no_node ∙ sym (ap (λ r. if r == 0 then [] else level_in tree (levels_in tree - 1)) (at.root_is ∙ empty));
    pairs_are = ap (λ l. map pair_of l) no_record ∙ sym (ap (λ n. leaves tree.nodes tree.head.root n) (at.height_is ∙ none));
  }

-- ---- the whole tree

module _ (form : Form) (is_key is_value : List ℕ → Type 0) (cmp : List ℕ → List ℕ → Ordering) (head : Head) (nodes : Nodes) (marks : List Bool) (ns : List ℕ) (records : List (List ℕ)) (bits : List ℕ)
    (all : HasAllLevels is_key is_value cmp (scanned_tree head nodes) marks ns records) (bits_are : bits ≡ (scanned_tree head nodes).map) where
  abbrev tree : TreeFile
  tree = scanned_tree head nodes

  pub records_long : length (leaves nodes head.shape.root (levels_in tree)) ≡ length records
  records_long = sym (ap (λ l. length l) all.pairs_are) ∙ length-map records pair_of

  pub all_used : count_by (is_in_use tree) (range_with_len 0 head.shape.total) ≡ count_set marks
  all_used = used_count is_key is_value cmp tree marks all.scanned

  -- all numbers and bits fit: the tree keeps its rules
  pub scanned_whole : (height long : ℕ) → levels_in tree ≡ height → long ≡ length bits → FitsForm form head → FitsRoot head height long → FitsLeaves head ns (length records) (head.shape.total - count_set marks)
      → ((n : ℕ) → n < 8 * length bits → bit_of bits n ≡ get_or marks n false) → IsScanned (form_in form) is_key is_value cmp form.id tree records
  scanned_whole height long height_is long_is fits root ends bit_fits = record {
    keeps = keeps_rules form is_key is_value cmp head nodes marks all.scanned fits
        (subst (λ h. FitsRoot head h (length tree.map)) (sym height_is) (subst (λ l. FitsRoot head height l) (long_is ∙ ap (λ l. length l) bits_are) root))
        (subst (λ l. FitsLeaves head l (length (leaves nodes head.shape.root (levels_in tree))) (head.shape.total - count_set marks)) all.nodes_are
        (subst (λ n. FitsLeaves head ns n (head.shape.total - count_set marks)) (sym records_long) ends))
        (subst (λ l. (n : ℕ) → n < 8 * length l → bit_of l n ≡ get_or marks n false) bits_are bit_fits);
    pairs = all.pairs_are ∙ ap (λ n. leaves nodes head.shape.root n) (height_is ∙ sym root.depth);
  }

  -- a number or a bit that doesn't fit is broken
  pub end_broken : (finding : Finding) → ((tree : TreeFile) → tree.head ≡ head_in head → leaves_in tree ≡ ns → length (leaves tree.nodes tree.head.root (levels_in tree)) ≡ length records
      → count_by (is_in_use tree) (range_with_len 0 tree.head.total) ≡ count_set marks → IsUnmet 4 finding (form_wants (form_in form) form.id tree) ⊎ IsWrongBit form.id bits marks finding)
      → IsBrokenTree (form_in form) is_key is_value cmp form.id tree finding
  end_broken finding wrong = ⊎_elim
      (λ (number : IsUnmet 4 finding (form_wants (form_in form) form.id tree)). inl number)
      (λ (one : IsWrongBit form.id bits marks finding). inr (inr (inr (bit_broken form is_key is_value cmp head nodes marks all.scanned finding (subst (λ l. IsWrongBit form.id l marks finding) bits_are one)))))
      (wrong tree refl (sym all.nodes_are) records_long all_used)

-- ---- the beginning

-- where the map was read, the scan has begun
pub has_begun : (is_key is_value : List ℕ → Type 0) (cmp : List ℕ → List ℕ → Ordering) (head : Head) (nodes : Nodes) (old marks : List Bool) (bits : List ℕ) (there size height : ℕ) (node : List ℕ) → old ≡ replicate there false → there ≤ head.shape.total
    → head.shape.node_size ≡ size → AreBlankPast nodes there head.shape.total → HasMapRead nodes size head.shape.total old marks bits → height ≡ (if head.shape.root == 0 then 0 else height_of (nodes head.shape.root))
    → (head.shape.root ≢ 0 → node ≡ nodes head.shape.root)
    → HasBegun is_key is_value cmp (scanned_tree head nodes) size head.shape.total height head.shape.root marks node × (bits ≡ (scanned_tree head nodes).map)
has_begun is_key is_value cmp head nodes old marks bits there size height node old_is few size_is blank read height_is node_is =
    let long : length marks ≡ there = read.marks.size ∙ ap (λ l. length l) old_is ∙ length-replicate {A = Bool} there false in
    let begun = begins (form_in (record { id = 0; attributes = 0; max_key = 0; least_node = 0 })) is_key is_value cmp 0 head nodes old marks bits (old_is ∙ ap (λ n. replicate n false) (sym long)) (omega (arith, long, few))
    (subst (λ s. HasMapRead nodes s head.shape.total old marks bits) (sym size_is) read) in (
      record {
        size_is = size_is;
        total_is = refl;
        root_is = refl;
        height_is = sym height_is;
        node_is = node_is;
        blank = subst (λ n. AreBlankPast nodes n head.shape.total) (sym long) blank;
        scanned = begun.0;
      },
      begun.1,
    )

-- what holds of a tree holds of the same tree in an equal content
pub moved : (content other : Content) (limit : ℕ) (sectors : List ℕ) (size long : ℕ) (head : Head) (P : TreeFile → ℕ → Type 0) → content ≡ other → size ≡ long → P (tree_at content limit sectors size head) size → P (tree_at other limit sectors long head) long
moved content other limit sectors size long head P same_content same_size holds =
    subst (λ c. P (tree_at c limit sectors long head) long) same_content (subst (λ s. P (tree_at content limit sectors s head) s) same_size holds)
