-- A tree file after an edit over a space, and after another writer's changes elsewhere.
use Rattle.std.proofs.Common.{◌≡◌, ◌⊎◌, ℕ, ◌+◌, ◌*◌, ◌/◌, ◌<◌, IsTrue, List, [], ◌∷◌, take, drop, length, refl, sym, ◌∙◌, ap, subst, arith, ⊎_elim}
use Rattle.std.specs.Prelude.{Result, Ok, Err, IfOk}
use Rattle.std.specs.List.{All, Contains, count_by, range_with_len}
use Rattle.std.specs.declared.cmp.Ordering.{Ordering}
use Rattle.std.proofs.Math.Path.{fun_ext}
use Rattle.std.proofs.lemmas.List.{append-nil}
use Rattle.btree_node.specs.Levels.{Nodes, Pair}
use Rattle.btree_node.specs.Tree.{IsTree, HasValues}
use Rattle.hx_bytes.specs.declared.extents.Extent.{Extent}
use Rattle.hx_bytes.specs.declared.faults.Trouble.{Trouble}
use Rattle.btree_node.specs.declared.store.TreeShape.{TreeShape}
use Rattle.btree_node.specs.TreeFile.{TreeHead, TreeForm, IsTreeFile, tree_head, shape_of, file_of}
use Rattle.fork_map.specs.Nodes.{bytes_of, node_of}
use Rattle.sector_disk.specs.Lists.{Content, sector}
use Rattle.sector_disk.specs.Space.{Space}
use Rattle.btree_file.specs.Frame.{FollowsOn}
use Rattle.btree_file.specs.FrameLaws.{same_sectors}
use Rattle.btree_file.specs.Held.{HoldsNodes, file_in}
use Rattle.btree_file.specs.Map.{used_in, AreStretches}
use Rattle.btree_file.specs.Place.{sectors_at}
use Rattle.fork_map.specs.Blocks.{fork_sectors}
use Rattle.btree_file.specs.Standing.{Stands, HoldsTree}
use Rattle.btree_file.specs.State.{sectors_of_tree, nodes_on, state_of, Agrees, HasMap}
use Rattle.btree_file.specs.declared.tree.Stretch.{Stretch}
use Rattle.btree_file.specs.declared.tree.TreeFile.{TreeFile}
use Rattle.btree_file.proofs.NodeLaws.{same_bytes}
use Rattle.btree_file.proofs.Rooms.{of_fork}
use Rattle.btree_file.proofs.StandingLaws.{head_is, some_sector, holds_nodes, file_of_tree, pairs_here}

-- the first sector of a fork keeps its 512 bytes
pub first_kept : (sectors : List ℕ) (a b : Content) → 0 < length sectors → ((s : ℕ) → (length (sector b s) ≡ length (sector a s)) ⊎ (length (sector b s) ≡ 512)) → length (node_of a sectors 1 0) ≡ 512 → length (node_of b sectors 1 0) ≡ 512
first_kept [] a b some sizes long = absurd (omega (arith, some))
first_kept (s ∷ rest) a b some sizes long =
    let one : (c : Content) → node_of c (s ∷ rest) 1 0 ≡ sector c s = λ c. ap (λ (l : List ℕ). bytes_of c (take 1 l)) {x = drop (0 * 1) (s ∷ rest)} {y = s ∷ rest} refl ∙ append-nil (sector c s) in
    ap (λ (l : List ℕ). length l) (one b) ∙ ⊎_elim (λ same. same ∙ ap (λ (l : List ℕ). length l) (sym (one a)) ∙ long) (λ full. full) (sizes s)

pub stands_after : (before after : TreeFile) (old new : Space) → IsTrue old.tells → Stands before old.content → FollowsOn before after old new → Agrees after new.content → shape_of (tree_head after.header) ≡ after.shape → Stands after new.content
stands_after before after old new tells was follows agrees settled =
    let same = same_sectors before after follows.file in
    record {
      agrees = agrees;
      settled = settled;
      whole = ap (λ n. n * (after.shape.node_size / 512)) follows.file.total ∙ ap (λ n. before.shape.total * (n / 512)) follows.file.node_size ∙ was.whole ∙ ap (λ (l : List ℕ). length l) (sym same);
      first = ap (λ (l : List ℕ). length (node_of new.content l 1 0)) same
          ∙ first_kept (sectors_of_tree before) old.content new.content (some_sector before old.content was) (follows.space.sizes tells) was.first;
    }

-- After an edit that keeps the rules of a tree the content has a tree again.
pub held_after : (form : TreeForm) (is_key is_value : List ℕ → Type 0) (cmp : List ℕ → List ℕ → Ordering) (names : List ℕ) (before after : TreeFile) (old new : Space) → IsTrue old.tells
    → HoldsTree form is_key is_value cmp before old.content → FollowsOn before after old new → Agrees after new.content → shape_of (tree_head after.header) ≡ after.shape
    → IsTree is_key cmp (state_of names after new) → HasValues is_value (state_of names after new) → HoldsTree form is_key is_value cmp after new.content
held_after form is_key is_value cmp names before after old new tells was follows agrees settled rules values =
    let stands = stands_after before after old new tells was.stands follows agrees settled in
    let holds = holds_nodes after new.content stands in
    let head = head_is after new.content stands in
    let head_was = head_is before old.content was.stands in
    let form_is = was.file.has_form in
    let same = follows.form tells in
    record {
      stands = stands;
      file = record {
        has_form = record {
          size = holds.size;
          least = omega (arith, form_is.least, ap (λ (h : TreeHead). h.node_size) head, ap (λ (h : TreeHead). h.node_size) head_was, agrees.says_size, was.stands.agrees.says_size, follows.file.node_size);
          attributes = ap (λ (h : TreeHead). h.attributes) head ∙ same.attributes ∙ ap (λ (h : TreeHead). h.attributes) (sym head_was) ∙ form_is.attributes;
          max_key = ap (λ (h : TreeHead). h.max_key) head ∙ same.max_key ∙ ap (λ (h : TreeHead). h.max_key) (sym head_was) ∙ form_is.max_key;
          bits = holds.bits;
        };
        map_nodes = holds.map_nodes;
        rules = file_of_tree after new.content stands is_key cmp names new refl rules;
        values = subst (λ (pairs : List Pair). All (λ pair. is_value pair.1) pairs) (pairs_here after new.content stands is_key cmp names new refl) values;
        no_more = holds.no_more;
      };
    }

-- what was read of a fork that holds the nodes of a tree
pub stands_read : (fork : List Extent) (per_block : ℕ) (content : Content) → HoldsNodes (fork_sectors fork per_block) (file_in (fork_sectors fork per_block) content) → (result : Result TreeFile Trouble) → IfOk result (λ tree. Agrees tree content)
    → IfOk result (λ tree. shape_of (tree_head tree.header) ≡ tree.shape) → IfOk result (λ tree. (tree.shape ≡ shape_of (file_in (fork_sectors fork per_block) content).head) × (tree.fork ≡ fork) × (tree.per_block ≡ per_block))
    → IfOk result (λ tree. length (node_of content (fork_sectors fork per_block) 1 0) ≡ 512) → IfOk result (λ tree. Stands tree content)
stands_read fork per_block content holds (Ok tree) agrees settled file first =
    let same : sectors_of_tree tree ≡ fork_sectors fork per_block = ap (λ (f : List Extent). fork_sectors f tree.per_block) file.1 ∙ ap (λ n. fork_sectors fork n) file.2 in
    record {
      agrees = agrees;
      settled = settled;
      whole = ap (λ (s : TreeShape). s.total * (s.node_size / 512)) file.0 ∙ holds.whole ∙ ap (λ (l : List ℕ). length l) (sym same);
      first = ap (λ (l : List ℕ). length (node_of content l 1 0)) same ∙ first;
    }
stands_read fork per_block content holds (Err why) agrees settled file first = agrees

-- ---- other writers

-- the nodes of a fork whose sectors are the same
nodes_same : (sectors : List ℕ) (a b : Content) → ((s : ℕ) → Contains sectors s → sector b s ≡ sector a s) → (size : ℕ) → nodes_on sectors size a ≡ nodes_on sectors size b
nodes_same sectors a b same size = fun_ext (λ n. sym (same_bytes a b (sectors_at sectors (size / 512) n) (λ s c. same s (of_fork sectors (size / 512) n s c))))

map_elsewhere : (sectors : List ℕ) (size total free : ℕ) (map : List Stretch) (header : List ℕ) (a b : Content) → nodes_on sectors size a ≡ nodes_on sectors size b → HasMap sectors size total free map header a → HasMap sectors size total free map header b
map_elsewhere sectors size total free map header a b e was = record {
  some = was.some;
  header_is = ap (λ (m : Nodes). m 0) (sym e) ∙ was.header_is;
  header_node = was.header_node;
  says_size = was.says_size;
  says_total = was.says_total;
  stretches = subst (λ (m : Nodes). AreStretches m size map) e was.stretches;
  bits = was.bits;
  counted = ap (λ (m : Nodes). free + count_by (used_in m map) (range_with_len 0 total)) (sym e) ∙ was.counted;
  reserved = λ n low is. ap (λ (m : Nodes). used_in m map n) (sym e) ∙ was.reserved n low is;
  behind = λ n high low. ap (λ (m : Nodes). used_in m map n) (sym e) ∙ was.behind n high low;
}

-- Where another writer leaves the fork's sectors alone, the file stands as before.
pub stands_elsewhere : (tree : TreeFile) (a b : Content) → ((s : ℕ) → Contains (sectors_of_tree tree) s → sector b s ≡ sector a s) → Stands tree a → Stands tree b
stands_elsewhere tree a b same was = record {
  agrees = map_elsewhere (sectors_of_tree tree) tree.shape.node_size tree.shape.total tree.shape.free tree.map.items tree.header a b (nodes_same (sectors_of_tree tree) a b same tree.shape.node_size) was.agrees;
  settled = was.settled;
  whole = was.whole;
  first = ap (λ (m : Nodes). length (m 0)) (sym (nodes_same (sectors_of_tree tree) a b same 512)) ∙ was.first;
}

-- the content has the same tree in sectors that are the same
pub file_elsewhere : (sectors : List ℕ) (a b : Content) → ((s : ℕ) → Contains sectors s → sector b s ≡ sector a s) → file_in sectors b ≡ file_in sectors a
file_elsewhere sectors a b same = ap (λ (k : ℕ → Nodes). file_of (tree_head (k 512 0)) (k (tree_head (k 512 0)).node_size)) {x = λ size. nodes_on sectors size b} {y = λ size. nodes_on sectors size a} (fun_ext (λ size. sym (nodes_same sectors a b same size)))

pub held_elsewhere : (form : TreeForm) (is_key is_value : List ℕ → Type 0) (cmp : List ℕ → List ℕ → Ordering) (tree : TreeFile) (a b : Content) → ((s : ℕ) → Contains (sectors_of_tree tree) s → sector b s ≡ sector a s)
    → HoldsTree form is_key is_value cmp tree a → HoldsTree form is_key is_value cmp tree b
held_elsewhere form is_key is_value cmp tree a b same was = record {
  stands = stands_elsewhere tree a b same was.stands;
  file = subst (λ f. IsTreeFile form is_key is_value cmp f) (sym (file_elsewhere (sectors_of_tree tree) a b same)) was.file;
}
