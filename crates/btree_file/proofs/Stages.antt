-- Stages of a growth, one after another.
use Rattle.std.proofs.Common.{◌≡◌, ℕ, ◌+◌, ◌-◌, ◌*◌, ◌/◌, ◌≤◌, ◌<◌, List, [], ◌∷◌, ◌++◌, length, get_or, inl, inr, refl, sym, ◌∙◌, ap, subst, arith, ⊎_elim, length-append}
use Rattle.std.proofs.Math.Nat.{mul-le-mul_right}
use Rattle.std.proofs.lemmas.Bool.{cases_lt}
use Rattle.std.proofs.lemmas.Grind.{div_ceil_times}
use Rattle.std.proofs.lemmas.List.{append-nil, append_assoc, get_or_append_left, get_or-append_right}
use Rattle.btree_node.specs.declared.store.TreeShape.{TreeShape}
use Rattle.sector_disk.specs.Space.{Space}
use Rattle.btree_file.specs.Frame.{PutsWithin}
use Rattle.btree_file.specs.FrameLaws.{within_both}
use Rattle.btree_file.specs.Growth.{ExtendsMap, KeepsTree, CountsMore, SpendsRoom, HasRoomFor, bits_each, map_nodes_for, last_node, unwritten_in}
use Rattle.btree_file.specs.Place.{sectors_at}
use Rattle.fork_map.specs.Blocks.{fork_sectors}
use Rattle.btree_file.specs.Putting.{unput}
use Rattle.btree_file.specs.State.{sectors_of_tree, per_node}
use Rattle.btree_file.specs.declared.tree.Stretch.{Stretch}
use Rattle.btree_file.specs.declared.tree.TreeFile.{TreeFile}

-- ---- the tree

pub keeps_none : (tree : TreeFile) (content : List (List ℕ)) → KeepsTree tree tree content content
keeps_none tree content = record {
  order = omega arith;
  numbers = refl;
  form = record { max_key = refl; compare = refl; attributes = refl };
  nodes = λ n low free. refl;
  used = λ n low. refl;
  reserved = λ n low. refl;
  fresh = λ n high low. absurd (omega (arith, high, low));
}

pub keeps_both : (a b c : TreeFile) (x y z : List (List ℕ)) → KeepsTree a b x y → KeepsTree b c y z → KeepsTree a c x z
keeps_both a b c x y z p q = record {
  order = omega (arith, p.order, q.order);
  numbers = q.numbers
      ∙ ap (λ (s : TreeShape). record { node_size = s.node_size; depth = s.depth; root = s.root; first = s.first; last = s.last; leaf_records = s.leaf_records; total = c.shape.total; free = c.shape.free }) p.numbers;
  form = record { max_key = q.form.max_key ∙ p.form.max_key; compare = q.form.compare ∙ p.form.compare; attributes = q.form.attributes ∙ p.form.attributes };
  nodes = λ n low free. q.nodes n (omega (arith, low, p.order)) (p.reserved n low ∙ free) ∙ p.nodes n low free;
  used = λ n low. q.used n (omega (arith, low, p.order)) ∙ p.used n low;
  reserved = λ n low. q.reserved n (omega (arith, low, p.order)) ∙ p.reserved n low;
  fresh = λ n high low. ⊎_elim
      (λ (less : n < b.shape.total). q.used n less ∙ p.fresh n high less ∙ sym (q.reserved n less))
      (λ (more : b.shape.total ≤ n). q.fresh n more low)
      (cases_lt n b.shape.total);
}

-- ---- the numbers

pub counts_none : (tree : TreeFile) → CountsMore tree tree
counts_none tree = record { fork = refl; per_block = refl; node_size = refl; total = omega arith; free = refl }

pub counts_both : (a b c : TreeFile) → CountsMore a b → CountsMore b c → CountsMore a c
counts_both a b c p q = record {
  fork = q.fork ∙ p.fork;
  per_block = q.per_block ∙ p.per_block;
  node_size = q.node_size ∙ p.node_size;
  total = omega (arith, p.total, q.total);
  free = omega (arith, p.free, q.free);
}

pub sectors_same : (a b : TreeFile) → CountsMore a b → sectors_of_tree b ≡ sectors_of_tree a
sectors_same a b same = ap (λ f. fork_sectors f b.per_block) same.fork ∙ ap (λ n. fork_sectors a.fork n) same.per_block

pub frames_both : (a b : TreeFile) (p q r : Space) → CountsMore a b → PutsWithin (sectors_of_tree a) p q → PutsWithin (sectors_of_tree b) q r → PutsWithin (sectors_of_tree a) p r
frames_both a b p q r same first second = within_both (sectors_of_tree a) p q r first (subst (λ these. PutsWithin these q r) (sectors_same a b same) second)

-- ---- the map

pub extends_none : (total : ℕ) (map : List Stretch) → ExtendsMap total map map
extends_none total map = record { more = []; items = sym (append-nil map); later = λ k d low. absurd (omega (arith, low)) }

pub extends_both : (first second : ℕ) (a b c : List Stretch) → first ≤ second → ExtendsMap first a b → ExtendsMap second b c → ExtendsMap first a c
extends_both first second a b c order p q = record {
  more = p.more ++ q.more;
  items = q.items ∙ ap (λ l. l ++ q.more) p.items ∙ append_assoc a p.more q.more;
  later = λ k d low. ⊎_elim
      (λ (less : k < length p.more). omega (arith, p.later k d less, ap (λ (s : Stretch). s.node) (get_or_append_left p.more q.more d k less)))
      (λ (high : length p.more ≤ k). omega (arith, order, q.later (k - length p.more) d (omega (arith, low, high, length-append p.more q.more)), ap (λ (s : Stretch). s.node) (get_or-append_right p.more q.more (length p.more) k d refl high)))
      (cases_lt k (length p.more));
}

pub extends_pushed : (total : ℕ) (map new : List Stretch) (s : Stretch) → new ≡ map ++ s ∷ [] → s.node ≡ total → ExtendsMap total map new
extends_pushed total map new s items is = record {
  more = s ∷ [];
  items = items;
  later = λ k d low. let first : 0 ≡ k = omega (arith, low) in subst (λ (n : ℕ). total ≤ (get_or (s ∷ []) n d).node) first (omega (arith, is));
}

-- ---- the room

pub spends_none : (nodes : ℕ) (tree : TreeFile) (space : Space) → SpendsRoom nodes tree tree space space
spends_none nodes tree space = record { written = omega arith; unwritten = omega arith }

pub spends_both : (nodes : ℕ) (a b c : TreeFile) (p q r : Space) → CountsMore a b → SpendsRoom nodes a b p q → SpendsRoom nodes b c q r → SpendsRoom nodes a c p r
spends_both nodes a b c p q r same first second =
    let per : b.shape.node_size / 512 ≡ a.shape.node_size / 512 = ap (λ n. n / 512) same.node_size in
    let middle : length b.map.items * (b.shape.node_size / 512) ≡ length b.map.items * (a.shape.node_size / 512) = ap (λ n. length b.map.items * n) per in
    let end : length c.map.items * (b.shape.node_size / 512) ≡ length c.map.items * (a.shape.node_size / 512) = ap (λ n. length c.map.items * n) per in
    record { written = omega (arith, first.written, second.written, middle, end); unwritten = omega (arith, first.unwritten, second.unwritten) }

-- the room that is left, where there was room for so many map nodes more
pub room_after : (nodes more added : ℕ) (before after : TreeFile) (old new : Space) → CountsMore before after → SpendsRoom nodes before after old new → length after.map.items ≡ length before.map.items + added → HasRoomFor (more + added) nodes before old → HasRoomFor more nodes after new
room_after nodes more added before after old new same spent count has =
    let per : after.shape.node_size / 512 ≡ before.shape.node_size / 512 = ap (λ n. n / 512) same.node_size in
    let product : length after.map.items * (before.shape.node_size / 512) ≡ (length before.map.items + added) * (before.shape.node_size / 512) = ap (λ n. n * (before.shape.node_size / 512)) count in
    let left : more * (after.shape.node_size / 512) ≡ more * (before.shape.node_size / 512) = ap (λ n. more * n) per in
    ⊎_elim
    (λ (both : unput old.put (sectors_at (sectors_of_tree before) (per_node before.shape) 0) + unput old.put (sectors_at (sectors_of_tree before) (per_node before.shape) (last_node before.map.items)) + (more + added) * per_node before.shape ≤ old.spare).
    inl (omega (arith, both, spent.written, product, left)))
    (λ (all : unwritten_in (sectors_of_tree before) (per_node before.shape) nodes old.put * per_node before.shape ≤ old.spare). inr (omega (arith, all, spent.unwritten)))
    has

pub room_kept : (nodes more : ℕ) (before after : TreeFile) (old new : Space) → CountsMore before after → SpendsRoom nodes before after old new → length after.map.items ≡ length before.map.items → HasRoomFor more nodes before old → HasRoomFor more nodes after new
room_kept nodes more before after old new same spent count has =
    room_after nodes more 0 before after old new same spent (omega (arith, count)) (subst (λ k. HasRoomFor k nodes before old) {x = more} {y = more + 0} (omega arith) has)

pub room_fewer : (nodes more few : ℕ) (tree : TreeFile) (space : Space) → few ≤ more → HasRoomFor more nodes tree space → HasRoomFor few nodes tree space
room_fewer nodes more few tree space order has =
    let product = mul-le-mul_right {m = few} {n = more} (tree.shape.node_size / 512) order in
    ⊎_elim
    (λ (both : unput space.put (sectors_at (sectors_of_tree tree) (per_node tree.shape) 0) + unput space.put (sectors_at (sectors_of_tree tree) (per_node tree.shape) (last_node tree.map.items)) + more * per_node tree.shape ≤ space.spare). inl (omega (arith, both, product)))
    (λ all. inr all)
    has

-- ---- how many map nodes are wanted

pub stages_few : (size bits nodes k : ℕ) → 512 ≤ size → k < map_nodes_for size bits nodes → bits + k * bits_each size < nodes
stages_few size bits nodes k large low =
    let times = div_ceil_times (nodes - bits) (8 * (size - 20)) (omega (arith, large)) in
    let more = mul-le-mul_right {m = k + 1} {n = map_nodes_for size bits nodes} (8 * (size - 20)) (omega (arith, low)) in
    omega (arith, times.1, more)

pub stages_enough : (size bits nodes : ℕ) → 512 ≤ size → nodes ≤ bits + map_nodes_for size bits nodes * bits_each size
stages_enough size bits nodes large = let times = div_ceil_times (nodes - bits) (8 * (size - 20)) (omega (arith, large)) in omega (arith, times.0)
