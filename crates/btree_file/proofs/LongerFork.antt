-- A tree file whose fork has a run behind it.
use Rattle.std.proofs.Common.{◌≡◌, ◌⊎◌, ℕ, zero, suc, ◌+◌, ◌-◌, ◌*◌, ◌/◌, ◌≤◌, ◌<◌, IsTrue, List, [], ◌∷◌, ◌++◌, length, get_or, replicate, inl, inr, refl, sym, ◌∙◌, ap, subst, arith, ⊎_elim, length-append}
use Rattle.std.specs.List.{range_with_len}
use Rattle.std.proofs.Math.Nat.{mul-le-mul_right}
use Rattle.std.proofs.Math.Path.{fun_ext}
use Rattle.std.proofs.lemmas.Bool.{cases_lt}
use Rattle.std.proofs.lemmas.List.{get_or_append_left, get_or-append_right}
use Rattle.std.proofs.lemmas.List.Concat.{flat_map-append}
use Rattle.std.proofs.lemmas.List.FromFn.{length-range_with_len}
use Rattle.fork_map.specs.Blocks.{blocks_of, sectors_of, fork_sectors}
use Rattle.hx_bytes.specs.declared.extents.Extent.{Extent}
use Rattle.btree_node.specs.declared.store.TreeShape.{TreeShape}
use Rattle.btree_node.specs.TreeFile.{tree_head}
use Rattle.sector_disk.specs.Lists.{Content}
use Rattle.sector_disk.specs.Space.{Space}
use Rattle.btree_file.specs.Frame.{ReadsSpace, PutsWithin}
use Rattle.btree_file.specs.Growth.{KeepsTree, SpendsRoom, HasRoomToGrow, TakesRoomToGrow, IsGrowing, last_node, map_nodes_with, nodes_in, nodes_with, sectors_with, unwritten_in}
use Rattle.btree_file.specs.Map.{used_in, is_reserved}
use Rattle.btree_file.specs.Place.{IsInside, IsOpen, sectors_at}
use Rattle.btree_file.specs.Putting.{unput}
use Rattle.btree_file.specs.Standing.{Stands}
use Rattle.btree_file.specs.State.{sectors_of_tree, nodes_on, node_in, HasMap}
use Rattle.btree_file.specs.declared.tree.Stretch.{Stretch}
use Rattle.btree_file.specs.declared.tree.TreeFile.{TreeFile}
use Rattle.btree_file.proofs.Edited.{first_kept}
use Rattle.btree_file.proofs.MoreNodes.{node_front, longer_fork, any_below}
use Rattle.btree_file.proofs.NodeLaws.{used_same}
use Rattle.btree_file.proofs.Sectors.{one_range}
use Rattle.btree_file.proofs.Spending.{few}
use Rattle.btree_file.proofs.StandingLaws.{some_sector}

pub zeros_at : (n k : ℕ) → ◌≡◌ {A = ℕ} (get_or (replicate n 0) k 0) 0
zeros_at zero k = refl
zeros_at (suc n) zero = refl
zeros_at (suc n) (suc k) = zeros_at n k

-- ---- the sectors

pub joined : (fork list : List Extent) (run : Extent) (per_block : ℕ) → blocks_of list ≡ blocks_of fork ++ blocks_of (run ∷ []) → fork_sectors list per_block ≡ fork_sectors fork per_block ++ fork_sectors (run ∷ []) per_block
joined fork list run per_block e = ap (λ b. sectors_of per_block b) e ∙ flat_map-append (λ block. range_with_len (block * per_block) per_block) (blocks_of fork) (blocks_of (run ∷ []))

pub with_run : (fork : List Extent) (run : Extent) (per_block : ℕ) → fork_sectors (fork ++ run ∷ []) per_block ≡ fork_sectors fork per_block ++ fork_sectors (run ∷ []) per_block
with_run fork run per_block = joined fork (fork ++ run ∷ []) run per_block (flat_map-append (λ (e : Extent). range_with_len e.start e.count) fork (run ∷ []))

pub run_long : (run : Extent) (per_block : ℕ) → length (fork_sectors (run ∷ []) per_block) ≡ run.count * per_block
run_long run per_block = ap (λ (l : List ℕ). length l) (one_range per_block run []) ∙ length-append (range_with_len (run.start * per_block) (run.count * per_block)) [] ∙ omega (arith, length-range_with_len (run.start * per_block) (run.count * per_block))

-- what holds of the sectors of both
each_joined : (P : ℕ → Type 0) (xs ys : List ℕ) → ((k : ℕ) → k < length xs → P (get_or xs k 0)) → ((k : ℕ) → k < length ys → P (get_or ys k 0)) → (k : ℕ) → k < length (xs ++ ys) → P (get_or (xs ++ ys) k 0)
each_joined P xs ys first second k low = ⊎_elim
    (λ (less : k < length xs). subst P (sym (get_or_append_left xs ys 0 k less)) (first k less))
    (λ (more : length xs ≤ k). subst P (sym (get_or-append_right xs ys (length xs) k 0 refl more)) (second (k - length xs) (omega (arith, low, more, length-append xs ys))))
    (cases_lt k (length xs))

-- ---- the file before anything is put

module _ (tree : TreeFile) (list : List Extent) (run : Extent) (blocks : blocks_of list ≡ blocks_of tree.fork ++ blocks_of (run ∷ [])) (old now : Space) (reads : ReadsSpace old now) where
  longer : fork_sectors list tree.per_block ≡ sectors_of_tree tree ++ fork_sectors (run ∷ []) tree.per_block
  longer = joined tree.fork list run tree.per_block blocks

  pub as_with : fork_sectors list tree.per_block ≡ sectors_with tree run
  as_with = longer ∙ sym (with_run tree.fork run tree.per_block)

  pub long_now : length (fork_sectors list tree.per_block) ≡ length (sectors_of_tree tree) + run.count * tree.per_block
  long_now = ap (λ (l : List ℕ). length l) longer ∙ omega (arith, length-append (sectors_of_tree tree) (fork_sectors (run ∷ []) tree.per_block), run_long run tree.per_block)

  pub whole_now : tree.shape.total * (tree.shape.node_size / 512) ≤ length (fork_sectors list tree.per_block)
  whole_now = omega (arith, long_now, tree.kept.whole)

  pub room_now : nodes_in run tree.per_block tree.shape.node_size * (tree.shape.node_size / 512) ≡ run.count * tree.per_block → nodes_with tree run * (tree.shape.node_size / 512) ≤ length (fork_sectors list tree.per_block)
  room_now whole = omega (arith, long_now, tree.kept.whole, whole)

  pub inside_now : IsInside tree.fork tree.per_block old → IsInside (run ∷ []) tree.per_block old → IsInside list tree.per_block now
  inside_now first second k low = subst (λ n. get_or (fork_sectors list tree.per_block) k 0 < n) (sym reads.same.sectors)
      (subst (λ (l : List ℕ). (i : ℕ) → i < length l → get_or l i 0 < old.sectors) (sym longer) (each_joined (λ s. s < old.sectors) (sectors_of_tree tree) (fork_sectors (run ∷ []) tree.per_block) first second) k low)

  pub open_now : IsOpen tree.fork tree.per_block old → IsOpen (run ∷ []) tree.per_block old → IsOpen list tree.per_block now
  open_now first second tells k low shut =
      let told : IsTrue old.tells = sym reads.same.tells ∙ tells in
      subst (λ (l : List ℕ). (i : ℕ) → i < length l → old.closed (get_or l i 0) → ⊥) (sym longer) (each_joined (λ s. old.closed s → ⊥) (sectors_of_tree tree) (fork_sectors (run ∷ []) tree.per_block) (first told) (second told)) k low
      (((reads.sectors told).closed (get_or (fork_sectors list tree.per_block) k 0)).0 shut)

  -- the nodes that were there are the same
  pub node_same : IsTrue old.tells → (n : ℕ) → n < tree.shape.total → nodes_on (fork_sectors list tree.per_block) tree.shape.node_size now.content n ≡ node_in tree old.content n
  node_same tells n low =
      ap (λ (l : List ℕ). nodes_on l tree.shape.node_size now.content n) longer ∙ ap (λ (c : Content). nodes_on (sectors_of_tree tree ++ fork_sectors (run ∷ []) tree.per_block) tree.shape.node_size c n) (reads.sectors tells).content
      ∙ node_front (sectors_of_tree tree) (fork_sectors (run ∷ []) tree.per_block) tree.shape.node_size tree.shape.total n old.content tree.kept.whole low

  used_now : IsTrue old.tells → (n : ℕ) → used_in (nodes_on (fork_sectors list tree.per_block) tree.shape.node_size now.content) tree.map.items n ≡ used_in (node_in tree old.content) tree.map.items n
  used_now tells n = used_same (node_in tree old.content) (nodes_on (fork_sectors list tree.per_block) tree.shape.node_size now.content) tree.map.items n (λ m any. node_same tells m (any_below tree.map.items tree.shape.total m tree.kept.map_inside any))

  pub map_now : IsTrue old.tells → Stands tree old.content → (items : List Stretch) → items ≡ tree.map.items → HasMap (fork_sectors list tree.per_block) tree.shape.node_size tree.shape.total tree.shape.free items tree.header now.content
  map_now tells stands items same =
      subst (λ m. HasMap (fork_sectors list tree.per_block) tree.shape.node_size tree.shape.total tree.shape.free m tree.header now.content) (sym same)
      (subst (λ (l : List ℕ). HasMap l tree.shape.node_size tree.shape.total tree.shape.free tree.map.items tree.header now.content) (sym longer)
      (subst (λ (c : Content). HasMap (sectors_of_tree tree ++ fork_sectors (run ∷ []) tree.per_block) tree.shape.node_size tree.shape.total tree.shape.free tree.map.items tree.header c) (sym (reads.sectors tells).content)
      (longer_fork (sectors_of_tree tree) (fork_sectors (run ∷ []) tree.per_block) tree.shape.node_size tree.shape.total tree.shape.free tree.map.items tree.header old.content tree.kept.whole tree.kept.map_inside stands.agrees)))

  -- the tree is the same
  pub keeps_longer : (next : TreeFile) → next.shape ≡ tree.shape → next.header ≡ tree.header → next.map.items ≡ tree.map.items → next.fork ≡ list → next.per_block ≡ tree.per_block → IsTrue old.tells → KeepsTree tree next old.content now.content
  keeps_longer next shape header items fork per_block tells =
      let sectors : sectors_of_tree next ≡ fork_sectors list tree.per_block = ap (λ f. fork_sectors f next.per_block) fork ∙ ap (λ p. fork_sectors list p) per_block in
      let nodes : (n : ℕ) → node_in next now.content n ≡ nodes_on (fork_sectors list tree.per_block) tree.shape.node_size now.content n =
      λ n. ap (λ (l : List ℕ). nodes_on l next.shape.node_size now.content n) sectors ∙ ap (λ (s : TreeShape). nodes_on (fork_sectors list tree.per_block) s.node_size now.content n) shape in
      record {
        order = omega (arith, ap (λ (s : TreeShape). s.total) shape);
        numbers = shape ∙ ap (λ (s : TreeShape). record { node_size = tree.shape.node_size; depth = tree.shape.depth; root = tree.shape.root; first = tree.shape.first; last = tree.shape.last; leaf_records = tree.shape.leaf_records; total = s.total; free = s.free }) (sym shape);
        form = record { max_key = ap (λ (h : List ℕ). (tree_head h).max_key) header; compare = ap (λ (h : List ℕ). (tree_head h).compare) header; attributes = ap (λ (h : List ℕ). (tree_head h).attributes) header };
        nodes = λ n low free. nodes n ∙ node_same tells n low;
        used = λ n low. ap (λ m. used_in (node_in next now.content) m n) items ∙ ap (λ (k : ℕ → List ℕ). used_in k tree.map.items n) (fun_ext nodes) ∙ used_now tells n;
        reserved = λ n low. ap (λ m. is_reserved m n) items;
        fresh = λ n high low. absurd (omega (arith, high, low, ap (λ (s : TreeShape). s.total) shape));
      }

  -- ---- room

  put_same : now.put ≡ old.put
  put_same = fun_ext reads.room.put

  pub has_room : (items : List Stretch) (count goal : ℕ) → count ≡ map_nodes_with tree run → goal ≡ nodes_with tree run → HasRoomToGrow tree run old
      → (unput now.put (sectors_at (fork_sectors list tree.per_block) (tree.shape.node_size / 512) 0) + unput now.put (sectors_at (fork_sectors list tree.per_block) (tree.shape.node_size / 512) (last_node items)) + count * (tree.shape.node_size / 512) ≤ now.spare)
      ⊎ (unwritten_in (fork_sectors list tree.per_block) (tree.shape.node_size / 512) goal now.put * (tree.shape.node_size / 512) ≤ now.spare)
  has_room items count goal count_is goal_is has = ⊎_elim
      (λ (two : (2 + map_nodes_with tree run) * (tree.shape.node_size / 512) ≤ old.spare).
      let product : count * (tree.shape.node_size / 512) ≡ map_nodes_with tree run * (tree.shape.node_size / 512) = ap (λ k. k * (tree.shape.node_size / 512)) count_is in
      inl (omega (arith, two, product, reads.room.spare, few now.put (fork_sectors list tree.per_block) (tree.shape.node_size / 512) 0, few now.put (fork_sectors list tree.per_block) (tree.shape.node_size / 512) (last_node items))))
      (λ (all : unwritten_in (sectors_with tree run) (tree.shape.node_size / 512) (nodes_with tree run) old.put * (tree.shape.node_size / 512) ≤ old.spare).
      let same : unwritten_in (fork_sectors list tree.per_block) (tree.shape.node_size / 512) goal now.put ≡ unwritten_in (sectors_with tree run) (tree.shape.node_size / 512) (nodes_with tree run) old.put =
      ap (λ (l : List ℕ). unwritten_in l (tree.shape.node_size / 512) goal now.put) as_with ∙ ap (λ n. unwritten_in (sectors_with tree run) (tree.shape.node_size / 512) n now.put) goal_is ∙ ap (λ p. unwritten_in (sectors_with tree run) (tree.shape.node_size / 512) (nodes_with tree run) p) put_same in
      let product : unwritten_in (fork_sectors list tree.per_block) (tree.shape.node_size / 512) goal now.put * (tree.shape.node_size / 512) ≡ unwritten_in (sectors_with tree run) (tree.shape.node_size / 512) (nodes_with tree run) old.put * (tree.shape.node_size / 512) = ap (λ k. k * (tree.shape.node_size / 512)) same in
      inr (omega (arith, all, product, reads.room.spare)))
      has

  pub has_none : (items : List Stretch) (count goal : ℕ) → count ≡ map_nodes_with tree run → goal ≡ nodes_with tree run → HasRoomToGrow tree run old
      → (unput now.put (sectors_at (fork_sectors list tree.per_block) (tree.shape.node_size / 512) 0) + unput now.put (sectors_at (fork_sectors list tree.per_block) (tree.shape.node_size / 512) (last_node items)) + 0 * (tree.shape.node_size / 512) ≤ now.spare)
      ⊎ (unwritten_in (fork_sectors list tree.per_block) (tree.shape.node_size / 512) goal now.put * (tree.shape.node_size / 512) ≤ now.spare)
  has_none items count goal count_is goal_is has = ⊎_elim
      (λ (both : unput now.put (sectors_at (fork_sectors list tree.per_block) (tree.shape.node_size / 512) 0) + unput now.put (sectors_at (fork_sectors list tree.per_block) (tree.shape.node_size / 512) (last_node items)) + count * (tree.shape.node_size / 512) ≤ now.spare). inl (omega (arith, both)))
      (λ all. inr all)
      (has_room items count goal count_is goal_is has)

  -- the room that the stages took, in the words of the growth
  pub room_taken : (next after : TreeFile) (new : Space) (count goal : ℕ) → count ≡ map_nodes_with tree run → goal ≡ nodes_with tree run → next.shape ≡ tree.shape → next.fork ≡ list → next.per_block ≡ tree.per_block
      → SpendsRoom goal next after now new → length after.map.items ≤ length next.map.items + count → TakesRoomToGrow tree run old new
  room_taken next after new count goal count_is goal_is shape fork per_block spent most =
      let sectors : sectors_of_tree next ≡ fork_sectors list tree.per_block = ap (λ f. fork_sectors f next.per_block) fork ∙ ap (λ p. fork_sectors list p) per_block in
      let per : next.shape.node_size / 512 ≡ tree.shape.node_size / 512 = ap (λ (s : TreeShape). s.node_size / 512) shape in
      let product = mul-le-mul_right {m = length after.map.items} {n = length next.map.items + count} (next.shape.node_size / 512) most in
      let nodes : count * (next.shape.node_size / 512) ≡ map_nodes_with tree run * (tree.shape.node_size / 512) = ap (λ k. k * (next.shape.node_size / 512)) count_is ∙ ap (λ p. map_nodes_with tree run * p) per in
      let same : unwritten_in (sectors_of_tree next) (next.shape.node_size / 512) goal now.put * (next.shape.node_size / 512) ≡ unwritten_in (sectors_with tree run) (tree.shape.node_size / 512) (nodes_with tree run) old.put * (tree.shape.node_size / 512) =
      ap (λ (l : List ℕ). unwritten_in l (next.shape.node_size / 512) goal now.put * (next.shape.node_size / 512)) (sectors ∙ as_with) ∙ ap (λ p. unwritten_in (sectors_with tree run) p goal now.put * p) per
      ∙ ap (λ n. unwritten_in (sectors_with tree run) (tree.shape.node_size / 512) n now.put * (tree.shape.node_size / 512)) goal_is ∙ ap (λ p. unwritten_in (sectors_with tree run) (tree.shape.node_size / 512) (nodes_with tree run) p * (tree.shape.node_size / 512)) put_same in
      record {
        written = omega (
          arith,
          spent.written,
          product,
          nodes,
          per,
          reads.room.spare,
          few now.put (sectors_of_tree next) (next.shape.node_size / 512) 0,
          few now.put (sectors_of_tree next) (next.shape.node_size / 512) (last_node next.map.items),
        );
        unwritten = omega (arith, spent.unwritten, same, reads.room.spare);
      }

  -- the file stands over the content behind the stages
  pub stands_grown : (after : TreeFile) (new : Space) (goal : ℕ) → IsTrue old.tells → goal ≡ nodes_with tree run → nodes_in run tree.per_block tree.shape.node_size * (tree.shape.node_size / 512) ≡ run.count * tree.per_block → Stands tree old.content
      → IsGrowing goal after new → IsTrue new.tells → after.fork ≡ list → after.per_block ≡ tree.per_block → after.shape.node_size ≡ tree.shape.node_size → after.shape.total ≡ goal → PutsWithin (fork_sectors list tree.per_block) now new → Stands after new.content
  stands_grown after new goal tells goal_is whole stands growing told fork per_block node_size total frame =
      let sectors : sectors_of_tree after ≡ fork_sectors list tree.per_block = ap (λ f. fork_sectors f after.per_block) fork ∙ ap (λ p. fork_sectors list p) per_block in
      let product : after.shape.total * (after.shape.node_size / 512) ≡ nodes_with tree run * (tree.shape.node_size / 512) = ap (λ n. n * (after.shape.node_size / 512)) (total ∙ goal_is) ∙ ap (λ n. nodes_with tree run * (n / 512)) node_size in
      let one = some_sector tree old.content stands in
      let first_now : length (nodes_on (fork_sectors list tree.per_block) 512 now.content 0) ≡ 512 =
      ap (λ (l : List ℕ). length (nodes_on l 512 now.content 0)) longer ∙ ap (λ (c : Content). length (nodes_on (sectors_of_tree tree ++ fork_sectors (run ∷ []) tree.per_block) 512 c 0)) (reads.sectors tells).content
      ∙ ap (λ (l : List ℕ). length l) (node_front (sectors_of_tree tree) (fork_sectors (run ∷ []) tree.per_block) 512 1 0 old.content (omega (arith, one)) (omega arith)) ∙ stands.first in
      record {
        agrees = growing.agrees told;
        settled = growing.settled told;
        whole = omega (arith, product, stands.whole, whole, long_now, ap (λ (l : List ℕ). length l) sectors);
        first = ap (λ (l : List ℕ). length (nodes_on l 512 new.content 0)) sectors ∙ first_kept (fork_sectors list tree.per_block) now.content new.content (omega (arith, long_now, one)) (frame.sizes (reads.same.tells ∙ tells)) first_now;
      }
