-- What changes of a fork's records need and take of the tree, over the reads before them.
use Rattle.std.proofs.Common.{◌≡◌, ◌⊎◌, ◌≤◌, ◌<◌, ◌+◌, ◌-◌, ◌*◌, ◌^◌, ℕ, zero, suc, true, List, [], ◌∷◌, length, max, inl, inr, sym, ◌∙◌, ap, subst, arith}
use Rattle.std.specs.Prelude.{IsTrue, slice_index_or}
use Rattle.std.proofs.lemmas.Bool.{and_parts}
use Rattle.btree_node.specs.Keys.{IsExtentKey, extent_cmp}
use Rattle.btree_node.specs.Node.{items}
use Rattle.btree_node.specs.Store.{Store, SameStore, HasRoom}
use Rattle.btree_node.specs.Tree.{IsTree, pairs_of}
use Rattle.btree_edit.specs.Editing.{CostsAtMost, edit_writes}
use Rattle.btree_edit.specs.Edits.{EditRoom, TakesEdits, TakesAtMost}
use Rattle.btree_edit.proofs.Doing.{does_read, does_both}
use Rattle.btree_edit.proofs.EditLaws.{takes_both, takes_fewer, edits_add, edits_fewer, room_then, room_first}
use Rattle.btree_edit.proofs.Outcomes.{read_tree, read_pairs}
use Rattle.btree_edit.proofs.Repeated.{reads_none, same_store_both}
use Rattle.overflow.specs.Changes.{is_light, are_light}
use Rattle.overflow.specs.Reading.{OnlyReads}
use Rattle.overflow.specs.Room.{HasLightRoom, ChangeRoom}
use Rattle.overflow.specs.declared.changes.Change.{Change}

pub tree_read : (a b : Store) → OnlyReads a b → IsTrue a.tells → a.shape.total < 2 ^ 32 → IsTree IsExtentKey extent_cmp a → IsTree IsExtentKey extent_cmp b
tree_read a b (most, reads) tells small tree = read_tree (λ _ key. omega (arith, key.long, key.size)) most a b reads tells (omega (arith, small)) tree

pub pairs_read : (a b : Store) → OnlyReads a b → IsTrue a.tells → a.shape.total < 2 ^ 32 → IsTree IsExtentKey extent_cmp a → pairs_of b ≡ pairs_of a
pairs_read a b (most, reads) tells small tree = read_pairs (λ _ key. omega (arith, key.long, key.size)) most a b reads tells (omega (arith, small)) tree

pub same_read : (a b : Store) → OnlyReads a b → SameStore a b
same_read a b (most, reads) = reads.same

-- reads are no edit
pub reads_edit_nothing : (a b : Store) → OnlyReads a b → a.faults ≤ b.faults → TakesEdits 0 10 a b
reads_edit_nothing a b (most, reads) later = record {
  takes = λ tells deepest deep.
      let costs = does_read most reads later in
      does_both 0 0 0 0 (0 * edit_writes deepest) (0 * (deepest + 1)) costs (does_read 0 (reads_none b) (omega arith)) (omega arith) (omega arith);
  top = λ tells. record {
    depth = omega (arith, ap (λ h. h.depth) reads.shape);
    records = λ same deep.
        let root = ap (λ h. h.root) reads.shape in
        let items_are : length (items (b.nodes b.shape.root)) ≡ length (items (a.nodes a.shape.root)) = ap (λ n. length (items (b.nodes n))) root ∙ ap (λ (l : List ℕ). length (items l)) ((reads.tree tells).nodes a.shape.root) in
        omega (arith, ap (λ n. max 1 n) items_are);
  };
  records = λ tells. omega (arith, ap (λ h. h.leaf_records) reads.shape);
}

pub room_after : (few all : ℕ) (a b : Store) → few ≤ all → OnlyReads a b → a.faults ≤ b.faults → (IsTrue a.tells → EditRoom all 10 a) → IsTrue b.tells → EditRoom few 10 b
room_after few all a b less reads later room =
    let now : IsTrue b.tells → EditRoom all 10 b =
    room_then 0 all 10 a b (same_read a b reads) (reads_edit_nothing a b reads later) (λ tells. subst (λ n. EditRoom n 10 a) {x = all} {y = 0 + all} (omega arith) (room tells)) in
    room_first few (all - few) 10 b (λ tells. subst (λ n. EditRoom n 10 b) {x = all} {y = few + (all - few)} (omega (arith, less)) (now tells))

pub takes_after : (few all : ℕ) (a b c : Store) → few ≤ all → OnlyReads a b → a.faults ≤ b.faults → TakesAtMost few 10 b c → TakesAtMost all 10 a c
takes_after few all a b c less reads later takes =
    let both = takes_both 0 few 10 a b c (same_read a b reads) (reads_edit_nothing a b reads later) takes in
    subst (λ n. TakesAtMost n 10 a c) {x = 0 + few + (all - few)} {y = all} (omega (arith, less)) (takes_fewer (0 + few) (all - few) 10 a c both)

pub edits_after : (few all : ℕ) (a b c : Store) → few ≤ all → OnlyReads a b → a.faults ≤ b.faults → TakesEdits few 10 b c → TakesEdits all 10 a c
edits_after few all a b c less reads later takes =
    let both = edits_add 0 few 10 a b c (same_read a b reads) (reads_edit_nothing a b reads later) takes in
    subst (λ n. TakesEdits n 10 a c) {x = 0 + few + (all - few)} {y = all} (omega (arith, less)) (edits_fewer (0 + few) (all - few) 10 a c both)

-- a call that only read took nothing
pub takes_reads : (all : ℕ) (a b : Store) → OnlyReads a b → a.faults ≤ b.faults → TakesAtMost all 10 a b
takes_reads all a b reads later = subst (λ n. TakesAtMost n 10 a b) {x = 0 + all} {y = all} (omega arith) (takes_fewer 0 all 10 a b (reads_edit_nothing a b reads later).takes)

pub costs_reads : (n : ℕ) (a b : Store) → OnlyReads a b → a.faults ≤ b.faults → CostsAtMost n 0 a b
costs_reads n a b (most, reads) later = does_both 0 0 0 0 n 0 (does_read most reads later) (does_read 0 (reads_none b) (omega arith)) (omega arith) (omega arith)

pub costs_after : (n : ℕ) (a b c : Store) → OnlyReads a b → a.faults ≤ b.faults → CostsAtMost (n * edit_writes b.shape.depth) 0 b c → CostsAtMost (n * edit_writes a.shape.depth) 0 a c
costs_after n a b c (most, reads) later costs =
    subst (λ d. CostsAtMost (n * edit_writes d) 0 a c) (ap (λ h. h.depth) reads.shape)
    (does_both 0 0 (n * edit_writes b.shape.depth) 0 (n * edit_writes b.shape.depth) 0 (does_read most reads later) costs (omega arith) (omega arith))

pub light_room_after : (changes : List Change) (a b : Store) → OnlyReads a b → HasLightRoom changes a → HasLightRoom changes b
light_room_after changes a b (most, reads) room = record {
  light = room.light;
  writes =
      let here : HasRoom (length changes * edit_writes a.shape.depth) b = same_room (length changes * edit_writes a.shape.depth) reads.room.unwritten reads.room.writes_left room.writes in
      subst (λ d. HasRoom (length changes * edit_writes d) b) (sym (ap (λ h. h.depth) reads.shape)) here;
}
  where
    same_room : (n : ℕ) → b.unwritten ≡ a.unwritten → b.writes_left ≡ a.writes_left → HasRoom n a → HasRoom n b
    same_room n unwritten left has = omega (arith, unwritten, left, has)

-- ---- one change of several

light_at : (changes : List Change) (n : ℕ) (other : Change) → are_light changes ≡ true → n < length changes → is_light (slice_index_or changes n other) ≡ true
light_at [] n other light inside = absurd (omega (arith, inside))
light_at (change ∷ more) zero other light inside = (and_parts (is_light change) (are_light more) light).0
light_at (change ∷ more) (suc n) other light inside = light_at more n other (and_parts (is_light change) (are_light more) light).1 (omega (arith, inside))

writes_then : (m n all : ℕ) (a b : Store) → all ≡ m + n → CostsAtMost m 0 a b → HasRoom all a → HasRoom n b
writes_then m n all a b is costs has = omega (arith, is, costs.fewer, costs.some, costs.left, has)

writes_fewer : (few all : ℕ) (store : Store) → few ≤ all → HasRoom all store → HasRoom few store
writes_fewer few all store less has = omega (arith, less, has)

-- what is kept of the room when some changes were made
pub record HasMade (changes : List Change) (made : ℕ) (a b : Store) : Type 0 where
  pub same : SameStore a b
  pub edits : TakesEdits made 10 a b
  pub light : IsTrue a.tells → are_light changes ≡ true → CostsAtMost (made * edit_writes a.shape.depth) 0 a b × (b.shape.depth ≤ a.shape.depth)

pub change_room : (changes : List Change) (made : ℕ) (other : Change) (a b : Store) → made < length changes → HasMade changes made a b → (IsTrue a.tells → EditRoom (length changes) 10 a ⊎ HasLightRoom changes a)
    → IsTrue b.tells → ChangeRoom (slice_index_or changes made other) b
change_room changes made other a b inside has room tells_now = elim (room tells) [
  | inl edits ↦
      let n = length changes - made in
      let now : IsTrue b.tells → EditRoom n 10 b = room_then made n 10 a b has.same has.edits (λ _. subst (λ k. EditRoom k 10 a) {x = length changes} {y = made + n} (omega (arith, inside)) edits) in
      inl (room_first 1 (n - 1) 10 b (λ told. subst (λ k. EditRoom k 10 b) {x = n} {y = 1 + (n - 1)} (omega (arith, inside)) (now told)) tells_now)
  | inr light ↦
      let costs = has.light tells light.light in
      let w = edit_writes a.shape.depth in
      let n = length changes - made - 1 in
      let left : HasRoom ((n + 1) * w) b = writes_then (made * w) ((n + 1) * w) (length changes * w) a b (ap (λ k. k * w) {x = length changes} {y = made + (n + 1)} (omega (arith, inside)) ∙ omega arith) costs.0 light.writes in
      let one : HasRoom w b = writes_fewer w ((n + 1) * w) b (omega arith) left in
      inr (light_at changes made other light.light inside, writes_fewer (edit_writes b.shape.depth) w b (omega (arith, costs.1)) one)
]
  where
    tells : IsTrue a.tells
    tells = sym has.same.tells ∙ tells_now

pub one_more_made : (changes : List Change) (made : ℕ) (other : Change) (a b c : Store) → made < length changes → HasMade changes made a b → SameStore b c → TakesEdits 1 10 b c
    → (IsTrue b.tells → is_light (slice_index_or changes made other) ≡ true → CostsAtMost (edit_writes b.shape.depth) 0 b c) → (IsTrue b.tells → is_light (slice_index_or changes made other) ≡ true → c.shape.depth ≤ b.shape.depth)
    → HasMade changes (made + 1) a c
one_more_made changes made other a b c inside has same edits costs depth =
    let both = same_store_both has.same same in
    record {
      same = both;
      edits = edits_add made 1 10 a b c has.same has.edits edits;
      light = λ tells light.
          let so_far = has.light tells light in
          let tells_b : IsTrue b.tells = subst IsTrue (sym has.same.tells) tells in
          let is = light_at changes made other light inside in
          let w = edit_writes a.shape.depth in (
            does_both (made * w) 0 (edit_writes b.shape.depth) 0 ((made + 1) * w) 0 so_far.0 (costs tells_b is) (omega (arith, so_far.1)) (omega arith),
            omega (arith, so_far.1, depth tells_b is),
          );
    }

pub none_made : (changes : List Change) (a : Store) → HasMade changes 0 a a
none_made changes a = record {
  same = (reads_none a).same;
  edits = reads_edit_nothing a a (0, reads_none a) (omega arith);
  light = λ tells light. (does_both 0 0 0 0 (0 * edit_writes a.shape.depth) 0 (does_read 0 (reads_none a) (omega arith)) (does_read 0 (reads_none a) (omega arith)) (omega arith) (omega arith), omega arith);
}

-- what was taken when a change failed
pub takes_failed : (changes : List Change) (made : ℕ) (a b c : Store) → made < length changes → HasMade changes made a b → TakesAtMost 1 10 b c → TakesAtMost (length changes) 10 a c
takes_failed changes made a b c inside has takes =
    subst (λ n. TakesAtMost n 10 a c) {x = made + 1 + (length changes - made - 1)} {y = length changes} (omega (arith, inside))
    (takes_fewer (made + 1) (length changes - made - 1) 10 a c (takes_both made 1 10 a b c has.same has.edits takes))

pub costs_failed : (changes : List Change) (made : ℕ) (other : Change) (a b c : Store) → made < length changes → HasMade changes made a b → IsTrue a.tells → are_light changes ≡ true
    → (IsTrue b.tells → is_light (slice_index_or changes made other) ≡ true → CostsAtMost (edit_writes b.shape.depth) 0 b c) → CostsAtMost (length changes * edit_writes a.shape.depth) 0 a c
costs_failed changes made other a b c inside has tells light costs =
    let so_far = has.light tells light in
    let w = edit_writes a.shape.depth in
    let n = length changes - made - 1 in
    let all : length changes * w ≡ (made + 1) * w + n * w = ap (λ k. k * w) {x = length changes} {y = made + 1 + n} (omega (arith, inside)) ∙ omega arith in
    does_both (made * w) 0 (edit_writes b.shape.depth) 0 (length changes * w) 0 so_far.0 (costs (subst IsTrue (sym has.same.tells) tells) (light_at changes made other light inside)) (omega (arith, all, so_far.1)) (omega arith)
