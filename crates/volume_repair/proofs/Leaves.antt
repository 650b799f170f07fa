-- A leaf whose records count right already.
use Rattle.std.proofs.Common.{◌≡◌, ℕ, zero, suc, ◌+◌, ◌-◌, ◌<◌, ◌≤◌, List, [], ◌∷◌, ◌++◌, length, take, drop, fold, refl, sym, ◌∙◌, ap, subst, arith, append_assoc, length-drop}
use Rattle.std.specs.Prelude.{Contains, slice_range}
use Rattle.std.specs.List.{range_with_len}
use Rattle.std.proofs.lemmas.List.{take-append-drop, drop-drop, length-take}
use Rattle.hx_bytes.specs.Field.{put_at}
use Rattle.btree_node.specs.Node.{IsNode, offset, record_count}
use Rattle.btree_node.specs.Levels.{key_of, value_of}
use Rattle.hfs_volume.proofs.Members.{at_front, behind}
use Rattle.hfs_volume.proofs.BlockWants.{range_bounds}
use Rattle.volume_repair.specs.Repair.{record_mended, leaf_mended}
use Rattle.volume_repair.specs.RepairLaws.{LeafStays}

-- bytes put where they stand
put_same : (bytes : List ℕ) (a b : ℕ) → a ≤ b → b ≤ length bytes → put_at bytes a (slice_range bytes a b) ≡ bytes
put_same bytes a b up inside =
    ap (λ (n : ℕ). take a bytes ++ slice_range bytes a b ++ drop n bytes) (let long : a + length (slice_range bytes a b) ≡ a + (b - a) = omega (arith, length-take (b - a) (drop a bytes), length-drop a bytes, up, inside) in long)
    ∙ append_assoc (take a bytes) (take (b - a) (drop a bytes)) (drop (a + (b - a)) bytes)
    ∙ ap (λ (l : List ℕ). take a bytes ++ (take (b - a) (drop a bytes) ++ l)) (sym (drop-drop (b - a) a bytes))
    ∙ ap (λ (l : List ℕ). take a bytes ++ l) (take-append-drop (b - a) (drop a bytes))
    ∙ take-append-drop a bytes

rises : (node : List ℕ) → IsNode node → (i d : ℕ) → i + d ≤ record_count node → offset node i ≤ offset node (i + d)
rises node cut i zero within = subst (λ k. offset node i ≤ offset node k) {x = i} (omega arith) (omega arith)
rises node cut i (suc d) within =
    let next : offset node (i + d) ≤ offset node (i + d + 1) = cut.rising (i + d) (omega (arith, within)) in
    let here : offset node i ≤ offset node (i + d) = rises node cut i d (omega (arith, within)) in
    subst (λ k. offset node i ≤ offset node k) {x = i + d + 1} (omega arith) (omega (arith, next, here))

fold_same : {B X : Type 0} (f : B → X → B) (b : B) (xs : List X) → ((x : X) → Contains xs x → f b x ≡ b) → fold f b xs ≡ b
fold_same f b [] same = refl
fold_same f b (x ∷ xs) same = ap (λ c. fold f c xs) (same x (at_front x xs)) ∙ fold_same f b xs (λ y stands. same y (behind x y xs stands))

pub leaf_law : LeafStays
unfolding leaf_mended key_of value_of
leaf_law records node cut same = fold_same (record_mended records) node (range_with_len 0 (record_count node)) (λ i stands. let below = (range_bounds 0 (record_count node) i stands).1 in each i (omega (arith, below)))
  where
    each : (i : ℕ) → i < record_count node → record_mended records node i ≡ node
    each i inside =
        let item = slice_range node (offset node i) (offset node (i + 1)) in
        let last : offset node (i + 1) ≤ offset node (record_count node) = subst (λ k. offset node (i + 1) ≤ offset node k) {x = i + 1 + (record_count node - (i + 1))} (omega (arith, inside)) (rises node cut (i + 1) (record_count node - (i + 1)) (omega (arith, inside))) in
        ap (λ (l : List ℕ). put_at node (offset node i) (key_of item ++ l)) (same i inside)
        ∙ ap (λ (l : List ℕ). put_at node (offset node i) l) (take-append-drop _ item)
        ∙ put_same node (offset node i) (offset node (i + 1)) (cut.rising i inside) (omega (arith, last, cut.inside))
