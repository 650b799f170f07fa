-- A header record written over another.
use Rattle.std.proofs.Common.{◌≡◌, ℕ, ◌+◌, ◌-◌, ◌^◌, ◌<◌, ◌≤◌, List, ◌++◌, length, take, drop, get_or, inl, inr, refl, sym, ◌∙◌, ap, arith, append_assoc}
use Rattle.std.proofs.lemmas.List.{length-take, length-drop, get_or-take, get_or-drop}
use Rattle.hx_bytes.specs.Field.{big, big_at}
use Rattle.hx_bytes.proofs.Laws.{get_or-put_at, length-put_at}
use Rattle.hx_bytes.proofs.Reading.{Behind, behind_part, behind_number, number_here, part_here}
use Rattle.hx_bytes.proofs.Writing.{Written}
use Rattle.btree_node.specs.TreeFile.{SetsShape}
use Rattle.btree_node.specs.declared.store.TreeShape.{TreeShape}

abbrev fields : TreeShape → List ℕ → List ℕ
fields shape gap = big 2 shape.depth ++ big 4 shape.root ++ big 4 shape.leaf_records ++ big 4 shape.first ++ big 4 shape.last ++ big 2 shape.node_size ++ gap ++ big 4 shape.total ++ big 4 shape.free

pub record Fits (shape : TreeShape) : Type 0 where
  pub depth : shape.depth < 2 ^ 16
  pub root : shape.root < 2 ^ 32
  pub leaf_records : shape.leaf_records < 2 ^ 32
  pub first : shape.first < 2 ^ 32
  pub last : shape.last < 2 ^ 32
  pub node_size : shape.node_size < 2 ^ 16
  pub total : shape.total < 2 ^ 32
  pub free : shape.free < 2 ^ 32

pub sets_shape : (old new : List ℕ) (shape : TreeShape) → Fits shape → 44 ≤ length old → Written old new (big 2 shape.depth ++ big 4 shape.root ++ big 4 shape.leaf_records ++ big 4 shape.first ++ big 4 shape.last ++ big 2 shape.node_size ++ take 2 (drop 34 old) ++ big 4 shape.total ++ big 4 shape.free) 14 30
    → SetsShape shape old new
sets_shape old new shape small fits written =
    let gap = take 2 (drop 34 old) in
    let long : length (fields shape gap) ≡ 30 = written.front_length in
    let rest = drop (14 + length (fields shape gap)) old in
    let whole : new ≡ take 14 old ++ (big 2 shape.depth ++ (big 4 shape.root ++ (big 4 shape.leaf_records ++ (big 4 shape.first ++ (big 4 shape.last ++ (big 2 shape.node_size ++ (gap ++ (big 4 shape.total ++ (big 4 shape.free ++ rest))))))))) =
    written.is ∙ simp append_assoc in
    let b0 : Behind new (take 14 old ++ (big 2 shape.depth ++ (big 4 shape.root ++ (big 4 shape.leaf_records ++ (big 4 shape.first ++ (big 4 shape.last ++ (big 2 shape.node_size ++ (gap ++ (big 4 shape.total ++ (big 4 shape.free ++ rest)))))))))) 0 = record { is = whole } in
    let b1 = behind_part (take 14 old) 14 (omega (arith, length-take 14 old)) b0 in
    let b2 = behind_number 2 shape.depth b1 in
    let b3 = behind_number 4 shape.root b2 in
    let b4 = behind_number 4 shape.leaf_records b3 in
    let b5 = behind_number 4 shape.first b4 in
    let b6 = behind_number 4 shape.last b5 in
    let b7 = behind_number 2 shape.node_size b6 in
    let b8 = behind_part gap 2 (omega (arith, length-take 2 (drop 34 old), length-drop 34 old)) b7 in
    let b9 = behind_number 4 shape.total b8 in
    let depth : big_at 2 new 14 ≡ shape.depth = number_here _ 2 shape.depth small.depth b1 in
    let root : big_at 4 new 16 ≡ shape.root = number_here _ 4 shape.root small.root b2 in
    let leaf_records : big_at 4 new 20 ≡ shape.leaf_records = number_here _ 4 shape.leaf_records small.leaf_records b3 in
    let first : big_at 4 new 24 ≡ shape.first = number_here _ 4 shape.first small.first b4 in
    let last : big_at 4 new 28 ≡ shape.last = number_here _ 4 shape.last small.last b5 in
    let node_size : big_at 2 new 32 ≡ shape.node_size = number_here _ 2 shape.node_size small.node_size b6 in
    let total : big_at 4 new 36 ≡ shape.total = number_here _ 4 shape.total small.total b8 in
    let free : big_at 4 new 40 ≡ shape.free = number_here _ 4 shape.free small.free b9 in
    let kept : take 2 (drop 34 new) ≡ take 2 (drop 34 old) = part_here _ gap 2 (omega (arith, length-take 2 (drop 34 old), length-drop 34 old)) b7 in
    record {
      numbers = rw (depth, root, leaf_records, first, last, node_size, total, free) refl;
      size = ap length written.is ∙ length-put_at old (fields shape gap) 14 (omega (arith, long));
      others = λ k where_. elim where_ [
        | inl before ↦ ap (λ (l : List ℕ). get_or l k 0) written.is ∙ get_or-put_at old (fields shape gap) 14 k (omega (arith, long)) (inl before)
        | inr past ↦ elim past [
          | inl within ↦
              let at : (l : List ℕ) → get_or (take 2 (drop 34 l)) (k - 34) 0 ≡ get_or l k 0 = λ l. get_or-take 2 (drop 34 l) (k - 34) 0 (omega (arith, within.0, within.1)) ∙ get_or-drop 34 l (k - 34) 0 ∙ ap (λ i. get_or l i 0) {x = 34 + (k - 34)} {y = k} (omega (arith, within.0)) in
              sym (at new) ∙ ap (λ (l : List ℕ). get_or l (k - 34) 0) kept ∙ at old
          | inr behind ↦ ap (λ (l : List ℕ). get_or l k 0) written.is ∙ get_or-put_at old (fields shape gap) 14 k (omega (arith, long)) (inr (omega (arith, behind, long)))
        ]
      ];
    }
