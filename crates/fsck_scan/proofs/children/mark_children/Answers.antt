use Rattle.std.proofs.Common.{◌≡◌, ◌<◌, ◌++◌, ◌∷◌, [], ℕ, Bool, true, false, List, length, take, get_or, set, if◌then◌else◌, inl, inr, sym, ◌∙◌, ap, subst, arith, ⊎_elim}
use Rattle.std.specs.Prelude.{slice_index}
use Rattle.std.specs.List.{All, Contains}
use Rattle.std.proofs.lemmas.List.{take_more, get_or-map, length-map}
use Rattle.std.proofs.lemmas.List.Elements.{All-push}
use Rattle.btree_node.specs.Levels.{child_of}
use Rattle.fsck_scan.specs.Marks.{MarksAll, children_of}
use Rattle.fsck_scan.proofs.MarkLaws.{marks_more, marked_cases, not_true, not_false}
use Rattle.fsck_scan.proofs.children.mark_children.Goals as goal

child_at : (records : List (List ℕ)) (k n : ℕ) (item : List ℕ) → k < length records → n ≡ child_of item → item ≡ get_or records k [] → n ≡ slice_index (children_of records) k
child_at records k n item inside is at = is ∙ ap child_of at ∙ sym (get_or-map child_of records k [] 0 inside)

pub returns-then-n-total-clause-wrong : goal.returns-then-n-total-clause-wrong
returns-then-n-total-clause-wrong c =
    let records : List (List ℕ) = c.args.records.now in
    let k : ℕ = c.loop-k.k in
    let inside : k < length records = omega (arith, c.loop-k-test.true, c.len-k-end.ensures) in
    record {
      at = k;
      inside = inside;
      is = child_at records k c.child_in-n.result c.get.result.now inside c.child_in-n.ensures c.get.ensures;
      now = c.loop-k.marks;
      before = subst (λ (l : List ℕ). MarksAll l c.args.marks.now c.loop-k.marks) c.loop-k.invariant.nodes c.loop-k.invariant.marks;
      taken = λ other. inl c.if-n-total.true;
      twice = λ is. absurd (never is);
    }
  where
    never : false ≡ true → ⊥
    never is = cc

pub returns-then-not-taken-clause-wrong : goal.returns-then-not-taken-clause-wrong
returns-then-not-taken-clause-wrong c =
    let records : List (List ℕ) = c.args.records.now in
    let k : ℕ = c.loop-k.k in
    let inside : k < length records = omega (arith, c.loop-k-test.true, c.len-k-end.ensures) in
    record {
      at = k;
      inside = inside;
      is = child_at records k c.child_in-n.result c.get.result.now inside c.child_in-n.ensures c.get.ensures;
      now = c.loop-k.marks;
      before = subst (λ (l : List ℕ). MarksAll l c.args.marks.now c.loop-k.marks) c.loop-k.invariant.nodes c.loop-k.invariant.marks;
      taken = λ other. ⊎_elim
          (λ (was : get_or c.args.marks.now c.child_in-n.result true ≡ true). inr was)
          (λ (again : Contains c.loop-k.nodes.items c.child_in-n.result). absurd (never (sym other ∙ c.stands.ensures.1 (subst (λ (l : List ℕ). Contains l c.child_in-n.result) (sym c.as_slice.ensures.value) again))))
          (marked_cases c.args.marks.now c.loop-k.marks c.loop-k.nodes.items c.child_in-n.result c.loop-k.invariant.marks (not_false (get_or c.loop-k.marks c.child_in-n.result true) (sym c.if-not-taken.true ∙ c.in_ok-taken.ensures.could)));
      twice = λ is. subst (λ (l : List ℕ). Contains l c.child_in-n.result) (c.as_slice.ensures.value ∙ c.loop-k.invariant.nodes) (c.stands.ensures.0 is);
    }
  where
    never : false ≡ true → ⊥
    never is = cc

pub loop-k-preserved : goal.loop-k-preserved
loop-k-preserved c =
    let records : List (List ℕ) = c.args.records.now in
    let k : ℕ = c.loop-k.k in
    let n : ℕ = c.child_in-n.result in
    let ns : List ℕ = c.loop-k.nodes.items in
    let inside : k < length records = omega (arith, c.loop-k-test.true, c.len-k-end.ensures) in
    let is : n ≡ slice_index (children_of records) k = child_at records k n c.get.result.now inside c.child_in-n.ensures c.get.ensures in
    let marked : c.mark.new.self ≡ set c.loop-k.marks n true = c.in_ok-taken.ensures.marks ∙ ap (λ b. if b then set c.loop-k.marks n true else c.loop-k.marks) c.if-not-taken.false in
    let clear : get_or c.loop-k.marks n true ≡ false = not_true (get_or c.loop-k.marks n true) (sym c.if-not-taken.false ∙ c.in_ok-taken.ensures.could) in
    record {
      nodes =
          c.in_ok-push_node.ensures ∙ ap (λ (l : List ℕ). l ++ n ∷ []) c.loop-k.invariant.nodes ∙ ap (λ m. take k (children_of records) ++ m ∷ []) is
          ∙ sym (take_more (children_of records) k 0 (omega (arith, inside, length-map records child_of)));
      inside = subst (λ (l : List ℕ). All (λ m. m < c.args.total) l) (sym c.in_ok-push_node.ensures) (All-push (λ m. m < c.args.total) ns n c.loop-k.invariant.inside c.if-n-total.false);
      marks =
          subst (λ (l : List ℕ). MarksAll l c.args.marks.now c.mark.new.self) (sym c.in_ok-push_node.ensures)
          (subst (λ (l : List Bool). MarksAll (ns ++ n ∷ []) c.args.marks.now l) (sym marked) (marks_more c.args.marks.now c.loop-k.marks ns n c.loop-k.invariant.marks clear));
    }
