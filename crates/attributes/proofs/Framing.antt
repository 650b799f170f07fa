-- Edits of one tree behind each other, and what ends them early.
use Rattle.std.proofs.Common.{◌≡◌, ◌≤◌, ◌<◌, ◌+◌, ◌-◌, ℕ, List, refl, sym, ◌∙◌, subst, arith}
use Rattle.std.specs.Prelude.{IsTrue, Result, Ok, Err, OnOk}
use Rattle.std.specs.Result.{IsErrAnd}
use Rattle.std.specs.declared.cmp.Ordering.{Ordering}
use Rattle.std.proofs.lemmas.Result.{err_from_is_err_and}
use Rattle.btree_node.specs.Store.{Store}
use Rattle.btree_node.specs.Tree.{IsTree}
use Rattle.btree_edit.specs.Desk.{IsDeskOf}
use Rattle.btree_edit.specs.Reading.{ReadsNodes}
use Rattle.btree_edit.specs.declared.desk.Desk.{Desk}
use Rattle.btree_edit.proofs.EditLaws.{edits_add, edits_fewer, takes_both, takes_fewer, takes_none}
use Rattle.btree_edit.proofs.Repeated.{reads_none, same_store_both}
use Rattle.attributes.specs.Frame.{EditsAtMost, IsEditable}
use Rattle.attributes.proofs.BeforeEdits.{reads_edit_nothing}

-- what holds anyway holds where there is an answer
stood : {T E P : Type 0} (result : Result T E) → P → OnOk result P
stood (Ok answer) p = p
stood (Err why) p = tt

-- what follows from an answer's fact
onward : {T E P Q : Type 0} (result : Result T E) → (P → Q) → OnOk result P → OnOk result Q
onward (Ok answer) then known = then known
onward (Err why) then known = tt

-- nothing was done
pub edits_none : {S T E : Type 0} {is_key : List ℕ → Type 0} {cmp : List ℕ → List ℕ → Ordering} {least : ℕ} {desk : Desk} {result : Result T E} (state : S → Store) (follows : S → S → Type 0) (longest : ℕ) (s : S) → IsEditable is_key cmp least (state s) desk → ((a : S) → follows a a) → EditsAtMost state follows is_key cmp 0 longest s s desk result
edits_none {S} {T} {E} {is_key} {cmp} {least} {desk} {result} state follows longest s ready none = record {
  below = none s;
  same = record { tells = refl; names = refl; node_size = refl; total = refl; reserved = λ n. refl };
  desk = ready.desk;
  takes = takes_none 0 longest (state s);
  edits = stood result (reads_edit_nothing 0 longest (state s) (state s) (reads_none (state s)) (omega arith));
  tree = λ tells. stood result (ready.tree tells);
  header = λ tells says. stood result says;
}

-- nodes were read alone, and it is a tree still
pub edits_read : {S T E : Type 0} {is_key : List ℕ → Type 0} {cmp : List ℕ → List ℕ → Ordering} {most : ℕ} {desk : Desk} {result : Result T E} (state : S → Store) (follows : S → S → Type 0) (longest : ℕ) (a b : S) → ReadsNodes most (state a) (state b) → IsDeskOf (state a).shape.node_size desk → (state a).faults ≤ (state b).faults → follows a b → (IsTrue (state a).tells → IsTree is_key cmp (state b))
    → EditsAtMost state follows is_key cmp 0 longest a b desk result
edits_read {S} {T} {E} {is_key} {cmp} {most} {desk} {result} state follows longest a b reads fits later below tree =
    let edits = reads_edit_nothing most longest (state a) (state b) reads later in
    record {
      below = below;
      same = reads.same;
      desk = fits;
      takes = edits.takes;
      edits = stood result edits;
      tree = λ tells. stood result (tree tells);
      header = λ tells says. stood result ((reads.tree tells).header ∙ says ∙ sym reads.shape);
    }

module _ {S : Type 0} {state : S → Store} {follows : S → S → Type 0} {is_key : List ℕ → Type 0} {cmp : List ℕ → List ℕ → Ordering} where
  -- another answer is given, or the fault is handed on
  pub edits_ok : {T U E F : Type 0} {edits longest : ℕ} {a b : S} {desk : Desk} {x : T} {y : U} → EditsAtMost {T = T} {E = E} state follows is_key cmp edits longest a b desk (Ok x) → EditsAtMost {T = U} {E = F} state follows is_key cmp edits longest a b desk (Ok y)
  edits_ok was = record { below = was.below; same = was.same; desk = was.desk; takes = was.takes; edits = was.edits; tree = was.tree; header = was.header }

  pub edits_err : {T U E F : Type 0} {edits longest : ℕ} {a b : S} {desk : Desk} {r : Result T E} {q : Result U F} (Q : F → Type 0) → IsErrAnd q Q → EditsAtMost state follows is_key cmp edits longest a b desk r → EditsAtMost state follows is_key cmp edits longest a b desk q
  edits_err {T} {U} {E} {F} {edits} {longest} {a} {b} {desk} {r} {q} Q failed was =
      let p = err_from_is_err_and q failed in
      subst (λ (r : Result U F). EditsAtMost state follows is_key cmp edits longest a b desk r) (sym p.1) (record { below = was.below; same = was.same; desk = was.desk; takes = was.takes; edits = tt; tree = λ tells. tt; header = λ tells says. tt })

  -- some more might have been made
  pub edits_more : {T E : Type 0} {made longest : ℕ} {a b : S} {desk : Desk} {r : Result T E} (others : ℕ) → EditsAtMost state follows is_key cmp made longest a b desk r → EditsAtMost state follows is_key cmp (made + others) longest a b desk r
  edits_more {T} {E} {made} {longest} {a} {b} {desk} {r} others was = record {
    below = was.below;
    same = was.same;
    desk = was.desk;
    takes = takes_fewer made others longest (state a) (state b) was.takes;
    edits = onward r (edits_fewer made others longest (state a) (state b)) was.edits;
    tree = was.tree;
    header = was.header;
  }

  pub edits_upto : {T E : Type 0} {made longest : ℕ} {a b : S} {desk : Desk} {r : Result T E} (most : ℕ) → EditsAtMost state follows is_key cmp made longest a b desk r → made ≤ most → EditsAtMost state follows is_key cmp most longest a b desk r
  edits_upto {T} {E} {made} {longest} {a} {b} {desk} {r} most was few =
      let all : made + (most - made) ≡ most = omega (arith, few) in
      subst (λ n. EditsAtMost state follows is_key cmp n longest a b desk r) all (edits_more (most - made) was)

  -- edits behind others
  pub edits_then : {T U E F : Type 0} {first others longest : ℕ} {a b c : S} {x : T} {before after : Desk} {r : Result U F} → EditsAtMost {T = T} {E = E} state follows is_key cmp first longest a b before (Ok x) → EditsAtMost state follows is_key cmp others longest b c after r → ((s t u : S) → follows s t → follows t u → follows s u) → EditsAtMost state follows is_key cmp (first + others) longest a c after r
  edits_then {T} {U} {E} {F} {first} {others} {longest} {a} {b} {c} {x} {before} {after} {r} one two trans = record {
    below = trans a b c one.below two.below;
    same = same_store_both one.same two.same;
    desk = subst (λ n. IsDeskOf n after) one.same.node_size two.desk;
    takes = takes_both first others longest (state a) (state b) (state c) one.same one.edits two.takes;
    edits = onward r (edits_add first others longest (state a) (state b) (state c) one.same one.edits) two.edits;
    tree = λ tells. two.tree (one.same.tells ∙ tells);
    header = λ tells says. two.header (one.same.tells ∙ tells) (one.header tells says);
  }

  -- the tree may be edited again
  pub ready_again : {T E : Type 0} {edits longest least : ℕ} {a b : S} {x : T} {old new : Desk} → EditsAtMost {T = T} {E = E} state follows is_key cmp edits longest a b new (Ok x) → IsEditable is_key cmp least (state a) old → IsEditable is_key cmp least (state b) new
  ready_again {T} {E} {edits} {longest} {least} {a} {b} {x} {old} {new} done ready = record {
    size = subst (λ n. least ≤ n) (sym done.same.node_size) ready.size;
    desk = subst (λ n. IsDeskOf n new) (sym done.same.node_size) done.desk;
    tree = λ tells. done.tree (sym done.same.tells ∙ tells);
  }
