-- The way from the root to a leaf, step by step.
use Rattle.std.proofs.Common.{◌≡◌, ℕ, zero, suc, ◌+◌, ◌-◌, ◌<◌, ◌≤◌, List, [], ◌∷◌, length, take, set, get_or, inl, inr, refl, sym, ◌∙◌, ap, subst, arith}
use Rattle.std.proofs.lemmas.Bool.{cases_lt, cases_eq}
use Rattle.std.proofs.lemmas.List.{take_at, get_or-set_other, get_or-set_same}
use Rattle.std.specs.Cmp.{IsTotalOrder}
use Rattle.std.specs.declared.cmp.Ordering.{Ordering}
use Rattle.hx_bytes.specs.Field.{big_at}
use Rattle.btree_node.specs.Node.{items}
use Rattle.btree_node.specs.Levels.{entries}
use Rattle.btree_node.specs.Store.{Store}
use Rattle.btree_node.specs.Tree.{level_of, HasLevels, IsOrdered}
use Rattle.btree_edit.specs.Reading.{LeadsTo, IsPlace, IsLead}
use Rattle.btree_edit.specs.Way.{stop_at, way_place, LeadsWay}
use Rattle.btree_edit.specs.declared.desk.PathStep.{PathStep}
use Rattle.btree_edit.specs.declared.search.ChildStep.{ChildStep}
use Rattle.btree_edit.proofs.Descent.{leads_step, leads_step_front, node_place, node_in_level}

-- the first so many steps of a way, and the node that they lead to
pub record IsOnWay (cmp : List ℕ → List ℕ → Ordering) (key : List ℕ) (store : Store) (path : List PathStep) (level node : ℕ) : Type 0 where
  pub inside : (j : ℕ) → j < level → way_place store path j < length (level_of store j)
  pub is : (j : ℕ) → j < level → get_or (level_of store j) (way_place store path j) 0 ≡ (stop_at path j).node
  pub below : (j : ℕ) → j < level → (stop_at path j).at < length (items (store.nodes (stop_at path j).node))
  pub leads : LeadsTo cmp key store level node
  pub front : length leads.front ≡ way_place store path level

-- the place of a node rests on the steps before it
way_same : (store : Store) (old new : List PathStep) (j : ℕ) → ((i : ℕ) → i < j → stop_at new i ≡ stop_at old i) → way_place store new j ≡ way_place store old j
way_same store old new zero same = refl
way_same store old new (suc j) same =
    ap (λ n. length (entries store.nodes (take n (level_of store j))) + (stop_at new j).at) (way_same store old new j (λ i low. same i (omega arith)))
    ∙ ap (λ (s : PathStep). length (entries store.nodes (take (way_place store old j) (level_of store j))) + s.at) (same j (omega arith))

module _ (is_key : List ℕ → Type 0) (cmp : List ℕ → List ℕ → Ordering) (total : IsTotalOrder cmp)
    (key_length : (a : List ℕ) → is_key a → length a ≡ big_at 2 a 0 + 2)
    (store : Store) (levels : HasLevels is_key store) (ordered : IsOrdered cmp store) (key : List ℕ) (path : List PathStep) (level node : ℕ)
    (on : IsOnWay cmp key store path level node) (stop : PathStep) (long : level < length path) (here : stop.node ≡ node)
  where
    path2 : List PathStep
    path2 = set path level stop

    same_stop : (i : ℕ) → i < level → stop_at (set path level stop) i ≡ stop_at path i
    same_stop i low = get_or-set_other path level i stop (record { node = 0; at = 0 }) (λ e. absurd (omega arith))

    new_stop : stop_at (set path level stop) level ≡ stop
    new_stop = get_or-set_same path level stop (record { node = 0; at = 0 }) long

    same_place : (i : ℕ) → i ≤ level → way_place store (set path level stop) i ≡ way_place store path i
    same_place i low = way_same store path (set path level stop) i (λ m less. same_stop m (omega arith))

    inside2 : (j : ℕ) → j < level + 1 → way_place store (set path level stop) j < length (level_of store j)
    inside2 j low = elim (cases_eq j level) [
      | inl is ↦
          let within = node_in_level is_key cmp total key_length store levels ordered key level node on.leads in
          omega (arith, same_place j (omega arith), ap (λ i. way_place store path i) is, on.front, ap (λ i. length (level_of store i)) is)
      | inr other ↦ omega (arith, same_place j (omega arith), on.inside j (omega arith))
    ]

    is2 : (j : ℕ) → j < level + 1 → get_or (level_of store j) (way_place store (set path level stop) j) 0 ≡ (stop_at (set path level stop) j).node
    is2 j low = elim (cases_eq j level) [
      | inl is ↦
          ap (λ n. get_or (level_of store j) n 0) (same_place j (omega arith))
          ∙ ap (λ i. get_or (level_of store i) (way_place store path i) 0) is
          ∙ ap (λ n. get_or (level_of store level) n 0) (sym on.front)
          ∙ node_place is_key cmp total key_length store levels ordered key level node on.leads
          ∙ sym here ∙ sym (ap (λ (s : PathStep). s.node) (ap (λ i. stop_at (set path level stop) i) is ∙ new_stop))
      | inr other ↦
          ap (λ n. get_or (level_of store j) n 0) (same_place j (omega arith)) ∙ on.is j (omega arith) ∙ sym (ap (λ (s : PathStep). s.node) (same_stop j (omega arith)))
    ]

    -- one step more
    pub on_step : level + 1 < store.shape.depth → (lead : ChildStep) → IsLead cmp key (items (store.nodes node)) lead → stop.at ≡ lead.index → IsOnWay cmp key store (set path level stop) (level + 1) lead.child
    on_step above lead is_lead index = record {
      inside = inside2;
      is = is2;
      below = λ j low. elim (cases_eq j level) [
        | inl is ↦
            let stop_is : stop_at (set path level stop) j ≡ stop = ap (λ i. stop_at (set path level stop) i) is ∙ new_stop in
            omega (arith, ap (λ (s : PathStep). s.at) stop_is, ap (λ (s : PathStep). length (items (store.nodes s.node))) stop_is, ap (λ n. length (items (store.nodes n))) here, is_lead.inside)
        | inr other ↦
            let stop_is = same_stop j (omega arith) in
            omega (arith, ap (λ (s : PathStep). s.at) stop_is, ap (λ (s : PathStep). length (items (store.nodes s.node))) stop_is, on.below j (omega arith))
      ];
      leads = leads_step is_key cmp total key_length store levels ordered level above key node on.leads lead is_lead;
      front =
          let front_is : on.leads.front ≡ take (way_place store path level) (level_of store level) =
          sym (take_at on.leads.front (node ∷ on.leads.back) (way_place store path level) on.front) ∙ ap (λ l. take (way_place store path level) l) (sym on.leads.is) in
          leads_step_front is_key cmp total key_length store levels ordered level above key node on.leads lead is_lead
          ∙ ap (λ l. length (entries store.nodes l) + lead.index) front_is
          ∙ ap (λ n. length (entries store.nodes (take n (level_of store level))) + lead.index) (sym (same_place level (omega arith)))
          ∙ ap (λ n. length (entries store.nodes (take (way_place store (set path level stop) level) (level_of store level))) + n) (sym index ∙ sym (ap (λ (s : PathStep). s.at) new_stop))
          ∙ ap (λ i. way_place store (set path level stop) i) {x = suc level} {y = level + 1} (omega arith);
    }

    -- the last step
    pub on_leaf : level + 1 ≡ store.shape.depth → IsPlace cmp key (items (store.nodes node)) stop.at → LeadsWay cmp key store (set path level stop)
    on_leaf last place =
        let deep : level ≡ store.shape.depth - 1 = omega arith in
        let leaf_stop : stop_at (set path level stop) (store.shape.depth - 1) ≡ stop = ap (λ i. stop_at (set path level stop) i) (sym deep) ∙ new_stop in
        let leaf_node : (stop_at (set path level stop) (store.shape.depth - 1)).node ≡ node = ap (λ (s : PathStep). s.node) leaf_stop ∙ here in
        leads_way deep leaf_stop leaf_node
      where
        leads_way : level ≡ store.shape.depth - 1 → stop_at (set path level stop) (store.shape.depth - 1) ≡ stop → (stop_at (set path level stop) (store.shape.depth - 1)).node ≡ node → LeadsWay cmp key store (set path level stop)
        leads_way deep leaf_stop leaf_node =
            let found : (l : LeadsTo cmp key store (store.shape.depth - 1) (stop_at (set path level stop) (store.shape.depth - 1)).node) × (length l.front ≡ way_place store (set path level stop) (store.shape.depth - 1)) =
            subst (λ n. (l : LeadsTo cmp key store (store.shape.depth - 1) n) × (length l.front ≡ way_place store (set path level stop) (store.shape.depth - 1))) (sym leaf_node)
            (subst (λ i. (l : LeadsTo cmp key store i node) × (length l.front ≡ way_place store (set path level stop) i)) deep (on.leads, on.front ∙ sym (same_place level (omega arith)))) in
            record {
              some = omega arith;
              way = record {
                inside = λ j low. inside2 j (omega arith);
                node = λ j low. is2 j (omega arith);
                below = λ j low.
                    let stop_is = same_stop j (omega arith) in
                    omega (arith, ap (λ (s : PathStep). s.at) stop_is, ap (λ (s : PathStep). length (items (store.nodes s.node))) stop_is, on.below j (omega arith));
              };
              leads = found.0;
              front = found.1;
              place = subst (λ n. IsPlace cmp key (items (store.nodes n)) (stop_at (set path level stop) (store.shape.depth - 1)).at) (sym leaf_node)
                  (subst (λ (s : PathStep). IsPlace cmp key (items (store.nodes node)) s.at) (sym leaf_stop) place);
            }

-- no step yet
pub on_root : (cmp : List ℕ → List ℕ → Ordering) → IsTotalOrder cmp → (key : List ℕ) (store : Store) (path : List PathStep) (leads : LeadsTo cmp key store 0 store.shape.root) → length leads.front ≡ 0
    → IsOnWay cmp key store path 0 store.shape.root
on_root cmp total key store path leads front = record {
  inside = λ j low. absurd (omega arith);
  is = λ j low. absurd (omega arith);
  below = λ j low. absurd (omega arith);
  leads = leads;
  front = front;
}

-- a node on the way without records is the root
module _ (is_key : List ℕ → Type 0) (cmp : List ℕ → List ℕ → Ordering) (total : IsTotalOrder cmp)
    (key_length : (a : List ℕ) → is_key a → length a ≡ big_at 2 a 0 + 2)
    (store : Store) (levels : HasLevels is_key store) (ordered : IsOrdered cmp store) (key : List ℕ) (path : List PathStep) (level node : ℕ)
    (on : IsOnWay cmp key store path level node) (low : level < store.shape.depth)
  where
    pub bare_root : length (items (store.nodes node)) ≡ 0 → length (items (store.nodes store.shape.root)) ≡ 0
    bare_root none =
        let place = node_place is_key cmp total key_length store levels ordered key level node on.leads in
        elim (cases_lt 0 level) [
          | inl some ↦
              let up : level - 1 + 1 ≡ level = omega arith in
              let here : length on.leads.front < length (level_of store level) = node_in_level is_key cmp total key_length store levels ordered key level node on.leads in
              let any : 0 < length (items (store.nodes (get_or (level_of store level) (length on.leads.front) 0))) =
              subst (λ i. 0 < length (items (store.nodes (get_or (level_of store i) (length on.leads.front) 0)))) up
              (levels.some (level - 1) (length on.leads.front) (omega arith) (subst (λ i. length on.leads.front < length (level_of store i)) (sym up) here)) in
              absurd (omega (arith, any, ap (λ n. length (items (store.nodes n))) place))
          | inr top ↦
              let first : level ≡ 0 = omega arith in
              let front : length on.leads.front ≡ 0 = on.front ∙ ap (λ i. way_place store path i) first in
              let is : store.shape.root ≡ node =
              sym (ap (λ i. get_or (level_of store i) (length on.leads.front) 0) first ∙ ap (λ k. get_or (store.shape.root ∷ []) k 0) front) ∙ place in
              ap (λ n. length (items (store.nodes n))) is ∙ none
        ]
