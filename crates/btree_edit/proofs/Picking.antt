-- What the search of the leaf says of the tree.
use Rattle.std.proofs.Common.{◌≡◌, ℕ, ◌+◌, ◌-◌, ◌<◌, List, [], ◌++◌, length, get_or, inl, inr, refl, sym, ◌∙◌, ap, subst, arith}
use Rattle.std.specs.Cmp.{IsTotalOrder}
use Rattle.std.specs.declared.cmp.Ordering.{Ordering}
use Rattle.hx_bytes.specs.Field.{big_at}
use Rattle.btree_node.specs.Node.{items}
use Rattle.btree_node.specs.Levels.{Pair, entries, key_of, value_of}
use Rattle.btree_node.specs.Store.{Store}
use Rattle.btree_node.specs.Tree.{pairs_of, HasLevels, IsOrdered}
use Rattle.btree_edit.specs.Desk.{HasKey, Finds, Picks, HoldsLeaf, KeepsLeaf, StandsIn, IsInTree}
use Rattle.btree_edit.specs.Held.{HeldPair}
use Rattle.btree_edit.specs.Reading.{LeadsTo, HasNoKey, IsPlace}
use Rattle.btree_edit.specs.declared.desk.Desk.{Desk}
use Rattle.btree_edit.specs.declared.finding.Found.{Found}
use Rattle.btree_edit.specs.declared.finding.Found.TheVariants.{At, Absent}
use Rattle.btree_edit.proofs.Pairs.{pair_joined}
use Rattle.btree_edit.proofs.Descent.{leads_keys, leads_absent, leads_pair, leaf_place}

module _ (is_key : List ℕ → Type 0) (cmp : List ℕ → List ℕ → Ordering) (total : IsTotalOrder cmp)
    (key_length : (a : List ℕ) → is_key a → length a ≡ big_at 2 a 0 + 2)
    (store : Store) (levels : HasLevels is_key store) (ordered : IsOrdered cmp store)
    (key : List ℕ) (node : ℕ) (some : 0 < store.shape.depth) (leads : LeadsTo cmp key store (store.shape.depth - 1) node)
    (leaf : List ℕ) (old : HeldPair) (new : Desk) (into : leaf ≡ store.nodes node) (none_key : old.key ≡ []) (none_value : old.value ≡ [])
  where
    pub finds : (found : Found) → Picks is_key cmp key node leaf old new.held found → Finds cmp key store new found
    finds (At at index) (is, place, equal, own, value) =
        let inside : index < length (items (store.nodes node)) = omega (arith, place.within, ap (λ l. length (items l)) into) in
        let pair = leads_pair is_key cmp total key_length store levels ordered key node some leads index inside in
        let item : get_or (items leaf) index [] ≡ get_or (items (store.nodes node)) index [] = ap (λ l. get_or (items l) index []) into in (
          ap (λ l. cmp l key) own ∙ equal,
          (
            pair.0,
            record {
              inside = pair.1;
              key = own ∙ ap key_of item ∙ sym (ap (λ (p : Pair). p.0) pair.2);
              value = value ∙ ap value_of item ∙ sym (ap (λ (p : Pair). p.1) pair.2);
            },
          ),
          ap (λ n. get_or (items (store.nodes n)) index []) is ∙ sym item ∙ pair_joined (get_or (items leaf) index [])
              ∙ ap (λ l. l ++ value_of (get_or (items leaf) index [])) (sym own) ∙ ap (λ l. new.held.key ++ l) (sym value),
        )
    finds Absent (same, reason) = (
      elim reason [
        | inl no_key ↦ absurd (leads_keys is_key cmp total key_length store levels ordered key (store.shape.depth - 1) node leads (omega arith) (subst (λ l. HasNoKey is_key (items l)) into no_key))
        | inr (place, at, unlike) ↦
            leads_absent is_key cmp total key_length store levels ordered key node some leads place (subst (λ l. IsPlace cmp key (items l) place) into at)
            (λ any e. unlike any (ap (λ l. cmp (key_of (get_or (items l) (place - 1) [])) key) into ∙ e))
      ],
      record { key = ap (λ h. h.key) same ∙ none_key; value = ap (λ h. h.value) same ∙ none_value },
    )

    -- where it is, it stands in the leaf
    pub stands : (found : Found) → Picks is_key cmp key node leaf old new.held found → IsInTree store new found
    stands (At at index) (is, place, equal, own, value) =
        let inside : index < length (items (store.nodes node)) = omega (arith, place.within, ap (λ l. length (items l)) into) in
        let pair = leaf_place is_key cmp total key_length store levels ordered key node some leads index inside in
        let item : get_or (items leaf) index [] ≡ get_or (items (store.nodes node)) index [] = ap (λ l. get_or (items l) index []) into in (
          length (entries store.nodes leads.front) + index,
          record {
            inside = pair.0;
            key = own ∙ ap key_of item ∙ sym (ap (λ (p : Pair). p.0) pair.1);
            value = value ∙ ap value_of item ∙ sym (ap (λ (p : Pair). p.1) pair.1);
          },
          subst (λ n. StandsIn store n index (length (entries store.nodes leads.front) + index)) (sym is) (record {
            some = some;
            front = leads.front;
            back = leads.back;
            is = leads.is;
            inside = inside;
            place = refl;
          }),
        )
    stands Absent picked = tt

-- and the leaf is on the desk still
pub keeps_leaf : (is_key : List ℕ → Type 0) (cmp : List ℕ → List ℕ → Ordering) (key : List ℕ) (store : Store) (node : ℕ) (leaf : List ℕ) (old : HeldPair) (new : Desk) → new.node ≡ leaf → HoldsLeaf store leaf node
    → (found : Found) → Picks is_key cmp key node leaf old new.held found → KeepsLeaf store new found
keeps_leaf is_key cmp key store node leaf old new same holds (At at index) picked =
    subst (λ n. HoldsLeaf store new.node n) (sym picked.0) (subst (λ bytes. HoldsLeaf store bytes node) (sym same) holds)
keeps_leaf is_key cmp key store node leaf old new same holds Absent picked = tt

-- where a pair was found, the tree has the key
pub found_key : (cmp : List ℕ → List ℕ → Ordering) (key : List ℕ) (store : Store) (desk : Desk) (node index : ℕ) → Finds cmp key store desk (At node index) → HasKey cmp key (pairs_of store)
found_key cmp key store desk node index found =
    let k = found.1.0 in
    let holds = found.1.1 in
    (k, holds.inside, ap (λ l. cmp l key) (sym holds.key) ∙ found.0)
