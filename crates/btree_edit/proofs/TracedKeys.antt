-- What the way to a leaf says of a key: the record before its place has the key, or no pair of the tree has.
use Rattle.std.proofs.Common.{◌≡◌, ◌≢◌, ℕ, ◌+◌, ◌-◌, ◌<◌, ◌≤◌, List, [], Bool, true, false, not, length, get_or, refl, ap, ◌∙◌, arith}
use Rattle.std.specs.Cmp.{IsTotalOrder}
use Rattle.std.specs.declared.cmp.Ordering.{Ordering}
use Rattle.std.specs.declared.cmp.Ordering.TheVariants.{Equal}
use Rattle.hx_bytes.specs.Field.{big_at}
use Rattle.btree_node.specs.Node.{items}
use Rattle.btree_node.specs.Levels.{Pair, key_of}
use Rattle.btree_node.specs.Store.{Store}
use Rattle.btree_node.specs.Tree.{pairs_of, HasLevels, IsOrdered}
use Rattle.btree_edit.specs.Desk.{HasKey}
use Rattle.btree_edit.specs.Reading.{LeadsTo, IsPlace}
use Rattle.btree_edit.proofs.Descent.{leads_keys, leads_absent, leads_pair}

module _ (is_key : List ℕ → Type 0) (cmp : List ℕ → List ℕ → Ordering) (total : IsTotalOrder cmp)
    (key_length : (a : List ℕ) → is_key a → length a ≡ big_at 2 a 0 + 2)
    (store : Store) (levels : HasLevels is_key store) (ordered : IsOrdered cmp store)
    (key : List ℕ) (node : ℕ) (some : 0 < store.shape.depth) (leads : LeadsTo cmp key store (store.shape.depth - 1) node)
    (place : ℕ)
  where
    pub traced_key : 0 < place → place ≤ length (items (store.nodes node)) → cmp (key_of (get_or (items (store.nodes node)) (place - 1) [])) key ≡ Equal → HasKey cmp key (pairs_of store)
    traced_key any within equal =
        let pair = leads_pair is_key cmp total key_length store levels ordered key node some leads (place - 1) (omega arith) in
        (pair.0, pair.1, ap (λ (p : Pair). cmp p.0 key) pair.2 ∙ equal)

    pub traced_none : IsPlace cmp key (items (store.nodes node)) place
        → (0 < place → place ≤ length (items (store.nodes node)) → is_key (key_of (get_or (items (store.nodes node)) (place - 1) [])) → cmp (key_of (get_or (items (store.nodes node)) (place - 1) [])) key ≢ Equal)
        → HasKey cmp key (pairs_of store) → ⊥
    traced_none at unlike =
        leads_absent is_key cmp total key_length store levels ordered key node some leads place at
        (λ any equal. leads_keys is_key cmp total key_length store levels ordered key (store.shape.depth - 1) node leads (omega arith)
        (place - 1, omega (arith, any, at.within), λ is. unlike any at.within is equal))

pub is_so : (b : Bool) → not b ≡ false → b ≡ true
is_so true e = refl
is_so false e = cc
