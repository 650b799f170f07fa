-- The values of a tree's pairs over an edit.
use Rattle.std.proofs.Common.{◌+◌, ℕ, List, [], ◌∷◌, ◌++◌, take, drop, get_or}
use Rattle.std.specs.List.{All}
use Rattle.std.specs.declared.cmp.Ordering.{Ordering}
use Rattle.std.proofs.lemmas.List.Elements.{All-append, All-take, All-drop, All-nil, All-cons, All-same}
use Rattle.btree_node.specs.Levels.{Pair, splice}
use Rattle.btree_edit.specs.Sorted.{AddsPair, DropsPair, ChangesPair}

module _ (is_value : List ℕ → Type 0) where
  spliced : (old : List Pair) (from to : ℕ) (others : List Pair) → All (λ (pair : Pair). is_value pair.1) others → All (λ (pair : Pair). is_value pair.1) old → All (λ (pair : Pair). is_value pair.1) (splice old from to others)
  spliced old from to others these had =
      All-append (λ (pair : Pair). is_value pair.1) (take from old) (others ++ drop to old) (All-take (λ (pair : Pair). is_value pair.1) from old had)
      (All-append (λ (pair : Pair). is_value pair.1) others (drop to old) these (All-drop (λ (pair : Pair). is_value pair.1) to old had))

  one : (pair : Pair) → is_value pair.1 → All (λ (p : Pair). is_value p.1) (pair ∷ [])
  one pair is = All-cons (λ (p : Pair). is_value p.1) pair [] is (All-nil (λ (p : Pair). is_value p.1))

  pub values_added : (cmp : List ℕ → List ℕ → Ordering) (key value : List ℕ) (old new : List Pair) → AddsPair cmp key value old new → is_value value → All (λ (pair : Pair). is_value pair.1) old → All (λ (pair : Pair). is_value pair.1) new
  values_added cmp key value old new adds is had = All-same (λ (pair : Pair). is_value pair.1) new _ adds.is (spliced old adds.place adds.place ((key, value) ∷ []) (one (key, value) is) had)

  pub values_dropped : (cmp : List ℕ → List ℕ → Ordering) (key : List ℕ) (old new : List Pair) → DropsPair cmp key old new → All (λ (pair : Pair). is_value pair.1) old → All (λ (pair : Pair). is_value pair.1) new
  values_dropped cmp key old new drops had = All-same (λ (pair : Pair). is_value pair.1) new _ drops.is (spliced old drops.place (drops.place + 1) [] (All-nil (λ (pair : Pair). is_value pair.1)) had)

  pub values_changed : (cmp : List ℕ → List ℕ → Ordering) (key value : List ℕ) (old new : List Pair) → ChangesPair cmp key value old new → is_value value → All (λ (pair : Pair). is_value pair.1) old → All (λ (pair : Pair). is_value pair.1) new
  values_changed cmp key value old new changes is had =
      All-same (λ (pair : Pair). is_value pair.1) new _ changes.is (spliced old changes.place (changes.place + 1) (((get_or old changes.place ([], [])).0, value) ∷ []) (one ((get_or old changes.place ([], [])).0, value) is) had)
