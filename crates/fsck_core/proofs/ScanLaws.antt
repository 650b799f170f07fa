-- What a scan says where nothing was found before it.
use Rattle.std.proofs.Common.{◌≡◌, ◌⊎◌, ◌<◌, List, [], length, ◌∙◌, subst, arith, ⊎_elim}
use Rattle.std.specs.Prelude.{Contains, Option, MatchOption, Result, IfOk}
use Rattle.btree_node.specs.Levels.{Pair}
use Rattle.btree_node.specs.Tree.{pairs_of}
use Rattle.btree_node.specs.TreeFile.{TreeFile, store_of}
use Rattle.fsck_list.specs.declared.finding.Finding.{Finding}

-- what stands there now is new
pub only_new : (old new : List Finding) (P : Finding → Type 0) → old ≡ [] → ((f : Finding) → Contains new f → Contains old f ⊎ P f) → (f : Finding) → Contains new f → P f
only_new old new P none each f stands = ⊎_elim
    (λ (before : Contains old f). absurd (let at : Contains [] f = subst (λ (l : List Finding). Contains l f) none before in omega (arith, at.1)))
    (λ (holds : P f). holds)
    (each f stands)

-- where no finding was added, it is a tree, and these are its pairs
pub found_tree : (Is : Type 0) (old new : List Finding) (pairs these : List Pair) → old ≡ [] → length new ≡ 0 → (Is × (new ≡ old)) ⊎ ((pairs ≡ []) × (0 < length new)) → (Is → (pairs ≡ these) × (new ≡ old)) → Is × (pairs ≡ these) × (new ≡ [])
found_tree Is old new pairs these none still found clean = ⊎_elim
    (λ (tree : Is × (new ≡ old)). let both = clean tree.0 in (tree.0, both.0, both.1 ∙ none))
    (λ (wrong : (pairs ≡ []) × (0 < length new)). absurd (omega (arith, still, wrong.1)))
    found

-- what is said of a tree is said of the same tree under another name
pub found_there : {E : Type 0} (result : Result (Option (List Pair)) E) (Is : TreeFile → Type 0) (new : List Finding) (own tree : TreeFile) → own ≡ tree
    → IfOk result (λ o. MatchOption o (0 < length new) (λ pairs. Is own × (pairs ≡ pairs_of (store_of own)) × (new ≡ [])))
    → IfOk result (λ o. MatchOption o (0 < length new) (λ pairs. Is tree × (pairs ≡ pairs_of (store_of tree)) × (new ≡ [])))
found_there result Is new own tree same holds = subst (λ (t : TreeFile). IfOk result (λ o. MatchOption o (0 < length new) (λ pairs. Is t × (pairs ≡ pairs_of (store_of t)) × (new ≡ [])))) same holds
