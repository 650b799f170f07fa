-- The first refusal, and the cost of a plan.
use Rattle.std.proofs.Common.{◌≡◌, ℕ, ◌+◌, Bool, false, List, [], ◌∷◌, length, get_or, refl, sym, ◌∙◌, ap, arith}
use Rattle.std.specs.Prelude.{Option}
use Rattle.hfs_language.specs.declared.refusal.Refusal.{Refusal}
use Rattle.hfs_volume.specs.declared.cost.Cost.{Cost}
use Rattle.hfs_volume.specs.declared.cost.Needs.{Needs}
use Rattle.hfs_volume.specs.declared.cost.Room.{Room}
use Rattle.hfs_volume.specs.Cost.{cost_of, cost_or, first_refusal, where_, resource_refusal, load_of, growth, takes_extent, tree_at}
use Rattle.volume_cost.specs.Sizes.{plan}

pub pass : (b : Bool) (why : Refusal) (rest : List (Option Refusal)) (load : ℕ) (grow : List ℕ) (r : Cost) → b ≡ false → r ≡ cost_or (first_refusal rest) load grow → r ≡ cost_or (first_refusal (where_ b why ∷ rest)) load grow
pass b why rest load grow r is e = e ∙ ap (λ (t : Bool). cost_or (first_refusal (where_ t why ∷ rest)) load grow) (sym is)

pub cost_is : (needs : Needs) (room : Room) (catalog attributes edits extents : ℕ) → catalog ≡ growth room.block 516 (tree_at room 1) (get_or needs.edits 1 0) → attributes ≡ growth room.block 266 (tree_at room 2) (get_or needs.edits 2 0)
    → edits ≡ get_or needs.edits 0 0 + takes_extent (tree_at room 1) catalog + takes_extent (tree_at room 2) attributes → extents ≡ growth room.block 10 (tree_at room 0) edits
    → let p = plan (edits ∷ get_or needs.edits 1 0 ∷ get_or needs.edits 2 0 ∷ []) (extents ∷ catalog ∷ attributes ∷ []) in cost_or (resource_refusal needs room p) (load_of needs room p) (extents ∷ catalog ∷ attributes ∷ []) ≡ cost_of needs room
unfolding cost_of
cost_is needs room catalog attributes edits extents catalog_is attributes_is edits_is extents_is =
    let F : ℕ → ℕ → ℕ → ℕ → Cost = λ c a e x. let p = plan (e ∷ get_or needs.edits 1 0 ∷ get_or needs.edits 2 0 ∷ []) (x ∷ c ∷ a ∷ []) in cost_or (resource_refusal needs room p) (load_of needs room p) (x ∷ c ∷ a ∷ []) in
    let all : edits ≡ get_or needs.edits 0 0 + takes_extent (tree_at room 1) (growth room.block 516 (tree_at room 1) (get_or needs.edits 1 0)) + takes_extent (tree_at room 2) (growth room.block 266 (tree_at room 2) (get_or needs.edits 2 0)) =
    edits_is ∙ (λ i. get_or needs.edits 0 0 + takes_extent (tree_at room 1) (catalog_is i) + takes_extent (tree_at room 2) (attributes_is i)) in
    λ i. F (catalog_is i) (attributes_is i) (all i) ((extents_is ∙ ap (λ e. growth room.block 10 (tree_at room 0) e) all) i)

-- a list of three
pub list_of_three : (l : List ℕ) → length l ≡ 3 → get_or l 0 0 ∷ get_or l 1 0 ∷ get_or l 2 0 ∷ [] ≡ l
list_of_three (a ∷ b ∷ c ∷ []) is = refl
list_of_three [] is = absurd (omega (arith, is))
list_of_three (a ∷ []) is = absurd (omega (arith, is))
list_of_three (a ∷ b ∷ []) is = absurd (omega (arith, is))
list_of_three (a ∷ b ∷ c ∷ d ∷ l) is = absurd (omega (arith, is))
