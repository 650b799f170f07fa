-- A command that reads, or moves a file onto itself, weighs nothing; one that puts data, or ahead of which a cut or a growth goes, isn't such.
use Rattle.std.proofs.Common.{◌≡◌, ◌<◌, ℕ, Bool, true, false, List, [], ◌∷◌, refl, sym, ◌∙◌, ap, arith}
use Rattle.std.specs.Prelude.{◌||◌, slice_index, Option, None, Some, if◌then◌else◌}
use Rattle.std.proofs.lemmas.Bool.{true≢false}
use Rattle.hfs_language.specs.declared.command.Command.{Command}
use Rattle.hfs_language.specs.declared.command.Command.TheVariants as command
use Rattle.hfs_language.specs.declared.refusal.Refusal.TheVariants as refusal
use Rattle.hfs_model.specs.Step.{only_reads}
use Rattle.hfs_model.specs.declared.plain.PlainTree.{PlainTree}
use Rattle.hfs_volume.specs.Content.{VolumeState}
use Rattle.hfs_volume.specs.Cost.{cost_of}
use Rattle.hfs_volume.specs.Reclaim.{first_growth}
use Rattle.hfs_volume.specs.Weight.{Data, changes_nothing, cut_cost, data_of, edits, edits_of, lacks_tree, needs_cut, needs_for, room_with, values_of, weight_with, with_values}
use Rattle.hfs_volume.specs.declared.cost.Cost.{Cost}
use Rattle.hfs_volume.specs.declared.cost.Cost.TheVariants as cost
use Rattle.volume_space.specs.Growing.{alone}
use Rattle.volume_space.specs.declared.ahead.WhichTree.{WhichTree}
use Rattle.volume_space.specs.declared.ahead.WhichTree.TheVariants as which

-- ---- neither of both

pub works_unread : (tree : PlainTree) (asked : Command) → (only_reads asked || changes_nothing tree asked) ≡ false → only_reads asked ≡ false
works_unread tree asked works = by (only_reads asked) works
  where
    by : (b : Bool) → (b || changes_nothing tree asked) ≡ false → b ≡ false
    by true none = absurd (true≢false none)
    by false none = refl

pub both_work : (tree : PlainTree) (asked : Command) → only_reads asked ≡ false → changes_nothing tree asked ≡ false → (only_reads asked || changes_nothing tree asked) ≡ false
both_work tree asked unread moves = λ i. unread i || moves i

-- a command that changes nothing is idle
pub still_idle : (tree : PlainTree) (asked : Command) → changes_nothing tree asked ≡ true → (only_reads asked || changes_nothing tree asked) ≡ true
still_idle tree asked still = by (only_reads asked)
  where
    by : (b : Bool) → (b || changes_nothing tree asked) ≡ true
    by true = refl
    by false = still

-- ---- what it weighs

pub idle_weight : (capacity : ℕ) (free : List Bool) (volume : VolumeState) (tree : PlainTree) (asked : Command) → (only_reads asked || changes_nothing tree asked) ≡ true → weight_with capacity free volume tree asked ≡ cost.Load 0 (0 ∷ 0 ∷ 0 ∷ [])
unfolding weight_with
idle_weight capacity free volume tree asked idle =
    λ i. if idle i then cost.Load 0 (0 ∷ 0 ∷ 0 ∷ [])
    else if needs_cut volume (data_of tree asked) then cut_cost (room_with capacity free volume)
    else if lacks_tree volume asked then cost.Refused refusal.NoTree
    else cost_of (with_values free (values_of volume tree asked) (needs_for free volume (edits_of tree asked) (data_of tree asked))) (room_with capacity free volume)

abbrev load_in : Cost → ℕ
load_in (cost.Refused why) = 0
load_in (cost.Load load grow) = load

abbrev grown_by : Cost → List ℕ
grown_by (cost.Refused why) = []
grown_by (cost.Load load grow) = grow

pub idle_load : (capacity : ℕ) (free : List Bool) (volume : VolumeState) (tree : PlainTree) (asked : Command) → (only_reads asked || changes_nothing tree asked) ≡ true → (n : ℕ) (grow : List ℕ) → weight_with capacity free volume tree asked ≡ cost.Load n grow
    → (n ≡ 0) × (grow ≡ 0 ∷ 0 ∷ 0 ∷ [])
idle_load capacity free volume tree asked idle n grow is =
    let same : cost.Load n grow ≡ cost.Load 0 (0 ∷ 0 ∷ 0 ∷ []) = sym is ∙ idle_weight capacity free volume tree asked idle in
    (ap load_in same, ap grown_by same)

-- ---- what isn't such

-- no tree grows for a load that grows none
pub alone_none : (tree : WhichTree) (more : ℕ) (grow : List ℕ) → grow ≡ 0 ∷ 0 ∷ 0 ∷ [] → 0 < more → first_growth grow ≡ alone tree more → ⊥
alone_none which.Extents more grow none some first = let it : 0 ≡ more = ap (λ (l : List ℕ). slice_index (first_growth l) 0) (sym none) ∙ ap (λ (l : List ℕ). slice_index l 0) first in absurd (omega (arith, it, some))
alone_none which.Catalog more grow none some first = let it : 0 ≡ more = ap (λ (l : List ℕ). slice_index (first_growth l) 1) (sym none) ∙ ap (λ (l : List ℕ). slice_index l 1) first in absurd (omega (arith, it, some))
alone_none which.Attributes more grow none some first = let it : 0 ≡ more = ap (λ (l : List ℕ). slice_index (first_growth l) 2) (sym none) ∙ ap (λ (l : List ℕ). slice_index l 2) first in absurd (omega (arith, it, some))

pub grows_works : (capacity : ℕ) (free : List Bool) (volume : VolumeState) (tree : PlainTree) (asked : Command) (n : ℕ) (grow : List ℕ) → weight_with capacity free volume tree asked ≡ cost.Load n grow
    → (first : WhichTree) (more : ℕ) → 0 < more → first_growth grow ≡ alone first more → (only_reads asked || changes_nothing tree asked) ≡ false
grows_works capacity free volume tree asked n grow is first more some growth = by (only_reads asked || changes_nothing tree asked) refl
  where
    by : (b : Bool) → (only_reads asked || changes_nothing tree asked) ≡ b → b ≡ false
    by true idle = absurd (alone_none first more grow (idle_load capacity free volume tree asked idle n grow is).1 some growth)
    by false works = refl

-- a command that puts data edits no tree
pub data_edits : (tree : PlainTree) (asked : Command) (put : Data) → data_of tree asked ≡ Some put → (edits_of tree asked ≡ edits 0 0 0 1) × ((only_reads asked || changes_nothing tree asked) ≡ false) × ((volume : VolumeState) → lacks_tree volume asked ≡ false)
data_edits tree (command.Write path from value) put is = (refl, refl, λ volume. refl)
data_edits tree (command.Trunc path size) put is = (refl, refl, λ volume. refl)
data_edits tree (command.Mkdir p) put is = absurd (let no : None ≡ Some put = is in cc no)
data_edits tree (command.Create p) put is = absurd (let no : None ≡ Some put = is in cc no)
data_edits tree (command.Rm p) put is = absurd (let no : None ≡ Some put = is in cc no)
data_edits tree (command.Rmdir p) put is = absurd (let no : None ≡ Some put = is in cc no)
data_edits tree (command.Mv p q) put is = absurd (let no : None ≡ Some put = is in cc no)
data_edits tree (command.Ln p q) put is = absurd (let no : None ≡ Some put = is in cc no)
data_edits tree (command.Read p n m) put is = absurd (let no : None ≡ Some put = is in cc no)
data_edits tree (command.Ls p) put is = absurd (let no : None ≡ Some put = is in cc no)
data_edits tree (command.Stat p) put is = absurd (let no : None ≡ Some put = is in cc no)
data_edits tree (command.Chmod p m) put is = absurd (let no : None ≡ Some put = is in cc no)
data_edits tree (command.SetAttr p n v) put is = absurd (let no : None ≡ Some put = is in cc no)
data_edits tree (command.GetAttr p n) put is = absurd (let no : None ≡ Some put = is in cc no)
data_edits tree (command.DelAttr p n) put is = absurd (let no : None ≡ Some put = is in cc no)
data_edits tree (command.LsAttr p) put is = absurd (let no : None ≡ Some put = is in cc no)
data_edits tree (command.At n) put is = absurd (let no : None ≡ Some put = is in cc no)
data_edits tree command.Df put is = absurd (let no : None ≡ Some put = is in cc no)
data_edits tree command.Sync put is = absurd (let no : None ≡ Some put = is in cc no)

-- nor does it change a value
pub data_values : (volume : VolumeState) (tree : PlainTree) (asked : Command) (put : Data) → data_of tree asked ≡ Some put → values_of volume tree asked ≡ None
data_values volume tree (command.Write path from value) put is = refl
data_values volume tree (command.Trunc path size) put is = refl
data_values volume tree (command.Mkdir p) put is = absurd (let no : None ≡ Some put = is in cc no)
data_values volume tree (command.Create p) put is = absurd (let no : None ≡ Some put = is in cc no)
data_values volume tree (command.Rm p) put is = absurd (let no : None ≡ Some put = is in cc no)
data_values volume tree (command.Rmdir p) put is = absurd (let no : None ≡ Some put = is in cc no)
data_values volume tree (command.Mv p q) put is = absurd (let no : None ≡ Some put = is in cc no)
data_values volume tree (command.Ln p q) put is = absurd (let no : None ≡ Some put = is in cc no)
data_values volume tree (command.Read p n m) put is = absurd (let no : None ≡ Some put = is in cc no)
data_values volume tree (command.Ls p) put is = absurd (let no : None ≡ Some put = is in cc no)
data_values volume tree (command.Stat p) put is = absurd (let no : None ≡ Some put = is in cc no)
data_values volume tree (command.Chmod p m) put is = absurd (let no : None ≡ Some put = is in cc no)
data_values volume tree (command.SetAttr p n v) put is = absurd (let no : None ≡ Some put = is in cc no)
data_values volume tree (command.GetAttr p n) put is = absurd (let no : None ≡ Some put = is in cc no)
data_values volume tree (command.DelAttr p n) put is = absurd (let no : None ≡ Some put = is in cc no)
data_values volume tree (command.LsAttr p) put is = absurd (let no : None ≡ Some put = is in cc no)
data_values volume tree (command.At n) put is = absurd (let no : None ≡ Some put = is in cc no)
data_values volume tree command.Df put is = absurd (let no : None ≡ Some put = is in cc no)
data_values volume tree command.Sync put is = absurd (let no : None ≡ Some put = is in cc no)

pub cut_works : (volume : VolumeState) (tree : PlainTree) (asked : Command) → needs_cut volume (data_of tree asked) ≡ true → (only_reads asked || changes_nothing tree asked) ≡ false
cut_works volume tree asked needs = by (data_of tree asked) refl needs
  where
    by : (d : Option Data) → data_of tree asked ≡ d → needs_cut volume d ≡ true → (only_reads asked || changes_nothing tree asked) ≡ false
    by None is none = absurd (true≢false (sym none))
    by (Some put) is _ = (data_edits tree asked put is).1
