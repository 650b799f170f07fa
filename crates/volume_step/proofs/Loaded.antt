-- What a command puts is within its load.
use Rattle.std.proofs.Common.{◌≡◌, ◌≤◌, ℕ, ◌+◌, Bool, true, false, List, [], ◌∷◌, refl, sym, ◌∙◌, ap, subst, arith, ◌<◌}
use Rattle.volume_step.specs.Tidying.{TakesStepLoad}
use Rattle.volume_space.specs.declared.ahead.WhichTree.TheVariants as which
use Rattle.volume_space.specs.declared.ahead.WhichTree.{WhichTree}
use Rattle.sector_disk.specs.Lists.{Content}
use Rattle.std.specs.Prelude.{◌||◌, IsTrue, Option, None, Some, if◌then◌else◌}
use Rattle.sector_disk.specs.Space.{Space}
use Rattle.hfs_language.specs.declared.command.Command.{Command}
use Rattle.hfs_language.specs.declared.command.Command.TheVariants as command
use Rattle.hfs_language.specs.declared.refusal.Refusal.{Refusal}
use Rattle.hfs_language.specs.declared.refusal.Refusal.TheVariants as refusal
use Rattle.hfs_model.specs.Step.{only_reads}
use Rattle.hfs_model.specs.declared.plain.PlainTree.{PlainTree}
use Rattle.hfs_volume.specs.Content.{VolumeState, volume_of}
use Rattle.hfs_volume.specs.Cost.{cost_of, cost_or, load_of, load_refusal, node_sectors, plan_of, tree_at}
use Rattle.hfs_volume.specs.TreeOf.{tree_of}
use Rattle.hfs_volume.specs.Weight.{Data, changes_nothing, cut_cost, cut_load, data_of, edits, edits_of, free_blocks, lacks_tree, needs_cut, needs_for, room_with, values_of, weight, weight_with, with_values}
use Rattle.hfs_volume.specs.declared.cost.Cost.{Cost}
use Rattle.hfs_volume.specs.declared.cost.Cost.TheVariants as cost
use Rattle.hfs_volume.specs.declared.cost.Needs.{Needs}
use Rattle.hfs_volume.specs.declared.cost.Room.{Room}
use Rattle.volume_base.specs.Changing.{catalog_node}
use Rattle.volume_base.specs.Fitting.{needs_of, takable_in, takable_of}
use Rattle.volume_base.specs.Looking.{ReadsVolume}
use Rattle.volume_base.specs.Room.{capacity_of}
use Rattle.volume_base.specs.Standing.{IsSettled}
use Rattle.volume_base.specs.declared.volume.Volume.{Volume}
use Rattle.volume_space.specs.CuttingAhead.{TakesCutLoad}
use Rattle.volume_weights.specs.DataWeighing.{WaitsForCut}
use Rattle.volume_runs.specs.Rest.{cut_puts}
use Rattle.volume_step.specs.Anew.{FitsAlike}
use Rattle.volume_step.specs.Loads.{IsWithinLoad}
use Rattle.volume_step.specs.Steps.{Affords, LacksCutRoom, WaitsForGrowth, takes_none}
use Rattle.volume_step.proofs.Idle.{alone_none, cut_works, idle_load}
use Rattle.volume_step.proofs.Ready.{catalog_node as catalog_is, edits_load, load_low, needs_now, of_cost, same_values}

-- ---- one load, whichever blocks count as free

load_same : (needs : Needs) (capacity : ℕ) (one other : List Bool) (volume : VolumeState)
    → load_of needs (room_with capacity one volume) (plan_of needs (room_with capacity one volume)) ≡ load_of needs (room_with capacity other volume) (plan_of needs (room_with capacity other volume))
unfolding load_of room_with
load_same needs capacity one other volume = refl

-- what a command weighs that puts no data
same_load : (capacity : ℕ) (one other : List Bool) (volume : VolumeState) (tree : PlainTree) (asked : Command) → data_of tree asked ≡ None → takes_none (values_of volume tree asked) ≡ true → (n m : ℕ) (grow more : List ℕ)
    → weight_with capacity one volume tree asked ≡ cost.Load n grow → weight_with capacity other volume tree asked ≡ cost.Load m more → n ≡ m
same_load capacity one other volume tree asked no_data none_taken n m grow more is also = by (only_reads asked || changes_nothing tree asked) refl
  where
    by : (b : Bool) → (only_reads asked || changes_nothing tree asked) ≡ b → n ≡ m
    by true idle = (idle_load capacity one volume tree asked idle n grow is).0 ∙ sym (idle_load capacity other volume tree asked idle m more also).0
    by false works =
        (of_cost (needs_now one volume tree asked) (room_with capacity one volume) n grow (edits_load capacity one volume tree asked works no_data n grow is)).0
        ∙ ap (λ (k : Needs). load_of k (room_with capacity one volume) (plan_of k (room_with capacity one volume))) (same_values one other (values_of volume tree asked) (needs_of (edits_of tree asked)) none_taken)
        ∙ load_same (needs_now other volume tree asked) capacity one other volume
        ∙ sym (of_cost (needs_now other volume tree asked) (room_with capacity other volume) m more (edits_load capacity other volume tree asked works no_data m more also)).0

-- ---- a command that puts no data

pub within_now : (asked : Command) (v : Volume) (a c : Space) → only_reads asked ≡ false → data_of (tree_of a.content) asked ≡ None → takes_none (values_of (volume_of a.content) (tree_of a.content) asked) ≡ true → Affords (capacity_of v) asked a.content
    → ((n : ℕ) (grow : List ℕ) → weight (capacity_of v) (volume_of a.content) (tree_of a.content) asked ≡ cost.Load n grow → a.spare ≤ c.spare + n) → IsWithinLoad asked v a c
within_now asked v a c unread no_data none_taken affords loads load grow is = omega (
  arith,
  loads affords.load (0 ∷ 0 ∷ 0 ∷ []) affords.affords,
  same_load (capacity_of v) (takable_of v) (free_blocks (volume_of a.content)) (volume_of a.content) (tree_of a.content) asked no_data none_taken load affords.load grow (0 ∷ 0 ∷ 0 ∷ []) is affords.affords,
)

-- behind reads
pub within_behind : (asked : Command) (v w : Volume) (a b c : Space) → ReadsVolume v w a b → IsTrue a.tells → IsWithinLoad asked w b c → IsWithinLoad asked v a c
within_behind asked v w a b c reads tells within load grow is = omega (
  arith,
  reads.looks.spare,
  within load grow ((λ i. weight_with (reads.keeps.capacity i) (takable_in (reads.keeps.map i)) (volume_of (reads.looks.content tells i)) (tree_of (reads.looks.content tells i)) asked) ∙ is),
)

pub within : (asked : Command) (v w : Volume) (a b c : Space) → ReadsVolume v w a b → IsTrue a.tells → only_reads asked ≡ false → data_of (tree_of a.content) asked ≡ None → takes_none (values_of (volume_of a.content) (tree_of a.content) asked) ≡ true → Affords (capacity_of v) asked a.content
    → ((n : ℕ) (grow : List ℕ) → weight (capacity_of w) (volume_of b.content) (tree_of b.content) asked ≡ cost.Load n grow → b.spare ≤ c.spare + n) → IsWithinLoad asked v a c
within asked v w a b c reads tells unread no_data none_taken affords loads = within_now asked v a c unread no_data none_taken affords (λ n grow is. omega (
  arith,
  reads.looks.spare,
  loads n grow ((λ i. weight (reads.keeps.capacity i) (volume_of (reads.looks.content tells i)) (tree_of (reads.looks.content tells i)) asked) ∙ is),
))

-- reads put nothing
pub within_reads : (asked : Command) (v w : Volume) (a b : Space) → ReadsVolume v w a b → IsWithinLoad asked v a b
within_reads asked v w a b reads load grow is = omega (arith, reads.looks.spare)

pub within_none : (asked : Command) (v : Volume) (a b : Space) → a.spare ≤ b.spare → IsWithinLoad asked v a b
within_none asked v a b less load grow is = omega (arith, less)

-- ---- a node of the catalog

abbrev number_in : ℕ → Cost → ℕ
number_in other (cost.Load n grow) = n
number_in other (cost.Refused why) = other

pub cut_load_is : (room : Room) (n : ℕ) (grow : List ℕ) → cut_cost room ≡ cost.Load n grow → cut_load room ≡ n
cut_load_is room n grow is = by (load_refusal (cut_load room) room.capacity) is
  where
    by : (why : Option Refusal) → cost_or why (cut_load room) (0 ∷ 0 ∷ 0 ∷ []) ≡ cost.Load n grow → cut_load room ≡ n
    by None same = ap (number_in n) same
    by (Some why) same = absurd (cc same)

cut_low : (room : Room) (n : ℕ) (grow : List ℕ) → cut_cost room ≡ cost.Load n grow → node_sectors (tree_at room 1) ≤ n
cut_low room n grow is = omega (arith, cut_load_is room n grow is)

put_low : (free : List Bool) (volume : VolumeState) (room : Room) (n : ℕ) (grow : List ℕ) (put : Option Data) (cut : Bool) → (if cut then cut_cost room else cost_of (needs_for free volume (edits 0 0 0 1) put) room) ≡ cost.Load n grow
    → node_sectors (tree_at room 1) ≤ n
put_low free volume room n grow put true is = cut_low room n grow is
put_low free volume room n grow None false is = omega (arith, load_low (needs_for free volume (edits 0 0 0 1) None) room n grow is)
put_low free volume room n grow (Some put) false is = omega (arith, load_low (needs_for free volume (edits 0 0 0 1) (Some put)) room n grow is)

-- every load of `trunc` counts it
trunc_low : (capacity : ℕ) (free : List Bool) (volume : VolumeState) (tree : PlainTree) (path : List (List ℕ)) (size n : ℕ) (grow : List ℕ) → weight_with capacity free volume tree (command.Trunc path size) ≡ cost.Load n grow
    → node_sectors (tree_at (room_with capacity free volume) 1) ≤ n
unfolding weight_with
trunc_low capacity free volume tree path size n grow is = put_low free volume (room_with capacity free volume) n grow (data_of tree (command.Trunc path size)) (needs_cut volume (data_of tree (command.Trunc path size))) is

pub trunc_within : (v : Volume) (a b : Space) (path : List (List ℕ)) (size : ℕ) → IsSettled v a.content → a.spare ≤ b.spare + catalog_node v → IsWithinLoad (command.Trunc path size) v a b
trunc_within v a b path size settled spent load grow is = omega (
  arith,
  spent,
  trunc_low (capacity_of v) (takable_of v) (volume_of a.content) (tree_of a.content) path size load grow is,
  catalog_is (capacity_of v) (takable_of v) v a.content settled,
)

-- ---- a cut that goes first

pub cut_weighs : (capacity : ℕ) (free : List Bool) (volume : VolumeState) (tree : PlainTree) (asked : Command) → only_reads asked ≡ false → needs_cut volume (data_of tree asked) ≡ true → weight_with capacity free volume tree asked ≡ cut_cost (room_with capacity free volume)
unfolding weight_with
cut_weighs capacity free volume tree asked changes cuts =
    λ i. if cut_works volume tree asked cuts i then cost.Load 0 (0 ∷ 0 ∷ 0 ∷ [])
    else if cuts i then cut_cost (room_with capacity free volume)
    else if lacks_tree volume asked then cost.Refused refusal.NoTree
    else cost_of (with_values free (values_of volume tree asked) (needs_for free volume (edits_of tree asked) (data_of tree asked))) (room_with capacity free volume)

-- it puts no more than the command's load
pub cut_loads : (asked : Command) (v : Volume) (a b : Space) → only_reads asked ≡ false → WaitsForCut a.content asked → TakesCutLoad (capacity_of v) (volume_of a.content) a.spare b.spare → IsWithinLoad asked v a b
cut_loads asked v a b changes waits takes load grow is = takes (takable_of v) load grow (sym (cut_weighs (capacity_of v) (takable_of v) (volume_of a.content) (tree_of a.content) asked changes waits.1) ∙ is)

pub cut_none : (why : Option Refusal) (counted n : ℕ) (grow : List ℕ) → cost_or why counted (0 ∷ 0 ∷ 0 ∷ []) ≡ cost.Load n grow → grow ≡ 0 ∷ 0 ∷ 0 ∷ []
cut_none None counted n grow is = sym (ap (grown_in grow) is)
  where
    grown_in : List ℕ → Cost → List ℕ
    grown_in other (cost.Load load grow) = grow
    grown_in other (cost.Refused why) = other
cut_none (Some why) counted n grow is = absurd (let no : cost.Refused why ≡ cost.Load n grow = is in cc no)

-- what a cut puts at most is a part of its load
cut_room : (room : Room) (n : ℕ) (grow : List ℕ) → cut_cost room ≡ cost.Load n grow → cut_puts room ≤ n
cut_room room n grow is = omega (arith, cut_load_is room n grow is)

-- where such a load may be put there is room for the cut
pub fits_cut : (asked : Command) (v : Volume) (a : Space) → only_reads asked ≡ false → needs_cut (volume_of a.content) (data_of (tree_of a.content) asked) ≡ true → FitsAlike asked v a → LacksCutRoom v a → ⊥
fits_cut asked v a changes needs it lacks =
    let costs = sym (cut_weighs (capacity_of v) (free_blocks (volume_of a.content)) (volume_of a.content) (tree_of a.content) asked changes needs) ∙ it.affords in
    let room = cut_room (room_with (capacity_of v) (free_blocks (volume_of a.content)) (volume_of a.content)) it.load it.grow costs in
    omega (arith, lacks, room, it.within)

pub lacks_still : (v w : Volume) (a b : Space) → ReadsVolume v w a b → IsTrue a.tells → LacksCutRoom w b → LacksCutRoom v a
lacks_still v w a b reads tells lacks =
    subst (λ (k : ℕ × ℕ × Content). k.0 < cut_puts (room_with k.1 (free_blocks (volume_of k.2)) (volume_of k.2))) {x = (b.spare, capacity_of w, b.content)} {y = (a.spare, capacity_of v, a.content)} (λ i. (reads.looks.spare i, reads.keeps.capacity i, reads.looks.content tells i)) lacks

pub uncut : (b : Bool) → (b ≡ true → ⊥) → b ≡ false
uncut true never = absurd (never refl)
uncut false never = refl

-- a command ahead of which a cut goes waits for no growth
pub cut_no_growth : (tree : WhichTree) (more capacity : ℕ) (asked : Command) (content : Content) → only_reads asked ≡ false → needs_cut (volume_of content) (data_of (tree_of content) asked) ≡ true → WaitsForGrowth tree more capacity asked content → ⊥
cut_no_growth tree more capacity asked content changes needs waits = alone_none tree more waits.grow none waits.some waits.first
  where
    room : Room
    room = room_with capacity (free_blocks (volume_of content)) (volume_of content)

    none : waits.grow ≡ 0 ∷ 0 ∷ 0 ∷ []
    none = cut_none (load_refusal (cut_load room) room.capacity) (cut_load room) waits.load waits.grow (sym (cut_weighs capacity (free_blocks (volume_of content)) (volume_of content) (tree_of content) asked changes needs) ∙ waits.weighs)

-- ---- a step of reclaiming

-- behind reads
pub step_behind : (before between : Content) → between ≡ before → (capacity first : ℕ) → first ≡ capacity → (shrunk file : Option ℕ) → file ≡ shrunk → (spare left : ℕ) → left ≡ spare → (after : ℕ)
    → TakesStepLoad first file between left after → TakesStepLoad capacity shrunk before spare after
step_behind before between same capacity first one shrunk file two spare left three after was =
    subst (λ (k : Content × ℕ × Option ℕ × ℕ). TakesStepLoad k.1 k.2 k.0 k.3 after) {x = (between, first, file, left)} {y = (before, capacity, shrunk, spare)} (λ i. (same i, one i, two i, three i)) was
