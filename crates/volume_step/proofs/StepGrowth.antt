-- The growth of a tree ahead of a step of reclaiming puts no more than the load of the step.
use Rattle.std.proofs.Common.{◌≡◌, ◌⊎◌, ◌<◌, ◌≤◌, ℕ, ◌+◌, Bool, true, false, List, [], length, map, inl, inr, refl, sym, ◌∙◌, ap, arith}
use Rattle.std.specs.Prelude.{slice_index, IsTrue, Option, None, Some, if◌then◌else◌}
use Rattle.std.proofs.lemmas.Bool.{cases_lt}
use Rattle.jnl_format.specs.Recovery.{Content}
use Rattle.sector_disk.specs.Space.{Space}
use Rattle.alloc_bitmap.specs.Map.{free_of, none}
use Rattle.btree_node.specs.Levels.{Pair}
use Rattle.btree_file.specs.Standing.{pairs_in}
use Rattle.btree_file.specs.State.{sectors_of_tree}
use Rattle.hfs_volume.specs.Content.{VolumeState, attributes_of, has_attributes, records_of, volume_of}
use Rattle.hfs_volume.specs.Cost.{attributes_key, cost_of, load_refusal, tree_at}
use Rattle.hfs_volume.specs.Forks.{data_kind, resource_kind}
use Rattle.hfs_volume.specs.Reclaim.{CutOrphan, CutShrunk, DropAttribute, DropOrphan, Reclaim, bare_step, first_attribute, first_growth, has_blocks, has_surplus_left, least, next_reclaim, orphan_steps, reclaim_cost, reclaim_cost_with, shrunk_step}
use Rattle.hfs_volume.specs.Links.{orphans_of}
use Rattle.hfs_volume.specs.Records.{attribute_of}
use Rattle.hfs_volume.specs.Weight.{cut_load, edits, file_blocks, free_blocks, needs_for, room_with, value_change, with_values}
use Rattle.hfs_volume.specs.declared.cost.Cost.{Cost}
use Rattle.hfs_volume.specs.declared.cost.Cost.TheVariants as cost
use Rattle.hfs_volume.specs.declared.cost.Needs.{Needs}
use Rattle.tree_weights.specs.Weights.{GrowsByEnough, LoadSaysEnough}
use Rattle.volume_base.specs.Room.{capacity_of}
use Rattle.volume_base.specs.Service.{IsInService}
use Rattle.volume_base.specs.Standing.{IsSettled, IsStanding, StandsOver}
use Rattle.volume_base.specs.declared.volume.Volume.{Volume}
use Rattle.volume_base.proofs.RoomKept.{free_content}
use Rattle.volume_space.specs.Awaiting.{AwaitsGrowth}
use Rattle.volume_space.specs.Growing.{IsThere, WantsFirst, alone, file_of, growth_room}
use Rattle.volume_space.specs.SpreadGrowth.{growth_room_spread}
use Rattle.volume_space.specs.declared.ahead.WhichTree.{WhichTree}
use Rattle.volume_space.specs.declared.ahead.WhichTree.TheVariants as which
use Rattle.volume_space.specs.declared.awaiting.TreeWanted.{TreeWanted}
use Rattle.volume_space.proofs.FewerEdits.{none_lacks}
use Rattle.volume_space.proofs.GrowthFitted.{wanted_loads}
use Rattle.volume_step.specs.Tidying.{TakesStepLoad}
use Rattle.volume_step.proofs.AnewReady.{free_none}
use Rattle.volume_step.proofs.GrowthThere.{third_first}
use Rattle.volume_step.proofs.Idle.{alone_none}
use Rattle.volume_step.proofs.Loaded.{cut_none}
use Rattle.volume_step.proofs.Ready.{of_cost}

-- ---- a volume without an attributes file

kind_of : Reclaim → ℕ
kind_of (CutShrunk id) = 0
kind_of (CutOrphan id kind) = 1
kind_of (DropAttribute id name) = 2
kind_of (DropOrphan id) = 3

kind_in : Option Reclaim → ℕ
kind_in None = 4
kind_in (Some step) = kind_of step

-- none of its steps drops an attribute
drops_none : (volume : VolumeState) → volume.attribute_pairs ≡ [] → (shrunk : Option ℕ) → kind_in (next_reclaim volume shrunk) ≡ 2 → ⊥
unfolding kind_of kind_in next_reclaim
drops_none volume bare shrunk is = by (has_surplus_left volume shrunk) is
  where
    entry : (id : ℕ) → bare_step id (first_attribute (attributes_of volume) id) ≡ DropOrphan id
    entry id = ap (λ (l : List Pair). bare_step id (first_attribute (map attribute_of l) id)) bare

    kinds : (id : ℕ) (b c : Bool) (step : Reclaim) → step ≡ DropOrphan id → kind_of (if b then CutOrphan id data_kind else if c then CutOrphan id resource_kind else step) ≡ 2 → ⊥
    kinds id true c step drops same = let one : 1 ≡ 2 = same in omega (arith, one)
    kinds id false true step drops same = let one : 1 ≡ 2 = same in omega (arith, one)
    kinds id false false step drops same = let three : kind_of step ≡ 3 = ap kind_of drops in omega (arith, same, three)

    waiting : (first : Option ℕ) → kind_in (orphan_steps volume first) ≡ 2 → ⊥
    waiting None same = let four : 4 ≡ 2 = same in omega (arith, four)
    waiting (Some id) same = kinds id (has_blocks (file_blocks volume id data_kind)) (has_blocks (file_blocks volume id resource_kind)) (bare_step id (first_attribute (attributes_of volume) id)) (entry id) same

    last : (file : Option ℕ) → kind_in (shrunk_step file) ≡ 2 → ⊥
    last None same = let four : 4 ≡ 2 = same in omega (arith, four)
    last (Some id) same = let none : 0 ≡ 2 = same in omega (arith, none)

    by : (b : Bool) → kind_in (if b then shrunk_step shrunk else orphan_steps volume (least (orphans_of (records_of volume)))) ≡ 2 → ⊥
    by true same = last shrunk same
    by false same = waiting (least (orphans_of (records_of volume))) same

-- ---- what a step costs for which a tree grows

-- it makes edits
step_needs : (capacity : ℕ) (volume : VolumeState) (step : Reclaim) (load : ℕ) (grow : List ℕ) → reclaim_cost capacity volume step ≡ cost.Load load grow → (tree : WhichTree) (more : ℕ) → 0 < more → first_growth grow ≡ alone tree more
    → (needs : Needs) × (cost_of needs (room_with capacity (free_blocks volume) volume) ≡ cost.Load load grow)
unfolding reclaim_cost_with
step_needs capacity volume (CutShrunk id) load grow is tree more some first =
    absurd (alone_none tree more grow (cut_none (load_refusal (cut_load (room_with capacity (free_blocks volume) volume)) (room_with capacity (free_blocks volume) volume).capacity) (cut_load (room_with capacity (free_blocks volume) volume)) load grow is) some first)
step_needs capacity volume (CutOrphan id kind) load grow is tree more some first =
    absurd (alone_none tree more grow (cut_none (load_refusal (cut_load (room_with capacity (free_blocks volume) volume)) (room_with capacity (free_blocks volume) volume).capacity) (cut_load (room_with capacity (free_blocks volume) volume)) load grow is) some first)
step_needs capacity volume (DropAttribute id name) load grow is tree more some first = (with_values (free_blocks volume) (Some (value_change volume id name 0)) (needs_for (free_blocks volume) volume (edits 0 0 1 1) None), is)
step_needs capacity volume (DropOrphan id) load grow is tree more some first = (needs_for (free_blocks volume) volume (edits 0 2 0 1) None, is)

-- the attributes file grows for an attribute alone
third_drops : (capacity : ℕ) (volume : VolumeState) (step : Reclaim) (load : ℕ) (grow : List ℕ) → reclaim_cost capacity volume step ≡ cost.Load load grow → (more : ℕ) → 0 < more → first_growth grow ≡ alone which.Attributes more → kind_of step ≡ 2
unfolding reclaim_cost_with kind_of
third_drops capacity volume (CutShrunk id) load grow is more some first =
    absurd (alone_none which.Attributes more grow (cut_none (load_refusal (cut_load (room_with capacity (free_blocks volume) volume)) (room_with capacity (free_blocks volume) volume).capacity) (cut_load (room_with capacity (free_blocks volume) volume)) load grow is) some first)
third_drops capacity volume (CutOrphan id kind) load grow is more some first =
    absurd (alone_none which.Attributes more grow (cut_none (load_refusal (cut_load (room_with capacity (free_blocks volume) volume)) (room_with capacity (free_blocks volume) volume).capacity) (cut_load (room_with capacity (free_blocks volume) volume)) load grow is) some first)
third_drops capacity volume (DropAttribute id name) load grow is more some first = refl
third_drops capacity volume (DropOrphan id) load grow is more some first =
    let third : slice_index grow 2 ≡ 0 =
    ap (λ (l : List ℕ). slice_index l 2) (of_cost (needs_for (free_blocks volume) volume (edits 0 2 0 1) None) (room_with capacity (free_blocks volume) volume) load grow is).1
    ∙ none_lacks (room_with capacity (free_blocks volume) volume).block attributes_key (tree_at (room_with capacity (free_blocks volume) volume) 2) in
    absurd (omega (arith, some, third_first grow more some first, third))

step_there : (v : Volume) (content : Content) → IsSettled v content → (shrunk : Option ℕ) (capacity : ℕ) (step : Reclaim) (load : ℕ) (grow : List ℕ) → next_reclaim (volume_of content) shrunk ≡ Some step → reclaim_cost capacity (volume_of content) step ≡ cost.Load load grow
    → (tree : WhichTree) (more : ℕ) → 0 < more → first_growth grow ≡ alone tree more → IsThere tree v.header
unfolding kind_in
step_there v content settled shrunk capacity step load grow next costs which.Extents more some first = tt
step_there v content settled shrunk capacity step load grow next costs which.Catalog more some first = tt
step_there v content settled shrunk capacity step load grow next costs which.Attributes more some first = by (has_attributes v.header) refl
  where
    by : (b : Bool) → has_attributes v.header ≡ b → has_attributes v.header ≡ true
    by true is = is
    by false without =
        let bare : (volume_of content).attribute_pairs ≡ [] = ap (λ (l : VolumeState). l.attribute_pairs) settled.lists ∙ ap (λ b. if b then pairs_in (sectors_of_tree v.attributes.file) content else []) without in
        absurd (drops_none (volume_of content) bare shrunk (ap kind_in next ∙ third_drops capacity (volume_of content) step load grow costs more some first))

-- ---- the volume, were no block held

module _ (v : Volume) where
  abbrev unheld : Volume
  unheld = record v { map = record v.map { held = none (length v.map.used) } }

  module _ (space : Space) where
    service_unheld : IsInService v space → IsInService unheld space
    service_unheld was = record {
      extents = was.extents;
      catalog = was.catalog;
      attributes = was.attributes;
      fits = was.fits;
      least = was.least;
      most = was.most;
      map_inside = was.map_inside;
      map_long = was.map_long;
      marks = was.marks;
    }

    standing_unheld : IsStanding v space → IsStanding unheld space
    standing_unheld was = record {
      trees = record { extents = was.trees.extents; catalog = was.trees.catalog; compare = was.trees.compare; attributes = was.trees.attributes };
      forks = record {
        extents = was.forks.extents;
        extents_per = was.forks.extents_per;
        catalog = was.forks.catalog;
        catalog_per = was.forks.catalog_per;
        attributes = was.forks.attributes;
        attributes_per = was.forks.attributes_per;
        map = was.forks.map;
        map_per = was.forks.map_per;
      };
      whole = was.whole;
      apart = was.apart;
      blocks = was.blocks;
      closed = was.closed;
      aside = was.aside;
      large = was.large;
      inside = was.inside;
      fit = was.fit;
      live = was.live;
    }

    stands_unheld : StandsOver v space → StandsOver unheld space
    stands_unheld was = record { service = service_unheld was.service; stands = λ tells. standing_unheld (was.stands tells) }

  settled_unheld : (content : Content) → IsSettled v content → IsSettled unheld content
  settled_unheld content was = record { blocks = was.blocks; lists = was.lists; attributes = was.attributes; sound = was.sound; private = was.private }

-- ---- the growth

-- all that the cost counts for a growth is a part of the load, whichever blocks may be taken
growth_counted : (v : Volume) (a : Space) → StandsOver v a → IsTrue a.tells → IsSettled v a.content → LoadSaysEnough → GrowsByEnough → (needs : Needs) (load : ℕ) (grow : List ℕ)
    → cost_of needs (room_with (capacity_of v) (free_blocks (volume_of a.content)) (volume_of a.content)) ≡ cost.Load load grow → load ≤ a.spare → (tree : WhichTree) (more : ℕ) → 0 < more → first_growth grow ≡ alone tree more → IsThere tree v.header
    → (length (file_of tree (unheld v)).fork < 8 × (growth_room tree more (unheld v) ≤ load)) ⊎ (growth_room_spread tree more (unheld v) ≤ load)
growth_counted v a over tells settled says law needs load grow costs within tree more some first there =
    let u = unheld v in
    let takable : free_of u.map ≡ free_blocks (volume_of a.content) = free_none u.map refl ∙ free_content u a.content (settled_unheld v a.content settled) in
    let wants : WantsFirst tree more u a = record {
      needs = needs;
      capacity = capacity_of v;
      load = load;
      grow = grow;
      costs = ap (λ (f : List Bool). cost_of needs (room_with (capacity_of v) f (volume_of a.content))) takable ∙ costs;
      within = within;
      some = some;
      first = first;
      there = there;
      short = inr refl;
    } in
    wanted_loads u a (stands_unheld v a over) tells (settled_unheld v a.content settled) says law tree more wants

growth_spent : (v : Volume) (a c : Space) (tree : WhichTree) (more load : ℕ) → (length (file_of tree (unheld v)).fork < 8 × (growth_room tree more (unheld v) ≤ load)) ⊎ (growth_room_spread tree more (unheld v) ≤ load)
    → (length (file_of tree v).fork < 8 → a.spare ≤ c.spare + growth_room tree more v) → a.spare ≤ c.spare + growth_room_spread tree more v → a.spare ≤ c.spare + load
growth_spent v a c which.Extents more load counted short long = elim counted [
  | inl fits ↦ let room : growth_room which.Extents more v ≤ load = fits.1 in omega (arith, short fits.0, room)
  | inr fits ↦ let room : growth_room_spread which.Extents more v ≤ load = fits in omega (arith, long, room)
]
growth_spent v a c which.Catalog more load counted short long = elim counted [
  | inl fits ↦ let room : growth_room which.Catalog more v ≤ load = fits.1 in omega (arith, short fits.0, room)
  | inr fits ↦ let room : growth_room_spread which.Catalog more v ≤ load = fits in omega (arith, long, room)
]
growth_spent v a c which.Attributes more load counted short long = elim counted [
  | inl fits ↦ let room : growth_room which.Attributes more v ≤ load = fits.1 in omega (arith, short fits.0, room)
  | inr fits ↦ let room : growth_room_spread which.Attributes more v ≤ load = fits in omega (arith, long, room)
]

load_in : ℕ → Cost → ℕ
load_in other (cost.Load load grow) = load
load_in other (cost.Refused why) = other

pub awaited_spent : (v : Volume) (a c : Space) → StandsOver v a → IsTrue a.tells → IsSettled v a.content → LoadSaysEnough → GrowsByEnough → (shrunk : Option ℕ) (wanted : TreeWanted) → AwaitsGrowth (capacity_of v) shrunk a.content wanted
    → (length (file_of wanted.tree v).fork < 8 → a.spare ≤ c.spare + growth_room wanted.tree wanted.more v) → a.spare ≤ c.spare + growth_room_spread wanted.tree wanted.more v → TakesStepLoad (capacity_of v) shrunk a.content a.spare c.spare
unfolding load_in
awaited_spent v a c over tells settled says law shrunk wanted (found, at, awaits) short long step load grow next is =
    let same : Some found ≡ Some step = sym at ∙ next in
    let both : cost.Load awaits.load awaits.grow ≡ cost.Load load grow = sym awaits.affords ∙ ap (reclaim_cost (capacity_of v) (volume_of a.content)) (let it : Some found ≡ Some step = same in cc it) ∙ is in
    let loads : awaits.load ≡ load = ap (load_in 0) both in
    let needs = step_needs (capacity_of v) (volume_of a.content) found awaits.load awaits.grow awaits.affords wanted.tree wanted.more awaits.some awaits.first in
    elim (cases_lt a.spare awaits.load) [
      | inl less ↦ omega (arith, less, loads)
      | inr within ↦
          let there = step_there v a.content settled shrunk (capacity_of v) found awaits.load awaits.grow at awaits.affords wanted.tree wanted.more awaits.some awaits.first in
          let counted = growth_counted v a over tells settled says law needs.0 awaits.load awaits.grow needs.1 within wanted.tree wanted.more awaits.some awaits.first there in
          omega (arith, growth_spent v a c wanted.tree wanted.more awaits.load counted short long, loads)
    ]
