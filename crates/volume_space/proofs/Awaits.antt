-- The first of the trees that have to grow for a step of reclaiming.
use Rattle.std.proofs.Common.{◌≡◌, ◌<◌, ℕ, Bool, true, false, List, [], ◌∷◌, refl, sym, ◌∙◌, ap, subst, arith}
use Rattle.std.specs.Prelude.{◌==◌, not, nat_lt, slice_index, IfOk, IfSome, Option, None, Some, Result, Ok, Err, if◌then◌else◌}
use Rattle.std.proofs.lemmas.Bool.{eqb-false, eqb-true, le-ltb, lt-ltb}
use Rattle.hx_bytes.specs.declared.faults.Trouble.{Trouble}
use Rattle.jnl_format.specs.Recovery.{Content}
use Rattle.hfs_volume.specs.Content.{volume_of}
use Rattle.hfs_volume.specs.Cost.{cost_of}
use Rattle.hfs_volume.specs.Reclaim.{DropAttribute, DropOrphan, Reclaim, first_growth, next_reclaim, reclaim_cost, reclaim_cost_with}
use Rattle.hfs_volume.specs.Weight.{free_blocks, room_with, value_change}
use Rattle.hfs_volume.specs.declared.cost.Cost.{Cost}
use Rattle.hfs_volume.specs.declared.cost.Cost.TheVariants as cost
use Rattle.volume_base.specs.Room.{capacity_of, free_in}
use Rattle.volume_base.specs.Standing.{IsSettled}
use Rattle.volume_base.specs.Weighing.{needs_asked, needs_valued}
use Rattle.volume_base.specs.declared.room.FreeBlocks.TheVariants as blocks
use Rattle.volume_base.specs.declared.volume.Volume.{Volume}
use Rattle.volume_base.specs.declared.weighing.Edits.{Edits}
use Rattle.volume_base.proofs.RoomKept.{free_content}
use Rattle.volume_space.specs.Awaiting.{AwaitsGrowth, StepAwaits, first_wanted}
use Rattle.volume_space.specs.Growing.{alone}
use Rattle.hfs_volume.specs.declared.cost.ValueChange.{ValueChange}
use Rattle.volume_space.specs.Orphans.{bare_edits, drop_edits}
use Rattle.volume_space.proofs.BareCost.{bare_cost_is}
use Rattle.volume_space.specs.declared.ahead.WhichTree.TheVariants as which
use Rattle.volume_space.specs.declared.awaiting.TreeWanted.{TreeWanted}

-- ---- a cost

low_first : (n : ℕ) (x y : List ℕ) → (n == 0) ≡ true → (if nat_lt 0 n then x else y) ≡ y
low_first n x y none = ap (λ b. if b then x else y) (le-ltb 0 n (omega (arith, eqb-true n 0 none)))

high_first : (n : ℕ) (x y : List ℕ) → (n == 0) ≡ false → (if nat_lt 0 n then x else y) ≡ x
high_first n x y some = ap (λ b. if b then x else y) (lt-ltb 0 n (let more = eqb-false n 0 some in omega (arith, more)))

module _ (capacity : ℕ) (content : Content) (step : Reclaim) where
  by_load : (load : ℕ) (grow : List ℕ) → reclaim_cost capacity (volume_of content) step ≡ cost.Load load grow → IfSome (first_wanted (cost.Load load grow)) (StepAwaits capacity content step)
  by_load load grow is = first (slice_index grow 0 == 0) refl
    where
      third : (slice_index grow 0 == 0) ≡ true → (slice_index grow 1 == 0) ≡ true → (z : Bool) → (slice_index grow 2 == 0) ≡ z
          → IfSome (if not z then Some (record { tree = which.Attributes; more = slice_index grow 2 }) else None) (StepAwaits capacity content step)
      third a b false z = record {
        load = load;
        grow = grow;
        affords = is;
        some = (let more = eqb-false (slice_index grow 2) 0 z in omega (arith, more));
        first = low_first (slice_index grow 0) _ _ a ∙ low_first (slice_index grow 1) _ _ b;
      }
      third a b true z = tt

      second : (slice_index grow 0 == 0) ≡ true → (y : Bool) → (slice_index grow 1 == 0) ≡ y
          → IfSome (if not y then Some (record { tree = which.Catalog; more = slice_index grow 1 }) else if not (slice_index grow 2 == 0) then Some (record { tree = which.Attributes; more = slice_index grow 2 }) else None) (StepAwaits capacity content step)
      second a false y = record {
        load = load;
        grow = grow;
        affords = is;
        some = (let more = eqb-false (slice_index grow 1) 0 y in omega (arith, more));
        first = low_first (slice_index grow 0) _ _ a ∙ high_first (slice_index grow 1) _ _ y;
      }
      second a true y = third a y (slice_index grow 2 == 0) refl

      first : (x : Bool) → (slice_index grow 0 == 0) ≡ x
          → IfSome (if not x then Some (record { tree = which.Extents; more = slice_index grow 0 }) else if not (slice_index grow 1 == 0) then Some (record { tree = which.Catalog; more = slice_index grow 1 }) else if not (slice_index grow 2 == 0) then Some (record { tree = which.Attributes; more = slice_index grow 2 }) else None) (StepAwaits capacity content step)
      first false x = record {
        load = load;
        grow = grow;
        affords = is;
        some = (let more = eqb-false (slice_index grow 0) 0 x in omega (arith, more));
        first = high_first (slice_index grow 0) _ _ x;
      }
      first true x = second x (slice_index grow 1 == 0) refl

  by_cost : (found : Cost) → reclaim_cost capacity (volume_of content) step ≡ found → IfSome (first_wanted found) (StepAwaits capacity content step)
  by_cost (cost.Refused why) is = tt
  by_cost (cost.Load load grow) is = by_load load grow is

module _ (v : Volume) (content : Content) (settled : IsSettled v content) where
  cost_is : (edits : Edits) (found : Cost) → found ≡ cost_of (needs_asked edits) (room_with (capacity_of v) (free_in blocks.All v.map) (volume_of content))
      → cost_of (needs_asked edits) (room_with (capacity_of v) (free_blocks (volume_of content)) (volume_of content)) ≡ found
  cost_is edits found is = ap (λ (f : List Bool). cost_of (needs_asked edits) (room_with (capacity_of v) f (volume_of content))) (sym (free_content v content settled)) ∙ sym is

  drop_cost : (found : Cost) → found ≡ cost_of (needs_asked drop_edits) (room_with (capacity_of v) (free_in blocks.All v.map) (volume_of content)) → (id : ℕ) → reclaim_cost (capacity_of v) (volume_of content) (DropOrphan id) ≡ found
  unfolding reclaim_cost_with
  drop_cost found is id = cost_is drop_edits found is

  each : {X : Type 0} (P : X → TreeWanted → Type 0) (o : Option TreeWanted) → ((x : X) → IfSome o (P x)) → IfSome o (λ w. (x : X) → P x w)
  each P None all = tt
  each P (Some w) all = all

  pub drop_awaits : (found : Cost) → found ≡ cost_of (needs_asked drop_edits) (room_with (capacity_of v) (free_in blocks.All v.map) (volume_of content)) → (o : Option TreeWanted) → o ≡ first_wanted found
      → IfSome o (λ wanted. (id : ℕ) → StepAwaits (capacity_of v) content (DropOrphan id) wanted)
  drop_awaits found is o same = each (λ id. StepAwaits (capacity_of v) content (DropOrphan id)) o (λ id. subst (λ (p : Option TreeWanted). IfSome p (StepAwaits (capacity_of v) content (DropOrphan id))) (sym same) (by_cost (capacity_of v) content (DropOrphan id) found (drop_cost found is id)))

  pub bare_awaits : (change : ValueChange) (found : Cost) → found ≡ cost_of (needs_valued (free_in blocks.All v.map) bare_edits change) (room_with (capacity_of v) (free_in blocks.All v.map) (volume_of content)) → (o : Option TreeWanted) → o ≡ first_wanted found
      → IfSome o (λ wanted. (id : ℕ) (name : List ℕ) → change ≡ value_change (volume_of content) id name 0 → StepAwaits (capacity_of v) content (DropAttribute id name) wanted)
  bare_awaits change found is o same = twice o (λ id name its. subst (λ (p : Option TreeWanted). IfSome p (StepAwaits (capacity_of v) content (DropAttribute id name))) (sym same) (by_cost (capacity_of v) content (DropAttribute id name) found (bare_cost_is v content settled change found is id name its)))
    where
      twice : (p : Option TreeWanted) → ((id : ℕ) (name : List ℕ) → change ≡ value_change (volume_of content) id name 0 → IfSome p (StepAwaits (capacity_of v) content (DropAttribute id name)))
          → IfSome p (λ w. (id : ℕ) (name : List ℕ) → change ≡ value_change (volume_of content) id name 0 → StepAwaits (capacity_of v) content (DropAttribute id name) w)
      twice None all = tt
      twice (Some w) all = all

-- ---- the next step

-- it is this one
pub awaited : (capacity : ℕ) (shrunk : Option ℕ) (content : Content) (step : Reclaim) → next_reclaim (volume_of content) shrunk ≡ Some step → (o : Option TreeWanted) → IfSome o (StepAwaits capacity content step) → IfSome o (AwaitsGrowth capacity shrunk content)
awaited capacity shrunk content step next None told = tt
awaited capacity shrunk content step next (Some w) told = (step, next, told)

-- behind reads
pub awaited_behind : (before between : Content) → between ≡ before → (capacity first : ℕ) → first ≡ capacity → (shrunk file : Option ℕ) → file ≡ shrunk → (r : Result (Option TreeWanted) Trouble)
    → IfOk r (λ (found : Option TreeWanted). IfSome found (AwaitsGrowth first file between)) → IfOk r (λ (found : Option TreeWanted). IfSome found (AwaitsGrowth capacity shrunk before))
awaited_behind before between same capacity first one shrunk file two r was =
    subst (λ (k : Content × ℕ × Option ℕ). IfOk r (λ (found : Option TreeWanted). IfSome found (AwaitsGrowth k.1 k.2 k.0))) {x = (between, first, file)} {y = (before, capacity, shrunk)} (λ i. (same i, one i, two i)) was

-- a drop of an attribute, or of an entry, that awaits a growth behind reads
pub value_next : (before between : Content) → between ≡ before → (capacity first : ℕ) → first ≡ capacity → (change : ValueChange) (id : ℕ) (name : List ℕ) → change ≡ value_change (volume_of before) id name 0 → (o : Option TreeWanted)
    → IfSome o (λ w. (i : ℕ) (n : List ℕ) → change ≡ value_change (volume_of between) i n 0 → StepAwaits first between (DropAttribute i n) w) → IfSome o (StepAwaits capacity before (DropAttribute id name))
value_next before between same capacity first one change id name its None told = tt
value_next before between same capacity first one change id name its (Some w) told =
    subst (λ (k : Content × ℕ). StepAwaits k.1 k.0 (DropAttribute id name) w) {x = (between, first)} {y = (before, capacity)} (λ i. (same i, one i)) (told id name (its ∙ ap (λ (k : Content). value_change (volume_of k) id name 0) (sym same)))

pub bare_next : (before between : Content) → between ≡ before → (capacity first : ℕ) → first ≡ capacity → (shrunk : Option ℕ) (id : ℕ) (name : List ℕ) → next_reclaim (volume_of before) shrunk ≡ Some (DropAttribute id name) → (r : Result (Option TreeWanted) Trouble)
    → IfOk r (λ o. IfSome o (StepAwaits first between (DropAttribute id name))) → IfOk r (λ o. IfSome o (AwaitsGrowth capacity shrunk before))
bare_next before between same capacity first one shrunk id name next (Err why) told = tt
bare_next before between same capacity first one shrunk id name next (Ok None) told = tt
bare_next before between same capacity first one shrunk id name next (Ok (Some w)) told =
    (DropAttribute id name, next, subst (λ (k : Content × ℕ). StepAwaits k.1 k.0 (DropAttribute id name) w) {x = (between, first)} {y = (before, capacity)} (λ i. (same i, one i)) told)

pub drop_next : (before between : Content) → between ≡ before → (capacity first : ℕ) → first ≡ capacity → (shrunk : Option ℕ) (id : ℕ) → next_reclaim (volume_of before) shrunk ≡ Some (DropOrphan id) → (o : Option TreeWanted)
    → IfSome o (λ w. (i : ℕ) → StepAwaits first between (DropOrphan i) w) → IfSome o (AwaitsGrowth capacity shrunk before)
drop_next before between same capacity first one shrunk id next None told = tt
drop_next before between same capacity first one shrunk id next (Some w) told =
    (DropOrphan id, next, subst (λ (k : Content × ℕ). StepAwaits k.1 k.0 (DropOrphan id) w) {x = (between, first)} {y = (before, capacity)} (λ i. (same i, one i)) (told id))
