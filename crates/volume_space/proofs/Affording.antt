-- What the drop of an entry costs, and a step that was made behind reads.
use Rattle.std.proofs.Common.{◌≡◌, ℕ, Bool, true, false, List, [], ◌∷◌, inl, inr, refl, sym, ◌∙◌, ap, subst}
use Rattle.std.specs.Prelude.{◌==◌, ◌&&◌, slice_index, IfOk, Option, None, Some, Result}
use Rattle.std.proofs.lemmas.Bool.{and_parts, eqb-true, true≢false}
use Rattle.hx_bytes.specs.declared.faults.Trouble.{Trouble}
use Rattle.sector_disk.specs.Lists.{Content}
use Rattle.hfs_language.specs.declared.refusal.Refusal.{Refusal}
use Rattle.hfs_volume.specs.Content.{volume_of}
use Rattle.hfs_volume.specs.Cost.{cost_of, cost_or, load_of, load_refusal, plan_of, resource_refusal}
use Rattle.hfs_volume.specs.Reclaim.{DropAttribute, DropOrphan, Reclaim, reclaim_cost, reclaim_cost_with}
use Rattle.hfs_volume.specs.Weight.{cut_cost, cut_load, free_blocks, room_with, value_change}
use Rattle.hfs_volume.specs.declared.cost.Cost.{Cost}
use Rattle.hfs_volume.specs.declared.cost.Cost.TheVariants as cost
use Rattle.hfs_volume.specs.declared.cost.Needs.{Needs}
use Rattle.hfs_volume.specs.declared.cost.Room.{Room}
use Rattle.volume_space.specs.Cutting.{AffordsCut}
use Rattle.hfs_volume.specs.declared.cost.ValueChange.{ValueChange}
use Rattle.volume_space.specs.Orphans.{AffordsStep, TidiesAs, bare_edits, drop_edits, grows_none}
use Rattle.volume_space.proofs.BareCost.{bare_cost_is}
use Rattle.volume_base.specs.Room.{capacity_of, free_in, room_on}
use Rattle.volume_base.specs.Standing.{IsSettled}
use Rattle.volume_base.specs.Weighing.{needs_asked, needs_valued}
use Rattle.volume_base.specs.declared.room.FreeBlocks.TheVariants as blocks
use Rattle.volume_space.specs.declared.tidying.Tidying.{Tidying}
use Rattle.volume_base.specs.declared.volume.Volume.{Volume}
use Rattle.volume_base.specs.declared.weighing.Edits.{Edits}
use Rattle.volume_base.proofs.RoomKept.{free_content}

-- ---- three numbers

abbrev grow_in : List ℕ → Cost → List ℕ
grow_in other (cost.Load n grow) = grow
grow_in other (cost.Refused why) = other

abbrev IsThree : List ℕ → Type 0
IsThree grow = grow ≡ slice_index grow 0 ∷ slice_index grow 1 ∷ slice_index grow 2 ∷ []

three_or : (refused : Option Refusal) (load s : ℕ) (a b c : ℕ) (grow : List ℕ) → cost_or refused load (a ∷ b ∷ c ∷ []) ≡ cost.Load s grow → IsThree grow
three_or None load s a b c grow is = subst IsThree (ap (grow_in grow) is) refl
three_or (Some why) load s a b c grow is = absurd (let none : cost.Refused why ≡ cost.Load s grow = is in cc none)

three_of : (needs : Needs) (room : Room) (s : ℕ) (grow : List ℕ) → cost_of needs room ≡ cost.Load s grow → IsThree grow
unfolding cost_of
three_of needs room s grow is = three_or (resource_refusal needs room (plan_of needs room)) (load_of needs room (plan_of needs room)) s _ _ _ grow is

zeros : (grow : List ℕ) → IsThree grow → ((slice_index grow 0 == 0) && ((slice_index grow 1 == 0) && (slice_index grow 2 == 0))) ≡ true → grow ≡ 0 ∷ 0 ∷ 0 ∷ []
zeros grow three none =
    let first = and_parts (slice_index grow 0 == 0) ((slice_index grow 1 == 0) && (slice_index grow 2 == 0)) none in
    let second = and_parts (slice_index grow 1 == 0) (slice_index grow 2 == 0) first.1 in
    three ∙ (λ i. eqb-true (slice_index grow 0) 0 first.0 i ∷ eqb-true (slice_index grow 1) 0 second.0 i ∷ eqb-true (slice_index grow 2) 0 second.1 i ∷ [])

-- ---- the steps

module _ (v : Volume) (content : Content) (settled : IsSettled v content) (edits : Edits) where
  load_by : (found : Cost) → found ≡ cost_of (needs_asked edits) (room_with (capacity_of v) (free_in blocks.All v.map) (volume_of content)) → grows_none found ≡ true
      → (load : ℕ) × (cost_of (needs_asked edits) (room_with (capacity_of v) (free_blocks (volume_of content)) (volume_of content)) ≡ cost.Load load (0 ∷ 0 ∷ 0 ∷ []))
  load_by (cost.Refused why) is none = absurd (true≢false (sym none))
  load_by (cost.Load load grow) is none = (
    load,
    ap (λ (f : List Bool). cost_of (needs_asked edits) (room_with (capacity_of v) f (volume_of content))) (sym (free_content v content settled)) ∙ sym is
        ∙ ap (cost.Load load) (zeros grow (three_of (needs_asked edits) (room_with (capacity_of v) (free_in blocks.All v.map) (volume_of content)) load grow (sym is)) none),
  )

pub affords_by : (v : Volume) (content : Content) → IsSettled v content → (found : Cost) → found ≡ cost_of (needs_asked drop_edits) (room_with (capacity_of v) (free_in blocks.All v.map) (volume_of content)) → grows_none found ≡ true → (id : ℕ) → AffordsStep (capacity_of v) content (DropOrphan id)
unfolding reclaim_cost_with
affords_by v content settled found is none id = let it = load_by v content settled drop_edits found is none in record { load = it.0; affords = it.1 }

pub affords_bare_by : (v : Volume) (content : Content) → IsSettled v content → (change : ValueChange) (found : Cost) → found ≡ cost_of (needs_valued (free_in blocks.All v.map) bare_edits change) (room_with (capacity_of v) (free_in blocks.All v.map) (volume_of content)) → grows_none found ≡ true
    → (id : ℕ) (name : List ℕ) → change ≡ value_change (volume_of content) id name 0 → AffordsStep (capacity_of v) content (DropAttribute id name)
affords_bare_by v content settled change (cost.Refused why) is none id name same = absurd (true≢false (sym none))
affords_bare_by v content settled change (cost.Load load grow) is none id name same = record {
  load = load;
  affords = bare_cost_is v content settled change (cost.Load load grow) is id name same
      ∙ ap (cost.Load load) (zeros grow (three_of (needs_valued (free_in blocks.All v.map) bare_edits change) (room_with (capacity_of v) (free_in blocks.All v.map) (volume_of content)) load grow (sym is)) none);
}

-- ---- cuts

-- what a cut costs by the room that the volume keeps is what it costs by that of the content
pub cut_cost_is : (v : Volume) (content : Content) → IsSettled v content → cut_cost (room_on blocks.All v) ≡ cut_cost (room_with (capacity_of v) (free_blocks (volume_of content)) (volume_of content))
unfolding room_with
cut_cost_is v content settled = sym (λ i. cut_cost (room_with (capacity_of v) (free_blocks (volume_of content)) (settled.lists i)))

cut_load_by : (refused : Option Refusal) (load : ℕ) (found : Cost) → found ≡ cost_or refused load (0 ∷ 0 ∷ 0 ∷ []) → grows_none found ≡ true → cost_or refused load (0 ∷ 0 ∷ 0 ∷ []) ≡ cost.Load load (0 ∷ 0 ∷ 0 ∷ [])
cut_load_by None load found is none = refl
cut_load_by (Some why) load found is none = absurd (true≢false (sym none ∙ ap grows_none is))

pub affords_cut_by : (v : Volume) (content : Content) → IsSettled v content → (found : Cost) → found ≡ cut_cost (room_on blocks.All v) → grows_none found ≡ true → AffordsCut (capacity_of v) (volume_of content)
affords_cut_by v content settled found is none = record {
  load = cut_load (room_with (capacity_of v) (free_blocks (volume_of content)) (volume_of content));
  affords = cut_load_by (load_refusal (cut_load (room_with (capacity_of v) (free_blocks (volume_of content)) (volume_of content))) (room_with (capacity_of v) (free_blocks (volume_of content)) (volume_of content)).capacity)
      (cut_load (room_with (capacity_of v) (free_blocks (volume_of content)) (volume_of content))) found (is ∙ cut_cost_is v content settled) none;
}

-- ---- behind reads

pub tidied_behind : (before between after : Content) → between ≡ before → (capacity first : ℕ) → first ≡ capacity → (shrunk file : Option ℕ) → file ≡ shrunk → (free taken : List Bool) → taken ≡ free → (spare left : ℕ) → left ≡ spare → (r : Result Tidying Trouble)
    → IfOk r (λ (came : Tidying). TidiesAs came first file taken left between after) → IfOk r (λ (came : Tidying). TidiesAs came capacity shrunk free spare before after)
tidied_behind before between after same capacity first one shrunk file two free taken three spare left four r was =
    subst (λ (k : Content × ℕ × Option ℕ × List Bool × ℕ). IfOk r (λ (came : Tidying). TidiesAs came k.1 k.2 k.3 k.4 k.0 after)) {x = (between, first, file, taken, left)} {y = (before, capacity, shrunk, free, spare)} (λ i. (same i, one i, two i, three i, four i)) was
