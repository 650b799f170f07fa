-- Why the next step of reclaiming isn't made: what its cost says.
use Rattle.std.proofs.Common.{◌≡◌, ℕ, Bool, true, false, List, [], ◌∷◌, inl, inr, refl, sym, ◌∙◌, ap}
use Rattle.std.specs.Prelude.{◌&&◌, Option, None, Some, if◌then◌else◌}
use Rattle.std.proofs.lemmas.Bool.{true≢false}
use Rattle.sector_disk.specs.Lists.{Content}
use Rattle.hfs_volume.specs.Content.{VolumeState, records_of, volume_of}
use Rattle.hfs_language.specs.declared.refusal.Refusal.{Refusal}
use Rattle.hfs_volume.specs.Cost.{cost_of, cost_or, load_refusal}
use Rattle.hfs_volume.specs.Links.{orphans_of}
use Rattle.hfs_volume.specs.Reclaim.{DropAttribute, DropOrphan, Reclaim, has_surplus_left, least, next_reclaim, orphan_steps, reclaim_cost, reclaim_cost_with, shrunk_step}
use Rattle.hfs_volume.specs.Weight.{cut_cost, cut_load, free_blocks, room_with, value_change}
use Rattle.hfs_volume.specs.declared.cost.Cost.{Cost}
use Rattle.hfs_volume.specs.declared.cost.Cost.TheVariants as cost
use Rattle.volume_runs.specs.Rest.{IsAtRest, IsHeldUp, cut_puts}
use Rattle.volume_space.specs.Cutting.{RefusesCut}
use Rattle.volume_space.specs.Orphans.{bare_edits, drop_edits, grows_none, is_refused}
use Rattle.volume_base.specs.Room.{capacity_of, free_in, room_on}
use Rattle.volume_base.specs.Standing.{IsSettled}
use Rattle.volume_base.specs.Weighing.{needs_asked, needs_valued}
use Rattle.hfs_volume.specs.declared.cost.ValueChange.{ValueChange}
use Rattle.volume_space.proofs.BareCost.{bare_cost_is}
use Rattle.volume_base.specs.declared.room.FreeBlocks.TheVariants as blocks
use Rattle.volume_base.specs.declared.volume.Volume.{Volume}
use Rattle.volume_base.specs.declared.weighing.Edits.{Edits}
use Rattle.volume_space.proofs.Affording.{cut_cost_is}
use Rattle.volume_base.proofs.RoomKept.{free_content}

-- ---- by its cost

held_cost : (capacity : ℕ) (volume : VolumeState) (step : Reclaim) (found : Cost) → is_refused found ≡ true → reclaim_cost capacity volume step ≡ found → IsHeldUp capacity volume step
held_cost capacity volume step (cost.Refused why) refused is = (why, is)
held_cost capacity volume step (cost.Load load grow) refused is = absurd (true≢false (sym refused))

-- a cut grows no tree
cut_refused : (why : Option Refusal) (load : ℕ) (found : Cost) → found ≡ cost_or why load (0 ∷ 0 ∷ 0 ∷ []) → grows_none found ≡ false → is_refused found ≡ true
cut_refused None load found is some = absurd (true≢false (sym (ap grows_none is) ∙ some))
cut_refused (Some why) load found is some = ap is_refused is

module _ (v : Volume) (content : Content) (settled : IsSettled v content) where
  by_edits : (edits : Edits) (found : Cost) → found ≡ cost_of (needs_asked edits) (room_with (capacity_of v) (free_in blocks.All v.map) (volume_of content))
      → cost_of (needs_asked edits) (room_with (capacity_of v) (free_blocks (volume_of content)) (volume_of content)) ≡ found
  by_edits edits found is = ap (λ (f : List Bool). cost_of (needs_asked edits) (room_with (capacity_of v) f (volume_of content))) (sym (free_content v content settled)) ∙ sym is

  pub held_drop : (found : Cost) → found ≡ cost_of (needs_asked drop_edits) (room_with (capacity_of v) (free_in blocks.All v.map) (volume_of content)) → is_refused found ≡ true → (id : ℕ) → IsHeldUp (capacity_of v) (volume_of content) (DropOrphan id)
  unfolding reclaim_cost_with
  held_drop found is some id = held_cost (capacity_of v) (volume_of content) (DropOrphan id) found some (by_edits drop_edits found is)

  pub held_bare : (change : ValueChange) (found : Cost) → found ≡ cost_of (needs_valued (free_in blocks.All v.map) bare_edits change) (room_with (capacity_of v) (free_in blocks.All v.map) (volume_of content)) → is_refused found ≡ true
      → (id : ℕ) (name : List ℕ) → change ≡ value_change (volume_of content) id name 0 → IsHeldUp (capacity_of v) (volume_of content) (DropAttribute id name)
  held_bare change found is some id name same = held_cost (capacity_of v) (volume_of content) (DropAttribute id name) found some (bare_cost_is v content settled change found is id name same)

  pub refuses_cut : (found : Cost) → found ≡ cut_cost (room_on blocks.All v) → grows_none found ≡ false → RefusesCut (capacity_of v) (volume_of content)
  refuses_cut found is some =
      why_of found (cut_refused (load_refusal (cut_load (room_on blocks.All v)) (room_on blocks.All v).capacity) (cut_load (room_on blocks.All v)) found is some) (sym (cut_cost_is v content settled) ∙ sym is)
    where
      why_of : (found : Cost) → is_refused found ≡ true → cut_cost (room_with (capacity_of v) (free_blocks (volume_of content)) (volume_of content)) ≡ found → RefusesCut (capacity_of v) (volume_of content)
      why_of (cost.Refused why) refused is = (why, is)
      why_of (cost.Load load grow) refused is = absurd (true≢false (sym refused))

-- ---- by what a cut puts at most

-- what it puts by the room that the volume keeps is what it puts by that of the content
pub cut_puts_is : (v : Volume) (content : Content) → IsSettled v content → cut_puts (room_on blocks.All v) ≡ cut_puts (room_with (capacity_of v) (free_blocks (volume_of content)) (volume_of content))
unfolding room_with
cut_puts_is v content settled = sym (λ i. cut_puts (room_with (capacity_of v) (free_blocks (volume_of content)) (settled.lists i)))

-- ---- the next step

-- there is none
pub rests_none : (capacity : ℕ) (shrunk : Option ℕ) (volume : VolumeState) → has_surplus_left volume shrunk ≡ false → least (orphans_of (records_of volume)) ≡ None → IsAtRest capacity shrunk volume
unfolding next_reclaim
rests_none capacity shrunk volume kept none = inl (ap (λ b. if b then shrunk_step shrunk else orphan_steps volume (least (orphans_of (records_of volume)))) kept ∙ ap (orphan_steps volume) none)
