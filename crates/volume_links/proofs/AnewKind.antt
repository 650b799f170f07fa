-- On a transaction to which nothing was put no commit is wanted before a command on a link or a fork for which nothing is missing.
use Rattle.std.proofs.Common.{◌≡◌, ◌≤◌, ℕ, Bool, true, false, List, [], ◌∷◌, inl, inr, refl, sym, ◌∙◌, ap, arith}
use Rattle.std.specs.Prelude.{nat_lt, slice_index, if◌then◌else◌}
use Rattle.std.proofs.lemmas.Bool.{ltb-false}
use Rattle.sector_disk.specs.Space.{Space}
use Rattle.hfs_language.specs.declared.refusal.Refusal.TheVariants as refusal
use Rattle.hfs_model.specs.declared.kinds.KindEdit.{KindEdit}
use Rattle.hfs_volume.specs.Content.{volume_of}
use Rattle.hfs_volume.specs.Cost.{cost_of, cost_or, where_}
use Rattle.hfs_volume.specs.KindWeight.{fork_of_edit, kind_data_of, kind_edits_of, kind_only_reads, kind_weight_with}
use Rattle.hfs_volume.specs.TreeOf.{tree_of}
use Rattle.hfs_volume.specs.Weight.{cut_cost, cut_load, free_blocks, needs_cut_in, needs_in, room_with}
use Rattle.hfs_volume.specs.declared.cost.Cost.TheVariants as cost
use Rattle.hfs_volume.specs.declared.cost.Room.{Room}
use Rattle.volume_base.specs.Room.{capacity_of}
use Rattle.volume_base.specs.Standing.{IsSettled}
use Rattle.volume_base.specs.declared.volume.Volume.{Volume}
use Rattle.volume_base.proofs.RoomKept.{free_content}
use Rattle.volume_runs.specs.Rest.{cut_puts}
use Rattle.volume_step.specs.Anew.{IsAnew}
use Rattle.volume_step.proofs.AnewReady.{free_none, load_within}
use Rattle.volume_step.proofs.Loaded.{cut_load_is}
use Rattle.volume_links.specs.Wanting.{KindFitsAnew, KindGrowsOtherwise, KindHasManyZeros, KindLacksBlocks, KindLacksRoomForLoad, KindLacksRoomToCut, KindWantsCommit, kind_cost_now}
use Rattle.volume_links.proofs.WeighedNow.{uncut_cost}

-- two loads that are one have one growth
same_nodes : (n m : ℕ) (grow nodes : List ℕ) → cost.Load n grow ≡ cost.Load m nodes → grow ≡ nodes
same_nodes n m grow nodes is = cc is

same_sectors : (n m : ℕ) (grow nodes : List ℕ) → cost.Load n grow ≡ cost.Load m nodes → n ≡ m
same_sectors n m grow nodes is = cc is

-- a cut that costs a load is one that a transaction holds
cut_held : (room : Room) (n : ℕ) (grow : List ℕ) → cut_cost room ≡ cost.Load n grow → cut_load room ≤ room.capacity
cut_held room n grow is = by (nat_lt room.capacity (cut_load room)) refl is
  where
    by : (b : Bool) → nat_lt room.capacity (cut_load room) ≡ b → cost_or (where_ b (refusal.TooBig (cut_load room) room.capacity)) (cut_load room) (0 ∷ 0 ∷ 0 ∷ []) ≡ cost.Load n grow → cut_load room ≤ room.capacity
    by true less same = absurd (let never : cost.Refused (refusal.TooBig (cut_load room) room.capacity) ≡ cost.Load n grow = same in cc never)
    by false enough same = omega (arith, ltb-false room.capacity (cut_load room) enough)

puts_low : (room : Room) → cut_puts room ≤ cut_load room
puts_low room = omega arith

-- what a command costs ahead of which a cut goes
cut_weight : (capacity : ℕ) (free : List Bool) (space : Space) (asked : KindEdit) → kind_only_reads asked ≡ false → needs_cut_in (fork_of_edit asked) (volume_of space.content) (kind_data_of (tree_of space.content) asked) ≡ true
    → kind_weight_with capacity free (volume_of space.content) (tree_of space.content) asked ≡ cut_cost (room_with capacity free (volume_of space.content))
unfolding kind_weight_with
cut_weight capacity free space asked changes needs =
    λ i. if changes i then cost.Load 0 (0 ∷ 0 ∷ 0 ∷ []) else if needs i then cut_cost (room_with capacity free (volume_of space.content))
    else cost_of (needs_in (fork_of_edit asked) free (volume_of space.content) (kind_edits_of asked) (kind_data_of (tree_of space.content) asked)) (room_with capacity free (volume_of space.content))

-- a load is one that a transaction holds
kind_held : (capacity : ℕ) (free : List Bool) (space : Space) (asked : KindEdit) → kind_only_reads asked ≡ false → (n : ℕ) (grow : List ℕ) → kind_weight_with capacity free (volume_of space.content) (tree_of space.content) asked ≡ cost.Load n grow → n ≤ capacity
unfolding room_with
kind_held capacity free space asked changes n grow is = by (needs_cut_in (fork_of_edit asked) (volume_of space.content) (kind_data_of (tree_of space.content) asked)) refl
  where
    by : (b : Bool) → needs_cut_in (fork_of_edit asked) (volume_of space.content) (kind_data_of (tree_of space.content) asked) ≡ b → n ≤ capacity
    by true needs =
        let cut = sym (cut_weight capacity free space asked changes needs) ∙ is in
        omega (arith, cut_held (room_with capacity free (volume_of space.content)) n grow cut, cut_load_is (room_with capacity free (volume_of space.content)) n grow cut)
    by false uncut =
        load_within (needs_in (fork_of_edit asked) free (volume_of space.content) (kind_edits_of asked) (kind_data_of (tree_of space.content) asked)) (room_with capacity free (volume_of space.content)) n grow (sym (uncut_cost capacity free space asked changes uncut) ∙ is)

module _ (v : Volume) (a : Space) (settled : IsSettled v a.content) (anew : IsAnew v a) (asked : KindEdit) (changes : kind_only_reads asked ≡ false) (fits : KindFitsAnew asked v a.content) where
  costs : kind_cost_now asked v a ≡ cost.Load fits.load fits.grow
  costs = ap (λ (f : List Bool). kind_weight_with (capacity_of v) f (volume_of a.content) (tree_of a.content) asked) (free_none v.map anew.held ∙ free_content v a.content settled) ∙ fits.affords

  held : fits.load ≤ capacity_of v
  held = kind_held (capacity_of v) (free_blocks (volume_of a.content)) a asked changes fits.load fits.grow fits.affords

  no_short_cut : KindLacksRoomToCut v a asked → ⊥
  unfolding room_with
  no_short_cut lacks =
      let cut = sym (cut_weight (capacity_of v) (free_blocks (volume_of a.content)) a asked changes lacks.needs) ∙ fits.affords in
      omega (arith, lacks.room, puts_low (room_with (capacity_of v) (free_blocks (volume_of a.content)) (volume_of a.content)), cut_held (room_with (capacity_of v) (free_blocks (volume_of a.content)) (volume_of a.content)) fits.load fits.grow cut, anew.whole)

  no_short_load : KindLacksRoomForLoad v a asked → ⊥
  no_short_load lacks = omega (arith, lacks.room, same_sectors lacks.load fits.load lacks.grow fits.grow (sym lacks.costs ∙ costs), held, anew.whole)

  no_lacking : KindLacksBlocks v a asked → ⊥
  no_lacking lacks = let never : cost.Refused lacks.why ≡ cost.Load fits.load fits.grow = sym lacks.costs ∙ costs in cc never

  no_other : KindGrowsOtherwise v a asked → ⊥
  no_other grows =
      let same : grows.nodes ≡ grows.grow = same_nodes grows.whole fits.load grows.nodes fits.grow (sym grows.weighs ∙ fits.affords) ∙ sym (same_nodes grows.load fits.load grows.grow fits.grow (sym grows.costs ∙ costs)) in
      elim grows.other [
        | inl extents ↦ extents (ap (λ (l : List ℕ). slice_index l 0) same)
        | inr attributes ↦ attributes (ap (λ (l : List ℕ). slice_index l 2) same)
      ]

  no_zeros : KindHasManyZeros v a asked → ⊥
  no_zeros zeros = omega (arith, zeros.put, anew.whole)

  pub wants_none : KindWantsCommit v a asked → ⊥
  wants_none wants = elim wants.1 [
    | inl cut ↦ no_short_cut cut
    | inr rest ↦ elim rest [
      | inl now ↦ elim now [
        | inl short ↦ no_short_load short
        | inr more ↦ elim more [
          | inl lacks ↦ no_lacking lacks
          | inr other ↦ no_other other
        ]
      ]
      | inr zeros ↦ no_zeros zeros
    ]
  ]
