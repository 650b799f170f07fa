-- What the calls of a growth with overflow records ask for, one behind another.
use Rattle.std.proofs.Common.{◌≡◌, ◌≢◌, inl, inr, ◌≤◌, ℕ, ◌*◌, ◌/◌, ◌==◌, ◌&&◌, Bool, true, false, List, length, sym, ◌∙◌, ap, subst, arith, ⊎_elim}
use Rattle.std.specs.Prelude.{Contains, IsTrue, nat_le, slice_index, slice_index_or}
use Rattle.std.proofs.lemmas.Bool.{and_parts, le-leb, leb-true}
use Rattle.btree_edit.specs.Edits.{EditRoom}
use Rattle.btree_file.specs.State.{state_of}
use Rattle.hfs_volume.specs.Cost.{cost_of}
use Rattle.hfs_volume.specs.declared.cost.Cost.{Cost}
use Rattle.hfs_volume.specs.declared.cost.Cost.TheVariants as cost
use Rattle.sector_disk.specs.Lists.{Content}
use Rattle.sector_disk.specs.Space.{Space}
use Rattle.tree_weights.specs.Weights.{CommandsHaveRoom, LoadIsOfParts, LoadSaysEnough}
use Rattle.volume_base.specs.Room.{room_on}
use Rattle.volume_base.specs.Standing.{own_sectors}
use Rattle.volume_base.specs.Touching.{Touches}
use Rattle.volume_base.specs.declared.room.FreeBlocks.TheVariants as blocks
use Rattle.volume_base.specs.declared.volume.Tree.{Tree}
use Rattle.volume_base.specs.declared.volume.Volume.{Volume}
use Rattle.volume_space.specs.Spreading.{is_met_extents, needs_extents}
use Rattle.volume_base.specs.Holding.{HoldsOn}
use Rattle.volume_space.proofs.ExtentRoom.{extent_room}

-- a load that so many sectors suffice for is met by more
met_more : (it : Cost) (few more : ℕ) → few ≤ more → is_met_extents it few ≡ true → is_met_extents it more ≡ true
met_more (cost.Refused why) few more less ok = ok
met_more (cost.Load load grow) few more less ok =
    let parts = and_parts (slice_index grow 0 == 0) (nat_le load few) ok in
    (λ i. parts.0 i && nat_le load more) ∙ le-leb load more (omega (arith, leb-true load few parts.1, less))

-- room for one edit of the extents overflow file, by what it costs, where the file is as it was
pub edit_room_later : CommandsHaveRoom → LoadSaysEnough → LoadIsOfParts → (v w : Volume) (spare : ℕ) (b : Space) → is_met_extents (cost_of (needs_extents 1) (room_on blocks.Takable v)) spare ≡ true → spare ≤ b.spare → w.extents ≡ v.extents
    → (names : List ℕ) → IsTrue b.tells → EditRoom 1 10 (state_of names w.extents.file b)
edit_room_later have says parts v w spare b met enough same names tells =
    subst (λ (t : Tree). EditRoom 1 10 (state_of names t.file b)) (sym same)
    (extent_room have says parts v b blocks.Takable 1 (omega arith) (met_more (cost_of (needs_extents 1) (room_on blocks.Takable v)) spare b.spare enough met) names tells)

-- the same calls touch sectors that are its own by another list
pub touches_as : (committed : Content) (x w : Volume) (a b : Space) → own_sectors x ≡ own_sectors w → Touches committed (λ s. Contains (own_sectors w) s) a b → Touches committed (λ s. Contains (own_sectors x) s) a b
touches_as committed x w a b same was = subst (λ (l : List ℕ). Touches committed (λ s. Contains l s) a b) (sym same) was

-- blocks in use stay in use
pub holds_then : (committed : Content) (v w : Volume) → length w.map.used ≡ length v.map.used → w.map.held ≡ v.map.held → ((k : ℕ) → slice_index_or v.map.used k false ≡ true → slice_index_or w.map.used k false ≡ true) → HoldsOn committed v → HoldsOn committed w
holds_then committed v w size held still was =
    (ap (λ (l : List Bool). length l) held ∙ was.0 ∙ sym size, λ block set. ⊎_elim (λ used. inl (still block used)) (λ kept. inr (ap (λ l. slice_index_or l block false) held ∙ kept)) (was.1 block set))
