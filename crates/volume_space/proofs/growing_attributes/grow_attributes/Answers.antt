use Rattle.std.proofs.Common.{◌≡◌, inl, inr, Bool, List, length, ℕ, ◌++◌, [], ◌∷◌, not, sym, ◌∙◌, ap, subst, arith, ⊎_elim}
use Rattle.std.specs.Prelude.{Contains, false, true, slice_index_or, Result, Err, OnOk}
use Rattle.std.proofs.lemmas.List.Elements.{Contains-append_right}
use Rattle.std.proofs.lemmas.List.Sums.{count_by-le-length}
use Rattle.std.proofs.lemmas.Result.{err_from_is_err_and}
use Rattle.hx_bytes.specs.declared.faults.Trouble.{Trouble}
use Rattle.btree_file.specs.State.{sectors_of_tree}
use Rattle.sector_disk.specs.Lists.{Content}
use Rattle.volume_base.specs.Mapping.{changed_sectors}
use Rattle.volume_base.specs.Holding.{HoldsOn}
use Rattle.volume_base.specs.Standing.{attribute_sectors, map_sectors, own_sectors}
use Rattle.volume_base.specs.declared.volume.Volume.{Volume}
use Rattle.volume_base.proofs.Commanding.{touches_both}
use Rattle.volume_space.proofs.AttributesGrownWhole.{files_whole, grows_whole, head_whole, journal_whole, settled_whole, tree_whole, volume_whole}
use Rattle.volume_base.proofs.Seeing.{cause_on}
use Rattle.volume_base.proofs.Touched.{touches_header, touches_within}
use Rattle.volume_space.proofs.growing_attributes.grow_attributes.Goals as goal

-- what is said of an answer holds of none
off_ok : {U : Type 0} (P : Type 0) (q : Result U Trouble) (y : Trouble) → q ≡ Err y → OnOk q P
off_ok {U} P q y is = subst (λ (r : Result U Trouble). OnOk r P) (sym is) tt

-- blocks in use stay in use
holds_then : (committed : Content) (v w : Volume) → length w.map.used ≡ length v.map.used → w.map.held ≡ v.map.held → ((k : ℕ) → slice_index_or v.map.used k false ≡ true → slice_index_or w.map.used k false ≡ true) → HoldsOn committed v → HoldsOn committed w
holds_then committed v w size held still was =
    (ap (λ (l : List Bool). length l) held ∙ was.0 ∙ sym size, λ block set. ⊎_elim (λ used. inl (still block used)) (λ kept. inr (ap (λ l. slice_index_or l block false) held ∙ kept)) (was.1 block set))

map_own : (w : Volume) (s : ℕ) → Contains (map_sectors w) s → Contains (own_sectors w) s
map_own w s has = Contains-append_right (2 ∷ sectors_of_tree w.extents.file) (sectors_of_tree w.catalog.file ++ (attribute_sectors w ++ map_sectors w)) s
    (Contains-append_right (sectors_of_tree w.catalog.file) (attribute_sectors w ++ map_sectors w) s (Contains-append_right (attribute_sectors w) (map_sectors w) s has))

pub put_map-requires-clause-stands : goal.put_map-requires-clause-stands
put_map-requires-clause-stands g c = c.in_ok-lengthen_attributes.ensures.stands

pub put_map-requires-clause-unchanged : goal.put_map-requires-clause-unchanged
put_map-requires-clause-unchanged g c told = c.in_ok-lengthen_attributes.ensures.unchanged (sym (c.lengthen_attributes.ensures.touches []).same.tells ∙ told)

pub put_map-requires-clause-room : goal.put_map-requires-clause-room
put_map-requires-clause-room g c = omega (arith, count_by-le-length (λ (s : ℕ). not ((g.P.SectorView.space c.lengthen_attributes.new.space).put s)) (changed_sectors c.lengthen_attributes.new.volume), c.in_ok-lengthen_attributes.ensures.map, c.lengthen_attributes.ensures.spent, c.requires.can.room)

pub put_header-requires-clause-stands : goal.put_header-requires-clause-stands
put_header-requires-clause-stands g c = c.put_map.ensures.stands

pub put_header-requires-clause-room : goal.put_header-requires-clause-room
put_header-requires-clause-room g c = inl (omega (arith, c.put_map.ensures.spent, count_by-le-length (λ (s : ℕ). not ((g.P.SectorView.space c.lengthen_attributes.new.space).put s)) (changed_sectors c.lengthen_attributes.new.volume), c.in_ok-lengthen_attributes.ensures.map, c.lengthen_attributes.ensures.spent, c.requires.can.room))

pub returns-clause-stands : goal.returns-clause-stands
returns-clause-stands g c = c.put_header.ensures.stands

pub returns-clause-settled : goal.returns-clause-settled
returns-clause-settled g c tells = settled_whole c.args.more c.args.volume.now c.lengthen_attributes.new.volume (g.P.SectorView.space c.args.space.now) (g.P.SectorView.space c.lengthen_attributes.new.space) (g.P.SectorView.space c.put_map.new.space) (g.P.SectorView.space c.put_header.new.space) c.requires.stands (c.requires.settled tells) c.requires.there c.requires.can tells c.growth_keeps_the_tree.ensures (c.in_ok-lengthen_attributes.ensures.lengthens tells) (c.put_header.ensures.stands.stands (c.put_header.ensures.within.same.tells ∙ (c.put_map.ensures.within.same.tells ∙ ((c.lengthen_attributes.ensures.touches []).same.tells ∙ tells)))) (c.put_map.ensures.put ((c.lengthen_attributes.ensures.touches []).same.tells ∙ tells)) (c.put_header.ensures.put (c.put_map.ensures.within.same.tells ∙ ((c.lengthen_attributes.ensures.touches []).same.tells ∙ tells))) c.put_header.ensures.within (c.put_map.ensures.within.same.tells ∙ ((c.lengthen_attributes.ensures.touches []).same.tells ∙ tells))

pub returns-clause-tree : goal.returns-clause-tree
returns-clause-tree g c tells = tree_whole c.args.more c.args.volume.now c.lengthen_attributes.new.volume (g.P.SectorView.space c.args.space.now) (g.P.SectorView.space c.lengthen_attributes.new.space) (g.P.SectorView.space c.put_map.new.space) (g.P.SectorView.space c.put_header.new.space) c.requires.stands (c.requires.settled tells) c.requires.there c.requires.can tells c.growth_keeps_the_tree.ensures (c.in_ok-lengthen_attributes.ensures.lengthens tells) (c.put_header.ensures.stands.stands (c.put_header.ensures.within.same.tells ∙ (c.put_map.ensures.within.same.tells ∙ ((c.lengthen_attributes.ensures.touches []).same.tells ∙ tells)))) (c.put_map.ensures.put ((c.lengthen_attributes.ensures.touches []).same.tells ∙ tells)) (c.put_header.ensures.put (c.put_map.ensures.within.same.tells ∙ ((c.lengthen_attributes.ensures.touches []).same.tells ∙ tells))) c.put_header.ensures.within (c.put_map.ensures.within.same.tells ∙ ((c.lengthen_attributes.ensures.touches []).same.tells ∙ tells))

pub returns-clause-grows : goal.returns-clause-grows
returns-clause-grows g c tells = grows_whole c.args.more c.args.volume.now c.lengthen_attributes.new.volume (g.P.SectorView.space c.args.space.now) (g.P.SectorView.space c.lengthen_attributes.new.space) (g.P.SectorView.space c.put_map.new.space) (g.P.SectorView.space c.put_header.new.space) c.requires.stands (c.requires.settled tells) c.requires.there c.requires.can tells c.growth_keeps_the_tree.ensures (c.in_ok-lengthen_attributes.ensures.lengthens tells) (c.put_header.ensures.stands.stands (c.put_header.ensures.within.same.tells ∙ (c.put_map.ensures.within.same.tells ∙ ((c.lengthen_attributes.ensures.touches []).same.tells ∙ tells)))) (c.put_map.ensures.put ((c.lengthen_attributes.ensures.touches []).same.tells ∙ tells)) (c.put_header.ensures.put (c.put_map.ensures.within.same.tells ∙ ((c.lengthen_attributes.ensures.touches []).same.tells ∙ tells))) c.put_header.ensures.within (c.put_map.ensures.within.same.tells ∙ ((c.lengthen_attributes.ensures.touches []).same.tells ∙ tells))

pub returns-clause-files : goal.returns-clause-files
returns-clause-files g c tells = files_whole c.args.more c.args.volume.now c.lengthen_attributes.new.volume (g.P.SectorView.space c.args.space.now) (g.P.SectorView.space c.lengthen_attributes.new.space) (g.P.SectorView.space c.put_map.new.space) (g.P.SectorView.space c.put_header.new.space) c.requires.stands (c.requires.settled tells) c.requires.there c.requires.can tells c.growth_keeps_the_tree.ensures (c.in_ok-lengthen_attributes.ensures.lengthens tells) (c.put_header.ensures.stands.stands (c.put_header.ensures.within.same.tells ∙ (c.put_map.ensures.within.same.tells ∙ ((c.lengthen_attributes.ensures.touches []).same.tells ∙ tells)))) (c.put_map.ensures.put ((c.lengthen_attributes.ensures.touches []).same.tells ∙ tells)) (c.put_header.ensures.put (c.put_map.ensures.within.same.tells ∙ ((c.lengthen_attributes.ensures.touches []).same.tells ∙ tells))) c.put_header.ensures.within (c.put_map.ensures.within.same.tells ∙ ((c.lengthen_attributes.ensures.touches []).same.tells ∙ tells))

pub returns-clause-volume : goal.returns-clause-volume
returns-clause-volume g c tells = volume_whole c.args.more c.args.volume.now c.lengthen_attributes.new.volume (g.P.SectorView.space c.args.space.now) (g.P.SectorView.space c.lengthen_attributes.new.space) (g.P.SectorView.space c.put_map.new.space) (g.P.SectorView.space c.put_header.new.space) c.requires.stands (c.requires.settled tells) c.requires.there c.requires.can tells c.growth_keeps_the_tree.ensures (c.in_ok-lengthen_attributes.ensures.lengthens tells) (c.put_header.ensures.stands.stands (c.put_header.ensures.within.same.tells ∙ (c.put_map.ensures.within.same.tells ∙ ((c.lengthen_attributes.ensures.touches []).same.tells ∙ tells)))) (c.put_map.ensures.put ((c.lengthen_attributes.ensures.touches []).same.tells ∙ tells)) (c.put_header.ensures.put (c.put_map.ensures.within.same.tells ∙ ((c.lengthen_attributes.ensures.touches []).same.tells ∙ tells))) c.put_header.ensures.within (c.put_map.ensures.within.same.tells ∙ ((c.lengthen_attributes.ensures.touches []).same.tells ∙ tells))

pub returns-clause-service : goal.returns-clause-service
returns-clause-service g c = c.put_header.ensures.stands.service

pub returns-clause-holds : goal.returns-clause-holds
returns-clause-holds g c committed was = holds_then committed c.args.volume.now c.lengthen_attributes.new.volume c.lengthen_attributes.ensures.size c.lengthen_attributes.ensures.held c.lengthen_attributes.ensures.still was

pub returns-clause-touches : goal.returns-clause-touches
returns-clause-touches g c committed = touches_both committed (λ s. Contains (own_sectors c.lengthen_attributes.new.volume) s) (g.P.SectorView.space c.args.space.now) (g.P.SectorView.space c.put_map.new.space) (g.P.SectorView.space c.put_header.new.space) (touches_both committed (λ s. Contains (own_sectors c.lengthen_attributes.new.volume) s) (g.P.SectorView.space c.args.space.now) (g.P.SectorView.space c.lengthen_attributes.new.space) (g.P.SectorView.space c.put_map.new.space) (c.lengthen_attributes.ensures.touches committed) (touches_within committed (map_sectors c.lengthen_attributes.new.volume) (λ s. Contains (own_sectors c.lengthen_attributes.new.volume) s) (g.P.SectorView.space c.lengthen_attributes.new.space) (g.P.SectorView.space c.put_map.new.space) (λ s has. map_own c.lengthen_attributes.new.volume s has) c.put_map.ensures.within)) (touches_header c.lengthen_attributes.new.volume committed (g.P.SectorView.space c.put_map.new.space) (g.P.SectorView.space c.put_header.new.space) c.put_header.ensures.within)

pub returns-clause-own : goal.returns-clause-own
returns-clause-own g c = c.lengthen_attributes.ensures.own

pub returns-clause-same : goal.returns-clause-same
returns-clause-same g c = c.lengthen_attributes.ensures.same

pub returns-clause-spent : goal.returns-clause-spent
returns-clause-spent g c = omega (arith, c.lengthen_attributes.ensures.spent, c.put_map.ensures.spent, count_by-le-length (λ (s : ℕ). not ((g.P.SectorView.space c.lengthen_attributes.new.space).put s)) (changed_sectors c.lengthen_attributes.new.volume), c.in_ok-lengthen_attributes.ensures.map, c.put_header.ensures.spent)

pub returns-clause-below : goal.returns-clause-below
returns-clause-below g c = g.met.P.SectorView.follows_trans c.args.space.now c.put_map.new.space c.put_header.new.space (g.met.P.SectorView.follows_trans c.args.space.now c.lengthen_attributes.new.space c.put_map.new.space c.lengthen_attributes.ensures.below c.put_map.ensures.below) c.put_header.ensures.below

pub returns-clause-cause : goal.returns-clause-cause
returns-clause-cause g c = record { later = omega (arith, c.lengthen_attributes.ensures.cause.later, c.put_map.ensures.faults, c.put_header.ensures.faults); failed = tt }

pub returns-in_err-lengthen_attributes-clause-stands : goal.returns-in_err-lengthen_attributes-clause-stands
returns-in_err-lengthen_attributes-clause-stands g c = let p = err_from_is_err_and c.from_residual.result c.from_residual.ensures.1 in off_ok _ c.from_residual.result p.0 p.1

pub returns-in_err-lengthen_attributes-clause-settled : goal.returns-in_err-lengthen_attributes-clause-settled
returns-in_err-lengthen_attributes-clause-settled g c tells = let p = err_from_is_err_and c.from_residual.result c.from_residual.ensures.1 in off_ok _ c.from_residual.result p.0 p.1

pub returns-in_err-lengthen_attributes-clause-tree : goal.returns-in_err-lengthen_attributes-clause-tree
returns-in_err-lengthen_attributes-clause-tree g c tells = let p = err_from_is_err_and c.from_residual.result c.from_residual.ensures.1 in off_ok _ c.from_residual.result p.0 p.1

pub returns-in_err-lengthen_attributes-clause-grows : goal.returns-in_err-lengthen_attributes-clause-grows
returns-in_err-lengthen_attributes-clause-grows g c tells = let p = err_from_is_err_and c.from_residual.result c.from_residual.ensures.1 in off_ok _ c.from_residual.result p.0 p.1

pub returns-in_err-lengthen_attributes-clause-files : goal.returns-in_err-lengthen_attributes-clause-files
returns-in_err-lengthen_attributes-clause-files g c tells = let p = err_from_is_err_and c.from_residual.result c.from_residual.ensures.1 in off_ok _ c.from_residual.result p.0 p.1

pub returns-in_err-lengthen_attributes-clause-volume : goal.returns-in_err-lengthen_attributes-clause-volume
returns-in_err-lengthen_attributes-clause-volume g c tells = let p = err_from_is_err_and c.from_residual.result c.from_residual.ensures.1 in off_ok _ c.from_residual.result p.0 p.1

pub returns-in_err-lengthen_attributes-clause-service : goal.returns-in_err-lengthen_attributes-clause-service
returns-in_err-lengthen_attributes-clause-service g c = c.lengthen_attributes.ensures.service

pub returns-in_err-lengthen_attributes-clause-holds : goal.returns-in_err-lengthen_attributes-clause-holds
returns-in_err-lengthen_attributes-clause-holds g c committed was = holds_then committed c.args.volume.now c.lengthen_attributes.new.volume c.lengthen_attributes.ensures.size c.lengthen_attributes.ensures.held c.lengthen_attributes.ensures.still was

pub returns-in_err-lengthen_attributes-clause-touches : goal.returns-in_err-lengthen_attributes-clause-touches
returns-in_err-lengthen_attributes-clause-touches g c committed = c.lengthen_attributes.ensures.touches committed

pub returns-in_err-lengthen_attributes-clause-own : goal.returns-in_err-lengthen_attributes-clause-own
returns-in_err-lengthen_attributes-clause-own g c = c.lengthen_attributes.ensures.own

pub returns-in_err-lengthen_attributes-clause-same : goal.returns-in_err-lengthen_attributes-clause-same
returns-in_err-lengthen_attributes-clause-same g c = c.lengthen_attributes.ensures.same

pub returns-in_err-lengthen_attributes-clause-spent : goal.returns-in_err-lengthen_attributes-clause-spent
returns-in_err-lengthen_attributes-clause-spent g c = omega (arith, c.lengthen_attributes.ensures.spent)

pub returns-in_err-lengthen_attributes-clause-below : goal.returns-in_err-lengthen_attributes-clause-below
returns-in_err-lengthen_attributes-clause-below g c = c.lengthen_attributes.ensures.below

pub returns-in_err-lengthen_attributes-clause-cause : goal.returns-in_err-lengthen_attributes-clause-cause
returns-in_err-lengthen_attributes-clause-cause g c = let p = err_from_is_err_and c.from_residual.result c.from_residual.ensures.1 in cause_on c.in_err-lengthen_attributes.field-0.0 p.0 (g.P.SectorView.space c.args.space.now).faults (g.P.SectorView.space c.args.space.now).faults (g.P.SectorView.space c.lengthen_attributes.new.space).faults c.from_residual.result p.1 p.2 (omega arith) c.in_err-lengthen_attributes.ensures.cause

pub returns-clause-marks : goal.returns-clause-marks
returns-clause-marks g c = c.in_ok-lengthen_attributes.ensures.marks

pub returns-in_err-lengthen_attributes-clause-marks : goal.returns-in_err-lengthen_attributes-clause-marks
returns-in_err-lengthen_attributes-clause-marks g c = let p = err_from_is_err_and c.from_residual.result c.from_residual.ensures.1 in off_ok _ c.from_residual.result p.0 p.1

pub returns-clause-gained : goal.returns-clause-gained
returns-clause-gained g c = c.lengthen_attributes.ensures.gained

pub returns-in_err-lengthen_attributes-clause-gained : goal.returns-in_err-lengthen_attributes-clause-gained
returns-in_err-lengthen_attributes-clause-gained g c = c.lengthen_attributes.ensures.gained

pub returns-clause-head : goal.returns-clause-head
returns-clause-head g c tells = head_whole c.args.more c.args.volume.now c.lengthen_attributes.new.volume (g.P.SectorView.space c.args.space.now) (g.P.SectorView.space c.lengthen_attributes.new.space) (g.P.SectorView.space c.put_map.new.space) (g.P.SectorView.space c.put_header.new.space) c.requires.stands (c.requires.settled tells) c.requires.there c.requires.can tells c.growth_keeps_the_tree.ensures (c.in_ok-lengthen_attributes.ensures.lengthens tells) (c.put_header.ensures.stands.stands (c.put_header.ensures.within.same.tells ∙ (c.put_map.ensures.within.same.tells ∙ ((c.lengthen_attributes.ensures.touches []).same.tells ∙ tells)))) (c.put_map.ensures.put ((c.lengthen_attributes.ensures.touches []).same.tells ∙ tells)) (c.put_header.ensures.put (c.put_map.ensures.within.same.tells ∙ ((c.lengthen_attributes.ensures.touches []).same.tells ∙ tells))) c.put_header.ensures.within (c.put_map.ensures.within.same.tells ∙ ((c.lengthen_attributes.ensures.touches []).same.tells ∙ tells))

pub returns-clause-journal : goal.returns-clause-journal
returns-clause-journal g c tells = journal_whole c.args.more c.args.volume.now c.lengthen_attributes.new.volume (g.P.SectorView.space c.args.space.now) (g.P.SectorView.space c.lengthen_attributes.new.space) (g.P.SectorView.space c.put_map.new.space) (g.P.SectorView.space c.put_header.new.space) c.requires.stands (c.requires.settled tells) c.requires.there c.requires.can tells c.growth_keeps_the_tree.ensures (c.in_ok-lengthen_attributes.ensures.lengthens tells) (c.put_header.ensures.stands.stands (c.put_header.ensures.within.same.tells ∙ (c.put_map.ensures.within.same.tells ∙ ((c.lengthen_attributes.ensures.touches []).same.tells ∙ tells)))) (c.put_map.ensures.put ((c.lengthen_attributes.ensures.touches []).same.tells ∙ tells)) (c.put_header.ensures.put (c.put_map.ensures.within.same.tells ∙ ((c.lengthen_attributes.ensures.touches []).same.tells ∙ tells))) c.put_header.ensures.within (c.put_map.ensures.within.same.tells ∙ ((c.lengthen_attributes.ensures.touches []).same.tells ∙ tells))

pub returns-in_err-lengthen_attributes-clause-head : goal.returns-in_err-lengthen_attributes-clause-head
returns-in_err-lengthen_attributes-clause-head g c tells = let p = err_from_is_err_and c.from_residual.result c.from_residual.ensures.1 in off_ok _ c.from_residual.result p.0 p.1

pub returns-in_err-lengthen_attributes-clause-journal : goal.returns-in_err-lengthen_attributes-clause-journal
returns-in_err-lengthen_attributes-clause-journal g c tells = let p = err_from_is_err_and c.from_residual.result c.from_residual.ensures.1 in off_ok _ c.from_residual.result p.0 p.1
