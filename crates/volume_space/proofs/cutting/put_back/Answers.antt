use Rattle.std.proofs.Common.{◌≡◌, ◌≤◌, ℕ, false, true, length, List, ◌∷◌, [], ◌++◌, not, inl, inr, arith, sym, ◌∙◌, ap, subst, refl}
use Rattle.std.specs.Prelude.{Option, IfSome, Some, None, IsTrue, Contains, Result, Ok, Err, OnOk}
use Rattle.std.proofs.lemmas.List.Elements.{Contains-append_right}
use Rattle.std.proofs.lemmas.List.Sums.{count_by-le-length}
use Rattle.std.proofs.lemmas.Result.{err_from_is_err_and}
use Rattle.hx_bytes.specs.declared.faults.Trouble.{Trouble}
use Rattle.btree_edit.specs.Causes.{HasTroubleCause}
use Rattle.btree_file.specs.State.{sectors_of_tree}
use Rattle.sector_disk.specs.Lists.{Content}
use Rattle.volume_header.specs.Header.{FitsHeader}
use Rattle.volume_space.specs.Cutting.{given_load}
use Rattle.volume_base.specs.Holding.{KeepsUsed}
use Rattle.volume_base.specs.Mapping.{HoldsUnchanged, changed_sectors}
use Rattle.volume_base.specs.Service.{IsInService}
use Rattle.volume_base.specs.Standing.{StandsOver, attribute_sectors, map_sectors, own_sectors}
use Rattle.volume_base.specs.Touching.{Touches}
use Rattle.volume_base.specs.declared.volume.Volume.{Volume}
use Rattle.volume_base.proofs.Commanding.{touches_both, touches_none}
use Rattle.volume_space.proofs.GivenBack.{few_given, puts_given, stands_given, unchanged_given, used_given}
use Rattle.volume_base.proofs.KeptUsed.{used_none}
use Rattle.volume_base.proofs.Touched.{touches_header, touches_within}
use Rattle.volume_space.proofs.cutting.put_back.Goals as goal

-- what is said of an answer holds of none
off_ok : {U : Type 0} (P : Type 0) (q : Result U Trouble) (y : Trouble) → q ≡ Err y → OnOk q P
off_ok {U} P q y is = subst (λ (r : Result U Trouble). OnOk r P) (sym is) tt

map_own : (w : Volume) (s : ℕ) → Contains (map_sectors w) s → Contains (own_sectors w) s
map_own w s has = Contains-append_right (2 ∷ sectors_of_tree w.extents.file) (sectors_of_tree w.catalog.file ++ (attribute_sectors w ++ map_sectors w)) s
    (Contains-append_right (sectors_of_tree w.catalog.file) (attribute_sectors w ++ map_sectors w) s (Contains-append_right (attribute_sectors w) (map_sectors w) s has))

pub put_map-requires-clause-stands : goal.put_map-requires-clause-stands
put_map-requires-clause-stands g c = (subst (λ (x : Volume). StandsOver x (g.P.SectorView.space c.args.space.now)) (sym c.in_ok-give_back.ensures.gives) (stands_given c.args.run c.args.volume.now c.requires.gives (g.P.SectorView.space c.args.space.now) (subst FitsHeader (ap (λ (x : Volume). x.header) c.in_ok-give_back.ensures.gives) (c.in_ok-give_back.ensures.fits c.requires.stands.service.fits)) c.requires.stands))

pub put_map-requires-clause-unchanged : goal.put_map-requires-clause-unchanged
put_map-requires-clause-unchanged g c told = subst (λ (x : Volume). HoldsUnchanged x (g.P.SectorView.space c.args.space.now).content) (sym c.in_ok-give_back.ensures.gives) (unchanged_given c.args.run c.args.volume.now c.requires.gives c.requires.unchanged (g.P.SectorView.space c.args.space.now) (c.requires.stands.stands told) (c.requires.settled told))

pub put_map-requires-clause-room : goal.put_map-requires-clause-room
put_map-requires-clause-room g c = omega (arith, count_by-le-length (λ (s : ℕ). not ((g.P.SectorView.space c.args.space.now).put s)) (changed_sectors c.give_back.new.volume), (subst (λ (x : Volume). length (changed_sectors x) ≤ given_load c.args.volume.now) (sym c.in_ok-give_back.ensures.gives) (few_given c.args.run c.args.volume.now c.requires.gives c.requires.unchanged)), c.requires.room)

pub put_header-requires-clause-stands : goal.put_header-requires-clause-stands
put_header-requires-clause-stands g c = c.put_map.ensures.stands

pub put_header-requires-clause-room : goal.put_header-requires-clause-room
put_header-requires-clause-room g c = inl (omega (arith, c.put_map.ensures.spent, count_by-le-length (λ (s : ℕ). not ((g.P.SectorView.space c.args.space.now).put s)) (changed_sectors c.give_back.new.volume), (subst (λ (x : Volume). length (changed_sectors x) ≤ given_load c.args.volume.now) (sym c.in_ok-give_back.ensures.gives) (few_given c.args.run c.args.volume.now c.requires.gives c.requires.unchanged)), c.requires.room))

pub returns-clause-stands : goal.returns-clause-stands
returns-clause-stands g c = c.put_header.ensures.stands

pub returns-clause-gives : goal.returns-clause-gives
returns-clause-gives g c = c.in_ok-give_back.ensures.gives

pub returns-clause-puts : goal.returns-clause-puts
returns-clause-puts g c tells =
    let told = c.put_map.ensures.within.same.tells ∙ tells in
    puts_given c.give_back.new.volume (g.P.SectorView.space c.args.space.now) (g.P.SectorView.space c.put_map.new.space) (g.P.SectorView.space c.put_header.new.space) (c.put_header.ensures.stands.stands (c.put_header.ensures.within.same.tells ∙ told)) (c.put_map.ensures.put tells) (c.put_header.ensures.put told) c.put_header.ensures.within told

pub returns-clause-used : goal.returns-clause-used
returns-clause-used g c = subst (λ (x : Volume). KeepsUsed c.args.volume.now x) (sym c.in_ok-give_back.ensures.gives) (used_given c.args.run c.args.volume.now c.requires.gives)

pub returns-clause-service : goal.returns-clause-service
returns-clause-service g c = c.put_header.ensures.stands.service

pub returns-clause-touches : goal.returns-clause-touches
returns-clause-touches g c committed =
    subst (λ (l : List ℕ). Touches committed (λ s. Contains l s) (g.P.SectorView.space c.args.space.now) (g.P.SectorView.space c.put_header.new.space)) (ap (λ (x : Volume). own_sectors x) c.in_ok-give_back.ensures.gives)
    (touches_both committed (λ s. Contains (own_sectors c.give_back.new.volume) s) (g.P.SectorView.space c.args.space.now) (g.P.SectorView.space c.put_map.new.space) (g.P.SectorView.space c.put_header.new.space)
    (touches_within committed (map_sectors c.give_back.new.volume) (λ s. Contains (own_sectors c.give_back.new.volume) s) (g.P.SectorView.space c.args.space.now) (g.P.SectorView.space c.put_map.new.space) (λ s has. map_own c.give_back.new.volume s has) c.put_map.ensures.within)
    (touches_header c.give_back.new.volume committed (g.P.SectorView.space c.put_map.new.space) (g.P.SectorView.space c.put_header.new.space) c.put_header.ensures.within))

pub returns-clause-spent : goal.returns-clause-spent
returns-clause-spent g c = omega (arith, c.put_map.ensures.spent, count_by-le-length (λ (s : ℕ). not ((g.P.SectorView.space c.args.space.now).put s)) (changed_sectors c.give_back.new.volume), (subst (λ (x : Volume). length (changed_sectors x) ≤ given_load c.args.volume.now) (sym c.in_ok-give_back.ensures.gives) (few_given c.args.run c.args.volume.now c.requires.gives c.requires.unchanged)), c.put_header.ensures.spent)

pub returns-clause-below : goal.returns-clause-below
returns-clause-below g c = g.met.P.SectorView.follows_trans c.args.space.now c.put_map.new.space c.put_header.new.space c.put_map.ensures.below c.put_header.ensures.below

pub returns-clause-cause : goal.returns-clause-cause
returns-clause-cause g c = record { later = omega (arith, c.put_map.ensures.faults, c.put_header.ensures.faults); failed = tt }

pub returns-in_err-give_back-clause-stands : goal.returns-in_err-give_back-clause-stands
returns-in_err-give_back-clause-stands g c = let p = err_from_is_err_and c.from_residual.result c.from_residual.ensures.1 in off_ok _ c.from_residual.result p.0 p.1

pub returns-in_err-give_back-clause-gives : goal.returns-in_err-give_back-clause-gives
returns-in_err-give_back-clause-gives g c = let p = err_from_is_err_and c.from_residual.result c.from_residual.ensures.1 in off_ok _ c.from_residual.result p.0 p.1

pub returns-in_err-give_back-clause-puts : goal.returns-in_err-give_back-clause-puts
returns-in_err-give_back-clause-puts g c tells = let p = err_from_is_err_and c.from_residual.result c.from_residual.ensures.1 in off_ok _ c.from_residual.result p.0 p.1

pub returns-in_err-give_back-clause-used : goal.returns-in_err-give_back-clause-used
returns-in_err-give_back-clause-used g c = subst (λ (x : Volume). KeepsUsed c.args.volume.now x) (sym c.in_err-give_back.ensures.same) (used_none c.args.volume.now)

pub returns-in_err-give_back-clause-service : goal.returns-in_err-give_back-clause-service
returns-in_err-give_back-clause-service g c = subst (λ (x : Volume). IsInService x (g.P.SectorView.space c.args.space.now)) (sym c.in_err-give_back.ensures.same) c.requires.stands.service

pub returns-in_err-give_back-clause-touches : goal.returns-in_err-give_back-clause-touches
returns-in_err-give_back-clause-touches g c committed = touches_none committed _ (g.P.SectorView.space c.args.space.now)

pub returns-in_err-give_back-clause-below : goal.returns-in_err-give_back-clause-below
returns-in_err-give_back-clause-below g c = g.met.P.SectorView.follows_refl c.args.space.now

pub returns-in_err-give_back-clause-cause : goal.returns-in_err-give_back-clause-cause
returns-in_err-give_back-clause-cause g c = let p = err_from_is_err_and c.from_residual.result c.from_residual.ensures.1 in subst (λ (r : Result (Unit {0}) Trouble). HasTroubleCause (g.P.SectorView.space c.args.space.now).faults (g.P.SectorView.space c.args.space.now).faults r) (sym (p.1 ∙ ap Err p.2)) (record { later = omega arith; failed = tt })
