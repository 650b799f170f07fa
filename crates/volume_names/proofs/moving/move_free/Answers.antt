use Rattle.std.proofs.Common.{◌≡◌, ℕ, List, inl, inr, refl, sym, ◌∙◌, ap, subst, arith}
use Rattle.std.specs.Prelude.{Err}
use Rattle.sector_disk.specs.Lists.{Content}
use Rattle.hfs_language.specs.Written.{FitsPath}
use Rattle.hfs_language.specs.declared.command.Command.TheVariants as command
use Rattle.hfs_language.specs.declared.refusal.Refusal.{Refusal}
use Rattle.hfs_model.specs.Step.{is_below, step}
use Rattle.hfs_volume.specs.Content.{volume_of}
use Rattle.hfs_volume.specs.Naming.{MovesName}
use Rattle.hfs_volume.specs.TreeOf.{tree_of}
use Rattle.volume_base.specs.Making.{free_place}
use Rattle.volume_base.specs.Lists.{lists_of}
use Rattle.volume_base.specs.Moving.{IsMove, route_in}
use Rattle.volume_names.proofs.EditsLeft.{left_still}
use Rattle.volume_names.proofs.MoveRoom.{move_load_still}
use Rattle.volume_base.proofs.FoundEntry.{node_still}
use Rattle.volume_base.proofs.Replaced.{node_large}
use Rattle.volume_base.proofs.Routed.{goes_inside, may_go, way_not_free, way_refused, way_told}
use Rattle.volume_base.proofs.Sited.{fits_above, fits_name, some_name}
use Rattle.volume_base.proofs.Framed.{edits_err, edits_ok, edits_spent}
use Rattle.volume_base.proofs.Joined.{edits_both, edits_serves}
use Rattle.volume_names.proofs.moving.move_free.Goals as goal

pub route-requires-clause-from_fits : goal.route-requires-clause-from_fits
route-requires-clause-from_fits g c = subst FitsPath (sym c.as_slice.ensures) c.requires.from_fits

pub route-requires-clause-above_fits : goal.route-requires-clause-above_fits
route-requires-clause-above_fits g c = fits_above c.args.above.now c.args.old.now (subst FitsPath c.requires.split c.requires.from_fits)

pub route-requires-clause-under_fits : goal.route-requires-clause-under_fits
route-requires-clause-under_fits g c = fits_above c.args.under.now c.args.name.now (subst FitsPath c.requires.goal_split c.requires.to_fits)

pub route-requires-clause-name : goal.route-requires-clause-name
route-requires-clause-name g c = (fits_name c.args.under.now c.args.name.now (subst FitsPath c.requires.goal_split c.requires.to_fits)).short

pub move_in-requires-clause-some : goal.move_in-requires-clause-some
move_in-requires-clause-some g c = (fits_name c.args.above.now c.args.old.now (subst FitsPath c.requires.split c.requires.from_fits)).some

pub move_in-requires-clause-old_name : goal.move_in-requires-clause-old_name
move_in-requires-clause-old_name g c = (fits_name c.args.above.now c.args.old.now (subst FitsPath c.requires.split c.requires.from_fits)).short

pub move_in-requires-clause-some_new : goal.move_in-requires-clause-some_new
move_in-requires-clause-some_new g c = (fits_name c.args.under.now c.args.name.now (subst FitsPath c.requires.goal_split c.requires.to_fits)).some

pub move_in-requires-clause-name : goal.move_in-requires-clause-name
move_in-requires-clause-name g c = (fits_name c.args.under.now c.args.name.now (subst FitsPath c.requires.goal_split c.requires.to_fits)).short

pub move_in-requires-clause-moves : goal.move_in-requires-clause-moves
move_in-requires-clause-moves g c tells =
    let before = sym c.route.ensures.looked.reads.looks.same.tells ∙ tells in (
      c.args.from.now,
      c.args.to.now,
      (way_told c.sound_has_plain_tree.ensures c.args.volume.now (g.P.SectorView.space c.args.space.now).content (c.requires.serves.stands.stands before).trees (c.requires.serves.settled before) c.args.from.now c.args.to.now c.args.above.now c.args.under.now c.args.old.now c.args.name.now c.requires.split c.requires.goal_split c.requires.not_own c.requires.goal_not_own c.requires.from_fits c.requires.to_fits c.in_ok-way.field-0 (subst (λ (p : List (List ℕ)). c.in_ok-way.field-0 ≡ route_in (lists_of c.args.volume.now (g.P.SectorView.space c.args.space.now).content).catalog_pairs c.args.volume.now.private p c.args.above.now c.args.under.now c.args.name.now) c.as_slice.ensures (c.in_ok-way.ensures.found before)) c.in-Ok.way c.in-Ok.is).at,
      subst (λ (k : Content). IsMove (tree_of k) c.args.from.now c.args.to.now (way_told c.sound_has_plain_tree.ensures c.args.volume.now (g.P.SectorView.space c.args.space.now).content (c.requires.serves.stands.stands before).trees (c.requires.serves.settled before) c.args.from.now c.args.to.now c.args.above.now c.args.under.now c.args.old.now c.args.name.now c.requires.split c.requires.goal_split c.requires.not_own c.requires.goal_not_own c.requires.from_fits c.requires.to_fits c.in_ok-way.field-0 (subst (λ (p : List (List ℕ)). c.in_ok-way.field-0 ≡ route_in (lists_of c.args.volume.now (g.P.SectorView.space c.args.space.now).content).catalog_pairs c.args.volume.now.private p c.args.above.now c.args.under.now c.args.name.now) c.as_slice.ensures (c.in_ok-way.ensures.found before)) c.in-Ok.way c.in-Ok.is).at c.in-Ok.way.parent c.args.old.now c.in-Ok.way.id c.in-Ok.way.folder c.args.name.now) (sym (c.route.ensures.looked.reads.looks.content before)) (may_go c.sound_has_plain_tree.ensures c.args.volume.now (g.P.SectorView.space c.args.space.now).content (c.requires.serves.stands.stands before).trees (c.requires.serves.settled before) c.args.from.now c.args.to.now c.args.above.now c.args.under.now c.args.old.now c.args.name.now c.requires.split c.requires.goal_split c.requires.not_own c.requires.goal_not_own c.requires.from_fits c.requires.to_fits c.in_ok-way.field-0 (subst (λ (p : List (List ℕ)). c.in_ok-way.field-0 ≡ route_in (lists_of c.args.volume.now (g.P.SectorView.space c.args.space.now).content).catalog_pairs c.args.volume.now.private p c.args.above.now c.args.under.now c.args.name.now) c.as_slice.ensures (c.in_ok-way.ensures.found before)) c.in-Ok.way c.in-Ok.is ((λ i. is_below (sym c.as_slice-in-Ok.ensures i) (sym c.as_slice-in-Ok-2.ensures i)) ∙ sym c.is_below.ensures ∙ c.if-is_below.false)),
    )

pub returns-in_ok-move_in-in-Ok-clause-edits : goal.returns-in_ok-move_in-in-Ok-clause-edits
returns-in_ok-move_in-in-Ok-clause-edits g c =
    edits_ok (edits_spent (edits_both g.met.P.SectorView.follows_trans c.route.ensures.looked.edits c.in_ok-move_in-in-Ok.ensures.edits) (λ tells. omega (arith, c.route.ensures.looked.reads.looks.spare, c.move_in.ensures.edits.ran.spent (c.route.ensures.looked.reads.looks.same.tells ∙ tells), move_load_still c.args.volume.now c.route.new.self (g.P.SectorView.space c.args.space.now) (g.P.SectorView.space c.route.new.space) c.route.ensures.looked.reads tells)))

pub returns-in_ok-move_in-in-Ok-clause-serves : goal.returns-in_ok-move_in-in-Ok-clause-serves
returns-in_ok-move_in-in-Ok-clause-serves g c =
    edits_serves (returns-in_ok-move_in-in-Ok-clause-edits g c) (λ tells. (c.in_ok-move_in-in-Ok.ensures.does (c.route.ensures.looked.reads.looks.same.tells ∙ tells) c.args.from.now c.args.to.now (way_told c.sound_has_plain_tree.ensures c.args.volume.now (g.P.SectorView.space c.args.space.now).content (c.requires.serves.stands.stands tells).trees (c.requires.serves.settled tells) c.args.from.now c.args.to.now c.args.above.now c.args.under.now c.args.old.now c.args.name.now c.requires.split c.requires.goal_split c.requires.not_own c.requires.goal_not_own c.requires.from_fits c.requires.to_fits c.in_ok-way.field-0 (subst (λ (p : List (List ℕ)). c.in_ok-way.field-0 ≡ route_in (lists_of c.args.volume.now (g.P.SectorView.space c.args.space.now).content).catalog_pairs c.args.volume.now.private p c.args.above.now c.args.under.now c.args.name.now) c.as_slice.ensures (c.in_ok-way.ensures.found tells)) c.in-Ok.way c.in-Ok.is).at (subst (λ (k : Content). IsMove (tree_of k) c.args.from.now c.args.to.now (way_told c.sound_has_plain_tree.ensures c.args.volume.now (g.P.SectorView.space c.args.space.now).content (c.requires.serves.stands.stands tells).trees (c.requires.serves.settled tells) c.args.from.now c.args.to.now c.args.above.now c.args.under.now c.args.old.now c.args.name.now c.requires.split c.requires.goal_split c.requires.not_own c.requires.goal_not_own c.requires.from_fits c.requires.to_fits c.in_ok-way.field-0 (subst (λ (p : List (List ℕ)). c.in_ok-way.field-0 ≡ route_in (lists_of c.args.volume.now (g.P.SectorView.space c.args.space.now).content).catalog_pairs c.args.volume.now.private p c.args.above.now c.args.under.now c.args.name.now) c.as_slice.ensures (c.in_ok-way.ensures.found tells)) c.in-Ok.way c.in-Ok.is).at c.in-Ok.way.parent c.args.old.now c.in-Ok.way.id c.in-Ok.way.folder c.args.name.now) (sym (c.route.ensures.looked.reads.looks.content tells)) (may_go c.sound_has_plain_tree.ensures c.args.volume.now (g.P.SectorView.space c.args.space.now).content (c.requires.serves.stands.stands tells).trees (c.requires.serves.settled tells) c.args.from.now c.args.to.now c.args.above.now c.args.under.now c.args.old.now c.args.name.now c.requires.split c.requires.goal_split c.requires.not_own c.requires.goal_not_own c.requires.from_fits c.requires.to_fits c.in_ok-way.field-0 (subst (λ (p : List (List ℕ)). c.in_ok-way.field-0 ≡ route_in (lists_of c.args.volume.now (g.P.SectorView.space c.args.space.now).content).catalog_pairs c.args.volume.now.private p c.args.above.now c.args.under.now c.args.name.now) c.as_slice.ensures (c.in_ok-way.ensures.found tells)) c.in-Ok.way c.in-Ok.is ((λ i. is_below (sym c.as_slice-in-Ok.ensures i) (sym c.as_slice-in-Ok-2.ensures i)) ∙ sym c.is_below.ensures ∙ c.if-is_below.false)))).0)

pub returns-in_err-move_in-in-Ok-clause-edits : goal.returns-in_err-move_in-in-Ok-clause-edits
returns-in_err-move_in-in-Ok-clause-edits g c =
    edits_err c.from_residual-in_err-move_in-in-Ok.ensures.1 (edits_spent (edits_both g.met.P.SectorView.follows_trans c.route.ensures.looked.edits c.in_err-move_in-in-Ok.ensures.edits) (λ tells. omega (arith, c.route.ensures.looked.reads.looks.spare, c.move_in.ensures.edits.ran.spent (c.route.ensures.looked.reads.looks.same.tells ∙ tells), move_load_still c.args.volume.now c.route.new.self (g.P.SectorView.space c.args.space.now) (g.P.SectorView.space c.route.new.space) c.route.ensures.looked.reads tells)))

pub move_in-requires-clause-left : goal.move_in-requires-clause-left
move_in-requires-clause-left g c = left_still c.args.volume.now c.route.new.self (g.P.SectorView.space c.args.space.now) (g.P.SectorView.space c.route.new.space) 3 0 (λ told. node_large c.args.volume.now (g.P.SectorView.space c.args.space.now) c.requires.serves.stands told) c.route.ensures.looked.reads c.requires.left

pub returns-in_ok-move_in-in-Ok-clause-moves : goal.returns-in_ok-move_in-in-Ok-clause-moves
returns-in_ok-move_in-in-Ok-clause-moves g c tells = (
  record {
    entry = (way_told c.sound_has_plain_tree.ensures c.args.volume.now (g.P.SectorView.space c.args.space.now).content (c.requires.serves.stands.stands tells).trees (c.requires.serves.settled tells) c.args.from.now c.args.to.now c.args.above.now c.args.under.now c.args.old.now c.args.name.now c.requires.split c.requires.goal_split c.requires.not_own c.requires.goal_not_own c.requires.from_fits c.requires.to_fits c.in_ok-way.field-0 (subst (λ (p : List (List ℕ)). c.in_ok-way.field-0 ≡ route_in (lists_of c.args.volume.now (g.P.SectorView.space c.args.space.now).content).catalog_pairs c.args.volume.now.private p c.args.above.now c.args.under.now c.args.name.now) c.as_slice.ensures (c.in_ok-way.ensures.found tells)) c.in-Ok.way c.in-Ok.is).at;
    place = free_place c.in-Ok.way.folder c.args.name.now;
    allowed = (may_go c.sound_has_plain_tree.ensures c.args.volume.now (g.P.SectorView.space c.args.space.now).content (c.requires.serves.stands.stands tells).trees (c.requires.serves.settled tells) c.args.from.now c.args.to.now c.args.above.now c.args.under.now c.args.old.now c.args.name.now c.requires.split c.requires.goal_split c.requires.not_own c.requires.goal_not_own c.requires.from_fits c.requires.to_fits c.in_ok-way.field-0 (subst (λ (p : List (List ℕ)). c.in_ok-way.field-0 ≡ route_in (lists_of c.args.volume.now (g.P.SectorView.space c.args.space.now).content).catalog_pairs c.args.volume.now.private p c.args.above.now c.args.under.now c.args.name.now) c.as_slice.ensures (c.in_ok-way.ensures.found tells)) c.in-Ok.way c.in-Ok.is ((λ i. is_below (sym c.as_slice-in-Ok.ensures i) (sym c.as_slice-in-Ok-2.ensures i)) ∙ sym c.is_below.ensures ∙ c.if-is_below.false)).allowed;
    named = some_name c.args.name.now (fits_name c.args.under.now c.args.name.now (subst FitsPath c.requires.goal_split c.requires.to_fits)).some;
    moves = subst (λ (k : Content). MovesName (way_told c.sound_has_plain_tree.ensures c.args.volume.now (g.P.SectorView.space c.args.space.now).content (c.requires.serves.stands.stands tells).trees (c.requires.serves.settled tells) c.args.from.now c.args.to.now c.args.above.now c.args.under.now c.args.old.now c.args.name.now c.requires.split c.requires.goal_split c.requires.not_own c.requires.goal_not_own c.requires.from_fits c.requires.to_fits c.in_ok-way.field-0 (subst (λ (p : List (List ℕ)). c.in_ok-way.field-0 ≡ route_in (lists_of c.args.volume.now (g.P.SectorView.space c.args.space.now).content).catalog_pairs c.args.volume.now.private p c.args.above.now c.args.under.now c.args.name.now) c.as_slice.ensures (c.in_ok-way.ensures.found tells)) c.in-Ok.way c.in-Ok.is).at (free_place c.in-Ok.way.folder c.args.name.now) (volume_of k) (volume_of (g.P.SectorView.space c.move_in.new.space).content)) (c.route.ensures.looked.reads.looks.content tells)
        (c.in_ok-move_in-in-Ok.ensures.does (c.route.ensures.looked.reads.looks.same.tells ∙ tells) c.args.from.now c.args.to.now (way_told c.sound_has_plain_tree.ensures c.args.volume.now (g.P.SectorView.space c.args.space.now).content (c.requires.serves.stands.stands tells).trees (c.requires.serves.settled tells) c.args.from.now c.args.to.now c.args.above.now c.args.under.now c.args.old.now c.args.name.now c.requires.split c.requires.goal_split c.requires.not_own c.requires.goal_not_own c.requires.from_fits c.requires.to_fits c.in_ok-way.field-0 (subst (λ (p : List (List ℕ)). c.in_ok-way.field-0 ≡ route_in (lists_of c.args.volume.now (g.P.SectorView.space c.args.space.now).content).catalog_pairs c.args.volume.now.private p c.args.above.now c.args.under.now c.args.name.now) c.as_slice.ensures (c.in_ok-way.ensures.found tells)) c.in-Ok.way c.in-Ok.is).at (subst (λ (k : Content). IsMove (tree_of k) c.args.from.now c.args.to.now (way_told c.sound_has_plain_tree.ensures c.args.volume.now (g.P.SectorView.space c.args.space.now).content (c.requires.serves.stands.stands tells).trees (c.requires.serves.settled tells) c.args.from.now c.args.to.now c.args.above.now c.args.under.now c.args.old.now c.args.name.now c.requires.split c.requires.goal_split c.requires.not_own c.requires.goal_not_own c.requires.from_fits c.requires.to_fits c.in_ok-way.field-0 (subst (λ (p : List (List ℕ)). c.in_ok-way.field-0 ≡ route_in (lists_of c.args.volume.now (g.P.SectorView.space c.args.space.now).content).catalog_pairs c.args.volume.now.private p c.args.above.now c.args.under.now c.args.name.now) c.as_slice.ensures (c.in_ok-way.ensures.found tells)) c.in-Ok.way c.in-Ok.is).at c.in-Ok.way.parent c.args.old.now c.in-Ok.way.id c.in-Ok.way.folder c.args.name.now) (sym (c.route.ensures.looked.reads.looks.content tells)) (may_go c.sound_has_plain_tree.ensures c.args.volume.now (g.P.SectorView.space c.args.space.now).content (c.requires.serves.stands.stands tells).trees (c.requires.serves.settled tells) c.args.from.now c.args.to.now c.args.above.now c.args.under.now c.args.old.now c.args.name.now c.requires.split c.requires.goal_split c.requires.not_own c.requires.goal_not_own c.requires.from_fits c.requires.to_fits c.in_ok-way.field-0 (subst (λ (p : List (List ℕ)). c.in_ok-way.field-0 ≡ route_in (lists_of c.args.volume.now (g.P.SectorView.space c.args.space.now).content).catalog_pairs c.args.volume.now.private p c.args.above.now c.args.under.now c.args.name.now) c.as_slice.ensures (c.in_ok-way.ensures.found tells)) c.in-Ok.way c.in-Ok.is ((λ i. is_below (sym c.as_slice-in-Ok.ensures i) (sym c.as_slice-in-Ok-2.ensures i)) ∙ sym c.is_below.ensures ∙ c.if-is_below.false)))).2;
  },
  (c.in_ok-move_in-in-Ok.ensures.does (c.route.ensures.looked.reads.looks.same.tells ∙ tells) c.args.from.now c.args.to.now (way_told c.sound_has_plain_tree.ensures c.args.volume.now (g.P.SectorView.space c.args.space.now).content (c.requires.serves.stands.stands tells).trees (c.requires.serves.settled tells) c.args.from.now c.args.to.now c.args.above.now c.args.under.now c.args.old.now c.args.name.now c.requires.split c.requires.goal_split c.requires.not_own c.requires.goal_not_own c.requires.from_fits c.requires.to_fits c.in_ok-way.field-0 (subst (λ (p : List (List ℕ)). c.in_ok-way.field-0 ≡ route_in (lists_of c.args.volume.now (g.P.SectorView.space c.args.space.now).content).catalog_pairs c.args.volume.now.private p c.args.above.now c.args.under.now c.args.name.now) c.as_slice.ensures (c.in_ok-way.ensures.found tells)) c.in-Ok.way c.in-Ok.is).at (subst (λ (k : Content). IsMove (tree_of k) c.args.from.now c.args.to.now (way_told c.sound_has_plain_tree.ensures c.args.volume.now (g.P.SectorView.space c.args.space.now).content (c.requires.serves.stands.stands tells).trees (c.requires.serves.settled tells) c.args.from.now c.args.to.now c.args.above.now c.args.under.now c.args.old.now c.args.name.now c.requires.split c.requires.goal_split c.requires.not_own c.requires.goal_not_own c.requires.from_fits c.requires.to_fits c.in_ok-way.field-0 (subst (λ (p : List (List ℕ)). c.in_ok-way.field-0 ≡ route_in (lists_of c.args.volume.now (g.P.SectorView.space c.args.space.now).content).catalog_pairs c.args.volume.now.private p c.args.above.now c.args.under.now c.args.name.now) c.as_slice.ensures (c.in_ok-way.ensures.found tells)) c.in-Ok.way c.in-Ok.is).at c.in-Ok.way.parent c.args.old.now c.in-Ok.way.id c.in-Ok.way.folder c.args.name.now) (sym (c.route.ensures.looked.reads.looks.content tells)) (may_go c.sound_has_plain_tree.ensures c.args.volume.now (g.P.SectorView.space c.args.space.now).content (c.requires.serves.stands.stands tells).trees (c.requires.serves.settled tells) c.args.from.now c.args.to.now c.args.above.now c.args.under.now c.args.old.now c.args.name.now c.requires.split c.requires.goal_split c.requires.not_own c.requires.goal_not_own c.requires.from_fits c.requires.to_fits c.in_ok-way.field-0 (subst (λ (p : List (List ℕ)). c.in_ok-way.field-0 ≡ route_in (lists_of c.args.volume.now (g.P.SectorView.space c.args.space.now).content).catalog_pairs c.args.volume.now.private p c.args.above.now c.args.under.now c.args.name.now) c.as_slice.ensures (c.in_ok-way.ensures.found tells)) c.in-Ok.way c.in-Ok.is ((λ i. is_below (sym c.as_slice-in-Ok.ensures i) (sym c.as_slice-in-Ok-2.ensures i)) ∙ sym c.is_below.ensures ∙ c.if-is_below.false)))).1
      ∙ ap (λ (k : Content). (step (tree_of k) (command.Mv c.args.from.now c.args.to.now)).1) (c.route.ensures.looked.reads.looks.content tells),
)

pub returns-in-Err-clause-moves : goal.returns-in-Err-clause-moves
returns-in-Err-clause-moves g c tells = (
  (λ other. way_refused c.sound_has_plain_tree.ensures c.args.volume.now (g.P.SectorView.space c.args.space.now).content (c.requires.serves.stands.stands tells).trees (c.requires.serves.settled tells) c.args.from.now c.args.to.now c.args.above.now c.args.under.now c.args.old.now c.args.name.now c.requires.split c.requires.goal_split c.requires.not_own c.requires.goal_not_own c.requires.from_fits c.requires.to_fits c.in_ok-way.field-0 (subst (λ (p : List (List ℕ)). c.in_ok-way.field-0 ≡ route_in (lists_of c.args.volume.now (g.P.SectorView.space c.args.space.now).content).catalog_pairs c.args.volume.now.private p c.args.above.now c.args.under.now c.args.name.now) c.as_slice.ensures (c.in_ok-way.ensures.found tells)) c.in-Err.why c.in-Err.is other),
  (λ same. way_not_free c.sound_has_plain_tree.ensures c.args.volume.now (g.P.SectorView.space c.args.space.now).content (c.requires.serves.stands.stands tells).trees (c.requires.serves.settled tells) c.args.from.now c.args.to.now c.args.above.now c.args.under.now c.args.old.now c.args.name.now c.requires.split c.requires.goal_split c.requires.not_own c.requires.goal_not_own c.requires.from_fits c.requires.to_fits c.in_ok-way.field-0 (subst (λ (p : List (List ℕ)). c.in_ok-way.field-0 ≡ route_in (lists_of c.args.volume.now (g.P.SectorView.space c.args.space.now).content).catalog_pairs c.args.volume.now.private p c.args.above.now c.args.under.now c.args.name.now) c.as_slice.ensures (c.in_ok-way.ensures.found tells)) c.in-Err.why c.in-Err.is ∙ ap (λ (why : Refusal). Err why) same),
)

pub returns-then-is_below-clause-moves : goal.returns-then-is_below-clause-moves
returns-then-is_below-clause-moves g c tells = (
  (λ other. goes_inside c.sound_has_plain_tree.ensures c.args.volume.now (g.P.SectorView.space c.args.space.now).content (c.requires.serves.stands.stands tells).trees (c.requires.serves.settled tells) c.args.from.now c.args.to.now c.args.above.now c.args.under.now c.args.old.now c.args.name.now c.requires.split c.requires.goal_split c.requires.not_own c.requires.goal_not_own c.requires.from_fits c.requires.to_fits c.in_ok-way.field-0 (subst (λ (p : List (List ℕ)). c.in_ok-way.field-0 ≡ route_in (lists_of c.args.volume.now (g.P.SectorView.space c.args.space.now).content).catalog_pairs c.args.volume.now.private p c.args.above.now c.args.under.now c.args.name.now) c.as_slice.ensures (c.in_ok-way.ensures.found tells)) c.in-Ok.way c.in-Ok.is ((λ i. is_below (sym c.as_slice-in-Ok.ensures i) (sym c.as_slice-in-Ok-2.ensures i)) ∙ sym c.is_below.ensures ∙ c.if-is_below.true)),
  (λ same. absurd (cc same)),
)

pub returns-in-Err-clause-read : goal.returns-in-Err-clause-read
returns-in-Err-clause-read g c = c.route.ensures.looked.reads

pub returns-then-is_below-clause-read : goal.returns-then-is_below-clause-read
returns-then-is_below-clause-read g c = c.route.ensures.looked.reads

pub returns-in_ok-move_in-in-Ok-clause-spends : goal.returns-in_ok-move_in-in-Ok-clause-spends
returns-in_ok-move_in-in-Ok-clause-spends g c tells = inr (((way_told c.sound_has_plain_tree.ensures c.args.volume.now (g.P.SectorView.space c.args.space.now).content (c.requires.serves.stands.stands tells).trees (c.requires.serves.settled tells) c.args.from.now c.args.to.now c.args.above.now c.args.under.now c.args.old.now c.args.name.now c.requires.split c.requires.goal_split c.requires.not_own c.requires.goal_not_own c.requires.from_fits c.requires.to_fits c.in_ok-way.field-0 (subst (λ (p : List (List ℕ)). c.in_ok-way.field-0 ≡ route_in (lists_of c.args.volume.now (g.P.SectorView.space c.args.space.now).content).catalog_pairs c.args.volume.now.private p c.args.above.now c.args.under.now c.args.name.now) c.as_slice.ensures (c.in_ok-way.ensures.found tells)) c.in-Ok.way c.in-Ok.is).at, free_place c.in-Ok.way.folder c.args.name.now), (may_go c.sound_has_plain_tree.ensures c.args.volume.now (g.P.SectorView.space c.args.space.now).content (c.requires.serves.stands.stands tells).trees (c.requires.serves.settled tells) c.args.from.now c.args.to.now c.args.above.now c.args.under.now c.args.old.now c.args.name.now c.requires.split c.requires.goal_split c.requires.not_own c.requires.goal_not_own c.requires.from_fits c.requires.to_fits c.in_ok-way.field-0 (subst (λ (p : List (List ℕ)). c.in_ok-way.field-0 ≡ route_in (lists_of c.args.volume.now (g.P.SectorView.space c.args.space.now).content).catalog_pairs c.args.volume.now.private p c.args.above.now c.args.under.now c.args.name.now) c.as_slice.ensures (c.in_ok-way.ensures.found tells)) c.in-Ok.way c.in-Ok.is ((λ i. is_below (sym c.as_slice-in-Ok.ensures i) (sym c.as_slice-in-Ok-2.ensures i)) ∙ sym c.is_below.ensures ∙ c.if-is_below.false)).allowed, refl)

pub returns-in_err-move_in-in-Ok-clause-spends : goal.returns-in_err-move_in-in-Ok-clause-spends
returns-in_err-move_in-in-Ok-clause-spends g c tells = inr (((way_told c.sound_has_plain_tree.ensures c.args.volume.now (g.P.SectorView.space c.args.space.now).content (c.requires.serves.stands.stands tells).trees (c.requires.serves.settled tells) c.args.from.now c.args.to.now c.args.above.now c.args.under.now c.args.old.now c.args.name.now c.requires.split c.requires.goal_split c.requires.not_own c.requires.goal_not_own c.requires.from_fits c.requires.to_fits c.in_ok-way.field-0 (subst (λ (p : List (List ℕ)). c.in_ok-way.field-0 ≡ route_in (lists_of c.args.volume.now (g.P.SectorView.space c.args.space.now).content).catalog_pairs c.args.volume.now.private p c.args.above.now c.args.under.now c.args.name.now) c.as_slice.ensures (c.in_ok-way.ensures.found tells)) c.in-Ok.way c.in-Ok.is).at, free_place c.in-Ok.way.folder c.args.name.now), (may_go c.sound_has_plain_tree.ensures c.args.volume.now (g.P.SectorView.space c.args.space.now).content (c.requires.serves.stands.stands tells).trees (c.requires.serves.settled tells) c.args.from.now c.args.to.now c.args.above.now c.args.under.now c.args.old.now c.args.name.now c.requires.split c.requires.goal_split c.requires.not_own c.requires.goal_not_own c.requires.from_fits c.requires.to_fits c.in_ok-way.field-0 (subst (λ (p : List (List ℕ)). c.in_ok-way.field-0 ≡ route_in (lists_of c.args.volume.now (g.P.SectorView.space c.args.space.now).content).catalog_pairs c.args.volume.now.private p c.args.above.now c.args.under.now c.args.name.now) c.as_slice.ensures (c.in_ok-way.ensures.found tells)) c.in-Ok.way c.in-Ok.is ((λ i. is_below (sym c.as_slice-in-Ok.ensures i) (sym c.as_slice-in-Ok-2.ensures i)) ∙ sym c.is_below.ensures ∙ c.if-is_below.false)).allowed, refl)

pub returns-in-Err-clause-spends : goal.returns-in-Err-clause-spends
returns-in-Err-clause-spends g c tells = inl (omega (arith, c.route.ensures.looked.reads.looks.spare))

pub returns-then-is_below-clause-spends : goal.returns-then-is_below-clause-spends
returns-then-is_below-clause-spends g c tells = inl (omega (arith, c.route.ensures.looked.reads.looks.spare))

pub returns-in_err-way-clause-spends : goal.returns-in_err-way-clause-spends
returns-in_err-way-clause-spends g c tells = inl (omega (arith, c.route.ensures.looked.reads.looks.spare))

pub returns-in_ok-move_in-in-Ok-clause-beside : goal.returns-in_ok-move_in-in-Ok-clause-beside
returns-in_ok-move_in-in-Ok-clause-beside g c tells beside had = omega (arith, c.move_in.ensures.beside (c.route.ensures.looked.reads.looks.same.tells ∙ tells) beside (left_still c.args.volume.now c.route.new.self (g.P.SectorView.space c.args.space.now) (g.P.SectorView.space c.route.new.space) 3 beside (λ told. node_large c.args.volume.now (g.P.SectorView.space c.args.space.now) c.requires.serves.stands told) c.route.ensures.looked.reads had), node_still c.args.volume.now c.route.new.self (g.P.SectorView.space c.args.space.now) (g.P.SectorView.space c.route.new.space) c.route.ensures.looked.reads)

pub returns-in_err-move_in-in-Ok-clause-beside : goal.returns-in_err-move_in-in-Ok-clause-beside
returns-in_err-move_in-in-Ok-clause-beside g c tells beside had = omega (arith, c.move_in.ensures.beside (c.route.ensures.looked.reads.looks.same.tells ∙ tells) beside (left_still c.args.volume.now c.route.new.self (g.P.SectorView.space c.args.space.now) (g.P.SectorView.space c.route.new.space) 3 beside (λ told. node_large c.args.volume.now (g.P.SectorView.space c.args.space.now) c.requires.serves.stands told) c.route.ensures.looked.reads had), node_still c.args.volume.now c.route.new.self (g.P.SectorView.space c.args.space.now) (g.P.SectorView.space c.route.new.space) c.route.ensures.looked.reads)

pub returns-in-Err-clause-beside : goal.returns-in-Err-clause-beside
returns-in-Err-clause-beside g c tells beside had = omega (arith, (had.told tells).0, c.route.ensures.looked.reads.looks.spare)

pub returns-then-is_below-clause-beside : goal.returns-then-is_below-clause-beside
returns-then-is_below-clause-beside g c tells beside had = omega (arith, (had.told tells).0, c.route.ensures.looked.reads.looks.spare)

pub returns-in_err-way-clause-beside : goal.returns-in_err-way-clause-beside
returns-in_err-way-clause-beside g c tells beside had = omega (arith, (had.told tells).0, c.route.ensures.looked.reads.looks.spare)
