use Rattle.std.proofs.Common.{◌≡◌, ℕ, List, refl, sym, ◌∙◌, ap, subst}
use Rattle.std.specs.Prelude.{Err}
use Rattle.sector_disk.specs.Lists.{Content}
use Rattle.hfs_language.specs.Written.{FitsPath}
use Rattle.hfs_language.specs.declared.command.Command.TheVariants as command
use Rattle.hfs_language.specs.declared.refusal.Refusal.{Refusal}
use Rattle.hfs_language.specs.declared.refusal.Refusal.TheVariants as refusal
use Rattle.hfs_model.specs.Step.{is_below}
use Rattle.hfs_volume.specs.Content.{volume_of}
use Rattle.hfs_volume.specs.TreeOf.{tree_of}
use Rattle.volume_base.specs.Lists.{lists_of}
use Rattle.volume_base.specs.Making.{free_place}
use Rattle.volume_base.specs.Moving.{route_in, to_free}
use Rattle.volume_base.specs.Room.{free_in}
use Rattle.volume_base.specs.Weighing.{edits_weighed, weighed}
use Rattle.volume_base.specs.declared.room.FreeBlocks.TheVariants as blocks
use Rattle.volume_base.specs.declared.weighing.Weight.{Weight}
use Rattle.volume_weights.proofs.MoveWeight.{move_allowed, move_refused}
use Rattle.volume_base.proofs.Framed.{looked_both}
use Rattle.volume_base.proofs.Freeing.{exists_is}
use Rattle.volume_base.proofs.Routed.{goes_inside, may_go, way_not_free, way_refused, way_told}
use Rattle.volume_base.proofs.Seeing.{if_so}
use Rattle.volume_base.proofs.Sited.{fits_above, fits_name}
use Rattle.volume_weights.proofs.move_weight.weigh_mv_under.Goals as goal

pub route-requires-clause-from_fits : goal.route-requires-clause-from_fits
route-requires-clause-from_fits g c = subst FitsPath (sym c.as_slice.ensures) c.requires.from_fits

pub route-requires-clause-above_fits : goal.route-requires-clause-above_fits
route-requires-clause-above_fits g c = fits_above c.args.above.now c.args.old.now (subst FitsPath c.requires.split c.requires.from_fits)

pub route-requires-clause-under_fits : goal.route-requires-clause-under_fits
route-requires-clause-under_fits g c = fits_above c.args.under.now c.args.name.now (subst FitsPath c.requires.goal_split c.requires.to_fits)

pub route-requires-clause-name : goal.route-requires-clause-name
route-requires-clause-name g c = (fits_name c.args.under.now c.args.name.now (subst FitsPath c.requires.goal_split c.requires.to_fits)).short

pub returns-else-is_below-clause-answer : goal.returns-else-is_below-clause-answer
returns-else-is_below-clause-answer g c tells =
    (c.weigh_edits.ensures.exact (c.route.ensures.looked.reads.looks.same.tells ∙ tells)
    ∙ (λ i. edits_weighed (c.route.ensures.looked.reads.keeps.capacity i) (free_in blocks.Takable (c.route.ensures.looked.reads.keeps.map i)) (volume_of (c.route.ensures.looked.reads.looks.content tells i)) (record { ids = 0; catalog = 3; attributes = 0; updates = 3 })))
    ∙ move_allowed c.args.volume.now.capacity (free_in blocks.Takable c.args.volume.now.map) (volume_of (g.P.SectorView.space c.args.space.now).content) (tree_of (g.P.SectorView.space c.args.space.now).content) c.args.from.now c.args.to.now c.requires.not_own c.requires.goal_not_own ((way_told c.sound_has_plain_tree.ensures c.args.volume.now (g.P.SectorView.space c.args.space.now).content (c.requires.serves.stands.stands tells).trees (c.requires.serves.settled tells) c.args.from.now c.args.to.now c.args.above.now c.args.under.now c.args.old.now c.args.name.now c.requires.split c.requires.goal_split c.requires.not_own c.requires.goal_not_own c.requires.from_fits c.requires.to_fits c.in_ok-_way.field-0 (subst (λ (p : List (List ℕ)). c.in_ok-_way.field-0 ≡ route_in (lists_of c.args.volume.now (g.P.SectorView.space c.args.space.now).content).catalog_pairs c.args.volume.now.private p c.args.above.now c.args.under.now c.args.name.now) c.as_slice.ensures (c.in_ok-_way.ensures.found tells)) c.in-Ok._way c.in-Ok.is).at, free_place c.in-Ok._way.folder c.args.name.now) (may_go c.sound_has_plain_tree.ensures c.args.volume.now (g.P.SectorView.space c.args.space.now).content (c.requires.serves.stands.stands tells).trees (c.requires.serves.settled tells) c.args.from.now c.args.to.now c.args.above.now c.args.under.now c.args.old.now c.args.name.now c.requires.split c.requires.goal_split c.requires.not_own c.requires.goal_not_own c.requires.from_fits c.requires.to_fits c.in_ok-_way.field-0 (subst (λ (p : List (List ℕ)). c.in_ok-_way.field-0 ≡ route_in (lists_of c.args.volume.now (g.P.SectorView.space c.args.space.now).content).catalog_pairs c.args.volume.now.private p c.args.above.now c.args.under.now c.args.name.now) c.as_slice.ensures (c.in_ok-_way.ensures.found tells)) c.in-Ok._way c.in-Ok.is ((λ i. is_below (sym c.as_slice-in-Ok.ensures i) (sym c.as_slice-in-Ok-2.ensures i)) ∙ sym c.is_below.ensures ∙ c.if-is_below.false)).allowed refl

pub weigh_over-requires-clause-taken : goal.weigh_over-requires-clause-taken
weigh_over-requires-clause-taken g c later =
    let tells = sym c.route.ensures.looked.reads.looks.same.tells ∙ later in
    subst (λ (k : Content). to_free (tree_of k) c.args.from.now c.args.to.now ≡ Err refusal.Exists) (sym (c.route.ensures.looked.reads.looks.content tells))
    (way_not_free c.sound_has_plain_tree.ensures c.args.volume.now (g.P.SectorView.space c.args.space.now).content (c.requires.serves.stands.stands tells).trees (c.requires.serves.settled tells) c.args.from.now c.args.to.now c.args.above.now c.args.under.now c.args.old.now c.args.name.now c.requires.split c.requires.goal_split c.requires.not_own c.requires.goal_not_own c.requires.from_fits c.requires.to_fits c.in_ok-_way.field-0 (subst (λ (p : List (List ℕ)). c.in_ok-_way.field-0 ≡ route_in (lists_of c.args.volume.now (g.P.SectorView.space c.args.space.now).content).catalog_pairs c.args.volume.now.private p c.args.above.now c.args.under.now c.args.name.now) c.as_slice.ensures (c.in_ok-_way.ensures.found tells)) c.in-Err.why c.in-Err.is ∙ ap (λ (w : Refusal). Err w) (exists_is c.in-Err.why (sym c.is_exists.ensures ∙ c.if-is_exists.true)))

pub returns-then-is_exists-clause-answer : goal.returns-then-is_exists-clause-answer
returns-then-is_exists-clause-answer g c tells =
    if_so (λ (w : Weight). w ≡ weighed c.route.new.self.capacity (free_in blocks.Takable c.route.new.self.map) (volume_of (g.P.SectorView.space c.route.new.space).content) (tree_of (g.P.SectorView.space c.route.new.space).content) (command.Mv c.args.from.now c.args.to.now))
    (λ (w : Weight). w ≡ weighed c.args.volume.now.capacity (free_in blocks.Takable c.args.volume.now.map) (volume_of (g.P.SectorView.space c.args.space.now).content) (tree_of (g.P.SectorView.space c.args.space.now).content) (command.Mv c.args.from.now c.args.to.now)) c.weigh_over.result
    (λ w is. is ∙ (λ i. weighed (c.route.ensures.looked.reads.keeps.capacity i) (free_in blocks.Takable (c.route.ensures.looked.reads.keeps.map i)) (volume_of (c.route.ensures.looked.reads.looks.content tells i)) (tree_of (c.route.ensures.looked.reads.looks.content tells i)) (command.Mv c.args.from.now c.args.to.now)))
    (c.weigh_over.ensures.answer (c.route.ensures.looked.reads.looks.same.tells ∙ tells))

pub returns-then-is_exists-clause-looked : goal.returns-then-is_exists-clause-looked
returns-then-is_exists-clause-looked g c = looked_both g.met.P.SectorView.follows_trans c.route.ensures.looked c.weigh_over.ensures.looked

pub returns-else-is_exists-clause-answer : goal.returns-else-is_exists-clause-answer
returns-else-is_exists-clause-answer g c tells =
    move_refused c.args.volume.now.capacity (free_in blocks.Takable c.args.volume.now.map) (volume_of (g.P.SectorView.space c.args.space.now).content) (tree_of (g.P.SectorView.space c.args.space.now).content) c.args.from.now c.args.to.now c.requires.not_own c.requires.goal_not_own c.in-Err.why
    (way_refused c.sound_has_plain_tree.ensures c.args.volume.now (g.P.SectorView.space c.args.space.now).content (c.requires.serves.stands.stands tells).trees (c.requires.serves.settled tells) c.args.from.now c.args.to.now c.args.above.now c.args.under.now c.args.old.now c.args.name.now c.requires.split c.requires.goal_split c.requires.not_own c.requires.goal_not_own c.requires.from_fits c.requires.to_fits c.in_ok-_way.field-0 (subst (λ (p : List (List ℕ)). c.in_ok-_way.field-0 ≡ route_in (lists_of c.args.volume.now (g.P.SectorView.space c.args.space.now).content).catalog_pairs c.args.volume.now.private p c.args.above.now c.args.under.now c.args.name.now) c.as_slice.ensures (c.in_ok-_way.ensures.found tells)) c.in-Err.why c.in-Err.is (sym c.is_exists.ensures ∙ c.if-is_exists.false))

pub returns-then-is_below-clause-answer : goal.returns-then-is_below-clause-answer
returns-then-is_below-clause-answer g c tells = move_refused c.args.volume.now.capacity (free_in blocks.Takable c.args.volume.now.map) (volume_of (g.P.SectorView.space c.args.space.now).content) (tree_of (g.P.SectorView.space c.args.space.now).content) c.args.from.now c.args.to.now c.requires.not_own c.requires.goal_not_own refusal.Inside (goes_inside c.sound_has_plain_tree.ensures c.args.volume.now (g.P.SectorView.space c.args.space.now).content (c.requires.serves.stands.stands tells).trees (c.requires.serves.settled tells) c.args.from.now c.args.to.now c.args.above.now c.args.under.now c.args.old.now c.args.name.now c.requires.split c.requires.goal_split c.requires.not_own c.requires.goal_not_own c.requires.from_fits c.requires.to_fits c.in_ok-_way.field-0 (subst (λ (p : List (List ℕ)). c.in_ok-_way.field-0 ≡ route_in (lists_of c.args.volume.now (g.P.SectorView.space c.args.space.now).content).catalog_pairs c.args.volume.now.private p c.args.above.now c.args.under.now c.args.name.now) c.as_slice.ensures (c.in_ok-_way.ensures.found tells)) c.in-Ok._way c.in-Ok.is ((λ i. is_below (sym c.as_slice-in-Ok.ensures i) (sym c.as_slice-in-Ok-2.ensures i)) ∙ sym c.is_below.ensures ∙ c.if-is_below.true))
