use Rattle.std.proofs.Common.{◌≡◌, ◌∙◌, subst}
use Rattle.std.specs.Prelude.{IfOk, length}
use Rattle.attributes.specs.Owned.{names_of}
use Rattle.hfs_volume.specs.Content.{volume_of}
use Rattle.hfs_volume.specs.TreeOf.{tree_of}
use Rattle.volume_base.specs.Making.{path_to}
use Rattle.volume_base.specs.Removing.{folder_at, owned_at}
use Rattle.volume_base.specs.Values.{values_owned}
use Rattle.volume_base.specs.Room.{free_in}
use Rattle.volume_base.specs.Weighing.{values_weighed}
use Rattle.volume_base.specs.declared.room.FreeBlocks.TheVariants as blocks
use Rattle.volume_base.specs.declared.weighing.Weight.{Weight}
use Rattle.volume_base.proofs.BareLoads.{owner_count, owner_values}
use Rattle.volume_base.proofs.LeavingFound.{is_leaving, leaving_refused, leaving_told}
use Rattle.volume_base.proofs.RemoveWeight.{removal_allowed, removal_refused}
use Rattle.volume_base.proofs.Sited.{fits_above, fits_name}
use Rattle.volume_base.proofs.Framed.{looked_both}
use Rattle.volume_weights.proofs.remove_weight.weigh_rmdir_under.Goals as goal

pub leaving-requires-clause-fits : goal.leaving-requires-clause-fits
leaving-requires-clause-fits g c = fits_above c.args.above.now c.args.name.now c.requires.fits

pub leaving-requires-clause-name : goal.leaving-requires-clause-name
leaving-requires-clause-name g c = (fits_name c.args.above.now c.args.name.now c.requires.fits).short

pub returns-in-Ok-clause-answer : goal.returns-in-Ok-clause-answer
returns-in-Ok-clause-answer g c tells =
    let told = leaving_told c.sound_has_plain_tree.ensures c.args.volume.now (g.P.SectorView.space c.args.space.now).content (c.requires.serves.stands.stands tells).trees (c.requires.serves.settled tells) c.args.above.now c.args.name.now c.requires.not_own c.requires.fits c.in_ok-at.field-0 (c.in_ok-at.ensures.found tells) c.in-Ok.at c.in-Ok.is in
    let leaves = is_leaving c.sound_has_plain_tree.ensures c.args.volume.now (g.P.SectorView.space c.args.space.now).content (c.requires.serves.stands.stands tells).trees (c.requires.serves.settled tells) c.args.above.now c.args.name.now c.requires.not_own c.requires.fits c.in_ok-at.field-0 (c.in_ok-at.ensures.found tells) c.in-Ok.at c.in-Ok.is in
    subst (λ (w : Weight). IfOk c.weigh_removal.result (λ (weighs : Weight). weighs ≡ w))
    ((λ i. values_weighed (c.leaving.ensures.looked.reads.keeps.capacity i) (free_in blocks.Takable (c.leaving.ensures.looked.reads.keeps.map i)) (volume_of (c.leaving.ensures.looked.reads.looks.content tells i))
    (record { ids = 0; catalog = 2; attributes = length (names_of c.in-Ok.at.id (volume_of (c.leaving.ensures.looked.reads.looks.content tells i)).attribute_pairs); updates = 1 }) (values_owned (volume_of (c.leaving.ensures.looked.reads.looks.content tells i)) c.in-Ok.at.id))
    ∙ removal_allowed c.args.volume.now.capacity (free_in blocks.Takable c.args.volume.now.map) (volume_of (g.P.SectorView.space c.args.space.now).content) (tree_of (g.P.SectorView.space c.args.space.now).content) (path_to c.args.above.now c.args.name.now) c.requires.not_own (folder_at c.in-Ok.at c.args.name.now) told
    (owned_at c.in-Ok.at.id (volume_of (g.P.SectorView.space c.args.space.now).content))
    (owner_count c.sound_has_plain_tree.ensures c.args.volume.now (g.P.SectorView.space c.args.space.now) (c.requires.serves.stands.stands tells) (c.requires.serves.settled tells) c.in-Ok.at c.args.name.now leaves)
    (owner_values c.sound_has_plain_tree.ensures c.args.volume.now (g.P.SectorView.space c.args.space.now) (c.requires.serves.stands.stands tells) (c.requires.serves.settled tells) c.in-Ok.at c.args.name.now leaves))
    (c.weigh_removal.ensures.exact (c.leaving.ensures.looked.reads.looks.same.tells ∙ tells))

pub returns-in-Ok-clause-looked : goal.returns-in-Ok-clause-looked
returns-in-Ok-clause-looked g c = looked_both g.met.P.SectorView.follows_trans c.leaving.ensures.looked c.weigh_removal.ensures.looked

pub returns-in-Err-clause-answer : goal.returns-in-Err-clause-answer
returns-in-Err-clause-answer g c tells =
    removal_refused c.args.volume.now.capacity (free_in blocks.Takable c.args.volume.now.map) (volume_of (g.P.SectorView.space c.args.space.now).content) (tree_of (g.P.SectorView.space c.args.space.now).content) (path_to c.args.above.now c.args.name.now) c.requires.not_own c.in-Err.why
    (leaving_refused c.sound_has_plain_tree.ensures c.args.volume.now (g.P.SectorView.space c.args.space.now).content (c.requires.serves.stands.stands tells).trees (c.requires.serves.settled tells) c.args.above.now c.args.name.now c.requires.not_own c.requires.fits c.in_ok-at.field-0 (c.in_ok-at.ensures.found tells) c.in-Err.why c.in-Err.is)
