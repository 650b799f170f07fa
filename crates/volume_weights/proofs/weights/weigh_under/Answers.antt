use Rattle.std.proofs.Common.{refl, ◌∙◌}
use Rattle.hfs_volume.specs.Content.{volume_of}
use Rattle.hfs_volume.specs.TreeOf.{tree_of}
use Rattle.volume_base.specs.Making.{free_place, path_to}
use Rattle.volume_base.specs.Room.{free_in}
use Rattle.volume_base.specs.Weighing.{edits_weighed}
use Rattle.volume_base.specs.declared.room.FreeBlocks.TheVariants as blocks
use Rattle.volume_weights.proofs.CommandWeights.{make_allowed, make_refused}
use Rattle.volume_base.proofs.Sited.{fits_above, fits_name, site_refused, site_told}
use Rattle.volume_weights.proofs.weights.weigh_under.Goals as goal

pub site-requires-clause-fits : goal.site-requires-clause-fits
site-requires-clause-fits g c = fits_above c.args.above.now c.args.name.now c.requires.fits

pub site-requires-clause-name : goal.site-requires-clause-name
site-requires-clause-name g c = (fits_name c.args.above.now c.args.name.now c.requires.fits).short

pub returns-in-Ok-clause-answer : goal.returns-in-Ok-clause-answer
returns-in-Ok-clause-answer g c tells folder =
    (c.weigh_edits.ensures.exact (c.site.ensures.looked.reads.looks.same.tells ∙ tells)
    ∙ (λ i. edits_weighed (c.site.ensures.looked.reads.keeps.capacity i) (free_in blocks.Takable (c.site.ensures.looked.reads.keeps.map i)) (volume_of (c.site.ensures.looked.reads.looks.content tells i)) (record { ids = 1; catalog = 2; attributes = 0; updates = 1 })))
    ∙ make_allowed c.args.volume.now.capacity (free_in blocks.Takable c.args.volume.now.map) (volume_of (g.P.SectorView.space c.args.space.now).content) (tree_of (g.P.SectorView.space c.args.space.now).content) (path_to c.args.above.now c.args.name.now) folder c.requires.not_own (free_place c.in-Ok._id c.args.name.now) (site_told c.sound_has_plain_tree.ensures c.args.volume.now (g.P.SectorView.space c.args.space.now).content (c.requires.serves.stands.stands tells).trees (c.requires.serves.settled tells) (path_to c.args.above.now c.args.name.now) c.args.above.now c.args.name.now refl c.requires.not_own c.requires.fits c.in_ok-_id.field-0 (c.in_ok-_id.ensures.found tells) c.in-Ok._id c.in-Ok.is)

pub returns-in-Err-clause-answer : goal.returns-in-Err-clause-answer
returns-in-Err-clause-answer g c tells folder = make_refused c.args.volume.now.capacity (free_in blocks.Takable c.args.volume.now.map) (volume_of (g.P.SectorView.space c.args.space.now).content) (tree_of (g.P.SectorView.space c.args.space.now).content) (path_to c.args.above.now c.args.name.now) folder c.requires.not_own c.in-Err.why (site_refused c.sound_has_plain_tree.ensures c.args.volume.now (g.P.SectorView.space c.args.space.now).content (c.requires.serves.stands.stands tells).trees (c.requires.serves.settled tells) (path_to c.args.above.now c.args.name.now) c.args.above.now c.args.name.now refl c.requires.not_own c.requires.fits c.in_ok-_id.field-0 (c.in_ok-_id.ensures.found tells) c.in-Err.why c.in-Err.is)
