use Rattle.std.proofs.Common.{ℕ, length, refl, ◌∙◌}
use Rattle.hfs_volume.specs.Content.{volume_of}
use Rattle.hfs_volume.specs.TreeOf.{tree_of}
use Rattle.volume_base.specs.Making.{free_place, path_to}
use Rattle.volume_base.specs.Room.{capacity_of, free_in}
use Rattle.volume_base.specs.declared.room.FreeBlocks.TheVariants as blocks
use Rattle.volume_base.proofs.Sited.{fits_above, fits_name, site_refused, site_told}
use Rattle.volume_base.proofs.Looked.{looked_fault, looked_wanting}
use Rattle.volume_links.specs.Steps.{site_weighed}
use Rattle.volume_links.proofs.Symlinked.{link_refused, link_site, link_why}
use Rattle.volume_links.proofs.judging.weigh_link.Goals as goal

pub site-requires-clause-fits : goal.site-requires-clause-fits
site-requires-clause-fits g c = fits_above c.args.above.now c.args.name.now c.requires.fits

pub site-requires-clause-name : goal.site-requires-clause-name
site-requires-clause-name g c = (fits_name c.args.above.now c.args.name.now c.requires.fits).short

pub site_weight-requires-clause-few : goal.site_weight-requires-clause-few
site_weight-requires-clause-few g c = c.in_ok-good.ensures.few

pub returns-in-Ok-clause-answer : goal.returns-in-Ok-clause-answer
returns-in-Ok-clause-answer g c tells =
    let content = (g.P.SectorView.space c.args.space.now).content in
    c.site_weight.ensures.exact (c.site.ensures.looked.reads.looks.same.tells ∙ tells)
    ∙ (λ i. site_weighed (c.in_ok-good.ensures.exact i) (c.site.ensures.looked.reads.keeps.capacity i) (free_in blocks.Takable (c.site.ensures.looked.reads.keeps.map i)) (volume_of (c.site.ensures.looked.reads.looks.content tells i)) (length c.args.value.now))
    ∙ link_site content (c.requires.serves.settled tells).sound (path_to c.args.above.now c.args.name.now) c.args.value.now c.requires.not_own (free_place c.in-Ok._id c.args.name.now) (site_told c.sound_has_plain_tree.ensures c.args.volume.now (g.P.SectorView.space c.args.space.now).content (c.requires.serves.stands.stands tells).trees (c.requires.serves.settled tells) (path_to c.args.above.now c.args.name.now) c.args.above.now c.args.name.now refl c.requires.not_own c.requires.fits c.in_ok-site.site (c.in_ok-site.ensures.found tells) c.in-Ok._id c.in-Ok.is)
    (capacity_of c.args.volume.now) (free_in blocks.Takable c.args.volume.now.map)

pub returns-in_err-good-clause-looked : goal.returns-in_err-good-clause-looked
returns-in_err-good-clause-looked g c = looked_fault c.from_residual.ensures.1 (looked_wanting {T = ℕ} g.met.P.SectorView.follows_refl c.requires.serves.stands)

pub returns-in-Err-clause-answer : goal.returns-in-Err-clause-answer
returns-in-Err-clause-answer g c tells =
    let content = (g.P.SectorView.space c.args.space.now).content in
    link_why (tree_of content) (path_to c.args.above.now c.args.name.now) c.args.value.now (capacity_of c.args.volume.now) (free_in blocks.Takable c.args.volume.now.map) (volume_of content) c.in-Err.why
    (link_refused (tree_of content) (path_to c.args.above.now c.args.name.now) c.args.value.now c.requires.not_own c.in-Err.why (site_refused c.sound_has_plain_tree.ensures c.args.volume.now (g.P.SectorView.space c.args.space.now).content (c.requires.serves.stands.stands tells).trees (c.requires.serves.settled tells) (path_to c.args.above.now c.args.name.now) c.args.above.now c.args.name.now refl c.requires.not_own c.requires.fits c.in_ok-site.site (c.in_ok-site.ensures.found tells) c.in-Err.why c.in-Err.is))
