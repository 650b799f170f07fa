use Rattle.std.proofs.Common.{◌≡◌, refl, sym, ◌∙◌, ap, subst}
use Rattle.std.specs.Prelude.{Ok, Err}
use Rattle.sector_disk.specs.Lists.{Content}
use Rattle.hfs_language.specs.Written.{FitsPath}
use Rattle.hfs_model.specs.Step.{is_root, to_make}
use Rattle.hfs_volume.specs.TreeOf.{tree_of}
use Rattle.volume_base.proofs.Refused.{link_refusal, site_is, site_word}
use Rattle.volume_base.proofs.Rising.{settled_is_plain}
use Rattle.volume_base.proofs.Sited.{fits_above, fits_name, not_root, site_refused, site_told}
use Rattle.volume_base.proofs.Framed.{looked_both}
use Rattle.volume_base.proofs.Looked.{looked_again, looked_fault}
use Rattle.volume_base.proofs.volume.Volume.refused_link.Goals as goal

pub site-requires-clause-fits : goal.site-requires-clause-fits
site-requires-clause-fits g c = fits_above c.args.under.now c.args.name.now (subst FitsPath c.requires.split c.requires.to_fits)

pub site-requires-clause-name : goal.site-requires-clause-name
site-requires-clause-name g c = (fits_name c.args.under.now c.args.name.now (subst FitsPath c.requires.split c.requires.to_fits)).short

pub returns-in_ok-site-in-Ok-clause-told : goal.returns-in_ok-site-in-Ok-clause-told
returns-in_ok-site-in-Ok-clause-told g c tells =
    c.against_link.ensures ∙ link_refusal (tree_of (g.P.SectorView.space c.args.space.now).content) (settled_is_plain c.sound_has_plain_tree.ensures c.args.self.now (g.P.SectorView.space c.args.space.now).content (c.requires.serves.stands.stands tells).trees (c.requires.serves.settled tells)) c.args.from.now c.args.to.now c.requires.not_root (ap is_root c.requires.split ∙ not_root c.args.under.now c.args.name.now) c.requires.not_own (Ok c.in-Ok.told) (sym c.in-Ok.is ∙ c.in_ok-told.ensures.told tells) c.in_ok-site-in-Ok.site
    (subst (λ (k : Content). c.in_ok-site-in-Ok.site ≡ site_word (to_make (tree_of k) c.args.to.now)) (c.facts.ensures.looked.reads.looks.content tells) (site_is (to_make (tree_of (g.P.SectorView.space c.facts.new.space).content) c.args.to.now) c.args.name.now c.in_ok-site-in-Ok.site
    (site_told c.sound_has_plain_tree.ensures c.facts.new.self (g.P.SectorView.space c.facts.new.space).content (c.facts.ensures.looked.stands.stands (c.facts.ensures.looked.reads.looks.same.tells ∙ tells)).trees (c.facts.ensures.serves.settled (c.facts.ensures.looked.reads.looks.same.tells ∙ tells)) c.args.to.now c.args.under.now c.args.name.now c.requires.split c.requires.not_own c.requires.to_fits c.in_ok-site-in-Ok.site (c.in_ok-site-in-Ok.ensures.found (c.facts.ensures.looked.reads.looks.same.tells ∙ tells)))
    (site_refused c.sound_has_plain_tree.ensures c.facts.new.self (g.P.SectorView.space c.facts.new.space).content (c.facts.ensures.looked.stands.stands (c.facts.ensures.looked.reads.looks.same.tells ∙ tells)).trees (c.facts.ensures.serves.settled (c.facts.ensures.looked.reads.looks.same.tells ∙ tells)) c.args.to.now c.args.under.now c.args.name.now c.requires.split c.requires.not_own c.requires.to_fits c.in_ok-site-in-Ok.site (c.in_ok-site-in-Ok.ensures.found (c.facts.ensures.looked.reads.looks.same.tells ∙ tells)))))

pub returns-in-Err-clause-told : goal.returns-in-Err-clause-told
returns-in-Err-clause-told g c tells =
    link_refusal (tree_of (g.P.SectorView.space c.args.space.now).content) (settled_is_plain c.sound_has_plain_tree.ensures c.args.self.now (g.P.SectorView.space c.args.space.now).content (c.requires.serves.stands.stands tells).trees (c.requires.serves.settled tells)) c.args.from.now c.args.to.now c.requires.not_root (ap is_root c.requires.split ∙ not_root c.args.under.now c.args.name.now) c.requires.not_own (Err c.in-Err.why) (sym c.in-Err.is ∙ c.in_ok-told.ensures.told tells) (site_word (to_make (tree_of (g.P.SectorView.space c.args.space.now).content) c.args.to.now)) refl

pub returns-in_err-site-in-Ok-clause-looked : goal.returns-in_err-site-in-Ok-clause-looked
returns-in_err-site-in-Ok-clause-looked g c = looked_fault c.from_residual-in_err-site-in-Ok.ensures.1 (looked_both g.met.P.SectorView.follows_trans c.facts.ensures.looked c.in_err-site-in-Ok.ensures.looked)

pub returns-in_ok-site-in-Ok-clause-looked : goal.returns-in_ok-site-in-Ok-clause-looked
returns-in_ok-site-in-Ok-clause-looked g c = looked_again (looked_both g.met.P.SectorView.follows_trans c.facts.ensures.looked c.site.ensures.looked)
