use Rattle.std.proofs.Common.{◌+◌, ◌*◌, ℕ, List, sym, ◌∙◌, ap, subst}
use Rattle.std.specs.Prelude.{Option}
use Rattle.hfs_language.specs.Written.{FitsPath}
use Rattle.hfs_model.specs.Step.{is_private_path, reached}
use Rattle.hfs_volume.specs.TreeOf.{tree_of}
use Rattle.volume_base.specs.Changing.{catalog_node}
use Rattle.volume_base.specs.declared.weighing.Edits.{Edits}
use Rattle.volume_base.proofs.Looked.{looked_again}
use Rattle.volume_base.proofs.Lost.{is_loss, lost}
use Rattle.volume_base.proofs.Sited.{fits_above, fits_name}
use Rattle.volume_names.specs.EditsLeft.{HasLoadFor}
use Rattle.volume_names.specs.LossLoads.{loss_edits}
use Rattle.volume_names.specs.Moving.{replace_edits}
use Rattle.volume_names.proofs.EditsFit.{replace_fits}
use Rattle.volume_names.proofs.LossWeight.{replace_updates, replaces_counted}
use Rattle.volume_names.proofs.fitting.fits_replace.Goals as goal

pub losing-requires-clause-fits : goal.losing-requires-clause-fits
losing-requires-clause-fits g c = fits_above c.args.under.now c.args.name.now (subst FitsPath c.requires.split c.requires.fits)

pub losing-requires-clause-name : goal.losing-requires-clause-name
losing-requires-clause-name g c = (fits_name c.args.under.now c.args.name.now (subst FitsPath c.requires.split c.requires.fits)).short

pub returns-in-Ok-clause-room : goal.returns-in-Ok-clause-room
returns-in-Ok-clause-room g c fits tells =
    let v = c.args.volume.now in
    let w = c.losing.new.volume in
    let old = g.P.SectorView.space c.args.space.now in
    let read = g.P.SectorView.space c.losing.new.space in
    let path = sym c.requires.split in
    let loss = is_loss c.sound_has_plain_tree.ensures v old.content (c.requires.serves.stands.stands tells).trees (c.requires.serves.settled tells) c.args.under.now c.args.name.now (ap is_private_path (sym c.requires.split) ∙ c.requires.not_own) (subst FitsPath c.requires.split c.requires.fits) c.in_ok-at.field-0 (c.in_ok-at.ensures.found tells) c.in-Ok.at c.in-Ok.is in
    let entry = lost c.sound_has_plain_tree.ensures v old.content (c.requires.serves.stands.stands tells).trees (c.requires.serves.settled tells) c.args.under.now c.args.name.now (ap is_private_path (sym c.requires.split) ∙ c.requires.not_own) (subst FitsPath c.requires.split c.requires.fits) c.in_ok-at.field-0 (c.in_ok-at.ensures.found tells) c.in-Ok.at c.in-Ok.is in
    let counted = c.requires.counted tells entry (ap (reached (tree_of old.content)) c.requires.split ∙ loss.reaches_it) in
    let many = replaces_counted c.sound_has_plain_tree.ensures v old (c.requires.serves.stands.stands tells) (c.requires.serves.settled tells) c.requires.serves.stands.service.fits.next_catalog_id c.args.under.now c.args.name.now (ap is_private_path (sym c.requires.split) ∙ c.requires.not_own) (subst FitsPath c.requires.split c.requires.fits) c.in_ok-at.field-0 (c.in_ok-at.ensures.found tells) c.in-Ok.at c.in-Ok.is c.args.links counted in
    subst (λ (p : List (List ℕ)). HasLoadFor (loss_edits (tree_of old.content) p + 3) (1 + 6 * catalog_node w) w read) path
    (replace_fits c.a_load_says_enough.ensures c.a_load_is_of_parts.ensures w read c.losing.ensures.serves.settled c.replace_edits-edits.result _
    (ap (λ (e : Edits). e.catalog) (c.replace_edits-edits.ensures.same) ∙ ap (λ (p : Option ℕ). (replace_edits p c.in-Ok.at.link c.args.links).catalog) c.losing.ensures.looked.reads.keeps.private ∙ many)
    (ap (λ (e : Edits). e.updates) c.replace_edits-edits.ensures.same ∙ replace_updates w.private c.in-Ok.at.link c.args.links) (λ told. sym (c.can_edit.ensures told) ∙ fits))

pub returns-in-Ok-clause-looked : goal.returns-in-Ok-clause-looked
returns-in-Ok-clause-looked g c = looked_again c.losing.ensures.looked

pub returns-in-Err-clause-looked : goal.returns-in-Err-clause-looked
returns-in-Err-clause-looked g c = looked_again c.losing.ensures.looked
