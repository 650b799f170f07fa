use Rattle.std.proofs.Common.{◌≡◌, ℕ, List, [], ◌∷◌, sym, ◌∙◌, ap, subst}
use Rattle.hfs_language.specs.Written.{FitsPath}
use Rattle.volume_base.specs.Lists.{lists_of}
use Rattle.volume_base.specs.Watching.{change_of, standing_in}
use Rattle.volume_base.proofs.Sited.{fits_above}
use Rattle.volume_base.proofs.Watched.{not_err, place_of, standing_told, standing_value}
use Rattle.volume_base.proofs.Looked.{looked_fault, looked_short}
use Rattle.volume_base.proofs.volume.Volume.change_under.Goals as goal

pub standing-requires-clause-fits : goal.standing-requires-clause-fits
standing-requires-clause-fits g c = subst FitsPath (sym c.as_slice.ensures) c.requires.fits

pub standing-requires-clause-above_fits : goal.standing-requires-clause-above_fits
standing-requires-clause-above_fits g c = fits_above c.args.above.now c.args.name.now (subst FitsPath c.requires.split c.requires.fits)

pub returns-in_ok-one_change-in-Ok-clause-told : goal.returns-in_ok-one_change-in-Ok-clause-told
returns-in_ok-one_change-in-Ok-clause-told g c tells not_own entry is =
    let told = standing_told c.sound_has_plain_tree.ensures c.args.self.now (g.P.SectorView.space c.args.space.now).content (c.requires.serves.stands.stands tells).trees (c.requires.serves.settled tells) c.args.path.now c.args.above.now c.args.name.now c.requires.split not_own c.requires.fits c.in_ok-at.field-0 (c.in_ok-at.ensures.found tells ∙ ap (λ (p : List (List ℕ)). standing_in (lists_of c.args.self.now (g.P.SectorView.space c.args.space.now).content).catalog_pairs c.args.self.now.private p c.args.above.now) c.as_slice.ensures) entry is in
    let same : c.in-Ok.at ≡ place_of entry = ap (standing_value c.in-Ok.at) (sym c.in-Ok.is ∙ told.0) in
    c.in_ok-one_change-in-Ok.ensures ∙ (λ i. change_of c.args.line c.args.kind (same i).id (same i).parent (sym told.1 i) ∷ [])

pub returns-in-Err-clause-told : goal.returns-in-Err-clause-told
returns-in-Err-clause-told g c tells not_own entry is =
    let told = standing_told c.sound_has_plain_tree.ensures c.args.self.now (g.P.SectorView.space c.args.space.now).content (c.requires.serves.stands.stands tells).trees (c.requires.serves.settled tells) c.args.path.now c.args.above.now c.args.name.now c.requires.split not_own c.requires.fits c.in_ok-at.field-0 (c.in_ok-at.ensures.found tells ∙ ap (λ (p : List (List ℕ)). standing_in (lists_of c.args.self.now (g.P.SectorView.space c.args.space.now).content).catalog_pairs c.args.self.now.private p c.args.above.now) c.as_slice.ensures) entry is in
    absurd (not_err c.in-Err._why (place_of entry) c.in_ok-at.field-0 c.in-Err.is told.0)

pub returns-in_err-one_change-in-Ok-clause-looked : goal.returns-in_err-one_change-in-Ok-clause-looked
returns-in_err-one_change-in-Ok-clause-looked g c = looked_fault c.from_residual-in_err-one_change-in-Ok.ensures.1 (looked_short {U = ℕ} c.standing.ensures.looked)
