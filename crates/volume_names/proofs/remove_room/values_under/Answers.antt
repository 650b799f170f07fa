use Rattle.std.proofs.Common.{◌≡◌, ℕ, sym, ◌∙◌, ap, subst}
use Rattle.std.specs.Prelude.{IfOk}
use Rattle.hfs_model.specs.Step.{to_rmdir}
use Rattle.hfs_model.specs.declared.plain.PlainEntry.{PlainEntry}
use Rattle.hfs_volume.specs.Content.{VolumeState, has_attributes, volume_of}
use Rattle.hfs_volume.specs.TreeOf.{tree_of}
use Rattle.sector_disk.specs.Lists.{Content}
use Rattle.volume_header.specs.declared.header.VolumeHeader.{VolumeHeader}
use Rattle.volume_base.specs.Making.{path_to}
use Rattle.volume_base.specs.Removing.{no_values}
use Rattle.volume_base.specs.declared.value_changes.OwnedValues.{OwnedValues}
use Rattle.volume_base.proofs.LeavingFound.{leaving_refused, leaving_told}
use Rattle.volume_base.proofs.Seeing.{if_so}
use Rattle.volume_base.proofs.Noticed.{not_told}
use Rattle.volume_base.proofs.Sited.{fits_above, fits_name}
use Rattle.volume_base.proofs.Framed.{looked_both}
use Rattle.volume_names.proofs.Owned.{owned_told, same_entry}
use Rattle.volume_names.proofs.remove_room.values_under.Goals as goal

pub leaving-requires-clause-fits : goal.leaving-requires-clause-fits
leaving-requires-clause-fits g c = fits_above c.args.above.now c.args.name.now c.requires.fits

pub leaving-requires-clause-name : goal.leaving-requires-clause-name
leaving-requires-clause-name g c = (fits_name c.args.above.now c.args.name.now c.requires.fits).short

pub returns-in-Ok-clause-told : goal.returns-in-Ok-clause-told
returns-in-Ok-clause-told g c tells not_own entry is =
    let told = leaving_told c.sound_has_plain_tree.ensures c.args.volume.now (g.P.SectorView.space c.args.space.now).content (c.requires.serves.stands.stands tells).trees (c.requires.serves.settled tells) c.args.above.now c.args.name.now not_own c.requires.fits c.in_ok-at.field-0 (c.in_ok-at.ensures.found tells) c.in-Ok.at c.in-Ok.is in
    let later = c.leaving.ensures.looked.reads.looks.same.tells ∙ tells in
    owned_told c.leaving.new.self (g.P.SectorView.space c.leaving.new.space).content (g.P.SectorView.space c.args.space.now).content c.in-Ok.at.id entry.id (same_entry (tree_of (g.P.SectorView.space c.args.space.now).content) (path_to c.args.above.now c.args.name.now) c.in-Ok.at c.args.name.now entry told is)
    (c.leaving.ensures.serves.settled later) (c.leaving.ensures.looked.reads.looks.content tells) c.owned_values.result (c.owned_values.ensures.counted later) (c.owned_values.ensures.change later)

pub returns-in-Ok-clause-none : goal.returns-in-Ok-clause-none
returns-in-Ok-clause-none g c tells is =
    if_so (λ (o : OwnedValues). o ≡ no_values) (λ (o : OwnedValues). o.count ≡ 0) c.owned_values.result (λ o none. ap (λ (x : OwnedValues). x.count) none) (c.owned_values.ensures.none (ap has_attributes c.leaving.ensures.looked.reads.keeps.header ∙ is))

pub returns-in-Err-clause-told : goal.returns-in-Err-clause-told
returns-in-Err-clause-told g c tells not_own entry is =
    absurd (not_told (to_rmdir (tree_of (g.P.SectorView.space c.args.space.now).content) (path_to c.args.above.now c.args.name.now)) c.in-Err._why entry
    (leaving_refused c.sound_has_plain_tree.ensures c.args.volume.now (g.P.SectorView.space c.args.space.now).content (c.requires.serves.stands.stands tells).trees (c.requires.serves.settled tells) c.args.above.now c.args.name.now not_own c.requires.fits c.in_ok-at.field-0 (c.in_ok-at.ensures.found tells) c.in-Err._why c.in-Err.is) is)

pub returns-in-Ok-clause-looked : goal.returns-in-Ok-clause-looked
returns-in-Ok-clause-looked g c = looked_both g.met.P.SectorView.follows_trans c.leaving.ensures.looked c.owned_values.ensures.looked
