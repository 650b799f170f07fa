use Rattle.std.proofs.Common.{◌≡◌, [], ◌∷◌, sym, ◌∙◌, ap, subst, arith, ℕ}
use Rattle.std.specs.Prelude.{Some}
use Rattle.sector_disk.specs.Lists.{Content}
use Rattle.catalog.specs.Pairs.{value_at}
use Rattle.volume_header.specs.declared.header.VolumeHeader.{VolumeHeader}
use Rattle.hfs_language.specs.declared.reply.ChangeKind.TheVariants as change
use Rattle.hfs_model.specs.Step.{made}
use Rattle.hfs_model.proofs.Below.{last_name-last}
use Rattle.hfs_volume.specs.Commands.{MakesEntry}
use Rattle.hfs_volume.specs.Content.{volume_of}
use Rattle.hfs_volume.specs.TreeOf.{tree_of}
use Rattle.volume_runs.specs.Told.{of_made}
use Rattle.volume_base.specs.Lists.{lists_of}
use Rattle.volume_base.specs.Making.{IsSite, free_place, new_value}
use Rattle.volume_base.specs.Watching.{change_of}
use Rattle.volume_base.proofs.MakeRoom.{load_still, make_room_still}
use Rattle.volume_base.proofs.Noticed.{next_is}
use Rattle.volume_base.proofs.Sited.{fits_above, fits_name, some_name}
use Rattle.volume_names.proofs.Fine.{fine_site, fine_told, fine_tree}
use Rattle.volume_base.proofs.Framed.{edits_err, edits_ok, edits_spent}
use Rattle.volume_base.proofs.Joined.{edits_both, edits_serves, edits_short}
use Rattle.volume_names.proofs.making.make_under.Goals as goal

pub folder-requires-clause-fits : goal.folder-requires-clause-fits
folder-requires-clause-fits g c = fits_above c.args.above.now c.args.name.now c.requires.fits

pub make_in-requires-clause-some : goal.make_in-requires-clause-some
make_in-requires-clause-some g c = (fits_name c.args.above.now c.args.name.now c.requires.fits).some

pub make_in-requires-clause-name : goal.make_in-requires-clause-name
make_in-requires-clause-name g c = (fits_name c.args.above.now c.args.name.now c.requires.fits).short

pub make_in-requires-clause-site : goal.make_in-requires-clause-site
make_in-requires-clause-site g c tells =
    let before = sym c.folder.ensures.looked.reads.looks.same.tells ∙ tells in
    subst (λ (k : Content). IsSite (tree_of k) c.in-Ok.id c.args.name.now) (sym (c.folder.ensures.looked.reads.looks.content before))
    (fine_site c.sound_has_plain_tree.ensures c.args.volume.now (g.P.SectorView.space c.args.space.now).content (c.requires.serves.stands.stands before).trees (c.requires.serves.settled before) c.args.above.now c.args.name.now c.requires.fits c.args.folder (c.requires.fine before) c.in-Ok.id (sym (c.in_ok-id.ensures.found before) ∙ c.in-Ok.is))

pub make_in-requires-clause-room : goal.make_in-requires-clause-room
make_in-requires-clause-room g c = make_room_still c.args.volume.now c.folder.new.self (g.P.SectorView.space c.args.space.now) (g.P.SectorView.space c.folder.new.space) c.folder.ensures.looked.reads c.requires.room

pub returns-in_ok-one_change-in-Ok-clause-told : goal.returns-in_ok-one_change-in-Ok-clause-told
returns-in_ok-one_change-in-Ok-clause-told g c tells =
    let next : c.args.volume.now.header.next_catalog_id ≡ (tree_of (g.P.SectorView.space c.args.space.now).content).next_id = sym (next_is c.args.volume.now (g.P.SectorView.space c.args.space.now).content (c.requires.serves.settled tells)) in
    c.in_ok-one_change-in-Ok.ensures ∙ ap (λ n. change_of c.args.line change.Made n c.in-Ok.id c.args.name.now ∷ []) next
    ∙ ap (of_made c.args.line (tree_of (g.P.SectorView.space c.args.space.now).content)) (sym (fine_told c.sound_has_plain_tree.ensures c.args.volume.now (g.P.SectorView.space c.args.space.now).content (c.requires.serves.stands.stands tells).trees (c.requires.serves.settled tells) c.args.above.now c.args.name.now c.requires.fits c.args.folder (c.requires.fine tells) c.in-Ok.id (sym (c.in_ok-id.ensures.found tells) ∙ c.in-Ok.is)))

pub returns-in_ok-one_change-in-Ok-clause-tree : goal.returns-in_ok-one_change-in-Ok-clause-tree
returns-in_ok-one_change-in-Ok-clause-tree g c tells =
    (c.in_ok-make_in-in-Ok.ensures.does (c.folder.ensures.looked.reads.looks.same.tells ∙ tells)).1
    ∙ ap (λ (k : Content). made c.args.folder (free_place c.in-Ok.id c.args.name.now) (tree_of k)) (c.folder.ensures.looked.reads.looks.content tells)
    ∙ fine_tree c.sound_has_plain_tree.ensures c.args.volume.now (g.P.SectorView.space c.args.space.now).content (c.requires.serves.stands.stands tells).trees (c.requires.serves.settled tells) c.args.above.now c.args.name.now c.requires.fits c.args.folder (c.requires.fine tells) c.in-Ok.id (sym (c.in_ok-id.ensures.found tells) ∙ c.in-Ok.is)

pub returns-in_ok-one_change-in-Ok-clause-edits : goal.returns-in_ok-one_change-in-Ok-clause-edits
returns-in_ok-one_change-in-Ok-clause-edits g c =
    edits_ok (edits_spent (edits_both g.met.P.SectorView.follows_trans c.folder.ensures.looked.edits c.in_ok-make_in-in-Ok.ensures.edits) (λ tells. omega (arith, c.folder.ensures.looked.reads.looks.spare, c.make_in.ensures.edits.ran.spent (c.folder.ensures.looked.reads.looks.same.tells ∙ tells), load_still c.args.volume.now c.folder.new.self (g.P.SectorView.space c.args.space.now) (g.P.SectorView.space c.folder.new.space) c.folder.ensures.looked.reads tells)))

pub returns-in_ok-one_change-in-Ok-clause-serves : goal.returns-in_ok-one_change-in-Ok-clause-serves
returns-in_ok-one_change-in-Ok-clause-serves g c =
    edits_serves (returns-in_ok-one_change-in-Ok-clause-edits g c) (λ tells. (c.in_ok-make_in-in-Ok.ensures.does (c.folder.ensures.looked.reads.looks.same.tells ∙ tells)).0)

pub returns-in_ok-one_change-in-Ok-clause-lists : goal.returns-in_ok-one_change-in-Ok-clause-lists
returns-in_ok-one_change-in-Ok-clause-lists g c tells = record {
  place = free_place c.in-Ok.id c.args.name.now;
  allowed = fine_told c.sound_has_plain_tree.ensures c.args.volume.now (g.P.SectorView.space c.args.space.now).content (c.requires.serves.stands.stands tells).trees (c.requires.serves.settled tells) c.args.above.now c.args.name.now c.requires.fits c.args.folder (c.requires.fine tells) c.in-Ok.id (sym (c.in_ok-id.ensures.found tells) ∙ c.in-Ok.is);
  named = some_name c.args.name.now (fits_name c.args.above.now c.args.name.now c.requires.fits).some;
  makes = subst (λ (k : Content). MakesEntry c.args.folder (free_place c.in-Ok.id c.args.name.now) (volume_of k) (volume_of (g.P.SectorView.space c.make_in.new.space).content)) (c.folder.ensures.looked.reads.looks.content tells)
      (c.in_ok-make_in-in-Ok.ensures.does (c.folder.ensures.looked.reads.looks.same.tells ∙ tells)).3;
}

pub returns-in_err-one_change-in-Ok-clause-edits : goal.returns-in_err-one_change-in-Ok-clause-edits
returns-in_err-one_change-in-Ok-clause-edits g c =
    edits_err c.from_residual-in_err-one_change-in-Ok.ensures.1 (edits_short {U = ℕ} (edits_spent (edits_both g.met.P.SectorView.follows_trans c.folder.ensures.looked.edits c.in_ok-make_in-in-Ok.ensures.edits) (λ tells. omega (arith, c.folder.ensures.looked.reads.looks.spare, c.make_in.ensures.edits.ran.spent (c.folder.ensures.looked.reads.looks.same.tells ∙ tells), load_still c.args.volume.now c.folder.new.self (g.P.SectorView.space c.args.space.now) (g.P.SectorView.space c.folder.new.space) c.folder.ensures.looked.reads tells))))

pub returns-in_err-make_in-in-Ok-clause-edits : goal.returns-in_err-make_in-in-Ok-clause-edits
returns-in_err-make_in-in-Ok-clause-edits g c =
    edits_err c.from_residual-in_err-make_in-in-Ok.ensures.1 (edits_spent (edits_both g.met.P.SectorView.follows_trans c.folder.ensures.looked.edits c.in_err-make_in-in-Ok.ensures.edits) (λ tells. omega (arith, c.folder.ensures.looked.reads.looks.spare, c.make_in.ensures.edits.ran.spent (c.folder.ensures.looked.reads.looks.same.tells ∙ tells), load_still c.args.volume.now c.folder.new.self (g.P.SectorView.space c.args.space.now) (g.P.SectorView.space c.folder.new.space) c.folder.ensures.looked.reads tells)))

pub returns-in_ok-one_change-in-Ok-clause-entry : goal.returns-in_ok-one_change-in-Ok-clause-entry
returns-in_ok-one_change-in-Ok-clause-entry g c tells = record {
  parent = c.in-Ok.id;
  stands = (λ i. value_at (lists_of c.make_in.new.volume (g.P.SectorView.space c.make_in.new.space).content).catalog_pairs c.in-Ok.id (last_name-last c.args.above.now c.args.name.now i))
      ∙ (c.in_ok-make_in-in-Ok.ensures.does (c.folder.ensures.looked.reads.looks.same.tells ∙ tells)).2
      ∙ ap (λ (h : VolumeHeader). Some (new_value c.args.folder h.next_catalog_id h.modify_date)) c.folder.ensures.looked.reads.keeps.header;
}
