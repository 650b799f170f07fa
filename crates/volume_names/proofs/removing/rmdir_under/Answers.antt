use Rattle.std.proofs.Common.{[], sym, ◌∙◌, ap, subst, arith}
use Rattle.std.proofs.lemmas.Bool.{true≢false}
use Rattle.sector_disk.specs.Lists.{Content}
use Rattle.hfs_model.specs.Step.{removed_folder}
use Rattle.hfs_volume.specs.Content.{volume_of}
use Rattle.hfs_volume.specs.TreeOf.{tree_of}
use Rattle.volume_base.specs.Making.{path_to}
use Rattle.volume_base.specs.Removing.{IsLeaving, TakesFolder, bare_load, folder_at, owned_at}
use Rattle.volume_base.proofs.BareLoads.{bare_load_still, remove_all_told}
use Rattle.volume_base.proofs.LeavingFound.{is_leaving, leaving_refused, leaving_told, refused_line, removed_line}
use Rattle.volume_base.proofs.RoomToRemove.{remove_load_still, remove_room_still}
use Rattle.volume_base.proofs.Sited.{fits_above, fits_name}
use Rattle.volume_base.proofs.Framed.{looked_ok}
use Rattle.volume_base.proofs.Freed.{frees_behind, frees_edits, frees_err, frees_looked, frees_ok}
use Rattle.volume_names.proofs.Bared.{values_removed}
use Rattle.volume_names.proofs.removing.rmdir_under.Goals as goal

pub leaving-requires-clause-fits : goal.leaving-requires-clause-fits
leaving-requires-clause-fits g c = fits_above c.args.above.now c.args.name.now c.requires.fits

pub leaving-requires-clause-name : goal.leaving-requires-clause-name
leaving-requires-clause-name g c = (fits_name c.args.above.now c.args.name.now c.requires.fits).short

pub remove_bare-requires-clause-some : goal.remove_bare-requires-clause-some
remove_bare-requires-clause-some g c = (fits_name c.args.above.now c.args.name.now c.requires.fits).some

pub remove_bare-requires-clause-name : goal.remove_bare-requires-clause-name
remove_bare-requires-clause-name g c = (fits_name c.args.above.now c.args.name.now c.requires.fits).short

pub remove_bare-requires-clause-leaving : goal.remove_bare-requires-clause-leaving
remove_bare-requires-clause-leaving g c tells =
    let before = sym c.leaving.ensures.looked.reads.looks.same.tells ∙ tells in
    subst (λ (k : Content). IsLeaving (tree_of k) c.in-Ok.at c.args.name.now) (sym (c.leaving.ensures.looked.reads.looks.content before))
    (is_leaving c.sound_has_plain_tree.ensures c.args.volume.now (g.P.SectorView.space c.args.space.now).content (c.requires.serves.stands.stands before).trees (c.requires.serves.settled before) c.args.above.now c.args.name.now c.requires.not_own c.requires.fits c.in_ok-at.field-0 (c.in_ok-at.ensures.found before) c.in-Ok.at c.in-Ok.is)

pub remove_bare-requires-clause-room : goal.remove_bare-requires-clause-room
remove_bare-requires-clause-room g c = remove_room_still c.args.volume.now c.leaving.new.self (g.P.SectorView.space c.args.space.now) (g.P.SectorView.space c.leaving.new.space) c.leaving.ensures.looked.reads c.requires.room

pub returns-in_ok-remove_bare-in-Ok-clause-reply : goal.returns-in_ok-remove_bare-in-Ok-clause-reply
returns-in_ok-remove_bare-in-Ok-clause-reply g c tells =
    (removed_line (tree_of (g.P.SectorView.space c.args.space.now).content) (path_to c.args.above.now c.args.name.now) (folder_at c.in-Ok.at c.args.name.now) c.requires.not_own (leaving_told c.sound_has_plain_tree.ensures c.args.volume.now (g.P.SectorView.space c.args.space.now).content (c.requires.serves.stands.stands tells).trees (c.requires.serves.settled tells) c.args.above.now c.args.name.now c.requires.not_own c.requires.fits c.in_ok-at.field-0 (c.in_ok-at.ensures.found tells) c.in-Ok.at c.in-Ok.is)).0

pub returns-in_ok-remove_bare-in-Ok-clause-tree : goal.returns-in_ok-remove_bare-in-Ok-clause-tree
returns-in_ok-remove_bare-in-Ok-clause-tree g c tells =
    (c.in_ok-remove_bare-in-Ok.ensures.does (c.leaving.ensures.looked.reads.looks.same.tells ∙ tells)).1
    ∙ ap (λ (k : Content). removed_folder (folder_at c.in-Ok.at c.args.name.now) (tree_of k)) (c.leaving.ensures.looked.reads.looks.content tells)
    ∙ (removed_line (tree_of (g.P.SectorView.space c.args.space.now).content) (path_to c.args.above.now c.args.name.now) (folder_at c.in-Ok.at c.args.name.now) c.requires.not_own (leaving_told c.sound_has_plain_tree.ensures c.args.volume.now (g.P.SectorView.space c.args.space.now).content (c.requires.serves.stands.stands tells).trees (c.requires.serves.settled tells) c.args.above.now c.args.name.now c.requires.not_own c.requires.fits c.in_ok-at.field-0 (c.in_ok-at.ensures.found tells) c.in-Ok.at c.in-Ok.is)).1

pub returns-in_ok-remove_bare-in-Ok-clause-frees : goal.returns-in_ok-remove_bare-in-Ok-clause-frees
returns-in_ok-remove_bare-in-Ok-clause-frees g c = frees_ok (frees_behind g.met.P.SectorView.follows_trans c.leaving.ensures.looked c.in_ok-remove_bare-in-Ok.ensures.frees)

pub returns-in_ok-remove_bare-in-Ok-clause-serves : goal.returns-in_ok-remove_bare-in-Ok-clause-serves
returns-in_ok-remove_bare-in-Ok-clause-serves g c = record {
  stands = c.in_ok-remove_bare-in-Ok.ensures.frees.ran.stands;
  settled = λ last. let tells = sym c.leaving.ensures.looked.reads.looks.same.tells ∙ sym (c.remove_bare.ensures.frees.ran.touches []).same.tells ∙ last in
      (c.in_ok-remove_bare-in-Ok.ensures.does (c.leaving.ensures.looked.reads.looks.same.tells ∙ tells)).0;
}

pub returns-in_ok-remove_bare-in-Ok-clause-refused : goal.returns-in_ok-remove_bare-in-Ok-clause-refused
returns-in_ok-remove_bare-in-Ok-clause-refused g c tells is = absurd (true≢false (sym is))

pub returns-in_err-remove_bare-in-Ok-clause-frees : goal.returns-in_err-remove_bare-in-Ok-clause-frees
returns-in_err-remove_bare-in-Ok-clause-frees g c =
    frees_err c.from_residual-in_err-remove_bare-in-Ok.ensures.1 (frees_behind g.met.P.SectorView.follows_trans c.leaving.ensures.looked c.in_err-remove_bare-in-Ok.ensures.frees)

pub returns-in-Err-clause-frees : goal.returns-in-Err-clause-frees
returns-in-Err-clause-frees g c = frees_edits (looked_ok 0 c.leaving.ensures.looked)

pub returns-in_err-at-clause-frees : goal.returns-in_err-at-clause-frees
returns-in_err-at-clause-frees g c = frees_err c.from_residual.ensures.1 (frees_looked c.in_err-at.ensures.looked)

pub returns-in-Err-clause-reply : goal.returns-in-Err-clause-reply
returns-in-Err-clause-reply g c tells =
    (refused_line (tree_of (g.P.SectorView.space c.args.space.now).content) (path_to c.args.above.now c.args.name.now) c.in-Err.why c.requires.not_own (leaving_refused c.sound_has_plain_tree.ensures c.args.volume.now (g.P.SectorView.space c.args.space.now).content (c.requires.serves.stands.stands tells).trees (c.requires.serves.settled tells) c.args.above.now c.args.name.now c.requires.not_own c.requires.fits c.in_ok-at.field-0 (c.in_ok-at.ensures.found tells) c.in-Err.why c.in-Err.is)).0

pub returns-in-Err-clause-tree : goal.returns-in-Err-clause-tree
returns-in-Err-clause-tree g c tells =
    ap (λ (k : Content). tree_of k) (c.leaving.ensures.looked.reads.looks.content tells)
    ∙ (refused_line (tree_of (g.P.SectorView.space c.args.space.now).content) (path_to c.args.above.now c.args.name.now) c.in-Err.why c.requires.not_own (leaving_refused c.sound_has_plain_tree.ensures c.args.volume.now (g.P.SectorView.space c.args.space.now).content (c.requires.serves.stands.stands tells).trees (c.requires.serves.settled tells) c.args.above.now c.args.name.now c.requires.not_own c.requires.fits c.in_ok-at.field-0 (c.in_ok-at.ensures.found tells) c.in-Err.why c.in-Err.is)).1

pub returns-in-Err-clause-refused : goal.returns-in-Err-clause-refused
returns-in-Err-clause-refused g c tells is = c.leaving.ensures.looked.reads.looks.content tells

pub returns-in_ok-remove_bare-in-Ok-clause-loads : goal.returns-in_ok-remove_bare-in-Ok-clause-loads
returns-in_ok-remove_bare-in-Ok-clause-loads g c tells n grow is =
    omega (
      arith,
      c.leaving.ensures.looked.reads.looks.spare,
      c.remove_bare.ensures.spent (c.leaving.ensures.looked.reads.looks.same.tells ∙ tells),
      remove_load_still c.args.volume.now c.leaving.new.self (g.P.SectorView.space c.args.space.now) (g.P.SectorView.space c.leaving.new.space) c.leaving.ensures.looked.reads tells,
      bare_load_still c.args.volume.now c.leaving.new.self (g.P.SectorView.space c.args.space.now) (g.P.SectorView.space c.leaving.new.space) c.leaving.ensures.looked.reads tells (owned_at c.in-Ok.at.id (volume_of (g.P.SectorView.space c.leaving.new.space).content)),
      ap (λ (k : Content). bare_load (owned_at c.in-Ok.at.id (volume_of k)) c.args.volume.now) (c.leaving.ensures.looked.reads.looks.content tells),
      remove_all_told c.sound_has_plain_tree.ensures c.args.volume.now (g.P.SectorView.space c.args.space.now) (c.requires.serves.stands.stands tells) (c.requires.serves.settled tells) (c.requires.room.told tells).2 c.args.volume.now.capacity (path_to c.args.above.now c.args.name.now) c.in-Ok.at c.args.name.now n grow
          (is_leaving c.sound_has_plain_tree.ensures c.args.volume.now (g.P.SectorView.space c.args.space.now).content (c.requires.serves.stands.stands tells).trees (c.requires.serves.settled tells) c.args.above.now c.args.name.now c.requires.not_own c.requires.fits c.in_ok-at.field-0 (c.in_ok-at.ensures.found tells) c.in-Ok.at c.in-Ok.is)
          (leaving_told c.sound_has_plain_tree.ensures c.args.volume.now (g.P.SectorView.space c.args.space.now).content (c.requires.serves.stands.stands tells).trees (c.requires.serves.settled tells) c.args.above.now c.args.name.now c.requires.not_own c.requires.fits c.in_ok-at.field-0 (c.in_ok-at.ensures.found tells) c.in-Ok.at c.in-Ok.is) is,
    )

pub returns-in_err-remove_bare-in-Ok-clause-loads : goal.returns-in_err-remove_bare-in-Ok-clause-loads
returns-in_err-remove_bare-in-Ok-clause-loads g c tells n grow is =
    omega (
      arith,
      c.leaving.ensures.looked.reads.looks.spare,
      c.remove_bare.ensures.spent (c.leaving.ensures.looked.reads.looks.same.tells ∙ tells),
      remove_load_still c.args.volume.now c.leaving.new.self (g.P.SectorView.space c.args.space.now) (g.P.SectorView.space c.leaving.new.space) c.leaving.ensures.looked.reads tells,
      bare_load_still c.args.volume.now c.leaving.new.self (g.P.SectorView.space c.args.space.now) (g.P.SectorView.space c.leaving.new.space) c.leaving.ensures.looked.reads tells (owned_at c.in-Ok.at.id (volume_of (g.P.SectorView.space c.leaving.new.space).content)),
      ap (λ (k : Content). bare_load (owned_at c.in-Ok.at.id (volume_of k)) c.args.volume.now) (c.leaving.ensures.looked.reads.looks.content tells),
      remove_all_told c.sound_has_plain_tree.ensures c.args.volume.now (g.P.SectorView.space c.args.space.now) (c.requires.serves.stands.stands tells) (c.requires.serves.settled tells) (c.requires.room.told tells).2 c.args.volume.now.capacity (path_to c.args.above.now c.args.name.now) c.in-Ok.at c.args.name.now n grow
          (is_leaving c.sound_has_plain_tree.ensures c.args.volume.now (g.P.SectorView.space c.args.space.now).content (c.requires.serves.stands.stands tells).trees (c.requires.serves.settled tells) c.args.above.now c.args.name.now c.requires.not_own c.requires.fits c.in_ok-at.field-0 (c.in_ok-at.ensures.found tells) c.in-Ok.at c.in-Ok.is)
          (leaving_told c.sound_has_plain_tree.ensures c.args.volume.now (g.P.SectorView.space c.args.space.now).content (c.requires.serves.stands.stands tells).trees (c.requires.serves.settled tells) c.args.above.now c.args.name.now c.requires.not_own c.requires.fits c.in_ok-at.field-0 (c.in_ok-at.ensures.found tells) c.in-Ok.at c.in-Ok.is) is,
    )

pub returns-in-Err-clause-loads : goal.returns-in-Err-clause-loads
returns-in-Err-clause-loads g c tells n grow is = omega (arith, c.leaving.ensures.looked.reads.looks.spare)

pub returns-in_err-at-clause-loads : goal.returns-in_err-at-clause-loads
returns-in_err-at-clause-loads g c tells n grow is = omega (arith, c.leaving.ensures.looked.reads.looks.spare)

pub returns-in_ok-remove_bare-in-Ok-clause-lists : goal.returns-in_ok-remove_bare-in-Ok-clause-lists
returns-in_ok-remove_bare-in-Ok-clause-lists g c tells is = record {
  entry = folder_at c.in-Ok.at c.args.name.now;
  allowed = leaving_told c.sound_has_plain_tree.ensures c.args.volume.now (g.P.SectorView.space c.args.space.now).content (c.requires.serves.stands.stands tells).trees (c.requires.serves.settled tells) c.args.above.now c.args.name.now c.requires.not_own c.requires.fits c.in_ok-at.field-0 (c.in_ok-at.ensures.found tells) c.in-Ok.at c.in-Ok.is;
  takes = (subst (λ (k : Content). TakesFolder c.in-Ok.at.id (volume_of k) (volume_of (g.P.SectorView.space c.remove_bare.new.space).content)) (c.leaving.ensures.looked.reads.looks.content tells)
      (c.in_ok-remove_bare-in-Ok.ensures.takes (c.leaving.ensures.looked.reads.looks.same.tells ∙ tells)));
  values = values_removed c.rmdir_does_its_step.ensures (g.P.SectorView.space c.args.space.now).content (g.P.SectorView.space c.remove_bare.new.space).content (c.requires.serves.settled tells).sound c.in-Ok.at c.args.name.now
      (record { path = path_to c.args.above.now c.args.name.now; allowed = (leaving_told c.sound_has_plain_tree.ensures c.args.volume.now (g.P.SectorView.space c.args.space.now).content (c.requires.serves.stands.stands tells).trees (c.requires.serves.settled tells) c.args.above.now c.args.name.now c.requires.not_own c.requires.fits c.in_ok-at.field-0 (c.in_ok-at.ensures.found tells) c.in-Ok.at c.in-Ok.is) }) (subst (λ (k : Content). TakesFolder c.in-Ok.at.id (volume_of k) (volume_of (g.P.SectorView.space c.remove_bare.new.space).content)) (c.leaving.ensures.looked.reads.looks.content tells)
      (c.in_ok-remove_bare-in-Ok.ensures.takes (c.leaving.ensures.looked.reads.looks.same.tells ∙ tells)));
}

pub returns-in-Err-clause-lists : goal.returns-in-Err-clause-lists
returns-in-Err-clause-lists g c tells is = absurd (cc is)
