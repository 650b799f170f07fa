use Rattle.std.proofs.Common.{◌≡◌, ℕ, [], ◌∷◌, length, sym, ◌∙◌, ap, subst, arith}
use Rattle.std.specs.Prelude.{IfSome, Option, is_some}
use Rattle.sector_disk.specs.Lists.{Content}
use Rattle.hfs_language.specs.declared.reply.ChangeKind.TheVariants as change
use Rattle.hfs_model.specs.Kinds.{made_link}
use Rattle.hfs_volume.specs.Aside.{IsJournalSector}
use Rattle.hfs_volume.specs.Content.{volume_of}
use Rattle.hfs_volume.specs.TreeOf.{tree_of}
use Rattle.volume_base.specs.Making.{IsSite, free_place, path_to}
use Rattle.volume_base.specs.Room.{capacity_of}
use Rattle.volume_base.specs.Watching.{change_of}
use Rattle.volume_base.proofs.KeptMarks.{serves_kept, unchanged_kept}
use Rattle.volume_base.proofs.Noticed.{next_is}
use Rattle.volume_base.proofs.Sited.{fits_above, fits_name}
use Rattle.volume_space.proofs.Sounding.{sound_here}
use Rattle.volume_values.proofs.Spilling.{spills_behind, spills_err, spills_fewer, spills_looked, spills_ok, spills_read, spills_short}
use Rattle.volume_step.proofs.Done.{same_place}
use Rattle.volume_links.specs.Links.{HasRoomToLink, LeavesLink}
use Rattle.volume_links.proofs.LinkFine.{fine_target, folder_there, link_journal, link_place_is, link_site_is, link_steps, target_fits}
use Rattle.volume_links.proofs.LinkKept.{room_kept, spills_kept}
use Rattle.std.proofs.lemmas.Bool.{true≢false}
use Rattle.hfs_language.specs.declared.reply.Reply.TheVariants as reply
use Rattle.hfs_model.specs.declared.kinds.KindEdit.TheVariants as edit
use Rattle.volume_step.proofs.Ready.{answered_now}
use Rattle.volume_links.specs.Steps.{KindAffords}
use Rattle.volume_links.proofs.Waiting.{fits_still}
use Rattle.volume_links.proofs.symlinks.link_under.Goals as goal

pub folder-requires-clause-fits : goal.folder-requires-clause-fits
folder-requires-clause-fits g c = fits_above c.args.above.now c.args.name.now c.requires.fits

pub link_in-requires-clause-serves : goal.link_in-requires-clause-serves
link_in-requires-clause-serves g c = serves_kept c.folder.new.self c.keep.new.self c.keep.ensures (g.P.SectorView.space c.folder.new.space) c.folder.ensures.serves

pub link_in-requires-clause-closed : goal.link_in-requires-clause-closed
link_in-requires-clause-closed g c told at shut =
    let tells = sym c.folder.ensures.looked.reads.looks.same.tells ∙ told in
    subst (λ (k : Content). IsJournalSector k at) (sym (c.folder.ensures.looked.reads.looks.content tells)) (c.requires.closed tells at ((c.folder.ensures.looked.reads.looks.closed tells at).0 shut))

pub link_in-requires-clause-unchanged : goal.link_in-requires-clause-unchanged
link_in-requires-clause-unchanged g c = unchanged_kept c.folder.new.self c.keep.new.self c.keep.ensures (g.P.SectorView.space c.folder.new.space) c.folder.ensures.serves.stands.service

pub link_in-requires-clause-some : goal.link_in-requires-clause-some
link_in-requires-clause-some g c = (fits_name c.args.above.now c.args.name.now c.requires.fits).some

pub link_in-requires-clause-name : goal.link_in-requires-clause-name
link_in-requires-clause-name g c = (fits_name c.args.above.now c.args.name.now c.requires.fits).short

pub link_in-requires-clause-site : goal.link_in-requires-clause-site
link_in-requires-clause-site g c told =
    let tells = sym c.folder.ensures.looked.reads.looks.same.tells ∙ told in
    subst (λ (k : Content). IsSite (tree_of k) c.in-Ok.id c.args.name.now) (sym (c.folder.ensures.looked.reads.looks.content tells)) (link_site_is c.sound_has_plain_tree.ensures c.args.volume.now (g.P.SectorView.space c.args.space.now).content (c.requires.serves.stands.stands tells).trees (c.requires.serves.settled tells) c.args.above.now c.args.name.now c.requires.fits c.args.target.now (c.requires.affords tells).no_refusal c.in-Ok.id (sym (c.in_ok-id.ensures.found tells) ∙ c.in-Ok.is))

pub link_in-requires-clause-good : goal.link_in-requires-clause-good
link_in-requires-clause-good g c told =
    let tells = sym c.folder.ensures.looked.reads.looks.same.tells ∙ told in
    fine_target (tree_of (g.P.SectorView.space c.args.space.now).content) (path_to c.args.above.now c.args.name.now) c.args.target.now (c.requires.affords tells).no_refusal

pub link_in-requires-clause-room : goal.link_in-requires-clause-room
link_in-requires-clause-room g c = room_kept c.folder.new.self c.keep.new.self c.keep.ensures (length c.args.target.now) c.in-Some.blocks (g.P.SectorView.space c.folder.new.space) (subst (λ (o : Option ℕ). IfSome o (λ blocks. HasRoomToLink (length c.args.target.now) blocks c.folder.new.self (g.P.SectorView.space c.folder.new.space))) c.in-Some.is c.link_room.ensures.room)

pub returns-in_ok-changes-in-Ok-clause-answered : goal.returns-in_ok-changes-in-Ok-clause-answered
returns-in_ok-changes-in-Ok-clause-answered g c tells =
    let told = c.folder.ensures.looked.reads.looks.same.tells ∙ tells in
    let last = c.link_in.ensures.spills.same.tells ∙ told in
    let next : c.args.volume.now.header.next_catalog_id ≡ (tree_of (g.P.SectorView.space c.args.space.now).content).next_id = sym (next_is c.args.volume.now (g.P.SectorView.space c.args.space.now).content (c.requires.serves.settled tells)) in
    link_steps (capacity_of c.args.volume.now) c.args.number (path_to c.args.above.now c.args.name.now) c.args.target.now (g.P.SectorView.space c.args.space.now).content (g.P.SectorView.space c.link_in.new.space).content
    (sound_here c.args.volume.now (g.P.SectorView.space c.args.space.now) (c.requires.serves.stands.stands tells) (c.requires.serves.settled tells))
    (sound_here c.link_in.new.volume (g.P.SectorView.space c.link_in.new.space) (c.in_ok-link_in-in-Ok.ensures.spills.stands.stands last) (c.in_ok-link_in-in-Ok.ensures.does told).0)
    c.in-Ok.id c.args.name.now (link_place_is c.sound_has_plain_tree.ensures c.args.volume.now (g.P.SectorView.space c.args.space.now).content (c.requires.serves.stands.stands tells).trees (c.requires.serves.settled tells) c.args.above.now c.args.name.now c.requires.fits c.args.target.now (c.requires.affords tells).no_refusal c.in-Ok.id (sym (c.in_ok-id.ensures.found tells) ∙ c.in-Ok.is)) (c.requires.affords tells)
    ((c.in_ok-link_in-in-Ok.ensures.does told).1 ∙ ap (λ (k : Content). made_link (free_place c.in-Ok.id c.args.name.now) c.args.target.now (tree_of k)) (c.folder.ensures.looked.reads.looks.content tells))
    (subst (λ (k : Content). LeavesLink (length c.args.target.now) (volume_of k) (volume_of (g.P.SectorView.space c.link_in.new.space).content)) (c.folder.ensures.looked.reads.looks.content tells) (c.in_ok-link_in-in-Ok.ensures.does told).2)
    c.in_ok-changes-in-Ok.changes (c.in_ok-changes-in-Ok.ensures ∙ ap (λ n. change_of c.args.number change.Made n c.in-Ok.id c.args.name.now ∷ []) next)

pub returns-in_ok-changes-in-Ok-clause-place : goal.returns-in_ok-changes-in-Ok-clause-place
returns-in_ok-changes-in-Ok-clause-place g c tells =
    let told = c.folder.ensures.looked.reads.looks.same.tells ∙ tells in
    let last = c.link_in.ensures.spills.same.tells ∙ told in
    link_journal (capacity_of c.args.volume.now) c.args.number (path_to c.args.above.now c.args.name.now) c.args.target.now (g.P.SectorView.space c.args.space.now).content (g.P.SectorView.space c.link_in.new.space).content
    (sound_here c.args.volume.now (g.P.SectorView.space c.args.space.now) (c.requires.serves.stands.stands tells) (c.requires.serves.settled tells))
    (sound_here c.link_in.new.volume (g.P.SectorView.space c.link_in.new.space) (c.in_ok-link_in-in-Ok.ensures.spills.stands.stands last) (c.in_ok-link_in-in-Ok.ensures.does told).0)
    c.in-Ok.id c.args.name.now (link_place_is c.sound_has_plain_tree.ensures c.args.volume.now (g.P.SectorView.space c.args.space.now).content (c.requires.serves.stands.stands tells).trees (c.requires.serves.settled tells) c.args.above.now c.args.name.now c.requires.fits c.args.target.now (c.requires.affords tells).no_refusal c.in-Ok.id (sym (c.in_ok-id.ensures.found tells) ∙ c.in-Ok.is)) (c.requires.affords tells)
    ((c.in_ok-link_in-in-Ok.ensures.does told).1 ∙ ap (λ (k : Content). made_link (free_place c.in-Ok.id c.args.name.now) c.args.target.now (tree_of k)) (c.folder.ensures.looked.reads.looks.content tells))
    (subst (λ (k : Content). LeavesLink (length c.args.target.now) (volume_of k) (volume_of (g.P.SectorView.space c.link_in.new.space).content)) (c.folder.ensures.looked.reads.looks.content tells) (c.in_ok-link_in-in-Ok.ensures.does told).2)

pub returns-in_ok-changes-in-Ok-clause-serves : goal.returns-in_ok-changes-in-Ok-clause-serves
returns-in_ok-changes-in-Ok-clause-serves g c = record {
  stands = c.in_ok-link_in-in-Ok.ensures.spills.stands;
  settled = λ last. (c.in_ok-link_in-in-Ok.ensures.does (sym c.link_in.ensures.spills.same.tells ∙ last)).0;
}

pub returns-in_ok-changes-in-Ok-clause-spills : goal.returns-in_ok-changes-in-Ok-clause-spills
returns-in_ok-changes-in-Ok-clause-spills g c = spills_ok (spills_behind c.args.volume.now c.folder.new.self g.met.P.SectorView.follows_trans c.folder.ensures.looked (spills_kept c.folder.new.self c.keep.new.self c.keep.ensures c.in_ok-link_in-in-Ok.ensures.spills) (λ tells. omega (arith, ((room_kept c.folder.new.self c.keep.new.self c.keep.ensures (length c.args.target.now) c.in-Some.blocks (g.P.SectorView.space c.folder.new.space) (subst (λ (o : Option ℕ). IfSome o (λ blocks. HasRoomToLink (length c.args.target.now) blocks c.folder.new.self (g.P.SectorView.space c.folder.new.space))) c.in-Some.is c.link_room.ensures.room)).told (c.folder.ensures.looked.reads.looks.same.tells ∙ tells)).0, c.folder.ensures.looked.reads.looks.spare)))

pub returns-in_err-changes-in-Ok-clause-spills : goal.returns-in_err-changes-in-Ok-clause-spills
returns-in_err-changes-in-Ok-clause-spills g c = spills_err c.from_residual-in_err-changes-in-Ok.ensures.1 (spills_short {U = ℕ} (spills_behind c.args.volume.now c.folder.new.self g.met.P.SectorView.follows_trans c.folder.ensures.looked (spills_kept c.folder.new.self c.keep.new.self c.keep.ensures c.in_ok-link_in-in-Ok.ensures.spills) (λ tells. omega (arith, ((room_kept c.folder.new.self c.keep.new.self c.keep.ensures (length c.args.target.now) c.in-Some.blocks (g.P.SectorView.space c.folder.new.space) (subst (λ (o : Option ℕ). IfSome o (λ blocks. HasRoomToLink (length c.args.target.now) blocks c.folder.new.self (g.P.SectorView.space c.folder.new.space))) c.in-Some.is c.link_room.ensures.room)).told (c.folder.ensures.looked.reads.looks.same.tells ∙ tells)).0, c.folder.ensures.looked.reads.looks.spare))))

pub returns-in_err-link_in-in-Ok-clause-spills : goal.returns-in_err-link_in-in-Ok-clause-spills
returns-in_err-link_in-in-Ok-clause-spills g c = spills_err c.from_residual-in_err-link_in-in-Ok.ensures.1 (spills_behind c.args.volume.now c.folder.new.self g.met.P.SectorView.follows_trans c.folder.ensures.looked (spills_kept c.folder.new.self c.keep.new.self c.keep.ensures c.in_err-link_in-in-Ok.ensures.spills) (λ tells. omega (arith, ((room_kept c.folder.new.self c.keep.new.self c.keep.ensures (length c.args.target.now) c.in-Some.blocks (g.P.SectorView.space c.folder.new.space) (subst (λ (o : Option ℕ). IfSome o (λ blocks. HasRoomToLink (length c.args.target.now) blocks c.folder.new.self (g.P.SectorView.space c.folder.new.space))) c.in-Some.is c.link_room.ensures.room)).told (c.folder.ensures.looked.reads.looks.same.tells ∙ tells)).0, c.folder.ensures.looked.reads.looks.spare)))

pub returns-in_default-clause-answered : goal.returns-in_default-clause-answered
returns-in_default-clause-answered g c tells = (c.folder.ensures.looked.reads.looks.content tells)

pub returns-in_default-clause-place : goal.returns-in_default-clause-place
returns-in_default-clause-place g c tells = same_place (g.P.SectorView.space c.args.space.now).content (g.P.SectorView.space c.folder.new.space).content (c.folder.ensures.looked.reads.looks.content tells)

pub returns-in_default-clause-spills : goal.returns-in_default-clause-spills
returns-in_default-clause-spills g c = spills_read c.args.volume.now c.folder.ensures.looked

pub returns-in-Err-clause-answered : goal.returns-in-Err-clause-answered
returns-in-Err-clause-answered g c tells = (c.folder.ensures.looked.reads.looks.content tells)

pub returns-in-Err-clause-place : goal.returns-in-Err-clause-place
returns-in-Err-clause-place g c tells = same_place (g.P.SectorView.space c.args.space.now).content (g.P.SectorView.space c.folder.new.space).content (c.folder.ensures.looked.reads.looks.content tells)

pub returns-in-Err-clause-spills : goal.returns-in-Err-clause-spills
returns-in-Err-clause-spills g c = spills_read c.args.volume.now c.folder.ensures.looked

pub returns-in_err-id-clause-spills : goal.returns-in_err-id-clause-spills
returns-in_err-id-clause-spills g c = spills_err c.from_residual.ensures.1 (spills_fewer (spills_looked c.args.volume.now c.in_err-id.ensures.looked) (λ tells. omega arith))

-- ---- no commit comes first

pub returns-in_ok-changes-in-Ok-clause-done : goal.returns-in_ok-changes-in-Ok-clause-done
returns-in_ok-changes-in-Ok-clause-done g c tells same = answered_now reply.Ok c.in_ok-changes-in-Ok.changes same

pub returns-in_default-clause-done : goal.returns-in_default-clause-done
returns-in_default-clause-done g c tells =
    let reads = c.folder.ensures.looked.reads in
    let told = reads.looks.same.tells ∙ tells in
    let v = c.args.volume.now in
    let a = g.P.SectorView.space c.args.space.now in
    let w = c.folder.new.self in
    let b = g.P.SectorView.space c.folder.new.space in
    let asked = edit.Symlink (path_to c.args.above.now c.args.name.now) c.args.target.now in
    let fits = target_fits w b (sound_here w b (c.folder.ensures.serves.stands.stands told) (c.folder.ensures.serves.settled told)) (path_to c.args.above.now c.args.name.now) c.args.target.now
    (subst (λ (k : ℕ × Content). KindAffords k.0 asked k.1) {x = (capacity_of v, a.content)} {y = (capacity_of w, b.content)} (λ i. (sym reads.keeps.capacity i, sym (reads.looks.content tells) i)) (c.requires.affords tells))
    (fits_still v w a b reads tells asked (0 ∷ 0 ∷ 0 ∷ []) (c.requires.now tells)) in
    absurd (true≢false (sym (c.link_room.ensures.met told fits) ∙ ap is_some c.in_default.is))

pub returns-in-Err-clause-done : goal.returns-in-Err-clause-done
returns-in-Err-clause-done g c tells =
    absurd (folder_there c.sound_has_plain_tree.ensures c.args.volume.now (g.P.SectorView.space c.args.space.now).content (c.requires.serves.stands.stands tells).trees (c.requires.serves.settled tells) c.args.above.now c.args.name.now c.requires.fits c.args.target.now (c.requires.affords tells).no_refusal
    c.in-Err._why (sym (c.in_ok-id.ensures.found tells) ∙ c.in-Err.is))
