use Rattle.std.proofs.Common.{◌≡◌, ℕ, length, sym, ◌∙◌, ap, subst, arith, inl}
use Rattle.std.specs.Prelude.{OnOk}
use Rattle.sector_disk.specs.Lists.{Content}
use Rattle.hard_links.specs.Linking.{NamesLink}
use Rattle.hard_links.specs.declared.place.EntryAt.{EntryAt}
use Rattle.hfs_language.specs.declared.command.Command.TheVariants as command
use Rattle.hfs_model.specs.Step.{step}
use Rattle.hfs_volume.specs.Content.{VolumeState}
use Rattle.hfs_volume.specs.TreeOf.{tree_of}
use Rattle.volume_base.specs.Losing.{IsLoss}
use Rattle.volume_base.specs.Standing.{IsSettled}
use Rattle.volume_names.specs.Unlinking.{LosesLink}
use Rattle.volume_base.proofs.Lost.{id_told}
use Rattle.volume_base.proofs.RoomToRemove.{remove_room_still}
use Rattle.volume_base.proofs.Still.{lists_still}
use Rattle.volume_base.proofs.ToNode.{node_told}
use Rattle.volume_base.proofs.FoundEntry.{ok_so}
use Rattle.volume_names.proofs.LossLoads.{leaves_shared_still, none_still, shared_still}
use Rattle.volume_names.specs.LossLoads.{LeavesShared, SpendsShared}
use Rattle.volume_base.proofs.Framed.{edits_spent, edits_err, edits_looked}
use Rattle.volume_base.proofs.Joined.{edits_both, edits_short}
use Rattle.volume_names.proofs.losing.lose_link.Goals as goal

pub lose_one-requires-clause-some : goal.lose_one-requires-clause-some
lose_one-requires-clause-some g c = omega (arith, c.requires.some, ap (λ (p : EntryAt). length p.name) c.in_ok-place-in-Ok.ensures)

pub lose_one-requires-clause-name : goal.lose_one-requires-clause-name
lose_one-requires-clause-name g c = omega (arith, c.requires.name, ap (λ (p : EntryAt). length p.name) c.in_ok-place-in-Ok.ensures)

pub lose_one-requires-clause-room : goal.lose_one-requires-clause-room
lose_one-requires-clause-room g c = remove_room_still c.args.volume.now c.owner.new.self (g.P.SectorView.space c.args.space.now) (g.P.SectorView.space c.owner.new.space) c.owner.ensures.looked.reads c.requires.room

pub lose_one-requires-clause-link : goal.lose_one-requires-clause-link
lose_one-requires-clause-link g c tells =
    let before = sym c.owner.ensures.looked.reads.looks.same.tells ∙ tells in
    subst (λ (k : EntryAt × VolumeState). NamesLink k.0 k.1.catalog_pairs)
    (λ i. (sym c.in_ok-place-in-Ok.ensures i, sym (lists_still c.args.volume.now c.owner.new.self (g.P.SectorView.space c.args.space.now) (g.P.SectorView.space c.owner.new.space) c.owner.ensures.looked.reads before) i)) (c.requires.link before)

pub lose_one-requires-clause-loses : goal.lose_one-requires-clause-loses
lose_one-requires-clause-loses g c tells =
    let before = sym c.owner.ensures.looked.reads.looks.same.tells ∙ tells in
    let it = c.requires.loses before in
    let n = node_told c.sound_has_plain_tree.ensures c.args.volume.now (g.P.SectorView.space c.args.space.now).content (c.requires.serves.stands.stands before).trees (c.requires.serves.settled before) c.args.path.now c.requires.not_own c.requires.fits c.in_ok-id.field-0 (c.in_ok-id.ensures.found before) c.in-Ok.id c.in-Ok.is in (
      c.args.path.now,
      it.0,
      subst (λ (k : EntryAt × Content). IsLoss (tree_of k.1) c.args.path.now it.0 k.0) (λ i. (sym c.in_ok-place-in-Ok.ensures i, sym (c.owner.ensures.looked.reads.looks.content before) i)) it.1,
      id_told (tree_of (g.P.SectorView.space c.args.space.now).content) c.args.path.now it.0 n.0 it.1.reaches_it n.1 ∙ n.2,
    )

pub returns-in_ok-place-in-Ok-clause-does : goal.returns-in_ok-place-in-Ok-clause-does
returns-in_ok-place-in-Ok-clause-does g c tells entry loss =
    let n = node_told c.sound_has_plain_tree.ensures c.args.volume.now (g.P.SectorView.space c.args.space.now).content (c.requires.serves.stands.stands tells).trees (c.requires.serves.settled tells) c.args.path.now c.requires.not_own c.requires.fits c.in_ok-id.field-0 (c.in_ok-id.ensures.found tells) c.in-Ok.id c.in-Ok.is in
    subst (λ (k : Content). OnOk c.lose_one.result (IsSettled c.lose_one.new.volume (g.P.SectorView.space c.lose_one.new.space).content × (tree_of (g.P.SectorView.space c.lose_one.new.space).content ≡ (step (tree_of k) (command.Rm c.args.path.now)).1)
    × LosesLink entry k (g.P.SectorView.space c.lose_one.new.space).content)) (c.owner.ensures.looked.reads.looks.content tells)
    (c.lose_one.ensures.does (c.owner.ensures.looked.reads.looks.same.tells ∙ tells) c.args.path.now entry
    (subst (λ (k : EntryAt × Content). IsLoss (tree_of k.1) c.args.path.now entry k.0) (λ i. (sym c.in_ok-place-in-Ok.ensures i, sym (c.owner.ensures.looked.reads.looks.content tells) i)) loss)
    (id_told (tree_of (g.P.SectorView.space c.args.space.now).content) c.args.path.now entry n.0 loss.reaches_it n.1 ∙ n.2))

pub returns-in_ok-place-in-Ok-clause-edits : goal.returns-in_ok-place-in-Ok-clause-edits
returns-in_ok-place-in-Ok-clause-edits g c = edits_spent (edits_both g.met.P.SectorView.follows_trans c.owner.ensures.looked.edits c.lose_one.ensures.edits) (λ tells. omega arith)

pub returns-in_ok-place-in-Ok-clause-spends : goal.returns-in_ok-place-in-Ok-clause-spends
returns-in_ok-place-in-Ok-clause-spends g c tells entry loss =
    let n = node_told c.sound_has_plain_tree.ensures c.args.volume.now (g.P.SectorView.space c.args.space.now).content (c.requires.serves.stands.stands tells).trees (c.requires.serves.settled tells) c.args.path.now c.requires.not_own c.requires.fits c.in_ok-id.field-0 (c.in_ok-id.ensures.found tells) c.in-Ok.id c.in-Ok.is in
    none_still (SpendsShared c.in-Ok.id c.owner.new.self (g.P.SectorView.space c.owner.new.space) (g.P.SectorView.space c.lose_one.new.space)) (SpendsShared entry.id c.args.volume.now (g.P.SectorView.space c.args.space.now) (g.P.SectorView.space c.lose_one.new.space)) c.args.volume.now c.owner.new.self (g.P.SectorView.space c.args.space.now) (g.P.SectorView.space c.owner.new.space) (g.P.SectorView.space c.lose_one.new.space) c.owner.ensures.looked.reads (c.lose_one.ensures.spends (c.owner.ensures.looked.reads.looks.same.tells ∙ tells))
    (λ it. subst (λ (id : ℕ). SpendsShared id c.args.volume.now (g.P.SectorView.space c.args.space.now) (g.P.SectorView.space c.lose_one.new.space)) (sym (id_told (tree_of (g.P.SectorView.space c.args.space.now).content) c.args.path.now entry n.0 loss.reaches_it n.1 ∙ n.2))
    (shared_still c.in-Ok.id c.args.volume.now c.owner.new.self (g.P.SectorView.space c.args.space.now) (g.P.SectorView.space c.owner.new.space) (g.P.SectorView.space c.lose_one.new.space) c.owner.ensures.looked.reads tells it))

pub returns-in-Err-clause-spends : goal.returns-in-Err-clause-spends
returns-in-Err-clause-spends g c tells entry loss = inl (omega (arith, c.owner.ensures.looked.reads.looks.spare))

pub returns-in_err-id-clause-spends : goal.returns-in_err-id-clause-spends
returns-in_err-id-clause-spends g c tells entry loss = inl (omega (arith, c.owner.ensures.looked.reads.looks.spare))

pub returns-in_err-place-in-Ok-clause-spends : goal.returns-in_err-place-in-Ok-clause-spends
returns-in_err-place-in-Ok-clause-spends g c tells entry loss = inl (omega (arith, c.owner.ensures.looked.reads.looks.spare))

pub returns-in_err-place-in-Ok-clause-edits : goal.returns-in_err-place-in-Ok-clause-edits
returns-in_err-place-in-Ok-clause-edits g c = edits_err c.from_residual-in_err-place-in-Ok.ensures.1 (edits_short {U = ℕ} (edits_looked _ c.owner.ensures.looked))

pub returns-in_ok-place-in-Ok-clause-leaves : goal.returns-in_ok-place-in-Ok-clause-leaves
returns-in_ok-place-in-Ok-clause-leaves g c tells entry loss =
    let v = c.args.volume.now in
    let old = g.P.SectorView.space c.args.space.now in
    let read = g.P.SectorView.space c.owner.new.space in
    let new = g.P.SectorView.space c.lose_one.new.space in
    let n = node_told c.sound_has_plain_tree.ensures v old.content (c.requires.serves.stands.stands tells).trees (c.requires.serves.settled tells) c.args.path.now c.requires.not_own c.requires.fits c.in_ok-id.field-0 (c.in_ok-id.ensures.found tells) c.in-Ok.id c.in-Ok.is in
    ok_so (LeavesShared c.in-Ok.id c.owner.new.self read c.lose_one.new.volume new) (LeavesShared entry.id v old c.lose_one.new.volume new) c.lose_one.result (c.lose_one.ensures.leaves (c.owner.ensures.looked.reads.looks.same.tells ∙ tells))
    (λ it. subst (λ (id : ℕ). LeavesShared id v old c.lose_one.new.volume new) (sym (id_told (tree_of old.content) c.args.path.now entry n.0 loss.reaches_it n.1 ∙ n.2))
    (leaves_shared_still c.in-Ok.id v c.owner.new.self c.lose_one.new.volume old read new c.owner.ensures.looked.reads tells it))
