use Rattle.std.proofs.Common.{◌≡◌, ◌≤◌, length, sym, ◌∙◌, ap, subst, arith, inl}
use Rattle.std.specs.Prelude.{OnOk, Option, IfSome}
use Rattle.sector_disk.specs.Lists.{Content}
use Rattle.hard_links.specs.Linking.{NamesLink}
use Rattle.hfs_language.specs.declared.command.Command.TheVariants as command
use Rattle.hfs_model.specs.Step.{step}
use Rattle.hfs_volume.specs.Content.{VolumeState}
use Rattle.hfs_volume.specs.TreeOf.{tree_of}
use Rattle.volume_base.specs.Entering.{entry_by_id}
use Rattle.volume_base.specs.Losing.{IsLoss}
use Rattle.volume_base.specs.Standing.{IsSettled}
use Rattle.volume_names.specs.Unlinking.{LosesLink}
use Rattle.volume_base.specs.declared.entries.Entry.{Entry}
use Rattle.volume_base.proofs.FoundEntry.{ok_so, settled_threads}
use Rattle.volume_base.proofs.RoomToRemove.{remove_room_still}
use Rattle.volume_base.proofs.Still.{lists_still}
use Rattle.volume_names.proofs.LossLoads.{leaves_shared_still, none_still, shared_still}
use Rattle.volume_names.specs.LossLoads.{LeavesShared, SpendsShared}
use Rattle.volume_base.proofs.Framed.{edits_spent, serves_still}
use Rattle.volume_base.proofs.Joined.{edits_both}
use Rattle.volume_names.proofs.unlinking.lose_one.Goals as goal

pub entry-requires-clause-spelled : goal.entry-requires-clause-spelled
entry-requires-clause-spelled g c tells = (settled_threads c.args.volume.now (g.P.SectorView.space c.args.space.now).content (c.requires.serves.settled tells)).spelled

pub lose_one_of-requires-clause-serves : goal.lose_one_of-requires-clause-serves
lose_one_of-requires-clause-serves g c = serves_still c.entry.ensures.looked c.requires.serves

pub lose_one_of-requires-clause-room : goal.lose_one_of-requires-clause-room
lose_one_of-requires-clause-room g c = remove_room_still c.args.volume.now c.entry.new.self (g.P.SectorView.space c.args.space.now) (g.P.SectorView.space c.entry.new.space) c.entry.ensures.looked.reads c.requires.room

pub lose_one_of-requires-clause-file_name : goal.lose_one_of-requires-clause-file_name
lose_one_of-requires-clause-file_name g c = subst (λ (o : Option Entry). IfSome o (λ entry. length entry.name ≤ 255)) c.in-Some.is c.in_ok-file.ensures.name

pub lose_one_of-requires-clause-found : goal.lose_one_of-requires-clause-found
lose_one_of-requires-clause-found g c tells =
    let before = sym c.entry.ensures.looked.reads.looks.same.tells ∙ tells in
    sym c.in-Some.is ∙ c.in_ok-file.ensures.found before ∙ sym (ap (λ (l : VolumeState). entry_by_id l.catalog_pairs c.args.id) (lists_still c.args.volume.now c.entry.new.self (g.P.SectorView.space c.args.space.now) (g.P.SectorView.space c.entry.new.space) c.entry.ensures.looked.reads before))

pub lose_one_of-requires-clause-link : goal.lose_one_of-requires-clause-link
lose_one_of-requires-clause-link g c tells =
    let before = sym c.entry.ensures.looked.reads.looks.same.tells ∙ tells in
    subst (λ (l : VolumeState). NamesLink c.args.at.now l.catalog_pairs) (sym (lists_still c.args.volume.now c.entry.new.self (g.P.SectorView.space c.args.space.now) (g.P.SectorView.space c.entry.new.space) c.entry.ensures.looked.reads before)) (c.requires.link before)

pub lose_one_of-requires-clause-loses : goal.lose_one_of-requires-clause-loses
lose_one_of-requires-clause-loses g c tells =
    let before = sym c.entry.ensures.looked.reads.looks.same.tells ∙ tells in
    let it = c.requires.loses before in
    (it.0, it.1, subst (λ (k : Content). IsLoss (tree_of k) it.0 it.1 c.args.at.now) (sym (c.entry.ensures.looked.reads.looks.content before)) it.2, it.3)

pub returns-in-Some-clause-does : goal.returns-in-Some-clause-does
returns-in-Some-clause-does g c tells path entry loss same =
    subst (λ (k : Content). OnOk c.lose_one_of.result (IsSettled c.lose_one_of.new.volume (g.P.SectorView.space c.lose_one_of.new.space).content × (tree_of (g.P.SectorView.space c.lose_one_of.new.space).content ≡ (step (tree_of k) (command.Rm path)).1)
    × LosesLink entry k (g.P.SectorView.space c.lose_one_of.new.space).content)) (c.entry.ensures.looked.reads.looks.content tells)
    (c.lose_one_of.ensures.does (c.entry.ensures.looked.reads.looks.same.tells ∙ tells) path entry (subst (λ (k : Content). IsLoss (tree_of k) path entry c.args.at.now) (sym (c.entry.ensures.looked.reads.looks.content tells)) loss) same)

pub returns-in-Some-clause-edits : goal.returns-in-Some-clause-edits
returns-in-Some-clause-edits g c = edits_spent (edits_both g.met.P.SectorView.follows_trans c.entry.ensures.looked.edits c.lose_one_of.ensures.edits) (λ tells. omega arith)

pub returns-in-Some-clause-spends : goal.returns-in-Some-clause-spends
returns-in-Some-clause-spends g c tells =
    none_still (SpendsShared c.args.id c.entry.new.self (g.P.SectorView.space c.entry.new.space) (g.P.SectorView.space c.lose_one_of.new.space)) (SpendsShared c.args.id c.args.volume.now (g.P.SectorView.space c.args.space.now) (g.P.SectorView.space c.lose_one_of.new.space)) c.args.volume.now c.entry.new.self (g.P.SectorView.space c.args.space.now) (g.P.SectorView.space c.entry.new.space) (g.P.SectorView.space c.lose_one_of.new.space) c.entry.ensures.looked.reads (c.lose_one_of.ensures.spends (c.entry.ensures.looked.reads.looks.same.tells ∙ tells))
    (shared_still c.args.id c.args.volume.now c.entry.new.self (g.P.SectorView.space c.args.space.now) (g.P.SectorView.space c.entry.new.space) (g.P.SectorView.space c.lose_one_of.new.space) c.entry.ensures.looked.reads tells)

pub returns-in-None-clause-spends : goal.returns-in-None-clause-spends
returns-in-None-clause-spends g c tells = inl (omega (arith, c.entry.ensures.looked.reads.looks.spare))

pub returns-in_err-file-clause-spends : goal.returns-in_err-file-clause-spends
returns-in_err-file-clause-spends g c tells = inl (omega (arith, c.entry.ensures.looked.reads.looks.spare))

pub returns-in-Some-clause-leaves : goal.returns-in-Some-clause-leaves
returns-in-Some-clause-leaves g c tells =
    let v = c.args.volume.now in
    let old = g.P.SectorView.space c.args.space.now in
    let read = g.P.SectorView.space c.entry.new.space in
    let new = g.P.SectorView.space c.lose_one_of.new.space in
    ok_so (LeavesShared c.args.id c.entry.new.self read c.lose_one_of.new.volume new) (LeavesShared c.args.id v old c.lose_one_of.new.volume new) c.lose_one_of.result (c.lose_one_of.ensures.leaves (c.entry.ensures.looked.reads.looks.same.tells ∙ tells))
    (leaves_shared_still c.args.id v c.entry.new.self c.lose_one_of.new.volume old read new c.entry.ensures.looked.reads tells)
