use Rattle.std.proofs.Common.{◌≡◌, ◌≤◌, false, length, sym, ◌∙◌, ap, subst, arith}
use Rattle.std.specs.Prelude.{Option, IfSome}
use Rattle.cat_records.specs.Fits.{FitsRecord}
use Rattle.catalog.specs.Pairs.{value_at}
use Rattle.hfs_language.specs.declared.command.Command.TheVariants as command
use Rattle.hfs_model.specs.Step.{step}
use Rattle.hfs_volume.specs.Commands.{ChangesMode}
use Rattle.hfs_volume.specs.Content.{VolumeState, volume_of}
use Rattle.hfs_volume.specs.Records.{is_thread}
use Rattle.hfs_volume.specs.TreeOf.{tree_of}
use Rattle.volume_names.specs.Changing.{SetsRights}
use Rattle.volume_base.specs.Standing.{StandsOver, IsSettled}
use Rattle.volume_base.specs.declared.entries.Entry.{Entry}
use Rattle.volume_names.proofs.ModeChanged.{mode_set}
use Rattle.volume_base.proofs.FoundEntry.{entry_there, not_none, settled_spelled, node_still, ok_both}
use Rattle.volume_base.proofs.Still.{lists_still, settled_still}
use Rattle.volume_base.proofs.ToNode.{node_there}
use Rattle.volume_base.proofs.Framed.{edits_spent, found_ready}
use Rattle.volume_base.proofs.Joined.{edits_both}
use Rattle.volume_names.proofs.setting.set_mode.Goals as goal

pub entry-requires-clause-spelled : goal.entry-requires-clause-spelled
entry-requires-clause-spelled g c tells = settled_spelled c.args.volume.now (g.P.SectorView.space c.args.space.now).content (c.requires.serves.settled tells)

pub put_mode-requires-clause-ready : goal.put_mode-requires-clause-ready
put_mode-requires-clause-ready g c =
    found_ready c.entry.ensures.looked (λ tells. settled_spelled c.args.volume.now (g.P.SectorView.space c.args.space.now).content (c.requires.serves.settled tells))
    (subst (λ (o : Option Entry). IfSome o (λ entry. length entry.name ≤ 255)) c.in-Some.is c.in_ok-entry.ensures.name)
    (λ tells. let there = c.requires.there tells in let it = entry_there c.args.volume.now (g.P.SectorView.space c.args.space.now).content (c.requires.serves.stands.stands tells).trees (c.requires.serves.settled tells) c.args.id there.0 there.1 there.2 c.in-Some.entry (sym c.in-Some.is ∙ c.in_ok-entry.ensures.found tells) in it.value) c.requires.room

pub put_mode-requires-clause-fits : goal.put_mode-requires-clause-fits
put_mode-requires-clause-fits g c = subst (λ (o : Option Entry). IfSome o (λ entry. is_thread entry.rec ≡ false → FitsRecord entry.rec)) c.in-Some.is c.in_ok-entry.ensures.fits

pub returns-in-Some-clause-does : goal.returns-in-Some-clause-does
returns-in-Some-clause-does g c tells path node allowed number =
    let later = (c.entry.ensures.looked.reads.looks.same.tells ∙ tells) in
    let it = entry_there c.args.volume.now (g.P.SectorView.space c.args.space.now).content (c.requires.serves.stands.stands tells).trees (c.requires.serves.settled tells) c.args.id node (node_there (tree_of (g.P.SectorView.space c.args.space.now).content) path node allowed) number c.in-Some.entry (sym c.in-Some.is ∙ c.in_ok-entry.ensures.found tells) in
    let there = ap (λ (l : VolumeState). value_at l.catalog_pairs c.in-Some.entry.parent c.in-Some.entry.name) (lists_still c.args.volume.now c.entry.new.self (g.P.SectorView.space c.args.space.now) (g.P.SectorView.space c.entry.new.space) c.entry.ensures.looked.reads tells) ∙ it.value in
    ok_both (StandsOver c.put_mode.new.volume (g.P.SectorView.space c.put_mode.new.space)) (SetsRights c.entry.new.self.header.modify_date c.args.rights c.in-Some.entry c.entry.new.self c.put_mode.new.volume (g.P.SectorView.space c.entry.new.space).content (g.P.SectorView.space c.put_mode.new.space).content)
    (IsSettled c.put_mode.new.volume (g.P.SectorView.space c.put_mode.new.space).content × (tree_of (g.P.SectorView.space c.put_mode.new.space).content ≡ (step (tree_of (g.P.SectorView.space c.args.space.now).content) (command.Chmod path c.args.rights)).1) × ChangesMode c.args.id c.args.rights (volume_of (g.P.SectorView.space c.args.space.now).content) (volume_of (g.P.SectorView.space c.put_mode.new.space).content))
    c.put_mode.result c.put_mode.ensures.edits.ran.stands (c.put_mode.ensures.sets (c.entry.ensures.looked.reads.looks.same.tells ∙ tells) it.kind)
    (λ stands sets. let does = mode_set c.chmod_does_its_step.ensures c.soundness_has_two_halves.ensures c.entry.new.self c.put_mode.new.volume (g.P.SectorView.space c.entry.new.space) (g.P.SectorView.space c.put_mode.new.space) (settled_still c.args.volume.now c.entry.new.self (g.P.SectorView.space c.args.space.now) (g.P.SectorView.space c.entry.new.space) c.entry.ensures.looked.reads tells (c.requires.serves.settled tells)) c.entry.ensures.looked.stands (c.entry.ensures.looked.reads.looks.same.tells ∙ tells)
    (c.put_mode.ensures.edits.ran.touches (g.P.SectorView.space c.args.space.now).content).same.tells c.in-Some.entry c.args.rights c.requires.rights there (g.P.SectorView.space c.args.space.now).content (c.entry.ensures.looked.reads.looks.content tells) path node allowed (number ∙ sym it.number) stands sets in (does.0, does.1, subst (λ n. ChangesMode n c.args.rights (volume_of (g.P.SectorView.space c.args.space.now).content) (volume_of (g.P.SectorView.space c.put_mode.new.space).content)) it.number does.2))

pub returns-in-Some-clause-edits : goal.returns-in-Some-clause-edits
returns-in-Some-clause-edits g c =
    edits_spent (edits_both g.met.P.SectorView.follows_trans c.entry.ensures.looked.edits c.put_mode.ensures.edits) (λ tells. omega (arith, c.entry.ensures.looked.reads.looks.spare, c.put_mode.ensures.edits.ran.spent (c.entry.ensures.looked.reads.looks.same.tells ∙ tells), node_still c.args.volume.now c.entry.new.self (g.P.SectorView.space c.args.space.now) (g.P.SectorView.space c.entry.new.space) c.entry.ensures.looked.reads))

pub returns-in-None-clause-does : goal.returns-in-None-clause-does
returns-in-None-clause-does g c tells path node allowed number =
    absurd (not_none c.args.volume.now (g.P.SectorView.space c.args.space.now).content (c.requires.serves.stands.stands tells).trees (c.requires.serves.settled tells) c.args.id node (node_there (tree_of (g.P.SectorView.space c.args.space.now).content) path node allowed) number (sym c.in-None.is ∙ c.in_ok-entry.ensures.found tells))

pub returns-in-Some-clause-rest : goal.returns-in-Some-clause-rest
returns-in-Some-clause-rest g c = c.put_mode.ensures.rest ∙ (λ i. record (c.entry.ensures.rest i) { catalog = c.put_mode.new.volume.catalog })
