use Rattle.std.proofs.Common.{ℕ, sym, ◌∙◌, subst, ap}
use Rattle.std.specs.Prelude.{IfOk, OnOk}
use Rattle.sector_disk.specs.Lists.{Content}
use Rattle.hfs_language.specs.declared.command.Command.TheVariants as command
use Rattle.volume_base.specs.Room.{capacity_of}
use Rattle.volume_step.specs.Steps.{Affords, KeepsJournal, StepsNow}
use Rattle.volume_step.specs.declared.outcome.Outcome.{Outcome}
use Rattle.volume_step.proofs.Done.{free_path, line_free}
use Rattle.hfs_volume.specs.Content.{VolumeState, has_attributes, volume_of}
use Rattle.hfs_volume.specs.TreeOf.{tree_of}
use Rattle.hfs_volume.specs.Weight.{edits}
use Rattle.volume_step.proofs.MetNow.{removal_met, removes_one}
use Rattle.volume_step.proofs.Valued.{valued_still}
use Rattle.volume_step.proofs.Loaded.{within_behind, within_reads}
use Rattle.volume_base.proofs.Freed.{frees_behind, frees_err, frees_looked}
use Rattle.volume_step.proofs.removing.remove_folder.Goals as goal

pub remove_with-requires-clause-affords : goal.remove_with-requires-clause-affords
remove_with-requires-clause-affords g c told =
    subst (λ (k : ℕ × Content). Affords k.0 (command.Rmdir c.args.path.now) k.1) {x = ((capacity_of c.args.volume.now), (g.P.SectorView.space c.args.space.now).content)} {y = (capacity_of c.values_to_remove.new.volume, (g.P.SectorView.space c.values_to_remove.new.space).content)} (λ i. (sym c.values_to_remove.ensures.looked.reads.keeps.capacity i, sym (c.values_to_remove.ensures.looked.reads.looks.content (sym c.values_to_remove.ensures.looked.reads.looks.same.tells ∙ told)) i))
    (c.requires.affords (sym c.values_to_remove.ensures.looked.reads.looks.same.tells ∙ told))

pub returns-clause-answered : goal.returns-clause-answered
returns-clause-answered g c tells =
    subst (λ (k : ℕ × Content). IfOk c.remove_with.result (λ (o : Outcome). StepsNow o k.0 c.args.number (command.Rmdir c.args.path.now) k.1 (g.P.SectorView.space c.remove_with.new.space).content)) {x = (capacity_of c.values_to_remove.new.volume, (g.P.SectorView.space c.values_to_remove.new.space).content)} {y = ((capacity_of c.args.volume.now), (g.P.SectorView.space c.args.space.now).content)} (λ i. (c.values_to_remove.ensures.looked.reads.keeps.capacity i, c.values_to_remove.ensures.looked.reads.looks.content tells i)) (c.remove_with.ensures.answered (c.values_to_remove.ensures.looked.reads.looks.same.tells ∙ tells))

pub returns-clause-place : goal.returns-clause-place
returns-clause-place g c tells = subst (λ (k : Content). OnOk c.remove_with.result (KeepsJournal k (g.P.SectorView.space c.remove_with.new.space).content)) (c.values_to_remove.ensures.looked.reads.looks.content tells) (c.remove_with.ensures.place (c.values_to_remove.ensures.looked.reads.looks.same.tells ∙ tells))

pub returns-clause-done : goal.returns-clause-done
returns-clause-done g c tells met =
    let tree = tree_of (g.P.SectorView.space c.args.space.now).content in
    let one = removes_one tree c.args.path.now (c.requires.affords tells).no_refusal in
    let owned = c.in_ok-owned.ensures.told tells (free_path c.args.path.now (line_free tree (command.Rmdir c.args.path.now) (c.requires.affords tells).no_refusal)) one.0 one.1 in
    c.remove_with.ensures.done (c.values_to_remove.ensures.looked.reads.looks.same.tells ∙ tells)
    (valued_still (edits 0 2 c.in_ok-owned.owned.count 1) c.in_ok-owned.owned.change c.args.volume.now c.values_to_remove.new.volume (g.P.SectorView.space c.args.space.now) (g.P.SectorView.space c.values_to_remove.new.space) c.values_to_remove.ensures.looked.reads tells
    (removal_met c.sound_has_plain_tree.ensures c.args.volume.now (g.P.SectorView.space c.args.space.now) (c.requires.serves.stands.stands tells) (c.requires.serves.settled tells) c.args.path.now one.0 one.1 c.in_ok-owned.owned owned met))
    (λ lacks. c.in_ok-owned.ensures.none tells (sym (ap (λ (l : VolumeState). has_attributes l.head) (c.requires.serves.settled tells).lists) ∙ ap (λ (k : Content). has_attributes (volume_of k).head) (sym (c.values_to_remove.ensures.looked.reads.looks.content tells)) ∙ lacks))

pub returns-clause-loads : goal.returns-clause-loads
returns-clause-loads g c tells =
    within_behind (command.Rmdir c.args.path.now) c.args.volume.now c.values_to_remove.new.volume (g.P.SectorView.space c.args.space.now) (g.P.SectorView.space c.values_to_remove.new.space) (g.P.SectorView.space c.remove_with.new.space) c.values_to_remove.ensures.looked.reads tells (c.remove_with.ensures.loads (c.values_to_remove.ensures.looked.reads.looks.same.tells ∙ tells))

pub returns-in_err-owned-clause-loads : goal.returns-in_err-owned-clause-loads
returns-in_err-owned-clause-loads g c tells = within_reads (command.Rmdir c.args.path.now) c.args.volume.now c.values_to_remove.new.volume (g.P.SectorView.space c.args.space.now) (g.P.SectorView.space c.values_to_remove.new.space) c.values_to_remove.ensures.looked.reads

pub returns-clause-frees : goal.returns-clause-frees
returns-clause-frees g c = frees_behind g.met.P.SectorView.follows_trans c.values_to_remove.ensures.looked c.remove_with.ensures.frees

pub returns-in_err-owned-clause-frees : goal.returns-in_err-owned-clause-frees
returns-in_err-owned-clause-frees g c = frees_err c.from_residual.ensures.1 (frees_looked c.in_err-owned.ensures.looked)
