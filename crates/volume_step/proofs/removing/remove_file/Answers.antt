use Rattle.std.proofs.Common.{sym, ◌∙◌, ap, subst, refl, [], arith}
use Rattle.sector_disk.specs.Lists.{Content}
use Rattle.hfs_language.specs.declared.command.Command.TheVariants as command
use Rattle.hfs_model.specs.Step.{reached}
use Rattle.hfs_volume.specs.TreeOf.{tree_of}
use Rattle.volume_base.specs.Room.{capacity_of}
use Rattle.volume_space.proofs.Sounding.{sound_here}
use Rattle.volume_step.specs.Steps.{Affords, KeepsJournal, StepsTo}
use Rattle.volume_step.specs.declared.outcome.Outcome.TheVariants as outcome
use Rattle.volume_step.proofs.Done.{free_path, line_free, lose_place, lose_steps, same_place}
use Rattle.std.proofs.lemmas.Bool.{true≢false}
use Rattle.hfs_volume.specs.Weight.{Edits, edits, edits_of}
use Rattle.volume_base.specs.Fitting.{AreMet}
use Rattle.volume_weights.proofs.LoseWeight.{rm_alone}
use Rattle.volume_base.proofs.Rising.{settled_is_plain}
use Rattle.volume_step.proofs.MetNow.{fewer_are, loses_one, loss_fewer, met_still, not_root, opens_fewer, replied}
use Rattle.volume_step.proofs.Loaded.{within, within_reads}
use Rattle.volume_base.proofs.Framed.{edits_err, edits_ok, edits_spent, looked_err, looked_ok}
use Rattle.volume_base.proofs.Joined.{edits_both}
use Rattle.volume_step.proofs.removing.remove_file.Goals as goal

pub returns-clause-answered : goal.returns-clause-answered
returns-clause-answered g c tells =
    subst (λ (k : Content). StepsTo (outcome.Answered c.in_ok-reply.reply c.in_ok-changes.changes) (capacity_of c.args.volume.now) c.args.number (command.Rm c.args.path.now) k (g.P.SectorView.space c.rm.new.space).content) (c.change_at.ensures.looked.reads.looks.content tells)
    (lose_steps (capacity_of c.args.volume.now) c.args.number c.args.path.now (g.P.SectorView.space c.change_at.new.space).content (g.P.SectorView.space c.rm.new.space).content
    (sound_here c.change_at.new.self (g.P.SectorView.space c.change_at.new.space) (c.change_at.ensures.looked.stands.stands (c.change_at.ensures.looked.reads.looks.same.tells ∙ tells)) (c.change_at.ensures.serves.settled (c.change_at.ensures.looked.reads.looks.same.tells ∙ tells)))
    (sound_here c.rm.new.volume (g.P.SectorView.space c.rm.new.space) (c.in_ok-reply.ensures.edits.ran.stands.stands ((c.rm.ensures.edits.ran.touches (g.P.SectorView.space c.args.space.now).content).same.tells ∙ (c.change_at.ensures.looked.reads.looks.same.tells ∙ tells))) (c.in_ok-reply.ensures.serves.settled ((c.rm.ensures.edits.ran.touches []).same.tells ∙ (c.change_at.ensures.looked.reads.looks.same.tells ∙ tells))))
    (subst (λ (k : Content). Affords (capacity_of c.args.volume.now) (command.Rm c.args.path.now) k) (sym (c.change_at.ensures.looked.reads.looks.content tells)) (c.requires.affords tells)) c.in_ok-reply.reply (c.in_ok-reply.ensures.reply (c.change_at.ensures.looked.reads.looks.same.tells ∙ tells)) (c.in_ok-reply.ensures.tree (c.change_at.ensures.looked.reads.looks.same.tells ∙ tells)) (c.in_ok-reply.ensures.lists (c.change_at.ensures.looked.reads.looks.same.tells ∙ tells)) c.in_ok-changes.changes
    (λ not_own entry is. c.in_ok-changes.ensures.told tells not_own entry (ap (λ (k : Content). reached (tree_of k) c.args.path.now) (sym (c.change_at.ensures.looked.reads.looks.content tells)) ∙ is)))

pub returns-clause-place : goal.returns-clause-place
returns-clause-place g c tells =
    subst (λ (k : Content). KeepsJournal k (g.P.SectorView.space c.rm.new.space).content) (c.change_at.ensures.looked.reads.looks.content tells)
    (lose_place (capacity_of c.args.volume.now) c.args.number c.args.path.now (g.P.SectorView.space c.change_at.new.space).content (g.P.SectorView.space c.rm.new.space).content
    (sound_here c.change_at.new.self (g.P.SectorView.space c.change_at.new.space) (c.change_at.ensures.looked.stands.stands (c.change_at.ensures.looked.reads.looks.same.tells ∙ tells)) (c.change_at.ensures.serves.settled (c.change_at.ensures.looked.reads.looks.same.tells ∙ tells)))
    (sound_here c.rm.new.volume (g.P.SectorView.space c.rm.new.space) (c.in_ok-reply.ensures.edits.ran.stands.stands ((c.rm.ensures.edits.ran.touches (g.P.SectorView.space c.args.space.now).content).same.tells ∙ (c.change_at.ensures.looked.reads.looks.same.tells ∙ tells))) (c.in_ok-reply.ensures.serves.settled ((c.rm.ensures.edits.ran.touches []).same.tells ∙ (c.change_at.ensures.looked.reads.looks.same.tells ∙ tells))))
    (subst (λ (k : Content). Affords (capacity_of c.args.volume.now) (command.Rm c.args.path.now) k) (sym (c.change_at.ensures.looked.reads.looks.content tells)) (c.requires.affords tells)) c.in_ok-reply.reply (c.in_ok-reply.ensures.reply (c.change_at.ensures.looked.reads.looks.same.tells ∙ tells)) (c.in_ok-reply.ensures.tree (c.change_at.ensures.looked.reads.looks.same.tells ∙ tells)) (c.in_ok-reply.ensures.lists (c.change_at.ensures.looked.reads.looks.same.tells ∙ tells)))

pub returns-clause-done : goal.returns-clause-done
returns-clause-done g c tells met =
    replied (capacity_of c.args.volume.now) (command.Rm c.args.path.now) (g.P.SectorView.space c.args.space.now).content (g.P.SectorView.space c.change_at.new.space).content (c.change_at.ensures.looked.reads.looks.content tells) refl (c.requires.affords tells) c.in_ok-reply.reply c.in_ok-changes.changes (c.in_ok-reply.ensures.reply (c.change_at.ensures.looked.reads.looks.same.tells ∙ tells))

pub returns-then-not-fits_lose-clause-done : goal.returns-then-not-fits_lose-clause-done
returns-then-not-fits_lose-clause-done g c tells met =
    let tree = tree_of (g.P.SectorView.space c.args.space.now).content in
    let asked = edits_of tree (command.Rm c.args.path.now) in
    let trees = (c.requires.serves.stands.stands tells).trees in
    let settled = c.requires.serves.settled tells in
    let one = loses_one tree c.args.path.now (c.requires.affords tells).no_refusal in
    let now : AreMet asked c.change_at.new.self (g.P.SectorView.space c.change_at.new.space) = met_still c.args.volume.now c.change_at.new.self (g.P.SectorView.space c.args.space.now) (g.P.SectorView.space c.change_at.new.space) c.change_at.ensures.looked.reads tells asked met in
    absurd (true≢false (sym (c.fits_lose.ensures.met (c.change_at.ensures.looked.reads.looks.same.tells ∙ tells)
    (fewer_are c.a_load_says_enough.ensures c.a_load_is_of_parts.ensures c.trees_grow_by_enough.ensures c.trees_hold_three.ensures c.change_at.new.self (g.P.SectorView.space c.change_at.new.space) (sound_here c.change_at.new.self (g.P.SectorView.space c.change_at.new.space) (c.change_at.ensures.looked.stands.stands (c.change_at.ensures.looked.reads.looks.same.tells ∙ tells)) (c.change_at.ensures.serves.settled (c.change_at.ensures.looked.reads.looks.same.tells ∙ tells))) (edits 0 2 0 1) asked (loss_fewer tree (settled_is_plain c.sound_has_plain_tree.ensures c.args.volume.now (g.P.SectorView.space c.args.space.now).content trees settled) c.args.path.now one.0 one.1) now)
    (λ absent.
    let alone = rm_alone c.sound_has_plain_tree.ensures c.args.volume.now (g.P.SectorView.space c.args.space.now).content trees settled c.args.path.now (free_path c.args.path.now (line_free tree (command.Rm c.args.path.now) (c.requires.affords tells).no_refusal)) c.requires.fits (not_root tree c.args.path.now one.0 one.1) _ refl [] (sym c.change_at.ensures.looked.reads.keeps.private ∙ absent) one.0 one.1 in
    let opens : AreMet (edits 1 5 0 4) c.change_at.new.self (g.P.SectorView.space c.change_at.new.space) = subst (λ (e : Edits). AreMet e c.change_at.new.self (g.P.SectorView.space c.change_at.new.space)) alone now in
    (fewer_are c.a_load_says_enough.ensures c.a_load_is_of_parts.ensures c.trees_grow_by_enough.ensures c.trees_hold_three.ensures c.change_at.new.self (g.P.SectorView.space c.change_at.new.space) (sound_here c.change_at.new.self (g.P.SectorView.space c.change_at.new.space) (c.change_at.ensures.looked.stands.stands (c.change_at.ensures.looked.reads.looks.same.tells ∙ tells)) (c.change_at.ensures.serves.settled (c.change_at.ensures.looked.reads.looks.same.tells ∙ tells))) (edits 1 2 0 1) (edits 1 5 0 4) opens_fewer opens, opens)))
    ∙ c.if-not-fits_lose.true))

pub returns-clause-loads : goal.returns-clause-loads
returns-clause-loads g c tells = within (command.Rm c.args.path.now) c.args.volume.now c.change_at.new.self (g.P.SectorView.space c.args.space.now) (g.P.SectorView.space c.change_at.new.space) (g.P.SectorView.space c.rm.new.space) c.change_at.ensures.looked.reads tells refl refl refl (c.requires.affords tells) (c.rm.ensures.loads (c.change_at.ensures.looked.reads.looks.same.tells ∙ tells))

pub returns-then-not-fits_lose-clause-loads : goal.returns-then-not-fits_lose-clause-loads
returns-then-not-fits_lose-clause-loads g c tells = within_reads (command.Rm c.args.path.now) c.args.volume.now c.change_at.new.self (g.P.SectorView.space c.args.space.now) (g.P.SectorView.space c.change_at.new.space) c.change_at.ensures.looked.reads

pub returns-in_err-reply-clause-loads : goal.returns-in_err-reply-clause-loads
returns-in_err-reply-clause-loads g c tells = within (command.Rm c.args.path.now) c.args.volume.now c.change_at.new.self (g.P.SectorView.space c.args.space.now) (g.P.SectorView.space c.change_at.new.space) (g.P.SectorView.space c.rm.new.space) c.change_at.ensures.looked.reads tells refl refl refl (c.requires.affords tells) (c.rm.ensures.loads (c.change_at.ensures.looked.reads.looks.same.tells ∙ tells))

pub returns-in_err-changes-clause-loads : goal.returns-in_err-changes-clause-loads
returns-in_err-changes-clause-loads g c tells = within_reads (command.Rm c.args.path.now) c.args.volume.now c.change_at.new.self (g.P.SectorView.space c.args.space.now) (g.P.SectorView.space c.change_at.new.space) c.change_at.ensures.looked.reads

pub returns-clause-edits : goal.returns-clause-edits
returns-clause-edits g c = edits_ok (edits_spent (edits_both g.met.P.SectorView.follows_trans c.change_at.ensures.looked.edits c.in_ok-reply.ensures.edits) (λ tells. omega arith))

pub returns-in_err-reply-clause-edits : goal.returns-in_err-reply-clause-edits
returns-in_err-reply-clause-edits g c = edits_err c.from_residual-in_err-reply.ensures.1 (edits_spent (edits_both g.met.P.SectorView.follows_trans c.change_at.ensures.looked.edits c.in_err-reply.ensures.edits) (λ tells. omega arith))

pub returns-in_err-changes-clause-edits : goal.returns-in_err-changes-clause-edits
returns-in_err-changes-clause-edits g c = looked_err _ c.from_residual.ensures.1 c.in_err-changes.ensures.looked

pub returns-then-not-fits_lose-clause-edits : goal.returns-then-not-fits_lose-clause-edits
returns-then-not-fits_lose-clause-edits g c = looked_ok _ c.change_at.ensures.looked

pub returns-then-not-fits_lose-clause-place : goal.returns-then-not-fits_lose-clause-place
returns-then-not-fits_lose-clause-place g c tells = same_place (g.P.SectorView.space c.args.space.now).content (g.P.SectorView.space c.change_at.new.space).content (c.change_at.ensures.looked.reads.looks.content tells)
