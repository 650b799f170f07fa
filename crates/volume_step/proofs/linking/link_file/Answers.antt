use Rattle.volume_step.proofs.Loaded.{within, within_reads}
use Rattle.std.proofs.Common.{sym, ◌∙◌, ap, subst, refl, [], arith}
use Rattle.sector_disk.specs.Lists.{Content}
use Rattle.hfs_language.specs.declared.command.Command.TheVariants as command
use Rattle.hfs_model.specs.Step.{to_ln}
use Rattle.hfs_volume.specs.TreeOf.{tree_of}
use Rattle.volume_base.specs.Room.{capacity_of}
use Rattle.volume_space.proofs.Sounding.{sound_here}
use Rattle.volume_step.specs.Steps.{Affords, KeepsJournal, StepsTo}
use Rattle.volume_step.specs.declared.outcome.Outcome.TheVariants as outcome
use Rattle.volume_step.proofs.Linked.{link_place, link_steps}
use Rattle.std.proofs.lemmas.Bool.{true≢false}
use Rattle.hfs_volume.specs.Weight.{edits, edits_of}
use Rattle.volume_step.proofs.MetNow.{fewer_are, link_fewer, met_still, replied}
use Rattle.volume_base.proofs.Framed.{edits_err, edits_ok, edits_spent, looked_err, looked_ok}
use Rattle.volume_base.proofs.Joined.{edits_both}
use Rattle.volume_step.proofs.Done.{same_place}
use Rattle.volume_step.proofs.linking.link_file.Goals as goal

pub returns-clause-answered : goal.returns-clause-answered
returns-clause-answered g c tells =
    subst (λ (k : Content). StepsTo (outcome.Answered c.in_ok-reply.reply c.in_ok-changes.changes) (capacity_of c.args.volume.now) c.args.number (command.Ln c.args.from.now c.args.to.now) k (g.P.SectorView.space c.ln.new.space).content) (c.change_linked.ensures.looked.reads.looks.content tells)
    (link_steps (capacity_of c.args.volume.now) c.args.number c.args.from.now c.args.to.now (g.P.SectorView.space c.change_linked.new.space).content (g.P.SectorView.space c.ln.new.space).content
    (sound_here c.change_linked.new.self (g.P.SectorView.space c.change_linked.new.space) (c.change_linked.ensures.looked.stands.stands (c.change_linked.ensures.looked.reads.looks.same.tells ∙ tells)) (c.change_linked.ensures.serves.settled (c.change_linked.ensures.looked.reads.looks.same.tells ∙ tells)))
    (sound_here c.ln.new.volume (g.P.SectorView.space c.ln.new.space) (c.in_ok-reply.ensures.edits.ran.stands.stands ((c.ln.ensures.edits.ran.touches (g.P.SectorView.space c.args.space.now).content).same.tells ∙ (c.change_linked.ensures.looked.reads.looks.same.tells ∙ tells))) (c.in_ok-reply.ensures.serves.settled ((c.ln.ensures.edits.ran.touches []).same.tells ∙ (c.change_linked.ensures.looked.reads.looks.same.tells ∙ tells))))
    (subst (λ (k : Content). Affords (capacity_of c.args.volume.now) (command.Ln c.args.from.now c.args.to.now) k) (sym (c.change_linked.ensures.looked.reads.looks.content tells)) (c.requires.affords tells)) c.in_ok-reply.reply (c.in_ok-reply.ensures.reply (c.change_linked.ensures.looked.reads.looks.same.tells ∙ tells)) (c.in_ok-reply.ensures.tree (c.change_linked.ensures.looked.reads.looks.same.tells ∙ tells)) (c.in_ok-reply.ensures.lists (c.change_linked.ensures.looked.reads.looks.same.tells ∙ tells)) c.in_ok-changes.changes
    (λ not_own goal_not_own pair is. c.in_ok-changes.ensures.told tells not_own goal_not_own pair (ap (λ (k : Content). to_ln (tree_of k) c.args.from.now c.args.to.now) (sym (c.change_linked.ensures.looked.reads.looks.content tells)) ∙ is)))

pub returns-clause-place : goal.returns-clause-place
returns-clause-place g c tells =
    subst (λ (k : Content). KeepsJournal k (g.P.SectorView.space c.ln.new.space).content) (c.change_linked.ensures.looked.reads.looks.content tells)
    (link_place (capacity_of c.args.volume.now) c.args.number c.args.from.now c.args.to.now (g.P.SectorView.space c.change_linked.new.space).content (g.P.SectorView.space c.ln.new.space).content
    (sound_here c.change_linked.new.self (g.P.SectorView.space c.change_linked.new.space) (c.change_linked.ensures.looked.stands.stands (c.change_linked.ensures.looked.reads.looks.same.tells ∙ tells)) (c.change_linked.ensures.serves.settled (c.change_linked.ensures.looked.reads.looks.same.tells ∙ tells)))
    (sound_here c.ln.new.volume (g.P.SectorView.space c.ln.new.space) (c.in_ok-reply.ensures.edits.ran.stands.stands ((c.ln.ensures.edits.ran.touches (g.P.SectorView.space c.args.space.now).content).same.tells ∙ (c.change_linked.ensures.looked.reads.looks.same.tells ∙ tells))) (c.in_ok-reply.ensures.serves.settled ((c.ln.ensures.edits.ran.touches []).same.tells ∙ (c.change_linked.ensures.looked.reads.looks.same.tells ∙ tells))))
    (subst (λ (k : Content). Affords (capacity_of c.args.volume.now) (command.Ln c.args.from.now c.args.to.now) k) (sym (c.change_linked.ensures.looked.reads.looks.content tells)) (c.requires.affords tells)) c.in_ok-reply.reply (c.in_ok-reply.ensures.reply (c.change_linked.ensures.looked.reads.looks.same.tells ∙ tells)) (c.in_ok-reply.ensures.tree (c.change_linked.ensures.looked.reads.looks.same.tells ∙ tells)) (c.in_ok-reply.ensures.lists (c.change_linked.ensures.looked.reads.looks.same.tells ∙ tells)))

pub returns-clause-done : goal.returns-clause-done
returns-clause-done g c tells met =
    replied (capacity_of c.args.volume.now) (command.Ln c.args.from.now c.args.to.now) (g.P.SectorView.space c.args.space.now).content (g.P.SectorView.space c.change_linked.new.space).content (c.change_linked.ensures.looked.reads.looks.content tells) refl (c.requires.affords tells) c.in_ok-reply.reply c.in_ok-changes.changes (c.in_ok-reply.ensures.reply (c.change_linked.ensures.looked.reads.looks.same.tells ∙ tells))

pub returns-then-not-fits_make-clause-done : goal.returns-then-not-fits_make-clause-done
returns-then-not-fits_make-clause-done g c tells met =
    let asked = edits_of (tree_of (g.P.SectorView.space c.args.space.now).content) (command.Ln c.args.from.now c.args.to.now) in
    absurd (true≢false (sym (c.fits_make.ensures.met (c.change_linked.ensures.looked.reads.looks.same.tells ∙ tells)
    (fewer_are c.a_load_says_enough.ensures c.a_load_is_of_parts.ensures c.trees_grow_by_enough.ensures c.trees_hold_three.ensures c.change_linked.new.self (g.P.SectorView.space c.change_linked.new.space) (sound_here c.change_linked.new.self (g.P.SectorView.space c.change_linked.new.space) (c.change_linked.ensures.looked.stands.stands (c.change_linked.ensures.looked.reads.looks.same.tells ∙ tells)) (c.change_linked.ensures.serves.settled (c.change_linked.ensures.looked.reads.looks.same.tells ∙ tells))) (edits 1 2 0 1) asked (link_fewer (tree_of (g.P.SectorView.space c.args.space.now).content) c.args.from.now c.args.to.now (c.requires.affords tells).no_refusal)
    (met_still c.args.volume.now c.change_linked.new.self (g.P.SectorView.space c.args.space.now) (g.P.SectorView.space c.change_linked.new.space) c.change_linked.ensures.looked.reads tells asked met)))
    ∙ c.if-not-fits_make.true))

pub returns-clause-loads : goal.returns-clause-loads
returns-clause-loads g c tells = within (command.Ln c.args.from.now c.args.to.now) c.args.volume.now c.change_linked.new.self (g.P.SectorView.space c.args.space.now) (g.P.SectorView.space c.change_linked.new.space) (g.P.SectorView.space c.ln.new.space) c.change_linked.ensures.looked.reads tells refl refl refl (c.requires.affords tells) (c.ln.ensures.loads (c.change_linked.ensures.looked.reads.looks.same.tells ∙ tells))

pub returns-then-not-fits_make-clause-loads : goal.returns-then-not-fits_make-clause-loads
returns-then-not-fits_make-clause-loads g c tells = within_reads (command.Ln c.args.from.now c.args.to.now) c.args.volume.now c.change_linked.new.self (g.P.SectorView.space c.args.space.now) (g.P.SectorView.space c.change_linked.new.space) c.change_linked.ensures.looked.reads

pub returns-in_err-reply-clause-loads : goal.returns-in_err-reply-clause-loads
returns-in_err-reply-clause-loads g c tells = within (command.Ln c.args.from.now c.args.to.now) c.args.volume.now c.change_linked.new.self (g.P.SectorView.space c.args.space.now) (g.P.SectorView.space c.change_linked.new.space) (g.P.SectorView.space c.ln.new.space) c.change_linked.ensures.looked.reads tells refl refl refl (c.requires.affords tells) (c.ln.ensures.loads (c.change_linked.ensures.looked.reads.looks.same.tells ∙ tells))

pub returns-in_err-changes-clause-loads : goal.returns-in_err-changes-clause-loads
returns-in_err-changes-clause-loads g c tells = within_reads (command.Ln c.args.from.now c.args.to.now) c.args.volume.now c.change_linked.new.self (g.P.SectorView.space c.args.space.now) (g.P.SectorView.space c.change_linked.new.space) c.change_linked.ensures.looked.reads

pub returns-clause-edits : goal.returns-clause-edits
returns-clause-edits g c = edits_ok (edits_spent (edits_both g.met.P.SectorView.follows_trans c.change_linked.ensures.looked.edits c.in_ok-reply.ensures.edits) (λ tells. omega arith))

pub returns-in_err-reply-clause-edits : goal.returns-in_err-reply-clause-edits
returns-in_err-reply-clause-edits g c = edits_err c.from_residual-in_err-reply.ensures.1 (edits_spent (edits_both g.met.P.SectorView.follows_trans c.change_linked.ensures.looked.edits c.in_err-reply.ensures.edits) (λ tells. omega arith))

pub returns-in_err-changes-clause-edits : goal.returns-in_err-changes-clause-edits
returns-in_err-changes-clause-edits g c = looked_err _ c.from_residual.ensures.1 c.in_err-changes.ensures.looked

pub returns-then-not-fits_make-clause-edits : goal.returns-then-not-fits_make-clause-edits
returns-then-not-fits_make-clause-edits g c = looked_ok _ c.change_linked.ensures.looked

pub returns-then-not-fits_make-clause-place : goal.returns-then-not-fits_make-clause-place
returns-then-not-fits_make-clause-place g c tells = same_place (g.P.SectorView.space c.args.space.now).content (g.P.SectorView.space c.change_linked.new.space).content (c.change_linked.ensures.looked.reads.looks.content tells)
