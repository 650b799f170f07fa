use Rattle.std.proofs.Common.{sym, ◌∙◌, ap, subst, refl, [], arith}
use Rattle.std.proofs.lemmas.Bool.{true≢false}
use Rattle.sector_disk.specs.Lists.{Content}
use Rattle.hfs_language.specs.declared.command.Command.TheVariants as command
use Rattle.hfs_language.specs.declared.reply.Reply.TheVariants as reply
use Rattle.hfs_model.specs.Step.{to_mv}
use Rattle.hfs_volume.specs.TreeOf.{tree_of}
use Rattle.hfs_volume.specs.Weight.{changes_nothing, edits, edits_of}
use Rattle.volume_base.specs.Room.{capacity_of}
use Rattle.volume_space.proofs.Sounding.{sound_here}
use Rattle.volume_step.specs.Steps.{Affords, KeepsJournal, StepsTo}
use Rattle.volume_step.specs.declared.outcome.Outcome.TheVariants as outcome
use Rattle.volume_step.proofs.Done.{move_place, move_steps, quiet_still, same_place, still_steps, told_moves}
use Rattle.volume_base.proofs.Rising.{settled_is_plain}
use Rattle.volume_step.proofs.MetNow.{fewer_are, met_still, move_fewer, replied}
use Rattle.volume_step.proofs.Loaded.{within, within_reads}
use Rattle.volume_base.proofs.Framed.{edits_err, edits_ok, edits_spent, looked_err, looked_ok}
use Rattle.volume_base.proofs.Joined.{edits_both}
use Rattle.volume_step.proofs.making.move_entry.Goals as goal

pub returns-clause-answered : goal.returns-clause-answered
returns-clause-answered g c tells =
    subst (λ (k : Content). StepsTo (outcome.Answered c.in_ok-reply.reply c.in_ok-changes.changes) (capacity_of c.args.volume.now) c.args.number (command.Mv c.args.from.now c.args.to.now) k (g.P.SectorView.space c.mv.new.space).content) (c.change_moved.ensures.looked.reads.looks.content tells)
    (move_steps (capacity_of c.args.volume.now) c.args.number c.args.from.now c.args.to.now (g.P.SectorView.space c.change_moved.new.space).content (g.P.SectorView.space c.mv.new.space).content
    (sound_here c.change_moved.new.self (g.P.SectorView.space c.change_moved.new.space) (c.change_moved.ensures.looked.stands.stands (c.change_moved.ensures.looked.reads.looks.same.tells ∙ tells)) (c.change_moved.ensures.serves.settled (c.change_moved.ensures.looked.reads.looks.same.tells ∙ tells)))
    (sound_here c.mv.new.volume (g.P.SectorView.space c.mv.new.space) (c.in_ok-reply.ensures.edits.ran.stands.stands ((c.mv.ensures.edits.ran.touches (g.P.SectorView.space c.args.space.now).content).same.tells ∙ (c.change_moved.ensures.looked.reads.looks.same.tells ∙ tells))) (c.in_ok-reply.ensures.serves.settled ((c.mv.ensures.edits.ran.touches []).same.tells ∙ (c.change_moved.ensures.looked.reads.looks.same.tells ∙ tells))))
    (subst (λ (k : Content). Affords (capacity_of c.args.volume.now) (command.Mv c.args.from.now c.args.to.now) k) (sym (c.change_moved.ensures.looked.reads.looks.content tells)) (c.requires.affords tells))
    (ap (λ (k : Content). changes_nothing (tree_of k) (command.Mv c.args.from.now c.args.to.now)) (c.change_moved.ensures.looked.reads.looks.content tells) ∙ (told_moves c.args.number c.args.from.now c.args.to.now (g.P.SectorView.space c.args.space.now).content (c.requires.affords tells).no_refusal c.in_ok-changes.changes (λ not_own goal_not_own pair is. c.in_ok-changes.ensures.told tells not_own goal_not_own pair is) (sym c.is_empty.ensures ∙ c.if-is_empty.false)))
    c.in_ok-reply.reply (c.in_ok-reply.ensures.reply (c.change_moved.ensures.looked.reads.looks.same.tells ∙ tells)) (c.in_ok-reply.ensures.tree (c.change_moved.ensures.looked.reads.looks.same.tells ∙ tells)) (c.in_ok-reply.ensures.lists (c.change_moved.ensures.looked.reads.looks.same.tells ∙ tells)) c.in_ok-changes.changes
    (λ not_own goal_not_own pair is. c.in_ok-changes.ensures.told tells not_own goal_not_own pair (ap (λ (k : Content). to_mv (tree_of k) c.args.from.now c.args.to.now) (sym (c.change_moved.ensures.looked.reads.looks.content tells)) ∙ is)))

pub returns-clause-place : goal.returns-clause-place
returns-clause-place g c tells =
    subst (λ (k : Content). KeepsJournal k (g.P.SectorView.space c.mv.new.space).content) (c.change_moved.ensures.looked.reads.looks.content tells)
    (move_place (capacity_of c.args.volume.now) c.args.number c.args.from.now c.args.to.now (g.P.SectorView.space c.change_moved.new.space).content (g.P.SectorView.space c.mv.new.space).content
    (sound_here c.change_moved.new.self (g.P.SectorView.space c.change_moved.new.space) (c.change_moved.ensures.looked.stands.stands (c.change_moved.ensures.looked.reads.looks.same.tells ∙ tells)) (c.change_moved.ensures.serves.settled (c.change_moved.ensures.looked.reads.looks.same.tells ∙ tells)))
    (sound_here c.mv.new.volume (g.P.SectorView.space c.mv.new.space) (c.in_ok-reply.ensures.edits.ran.stands.stands ((c.mv.ensures.edits.ran.touches (g.P.SectorView.space c.args.space.now).content).same.tells ∙ (c.change_moved.ensures.looked.reads.looks.same.tells ∙ tells))) (c.in_ok-reply.ensures.serves.settled ((c.mv.ensures.edits.ran.touches []).same.tells ∙ (c.change_moved.ensures.looked.reads.looks.same.tells ∙ tells))))
    (subst (λ (k : Content). Affords (capacity_of c.args.volume.now) (command.Mv c.args.from.now c.args.to.now) k) (sym (c.change_moved.ensures.looked.reads.looks.content tells)) (c.requires.affords tells))
    (ap (λ (k : Content). changes_nothing (tree_of k) (command.Mv c.args.from.now c.args.to.now)) (c.change_moved.ensures.looked.reads.looks.content tells) ∙ (told_moves c.args.number c.args.from.now c.args.to.now (g.P.SectorView.space c.args.space.now).content (c.requires.affords tells).no_refusal c.in_ok-changes.changes (λ not_own goal_not_own pair is. c.in_ok-changes.ensures.told tells not_own goal_not_own pair is) (sym c.is_empty.ensures ∙ c.if-is_empty.false)))
    c.in_ok-reply.reply (c.in_ok-reply.ensures.reply (c.change_moved.ensures.looked.reads.looks.same.tells ∙ tells)) (c.in_ok-reply.ensures.tree (c.change_moved.ensures.looked.reads.looks.same.tells ∙ tells)) (c.in_ok-reply.ensures.lists (c.change_moved.ensures.looked.reads.looks.same.tells ∙ tells)))

pub returns-clause-done : goal.returns-clause-done
returns-clause-done g c tells met =
    replied (capacity_of c.args.volume.now) (command.Mv c.args.from.now c.args.to.now) (g.P.SectorView.space c.args.space.now).content (g.P.SectorView.space c.change_moved.new.space).content (c.change_moved.ensures.looked.reads.looks.content tells) refl (c.requires.affords tells) c.in_ok-reply.reply c.in_ok-changes.changes (c.in_ok-reply.ensures.reply (c.change_moved.ensures.looked.reads.looks.same.tells ∙ tells))

pub returns-then-not-fits_move-clause-done : goal.returns-then-not-fits_move-clause-done
returns-then-not-fits_move-clause-done g c tells met =
    let later = c.change_moved.ensures.looked.reads.looks.same.tells ∙ tells in
    let settled = c.requires.serves.settled tells in
    let trees = (c.requires.serves.stands.stands tells).trees in
    let asked = edits_of (tree_of (g.P.SectorView.space c.args.space.now).content) (command.Mv c.args.from.now c.args.to.now) in
    let few = move_fewer (tree_of (g.P.SectorView.space c.args.space.now).content) (settled_is_plain c.sound_has_plain_tree.ensures c.args.volume.now (g.P.SectorView.space c.args.space.now).content trees settled) c.args.from.now c.args.to.now (c.requires.affords tells).no_refusal in
    absurd (true≢false (sym (c.fits_move.ensures.met later
    (fewer_are c.a_load_says_enough.ensures c.a_load_is_of_parts.ensures c.trees_grow_by_enough.ensures c.trees_hold_three.ensures c.change_moved.new.self (g.P.SectorView.space c.change_moved.new.space)
    (sound_here c.change_moved.new.self (g.P.SectorView.space c.change_moved.new.space) (c.change_moved.ensures.looked.stands.stands later) (c.change_moved.ensures.serves.settled later)) (edits 0 3 0 3) asked few
    (met_still c.args.volume.now c.change_moved.new.self (g.P.SectorView.space c.args.space.now) (g.P.SectorView.space c.change_moved.new.space) c.change_moved.ensures.looked.reads tells asked met))) ∙ c.if-not-fits_move.true))

pub returns-clause-loads : goal.returns-clause-loads
returns-clause-loads g c tells = within (command.Mv c.args.from.now c.args.to.now) c.args.volume.now c.change_moved.new.self (g.P.SectorView.space c.args.space.now) (g.P.SectorView.space c.change_moved.new.space) (g.P.SectorView.space c.mv.new.space) c.change_moved.ensures.looked.reads tells refl refl refl (c.requires.affords tells) (c.mv.ensures.loads (c.change_moved.ensures.looked.reads.looks.same.tells ∙ tells))

pub returns-in_err-reply-clause-loads : goal.returns-in_err-reply-clause-loads
returns-in_err-reply-clause-loads g c tells = within (command.Mv c.args.from.now c.args.to.now) c.args.volume.now c.change_moved.new.self (g.P.SectorView.space c.args.space.now) (g.P.SectorView.space c.change_moved.new.space) (g.P.SectorView.space c.mv.new.space) c.change_moved.ensures.looked.reads tells refl refl refl (c.requires.affords tells) (c.mv.ensures.loads (c.change_moved.ensures.looked.reads.looks.same.tells ∙ tells))

pub returns-in_err-changes-clause-loads : goal.returns-in_err-changes-clause-loads
returns-in_err-changes-clause-loads g c tells = within_reads (command.Mv c.args.from.now c.args.to.now) c.args.volume.now c.change_moved.new.self (g.P.SectorView.space c.args.space.now) (g.P.SectorView.space c.change_moved.new.space) c.change_moved.ensures.looked.reads

pub returns-then-not-fits_move-clause-loads : goal.returns-then-not-fits_move-clause-loads
returns-then-not-fits_move-clause-loads g c tells = within_reads (command.Mv c.args.from.now c.args.to.now) c.args.volume.now c.change_moved.new.self (g.P.SectorView.space c.args.space.now) (g.P.SectorView.space c.change_moved.new.space) c.change_moved.ensures.looked.reads

pub returns-clause-edits : goal.returns-clause-edits
returns-clause-edits g c = edits_ok (edits_spent (edits_both g.met.P.SectorView.follows_trans c.change_moved.ensures.looked.edits c.in_ok-reply.ensures.edits) (λ tells. omega arith))

pub returns-in_err-reply-clause-edits : goal.returns-in_err-reply-clause-edits
returns-in_err-reply-clause-edits g c = edits_err c.from_residual-in_err-reply.ensures.1 (edits_spent (edits_both g.met.P.SectorView.follows_trans c.change_moved.ensures.looked.edits c.in_err-reply.ensures.edits) (λ tells. omega arith))

pub returns-in_err-changes-clause-edits : goal.returns-in_err-changes-clause-edits
returns-in_err-changes-clause-edits g c = looked_err _ c.from_residual.ensures.1 c.in_err-changes.ensures.looked

pub returns-then-not-fits_move-clause-edits : goal.returns-then-not-fits_move-clause-edits
returns-then-not-fits_move-clause-edits g c = looked_ok _ c.change_moved.ensures.looked

pub returns-then-not-fits_move-clause-place : goal.returns-then-not-fits_move-clause-place
returns-then-not-fits_move-clause-place g c tells = same_place (g.P.SectorView.space c.args.space.now).content (g.P.SectorView.space c.change_moved.new.space).content (c.change_moved.ensures.looked.reads.looks.content tells)

-- ---- a file that is moved onto itself

pub returns-then-is_empty-clause-answered : goal.returns-then-is_empty-clause-answered
returns-then-is_empty-clause-answered g c tells =
    subst (λ (k : Content). StepsTo (outcome.Answered reply.Ok c.in_ok-changes.changes) (capacity_of c.args.volume.now) c.args.number (command.Mv c.args.from.now c.args.to.now) (g.P.SectorView.space c.args.space.now).content k) (sym (c.change_moved.ensures.looked.reads.looks.content tells))
    (still_steps c.args.number c.args.from.now c.args.to.now (g.P.SectorView.space c.args.space.now).content (c.requires.affords tells).no_refusal c.in_ok-changes.changes (λ not_own goal_not_own pair is. c.in_ok-changes.ensures.told tells not_own goal_not_own pair is)
    (capacity_of c.args.volume.now) (sound_here c.args.volume.now (g.P.SectorView.space c.args.space.now) (c.requires.serves.stands.stands tells) (c.requires.serves.settled tells)) (c.requires.affords tells) (quiet_still c.args.number c.args.from.now c.args.to.now (g.P.SectorView.space c.args.space.now).content (c.requires.affords tells).no_refusal c.in_ok-changes.changes (λ not_own goal_not_own pair is. c.in_ok-changes.ensures.told tells not_own goal_not_own pair is) (sym c.is_empty.ensures ∙ c.if-is_empty.true)))

pub returns-then-is_empty-clause-done : goal.returns-then-is_empty-clause-done
returns-then-is_empty-clause-done g c tells met = tt

pub returns-then-is_empty-clause-still : goal.returns-then-is_empty-clause-still
returns-then-is_empty-clause-still g c tells rests = tt

pub returns-then-is_empty-clause-place : goal.returns-then-is_empty-clause-place
returns-then-is_empty-clause-place g c tells = same_place (g.P.SectorView.space c.args.space.now).content (g.P.SectorView.space c.change_moved.new.space).content (c.change_moved.ensures.looked.reads.looks.content tells)

pub returns-then-is_empty-clause-edits : goal.returns-then-is_empty-clause-edits
returns-then-is_empty-clause-edits g c = looked_ok _ c.change_moved.ensures.looked

pub returns-then-is_empty-clause-loads : goal.returns-then-is_empty-clause-loads
returns-then-is_empty-clause-loads g c tells = within_reads (command.Mv c.args.from.now c.args.to.now) c.args.volume.now c.change_moved.new.self (g.P.SectorView.space c.args.space.now) (g.P.SectorView.space c.change_moved.new.space) c.change_moved.ensures.looked.reads

pub returns-then-not-fits_move-clause-still : goal.returns-then-not-fits_move-clause-still
returns-then-not-fits_move-clause-still g c tells rests = absurd (true≢false (sym rests ∙ (told_moves c.args.number c.args.from.now c.args.to.now (g.P.SectorView.space c.args.space.now).content (c.requires.affords tells).no_refusal c.in_ok-changes.changes (λ not_own goal_not_own pair is. c.in_ok-changes.ensures.told tells not_own goal_not_own pair is) (sym c.is_empty.ensures ∙ c.if-is_empty.false))))

pub returns-clause-still : goal.returns-clause-still
returns-clause-still g c tells rests = absurd (true≢false (sym rests ∙ (told_moves c.args.number c.args.from.now c.args.to.now (g.P.SectorView.space c.args.space.now).content (c.requires.affords tells).no_refusal c.in_ok-changes.changes (λ not_own goal_not_own pair is. c.in_ok-changes.ensures.told tells not_own goal_not_own pair is) (sym c.is_empty.ensures ∙ c.if-is_empty.false))))
