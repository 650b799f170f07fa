use Rattle.std.proofs.Common.{◌≡◌, [], refl, sym, ◌∙◌, ap, subst, arith}
use Rattle.std.specs.Prelude.{◌==◌, length, IfNone, IfSome, Option, Some, Ok}
use Rattle.std.proofs.lemmas.Bool.{eqb-true, true≢false}
use Rattle.sector_disk.specs.Lists.{Content}
use Rattle.hfs_language.specs.declared.command.Command.TheVariants as command
use Rattle.hfs_language.specs.declared.reply.Reply.{Reply}
use Rattle.hfs_model.specs.Step.{reached, step_line}
use Rattle.hfs_volume.specs.Aside.{IsJournalSector}
use Rattle.hfs_volume.specs.TreeOf.{tree_of}
use Rattle.volume_base.specs.Room.{capacity_of}
use Rattle.volume_space.proofs.Sounding.{sound_here}
use Rattle.volume_step.specs.Steps.{Affords, KeepsJournal, StepsTo}
use Rattle.volume_step.specs.declared.outcome.Outcome.TheVariants as outcome
use Rattle.volume_step.proofs.Done.{same_place}
use Rattle.volume_step.proofs.Putting.{value_place, value_steps}
use Rattle.volume_step.proofs.Shortened.{nothing_steps}
use Rattle.volume_step.proofs.Ready.{written_none}
use Rattle.volume_step.proofs.ReadyData.{data_still, put_none}
use Rattle.volume_step.proofs.Loaded.{within_behind, within_reads, within_none}
use Rattle.volume_step.proofs.Unfilled.{filled_still}
use Rattle.volume_step.proofs.Performed.{performs_done, performs_err, performs_failed, performs_looked, performs_then}
use Rattle.volume_base.proofs.Looked.{looked_none}
use Rattle.volume_step.proofs.resizing.write_value.Goals as goal

pub write-requires-clause-closed : goal.write-requires-clause-closed
write-requires-clause-closed g c told at shut =
    let tells = sym c.change_at.ensures.looked.reads.looks.same.tells ∙ told in
    subst (λ (k : Content). IsJournalSector k at) (sym (c.change_at.ensures.looked.reads.looks.content tells)) (c.requires.closed tells at ((c.change_at.ensures.looked.reads.looks.closed tells at).0 shut))

pub returns-in-Some-clause-answered : goal.returns-in-Some-clause-answered
returns-in-Some-clause-answered g c tells =
    subst (λ (k : Content). StepsTo (outcome.Answered c.in-Some.reply c.in_ok-changes.changes) (capacity_of c.args.volume.now) c.args.number (command.Write c.args.path.now c.args.from c.args.value.now) k (g.P.SectorView.space c.write.new.space).content) (c.change_at.ensures.looked.reads.looks.content tells)
    (value_steps (capacity_of c.args.volume.now) c.args.number c.args.path.now c.args.from c.args.value.now (g.P.SectorView.space c.change_at.new.space).content (g.P.SectorView.space c.write.new.space).content
    (sound_here c.change_at.new.self (g.P.SectorView.space c.change_at.new.space) (c.change_at.ensures.looked.stands.stands (c.change_at.ensures.looked.reads.looks.same.tells ∙ tells)) (c.change_at.ensures.serves.settled (c.change_at.ensures.looked.reads.looks.same.tells ∙ tells)))
    (sound_here c.write.new.volume (g.P.SectorView.space c.write.new.space) (c.in_ok-reply.ensures.stands.stands (c.write.ensures.same.tells ∙ (c.change_at.ensures.looked.reads.looks.same.tells ∙ tells))) (c.in_ok-reply.ensures.settled (c.change_at.ensures.looked.reads.looks.same.tells ∙ tells)))
    (subst (λ (k : Content). Affords (capacity_of c.args.volume.now) (command.Write c.args.path.now c.args.from c.args.value.now) k) (sym (c.change_at.ensures.looked.reads.looks.content tells)) (c.requires.affords tells))
    c.in-Some.reply (subst (λ (o : Option Reply). IfSome o (λ reply. reply ≡ (step_line (tree_of (g.P.SectorView.space c.change_at.new.space).content) (Ok (command.Write c.args.path.now c.args.from c.args.value.now))).0)) c.in-Some.is (c.in_ok-reply.ensures.reply (c.change_at.ensures.looked.reads.looks.same.tells ∙ tells)))
    (subst (λ (o : Option Reply). IfSome o (λ reply. tree_of (g.P.SectorView.space c.write.new.space).content ≡ (step_line (tree_of (g.P.SectorView.space c.change_at.new.space).content) (Ok (command.Write c.args.path.now c.args.from c.args.value.now))).1)) c.in-Some.is (c.in_ok-reply.ensures.tree (c.change_at.ensures.looked.reads.looks.same.tells ∙ tells)))
    (λ ok. c.in_ok-reply.ensures.lists (c.change_at.ensures.looked.reads.looks.same.tells ∙ tells) (c.in-Some.is ∙ ap Some ok)) (λ none. true≢false (sym (ap (λ n. n == 0) none) ∙ sym c.is_empty.ensures ∙ c.if-is_empty.false)) c.in_ok-changes.changes
    (λ not_own entry is. c.in_ok-changes.ensures.told tells not_own entry (ap (λ (k : Content). reached (tree_of k) c.args.path.now) (sym (c.change_at.ensures.looked.reads.looks.content tells)) ∙ is)))

pub returns-in-Some-clause-place : goal.returns-in-Some-clause-place
returns-in-Some-clause-place g c tells =
    subst (λ (k : Content). KeepsJournal k (g.P.SectorView.space c.write.new.space).content) (c.change_at.ensures.looked.reads.looks.content tells)
    (value_place (capacity_of c.args.volume.now) c.args.number c.args.path.now c.args.from c.args.value.now (g.P.SectorView.space c.change_at.new.space).content (g.P.SectorView.space c.write.new.space).content
    (sound_here c.change_at.new.self (g.P.SectorView.space c.change_at.new.space) (c.change_at.ensures.looked.stands.stands (c.change_at.ensures.looked.reads.looks.same.tells ∙ tells)) (c.change_at.ensures.serves.settled (c.change_at.ensures.looked.reads.looks.same.tells ∙ tells)))
    (sound_here c.write.new.volume (g.P.SectorView.space c.write.new.space) (c.in_ok-reply.ensures.stands.stands (c.write.ensures.same.tells ∙ (c.change_at.ensures.looked.reads.looks.same.tells ∙ tells))) (c.in_ok-reply.ensures.settled (c.change_at.ensures.looked.reads.looks.same.tells ∙ tells)))
    (subst (λ (k : Content). Affords (capacity_of c.args.volume.now) (command.Write c.args.path.now c.args.from c.args.value.now) k) (sym (c.change_at.ensures.looked.reads.looks.content tells)) (c.requires.affords tells))
    c.in-Some.reply (subst (λ (o : Option Reply). IfSome o (λ reply. reply ≡ (step_line (tree_of (g.P.SectorView.space c.change_at.new.space).content) (Ok (command.Write c.args.path.now c.args.from c.args.value.now))).0)) c.in-Some.is (c.in_ok-reply.ensures.reply (c.change_at.ensures.looked.reads.looks.same.tells ∙ tells)))
    (subst (λ (o : Option Reply). IfSome o (λ reply. tree_of (g.P.SectorView.space c.write.new.space).content ≡ (step_line (tree_of (g.P.SectorView.space c.change_at.new.space).content) (Ok (command.Write c.args.path.now c.args.from c.args.value.now))).1)) c.in-Some.is (c.in_ok-reply.ensures.tree (c.change_at.ensures.looked.reads.looks.same.tells ∙ tells)))
    (λ ok. c.in_ok-reply.ensures.lists (c.change_at.ensures.looked.reads.looks.same.tells ∙ tells) (c.in-Some.is ∙ ap Some ok)))

pub returns-in-None-clause-answered : goal.returns-in-None-clause-answered
returns-in-None-clause-answered g c tells = (subst (λ (o : Option Reply). IfNone o ((g.P.SectorView.space c.write.new.space).content ≡ (g.P.SectorView.space c.change_at.new.space).content)) c.in-None.is (c.in_ok-reply.ensures.waits (c.change_at.ensures.looked.reads.looks.same.tells ∙ tells))) ∙ c.change_at.ensures.looked.reads.looks.content tells

pub returns-in-None-clause-place : goal.returns-in-None-clause-place
returns-in-None-clause-place g c tells = same_place (g.P.SectorView.space c.args.space.now).content (g.P.SectorView.space c.write.new.space).content ((subst (λ (o : Option Reply). IfNone o ((g.P.SectorView.space c.write.new.space).content ≡ (g.P.SectorView.space c.change_at.new.space).content)) c.in-None.is (c.in_ok-reply.ensures.waits (c.change_at.ensures.looked.reads.looks.same.tells ∙ tells))) ∙ c.change_at.ensures.looked.reads.looks.content tells)

pub returns-then-is_empty-clause-answered : goal.returns-then-is_empty-clause-answered
returns-then-is_empty-clause-answered g c tells =
    nothing_steps (capacity_of c.args.volume.now) c.args.number c.args.path.now c.args.from c.args.value.now (g.P.SectorView.space c.args.space.now).content (eqb-true (length c.args.value.now) 0 (sym c.is_empty.ensures ∙ c.if-is_empty.true))
    (sound_here c.args.volume.now (g.P.SectorView.space c.args.space.now) (c.requires.serves.stands.stands tells) (c.requires.serves.settled tells)) (c.requires.affords tells) c.new.result c.new.ensures

pub returns-then-is_empty-clause-place : goal.returns-then-is_empty-clause-place
returns-then-is_empty-clause-place g c tells = same_place (g.P.SectorView.space c.args.space.now).content (g.P.SectorView.space c.args.space.now).content refl

pub returns-in-None-clause-ready : goal.returns-in-None-clause-ready
returns-in-None-clause-ready g c tells no_data =
    absurd (true≢false (sym (written_none (capacity_of c.args.volume.now) c.args.path.now c.args.from c.args.value.now (g.P.SectorView.space c.args.space.now).content (c.requires.affords tells) no_data) ∙ sym c.is_empty.ensures ∙ c.if-is_empty.false))

pub returns-in-None-clause-puts : goal.returns-in-None-clause-puts
returns-in-None-clause-puts g c tells met =
    absurd (put_none c.in_ok-reply.field-0 _ c.in-None.is (c.in_ok-reply.ensures.met (c.change_at.ensures.looked.reads.looks.same.tells ∙ tells))
    (data_still (command.Write c.args.path.now c.args.from c.args.value.now) c.args.volume.now c.change_at.new.self (g.P.SectorView.space c.args.space.now) (g.P.SectorView.space c.change_at.new.space) c.change_at.ensures.looked.reads tells met))

pub returns-in-Some-clause-loads : goal.returns-in-Some-clause-loads
returns-in-Some-clause-loads g c tells =
    within_behind (command.Write c.args.path.now c.args.from c.args.value.now) c.args.volume.now c.change_at.new.self (g.P.SectorView.space c.args.space.now) (g.P.SectorView.space c.change_at.new.space) (g.P.SectorView.space c.write.new.space) c.change_at.ensures.looked.reads tells
    (λ load grow is. c.write.ensures.loads (c.change_at.ensures.looked.reads.looks.same.tells ∙ tells) load grow is)

pub returns-in-None-clause-loads : goal.returns-in-None-clause-loads
returns-in-None-clause-loads g c tells =
    within_behind (command.Write c.args.path.now c.args.from c.args.value.now) c.args.volume.now c.change_at.new.self (g.P.SectorView.space c.args.space.now) (g.P.SectorView.space c.change_at.new.space) (g.P.SectorView.space c.write.new.space) c.change_at.ensures.looked.reads tells
    (λ load grow is. c.write.ensures.loads (c.change_at.ensures.looked.reads.looks.same.tells ∙ tells) load grow is)

pub returns-in_err-reply-clause-loads : goal.returns-in_err-reply-clause-loads
returns-in_err-reply-clause-loads g c tells =
    within_behind (command.Write c.args.path.now c.args.from c.args.value.now) c.args.volume.now c.change_at.new.self (g.P.SectorView.space c.args.space.now) (g.P.SectorView.space c.change_at.new.space) (g.P.SectorView.space c.write.new.space) c.change_at.ensures.looked.reads tells
    (λ load grow is. c.write.ensures.loads (c.change_at.ensures.looked.reads.looks.same.tells ∙ tells) load grow is)

pub returns-in_err-changes-clause-loads : goal.returns-in_err-changes-clause-loads
returns-in_err-changes-clause-loads g c tells = within_reads (command.Write c.args.path.now c.args.from c.args.value.now) c.args.volume.now c.change_at.new.self (g.P.SectorView.space c.args.space.now) (g.P.SectorView.space c.change_at.new.space) c.change_at.ensures.looked.reads

pub returns-then-is_empty-clause-loads : goal.returns-then-is_empty-clause-loads
returns-then-is_empty-clause-loads g c tells = within_none (command.Write c.args.path.now c.args.from c.args.value.now) c.args.volume.now (g.P.SectorView.space c.args.space.now) (g.P.SectorView.space c.args.space.now) (omega arith)

pub write-requires-clause-filled : goal.write-requires-clause-filled
write-requires-clause-filled g c = filled_still c.args.volume.now c.change_at.new.self (g.P.SectorView.space c.args.space.now) (g.P.SectorView.space c.change_at.new.space) c.change_at.ensures.looked.reads c.requires.filled

pub returns-in-Some-clause-frame : goal.returns-in-Some-clause-frame
returns-in-Some-clause-frame g c = performs_then g.met.P.SectorView.follows_trans c.change_at.ensures.looked (performs_done c.write.ensures.below c.in_ok-reply.ensures.cause.later c.in_ok-reply.ensures.stands c.in_ok-reply.ensures.settled c.in_ok-reply.ensures.holds c.write.ensures.capacity c.write.ensures.touches c.write.ensures.same)

pub returns-in-None-clause-frame : goal.returns-in-None-clause-frame
returns-in-None-clause-frame g c = performs_then g.met.P.SectorView.follows_trans c.change_at.ensures.looked (performs_done c.write.ensures.below c.in_ok-reply.ensures.cause.later c.in_ok-reply.ensures.stands c.in_ok-reply.ensures.settled c.in_ok-reply.ensures.holds c.write.ensures.capacity c.write.ensures.touches c.write.ensures.same)

pub returns-in_err-reply-clause-frame : goal.returns-in_err-reply-clause-frame
returns-in_err-reply-clause-frame g c = performs_err c.from_residual-in_err-reply.ensures.1 (performs_then g.met.P.SectorView.follows_trans c.change_at.ensures.looked (performs_failed c.write.ensures.below c.in_err-reply.ensures.cause c.write.ensures.service c.write.ensures.capacity c.write.ensures.touches c.write.ensures.same))

pub returns-in_err-changes-clause-frame : goal.returns-in_err-changes-clause-frame
returns-in_err-changes-clause-frame g c = performs_err c.from_residual.ensures.1 (performs_looked c.in_err-changes.ensures.looked c.change_at.ensures.serves)

pub returns-then-is_empty-clause-frame : goal.returns-then-is_empty-clause-frame
returns-then-is_empty-clause-frame g c = performs_looked (looked_none g.met.P.SectorView.follows_refl c.requires.serves.stands) c.requires.serves
