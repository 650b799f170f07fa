use Rattle.std.proofs.Common.{ℕ, refl, sym, ◌∙◌, subst}
use Rattle.std.specs.Prelude.{IfOk, None, OnOk, Option}
use Rattle.sector_disk.specs.Lists.{Content}
use Rattle.hfs_volume.specs.Aside.{IsJournalSector}
use Rattle.hfs_volume.specs.Content.{volume_of}
use Rattle.hfs_volume.specs.TreeOf.{tree_of}
use Rattle.volume_base.specs.Keeping.{shrunk_of}
use Rattle.volume_base.specs.Room.{capacity_of}
use Rattle.volume_step.specs.Steps.{Affords, KeepsJournal, ShrinksAs, StepsNow}
use Rattle.volume_step.specs.declared.outcome.Outcome.{Outcome}
use Rattle.volume_step.proofs.Done.{same_place}
use Rattle.volume_base.proofs.Seeing.{if_so}
use Rattle.volume_step.proofs.FilledFirst.{again_now, commit_again, commit_none, commit_some, few_none, filled_some, hand_dropped, hand_fills, fills_place, fills_steps, never_few, never_many, now_filling, now_never, now_steps}
use Rattle.volume_step.proofs.Loaded.{within_behind, within_none}
use Rattle.volume_step.proofs.Ready.{now_still}
use Rattle.volume_step.proofs.ReadyData.{data_still}
use Rattle.volume_step.proofs.Unfilled.{filled_none}
use Rattle.hfs_volume.specs.Weight.{data_of}
use Rattle.volume_base.proofs.Framed.{looked_of}
use Rattle.volume_step.proofs.Performed.{performs_drop, performs_err, performs_from, performs_later, performs_ok, performs_own}
use Rattle.volume_step.proofs.stepping.perform.Goals as goal

pub perform_last-requires-clause-filled : goal.perform_last-requires-clause-filled
perform_last-requires-clause-filled g c = c.in_ok-zeros.ensures.filled

pub perform_last-requires-clause-closed : goal.perform_last-requires-clause-closed
perform_last-requires-clause-closed g c told at shut = let reads = (c.in_ok-zeros.ensures.reads (few_none c.in_ok-zeros.zeros c.in-Few.is)) in let tells = sym reads.looks.same.tells ∙ told in subst (λ (k : Content). IsJournalSector k at) (sym (reads.looks.content tells)) (c.requires.closed tells at ((reads.looks.closed tells at).0 shut))

pub perform_last-requires-clause-affords : goal.perform_last-requires-clause-affords
perform_last-requires-clause-affords g c told = let reads = (c.in_ok-zeros.ensures.reads (few_none c.in_ok-zeros.zeros c.in-Few.is)) in let tells = sym reads.looks.same.tells ∙ told in subst (λ (k : ℕ × Content). Affords k.0 c.args.command.now k.1) {x = (capacity_of c.args.volume.now, (g.P.SectorView.space c.args.space.now).content)} {y = (capacity_of c.fill_for.new.volume, (g.P.SectorView.space c.fill_for.new.space).content)} (λ i. (sym reads.keeps.capacity i, sym (reads.looks.content tells) i)) (c.requires.affords tells)

pub returns-in-Few-clause-answered : goal.returns-in-Few-clause-answered
returns-in-Few-clause-answered g c tells =
    let reads = (c.in_ok-zeros.ensures.reads (few_none c.in_ok-zeros.zeros c.in-Few.is)) in
    if_so _ _ c.perform_last.result (λ it is. now_steps it (capacity_of c.args.volume.now) c.args.number c.args.command.now (g.P.SectorView.space c.args.space.now).content (g.P.SectorView.space c.perform_last.new.space).content
    (subst (λ (k : ℕ × Content). StepsNow it k.0 c.args.number c.args.command.now k.1 (g.P.SectorView.space c.perform_last.new.space).content) {x = (capacity_of c.fill_for.new.volume, (g.P.SectorView.space c.fill_for.new.space).content)} {y = (capacity_of c.args.volume.now, (g.P.SectorView.space c.args.space.now).content)} (λ i. (reads.keeps.capacity i, reads.looks.content tells i)) is))
    (c.perform_last.ensures.answered (reads.looks.same.tells ∙ tells))

pub returns-in-Few-clause-further : goal.returns-in-Few-clause-further
returns-in-Few-clause-further g c tells =
    let reads = (c.in_ok-zeros.ensures.reads (few_none c.in_ok-zeros.zeros c.in-Few.is)) in
    if_so _ _ c.perform_last.result (λ it is same. absurd (now_never it (capacity_of c.fill_for.new.volume) c.args.number c.args.command.now (g.P.SectorView.space c.fill_for.new.space).content (g.P.SectorView.space c.perform_last.new.space).content is same)) (c.perform_last.ensures.answered (reads.looks.same.tells ∙ tells))

pub returns-in-Filled-clause-further : goal.returns-in-Filled-clause-further
returns-in-Filled-clause-further g c tells same = c.in_ok-zeros.ensures.next tells c.in-Filled.is

pub returns-in-CommitFirst-clause-further : goal.returns-in-CommitFirst-clause-further
returns-in-CommitFirst-clause-further g c tells same = absurd (commit_again same)

pub returns-in-Few-clause-ready : goal.returns-in-Few-clause-ready
returns-in-Few-clause-ready g c tells unread now none_grow = let reads = (c.in_ok-zeros.ensures.reads (few_none c.in_ok-zeros.zeros c.in-Few.is)) in let here = now_filling c.args.volume.now c.fill_for.new.volume.filling c.args.command.now (g.P.SectorView.space c.args.space.now) now in let still = now_still c.args.command.now (record c.args.volume.now { filling = c.fill_for.new.volume.filling }) c.fill_for.new.volume (g.P.SectorView.space c.args.space.now) (g.P.SectorView.space c.fill_for.new.space) reads tells here.0 in c.perform_last.ensures.ready (reads.looks.same.tells ∙ tells) unread still.0 (still.1 ∙ here.1 ∙ none_grow)

pub returns-in-Few-clause-puts : goal.returns-in-Few-clause-puts
returns-in-Few-clause-puts g c tells puts = let reads = (c.in_ok-zeros.ensures.reads (few_none c.in_ok-zeros.zeros c.in-Few.is)) in c.perform_last.ensures.puts (reads.looks.same.tells ∙ tells) (data_still c.args.command.now (record c.args.volume.now { filling = c.fill_for.new.volume.filling }) c.fill_for.new.volume (g.P.SectorView.space c.args.space.now) (g.P.SectorView.space c.fill_for.new.space) reads tells puts.met)

pub returns-in-Few-clause-place : goal.returns-in-Few-clause-place
returns-in-Few-clause-place g c tells = let reads = (c.in_ok-zeros.ensures.reads (few_none c.in_ok-zeros.zeros c.in-Few.is)) in subst (λ (k : Content). OnOk c.perform_last.result (KeepsJournal k (g.P.SectorView.space c.perform_last.new.space).content)) (reads.looks.content tells) (c.perform_last.ensures.place (reads.looks.same.tells ∙ tells))

pub returns-in-Few-clause-shrunk : goal.returns-in-Few-clause-shrunk
returns-in-Few-clause-shrunk g c tells = let reads = (c.in_ok-zeros.ensures.reads (few_none c.in_ok-zeros.zeros c.in-Few.is)) in subst (λ (k : Option ℕ × Content). IfOk c.perform_last.result (λ (o : Outcome). ShrinksAs o c.args.command.now k.1 k.0 (shrunk_of c.perform_last.new.volume))) {x = (shrunk_of c.fill_for.new.volume, (g.P.SectorView.space c.fill_for.new.space).content)} {y = (shrunk_of c.args.volume.now, (g.P.SectorView.space c.args.space.now).content)} (λ i. (reads.keeps.shrunk i, reads.looks.content tells i)) (c.perform_last.ensures.shrunk (reads.looks.same.tells ∙ tells))

pub returns-in-Few-clause-loads : goal.returns-in-Few-clause-loads
returns-in-Few-clause-loads g c tells = let reads = (c.in_ok-zeros.ensures.reads (few_none c.in_ok-zeros.zeros c.in-Few.is)) in within_behind c.args.command.now (record c.args.volume.now { filling = c.fill_for.new.volume.filling }) c.fill_for.new.volume (g.P.SectorView.space c.args.space.now) (g.P.SectorView.space c.fill_for.new.space) (g.P.SectorView.space c.perform_last.new.space) reads tells (c.perform_last.ensures.loads (reads.looks.same.tells ∙ tells))

pub returns-in-Filled-clause-answered : goal.returns-in-Filled-clause-answered
returns-in-Filled-clause-answered g c tells = fills_steps (capacity_of c.args.volume.now) c.args.number c.args.command.now (g.P.SectorView.space c.args.space.now).content (g.P.SectorView.space c.fill_for.new.space).content (c.requires.affords tells) (c.requires.uncut tells) (c.in_ok-zeros.ensures.many tells (filled_some c.in_ok-zeros.zeros c.in-Filled.is)) (c.in_ok-zeros.ensures.fills tells c.in-Filled.is)

pub returns-in-Filled-clause-ready : goal.returns-in-Filled-clause-ready
returns-in-Filled-clause-ready g c tells unread now none_grow same = again_now same

pub returns-in-Filled-clause-puts : goal.returns-in-Filled-clause-puts
returns-in-Filled-clause-puts g c tells puts same = again_now same

pub returns-in-Filled-clause-place : goal.returns-in-Filled-clause-place
returns-in-Filled-clause-place g c tells = fills_place (g.P.SectorView.space c.args.space.now).content (g.P.SectorView.space c.fill_for.new.space).content (c.in_ok-zeros.ensures.fills tells c.in-Filled.is)

pub returns-in-CommitFirst-clause-answered : goal.returns-in-CommitFirst-clause-answered
returns-in-CommitFirst-clause-answered g c tells = (c.in_ok-zeros.ensures.reads (commit_none c.in_ok-zeros.zeros c.in-CommitFirst.is)).looks.content tells

pub returns-in-CommitFirst-clause-ready : goal.returns-in-CommitFirst-clause-ready
returns-in-CommitFirst-clause-ready g c tells unread now none_grow same = never_many (volume_of (g.P.SectorView.space c.args.space.now).content).head.block_size (tree_of (g.P.SectorView.space c.args.space.now).content) c.args.command.now now.no_data (c.in_ok-zeros.ensures.many tells (commit_some c.in_ok-zeros.zeros c.in-CommitFirst.is))

pub returns-in-CommitFirst-clause-puts : goal.returns-in-CommitFirst-clause-puts
returns-in-CommitFirst-clause-puts g c tells puts same = never_few c.args.command.now c.args.volume.now (g.P.SectorView.space c.args.space.now) puts.few (c.in_ok-zeros.ensures.many tells (commit_some c.in_ok-zeros.zeros c.in-CommitFirst.is)) (c.in_ok-zeros.ensures.commit c.in-CommitFirst.is)

pub returns-in-CommitFirst-clause-place : goal.returns-in-CommitFirst-clause-place
returns-in-CommitFirst-clause-place g c tells = same_place (g.P.SectorView.space c.args.space.now).content (g.P.SectorView.space c.fill_for.new.space).content ((c.in_ok-zeros.ensures.reads (commit_none c.in_ok-zeros.zeros c.in-CommitFirst.is)).looks.content tells)

pub returns-in-Filled-clause-filled : goal.returns-in-Filled-clause-filled
returns-in-Filled-clause-filled g c = c.in_ok-zeros.ensures.filled

pub returns-in-Filled-clause-shrunk : goal.returns-in-Filled-clause-shrunk
returns-in-Filled-clause-shrunk g c tells = c.fill_for.ensures.keeps.shrunk

pub returns-in-CommitFirst-clause-filled : goal.returns-in-CommitFirst-clause-filled
returns-in-CommitFirst-clause-filled g c = filled_none (record c.fill_for.new.volume { filling = None }) (g.P.SectorView.space c.fill_for.new.space) refl

pub returns-in-CommitFirst-clause-shrunk : goal.returns-in-CommitFirst-clause-shrunk
returns-in-CommitFirst-clause-shrunk g c tells = c.fill_for.ensures.keeps.shrunk

pub returns-in-Filled-clause-loads : goal.returns-in-Filled-clause-loads
returns-in-Filled-clause-loads g c tells = within_none c.args.command.now c.args.volume.now (g.P.SectorView.space c.args.space.now) (g.P.SectorView.space c.fill_for.new.space) c.fill_for.ensures.spare

pub returns-in-CommitFirst-clause-loads : goal.returns-in-CommitFirst-clause-loads
returns-in-CommitFirst-clause-loads g c tells = within_none c.args.command.now c.args.volume.now (g.P.SectorView.space c.args.space.now) (g.P.SectorView.space c.fill_for.new.space) c.fill_for.ensures.spare

pub returns-in_err-zeros-clause-loads : goal.returns-in_err-zeros-clause-loads
returns-in_err-zeros-clause-loads g c tells = within_none c.args.command.now c.args.volume.now (g.P.SectorView.space c.args.space.now) (g.P.SectorView.space c.fill_for.new.space) c.fill_for.ensures.spare

pub returns-in-Few-clause-least : goal.returns-in-Few-clause-least
returns-in-Few-clause-least g c tells = let reads = c.in_ok-zeros.ensures.reads (few_none c.in_ok-zeros.zeros c.in-Few.is) in if_so _ _ c.perform_last.result (λ it is done. c.in_ok-zeros.ensures.few tells c.in-Few.is) (c.perform_last.ensures.answered (reads.looks.same.tells ∙ tells))

pub returns-in-Filled-clause-least : goal.returns-in-Filled-clause-least
returns-in-Filled-clause-least g c tells done = absurd done

pub returns-in-CommitFirst-clause-least : goal.returns-in-CommitFirst-clause-least
returns-in-CommitFirst-clause-least g c tells done = absurd done

pub returns-in-Few-clause-hand : goal.returns-in-Few-clause-hand
returns-in-Few-clause-hand g c tells = hand_dropped c.perform_last.result (data_of (tree_of (g.P.SectorView.space c.args.space.now).content) c.args.command.now) c.perform_last.new.volume.filling c.perform_last.ensures.dropped

pub returns-in-Filled-clause-hand : goal.returns-in-Filled-clause-hand
returns-in-Filled-clause-hand g c tells = hand_fills (data_of (tree_of (g.P.SectorView.space c.args.space.now).content) c.args.command.now) c.args.volume.now.filling c.fill_for.new.volume.filling (c.in_ok-zeros.ensures.next tells c.in-Filled.is)

pub returns-in-CommitFirst-clause-hand : goal.returns-in-CommitFirst-clause-hand
returns-in-CommitFirst-clause-hand g c tells = tt

pub perform_last-requires-clause-serves : goal.perform_last-requires-clause-serves
perform_last-requires-clause-serves g c = c.in_ok-zeros.ensures.frame.serves

pub returns-in-Few-clause-frame : goal.returns-in-Few-clause-frame
returns-in-Few-clause-frame g c = performs_from c.fill_for.new.volume.filling (performs_later g.met.P.SectorView.follows_trans (looked_of c.fill_for.ensures.frame.below c.fill_for.ensures.frame.cause c.in_ok-zeros.ensures.frame.serves.stands (c.in_ok-zeros.ensures.reads (few_none c.in_ok-zeros.zeros c.in-Few.is))) c.perform_last.ensures.frame)

pub returns-in-Filled-clause-frame : goal.returns-in-Filled-clause-frame
returns-in-Filled-clause-frame g c = performs_ok (performs_own c.in_ok-zeros.ensures.frame)

pub returns-in-CommitFirst-clause-frame : goal.returns-in-CommitFirst-clause-frame
returns-in-CommitFirst-clause-frame g c = performs_ok (performs_drop None (performs_own c.in_ok-zeros.ensures.frame))

pub returns-in_err-zeros-clause-frame : goal.returns-in_err-zeros-clause-frame
returns-in_err-zeros-clause-frame g c = performs_err c.from_residual.ensures.1 (performs_own c.in_err-zeros.ensures.frame)
