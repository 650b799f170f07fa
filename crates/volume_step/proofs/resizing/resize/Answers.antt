use Rattle.std.proofs.Common.{◌≡◌, ℕ, true, [], refl, sym, ◌∙◌, ap, subst}
use Rattle.std.proofs.lemmas.Bool.{true≢false}
use Rattle.std.specs.Prelude.{IfNone, IfOk, IfSome, OnOk, is_some, Option, Some, Ok}
use Rattle.sector_disk.specs.Lists.{Content}
use Rattle.hfs_language.specs.declared.command.Command.TheVariants as command
use Rattle.hfs_language.specs.declared.reply.Reply.{Reply}
use Rattle.hfs_model.specs.Step.{reached, step_line}
use Rattle.hfs_volume.specs.Aside.{IsJournalSector}
use Rattle.hfs_volume.specs.TreeOf.{tree_of}
use Rattle.hfs_volume.specs.Weight.{data_of}
use Rattle.volume_base.specs.Keeping.{shrunk_of}
use Rattle.volume_base.specs.Looking.{ReadsVolume}
use Rattle.volume_base.specs.Resizing.{shrunk_then}
use Rattle.volume_base.specs.Room.{capacity_of}
use Rattle.volume_space.proofs.Sounding.{sound_here}
use Rattle.volume_base.proofs.Still.{volume_both}
use Rattle.volume_step.specs.Steps.{Affords, KeepsJournal, StepsNow, StepsTo}
use Rattle.volume_step.specs.declared.outcome.Outcome.TheVariants as outcome
use Rattle.volume_step.proofs.Done.{holds_kept, same_place}
use Rattle.volume_step.proofs.Shortened.{trunc_place, trunc_steps}
use Rattle.volume_step.proofs.Putting.{grown_shrinks_none}
use Rattle.volume_step.proofs.Widening.{keeps_shrunk}
use Rattle.volume_step.proofs.Ready.{longer_none, update_fits}
use Rattle.volume_step.proofs.ReadyData.{data_still, data_update_fits}
use Rattle.volume_step.proofs.Loaded.{trunc_within, within_behind, within_reads}
use Rattle.volume_step.proofs.Unfilled.{filled_still}
use Rattle.volume_base.proofs.Framed.{looked_both, looked_of, serves_still}
use Rattle.volume_step.proofs.Performed.{performs_done, performs_err, performs_failed, performs_looked, performs_looked_ok, performs_then}
use Rattle.volume_step.proofs.resizing.resize.Goals as goal

pub returns-in-Some-clause-answered : goal.returns-in-Some-clause-answered
returns-in-Some-clause-answered g c tells =
    subst (λ (k : Content). StepsTo (outcome.Answered c.in-Some.reply c.in_ok-changes.changes) (capacity_of c.args.volume.now) c.args.number (command.Trunc c.args.path.now c.args.size) k (g.P.SectorView.space c.shorten.new.space).content) (c.change_at.ensures.looked.reads.looks.content tells)
    (trunc_steps (capacity_of c.args.volume.now) c.args.number c.args.path.now c.args.size (g.P.SectorView.space c.change_at.new.space).content (g.P.SectorView.space c.shorten.new.space).content
    (sound_here c.change_at.new.self (g.P.SectorView.space c.change_at.new.space) (c.change_at.ensures.looked.stands.stands (c.change_at.ensures.looked.reads.looks.same.tells ∙ tells)) (c.change_at.ensures.serves.settled (c.change_at.ensures.looked.reads.looks.same.tells ∙ tells)))
    (sound_here c.shorten.new.volume (g.P.SectorView.space c.shorten.new.space) (c.in_ok-reply.ensures.stands.stands ((c.shorten.ensures.touches (g.P.SectorView.space c.args.space.now).content).same.tells ∙ (c.change_at.ensures.looked.reads.looks.same.tells ∙ tells))) (c.in_ok-reply.ensures.settled (c.change_at.ensures.looked.reads.looks.same.tells ∙ tells)))
    (subst (λ (k : Content). Affords (capacity_of c.args.volume.now) (command.Trunc c.args.path.now c.args.size) k) (sym (c.change_at.ensures.looked.reads.looks.content tells)) (c.requires.affords tells))
    c.in-Some.reply (subst (λ (o : Option Reply). IfSome o (λ reply. reply ≡ (step_line (tree_of (g.P.SectorView.space c.change_at.new.space).content) (Ok (command.Trunc c.args.path.now c.args.size))).0)) c.in-Some.is (c.in_ok-reply.ensures.reply (c.change_at.ensures.looked.reads.looks.same.tells ∙ tells)))
    (subst (λ (o : Option Reply). IfSome o (λ reply. tree_of (g.P.SectorView.space c.shorten.new.space).content ≡ (step_line (tree_of (g.P.SectorView.space c.change_at.new.space).content) (Ok (command.Trunc c.args.path.now c.args.size))).1)) c.in-Some.is (c.in_ok-reply.ensures.tree (c.change_at.ensures.looked.reads.looks.same.tells ∙ tells)))
    (λ ok. c.in_ok-reply.ensures.lists (c.change_at.ensures.looked.reads.looks.same.tells ∙ tells) (c.in-Some.is ∙ ap Some ok)) c.in_ok-changes.changes
    (λ not_own entry is. c.in_ok-changes.ensures.told tells not_own entry (ap (λ (k : Content). reached (tree_of k) c.args.path.now) (sym (c.change_at.ensures.looked.reads.looks.content tells)) ∙ is)))

pub returns-in-Some-clause-place : goal.returns-in-Some-clause-place
returns-in-Some-clause-place g c tells =
    subst (λ (k : Content). KeepsJournal k (g.P.SectorView.space c.shorten.new.space).content) (c.change_at.ensures.looked.reads.looks.content tells)
    (trunc_place (capacity_of c.args.volume.now) c.args.number c.args.path.now c.args.size (g.P.SectorView.space c.change_at.new.space).content (g.P.SectorView.space c.shorten.new.space).content
    (sound_here c.change_at.new.self (g.P.SectorView.space c.change_at.new.space) (c.change_at.ensures.looked.stands.stands (c.change_at.ensures.looked.reads.looks.same.tells ∙ tells)) (c.change_at.ensures.serves.settled (c.change_at.ensures.looked.reads.looks.same.tells ∙ tells)))
    (sound_here c.shorten.new.volume (g.P.SectorView.space c.shorten.new.space) (c.in_ok-reply.ensures.stands.stands ((c.shorten.ensures.touches (g.P.SectorView.space c.args.space.now).content).same.tells ∙ (c.change_at.ensures.looked.reads.looks.same.tells ∙ tells))) (c.in_ok-reply.ensures.settled (c.change_at.ensures.looked.reads.looks.same.tells ∙ tells)))
    (subst (λ (k : Content). Affords (capacity_of c.args.volume.now) (command.Trunc c.args.path.now c.args.size) k) (sym (c.change_at.ensures.looked.reads.looks.content tells)) (c.requires.affords tells))
    c.in-Some.reply (subst (λ (o : Option Reply). IfSome o (λ reply. reply ≡ (step_line (tree_of (g.P.SectorView.space c.change_at.new.space).content) (Ok (command.Trunc c.args.path.now c.args.size))).0)) c.in-Some.is (c.in_ok-reply.ensures.reply (c.change_at.ensures.looked.reads.looks.same.tells ∙ tells)))
    (subst (λ (o : Option Reply). IfSome o (λ reply. tree_of (g.P.SectorView.space c.shorten.new.space).content ≡ (step_line (tree_of (g.P.SectorView.space c.change_at.new.space).content) (Ok (command.Trunc c.args.path.now c.args.size))).1)) c.in-Some.is (c.in_ok-reply.ensures.tree (c.change_at.ensures.looked.reads.looks.same.tells ∙ tells)))
    (λ ok. c.in_ok-reply.ensures.lists (c.change_at.ensures.looked.reads.looks.same.tells ∙ tells) (c.in-Some.is ∙ ap Some ok)))

pub returns-in-Some-clause-shrunk : goal.returns-in-Some-clause-shrunk
returns-in-Some-clause-shrunk g c tells =
    subst (λ (k : Content × Option ℕ × Option Reply). c.shorten.new.volume.shrunk ≡ shrunk_then (tree_of k.0) c.args.path.now c.args.size k.2 k.1) {x = ((g.P.SectorView.space c.change_at.new.space).content, c.change_at.new.self.shrunk, c.in_ok-reply.field-0)} {y = ((g.P.SectorView.space c.args.space.now).content, c.args.volume.now.shrunk, Some c.in-Some.reply)} (λ i. (c.change_at.ensures.looked.reads.looks.content tells i, c.change_at.ensures.looked.reads.keeps.shrunk i, c.in-Some.is i)) (c.in_ok-reply.ensures.shrunk (c.change_at.ensures.looked.reads.looks.same.tells ∙ tells))

pub lengthen-requires-clause-closed : goal.lengthen-requires-clause-closed
lengthen-requires-clause-closed g c told at shut =
    let reads = (volume_both c.args.volume.now c.change_at.new.self c.shorten.new.volume (g.P.SectorView.space c.args.space.now) (g.P.SectorView.space c.change_at.new.space) (g.P.SectorView.space c.shorten.new.space) c.change_at.ensures.looked.reads (subst (λ (o : Option Reply). IfNone o (ReadsVolume c.change_at.new.self c.shorten.new.volume (g.P.SectorView.space c.change_at.new.space) (g.P.SectorView.space c.shorten.new.space))) c.in-None.is c.in_ok-reply.ensures.idle)) in
    let tells = sym reads.looks.same.tells ∙ told in
    subst (λ (k : Content). IsJournalSector k at) (sym (reads.looks.content tells)) (c.requires.closed tells at ((reads.looks.closed tells at).0 shut))

pub lengthen-requires-clause-affords : goal.lengthen-requires-clause-affords
lengthen-requires-clause-affords g c told =
    let reads = (volume_both c.args.volume.now c.change_at.new.self c.shorten.new.volume (g.P.SectorView.space c.args.space.now) (g.P.SectorView.space c.change_at.new.space) (g.P.SectorView.space c.shorten.new.space) c.change_at.ensures.looked.reads (subst (λ (o : Option Reply). IfNone o (ReadsVolume c.change_at.new.self c.shorten.new.volume (g.P.SectorView.space c.change_at.new.space) (g.P.SectorView.space c.shorten.new.space))) c.in-None.is c.in_ok-reply.ensures.idle)) in
    let tells = sym reads.looks.same.tells ∙ told in
    subst (λ (k : ℕ × Content). Affords k.0 (command.Trunc c.args.path.now c.args.size) k.1) {x = (capacity_of c.args.volume.now, (g.P.SectorView.space c.args.space.now).content)} {y = (capacity_of c.shorten.new.volume, (g.P.SectorView.space c.shorten.new.space).content)} (λ i. (sym reads.keeps.capacity i, sym (reads.looks.content tells) i)) (c.requires.affords tells)

pub returns-in-None-clause-answered : goal.returns-in-None-clause-answered
returns-in-None-clause-answered g c tells =
    let reads = (volume_both c.args.volume.now c.change_at.new.self c.shorten.new.volume (g.P.SectorView.space c.args.space.now) (g.P.SectorView.space c.change_at.new.space) (g.P.SectorView.space c.shorten.new.space) c.change_at.ensures.looked.reads (subst (λ (o : Option Reply). IfNone o (ReadsVolume c.change_at.new.self c.shorten.new.volume (g.P.SectorView.space c.change_at.new.space) (g.P.SectorView.space c.shorten.new.space))) c.in-None.is c.in_ok-reply.ensures.idle)) in
    subst (λ (k : ℕ × Content). IfOk c.lengthen.result (λ outcome. StepsNow outcome k.0 c.args.number (command.Trunc c.args.path.now c.args.size) k.1 (g.P.SectorView.space c.lengthen.new.space).content)) {x = (capacity_of c.shorten.new.volume, (g.P.SectorView.space c.shorten.new.space).content)} {y = (capacity_of c.args.volume.now, (g.P.SectorView.space c.args.space.now).content)} (λ i. (reads.keeps.capacity i, reads.looks.content tells i)) (c.lengthen.ensures.answered (reads.looks.same.tells ∙ tells))

pub returns-in-None-clause-place : goal.returns-in-None-clause-place
returns-in-None-clause-place g c tells =
    let reads = (volume_both c.args.volume.now c.change_at.new.self c.shorten.new.volume (g.P.SectorView.space c.args.space.now) (g.P.SectorView.space c.change_at.new.space) (g.P.SectorView.space c.shorten.new.space) c.change_at.ensures.looked.reads (subst (λ (o : Option Reply). IfNone o (ReadsVolume c.change_at.new.self c.shorten.new.volume (g.P.SectorView.space c.change_at.new.space) (g.P.SectorView.space c.shorten.new.space))) c.in-None.is c.in_ok-reply.ensures.idle)) in
    subst (λ (k : Content). OnOk c.lengthen.result (KeepsJournal k (g.P.SectorView.space c.lengthen.new.space).content)) (reads.looks.content tells) (c.lengthen.ensures.place (reads.looks.same.tells ∙ tells))

pub returns-in-None-clause-shrunk : goal.returns-in-None-clause-shrunk
returns-in-None-clause-shrunk g c tells =
    let reads = (volume_both c.args.volume.now c.change_at.new.self c.shorten.new.volume (g.P.SectorView.space c.args.space.now) (g.P.SectorView.space c.change_at.new.space) (g.P.SectorView.space c.shorten.new.space) c.change_at.ensures.looked.reads (subst (λ (o : Option Reply). IfNone o (ReadsVolume c.change_at.new.self c.shorten.new.volume (g.P.SectorView.space c.change_at.new.space) (g.P.SectorView.space c.shorten.new.space))) c.in-None.is c.in_ok-reply.ensures.idle)) in
    let fresh = c.in_ok-reply.ensures.grows (c.change_at.ensures.looked.reads.looks.same.tells ∙ tells) in
    let puts = (subst (λ (o : Option Reply). IfNone o ((is_some (data_of (tree_of (g.P.SectorView.space c.change_at.new.space).content) (command.Trunc c.args.path.now c.args.size)) ≡ true) × ((g.P.SectorView.space c.shorten.new.space).content ≡ (g.P.SectorView.space c.change_at.new.space).content))) c.in-None.is fresh).0 in
    keeps_shrunk (command.Trunc c.args.path.now c.args.size) (g.P.SectorView.space c.args.space.now).content (shrunk_of c.args.volume.now) (shrunk_of c.lengthen.new.volume)
    (grown_shrinks_none (tree_of (g.P.SectorView.space c.args.space.now).content) c.args.path.now c.args.size (ap (λ (k : Content). is_some (data_of (tree_of k) (command.Trunc c.args.path.now c.args.size))) (sym (c.change_at.ensures.looked.reads.looks.content tells)) ∙ puts)) (c.lengthen.ensures.shrunk ∙ reads.keeps.shrunk) c.lengthen.result

pub returns-then-not-fits_update-clause-ready : goal.returns-then-not-fits_update-clause-ready
returns-then-not-fits_update-clause-ready g c tells no_data met =
    absurd (true≢false (sym (c.fits_update.ensures.met (update_fits (command.Trunc c.args.path.now c.args.size) c.args.volume.now c.change_at.new.self (g.P.SectorView.space c.args.space.now) (g.P.SectorView.space c.change_at.new.space) c.change_at.ensures.looked.reads tells (c.change_at.ensures.serves.settled (c.change_at.ensures.looked.reads.looks.same.tells ∙ tells)) refl met)) ∙ c.if-not-fits_update.true))

pub returns-in-None-clause-ready : goal.returns-in-None-clause-ready
returns-in-None-clause-ready g c tells no_data met =
    absurd (longer_none (g.P.SectorView.space c.args.space.now).content (g.P.SectorView.space c.change_at.new.space).content c.args.path.now c.args.size (c.change_at.ensures.looked.reads.looks.content tells) no_data
    (subst (λ (o : Option Reply). IfNone o ((is_some (data_of (tree_of (g.P.SectorView.space c.change_at.new.space).content) (command.Trunc c.args.path.now c.args.size)) ≡ true) × ((g.P.SectorView.space c.shorten.new.space).content ≡ (g.P.SectorView.space c.change_at.new.space).content))) c.in-None.is (c.in_ok-reply.ensures.grows (c.change_at.ensures.looked.reads.looks.same.tells ∙ tells))).0)

pub returns-then-not-fits_update-clause-puts : goal.returns-then-not-fits_update-clause-puts
returns-then-not-fits_update-clause-puts g c tells met =
    absurd (true≢false (sym (c.fits_update.ensures.met (data_update_fits (command.Trunc c.args.path.now c.args.size) c.args.volume.now c.change_at.new.self (g.P.SectorView.space c.args.space.now) (g.P.SectorView.space c.change_at.new.space) c.change_at.ensures.looked.reads tells (c.change_at.ensures.serves.settled (c.change_at.ensures.looked.reads.looks.same.tells ∙ tells)) met)) ∙ c.if-not-fits_update.true))

pub returns-in-None-clause-puts : goal.returns-in-None-clause-puts
returns-in-None-clause-puts g c tells met =
    let reads = (volume_both c.args.volume.now c.change_at.new.self c.shorten.new.volume (g.P.SectorView.space c.args.space.now) (g.P.SectorView.space c.change_at.new.space) (g.P.SectorView.space c.shorten.new.space) c.change_at.ensures.looked.reads (subst (λ (o : Option Reply). IfNone o (ReadsVolume c.change_at.new.self c.shorten.new.volume (g.P.SectorView.space c.change_at.new.space) (g.P.SectorView.space c.shorten.new.space))) c.in-None.is c.in_ok-reply.ensures.idle)) in
    c.lengthen.ensures.puts (reads.looks.same.tells ∙ tells) (data_still (command.Trunc c.args.path.now c.args.size) c.args.volume.now c.shorten.new.volume (g.P.SectorView.space c.args.space.now) (g.P.SectorView.space c.shorten.new.space) reads tells met)

pub returns-in-Some-clause-loads : goal.returns-in-Some-clause-loads
returns-in-Some-clause-loads g c tells = within_behind (command.Trunc c.args.path.now c.args.size) c.args.volume.now c.change_at.new.self (g.P.SectorView.space c.args.space.now) (g.P.SectorView.space c.change_at.new.space) (g.P.SectorView.space c.shorten.new.space) c.change_at.ensures.looked.reads tells (trunc_within c.change_at.new.self (g.P.SectorView.space c.change_at.new.space) (g.P.SectorView.space c.shorten.new.space) c.args.path.now c.args.size (c.change_at.ensures.serves.settled (c.change_at.ensures.looked.reads.looks.same.tells ∙ tells)) (c.shorten.ensures.spent (c.change_at.ensures.looked.reads.looks.same.tells ∙ tells)))

pub returns-in_err-reply-clause-loads : goal.returns-in_err-reply-clause-loads
returns-in_err-reply-clause-loads g c tells = within_behind (command.Trunc c.args.path.now c.args.size) c.args.volume.now c.change_at.new.self (g.P.SectorView.space c.args.space.now) (g.P.SectorView.space c.change_at.new.space) (g.P.SectorView.space c.shorten.new.space) c.change_at.ensures.looked.reads tells (trunc_within c.change_at.new.self (g.P.SectorView.space c.change_at.new.space) (g.P.SectorView.space c.shorten.new.space) c.args.path.now c.args.size (c.change_at.ensures.serves.settled (c.change_at.ensures.looked.reads.looks.same.tells ∙ tells)) (c.shorten.ensures.spent (c.change_at.ensures.looked.reads.looks.same.tells ∙ tells)))

pub returns-in_err-changes-clause-loads : goal.returns-in_err-changes-clause-loads
returns-in_err-changes-clause-loads g c tells = within_reads (command.Trunc c.args.path.now c.args.size) c.args.volume.now c.change_at.new.self (g.P.SectorView.space c.args.space.now) (g.P.SectorView.space c.change_at.new.space) c.change_at.ensures.looked.reads

pub returns-then-not-fits_update-clause-loads : goal.returns-then-not-fits_update-clause-loads
returns-then-not-fits_update-clause-loads g c tells = within_reads (command.Trunc c.args.path.now c.args.size) c.args.volume.now c.change_at.new.self (g.P.SectorView.space c.args.space.now) (g.P.SectorView.space c.change_at.new.space) c.change_at.ensures.looked.reads

pub returns-in-None-clause-loads : goal.returns-in-None-clause-loads
returns-in-None-clause-loads g c tells =
    let reads = volume_both c.args.volume.now c.change_at.new.self c.shorten.new.volume (g.P.SectorView.space c.args.space.now) (g.P.SectorView.space c.change_at.new.space) (g.P.SectorView.space c.shorten.new.space) c.change_at.ensures.looked.reads (subst (λ (o : Option Reply). IfNone o (ReadsVolume c.change_at.new.self c.shorten.new.volume (g.P.SectorView.space c.change_at.new.space) (g.P.SectorView.space c.shorten.new.space))) c.in-None.is c.in_ok-reply.ensures.idle) in
    within_behind (command.Trunc c.args.path.now c.args.size) c.args.volume.now c.shorten.new.volume (g.P.SectorView.space c.args.space.now) (g.P.SectorView.space c.shorten.new.space) (g.P.SectorView.space c.lengthen.new.space) reads tells (c.lengthen.ensures.loads (reads.looks.same.tells ∙ tells))

pub returns-then-not-fits_update-clause-place : goal.returns-then-not-fits_update-clause-place
returns-then-not-fits_update-clause-place g c tells = same_place (g.P.SectorView.space c.args.space.now).content (g.P.SectorView.space c.change_at.new.space).content (c.change_at.ensures.looked.reads.looks.content tells)

pub lengthen-requires-clause-filled : goal.lengthen-requires-clause-filled
lengthen-requires-clause-filled g c =
    let reads = (volume_both c.args.volume.now c.change_at.new.self c.shorten.new.volume (g.P.SectorView.space c.args.space.now) (g.P.SectorView.space c.change_at.new.space) (g.P.SectorView.space c.shorten.new.space) c.change_at.ensures.looked.reads (subst (λ (o : Option Reply). IfNone o (ReadsVolume c.change_at.new.self c.shorten.new.volume (g.P.SectorView.space c.change_at.new.space) (g.P.SectorView.space c.shorten.new.space))) c.in-None.is c.in_ok-reply.ensures.idle)) in
    filled_still c.args.volume.now c.shorten.new.volume (g.P.SectorView.space c.args.space.now) (g.P.SectorView.space c.shorten.new.space) reads c.requires.filled

pub returns-in-Some-clause-frame : goal.returns-in-Some-clause-frame
returns-in-Some-clause-frame g c = performs_then g.met.P.SectorView.follows_trans c.change_at.ensures.looked (performs_done c.shorten.ensures.below c.in_ok-reply.ensures.cause.later c.in_ok-reply.ensures.stands c.in_ok-reply.ensures.settled (λ committed held. holds_kept committed c.change_at.new.self c.shorten.new.volume c.shorten.ensures.map held) c.shorten.ensures.capacity (λ committed held laid. c.shorten.ensures.touches committed) (c.shorten.ensures.touches []).same)

pub returns-in-None-clause-frame : goal.returns-in-None-clause-frame
returns-in-None-clause-frame g c = performs_then g.met.P.SectorView.follows_trans (looked_both g.met.P.SectorView.follows_trans c.change_at.ensures.looked (looked_of c.shorten.ensures.below c.shorten.ensures.cause c.in_ok-reply.ensures.stands (subst (λ (o : Option Reply). IfNone o (ReadsVolume c.change_at.new.self c.shorten.new.volume (g.P.SectorView.space c.change_at.new.space) (g.P.SectorView.space c.shorten.new.space))) c.in-None.is c.in_ok-reply.ensures.idle))) c.lengthen.ensures.frame

pub returns-in_err-reply-clause-frame : goal.returns-in_err-reply-clause-frame
returns-in_err-reply-clause-frame g c = performs_err c.from_residual-in_err-reply.ensures.1 (performs_then g.met.P.SectorView.follows_trans c.change_at.ensures.looked (performs_failed c.shorten.ensures.below c.in_err-reply.ensures.cause c.shorten.ensures.service c.shorten.ensures.capacity (λ committed held laid. c.shorten.ensures.touches committed) (c.shorten.ensures.touches []).same))

pub returns-in_err-changes-clause-frame : goal.returns-in_err-changes-clause-frame
returns-in_err-changes-clause-frame g c = performs_err c.from_residual.ensures.1 (performs_looked c.in_err-changes.ensures.looked c.change_at.ensures.serves)

pub returns-then-not-fits_update-clause-frame : goal.returns-then-not-fits_update-clause-frame
returns-then-not-fits_update-clause-frame g c = performs_looked_ok c.change_at.ensures.looked c.change_at.ensures.serves

pub lengthen-requires-clause-serves : goal.lengthen-requires-clause-serves
lengthen-requires-clause-serves g c = serves_still (looked_both g.met.P.SectorView.follows_trans c.change_at.ensures.looked (looked_of c.shorten.ensures.below c.shorten.ensures.cause c.in_ok-reply.ensures.stands (subst (λ (o : Option Reply). IfNone o (ReadsVolume c.change_at.new.self c.shorten.new.volume (g.P.SectorView.space c.change_at.new.space) (g.P.SectorView.space c.shorten.new.space))) c.in-None.is c.in_ok-reply.ensures.idle))) c.requires.serves
