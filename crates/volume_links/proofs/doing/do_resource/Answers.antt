use Rattle.std.proofs.Common.{◌≡◌, [], ◌∷◌, false, sym, ◌∙◌, ap, subst}
use Rattle.std.proofs.lemmas.Bool.{true≢false}
use Rattle.sector_disk.specs.Lists.{Content}
use Rattle.hfs_model.specs.Step.{reached}
use Rattle.hfs_model.specs.declared.kinds.KindEdit.TheVariants as edit
use Rattle.hfs_volume.specs.Aside.{IsJournalSector}
use Rattle.hfs_volume.specs.TreeOf.{tree_of}
use Rattle.volume_base.specs.Room.{capacity_of}
use Rattle.volume_space.proofs.Sounding.{sound_here}
use Rattle.volume_step.specs.Steps.{KeepsJournal}
use Rattle.volume_step.specs.declared.outcome.Outcome.TheVariants as outcome
use Rattle.hfs_language.specs.declared.reply.Reply.TheVariants as reply
use Rattle.volume_step.proofs.Done.{same_place}
use Rattle.volume_step.proofs.Unfilled.{filled_still}
use Rattle.volume_step.proofs.Performed.{performs_done, performs_err, performs_failed, performs_looked, performs_then}
use Rattle.volume_links.specs.Resources.{IsResourceOf}
use Rattle.volume_links.specs.Steps.{KindAffords, KindStepsNow}
use Rattle.volume_links.proofs.Stepped.{content_told, resource_place, resource_steps}
use Rattle.hfs_volume.specs.Content.{volume_of}
use Rattle.hfs_volume.specs.Forks.{resource_kind}
use Rattle.hfs_volume.specs.KindWeight.{kind_data_of}
use Rattle.hfs_volume.specs.Weight.{needs_cut_in}
use Rattle.volume_step.proofs.Ready.{answered_now}
use Rattle.volume_links.proofs.Waiting.{fits_still}
use Rattle.volume_links.proofs.doing.do_resource.Goals as goal

pub write_resource-requires-clause-closed : goal.write_resource-requires-clause-closed
write_resource-requires-clause-closed g c told at shut =
    let tells = sym c.change_at.ensures.looked.reads.looks.same.tells ∙ told in
    subst (λ (k : Content). IsJournalSector k at) (sym (c.change_at.ensures.looked.reads.looks.content tells)) (c.requires.closed tells at ((c.change_at.ensures.looked.reads.looks.closed tells at).0 shut))

pub write_resource-requires-clause-there : goal.write_resource-requires-clause-there
write_resource-requires-clause-there g c told =
    let tells = sym c.change_at.ensures.looked.reads.looks.same.tells ∙ told in
    subst (λ (k : Content). IsResourceOf (tree_of k) c.args.path.now c.args.from c.args.value.now c.args.fork) (sym (c.change_at.ensures.looked.reads.looks.content tells)) (c.requires.there tells)

pub write_resource-requires-clause-filled : goal.write_resource-requires-clause-filled
write_resource-requires-clause-filled g c = filled_still c.args.volume.now c.change_at.new.self (g.P.SectorView.space c.args.space.now) (g.P.SectorView.space c.change_at.new.space) c.change_at.ensures.looked.reads c.requires.filled

pub write_resource-requires-clause-settled : goal.write_resource-requires-clause-settled
write_resource-requires-clause-settled g c tells = c.change_at.ensures.serves.settled tells

pub returns-then-put-clause-answered : goal.returns-then-put-clause-answered
returns-then-put-clause-answered g c tells =
    let told = c.change_at.ensures.looked.reads.looks.same.tells ∙ tells in
    let content = (g.P.SectorView.space c.change_at.new.space).content in
    let there = subst (λ (k : Content). IsResourceOf (tree_of k) c.args.path.now c.args.from c.args.value.now c.args.fork) (sym (c.change_at.ensures.looked.reads.looks.content tells)) (c.requires.there tells) in
    subst (λ (k : Content). KindStepsNow (outcome.Answered reply.Ok c.in_ok-changes.changes) (capacity_of c.args.volume.now) c.args.number (edit.ResourceWrite c.args.path.now c.args.from c.args.value.now) k (g.P.SectorView.space c.write_resource.new.space).content) (c.change_at.ensures.looked.reads.looks.content tells)
    (resource_steps (capacity_of c.args.volume.now) c.args.number c.args.path.now c.args.from c.args.value.now content (g.P.SectorView.space c.write_resource.new.space).content
    (sound_here c.change_at.new.self (g.P.SectorView.space c.change_at.new.space) (c.change_at.ensures.looked.stands.stands told) (c.change_at.ensures.serves.settled told))
    (sound_here c.write_resource.new.volume (g.P.SectorView.space c.write_resource.new.space) (c.in_ok-put.ensures.stands.stands (c.write_resource.ensures.space.tells ∙ told)) (c.in_ok-put.ensures.settled told))
    c.args.fork there c.requires.some
    (subst (λ (k : Content). KindAffords (capacity_of c.args.volume.now) (edit.ResourceWrite c.args.path.now c.args.from c.args.value.now) k) (sym (c.change_at.ensures.looked.reads.looks.content tells)) (c.requires.affords tells))
    (c.in_ok-put.ensures.tree told c.if-put.true) (c.in_ok-put.ensures.lists told c.if-put.true) c.in_ok-changes.changes
    (content_told c.args.number (tree_of content) c.args.path.now c.args.from c.args.value.now c.requires.some c.args.fork there c.in_ok-changes.changes
    (λ not_own entry is. c.in_ok-changes.ensures.told tells not_own entry (ap (λ (k : Content). reached (tree_of k) c.args.path.now) (sym (c.change_at.ensures.looked.reads.looks.content tells)) ∙ is))))

pub returns-then-put-clause-place : goal.returns-then-put-clause-place
returns-then-put-clause-place g c tells =
    let told = c.change_at.ensures.looked.reads.looks.same.tells ∙ tells in
    let content = (g.P.SectorView.space c.change_at.new.space).content in
    let there = subst (λ (k : Content). IsResourceOf (tree_of k) c.args.path.now c.args.from c.args.value.now c.args.fork) (sym (c.change_at.ensures.looked.reads.looks.content tells)) (c.requires.there tells) in
    subst (λ (k : Content). KeepsJournal k (g.P.SectorView.space c.write_resource.new.space).content) (c.change_at.ensures.looked.reads.looks.content tells)
    (resource_place (capacity_of c.args.volume.now) c.args.number c.args.path.now c.args.from c.args.value.now content (g.P.SectorView.space c.write_resource.new.space).content
    (sound_here c.change_at.new.self (g.P.SectorView.space c.change_at.new.space) (c.change_at.ensures.looked.stands.stands told) (c.change_at.ensures.serves.settled told))
    (sound_here c.write_resource.new.volume (g.P.SectorView.space c.write_resource.new.space) (c.in_ok-put.ensures.stands.stands (c.write_resource.ensures.space.tells ∙ told)) (c.in_ok-put.ensures.settled told))
    c.args.fork there c.requires.some
    (subst (λ (k : Content). KindAffords (capacity_of c.args.volume.now) (edit.ResourceWrite c.args.path.now c.args.from c.args.value.now) k) (sym (c.change_at.ensures.looked.reads.looks.content tells)) (c.requires.affords tells))
    (c.in_ok-put.ensures.tree told c.if-put.true) (c.in_ok-put.ensures.lists told c.if-put.true))

pub returns-clause-answered : goal.returns-clause-answered
returns-clause-answered g c tells = c.in_ok-put.ensures.waits (c.change_at.ensures.looked.reads.looks.same.tells ∙ tells) c.if-put.false ∙ c.change_at.ensures.looked.reads.looks.content tells

pub returns-clause-place : goal.returns-clause-place
returns-clause-place g c tells = same_place (g.P.SectorView.space c.args.space.now).content (g.P.SectorView.space c.write_resource.new.space).content (c.in_ok-put.ensures.waits (c.change_at.ensures.looked.reads.looks.same.tells ∙ tells) c.if-put.false ∙ c.change_at.ensures.looked.reads.looks.content tells)

pub returns-then-put-clause-shrunk : goal.returns-then-put-clause-shrunk
returns-then-put-clause-shrunk g c = c.write_resource.ensures.same.1 ∙ c.change_at.ensures.looked.reads.keeps.shrunk

pub returns-clause-shrunk : goal.returns-clause-shrunk
returns-clause-shrunk g c = c.write_resource.ensures.same.1 ∙ c.change_at.ensures.looked.reads.keeps.shrunk

pub returns-in_err-put-clause-shrunk : goal.returns-in_err-put-clause-shrunk
returns-in_err-put-clause-shrunk g c = c.write_resource.ensures.same.1 ∙ c.change_at.ensures.looked.reads.keeps.shrunk

pub returns-in_err-changes-clause-shrunk : goal.returns-in_err-changes-clause-shrunk
returns-in_err-changes-clause-shrunk g c = c.change_at.ensures.looked.reads.keeps.shrunk

pub returns-then-put-clause-frame : goal.returns-then-put-clause-frame
returns-then-put-clause-frame g c = performs_then g.met.P.SectorView.follows_trans c.change_at.ensures.looked (performs_done c.write_resource.ensures.below c.in_ok-put.ensures.cause.later c.in_ok-put.ensures.stands c.in_ok-put.ensures.settled c.in_ok-put.ensures.holds c.write_resource.ensures.same.2 c.write_resource.ensures.touches c.write_resource.ensures.space)

pub returns-clause-frame : goal.returns-clause-frame
returns-clause-frame g c = performs_then g.met.P.SectorView.follows_trans c.change_at.ensures.looked (performs_done c.write_resource.ensures.below c.in_ok-put.ensures.cause.later c.in_ok-put.ensures.stands c.in_ok-put.ensures.settled c.in_ok-put.ensures.holds c.write_resource.ensures.same.2 c.write_resource.ensures.touches c.write_resource.ensures.space)

pub returns-in_err-put-clause-frame : goal.returns-in_err-put-clause-frame
returns-in_err-put-clause-frame g c = performs_err c.from_residual-in_err-put.ensures.1 (performs_then g.met.P.SectorView.follows_trans c.change_at.ensures.looked (performs_failed c.write_resource.ensures.below c.in_err-put.ensures.cause c.write_resource.ensures.service c.write_resource.ensures.same.2 c.write_resource.ensures.touches c.write_resource.ensures.space))

pub returns-in_err-changes-clause-frame : goal.returns-in_err-changes-clause-frame
returns-in_err-changes-clause-frame g c = performs_err c.from_residual.ensures.1 (performs_looked c.in_err-changes.ensures.looked c.change_at.ensures.serves)

-- ---- no commit comes first

pub returns-then-put-clause-done : goal.returns-then-put-clause-done
returns-then-put-clause-done g c tells same = answered_now reply.Ok c.in_ok-changes.changes same

pub returns-clause-done : goal.returns-clause-done
returns-clause-done g c tells =
    let reads = c.change_at.ensures.looked.reads in
    absurd (true≢false (sym (c.in_ok-put.ensures.met (reads.looks.same.tells ∙ tells)
    (subst (λ (k : Content). needs_cut_in resource_kind (volume_of k) (kind_data_of (tree_of k) (edit.ResourceWrite c.args.path.now c.args.from c.args.value.now)) ≡ false) (sym (reads.looks.content tells)) (c.requires.uncut tells))
    (fits_still c.args.volume.now c.change_at.new.self (g.P.SectorView.space c.args.space.now) (g.P.SectorView.space c.change_at.new.space) reads tells (edit.ResourceWrite c.args.path.now c.args.from c.args.value.now) (0 ∷ 0 ∷ 0 ∷ []) (c.requires.now tells)))
    ∙ c.if-put.false))
