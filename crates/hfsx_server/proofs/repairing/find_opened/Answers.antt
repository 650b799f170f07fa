use Rattle.std.proofs.Common.{ℕ, sym, ◌∙◌, subst}
use Rattle.std.specs.Prelude.{IfErr, IfOk, Result}
use Rattle.sector_disk.specs.Disk.{content}
use Rattle.jnl_format.specs.Recovery.{Content, replayed}
use Rattle.jnl_replay.specs.Plan.{journal_of}
use Rattle.jnl_store.specs.Plan.{form_of, span_of}
use Rattle.hfs_volume.specs.Findings.{HasBytes}
use Rattle.hfs_serving.proofs.Attachable.{capacity_one}
use Rattle.hfs_serving.proofs.ContentBytes.{content_bytes, replayed_bytes}
use Rattle.hfs_serving.proofs.Peeks.{shown_as}
use Rattle.fsck_repair.specs.Renewing.{FitInto}
use Rattle.hfsx_server.specs.Repairing.{CanBePut, IsFoundFor, IsJudged, RefusesRepair}
use Rattle.hfsx_server.specs.declared.repairing.Mendable.{Mendable}
use Rattle.hfsx_server.specs.declared.repairing.RepairRefusal.{RepairRefusal}
use Rattle.hfsx_server.proofs.Judging.{found_is, found_put, refused_is}
use Rattle.hfsx_server.proofs.repairing.find_opened.Goals as goal

pub judge_peek-requires-clause-bytes : goal.judge_peek-requires-clause-bytes
judge_peek-requires-clause-bytes g c told =
    let tells = sym c.new.ensures.reads.same.tells ∙ told in
    let s0 = g.D.SectorDisk.state c.args.disk.now in
    let s1 = g.D.SectorDisk.state c.new.new.disk in
    let reads = c.new.ensures.reads in
    let plan = c.args.plan in
    let image = content s0 in
    let start = replayed (journal_of plan) image in
    let shows = shown_as c.in_ok-peek.peek s0 s1 start reads c.in_ok-peek.ensures.sectors (c.in_ok-peek.ensures.shows tells) in
    subst HasBytes (sym shows) (replayed_bytes (journal_of plan) image (content_bytes s0 (g.met.D.SectorDisk.well_formed c.args.disk.now)))

pub returns-clause-found : goal.returns-clause-found
returns-clause-found g c tells =
    let s0 = g.D.SectorDisk.state c.args.disk.now in
    let s1 = g.D.SectorDisk.state c.new.new.disk in
    let reads = c.new.ensures.reads in
    let plan = c.args.plan in
    let image = content s0 in
    let start = replayed (journal_of plan) image in
    let shows = shown_as c.in_ok-peek.peek s0 s1 start reads c.in_ok-peek.ensures.sectors (c.in_ok-peek.ensures.shows tells) in
    let opened = c.requires.opened tells in
    let judged = subst (λ (x : Content). IsJudged x c.in_ok-judged.judged) shows (c.in_ok-judged.ensures.judged (reads.same.tells ∙ tells)) in
    let most = c.capacity-most.result in
    let same = capacity_one (span_of plan) (form_of plan) most opened.capacity c.capacity-most.ensures opened.holds in
    subst (λ (r : Result Mendable RepairRefusal). IfOk r (IsFoundFor image)) (sym c.found_by.ensures) (found_is image plan most opened same c.in_ok-judged.judged judged)

pub returns-clause-refused : goal.returns-clause-refused
returns-clause-refused g c tells =
    let s0 = g.D.SectorDisk.state c.args.disk.now in
    let s1 = g.D.SectorDisk.state c.new.new.disk in
    let reads = c.new.ensures.reads in
    let plan = c.args.plan in
    let image = content s0 in
    let start = replayed (journal_of plan) image in
    let shows = shown_as c.in_ok-peek.peek s0 s1 start reads c.in_ok-peek.ensures.sectors (c.in_ok-peek.ensures.shows tells) in
    let opened = c.requires.opened tells in
    let judged = subst (λ (x : Content). IsJudged x c.in_ok-judged.judged) shows (c.in_ok-judged.ensures.judged (reads.same.tells ∙ tells)) in
    let most = c.capacity-most.result in
    let same = capacity_one (span_of plan) (form_of plan) most opened.capacity c.capacity-most.ensures opened.holds in
    subst (λ (r : Result Mendable RepairRefusal). IfErr r (RefusesRepair image)) (sym c.found_by.ensures) (refused_is image plan most opened same c.in_ok-judged.judged judged)

pub returns-clause-changes : goal.returns-clause-changes
returns-clause-changes g c =
    let n0 = (g.D.SectorDisk.state c.args.disk.now).sectors in
    let fit = subst (λ (n : ℕ). CanBePut n c.in_ok-judged.judged) c.new.ensures.reads.same.sectors c.in_ok-judged.ensures.changes in
    subst (λ (r : Result Mendable RepairRefusal). IfOk r (λ found. FitInto n0 found.mend.changes.items)) (sym c.found_by.ensures) (found_put c.args.plan c.capacity-most.result n0 c.in_ok-judged.judged fit)
