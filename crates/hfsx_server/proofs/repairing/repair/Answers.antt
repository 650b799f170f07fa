use Rattle.std.proofs.Common.{◌++◌, ℕ, List, sym, ◌∙◌, ap, subst}
use Rattle.std.specs.Prelude.{IfErr, IfOk}
use Rattle.sector_disk.specs.Disk.{content}
use Rattle.jnl_format.specs.Recovery.{Content}
use Rattle.hfs_serving.proofs.Served.{reads_content, reads_settled}
use Rattle.hfsx_server.specs.Repairing.{HasRoom, IsFoundFor, IsMendableImage, RefusesRepair, repair_text, repaired_text}
use Rattle.hfsx_server.proofs.Refused.{can_be, not_repaired}
use Rattle.hfsx_server.proofs.Repaired.{keeps_unread, no_done, no_refused, told_from_before}
use Rattle.hfsx_server.proofs.Telling.{told_from}
use Rattle.hfsx_server.proofs.repairing.repair.Goals as goal

pub repair_found-requires-clause-found : goal.repair_found-requires-clause-found
repair_found-requires-clause-found g c tells1 =
    let s0 = g.R.SectorDisk.state c.args.rig.now in
    let s1 = g.R.SectorDisk.state c.find_repair.new.disk in
    let reads = c.find_repair.ensures.reads in
    let c0 = content s0 in
    let same = reads_content s0 s1 reads in
    let tells = sym reads.same.tells ∙ tells1 in
    let is = subst (λ answer. IfOk answer (IsFoundFor c0)) c.in-Ok-Ok.field-0-is (c.in-Ok-Ok.ensures.found tells) in
    subst (λ (x : Content). IsFoundFor x c.in-Ok-Ok.found) (sym same) is

pub returns-in-Ok-Ok-clause-refuses : goal.returns-in-Ok-Ok-clause-refuses
returns-in-Ok-Ok-clause-refuses g c tells none =
    let s0 = g.R.SectorDisk.state c.args.rig.now in
    let s1 = g.R.SectorDisk.state c.find_repair.new.disk in
    let reads = c.find_repair.ensures.reads in
    let c0 = content s0 in
    let same = reads_content s0 s1 reads in
    let is = subst (λ answer. IfOk answer (IsFoundFor c0)) c.in-Ok-Ok.field-0-is (c.in-Ok-Ok.ensures.found tells) in
    absurd (none (can_be c0 c.in-Ok-Ok.found is (subst (λ answer. IfOk answer HasRoom) c.in-Ok-Ok.field-0-is c.in-Ok-Ok.ensures.holds)))

pub returns-in-Ok-Ok-clause-untouched : goal.returns-in-Ok-Ok-clause-untouched
returns-in-Ok-Ok-clause-untouched g c tells none =
    let s0 = g.R.SectorDisk.state c.args.rig.now in
    let s1 = g.R.SectorDisk.state c.find_repair.new.disk in
    let reads = c.find_repair.ensures.reads in
    let c0 = content s0 in
    let same = reads_content s0 s1 reads in
    let is = subst (λ answer. IfOk answer (IsFoundFor c0)) c.in-Ok-Ok.field-0-is (c.in-Ok-Ok.ensures.found tells) in
    absurd (none (can_be c0 c.in-Ok-Ok.found is (subst (λ answer. IfOk answer HasRoom) c.in-Ok-Ok.field-0-is c.in-Ok-Ok.ensures.holds)))

pub returns-in-Ok-Ok-clause-keeps : goal.returns-in-Ok-Ok-clause-keeps
returns-in-Ok-Ok-clause-keeps g c tells settled capacity start mendable =
    let s0 = g.R.SectorDisk.state c.args.rig.now in
    let s1 = g.R.SectorDisk.state c.find_repair.new.disk in
    let reads = c.find_repair.ensures.reads in
    let c0 = content s0 in
    let same = reads_content s0 s1 reads in
    let tells1 = reads.same.tells ∙ tells in
    let settled1 = reads_settled s0 s1 reads settled in
    let mendable1 = subst (λ (x : Content). IsMendableImage x capacity start) (sym same) mendable in
    c.repair_found.ensures.keeps tells1 settled1 c.args.rig.now reads capacity start mendable1

pub returns-in-Ok-Ok-clause-done : goal.returns-in-Ok-Ok-clause-done
returns-in-Ok-Ok-clause-done g c tells settled capacity start mendable ended =
    let s0 = g.R.SectorDisk.state c.args.rig.now in
    let s1 = g.R.SectorDisk.state c.find_repair.new.disk in
    let reads = c.find_repair.ensures.reads in
    let c0 = content s0 in
    let same = reads_content s0 s1 reads in
    let tells1 = reads.same.tells ∙ tells in
    let settled1 = reads_settled s0 s1 reads settled in
    let mendable1 = subst (λ (x : Content). IsMendableImage x capacity start) (sym same) mendable in
    told_from_before capacity start s0 s1 (g.R.SectorDisk.state c.repair_found.new.rig) reads (c.repair_found.ensures.done tells1 settled1 capacity start mendable1 ended)

pub returns-in-Ok-Ok-clause-sound : goal.returns-in-Ok-Ok-clause-sound
returns-in-Ok-Ok-clause-sound g c tells settled capacity start mendable sound ended =
    let s0 = g.R.SectorDisk.state c.args.rig.now in
    let s1 = g.R.SectorDisk.state c.find_repair.new.disk in
    let reads = c.find_repair.ensures.reads in
    let c0 = content s0 in
    let same = reads_content s0 s1 reads in
    let tells1 = reads.same.tells ∙ tells in
    let settled1 = reads_settled s0 s1 reads settled in
    let mendable1 = subst (λ (x : Content). IsMendableImage x capacity start) (sym same) mendable in
    c.repair_found.ensures.sound tells1 settled1 capacity start mendable1 sound ended ∙ ap (λ (l : List ℕ). l ++ repaired_text 0) reads.sink.told

pub returns-in-Ok-Err-clause-refused : goal.returns-in-Ok-Err-clause-refused
returns-in-Ok-Err-clause-refused g c tells _ =
    let s0 = g.R.SectorDisk.state c.args.rig.now in
    let s1 = g.R.SectorDisk.state c.find_repair.new.disk in
    let reads = c.find_repair.ensures.reads in
    let c0 = content s0 in
    let same = reads_content s0 s1 reads in
    let refused = subst (λ answer. IfErr answer (RefusesRepair c0)) c.in-Ok-Err.field-0-is (c.in-Ok-Err.ensures.refused tells) in
    let s2 = g.R.SectorDisk.state c.tell_repair_refusal.new.rig in
    let why = c.in-Ok-Err.why in
    ((why, refused, told_from s0 s1 s2 (repair_text why) reads.sink.told reads.sink.faults (c.tell_repair_refusal.ensures.told (reads.same.tells ∙ tells))), not_repaired c0 why refused)

pub returns-in-Ok-Err-clause-keeps : goal.returns-in-Ok-Err-clause-keeps
returns-in-Ok-Err-clause-keeps g c tells settled capacity start mendable =
    let s0 = g.R.SectorDisk.state c.args.rig.now in
    let s1 = g.R.SectorDisk.state c.find_repair.new.disk in
    let reads = c.find_repair.ensures.reads in
    let c0 = content s0 in
    let same = reads_content s0 s1 reads in
    let refused = subst (λ answer. IfErr answer (RefusesRepair c0)) c.in-Ok-Err.field-0-is (c.in-Ok-Err.ensures.refused tells) in
    absurd (not_repaired c0 c.in-Ok-Err.why refused (capacity, start, mendable))

pub returns-in-Err-clause-refused : goal.returns-in-Err-clause-refused
returns-in-Err-clause-refused g c tells ended = absurd (no_refused c.in-Err.trouble (sym c.trouble_status.ensures ∙ ended))

pub returns-in-Err-clause-keeps : goal.returns-in-Err-clause-keeps
returns-in-Err-clause-keeps g c tells settled capacity start mendable =
    let s0 = g.R.SectorDisk.state c.args.rig.now in
    let s1 = g.R.SectorDisk.state c.find_repair.new.disk in
    let reads = c.find_repair.ensures.reads in
    let c0 = content s0 in
    let same = reads_content s0 s1 reads in
    keeps_unread capacity start s0 s1 settled (g.met.R.SectorDisk.only_now c.args.rig.now) reads mendable

pub returns-in-Err-clause-done : goal.returns-in-Err-clause-done
returns-in-Err-clause-done g c tells settled capacity start mendable ended = absurd (no_done c.in-Err.trouble (sym c.trouble_status.ensures ∙ ended))

pub returns-in-Err-clause-sound : goal.returns-in-Err-clause-sound
returns-in-Err-clause-sound g c tells settled capacity start mendable sound ended = absurd (no_done c.in-Err.trouble (sym c.trouble_status.ensures ∙ ended))
