use Rattle.std.proofs.Common.{◌∙◌, sym}
use Rattle.sector_disk.specs.Disk.{content}
use Rattle.jnl_replay.proofs.Checks.{refuse_info, refuse_header, plan_kept, plan_fresh}
use Rattle.jnl_replay.proofs.ReadOn.{same_content, tells_then}
use Rattle.jnl_replay.proofs.checking.find_journal.Goals as goal

pub returns-in-Err-clause-refused : goal.returns-in-Err-clause-refused
returns-in-Err-clause-refused g c tells =
    refuse_info c.args.dialect c.args.place.now.info_sector (content (g.D.SectorDisk.state c.args.disk.now)) c.in-Err.fault (c.in-Err.ensures.refused tells)

pub returns-then-is_new-clause-plan : goal.returns-then-is_new-clause-plan
returns-then-is_new-clause-plan g c tells =
    plan_fresh c.args.dialect (content (g.D.SectorDisk.state c.args.disk.now)) c.args.place.now c.in-Ok.info c.fresh_plan.result (c.in-Ok.ensures.found tells) (sym c.is_new.ensures ∙ c.if-is_new.true) c.fresh_plan.ensures

pub returns-in-Ok-find_header-clause-plan : goal.returns-in-Ok-find_header-clause-plan
returns-in-Ok-find_header-clause-plan g c tells =
    let s0 = g.D.SectorDisk.state c.args.disk.now in
    let s1 = g.D.SectorDisk.state c.find_info.new.disk in
    let reads = c.find_info.ensures.reads in
    plan_kept c.args.dialect (content s0) (content s1) c.args.place.now c.in-Ok.info c.in-Ok-find_header.header c.kept_plan.result (same_content s0 s1 reads) (c.in-Ok.ensures.found tells)
    (sym c.is_new.ensures ∙ c.if-is_new.false) (c.in-Ok-find_header.ensures.found (tells_then s0 s1 reads tells)) c.kept_plan.ensures

pub returns-in-Err-find_header-clause-refused : goal.returns-in-Err-find_header-clause-refused
returns-in-Err-find_header-clause-refused g c tells =
    let s0 = g.D.SectorDisk.state c.args.disk.now in
    let s1 = g.D.SectorDisk.state c.find_info.new.disk in
    let reads = c.find_info.ensures.reads in
    refuse_header c.args.dialect c.args.place.now.info_sector (content s0) (content s1) c.in-Ok.info c.in-Err-find_header.fault (same_content s0 s1 reads) (c.in-Ok.ensures.found tells)
    (sym c.is_new.ensures ∙ c.if-is_new.false) (c.in-Err-find_header.ensures.refused (tells_then s0 s1 reads tells))
