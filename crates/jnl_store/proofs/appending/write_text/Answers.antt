use Rattle.std.proofs.Common.{sym, ◌∙◌, ap, subst}
use Rattle.sector_disk.specs.Lists.{Content}
use Rattle.sector_disk.specs.Disk.{content, only}
use Rattle.jnl_ring.specs.Writing.{MixesInRing, PutsInRing}
use Rattle.jnl_ring.proofs.RingLaws.{barrier_leaves}
use Rattle.jnl_replay.proofs.Stretches.{settled_content}
use Rattle.jnl_store.specs.Lists.{lists_sectors}
use Rattle.jnl_store.specs.Plan.{form_of, span_of}
use Rattle.jnl_store.proofs.appending.write_text.Goals as goal

pub returns-clause-puts : goal.returns-clause-puts
returns-clause-puts g c tells =
    let s0 = g.D.SectorDisk.state c.args.disk.now in
    let s1 = g.D.SectorDisk.state c.write_lists.new.disk in
    let s2 = g.D.SectorDisk.state c.barrier.new.self in
    let plan = c.args.plan.now in
    subst (λ (d : Content). PutsInRing (span_of plan) plan.header.end (lists_sectors (form_of plan) c.args.puts.now) (content s0) d) (sym (settled_content s1 s2 c.in_ok-barrier.ensures.settled)) (c.in_ok-end.ensures.puts tells)

pub returns-clause-settled : goal.returns-clause-settled
returns-clause-settled g c tells =
    let s1 = g.D.SectorDisk.state c.write_lists.new.disk in
    let s2 = g.D.SectorDisk.state c.barrier.new.self in
    c.in_ok-barrier.ensures.settled ∙ ap only (sym (settled_content s1 s2 c.in_ok-barrier.ensures.settled))

pub returns-in_err-barrier-clause-crash : goal.returns-in_err-barrier-clause-crash
returns-in_err-barrier-clause-crash g c =
    let s0 = g.D.SectorDisk.state c.args.disk.now in
    let s1 = g.D.SectorDisk.state c.write_lists.new.disk in
    let s2 = g.D.SectorDisk.state c.barrier.new.self in
    let plan = c.args.plan.now in
    barrier_leaves c.barrier.result s0 s1 s2 (MixesInRing (span_of plan) plan.header.end (lists_sectors (form_of plan) c.args.puts.now) s0.candidates) (g.met.D.SectorDisk.well_formed c.write_lists.new.disk)
    c.write_lists.ensures.crash c.write_lists.ensures.sink c.barrier.ensures.sink c.barrier.ensures.settled c.barrier.ensures.failed c.barrier.ensures.time

pub returns-clause-crash : goal.returns-clause-crash
returns-clause-crash g c =
    let s0 = g.D.SectorDisk.state c.args.disk.now in
    let s1 = g.D.SectorDisk.state c.write_lists.new.disk in
    let s2 = g.D.SectorDisk.state c.barrier.new.self in
    let plan = c.args.plan.now in
    barrier_leaves c.barrier.result s0 s1 s2 (MixesInRing (span_of plan) plan.header.end (lists_sectors (form_of plan) c.args.puts.now) s0.candidates) (g.met.D.SectorDisk.well_formed c.write_lists.new.disk)
    c.write_lists.ensures.crash c.write_lists.ensures.sink c.barrier.ensures.sink c.barrier.ensures.settled c.barrier.ensures.failed c.barrier.ensures.time
