use Rattle.std.proofs.Common.{refl, sym, subst, arith}
use Rattle.sector_disk.specs.Disk.{content}
use Rattle.jnl_replay.specs.Plan.{journal_of}
use Rattle.hfs_volume.specs.Findings.{HasBytes}
use Rattle.hfs_serving.proofs.ContentBytes.{content_bytes, replayed_bytes}
use Rattle.hfs_serving.proofs.Served.{mounts_one}
use Rattle.volume_look.specs.Talk.{Ends, HearsRight, Talk}
use Rattle.session_lines.specs.Keepers.{talk_of}
use Rattle.hfsx_server.proofs.sessions.find_files.Goals as goal

pub returns-clause-found : goal.returns-clause-found
returns-clause-found g c tells capacity start mounts =
    let s0 = g.R.SectorDisk.state c.args.rig.now in
    let image = content s0 in
    let plan = c.args.plan.now in
    let one = mounts_one image plan s0.sectors c.requires.fits (c.requires.found tells).opened capacity start mounts in
    let bytes = subst HasBytes (sym one.0) (replayed_bytes (journal_of plan) image (content_bytes s0 (g.met.R.SectorDisk.well_formed c.args.rig.now))) in
    let new = talk_of c.look_through.new.asker.heard.items c.look_through.new.asker.waiting in
    c.in_ok-into_files.ensures capacity start mounts.sound (omega (arith, c.sound_trees_may_begin.ensures.few start bytes))
    (subst (λ (t : Talk). Ends t new) (λ i. talk_of (c.new-keepers.ensures.heard i) (c.new-keepers.ensures.waiting i)) (c.in_ok-look_through.ensures.ends refl))
    (subst (λ (t : Talk). HearsRight capacity start t new) (λ i. talk_of (c.new-keepers.ensures.heard i) (c.new-keepers.ensures.waiting i)) (c.look_through.ensures.right tells refl capacity start mounts))
