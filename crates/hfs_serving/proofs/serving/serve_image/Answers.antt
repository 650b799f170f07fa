use Rattle.hfs_serving.proofs.Answering.{own_image}
use Rattle.hfs_serving.proofs.PlainRuns.{all_of, every_of, finished_of, keeps_of, last_of, stopped_of}
use Rattle.hfs_serving.proofs.serving.serve_image.Goals as goal

pub returns-clause-promises : goal.returns-clause-promises
returns-clause-promises g c tells settled capacity start mounts =
    let s0 = g.R.SectorDisk.state c.args.rig.now in
    let s2 = g.R.SectorDisk.state c.serve_spoken.new.rig in
    let source = g.S.Source.stream c.args.source.now in
    let source_new = g.S.Source.stream c.serve_spoken.new.source in
    let heard = c.serve_spoken.ensures.promises.0 in
    (keeps_of heard capacity start s0 source s2 source_new (c.serve_spoken.ensures.promises.2 tells settled capacity start mounts)).0

pub returns-clause-watched : goal.returns-clause-watched
returns-clause-watched g c = (
  c.serve_spoken.ensures.promises.0,
  c.serve_spoken.ensures.promises.1,
  λ tells settled capacity start mounts.
      let s0 = g.R.SectorDisk.state c.args.rig.now in
      let s2 = g.R.SectorDisk.state c.serve_spoken.new.rig in
      let source = g.S.Source.stream c.args.source.now in
      let source_new = g.S.Source.stream c.serve_spoken.new.source in
      let heard = c.serve_spoken.ensures.promises.0 in
      let answers = every_of heard capacity start s0 source s2 source_new c.serve_spoken.result (λ isnt final. let there = c.serve_spoken.ensures.promises.3 isnt final in (there.0, there.1, there.2, there.3 tells settled capacity start mounts)) in (
        keeps_of heard capacity start s0 source s2 source_new (c.serve_spoken.ensures.promises.2 tells settled capacity start mounts),
        all_of heard capacity start s0 source s2 source_new c.serve_spoken.result (own_image s2 (g.met.R.SectorDisk.well_formed c.serve_spoken.new.rig)) answers (c.serve_spoken.ensures.away tells),
        stopped_of heard capacity start s0 source s2 source_new c.serve_spoken.result answers,
        last_of heard capacity start s0 source s2 source_new c.serve_spoken.result answers,
      ),
)

pub returns-clause-done : goal.returns-clause-done
returns-clause-done g c tells settled capacity start mounts =
    let s0 = g.R.SectorDisk.state c.args.rig.now in
    let s2 = g.R.SectorDisk.state c.serve_spoken.new.rig in
    let source = g.S.Source.stream c.args.source.now in
    let source_new = g.S.Source.stream c.serve_spoken.new.source in
    let heard = c.serve_spoken.ensures.promises.0 in
    let answers = every_of heard capacity start s0 source s2 source_new c.serve_spoken.result (λ isnt final. let there = c.serve_spoken.ensures.promises.3 isnt final in (there.0, there.1, there.2, there.3 tells settled capacity start mounts)) in
    finished_of heard capacity start s0 source s2 source_new c.serve_spoken.result (all_of heard capacity start s0 source s2 source_new c.serve_spoken.result (own_image s2 (g.met.R.SectorDisk.well_formed c.serve_spoken.new.rig)) answers (c.serve_spoken.ensures.away tells))

pub returns-clause-stopped : goal.returns-clause-stopped
returns-clause-stopped g c tells settled capacity start mounts is =
    let s0 = g.R.SectorDisk.state c.args.rig.now in
    let s2 = g.R.SectorDisk.state c.serve_spoken.new.rig in
    let source = g.S.Source.stream c.args.source.now in
    let source_new = g.S.Source.stream c.serve_spoken.new.source in
    let heard = c.serve_spoken.ensures.promises.0 in
    let answers = every_of heard capacity start s0 source s2 source_new c.serve_spoken.result (λ isnt final. let there = c.serve_spoken.ensures.promises.3 isnt final in (there.0, there.1, there.2, there.3 tells settled capacity start mounts)) in
    (stopped_of heard capacity start s0 source s2 source_new c.serve_spoken.result answers is).0

pub returns-clause-to_the_last : goal.returns-clause-to_the_last
returns-clause-to_the_last g c tells settled capacity start mounts is =
    let s0 = g.R.SectorDisk.state c.args.rig.now in
    let s2 = g.R.SectorDisk.state c.serve_spoken.new.rig in
    let source = g.S.Source.stream c.args.source.now in
    let source_new = g.S.Source.stream c.serve_spoken.new.source in
    let heard = c.serve_spoken.ensures.promises.0 in
    let answers = every_of heard capacity start s0 source s2 source_new c.serve_spoken.result (λ isnt final. let there = c.serve_spoken.ensures.promises.3 isnt final in (there.0, there.1, there.2, there.3 tells settled capacity start mounts)) in
    (last_of heard capacity start s0 source s2 source_new c.serve_spoken.result answers is).0
