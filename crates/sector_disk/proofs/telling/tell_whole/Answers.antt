use Rattle.std.proofs.Common.{◌≡◌, ◌≤◌, ◌++◌, length, take, subst}
use Rattle.std.proofs.lemmas.List.{take_rest}
use Rattle.sector_disk.specs.Clock.{TimePasses}
use Rattle.sector_disk.specs.Disk.{IsImage, ToldPrefix}
use Rattle.sector_disk.proofs.Told.{told_more, unsure_told, time_told}
use Rattle.sector_disk.proofs.telling.tell_whole.Goals as goal

pub loop-at-preserved : goal.loop-at-preserved
loop-at-preserved g c =
    let now = g.R.SectorDisk.state c.loop-at.rig in
    let new = g.R.SectorDisk.state c.tell.new.self in
    let rest = take_rest c.args.bytes.now c.loop-at.at in
    told_more (g.R.SectorDisk.state c.args.rig.now) now new c.args.bytes.now c.loop-at.at c.in_ok-count.count c.loop-at.invariant
    (subst (λ l. c.in_ok-count.count ≤ length l) rest c.in_ok-count.ensures.length)
    (λ tells. subst (λ l. new.told ≡ now.told ++ take c.in_ok-count.count l) rest (c.in_ok-count.ensures.told tells))
    c.tell.ensures.candidates c.tell.ensures.barriers c.tell.ensures.faults c.tell.ensures.same
    (subst (λ l. TimePasses now.clock new.clock (λ image told. IsImage now.candidates image × ToldPrefix now.told l told)) rest c.tell.ensures.time) c.tell.ensures.cause.later

pub returns-in_err-count-clause-unsure : goal.returns-in_err-count-clause-unsure
returns-in_err-count-clause-unsure g c =
    let now = g.R.SectorDisk.state c.loop-at.rig in
    let new = g.R.SectorDisk.state c.tell.new.self in
    unsure_told (g.R.SectorDisk.state c.args.rig.now) now new c.args.bytes.now c.loop-at.at c.loop-at.invariant
    (λ tells. subst (λ l. ToldPrefix now.told l new.told) (take_rest c.args.bytes.now c.loop-at.at) (c.tell.ensures.unsure tells))

pub returns-in_err-count-clause-time : goal.returns-in_err-count-clause-time
returns-in_err-count-clause-time g c =
    let now = g.R.SectorDisk.state c.loop-at.rig in
    let new = g.R.SectorDisk.state c.tell.new.self in
    time_told (g.R.SectorDisk.state c.args.rig.now) now new c.args.bytes.now c.loop-at.at c.loop-at.invariant
    (subst (λ l. TimePasses now.clock new.clock (λ image told. IsImage now.candidates image × ToldPrefix now.told l told)) (take_rest c.args.bytes.now c.loop-at.at) c.tell.ensures.time)

pub returns-then-count-eq0-clause-time : goal.returns-then-count-eq0-clause-time
returns-then-count-eq0-clause-time g c =
    let now = g.R.SectorDisk.state c.loop-at.rig in
    let new = g.R.SectorDisk.state c.tell.new.self in
    time_told (g.R.SectorDisk.state c.args.rig.now) now new c.args.bytes.now c.loop-at.at c.loop-at.invariant
    (subst (λ l. TimePasses now.clock new.clock (λ image told. IsImage now.candidates image × ToldPrefix now.told l told)) (take_rest c.args.bytes.now c.loop-at.at) c.tell.ensures.time)
