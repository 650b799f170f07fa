use Rattle.std.proofs.Common.{◌≡◌, Result, sym, ◌∙◌, ap, subst}
use Rattle.std.specs.Prelude.{Err, IfErr, IfOk, Ok}
use Rattle.sector_disk.specs.Disk.{content}
use Rattle.jnl_format.specs.Recovery.{Content, recovery, replayed}
use Rattle.jnl_replay.specs.Finding.{FitsPlace, IsFound, RefusesVolume}
use Rattle.jnl_replay.specs.Plan.{FitsPlan, IsPlan, IsRefusedAs, journal_of}
use Rattle.jnl_replay.specs.declared.finding.VolumeRefusal.{VolumeRefusal}
use Rattle.jnl_replay.specs.declared.plan.Place.{Place}
use Rattle.jnl_replay.specs.declared.plan.Plan.{Plan}
use Rattle.jnl_replay.specs.declared.plan.ReplayFault.{ReplayFault}
use Rattle.jnl_replay.proofs.Found.{info_then, place_then, size_then}
use Rattle.jnl_replay.proofs.ReadOn.{same_content, tells_then}
use Rattle.volume_header.specs.Refusal.{is_volume_size}
use Rattle.hfs_serving.proofs.Openings.{always, kept, open_found, plan_opens, plan_refused}
use Rattle.hfs_serving.proofs.opening.open_image.Goals as goal

pub returns-in-Err-clause-refused : goal.returns-in-Err-clause-refused
returns-in-Err-clause-refused g c tells =
    let c0 = content (g.D.SectorDisk.state c.args.disk.now) in
    c.refused.ensures c0 (subst (λ (r : Result Place VolumeRefusal). IfErr r (RefusesVolume c0)) c.in-Err.is (c.in_ok-place.ensures.refused tells))

pub validate-requires-clause-size : goal.validate-requires-clause-size
validate-requires-clause-size g c =
    let s0 = g.D.SectorDisk.state c.args.disk.now in
    size_then s0 (g.D.SectorDisk.state c.find_place.new.disk) c.find_place.ensures.reads c.in-Ok.place (subst (λ (r : Result Place VolumeRefusal). IfOk r (FitsPlace s0.sectors)) c.in-Ok.is c.in_ok-place.ensures.fits)

pub validate-requires-clause-info : goal.validate-requires-clause-info
validate-requires-clause-info g c =
    let s0 = g.D.SectorDisk.state c.args.disk.now in
    info_then s0 (g.D.SectorDisk.state c.find_place.new.disk) c.find_place.ensures.reads c.in-Ok.place (subst (λ (r : Result Place VolumeRefusal). IfOk r (FitsPlace s0.sectors)) c.in-Ok.is c.in_ok-place.ensures.fits)

pub validate-requires-clause-place : goal.validate-requires-clause-place
validate-requires-clause-place g c tells1 =
    let s0 = g.D.SectorDisk.state c.args.disk.now in
    let reads = c.find_place.ensures.reads in
    let found = subst (λ (r : Result Place VolumeRefusal). IfOk r (IsFound (content s0))) c.in-Ok.is (c.in_ok-place.ensures.found (sym reads.same.tells ∙ tells1)) in
    place_then s0 (g.D.SectorDisk.state c.find_place.new.disk) reads c.in-Ok.place found.says

pub returns-in-Ok-validate-clause-opened : goal.returns-in-Ok-validate-clause-opened
returns-in-Ok-validate-clause-opened g c tells =
    let s0 = g.D.SectorDisk.state c.args.disk.now in
    let s1 = g.D.SectorDisk.state c.find_place.new.disk in
    let c0 = content s0 in
    let plan = c.in-Ok-validate.plan in
    let reads = c.find_place.ensures.reads in
    let found = subst (λ (r : Result Place VolumeRefusal). IfOk r (IsFound c0)) c.in-Ok.is (c.in_ok-place.ensures.found tells) in
    let is = subst (λ (d : Content). IsPlan d plan) (same_content s0 s1 reads) (c.in-Ok-validate.ensures.plan (tells_then s0 s1 reads tells)).0 in
    let recovers = subst (λ (d : Content). recovery d ≡ Ok (replayed (journal_of plan) d)) (same_content s0 s1 reads) (c.in-Ok-validate.ensures.recovered (tells_then s0 s1 reads tells)) in
    plan_opens c0 plan s1.sectors (open_found c0 c.in-Ok.place found) c.in-Ok-validate.ensures.fits is recovers c.large_enough.result c.large_enough.ensures.opened

pub returns-in-Ok-validate-clause-refused : goal.returns-in-Ok-validate-clause-refused
returns-in-Ok-validate-clause-refused g c tells =
    let s0 = g.D.SectorDisk.state c.args.disk.now in
    let s1 = g.D.SectorDisk.state c.find_place.new.disk in
    let c0 = content s0 in
    let plan = c.in-Ok-validate.plan in
    let reads = c.find_place.ensures.reads in
    let found = subst (λ (r : Result Place VolumeRefusal). IfOk r (IsFound c0)) c.in-Ok.is (c.in_ok-place.ensures.found tells) in
    let is = subst (λ (d : Content). IsPlan d plan) (same_content s0 s1 reads) (c.in-Ok-validate.ensures.plan (tells_then s0 s1 reads tells)).0 in
    let recovers = subst (λ (d : Content). recovery d ≡ Ok (replayed (journal_of plan) d)) (same_content s0 s1 reads) (c.in-Ok-validate.ensures.recovered (tells_then s0 s1 reads tells)) in
    plan_refused c0 plan s1.sectors (open_found c0 c.in-Ok.place found) c.in-Ok-validate.ensures.fits is recovers c.large_enough.result c.large_enough.ensures.refused

pub returns-in-Ok-validate-clause-fits : goal.returns-in-Ok-validate-clause-fits
returns-in-Ok-validate-clause-fits g c =
    let s0 = g.D.SectorDisk.state c.args.disk.now in
    let plan = c.in-Ok-validate.plan in
    kept plan (FitsPlan s0.sectors) (subst (λ n. FitsPlan n plan) c.find_place.ensures.reads.same.sectors c.in-Ok-validate.ensures.fits) c.large_enough.result c.large_enough.ensures.opened

pub returns-in-Ok-validate-clause-size : goal.returns-in-Ok-validate-clause-size
returns-in-Ok-validate-clause-size g c =
    let s0 = g.D.SectorDisk.state c.args.disk.now in
    let fits = subst (λ (r : Result Place VolumeRefusal). IfOk r (FitsPlace s0.sectors)) c.in-Ok.is c.in_ok-place.ensures.fits in
    always c.large_enough.result (ap is_volume_size (c.validate.ensures.reads.same.sectors ∙ c.find_place.ensures.reads.same.sectors) ∙ fits.size)

pub returns-in-Err-Refused-clause-refused : goal.returns-in-Err-Refused-clause-refused
returns-in-Err-Refused-clause-refused g c tells =
    let s0 = g.D.SectorDisk.state c.args.disk.now in
    let s1 = g.D.SectorDisk.state c.find_place.new.disk in
    let reads = c.find_place.ensures.reads in
    let found = subst (λ (r : Result Place VolumeRefusal). IfOk r (IsFound (content s0))) c.in-Ok.is (c.in_ok-place.ensures.found tells) in
    let read = subst (λ (f : ReplayFault). IsRefusedAs (content s1) f) c.in-Err-Refused.field-0-is (subst (λ (r : Result Plan ReplayFault). IfErr r (IsRefusedAs (content s1))) c.in-Err-Refused.is (c.validate.ensures.refused (tells_then s0 s1 reads tells))) in
    (open_found (content s0) c.in-Ok.place found, subst (λ (d : Content). recovery d ≡ Err c.in-Err-Refused.why) (same_content s0 s1 reads) read)
