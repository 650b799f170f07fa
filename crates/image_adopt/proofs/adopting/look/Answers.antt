use Rattle.std.proofs.Common.{◌≡◌, Result, sym, ◌∙◌, subst}
use Rattle.std.specs.Prelude.{Err, IfErr, IfOk, Ok}
use Rattle.sector_disk.specs.Disk.{content}
use Rattle.sector_disk.proofs.Writing.{reads_both}
use Rattle.jnl_format.specs.Recovery.{Content, recovery, recovery_as, replayed}
use Rattle.jnl_format.specs.declared.dialect.Dialect.TheVariants.{Wide}
use Rattle.jnl_replay.specs.Finding.{FitsPlace, IsFound, RefusesVolume}
use Rattle.jnl_replay.specs.Plan.{FitsAny, IsPlanAs, IsRefusedAs, IsRefusedIn, journal_of}
use Rattle.jnl_replay.specs.declared.finding.VolumeRefusal.{VolumeRefusal}
use Rattle.jnl_replay.specs.declared.plan.Place.{Place}
use Rattle.jnl_replay.specs.declared.plan.Plan.{Plan}
use Rattle.jnl_replay.specs.declared.plan.ReplayFault.{ReplayFault}
use Rattle.jnl_replay.proofs.Found.{info_then, place_then, size_then}
use Rattle.jnl_replay.proofs.ReadOn.{same_content, tells_then}
use Rattle.image_adopt.proofs.Through.{may_change}
use Rattle.image_adopt.proofs.adopting.look.Goals as goal

pub returns-in-Err-clause-refused : goal.returns-in-Err-clause-refused
returns-in-Err-clause-refused g c tells =
    let c0 = content (g.D.SectorDisk.state c.args.disk.now) in
    c.refused.ensures c0 (subst (λ (r : Result Place VolumeRefusal). IfErr r (RefusesVolume c0)) c.in-Err.is (c.in_ok-place.ensures.refused tells))

pub validate-requires-clause-size : goal.validate-requires-clause-size
validate-requires-clause-size g c =
    let s0 = g.D.SectorDisk.state c.args.disk.now in
    size_then s0 (g.D.SectorDisk.state c.find_place.new.disk) c.find_place.ensures.reads c.in-Ok.place (subst (λ (r : Result Place VolumeRefusal). IfOk r (FitsPlace s0.sectors)) c.in-Ok.is c.in_ok-place.ensures.fits)

pub validate-requires-clause-info : goal.validate-requires-clause-info
validate-requires-clause-info g c =
    let s0 = g.D.SectorDisk.state c.args.disk.now in
    info_then s0 (g.D.SectorDisk.state c.find_place.new.disk) c.find_place.ensures.reads c.in-Ok.place (subst (λ (r : Result Place VolumeRefusal). IfOk r (FitsPlace s0.sectors)) c.in-Ok.is c.in_ok-place.ensures.fits)

pub validate-requires-clause-place : goal.validate-requires-clause-place
validate-requires-clause-place g c tells1 =
    let s0 = g.D.SectorDisk.state c.args.disk.now in
    let reads = c.find_place.ensures.reads in
    let found = subst (λ (r : Result Place VolumeRefusal). IfOk r (IsFound (content s0))) c.in-Ok.is (c.in_ok-place.ensures.found (sym reads.same.tells ∙ tells1)) in
    place_then s0 (g.D.SectorDisk.state c.find_place.new.disk) reads c.in-Ok.place found.says

pub returns-in-Ok-validate-clause-found : goal.returns-in-Ok-validate-clause-found
returns-in-Ok-validate-clause-found g c tells =
    let s0 = g.D.SectorDisk.state c.args.disk.now in
    let s1 = g.D.SectorDisk.state c.find_place.new.disk in
    let reads = c.find_place.ensures.reads in
    let found = subst (λ (r : Result Place VolumeRefusal). IfOk r (IsFound (content s0))) c.in-Ok.is (c.in_ok-place.ensures.found tells) in
    let recovers = c.in-Ok-validate.ensures.recovered (tells_then s0 s1 reads tells) in
    (may_change (content s0) c.in-Ok.place found, replayed (journal_of c.in-Ok-validate.plan) (content s0), subst (λ (d : Content). recovery d ≡ Ok (replayed (journal_of c.in-Ok-validate.plan) d)) (same_content s0 s1 reads) recovers)

pub validate_as-requires-clause-size : goal.validate_as-requires-clause-size
validate_as-requires-clause-size g c =
    let s0 = g.D.SectorDisk.state c.args.disk.now in
    let s1 = g.D.SectorDisk.state c.find_place.new.disk in
    let s2 = g.D.SectorDisk.state c.validate.new.disk in
    size_then s0 s2 (reads_both s0 s1 s2 c.find_place.ensures.reads c.validate.ensures.reads) c.in-Ok.place (subst (λ (r : Result Place VolumeRefusal). IfOk r (FitsPlace s0.sectors)) c.in-Ok.is c.in_ok-place.ensures.fits)

pub validate_as-requires-clause-info : goal.validate_as-requires-clause-info
validate_as-requires-clause-info g c =
    let s0 = g.D.SectorDisk.state c.args.disk.now in
    let s1 = g.D.SectorDisk.state c.find_place.new.disk in
    let s2 = g.D.SectorDisk.state c.validate.new.disk in
    info_then s0 s2 (reads_both s0 s1 s2 c.find_place.ensures.reads c.validate.ensures.reads) c.in-Ok.place (subst (λ (r : Result Place VolumeRefusal). IfOk r (FitsPlace s0.sectors)) c.in-Ok.is c.in_ok-place.ensures.fits)

pub validate_as-requires-clause-place : goal.validate_as-requires-clause-place
validate_as-requires-clause-place g c tells2 =
    let s0 = g.D.SectorDisk.state c.args.disk.now in
    let s1 = g.D.SectorDisk.state c.find_place.new.disk in
    let s2 = g.D.SectorDisk.state c.validate.new.disk in
    let reads = reads_both s0 s1 s2 c.find_place.ensures.reads c.validate.ensures.reads in
    let found = subst (λ (r : Result Place VolumeRefusal). IfOk r (IsFound (content s0))) c.in-Ok.is (c.in_ok-place.ensures.found (sym reads.same.tells ∙ tells2)) in
    place_then s0 s2 reads c.in-Ok.place found.says

pub returns-in-Ok-validate_as-clause-found : goal.returns-in-Ok-validate_as-clause-found
returns-in-Ok-validate_as-clause-found g c tells =
    let s0 = g.D.SectorDisk.state c.args.disk.now in
    let s1 = g.D.SectorDisk.state c.find_place.new.disk in
    let s2 = g.D.SectorDisk.state c.validate.new.disk in
    let first = c.find_place.ensures.reads in
    let reads = reads_both s0 s1 s2 first c.validate.ensures.reads in
    let found = subst (λ (r : Result Place VolumeRefusal). IfOk r (IsFound (content s0))) c.in-Ok.is (c.in_ok-place.ensures.found tells) in
    let refused = subst (λ (f : ReplayFault). IsRefusedAs (content s1) f) c.in-Err-Refused.field-0-is (subst (λ (r : Result Plan ReplayFault). IfErr r (IsRefusedAs (content s1))) c.in-Err-Refused.is (c.validate.ensures.refused (tells_then s0 s1 first tells))) in
    let plan = (c.in-Ok-validate_as.ensures.plan (tells_then s0 s2 reads tells)).0 in (
      may_change (content s0) c.in-Ok.place found,
      (c.in-Err-Refused.why, subst (λ (d : Content). recovery d ≡ Err c.in-Err-Refused.why) (same_content s0 s1 first) refused),
      subst (λ (d : Content). IsPlanAs Wide d c.in-Ok-validate_as.plan) (same_content s0 s2 reads) plan,
    )

pub returns-in-Ok-validate_as-clause-fits : goal.returns-in-Ok-validate_as-clause-fits
returns-in-Ok-validate_as-clause-fits g c =
    subst (λ n. FitsAny n c.in-Ok-validate_as.plan) (c.validate.ensures.reads.same.sectors ∙ c.find_place.ensures.reads.same.sectors) c.in-Ok-validate_as.ensures.fits

pub returns-in-Err-Refused-validate_as-clause-refused : goal.returns-in-Err-Refused-validate_as-clause-refused
returns-in-Err-Refused-validate_as-clause-refused g c tells =
    let s0 = g.D.SectorDisk.state c.args.disk.now in
    let s1 = g.D.SectorDisk.state c.find_place.new.disk in
    let s2 = g.D.SectorDisk.state c.validate.new.disk in
    let reads = reads_both s0 s1 s2 c.find_place.ensures.reads c.validate.ensures.reads in
    let found = subst (λ (r : Result Place VolumeRefusal). IfOk r (IsFound (content s0))) c.in-Ok.is (c.in_ok-place.ensures.found tells) in
    let refused = subst (λ (f : ReplayFault). IsRefusedIn Wide (content s2) f) c.in-Err-Refused-validate_as.field-0-is (subst (λ (r : Result Plan ReplayFault). IfErr r (IsRefusedIn Wide (content s2))) c.in-Err-Refused-validate_as.is (c.validate_as.ensures.refused (tells_then s0 s2 reads tells))) in
    (may_change (content s0) c.in-Ok.place found, subst (λ (d : Content). recovery_as Wide d ≡ Err c.in-Err-Refused-validate_as.why) (same_content s0 s2 reads) refused)
