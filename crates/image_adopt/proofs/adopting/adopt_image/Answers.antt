use Rattle.std.proofs.Common.{sym, ◌∙◌, ap, subst}
use Rattle.std.specs.Prelude.{IfErr, Ok, Option, Result}
use Rattle.sector_disk.specs.Disk.{content}
use Rattle.jnl_replay.specs.Plan.{FitsAny}
use Rattle.jnl_replay.specs.declared.plan.Plan.{Plan}
use Rattle.jnl_replay.proofs.ReadOn.{tells_then}
use Rattle.image_adopt.specs.Adopting.{IsFoundAs, RefusesAdoption}
use Rattle.image_adopt.specs.declared.answers.AdoptRefusal.{AdoptRefusal}
use Rattle.image_adopt.proofs.Through.{adopted_anew, already_adopted, found_none, found_some, fits_some, leaves_then, plan_then, reads_leave, settled_then}
use Rattle.image_adopt.proofs.adopting.adopt_image.Goals as goal

pub returns-in_err-found-clause-crash : goal.returns-in_err-found-clause-crash
returns-in_err-found-clause-crash g c tells settled = reads_leave (g.D.SectorDisk.state c.args.disk.now) (g.D.SectorDisk.state c.look.new.disk) c.look.ensures.reads settled

pub returns-in-Ok-None-clause-crash : goal.returns-in-Ok-None-clause-crash
returns-in-Ok-None-clause-crash g c tells settled = reads_leave (g.D.SectorDisk.state c.args.disk.now) (g.D.SectorDisk.state c.look.new.disk) c.look.ensures.reads settled

pub returns-in-Ok-None-clause-adopted : goal.returns-in-Ok-None-clause-adopted
returns-in-Ok-None-clause-adopted g c tells =
    let s0 = g.D.SectorDisk.state c.args.disk.now in
    already_adopted s0 (g.D.SectorDisk.state c.look.new.disk) c.look.ensures.reads (found_none (content s0) c.in_ok-found.found (c.in-Ok-None.is ∙ ap Ok (rw c.in-Ok-None.is at c.in-Ok-None.field-0-is)) (c.in_ok-found.ensures.found tells))

pub returns-in-Err-clause-crash : goal.returns-in-Err-clause-crash
returns-in-Err-clause-crash g c tells settled = reads_leave (g.D.SectorDisk.state c.args.disk.now) (g.D.SectorDisk.state c.look.new.disk) c.look.ensures.reads settled

pub returns-in-Err-clause-refused : goal.returns-in-Err-clause-refused
returns-in-Err-clause-refused g c tells =
    subst (λ (r : Result (Option Plan) AdoptRefusal). IfErr r (RefusesAdoption (content (g.D.SectorDisk.state c.args.disk.now)))) c.in-Err.is (c.in_ok-found.ensures.refused tells)

pub adopt-requires-clause-fits : goal.adopt-requires-clause-fits
adopt-requires-clause-fits g c =
    let s0 = g.D.SectorDisk.state c.args.disk.now in
    subst (λ n. FitsAny n c.in-Ok-Some.plan) (sym c.look.ensures.reads.same.sectors) (fits_some s0.sectors c.in_ok-found.found c.in-Ok-Some.plan (c.in-Ok-Some.is ∙ ap Ok (rw c.in-Ok-Some.is at c.in-Ok-Some.field-0-is)) c.in_ok-found.ensures.fits)

pub adopt-requires-clause-plan : goal.adopt-requires-clause-plan
adopt-requires-clause-plan g c tells1 =
    let s0 = g.D.SectorDisk.state c.args.disk.now in
    let reads = c.look.ensures.reads in
    plan_then s0 (g.D.SectorDisk.state c.look.new.disk) reads c.in-Ok-Some.plan
    (found_some (content s0) c.in_ok-found.found c.in-Ok-Some.plan (c.in-Ok-Some.is ∙ ap Ok (rw c.in-Ok-Some.is at c.in-Ok-Some.field-0-is)) (c.in_ok-found.ensures.found (sym reads.same.tells ∙ tells1))).2

pub returns-in_err-adopt-in-Ok-Some-clause-crash : goal.returns-in_err-adopt-in-Ok-Some-clause-crash
returns-in_err-adopt-in-Ok-Some-clause-crash g c tells settled =
    let s0 = g.D.SectorDisk.state c.args.disk.now in
    let s1 = g.D.SectorDisk.state c.look.new.disk in
    let reads = c.look.ensures.reads in
    let found = found_some (content s0) c.in_ok-found.found c.in-Ok-Some.plan (c.in-Ok-Some.is ∙ ap Ok (rw c.in-Ok-Some.is at c.in-Ok-Some.field-0-is)) (c.in_ok-found.ensures.found tells) in
    leaves_then s0 s1 reads settled (g.D.SectorDisk.state c.adopt.new.disk) c.in-Ok-Some.plan found.2 (c.adopt.ensures.crash (tells_then s0 s1 reads tells) (settled_then s0 s1 reads settled))

pub returns-in_ok-adopt-in-Ok-Some-clause-crash : goal.returns-in_ok-adopt-in-Ok-Some-clause-crash
returns-in_ok-adopt-in-Ok-Some-clause-crash g c tells settled =
    let s0 = g.D.SectorDisk.state c.args.disk.now in
    let s1 = g.D.SectorDisk.state c.look.new.disk in
    let reads = c.look.ensures.reads in
    let found = found_some (content s0) c.in_ok-found.found c.in-Ok-Some.plan (c.in-Ok-Some.is ∙ ap Ok (rw c.in-Ok-Some.is at c.in-Ok-Some.field-0-is)) (c.in_ok-found.ensures.found tells) in
    leaves_then s0 s1 reads settled (g.D.SectorDisk.state c.adopt.new.disk) c.in-Ok-Some.plan found.2 (c.adopt.ensures.crash (tells_then s0 s1 reads tells) (settled_then s0 s1 reads settled))

pub returns-in_ok-adopt-in-Ok-Some-clause-adopted : goal.returns-in_ok-adopt-in-Ok-Some-clause-adopted
returns-in_ok-adopt-in-Ok-Some-clause-adopted g c tells =
    let s0 = g.D.SectorDisk.state c.args.disk.now in
    let s1 = g.D.SectorDisk.state c.look.new.disk in
    let reads = c.look.ensures.reads in
    let found = found_some (content s0) c.in_ok-found.found c.in-Ok-Some.plan (c.in-Ok-Some.is ∙ ap Ok (rw c.in-Ok-Some.is at c.in-Ok-Some.field-0-is)) (c.in_ok-found.ensures.found tells) in
    adopted_anew s0 s1 reads (content (g.D.SectorDisk.state c.adopt.new.disk)) c.in-Ok-Some.plan c.made_of.result found (c.in_ok-adopt-in-Ok-Some.ensures.plain (tells_then s0 s1 reads tells)) c.made_of.ensures
