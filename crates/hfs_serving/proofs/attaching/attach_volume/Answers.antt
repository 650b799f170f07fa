use Rattle.std.proofs.Common.{sym, subst}
use Rattle.std.specs.Prelude.{IsTrue, None}
use Rattle.hfs_serving.proofs.Attached.{attach_begins, attach_may, attach_stands, attach_stops}
use Rattle.std.proofs.lemmas.Result.{err_from_is_err_and}
use Rattle.hfs_serving.proofs.Causes.{counts_both, counts_none, fine, handed}
use Rattle.hfs_serving.proofs.attaching.attach_volume.Goals as goal

pub returns-in_err-volume-clause-may : goal.returns-in_err-volume-clause-may
returns-in_err-volume-clause-may g c tells now may = attach_stops now _ _ may (g.G.SectorView.space c.attach.new.base) (g.G.Ground.outside c.attach.new.base) (c.attach.ensures.touches tells now may)

pub begin_run-requires-clause-stands : goal.begin_run-requires-clause-stands
begin_run-requires-clause-stands g c tells_mid =
    let tells = subst (λ t. IsTrue t) c.attach.ensures.tells tells_mid in
    let there = c.requires.stands tells in
    let new = g.G.SectorView.space c.attach.new.base in (
      c.args.capacity,
      there.0,
      None,
      attach_stands there.0 _ _ there.1 new (g.G.Ground.outside c.attach.new.base) (c.attach.ensures.touches tells there.0 there.1) (g.V.Volume.knows c.in_ok-volume.volume new c.args.capacity) (c.in_ok-volume.ensures.attached tells there.0 there.1),
    )

pub returns-in_err-begin_run-clause-may : goal.returns-in_err-begin_run-clause-may
returns-in_err-begin_run-clause-may g c tells now may =
    let new = g.G.SectorView.space c.attach.new.base in
    let mid = g.G.Ground.outside c.attach.new.base in
    let touches = c.attach.ensures.touches tells now may in
    let stands = attach_stands now _ _ may new mid touches (g.V.Volume.knows c.in_ok-volume.volume new c.args.capacity) (c.in_ok-volume.ensures.attached tells now may) in
    attach_may now _ _ may new mid touches (g.G.Ground.outside c.begin_run.new.base) (c.begin_run.ensures.may (subst (λ t. IsTrue t) (sym c.attach.ensures.tells) tells) c.args.capacity now None stands)

pub returns-clause-may : goal.returns-clause-may
returns-clause-may g c tells now may =
    let new = g.G.SectorView.space c.attach.new.base in
    let mid = g.G.Ground.outside c.attach.new.base in
    let touches = c.attach.ensures.touches tells now may in
    let stands = attach_stands now _ _ may new mid touches (g.V.Volume.knows c.in_ok-volume.volume new c.args.capacity) (c.in_ok-volume.ensures.attached tells now may) in
    attach_may now _ _ may new mid touches (g.G.Ground.outside c.begin_run.new.base) (c.begin_run.ensures.may (subst (λ t. IsTrue t) (sym c.attach.ensures.tells) tells) c.args.capacity now None stands)

pub returns-clause-begins : goal.returns-clause-begins
returns-clause-begins g c tells now may =
    let new = g.G.SectorView.space c.attach.new.base in
    let mid = g.G.Ground.outside c.attach.new.base in
    let touches = c.attach.ensures.touches tells now may in
    let stands = attach_stands now _ _ may new mid touches (g.V.Volume.knows c.in_ok-volume.volume new c.args.capacity) (c.in_ok-volume.ensures.attached tells now may) in
    let last = g.G.SectorView.space c.begin_run.new.base in
    attach_begins now _ _ may new mid touches (g.G.Ground.outside c.begin_run.new.base) c.args.capacity (g.V.Volume.knows c.begin_run.new.volume last c.args.capacity) last
    (c.in_ok-begin_run.ensures.done (subst (λ t. IsTrue t) (sym c.attach.ensures.tells) tells) c.args.capacity now None stands)

pub returns-in_err-volume-clause-faults : goal.returns-in_err-volume-clause-faults
returns-in_err-volume-clause-faults g c =
    let p = err_from_is_err_and c.from_residual.result c.from_residual.ensures.1 in
    handed (counts_none _ _) _ p.0 c.from_residual.result c.in_err-volume.ensures.faults p.1 p.2

pub returns-in_err-begin_run-clause-faults : goal.returns-in_err-begin_run-clause-faults
returns-in_err-begin_run-clause-faults g c =
    let p = err_from_is_err_and c.from_residual-in_err-begin_run.result c.from_residual-in_err-begin_run.ensures.1 in
    handed (c.attach.ensures.faults.counts) _ p.0 c.from_residual-in_err-begin_run.result c.in_err-begin_run.ensures.faults p.1 p.2

pub returns-clause-faults : goal.returns-clause-faults
returns-clause-faults g c =
    fine (counts_both c.attach.ensures.faults.counts c.begin_run.ensures.faults.counts) _
