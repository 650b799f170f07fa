use Rattle.std.proofs.Common.{sym, ◌∙◌, ap, subst, arith}
use Rattle.std.specs.Prelude.{IsTrue}
use Rattle.std.proofs.lemmas.Result.{err_from_is_err_and}
use Rattle.jnl_store.specs.Seen.{seen}
use Rattle.jnl_store.specs.Store.{plan_of}
use Rattle.hfs_serving.specs.Grounds.{Anchor}
use Rattle.hfs_serving.specs.Outside.{outside_of}
use Rattle.hfs_serving.proofs.Causes.{counts_both, counts_none, faults_behind, fine, handed}
use Rattle.hfs_serving.proofs.Closing.{finish_done, finish_on, still_turns}
use Rattle.hfs_serving.proofs.Grounding.{disks_both, same_disk}
use Rattle.hfs_serving.proofs.PutAway.{put_away}
use Rattle.hfs_serving.proofs.resting.finish.Goals as goal

pub end_run-requires-clause-serves : goal.end_run-requires-clause-serves
end_run-requires-clause-serves g c = c.requires.serves

pub rest-requires-clause-serves : goal.rest-requires-clause-serves
rest-requires-clause-serves g c = let there = c.requires.serves in (there.0, (c.in_ok-end_run.ensures.still there.0 there.1 (omega (arith, there.2))).0)

pub rest-requires-clause-nothing : goal.rest-requires-clause-nothing
rest-requires-clause-nothing g c = let there = c.requires.serves in (c.in_ok-end_run.ensures.still there.0 there.1 (omega (arith, there.2))).1

pub returns-in_err-rest-clause-crash : goal.returns-in_err-rest-clause-crash
returns-in_err-rest-clause-crash g c tells capacity now shrunk stands =
    let base = c.args.base.now in
    let end = c.end_run.new.base in
    let last = c.rest.new.base in
    let out = outside_of (plan_of base.store.now) (g.R.SectorDisk.state base.disk.now) in
    let out_end = outside_of (plan_of end.store.now) (g.R.SectorDisk.state end.disk.now) in
    let out_last = outside_of (plan_of last.store.now) (g.R.SectorDisk.state last.disk.now) in
    let done = c.in_ok-end_run.ensures.done tells capacity now shrunk stands in
    let tells_end = subst (λ t. IsTrue t) (sym c.in_ok-end_run.ensures.tells) tells in
    finish_on now out out_end out_last done.0 (still_turns done.0.ended (seen g.R.SectorDisk.state end) out_end out_last done.1 (c.rest.ensures.crash tells_end))

pub returns-clause-crash : goal.returns-clause-crash
returns-clause-crash g c tells capacity now shrunk stands =
    let base = c.args.base.now in
    let end = c.end_run.new.base in
    let last = c.rest.new.base in
    let out = outside_of (plan_of base.store.now) (g.R.SectorDisk.state base.disk.now) in
    let out_end = outside_of (plan_of end.store.now) (g.R.SectorDisk.state end.disk.now) in
    let out_last = outside_of (plan_of last.store.now) (g.R.SectorDisk.state last.disk.now) in
    let done = c.in_ok-end_run.ensures.done tells capacity now shrunk stands in
    let tells_end = subst (λ t. IsTrue t) (sym c.in_ok-end_run.ensures.tells) tells in
    finish_on now out out_end out_last done.0 (still_turns done.0.ended (seen g.R.SectorDisk.state end) out_end out_last done.1 (c.rest.ensures.crash tells_end))

pub returns-clause-done : goal.returns-clause-done
returns-clause-done g c tells capacity now shrunk stands =
    let base = c.args.base.now in
    let end = c.end_run.new.base in
    let last = c.rest.new.base in
    let out = outside_of (plan_of base.store.now) (g.R.SectorDisk.state base.disk.now) in
    let out_end = outside_of (plan_of end.store.now) (g.R.SectorDisk.state end.disk.now) in
    let out_last = outside_of (plan_of last.store.now) (g.R.SectorDisk.state last.disk.now) in
    let done = c.in_ok-end_run.ensures.done tells capacity now shrunk stands in
    let tells_end = subst (λ t. IsTrue t) (sym c.in_ok-end_run.ensures.tells) tells in
    finish_done now out out_end out_last done.0 (seen g.R.SectorDisk.state end) (seen g.R.SectorDisk.state last) done.1 (c.in_ok-rest.ensures.done tells_end)

pub returns-clause-away : goal.returns-clause-away
returns-clause-away g c tells =
    let there = c.requires.stands tells in
    let end = c.end_run.new.base in
    let last = c.rest.new.base in
    let out_end = outside_of (plan_of end.store.now) (g.R.SectorDisk.state end.disk.now) in
    let out_last = outside_of (plan_of last.store.now) (g.R.SectorDisk.state last.disk.now) in
    let done = c.in_ok-end_run.ensures.done tells there.0 there.1 there.2 there.3 in
    let tells_end = subst (λ t. IsTrue t) (sym c.in_ok-end_run.ensures.tells) tells in
    put_away there.1 done.0.ended (seen g.R.SectorDisk.state end) (seen g.R.SectorDisk.state last) out_end out_last (g.R.SectorDisk.state last.disk.now) done.0.sets done.1.reads (c.in_ok-end_run.ensures.heads tells)
    (c.in_ok-rest.ensures.done tells_end) (c.in_ok-rest.ensures.rests tells_end)

pub returns-in_err-end_run-clause-anchor : goal.returns-in_err-end_run-clause-anchor
returns-in_err-end_run-clause-anchor g c = ap (λ (a : Anchor). a.journal) c.end_run.ensures.anchor

pub returns-in_err-rest-clause-anchor : goal.returns-in_err-rest-clause-anchor
returns-in_err-rest-clause-anchor g c = c.rest.ensures.anchor ∙ ap (λ (a : Anchor). a.journal) c.end_run.ensures.anchor

pub returns-clause-anchor : goal.returns-clause-anchor
returns-clause-anchor g c = c.rest.ensures.anchor ∙ ap (λ (a : Anchor). a.journal) c.end_run.ensures.anchor

pub returns-in_err-end_run-clause-names : goal.returns-in_err-end_run-clause-names
returns-in_err-end_run-clause-names g c = ap (λ (a : Anchor). a.names) c.end_run.ensures.anchor

pub returns-in_err-rest-clause-names : goal.returns-in_err-rest-clause-names
returns-in_err-rest-clause-names g c = c.rest.ensures.names ∙ ap (λ (a : Anchor). a.names) c.end_run.ensures.anchor

pub returns-clause-names : goal.returns-clause-names
returns-clause-names g c = c.rest.ensures.names ∙ ap (λ (a : Anchor). a.names) c.end_run.ensures.anchor

pub returns-in_err-end_run-clause-faults : goal.returns-in_err-end_run-clause-faults
returns-in_err-end_run-clause-faults g c =
    let p = err_from_is_err_and c.from_residual.result c.from_residual.ensures.1 in
    handed (counts_none _ _) _ p.0 c.from_residual.result c.in_err-end_run.ensures.faults p.1 p.2

pub returns-in_err-rest-clause-faults : goal.returns-in_err-rest-clause-faults
returns-in_err-rest-clause-faults g c = faults_behind _ _ _ _ _ _ _ c.end_run.ensures.faults.counts c.rest.ensures.counts c.in_err-rest.ensures.cause

pub returns-clause-faults : goal.returns-clause-faults
returns-clause-faults g c = fine (counts_both c.end_run.ensures.faults.counts c.rest.ensures.counts) _

pub returns-in_err-end_run-clause-same : goal.returns-in_err-end_run-clause-same
returns-in_err-end_run-clause-same g c = same_disk (ap (λ (a : Anchor). a.rig) c.end_run.ensures.anchor)

pub returns-in_err-rest-clause-same : goal.returns-in_err-rest-clause-same
returns-in_err-rest-clause-same g c = disks_both (same_disk (ap (λ (a : Anchor). a.rig) c.end_run.ensures.anchor)) c.rest.ensures.same

pub returns-clause-same : goal.returns-clause-same
returns-clause-same g c = disks_both (same_disk (ap (λ (a : Anchor). a.rig) c.end_run.ensures.anchor)) c.rest.ensures.same
