use Rattle.std.proofs.Common.{◌≡◌, ℕ, List, [], get_or, sym, ◌∙◌, ap, length, subst}
use Rattle.std.specs.Prelude.{IsTrue, None}
use Rattle.jnl_store.specs.Seen.{seen}
use Rattle.jnl_store.specs.Store.{plan_of}
use Rattle.hfs_serving.specs.Grounds.{Anchor}
use Rattle.hfs_serving.specs.Outside.{outside_of}
use Rattle.hfs_language.specs.Language.{most_bytes}
use Rattle.line_source.specs.Batch.{held}
use Rattle.hfs_serving.specs.Speaking.{Speaks, SpeaksFrom}
use Rattle.hfs_serving.specs.Spoken.{AnswersSpoken, CrashesSpoken}
use Rattle.hfs_serving.proofs.Speeches.{none_begun}
use Rattle.watchers.proofs.Tellings.{told_nothing}
use Rattle.hfs_serving.proofs.Attachable.{capacity_ready, finds_ready, in_service, keeps_on, may_attach, tells_space}
use Rattle.hfs_serving.proofs.Grounding.{told_disk}
use Rattle.hfs_serving.proofs.Promising.{has_none}
use Rattle.hfs_serving.proofs.Served.{begin_stopped, begun_goes_on, nothing_more}
use Rattle.std.proofs.Common.{refl, arith}
use Rattle.std.proofs.lemmas.Result.{err_from_is_err_and}
use Rattle.sector_disk.specs.Cause.{Rose}
use Rattle.jnl_store.specs.Spaces.{over}
use Rattle.hfs_serving.specs.Faults.{RigFaults}
use Rattle.hfs_serving.proofs.Causes.{behind_stop, counts_none, handed_stop, rig_from, rig_memory}
use Rattle.hfs_serving.proofs.Numbering.{no_memory, no_trouble}
use Rattle.std.specs.Prelude.{◌≤◌, OnErr, OnOk}
use Rattle.hfs_serving.proofs.Going.{on_err}
use Rattle.hfs_serving.proofs.Hearing.{err_then}
use Rattle.hfs_serving.specs.Ending.{IsPutAway}
use Rattle.sector_disk.specs.Disk.{SameDisk}
use Rattle.hfs_serving.proofs.Grounding.{disks_both, same_disk}
use Rattle.hfs_serving.proofs.Answering.{begun_answers, no_end_of_memory, no_end_of_trouble}
use Rattle.hfs_language.specs.Lines.{lines}
use Rattle.hfs_serving.specs.Commits.{CommitsRun, WantsOver}
use Rattle.hfs_serving.proofs.Caused.{on_ok, run_behind, run_none}
use Rattle.hfs_serving.proofs.serving.serve_ready.Goals as goal

pub returns-in_err-store-clause-stretch : goal.returns-in_err-store-clause-stretch
returns-in_err-store-clause-stretch g c =
    let p = err_from_is_err_and c.from_residual.result c.from_residual.ensures.1 in (
      [],
      λ stay. told_nothing _ _ c.args.watchers.now.items stay,
      (
        [],
        λ told. has_none (g.S.Source.stream c.args.source.now),
        λ tells capacity most start now first versioned place ready sound turns. nothing_more (SpeaksFrom start (g.K.Speaker.spoke c.args.speaker.now) g.K.Speaker.broken) (none_begun start (g.K.Speaker.spoke c.args.speaker.now) g.K.Speaker.broken (g.met.K.Speaker.whole c.args.speaker.now)) capacity start now c.args.plan.now (g.R.SectorDisk.state first) (g.R.SectorDisk.state c.args.rig.now) versioned place turns,
      ),
      λ final. absurd (no_end_of_memory p.0 c.from_residual.result p.1 p.2 final),
    )

pub invariant_of-base : goal.invariant_of-base
invariant_of-base g c =
    let disk = c.args.rig.now in
    let attached = c.in_ok-store.ensures disk c.requires.fits in
    record {
      kept = λ none tells. let there = c.requires.ready tells in (keeps_on c.in_ok-store.store c.args.plan.now (g.R.SectorDisk.state disk) attached (g.met.R.SectorDisk.well_formed disk) tells there.0 there.1).1;
    }

pub attach_volume-requires-clause-serves : goal.attach_volume-requires-clause-serves
attach_volume-requires-clause-serves g c =
    let disk = c.args.rig.now in
    let attached = c.in_ok-store.ensures disk c.requires.fits in
    (in_service c.in_ok-store.store c.args.plan.now (g.R.SectorDisk.state disk) attached (g.met.R.SectorDisk.well_formed disk) c.requires.ready c.capacity-capacity.result c.capacity-capacity.ensures, ap length attached.nothing)

pub attach_volume-requires-clause-room : goal.attach_volume-requires-clause-room
attach_volume-requires-clause-room g c = (c.in_ok-store.ensures c.args.rig.now c.requires.fits).room c.capacity-capacity.result c.capacity-capacity.ensures

pub attach_volume-requires-clause-stands : goal.attach_volume-requires-clause-stands
attach_volume-requires-clause-stands g c tells_space_now =
    let disk = c.args.rig.now in
    let d0 = g.R.SectorDisk.state disk in
    let store = c.in_ok-store.store in
    let attached = c.in_ok-store.ensures disk c.requires.fits in
    let tells = told_disk c.store-3-1.given.0 c.base-1.given store d0 tells_space_now in
    let there = c.requires.ready tells in
    (there.0, may_attach store c.args.plan.now d0 attached (g.met.R.SectorDisk.well_formed disk) tells there.0 there.1 c.aside_is_free.ensures there.2 c.store-3-1.given.0 c.base-1.given)

pub returns-in_err-volume-clause-stretch : goal.returns-in_err-volume-clause-stretch
returns-in_err-volume-clause-stretch g c =
    let disk = c.args.rig.now in
    let d0 = g.R.SectorDisk.state disk in
    let plan = c.args.plan.now in
    let store = c.in_ok-store.store in
    let attached = c.in_ok-store.ensures disk c.requires.fits in
    let base = c.attach_volume.new.base in
    let names = ap (λ (a : Anchor). a.names) c.attach_volume.ensures.anchor in
    let rig_is = c.in_err-volume.rig-1-own.given.1 (sym (ap (λ (l : List ℕ). get_or l 1 0) names)) in
    let p = err_from_is_err_and c.from_residual-in_err-volume.result c.from_residual-in_err-volume.ensures.1 in (
      [],
      λ stay. told_nothing _ _ c.args.watchers.now.items stay,
      (
        [],
        λ told. has_none (g.S.Source.stream c.args.source.now),
        λ tells capacity most start now first versioned place ready sound turns.
            let is = g.met.R.SectorDisk.well_formed disk in
            let may = may_attach store plan d0 attached is tells now ready c.aside_is_free.ensures sound c.store-3-1.given.0 c.base-1.given in
            let space_tells = tells_space store plan d0 attached is tells now ready c.store-3-1.given.0 c.base-1.given in
            subst (λ (r : g.row.R.Denot). CrashesSpoken (SpeaksFrom start (g.K.Speaker.spoke c.args.speaker.now) g.K.Speaker.broken) [] capacity start None (outside_of plan (g.R.SectorDisk.state first)) [] (outside_of plan (g.R.SectorDisk.state r))) (sym rig_is)
            (begin_stopped (SpeaksFrom start (g.K.Speaker.spoke c.args.speaker.now) g.K.Speaker.broken) (none_begun start (g.K.Speaker.spoke c.args.speaker.now) g.K.Speaker.broken (g.met.K.Speaker.whole c.args.speaker.now)) capacity start now plan (g.R.SectorDisk.state first) d0 versioned place turns (plan_of store) (plan_of base.store.now) (finds_ready store plan d0 attached) (ap (λ (a : Anchor). a.journal) c.attach_volume.ensures.anchor) (g.R.SectorDisk.state base.disk.now)
            (c.attach_volume.ensures.may space_tells now may)),
      ),
      λ final. absurd (no_end_of_trouble _ p.0 c.from_residual-in_err-volume.result p.1 p.2 final),
    )

pub run-requires-clause-stands : goal.run-requires-clause-stands
run-requires-clause-stands g c tells_mid =
    let disk = c.args.rig.now in
    let d0 = g.R.SectorDisk.state disk in
    let store = c.in_ok-store.store in
    let attached = c.in_ok-store.ensures disk c.requires.fits in
    let space_tells = subst (λ t. IsTrue t) c.in_ok-volume.ensures.tells tells_mid in
    let tells = told_disk c.store-3-1.given.0 c.base-1.given store d0 space_tells in
    let there = c.requires.ready tells in
    let may = may_attach store c.args.plan.now d0 attached (g.met.R.SectorDisk.well_formed disk) tells there.0 there.1 c.aside_is_free.ensures there.2 c.store-3-1.given.0 c.base-1.given in
    let begins = c.in_ok-volume.ensures.begins space_tells there.0 may in
    (c.capacity-capacity.result, begins.begun, None, begins.stands)

pub returns-clause-stretch : goal.returns-clause-stretch
returns-clause-stretch g c =
    let disk = c.args.rig.now in
    let d0 = g.R.SectorDisk.state disk in
    let plan = c.args.plan.now in
    let store = c.in_ok-store.store in
    let attached = c.in_ok-store.ensures disk c.requires.fits in
    let base = c.attach_volume.new.base in
    let last = c.run.new.base in
    let names = c.run.ensures.names ∙ ap (λ (a : Anchor). a.names) c.attach_volume.ensures.anchor in
    let rig_is = c.rig-2-1.given.1 (sym (ap (λ (l : List ℕ). get_or l 1 0) names)) in
    let heard = c.run.ensures.stretch.0 in
    let stretch = c.run.ensures.stretch.2 in (
      heard,
      c.run.ensures.stretch.1,
      (
        stretch.0,
        stretch.1,
        λ tells capacity most start now first versioned place ready sound turns.
            let is = g.met.R.SectorDisk.well_formed disk in
            let mine = c.capacity-capacity.result in
            let may = may_attach store plan d0 attached is tells now ready c.aside_is_free.ensures sound c.store-3-1.given.0 c.base-1.given in
            let space_tells = tells_space store plan d0 attached is tells now ready c.store-3-1.given.0 c.base-1.given in
            let begins = c.in_ok-volume.ensures.begins space_tells now may in
            let base_tells = subst (λ t. IsTrue t) (sym c.in_ok-volume.ensures.tells) space_tells in
            let space = seen g.R.SectorDisk.state base in
            subst (λ (r : g.row.R.Denot). CrashesSpoken (SpeaksFrom start (g.K.Speaker.spoke c.args.speaker.now) g.K.Speaker.broken) heard capacity start None (outside_of plan (g.R.SectorDisk.state first)) (held most_bytes stretch.0) (outside_of plan (g.R.SectorDisk.state r))) (sym rig_is)
            (subst (λ n. CrashesSpoken (SpeaksFrom start (g.K.Speaker.spoke c.args.speaker.now) g.K.Speaker.broken) heard n start None (outside_of plan (g.R.SectorDisk.state first)) (held most_bytes stretch.0) (outside_of plan (g.R.SectorDisk.state last.disk.now))) (capacity_ready store plan d0 attached capacity mine most c.capacity-capacity.ensures)
            (begun_goes_on (SpeaksFrom start (g.K.Speaker.spoke c.args.speaker.now) g.K.Speaker.broken) (none_begun start (g.K.Speaker.spoke c.args.speaker.now) g.K.Speaker.broken (g.met.K.Speaker.whole c.args.speaker.now)) mine start now plan (g.R.SectorDisk.state first) d0 versioned place turns (plan_of store) (plan_of base.store.now) (finds_ready store plan d0 attached) (ap (λ (a : Anchor). a.journal) c.attach_volume.ensures.anchor) heard (λ begun. Speaks 0 begun (g.K.Speaker.spoke c.args.speaker.now) g.K.Speaker.broken) (λ begun tree speech speaks. (begun, tree, speaks))
            (g.R.SectorDisk.state base.disk.now) (g.R.SectorDisk.state last.disk.now) (held most_bytes stretch.0) (g.V.Volume.knows c.in_ok-volume.volume space mine) space begins (stretch.2 base_tells mine begins.begun begins.stands))),
      ),
      λ final.
          let answers = c.run.ensures.stretch.3 final in (
            answers.0,
            answers.1,
            answers.2,
            λ tells capacity most start now first versioned place ready sound turns.
                let is = g.met.R.SectorDisk.well_formed disk in
                let mine = c.capacity-capacity.result in
                let may = may_attach store plan d0 attached is tells now ready c.aside_is_free.ensures sound c.store-3-1.given.0 c.base-1.given in
                let space_tells = tells_space store plan d0 attached is tells now ready c.store-3-1.given.0 c.base-1.given in
                let begins = c.in_ok-volume.ensures.begins space_tells now may in
                let base_tells = subst (λ t. IsTrue t) (sym c.in_ok-volume.ensures.tells) space_tells in
                let space = seen g.R.SectorDisk.state base in
                subst (λ (r : g.row.R.Denot). AnswersSpoken (SpeaksFrom start (g.K.Speaker.spoke c.args.speaker.now) (g.K.Speaker.spoke c.run.new.speaker)) heard capacity start None (outside_of plan (g.R.SectorDisk.state first)) (held most_bytes answers.0) (outside_of plan (g.R.SectorDisk.state r))) (sym rig_is)
                (subst (λ n. AnswersSpoken (SpeaksFrom start (g.K.Speaker.spoke c.args.speaker.now) (g.K.Speaker.spoke c.run.new.speaker)) heard n start None (outside_of plan (g.R.SectorDisk.state first)) (held most_bytes answers.0) (outside_of plan (g.R.SectorDisk.state last.disk.now))) (capacity_ready store plan d0 attached capacity mine most c.capacity-capacity.ensures)
                (begun_answers (SpeaksFrom start (g.K.Speaker.spoke c.args.speaker.now) (g.K.Speaker.spoke c.run.new.speaker)) heard mine start now (λ begun. Speaks 0 begun (g.K.Speaker.spoke c.args.speaker.now) (g.K.Speaker.spoke c.run.new.speaker)) (λ begun tree speech speaks. (begun, tree, speaks)) plan (g.R.SectorDisk.state first) d0 versioned place turns (plan_of store) (plan_of base.store.now) (finds_ready store plan d0 attached) (ap (λ (a : Anchor). a.journal) c.attach_volume.ensures.anchor)
                (g.R.SectorDisk.state base.disk.now) (g.R.SectorDisk.state last.disk.now) (held most_bytes answers.0) (g.V.Volume.knows c.in_ok-volume.volume space mine) space begins (answers.3 base_tells mine begins.begun begins.stands))),
          ),
    )

pub returns-in_err-store-clause-faults : goal.returns-in_err-store-clause-faults
returns-in_err-store-clause-faults g c =
    let p = err_from_is_err_and c.from_residual.result c.from_residual.ensures.1 in
    let s = g.R.SectorDisk.state c.args.rig.now in
    rig_memory s s s (omega arith) (omega arith) (Rose (g.S.Source.stream c.args.source.now).faults (g.S.Source.stream c.args.source.now).faults) p.0 c.from_residual.result p.1 p.2

pub returns-in_err-volume-clause-faults : goal.returns-in_err-volume-clause-faults
returns-in_err-volume-clause-faults g c =
    let p = err_from_is_err_and c.from_residual-in_err-volume.result c.from_residual-in_err-volume.ensures.1 in
    let disk = c.args.rig.now in
    let d0 = g.R.SectorDisk.state disk in
    let base = c.attach_volume.new.base in
    let names = ap (λ (a : Anchor). a.names) c.attach_volume.ensures.anchor in
    let rig_is = c.in_err-volume.rig-1-own.given.1 (sym (ap (λ (l : List ℕ). get_or l 1 0) names)) in
    let source = Rose (g.S.Source.stream c.args.source.now).faults (g.S.Source.stream c.args.source.now).faults in
    subst (λ (r : g.row.R.Denot). RigFaults d0 (g.R.SectorDisk.state r) source c.from_residual-in_err-volume.result) (sym rig_is)
    (rig_from d0 (g.R.SectorDisk.state base.disk.now) (over c.store-3-1.given.0 c.base-1.given c.in_ok-store.store d0) (seen g.R.SectorDisk.state base) refl refl refl refl (c.in_ok-store.ensures disk c.requires.fits).no_fault
    (handed_stop (counts_none _ _) source _ p.0 c.from_residual-in_err-volume.result c.in_err-volume.ensures.faults p.1 p.2))

pub returns-clause-faults : goal.returns-clause-faults
returns-clause-faults g c =
    let disk = c.args.rig.now in
    let d0 = g.R.SectorDisk.state disk in
    let last = c.run.new.base in
    let names = c.run.ensures.names ∙ ap (λ (a : Anchor). a.names) c.attach_volume.ensures.anchor in
    let rig_is = c.rig-2-1.given.1 (sym (ap (λ (l : List ℕ). get_or l 1 0) names)) in
    let source = Rose (g.S.Source.stream c.args.source.now).faults (g.S.Source.stream c.run.new.source).faults in
    subst (λ (r : g.row.R.Denot). RigFaults d0 (g.R.SectorDisk.state r) source c.run.result) (sym rig_is)
    (rig_from d0 (g.R.SectorDisk.state last.disk.now) (over c.store-3-1.given.0 c.base-1.given c.in_ok-store.store d0) (seen g.R.SectorDisk.state last) refl refl refl refl (c.in_ok-store.ensures disk c.requires.fits).no_fault
    (behind_stop c.attach_volume.ensures.faults.counts source source c.run.result (λ rose. rose) c.run.ensures.faults))

pub returns-in_err-store-clause-many : goal.returns-in_err-store-clause-many
returns-in_err-store-clause-many g c told is =
    let p = err_from_is_err_and c.from_residual.result c.from_residual.ensures.1 in
    absurd (no_memory p.0 c.from_residual.result p.1 p.2 is)

pub returns-in_err-volume-clause-many : goal.returns-in_err-volume-clause-many
returns-in_err-volume-clause-many g c told is =
    let p = err_from_is_err_and c.from_residual-in_err-volume.result c.from_residual-in_err-volume.ensures.1 in
    absurd (no_trouble _ p.0 c.from_residual-in_err-volume.result p.1 p.2 is)

pub returns-clause-away : goal.returns-clause-away
returns-clause-away g c tells =
    let disk = c.args.rig.now in
    let d0 = g.R.SectorDisk.state disk in
    let store = c.in_ok-store.store in
    let attached = c.in_ok-store.ensures disk c.requires.fits in
    let last = c.run.new.base in
    let there = c.requires.ready tells in
    let names = c.run.ensures.names ∙ ap (λ (a : Anchor). a.names) c.attach_volume.ensures.anchor in
    let rig_is = c.rig-2-1.given.1 (sym (ap (λ (l : List ℕ). get_or l 1 0) names)) in
    let space_tells = tells_space store c.args.plan.now d0 attached (g.met.R.SectorDisk.well_formed disk) tells there.0 there.1 c.store-3-1.given.0 c.base-1.given in
    subst (λ (r : g.row.R.Denot). OnOk c.run.result (IsPutAway (g.R.SectorDisk.state r))) (sym rig_is) (c.run.ensures.away (subst (λ t. IsTrue t) (sym c.in_ok-volume.ensures.tells) space_tells))

pub returns-in_err-store-clause-same : goal.returns-in_err-store-clause-same
returns-in_err-store-clause-same g c = record { tells = refl; tells_left = refl; names = refl; sectors = refl }

pub returns-in_err-volume-clause-same : goal.returns-in_err-volume-clause-same
returns-in_err-volume-clause-same g c =
    let d0 = g.R.SectorDisk.state c.args.rig.now in
    let names = ap (λ (a : Anchor). a.names) c.attach_volume.ensures.anchor in
    let rig_is = c.in_err-volume.rig-1-own.given.1 (sym (ap (λ (l : List ℕ). get_or l 1 0) names)) in
    subst (λ (r : g.row.R.Denot). SameDisk d0 (g.R.SectorDisk.state r)) (sym rig_is) (same_disk (ap (λ (a : Anchor). a.rig) c.attach_volume.ensures.anchor))

pub returns-clause-same : goal.returns-clause-same
returns-clause-same g c =
    let d0 = g.R.SectorDisk.state c.args.rig.now in
    let names = c.run.ensures.names ∙ ap (λ (a : Anchor). a.names) c.attach_volume.ensures.anchor in
    let rig_is = c.rig-2-1.given.1 (sym (ap (λ (l : List ℕ). get_or l 1 0) names)) in
    subst (λ (r : g.row.R.Denot). SameDisk d0 (g.R.SectorDisk.state r)) (sym rig_is) (disks_both (same_disk (ap (λ (a : Anchor). a.rig) c.attach_volume.ensures.anchor)) c.run.ensures.same)

pub returns-clause-commits : goal.returns-clause-commits
returns-clause-commits g c tells =
    let disk = c.args.rig.now in
    let d0 = g.R.SectorDisk.state disk in
    let store = c.in_ok-store.store in
    let attached = c.in_ok-store.ensures disk c.requires.fits in
    let there = c.requires.ready tells in
    let names = c.run.ensures.names ∙ ap (λ (a : Anchor). a.names) c.attach_volume.ensures.anchor in
    let rig_is = c.rig-2-1.given.1 (sym (ap (λ (l : List ℕ). get_or l 1 0) names)) in
    let space_tells = tells_space store c.args.plan.now d0 attached (g.met.R.SectorDisk.well_formed disk) tells there.0 there.1 c.store-3-1.given.0 c.base-1.given in
    subst (λ (r : g.row.R.Denot). OnOk c.run.result ((count : ℕ) × (IsTrue (g.S.Source.stream c.args.source.now).tells → count ≡ length (lines (g.S.Source.stream c.args.source.now).left)) × CommitsRun (WantsOver g.V.Volume.wants g.R.SectorDisk.state) g.K.Speaker.often 4 1 count d0.barriers (g.R.SectorDisk.state r).barriers)) (sym rig_is)
    (on_ok _ _ c.run.result (λ served. (served.0, served.1, run_behind _ g.K.Speaker.often 0 4 1 served.0 d0.barriers _ _ served.2 c.attach_volume.ensures.barriers)) (c.run.ensures.commits (subst (λ t. IsTrue t) (sym c.in_ok-volume.ensures.tells) space_tells)))

pub returns-in_err-store-clause-cut : goal.returns-in_err-store-clause-cut
returns-in_err-store-clause-cut g c tells = on_err c.from_residual.result (0, λ told. omega arith, run_none _ g.K.Speaker.often 4 2 _ _ (omega arith))

pub returns-in_err-volume-clause-cut : goal.returns-in_err-volume-clause-cut
returns-in_err-volume-clause-cut g c tells =
    let d0 = g.R.SectorDisk.state c.args.rig.now in
    let names = ap (λ (a : Anchor). a.names) c.attach_volume.ensures.anchor in
    let rig_is = c.in_err-volume.rig-1-own.given.1 (sym (ap (λ (l : List ℕ). get_or l 1 0) names)) in
    let source = g.S.Source.stream c.args.source.now in
    on_err c.from_residual-in_err-volume.result
    (subst (λ (r : g.row.R.Denot). (count : ℕ) × (IsTrue source.tells → count ≤ length (lines source.left)) × CommitsRun (WantsOver g.V.Volume.wants g.R.SectorDisk.state) g.K.Speaker.often 4 2 count d0.barriers (g.R.SectorDisk.state r).barriers) (sym rig_is)
    (0, λ told. omega arith, run_none _ g.K.Speaker.often 4 2 _ _ c.attach_volume.ensures.barriers))

pub returns-clause-cut : goal.returns-clause-cut
returns-clause-cut g c tells =
    let disk = c.args.rig.now in
    let d0 = g.R.SectorDisk.state disk in
    let store = c.in_ok-store.store in
    let attached = c.in_ok-store.ensures disk c.requires.fits in
    let there = c.requires.ready tells in
    let names = c.run.ensures.names ∙ ap (λ (a : Anchor). a.names) c.attach_volume.ensures.anchor in
    let rig_is = c.rig-2-1.given.1 (sym (ap (λ (l : List ℕ). get_or l 1 0) names)) in
    let space_tells = tells_space store c.args.plan.now d0 attached (g.met.R.SectorDisk.well_formed disk) tells there.0 there.1 c.store-3-1.given.0 c.base-1.given in
    subst (λ (r : g.row.R.Denot). OnErr c.run.result ((count : ℕ) × (IsTrue (g.S.Source.stream c.args.source.now).tells → count ≤ length (lines (g.S.Source.stream c.args.source.now).left)) × CommitsRun (WantsOver g.V.Volume.wants g.R.SectorDisk.state) g.K.Speaker.often 4 2 count d0.barriers (g.R.SectorDisk.state r).barriers)) (sym rig_is)
    (err_then c.run.result (λ served. (served.0, served.1, run_behind _ g.K.Speaker.often 0 4 2 served.0 d0.barriers _ _ served.2 c.attach_volume.ensures.barriers)) (c.run.ensures.cut (subst (λ t. IsTrue t) (sym c.in_ok-volume.ensures.tells) space_tells)))
