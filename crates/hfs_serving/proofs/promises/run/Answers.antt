use Rattle.std.proofs.Common.{◌≡◌, [], ℕ, List, length, refl, sym, ◌∙◌, ap, subst, arith}
use Rattle.std.specs.Prelude.{None, IsTrue}
use Rattle.jnl_store.specs.Seen.{seen}
use Rattle.jnl_store.specs.Store.{plan_of}
use Rattle.volume_runs.specs.Run.{shrunk_in}
use Rattle.hfs_serving.specs.Grounds.{Anchor}
use Rattle.hfs_serving.specs.Outside.{outside_of}
use Rattle.hfs_language.specs.Language.{most_bytes}
use Rattle.line_source.specs.Batch.{held}
use Rattle.hfs_serving.specs.Speaking.{Speaks}
use Rattle.hfs_serving.proofs.Speeches.{none_said, speaks_more}
use Rattle.hfs_serving.specs.Taking.{HasTaken}
use Rattle.hfs_serving.proofs.Promising.{crash_keeps, crash_seen, finish_ends, finish_spoken, has_all, has_none, none_behind}
use Rattle.hfs_serving.proofs.Stepping.{none_there}
use Rattle.watchers.proofs.Tellings.{told_nothing}
use Rattle.line_source.specs.Input.{TakesLines}
use Rattle.line_source.proofs.Cuts.{all_taken}
use Rattle.std.proofs.lemmas.Result.{err_from_is_err_and}
use Rattle.hfs_serving.proofs.Going.{on_err}
use Rattle.hfs_serving.proofs.Causes.{counts_both, counts_none, fine_stop, handed_on, handed_stop, other_stop}
use Rattle.sector_disk.specs.Cause.{Rose}
use Rattle.line_source.specs.Input.{ahead}
use Rattle.std.specs.Prelude.{◌≤◌, ◌<◌}
use Rattle.hfs_language.specs.Lines.{lines}
use Rattle.hfs_serving.proofs.Numbering.{no_memory, no_trouble, too_many}
use Rattle.std.specs.Prelude.{Some}
use Rattle.hfs_serving.specs.Ending.{EndsTaking}
use Rattle.hfs_serving.proofs.Grounding.{disks_both, same_disk}
use Rattle.hfs_serving.proofs.Answering.{answers_finish, answers_seen, handed_answers, no_end_of_memory, no_end_of_trouble}
use Rattle.hfs_serving.proofs.Caused.{batches_more, batches_wider, run_none}
use Rattle.hfs_serving.proofs.promises.run.Goals as goal

pub returns-in_err-input-clause-promises : goal.returns-in_err-input-clause-promises
returns-in_err-input-clause-promises g c = (
  [],
  λ stay. told_nothing _ _ c.args.watchers.now.items stay,
  λ tells capacity start stands sound may.
      let base = c.args.base.now in
      let plan = plan_of base.store.now in
      let old = g.R.SectorDisk.state base.disk.now in
      let space = seen g.R.SectorDisk.state base in
      let knows = g.V.Volume.knows c.args.volume.now space capacity in
      let source = g.S.Source.stream c.args.source.now in
      crash_keeps c.aside_is_free.ensures capacity start plan (plan_of base.store.now) old (g.R.SectorDisk.state base.disk.now) [] knows space refl (g.met.R.SectorDisk.only_now base.disk.now) stands sound may source source
      (λ told. has_none source) (none_there capacity None start (outside_of plan old) [] (Speaks 0 start (g.K.Speaker.spoke c.args.speaker.now) g.K.Speaker.broken) knows space (none_said start (g.K.Speaker.spoke c.args.speaker.now) g.K.Speaker.broken (g.met.K.Speaker.whole c.args.speaker.now)) stands),
)

pub serve_source-requires-clause-serves : goal.serve_source-requires-clause-serves
serve_source-requires-clause-serves g c = let there = c.requires.serves in let none = ap length there.2 in (there.0, there.1, omega (arith, none))

pub returns-in_err-serve_source-clause-promises : goal.returns-in_err-serve_source-clause-promises
returns-in_err-serve_source-clause-promises g c = (
  c.in_err-serve_source.ensures.serves.0,
  c.in_err-serve_source.ensures.serves.1,
  λ tells capacity start stands sound may.
      let base = c.args.base.now in
      let plan = plan_of base.store.now in
      let old = g.R.SectorDisk.state base.disk.now in
      let space = seen g.R.SectorDisk.state base in
      let knows = g.V.Volume.knows c.args.volume.now space capacity in
      let source = g.S.Source.stream c.args.source.now in
      let mid = c.serve_source.new.base in
      let source_new = g.S.Source.stream c.serve_source.new.source in
      let stopped = c.in_err-serve_source.ensures.serves.2 in
      crash_keeps c.aside_is_free.ensures capacity start plan (plan_of mid.store.now) old (g.R.SectorDisk.state mid.disk.now) stopped.0 knows space (ap (λ (a : Anchor). a.journal) c.serve_source.ensures.anchor) (g.met.R.SectorDisk.only_now base.disk.now) stands sound may source source_new
      (λ told. subst (λ (l : List ℕ). HasTaken l source stopped.0 source_new) c.in_ok-input.ensures (stopped.1 told)) (stopped.2 tells capacity start None stands),
)

pub finish-requires-clause-serves : goal.finish-requires-clause-serves
finish-requires-clause-serves g c =
    let there = c.requires.serves in
    let none = ap length there.2 in
    (there.0, (c.in_ok-serve_source.ensures.still there.0 there.1 (omega (arith, none))).0, c.in_ok-serve_source.ensures.nothing there.0 there.1 none)

pub finish-requires-clause-stands : goal.finish-requires-clause-stands
finish-requires-clause-stands g c tells_mid =
    let tells = subst (λ t. IsTrue t) c.in_ok-serve_source.ensures.tells tells_mid in
    let there = c.requires.stands tells in
    let step = c.in_ok-serve_source.ensures.serves.3.2 tells there.0 there.1 there.2 there.3 in
    (there.0, step.now, shrunk_in there.2 step.speech.run, step.stands)

pub returns-in_err-finish-clause-promises : goal.returns-in_err-finish-clause-promises
returns-in_err-finish-clause-promises g c = (
  c.in_ok-serve_source.ensures.serves.0,
  c.in_ok-serve_source.ensures.serves.1,
  λ tells capacity start stands sound may.
      let base = c.args.base.now in
      let plan = plan_of base.store.now in
      let old = g.R.SectorDisk.state base.disk.now in
      let space = seen g.R.SectorDisk.state base in
      let knows = g.V.Volume.knows c.args.volume.now space capacity in
      let source = g.S.Source.stream c.args.source.now in
      let mid = c.serve_source.new.base in
      let source_new = g.S.Source.stream c.serve_source.new.source in
      let end = c.finish.new.base in
      let space_mid = seen g.R.SectorDisk.state mid in
      let out_mid = outside_of (plan_of mid.store.now) (g.R.SectorDisk.state mid.disk.now) in
      let out_end = outside_of (plan_of end.store.now) (g.R.SectorDisk.state end.disk.now) in
      let knows_mid = g.V.Volume.knows c.serve_source.new.volume space_mid capacity in
      let served = c.in_ok-serve_source.ensures.serves.3 in
      let step = served.2 tells capacity start None stands in
      let tells_mid = subst (λ t. IsTrue t) (sym c.in_ok-serve_source.ensures.tells) tells in
      let takes = λ (told : IsTrue source.tells). subst (λ (l : List ℕ). TakesLines l source served.0 c.serve_source.new.input source_new) c.in_ok-input.ensures (served.1 told).0 in
      crash_keeps c.aside_is_free.ensures capacity start plan (plan_of end.store.now) old (g.R.SectorDisk.state end.disk.now) served.0 knows space (c.finish.ensures.anchor ∙ ap (λ (a : Anchor). a.journal) c.serve_source.ensures.anchor) (g.met.R.SectorDisk.only_now base.disk.now) stands sound may source source_new
      (λ told. has_all source source_new served.0 c.serve_source.new.input (takes told))
      (finish_spoken (Speaks 0 start (g.K.Speaker.spoke c.args.speaker.now) (g.K.Speaker.spoke c.serve_source.new.speaker)) (Speaks 0 start (g.K.Speaker.spoke c.args.speaker.now) g.K.Speaker.broken) c.in_ok-serve_source.ensures.serves.0 capacity start (outside_of plan old) out_mid out_end (held most_bytes served.0) (length served.0) knows_mid space_mid (λ speech. speaks_more 0 start (g.K.Speaker.spoke c.args.speaker.now) (g.K.Speaker.spoke c.serve_source.new.speaker) g.K.Speaker.broken speech (g.met.K.Speaker.whole c.serve_source.new.speaker)) step (c.finish.ensures.crash tells_mid capacity step.now (shrunk_in None step.speech.run) step.stands)),
)

pub returns-clause-promises : goal.returns-clause-promises
returns-clause-promises g c = (
  c.in_ok-serve_source.ensures.serves.0,
  c.in_ok-serve_source.ensures.serves.1,
  λ tells capacity start stands sound may.
      let base = c.args.base.now in
      let plan = plan_of base.store.now in
      let old = g.R.SectorDisk.state base.disk.now in
      let space = seen g.R.SectorDisk.state base in
      let knows = g.V.Volume.knows c.args.volume.now space capacity in
      let source = g.S.Source.stream c.args.source.now in
      let mid = c.serve_source.new.base in
      let source_new = g.S.Source.stream c.serve_source.new.source in
      let end = c.finish.new.base in
      let space_mid = seen g.R.SectorDisk.state mid in
      let out_mid = outside_of (plan_of mid.store.now) (g.R.SectorDisk.state mid.disk.now) in
      let out_end = outside_of (plan_of end.store.now) (g.R.SectorDisk.state end.disk.now) in
      let knows_mid = g.V.Volume.knows c.serve_source.new.volume space_mid capacity in
      let served = c.in_ok-serve_source.ensures.serves.3 in
      let step = served.2 tells capacity start None stands in
      let tells_mid = subst (λ t. IsTrue t) (sym c.in_ok-serve_source.ensures.tells) tells in
      let takes = λ (told : IsTrue source.tells). subst (λ (l : List ℕ). TakesLines l source served.0 c.serve_source.new.input source_new) c.in_ok-input.ensures (served.1 told).0 in
      crash_keeps c.aside_is_free.ensures capacity start plan (plan_of end.store.now) old (g.R.SectorDisk.state end.disk.now) served.0 knows space (c.finish.ensures.anchor ∙ ap (λ (a : Anchor). a.journal) c.serve_source.ensures.anchor) (g.met.R.SectorDisk.only_now base.disk.now) stands sound may source source_new
      (λ told. has_all source source_new served.0 c.serve_source.new.input (takes told))
      (finish_spoken (Speaks 0 start (g.K.Speaker.spoke c.args.speaker.now) (g.K.Speaker.spoke c.serve_source.new.speaker)) (Speaks 0 start (g.K.Speaker.spoke c.args.speaker.now) g.K.Speaker.broken) c.in_ok-serve_source.ensures.serves.0 capacity start (outside_of plan old) out_mid out_end (held most_bytes served.0) (length served.0) knows_mid space_mid (λ speech. speaks_more 0 start (g.K.Speaker.spoke c.args.speaker.now) (g.K.Speaker.spoke c.serve_source.new.speaker) g.K.Speaker.broken speech (g.met.K.Speaker.whole c.serve_source.new.speaker)) step (c.finish.ensures.crash tells_mid capacity step.now (shrunk_in None step.speech.run) step.stands)),
)

pub returns-clause-done : goal.returns-clause-done
returns-clause-done g c tells capacity start stands =
    let base = c.args.base.now in
    let plan = plan_of base.store.now in
    let old = g.R.SectorDisk.state base.disk.now in
    let source = g.S.Source.stream c.args.source.now in
    let mid = c.serve_source.new.base in
    let source_new = g.S.Source.stream c.serve_source.new.source in
    let end = c.finish.new.base in
    let space_mid = seen g.R.SectorDisk.state mid in
    let out_mid = outside_of (plan_of mid.store.now) (g.R.SectorDisk.state mid.disk.now) in
    let out_end = outside_of (plan_of end.store.now) (g.R.SectorDisk.state end.disk.now) in
    let knows_mid = g.V.Volume.knows c.serve_source.new.volume space_mid capacity in
    let served = c.in_ok-serve_source.ensures.serves.3 in
    let step = served.2 tells capacity start None stands in
    let tells_mid = subst (λ t. IsTrue t) (sym c.in_ok-serve_source.ensures.tells) tells in
    let takes = λ (told : IsTrue source.tells). subst (λ (l : List ℕ). TakesLines l source served.0 c.serve_source.new.input source_new) c.in_ok-input.ensures (served.1 told).0 in
    finish_ends (Speaks 0 start (g.K.Speaker.spoke c.args.speaker.now) (g.K.Speaker.spoke c.serve_source.new.speaker)) c.in_ok-serve_source.ensures.serves.0 capacity start (outside_of plan old) out_mid out_end served.0 knows_mid space_mid source (λ told. all_taken source served.0 c.serve_source.new.input source_new (takes told) (served.1 told).1) step
    (c.in_ok-finish.ensures.done tells_mid capacity step.now (shrunk_in None step.speech.run) step.stands)

pub returns-clause-end : goal.returns-clause-end
returns-clause-end g c told = none_behind c.serve_source.new.input (g.S.Source.stream c.serve_source.new.source) (c.in_ok-serve_source.ensures.serves.3.1 told).1

pub returns-in_err-input-clause-stretch : goal.returns-in_err-input-clause-stretch
returns-in_err-input-clause-stretch g c =
    let base = c.args.base.now in
    let plan = plan_of base.store.now in
    let old = g.R.SectorDisk.state base.disk.now in
    let space = seen g.R.SectorDisk.state base in
    let source = g.S.Source.stream c.args.source.now in
    let p = err_from_is_err_and c.from_residual.result c.from_residual.ensures.1 in (
      [],
      λ stay. told_nothing _ _ c.args.watchers.now.items stay,
      (
        [],
        λ told. has_none source,
        λ tells capacity start stands.
            let knows = g.V.Volume.knows c.args.volume.now space capacity in
            none_there capacity None start (outside_of plan old) [] (Speaks 0 start (g.K.Speaker.spoke c.args.speaker.now) g.K.Speaker.broken) knows space (none_said start (g.K.Speaker.spoke c.args.speaker.now) g.K.Speaker.broken (g.met.K.Speaker.whole c.args.speaker.now)) stands,
      ),
      λ final. absurd (no_end_of_memory p.0 c.from_residual.result p.1 p.2 final),
    )

pub returns-in_err-serve_source-clause-stretch : goal.returns-in_err-serve_source-clause-stretch
returns-in_err-serve_source-clause-stretch g c =
    let base = c.args.base.now in
    let plan = plan_of base.store.now in
    let old = g.R.SectorDisk.state base.disk.now in
    let source = g.S.Source.stream c.args.source.now in
    let mid = c.serve_source.new.base in
    let source_new = g.S.Source.stream c.serve_source.new.source in
    let stopped = c.in_err-serve_source.ensures.serves.2 in
    let p = err_from_is_err_and c.from_residual-in_err-serve_source.result c.from_residual-in_err-serve_source.ensures.1 in (
      c.in_err-serve_source.ensures.serves.0,
      c.in_err-serve_source.ensures.serves.1,
      (
        stopped.0,
        λ told. subst (λ (l : List ℕ). HasTaken l source stopped.0 source_new) c.in_ok-input.ensures (stopped.1 told),
        λ tells capacity start stands. crash_seen capacity start plan (plan_of mid.store.now) (outside_of plan old) (g.R.SectorDisk.state mid.disk.now) (held most_bytes stopped.0) (ap (λ (a : Anchor). a.journal) c.serve_source.ensures.anchor) (stopped.2 tells capacity start None stands),
      ),
      handed_answers c.in_err-serve_source.field-0.0 p.0 c.from_residual-in_err-serve_source.result _ [] source source_new p.1 p.2
          (λ final.
          let there = c.in_err-serve_source.ensures.serves.4 final in (
            there.0,
            λ told.
                let took = there.1 told in
                (subst (λ (l : List ℕ). HasTaken l source there.0 source_new) c.in_ok-input.ensures took.0, subst (λ (l : List ℕ). EndsTaking (Some c.in_err-serve_source.field-0.0) l source there.0 source_new) c.in_ok-input.ensures took.1),
            there.2,
            λ tells capacity start stands.
                answers_seen capacity start plan (plan_of mid.store.now) (outside_of plan old) (g.R.SectorDisk.state mid.disk.now) (held most_bytes there.0) (ap (λ (a : Anchor). a.journal) c.serve_source.ensures.anchor) (there.3 tells capacity start None stands),
          )),
    )

pub returns-in_err-finish-clause-stretch : goal.returns-in_err-finish-clause-stretch
returns-in_err-finish-clause-stretch g c =
    let base = c.args.base.now in
    let plan = plan_of base.store.now in
    let old = g.R.SectorDisk.state base.disk.now in
    let source = g.S.Source.stream c.args.source.now in
    let mid = c.serve_source.new.base in
    let source_new = g.S.Source.stream c.serve_source.new.source in
    let end = c.finish.new.base in
    let space_mid = seen g.R.SectorDisk.state mid in
    let out_mid = outside_of (plan_of mid.store.now) (g.R.SectorDisk.state mid.disk.now) in
    let out_end = outside_of (plan_of end.store.now) (g.R.SectorDisk.state end.disk.now) in
    let served = c.in_ok-serve_source.ensures.serves.3 in
    let p = err_from_is_err_and c.from_residual-in_err-finish.result c.from_residual-in_err-finish.ensures.1 in (
      c.in_ok-serve_source.ensures.serves.0,
      c.in_ok-serve_source.ensures.serves.1,
      (
        served.0,
        λ told. has_all source source_new served.0 c.serve_source.new.input (subst (λ (l : List ℕ). TakesLines l source served.0 c.serve_source.new.input source_new) c.in_ok-input.ensures (served.1 told).0),
        λ tells capacity start stands.
            let knows_mid = g.V.Volume.knows c.serve_source.new.volume space_mid capacity in
            let step = served.2 tells capacity start None stands in
            let tells_mid = subst (λ t. IsTrue t) (sym c.in_ok-serve_source.ensures.tells) tells in
            crash_seen capacity start plan (plan_of end.store.now) (outside_of plan old) (g.R.SectorDisk.state end.disk.now) (held most_bytes served.0) (c.finish.ensures.anchor ∙ ap (λ (a : Anchor). a.journal) c.serve_source.ensures.anchor)
            (finish_spoken (Speaks 0 start (g.K.Speaker.spoke c.args.speaker.now) (g.K.Speaker.spoke c.serve_source.new.speaker)) (Speaks 0 start (g.K.Speaker.spoke c.args.speaker.now) g.K.Speaker.broken) c.in_ok-serve_source.ensures.serves.0 capacity start (outside_of plan old) out_mid out_end (held most_bytes served.0) (length served.0) knows_mid space_mid (λ speech. speaks_more 0 start (g.K.Speaker.spoke c.args.speaker.now) (g.K.Speaker.spoke c.serve_source.new.speaker) g.K.Speaker.broken speech (g.met.K.Speaker.whole c.serve_source.new.speaker)) step (c.finish.ensures.crash tells_mid capacity step.now (shrunk_in None step.speech.run) step.stands)),
      ),
      λ final. absurd (no_end_of_trouble _ p.0 c.from_residual-in_err-finish.result p.1 p.2 final),
    )

pub returns-clause-stretch : goal.returns-clause-stretch
returns-clause-stretch g c =
    let base = c.args.base.now in
    let plan = plan_of base.store.now in
    let old = g.R.SectorDisk.state base.disk.now in
    let source = g.S.Source.stream c.args.source.now in
    let mid = c.serve_source.new.base in
    let source_new = g.S.Source.stream c.serve_source.new.source in
    let end = c.finish.new.base in
    let space_mid = seen g.R.SectorDisk.state mid in
    let out_mid = outside_of (plan_of mid.store.now) (g.R.SectorDisk.state mid.disk.now) in
    let out_end = outside_of (plan_of end.store.now) (g.R.SectorDisk.state end.disk.now) in
    let served = c.in_ok-serve_source.ensures.serves.3 in
    let takes = λ (told : IsTrue source.tells). subst (λ (l : List ℕ). TakesLines l source served.0 c.serve_source.new.input source_new) c.in_ok-input.ensures (served.1 told).0 in (
      c.in_ok-serve_source.ensures.serves.0,
      c.in_ok-serve_source.ensures.serves.1,
      (
        served.0,
        λ told. has_all source source_new served.0 c.serve_source.new.input (subst (λ (l : List ℕ). TakesLines l source served.0 c.serve_source.new.input source_new) c.in_ok-input.ensures (served.1 told).0),
        λ tells capacity start stands.
            let knows_mid = g.V.Volume.knows c.serve_source.new.volume space_mid capacity in
            let step = served.2 tells capacity start None stands in
            let tells_mid = subst (λ t. IsTrue t) (sym c.in_ok-serve_source.ensures.tells) tells in
            crash_seen capacity start plan (plan_of end.store.now) (outside_of plan old) (g.R.SectorDisk.state end.disk.now) (held most_bytes served.0) (c.finish.ensures.anchor ∙ ap (λ (a : Anchor). a.journal) c.serve_source.ensures.anchor)
            (finish_spoken (Speaks 0 start (g.K.Speaker.spoke c.args.speaker.now) (g.K.Speaker.spoke c.serve_source.new.speaker)) (Speaks 0 start (g.K.Speaker.spoke c.args.speaker.now) g.K.Speaker.broken) c.in_ok-serve_source.ensures.serves.0 capacity start (outside_of plan old) out_mid out_end (held most_bytes served.0) (length served.0) knows_mid space_mid (λ speech. speaks_more 0 start (g.K.Speaker.spoke c.args.speaker.now) (g.K.Speaker.spoke c.serve_source.new.speaker) g.K.Speaker.broken speech (g.met.K.Speaker.whole c.serve_source.new.speaker)) step (c.finish.ensures.crash tells_mid capacity step.now (shrunk_in None step.speech.run) step.stands)),
      ),
      λ final. (
        served.0,
        λ told. (has_all source source_new served.0 c.serve_source.new.input (takes told), all_taken source served.0 c.serve_source.new.input source_new (takes told) (served.1 told).1),
        λ many. absurd (cc many),
        λ tells capacity start stands.
            let knows_mid = g.V.Volume.knows c.serve_source.new.volume space_mid capacity in
            let step = served.2 tells capacity start None stands in
            let tells_mid = subst (λ t. IsTrue t) (sym c.in_ok-serve_source.ensures.tells) tells in
            answers_seen capacity start plan (plan_of end.store.now) (outside_of plan old) (g.R.SectorDisk.state end.disk.now) (held most_bytes served.0) (c.finish.ensures.anchor ∙ ap (λ (a : Anchor). a.journal) c.serve_source.ensures.anchor)
            (answers_finish (Speaks 0 start (g.K.Speaker.spoke c.args.speaker.now) (g.K.Speaker.spoke c.serve_source.new.speaker)) c.in_ok-serve_source.ensures.serves.0 capacity start (outside_of plan old) out_mid out_end served.0 knows_mid space_mid step (c.in_ok-finish.ensures.done tells_mid capacity step.now (shrunk_in None step.speech.run) step.stands)),
      ),
    )

pub returns-in_err-serve_source-clause-names : goal.returns-in_err-serve_source-clause-names
returns-in_err-serve_source-clause-names g c = ap (λ (a : Anchor). a.names) c.serve_source.ensures.anchor

pub returns-in_err-finish-clause-names : goal.returns-in_err-finish-clause-names
returns-in_err-finish-clause-names g c = c.finish.ensures.names ∙ ap (λ (a : Anchor). a.names) c.serve_source.ensures.anchor

pub returns-clause-names : goal.returns-clause-names
returns-clause-names g c = c.finish.ensures.names ∙ ap (λ (a : Anchor). a.names) c.serve_source.ensures.anchor

pub returns-in_err-input-clause-faults : goal.returns-in_err-input-clause-faults
returns-in_err-input-clause-faults g c =
    let p = err_from_is_err_and c.from_residual.result c.from_residual.ensures.1 in
    let source = (g.S.Source.stream c.args.source.now).faults in
    other_stop (counts_none _ _) (Rose source source) p.0 c.from_residual.result p.1 (λ is. absurd (cc (p.2, is))) (λ is. absurd (cc (p.2, is))) (λ is. absurd (cc (p.2, is)))

pub returns-in_err-serve_source-clause-faults : goal.returns-in_err-serve_source-clause-faults
returns-in_err-serve_source-clause-faults g c =
    let p = err_from_is_err_and c.from_residual-in_err-serve_source.result c.from_residual-in_err-serve_source.ensures.1 in
    handed_on (counts_none _ _) (Rose (g.S.Source.stream c.args.source.now).faults (g.S.Source.stream c.serve_source.new.source).faults) (Rose (g.S.Source.stream c.args.source.now).faults (g.S.Source.stream c.serve_source.new.source).faults) _ p.0 c.from_residual-in_err-serve_source.result (λ rose. rose) c.in_err-serve_source.ensures.faults p.1 p.2

pub returns-in_err-finish-clause-faults : goal.returns-in_err-finish-clause-faults
returns-in_err-finish-clause-faults g c =
    let p = err_from_is_err_and c.from_residual-in_err-finish.result c.from_residual-in_err-finish.ensures.1 in
    handed_stop (c.serve_source.ensures.faults.counts) (Rose (g.S.Source.stream c.args.source.now).faults (g.S.Source.stream c.serve_source.new.source).faults) _ p.0 c.from_residual-in_err-finish.result c.in_err-finish.ensures.faults p.1 p.2

pub returns-clause-faults : goal.returns-clause-faults
returns-clause-faults g c =
    fine_stop (counts_both c.serve_source.ensures.faults.counts c.finish.ensures.faults.counts) (Rose (g.S.Source.stream c.args.source.now).faults (g.S.Source.stream c.serve_source.new.source).faults) _

pub returns-in_err-input-clause-many : goal.returns-in_err-input-clause-many
returns-in_err-input-clause-many g c told is =
    let p = err_from_is_err_and c.from_residual.result c.from_residual.ensures.1 in
    absurd (no_memory p.0 c.from_residual.result p.1 p.2 is)

pub returns-in_err-serve_source-clause-many : goal.returns-in_err-serve_source-clause-many
returns-in_err-serve_source-clause-many g c told is =
    let p = err_from_is_err_and c.from_residual-in_err-serve_source.result c.from_residual-in_err-serve_source.ensures.1 in
    subst (λ (l : List ℕ). 4294967295 < length (lines (ahead l (g.S.Source.stream c.args.source.now)))) c.in_ok-input.ensures
    (c.in_err-serve_source.ensures.many told (too_many _ p.0 c.from_residual-in_err-serve_source.result p.1 p.2 is))

pub returns-in_err-finish-clause-many : goal.returns-in_err-finish-clause-many
returns-in_err-finish-clause-many g c told is =
    let p = err_from_is_err_and c.from_residual-in_err-finish.result c.from_residual-in_err-finish.ensures.1 in
    absurd (no_trouble _ p.0 c.from_residual-in_err-finish.result p.1 p.2 is)

pub returns-clause-few : goal.returns-clause-few
returns-clause-few g c told =
    subst (λ (l : List ℕ). length (lines (ahead l (g.S.Source.stream c.args.source.now))) ≤ 4294967295) c.in_ok-input.ensures (c.in_ok-serve_source.ensures.few told)

pub returns-clause-many : goal.returns-clause-many
returns-clause-many g c told is = absurd (cc is)

pub returns-clause-away : goal.returns-clause-away
returns-clause-away g c tells = c.in_ok-finish.ensures.away (subst (λ t. IsTrue t) (sym c.in_ok-serve_source.ensures.tells) tells)

pub returns-in_err-input-clause-same : goal.returns-in_err-input-clause-same
returns-in_err-input-clause-same g c = record { tells = refl; tells_left = refl; names = refl; sectors = refl }

pub returns-in_err-serve_source-clause-same : goal.returns-in_err-serve_source-clause-same
returns-in_err-serve_source-clause-same g c = same_disk (ap (λ (a : Anchor). a.rig) c.serve_source.ensures.anchor)

pub returns-in_err-finish-clause-same : goal.returns-in_err-finish-clause-same
returns-in_err-finish-clause-same g c = disks_both (same_disk (ap (λ (a : Anchor). a.rig) c.serve_source.ensures.anchor)) c.finish.ensures.same

pub returns-clause-same : goal.returns-clause-same
returns-clause-same g c = disks_both (same_disk (ap (λ (a : Anchor). a.rig) c.serve_source.ensures.anchor)) c.finish.ensures.same

pub returns-clause-commits : goal.returns-clause-commits
returns-clause-commits g c tells =
    let served = c.in_ok-serve_source.ensures.commits tells in (
      served.0,
      λ told. subst (λ (l : List ℕ). served.0 ≡ length (lines (ahead l (g.S.Source.stream c.args.source.now)))) c.in_ok-input.ensures (served.1 told),
      record {
        begun = (g.R.SectorDisk.state c.args.base.now.disk.now).barriers;
        first = omega arith;
        ended = (g.R.SectorDisk.state c.serve_source.new.base.disk.now).barriers;
        batches = batches_wider _ _ g.K.Speaker.often 1 _ _ _ (λ passed it. record { asked = it.0; volume = it.1.volume; store = it.1.base.store.now; rig = it.1.base.disk.now; store_name = it.1.base.store.ghost_name; rig_name = it.1.base.disk.ghost_name; behind = it.1.behind; wanted = it.1.wanted }) served.2;
        last = c.finish.ensures.barriers;
      },
    )

pub returns-in_err-input-clause-cut : goal.returns-in_err-input-clause-cut
returns-in_err-input-clause-cut g c tells = on_err c.from_residual.result (0, λ told. omega arith, run_none _ g.K.Speaker.often 0 2 _ _ (omega arith))

pub returns-in_err-serve_source-clause-cut : goal.returns-in_err-serve_source-clause-cut
returns-in_err-serve_source-clause-cut g c tells =
    let served = c.in_err-serve_source.ensures.cut tells in
    on_err c.from_residual-in_err-serve_source.result (
      served.0,
      λ told. subst (λ (l : List ℕ). served.0 ≤ length (lines (ahead l (g.S.Source.stream c.args.source.now)))) c.in_ok-input.ensures (served.1 told),
      record {
        begun = (g.R.SectorDisk.state c.args.base.now.disk.now).barriers;
        first = omega arith;
        ended = (g.R.SectorDisk.state c.serve_source.new.base.disk.now).barriers;
        batches = batches_wider _ _ g.K.Speaker.often 2 _ _ _ (λ passed it. record { asked = it.0; volume = it.1.volume; store = it.1.base.store.now; rig = it.1.base.disk.now; store_name = it.1.base.store.ghost_name; rig_name = it.1.base.disk.ghost_name; behind = it.1.behind; wanted = it.1.wanted }) served.2;
        last = omega arith;
      },
    )

pub returns-in_err-finish-clause-cut : goal.returns-in_err-finish-clause-cut
returns-in_err-finish-clause-cut g c tells =
    let served = c.in_ok-serve_source.ensures.commits tells in
    on_err c.from_residual-in_err-finish.result (
      served.0,
      λ told. omega (arith, subst (λ (l : List ℕ). served.0 ≡ length (lines (ahead l (g.S.Source.stream c.args.source.now)))) c.in_ok-input.ensures (served.1 told)),
      record {
        begun = (g.R.SectorDisk.state c.args.base.now.disk.now).barriers;
        first = omega arith;
        ended = (g.R.SectorDisk.state c.serve_source.new.base.disk.now).barriers;
        batches = batches_wider _ _ g.K.Speaker.often 2 _ _ _ (λ passed it. record { asked = it.0; volume = it.1.volume; store = it.1.base.store.now; rig = it.1.base.disk.now; store_name = it.1.base.store.ghost_name; rig_name = it.1.base.disk.ghost_name; behind = it.1.behind; wanted = it.1.wanted }) (batches_more _ g.K.Speaker.often 1 _ _ _ served.2);
        last = c.finish.ensures.barriers;
      },
    )
