use Rattle.std.proofs.Common.{◌≡◌, ◌++◌, [], ℕ, List, sym, subst, arith}
use Rattle.hfs_serving.specs.declared.volume.ToTell.{ToTell}
use Rattle.hfs_serving.proofs.Hearing.{no_ok}
use Rattle.watchers.proofs.Tellings.{told_nothing}
use Rattle.hfs_serving.proofs.Saying.{tells_both}
use Rattle.std.specs.Prelude.{IsTrue}
use Rattle.hfs_serving.specs.Speaking.{SpeaksBatch}
use Rattle.hfs_serving.specs.Serving.{TellsOut}
use Rattle.hfs_serving.proofs.Going.{on_err}
use Rattle.hfs_serving.proofs.Stepping.{step_serves, step_stops, step_tells_partly}
use Rattle.std.proofs.lemmas.Result.{err_from_is_err_and}
use Rattle.hfs_serving.proofs.Causes.{counts_both, counts_none, fine_stop, handed_on, sink_stop}
use Rattle.hfs_serving.proofs.Numbering.{too_many}
use Rattle.hfs_serving.proofs.telling.serve_step.Goals as goal

pub returns-in_err-count-clause-faults : goal.returns-in_err-count-clause-faults
returns-in_err-count-clause-faults g c =
    let p = err_from_is_err_and c.from_residual.result c.from_residual.ensures.1 in
    handed_on (counts_none _ _) ⊥ ⊥ _ p.0 c.from_residual.result (λ never. never) c.in_err-count.ensures.faults p.1 p.2

pub returns-in-Ok-clause-faults : goal.returns-in-Ok-clause-faults
returns-in-Ok-clause-faults g c =
    fine_stop (counts_both c.serve_batch.ensures.faults.counts c.tell_all-2.ensures.counts) ⊥ _

pub returns-clause-faults : goal.returns-clause-faults
returns-clause-faults g c =
    sink_stop c.serve_batch.ensures.faults.counts c.tell_all-2.ensures.counts c.in-Err.ensures.cause.failed

pub returns-in_err-count-clause-no_many : goal.returns-in_err-count-clause-no_many
returns-in_err-count-clause-no_many g c is =
    let p = err_from_is_err_and c.from_residual.result c.from_residual.ensures.1 in
    c.in_err-count.ensures.no_many (too_many _ p.0 c.from_residual.result p.1 p.2 is)

pub returns-in-Ok-clause-no_many : goal.returns-in-Ok-clause-no_many
returns-in-Ok-clause-no_many g c is = absurd (cc is)

pub returns-clause-no_many : goal.returns-clause-no_many
returns-clause-no_many g c is = absurd (cc is)

pub returns-in_err-count-clause-serves : goal.returns-in_err-count-clause-serves
returns-in_err-count-clause-serves g c = (
  [],
  λ stay. told_nothing _ _ c.args.watchers.now.items stay,
  λ tells capacity start shrunk stands. (
    no_ok _ c.from_residual.result _ (err_from_is_err_and c.from_residual.result c.from_residual.ensures.1).1,
    on_err c.from_residual.result (step_stops capacity shrunk start (g.G.Ground.outside c.args.base.now) c.args.number (g.K.Speaker.spoke c.args.speaker.now) g.K.Speaker.broken c.args.lines.now (g.G.Ground.outside c.serve_batch.new.base) (g.met.K.Speaker.whole c.args.speaker.now) (c.in_err-count.ensures.stops tells capacity start shrunk stands)),
  ),
)

pub returns-in-Ok-clause-serves : goal.returns-in-Ok-clause-serves
returns-in-Ok-clause-serves g c = (
  c.serve_batch.new.told.changes,
  c.tell_all.ensures.told,
  λ tells capacity start shrunk stands.
      let old = g.G.Ground.outside c.args.base.now in
      let space = g.G.SectorView.space c.serve_batch.new.base in
      let mid = g.G.Ground.outside c.serve_batch.new.base in
      let knows = g.V.Volume.knows c.serve_batch.new.volume space capacity in
      let after = g.G.Ground.outside c.tell_all-2.new.self in
      let new = g.G.SectorView.space c.tell_all-2.new.self in
      let count = c.in_ok-count.count in
      let lines = c.args.lines.now in
      let batch = subst (λ (t : ToTell). SpeaksBatch count capacity knows start shrunk old c.args.number (g.K.Speaker.spoke c.args.speaker.now) (g.K.Speaker.spoke c.serve_batch.new.speaker) lines t c.serve_batch.new.told space mid) (tells_both _ [] _ [] c.new-replies.ensures c.new-changes.ensures) (c.in_ok-count.ensures.serves tells capacity start shrunk stands) in
      let tells_there = subst (λ t. IsTrue t) (sym c.in_ok-count.ensures.tells) tells in
      let told = subst (λ (l : List ℕ). TellsOut mid l after) c.as_slice.ensures (c.in-Ok.ensures.told tells_there) in
      let whole = subst (λ (l : List ℕ). after.told ≡ mid.told ++ l) c.as_slice.ensures (c.in-Ok.ensures.whole tells_there) in (
        step_serves count capacity shrunk start old c.args.number (g.K.Speaker.spoke c.args.speaker.now) (g.K.Speaker.spoke c.serve_batch.new.speaker) lines knows c.serve_batch.new.told space mid batch after told (g.V.Volume.knows c.serve_batch.new.volume new capacity) new whole c.in-Ok.ensures.still
            (λ committed now s known. c.look.ensures c.serve_batch.new.base capacity committed now s c.in-Ok.ensures.still known),
        tt,
      ),
)

pub returns-clause-serves : goal.returns-clause-serves
returns-clause-serves g c = (
  c.serve_batch.new.told.changes,
  c.tell_all.ensures.told,
  λ tells capacity start shrunk stands.
      let old = g.G.Ground.outside c.args.base.now in
      let space = g.G.SectorView.space c.serve_batch.new.base in
      let mid = g.G.Ground.outside c.serve_batch.new.base in
      let knows = g.V.Volume.knows c.serve_batch.new.volume space capacity in
      let after = g.G.Ground.outside c.tell_all-2.new.self in
      let count = c.in_ok-count.count in
      let lines = c.args.lines.now in
      let batch = subst (λ (t : ToTell). SpeaksBatch count capacity knows start shrunk old c.args.number (g.K.Speaker.spoke c.args.speaker.now) (g.K.Speaker.spoke c.serve_batch.new.speaker) lines t c.serve_batch.new.told space mid) (tells_both _ [] _ [] c.new-replies.ensures c.new-changes.ensures) (c.in_ok-count.ensures.serves tells capacity start shrunk stands) in
      let tells_there = subst (λ t. IsTrue t) (sym c.in_ok-count.ensures.tells) tells in
      let told = subst (λ (l : List ℕ). TellsOut mid l after) c.as_slice.ensures (c.in-Err.ensures.told tells_there) in
      (tt, step_tells_partly count capacity shrunk start old c.args.number (g.K.Speaker.spoke c.args.speaker.now) (g.K.Speaker.spoke c.serve_batch.new.speaker) lines knows c.serve_batch.new.told space mid batch after told g.K.Speaker.broken (g.met.K.Speaker.whole c.serve_batch.new.speaker)),
)

pub returns-in-Ok-clause-once : goal.returns-in-Ok-clause-once
returns-in-Ok-clause-once g c tells =
    let once = c.in_ok-count.ensures.once tells in
    record { ending = once.ending; before = once.before; last = omega (arith, once.last, c.tell_all-2.ensures.barriers) }

pub returns-in_err-count-clause-cut : goal.returns-in_err-count-clause-cut
returns-in_err-count-clause-cut g c tells = on_err c.from_residual.result (c.in_err-count.ensures.cut tells)

pub returns-clause-cut : goal.returns-clause-cut
returns-clause-cut g c tells =
    let once = c.in_ok-count.ensures.once tells in
    (c.in_ok-count.count, c.in_ok-count.ensures.few, record { ending = once.ending; before = once.before; last = omega (arith, once.last, c.tell_all-2.ensures.barriers) })
