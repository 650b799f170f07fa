use Rattle.std.proofs.Common.{◌≡◌, ◌≤◌, ◌<◌, ◌+◌, [], ℕ, List, length, length-append, length-drop, take, drop, refl, sym, ◌∙◌, ap, subst, arith}
use Rattle.std.specs.Prelude.{Option, IsTrue}
use Rattle.jnl_format.specs.Recovery.{Content}
use Rattle.hfs_serving.specs.Going.{Stands}
use Rattle.volume_runs.specs.Run.{shrunk_in}
use Rattle.hfs_serving.proofs.Going.{on_err}
use Rattle.hfs_serving.proofs.Speeches.{speaks_more}
use Rattle.hfs_serving.proofs.Stepping.{no_line_served, step_both, step_crash, step_ends}
use Rattle.hfs_serving.proofs.Promising.{took_none}
use Rattle.hfs_serving.proofs.Pending.{crash_held, held_length, no_items, on_add, on_ends, on_none, on_serve, on_stops, step_held, step_more}
use Rattle.std.proofs.lemmas.Result.{err_from_is_err_and}
use Rattle.hfs_serving.proofs.Caused.{batch_on, batches_more, first_batch, first_cut}
use Rattle.hfs_serving.proofs.Causes.{counts_both, counts_none, fine_stop, handed_on, other_stop, took_stop}
use Rattle.sector_disk.specs.Cause.{Rose}
use Rattle.hfs_serving.proofs.Numbering.{all_lines, counted, more_lines, most_lines, too_many}
use Rattle.std.proofs.Common.{◌-◌, ◌++◌}
use Rattle.hfs_serving.specs.Speaking.{Speaks}
use Rattle.hfs_serving.specs.Spoken.{CrashesSpoken}
use Rattle.hfs_serving.proofs.Hearing.{all_stay, no_ok_on}
use Rattle.watchers.proofs.Tellings.{told_both}
use Rattle.std.proofs.lemmas.Bool.Decides.{nat_tests}
use Rattle.std.proofs.lemmas.List.{length-map}
use Rattle.hfs_language.specs.Language.{most_bytes}
use Rattle.line_source.specs.Batch.{held}
use Rattle.std.proofs.Common.{Err}
use Rattle.hfs_serving.proofs.Answering.{answers_front, final_of, handed_answers}
use Rattle.hfs_serving.proofs.Finals.{no_final, on_final}
use Rattle.hfs_serving.proofs.taking.serve_source.Goals as goal

pub serve_step-requires-clause-stands : goal.serve_step-requires-clause-stands
serve_step-requires-clause-stands g c tells =
    let there = c.requires.stands tells in
    (there.0, there.1, there.1, there.2, there.3)

pub serve_step-requires-clause-numbers : goal.serve_step-requires-clause-numbers
serve_step-requires-clause-numbers g c = omega (arith, ap (λ (l : List (List ℕ)). length l) (c.as_slice.ensures.value ∙ c.new-lines.ensures.items))

pub returns-in_err-serve_step-clause-serves : goal.returns-in_err-serve_step-clause-serves
returns-in_err-serve_step-clause-serves g c =
    let none = c.as_slice.ensures.value ∙ c.new-lines.ensures.items in
    let p = err_from_is_err_and c.from_residual.result c.from_residual.ensures.1 in
    let watched = c.in_err-serve_step.ensures.serves in (
      watched.0,
      watched.1,
      (
        [],
        λ told. took_none c.args.input.now (g.S.Source.stream c.args.source.now),
        λ tells capacity start shrunk stands.
            subst (λ (l : List (List ℕ)). CrashesSpoken (Speaks 0 start (g.K.Speaker.spoke c.args.speaker.now) g.K.Speaker.broken) watched.0 capacity start shrunk (g.G.Ground.outside c.args.base.now) l (g.G.Ground.outside c.serve_step.new.base)) none (watched.2 tells capacity start shrunk stands).1,
      ),
      no_ok_on _ c.from_residual.result p.0 p.1,
      on_err c.from_residual.result (λ final. absurd (no_final _ c.in_err-serve_step.ensures.faults.source c.in_err-serve_step.ensures.no_many (final_of _ p.0 c.from_residual.result p.1 p.2 final))),
    )

pub returns-in_err-serve_step-clause-faults : goal.returns-in_err-serve_step-clause-faults
returns-in_err-serve_step-clause-faults g c =
    let p = err_from_is_err_and c.from_residual.result c.from_residual.ensures.1 in
    let source = (g.S.Source.stream c.args.source.now).faults in
    handed_on (counts_none _ _) ⊥ (Rose source source) _ p.0 c.from_residual.result (λ never. absurd never) c.in_err-serve_step.ensures.faults p.1 p.2

pub returns-in_err-serve_step-clause-many : goal.returns-in_err-serve_step-clause-many
returns-in_err-serve_step-clause-many g c told is =
    let p = err_from_is_err_and c.from_residual.result c.from_residual.ensures.1 in
    absurd (c.in_err-serve_step.ensures.no_many (too_many _ p.0 c.from_residual.result p.1 p.2 is))

pub loop-lines-init : goal.loop-lines-init
loop-lines-init g c = record {
  same = record { tells = refl; names = refl };
  counts = c.serve_step.ensures.faults.counts;
  later = omega arith;
  anchor = c.serve_step.ensures.anchor;
  tells = c.in_ok-serve_step.ensures.tells;
  serves = λ capacity serves taken. let still = c.in_ok-serve_step.ensures.still capacity serves taken in (still.0, omega (arith, still.1));
  nothing = λ capacity serves none. (c.in_ok-serve_step.ensures.still capacity serves (omega (arith, none))).1;
  fits = omega (arith, ap (λ (l : List (List ℕ)). length l) c.new-lines.ensures.items);
  most = omega (arith, ap (λ (l : List (List ℕ)). length l) c.new-lines.ensures.items);
  bound = omega arith;
  commits = λ tells. first_batch _ g.K.Speaker.often _ _ _ _ (c.as_slice.ensures.value ∙ c.new-lines.ensures.items) c.in_ok-serve_step.ensures.few (c.in_ok-serve_step.ensures.once tells);
  on = (
    c.in_ok-serve_step.ensures.serves.0,
    c.in_ok-serve_step.ensures.serves.1,
    on_none c.args.input.now (g.S.Source.stream c.args.source.now) c.new-lines.result.items _ c.new-lines.ensures.items
        (omega arith, λ tells capacity start shrunk stands. no_line_served (Speaks 0 start (g.K.Speaker.spoke c.args.speaker.now) (g.K.Speaker.spoke c.serve_step.new.speaker)) c.in_ok-serve_step.ensures.serves.0 capacity shrunk start (g.G.Ground.outside c.args.base.now) (g.V.Volume.knows c.serve_step.new.volume (g.G.SectorView.space c.serve_step.new.base) capacity) (g.G.SectorView.space c.serve_step.new.base) (g.G.Ground.outside c.serve_step.new.base) _ _ (c.as_slice.ensures.value ∙ c.new-lines.ensures.items) c.in_ok-serve_step.ensures.few (c.in_ok-serve_step.ensures.serves.2 tells capacity start shrunk stands).0),
  );
}

pub serve_step-requires-in-loop-lines-clause-stands : goal.serve_step-requires-in-loop-lines-clause-stands
serve_step-requires-in-loop-lines-clause-stands g c tells_there =
    let tells = subst (λ t. IsTrue t) c.loop-lines.invariant.tells tells_there in
    let there = c.requires.stands tells in
    let first = c.loop-lines.invariant.on.2.1.1 tells there.0 there.1 there.2 there.3 in
    (there.0, first.now, first.now, shrunk_in there.2 first.speech.run, first.stands)

pub drop_first-requires : goal.drop_first-requires
drop_first-requires g c = subst (λ (l : List (List ℕ)). c.in_ok-count.count ≤ length l) c.as_slice-in-loop-lines.ensures.value c.in_ok-count.ensures.few

pub loop-lines-preserved : goal.loop-lines-preserved
loop-lines-preserved g c =
    let source = g.S.Source.stream c.args.source.now in
    let now = g.S.Source.stream c.loop-lines.source in
    let new = g.S.Source.stream c.take_lines.new.source in
    let old = g.G.Ground.outside c.args.base.now in
    let pending = c.take_lines.new.pending.items in
    let same = c.loop-lines.invariant.same in
    let read =
    on_add c.args.input.now source c.loop-lines.lines.items c.loop-lines.input now _ c.loop-lines.invariant.on.2 pending c.take_lines.new.input new same.tells c.in_ok-take_lines.ensures.lines
    (λ count texts more inside served. (served.0, λ tells capacity start shrunk stands. step_more (Speaks 0 start (g.K.Speaker.spoke c.args.speaker.now) (g.K.Speaker.spoke c.loop-lines.speaker)) c.loop-lines.invariant.on.0 capacity start shrunk old texts more count _ _ _ inside (served.1 tells capacity start shrunk stands))) in
    let few = subst (λ (l : List (List ℕ)). c.in_ok-count.count ≤ length l) c.as_slice-in-loop-lines.ensures.value c.in_ok-count.ensures.few in
    let far : c.in_ok-count.count ≤ c.loop-lines.left = omega (arith, few, c.in_ok-take_lines.ensures.left) in
    record {
      same = record { tells = c.take_lines.ensures.same.tells ∙ same.tells; names = c.take_lines.ensures.same.names ∙ same.names };
      counts = counts_both c.loop-lines.invariant.counts c.serve_step-in-loop-lines.ensures.faults.counts;
      later = omega (arith, c.loop-lines.invariant.later, c.take_lines.ensures.cause.later);
      anchor = c.serve_step-in-loop-lines.ensures.anchor ∙ c.loop-lines.invariant.anchor;
      tells = c.in_ok-count.ensures.tells ∙ c.loop-lines.invariant.tells;
      serves = λ capacity serves taken.
          let was = c.loop-lines.invariant.serves capacity serves taken in
          let still = c.in_ok-count.ensures.still capacity was.0 was.1 in
          (still.0, omega (arith, still.1));
      nothing = λ capacity serves none.
          let was = c.loop-lines.invariant.serves capacity serves (omega (arith, none)) in
          (c.in_ok-count.ensures.still capacity was.0 was.1).1;
      fits = omega (arith, few, c.in_ok-take_lines.ensures.left, ap (λ (l : List (List ℕ)). length l) c.drop_first.ensures, length-drop c.in_ok-count.count pending);
      most = omega (arith, c.in_ok-take_lines.ensures.most, ap (λ (l : List (List ℕ)). length l) c.drop_first.ensures, length-drop c.in_ok-count.count pending);
      bound = omega (arith, c.loop-lines.invariant.bound);
      commits = λ tells.
          let some : 0 < c.in_ok-count.count = grind (arith, nat_tests, c.if-count-eq0.false) in
          batch_on _ g.K.Speaker.often 1 1 (4294967295 - c.loop-lines.left) c.in_ok-count.count (4294967295 - (c.loop-lines.left - c.in_ok-count.count)) _ _ _ (c.loop-lines.invariant.commits tells) (c.in_ok-count.ensures.once (c.loop-lines.invariant.tells ∙ tells)) (omega (arith, some, far, c.loop-lines.invariant.bound)) (omega (arith, far, c.loop-lines.invariant.bound));
      on = (
        c.loop-lines.invariant.on.0 ++ c.in_ok-count.ensures.serves.0,
        λ stay.
            let before = c.loop-lines.invariant.on.1 stay in
            told_both _ _ c.loop-lines.invariant.on.0 c.in_ok-count.ensures.serves.0 _ _ _ before (c.in_ok-count.ensures.serves.1 (all_stay _ _ c.loop-lines.invariant.on.0 _ _ before)),
        on_serve c.args.input.now source pending c.take_lines.new.input new _ read _ c.in_ok-count.count c.drop_first.new.lines.items few c.drop_first.ensures
            (λ count texts inside are served. (
              counted c.in_ok-count.count count c.loop-lines.left served.0 far,
              λ tells capacity start shrunk stands.
                  let space = g.G.SectorView.space c.loop-lines.base in
                  let mid = g.G.Ground.outside c.loop-lines.base in
                  let knows = g.V.Volume.knows c.loop-lines.volume space capacity in
                  let first = served.1 tells capacity start shrunk stands in
                  let tells_there = c.loop-lines.invariant.tells ∙ tells in
                  let last = shrunk_in shrunk first.speech.run in
                  let after = g.G.Ground.outside c.serve_step-in-loop-lines.new.base in
                  let are_texts = c.as_slice-in-loop-lines.ensures.value ∙ are in
                  let space_new = g.G.SectorView.space c.serve_step-in-loop-lines.new.base in
                  let knows_new = g.V.Volume.knows c.serve_step-in-loop-lines.new.volume space_new capacity in
                  let k = c.in_ok-count.count in
                  let heard = c.in_ok-count.ensures.serves.0 in
                  let at : 4294967295 - c.loop-lines.left ≡ count = omega (arith, served.0) in
                  let second =
                  step_held (g.K.Speaker.spoke c.loop-lines.speaker) (g.K.Speaker.spoke c.serve_step-in-loop-lines.new.speaker) heard (4294967295 - c.loop-lines.left) count capacity first.now last mid _ texts at are_texts k knows_new space_new after (c.in_ok-count.ensures.serves.2 tells_there capacity first.now last first.stands).0 in
                  step_both capacity shrunk start old (held most_bytes texts) count (omega (arith, inside, held_length texts)) (g.K.Speaker.spoke c.args.speaker.now) (g.K.Speaker.spoke c.loop-lines.speaker) c.loop-lines.invariant.on.0 knows space mid first (g.K.Speaker.spoke c.serve_step-in-loop-lines.new.speaker) heard k knows_new space_new after second,
            )),
      );
    }

pub returns-in_err-take_lines-clause-faults : goal.returns-in_err-take_lines-clause-faults
returns-in_err-take_lines-clause-faults g c =
    let p = err_from_is_err_and c.from_residual-in_err-take_lines.result c.from_residual-in_err-take_lines.ensures.1 in
    let took = c.in_err-take_lines.ensures in
    took_stop c.loop-lines.invariant.counts (g.S.Source.stream c.args.source.now).faults (g.S.Source.stream c.loop-lines.source).faults (g.S.Source.stream c.take_lines.new.source).faults _ p.0 c.from_residual-in_err-take_lines.result c.loop-lines.invariant.later took.cause took.no_disk took.no_sink p.1 p.2

pub returns-in_err-take_lines-clause-later : goal.returns-in_err-take_lines-clause-later
returns-in_err-take_lines-clause-later g c =
    omega (arith, c.loop-lines.invariant.later, c.take_lines.ensures.cause.later)

pub returns-then-is_empty-clause-faults : goal.returns-then-is_empty-clause-faults
returns-then-is_empty-clause-faults g c =
    fine_stop c.loop-lines.invariant.counts (Rose (g.S.Source.stream c.args.source.now).faults (g.S.Source.stream c.take_lines.new.source).faults) _

pub returns-then-is_empty-clause-later : goal.returns-then-is_empty-clause-later
returns-then-is_empty-clause-later g c =
    omega (arith, c.loop-lines.invariant.later, c.take_lines.ensures.cause.later)

pub returns-in_err-count-clause-faults : goal.returns-in_err-count-clause-faults
returns-in_err-count-clause-faults g c =
    let p = err_from_is_err_and c.from_residual-in_err-count.result c.from_residual-in_err-count.ensures.1 in
    handed_on c.loop-lines.invariant.counts ⊥ (Rose (g.S.Source.stream c.args.source.now).faults (g.S.Source.stream c.take_lines.new.source).faults) _ p.0 c.from_residual-in_err-count.result (λ never. absurd never) c.in_err-count.ensures.faults p.1 p.2

pub returns-in_err-count-clause-later : goal.returns-in_err-count-clause-later
returns-in_err-count-clause-later g c =
    omega (arith, c.loop-lines.invariant.later, c.take_lines.ensures.cause.later)

pub returns-then-count-eq0-clause-faults : goal.returns-then-count-eq0-clause-faults
returns-then-count-eq0-clause-faults g c =
    other_stop (counts_both c.loop-lines.invariant.counts c.serve_step-in-loop-lines.ensures.faults.counts) (Rose (g.S.Source.stream c.args.source.now).faults (g.S.Source.stream c.take_lines.new.source).faults) _ _ refl (λ is. absurd (cc is)) (λ is. absurd (cc is)) (λ is. absurd (cc is))

pub returns-then-count-eq0-clause-later : goal.returns-then-count-eq0-clause-later
returns-then-count-eq0-clause-later g c =
    omega (arith, c.loop-lines.invariant.later, c.take_lines.ensures.cause.later)

pub take_lines-requires-clause-left : goal.take_lines-requires-clause-left
take_lines-requires-clause-left g c = c.loop-lines.invariant.fits

pub take_lines-requires-clause-most : goal.take_lines-requires-clause-most
take_lines-requires-clause-most g c = c.loop-lines.invariant.most

pub returns-in_err-take_lines-clause-many : goal.returns-in_err-take_lines-clause-many
returns-in_err-take_lines-clause-many g c told is =
    let p = err_from_is_err_and c.from_residual-in_err-take_lines.result c.from_residual-in_err-take_lines.ensures.1 in
    let many = c.in_err-take_lines.ensures.many (too_many _ p.0 c.from_residual-in_err-take_lines.result p.1 p.2 is) in
    let on = c.loop-lines.invariant.on.2 in
    let more = more_lines c.args.input.now (g.S.Source.stream c.args.source.now) on.0.texts c.loop-lines.input (g.S.Source.stream c.loop-lines.source) (on.0.takes told) (many.1 (subst IsTrue (sym c.loop-lines.invariant.same.tells) told)) in
    omega (arith, more, many.0, on.0.inside, on.1.0)

pub returns-then-is_empty-clause-few : goal.returns-then-is_empty-clause-few
returns-then-is_empty-clause-few g c told =
    let source = g.S.Source.stream c.args.source.now in
    let now = g.S.Source.stream c.loop-lines.source in
    let new = g.S.Source.stream c.take_lines.new.source in
    let old = g.G.Ground.outside c.args.base.now in
    let pending = c.take_lines.new.pending.items in
    let same = c.loop-lines.invariant.same in
    let read =
    on_add c.args.input.now source c.loop-lines.lines.items c.loop-lines.input now _ c.loop-lines.invariant.on.2 pending c.take_lines.new.input new same.tells c.in_ok-take_lines.ensures.lines
    (λ count texts more inside served. (served.0, λ tells capacity start shrunk stands. step_more (Speaks 0 start (g.K.Speaker.spoke c.args.speaker.now) (g.K.Speaker.spoke c.loop-lines.speaker)) c.loop-lines.invariant.on.0 capacity start shrunk old texts more count _ _ _ inside (served.1 tells capacity start shrunk stands))) in
    let none = no_items pending c.take_lines.new.pending.len c.is_empty.result c.take_lines.new.pending.ok.0 c.is_empty.ensures c.if-is_empty.true in
    let ends = on_ends c.args.input.now source pending c.take_lines.new.input new _ read none (λ tells. (c.in_ok-take_lines.ensures.end (subst IsTrue (sym same.tells) tells) none).1) in
    let all = ends.1 told in
    omega (arith, ends.2.0, all_lines c.args.input.now source ends.0 c.take_lines.new.input new all.0 all.1)

pub returns-then-is_empty-clause-commits : goal.returns-then-is_empty-clause-commits
returns-then-is_empty-clause-commits g c tells_old =
    let source = g.S.Source.stream c.args.source.now in
    let now = g.S.Source.stream c.loop-lines.source in
    let new = g.S.Source.stream c.take_lines.new.source in
    let pending = c.take_lines.new.pending.items in
    let same = c.loop-lines.invariant.same in
    let on = c.loop-lines.invariant.on.2 in
    let read =
    on_add c.args.input.now source c.loop-lines.lines.items c.loop-lines.input now (λ (count : ℕ) (texts : List (List ℕ)). count + c.loop-lines.left ≡ 4294967295) (on.0, on.1.0) pending c.take_lines.new.input new same.tells c.in_ok-take_lines.ensures.lines
    (λ count texts more inside served. served) in
    let none = no_items pending c.take_lines.new.pending.len c.is_empty.result c.take_lines.new.pending.ok.0 c.is_empty.ensures c.if-is_empty.true in
    let ends = on_ends c.args.input.now source pending c.take_lines.new.input new _ read none (λ tells. (c.in_ok-take_lines.ensures.end (subst IsTrue (sym same.tells) tells) none).1) in (
      4294967295 - c.loop-lines.left,
      λ told. let all = ends.1 told in omega (arith, ends.2, all_lines c.args.input.now source ends.0 c.take_lines.new.input new all.0 all.1),
      c.loop-lines.invariant.commits tells_old,
    )

pub returns-in_err-count-clause-many : goal.returns-in_err-count-clause-many
returns-in_err-count-clause-many g c told is =
    let p = err_from_is_err_and c.from_residual-in_err-count.result c.from_residual-in_err-count.ensures.1 in
    absurd (c.in_err-count.ensures.no_many (too_many _ p.0 c.from_residual-in_err-count.result p.1 p.2 is))

pub returns-then-count-eq0-clause-many : goal.returns-then-count-eq0-clause-many
returns-then-count-eq0-clause-many g c told is = absurd (cc is)

pub loop-lines-smaller : goal.loop-lines-smaller
loop-lines-smaller g c =
    let adds = c.in_ok-take_lines.ensures.lines in
    let pending = c.take_lines.new.pending.items in
    let few = subst (λ (l : List (List ℕ)). c.in_ok-count.count ≤ length l) c.as_slice-in-loop-lines.ensures.value c.in_ok-count.ensures.few in
    let some : 0 < c.in_ok-count.count = grind (arith, nat_tests, c.if-count-eq0.false) in
    omega (arith, some, few, adds.nearer, ap (λ (l : List (List ℕ)). length l) adds.held_are, length-append c.loop-lines.lines.items (held most_bytes adds.texts), length-map adds.texts (take (most_bytes + 1)), ap (λ (l : List (List ℕ)). length l) c.drop_first.ensures, length-drop c.in_ok-count.count pending)

pub returns-in_err-take_lines-clause-serves : goal.returns-in_err-take_lines-clause-serves
returns-in_err-take_lines-clause-serves g c =
    let source = g.S.Source.stream c.args.source.now in
    let now = g.S.Source.stream c.loop-lines.source in
    let new = g.S.Source.stream c.take_lines.new.source in
    let stops =
    on_stops c.args.input.now source c.loop-lines.lines.items c.loop-lines.input now _ c.loop-lines.invariant.on.2
    (λ (texts : List (List ℕ)). IsTrue (g.G.SectorView.space c.args.base.now).tells → (capacity : ℕ) (start : Content) (shrunk : Option ℕ)
    → Stands (g.V.Volume.knows c.args.volume.now (g.G.SectorView.space c.args.base.now) capacity) start start shrunk (g.G.SectorView.space c.args.base.now) (g.G.Ground.outside c.args.base.now)
    → CrashesSpoken (Speaks 0 start (g.K.Speaker.spoke c.args.speaker.now) g.K.Speaker.broken) c.loop-lines.invariant.on.0 capacity start shrunk (g.G.Ground.outside c.args.base.now) (held most_bytes texts) (g.G.Ground.outside c.loop-lines.base)) new (λ tells. c.take_lines.ensures.gone (subst IsTrue (sym c.loop-lines.invariant.same.tells) tells))
    (λ count texts inside are served tells capacity start shrunk stands. step_ends capacity shrunk start (g.G.Ground.outside c.args.base.now) (held most_bytes texts) (Speaks 0 start (g.K.Speaker.spoke c.args.speaker.now) (g.K.Speaker.spoke c.loop-lines.speaker)) (Speaks 0 start (g.K.Speaker.spoke c.args.speaker.now) g.K.Speaker.broken) c.loop-lines.invariant.on.0 count _ _ _ (λ speech. speaks_more 0 start (g.K.Speaker.spoke c.args.speaker.now) (g.K.Speaker.spoke c.loop-lines.speaker) g.K.Speaker.broken speech (g.met.K.Speaker.whole c.loop-lines.speaker)) (served.1 tells capacity start shrunk stands)) in
    let p = err_from_is_err_and c.from_residual-in_err-take_lines.result c.from_residual-in_err-take_lines.ensures.1 in
    let on = c.loop-lines.invariant.on.2 in
    let took = c.in_err-take_lines.ensures in
    let same = c.loop-lines.invariant.same in (
      c.loop-lines.invariant.on.0,
      c.loop-lines.invariant.on.1,
      stops,
      no_ok_on _ c.from_residual-in_err-take_lines.result p.0 p.1,
      on_err c.from_residual-in_err-take_lines.result
          (handed_answers _ p.0 c.from_residual-in_err-take_lines.result _ c.args.input.now source new p.1 p.2
          (λ final.
          let ends =
          on_final c.args.input.now source c.loop-lines.lines.items c.loop-lines.input now _ on new _ (λ tells. c.take_lines.ensures.gone (subst IsTrue (sym same.tells) tells))
          (λ is tells. took.begun (subst IsTrue (sym same.tells) tells) (ap Err is)) (λ is. omega (arith, (took.many (ap Err is)).0, on.1.0)) final in (
            take on.0.count on.0.texts,
            ends.0,
            ends.1,
            λ tells capacity start shrunk stands. answers_front (Speaks 0 start (g.K.Speaker.spoke c.args.speaker.now) (g.K.Speaker.spoke c.loop-lines.speaker)) c.loop-lines.invariant.on.0 on.0.count capacity shrunk start (g.G.Ground.outside c.args.base.now) on.0.texts _ _ _ (on.1.1 tells capacity start shrunk stands),
          ))),
    )

pub returns-then-is_empty-clause-serves : goal.returns-then-is_empty-clause-serves
returns-then-is_empty-clause-serves g c =
    let source = g.S.Source.stream c.args.source.now in
    let now = g.S.Source.stream c.loop-lines.source in
    let new = g.S.Source.stream c.take_lines.new.source in
    let stops =
    on_stops c.args.input.now source c.loop-lines.lines.items c.loop-lines.input now _ c.loop-lines.invariant.on.2
    (λ (texts : List (List ℕ)). IsTrue (g.G.SectorView.space c.args.base.now).tells → (capacity : ℕ) (start : Content) (shrunk : Option ℕ)
    → Stands (g.V.Volume.knows c.args.volume.now (g.G.SectorView.space c.args.base.now) capacity) start start shrunk (g.G.SectorView.space c.args.base.now) (g.G.Ground.outside c.args.base.now)
    → CrashesSpoken (Speaks 0 start (g.K.Speaker.spoke c.args.speaker.now) g.K.Speaker.broken) c.loop-lines.invariant.on.0 capacity start shrunk (g.G.Ground.outside c.args.base.now) (held most_bytes texts) (g.G.Ground.outside c.loop-lines.base)) new (λ tells. c.take_lines.ensures.gone (subst IsTrue (sym c.loop-lines.invariant.same.tells) tells))
    (λ count texts inside are served tells capacity start shrunk stands. step_ends capacity shrunk start (g.G.Ground.outside c.args.base.now) (held most_bytes texts) (Speaks 0 start (g.K.Speaker.spoke c.args.speaker.now) (g.K.Speaker.spoke c.loop-lines.speaker)) (Speaks 0 start (g.K.Speaker.spoke c.args.speaker.now) g.K.Speaker.broken) c.loop-lines.invariant.on.0 count _ _ _ (λ speech. speaks_more 0 start (g.K.Speaker.spoke c.args.speaker.now) (g.K.Speaker.spoke c.loop-lines.speaker) g.K.Speaker.broken speech (g.met.K.Speaker.whole c.loop-lines.speaker)) (served.1 tells capacity start shrunk stands)) in
    let pending = c.take_lines.new.pending.items in
    let same = c.loop-lines.invariant.same in
    let old = g.G.Ground.outside c.args.base.now in
    let read =
    on_add c.args.input.now source c.loop-lines.lines.items c.loop-lines.input now _ c.loop-lines.invariant.on.2 pending c.take_lines.new.input new same.tells c.in_ok-take_lines.ensures.lines
    (λ count texts more inside served. (served.0, λ tells capacity start shrunk stands. step_more (Speaks 0 start (g.K.Speaker.spoke c.args.speaker.now) (g.K.Speaker.spoke c.loop-lines.speaker)) c.loop-lines.invariant.on.0 capacity start shrunk old texts more count _ _ _ inside (served.1 tells capacity start shrunk stands))) in
    let none = no_items pending c.take_lines.new.pending.len c.is_empty.result c.take_lines.new.pending.ok.0 c.is_empty.ensures c.if-is_empty.true in
    let ends = on_ends c.args.input.now source pending c.take_lines.new.input new _ read none (λ tells. (c.in_ok-take_lines.ensures.end (subst IsTrue (sym same.tells) tells) none).1) in
    (c.loop-lines.invariant.on.0, c.loop-lines.invariant.on.1, stops, (ends.0, ends.1, ends.2.1), tt)

pub returns-in_err-count-clause-serves : goal.returns-in_err-count-clause-serves
returns-in_err-count-clause-serves g c =
    let source = g.S.Source.stream c.args.source.now in
    let now = g.S.Source.stream c.loop-lines.source in
    let new = g.S.Source.stream c.take_lines.new.source in
    let old = g.G.Ground.outside c.args.base.now in
    let pending = c.take_lines.new.pending.items in
    let same = c.loop-lines.invariant.same in
    let before = c.loop-lines.invariant.on.0 in
    let p = err_from_is_err_and c.from_residual-in_err-count.result c.from_residual-in_err-count.ensures.1 in
    let read =
    on_add c.args.input.now source c.loop-lines.lines.items c.loop-lines.input now _ c.loop-lines.invariant.on.2 pending c.take_lines.new.input new same.tells c.in_ok-take_lines.ensures.lines
    (λ count texts more inside served. (served.0, λ tells capacity start shrunk stands. step_more (Speaks 0 start (g.K.Speaker.spoke c.args.speaker.now) (g.K.Speaker.spoke c.loop-lines.speaker)) before capacity start shrunk old texts more count _ _ _ inside (served.1 tells capacity start shrunk stands))) in
    let heard = c.in_err-count.ensures.serves.0 in
    let stops =
    on_stops c.args.input.now source pending c.take_lines.new.input new _ read
    (λ (texts : List (List ℕ)). IsTrue (g.G.SectorView.space c.args.base.now).tells → (capacity : ℕ) (start : Content) (shrunk : Option ℕ)
    → Stands (g.V.Volume.knows c.args.volume.now (g.G.SectorView.space c.args.base.now) capacity) start start shrunk (g.G.SectorView.space c.args.base.now) old
    → CrashesSpoken (Speaks 0 start (g.K.Speaker.spoke c.args.speaker.now) g.K.Speaker.broken) (before ++ heard) capacity start shrunk old (held most_bytes texts) (g.G.Ground.outside c.serve_step-in-loop-lines.new.base)) new (λ tells. (c.take_lines.new.input, refl))
    (λ count texts inside are served tells capacity start shrunk stands.
    let space = g.G.SectorView.space c.loop-lines.base in
    let mid = g.G.Ground.outside c.loop-lines.base in
    let knows = g.V.Volume.knows c.loop-lines.volume space capacity in
    let first = served.1 tells capacity start shrunk stands in
    let tells_there = c.loop-lines.invariant.tells ∙ tells in
    let last = shrunk_in shrunk first.speech.run in
    let after = g.G.Ground.outside c.serve_step-in-loop-lines.new.base in
    let are_texts = c.as_slice-in-loop-lines.ensures.value ∙ are in
    let at : 4294967295 - c.loop-lines.left ≡ count = omega (arith, served.0) in
    let second =
    crash_held (g.K.Speaker.spoke c.loop-lines.speaker) g.K.Speaker.broken heard (4294967295 - c.loop-lines.left) count capacity first.now last mid _ texts at are_texts after (c.in_err-count.ensures.serves.2 tells_there capacity first.now last first.stands).1 in
    step_crash capacity shrunk start old (held most_bytes texts) count (omega (arith, inside, held_length texts)) (g.K.Speaker.spoke c.args.speaker.now) (g.K.Speaker.spoke c.loop-lines.speaker) before knows space mid first g.K.Speaker.broken heard after second) in (
      before ++ heard,
      λ stay.
          let there = c.loop-lines.invariant.on.1 stay in
          told_both _ _ before heard _ _ _ there (c.in_err-count.ensures.serves.1 (all_stay _ _ before _ _ there)),
      stops,
      no_ok_on _ c.from_residual-in_err-count.result p.0 p.1,
      on_err c.from_residual-in_err-count.result
          (λ final. absurd (no_final _ c.in_err-count.ensures.faults.source c.in_err-count.ensures.no_many (final_of _ p.0 c.from_residual-in_err-count.result p.1 p.2 final))),
    )

pub returns-then-count-eq0-clause-serves : goal.returns-then-count-eq0-clause-serves
returns-then-count-eq0-clause-serves g c =
    let source = g.S.Source.stream c.args.source.now in
    let now = g.S.Source.stream c.loop-lines.source in
    let new = g.S.Source.stream c.take_lines.new.source in
    let old = g.G.Ground.outside c.args.base.now in
    let pending = c.take_lines.new.pending.items in
    let same = c.loop-lines.invariant.same in
    let before = c.loop-lines.invariant.on.0 in
    let read =
    on_add c.args.input.now source c.loop-lines.lines.items c.loop-lines.input now _ c.loop-lines.invariant.on.2 pending c.take_lines.new.input new same.tells c.in_ok-take_lines.ensures.lines
    (λ count texts more inside served. (served.0, λ tells capacity start shrunk stands. step_more (Speaks 0 start (g.K.Speaker.spoke c.args.speaker.now) (g.K.Speaker.spoke c.loop-lines.speaker)) before capacity start shrunk old texts more count _ _ _ inside (served.1 tells capacity start shrunk stands))) in
    let heard = c.in_ok-count.ensures.serves.0 in
    let stops =
    on_stops c.args.input.now source pending c.take_lines.new.input new _ read
    (λ (texts : List (List ℕ)). IsTrue (g.G.SectorView.space c.args.base.now).tells → (capacity : ℕ) (start : Content) (shrunk : Option ℕ)
    → Stands (g.V.Volume.knows c.args.volume.now (g.G.SectorView.space c.args.base.now) capacity) start start shrunk (g.G.SectorView.space c.args.base.now) old
    → CrashesSpoken (Speaks 0 start (g.K.Speaker.spoke c.args.speaker.now) g.K.Speaker.broken) (before ++ heard) capacity start shrunk old (held most_bytes texts) (g.G.Ground.outside c.serve_step-in-loop-lines.new.base)) new (λ tells. (c.take_lines.new.input, refl))
    (λ count texts inside are served tells capacity start shrunk stands.
    let space = g.G.SectorView.space c.loop-lines.base in
    let mid = g.G.Ground.outside c.loop-lines.base in
    let knows = g.V.Volume.knows c.loop-lines.volume space capacity in
    let first = served.1 tells capacity start shrunk stands in
    let tells_there = c.loop-lines.invariant.tells ∙ tells in
    let last = shrunk_in shrunk first.speech.run in
    let after = g.G.Ground.outside c.serve_step-in-loop-lines.new.base in
    let are_texts = c.as_slice-in-loop-lines.ensures.value ∙ are in
    let at : 4294967295 - c.loop-lines.left ≡ count = omega (arith, served.0) in
    let space_new = g.G.SectorView.space c.serve_step-in-loop-lines.new.base in
    let knows_new = g.V.Volume.knows c.serve_step-in-loop-lines.new.volume space_new capacity in
    let k = c.in_ok-count.count in
    let second =
    step_held (g.K.Speaker.spoke c.loop-lines.speaker) (g.K.Speaker.spoke c.serve_step-in-loop-lines.new.speaker) heard (4294967295 - c.loop-lines.left) count capacity first.now last mid _ texts at are_texts k knows_new space_new after (c.in_ok-count.ensures.serves.2 tells_there capacity first.now last first.stands).0 in
    step_ends capacity shrunk start old (held most_bytes texts) (Speaks 0 start (g.K.Speaker.spoke c.args.speaker.now) (g.K.Speaker.spoke c.serve_step-in-loop-lines.new.speaker)) (Speaks 0 start (g.K.Speaker.spoke c.args.speaker.now) g.K.Speaker.broken) (before ++ heard) (count + k) knows_new space_new after (λ speech. speaks_more 0 start (g.K.Speaker.spoke c.args.speaker.now) (g.K.Speaker.spoke c.serve_step-in-loop-lines.new.speaker) g.K.Speaker.broken speech (g.met.K.Speaker.whole c.serve_step-in-loop-lines.new.speaker))
    (step_both capacity shrunk start old (held most_bytes texts) count (omega (arith, inside, held_length texts)) (g.K.Speaker.spoke c.args.speaker.now) (g.K.Speaker.spoke c.loop-lines.speaker) before knows space mid first (g.K.Speaker.spoke c.serve_step-in-loop-lines.new.speaker) heard k knows_new space_new after second)) in (
      before ++ heard,
      λ stay.
          let there = c.loop-lines.invariant.on.1 stay in
          told_both _ _ before heard _ _ _ there (c.in_ok-count.ensures.serves.1 (all_stay _ _ before _ _ there)),
      stops,
      tt,
      λ final. absurd final,
    )

pub serve_step-requires-in-loop-lines-clause-numbers : goal.serve_step-requires-in-loop-lines-clause-numbers
serve_step-requires-in-loop-lines-clause-numbers g c =
    omega (arith, c.loop-lines.invariant.bound, c.in_ok-take_lines.ensures.left, ap (λ (l : List (List ℕ)). length l) c.as_slice-in-loop-lines.ensures.value)

pub returns-in_err-serve_step-clause-cut : goal.returns-in_err-serve_step-clause-cut
returns-in_err-serve_step-clause-cut g c tells =
    on_err c.from_residual.result (0, λ told. omega arith, first_cut _ g.K.Speaker.often _ _ _ (c.as_slice.ensures.value ∙ c.new-lines.ensures.items) (c.in_err-serve_step.ensures.cut tells))

pub returns-in_err-take_lines-clause-cut : goal.returns-in_err-take_lines-clause-cut
returns-in_err-take_lines-clause-cut g c tells =
    let on = c.loop-lines.invariant.on.2 in
    on_err c.from_residual-in_err-take_lines.result (
      4294967295 - c.loop-lines.left,
      λ told. omega (arith, on.1.0, on.0.inside, most_lines c.args.input.now (g.S.Source.stream c.args.source.now) on.0.texts c.loop-lines.input (g.S.Source.stream c.loop-lines.source) (on.0.takes told)),
      batches_more _ g.K.Speaker.often 1 (4294967295 - c.loop-lines.left) _ _ (c.loop-lines.invariant.commits tells),
    )

pub returns-in_err-count-clause-cut : goal.returns-in_err-count-clause-cut
returns-in_err-count-clause-cut g c tells =
    let source = g.S.Source.stream c.args.source.now in
    let now = g.S.Source.stream c.loop-lines.source in
    let new = g.S.Source.stream c.take_lines.new.source in
    let pending = c.take_lines.new.pending.items in
    let same = c.loop-lines.invariant.same in
    let cut = c.in_err-count.ensures.cut (c.loop-lines.invariant.tells ∙ tells) in
    let few = subst (λ (l : List (List ℕ)). cut.0 ≤ length l) c.as_slice-in-loop-lines.ensures.value cut.1 in
    let read =
    on_add c.args.input.now source c.loop-lines.lines.items c.loop-lines.input now (λ (count : ℕ) (texts : List (List ℕ)). count + c.loop-lines.left ≡ 4294967295) (c.loop-lines.invariant.on.2.0, c.loop-lines.invariant.on.2.1.0) pending c.take_lines.new.input new same.tells c.in_ok-take_lines.ensures.lines
    (λ count texts more inside served. served) in
    let served =
    on_serve c.args.input.now source pending c.take_lines.new.input new _ read (λ (count : ℕ) (texts : List (List ℕ)). count ≡ 4294967295 - c.loop-lines.left + cut.0) cut.0 (drop cut.0 pending) few refl
    (λ count texts inside are was. omega (arith, was)) in
    on_err c.from_residual-in_err-count.result (
      4294967295 - c.loop-lines.left + cut.0,
      λ told. omega (arith, served.1, served.0.inside, most_lines c.args.input.now source served.0.texts c.take_lines.new.input new (served.0.takes told)),
      batch_on _ g.K.Speaker.often 1 2 (4294967295 - c.loop-lines.left) cut.0 (4294967295 - c.loop-lines.left + cut.0) _ _ _ (c.loop-lines.invariant.commits tells) cut.2 (omega arith) (omega arith),
    )

pub returns-then-count-eq0-clause-cut : goal.returns-then-count-eq0-clause-cut
returns-then-count-eq0-clause-cut g c tells =
    let on = c.loop-lines.invariant.on.2 in
    let none : c.in_ok-count.count ≡ 0 = grind (arith, nat_tests, c.if-count-eq0.true) in (
      4294967295 - c.loop-lines.left,
      λ told. omega (arith, on.1.0, on.0.inside, most_lines c.args.input.now (g.S.Source.stream c.args.source.now) on.0.texts c.loop-lines.input (g.S.Source.stream c.loop-lines.source) (on.0.takes told)),
      batch_on _ g.K.Speaker.often 1 2 (4294967295 - c.loop-lines.left) c.in_ok-count.count (4294967295 - c.loop-lines.left) _ _ _ (c.loop-lines.invariant.commits tells) (c.in_ok-count.ensures.once (c.loop-lines.invariant.tells ∙ tells)) (omega arith) (omega (arith, none)),
    )
