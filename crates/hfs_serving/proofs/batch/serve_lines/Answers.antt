use Rattle.std.proofs.Common.{◌≡◌, ◌++◌, ◌+◌, ◌*◌, ◌∷◌, [], ℕ, List, inl, inr, refl, sym, ◌∙◌, ap, subst, take, length, arith}
use Rattle.std.specs.Prelude.{IsTrue, Bool, true, false}
use Rattle.std.proofs.Math.Nat.{mul-one}
use Rattle.std.proofs.lemmas.Bool.Decides.{nat_tests}
use Rattle.std.proofs.lemmas.List.{append-nil, take_more}
use Rattle.hfs_serving.specs.Speaking.{SpeaksLine, SpeaksLines}
use Rattle.volume_runs.specs.Run.{shrunk_in}
use Rattle.hfs_serving.proofs.Going.{on_err}
use Rattle.hfs_serving.proofs.Speeches.{begin_stops, line_stops, lines_on, spoken_ahead, stands_in_lines}
use Rattle.hfs_serving.proofs.Syncing.{no_end_more, no_end_yet}
use Rattle.std.proofs.lemmas.Result.{err_from_is_err_and}
use Rattle.hfs_serving.proofs.Numbering.{too_many}
use Rattle.hfs_serving.proofs.Causes.{counts_both, counts_none, fine_stop, handed_on}
use Rattle.hfs_serving.proofs.Caused.{causes_more, commits_on, more_often, one_more_often}
use Rattle.hfs_serving.proofs.batch.serve_lines.Goals as goal

pub returns-in_err-begin-clause-stops : goal.returns-in_err-begin-clause-stops
returns-in_err-begin-clause-stops g c tells capacity committed now shrunk stands =
    let from = g.K.Speaker.spoke c.args.speaker.now in
    let knows = g.V.Volume.knows c.args.volume.now (g.G.SectorView.space c.args.base.now) capacity in
    on_err c.from_residual.result
    (begin_stops capacity shrunk committed now (g.G.Ground.outside c.args.base.now) (g.G.Ground.outside c.begin.new.base) c.args.number from g.K.Speaker.broken c.args.lines.now (c.in_err-begin.ensures.stops tells capacity committed now shrunk c.args.number stands))

pub returns-in_err-begin-clause-faults : goal.returns-in_err-begin-clause-faults
returns-in_err-begin-clause-faults g c =
    let p = err_from_is_err_and c.from_residual.result c.from_residual.ensures.1 in
    handed_on (counts_none _ _) ⊥ ⊥ _ p.0 c.from_residual.result (λ never. never) c.in_err-begin.ensures.faults p.1 p.2

pub returns-in_err-begin-clause-no_many : goal.returns-in_err-begin-clause-no_many
returns-in_err-begin-clause-no_many g c is =
    let p = err_from_is_err_and c.from_residual.result c.from_residual.ensures.1 in
    c.in_err-begin.ensures.no_many (too_many _ p.0 c.from_residual.result p.1 p.2 is)

pub loop-at-init : goal.loop-at-init
loop-at-init g c = record {
  most = omega arith;
  no_end = λ front few. no_end_yet g.K.Speaker.ends c.args.lines.now front few;
  counts = c.begin.ensures.faults.counts;
  anchor = c.begin.ensures.anchor;
  tells = c.in_ok-begin.ensures.tells;
  serves = λ capacity serves taken. c.in_ok-begin.ensures.still capacity serves taken;
  caused = λ tells. causes_more _ g.K.Speaker.often (g.K.Speaker.often * 1) _ _ (c.begin.ensures.caused tells) (omega (arith, mul-one g.K.Speaker.often));
  goes = λ tells capacity committed now shrunk stands.
      let space = g.G.SectorView.space c.begin.new.base in
      spoken_ahead capacity shrunk committed now (g.G.Ground.outside c.args.base.now) c.args.number (g.K.Speaker.spoke c.args.speaker.now) (g.K.Speaker.spoke c.begin.new.self) c.args.lines.now c.args.told.now (g.V.Volume.knows c.begin.new.volume space capacity) space
      (g.G.Ground.outside c.begin.new.base) (c.in_ok-begin.ensures.goes tells capacity committed now shrunk c.args.number stands);
}

pub serve_line-requires-clause-serves : goal.serve_line-requires-clause-serves
serve_line-requires-clause-serves g c =
    let there = c.requires.serves in
    let still = c.loop-at.invariant.serves there.0 there.1 there.2 in
    (there.0, still.0, still.1)

pub serve_line-requires-clause-stands : goal.serve_line-requires-clause-stands
serve_line-requires-clause-stands g c tells_there =
    let tells = subst (λ t. IsTrue t) c.loop-at.invariant.tells tells_there in
    let there = c.requires.stands tells in
    let first = c.loop-at.invariant.goes tells there.0 there.1 there.2 there.3 there.4 in
    let space = g.G.SectorView.space c.loop-at.base in
    (there.0, first.goes.last, first.goes.next, _, stands_in_lines there.0 there.3 there.1 there.2 (g.G.Ground.outside c.args.base.now) c.args.number (g.K.Speaker.spoke c.args.speaker.now) (g.K.Speaker.spoke c.loop-at.speaker) c.args.lines.now c.args.told.now c.loop-at.at (omega (arith, c.loop-at.auto.at-end)) (g.V.Volume.knows c.loop-at.volume space there.0) c.loop-at.told space (g.G.Ground.outside c.loop-at.base) first)

pub returns-in_err-serve_line-clause-stops : goal.returns-in_err-serve_line-clause-stops
returns-in_err-serve_line-clause-stops g c tells capacity committed now shrunk stands =
    let old = g.G.Ground.outside c.args.base.now in
    let space = g.G.SectorView.space c.loop-at.base in
    let mid = g.G.Ground.outside c.loop-at.base in
    let knows = g.V.Volume.knows c.loop-at.volume space capacity in
    let first = c.loop-at.invariant.goes tells capacity committed now shrunk stands in
    let there = stands_in_lines capacity shrunk committed now old c.args.number (g.K.Speaker.spoke c.args.speaker.now) (g.K.Speaker.spoke c.loop-at.speaker) c.args.lines.now c.args.told.now c.loop-at.at (omega (arith, c.loop-at.auto.at-end)) knows c.loop-at.told space mid first in
    let line = c.index-lines-at.result in
    let next : take c.loop-at.at c.args.lines.now ++ line ∷ [] ≡ take (c.loop-at.at + 1) c.args.lines.now =
    ap (λ (l : List ℕ). take c.loop-at.at c.args.lines.now ++ l ∷ []) (c.index-lines-at.is) ∙ sym (take_more c.args.lines.now c.loop-at.at c.index-lines-at.result c.loop-at-test.true) in
    on_err c.from_residual-in_err-serve_line.result
    (line_stops capacity shrunk committed now old c.args.number (g.K.Speaker.spoke c.args.speaker.now) (g.K.Speaker.spoke c.loop-at.speaker) c.args.lines.now c.args.told.now c.loop-at.at (omega (arith, c.loop-at.auto.at-end)) knows c.loop-at.told space mid first g.K.Speaker.broken line (g.G.Ground.outside c.serve_line.new.base) next
    (c.in_err-serve_line.ensures.stops (c.loop-at.invariant.tells ∙ tells) capacity first.goes.last first.goes.next _ there))

pub returns-then-not-branch-clause-goes : goal.returns-then-not-branch-clause-goes
returns-then-not-branch-clause-goes g c tells capacity committed now shrunk stands =
    let old = g.G.Ground.outside c.args.base.now in
    let space = g.G.SectorView.space c.loop-at.base in
    let mid = g.G.Ground.outside c.loop-at.base in
    let knows = g.V.Volume.knows c.loop-at.volume space capacity in
    let first = c.loop-at.invariant.goes tells capacity committed now shrunk stands in
    let there = stands_in_lines capacity shrunk committed now old c.args.number (g.K.Speaker.spoke c.args.speaker.now) (g.K.Speaker.spoke c.loop-at.speaker) c.args.lines.now c.args.told.now c.loop-at.at (omega (arith, c.loop-at.auto.at-end)) knows c.loop-at.told space mid first in
    let new = g.G.SectorView.space c.serve_line.new.base in
    let end = g.G.Ground.outside c.serve_line.new.base in
    let knows_new = g.V.Volume.knows c.serve_line.new.volume new capacity in
    let second = c.in_ok-serve_line.ensures.goes (c.loop-at.invariant.tells ∙ tells) capacity first.goes.last first.goes.next _ there in
    lines_on capacity shrunk committed now old c.args.number (g.K.Speaker.spoke c.args.speaker.now) (g.K.Speaker.spoke c.loop-at.speaker) c.args.lines.now c.args.told.now c.loop-at.at (omega (arith, c.loop-at.auto.at-end)) knows c.loop-at.told space mid first (g.K.Speaker.spoke c.serve_line.new.self) knows_new false c.index-lines-at.result c.serve_line.new.told new end c.loop-at.at (append-nil (take c.loop-at.at c.args.lines.now))
    (subst (λ (b : Bool). SpeaksLine b capacity knows_new first.goes.last first.goes.next (shrunk_in shrunk first.goes.speech.run) mid (c.args.number + c.loop-at.at) (g.K.Speaker.spoke c.loop-at.speaker) (g.K.Speaker.spoke c.serve_line.new.self) c.index-lines-at.result c.loop-at.told c.serve_line.new.told new end) c.if-not-branch.true second)

pub returns-then-ends_batch-clause-goes : goal.returns-then-ends_batch-clause-goes
returns-then-ends_batch-clause-goes g c tells capacity committed now shrunk stands =
    let old = g.G.Ground.outside c.args.base.now in
    let space = g.G.SectorView.space c.loop-at.base in
    let mid = g.G.Ground.outside c.loop-at.base in
    let knows = g.V.Volume.knows c.loop-at.volume space capacity in
    let first = c.loop-at.invariant.goes tells capacity committed now shrunk stands in
    let there = stands_in_lines capacity shrunk committed now old c.args.number (g.K.Speaker.spoke c.args.speaker.now) (g.K.Speaker.spoke c.loop-at.speaker) c.args.lines.now c.args.told.now c.loop-at.at (omega (arith, c.loop-at.auto.at-end)) knows c.loop-at.told space mid first in
    let new = g.G.SectorView.space c.serve_line.new.base in
    let end = g.G.Ground.outside c.serve_line.new.base in
    let knows_new = g.V.Volume.knows c.serve_line.new.volume new capacity in
    let second = c.in_ok-serve_line.ensures.goes (c.loop-at.invariant.tells ∙ tells) capacity first.goes.last first.goes.next _ there in
    let line = c.index-lines-at.result in
    let next : take c.loop-at.at c.args.lines.now ++ line ∷ [] ≡ take (c.loop-at.at + 1) c.args.lines.now =
    ap (λ (l : List ℕ). take c.loop-at.at c.args.lines.now ++ l ∷ []) (c.index-lines-at.is) ∙ sym (take_more c.args.lines.now c.loop-at.at c.index-lines-at.result c.loop-at-test.true) in
    lines_on capacity shrunk committed now old c.args.number (g.K.Speaker.spoke c.args.speaker.now) (g.K.Speaker.spoke c.loop-at.speaker) c.args.lines.now c.args.told.now c.loop-at.at (omega (arith, c.loop-at.auto.at-end)) knows c.loop-at.told space mid first (g.K.Speaker.spoke c.serve_line.new.self) knows_new true line c.serve_line.new.told new end (c.loop-at.at + 1) next
    (subst (λ (b : Bool). SpeaksLine b capacity knows_new first.goes.last first.goes.next (shrunk_in shrunk first.goes.speech.run) mid (c.args.number + c.loop-at.at) (g.K.Speaker.spoke c.loop-at.speaker) (g.K.Speaker.spoke c.serve_line.new.self) line c.loop-at.told c.serve_line.new.told new end) c.if-not-branch.false second)

pub loop-at-preserved : goal.loop-at-preserved
loop-at-preserved g c = record {
  most = omega (arith, c.if-at-eq-MOST_LINES.false, c.loop-at.invariant.most);
  no_end =
      let all = c.args.lines.now in
      let line = c.index-lines-at-in-loop-at.result in
      let next : take c.loop-at.at all ++ line ∷ [] ≡ take (c.loop-at.at + 1) all =
      ap (λ (l : List ℕ). take c.loop-at.at all ++ l ∷ []) (c.index-lines-at-in-loop-at.is) ∙ sym (take_more all c.loop-at.at c.index-lines-at-in-loop-at.result c.loop-at-test.true) in
      no_end_more g.K.Speaker.ends all c.loop-at.at line next c.ends_batch.result c.ends_batch.ensures c.if-ends_batch.false c.loop-at.invariant.no_end;
  counts = counts_both c.loop-at.invariant.counts c.serve_line.ensures.faults.counts;
  anchor = c.serve_line.ensures.anchor ∙ c.loop-at.invariant.anchor;
  tells = c.in_ok-serve_line.ensures.tells ∙ c.loop-at.invariant.tells;
  serves = λ capacity serves taken. let was = c.loop-at.invariant.serves capacity serves taken in c.in_ok-serve_line.ensures.still capacity was.0 was.1;
  caused = λ tells.
      let often = g.K.Speaker.often in
      commits_on _ (often * (c.loop-at.at + 1)) often (often * (c.loop-at.at + 1 + 1)) _ _ _ _ (c.loop-at.invariant.caused tells) (omega arith) (c.serve_line.ensures.caused (c.loop-at.invariant.tells ∙ tells))
      (one_more_often often (c.loop-at.at + 1) (c.loop-at.at + 1 + 1) (omega arith));
  goes = λ tells capacity committed now shrunk stands.
      let old = g.G.Ground.outside c.args.base.now in
      let space = g.G.SectorView.space c.loop-at.base in
      let mid = g.G.Ground.outside c.loop-at.base in
      let knows = g.V.Volume.knows c.loop-at.volume space capacity in
      let first = c.loop-at.invariant.goes tells capacity committed now shrunk stands in
      let there = stands_in_lines capacity shrunk committed now old c.args.number (g.K.Speaker.spoke c.args.speaker.now) (g.K.Speaker.spoke c.loop-at.speaker) c.args.lines.now c.args.told.now c.loop-at.at (omega (arith, c.loop-at.auto.at-end)) knows c.loop-at.told space mid first in
      let new = g.G.SectorView.space c.serve_line.new.base in
      let end = g.G.Ground.outside c.serve_line.new.base in
      let knows_new = g.V.Volume.knows c.serve_line.new.volume new capacity in
      let second = c.in_ok-serve_line.ensures.goes (c.loop-at.invariant.tells ∙ tells) capacity first.goes.last first.goes.next _ there in
      let line = c.index-lines-at.result in
      let next : take c.loop-at.at c.args.lines.now ++ line ∷ [] ≡ take (c.loop-at.at + 1) c.args.lines.now =
      ap (λ (l : List ℕ). take c.loop-at.at c.args.lines.now ++ l ∷ []) (c.index-lines-at.is) ∙ sym (take_more c.args.lines.now c.loop-at.at c.index-lines-at.result c.loop-at-test.true) in
      lines_on capacity shrunk committed now old c.args.number (g.K.Speaker.spoke c.args.speaker.now) (g.K.Speaker.spoke c.loop-at.speaker) c.args.lines.now c.args.told.now c.loop-at.at (omega (arith, c.loop-at.auto.at-end)) knows c.loop-at.told space mid first (g.K.Speaker.spoke c.serve_line.new.self) knows_new true line c.serve_line.new.told new end (c.loop-at.at + 1) next
      (subst (λ (b : Bool). SpeaksLine b capacity knows_new first.goes.last first.goes.next (shrunk_in shrunk first.goes.speech.run) mid (c.args.number + c.loop-at.at) (g.K.Speaker.spoke c.loop-at.speaker) (g.K.Speaker.spoke c.serve_line.new.self) line c.loop-at.told c.serve_line.new.told new end) c.if-not-branch.false second);
}

pub returns-clause-goes : goal.returns-clause-goes
returns-clause-goes g c tells capacity committed now shrunk stands =
    let old = g.G.Ground.outside c.args.base.now in
    let space = g.G.SectorView.space c.loop-at.base in
    let all : c.loop-at.at ≡ length c.args.lines.now = omega (arith, c.loop-at-test.false, c.loop-at.auto.at-end) in
    subst (λ (n : ℕ). SpeaksLines n capacity (g.V.Volume.knows c.loop-at.volume space capacity) committed now shrunk old c.args.number (g.K.Speaker.spoke c.args.speaker.now) (g.K.Speaker.spoke c.loop-at.speaker) c.args.lines.now c.args.told.now c.loop-at.told space (g.G.Ground.outside c.loop-at.base)) all
    (c.loop-at.invariant.goes tells capacity committed now shrunk stands)

pub returns-clause-still : goal.returns-clause-still
returns-clause-still g c capacity serves taken = c.loop-at.invariant.serves capacity serves taken

pub returns-clause-tells : goal.returns-clause-tells
returns-clause-tells g c = c.loop-at.invariant.tells

pub returns-then-at-eq-MOST_LINES-clause-faults : goal.returns-then-at-eq-MOST_LINES-clause-faults
returns-then-at-eq-MOST_LINES-clause-faults g c =
    fine_stop c.loop-at.invariant.counts ⊥ _

pub returns-in_err-serve_line-clause-faults : goal.returns-in_err-serve_line-clause-faults
returns-in_err-serve_line-clause-faults g c =
    let p = err_from_is_err_and c.from_residual-in_err-serve_line.result c.from_residual-in_err-serve_line.ensures.1 in
    handed_on (c.loop-at.invariant.counts) ⊥ ⊥ _ p.0 c.from_residual-in_err-serve_line.result (λ never. never) c.in_err-serve_line.ensures.faults p.1 p.2

pub returns-then-not-branch-clause-faults : goal.returns-then-not-branch-clause-faults
returns-then-not-branch-clause-faults g c =
    fine_stop (counts_both c.loop-at.invariant.counts c.serve_line.ensures.faults.counts) ⊥ _

pub returns-then-ends_batch-clause-faults : goal.returns-then-ends_batch-clause-faults
returns-then-ends_batch-clause-faults g c =
    fine_stop (counts_both c.loop-at.invariant.counts c.serve_line.ensures.faults.counts) ⊥ _

pub returns-clause-faults : goal.returns-clause-faults
returns-clause-faults g c =
    fine_stop c.loop-at.invariant.counts ⊥ _

pub returns-in_err-serve_line-clause-no_many : goal.returns-in_err-serve_line-clause-no_many
returns-in_err-serve_line-clause-no_many g c is =
    let p = err_from_is_err_and c.from_residual-in_err-serve_line.result c.from_residual-in_err-serve_line.ensures.1 in
    c.in_err-serve_line.ensures.no_many (too_many _ p.0 c.from_residual-in_err-serve_line.result p.1 p.2 is)

pub returns-then-at-eq-MOST_LINES-clause-caused : goal.returns-then-at-eq-MOST_LINES-clause-caused
returns-then-at-eq-MOST_LINES-clause-caused g c tells =
    let often = g.K.Speaker.often in
    causes_more _ (often * (c.loop-at.at + 1)) (often * (c.loop-at.at + 2)) _ _ (c.loop-at.invariant.caused tells) (more_often often (c.loop-at.at + 1) (c.loop-at.at + 2) (omega arith))

pub returns-then-at-eq-MOST_LINES-clause-ended : goal.returns-then-at-eq-MOST_LINES-clause-ended
returns-then-at-eq-MOST_LINES-clause-ended g c tells = inr (inl (omega (arith, c.if-at-eq-MOST_LINES.true)))

pub returns-then-not-branch-clause-caused : goal.returns-then-not-branch-clause-caused
returns-then-not-branch-clause-caused g c tells =
    let often = g.K.Speaker.often in
    commits_on _ (often * (c.loop-at.at + 1)) often (often * (c.loop-at.at + 2)) _ _ _ _ (c.loop-at.invariant.caused tells) (omega arith) (c.serve_line.ensures.caused (c.loop-at.invariant.tells ∙ tells))
    (one_more_often often (c.loop-at.at + 1) (c.loop-at.at + 2) (omega arith))

pub returns-then-not-branch-clause-ended : goal.returns-then-not-branch-clause-ended
returns-then-not-branch-clause-ended g c tells =
    let left = c.in_ok-serve_line.ensures.left (c.loop-at.invariant.tells ∙ tells) c.if-not-branch.true in
    let next : take c.loop-at.at c.args.lines.now ++ c.index-lines-at.result ∷ [] ≡ take (c.loop-at.at + 1) c.args.lines.now =
    ap (λ (l : List ℕ). take c.loop-at.at c.args.lines.now ++ l ∷ []) (c.index-lines-at.is) ∙ sym (take_more c.args.lines.now c.loop-at.at c.index-lines-at.result c.loop-at-test.true) in
    inr (inr (inr (record { some = grind (arith, nat_tests, left.0); line = c.index-lines-at.result; next = sym next; left = left.1 })))

pub returns-then-ends_batch-clause-caused : goal.returns-then-ends_batch-clause-caused
returns-then-ends_batch-clause-caused g c tells =
    let often = g.K.Speaker.often in
    commits_on _ (often * (c.loop-at.at + 1)) often (often * (c.loop-at.at + 1 + 2)) _ _ _ _ (c.loop-at.invariant.caused tells) (omega arith) (c.serve_line.ensures.caused (c.loop-at.invariant.tells ∙ tells))
    (one_more_often often (c.loop-at.at + 1) (c.loop-at.at + 1 + 2) (omega arith))

pub returns-then-ends_batch-clause-ended : goal.returns-then-ends_batch-clause-ended
returns-then-ends_batch-clause-ended g c tells =
    let line = c.index-lines-at-in-loop-at.result in
    let next : take c.loop-at.at c.args.lines.now ++ line ∷ [] ≡ take (c.loop-at.at + 1) c.args.lines.now =
    ap (λ (l : List ℕ). take c.loop-at.at c.args.lines.now ++ l ∷ []) (c.index-lines-at-in-loop-at.is) ∙ sym (take_more c.args.lines.now c.loop-at.at line c.loop-at-test.true) in
    inr (inr (inl (record { front = c.loop-at.at; count_is = refl; line = line; last = sym next; asked = c.ends_batch.ensures.0 c.if-ends_batch.true })))

pub returns-clause-caused : goal.returns-clause-caused
returns-clause-caused g c tells =
    let often = g.K.Speaker.often in
    causes_more _ (often * (c.loop-at.at + 1)) (often * (length c.args.lines.now + 2)) _ _ (c.loop-at.invariant.caused tells) (more_often often (c.loop-at.at + 1) (length c.args.lines.now + 2) (omega (arith, c.loop-at-test.false, c.loop-at.auto.at-end)))

pub returns-clause-ended : goal.returns-clause-ended
returns-clause-ended g c tells = inl refl

pub returns-in_err-begin-clause-cut : goal.returns-in_err-begin-clause-cut
returns-in_err-begin-clause-cut g c tells =
    let often = g.K.Speaker.often in
    on_err c.from_residual.result (0, omega arith, causes_more _ often (often * 2) _ _ (c.begin.ensures.caused tells) (omega (arith, mul-one often, more_often often 1 2 (omega arith))))

pub returns-in_err-serve_line-clause-cut : goal.returns-in_err-serve_line-clause-cut
returns-in_err-serve_line-clause-cut g c tells =
    let often = g.K.Speaker.often in
    on_err c.from_residual-in_err-serve_line.result (
      c.loop-at.at,
      omega (arith, c.loop-at.auto.at-end),
      commits_on _ (often * (c.loop-at.at + 1)) often (often * (c.loop-at.at + 2)) _ _ _ _ (c.loop-at.invariant.caused tells) (omega arith) (c.serve_line.ensures.caused (c.loop-at.invariant.tells ∙ tells))
          (one_more_often often (c.loop-at.at + 1) (c.loop-at.at + 2) (omega arith)),
    )
