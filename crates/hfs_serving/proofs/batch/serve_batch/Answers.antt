use Rattle.std.proofs.Common.{◌∙◌, ◌+◌, ◌*◌, sym, subst, arith}
use Rattle.std.specs.Prelude.{IsTrue}
use Rattle.hfs_serving.proofs.Going.{on_err, stands_there}
use Rattle.hfs_serving.proofs.Speeches.{batch_rests, lines_end, rested_stops, stands_in_lines, stands_rested}
use Rattle.std.proofs.lemmas.Result.{err_from_is_err_and}
use Rattle.hfs_serving.proofs.Numbering.{no_trouble, too_many}
use Rattle.hfs_serving.proofs.Causes.{counts_both, counts_none, fine_stop, handed_on, handed_stop}
use Rattle.hfs_serving.proofs.Caused.{causes_more, commits_on}
use Rattle.hfs_serving.proofs.batch.serve_batch.Goals as goal

pub returns-in_err-count-clause-stops : goal.returns-in_err-count-clause-stops
returns-in_err-count-clause-stops g c tells capacity start shrunk stands = on_err c.from_residual.result (c.in_err-count.ensures.stops tells capacity start start shrunk stands)

pub come_to_rest-requires-clause-serves : goal.come_to_rest-requires-clause-serves
come_to_rest-requires-clause-serves g c =
    let there = c.requires.serves in
    let still = c.in_ok-count.ensures.still there.0 there.1 there.2 in
    (there.0, still.0, still.1)

pub come_to_rest-requires-clause-stands : goal.come_to_rest-requires-clause-stands
come_to_rest-requires-clause-stands g c tells_new =
    let tells = subst (λ t. IsTrue t) c.in_ok-count.ensures.tells tells_new in
    let there = c.requires.stands tells in
    let first = c.in_ok-count.ensures.goes tells there.0 there.1 there.2 there.3 there.4 in
    let space = g.G.SectorView.space c.serve_lines.new.base in
    (there.0, first.goes.last, first.goes.next, _, stands_in_lines there.0 there.3 there.1 there.2 (g.G.Ground.outside c.args.base.now) c.args.number (g.K.Speaker.spoke c.args.speaker.now) (g.K.Speaker.spoke c.serve_lines.new.speaker) c.args.lines.now c.args.told.now c.in_ok-count.count c.in_ok-count.ensures.few (g.V.Volume.knows c.serve_lines.new.volume space there.0) c.serve_lines.new.told space (g.G.Ground.outside c.serve_lines.new.base) first)

pub returns-in_err-come_to_rest-clause-stops : goal.returns-in_err-come_to_rest-clause-stops
returns-in_err-come_to_rest-clause-stops g c tells capacity start shrunk stands =
    let old = g.G.Ground.outside c.args.base.now in
    let space = g.G.SectorView.space c.serve_lines.new.base in
    let mid = g.G.Ground.outside c.serve_lines.new.base in
    let knows = g.V.Volume.knows c.serve_lines.new.volume space capacity in
    let first = c.in_ok-count.ensures.goes tells capacity start start shrunk stands in
    let there = stands_in_lines capacity shrunk start start old c.args.number (g.K.Speaker.spoke c.args.speaker.now) (g.K.Speaker.spoke c.serve_lines.new.speaker) c.args.lines.now c.args.told.now c.in_ok-count.count c.in_ok-count.ensures.few knows c.serve_lines.new.told space mid first in
    on_err c.from_residual-in_err-come_to_rest.result
    (lines_end capacity shrunk start start old c.args.number (g.K.Speaker.spoke c.args.speaker.now) (g.K.Speaker.spoke c.serve_lines.new.speaker) c.args.lines.now c.args.told.now c.in_ok-count.count c.in_ok-count.ensures.few knows c.serve_lines.new.told space mid first g.K.Speaker.broken (g.met.K.Speaker.whole c.serve_lines.new.speaker) (g.G.Ground.outside c.come_to_rest.new.base)
    (c.in_err-come_to_rest.ensures.stops (c.in_ok-count.ensures.tells ∙ tells) capacity first.goes.last first.goes.next _ there))

pub commit-requires-clause-serves : goal.commit-requires-clause-serves
commit-requires-clause-serves g c =
    let there = c.requires.serves in
    let still = c.in_ok-count.ensures.still there.0 there.1 there.2 in
    let rest = c.in_ok-come_to_rest.ensures.still there.0 still.0 still.1 in
    (there.0, rest.0, rest.1)

pub commit-requires-clause-stands : goal.commit-requires-clause-stands
commit-requires-clause-stands g c tells_new =
    let tells_mid = subst (λ t. IsTrue t) c.in_ok-come_to_rest.ensures.tells tells_new in
    let tells = subst (λ t. IsTrue t) c.in_ok-count.ensures.tells tells_mid in
    let given = c.requires.stands tells in
    let capacity = given.0 in
    let first = c.in_ok-count.ensures.goes tells capacity given.1 given.2 given.3 given.4 in
    let space = g.G.SectorView.space c.serve_lines.new.base in
    let mid = g.G.Ground.outside c.serve_lines.new.base in
    let knows = g.V.Volume.knows c.serve_lines.new.volume space capacity in
    let there = stands_in_lines capacity given.3 given.1 given.2 (g.G.Ground.outside c.args.base.now) c.args.number (g.K.Speaker.spoke c.args.speaker.now) (g.K.Speaker.spoke c.serve_lines.new.speaker) c.args.lines.now c.args.told.now c.in_ok-count.count c.in_ok-count.ensures.few knows c.serve_lines.new.told space mid first in
    let new = g.G.SectorView.space c.come_to_rest.new.base in
    let end = g.G.Ground.outside c.come_to_rest.new.base in
    let knows_mid = g.V.Volume.knows c.come_to_rest.new.volume new capacity in
    let rested = c.in_ok-come_to_rest.ensures.rests tells_mid capacity first.goes.last first.goes.next _ there in
    (capacity, rested.tidy.last, rested.tidy.next, _, stands_there capacity _ first.goes.last first.goes.next mid knows_mid new end rested.tidy)

pub returns-in_err-commit-clause-stops : goal.returns-in_err-commit-clause-stops
returns-in_err-commit-clause-stops g c tells capacity start shrunk stands =
    let tells_mid = subst (λ t. IsTrue t) (sym c.in_ok-count.ensures.tells) tells in
    let first = c.in_ok-count.ensures.goes tells capacity start start shrunk stands in
    let old = g.G.Ground.outside c.args.base.now in
    let space = g.G.SectorView.space c.serve_lines.new.base in
    let mid = g.G.Ground.outside c.serve_lines.new.base in
    let knows = g.V.Volume.knows c.serve_lines.new.volume space capacity in
    let there = stands_in_lines capacity shrunk start start old c.args.number (g.K.Speaker.spoke c.args.speaker.now) (g.K.Speaker.spoke c.serve_lines.new.speaker) c.args.lines.now c.args.told.now c.in_ok-count.count c.in_ok-count.ensures.few knows c.serve_lines.new.told space mid first in
    let new = g.G.SectorView.space c.come_to_rest.new.base in
    let end = g.G.Ground.outside c.come_to_rest.new.base in
    let knows_mid = g.V.Volume.knows c.come_to_rest.new.volume new capacity in
    let rested = c.in_ok-come_to_rest.ensures.rests tells_mid capacity first.goes.last first.goes.next _ there in
    on_err c.from_residual-in_err-commit.result
    (rested_stops c.in_ok-count.count capacity shrunk start old c.args.number (g.K.Speaker.spoke c.args.speaker.now) (g.K.Speaker.spoke c.serve_lines.new.speaker) c.args.lines.now c.in_ok-count.ensures.few c.args.told.now c.serve_lines.new.told knows space mid first knows_mid new end rested g.K.Speaker.broken (g.met.K.Speaker.whole c.serve_lines.new.speaker) (g.G.Ground.outside c.commit.new.base)
    (c.commit.ensures.crash (subst (λ t. IsTrue t) (sym c.in_ok-come_to_rest.ensures.tells) tells_mid)))

pub returns-clause-serves : goal.returns-clause-serves
returns-clause-serves g c tells capacity start shrunk stands =
    let tells_mid = subst (λ t. IsTrue t) (sym c.in_ok-count.ensures.tells) tells in
    let first = c.in_ok-count.ensures.goes tells capacity start start shrunk stands in
    let old = g.G.Ground.outside c.args.base.now in
    let space = g.G.SectorView.space c.serve_lines.new.base in
    let mid = g.G.Ground.outside c.serve_lines.new.base in
    let knows = g.V.Volume.knows c.serve_lines.new.volume space capacity in
    let there = stands_in_lines capacity shrunk start start old c.args.number (g.K.Speaker.spoke c.args.speaker.now) (g.K.Speaker.spoke c.serve_lines.new.speaker) c.args.lines.now c.args.told.now c.in_ok-count.count c.in_ok-count.ensures.few knows c.serve_lines.new.told space mid first in
    let new = g.G.SectorView.space c.come_to_rest.new.base in
    let end = g.G.Ground.outside c.come_to_rest.new.base in
    let knows_mid = g.V.Volume.knows c.come_to_rest.new.volume new capacity in
    let rested = c.in_ok-come_to_rest.ensures.rests tells_mid capacity first.goes.last first.goes.next _ there in
    let stands_mid = stands_rested c.in_ok-count.count capacity shrunk start old c.args.number (g.K.Speaker.spoke c.args.speaker.now) (g.K.Speaker.spoke c.serve_lines.new.speaker) c.args.lines.now c.in_ok-count.ensures.few c.args.told.now c.serve_lines.new.told knows space mid first knows_mid new end rested in
    let tells_end = subst (λ t. IsTrue t) (sym c.in_ok-come_to_rest.ensures.tells) tells_mid in
    let last = g.G.SectorView.space c.commit.new.base in
    batch_rests c.in_ok-count.count capacity shrunk start old c.args.number (g.K.Speaker.spoke c.args.speaker.now) (g.K.Speaker.spoke c.serve_lines.new.speaker) c.args.lines.now c.in_ok-count.ensures.few c.args.told.now c.serve_lines.new.told knows space mid first knows_mid new end rested (g.V.Volume.knows c.commit.new.self last capacity) last
    (g.G.Ground.outside c.commit.new.base) (c.in_ok-commit.ensures.done tells_end) (c.in_ok-commit.ensures.knows tells_end capacity rested.tidy.last rested.tidy.next _ stands_mid)

pub returns-in_err-count-clause-faults : goal.returns-in_err-count-clause-faults
returns-in_err-count-clause-faults g c =
    let p = err_from_is_err_and c.from_residual.result c.from_residual.ensures.1 in
    handed_on (counts_none _ _) ⊥ ⊥ _ p.0 c.from_residual.result (λ never. never) c.in_err-count.ensures.faults p.1 p.2

pub returns-in_err-come_to_rest-clause-faults : goal.returns-in_err-come_to_rest-clause-faults
returns-in_err-come_to_rest-clause-faults g c =
    let p = err_from_is_err_and c.from_residual-in_err-come_to_rest.result c.from_residual-in_err-come_to_rest.ensures.1 in
    handed_on (c.serve_lines.ensures.faults.counts) ⊥ ⊥ _ p.0 c.from_residual-in_err-come_to_rest.result (λ never. never) c.in_err-come_to_rest.ensures.faults p.1 p.2

pub returns-in_err-commit-clause-faults : goal.returns-in_err-commit-clause-faults
returns-in_err-commit-clause-faults g c =
    let p = err_from_is_err_and c.from_residual-in_err-commit.result c.from_residual-in_err-commit.ensures.1 in
    handed_stop (counts_both c.serve_lines.ensures.faults.counts c.come_to_rest.ensures.faults.counts) ⊥ _ p.0 c.from_residual-in_err-commit.result c.in_err-commit.ensures.faults p.1 p.2

pub returns-clause-faults : goal.returns-clause-faults
returns-clause-faults g c =
    fine_stop (counts_both (counts_both c.serve_lines.ensures.faults.counts c.come_to_rest.ensures.faults.counts) c.commit.ensures.faults.counts) ⊥ _

pub returns-in_err-count-clause-no_many : goal.returns-in_err-count-clause-no_many
returns-in_err-count-clause-no_many g c is =
    let p = err_from_is_err_and c.from_residual.result c.from_residual.ensures.1 in
    c.in_err-count.ensures.no_many (too_many _ p.0 c.from_residual.result p.1 p.2 is)

pub returns-in_err-come_to_rest-clause-no_many : goal.returns-in_err-come_to_rest-clause-no_many
returns-in_err-come_to_rest-clause-no_many g c is =
    let p = err_from_is_err_and c.from_residual-in_err-come_to_rest.result c.from_residual-in_err-come_to_rest.ensures.1 in
    c.in_err-come_to_rest.ensures.no_many (too_many _ p.0 c.from_residual-in_err-come_to_rest.result p.1 p.2 is)

pub returns-in_err-commit-clause-no_many : goal.returns-in_err-commit-clause-no_many
returns-in_err-commit-clause-no_many g c is =
    let p = err_from_is_err_and c.from_residual-in_err-commit.result c.from_residual-in_err-commit.ensures.1 in
    no_trouble _ p.0 c.from_residual-in_err-commit.result p.1 p.2 is

pub returns-clause-once : goal.returns-clause-once
returns-clause-once g c tells =
    record {
      ending = (g.G.SectorView.space c.come_to_rest.new.base).barriers;
      before = commits_on _ (g.K.Speaker.often * (c.in_ok-count.count + 2)) 8 (g.K.Speaker.often * (c.in_ok-count.count + 2) + 8) _ _ _ _ (c.in_ok-count.ensures.caused tells) (omega arith) (c.come_to_rest.ensures.caused (c.in_ok-count.ensures.tells ∙ tells)) (omega arith);
      last = c.commit.ensures.barriers;
    }

pub returns-in_err-count-clause-cut : goal.returns-in_err-count-clause-cut
returns-in_err-count-clause-cut g c tells =
    let often = g.K.Speaker.often in
    let cut = c.in_err-count.ensures.cut tells in
    on_err c.from_residual.result (cut.0, cut.1, record { ending = (g.G.SectorView.space c.serve_lines.new.base).barriers; before = causes_more _ (often * (cut.0 + 2)) (often * (cut.0 + 2) + 8) _ _ cut.2 (omega arith); last = omega arith })

pub returns-in_err-come_to_rest-clause-cut : goal.returns-in_err-come_to_rest-clause-cut
returns-in_err-come_to_rest-clause-cut g c tells =
    let often = g.K.Speaker.often in
    on_err c.from_residual-in_err-come_to_rest.result (
      c.in_ok-count.count,
      c.in_ok-count.ensures.few,
      record {
        ending = (g.G.SectorView.space c.come_to_rest.new.base).barriers;
        before = commits_on _ (often * (c.in_ok-count.count + 2)) 8 (often * (c.in_ok-count.count + 2) + 8) _ _ _ _ (c.in_ok-count.ensures.caused tells) (omega arith) (c.come_to_rest.ensures.caused (c.in_ok-count.ensures.tells ∙ tells)) (omega arith);
        last = omega arith;
      },
    )

pub returns-in_err-commit-clause-cut : goal.returns-in_err-commit-clause-cut
returns-in_err-commit-clause-cut g c tells =
    let often = g.K.Speaker.often in
    on_err c.from_residual-in_err-commit.result (
      c.in_ok-count.count,
      c.in_ok-count.ensures.few,
      record {
        ending = (g.G.SectorView.space c.come_to_rest.new.base).barriers;
        before = commits_on _ (often * (c.in_ok-count.count + 2)) 8 (often * (c.in_ok-count.count + 2) + 8) _ _ _ _ (c.in_ok-count.ensures.caused tells) (omega arith) (c.come_to_rest.ensures.caused (c.in_ok-count.ensures.tells ∙ tells)) (omega arith);
        last = c.commit.ensures.barriers;
      },
    )
