use Rattle.std.proofs.lemmas.Result.{err_from_is_err_and}
use Rattle.hfs_serving.proofs.Causes.{counts_none, fine_stop, handed_stop}
use Rattle.hfs_serving.proofs.Going.{memory_stops_tidy, on_err}
use Rattle.hfs_serving.proofs.Numbering.{no_trouble}
use Rattle.hfs_serving.proofs.housekeeping.come_to_rest.Goals as goal

pub returns-in_err-tidy-clause-stops : goal.returns-in_err-tidy-clause-stops
returns-in_err-tidy-clause-stops g c tells capacity committed now shrunk stands = on_err c.from_residual.result (c.in_err-tidy.ensures.stops tells capacity committed now shrunk stands)

pub returns-then-branch-clause-rests : goal.returns-then-branch-clause-rests
returns-then-branch-clause-rests g c tells capacity committed now shrunk stands = c.in_ok-tidy.ensures.rests tells capacity committed now shrunk stands c.if-branch.true

-- it came to no end
pub returns-clause-stops : goal.returns-clause-stops
returns-clause-stops g c tells capacity committed now shrunk stands =
    let space = g.G.SectorView.space c.tidy.new.base in
    memory_stops_tidy capacity shrunk committed now (g.G.Ground.outside c.args.base.now) (g.V.Volume.knows c.tidy.new.volume space capacity) space (g.G.Ground.outside c.tidy.new.base) (c.in_ok-tidy.ensures.goes tells capacity committed now shrunk stands)

pub returns-in_err-tidy-clause-faults : goal.returns-in_err-tidy-clause-faults
returns-in_err-tidy-clause-faults g c =
    let p = err_from_is_err_and c.from_residual.result c.from_residual.ensures.1 in
    handed_stop (counts_none _ _) ⊥ _ p.0 c.from_residual.result c.in_err-tidy.ensures.faults p.1 p.2

pub returns-then-branch-clause-faults : goal.returns-then-branch-clause-faults
returns-then-branch-clause-faults g c = fine_stop c.tidy.ensures.faults.counts ⊥ _

pub returns-clause-faults : goal.returns-clause-faults
returns-clause-faults g c = record { counts = c.tidy.ensures.faults.counts; disk = λ is. absurd (cc is); sink = λ is. absurd (cc is); source = λ is. absurd (cc is) }

pub returns-in_err-tidy-clause-no_many : goal.returns-in_err-tidy-clause-no_many
returns-in_err-tidy-clause-no_many g c is =
    let p = err_from_is_err_and c.from_residual.result c.from_residual.ensures.1 in
    no_trouble _ p.0 c.from_residual.result p.1 p.2 is
