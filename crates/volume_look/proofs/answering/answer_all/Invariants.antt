use Rattle.volume_look.proofs.Going.{Goes}
use Rattle.volume_look.proofs.answering.answer_all.Given as goal

abbrev pub invariant-loop : goal.invariant-loop
invariant-loop g l =
    record {
      goes : Goes l.fn.volume (g.P.SectorView.space l.fn.space) (g.A.Asker.state l.fn.asker) l.volume (g.P.SectorView.space l.space) (g.A.Asker.state l.asker);
      below : g.P.SectorView.follows l.fn.space l.space;
    }
