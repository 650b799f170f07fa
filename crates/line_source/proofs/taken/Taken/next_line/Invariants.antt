use Rattle.line_source.specs.Input.{weight}
use Rattle.line_source.proofs.Reading.{Reads}
use Rattle.line_source.proofs.taken.Taken.next_line.Given as goal

abbrev pub invariant-loop-line : goal.invariant-loop-line
invariant-loop-line g l = Reads l.limit l.initial.self (g.S.Source.stream l.initial.source) l.self (g.S.Source.stream l.source) l.line.items

abbrev pub decreases-loop-line : goal.decreases-loop-line
decreases-loop-line g l = weight l.self (g.S.Source.stream l.source)
