use Rattle.std.proofs.Common.{sym}
use Rattle.line_source.proofs.Pieces.{part_cut, part_whole}
use Rattle.line_source.proofs.taken.Taken.cut.Goals as goal

pub returns-in_ok-lengthen-in-Some-clause-cuts : goal.returns-in_ok-lengthen-in-Some-clause-cuts
returns-in_ok-lengthen-in-Some-clause-cuts c =
    part_cut c.args.limit c.self.inside.start c.self.inside.end c.in-Some.at c.self.inside.buffer.items c.deref.result.now c.args.self.now c.args.line.now.items c.lengthen.new.line.items
    c.deref.ensures.value (sym c.self.view_is) c.in-Some.ensures.0 c.in-Some.ensures.1 c.in_ok-lengthen-in-Some.ensures

pub returns-in_ok-lengthen-in-None-clause-cuts : goal.returns-in_ok-lengthen-in-None-clause-cuts
returns-in_ok-lengthen-in-None-clause-cuts c =
    part_whole c.args.limit c.self.inside.start c.self.inside.end c.self.inside.buffer.items c.deref.result.now c.args.self.now c.args.line.now.items c.lengthen-in-None.new.line.items
    c.deref.ensures.value (sym c.self.view_is) c.in-None.ensures c.in_ok-lengthen-in-None.ensures
