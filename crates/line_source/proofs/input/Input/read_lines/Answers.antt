use Rattle.line_source.proofs.Adding.{adds_then}
use Rattle.line_source.proofs.input.Input.read_lines.Goals as goal

pub returns-clause-lines : goal.returns-clause-lines
returns-clause-lines g c =
    let old = g.S.Source.stream c.args.source.now in
    let mid = g.S.Source.stream c.read_line.new.source in
    let new = g.S.Source.stream c.read_ready-2.new.source in
    adds_then c.read_ready-2.result c.args.limit c.args.lines.now.items c.read_line.new.lines.items c.read_ready-2.new.lines.items c.args.self.now c.read_line.new.self c.read_ready-2.new.self old mid new
    c.in_ok-added.ensures.lines c.read_ready-2.ensures.lines
