use Rattle.std.proofs.Common.{refl, sym, ◌∙◌, subst, arith}
use Rattle.std.specs.Prelude.{IsTrue, IsErrOf}
use Rattle.std.proofs.Common.{rules}
use Rattle.line_source.specs.declared.input.InputFault.TheVariants as InputFault
use Rattle.line_source.proofs.Adding.{adds_none, adds_both, adds_gone_more, still_source, newline_there}
use Rattle.line_source.proofs.input.Input.read_ready.Goals as goal

pub loop-alloc-init : goal.loop-alloc-init
loop-alloc-init g c = record {
  adds = adds_none c.args.limit c.args.lines.now.items c.args.self.now (g.S.Source.stream c.args.source.now);
  most = λ few. few;
  still = λ tells. refl;
}

pub loop-alloc-preserved : goal.loop-alloc-preserved
loop-alloc-preserved g c =
    let old = g.S.Source.stream c.args.source.now in
    let now = g.S.Source.stream c.loop-alloc.source in
    let new = g.S.Source.stream c.read_line.new.source in
    record {
      adds = adds_both c.args.limit c.args.lines.now.items c.loop-alloc.lines.items c.read_line.new.lines.items c.args.self.now c.loop-alloc.self c.read_line.new.self old now new
          c.loop-alloc.invariant.adds c.in_ok-added.ensures.lines;
      most = λ few. omega (arith, c.in_ok-added.ensures.one c.if-not-added.false, c.loop-alloc.lines.ok.0, c.len.ensures, c.loop-alloc-test.true);
      still = λ tells.
          let there = subst IsTrue (sym c.loop-alloc.invariant.adds.same.tells) tells in
          still_source c.loop-alloc.self now new (sym c.has_line-ready.ensures ∙ c.if-not-ready.false) (c.read_line.ensures.needed there) ∙ c.loop-alloc.invariant.still tells;
    }

pub returns-in_err-added-clause-still : goal.returns-in_err-added-clause-still
returns-in_err-added-clause-still g c tells =
    let now = g.S.Source.stream c.loop-alloc.source in
    let new = g.S.Source.stream c.read_line.new.source in
    let there = subst IsTrue (sym c.loop-alloc.invariant.adds.same.tells) tells in
    still_source c.loop-alloc.self now new (sym c.has_line-ready.ensures ∙ c.if-not-ready.false) (c.read_line.ensures.needed there) ∙ c.loop-alloc.invariant.still tells

pub returns-in_err-added-clause-gone : goal.returns-in_err-added-clause-gone
returns-in_err-added-clause-gone g c tells =
    let old = g.S.Source.stream c.args.source.now in
    let now = g.S.Source.stream c.loop-alloc.source in
    let new = g.S.Source.stream c.read_line.new.source in
    adds_gone_more c.args.limit c.args.lines.now.items c.loop-alloc.lines.items c.args.self.now c.loop-alloc.self old now new c.loop-alloc.invariant.adds c.read_line.ensures.gone tells

pub returns-in_err-added-clause-whole : goal.returns-in_err-added-clause-whole
returns-in_err-added-clause-whole g c tells is =
    let there = subst IsTrue (sym c.loop-alloc.invariant.adds.same.tells) tells in
    let failed : IsErrOf c.read_line.result InputFault.Source = search (rules, is) in
    newline_there c.loop-alloc.self (sym c.has_line-ready.ensures ∙ c.if-not-ready.false) (c.read_line.ensures.had_none there failed)
