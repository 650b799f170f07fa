use Rattle.std.proofs.Common.{◌∙◌, refl}
use Rattle.line_source.proofs.Reading.{cut_ended, cut_on, is_nothing, reads_few, reads_few_end, reads_gone, reads_last, reads_on, some_text}
use Rattle.line_source.proofs.taken.Taken.next_line.Goals as goal

pub loop-line-preserved : goal.loop-line-preserved
loop-line-preserved g c =
    let now = g.S.Source.stream c.loop-line.source in
    let new = g.S.Source.stream c.has_more.new.source in
    let on = reads_on c.args.limit c.args.self.now (g.S.Source.stream c.args.source.now) c.loop-line.self now c.loop-line.line.items c.loop-line.invariant c.has_more.new.self new
    c.in_ok-some.ensures.bytes c.has_more.ensures.no_more c.has_more.ensures.same c.has_more.ensures.cause.later c.has_more.ensures.still c.has_more.ensures.few in
    cut_on c.args.limit c.args.self.now (g.S.Source.stream c.args.source.now) c.has_more.new.self new c.loop-line.line.items on c.cut.new.self c.cut.new.line.items c.in_ok-ended.ended c.in_ok-ended.ensures.cuts c.if-ended.false

pub returns-in_err-some-clause-no_more : goal.returns-in_err-some-clause-no_more
returns-in_err-some-clause-no_more g c =
    reads_few c.args.limit c.args.self.now (g.S.Source.stream c.args.source.now) c.loop-line.self (g.S.Source.stream c.loop-line.source) c.loop-line.line.items c.loop-line.invariant (g.S.Source.stream c.has_more.new.source)
    (λ some. (c.has_more.ensures.still some).0) (λ tells. c.in_err-some.ensures.kept.0)

pub returns-then-not-some-clause-line : goal.returns-then-not-some-clause-line
returns-then-not-some-clause-line g c =
    let reads = c.loop-line.invariant in
    let held = c.from_vec-last.ensures ∙ reads.line_is in (
      reads.text,
      held,
      reads_last c.args.limit c.args.self.now (g.S.Source.stream c.args.source.now) c.loop-line.self (g.S.Source.stream c.loop-line.source) c.loop-line.line.items reads c.has_more.new.self (g.S.Source.stream c.has_more.new.source)
          (some_text c.is_empty.result reads.text (is_nothing c.args.limit reads.text c.from_vec-last.result c.is_empty.result c.is_empty.ensures held) c.if-is_empty.false)
          (λ tells. (c.in_ok-some.ensures.end tells c.if-not-some.true).0) (λ tells. (c.in_ok-some.ensures.end tells c.if-not-some.true).1),
    )

pub returns-then-not-some-clause-no_more : goal.returns-then-not-some-clause-no_more
returns-then-not-some-clause-no_more g c =
    reads_few_end c.args.limit c.args.self.now (g.S.Source.stream c.args.source.now) c.loop-line.self (g.S.Source.stream c.loop-line.source) c.loop-line.line.items c.loop-line.invariant c.has_more.new.self
    (g.S.Source.stream c.has_more.new.source) (λ some. (c.has_more.ensures.still some).0) (λ tells. c.in_ok-some.ensures.end tells c.if-not-some.true)

pub returns-in_err-ended-clause-gone : goal.returns-in_err-ended-clause-gone
returns-in_err-ended-clause-gone g c =
    let now = g.S.Source.stream c.loop-line.source in
    let new = g.S.Source.stream c.has_more.new.source in
    let on = reads_on c.args.limit c.args.self.now (g.S.Source.stream c.args.source.now) c.loop-line.self now c.loop-line.line.items c.loop-line.invariant c.has_more.new.self new
    c.in_ok-some.ensures.bytes c.has_more.ensures.no_more c.has_more.ensures.same c.has_more.ensures.cause.later c.has_more.ensures.still c.has_more.ensures.few in
    reads_gone c.args.limit c.args.self.now (g.S.Source.stream c.args.source.now) c.has_more.new.self new c.loop-line.line.items on new.left refl

pub returns-in_err-ended-clause-no_more : goal.returns-in_err-ended-clause-no_more
returns-in_err-ended-clause-no_more g c =
    let now = g.S.Source.stream c.loop-line.source in
    let new = g.S.Source.stream c.has_more.new.source in
    let on = reads_on c.args.limit c.args.self.now (g.S.Source.stream c.args.source.now) c.loop-line.self now c.loop-line.line.items c.loop-line.invariant c.has_more.new.self new
    c.in_ok-some.ensures.bytes c.has_more.ensures.no_more c.has_more.ensures.same c.has_more.ensures.cause.later c.has_more.ensures.still c.has_more.ensures.few in
    reads_few c.args.limit c.args.self.now (g.S.Source.stream c.args.source.now) c.has_more.new.self new c.loop-line.line.items on new (λ some. refl) (λ tells. refl)

pub returns-then-ended-clause-line : goal.returns-then-ended-clause-line
returns-then-ended-clause-line g c =
    let now = g.S.Source.stream c.loop-line.source in
    let new = g.S.Source.stream c.has_more.new.source in
    let on = reads_on c.args.limit c.args.self.now (g.S.Source.stream c.args.source.now) c.loop-line.self now c.loop-line.line.items c.loop-line.invariant c.has_more.new.self new
    c.in_ok-some.ensures.bytes c.has_more.ensures.no_more c.has_more.ensures.same c.has_more.ensures.cause.later c.has_more.ensures.still c.has_more.ensures.few in
    let ends = cut_ended c.args.limit c.args.self.now (g.S.Source.stream c.args.source.now) c.has_more.new.self new c.loop-line.line.items on c.cut.new.self c.cut.new.line.items c.in_ok-ended.ended c.has_more.ensures.few c.in_ok-ended.ensures.cuts
    c.if-ended.true in (
      ends.text,
      c.from_vec.ensures ∙ ends.line_is,
      ends.takes,
    )

pub returns-then-ended-clause-gone : goal.returns-then-ended-clause-gone
returns-then-ended-clause-gone g c =
    let now = g.S.Source.stream c.loop-line.source in
    let new = g.S.Source.stream c.has_more.new.source in
    let on = reads_on c.args.limit c.args.self.now (g.S.Source.stream c.args.source.now) c.loop-line.self now c.loop-line.line.items c.loop-line.invariant c.has_more.new.self new
    c.in_ok-some.ensures.bytes c.has_more.ensures.no_more c.has_more.ensures.same c.has_more.ensures.cause.later c.has_more.ensures.still c.has_more.ensures.few in
    reads_gone c.args.limit c.args.self.now (g.S.Source.stream c.args.source.now) c.has_more.new.self new c.loop-line.line.items on new.left refl

pub returns-then-ended-clause-no_more : goal.returns-then-ended-clause-no_more
returns-then-ended-clause-no_more g c =
    let now = g.S.Source.stream c.loop-line.source in
    let new = g.S.Source.stream c.has_more.new.source in
    let on = reads_on c.args.limit c.args.self.now (g.S.Source.stream c.args.source.now) c.loop-line.self now c.loop-line.line.items c.loop-line.invariant c.has_more.new.self new
    c.in_ok-some.ensures.bytes c.has_more.ensures.no_more c.has_more.ensures.same c.has_more.ensures.cause.later c.has_more.ensures.still c.has_more.ensures.few in
    let ends = cut_ended c.args.limit c.args.self.now (g.S.Source.stream c.args.source.now) c.has_more.new.self new c.loop-line.line.items on c.cut.new.self c.cut.new.line.items c.in_ok-ended.ended c.has_more.ensures.few c.in_ok-ended.ensures.cuts
    c.if-ended.true in
    ends.no_more_is
