use Rattle.std.proofs.Common.{◌<◌, get_or, sym, ◌∙◌, subst, arith}
use Rattle.jnl_replay.specs.declared.runs.Run.{Run}
use Rattle.jnl_replay.proofs.RunLaws.{last_up_to, none_up_to}
use Rattle.jnl_replay.proofs.runs.find_place.Goals as goal

abbrev none_yet : Run
none_yet = record { first = 0; many = 0; place = 0 }

pub returns-then-count-eq0 : goal.returns-then-count-eq0
returns-then-count-eq0 c = sym (none_up_to c.args.runs.now c.args.at c.requires (λ some none.
    subst (λ n. c.args.at < (get_or c.args.runs.now n none).first) c.if-count-eq0.true (c.count_up_to-count.ensures.above (omega (arith, some, c.if-count-eq0.true)) none)))

pub returns : goal.returns
returns c =
    let some : 0 < c.count_up_to-count.result = omega (arith, c.if-count-eq0.false) in
    c.place_of.ensures
    ∙ sym (last_up_to c.args.runs.now c.count_up_to-count.result c.args.at c.requires some c.count_up_to-count.ensures.within (c.count_up_to-count.ensures.below some) c.count_up_to-count.ensures.above none_yet)
