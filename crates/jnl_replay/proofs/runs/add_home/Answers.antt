use Rattle.std.proofs.Common.{◌≡◌, ◌<◌, ◌+◌, ◌-◌, ◌*◌, List, length, take, get_or, ◌∙◌, ap, arith}
use Rattle.jnl_replay.specs.declared.runs.Run.{Run}
use Rattle.jnl_replay.proofs.RunLaws.{home_joined, home_pushed, whole_pushed, whole_front}
use Rattle.jnl_replay.proofs.runs.add_home.Goals as goal

pub returns-then-goes_on-clause-puts : goal.returns-then-goes_on-clause-puts
returns-then-goes_on-clause-puts c q =
    let old : List Run = c.args.runs.now.items in
    let last : Run = c.index.result.now in
    let some : 0 < length old = omega (arith, c.if-count-gt0.true, c.len-count.ensures) in
    let count_is : c.len-count.result ≡ length old = omega (arith, c.len-count.ensures) in
    let last_is : last ≡ get_or old (length old - 1) last = c.index.ensures ∙ ap (λ n. get_or old (n - 1) last) count_is in
    let next : c.args.home.now.sector ≡ last.first + last.many = omega (arith, c.if-goes_on.ensures.sector) in
    let behind : c.args.home.now.place ≡ last.place + last.many * 512 = omega (arith, c.if-goes_on.ensures.place) in
    home_joined old c.put_last.new.runs.items last c.args.home.now.sector c.args.home.now.place q some last_is next behind c.put_last.ensures

pub returns-then-goes_on-clause-whole : goal.returns-then-goes_on-clause-whole
returns-then-goes_on-clause-whole c =
    let old : List Run = c.args.runs.now.items in
    let last : Run = c.index.result.now in
    whole_pushed (take (length old - 1) old) c.put_last.new.runs.items (record last { many = last.many + 1 }) c.put_last.ensures (whole_front old (length old - 1) c.requires.whole (omega arith))
    (record {
      some = omega arith;
      sectors = omega (arith, c.if-goes_on.ensures.sector, c.requires.sector);
      bytes = omega (arith, c.if-goes_on.ensures.place, c.requires.place);
    })

pub returns-clause-puts : goal.returns-clause-puts
returns-clause-puts c q =
    home_pushed c.args.runs.now.items c.push_run.new.runs.items c.args.home.now.sector c.args.home.now.place q c.in_ok-push_run.ensures

pub returns-clause-whole : goal.returns-clause-whole
returns-clause-whole c =
    whole_pushed c.args.runs.now.items c.push_run.new.runs.items (record { first = c.args.home.now.sector; many = 1; place = c.args.home.now.place }) c.in_ok-push_run.ensures c.requires.whole
    (record {
      some = omega arith;
      sectors = omega (arith, c.requires.sector);
      bytes = omega (arith, c.requires.place);
    })
