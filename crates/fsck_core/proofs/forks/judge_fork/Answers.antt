use Rattle.std.proofs.Common.{◌++◌, List}
use Rattle.std.proofs.lemmas.List.Elements.{Contains-append_left, Contains-append_right}
use Rattle.hfs_volume.specs.Broken.{Want, extent_wants}
use Rattle.fsck_core.specs.Overflows.{overflows_in}
use Rattle.fsck_core.specs.Owners.{owned_in, number_wants}
use Rattle.fsck_core.proofs.JudgedLaws.{judged_both, adds_both, adds_of}
use Rattle.fsck_core.proofs.forks.judge_fork.Goals as goal

pub returns-in_err-one-clause-each : goal.returns-in_err-one-clause-each
returns-in_err-one-clause-each c on =
    let front : List Want = number_wants c.args.head.now (overflows_in c.args.rows.now) (owned_in c.args.owned.now) in
    let back : List Want = extent_wants c.args.owned.now.id c.args.head.now.total_blocks c.args.owned.now.fork.extents.extents in
    adds_of 16 front (front ++ back) c.args.out.now c.judge_numbers.new.out (λ w stands. Contains-append_left front back w stands) (c.judge_numbers.ensures.each on)

pub returns-in_err-other-clause-each : goal.returns-in_err-other-clause-each
returns-in_err-other-clause-each c on =
    let front : List Want = number_wants c.args.head.now (overflows_in c.args.rows.now) (owned_in c.args.owned.now) in
    let back : List Want = extent_wants c.args.owned.now.id c.args.head.now.total_blocks c.args.owned.now.fork.extents.extents in
    adds_both 16 front back (front ++ back) c.args.out.now c.judge_numbers.new.out c.judge_extents.new.out (λ w stands. Contains-append_left front back w stands) (λ w stands. Contains-append_right front back w stands) (c.judge_numbers.ensures.each on) c.judge_extents.ensures.each

pub returns-clause-judged : goal.returns-clause-judged
returns-clause-judged c on =
    let front : List Want = number_wants c.args.head.now (overflows_in c.args.rows.now) (owned_in c.args.owned.now) in
    let back : List Want = extent_wants c.args.owned.now.id c.args.head.now.total_blocks c.args.owned.now.fork.extents.extents in
    judged_both 16 front back c.args.out.now c.judge_numbers.new.out c.judge_extents.new.out c.in_ok-one.one c.in_ok-other.other c.both.result c.both.ensures (c.in_ok-one.ensures.judged on) c.in_ok-other.ensures.judged

pub returns-clause-each : goal.returns-clause-each
returns-clause-each c on = (returns-clause-judged c on).each
