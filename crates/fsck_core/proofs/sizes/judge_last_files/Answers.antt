use Rattle.std.proofs.Common.{◌++◌, List}
use Rattle.std.proofs.lemmas.List.Elements.{Contains-append_left, Contains-append_right}
use Rattle.hfs_volume.specs.Broken.{Want}
use Rattle.fsck_core.specs.Files.{attributes_wants, bitmap_wants}
use Rattle.fsck_core.proofs.JudgedLaws.{judged_both, adds_both, adds_of}
use Rattle.fsck_core.proofs.sizes.judge_last_files.Goals as goal

pub returns-in_err-one-clause-each : goal.returns-in_err-one-clause-each
returns-in_err-one-clause-each c file is =
    let front : List Want = attributes_wants c.args.head.now file in
    let back : List Want = bitmap_wants c.args.head.now c.args.behind in
    adds_of 3 front (front ++ back) c.args.out.now c.judge_attributes_size.new.out (λ w stands. Contains-append_left front back w stands) (c.judge_attributes_size.ensures.each file is)

pub returns-in_err-other-clause-each : goal.returns-in_err-other-clause-each
returns-in_err-other-clause-each c file is =
    let front : List Want = attributes_wants c.args.head.now file in
    let back : List Want = bitmap_wants c.args.head.now c.args.behind in
    adds_both 3 front back (front ++ back) c.args.out.now c.judge_attributes_size.new.out c.judge_bitmap.new.out (λ w stands. Contains-append_left front back w stands) (λ w stands. Contains-append_right front back w stands) (c.judge_attributes_size.ensures.each file is) (c.judge_bitmap.ensures.each)

pub returns-clause-judged : goal.returns-clause-judged
returns-clause-judged c file is =
    let front : List Want = attributes_wants c.args.head.now file in
    let back : List Want = bitmap_wants c.args.head.now c.args.behind in
    judged_both 3 front back c.args.out.now c.judge_attributes_size.new.out c.judge_bitmap.new.out c.in_ok-one.one c.in_ok-other.other c.both.result c.both.ensures (c.in_ok-one.ensures.judged file is) (c.in_ok-other.ensures.judged)

pub returns-clause-each : goal.returns-clause-each
returns-clause-each c file is = (returns-clause-judged c file is).each
