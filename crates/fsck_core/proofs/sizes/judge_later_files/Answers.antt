use Rattle.std.proofs.Common.{◌++◌, List}
use Rattle.std.proofs.lemmas.List.Elements.{Contains-append_left, Contains-append_right}
use Rattle.hfs_volume.specs.Broken.{Want, size_wants}
use Rattle.hfs_volume.specs.Content.{facts_of}
use Rattle.hfs_volume.specs.Forks.{catalog_id}
use Rattle.fsck_core.specs.Files.{attributes_wants, bitmap_wants}
use Rattle.fsck_core.proofs.JudgedLaws.{judged_both, adds_both, adds_of}
use Rattle.fsck_core.proofs.sizes.judge_later_files.Goals as goal

pub returns-in_err-one-clause-each : goal.returns-in_err-one-clause-each
returns-in_err-one-clause-each c tree file is same =
    let front : List Want = size_wants catalog_id c.args.head.now c.args.head.now.catalog_fork (facts_of tree) in
    let back : List Want = attributes_wants c.args.head.now file ++ bitmap_wants c.args.head.now c.args.behind in
    adds_of 3 front (front ++ back) c.args.out.now c.judge_size.new.out (λ w stands. Contains-append_left front back w stands) (c.judge_size.ensures.each tree is)

pub returns-in_err-other-clause-each : goal.returns-in_err-other-clause-each
returns-in_err-other-clause-each c tree file is same =
    let front : List Want = size_wants catalog_id c.args.head.now c.args.head.now.catalog_fork (facts_of tree) in
    let back : List Want = attributes_wants c.args.head.now file ++ bitmap_wants c.args.head.now c.args.behind in
    adds_both 3 front back (front ++ back) c.args.out.now c.judge_size.new.out c.judge_last_files.new.out (λ w stands. Contains-append_left front back w stands) (λ w stands. Contains-append_right front back w stands) (c.judge_size.ensures.each tree is) (c.judge_last_files.ensures.each file same)

pub returns-clause-judged : goal.returns-clause-judged
returns-clause-judged c tree file is same =
    let front : List Want = size_wants catalog_id c.args.head.now c.args.head.now.catalog_fork (facts_of tree) in
    let back : List Want = attributes_wants c.args.head.now file ++ bitmap_wants c.args.head.now c.args.behind in
    judged_both 3 front back c.args.out.now c.judge_size.new.out c.judge_last_files.new.out c.in_ok-one.one c.in_ok-other.other c.both.result c.both.ensures (c.in_ok-one.ensures.judged tree is) (c.in_ok-other.ensures.judged file same)

pub returns-clause-each : goal.returns-clause-each
returns-clause-each c tree file is same = (returns-clause-judged c tree file is same).each
