use Rattle.std.proofs.Common.{◌++◌, List, subst}
use Rattle.std.proofs.lemmas.List.Elements.{Contains-append_left, Contains-append_right}
use Rattle.hfs_volume.specs.Broken.{Want, size_wants}
use Rattle.hfs_volume.specs.Content.{facts_of, extents_file, catalog_file, attributes_file}
use Rattle.hfs_volume.specs.Forks.{extents_id, catalog_id}
use Rattle.fsck_core.specs.Files.{attributes_wants, bitmap_wants}
use Rattle.fsck_core.specs.Judged.{Judged, AddsUnmet}
use Rattle.fsck_core.proofs.JudgedLaws.{judged_both, adds_both, adds_of}
use Rattle.fsck_core.proofs.SizeLaws.{files_are}
use Rattle.fsck_core.proofs.sizes.judge_files.Goals as goal

pub returns-in_err-one-clause-each : goal.returns-in_err-one-clause-each
returns-in_err-one-clause-each c content has count =
    let front : List Want = size_wants extents_id c.args.head.now c.args.head.now.extents_fork (facts_of (extents_file content)) in
    let back : List Want = size_wants catalog_id c.args.head.now c.args.head.now.catalog_fork (facts_of (catalog_file content)) ++ (attributes_wants c.args.head.now (attributes_file content) ++ bitmap_wants c.args.head.now c.args.behind) in
    subst (λ (l : List Want). AddsUnmet 3 l c.args.out.now c.judge_size.new.out) (files_are content c.args.head.now c.args.behind has.volume count)
    (adds_of 3 front (front ++ back) c.args.out.now c.judge_size.new.out (λ w stands. Contains-append_left front back w stands) (c.judge_size.ensures.each (extents_file content) has.extents_head))

pub returns-in_err-other-clause-each : goal.returns-in_err-other-clause-each
returns-in_err-other-clause-each c content has count =
    let front : List Want = size_wants extents_id c.args.head.now c.args.head.now.extents_fork (facts_of (extents_file content)) in
    let back : List Want = size_wants catalog_id c.args.head.now c.args.head.now.catalog_fork (facts_of (catalog_file content)) ++ (attributes_wants c.args.head.now (attributes_file content) ++ bitmap_wants c.args.head.now c.args.behind) in
    subst (λ (l : List Want). AddsUnmet 3 l c.args.out.now c.judge_later_files.new.out) (files_are content c.args.head.now c.args.behind has.volume count)
    (adds_both 3 front back (front ++ back) c.args.out.now c.judge_size.new.out c.judge_later_files.new.out (λ w stands. Contains-append_left front back w stands) (λ w stands. Contains-append_right front back w stands) (c.judge_size.ensures.each (extents_file content) has.extents_head) (c.judge_later_files.ensures.each (catalog_file content) (attributes_file content) has.catalog_head has.attributes_head))

pub returns-clause-judged : goal.returns-clause-judged
returns-clause-judged c content has count =
    let front : List Want = size_wants extents_id c.args.head.now c.args.head.now.extents_fork (facts_of (extents_file content)) in
    let back : List Want = size_wants catalog_id c.args.head.now c.args.head.now.catalog_fork (facts_of (catalog_file content)) ++ (attributes_wants c.args.head.now (attributes_file content) ++ bitmap_wants c.args.head.now c.args.behind) in
    subst (λ (l : List Want). Judged 3 l c.args.out.now c.judge_later_files.new.out c.both.result) (files_are content c.args.head.now c.args.behind has.volume count)
    (judged_both 3 front back c.args.out.now c.judge_size.new.out c.judge_later_files.new.out c.in_ok-one.one c.in_ok-other.other c.both.result c.both.ensures (c.in_ok-one.ensures.judged (extents_file content) has.extents_head) (c.in_ok-other.ensures.judged (catalog_file content) (attributes_file content) has.catalog_head has.attributes_head))

pub returns-clause-each : goal.returns-clause-each
returns-clause-each c content has count = (returns-clause-judged c content has count).each
