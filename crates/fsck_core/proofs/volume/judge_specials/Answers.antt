use Rattle.hfs_volume.specs.Content.{catalog_file}
use Rattle.fsck_core.proofs.ShownLaws.{specials_passed}
use Rattle.fsck_core.proofs.volume.judge_specials.Goals as goal

pub returns : goal.returns
returns c content heads behind =
    specials_passed content c.args.out.now c.judge_files.new.out c.judge_compare.new.out _ _ (c.in_ok-judge_files.ensures.judged content heads behind) (c.in_ok-judge_compare.ensures.judged (catalog_file content) heads.catalog_head)
