use Rattle.std.proofs.Common.{◌-◌, List, [], ◌∷◌, ◌∙◌, ap}
use Rattle.std.specs.List.{count_by}
use Rattle.hfs_volume.specs.Broken.{count_wants}
use Rattle.fsck_core.specs.declared.rows.Row.{Row}
use Rattle.fsck_core.specs.declared.want.Want.{Want}
use Rattle.fsck_core.proofs.JudgedLaws.{ok_judged, adds_as}
use Rattle.fsck_core.proofs.RowLaws.{counts_are}
use Rattle.fsck_core.proofs.entries.judge_counts.Goals as goal

pub returns-clause-judged : goal.returns-clause-judged
returns-clause-judged c entries is =
    let ws : List Want = record { place = 32; found = c.args.head.now.file_count; wanted = c.count_files-files.result } ∷ record { place = 36; found = c.args.head.now.folder_count; wanted = c.saturating_sub-folders.result } ∷ [] in
    ok_judged c.judge_wants.result 12 ws (count_wants c.args.head.now entries) c.args.out.now c.judge_wants.new.out
    (counts_are c.args.head.now entries c.count_files-files.result c.saturating_sub-folders.result (c.count_files-files.ensures ∙ ap (λ (l : List Row). count_by (λ (r : Row). r.file) l) is)
    (c.saturating_sub-folders.ensures ∙ ap (λ n. n - 1) (c.count_folders.ensures ∙ ap (λ (l : List Row). count_by (λ (r : Row). r.folder) l) is)))
    c.judge_wants.ensures.met c.judge_wants.ensures.listed c.judge_wants.ensures.still c.judge_wants.ensures.each

pub returns-clause-each : goal.returns-clause-each
returns-clause-each c entries is =
    let ws : List Want = record { place = 32; found = c.args.head.now.file_count; wanted = c.count_files-files.result } ∷ record { place = 36; found = c.args.head.now.folder_count; wanted = c.saturating_sub-folders.result } ∷ [] in
    adds_as 12 ws (count_wants c.args.head.now entries) c.args.out.now c.judge_wants.new.out
    (counts_are c.args.head.now entries c.count_files-files.result c.saturating_sub-folders.result (c.count_files-files.ensures ∙ ap (λ (l : List Row). count_by (λ (r : Row). r.file) l) is)
    (c.saturating_sub-folders.ensures ∙ ap (λ n. n - 1) (c.count_folders.ensures ∙ ap (λ (l : List Row). count_by (λ (r : Row). r.folder) l) is)))
    c.judge_wants.ensures.each
