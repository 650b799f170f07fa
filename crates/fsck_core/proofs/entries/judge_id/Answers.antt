use Rattle.std.proofs.Common.{◌≡◌, List, [], ◌∷◌}
use Rattle.hfs_volume.specs.Broken.{want}
use Rattle.fsck_core.specs.Wants.{wants_in}
use Rattle.fsck_core.specs.Rows.{given_id}
use Rattle.fsck_core.specs.declared.want.Want.{Want}
use Rattle.fsck_core.proofs.JudgedLaws.{ok_judged, adds_as}
use Rattle.fsck_core.proofs.entries.judge_id.Goals as goal

pub returns-clause-judged : goal.returns-clause-judged
returns-clause-judged c =
    let ws : List Want = record { place = c.args.row.id; found = c.args.row.id; wanted = c.wanted_id-wanted.result } ∷ [] in
    let are : wants_in ws ≡ given_id c.args.next c.args.row = λ i. want c.args.row.id c.args.row.id (c.wanted_id-wanted.ensures i) ∷ [] in
    ok_judged c.judge_wants.result 15 ws (given_id c.args.next c.args.row) c.args.out.now c.judge_wants.new.out are c.judge_wants.ensures.met c.judge_wants.ensures.listed c.judge_wants.ensures.still c.judge_wants.ensures.each

pub returns-clause-each : goal.returns-clause-each
returns-clause-each c =
    let ws : List Want = record { place = c.args.row.id; found = c.args.row.id; wanted = c.wanted_id-wanted.result } ∷ [] in
    let are : wants_in ws ≡ given_id c.args.next c.args.row = λ i. want c.args.row.id c.args.row.id (c.wanted_id-wanted.ensures i) ∷ [] in
    adds_as 15 ws (given_id c.args.next c.args.row) c.args.out.now c.judge_wants.new.out are c.judge_wants.ensures.each
