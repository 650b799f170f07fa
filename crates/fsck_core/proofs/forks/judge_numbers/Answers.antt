use Rattle.std.proofs.Common.{◌≡◌, ◌*◌, min, List, [], ◌∷◌, ◌∙◌, ap}
use Rattle.hfs_volume.specs.Broken.{want}
use Rattle.fsck_core.specs.Overflows.{overflows_in}
use Rattle.fsck_core.specs.Owners.{owned_in, number_wants}
use Rattle.fsck_core.specs.Wants.{wants_in}
use Rattle.fsck_core.specs.declared.want.Want.{Want as Number}
use Rattle.fsck_core.proofs.JudgedLaws.{ok_judged, adds_as}
use Rattle.fsck_core.proofs.forks.judge_numbers.Goals as goal

pub returns-clause-judged : goal.returns-clause-judged
returns-clause-judged c on =
    let ws : List Number = record { place = c.args.owned.now.id; found = c.args.owned.now.fork.total_blocks; wanted = c.count_owned-blocks.result } ∷ record { place = c.args.owned.now.id; found = c.args.owned.now.fork.logical_size; wanted = c.min-most.result } ∷ [] in
    let most : c.min-most.result ≡ min c.args.owned.now.fork.logical_size (c.args.owned.now.fork.total_blocks * c.args.head.now.block_size) = c.min-most.ensures ∙ ap (λ n. min c.args.owned.now.fork.logical_size n) c.bytes_held-held.ensures in
    let are : wants_in ws ≡ number_wants c.args.head.now (overflows_in c.args.rows.now) (owned_in c.args.owned.now) = λ i. want c.args.owned.now.id c.args.owned.now.fork.total_blocks (c.count_owned-blocks.ensures on i) ∷ want c.args.owned.now.id c.args.owned.now.fork.logical_size (most i) ∷ [] in
    ok_judged c.judge_wants.result 16 ws (number_wants c.args.head.now (overflows_in c.args.rows.now) (owned_in c.args.owned.now)) c.args.out.now c.judge_wants.new.out are c.judge_wants.ensures.met c.judge_wants.ensures.listed c.judge_wants.ensures.still c.judge_wants.ensures.each

pub returns-clause-each : goal.returns-clause-each
returns-clause-each c on =
    let ws : List Number = record { place = c.args.owned.now.id; found = c.args.owned.now.fork.total_blocks; wanted = c.count_owned-blocks.result } ∷ record { place = c.args.owned.now.id; found = c.args.owned.now.fork.logical_size; wanted = c.min-most.result } ∷ [] in
    let most : c.min-most.result ≡ min c.args.owned.now.fork.logical_size (c.args.owned.now.fork.total_blocks * c.args.head.now.block_size) = c.min-most.ensures ∙ ap (λ n. min c.args.owned.now.fork.logical_size n) c.bytes_held-held.ensures in
    let are : wants_in ws ≡ number_wants c.args.head.now (overflows_in c.args.rows.now) (owned_in c.args.owned.now) = λ i. want c.args.owned.now.id c.args.owned.now.fork.total_blocks (c.count_owned-blocks.ensures on i) ∷ want c.args.owned.now.id c.args.owned.now.fork.logical_size (most i) ∷ [] in
    adds_as 16 ws (number_wants c.args.head.now (overflows_in c.args.rows.now) (owned_in c.args.owned.now)) c.args.out.now c.judge_wants.new.out are c.judge_wants.ensures.each
