use Rattle.std.proofs.Common.{◌≡◌, ◌⊎◌, ◌↔◌, List, [], ◌∷◌, subst, refl}
use Rattle.std.specs.Prelude.{IsTrue, IfOk, Contains}
use Rattle.fsck_list.specs.declared.finding.Finding.{Finding}
use Rattle.fsck_list.specs.Kept.{IsListed}
use Rattle.hfs_volume.specs.Blocks.{AgreesWith}
use Rattle.hfs_volume.specs.Broken.{AllMet, IsUnmet, want, header_wants, alternate_wants}
use Rattle.hfs_volume.specs.Broken as broken
use Rattle.hfs_volume.proofs.BlockWants.{alternate_holds, alternate_met}
use Rattle.fsck_core.specs.Wants.{as_found, wants_in}
use Rattle.fsck_core.specs.declared.want.Want.{Want}
use Rattle.fsck_core.proofs.WantLaws.{ok_map, told_by}
use Rattle.fsck_core.proofs.header.judge_alternate.Goals as goal

pub returns-clause-met : goal.returns-clause-met
returns-clause-met c =
    let ws : List Want = record { place = 0; found = c.args.alternate.now.signature; wanted = c.args.head.now.signature } ∷ record { place = 2; found = c.args.alternate.now.version; wanted = c.args.head.now.version } ∷ record { place = 40; found = c.args.alternate.now.block_size; wanted = c.args.head.now.block_size } ∷ record { place = 44; found = c.args.alternate.now.total_blocks; wanted = c.args.head.now.total_blocks } ∷ [] in
    let are : wants_in ws ≡ alternate_wants c.args.head.now c.args.alternate.now = refl in
    ok_map c.judge_wants.result (λ met. IsTrue met ↔ AllMet (wants_in ws)) (λ met. IsTrue met ↔ AgreesWith c.args.head.now c.args.alternate.now)
    (λ met tells. told_by met (alternate_wants c.args.head.now c.args.alternate.now) (AgreesWith c.args.head.now c.args.alternate.now) (alternate_holds c.args.head.now c.args.alternate.now) (alternate_met c.args.head.now c.args.alternate.now) (subst (λ (l : List broken.Want). IsTrue met ↔ AllMet l) are tells)) c.judge_wants.ensures.met

pub returns-clause-listed : goal.returns-clause-listed
returns-clause-listed c =
    let ws : List Want = record { place = 0; found = c.args.alternate.now.signature; wanted = c.args.head.now.signature } ∷ record { place = 2; found = c.args.alternate.now.version; wanted = c.args.head.now.version } ∷ record { place = 40; found = c.args.alternate.now.block_size; wanted = c.args.head.now.block_size } ∷ record { place = 44; found = c.args.alternate.now.total_blocks; wanted = c.args.head.now.total_blocks } ∷ [] in
    let are : wants_in ws ≡ alternate_wants c.args.head.now c.args.alternate.now = refl in
    subst (λ (l : List broken.Want). IfOk c.judge_wants.result (λ met. (finding : Finding) → IsUnmet 2 (as_found finding) l → IsListed c.judge_wants.new.out finding)) are c.judge_wants.ensures.listed

pub returns-clause-each : goal.returns-clause-each
returns-clause-each c =
    let ws : List Want = record { place = 0; found = c.args.alternate.now.signature; wanted = c.args.head.now.signature } ∷ record { place = 2; found = c.args.alternate.now.version; wanted = c.args.head.now.version } ∷ record { place = 40; found = c.args.alternate.now.block_size; wanted = c.args.head.now.block_size } ∷ record { place = 44; found = c.args.alternate.now.total_blocks; wanted = c.args.head.now.total_blocks } ∷ [] in
    let are : wants_in ws ≡ alternate_wants c.args.head.now c.args.alternate.now = refl in
    subst (λ (l : List broken.Want). (finding : Finding) → Contains c.judge_wants.new.out finding → Contains c.args.out.now finding ⊎ IsUnmet 2 (as_found finding) l) are c.judge_wants.ensures.each
