use Rattle.std.proofs.Common.{◌≡◌, ◌⊎◌, ◌↔◌, ◌-◌, ◌∙◌, min, ap, List, [], ◌∷◌, subst}
use Rattle.std.specs.Prelude.{IsTrue, IfOk, Contains}
use Rattle.fsck_list.specs.declared.finding.Finding.{Finding}
use Rattle.fsck_list.specs.Kept.{IsListed}
use Rattle.hfs_volume.specs.Blocks.{IsGoodHeader}
use Rattle.hfs_volume.specs.Broken.{AllMet, IsUnmet, want, header_wants, alternate_wants}
use Rattle.hfs_volume.specs.Broken as broken
use Rattle.hfs_volume.proofs.HeaderWants.{header_holds, header_met}
use Rattle.fsck_core.specs.Wants.{as_found, wants_in}
use Rattle.fsck_core.specs.declared.want.Want.{Want}
use Rattle.fsck_core.proofs.WantLaws.{ok_map, told_by}
use Rattle.fsck_core.proofs.HeaderLaws.{few_sectors}
use Rattle.fsck_core.proofs.header.judge_header.Goals as goal

pub wanted_blocks-blocks-requires : goal.wanted_blocks-blocks-requires
wanted_blocks-blocks-requires c = few_sectors c.args.sectors c.requires

pub returns-clause-met : goal.returns-clause-met
returns-clause-met c =
    let ws : List Want = record { place = 0; found = c.args.head.now.signature; wanted = 0x4858 } ∷ record { place = 2; found = c.args.head.now.version; wanted = 5 } ∷ record { place = 4; found = c.args.head.now.attributes; wanted = c.wanted_attributes-attributes.result } ∷ record { place = 40; found = c.args.head.now.block_size; wanted = c.wanted_size-size.result } ∷ record { place = 44; found = c.args.head.now.total_blocks; wanted = c.wanted_blocks-blocks.result } ∷ record { place = 44; found = c.args.head.now.total_blocks; wanted = c.min-most.result } ∷ record { place = 12; found = c.args.head.now.journal_info_block; wanted = c.min-inside.result } ∷ record { place = 64; found = c.args.head.now.next_catalog_id; wanted = c.max-least.result } ∷ [] in
    let are : wants_in ws ≡ header_wants c.args.sectors c.args.head.now = (let inside : c.min-inside.result ≡ min c.args.head.now.journal_info_block (c.args.head.now.total_blocks - 1) = c.min-inside.ensures ∙ ap (λ n. min c.args.head.now.journal_info_block n) c.saturating_sub-last.ensures in λ i. want 0 c.args.head.now.signature 0x4858 ∷ want 2 c.args.head.now.version 5 ∷ want 4 c.args.head.now.attributes (c.wanted_attributes-attributes.ensures i) ∷ want 40 c.args.head.now.block_size (c.wanted_size-size.ensures i) ∷ want 44 c.args.head.now.total_blocks (c.wanted_blocks-blocks.ensures i) ∷ want 44 c.args.head.now.total_blocks (c.min-most.ensures i) ∷ want 12 c.args.head.now.journal_info_block (inside i) ∷ want 64 c.args.head.now.next_catalog_id (c.max-least.ensures i) ∷ []) in
    ok_map c.judge_wants.result (λ met. IsTrue met ↔ AllMet (wants_in ws)) (λ met. IsTrue met ↔ IsGoodHeader c.args.sectors c.args.head.now)
    (λ met tells. told_by met (header_wants c.args.sectors c.args.head.now) (IsGoodHeader c.args.sectors c.args.head.now) (header_holds c.args.sectors c.args.head.now c.requires) (header_met c.args.sectors c.args.head.now) (subst (λ (l : List broken.Want). IsTrue met ↔ AllMet l) are tells)) c.judge_wants.ensures.met

pub returns-clause-listed : goal.returns-clause-listed
returns-clause-listed c =
    let ws : List Want = record { place = 0; found = c.args.head.now.signature; wanted = 0x4858 } ∷ record { place = 2; found = c.args.head.now.version; wanted = 5 } ∷ record { place = 4; found = c.args.head.now.attributes; wanted = c.wanted_attributes-attributes.result } ∷ record { place = 40; found = c.args.head.now.block_size; wanted = c.wanted_size-size.result } ∷ record { place = 44; found = c.args.head.now.total_blocks; wanted = c.wanted_blocks-blocks.result } ∷ record { place = 44; found = c.args.head.now.total_blocks; wanted = c.min-most.result } ∷ record { place = 12; found = c.args.head.now.journal_info_block; wanted = c.min-inside.result } ∷ record { place = 64; found = c.args.head.now.next_catalog_id; wanted = c.max-least.result } ∷ [] in
    let are : wants_in ws ≡ header_wants c.args.sectors c.args.head.now = (let inside : c.min-inside.result ≡ min c.args.head.now.journal_info_block (c.args.head.now.total_blocks - 1) = c.min-inside.ensures ∙ ap (λ n. min c.args.head.now.journal_info_block n) c.saturating_sub-last.ensures in λ i. want 0 c.args.head.now.signature 0x4858 ∷ want 2 c.args.head.now.version 5 ∷ want 4 c.args.head.now.attributes (c.wanted_attributes-attributes.ensures i) ∷ want 40 c.args.head.now.block_size (c.wanted_size-size.ensures i) ∷ want 44 c.args.head.now.total_blocks (c.wanted_blocks-blocks.ensures i) ∷ want 44 c.args.head.now.total_blocks (c.min-most.ensures i) ∷ want 12 c.args.head.now.journal_info_block (inside i) ∷ want 64 c.args.head.now.next_catalog_id (c.max-least.ensures i) ∷ []) in
    subst (λ (l : List broken.Want). IfOk c.judge_wants.result (λ met. (finding : Finding) → IsUnmet 1 (as_found finding) l → IsListed c.judge_wants.new.out finding)) are c.judge_wants.ensures.listed

pub returns-clause-each : goal.returns-clause-each
returns-clause-each c =
    let ws : List Want = record { place = 0; found = c.args.head.now.signature; wanted = 0x4858 } ∷ record { place = 2; found = c.args.head.now.version; wanted = 5 } ∷ record { place = 4; found = c.args.head.now.attributes; wanted = c.wanted_attributes-attributes.result } ∷ record { place = 40; found = c.args.head.now.block_size; wanted = c.wanted_size-size.result } ∷ record { place = 44; found = c.args.head.now.total_blocks; wanted = c.wanted_blocks-blocks.result } ∷ record { place = 44; found = c.args.head.now.total_blocks; wanted = c.min-most.result } ∷ record { place = 12; found = c.args.head.now.journal_info_block; wanted = c.min-inside.result } ∷ record { place = 64; found = c.args.head.now.next_catalog_id; wanted = c.max-least.result } ∷ [] in
    let are : wants_in ws ≡ header_wants c.args.sectors c.args.head.now = (let inside : c.min-inside.result ≡ min c.args.head.now.journal_info_block (c.args.head.now.total_blocks - 1) = c.min-inside.ensures ∙ ap (λ n. min c.args.head.now.journal_info_block n) c.saturating_sub-last.ensures in λ i. want 0 c.args.head.now.signature 0x4858 ∷ want 2 c.args.head.now.version 5 ∷ want 4 c.args.head.now.attributes (c.wanted_attributes-attributes.ensures i) ∷ want 40 c.args.head.now.block_size (c.wanted_size-size.ensures i) ∷ want 44 c.args.head.now.total_blocks (c.wanted_blocks-blocks.ensures i) ∷ want 44 c.args.head.now.total_blocks (c.min-most.ensures i) ∷ want 12 c.args.head.now.journal_info_block (inside i) ∷ want 64 c.args.head.now.next_catalog_id (c.max-least.ensures i) ∷ []) in
    subst (λ (l : List broken.Want). (finding : Finding) → Contains c.judge_wants.new.out finding → Contains c.args.out.now finding ⊎ IsUnmet 1 (as_found finding) l) are c.judge_wants.ensures.each
