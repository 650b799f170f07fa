use Rattle.std.proofs.Common.{◌≡◌, ◌<◌, ◌≤◌, ◌+◌, ◌-◌, ◌/◌, length, refl, sym, ◌∙◌, subst, arith}
use Rattle.std.specs.Prelude.{max}
use Rattle.file_io.specs.Places.{blocks_for}
use Rattle.hfs_volume.specs.Weight.{most_zeros}
use Rattle.volume_base.proofs.Seeing.{if_so}
use Rattle.volume_space.specs.declared.zeroing.Zeros.TheVariants as zeros
use Rattle.volume_step.proofs.FilledFirst.{commit_some, few_none}
use Rattle.volume_step.proofs.FilledFor.{many_of_write, place_of_write, file_of_write, more_of_write, end_of_write, few_of_nothing, few_of_write}
use Rattle.volume_step.proofs.Unfilled.{reads_none}
use Rattle.hfs_volume.specs.TreeOf.{tree_of}
use Rattle.hfs_language.specs.declared.command.Command.TheVariants as command
use Rattle.hfs_model.specs.Step.{is_private_path}
use Rattle.volume_step.proofs.Done.{line_free, or_none}
use Rattle.volume_step.proofs.Judged.{some}
use Rattle.volume_space.specs.Zeroing.{done_of}
use Rattle.volume_base.proofs.Looked.{looked_none}
use Rattle.volume_step.proofs.Performed.{performs_looked}
use Rattle.volume_step.proofs.filling.fill_before.Goals as goal

pub fill_file-requires-clause-place : goal.fill_file-requires-clause-place
fill_file-requires-clause-place g c =
    subst (λ n. c.args.from / n ≤ blocks_for c.args.volume.now.header.block_size (c.args.from + 1)) (sym c.from.ensures) (place_of_write c.args.from c.args.volume.now.header.block_size (omega (arith, c.requires.serves.stands.service.least)))

pub returns-clause-many : goal.returns-clause-many
returns-clause-many g c tells = if_so _ _ c.fill_file.result (λ came low some. many_of_write c.args.volume.now (g.P.SectorView.space c.args.space.now).content (c.requires.serves.settled tells) (omega (arith, c.requires.serves.stands.service.least)) c.args.path.now c.args.from c.args.value.now (c.requires.affords tells).no_refusal (sym c.is_empty.ensures ∙ c.if-is_empty.false)
    (λ file found. subst (λ n. most_zeros < c.args.from / n - blocks_for c.args.volume.now.header.block_size (length file.bytes)) c.from.ensures (low some file found))) (c.fill_file.ensures.many tells)

pub returns-then-is_empty-clause-many : goal.returns-then-is_empty-clause-many
returns-then-is_empty-clause-many g c tells some = absurd (some refl)

pub returns-then-is_empty-clause-fills : goal.returns-then-is_empty-clause-fills
returns-then-is_empty-clause-fills g c tells same = absurd (few_none zeros.Few refl same)

pub returns-then-is_empty-clause-commit : goal.returns-then-is_empty-clause-commit
returns-then-is_empty-clause-commit g c same = absurd (commit_some zeros.CommitFirst refl (sym same))

pub returns-then-is_empty-clause-reads : goal.returns-then-is_empty-clause-reads
returns-then-is_empty-clause-reads g c none = reads_none c.args.volume.now (g.P.SectorView.space c.args.space.now)

pub returns-then-is_empty-clause-keeps : goal.returns-then-is_empty-clause-keeps
returns-then-is_empty-clause-keeps g c = (reads_none c.args.volume.now (g.P.SectorView.space c.args.space.now)).keeps

pub returns-then-is_empty-clause-filled : goal.returns-then-is_empty-clause-filled
returns-then-is_empty-clause-filled g c = c.requires.filled

pub returns-then-is_empty-clause-spare : goal.returns-then-is_empty-clause-spare
returns-then-is_empty-clause-spare g c = omega arith

pub returns-clause-next : goal.returns-clause-next
returns-clause-next g c tells =
    let it = file_of_write (tree_of (g.P.SectorView.space c.args.space.now).content) c.args.path.now c.args.from c.args.value.now (c.requires.affords tells).no_refusal in
    let last : c.saturating_add-end.result ≡ c.args.from + length c.args.value.now = omega (arith, c.saturating_add-end.ensures, end_of_write (tree_of (g.P.SectorView.space c.args.space.now).content) c.args.path.now c.args.from c.args.value.now (c.requires.affords tells).no_refusal) in
    if_so _ _ c.fill_file.result (λ came next filled. more_of_write (tree_of (g.P.SectorView.space c.args.space.now).content) c.args.path.now c.args.volume.now.filling c.fill_file.new.volume.filling it.0 it.1 c.saturating_add-end.result (next filled it.0 it.1) c.args.from c.args.value.now (sym c.is_empty.ensures ∙ c.if-is_empty.false) last) (c.fill_file.ensures.next tells)

pub returns-then-is_empty-clause-next : goal.returns-then-is_empty-clause-next
returns-then-is_empty-clause-next g c tells same = absurd (few_none zeros.Few refl same)

pub fill_file-requires-clause-there : goal.fill_file-requires-clause-there
fill_file-requires-clause-there g c tells = let it = file_of_write (tree_of (g.P.SectorView.space c.args.space.now).content) c.args.path.now c.args.from c.args.value.now (c.requires.affords tells).no_refusal in (it.0, it.1, or_none (is_private_path c.args.path.now) (line_free (tree_of (g.P.SectorView.space c.args.space.now).content) (command.Write c.args.path.now c.args.from c.args.value.now) (c.requires.affords tells).no_refusal))

pub returns-clause-few : goal.returns-clause-few
returns-clause-few g c tells =
    let it = file_of_write (tree_of (g.P.SectorView.space c.args.space.now).content) c.args.path.now c.args.from c.args.value.now (c.requires.affords tells).no_refusal in
    let none = sym c.is_empty.ensures ∙ c.if-is_empty.false in
    let last : c.saturating_add-end.result ≡ c.args.from + length c.args.value.now = omega (arith, c.saturating_add-end.ensures, end_of_write (tree_of (g.P.SectorView.space c.args.space.now).content) c.args.path.now c.args.from c.args.value.now (c.requires.affords tells).no_refusal) in
    let low : c.args.from < c.saturating_add-end.result = omega (arith, last, some (length c.args.value.now) none) in
    if_so _ _ c.fill_file.result (λ came left first. few_of_write c.args.volume.now (g.P.SectorView.space c.args.space.now).content (c.requires.serves.settled tells) (omega (arith, c.requires.serves.stands.service.least)) c.args.path.now it.0 it.1 c.args.volume.now.filling c.args.from c.args.value.now c.saturating_add-end.result none last
    (subst (λ n. c.args.from / n - blocks_for c.args.volume.now.header.block_size (length it.0.bytes) ≤ done_of c.args.volume.now.filling it.0.id (length it.0.bytes) (max (length it.0.bytes) c.saturating_add-end.result) + most_zeros) c.from.ensures (left first it.0 it.1))) (c.fill_file.ensures.few tells low)

pub returns-then-is_empty-clause-few : goal.returns-then-is_empty-clause-few
returns-then-is_empty-clause-few g c tells same = let it = file_of_write (tree_of (g.P.SectorView.space c.args.space.now).content) c.args.path.now c.args.from c.args.value.now (c.requires.affords tells).no_refusal in few_of_nothing c.args.volume.now (g.P.SectorView.space c.args.space.now).content (c.requires.serves.settled tells) (omega (arith, c.requires.serves.stands.service.least)) c.args.path.now it.0 it.1 c.args.volume.now.filling c.args.from c.args.value.now (sym c.is_empty.ensures ∙ c.if-is_empty.true)

pub returns-then-is_empty-clause-frame : goal.returns-then-is_empty-clause-frame
returns-then-is_empty-clause-frame g c = performs_looked (looked_none g.met.P.SectorView.follows_refl c.requires.serves.stands) c.requires.serves

pub returns-clause-frame : goal.returns-clause-frame
returns-clause-frame g c = c.fill_file.ensures.frame
