use Rattle.std.proofs.Common.{◌≡◌, ◌<◌, ◌≤◌, ◌+◌, ◌-◌, length, sym, subst, arith, ⊎_elim}
use Rattle.std.specs.Prelude.{max}
use Rattle.file_io.specs.Places.{blocks_for}
use Rattle.hfs_volume.specs.Weight.{most_zeros}
use Rattle.volume_base.proofs.Seeing.{if_so}
use Rattle.volume_step.proofs.FilledFor.{many_of_trunc, place_of_trunc, file_of_trunc, longer, more_of_trunc, few_of_shorter, few_of_trunc}
use Rattle.hfs_volume.specs.TreeOf.{tree_of}
use Rattle.volume_step.proofs.FilledFirst.{filled_some, if_both, if_any}
use Rattle.std.proofs.lemmas.Bool.{cases_lt}
use Rattle.hfs_language.specs.declared.command.Command.TheVariants as command
use Rattle.hfs_model.specs.Step.{is_private_path}
use Rattle.volume_space.specs.Zeroing.{done_of}
use Rattle.volume_step.proofs.Done.{line_free, or_none}
use Rattle.volume_step.proofs.filling.fill_up_to.Goals as goal

pub fill_file-requires-clause-place : goal.fill_file-requires-clause-place
fill_file-requires-clause-place g c =
    let last : c.saturating_sub-last.result ≡ c.args.size - 1 = omega (arith, c.saturating_sub-last.ensures) in
    subst (λ n. n ≤ blocks_for c.args.volume.now.header.block_size (c.saturating_sub-last.result + 1)) (sym c.blocks_for-stop.ensures)
    (subst (λ n. blocks_for c.args.volume.now.header.block_size c.args.size ≤ blocks_for c.args.volume.now.header.block_size (n + 1)) (sym last) (place_of_trunc c.args.size c.args.volume.now.header.block_size))

pub returns-clause-many : goal.returns-clause-many
returns-clause-many g c tells = if_so _ _ c.fill_file.result (λ came low some. many_of_trunc c.args.volume.now (g.P.SectorView.space c.args.space.now).content (c.requires.serves.settled tells) (omega (arith, c.requires.serves.stands.service.least)) c.args.path.now c.args.size (c.requires.affords tells).no_refusal
    (λ file found. subst (λ n. most_zeros < n - blocks_for c.args.volume.now.header.block_size (length file.bytes)) c.blocks_for-stop.ensures (low some file found))) (c.fill_file.ensures.many tells)

pub returns-clause-next : goal.returns-clause-next
returns-clause-next g c tells = let it = file_of_trunc (tree_of (g.P.SectorView.space c.args.space.now).content) c.args.path.now c.args.size (c.requires.affords tells).no_refusal in
    if_both _ _ _ c.fill_file.result (λ came low next filled.
    more_of_trunc (tree_of (g.P.SectorView.space c.args.space.now).content) c.args.path.now c.args.volume.now.filling c.fill_file.new.volume.filling it.0 it.1 c.args.size (next filled it.0 it.1)
    (longer (tree_of (g.P.SectorView.space c.args.space.now).content) c.args.path.now c.args.volume.now.header.block_size (omega (arith, c.requires.serves.stands.service.least)) it.0 it.1 c.args.size (subst (λ n. most_zeros < n - blocks_for c.args.volume.now.header.block_size (length it.0.bytes)) c.blocks_for-stop.ensures (low (filled_some came filled) it.0 it.1)))) (c.fill_file.ensures.many tells) (c.fill_file.ensures.next tells)

pub fill_file-requires-clause-there : goal.fill_file-requires-clause-there
fill_file-requires-clause-there g c tells = let it = file_of_trunc (tree_of (g.P.SectorView.space c.args.space.now).content) c.args.path.now c.args.size (c.requires.affords tells).no_refusal in (it.0, it.1, or_none (is_private_path c.args.path.now) (line_free (tree_of (g.P.SectorView.space c.args.space.now).content) (command.Trunc c.args.path.now c.args.size) (c.requires.affords tells).no_refusal))

pub returns-clause-few : goal.returns-clause-few
returns-clause-few g c tells = let it = file_of_trunc (tree_of (g.P.SectorView.space c.args.space.now).content) c.args.path.now c.args.size (c.requires.affords tells).no_refusal in
    let settled = c.requires.serves.settled tells in
    ⊎_elim
    (λ (more : length it.0.bytes < c.args.size).
    let low : c.saturating_sub-last.result < c.args.size = omega (arith, c.saturating_sub-last.ensures, more) in
    if_so _ _ c.fill_file.result (λ came left first. few_of_trunc c.args.volume.now (g.P.SectorView.space c.args.space.now).content settled (omega (arith, c.requires.serves.stands.service.least)) c.args.path.now it.0 it.1 c.args.volume.now.filling c.args.size more
    (subst (λ n. n - blocks_for c.args.volume.now.header.block_size (length it.0.bytes) ≤ done_of c.args.volume.now.filling it.0.id (length it.0.bytes) (max (length it.0.bytes) c.args.size) + most_zeros) c.blocks_for-stop.ensures (left first it.0 it.1))) (c.fill_file.ensures.few tells low))
    (λ (short : c.args.size ≤ length it.0.bytes). if_any _ c.fill_file.result (λ came first. few_of_shorter c.args.volume.now (g.P.SectorView.space c.args.space.now).content settled (omega (arith, c.requires.serves.stands.service.least)) c.args.path.now it.0 it.1 c.args.volume.now.filling c.args.size short))
    (cases_lt (length it.0.bytes) c.args.size)

pub returns-clause-frame : goal.returns-clause-frame
returns-clause-frame g c = c.fill_file.ensures.frame
