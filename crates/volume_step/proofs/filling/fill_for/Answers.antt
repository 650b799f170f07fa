use Rattle.std.proofs.Common.{◌≢◌, ◌<◌, ℕ, List, refl, sym, subst, arith, ◌≡◌}
use Rattle.std.specs.Prelude.{IfOk}
use Rattle.hfs_language.specs.declared.command.Command.{Command}
use Rattle.hfs_language.specs.declared.command.Command.TheVariants as command
use Rattle.hfs_volume.specs.Content.{volume_of}
use Rattle.hfs_volume.specs.TreeOf.{tree_of}
use Rattle.hfs_volume.specs.Weight.{most_zeros, zero_blocks, data_of}
use Rattle.volume_base.specs.Room.{capacity_of}
use Rattle.volume_space.specs.declared.zeroing.Zeros.TheVariants as zeros
use Rattle.volume_step.specs.Steps.{Affords, FillsMore, HasFewLeft}
use Rattle.volume_step.proofs.FilledFirst.{commit_some, few_none}
use Rattle.volume_step.proofs.Unfilled.{reads_none}
use Rattle.volume_base.proofs.Looked.{looked_none}
use Rattle.volume_step.proofs.Performed.{performs_looked}
use Rattle.volume_step.proofs.filling.fill_for.Goals as goal

pub fill_before-requires-clause-affords : goal.fill_before-requires-clause-affords
fill_before-requires-clause-affords g c tells = subst (λ (l : List ℕ). Affords (capacity_of c.args.volume.now) (command.Write c.in-Write.path c.in-Write.from l) (g.P.SectorView.space c.args.space.now).content) (sym c.as_slice.ensures) (subst (λ (k : Command). Affords (capacity_of c.args.volume.now) k (g.P.SectorView.space c.args.space.now).content) c.in-Write.is (c.requires.affords tells))

pub fill_up_to-requires-clause-affords : goal.fill_up_to-requires-clause-affords
fill_up_to-requires-clause-affords g c tells = subst (λ (k : Command). Affords (capacity_of c.args.volume.now) k (g.P.SectorView.space c.args.space.now).content) c.in-Trunc.is (c.requires.affords tells)

pub returns-in-Write-clause-many : goal.returns-in-Write-clause-many
returns-in-Write-clause-many g c tells = subst (λ (k : Command). IfOk c.fill_before.result (λ came. came ≢ zeros.Few → most_zeros < zero_blocks (volume_of (g.P.SectorView.space c.args.space.now).content).head.block_size (tree_of (g.P.SectorView.space c.args.space.now).content) k)) (sym c.in-Write.is)
    (subst (λ (l : List ℕ). IfOk c.fill_before.result (λ came. came ≢ zeros.Few → most_zeros < zero_blocks (volume_of (g.P.SectorView.space c.args.space.now).content).head.block_size (tree_of (g.P.SectorView.space c.args.space.now).content) (command.Write c.in-Write.path c.in-Write.from l))) c.as_slice.ensures (c.fill_before.ensures.many tells))

pub returns-in-Trunc-clause-many : goal.returns-in-Trunc-clause-many
returns-in-Trunc-clause-many g c tells = subst (λ (k : Command). IfOk c.fill_up_to.result (λ came. came ≢ zeros.Few → most_zeros < zero_blocks (volume_of (g.P.SectorView.space c.args.space.now).content).head.block_size (tree_of (g.P.SectorView.space c.args.space.now).content) k)) (sym c.in-Trunc.is) (c.fill_up_to.ensures.many tells)

pub returns-in_default-clause-many : goal.returns-in_default-clause-many
returns-in_default-clause-many g c tells some = absurd (some refl)

pub returns-in_default-clause-fills : goal.returns-in_default-clause-fills
returns-in_default-clause-fills g c tells same = absurd (few_none zeros.Few refl same)

pub returns-in_default-clause-commit : goal.returns-in_default-clause-commit
returns-in_default-clause-commit g c same = absurd (commit_some zeros.CommitFirst refl (sym same))

pub returns-in_default-clause-reads : goal.returns-in_default-clause-reads
returns-in_default-clause-reads g c none = reads_none c.args.volume.now (g.P.SectorView.space c.args.space.now)

pub returns-in_default-clause-keeps : goal.returns-in_default-clause-keeps
returns-in_default-clause-keeps g c = (reads_none c.args.volume.now (g.P.SectorView.space c.args.space.now)).keeps

pub returns-in_default-clause-filled : goal.returns-in_default-clause-filled
returns-in_default-clause-filled g c = c.requires.filled

pub returns-in_default-clause-spare : goal.returns-in_default-clause-spare
returns-in_default-clause-spare g c = omega arith

pub returns-in-Write-clause-next : goal.returns-in-Write-clause-next
returns-in-Write-clause-next g c tells = subst (λ (k : Command). IfOk c.fill_before.result (λ came. came ≡ zeros.Filled → FillsMore (data_of (tree_of (g.P.SectorView.space c.args.space.now).content) k) c.args.volume.now.filling c.fill_before.new.volume.filling)) (sym c.in-Write.is)
    (subst (λ (l : List ℕ). IfOk c.fill_before.result (λ came. came ≡ zeros.Filled → FillsMore (data_of (tree_of (g.P.SectorView.space c.args.space.now).content) (command.Write c.in-Write.path c.in-Write.from l)) c.args.volume.now.filling c.fill_before.new.volume.filling)) c.as_slice.ensures (c.fill_before.ensures.next tells))

pub returns-in-Trunc-clause-next : goal.returns-in-Trunc-clause-next
returns-in-Trunc-clause-next g c tells = subst (λ (k : Command). IfOk c.fill_up_to.result (λ came. came ≡ zeros.Filled → FillsMore (data_of (tree_of (g.P.SectorView.space c.args.space.now).content) k) c.args.volume.now.filling c.fill_up_to.new.volume.filling)) (sym c.in-Trunc.is) (c.fill_up_to.ensures.next tells)

pub returns-in_default-clause-next : goal.returns-in_default-clause-next
returns-in_default-clause-next g c tells same = absurd (few_none zeros.Few refl same)

pub returns-in-Write-clause-few : goal.returns-in-Write-clause-few
returns-in-Write-clause-few g c tells = subst (λ (k : Command). IfOk c.fill_before.result (λ came. came ≡ zeros.Few → HasFewLeft k c.args.volume.now.filling (g.P.SectorView.space c.args.space.now).content)) (sym c.in-Write.is)
    (subst (λ (l : List ℕ). IfOk c.fill_before.result (λ came. came ≡ zeros.Few → HasFewLeft (command.Write c.in-Write.path c.in-Write.from l) c.args.volume.now.filling (g.P.SectorView.space c.args.space.now).content)) c.as_slice.ensures (c.fill_before.ensures.few tells))

pub returns-in-Trunc-clause-few : goal.returns-in-Trunc-clause-few
returns-in-Trunc-clause-few g c tells = subst (λ (k : Command). IfOk c.fill_up_to.result (λ came. came ≡ zeros.Few → HasFewLeft k c.args.volume.now.filling (g.P.SectorView.space c.args.space.now).content)) (sym c.in-Trunc.is) (c.fill_up_to.ensures.few tells)

pub returns-in-Write-clause-frame : goal.returns-in-Write-clause-frame
returns-in-Write-clause-frame g c = c.fill_before.ensures.frame

pub returns-in-Trunc-clause-frame : goal.returns-in-Trunc-clause-frame
returns-in-Trunc-clause-frame g c = c.fill_up_to.ensures.frame

pub returns-in_default-clause-frame : goal.returns-in_default-clause-frame
returns-in_default-clause-frame g c = performs_looked (looked_none g.met.P.SectorView.follows_refl c.requires.serves.stands) c.requires.serves
