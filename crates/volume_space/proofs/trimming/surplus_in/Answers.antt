use Rattle.std.proofs.Common.{◌≡◌, ◌∙◌, ap, sym}
use Rattle.std.specs.Prelude.{nat_lt, Option, None, Some, if◌then◌else◌}
use Rattle.hfs_volume.specs.Forks.{parts_for}
use Rattle.volume_space.specs.Cutting.{surplus_in}
use Rattle.volume_base.specs.declared.forks.ForkKind.TheVariants as kinds
use Rattle.volume_space.specs.declared.trimming.Surplus.{Surplus}
use Rattle.volume_space.proofs.trimming.surplus_in.Goals as goal

pub returns-then-is_exceeded : goal.returns-then-is_exceeded
returns-then-is_exceeded c =
    (λ i. Some (record { kind = kinds.Data; keep = c.count_wanted-wanted.ensures i }))
    ∙ sym (ap (surplus_in c.args.block) c.in-File.is ∙ ap (λ b. if◌then◌else◌ {A = Option Surplus} b (Some (record { kind = kinds.Data; keep = parts_for c.in-File.file.data_fork.logical_size c.args.block })) None)
    (ap (λ n. nat_lt n c.in-File.file.data_fork.total_blocks) (sym c.count_wanted-wanted.ensures) ∙ sym c.is_exceeded.ensures ∙ c.if-is_exceeded.true))

pub returns-else-is_exceeded : goal.returns-else-is_exceeded
returns-else-is_exceeded c =
    sym (ap (surplus_in c.args.block) c.in-File.is ∙ ap (λ b. if◌then◌else◌ {A = Option Surplus} b (Some (record { kind = kinds.Data; keep = parts_for c.in-File.file.data_fork.logical_size c.args.block })) None)
    (ap (λ n. nat_lt n c.in-File.file.data_fork.total_blocks) (sym c.count_wanted-wanted.ensures) ∙ sym c.is_exceeded.ensures ∙ c.if-is_exceeded.false))
