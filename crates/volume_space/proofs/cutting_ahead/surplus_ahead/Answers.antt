use Rattle.std.proofs.Common.{◌≡◌, ◌∙◌, ap, sym, ℕ}
use Rattle.std.specs.Prelude.{◌&&◌, nat_lt, Bool, Option, None, Some, if◌then◌else◌}
use Rattle.hfs_volume.specs.Forks.{parts_for}
use Rattle.volume_space.specs.declared.trimming.Surplus.{Surplus}
use Rattle.volume_space.proofs.cutting_ahead.surplus_ahead.Goals as goal

pub returns-then-not-is_longer : goal.returns-then-not-is_longer
returns-then-not-is_longer c =
    sym (ap (λ b. if◌then◌else◌ {A = Option Surplus} (b && nat_lt (parts_for c.args.fork.logical_size c.args.block) c.args.fork.total_blocks) (Some (record { kind = c.args.kind; keep = parts_for c.args.fork.logical_size c.args.block })) None)
    (sym c.is_longer.ensures ∙ c.if-not-is_longer.true))

pub returns-then-not-is_exceeded : goal.returns-then-not-is_exceeded
returns-then-not-is_exceeded c =
    sym (λ i. if◌then◌else◌ {A = Option Surplus} ((sym c.is_longer.ensures ∙ c.if-not-is_longer.false) i && (ap (λ n. nat_lt n c.args.fork.total_blocks) (sym c.count_wanted-keep.ensures) ∙ sym c.is_exceeded.ensures ∙ c.if-not-is_exceeded.true) i)
    (Some (record { kind = c.args.kind; keep = parts_for c.args.fork.logical_size c.args.block })) None)

pub returns : goal.returns
returns c =
    (λ i. Some (record { kind = c.args.kind; keep = c.count_wanted-keep.ensures i }))
    ∙ sym (λ i. if◌then◌else◌ {A = Option Surplus} ((sym c.is_longer.ensures ∙ c.if-not-is_longer.false) i && (ap (λ n. nat_lt n c.args.fork.total_blocks) (sym c.count_wanted-keep.ensures) ∙ sym c.is_exceeded.ensures ∙ c.if-not-is_exceeded.false) i)
    (Some (record { kind = c.args.kind; keep = parts_for c.args.fork.logical_size c.args.block })) None)
