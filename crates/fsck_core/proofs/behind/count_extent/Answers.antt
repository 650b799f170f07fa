use Rattle.std.proofs.Common.{◌+◌, ◌-◌, ◌^◌, min, ◌∙◌, ap, arith}
use Rattle.jnl_format.specs.Recovery.{Content}
use Rattle.fsck_core.proofs.BehindSums.{whole_counted}
use Rattle.fsck_core.proofs.behind.count_extent.Goals as goal

pub returns-in-Some-clause-value : goal.returns-in-Some-clause-value
returns-in-Some-clause-value g c tells index here has before =
    let content : Content = (g.V.SectorView.space c.args.view.now).content in
    whole_counted content c.args.fork.now.limit c.args.total c.args.fork.now.per_block c.args.size c.args.fork.now.extents.now index c.args.start c.args.inside c.args.front c.args.at
    c.args.upto c.args.before c.saturating_add.result c.requires.some c.requires.per_block (omega (arith, c.ranges.total)) here (c.is_whole.ensures c.if-is_whole.true) before
    (c.saturating_add.ensures ∙ ap (λ n. min (c.args.before + n) (2 ^ 64 - 1)) (c.in-Some.ensures content c.args.fork.now.limit c.args.total c.args.fork.now.per_block has))

pub returns-clause-value : goal.returns-clause-value
returns-clause-value g c tells index here has before = c.count_stretch.ensures.value tells before
