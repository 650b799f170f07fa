use Rattle.std.proofs.Common.{◌≡◌, ℕ, ◌-◌, ◌*◌, ◌/◌, ◌^◌, min, IsTrue, List, refl, sym, ◌∙◌, ap, subst, arith}
use Rattle.sector_disk.specs.Space.{Space}
use Rattle.jnl_format.specs.Recovery.{Content}
use Rattle.fork_map.specs.Blocks.{fork_sectors}
use Rattle.fsck_core.specs.Behind.{set_between, HasSums}
use Rattle.fsck_core.specs.declared.sums.BlockSum.{BlockSum}
use Rattle.fsck_core.specs.Overflows.{overflows_in}
use Rattle.fsck_core.proofs.Limits.{block_range}
use Rattle.fsck_core.proofs.BehindLaws.{behind_is}
use Rattle.fsck_core.proofs.behind.count_behind.Goals as goal

pub count_past-requires : goal.count_past-requires
count_past-requires g c =
    let range = block_range (g.V.SectorView.space c.args.view.now).sectors c.args.head.now c.requires.good in
    record {
      few = omega (arith, range);
      some = omega (arith, range);
      limit = refl;
    }

pub returns-clause-value : goal.returns-clause-value
returns-clause-value g c tells head overflow =
    let old : Space = g.V.SectorView.space c.args.view.now in
    let now : Space = g.V.SectorView.space c.read_sums.new.view in
    let limit : ℕ = c.args.head.now.total_blocks * (c.args.head.now.block_size / 512) in
    let per : ℕ = c.args.head.now.block_size / 512 in
    let told : IsTrue now.tells = c.in_ok-sums.ensures.reads.same.tells ∙ tells in
    let content : now.content ≡ old.content = (c.in_ok-sums.ensures.reads.sectors tells).content in
    let sums : HasSums old.content limit c.args.head.now.total_blocks per c.in_ok-sums.sums.items = c.in_ok-sums.ensures.value tells in
    let has : HasSums now.content limit c.args.head.now.total_blocks per c.deref.result.now =
    subst (λ (l : List BlockSum). HasSums now.content limit c.args.head.now.total_blocks per l) (sym c.deref.ensures.value) (subst (λ (ct : Content). HasSums ct limit c.args.head.now.total_blocks per c.in_ok-sums.sums.items) (sym content) sums) in
    behind_is old.content c.args.head.now (overflows_in c.args.rows.now) c.in_ok-extents.extents limit per c.in_ok-count.count head overflow (c.in_ok-extents.ensures ∙ c.in_ok-list.ensures) refl refl
    (c.in_ok-count.ensures.value told has ∙ ap (λ (ct : Content). min (set_between ct limit (fork_sectors c.in_ok-extents.extents per) c.args.head.now.total_blocks (8 * c.args.head.now.allocation_fork.logical_size)) (2 ^ 64 - 1)) content)
