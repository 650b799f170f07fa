use Rattle.std.proofs.Common.{◌≤◌, ℕ, ◌*◌, ◌/◌, refl, ◌∙◌, ap, arith}
use Rattle.jnl_format.specs.Recovery.{Content}
use Rattle.fork_map.specs.Blocks.{fork_sectors}
use Rattle.fsck_core.specs.Behind.{fork_bit}
use Rattle.fsck_core.specs.Overflows.{overflows_in}
use Rattle.fsck_core.proofs.Limits.{block_range}
use Rattle.fsck_core.proofs.BitsLaws.{bits_are_read}
use Rattle.fsck_core.proofs.bits.read_bits.Goals as goal

pub read_front-requires-clause-per_block : goal.read_front-requires-clause-per_block
read_front-requires-clause-per_block g c = let most : c.args.head.now.block_size ≤ 65536 = (block_range (g.V.SectorView.space c.args.view.now).sectors c.args.head.now c.requires.good).1 in omega (arith, most)

pub returns-clause-bits : goal.returns-clause-bits
returns-clause-bits g c content shows head overflow fits =
    let per_block : ℕ = c.args.head.now.block_size / 512 in
    bits_are_read content c.args.head.now (overflows_in c.args.rows.now) c.in_ok-extents.extents (c.args.head.now.total_blocks * per_block) per_block c.in_ok-bytes.bytes.items c.of_bytes.result
    head overflow (c.in_ok-extents.ensures ∙ c.in_ok-list.ensures) refl refl fits
    (λ k less. c.in_ok-bytes.ensures.bits shows.tells k less ∙ ap (λ (ct : Content). fork_bit ct (c.args.head.now.total_blocks * per_block) (fork_sectors c.in_ok-extents.extents per_block) k) shows.is)
    c.of_bytes.ensures
