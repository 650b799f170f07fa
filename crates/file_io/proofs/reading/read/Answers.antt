use Rattle.std.proofs.Common.{◌/◌, ℕ, List, min, refl, arith, ap, ◌∙◌}
use Rattle.fork_map.specs.Blocks.{blocks_of, sectors_of}
use Rattle.file_io.specs.Bytes.{fork_bytes}
use Rattle.file_io.proofs.ByteLaws.{bytes_enough, length-bytes_in, read_is, read_nothing}
use Rattle.file_io.proofs.reading.read.Goals as goal

pub returns-then-end-from-clause-bytes : goal.returns-then-end-from-clause-bytes
returns-then-end-from-clause-bytes g c = λ tells. c.new.ensures ∙ read_nothing (fork_bytes (g.P.SectorView.space c.args.space.now).content c.args.block c.args.fork.now) c.args.size c.args.from c.min-end.result c.args.count
    c.if-end-from.true (c.min-end.ensures ∙ ap (λ m. min c.args.size m) c.saturating_add.ensures) c.ranges.size.fits

pub read_part-requires-clause-holds : goal.read_part-requires-clause-holds
read_part-requires-clause-holds g c = omega (arith, bytes_enough (c.args.block / 512) c.args.block c.args.size (blocks_of c.args.fork.now) refl c.requires.block.whole c.requires.holds_size, c.min-end.ensures)

pub returns-clause-bytes : goal.returns-clause-bytes
returns-clause-bytes g c = λ tells.
    let content = (g.P.SectorView.space c.args.space.now).content in
    let all : List ℕ = fork_bytes content c.args.block c.args.fork.now in
    let enough = bytes_enough (c.args.block / 512) c.args.block c.args.size (blocks_of c.args.fork.now) refl c.requires.block.whole c.requires.holds_size in
    c.from_vec.ensures ∙ c.in_ok-bytes.ensures.bytes tells
    ∙ read_is all c.args.size c.args.from c.min-end.result c.args.count (omega (arith, enough, length-bytes_in content (sectors_of (c.args.block / 512) (blocks_of c.args.fork.now)))) c.if-end-from.false
    (c.min-end.ensures ∙ ap (λ m. min c.args.size m) c.saturating_add.ensures) c.ranges.size.fits
