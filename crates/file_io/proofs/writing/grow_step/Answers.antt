use Rattle.std.proofs.Common.{◌≡◌, ◌≤◌, ◌<◌, ◌*◌, ◌/◌, ℕ, List, [], length, take, max, refl, arith}
use Rattle.hx_bytes.specs.declared.extents.Extent.{Extent}
use Rattle.fork_map.specs.Blocks.{blocks_of}
use Rattle.file_io.specs.Bytes.{sectors_in, fork_bytes, byte_in, new_byte, padded}
use Rattle.file_io.proofs.ByteLaws.{bytes_enough}
use Rattle.file_io.proofs.WrittenLaws.{grown_is, both_ok}
use Rattle.file_io.proofs.writing.grow_step.Goals as goal

pub returns-clause-bytes : goal.returns-clause-bytes
returns-clause-bytes g c = λ tells more.
    let old = (g.P.SectorView.space c.args.space.now).content in
    let new = (g.P.SectorView.space c.rewrite.new.space).content in
    let had : List ℕ = sectors_in c.args.block c.args.fork.now in
    both_ok c.rewrite.result
    (λ (list : List Extent). (q : ℕ) → q < max c.args.size c.args.to → byte_in new (sectors_in c.args.block list) q ≡ new_byte old had c.args.size c.args.size [] q)
    (λ (list : List Extent). max c.args.size c.args.to ≤ length (sectors_in c.args.block list) * 512)
    (λ (list : List Extent). take c.args.to (fork_bytes new c.args.block list) ≡ padded c.args.to (take c.args.size (fork_bytes old c.args.block c.args.fork.now)))
    (c.rewrite.ensures.bytes tells) c.rewrite.ensures.enough
    (λ list each enough. grown_is old new had (sectors_in c.args.block list) c.args.size c.args.to
    (bytes_enough (c.args.block / 512) c.args.block c.args.size (blocks_of c.args.fork.now) refl c.requires.block.whole c.requires.holds_size)
    c.requires.order (omega (arith, enough)) (λ q lt. each q (omega (arith, lt))))

pub rewrite-requires-clause-gap : goal.rewrite-requires-clause-gap
rewrite-requires-clause-gap g c = λ more some. absurd (omega (arith, some))
