use Rattle.std.proofs.Common.{◌≡◌, ◌≤◌, ◌<◌, ◌+◌, ◌*◌, ◌/◌, ℕ, List, length, take, max, refl, arith}
use Rattle.hx_bytes.specs.declared.extents.Extent.{Extent}
use Rattle.fork_map.specs.Blocks.{blocks_of}
use Rattle.file_io.specs.Bytes.{sectors_in, fork_bytes, byte_in, new_byte, written}
use Rattle.file_io.specs.Places.{blocks_for}
use Rattle.file_io.proofs.ByteLaws.{bytes_enough}
use Rattle.file_io.proofs.WrittenLaws.{written_is, both_ok}
use Rattle.file_io.proofs.ZeroLaws.{few_behind, place_before_end, zeros_before}
use Rattle.file_io.proofs.writing.write.Goals as goal

pub returns-clause-bytes : goal.returns-clause-bytes
returns-clause-bytes g c = λ tells some.
    let old = (g.P.SectorView.space c.args.space.now).content in
    let new = (g.P.SectorView.space c.rewrite.new.space).content in
    let had : List ℕ = sectors_in c.args.block c.args.fork.now in
    let end : ℕ = c.args.from + length c.args.value.now in
    both_ok c.rewrite.result
    (λ (list : List Extent). (q : ℕ) → q < max c.args.size end → byte_in new (sectors_in c.args.block list) q ≡ new_byte old had c.args.size c.args.from c.args.value.now q)
    (λ (list : List Extent). max c.args.size end ≤ length (sectors_in c.args.block list) * 512)
    (λ (list : List Extent). take (max c.args.size end) (fork_bytes new c.args.block list) ≡ written (take c.args.size (fork_bytes old c.args.block c.args.fork.now)) c.args.from c.args.value.now)
    (c.rewrite.ensures.bytes tells) c.rewrite.ensures.enough
    (λ list each enough. written_is old new had (sectors_in c.args.block list) c.args.size c.args.from c.args.value.now
    (bytes_enough (c.args.block / 512) c.args.block c.args.size (blocks_of c.args.fork.now) refl c.requires.block.whole c.requires.holds_size) enough each)

pub rewrite-requires-clause-few_zeros : goal.rewrite-requires-clause-few_zeros
rewrite-requires-clause-few_zeros g c =
    let end : ℕ = c.args.from + length c.args.value.now in
    few_behind c.args.zeroed (c.args.from / c.args.block) (blocks_for c.args.block end) (blocks_for c.args.block c.args.size) c.requires.few_zeros
    (place_before_end c.args.block c.args.from end (omega (arith, c.requires.block.least)) (omega arith))

pub rewrite-requires-clause-gap : goal.rewrite-requires-clause-gap
rewrite-requires-clause-gap g c = λ more some. zeros_before c.args.block c.args.size c.args.from c.args.zeroed more c.requires.few_zeros
