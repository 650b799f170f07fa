use Rattle.std.proofs.Common.{◌≡◌, ◌/◌, ℕ, List, Some, slice_get, sym}
use Rattle.fork_map.specs.Blocks.{blocks_of, sectors_of}
use Rattle.file_io.proofs.PartLaws.{old_read}
use Rattle.file_io.proofs.spilling.old_bytes.Goals as goal

pub returns-clause-bytes : goal.returns-clause-bytes
returns-clause-bytes g c = λ tells k lt.
    let sectors : List ℕ = sectors_of c.args.per_block (blocks_of c.args.fork.now) in
    let place : slice_get sectors (c.args.start / 512) ≡ Some c.in-Some.at = sym (c.in-Some.ensures.sector (c.args.start / 512) (c.requires.walk c.if-size-start.false)) in
    old_read (g.P.SectorView.space c.args.space.now).content sectors c.get.new.into c.clear_from-2.new.sector c.args.size c.args.start c.in-Some.at c.min.result k
    (sym (c.in_ok-get-in-Some.ensures.value tells)) c.get.array_long place c.requires.aligned c.if-size-start.false c.min.ensures lt (c.clear_from-2.ensures k lt)
