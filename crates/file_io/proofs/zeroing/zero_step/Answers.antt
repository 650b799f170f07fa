use Rattle.std.proofs.Common.{◌+◌, ◌*◌, ◌/◌, ◌<◌, ℕ, List, [], get_or, length, arith, ap, ◌∙◌}
use Rattle.std.proofs.Math.Nat.{mul-le-mul_right}
use Rattle.fork_map.specs.Blocks.{blocks_of, sectors_of}
use Rattle.alloc_bitmap.proofs.PlaceLaws.{one_sector}
use Rattle.file_io.proofs.AroundLaws.{on_both, zero_there}
use Rattle.file_io.proofs.ByteLaws.{length-sectors_of}
use Rattle.file_io.proofs.ZeroLaws.{both_products}
use Rattle.file_io.proofs.zeroing.zero_step.Goals as goal

pub spill_sectors-requires-clause-enough : goal.spill_sectors-requires-clause-enough
spill_sectors-requires-clause-enough g c =
    let p : ℕ = c.args.block / 512 in
    omega (arith, length-sectors_of p (blocks_of c.args.fork.now), mul-le-mul_right p c.requires.within)

pub spill_sectors-requires-clause-apart : goal.spill_sectors-requires-clause-apart
spill_sectors-requires-clause-apart g c = λ i j s x y. one_sector (c.args.block / 512) (blocks_of c.args.fork.now) i j s c.requires.apart x y

pub returns-clause-zeros : goal.returns-clause-zeros
returns-clause-zeros g c = λ tells.
    let p : ℕ = c.args.block / 512 in
    on_both c.spill_sectors.result _ _ _ (c.spill_sectors.ensures.bytes tells) (c.spill_sectors.ensures.bytes tells) (λ bytes again m k less below.
    bytes (c.args.from * p + m) k (omega arith) (omega (arith, less, both_products c.args.from c.args.count p)) below
    ∙ zero_there (g.P.SectorView.space c.args.space.now).content (sectors_of p (blocks_of c.args.fork.now)) 0 0 ((0 + (c.args.from * p + m)) * 512 + k) [] (omega arith) (λ some. absurd (omega (arith, some))))
