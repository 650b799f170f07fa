use Rattle.std.proofs.Common.{◌+◌, ◌*◌, ◌%◌, ap, sym, ◌∙◌, arith, refl}
use Rattle.std.specs.Option.{option_map}
use Rattle.fork_map.specs.Blocks.{blocks_of}
use Rattle.fork_map.proofs.Laws.{no_sectors, sector_at_place}
use Rattle.fork_map.proofs.summed.SummedFork.sector_at.Goals as goal

pub returns-then-per_block-eq0 : goal.returns-then-per_block-eq0
returns-then-per_block-eq0 c = rw c.if-per_block-eq0.true (rw (no_sectors (blocks_of c.args.self.now)) refl)

pub returns-in-Some : goal.returns-in-Some
returns-in-Some c = ap (λ o. option_map (λ b. b * c.args.per_block + c.args.n % c.args.per_block) o) c.in-Some.ensures.block ∙ sym (sector_at_place c.args.per_block (blocks_of c.args.self.now) c.args.n (omega arith))

pub returns-in-None : goal.returns-in-None
returns-in-None c = ap (λ o. option_map (λ b. b * c.args.per_block + c.args.n % c.args.per_block) o) c.in-None.ensures.block ∙ sym (sector_at_place c.args.per_block (blocks_of c.args.self.now) c.args.n (omega arith))
