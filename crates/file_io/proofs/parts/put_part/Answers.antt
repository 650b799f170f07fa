use Rattle.std.proofs.Common.{arith}
use Rattle.file_io.proofs.PutLaws.{part_put}
use Rattle.file_io.proofs.parts.put_part.Goals as goal

pub returns-then-low-end : goal.returns-then-low-end
returns-then-low-end c = λ k lt.
    part_put c.args.sector.now c.args.value.now c.copy_from_slice.new.self c.max-low.result c.min-end.result c.args.from c.args.start k (omega arith) c.copy_from_slice.ensures.after c.max-low.ensures c.min-end.ensures c.if-low-end.true lt
