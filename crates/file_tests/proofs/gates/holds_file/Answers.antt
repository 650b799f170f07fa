use Rattle.std.proofs.Common.{◌/◌, refl}
use Rattle.fork_map.specs.Blocks.{blocks_of}
use Rattle.file_tests.proofs.GateLaws.{blocks_enough}
use Rattle.file_tests.proofs.gates.holds_file.Goals as goal

pub returns-clause-size : goal.returns-clause-size
returns-clause-size c = λ is. blocks_enough (c.args.block / 512) c.args.block c.args.size (blocks_of c.args.fork.now) refl c.requires.whole (c.holds_bytes.ensures.size is)
