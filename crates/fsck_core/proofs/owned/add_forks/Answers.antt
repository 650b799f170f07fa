use Rattle.std.proofs.Common.{arith}
use Rattle.fsck_core.specs.Owners.{owned_all}
use Rattle.fsck_core.proofs.RecordBytes.{record_long, file_long}
use Rattle.fsck_core.proofs.AllForkLaws.{file_forks_then, other_forks}
use Rattle.fsck_core.proofs.owned.add_forks.Goals as goal

pub read_be16-kind-requires : goal.read_be16-kind-requires
read_be16-kind-requires c = record_long c.args.value.now c.requires

pub add_file-requires : goal.add_file-requires
add_file-requires c = let long = file_long c.args.value.now c.read_be16-kind.result c.requires c.read_be16-kind.ensures c.if-kind-eq-FILE.true in omega (arith, long)

pub returns-then-kind-eq-FILE : goal.returns-then-kind-eq-FILE
returns-then-kind-eq-FILE c = file_forks_then c.add_file.result c.args.value.now c.read_be16-kind.result (owned_all c.args.forks.now.items) (owned_all c.add_file.new.forks.items) c.read_be16-kind.ensures c.if-kind-eq-FILE.true c.add_file.ensures

pub returns : goal.returns
returns c = other_forks c.args.value.now c.read_be16-kind.result (owned_all c.args.forks.now.items) c.read_be16-kind.ensures c.if-kind-eq-FILE.false
