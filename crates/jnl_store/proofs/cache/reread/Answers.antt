use Rattle.std.proofs.Common.{◌∙◌, sym}
use Rattle.jnl_store.proofs.Cached.{reread_same}
use Rattle.jnl_store.proofs.Sides.{reread_bytes}
use Rattle.jnl_store.proofs.cache.reread.Goals as goal

pub returns-in_err-read-in-Some-clause-slot : goal.returns-in_err-read-in-Some-clause-slot
returns-in_err-read-in-Some-clause-slot g c = reread_bytes c.args.plan.now c.args.name c.in-Some.at c.args.bytes.now c.read.new.into c.in-Some.is (sym c.is_own.ensures ∙ c.if-is_own.true) c.told-bytes c.read.array_long

pub returns-in_ok-read-in-Some-clause-slot : goal.returns-in_ok-read-in-Some-clause-slot
returns-in_ok-read-in-Some-clause-slot g c = reread_bytes c.args.plan.now c.args.name c.in-Some.at c.args.bytes.now c.read.new.into c.in-Some.is (sym c.is_own.ensures ∙ c.if-is_own.true) c.told-bytes c.read.array_long

pub returns-else-is_own-clause-slot : goal.returns-else-is_own-clause-slot
returns-else-is_own-clause-slot g c = reread_same c.args.plan.now _
