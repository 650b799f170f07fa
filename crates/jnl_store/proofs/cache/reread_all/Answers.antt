use Rattle.std.proofs.Common.{arith}
use Rattle.jnl_store.proofs.Sides.{read_through, reread_through, reread_up_to}
use Rattle.jnl_store.proofs.cache.reread_all.Goals as goal

pub returns-in_err-reread-clause-slots : goal.returns-in_err-reread-clause-slots
returns-in_err-reread-clause-slots g c =
    let l = c.loop-i in
    reread_up_to c.args.plan.now c.args.names.now c.args.bytes.now l.bytes l.i c.reread.new.bytes (omega arith) l.invariant.are.0 l.invariant.done l.invariant.left c.reread.ensures.slot

pub returns-clause-slots : goal.returns-clause-slots
returns-clause-slots g c = reread_through c.args.plan.now c.args.names.now c.args.bytes.now c.loop-i.bytes (λ k below. c.loop-i.invariant.done k (omega (arith, below, c.loop-i-test.false)))

pub returns-clause-own : goal.returns-clause-own
returns-clause-own g c tells = read_through c.args.plan.now _ c.args.names.now c.loop-i.bytes (λ k below. c.loop-i.invariant.own tells k (omega (arith, below, c.loop-i-test.false)))
