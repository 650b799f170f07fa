use Rattle.std.proofs.Common.{arith, sym}
use Rattle.std.proofs.lemmas.Bool.{eqb-true}
use Rattle.jnl_store.proofs.Sides.{kept_holds, kept_none, kept_others, kept_slot}
use Rattle.jnl_store.proofs.cache.Cache.set.Goals as goal

pub returns-then-is_empty-clause-kept : goal.returns-then-is_empty-clause-kept
returns-then-is_empty-clause-kept c = kept_none c.self.inside.names.items c.self.inside.bytes.items c.args.self.now c.args.at c.args.from.now c.self.view_is (omega (arith, eqb-true _ 0 (sym c.if-is_empty.ensures), c.self.inside.names.ok.0)) c.told-from

pub returns-clause-kept : goal.returns-clause-kept
returns-clause-kept c = kept_slot c.self.inside.names.items c.self.inside.bytes.items c.args.self.now c.len.result c.args.at c.args.from.now c.self.invariant.slots c.self.view_is (omega (arith, c.len.ensures, c.self.inside.names.ok.0)) c.told-from

pub returns-clause-holds : goal.returns-clause-holds
returns-clause-holds c some = kept_holds c.args.self.now _ c.args.at c.args.from.now (returns-clause-kept c) some

pub returns-clause-others : goal.returns-clause-others
returns-clause-others c = kept_others c.args.self.now _ c.args.at c.args.from.now (returns-clause-kept c)
