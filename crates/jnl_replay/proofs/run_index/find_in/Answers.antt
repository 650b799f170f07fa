use Rattle.std.proofs.Common.{length, refl, sym, ◌∙◌, ◌-◌, arith}
use Rattle.jnl_replay.proofs.ListLaws.{none_behind, found_at, some_behind}
use Rattle.jnl_replay.proofs.run_index.find_in.Goals as goal

pub loop-left-init : goal.loop-left-init
loop-left-init c = record {
  within = omega arith;
  none = none_behind c.args.lists.now (length c.args.lists.now) c.args.at refl;
}

pub returns-in-Some : goal.returns-in-Some
returns-in-Some c = sym
    (some_behind c.args.lists.now (c.loop-left.left - 1) c.args.at c.in-Some.place
    (found_at c.args.lists.now c.loop-left.left c.args.at c.index-lists-left.result c.find.result (omega (arith, c.loop-left-test.true)) c.loop-left.invariant.within c.loop-left.invariant.none c.index-lists-left.is c.find.ensures ∙ c.in-Some.is))

pub loop-left-preserved : goal.loop-left-preserved
loop-left-preserved c = record {
  within = omega (arith, c.loop-left.invariant.within);
  none =
      found_at c.args.lists.now c.loop-left.left c.args.at c.index-lists-left.result c.find.result (omega (arith, c.loop-left-test.true)) c.loop-left.invariant.within c.loop-left.invariant.none c.index-lists-left.is c.find.ensures ∙ c.in_default.is;
}
