use Rattle.std.proofs.Common.{arith, refl, ◌∙◌}
use Rattle.jnl_store.specs.Newest.{newest}
use Rattle.jnl_store.proofs.Places.{lists_done, lists_step}
use Rattle.jnl_store.proofs.live_table.LiveTable.put_lists.Goals as goal

pub loop-put-init : goal.loop-put-init
loop-put-init c = record { newest = λ s. refl; near = omega arith; few = omega arith; memory = refl }

pub body_of-body-requires-clause-place : goal.body_of-body-requires-clause-place
body_of-body-requires-clause-place c = omega (arith, c.loop-put.invariant.near, c.loop-put-test.true, c.requires.from, c.requires.few)

pub put-requires : goal.put-requires
put-requires c = omega (arith, c.loop-put.invariant.few, c.loop-put.invariant.memory, c.loop-put-test.true, c.requires.room)

pub overflow_add-place : goal.overflow_add-place
overflow_add-place c = omega (arith, c.body_of-body.ensures.near, c.loop-put.invariant.near, c.loop-put-test.true, c.requires.from, c.requires.few)

pub loop-put-preserved : goal.loop-put-preserved
loop-put-preserved c = record {
  newest = λ s. lists_step c.args.form.now.blhdr c.loop-put.place c.loop-put.left c.loop-put.put-index c.body_of-body.result c.left_behind-left.result c.args.puts.now c.put-item.result s (newest c.loop-put.self.homes s) (newest c.put.new.self.homes s)
      c.loop-put-test.true c.put-item.is c.body_of-body.ensures.value c.left_behind-left.ensures (c.put.ensures.newest s)
      ∙ c.loop-put.invariant.newest s;
  near = omega (arith, c.body_of-body.ensures.near, c.loop-put.invariant.near);
  few = omega (arith, c.put.ensures.few, c.loop-put.invariant.few);
  memory = c.put.ensures.memory ∙ c.loop-put.invariant.memory;
}

pub returns-clause-newest : goal.returns-clause-newest
returns-clause-newest c s =
    lists_done c.args.form.now.blhdr c.loop-put.place c.loop-put.left c.loop-put.put-index c.args.puts.now s (newest c.loop-put.self.homes s) (omega (arith, c.loop-put-test.false))
    ∙ c.loop-put.invariant.newest s

pub returns-clause-few : goal.returns-clause-few
returns-clause-few c = omega (arith, c.loop-put.invariant.few, c.loop-put.auto.put-index-end)

pub returns-clause-memory : goal.returns-clause-memory
returns-clause-memory c = c.loop-put.invariant.memory
