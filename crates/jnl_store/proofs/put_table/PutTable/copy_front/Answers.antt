use Rattle.std.proofs.Common.{◌≡◌, ◌<◌, ◌+◌, ◌∙◌, List, ap, arith, length, sym, take}
use Rattle.std.proofs.lemmas.List.{length-take-le}
use Rattle.jnl_store.specs.Table.{Tabled}
use Rattle.jnl_store.specs.declared.puts.Put.{Put}
use Rattle.jnl_store.proofs.Saved.{copied_step}
use Rattle.jnl_store.proofs.put_table.PutTable.copy_front.Goals as goal

pub loop-k-preserved : goal.loop-k-preserved
loop-k-preserved c =
    let from = c.from.inside.puts.items in
    let e : from ≡ c.args.from.now.items = ap (λ (t : Tabled). t.items) c.from.view_is in
    let below : c.loop-k.k < length from = omega (arith, c.loop-k-test.true, c.requires.few, ap (λ (l : List Put). length l) e) in
    let items : c.place.new.self.items ≡ take (c.loop-k.k + 1) c.args.from.now.items =
    copied_step from c.loop-k.self.items c.place.new.self.items c.loop-k.k c.index.result.now c.from.invariant.once below (c.loop-k.invariant.items ∙ ap (λ (l : List Put). take c.loop-k.k l) (sym e)) c.index.ensures c.place.ensures.placed
    ∙ ap (λ (l : List Put). take (c.loop-k.k + 1) l) e in
    record {
      items = items;
      count = ap (λ (l : List Put). length l) items ∙ length-take-le (c.loop-k.k + 1) c.args.from.now.items (omega (arith, below, ap (λ (l : List Put). length l) e));
      memory = c.place.ensures.memory ∙ c.loop-k.invariant.memory;
    }
