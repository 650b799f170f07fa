use Rattle.std.proofs.Common.{◌≡◌, List, sym, ◌∙◌, ap, subst}
use Rattle.jnl_store.specs.Batch.{has, names}
use Rattle.jnl_store.specs.Table.{Tabled}
use Rattle.jnl_store.specs.declared.puts.Put.{Put}
use Rattle.jnl_store.proofs.Tables.{located, unnamed}
use Rattle.jnl_store.proofs.put_table.PutTable.find.Goals as goal

pub returns-in-Some : goal.returns-in-Some
returns-in-Some c =
    let i = c.self.inside in
    let e : i.puts.items ≡ c.args.self.now.items = ap (λ (t : Tabled). t.items) c.self.view_is in
    subst (λ (l : List Put). has l c.in-Some.k c.args.at) e (located i.puts.items i.index.sectors _ _ _ c.args.at c.in-Some.k c.self.invariant c.in-Some.ensures.place)

pub returns-in-None : goal.returns-in-None
returns-in-None c =
    let i = c.self.inside in
    let e : i.puts.items ≡ c.args.self.now.items = ap (λ (t : Tabled). t.items) c.self.view_is in
    ap (λ (l : List Put). names l c.args.at) (sym e) ∙ unnamed i.puts.items i.index.sectors _ _ _ c.args.at c.self.invariant c.in-None.ensures.place
