use Rattle.std.proofs.Common.{◌≡◌, ◌∙◌, List, sym, ap, subst, arith}
use Rattle.std.specs.Prelude.{Some}
use Rattle.jnl_store.specs.Batch.{has, put_in}
use Rattle.jnl_store.specs.Table.{Tabled}
use Rattle.jnl_store.specs.declared.puts.Put.{Put}
use Rattle.jnl_store.proofs.Batches.{has-inside}
use Rattle.jnl_store.proofs.Saved.{put_here, put_in_none}
use Rattle.jnl_store.proofs.put_table.PutTable.put_of.Goals as goal

pub index-requires : goal.index-requires
index-requires c =
    let e : c.self.inside.puts.items ≡ c.args.self.now.items = ap (λ (t : Tabled). t.items) c.self.view_is in
    let below = has-inside c.self.inside.puts.items c.in-Some.k c.args.at (subst (λ (l : List Put). has l c.in-Some.k c.args.at) (sym e) c.in-Some.ensures) in
    omega (arith, below, c.self.inside.puts.ok.0)

pub returns-in-Some : goal.returns-in-Some
returns-in-Some c =
    let e : c.self.inside.puts.items ≡ c.args.self.now.items = ap (λ (t : Tabled). t.items) c.self.view_is in
    ap (λ (p : Put). Some p) c.index.ensures
    ∙ put_here c.self.inside.puts.items c.in-Some.k c.args.at c.index.result.now c.self.invariant.once (subst (λ (l : List Put). has l c.in-Some.k c.args.at) (sym e) c.in-Some.ensures)
    ∙ ap (λ (l : List Put). put_in l c.args.at) e

pub returns-in-None : goal.returns-in-None
returns-in-None c = sym (put_in_none c.args.self.now.items c.args.at c.in-None.ensures)
