use Rattle.std.proofs.Common.{◌≡◌, ◌∙◌, List, sym, ap, subst, arith}
use Rattle.std.specs.Prelude.{Some}
use Rattle.jnl_store.specs.Batch.{AreOnce, bytes_of, has}
use Rattle.jnl_store.specs.Table.{Tabled}
use Rattle.jnl_store.specs.declared.puts.Put.{Put}
use Rattle.jnl_store.proofs.Batches.{bytes_at, has-inside}
use Rattle.jnl_store.proofs.put_table.PutTable.keeps.Goals as goal

pub index-requires : goal.index-requires
index-requires c =
    let e : c.self.inside.puts.items ≡ c.args.self.now.items = ap (λ (t : Tabled). t.items) c.self.view_is in
    let below = has-inside c.self.inside.puts.items c.in-Some.k c.args.at (subst (λ (l : List Put). has l c.in-Some.k c.args.at) (sym e) c.in-Some.ensures) in
    omega (arith, below, c.self.inside.puts.ok.0)

pub returns-in-Some-clause-keeps : goal.returns-in-Some-clause-keeps
returns-in-Some-clause-keeps c same =
    let e : c.self.inside.puts.items ≡ c.args.self.now.items = ap (λ (t : Tabled). t.items) c.self.view_is in
    ap (λ (l : List Put). bytes_of l c.args.at) (sym e)
    ∙ sym (bytes_at c.self.inside.puts.items c.in-Some.k c.args.at c.index.result.now c.self.invariant.once (subst (λ (l : List Put). has l c.in-Some.k c.args.at) (sym e) c.in-Some.ensures))
    ∙ ap (λ (p : Put). Some p.bytes) (sym c.index.ensures)
    ∙ ap (λ b. Some b) (c.are_same.ensures same)
