use Rattle.std.proofs.Common.{◌≡◌, ◌∙◌, List, sym, ap, subst, arith, take}
use Rattle.std.specs.Prelude.{Some}
use Rattle.jnl_store.specs.Batch.{has, put_in}
use Rattle.jnl_store.specs.Table.{Tabled}
use Rattle.jnl_store.specs.declared.puts.Put.{Put}
use Rattle.jnl_store.proofs.Batches.{has-inside}
use Rattle.jnl_store.proofs.Saved.{among_beyond, among_here, among_none}
use Rattle.jnl_store.proofs.put_table.PutTable.among.Goals as goal

pub index-requires : goal.index-requires
index-requires c =
    let e : c.self.inside.puts.items ≡ c.args.self.now.items = ap (λ (t : Tabled). t.items) c.self.view_is in
    let below = has-inside c.self.inside.puts.items c.in-Some.k c.args.at (subst (λ (l : List Put). has l c.in-Some.k c.args.at) (sym e) c.in-Some.ensures) in
    omega (arith, below, c.self.inside.puts.ok.0)

pub returns-then-k-count-clause-put : goal.returns-then-k-count-clause-put
returns-then-k-count-clause-put c =
    let e : c.self.inside.puts.items ≡ c.args.self.now.items = ap (λ (t : Tabled). t.items) c.self.view_is in
    sym (ap (λ (p : Put). Some p) c.index.ensures
    ∙ among_here c.self.inside.puts.items c.in-Some.k c.args.at c.args.count c.index.result.now c.self.invariant.once (subst (λ (l : List Put). has l c.in-Some.k c.args.at) (sym e) c.in-Some.ensures) (omega (arith, c.if-k-count.true))
    ∙ ap (λ (l : List Put). put_in (take c.args.count l) c.args.at) e)

pub returns-else-k-count-clause-put : goal.returns-else-k-count-clause-put
returns-else-k-count-clause-put c =
    let e : c.self.inside.puts.items ≡ c.args.self.now.items = ap (λ (t : Tabled). t.items) c.self.view_is in
    sym (among_beyond c.self.inside.puts.items c.in-Some.k c.args.at c.args.count c.self.invariant.once (subst (λ (l : List Put). has l c.in-Some.k c.args.at) (sym e) c.in-Some.ensures) (omega (arith, c.if-k-count.false))
    ∙ ap (λ (l : List Put). put_in (take c.args.count l) c.args.at) e)

pub returns-in-None-clause-put : goal.returns-in-None-clause-put
returns-in-None-clause-put c = sym (among_none c.args.self.now.items c.args.count c.args.at c.in-None.ensures)
