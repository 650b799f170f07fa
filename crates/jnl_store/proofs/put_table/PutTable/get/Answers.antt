use Rattle.std.proofs.Common.{◌≡◌, ◌∙◌, List, sym, ap, subst, arith}
use Rattle.sector_disk.specs.Lists.{sector}
use Rattle.std.specs.Prelude.{Some}
use Rattle.jnl_store.specs.Batch.{bytes_of, has}
use Rattle.jnl_store.specs.Table.{Tabled}
use Rattle.jnl_store.specs.Overlay.{overlay}
use Rattle.jnl_store.specs.declared.puts.Put.{Put}
use Rattle.jnl_store.proofs.Batches.{bytes_at, bytes_none, has-inside, overlay-at, overlay-other}
use Rattle.jnl_store.proofs.put_table.PutTable.get.Goals as goal

pub index-requires : goal.index-requires
index-requires c =
    let e : c.self.inside.puts.items ≡ c.args.self.now.items = ap (λ (t : Tabled). t.items) c.self.view_is in
    let below = has-inside c.self.inside.puts.items c.in-Some.k c.args.at (subst (λ (l : List Put). has l c.in-Some.k c.args.at) (sym e) c.in-Some.ensures) in
    omega (arith, below, c.self.inside.puts.ok.0)

pub returns-in-Some-clause-value : goal.returns-in-Some-clause-value
returns-in-Some-clause-value c content inside =
    let e : c.self.inside.puts.items ≡ c.args.self.now.items = ap (λ (t : Tabled). t.items) c.self.view_is in
    ap (λ (p : Put). p.bytes) c.index.ensures
    ∙ overlay-at c.self.inside.puts.items c.in-Some.k c.args.at c.index.result.now content c.self.invariant.once (subst (λ (l : List Put). has l c.in-Some.k c.args.at) (sym e) c.in-Some.ensures) inside
    ∙ ap (λ (l : List Put). sector (overlay l content) c.args.at) e

pub returns-in-None-clause-value : goal.returns-in-None-clause-value
returns-in-None-clause-value c content inside = overlay-other c.args.self.now.items content c.args.at c.in-None.ensures

pub returns-in-Some-clause-bytes : goal.returns-in-Some-clause-bytes
returns-in-Some-clause-bytes c =
    let e : c.self.inside.puts.items ≡ c.args.self.now.items = ap (λ (t : Tabled). t.items) c.self.view_is in
    ap (λ (p : Put). Some p.bytes) c.index.ensures
    ∙ bytes_at c.self.inside.puts.items c.in-Some.k c.args.at c.index.result.now c.self.invariant.once (subst (λ (l : List Put). has l c.in-Some.k c.args.at) (sym e) c.in-Some.ensures)
    ∙ ap (λ (l : List Put). bytes_of l c.args.at) e

pub returns-in-None-clause-bytes : goal.returns-in-None-clause-bytes
returns-in-None-clause-bytes c = bytes_none c.args.self.now.items c.args.at c.in-None.ensures
