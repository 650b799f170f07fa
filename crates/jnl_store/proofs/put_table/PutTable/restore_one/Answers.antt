use Rattle.std.proofs.Common.{◌≡◌, ◌<◌, List, get_or, set, length, sym, ◌∙◌, ap, subst, arith, length-set}
use Rattle.jnl_store.specs.Batch.{has, restored_front, saved_or}
use Rattle.jnl_store.specs.Table.{Tabled}
use Rattle.jnl_store.specs.declared.puts.Put.{Put}
use Rattle.jnl_store.proofs.Saved.{front_length, front_step, has_get, saved_at}
use Rattle.jnl_store.proofs.Tables.{table-set}
use Rattle.jnl_store.proofs.put_table.PutTable.restore_one.Goals as goal

pub invariant_of-self : goal.invariant_of-self
invariant_of-self c =
    let i = c.self.inside in
    let e : i.puts.items ≡ c.args.self.now.items = ap (λ (t : Tabled). t.items) c.self.view_is in
    let below : c.args.k < length i.puts.items = omega (arith, c.requires, ap (λ (l : List Put). length l) e) in
    let saved = c.args.saved.now.items in
    let put = c.index.result.now in
    let at_is : c.was-old.result.at ≡ (get_or i.puts.items c.args.k put).at = ap (λ (p : Put). p.at) c.was-old.ensures ∙ saved_at saved put ∙ ap (λ (p : Put). p.at) c.index.ensures in
    table-set i.puts.items i.index.sectors _ _ _ c.args.k c.was-old.result c.self.invariant (subst (λ n. has i.puts.items c.args.k n) (sym at_is) (has_get i.puts.items c.args.k put below))

pub returns-clause-items : goal.returns-clause-items
returns-clause-items c old is =
    let i = c.self.inside in
    let e : i.puts.items ≡ c.args.self.now.items = ap (λ (t : Tabled). t.items) c.self.view_is in
    let saved = c.args.saved.now.items in
    let put = c.index.result.now in
    let all : i.puts.items ≡ restored_front old saved c.args.k = e ∙ is in
    let below : c.args.k < length old = omega (arith, c.requires, ap (λ (l : List Put). length l) is, front_length old saved c.args.k) in
    ap (λ (p : Put). set i.puts.items c.args.k p) c.was-old.ensures
    ∙ ap (λ (l : List Put). set l c.args.k (saved_or saved put)) all
    ∙ front_step old saved c.args.k put below (c.index.ensures ∙ ap (λ (l : List Put). get_or l c.args.k put) all)

pub returns-clause-count : goal.returns-clause-count
returns-clause-count c = length-set c.self.inside.puts.items c.args.k c.was-old.result ∙ ap (λ (t : Tabled). length t.items) c.self.view_is
