use Rattle.std.proofs.Common.{◌≡◌, ◌<◌, ◌==◌, ◌||◌, ◌++◌, [], ◌∷◌, List, inl, inr, length, sym, ◌∙◌, ap, subst, set, arith}
use Rattle.jnl_store.specs.Batch.{has, names}
use Rattle.jnl_store.specs.Overlay.{overlay}
use Rattle.jnl_store.specs.Table.{Tabled}
use Rattle.jnl_store.specs.declared.puts.Put.{Put}
use Rattle.jnl_store.proofs.Batches.{counted_push, counted_set, has-inside, names-push, names-set, overlay-push, overlay-set, pushed, room_left, same_names}
use Rattle.jnl_store.proofs.Tables.{missing, table-push, table-set}
use Rattle.jnl_store.proofs.put_table.PutTable.place.Goals as goal

pub index_mut-requires : goal.index_mut-requires
index_mut-requires c =
    let i = c.self.inside in
    let e : i.puts.items ≡ c.args.self.now.items = ap (λ (t : Tabled). t.items) c.self.view_is in
    omega (arith, has-inside i.puts.items c.in-Some.k c.args.put.now.at (subst (λ (l : List Put). has l c.in-Some.k c.args.put.now.at) (sym e) c.in-Some.ensures), i.puts.ok.0)

pub invariant_of-self : goal.invariant_of-self
invariant_of-self c =
    let i = c.self.inside in
    let e : i.puts.items ≡ c.args.self.now.items = ap (λ (t : Tabled). t.items) c.self.view_is in
    table-set i.puts.items i.index.sectors _ _ _ c.in-Some.k c.args.put.now c.self.invariant (subst (λ (l : List Put). has l c.in-Some.k c.args.put.now.at) (sym e) c.in-Some.ensures)

pub returns-in-Some-clause-placed : goal.returns-in-Some-clause-placed
returns-in-Some-clause-placed c =
    let e : c.self.inside.puts.items ≡ c.args.self.now.items = ap (λ (t : Tabled). t.items) c.self.view_is in
    inr (c.in-Some.k, c.in-Some.ensures, ap (λ (l : List Put). set l c.in-Some.k c.args.put.now) e)

pub returns-in-Some-clause-content : goal.returns-in-Some-clause-content
returns-in-Some-clause-content c content =
    let i = c.self.inside in
    let e : i.puts.items ≡ c.args.self.now.items = ap (λ (t : Tabled). t.items) c.self.view_is in
    overlay-set i.puts.items c.in-Some.k c.args.put.now content c.self.invariant.once (subst (λ (l : List Put). has l c.in-Some.k c.args.put.now.at) (sym e) c.in-Some.ensures)
    ∙ ap (λ (l : List Put). set (overlay l content) c.args.put.now.at c.args.put.now.bytes) e

pub returns-in-Some-clause-names : goal.returns-in-Some-clause-names
returns-in-Some-clause-names c s =
    let i = c.self.inside in
    let at = c.args.put.now.at in
    let e : i.puts.items ≡ c.args.self.now.items = ap (λ (t : Tabled). t.items) c.self.view_is in
    let h = subst (λ (l : List Put). has l c.in-Some.k at) (sym e) c.in-Some.ensures in
    names-set i.puts.items c.in-Some.k c.args.put.now s h ∙ same_names i.puts.items c.in-Some.k at s h ∙ ap (λ (l : List Put). s == at || names l s) e

pub returns-in-Some-clause-count : goal.returns-in-Some-clause-count
returns-in-Some-clause-count c =
    let i = c.self.inside in
    let e : i.puts.items ≡ c.args.self.now.items = ap (λ (t : Tabled). t.items) c.self.view_is in
    counted_set i.puts.items c.args.self.now.items c.in-Some.k c.args.put.now.at c.args.put.now e c.in-Some.ensures

pub push-requires-clause-missing : goal.push-requires-clause-missing
push-requires-clause-missing c =
    let i = c.self.inside in
    let e : i.puts.items ≡ c.args.self.now.items = ap (λ (t : Tabled). t.items) c.self.view_is in
    missing i.puts.items i.index.sectors _ _ _ c.args.put.now.at c.self.invariant (ap (λ (l : List Put). names l c.args.put.now.at) e ∙ c.in-None.ensures)

pub push-requires-clause-room : goal.push-requires-clause-room
push-requires-clause-room c =
    let i = c.self.inside in
    let t = c.self.invariant in
    let e : i.puts.items ≡ c.args.self.now.items = ap (λ (t : Tabled). t.items) c.self.view_is in
    let memory : i.memory ≡ c.args.self.now.memory = ap (λ (t : Tabled). t.memory) c.self.view_is in
    omega (arith, room_left c.args.self.now.items c.args.put.now.at c.args.self.now.memory c.requires c.in-None.ensures, ap (λ (l : List Put). length l) e, memory, t.as_many, t.enough_index)

pub invariant_of-self-in-None : goal.invariant_of-self-in-None
invariant_of-self-in-None c =
    let i = c.self.inside in
    let t = c.self.invariant in
    let at = c.args.put.now.at in
    let e : i.puts.items ≡ c.args.self.now.items = ap (λ (t : Tabled). t.items) c.self.view_is in
    let memory : i.memory ≡ c.args.self.now.memory = ap (λ (t : Tabled). t.memory) c.self.view_is in
    let some : length i.puts.items < i.memory = omega (arith, room_left c.args.self.now.items at c.args.self.now.memory c.requires c.in-None.ensures, ap (λ (l : List Put). length l) e, memory) in
    let p = c.push-put.ensures in
    let puts_are = pushed c.push-put.result _ _ _ (p.succeeds (omega (arith, some, i.puts.ok.0, t.enough))) p.items in
    table-push i.puts.items i.index.sectors i.memory _ _ _ _ c.args.put.now _ _ puts_are c.push.ensures.sectors t (ap (λ (l : List Put). names l at) e ∙ c.in-None.ensures) some p.capacity (omega (arith, c.push.ensures.memory))

pub returns-in-None-clause-placed : goal.returns-in-None-clause-placed
returns-in-None-clause-placed c =
    let i = c.self.inside in
    let e : i.puts.items ≡ c.args.self.now.items = ap (λ (t : Tabled). t.items) c.self.view_is in
    let memory : i.memory ≡ c.args.self.now.memory = ap (λ (t : Tabled). t.memory) c.self.view_is in
    let some : length i.puts.items < i.memory = omega (arith, room_left c.args.self.now.items c.args.put.now.at c.args.self.now.memory c.requires c.in-None.ensures, ap (λ (l : List Put). length l) e, memory) in
    let p = c.push-put.ensures in
    inl (c.in-None.ensures, pushed c.push-put.result _ _ _ (p.succeeds (omega (arith, some, i.puts.ok.0, c.self.invariant.enough))) p.items ∙ ap (λ (l : List Put). l ++ c.args.put.now ∷ []) e)

pub returns-in-None-clause-content : goal.returns-in-None-clause-content
returns-in-None-clause-content c content =
    let i = c.self.inside in
    let e : i.puts.items ≡ c.args.self.now.items = ap (λ (t : Tabled). t.items) c.self.view_is in
    let memory : i.memory ≡ c.args.self.now.memory = ap (λ (t : Tabled). t.memory) c.self.view_is in
    let some : length i.puts.items < i.memory = omega (arith, room_left c.args.self.now.items c.args.put.now.at c.args.self.now.memory c.requires c.in-None.ensures, ap (λ (l : List Put). length l) e, memory) in
    let p = c.push-put.ensures in
    ap (λ (l : List Put). overlay l content) (pushed c.push-put.result _ _ _ (p.succeeds (omega (arith, some, i.puts.ok.0, c.self.invariant.enough))) p.items)
    ∙ overlay-push i.puts.items c.args.put.now content ∙ ap (λ (l : List Put). set (overlay l content) c.args.put.now.at c.args.put.now.bytes) e

pub returns-in-None-clause-names : goal.returns-in-None-clause-names
returns-in-None-clause-names c s =
    let i = c.self.inside in
    let at = c.args.put.now.at in
    let e : i.puts.items ≡ c.args.self.now.items = ap (λ (t : Tabled). t.items) c.self.view_is in
    let memory : i.memory ≡ c.args.self.now.memory = ap (λ (t : Tabled). t.memory) c.self.view_is in
    let some : length i.puts.items < i.memory = omega (arith, room_left c.args.self.now.items at c.args.self.now.memory c.requires c.in-None.ensures, ap (λ (l : List Put). length l) e, memory) in
    let p = c.push-put.ensures in
    ap (λ (l : List Put). names l s) (pushed c.push-put.result _ _ _ (p.succeeds (omega (arith, some, i.puts.ok.0, c.self.invariant.enough))) p.items)
    ∙ names-push i.puts.items c.args.put.now s ∙ ap (λ (l : List Put). s == at || names l s) e

pub returns-in-None-clause-count : goal.returns-in-None-clause-count
returns-in-None-clause-count c =
    let i = c.self.inside in
    let at = c.args.put.now.at in
    let e : i.puts.items ≡ c.args.self.now.items = ap (λ (t : Tabled). t.items) c.self.view_is in
    let memory : i.memory ≡ c.args.self.now.memory = ap (λ (t : Tabled). t.memory) c.self.view_is in
    let some : length i.puts.items < i.memory = omega (arith, room_left c.args.self.now.items at c.args.self.now.memory c.requires c.in-None.ensures, ap (λ (l : List Put). length l) e, memory) in
    let p = c.push-put.ensures in
    counted_push i.puts.items c.args.self.now.items _ at _ e c.in-None.ensures (pushed c.push-put.result _ _ _ (p.succeeds (omega (arith, some, i.puts.ok.0, c.self.invariant.enough))) p.items)
