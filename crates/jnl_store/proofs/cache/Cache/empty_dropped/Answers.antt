use Rattle.std.proofs.Common.{subst, List, ℕ, get_or, ◌≡◌, ◌∙◌, arith, ap, sym, length}
use Rattle.std.specs.Prelude.{Option, None}
use Rattle.jnl_store.specs.Cache.{EachBecomes, slots_with, undone_name, undone_slot}
use Rattle.std.proofs.lemmas.List.{with_items_is}
use Rattle.jnl_store.proofs.Sides.{becomes_undone}
use Rattle.jnl_store.proofs.cache.Cache.empty_dropped.Goals as goal

pub returns : goal.returns
returns c =
    let l = c.loop-name in
    let was = c.deref_mut-name-items in
    let long : length l.name-items ≡ c.self.inside.names.len = l.auto.name-items ∙ was.ensures.len in
    let same = ap (λ (names : List (Option ℕ)). length names) was.ensures.value in
    subst (λ (new : List (Option ℕ)). EachBecomes (undone_slot c.args.batch.now.all c.args.batch.now.kept) c.args.self.now (slots_with new c.self.inside.bytes.items)) (sym (with_items_is c.self.inside.names l.name-items long))
    (becomes_undone c.args.batch.now.all c.args.batch.now.kept c.self.inside.names.items l.name-items c.self.inside.bytes.items c.args.self.now c.self.view_is (l.auto.name-items ∙ same)
    (λ k below. l.invariant.done k (omega (arith, below, same, c.loop-name-test.false)) ∙ ap (λ (names : List (Option ℕ)). undone_name c.args.batch.now.all c.args.batch.now.kept (get_or names k None)) was.ensures.value))
