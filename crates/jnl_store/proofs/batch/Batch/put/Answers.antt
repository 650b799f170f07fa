use Rattle.std.proofs.Common.{◌≡◌, ◌<◌, ◌⊎◌, ◌∙◌, List, ap, arith, length, subst, sym, take}
use Rattle.std.specs.Prelude.{IsTrue}
use Rattle.jnl_store.specs.Batch.{AreOnce, Staged, bytes_of, names}
use Rattle.jnl_store.specs.declared.puts.Put.{Put}
use Rattle.jnl_store.proofs.Saved.{fits_room, kept_content, kept_count, kept_each, names_placed, no_fewer, restored_placed}
use Rattle.jnl_store.proofs.batch.Batch.put.Goals as goal

pub invariant_of-self : goal.invariant_of-self
invariant_of-self c =
    let i = c.self.inside in
    let inv = c.self.invariant in
    let all = i.puts.items in
    let new = c.put.new.self.items in
    let placed = c.put.ensures.placed in
    let e : all ≡ c.args.self.now.all = ap (λ (s : Staged). s.all) c.self.view_is in
    let room : i.room ≡ c.args.self.now.room = ap (λ (s : Staged). s.room) c.self.view_is in
    record {
      some = fits_room all new c.args.at i.room c.put.ensures.count inv.some (subst (λ (l : List Put). (length l < i.room) ⊎ IsTrue (names l c.args.at)) (sym e) (subst (λ n. (length c.args.self.now.all < n) ⊎ IsTrue (names c.args.self.now.all c.args.at)) (sym room) c.requires));
      kept_some = omega (arith, inv.kept_some, no_fewer all new c.args.at c.put.ensures.count);
      of_kept = λ s named. names_placed all new placed.0 i.kept s placed.2 inv.kept_some ∙ c.save.ensures.of_kept s named;
      enough = omega (arith, inv.enough, c.put.ensures.memory);
      enough_saved = omega (arith, inv.enough_saved, c.save.ensures.memory);
      enough_live = inv.enough_live;
    }

pub returns-clause-kept : goal.returns-clause-kept
returns-clause-kept c =
    let i = c.self.inside in
    let all = i.puts.items in
    let saved = c.save.new.saved.items in
    let placed = c.put.ensures.placed in
    restored_placed all c.put.new.self.items saved placed.0 i.kept placed.2 c.self.invariant.kept_some
    (λ is. ap (names saved) placed.1 ∙ c.save.ensures.there (ap (names (take i.kept all)) (sym placed.1) ∙ is))
    ∙ c.save.ensures.same ∙ ap (λ (s : Staged). s.kept) c.self.view_is

pub returns-then-keeps-clause-content : goal.returns-then-keeps-clause-content
returns-then-keeps-clause-content c content =
    let i = c.self.inside in
    let e : i.puts.items ≡ c.args.self.now.all = ap (λ (s : Staged). s.all) c.self.view_is in
    kept_content c.args.self.now.all c.args.at c.args.from.now content (subst AreOnce e c.keeps.ensures.once) (ap (λ (l : List Put). bytes_of l c.args.at) (sym e) ∙ c.keeps.ensures.keeps c.if-keeps.true)

pub returns-then-keeps-clause-names : goal.returns-then-keeps-clause-names
returns-then-keeps-clause-names c s =
    let i = c.self.inside in
    let e : i.puts.items ≡ c.args.self.now.all = ap (λ (s : Staged). s.all) c.self.view_is in
    kept_each c.args.self.now.all c.args.at s c.args.from.now (ap (λ (l : List Put). bytes_of l c.args.at) (sym e) ∙ c.keeps.ensures.keeps c.if-keeps.true)

pub returns-then-keeps-clause-count : goal.returns-then-keeps-clause-count
returns-then-keeps-clause-count c =
    let i = c.self.inside in
    let e : i.puts.items ≡ c.args.self.now.all = ap (λ (s : Staged). s.all) c.self.view_is in
    kept_count c.args.self.now.all c.args.at c.args.from.now (ap (λ (l : List Put). bytes_of l c.args.at) (sym e) ∙ c.keeps.ensures.keeps c.if-keeps.true)
