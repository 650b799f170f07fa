use Rattle.std.proofs.Common.{◌≡◌, ◌↔◌, ◌<◌, ◌≤◌, ◌++◌, ℕ, IsTrue, List, true, false, rules, sym, subst, ◌∙◌}
use Rattle.std.specs.List.Sorted.{IsNonDecreasingBy}
use Rattle.std.proofs.lemmas.List.Sorted.{IsNonDecreasingBy-from_sort_by_key}
use Rattle.fsck_repair.specs.Once.{as_uses, times_used, times_written}
use Rattle.fsck_repair.specs.declared.once.Use.{Use}
use Rattle.fsck_repair.proofs.OnceLaws.{once_told}
use Rattle.fsck_repair.proofs.once.are_used_once.Goals as goal

pub returns : goal.returns
returns c =
    let first : c.add_uses-2.new.uses.items ≡ as_uses false c.args.used.now ++ as_uses true c.args.written.now =
    c.in_ok-add_uses-2.ensures ∙ (λ i. (c.in_ok-add_uses.ensures ∙ (λ j. c.new-uses.ensures.items j ++ as_uses false (c.as_slice.ensures j))) i ++ as_uses true (c.as_slice-2.ensures i)) in
    let order : IsNonDecreasingBy (λ (u : Use). u.extent.start) c.sort_unstable_by_key.new.self.items = IsNonDecreasingBy-from_sort_by_key (λ (u : Use). u.extent.start) _ c.sort_unstable_by_key.ensures.sorted (λ a r q k. search rules) in
    let tells = c.sweep_all.ensures (subst (IsNonDecreasingBy (λ (u : Use). u.extent.start)) (sym c.deref.ensures.value) order) in
    once_told c.args.used.now c.args.written.now c.add_uses-2.new.uses.items c.sort_unstable_by_key.new.self.items c.sweep_all.result first c.sort_unstable_by_key.ensures.permutation
    (subst (λ (l : List Use). IsTrue c.sweep_all.result ↔ ((k : ℕ) → 0 < times_written l k → times_used l k ≤ 1)) c.deref.ensures.value tells)
