use Rattle.std.proofs.Common.{List, subst, rules}
use Rattle.std.specs.List.Sorted.{IsPermutation}
use Rattle.std.proofs.lemmas.List.Sorted.{IsNonDecreasingBy-from_sort_by_key}
use Rattle.hx_bytes.specs.declared.extents.Extent.{Extent}
use Rattle.fsck_core.proofs.SweepLaws.{times_shuffled}
use Rattle.fsck_core.proofs.uses.sort_extents.Goals as goal

pub returns-clause-order : goal.returns-clause-order
returns-clause-order c = IsNonDecreasingBy-from_sort_by_key (λ (e : Extent). e.start) _ c.sort_unstable_by_key.ensures.sorted (λ a r q k. search rules)

pub returns-clause-same : goal.returns-clause-same
returns-clause-same c block =
    times_shuffled c.args.extents.now c.sort_unstable_by_key.new.self.items block (subst (λ (l : List Extent). IsPermutation l c.sort_unstable_by_key.new.self.items) c.in_ok-sorted.ensures.items c.sort_unstable_by_key.ensures.permutation)
