use Rattle.std.proofs.Common.{◌==◌, cond}
use Rattle.std.proofs.lemmas.List.Sorted.{IsNonDecreasingBy-from_sort, sum_by-IsPermutation}
use Rattle.fsck_core.proofs.numbers.sort_numbers.Goals as goal

pub returns-clause-order : goal.returns-clause-order
returns-clause-order c = IsNonDecreasingBy-from_sort (λ n. n) c.sort_unstable.new.self.items c.sort_unstable.ensures.sorted

pub returns-clause-same : goal.returns-clause-same
returns-clause-same c number = sum_by-IsPermutation (λ n. cond (n == number) 1 0) c.args.numbers.now.items c.sort_unstable.new.self.items c.sort_unstable.ensures.permutation
