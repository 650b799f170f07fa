use Rattle.std.proofs.Common.{◌+◌, [], get_or, if◌then◌else◌, sym, ◌∙◌, ap, arith}
use Rattle.std.specs.List.{count_by}
use Rattle.std.proofs.lemmas.List.{take_all}
use Rattle.fsck_core.specs.Owned.{takes_id}
use Rattle.fsck_core.specs.declared.follow.OwnedFork.{OwnedFork}
use Rattle.fsck_core.proofs.NumberLaws.{counted_more}
use Rattle.fsck_core.proofs.owners.fork_ids.Goals as goal

abbrev none : OwnedFork
none = record { id = 0; kind = 0; fork = record { logical_size = 0; clump_size = 0; total_blocks = 0; extents = record { extents = [] } } }

pub loop-owned-preserved : goal.loop-owned-preserved
loop-owned-preserved c = record {
  same = λ id. c.in_ok-add_id.ensures id ∙ ap (λ n. n + (if takes_id c.args.kind id (get_or c.args.forks.now c.loop-owned.owned-index none) then 1 else 0)) (c.loop-owned.invariant.same id)
      ∙ sym (counted_more (takes_id c.args.kind id) c.args.forks.now c.loop-owned.owned-index none c.loop-owned-test.true);
}

pub returns-clause-order : goal.returns-clause-order
returns-clause-order c = c.sort_numbers.ensures.order

pub returns-clause-same : goal.returns-clause-same
returns-clause-same c id =
    c.sort_numbers.ensures.same id ∙ c.loop-owned.invariant.same id ∙ ap (count_by (takes_id c.args.kind id)) (take_all c.loop-owned.owned-index c.args.forks.now (omega (arith, c.loop-owned-test.false)))
