use Rattle.std.proofs.Common.{sym, ◌∙◌, ap, subst}
use Rattle.std.specs.List.Sorted.{IsNonDecreasing}
use Rattle.alloc_bitmap.specs.Apart.{times}
use Rattle.fsck_core.proofs.owners.judge_rows_owners.Goals as goal

pub judge_owners-requires : goal.judge_owners-requires
judge_owners-requires c = record {
  data_order = subst IsNonDecreasing (sym c.deref.ensures.value) c.in_ok-data_ids.ensures.order;
  data_same = λ id. ap (times id) c.deref.ensures.value ∙ c.in_ok-data_ids.ensures.same id;
  resource_order = subst IsNonDecreasing (sym c.deref-2.ensures.value) c.in_ok-resource_ids.ensures.order;
  resource_same = λ id. ap (times id) c.deref-2.ensures.value ∙ c.in_ok-resource_ids.ensures.same id;
}
