use Rattle.std.proofs.Common.{List, ◌∙◌, ap, subst}
use Rattle.btree_node.specs.Levels.{Pair}
use Rattle.volume_header.specs.declared.header.VolumeHeader.{VolumeHeader}
use Rattle.hfs_volume.specs.Content.{volume_of}
use Rattle.hfs_volume.specs.Records.{Overflow, placed_in}
use Rattle.hfs_volume.specs.Forks.{extents_of, allocation_id, catalog_id, data_kind}
use Rattle.fsck_core.specs.Overflows.{overflows_in}
use Rattle.fsck_core.specs.declared.overflow.OverflowRow.{OverflowRow}
use Rattle.fsck_core.proofs.ListJoins.{at_none, at_some}
use Rattle.fsck_repair.specs.Counted.{AreEntriesOf}
use Rattle.fsck_repair.proofs.CountTelling.{overflow_is, head_is, catalog_is, attributes_are, no_kinds, no_inside, no_once, can_mend, fork_is, sectors_of_volume, keys_there, sorted_there}
use Rattle.fsck_repair.proofs.counts.count_trees.Goals as goal

pub mark_once-requires-clause-spelled : goal.mark_once-requires-clause-spelled
mark_once-requires-clause-spelled c = (c.in_ok-kinds.ensures.0 c.if-not-kinds.false).0

pub read_entries-requires : goal.read_entries-requires
read_entries-requires c = record { spelled = (c.in_ok-kinds.ensures.0 c.if-not-kinds.false).0 }

pub returns-then-not-kinds-clause-counted : goal.returns-then-not-kinds-clause-counted
returns-then-not-kinds-clause-counted c content sectors has sized are = no_kinds content c.args.headers c.args.tree c.args.trees.now has sized are c.in_ok-kinds.kinds c.if-not-kinds.true c.in_ok-kinds.ensures

pub returns-then-not-lie_inside-clause-counted : goal.returns-then-not-lie_inside-clause-counted
returns-then-not-lie_inside-clause-counted c content sectors has sized are =
    let rows = ap (λ (l : List OverflowRow). overflows_in l) c.deref.ensures.value ∙ overflow_is content c.args.headers c.args.tree c.args.trees.now has sized are in
    let extents = c.in_ok-allocation.ensures ∙ ap (λ (o : List Overflow). extents_of o allocation_id data_kind c.args.headers.head.allocation_fork) rows in
    no_inside content c.args.headers c.args.tree c.args.trees.now has sized are c.as_slice.result.now c.lie_inside.result (c.as_slice.ensures ∙ extents) c.if-not-lie_inside.true c.lie_inside.ensures

pub returns-in_default-clause-counted : goal.returns-in_default-clause-counted
returns-in_default-clause-counted c content sectors has sized are =
    let volume = volume_of content in
    let rows = ap (λ (l : List OverflowRow). overflows_in l) c.deref-2.ensures.value ∙ overflow_is content c.args.headers c.args.tree c.args.trees.now has sized are in
    no_once content c.args.headers c.args.tree c.args.trees.now has sized are
    (at_none c.in_ok-found.found _ _ c.in_default.is (c.in_ok-found.ensures volume (sectors ∙ sectors_of_volume content) (head_is content c.args.headers c.args.tree c.args.trees.now has sized are) rows (catalog_is content c.args.headers c.args.tree c.args.trees.now has sized are) (attributes_are content c.args.headers c.args.tree c.args.trees.now has sized are)))

pub returns-clause-counted : goal.returns-clause-counted
returns-clause-counted c content sectors has sized are =
    let volume = volume_of content in
    let same = overflow_is content c.args.headers c.args.tree c.args.trees.now has sized are in
    let rows = ap (λ (l : List OverflowRow). overflows_in l) c.deref.ensures.value ∙ same in
    let rows_2 = ap (λ (l : List OverflowRow). overflows_in l) c.deref-2.ensures.value ∙ same in
    let rows_3 = ap (λ (l : List OverflowRow). overflows_in l) c.deref-3.ensures.value ∙ same in
    let extents = c.in_ok-allocation.ensures ∙ ap (λ (o : List Overflow). extents_of o allocation_id data_kind c.args.headers.head.allocation_fork) rows in
    let once = at_some c.in_ok-found.found c.in-Some.used _ _ c.in-Some.is (c.in_ok-found.ensures volume (sectors ∙ sectors_of_volume content) (head_is content c.args.headers c.args.tree c.args.trees.now has sized are) rows_2 (catalog_is content c.args.headers c.args.tree c.args.trees.now has sized are) (attributes_are content c.args.headers c.args.tree c.args.trees.now has sized are)) in
    let kept = catalog_is content c.args.headers c.args.tree c.args.trees.now has sized are in
    record {
      mendable = can_mend content c.args.headers c.args.tree c.args.trees.now has sized are c.as_slice.result.now c.in_ok-kinds.kinds c.lie_inside.result (c.as_slice.ensures ∙ extents) c.if-not-kinds.false c.in_ok-kinds.ensures c.if-not-lie_inside.false c.lie_inside.ensures once.0;
      head = has.head;
      alternate = has.alternate;
      allocation = c.in_ok-allocation-2.ensures ∙ fork_is content c.args.headers c.args.tree c.args.trees.now has sized are c.in_ok-allocation.allocation (overflows_in c.deref.result.now) allocation_id (λ (h : VolumeHeader). h.allocation_fork) rows c.in_ok-allocation.ensures;
      catalog = c.in_ok-catalog-2.ensures ∙ fork_is content c.args.headers c.args.tree c.args.trees.now has sized are c.in_ok-catalog.catalog (overflows_in c.deref-3.result.now) catalog_id (λ (h : VolumeHeader). h.catalog_fork) rows_3 c.in_ok-catalog.ensures;
      tree = sized.head_is;
      entries = subst (λ (l : List Pair). AreEntriesOf (placed_in l) c.in_ok-entries.entries) kept (c.in_ok-entries.ensures (keys_there content c.args.trees.now are) (sorted_there content c.args.trees.now are));
      used = once.1;
    }
