use Rattle.hfs_volume.specs.Content.{catalog_file}
use Rattle.fsck_repair.proofs.SizeTelling.{no_catalog_size, no_compare, sized_catalog}
use Rattle.fsck_repair.proofs.sizes.read_sized_catalog.Goals as goal

pub returns-then-not-size-clause-found : goal.returns-then-not-size-clause-found
returns-then-not-size-clause-found g c content shows head overflow =
    let read = c.in_ok-tree.ensures.value content shows head overflow in
    no_catalog_size content c.args.head.now c.in_ok-tree.tree head read c.in_ok-size.size c.if-not-size.true (c.in_ok-size.ensures (catalog_file content) read)

pub returns-then-not-compare-clause-found : goal.returns-then-not-compare-clause-found
returns-then-not-compare-clause-found g c content shows head overflow =
    let read = c.in_ok-tree.ensures.value content shows head overflow in
    no_compare content c.args.head.now c.in_ok-tree.tree head read c.in_ok-compare.compare c.if-not-compare.true (c.in_ok-compare.ensures (catalog_file content) read)

pub returns-clause-found : goal.returns-clause-found
returns-clause-found g c content shows head overflow =
    let read = c.in_ok-tree.ensures.value content shows head overflow in
    sized_catalog content c.args.head.now c.in_ok-tree.tree head read c.in_ok-size.size c.in_ok-compare.compare c.if-not-size.false c.if-not-compare.false (c.in_ok-size.ensures (catalog_file content) read) (c.in_ok-compare.ensures (catalog_file content) read)
