use Rattle.std.proofs.Common.{ap, ◌∙◌, ◌==◌}
use Rattle.btree_node.specs.Keys.{catalog_units}
use Rattle.fsck_core.specs.Threads.{same_bit}
use Rattle.fsck_core.proofs.ThreadUnits.{another_parent, another_kind, place_told}
use Rattle.fsck_core.proofs.threads.tells_place.Goals as goal

pub returns-then-read_be32-row : goal.returns-then-read_be32-row
returns-then-read_be32-row c long = another_parent c.args.value.now (catalog_units c.args.key.now) c.args.row c.read_be32.result c.read_be32.ensures c.if-read_be32-row.true

pub returns-then-not-same_kind : goal.returns-then-not-same_kind
returns-then-not-same_kind c long =
    another_kind c.args.value.now (catalog_units c.args.key.now) c.args.row c.same_kind.result (c.same_kind.ensures ∙ ap (λ n. same_bit (n == 4) c.args.row.file) c.read_be16.ensures) c.if-not-same_kind.true

pub returns : goal.returns
returns c long =
    place_told c.args.value.now (catalog_units c.args.key.now) c.args.row c.read_be32.result c.same_kind.result c.same_units.result c.read_be32.ensures c.if-read_be32-row.false
    (c.same_kind.ensures ∙ ap (λ n. same_bit (n == 4) c.args.row.file) c.read_be16.ensures) c.if-not-same_kind.false long c.same_units.ensures
