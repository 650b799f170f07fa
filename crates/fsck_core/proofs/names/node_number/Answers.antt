use Rattle.std.proofs.Common.{sym, ◌∙◌}
use Rattle.std.proofs.lemmas.Bool.{true≢false}
use Rattle.btree_node.specs.Keys.{catalog_units}
use Rattle.fsck_core.proofs.NameLaws.{node_is, digits_are}
use Rattle.fsck_core.proofs.names.node_number.Goals as goal

pub returns-then-not-has_name-clause-whole : goal.returns-then-not-has_name-clause-whole
returns-then-not-has_name-clause-whole c number small is =
    absurd (true≢false (sym (node_is (catalog_units c.args.key.now) c.as_slice-2.result.now c.has_name.result number c.read_number-number.result is
    (c.read_number-number.ensures number small (digits_are c.as_slice.result.now (catalog_units c.args.key.now) number (c.as_slice.ensures ∙ c.in_ok-name.ensures) is))
    (c.as_slice-2.ensures ∙ c.in_ok-node.ensures) c.has_name.ensures) ∙ c.if-not-has_name.true))
