use Rattle.std.proofs.Common.{sym, ◌∙◌, ap, Err}
use Rattle.btree_node.specs.Keys.{attr_start}
use Rattle.fsck_core.specs.Attributes.{attribute_at, next_part}
use Rattle.fsck_core.proofs.ValueLaws.{key_long, next_more, start_at_is, value_read, value_unread}
use Rattle.fsck_core.proofs.values.next_part.Goals as goal

pub key-requires : goal.key-requires
key-requires c = c.requires

pub value-requires : goal.value-requires
value-requires c = c.requires

pub returns-in-Ok-More : goal.returns-in-Ok-More
returns-in-Ok-More c keyed =
    let pairs = c.args.attributes.now in
    let there = value_read pairs c.args.place c.value.result.now c.read_attr.result c.in-Ok-More.field-0 c.value.ensures c.in-Ok-More.is c.in-Ok-More.ensures.read c.read_attr.ensures.refused in
    let long = key_long pairs keyed c.args.place c.key.result.now c.requires c.key.ensures in
    c.next_front.ensures ∙ next_more c.args.front (attribute_at pairs c.args.place) c.start_of-start.result c.in-Ok-More.extents (there.1 ∙ c.in-Ok-More.field-0-is)
    (c.start_of-start.ensures long ∙ ap attr_start c.key.ensures ∙ sym (start_at_is pairs c.args.place))

pub returns-in-Ok-Inline : goal.returns-in-Ok-Inline
returns-in-Ok-Inline c keyed =
    let pairs = c.args.attributes.now in
    let there = value_read pairs c.args.place c.value.result.now c.read_attr.result c.in-Ok-Inline.field-0 c.value.ensures c.in-Ok-Inline.is c.in-Ok-Inline.ensures.read c.read_attr.ensures.refused in
    sym (ap (next_part c.args.front (attribute_at pairs c.args.place)) (there.1 ∙ c.in-Ok-Inline.field-0-is))

pub returns-in-Ok-Fork : goal.returns-in-Ok-Fork
returns-in-Ok-Fork c keyed =
    let pairs = c.args.attributes.now in
    let there = value_read pairs c.args.place c.value.result.now c.read_attr.result c.in-Ok-Fork.field-0 c.value.ensures c.in-Ok-Fork.is c.in-Ok-Fork.ensures.read c.read_attr.ensures.refused in
    sym (ap (next_part c.args.front (attribute_at pairs c.args.place)) (there.1 ∙ c.in-Ok-Fork.field-0-is))

pub returns : goal.returns
returns c keyed =
    let pairs = c.args.attributes.now in
    let there = value_unread pairs c.args.place c.value.result.now c.read_attr.result c.in-Err-BadRecord.field-0-0 c.in-Err-BadRecord.field-0-1 c.value.ensures (c.in-Err-BadRecord.is ∙ ap Err c.in-Err-BadRecord.field-0-is) c.read_attr.ensures.refused in
    sym (ap (next_part c.args.front (attribute_at pairs c.args.place)) there.1)
