use Rattle.std.proofs.Common.{◌≡◌, true, List, sym, ◌∙◌, ap, Err, refl}
use Rattle.std.proofs.lemmas.Bool.{true≢false}
use Rattle.btree_node.specs.Levels.{Pair}
use Rattle.btree_node.specs.Keys.{attr_start}
use Rattle.hfs_volume.specs.Values.{has_fork}
use Rattle.fsck_core.specs.Attributes.{attribute_at}
use Rattle.fsck_core.proofs.ValueLaws.{key_long, start_at_is, value_read, value_unread}
use Rattle.fsck_core.proofs.values.begins_fork.Goals as goal

pub returns-then-start_of-ne0 : goal.returns-then-start_of-ne0
returns-then-start_of-ne0 c keyed =
    let pairs : List Pair = c.args.attributes.now in
    let start_is : c.start_of.result ≡ (attribute_at pairs c.args.at).start = c.start_of.ensures (key_long pairs keyed c.args.at c.key.result.now c.requires c.key.ensures) ∙ ap attr_start c.key.ensures ∙ sym (start_at_is pairs c.args.at) in
    (λ wrong. absurd (true≢false (sym wrong)), λ begins. absurd (c.if-start_of-ne0.true (start_is ∙ begins.1)))

pub returns-in-Ok-Fork : goal.returns-in-Ok-Fork
returns-in-Ok-Fork c keyed =
    let pairs : List Pair = c.args.attributes.now in
    let there = value_read pairs c.args.at c.value.result.now c.read_attr.result c.in-Ok-Fork.field-0 c.value.ensures c.in-Ok-Fork.is c.in-Ok-Fork.ensures.read c.read_attr.ensures.refused in
    let start_is : c.start_of.result ≡ (attribute_at pairs c.args.at).start = c.start_of.ensures (key_long pairs keyed c.args.at c.key.result.now c.requires c.key.ensures) ∙ ap attr_start c.key.ensures ∙ sym (start_at_is pairs c.args.at) in
    (λ yes. (ap has_fork (there.1 ∙ c.in-Ok-Fork.field-0-is), sym start_is ∙ c.if-start_of-ne0.false), λ begins. refl)

pub returns-in-Ok-Inline : goal.returns-in-Ok-Inline
returns-in-Ok-Inline c keyed =
    let pairs : List Pair = c.args.attributes.now in
    let there = value_read pairs c.args.at c.value.result.now c.read_attr.result c.in-Ok-Inline.field-0 c.value.ensures c.in-Ok-Inline.is c.in-Ok-Inline.ensures.read c.read_attr.ensures.refused in
    (λ wrong. absurd (true≢false (sym wrong)), λ begins. sym (ap has_fork (there.1 ∙ c.in-Ok-Inline.field-0-is)) ∙ begins.0)

pub returns-in-Ok-More : goal.returns-in-Ok-More
returns-in-Ok-More c keyed =
    let pairs : List Pair = c.args.attributes.now in
    let there = value_read pairs c.args.at c.value.result.now c.read_attr.result c.in-Ok-More.field-0 c.value.ensures c.in-Ok-More.is c.in-Ok-More.ensures.read c.read_attr.ensures.refused in
    (λ wrong. absurd (true≢false (sym wrong)), λ begins. sym (ap has_fork (there.1 ∙ c.in-Ok-More.field-0-is)) ∙ begins.0)

pub returns : goal.returns
returns c keyed =
    let pairs : List Pair = c.args.attributes.now in
    let there = value_unread pairs c.args.at c.value.result.now c.read_attr.result c.in-Err-BadRecord.field-0-0 c.in-Err-BadRecord.field-0-1 c.value.ensures (c.in-Err-BadRecord.is ∙ ap Err c.in-Err-BadRecord.field-0-is) c.read_attr.ensures.refused in
    (λ wrong. absurd (true≢false (sym wrong)), λ begins. sym (ap has_fork there.1) ∙ begins.0)
