use Rattle.std.proofs.Common.{◌≡◌, ◌==◌, ℕ, List, sym, ◌∙◌, ap, Err}
use Rattle.btree_node.specs.Levels.{Pair}
use Rattle.btree_node.specs.Keys.{attr_file, attr_start}
use Rattle.fsck_core.specs.Attributes.{attribute_at, IsGoodValue, IsToldOr}
use Rattle.fsck_core.proofs.ValueFound.{unless_adds, unspelled_fails}
use Rattle.fsck_core.proofs.ValueJudged.{unless_ok, inline_good, inline_named, inline_told, inline_fails, unspelled_told}
use Rattle.fsck_core.proofs.ValueLaws.{key_long, id_at_is, start_at_is, value_read, value_unread}
use Rattle.std.proofs.lemmas.Bool.{true≢false}
use Rattle.fsck_core.proofs.values.judge_value.Goals as goal
use Rattle.std.specs.Prelude.{IsTrue}
use Rattle.cat_records.specs.Attributes.{is_attr}
use Rattle.hfs_volume.specs.Content.{attributes_of}
use Rattle.hfs_volume.specs.Values.{IsValue}
use Rattle.fsck_core.specs.Names.{pair_at}
use Rattle.fsck_core.proofs.NamedLaws.{named_as, named_fails, named_unless}
use Rattle.fsck_core.proofs.WantLaws.{ok_map}

pub returns-in-Ok-Inline-clause-judged : goal.returns-in-Ok-Inline-clause-judged
returns-in-Ok-Inline-clause-judged c volume are tells =
    let pairs : List Pair = c.args.attributes.now in
    let there = value_read pairs c.args.at c.value.result.now c.read_attr.result c.in-Ok-Inline.field-0 c.value.ensures c.in-Ok-Inline.is c.in-Ok-Inline.ensures.read c.read_attr.ensures.refused in
    let id_is : c.owner_of-id.result ≡ (attribute_at pairs c.args.at).id = c.owner_of-id.ensures (key_long pairs are.keyed c.args.at c.key.result.now c.requires c.key.ensures) ∙ ap attr_file c.key.ensures ∙ sym (id_at_is pairs c.args.at) in
    let start_is : c.start_of.result ≡ (attribute_at pairs c.args.at).start = c.start_of.ensures (key_long pairs are.keyed c.args.at c.key-in-Ok-Inline.result.now c.requires c.key-in-Ok-Inline.ensures) ∙ ap attr_start c.key-in-Ok-Inline.ensures ∙ sym (start_at_is pairs c.args.at) in
    unless_ok volume (IsGoodValue volume c.args.at) c.add_unless.result (c.start_of.result == 0) c.owner_of-id.result c.args.out.now c.add_unless.new.out
    (inline_good volume c.args.head.now pairs are c.args.at c.requires c.in-Ok-Inline.field-0-0 (there.1 ∙ c.in-Ok-Inline.field-0-is) c.start_of.result start_is there.0)
    (inline_told volume c.args.head.now pairs are c.args.at c.requires c.in-Ok-Inline.field-0-0 (there.1 ∙ c.in-Ok-Inline.field-0-is) c.start_of.result start_is)
    (λ later. inline_fails volume c.args.head.now pairs are c.args.at c.requires c.in-Ok-Inline.field-0-0 (there.1 ∙ c.in-Ok-Inline.field-0-is) c.start_of.result start_is later c.owner_of-id.result id_is)
    c.add_unless.ensures.met c.add_unless.ensures.found c.add_unless.ensures.still c.add_unless.ensures.each

pub returns-in-Ok-Inline-clause-each : goal.returns-in-Ok-Inline-clause-each
returns-in-Ok-Inline-clause-each c volume are tells =
    let pairs : List Pair = c.args.attributes.now in
    let there = value_read pairs c.args.at c.value.result.now c.read_attr.result c.in-Ok-Inline.field-0 c.value.ensures c.in-Ok-Inline.is c.in-Ok-Inline.ensures.read c.read_attr.ensures.refused in
    let id_is : c.owner_of-id.result ≡ (attribute_at pairs c.args.at).id = c.owner_of-id.ensures (key_long pairs are.keyed c.args.at c.key.result.now c.requires c.key.ensures) ∙ ap attr_file c.key.ensures ∙ sym (id_at_is pairs c.args.at) in
    let start_is : c.start_of.result ≡ (attribute_at pairs c.args.at).start = c.start_of.ensures (key_long pairs are.keyed c.args.at c.key-in-Ok-Inline.result.now c.requires c.key-in-Ok-Inline.ensures) ∙ ap attr_start c.key-in-Ok-Inline.ensures ∙ sym (start_at_is pairs c.args.at) in
    unless_adds volume (c.start_of.result == 0) c.owner_of-id.result c.args.out.now c.add_unless.new.out
    (λ later. inline_fails volume c.args.head.now pairs are c.args.at c.requires c.in-Ok-Inline.field-0-0 (there.1 ∙ c.in-Ok-Inline.field-0-is) c.start_of.result start_is later c.owner_of-id.result id_is) c.add_unless.ensures.each

pub returns-in-Ok-Fork-clause-judged : goal.returns-in-Ok-Fork-clause-judged
returns-in-Ok-Fork-clause-judged c volume are tells =
    let pairs : List Pair = c.args.attributes.now in
    let there = value_read pairs c.args.at c.value.result.now c.read_attr.result c.in-Ok-Fork.field-0 c.value.ensures c.in-Ok-Fork.is c.in-Ok-Fork.ensures.read c.read_attr.ensures.refused in
    c.judge_fork_value.ensures.judged volume are there.0 (there.1 ∙ c.in-Ok-Fork.field-0-is)

pub returns-in-Ok-Fork-clause-each : goal.returns-in-Ok-Fork-clause-each
returns-in-Ok-Fork-clause-each c volume are tells =
    let pairs : List Pair = c.args.attributes.now in
    let there = value_read pairs c.args.at c.value.result.now c.read_attr.result c.in-Ok-Fork.field-0 c.value.ensures c.in-Ok-Fork.is c.in-Ok-Fork.ensures.read c.read_attr.ensures.refused in
    c.judge_fork_value.ensures.each volume are (there.1 ∙ c.in-Ok-Fork.field-0-is)

pub returns-in-Ok-More-clause-judged : goal.returns-in-Ok-More-clause-judged
returns-in-Ok-More-clause-judged c volume are tells =
    let pairs : List Pair = c.args.attributes.now in
    let there = value_read pairs c.args.at c.value.result.now c.read_attr.result c.in-Ok-More.field-0 c.value.ensures c.in-Ok-More.is c.in-Ok-More.ensures.read c.read_attr.ensures.refused in
    c.judge_further.ensures.judged volume are there.0 (there.1 ∙ c.in-Ok-More.field-0-is) tells

pub returns-in-Ok-More-clause-each : goal.returns-in-Ok-More-clause-each
returns-in-Ok-More-clause-each c volume are tells =
    let pairs : List Pair = c.args.attributes.now in
    let there = value_read pairs c.args.at c.value.result.now c.read_attr.result c.in-Ok-More.field-0 c.value.ensures c.in-Ok-More.is c.in-Ok-More.ensures.read c.read_attr.ensures.refused in
    c.judge_further.ensures.each volume are (there.1 ∙ c.in-Ok-More.field-0-is) tells

pub returns-clause-judged : goal.returns-clause-judged
returns-clause-judged c volume are tells =
    let pairs : List Pair = c.args.attributes.now in
    let there = value_unread pairs c.args.at c.value.result.now c.read_attr.result c.in-Err-BadRecord.field-0-0 c.in-Err-BadRecord.field-0-1 c.value.ensures (c.in-Err-BadRecord.is ∙ ap Err c.in-Err-BadRecord.field-0-is) c.read_attr.ensures.refused in
    let id_is : c.owner_of-id.result ≡ (attribute_at pairs c.args.at).id = c.owner_of-id.ensures (key_long pairs are.keyed c.args.at c.key.result.now c.requires c.key.ensures) ∙ ap attr_file c.key.ensures ∙ sym (id_at_is pairs c.args.at) in
    unless_ok volume (IsGoodValue volume c.args.at) c.add_unless-in-Err-BadRecord.result _ c.owner_of-id.result c.args.out.now c.add_unless-in-Err-BadRecord.new.out
    (λ yes. absurd (true≢false (sym yes))) (unspelled_told volume c.args.head.now pairs are c.args.at c.requires there.0) (λ refused. unspelled_fails volume c.args.head.now pairs are c.args.at c.requires there.0 c.owner_of-id.result id_is)
    c.add_unless-in-Err-BadRecord.ensures.met c.add_unless-in-Err-BadRecord.ensures.found c.add_unless-in-Err-BadRecord.ensures.still c.add_unless-in-Err-BadRecord.ensures.each

pub returns-clause-each : goal.returns-clause-each
returns-clause-each c volume are tells =
    let pairs : List Pair = c.args.attributes.now in
    let there = value_unread pairs c.args.at c.value.result.now c.read_attr.result c.in-Err-BadRecord.field-0-0 c.in-Err-BadRecord.field-0-1 c.value.ensures (c.in-Err-BadRecord.is ∙ ap Err c.in-Err-BadRecord.field-0-is) c.read_attr.ensures.refused in
    let id_is : c.owner_of-id.result ≡ (attribute_at pairs c.args.at).id = c.owner_of-id.ensures (key_long pairs are.keyed c.args.at c.key.result.now c.requires c.key.ensures) ∙ ap attr_file c.key.ensures ∙ sym (id_at_is pairs c.args.at) in
    unless_adds volume _ c.owner_of-id.result c.args.out.now c.add_unless-in-Err-BadRecord.new.out (λ refused. unspelled_fails volume c.args.head.now pairs are c.args.at c.requires there.0 c.owner_of-id.result id_is) c.add_unless-in-Err-BadRecord.ensures.each

pub returns-in-Ok-Inline-clause-named : goal.returns-in-Ok-Inline-clause-named
returns-in-Ok-Inline-clause-named c volume are tells =
    let pairs : List Pair = c.args.attributes.now in
    let there = value_read pairs c.args.at c.value.result.now c.read_attr.result c.in-Ok-Inline.field-0 c.value.ensures c.in-Ok-Inline.is c.in-Ok-Inline.ensures.read c.read_attr.ensures.refused in
    let id_is : c.owner_of-id.result ≡ (attribute_at pairs c.args.at).id = c.owner_of-id.ensures (key_long pairs are.keyed c.args.at c.key.result.now c.requires c.key.ensures) ∙ ap attr_file c.key.ensures ∙ sym (id_at_is pairs c.args.at) in
    let start_is : c.start_of.result ≡ (attribute_at pairs c.args.at).start = c.start_of.ensures (key_long pairs are.keyed c.args.at c.key-in-Ok-Inline.result.now c.requires c.key-in-Ok-Inline.ensures) ∙ ap attr_start c.key-in-Ok-Inline.ensures ∙ sym (start_at_is pairs c.args.at) in
    named_unless volume (IsTrue (is_attr (pair_at pairs c.args.at).1) × IsValue (attributes_of volume) (attribute_at pairs c.args.at)) c.add_unless.result (c.start_of.result == 0) c.owner_of-id.result c.add_unless.new.out
    (inline_named volume c.args.head.now pairs are c.args.at c.requires c.in-Ok-Inline.field-0-0 (there.1 ∙ c.in-Ok-Inline.field-0-is) c.start_of.result start_is there.0)
    (λ later. inline_fails volume c.args.head.now pairs are c.args.at c.requires c.in-Ok-Inline.field-0-0 (there.1 ∙ c.in-Ok-Inline.field-0-is) c.start_of.result start_is later c.owner_of-id.result id_is)
    c.add_unless.ensures.met c.add_unless.ensures.found

pub returns-in-Ok-Fork-clause-named : goal.returns-in-Ok-Fork-clause-named
returns-in-Ok-Fork-clause-named c volume are tells =
    let pairs : List Pair = c.args.attributes.now in
    let there = value_read pairs c.args.at c.value.result.now c.read_attr.result c.in-Ok-Fork.field-0 c.value.ensures c.in-Ok-Fork.is c.in-Ok-Fork.ensures.read c.read_attr.ensures.refused in
    ok_map c.judge_fork_value.result (λ _. IsToldOr volume (IsValue (attributes_of volume) (attribute_at pairs c.args.at)) c.judge_fork_value.new.out) (λ _. IsToldOr volume (IsTrue (is_attr (pair_at pairs c.args.at).1) × IsValue (attributes_of volume) (attribute_at pairs c.args.at)) c.judge_fork_value.new.out)
    (λ _ named. named_as volume (IsValue (attributes_of volume) (attribute_at pairs c.args.at)) (IsTrue (is_attr (pair_at pairs c.args.at).1) × IsValue (attributes_of volume) (attribute_at pairs c.args.at)) c.judge_fork_value.new.out (λ value. (there.0, value)) named)
    (c.judge_fork_value.ensures.named volume are (there.1 ∙ c.in-Ok-Fork.field-0-is))

pub returns-in-Ok-More-clause-named : goal.returns-in-Ok-More-clause-named
returns-in-Ok-More-clause-named c volume are tells =
    let pairs : List Pair = c.args.attributes.now in
    let there = value_read pairs c.args.at c.value.result.now c.read_attr.result c.in-Ok-More.field-0 c.value.ensures c.in-Ok-More.is c.in-Ok-More.ensures.read c.read_attr.ensures.refused in
    ok_map c.judge_further.result (λ _. IsToldOr volume (IsValue (attributes_of volume) (attribute_at pairs c.args.at)) c.judge_further.new.out) (λ _. IsToldOr volume (IsTrue (is_attr (pair_at pairs c.args.at).1) × IsValue (attributes_of volume) (attribute_at pairs c.args.at)) c.judge_further.new.out)
    (λ _ named. named_as volume (IsValue (attributes_of volume) (attribute_at pairs c.args.at)) (IsTrue (is_attr (pair_at pairs c.args.at).1) × IsValue (attributes_of volume) (attribute_at pairs c.args.at)) c.judge_further.new.out (λ value. (there.0, value)) named)
    (c.judge_further.ensures.named volume are (there.1 ∙ c.in-Ok-More.field-0-is) tells)

pub returns-clause-named : goal.returns-clause-named
returns-clause-named c volume are tells =
    let pairs : List Pair = c.args.attributes.now in
    let there = value_unread pairs c.args.at c.value.result.now c.read_attr.result c.in-Err-BadRecord.field-0-0 c.in-Err-BadRecord.field-0-1 c.value.ensures (c.in-Err-BadRecord.is ∙ ap Err c.in-Err-BadRecord.field-0-is) c.read_attr.ensures.refused in
    let id_is : c.owner_of-id.result ≡ (attribute_at pairs c.args.at).id = c.owner_of-id.ensures (key_long pairs are.keyed c.args.at c.key.result.now c.requires c.key.ensures) ∙ ap attr_file c.key.ensures ∙ sym (id_at_is pairs c.args.at) in
    named_fails volume (IsTrue (is_attr (pair_at pairs c.args.at).1) × IsValue (attributes_of volume) (attribute_at pairs c.args.at)) c.add_unless-in-Err-BadRecord.result c.owner_of-id.result c.add_unless-in-Err-BadRecord.new.out (unspelled_fails volume c.args.head.now pairs are c.args.at c.requires there.0 c.owner_of-id.result id_is)
    c.add_unless-in-Err-BadRecord.ensures.met c.add_unless-in-Err-BadRecord.ensures.found
