use Rattle.std.proofs.Common.{◌≡◌, ℕ, List, sym, ◌∙◌, ap}
use Rattle.btree_node.specs.Levels.{Pair}
use Rattle.btree_node.specs.Keys.{attr_file}
use Rattle.hfs_volume.specs.Values.{extents_in}
use Rattle.fsck_core.specs.Attributes.{attribute_at}
use Rattle.fsck_core.proofs.ValueJudged.{extents_judged, extents_add, further_judged, further_named, further_add}
use Rattle.fsck_core.proofs.ValueLaws.{key_long, id_at_is}
use Rattle.fsck_core.proofs.values.judge_further.Goals as goal

pub returns-in_err-inside-clause-each : goal.returns-in_err-inside-clause-each
returns-in_err-inside-clause-each c volume are value_is tells =
    let pairs : List Pair = c.args.attributes.now in
    let id_is : c.owner_of-id.result ≡ (attribute_at pairs c.args.at).id = c.owner_of-id.ensures (key_long pairs are.keyed c.args.at c.key.result.now c.requires c.key.ensures) ∙ ap attr_file c.key.ensures ∙ sym (id_at_is pairs c.args.at) in
    extents_add volume c.args.head.now pairs are c.args.at c.requires c.owner_of-id.result c.args.more.now.extents c.args.out.now c.judge_extents.new.out id_is (ap extents_in value_is) c.judge_extents.ensures.each

pub returns-in_err-stands-clause-each : goal.returns-in_err-stands-clause-each
returns-in_err-stands-clause-each c volume are value_is tells =
    let pairs : List Pair = c.args.attributes.now in
    let id_is : c.owner_of-id.result ≡ (attribute_at pairs c.args.at).id = c.owner_of-id.ensures (key_long pairs are.keyed c.args.at c.key.result.now c.requires c.key.ensures) ∙ ap attr_file c.key.ensures ∙ sym (id_at_is pairs c.args.at) in
    further_add volume c.args.head.now pairs are c.args.at c.requires c.args.more.now value_is c.args.forked tells c.owner_of-id.result c.args.out.now c.judge_extents.new.out c.add_unless.new.out id_is
    (extents_add volume c.args.head.now pairs are c.args.at c.requires c.owner_of-id.result c.args.more.now.extents c.args.out.now c.judge_extents.new.out id_is (ap extents_in value_is) c.judge_extents.ensures.each) c.add_unless.ensures.each

pub returns-clause-judged : goal.returns-clause-judged
returns-clause-judged c volume are spelled value_is tells =
    let pairs : List Pair = c.args.attributes.now in
    let id_is : c.owner_of-id.result ≡ (attribute_at pairs c.args.at).id = c.owner_of-id.ensures (key_long pairs are.keyed c.args.at c.key.result.now c.requires c.key.ensures) ∙ ap attr_file c.key.ensures ∙ sym (id_at_is pairs c.args.at) in
    further_judged volume c.args.head.now pairs are c.args.at c.requires c.args.more.now value_is c.args.forked tells c.owner_of-id.result c.args.out.now c.judge_extents.new.out c.add_unless.new.out c.in_ok-inside.inside c.in_ok-stands.stands c.both.result id_is c.both.ensures spelled
    (extents_judged volume c.args.head.now pairs are c.args.at c.requires c.owner_of-id.result c.args.more.now.extents c.args.out.now c.judge_extents.new.out c.in_ok-inside.inside id_is (ap extents_in value_is) c.in_ok-inside.ensures.judged)
    c.in_ok-stands.ensures.met c.in_ok-stands.ensures.found c.add_unless.ensures.still c.add_unless.ensures.each

pub returns-clause-each : goal.returns-clause-each
returns-clause-each c volume are value_is tells =
    let pairs : List Pair = c.args.attributes.now in
    let id_is : c.owner_of-id.result ≡ (attribute_at pairs c.args.at).id = c.owner_of-id.ensures (key_long pairs are.keyed c.args.at c.key.result.now c.requires c.key.ensures) ∙ ap attr_file c.key.ensures ∙ sym (id_at_is pairs c.args.at) in
    further_add volume c.args.head.now pairs are c.args.at c.requires c.args.more.now value_is c.args.forked tells c.owner_of-id.result c.args.out.now c.judge_extents.new.out c.add_unless.new.out id_is
    (extents_add volume c.args.head.now pairs are c.args.at c.requires c.owner_of-id.result c.args.more.now.extents c.args.out.now c.judge_extents.new.out id_is (ap extents_in value_is) c.judge_extents.ensures.each) c.add_unless.ensures.each

pub returns-clause-named : goal.returns-clause-named
returns-clause-named c volume are value_is tells =
    let pairs : List Pair = c.args.attributes.now in
    let id_is : c.owner_of-id.result ≡ (attribute_at pairs c.args.at).id = c.owner_of-id.ensures (key_long pairs are.keyed c.args.at c.key.result.now c.requires c.key.ensures) ∙ ap attr_file c.key.ensures ∙ sym (id_at_is pairs c.args.at) in
    further_named volume c.args.head.now pairs are c.args.at c.requires c.args.more.now value_is c.args.forked tells c.owner_of-id.result c.add_unless.new.out c.in_ok-stands.stands id_is c.in_ok-stands.ensures.met c.in_ok-stands.ensures.found
