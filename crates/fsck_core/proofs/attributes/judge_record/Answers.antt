use Rattle.std.proofs.Common.{◌≡◌, List, sym, ◌∙◌, ap}
use Rattle.btree_node.specs.Levels.{Pair}
use Rattle.btree_node.specs.Keys.{attr_file}
use Rattle.fsck_core.specs.Attributes.{attribute_at, IsBrokenValue}
use Rattle.fsck_core.proofs.DecidedLaws.{adds_two}
use Rattle.fsck_core.proofs.RecordJudged.{owned_adds, record_judged, record_named}
use Rattle.fsck_core.proofs.ValueLaws.{key_long, id_at_is}
use Rattle.fsck_core.proofs.attributes.judge_record.Goals as goal

pub returns-in_err-owned-clause-each : goal.returns-in_err-owned-clause-each
returns-in_err-owned-clause-each c volume are own tells =
    let pairs : List Pair = c.args.attributes.now in
    let long = key_long pairs are.keyed c.args.at c.key-key.result.now c.requires c.key-key.ensures in
    let id_is : c.owner_of.result ≡ (attribute_at pairs c.args.at).id = c.owner_of.ensures long ∙ ap attr_file c.key-key.ensures ∙ sym (id_at_is pairs c.args.at) in
    owned_adds volume c.args.head.now pairs are c.args.owners.now own c.args.at c.requires c.key-key.result.now c.key-key.ensures c.is_owned.result (c.is_owned.ensures long own.0) c.owner_of.result c.args.out.now c.add_unless.new.out id_is c.add_unless.ensures.each

pub returns-in_err-stands-clause-each : goal.returns-in_err-stands-clause-each
returns-in_err-stands-clause-each c volume are own tells =
    let pairs : List Pair = c.args.attributes.now in
    let long = key_long pairs are.keyed c.args.at c.key-key.result.now c.requires c.key-key.ensures in
    let id_is : c.owner_of.result ≡ (attribute_at pairs c.args.at).id = c.owner_of.ensures long ∙ ap attr_file c.key-key.ensures ∙ sym (id_at_is pairs c.args.at) in
    adds_two (IsBrokenValue volume) c.args.out.now c.add_unless.new.out c.judge_value.new.out
    (owned_adds volume c.args.head.now pairs are c.args.owners.now own c.args.at c.requires c.key-key.result.now c.key-key.ensures c.is_owned.result (c.is_owned.ensures long own.0) c.owner_of.result c.args.out.now c.add_unless.new.out id_is c.add_unless.ensures.each)
    (c.judge_value.ensures.each volume are tells)

pub returns-clause-judged : goal.returns-clause-judged
returns-clause-judged c volume are own tells =
    let pairs : List Pair = c.args.attributes.now in
    let long = key_long pairs are.keyed c.args.at c.key-key.result.now c.requires c.key-key.ensures in
    let id_is : c.owner_of.result ≡ (attribute_at pairs c.args.at).id = c.owner_of.ensures long ∙ ap attr_file c.key-key.ensures ∙ sym (id_at_is pairs c.args.at) in
    record_judged volume c.args.head.now pairs are c.args.owners.now own c.args.at c.requires c.key-key.result.now c.key-key.ensures c.is_owned.result (c.is_owned.ensures long own.0) c.owner_of.result c.args.out.now c.add_unless.new.out c.judge_value.new.out
    c.in_ok-owned.owned c.in_ok-stands.stands c.both.result id_is c.both.ensures c.in_ok-owned.ensures.met c.in_ok-owned.ensures.found c.add_unless.ensures.still c.add_unless.ensures.each (c.in_ok-stands.ensures.judged volume are tells)

pub returns-clause-each : goal.returns-clause-each
returns-clause-each c volume are own tells =
    let pairs : List Pair = c.args.attributes.now in
    let long = key_long pairs are.keyed c.args.at c.key-key.result.now c.requires c.key-key.ensures in
    let id_is : c.owner_of.result ≡ (attribute_at pairs c.args.at).id = c.owner_of.ensures long ∙ ap attr_file c.key-key.ensures ∙ sym (id_at_is pairs c.args.at) in
    adds_two (IsBrokenValue volume) c.args.out.now c.add_unless.new.out c.judge_value.new.out
    (owned_adds volume c.args.head.now pairs are c.args.owners.now own c.args.at c.requires c.key-key.result.now c.key-key.ensures c.is_owned.result (c.is_owned.ensures long own.0) c.owner_of.result c.args.out.now c.add_unless.new.out id_is c.add_unless.ensures.each)
    (c.judge_value.ensures.each volume are tells)

pub returns-clause-named : goal.returns-clause-named
returns-clause-named c volume are own tells =
    let pairs : List Pair = c.args.attributes.now in
    let long = key_long pairs are.keyed c.args.at c.key-key.result.now c.requires c.key-key.ensures in
    let id_is : c.owner_of.result ≡ (attribute_at pairs c.args.at).id = c.owner_of.ensures long ∙ ap attr_file c.key-key.ensures ∙ sym (id_at_is pairs c.args.at) in
    let judged = c.in_ok-stands.ensures.judged volume are tells in
    record_named volume c.args.head.now pairs are c.args.owners.now own c.args.at c.requires c.key-key.result.now c.key-key.ensures c.is_owned.result (c.is_owned.ensures long own.0) c.owner_of.result c.add_unless.new.out c.judge_value.new.out
    c.in_ok-owned.owned id_is c.in_ok-owned.ensures.met c.in_ok-owned.ensures.found judged.still (c.in_ok-stands.ensures.named volume are tells)
