use Rattle.std.proofs.Common.{◌≡◌, ℕ, Bool, List, sym, ◌∙◌, ap}
use Rattle.hfs_volume.specs.Blocks.{LieInside}
use Rattle.btree_node.specs.Levels.{Pair}
use Rattle.btree_node.specs.Keys.{attr_file, attr_start}
use Rattle.hfs_volume.specs.Values.{extents_in}
use Rattle.fsck_core.specs.Attributes.{attribute_at, IsGoodValue, IsBrokenValue}
use Rattle.fsck_core.proofs.DecidedLaws.{adds_two}
use Rattle.fsck_core.proofs.ValueFound.{unless_adds}
use Rattle.fsck_core.proofs.ValueJudged.{fork_named, fails_ok, extents_judged, extents_add, fork_later_bad, fork_later_fails, unfollowed_bad, unfollowed_found, fork_judged, sizes_add}
use Rattle.fsck_core.proofs.ValueLaws.{key_long, id_at_is, start_at_is}
use Rattle.fsck_core.proofs.values.judge_fork_value.Goals as goal
use Rattle.std.proofs.Common.{inr}
use Rattle.hfs_volume.specs.Content.{attributes_of}
use Rattle.hfs_volume.specs.Values.{IsValue}
use Rattle.fsck_core.proofs.NamedLaws.{named_fails}

pub returns-in_err-inside-clause-each : goal.returns-in_err-inside-clause-each
returns-in_err-inside-clause-each c volume are value_is =
    let pairs : List Pair = c.args.attributes.now in
    let id_is : c.owner_of-id.result ≡ (attribute_at pairs c.args.at).id = c.owner_of-id.ensures (key_long pairs are.keyed c.args.at c.key.result.now c.requires c.key.ensures) ∙ ap attr_file c.key.ensures ∙ sym (id_at_is pairs c.args.at) in
    extents_add volume c.args.head.now pairs are c.args.at c.requires c.owner_of-id.result c.args.fork.now.extents.extents c.args.out.now c.judge_extents.new.out id_is (ap extents_in value_is) c.judge_extents.ensures.each

pub returns-then-start_of-ne0-clause-judged : goal.returns-then-start_of-ne0-clause-judged
returns-then-start_of-ne0-clause-judged c volume are spelled value_is =
    let pairs : List Pair = c.args.attributes.now in
    let id_is : c.owner_of-id.result ≡ (attribute_at pairs c.args.at).id = c.owner_of-id.ensures (key_long pairs are.keyed c.args.at c.key.result.now c.requires c.key.ensures) ∙ ap attr_file c.key.ensures ∙ sym (id_at_is pairs c.args.at) in
    let start_is : c.start_of.result ≡ (attribute_at pairs c.args.at).start = c.start_of.ensures (key_long pairs are.keyed c.args.at c.key-2.result.now c.requires c.key-2.ensures) ∙ ap attr_start c.key-2.ensures ∙ sym (start_at_is pairs c.args.at) in
    fails_ok volume (LieInside volume.head.total_blocks (extents_in (attribute_at pairs c.args.at).value)) (IsGoodValue volume c.args.at) c.add_unless.result c.owner_of-id.result c.args.out.now c.judge_extents.new.out c.add_unless.new.out c.in_ok-inside.inside
    (fork_later_bad volume c.args.head.now pairs are c.args.at c.requires c.args.fork.now value_is (λ starts. c.if-start_of-ne0.true (start_is ∙ starts)))
    (fork_later_fails volume c.args.head.now pairs are c.args.at c.requires c.args.fork.now value_is (λ starts. c.if-start_of-ne0.true (start_is ∙ starts)) c.owner_of-id.result id_is)
    (extents_judged volume c.args.head.now pairs are c.args.at c.requires c.owner_of-id.result c.args.fork.now.extents.extents c.args.out.now c.judge_extents.new.out c.in_ok-inside.inside id_is (ap extents_in value_is) c.in_ok-inside.ensures.judged)
    c.add_unless.ensures.met c.add_unless.ensures.found c.add_unless.ensures.still c.add_unless.ensures.each

pub returns-then-start_of-ne0-clause-each : goal.returns-then-start_of-ne0-clause-each
returns-then-start_of-ne0-clause-each c volume are value_is =
    let pairs : List Pair = c.args.attributes.now in
    let id_is : c.owner_of-id.result ≡ (attribute_at pairs c.args.at).id = c.owner_of-id.ensures (key_long pairs are.keyed c.args.at c.key.result.now c.requires c.key.ensures) ∙ ap attr_file c.key.ensures ∙ sym (id_at_is pairs c.args.at) in
    let start_is : c.start_of.result ≡ (attribute_at pairs c.args.at).start = c.start_of.ensures (key_long pairs are.keyed c.args.at c.key-2.result.now c.requires c.key-2.ensures) ∙ ap attr_start c.key-2.ensures ∙ sym (start_at_is pairs c.args.at) in
    adds_two (IsBrokenValue volume) c.args.out.now c.judge_extents.new.out c.add_unless.new.out
    (extents_add volume c.args.head.now pairs are c.args.at c.requires c.owner_of-id.result c.args.fork.now.extents.extents c.args.out.now c.judge_extents.new.out id_is (ap extents_in value_is) c.judge_extents.ensures.each)
    (unless_adds volume _ c.owner_of-id.result c.judge_extents.new.out c.add_unless.new.out
    (λ refused. fork_later_fails volume c.args.head.now pairs are c.args.at c.requires c.args.fork.now value_is (λ starts. c.if-start_of-ne0.true (start_is ∙ starts)) c.owner_of-id.result id_is) c.add_unless.ensures.each)

pub returns-in_err-blocks-clause-each : goal.returns-in_err-blocks-clause-each
returns-in_err-blocks-clause-each c volume are value_is =
    let pairs : List Pair = c.args.attributes.now in
    let id_is : c.owner_of-id.result ≡ (attribute_at pairs c.args.at).id = c.owner_of-id.ensures (key_long pairs are.keyed c.args.at c.key.result.now c.requires c.key.ensures) ∙ ap attr_file c.key.ensures ∙ sym (id_at_is pairs c.args.at) in
    extents_add volume c.args.head.now pairs are c.args.at c.requires c.owner_of-id.result c.args.fork.now.extents.extents c.args.out.now c.judge_extents.new.out id_is (ap extents_in value_is) c.judge_extents.ensures.each

pub returns-in_default-clause-judged : goal.returns-in_default-clause-judged
returns-in_default-clause-judged c volume are spelled value_is =
    let pairs : List Pair = c.args.attributes.now in
    let id_is : c.owner_of-id.result ≡ (attribute_at pairs c.args.at).id = c.owner_of-id.ensures (key_long pairs are.keyed c.args.at c.key.result.now c.requires c.key.ensures) ∙ ap attr_file c.key.ensures ∙ sym (id_at_is pairs c.args.at) in
    let start_is : c.start_of.result ≡ (attribute_at pairs c.args.at).start = c.start_of.ensures (key_long pairs are.keyed c.args.at c.key-2.result.now c.requires c.key-2.ensures) ∙ ap attr_start c.key-2.ensures ∙ sym (start_at_is pairs c.args.at) in
    let starts : (attribute_at pairs c.args.at).start ≡ 0 = sym start_is ∙ c.if-start_of-ne0.false in
    fails_ok volume (LieInside volume.head.total_blocks (extents_in (attribute_at pairs c.args.at).value)) (IsGoodValue volume c.args.at) c.add_unless-in_default.result c.owner_of-id.result c.args.out.now c.judge_extents.new.out c.add_unless-in_default.new.out c.in_ok-inside.inside
    (unfollowed_bad volume c.args.head.now pairs are c.args.at c.requires c.args.fork.now value_is starts c.in_ok-blocks.field-0 c.in_default.is (c.in_ok-blocks.ensures are.keyed))
    (unfollowed_found volume c.args.head.now pairs are c.args.at c.requires c.args.fork.now value_is starts c.in_ok-blocks.field-0 c.in_default.is (c.in_ok-blocks.ensures are.keyed) c.owner_of-id.result id_is)
    (extents_judged volume c.args.head.now pairs are c.args.at c.requires c.owner_of-id.result c.args.fork.now.extents.extents c.args.out.now c.judge_extents.new.out c.in_ok-inside.inside id_is (ap extents_in value_is) c.in_ok-inside.ensures.judged)
    c.add_unless-in_default.ensures.met c.add_unless-in_default.ensures.found c.add_unless-in_default.ensures.still c.add_unless-in_default.ensures.each

pub returns-in_default-clause-each : goal.returns-in_default-clause-each
returns-in_default-clause-each c volume are value_is =
    let pairs : List Pair = c.args.attributes.now in
    let id_is : c.owner_of-id.result ≡ (attribute_at pairs c.args.at).id = c.owner_of-id.ensures (key_long pairs are.keyed c.args.at c.key.result.now c.requires c.key.ensures) ∙ ap attr_file c.key.ensures ∙ sym (id_at_is pairs c.args.at) in
    let start_is : c.start_of.result ≡ (attribute_at pairs c.args.at).start = c.start_of.ensures (key_long pairs are.keyed c.args.at c.key-2.result.now c.requires c.key-2.ensures) ∙ ap attr_start c.key-2.ensures ∙ sym (start_at_is pairs c.args.at) in
    let starts : (attribute_at pairs c.args.at).start ≡ 0 = sym start_is ∙ c.if-start_of-ne0.false in
    adds_two (IsBrokenValue volume) c.args.out.now c.judge_extents.new.out c.add_unless-in_default.new.out
    (extents_add volume c.args.head.now pairs are c.args.at c.requires c.owner_of-id.result c.args.fork.now.extents.extents c.args.out.now c.judge_extents.new.out id_is (ap extents_in value_is) c.judge_extents.ensures.each)
    (unless_adds volume _ c.owner_of-id.result c.judge_extents.new.out c.add_unless-in_default.new.out
    (λ refused. unfollowed_found volume c.args.head.now pairs are c.args.at c.requires c.args.fork.now value_is starts c.in_ok-blocks.field-0 c.in_default.is (c.in_ok-blocks.ensures are.keyed) c.owner_of-id.result id_is) c.add_unless-in_default.ensures.each)

pub returns-in_err-sizes-clause-each : goal.returns-in_err-sizes-clause-each
returns-in_err-sizes-clause-each c volume are value_is =
    let pairs : List Pair = c.args.attributes.now in
    let id_is : c.owner_of-id.result ≡ (attribute_at pairs c.args.at).id = c.owner_of-id.ensures (key_long pairs are.keyed c.args.at c.key.result.now c.requires c.key.ensures) ∙ ap attr_file c.key.ensures ∙ sym (id_at_is pairs c.args.at) in
    let start_is : c.start_of.result ≡ (attribute_at pairs c.args.at).start = c.start_of.ensures (key_long pairs are.keyed c.args.at c.key-2.result.now c.requires c.key-2.ensures) ∙ ap attr_start c.key-2.ensures ∙ sym (start_at_is pairs c.args.at) in
    let starts : (attribute_at pairs c.args.at).start ≡ 0 = sym start_is ∙ c.if-start_of-ne0.false in
    sizes_add volume c.args.head.now pairs are c.args.at c.requires c.args.fork.now value_is starts c.in_ok-blocks.field-0 c.in-Some.blocks c.owner_of-id.result c.args.out.now c.judge_extents.new.out c.judge_value_sizes.new.out c.in-Some.is (c.in_ok-blocks.ensures are.keyed) id_is
    (extents_add volume c.args.head.now pairs are c.args.at c.requires c.owner_of-id.result c.args.fork.now.extents.extents c.args.out.now c.judge_extents.new.out id_is (ap extents_in value_is) c.judge_extents.ensures.each) c.judge_value_sizes.ensures.each

pub returns-clause-judged : goal.returns-clause-judged
returns-clause-judged c volume are spelled value_is =
    let pairs : List Pair = c.args.attributes.now in
    let id_is : c.owner_of-id.result ≡ (attribute_at pairs c.args.at).id = c.owner_of-id.ensures (key_long pairs are.keyed c.args.at c.key.result.now c.requires c.key.ensures) ∙ ap attr_file c.key.ensures ∙ sym (id_at_is pairs c.args.at) in
    let start_is : c.start_of.result ≡ (attribute_at pairs c.args.at).start = c.start_of.ensures (key_long pairs are.keyed c.args.at c.key-2.result.now c.requires c.key-2.ensures) ∙ ap attr_start c.key-2.ensures ∙ sym (start_at_is pairs c.args.at) in
    let starts : (attribute_at pairs c.args.at).start ≡ 0 = sym start_is ∙ c.if-start_of-ne0.false in
    fork_judged volume c.args.head.now pairs are c.args.at c.requires c.args.fork.now value_is starts c.in_ok-blocks.field-0 c.in-Some.blocks c.owner_of-id.result c.args.out.now c.judge_extents.new.out c.judge_value_sizes.new.out c.in_ok-inside.inside c.in_ok-sizes.sizes c.both.result
    c.in-Some.is (c.in_ok-blocks.ensures are.keyed) id_is c.both.ensures spelled
    (extents_judged volume c.args.head.now pairs are c.args.at c.requires c.owner_of-id.result c.args.fork.now.extents.extents c.args.out.now c.judge_extents.new.out c.in_ok-inside.inside id_is (ap extents_in value_is) c.in_ok-inside.ensures.judged) c.in_ok-sizes.ensures.judged

pub returns-clause-each : goal.returns-clause-each
returns-clause-each c volume are value_is =
    let pairs : List Pair = c.args.attributes.now in
    let id_is : c.owner_of-id.result ≡ (attribute_at pairs c.args.at).id = c.owner_of-id.ensures (key_long pairs are.keyed c.args.at c.key.result.now c.requires c.key.ensures) ∙ ap attr_file c.key.ensures ∙ sym (id_at_is pairs c.args.at) in
    let start_is : c.start_of.result ≡ (attribute_at pairs c.args.at).start = c.start_of.ensures (key_long pairs are.keyed c.args.at c.key-2.result.now c.requires c.key-2.ensures) ∙ ap attr_start c.key-2.ensures ∙ sym (start_at_is pairs c.args.at) in
    let starts : (attribute_at pairs c.args.at).start ≡ 0 = sym start_is ∙ c.if-start_of-ne0.false in
    sizes_add volume c.args.head.now pairs are c.args.at c.requires c.args.fork.now value_is starts c.in_ok-blocks.field-0 c.in-Some.blocks c.owner_of-id.result c.args.out.now c.judge_extents.new.out c.judge_value_sizes.new.out c.in-Some.is (c.in_ok-blocks.ensures are.keyed) id_is
    (extents_add volume c.args.head.now pairs are c.args.at c.requires c.owner_of-id.result c.args.fork.now.extents.extents c.args.out.now c.judge_extents.new.out id_is (ap extents_in value_is) c.judge_extents.ensures.each) c.judge_value_sizes.ensures.each

pub returns-then-start_of-ne0-clause-named : goal.returns-then-start_of-ne0-clause-named
returns-then-start_of-ne0-clause-named c volume are value_is =
    let pairs : List Pair = c.args.attributes.now in
    let id_is : c.owner_of-id.result ≡ (attribute_at pairs c.args.at).id = c.owner_of-id.ensures (key_long pairs are.keyed c.args.at c.key.result.now c.requires c.key.ensures) ∙ ap attr_file c.key.ensures ∙ sym (id_at_is pairs c.args.at) in
    let start_is : c.start_of.result ≡ (attribute_at pairs c.args.at).start = c.start_of.ensures (key_long pairs are.keyed c.args.at c.key-2.result.now c.requires c.key-2.ensures) ∙ ap attr_start c.key-2.ensures ∙ sym (start_at_is pairs c.args.at) in
    named_fails volume (IsValue (attributes_of volume) (attribute_at pairs c.args.at)) c.add_unless.result c.owner_of-id.result c.add_unless.new.out
    (fork_later_fails volume c.args.head.now pairs are c.args.at c.requires c.args.fork.now value_is (λ starts. c.if-start_of-ne0.true (start_is ∙ starts)) c.owner_of-id.result id_is) c.add_unless.ensures.met c.add_unless.ensures.found

pub returns-in_default-clause-named : goal.returns-in_default-clause-named
returns-in_default-clause-named c volume are value_is =
    let pairs : List Pair = c.args.attributes.now in
    let id_is : c.owner_of-id.result ≡ (attribute_at pairs c.args.at).id = c.owner_of-id.ensures (key_long pairs are.keyed c.args.at c.key.result.now c.requires c.key.ensures) ∙ ap attr_file c.key.ensures ∙ sym (id_at_is pairs c.args.at) in
    let start_is : c.start_of.result ≡ (attribute_at pairs c.args.at).start = c.start_of.ensures (key_long pairs are.keyed c.args.at c.key-2.result.now c.requires c.key-2.ensures) ∙ ap attr_start c.key-2.ensures ∙ sym (start_at_is pairs c.args.at) in
    let starts : (attribute_at pairs c.args.at).start ≡ 0 = sym start_is ∙ c.if-start_of-ne0.false in
    named_fails volume (IsValue (attributes_of volume) (attribute_at pairs c.args.at)) c.add_unless-in_default.result c.owner_of-id.result c.add_unless-in_default.new.out
    (unfollowed_found volume c.args.head.now pairs are c.args.at c.requires c.args.fork.now value_is starts c.in_ok-blocks.field-0 c.in_default.is (c.in_ok-blocks.ensures are.keyed) c.owner_of-id.result id_is) c.add_unless-in_default.ensures.met c.add_unless-in_default.ensures.found

pub returns-clause-named : goal.returns-clause-named
returns-clause-named c volume are value_is =
    let pairs : List Pair = c.args.attributes.now in
    let start_is : c.start_of.result ≡ (attribute_at pairs c.args.at).start = c.start_of.ensures (key_long pairs are.keyed c.args.at c.key-2.result.now c.requires c.key-2.ensures) ∙ ap attr_start c.key-2.ensures ∙ sym (start_at_is pairs c.args.at) in
    let starts : (attribute_at pairs c.args.at).start ≡ 0 = sym start_is ∙ c.if-start_of-ne0.false in
    inr (fork_named volume c.args.head.now pairs are c.args.at c.requires c.args.fork.now value_is starts c.in_ok-blocks.field-0 c.in-Some.blocks c.in-Some.is (c.in_ok-blocks.ensures are.keyed))
