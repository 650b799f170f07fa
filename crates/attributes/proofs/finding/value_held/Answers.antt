use Rattle.std.proofs.Common.{◌++◌, ◌∙◌, ap}
use Rattle.btree_node.specs.Keys.{attr_file, attr_units}
use Rattle.btree_node.specs.Tree.{pairs_of}
use Rattle.hfs_volume.specs.Forks.{in_use}
use Rattle.attributes.specs.Values.{later_extents}
use Rattle.attributes.proofs.Told.{fork_told, inline_told, more_told}
use Rattle.attributes.proofs.finding.value_held.Goals as goal

pub returns-in-Inline-clause-found : goal.returns-in-Inline-clause-found
returns-in-Inline-clause-found g c tells =
    let s = g.N.NodeStore.state c.args.store.now in
    inline_told c.args.key.now s c.args.desk.now (c.requires.tree tells) (c.requires.form tells) c.requires.start (c.requires.held tells) c.value.result.now c.value.ensures c.in_ok-bytes.field-0 c.in-Inline.bytes c.in_ok-bytes.ensures c.in-Inline.is

pub returns-in_ok-push_further-in-Fork-clause-found : goal.returns-in_ok-push_further-in-Fork-clause-found
returns-in_ok-push_further-in-Fork-clause-found g c tells =
    let s = g.N.NodeStore.state c.args.store.now in
    let later = later_extents (pairs_of s) (attr_file c.args.key.now) (attr_units c.args.key.now) in
    fork_told c.args.key.now s c.args.desk.now (c.requires.tree tells) (c.requires.form tells) c.requires.start (c.requires.held tells) c.value.result.now c.value.ensures c.in_ok-bytes.field-0 c.in-Fork.fork c.push_further.new.list c.in_ok-bytes.ensures c.in-Fork.is
    (c.in_ok-push_further-in-Fork.ensures.added tells ∙ ap (λ l. l ++ later) (c.in_ok-push_used-in-Fork.ensures ∙ ap (λ l. l ++ in_use c.in-Fork.fork.extents.extents) c.new-list.ensures))

pub returns-in-More-clause-found : goal.returns-in-More-clause-found
returns-in-More-clause-found g c tells =
    let s = g.N.NodeStore.state c.args.store.now in
    absurd (more_told c.args.key.now s c.args.desk.now (c.requires.tree tells) (c.requires.form tells) c.requires.start (c.requires.held tells) c.value.result.now c.value.ensures c.in_ok-bytes.field-0 c.in-More.field-0 c.in_ok-bytes.ensures c.in-More.is)
