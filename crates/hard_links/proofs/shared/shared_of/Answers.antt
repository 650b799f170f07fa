use Rattle.std.proofs.Common.{◌≡◌, sym, ◌∙◌, ap, subst}
use Rattle.std.specs.Prelude.{IsTrue, None, Some}
use Rattle.btree_node.specs.Keys.{IsCatalogKey}
use Rattle.btree_node.specs.Tree.{pairs_of}
use Rattle.catalog.specs.Pairs.{value_at}
use Rattle.hfs_volume.specs.Entries.{AreSpelled}
use Rattle.hfs_volume.proofs.Ascending.{tree_sorted}
use Rattle.hard_links.specs.Linking.{FindsNamed, FindsShared}
use Rattle.hard_links.specs.Orphans.{file_in}
use Rattle.hard_links.proofs.Asides.{ok_so}
use Rattle.hard_links.proofs.BeforeMoves.{tree_as, pairs_as, tells_as, one_read, more_reads}
use Rattle.catalog.proofs.Beside.{empty_name}
use Rattle.hard_links.proofs.Shares.{finds, no_link_there}
use Rattle.hard_links.proofs.shared.shared_of.Goals as goal

pub named_file-requires-clause-tree : goal.named_file-requires-clause-tree
named_file-requires-clause-tree g c tells =
    let s = g.N.NodeStore.state c.args.store.now in
    tree_as s (g.N.NodeStore.state c.lookup.new.store) (one_read s.shape.depth s (g.N.NodeStore.state c.lookup.new.store) c.lookup.ensures.reads c.lookup.ensures.cause.later) tells (g.met.N.NodeStore.well_formed c.args.store.now).total c.requires.tree

pub named_file-requires-clause-spelled : goal.named_file-requires-clause-spelled
named_file-requires-clause-spelled g c tells_read =
    let s = g.N.NodeStore.state c.args.store.now in
    let read = g.N.NodeStore.state c.lookup.new.store in
    let only = one_read s.shape.depth s read c.lookup.ensures.reads c.lookup.ensures.cause.later in
    let tells = tells_as s read only tells_read in
    subst AreSpelled (sym (pairs_as s read only tells (g.met.N.NodeStore.well_formed c.args.store.now).total c.requires.tree)) (c.requires.spelled tells)

pub returns-in-None-clause-found : goal.returns-in-None-clause-found
returns-in-None-clause-found g c tells =
    let s = g.N.NodeStore.state c.args.store.now in
    absurd (no_link_there c.args.private c.args.at.now (pairs_of s) (tree_sorted IsCatalogKey s (c.requires.tree tells)) (c.requires.links tells) (empty_name c.args.at.now.name c.requires.some) (c.requires.link tells)
    (sym c.in-None.is ∙ c.file_in.ensures ∙ ap file_in (c.in_ok-lookup.ensures.found tells)))

pub returns-in-None-clause-reads : goal.returns-in-None-clause-reads
returns-in-None-clause-reads g c =
    let s = g.N.NodeStore.state c.args.store.now in
    one_read s.shape.depth s (g.N.NodeStore.state c.lookup.new.store) c.lookup.ensures.reads c.lookup.ensures.cause.later

pub returns-in-Some-clause-found : goal.returns-in-Some-clause-found
returns-in-Some-clause-found g c tells =
    let s = g.N.NodeStore.state c.args.store.now in
    let read = g.N.NodeStore.state c.lookup.new.store in
    let only = one_read s.shape.depth s read c.lookup.ensures.reads c.lookup.ensures.cause.later in
    let pairs = pairs_of s in
    let same = pairs_as s read only tells (g.met.N.NodeStore.well_formed c.args.store.now).total c.requires.tree in
    let link = c.in-Some.link in
    ok_so c.named_file.result (λ found. FindsNamed c.args.private link.fields.special (pairs_of read) found) (λ found. FindsShared c.args.private c.args.at.now pairs found)
    (λ found named.
    finds c.args.private c.args.at.now pairs (tree_sorted IsCatalogKey s (c.requires.tree tells)) (c.requires.links tells) (empty_name c.args.at.now.name c.requires.some) (c.requires.link tells) link
    (sym c.in-Some.is ∙ c.file_in.ensures ∙ ap file_in (c.in_ok-lookup.ensures.found tells)) found (subst (λ l. FindsNamed c.args.private link.fields.special l found) same named))
    (c.named_file.ensures.found (c.lookup.ensures.reads.same.tells ∙ tells))

pub returns-in-Some-clause-reads : goal.returns-in-Some-clause-reads
returns-in-Some-clause-reads g c =
    let s = g.N.NodeStore.state c.args.store.now in
    let read = g.N.NodeStore.state c.lookup.new.store in
    let new = g.N.NodeStore.state c.named_file.new.store in
    more_reads s read new (one_read s.shape.depth s read c.lookup.ensures.reads c.lookup.ensures.cause.later) (one_read read.shape.depth read new c.named_file.ensures.reads c.named_file.ensures.cause.later)
