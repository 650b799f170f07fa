use Rattle.std.proofs.Common.{◌≡◌, ◌<◌, refl, arith}
use Rattle.btree_node.specs.Tree.{pairs_of}
use Rattle.catalog.proofs.RoomLaws.{most_none, updates_none}
use Rattle.hard_links.specs.Linking.{CountsLinks, SaysLeft}
use Rattle.hard_links.proofs.Asides.{on_ok_so}
use Rattle.hard_links.proofs.dropping.say_left.Goals as goal

pub returns-then-left-eq0-clause-left : goal.returns-then-left-eq0-clause-left
returns-then-left-eq0-clause-left g c tells = record { none = λ is. refl; some = λ few. absurd (omega (arith, few, c.if-left-eq0.true)) }

pub returns-then-left-eq0-clause-edits : goal.returns-then-left-eq0-clause-edits
returns-then-left-eq0-clause-edits g c = updates_none 0 1 516 (g.N.NodeStore.state c.args.store.now)

pub returns-then-left-eq0-clause-takes : goal.returns-then-left-eq0-clause-takes
returns-then-left-eq0-clause-takes g c = most_none 0 1 516 (g.N.NodeStore.state c.args.store.now)

pub returns-clause-left : goal.returns-clause-left
returns-clause-left g c tells =
    let old = pairs_of (g.N.NodeStore.state c.args.store.now) in
    let new = pairs_of (g.N.NodeStore.state c.count_links.new.store) in
    on_ok_so c.count_links.result (CountsLinks c.args.private c.args.name.now c.args.left old new) (SaysLeft c.args.private c.args.name.now c.args.left old new)
    (λ counts. record { none = λ is. absurd (omega (arith, is, c.if-left-eq0.false)); some = λ few. counts }) (c.count_links.ensures.counts tells)
