use Rattle.std.proofs.Common.{◌≡◌, List, [], sym, ap, subst}
use Rattle.std.specs.Prelude.{IfOk, if◌then◌else◌}
use Rattle.btree_node.specs.Levels.{Pair}
use Rattle.btree_file.specs.Standing.{pairs_in}
use Rattle.btree_file.specs.State.{sectors_of_tree}
use Rattle.volume_base.specs.Attributing.{others_owned}
use Rattle.volume_base.proofs.OwnedTold.{all_so}
use Rattle.volume_base.proofs.Still.{has_them, attributes_over}
use Rattle.volume_base.proofs.Framed.{serves_still}
use Rattle.volume_base.proofs.Looked.{attributes_looked, looked_none}
use Rattle.volume_base.proofs.volume.Volume.owned.Goals as goal

pub find_owned-requires-clause-over : goal.find_owned-requires-clause-over
find_owned-requires-clause-over g c = attributes_over c.args.self.now (g.P.SectorView.space c.args.space.now) c.requires.serves.stands c.requires.serves.settled (has_them c.args.self.now.header c.if-self-eq0.false)

pub returns-clause-found : goal.returns-clause-found
returns-clause-found g c tells =
    let read = pairs_in (sectors_of_tree c.args.self.now.attributes.file) (g.P.SectorView.space c.args.space.now).content in
    subst (λ (l : List Pair). IfOk c.find_owned.result (λ said. said ≡ others_owned l c.args.id c.args.name.now)) (sym (ap (λ b. if b then read else []) (has_them c.args.self.now.header c.if-self-eq0.false))) (c.find_owned.ensures.found tells)

pub returns-clause-looked : goal.returns-clause-looked
returns-clause-looked g c = attributes_looked (has_them c.args.self.now.header c.if-self-eq0.false) c.find_owned.ensures.below c.find_owned.ensures.cause c.requires.serves.stands c.find_owned.ensures.reads c.find_owned.ensures.over

pub returns-clause-serves : goal.returns-clause-serves
returns-clause-serves g c = serves_still (returns-clause-looked g c) c.requires.serves

pub returns-clause-has : goal.returns-clause-has
returns-clause-has g c = all_so c.find_owned.result (has_them c.args.self.now.header c.if-self-eq0.false)

pub returns-then-self-eq0-clause-looked : goal.returns-then-self-eq0-clause-looked
returns-then-self-eq0-clause-looked g c = looked_none g.met.P.SectorView.follows_refl c.requires.serves.stands
