use Rattle.std.proofs.Common.{◌≡◌, List, [], sym, ◌∙◌, ap, subst}
use Rattle.std.proofs.lemmas.Bool.{true≢false}
use Rattle.std.specs.Prelude.{IfOk, if◌then◌else◌}
use Rattle.btree_node.specs.Levels.{Pair}
use Rattle.btree_file.specs.Standing.{pairs_in}
use Rattle.btree_file.specs.State.{sectors_of_tree}
use Rattle.attributes.specs.Owned.{names_of}
use Rattle.volume_base.proofs.Still.{has_them, attributes_over}
use Rattle.volume_base.proofs.Framed.{serves_still}
use Rattle.volume_base.proofs.Looked.{attributes_looked, looked_none}
use Rattle.volume_base.proofs.volume.Volume.list_attributes.Goals as goal

pub list_owned-requires : goal.list_owned-requires
list_owned-requires g c = record { over = attributes_over c.args.self.now (g.P.SectorView.space c.args.space.now) c.requires.serves.stands c.requires.serves.settled (has_them c.args.self.now.header c.if-self-eq0.false) }

pub returns-clause-listed : goal.returns-clause-listed
returns-clause-listed g c tells =
    let read = pairs_in (sectors_of_tree c.args.self.now.attributes.file) (g.P.SectorView.space c.args.space.now).content in
    subst (λ (l : List Pair). IfOk c.list_owned.result (λ owned. owned ≡ names_of c.args.id l)) (sym (ap (λ b. if b then read else []) (has_them c.args.self.now.header c.if-self-eq0.false))) (c.list_owned.ensures.listed tells)

pub returns-clause-none : goal.returns-clause-none
returns-clause-none g c none = absurd (true≢false (sym (has_them c.args.self.now.header c.if-self-eq0.false) ∙ none))

pub returns-clause-looked : goal.returns-clause-looked
returns-clause-looked g c = attributes_looked (has_them c.args.self.now.header c.if-self-eq0.false) c.list_owned.ensures.below c.list_owned.ensures.cause c.requires.serves.stands c.list_owned.ensures.reads c.list_owned.ensures.over

pub returns-clause-serves : goal.returns-clause-serves
returns-clause-serves g c = serves_still (returns-clause-looked g c) c.requires.serves

pub returns-then-self-eq0-clause-looked : goal.returns-then-self-eq0-clause-looked
returns-then-self-eq0-clause-looked g c = looked_none g.met.P.SectorView.follows_refl c.requires.serves.stands
