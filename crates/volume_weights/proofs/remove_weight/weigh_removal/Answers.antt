use Rattle.std.proofs.Common.{◌≡◌, ℕ, sym, ◌∙◌, ap, arith}
use Rattle.std.specs.Prelude.{length}
use Rattle.attributes.specs.Owned.{names_of}
use Rattle.hfs_volume.specs.Content.{VolumeState, has_attributes, volume_of}
use Rattle.hfs_volume.specs.declared.cost.ValueChange.{ValueChange}
use Rattle.volume_base.specs.Room.{free_in}
use Rattle.volume_base.specs.Values.{values_owned}
use Rattle.volume_base.specs.Weighing.{values_weighed}
use Rattle.volume_base.specs.declared.room.FreeBlocks.TheVariants as blocks
use Rattle.volume_base.specs.declared.value_changes.OwnedValues.{OwnedValues}
use Rattle.volume_base.proofs.OwnedTold.{has_not}
use Rattle.volume_base.proofs.Still.{has_them}
use Rattle.volume_base.proofs.RemoveWeight.{nothing_changed}
use Rattle.volume_weights.proofs.remove_weight.weigh_removal.Goals as goal

pub weigh_edits-requires-clause-tree : goal.weigh_edits-requires-clause-tree
weigh_edits-requires-clause-tree g c tells some =
    let none = c.in_ok-owned.ensures.none (ap has_attributes (sym c.owned_values.ensures.looked.reads.keeps.header) ∙ has_not c.owned_values.new.self.header c.if-volume-eq0.true) in
    absurd (omega (arith, some, ap (λ (o : OwnedValues). o.count) none))

pub weigh_values-requires-clause-tree : goal.weigh_values-requires-clause-tree
weigh_values-requires-clause-tree g c tells = has_them c.owned_values.new.self.header c.if-volume-eq0.false

pub weigh_values-requires-clause-small : goal.weigh_values-requires-clause-small
weigh_values-requires-clause-small g c tells = c.in_ok-owned.ensures.usual

pub returns-clause-exact : goal.returns-clause-exact
returns-clause-exact g c tells =
    let reads = c.owned_values.ensures.looked.reads in
    let many : c.in_ok-owned.owned.count ≡ length (names_of c.args.id (volume_of (g.P.SectorView.space c.args.space.now).content).attribute_pairs) =
    c.in_ok-owned.ensures.counted tells ∙ sym (ap (λ (l : VolumeState). length (names_of c.args.id l.attribute_pairs)) (c.requires.serves.settled tells).lists) in
    c.weigh_values.ensures.exact (reads.looks.same.tells ∙ tells)
    ∙ (λ i. values_weighed (reads.keeps.capacity i) (free_in blocks.Takable (reads.keeps.map i)) (volume_of (reads.looks.content tells i)) (record { ids = 0; catalog = 2; attributes = many i; updates = 1 }) (c.in_ok-owned.ensures.change tells i))

pub returns-then-volume-eq0-clause-exact : goal.returns-then-volume-eq0-clause-exact
returns-then-volume-eq0-clause-exact g c tells =
    let reads = c.owned_values.ensures.looked.reads in
    let none = c.in_ok-owned.ensures.none (ap has_attributes (sym reads.keeps.header) ∙ has_not c.owned_values.new.self.header c.if-volume-eq0.true) in
    let many : c.in_ok-owned.owned.count ≡ length (names_of c.args.id (volume_of (g.P.SectorView.space c.args.space.now).content).attribute_pairs) =
    c.in_ok-owned.ensures.counted tells ∙ sym (ap (λ (l : VolumeState). length (names_of c.args.id l.attribute_pairs)) (c.requires.serves.settled tells).lists) in
    let change : record { records = 0; freed = 0; blocks = 0 } ≡ values_owned (volume_of (g.P.SectorView.space c.args.space.now).content) c.args.id =
    sym (ap (λ (o : OwnedValues). o.change) none) ∙ c.in_ok-owned.ensures.change tells in
    c.weigh_edits.ensures.exact (reads.looks.same.tells ∙ tells)
    ∙ nothing_changed c.owned_values.new.self.capacity (free_in blocks.Takable c.owned_values.new.self.map) (volume_of (g.P.SectorView.space c.owned_values.new.space).content) c.in_ok-owned.owned.count
    ∙ (λ i. values_weighed (reads.keeps.capacity i) (free_in blocks.Takable (reads.keeps.map i)) (volume_of (reads.looks.content tells i)) (record { ids = 0; catalog = 2; attributes = many i; updates = 1 }) (change i))
