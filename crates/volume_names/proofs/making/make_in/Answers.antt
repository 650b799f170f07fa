use Rattle.std.proofs.Common.{◌≡◌, ◌/◌, sym, ◌∙◌, ap, arith}
use Rattle.std.specs.Prelude.{Some}
use Rattle.btree_node.specs.declared.store.TreeShape.{TreeShape}
use Rattle.hfs_model.specs.Step.{made}
use Rattle.hfs_volume.specs.Commands.{MakesEntry}
use Rattle.hfs_volume.specs.Content.{volume_of}
use Rattle.hfs_volume.specs.TreeOf.{tree_of}
use Rattle.volume_base.specs.Changing.{TouchesFolder}
use Rattle.catalog.specs.Pairs.{value_at}
use Rattle.volume_base.specs.Lists.{lists_of}
use Rattle.volume_base.specs.Making.{free_place, new_value}
use Rattle.volume_base.specs.Standing.{IsSettled, StandsOver}
use Rattle.volume_base.proofs.FoundEntry.{ok_both}
use Rattle.volume_names.proofs.Made.{folder_after, free_before, made_does, makes_both, threads_after}
use Rattle.volume_base.proofs.Replaced.{node_large}
use Rattle.volume_base.proofs.Framed.{edits_none, edits_spent}
use Rattle.volume_base.proofs.Joined.{edits_both}
use Rattle.volume_names.proofs.making.make_in.Goals as goal

pub add_new-requires-clause-size : goal.add_new-requires-clause-size
add_new-requires-clause-size g c = omega (arith, c.if-shape-lt4096.false, ap (λ (s : TreeShape). s.node_size) c.shape.ensures)

pub add_new-requires-clause-free : goal.add_new-requires-clause-free
add_new-requires-clause-free g c tells = free_before c.args.volume.now (g.P.SectorView.space c.args.space.now) (c.requires.serves.settled tells) c.args.id c.args.name.now (c.requires.site tells)

pub touch-requires-clause-threads : goal.touch-requires-clause-threads
touch-requires-clause-threads g c tells =
    let same = (c.add_new.ensures.edits.ran.touches (g.P.SectorView.space c.args.space.now).content).same.tells in
    let before = sym (c.add_new.ensures.edits.ran.touches (g.P.SectorView.space c.args.space.now).content).same.tells ∙ tells in
    threads_after c.args.volume.now (g.P.SectorView.space c.args.space.now) (c.requires.serves.settled before) c.args.id c.args.name.now (c.requires.site before) c.add_new.new.volume (g.P.SectorView.space c.add_new.new.space) c.args.folder (c.in_ok-add_new.ensures.adds before)

pub touch-requires-clause-there : goal.touch-requires-clause-there
touch-requires-clause-there g c tells =
    let before = sym (c.add_new.ensures.edits.ran.touches (g.P.SectorView.space c.args.space.now).content).same.tells ∙ tells in
    folder_after c.args.volume.now (g.P.SectorView.space c.args.space.now) (c.requires.serves.settled before) c.args.id c.args.name.now (c.requires.site before) c.add_new.new.volume (g.P.SectorView.space c.add_new.new.space) c.args.folder (c.in_ok-add_new.ensures.adds before) c.requires.room.ids

pub returns-clause-does : goal.returns-clause-does
returns-clause-does g c tells =
    let later = (c.add_new.ensures.edits.ran.touches (g.P.SectorView.space c.args.space.now).content).same.tells ∙ tells in
    let last = (c.touch.ensures.edits.ran.touches (g.P.SectorView.space c.args.space.now).content).same.tells ∙ later in
    ok_both (StandsOver c.touch.new.self (g.P.SectorView.space c.touch.new.space)) (TouchesFolder c.args.id 1 0 c.add_new.new.volume c.touch.new.self (g.P.SectorView.space c.add_new.new.space).content (g.P.SectorView.space c.touch.new.space).content)
    (IsSettled c.touch.new.self (g.P.SectorView.space c.touch.new.space).content × (tree_of (g.P.SectorView.space c.touch.new.space).content ≡ made c.args.folder (free_place c.args.id c.args.name.now) (tree_of (g.P.SectorView.space c.args.space.now).content))
    × (value_at (lists_of c.touch.new.self (g.P.SectorView.space c.touch.new.space).content).catalog_pairs c.args.id c.args.name.now ≡ Some (new_value c.args.folder c.args.volume.now.header.next_catalog_id c.args.volume.now.header.modify_date))
    × MakesEntry c.args.folder (free_place c.args.id c.args.name.now) (volume_of (g.P.SectorView.space c.args.space.now).content) (volume_of (g.P.SectorView.space c.touch.new.space).content))
    c.touch.result c.touch.ensures.edits.ran.stands (c.touch.ensures.counts later)
    (λ stands t. made_does c.args.volume.now (g.P.SectorView.space c.args.space.now) (c.requires.serves.settled tells) c.args.id c.args.name.now (c.requires.site tells) c.add_new.new.volume (g.P.SectorView.space c.add_new.new.space) c.args.folder (c.in_ok-add_new.ensures.adds tells)
    (c.requires.serves.stands.stands tells) (c.in_ok-add_new.ensures.edits.ran.stands.stands later) c.touch.new.self (g.P.SectorView.space c.touch.new.space) (stands.stands last) t (makes_both c.mkdir_does_its_step.ensures c.create_does_its_step.ensures c.args.folder))

pub returns-clause-edits : goal.returns-clause-edits
returns-clause-edits g c =
    edits_spent (edits_both g.met.P.SectorView.follows_trans c.add_new.ensures.edits c.touch.ensures.edits) (λ tells. let later = (c.add_new.ensures.edits.ran.touches (g.P.SectorView.space c.args.space.now).content).same.tells ∙ tells in
    omega (arith, c.add_new.ensures.edits.ran.spent tells, c.touch.ensures.edits.ran.spent later, ap (λ n. n / 512) (c.in_ok-add_new.ensures.adds tells).changes.nodes.1))

pub returns-then-shape-lt4096-clause-does : goal.returns-then-shape-lt4096-clause-does
returns-then-shape-lt4096-clause-does g c tells =
    absurd (omega (arith, c.if-shape-lt4096.true, ap (λ (s : TreeShape). s.node_size) c.shape.ensures, node_large c.args.volume.now (g.P.SectorView.space c.args.space.now) c.requires.serves.stands tells))

pub returns-then-shape-lt4096-clause-edits : goal.returns-then-shape-lt4096-clause-edits
returns-then-shape-lt4096-clause-edits g c = edits_none _ g.met.P.SectorView.follows_refl c.requires.serves.stands
