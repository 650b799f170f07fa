use Rattle.std.proofs.Common.{◌≡◌}
use Rattle.hfs_language.specs.declared.command.Command.TheVariants as command
use Rattle.hfs_model.specs.Step.{step}
use Rattle.hfs_volume.specs.Content.{volume_of}
use Rattle.hfs_volume.specs.Naming.{LinksFirst}
use Rattle.hfs_volume.specs.TreeOf.{tree_of}
use Rattle.volume_names.specs.Linking.{LinksAnew}
use Rattle.volume_base.specs.Making.{free_place}
use Rattle.volume_base.specs.Standing.{IsSettled}
use Rattle.volume_base.proofs.FoundEntry.{ok_so}
use Rattle.volume_names.proofs.LinkAnew.{first_anew}
use Rattle.volume_names.proofs.first_links.link_own.Goals as goal

pub returns-in-Some-clause-does : goal.returns-in-Some-clause-does
returns-in-Some-clause-does g c tells from to entry linking =
    ok_so
    (IsSettled c.link_first.new.volume (g.P.SectorView.space c.link_first.new.space).content × (tree_of (g.P.SectorView.space c.link_first.new.space).content ≡ (step (tree_of (g.P.SectorView.space c.args.space.now).content) (command.Ln from to)).1)
    × LinksFirst entry (free_place c.args.way.now.folder c.args.name.now) (volume_of (g.P.SectorView.space c.args.space.now).content) (volume_of (g.P.SectorView.space c.link_first.new.space).content))
    (IsSettled c.link_first.new.volume (g.P.SectorView.space c.link_first.new.space).content × (tree_of (g.P.SectorView.space c.link_first.new.space).content ≡ (step (tree_of (g.P.SectorView.space c.args.space.now).content) (command.Ln from to)).1)
    × LinksAnew entry (free_place c.args.way.now.folder c.args.name.now) (g.P.SectorView.space c.args.space.now).content (g.P.SectorView.space c.link_first.new.space).content)
    c.link_first.result
    (c.link_first.ensures.does tells from to entry linking)
    (first_anew c.args.volume.now (g.P.SectorView.space c.args.space.now) (c.requires.serves.settled tells) c.in-Some.private c.in-Some.is from to entry (free_place c.args.way.now.folder c.args.name.now) c.link_first.new.volume (g.P.SectorView.space c.link_first.new.space).content)

pub returns-in-Some-clause-loads : goal.returns-in-Some-clause-loads
returns-in-Some-clause-loads g c tells from to entry linking = c.link_first.ensures.loads tells from to entry linking

pub returns-in-None-clause-loads : goal.returns-in-None-clause-loads
returns-in-None-clause-loads g c tells from to entry linking = c.link_anew.ensures.loads tells from to entry linking
