use Rattle.std.proofs.Common.{◌-◌, arith}
use Rattle.hfs_volume.specs.Records.{id_in}
use Rattle.volume_names.specs.Unlinking.{CountsDown, SaysLinks, links_in}
use Rattle.volume_base.proofs.FoundEntry.{ok_so}
use Rattle.volume_names.proofs.Unlinked.{says_less}
use Rattle.volume_base.proofs.Joined.{edits_wanting}
use Rattle.volume_names.proofs.unlinking.put_link_less.Goals as goal

pub returns-clause-counts : goal.returns-clause-counts
returns-clause-counts g c tells a_file plain =
    ok_so (SaysLinks (id_in c.args.entry.now.rec) (c.links_in-links.result - 1) (links_in c.args.entry.now.rec) c.args.volume.now c.put_links.new.volume (g.P.SectorView.space c.args.space.now).content (g.P.SectorView.space c.put_links.new.space).content)
    (CountsDown (id_in c.args.entry.now.rec) c.args.volume.now c.put_links.new.volume (g.P.SectorView.space c.args.space.now).content (g.P.SectorView.space c.put_links.new.space).content)
    c.put_links.result (c.put_links.ensures.counts tells a_file plain)
    (λ s. says_less (id_in c.args.entry.now.rec) (c.links_in-links.result - 1) (links_in c.args.entry.now.rec) c.args.volume.now c.put_links.new.volume (g.P.SectorView.space c.args.space.now).content (g.P.SectorView.space c.put_links.new.space).content (omega (arith, c.if-links-lt2.false, c.links_in-links.ensures)) (omega (arith, c.if-links-lt2.false)) s)

pub returns-then-links-lt2-clause-edits : goal.returns-then-links-lt2-clause-edits
returns-then-links-lt2-clause-edits g c = edits_wanting _ g.met.P.SectorView.follows_refl c.requires.ready.stands

pub returns-clause-left : goal.returns-clause-left
returns-clause-left g c = c.put_links.ensures.left
