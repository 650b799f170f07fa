use Rattle.std.proofs.Common.{◌≡◌, ◌≤◌, ℕ, true, false, List, length, refl, sym, ◌∙◌, ap, subst}
use Rattle.std.specs.Prelude.{IfSome, IsTrue, Option, Some, None}
use Rattle.sector_disk.specs.Lists.{Content}
use Rattle.hfs_volume.specs.Content.{VolumeState, records_of, volume_of}
use Rattle.hfs_volume.specs.Reclaim.{DropAttribute, has_surplus_left, next_reclaim}
use Rattle.volume_base.specs.Keeping.{shrunk_of}
use Rattle.volume_base.specs.Lists.{lists_of}
use Rattle.volume_base.specs.Room.{capacity_of}
use Rattle.volume_base.specs.declared.entries.Entry.{Entry}
use Rattle.volume_base.proofs.Still.{lists_still, settled_still, volume_both}
use Rattle.volume_space.specs.Orphans.{IsToDrop}
use Rattle.volume_base.proofs.Framed.{looked_both}
use Rattle.volume_space.proofs.Awaits.{bare_next}
use Rattle.volume_space.proofs.awaiting.owner_wants.Goals as goal

pub returns-in-Some-clause-awaits : goal.returns-in-Some-clause-awaits
returns-in-Some-clause-awaits g c tells =
    bare_next (g.P.SectorView.space c.args.space.now).content (g.P.SectorView.space c.next_owned.new.space).content (c.next_owned.ensures.looked.reads.looks.content tells) (capacity_of c.args.volume.now) (capacity_of c.next_owned.new.volume) c.next_owned.ensures.looked.reads.keeps.capacity (shrunk_of c.args.volume.now) c.args.id c.in-Some.name
    (subst (λ (o : Option (List ℕ)). IfSome o (λ name. next_reclaim (volume_of (g.P.SectorView.space c.args.space.now).content) (shrunk_of c.args.volume.now) ≡ Some (DropAttribute c.args.id name))) c.in-Some.is (c.in_ok-found.ensures.found tells (shrunk_of c.args.volume.now) (c.requires.kept tells)))
    c.value_wants.result (c.value_wants.ensures.awaits (c.next_owned.ensures.looked.reads.looks.same.tells ∙ tells))

pub returns-in-Some-clause-looked : goal.returns-in-Some-clause-looked
returns-in-Some-clause-looked g c = looked_both g.met.P.SectorView.follows_trans c.next_owned.ensures.looked c.value_wants.ensures.looked
