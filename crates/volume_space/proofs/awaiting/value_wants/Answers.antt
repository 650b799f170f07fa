use Rattle.std.proofs.Common.{◌≡◌, ◌≤◌, sym, ◌∙◌, ap, subst, arith}
use Rattle.volume_base.specs.Room.{capacity_of}
use Rattle.volume_base.specs.Weighing.{AreUsual}
use Rattle.volume_base.proofs.Looked.{looked_wanting}
use Rattle.volume_space.proofs.Awaits.{value_next}
use Rattle.volume_space.proofs.awaiting.value_wants.Goals as goal

pub bare_wants-requires-clause-small : goal.bare_wants-requires-clause-small
bare_wants-requires-clause-small g c tells =
    let usual : AreUsual 2 c.in_ok-change.change = c.in_ok-change.ensures.usual in
    record { records = omega (arith, usual.records); blocks = usual.blocks; freed = usual.freed }

pub returns-clause-awaits : goal.returns-clause-awaits
returns-clause-awaits g c tells =
    value_next (g.P.SectorView.space c.args.space.now).content (g.P.SectorView.space c.value_change.new.space).content (c.value_change.ensures.looked.reads.looks.content tells) (capacity_of c.args.volume.now) (capacity_of c.value_change.new.self) c.value_change.ensures.looked.reads.keeps.capacity c.in_ok-change.change c.args.id c.args.name.now (c.in_ok-change.ensures.change tells)
    c.bare_wants.result (c.bare_wants.ensures (c.value_change.ensures.looked.reads.looks.same.tells ∙ tells))

pub returns-then-len-gt127-clause-looked : goal.returns-then-len-gt127-clause-looked
returns-then-len-gt127-clause-looked g c = looked_wanting g.met.P.SectorView.follows_refl c.requires.serves.stands
