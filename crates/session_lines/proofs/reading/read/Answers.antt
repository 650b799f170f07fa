use Rattle.std.proofs.Common.{inl, inr, refl}
use Rattle.session_lines.proofs.ReadLines.{has_read, none_read, read_stops, some_read}
use Rattle.session_lines.proofs.reading.read.Goals as goal

pub returns-in-Ok-Some-clause-goes : goal.returns-in-Ok-Some-clause-goes
returns-in-Ok-Some-clause-goes g c tells capacity committed now shrunk stands =
    let old = g.G.Ground.outside c.args.base.now in
    let space = g.G.SectorView.space c.args.base.now in
    let new = g.G.SectorView.space c.read_id.new.base in
    let after = g.G.Ground.outside c.read_id.new.base in
    let knows = g.V.Volume.knows c.args.volume.now space capacity in
    let knows_new = g.V.Volume.knows c.read_id.new.self new capacity in
    let touches = c.read_id.ensures.touches tells capacity committed now shrunk stands in
    let stays = c.read_id.ensures.stays tells capacity committed now shrunk stands in
    has_read capacity shrunk committed now old knows space stands knows_new new after touches c.args.id c.args.from c.args.length _ stays
    (inr (λ file there kind. some_read _ _ _ c.in-Ok-Some.field-0-is (c.in-Ok-Some.ensures.bytes tells capacity committed now shrunk stands file there kind)))

pub returns-in-Ok-None-clause-goes : goal.returns-in-Ok-None-clause-goes
returns-in-Ok-None-clause-goes g c tells capacity committed now shrunk stands =
    let old = g.G.Ground.outside c.args.base.now in
    let space = g.G.SectorView.space c.args.base.now in
    let new = g.G.SectorView.space c.read_id.new.base in
    let after = g.G.Ground.outside c.read_id.new.base in
    let knows = g.V.Volume.knows c.args.volume.now space capacity in
    let knows_new = g.V.Volume.knows c.read_id.new.self new capacity in
    let touches = c.read_id.ensures.touches tells capacity committed now shrunk stands in
    let stays = c.read_id.ensures.stays tells capacity committed now shrunk stands in
    has_read capacity shrunk committed now old knows space stands knows_new new after touches c.args.id c.args.from c.args.length _ stays
    (inr (λ file there kind. absurd (none_read _ _ c.in-Ok-None.field-0-is (c.in-Ok-None.ensures.bytes tells capacity committed now shrunk stands file there kind))))

pub returns-in-Err-Memory-clause-goes : goal.returns-in-Err-Memory-clause-goes
returns-in-Err-Memory-clause-goes g c tells capacity committed now shrunk stands =
    let old = g.G.Ground.outside c.args.base.now in
    let space = g.G.SectorView.space c.args.base.now in
    let new = g.G.SectorView.space c.read_id.new.base in
    let after = g.G.Ground.outside c.read_id.new.base in
    let knows = g.V.Volume.knows c.args.volume.now space capacity in
    let knows_new = g.V.Volume.knows c.read_id.new.self new capacity in
    let touches = c.read_id.ensures.touches tells capacity committed now shrunk stands in
    let stays = c.read_id.ensures.stays tells capacity committed now shrunk stands in
    has_read capacity shrunk committed now old knows space stands knows_new new after touches c.args.id c.args.from c.args.length _ stays (inl refl)

pub returns-in-Err-Disk-clause-stops : goal.returns-in-Err-Disk-clause-stops
returns-in-Err-Disk-clause-stops g c tells capacity committed now shrunk stands =
    let old = g.G.Ground.outside c.args.base.now in
    let space = g.G.SectorView.space c.args.base.now in
    let new = g.G.SectorView.space c.read_id.new.base in
    let after = g.G.Ground.outside c.read_id.new.base in
    let knows = g.V.Volume.knows c.args.volume.now space capacity in
    let knows_new = g.V.Volume.knows c.read_id.new.self new capacity in
    let touches = c.read_id.ensures.touches tells capacity committed now shrunk stands in
    let stays = c.read_id.ensures.stays tells capacity committed now shrunk stands in
    read_stops capacity shrunk committed now old knows space stands knows_new new after touches
