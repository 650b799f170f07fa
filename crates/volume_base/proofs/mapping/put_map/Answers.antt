use Rattle.volume_base.proofs.Mapped.{map_apart, map_open, map_put, map_within, stands_behind_map, unchanged_are}
use Rattle.volume_base.proofs.mapping.put_map.Goals as goal

pub store-requires-clause-inside : goal.store-requires-clause-inside
store-requires-clause-inside g c = c.requires.stands.service.map_inside

pub store-requires-clause-enough : goal.store-requires-clause-enough
store-requires-clause-enough g c = c.requires.stands.service.map_long

pub store-requires-clause-apart : goal.store-requires-clause-apart
store-requires-clause-apart g c tells = map_apart c.args.volume.now (g.P.SectorView.space c.args.space.now) c.requires.stands tells

pub store-requires-clause-open : goal.store-requires-clause-open
store-requires-clause-open g c tells = map_open c.args.volume.now (g.P.SectorView.space c.args.space.now) c.requires.stands tells

pub store-requires-clause-others : goal.store-requires-clause-others
store-requires-clause-others g c tells = unchanged_are c.args.volume.now (g.P.SectorView.space c.args.space.now).content (c.requires.unchanged tells)

pub returns-clause-stands : goal.returns-clause-stands
returns-clause-stands g c = stands_behind_map c.args.volume.now (g.P.SectorView.space c.args.space.now) (g.P.SectorView.space c.store.new.space) c.requires.stands c.store.ensures.same c.store.ensures.puts c.store.ensures.whole

pub returns-clause-put : goal.returns-clause-put
returns-clause-put g c tells =
    map_put c.args.volume.now (g.P.SectorView.space c.args.space.now) (g.P.SectorView.space c.store.new.space) (c.requires.stands.stands tells) (c.store.ensures.puts tells) (c.store.ensures.whole tells) (c.requires.unchanged tells) (c.store.ensures.holds tells) (c.store.ensures.rest tells)

pub returns-clause-within : goal.returns-clause-within
returns-clause-within g c =
    map_within c.args.volume.now _ (g.P.SectorView.space c.args.space.now) (g.P.SectorView.space c.store.new.space) c.store.ensures.same c.store.ensures.puts c.store.ensures.whole c.store.ensures.time c.store.ensures.room c.store.ensures.faults

pub returns-clause-spent : goal.returns-clause-spent
returns-clause-spent g c = c.store.ensures.room.spare
