use Rattle.std.proofs.Common.{◌≡◌, ℕ, List, length, sym, ap, ◌∙◌, subst}
use Rattle.sector_disk.specs.Space.{Puts}
use Rattle.volume_header.specs.Header.{header_bytes}
use Rattle.volume_base.proofs.HeaderPut.{header_open, stands_behind_put, put_again, put_counts, put_spent, put_within}
use Rattle.volume_base.proofs.ListsAfter.{lists_put, put_changes, header_is}
use Rattle.volume_base.proofs.volume.Volume.put_header.Goals as goal

pub put-requires-clause-open : goal.put-requires-clause-open
put-requires-clause-open g c = header_open c.args.self.now (g.P.SectorView.space c.args.space.now) c.requires.stands

pub returns-clause-put : goal.returns-clause-put
returns-clause-put g c tells =
    let v = c.args.self.now in
    let a = g.P.SectorView.space c.args.space.now in
    let b = g.P.SectorView.space c.put.new.self in
    let long : length c.write_header.new.into ≡ 512 = search in
    let full : length (header_bytes c.args.self.now.header) ≡ 512 = sym (ap (λ (l : List ℕ). length l) c.write_header.ensures) ∙ long in
    let was = c.requires.stands.stands tells in
    let puts = subst (λ (l : List ℕ). Puts (g.P.SectorView.space c.args.space.now) 2 l (g.P.SectorView.space c.put.new.self)) c.write_header.ensures (c.put.ensures.puts tells) in
    record { headed = header_is v a b was puts full c.requires.stands.service.fits; lists = lists_put v a b was puts full; changes = put_changes v a b was puts full }

pub returns-clause-within : goal.returns-clause-within
returns-clause-within g c =
    let long : length c.write_header.new.into ≡ 512 = search in
    put_within (g.P.SectorView.space c.args.space.now) (g.P.SectorView.space c.put.new.self) c.write_header.new.into long (λ tells. (c.requires.stands.stands tells).large) c.put.ensures.same c.put.ensures.puts c.put.ensures.time c.put.ensures.room c.put.ensures.faults

pub returns-clause-spent : goal.returns-clause-spent
returns-clause-spent g c = put_spent (g.P.SectorView.space c.args.space.now) (g.P.SectorView.space c.put.new.self) c.put.ensures.room

pub returns-clause-stands : goal.returns-clause-stands
returns-clause-stands g c =
    let long : length c.write_header.new.into ≡ 512 = search in
    stands_behind_put c.args.self.now (g.P.SectorView.space c.args.space.now) (g.P.SectorView.space c.put.new.self) c.write_header.new.into c.requires.stands c.put.ensures.same long c.put.ensures.puts

pub returns-clause-is_put : goal.returns-clause-is_put
returns-clause-is_put g c tells = put_counts (g.P.SectorView.space c.args.space.now) (g.P.SectorView.space c.put.new.self) c.put.ensures.room

pub returns-clause-again : goal.returns-clause-again
returns-clause-again g c was = put_again (g.P.SectorView.space c.args.space.now) (g.P.SectorView.space c.put.new.self) was c.put.ensures.room
