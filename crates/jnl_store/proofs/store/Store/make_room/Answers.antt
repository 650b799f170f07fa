use Rattle.jnl_store.proofs.Room.{room_home}
use Rattle.jnl_store.proofs.Settling.{still_quiet}
use Rattle.jnl_store.proofs.store.Store.make_room.Goals as goal

pub returns-then-used-need-clause-crash : goal.returns-then-used-need-clause-crash
returns-then-used-need-clause-crash g c tells = still_quiet c.args.self.now (g.D.SectorDisk.state c.args.disk.now) (tells, c.requires.keeps tells) (g.met.D.SectorDisk.well_formed c.args.disk.now)

pub returns-clause-room : goal.returns-clause-room
returns-clause-room g c = room_home c.go_home.result c.args.self.now c.go_home.new.self c.go_home.ensures.empty c.go_home.ensures.journal c.go_home.ensures.puts.0 c.requires.capacity
