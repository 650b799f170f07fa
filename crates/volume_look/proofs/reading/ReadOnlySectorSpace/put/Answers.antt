use Rattle.std.proofs.Common.{refl, inr}
use Rattle.std.proofs.lemmas.Bool.{eqb-true}
use Rattle.sector_disk.specs.Disk.{content}
use Rattle.jnl_replay.specs.Viewing.{shown}
use Rattle.volume_look.proofs.Puts.{put_again, put_alone}
use Rattle.volume_look.proofs.reading.ReadOnlySectorSpace.put.Goals as goal

pub returns-clause-puts : goal.returns-clause-puts
returns-clause-puts g c tells =
    let state = g.D.SectorDisk.state c.args.self.now.disk.now in
    let put = c.args.self.now.put in
    record {
      content = put_again put (shown c.args.self.now.peek.now state.sectors (content state)) c.args.at c.args.from.now c.requires.room;
      durable = refl;
      spilled = λ s. ((λ no. no), (λ no. no));
      live = λ s. ((λ is. inr (eqb-true s c.args.at is)), put_alone put c.args.at s c.requires.room);
      closed = λ s. ((λ no. no), (λ no. no));
    }
