use Rattle.std.proofs.Common.{List, ℕ, ap, ◌∙◌, ◌+◌, ◌≤◌, length, arith}
use Rattle.sector_disk.specs.Disk.{content}
use Rattle.jnl_format.specs.List.{entry_at}
use Rattle.jnl_replay.specs.Text.{words}
use Rattle.jnl_replay.proofs.Texts.{entry_in, length-words}
use Rattle.jnl_replay.proofs.text.read_entry_at.Goals as goal

pub returns-clause-value : goal.returns-clause-value
returns-clause-value g c tells =
    let old = g.D.SectorDisk.state c.args.disk.now in
    let t = c.args.text.now in
    let w = words t (content old) in
    let fits : c.args.at + 16 ≤ length w = omega (arith, length-words old t (g.met.D.SectorDisk.well_formed c.args.disk.now) tells c.requires.text, c.requires.inside) in
    c.read_entry.ensures ∙ ap (λ (l : List ℕ). entry_at t.order l 0) (c.in_ok-read_text.ensures.value tells) ∙ entry_in t.order c.args.at w fits
