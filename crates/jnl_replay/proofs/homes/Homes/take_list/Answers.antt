use Rattle.std.proofs.Common.{◌-◌, ◌∙◌, ap, arith}
use Rattle.sector_disk.specs.Disk.{content}
use Rattle.jnl_format.specs.declared.dialect.Dialect.TheVariants.{Wide}
use Rattle.jnl_format.specs.declared.structures.ListHead.{ListHead}
use Rattle.jnl_replay.specs.Text.{words}
use Rattle.jnl_replay.proofs.Listing.{head_is, not_headless}
use Rattle.jnl_replay.proofs.Pendings.{list_here, pend_list}
use Rattle.jnl_replay.proofs.Texts.{length-words}
use Rattle.jnl_replay.proofs.homes.Homes.take_list.Goals as goal

pub returns-then-left-header-clause-goes : goal.returns-then-left-header-clause-goes
returns-then-left-header-clause-goes g c tells volume homes p =
    let s0 = g.D.SectorDisk.state c.args.disk.now in
    let t = c.args.self.now.text in
    let long = length-words s0 t (g.met.D.SectorDisk.well_formed c.args.disk.now) tells c.requires.text in
    let l = list_here volume (words t (content s0)) c.args.self.now homes p c.requires.none c.requires.no_entries (omega (arith, long, c.requires.some)) in
    absurd (omega (arith, long, l.header, c.if-left-header.true, c.from-header.ensures))

pub returns-in-None-clause-goes : goal.returns-in-None-clause-goes
returns-in-None-clause-goes g c tells volume homes p =
    let s0 = g.D.SectorDisk.state c.args.disk.now in
    let t = c.args.self.now.text in
    let long = length-words s0 t (g.met.D.SectorDisk.well_formed c.args.disk.now) tells c.requires.text in
    let l = list_here volume (words t (content s0)) c.args.self.now homes p c.requires.none c.requires.no_entries (omega (arith, long, c.requires.some)) in
    absurd (not_headless Wide volume t.order t.blhdr (words t (content s0)) c.args.self.now.list c.read_text.new.into (c.in_ok-read_text.ensures.value tells) c.in-None.ensures l)

pub returns-then-used-header-clause-goes : goal.returns-then-used-header-clause-goes
returns-then-used-header-clause-goes g c tells volume homes p =
    let s0 = g.D.SectorDisk.state c.args.disk.now in
    let t = c.args.self.now.text in
    let long = length-words s0 t (g.met.D.SectorDisk.well_formed c.args.disk.now) tells c.requires.text in
    let l = list_here volume (words t (content s0)) c.args.self.now homes p c.requires.none c.requires.no_entries (omega (arith, long, c.requires.some)) in
    let u = c.from-used.ensures ∙ ap (λ (h : ListHead). h.used) (head_is Wide volume t.order t.blhdr (words t (content s0)) c.args.self.now.list c.read_text.new.into c.in-Some.head (c.in_ok-read_text.ensures.value tells) c.in-Some.ensures) in
    absurd (omega (arith, u, l.used, c.if-used-header.true, c.from-header.ensures))

pub returns-then-left-used-clause-goes : goal.returns-then-left-used-clause-goes
returns-then-left-used-clause-goes g c tells volume homes p =
    let s0 = g.D.SectorDisk.state c.args.disk.now in
    let t = c.args.self.now.text in
    let long = length-words s0 t (g.met.D.SectorDisk.well_formed c.args.disk.now) tells c.requires.text in
    let l = list_here volume (words t (content s0)) c.args.self.now homes p c.requires.none c.requires.no_entries (omega (arith, long, c.requires.some)) in
    let u = c.from-used.ensures ∙ ap (λ (h : ListHead). h.used) (head_is Wide volume t.order t.blhdr (words t (content s0)) c.args.self.now.list c.read_text.new.into c.in-Some.head (c.in_ok-read_text.ensures.value tells) c.in-Some.ensures) in
    absurd (omega (arith, long, u, l.inside, c.if-left-used.true))

pub returns-clause-goes : goal.returns-clause-goes
returns-clause-goes g c tells volume homes p =
    let s0 = g.D.SectorDisk.state c.args.disk.now in
    let t = c.args.self.now.text in
    let long = length-words s0 t (g.met.D.SectorDisk.well_formed c.args.disk.now) tells c.requires.text in
    let e = head_is Wide volume t.order t.blhdr (words t (content s0)) c.args.self.now.list c.read_text.new.into c.in-Some.head (c.in_ok-read_text.ensures.value tells) c.in-Some.ensures in
    pend_list volume (words t (content s0)) c.args.self.now homes p c.requires.none c.requires.no_entries (omega (arith, long, c.requires.some))
    c.from-used.result c.from-header.result (c.in-Some.head.entries - 1) (c.from-used.ensures ∙ ap (λ (h : ListHead). h.used) e) c.from-header.ensures (ap (λ (h : ListHead). h.entries - 1) e) (omega (arith, c.requires.text.blhdr))
