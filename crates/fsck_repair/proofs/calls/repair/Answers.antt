use Rattle.std.proofs.Common.{◌≡◌, length, sym, ◌∙◌, ap, arith}
use Rattle.sector_disk.specs.Lists.{Content}
use Rattle.sector_disk.specs.Space.{Space}
use Rattle.std.specs.Prelude.{Contains}
use Rattle.volume_repair.specs.Differing.{differing}
use Rattle.fsck_repair.specs.Overlay.{overlaid, places_of}
use Rattle.fsck_repair.proofs.CallLaws.{too_many, hidden_if, time_then}
use Rattle.fsck_repair.proofs.calls.repair.Goals as goal

pub fail-requires : goal.fail-requires
fail-requires g c =
    let old : Space = g.P.SectorView.space c.args.space.now in
    let new : Space = g.P.SectorView.space c.new.new.view in
    record {
      hidden = hidden_if new.tells (λ is.
          let tells = sym c.new.ensures.reads.same.tells ∙ is in
          too_many old.content c.in_ok-mend.mend.changes.items c.len-count.result c.args.sectors (c.in_ok-mend.ensures.differ tells (c.requires.bytes tells))
          (c.requires.enough tells (overlaid c.in_ok-mend.mend.changes.items old.content) (c.in_ok-mend.ensures.repair tells (c.requires.bytes tells))) (omega (arith, c.len-count.ensures)) c.if-count-sectors.true);
    }

pub returns-then-count-sectors-clause-nothing : goal.returns-then-count-sectors-clause-nothing
returns-then-count-sectors-clause-nothing g c tells =
    let old : Space = g.P.SectorView.space c.args.space.now in
    absurd (too_many old.content c.in_ok-mend.mend.changes.items c.len-count.result c.args.sectors (c.in_ok-mend.ensures.differ tells (c.requires.bytes tells))
    (c.requires.enough tells (overlaid c.in_ok-mend.mend.changes.items old.content) (c.in_ok-mend.ensures.repair tells (c.requires.bytes tells))) (omega (arith, c.len-count.ensures)) c.if-count-sectors.true)

pub returns-then-count-sectors-clause-durable : goal.returns-then-count-sectors-clause-durable
returns-then-count-sectors-clause-durable g c tells =
    let old : Space = g.P.SectorView.space c.args.space.now in
    absurd (too_many old.content c.in_ok-mend.mend.changes.items c.len-count.result c.args.sectors (c.in_ok-mend.ensures.differ tells (c.requires.bytes tells))
    (c.requires.enough tells (overlaid c.in_ok-mend.mend.changes.items old.content) (c.in_ok-mend.ensures.repair tells (c.requires.bytes tells))) (omega (arith, c.len-count.ensures)) c.if-count-sectors.true)

pub returns-then-count-sectors-clause-spilled : goal.returns-then-count-sectors-clause-spilled
returns-then-count-sectors-clause-spilled g c tells at =
    let old : Space = g.P.SectorView.space c.args.space.now in
    absurd (too_many old.content c.in_ok-mend.mend.changes.items c.len-count.result c.args.sectors (c.in_ok-mend.ensures.differ tells (c.requires.bytes tells))
    (c.requires.enough tells (overlaid c.in_ok-mend.mend.changes.items old.content) (c.in_ok-mend.ensures.repair tells (c.requires.bytes tells))) (omega (arith, c.len-count.ensures)) c.if-count-sectors.true)

pub returns-then-count-sectors-clause-closed : goal.returns-then-count-sectors-clause-closed
returns-then-count-sectors-clause-closed g c tells at =
    let old : Space = g.P.SectorView.space c.args.space.now in
    absurd (too_many old.content c.in_ok-mend.mend.changes.items c.len-count.result c.args.sectors (c.in_ok-mend.ensures.differ tells (c.requires.bytes tells))
    (c.requires.enough tells (overlaid c.in_ok-mend.mend.changes.items old.content) (c.in_ok-mend.ensures.repair tells (c.requires.bytes tells))) (omega (arith, c.len-count.ensures)) c.if-count-sectors.true)

pub returns-then-count-sectors-clause-time : goal.returns-then-count-sectors-clause-time
returns-then-count-sectors-clause-time g c tells =
    let old : Space = g.P.SectorView.space c.args.space.now in
    absurd (too_many old.content c.in_ok-mend.mend.changes.items c.len-count.result c.args.sectors (c.in_ok-mend.ensures.differ tells (c.requires.bytes tells))
    (c.requires.enough tells (overlaid c.in_ok-mend.mend.changes.items old.content) (c.in_ok-mend.ensures.repair tells (c.requires.bytes tells))) (omega (arith, c.len-count.ensures)) c.if-count-sectors.true)

pub put_changes-requires-clause-open : goal.put_changes-requires-clause-open
put_changes-requires-clause-open g c is at stands closed =
    let old : Space = g.P.SectorView.space c.args.space.now in
    let tells = sym c.new.ensures.reads.same.tells ∙ is in
    c.requires.open tells (overlaid c.in_ok-mend.mend.changes.items old.content) at (c.in_ok-mend.ensures.repair tells (c.requires.bytes tells)) (c.in_ok-mend.ensures.each tells (c.requires.bytes tells) at stands)
    (((c.new.ensures.reads.sectors tells).closed at).0 closed)

pub returns-clause-count : goal.returns-clause-count
returns-clause-count g c tells bytes =
    let old : Space = g.P.SectorView.space c.args.space.now in
    let items = c.in_ok-mend.mend.changes.items in
    let told = c.new.ensures.reads.same.tells ∙ tells in
    let is : c.len-count.result ≡ length items = omega (arith, c.len-count.ensures) in
    is ∙ c.in_ok-mend.ensures.differ tells bytes
    ∙ ap (λ (ct : Content). differing old.content ct) (sym (c.put_changes.ensures.content told ∙ ap (λ (ct : Content). overlaid items ct) (c.new.ensures.reads.sectors tells).content))

pub returns-clause-time : goal.returns-clause-time
returns-clause-time g c tells =
    let old : Space = g.P.SectorView.space c.args.space.now in
    let first : Space = g.P.SectorView.space c.new.new.view in
    let second : Space = g.P.SectorView.space c.put_changes.new.space in
    let told = c.new.ensures.reads.same.tells ∙ tells in
    time_then (λ at. Contains (places_of c.in_ok-mend.mend.changes.items) at) old first second tells c.new.ensures.reads (c.put_changes.ensures.puts told) c.put_changes.ensures.same (c.put_changes.ensures.time told)
