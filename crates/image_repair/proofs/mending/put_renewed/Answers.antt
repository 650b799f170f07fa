use Rattle.std.proofs.Common.{◌≡◌, ◌<◌, ℕ, List, length, sym, ◌∙◌, ap, subst, arith}
use Rattle.std.specs.Prelude.{All, Contains}
use Rattle.sector_disk.specs.Lists.{Content}
use Rattle.sector_disk.specs.Space.{Space}
use Rattle.volume_repair.specs.Differing.{differing}
use Rattle.volume_repair.specs.Repair.{IsRepair}
use Rattle.fsck_repair.specs.Overlay.{overlaid, places_of}
use Rattle.fsck_repair.proofs.CallLaws.{as_many_places, few_unput, time_then}
use Rattle.image_repair.proofs.mending.put_renewed.Goals as goal

pub put_changes-requires-clause-once : goal.put_changes-requires-clause-once
put_changes-requires-clause-once g c = c.in_ok-mend.ensures.once c.requires.changes.once

pub put_changes-requires-clause-inside : goal.put_changes-requires-clause-inside
put_changes-requires-clause-inside g c =
    let mid : Space = g.P.SectorView.space c.renewed.new.view in
    subst (λ (l : List ℕ). All (λ at. at < mid.sectors) l) (sym c.in_ok-mend.ensures.places)
    (subst (λ n. All (λ at. at < n) (places_of c.args.found.changes.items)) (sym c.renewed.ensures.reads.same.sectors) c.requires.changes.inside)

pub put_changes-requires-clause-open : goal.put_changes-requires-clause-open
put_changes-requires-clause-open g c told at stands closed =
    let tells = sym c.renewed.ensures.reads.same.tells ∙ told in
    c.requires.open tells at (subst (λ (l : List ℕ). Contains l at) c.in_ok-mend.ensures.places stands) (((c.renewed.ensures.reads.sectors tells).closed at).0 closed)

pub put_changes-requires-clause-room : goal.put_changes-requires-clause-room
put_changes-requires-clause-room g c =
    let mid : Space = g.P.SectorView.space c.renewed.new.view in
    let items = c.in_ok-mend.mend.changes.items in
    let many : length (places_of items) ≡ length c.args.found.changes.items = ap (λ (l : List ℕ). length l) c.in_ok-mend.ensures.places ∙ as_many_places c.args.found.changes.items in
    omega (arith, few_unput mid.put (places_of items), many, c.requires.room, c.renewed.ensures.reads.room.spare)

pub returns-clause-repair : goal.returns-clause-repair
returns-clause-repair g c tells start is mount =
    let old : Space = g.P.SectorView.space c.args.space.now in
    let items = c.in_ok-mend.mend.changes.items in
    let told = c.renewed.ensures.reads.same.tells ∙ tells in
    subst (λ (x : Content). IsRepair old.content x) (sym (c.put_changes.ensures.content told ∙ ap (λ (x : Content). overlaid items x) (c.renewed.ensures.reads.sectors tells).content)) (c.in_ok-mend.ensures.repair tells start is mount)

pub returns-clause-count : goal.returns-clause-count
returns-clause-count g c tells start is mount =
    let old : Space = g.P.SectorView.space c.args.space.now in
    let items = c.in_ok-mend.mend.changes.items in
    let told = c.renewed.ensures.reads.same.tells ∙ tells in
    let counted : c.len.result ≡ length items = omega (arith, c.len.ensures) in
    counted ∙ c.in_ok-mend.ensures.differ tells start is mount
    ∙ ap (λ (x : Content). differing old.content x) (sym (c.put_changes.ensures.content told ∙ ap (λ (x : Content). overlaid items x) (c.renewed.ensures.reads.sectors tells).content))

pub returns-clause-time : goal.returns-clause-time
returns-clause-time g c tells =
    let old : Space = g.P.SectorView.space c.args.space.now in
    let mid : Space = g.P.SectorView.space c.renewed.new.view in
    let new : Space = g.P.SectorView.space c.put_changes.new.space in
    let told = c.renewed.ensures.reads.same.tells ∙ tells in
    time_then (λ at. Contains (places_of c.in_ok-mend.mend.changes.items) at) old mid new tells c.renewed.ensures.reads (c.put_changes.ensures.puts told) c.put_changes.ensures.same (c.put_changes.ensures.time told)
