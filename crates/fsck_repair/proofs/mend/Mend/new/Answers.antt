use Rattle.std.proofs.Common.{◌<◌, ◌∙◌, subst}
use Rattle.sector_disk.specs.Space.{Space}
use Rattle.btree_file.specs.FrameLaws.{reads_both}
use Rattle.fsck_core.proofs.ListJoins.{at_none, at_some}
use Rattle.fsck_core.proofs.ShownLaws.{shows_first, shows_still}
use Rattle.fsck_repair.specs.Changing.{IsInOrder}
use Rattle.fsck_repair.proofs.CallLaws.{no_repair, none_differ, none_bytes, still_right, is_repair, bytes_still, places_inside, change_differs, no_places}
use Rattle.fsck_repair.proofs.DiffLaws.{as_many_differ}
use Rattle.fsck_repair.proofs.mend.Mend.new.Goals as goal

pub returns-in_default-clause-repair : goal.returns-in_default-clause-repair
returns-in_default-clause-repair g c tells bytes =
    let old : Space = g.V.SectorView.space c.args.view.now in
    let shows = shows_first old tells bytes (g.met.V.SectorView.well_formed c.args.view.now tells) in
    no_repair old.content c.new.result.items c.new.ensures.items (at_none c.in_ok-counts.field-0 _ _ c.in_default.is (c.in_ok-counts.ensures.found old.content shows))

pub returns-in_default-clause-differ : goal.returns-in_default-clause-differ
returns-in_default-clause-differ g c tells bytes = none_differ (g.V.SectorView.space c.args.view.now).content c.new.result.items c.new.ensures.items

pub returns-in_default-clause-bytes : goal.returns-in_default-clause-bytes
returns-in_default-clause-bytes g c tells bytes = none_bytes (g.V.SectorView.space c.args.view.now).content c.new.result.items c.new.ensures.items bytes

pub returns-clause-repair : goal.returns-clause-repair
returns-clause-repair g c tells bytes =
    let old : Space = g.V.SectorView.space c.args.view.now in
    let first : Space = g.V.SectorView.space c.count_volume.new.view in
    let second : Space = g.V.SectorView.space c.all_changes.new.view in
    let shows = shows_first old tells bytes (g.met.V.SectorView.well_formed c.args.view.now tells) in
    let reads = reads_both old first second c.count_volume.ensures.reads c.all_changes.ensures.reads in
    let counted = at_some c.in_ok-counts.field-0 c.in-Some.counts _ _ c.in-Some.is (c.in_ok-counts.ensures.found old.content shows) in
    let right = c.in_ok-changes.ensures.changes old.content (shows_still old first old.content shows c.count_volume.ensures.reads) counted in
    let order = subst (λ n. IsInOrder n c.in_ok-changes.changes.items c.in_ok-changes-2.changes.items) (c.sectors.ensures ∙ reads.same.sectors ∙ shows.size) c.in_ok-changes-2.ensures.same in
    is_repair old.content c.in_ok-changes.changes.items c.in_ok-changes-2.changes.items order right.0 counted.mendable right.1

pub returns-clause-differ : goal.returns-clause-differ
returns-clause-differ g c tells bytes =
    let old : Space = g.V.SectorView.space c.args.view.now in
    let first : Space = g.V.SectorView.space c.count_volume.new.view in
    let second : Space = g.V.SectorView.space c.all_changes.new.view in
    let shows = shows_first old tells bytes (g.met.V.SectorView.well_formed c.args.view.now tells) in
    let reads = reads_both old first second c.count_volume.ensures.reads c.all_changes.ensures.reads in
    let counted = at_some c.in_ok-counts.field-0 c.in-Some.counts _ _ c.in-Some.is (c.in_ok-counts.ensures.found old.content shows) in
    let right = c.in_ok-changes.ensures.changes old.content (shows_still old first old.content shows c.count_volume.ensures.reads) counted in
    let order = subst (λ n. IsInOrder n c.in_ok-changes.changes.items c.in_ok-changes-2.changes.items) (c.sectors.ensures ∙ reads.same.sectors ∙ shows.size) c.in_ok-changes-2.ensures.same in
    as_many_differ old.content c.in_ok-changes-2.changes.items c.in_ok-changes-2.ensures.once (still_right old.content c.in_ok-changes.changes.items c.in_ok-changes-2.changes.items order right.0)

pub returns-clause-bytes : goal.returns-clause-bytes
returns-clause-bytes g c tells bytes =
    let old : Space = g.V.SectorView.space c.args.view.now in
    let first : Space = g.V.SectorView.space c.count_volume.new.view in
    let second : Space = g.V.SectorView.space c.all_changes.new.view in
    let shows = shows_first old tells bytes (g.met.V.SectorView.well_formed c.args.view.now tells) in
    let reads = reads_both old first second c.count_volume.ensures.reads c.all_changes.ensures.reads in
    let counted = at_some c.in_ok-counts.field-0 c.in-Some.counts _ _ c.in-Some.is (c.in_ok-counts.ensures.found old.content shows) in
    let right = c.in_ok-changes.ensures.changes old.content (shows_still old first old.content shows c.count_volume.ensures.reads) counted in
    let order = subst (λ n. IsInOrder n c.in_ok-changes.changes.items c.in_ok-changes-2.changes.items) (c.sectors.ensures ∙ reads.same.sectors ∙ shows.size) c.in_ok-changes-2.ensures.same in
    bytes_still old.content c.in_ok-changes-2.changes.items bytes (λ change stands. (still_right old.content c.in_ok-changes.changes.items c.in_ok-changes-2.changes.items order right.0 change stands).are)

pub returns-clause-each : goal.returns-clause-each
returns-clause-each g c tells bytes at stands =
    let old : Space = g.V.SectorView.space c.args.view.now in
    let first : Space = g.V.SectorView.space c.count_volume.new.view in
    let second : Space = g.V.SectorView.space c.all_changes.new.view in
    let shows = shows_first old tells bytes (g.met.V.SectorView.well_formed c.args.view.now tells) in
    let reads = reads_both old first second c.count_volume.ensures.reads c.all_changes.ensures.reads in
    let counted = at_some c.in_ok-counts.field-0 c.in-Some.counts _ _ c.in-Some.is (c.in_ok-counts.ensures.found old.content shows) in
    let right = c.in_ok-changes.ensures.changes old.content (shows_still old first old.content shows c.count_volume.ensures.reads) counted in
    let order = subst (λ n. IsInOrder n c.in_ok-changes.changes.items c.in_ok-changes-2.changes.items) (c.sectors.ensures ∙ reads.same.sectors ∙ shows.size) c.in_ok-changes-2.ensures.same in
    change_differs old.content c.in_ok-changes-2.changes.items at (still_right old.content c.in_ok-changes.changes.items c.in_ok-changes-2.changes.items order right.0) stands

pub returns-in_default-clause-each : goal.returns-in_default-clause-each
returns-in_default-clause-each g c tells bytes at stands = absurd (no_places c.new.result.items at c.new.ensures.items stands)

pub returns-clause-inside : goal.returns-clause-inside
returns-clause-inside g c =
    let old : Space = g.V.SectorView.space c.args.view.now in
    let first : Space = g.V.SectorView.space c.count_volume.new.view in
    let second : Space = g.V.SectorView.space c.all_changes.new.view in
    let reads = reads_both old first second c.count_volume.ensures.reads c.all_changes.ensures.reads in
    places_inside old.sectors c.in_ok-changes-2.changes.items (λ change stands. subst (λ n. change.at < n) (c.sectors.ensures ∙ reads.same.sectors) (c.in_ok-changes-2.ensures.same.inside change stands))
