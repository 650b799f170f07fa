use mir.Syntax.{w16}
use mir.Val.{to_z, of_z, SFits}
use Rattle.std.proofs.lemmas.Int.{to_z-of_z}
use Rattle.std.proofs.Common.{◌≡◌, ◌≤◌, ◌<◌, ◌^◌, ap, subst, sym, length, arith, ◌∙◌}
use Rattle.std.specs.Prelude.{[]}
use Rattle.std.specs.List.{AllByRecursion}
use Rattle.cat_records.specs.declared.record.CatRecord.TheVariants.{Thread}
use Rattle.cat_records.specs.declared.record.ThreadRecord.{ThreadRecord}
use Rattle.hfs_volume.specs.Changes.{Spells, thread_with}
use Rattle.hfs_volume.specs.Records.{Placed}
use Rattle.catalog.proofs.Keys.{thread_long}
use Rattle.catalog.proofs.pair.thread_pair.Goals as goal

pub record_pair-requires-clause-fits : goal.record_pair-requires-clause-fits
record_pair-requires-clause-fits c =
    record {
      spare = subst (SFits w16) (sym (to_z-of_z w16 c.args.spare c.ranges.spare)) c.ranges.spare;
      parent = c.ranges.parent.fits;
      long = omega (arith, c.requires, ap length c.in_ok-units.ensures);
      units = subst (λ l. AllByRecursion (λ unit. unit < 2 ^ 16) l) (c.as_slice.ensures ∙ sym c.in_ok-units.ensures) c.units_fit.ensures;
    }

pub returns-clause-long : goal.returns-clause-long
returns-clause-long c =
    let thread : ThreadRecord = record { of_file = c.is_file_record-of_file.result; spare = to_z w16 (of_z w16 c.args.spare); parent = c.args.parent; name = c.in_ok-units.units } in
    omega (arith, c.requires, thread_long thread, ap length c.in_ok-pair.ensures.value, ap length c.in_ok-units.ensures)

pub returns-clause-spells : goal.returns-clause-spells
returns-clause-spells c =
    let same : (record { parent = c.id_of-id.result; name = c.new.result; value = Thread (record { of_file = c.is_file_record-of_file.result; spare = to_z w16 (of_z w16 c.args.spare); parent = c.args.parent; name = c.in_ok-units.units }) })
    ≡ thread_with c.args.spare (record { parent = c.args.parent; name = c.args.name.now; value = c.args.rec.now }) =
    λ i. record { parent = c.id_of-id.ensures i; name = c.new.ensures i; value = Thread (record { of_file = c.is_file_record-of_file.ensures i; spare = to_z-of_z w16 c.args.spare c.ranges.spare i; parent = c.args.parent; name = c.in_ok-units.ensures i }) } in
    subst (λ placed. Spells placed (c.in_ok-pair.pair.key, c.in_ok-pair.pair.value)) same c.in_ok-pair.ensures.spells
