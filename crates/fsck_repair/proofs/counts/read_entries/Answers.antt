use Rattle.std.proofs.Common.{List, ◌∙◌, ap}
use Rattle.fsck_core.specs.Links.{link_count}
use Rattle.fsck_core.specs.declared.rows.Row.{Row}
use Rattle.fsck_core.proofs.JudgingLaws.{rows_rise}
use Rattle.fsck_core.proofs.ListJoins.{long_keys}
use Rattle.fsck_repair.proofs.counts.read_entries.Goals as goal

pub returns : goal.returns
returns c keys sorted =
    let are = c.in_ok-rows.ensures (long_keys c.args.catalog.now keys) in
    record {
      rows = are;
      rising = rows_rise c.args.catalog.now keys sorted c.in_ok-rows.rows.items are;
      order = c.in_ok-links.ensures.order;
      links = λ number. c.in_ok-links.ensures.same number ∙ ap (λ (l : List Row). link_count l number) c.deref.ensures.value;
      private_is = c.in_ok-private.ensures (long_keys c.args.catalog.now keys);
    }
