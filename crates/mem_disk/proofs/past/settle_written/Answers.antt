use Rattle.std.proofs.Common.{◌<◌, [], length, subst}
use Rattle.std.proofs.lemmas.List.{get_or_default}
use Rattle.mem_disk.proofs.past.settle_written.Goals as goal

pub keep_newest-requires : goal.keep_newest-requires
keep_newest-requires c =
    let at = c.deref.result.now.at in
    subst (λ l. 0 < length l) (get_or_default c.args.table.now at [] c.index-table-at.result c.if-at-table.true) (c.requires at c.if-at-table.true)
