use Rattle.std.proofs.Common.{ℕ, List, sym, ◌∙◌, ap, subst}
use Rattle.std.specs.List.Sorted.{IsNonDecreasingBy}
use Rattle.hx_bytes.specs.Field.{big, put_at}
use Rattle.hfs_volume.specs.Entries.{count_in}
use Rattle.hfs_volume.specs.Records.{entries_of}
use Rattle.fsck_core.specs.declared.rows.Row.{Row}
use Rattle.fsck_repair.proofs.LeafLaws.{entries_under}
use Rattle.fsck_repair.proofs.leaf.mend_folder.Goals as goal

pub returns-clause-counted : goal.returns-clause-counted
returns-clause-counted c records are =
    let rows = c.deref.ensures.value in
    let rising = subst (IsNonDecreasingBy (λ (r : Row). r.parent)) (sym rows) are.rising in
    c.write_be32.ensures
    ∙ ap (λ (b : List ℕ). put_at c.args.value.now 4 b)
    (c.low_word.ensures ∙ ap (λ n. big 4 n) (entries_under records c.deref.result.now c.read_be32.result c.count_under-count.result (rows ∙ are.rows) (c.count_under-count.ensures rising) ∙ ap (λ n. count_in (entries_of records) n) c.read_be32.ensures))
