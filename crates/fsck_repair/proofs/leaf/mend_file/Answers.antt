use Rattle.std.proofs.Common.{◌≡◌, true, false, ℕ, List, length, if◌then◌else◌, sym, ◌∙◌, ap, subst}
use Rattle.std.specs.List.Sorted.{IsNonDecreasing}
use Rattle.hx_bytes.specs.Field.{big, put_at}
use Rattle.hfs_volume.specs.Links.{is_shared_file, reference_of, links_to}
use Rattle.hfs_volume.specs.Records.{placed_of}
use Rattle.volume_repair.specs.Recount.{file_recounted}
use Rattle.fsck_repair.proofs.LeafLaws.{links_by}
use Rattle.fsck_core.proofs.ListJoins.{at_some}
use Rattle.fsck_repair.proofs.leaf.mend_file.Goals as goal

pub returns-clause-counted : goal.returns-clause-counted
returns-clause-counted c records are long =
    let placed = placed_of (c.args.key.now, c.args.value.now) in
    let shared = at_some c.in_ok-reference.field-0 c.in-Some.reference (is_shared_file records (reference_of placed) placed ≡ false) (λ reference. (is_shared_file records (reference_of placed) placed ≡ true) × (reference_of placed ≡ reference)) c.in-Some.is (c.in_ok-reference.ensures records are.private_is long) in
    let numbers = c.deref.ensures.value in
    let counted = links_by records c.args.entries.now.rows.items c.args.entries.now.links.items c.deref.result.now c.in-Some.reference c.count_number-count.result are.rows are.links numbers (c.count_number-count.ensures (subst IsNonDecreasing (sym numbers) are.order)) in
    c.write_be32.ensures
    ∙ ap (λ (b : List ℕ). put_at c.args.value.now 44 b) (c.low_word.ensures ∙ ap (λ n. big 4 n) (counted ∙ ap (λ n. length (links_to records n)) (sym shared.1)))
    ∙ sym (ap (λ b. if b then file_recounted records placed c.args.value.now else c.args.value.now) shared.0)
