use Rattle.std.proofs.Common.{◌≡◌, false, true, Option, None, Some, List, ℕ, sym, ◌∙◌}
use Rattle.std.specs.Prelude.{MatchOption, is_some}
use Rattle.std.proofs.lemmas.Bool.{true≢false}
use Rattle.hfs_volume.specs.Links.{is_shared_file, reference_of}
use Rattle.hfs_volume.specs.Records.{placed_of}
use Rattle.fsck_repair.proofs.LeafLaws.{no_entry}
use Rattle.fsck_repair.proofs.RightLaws.{one_name}
use Rattle.fsck_repair.proofs.right.counts_something.Goals as goal

pub returns-then-is_record : goal.returns-then-is_record
returns-then-is_record c records private long is wrong = absurd (true≢false wrong)

pub returns-then-not-is_record : goal.returns-then-not-is_record
returns-then-not-is_record c records private long is none =
    sym (no_entry records c.args.key.now c.args.value.now c.is_record.result c.is_record-2.result is c.if-is_record.false c.if-not-is_record.true c.is_record.ensures c.is_record-2.ensures)

-- no number was found
none_found : (o : Option ℕ) (P : Type 0) (Q : ℕ → Type 0) → is_some o ≡ false → MatchOption o P Q → P
none_found None P Q none holds = holds
none_found (Some n) P Q none holds = absurd (true≢false none)

pub returns : goal.returns
returns c records private long is none =
    one_name records c.args.key.now c.args.value.now (c.is_record-2.ensures.0 c.if-not-is_record.false).1
    (none_found c.in_ok-reference.reference _ _ (sym c.is_some.ensures ∙ none) (c.in_ok-reference.ensures records private long))
