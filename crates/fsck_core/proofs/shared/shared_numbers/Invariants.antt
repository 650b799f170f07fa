use Rattle.std.proofs.Common.{◌≡◌, ◌==◌, ℕ, take}
use Rattle.std.specs.List.{count_by}
use Rattle.alloc_bitmap.specs.Apart.{times}
use Rattle.fsck_core.specs.declared.shared.SharedFile.{SharedFile}
use Rattle.fsck_core.proofs.shared.shared_numbers.Given as goal

abbrev pub invariant-loop-file : goal.invariant-loop-file
invariant-loop-file l = record {
  same : (number : ℕ) → times number l.numbers.items ≡ count_by (λ (f : SharedFile). f.reference == number) (take l.file-index l.files);
}
