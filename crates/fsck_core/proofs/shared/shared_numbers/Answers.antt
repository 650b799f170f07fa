use Rattle.std.proofs.Common.{◌==◌, ◌+◌, get_or, if◌then◌else◌, sym, ◌∙◌, ap, arith}
use Rattle.std.specs.List.{count_by}
use Rattle.std.proofs.lemmas.List.{take_all}
use Rattle.fsck_core.specs.declared.shared.SharedFile.{SharedFile}
use Rattle.fsck_core.proofs.NumberLaws.{times_push, counted_more}
use Rattle.fsck_core.proofs.shared.shared_numbers.Goals as goal

abbrev none : SharedFile
none = record { reference = 0; id = 0; links = 0 }

pub loop-file-preserved : goal.loop-file-preserved
loop-file-preserved c = record {
  same = λ number. times_push c.loop-file.numbers.items c.push.new.self.items (get_or c.args.files.now c.loop-file.file-index none).reference number c.in_ok-push.ensures.items
      ∙ ap (λ n. n + (if (get_or c.args.files.now c.loop-file.file-index none).reference == number then 1 else 0)) (c.loop-file.invariant.same number)
      ∙ sym (counted_more (λ (f : SharedFile). f.reference == number) c.args.files.now c.loop-file.file-index none c.loop-file-test.true);
}

pub returns-clause-same : goal.returns-clause-same
returns-clause-same c number =
    c.sort_numbers.ensures.same number ∙ c.loop-file.invariant.same number ∙ ap (count_by (λ (f : SharedFile). f.reference == number)) (take_all c.loop-file.file-index c.args.files.now (omega (arith, c.loop-file-test.false)))
