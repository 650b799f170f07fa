use Rattle.std.proofs.Common.{◌≡◌, ◌++◌, [], Err, ⊎_elim, refl, sym, ◌∙◌, ap, subst}
use Rattle.std.proofs.lemmas.List.{append_cancel_right}
use Rattle.std.proofs.lemmas.Result.{err_from_is_err_and}
use Rattle.sector_disk.specs.Source.{Stream}
use Rattle.hfs_language.specs.Lines.{HasNoNewline}
use Rattle.line_source.proofs.Adding.{newline_there}
use Rattle.hfs_serving.proofs.Finals.{source_is}
use Rattle.hfs_serving.proofs.Pending.{no_items}
use Rattle.hfs_serving.proofs.taking.take_lines.Goals.{then-is_empty-via-then-is_empty, then-is_empty-via-else-is_empty+then-has_line}
use Rattle.hfs_serving.proofs.taking.take_lines.Goals as goal

pub returns-in_err-read_lines-clause-begun : goal.returns-in_err-read_lines-clause-begun
returns-in_err-read_lines-clause-begun g c told is =
    let p = err_from_is_err_and c.from_residual.result c.from_residual.ensures.1 in
    let e_is = source_is c.in_err-read_lines.field-0.0 p.0 c.from_residual.result p.1 p.2 is in
    let there = c.in_err-read_lines.ensures.begun told (ap Err e_is) in
    let input = c.args.input.now in
    let source = g.S.Source.stream c.args.source.now in
    let pending = c.args.pending.now.items in
    let none : pending ≡ [] = elim c.then-is_empty.branch [
      | then-is_empty-via-then-is_empty w ↦ no_items pending c.args.pending.now.len c.is_empty.result c.args.pending.now.ok.0 c.is_empty.ensures w.if-is_empty.true
      | then-is_empty-via-else-is_empty+then-has_line w ↦
          ⊎_elim
          (λ same.
          let begun : there.0 ≡ input = append_cancel_right there.0 input source.left (sym (there.2 ∙ ap (λ (s : Stream). there.0 ++ s.left) same)) in
          absurd (newline_there input (sym w.has_line.ensures ∙ w.if-has_line.true) (subst HasNoNewline begun there.1)))
          (λ none. none.0) (c.in_err-read_lines.ensures.needed told)
    ] in
    (none, there.0, there.1, there.2)

pub returns-else-has_line-clause-gone : goal.returns-else-has_line-clause-gone
returns-else-has_line-clause-gone g c told = (c.args.input.now, refl)
