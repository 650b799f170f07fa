use Rattle.std.proofs.Common.{◌≡◌, ◌++◌, ◌∙◌, sym, ap, subst}
use Rattle.std.specs.Prelude.{IfSome}
use Rattle.hfs_language.specs.Text.{value_text}
use Rattle.line_source.specs.Batch.{has_newline}
use Rattle.line_source.proofs.Texts.{newline_in_head}
use Rattle.line_source.proofs.line.Line.has_newline.Goals as goal

pub returns-in-Some : goal.returns-in-Some
returns-in-Some c =
    let head = c.parts.result.0.now in
    let value = c.in-Some.field-0.now in
    let is : c.args.self.now ≡ head ++ value_text value = subst (λ found. IfSome found (λ it. c.args.self.now ≡ head ++ value_text it.now)) c.in-Some.is c.parts.ensures.value in
    c.has_newline-in-Some.ensures ∙ newline_in_head head value ∙ ap has_newline (sym is)
