use Rattle.std.proofs.Common.{◌≡◌, ◌++◌, subst}
use Rattle.std.specs.Prelude.{IfSome}
use Rattle.hfs_language.specs.Text.{value_text}
use Rattle.hfs_serving.proofs.Syncs.{valued_is_no_sync}
use Rattle.hfs_serving.proofs.lines.is_sync.Goals as goal

pub returns-in-Some : goal.returns-in-Some
returns-in-Some c =
    let head = c.parts.result.0.now in
    let value = c.in-Some.field-0.now in
    let is : c.args.line.now ≡ head ++ value_text value = subst (λ found. IfSome found (λ it. c.args.line.now ≡ head ++ value_text it.now)) c.in-Some.is c.parts.ensures.value in
    valued_is_no_sync c.args.line.now head value is
