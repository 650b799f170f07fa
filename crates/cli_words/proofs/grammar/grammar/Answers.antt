use Rattle.std.proofs.Common.{◌≡◌, ◌∙◌, true, ap, ap₂}
use Rattle.std.proofs.lemmas.Result.{IfOk-weaker}
use Rattle.clap.specs.Words.{App, app_of, with_subcommand}
use Rattle.clap.specs.Simple.{app_of_fields}
use Rattle.cli_words.specs.Grammar.{program}
use Rattle.cli_words.proofs.grammar.grammar.Goals as goal

abbrev under : App → App → App
under top command = with_subcommand top command.top

pub returns : goal.returns
returns c =
    let start : app_of c.subcommand_required.result ≡ program = ap app_of_fields c.subcommand_required.ensures
    ∙ ap (λ f. app_of_fields (record f { subcommand_required = true })) c.no_binary_name.ensures
    ∙ ap (λ (a : App). record a { top = record a.top { no_binary_name = true; subcommand_required = true } }) c.new.ensures.app in
    let first = c.in_ok-subcommand.ensures.shape c.in_ok-with_two.ensures.local ∙ ap₂ under start c.in_ok-with_two.ensures.app in
    let second = c.in_ok-subcommand-2.ensures.shape c.in_ok-with_one.ensures.local ∙ ap₂ under first c.in_ok-with_one.ensures.app in
    let third = c.in_ok-subcommand-3.ensures.shape c.in_ok-with_one-2.ensures.local ∙ ap₂ under second c.in_ok-with_one-2.ensures.app in
    let fourth = c.in_ok-subcommand-4.ensures.shape c.in_ok-with_two-2.ensures.local ∙ ap₂ under third c.in_ok-with_two-2.ensures.app in
    let fifth = c.in_ok-subcommand-5.ensures.shape c.in_ok-with_one-3.ensures.local ∙ ap₂ under fourth c.in_ok-with_one-3.ensures.app in
    IfOk-weaker c.subcommand-6.result _ _ (λ r h. h.shape c.in_ok-with_one-4.ensures.local ∙ ap₂ under fifth c.in_ok-with_one-4.ensures.app) c.subcommand-6.ensures
