use Rattle.std.proofs.Common.{◌≡◌, ◌∙◌, ap, true, rules}
use Rattle.clap.specs.Words.{App, app_of, takes}
use Rattle.cli_words.specs.Words.{texts}
use Rattle.cli_words.proofs.Taken.{taken}
use Rattle.cli_words.proofs.grammar.take_words.Goals as goal

pub returns-in_err-try_get_matches_from : goal.returns-in_err-try_get_matches_from
returns-in_err-try_get_matches_from c =
    let words = texts c.args.words.now in
    let taken_here : takes (app_of c.in_ok-command.command) words ≡ true = ap (λ (a : App). takes a words) c.in_ok-command.ensures ∙ taken words c.args.work c.requires.named c.requires.one in
    let kind = c.in_err-try_get_matches_from.ensures.passes taken_here in
    search (rules, kind)
