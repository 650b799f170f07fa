-- The words that the program takes, as `clap` reads them.
use Rattle.std.specs.Prelude.{List, ℕ, true, codes}
use Rattle.clap.specs.Words.{App, Rule, new_app, new_rule, with_rule, with_subcommand}

-- a value that must be given
abbrev pub value : List ℕ → Rule
value name = record (new_rule name) { required = true }

-- a command with one value, and one with two
abbrev pub with_one : (name first : List ℕ) → App
with_one name first = with_rule (new_app name) (value first)

abbrev pub with_two : (name first second : List ℕ) → App
with_two name first second = with_rule (with_one name first) (value second)

-- the program, which has one of its commands
abbrev pub program : App
program = record (new_app (codes "hfsx")) { top = record ((new_app (codes "hfsx")).top) { no_binary_name = true; subcommand_required = true } }

-- the program with its commands
abbrev pub grammar : App
grammar = with_subcommand (with_subcommand (with_subcommand (with_subcommand (with_subcommand (with_subcommand program
    (with_two (codes "format") (codes "IMAGE") (codes "SECTORS")).top)
    (with_one (codes "run") (codes "IMAGE")).top)
    (with_one (codes "check") (codes "IMAGE")).top)
    (with_two (codes "gen") (codes "SEED") (codes "COUNT")).top)
    (with_one (codes "repair") (codes "IMAGE")).top)
    (with_one (codes "sessions") (codes "IMAGE")).top
