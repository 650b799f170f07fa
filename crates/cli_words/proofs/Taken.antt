-- `clap` takes the words that name a work.
use Rattle.std.proofs.Common.{◌≡◌, ◌∙◌, ◌&&◌, ap, decimal, ℕ, List, [], ◌∷◌, refl, true, false, codes, get_or}
use Rattle.clap.specs.Words.{takes}
use Rattle.clap.specs.Simple.{Shape, built, new_shape}
use Rattle.clap.specs.Takes.{level_passes}
use Rattle.clap.specs.Walk.{Text, nothing_held}
use Rattle.clap.proofs.OnLiterals.{clap_on_literals}
use Rattle.cli_words.specs.Grammar.{grammar}
use Rattle.cli_words.specs.Words.{AreWordsOf}
use Rattle.cli_words.specs.declared.named.Work.{Work}
use Rattle.cli_words.specs.declared.named.Work.TheVariants.{Check, Format, Gen, Repair, Run, Sessions, Wrong}
use Rattle.cli_words.proofs.Levels.{behind, one_passes, two_pass}
use Rattle.cli_words.proofs.Plain.{IsPlain, plain_name, plain_number}

-- the commands, as they are built
abbrev command : ℕ → Shape
command n = get_or (built grammar).subs n (new_shape [])

-- what `clap` asks of two words, and of three
asks_run : (image : Text) → takes grammar (codes "run" ∷ image ∷ []) ≡ (level_passes (command 1) [] nothing_held (image ∷ []) false && true)
unfolding clap_on_literals
asks_run image = refl

asks_check : (image : Text) → takes grammar (codes "check" ∷ image ∷ []) ≡ (level_passes (command 2) [] nothing_held (image ∷ []) false && true)
unfolding clap_on_literals
asks_check image = refl

asks_format : (image sectors : Text) → takes grammar (codes "format" ∷ image ∷ sectors ∷ []) ≡ (level_passes (command 0) [] nothing_held (image ∷ sectors ∷ []) false && true)
unfolding clap_on_literals
asks_format image sectors = refl

asks_gen : (seed count : Text) → takes grammar (codes "gen" ∷ seed ∷ count ∷ []) ≡ (level_passes (command 3) [] nothing_held (seed ∷ count ∷ []) false && true)
unfolding clap_on_literals
asks_gen seed count = refl

asks_repair : (image : Text) → takes grammar (codes "repair" ∷ image ∷ []) ≡ (level_passes (command 4) [] nothing_held (image ∷ []) false && true)
unfolding clap_on_literals
asks_repair image = refl

asks_sessions : (image : Text) → takes grammar (codes "sessions" ∷ image ∷ []) ≡ (level_passes (command 5) [] nothing_held (image ∷ []) false && true)
unfolding clap_on_literals
asks_sessions image = refl

-- `clap` takes them where they are plain
pub takes_run : (image : Text) → IsPlain image → takes grammar (codes "run" ∷ image ∷ []) ≡ true
takes_run image plain = asks_run image ∙ ap (λ b. b && true) (one_passes (command 1) image plain refl refl)

pub takes_check : (image : Text) → IsPlain image → takes grammar (codes "check" ∷ image ∷ []) ≡ true
takes_check image plain = asks_check image ∙ ap (λ b. b && true) (one_passes (command 2) image plain refl refl)

pub takes_repair : (image : Text) → IsPlain image → takes grammar (codes "repair" ∷ image ∷ []) ≡ true
takes_repair image plain = asks_repair image ∙ ap (λ b. b && true) (one_passes (command 4) image plain refl refl)

pub takes_sessions : (image : Text) → IsPlain image → takes grammar (codes "sessions" ∷ image ∷ []) ≡ true
takes_sessions image plain = asks_sessions image ∙ ap (λ b. b && true) (one_passes (command 5) image plain refl refl)

pub takes_format : (image sectors : Text) → IsPlain image → IsPlain sectors → takes grammar (codes "format" ∷ image ∷ sectors ∷ []) ≡ true
takes_format image sectors first second =
    asks_format image sectors ∙ ap (λ b. b && true) (two_pass (command 0) image sectors (behind (command 0) 1 nothing_held image).held first second refl refl refl refl)

pub takes_gen : (seed count : Text) → IsPlain seed → IsPlain count → takes grammar (codes "gen" ∷ seed ∷ count ∷ []) ≡ true
takes_gen seed count first second =
    asks_gen seed count ∙ ap (λ b. b && true) (two_pass (command 3) seed count (behind (command 3) 1 nothing_held seed).held first second refl refl refl refl)

-- Words that name a work are taken.
pub taken : (words : List Text) (work : Work) → AreWordsOf words work → (work ≡ Wrong → ⊥) → takes grammar words ≡ true
taken words (Format sectors) are other = ap (takes grammar) are.3 ∙ takes_format are.0 (decimal sectors) (plain_name are.0 are.1) (plain_number sectors are.2)
taken words Run are other = ap (takes grammar) are.2 ∙ takes_run are.0 (plain_name are.0 are.1)
taken words Check are other = ap (takes grammar) are.2 ∙ takes_check are.0 (plain_name are.0 are.1)
taken words Repair are other = ap (takes grammar) are.2 ∙ takes_repair are.0 (plain_name are.0 are.1)
taken words Sessions are other = ap (takes grammar) are.2 ∙ takes_sessions are.0 (plain_name are.0 are.1)
taken words (Gen seed count) are other = ap (takes grammar) are.2 ∙ takes_gen (decimal seed) (decimal count) (plain_number seed are.0) (plain_number count are.1)
taken words Wrong are other = absurd (other refl)
