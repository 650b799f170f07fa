-- A command whose words are values takes them.
use Rattle.std.proofs.Common.{◌≡◌, ◌∙◌, ◌&&◌, ◌||◌, ℕ, Bool, List, Option, None, [], ◌∷◌, ap, ap₂, refl, true, false, if◌then◌else◌}
use Rattle.std.specs.List.{list_all}
use Rattle.std.specs.Option.{option_map_or}
use Rattle.clap.specs.Lexer.{long_of}
use Rattle.clap.specs.Simple.{Shape}
use Rattle.clap.specs.Takes.{bundle_passes, default_passes, flag_word_passes, is_valid, level_passes, other_passes, settle_passes, step_passes, turn_passes, walk_passes}
use Rattle.clap.specs.Walk.{Held, Rule, after_step, Step, Text, Walk, arg_by_index, finished, idle, long_or_other, nothing_held, short_or_plain, subcommand_or_other, to_positional, trailing, value, walked}
use Rattle.cli_words.proofs.Plain.{IsPlain}

-- the walk stands before the value at this place
abbrev pub at_value : ℕ → Held → Walk
at_value position h = record { held = h; waiting = idle; position = position; is_trailing = false; stopped = None }

-- the walk behind it
abbrev pub behind : Shape → ℕ → Held → Text → Walk
behind s position h word = to_positional s.rules (arg_by_index s.rules position) word (at_value position h) h

both : (a b : Bool) → a ≡ true → b ≡ true → (a && b) ≡ true
both a b e f = ap₂ (λ x y. x && y) e f

met : (c : List Rule) (position : ℕ) (word : Text) (h : Held) → IsPlain word → subcommand_or_other c None idle position word h ≡ (h, value)
met c position word h plain =
    ap (λ (b : Bool). if b then (h, trailing position) else long_or_other c idle word (long_of word) h) plain.no_dashes
    ∙ ap (λ (o : Option (Text × Option Text)). long_or_other c idle word o h) plain.no_long ∙ ap (λ (o : Option Text). short_or_plain c idle word o h) plain.no_short

passes : (s : Shape) (word : Text) (h : Held) → IsPlain word → other_passes s None word h ≡ true
passes s word h plain =
    ap (λ (b : Bool). b || flag_word_passes s.rules s.args_override_self (long_of word) word h) plain.no_dashes
    ∙ ap (λ (o : Option (Text × Option Text)). flag_word_passes s.rules s.args_override_self o word h) plain.no_long
    ∙ ap (λ (o : Option Text). option_map_or (λ flags. bundle_passes s.rules s.args_override_self flags h) o true) plain.no_short

walks : (s : Shape) (position : ℕ) (h : Held) (word : Text) → IsPlain word → walked s.rules [] (at_value position h) word ≡ behind s position h word
unfolding walked
walks s position h word plain = ap (λ (m : Held × Step). after_step s.rules word (at_value position h) m.0 m.1) (met s.rules position word h plain)

turns : (s : Shape) (position : ℕ) (h : Held) (word : Text) → IsPlain word → step_passes s position h value ≡ true → turn_passes s [] (at_value position h) word ≡ true
turns s position h word plain step =
    both _ _ (passes s word h plain) (ap (λ (m : Held × Step). step_passes s position m.0 m.1) (met s.rules position word h plain) ∙ step)

-- what is asked behind the words
abbrev pub ends : Shape → Held → Bool
ends s h = settle_passes s.rules s.args_override_self h && (list_all default_passes s.rules && is_valid s (finished s.rules h) false)

-- one word
pub one_passes : (s : Shape) (word : Text) → IsPlain word → step_passes s 1 nothing_held value ≡ true → ends s (behind s 1 nothing_held word).held ≡ true → level_passes s [] nothing_held (word ∷ []) false ≡ true
unfolding walk_passes
one_passes s word plain step end =
    both _ _ (both _ _ (turns s 1 nothing_held word plain step) refl) (ap (λ (w : Walk). ends s w.held) (walks s 1 nothing_held word plain) ∙ end)

-- two words
pub two_pass : (s : Shape) (first second : Text) (h : Held) → IsPlain first → IsPlain second → step_passes s 1 nothing_held value ≡ true
    → behind s 1 nothing_held first ≡ at_value 2 h → step_passes s 2 h value ≡ true → ends s (behind s 2 h second).held ≡ true
    → level_passes s [] nothing_held (first ∷ second ∷ []) false ≡ true
unfolding walk_passes
two_pass s first second h one two step middle next end =
    let here = walks s 1 nothing_held first one ∙ middle in
    let there = ap (λ (w : Walk). walked s.rules [] w second) here ∙ walks s 2 h second two in
    both _ _
    (both _ _ (turns s 1 nothing_held first one step) (ap (λ (w : Walk). turn_passes s [] w second && true) here ∙ both _ _ (turns s 2 h second two next) refl))
    (ap (λ (w : Walk). ends s w.held) there ∙ end)
