-- The line of a command is read to it.
use Rattle.std.proofs.Common.{◌≡◌, ℕ, zero, suc, ◌+◌, ◌/◌, ◌%◌, ◌<◌, ◌^◌, Bool, true, false, ◌==◌, ◌&&◌, nat_lt, List, [], ◌∷◌, ◌++◌, length, map, flat_map, Ok, bytes_eq, codes, decimal, IsUtf8, IsAscii, refl, ap, ◌∙◌, arith}
use Rattle.std.specs.List.{list_all, list_any, join_with_byte}
use Rattle.std.specs.Fmt.{digit_glyph}
use Rattle.std.specs.Str.Parse.{digits_value}
use Rattle.std.specs.Char.{digit_value}
use Rattle.std.specs.Cmp.Lexicographic.{bytes_decides}
use Rattle.std.proofs.lemmas.Bool.{cond-true, cond-false, cond_both, and_parts, or_from, false_from_ne_true}
use Rattle.std.proofs.lemmas.Bool.Decides.{nat_tests}
use Rattle.std.proofs.lemmas.List.Folds.{list_all-append, list_any-append}
use Rattle.std.proofs.lemmas.Str.{IsUtf8-append, IsUtf8-nil, IsUtf8-from_ascii, chars-encodes, is_utf8-from_IsUtf8}
use Rattle.name_text.specs.Laws.{AreUnits}
use Rattle.name_text.specs.Printing.{is_clear, component_text}
use Rattle.name_text.specs.Reading.{component}
use Rattle.name_text.proofs.Clear.{all_clear, clear_name, no_slash}
use Rattle.name_text.proofs.RoundTrip.{name_some, read_printed}
use Rattle.name_text.proofs.Scalars.{name_scalar}
use Rattle.hfs_language.specs.declared.command.Command.{Command}
use Rattle.hfs_language.specs.declared.command.Command.TheVariants.{Mkdir, Create, Rm, Rmdir, Mv, Ln, Write, Read, Trunc, Ls, Stat, Chmod, SetAttr, GetAttr, DelAttr, LsAttr, At, Df, Sync}
use Rattle.hfs_language.specs.Language.{is_octal, named, name_of, attribute_of, limited, mode_of, path_of}
use Rattle.hfs_language.specs.Text.{is_plain, byte_text, name_text, mode_text, value_text}
use Rattle.hfs_language.specs.Spelling.{AreWords, SpellsCommand, SpellNames}
use Rattle.hfs_language.specs.Written.{path_text, command_words, command_text, IsName, FitsPath, FitsCommand, IsReadBack}
use Rattle.hfs_language.proofs.Paths.{path_as_spelled}
use Rattle.hfs_language.proofs.Spelled.{read_as_spelled}
use Rattle.hfs_language.proofs.Values.{value_back}
use Rattle.hfs_language.proofs.Words.{is_digit, decimal_digits}

-- ---- words

-- a word has no space and is UTF-8
pub record IsWord (word : List ℕ) : Type 0 where
  pub no_space : list_any (λ b. b == 32) word ≡ false
  pub text : IsUtf8 word

-- bytes of printable ASCII, without the space
abbrev is_visible : ℕ → Bool
is_visible b = nat_lt 32 b && nat_lt b 127

abbrev visible : List ℕ → Bool
visible = list_all is_visible

no_space_visible : (bs : List ℕ) → visible bs ≡ true → list_any (λ b. b == 32) bs ≡ false
no_space_visible [] are = refl
no_space_visible (b ∷ bs) are =
    let parts : (is_visible b ≡ true) × (visible bs ≡ true) = and_parts _ _ are in
    let other : (b == 32) ≡ false = grind (arith, nat_tests) in
    rw (other, no_space_visible bs parts.1) refl

ascii_visible : (bs : List ℕ) → visible bs ≡ true → IsAscii bs
ascii_visible [] are k = omega arith
ascii_visible (b ∷ bs) are zero = let parts : (is_visible b ≡ true) × (visible bs ≡ true) = and_parts _ _ are in grind (arith, nat_tests)
ascii_visible (b ∷ bs) are (suc k) = let parts : (is_visible b ≡ true) × (visible bs ≡ true) = and_parts _ _ are in ascii_visible bs parts.1 k

visible_word : (bs : List ℕ) → visible bs ≡ true → IsWord bs
visible_word bs are = record { no_space = no_space_visible bs are; text = IsUtf8-from_ascii bs (ascii_visible bs are) }

visible_both : (xs ys : List ℕ) → visible xs ≡ true → visible ys ≡ true → visible (xs ++ ys) ≡ true
visible_both xs ys hx hy = list_all-append is_visible xs ys ∙ rw (hx, hy) refl

-- ---- numbers, modes and values

visible_digits : (bs : List ℕ) → list_all is_digit bs ≡ true → visible bs ≡ true
visible_digits [] are = refl
visible_digits (b ∷ bs) are =
    let parts : (is_digit b ≡ true) × (list_all is_digit bs ≡ true) = and_parts _ _ are in
    let one : is_visible b ≡ true = grind (arith, nat_tests) in
    rw (one, visible_digits bs parts.1) refl

number_word : (n : ℕ) → IsWord (decimal n)
number_word n = visible_word (decimal n) (visible_digits (decimal n) (decimal_digits n))

octal_visible : (d : ℕ) → d < 8 → is_visible (48 + d) ≡ true
octal_visible d small = grind (arith, nat_tests)

mode_word : (mode : ℕ) → IsWord (mode_text mode)
mode_word mode = visible_word (mode_text mode) (rw (octal_visible (mode / 512 % 8) (omega arith), octal_visible (mode / 64 % 8) (omega arith), octal_visible (mode / 8 % 8) (omega arith), octal_visible (mode % 8) (omega arith)) refl)

octal_digit : (d : ℕ) → d < 8 → is_octal (48 + d) ≡ true
octal_digit d small = grind (arith, nat_tests)

octal_value : (d : ℕ) → d < 8 → digit_value (48 + d) ≡ d
octal_value d small = grind (arith, nat_tests)

mode_value : (mode : ℕ) → mode < 2 ^ 12 → digits_value 8 (mode_text mode) ≡ mode
mode_value mode small =
    rw (octal_value (mode / 512 % 8) (omega arith), octal_value (mode / 64 % 8) (omega arith), octal_value (mode / 8 % 8) (omega arith), octal_value (mode % 8) (omega arith)) (omega arith)

mode_back : (mode : ℕ) → mode < 2 ^ 12 → mode_of (mode_text mode) ≡ Ok mode
unfolding mode_of
mode_back mode small =
    let octal : list_all is_octal (mode_text mode) ≡ true = rw (octal_digit (mode / 512 % 8) (omega arith), octal_digit (mode / 64 % 8) (omega arith), octal_digit (mode / 8 % 8) (omega arith), octal_digit (mode % 8) (omega arith)) refl in
    cond-true _ _ _ octal ∙ ap Ok (mode_value mode small)

glyph_visible : (d : ℕ) → d < 16 → is_visible (digit_glyph true d) ≡ true
glyph_visible d small = grind (arith, nat_tests)

byte_visible : (b : ℕ) → visible (byte_text b) ≡ true
byte_visible b =
    cond_both (is_plain b) (b ∷ []) (37 ∷ digit_glyph true (b / 16 % 16) ∷ digit_glyph true (b % 16) ∷ []) (λ x. visible x ≡ true)
    (λ plain. let one : is_visible b ≡ true = grind (arith, nat_tests) in rw one refl)
    (λ _. rw (glyph_visible (b / 16 % 16) (omega arith), glyph_visible (b % 16) (omega arith)) refl)

bytes_visible : (value : List ℕ) → visible (flat_map byte_text value) ≡ true
bytes_visible [] = refl
bytes_visible (b ∷ value) = visible_both (byte_text b) (flat_map byte_text value) (byte_visible b) (bytes_visible value)

value_word : (value : List ℕ) → IsWord (value_text value)
value_word value = visible_word (value_text value) (bytes_visible value)

-- ---- names and paths

no_space_clear : (bs : List ℕ) → all_clear bs ≡ true → list_any (λ b. b == 32) bs ≡ false
no_space_clear [] are = refl
no_space_clear (b ∷ bs) are =
    let parts : (is_clear b ≡ true) × (all_clear bs ≡ true) = and_parts _ _ are in
    let other : (b == 32) ≡ false = grind (arith, nat_tests) in
    rw (other, no_space_clear bs parts.1) refl

name_word : (name : List ℕ) → AreUnits name → IsWord (name_text name)
name_word name are = record { no_space = no_space_clear (name_text name) (clear_name name are); text = (component_text name, (name_scalar name are, refl)) }

name_back : (name : List ℕ) → IsName 255 name → name_of (name_text name) ≡ Ok name
unfolding name_of
name_back name is = ap (λ x. named (component x)) (chars-encodes (component_text name) (name_scalar name is.units)) ∙ ap named (read_printed name is.some is.short is.units)

attribute_back : (name : List ℕ) → IsName 127 name → attribute_of (name_text name) ≡ Ok name
unfolding attribute_of
attribute_back name is =
    let some = name_some name is.some is.units in
    let other : bytes_eq (name_text name) [] ≡ false = false_from_ne_true _ (λ e. let none : length (name_text name) ≡ 0 = ap length ((bytes_decides (name_text name) []).0 e) in omega arith) in
    let reads = name_back name (record { some = is.some; short = omega (arith, is.short); units = is.units }) in
    let fits : nat_lt 127 (length name) ≡ false = grind (arith, nat_tests, is.short) in
    cond-false _ _ _ other ∙ ap limited reads ∙ cond-false _ _ _ fits

names_spelled : (path : List (List ℕ)) → FitsPath path → SpellNames (map name_text path) path
names_spelled [] is = tt
names_spelled (name ∷ path) is =
    (record { some = name_some name is.0.some is.0.units; no_slash = no_slash (name_text name) (clear_name name is.0.units); reads = name_back name is.0 }, names_spelled path is.1)

path_back : (path : List (List ℕ)) → FitsPath path → path_of (path_text path) ≡ Ok path
path_back path is = (path_as_spelled (path_text path) path).1 (map name_text path, names_spelled path is, refl)

-- ---- words in a row

both_words : (xs ys : List ℕ) → IsWord xs → IsWord ys → IsWord (xs ++ ys)
both_words xs ys hx hy = record {
  no_space = list_any-append (λ b. b == 32) xs ys ∙ or_from _ _ hx.no_space hy.no_space;
  text = IsUtf8-append xs ys hx.text hy.text;
}

joined_names : (path : List (List ℕ)) → FitsPath path → IsWord (join_with_byte 47 (map name_text path))
joined_names [] is = record { no_space = refl; text = IsUtf8-nil }
joined_names (name ∷ []) is = name_word name is.0.units
joined_names (name ∷ next ∷ path) is =
    both_words (name_text name) (47 ∷ join_with_byte 47 (map name_text (next ∷ path))) (name_word name is.0.units)
    (both_words (47 ∷ []) (join_with_byte 47 (map name_text (next ∷ path))) (visible_word (47 ∷ []) refl) (joined_names (next ∷ path) is.1))

path_word : (path : List (List ℕ)) → FitsPath path → IsWord (path_text path)
path_word path is = both_words (47 ∷ []) (join_with_byte 47 (map name_text path)) (visible_word (47 ∷ []) refl) (joined_names path is)

abbrev EachWord : List (List ℕ) → Type 0
EachWord [] = Unit {0}
EachWord (word ∷ words) = IsWord word × EachWord words

are_words : (words : List (List ℕ)) → EachWord words → AreWords words
are_words [] each = tt
are_words (word ∷ words) each = (each.0.no_space, are_words words each.1)

space_ascii : IsAscii (32 ∷ [])
space_ascii zero = omega arith
space_ascii (suc k) = omega arith

space_text : IsUtf8 (32 ∷ [])
space_text = IsUtf8-from_ascii (32 ∷ []) space_ascii

joined_text : (words : List (List ℕ)) → EachWord words → IsUtf8 (join_with_byte 32 words)
joined_text [] each = IsUtf8-nil
joined_text (word ∷ []) each = each.0.text
joined_text (word ∷ next ∷ words) each =
    IsUtf8-append word (32 ∷ join_with_byte 32 (next ∷ words)) each.0.text
    (IsUtf8-append (32 ∷ []) (join_with_byte 32 (next ∷ words)) space_text (joined_text (next ∷ words) each.1))

-- ---- commands

each_word : (c : Command) → FitsCommand c → EachWord (command_words c)
each_word (Mkdir p) fits = (visible_word (codes "mkdir") refl, (path_word p fits, tt))
each_word (Create p) fits = (visible_word (codes "create") refl, (path_word p fits, tt))
each_word (Rm p) fits = (visible_word (codes "rm") refl, (path_word p fits, tt))
each_word (Rmdir p) fits = (visible_word (codes "rmdir") refl, (path_word p fits, tt))
each_word (Mv p q) fits = (visible_word (codes "mv") refl, (path_word p fits.0, (path_word q fits.1, tt)))
each_word (Ln p q) fits = (visible_word (codes "ln") refl, (path_word p fits.0, (path_word q fits.1, tt)))
each_word (Write p n v) fits = (visible_word (codes "write") refl, (path_word p fits.0, (number_word n, (value_word v, tt))))
each_word (Read p n m) fits = (visible_word (codes "read") refl, (path_word p fits.0, (number_word n, (number_word m, tt))))
each_word (Trunc p n) fits = (visible_word (codes "trunc") refl, (path_word p fits.0, (number_word n, tt)))
each_word (Ls p) fits = (visible_word (codes "ls") refl, (path_word p fits, tt))
each_word (Stat p) fits = (visible_word (codes "stat") refl, (path_word p fits, tt))
each_word (Chmod p o) fits = (visible_word (codes "chmod") refl, (path_word p fits.0, (mode_word o, tt)))
each_word (SetAttr p a v) fits = (visible_word (codes "setattr") refl, (path_word p fits.0, (name_word a fits.1.units, (value_word v, tt))))
each_word (GetAttr p a) fits = (visible_word (codes "getattr") refl, (path_word p fits.0, (name_word a fits.1.units, tt)))
each_word (DelAttr p a) fits = (visible_word (codes "delattr") refl, (path_word p fits.0, (name_word a fits.1.units, tt)))
each_word (LsAttr p) fits = (visible_word (codes "lsattr") refl, (path_word p fits, tt))
each_word (At t) fits = (visible_word (codes "at") refl, (number_word t, tt))
each_word Df fits = (visible_word (codes "df") refl, tt)
each_word Sync fits = (visible_word (codes "sync") refl, tt)

is_spelled : (c : Command) → FitsCommand c → SpellsCommand c (command_words c)
is_spelled (Mkdir p) fits = (path_text p, path_back p fits, refl)
is_spelled (Create p) fits = (path_text p, path_back p fits, refl)
is_spelled (Rm p) fits = (path_text p, path_back p fits, refl)
is_spelled (Rmdir p) fits = (path_text p, path_back p fits, refl)
is_spelled (Mv p q) fits = (path_text p, path_text q, path_back p fits.0, path_back q fits.1, refl)
is_spelled (Ln p q) fits = (path_text p, path_text q, path_back p fits.0, path_back q fits.1, refl)
is_spelled (Write p n v) fits = (path_text p, decimal n, value_text v, path_back p fits.0, (refl, fits.1), value_back v (λ k. fits.2 k), refl)
is_spelled (Read p n m) fits = (path_text p, decimal n, decimal m, path_back p fits.0, (refl, fits.1), (refl, fits.2), refl)
is_spelled (Trunc p n) fits = (path_text p, decimal n, path_back p fits.0, (refl, fits.1), refl)
is_spelled (Ls p) fits = (path_text p, path_back p fits, refl)
is_spelled (Stat p) fits = (path_text p, path_back p fits, refl)
is_spelled (Chmod p o) fits = (path_text p, mode_text o, path_back p fits.0, mode_back o fits.1, refl)
is_spelled (SetAttr p a v) fits = (path_text p, name_text a, value_text v, path_back p fits.0, attribute_back a fits.1, value_back v (λ k. fits.2 k), refl)
is_spelled (GetAttr p a) fits = (path_text p, name_text a, path_back p fits.0, attribute_back a fits.1, refl)
is_spelled (DelAttr p a) fits = (path_text p, name_text a, path_back p fits.0, attribute_back a fits.1, refl)
is_spelled (LsAttr p) fits = (path_text p, path_back p fits, refl)
is_spelled (At t) fits = (decimal t, (refl, omega (arith, fits)), fits, refl)
is_spelled Df fits = refl
is_spelled Sync fits = refl

pub command_back : (c : Command) → IsReadBack c
command_back c fits short =
    (read_as_spelled (command_text c) c).1 (record {
      short = short;
      text = is_utf8-from_IsUtf8 (command_text c) (joined_text (command_words c) (each_word c fits));
      words = (command_words c, are_words (command_words c) (each_word c fits), refl, is_spelled c fits);
    })
