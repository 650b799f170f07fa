-- The lines on symbolic links and resource forks: a session's number, a space, and what it asks for.
use Rattle.std.specs.Prelude.{ℕ, ◌==◌, nat_lt, Bool, false, List, [], ◌∷◌, length, take, Option, Some, None, Result, Err, bytes_eq, codes, if◌then◌else◌}
use Rattle.std.specs.List.{list_any, slice_split}
use Rattle.std.specs.Str.{is_utf8}
use Rattle.hfs_language.specs.Language.{after, most_bytes, number_of, path_of, value_of}
use Rattle.hfs_language.specs.declared.refusal.Refusal.{Refusal}
use Rattle.hfs_language.specs.declared.refusal.Refusal.TheVariants.{TooLong, BadCommand}
use Rattle.hfs_model.specs.Step.{then_}
use Rattle.open_files.specs.Sessions.{Part, session_of}
use Rattle.link_kinds.specs.declared.kinds.KindCommand.{KindCommand}
use Rattle.link_kinds.specs.declared.kinds.KindCommand.TheVariants as command
use Rattle.hfs_model.specs.declared.kinds.KindEdit.TheVariants as edit
use Rattle.link_kinds.specs.declared.kinds.KindLine.{KindLine}

-- ---- which lines these are

-- the words with which such a part begins
abbrev pub kind_words : List (List ℕ)
kind_words = codes "symlink " ∷ codes "readlink " ∷ codes "follow " ∷ codes "rwrite " ∷ codes "rread " ∷ []

-- the part begins with this word
abbrev pub begins_as : List ℕ → List ℕ → Bool
begins_as part word = bytes_eq (take (length word) part) word

-- the part behind a session's number begins with one of these words; where there is no session it doesn't
abbrev pub is_kind_part : Option Part → Bool
is_kind_part None = false
is_kind_part (Some part) = list_any (begins_as part.rest) kind_words

-- A line is one on links or resource forks where, behind its session, it begins with one of their words and a space.
abbrev pub is_kind_line : List ℕ → Bool
is_kind_line line = is_kind_part (session_of line)

-- ---- what they ask for

-- a link with this target; a value that is none is refused before a path that is none
abbrev pub symlink_of : Result (List (List ℕ)) Refusal → Result (List ℕ) Refusal → Result KindCommand Refusal
symlink_of path value = then_ value (λ v. after (λ p. command.Edit (edit.Symlink p v)) path)

-- bytes for a resource fork; what is wrong with the offset comes first, then what is wrong with the value and the path
abbrev pub write_of : Result (List (List ℕ)) Refusal → Result ℕ Refusal → Result (List ℕ) Refusal → Result KindCommand Refusal
write_of path from value = then_ from (λ n. then_ value (λ v. after (λ p. command.Edit (edit.ResourceWrite p n v)) path))

-- bytes of a resource fork; what is wrong with a number comes before what is wrong with the path
abbrev pub read_of : Result (List (List ℕ)) Refusal → Result ℕ Refusal → Result ℕ Refusal → Result KindCommand Refusal
read_of path from long = then_ from (λ n. then_ long (λ m. after (λ p. command.Edit (edit.ResourceRead p n m)) path))

-- what words ask for
abbrev pub words_kind : List (List ℕ) → Result KindCommand Refusal
words_kind (verb ∷ one ∷ []) = if bytes_eq verb (codes "readlink") then after command.Readlink (path_of one)
    else if bytes_eq verb (codes "follow") then after command.Follow (path_of one)
    else Err BadCommand
words_kind (verb ∷ one ∷ two ∷ []) = if bytes_eq verb (codes "symlink") then symlink_of (path_of one) (value_of two)
    else Err BadCommand
words_kind (verb ∷ one ∷ two ∷ three ∷ []) = if bytes_eq verb (codes "rwrite") then write_of (path_of one) (number_of two) (value_of three)
    else if bytes_eq verb (codes "rread") then read_of (path_of one) (number_of two) (number_of three)
    else Err BadCommand
words_kind _ = Err BadCommand

-- what the part behind a session's number asks for
abbrev pub kind_of : List ℕ → Result KindCommand Refusal
kind_of part = if is_utf8 part then words_kind (slice_split (λ b. b == 32) part) else Err BadCommand

-- what is asked for behind the number of a session; without one it is no command
abbrev pub kind_in : Option Part → Result KindLine Refusal
kind_in None = Err BadCommand
kind_in (Some part) = after (λ command. record { session = part.session; command = command }) (kind_of part.rest)

-- What a line asks for, or the first reason why it asks for nothing. A line is too long with its session's number.
unfoldable pub kind_line_of : List ℕ → Result KindLine Refusal
kind_line_of line = if nat_lt most_bytes (length line) then Err TooLong else kind_in (session_of line)
