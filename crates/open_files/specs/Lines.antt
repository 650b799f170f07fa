-- The lines of sessions: a session's number, a space, and what it asks for.
use Rattle.std.specs.Prelude.{ℕ, ◌^◌, ◌==◌, nat_lt, List, [], ◌∷◌, ◌++◌, length, Option, Some, None, Result, Ok, Err, bytes_eq, codes, if◌then◌else◌}
use Rattle.std.specs.List.{slice_split}
use Rattle.std.specs.Str.{is_utf8}
use Rattle.cmd_lang.specs.Numbers.{small_number_of}
use Rattle.hfs_language.specs.Language.{after, command_of, most_bytes, number_of, path_of}
use Rattle.hfs_language.specs.Text.{field, name_text, reply_text}
use Rattle.hfs_language.specs.Written.{path_text}
use Rattle.hfs_model.specs.Step.{then_}
use Rattle.hfs_language.specs.declared.refusal.Refusal.{Refusal}
use Rattle.hfs_language.specs.declared.refusal.Refusal.TheVariants.{TooLong, BadCommand}
use Rattle.open_files.specs.declared.act.Act.{Act}
use Rattle.open_files.specs.declared.act.SessionLine.{SessionLine}
use Rattle.open_files.specs.declared.act.Act.TheVariants.{Plain, Open, HandleRead, Close, End}
use Rattle.open_files.specs.declared.act.SessionReply.{SessionReply}
use Rattle.open_files.specs.declared.act.SessionReply.TheVariants as told
use Rattle.open_files.specs.Sessions.{Part, session_of}

-- ---- what it asks for

-- a handle is a number below 2 ^ 32
abbrev pub handle_of : List ℕ → Result ℕ Refusal
handle_of word = small_number_of word

-- a command of the plain language
abbrev pub plain_act : List ℕ → Result Act Refusal
plain_act part = after Plain (command_of part)

-- so many bytes of a handle's file, from an offset on
abbrev pub read_act : Result ℕ Refusal → Result ℕ Refusal → Result ℕ Refusal → Result Act Refusal
read_act handle from long = then_ handle (λ h. then_ from (λ at. after (λ n. HandleRead h at n) long))

-- what words ask for; other words are those of a command
abbrev pub words_act : List ℕ → List (List ℕ) → Result Act Refusal
words_act part (verb ∷ []) = if bytes_eq verb (codes "end") then Ok End else plain_act part
words_act part (verb ∷ one ∷ []) = if bytes_eq verb (codes "open") then after Open (path_of one)
    else if bytes_eq verb (codes "close") then after Close (handle_of one)
    else plain_act part
words_act part (verb ∷ one ∷ two ∷ three ∷ []) = if bytes_eq verb (codes "hread") then read_act (handle_of one) (number_of two) (number_of three)
    else plain_act part
words_act part _ = plain_act part

-- what the part behind a session's number asks for
abbrev pub act_of : List ℕ → Result Act Refusal
act_of part = if is_utf8 part then words_act part (slice_split (λ b. b == 32) part) else Err BadCommand

-- what is asked for behind the number of a session; without one it is no command
abbrev pub asks_in : Option Part → Result SessionLine Refusal
asks_in None = Err BadCommand
asks_in (Some part) = after (λ act. record { session = part.session; act = act }) (act_of part.rest)

-- What a line of a session asks for, or the first reason why it asks for nothing. A line that is too long counts its session's number too.
unfoldable pub asks_of : List ℕ → Result SessionLine Refusal
asks_of line = if nat_lt most_bytes (length line) then Err TooLong else asks_in (session_of line)

-- ---- what it is told

-- a name of a path, with its slash before it
abbrev pub slashed : List ℕ → List ℕ
slashed name = 47 ∷ name_text name

-- a reply as one line, with its newline
unfoldable pub session_text : SessionReply → List ℕ
session_text (told.Plain reply) = reply_text reply
session_text (told.Opened handle) = codes "ok" ++ field handle ++ 10 ∷ []
session_text told.TooManyOpen = codes "no TooManyOpen 256" ++ 10 ∷ []
session_text (told.NoHandle handle) = codes "no NoHandle" ++ field handle ++ 10 ∷ []
session_text (told.Followed path) = codes "ok " ++ path_text path ++ 10 ∷ []
session_text (told.TooManySteps most) = codes "no TooManySteps" ++ field most ++ 10 ∷ []
session_text told.NotLink = codes "no NotLink" ++ 10 ∷ []
session_text told.Compressed = codes "no Compressed" ++ 10 ∷ []
