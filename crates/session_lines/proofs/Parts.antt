-- What a line asks for has names and numbers within their limits.
use Rattle.std.proofs.Common.{◌≡◌, ◌∷◌, [], ℕ, Bool, List, true, false, length, refl, sym, ap, subst}
use Rattle.std.specs.Prelude.{◌==◌, Option, Some, None, Result, Ok, Err, if◌then◌else◌, nat_lt, codes, bytes_eq}
use Rattle.std.specs.List.{slice_split}
use Rattle.std.specs.Str.{is_utf8}
use Rattle.hfs_language.specs.Language.{after, command_of, most_bytes, number_of, path_of, value_of}
use Rattle.hfs_language.specs.declared.command.Command.{Command}
use Rattle.hfs_language.specs.declared.refusal.Refusal.{Refusal}
use Rattle.hfs_language.specs.declared.refusal.Refusal.TheVariants as refusal
use Rattle.hfs_serving.proofs.Spelled.{path, spelled_parts}
use Rattle.hfs_model.specs.declared.kinds.KindEdit.TheVariants as edit
use Rattle.hfs_serving.specs.Parts.{HasNames}
use Rattle.link_kinds.specs.declared.kinds.KindCommand.{KindCommand}
use Rattle.link_kinds.specs.declared.kinds.KindCommand.TheVariants as kind
use Rattle.link_kinds.specs.declared.kinds.KindLine.{KindLine}
use Rattle.link_kinds.specs.Lines.{kind_in, kind_line_of, kind_of, read_of, symlink_of, words_kind, write_of}
use Rattle.open_files.specs.Lines.{act_of, asks_in, asks_of, handle_of, plain_act, read_act, words_act}
use Rattle.open_files.specs.Sessions.{Part, session_of}
use Rattle.open_files.specs.declared.act.Act.{Act}
use Rattle.open_files.specs.declared.act.Act.TheVariants as act
use Rattle.open_files.specs.declared.act.SessionLine.{SessionLine}
use Rattle.session_lines.specs.Errands.{HasActParts, HasKindParts}

abbrev act_or : Act → Result Act Refusal → Act
act_or other (Ok it) = it
act_or other (Err why) = other

same_act : (one other : Act) → ◌≡◌ {A = Result Act Refusal} (Ok one) (Ok other) → one ≡ other
same_act one other is = ap (act_or one) is

has : (one other : Act) → HasActParts one → ◌≡◌ {A = Result Act Refusal} (Ok one) (Ok other) → HasActParts other
has one other parts is = subst HasActParts (same_act one other is) parts

plain_parts : (part : List ℕ) (what : Act) → plain_act part ≡ Ok what → HasActParts what
plain_parts part what is = by (command_of part) refl is
  where
    by : (r : Result Command Refusal) → command_of part ≡ r → after act.Plain r ≡ Ok what → HasActParts what
    by (Ok asked) same made = has (act.Plain asked) what (spelled_parts part asked same) made
    by (Err why) same made = absurd (cc made)

path_parts : (word : List ℕ) (what : Act) → after act.Open (path_of word) ≡ Ok what → HasActParts what
path_parts word what is = by (path_of word) refl is
  where
    by : (r : Result (List (List ℕ)) Refusal) → path_of word ≡ r → after act.Open r ≡ Ok what → HasActParts what
    by (Ok names) same made = has (act.Open names) what (path word names same) made
    by (Err why) same made = absurd (cc made)

close_parts : (handle : Result ℕ Refusal) (what : Act) → after act.Close handle ≡ Ok what → HasActParts what
close_parts (Ok handle) what is = has (act.Close handle) what tt is
close_parts (Err why) what is = absurd (cc is)

read_parts : (handle from long : Result ℕ Refusal) (what : Act) → read_act handle from long ≡ Ok what → HasActParts what
read_parts (Ok handle) (Ok from) (Ok long) what is = has (act.HandleRead handle from long) what tt is
read_parts (Ok handle) (Ok from) (Err why) what is = absurd (cc is)
read_parts (Ok handle) (Err why) long what is = absurd (cc is)
read_parts (Err why) from long what is = absurd (cc is)

words_parts : (part : List ℕ) (words : List (List ℕ)) (what : Act) → words_act part words ≡ Ok what → HasActParts what
words_parts part [] what is = plain_parts part what is
words_parts part (verb ∷ []) what is = by (bytes_eq verb (codes "end")) is
  where
    by : (b : Bool) → (if b then Ok act.End else plain_act part) ≡ Ok what → HasActParts what
    by true it = has act.End what tt it
    by false it = plain_parts part what it
words_parts part (verb ∷ one ∷ []) what is = by (bytes_eq verb (codes "open")) (bytes_eq verb (codes "close")) is
  where
    by : (a b : Bool) → (if a then after act.Open (path_of one) else if b then after act.Close (handle_of one) else plain_act part) ≡ Ok what → HasActParts what
    by true b it = path_parts one what it
    by false true it = close_parts (handle_of one) what it
    by false false it = plain_parts part what it
words_parts part (verb ∷ one ∷ two ∷ []) what is = plain_parts part what is
words_parts part (verb ∷ one ∷ two ∷ three ∷ []) what is = by (bytes_eq verb (codes "hread")) is
  where
    by : (b : Bool) → (if b then read_act (handle_of one) (number_of two) (number_of three) else plain_act part) ≡ Ok what → HasActParts what
    by true it = read_parts (handle_of one) (number_of two) (number_of three) what it
    by false it = plain_parts part what it
words_parts part (verb ∷ one ∷ two ∷ three ∷ four ∷ words) what is = plain_parts part what is

act_parts : (part : List ℕ) (what : Act) → act_of part ≡ Ok what → HasActParts what
act_parts part what is = by (is_utf8 part) is
  where
    by : (b : Bool) → (if b then words_act part (slice_split (λ c. c == 32) part) else Err refusal.BadCommand) ≡ Ok what → HasActParts what
    by true it = words_parts part (slice_split (λ c. c == 32) part) what it
    by false it = absurd (cc it)

abbrev line_act : Result SessionLine Refusal → Result Act Refusal
line_act (Ok asks) = Ok asks.act
line_act (Err why) = Err why

-- So has what a line of a session asks for.
pub line_parts : (line : List ℕ) (asks : SessionLine) → asks_of line ≡ Ok asks → HasActParts asks.act
unfolding asks_of
line_parts line asks is = by_long (nat_lt most_bytes (length line)) is
  where
    by_act : (number : ℕ) (r : Result Act Refusal) → after {Y = SessionLine} (λ what. record { session = number; act = what }) r ≡ Ok asks → r ≡ Ok asks.act
    by_act number (Ok what) it = ap line_act it
    by_act number (Err why) it = absurd (cc it)

    by_part : (o : Option Part) → asks_in o ≡ Ok asks → HasActParts asks.act
    by_part None it = absurd (cc it)
    by_part (Some part) it = act_parts part.rest asks.act (by_act part.session (act_of part.rest) it)

    by_long : (b : Bool) → (if b then Err refusal.TooLong else asks_in (session_of line)) ≡ Ok asks → HasActParts asks.act
    by_long true it = absurd (cc it)
    by_long false it = by_part (session_of line) it

-- ---- lines on links and resource forks

abbrev command_or : KindCommand → Result KindCommand Refusal → KindCommand
command_or other (Ok it) = it
command_or other (Err why) = other

has_kind : (one other : KindCommand) → HasKindParts one → ◌≡◌ {A = Result KindCommand Refusal} (Ok one) (Ok other) → HasKindParts other
has_kind one other parts is = subst HasKindParts (ap (command_or one) is) parts

-- a path of a word, whatever is asked of it
of_path : (make : List (List ℕ) → KindCommand) → ((names : List (List ℕ)) → HasNames names → HasKindParts (make names)) → (word : List ℕ) (what : KindCommand) → after make (path_of word) ≡ Ok what → HasKindParts what
of_path make parts word what is = by (path_of word) refl is
  where
    by : (r : Result (List (List ℕ)) Refusal) → path_of word ≡ r → after make r ≡ Ok what → HasKindParts what
    by (Ok names) same made = has_kind (make names) what (parts names (path word names same)) made
    by (Err why) same made = absurd (cc made)

symlink_parts : (word : List ℕ) (value : Result (List ℕ) Refusal) (what : KindCommand) → symlink_of (path_of word) value ≡ Ok what → HasKindParts what
symlink_parts word (Ok value) what is = of_path (λ p. kind.Edit (edit.Symlink p value)) (λ names has. has) word what is
symlink_parts word (Err why) what is = absurd (cc is)

write_parts : (word : List ℕ) (from : Result ℕ Refusal) (value : Result (List ℕ) Refusal) (what : KindCommand) → write_of (path_of word) from value ≡ Ok what → HasKindParts what
write_parts word (Ok from) (Ok value) what is = of_path (λ p. kind.Edit (edit.ResourceWrite p from value)) (λ names has. has) word what is
write_parts word (Ok from) (Err why) what is = absurd (cc is)
write_parts word (Err why) value what is = absurd (cc is)

rread_parts : (word : List ℕ) (from long : Result ℕ Refusal) (what : KindCommand) → read_of (path_of word) from long ≡ Ok what → HasKindParts what
rread_parts word (Ok from) (Ok long) what is = of_path (λ p. kind.Edit (edit.ResourceRead p from long)) (λ names has. has) word what is
rread_parts word (Ok from) (Err why) what is = absurd (cc is)
rread_parts word (Err why) long what is = absurd (cc is)

words_kind_parts : (words : List (List ℕ)) (what : KindCommand) → words_kind words ≡ Ok what → HasKindParts what
words_kind_parts [] what is = absurd (cc is)
words_kind_parts (verb ∷ []) what is = absurd (cc is)
words_kind_parts (verb ∷ one ∷ []) what is = by (bytes_eq verb (codes "readlink")) (bytes_eq verb (codes "follow")) is
  where
    by : (a b : Bool) → (if a then after kind.Readlink (path_of one) else if b then after kind.Follow (path_of one) else Err refusal.BadCommand) ≡ Ok what → HasKindParts what
    by true b it = of_path kind.Readlink (λ names has. has) one what it
    by false true it = of_path kind.Follow (λ names has. has) one what it
    by false false it = absurd (cc it)
words_kind_parts (verb ∷ one ∷ two ∷ []) what is = by (bytes_eq verb (codes "symlink")) is
  where
    by : (b : Bool) → (if b then symlink_of (path_of one) (value_of two) else Err refusal.BadCommand) ≡ Ok what → HasKindParts what
    by true it = symlink_parts one (value_of two) what it
    by false it = absurd (cc it)
words_kind_parts (verb ∷ one ∷ two ∷ three ∷ []) what is = by (bytes_eq verb (codes "rwrite")) (bytes_eq verb (codes "rread")) is
  where
    by : (a b : Bool) → (if a then write_of (path_of one) (number_of two) (value_of three) else if b then read_of (path_of one) (number_of two) (number_of three) else Err refusal.BadCommand) ≡ Ok what → HasKindParts what
    by true b it = write_parts one (number_of two) (value_of three) what it
    by false true it = rread_parts one (number_of two) (number_of three) what it
    by false false it = absurd (cc it)
words_kind_parts (verb ∷ one ∷ two ∷ three ∷ four ∷ words) what is = absurd (cc is)

abbrev line_command : Result KindLine Refusal → Result KindCommand Refusal
line_command (Ok asks) = Ok asks.command
line_command (Err why) = Err why

-- So has what such a line asks for.
pub kind_parts : (line : List ℕ) (asks : KindLine) → kind_line_of line ≡ Ok asks → HasKindParts asks.command
unfolding kind_line_of
kind_parts line asks is = by_long (nat_lt most_bytes (length line)) is
  where
    by_kind : (part : List ℕ) → kind_of part ≡ Ok asks.command → HasKindParts asks.command
    by_kind part it = by (is_utf8 part) it
      where
        by : (b : Bool) → (if b then words_kind (slice_split (λ c. c == 32) part) else Err refusal.BadCommand) ≡ Ok asks.command → HasKindParts asks.command
        by true same = words_kind_parts (slice_split (λ c. c == 32) part) asks.command same
        by false same = absurd (cc same)

    by_command : (number : ℕ) (r : Result KindCommand Refusal) → after {Y = KindLine} (λ what. record { session = number; command = what }) r ≡ Ok asks → r ≡ Ok asks.command
    by_command number (Ok what) it = ap line_command it
    by_command number (Err why) it = absurd (cc it)

    by_part : (o : Option Part) → kind_in o ≡ Ok asks → HasKindParts asks.command
    by_part None it = absurd (cc it)
    by_part (Some part) it = by_kind part.rest (by_command part.session (kind_of part.rest) it)

    by_long : (b : Bool) → (if b then Err refusal.TooLong else kind_in (session_of line)) ≡ Ok asks → HasKindParts asks.command
    by_long true it = absurd (cc it)
    by_long false it = by_part (session_of line) it
