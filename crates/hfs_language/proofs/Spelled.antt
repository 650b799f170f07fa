-- A line is read to a command exactly where it spells it.
use Rattle.std.proofs.Common.{◌≡◌, ℕ, ◌^◌, true, ◌==◌, nat_lt, List, [], ◌∷◌, length, Ok, Err, bytes_eq, codes, refl, sym, ap, ◌∙◌, subst, if◌then◌else◌}
use Rattle.std.specs.List.{slice_split, join_with_byte}
use Rattle.std.specs.Str.{is_utf8}
use Rattle.std.specs.Cmp.Lexicographic.{bytes_decides}
use Rattle.std.proofs.lemmas.Bool.{cond_both, cond-true, cond-false, le-ltb, ltb-false, lt-ltb}
use Rattle.std.proofs.lemmas.List.Splits.{join_with_byte-slice_split}
use Rattle.hfs_language.specs.declared.command.Command.{Command}
use Rattle.hfs_language.specs.declared.command.Command.TheVariants.{Mkdir, Create, Rm, Rmdir, Mv, Ln, Write, Read, Trunc, Ls, Stat, Chmod, SetAttr, GetAttr, DelAttr, LsAttr, At, Df, Sync}
use Rattle.hfs_language.specs.declared.refusal.Refusal.TheVariants.{TooLong, BadCommand}
use Rattle.hfs_language.specs.Language.{both, after, number_of, within_moment, mode_of, value_of, attribute_of, path_of, one_word, two_words, three_words, four_words, words_command, most_bytes, command_of}
use Rattle.hfs_language.specs.Spelling.{SpellsCommand, AreWords, Spells, IsReadAsSpelled}
use Rattle.hfs_language.proofs.Splitting.{HaveNo, parts_have_none, split_joined}
use Rattle.hfs_language.proofs.Results.{after_ok, both_ok}
use Rattle.hfs_language.proofs.Lexical.{number_is_read, number_is_spelled, moment_is_spelled}

-- ---- from a command to its words

test_same : (verb name : List ℕ) → bytes_eq verb name ≡ true → verb ≡ name
test_same verb name = (bytes_decides verb name).0

one_spelled : (verb : List ℕ) (c : Command) → one_word verb ≡ Ok c → SpellsCommand c (verb ∷ [])
one_spelled verb c =
    cond_both (bytes_eq verb (codes "df")) (Ok Df) (if bytes_eq verb (codes "sync") then Ok Sync else Err BadCommand) (λ r. r ≡ Ok c → SpellsCommand c (verb ∷ []))
    (λ test is. let same : Df ≡ c = cc in subst (λ x. SpellsCommand x (verb ∷ [])) same (ap (λ x. x ∷ []) (test_same verb (codes "df") test)))
    (λ _. cond_both (bytes_eq verb (codes "sync")) (Ok Sync) (Err BadCommand) (λ r. r ≡ Ok c → SpellsCommand c (verb ∷ []))
    (λ test is. let same : Sync ≡ c = cc in subst (λ x. SpellsCommand x (verb ∷ [])) same (ap (λ x. x ∷ []) (test_same verb (codes "sync") test)))
    (λ _ never. absurd (cc)))

path_spelled : (make : List (List ℕ) → Command) (verb name word : List ℕ) (c : Command) → ((p : List (List ℕ)) → path_of word ≡ Ok p → verb ≡ name → SpellsCommand (make p) (verb ∷ word ∷ [])) → bytes_eq verb name ≡ true → after make (path_of word) ≡ Ok c → SpellsCommand c (verb ∷ word ∷ [])
path_spelled make verb name word c goes test is =
    let made = after_ok make (path_of word) c is in
    subst (λ x. SpellsCommand x (verb ∷ word ∷ [])) made.2 (goes made.0 made.1 (test_same verb name test))

two_spelled : (verb word : List ℕ) (c : Command) → two_words verb word ≡ Ok c → SpellsCommand c (verb ∷ word ∷ [])
two_spelled verb word c =
    (cond_both (bytes_eq verb (codes "mkdir")) (after Mkdir (path_of word)) (if bytes_eq verb (codes "create") then after Create (path_of word) else (if bytes_eq verb (codes "rm") then after Rm (path_of word) else (if bytes_eq verb (codes "rmdir") then after Rmdir (path_of word) else (if bytes_eq verb (codes "ls") then after Ls (path_of word) else (if bytes_eq verb (codes "stat") then after Stat (path_of word) else (if bytes_eq verb (codes "lsattr") then after LsAttr (path_of word) else (if bytes_eq verb (codes "at") then after At (within_moment (number_of word)) else (Err BadCommand)))))))) (λ r. r ≡ Ok c → SpellsCommand c (verb ∷ word ∷ []))
    (path_spelled Mkdir verb (codes "mkdir") word c (λ p read e. (word, read, ap (λ x. x ∷ word ∷ []) e)))
    (λ _. (cond_both (bytes_eq verb (codes "create")) (after Create (path_of word)) (if bytes_eq verb (codes "rm") then after Rm (path_of word) else (if bytes_eq verb (codes "rmdir") then after Rmdir (path_of word) else (if bytes_eq verb (codes "ls") then after Ls (path_of word) else (if bytes_eq verb (codes "stat") then after Stat (path_of word) else (if bytes_eq verb (codes "lsattr") then after LsAttr (path_of word) else (if bytes_eq verb (codes "at") then after At (within_moment (number_of word)) else (Err BadCommand))))))) (λ r. r ≡ Ok c → SpellsCommand c (verb ∷ word ∷ []))
    (path_spelled Create verb (codes "create") word c (λ p read e. (word, read, ap (λ x. x ∷ word ∷ []) e)))
    (λ _. (cond_both (bytes_eq verb (codes "rm")) (after Rm (path_of word)) (if bytes_eq verb (codes "rmdir") then after Rmdir (path_of word) else (if bytes_eq verb (codes "ls") then after Ls (path_of word) else (if bytes_eq verb (codes "stat") then after Stat (path_of word) else (if bytes_eq verb (codes "lsattr") then after LsAttr (path_of word) else (if bytes_eq verb (codes "at") then after At (within_moment (number_of word)) else (Err BadCommand)))))) (λ r. r ≡ Ok c → SpellsCommand c (verb ∷ word ∷ []))
    (path_spelled Rm verb (codes "rm") word c (λ p read e. (word, read, ap (λ x. x ∷ word ∷ []) e)))
    (λ _. (cond_both (bytes_eq verb (codes "rmdir")) (after Rmdir (path_of word)) (if bytes_eq verb (codes "ls") then after Ls (path_of word) else (if bytes_eq verb (codes "stat") then after Stat (path_of word) else (if bytes_eq verb (codes "lsattr") then after LsAttr (path_of word) else (if bytes_eq verb (codes "at") then after At (within_moment (number_of word)) else (Err BadCommand))))) (λ r. r ≡ Ok c → SpellsCommand c (verb ∷ word ∷ []))
    (path_spelled Rmdir verb (codes "rmdir") word c (λ p read e. (word, read, ap (λ x. x ∷ word ∷ []) e)))
    (λ _. (cond_both (bytes_eq verb (codes "ls")) (after Ls (path_of word)) (if bytes_eq verb (codes "stat") then after Stat (path_of word) else (if bytes_eq verb (codes "lsattr") then after LsAttr (path_of word) else (if bytes_eq verb (codes "at") then after At (within_moment (number_of word)) else (Err BadCommand)))) (λ r. r ≡ Ok c → SpellsCommand c (verb ∷ word ∷ []))
    (path_spelled Ls verb (codes "ls") word c (λ p read e. (word, read, ap (λ x. x ∷ word ∷ []) e)))
    (λ _. (cond_both (bytes_eq verb (codes "stat")) (after Stat (path_of word)) (if bytes_eq verb (codes "lsattr") then after LsAttr (path_of word) else (if bytes_eq verb (codes "at") then after At (within_moment (number_of word)) else (Err BadCommand))) (λ r. r ≡ Ok c → SpellsCommand c (verb ∷ word ∷ []))
    (path_spelled Stat verb (codes "stat") word c (λ p read e. (word, read, ap (λ x. x ∷ word ∷ []) e)))
    (λ _. (cond_both (bytes_eq verb (codes "lsattr")) (after LsAttr (path_of word)) (if bytes_eq verb (codes "at") then after At (within_moment (number_of word)) else (Err BadCommand)) (λ r. r ≡ Ok c → SpellsCommand c (verb ∷ word ∷ []))
    (path_spelled LsAttr verb (codes "lsattr") word c (λ p read e. (word, read, ap (λ x. x ∷ word ∷ []) e)))
    (λ _. (cond_both (bytes_eq verb (codes "at")) (after At (within_moment (number_of word))) (Err BadCommand) (λ r. r ≡ Ok c → SpellsCommand c (verb ∷ word ∷ []))
    (λ test is.
    let made = after_ok At (within_moment (number_of word)) c is in
    let moment = moment_is_spelled (number_of word) made.0 made.1 in
    subst (λ x. SpellsCommand x (verb ∷ word ∷ [])) made.2 (word, number_is_spelled word made.0 moment.0, moment.1, ap (λ x. x ∷ word ∷ []) (test_same verb (codes "at") test)))
    (λ _. (λ never. absurd (cc))))))))))))))))))

three_spelled : (verb one two : List ℕ) (c : Command) → three_words verb one two ≡ Ok c → SpellsCommand c (verb ∷ one ∷ two ∷ [])
three_spelled verb one two c =
    (cond_both (bytes_eq verb (codes "mv")) (after (λ p. Mv p.0 p.1) (both (path_of one) (path_of two))) (if bytes_eq verb (codes "ln") then after (λ p. Ln p.0 p.1) (both (path_of one) (path_of two)) else (if bytes_eq verb (codes "trunc") then after (λ p. Trunc p.0 p.1) (both (path_of one) (number_of two)) else (if bytes_eq verb (codes "chmod") then after (λ p. Chmod p.0 p.1) (both (path_of one) (mode_of two)) else (if bytes_eq verb (codes "getattr") then after (λ p. GetAttr p.0 p.1) (both (path_of one) (attribute_of two)) else (if bytes_eq verb (codes "delattr") then after (λ p. DelAttr p.0 p.1) (both (path_of one) (attribute_of two)) else (Err BadCommand)))))) (λ r. r ≡ Ok c → SpellsCommand c (verb ∷ one ∷ two ∷ []))
    (λ test is.
    let made = after_ok (λ p. Mv p.0 p.1) (both (path_of one) (path_of two)) c is in
    let parts = both_ok (path_of one) (path_of two) made.0 made.1 in
    subst (λ x. SpellsCommand x (verb ∷ one ∷ two ∷ [])) made.2 (one, two, parts.0, parts.1, ap (λ x. x ∷ one ∷ two ∷ []) (test_same verb (codes "mv") test)))
    (λ _. (cond_both (bytes_eq verb (codes "ln")) (after (λ p. Ln p.0 p.1) (both (path_of one) (path_of two))) (if bytes_eq verb (codes "trunc") then after (λ p. Trunc p.0 p.1) (both (path_of one) (number_of two)) else (if bytes_eq verb (codes "chmod") then after (λ p. Chmod p.0 p.1) (both (path_of one) (mode_of two)) else (if bytes_eq verb (codes "getattr") then after (λ p. GetAttr p.0 p.1) (both (path_of one) (attribute_of two)) else (if bytes_eq verb (codes "delattr") then after (λ p. DelAttr p.0 p.1) (both (path_of one) (attribute_of two)) else (Err BadCommand))))) (λ r. r ≡ Ok c → SpellsCommand c (verb ∷ one ∷ two ∷ []))
    (λ test is.
    let made = after_ok (λ p. Ln p.0 p.1) (both (path_of one) (path_of two)) c is in
    let parts = both_ok (path_of one) (path_of two) made.0 made.1 in
    subst (λ x. SpellsCommand x (verb ∷ one ∷ two ∷ [])) made.2 (one, two, parts.0, parts.1, ap (λ x. x ∷ one ∷ two ∷ []) (test_same verb (codes "ln") test)))
    (λ _. (cond_both (bytes_eq verb (codes "trunc")) (after (λ p. Trunc p.0 p.1) (both (path_of one) (number_of two))) (if bytes_eq verb (codes "chmod") then after (λ p. Chmod p.0 p.1) (both (path_of one) (mode_of two)) else (if bytes_eq verb (codes "getattr") then after (λ p. GetAttr p.0 p.1) (both (path_of one) (attribute_of two)) else (if bytes_eq verb (codes "delattr") then after (λ p. DelAttr p.0 p.1) (both (path_of one) (attribute_of two)) else (Err BadCommand)))) (λ r. r ≡ Ok c → SpellsCommand c (verb ∷ one ∷ two ∷ []))
    (λ test is.
    let made = after_ok (λ p. Trunc p.0 p.1) (both (path_of one) (number_of two)) c is in
    let parts = both_ok (path_of one) (number_of two) made.0 made.1 in
    subst (λ x. SpellsCommand x (verb ∷ one ∷ two ∷ [])) made.2 (one, two, parts.0, number_is_spelled two made.0.1 parts.1, ap (λ x. x ∷ one ∷ two ∷ []) (test_same verb (codes "trunc") test)))
    (λ _. (cond_both (bytes_eq verb (codes "chmod")) (after (λ p. Chmod p.0 p.1) (both (path_of one) (mode_of two))) (if bytes_eq verb (codes "getattr") then after (λ p. GetAttr p.0 p.1) (both (path_of one) (attribute_of two)) else (if bytes_eq verb (codes "delattr") then after (λ p. DelAttr p.0 p.1) (both (path_of one) (attribute_of two)) else (Err BadCommand))) (λ r. r ≡ Ok c → SpellsCommand c (verb ∷ one ∷ two ∷ []))
    (λ test is.
    let made = after_ok (λ p. Chmod p.0 p.1) (both (path_of one) (mode_of two)) c is in
    let parts = both_ok (path_of one) (mode_of two) made.0 made.1 in
    subst (λ x. SpellsCommand x (verb ∷ one ∷ two ∷ [])) made.2 (one, two, parts.0, parts.1, ap (λ x. x ∷ one ∷ two ∷ []) (test_same verb (codes "chmod") test)))
    (λ _. (cond_both (bytes_eq verb (codes "getattr")) (after (λ p. GetAttr p.0 p.1) (both (path_of one) (attribute_of two))) (if bytes_eq verb (codes "delattr") then after (λ p. DelAttr p.0 p.1) (both (path_of one) (attribute_of two)) else (Err BadCommand)) (λ r. r ≡ Ok c → SpellsCommand c (verb ∷ one ∷ two ∷ []))
    (λ test is.
    let made = after_ok (λ p. GetAttr p.0 p.1) (both (path_of one) (attribute_of two)) c is in
    let parts = both_ok (path_of one) (attribute_of two) made.0 made.1 in
    subst (λ x. SpellsCommand x (verb ∷ one ∷ two ∷ [])) made.2 (one, two, parts.0, parts.1, ap (λ x. x ∷ one ∷ two ∷ []) (test_same verb (codes "getattr") test)))
    (λ _. (cond_both (bytes_eq verb (codes "delattr")) (after (λ p. DelAttr p.0 p.1) (both (path_of one) (attribute_of two))) (Err BadCommand) (λ r. r ≡ Ok c → SpellsCommand c (verb ∷ one ∷ two ∷ []))
    (λ test is.
    let made = after_ok (λ p. DelAttr p.0 p.1) (both (path_of one) (attribute_of two)) c is in
    let parts = both_ok (path_of one) (attribute_of two) made.0 made.1 in
    subst (λ x. SpellsCommand x (verb ∷ one ∷ two ∷ [])) made.2 (one, two, parts.0, parts.1, ap (λ x. x ∷ one ∷ two ∷ []) (test_same verb (codes "delattr") test)))
    (λ _. (λ never. absurd (cc))))))))))))))

four_spelled : (verb one two three : List ℕ) (c : Command) → four_words verb one two three ≡ Ok c → SpellsCommand c (verb ∷ one ∷ two ∷ three ∷ [])
four_spelled verb one two three c =
    (cond_both (bytes_eq verb (codes "write")) (after (λ p. Write p.0 p.1.0 p.1.1) (both (path_of one) (both (number_of two) (value_of three)))) (if bytes_eq verb (codes "read") then after (λ p. Read p.0 p.1.0 p.1.1) (both (path_of one) (both (number_of two) (number_of three))) else (if bytes_eq verb (codes "setattr") then after (λ p. SetAttr p.0 p.1.0 p.1.1) (both (path_of one) (both (attribute_of two) (value_of three))) else (Err BadCommand))) (λ r. r ≡ Ok c → SpellsCommand c (verb ∷ one ∷ two ∷ three ∷ []))
    (λ test is.
    let made = after_ok (λ p. Write p.0 p.1.0 p.1.1) (both (path_of one) (both (number_of two) (value_of three))) c is in
    let parts = both_ok (path_of one) (both (number_of two) (value_of three)) made.0 made.1 in
    let last = both_ok (number_of two) (value_of three) made.0.1 parts.1 in
    subst (λ x. SpellsCommand x (verb ∷ one ∷ two ∷ three ∷ [])) made.2 (one, two, three, parts.0, number_is_spelled two made.0.1.0 last.0, last.1, ap (λ x. x ∷ one ∷ two ∷ three ∷ []) (test_same verb (codes "write") test)))
    (λ _. (cond_both (bytes_eq verb (codes "read")) (after (λ p. Read p.0 p.1.0 p.1.1) (both (path_of one) (both (number_of two) (number_of three)))) (if bytes_eq verb (codes "setattr") then after (λ p. SetAttr p.0 p.1.0 p.1.1) (both (path_of one) (both (attribute_of two) (value_of three))) else (Err BadCommand)) (λ r. r ≡ Ok c → SpellsCommand c (verb ∷ one ∷ two ∷ three ∷ []))
    (λ test is.
    let made = after_ok (λ p. Read p.0 p.1.0 p.1.1) (both (path_of one) (both (number_of two) (number_of three))) c is in
    let parts = both_ok (path_of one) (both (number_of two) (number_of three)) made.0 made.1 in
    let last = both_ok (number_of two) (number_of three) made.0.1 parts.1 in
    subst (λ x. SpellsCommand x (verb ∷ one ∷ two ∷ three ∷ [])) made.2 (one, two, three, parts.0, number_is_spelled two made.0.1.0 last.0, number_is_spelled three made.0.1.1 last.1, ap (λ x. x ∷ one ∷ two ∷ three ∷ []) (test_same verb (codes "read") test)))
    (λ _. (cond_both (bytes_eq verb (codes "setattr")) (after (λ p. SetAttr p.0 p.1.0 p.1.1) (both (path_of one) (both (attribute_of two) (value_of three)))) (Err BadCommand) (λ r. r ≡ Ok c → SpellsCommand c (verb ∷ one ∷ two ∷ three ∷ []))
    (λ test is.
    let made = after_ok (λ p. SetAttr p.0 p.1.0 p.1.1) (both (path_of one) (both (attribute_of two) (value_of three))) c is in
    let parts = both_ok (path_of one) (both (attribute_of two) (value_of three)) made.0 made.1 in
    let last = both_ok (attribute_of two) (value_of three) made.0.1 parts.1 in
    subst (λ x. SpellsCommand x (verb ∷ one ∷ two ∷ three ∷ [])) made.2 (one, two, three, parts.0, last.0, last.1, ap (λ x. x ∷ one ∷ two ∷ three ∷ []) (test_same verb (codes "setattr") test)))
    (λ _. (λ never. absurd (cc))))))))

words_spelled : (words : List (List ℕ)) (c : Command) → words_command words ≡ Ok c → SpellsCommand c words
words_spelled [] c is = let never : Err BadCommand ≡ Ok c = is in absurd (cc)
words_spelled (verb ∷ []) c is = one_spelled verb c is
words_spelled (verb ∷ one ∷ []) c is = two_spelled verb one c is
words_spelled (verb ∷ one ∷ two ∷ []) c is = three_spelled verb one two c is
words_spelled (verb ∷ one ∷ two ∷ three ∷ []) c is = four_spelled verb one two three c is
words_spelled (verb ∷ one ∷ two ∷ three ∷ four ∷ more) c is = let never : Err BadCommand ≡ Ok c = is in absurd (cc)

-- ---- from the words to the command
words_read : (c : Command) (words : List (List ℕ)) → SpellsCommand c words → words_command words ≡ Ok c
words_read (Mkdir p) words h = rw (h.2, h.1) refl
words_read (Create p) words h = rw (h.2, h.1) refl
words_read (Rm p) words h = rw (h.2, h.1) refl
words_read (Rmdir p) words h = rw (h.2, h.1) refl
words_read (Ls p) words h = rw (h.2, h.1) refl
words_read (Stat p) words h = rw (h.2, h.1) refl
words_read (LsAttr p) words h = rw (h.2, h.1) refl
words_read (At n) words h = let number = number_is_read h.0 n h.1 in let small : nat_lt n (2 ^ 32) ≡ true = lt-ltb n (2 ^ 32) h.2 in rw (h.3, number, small) refl
words_read (Mv p q) words h = rw (h.4, h.2, h.3) refl
words_read (Ln p q) words h = rw (h.4, h.2, h.3) refl
words_read (Trunc p n) words h = let number = number_is_read h.1 n h.3 in rw (h.4, h.2, number) refl
words_read (Chmod p q) words h = rw (h.4, h.2, h.3) refl
words_read (GetAttr p q) words h = rw (h.4, h.2, h.3) refl
words_read (DelAttr p q) words h = rw (h.4, h.2, h.3) refl
words_read (Write p n v) words h = let number = number_is_read h.1 n h.4 in rw (h.6, h.3, number, h.5) refl
words_read (Read p n m) words h = let number = number_is_read h.1 n h.4 in let length = number_is_read h.2 m h.5 in rw (h.6, h.3, number, length) refl
words_read (SetAttr p n v) words h = rw (h.6, h.3, h.4, h.5) refl
words_read Df words h = rw h refl
words_read Sync words h = rw h refl

some_words : (c : Command) (words : List (List ℕ)) → SpellsCommand c words → words ≡ [] → ⊥
some_words c [] h e = let never : Err BadCommand ≡ Ok c = words_read c [] h in cc
some_words c (word ∷ words) h e = cc

-- ---- lines

have_none : (words : List (List ℕ)) → AreWords words → HaveNo 32 words
have_none [] are = tt
have_none (word ∷ words) are = (are.0, have_none words are.1)

are_words : (words : List (List ℕ)) → HaveNo 32 words → AreWords words
are_words [] none = tt
are_words (word ∷ words) none = (none.0, are_words words none.1)

line_split : (c : Command) (words : List (List ℕ)) → AreWords words → SpellsCommand c words → slice_split (λ b. b == 32) (join_with_byte 32 words) ≡ words
line_split c [] are h = absurd (some_words c [] h refl)
line_split c (word ∷ words) are h = split_joined 32 word words (have_none (word ∷ words) are)

spelled_if_read : (line : List ℕ) (c : Command) → command_of line ≡ Ok c → Spells line c
unfolding command_of
spelled_if_read line c =
    let words = slice_split (λ b. b == 32) line in
    cond_both (nat_lt most_bytes (length line)) (Err TooLong) (if is_utf8 line then words_command words else Err BadCommand) (λ r. r ≡ Ok c → Spells line c)
    (λ _ never. absurd (cc))
    (λ short. cond_both (is_utf8 line) (words_command words) (Err BadCommand) (λ r. r ≡ Ok c → Spells line c)
    (λ text is. record {
      short = ltb-false most_bytes (length line) short;
      text = text;
      words = (words, are_words words (parts_have_none 32 line), sym (join_with_byte-slice_split 32 line), words_spelled words c is);
    })
    (λ _ never. absurd (cc)))

read_if_spelled : (line : List ℕ) (c : Command) → Spells line c → command_of line ≡ Ok c
unfolding command_of
read_if_spelled line c h =
    let split : slice_split (λ b. b == 32) line ≡ h.words.0 = ap (λ x. slice_split (λ b. b == 32) x) h.words.2 ∙ line_split c h.words.0 h.words.1 h.words.3 in
    cond-false _ _ _ (le-ltb most_bytes (length line) h.short) ∙ cond-true _ _ _ h.text ∙ ap words_command split ∙ words_read c h.words.0 h.words.3

pub read_as_spelled : (line : List ℕ) (c : Command) → IsReadAsSpelled line c
read_as_spelled line c = (spelled_if_read line c, read_if_spelled line c)

pub one_command : (line : List ℕ) (one other : Command) → Spells line one → Spells line other → one ≡ other
one_command line one other h k = let first = read_if_spelled line one h in let second = read_if_spelled line other k in cc
