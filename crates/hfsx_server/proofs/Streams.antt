-- Lines that are played on a volume in memory, and the numbers of their replies.
use Rattle.std.proofs.Common.{◌≡◌, ◌≢◌, ◌⊎◌, ◌≤◌, ◌<◌, ℕ, zero, suc, ◌+◌, ◌-◌, ◌*◌, ◌/◌, ◌%◌, Bool, true, false, ◌==◌, ◌&&◌, nat_le, List, [], ◌∷◌, ◌++◌, length, drop, codes, decimal, inl, inr, refl, sym, ◌∙◌, ap, subst, arith, append_assoc, length-append, Result, Ok, Err}
use Rattle.std.specs.Prelude.{All, IfOk, Option, None, min, map, if◌then◌else◌}
use Rattle.std.specs.List.{list_all, join_with_byte}
use Rattle.std.proofs.lemmas.Bool.{cond_both, and_parts}
use Rattle.std.proofs.lemmas.Bool.Decides.{nat_tests}
use Rattle.std.proofs.lemmas.List.{append-nil, length-map, map-append}
use Rattle.std.proofs.lemmas.List.Elements.{All-nil, All-cons}
use Rattle.std.proofs.lemmas.List.Folds.{list_all-append}
use Rattle.sector_disk.specs.Cause.{next_count}
use Rattle.sector_disk.specs.Disk.{Candidates, HasNothingPending, IsImage, State, content, content_of, only}
use Rattle.sector_disk.specs.Source.{Stream}
use Rattle.sector_disk.proofs.Candidates.{content_of-only}
use Rattle.sector_disk.proofs.Stages.{image_only}
use Rattle.mem_disk.specs.MemRig.{StartsWith}
use Rattle.mem_disk.specs.MemSource.{HandsOut}
use Rattle.jnl_format.specs.Recovery.{Content}
use Rattle.name_text.specs.Printing.{is_clear}
use Rattle.name_text.proofs.Clear.{all_clear}
use Rattle.hfs_language.specs.Language.{command_of}
use Rattle.hfs_language.specs.Lines.{lines, HasNoNewline}
use Rattle.hfs_language.specs.Shown.{HasNames}
use Rattle.hfs_language.specs.Spelling.{IsPath, Spells}
use Rattle.hfs_language.specs.Text.{body_text, reply_text}
use Rattle.hfs_language.specs.declared.command.Command.{Command}
use Rattle.hfs_language.specs.declared.command.Command.TheVariants as command
use Rattle.hfs_language.specs.declared.refusal.Refusal.{Refusal}
use Rattle.hfs_language.specs.declared.refusal.Refusal.TheVariants as refusal
use Rattle.hfs_language.specs.declared.reply.Reply.{Reply}
use Rattle.hfs_language.specs.declared.reply.Reply.TheVariants as reply
use Rattle.hfs_language.proofs.Lines.{lines_ended}
use Rattle.hfs_language.proofs.OneLine.{body_in, in_line}
use Rattle.hfs_language.proofs.Shown.{both_tails}
use Rattle.hfs_language.proofs.Spelled.{read_as_spelled}
use Rattle.hfs_language.proofs.Words.{clear_decimal}
use Rattle.hfs_model.specs.Plain.{fresh_tree}
use Rattle.hfs_model.specs.Step.{Step, facts_of, is_private, is_refusal, linked, made, marked, moved_over, on, removed, removed_folder, resized, step, step_line, to_attribute, to_file, to_folder, to_link, to_make, to_mv, to_node, to_read, to_rm, to_rmdir, to_set, to_trunc, to_value, to_write, written}
use Rattle.hfs_model.specs.declared.plain.PlainTree.{PlainTree}
use Rattle.hfs_serving.specs.Ending.{FinishesRun}
use Rattle.hfs_volume.specs.declared.asked.Asked.{Asked}
use Rattle.hfs_volume.specs.Mount.{Mounts, MountsTo}
use Rattle.hfs_volume.specs.TreeOf.{tree_of}
use Rattle.stream_gen.specs.Stream.{eight_digits, folder_of, line_of, value_of}
use Rattle.volume_runs.specs.Run.{Entry, IsAnswered, IsRun, IsRunFrom, IsServed, LacksMemory, LacksResource, asked_by, lines_of, replies_of, reply_to, shrunk_after, tree_after, ArePlain, IsServedBy, asked_in}
use Rattle.hfsx_server.specs.Checking.{IsSoundImage}
use Rattle.hfsx_server.specs.Made.{IsMade}
use Rattle.hfsx_server.specs.Playing.{HasPlayed, Plays, ServesBytes, no_run, number_done, number_refused, one_run, stream_from, stream_of, tallied, tallied_byte}
use Rattle.hfsx_server.specs.declared.playing.Stage.{Stage}
use Rattle.hfsx_server.specs.declared.playing.Tally.{Tally}

-- ---- bytes in a line

both_in : (xs ys : List ℕ) → in_line xs ≡ true → in_line ys ≡ true → in_line (xs ++ ys) ≡ true
both_in xs ys hx hy = list_all-append (nat_le 32) xs ys ∙ rw (hx, hy) refl

three_in : (a b c : List ℕ) → in_line a ≡ true → in_line b ≡ true → in_line c ≡ true → in_line (a ++ b ++ c) ≡ true
three_in a b c ha hb hc = both_in (a ++ b) c (both_in a b ha hb) hc

four_in : (a b c d : List ℕ) → in_line a ≡ true → in_line b ≡ true → in_line c ≡ true → in_line d ≡ true → in_line (a ++ b ++ c ++ d) ≡ true
four_in a b c d ha hb hc hd = both_in (a ++ b ++ c) d (three_in a b c ha hb hc) hd

clear_in : (text : List ℕ) → all_clear text ≡ true → in_line text ≡ true
clear_in [] clear = refl
clear_in (b ∷ text) clear =
    let parts : (is_clear b ≡ true) × (all_clear text ≡ true) = and_parts _ _ clear in
    let high : nat_le 32 b ≡ true = grind (arith, nat_tests) in
    rw (high, clear_in text parts.1) refl

none_in : (text : List ℕ) → in_line text ≡ true → HasNoNewline text
none_in [] are = All-nil (λ b. b ≡ 10 → ⊥)
none_in (b ∷ text) are =
    let parts : (nat_le 32 b ≡ true) × (in_line text ≡ true) = and_parts _ _ are in
    All-cons (λ b. b ≡ 10 → ⊥) b text (λ newline. grind (arith, nat_tests)) (none_in text parts.1)

high_in : (n : ℕ) → nat_le 32 (48 + n) ≡ true
high_in n = grind (arith, nat_tests)

-- ---- the lines of a stream

-- it doesn't ask for a listing
abbrev IsQuiet : List ℕ → Type 0
IsQuiet line = (rest : List ℕ) → line ≡ 108 ∷ 115 ∷ rest → ⊥

abbrev IsGood : List ℕ → Type 0
IsGood line = (in_line line ≡ true) × IsQuiet line

first_other : (a : ℕ) (text : List ℕ) → (a ≡ 108 → ⊥) → IsQuiet (a ∷ text)
first_other a text other rest is = other (both_tails a 108 text (115 ∷ rest) is).0

second_other : (a b : ℕ) (text : List ℕ) → (b ≡ 115 → ⊥) → IsQuiet (a ∷ b ∷ text)
second_other a b text other rest is = other (both_tails b 115 text rest (both_tails a 108 (b ∷ text) (115 ∷ rest) is).1).0

folder_in : (i : ℕ) → in_line (folder_of i) ≡ true
folder_in i = both_in (codes " /d") (decimal (i / 8)) refl (clear_in (decimal (i / 8)) (clear_decimal (i / 8)))

digits_in : (n : ℕ) → in_line (eight_digits n) ≡ true
digits_in n =
    rw (high_in (n / 10000000 % 10), high_in (n / 1000000 % 10), high_in (n / 100000 % 10), high_in (n / 10000 % 10), high_in (n / 1000 % 10), high_in (n / 100 % 10), high_in (n / 10 % 10), high_in (n % 10)) refl

module _ (seed i : ℕ) where
  abbrev here : List ℕ
  here = folder_of i

  value_in : in_line (value_of seed i) ≡ true
  value_in = digits_in (seed * (i + 1) % 100000000)

  good_line : IsGood (line_of seed i)
  good_line =
      cond_both (i % 8 == 0) _ _ IsGood (λ _. (both_in (codes "mkdir") here refl (folder_in i), first_other 109 _ (λ is. omega (arith, is))))
      (λ _. cond_both (i % 8 == 1) _ _ IsGood (λ _. (three_in (codes "create") here (codes "/a") refl (folder_in i) refl, first_other 99 _ (λ is. omega (arith, is))))
      (λ _. cond_both (i % 8 == 2) _ _ IsGood (λ _. (four_in (codes "write") here (codes "/a 0 =") (value_of seed i) refl (folder_in i) refl value_in, first_other 119 _ (λ is. omega (arith, is))))
      (λ _. cond_both (i % 8 == 3) _ _ IsGood (λ _. (both_in (codes "ln" ++ here ++ codes "/a" ++ here) (codes "/b") (four_in (codes "ln") here (codes "/a") here refl (folder_in i) refl (folder_in i)) refl, second_other 108 110 _ (λ is. omega (arith, is))))
      (λ _. cond_both (i % 8 == 4) _ _ IsGood (λ _. (four_in (codes "setattr") here (codes " k =") (value_of seed i) refl (folder_in i) refl value_in, first_other 115 _ (λ is. omega (arith, is))))
      (λ _. cond_both (i % 8 == 5) _ _ IsGood (λ _. (both_in (codes "mv" ++ here ++ codes "/b" ++ here) (codes "/c") (four_in (codes "mv") here (codes "/b") here refl (folder_in i) refl (folder_in i)) refl, first_other 109 _ (λ is. omega (arith, is))))
      (λ _. cond_both (i % 8 == 6) _ _ IsGood (λ _. (four_in (codes "write") here (codes "/c 4 =") (value_of seed i) refl (folder_in i) refl value_in, first_other 119 _ (λ is. omega (arith, is))))
      (λ _. (three_in (codes "rm") here (codes "/a") refl (folder_in i) refl, first_other 114 _ (λ is. omega (arith, is))))))))))

AreGood : List (List ℕ) → Type 0
AreGood [] = Unit {0}
AreGood (line ∷ lines) = IsGood line × AreGood lines

good_on : (lines : List (List ℕ)) (line : List ℕ) → AreGood lines → IsGood line → AreGood (lines ++ line ∷ [])
unfolding AreGood
good_on [] line are is = (is, tt)
good_on (first ∷ lines) line are is = (are.0, good_on lines line are.1 is)

stream_good : (seed first count : ℕ) → AreGood (stream_from seed first count)
unfolding stream_from AreGood
stream_good seed first zero = tt
stream_good seed first (suc count) = good_on (stream_from seed first count) (line_of seed (first + count)) (stream_good seed first count) (good_line seed (first + count))

length-stream : (seed first count : ℕ) → length (stream_from seed first count) ≡ count
unfolding stream_from
length-stream seed first zero = refl
length-stream seed first (suc count) = omega (arith, length-append (stream_from seed first count) (line_of seed (first + count) ∷ []), length-stream seed first count)

-- a stream goes on
stream_both : (seed first count : ℕ) → stream_of seed (first + count) ≡ stream_of seed first ++ stream_from seed first count
unfolding stream_from
stream_both seed first zero = ap (stream_from seed 0) (let none : first + 0 ≡ first = omega arith in none) ∙ sym (append-nil (stream_of seed first))
stream_both seed first (suc count) =
    let more : first + suc count ≡ suc (first + count) = omega arith in
    let here : 0 + (first + count) ≡ first + count = omega arith in
    ap (stream_from seed 0) more ∙ ap (λ (n : ℕ). stream_from seed 0 (first + count) ++ line_of seed n ∷ []) here
    ∙ ap (λ (l : List (List ℕ)). l ++ line_of seed (first + count) ∷ []) (stream_both seed first count) ∙ append_assoc (stream_of seed first) (stream_from seed first count) (line_of seed (first + count) ∷ [])

-- ---- their text

-- each line with its newline
pub text_of : List (List ℕ) → List ℕ
text_of [] = []
text_of (line ∷ lines) = (line ++ 10 ∷ []) ++ text_of lines

text_on : (lines : List (List ℕ)) (line : List ℕ) → text_of (lines ++ line ∷ []) ≡ text_of lines ++ (line ++ 10 ∷ [])
unfolding text_of
text_on [] line = append-nil (line ++ 10 ∷ [])
text_on (first ∷ lines) line = ap (λ (l : List ℕ). (first ++ 10 ∷ []) ++ l) (text_on lines line) ∙ sym (append_assoc (first ++ 10 ∷ []) (text_of lines) (line ++ 10 ∷ []))

lines_none : lines [] ≡ []
unfolding lines
lines_none = refl

lines_text : (all : List (List ℕ)) → AreGood all → lines (text_of all) ≡ all
unfolding text_of AreGood
lines_text [] are = lines_none
lines_text (line ∷ all) are =
    ap lines (append_assoc line (10 ∷ []) (text_of all)) ∙ lines_ended line (text_of all) (none_in line are.0.0) ∙ ap (λ (l : List (List ℕ)). line ∷ l) (lines_text all are.1)

-- none so far
pub text_begins : (seed first : ℕ) (bytes : List ℕ) → bytes ≡ [] → bytes ≡ text_of (stream_from seed first (first - first))
unfolding text_of stream_from
text_begins seed first bytes is = is ∙ ap (λ (n : ℕ). text_of (stream_from seed first n)) (let none : 0 ≡ first - first = omega arith in none)

-- one more
pub text_goes_on : (seed first i : ℕ) (old new : List ℕ) → first ≤ i → old ≡ text_of (stream_from seed first (i - first)) → new ≡ old ++ (line_of seed i ++ 10 ∷ []) → new ≡ text_of (stream_from seed first (i + 1 - first))
unfolding stream_from
text_goes_on seed first i old new behind was is =
    let count = i - first in
    let here : first + count ≡ i = omega (arith, behind) in
    let more : suc count ≡ i + 1 - first = omega (arith, behind) in
    is ∙ ap (λ (l : List ℕ). l ++ (line_of seed i ++ 10 ∷ [])) was ∙ ap (λ (n : ℕ). text_of (stream_from seed first count) ++ (line_of seed n ++ 10 ∷ [])) (sym here)
    ∙ sym (text_on (stream_from seed first count) (line_of seed (first + count))) ∙ ap (λ (n : ℕ). text_of (stream_from seed first n)) more

pub text_ends : (seed first count : ℕ) (bytes : List ℕ) → bytes ≡ text_of (stream_from seed first count) → lines bytes ≡ stream_from seed first count
text_ends seed first count bytes is = ap lines is ∙ lines_text (stream_from seed first count) (stream_good seed first count)

-- ---- replies that are no listings

-- a command that lists nothing
ListsNothing : Command → Type 0
ListsNothing (command.Ls path) = ⊥
ListsNothing (command.LsAttr path) = ⊥
ListsNothing _ = Unit {0}

quiet_command : (line : List ℕ) (asked : Command) → IsQuiet line → command_of line ≡ Ok asked → ListsNothing asked
unfolding ListsNothing
quiet_command line (command.Ls path) quiet is =
    let spelled : Spells line (command.Ls path) = (read_as_spelled line (command.Ls path)).0 is in
    let words = spelled.words in
    quiet (drop 2 (join_with_byte 32 (codes "ls" ∷ words.3.0 ∷ []))) (words.2 ∙ ap (join_with_byte 32) words.3.2)
quiet_command line (command.LsAttr path) quiet is =
    let spelled : Spells line (command.LsAttr path) = (read_as_spelled line (command.LsAttr path)).0 is in
    let words = spelled.words in
    quiet (drop 2 (join_with_byte 32 (codes "lsattr" ∷ words.3.0 ∷ []))) (words.2 ∙ ap (join_with_byte 32) words.3.2)
quiet_command line (command.Mkdir p) quiet is = tt
quiet_command line (command.Create p) quiet is = tt
quiet_command line (command.Rm p) quiet is = tt
quiet_command line (command.Rmdir p) quiet is = tt
quiet_command line (command.Mv p q) quiet is = tt
quiet_command line (command.Ln p q) quiet is = tt
quiet_command line (command.Write p n v) quiet is = tt
quiet_command line (command.Read p n m) quiet is = tt
quiet_command line (command.Trunc p n) quiet is = tt
quiet_command line (command.Stat p) quiet is = tt
quiet_command line (command.Chmod p m) quiet is = tt
quiet_command line (command.SetAttr p n v) quiet is = tt
quiet_command line (command.GetAttr p n) quiet is = tt
quiet_command line (command.DelAttr p n) quiet is = tt
quiet_command line (command.At n) quiet is = tt
quiet_command line command.Df quiet is = tt
quiet_command line command.Sync quiet is = tt

named_on : {X : Type 0} (tree : PlainTree) (r : Result X Refusal) (next : X → Step) → ((x : X) → HasNames (next x).0) → HasNames (on tree r next).0
named_on tree (Ok x) next has = has x
named_on tree (Err why) next has = tt

named_step : (tree : PlainTree) (asked : Command) → ListsNothing asked → HasNames (step tree asked).0
unfolding ListsNothing
named_step tree (command.Mkdir path) bare = named_on tree (to_make tree path) (λ at. (reply.Ok, made true at tree)) (λ at. tt)
named_step tree (command.Create path) bare = named_on tree (to_make tree path) (λ at. (reply.Ok, made false at tree)) (λ at. tt)
named_step tree (command.Rm path) bare = named_on tree (to_rm tree path) (λ at. (reply.Ok, removed at tree)) (λ at. tt)
named_step tree (command.Rmdir path) bare = named_on tree (to_rmdir tree path) (λ at. (reply.Ok, removed_folder at tree)) (λ at. tt)
named_step tree (command.Mv from to) bare = named_on tree (to_mv tree from to) (λ pair. (reply.Ok, moved_over pair.0 pair.1 tree)) (λ at. tt)
named_step tree (command.Ln from to) bare = named_on tree (to_link tree from to) (λ pair. (reply.Ok, linked pair.0 pair.1 tree)) (λ at. tt)
named_step tree (command.Write path from value) bare = named_on tree (to_write tree path from value) (λ file. (reply.Ok, written file from value tree)) (λ at. tt)
named_step tree (command.Read path from long) bare = named_on tree (to_read tree path long) _ (λ at. tt)
named_step tree (command.Trunc path size) bare = named_on tree (to_trunc tree path size) (λ file. (reply.Ok, resized file size tree)) (λ at. tt)
named_step tree (command.Ls path) bare = absurd bare
named_step tree (command.Stat path) bare = named_on tree (to_node tree path) (λ node. (reply.Facts (facts_of tree node), tree)) (λ at. tt)
named_step tree (command.Chmod path mode) bare = named_on tree (to_node tree path) _ (λ at. tt)
named_step tree (command.SetAttr path name value) bare = named_on tree (to_set tree path value) _ (λ at. tt)
named_step tree (command.GetAttr path name) bare = named_on tree (to_value tree path name) _ (λ at. tt)
named_step tree (command.DelAttr path name) bare = named_on tree (to_attribute tree path name) _ (λ at. tt)
named_step tree (command.LsAttr path) bare = absurd bare
named_step tree (command.At moment) bare = tt
named_step tree command.Df bare = tt
named_step tree command.Sync bare = tt

named_line : (tree : PlainTree) (asked : Command) → ListsNothing asked → HasNames (step_line tree (Ok asked)).0
named_line tree asked bare = cond_both (is_private asked) (reply.No refusal.Private, tree) (step tree asked) (λ (s : Step). HasNames s.0) (λ _. tt) (λ _. named_step tree asked bare)

named_reply : (capacity : ℕ) (content : Content) (asked : Result Command Refusal) → ((one : Command) → asked ≡ Ok one → ListsNothing one) → HasNames (reply_to capacity content asked)
named_reply capacity content (Err why) bare = tt
named_reply capacity content (Ok command.Df) bare = tt
named_reply capacity content (Ok (command.Mkdir p)) bare = named_line (tree_of content) (command.Mkdir p) (bare (command.Mkdir p) refl)
named_reply capacity content (Ok (command.Create p)) bare = named_line (tree_of content) (command.Create p) (bare (command.Create p) refl)
named_reply capacity content (Ok (command.Rm p)) bare = named_line (tree_of content) (command.Rm p) (bare (command.Rm p) refl)
named_reply capacity content (Ok (command.Rmdir p)) bare = named_line (tree_of content) (command.Rmdir p) (bare (command.Rmdir p) refl)
named_reply capacity content (Ok (command.Mv p q)) bare = named_line (tree_of content) (command.Mv p q) (bare (command.Mv p q) refl)
named_reply capacity content (Ok (command.Ln p q)) bare = named_line (tree_of content) (command.Ln p q) (bare (command.Ln p q) refl)
named_reply capacity content (Ok (command.Write p n v)) bare = named_line (tree_of content) (command.Write p n v) (bare (command.Write p n v) refl)
named_reply capacity content (Ok (command.Read p n m)) bare = named_line (tree_of content) (command.Read p n m) (bare (command.Read p n m) refl)
named_reply capacity content (Ok (command.Trunc p n)) bare = named_line (tree_of content) (command.Trunc p n) (bare (command.Trunc p n) refl)
named_reply capacity content (Ok (command.Ls p)) bare = named_line (tree_of content) (command.Ls p) (bare (command.Ls p) refl)
named_reply capacity content (Ok (command.Stat p)) bare = named_line (tree_of content) (command.Stat p) (bare (command.Stat p) refl)
named_reply capacity content (Ok (command.Chmod p m)) bare = named_line (tree_of content) (command.Chmod p m) (bare (command.Chmod p m) refl)
named_reply capacity content (Ok (command.SetAttr p n v)) bare = named_line (tree_of content) (command.SetAttr p n v) (bare (command.SetAttr p n v) refl)
named_reply capacity content (Ok (command.GetAttr p n)) bare = named_line (tree_of content) (command.GetAttr p n) (bare (command.GetAttr p n) refl)
named_reply capacity content (Ok (command.DelAttr p n)) bare = named_line (tree_of content) (command.DelAttr p n) (bare (command.DelAttr p n) refl)
named_reply capacity content (Ok (command.LsAttr p)) bare = named_line (tree_of content) (command.LsAttr p) (bare (command.LsAttr p) refl)
named_reply capacity content (Ok (command.At n)) bare = named_line (tree_of content) (command.At n) (bare (command.At n) refl)
named_reply capacity content (Ok command.Sync) bare = named_line (tree_of content) command.Sync (bare command.Sync refl)

named_entry : (capacity : ℕ) (entry : Entry) → entry.own ≡ None → IsServed capacity entry → IsQuiet entry.line → HasNames entry.reply
named_entry capacity entry plain served quiet = by (subst (λ (own : Option Asked). IsServedBy capacity own entry) plain served.is)
  where
    asks : asked_by entry ≡ command_of entry.line
    asks = ap (λ (own : Option Asked). asked_in own entry.line) plain

    by : IsAnswered capacity entry ⊎ (LacksResource capacity entry ⊎ LacksMemory capacity entry) → HasNames entry.reply
    by (inl answered) = subst HasNames (sym answered.reply_is) (named_reply capacity entry.before (asked_by entry) (λ one is. quiet_command entry.line one quiet (sym asks ∙ is)))
    by (inr (inl lacks)) = subst HasNames (sym lacks.reply_is) tt
    by (inr (inr lacks)) = subst HasNames (sym lacks.reply_is) tt

-- ---- the numbers of a run

AreNamed : List Entry → Type 0
AreNamed [] = Unit {0}
AreNamed (entry ∷ run) = HasNames entry.reply × AreNamed run

named_run : (capacity : ℕ) (shrunk : Option ℕ) (content : Content) (run : List Entry) (all : List (List ℕ)) → IsRunFrom capacity shrunk content run → ArePlain run → lines_of run ≡ all → AreGood all → AreNamed run
unfolding AreNamed AreGood
named_run capacity shrunk content [] all is plain asked are = tt
named_run capacity shrunk content (entry ∷ run) [] is plain asked are = absurd (cc asked)
named_run capacity shrunk content (entry ∷ run) (line ∷ all) is plain asked are =
    let first : entry.line ≡ line = cc asked in
    let rest : lines_of run ≡ all = cc asked in
    (named_entry capacity entry plain.0 is.1 (subst IsQuiet (sym first) are.0.1), named_run capacity (shrunk_after shrunk entry) entry.after run all is.2 plain.1 rest are.1)

plain_both : (run more : List Entry) → ArePlain run → ArePlain more → ArePlain (run ++ more)
plain_both [] more first second = second
plain_both (entry ∷ run) more first second = (first.0, plain_both run more first.1 second)

tally_with : Bool → ℕ → ℕ → Tally
tally_with begins done refused = record { begins = begins; done = done; refused = refused }

skip : (text rest : List ℕ) (d r : ℕ) → in_line text ≡ true → tallied (tally_with false d r) (text ++ rest) ≡ tallied (tally_with false d r) rest
unfolding tallied tally_with
skip [] rest d r are = refl
skip (b ∷ text) rest d r are =
    let parts : (nat_le 32 b ≡ true) × (in_line text ≡ true) = and_parts _ _ are in
    let other : (b == 10) ≡ false = grind (arith, nat_tests) in
    ap (λ (f : Bool). tallied (tally_with f d r) (text ++ rest)) other ∙ skip text rest d r parts.1

-- the first byte of a reply
first_of : Bool → ℕ
first_of true = 110
first_of false = 111

begins_so : (said : Reply) → body_text said ≡ first_of (is_refusal said) ∷ drop 1 (body_text said)
unfolding first_of
begins_so reply.Ok = refl
begins_so (reply.Listing names) = refl
begins_so (reply.Facts facts) = refl
begins_so (reply.Content value) = refl
begins_so (reply.Gauge gauge) = refl
begins_so (reply.No why) = refl

-- a reply's line, counted
counted : Bool → ℕ → ℕ → Tally
counted true d r = tally_with true d (next_count r)
counted false d r = tally_with true (next_count d) r

one_line : (refused : Bool) (tail rest : List ℕ) (d r : ℕ) → in_line tail ≡ true → tallied (tally_with true d r) (first_of refused ∷ (tail ++ 10 ∷ rest)) ≡ tallied (counted refused d r) rest
unfolding tallied tally_with first_of counted
one_line true tail rest d r are = skip tail (10 ∷ rest) d (next_count r) are
one_line false tail rest d r are = skip tail (10 ∷ rest) (next_count d) r are

one_reply : (said : Reply) (rest : List ℕ) (d r : ℕ) → HasNames said → tallied (tally_with true d r) (reply_text said ++ rest) ≡ tallied (counted (is_refusal said) d r) rest
unfolding reply_text
one_reply said rest d r names =
    let body = body_text said in
    let tail = drop 1 body in
    let front = first_of (is_refusal said) in
    let is = begins_so said in
    let parts : (nat_le 32 front ≡ true) × (in_line tail ≡ true) = and_parts _ _ (sym (ap in_line is) ∙ body_in said names) in
    ap (tallied (tally_with true d r)) (append_assoc body (10 ∷ []) rest ∙ ap (λ (l : List ℕ). l ++ 10 ∷ rest) is) ∙ one_line (is_refusal said) tail rest d r parts.1

next_is : (n : ℕ) → n < 18446744073709551615 → next_count n ≡ n + 1
next_is n small = omega (arith, small)

counted_is : (refused : Bool) (d r : ℕ) → d < 18446744073709551615 → r < 18446744073709551615 → counted refused d r ≡ tally_with true (d + (if refused then 0 else 1)) (r + (if refused then 1 else 0))
unfolding counted
counted_is true d r small_d small_r = λ i. tally_with true ((let none : d ≡ d + 0 = omega arith in none) i) (next_is r small_r i)
counted_is false d r small_d small_r = λ i. tally_with true (next_is d small_d i) ((let none : r ≡ r + 0 = omega arith in none) i)

one_at_most : (refused : Bool) → (if refused then 0 else 1) + (if refused then 1 else 0) ≡ 1
one_at_most true = refl
one_at_most false = refl

run_tallied : (run : List Entry) → AreNamed run → (d r : ℕ) → d + r + length run ≤ 18446744073709551615 → tallied (tally_with true d r) (replies_of run) ≡ tally_with true (d + number_done run) (r + number_refused run)
unfolding AreNamed replies_of number_done number_refused tallied
run_tallied [] named d r small = λ i. tally_with true ((let none : d ≡ d + 0 = omega arith in none) i) ((let none : r ≡ r + 0 = omega arith in none) i)
run_tallied (entry ∷ run) named d r small =
    let no = is_refusal entry.reply in
    let more_d = (if no then 0 else 1) in
    let more_r = (if no then 1 else 0) in
    let one = one_at_most no in
    let sum_d : d + more_d + number_done run ≡ d + (more_d + number_done run) = omega arith in
    let sum_r : r + more_r + number_refused run ≡ r + (more_r + number_refused run) = omega arith in
    one_reply entry.reply (replies_of run) d r named.0
    ∙ ap (λ (t : Tally). tallied t (replies_of run)) (counted_is no d r (omega (arith, small)) (omega (arith, small)))
    ∙ run_tallied run named.1 (d + more_d) (r + more_r) (omega (arith, small, one))
    ∙ (λ i. tally_with true (sum_d i) (sum_r i))

number_done-append : (run more : List Entry) → number_done (run ++ more) ≡ number_done run + number_done more
unfolding number_done
number_done-append [] more = omega arith
number_done-append (entry ∷ run) more = omega (arith, number_done-append run more)

number_refused-append : (run more : List Entry) → number_refused (run ++ more) ≡ number_refused run + number_refused more
unfolding number_refused
number_refused-append [] more = omega arith
number_refused-append (entry ∷ run) more = omega (arith, number_refused-append run more)

all_numbered : (run : List Entry) → number_done run + number_refused run ≡ length run
unfolding number_done number_refused
all_numbered [] = refl
all_numbered (entry ∷ run) = omega (arith, all_numbered run, one_at_most (is_refusal entry.reply))

-- ---- a part of a stream

module _ (seed first end : ℕ) (order : first ≤ end) (most : end ≤ 18446744073709551615) (old : Stage) (played : HasPlayed seed first old) (bytes told : List ℕ) (cut : lines bytes ≡ stream_from seed first (end - first)) (image : Content) (serves : ServesBytes played.tree bytes told image) where
  asked_here : lines_of serves.run ≡ stream_from seed first (end - first)
  asked_here = serves.asked ∙ cut

  -- a run's length is that of its lines
  long_before : length played.run ≡ first
  long_before = sym (length-map played.run (λ (e : Entry). e.line)) ∙ ap length played.asked ∙ length-stream seed 0 first

  long_here : length serves.run ≡ end - first
  long_here = sym (length-map serves.run (λ (e : Entry). e.line)) ∙ ap length asked_here ∙ length-stream seed first (end - first)

  tally_is : tallied (record { begins = true; done = old.done; refused = old.refused }) told ≡ record { begins = true; done = old.done + number_done serves.run; refused = old.refused + number_refused serves.run }
  unfolding tally_with
  tally_is =
      ap (tallied (record { begins = true; done = old.done; refused = old.refused })) serves.replies
      ∙ run_tallied serves.run (named_run serves.capacity None serves.start serves.run (stream_from seed first (end - first)) serves.run_is serves.plain asked_here (stream_good seed first (end - first))) old.done old.refused
      (omega (arith, order, most, long_before, long_here, all_numbered played.run, played.done, played.refused))

  pub part_played : (new : Stage) → new.image.sectors.items ≡ image → (tally : Tally) → tally ≡ tallied (record { begins = true; done = old.done; refused = old.refused }) told → new.done ≡ tally.done → new.refused ≡ tally.refused → HasPlayed seed end new
  part_played new same tally is done refused =
      let whole : first + (end - first) ≡ end = omega (arith, order) in
      record {
        run = played.run ++ serves.run;
        tree = tree_after serves.start serves.run;
        plays = one_run fresh_tree played.run serves.capacity serves.start serves.run (subst (λ (t : PlainTree). Plays fresh_tree played.run t) (sym serves.begins) played.plays) serves.run_is;
        plain = plain_both played.run serves.run played.plain serves.plain;
        asked =
            map-append (λ (e : Entry). e.line) played.run serves.run ∙ (λ i. played.asked i ++ asked_here i) ∙ sym (stream_both seed first (end - first))
            ∙ ap (stream_from seed 0) whole;
        done = done ∙ ap (λ (t : Tally). t.done) (is ∙ tally_is) ∙ ap (λ (n : ℕ). n + number_done serves.run) played.done ∙ sym (number_done-append played.run serves.run);
        refused = refused ∙ ap (λ (t : Tally). t.refused) (is ∙ tally_is) ∙ ap (λ (n : ℕ). n + number_refused serves.run) played.refused ∙ sym (number_refused-append played.run serves.run);
        mounts = subst (λ (c : Content). MountsTo c (tree_after serves.start serves.run)) (sym same) serves.mounts;
      }

-- none was played yet
pub nothing_played : (seed : ℕ) (stage : Stage) → stage.done ≡ 0 → stage.refused ≡ 0 → MountsTo stage.image.sectors.items fresh_tree → HasPlayed seed 0 stage
unfolding stream_from number_done number_refused
nothing_played seed stage done refused mounts = record { run = []; tree = fresh_tree; plays = no_run fresh_tree; plain = tt; asked = refl; done = done; refused = refused; mounts = mounts }

pub played_at : (seed m n : ℕ) (stage : Stage) → m ≡ n → HasPlayed seed m stage → HasPlayed seed n stage
played_at seed m n stage same played = subst (λ (k : ℕ). HasPlayed seed k stage) same played

-- ---- one run

-- a volume in memory as a run begins
pub mounts_begun : (image : Content) (rig : State) (tree : PlainTree) → StartsWith image rig → (mounts : MountsTo image tree) → HasNothingPending rig × Mounts (content rig) mounts.0 mounts.1
mounts_begun image rig tree starts mounts =
    let same : content rig ≡ image = ap content_of starts.candidates ∙ content_of-only image in
    (starts.candidates ∙ ap only (sym same), subst (λ (c : Content). Mounts c mounts.0 mounts.1) (sym same) mounts.2)

-- the image that it leaves
pub image_is : (rig : State) (image : Content) → HasNothingPending rig → IsImage rig.candidates image → image ≡ content rig
image_is rig image settled is = image_only (content rig) image (subst (λ (d : Candidates). IsImage d image) settled is)

module _ (image : Content) (old new : State) (tree : PlainTree) (starts : StartsWith image old) (mounts : MountsTo image tree) (bytes : List ℕ) (source source_new : Stream) (hands : HandsOut bytes source) (finishes : FinishesRun mounts.0 mounts.1 old source new source_new) (left : Content) (leaves : IsImage new.candidates left) where
  pub served_bytes : (told : List ℕ) → told ≡ new.told → ServesBytes tree bytes told left
  served_bytes told is = record {
    capacity = mounts.0;
    start = mounts.1;
    run = finishes.run;
    begins = mounts.3;
    run_is = finishes.keeps.run_is;
    plain = finishes.keeps.plain;
    asked = finishes.all hands.tells ∙ ap lines hands.left;
    replies = is ∙ finishes.told ∙ ap (λ (l : List ℕ). l ++ replies_of finishes.run) starts.told;
    mounts = subst (λ (c : Content). MountsTo c (tree_after mounts.1 finishes.run)) (sym (image_is new left finishes.unmounted.away.settled leaves)) finishes.unmounted.mounts;
  }

-- what a result's value has
pub if_so : {A E : Type 0} (P Q : A → Type 0) (r : Result A E) → ((x : A) → P x → Q x) → IfOk r P → IfOk r Q
if_so P Q (Ok x) goes is = goes x is
if_so P Q (Err e) goes is = tt

-- ---- an empty volume, and a check

pub made_mounts : (old new : State) (left : Content) → IsMade old new → IsImage new.candidates left → MountsTo left fresh_tree
made_mounts old new left made leaves = subst (λ (c : Content). MountsTo c fresh_tree) (sym (image_is new left made.settled leaves)) made.fresh.mountable

pub mounted_sound : (image : Content) (tree : PlainTree) → MountsTo image tree → IsSoundImage image
mounted_sound image tree mounts = (mounts.1, record { accepted = mounts.2.is_open.accepted; recovers = mounts.2.recovers }, mounts.2.sound)

pub begun_sound : (image : Content) (rig : State) (tree : PlainTree) → StartsWith image rig → MountsTo image tree → IsSoundImage (content rig)
begun_sound image rig tree starts mounts = subst IsSoundImage (sym (ap content_of starts.candidates ∙ content_of-only image)) (mounted_sound image tree mounts)
