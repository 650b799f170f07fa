-- Runs over lines of which only a front is held: an entry of such a line is one of the whole text.
use Rattle.std.proofs.Common.{◌≡◌, ◌⊎◌, ◌<◌, ◌≤◌, ◌+◌, ◌∷◌, [], ◌++◌, zero, suc, inl, inr, ⊎_elim, ℕ, List, length, take, refl, sym, ◌∙◌, ap, subst, arith, Result, Ok, Err}
use Rattle.std.specs.Prelude.{Option, if◌then◌else◌, None}
use Rattle.std.proofs.lemmas.Bool.{cases_lt}
use Rattle.std.proofs.lemmas.Bool.Decides.{nat_tests}
use Rattle.std.proofs.lemmas.List.{length-take-le, take_all}
use Rattle.hfs_volume.specs.declared.asked.Asked.{Asked}
use Rattle.jnl_format.specs.Recovery.{Content}
use Rattle.hfs_language.specs.Language.{command_of, most_bytes}
use Rattle.hfs_language.specs.Text.{reply_text}
use Rattle.hfs_language.specs.declared.command.Command.{Command}
use Rattle.hfs_language.specs.declared.refusal.Refusal.{Refusal}
use Rattle.hfs_language.specs.declared.refusal.Refusal.TheVariants.{TooLong}
use Rattle.hfs_model.specs.Step.{step_line}
use Rattle.hfs_volume.specs.TreeOf.{tree_of}
use Rattle.volume_runs.specs.Told.{changes_by, changes_in, changes_asked}
use Rattle.hfs_language.specs.declared.reply.Change.{Change}
use Rattle.volume_runs.specs.Rest.{Rests}
use Rattle.volume_runs.specs.Run.{DoesLine, Entry, IsAnswered, IsRunFrom, IsServed, LacksMemory, LacksResource, asked_by, content_after, is_ok, lines_of, or_before, replies_of, reply_to, shrunk_after, shrunk_by, shrunk_in, spelled, ArePlain, IsServedBy, asked_in, wanted_by, wanted_in}
use Rattle.hfs_serving.specs.Runs.{Answer, replies_from}
use Rattle.line_source.specs.Batch.{held}

-- ---- one line

too_long : (line : List ℕ) → most_bytes < length line → command_of line ≡ Err TooLong
unfolding command_of
too_long line long = grind (arith, nat_tests, long)

-- what a line asks for is seen at what is held of it
pub command_held : (text : List ℕ) → command_of (take (most_bytes + 1) text) ≡ command_of text
command_held text = ⊎_elim
    (λ (big : most_bytes + 1 < length text). too_long (take (most_bytes + 1) text) (omega (arith, length-take-le (most_bytes + 1) text (omega (arith, big)))) ∙ sym (too_long text (omega (arith, big))))
    (λ (small : length text ≤ most_bytes + 1). ap command_of (take_all (most_bytes + 1) text small))
    (cases_lt (most_bytes + 1) (length text))

-- the entry of a line with this text
pub with_text : Entry → List ℕ → Entry
with_text entry text = record entry { line = text }

module _ (entry : Entry) (text : List ℕ) (is : entry.line ≡ take (most_bytes + 1) text) (plain : entry.own ≡ None) where
  same_command : asked_by entry ≡ command_of text
  same_command = (λ i. asked_in (plain i) (is i)) ∙ command_held text

  text_command : asked_in entry.own text ≡ command_of text
  text_command = ap (λ (own : Option Asked). asked_in own text) plain

  both_commands : asked_by entry ≡ asked_in entry.own text
  both_commands = same_command ∙ sym text_command

  pub same_wanted : wanted_by entry ≡ wanted_by (with_text entry text)
  unfolding with_text
  same_wanted = (λ i. wanted_in (plain i) (is i)) ∙ ap spelled (command_held text) ∙ sym (ap (λ (own : Option Asked). wanted_in own text) plain)

  pub served_text : (capacity : ℕ) → IsServed capacity entry → IsServed capacity (with_text entry text)
  unfolding with_text
  served_text capacity served = record {
    sound_before = served.sound_before;
    sound_after = served.sound_after;
    is = subst (λ (own : Option Asked). IsServedBy capacity own (record entry { line = text })) (sym plain) (go (subst (λ (own : Option Asked). IsServedBy capacity own entry) plain served.is));
  }
    where
      go : IsAnswered capacity entry ⊎ (LacksResource capacity entry ⊎ LacksMemory capacity entry)
          → IsAnswered capacity (record entry { line = text }) ⊎ (LacksResource capacity (record entry { line = text }) ⊎ LacksMemory capacity (record entry { line = text }))
      go (inl a) = inl (record {
        reply_is = subst (λ (asked : Result Command Refusal). entry.reply ≡ reply_to capacity entry.before asked) both_commands a.reply_is;
        tree = subst (λ (asked : Result Command Refusal). tree_of entry.after ≡ (step_line (tree_of entry.before) asked).1) both_commands a.tree;
        does = subst (λ (asked : Result Command Refusal). DoesLine capacity asked entry.before entry.after) both_commands a.does;
      })
      go (inr (inl l)) = inr (inl (record { asked = l.asked; is_asked = sym both_commands ∙ l.is_asked; no_refusal = l.no_refusal; why = l.why; weighs = l.weighs; reply_is = l.reply_is; same = l.same }))
      go (inr (inr m)) = inr (inr (record { reply_is = m.reply_is; same = m.same }))

  pub shrunk_text : (shrunk : Option ℕ) → shrunk_after shrunk (with_text entry text) ≡ shrunk_after shrunk entry
  unfolding with_text
  shrunk_text shrunk = sym (ap (λ (asked : Result Command Refusal). if is_ok entry.reply then or_before (shrunk_by (tree_of entry.before) asked) shrunk else shrunk) both_commands)

-- ---- a run

-- the run over lines with these texts
pub relabel : List Entry → List (List ℕ) → List Entry
relabel [] texts = []
relabel (entry ∷ run) [] = []
relabel (entry ∷ run) (text ∷ texts) = with_text entry text ∷ relabel run texts

-- these texts are held as the run's lines
abbrev pub Holds : List Entry → List (List ℕ) → Type 0
Holds run texts = lines_of run ≡ held most_bytes texts

first_held : (entry : Entry) (run : List Entry) (text : List ℕ) (texts : List (List ℕ)) → Holds (entry ∷ run) (text ∷ texts) → entry.line ≡ take (most_bytes + 1) text
first_held entry run text texts holds = cc holds

rest_held : (entry : Entry) (run : List Entry) (text : List ℕ) (texts : List (List ℕ)) → Holds (entry ∷ run) (text ∷ texts) → Holds run texts
rest_held entry run text texts holds = cc holds

pub relabel_lines : (run : List Entry) (texts : List (List ℕ)) → Holds run texts → lines_of (relabel run texts) ≡ texts
unfolding relabel with_text
relabel_lines [] [] holds = refl
relabel_lines [] (text ∷ texts) holds = absurd (cc holds)
relabel_lines (entry ∷ run) [] holds = absurd (cc holds)
relabel_lines (entry ∷ run) (text ∷ texts) holds = ap (λ (l : List (List ℕ)). text ∷ l) (relabel_lines run texts (rest_held entry run text texts holds))

pub relabel_length : (run : List Entry) (texts : List (List ℕ)) → Holds run texts → length (relabel run texts) ≡ length run
unfolding relabel
relabel_length [] texts holds = refl
relabel_length (entry ∷ run) [] holds = absurd (cc holds)
relabel_length (entry ∷ run) (text ∷ texts) holds = ap suc (relabel_length run texts (rest_held entry run text texts holds))

pub relabel_replies : (run : List Entry) (texts : List (List ℕ)) → Holds run texts → replies_of (relabel run texts) ≡ replies_of run
unfolding relabel replies_of with_text
relabel_replies [] texts holds = refl
relabel_replies (entry ∷ run) [] holds = absurd (cc holds)
relabel_replies (entry ∷ run) (text ∷ texts) holds = ap (λ (l : List ℕ). reply_text entry.reply ++ l) (relabel_replies run texts (rest_held entry run text texts holds))

pub relabel_answers : (before : ℕ) (run : List Entry) (texts : List (List ℕ)) → Holds run texts → replies_from before (relabel run texts) ≡ replies_from before run
unfolding relabel with_text
relabel_answers before [] texts holds = refl
relabel_answers before (entry ∷ run) [] holds = absurd (cc holds)
relabel_answers before (entry ∷ run) (text ∷ texts) holds =
    ap (λ (l : List Answer). record { text = reply_text entry.reply; upto = before + 1 } ∷ l) (relabel_answers (before + 1) run texts (rest_held entry run text texts holds))

changes_text : (entry : Entry) (text : List ℕ) → entry.line ≡ take (most_bytes + 1) text → entry.own ≡ None → (number : ℕ) → changes_by number (with_text entry text) ≡ changes_by number entry
unfolding with_text
changes_text entry text is plain number = sym (ap (λ (asked : Option Asked). if is_ok entry.reply then changes_asked number (tree_of entry.before) asked else []) (same_wanted entry text is plain))

pub relabel_changes : (number : ℕ) (run : List Entry) (texts : List (List ℕ)) → ArePlain run → Holds run texts → changes_in number (relabel run texts) ≡ changes_in number run
unfolding relabel changes_in
relabel_changes number [] texts plain holds = refl
relabel_changes number (entry ∷ run) [] plain holds = absurd (cc holds)
relabel_changes number (entry ∷ run) (text ∷ texts) plain holds =
    ap (λ (l : List Change). l ++ changes_in (number + 1) (relabel run texts)) (changes_text entry text (first_held entry run text texts holds) plain.0 number)
    ∙ ap (λ (l : List Change). changes_by number entry ++ l) (relabel_changes (number + 1) run texts plain.1 (rest_held entry run text texts holds))

pub relabel_plain : (run : List Entry) (texts : List (List ℕ)) → ArePlain run → ArePlain (relabel run texts)
unfolding relabel with_text
relabel_plain [] texts plain = tt
relabel_plain (entry ∷ run) [] plain = tt
relabel_plain (entry ∷ run) (text ∷ texts) plain = (plain.0, relabel_plain run texts plain.1)

pub relabel_content : (start : Content) (run : List Entry) (texts : List (List ℕ)) → Holds run texts → content_after start (relabel run texts) ≡ content_after start run
unfolding relabel content_after with_text
relabel_content start [] texts holds = refl
relabel_content start (entry ∷ run) [] holds = absurd (cc holds)
relabel_content start (entry ∷ run) (text ∷ texts) holds = relabel_content entry.after run texts (rest_held entry run text texts holds)

pub relabel_shrunk : (shrunk : Option ℕ) (run : List Entry) (texts : List (List ℕ)) → ArePlain run → Holds run texts → shrunk_in shrunk (relabel run texts) ≡ shrunk_in shrunk run
unfolding relabel shrunk_in
relabel_shrunk shrunk [] texts plain holds = refl
relabel_shrunk shrunk (entry ∷ run) [] plain holds = absurd (cc holds)
relabel_shrunk shrunk (entry ∷ run) (text ∷ texts) plain holds =
    ap (λ (s : Option ℕ). shrunk_in s (relabel run texts)) (shrunk_text entry text (first_held entry run text texts holds) plain.0 shrunk) ∙ relabel_shrunk (shrunk_after shrunk entry) run texts plain.1 (rest_held entry run text texts holds)

pub relabel_run : (capacity : ℕ) (shrunk : Option ℕ) (start : Content) (run : List Entry) (texts : List (List ℕ)) → ArePlain run → Holds run texts → IsRunFrom capacity shrunk start run → IsRunFrom capacity shrunk start (relabel run texts)
unfolding relabel with_text
relabel_run capacity shrunk start [] texts plain holds is = is
relabel_run capacity shrunk start (entry ∷ run) [] plain holds is = absurd (cc holds)
relabel_run capacity shrunk start (entry ∷ run) (text ∷ texts) plain holds is =
    let line_is = first_held entry run text texts holds in (
      subst (λ (asked : Option Asked). Rests capacity shrunk asked start entry.before) (same_wanted entry text line_is plain.0) is.0,
      served_text entry text line_is plain.0 capacity is.1,
      subst (λ (s : Option ℕ). IsRunFrom capacity s entry.after (relabel run texts)) (sym (shrunk_text entry text line_is plain.0 shrunk))
          (relabel_run capacity (shrunk_after shrunk entry) entry.after run texts plain.1 (rest_held entry run text texts holds) is.2),
    )

pub relabel_take : (k : ℕ) (run : List Entry) (texts : List (List ℕ)) → take k (relabel run texts) ≡ relabel (take k run) (take k texts)
unfolding relabel
relabel_take zero run texts = refl
relabel_take (suc k) [] texts = refl
relabel_take (suc k) (entry ∷ run) [] = refl
relabel_take (suc k) (entry ∷ run) (text ∷ texts) = ap (λ (l : List Entry). with_text entry text ∷ l) (relabel_take k run texts)

pub holds_take : (k : ℕ) (run : List Entry) (texts : List (List ℕ)) → Holds run texts → Holds (take k run) (take k texts)
holds_take zero run texts holds = refl
holds_take (suc k) [] [] holds = refl
holds_take (suc k) [] (text ∷ texts) holds = absurd (cc holds)
holds_take (suc k) (entry ∷ run) [] holds = absurd (cc holds)
holds_take (suc k) (entry ∷ run) (text ∷ texts) holds =
    let first : entry.line ≡ take (most_bytes + 1) text = first_held entry run text texts holds in
    let rest = holds_take k run texts (rest_held entry run text texts holds) in
    cc (first, rest)
