-- What sessions promise follows from what any run promises that tells its lines' answers.
use Rattle.std.proofs.Common.{◌≡◌, ◌≤◌, ◌<◌, ◌+◌, ◌-◌, [], ◌∷◌, ◌++◌, ℕ, zero, suc, List, inl, inr, length, take, refl, sym, ◌∙◌, ap, subst, arith, length-append}
use Rattle.std.specs.Prelude.{IsTrue, map, reverse}
use Rattle.std.proofs.lemmas.Bool.{cases_lt}
use Rattle.std.proofs.lemmas.List.{take-append-le, take_all}
use Rattle.sector_disk.specs.Disk.{IsImage, State, content}
use Rattle.sector_disk.specs.Source.{Stream}
use Rattle.jnl_format.specs.Recovery.{Content}
use Rattle.hfs_language.specs.Lines.{lines}
use Rattle.hfs_model.specs.declared.plain.PlainTree.{PlainTree}
use Rattle.hfs_volume.specs.Mount.{MountsTo}
use Rattle.hfs_volume.specs.TreeOf.{tree_of}
use Rattle.volume_runs.specs.Run.{Entry, content_after, tree_after}
use Rattle.hfs_serving.proofs.Lists.{content_after-append, content_after-none}
use Rattle.hfs_serving.proofs.Speeches.{none_spoken}
use Rattle.open_files.specs.Keeping.{release, releases, seen}
use Rattle.open_files.specs.Machine.{Machine}
use Rattle.hfs_language.specs.declared.reply.Change.{Change}
use Rattle.hfs_serving.specs.Ending.{IsPutAway}
use Rattle.hfs_serving.specs.Runs.{Answer, AreAnswered}
use Rattle.hfs_serving.specs.Speaking.{SpeaksFrom, Speech, Spoken, spoken_on, unspoken}
use Rattle.hfs_serving.specs.Spoken.{AnswersRigSpoken, KeepsSpoken}
use Rattle.hfs_serving.specs.Top.{HoldsAnswered}
use Rattle.open_files.specs.declared.act.OpenFile.{OpenFile}
use Rattle.session_lines.specs.Made.{SeesAs, none_made}
use Rattle.session_lines.specs.Sessions.{AnswersSessions, FinishesSessions, KeepsSessions, Survives, SurvivesInSessions, by_lines}
use Rattle.session_lines.specs.Turns.{AreTurns, BrokenSessions, MayBegin, SpokeSessions, machine_on, no_turn}
use Rattle.session_lines.proofs.Prefixes.{cut_turns, none_cut, take_past}

module _ (start : Content) (released run : List Entry) (lines : List (List ℕ)) (answers : List Answer) (last : Machine) where
  abbrev opened : Content
  opened = content_after start released

  abbrev machine : Machine
  machine = machine_on (tree_after start released)

  module _ (unseen : (count : ℕ) → count ≤ length released → SeesAs start (take count released) (tree_after start released)) (turns : AreTurns opened machine (length released) lines run answers last) where
    -- an image on which the first of all entries stand
    survives_early : (image : Content) (told : List ℕ) (survives : HoldsAnswered start (released ++ run) answers image told) → survives.count < length released → SurvivesInSessions opened machine (length released) lines answers image told
    survives_early image told survives less =
        let same : take survives.count (released ++ run) ≡ take survives.count released = take-append-le survives.count released run (omega (arith, less)) in
        let sees : seen (tree_after start (take survives.count (released ++ run))) ≡ seen machine.tree = ap (λ (r : List Entry). seen (tree_after start r)) same ∙ unseen survives.count (omega (arith, less)) in
        let cut = none_cut opened machine (length released) lines run answers last turns (tree_after start (take survives.count (released ++ run))) sees survives.count less in
        record { tree = tree_after start (take survives.count (released ++ run)); mounts = survives.mounts; count = 0; first = cut.0; front = survives.front; answered = cut.1 told survives.answered }

    survives_late : (image : Content) (told : List ℕ) (survives : HoldsAnswered start (released ++ run) answers image told) → length released ≤ survives.count → SurvivesInSessions opened machine (length released) lines answers image told
    survives_late image told survives past =
        let some = survives.some in
        let cut = cut_turns opened machine (length released) lines run answers last turns refl (survives.count - length released) (omega (arith, some, past, length-append released run)) in
        let same : take survives.count (released ++ run) ≡ released ++ take (survives.count - length released) run = take_past released run survives.count past in
        let tree_is : tree_after start (take survives.count (released ++ run)) ≡ tree_after opened (take (survives.count - length released) run) =
        ap (λ (r : List Entry). tree_after start r) same ∙ ap (λ (c : Content). tree_of c) (content_after-append start released (take (survives.count - length released) run)) in
        let sum : survives.count ≡ length released + (survives.count - length released) = omega (arith, past) in
        record {
          tree = tree_after start (take survives.count (released ++ run));
          mounts = survives.mounts;
          count = cut.lines_done;
          first = record { some = cut.first.some; run = cut.first.run; answers = cut.first.answers; middle = cut.first.middle; turns = cut.first.turns; sees = ap (λ t. seen t) tree_is ∙ cut.first.sees };
          front = survives.front;
          answered = subst (λ n. AreAnswered [] (by_lines 0 answers) told n) (zero_more cut.lines_done) (cut.answered told [] 0 (subst (λ n. AreAnswered [] answers told n) sum survives.answered));
        }
      where
        zero_more : (n : ℕ) → 0 + n ≡ n
        zero_more n = omega arith

    pub survives_in_sessions : (image : Content) (told : List ℕ) → HoldsAnswered start (released ++ run) answers image told → SurvivesInSessions opened machine (length released) lines answers image told
    survives_in_sessions image told survives = elim (cases_lt survives.count (length released)) [
      | inl less ↦ survives_early image told survives less
      | inr past ↦ survives_late image told survives past
    ]

-- what is left of what was spoken
pub survives : (start : Content) (speech : Speech) (is : BrokenSessions start speech) (image : Content) (told : List ℕ) → HoldsAnswered start speech.run speech.answers image told → Survives start speech is image told
survives start speech is image told holds = survives_in_sessions start is.released is.own speech.lines speech.answers is.last is.releases_are.unseen is.turns image told
    (subst (λ (r : List Entry). HoldsAnswered start r speech.answers image told) is.run_is holds)

-- ---- what was spoken from the begin of a run on

none_taken : (count : ℕ) (none : List Entry) → none ≡ [] → take count none ≡ []
none_taken zero [] is = refl
none_taken (suc count) [] is = refl
none_taken count (entry ∷ none) is = absurd (cc is)

-- Nothing was spoken yet.
pub nothing_spoken : (start : Content) (files : List ℕ) → MayBegin (tree_of start) files → SpokeSessions start unspoken [] files
nothing_spoken start files begins = record {
  spoken = record {
    released = [];
    left = releases (tree_of start);
    own = [];
    last = machine_on (tree_of start);
    run_is = refl;
    releases_are = record { done = []; replies = []; are = refl; made = none_made; unseen = λ count some. ap (λ (r : List Entry). seen (tree_after start r)) (none_taken count [] refl) };
    first = inr refl;
    turns = subst (λ (c : Content). AreTurns c (machine_on (tree_of c)) 0 [] [] [] (machine_on (tree_of start))) (sym (content_after-none start)) (no_turn start (machine_on (tree_of start)) 0);
  };
  answered = refl;
  tree = ap (λ (c : Content). tree_of c) (sym (content_after-none start));
  handles_are = refl;
  left_are = begins.files_are;
  own = begins.own;
  few = begins.few;
  named = λ opened has. absurd (omega (arith, has.1));
}

spoken_whole : (start : Content) (files : List ℕ) (to : Spoken) (speech : Speech) → MayBegin (tree_of start) files → SpeaksFrom start (λ start speech. SpokeSessions start speech [] files) to speech → to start speech
spoken_whole start files to speech begins said =
    subst (λ (s : Speech). to start s) (none_spoken speech)
    (said.2 start unspoken refl (ap (λ (c : Content). tree_of c) (content_after-none start) ∙ sym said.1) (nothing_spoken start files begins))

module _ (start : Content) (files : List ℕ) (begins : MayBegin (tree_of start) files) (capacity : ℕ) (heard : List Change) (old new : State) (source source_new : Stream) where
  abbrev from : Spoken
  from = λ start speech. SpokeSessions start speech [] files

  -- Whatever ended the run, it keeps what sessions promise.
  pub keeps_sessions : KeepsSpoken (SpeaksFrom start from BrokenSessions) heard capacity start old source new source_new → KeepsSessions start old source new source_new
  keeps_sessions keeps =
      let speech = spoken_on keeps.whole keeps.rest in
      let broken = spoken_whole start files BrokenSessions speech begins keeps.is in
      record {
        speech = speech;
        is = broken;
        texts = keeps.texts;
        count = keeps.count;
        taken = keeps.taken;
        asked = keeps.asked;
        crash = λ image told left. survives start speech broken image told (keeps.keeps.crash image told left);
        told = keeps.keeps.told;
      }

  module _ (handles : List OpenFile) (left : List ℕ) (texts : List (List ℕ)) where
    -- Where the source ended it, each line that was taken was answered.
    pub answers_sessions : AnswersRigSpoken (SpeaksFrom start from (λ start speech. SpokeSessions start speech handles left)) heard capacity start old source texts new source_new → AnswersSessions start old source texts new source_new
    answers_sessions keeps =
        let spoke = spoken_whole start files (λ start speech. SpokeSessions start speech handles left) keeps.speech begins keeps.is in
        record {
          speech = keeps.speech;
          is = spoke.spoken;
          taken = keeps.taken;
          asked = keeps.asked;
          answered = spoke.answered;
          crash = λ image told left. survives start keeps.speech spoke.spoken image told (keeps.keeps.crash image told left);
          told = keeps.told;
          tree = sym spoke.tree;
        }

    -- where the speaker has no file left, none is
    none_left : (keeps : AnswersRigSpoken (SpeaksFrom start from (λ start speech. SpokeSessions start speech handles left)) heard capacity start old source texts new source_new) → left ≡ [] → (answers_sessions keeps).is.left ≡ []
    unfolding answers_sessions
    none_left keeps none = (spoken_whole start files (λ start speech. SpokeSessions start speech handles left) keeps.speech begins keeps.is).left_are ∙ ap (λ (l : List ℕ). map release (reverse l)) none

    -- At its end the volume is unmounted.
    pub finishes_sessions : AnswersRigSpoken (SpeaksFrom start from (λ start speech. SpokeSessions start speech handles left)) heard capacity start old source texts new source_new
        → left ≡ [] → IsImage new.candidates (content new) → IsPutAway new → (IsTrue source.tells → texts ≡ lines source.left) → FinishesSessions start old source new source_new
    unfolding answers_sessions
    finishes_sessions keeps none own away all =
        let answers = answers_sessions keeps in
        let known = keeps.keeps.knows (content new) own in
        let many = known.many in
        let some = known.some in
        let whole : take known.count keeps.speech.run ≡ keeps.speech.run = take_all known.count keeps.speech.run many in
        record {
          texts = texts;
          answers = answers;
          released = none_left keeps none;
          all = all;
          unmounted = record {
            mounts = subst (λ (t : PlainTree). MountsTo (content new) t) (ap (λ (r : List Entry). tree_after start r) whole ∙ answers.tree) known.mounts;
            away = away;
          };
        }
