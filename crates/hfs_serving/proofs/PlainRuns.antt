-- Runs of plain lines, as their users read them: of a line that is longer than a line may be a front was held, and the whole text is an entry's.
use Rattle.std.proofs.Common.{◌≡◌, ◌++◌, [], ℕ, List, Result, Ok, Err, IsTrue, length, take, refl, sym, ◌∙◌, ap, subst, arith}
use Rattle.std.specs.Prelude.{IfOk, IsErrOf, None, OnOk, Option, Some}
use Rattle.std.proofs.lemmas.List.{take-append-le, take_all}
use Rattle.sector_disk.specs.Disk.{IsImage, State, content}
use Rattle.sector_disk.specs.Source.{Stream}
use Rattle.jnl_format.specs.Recovery.{Content}
use Rattle.hfs_language.specs.declared.reply.Change.{Change}
use Rattle.hfs_model.specs.declared.plain.PlainTree.{PlainTree}
use Rattle.hfs_volume.specs.Mount.{MountsTo}
use Rattle.hfs_volume.specs.TreeOf.{tree_of}
use Rattle.volume_runs.specs.Rest.{Rests}
use Rattle.volume_runs.specs.Run.{Entry, content_after, replies_of, shrunk_in, tree_after, ArePlain}
use Rattle.volume_runs.specs.Told.{changes_in}
use Rattle.hfs_serving.specs.Ending.{CameToRest, EndsTaking, FinishesRun, IsFinal, IsPutAway, IsntRefused, stop_in}
use Rattle.hfs_serving.specs.Plain.{IsPlain, spoke_plainly}
use Rattle.hfs_serving.specs.Runs.{Answer, IsPrefix, plain_answers, texts_of}
use Rattle.hfs_serving.specs.Speaking.{SpeaksFrom, Speech, spoken_on, unspoken}
use Rattle.hfs_serving.specs.Spoken.{AnswersRigSpoken, KeepsSpoken}
use Rattle.hfs_serving.specs.Taking.{HasTaken}
use Rattle.hfs_serving.specs.Top.{HoldsAnswered, KeepsAnswers, KeepsPromises, KnowsTo}
use Rattle.hfs_serving.specs.Watching.{AnswersRigHeard, FinishesHeard, KeepsHeard, LastHeard, StopsHeard}
use Rattle.hfs_serving.specs.declared.checking.MountRefusal.{MountRefusal}
use Rattle.hfs_serving.specs.declared.telling.Stop.{Stop}
use Rattle.hfs_serving.specs.declared.telling.Stop.TheVariants as stop
use Rattle.hfs_serving.proofs.Answering.{finish_of, last_heard, stop_heard}
use Rattle.hfs_serving.proofs.Lists.{content_after-none, plain_take}
use Rattle.hfs_serving.proofs.Mounting.{plain_keeps}
use Rattle.hfs_serving.proofs.Pending.{held_take}
use Rattle.hfs_serving.proofs.Plain.{texts_of_plain}
use Rattle.hfs_serving.proofs.Promising.{are_taken}
use Rattle.hfs_serving.proofs.Relabelling.{Holds, holds_take, relabel, relabel_answers, relabel_changes, relabel_content, relabel_length, relabel_lines, relabel_replies, relabel_run, relabel_shrunk, relabel_take, relabel_plain}
use Rattle.hfs_serving.proofs.Speeches.{none_spoken}
use Rattle.hfs_serving.proofs.Spelling.{plain_unspoken}

-- what plain lines spoke since a run began is plain
plainly : (start : Content) (speech : Speech) → SpeaksFrom start spoke_plainly spoke_plainly speech → IsPlain speech
plainly start speech said = subst IsPlain (none_spoken speech) (said.2 said.0 unspoken refl (ap (λ (c : Content). tree_of c) (content_after-none said.0)) plain_unspoken)

take_front : (run more : List Entry) → take (length run) (run ++ more) ≡ run
take_front run more = take-append-le (length run) run more (omega arith) ∙ take_all (length run) run (omega arith)

-- ---- over the whole texts

module _ (capacity : ℕ) (start : Content) (run : List Entry) (texts : List (List ℕ)) (plain : ArePlain run) (are : Holds run texts) where
  tree_text : (k : ℕ) → tree_after start (take k (relabel run texts)) ≡ tree_after start (take k run)
  tree_text k =
      ap (λ (r : List Entry). tree_of (content_after start r)) (relabel_take k run texts) ∙ ap (λ (c : Content). tree_of c) (relabel_content start (take k run) (take k texts) (holds_take k run texts are))

  holds_text : (answers : List Answer) (image : Content) (told : List ℕ) → HoldsAnswered start run answers image told → HoldsAnswered start (relabel run texts) answers image told
  holds_text answers image told it = record {
    count = it.count;
    some = omega (arith, it.some, relabel_length run texts are);
    mounts = subst (λ (t : PlainTree). MountsTo image t) (sym (tree_text it.count)) it.mounts;
    front = it.front;
    answered = it.answered;
  }

  knows_text : (known : ℕ) (image : Content) → KnowsTo start run known image → KnowsTo start (relabel run texts) known image
  knows_text known image it = record {
    count = it.count;
    many = it.many;
    some = omega (arith, it.some, relabel_length run texts are);
    mounts = subst (λ (t : PlainTree). MountsTo image t) (sym (tree_text it.count)) it.mounts;
  }

  keeps_text : (old : State) (answers : List Answer) (known : ℕ) (new : State) → KeepsAnswers capacity start old run answers known new → KeepsAnswers capacity start old (relabel run texts) answers known new
  keeps_text old answers known new it = record {
    run_is = relabel_run capacity None start run texts plain are it.run_is;
    crash = λ image told left. holds_text answers image told (it.crash image told left);
    told = it.told;
    knows = λ image is. knows_text known image (it.knows image is);
  }

  rests_text : (image : Content) → CameToRest capacity start run image → CameToRest capacity start (relabel run texts) image
  rests_text image it = record {
    last = it.last;
    rests =
        subst (λ (s : Option ℕ). Rests capacity s None (content_after start (relabel run texts)) it.last) (sym (relabel_shrunk None run texts plain are))
        (subst (λ (c : Content). Rests capacity (shrunk_in None run) None c it.last) (sym (relabel_content start run texts are)) it.rests);
    stood = it.stood;
    marked = it.marked;
    recovered = it.recovered;
    opens = it.opens;
    stands = it.stands;
  }

-- ---- over a rig and a source

err_same : {T : Type 0} (a b : Stop) → ◌≡◌ {A = Result T Stop} (Err a) (Err b) → a ≡ b
err_same a b is = cc is

module _ (heard : List Change) (capacity : ℕ) (start : Content) (old : State) (source : Stream) (new : State) (source_new : Stream) where
  pub keeps_of : KeepsSpoken (SpeaksFrom start spoke_plainly spoke_plainly) heard capacity start old source new source_new → KeepsHeard heard capacity start old source new source_new
  keeps_of kept =
      let whole = kept.whole in
      let all = spoken_on whole kept.rest in
      let some = take kept.count kept.texts in
      let known = length whole.run in
      let own = plainly start whole kept.whole_is in
      let both = plainly start all kept.is in
      let are : Holds all.run some = both.asked ∙ kept.asked ∙ held_take kept.count kept.texts in
      let run = relabel all.run some in
      let answers : all.answers ≡ plain_answers run = both.told ∙ sym (relabel_answers 0 all.run some are) in
      let front : take known all.run ≡ whole.run = take_front whole.run kept.rest.run in
      let held_front : Holds (take known all.run) (take known some) = holds_take known all.run some are in
      let replies : replies_of (take known run) ≡ texts_of whole.answers =
      ap (λ (r : List Entry). replies_of r) (relabel_take known all.run some) ∙ relabel_replies (take known all.run) (take known some) held_front ∙ ap (λ (r : List Entry). replies_of r) front ∙ sym (texts_of_plain 0 whole.run)
      ∙ ap (λ (l : List Answer). texts_of l) (sym own.told) in (
        record {
          run = run;
          known = known;
          keeps =
              plain_keeps capacity start old source run known new source_new (subst (λ (l : List Answer). KeepsAnswers capacity start old run l known new) answers (keeps_text capacity start all.run some both.plain are old all.answers known new kept.keeps))
              (relabel_plain all.run some both.plain) (λ tells. are_taken source source_new kept.texts run kept.count (relabel_lines all.run some are) (kept.taken tells));
        },
        record {
          changes =
              ap (λ (r : List Entry). changes_in 0 r) (relabel_take known all.run some) ∙ relabel_changes 0 (take known all.run) (take known some) (plain_take known all.run both.plain) held_front ∙ ap (λ (r : List Entry). changes_in 0 r) front ∙ own.changed ∙ kept.changes;
          behind = (kept.behind.0, subst (λ (l : List ℕ). IsPrefix kept.behind.0 l) (sym replies) kept.behind.1, kept.behind.2);
        },
      )

  rig_of : (texts : List (List ℕ)) → AnswersRigSpoken (SpeaksFrom start spoke_plainly spoke_plainly) heard capacity start old source texts new source_new → AnswersRigHeard heard capacity start old source texts new source_new
  rig_of texts rig =
      let speech = rig.speech in
      let plain = plainly start speech rig.is in
      let are : Holds speech.run texts = plain.asked ∙ rig.asked in
      let run = relabel speech.run texts in
      let answers : speech.answers ≡ plain_answers run = plain.told ∙ sym (relabel_answers 0 speech.run texts are) in (
        record {
          run = run;
          keeps =
              subst (λ (n : ℕ). KeepsPromises capacity start old source run n new source_new) (sym (relabel_length speech.run texts are))
              (plain_keeps capacity start old source run (length speech.run) new source_new
              (subst (λ (l : List Answer). KeepsAnswers capacity start old run l (length speech.run) new) answers (keeps_text capacity start speech.run texts plain.plain are old speech.answers (length speech.run) new rig.keeps))
              (relabel_plain speech.run texts plain.plain) (λ tells. are_taken source source_new texts run (length texts) (relabel_lines speech.run texts are ∙ sym (take_all (length texts) texts (omega arith))) (rig.taken tells)));
          asked = relabel_lines speech.run texts are;
          told = rig.told ∙ ap (λ (l : List ℕ). old.told ++ l) (ap (λ (l : List Answer). texts_of l) plain.told ∙ texts_of_plain 0 speech.run ∙ sym (relabel_replies speech.run texts are));
          rested = λ image is. rests_text capacity start speech.run texts plain.plain are image (rig.rested image is);
        },
        relabel_changes 0 speech.run texts plain.plain are ∙ plain.changed ∙ rig.changes,
      )

  abbrev Ends : Result (Result (Unit {0}) MountRefusal) Stop → (List (List ℕ) → Type 0) → Type 0
  Ends r answered =
      IsntRefused r → IsFinal (stop_in r) → (texts : List (List ℕ)) × (IsTrue source.tells → HasTaken [] source texts source_new × EndsTaking (stop_in r) [] source texts source_new) × (stop_in r ≡ Some stop.TooMany → length texts ≡ 4294967295) × answered texts

  abbrev Answered : Result (Result (Unit {0}) MountRefusal) Stop → Type 0
  Answered r = Ends r (λ texts. AnswersRigHeard heard capacity start old source texts new source_new)

  pub every_of : (r : Result (Result (Unit {0}) MountRefusal) Stop) → Ends r (λ texts. AnswersRigSpoken (SpeaksFrom start spoke_plainly spoke_plainly) heard capacity start old source texts new source_new) → Answered r
  every_of r answers isnt final = let there = answers isnt final in (there.0, there.1, there.2, rig_of there.0 there.3)

  pub all_of : (r : Result (Result (Unit {0}) MountRefusal) Stop) → IsImage new.candidates (content new) → Answered r → IfOk r (λ answer. OnOk answer (IsPutAway new)) → IfOk r (λ answer. OnOk answer (FinishesHeard heard capacity start old source new source_new))
  all_of (Ok (Ok done)) is answers away = let there = answers tt tt in finish_of capacity start old source there.0 new source_new is (λ tells. (there.1 tells).1) away there.3
  all_of (Ok (Err why)) is answers away = tt
  all_of (Err why) is answers away = tt

  pub finished_of : (r : Result (Result (Unit {0}) MountRefusal) Stop) → IfOk r (λ answer. OnOk answer (FinishesHeard heard capacity start old source new source_new)) → IfOk r (λ answer. OnOk answer (FinishesRun capacity start old source new source_new))
  finished_of (Ok (Ok done)) it = it.0
  finished_of (Ok (Err why)) it = tt
  finished_of (Err why) it = tt

  pub stopped_of : (r : Result (Result (Unit {0}) MountRefusal) Stop) → Answered r → IsErrOf r stop.Source → StopsHeard heard capacity start old source new source_new
  stopped_of (Ok answer) answers is = absurd (cc is)
  stopped_of (Err why) answers is =
      let same = err_same why stop.Source is in
      let there = answers tt (subst (λ s. IsFinal (Some s)) (sym same) tt) in
      stop_heard capacity start old source there.0 new source_new (λ told. subst (λ s. EndsTaking (Some s) [] source there.0 source_new) same (there.1 told).1) there.3

  pub last_of : (r : Result (Result (Unit {0}) MountRefusal) Stop) → Answered r → IsErrOf r stop.TooMany → LastHeard heard capacity start old source new source_new
  last_of (Ok answer) answers is = absurd (cc is)
  last_of (Err why) answers is =
      let same = err_same why stop.TooMany is in
      let there = answers tt (subst (λ s. IsFinal (Some s)) (sym same) tt) in
      last_heard capacity start old source there.0 new source_new (there.2 (ap Some same)) there.3
