-- From a run over a rig to its promises.
use Rattle.std.proofs.Common.{◌≡◌, ◌+◌, ◌++◌, [], ℕ, List, inl, refl, length, append_assoc, take, sym, ◌∙◌, arith, ap, subst}
use Rattle.std.proofs.lemmas.List.{append-nil}
use Rattle.std.specs.Prelude.{None, Option, IsTrue}
use Rattle.sector_disk.specs.Disk.{IsImage, LeftNow, State}
use Rattle.sector_disk.specs.Source.{Stream}
use Rattle.sector_disk.specs.Space.{Space}
use Rattle.jnl_format.specs.Recovery.{Content}
use Rattle.jnl_replay.specs.declared.plan.Plan.{Plan}
use Rattle.jnl_store.specs.Spaces.{found}
use Rattle.hfs_volume.specs.Aside.{AsideIsFree}
use Rattle.hfs_volume.specs.TreeOf.{tree_of}
use Rattle.volume_runs.specs.Run.{Entry, lines_of, tree_after}
use Rattle.hfs_volume.specs.Sound.{IsSound}
use Rattle.hfs_serving.specs.Closing.{Finishes, MayFinish}
use Rattle.hfs_serving.specs.Going.{Knowing, Stands}
use Rattle.hfs_serving.specs.Grounds.{anchor_of}
use Rattle.hfs_serving.specs.Opening.{MayServe}
use Rattle.hfs_serving.specs.Outside.{Outside, outside_of}
use Rattle.hfs_language.specs.Language.{most_bytes}
use Rattle.line_source.specs.Batch.{held}
use Rattle.hfs_serving.specs.Runs.{Answer, Crashes, Serves, StandsAs, plain_answers}
use Rattle.hfs_serving.specs.Speaking.{Speech, Said, spoken_on}
use Rattle.hfs_serving.specs.Spoken.{CrashesSpoken, EndsSpoken, KeepsSpoken, ServesSpoken}
use Rattle.hfs_language.specs.declared.reply.Change.{Change}
use Rattle.hfs_serving.specs.Steps.{CrashesStep, KeepsRun}
use Rattle.hfs_serving.specs.Taking.{HasTaken}
use Rattle.hfs_serving.specs.Top.{AreTaken}
use Rattle.hfs_language.specs.Lines.{lines}
use Rattle.line_source.specs.Input.{ahead, SplitsIntoLines, TakesLines}
use Rattle.line_source.proofs.Cuts.{none_left}
use Rattle.hfs_serving.proofs.WholeLines.{cuts_front}
use Rattle.hfs_serving.proofs.Agreeing.{stands_durable}
use Rattle.hfs_serving.proofs.Bridging.{found_by}
use Rattle.hfs_serving.proofs.Grounding.{outside_by}
use Rattle.hfs_serving.proofs.Lists.{content_after-none, shrunk_in-none}
use Rattle.hfs_serving.proofs.Mounting.{plain_keeps, promises_all}
use Rattle.hfs_serving.proofs.Pending.{held_all}
use Rattle.hfs_serving.proofs.Staging.{end_crashes}
use Rattle.hfs_serving.proofs.Speeches.{behind_tree, shifted-none}
use Rattle.hfs_serving.proofs.Stepping.{all_known}
use Rattle.hfs_serving.proofs.Stretches.{crashes_both, plain_crashes_both}
use Rattle.hfs_serving.proofs.Texts.{texts_of-none}

-- what a mount finds hangs on the anchor alone
pub finds_by : (a b : Plan) → anchor_of a ≡ anchor_of b → found a ≡ found b
finds_by a b same = λ i. λ image. found_by a b image (ap (λ x. x.place) same) (ap (λ x. x.info) same) (ap (λ x. x.blhdr) same) i

-- a run over the first of the lines that were taken
pub are_taken : (source source_new : Stream) (texts : List (List ℕ)) (run : List Entry) (count : ℕ) → lines_of run ≡ take count texts → HasTaken [] source texts source_new → AreTaken source run source_new
are_taken source source_new texts run count asked has =
    let front = cuts_front count has.used texts (has.rest ++ source_new.left) has.cut in
    let behind = sym (append_assoc front.later has.rest source_new.left) in
    record {
      used = front.first;
      rest = front.later ++ has.rest;
      bytes = has.bytes ∙ ap (λ (l : List ℕ). l ++ (has.rest ++ source_new.left)) front.bytes ∙ append_assoc front.first front.later (has.rest ++ source_new.left) ∙ ap (λ (l : List ℕ). front.first ++ l) behind;
      cut = subst (λ (l : List (List ℕ)). SplitsIntoLines front.first l ((front.later ++ has.rest) ++ source_new.left)) (sym asked) (subst (λ (l : List ℕ). SplitsIntoLines front.first (take count texts) l) behind front.cut);
    }

-- lines that were taken to the end
pub has_all : (source source_new : Stream) (texts : List (List ℕ)) (taken : List ℕ) → TakesLines [] source texts taken source_new → HasTaken [] source texts source_new
has_all source source_new texts taken takes = record { used = takes.used; rest = taken; bytes = takes.bytes; cut = takes.cut }

-- nothing was taken of the source
pub took_none : (taken : List ℕ) (source : Stream) → HasTaken taken source [] source
took_none taken source = record { used = []; rest = taken; bytes = refl; cut = inl (λ more. refl) }

-- nothing was taken
pub has_none : (source : Stream) → HasTaken [] source [] source
has_none source = record { used = []; rest = []; bytes = refl; cut = inl (λ more. refl) }

-- a stretch over lines that were taken, from what stands for the run's start
pub keeps_from : (law : AsideIsFree) (capacity : ℕ) (start : Content) (plan : Plan) (old new : State) (texts : List (List ℕ)) → ((image : Content) (told : List ℕ) → old.clock.left old.clock.moment image told → LeftNow old image told)
    → ((image : Content) → IsImage old.candidates image → StandsAs start (found plan image)) → IsSound start → MayServe plan capacity start → (source source_new : Stream) → (IsTrue source.tells → HasTaken [] source texts source_new)
    → CrashesStep capacity start None (outside_of plan old) texts (outside_of plan new) → KeepsRun capacity start old source new source_new
keeps_from law capacity start plan old new texts only_now starts sound may source source_new taken step = record {
  run = step.run;
  known = step.known;
  keeps =
      plain_keeps capacity start old source step.run step.known new source_new (promises_all law plan capacity start old new step.run (plain_answers step.run) step.known step.crashes starts only_now sound may)
      step.plain (λ tells. are_taken source source_new texts step.run step.count step.asked (taken tells));
}

-- the same of whatever lines
pub keeps_spoken : {said : Said} {heard : List Change} (law : AsideIsFree) (capacity : ℕ) (start : Content) (plan : Plan) (old new : State) (texts : List (List ℕ)) → ((image : Content) (told : List ℕ) → old.clock.left old.clock.moment image told → LeftNow old image told)
    → ((image : Content) → IsImage old.candidates image → StandsAs start (found plan image)) → IsSound start → MayServe plan capacity start → (source source_new : Stream) → (IsTrue source.tells → HasTaken [] source texts source_new)
    → CrashesSpoken said heard capacity start None (outside_of plan old) (held most_bytes texts) (outside_of plan new) → KeepsSpoken said heard capacity start old source new source_new
keeps_spoken law capacity start plan old new texts only_now starts sound may source source_new taken step =
    let all = spoken_on step.whole step.rest in
    record {
      whole = step.whole;
      rest = step.rest;
      texts = texts;
      count = step.count;
      keeps = promises_all law plan capacity start old new all.run all.answers (length step.whole.run) step.crashes starts only_now sound may;
      taken = taken;
      asked = step.asked;
      whole_is = step.whole_is;
      is = step.is;
      changes = step.changes;
      behind = step.behind;
    }

-- what a mount finds hangs on the anchor alone, so the stretch is one by the plan of its start
pub crash_seen : {said : Said} {heard : List Change} (capacity : ℕ) (start : Content) (plan plan_new : Plan) (before : Outside) (new : State) (texts : List (List ℕ)) → anchor_of plan_new ≡ anchor_of plan → CrashesSpoken said heard capacity start None before texts (outside_of plan_new new)
    → CrashesSpoken said heard capacity start None before texts (outside_of plan new)
crash_seen {said} {heard} capacity start plan plan_new before new texts same step = subst (λ (f : Content → Content). CrashesSpoken said heard capacity start None before texts (outside_by f new)) (finds_by plan_new plan same) step

pub crash_keeps : {said : Said} {heard : List Change} (law : AsideIsFree) (capacity : ℕ) (start : Content) (plan plan_new : Plan) (old new : State) (texts : List (List ℕ)) (knows : Knowing) (space : Space) → anchor_of plan_new ≡ anchor_of plan
    → ((image : Content) (told : List ℕ) → old.clock.left old.clock.moment image told → LeftNow old image told) → Stands knows start start None space (outside_of plan old) → IsSound start → MayServe plan capacity start
    → (source source_new : Stream) → (IsTrue source.tells → HasTaken [] source texts source_new)
    → CrashesSpoken said heard capacity start None (outside_of plan old) (held most_bytes texts) (outside_of plan_new new) → KeepsSpoken said heard capacity start old source new source_new
crash_keeps law capacity start plan plan_new old new texts knows space same only_now stands sound may source source_new taken step =
    keeps_spoken law capacity start plan old new texts only_now (λ image is. stands_durable start space stands.below (found plan image) (stands.leaves (found plan image) (image, is, refl))) sound may source source_new taken
    (crash_seen capacity start plan plan_new (outside_of plan old) new (held most_bytes texts) same step)

-- a mount before the run
pub mount_joins : (capacity : ℕ) (start now : Content) (texts : List (List ℕ)) (before mid after : Outside) → Serves capacity None start before [] [] now mid → CrashesStep capacity now None mid texts after → CrashesStep capacity start None before texts after
mount_joins capacity start now texts before mid after mounts step = record {
  run = step.run;
  known = step.known;
  count = step.count;
  crashes =
      let no_more : 0 + step.known ≡ step.known = omega arith in
      subst (λ (n : ℕ). Crashes capacity None start before step.run (plain_answers step.run) n after) no_more
      (plain_crashes_both capacity None start before mid after [] step.run now mounts step.known (subst (λ (s : Option ℕ). Crashes capacity s now mid step.run (plain_answers step.run) step.known after) (sym (shrunk_in-none None)) step.crashes));
  plain = step.plain;
  asked = step.asked;
}

-- the same of whatever lines
pub crashes_behind : (capacity : ℕ) (start now : Content) (before mid after : Outside) (speech : Speech) → Serves capacity None start before [] [] now mid → (known : ℕ) → Crashes capacity None now mid speech.run speech.answers known after → Crashes capacity None start before speech.run speech.answers known after
crashes_behind capacity start now before mid after speech mounts known crashes =
    let same : 0 + known ≡ known = omega arith in
    subst (λ (n : ℕ). Crashes capacity None start before speech.run speech.answers n after) same
    (subst (λ (l : List Answer). Crashes capacity None start before speech.run l (0 + known) after) (shifted-none speech.answers)
    (crashes_both capacity None start before mid after [] speech.run [] speech.answers now mounts known (subst (λ (s : Option ℕ). Crashes capacity s now mid speech.run speech.answers known after) (sym (shrunk_in-none None)) crashes)))

-- a mount keeps the tree
pub mounted_tree : (capacity : ℕ) (start now : Content) (before mid : Outside) → Serves capacity None start before [] [] now mid → tree_of now ≡ tree_of start
mounted_tree capacity start now before mid mounts =
    let here : tree_after start [] ≡ tree_of start = ap (λ (c : Content). tree_of c) (content_after-none start) in
    sym (behind_tree capacity None start start now [] [] here mounts.leads) ∙ here

-- of which something else is said
pub crash_more : {heard : List Change} (said further : Said) (capacity : ℕ) (start : Content) (shrunk : Option ℕ) (old : Outside) (lines : List (List ℕ)) (new : Outside) → ((speech : Speech) → said speech → further speech) → CrashesSpoken said heard capacity start shrunk old lines new
    → CrashesSpoken further heard capacity start shrunk old lines new
crash_more said further capacity start shrunk old lines new more step = record {
  whole = step.whole;
  rest = step.rest;
  count = step.count;
  crashes = step.crashes;
  asked = step.asked;
  whole_is = more step.whole step.whole_is;
  is = more (spoken_on step.whole step.rest) step.is;
  changes = step.changes;
  behind = step.behind;
}

pub mount_spoken : {said : Said} {heard : List Change} (capacity : ℕ) (start now : Content) (texts : List (List ℕ)) (before mid after : Outside) → Serves capacity None start before [] [] now mid → CrashesSpoken said heard capacity now None mid texts after
    → CrashesSpoken said heard capacity start None before texts after
mount_spoken capacity start now texts before mid after mounts step = record {
  whole = step.whole;
  rest = step.rest;
  count = step.count;
  crashes = crashes_behind capacity start now before mid after (spoken_on step.whole step.rest) mounts (length step.whole.run) step.crashes;
  asked = step.asked;
  whole_is = step.whole_is;
  is = step.is;
  changes = step.changes;
  behind = (step.behind.0, step.behind.1, step.behind.2 ∙ ap (λ (l : List ℕ). l ++ step.behind.0) (mounts.told ∙ ap (λ (l : List ℕ). before.told ++ l) texts_of-none ∙ append-nil before.told));
}

-- the end behind the last batch, whatever ended it
pub finish_spoken : (said further : Said) (heard : List Change) (capacity : ℕ) (start : Content) (old mid new : Outside) (lines : List (List ℕ)) (count : ℕ) (knows : Knowing) (space : Space) → ((speech : Speech) → said speech → further speech)
    → (step : ServesSpoken said heard count capacity knows start None old lines space mid) → MayFinish step.now mid new → CrashesSpoken further heard capacity start None old lines new
finish_spoken said further heard capacity start old mid new lines count knows space more step may =
    subst (λ (l : List Change). CrashesSpoken further l capacity start None old lines new) step.changes
    (all_known capacity None start old lines count further step.speech new (end_crashes capacity None start step.speech.run step.speech.answers step.now may.ended old mid new step.serves may.marked may.place may.may) step.asked (more step.speech step.is))

pub finish_ends : (said : Said) (heard : List Change) (capacity : ℕ) (start : Content) (old mid new : Outside) (texts : List (List ℕ)) (knows : Knowing) (space : Space) (source : Stream) → (IsTrue source.tells → texts ≡ lines source.left)
    → (step : ServesSpoken said heard (length texts) capacity knows start None old (held most_bytes texts) space mid) → Finishes step.now mid new → EndsSpoken said capacity start old source new
finish_ends said heard capacity start old mid new texts knows space source all step finishes = record {
  speech = step.speech;
  asked = λ tells. step.asked ∙ held_all texts ∙ ap (λ (l : List (List ℕ)). held most_bytes l) (all tells);
  now = step.now;
  rests = step.rests;
  told = finishes.turns.may.told ∙ step.serves.told;
  is = step.is;
  ended = finishes.ended;
  sets = finishes.sets;
  leaves = finishes.turns.leaves;
}

pub none_behind : (taken : List ℕ) (source : Stream) → ahead taken source ≡ [] → source.left ≡ []
none_behind taken source none = (none_left taken source.left none).1
