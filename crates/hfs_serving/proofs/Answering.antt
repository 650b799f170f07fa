-- Stretches of which each line was answered, from batch to batch and from stage to stage.
use Rattle.std.proofs.Common.{◌≡◌, ◌⊎◌, inl, inr, ⊎_elim, ◌+◌, ◌++◌, [], ℕ, List, length, take, Result, Err, refl, sym, ◌∙◌, ap, subst, arith}
use Rattle.std.specs.Prelude.{IfErr, IsTrue, None, Option, Some}
use Rattle.std.proofs.lemmas.List.{append-nil, length-map, take_all}
use Rattle.hx_bytes.specs.declared.faults.Trouble.{Trouble}
use Rattle.hx_bytes.specs.declared.faults.Trouble.TheVariants as trouble
use Rattle.sector_disk.specs.Disk.{IsDisk, IsImage, LeftNow, State, content}
use Rattle.sector_disk.specs.Source.{Stream}
use Rattle.sector_disk.specs.Space.{Space}
use Rattle.hfs_language.specs.Lines.{lines}
use Rattle.jnl_format.specs.Recovery.{Content}
use Rattle.jnl_replay.specs.declared.plan.Plan.{Plan}
use Rattle.jnl_replay.proofs.Repeated.{newest}
use Rattle.jnl_store.specs.Spaces.{found}
use Rattle.hfs_volume.specs.Aside.{AsideIsFree}
use Rattle.hfs_volume.specs.Mount.{MountsTo}
use Rattle.hfs_volume.specs.Reclaim.{Tidies}
use Rattle.volume_runs.specs.Run.{Entry, content_after, shrunk_in, tree_after}
use Rattle.hfs_volume.specs.Sound.{IsSound}
use Rattle.hfs_volume.specs.TreeOf.{tree_of}
use Rattle.hfs_serving.specs.Beginning.{BeginsRun}
use Rattle.hfs_serving.specs.Closing.{Finishes}
use Rattle.hfs_serving.specs.Ending.{AnswersRig, AnswersRun, AnswersToTheLast, BeginsMore, EndsAtRest, EndsTaking, FinishesRun, IsFinal, IsPutAway, stop_in}
use Rattle.hfs_serving.specs.Going.{Knowing}
use Rattle.hfs_serving.specs.Grounds.{anchor_of}
use Rattle.hfs_serving.specs.Opening.{MayServe, Opens}
use Rattle.hfs_serving.specs.Outside.{Outside, outside_of}
use Rattle.hfs_serving.specs.Readying.{IsVersioned, mounted_plan}
use Rattle.hfs_serving.specs.Runs.{IsMarked, KeepsPlace, LeadsToRest, Serves, StandsAs, texts_of}
use Rattle.hfs_serving.specs.Stages.{Turns}
use Rattle.hfs_language.specs.declared.reply.Change.{Change}
use Rattle.hfs_serving.specs.Speaking.{Said, Speech}
use Rattle.hfs_serving.specs.Spoken.{AnswersRigSpoken, AnswersSpoken, ServesSpoken}
use Rattle.hfs_serving.specs.Steps.{stop_of}
use Rattle.hfs_serving.specs.Watching.{AnswersRigHeard, FinishesHeard, LastHeard, StopsHeard}
use Rattle.hfs_language.specs.Language.{most_bytes}
use Rattle.line_source.specs.Batch.{held}
use Rattle.hfs_serving.specs.Taking.{HasTaken}
use Rattle.hfs_serving.specs.Top.{KnowsTo}
use Rattle.hfs_serving.specs.declared.telling.Stop.{Stop}
use Rattle.hfs_serving.specs.declared.telling.Stop.TheVariants as stop
use Rattle.hfs_serving.proofs.Attached.{mount_serves}
use Rattle.hfs_serving.proofs.Grounding.{outside_by}
use Rattle.hfs_serving.proofs.Lists.{shrunk_in-none}
use Rattle.hfs_serving.proofs.Leading.{leads_to_rest, place_both, tidies_of}
use Rattle.hfs_serving.proofs.Mounting.{found_in_run, promises_all}
use Rattle.hfs_serving.proofs.Pending.{held_all, held_take}
use Rattle.hfs_serving.proofs.Promising.{crashes_behind, finds_by, mounted_tree}
use Rattle.hfs_serving.proofs.Served.{finds_mounted}
use Rattle.hfs_serving.proofs.Staging.{end_crashes}
use Rattle.hfs_serving.proofs.Stretches.{serves_crashes}
use Rattle.hfs_serving.proofs.Texts.{texts_of-none}

-- ---- which ends are final

pub final_of : {U : Type 0} (e f : Stop) (r : Result U Stop) → r ≡ Err f → f ≡ e → IsFinal (stop_in r) → IsFinal (Some e)
final_of {U} e f r given same final = subst (λ (s : Stop). IsFinal (Some s)) same (subst (λ (q : Result U Stop). IsFinal (stop_in q)) given final)

pub stop_is : {U : Type 0} (e f : Stop) (r : Result U Stop) → r ≡ Err f → f ≡ e → stop_in r ≡ Some e
stop_is e f r given same = ap stop_in given ∙ ap Some same

pub no_end_of_memory : {U : Type 0} (f : Stop) (r : Result U Stop) → r ≡ Err f → f ≡ stop.Memory → IsFinal (stop_in r) → ⊥
no_end_of_memory f r given same final = final_of stop.Memory f r given same final

trouble_ends : (t : Trouble) → IsFinal (Some (stop_of t)) → ⊥
trouble_ends trouble.Disk final = final
trouble_ends trouble.Memory final = final

pub no_end_of_trouble : {U : Type 0} (e : Trouble) (f : Stop) (r : Result U Stop) → r ≡ Err f → f ≡ stop_of e → IsFinal (stop_in r) → ⊥
no_end_of_trouble e f r given same final = trouble_ends e (final_of (stop_of e) f r given same final)

trouble_is : (t : Trouble) → (stop_of t ≡ stop.Disk) ⊎ (stop_of t ≡ stop.Memory)
trouble_is trouble.Disk = inl refl
trouble_is trouble.Memory = inr refl

pub trouble_stops : {U : Type 0} (e : Trouble) (f : Stop) (r : Result U Stop) → r ≡ Err f → f ≡ stop_of e → IfErr r (λ s. (s ≡ stop.Disk) ⊎ (s ≡ stop.Memory))
trouble_stops {U} e f r given same = subst (λ (q : Result U Stop). IfErr q (λ s. (s ≡ stop.Disk) ⊎ (s ≡ stop.Memory))) (sym given) (⊎_elim (λ disk. inl (same ∙ disk)) (λ memory. inr (same ∙ memory)) (trouble_is e))

-- what a disk reads is an image of it
pub own_image : (disk : State) → IsDisk disk → IsImage disk.candidates (content disk)
own_image disk is = newest disk is

-- what another call answered is handed on
pub handed_answers : {U : Type 0} (e f : Stop) (r : Result U Stop) (P : List (List ℕ) → Type 0) (taken : List ℕ) (source source_new : Stream) → r ≡ Err f → f ≡ e
    → (IsFinal (Some e) → (texts : List (List ℕ)) × (IsTrue source.tells → HasTaken taken source texts source_new × EndsTaking (Some e) taken source texts source_new) × (Some e ≡ Some stop.TooMany → length texts ≡ 4294967295) × P texts)
    → IsFinal (stop_in r) → (texts : List (List ℕ)) × (IsTrue source.tells → HasTaken taken source texts source_new × EndsTaking (stop_in r) taken source texts source_new) × (stop_in r ≡ Some stop.TooMany → length texts ≡ 4294967295) × P texts
handed_answers e f r P taken source source_new given same answers final =
    let is = stop_is e f r given same in
    let there = answers (final_of e f r given same final) in (
      there.0,
      λ tells. let took = there.1 tells in (took.0, subst (λ (s : Option Stop). EndsTaking s taken source there.0 source_new) (sym is) took.1),
      λ many. there.2 (sym is ∙ many),
      there.3,
    )

-- ---- joining

-- a step ends at rest
step_rests : (said : Said) (heard : List Change) (count capacity : ℕ) (shrunk : Option ℕ) (start : Content) (old : Outside) (texts : List (List ℕ)) (knows : Knowing) (space : Space) (new : Outside) (step : ServesSpoken said heard count capacity knows start shrunk old texts space new) → EndsAtRest capacity shrunk start step.speech.run new
step_rests said heard count capacity shrunk start old texts knows space new step = record { last = step.now; rests = step.rests; stood = step.now; marked = inl refl; place = step.rests.place; leaves = step.serves.rests }

-- the first of some lines were served
pub answers_front : (said : Said) (heard : List Change) (count capacity : ℕ) (shrunk : Option ℕ) (start : Content) (old : Outside) (texts : List (List ℕ)) (knows : Knowing) (space : Space) (new : Outside) → ServesSpoken said heard count capacity knows start shrunk old (held most_bytes texts) space new
    → AnswersSpoken said heard capacity start shrunk old (held most_bytes (take count texts)) new
answers_front said heard count capacity shrunk start old texts knows space new step = record {
  speech = step.speech;
  crashes = serves_crashes capacity shrunk start old new step.speech.run step.speech.answers step.now step.serves;
  asked = step.asked ∙ held_take count texts;
  told = step.serves.told;
  rested = step_rests said heard count capacity shrunk start old (held most_bytes texts) knows space new step;
  is = step.is;
  changes = step.changes;
}

-- the end behind the last batch
pub answers_finish : (said : Said) (heard : List Change) (capacity : ℕ) (start : Content) (old mid new : Outside) (texts : List (List ℕ)) (knows : Knowing) (space : Space) (step : ServesSpoken said heard (length texts) capacity knows start None old (held most_bytes texts) space mid) → Finishes step.now mid new
    → AnswersSpoken said heard capacity start None old (held most_bytes texts) new
answers_finish said heard capacity start old mid new texts knows space step finishes = record {
  speech = step.speech;
  crashes = end_crashes capacity None start step.speech.run step.speech.answers step.now finishes.ended old mid new step.serves (inr (inr finishes.sets)) finishes.place finishes.turns.may;
  asked = step.asked ∙ held_all texts;
  told = finishes.turns.may.told ∙ step.serves.told;
  rested = record { last = step.now; rests = step.rests; stood = finishes.ended; marked = inr (inr finishes.sets); place = place_both start step.now finishes.ended step.rests.place finishes.place; leaves = finishes.turns.leaves };
  is = step.is;
  changes = step.changes;
}

-- seen by the plan of its start
pub answers_seen : {said : Said} {heard : List Change} (capacity : ℕ) (start : Content) (plan plan_new : Plan) (before : Outside) (new : State) (texts : List (List ℕ)) → anchor_of plan_new ≡ anchor_of plan → AnswersSpoken said heard capacity start None before texts (outside_of plan_new new)
    → AnswersSpoken said heard capacity start None before texts (outside_of plan new)
answers_seen {said} {heard} capacity start plan plan_new before new texts same step = subst (λ (f : Content → Content). AnswersSpoken said heard capacity start None before texts (outside_by f new)) (finds_by plan_new plan same) step

-- a mount before it
answers_joins : {said : Said} {heard : List Change} (capacity : ℕ) (start now : Content) (texts : List (List ℕ)) (before mid after : Outside) → Serves capacity None start before [] [] now mid → AnswersSpoken said heard capacity now None mid texts after → AnswersSpoken said heard capacity start None before texts after
answers_joins capacity start now texts before mid after mounts step =
    let speech = step.speech in
    record {
      speech = speech;
      crashes = crashes_behind capacity start now before mid after speech mounts (length speech.run) step.crashes;
      asked = step.asked;
      rested =
          let it = step.rested in
          record {
            last = it.last;
            rests = leads_to_rest capacity None start [] speech.run now mounts.leads None it.last (subst (λ (s : Option ℕ). LeadsToRest capacity s None now speech.run it.last) (sym (shrunk_in-none None)) it.rests);
            stood = it.stood;
            marked = it.marked;
            place = place_both start now it.stood mounts.leads.place it.place;
            leaves = it.leaves;
          };
      told = step.told ∙ ap (λ (l : List ℕ). l ++ texts_of speech.answers) (mounts.told ∙ ap (λ (l : List ℕ). before.told ++ l) texts_of-none ∙ append-nil before.told);
      is = step.is;
      changes = step.changes;
    }

-- of which something else is said
answers_more : {heard : List Change} (said further : Said) (capacity : ℕ) (start : Content) (shrunk : Option ℕ) (old : Outside) (lines : List (List ℕ)) (new : Outside) → ((speech : Speech) → said speech → further speech) → AnswersSpoken said heard capacity start shrunk old lines new
    → AnswersSpoken further heard capacity start shrunk old lines new
answers_more said further capacity start shrunk old lines new more step =
    record { speech = step.speech; crashes = step.crashes; asked = step.asked; told = step.told; rested = step.rested; is = more step.speech step.is; changes = step.changes }

-- behind a run that was begun
module _ (said : Said) (heard : List Change) (capacity : ℕ) (start now : Content) (said_at : Content → Said) (more : (begun : Content) → tree_of begun ≡ tree_of start → (speech : Speech) → said_at begun speech → said speech) (plan : Plan) (first disk : State) (versioned : IsVersioned start now) (place : KeepsPlace start now) (turns : Turns start now (outside_of plan first) (outside_of plan disk)) (mid new : Plan) (same : found mid ≡ found plan) (anchor : anchor_of new ≡ anchor_of mid)
    (after last : State) (texts : List (List ℕ)) (knows : Knowing) (space : Space) where
  same_new : found new ≡ found plan
  same_new = finds_by new mid anchor ∙ same

  abbrev GoesOnBy : (Content → Content) → (Content → Content) → Type 0
  GoesOnBy f g =
      (begins : BeginsRun capacity knows now None (outside_by f disk) space (outside_by g after)) → AnswersSpoken (said_at begins.begun) heard capacity begins.begun None (outside_by g after) texts (outside_by g last) → AnswersSpoken said heard capacity start None (outside_of plan first) texts (outside_of plan last)

  by_plan : GoesOnBy (found plan) (found plan)
  by_plan begins step =
      let mounts = mount_serves capacity start now (outside_of plan first) (outside_of plan disk) place turns knows space (outside_of plan after) begins versioned in
      answers_joins capacity start begins.begun texts (outside_of plan first) (outside_of plan after) (outside_of plan last) mounts
      (answers_more (said_at begins.begun) said capacity begins.begun None (outside_of plan after) texts (outside_of plan last) (more begins.begun (mounted_tree capacity start begins.begun (outside_of plan first) (outside_of plan after) mounts)) step)

  pub begun_answers : (begins : BeginsRun capacity knows now None (outside_of mid disk) space (outside_of new after)) → AnswersSpoken (said_at begins.begun) heard capacity begins.begun None (outside_of new after) texts (outside_of new last) → AnswersSpoken said heard capacity start None (outside_of plan first) texts (outside_of plan last)
  begun_answers = subst (λ (g : Content → Content). GoesOnBy (found mid) g) (sym same_new) (subst (λ (f : Content → Content). GoesOnBy f (found plan)) (sym same) by_plan)

-- by the plan of the image
pub answers_from : {said : Said} {heard : List Change} (plan ready : Plan) → ready ≡ mounted_plan plan → (capacity : ℕ) (start now : Content) (old mid new : State) (texts : List (List ℕ)) → Turns start now (outside_of plan old) (outside_of plan mid)
    → (Turns start now (outside_of ready old) (outside_of ready mid) → AnswersSpoken said heard capacity start None (outside_of ready old) texts (outside_of ready new)) → AnswersSpoken said heard capacity start None (outside_of plan old) texts (outside_of plan new)
answers_from {said} {heard} plan ready is capacity start now old mid new texts turns goes =
    let same : found ready ≡ found plan = ap found is ∙ finds_mounted plan in
    subst (λ (f : Content → Content). AnswersSpoken said heard capacity start None (outside_by f old) texts (outside_by f new)) same
    (goes (subst (λ (f : Content → Content). Turns start now (outside_by f old) (outside_by f mid)) (sym same) turns))

-- ---- over a rig

-- what a mount finds where housekeeping came to rest, it opens
opens_rested : (law : AsideIsFree) (capacity : ℕ) (start : Content) (run : List Entry) (plan : Plan) → IsSound start → MayServe plan capacity start → (image last stood : Content) → LeadsToRest capacity None None start run last → IsMarked last stood → KeepsPlace start stood → StandsAs stood (found plan image) → Opens image capacity (found plan image)
opens_rested law capacity start run plan sound may image last stood leads marked place stands =
    let all : take (length run) run ≡ run = take_all (length run) run (omega arith) in
    let tidied : Tidies capacity (shrunk_in None run) (content_after start run) last = tidies_of capacity (shrunk_in None run) None (content_after start run) last leads.rests in
    (found_in_run law capacity start run leads.run_is sound plan may image (length run) (record {
      count = length run;
      many = omega arith;
      some = omega arith;
      tidy = last;
      tidied = subst (λ (r : List Entry). Tidies capacity (shrunk_in None r) (content_after start r) last) (sym all) tidied;
      stood = stood;
      marked = marked;
      place = place;
      stands = stands;
    })).0

pub answers_rig : (said : Said) (heard : List Change) (law : AsideIsFree) (capacity : ℕ) (start : Content) (plan : Plan) (old new : State) (texts : List (List ℕ)) → ((image : Content) (told : List ℕ) → old.clock.left old.clock.moment image told → LeftNow old image told)
    → ((image : Content) → IsImage old.candidates image → StandsAs start (found plan image)) → IsSound start → MayServe plan capacity start → (source source_new : Stream) → (IsTrue source.tells → HasTaken [] source texts source_new)
    → AnswersSpoken said heard capacity start None (outside_of plan old) (held most_bytes texts) (outside_of plan new) → AnswersRigSpoken said heard capacity start old source texts new source_new
answers_rig said heard law capacity start plan old new texts only_now starts sound may source source_new taken step =
    let run = step.speech.run in
    record {
      speech = step.speech;
      keeps = promises_all law plan capacity start old new run step.speech.answers (length run) step.crashes starts only_now sound may;
      taken = taken;
      asked = step.asked;
      told = step.told;
      rested = λ image is.
          let it = step.rested in
          let stands = it.leaves (found plan image) (image, is, refl) in
          record { last = it.last; rests = it.rests.rests; stood = it.stood; marked = it.marked; recovered = found plan image; opens = opens_rested law capacity start run plan sound may image it.last it.stood it.rests it.marked it.place stands; stands = stands };
      is = step.is;
      changes = step.changes;
    }

-- ---- as users read it

all_known : (start : Content) (run : List Entry) (image : Content) → KnowsTo start run (length run) image → MountsTo image (tree_after start run)
all_known start run image knows =
    let all : knows.count ≡ length run = omega (arith, knows.many, knows.some) in
    subst (λ (r : List Entry). MountsTo image (tree_after start r)) (ap (λ (n : ℕ). take n run) all ∙ take_all (length run) run (omega arith)) knows.mounts

pub finishes_of : (capacity : ℕ) (start : Content) (old : State) (source : Stream) (texts : List (List ℕ)) (new : State) (source_new : Stream) → IsImage new.candidates (content new) → (IsTrue source.tells → texts ≡ lines source.left) → IsPutAway new
    → AnswersRig capacity start old source texts new source_new → FinishesRun capacity start old source new source_new
finishes_of capacity start old source texts new source_new is all away rig = record {
  run = rig.run;
  keeps = rig.keeps;
  all = λ tells. rig.asked ∙ all tells;
  told = rig.told;
  rested = rig.rested (content new) is;
  unmounted = record { mounts = all_known start rig.run (content new) (rig.keeps.knows (content new) is); away = away };
}

pub finish_of : {heard : List Change} (capacity : ℕ) (start : Content) (old : State) (source : Stream) (texts : List (List ℕ)) (new : State) (source_new : Stream) → IsImage new.candidates (content new) → (IsTrue source.tells → texts ≡ lines source.left) → IsPutAway new
    → AnswersRigHeard heard capacity start old source texts new source_new → FinishesHeard heard capacity start old source new source_new
unfolding finishes_of
finish_of capacity start old source texts new source_new is all away rig = (finishes_of capacity start old source texts new source_new is all away rig.0, rig.1)

pub answers_of : (capacity : ℕ) (start : Content) (old : State) (source : Stream) (texts : List (List ℕ)) (new : State) (source_new : Stream) → (IsTrue source.tells → BeginsMore [] source texts source_new) → AnswersRig capacity start old source texts new source_new → AnswersRun capacity start old source new source_new
answers_of capacity start old source texts new source_new taken rig = record {
  run = rig.run;
  run_is = rig.keeps.run_is;
  plain = rig.keeps.plain;
  told = rig.told;
  lines_are = λ tells. subst (λ (l : List (List ℕ)). BeginsMore [] source l source_new) (sym rig.asked) (taken tells);
}

pub to_last_of : (capacity : ℕ) (start : Content) (old : State) (source : Stream) (texts : List (List ℕ)) (new : State) (source_new : Stream) → length texts ≡ 4294967295 → AnswersRig capacity start old source texts new source_new → AnswersToTheLast capacity start old source new source_new
to_last_of capacity start old source texts new source_new many rig = record {
  run = rig.run;
  run_is = rig.keeps.run_is;
  plain = rig.keeps.plain;
  told = rig.told;
  count = omega (arith, many, ap (λ (l : List (List ℕ)). length l) rig.asked, length-map rig.run (λ (e : Entry). e.line));
  lines_are = rig.keeps.lines_are;
}

pub stop_heard : {heard : List Change} (capacity : ℕ) (start : Content) (old : State) (source : Stream) (texts : List (List ℕ)) (new : State) (source_new : Stream) → (IsTrue source.tells → BeginsMore [] source texts source_new) → AnswersRigHeard heard capacity start old source texts new source_new → StopsHeard heard capacity start old source new source_new
unfolding answers_of
stop_heard capacity start old source texts new source_new taken rig = (answers_of capacity start old source texts new source_new taken rig.0, rig.1)

pub last_heard : {heard : List Change} (capacity : ℕ) (start : Content) (old : State) (source : Stream) (texts : List (List ℕ)) (new : State) (source_new : Stream) → length texts ≡ 4294967295 → AnswersRigHeard heard capacity start old source texts new source_new → LastHeard heard capacity start old source new source_new
unfolding to_last_of
last_heard capacity start old source texts new source_new many rig = (to_last_of capacity start old source texts new source_new many rig.0, rig.1)
