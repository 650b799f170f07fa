-- A batch whose answers are told, and batch after batch.
use Rattle.std.proofs.Common.{◌≡◌, ◌⊎◌, ◌≤◌, ◌+◌, ◌++◌, [], ℕ, List, length, length-append, take, drop, take-add, inl, inr, ⊎_elim, refl, sym, ◌∙◌, ap, append_assoc, arith, subst}
use Rattle.std.proofs.lemmas.List.{append-nil, length-take-le}
use Rattle.hfs_language.specs.declared.reply.Change.{Change}
use Rattle.hfs_serving.specs.Said.{untold}
use Rattle.hfs_serving.specs.Runs.{Crashes, texts_of}
use Rattle.hfs_serving.specs.Speaking.{Said, Speaks, SpeaksBatch, Speech, Spoken, StopsLines, spoken_on, unspoken}
use Rattle.hfs_serving.specs.Spoken.{CrashesSpoken, ServesSpoken}
use Rattle.hfs_serving.specs.declared.volume.ToTell.{ToTell}
use Rattle.std.specs.Prelude.{None, Option}
use Rattle.sector_disk.specs.Space.{Space, AgreesOutside}
use Rattle.jnl_format.specs.Keeping.{KeepsHeader}
use Rattle.jnl_format.specs.Recovery.{Content, header_of_volume, journaling_version}
use Rattle.hfs_volume.specs.Aside.{IsAside, IsFreeSector}
use Rattle.volume_runs.specs.Run.{shrunk_in}
use Rattle.hfs_serving.specs.Going.{Knowing, Stands}
use Rattle.hfs_serving.specs.Outside.{Outside}
use Rattle.hfs_serving.specs.Serving.{TellsOut}
use Rattle.hfs_serving.specs.Steps.{IsStill}
use Rattle.hfs_serving.proofs.Agreeing.{agrees_more, stands_durable}
use Rattle.hfs_serving.proofs.Lists.{shrunk_in-append}
use Rattle.hfs_serving.proofs.Stretches.{crashes_both, serves_both, serves_crashes, serves_none}
use Rattle.hfs_serving.proofs.Leading.{leads_to_rest}
use Rattle.hfs_serving.proofs.Batches.{stops_crashes, batch_tells_partly, batch_ends}
use Rattle.hfs_serving.proofs.Speeches.{behind_tree, none_spoken, speaks_both, speaks_more, speaks_none, spoken_assoc, spoken_none}
use Rattle.hfs_serving.proofs.Texts.{texts_of_both}

-- where only bytes were told, it stands there still
pub still_stands : (knows knows_new : Knowing) (committed now : Content) (shrunk : Option ℕ) (space new : Space) (mid after : Outside) → Stands knows committed now shrunk space mid → IsStill space new → (knows committed now shrunk → knows_new committed now shrunk)
    → ((recovered : Content) → after.leaves recovered → mid.leaves recovered) → Stands knows_new committed now shrunk new after
still_stands knows knows_new committed now shrunk space new mid after stands still carries leaves = record {
  known = carries stands.known;
  below = record {
    same = subst (λ (d : Content). AgreesOutside (IsAside committed) committed d) (sym still.durable) stands.below.same;
    spilled = λ s is. stands.below.spilled s ((still.spilled s).0 is);
    closed = λ s is. stands.below.closed s ((still.closed s).0 is);
  };
  reads = record {
    same =
        subst (λ (c : Content). AgreesOutside (λ s. new.closed s ⊎ IsFreeSector now s) now c) (sym still.content)
        (agrees_more (λ s. space.closed s ⊎ IsFreeSector now s) (λ s. new.closed s ⊎ IsFreeSector now s) now space.content (λ s which. ⊎_elim (λ is. inl ((still.closed s).1 is)) (λ free. inr free) which) stands.reads.same);
    closed = λ s is. stands.reads.closed s ((still.closed s).0 is);
  };
  heads = record {
    header = subst (λ (c : Content). KeepsHeader new.durable c) (sym still.content) (subst (λ (d : Content). KeepsHeader d space.content) (sym still.durable) stands.heads.header);
    version = subst (λ (d : Content). (header_of_volume d).last_mounted_version ≡ journaling_version) (sym still.durable) stands.heads.version;
    apart = λ is. stands.heads.apart ((still.closed 2).0 is);
  };
  leaves = λ recovered left.
      subst (λ (d : Content). AgreesOutside (λ s. new.spilled s ⊎ new.closed s) d recovered) (sym still.durable)
      (agrees_more (λ s. space.spilled s ⊎ space.closed s) (λ s. new.spilled s ⊎ new.closed s) space.durable recovered (λ s out. ⊎_elim (λ is. inl ((still.spilled s).1 is)) (λ is. inr ((still.closed s).1 is)) out)
      (stands.leaves recovered (leaves recovered left)));
}

-- all that was spoken is known
module _ (capacity : ℕ) (shrunk : Option ℕ) (start : Content) (old : Outside) (lines : List (List ℕ)) (count : ℕ) (said : Said) (speech : Speech) (new : Outside) where
  pub all_known : Crashes capacity shrunk start old speech.run speech.answers (length speech.run) new → speech.lines ≡ take count lines → said speech → CrashesSpoken said speech.changes capacity start shrunk old lines new
  all_known crashes asked is = record {
    whole = speech;
    rest = unspoken;
    count = count;
    crashes = subst (λ (s : Speech). Crashes capacity shrunk start old s.run s.answers (length speech.run) new) (sym (spoken_none speech)) crashes;
    asked = append-nil speech.lines ∙ asked;
    whole_is = is;
    is = subst said (sym (spoken_none speech)) is;
    changes = refl;
    behind = crashes.told;
  }

-- ---- one batch

module _ (count capacity : ℕ) (shrunk : Option ℕ) (start : Content) (old : Outside) (number : ℕ) (from to : Spoken) (lines : List (List ℕ)) (knows : Knowing) (told : ToTell) (space : Space) (mid : Outside)
    (batch : SpeaksBatch count capacity knows start shrunk old number from to lines untold told space mid) (after : Outside) (tells : TellsOut mid told.replies after) where
  abbrev speech : Speech
  speech = batch.whole.speech

  text_is : told.replies ≡ texts_of speech.answers
  text_is = ap (λ (t : ToTell). t.replies) batch.told ∙ sym (ap (λ (t : ToTell). t.replies) batch.whole.told)

  changes_are : speech.changes ≡ told.changes
  changes_are = sym (ap (λ (t : ToTell). t.changes) batch.told ∙ sym (ap (λ (t : ToTell). t.changes) batch.whole.told))

  tells_text : TellsOut mid (texts_of speech.answers) after
  tells_text = subst (λ (l : List ℕ). TellsOut mid l after) text_is tells

  pub step_serves : (knows_new : Knowing) (new : Space) → after.told ≡ mid.told ++ told.replies → IsStill space new → ((committed now : Content) (s : Option ℕ) → knows committed now s → knows_new committed now s)
      → ServesSpoken (Speaks number start from to) told.changes count capacity knows_new start shrunk old lines new after
  step_serves knows_new new is_told still carries =
      let whole = batch.whole in
      let last = shrunk_in shrunk speech.run in
      record {
        speech = speech;
        now = whole.now;
        serves = batch_ends capacity shrunk start old speech.run speech.answers whole.now space mid after whole.are whole.goes tells_text (is_told ∙ ap (λ (l : List ℕ). mid.told ++ l) text_is);
        stands =
            still_stands knows knows_new whole.now whole.now last space new mid after
            (record { known = whole.known; below = whole.goes.below; reads = whole.goes.reads; heads = whole.heads; leaves = whole.goes.leaves }) still (carries whole.now whole.now last) tells.leaves;
        asked = whole.asked;
        rests = whole.rests;
        is = whole.speaks;
        changes = changes_are;
      }

  -- the sink failed
  pub step_tells_partly : (further : Spoken) → ((begun : Content) (all : Speech) → to begun all → further begun all) → CrashesSpoken (Speaks number start from further) told.changes capacity start shrunk old lines after
  step_tells_partly further more =
      subst (λ (l : List Change). CrashesSpoken (Speaks number start from further) l capacity start shrunk old lines after) changes_are
      (all_known capacity shrunk start old lines count (Speaks number start from further) speech after (batch_tells_partly capacity shrunk start old speech.run speech.answers batch.whole.now space mid after batch.whole.are batch.whole.goes tells_text) batch.whole.asked
      (speaks_more number start from to further speech more batch.whole.speaks))

-- a fault before anything was told
pub step_stops : (capacity : ℕ) (shrunk : Option ℕ) (start : Content) (old : Outside) (number : ℕ) (from to : Spoken) (lines : List (List ℕ)) (after : Outside) → ((begun : Content) (all : Speech) → from begun all → to begun all) → StopsLines capacity start start shrunk old number from to lines after
    → CrashesSpoken (Speaks number start from to) [] capacity start shrunk old lines after
step_stops capacity shrunk start old number from to lines after more stopped =
    let speech = stopped.stops.speech in
    record {
      whole = unspoken;
      rest = speech;
      count = stopped.count;
      crashes = subst (λ (s : Speech). Crashes capacity shrunk start old s.run s.answers 0 after) (sym (none_spoken speech)) (stops_crashes capacity shrunk start old speech.run speech.answers after stopped.stops.are stopped.stops.stops);
      asked = stopped.stops.asked;
      whole_is = speaks_more number start from from to unspoken more (speaks_none number start from);
      is = subst (λ (s : Speech). Speaks number start from to s) (sym (none_spoken speech)) stopped.stops.speaks;
      changes = refl;
      behind = ([], (texts_of [], refl), stopped.stops.stops.told ∙ sym (append-nil old.told));
    }

-- ---- batch after batch

module _ (capacity : ℕ) (shrunk : Option ℕ) (start : Content) (old : Outside) (lines : List (List ℕ)) where
  -- before the first of them
  pub none_there : (said : Said) (knows : Knowing) (space : Space) → said unspoken → Stands knows start start shrunk space old → CrashesSpoken said [] capacity start shrunk old lines old
  none_there said knows space none stands =
      let serves = serves_none capacity shrunk start old (λ recovered left. stands_durable start space stands.below recovered (stands.leaves recovered left)) in
      all_known capacity shrunk start old lines 0 said unspoken old (serves_crashes capacity shrunk start old old [] [] start serves) refl none

  -- served to the end, it is a run that nothing ended
  pub step_ends : (said further : Said) (heard : List Change) (count : ℕ) (knows : Knowing) (space : Space) (new : Outside) → ((speech : Speech) → said speech → further speech) → ServesSpoken said heard count capacity knows start shrunk old lines space new → CrashesSpoken further heard capacity start shrunk old lines new
  step_ends said further heard count knows space new more step =
      subst (λ (l : List Change). CrashesSpoken further l capacity start shrunk old lines new) step.changes
      (all_known capacity shrunk start old lines count further step.speech new (serves_crashes capacity shrunk start old new step.speech.run step.speech.answers step.now step.serves) step.asked (more step.speech step.is))

  module _ (at : ℕ) (inside : at ≤ length lines) (from between : Spoken) (heard : List Change) (knows : Knowing) (space : Space) (mid : Outside) (first : ServesSpoken (Speaks 0 start from between) heard at capacity knows start shrunk old lines space mid) where
    at_is : at ≡ 0 + length first.speech.lines
    at_is = omega (arith, ap (λ (l : List (List ℕ)). length l) first.asked, length-take-le at lines inside)

    asked_both : (others : List (List ℕ)) (count : ℕ) → others ≡ take count (drop at lines) → first.speech.lines ++ others ≡ take (at + count) lines
    asked_both others count asked = ap (λ (l : List (List ℕ)). l ++ others) first.asked ∙ ap (λ (l : List (List ℕ)). take at lines ++ l) asked ∙ sym (take-add at count lines)

    said_both : (to : Spoken) (second : Speech) → Speaks at first.now between to second → Speaks 0 start from to (spoken_on first.speech second)
    said_both to second speaks =
        speaks_both 0 start first.now from between to first.speech second (λ begun past tree. behind_tree capacity shrunk begun start first.now past first.speech.run tree first.serves.leads) first.is (subst (λ (n : ℕ). Speaks n first.now between to second) at_is speaks)

    pub step_both : (to : Spoken) (more : List Change) (count : ℕ) (knows_new : Knowing) (new : Space) (after : Outside) → ServesSpoken (Speaks at first.now between to) more count capacity knows_new first.now (shrunk_in shrunk first.speech.run) mid (drop at lines) new after
        → ServesSpoken (Speaks 0 start from to) (heard ++ more) (at + count) capacity knows_new start shrunk old lines new after
    step_both to more count knows_new new after second = record {
      speech = spoken_on first.speech second.speech;
      now = second.now;
      serves = serves_both capacity shrunk start old mid after first.speech.run second.speech.run first.speech.answers second.speech.answers first.now first.serves second.now second.serves;
      stands = subst (λ (s : Option ℕ). Stands knows_new second.now second.now s new after) (sym (shrunk_in-append shrunk first.speech.run second.speech.run)) second.stands;
      asked = asked_both second.speech.lines count second.asked;
      rests = leads_to_rest capacity shrunk start first.speech.run second.speech.run first.now first.serves.leads None second.now second.rests;
      is = said_both to second.speech second.is;
      changes = ap (λ (l : List Change). l ++ second.speech.changes) first.changes ∙ ap (λ (l : List Change). heard ++ l) second.changes;
    }

    pub step_crash : (to : Spoken) (more : List Change) (after : Outside) → CrashesSpoken (Speaks at first.now between to) more capacity first.now (shrunk_in shrunk first.speech.run) mid (drop at lines) after → CrashesSpoken (Speaks 0 start from to) (heard ++ more) capacity start shrunk old lines after
    step_crash to more after second =
        let own = first.speech in
        let all = spoken_on second.whole second.rest in
        let w = second.behind in
        record {
          whole = spoken_on own second.whole;
          rest = second.rest;
          count = at + second.count;
          crashes =
              subst (λ (n : ℕ). Crashes capacity shrunk start old (spoken_on (spoken_on own second.whole) second.rest).run (spoken_on (spoken_on own second.whole) second.rest).answers n after) (sym (length-append own.run second.whole.run))
              (subst (λ (s : Speech). Crashes capacity shrunk start old s.run s.answers (length own.run + length second.whole.run) after) (sym (spoken_assoc own second.whole second.rest))
              (crashes_both capacity shrunk start old mid after own.run all.run own.answers all.answers first.now first.serves (length second.whole.run) second.crashes));
          asked = append_assoc own.lines second.whole.lines second.rest.lines ∙ asked_both (second.whole.lines ++ second.rest.lines) second.count second.asked;
          whole_is = said_both to second.whole second.whole_is;
          is = subst (λ (s : Speech). Speaks 0 start from to s) (sym (spoken_assoc own second.whole second.rest)) (said_both to all second.is);
          changes = ap (λ (l : List Change). l ++ second.whole.changes) first.changes ∙ ap (λ (l : List Change). heard ++ l) second.changes;
          behind = (
            texts_of own.answers ++ w.0,
            (w.1.0, texts_of_both own.answers second.whole.answers (length own.run) ∙ ap (λ (l : List ℕ). texts_of own.answers ++ l) w.1.1 ∙ sym (append_assoc (texts_of own.answers) w.0 w.1.0)),
            w.2 ∙ ap (λ (l : List ℕ). l ++ w.0) first.serves.told ∙ append_assoc old.told (texts_of own.answers) w.0,
          );
        }

-- a step over no line
pub no_line_served : (said : Said) (heard : List Change) (capacity : ℕ) (shrunk : Option ℕ) (start : Content) (old : Outside) (knows : Knowing) (space : Space) (new : Outside) (count : ℕ) (lines : List (List ℕ)) → lines ≡ [] → count ≤ length lines → ServesSpoken said heard count capacity knows start shrunk old lines space new
    → ServesSpoken said heard 0 capacity knows start shrunk old [] space new
no_line_served said heard capacity shrunk start old knows space new count lines none few step =
    let none_served : count ≡ 0 = omega (arith, few, ap (λ (l : List (List ℕ)). length l) none) in
    subst (λ (n : ℕ). ServesSpoken said heard n capacity knows start shrunk old [] space new) none_served (subst (λ (l : List (List ℕ)). ServesSpoken said heard count capacity knows start shrunk old l space new) none step)
