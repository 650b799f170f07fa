-- A batch: lines are done in memory, one commit makes them durable, watchers are told, and then the answers.
use Rattle.std.proofs.Common.{◌≡◌, ◌⊎◌, ◌+◌, [], ◌++◌, ℕ, List, inl, inr, ⊎_elim, length, take, drop, refl, sym, ◌∙◌, ap, subst, arith, length-append, take-append-drop}
use Rattle.std.specs.Prelude.{Option, None}
use Rattle.std.proofs.Math.Seq.{take-append-add}
use Rattle.std.proofs.lemmas.List.{append-nil, take-append-le}
use Rattle.hfs_volume.specs.declared.asked.Asked.{Asked}
use Rattle.sector_disk.specs.Clock.{TimePasses}
use Rattle.sector_disk.specs.Disk.{ToldPrefix}
use Rattle.sector_disk.specs.Space.{Space}
use Rattle.sector_disk.proofs.Passing.{none_passes, both_pass, passes_with}
use Rattle.jnl_format.specs.Recovery.{Content}
use Rattle.hfs_volume.specs.Reclaim.{Tidies, none}
use Rattle.volume_runs.specs.Run.{Entry, IsRunFrom, content_after, shrunk_in}
use Rattle.hfs_serving.specs.Runs.{Answer, AreAnswers, IsPrefix, StandsAs, Leads, StandsIn, SurvivesFrom, Crashes, Serves, texts_of}
use Rattle.hfs_serving.specs.Outside.{Outside}
use Rattle.hfs_serving.specs.Serving.{IsDurable, IsRead, IsAsDurable, Touches, MayCommit, IsEither, Commits, TellsOut, IsServing, WasCommitted, StandsWithin, Goes, Stops}
use Rattle.hfs_serving.proofs.Lists.{content_after-none}
use Rattle.hfs_serving.proofs.Leading.{place_none, place_both, leads_none, leads_both, run_is_on, tidies_behind}
use Rattle.hfs_serving.proofs.Agreeing.{stands_durable, touched_below, stands_either, committed_below, committed_reads}
use Rattle.hfs_serving.proofs.Stretches.{stands_less, stands_now, stands_on, stands_behind, survives_early, survives_late}

module _ (capacity : ℕ) (shrunk : Option ℕ) (committed from : Content) (old : Outside) where
  -- ---- what stands within

  -- as more entries follow
  pub within_on : (run more : List Entry) (recovered : Content) → StandsWithin capacity shrunk committed from run recovered → StandsWithin capacity shrunk committed from (run ++ more) recovered
  within_on run more recovered within = ⊎_elim (λ before. inl before) (λ in_run. inr (stands_on capacity shrunk from run more 0 recovered in_run)) within

  was_committed_stands : (run : List Entry) (middle recovered : Content) → WasCommitted capacity shrunk from run middle → StandsAs middle recovered → StandsIn capacity shrunk from run 0 recovered
  was_committed_stands run middle recovered was stands = record { count = was.count; many = omega arith; some = was.some; tidy = middle; tidied = was.tidied; stood = middle; marked = inl refl; place = was.place; stands = stands }

  committed_stands : (run : List Entry) (middle recovered : Content) → (middle ≡ committed) ⊎ WasCommitted capacity shrunk from run middle → StandsAs middle recovered → StandsWithin capacity shrunk committed from run recovered
  committed_stands run middle recovered (inl same) stands = inl (subst (λ (c : Content). StandsAs c recovered) same stands)
  committed_stands run middle recovered (inr was) stands = inr (was_committed_stands run middle recovered was stands)

  now_stands : (run : List Entry) (now recovered : Content) → Leads capacity shrunk None from run now → StandsAs now recovered → StandsWithin capacity shrunk committed from run recovered
  now_stands run now recovered leads stands = inr (stands_less capacity shrunk from run (length run) 0 recovered (omega arith) (stands_now capacity shrunk from run now recovered leads stands))

  was_on : (run more : List Entry) (middle : Content) → WasCommitted capacity shrunk from run middle → WasCommitted capacity shrunk from (run ++ more) middle
  was_on run more middle was = record {
    count = was.count;
    some = omega (arith, was.some, length-append run more);
    tidied = subst (λ (r : List Entry). Tidies capacity (shrunk_in shrunk r) (content_after from r) middle) (sym (take-append-le was.count run more was.some)) was.tidied;
    place = was.place;
  }

  -- ---- it begins

  pub goes_none : (space : Space) → IsDurable committed space → IsRead from space → ((recovered : Content) → old.leaves recovered → IsAsDurable space recovered) → Goes capacity shrunk None committed from old [] committed from space old
  goes_none space below reads leaves = record {
    leads = leads_none capacity shrunk from;
    commits = inl refl;
    below = below;
    reads = reads;
    leaves = leaves;
    time = none_passes old.clock _;
    told = refl;
  }

  -- ---- two stretches within a batch

  module _ (run more : List Entry) (middle between : Content) (space : Space) (mid : Outside) {asked : Option Asked} (goes : Goes capacity shrunk asked committed from old run middle between space mid) where
    -- what stands in the second stretch stands within both
    within_both : (recovered : Content) → StandsWithin capacity (shrunk_in shrunk run) middle between more recovered → StandsWithin capacity shrunk committed from (run ++ more) recovered
    within_both recovered within =
        ⊎_elim (λ before. within_on run more recovered (committed_stands run middle recovered goes.commits before))
        (λ then. inr (stands_less capacity shrunk from (run ++ more) (length run + 0) 0 recovered (omega arith) (stands_behind capacity shrunk from run more between goes.leads 0 recovered then))) within

    both_time : (new : Outside) → TimePasses mid.clock new.clock (λ recovered told. StandsWithin capacity (shrunk_in shrunk run) middle between more recovered × (told ≡ mid.told))
        → TimePasses old.clock new.clock (λ recovered told. StandsWithin capacity shrunk committed from (run ++ more) recovered × (told ≡ old.told))
    both_time new time =
        both_pass old.clock mid.clock new.clock _ _ _ goes.time time
        (λ recovered told p. (within_on run more recovered p.0, p.1)) (λ recovered told p. (within_both recovered p.0, p.1 ∙ goes.told))

    -- what the second stretch committed is behind the first
    commits_both : (last : Content) → (last ≡ middle) ⊎ WasCommitted capacity (shrunk_in shrunk run) between more last → (last ≡ committed) ⊎ WasCommitted capacity shrunk from (run ++ more) last
    commits_both last (inl same) = ⊎_elim (λ first. inl (same ∙ first)) (λ was. inr (subst (λ (c : Content). WasCommitted capacity shrunk from (run ++ more) c) (sym same) (was_on run more middle was))) goes.commits
    commits_both last (inr was) = inr (record {
      count = length run + was.count;
      some = omega (arith, was.some, length-append run more);
      tidied =
          subst (λ (r : List Entry). Tidies capacity (shrunk_in shrunk r) (content_after from r) last) (sym (take-append-add run more was.count))
          (tidies_behind capacity shrunk from run (take was.count more) between asked goes.leads last was.tidied);
      place = place_both from between last goes.leads.place was.place;
    })

    -- where both lead to there
    pub goes_as : {further ahead : Option Asked} (last now : Content) (new_space : Space) (new : Outside) → Goes capacity (shrunk_in shrunk run) further middle between mid more last now new_space new → Leads capacity shrunk ahead from (run ++ more) now
        → Goes capacity shrunk ahead committed from old (run ++ more) last now new_space new
    goes_as last now new_space new second leads = record {
      leads = leads;
      commits = commits_both last second.commits;
      below = second.below;
      reads = second.reads;
      leaves = second.leaves;
      time = both_time new second.time;
      told = second.told ∙ goes.told;
    }

    pub stops_as : (new : Outside) → Stops capacity (shrunk_in shrunk run) middle between mid more new → IsRunFrom capacity shrunk from (run ++ more) → Stops capacity shrunk committed from old (run ++ more) new
    stops_as new second is_run = record {
      run_is = is_run;
      leaves = λ recovered left. within_both recovered (second.leaves recovered left);
      time = both_time new second.time;
      told = second.told ∙ goes.told;
    }

  -- of which the first is ahead of no command
  module _ (run more : List Entry) (middle between : Content) (space : Space) (mid : Outside) (goes : Goes capacity shrunk None committed from old run middle between space mid) where
    pub goes_both : {asked : Option Asked} (last now : Content) (new_space : Space) (new : Outside) → Goes capacity (shrunk_in shrunk run) asked middle between mid more last now new_space new → Goes capacity shrunk asked committed from old (run ++ more) last now new_space new
    goes_both {asked} last now new_space new second =
        goes_as run more middle between space mid goes last now new_space new second (leads_both capacity shrunk from run more between goes.leads asked now second.leads)

    pub goes_stops : (new : Outside) → Stops capacity (shrunk_in shrunk run) middle between mid more new → Stops capacity shrunk committed from old (run ++ more) new
    goes_stops new second = stops_as run more middle between space mid goes new second (run_is_on capacity shrunk from run more between goes.leads second.run_is)

  -- a fault of a call that puts and spills nothing, as of memory or of the source
  pub stops_there : (run : List Entry) (middle between : Content) (space : Space) (mid : Outside) {asked : Option Asked} → Goes capacity shrunk asked committed from old run middle between space mid → Stops capacity shrunk committed from old run mid
  stops_there run middle between space mid {asked} goes = record {
    run_is = goes.leads.run_is;
    leaves = λ recovered left. committed_stands run middle recovered goes.commits (stands_durable middle space goes.below recovered (goes.leaves recovered left));
    time = goes.time;
    told = goes.told;
  }

  -- Behind a stretch sectors were put and spilled, so that the space reads as a content to which a longer run leads.
  module _ (run longer : List Entry) (middle between : Content) (space : Space) (mid : Outside) {asked : Option Asked} (goes : Goes capacity shrunk asked committed from old run middle between space mid) where
    pub touched_on : (new : Space) (after : Outside) {now : Content} {ahead : Option Asked} → Touches middle space mid new after → Leads capacity shrunk ahead from (run ++ longer) now → IsRead now new → Goes capacity shrunk ahead committed from old (run ++ longer) middle now new after
    touched_on new after {now} {ahead} touches leads reads =
        let below = touched_below middle space goes.below mid new after touches in
        record {
          leads = leads;
          commits = ⊎_elim (λ same. inl same) (λ was. inr (was_on run longer middle was)) goes.commits;
          below = below;
          reads = reads;
          leaves = touches.leaves;
          time =
              both_pass old.clock mid.clock after.clock _ _ _ goes.time touches.time (λ recovered told p. (within_on run longer recovered p.0, p.1))
              (λ recovered told p. (within_on run longer recovered (committed_stands run middle recovered goes.commits (stands_durable middle new below recovered p.0)), p.1 ∙ goes.told));
          told = touches.told ∙ goes.told;
        }

  -- ---- what calls make of it

  module _ (space : Space) (below : IsDurable committed space) (reads : IsRead from space) where
    touched_within : (run : List Entry) (new : Space) (after : Outside) → Touches committed space old new after → (recovered : Content) → IsAsDurable new recovered → StandsWithin capacity shrunk committed from run recovered
    touched_within run new after touches recovered is = inl (stands_durable committed new (touched_below committed space below old new after touches) recovered is)

    touched_time : (run : List Entry) (new : Space) (after : Outside) → Touches committed space old new after → TimePasses old.clock after.clock (λ recovered told. StandsWithin capacity shrunk committed from run recovered × (told ≡ old.told))
    touched_time run new after touches = passes_with old.clock after.clock _ _ touches.time (λ recovered told p. (touched_within run new after touches recovered p.0, p.1))

    -- Sectors were put and spilled, so that the space reads as a content to which these entries lead: none with a step of housekeeping, or one.
    pub touch_goes : (run : List Entry) (now : Content) (new : Space) (after : Outside) → Touches committed space old new after → Leads capacity shrunk None from run now → IsRead now new → Goes capacity shrunk None committed from old run committed now new after
    touch_goes run now new after touches leads reads_now = record {
      leads = leads;
      commits = inl refl;
      below = touched_below committed space below old new after touches;
      reads = reads_now;
      leaves = touches.leaves;
      time = touched_time run new after touches;
      told = touches.told;
    }

    -- or a fault came
    pub touch_stops : (new : Space) (after : Outside) → Touches committed space old new after → Stops capacity shrunk committed from old [] after
    touch_stops new after touches = record {
      run_is = tt;
      leaves = λ recovered left. touched_within [] new after touches recovered (touches.leaves recovered left);
      time = touched_time [] new after touches;
      told = touches.told;
    }

    either_within : (recovered : Content) → IsEither space recovered → StandsWithin capacity shrunk committed from [] recovered
    either_within recovered is =
        ⊎_elim (λ before. inl before) (λ now. now_stands [] from recovered (leads_none capacity shrunk from) now) (stands_either committed from space below reads recovered is)

    commit_time : (after : Outside) → MayCommit space old after → TimePasses old.clock after.clock (λ recovered told. StandsWithin capacity shrunk committed from [] recovered × (told ≡ old.told))
    commit_time after may = passes_with old.clock after.clock _ _ may.time (λ recovered told p. (either_within recovered p.0, p.1))

    -- a commit, early or at the end
    pub commit_goes : (new : Space) (after : Outside) → Commits space old new after → Goes capacity shrunk None committed from old [] from from new after
    commit_goes new after commits = record {
      leads = leads_none capacity shrunk from;
      commits = inr (record { count = 0; some = omega arith; tidied = subst (λ (c : Content). Tidies capacity (shrunk_in shrunk []) c from) (sym (content_after-none from)) (none from); place = place_none from });
      below = committed_below from space old new after reads commits;
      reads = committed_reads from space old new after reads commits;
      leaves = commits.leaves;
      time = commit_time after commits.may;
      told = commits.may.told;
    }

    pub commit_stops : (after : Outside) → MayCommit space old after → Stops capacity shrunk committed from old [] after
    commit_stops after may = record { run_is = tt; leaves = λ recovered left. either_within recovered (may.leaves recovered left); time = commit_time after may; told = may.told }

-- ---- a whole batch, which begins where what was committed is what the volume stands for

module _ (capacity : ℕ) (shrunk : Option ℕ) (start : Content) (old : Outside) where
  within_start : (run : List Entry) (recovered : Content) → StandsWithin capacity shrunk start start run recovered → StandsIn capacity shrunk start run 0 recovered
  within_start run recovered within =
      ⊎_elim (λ stands. stands_on capacity shrunk start [] run 0 recovered (stands_now capacity shrunk start [] start recovered (leads_none capacity shrunk start) stands)) (λ in_run. in_run) within

  -- a fault before anything is told, whatever the answers would have been
  pub stops_crashes : (run : List Entry) (answers : List Answer) (new : Outside) → AreAnswers (length run) answers → Stops capacity shrunk start start old run new → Crashes capacity shrunk start old run answers 0 new
  stops_crashes run answers new are stops = record {
    run_is = stops.run_is;
    are = are;
    time = passes_with old.clock new.clock _ _ stops.time (λ recovered told p. survives_early capacity shrunk start old.told run answers recovered told are (within_start run recovered p.0) p.1);
    told = ([], (texts_of answers, refl), stops.told ∙ sym (append-nil old.told));
    few = omega arith;
    knows = λ recovered left. within_start run recovered (stops.leaves recovered left);
  }

  -- All is committed, and watchers know it: then the answers are told.
  module _ (run : List Entry) (answers : List Answer) (now : Content) (space : Space) (mid after : Outside) (are : AreAnswers (length run) answers) (goes : Goes capacity shrunk None start start old run now now space mid) (tells : TellsOut mid (texts_of answers) after) where
    stands_whole : (recovered : Content) → mid.leaves recovered → StandsIn capacity shrunk start run (length run) recovered
    stands_whole recovered leaves = stands_now capacity shrunk start run now recovered goes.leads (stands_durable now space goes.below recovered (goes.leaves recovered leaves))

    front_of : (told : List ℕ) → ToldPrefix mid.told (texts_of answers) told → (w : List ℕ) × IsPrefix w (texts_of answers) × (told ≡ old.told ++ w)
    front_of told front = (
      take front.0 (texts_of answers),
      (drop front.0 (texts_of answers), sym (take-append-drop front.0 (texts_of answers))),
      front.2 ∙ ap (λ (l : List ℕ). l ++ take front.0 (texts_of answers)) goes.told,
    )

    told_time : TimePasses old.clock after.clock (SurvivesFrom capacity shrunk start old.told run answers)
    told_time =
        both_pass old.clock mid.clock after.clock _ _ _ goes.time tells.time
        (λ recovered told p. survives_early capacity shrunk start old.told run answers recovered told are (within_start run recovered p.0) p.1)
        (λ recovered told p.
        let w = front_of told p.1 in
        survives_late capacity shrunk start old.told w.0 run answers recovered told are (stands_whole recovered p.0) w.1 w.2)

    -- the sink failed
    pub batch_tells_partly : Crashes capacity shrunk start old run answers (length run) after
    batch_tells_partly = record {
      run_is = goes.leads.run_is;
      are = are;
      time = told_time;
      told = front_of after.told tells.told;
      few = omega arith;
      knows = λ recovered leaves. stands_whole recovered (tells.leaves recovered leaves);
    }

    -- all was told
    pub batch_ends : after.told ≡ mid.told ++ texts_of answers → Serves capacity shrunk start old run answers now after
    batch_ends told = record {
      leads = goes.leads;
      are = are;
      time = told_time;
      told = told ∙ ap (λ (l : List ℕ). l ++ texts_of answers) goes.told;
      rests = λ recovered leaves. stands_durable now space goes.below recovered (goes.leaves recovered (tells.leaves recovered leaves));
    }

    -- and the volume is in service again
    pub batch_serves : IsServing now space after
    batch_serves = record { below = goes.below; reads = goes.reads; leaves = λ recovered leaves. goes.leaves recovered (tells.leaves recovered leaves) }
