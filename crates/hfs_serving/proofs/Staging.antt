-- The stages of a mount, and the end of a run, as stretches.
use Rattle.std.proofs.Common.{◌≡◌, ◌⊎◌, ◌+◌, [], ◌++◌, ℕ, List, inl, inr, ⊎_elim, length, sym, ◌∙◌, ap, subst, arith}
use Rattle.std.specs.Prelude.{Option, None}
use Rattle.std.proofs.lemmas.List.{append-nil}
use Rattle.sector_disk.specs.Clock.{TimePasses}
use Rattle.sector_disk.proofs.Passing.{both_pass, passes_with}
use Rattle.jnl_format.specs.Recovery.{Content}
use Rattle.hfs_volume.specs.Reclaim.{Tidies, none}
use Rattle.volume_runs.specs.Rest.{TidiesFor}
use Rattle.volume_runs.specs.Run.{Entry, shrunk_in}
use Rattle.hfs_serving.specs.Runs.{Answer, KeepsPlace, StandsAs, IsMarked, SetsVersion, Leads, StandsIn, Crashes, Serves}
use Rattle.hfs_serving.specs.Outside.{Outside}
use Rattle.hfs_serving.specs.Stages.{MayTurn, Turns}
use Rattle.hfs_serving.proofs.Lists.{content_after-none, shrunk_in-none}
use Rattle.hfs_serving.proofs.Leading.{leads_none, leads_on}
use Rattle.hfs_serving.proofs.Texts.{texts_of-none}
use Rattle.hfs_serving.proofs.Stretches.{stands_now, survives_early, crashes_both}

module _ (capacity : ℕ) (shrunk : Option ℕ) (start : Content) where
  stands_first : (recovered : Content) → StandsAs start recovered → StandsIn capacity shrunk start [] 0 recovered
  stands_first recovered stands = stands_now capacity shrunk start [] start recovered (leads_none capacity shrunk start) stands

  -- housekeeping leads there
  pub leads_tidy : (now : Content) → TidiesFor capacity shrunk None start now → KeepsPlace start now → Leads capacity shrunk None start [] now
  leads_tidy now tidied place =
      leads_on capacity shrunk start [] start None now (leads_none capacity shrunk start) (subst (λ (s : Option ℕ). TidiesFor capacity s None start now) (sym (shrunk_in-none shrunk)) tidied) place

  stands_tidy : (now recovered : Content) → TidiesFor capacity shrunk None start now → KeepsPlace start now → StandsAs now recovered → StandsIn capacity shrunk start [] 0 recovered
  stands_tidy now recovered tidied place stands = stands_now capacity shrunk start [] now recovered (leads_tidy now tidied place) stands

  -- the mark of the begin or of the end of a run
  stands_marked : (now recovered : Content) → IsMarked start now → KeepsPlace start now → StandsAs now recovered → StandsIn capacity shrunk start [] 0 recovered
  stands_marked now recovered marked place stands = record {
    count = 0;
    many = omega arith;
    some = omega arith;
    tidy = start;
    tidied = subst (λ (c : Content). Tidies capacity (shrunk_in shrunk []) c start) (sym (content_after-none start)) (none start);
    stood = now;
    marked = marked;
    place = place;
    stands = stands;
  }

  -- ---- a stage that a fault ended

  stage_crashes : (old new : Outside) → TimePasses old.clock new.clock (λ recovered told. StandsIn capacity shrunk start [] 0 recovered × (told ≡ old.told)) → ((recovered : Content) → new.leaves recovered → StandsIn capacity shrunk start [] 0 recovered) → new.told ≡ old.told
      → Crashes capacity shrunk start old [] [] 0 new
  stage_crashes old new time leaves told = record {
    run_is = tt;
    are = tt;
    time = passes_with old.clock new.clock _ _ time (λ recovered told p. survives_early capacity shrunk start old.told [] [] recovered told tt p.0 p.1);
    told = ([], ([], texts_of-none), told ∙ sym (append-nil old.told));
    few = omega arith;
    knows = leaves;
  }

  -- of housekeeping
  pub tidy_stage_crashes : (now : Content) (old new : Outside) → MayTurn start now old new → TidiesFor capacity shrunk None start now → KeepsPlace start now → Crashes capacity shrunk start old [] [] 0 new
  tidy_stage_crashes now old new may tidied place =
      stage_crashes old new (passes_with old.clock new.clock _ _ may.time (λ recovered told p. (⊎_elim (stands_first recovered) (stands_tidy now recovered tidied place) p.0, p.1)))
      (λ recovered left. ⊎_elim (stands_first recovered) (stands_tidy now recovered tidied place) (may.leaves recovered left)) may.told

  -- of a mark
  pub mark_stage_crashes : (now : Content) (old new : Outside) → MayTurn start now old new → IsMarked start now → KeepsPlace start now → Crashes capacity shrunk start old [] [] 0 new
  mark_stage_crashes now old new may marked place =
      stage_crashes old new (passes_with old.clock new.clock _ _ may.time (λ recovered told p. (⊎_elim (stands_first recovered) (stands_marked now recovered marked place) p.0, p.1)))
      (λ recovered left. ⊎_elim (stands_first recovered) (stands_marked now recovered marked place) (may.leaves recovered left)) may.told

  -- ---- a stage that was made

  stage_serves : (now : Content) (old new : Outside) → TimePasses old.clock new.clock (λ recovered told. StandsIn capacity shrunk start [] 0 recovered × (told ≡ old.told)) → ((recovered : Content) → new.leaves recovered → StandsAs now recovered) → new.told ≡ old.told
      → TidiesFor capacity shrunk None start now → KeepsPlace start now → Serves capacity shrunk start old [] [] now new
  stage_serves now old new time leaves told tidied place = record {
    leads = leads_tidy now tidied place;
    are = tt;
    time = passes_with old.clock new.clock _ _ time (λ recovered told p. survives_early capacity shrunk start old.told [] [] recovered told tt p.0 p.1);
    told = told ∙ sym (append-nil old.told) ∙ ap (λ (l : List ℕ). old.told ++ l) (sym texts_of-none);
    rests = leaves;
  }

  -- a stage that is housekeeping, before any line
  pub tidy_stage_serves : (now : Content) (old new : Outside) → Turns start now old new → TidiesFor capacity shrunk None start now → KeepsPlace start now → Serves capacity shrunk start old [] [] now new
  tidy_stage_serves now old new turns tidied place =
      stage_serves now old new (passes_with old.clock new.clock _ _ turns.may.time (λ recovered told p. (⊎_elim (stands_first recovered) (stands_tidy now recovered tidied place) p.0, p.1))) turns.leaves turns.may.told tidied place

  -- The version is written, and then the header is marked as mounted: from the start the second is one step of housekeeping, since it says the
  -- version anyway.
  module _ (version now : Content) (old mid new : Outside) (first : Turns start version old mid) (sets : SetsVersion start version) (version_place : KeepsPlace start version) (tidied : TidiesFor capacity shrunk None start now) (place : KeepsPlace start now) where
    stands_middle : (recovered : Content) → StandsAs version recovered ⊎ StandsAs now recovered → StandsIn capacity shrunk start [] 0 recovered
    stands_middle recovered which = ⊎_elim (stands_marked version recovered (inr (inl sets)) version_place) (stands_tidy now recovered tidied place) which

    both_stages : (new : Outside) → TimePasses mid.clock new.clock (λ recovered told. (StandsAs version recovered ⊎ StandsAs now recovered) × (told ≡ mid.told))
        → TimePasses old.clock new.clock (λ recovered told. StandsIn capacity shrunk start [] 0 recovered × (told ≡ old.told))
    both_stages new time =
        both_pass old.clock mid.clock new.clock _ _ _ first.may.time time
        (λ recovered told p. (⊎_elim (stands_first recovered) (stands_marked version recovered (inr (inl sets)) version_place) p.0, p.1)) (λ recovered told p. (stands_middle recovered p.0, p.1 ∙ first.may.told))

    pub version_stage_serves : Turns version now mid new → Serves capacity shrunk start old [] [] now new
    version_stage_serves second = stage_serves now old new (both_stages new second.may.time) second.leaves (second.may.told ∙ first.may.told) tidied place

    pub version_stage_crashes : MayTurn version now mid new → Crashes capacity shrunk start old [] [] 0 new
    version_stage_crashes second = stage_crashes old new (both_stages new second.time) (λ recovered left. stands_middle recovered (second.leaves recovered left)) (second.told ∙ first.may.told)

-- a mark behind a run, whatever ended its commit
pub end_crashes : (capacity : ℕ) (shrunk : Option ℕ) (start : Content) (run : List Entry) (answers : List Answer) (now ended : Content) (old mid new : Outside) → Serves capacity shrunk start old run answers now mid → IsMarked now ended → KeepsPlace now ended
    → MayTurn now ended mid new → Crashes capacity shrunk start old run answers (length run) new
end_crashes capacity shrunk start run answers now ended old mid new serves marked place may =
    let no_more : length run + 0 ≡ length run = omega arith in
    subst (λ (n : ℕ). Crashes capacity shrunk start old run answers n new) no_more
    (subst (λ (a : List Answer). Crashes capacity shrunk start old run a (length run + 0) new) (append-nil answers)
    (subst (λ (r : List Entry). Crashes capacity shrunk start old r (answers ++ []) (length run + 0) new) (append-nil run)
    (crashes_both capacity shrunk start old mid new run [] answers [] now serves 0 (mark_stage_crashes capacity (shrunk_in shrunk run) now ended mid new may marked place))))
