-- Where runs lead, put together.
use Rattle.std.proofs.Common.{◌≡◌, ◌⊎◌, inl, inr, ℕ, List, [], ◌∷◌, ◌++◌, refl, sym, ◌∙◌, subst}
use Rattle.std.specs.Prelude.{Option, None, Some}
use Rattle.hfs_volume.specs.declared.asked.Asked.{Asked}
use Rattle.jnl_format.specs.Recovery.{Content}
use Rattle.hfs_volume.specs.Reclaim.{CommandWants, IsTidied, StepWants, Tidies, none, one_more}
use Rattle.volume_runs.specs.Rest.{IsAtRest, IsOwn, IsTidiedFor, Rests, TidiesFor, no_step, one_step}
use Rattle.hfs_volume.specs.Content.{volume_of}
use Rattle.volume_runs.specs.Run.{Entry, IsServed, IsRunFrom, content_after, shrunk_in, shrunk_after, wanted_by}
use Rattle.hfs_serving.specs.Runs.{KeepsPlace, Leads, LeadsToRest}
use Rattle.hfs_serving.proofs.Lists.{content_after-none, content_after-append, content_after-last, shrunk_in-append}

-- ---- the place of the journal

pub place_none : (content : Content) → KeepsPlace content content
place_none content = record { journal = refl; locked = refl }

pub place_both : (a b c : Content) → KeepsPlace a b → KeepsPlace b c → KeepsPlace a c
place_both a b c first second = record { journal = second.journal ∙ first.journal; locked = second.locked ∙ first.locked }

-- ---- housekeeping

module _ (capacity : ℕ) (shrunk : Option ℕ) where
  pub tidied_on : (a b c : Content) → Tidies capacity shrunk a b → Tidies capacity shrunk b c → Tidies capacity shrunk a c
  tidied_on a _ c (none _) more = more
  tidied_on _ b c (one_more old between _ step rest) more = one_more old between c step (tidied_on between b c rest more)

  -- what is ahead of no command is ahead of any
  own_any : (asked : Option Asked) (content : Content) (grow : List ℕ) (wanted : CommandWants capacity content grow ⊎ StepWants capacity shrunk content grow) → IsOwn None wanted → IsOwn asked wanted
  own_any asked content grow (inl wants) own = absurd (let no : None ≡ Some wants.asked = own in cc no)
  own_any asked content grow (inr step) own = tt

  step_any : (asked : Option Asked) (a b : Content) → IsTidiedFor capacity shrunk None a b → IsTidiedFor capacity shrunk asked a b
  step_any asked a b (inl reclaims) = inl reclaims
  step_any asked a b (inr (inl cuts)) = absurd (let no : None ≡ Some cuts.own = cuts.is_own in cc no)
  step_any asked a b (inr (inr (inl grown))) = inr (inr (inl (record { grows = grown.grows; own = own_any asked a grown.grows.grow grown.grows.wanted grown.own })))
  step_any asked a b (inr (inr (inr (inl fills)))) = absurd (let no : None ≡ Some fills.own = fills.is_own in cc no)
  step_any asked a b (inr (inr (inr (inr marks)))) = inr (inr (inr (inr marks)))

  pub for_any : (asked : Option Asked) (a b : Content) → TidiesFor capacity shrunk None a b → TidiesFor capacity shrunk asked a b
  for_any asked a _ (no_step _) = no_step a
  for_any asked _ b (one_step old between _ step rest) = one_step old between b (step_any asked old between step) (for_any asked between b rest)

  -- and it is housekeeping
  step_plain : (asked : Option Asked) (a b : Content) → IsTidiedFor capacity shrunk asked a b → IsTidied capacity shrunk a b
  step_plain asked a b (inl reclaims) = inl reclaims
  step_plain asked a b (inr (inl cuts)) = inr (inl cuts.cuts)
  step_plain asked a b (inr (inr (inl grown))) = inr (inr (inl grown.grows))
  step_plain asked a b (inr (inr (inr (inl fills)))) = inr (inr (inr (inl fills.fills)))
  step_plain asked a b (inr (inr (inr (inr marks)))) = inr (inr (inr (inr marks)))

  pub plain_of : (asked : Option Asked) (a b : Content) → TidiesFor capacity shrunk asked a b → Tidies capacity shrunk a b
  plain_of asked a _ (no_step _) = none a
  plain_of asked _ b (one_step old between _ step rest) = one_more old between b (step_plain asked old between step) (plain_of asked between b rest)

  pub for_on : (asked : Option Asked) (a b c : Content) → TidiesFor capacity shrunk asked a b → TidiesFor capacity shrunk asked b c → TidiesFor capacity shrunk asked a c
  for_on asked a _ c (no_step _) more = more
  for_on asked _ b c (one_step old between _ step rest) more = one_step old between c step (for_on asked between b c rest more)

  pub rests_on : (asked : Option Asked) (a b c : Content) → TidiesFor capacity shrunk None a b → Rests capacity shrunk asked b c → Rests capacity shrunk asked a c
  rests_on asked a b c first rests = record { rest = rests.rest; before = for_on None a b rests.rest first rests.before; at_rest = rests.at_rest; after = rests.after }

  pub rested_on : (asked : Option Asked) (a b c : Content) → Rests capacity shrunk asked a b → TidiesFor capacity shrunk asked b c → Rests capacity shrunk asked a c
  rested_on asked a b c rests more = record { rest = rests.rest; before = rests.before; at_rest = rests.at_rest; after = for_on asked rests.rest b c rests.after more }

  -- what comes to rest is housekeeping
  pub tidies_of : (asked : Option Asked) (a b : Content) → Rests capacity shrunk asked a b → Tidies capacity shrunk a b
  tidies_of asked a b rests = tidied_on a rests.rest b (plain_of None a rests.rest rests.before) (plain_of asked rests.rest b rests.after)

-- ---- runs

module _ (capacity : ℕ) where
  runs_on : (shrunk : Option ℕ) (content : Content) (run more : List Entry) → IsRunFrom capacity shrunk content run
      → IsRunFrom capacity (shrunk_in shrunk run) (content_after content run) more → IsRunFrom capacity shrunk content (run ++ more)
  unfolding shrunk_in content_after
  runs_on shrunk content [] more is_run goes_on = goes_on
  runs_on shrunk content (entry ∷ run) more is_run goes_on =
      (is_run.0, is_run.1, runs_on (shrunk_after shrunk entry) entry.after run more is_run.2 goes_on)

  -- a run may start before housekeeping that is ahead of no command
  pub run_before : (shrunk : Option ℕ) (a b : Content) (run : List Entry) → TidiesFor capacity shrunk None a b → IsRunFrom capacity shrunk b run → IsRunFrom capacity shrunk a run
  run_before shrunk a b [] tidied is = tt
  run_before shrunk a b (entry ∷ run) tidied is = (rests_on capacity shrunk (wanted_by entry) a b entry.before tidied is.0, is.1, is.2)

  -- behind a run, also where it has no entry
  pub tidied_before : (shrunk : Option ℕ) (a b c : Content) (run : List Entry) → Tidies capacity shrunk a b → Tidies capacity (shrunk_in shrunk run) (content_after b run) c → Tidies capacity (shrunk_in shrunk run) (content_after a run) c
  unfolding shrunk_in content_after
  tidied_before shrunk a b c [] tidied more = tidied_on capacity shrunk a b c tidied more
  tidied_before shrunk a b c (entry ∷ run) tidied more = more

  pub for_before : (shrunk : Option ℕ) (asked : Option Asked) (a b c : Content) (run : List Entry) → TidiesFor capacity shrunk None a b → TidiesFor capacity (shrunk_in shrunk run) asked (content_after b run) c → TidiesFor capacity (shrunk_in shrunk run) asked (content_after a run) c
  unfolding shrunk_in content_after
  for_before shrunk asked a b c [] tidied more = for_on capacity shrunk asked a b c (for_any capacity shrunk asked a b tidied) more
  for_before shrunk asked a b c (entry ∷ run) tidied more = more

  pub rests_before : (shrunk : Option ℕ) (asked : Option Asked) (a b c : Content) (run : List Entry) → TidiesFor capacity shrunk None a b → Rests capacity (shrunk_in shrunk run) asked (content_after b run) c → Rests capacity (shrunk_in shrunk run) asked (content_after a run) c
  unfolding shrunk_in content_after
  rests_before shrunk asked a b c [] tidied more = rests_on capacity shrunk asked a b c tidied more
  rests_before shrunk asked a b c (entry ∷ run) tidied more = more

  -- ---- a run, and one from where it leads

  module _ (shrunk : Option ℕ) (start : Content) (run more : List Entry) (mid : Content) where
    -- the shrunk file where the second begins
    abbrev between : Option ℕ
    between = shrunk_in shrunk run

    -- whatever it was ahead of
    pub tidies_behind : (asked : Option Asked) → Leads capacity shrunk asked start run mid → (now : Content) → Tidies capacity (shrunk_in between more) (content_after mid more) now → Tidies capacity (shrunk_in shrunk (run ++ more)) (content_after start (run ++ more)) now
    tidies_behind asked first now tidied =
        subst (λ (s : Option ℕ). Tidies capacity s (content_after start (run ++ more)) now) (sym (shrunk_in-append shrunk run more))
        (subst (λ (c : Content). Tidies capacity (shrunk_in between more) c now) (sym (content_after-append start run more))
        (tidied_before between (content_after start run) mid now more (plain_of capacity between asked (content_after start run) mid first.tidied) tidied))

    module _ (first : Leads capacity shrunk None start run mid) where
      pub run_is_on : IsRunFrom capacity between mid more → IsRunFrom capacity shrunk start (run ++ more)
      run_is_on second = runs_on shrunk start run more first.run_is (run_before between (content_after start run) mid more first.tidied second)

      module _ (asked : Option Asked) (now : Content) where
        for_behind : TidiesFor capacity (shrunk_in between more) asked (content_after mid more) now → TidiesFor capacity (shrunk_in shrunk (run ++ more)) asked (content_after start (run ++ more)) now
        for_behind tidied =
            subst (λ (s : Option ℕ). TidiesFor capacity s asked (content_after start (run ++ more)) now) (sym (shrunk_in-append shrunk run more))
            (subst (λ (c : Content). TidiesFor capacity (shrunk_in between more) asked c now) (sym (content_after-append start run more))
            (for_before between asked (content_after start run) mid now more first.tidied tidied))

        rests_behind : Rests capacity (shrunk_in between more) asked (content_after mid more) now → Rests capacity (shrunk_in shrunk (run ++ more)) asked (content_after start (run ++ more)) now
        rests_behind rests =
            subst (λ (s : Option ℕ). Rests capacity s asked (content_after start (run ++ more)) now) (sym (shrunk_in-append shrunk run more))
            (subst (λ (c : Content). Rests capacity (shrunk_in between more) asked c now) (sym (content_after-append start run more))
            (rests_before between asked (content_after start run) mid now more first.tidied rests))

        pub leads_both : Leads capacity between asked mid more now → Leads capacity shrunk asked start (run ++ more) now
        leads_both second = record { run_is = run_is_on second.run_is; tidied = for_behind second.tidied; place = place_both start mid now first.place second.place }

        pub leads_to_rest : LeadsToRest capacity between asked mid more now → LeadsToRest capacity shrunk asked start (run ++ more) now
        leads_to_rest second = record { run_is = run_is_on second.run_is; rests = rests_behind second.rests; place = place_both start mid now first.place second.place }

  -- ---- step by step

  module _ (shrunk : Option ℕ) (start : Content) where
    pub leads_none : Leads capacity shrunk None start [] start
    leads_none = record {
      run_is = tt;
      tidied = subst (λ (c : Content). TidiesFor capacity (shrunk_in shrunk []) None c start) (sym (content_after-none start)) (no_step start);
      place = place_none start;
    }

    module _ (run : List Entry) (now : Content) where
      -- ahead of no command, so of any
      pub leads_any : (asked : Option Asked) → Leads capacity shrunk None start run now → Leads capacity shrunk asked start run now
      leads_any asked leads = record { run_is = leads.run_is; tidied = for_any capacity (shrunk_in shrunk run) asked (content_after start run) now leads.tidied; place = leads.place }

      pub rest_any : (asked : Option Asked) → LeadsToRest capacity shrunk None start run now → LeadsToRest capacity shrunk asked start run now
      rest_any asked leads = record {
        run_is = leads.run_is;
        rests = record { rest = leads.rests.rest; before = leads.rests.before; at_rest = leads.rests.at_rest; after = for_any capacity (shrunk_in shrunk run) asked leads.rests.rest now leads.rests.after };
        place = leads.place;
      }

      -- housekeeping goes on
      pub leads_on : (asked : Option Asked) (next : Content) → Leads capacity shrunk asked start run now → TidiesFor capacity (shrunk_in shrunk run) asked now next → KeepsPlace now next → Leads capacity shrunk asked start run next
      leads_on asked next leads more place = record {
        run_is = leads.run_is;
        tidied = for_on capacity (shrunk_in shrunk run) asked (content_after start run) now next leads.tidied more;
        place = place_both start now next leads.place place;
      }

      pub rest_on : (asked : Option Asked) (next : Content) → LeadsToRest capacity shrunk asked start run now → TidiesFor capacity (shrunk_in shrunk run) asked now next → KeepsPlace now next → LeadsToRest capacity shrunk asked start run next
      rest_on asked next leads more place = record {
        run_is = leads.run_is;
        rests = rested_on capacity (shrunk_in shrunk run) asked (content_after start run) now next leads.rests more;
        place = place_both start now next leads.place place;
      }

      -- and has come to rest
      pub leads_rest : Leads capacity shrunk None start run now → IsAtRest capacity (shrunk_in shrunk run) (volume_of now) → LeadsToRest capacity shrunk None start run now
      leads_rest leads at_rest = record { run_is = leads.run_is; rests = record { rest = now; before = leads.tidied; at_rest = at_rest; after = no_step now }; place = leads.place }

      -- one entry more
      pub leads_entry : (entry : Entry) → LeadsToRest capacity shrunk (wanted_by entry) start run now → entry.before ≡ now → IsServed capacity entry → KeepsPlace now entry.after → Leads capacity shrunk None start (run ++ entry ∷ []) entry.after
      leads_entry entry leads before served place = record {
        run_is = runs_on shrunk start run (entry ∷ []) leads.run_is (subst (λ (c : Content). Rests capacity (shrunk_in shrunk run) (wanted_by entry) (content_after start run) c) (sym before) leads.rests, served, tt);
        tidied =
            subst (λ (c : Content). TidiesFor capacity (shrunk_in shrunk (run ++ entry ∷ [])) None c entry.after) (sym (content_after-last start run entry))
            (no_step entry.after);
        place = place_both start now entry.after leads.place place;
      }
