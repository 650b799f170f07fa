-- Two stretches of calls, one after the other.
use Rattle.std.proofs.Common.{◌≡◌, ◌≤◌, ◌+◌, [], ◌++◌, ℕ, List, inl, length, take, refl, sym, ◌∙◌, ap, subst, arith, append_assoc, length-append}
use Rattle.std.specs.Prelude.{Option, None}
use Rattle.std.proofs.Math.Seq.{take-append-add}
use Rattle.std.proofs.lemmas.List.{append-nil, take_all, take-append-le}
use Rattle.hfs_volume.specs.declared.asked.Asked.{Asked}
use Rattle.sector_disk.specs.Clock.{TimePasses}
use Rattle.sector_disk.proofs.Passing.{none_passes, both_pass}
use Rattle.jnl_format.specs.Recovery.{Content}
use Rattle.hfs_volume.specs.Reclaim.{Tidies}
use Rattle.volume_runs.specs.Run.{Entry, content_after, shrunk_in}
use Rattle.hfs_serving.specs.Runs.{Answer, AreAnswered, AreAnswers, IsPrefix, StandsAs, Leads, StandsIn, Survives, SurvivesFrom, Crashes, Serves, plain_answers, shifted, texts_of}
use Rattle.hfs_serving.specs.Outside.{Outside}
use Rattle.hfs_serving.proofs.Lists.{front_length}
use Rattle.hfs_serving.proofs.Texts.{all_answered, answered_behind, answered_both, are_both, are_more, are_shifted, none_answered, texts_of-none, texts_of_both}
use Rattle.hfs_serving.proofs.Plain.{plain_both}
use Rattle.hfs_serving.proofs.Leading.{place_both, plain_of, leads_none, leads_both, run_is_on, tidies_behind}

module _ (capacity : ℕ) (shrunk : Option ℕ) (start : Content) where
  -- ---- what stands in a run

  -- with fewer that must be among them
  pub stands_less : (run : List Entry) (least less : ℕ) (recovered : Content) → less ≤ least → StandsIn capacity shrunk start run least recovered → StandsIn capacity shrunk start run less recovered
  stands_less run least less recovered le within =
      record { count = within.count; many = omega (arith, le, within.many); some = within.some; tidy = within.tidy; tidied = within.tidied; stood = within.stood; marked = within.marked; place = within.place; stands = within.stands }

  -- the content that a run leads to stands in it
  pub stands_now : (run : List Entry) (now recovered : Content) {asked : Option Asked} → Leads capacity shrunk asked start run now → StandsAs now recovered → StandsIn capacity shrunk start run (length run) recovered
  stands_now run now recovered {asked} leads stands = record {
    count = length run;
    many = omega arith;
    some = omega arith;
    tidy = now;
    stood = now;
    marked = inl refl;
    place = leads.place;
    tidied = subst (λ (r : List Entry). Tidies capacity (shrunk_in shrunk r) (content_after start r) now) (sym (take_all (length run) run (omega arith)))
        (plain_of capacity (shrunk_in shrunk run) asked (content_after start run) now leads.tidied);
    stands = stands;
  }

  module _ (run more : List Entry) where
    pub stands_on : (least : ℕ) (recovered : Content) → StandsIn capacity shrunk start run least recovered → StandsIn capacity shrunk start (run ++ more) least recovered
    stands_on least recovered within = record {
      count = within.count;
      many = within.many;
      some = omega (arith, within.some, length-append run more);
      tidy = within.tidy;
      stood = within.stood;
      marked = within.marked;
      place = within.place;
      tidied = subst (λ (r : List Entry). Tidies capacity (shrunk_in shrunk r) (content_after start r) within.tidy) (sym (take-append-le within.count run more within.some)) within.tidied;
      stands = within.stands;
    }

    pub stands_behind : (mid : Content) {asked : Option Asked} → Leads capacity shrunk asked start run mid → (least : ℕ) (recovered : Content) → StandsIn capacity (shrunk_in shrunk run) mid more least recovered
        → StandsIn capacity shrunk start (run ++ more) (length run + least) recovered
    stands_behind mid {asked} leads least recovered within = record {
      count = length run + within.count;
      many = omega (arith, within.many);
      some = omega (arith, within.some, length-append run more);
      tidy = within.tidy;
      stood = within.stood;
      marked = within.marked;
      place = place_both start mid within.stood leads.place within.place;
      tidied =
          subst (λ (r : List Entry). Tidies capacity (shrunk_in shrunk r) (content_after start r) within.tidy) (sym (take-append-add run more within.count))
          (tidies_behind capacity shrunk start run (take within.count more) mid asked leads within.tidy within.tidied);
      stands = within.stands;
    }

  -- ---- moments

  -- none of the answers is told
  pub survives_early : (before : List ℕ) (run : List Entry) (answers : List Answer) (recovered : Content) (told : List ℕ) → AreAnswers (length run) answers → StandsIn capacity shrunk start run 0 recovered → told ≡ before
      → SurvivesFrom capacity shrunk start before run answers recovered told
  survives_early before run answers recovered told are within is = (
    [],
    is ∙ sym (append-nil before),
    record { within = within; front = (texts_of answers, refl); answered = none_answered [] within.count (length run) answers [] are (omega arith) },
  )

  -- all entries are durable, and some front of the answers is told
  pub survives_late : (before w : List ℕ) (run : List Entry) (answers : List Answer) (recovered : Content) (told : List ℕ) → AreAnswers (length run) answers → StandsIn capacity shrunk start run (length run) recovered → IsPrefix w (texts_of answers)
      → told ≡ before ++ w → SurvivesFrom capacity shrunk start before run answers recovered told
  unfolding stands_less
  survives_late before w run answers recovered told are within front is = (
    w,
    is,
    record { within = stands_less run (length run) 0 recovered (omega arith) within; front = front; answered = all_answered w within.count (length run) answers [] are within.many },
  )

  -- ---- two stretches

  module _ (run more : List Entry) (answers others : List Answer) (are : AreAnswers (length run) answers) (are_others : AreAnswers (length more) others) where
    abbrev both : List Answer
    both = answers ++ shifted (length run) others

    are_joined : AreAnswers (length (run ++ more)) both
    are_joined =
        subst (λ n. AreAnswers n both) (sym (length-append run more))
        (are_both (length run + length more) answers (shifted (length run) others) (are_more (length run) (length run + length more) answers (omega arith) are) (are_shifted (length run) (length more) others are_others))

    survives_on : (recovered : Content) (told : List ℕ) → Survives capacity shrunk start run answers recovered told → Survives capacity shrunk start (run ++ more) both recovered told
    unfolding stands_on
    survives_on recovered told holds = record {
      within = stands_on run more 0 recovered holds.within;
      front = (
        holds.front.0 ++ texts_of others,
        texts_of_both answers others (length run) ∙ ap (λ (l : List ℕ). l ++ texts_of others) holds.front.1 ∙ append_assoc told holds.front.0 (texts_of others),
      );
      answered =
          answered_both told holds.within.count answers (shifted (length run) others) [] holds.answered
          (none_answered told holds.within.count (length run + length more) (shifted (length run) others) (texts_of answers) (are_shifted (length run) (length more) others are_others) (front_length told (texts_of answers) holds.front));
    }

    module _ (mid : Content) (leads : Leads capacity shrunk None start run mid) where
      survives_behind : (recovered : Content) (told : List ℕ) → Survives capacity (shrunk_in shrunk run) mid more others recovered told → Survives capacity shrunk start (run ++ more) both recovered (texts_of answers ++ told)
      unfolding stands_less stands_behind
      survives_behind recovered told holds =
          let behind = stands_behind run more mid leads 0 recovered holds.within in
          record {
            within = stands_less (run ++ more) (length run + 0) 0 recovered (omega arith) behind;
            front = (holds.front.0, texts_of_both answers others (length run) ∙ ap (λ (l : List ℕ). texts_of answers ++ l) holds.front.1 ∙ sym (append_assoc (texts_of answers) told holds.front.0));
            answered =
                answered_both (texts_of answers ++ told) (length run + holds.within.count) answers (shifted (length run) others) []
                (all_answered (texts_of answers ++ told) (length run + holds.within.count) (length run) answers [] are (omega arith))
                (subst (λ (l : List ℕ). AreAnswered l (shifted (length run) others) (texts_of answers ++ told) (length run + holds.within.count)) (append-nil (texts_of answers))
                (answered_behind (texts_of answers) told (length run) holds.within.count others [] holds.answered));
          }

  module _ (old mid new : Outside) (run more : List Entry) (answers others : List Answer) (between : Content) (first : Serves capacity shrunk start old run answers between mid) where
    abbrev joined : List Answer
    joined = answers ++ shifted (length run) others

    both_time : AreAnswers (length more) others → TimePasses mid.clock new.clock (SurvivesFrom capacity (shrunk_in shrunk run) between mid.told more others) → TimePasses old.clock new.clock (SurvivesFrom capacity shrunk start old.told (run ++ more) joined)
    both_time are_others time =
        both_pass old.clock mid.clock new.clock _ _ _ first.time time
        (λ recovered told p. (p.0, p.1, survives_on run more answers others first.are are_others recovered p.0 p.2))
        (λ recovered told p. (
          texts_of answers ++ p.0,
          p.1 ∙ ap (λ (l : List ℕ). l ++ p.0) first.told ∙ append_assoc old.told (texts_of answers) p.0,
          survives_behind run more answers others first.are are_others between first.leads recovered p.0 p.2,
        ))

    -- Both are one.
    pub serves_both : (now : Content) → Serves capacity (shrunk_in shrunk run) between mid more others now new → Serves capacity shrunk start old (run ++ more) joined now new
    serves_both now second = record {
      leads = leads_both capacity shrunk start run more between first.leads None now second.leads;
      are = are_joined run more answers others first.are second.are;
      time = both_time second.are second.time;
      told =
          second.told ∙ ap (λ (l : List ℕ). l ++ texts_of others) first.told ∙ append_assoc old.told (texts_of answers) (texts_of others)
          ∙ ap (λ (l : List ℕ). old.told ++ l) (sym (texts_of_both answers others (length run)));
      rests = second.rests;
    }

    -- Of the second so many entries are known, and of the first all.
    pub crashes_both : (known : ℕ) → Crashes capacity (shrunk_in shrunk run) between mid more others known new → Crashes capacity shrunk start old (run ++ more) joined (length run + known) new
    crashes_both known second = record {
      run_is = run_is_on capacity shrunk start run more between first.leads second.run_is;
      are = are_joined run more answers others first.are second.are;
      time = both_time second.are second.time;
      told =
          let w = second.told in (
            texts_of answers ++ w.0,
            (w.1.0, texts_of_both answers others (length run) ∙ ap (λ (l : List ℕ). texts_of answers ++ l) w.1.1 ∙ sym (append_assoc (texts_of answers) w.0 w.1.0)),
            w.2 ∙ ap (λ (l : List ℕ). l ++ w.0) first.told ∙ append_assoc old.told (texts_of answers) w.0,
          );
      few = omega (arith, second.few, length-append run more);
      knows = λ recovered leaves. stands_behind run more between first.leads known recovered (second.knows recovered leaves);
    }

  -- the same of plain lines
  module _ (old mid new : Outside) (run more : List Entry) (between : Content) (first : Serves capacity shrunk start old run (plain_answers run) between mid) where
    pub plain_crashes_both : (known : ℕ) → Crashes capacity (shrunk_in shrunk run) between mid more (plain_answers more) known new → Crashes capacity shrunk start old (run ++ more) (plain_answers (run ++ more)) (length run + known) new
    plain_crashes_both known second =
        subst (λ (a : List Answer). Crashes capacity shrunk start old (run ++ more) a (length run + known) new) (plain_both run more) (crashes_both old mid new run more (plain_answers run) (plain_answers more) between first known second)

  -- ---- none, and the end

  pub serves_none : (old : Outside) → ((recovered : Content) → old.leaves recovered → StandsAs start recovered) → Serves capacity shrunk start old [] [] start old
  serves_none old rests = record {
    leads = leads_none capacity shrunk start;
    are = tt;
    time = none_passes old.clock _;
    told = sym (append-nil old.told) ∙ ap (λ (l : List ℕ). old.told ++ l) (sym texts_of-none);
    rests = rests;
  }

  pub serves_crashes : (old new : Outside) (run : List Entry) (answers : List Answer) (now : Content) → Serves capacity shrunk start old run answers now new → Crashes capacity shrunk start old run answers (length run) new
  serves_crashes old new run answers now serves = record {
    run_is = serves.leads.run_is;
    are = serves.are;
    time = serves.time;
    told = (texts_of answers, ([], sym (append-nil (texts_of answers))), serves.told);
    few = omega arith;
    knows = λ recovered leaves. stands_now run now recovered serves.leads (serves.rests recovered leaves);
  }
