-- What a line comes to behind its stages, by its errand.
use Rattle.std.proofs.Common.{◌≡◌, ◌⊎◌, ◌≤◌, ◌<◌, ◌^◌, ℕ, Bool, true, false, List, [], ◌∷◌, ◌++◌, length, inl, inr, refl, sym, ◌∙◌, ap, subst}
use Rattle.std.specs.Prelude.{Contains, IsTrue, ◌||◌, nat_lt, Option, Some, None, Result, Ok, Err, if◌then◌else◌}
use Rattle.std.specs.Option.{ok_or}
use Rattle.std.proofs.lemmas.Bool.{true≢false}
use Rattle.std.proofs.lemmas.List.{append-nil}
use Rattle.jnl_format.specs.Recovery.{Content}
use Rattle.hfs_language.specs.declared.command.Command.{Command}
use Rattle.hfs_language.specs.declared.command.Command.TheVariants as command
use Rattle.hfs_language.specs.declared.refusal.Refusal.{Refusal}
use Rattle.hfs_language.specs.declared.refusal.Refusal.TheVariants as refusal
use Rattle.hfs_language.specs.declared.reply.Reply.{Reply}
use Rattle.hfs_language.specs.declared.reply.Reply.TheVariants as reply
use Rattle.hfs_model.specs.Plain.{node_at}
use Rattle.hfs_model.specs.Step.{is_private_path, most_bytes, paths_of, refuses, then_, to_node, unless}
use Rattle.hfs_model.specs.declared.plain.PlainNode.{PlainNode}
use Rattle.hfs_model.specs.declared.plain.PlainTree.{PlainTree}
use Rattle.hfs_volume.specs.TreeOf.{tree_of}
use Rattle.hfs_volume.proofs.Members.{at_front}
use Rattle.hfs_volume.proofs.Reaching.{ok_same, then_ok, unless_ok}
use Rattle.volume_runs.specs.Run.{Entry, IsServed, asked_by, tree_after}
use Rattle.open_files.specs.Handles.{Opens, file_of, files_of, free_handle, with_handle, without_handle, without_session}
use Rattle.open_files.specs.Keeping.{is_keeping_path, names_keeping}
use Rattle.open_files.specs.Lines.{asks_of}
use Rattle.open_files.specs.Machine.{Machine, Plan, Turn, closes, do_ahead, only_says, open_at, plan_act, plan_close, plan_of, plan_open, saves_for, saves_taken, shows, taken_by, to_open, tree_by}
use Rattle.open_files.specs.declared.act.Act.{Act}
use Rattle.open_files.specs.declared.act.Act.TheVariants as act
use Rattle.open_files.specs.declared.act.OpenFile.{OpenFile}
use Rattle.open_files.specs.declared.act.SessionLine.{SessionLine}
use Rattle.open_files.specs.declared.act.SessionReply.{SessionReply}
use Rattle.open_files.specs.declared.act.SessionReply.TheVariants as told
use Rattle.open_files.specs.declared.table.Opened.{Opened}
use Rattle.open_files.specs.declared.table.Opened.TheVariants as opened_
use Rattle.session_lines.specs.declared.errands.Errand.{Errand}
use Rattle.session_lines.specs.declared.errands.Errand.TheVariants as errand
use Rattle.session_lines.specs.declared.stages.Stage.{Stage}
use Rattle.session_lines.specs.declared.stages.Stage.TheVariants as stage
use Rattle.session_lines.specs.Ahead.{Ahead, AreDone, IsQuiet, NotLooked, all_done, one_refused, trees_by}
use Rattle.session_lines.specs.Endings.{opened_says}
use Rattle.session_lines.specs.Errands.{act_errand, ahead_of, close_errand, errand_for, open_errand, own_errand, plain_errand, read_errand, refused}
use Rattle.session_lines.specs.Following.{Follows}
use Rattle.session_lines.specs.Made.{none_made, none_skipped}
use Rattle.session_lines.specs.Owning.{IsOwnTree}
use Rattle.session_lines.specs.Skipping.{IsSkipped}
use Rattle.session_lines.specs.Stages.{command_at, found_to_open}
use Rattle.session_lines.specs.Turns.{IsTurn}
use Rattle.session_lines.proofs.Answered.{ComesTo, OwnErrand, Turned, asks_for, goes, is_says, lists, only_turned, own_is, skipped_line, tells}
use Rattle.session_lines.proofs.Looks.{look}
use Rattle.session_lines.proofs.Moving.{Comes, moving}
use Rattle.session_lines.proofs.Opening.{LooksLast, opened_at, opening, opens_as}
use Rattle.session_lines.proofs.Saves.{ended, if_same, taking}
use Rattle.session_lines.proofs.Telling.{Told, listing_line, reaches_of, stating_line}
use Rattle.session_lines.proofs.Turning.{does_line, drops_line, own_turn, refuses_line}
use Rattle.session_lines.proofs.Unseen.{quiet_none}

-- ---- a line whose stages end with what it is told

abbrev is_read : Errand → Bool
is_read (errand.Reads id from long) = true
is_read _ = false

abbrev is_close : Errand → Bool
is_close (errand.Closes session handle) = true
is_close _ = false

abbrev is_ask : Errand → Bool
is_ask (errand.Asks session here) = true
is_ask _ = false

abbrev is_does : Errand → Bool
is_does (errand.Does asked here) = true
is_does _ = false

-- The stages of a line that only looks were gone through.
pub record Asked (start : Content) (machine : Machine) (line : List ℕ) (session : ℕ) (run : List Entry) (to : Stage) : Type 0 where
  -- nothing but looks came
  pub quiet : IsQuiet machine.tree run [] [] machine.tree
  pub answered : (said : Reply) → to ≡ stage.Says said → Turned start machine line run (told.Plain said) machine.handles
  pub opens : (id : ℕ) → to ≡ stage.Opens id → (answer : Opened) (new : List OpenFile) → Opens machine.handles session id answer new → Turned start machine line run (opened_says answer) new
  -- what is opened is a file of the tree
  pub file : (id : ℕ) → to ≡ stage.Opens id → (node : PlainNode) × (node_at machine.tree id ≡ Some node) × (node.folder ≡ false)

-- The stages ahead of a line's own command were gone through.
pub record Went (start : Content) (machine : Machine) (line : List ℕ) (asked : Command) (run : List Entry) (to : Stage) : Type 0 where
  pub session : ℕ
  pub asks : asks_of line ≡ Ok (record { session = session; act = act.Plain asked })
  -- a command of Save is refused, or a look isn't done
  pub answered : (said : Reply) → to ≡ stage.Says said → Turned start machine line run (told.Plain said) machine.handles
  -- its own command is done
  pub own : to ≡ stage.Does → (capacity : ℕ) (entry : Entry) → asked_by entry ≡ Ok asked → tree_of entry.before ≡ tree_after start run → IsServed capacity entry → Turned start machine line (run ++ entry ∷ []) (told.Plain entry.reply) machine.handles
  -- or it isn't done at all
  pub dropped : to ≡ stage.Does → (why : Refusal) → IsSkipped why → Turned start machine line run (told.Plain (reply.No why)) machine.handles
  -- what it says is a refusal
  pub refuses : (said : Reply) → to ≡ stage.Says said → (why : Refusal) × (said ≡ reply.No why)
  -- whatever comes behind them, these are entries of a turn
  pub cut : (said : SessionReply) × Turned start machine line run said machine.handles

abbrev said_at : Reply → Stage → Reply
said_at other (stage.Says said) = said
said_at other _ = other

abbrev opens_at : ℕ → Stage → ℕ
opens_at other (stage.Opens id) = id
opens_at other _ = other

-- ---- what asks for stages

abbrev line_of : ℕ → Act → SessionLine
line_of session what = record { session = session; act = what }

-- what a line asks for that only looks
pub data Looks (handles : List OpenFile) (session : ℕ) : Act → Stage → Type 0 where
  looks_list : (path : List (List ℕ)) → is_keeping_path path ≡ false → Looks handles session (act.Plain (command.Ls path)) (stage.Listing path)
  looks_facts : (path : List (List ℕ)) → is_keeping_path path ≡ false → Looks handles session (act.Plain (command.Stat path)) (stage.Stating path)
  looks_open : (path : List (List ℕ)) → is_keeping_path path ≡ false → Looks handles session (act.Open path) (stage.Opening path)

module _ (handles : List OpenFile) (session : ℕ) where
  abbrev session_or : ℕ → Errand → ℕ
  session_or other (errand.Asks n s) = n
  session_or other _ = other

  abbrev stage_or : Stage → Errand → Stage
  stage_or other (errand.Asks n s) = s
  stage_or other (errand.Does asked s) = s
  stage_or other _ = other

  abbrev command_or : Command → Errand → Command
  command_or other (errand.Does asked s) = asked
  command_or other _ = other

  no_name : (path : List (List ℕ)) → (is_keeping_path path || false) ≡ false → is_keeping_path path ≡ false
  no_name path none = by (is_keeping_path path) none
    where
      by : (b : Bool) → (b || false) ≡ false → b ≡ false
      by true is = absurd (true≢false is)
      by false is = refl

  -- the stage, by what asks for it
  pub record LooksAs (what : Act) (other : ℕ) (here : Stage) : Type 0 where
    pub same : session ≡ other
    pub looks : Looks handles session what here

  plain_looks : (asked : Command) (other : ℕ) (here : Stage) → plain_errand session asked ≡ errand.Asks other here → LooksAs (act.Plain asked) other here
  plain_looks asked other here is = by (names_keeping asked) refl
    where
      it : (b : Bool) → names_keeping asked ≡ b → (if b then refused refusal.Private else own_errand session asked) ≡ errand.Asks other here
      it b names = sym (ap (λ b. if b then refused refusal.Private else own_errand session asked) names) ∙ is

      own : (result : Errand) → OwnErrand session asked result → names_keeping asked ≡ false → result ≡ errand.Asks other here → LooksAs (act.Plain asked) other here
      own _ (lists path same) names is = record {
        same = ap (session_or session) is;
        looks = subst (λ (a : Command). Looks handles session (act.Plain a) here) (sym same)
            (subst (λ (s : Stage). Looks handles session (act.Plain (command.Ls path)) s) (ap (stage_or here) is) (looks_list path (no_name path (ap names_keeping (sym same) ∙ names))));
      }
      own _ (tells path same) names is = record {
        same = ap (session_or session) is;
        looks = subst (λ (a : Command). Looks handles session (act.Plain a) here) (sym same)
            (subst (λ (s : Stage). Looks handles session (act.Plain (command.Stat path)) s) (ap (stage_or here) is) (looks_facts path (no_name path (ap names_keeping (sym same) ∙ names))));
      }
      own _ (goes shown) names is = absurd (cc is)

      by : (b : Bool) → names_keeping asked ≡ b → LooksAs (act.Plain asked) other here
      by true names = absurd (cc (it true names))
      by false names = own (own_errand session asked) (own_is session asked) names (it false names)

  open_looks : (path : List (List ℕ)) (other : ℕ) (here : Stage) → open_errand session path ≡ errand.Asks other here → LooksAs (act.Open path) other here
  open_looks path other here is = by (is_keeping_path path) refl
    where
      it : (b : Bool) → is_keeping_path path ≡ b → (if b then refused refusal.Private else errand.Asks session (stage.Opening path)) ≡ errand.Asks other here
      it b names = sym (ap (λ b. if b then refused refusal.Private else errand.Asks session (stage.Opening path)) names) ∙ is

      by : (b : Bool) → is_keeping_path path ≡ b → LooksAs (act.Open path) other here
      by true names = absurd (cc (it true names))
      by false names = record { same = ap (session_or session) (it false names); looks = subst (λ (s : Stage). Looks handles session (act.Open path) s) (ap (stage_or here) (it false names)) (looks_open path names) }

  no_read : (handle from long : ℕ) (o : Option ℕ) (result : Errand) → is_read result ≡ false → is_says result ≡ false → read_errand handle from long o ≡ result → ⊥
  no_read handle from long None result not_read no_says is = true≢false (ap is_says is ∙ no_says)
  no_read handle from long (Some id) result not_read no_says is = by (nat_lt most_bytes long) is
    where
      by : (b : Bool) → (if b then refused refusal.TooLarge else errand.Reads id from long) ≡ result → ⊥
      by true is = true≢false (ap is_says is ∙ no_says)
      by false is = true≢false (ap is_read is ∙ not_read)

  close_kind : (handle : ℕ) (o : Option ℕ) (result : Errand) → is_close result ≡ false → is_says result ≡ false → close_errand session handle o ≡ result → ⊥
  close_kind handle None result no_close no_says is = true≢false (ap is_says is ∙ no_says)
  close_kind handle (Some id) result no_close no_says is = true≢false (ap is_close is ∙ no_close)

  pub looks_as : (what : Act) (other : ℕ) (here : Stage) → act_errand handles session what ≡ errand.Asks other here → LooksAs what other here
  looks_as (act.Plain asked) other here is = plain_looks asked other here is
  looks_as (act.Open path) other here is = open_looks path other here is
  looks_as (act.HandleRead handle from long) other here is = absurd (no_read handle from long (file_of handles session handle) (errand.Asks other here) refl refl is)
  looks_as (act.Close handle) other here is = absurd (close_kind handle (file_of handles session handle) (errand.Asks other here) refl refl is)
  looks_as act.End other here is = absurd (cc is)

  -- ---- what asks for a command of its own

  pub record GoesAs (what : Act) (asked : Command) (here : Stage) : Type 0 where
    pub plain : what ≡ act.Plain asked
    pub other : names_keeping asked ≡ false
    pub stages : here ≡ ahead_of asked
    pub shown : (tree : PlainTree) (got : Reply) → shows tree asked got ≡ got

  plain_goes : (own : Command) (asked : Command) (here : Stage) → plain_errand session own ≡ errand.Does asked here → GoesAs (act.Plain own) asked here
  plain_goes own asked here is = by (names_keeping own) refl
    where
      it : (b : Bool) → names_keeping own ≡ b → (if b then refused refusal.Private else own_errand session own) ≡ errand.Does asked here
      it b names = sym (ap (λ b. if b then refused refusal.Private else own_errand session own) names) ∙ is

      kind : (result : Errand) → OwnErrand session own result → names_keeping own ≡ false → result ≡ errand.Does asked here → GoesAs (act.Plain own) asked here
      kind _ (lists path same) names is = absurd (cc is)
      kind _ (tells path same) names is = absurd (cc is)
      kind _ (goes shown) names is =
          let same : own ≡ asked = ap (command_or asked) is in
          record {
            plain = ap (λ (a : Command). act.Plain a) same;
            other = ap names_keeping (sym same) ∙ names;
            stages = sym (ap (stage_or here) is) ∙ ap ahead_of same;
            shown = subst (λ (a : Command). (tree : PlainTree) (got : Reply) → shows tree a got ≡ got) same shown;
          }

      by : (b : Bool) → names_keeping own ≡ b → GoesAs (act.Plain own) asked here
      by true names = absurd (cc (it true names))
      by false names = kind (own_errand session own) (own_is session own) names (it false names)

  open_goes : (path : List (List ℕ)) (asked : Command) (here : Stage) (b : Bool) → (if b then refused refusal.Private else errand.Asks session (stage.Opening path)) ≡ errand.Does asked here → ⊥
  open_goes path asked here true is = cc is
  open_goes path asked here false is = cc is

  pub goes_as : (what : Act) (asked : Command) (here : Stage) → act_errand handles session what ≡ errand.Does asked here → GoesAs what asked here
  goes_as (act.Plain own) asked here is = plain_goes own asked here is
  goes_as (act.Open path) asked here is = absurd (open_goes path asked here (is_keeping_path path) is)
  goes_as (act.HandleRead handle from long) asked here is = absurd (no_read handle from long (file_of handles session handle) (errand.Does asked here) refl refl is)
  goes_as (act.Close handle) asked here is = absurd (close_kind handle (file_of handles session handle) (errand.Does asked here) refl refl is)
  goes_as act.End asked here is = absurd (cc is)

  -- ---- what closes

  open_kind : (path : List (List ℕ)) (result : Errand) → is_ask result ≡ false → is_says result ≡ false → (b : Bool) → (if b then refused refusal.Private else errand.Asks session (stage.Opening path)) ≡ result → ⊥
  open_kind path result no_ask no_says true is = true≢false (ap is_says is ∙ no_says)
  open_kind path result no_ask no_says false is = true≢false (ap is_ask is ∙ no_ask)

  plain_kind : (asked : Command) (result : Errand) → is_ask result ≡ false → is_does result ≡ false → is_says result ≡ false → plain_errand session asked ≡ result → ⊥
  plain_kind asked result no_ask no_does no_says is = by (names_keeping asked) refl
    where
      it : (b : Bool) → names_keeping asked ≡ b → (if b then refused refusal.Private else own_errand session asked) ≡ result
      it b names = sym (ap (λ b. if b then refused refusal.Private else own_errand session asked) names) ∙ is

      own : (e : Errand) → OwnErrand session asked e → e ≡ result → ⊥
      own _ (lists path same) is = true≢false (ap is_ask is ∙ no_ask)
      own _ (tells path same) is = true≢false (ap is_ask is ∙ no_ask)
      own _ (goes shown) is = true≢false (ap is_does is ∙ no_does)

      by : (b : Bool) → names_keeping asked ≡ b → ⊥
      by true names = true≢false (ap is_says (it true names) ∙ no_says)
      by false names = own (own_errand session asked) (own_is session asked) (it false names)

  pub record ClosesAs (what : Act) (other handle : ℕ) : Type 0 where
    pub same : session ≡ other
    pub close : what ≡ act.Close handle
    pub id : ℕ
    pub file : file_of handles session handle ≡ Some id

  close_closes : (own other handle : ℕ) (o : Option ℕ) → file_of handles session own ≡ o → close_errand session own o ≡ errand.Closes other handle → ClosesAs (act.Close own) other handle
  close_closes own other handle None named is = absurd (cc is)
  close_closes own other handle (Some id) named is =
      let same : own ≡ handle = ap (handle_or own) is in
      record { same = ap (closes_or session) is; close = ap (λ n. act.Close n) same; id = id; file = ap (file_of handles session) (sym same) ∙ named }
    where
      handle_or : ℕ → Errand → ℕ
      handle_or other (errand.Closes n h) = h
      handle_or other _ = other

      closes_or : ℕ → Errand → ℕ
      closes_or other (errand.Closes n h) = n
      closes_or other _ = other

  pub closes_as : (what : Act) (other handle : ℕ) → act_errand handles session what ≡ errand.Closes other handle → ClosesAs what other handle
  closes_as (act.Plain asked) other handle is = absurd (plain_kind asked (errand.Closes other handle) refl refl refl is)
  closes_as (act.Open path) other handle is = absurd (open_kind path (errand.Closes other handle) refl refl (is_keeping_path path) is)
  closes_as (act.HandleRead own from long) other handle is = absurd (no_read own from long (file_of handles session own) (errand.Closes other handle) refl refl is)
  closes_as (act.Close own) other handle is = close_closes own other handle (file_of handles session own) refl is
  closes_as act.End other handle is = absurd (cc is)

  pub ends_as : (what : Act) (other : ℕ) → act_errand handles session what ≡ errand.Ends other → (session ≡ other) × (what ≡ act.End)
  ends_as (act.Plain asked) other is = absurd (plain_kind asked (errand.Ends other) refl refl refl is)
  ends_as (act.Open path) other is = absurd (open_kind path (errand.Ends other) refl refl (is_keeping_path path) is)
  ends_as (act.HandleRead own from long) other is = absurd (no_read own from long (file_of handles session own) (errand.Ends other) refl refl is)
  ends_as (act.Close own) other is = absurd (close_kind own (file_of handles session own) (errand.Ends other) refl refl is)
  ends_as act.End other is = (ap ends_or is, refl)
    where
      ends_or : Errand → ℕ
      ends_or (errand.Ends n) = n
      ends_or _ = session

-- ---- lines

module _ (start : Content) (machine : Machine) (line : List ℕ) (fits : tree_of start ≡ machine.tree) (own_tree : IsOwnTree machine.tree) where
  abbrev tree : PlainTree
  tree = machine.tree

  no_saves : (asked : Command) → taken_by tree asked ≡ None → saves_for machine asked ≡ []
  no_saves asked none = ap (λ o. if refuses tree (Ok asked) then [] else saves_taken machine o) none ∙ if_same (refuses tree (Ok asked)) []

  -- a line that shows what its own command read
  told_turned : (session : ℕ) (asked : Command) → asks_of line ≡ Ok (line_of session (act.Plain asked)) → names_keeping asked ≡ false → taken_by tree asked ≡ None → (run : List Entry) (to : Stage) (it : Told tree asked run to)
      → Turned start machine line run (told.Plain (shows tree asked it.got)) machine.handles
  told_turned session asked asks other none run to it = record {
    turn = record { did = asked ∷ []; says = told.Plain (shows tree asked it.got); next = record { tree = tree_by tree asked it.got; handles = machine.handles } };
    is = record {
      replies = it.got ∷ [];
      is = inl (sym (ap (λ (p : Plan). do_ahead machine.handles p p.ahead tree (it.got ∷ [])) (ap (plan_of machine) asks ∙ ap (λ b. if b then only_says machine.handles (told.Plain (reply.No refusal.Private)) else plan) other)
          ∙ ap (λ (l : List Command). do_ahead machine.handles plan l tree (it.got ∷ [])) (no_saves asked none)));
      made = it.made;
      tree = it.quiet.leads start fits ∙ sym it.keeps;
      between = λ count some. inl (it.quiet.unseen start fits count some);
    };
    says = refl;
    handles_are = refl;
  }
    where
      plan : Plan
      plan = record { ahead = saves_for machine asked; own = Some asked; says = told.Plain reply.Ok; handles = machine.handles; behind = [] }

  no_opens : {said : Reply} (to : Stage) (id : ℕ) → to ≡ stage.Says said → to ≡ stage.Opens id → ⊥
  no_opens to id says opens = cc (sym says ∙ opens)

  reads_asked : (session : ℕ) (asked : Command) → asks_of line ≡ Ok (line_of session (act.Plain asked)) → names_keeping asked ≡ false → taken_by tree asked ≡ None → (run : List Entry) (to : Stage) → Told tree asked run to ⊎ NotLooked tree run to
      → Asked start machine line session run to
  reads_asked session asked asks other none run to (inl it) = record {
    quiet = it.quiet;
    answered = λ said is. subst (λ (r : Reply). Turned start machine line run (told.Plain r) machine.handles) (ap (said_at said) (sym it.last ∙ is)) (told_turned session asked asks other none run to it);
    opens = λ id is. absurd (no_opens to id it.last is);
    file = λ id is. absurd (no_opens to id it.last is);
  }
  reads_asked session asked asks other none run to (inr it) = record {
    quiet = it.quiet;
    answered = λ said is. subst (λ (r : Reply). Turned start machine line run (told.Plain r) machine.handles) (ap (said_at said) (sym it.says ∙ is)) (skipped_line start machine line fits run it.why it.skipped it.quiet);
    opens = λ id is. absurd (no_opens to id it.says is);
    file = λ id is. absurd (no_opens to id it.says is);
  }

  -- ---- a file is opened

  module _ (session : ℕ) (path : List (List ℕ)) (asks : asks_of line ≡ Ok (line_of session (act.Open path))) (other : is_keeping_path path ≡ false) (run : List Entry) (to : Stage) where
    opened_file : (node : PlainNode) → to_open tree path ≡ Ok node → (node_at tree node.id ≡ Some node) × (node.folder ≡ false)
    opened_file node found = by (is_private_path path) found
      where
        by_other : (b : Bool) → (if b then Err refusal.Private else then_ (to_node tree path) (λ node. unless node.folder refusal.IsFolder node)) ≡ Ok node → (node_at tree node.id ≡ Some node) × (node.folder ≡ false)
        by_other true found = absurd (cc found)
        by_other false found =
            let there = then_ok (to_node tree path) (λ node. unless node.folder refusal.IsFolder node) node found in
            let kind = unless_ok there.0.folder refusal.IsFolder there.0 node there.2 in
            let reaches = reaches_of tree own_tree path there.0 there.1 in
            (subst (λ (n : PlainNode). node_at tree n.id ≡ Some n) kind.1 (ap (node_at tree) reaches.number ∙ reaches.here), ap (λ (n : PlainNode). n.folder) (sym kind.1) ∙ kind.0)

        by : (b : Bool) → (if b then Err refusal.Private else (if is_keeping_path path then Err refusal.Private else then_ (to_node tree path) (λ node. unless node.folder refusal.IsFolder node))) ≡ Ok node
            → (node_at tree node.id ≡ Some node) × (node.folder ≡ false)
        by true found = absurd (cc found)
        by false found = by_other (is_keeping_path path) found

    plan_is : (r : Result PlainNode Refusal) → to_open tree path ≡ r → plan_of machine (asks_of line) ≡ plan_open machine session r
    plan_is r found = ap (plan_of machine) asks ∙ ap (plan_open machine session) found

    opens_by : (last : LooksLast tree path found_to_open run to) → to ≡ opened_at (to_open tree path) → (r : Result PlainNode Refusal) → to_open tree path ≡ r → Asked start machine line session run to
    opens_by last goes_to (Err why) found = record {
      quiet = last.quiet;
      answered = λ said is. subst (λ (r : Reply). Turned start machine line run (told.Plain r) machine.handles) (ap (said_at said) (sym says ∙ is))
          (only_turned start machine line fits run last.quiet (told.Plain (reply.No why)) machine.handles (plan_is (Err why) found));
      opens = λ id is. absurd (no_opens to id says is);
      file = λ id is. absurd (no_opens to id says is);
    }
      where
        says : to ≡ stage.Says (reply.No why)
        says = goes_to ∙ ap opened_at found
    opens_by last goes_to (Ok node) found = record {
      quiet = last.quiet;
      answered = λ said is. absurd (no_opens to node.id is opens_it);
      opens = λ id is answer new opens. answers answer new (subst (λ n. Opens machine.handles session n answer new) (sym (number id is)) opens);
      file = λ id is. let its = opened_file node found in (node, ap (node_at tree) (sym (number id is)) ∙ its.0, its.1);
    }
      where
        opens_it : to ≡ stage.Opens node.id
        opens_it = goes_to ∙ ap opened_at found

        number : (id : ℕ) → to ≡ stage.Opens id → node.id ≡ id
        number id is = ap (opens_at id) (sym opens_it ∙ is)

        answers : (answer : Opened) (new : List OpenFile) → Opens machine.handles session node.id answer new → Turned start machine line run (opened_says answer) new
        answers (opened_.Handle handle) new opens =
            subst (λ (l : List OpenFile). Turned start machine line run (told.Opened handle) l) (sym opens.1)
            (only_turned start machine line fits run last.quiet (told.Opened handle) (with_handle (record { session = session; handle = handle; file = node.id }) machine.handles)
            (plan_is (Ok node) found ∙ ap (open_at machine session node.id) opens.0))
        answers opened_.TooManyOpen new opens =
            subst (λ (l : List OpenFile). Turned start machine line run told.TooManyOpen l) (sym opens.1)
            (only_turned start machine line fits run last.quiet told.TooManyOpen machine.handles (plan_is (Ok node) found ∙ ap (open_at machine session node.id) opens.0))

    opens_asked : command_at to ≡ None → Follows machine.handles tree (stage.Opening path) run to → Asked start machine line session run to
    opens_asked ends follows = by last.says
      where
        last : LooksLast tree path found_to_open run to
        last = opening machine.handles tree path run to ends follows

        by : (last.said ≡ look tree path) ⊎ ((why : Refusal) × IsSkipped why × (last.said ≡ reply.No why)) → Asked start machine line session run to
        by (inl same) = opens_by last (last.last ∙ ap found_to_open same ∙ opens_as tree path other) (to_open tree path) refl
        by (inr skip) =
            let says : to ≡ stage.Says (reply.No skip.0) = last.last ∙ ap found_to_open skip.2 in
            record {
              quiet = last.quiet;
              answered = λ said is. subst (λ (r : Reply). Turned start machine line run (told.Plain r) machine.handles) (ap (said_at said) (sym says ∙ is)) (skipped_line start machine line fits run skip.0 skip.1 last.quiet);
              opens = λ id is. absurd (no_opens to id says is);
              file = λ id is. absurd (no_opens to id says is);
            }

  -- ---- by what the line asks for

  looks_line : (session : ℕ) (what : Act) (here : Stage) → Looks machine.handles session what here → asks_of line ≡ Ok (line_of session what) → (run : List Entry) (to : Stage) → command_at to ≡ None → Follows machine.handles tree here run to
      → Asked start machine line session run to
  looks_line session _ _ (looks_list path other) asks run to ends follows =
      reads_asked session (command.Ls path) asks (ap (λ b. b || false) other) refl run to (listing_line tree own_tree path other machine.handles run to ends follows)
  looks_line session _ _ (looks_facts path other) asks run to ends follows =
      reads_asked session (command.Stat path) asks (ap (λ b. b || false) other) refl run to (stating_line tree own_tree path other machine.handles run to ends follows)
  looks_line session _ _ (looks_open path other) asks run to ends follows = opens_asked session path asks other run to ends follows

  -- ---- a line with a command of its own

  plain_ahead : (asked : Command) → taken_by tree asked ≡ None → (run : List Entry) (to : Stage) → Follows machine.handles tree stage.Does run to → Comes machine asked run to
  plain_ahead asked none run to follows =
      let last = ended machine.handles tree stage.Does run to refl follows in
      inl (subst (λ (l : List Command). Ahead tree run l to) (sym (no_saves asked none))
      (subst (λ (s : Stage). Ahead tree run [] s) (sym last.1) (subst (λ (r : List Entry). Ahead tree r [] stage.Does) (sym last.0) (all_done [] [] tt (quiet_none tree)))))

  -- the stages ahead of each command
  ahead_comes : (asked : Command) (run : List Entry) (to : Stage) → command_at to ≡ None → Follows machine.handles tree (ahead_of asked) run to → Comes machine asked run to
  ahead_comes (command.Rm path) run to ends follows = taking machine own_tree path run to ends follows
  ahead_comes (command.Mv from goal) run to ends follows = moving machine own_tree from goal run to ends follows
  ahead_comes (command.Mkdir path) run to ends follows = plain_ahead (command.Mkdir path) refl run to follows
  ahead_comes (command.Create path) run to ends follows = plain_ahead (command.Create path) refl run to follows
  ahead_comes (command.Rmdir path) run to ends follows = plain_ahead (command.Rmdir path) refl run to follows
  ahead_comes (command.Ln from goal) run to ends follows = plain_ahead (command.Ln from goal) refl run to follows
  ahead_comes (command.Write path from value) run to ends follows = plain_ahead (command.Write path from value) refl run to follows
  ahead_comes (command.Read path from long) run to ends follows = plain_ahead (command.Read path from long) refl run to follows
  ahead_comes (command.Trunc path size) run to ends follows = plain_ahead (command.Trunc path size) refl run to follows
  ahead_comes (command.Ls path) run to ends follows = plain_ahead (command.Ls path) refl run to follows
  ahead_comes (command.Stat path) run to ends follows = plain_ahead (command.Stat path) refl run to follows
  ahead_comes (command.Chmod path mode) run to ends follows = plain_ahead (command.Chmod path mode) refl run to follows
  ahead_comes (command.SetAttr path name value) run to ends follows = plain_ahead (command.SetAttr path name value) refl run to follows
  ahead_comes (command.GetAttr path name) run to ends follows = plain_ahead (command.GetAttr path name) refl run to follows
  ahead_comes (command.DelAttr path name) run to ends follows = plain_ahead (command.DelAttr path name) refl run to follows
  ahead_comes (command.LsAttr path) run to ends follows = plain_ahead (command.LsAttr path) refl run to follows
  ahead_comes (command.At moment) run to ends follows = plain_ahead (command.At moment) refl run to follows
  ahead_comes command.Df run to ends follows = plain_ahead command.Df refl run to follows
  ahead_comes command.Sync run to ends follows = plain_ahead command.Sync refl run to follows

  module _ (session : ℕ) (asked : Command) (asks : asks_of line ≡ Ok (line_of session (act.Plain asked))) (other : names_keeping asked ≡ false) (shown : (t : PlainTree) (got : Reply) → shows t asked got ≡ got) (run : List Entry) where
    turned_says : (turn : Turn) (said : Reply) → IsTurn start machine line run turn → turn.says ≡ told.Plain said → turn.next.handles ≡ machine.handles → Turned start machine line run (told.Plain said) machine.handles
    turned_says turn said is says handles = record { turn = turn; is = is; says = says; handles_are = handles }

    went_all : (saves : List Command) → saves_for machine asked ≡ saves → (replies : List Reply) → AreDone replies → IsQuiet tree run saves replies (trees_by tree saves replies) → Went start machine line asked run stage.Does
    went_all saves these replies are quiet =
        let here : IsQuiet tree run (saves_for machine asked) replies (trees_by tree (saves_for machine asked) replies) = subst (λ (l : List Command). IsQuiet tree run l replies (trees_by tree l replies)) (sym these) quiet in
        record {
          session = session;
          asks = asks;
          answered = λ said is. absurd (cc is);
          own = λ is capacity entry its before served. record {
            turn = own_turn start machine line fits session asked asks other replies entry.reply;
            is = does_line start machine line fits session asked asks other run replies are here capacity entry its before served;
            says = ap (λ r. told.Plain r) (shown (trees_by tree (saves_for machine asked) replies) entry.reply);
            handles_are = refl;
          };
          dropped = λ is why skipped. record {
            turn = own_turn start machine line fits session asked asks other replies (reply.No why);
            is = drops_line start machine line fits session asked asks other run replies are here why skipped;
            says = ap (λ r. told.Plain r) (shown (trees_by tree (saves_for machine asked) replies) (reply.No why));
            handles_are = refl;
          };
          refuses = λ said is. absurd (cc is);
          cut = (
            told.Plain (shows (trees_by tree (saves_for machine asked) replies) asked (reply.No refusal.OutOfMemory)),
            record {
              turn = own_turn start machine line fits session asked asks other replies (reply.No refusal.OutOfMemory);
              is = drops_line start machine line fits session asked asks other run replies are here refusal.OutOfMemory refl;
              says = refl;
              handles_are = refl;
            },
          );
        }

    went_says : (why : Refusal) (to : Stage) → to ≡ stage.Says (reply.No why) → Turned start machine line run (told.Plain (reply.No why)) machine.handles → Went start machine line asked run to
    went_says why to says turned = record {
      session = session;
      asks = asks;
      answered = λ said is. subst (λ (r : Reply). Turned start machine line run (told.Plain r) machine.handles) (ap (said_at said) (sym says ∙ is)) turned;
      own = λ is capacity entry its before served. absurd (cc (sym says ∙ is));
      dropped = λ is why skipped. absurd (cc (sym says ∙ is));
      refuses = λ said is. (why, ap (said_at said) (sym is ∙ says));
      cut = (told.Plain (reply.No why), turned);
    }

    went_ahead : (saves : List Command) → saves_for machine asked ≡ saves → (to : Stage) → Ahead tree run saves to → Went start machine line asked run to
    went_ahead saves these _ (all_done _ replies are quiet) = went_all saves these replies are quiet
    went_ahead _ these _ (one_refused ahead rest replies last why are quiet) =
        went_says why (stage.Says (reply.No why)) refl (record {
          turn = record { did = ahead ++ last ∷ []; says = told.Plain (reply.No why); next = record { tree = trees_by tree ahead replies; handles = machine.handles } };
          is = refuses_line start machine line fits session asked asks other run ahead rest replies last why these are quiet;
          says = refl;
          handles_are = refl;
        })

    went_comes : (to : Stage) → Comes machine asked run to → Went start machine line asked run to
    went_comes to (inl ahead) = went_ahead (saves_for machine asked) refl to ahead
    went_comes to (inr not) = went_says not.why to not.says (skipped_line start machine line fits run not.why not.skipped not.quiet)

  -- ---- by the errand

  module _ (result : Errand) (comes : ComesTo machine line result) where
    -- what a line asks for, whose errand isn't to tell something at once
    same_of : (other : Errand) → result ≡ other → is_says other ≡ false → errand_for machine.handles (asks_of line) ≡ other
    same_of other is no_says = sym (asks_for start machine line fits result comes (λ says. true≢false (sym says ∙ ap is_says is ∙ no_says))) ∙ is

    -- A line that only looks.
    pub asks_line : (session : ℕ) (here : Stage) → result ≡ errand.Asks session here → (run : List Entry) (to : Stage) → command_at to ≡ None → Follows machine.handles tree here run to → Asked start machine line session run to
    asks_line session here is run to ends follows = by (asks_of line) refl
      where
        same : errand_for machine.handles (asks_of line) ≡ errand.Asks session here
        same = same_of (errand.Asks session here) is refl

        by : (r : Result SessionLine Refusal) → asks_of line ≡ r → Asked start machine line session run to
        by (Err why) asks = absurd (cc (sym (ap (errand_for machine.handles) asks) ∙ same))
        by (Ok asks) asks_is =
            let found = looks_as machine.handles asks.session asks.act session here (sym (ap (errand_for machine.handles) asks_is) ∙ same) in
            subst (λ n. Asked start machine line n run to) found.same (looks_line asks.session asks.act here found.looks asks_is run to ends follows)

    -- A line with a command of its own.
    pub goes_line : (asked : Command) (here : Stage) → result ≡ errand.Does asked here → (run : List Entry) (to : Stage) → command_at to ≡ None → Follows machine.handles tree here run to → Went start machine line asked run to
    goes_line asked here is run to ends follows = by (asks_of line) refl
      where
        same : errand_for machine.handles (asks_of line) ≡ errand.Does asked here
        same = same_of (errand.Does asked here) is refl

        by : (r : Result SessionLine Refusal) → asks_of line ≡ r → Went start machine line asked run to
        by (Err why) asks = absurd (cc (sym (ap (errand_for machine.handles) asks) ∙ same))
        by (Ok asks) asks_is =
            let found = goes_as machine.handles asks.session asks.act asked here (sym (ap (errand_for machine.handles) asks_is) ∙ same) in
            went_comes asks.session asked (asks_is ∙ ap (λ (a : Act). Ok (line_of asks.session a)) found.plain) found.other found.shown run to
            (ahead_comes asked run to ends (subst (λ (s : Stage). Follows machine.handles tree s run to) found.stages follows))

    -- A line that closes a handle: what that comes to, and the file.
    pub record ClosesLine (session handle : ℕ) : Type 0 where
      pub id : ℕ
      pub file : file_of machine.handles session handle ≡ Some id
      pub plan : plan_of machine (asks_of line) ≡ closes machine (without_handle session handle machine.handles) (id ∷ [])

    pub close_line : (session handle : ℕ) → result ≡ errand.Closes session handle → ClosesLine session handle
    close_line session handle is = by (asks_of line) refl
      where
        same : errand_for machine.handles (asks_of line) ≡ errand.Closes session handle
        same = same_of (errand.Closes session handle) is refl

        by : (r : Result SessionLine Refusal) → asks_of line ≡ r → ClosesLine session handle
        by (Err why) asks = absurd (cc (sym (ap (errand_for machine.handles) asks) ∙ same))
        by (Ok asks) asks_is =
            let found = closes_as machine.handles asks.session asks.act session handle (sym (ap (errand_for machine.handles) asks_is) ∙ same) in
            let named : file_of machine.handles session handle ≡ Some found.id = ap (λ n. file_of machine.handles n handle) (sym found.same) ∙ found.file in
            record {
              id = found.id;
              file = named;
              plan = ap (plan_of machine) asks_is ∙ (λ i. plan_act machine (found.same i) (found.close i)) ∙ ap (plan_close machine session handle) named;
            }

    -- A line that closes all handles of its session.
    pub end_line : (session : ℕ) → result ≡ errand.Ends session → plan_of machine (asks_of line) ≡ closes machine (without_session session machine.handles) (files_of session machine.handles)
    end_line session is = by (asks_of line) refl
      where
        same : errand_for machine.handles (asks_of line) ≡ errand.Ends session
        same = same_of (errand.Ends session) is refl

        by : (r : Result SessionLine Refusal) → asks_of line ≡ r → plan_of machine (asks_of line) ≡ closes machine (without_session session machine.handles) (files_of session machine.handles)
        by (Err why) asks = absurd (cc (sym (ap (errand_for machine.handles) asks) ∙ same))
        by (Ok asks) asks_is =
            let found = ends_as machine.handles asks.session asks.act session (sym (ap (errand_for machine.handles) asks_is) ∙ same) in
            ap (plan_of machine) asks_is ∙ (λ i. plan_act machine (found.0 i) (found.1 i))
