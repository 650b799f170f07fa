-- What a line of the plain language comes to is a turn of the machine.
use Rattle.std.proofs.Common.{◌≡◌, ◌⊎◌, ◌≤◌, ◌<◌, ℕ, zero, suc, Bool, true, false, List, [], ◌∷◌, ◌++◌, length, length-append, take, inl, inr, refl, sym, ◌∙◌, ap, subst, arith, ⊎_elim}
use Rattle.std.specs.Prelude.{Option, Some, None, Result, Ok, Err, if◌then◌else◌}
use Rattle.std.proofs.lemmas.Bool.{cases_lt}
use Rattle.std.proofs.lemmas.List.{append-nil, take-append-le, take_all}
use Rattle.jnl_format.specs.Recovery.{Content}
use Rattle.hfs_language.specs.declared.command.Command.{Command}
use Rattle.hfs_language.specs.declared.refusal.Refusal.{Refusal}
use Rattle.hfs_language.specs.declared.refusal.Refusal.TheVariants as refusal
use Rattle.hfs_language.specs.declared.reply.Reply.{Reply}
use Rattle.hfs_language.specs.declared.reply.Reply.TheVariants as reply
use Rattle.hfs_model.specs.Step.{is_refusal}
use Rattle.hfs_model.specs.declared.plain.PlainTree.{PlainTree}
use Rattle.hfs_volume.specs.TreeOf.{tree_of}
use Rattle.volume_runs.specs.Run.{Entry, IsServed, asked_by, content_after, tree_after}
use Rattle.hfs_serving.proofs.Lists.{content_after-append}
use Rattle.open_files.specs.declared.act.OpenFile.{OpenFile}
use Rattle.open_files.specs.declared.act.SessionReply.{SessionReply}
use Rattle.open_files.specs.declared.act.SessionReply.TheVariants as told
use Rattle.open_files.specs.Keeping.{names_keeping, seen}
use Rattle.open_files.specs.Lines.{asks_of}
use Rattle.open_files.specs.declared.act.Act.TheVariants as act
use Rattle.open_files.specs.declared.act.SessionLine.{SessionLine}
use Rattle.open_files.specs.Machine.{Machine, Plan, Turn, did_first, do_ahead, do_own, plan_of, plan_plain, refused, saves_for, shows, tree_by, turn_of}
use Rattle.session_lines.specs.Ahead.{AreDone, IsQuiet, trees_by}
use Rattle.session_lines.specs.Made.{AreMade, SeesAs, look_made, none_made, none_skipped, one_made}
use Rattle.session_lines.specs.Skipping.{IsSkipped}
use Rattle.session_lines.specs.Turns.{IsTurn, IsTurnOf, skipped_turn}
use Rattle.session_lines.proofs.Trees.{served_tree}

-- ---- entries

pub made_both : (run more : List Entry) (did others : List Command) (replies further : List Reply) → AreMade run did replies → AreMade more others further → AreMade (run ++ more) (did ++ others) (replies ++ further)
made_both [] more [] others [] further none_made second = second
made_both (entry ∷ run) more did others replies further (look_made _ asked _ _ _ asks reads first) second = look_made entry asked (run ++ more) (did ++ others) (replies ++ further) asks reads (made_both run more did others replies further first second)
made_both (entry ∷ run) more (asked ∷ did) others (got ∷ replies) further (one_made _ _ _ _ _ asks first) second = one_made entry asked (run ++ more) (did ++ others) (replies ++ further) asks (made_both run more did others replies further first second)
made_both run more (asked ∷ did) others (got ∷ replies) further (none_skipped why _ _ _ _ skipped first) second =
    none_skipped why asked (run ++ more) (did ++ others) (replies ++ further) skipped (made_both run more did others replies further first second)

-- each command has a reply
pub made_long : (run : List Entry) (did : List Command) (replies : List Reply) → AreMade run did replies → length did ≡ length replies
made_long [] [] [] none_made = refl
made_long (entry ∷ run) did replies (look_made _ asked _ _ _ asks reads first) = made_long run did replies first
made_long (entry ∷ run) (asked ∷ did) (got ∷ replies) (one_made _ _ _ _ _ asks first) = ap (λ n. suc n) (made_long run did replies first)
made_long run (asked ∷ did) (got ∷ replies) (none_skipped why _ _ _ _ skipped first) = ap (λ n. suc n) (made_long run did replies first)

-- ---- turns

-- with these commands in front
abbrev pub did_all : List Command → Turn → Turn
did_all [] turn = turn
did_all (asked ∷ more) turn = did_first asked (did_all more turn)

did_is : (ahead : List Command) (turn : Turn) → did_all ahead turn ≡ record turn { did = ahead ++ turn.did }
did_is [] turn = refl
did_is (asked ∷ more) turn = ap (did_first asked) (did_is more turn)

module _ (handles : List OpenFile) (plan : Plan) where
  -- where none of the commands ahead is refused
  ahead_all : (asked : List Command) (replies more : List Reply) (tree : PlainTree) → AreDone replies → length asked ≡ length replies → do_ahead handles plan asked tree (replies ++ more) ≡ did_all asked (do_own plan plan.own (trees_by tree asked replies) more)
  ahead_all [] [] more tree are long = refl
  ahead_all [] (got ∷ replies) more tree are long = absurd (omega (arith, long))
  ahead_all (one ∷ asked) [] more tree are long = absurd (omega (arith, long))
  ahead_all (one ∷ asked) (got ∷ replies) more tree are long =
      ap (λ b. if b then record { did = one ∷ []; says = told.Plain got; next = record { tree = tree; handles = handles } } else did_first one (do_ahead handles plan asked (tree_by tree one got) (replies ++ more))) are.0
      ∙ ap (did_first one) (ahead_all asked replies more (tree_by tree one got) are.1 (omega (arith, long)))

  -- where the last of them is
  ahead_refused : (asked rest : List Command) (replies : List Reply) (last : Command) (why : Refusal) (tree : PlainTree) → AreDone replies → length asked ≡ length replies
      → do_ahead handles plan (asked ++ last ∷ rest) tree (replies ++ reply.No why ∷ []) ≡ record { did = asked ++ last ∷ []; says = told.Plain (reply.No why); next = record { tree = trees_by tree asked replies; handles = handles } }
  ahead_refused [] rest [] last why tree are long = refl
  ahead_refused [] rest (got ∷ replies) last why tree are long = absurd (omega (arith, long))
  ahead_refused (one ∷ asked) rest [] last why tree are long = absurd (omega (arith, long))
  ahead_refused (one ∷ asked) rest (got ∷ replies) last why tree are long =
      ap (λ b. if b then record { did = one ∷ []; says = told.Plain got; next = record { tree = tree; handles = handles } } else did_first one (do_ahead handles plan (asked ++ last ∷ rest) (tree_by tree one got) (replies ++ reply.No why ∷ []))) are.0
      ∙ ap (did_first one) (ahead_refused asked rest replies last why (tree_by tree one got) are.1 (omega (arith, long)))

module _ (start : Content) (machine : Machine) (line : List ℕ) (fits : tree_of start ≡ machine.tree) where
  -- a look isn't done
  pub skips_line : (run : List Entry) (why : Refusal) → IsSkipped why → IsQuiet machine.tree run [] [] machine.tree → IsTurn start machine line run (skipped_turn machine why)
  skips_line run why skipped quiet = record {
    replies = [];
    is = inr (inl (why, skipped, refl));
    made = quiet.made;
    tree = quiet.leads start fits;
    between = λ count some. inl (quiet.unseen start fits count some);
  }

  module _ (session : ℕ) (asked : Command) (asks : asks_of line ≡ Ok (record { session = session; act = act.Plain asked })) (other : names_keeping asked ≡ false) where
    abbrev plan : Plan
    plan = record { ahead = saves_for machine asked; own = Some asked; says = told.Plain reply.Ok; handles = machine.handles; behind = [] }

    plan_is : plan_of machine (asks_of line) ≡ plan
    plan_is = ap (plan_of machine) asks ∙ ap (λ b. if b then refused machine.handles refusal.Private else plan) other

    turn_is : (replies : List Reply) → turn_of machine (asks_of line) replies ≡ do_ahead machine.handles plan (saves_for machine asked) machine.tree replies
    turn_is replies = ap (λ (p : Plan). do_ahead machine.handles p p.ahead machine.tree replies) plan_is

    abbrev pub own_turn : List Reply → Reply → Turn
    own_turn replies got = record {
      did = saves_for machine asked ++ asked ∷ [];
      says = told.Plain (shows (trees_by machine.tree (saves_for machine asked) replies) asked got);
      next = record { tree = tree_by (trees_by machine.tree (saves_for machine asked) replies) asked got; handles = machine.handles };
    }

    -- the commands ahead are done, and then its own
    pub does_line : (run : List Entry) (replies : List Reply) → AreDone replies → IsQuiet machine.tree run (saves_for machine asked) replies (trees_by machine.tree (saves_for machine asked) replies)
        → (capacity : ℕ) (entry : Entry) → asked_by entry ≡ Ok asked → tree_of entry.before ≡ tree_after start run → IsServed capacity entry → IsTurn start machine line (run ++ entry ∷ []) (own_turn replies entry.reply)
    unfolding content_after
    does_line run replies are quiet capacity entry its before served =
        let ahead = saves_for machine asked in
        let behind = trees_by machine.tree (saves_for machine asked) replies in
        let lead : tree_of entry.after ≡ tree_by behind asked entry.reply = served_tree capacity entry asked its served ∙ ap (λ (t : PlainTree). tree_by t asked entry.reply) (before ∙ quiet.leads start fits) in
        let there : tree_after start (run ++ entry ∷ []) ≡ tree_of entry.after = ap (λ (c : Content). tree_of c) (content_after-append start run (entry ∷ [])) in
        record {
          replies = replies ++ entry.reply ∷ [];
          is = inl (sym (turn_is (replies ++ entry.reply ∷ []) ∙ ahead_all machine.handles plan ahead replies (entry.reply ∷ []) machine.tree are (made_long run ahead replies quiet.made) ∙ did_is ahead _));
          made = made_both run (entry ∷ []) ahead (asked ∷ []) replies (entry.reply ∷ []) quiet.made (one_made entry asked [] [] [] its none_made);
          tree = there ∙ lead;
          between = λ count some. ⊎_elim
              (λ (less : count < length (run ++ entry ∷ [])).
              let few : count ≤ length run = omega (arith, less, length-append run (entry ∷ [])) in
              inl (ap (λ (r : List Entry). seen (tree_after start r)) (take-append-le count run (entry ∷ []) few) ∙ quiet.unseen start fits count few))
              (λ (past : length (run ++ entry ∷ []) ≤ count). inr (ap (λ (r : List Entry). seen (tree_after start r)) (take_all count (run ++ entry ∷ []) past) ∙ ap (λ t. seen t) (there ∙ lead))) (cases_lt count (length (run ++ entry ∷ [])));
        }

    -- one of the commands ahead is refused
    pub refuses_line : (run : List Entry) (ahead rest : List Command) (replies : List Reply) (last : Command) (why : Refusal) → saves_for machine asked ≡ ahead ++ last ∷ rest → AreDone replies
        → IsQuiet machine.tree run (ahead ++ last ∷ []) (replies ++ reply.No why ∷ []) (trees_by machine.tree ahead replies)
        → IsTurn start machine line run (record { did = ahead ++ last ∷ []; says = told.Plain (reply.No why); next = record { tree = trees_by machine.tree ahead replies; handles = machine.handles } })
    refuses_line run ahead rest replies last why are_these are quiet =
        let long = made_long run (ahead ++ last ∷ []) (replies ++ reply.No why ∷ []) quiet.made in
        record {
          replies = replies ++ reply.No why ∷ [];
          is = inl (sym (turn_is (replies ++ reply.No why ∷ []) ∙ ap (λ (l : List Command). do_ahead machine.handles plan l machine.tree (replies ++ reply.No why ∷ [])) are_these
              ∙ ahead_refused machine.handles plan ahead rest replies last why machine.tree are (omega (arith, long, length-append ahead (last ∷ []), length-append replies (reply.No why ∷ [])))));
          made = quiet.made;
          tree = quiet.leads start fits;
          between = λ count some. inl (quiet.unseen start fits count some);
        }

    -- the commands ahead are done, and its own isn't done at all
    pub drops_line : (run : List Entry) (replies : List Reply) → AreDone replies → IsQuiet machine.tree run (saves_for machine asked) replies (trees_by machine.tree (saves_for machine asked) replies) → (why : Refusal) → IsSkipped why
        → IsTurn start machine line run (own_turn replies (reply.No why))
    drops_line run replies are quiet why skipped =
        let ahead = saves_for machine asked in
        record {
          replies = replies ++ reply.No why ∷ [];
          is = inl (sym (turn_is (replies ++ reply.No why ∷ []) ∙ ahead_all machine.handles plan ahead replies (reply.No why ∷ []) machine.tree are (made_long run ahead replies quiet.made) ∙ did_is ahead _));
          made = subst (λ (r : List Entry). AreMade r (ahead ++ asked ∷ []) (replies ++ reply.No why ∷ [])) (append-nil run)
              (made_both run [] ahead (asked ∷ []) replies (reply.No why ∷ []) quiet.made (none_skipped why asked [] [] [] skipped none_made));
          tree = quiet.leads start fits;
          between = λ count some. inl (quiet.unseen start fits count some);
        }
