-- Lines that are told something at once, those that a fault cuts short, and what comes of the others.
use Rattle.std.proofs.Common.{◌≡◌, ◌⊎◌, ◌≤◌, ℕ, Bool, true, false, List, [], ◌∷◌, ◌++◌, length, inl, inr, refl, sym, ◌∙◌, ap, subst}
use Rattle.std.specs.Prelude.{IsTrue, nat_lt, take, drop, Option, Some, None, Result, Ok, Err, if◌then◌else◌}
use Rattle.std.proofs.lemmas.Bool.{true≢false}
use Rattle.std.proofs.lemmas.List.{append-nil}
use Rattle.jnl_format.specs.Recovery.{Content}
use Rattle.hfs_language.specs.declared.command.Command.{Command}
use Rattle.hfs_language.specs.declared.command.Command.TheVariants as command
use Rattle.hfs_language.specs.declared.refusal.Refusal.{Refusal}
use Rattle.hfs_language.specs.declared.refusal.Refusal.TheVariants as refusal
use Rattle.hfs_language.specs.declared.reply.Reply.{Reply}
use Rattle.hfs_language.specs.declared.reply.Reply.TheVariants as reply
use Rattle.hfs_model.specs.Plain.{node_at}
use Rattle.hfs_model.specs.Step.{is_private_path, most_bytes, then_, to_node, unless}
use Rattle.hfs_model.specs.declared.plain.PlainNode.{PlainNode}
use Rattle.hfs_model.specs.declared.plain.PlainTree.{PlainTree}
use Rattle.hfs_volume.specs.TreeOf.{tree_of}
use Rattle.volume_runs.specs.Run.{Entry}
use Rattle.open_files.specs.Handles.{file_of}
use Rattle.open_files.specs.Keeping.{is_keeping_path, names_keeping}
use Rattle.open_files.specs.Lines.{asks_of}
use Rattle.open_files.specs.Machine.{Machine, Plan, Turn, bytes_of, do_ahead, only_says, plan_act, plan_close, plan_of, plan_open, plan_read, saves_for, shows, to_open}
use Rattle.open_files.specs.declared.act.Act.{Act}
use Rattle.open_files.specs.declared.act.Act.TheVariants as act
use Rattle.open_files.specs.declared.act.OpenFile.{OpenFile}
use Rattle.open_files.specs.declared.act.SessionLine.{SessionLine}
use Rattle.open_files.specs.declared.act.SessionReply.{SessionReply}
use Rattle.open_files.specs.declared.act.SessionReply.TheVariants as told
use Rattle.session_lines.specs.declared.errands.Errand.{Errand}
use Rattle.session_lines.specs.declared.errands.Errand.TheVariants as errand
use Rattle.session_lines.specs.declared.stages.Stage.{Stage}
use Rattle.session_lines.specs.declared.stages.Stage.TheVariants as stage
use Rattle.session_lines.specs.Ahead.{IsQuiet}
use Rattle.session_lines.specs.Errands.{act_errand, ahead_of, close_errand, errand_for, open_errand, own_errand, plain_errand, read_errand, refused}
use Rattle.session_lines.specs.Following.{Follows, does, skips, stays}
use Rattle.session_lines.specs.Skipping.{IsSkipped}
use Rattle.session_lines.specs.Stages.{command_at, heard_at}
use Rattle.session_lines.specs.Turns.{IsPart, IsTurn, IsTurnOf, skipped_turn}
use Rattle.session_lines.proofs.Turning.{skips_line}
use Rattle.session_lines.proofs.Unseen.{quiet_none}

-- A line was served: it is told this, and these are the handles behind it.
pub record Turned (start : Content) (machine : Machine) (line : List ℕ) (run : List Entry) (said : SessionReply) (handles : List OpenFile) : Type 0 where
  pub turn : Turn
  pub is : IsTurn start machine line run turn
  pub says : turn.says ≡ said
  pub handles_are : turn.next.handles ≡ handles

-- what `errand_of` ensures
abbrev pub ComesTo : Machine → List ℕ → Errand → Type 0
ComesTo machine line result = (result ≡ errand_for machine.handles (asks_of line)) ⊎ (result ≡ refused refusal.OutOfMemory)

-- ---- faults

-- A line that a fault cut short is one that was served, of which nothing is left.
pub part_of : (start : Content) (machine : Machine) (line : List ℕ) (own : List Entry) (turn : Turn) → IsTurn start machine line own turn → IsPart start machine line own turn
part_of start machine line own turn is = record {
  replies = is.replies;
  others = [];
  is = subst (λ (l : List Reply). IsTurnOf machine line l turn) (sym (append-nil is.replies)) is.is;
  done = turn.did;
  rest = [];
  did_is = sym (append-nil turn.did);
  made = is.made;
  between = is.between;
}

-- Any stage is followed by a last one, where its command isn't done at all.
pub record CutShort (handles : List OpenFile) (tree : PlainTree) (from : Stage) (run : List Entry) : Type 0 where
  pub end : Stage
  pub ends : command_at end ≡ None
  pub follows : Follows handles tree from run end

short_stage : (handles : List OpenFile) (at : Stage) → command_at (heard_at handles at (reply.No refusal.OutOfMemory)) ≡ None
short_stage handles (stage.Opening path) = refl
short_stage handles (stage.Listing path) = refl
short_stage handles (stage.Stating path) = refl
short_stage handles (stage.StatingRoot facts) = refl
short_stage handles (stage.StatingFile facts) = refl
short_stage handles (stage.Taking path) = refl
short_stage handles (stage.Moving from goal) = refl
short_stage handles (stage.Replacing moved goal) = refl
short_stage handles (stage.Losing path facts) = refl
short_stage handles (stage.Saving path id) = refl
short_stage handles (stage.Making path id) = refl
short_stage handles (stage.Linking path id) = refl
short_stage handles (stage.Closing id) = refl
short_stage handles (stage.Releasing id) = refl
short_stage handles stage.Does = refl
short_stage handles (stage.Says said) = refl
short_stage handles (stage.Opens id) = refl
short_stage handles stage.Rests = refl

pub cut_short : (handles : List OpenFile) (tree : PlainTree) (from : Stage) (run : List Entry) (to : Stage) → Follows handles tree from run to → CutShort handles tree from run
cut_short handles tree from [] to (stays _ _) = by (command_at from) refl
  where
    by : (o : Option Command) → command_at from ≡ o → CutShort handles tree from []
    by None none = record { end = from; ends = none; follows = stays tree from }
    by (Some asked) asks = record {
      end = heard_at handles from (reply.No refusal.OutOfMemory);
      ends = short_stage handles from;
      follows = skips tree from [] (heard_at handles from (reply.No refusal.OutOfMemory)) asked refusal.OutOfMemory asks refl (stays tree (heard_at handles from (reply.No refusal.OutOfMemory)));
    }
cut_short handles tree from (entry ∷ run) to (does _ _ _ _ _ capacity asked asks is before served rest) =
    let later = cut_short handles (tree_of entry.after) (heard_at handles from entry.reply) run to rest in
    record { end = later.end; ends = later.ends; follows = does tree from entry run later.end capacity asked asks is before served later.follows }
cut_short handles tree from run to (skips _ _ _ _ asked why asks skipped rest) =
    let later = cut_short handles tree (heard_at handles from (reply.No why)) run to rest in
    record { end = later.end; ends = later.ends; follows = skips tree from run later.end asked why asks skipped later.follows }

-- ---- kinds of errands

-- it is told this at once
abbrev pub is_says : Errand → Bool
is_says (errand.Says said) = true
is_says _ = false

abbrev said_or : SessionReply → Errand → SessionReply
said_or other (errand.Says said) = said
said_or other _ = other

-- what a command of the plain language comes to
pub data OwnErrand (session : ℕ) (asked : Command) : Errand → Type 0 where
  lists : (path : List (List ℕ)) → asked ≡ command.Ls path → OwnErrand session asked (errand.Asks session (stage.Listing path))
  tells : (path : List (List ℕ)) → asked ≡ command.Stat path → OwnErrand session asked (errand.Asks session (stage.Stating path))
  goes : ((tree : PlainTree) (got : Reply) → shows tree asked got ≡ got) → OwnErrand session asked (errand.Does asked (ahead_of asked))

pub own_is : (session : ℕ) (asked : Command) → OwnErrand session asked (own_errand session asked)
own_is session (command.Ls path) = lists path refl
own_is session (command.Stat path) = tells path refl
own_is session (command.Mkdir path) = goes (λ tree got. refl)
own_is session (command.Create path) = goes (λ tree got. refl)
own_is session (command.Rm path) = goes (λ tree got. refl)
own_is session (command.Rmdir path) = goes (λ tree got. refl)
own_is session (command.Mv from to) = goes (λ tree got. refl)
own_is session (command.Ln from to) = goes (λ tree got. refl)
own_is session (command.Write path from value) = goes (λ tree got. refl)
own_is session (command.Read path from long) = goes (λ tree got. refl)
own_is session (command.Trunc path size) = goes (λ tree got. refl)
own_is session (command.Chmod path mode) = goes (λ tree got. refl)
own_is session (command.SetAttr path name value) = goes (λ tree got. refl)
own_is session (command.GetAttr path name) = goes (λ tree got. refl)
own_is session (command.DelAttr path name) = goes (λ tree got. refl)
own_is session (command.LsAttr path) = goes (λ tree got. refl)
own_is session (command.At moment) = goes (λ tree got. refl)
own_is session command.Df = goes (λ tree got. refl)
own_is session command.Sync = goes (λ tree got. refl)

module _ (machine : Machine) (session : ℕ) where
  abbrev handles : List OpenFile
  handles = machine.handles

  abbrev private_plan : Plan
  private_plan = only_says handles (told.Plain (reply.No refusal.Private))

  own_says : (asked : Command) (result : Errand) (said : SessionReply) → OwnErrand session asked result → result ≡ errand.Says said → ⊥
  own_says asked _ said (lists path same) is = cc is
  own_says asked _ said (tells path same) is = cc is
  own_says asked _ said (goes shown) is = cc is

  plain_says : (asked : Command) (said : SessionReply) → act_errand handles session (act.Plain asked) ≡ errand.Says said → plan_act machine session (act.Plain asked) ≡ only_says handles said
  plain_says asked said is = by (names_keeping asked) refl
    where
      own_plan : Command → Plan
      own_plan asked = record { ahead = saves_for machine asked; own = Some asked; says = told.Plain reply.Ok; handles = machine.handles; behind = [] }

      it : (b : Bool) → names_keeping asked ≡ b → (if b then refused refusal.Private else own_errand session asked) ≡ errand.Says said
      it b names = sym (ap (λ b. if b then refused refusal.Private else own_errand session asked) names) ∙ is

      by : (b : Bool) → names_keeping asked ≡ b → plan_act machine session (act.Plain asked) ≡ only_says handles said
      by true names = ap (λ b. if b then private_plan else own_plan asked) names ∙ ap (λ e. only_says handles (said_or said e)) (it true names)
      by false names = absurd (own_says asked (own_errand session asked) said (own_is session asked) (it false names))

  private_open : (path : List (List ℕ)) → is_keeping_path path ≡ true → to_open machine.tree path ≡ Err refusal.Private
  private_open path names = by (is_private_path path)
    where
      by : (b : Bool) → (if b then Err refusal.Private else (if is_keeping_path path then Err refusal.Private else then_ (to_node machine.tree path) (λ node. unless node.folder refusal.IsFolder node))) ≡ Err refusal.Private
      by true = refl
      by false = ap (λ b. if b then Err refusal.Private else then_ (to_node machine.tree path) (λ node. unless node.folder refusal.IsFolder node)) names

  open_says : (path : List (List ℕ)) (said : SessionReply) → open_errand session path ≡ errand.Says said → plan_act machine session (act.Open path) ≡ only_says handles said
  open_says path said is = by (is_keeping_path path) refl
    where
      it : (b : Bool) → is_keeping_path path ≡ b → (if b then refused refusal.Private else errand.Asks session (stage.Opening path)) ≡ errand.Says said
      it b names = sym (ap (λ b. if b then refused refusal.Private else errand.Asks session (stage.Opening path)) names) ∙ is

      by : (b : Bool) → is_keeping_path path ≡ b → plan_act machine session (act.Open path) ≡ only_says handles said
      by true names = ap (plan_open machine session) (private_open path names) ∙ ap (λ e. only_says handles (said_or said e)) (it true names)
      by false names = absurd (cc (it false names))

  read_says : (handle from long : ℕ) (said : SessionReply) (o : Option ℕ) → read_errand handle from long o ≡ errand.Says said → plan_read machine handle from long o ≡ only_says handles said
  read_says handle from long said None is = ap (λ e. only_says handles (said_or said e)) is
  read_says handle from long said (Some id) is = by (nat_lt most_bytes long) is
    where
      by : (b : Bool) → (if b then refused refusal.TooLarge else errand.Reads id from long) ≡ errand.Says said
          → (if b then only_says handles (told.Plain (reply.No refusal.TooLarge)) else only_says handles (told.Plain (reply.Content (take long (drop from (bytes_of (node_at machine.tree id))))))) ≡ only_says handles said
      by true is = ap (λ e. only_says handles (said_or said e)) is
      by false is = absurd (cc is)

  close_says : (handle : ℕ) (said : SessionReply) (o : Option ℕ) → close_errand session handle o ≡ errand.Says said → plan_close machine session handle o ≡ only_says handles said
  close_says handle said None is = ap (λ e. only_says handles (said_or said e)) is
  close_says handle said (Some id) is = absurd (cc is)

  act_says : (what : Act) (said : SessionReply) → act_errand handles session what ≡ errand.Says said → plan_act machine session what ≡ only_says handles said
  act_says (act.Plain asked) said is = plain_says asked said is
  act_says (act.Open path) said is = open_says path said is
  act_says (act.HandleRead handle from long) said is = read_says handle from long said (file_of handles session handle) is
  act_says (act.Close handle) said is = close_says handle said (file_of handles session handle) is
  act_says act.End said is = absurd (cc is)

  -- ---- reading

  -- what is read, where the line reads
  pub record ReadsOpen (id from long : ℕ) (what : Act) : Type 0 where
    pub handle : ℕ
    pub file : file_of handles session handle ≡ Some id
    pub few : nat_lt most_bytes long ≡ false
    pub plan : plan_act machine session what ≡ only_says handles (told.Plain (reply.Content (take long (drop from (bytes_of (node_at machine.tree id))))))

  plain_reads : (asked : Command) (id from long : ℕ) → plain_errand session asked ≡ errand.Reads id from long → ⊥
  plain_reads asked id from long is = by (names_keeping asked) refl
    where
      own : (result : Errand) → OwnErrand session asked result → result ≡ errand.Reads id from long → ⊥
      own _ (lists path same) is = cc is
      own _ (tells path same) is = cc is
      own _ (goes shown) is = cc is

      it : (b : Bool) → names_keeping asked ≡ b → (if b then refused refusal.Private else own_errand session asked) ≡ errand.Reads id from long
      it b names = sym (ap (λ b. if b then refused refusal.Private else own_errand session asked) names) ∙ is

      by : (b : Bool) → names_keeping asked ≡ b → ⊥
      by true names = cc (it true names)
      by false names = own (own_errand session asked) (own_is session asked) (it false names)

  open_reads : (path : List (List ℕ)) (id from long : ℕ) (b : Bool) → (if b then refused refusal.Private else errand.Asks session (stage.Opening path)) ≡ errand.Reads id from long → ⊥
  open_reads path id from long true is = cc is
  open_reads path id from long false is = cc is

  close_reads : (handle id from long : ℕ) (o : Option ℕ) → close_errand session handle o ≡ errand.Reads id from long → ⊥
  close_reads handle id from long None is = cc is
  close_reads handle id from long (Some other) is = cc is

  abbrev reads_which : ℕ → ℕ → ℕ → Errand → ℕ × (ℕ × ℕ)
  reads_which id from long (errand.Reads a b c) = (a, (b, c))
  reads_which id from long _ = (id, (from, long))

  read_reads : (handle at most id from long : ℕ) (o : Option ℕ) → file_of handles session handle ≡ o → read_errand handle at most o ≡ errand.Reads id from long → ReadsOpen id from long (act.HandleRead handle at most)
  read_reads handle at most id from long None none is = absurd (cc is)
  read_reads handle at most id from long (Some other) some is = by (nat_lt most_bytes most) refl
    where
      it : (b : Bool) → nat_lt most_bytes most ≡ b → (if b then refused refusal.TooLarge else errand.Reads other at most) ≡ errand.Reads id from long
      it b large = sym (ap (λ b. if b then refused refusal.TooLarge else errand.Reads other at most) large) ∙ is

      by : (b : Bool) → nat_lt most_bytes most ≡ b → ReadsOpen id from long (act.HandleRead handle at most)
      by true large = absurd (cc (it true large))
      by false large =
          let same = ap (reads_which id from long) (it false large) in
          record {
            handle = handle;
            file = some ∙ ap (λ (p : ℕ × (ℕ × ℕ)). Some p.0) same;
            few = ap (λ (p : ℕ × (ℕ × ℕ)). nat_lt most_bytes p.1.1) (sym same) ∙ large;
            plan = ap (plan_read machine handle at most) some
                ∙ ap (λ b. if b then only_says handles (told.Plain (reply.No refusal.TooLarge)) else only_says handles (told.Plain (reply.Content (take most (drop at (bytes_of (node_at machine.tree other))))))) large
                ∙ ap (λ (p : ℕ × (ℕ × ℕ)). only_says handles (told.Plain (reply.Content (take p.1.1 (drop p.1.0 (bytes_of (node_at machine.tree p.0))))))) same;
          }

  pub act_reads : (what : Act) (id from long : ℕ) → act_errand handles session what ≡ errand.Reads id from long → ReadsOpen id from long what
  act_reads (act.Plain asked) id from long is = absurd (plain_reads asked id from long is)
  act_reads (act.Open path) id from long is = absurd (open_reads path id from long (is_keeping_path path) is)
  act_reads (act.HandleRead handle at most) id from long is = read_reads handle at most id from long (file_of handles session handle) refl is
  act_reads (act.Close handle) id from long is = absurd (close_reads handle id from long (file_of handles session handle) is)
  act_reads act.End id from long is = absurd (cc is)

-- ---- lines

module _ (start : Content) (machine : Machine) (line : List ℕ) (fits : tree_of start ≡ machine.tree) where
  -- it is told this, and nothing is done but looks
  pub only_turned : (run : List Entry) → IsQuiet machine.tree run [] [] machine.tree → (said : SessionReply) (new : List OpenFile) → plan_of machine (asks_of line) ≡ only_says new said → Turned start machine line run said new
  only_turned run quiet said new plan = record {
    turn = record { did = []; says = said; next = record { tree = machine.tree; handles = new } };
    is = record {
      replies = [];
      is = inl (sym (ap (λ (p : Plan). do_ahead machine.handles p p.ahead machine.tree []) plan));
      made = quiet.made;
      tree = quiet.leads start fits;
      between = λ count some. inl (quiet.unseen start fits count some);
    };
    says = refl;
    handles_are = refl;
  }

  -- Memory is missing for what a line is told that only looks: nothing was done for it.
  pub short_line : (run : List Entry) → IsQuiet machine.tree run [] [] machine.tree → Turned start machine line run (told.Plain (reply.No refusal.OutOfMemory)) machine.handles
  short_line run quiet = record { turn = skipped_turn machine refusal.OutOfMemory; is = skips_line start machine line fits run refusal.OutOfMemory refl quiet; says = refl; handles_are = refl }

  pub skipped_line : (run : List Entry) (why : Refusal) → IsSkipped why → IsQuiet machine.tree run [] [] machine.tree → Turned start machine line run (told.Plain (reply.No why)) machine.handles
  skipped_line run why skipped quiet = record { turn = skipped_turn machine why; is = skips_line start machine line fits run why skipped quiet; says = refl; handles_are = refl }

  module _ (result : Errand) (comes : ComesTo machine line result) where
    -- what the line asks for, where its errand is another than to say that memory is missing
    pub asks_for : (IsTrue (is_says result) → ⊥) → result ≡ errand_for machine.handles (asks_of line)
    asks_for not_says = by comes
      where
        by : ComesTo machine line result → result ≡ errand_for machine.handles (asks_of line)
        by (inl same) = same
        by (inr short) = absurd (not_says (ap is_says short))

    -- A line that is told something at once.
    pub says_line : (said : SessionReply) → result ≡ errand.Says said → Turned start machine line [] said machine.handles
    says_line said is = by comes
      where
        by_asks : (asks : Result SessionLine Refusal) → errand_for machine.handles asks ≡ errand.Says said → plan_of machine asks ≡ only_says machine.handles said
        by_asks (Err why) same = ap (λ e. only_says machine.handles (said_or said e)) same
        by_asks (Ok asks) same = act_says machine asks.session asks.act said same

        by : ComesTo machine line result → Turned start machine line [] said machine.handles
        by (inl same) = only_turned [] (quiet_none machine.tree) said machine.handles (by_asks (asks_of line) (sym same ∙ is))
        by (inr short) = subst (λ (s : SessionReply). Turned start machine line [] s machine.handles) (ap (said_or said) (sym short ∙ is)) (short_line [] (quiet_none machine.tree))

    -- A line that reads by a handle.
    pub record ReadsLine (id from long : ℕ) : Type 0 where
      pub session : ℕ
      pub handle : ℕ
      pub file : file_of machine.handles session handle ≡ Some id
      pub turned : Turned start machine line [] (told.Plain (reply.Content (take long (drop from (bytes_of (node_at machine.tree id)))))) machine.handles

    pub reads_line : (id from long : ℕ) → result ≡ errand.Reads id from long → ReadsLine id from long
    reads_line id from long is = by (asks_of line) refl
      where
        same : result ≡ errand_for machine.handles (asks_of line)
        same = asks_for (λ says. true≢false (sym says ∙ ap is_says is))

        by : (asks : Result SessionLine Refusal) → asks_of line ≡ asks → ReadsLine id from long
        by (Err why) asks_is = absurd (cc (sym (ap (errand_for machine.handles) asks_is) ∙ sym same ∙ is))
        by (Ok asks) asks_is =
            let reads = act_reads machine asks.session asks.act id from long (sym (ap (errand_for machine.handles) asks_is) ∙ sym same ∙ is) in
            record {
              session = asks.session;
              handle = reads.handle;
              file = reads.file;
              turned = only_turned [] (quiet_none machine.tree) (told.Plain (reply.Content (take long (drop from (bytes_of (node_at machine.tree id)))))) machine.handles (ap (plan_of machine) asks_is ∙ reads.plan);
            }
