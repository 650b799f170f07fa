-- What is to be done for a line on a link or a resource fork is what the machine of sessions wants.
use Rattle.std.proofs.Common.{◌≡◌, ◌⊎◌, ℕ, Bool, true, false, List, inl, inr, refl, sym, ◌∙◌, ap, subst}
use Rattle.std.specs.Prelude.{nat_lt, Option, Some, None, Result, Ok, Err, if◌then◌else◌}
use Rattle.hfs_language.specs.declared.command.Command.{Command}
use Rattle.hfs_language.specs.declared.command.Command.TheVariants as command
use Rattle.hfs_language.specs.declared.refusal.Refusal.{Refusal}
use Rattle.hfs_language.specs.declared.refusal.Refusal.TheVariants as refusal
use Rattle.hfs_language.specs.declared.reply.Reply.TheVariants as reply
use Rattle.hfs_model.specs.declared.kinds.KindEdit.{KindEdit}
use Rattle.hfs_model.specs.declared.plain.PlainTree.{PlainTree}
use Rattle.hfs_model.specs.Kinds.{path_of_edit}
use Rattle.hfs_model.specs.Step.{most_bytes}
use Rattle.link_kinds.specs.declared.kinds.KindCommand.{KindCommand}
use Rattle.link_kinds.specs.declared.kinds.KindCommand.TheVariants as kind
use Rattle.link_kinds.specs.declared.kinds.KindLine.{KindLine}
use Rattle.link_kinds.specs.Lines.{kind_line_of}
use Rattle.open_files.specs.Handles.{file_of}
use Rattle.open_files.specs.Keeping.{is_keeping_path, names_keeping}
use Rattle.open_files.specs.Lines.{asks_of}
use Rattle.open_files.specs.declared.act.Act.{Act}
use Rattle.open_files.specs.declared.act.Act.TheVariants as act
use Rattle.open_files.specs.declared.act.OpenFile.{OpenFile}
use Rattle.open_files.specs.declared.act.SessionLine.{SessionLine}
use Rattle.open_files.specs.declared.act.SessionReply.{SessionReply}
use Rattle.open_files.specs.declared.act.SessionReply.TheVariants as told
use Rattle.session_lines.specs.declared.errands.Errand.{Errand}
use Rattle.session_lines.specs.declared.errands.Errand.TheVariants as errand
use Rattle.session_lines.specs.declared.errands.Look.{Look}
use Rattle.session_lines.specs.declared.errands.Look.TheVariants as look
use Rattle.session_lines.specs.declared.stages.Stage.TheVariants as stage
use Rattle.session_lines.specs.Errands.{IsErrandOf, IsKindErrandOf, act_errand, close_errand, errand_for, kind_errand, kind_errand_for, open_errand, own_errand, plain_errand, read_errand, refused}
use Rattle.session_lines.specs.KindTurns.{KindPlan, edits, look_says, plan_kind, plan_of_kind, readlink_says, says}

abbrev edit_or : KindEdit → Errand → KindEdit
edit_or other (errand.Edits asked) = asked
edit_or other _ = other

abbrev look_or : Look → Errand → Look
look_or other (errand.Looks what) = what
look_or other _ = other

abbrev said_or : SessionReply → Errand → SessionReply
said_or other (errand.Says said) = said
said_or other _ = other

abbrev command_or : KindCommand → Result KindLine Refusal → KindCommand
command_or other (Ok asks) = asks.command
command_or other (Err why) = other

-- ---- a command that makes a link, or writes or reads a resource fork

pub record IsEdit (tree : PlainTree) (asked : KindEdit) (asks : KindCommand) : Type 0 where
  pub plan : plan_kind tree asks ≡ edits asked
  pub apart : is_keeping_path (path_of_edit asked) ≡ false
  pub is : asks ≡ kind.Edit asked

edit_command : (tree : PlainTree) (asked : KindEdit) (asks : KindCommand) → errand.Edits asked ≡ kind_errand asks → IsEdit tree asked asks
edit_command tree asked (kind.Edit other) is = by (is_keeping_path (path_of_edit other)) refl is
  where
    by : (b : Bool) → is_keeping_path (path_of_edit other) ≡ b → errand.Edits asked ≡ (if b then refused refusal.Private else errand.Edits other) → IsEdit tree asked (kind.Edit other)
    by true there same = absurd (cc same)
    by false there same =
        let one : asked ≡ other = ap (edit_or other) same in record {
          plan = ap (λ b. if b then says (told.Plain (reply.No refusal.Private)) else edits other) there ∙ ap edits (sym one);
          apart = ap (λ (e : KindEdit). is_keeping_path (path_of_edit e)) one ∙ there;
          is = ap kind.Edit (sym one);
        }
edit_command tree asked (kind.Readlink path) is = absurd (by (is_keeping_path path) is)
  where
    by : (b : Bool) → errand.Edits asked ≡ (if b then refused refusal.NotFound else errand.Looks (look.Target path)) → ⊥
    by true same = cc same
    by false same = cc same
edit_command tree asked (kind.Follow path) is = absurd (cc is)

pub record IsEditLine (tree : PlainTree) (asked : KindEdit) (asks : Result KindLine Refusal) : Type 0 where
  pub plan : plan_of_kind tree asks ≡ edits asked
  pub apart : is_keeping_path (path_of_edit asked) ≡ false
  pub session : ℕ
  pub is : asks ≡ Ok (record { session = session; command = kind.Edit asked })

pub edit_planned : (tree : PlainTree) (asked : KindEdit) (asks : Result KindLine Refusal) → errand.Edits asked ≡ kind_errand_for asks → IsEditLine tree asked asks
edit_planned tree asked (Err why) is = absurd (cc is)
edit_planned tree asked (Ok asks) is =
    let it = edit_command tree asked asks.command is in
    record { plan = it.plan; apart = it.apart; session = asks.session; is = ap (λ (c : KindCommand). Ok (record { session = asks.session; command = c })) it.is }

-- ---- looks

look_command : (tree : PlainTree) (what : Look) (asks : KindCommand) → errand.Looks what ≡ kind_errand asks → plan_kind tree asks ≡ says (look_says tree what)
look_command tree what (kind.Edit asked) is = absurd (by (is_keeping_path (path_of_edit asked)) is)
  where
    by : (b : Bool) → errand.Looks what ≡ (if b then refused refusal.Private else errand.Edits asked) → ⊥
    by true same = cc same
    by false same = cc same
look_command tree what (kind.Readlink path) is = by (is_keeping_path path) refl is
  where
    by : (b : Bool) → is_keeping_path path ≡ b → errand.Looks what ≡ (if b then refused refusal.NotFound else errand.Looks (look.Target path)) → says (readlink_says tree path) ≡ says (look_says tree what)
    by true there same = absurd (cc same)
    by false there same =
        ap (λ b. says (if b then told.Plain (reply.No refusal.NotFound) else look_says tree (look.Target path))) there ∙ ap (λ (l : Look). says (look_says tree l)) (sym (ap (look_or what) same))
look_command tree what (kind.Follow path) is = ap (λ (l : Look). says (look_says tree l)) (sym (ap (look_or what) is))

pub look_planned : (tree : PlainTree) (what : Look) (asks : Result KindLine Refusal) → errand.Looks what ≡ kind_errand_for asks → plan_of_kind tree asks ≡ says (look_says tree what)
look_planned tree what (Err why) is = absurd (cc is)
look_planned tree what (Ok asks) is = look_command tree what asks.command is

-- ---- what is told at once

said_command : (tree : PlainTree) (said : SessionReply) (asks : KindCommand) → errand.Says said ≡ kind_errand asks → plan_kind tree asks ≡ says said
said_command tree said (kind.Edit asked) is = by (is_keeping_path (path_of_edit asked)) refl is
  where
    by : (b : Bool) → is_keeping_path (path_of_edit asked) ≡ b → errand.Says said ≡ (if b then refused refusal.Private else errand.Edits asked) → plan_kind tree (kind.Edit asked) ≡ says said
    by true there same = ap (λ b. if b then says (told.Plain (reply.No refusal.Private)) else edits asked) there ∙ ap says (sym (ap (said_or said) same))
    by false there same = absurd (cc same)
said_command tree said (kind.Readlink path) is = by (is_keeping_path path) refl is
  where
    by : (b : Bool) → is_keeping_path path ≡ b → errand.Says said ≡ (if b then refused refusal.NotFound else errand.Looks (look.Target path)) → says (readlink_says tree path) ≡ says said
    by true there same = ap (λ b. says (if b then told.Plain (reply.No refusal.NotFound) else look_says tree (look.Target path))) there ∙ ap says (sym (ap (said_or said) same))
    by false there same = absurd (cc same)
said_command tree said (kind.Follow path) is = absurd (cc is)

pub said_planned : (tree : PlainTree) (said : SessionReply) (asks : Result KindLine Refusal) → errand.Says said ≡ kind_errand_for asks → plan_of_kind tree asks ≡ says said
said_planned tree said (Err why) is = ap says (sym (ap (said_or said) is))
said_planned tree said (Ok asks) is = said_command tree said asks.command is

-- ---- nothing else is done for such a line

abbrev pub IsOfKind : Errand → Type 0
IsOfKind (errand.Says said) = Unit {0}
IsOfKind (errand.Asks session stage) = ⊥
IsOfKind (errand.Does asked stage) = ⊥
IsOfKind (errand.Reads id from long) = ⊥
IsOfKind (errand.Closes session handle) = ⊥
IsOfKind (errand.Ends session) = ⊥
IsOfKind (errand.Edits asked) = Unit {0}
IsOfKind (errand.Looks what) = Unit {0}

of_command : (asks : KindCommand) → IsOfKind (kind_errand asks)
of_command (kind.Edit asked) = by (is_keeping_path (path_of_edit asked))
  where
    by : (b : Bool) → IsOfKind (if b then refused refusal.Private else errand.Edits asked)
    by true = tt
    by false = tt
of_command (kind.Readlink path) = by (is_keeping_path path)
  where
    by : (b : Bool) → IsOfKind (if b then refused refusal.NotFound else errand.Looks (look.Target path))
    by true = tt
    by false = tt
of_command (kind.Follow path) = tt

pub of_kind : (asks : Result KindLine Refusal) → IsOfKind (kind_errand_for asks)
of_kind (Ok asks) = of_command asks.command
of_kind (Err why) = tt

-- ---- and nothing of theirs for a line of sessions

abbrev pub IsOfSession : Errand → Type 0
IsOfSession (errand.Says said) = Unit {0}
IsOfSession (errand.Asks session stage) = Unit {0}
IsOfSession (errand.Does asked stage) = Unit {0}
IsOfSession (errand.Reads id from long) = Unit {0}
IsOfSession (errand.Closes session handle) = Unit {0}
IsOfSession (errand.Ends session) = Unit {0}
IsOfSession (errand.Edits asked) = ⊥
IsOfSession (errand.Looks what) = ⊥

of_own : (session : ℕ) (asked : Command) → IsOfSession (own_errand session asked)
of_own session (command.Mkdir path) = tt
of_own session (command.Create path) = tt
of_own session (command.Rm path) = tt
of_own session (command.Rmdir path) = tt
of_own session (command.Mv from to) = tt
of_own session (command.Ln from to) = tt
of_own session (command.Write path from value) = tt
of_own session (command.Read path from long) = tt
of_own session (command.Trunc path size) = tt
of_own session (command.Ls path) = tt
of_own session (command.Stat path) = tt
of_own session (command.Chmod path mode) = tt
of_own session (command.SetAttr path name value) = tt
of_own session (command.GetAttr path name) = tt
of_own session (command.DelAttr path name) = tt
of_own session (command.LsAttr path) = tt
of_own session (command.At moment) = tt
of_own session command.Df = tt
of_own session command.Sync = tt

of_plain : (session : ℕ) (asked : Command) → IsOfSession (plain_errand session asked)
of_plain session asked = by (names_keeping asked)
  where
    by : (b : Bool) → IsOfSession (if b then refused refusal.Private else own_errand session asked)
    by true = tt
    by false = of_own session asked

of_open : (session : ℕ) (path : List (List ℕ)) → IsOfSession (open_errand session path)
of_open session path = by (is_keeping_path path)
  where
    by : (b : Bool) → IsOfSession (if b then refused refusal.Private else errand.Asks session (stage.Opening path))
    by true = tt
    by false = tt

of_read : (handle from long : ℕ) (file : Option ℕ) → IsOfSession (read_errand handle from long file)
of_read handle from long None = tt
of_read handle from long (Some id) = by (nat_lt most_bytes long)
  where
    by : (b : Bool) → IsOfSession (if b then refused refusal.TooLarge else errand.Reads id from long)
    by true = tt
    by false = tt

of_close : (session handle : ℕ) (file : Option ℕ) → IsOfSession (close_errand session handle file)
of_close session handle None = tt
of_close session handle (Some id) = tt

of_act : (handles : List OpenFile) (session : ℕ) (what : Act) → IsOfSession (act_errand handles session what)
of_act handles session (act.Plain asked) = of_plain session asked
of_act handles session (act.Open path) = of_open session path
of_act handles session (act.HandleRead handle from long) = of_read handle from long (file_of handles session handle)
of_act handles session (act.Close handle) = of_close session handle (file_of handles session handle)
of_act handles session act.End = tt

of_session : (handles : List OpenFile) (asks : Result SessionLine Refusal) → IsOfSession (errand_for handles asks)
of_session handles (Ok asks) = of_act handles asks.session asks.act
of_session handles (Err why) = tt

-- ---- by what is to be done

pub as_session : (handles : List OpenFile) (line : List ℕ) (done to : Errand) → done ≡ to → (IsOfKind to → ⊥) → IsErrandOf handles line done ⊎ IsKindErrandOf line done → IsErrandOf handles line to
as_session handles line done to is never (inl it) = subst (IsErrandOf handles line) is it
as_session handles line done to is never (inr it) = absurd (never (subst IsOfKind is (by it.1)))
  where
    by : (done ≡ kind_errand_for (kind_line_of line)) ⊎ (done ≡ refused refusal.OutOfMemory) → IsOfKind done
    by (inl same) = subst IsOfKind (sym same) (of_kind (kind_line_of line))
    by (inr short) = subst IsOfKind (sym short) tt

pub as_kind : (handles : List OpenFile) (line : List ℕ) (done to : Errand) → done ≡ to → (IsOfSession to → ⊥) → IsErrandOf handles line done ⊎ IsKindErrandOf line done → IsKindErrandOf line to
as_kind handles line done to is never (inr it) = subst (IsKindErrandOf line) is it
as_kind handles line done to is never (inl it) = absurd (never (subst IsOfSession is (by it.1)))
  where
    by : (done ≡ errand_for handles (asks_of line)) ⊎ (done ≡ refused refusal.OutOfMemory) → IsOfSession done
    by (inl same) = subst IsOfSession (sym same) (of_session handles (asks_of line))
    by (inr short) = subst IsOfSession (sym short) tt

-- of both kinds of lines the same may be told
pub as_either : (handles : List OpenFile) (line : List ℕ) (done to : Errand) → done ≡ to → IsErrandOf handles line done ⊎ IsKindErrandOf line done → IsErrandOf handles line to ⊎ IsKindErrandOf line to
as_either handles line done to is comes = subst (λ (e : Errand). IsErrandOf handles line e ⊎ IsKindErrandOf line e) is comes
