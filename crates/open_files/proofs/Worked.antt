-- What sessions are told on the tree of a freshly formatted volume, computed.
use Rattle.std.specs.Prelude.{◌≡◌, refl, ℕ, List, [], ◌∷◌, ◌++◌, map, codes, Ok, Option, Some, None}
use Rattle.std.specs.Fmt.{digits}
use Rattle.hfs_language.specs.declared.command.Command.{Command}
use Rattle.hfs_language.specs.declared.command.Command.TheVariants as command
use Rattle.hfs_language.specs.declared.reply.Reply.{Reply}
use Rattle.hfs_language.specs.declared.reply.Reply.TheVariants as reply
use Rattle.hfs_model.specs.declared.plain.PlainTree.{PlainTree}
use Rattle.hfs_model.specs.Plain.{fresh_tree}
use Rattle.hfs_model.specs.Step.{step_line}
use Rattle.open_files.specs.declared.act.Act.{Act}
use Rattle.open_files.specs.declared.act.Act.TheVariants as act
use Rattle.open_files.specs.declared.act.SessionReply.{SessionReply}
use Rattle.open_files.specs.declared.act.SessionReply.TheVariants as told
use Rattle.open_files.specs.Handles.{first_free}
use Rattle.open_files.specs.Keeping.{seen, keepers}
use Rattle.open_files.specs.declared.act.SessionLine.{SessionLine}
use Rattle.open_files.specs.Machine.{Machine, Plan, Turn, plan_of, turn_of}

-- the replies to commands, one after the other, on a volume that has room for all
abbrev replies_to : PlainTree → List Command → List Reply
replies_to tree [] = []
replies_to tree (asked ∷ rest) = (step_line tree (Ok asked)).0 ∷ replies_to (step_line tree (Ok asked)).1 rest

abbrev own_of : Option Command → List Command
own_of None = []
own_of (Some asked) = asked ∷ []

abbrev commands_of : Plan → List Command
commands_of plan = plan.ahead ++ own_of plan.own ++ plan.behind

-- what came of a line
abbrev turn : Machine → SessionLine → Turn
turn machine asks = turn_of machine (Ok asks) (replies_to machine.tree (commands_of (plan_of machine (Ok asks))))

-- what lines are told, one after the other
abbrev says_all : Machine → List SessionLine → List SessionReply
says_all machine [] = []
says_all machine (asks ∷ rest) = (turn machine asks).says ∷ says_all (turn machine asks).next rest

abbrev after_all : Machine → List SessionLine → Machine
after_all machine [] = machine
after_all machine (asks ∷ rest) = after_all (turn machine asks).next rest

abbrev fresh : Machine
fresh = record { tree = fresh_tree; handles = [] }

abbrev f : List (List ℕ)
f = codes "f" ∷ []

abbrev asks : ℕ → Act → SessionLine
asks session what = record { session = session; act = what }

-- a file is made, opened by another session, and loses its name
abbrev lost : List SessionLine
lost = asks 1 (act.Plain (command.Create f)) ∷ asks 1 (act.Plain (command.Write f 0 (codes "hi"))) ∷ asks 2 (act.Open f) ∷ asks 1 (act.Plain (command.Rm f)) ∷ []

-- it is read, and closed
abbrev read_on : List SessionLine
read_on = asks 1 (act.Plain (command.Ls [])) ∷ asks 2 (act.HandleRead 1 0 9) ∷ asks 2 (act.Close 1) ∷ asks 2 (act.HandleRead 1 0 9) ∷ asks 1 (act.Plain command.Sync) ∷ []

abbrev lost_machine : Machine
lost_machine = after_all fresh lost

it_loses_its_name : says_all fresh lost ≡ told.Plain reply.Ok ∷ told.Plain reply.Ok ∷ told.Opened 1 ∷ told.Plain reply.Ok ∷ []
unfolding first_free
it_loses_its_name = refl

it_is_read_until_it_is_closed : says_all lost_machine read_on
    ≡ told.Plain (reply.Listing []) ∷ told.Plain (reply.Content (codes "hi")) ∷ told.Plain reply.Ok ∷ told.NoHandle 1 ∷ told.Plain reply.Ok ∷ []
unfolding digits first_free
it_is_read_until_it_is_closed = refl

-- while it is open it is kept, and nobody sees it; then it is gone
it_is_kept : map (λ entry. entry.id) (keepers lost_machine.tree) ≡ 18 ∷ []
unfolding first_free
it_is_kept = refl

nobody_sees_it : (seen lost_machine.tree).entries ≡ []
unfolding first_free
nobody_sees_it = refl

it_is_gone : map (λ entry. entry.id) (keepers (after_all lost_machine read_on).tree) ≡ []
unfolding digits first_free
it_is_gone = refl
