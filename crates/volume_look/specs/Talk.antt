-- Commands that are asked of a look, and the replies that are heard.
use Rattle.std.specs.Prelude.{◌≡◌, ◌&&◌, ◌==◌, ◌++◌, ◌∷◌, [], nat_le, ℕ, Bool, true, false, not, List, map, length, Option, is_some, option_to_list, Result, Ok, Err, if◌then◌else◌}
use Rattle.std.specs.List.{AllByRecursion, list_all}
use Rattle.jnl_format.specs.Recovery.{Content}
use Rattle.hfs_language.specs.declared.command.Command.{Command}
use Rattle.hfs_language.specs.declared.command.Command.TheVariants as command
use Rattle.hfs_language.specs.declared.refusal.Refusal.{Refusal}
use Rattle.hfs_language.specs.declared.refusal.Refusal.TheVariants as refusal
use Rattle.hfs_language.specs.declared.reply.Reply.{Reply}
use Rattle.volume_runs.specs.Run.{reply_to}

-- ---- commands

-- a name has a unit, and at most so many
abbrev pub is_name : ℕ → List ℕ → Bool
is_name most name = not (length name == 0) && nat_le (length name) most

-- each name of a path has 1 to 255 units
abbrev pub are_names : List (List ℕ) → Bool
are_names path = list_all (is_name 255) path

-- a look answers a command: it only reads, and each of its names has a unit and not too many
abbrev pub allows : Command → Bool
allows (command.Read path from long) = are_names path
allows (command.Ls path) = are_names path
allows (command.Stat path) = are_names path
allows (command.LsAttr path) = are_names path
allows (command.GetAttr path name) = are_names path && is_name 127 name
allows command.Df = true
allows command.Sync = true
allows _ = false

-- what a look takes a command for: the command, or a refusal
abbrev pub taken : Command → Result Command Refusal
taken asked = if allows asked then Ok asked else Err refusal.BadCommand

-- ---- talks

-- A command, and the reply to it.
pub record Heard : Type 0 where
  pub command : Command
  pub reply : Reply

-- What is seen of somebody who asks.
pub record Talk : Type 0 where
  -- whether it tells the rest
  pub tells : Bool
  pub asked : List Command
  pub heard : List Heard
  -- it had no command left to ask
  pub ended : Bool

-- A command was asked, or there was none left.
pub record Asks (old new : Talk) (found : Option Command) : Type 0 where
  pub asked : new.asked ≡ old.asked ++ option_to_list found
  pub ended : new.ended ≡ not (is_some found)

-- A reply was heard.
pub record Hears (old : Talk) (it : Command) (said : Reply) (new : Talk) : Type 0 where
  pub heard : new.heard ≡ old.heard ++ record { command = it; reply = said } ∷ []
  pub asked : new.asked ≡ old.asked

-- the reply is that of the plain tree's step on the tree that the content tells, or the volume's gauge, or the refusal
abbrev pub IsRight : ℕ → Content → Heard → Type 0
IsRight capacity content it = it.reply ≡ reply_to capacity content (taken it.command)

-- Replies were heard, each the right one of its command.
pub record HearsRight (capacity : ℕ) (content : Content) (old new : Talk) : Type 0 where
  pub list : List Heard
  pub heard : new.heard ≡ old.heard ++ list
  pub right : AllByRecursion (IsRight capacity content) list

-- Each command that was asked has its reply heard, in order.
pub record HearsEach (old new : Talk) : Type 0 where
  pub list : List Heard
  pub heard : new.heard ≡ old.heard ++ list
  pub asked : new.asked ≡ old.asked ++ map (λ it. it.command) list

-- Each command that was asked has its reply heard, and there was none left to ask.
pub record Ends (old new : Talk) : Type 0 where
  pub each : HearsEach old new
  pub ended : new.ended ≡ true
