-- How many replies the bytes told hold whole.
use Rattle.std.specs.Prelude.{◌≡◌, ◌↔◌, ◌≤◌, ◌+◌, ◌==◌, ℕ, List, [], ◌∷◌, ◌++◌, length, take, All, if◌then◌else◌}
use Rattle.std.specs.List.{flat_map}
use Rattle.hfs_language.specs.declared.reply.Reply.{Reply}
use Rattle.hfs_language.specs.Shown.{HasNames}
use Rattle.hfs_language.specs.Text.{reply_text}

-- how many newlines the bytes have
abbrev pub newlines : List ℕ → ℕ
newlines [] = 0
newlines (byte ∷ bytes) = (if byte == 10 then 1 else 0) + newlines bytes

-- the bytes begin with the texts of so many of the replies
abbrev pub HoldsFirst : ℕ → List Reply → List ℕ → Type 0
HoldsFirst count replies told = (rest : List ℕ) × (told ≡ flat_map reply_text (take count replies) ++ rest)

-- Of bytes that begin the texts of these replies, as many replies are told whole as they have newlines.
abbrev pub CountsAnswered : List Reply → List ℕ → Type 0
CountsAnswered replies told =
    All HasNames replies → (rest : List ℕ) → told ++ rest ≡ flat_map reply_text replies → (count : ℕ) → count ≤ length replies → HoldsFirst count replies told ↔ (count ≤ newlines told)
