-- Which rules a check tells of: each that is broken, if those are kept that it rests on.
use Rattle.std.specs.Prelude.{◌≡◌, ◌≢◌, ◌⊎◌, ◌≤◌, ℕ, List, length, Contains}
use Rattle.jnl_format.specs.Recovery.{Content}
use Rattle.fsck_list.specs.declared.finding.Finding.{Finding as Listed}
use Rattle.hfs_volume.specs.Broken.{Finding, IsBroken}
use Rattle.hfs_volume.specs.Content.{volume_of}
use Rattle.fsck_core.specs.Shown.{TellsHeader}

-- A rule that rests on another is judged only where that one is kept. Those from 3 on rest on the other ones of the first seven: of a tree the first
-- that is broken ends its scan, and without trees there are no lists. Those from 9 on rest on 8, those from 11 on on the first ten, 16, 19 and 20 on 17,
-- and 16 on 20.
abbrev pub RestsOn : (rule other : ℕ) → Type 0
RestsOn rule other =
    (other ≢ rule) × (((3 ≤ rule) × (other ≤ 7)) ⊎ (((9 ≤ rule) × (other ≡ 8)) ⊎ (((11 ≤ rule) × (other ≤ 10))
    ⊎ ((((rule ≡ 16) ⊎ ((rule ≡ 19) ⊎ (rule ≡ 20))) × (other ≡ 17)) ⊎ ((rule ≡ 16) × (other ≡ 20))))))

-- a rule can be judged: none on which it rests is broken
abbrev pub CanBeJudged : Content → ℕ → Type 0
CanBeJudged content rule = (finding : Finding) → IsBroken content finding → RestsOn rule finding.rule → ⊥

-- a finding of a rule is listed, or a hundred of that rule and of those before it are
abbrev pub HasRule : List Listed → ℕ → Type 0
HasRule list rule = ((f : Listed) × Contains list f × (f.rule ≡ rule)) ⊎ ((length list ≡ 100) × ((f : Listed) → Contains list f → f.rule ≤ rule))

-- a finding is listed of each rule that is broken and can be judged
abbrev pub EachRule : Content → List Listed → Type 0
EachRule content list = (finding : Finding) → IsBroken content finding → CanBeJudged content finding.rule → HasRule list finding.rule

-- of rules 1 and 2 of a content, where one is broken a finding of it is listed
abbrev pub TellsHeaders : Content → List Listed → Type 0
TellsHeaders content list = TellsHeader (volume_of content).sectors (volume_of content).head (volume_of content).alternate list
