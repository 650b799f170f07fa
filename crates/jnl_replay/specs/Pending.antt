-- The homes that a walk over a journal's text has still to give.
use Rattle.std.specs.Prelude.{◌≡◌, ◌≤◌, ◌+◌, ◌*◌, ◌-◌, ℕ, Bool, List, [], ◌∷◌, ◌++◌, length, true, Option, None, MatchOption, MatchBool}
use Rattle.jnl_format.specs.Text.{are_blocks, block_bytes, bad_list_as, sector_homes, entry_homes, text_homes}
use Rattle.jnl_format.specs.declared.dialect.Dialect.TheVariants.{Wide}
use Rattle.jnl_format.specs.declared.blocks.Home.{Home}
use Rattle.jnl_format.specs.declared.blocks.Volume.{Volume}
use Rattle.jnl_format.specs.Named.{IsGoodHome, Each}
use Rattle.jnl_replay.specs.declared.homes.Homes.{Homes}

-- all places lie in the text
pub record IsCursor (c : Homes) : Type 0 where
  pub list : c.list ≤ c.text.length
  pub entry : c.entry ≤ c.text.length
  pub body : c.body ≤ c.text.length
  pub here : c.place + 512 * c.count ≤ c.text.length

-- how many lists and entries there may be at most
abbrev pub work_left : Homes → ℕ
work_left c = (c.text.length - c.list) * 65536 + c.entries

-- these homes are still to come, from a text whose lists are as they must be
pub record Pending (volume : Volume) (bytes : List ℕ) (c : Homes) (homes : List Home) : Type 0 where
  pub sectors : c.sectors ≡ volume.sectors
  pub lists : ℕ
  pub enough : length bytes ≤ c.list + lists
  pub good : bad_list_as Wide volume c.text.order c.text.blhdr bytes lists c.list ≡ None
  pub blocks : are_blocks volume c.text.order bytes c.entry c.body c.entries ≡ true
  pub bodies : c.body + block_bytes c.text.order bytes c.entry c.entries ≡ c.list
  pub inside : c.list ≤ length bytes
  pub heads : c.entry + 16 * c.entries ≤ length bytes
  pub here : c.place + 512 * c.count ≤ c.body
  pub behind : c.reached ≤ c.place
  pub all : Each (IsGoodHome volume bytes) homes
  pub homes_are : homes ≡ sector_homes c.sector c.place c.count
      ++ (entry_homes c.text.order bytes c.entry c.body c.entries ++ text_homes c.text.order c.text.blhdr bytes lists c.list)

-- either the same homes are still to come, or there was none
abbrev pub GoesOn : List ℕ → Homes → Homes → Bool → Type 0
GoesOn bytes old new more = (volume : Volume) (homes : List Home) → Pending volume bytes old homes → MatchBool more (Pending volume bytes new homes) (homes ≡ [])

-- the first of the homes that were still to come, or none where there was none
abbrev pub Gives : List ℕ → Homes → Homes → Option Home → Type 0
Gives bytes old new given =
    (volume : Volume) (homes : List Home) → Pending volume bytes old homes → MatchOption given (homes ≡ []) (λ home. (rest : List Home) × (homes ≡ home ∷ rest) × Pending volume bytes new rest)
