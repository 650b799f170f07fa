-- Which of several refusals a line gets.
use Rattle.std.specs.Prelude.{◌≡◌, ◌≢◌, ◌↔◌, ◌⊎◌, Result, Err}
use Rattle.hfs_language.specs.declared.refusal.Refusal.{Refusal}
use Rattle.hfs_language.specs.declared.refusal.Refusal.TheVariants.{BadCommand, BadName, NameTooLong}
use Rattle.hfs_language.specs.Language.{both}

-- Of two words that are read, the refusal is BadCommand exactly where one of them breaks the grammar; BadName exactly where
-- none does and one is no name; NameTooLong exactly where each is well-formed and a name, or too long for one.
pub record AreRefusedInOrder {X Y : Type 0} (one : Result X Refusal) (other : Result Y Refusal) : Type 0 where
  pub grammar : (both one other ≡ Err BadCommand) ↔ ((one ≡ Err BadCommand) ⊎ (other ≡ Err BadCommand))
  pub name : (both one other ≡ Err BadName) ↔ ((one ≢ Err BadCommand) × (other ≢ Err BadCommand) × ((one ≡ Err BadName) ⊎ (other ≡ Err BadName)))
  pub long : (both one other ≡ Err NameTooLong) ↔ ((one ≢ Err BadCommand) × (other ≢ Err BadCommand) × (one ≢ Err BadName) × (other ≢ Err BadName) × ((one ≡ Err NameTooLong) ⊎ (other ≡ Err NameTooLong)))
