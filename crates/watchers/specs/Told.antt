-- Watchers, and what they are told.
use Rattle.std.specs.Prelude.{◌≡◌, ◌⊎◌, ◌↔◌, IsTrue, Bool, true, false, List, [], ◌∷◌, ◌++◌}
use Rattle.hfs_language.specs.declared.reply.Change.{Change}
use Rattle.watchers.specs.declared.watcher.Keep.{Keep}
use Rattle.watchers.specs.declared.watcher.Keep.TheVariants.{Stay, Leave}

-- One watcher heard a change: where it stays, it knows it behind what it knew; where it leaves, it may have kept it or not.
pub record Hears (change : Change) (old new : List Change) (leaves : Bool) (answer : Keep) : Type 0 where
  pub stays : answer ≡ Stay → new ≡ old ++ change ∷ []
  pub unsure : (new ≡ old ++ change ∷ []) ⊎ (new ≡ old)
  pub goes : (answer ≡ Leave) ↔ IsTrue leaves

-- What came of a list of watchers, from its first to its last: each was told these changes, after what it knew, and stands
-- in its old place among those that stay; or a prefix of them, and then it left.
pub data AreTold {W : Type 0} (told : W → List Change) (leaves : W → Bool) (changes : List Change) : List W → List W → Type 0 where
  nobody : AreTold told leaves changes [] []
  left : {v w : W} {old new : List W} (prefix rest : List Change) → told w ≡ told v ++ prefix → changes ≡ prefix ++ rest → leaves w ≡ true → AreTold told leaves changes old new → AreTold told leaves changes (v ∷ old) new
  stays : {v w : W} {old new : List W} → told w ≡ told v ++ changes → leaves w ≡ false → AreTold told leaves changes old new → AreTold told leaves changes (v ∷ old) (w ∷ new)
