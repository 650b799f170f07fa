-- A walk along a path, which asks what stands under names.
use Rattle.std.specs.Prelude.{◌≡◌, ℕ, ◌+◌, ◌*◌, suc, List, length, Result, Ok, Err}
use Rattle.link_kinds.specs.declared.kinds.Ask.{Ask}
use Rattle.link_kinds.specs.declared.kinds.Ask.TheVariants as ask
use Rattle.link_kinds.specs.declared.kinds.Folder.{Folder}
use Rattle.link_kinds.specs.declared.kinds.KindRefusal.{KindRefusal}
use Rattle.hfs_model.specs.declared.kinds.Sight.{Sight}
use Rattle.link_kinds.specs.declared.walk.Next.{Next}
use Rattle.link_kinds.specs.declared.walk.Next.TheVariants as asked
use Rattle.link_kinds.specs.Resolves.{by_sight, go_on, here, reach}

-- Where a walk leads that has come so far: what stands under a name is looked at next, or it is at its end.
abbrev pub leads : (ℕ → List ℕ → Sight) → ℕ → List Folder → List (List ℕ) → Next → Result (List (List ℕ)) KindRefusal
leads look more way left (asked.Look name) = go_on look more (by_sight (look (here way) name) way name left (λ further. reach look further left))
leads look more way left (asked.Done path) = Ok path
leads look more way left (asked.No why) = Err why

-- A walk that is under way: how many links it may still follow, its way with the last folder first, the components that are left, and what it does next.
pub record Walking : Type 0 where
  pub more : ℕ
  pub way : List Folder
  pub left : List (List ℕ)
  pub next : Next

-- Where a walk leads.
abbrev pub leads_to : (ℕ → List ℕ → Sight) → Walking → Result (List (List ℕ)) KindRefusal
leads_to look walking = leads look walking.more walking.way walking.left walking.next

-- What a walk asks: what stands under a name in the folder that it has come to; or it tells its end.
abbrev pub Asks : Walking → Ask → Type 0
Asks walking (ask.Look parent name) = (walking.next ≡ asked.Look name.now) × (parent ≡ here walking.way)
Asks walking (ask.Done path) = walking.next ≡ asked.Done path.now
Asks walking (ask.No why) = walking.next ≡ asked.No why

-- what stands under the name that a walk asks for is this
abbrev pub Sees : (ℕ → List ℕ → Sight) → Walking → Sight → Type 0
Sees look walking found = (name : List ℕ) → walking.next ≡ asked.Look name → look (here walking.way) name ≡ found

-- ---- how long it goes on

-- The most names that are still asked for: this one, those that are left, and 1,024 for each link that may still be followed.
abbrev pub asks_by : ℕ → ℕ → Next → ℕ
asks_by more left (asked.Look name) = suc (more * 1024 + left)
asks_by more left (asked.Done path) = 0
asks_by more left (asked.No why) = 0

abbrev pub asks_left : Walking → ℕ
asks_left walking = asks_by walking.more (length walking.left) walking.next
