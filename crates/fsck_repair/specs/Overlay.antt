-- A content in which some sectors have other bytes.
use Rattle.std.specs.Prelude.{◌≡◌, Contains, ℕ, ◌==◌, List, [], ◌∷◌, ◌++◌, length, map, if◌then◌else◌}
use Rattle.std.specs.List.{range_with_len}
use Rattle.std.proofs.Common.{◌∙◌}
use Rattle.std.proofs.lemmas.List.FromFn.{length-map-range_with_len}
use Rattle.sector_disk.specs.Lists.{Content, sector}
use Rattle.sector_disk.specs.Space.{Space}
use Rattle.fsck_repair.specs.declared.mend.Change.{Change}

-- the bytes of a sector, which are those of the first change of it where there is one
abbrev pub changed : List Change → ℕ → List ℕ → List ℕ
changed [] at bytes = bytes
changed (change ∷ changes) at bytes = if change.at == at then change.bytes else changed changes at bytes

-- the content with these changes
abbrev pub overlaid : List Change → Content → Content
overlaid changes content = map (λ at. changed changes at (sector content at)) (range_with_len 0 (length content))

-- What is seen through changes, of a view: the same but for the content.
abbrev pub seen_through : List ℕ → List Change → Space → Space
seen_through names changes space = record space { names = names ++ space.names; content = overlaid changes space.content }

pub overlay_size : (names : List ℕ) (changes : List Change) (space : Space) → length space.content ≡ space.sectors → length (seen_through names changes space).content ≡ space.sectors
overlay_size names changes space size = length-map-range_with_len (λ at. changed changes at (sector space.content at)) 0 (length space.content) ∙ size

-- the numbers of the sectors that change
abbrev pub places_of : List Change → List ℕ
places_of changes = map (λ change. change.at) changes

-- a sector is to have these bytes
abbrev pub IsChange : List Change → ℕ → List ℕ → Type 0
IsChange changes at bytes = (change : Change) × Contains changes change × (change.at ≡ at) × (bytes ≡ change.bytes)

-- no sector changes twice
abbrev pub ChangesOnce : List Change → Type 0
ChangesOnce [] = Unit {0}
ChangesOnce (change ∷ changes) = (¬ Contains (places_of changes) change.at) × ChangesOnce changes
