-- The words that the program takes.
use Rattle.std.specs.Prelude.{◌≡◌, ◌≢◌, ◌⊎◌, ◌<◌, ◌^◌, ℕ, List, [], ◌∷◌, map, slice_index, String, string_bytes, codes, decimal}
use Rattle.std.specs.declared.alloc.Global.{Global}
use Rattle.cli_words.specs.declared.named.Work.{Work}
use Rattle.cli_words.specs.declared.named.Work.TheVariants.{Check, Format, Gen, Repair, Run, Sessions, Wrong}

-- the words as lists of bytes
abbrev pub texts : List (String Global) → List (List ℕ)
texts words = map (λ (word : String Global). string_bytes word) words

-- A word may name an image: it isn't empty, doesn't begin with `-`, and isn't `help`.
pub record MayName (word : List ℕ) : Type 0 where
  pub some : word ≢ []
  pub no_option : slice_index word 0 ≢ 45
  pub no_help : word ≢ codes "help"

-- the words are `run IMAGE`
abbrev pub AreRun : List (List ℕ) → Type 0
AreRun words = (image : List ℕ) × MayName image × (words ≡ codes "run" ∷ image ∷ [])

-- the words are `check IMAGE`
abbrev pub AreCheck : List (List ℕ) → Type 0
AreCheck words = (image : List ℕ) × MayName image × (words ≡ codes "check" ∷ image ∷ [])

-- the words are `repair IMAGE`
abbrev pub AreRepair : List (List ℕ) → Type 0
AreRepair words = (image : List ℕ) × MayName image × (words ≡ codes "repair" ∷ image ∷ [])

-- the words are `sessions IMAGE`
abbrev pub AreSessions : List (List ℕ) → Type 0
AreSessions words = (image : List ℕ) × MayName image × (words ≡ codes "sessions" ∷ image ∷ [])

-- the words are `format IMAGE SECTORS`
abbrev pub AreFormat : List (List ℕ) → ℕ → Type 0
AreFormat words sectors = (image : List ℕ) × MayName image × (sectors < 2 ^ 64) × (words ≡ codes "format" ∷ image ∷ decimal sectors ∷ [])

-- the words are `gen SEED COUNT`
abbrev pub AreGen : List (List ℕ) → (seed count : ℕ) → Type 0
AreGen words seed count = (seed < 2 ^ 64) × (count < 2 ^ 64) × (words ≡ codes "gen" ∷ decimal seed ∷ decimal count ∷ [])

-- the words behind `format` ask for this work
abbrev pub IsFormatOf : (image sectors : List ℕ) → Work → Type 0
IsFormatOf image sectors (Format many) = MayName image × (many < 2 ^ 64) × (sectors ≡ decimal many)
IsFormatOf image sectors Wrong = (many : ℕ) → MayName image → many < 2 ^ 64 → sectors ≢ decimal many
IsFormatOf image sectors _ = ⊥

-- the words behind `gen` ask for this work
abbrev pub IsGenOf : (seed count : List ℕ) → Work → Type 0
IsGenOf seed count (Gen n many) = (n < 2 ^ 64) × (many < 2 ^ 64) × (seed ≡ decimal n) × (count ≡ decimal many)
IsGenOf seed count Wrong = (n many : ℕ) → n < 2 ^ 64 → many < 2 ^ 64 → seed ≡ decimal n → count ≢ decimal many
IsGenOf seed count _ = ⊥

-- the words ask for this work
abbrev pub AreWordsOf : List (List ℕ) → Work → Type 0
AreWordsOf words (Format sectors) = AreFormat words sectors
AreWordsOf words Run = AreRun words
AreWordsOf words Check = AreCheck words
AreWordsOf words Repair = AreRepair words
AreWordsOf words Sessions = AreSessions words
AreWordsOf words (Gen seed count) = AreGen words seed count
AreWordsOf words Wrong = ¬ AreRun words × ¬ AreCheck words × ¬ AreRepair words × ¬ AreSessions words × ((sectors : ℕ) → ¬ AreFormat words sectors) × ((seed count : ℕ) → ¬ AreGen words seed count)

-- the words ask for a work, and where they give a number of sectors, it is that of the image
abbrev pub AreInUse : List (List ℕ) → ℕ → Type 0
AreInUse words sectors = AreRun words ⊎ (AreCheck words ⊎ (AreRepair words ⊎ (AreSessions words ⊎ (AreFormat words sectors ⊎ ((seed count : ℕ) × AreGen words seed count)))))
