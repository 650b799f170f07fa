-- `ln`: the name that a file has, the place of the new one, and what a link does to a volume.
use Rattle.std.specs.Prelude.{ℕ, Option, Some, None, if◌then◌else◌}
use Rattle.cat_records.specs.declared.record.CatRecord.TheVariants.{Folder, File}
use Rattle.volume_base.specs.declared.nodes.Node.{Node}
use Rattle.volume_base.specs.declared.nodes.Node.TheVariants as node
use Rattle.volume_base.specs.declared.weighing.Edits.{Edits}
use Rattle.volume_base.specs.declared.weighing.Weight.{Weight}

-- ---- the weight
-- the edits by which a file gets another link
abbrev pub more_edits : Edits
more_edits = record { ids = 1; catalog = 2; attributes = 0; updates = 4 }

-- the edits by which a file gets its first link; where there is no private folder, it is made before
abbrev pub first_edits : Option ℕ → Edits
first_edits None = record { ids = 3; catalog = 9; attributes = 0; updates = 4 }
first_edits (Some private) = record { ids = 2; catalog = 7; attributes = 0; updates = 4 }

-- what is told of the weight of `ln` that its step doesn't refuse, by what the first path stands for; of a folder it refuses each
abbrev pub link_weighed : Node → (Edits → Weight) → Option ℕ → Option Weight
link_weighed (node.Folder folder) weighs private = None
link_weighed (node.File file linked) weighs private = Some (if linked then weighs more_edits else weighs (first_edits private))
